-- What is begun or finished of one block takes nothing from another block's safe prefix.
use Rattle.std.proofs.Common.{◌≡◌, ℕ, zero, suc, ◌≤◌, Bool, true, false, cond, not, ◌&&◌, List, [], ◌∷◌, ◌++◌, take, drop, Option, Some, None, refl, sym, ◌∙◌, ap, inl, inr, arith, subst, eqb}
use Rattle.std.specs.Prelude.{Contains, ◌==◌, is_some, option_map, option_to_list, slice_get, Ok, ◌≢◌}
use Rattle.std.specs.List.{list_all, list_any, last_or}
use Rattle.std.proofs.lemmas.Bool.{cond_both, and_from, and_parts, or_cases, or_left, or_right, not-true, false_from_ne_true, false≢true, ne_eqb, cond-false}
use Rattle.std.proofs.lemmas.Option.{none-some}
use Rattle.std.proofs.lemmas.List.Elements.{Contains-append_left, Contains-append_right}
use Rattle.xn_model.specs.Lists.{has_number, blocks_of, types_of_pairs}
use Rattle.xn_model.specs.Root.{has_type}
use Rattle.xn_model.specs.Types.{Types}
use Rattle.xn_model.specs.Images.{block_of}
use Rattle.xn_model.specs.Lives.{BlockState, Life, Lives, StoreState, life_at, alive_and, has_entry, is_pending, no_states, has_durable, is_all_durable, is_after_met, is_type_met, root_on_disk, durable_bytes, bytes_of, states, Fresh, Dropped, safe, safe_count, prefix, prefix_of, durable_after, settle, settled_at, begun_at, freed, drops_of, carried, first_states}
use Rattle.xn_model.specs.Results.{NotSynced}
use Rattle.xn_model.specs.Calls.{begun_of, begun_place, settled_of, settled_place, settled_after, settled_with, first_pending}
use Rattle.xn_model.specs.Worlds.{World, types_now, Event, Client, Install, Crash, Begin, Land, Fail, Sync, FailSync, Finish, Reply, Refused, Begun, Landed, Synced, Fault, Finished, act, act_up, Down, is_crash, read_back, write, settle_bytes, given_at}
use Rattle.xn_model.specs.Waves.{IsStepOf}
use Rattle.xn_model.specs.Rules.{Holds, IsConsistent, IsRootLife, IsDroppedBy, IsAtRest, PointersStay}
use Rattle.xn_model.proofs.Lists.{Contains-head, Contains-tail, Contains-none, Contains-drop, Contains-take, all_at, any_at, any_from, blocks_of_at, has_number_at}
use Rattle.xn_model.proofs.Lives.{of_life, freed_at, length_change}
use Rattle.xn_model.proofs.Catalogue.{has_keeps, pointers_last, pointers_taken, on_disk_is}
use Rattle.xn_model.proofs.Tests.{map_ok}
use Rattle.xn_model.proofs.Least.{all_from, list_life}
use Rattle.xn_model.proofs.Ends.{Settles, settles_place, drops_at, dropped_once, by_dropped}
use Rattle.xn_model.proofs.Lands.{told_keeps, on_ticket_keeps}
use Rattle.xn_model.proofs.WaveSteps.{change_cond}
use Rattle.xn_model.proofs.WavePhases.{prefixes_same, unbegun, begin_life, begun_erased}

-- The types that block 0's first states leave on the disk

pub last_none : (o : Option BlockState) (xs : List BlockState) (s : BlockState) → Contains (option_to_list o ++ xs) s → last_or o xs ≡ None → ⊥
last_none None [] s i e = Contains-none s i
last_none (Some d) [] s i e = none-some d (sym e)
last_none o (x ∷ xs) s i e = last_none (Some x) xs x (Contains-head x xs) e

-- a type of one of them is a type of the last
pub settle_types : (k : ℕ) (l : Life) (s : BlockState) (u : ℕ) → PointersStay (states l) → Contains (option_to_list l.durable ++ take k l.pending) s → has_type s.bytes u ≡ true →
    has_type (bytes_of (last_or l.durable (take k l.pending))) u ≡ true
settle_types k l s u h i has = go (last_or l.durable (take k l.pending)) refl
  where
    go : (o : Option BlockState) → last_or l.durable (take k l.pending) ≡ o → has_type (bytes_of o) u ≡ true
    go None e = absurd (last_none l.durable (take k l.pending) s i e)
    go (Some r) e = has_keeps s.bytes r.bytes u (pointers_last l.durable (take k l.pending) r (pointers_taken l.durable k l.pending h) e s i) has

pub bytes_kept : (o : Option BlockState) → bytes_of (durable_after o) ≡ bytes_of o
bytes_kept None = refl
bytes_kept (Some s) = refl

-- Lives in which one block's write has settled

module _ (T : Types) (state : StoreState) (h : IsConsistent T state) (c k : ℕ) (drops : List ℕ) (L : Lives)
    (at : (x : ℕ) → life_at L x ≡ cond (has_number drops x) None (cond (c == x) (option_map (settle k) (life_at state.lives x)) (life_at state.lives x)))
    (gone : (x : ℕ) → Contains drops x → IsDroppedBy state.lives c x) (rests : (x : ℕ) → Contains drops x → IsAtRest state.lives x) where
  abbrev lives : Lives
  lives = state.lives

  abbrev at_once : Life → Bool
  at_once m = is_some m.durable && no_states m.pending

  abbrev one : ℕ → Option Life → Option Life
  one x o = cond (c == x) (option_map (settle k) o) o

  stays : (x : ℕ) → has_number drops x ≡ false → life_at L x ≡ one x (life_at lives x)
  stays x f = at x ∙ cond-false (has_number drops x) None (one x (life_at lives x)) f

  durable_last : (o : Option BlockState) (xs : List BlockState) → is_some o ≡ true → is_some (last_or o xs) ≡ true
  durable_last o [] e = e
  durable_last o (x ∷ xs) e = durable_last (Some x) xs refl

  durable_known : (o : Option BlockState) → is_some o ≡ true → is_some (durable_after o) ≡ true
  durable_known None e = absurd (false≢true e)
  durable_known (Some s) e = refl

  -- what has a durable state keeps one, and what is all durable stays so
  durable_stays : (t : Bool) (o : Option Life) → alive_and (λ m. is_some m.durable) o ≡ true → alive_and (λ m. is_some m.durable) (cond t (option_map (settle k) o) o) ≡ true
  durable_stays t None e = absurd (false≢true e)
  durable_stays true (Some m) e = durable_known (last_or m.durable (take k m.pending)) (durable_last m.durable (take k m.pending) e)
  durable_stays false (Some m) e = e

  none_dropped : (k : ℕ) (xs : List BlockState) → no_states xs ≡ true → no_states (drop k xs) ≡ true
  none_dropped zero xs e = e
  none_dropped (suc k) [] e = e
  none_dropped (suc k) (x ∷ xs) e = absurd (false≢true e)

  all_stays : (t : Bool) (o : Option Life) → alive_and at_once o ≡ true → alive_and at_once (cond t (option_map (settle k) o) o) ≡ true
  all_stays t None e = absurd (false≢true e)
  all_stays true (Some m) e =
      let p = and_parts (is_some m.durable) (no_states m.pending) e in
      and_from (is_some (durable_after (last_or m.durable (take k m.pending)))) (no_states (drop k m.pending))
      (durable_known (last_or m.durable (take k m.pending)) (durable_last m.durable (take k m.pending) p.0)) (none_dropped k m.pending p.1)
  all_stays false (Some m) e = e

  -- nothing more is pending
  fewer_at : (x n : ℕ) → alive_and (λ m. has_entry m.pending n) (life_at L x) ≡ true → alive_and (λ m. has_entry m.pending n) (life_at lives x) ≡ true
  fewer_at x n e = go (has_number drops x) (c == x) (life_at lives x) (ap (alive_and (λ m. has_entry m.pending n)) (sym (at x)) ∙ e)
    where
      go : (d t : Bool) (o : Option Life) → alive_and (λ m. has_entry m.pending n) (cond d None (cond t (option_map (settle k) o) o)) ≡ true → alive_and (λ m. has_entry m.pending n) o ≡ true
      go true t o e = absurd (false≢true e)
      go false true None e = e
      go false true (Some m) e =
          let r = any_at (λ (s : BlockState). eqb s.entry n) (drop k m.pending) e in
          any_from (λ (s : BlockState). eqb s.entry n) m.pending r.0 (Contains-drop k m.pending r.0 r.1) r.2
      go false false o e = e

  any_life : (xs : Lives) (b : ℕ) (test : Life → Bool) → alive_and test (life_at xs b) ≡ true → list_any (alive_and test) xs ≡ true
  any_life [] b test e = absurd (false≢true e)
  any_life (o ∷ os) zero test e = or_left (alive_and test o) (list_any (alive_and test) os) e
  any_life (o ∷ os) (suc b) test e = or_right (alive_and test o) (list_any (alive_and test) os) (any_life os b test e)

  pending_fewer : (n : ℕ) → is_pending lives n ≡ false → is_pending L n ≡ false
  pending_fewer n none = false_from_ne_true (is_pending L n) (λ t.
      let r = list_life L (λ m. has_entry m.pending n) t in
      false≢true (sym none ∙ any_life lives r.0 (λ m. has_entry m.pending n) (fewer_at r.0 n (ap (alive_and (λ m. has_entry m.pending n)) r.2 ∙ r.3))))

  -- block 0 keeps the types that it has on the disk
  root_stays : has_number drops 0 ≡ false
  root_stays = false_from_ne_true (has_number drops 0) (λ t.
      let r = h.lives_sound.root in
      let both : Dropped c ≡ Fresh = sym (of_life (gone 0 (has_number_at drops 0 t)) r.life r.alive) ∙ r.unowned in
      absurd cc)

  types_more : (u : ℕ) → has_type (root_on_disk lives) u ≡ true → has_type (root_on_disk L) u ≡ true
  types_more u has = ap (λ o. has_type (durable_bytes o) u) (stays 0 root_stays ∙ ap (one 0) root.alive) ∙ go (c == 0)
    where
      root : IsRootLife T lives
      root = h.lives_sound.root

      stored : has_type root.state.bytes u ≡ true
      stored = ap (λ m. has_type m u) (sym (on_disk_is lives root.life root.state root.alive root.durable)) ∙ has

      here : Contains (option_to_list root.life.durable ++ take k root.life.pending) root.state
      here = Contains-append_left (option_to_list root.life.durable) (take k root.life.pending) root.state
          (subst (λ o. Contains (option_to_list o) root.state) (sym root.durable) (Contains-head root.state []))

      go : (t : Bool) → has_type (durable_bytes (cond t (option_map (settle k) (Some root.life)) (Some root.life))) u ≡ true
      go true = ap (λ m. has_type m u) (bytes_kept (last_or root.life.durable (take k root.life.pending))) ∙ settle_types k root.life root.state u root.pointers here stored
      go false = ap (λ o. has_type (bytes_of o) u) root.durable ∙ stored

  module _ (b : ℕ) (other : b ≢ c) (l : Life) (alive : life_at lives b ≡ Some l) where
    -- what block b adds or drops, block c has not dropped
    added : (s : BlockState) (x : ℕ) → Contains l.pending s → Contains (blocks_of s.adds) x → has_number drops x ≡ false
    added s x i j = false_from_ne_true (has_number drops x) (λ t.
        let p = blocks_of_at s.adds x j in
        let names = (h.waits.adds b l s x p.0 alive i p.1).0 in
        let by = (h.lives_sound.each b l alive).named s x p.0 (Contains-append_right (option_to_list l.durable) l.pending s i) names in
        other (by_dropped b c by.life.status (of_life (gone x (has_number_at drops x t)) by.life by.alive) by.holds.1))

    dropped : (s : BlockState) (x : ℕ) → Contains l.pending s → Contains s.drops x → has_number drops x ≡ false
    dropped s x i j = false_from_ne_true (has_number drops x) (λ t.
        let e = (h.linked b l alive).dropped s x i j in
        other (dropped_once b c e.life.status (of_life (gone x (has_number_at drops x t)) e.life e.alive) e.holds))

    after_more : (earlier : List BlockState) (o : Option ℕ) → is_after_met lives earlier o ≡ true → is_after_met L earlier o ≡ true
    after_more earlier None e = refl
    after_more earlier (Some n) e = elim (or_cases (not (is_pending lives n)) (has_entry earlier n) e) [
      | inl none ↦ or_left (not (is_pending L n)) (has_entry earlier n) (ap not (pending_fewer n (not-true (is_pending lives n) none)))
      | inr has ↦ or_right (not (is_pending L n)) (has_entry earlier n) has
    ]

    type_more : (earlier : List BlockState) (u : ℕ) → is_type_met lives l.ty earlier u ≡ true → is_type_met L l.ty earlier u ≡ true
    type_more earlier u e = elim (or_cases (has_type (root_on_disk lives) u) ((l.ty == 0) && list_any (λ s. has_type s.bytes u) earlier) e) [
      | inl has ↦ or_left (has_type (root_on_disk L) u) ((l.ty == 0) && list_any (λ s. has_type s.bytes u) earlier) (types_more u has)
      | inr early ↦ or_right (has_type (root_on_disk L) u) ((l.ty == 0) && list_any (λ s. has_type s.bytes u) earlier) early
    ]

    safe_more : (earlier : List BlockState) (s : BlockState) → Contains l.pending s → safe lives l.ty earlier s ≡ true → safe L l.ty earlier s ≡ true
    safe_more earlier s i e =
        let p = and_parts (list_all (has_durable lives) (blocks_of s.adds) && list_all (is_type_met lives l.ty earlier) (types_of_pairs s.adds)) (list_all (is_all_durable lives) s.drops && is_after_met lives earlier s.after) e in
        let a = and_parts (list_all (has_durable lives) (blocks_of s.adds)) (list_all (is_type_met lives l.ty earlier) (types_of_pairs s.adds)) p.0 in
        let q = and_parts (list_all (is_all_durable lives) s.drops) (is_after_met lives earlier s.after) p.1 in
        and_from (list_all (has_durable L) (blocks_of s.adds) && list_all (is_type_met L l.ty earlier) (types_of_pairs s.adds)) (list_all (is_all_durable L) s.drops && is_after_met L earlier s.after)
        (and_from (list_all (has_durable L) (blocks_of s.adds)) (list_all (is_type_met L l.ty earlier) (types_of_pairs s.adds))
        (all_from (has_durable L) (blocks_of s.adds) (λ x j. ap (alive_and (λ m. is_some m.durable)) (stays x (added s x i j)) ∙ durable_stays (c == x) (life_at lives x) (all_at (has_durable lives) (blocks_of s.adds) x a.0 j)))
        (all_from (is_type_met L l.ty earlier) (types_of_pairs s.adds) (λ u j. type_more earlier u (all_at (is_type_met lives l.ty earlier) (types_of_pairs s.adds) u a.1 j))))
        (and_from (list_all (is_all_durable L) s.drops) (is_after_met L earlier s.after)
        (all_from (is_all_durable L) s.drops (λ x j. ap (alive_and at_once) (stays x (dropped s x i j)) ∙ all_stays (c == x) (life_at lives x) (all_at (is_all_durable lives) s.drops x q.0 j)))
        (after_more earlier s.after q.1))

    count_more : (earlier xs : List BlockState) → ((s : BlockState) → Contains xs s → Contains l.pending s) → safe_count lives l.ty earlier xs ≤ safe_count L l.ty earlier xs
    count_more earlier [] sub = omega arith
    count_more earlier (x ∷ xs) sub = go (safe lives l.ty earlier x) refl (safe L l.ty earlier x) refl (count_more (earlier ++ x ∷ []) xs (λ s i. sub s (Contains-tail x xs s i)))
      where
        go : (t : Bool) → safe lives l.ty earlier x ≡ t → (u : Bool) → safe L l.ty earlier x ≡ u → safe_count lives l.ty (earlier ++ x ∷ []) xs ≤ safe_count L l.ty (earlier ++ x ∷ []) xs →
            cond t (suc (safe_count lives l.ty (earlier ++ x ∷ []) xs)) 0 ≤ cond u (suc (safe_count L l.ty (earlier ++ x ∷ []) xs)) 0
        go false e u f le = omega arith
        go true e true f le = omega arith
        go true e false f le = absurd (false≢true (sym f ∙ safe_more earlier x (sub x (Contains-head x xs)) e))

  pub prefix_more : (b : ℕ) → b ≢ c → prefix lives b ≤ prefix L b
  prefix_more b other = go (life_at lives b) refl (has_number drops b) refl
    where
      go : (o : Option Life) → life_at lives b ≡ o → (d : Bool) → has_number drops b ≡ d → prefix_of lives o ≤ prefix L b
      go None e d f = omega arith
      go (Some l) e true f =
          subst (λ xs. safe_count lives l.ty [] xs ≤ prefix L b) (sym (of_life (rests b (has_number_at drops b f)) l e)) (omega arith)
      go (Some l) e false f =
          let now : life_at L b ≡ Some l = stays b f ∙ (cond-false (c == b) (option_map (settle k) (life_at lives b)) (life_at lives b) (ne_eqb c b (λ x. other (sym x))) ∙ e) in
          subst (λ o. prefix_of lives (Some l) ≤ prefix_of L o) (sym now) (count_more b other l e [] l.pending (λ s i. i))

-- Events

module _ (w : World) (h : Holds w) (b c : ℕ) (other : b ≢ c) where
  abbrev Grew : World → Type 0
  Grew v = prefix w.state.lives b ≤ prefix v.state.lives b

  same_lives : Grew w
  same_lives = omega arith

  begin_more : (new : StoreState) (given : List ℕ × ℕ) → begun_of w.state c ≡ Ok (given, new) → Grew (record w { state = new })
  begin_more new given e =
      let lives = w.state.lives in
      let m = map_ok (λ (x : List ℕ × ℕ). (x, record w.state { lives = begun_at lives c x.1 })) (begun_place lives (slice_get lives c)) (given, new) e in
      let is : begun_at lives c m.0.1 ≡ new.lives = ap (λ (x : (List ℕ × ℕ) × StoreState). x.1.lives) m.2 in
      let L = begun_at lives c m.0.1 in
      let one : (x : ℕ) → life_at L x ≡ cond (c == x) (option_map (begin_life m.0.1) (life_at lives x)) (life_at lives x) = change_cond lives c (λ x. begin_life m.0.1) in
      let same : (o : Option Life) → prefix_of L o ≡ prefix_of lives o = prefixes_same lives L (length_change lives c (begin_life m.0.1)) (λ x. ap unbegun (one x) ∙ begun_erased m.0.1 (c == x) (life_at lives x)) in
      let at : prefix L b ≡ prefix lives b = same (life_at L b) ∙ ap (prefix_of lives) (one b ∙ cond-false (c == b) (option_map (begin_life m.0.1) (life_at lives b)) (life_at lives b) (ne_eqb c b (λ x. other (sym x)))) in
      subst (λ xs. prefix lives b ≤ prefix xs b) is (omega arith)

  finish_more : (bytes : List ℕ) (new : StoreState) (given : ℕ × ℕ) → settled_of w.state c bytes ≡ Ok (given, new) → Grew (record w { state = new })
  finish_more bytes new given e =
      let lives = w.state.lives in
      let m = map_ok (settled_after w.state c) (settled_place bytes (slice_get lives c)) (given, new) e in
      let s = settles_place lives c bytes (slice_get lives c) m.0 refl m.1 in
      let first : first_pending m.0 (life_at lives c) ≡ take m.0 s.life.pending = ap (first_pending m.0) s.alive in
      let drops = drops_of (take m.0 s.life.pending) in
      let L = freed (settled_at lives c m.0) drops in
      let is : L ≡ new.lives = ap (λ xs. (settled_with w.state c (drops_of xs) m.0).1.lives) (sym first) ∙ ap (λ (x : (ℕ × ℕ) × StoreState). x.1.lives) m.2 in
      subst (λ xs. prefix lives b ≤ prefix xs b) is
      (prefix_more (types_now w) w.state h.state c m.0 drops L
      (λ x. freed_at (settled_at lives c m.0) drops x ∙ ap (cond (has_number drops x) None) (change_cond lives c (λ y. settle m.0) x))
      (λ x i. let d = drops_at (take m.0 s.life.pending) x i in (h.state.linked c s.life s.alive).dropped d.0 x (Contains-take m.0 s.life.pending d.0 d.1) d.2)
      (λ x i. rests m.0 s x i) b other)
    where
      rests : (k : ℕ) (s : Settles w.state.lives c bytes k) (x : ℕ) → Contains (drops_of (take k s.life.pending)) x → IsAtRest w.state.lives x
      rests k s x i = elim s.case [
        | inl landed ↦
            let d = drops_at (take k s.life.pending) x i in
            let in' : Contains (carried s.life) d.0 = subst (λ o. Contains (first_states o s.life.pending) d.0) (sym landed.0) d.1 in
            (h.state.linked c s.life s.alive).resting d.0 x in' d.2
        | inr none ↦ absurd (Contains-none x (subst (λ n. Contains (drops_of (take n s.life.pending)) x) none.0 i))
      ]

  up_more : (e : Event) → IsStepOf c e → Grew (act_up w e).1
  up_more (Begin d) s = subst (λ x. Grew (act_up w (Begin x)).1) (sym s) (told_keeps Grew (λ begun. Begun begun.1) w (begun_of w.state c) same_lives (λ given e. begin_more given.1 given.0 e))
  up_more (Land d) s = on_ticket_keeps Grew w d (λ k. (Landed, write w d k true)) same_lives (λ l k e f. same_lives)
  up_more (Fail d stays) s = on_ticket_keeps Grew w d (λ k. (Fault, write w d k stays)) same_lives (λ l k e f. same_lives)
  up_more (Sync d) s = on_ticket_keeps Grew w d (λ k. (Synced, settle_bytes w d)) same_lives (λ l k e f. same_lives)
  up_more (FailSync d) s = on_ticket_keeps Grew w d (λ k. (Fault, w)) same_lives (λ l k e f. same_lives)
  up_more (Finish d) s = subst (λ x. Grew (act_up w (Finish x)).1) (sym s) (on_ticket_keeps Grew w c (λ k. cond (is_some (given_at w.given c)) (Refused NotSynced, w) (read_back w c)) same_lives
      (λ l k e f. cond_both {A = Reply × World} (is_some (given_at w.given c)) (Refused NotSynced, w) (read_back w c) (λ x. Grew x.1) (λ t. same_lives)
      (λ none. told_keeps Grew (λ done. Finished done.0 done.1) w (settled_of w.state c (block_of w.image c)) same_lives (λ given g. finish_more (block_of w.image c) given.1 given.0 g))))
  up_more (Client fs call) s = absurd s
  up_more (Install bytes) s = absurd s
  up_more (Crash kept) s = absurd s

  pub step_more : (e : Event) → IsStepOf c e → Grew (act w e).1
  step_more e s = cond_both {A = Reply × World} (w.down && not (is_crash e)) (Down, w) (act_up w e) (λ x. Grew x.1) (λ t. same_lives) (λ f. up_more e s)
