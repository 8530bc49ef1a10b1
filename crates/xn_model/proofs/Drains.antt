-- A drain ends with nothing pending, after at most as many writes as entries were pending.
use Rattle.std.proofs.Common.{◌≡◌, ℕ, zero, suc, ◌+◌, ◌-◌, ◌<◌, ◌≤◌, Bool, true, false, cond, List, [], ◌∷◌, length, drop, Option, Some, None, refl, sym, ◌∙◌, ap, inl, inr, arith, subst, length-drop}
use Rattle.std.specs.Prelude.{Contains, is_some, is_none, nat_lt, ◌==◌, option_map, slice_get, if◌then◌else◌, Result, Ok, Err}
use Rattle.std.specs.List.{list_any}
use Rattle.std.proofs.lemmas.Bool.{cases_eq, cases_lt, false≢true, and_parts, eq-eqb, ne_eqb, ltb-true, not-true, cond-true, cond-false, cond_both, or_from}
use Rattle.std.proofs.lemmas.Slice.Eq.{bytes_eq-Decides}
use Rattle.std.proofs.lemmas.Option.{unwrap_or-slice_get}
use Rattle.std.proofs.lemmas.List.Quantifiers.{position-Some}
use Rattle.std.proofs.lemmas.List.{get_or-set_same}
use Rattle.xn_model.specs.Lists.{has_number}
use Rattle.xn_model.specs.Images.{block_of}
use Rattle.xn_model.specs.Lives.{BlockState, Life, Lives, StoreState, life_at, alive_and, prefix_of, safe_count, drops_of, begun_at}
use Rattle.xn_model.specs.Results.{Refusal, InFlight, NothingSafe, NotMine, NotSynced, result_map}
use Rattle.xn_model.specs.Calls.{begun_place, bytes_at, first_pending, is_durable, settled_count, settled_place, settled_after, pick_of, is_ready, life_pending}
use Rattle.xn_model.specs.Worlds.{World, types_now, Reply, Refused, Begun, Landed, Finished, reply_and_world, begin, begun_count, begun_bytes, land, sync, finish, read_back, write, settle_bytes, given_at, Synced, with_ticket, write_out, all_pending, drain_for, drain, Drained}
use Rattle.xn_model.specs.Rules.{Holds, IsIdle}
use Rattle.xn_model.proofs.Changes.{bared, each, free, with_begun, settled}
use Rattle.xn_model.proofs.Lists.{Contains-head}
use Rattle.xn_model.proofs.Lives.{in_lives, each_at, each_forth, each_back, free_at, free_back, length_revised, begun_is, settled_is, place_from}
use Rattle.xn_model.proofs.Tests.{unless_passed, none_from, safe_count_within}
use Rattle.xn_model.proofs.Lands.{none_given_at}
use Rattle.xn_model.proofs.Runs.{write_out_keeps}
use Rattle.xn_model.proofs.Least.{progress}

-- Sums

pub sum_le : (xs ys : Lives) → length ys ≡ length xs → ((c : ℕ) → life_pending (life_at ys c) ≤ life_pending (life_at xs c)) → all_pending ys ≤ all_pending xs
sum_le [] [] e h = omega arith
sum_le [] (y ∷ ys) e h = absurd (omega arith)
sum_le (x ∷ xs) [] e h = absurd (omega arith)
sum_le (x ∷ xs) (y ∷ ys) e h = let here = h 0 in let rest = sum_le xs ys (omega arith) (λ c. h (suc c)) in omega arith

pub sum_lt : (xs ys : Lives) (b : ℕ) → length ys ≡ length xs → b < length xs → ((c : ℕ) → life_pending (life_at ys c) ≤ life_pending (life_at xs c)) → life_pending (life_at ys b) < life_pending (life_at xs b) → all_pending ys < all_pending xs
sum_lt [] ys b e lt h s = absurd (omega arith)
sum_lt (x ∷ xs) [] b e lt h s = absurd (omega arith)
sum_lt (x ∷ xs) (y ∷ ys) zero e lt h s = let rest = sum_le xs ys (omega arith) (λ c. h (suc c)) in omega arith
sum_lt (x ∷ xs) (y ∷ ys) (suc b) e lt h s = let here = h 0 in let rest = sum_lt xs ys b (omega arith) (omega arith) (λ c. h (suc c)) s in omega arith

-- one of several has something pending
pub sum_some : (xs : Lives) → 1 ≤ all_pending xs → (b : ℕ) × (l : Life) × (life_at xs b ≡ Some l) × (1 ≤ length l.pending)
sum_some [] h = absurd (omega arith)
sum_some (None ∷ xs) h = let r = sum_some xs (omega arith) in (suc r.0, r.1, r.2, r.3)
sum_some (Some l ∷ xs) h = elim (cases_lt 0 (length l.pending)) [
  | inl lt ↦ (0, l, refl, omega arith)
  | inr none ↦ let r = sum_some xs (omega arith) in (suc r.0, r.1, r.2, r.3)
]

-- What pick answers is ready

pub ready_life : (lives : Lives) (o : Option Life) → is_ready lives o ≡ true → (l : Life) × (o ≡ Some l) × (l.begun ≡ None) × (1 ≤ prefix_of lives (Some l))
ready_life lives None e = absurd (false≢true e)
ready_life lives (Some l) e =
    let parts = and_parts (is_none l.begun) (nat_lt 0 (prefix_of lives (Some l))) e in
    (l, refl, none_from l.begun (not-true (is_some l.begun) parts.0), let lt = ltb-true 0 (prefix_of lives (Some l)) parts.1 in omega arith)

pub picked_life : (state : StoreState) (b : ℕ) → pick_of state ≡ Some b → (l : Life) × (life_at state.lives b ≡ Some l) × (l.begun ≡ None) × (1 ≤ prefix_of state.lives (Some l))
picked_life state b e =
    let r = position-Some (is_ready state.lives) state.lives b None e in
    ready_life state.lives (life_at state.lives b) (ap (is_ready state.lives) (unwrap_or-slice_get state.lives b None) ∙ r.1)

-- One round

module _ (w : World) (count : length w.image ≡ length w.state.lives) (idle : IsIdle w.state.lives) (b : ℕ) (l : Life) (alive : life_at w.state.lives b ≡ Some l) (ready : 1 ≤ prefix_of w.state.lives (Some l)) where
  abbrev k : ℕ
  k = prefix_of w.state.lives (Some l)

  abbrev with_lives : Lives → World
  with_lives lives = record w { state = record w.state { lives = lives } }

  abbrev began : World
  began = with_lives (each (with_begun b (Some k)) w.state.lives)

  abbrev landed : World
  landed = write began b k true

  abbrev l' : Life
  l' = with_begun b (Some k) b l

  begins : (begin w b).1 ≡ began
  begins =
      let ne : (k == 0) ≡ false = ne_eqb k 0 (λ z. absurd (omega arith)) in
      let go : Result (List ℕ × ℕ) Refusal → World = λ r. (reply_and_world {A = List ℕ × ℕ} (λ begun. Begun begun.1) w (result_map (λ begun. (begun, record w.state { lives = begun_at w.state.lives b begun.1 })) r)).1 in
      ap (λ o. go (begun_place w.state.lives o)) (place_from w.state.lives b l alive)
      ∙ (ap go (unless_passed ((is_some l.begun, InFlight) ∷ (k == 0, NothingSafe) ∷ []) (Ok (bytes_at k l, k)) (ap is_some (idle b l alive), (ne, tt)))
      ∙ ap with_lives (begun_is w.state.lives b k))

  life_began : life_at began.state.lives b ≡ Some l'
  life_began = each_forth (with_begun b (Some k)) w.state.lives b l alive

  begun' : l'.begun ≡ Some k
  begun' = ap (λ t. cond t (Some k) l.begun) (eq-eqb b b refl)

  ticket : begun_count (life_at began.state.lives b) ≡ Some k
  ticket = ap begun_count life_began ∙ begun'

  lands : (land began b).1 ≡ landed
  lands = ap (λ o. (with_ticket began o (λ n. (Landed, write began b n true))).1) ticket

  abbrev settled' : World
  settled' = settle_bytes landed b

  syncs : (sync landed b).1 ≡ settled'
  syncs = ap (λ o. (with_ticket landed o (λ n. (Synced, settle_bytes landed b))).1) ticket

  -- the bytes that are read back
  there : block_of landed.image b ≡ bytes_at k l'
  there =
      let within : b < length w.image = subst (λ n. b < n) (sym count) (in_lives w.state.lives b l alive) in
      get_or-set_same w.image b (begun_bytes k (life_at began.state.lives b)) [] within ∙ ap (begun_bytes k) life_began

  counts : settled_place (block_of landed.image b) (slice_get landed.state.lives b) ≡ Ok k
  counts =
      let bytes = block_of landed.image b in
      ap (settled_place bytes) (place_from landed.state.lives b l' life_began)
      ∙ (ap (settled_count l' bytes) begun'
      ∙ ap (λ t. if t then Ok k else if is_durable bytes l'.durable then Ok 0 else Err NotMine) ((bytes_eq-Decides bytes (bytes_at k l')).1 there))

  -- the lives after it
  abbrev mid : Lives
  mid = each (settled b k) began.state.lives

  abbrev ended : List ℕ
  ended = drops_of (first_pending k (life_at began.state.lives b))

  abbrev finished : World
  finished = record settled' { state = record w.state { lives = each (bared b) (free ended mid) } }

  finishes : (finish settled' b).1 ≡ finished
  finishes =
      ap (λ o. (with_ticket settled' o (λ n. cond (is_some (given_at settled'.given b)) (Refused NotSynced, settled') (read_back settled' b))).1) ticket
      ∙ (ap (λ o. (cond {A = Reply × World} (is_some o) (Refused NotSynced, settled') (read_back settled' b)).1) (none_given_at landed.given b)
      ∙ (ap (λ r. (reply_and_world {A = ℕ × ℕ} (λ done. Finished done.0 done.1) settled' (result_map (settled_after landed.state b) r)).1) counts
      ∙ ap (λ xs. record settled' { state = record w.state { lives = xs } }) (settled_is began.state.lives b k ended)))

  round : write_out w b ≡ finished
  round = ap (λ x. (finish (sync (land x b).1 b).1 b).1) begins ∙ (ap (λ x. (finish (sync x b).1 b).1) lands ∙ (ap (λ x. (finish x b).1) syncs ∙ finishes))

  idle_after : IsIdle (free ended mid)
  idle_after c m e =
      let f = (free_back ended mid c m e).1 in
      let r = each_back (settled b k) began.state.lives c m f in
      let q = each_back (with_begun b (Some k)) w.state.lives c r.0 r.1 in
      ap (λ (x : Life). x.begun) r.2 ∙ elim (cases_eq c b) [
        | inl same ↦ cond-true (c == b) None r.0.begun (eq-eqb c b same)
        | inr other ↦ cond-false (c == b) None r.0.begun (ne_eqb c b other) ∙ (ap (λ (x : Life). x.begun) q.2 ∙ (cond-false (c == b) (Some k) q.0.begun (ne_eqb c b other) ∙ idle c q.0 q.1))
      ]

  bared_idle : IsIdle (each (bared b) (free ended mid))
  bared_idle c m e = let r = each_back (bared b) (free ended mid) c m e in ap (λ (x : Life). x.begun) r.2 ∙ idle_after c r.0 r.1

  -- what one life has pending
  freed_less : (t : Bool) (o : Option Life) → life_pending (cond t None o) ≤ life_pending o
  freed_less true o = omega arith
  freed_less false o = omega arith

  settled_less : (c : ℕ) (o : Option Life) → life_pending (option_map (settled b k c) (option_map (with_begun b (Some k) c) o)) ≤ life_pending o
  settled_less c None = omega arith
  settled_less c (Some m) = cond_both (c == b) (drop k m.pending) m.pending (λ xs. length xs ≤ length m.pending) (λ t. rw length-drop (omega arith)) (λ f. omega arith)

  after_at : (c : ℕ) → life_at (free ended mid) c ≡ cond (has_number ended c) None (option_map (settled b k c) (option_map (with_begun b (Some k) c) (life_at w.state.lives c)))
  after_at c = free_at ended mid c ∙ ap (λ o. cond (has_number ended c) None o) (each_at (settled b k) began.state.lives c ∙ ap (option_map (settled b k c)) (each_at (with_begun b (Some k)) w.state.lives c))

  less : (c : ℕ) → life_pending (life_at (free ended mid) c) ≤ life_pending (life_at w.state.lives c)
  less c =
      let one = freed_less (has_number ended c) (option_map (settled b k c) (option_map (with_begun b (Some k) c) (life_at w.state.lives c))) in
      let two = settled_less c (life_at w.state.lives c) in
      let e = ap life_pending (after_at c) in
      omega arith

  less_here : life_pending (life_at (free ended mid) b) < life_pending (life_at w.state.lives b)
  less_here =
      let o : Option Life = option_map (settled b k b) (option_map (with_begun b (Some k) b) (life_at w.state.lives b)) in
      let one = freed_less (has_number ended b) o in
      let e = ap life_pending (after_at b) in
      let now : life_pending o ≡ length (drop k l.pending) = ap (λ x. life_pending (option_map (settled b k b) (option_map (with_begun b (Some k) b) x))) alive ∙ ap (λ t. length (cond t (drop k l.pending) l.pending)) (eq-eqb b b refl) in
      let was : life_pending (life_at w.state.lives b) ≡ length l.pending = ap life_pending alive in
      let cut : length (drop k l.pending) ≡ length l.pending - k = length-drop k l.pending in
      let is : k ≡ safe_count w.state.lives l.ty [] l.pending = refl in
      let within = safe_count_within w.state.lives l.ty [] l.pending in
      omega arith

  bared_pending : (c : ℕ) → life_pending (life_at (each (bared b) (free ended mid)) c) ≡ life_pending (life_at (free ended mid) c)
  bared_pending c = ap life_pending (each_at (bared b) (free ended mid) c) ∙ go (life_at (free ended mid) c)
    where
      go : (o : Option Life) → life_pending (option_map (bared b c) o) ≡ life_pending o
      go None = refl
      go (Some m) = refl

  fewer : all_pending (each (bared b) (free ended mid)) < all_pending w.state.lives
  fewer = sum_lt w.state.lives (each (bared b) (free ended mid)) b
      (length_revised (λ c o. option_map (bared b c) o) (free ended mid) ∙ (length_revised (λ c o. cond (has_number ended c) None o) mid ∙ (length_revised (λ c o. option_map (settled b k c) o) began.state.lives ∙ length_revised (λ c o. option_map (with_begun b (Some k) c) o) w.state.lives)))
      (in_lives w.state.lives b l alive) (λ c. let e = bared_pending c in let le = less c in omega arith) (let e = bared_pending b in let lt = less_here in omega arith)

  pub round_ends : IsIdle (write_out w b).state.lives × (all_pending (write_out w b).state.lives < all_pending w.state.lives)
  round_ends = subst (λ (x : World). IsIdle x.state.lives × (all_pending x.state.lives < all_pending w.state.lives)) (sym round) (bared_idle, fewer)

-- All rounds

pub first : (xs : List BlockState) → 1 ≤ length xs → (s : BlockState) × Contains xs s
first [] le = absurd (omega arith)
first (x ∷ xs) le = (x, Contains-head x xs)

drains : (n writes : ℕ) (w : World) → Holds w → IsIdle w.state.lives → all_pending w.state.lives ≤ n → (all_pending (drain_for n writes w).1.state.lives ≡ 0) × ((drain_for n writes w).0 ≤ writes + n)
drains zero writes w h idle le = (omega arith, omega arith)
drains (suc n) writes w h idle le = go (pick_of w.state) refl (λ b l e r f. drains n (writes + 1) (write_out w b) (write_out_keeps w h b) f.0 (let lt = f.1 in omega arith))
  where
    go : (o : Option ℕ) → pick_of w.state ≡ o →
        ((b : ℕ) (l : Life) → life_at w.state.lives b ≡ Some l → 1 ≤ prefix_of w.state.lives (Some l) → IsIdle (write_out w b).state.lives × (all_pending (write_out w b).state.lives < all_pending w.state.lives) →
        (all_pending (drain_for n (writes + 1) (write_out w b)).1.state.lives ≡ 0) × ((drain_for n (writes + 1) (write_out w b)).0 ≤ writes + 1 + n)) →
        let r : ℕ × World = elim o as (λ x. ℕ × World) [ None ↦ (writes, w) | Some b ↦ drain_for n (writes + 1) (write_out w b) ] in (all_pending r.1.state.lives ≡ 0) × (r.0 ≤ writes + suc n)
    go None e more = (nothing, omega arith)
      where
        nothing : all_pending w.state.lives ≡ 0
        nothing = elim (cases_lt 0 (all_pending w.state.lives)) [
          | inr zero' ↦ omega arith
          | inl some ↦
              let r = sum_some w.state.lives (omega arith) in
              let s = first r.1.pending r.3 in
              absurd (false≢true (ap is_some (sym e) ∙ progress (types_now w) w.state h.state idle r.0 r.1 s.0 r.2 s.1))
        ]
    go (Some b) e more =
        let p = picked_life w.state b e in
        let r = more b p.0 p.1 p.3 (round_ends w h.count idle b p.0 p.1 p.3) in
        (r.0, let le' = r.1 in omega arith)

none_begun : (lives : Lives) → IsIdle lives → list_any (alive_and (λ l. is_some l.begun)) lives ≡ false
none_begun [] idle = refl
none_begun (None ∷ os) idle = none_begun os (λ b l e. idle (suc b) l e)
none_begun (Some l ∷ os) idle = or_from (is_some l.begun) (list_any (alive_and (λ x. is_some x.begun)) os) (ap is_some (idle 0 l refl)) (none_begun os (λ b m e. idle (suc b) m e))

pub drain_ends : (w : World) → Holds w → IsIdle w.state.lives → (writes : ℕ) × ((drain w).0 ≡ Drained writes) × (writes ≤ all_pending w.state.lives) × (all_pending (drain w).1.state.lives ≡ 0)
drain_ends w h idle =
    let r = drain_for (all_pending w.state.lives) 0 w in
    let done : drain w ≡ (Drained r.0, r.1) = ap (λ t. cond {A = Reply × World} t (Refused InFlight, w) (Drained r.0, r.1)) (none_begun w.state.lives idle) in
    let all = drains (all_pending w.state.lives) 0 w h idle (omega arith) in
    (r.0, ap (λ (x : Reply × World). x.0) done, let le = all.1 in omega arith, ap (λ (x : Reply × World). all_pending x.1.state.lives) done ∙ all.0)
