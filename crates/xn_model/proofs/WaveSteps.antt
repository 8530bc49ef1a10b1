-- What each event of a wave answers and leaves, and how lists of events go on.
use Rattle.std.proofs.Common.{◌≡◌, ℕ, ◌<◌, ◌≤◌, Bool, true, false, cond, List, [], ◌∷◌, ◌++◌, length, Some, None, refl, sym, ◌∙◌, ap, inl, inr, arith, subst}
use Rattle.std.specs.Prelude.{is_some, ◌==◌, ◌||◌, not, ◌&&◌, slice_get, slice_set, slice_index_or, Result, Ok, Err, option_map, if◌then◌else◌}
use Rattle.std.proofs.lemmas.Bool.{cases_eq, ne_eqb, eq-eqb, cond-true, cond-false, and_parts, not-true, eqb-true}
use Rattle.std.proofs.lemmas.Slice.Eq.{bytes_eq-Decides}
use Rattle.std.proofs.lemmas.List.{get_or-set_same, get_or-set_other}
use Rattle.xn_model.specs.Lists.{has_number, distinct}
use Rattle.xn_model.specs.Images.{block_of}
use Rattle.xn_model.specs.Lives.{Life, Lives, life_at, prefix_of, change_at, begun_at, settled_at, freed, drops_of}
use Rattle.xn_model.specs.Results.{Refusal, InFlight, NothingSafe, NotMine, NotSynced, result_map}
use Rattle.xn_model.specs.Calls.{begun_place, bytes_at, first_pending, is_durable, settled_count, settled_place, settled_after}
use Rattle.xn_model.specs.Worlds.{World, Event, Begin, Land, Fail, Sync, FailSync, Finish, Reply, Begun, Landed, Synced, Fault, Finished, Refused, reply_and_world, begun_count, read_back, write, settle_bytes, given_at, with_ticket, is_crash, act, act_up, Down, replies, world_after}
use Rattle.xn_model.proofs.Lives.{place_from, change_same, set_other}
use Rattle.xn_model.proofs.Tests.{unless_passed}

-- Lists of events

-- their replies, and what holds of the world after them
abbrev pub Does : World → List Event → List Reply → (World → Type 0) → Type 0
Does w es rs P = (replies w es ≡ rs) × P (world_after w es)

pub does_cons : (P : World → Type 0) (w v : World) (e : Event) (r : Reply) (es : List Event) (rs : List Reply) → act w e ≡ (r, v) → Does v es rs P → Does w (e ∷ es) (r ∷ rs) P
does_cons P w v e r es rs is d = (
  ap (λ (x : Reply × World). x.0 ∷ replies x.1 es) is ∙ ap (λ xs. r ∷ xs) d.0,
  subst (λ (x : Reply × World). P (world_after x.1 es)) (sym is) d.1,
)

pub replies_append : (w : World) (es fs : List Event) → replies w (es ++ fs) ≡ replies w es ++ replies (world_after w es) fs
replies_append w [] fs = refl
replies_append w (e ∷ es) fs = ap (λ xs. (act w e).0 ∷ xs) (replies_append (act w e).1 es fs)

pub after_append : (w : World) (es fs : List Event) → world_after w (es ++ fs) ≡ world_after (world_after w es) fs
after_append w [] fs = refl
after_append w (e ∷ es) fs = after_append (act w e).1 es fs

pub does_append : (P Q : World → Type 0) (w : World) (es fs : List Event) (rs ss : List Reply) → Does w es rs P → ((v : World) → P v → Does v fs ss Q) → Does w (es ++ fs) (rs ++ ss) Q
does_append P Q w es fs rs ss d more = let m = more (world_after w es) d.1 in (replies_append w es fs ∙ (λ i. d.0 i ++ m.0 i), subst Q (sym (after_append w es fs)) m.1)

-- of a world that is up
pub up_acts : (w : World) (e : Event) → w.down ≡ false → act w e ≡ act_up w e
up_acts w e up = ap (λ t. cond {A = Reply × World} (t && not (is_crash e)) (Down, w) (act_up w e)) up

-- Single events

abbrev pub with_lives : World → Lives → World
with_lives w lives = record w { state = record w.state { lives = lives } }

pub begin_is : (w : World) (b : ℕ) (l : Life) → w.down ≡ false → life_at w.state.lives b ≡ Some l → l.begun ≡ None → 1 ≤ prefix_of w.state.lives (Some l) →
    act w (Begin b) ≡ (Begun (prefix_of w.state.lives (Some l)), with_lives w (begun_at w.state.lives b (prefix_of w.state.lives (Some l))))
begin_is w b l up alive idle ready =
    let k = prefix_of w.state.lives (Some l) in
    let ne : (k == 0) ≡ false = ne_eqb k 0 (λ z. absurd (omega arith)) in
    let go : Result (List ℕ × ℕ) Refusal → Reply × World = λ r. reply_and_world {A = List ℕ × ℕ} (λ begun. Begun begun.1) w (result_map (λ begun. (begun, record w.state { lives = begun_at w.state.lives b begun.1 })) r) in
    up_acts w (Begin b) up
    ∙ (ap (λ o. go (begun_place w.state.lives o)) (place_from w.state.lives b l alive)
    ∙ ap go (unless_passed ((is_some l.begun, InFlight) ∷ (k == 0, NothingSafe) ∷ []) (Ok (bytes_at k l, k)) (ap is_some idle, (ne, tt))))

module _ (w : World) (b k : ℕ) (up : w.down ≡ false) (ticket : begun_count (life_at w.state.lives b) ≡ Some k) where
  pub land_is : act w (Land b) ≡ (Landed, write w b k true)
  land_is = up_acts w (Land b) up ∙ ap (λ o. with_ticket w o (λ n. (Landed, write w b n true))) ticket

  pub fail_is : (stays : Bool) → act w (Fail b stays) ≡ (Fault, write w b k stays)
  fail_is stays = up_acts w (Fail b stays) up ∙ ap (λ o. with_ticket w o (λ n. (Fault, write w b n stays))) ticket

  pub sync_is : act w (Sync b) ≡ (Synced, settle_bytes w b)
  sync_is = up_acts w (Sync b) up ∙ ap (λ o. with_ticket w o (λ n. (Synced, settle_bytes w b))) ticket

  pub fail_sync_is : act w (FailSync b) ≡ (Fault, w)
  fail_sync_is = up_acts w (FailSync b) up ∙ ap (λ o. with_ticket w o (λ n. (Fault, w))) ticket

  -- by what is read back
  pub finish_is : (n : ℕ) → given_at w.given b ≡ None → settled_place (block_of w.image b) (slice_get w.state.lives b) ≡ Ok n →
      let drops = drops_of (first_pending n (life_at w.state.lives b)) in
      act w (Finish b) ≡ (Finished n (length drops), with_lives w (freed (settled_at w.state.lives b n) drops))
  finish_is n none counts =
      up_acts w (Finish b) up
      ∙ (ap (λ o. with_ticket w o (λ n. cond (is_some (given_at w.given b)) (Refused NotSynced, w) (read_back w b))) ticket
      ∙ (ap (λ o. cond {A = Reply × World} (is_some o) (Refused NotSynced, w) (read_back w b)) none
      ∙ ap (λ r. reply_and_world {A = ℕ × ℕ} (λ done. Finished done.0 done.1) w (result_map (settled_after w.state b) r)) counts))

-- the begun bytes make all entries durable
pub begun_counts : (lives : Lives) (b k : ℕ) (l : Life) (bytes : List ℕ) → life_at lives b ≡ Some l → l.begun ≡ Some k → bytes ≡ bytes_at k l → settled_place bytes (slice_get lives b) ≡ Ok k
begun_counts lives b k l bytes alive begun there =
    ap (settled_place bytes) (place_from lives b l alive)
    ∙ (ap (settled_count l bytes) begun
    ∙ ap (λ t. if t then Ok k else if is_durable bytes l.durable then Ok 0 else Err NotMine) ((bytes_eq-Decides bytes (bytes_at k l)).1 there))

-- One place of several

-- a change at one place, then at others: at all of them
pub merged : {A : Type 0} (g : A → A) (x : A) (s t : Bool) → (s ≡ true → t ≡ false) → cond t (g (cond s (g x) x)) (cond s (g x) x) ≡ cond (s || t) (g x) x
merged g x true t apart = ap (λ u. cond u (g (g x)) (g x)) (apart refl)
merged g x false t apart = refl

-- a list of distinct numbers
pub once_head : (b : ℕ) (bs : List ℕ) → distinct (b ∷ bs) ≡ true → (c : ℕ) → (b == c) ≡ true → has_number bs c ≡ false
once_head b bs once c same = ap (has_number bs) (sym (eqb-true b c same)) ∙ not-true (has_number bs b) (and_parts (not (has_number bs b)) (distinct bs) once).0

pub once_tail : (b : ℕ) (bs : List ℕ) → distinct (b ∷ bs) ≡ true → distinct bs ≡ true
once_tail b bs once = (and_parts (not (has_number bs b)) (distinct bs) once).1

pub set_cond : {A : Type 0} (xs : List A) (b : ℕ) (x d : A) → b < length xs → (c : ℕ) → slice_index_or (slice_set xs b x) c d ≡ cond (b == c) x (slice_index_or xs c d)
set_cond xs b x d within c = elim (cases_eq b c) [
  | inl same ↦ ap (λ y. slice_index_or (slice_set xs b x) y d) (sym same) ∙ (get_or-set_same xs b x d within ∙ sym (cond-true (b == c) x (slice_index_or xs c d) (eq-eqb b c same)))
  | inr other ↦ get_or-set_other xs b c x d (λ e. other (sym e)) ∙ sym (cond-false (b == c) x (slice_index_or xs c d) (ne_eqb b c other))
]

pub change_cond : (lives : Lives) (b : ℕ) (f : ℕ → Life → Life) (c : ℕ) → life_at (change_at lives b (f b)) c ≡ cond (b == c) (option_map (f c) (life_at lives c)) (life_at lives c)
change_cond lives b f c = elim (cases_eq b c) [
  | inl same ↦ ap (life_at (change_at lives b (f b))) (sym same) ∙ (change_same lives b (f b) ∙ (ap (λ x. option_map (f x) (life_at lives x)) same ∙ sym (cond-true (b == c) (option_map (f c) (life_at lives c)) (life_at lives c) (eq-eqb b c same))))
  | inr other ↦ set_other lives b c (option_map (f b) (life_at lives b)) (λ e. other (sym e)) ∙ sym (cond-false (b == c) (option_map (f c) (life_at lives c)) (life_at lives c) (ne_eqb b c other))
]

-- a value at one place is one at the other where they are the same
pub cond_at : {A : Type 0} (b c : ℕ) (f : ℕ → A) (x : A) → cond (b == c) (f b) x ≡ cond (b == c) (f c) x
cond_at b c f x = elim (cases_eq b c) [
  | inl same ↦ ap (λ y. cond (b == c) (f y) x) same
  | inr other ↦ cond-false (b == c) (f b) x (ne_eqb b c other) ∙ sym (cond-false (b == c) (f c) x (ne_eqb b c other))
]
