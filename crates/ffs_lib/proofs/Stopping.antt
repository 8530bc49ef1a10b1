-- Where a write stops, by the numbers of its edits.
use Rattle.std.proofs.Common.{◌≡◌, ◌≢◌, ℕ, ◌+◌, ◌-◌, ◌<◌, ◌≤◌, Bool, List, [], ◌∷◌, ◌++◌, length, Result, Ok, Err, refl, sym, ◌∙◌, ap, inl, inr, arith, subst, MatchResult, min, take, if◌then◌else◌, le-ltb, lt-ltb}
use Rattle.ffs_lib.proofs.Common.{FfsFault, Refusal, StoreState, Types, file_end, init_of}
use Rattle.xn_model.proofs.ForCallers.{same_ok, then_ok}
use Rattle.ffs_lib.specs.Orders.{Action, Acts, Attaches, Makes, act_of, made_by}
use Rattle.ffs_lib.specs.Orders as orders
use Rattle.ffs_lib.specs.Steps.{skipped}
use Rattle.ffs_lib.specs.WriteOrder.{TellsIn, after_at, last_at, no_last, parts_at, parts_made, places, stop_among, stop_or, stops_at}
use Rattle.ffs_lib.specs.declared.data.Last.{Last}
use Rattle.ffs_lib.proofs.Counted.{act_next, edits_next, parts_later}
use Rattle.ffs_lib.proofs.Undoing.{told_lives}

-- no numbers are taken back
pub acts_later : {A : Type 0} (T : Types) (fs : ℕ) (action : Action) (old new : StoreState) (result : Result A FfsFault) → Acts T fs action old new result → old.next ≤ new.next
acts_later T fs action old new (Ok x) a = let next = act_next T fs action old new a in omega (arith, next)
acts_later T fs (Makes edits) old new (Err fault) a = let next = edits_next T fs (take (new.next - old.next) edits) old new a in omega (arith, next)
acts_later T fs (Attaches ty bytes home edit) old new (Err fault) a = elim a [
  | inl e ↦ let next = ap (λ (s : StoreState). s.next) e in omega (arith, next)
  | inr h ↦ go (init_of T old fs ty bytes) h
]
  where
    go : {B : Type 0} (r : Result B Refusal) → MatchResult r (λ begun. new ≡ skipped old) (λ refusal. ⊥) → old.next ≤ new.next
    go (Ok x) h = let next = ap (λ (s : StoreState). s.next) h in omega (arith, next)
    go (Err refusal) h = absurd h

-- fewer numbers are given where a part is refused than where it is made
pub told_before : (T : Types) (fs : ℕ) (parts : orders.Parts) (old new other : StoreState) (fault : FfsFault) → TellsIn T fs parts old new fault → made_by T fs parts old ≡ Ok other → new.next < other.next
told_before T fs [] old new other fault x e = absurd x
told_before T fs (first ∷ rest) old new other fault t e =
    let x = then_ok (made_by T fs rest) (act_of T fs (first old) old) other e in elim t [
      | inl y ↦
          let less = (told_lives T fs (first old) old new fault y).fewer in
          omega (arith, less, act_next T fs (first old) old x.0 x.1, parts_later T fs rest x.0 other x.2)
      | inr y ↦ told_before T fs rest x.0 new other fault (subst (λ (s : StoreState). TellsIn T fs rest s new fault) (same_ok y.0 x.0 (sym y.1 ∙ x.1)) y.2) x.2
    ]

module _ (T : Types) (fs n end offset : ℕ) (bytes : List ℕ) (limit : ℕ) where
  abbrev run : List ℕ → StoreState × Last → Result (StoreState × Last) Refusal
  run = parts_made T fs n end offset bytes

  abbrev step : ℕ → StoreState × Last → Result StoreState Refusal
  step at x = made_by T fs (parts_at fs n offset bytes at (after_at end offset bytes at x.1)) x.0

  abbrev then_last : ℕ → StoreState × Last → StoreState → StoreState × Last
  then_last at x state = (state, last_at fs n end offset bytes at x.0 state x.1)

  abbrev stop : List ℕ → StoreState × Last → ℕ
  stop = stop_among T fs n end offset bytes limit

  runs_later : (xs : List ℕ) (x there : StoreState × Last) → run xs x ≡ Ok there → x.0.next ≤ there.0.next
  runs_later [] x there e = let next = ap (λ (y : StoreState × Last). y.0.next) (same_ok x there e) in omega (arith, next)
  runs_later (at ∷ xs) x there e =
      let y = then_ok (λ state. run xs (then_last at x state)) (step at x) there e in
      let first = parts_later T fs (parts_at fs n offset bytes at (after_at end offset bytes at x.1)) x.0 y.0 y.1 in
      omega (arith, first, runs_later xs (then_last at x y.0) there y.2)

  -- behind parts that are made
  pub stops_behind : (xs ys : List ℕ) (x there : StoreState × Last) → run xs x ≡ Ok there → there.0.next ≤ limit → stop (xs ++ ys) x ≡ stop ys there
  stops_behind [] ys x there e low = ap (stop ys) (same_ok x there e)
  stops_behind (at ∷ xs) ys x there e low =
      let y = then_ok (λ state. run xs (then_last at x state)) (step at x) there e in
      let first = runs_later xs (then_last at x y.0) there y.2 in
      ap (λ r. stop_or limit at r (λ state. stop (xs ++ ys) (then_last at x state))) y.1
      ∙ (ap (λ (t : Bool). if t then at else stop (xs ++ ys) (then_last at x y.0)) (le-ltb limit y.0.next (omega (arith, first, low))) ∙ stops_behind xs ys (then_last at x y.0) there y.2 low)

  -- at the one that is refused
  pub stops_here : (at : ℕ) (rest : List ℕ) (there : StoreState × Last) (new : StoreState) (fault : FfsFault) → TellsIn T fs (parts_at fs n offset bytes at (after_at end offset bytes at there.1)) there.0 new fault → limit ≡ new.next → stop (at ∷ rest) there ≡ at
  stops_here at rest there new fault told e = go (step at there) (λ state s. told_before T fs (parts_at fs n offset bytes at (after_at end offset bytes at there.1)) there.0 new state fault told s)
    where
      go : (r : Result StoreState Refusal) → ((state : StoreState) → r ≡ Ok state → new.next < state.next) → stop_or limit at r (λ state. stop rest (then_last at there state)) ≡ at
      go (Ok state) less = let low = less state refl in ap (λ (t : Bool). if t then at else stop rest (then_last at there state)) (lt-ltb limit state.next (omega (arith, low, e)))
      go (Err refusal) less = refl

pub stops_any : (T : Types) (fs n : ℕ) (inode : List ℕ) (offset : ℕ) (bytes : List ℕ) (old new : StoreState) → length bytes ≢ 0 →
    stops_at T fs n inode offset bytes old new ≡ stop_among T fs n (file_end inode) offset bytes new.next (places (min (file_end inode) offset) offset (offset + length bytes)) (old, no_last)
stops_any T fs n inode offset [] old new some = absurd (some refl)
stops_any T fs n inode offset (byte ∷ rest) old new some = refl
