-- The parts of a write, one after another.
use Rattle.std.proofs.Common.{◌≡◌, ◌≢◌, ℕ, zero, suc, ◌+◌, ◌-◌, ◌/◌, ◌%◌, ◌<◌, ◌≤◌, ◌⊎◌, Bool, true, false, List, [], ◌∷◌, ◌++◌, length, take, Option, None, Result, Ok, Err, refl, sym, ◌∙◌, ap, inl, inr, arith, append_assoc, eq-eqb, MatchResult, ◌==◌, ◌||◌, filter, min, nat_lt, if◌then◌else◌, append-nil, take_all, le-ltb, lt-ltb, ne_eqb}
use Rattle.ffs_lib.proofs.Common.{FfsFault, Refusal, StoreState, Types, cases_eq, cases_lt, init_of, latest, or_left, or_right, range_with_len, result_and_then}
use Rattle.ffs_lib.specs.Orders.{Action, Attaches, Makes, StopsAct, StopsIn, made_by}
use Rattle.ffs_lib.specs.Orders as orders
use Rattle.ffs_lib.specs.WriteOrder.{TellsAct, TellsIn, adds_direct, after_at, borders, data_at, data_parts, goes_past, last_after, last_at, parts_at, places, parts_made, zeros_parts}
use Rattle.ffs_lib.specs.Writes.{IsBorder}
use Rattle.ffs_lib.specs.declared.data.Last.{Last}
use Rattle.ffs_lib.proofs.Counted.{first_none}

-- What is told of a refusal stops there

pub tells_act : (T : Types) (fs : ℕ) (action : Action) (old new : StoreState) (fault : FfsFault) → TellsAct T fs action old new fault → StopsAct T fs action old new
tells_act T fs (Makes []) old new fault x = absurd x
tells_act T fs (Makes (edit ∷ rest)) old new fault x = first_none T fs (edit ∷ rest) old new x.0
tells_act T fs (Attaches ty bytes home edit) old new fault x = elim x [ inl y ↦ inl y.0 | inr y ↦ inr (first_of (init_of T old fs ty bytes) _ _ y) ]
  where
    first_of : {A : Type 0} (r : Result A Refusal) (P Q : A → Type 0) → MatchResult r (λ a. P a × Q a) (λ refusal. ⊥) → MatchResult r P (λ refusal. ⊥)
    first_of (Ok a) P Q h = h.0
    first_of (Err refusal) P Q h = h

pub tells_in : (T : Types) (fs : ℕ) (parts : orders.Parts) (old new : StoreState) (fault : FfsFault) → TellsIn T fs parts old new fault → StopsIn T fs parts old new
tells_in T fs [] old new fault x = absurd x
tells_in T fs (first ∷ rest) old new fault x = elim x [ inl y ↦ inl (tells_act T fs (first old) old new fault y) | inr y ↦ inr (y.0, y.1, tells_in T fs rest y.0 new fault y.2) ]

-- Where parts begin

module _ (offset : ℕ) where
  abbrev is_place : ℕ → Bool
  is_place at = (at == offset) || (at % 512 == 0)

  abbrev from : ℕ → ℕ → List ℕ
  from a k = filter is_place (range_with_len a k)

  from_more : (a k m : ℕ) → from a (k + m) ≡ from a k ++ from (a + k) m
  from_more a zero m =
      let x : 0 + m ≡ m = omega arith in
      let y : a ≡ a + 0 = omega arith in
      ap (from a) x ∙ ap (λ b. from b m) y
  from_more a (suc k) m =
      let x : suc k + m ≡ suc (k + m) = omega arith in
      let y : a + 1 + k ≡ a + suc k = omega arith in
      ap (from a) x ∙ (ap (λ (ys : List ℕ). if is_place a then a ∷ ys else ys) (from_more (a + 1) k m ∙ ap (λ b. from (a + 1) k ++ from b m) y) ∙ front (is_place a))
    where
      front : (t : Bool) → (if t then a ∷ (from (a + 1) k ++ from (a + suc k) m) else from (a + 1) k ++ from (a + suc k) m) ≡ (if t then a ∷ from (a + 1) k else from (a + 1) k) ++ from (a + suc k) m
      front true = refl
      front false = refl

  from_none : (a k : ℕ) → ((x : ℕ) → a ≤ x → x < a + k → is_place x ≡ false) → from a k ≡ []
  from_none a zero none = refl
  from_none a (suc k) none =
      ap (λ (t : Bool). if t then a ∷ from (a + 1) k else from (a + 1) k) (none a (omega arith) (omega arith)) ∙ from_none (a + 1) k (λ x lo hi. none x (omega (arith, lo)) (omega (arith, hi)))

  -- of some bytes more
  pub places_more : (start middle to : ℕ) → start < middle → middle ≤ to → places start offset to ≡ places start offset middle ++ from middle (to - middle)
  places_more start middle to some more =
      let k : ℕ = middle - (start + 1) in
      let m : ℕ = to - middle in
      let sum : to - (start + 1) ≡ k + m = omega (arith, some, more) in
      let next : start + 1 + k ≡ middle = omega (arith, some) in
      ap (λ (t : Bool). if t then borders start offset to else []) (lt-ltb start to (omega (arith, some, more)))
      ∙ (ap (λ (ys : List ℕ). start ∷ ys) (ap (from (start + 1)) sum ∙ (from_more (start + 1) k m ∙ ap (λ b. from (start + 1) k ++ from b m) next))
      ∙ ap (λ (ys : List ℕ). ys ++ from middle m) (sym (ap (λ (t : Bool). if t then borders start offset middle else []) (lt-ltb start middle some))))

  pub places_none : (start : ℕ) → places start offset start ≡ []
  places_none start = ap (λ (t : Bool). if t then borders start offset start else []) (le-ltb start start (omega arith))

  pub places_one : (start at : ℕ) → start ≤ at → (at ≡ start) ⊎ (is_place at ≡ true) → places start offset (at + 1) ≡ places start offset at ++ (at ∷ [])
  places_one start at low border = elim (cases_eq at start) [
    | inl e ↦
        let zero_left : at + 1 - (start + 1) ≡ 0 = omega (arith, e) in
        ap (λ (t : Bool). if t then borders start offset (at + 1) else []) (lt-ltb start (at + 1) (omega (arith, low)))
        ∙ (ap (λ k. start ∷ from (start + 1) k) zero_left ∙ (ap (λ x. x ∷ []) (sym e) ∙ ap (λ (ys : List ℕ). ys ++ (at ∷ [])) (sym (ap (places start offset) e ∙ places_none start))))
    | inr ne ↦
        let one : at + 1 - at ≡ suc 0 = omega arith in
        let here : is_place at ≡ true = elim border [ inl e ↦ absurd (ne e) | inr t ↦ t ] in
        places_more start at (at + 1) (omega (arith, low, ne)) (omega arith)
        ∙ ap (λ (ys : List ℕ). places start offset at ++ ys) (ap (from at) one ∙ ap (λ (t : Bool). if t then at ∷ [] else []) here)
  ]

  -- a part ends before the next place
  pub places_next : (start at count : ℕ) → start ≤ at → 0 < count → (at ≡ start) ⊎ (is_place at ≡ true) → ((x : ℕ) → at < x → x < at + count → is_place x ≡ false) → places start offset (at + count) ≡ places start offset at ++ (at ∷ [])
  places_next start at count low some border none =
      let rest = from_none (at + 1) (at + count - (at + 1)) (λ x lo hi. none x (omega (arith, lo)) (omega (arith, hi, some))) in
      places_more start (at + 1) (at + count) (omega (arith, low)) (omega (arith, some))
      ∙ (ap (λ (ys : List ℕ). places start offset (at + 1) ++ ys) rest ∙ (append-nil (places start offset (at + 1)) ∙ places_one start at low border))

  -- all places are those before one, it, and others
  pub places_split : (start at to : ℕ) → start ≤ at → at < to → (at ≡ start) ⊎ (is_place at ≡ true) → places start offset to ≡ places start offset at ++ (at ∷ from (at + 1) (to - (at + 1)))
  places_split start at to low more border =
      places_more start (at + 1) to (omega (arith, low)) (omega (arith, more))
      ∙ (ap (λ (ys : List ℕ). ys ++ from (at + 1) (to - (at + 1))) (places_one start at low border) ∙ append_assoc (places start offset at) (at ∷ []) (from (at + 1) (to - (at + 1))))

pub not_place : (offset x : ℕ) → x ≢ offset → x % 512 ≢ 0 → (x == offset) || (x % 512 == 0) ≡ false
not_place offset x a b = ap (λ (t : Bool). t || (x % 512 == 0)) (ne_eqb x offset a) ∙ ne_eqb (x % 512) 0 b

pub border_place : (end offset done at : ℕ) → at ≡ min end offset + done → IsBorder end offset done → (at ≡ min end offset) ⊎ ((at == offset) || (at % 512 == 0) ≡ true)
border_place end offset done at e border = elim border [
  | inl z ↦ inl (omega (arith, e, z))
  | inr (inl f) ↦ inr (or_left (at == offset) (at % 512 == 0) (eq-eqb at offset (e ∙ f)))
  | inr (inr f) ↦ inr (or_right (at == offset) (at % 512 == 0) (eq-eqb (at % 512) 0 (ap (λ k. k % 512) e ∙ f)))
]

-- Parts that are made, and that stop

module _ (T : Types) (fs n end offset : ℕ) (bytes : List ℕ) where
  abbrev run : List ℕ → StoreState × Last → Result (StoreState × Last) Refusal
  run = parts_made T fs n end offset bytes

  abbrev step : ℕ → StoreState × Last → Result StoreState Refusal
  step at x = made_by T fs (parts_at fs n offset bytes at (after_at end offset bytes at x.1)) x.0

  abbrev then_last : ℕ → StoreState × Last → StoreState → StoreState × Last
  then_last at x state = (state, last_at fs n end offset bytes at x.0 state x.1)

  run_on : (xs ys : List ℕ) (x : StoreState × Last) → run (xs ++ ys) x ≡ result_and_then (run ys) (run xs x)
  run_on [] ys x = refl
  run_on (at ∷ xs) ys x = go (λ state. run_on xs ys (then_last at x state)) (step at x)
    where
      go : ((state : StoreState) → run (xs ++ ys) (then_last at x state) ≡ result_and_then (run ys) (run xs (then_last at x state))) → (r : Result StoreState Refusal) →
          result_and_then (λ state. run (xs ++ ys) (then_last at x state)) r ≡ result_and_then (run ys) (result_and_then (λ state. run xs (then_last at x state)) r)
      go rest (Ok state) = rest state
      go rest (Err refusal) = refl

  pub run_next : (xs : List ℕ) (at : ℕ) (x : StoreState × Last) (first second : StoreState) (last next : Last) → run xs x ≡ Ok (first, last) → step at (first, last) ≡ Ok second → next ≡ last_at fs n end offset bytes at first second last → run (xs ++ (at ∷ [])) x ≡ Ok (second, next)
  run_next xs at x first second last next made done is =
      run_on xs (at ∷ []) x ∙ (ap (result_and_then (run (at ∷ []))) made
      ∙ (ap (result_and_then (λ state. run [] (then_last at (first, last) state))) done ∙ ap (λ (l : Last). Ok (second, l)) (sym is)))

-- What is written from a place on

module _ (T : Types) (fs n end offset : ℕ) (bytes : List ℕ) (at : ℕ) (last : Last) where
  abbrev parts_here : Option ℕ → orders.Parts
  parts_here after = parts_at fs n offset bytes at after

  abbrev here_after : Option ℕ
  here_after = after_at end offset bytes at last

  abbrev zeros : Option ℕ → orders.Parts
  zeros after = zeros_parts fs n (at / 512) (at % 512) (min (offset - at) (512 - at % 512)) after

  abbrev data_here : Option ℕ → orders.Parts
  data_here after = data_parts fs n (at / 512) (at % 512) (data_at offset bytes at) after

  abbrev is_past : Bool
  is_past = nat_lt end (at + length (data_at offset bytes at))

  abbrev last_here : StoreState → StoreState → Bool → Last
  last_here old new past = if past then last_after (adds_direct (latest old.lives) fs n (at / 512)) old.next new.next last else last

  zeros_past : at < offset → goes_past end offset bytes at ≡ true
  zeros_past lt = ap (λ (t : Bool). t || is_past) (lt-ltb at offset lt)

  data_past : offset ≤ at → (past : Bool) → is_past ≡ past → goes_past end offset bytes at ≡ past
  data_past ge past e = ap (λ (t : Bool). t || is_past) (le-ltb at offset ge) ∙ e

  pub zeros_are : at < offset → zeros last.edit ≡ parts_here here_after
  zeros_are lt =
      ap zeros (sym (ap (λ (t : Bool). if t then last.edit else None) (zeros_past lt)))
      ∙ sym (ap (λ (t : Bool). if t then zeros here_after else data_here here_after) (lt-ltb at offset lt))

  pub zeros_last : at < offset → (old new : StoreState) → last_here old new true ≡ last_at fs n end offset bytes at old new last
  zeros_last lt old new = sym (ap (last_here old new) (zeros_past lt))

  pub data_are : offset ≤ at → (past : Bool) → is_past ≡ past → data_here (if past then last.edit else None) ≡ parts_here here_after
  data_are ge past e =
      ap data_here (sym (ap (λ (t : Bool). if t then last.edit else None) (data_past ge past e)))
      ∙ sym (ap (λ (t : Bool). if t then zeros here_after else data_here here_after) (le-ltb at offset ge))

  pub data_last : offset ≤ at → (past : Bool) → is_past ≡ past → (old new : StoreState) → last_here old new past ≡ last_at fs n end offset bytes at old new last
  data_last ge past e old new = sym (ap (last_here old new) (data_past ge past e))

-- the bytes up to the end of a block, or of all
pub take_least : (xs : List ℕ) (k m : ℕ) → k ≡ min (length xs) m → take k xs ≡ take m xs
take_least xs k m e = elim (cases_lt m (length xs)) [
  | inl lt ↦ (let same : k ≡ m = omega (arith, e, lt) in ap (λ j. take j xs) same)
  | inr ge ↦ (let all : length xs ≤ k = omega (arith, e, ge) in take_all k xs all ∙ sym (take_all m xs ge))
]
