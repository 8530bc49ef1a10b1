-- What is read of times once inodes were touched, or their times written.
use Rattle.std.proofs.Common.{◌≡◌, ◌≢◌, ◌⊎◌, ℕ, zero, suc, ◌+◌, ◌<◌, ◌≤◌, Bool, true, false, List, [], ◌∷◌, Option, None, Some, refl, sym, ◌∙◌, ap, inl, inr, subst, arith}
use Rattle.std.specs.Prelude.{All, ◌==◌, cond, find, length, nat_lt, not, option_map, position}
use Rattle.std.specs.List.{position_or_len}
use Rattle.std.proofs.lemmas.Bool.{cases_eq, cases_lt, eq-eqb, le-ltb, lt-ltb, ne_eqb}
use Rattle.treefs_edits.specs.declared.memory.Touched.{Touched}
use Rattle.treefs_edits.specs.Memories.{put_at, taken_out, times_in, touched_times, with_touched, without_touched}
use Rattle.treefs_edits.specs.declared.times.Times.{Times}
use Rattle.treefs_laws.specs.Seen.{AreTimes, AreTouchedOnce}

abbrev is : ℕ → Touched → Bool
is n = λ touch. touch.number == n

abbrev touch_of : ℕ → Times → Touched
touch_of n times = record { number = n; times = times }

-- All of a list

module _ (P : Touched → Type 0) (x : Touched) (xs : List Touched) where
  all_here : All P (x ∷ xs) → P x
  all_here all = all 0 x (omega arith)

  all_behind : All P (x ∷ xs) → All P xs
  all_behind all k d lt = all (suc k) d (omega arith)

  all_with : P x → All P xs → All P (x ∷ xs)
  all_with first rest zero d lt = first
  all_with first rest (suc k) d lt = rest k d (omega arith)

none_of : (P : Touched → Type 0) → All P []
none_of P k d lt = absurd (omega arith)

-- Places in a list

module _ (p : Touched → Bool) (x : Touched) (xs : List Touched) where
  abbrev by : Bool → Option ℕ
  by b = cond (nat_lt (cond (not b) (1 + position_or_len p xs) 0) (length (x ∷ xs))) (Some (cond (not b) (1 + position_or_len p xs) 0)) None

  place_here : p x ≡ true → position p (x ∷ xs) ≡ Some 0
  place_here h = ap by h ∙ ap (λ b. cond b (Some 0) None) (lt-ltb 0 (length (x ∷ xs)) (omega arith))

  place_behind : p x ≡ false → position p (x ∷ xs) ≡ option_map suc (position p xs)
  place_behind h = ap by h ∙ later (position_or_len p xs) (cases_lt (position_or_len p xs) (length xs))
    where
      later : (k : ℕ) → (k < length xs) ⊎ (length xs ≤ k) →
          cond (nat_lt (1 + k) (suc (length xs))) (Some (1 + k)) None ≡ option_map suc (cond (nat_lt k (length xs)) (Some k) None)
      later k (inl lt) =
          let one_more : 1 + k ≡ suc k = omega arith in
          ap (λ b. cond b (Some (1 + k)) None) (lt-ltb (1 + k) (suc (length xs)) (omega arith))
          ∙ (ap Some one_more ∙ ap (λ b. option_map suc (cond b (Some k) None)) (sym (lt-ltb k (length xs) lt)))
      later k (inr ge) =
          ap (λ b. cond b (Some (1 + k)) None) (le-ltb (1 + k) (suc (length xs)) (omega arith))
          ∙ ap (λ b. option_map suc (cond b (Some k) None)) (sym (le-ltb k (length xs) ge))

module _ (x : Touched) (xs : List Touched) (n : ℕ) where
  with_here : (times : Times) → x.number ≡ n → with_touched (x ∷ xs) n times ≡ touch_of n times ∷ xs
  with_here times e = ap (λ o. put_at (x ∷ xs) o (touch_of n times)) (place_here (is n) x xs (eq-eqb x.number n e))

  with_behind : (times : Times) → x.number ≢ n → with_touched (x ∷ xs) n times ≡ x ∷ with_touched xs n times
  with_behind times ne = ap (λ o. put_at (x ∷ xs) o (touch_of n times)) (place_behind (is n) x xs (ne_eqb x.number n ne)) ∙ later (position (is n) xs)
    where
      later : (o : Option ℕ) → put_at (x ∷ xs) (option_map suc o) (touch_of n times) ≡ x ∷ put_at xs o (touch_of n times)
      later None = refl
      later (Some i) = refl

  without_here : x.number ≡ n → without_touched (x ∷ xs) n ≡ xs
  without_here e = ap (taken_out (x ∷ xs)) (place_here (is n) x xs (eq-eqb x.number n e))

  without_behind : x.number ≢ n → without_touched (x ∷ xs) n ≡ x ∷ without_touched xs n
  without_behind ne = ap (taken_out (x ∷ xs)) (place_behind (is n) x xs (ne_eqb x.number n ne)) ∙ later (position (is n) xs)
    where
      later : (o : Option ℕ) → taken_out (x ∷ xs) (option_map suc o) ≡ x ∷ taken_out xs o
      later None = refl
      later (Some i) = refl

-- What is read

module _ (x : Touched) (xs : List Touched) (m : ℕ) (else_times : Times) where
  abbrev read_by : Bool → Times
  read_by b = times_in (cond b (Some x) (find (is m) xs)) else_times

  pub read_here : x.number ≡ m → touched_times (x ∷ xs) m else_times ≡ x.times
  read_here e = ap read_by (eq-eqb x.number m e)

  pub read_behind : x.number ≢ m → touched_times (x ∷ xs) m else_times ≡ touched_times xs m else_times
  read_behind ne = ap read_by (ne_eqb x.number m ne)

module _ (n : ℕ) (times else_times : Times) where
  pub touched_now : (touched : List Touched) → touched_times (with_touched touched n times) n else_times ≡ times
  touched_now [] = read_here (touch_of n times) [] n else_times refl
  touched_now (x ∷ xs) = elim (cases_eq x.number n) [
    | inl same ↦ ap (λ l. touched_times l n else_times) (with_here x xs n times same) ∙ read_here (touch_of n times) xs n else_times refl
    | inr ne ↦ ap (λ l. touched_times l n else_times) (with_behind x xs n times ne) ∙ (read_behind x (with_touched xs n times) n else_times ne ∙ touched_now xs)
  ]

  pub others_touched : (m : ℕ) → m ≢ n → (touched : List Touched) → touched_times (with_touched touched n times) m else_times ≡ touched_times touched m else_times
  others_touched m other [] = read_behind (touch_of n times) [] m else_times (λ z. other (sym z))
  others_touched m other (x ∷ xs) = elim (cases_eq x.number n) [
    | inl same ↦
        ap (λ l. touched_times l m else_times) (with_here x xs n times same)
        ∙ (read_behind (touch_of n times) xs m else_times (λ z. other (sym z)) ∙ sym (read_behind x xs m else_times (λ z. other (sym z ∙ same))))
    | inr ne ↦ ap (λ l. touched_times l m else_times) (with_behind x xs n times ne) ∙ later (others_touched m other xs) (cases_eq x.number m)
  ]
    where
      later : touched_times (with_touched xs n times) m else_times ≡ touched_times xs m else_times → (x.number ≡ m) ⊎ (x.number ≢ m) →
          touched_times (x ∷ with_touched xs n times) m else_times ≡ touched_times (x ∷ xs) m else_times
      later rest (inl is_m) = read_here x (with_touched xs n times) m else_times is_m ∙ sym (read_here x xs m else_times is_m)
      later rest (inr not_m) =
          read_behind x (with_touched xs n times) m else_times not_m ∙ (rest ∙ sym (read_behind x xs m else_times not_m))

  -- Times that were written

  pub others_written : (m : ℕ) → m ≢ n → (touched : List Touched) → touched_times (without_touched touched n) m else_times ≡ touched_times touched m else_times
  others_written m other [] = refl
  others_written m other (x ∷ xs) = elim (cases_eq x.number n) [
    | inl same ↦
        ap (λ l. touched_times l m else_times) (without_here x xs n same) ∙ sym (read_behind x xs m else_times (λ z. other (sym z ∙ same)))
    | inr ne ↦ ap (λ l. touched_times l m else_times) (without_behind x xs n ne) ∙ later (others_written m other xs) (cases_eq x.number m)
  ]
    where
      later : touched_times (without_touched xs n) m else_times ≡ touched_times xs m else_times → (x.number ≡ m) ⊎ (x.number ≢ m) →
          touched_times (x ∷ without_touched xs n) m else_times ≡ touched_times (x ∷ xs) m else_times
      later rest (inl is_m) = read_here x (without_touched xs n) m else_times is_m ∙ sym (read_here x xs m else_times is_m)
      later rest (inr not_m) =
          read_behind x (without_touched xs n) m else_times not_m ∙ (rest ∙ sym (read_behind x xs m else_times not_m))

  pub not_there : (touched : List Touched) → All (λ other. other.number ≢ n) touched → touched_times touched n else_times ≡ else_times
  not_there [] lacks = refl
  not_there (x ∷ xs) lacks =
      read_behind x xs n else_times (all_here (λ other. other.number ≢ n) x xs lacks) ∙ not_there xs (all_behind (λ other. other.number ≢ n) x xs lacks)

  pub written_now : (touched : List Touched) → AreTouchedOnce touched → touched_times (without_touched touched n) n else_times ≡ else_times
  written_now [] once = refl
  written_now (x ∷ xs) once = elim (cases_eq x.number n) [
    | inl same ↦
        ap (λ l. touched_times l n else_times) (without_here x xs n same)
        ∙ not_there xs (subst (λ k. All (λ other. other.number ≢ k) xs) same once.0)
    | inr ne ↦
        ap (λ l. touched_times l n else_times) (without_behind x xs n ne)
        ∙ (read_behind x (without_touched xs n) n else_times ne ∙ written_now xs once.1)
  ]

-- What stays of all that are touched

module _ (P : Touched → Type 0) (n : ℕ) where
  pub all_touched : (times : Times) → P (touch_of n times) → (touched : List Touched) → All P touched → All P (with_touched touched n times)
  all_touched times fine [] all = all_with P (touch_of n times) [] fine (none_of P)
  all_touched times fine (x ∷ xs) all = elim (cases_eq x.number n) [
    | inl same ↦ subst (All P) (sym (with_here x xs n times same)) (all_with P (touch_of n times) xs fine (all_behind P x xs all))
    | inr ne ↦ subst (All P) (sym (with_behind x xs n times ne)) (all_with P x (with_touched xs n times) (all_here P x xs all) (all_touched times fine xs (all_behind P x xs all)))
  ]

  pub all_written_out : (touched : List Touched) → All P touched → All P (without_touched touched n)
  all_written_out [] all = all
  all_written_out (x ∷ xs) all = elim (cases_eq x.number n) [
    | inl same ↦ subst (All P) (sym (without_here x xs n same)) (all_behind P x xs all)
    | inr ne ↦ subst (All P) (sym (without_behind x xs n ne)) (all_with P x (without_touched xs n) (all_here P x xs all) (all_written_out xs (all_behind P x xs all)))
  ]

pub once_touched : (n : ℕ) (times : Times) (touched : List Touched) → AreTouchedOnce touched → AreTouchedOnce (with_touched touched n times)
once_touched n times [] once = (none_of (λ other. other.number ≢ n), tt)
once_touched n times (x ∷ xs) once = elim (cases_eq x.number n) [
  | inl same ↦ subst AreTouchedOnce (sym (with_here x xs n times same)) (subst (λ k. All (λ other. other.number ≢ k) xs) same once.0, once.1)
  | inr ne ↦ subst AreTouchedOnce (sym (with_behind x xs n times ne))
      (all_touched (λ other. other.number ≢ x.number) n times (λ z. ne (sym z)) xs once.0, once_touched n times xs once.1)
]

pub once_written : (n : ℕ) (touched : List Touched) → AreTouchedOnce touched → AreTouchedOnce (without_touched touched n)
once_written n [] once = tt
once_written n (x ∷ xs) once = elim (cases_eq x.number n) [
  | inl same ↦ subst AreTouchedOnce (sym (without_here x xs n same)) once.1
  | inr ne ↦ subst AreTouchedOnce (sym (without_behind x xs n ne))
      (all_written_out (λ other. other.number ≢ x.number) n xs once.0, once_written n xs once.1)
]

-- the times that are read have 64 bits
pub times_fit : (n : ℕ) (times : Times) → AreTimes times → (touched : List Touched) → All (λ touch. AreTimes touch.times) touched →
    AreTimes (touched_times touched n times)
times_fit n times fit [] all = fit
times_fit n times fit (x ∷ xs) all = elim (cases_eq x.number n) [
  | inl same ↦ subst AreTimes (sym (read_here x xs n times same)) (all_here (λ touch. AreTimes touch.times) x xs all)
  | inr ne ↦ subst AreTimes (sym (read_behind x xs n times ne)) (times_fit n times fit xs (all_behind (λ touch. AreTimes touch.times) x xs all))
]
