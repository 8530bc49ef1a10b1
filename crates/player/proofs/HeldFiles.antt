-- Files in memory: what is read of one, and what all hold once one is written.
use Rattle.std.proofs.Common.{◌≡◌, ℕ, zero, suc, ◌<◌, Bool, true, false, cond, List, [], ◌∷◌, length, get_or, slice_set, Option, Some, refl, sym, ◌∙◌, ap, arith, subst}
use Rattle.std.specs.Prelude.{bytes_eq, find, option_map, position, if◌then◌else◌, IfSome, IfOk, Result, Ok, Err}
use Rattle.std.specs.Result.{result_ok}
use Rattle.std.proofs.lemmas.Bool.{cond-true, cond-false, false≢true}
use Rattle.std.proofs.lemmas.List.Quantifiers.{position-Some}
use Rattle.std.proofs.lemmas.Slice.Eq.{bytes_eq-Decides}
use Rattle.xnsim_line.specs.Files.{held_in, IsHeld}

bytes_same : (xs ys : List ℕ) → bytes_eq xs ys ≡ true → xs ≡ ys
bytes_same xs ys e = (bytes_eq-Decides xs ys).0 e

same_bytes : (xs : List ℕ) → bytes_eq xs xs ≡ true
same_bytes xs = (bytes_eq-Decides xs xs).1 refl

apart_bytes : (xs ys : List ℕ) → bytes_eq xs ys ≡ false → bytes_eq ys xs ≡ false
apart_bytes xs ys e = go (bytes_eq ys xs) refl
  where
    go : (t : Bool) → bytes_eq ys xs ≡ t → t ≡ false
    go true same = absurd (false≢true (sym e ∙ (bytes_eq-Decides xs ys).1 (sym (bytes_same ys xs same))))
    go false apart = refl

module _ {A : Type 0} (test : A → Bool) where
  -- the first that passes
  first_is : (xs : List A) (p : ℕ) (d : A) → p < length xs → test (get_or xs p d) ≡ true → ((k : ℕ) → k < p → test (get_or xs k d) ≡ false) → find test xs ≡ Some (get_or xs p d)
  first_is [] p d lt at before = absurd (omega arith)
  first_is (x ∷ xs) zero d lt at before = cond-true (test x) (Some x) (find test xs) at
  first_is (x ∷ xs) (suc p) d lt at before =
      cond-false (test x) (Some x) (find test xs) (before 0 (omega arith)) ∙ first_is xs p d (omega arith) at (λ k below. before (suc k) (omega arith))

  -- and where it is replaced by one that passes
  first_set : (xs : List A) (p : ℕ) (y d : A) → p < length xs → test y ≡ true → ((k : ℕ) → k < p → test (get_or xs k d) ≡ false) → find test (slice_set xs p y) ≡ Some y
  first_set [] p y d lt at before = absurd (omega arith)
  first_set (x ∷ xs) zero y d lt at before = cond-true (test y) (Some y) (find test xs) at
  first_set (x ∷ xs) (suc p) y d lt at before =
      cond-false (test x) (Some x) (find test (slice_set xs p y)) (before 0 (omega arith)) ∙ first_set xs p y d (omega arith) at (λ k below. before (suc k) (omega arith))

  -- one that fails in the place of one that fails
  none_set : (xs : List A) (p : ℕ) (y d : A) → p < length xs → test y ≡ false → test (get_or xs p d) ≡ false → find test (slice_set xs p y) ≡ find test xs
  none_set [] p y d lt new old = absurd (omega arith)
  none_set (x ∷ xs) zero y d lt new old = cond-false (test y) (Some y) (find test xs) new ∙ sym (cond-false (test x) (Some x) (find test xs) old)
  none_set (x ∷ xs) (suc p) y d lt new old = ap (cond (test x) (Some x)) (none_set xs p y d (omega arith) new old)

module _ {A : Type 0} (name_of bytes_of : A → List ℕ) where
  pub read_held : (files : List A) (p : ℕ) (d : A) (name : List ℕ) → position (λ f. bytes_eq (name_of f) name) files ≡ Some p → held_in name_of bytes_of files name ≡ Some (bytes_of (get_or files p d))
  read_held files p d name e =
      let at = position-Some (λ f. bytes_eq (name_of f) name) files p d e in
      ap (option_map bytes_of) (first_is (λ f. bytes_eq (name_of f) name) files p d at.0 at.1 at.2)

  pub write_held : (files : List A) (p : ℕ) (y d : A) (name bytes : List ℕ) → position (λ f. bytes_eq (name_of f) name) files ≡ Some p → name_of y ≡ name_of (get_or files p d) → bytes_of y ≡ bytes →
      (other : List ℕ) → held_in name_of bytes_of (slice_set files p y) other ≡ (if bytes_eq other name then Some bytes else held_in name_of bytes_of files other)
  write_held files p y d name bytes e named holds other = go (bytes_eq other name) refl
    where
      at : (p < length files) × (bytes_eq (name_of (get_or files p d)) name ≡ true) × ((k : ℕ) → k < p → bytes_eq (name_of (get_or files k d)) name ≡ false)
      at = position-Some (λ f. bytes_eq (name_of f) name) files p d e

      here : name_of y ≡ name
      here = named ∙ bytes_same (name_of (get_or files p d)) name at.1

      go : (t : Bool) → bytes_eq other name ≡ t → held_in name_of bytes_of (slice_set files p y) other ≡ (if t then Some bytes else held_in name_of bytes_of files other)
      go true same =
          let is : other ≡ name = bytes_same other name same in
          ap (held_in name_of bytes_of (slice_set files p y)) is
          ∙ (ap (option_map bytes_of) (first_set (λ f. bytes_eq (name_of f) name) files p y d at.0 (ap (λ n. bytes_eq n name) here ∙ same_bytes name) at.2)
          ∙ ap Some holds)
      go false apart =
          let fails = apart_bytes other name apart in
          ap (option_map bytes_of) (none_set (λ f. bytes_eq (name_of f) other) files p y d at.0 (ap (λ n. bytes_eq n other) here ∙ fails) (ap (λ n. bytes_eq n other) (bytes_same (name_of (get_or files p d)) name at.1) ∙ fails))

  -- one more file, before the others
  pub put_held : (files : List A) (y : A) (name bytes : List ℕ) → name_of y ≡ name → bytes_of y ≡ bytes →
      (other : List ℕ) → held_in name_of bytes_of (y ∷ files) other ≡ (if bytes_eq other name then Some bytes else held_in name_of bytes_of files other)
  put_held files y name bytes named holds other = go (bytes_eq other name) refl
    where
      go : (t : Bool) → bytes_eq other name ≡ t → held_in name_of bytes_of (y ∷ files) other ≡ (if t then Some bytes else held_in name_of bytes_of files other)
      go true same =
          let found : bytes_eq (name_of y) other ≡ true = ap (λ n. bytes_eq n other) named ∙ (ap (bytes_eq name) (bytes_same other name same) ∙ same_bytes name) in
          ap (option_map bytes_of) (cond-true (bytes_eq (name_of y) other) (Some y) (find (λ f. bytes_eq (name_of f) other) files) found) ∙ ap Some holds
      go false apart =
          let fails : bytes_eq (name_of y) other ≡ false = ap (λ n. bytes_eq n other) named ∙ apart_bytes other name apart in
          ap (option_map bytes_of) (cond-false (bytes_eq (name_of y) other) (Some y) (find (λ f. bytes_eq (name_of f) other) files) fails)

-- what is read, where there is memory for it
pub read_back : {V E : Type 0} (items : V → List ℕ) (r : Result V E) (o : Option V) (files : List ℕ → Option (List ℕ)) (name bytes : List ℕ) → o ≡ result_ok r → IfOk r (λ v. items v ≡ bytes) →
    files name ≡ Some bytes → IfSome o (λ v. IsHeld (Some files) name (items v))
read_back items (Ok v) o files name bytes e is held = subst (λ x. IfSome x (λ v. IsHeld (Some files) name (items v))) (sym e) (held ∙ ap Some (sym is))
read_back items (Err x) o files name bytes e is held = subst (λ x. IfSome x (λ v. IsHeld (Some files) name (items v))) (sym e) tt
