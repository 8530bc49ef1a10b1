-- The bytes of some things, of changes or pointers, written one after the other.
use Rattle.std.proofs.Common.{◌≡◌, ◌≢◌, ℕ, ◌+◌, ◌<◌, ◌≤◌, List, [], ◌∷◌, ◌++◌, length, drop, get_or, refl, sym, ◌∙◌, ap, arith, append_assoc}
use Rattle.std.specs.Prelude.{flat_map}
use Rattle.std.proofs.lemmas.List.{append-nil, drop_all, drop_more}
use Rattle.xn_model.specs.Calls.{Patch}
use Rattle.treefs_format.specs.Fields.{Change, change_bytes, change_offset, changes_patch}

module _ {A : Type 0} (bytes_of : A → List ℕ) (xs : List A) (i : ℕ) (other : A) (before : List ℕ)
    (so_far : before ++ flat_map bytes_of (drop i xs) ≡ flat_map bytes_of xs) where
  pub one_more : (after : List ℕ) → i < length xs → after ≡ before ++ bytes_of (get_or xs i other) → after ++ flat_map bytes_of (drop (i + 1) xs) ≡ flat_map bytes_of xs
  one_more after lt is =
      let rest = flat_map bytes_of (drop (i + 1) xs) in
      ap (λ l. l ++ rest) is ∙ (append_assoc before (bytes_of (get_or xs i other)) rest
      ∙ (ap (λ l. before ++ flat_map bytes_of l) (sym (drop_more xs i other lt)) ∙ so_far))

  pub all_made : length xs ≤ i → before ≡ flat_map bytes_of xs
  all_made le = sym (append-nil before) ∙ (ap (λ l. before ++ flat_map bytes_of l) (sym (drop_all i xs le)) ∙ so_far)

first_is : (changes : List Change) (other : Change) (offset : ℕ) (bytes : List ℕ) → changes ≢ [] → offset ≡ change_offset (get_or changes 0 other) →
    bytes ≡ flat_map change_bytes changes → ◌≡◌ {A = Patch} (record { offset = offset; bytes = bytes }) (changes_patch changes)
first_is [] other offset bytes some is same = absurd (some refl)
first_is (c ∷ cs) other offset bytes some is same = λ j. record { offset = is j; bytes = same j }

pub patch_is : (changes : List Change) (i : ℕ) (other : Change) (offset : ℕ) (bytes : List ℕ) → bytes ++ flat_map change_bytes (drop i changes) ≡ flat_map change_bytes changes →
    length changes ≤ i → changes ≢ [] → offset ≡ change_offset (get_or changes 0 other) → ◌≡◌ {A = Patch} (record { offset = offset; bytes = bytes }) (changes_patch changes)
patch_is changes i other offset bytes so_far le some is = first_is changes other offset bytes some is (all_made change_bytes changes i other bytes so_far le)

pub has_first : (changes : List Change) → changes ≢ [] → 0 < length changes
has_first [] some = absurd (some refl)
has_first (c ∷ cs) some = omega arith
