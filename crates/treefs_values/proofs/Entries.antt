-- The first live entry of a name, where one entry gets another number.
use Rattle.std.proofs.Common.{◌≡◌, ℕ, ◌+◌, Bool, true, false, cond, not, ◌&&◌, ◌||◌, List, [], ◌∷◌, ◌++◌, Option, None, Some, find, refl, sym, ◌∙◌, ap, if◌then◌else◌}
use Rattle.std.specs.Prelude.{IsTrue, bytes_eq, ◌==◌}
use Rattle.std.proofs.lemmas.Bool.{and_parts, not-true, or_parts, true≢false}
use Rattle.std.proofs.lemmas.Slice.Eq.{bytes_eq-Decides}
use Rattle.std.proofs.lemmas.List.Folds.{list_any-append}
use Rattle.treefs_format.specs.Buckets.{live_record}
use Rattle.treefs_format.specs.Records.{Entry, Record, entries_of, entry_length, is_live, placed}
use Rattle.treefs_model.specs.Trees.{has_name, names_once}
use Rattle.treefs_values.specs.Names.{first_number}

-- Names

pub same_bytes : (a b : List ℕ) → bytes_eq a b ≡ true → a ≡ b
same_bytes a b e = (bytes_eq-Decides a b).0 e

pub same_eq : (a b : List ℕ) → a ≡ b → bytes_eq a b ≡ true
same_eq a b same = (bytes_eq-Decides a b).1 same

pub flipped : (x y : List ℕ) → bytes_eq y x ≡ false → bytes_eq x y ≡ false
flipped x y isnt = by (bytes_eq x y) refl
  where
    by : (b : Bool) → bytes_eq x y ≡ b → bytes_eq x y ≡ false
    by true h = absurd (true≢false (sym (same_eq y x (sym (same_bytes x y h))) ∙ isnt))
    by false h = h

-- What is found among placed entries

abbrev number_or_none : Option Record → Option ℕ
number_or_none None = None
number_or_none (Some r) = Some r.entry.number

module _ (name : List ℕ) where
  abbrev is_of : Record → Bool
  is_of r = is_live r.entry && bytes_eq r.entry.name name

  found_number : (at : ℕ) (es : List Entry) → number_or_none (find is_of (placed at es)) ≡ first_number es name
  found_number at [] = refl
  found_number at (e ∷ es) = by (found_number (at + entry_length e) es) (is_live e && bytes_eq e.name name) refl
    where
      rest : Option Record
      rest = find is_of (placed (at + entry_length e) es)

      by : number_or_none rest ≡ first_number es name → (b : Bool) → (is_live e && bytes_eq e.name name) ≡ b → number_or_none (cond (is_live e && bytes_eq e.name name) (Some (record { offset = at; entry = e })) rest) ≡
          (if is_live e && bytes_eq e.name name then Some e.number else first_number es name)
      by behind true h = ap (λ b. number_or_none (cond b (Some (record { offset = at; entry = e })) rest)) h ∙ sym (ap (λ b. if b then Some e.number else first_number es name) h)
      by behind false h =
          ap (λ b. number_or_none (cond b (Some (record { offset = at; entry = e })) rest)) h
          ∙ (behind ∙ sym (ap (λ b. if b then Some e.number else first_number es name) h))

  pub none_number : (bytes : List ℕ) → live_record bytes name ≡ None → first_number (entries_of bytes) name ≡ None
  none_number bytes is = sym (found_number 0 (entries_of bytes)) ∙ ap number_or_none is

  pub some_number : (bytes : List ℕ) (r : Record) → live_record bytes name ≡ Some r → first_number (entries_of bytes) name ≡ Some r.entry.number
  some_number bytes r is = sym (found_number 0 (entries_of bytes)) ∙ ap number_or_none is

  -- Lists of entries

  abbrev one : Entry → Option ℕ → Option ℕ
  one e rest = if is_live e && bytes_eq e.name name then Some e.number else rest

  -- entries of other names change nothing
  pub passed : (before behind : List Entry) → has_name before name ≡ false → first_number (before ++ behind) name ≡ first_number behind name
  passed [] behind none = refl
  passed (e ∷ before) behind none =
      let parts = or_parts (bytes_eq e.name name) (has_name before name) none in
      ap (λ b. if is_live e && b then Some e.number else first_number (before ++ behind) name) parts.0
      ∙ (dead (is_live e) (Some e.number) (first_number (before ++ behind) name) ∙ passed before behind parts.1)
    where
      dead : (b : Bool) (x y : Option ℕ) → (if b && false then x else y) ≡ y
      dead true x y = refl
      dead false x y = refl

  pub none_named : (es : List Entry) → has_name es name ≡ false → first_number es name ≡ None
  none_named [] none = refl
  none_named (e ∷ es) none =
      let parts = or_parts (bytes_eq e.name name) (has_name es name) none in
      ap (λ b. if is_live e && b then Some e.number else first_number es name) parts.0 ∙ (dead (is_live e) (Some e.number) (first_number es name) ∙ none_named es parts.1)
    where
      dead : (b : Bool) (x y : Option ℕ) → (if b && false then x else y) ≡ y
      dead true x y = refl
      dead false x y = refl

  -- one entry of another name is another
  pub other_entry : (before behind : List Entry) (e f : Entry) → bytes_eq e.name name ≡ false → bytes_eq f.name name ≡ false →
      first_number (before ++ f ∷ behind) name ≡ first_number (before ++ e ∷ behind) name
  other_entry [] behind e f isnt isnt' = without f isnt' ∙ sym (without e isnt)
    where
      dead : (b : Bool) (x y : Option ℕ) → (if b && false then x else y) ≡ y
      dead true x y = refl
      dead false x y = refl

      without : (e : Entry) → bytes_eq e.name name ≡ false → one e (first_number behind name) ≡ first_number behind name
      without e isnt = ap (λ b. if is_live e && b then Some e.number else first_number behind name) isnt ∙ dead (is_live e) (Some e.number) (first_number behind name)
  other_entry (d ∷ before) behind e f isnt isnt' = ap (one d) (other_entry before behind e f isnt isnt')

  -- the entry of the name itself, where it is the only one
  pub own_entry : (before behind : List Entry) (e : Entry) → has_name before name ≡ false → has_name behind name ≡ false → bytes_eq e.name name ≡ true →
      first_number (before ++ e ∷ behind) name ≡ (if e.number == 0 then None else Some e.number)
  own_entry before behind e none none' is =
      passed before (e ∷ behind) none
      ∙ (ap (λ b. if is_live e && b then Some e.number else first_number behind name) is
      ∙ (ap (λ x. if is_live e && true then Some e.number else x) (none_named behind none') ∙ live (e.number == 0)))
    where
      live : (b : Bool) → (if not b && true then Some e.number else None) ≡ (if b then None else Some e.number)
      live true = refl
      live false = refl

-- where names are single, none of the name stands before or behind
pub alone : (before behind : List Entry) (e : Entry) (name : List ℕ) → IsTrue (names_once (before ++ e ∷ behind)) → e.name ≡ name →
    (has_name before name ≡ false) × (has_name behind name ≡ false)
alone [] behind e name once is =
    let parts = and_parts (not (has_name behind e.name)) (names_once behind) once in
    (refl, ap (has_name behind) (sym is) ∙ not-true (has_name behind e.name) parts.0)
alone (d ∷ before) behind e name once is =
    let parts = and_parts (not (has_name (before ++ e ∷ behind) d.name)) (names_once (before ++ e ∷ behind)) once in
    let rest = alone before behind e name parts.1 is in
    let none = not-true (has_name (before ++ e ∷ behind) d.name) parts.0 in
    (or_none (bytes_eq d.name name) (has_name before name) (first none) rest.0, rest.1)
  where
    or_none : (x y : Bool) → x ≡ false → y ≡ false → (x || y) ≡ false
    or_none x y p q = (λ j. p j || q j)

    middle : (x y z : Bool) → (x || (y || z)) ≡ false → y ≡ false
    middle true y z h = absurd (true≢false h)
    middle false true z h = absurd (true≢false h)
    middle false false z h = refl

    first : has_name (before ++ e ∷ behind) d.name ≡ false → bytes_eq d.name name ≡ false
    first none =
        let test = λ (x : Entry). bytes_eq x.name d.name in
        let split = sym (list_any-append test before (e ∷ behind)) ∙ none in
        let isnt : bytes_eq e.name d.name ≡ false = middle (has_name before d.name) (bytes_eq e.name d.name) (has_name behind d.name) split in
        flipped d.name name (ap (λ n. bytes_eq n d.name) (sym is) ∙ isnt)
