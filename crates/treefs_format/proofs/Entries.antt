-- Bytes that begin with records: their first one, and those behind it.
use Rattle.std.proofs.Common.{◌≡◌, ℕ, zero, suc, ◌+◌, ◌<◌, ◌≤◌, List, [], ◌∷◌, length, take, drop, refl, sym, ◌∙◌, ap, Bool, true, false, arith}
use Rattle.std.specs.Prelude.{if◌then◌else◌, nat_le, nat_lt}
use Rattle.std.proofs.lemmas.Bool.{and_parts, leb-true, ltb-true}
use Rattle.std.proofs.lemmas.List.{length-drop, length-take-le}
use Rattle.xn_model.specs.Root.{word_at}
use Rattle.treefs_format.specs.Records.{Entry, begins_record, entries_behind, entries_of, first_entry, name_length, placed}

-- a record that bytes begin with ends within them, and has a name
pub name_fits : (bytes : List ℕ) → begins_record bytes ≡ true → 5 + name_length bytes ≤ length bytes
name_fits bytes e = leb-true (5 + name_length bytes) (length bytes) (and_parts (nat_lt 0 (name_length bytes)) (nat_le (5 + name_length bytes) (length bytes)) e).1

pub name_some : (bytes : List ℕ) → begins_record bytes ≡ true → 0 < name_length bytes
name_some bytes e = ltb-true 0 (name_length bytes) (and_parts (nat_lt 0 (name_length bytes)) (nat_le (5 + name_length bytes) (length bytes)) e).0

pub behind_drop : (n : ℕ) (bytes : List ℕ) → entries_behind n bytes ≡ entries_of (drop n bytes)
unfolding entries_of
behind_drop zero bytes = refl
behind_drop (suc n) [] = refl
behind_drop (suc n) (x ∷ bytes) = behind_drop n bytes

pub entries_none : (bytes : List ℕ) → begins_record bytes ≡ false → entries_of bytes ≡ []
unfolding entries_of
entries_none [] e = refl
entries_none (x ∷ bytes) e = ap (λ (b : Bool). if b then first_entry (x ∷ bytes) ∷ entries_behind (4 + name_length (x ∷ bytes)) bytes else []) e

pub entries_first : (bytes : List ℕ) → begins_record bytes ≡ true → entries_of bytes ≡ first_entry bytes ∷ entries_of (drop (5 + name_length bytes) bytes)
unfolding entries_of
entries_first [] e = cc
entries_first (x ∷ bytes) e =
    let n = name_length (x ∷ bytes) in
    let one : 5 + n ≡ suc (4 + n) = omega arith in
    ap (λ (b : Bool). if b then first_entry (x ∷ bytes) ∷ entries_behind (4 + n) bytes else []) e
    ∙ ap (λ l. first_entry (x ∷ bytes) ∷ l) (behind_drop (4 + n) bytes ∙ ap (λ k. entries_behind 0 (drop k (x ∷ bytes))) (sym one))

-- what is left of records once the first of them is read
pub first_left : (at : ℕ) (bytes : List ℕ) (n number : ℕ) (name rest : List ℕ) → begins_record bytes ≡ true → n ≡ name_length bytes → number ≡ word_at bytes 0 → name ≡ take n (drop 5 bytes) → rest ≡ drop (5 + n) bytes →
    placed at (entries_of bytes) ≡ record { offset = at; entry = record { number = number; name = name } } ∷ placed (at + (5 + n)) (entries_of rest)
first_left at bytes n number name rest begins is_length is_number is_name is_rest =
    let first : Entry = record { number = number; name = name } in
    let same_name : name ≡ (first_entry bytes).name = is_name ∙ ap (λ k. take k (drop 5 bytes)) is_length in
    let same : first_entry bytes ≡ first = λ i. record { number = sym is_number i; name = sym same_name i } in
    let same_rest : drop (5 + name_length bytes) bytes ≡ rest = ap (λ k. drop (5 + k) bytes) (sym is_length) ∙ sym is_rest in
    let long : length name ≡ n = ap length is_name ∙ length-take-le n (drop 5 bytes) (let whole = length-drop 5 bytes in let fits = name_fits bytes begins in omega arith) in
    ap (placed at) (entries_first bytes begins ∙ ap (λ e. e ∷ entries_of (drop (5 + name_length bytes) bytes)) same ∙ ap (λ l. first ∷ entries_of l) same_rest)
    ∙ ap (λ k. record { offset = at; entry = first } ∷ placed (at + (5 + k)) (entries_of rest)) long
