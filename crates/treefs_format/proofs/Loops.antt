-- Loops over records.
use Rattle.std.proofs.Common.{◌≡◌, ℕ, ◌+◌, ◌-◌, ◌≤◌, List, [], ◌∷◌, ◌++◌, length, replicate, sym, take, refl, ap, ◌∙◌, arith, cond, not}
use Rattle.std.specs.Prelude.{filter, map}
use Rattle.std.proofs.lemmas.Bool.{ne_eqb}
use Rattle.std.proofs.lemmas.List.{append-nil, take_all}
use Rattle.treefs_format.specs.Buckets.{live_entries, rewritten}
use Rattle.treefs_format.specs.Records.{Entry, Record, end_of, entries_of, entry_length, is_live, joined, placed, records_of, total_length}
use Rattle.treefs_format.proofs.Parsed.{end_within, length-joined}
use Rattle.treefs_format.proofs.Made.{live_within}

abbrev pub entry_of : Record → Entry
entry_of r = r.entry

pub entries_placed : (at : ℕ) (es : List Entry) → map entry_of (placed at es) ≡ es
entries_placed at [] = refl
entries_placed at (e ∷ es) = ap (λ l. e ∷ l) (entries_placed (at + entry_length e) es)

-- so the entries of an iterator over the records of a bucket
pub entries_begun : (left : List Record) (bytes : List ℕ) → left ≡ records_of bytes → map entry_of left ≡ entries_of bytes
entries_begun left bytes e = ap (map entry_of) e ∙ entries_placed 0 (entries_of bytes)

pub ends_within : (bytes : List ℕ) → end_of bytes ≤ length bytes
unfolding entries_of
ends_within bytes = let within = end_within 0 bytes (omega arith) in omega arith

pub lives_within : (bytes : List ℕ) → total_length (live_entries bytes) ≤ length bytes
lives_within bytes = let fewer = live_within (entries_of bytes) in let within = ends_within bytes in omega arith

pub live_step : (left rest : List Record) (r : Record) → left ≡ r ∷ rest → (r.entry.number ≡ 0 → ⊥) →
    filter is_live (map entry_of left) ≡ r.entry ∷ filter is_live (map entry_of rest)
live_step left rest r e live =
    ap (λ l. filter is_live (map entry_of l)) e ∙ ap (λ b. cond (not b) (r.entry ∷ filter is_live (map entry_of rest)) (filter is_live (map entry_of rest))) (ne_eqb r.entry.number 0 live)

-- live records that were written, filled up with zeros
pub filled : (bytes written items : List ℕ) (left : List Record) (n long : ℕ) → n ≡ end_of bytes → long ≡ length written → left ≡ [] →
    written ++ joined (filter is_live (map entry_of left)) ≡ joined (live_entries bytes) → items ≡ take n written ++ replicate (n - long) 0 → items ≡ rewritten bytes
filled bytes written items left n long whole is_long none so_far is =
    let all : written ≡ joined (live_entries bytes) = sym (append-nil written) ∙ (ap (λ l. written ++ joined (filter is_live (map entry_of l))) (sym none) ∙ so_far) in
    let size : length written ≡ total_length (live_entries bytes) = ap length all ∙ length-joined (live_entries bytes) in
    let fewer = live_within (entries_of bytes) in
    let room : n - long ≡ end_of bytes - total_length (live_entries bytes) = omega arith in
    is ∙ (ap (λ l. l ++ replicate (n - long) 0) (take_all n written (omega arith) ∙ all) ∙ ap (λ k. joined (live_entries bytes) ++ replicate k 0) room)
