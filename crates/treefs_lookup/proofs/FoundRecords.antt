-- Records that are found in a bucket.
use Rattle.std.proofs.Common.{◌≡◌, ℕ, ◌+◌, ◌≤◌, Bool, true, false, cond, List, [], ◌∷◌, length, Some, find, arith}
use Rattle.treefs_format.specs.Records.{Entry, Record, end_of, entries_of, entry_length, placed, records_of, total_length}

-- they begin before the end of the records
found_first : (p : Record → Bool) (at : ℕ) (e : Entry) (es : List Entry) (r : Record) →
    (find p (placed (at + entry_length e) es) ≡ Some r → r.offset ≤ at + entry_length e + total_length es) →
    (t : Bool) → cond t (Some (record { offset = at; entry = e })) (find p (placed (at + entry_length e) es)) ≡ Some r → r.offset ≤ at + (entry_length e + total_length es)
found_first p at e es r rest true is = let same : at ≡ r.offset = cc in omega arith
found_first p at e es r rest false is = let le = rest is in omega arith

found_before : (p : Record → Bool) (at : ℕ) (es : List Entry) (r : Record) → find p (placed at es) ≡ Some r → r.offset ≤ at + total_length es
found_before p at [] r is = cc
found_before p at (e ∷ es) r is =
    found_first p at e es r (found_before p (at + entry_length e) es r) (p (record { offset = at; entry = e })) is

pub found_within : (p : Record → Bool) (bytes : List ℕ) (r : Record) → end_of bytes ≤ length bytes → Some r ≡ find p (records_of bytes) → r.offset ≤ length bytes
found_within p bytes r within is =
    let back : find p (records_of bytes) ≡ Some r = cc in
    let le = found_before p 0 (entries_of bytes) r back in omega arith
