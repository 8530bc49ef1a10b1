-- The places of a row, where one is set, and where more are made.
use Rattle.std.proofs.Common.{◌≡◌, ℕ, ◌+◌, ◌-◌, ◌<◌, ◌≤◌, List, ◌++◌, length, replicate, Option, None, sym, ◌∙◌, ap, arith}
use Rattle.std.specs.Prelude.{slice_get, slice_index_or, slice_set, unwrap_or}
use Rattle.std.proofs.lemmas.List.{append_assoc, length-append, length-replicate, length-set, replicate-append-replicate, set-append_left}
use Rattle.std.proofs.lemmas.Option.{unwrap_or-slice_get}
use Rattle.reserved_row.specs.Rows.{row_of}

pub set_made : {T : Type 0} (blank : T) (places : ℕ) (made row : List T) (place : ℕ) (value : T) → place < length made → row_of blank places made ≡ row →
    row_of blank places (slice_set made place value) ≡ slice_set row place value
set_made {T} blank places made row place value there is =
    ap (λ n. slice_set made place value ++ replicate (places - n) blank) (length-set made place value)
    ∙ (sym (set-append_left made (replicate (places - length made) blank) place value there) ∙ ap (λ (xs : List T). slice_set xs place value) is)

pub extended : {T : Type 0} (blank : T) (places : ℕ) (made longer : List T) (count : ℕ) → length made ≤ count → count ≤ places →
    longer ≡ made ++ replicate (count - length made) blank → row_of blank places longer ≡ row_of blank places made
extended {T} blank places made longer count more few is =
    ap (λ (xs : List T). row_of blank places xs) is ∙ (append_assoc made (replicate new blank) (replicate left blank)
    ∙ (ap (λ (blanks : List T). made ++ blanks) (replicate-append-replicate new left blank)
    ∙ ap (λ n. made ++ replicate n blank) (omega (arith, more, few, long))))
  where
    new : ℕ
    new = count - length made

    left : ℕ
    left = places - length (made ++ replicate new blank)

    long : length (made ++ replicate new blank) ≡ length made + new
    long = length-append made (replicate new blank) ∙ ap (λ n. length made + n) (length-replicate new blank)

pub none_past : {T : Type 0} (row : List (Option T)) (place : ℕ) (item : Option (Option T)) → item ≡ slice_get row place → item ≡ None →
    None ≡ slice_index_or row place None
none_past {T} row place item is none =
    ap (λ (o : Option (Option T)). unwrap_or o None) (sym none ∙ is) ∙ unwrap_or-slice_get row place None
