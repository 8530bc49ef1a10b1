-- A name has at most 255 bytes.
use Rattle.std.proofs.Common.{◌≡◌, ℕ, ◌≤◌, List, length, true}
use Rattle.std.specs.Prelude.{◌&&◌, nat_le, not}
use Rattle.std.specs.List.{list_all}
use Rattle.std.proofs.lemmas.Bool.{and_parts, leb-true}
use Rattle.treefs_format.specs.Names.{is_dots, is_name, is_name_byte}

pub named_short : (name : List ℕ) → is_name name ≡ true → length name ≤ 255
named_short name good =
    let long = and_parts (nat_le 1 (length name) && nat_le (length name) 255) (list_all is_name_byte name && not (is_dots name)) good in
    leb-true (length name) 255 (and_parts (nat_le 1 (length name)) (nat_le (length name) 255) long.0).1
