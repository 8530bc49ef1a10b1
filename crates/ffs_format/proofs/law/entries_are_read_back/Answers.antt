use Rattle.std.proofs.Common.{ℕ, ◌-◌, ◌≤◌, not, ◌&&◌, List, ◌++◌, length, take, replicate, ap, ◌∙◌}
use Rattle.std.specs.Prelude.{nat_le, IsTrue}
use Rattle.std.specs.List.{list_all}
use Rattle.std.proofs.Math.Nat.{min-eq_left}
use Rattle.std.proofs.Math.Seq.{take-append_seam}
use Rattle.std.proofs.lemmas.Bool.{and_parts, leb-true}
use Rattle.std.proofs.lemmas.Nat.{from_le_bytes-to_le_bytes_2}
use Rattle.ffs_model.specs.Library.{half_at}
use Rattle.ffs_format.specs.Entries.{is_dots, is_name, is_name_byte, is_name_length}
use Rattle.ffs_format.proofs.law.entries_are_read_back.Goals as goal

pub returns-clause-inode : goal.returns-clause-inode
unfolding half_at
returns-clause-inode c = λ inode name few. from_le_bytes-to_le_bytes_2 inode few

short : (name : List ℕ) → IsTrue (is_name name) → length name ≤ 28
short name named =
    let tests = (and_parts (is_name_length (length name) && list_all is_name_byte name) (not (is_dots name)) named).0 in
    let long = (and_parts (is_name_length (length name)) (list_all is_name_byte name) tests).0 in
    leb-true (length name) 28 (and_parts (nat_le 1 (length name)) (nat_le (length name) 28) long).1

pub returns-clause-name : goal.returns-clause-name
returns-clause-name c = λ inode name named.
    let pad = replicate {A = ℕ} (28 - length name) 0 in
    ap (λ n. take n (name ++ pad)) (min-eq_left (short name named)) ∙ take-append_seam name pad
