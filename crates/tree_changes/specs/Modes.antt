-- Permissions that a mode gives.
--     bits_applied       permissions once bits of them are added, taken or set
--     clause_bits        the bits of a clause, of those whom it names
--     clause_applied     permissions behind a clause
--     mode_applied       permissions behind a mode: its octal number, or behind each of its clauses in their order
use Rattle.std.specs.Prelude.{ℕ, ◌==◌, bit_and, bit_or, bit_xor, Bool, ◌&&◌, ◌||◌, not, fold, unwrap_or, if◌then◌else◌}
use Rattle.tree_changes.specs.declared.modes.Clause.{Clause}
use Rattle.tree_changes.specs.declared.modes.Doing.{Doing}
use Rattle.tree_changes.specs.declared.modes.Doing.TheVariants.{Add, Set, Take}
use Rattle.tree_changes.specs.declared.modes.Modes.{Modes}

-- 4095: all twelve bits; mask: those that are set
abbrev pub bits_applied : Doing → ℕ → ℕ → ℕ → ℕ
bits_applied Add mask bits permissions = bit_or permissions bits
bits_applied Take mask bits permissions = bit_and permissions (bit_xor 4095 bits)
bits_applied Set mask bits permissions = bit_or (bit_and permissions (bit_xor 4095 mask)) bits

-- 73: the rights to execute, 0o111, which `X` is of a folder, or where some have it
abbrev pub clause_bits : Clause → ℕ → Bool → ℕ
clause_bits clause permissions is_folder =
    bit_and (if clause.is_large && (is_folder || not (bit_and permissions 73 == 0)) then bit_or clause.bits 73 else clause.bits) clause.mask

abbrev pub clause_applied : Clause → ℕ → Bool → ℕ
clause_applied clause permissions is_folder = bits_applied clause.doing clause.mask (clause_bits clause permissions is_folder) permissions

abbrev pub mode_applied : Modes → ℕ → Bool → ℕ
mode_applied modes permissions is_folder =
    unwrap_or modes.octal (fold (λ before clause. clause_applied clause before is_folder) permissions modes.clauses.items)
