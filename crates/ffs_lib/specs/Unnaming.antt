-- The entry of a directory that another entry of the same directory names too.
--     may_unname    of two entries of a directory: they stand at two places and name one inode, which is not that directory
--     unname_in     the entry that is found by its name, where it and the one that is found by another name may be told apart so
use Rattle.std.specs.Prelude.{ℕ, Bool, not, ◌&&◌, ◌==◌, List, Result, Ok, Err, if◌then◌else◌}
use Rattle.ffs_lookup.specs.Newest.{and_then, directory_in, named_in}
use Rattle.ffs_lookup.specs.declared.fault.FfsFault.{FfsFault}
use Rattle.ffs_lookup.specs.declared.fault.FfsFault.TheVariants.{Exists}
use Rattle.ffs_lookup.specs.declared.places.Slot.{Slot}

abbrev pub may_unname : ℕ → Slot → Slot → Bool
may_unname d entry kept = (entry.inode == kept.inode) && (not (entry.inode == d) && not ((entry.block == kept.block) && (entry.place == kept.place)))

abbrev pub if_again : ℕ → Slot → Slot → List ℕ → Result Slot FfsFault
if_again d entry kept inode = if may_unname d entry kept then Ok entry else Err Exists

unfoldable pub unname_in : (ℕ → List ℕ) → ℕ → ℕ → List ℕ → List ℕ → Result Slot FfsFault
unname_in content fs d name other =
    and_then (named_in content fs d name) (λ entry. and_then (named_in content fs d other) (λ kept.
    and_then (directory_in content fs entry.inode) (if_again d entry kept)))
