use Rattle.std.proofs.Common.{◌≡◌, ◌++◌, map}
use Rattle.ffs_lib.proofs.Common.{names_at, range_with_len}
use Rattle.ffs_lib.proofs.volume.add_names.Given as goal

abbrev pub invariant-loop-place : goal.invariant-loop-place
invariant-loop-place l = map (λ name. (name.0.items, name.1)) l.names.items ≡ map (λ name. (name.0.items, name.1)) l.fn.names.items ++ names_at l.block (range_with_len 0 l.place)
