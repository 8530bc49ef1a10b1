use Rattle.std.proofs.Common.{ℕ, ◌<◌, ◌+◌}
use Rattle.ffs_model.specs.Volumes.{HasNoRoot}
use Rattle.xn_state.specs.States.{own_types}
use Rattle.volume_pair.specs.LibraryTypes.{IsLibraryType}
use Rattle.volume_pair.proofs.library.install_from.Given as goal

abbrev pub invariant-loop-place : goal.invariant-loop-place
invariant-loop-place l =
    ((i : ℕ) → i < l.place → IsLibraryType (own_types l.running.state) (3 + i))
    × ((fs : ℕ) → fs < 32 → HasNoRoot l.fn.running.state.lives fs → HasNoRoot l.running.state.lives fs)
