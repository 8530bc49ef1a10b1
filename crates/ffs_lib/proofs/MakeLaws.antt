-- What is said of an inode that is named, for the types and the file system of before.
use Rattle.std.proofs.Common.{◌≡◌, ℕ, List, Result, Ok, true, subst}
use Rattle.ffs_lib.proofs.Common.{FfsFault, StoreState, Types, directory_in, has_room, latest}
use Rattle.ffs_lib.specs.Results.{MadeEntry}
use Rattle.ffs_lib.specs.Steps.{Leaves, StopsNew}
use Rattle.ffs_lib.specs.declared.volume.Volume.{Volume}

abbrev Names : Types → ℕ → StoreState → StoreState → ℕ → List ℕ → ℕ → ℕ → Volume → Result ℕ FfsFault → Type 0
Names T fs middle new d name mode number volume result = (inode : List ℕ) → Ok inode ≡ directory_in (latest middle.lives) fs d → has_room (latest middle.lives) inode ≡ true →
    Leaves T volume new result (λ n. MadeEntry (latest middle.lives) (latest new.lives) fs d name mode n × (n ≡ number)) (StopsNew T fs middle new d name mode number)

pub named_by : (made T : Types) (other fs : ℕ) (middle new : StoreState) (d : ℕ) (name : List ℕ) (mode number : ℕ) (volume : Volume) (result : Result ℕ FfsFault) → other ≡ fs → made ≡ T → Names made other middle new d name mode number volume result →
    Names T fs middle new d name mode number volume result
named_by made T other fs middle new d name mode number volume result e f names =
    subst (λ (t : Types). Names t fs middle new d name mode number volume result) f (subst (λ (x : ℕ). Names made x middle new d name mode number volume result) e names)
