-- The disk of a world, which is up or down.
use Rattle.std.specs.Prelude.{⊤}
use Rattle.world.specs.declared.world.WorldDisk.{WorldDisk}
use Rattle.world.specs.declared.world.WorldDisk.TheVariants.{Up, Down}
use Rattle.world.specs.Worlds.{WorldValue, down_value, IsSoundDisk}

abbrev pub disk_value : {A : Type 0} → WorldDisk A → WorldValue
disk_value (Up value) = value
disk_value (Down image) = down_value image

-- a disk that is down is sound
abbrev pub IsWorldDisk : {A : Type 0} → WorldDisk A → Type 0
IsWorldDisk (Up value) = ⊤
IsWorldDisk (Down image) = IsSoundDisk image
