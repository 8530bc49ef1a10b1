-- What the calls do that set attributes and times of inodes.
--     AttributesDoes       permissions, owner, and when the content changed
--     MtimeDoes            when the content changed, which a flush writes
use Rattle.std.specs.Prelude.{◌≡◌, ◌⊎◌, ℕ, ℤ, true, [], ◌∷◌, length, Result, Ok, Err, MatchResult, if◌then◌else◌}
use Rattle.xn_model.specs.Types.{Types}
use Rattle.xn_model.specs.Lives.{StoreState}
use Rattle.store_types.specs.declared.refusal.Refusal.TheVariants as refusal
use Rattle.treefs_model.specs.declared.fault.Fault.{Fault}
use Rattle.treefs_model.specs.declared.fault.Fault.TheVariants.{Full, Kernel}
use Rattle.treefs_model.specs.Files.{and_then}
use Rattle.treefs_lookup.specs.Inodes.{inode_found}
use Rattle.treefs_lookup.specs.Readable.{readable}
use Rattle.treefs_edits.specs.Memories.{Memory, with_touched}
use Rattle.treefs_edits.specs.Plans.{DoesPlanned}
use Rattle.treefs_edits.specs.Rooms.{has_room}
use Rattle.treefs_edits.specs.declared.tree.Tree.{Tree}
use Rattle.treefs_byte_plans.specs.Attributes.{attributes_plan, attributes_planned}
use Rattle.treefs_byte_plans.specs.declared.attributes.Attributes.{Attributes}
use Rattle.treefs.specs.Changed.{changed_volume}
use Rattle.treefs.specs.Unlinking.{as_plan}
use Rattle.treefs.specs.declared.volume.Volume.{Volume}

-- Attributes

abbrev pub attributes_volume : Volume → ℕ → Result (Unit {0}) Fault → Volume
attributes_volume volume number (Ok done) = changed_volume volume number true
attributes_volume volume number (Err fault) = volume

abbrev pub AttributesDoes : Types → StoreState → StoreState → Volume → Volume → ℕ → Attributes → Result (Unit {0}) Fault → Type 0
AttributesDoes T old new volume volume' number attributes result =
    DoesPlanned T volume.tree.fs.number (as_plan attributes_plan (attributes_planned old volume.tree volume.memory number attributes)) old new result
    × (volume' ≡ attributes_volume volume number result)

-- Times

-- there is room for the edit by which a flush writes it
abbrev pub mtime_planned : StoreState → Tree → Memory → ℕ → Result (Unit {0}) Fault
mtime_planned state tree memory number = and_then (inode_found (readable state tree.fs.number) tree.top number)
    (λ found. if has_room state tree.fs.number (length memory.touched) 1 ((found.block, 1) ∷ []) then Ok tt else Err Full)

abbrev pub mtime_volume : Volume → ℕ → ℤ → Volume
mtime_volume volume number mtime = record volume {
  memory = record volume.memory { touched = with_touched volume.memory.touched number (record { mtime = mtime; ctime = volume.memory.clock }) };
}

abbrev pub MtimeDoes : StoreState → Volume → Volume → ℕ → ℤ → Result (Unit {0}) Fault → Type 0
MtimeDoes state volume volume' number mtime result =
    let planned = mtime_planned state volume.tree volume.memory number in
    MatchResult result (λ done. (planned ≡ Ok tt) × (volume' ≡ mtime_volume volume number mtime))
    (λ fault. ((fault ≡ Kernel refusal.NoMemory) ⊎ (planned ≡ Err fault)) × (volume' ≡ volume))
