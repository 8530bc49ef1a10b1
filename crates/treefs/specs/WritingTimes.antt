-- What write_times does: the times that no edit has written yet are written, one inode after another, in the order in which they were first touched.
--     times_planned      what it takes to write those of an inode
--     WritesTimes        one inode after another
--     WriteTimesDoes     what write_times does
use Rattle.std.specs.Prelude.{◌≡◌, ◌⊎◌, nat_lt, List, [], ◌∷◌, Option, None, Some, Result, Ok, Err, MatchResult, option_map, if◌then◌else◌}
use Rattle.xn_model.specs.Lives.{StoreState}
use Rattle.xn_model.specs.PendingIn.{pending_in_of}
use Rattle.xn_model.specs.Types.{Types}
use Rattle.treefs_model.specs.declared.fault.Fault.{Fault}
use Rattle.treefs_model.specs.declared.fault.Fault.TheVariants.{Full}
use Rattle.treefs_lookup.specs.Inodes.{inode_found}
use Rattle.treefs_lookup.specs.Readable.{readable}
use Rattle.treefs_lookup.specs.declared.inodes.Found.{Found}
use Rattle.treefs_edits.specs.Plans.{Plan}
use Rattle.treefs_edits.specs.declared.memory.Touched.{Touched}
use Rattle.treefs_edits.specs.declared.times.Times.{Times}
use Rattle.treefs_edits.specs.declared.tree.Tree.{Tree}
use Rattle.treefs_byte_plans.specs.Attributes.{attributes_plan}
use Rattle.treefs_byte_plans.specs.declared.attributes.AttributesPlan.{AttributesPlan}
use Rattle.treefs.specs.Trimming.{DoesIfAny}
use Rattle.treefs.specs.declared.volume.Volume.{Volume}

-- both times by one patch, where the block has fewer than 64 entries
abbrev pub times_in_room : StoreState → Times → Found → Result (Option AttributesPlan) Fault
times_in_room state times found =
    if nat_lt (pending_in_of state found.block) 64 then Ok (Some (record { block = found.block; mode = None; owner = None; times = times })) else Err Full

-- nothing of an inode that is not there any more
abbrev pub times_found : StoreState → Times → Result Found Fault → Result (Option AttributesPlan) Fault
times_found state times (Ok found) = times_in_room state times found
times_found state times (Err fault) = Ok None

abbrev pub times_planned : StoreState → Tree → Touched → Result (Option AttributesPlan) Fault
times_planned state tree touch = times_found state touch.times (inode_found (readable state tree.fs.number) tree.top touch.number)

abbrev pub plan_of_times : Result (Option AttributesPlan) Fault → Result (Option Plan) Fault
plan_of_times (Ok plan) = Ok (option_map attributes_plan plan)
plan_of_times (Err fault) = Err fault

abbrev pub WritesOne : Types → Tree → Touched → StoreState → StoreState → Result (Unit {0}) Fault → Type 0
WritesOne T tree touch old new result = DoesIfAny T tree.fs.number (plan_of_times (times_planned old tree touch)) old new result

-- left: those that are not written yet once it ends
abbrev pub WritesTimes : Types → Tree → List Touched → List Touched → StoreState → StoreState → Result (Unit {0}) Fault → Type 0
WritesTimes T tree [] left old new result = (result ≡ Ok tt) × (new ≡ old) × (left ≡ [])
WritesTimes T tree (touch ∷ rest) left old new result =
    (MatchResult result (λ done. ⊥) (λ fault. WritesOne T tree touch old new (Err fault)) × (left ≡ touch ∷ rest))
    ⊎ ((middle : StoreState) × WritesOne T tree touch old middle (Ok tt) × WritesTimes T tree rest left middle new result)

abbrev pub WriteTimesDoes : Types → StoreState → StoreState → Volume → Volume → Result (Unit {0}) Fault → Type 0
WriteTimesDoes T old new volume volume' result =
    (left : List Touched) × WritesTimes T volume.tree volume.memory.touched left old new result
    × (volume' ≡ record volume { memory = record volume.memory { touched = left } })
