-- Names that are one too many end: their numbers become 0.
use Rattle.std.specs.Prelude.{ℕ, List, map, None, Ok, Result}
use Rattle.xn_model.specs.Types.{Types}
use Rattle.xn_model.specs.Lives.{StoreState}
use Rattle.treefs_model.specs.Acts.{Act, number_act}
use Rattle.treefs_model.specs.declared.fault.Fault.{Fault}
use Rattle.treefs_lookup.specs.Readable.{readable}
use Rattle.treefs_edits.specs.declared.tree.Tree.{Tree}
use Rattle.treefs_mending.specs.InRoom.{DoesActs}
use Rattle.treefs_mending.specs.Names.{Name}
use Rattle.treefs_mending.specs.Surveys.{survey_of}

abbrev pub end_act : Name → Act
end_act name = number_act name.block name.offset 0 None

abbrev pub end_acts : List Name → List Act
end_acts names = map end_act names

-- of all that are one too many as the volume stands
abbrev pub MendsNames : Types → Tree → ℕ → StoreState → StoreState → Result (Unit {0}) Fault → Type 0
MendsNames T tree touched old new result =
    DoesActs T tree.fs.number touched (Ok (end_acts (survey_of (readable old tree.fs.number) tree.top).surplus)) old new result
