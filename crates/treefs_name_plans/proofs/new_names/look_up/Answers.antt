use Rattle.std.proofs.Common.{Err, Ok, ap, if◌then◌else◌}
use Rattle.std.specs.Prelude.{Result}
use Rattle.treefs_format.specs.Names.{is_name}
use Rattle.treefs_model.specs.Files.{and_then}
use Rattle.treefs_model.specs.declared.fault.Fault.{Fault}
use Rattle.treefs_model.specs.declared.fault.Fault.TheVariants.{BadName}
use Rattle.treefs_lookup.specs.Readable.{readable}
use Rattle.treefs_lookup.specs.declared.inodes.Found.{Found}
use Rattle.treefs_lookup.proofs.FoundInodes.{no_directories}
use Rattle.treefs_name_plans.proofs.new_names.look_up.Goals as goal

pub unreachable-requires : goal.unreachable-requires
unreachable-requires g c =
    let none = no_directories (readable (g.S.Store.state_of c.args.store.now) c.args.tree.fs.number) c.args.tree.top c.args.directory c.in_default.ensures in
    let fails = ap (λ (r : Result Found Fault). and_then r (λ directory. if is_name c.args.name.now then Ok directory else Err BadName)) none in
    let found = c.in_ok-block.ensures.found in
    absurd (cc (fails, found))
