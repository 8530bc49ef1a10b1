use Rattle.std.proofs.Common.{◌∙◌, ap}
use Rattle.world.specs.Worlds.{world_with}
use Rattle.world.proofs.ForCallers.{no_fault}
use Rattle.volume_pair.proofs.Fresh.{bare_keeps, bare_remounted}
use Rattle.volume_pair.proofs.files.running.Files+Running.bare.Goals as goal

pub with_library-requires : goal.with_library-requires
with_library-requires g c =
    let size = no_fault c.args.blocks 0 c.in-Ok.ensures.0 in
    bare_remounted c.args.blocks size.0.0 c.in-Ok-into_running.running (ap world_with c.in-Ok-into_running.ensures.ok.0 ∙ c.in-Ok.ensures.1) c.rules.ensures

pub new-requires-clause-kept : goal.new-requires-clause-kept
new-requires-clause-kept g c fs few =
    let size = no_fault c.args.blocks 0 c.in-Ok.ensures.0 in
    record {
      library = c.in-Some.ensures.has.library;
      few = few;
      keeps = c.in-Some.ensures.keeps fs few (bare_keeps c.args.blocks size.0.0 c.in-Ok-into_running.running (ap world_with c.in-Ok-into_running.ensures.ok.0 ∙ c.in-Ok.ensures.1) c.rules.ensures fs few);
      mine = tt;
    }
