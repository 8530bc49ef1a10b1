use Rattle.xn_state.specs.Events.{reply_of}
use Rattle.volume_pair.proofs.InstalledTypes.{rootless_still, type_says, types_more}
use Rattle.volume_pair.proofs.library.install_at.Goals as goal

pub returns-clause-says : goal.returns-clause-says
returns-clause-says c told =
    type_says c.args.running.now c.step.new.self c.write_block-block.result c.write_block-block.type_inv.1.0.1 (reply_of c.step.result) c.rules.ensures c.step.ensures.step
    c.args.template.now c.args.place (rw c.write_block-block.ensures.bytes (c.templates_are_read.ensures c.args.template.now c.write_block-block.ensures.template)) (c.is_installed_at.ensures told)

pub returns-clause-more : goal.returns-clause-more
returns-clause-more c = types_more c.args.running.now c.step.new.self c.write_block-block.result c.write_block-block.type_inv.1.0.1 (reply_of c.step.result) c.rules.ensures c.step.ensures.step

pub returns-clause-rootless : goal.returns-clause-rootless
returns-clause-rootless c fs few none =
    rootless_still c.args.running.now c.step.new.self c.write_block-block.result c.write_block-block.type_inv.1.0.1 (reply_of c.step.result) c.rules.ensures c.step.ensures.step fs few none
