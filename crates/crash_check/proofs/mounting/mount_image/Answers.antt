use Rattle.std.proofs.Common.{◌∙◌, map, ap}
use Rattle.xn_state.specs.Mounts.{found_of}
use Rattle.crash_check.proofs.Mounted.{are-found, own-table, sound, started, systems}
use Rattle.crash_check.proofs.mounting.mount_image.Goals as goal

pub found_blocks-requires : goal.found_blocks-requires
found_blocks-requires g c = systems c.args.image.now c.in-Ok.findings.named.entries c.in-Ok.ensures.verdict

pub start-requires-clause-found : goal.start-requires-clause-found
start-requires-clause-found g c =
    are-found c.args.image.now c.in-Ok.findings.named.entries c.in-Ok.ensures.verdict
    c.deref.result.now (ap (map found_of) c.deref.ensures.value ∙ c.in-Ok-found_blocks.ensures)

pub start-requires-clause-own : goal.start-requires-clause-own
start-requires-clause-own g c = own-table c.args.image.now c.in-Ok.findings.table c.in-Ok.ensures.table

pub returns-in-Ok-start-clause-sound : goal.returns-in-Ok-start-clause-sound
returns-in-Ok-start-clause-sound g c = sound c.args.image.now c.in-Ok.findings.named.entries c.in-Ok.ensures.verdict

pub returns-in-Ok-start-clause-value : goal.returns-in-Ok-start-clause-value
returns-in-Ok-start-clause-value g c =
    started c.args.image.now c.in-Ok.findings.named.entries c.in-Ok.ensures.verdict
    c.deref.result.now (ap (map found_of) c.deref.ensures.value ∙ c.in-Ok-found_blocks.ensures) c.args.id c.args.lanes c.in-Ok-start.kernel c.in-Ok-start.ensures.ok
