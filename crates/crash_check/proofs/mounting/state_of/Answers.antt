use Rattle.std.proofs.Common.{◌∙◌, map, ap}
use Rattle.xn_state.specs.Mounts.{found_of}
use Rattle.crash_check.proofs.Mounted.{are-found, found-state, own-table, sound, systems}
use Rattle.crash_check.proofs.mounting.state_of.Goals as goal

pub found_blocks-requires : goal.found_blocks-requires
found_blocks-requires g c = systems c.args.image.now c.in_ok-findings.findings.named.entries c.in_ok-findings.ensures.verdict

pub new-requires-clause-found : goal.new-requires-clause-found
new-requires-clause-found g c =
    are-found c.args.image.now c.in_ok-findings.findings.named.entries c.in_ok-findings.ensures.verdict
    c.deref.result.now (ap (map found_of) c.deref.ensures.value ∙ c.in-Ok.ensures)

pub new-requires-clause-own : goal.new-requires-clause-own
new-requires-clause-own g c = own-table c.args.image.now c.in_ok-findings.findings.table c.in_ok-findings.ensures.table

pub returns-in-Ok-new-clause-sound : goal.returns-in-Ok-new-clause-sound
returns-in-Ok-new-clause-sound g c = sound c.args.image.now c.in_ok-findings.findings.named.entries c.in_ok-findings.ensures.verdict

pub returns-in-Ok-new-clause-value : goal.returns-in-Ok-new-clause-value
returns-in-Ok-new-clause-value g c =
    found-state c.args.image.now c.in_ok-findings.findings.named.entries c.in_ok-findings.ensures.verdict
    c.deref.result.now (ap (map found_of) c.deref.ensures.value ∙ c.in-Ok.ensures) c.in-Ok-new.state c.in-Ok-new.ensures.value
