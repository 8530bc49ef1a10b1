use Rattle.disk.proofs.Held.{HoldsBytes-same, HoldsBytes-missing}
use Rattle.disk.proofs.mem.MemDisk.join.Goals as goal

pub returns-in-Some-clause-missing : goal.returns-in-Some-clause-missing
returns-in-Some-clause-missing c =
    λ missing. absurd (HoldsBytes-missing (λ lane. lane.bytes) c.args.lanes c.in-Some.bytes.items missing c.in-Some.ensures.some)

pub returns-in-Some-clause-only : goal.returns-in-Some-clause-only
returns-in-Some-clause-only c =
    λ image held. HoldsBytes-same (λ lane. lane.bytes) c.args.lanes c.in-Some.bytes.items image c.in-Some.ensures.some held
