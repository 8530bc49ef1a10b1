use Rattle.crash_check.proofs.KnownImages.{known_fit}
use Rattle.crash_check.proofs.mounting.mount_known.Goals as goal

pub over-requires-clause-fit : goal.over-requires-clause-fit
over-requires-clause-fit g c =
    let known = c.requires.known in
    known_fit g.L.Lane.bytes_of c.args.lanes known.0 c.args.state known.1 known.2 known.3
