use Rattle.std.specs.Prelude.{Contains}
use Rattle.treefs_laws.proofs.FewBytes.{reaped_few}
use Rattle.treefs_laws.proofs.sizes.orphans_leave_few_bytes.Goals as goal

pub returns : goal.returns
returns c = λ numbers old new m reaped few. reaped_few (Contains numbers) old new m reaped few
