use Rattle.std.proofs.Common.{refl}
use Rattle.xn_model.specs.Calls.{latest}
use Rattle.treefs_edits.proofs.Written.{acts_written}
use Rattle.treefs_edits.proofs.law.acts_write_patches.Goals as goal

pub returns : goal.returns
returns c = λ T fs acts old new h ran. acts_written T fs acts (latest old.lives) old new (h, λ b. refl) ran
