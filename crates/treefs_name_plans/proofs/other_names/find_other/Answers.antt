use Rattle.std.proofs.Common.{Ok, ap, inr}
use Rattle.treefs_name_plans.proofs.other_names.find_other.Goals as goal

pub returns-in-Some : goal.returns-in-Some
returns-in-Some g c = inr (c.in-Some.bucket, c.in-Some.ensures, ap Ok c.behind_other.ensures)
