use Rattle.treefs_name_plans.proofs.rmdir.has_bucket.Goals as goal

pub returns-in-Some : goal.returns-in-Some
returns-in-Some g c = (c.in-Some.field-0, c.in-Some.ensures)
