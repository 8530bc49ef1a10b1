use Rattle.std.proofs.Common.{inl, inr}
use Rattle.tree_puts.proofs.putting.put_one.Goals as goal

pub returns-in-Folder-clause-does : goal.returns-in-Folder-clause-does
returns-in-Folder-clause-does g c wide = inr (
  c.in-Ok.attributes,
  c.in_ok-goal.goal,
  c.in_ok-goal.ensures,
  inl (c.in-Folder.is, c.put_one_folder.ensures.does wide),
)

pub returns-in_default-clause-does : goal.returns-in_default-clause-does
returns-in_default-clause-does g c wide = inr (
  c.in-Ok.attributes,
  c.in_ok-goal.goal,
  c.in_ok-goal.ensures,
  inr (c.in_default.not-Folder, c.put_one_file.ensures.does wide),
)
