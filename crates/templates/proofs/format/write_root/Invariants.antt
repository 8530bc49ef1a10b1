use Rattle.std.proofs.Common.{◌≡◌}
use Rattle.templates.proofs.FreshImages.{root_front}
use Rattle.templates.proofs.format.write_root.Given as goal

abbrev pub invariant-loop-i : goal.invariant-loop-i
invariant-loop-i l = l.image.items ≡ root_front l.blocks l.i
