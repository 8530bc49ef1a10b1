use Rattle.std.proofs.Common.{◌≤◌, length}
use Rattle.player.proofs.transcript.play_lines.Given as goal

abbrev pub invariant-loop : goal.invariant-loop
invariant-loop g l = (l.played ≤ l.start) × (l.start ≤ length l.lines)
