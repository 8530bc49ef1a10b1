use Rattle.std.proofs.Common.{◌≡◌, ◌≤◌, slice_index}
use Rattle.durable_floor.proofs.tests.watch.Given as goal

abbrev pub invariant-loop : goal.invariant-loop
invariant-loop l = (l.reader.floor ≡ l.floor) × (l.last ≤ slice_index l.reader.seen l.fs)
