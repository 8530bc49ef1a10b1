use Rattle.std.proofs.Common.{◌≡◌, ◌≤◌, take, length, vec_len, vec_capacity}
use Rattle.std.specs.List.{AllZip}
use Rattle.shared.specs.Hubs.{MayAnswer}
use Rattle.shared.proofs.clients.worker.Given as goal

abbrev pub invariant-loop-call : goal.invariant-loop-call
invariant-loop-call g l = record {
  each : AllZip (MayAnswer g.L.Lane.bytes_of g.L.Lane.crash_leaves l.fs.number) (take l.call-index l.calls) l.answers.items;
  len : vec_len l.answers ≡ l.call-index;
  room : length l.calls ≤ vec_capacity l.answers;
}
