use Rattle.std.proofs.Common.{◌≢◌}
use Rattle.std.specs.Prelude.{All}
use Rattle.xn_state.specs.declared.call.Call.TheVariants.{Drain}
use Rattle.shared_scenes.proofs.at_once.edits.Given as goal

abbrev pub invariant-loop-byte : goal.invariant-loop-byte
invariant-loop-byte l = All (λ call. call ≢ Drain) l.calls.items
