use Rattle.std.proofs.Common.{◌≡◌, ◌+◌}
use Rattle.xn_model.specs.Lives.{life_at, prefix_of}
use Rattle.dependencies.proofs.Prefixes.{rest_safe}
use Rattle.dependencies.proofs.index.Index.awaited.Given as goal

abbrev pub invariant-loop-place : goal.invariant-loop-place
invariant-loop-place l = prefix_of l.cache (life_at l.cache l.block) ≡ l.place + rest_safe l.cache l.place (life_at l.cache l.block)
