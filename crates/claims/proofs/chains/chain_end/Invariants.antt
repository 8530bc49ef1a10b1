use Rattle.std.proofs.Common.{◌≡◌, ◌-◌, length}
use Rattle.xn_model.specs.Lives.{chain_end, climb}
use Rattle.claims.proofs.chains.chain_end.Given as goal

abbrev pub invariant-loop : goal.invariant-loop
invariant-loop l = climb (length l.cache - l.counter) l.cache l.at ≡ chain_end l.cache l.block
