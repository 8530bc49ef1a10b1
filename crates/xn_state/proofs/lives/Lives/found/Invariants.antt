use Rattle.std.proofs.Common.{◌≡◌, length, map, replicate, take, None}
use Rattle.std.specs.Prelude.{is_none}
use Rattle.xn_state.proofs.Finding.{all_put}
use Rattle.xn_state.proofs.lives.Lives.found.Given as goal

abbrev pub invariant-loop-block : goal.invariant-loop-block
invariant-loop-block l = (l.places ≡ all_put (replicate (length l.blocks) None) (take l.block-index l.found)) × (l.free ≡ map is_none l.places) × (length l.places ≡ length l.blocks)
