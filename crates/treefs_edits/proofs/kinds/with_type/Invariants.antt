use Rattle.std.proofs.Common.{◌≡◌, ◌++◌, ℕ, drop, map}
use Rattle.treefs_edits.proofs.kinds.with_type.Given as goal

abbrev pub invariant-loop-block : goal.invariant-loop-block
invariant-loop-block l = l.adds.items ++ map (λ (b : ℕ). (b, l.ty)) (drop l.block-index l.blocks) ≡ map (λ (b : ℕ). (b, l.ty)) l.blocks
