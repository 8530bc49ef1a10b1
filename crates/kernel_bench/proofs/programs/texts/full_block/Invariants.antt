use Rattle.std.proofs.Common.{ℕ, ◌<◌, ◌≡◌, length}
use Rattle.std.specs.Prelude.{slice_index}
use Rattle.kernel_bench.proofs.programs.texts.full_block.Given as goal

-- no byte that was written is zero
abbrev pub invariant-loop-i : goal.invariant-loop-i
invariant-loop-i l = record {
  size : length l.block ≡ 512;
  written : (k : ℕ) → k < l.i → 0 < slice_index l.block k;
}
