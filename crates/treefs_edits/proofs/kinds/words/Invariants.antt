use Rattle.std.proofs.Common.{◌≡◌, ◌++◌, drop}
use Rattle.treefs_format.specs.Numbers.{word_bytes}
use Rattle.treefs_edits.proofs.kinds.words.Given as goal

abbrev pub invariant-loop-block : goal.invariant-loop-block
invariant-loop-block l = l.bytes.items ++ word_bytes (drop l.block-index l.blocks) ≡ word_bytes l.blocks
