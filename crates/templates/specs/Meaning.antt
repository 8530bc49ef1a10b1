-- What a template's programs mean on a block.
use Rattle.std.specs.Prelude.{ℕ, List, [], map, slice_index, Option, Some, None}
use Rattle.udf_verify.specs.Program.{Program, tree}
use Rattle.udf_run.specs.declared.pair.Pair.{Pair}
use Rattle.udf_run.specs.Meaning.{Machine, meaning, reset}

abbrev pub numbers_of_pair : Pair → ℕ × ℕ
numbers_of_pair p = (p.block, p.ty)

-- the pairs that a run leaves, and none where it traps
abbrev pub pairs_after : Option Machine → List (ℕ × ℕ)
pairs_after None = []
pairs_after (Some end) = map numbers_of_pair end.emitted

-- register 0 at the end of a run, and 0 where it traps
abbrev pub answer_after : Option Machine → ℕ
answer_after None = 0
answer_after (Some end) = slice_index end.registers 0

-- the blocks that an owns program says a block points to, each with its type
unfoldable pub owned_by : Program → List ℕ → List (ℕ × ℕ)
owned_by program m = pairs_after (meaning (tree program) m reset)

-- from which byte on a block is 0, by a size program
unfoldable pub answer_of : Program → List ℕ → ℕ
answer_of program m = answer_after (meaning (tree program) m reset)
