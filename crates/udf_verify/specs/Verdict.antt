-- Which programs are accepted.
use Rattle.std.specs.Prelude.{ℕ, ◌+◌, ◌*◌, max, Bool, true, nat_le, List, Result, IsOk}
use Rattle.udf_code.specs.declared.word.Word.{Word}
use Rattle.udf_code.specs.declared.word.Word.TheVariants.{Emit}
use Rattle.udf_code.specs.Tree.{Tree, Stop, Plain, If, IfElse, Loop}
use Rattle.udf_verify.specs.declared.fault.Role.{Role}
use Rattle.udf_verify.specs.declared.fault.Role.TheVariants as role
use Rattle.udf_verify.specs.declared.fault.FaultKind.TheVariants as kind
use Rattle.udf_verify.specs.declared.fault.VerifyFault.{VerifyFault}
use Rattle.udf_verify.specs.Intervals.{Interval}
use Rattle.udf_verify.specs.Intervals.{start, high_of}
use Rattle.udf_verify.specs.Bounds.{◌>>=◌, demand, placed, size, no_register, bounds}

-- the greatest number of steps
abbrev pub cost : Tree → ℕ
cost Stop = 0
cost (Plain word rest) = 1 + cost rest
cost (If test a b first rest) = 1 + cost first + cost rest
cost (IfElse test a b first other rest) = 1 + max (cost first) (cost other) + cost rest
cost (Loop a n claims body rest) = 1 + n * (1 + cost body) + cost rest

abbrev pub word_emits : Word → ℕ
word_emits (Emit a b) = 1
word_emits word = 0

-- the greatest number of pairs
abbrev pub emits : Tree → ℕ
emits Stop = 0
emits (Plain word rest) = word_emits word + emits rest
emits (If test a b first rest) = emits first + emits rest
emits (IfElse test a b first other rest) = max (emits first) (emits other) + emits rest
emits (Loop a n claims body rest) = n * emits body + emits rest

abbrev pub cost_limit : Role → ℕ
cost_limit role.Owns = 8192
cost_limit role.Size = 1024

-- the greatest number of pairs that a run may emit
abbrev pub pairs_limit : Role → ℕ
pairs_limit role.Owns = 128
pairs_limit role.Size = 0

-- the answer of a size program is at most a block's bytes
abbrev pub answer_fits : Role → List Interval → Bool
answer_fits role.Owns ivs = true
answer_fits role.Size ivs = nat_le (high_of ivs 0) 512

-- the intervals at the end, or the first fault
abbrev pub program_verdict : Role → Tree → Result (List Interval) VerifyFault
program_verdict role tree = do
  final ← bounds role no_register 0 tree start
  _ ← placed (size tree) (demand (nat_le (emits tree) 128) kind.Emits (tt {0}))
  _ ← placed (size tree) (demand (nat_le (cost tree) (cost_limit role)) kind.Cost (tt {0}))
  placed (size tree) (demand (answer_fits role final) kind.SizeAnswer final)

abbrev pub IsAccepted : Role → Tree → Type 0
IsAccepted role tree = IsOk (program_verdict role tree)
