use Rattle.std.proofs.Common.{arith, tests}
use Rattle.std.proofs.lemmas.Nat.{one_shl, pow_pos}
use Rattle.std.proofs.lemmas.Nat.Bits.{and_pow}
use Rattle.udf_run.proofs.reads.ReadSet.has.Goals as goal

pub returns : goal.returns
returns c = grind (arith, tests, one_shl c.args.chunk 64 c.requires, and_pow c.args.self.chunks c.args.chunk, pow_pos c.args.chunk)
