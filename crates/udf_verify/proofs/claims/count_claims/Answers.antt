use Rattle.std.proofs.Common.{arith}
use Rattle.udf_verify.proofs.Claimed.{count_more, count_ends}
use Rattle.udf_verify.proofs.claims.count_claims.Goals as goal

pub loop-count-preserved : goal.loop-count-preserved
loop-count-preserved c = (
  omega arith,
  λ claims body t e.
      let i = c.loop-count.invariant.1 claims body t e in
      count_more _ _ _ _ _ _ _ c.loop-count-test.true c.in-Keep.is t i.1,
)

pub returns-in_default : goal.returns-in_default
returns-in_default c = record {
  within = c.loop-count.invariant.0;
  exact = λ claims body t e.
      let i = c.loop-count.invariant.1 claims body t e in
      count_ends _ claims body _ _ c.loop-count-test.true c.in_default.not-Keep i.0 i.1;
}
