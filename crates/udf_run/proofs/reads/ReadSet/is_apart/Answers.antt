use Rattle.std.proofs.Common.{◌≡◌, ℕ, ◌*◌, ◌/◌, max, ap, refl, arith}
use Rattle.std.specs.Int.{bit_at}
use Rattle.std.proofs.lemmas.Bool.{false≢true}
use Rattle.udf_run.proofs.reads.ReadSet.is_apart.Goals as goal

pub returns-then-has : goal.returns-then-has
returns-then-has c = (
  λ e. absurd (false≢true e),
  λ apart.
      let chunk = c.loop-chunk.chunk in
      let set = c.has.ensures.0 c.if-has.true in
      let i : ℕ = max c.args.first (8 * chunk) in
      let here : i / 8 ≡ chunk = omega (arith, c.loop-chunk.auto.chunk, c.loop-chunk-test.true) in
      let clear = apart i (omega arith) (omega (arith, c.loop-chunk.auto.chunk, c.loop-chunk-test.true)) in
      absurd (omega (arith, set, clear, ap (bit_at c.args.self.chunks) here)),
)

pub returns : goal.returns
returns c = (λ e i low high. c.loop-chunk.invariant (i / 8) (omega (arith, low)) (omega (arith, high, c.loop-chunk-test.false)), λ apart. refl)
