-- What an accepted program is within.
use Rattle.std.proofs.Common.{◌≡◌, ◌≤◌, true, leb, List, refl, sym, ap, ◌∙◌}
use Rattle.std.specs.Prelude.{Result, Ok, Err, IsOk}
use Rattle.std.proofs.lemmas.Bool.{leb-true}
use Rattle.udf_code.specs.Tree.{Tree}
use Rattle.udf_verify.specs.declared.fault.Role.{Role}
use Rattle.udf_verify.specs.declared.fault.VerifyFault.{VerifyFault}
use Rattle.udf_verify.specs.declared.fault.FaultKind.TheVariants as kind
use Rattle.udf_verify.specs.Intervals.{Interval}
use Rattle.udf_verify.specs.Intervals.{start}
use Rattle.udf_verify.specs.Bounds.{demand, placed, size, no_register, bounds}
use Rattle.udf_verify.specs.Verdict.{cost, emits, program_verdict, cost_limit, answer_fits}
use Rattle.udf_verify.proofs.Parts.{bind_ok, placed_ok, demand_ok}

-- what a verdict that is Ok is
pub record IsGood (role : Role) (tree : Tree) (final : List Interval) : Type 0 where
  pub bounded : bounds role no_register 0 tree start ≡ Ok final
  pub few : emits tree ≤ 128
  pub cheap : cost tree ≤ cost_limit role
  pub fits : answer_fits role final ≡ true

pub verdict_ok : (role : Role) (tree : Tree) (final : List Interval) → program_verdict role tree ≡ Ok final → IsGood role tree final
verdict_ok role tree final h =
    let few = demand (leb (emits tree) 128) kind.Emits (tt {0}) in
    let cheap = demand (leb (cost tree) (cost_limit role)) kind.Cost (tt {0}) in
    let x = bind_ok (bounds role no_register 0 tree start) _ final h in
    let y = bind_ok {A = Unit {0}} (placed (size tree) few) _ final x.2 in
    let z = bind_ok {A = Unit {0}} (placed (size tree) cheap) _ final y.2 in
    let fit = demand (answer_fits role x.0) kind.SizeAnswer x.0 in
    record {
      bounded = x.1 ∙ ap Ok (demand_ok (answer_fits role x.0) kind.SizeAnswer x.0 final (placed_ok (size tree) fit final z.2)).1;
      few = leb-true (emits tree) 128 (demand_ok (leb (emits tree) 128) kind.Emits (tt {0}) y.0 (placed_ok (size tree) few y.0 y.1)).0;
      fits = let d = demand_ok (answer_fits role x.0) kind.SizeAnswer x.0 final (placed_ok (size tree) fit final z.2) in ap (answer_fits role) (sym d.1) ∙ d.0;
      cheap = leb-true (cost tree) (cost_limit role) (demand_ok (leb (cost tree) (cost_limit role)) kind.Cost (tt {0}) z.0 (placed_ok (size tree) cheap z.0 z.1)).0;
    }

pub some_verdict : (r : Result (List Interval) VerifyFault) → IsOk r → (final : List Interval) × (r ≡ Ok final)
some_verdict (Ok x) h = (x, refl)
some_verdict (Err e) h = absurd (cc)
