use Rattle.std.proofs.Common.{◌∙◌, refl, arith}
use Rattle.ffs_lib.proofs.Parting.{none_left, parts_none}
use Rattle.ffs_lib.proofs.data.write_parts.Goals as goal

pub loop-progress-init : goal.loop-progress-init
loop-progress-init g c = record {
  types = refl;
  none = refl;
  few = omega arith;
  parts = λ T array e s ok. parts_none T c.args.fs.number array (g.S.Store.state_of c.args.store.now) c.args.number c.args.end c.args.offset c.args.bytes.now s;
}

pub returns-then-is_some-clause-parts : goal.returns-then-is_some-clause-parts
returns-then-is_some-clause-parts g c = λ T array e s ok.
    let inv = c.loop-progress.invariant in
    c.write_part-progress.ensures.parts T array (g.S.Store.state_of c.args.store.now) (inv.types ∙ e) ok (inv.parts T array e s ok)

pub loop-progress-preserved : goal.loop-progress-preserved
loop-progress-preserved g c =
    let inv = c.loop-progress.invariant in
    record {
      types = c.write_part-progress.ensures.types ∙ inv.types;
      none = none_left c.write_part-progress.result.fault c.is_some.result c.if-is_some.false c.is_some.ensures;
      few = let more = c.write_part-progress.ensures.few in omega (arith, more);
      parts = λ T array e s ok. c.write_part-progress.ensures.parts T array (g.S.Store.state_of c.args.store.now) (inv.types ∙ e) ok (inv.parts T array e s ok);
    }

pub loop-progress-smaller : goal.loop-progress-smaller
loop-progress-smaller g c =
    let more = c.write_part-progress.ensures.falls (none_left c.write_part-progress.result.fault c.is_some.result c.if-is_some.false c.is_some.ensures) in
    omega (arith, more, c.write_part-progress.ensures.few)
