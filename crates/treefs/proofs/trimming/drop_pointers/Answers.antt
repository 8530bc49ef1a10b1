use Rattle.std.proofs.Common.{◌≡◌, ℕ, ◌+◌, ◌-◌, ◌<◌, ◌∙◌, Err, None, Ok, Some, arith, refl, subst}
use Rattle.xn_model.specs.Types.{Types}
use Rattle.treefs_model.specs.declared.fault.Fault.TheVariants.{Full}
use Rattle.treefs_byte_plans.specs.Drops.{drop_plan}
use Rattle.treefs_edits.specs.Plans.{Does}
use Rattle.treefs.specs.Trimming.{Drops, most_drops}
use Rattle.treefs.proofs.Dropping.{last_drop, most_is, no_drop, one_drop}
use Rattle.treefs.proofs.trimming.drop_pointers.Goals as goal

pub loop-drop-init : goal.loop-drop-init
loop-drop-init g c =
    let T = g.S.Store.types_of c.args.store.now in
    let state = g.S.Store.state_of c.args.store.now in
    let same : most_drops - 0 ≡ most_drops = omega arith in
    record {
      types = refl;
      goes = λ new result h. subst (λ (k : ℕ). Drops T c.args.tree.fs.number c.args.memory.now c.args.kept k state new result) same h;
    }

pub returns-in-Ok-None-clause-does : goal.returns-in-Ok-None-clause-does
returns-in-Ok-None-clause-does g c =
    let T = g.S.Store.types_of c.args.store.now in
    let state = g.S.Store.state_of c.loop-drop.store in
    let left : 0 < most_drops - c.loop-drop._drop = omega (arith, most_is) in
    let planned = rw c.in-Ok-None.field-0-is at c.in-Ok-None.ensures in
    c.loop-drop.invariant.goes state (Ok tt)
    (last_drop T c.args.tree.fs.number c.args.memory.now c.args.kept (most_drops - c.loop-drop._drop) (Ok None) state state (Ok tt) left planned (refl, refl))

pub returns-in-Err-clause-does : goal.returns-in-Err-clause-does
returns-in-Err-clause-does g c =
    let T = g.S.Store.types_of c.args.store.now in
    let state = g.S.Store.state_of c.loop-drop.store in
    let left : 0 < most_drops - c.loop-drop._drop = omega (arith, most_is) in
    c.loop-drop.invariant.goes state (Err c.in-Err.fault)
    (last_drop T c.args.tree.fs.number c.args.memory.now c.args.kept (most_drops - c.loop-drop._drop) (Err c.in-Err.fault) state state (Err c.in-Err.fault) left
    c.in-Err.ensures (refl, refl))

pub returns-in-Err-carry_out-clause-does : goal.returns-in-Err-carry_out-clause-does
returns-in-Err-carry_out-clause-does g c =
    let T = g.S.Store.types_of c.args.store.now in
    let state = g.S.Store.state_of c.loop-drop.store in
    let new = g.S.Store.state_of c.carry_out.new.store in
    let plan = c.in-Ok-Some.plan in
    let left : 0 < most_drops - c.loop-drop._drop = omega (arith, most_is) in
    let planned = rw c.in-Ok-Some.field-0-is at c.in-Ok-Some.ensures in
    let does = subst (λ (t : Types). Does t c.args.tree.fs.number (drop_plan plan) state new (Err c.in-Err-carry_out.fault)) c.loop-drop.invariant.types c.in-Err-carry_out.ensures.does in
    c.loop-drop.invariant.goes new (Err c.in-Err-carry_out.fault)
    (last_drop T c.args.tree.fs.number c.args.memory.now c.args.kept (most_drops - c.loop-drop._drop) (Ok (Some plan)) state new (Err c.in-Err-carry_out.fault) left planned does)

pub loop-drop-preserved : goal.loop-drop-preserved
loop-drop-preserved g c =
    let T = g.S.Store.types_of c.args.store.now in
    let state = g.S.Store.state_of c.loop-drop.store in
    let middle = g.S.Store.state_of c.carry_out.new.store in
    let plan = c.in-Ok-Some.plan in
    let left : 0 < most_drops - c.loop-drop._drop = omega (arith, most_is) in
    let less : most_drops - (c.loop-drop._drop + 1) ≡ most_drops - c.loop-drop._drop - 1 = omega arith in
    let planned = rw c.in-Ok-Some.field-0-is at c.in-Ok-Some.ensures in
    let does = subst (λ (t : Types). Does t c.args.tree.fs.number (drop_plan plan) state middle (Ok tt)) c.loop-drop.invariant.types c.in_default.ensures.does in
    record {
      types = c.carry_out.ensures.types ∙ c.loop-drop.invariant.types;
      goes = λ new result h. c.loop-drop.invariant.goes new result
          (one_drop T c.args.tree.fs.number c.args.memory.now c.args.kept (most_drops - c.loop-drop._drop) plan state middle new result left planned does
          (subst (λ (k : ℕ). Drops T c.args.tree.fs.number c.args.memory.now c.args.kept k middle new result) less h));
    }

pub returns-clause-does : goal.returns-clause-does
returns-clause-does g c =
    let T = g.S.Store.types_of c.args.store.now in
    let state = g.S.Store.state_of c.loop-drop.store in
    let none : most_drops - c.loop-drop._drop ≡ 0 = omega (arith, most_is) in
    c.loop-drop.invariant.goes state (Err Full) (no_drop T c.args.tree.fs.number c.args.memory.now c.args.kept (most_drops - c.loop-drop._drop) state none)
