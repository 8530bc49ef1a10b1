use Rattle.std.proofs.Common.{◌≡◌, ◌∙◌, sym, ap, arith, ℕ, None, Some}
use Rattle.std.specs.Prelude.{is_some}
use Rattle.xn_model.specs.Calls.{pick_of}
use Rattle.xn_model.specs.Worlds.{World, drain_for}
use Rattle.world.specs.Worlds.{world_with}
use Rattle.xnsim_line.proofs.BlockWrites.{all_done, whole_drain}
use Rattle.xnsim_line.proofs.stopping.drain_counted.Goals as goal

pub returns-in-None-clause-some : goal.returns-in-None-clause-some
returns-in-None-clause-some g c =
    let w = world_with c.args.world.now in
    let after = world_with c.pick.new.world in
    let writes = c.write_at_most-writes.result in
    let rounds : drain_for c.args.limit 0 w ≡ (writes, after) = c.write_at_most-writes.ensures.rounds ∙ ap {A = World} (λ v. (writes, v)) (sym c.pick.ensures.same) in
    let none : pick_of after.state ≡ None = ap (λ (v : World). pick_of v.state) c.pick.ensures.same ∙ (sym c.pick.ensures.picked ∙ c.in-None.is) in
    let few = c.write_at_most-writes.ensures.few in
    let limit = c.requires.limit in
    let told = c.from.ensures in
    (whole_drain w c.args.fs.number c.args.limit writes after c.rules.ensures c.requires.up c.requires.calm rounds none, omega (arith, few, limit, told))

pub returns-in-Some-clause-none : goal.returns-in-Some-clause-none
returns-in-Some-clause-none g c =
    let w = world_with c.args.world.now in
    let after = world_with c.pick.new.world in
    let writes = c.write_at_most-writes.result in
    let left = c.args.left.now in
    let rounds : drain_for c.args.limit 0 w ≡ (writes, after) = c.write_at_most-writes.ensures.rounds ∙ ap {A = World} (λ v. (writes, v)) (sym c.pick.ensures.same) in
    let some : pick_of after.state ≡ Some c.in-Some._block = ap (λ (v : World). pick_of v.state) c.pick.ensures.same ∙ (sym c.pick.ensures.picked ∙ c.in-Some.is) in
    let all = all_done c.args.limit 0 w writes after c.in-Some._block rounds some in
    let limit = c.requires.limit in
    let same : writes ≡ left = omega (arith, all, limit) in
    record {
      up = c.requires.up;
      calm = c.requires.calm;
      rounds = ap (λ (n : ℕ). drain_for n 0 w) limit ∙ (rounds ∙ ap {A = ℕ} (λ n. (n, after)) same);
      more = ap is_some some;
    }
