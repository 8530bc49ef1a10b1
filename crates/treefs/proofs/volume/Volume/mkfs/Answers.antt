use Rattle.std.proofs.Common.{◌≡◌, ◌∙◌, ℤ, Err, Ok, ap, inr, of_z, subst, to_z, w64}
use Rattle.std.proofs.Math.Facts.{to_z-of_z}
use Rattle.xn_model.specs.Types.{Types}
use Rattle.treefs_edits.specs.Memories.{Memory}
use Rattle.treefs_edits.specs.Plans.{Does}
use Rattle.treefs.specs.Making.{first_plan, fresh_memory, tree_at}
use Rattle.treefs.specs.declared.volume.Volume.{Volume}
use Rattle.treefs.proofs.volume.Volume.mkfs.Goals as goal

pub returns-in-Err-carry_out-clause-does : goal.returns-in-Err-carry_out-clause-does
returns-in-Err-carry_out-clause-does g c =
    let T = g.S.Store.types_of c.args.store.now in
    let fs = c.args.fs.number in
    let tree = tree_at c.args.fs c.args.types c.in-Ok.top in
    let middle = g.S.Store.state_of c.prepare_root.new.store in
    let new = g.S.Store.state_of c.carry_out.new.store in
    let fault = c.in-Err-carry_out.fault in
    let time_is : to_z w64 (of_z w64 c.args.time) ≡ c.args.time = to_z-of_z {w = w64} {z = c.args.time} c.ranges.time in
    let there = subst (λ (t : Types). Does t fs (first_plan tree (to_z w64 (of_z w64 c.args.time))) middle new (Err fault)) c.prepare_root.ensures.types c.in-Err-carry_out.ensures.does in
    let does = subst (λ (z : ℤ). Does T fs (first_plan tree z) middle new (Err fault)) time_is there in
    inr (c.in-Ok.top, middle, c.in-Ok.ensures.has, (does, tt))

pub returns-clause-does : goal.returns-clause-does
returns-clause-does g c =
    let T = g.S.Store.types_of c.args.store.now in
    let fs = c.args.fs.number in
    let tree = tree_at c.args.fs c.args.types c.in-Ok.top in
    let middle = g.S.Store.state_of c.prepare_root.new.store in
    let new = g.S.Store.state_of c.carry_out.new.store in
    let time_is : to_z w64 (of_z w64 c.args.time) ≡ c.args.time = to_z-of_z {w = w64} {z = c.args.time} c.ranges.time in
    let there = subst (λ (t : Types). Does t fs (first_plan tree (to_z w64 (of_z w64 c.args.time))) middle new (Ok tt)) c.prepare_root.ensures.types c.in_default.ensures.does in
    let does = subst (λ (z : ℤ). Does T fs (first_plan tree z) middle new (Ok tt)) time_is there in
    let memory = c.fresh_memory.ensures ∙ ap fresh_memory time_is in
    inr (c.in-Ok.top, middle, c.in-Ok.ensures.has, (does, ap (λ (m : Memory). let v : Volume = record { tree = tree; memory = m } in v) memory))
