use Rattle.std.proofs.Common.{◌≡◌, ◌∙◌, None, Some, length, sym, ap, subst, slice_set}
use Rattle.std.specs.Prelude.{option_map, unwrap_or}
use Rattle.disk.specs.Mem.{MemoryLane, crashed_lane}
use Rattle.xn_kernel.proofs.ForCallers.{set_twice}
use Rattle.world.specs.Disks.{lane_at, IsLong}
use Rattle.world.proofs.Places.{place_at-same}
use Rattle.world.proofs.unmounted.crash_lane.Goals as goal

pub returns-in-None-clause-crashed : goal.returns-in-None-clause-crashed
returns-in-None-clause-crashed g c =
    let none : lane_at c.args.lanes.now c.args.block ≡ None = ap (λ o. unwrap_or o None) c.take.ensures.lane ∙ c.in-None.is in
    c.take.ensures.rest ∙ ap (slice_set c.args.lanes.now c.args.block) (sym (ap (option_map (λ lane. crashed_lane lane c.args.kept)) none))

pub returns-in-None-clause-long : goal.returns-in-None-clause-long
returns-in-None-clause-long g c = subst IsLong (sym (ap (λ ls. lane_at ls c.args.block) c.take.ensures.rest ∙ place_at-same c.args.lanes.now c.args.block None c.requires)) tt

pub returns-in-Ok-clause-crashed : goal.returns-in-Ok-clause-crashed
returns-in-Ok-clause-crashed g c =
    let here : lane_at c.args.lanes.now c.args.block ≡ Some c.in-Some.lane = ap (λ o. unwrap_or o None) c.take.ensures.lane ∙ c.in-Some.is in
    let number : c.crash.new.self.number ≡ c.args.block = ap (λ (l : MemoryLane). l.number) c.crash.ensures ∙ c.in-Some.ensures.number in
    c.in-Ok.ensures.ok ∙ (λ i. slice_set (c.take.ensures.rest i) (number i) (Some (c.crash.ensures i)))
    ∙ set_twice c.args.lanes.now c.args.block None (Some (crashed_lane c.in-Some.lane c.args.kept))
    ∙ ap (slice_set c.args.lanes.now c.args.block) (sym (ap (option_map (λ lane. crashed_lane lane c.args.kept)) here))

pub returns-in-Ok-clause-long : goal.returns-in-Ok-clause-long
returns-in-Ok-clause-long g c =
    let number : c.crash.new.self.number ≡ c.args.block = ap (λ (l : MemoryLane). l.number) c.crash.ensures ∙ c.in-Some.ensures.number in
    let after = c.in-Ok.ensures.ok ∙ (λ i. slice_set (c.take.ensures.rest i) (number i) (Some c.crash.new.self)) ∙ set_twice c.args.lanes.now c.args.block None (Some c.crash.new.self) in
    let there : lane_at c.give.new.self c.args.block ≡ Some c.crash.new.self = ap (λ ls. lane_at ls c.args.block) after ∙ place_at-same c.args.lanes.now c.args.block (Some c.crash.new.self) c.requires in
    subst IsLong (sym there) (ap length (sym c.bytes.ensures) ∙ c.is_whole.ensures)
