use Rattle.std.proofs.Common.{◌≡◌, ◌∙◌, ◌+◌, ◌≤◌, suc, cond, sym, refl, ap, arith, subst, Result}
use Rattle.disk.specs.declared.lane.DeviceFault.{DeviceFault}
use Rattle.xn_kernel.specs.Flushes.{HoldsOneOf, IsUnderWay, WriteEnds, wave_room}
use Rattle.xn_kernel.proofs.WaveWrites.{Ending, room_serves, none_ended, all_ended, next, next_ticket, next_rest, next_under_way, next_ended}
use Rattle.xn_kernel.proofs.kernel.Kernel.wave.Goals as goal
use Rattle.xn_kernel.proofs.kernel.Kernel.wave.Goals.{then-end_write, else-end_write}

pub loop-ended-init : goal.loop-ended-init
loop-ended-init g c =
    let begun = c.begin_wave-blocks.ensures in
    let serves = room_serves g.L.Lane.bytes_of g.L.Lane.crash_leaves g.L.Lane.faults_of g.L.Lane.write_gives c.begin_wave-blocks.result c.args.room c.args.self.now c.begin_wave-blocks.new.self c.begin_wave-blocks.new.tickets.items begun.written begun.most c.requires.serves in
    let long = begun.length in
    record {
      ending = none_ended g.L.Lane.bytes_of g.L.Lane.crash_leaves g.L.Lane.faults_of g.L.Lane.write_gives g.L.Lane.sync_gives g.L.Lane.read_gives c.begin_wave-blocks.result c.args.self.now c.begin_wave-blocks.new.self c.begin_wave-blocks.new.tickets.items begun.written serves;
      within = omega arith;
      most = omega (arith, long);
      least = omega (arith, long);
      capacity = begun.capacity;
    }

pub end_write-requires-clause-under_way : goal.end_write-requires-clause-under_way
end_write-requires-clause-under_way g c =
    let n = c.begin_wave-blocks.result in
    let m = next g.L.Lane.bytes_of g.L.Lane.crash_leaves g.L.Lane.faults_of g.L.Lane.write_gives g.L.Lane.sync_gives g.L.Lane.read_gives n c.args.self.now c.loop-ended.ended c.loop-ended.durable c.loop-ended.self c.loop-ended.tickets.items c.loop-ended-test.true c.loop-ended.invariant.ending in
    let same = next_ticket g.L.Lane.bytes_of g.L.Lane.crash_leaves g.L.Lane.faults_of g.L.Lane.write_gives g.L.Lane.sync_gives g.L.Lane.read_gives n c.args.self.now c.loop-ended.ended c.loop-ended.durable c.loop-ended.self c.loop-ended.tickets.items m _ refl c.remove-ticket.result c.remove-ticket.ensures.value in
    subst (λ t. IsUnderWay g.L.Lane.bytes_of c.loop-ended.self t) (sym same)
    (next_under_way g.L.Lane.bytes_of g.L.Lane.crash_leaves g.L.Lane.faults_of g.L.Lane.write_gives g.L.Lane.sync_gives g.L.Lane.read_gives n c.args.self.now c.loop-ended.ended c.loop-ended.durable c.loop-ended.self c.loop-ended.tickets.items m)

pub loop-ended-preserved : goal.loop-ended-preserved
loop-ended-preserved g c =
    let n = c.begin_wave-blocks.result in
    let old = c.args.self.now in
    let ended = c.loop-ended.ended in
    let durable = c.loop-ended.durable in
    let now = c.loop-ended.self in
    let tickets = c.loop-ended.tickets.items in
    let new = c.end_write.new.self in
    let after = c.end_write.new.failed.items in
    let m = next g.L.Lane.bytes_of g.L.Lane.crash_leaves g.L.Lane.faults_of g.L.Lane.write_gives g.L.Lane.sync_gives g.L.Lane.read_gives n old ended durable now tickets c.loop-ended-test.true c.loop-ended.invariant.ending in
    let same = next_ticket g.L.Lane.bytes_of g.L.Lane.crash_leaves g.L.Lane.faults_of g.L.Lane.write_gives g.L.Lane.sync_gives g.L.Lane.read_gives n old ended durable now tickets m _ refl c.remove-ticket.result c.remove-ticket.ensures.value in
    let ends = subst (λ t. (answer : Result (Unit {0}) DeviceFault) (home : g.row.L.Denot) → HoldsOneOf g.L.Lane.bytes_of answer home t →
    WriteEnds g.L.Lane.bytes_of g.L.Lane.faults_of g.L.Lane.sync_gives g.L.Lane.read_gives answer home t now c.remove-ticket.new.self.items c.end_write.result new after) same c.end_write.ensures.ends in
    let few : n ≤ wave_room = let a = c.begin_wave-blocks.ensures.few in let b = c.requires.few in omega (arith, a, b) in
    let ending = next_ended g.L.Lane.bytes_of g.L.Lane.crash_leaves g.L.Lane.faults_of g.L.Lane.write_gives g.L.Lane.sync_gives g.L.Lane.read_gives n old ended durable now tickets m few c.end_write.result new c.remove-ticket.new.self.items after (c.remove-ticket.ensures.items ∙ next_rest g.L.Lane.bytes_of g.L.Lane.crash_leaves g.L.Lane.faults_of g.L.Lane.write_gives g.L.Lane.sync_gives g.L.Lane.read_gives n old ended durable now tickets m _ refl) ends in
    let before = c.loop-ended.invariant in
    let removed = c.remove-ticket.ensures.len in
    let kept = c.remove-ticket.ensures.capacity in
    let capacity = c.end_write.ensures.capacity in
    let long = c.end_write.ensures.length in
    elim c.if-end_write.branch [
      | then-end_write w ↦
          let count : cond c.end_write.result (suc durable) durable ≡ c.if-end_write.durable = ap (λ t. cond t (suc durable) durable) w.if-end_write.true ∙ omega (arith, w.durable-is) in
          let stays = c.end_write.ensures.stays w.if-end_write.true in
          record {
            ending = subst (λ d. Ending g.L.Lane.bytes_of g.L.Lane.crash_leaves g.L.Lane.faults_of g.L.Lane.write_gives g.L.Lane.sync_gives g.L.Lane.read_gives n old (ended + 1) d new after) count ending;
            within = omega (arith, before.within, w.durable-is);
            most = omega (arith, before.most, w.durable-is, stays, removed);
            least = omega (arith, before.least, stays, removed);
            capacity = omega (arith, before.capacity, kept, capacity);
          }
      | else-end_write w ↦
          let count : cond c.end_write.result (suc durable) durable ≡ c.if-end_write.durable = ap (λ t. cond t (suc durable) durable) w.if-end_write.false ∙ sym w.durable-is in
          record {
            ending = subst (λ d. Ending g.L.Lane.bytes_of g.L.Lane.crash_leaves g.L.Lane.faults_of g.L.Lane.write_gives g.L.Lane.sync_gives g.L.Lane.read_gives n old (ended + 1) d new after) count ending;
            within = omega (arith, before.within, w.durable-is);
            most = omega (arith, before.most, w.durable-is, long.1, removed);
            least = omega (arith, before.least, long.0, removed);
            capacity = omega (arith, before.capacity, kept, capacity);
          }
    ]

pub returns-clause-wave : goal.returns-clause-wave
returns-clause-wave g c =
    let n = c.begin_wave-blocks.result in
    let now = c.loop-ended.self in
    let tickets = c.loop-ended.tickets.items in
    let all : c.loop-ended.ended ≡ n = omega (arith, c.loop-ended.auto.ended-end, c.loop-ended-test.false) in
    all_ended g.L.Lane.bytes_of g.L.Lane.crash_leaves g.L.Lane.faults_of g.L.Lane.write_gives g.L.Lane.sync_gives g.L.Lane.read_gives n c.loop-ended.durable c.args.self.now now tickets
    (subst (λ k. Ending g.L.Lane.bytes_of g.L.Lane.crash_leaves g.L.Lane.faults_of g.L.Lane.write_gives g.L.Lane.sync_gives g.L.Lane.read_gives n c.args.self.now k c.loop-ended.durable now tickets) all c.loop-ended.invariant.ending)
