use Rattle.xn_kernel.proofs.Keeping.{begun_home, begun_so}
use Rattle.xn_kernel.proofs.kernel.Kernel.begin.Goals as goal

pub take-requires : goal.take-requires
take-requires g c =
    (begun_home g.L.Lane.bytes_of g.L.Lane.crash_leaves c.self.inside.lanes c.self.inside.state c.self.inside.state c.self.invariant c.args.block c.in_ok-count.count c.in_ok-count.ensures.count).2

pub unreachable-requires : goal.unreachable-requires
unreachable-requires g c =
    let here = begun_home g.L.Lane.bytes_of g.L.Lane.crash_leaves c.self.inside.lanes c.self.inside.state c.self.inside.state c.self.invariant c.args.block c.in_ok-count.count c.in_ok-count.ensures.count in
    let away = c.in_default.ensures.lane in
    let home = here.1 in
    cc

pub invariant_of-self : goal.invariant_of-self
invariant_of-self g c =
    rw c.take.ensures.rest (begun_so g.L.Lane.bytes_of g.L.Lane.crash_leaves c.self.inside.lanes c.self.inside.state c.begin_counted.new.self c.self.invariant c.args.block (c.begin_counted.result, c.in_ok-count.count) c.begin_counted.ensures)
