use Rattle.xn_kernel.proofs.Keeping.{drop_root_leaves}
use Rattle.xn_kernel.proofs.kernel.Kernel.drop_root.Goals as goal

pub invariant_of-self : goal.invariant_of-self
invariant_of-self g c =
    drop_root_leaves g.L.Lane.bytes_of g.L.Lane.crash_leaves c.self.inside.lanes c.self.inside.state c.drop_root.new.self c.self.invariant c.args.fs.number c.drop_root.result c.args.fs.few c.drop_root.ensures.state
