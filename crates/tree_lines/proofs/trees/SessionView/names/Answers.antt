use Rattle.std.proofs.Common.{refl}
use Rattle.tree_lines.proofs.NamesRead.{listed}
use Rattle.tree_lines.proofs.trees.SessionView.names.Goals as goal

pub returns-in-Ok : goal.returns-in-Ok
returns-in-Ok g c =
    let session = c.args.self.now in
    listed (g.S.Store.state_of session.store) session.volume c.args.folder c.in-Ok.names.items c.sort_unstable.new.self.items _ (λ a b. refl) c.in-Ok.ensures
    c.sort_unstable.ensures.permutation c.sort_unstable.ensures.sorted
