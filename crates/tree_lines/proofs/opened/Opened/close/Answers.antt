use Rattle.tree_lines.proofs.opened.Opened.close.Goals as goal

pub returns-in-Ok-clause-written : goal.returns-in-Ok-clause-written
returns-in-Ok-clause-written g c =
    let old = c.args.self.session in
    c.closes_and_syncs_write.ensures.closes (g.S.Store.types_of old.store) (g.S.Store.state_of old.store) (g.S.Store.state_of c.in-Ok.store) old.volume
    c.in-Ok.ensures.ok.1
