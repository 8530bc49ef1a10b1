use Rattle.std.proofs.Common.{◌≡◌, ◌+◌, ap, arith, subst, sym, ◌∙◌, true, false}
use Rattle.std.specs.Prelude.{is_ok}
use Rattle.ffs_model.specs.Cuts.{latest}
use Rattle.xn_model.specs.Calls.{free_of}
use Rattle.ffs_lookup.specs.Newest.{inode_in}
use Rattle.xnfs_session.specs.Sessions.{is_used}
use Rattle.xnfs_session.proofs.Looks.{UsedTo, same_found, usage_is, used_all, used_more}
use Rattle.xnfs_session.proofs.session.Session.usage.Goals as goal
use Rattle.xnfs_session.proofs.session.Session.usage.Goals.{then-is_ok, else-is_ok}

pub loop-index-preserved : goal.loop-index-preserved
loop-index-preserved g c =
    let index = c.loop-index.index in
    let is = is_used (latest (g.S.Store.state_of c.args.self.now.store).lives) c.args.self.now.fs in
    let found = same_found (λ found. found.inode) c.find_inode.result (inode_in (latest (g.S.Store.state_of c.self.inside.store).lives) c.self.inside.fs.number (index + 1)) (c.find_inode.ensures.exact c.self.invariant.0.library) in
    let at : is (index + 1) ≡ is_ok c.find_inode.result =
    subst (λ v. is_used (latest (g.S.Store.state_of v.store).lives) v.fs (index + 1) ≡ is_ok c.find_inode.result) c.self.view_is
    (ap (λ fs. is_used (latest (g.S.Store.state_of c.self.inside.store).lives) fs.number (index + 1)) c.self.invariant.1 ∙ found) in
    elim c.if-is_ok.branch [
      | then-is_ok w ↦ subst (UsedTo is (index + 1)) (sym w.used_inodes-is)
          (used_more is index c.loop-index.used_inodes true c.loop-index-test.true (at ∙ (sym c.is_ok.ensures.value ∙ w.if-is_ok.true)) c.loop-index.invariant)
      | else-is_ok w ↦ subst (UsedTo is (index + 1)) (sym w.used_inodes-is)
          (used_more is index c.loop-index.used_inodes false c.loop-index-test.true (at ∙ (sym c.is_ok.ensures.value ∙ w.if-is_ok.false)) c.loop-index.invariant)
    ]

pub returns : goal.returns
returns g c =
    let is = is_used (latest (g.S.Store.state_of c.args.self.now.store).lives) c.args.self.now.fs in
    let past = c.loop-index-test.false in
    let within = c.loop-index.auto.index-end in
    let whole : c.loop-index.index ≡ 128 = omega arith in
    usage_is _ _ _ _ (c.free.ensures ∙ ap free_of c.state.ensures.state ∙ ap (λ v. free_of (g.S.Store.state_of v.store)) c.self.view_is)
    (used_all (latest (g.S.Store.state_of c.args.self.now.store).lives) c.args.self.now.fs c.loop-index.used_inodes
    (subst (λ n. UsedTo is n c.loop-index.used_inodes) whole c.loop-index.invariant))
