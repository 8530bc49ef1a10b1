use Rattle.std.proofs.Common.{ap, sym, ◌∙◌, Ok}
use Rattle.ffs_model.proofs.ForCallers.{root_found}
use Rattle.ffs_lookup.proofs.Newest.{kind_told, no_root, root_is, root_is_other}
use Rattle.ffs_lookup.proofs.places.root_block.Goals as goal

pub returns-then-branch-eq-ROOT-clause-root : goal.returns-then-branch-eq-ROOT-clause-root
returns-then-branch-eq-ROOT-clause-root g c =
    root_found (g.S.Store.types_of _) (g.S.Store.state_of _) c.root.ensures.rules c.args.fs.number c.in-Some.root c.args.fs.few (sym c.in-Some.ensures.block)
    (sym c.in_ok-kind.ensures.kind ∙ ap Ok c.if-branch-eq-ROOT.true)

pub returns-then-branch-eq-ROOT-clause-exact : goal.returns-then-branch-eq-ROOT-clause-exact
returns-then-branch-eq-ROOT-clause-exact g c =
    root_is (g.S.Store.types_of _) (g.S.Store.state_of _) c.root.ensures.rules c.args.fs.number c.args.fs.few c.in-Some.root c.in-Some.ensures.block _ c.in_ok-kind.ensures.kind c.if-branch-eq-ROOT.true

pub returns-else-branch-eq-ROOT-clause-exact : goal.returns-else-branch-eq-ROOT-clause-exact
returns-else-branch-eq-ROOT-clause-exact g c =
    root_is_other (g.S.Store.types_of _) (g.S.Store.state_of _) c.root.ensures.rules c.args.fs.number c.args.fs.few c.in-Some.root c.in-Some.ensures.block _ c.in_ok-kind.ensures.kind c.if-branch-eq-ROOT.false

pub returns-in_default-clause-exact : goal.returns-in_default-clause-exact
returns-in_default-clause-exact g c = no_root (g.S.Store.state_of c.args.store.now) c.args.fs.number c.in_default.ensures.block

pub returns-in_err-kind-clause-exact : goal.returns-in_err-kind-clause-exact
returns-in_err-kind-clause-exact g c =
    absurd (kind_told (g.S.Store.types_of _) (g.S.Store.state_of _) c.root.ensures.rules c.args.fs.number c.args.fs.few c.in-Some.root c.in-Some.ensures.block _ c.in_err-kind.ensures.kind)
