use Rattle.std.proofs.Common.{sym, ◌∙◌}
use Rattle.ffs_lookup.proofs.ForCallers.{kind_told, not_ok}
use Rattle.ffs_lib.proofs.Tops.{has_inodes, has_none, has_others, no_root_yet, root_bare, root_reached, root_taken}
use Rattle.ffs_lib.proofs.setup.is_begun.Goals as goal

pub returns-in_default : goal.returns-in_default
returns-in_default g c = no_root_yet (g.S.Store.state_of c.args.store.now) c.args.fs.number c.in_default.ensures.block

pub returns-in_err-kind : goal.returns-in_err-kind
returns-in_err-kind g c =
    absurd (kind_told (g.S.Store.types_of _) (g.S.Store.state_of _) c.root.ensures.rules c.args.fs.number c.args.fs.few c.in-Some.root c.in-Some.ensures.block _ c.in_err-kind.ensures.kind)

pub returns-then-branch-ne-ROOT : goal.returns-then-branch-ne-ROOT
returns-then-branch-ne-ROOT g c =
    root_taken (g.S.Store.types_of _) (g.S.Store.state_of _) c.root.ensures.rules c.args.fs.number c.args.fs.few c.in-Some.root c.in-Some.ensures.block _ c.in_ok-kind.ensures.kind c.if-branch-ne-ROOT.true

pub returns-in_err-bytes : goal.returns-in_err-bytes
returns-in_err-bytes g c =
    absurd (not_ok (c.in_err-bytes.ensures.reached _
    (root_reached (g.S.Store.types_of _) (g.S.Store.state_of _) c.root.ensures.rules c.args.fs.number c.args.fs.few c.in-Some.root c.in-Some.ensures.block _ c.in_ok-kind.ensures.kind)))

pub returns-then-pointer-ne0 : goal.returns-then-pointer-ne0
returns-then-pointer-ne0 g c =
    has_inodes c.in_ok-bytes.bytes.now (λ e. c.if-pointer-ne0.true (c.pointer.ensures ∙ e))
    ∙ root_bare (g.S.Store.types_of _) (g.S.Store.state_of _) c.root.ensures.rules c.args.fs.number c.args.fs.few c.in-Some.root c.in-Some.ensures.block _ c.in_ok-bytes.bytes.now
    c.in_ok-kind.ensures.kind c.if-branch-ne-ROOT.false c.in_ok-bytes.ensures.bytes

pub returns-then-has_pointer : goal.returns-then-has_pointer
returns-then-has_pointer g c =
    has_others c.in_ok-bytes.bytes.now (sym c.pointer.ensures ∙ c.if-pointer-ne0.false) (sym c.has_pointer.ensures ∙ c.if-has_pointer.true)
    ∙ root_bare (g.S.Store.types_of _) (g.S.Store.state_of _) c.root.ensures.rules c.args.fs.number c.args.fs.few c.in-Some.root c.in-Some.ensures.block _ c.in_ok-bytes.bytes.now
    c.in_ok-kind.ensures.kind c.if-branch-ne-ROOT.false c.in_ok-bytes.ensures.bytes

pub returns : goal.returns
returns g c =
    has_none c.in_ok-bytes.bytes.now (sym c.pointer.ensures ∙ c.if-pointer-ne0.false) (sym c.has_pointer.ensures ∙ c.if-has_pointer.false)
    ∙ root_bare (g.S.Store.types_of _) (g.S.Store.state_of _) c.root.ensures.rules c.args.fs.number c.args.fs.few c.in-Some.root c.in-Some.ensures.block _ c.in_ok-bytes.bytes.now
    c.in_ok-kind.ensures.kind c.if-branch-ne-ROOT.false c.in_ok-bytes.ensures.bytes
