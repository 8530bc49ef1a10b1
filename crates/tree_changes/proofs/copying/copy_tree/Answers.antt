use Rattle.std.proofs.Common.{Bool, false, refl, subst, vec_len}
use Rattle.tree_lines.specs.Looks.{FindsPath}
use Rattle.tree_changes.specs.CopiedFolders.{IsBelow}
use Rattle.tree_changes.proofs.TreesCopied.{tree_copied}
use Rattle.tree_changes.proofs.copying.copy_tree.Goals as goal

pub returns-clause-does : goal.returns-clause-does
returns-clause-does g c =
    let before = c.args.opened.now in
    let middle = c.copy_folder.new.opened in
    let after = c.copy_below.new.opened in
    let copying = c.args.copying.now in
    let copied = c.args.copied.now in
    let old = g.S.Store.state_of before.session.store in
    let made = c.in_ok-number.ensures in
    let outside : IsBelow (FindsPath old before.session.volume) copied.place.folder copied.node.number false =
    subst (λ (b : Bool). IsBelow (FindsPath old before.session.volume) copied.place.folder copied.node.number b) c.in-Ok-false.field-0-test
    c.in-Ok-false.ensures in
    tree_copied (g.S.Store.types_of before.session.store) (g.S.Store.types_of middle.session.store) before.folder middle.folder (vec_len copying.piece)
    (vec_len copying.piece) made.types made.folder refl copied.path.now copied.node copied.place.folder copied.place.name.now copied.place.has_slash
    (record { number = c.in_ok-number.number; is_new = c.in_ok-number.is_new }) before.told middle.told after.told made.told copying
    c.copy_below.new.copying old (g.S.Store.state_of middle.session.store) (g.S.Store.state_of after.session.store) before.session.volume
    middle.session.volume after.session.volume outside made.does c.copy_below.result c.copy_below.ensures.does
