use Rattle.std.proofs.Common.{◌⊎◌, ℕ, Bool, List, Ok, false, not, refl, subst, true, vec_len}
use Rattle.std.specs.Prelude.{MatchResult}
use Rattle.tree_lines.specs.Places.{IsFolder}
use Rattle.tree_lines.specs.Telling.{EndsLine}
use Rattle.tree_lines.specs.Trees.{IsNodeIn}
use Rattle.tree_lines.specs.declared.fault.Fault.{Fault as LineFault}
use Rattle.tree_changes.specs.CopiedTrees.{CopiesTree, LeavesTree, StopsTree}
use Rattle.tree_changes.proofs.CopiedPaths.{copied_at}
use Rattle.tree_changes.proofs.PathsCopied.{folder_copied, other_copied}
use Rattle.tree_changes.proofs.copying.copy_one.Goals as goal

pub returns-in-false-clause-does : goal.returns-in-false-clause-does
returns-in-false-clause-does g c single several has =
    let before = c.args.opened.now in
    let after = c.copy_other.new.opened in
    let old = g.S.Store.state_of before.session.store in
    let node = c.in_ok-node.node in
    let place = c.place in
    let found : IsNodeIn old before.session.volume before.folder c.args.path.now true node =
    subst (λ (r : Bool). IsNodeIn old before.session.volume before.folder c.args.path.now (not r) node) single c.in_ok-node.ensures in
    let no_folder : ¬ IsFolder node = λ is. let h = c.in-false.ensures.1 is in cc in
    copied_at (g.S.Store.types_of before.session.store) before.folder (vec_len c.args.copying.now.piece) c.args.copying.now c.copy_other.new.copying single
    c.args.path.now old (g.S.Store.state_of after.session.store) before.session.volume after.session.volume node found no_folder c.in_ok-name.name.now
    c.in_ok-name.ensures c.args.to.0.now several c.args.to.1 has place.result.folder place.result.name.now place.result.has_slash place.ensures.folder
    place.ensures.name place.ensures.slash c.copy_other.result c.copy_other.ensures.does

pub returns-in-false-clause-all : goal.returns-in-false-clause-all
returns-in-false-clause-all g c recursive several has =
    let before = c.args.opened.now in
    let after = c.copy_other.new.opened in
    let old = g.S.Store.state_of before.session.store in
    let node = c.in_ok-node.node in
    let place = c.place in
    let found : IsNodeIn old before.session.volume before.folder c.args.path.now false node =
    subst (λ (r : Bool). IsNodeIn old before.session.volume before.folder c.args.path.now (not r) node) recursive c.in_ok-node.ensures in
    let no_folder : ¬ IsFolder node = λ is. let h = c.in-false.ensures.1 is in cc in
    other_copied (g.S.Store.types_of before.session.store) before.folder (vec_len c.args.copying.now.piece) c.args.path.now before.told after.told
    c.args.copying.now c.copy_other.new.copying old (g.S.Store.state_of after.session.store) before.session.volume after.session.volume node found
    c.in_ok-name.name.now c.in_ok-name.ensures c.args.to.0.now several c.args.to.1 has place.result.folder place.result.name.now place.result.has_slash
    place.ensures.folder place.ensures.name place.ensures.slash c.copy_other.result no_folder c.copy_other.ensures.told c.copy_other.ensures.recursive
    c.copy_other.ensures.does

pub returns-in-true-clause-all : goal.returns-in-true-clause-all
returns-in-true-clause-all g c recursive several has =
    let before = c.args.opened.now in
    let after = c.copy_tree.new.opened in
    let T = g.S.Store.types_of before.session.store in
    let old = g.S.Store.state_of before.session.store in
    let new = g.S.Store.state_of after.session.store in
    let copying = c.args.copying.now in
    let copying' = c.copy_tree.new.copying in
    let most = vec_len copying.piece in
    let node = c.in_ok-node.node in
    let place = c.place in
    let to = place.result in
    let found : IsNodeIn old before.session.volume before.folder c.args.path.now false node =
    subst (λ (r : Bool). IsNodeIn old before.session.volume before.folder c.args.path.now (not r) node) recursive c.in_ok-node.ensures in
    let tree = subst (λ (p : List ℕ). MatchResult c.copy_tree.result
    (λ done. CopiesTree T before.folder most p node to.folder to.name.now to.has_slash before.told after.told copying copying' old new
    before.session.volume after.session.volume (Ok tt))
    (λ (fault : LineFault). LeavesTree T before.folder most p node to.folder to.name.now to.has_slash before.told after.told copying copying' old new
    before.session.volume after.session.volume
    ⊎ (EndsLine fault × StopsTree T before.folder most p node to.folder to.name.now to.has_slash before.told copying old new before.session.volume
    after.session.volume))) c.as_bytes.ensures.value c.copy_tree.ensures.does in
    folder_copied T before.folder most c.args.path.now before.told after.told copying copying' old new before.session.volume after.session.volume node found
    c.in_ok-name.name.now c.in_ok-name.ensures c.args.to.0.now several c.args.to.1 has to.folder to.name.now to.has_slash place.ensures.folder
    place.ensures.name place.ensures.slash c.copy_tree.result (c.in-true.ensures.0 refl) tree
