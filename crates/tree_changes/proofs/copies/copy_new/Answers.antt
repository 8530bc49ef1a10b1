use Rattle.std.proofs.Common.{◌≡◌, ℕ, length, subst, vec_len}
use Rattle.std.specs.Prelude.{MatchResult}
use Rattle.treefs_format.specs.declared.kind.Kind.TheVariants.{SymbolicLink}
use Rattle.tree_changes.specs.Copies.{CopiesContent, LeavesContent}
use Rattle.tree_changes.proofs.BegunCopies.{content_copied}
use Rattle.tree_changes.proofs.copies.copy_new.Goals as goal

pub returns-else-is_link-clause-does : goal.returns-else-is_link-clause-does
returns-else-is_link-clause-does g c =
    let before = c.args.opened.now in
    let after = c.copy_content.new.opened in
    let T = g.S.Store.types_of before.session.store in
    let old = g.S.Store.state_of before.session.store in
    let new = g.S.Store.state_of after.session.store in
    let copied = c.args.copied.now in
    let other : copied.node.kind ≡ SymbolicLink → ⊥ = λ is. let wrong = c.if-is_link.ensures.1 is in cc in
    let same : length c.deref_mut.result.now ≡ vec_len c.args.copying.now.piece = c.deref_mut.ensures.len in
    let does = subst (λ (most : ℕ). MatchResult c.copy_content.result
    (λ number. CopiesContent T before.folder most copied.node copied.place.folder copied.place.name.now old new before.session.volume after.session.volume
    number)
    (λ told. LeavesContent T before.folder most copied.node copied.place.folder copied.place.name.now old new before.session.volume after.session.volume)) same
    c.copy_content.ensures.does in
    content_copied T before.folder (vec_len c.args.copying.now.piece) copied.node copied.place.folder copied.place.name.now old new before.session.volume
    after.session.volume c.copy_content.result other does
