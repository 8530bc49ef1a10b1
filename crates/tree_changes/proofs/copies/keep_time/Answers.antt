use Rattle.std.proofs.Common.{ℤ, FitsSigned, rules, subst, w64}
use Rattle.std.proofs.lemmas.Int.{to_z-of_z}
use Rattle.tree_lines.specs.Answers.{Answers}
use Rattle.tree_changes.specs.Files.{MtimeIn}
use Rattle.tree_changes.proofs.copies.keep_time.Goals as goal

pub returns-clause-does : goal.returns-clause-does
returns-clause-does g c =
    let before = c.args.opened.now in
    let after = c.make.new.self in
    let mtime = c.args.copied.now.node.modified in
    let fits : FitsSigned w64 mtime = search rules in
    subst (λ (t : ℤ). Answers (MtimeIn (g.S.Store.types_of before.session.store) before.folder c.args.number t (g.S.Store.state_of before.session.store)
    (g.S.Store.state_of after.session.store) before.session.volume after.session.volume) c.make.result) (to_z-of_z w64 mtime fits) c.make.ensures.does
