use Rattle.std.proofs.Common.{◌≡◌, ◌∙◌, ℕ, None, Option, Some, ap, false, inl, inr, refl, rules, subst, vec_len}
use Rattle.std.specs.Prelude.{MatchResult}
use Rattle.treefs_format.specs.declared.kind.Kind.TheVariants.{SymbolicLink}
use Rattle.tree_lines.specs.declared.node.Node.{Node}
use Rattle.tree_lines.specs.declared.paths.Place.{Place}
use Rattle.tree_changes.specs.CopiedFiles.{CopiesFile, IsReplaced, LeavesFile, Replaces}
use Rattle.tree_changes.proofs.CopiedBytes.{none_of}
use Rattle.tree_changes.proofs.CopiedOver.{over, rights_stay, rights_taken}
use Rattle.tree_changes.proofs.copying.copy_other.Goals as goal
use Rattle.tree_changes.proofs.copying.copy_other.Goals.{else-not-copying-via-else-not-copying, else-not-copying-via-then-not-copying+else-not-is_link}
use Rattle.tree_changes.proofs.copying.copy_other.Goals.{in-Some+else-not-copying, in-Some+then-not-copying+then-not-is_link, in_default}

pub returns-clause-does : goal.returns-clause-does
returns-clause-does g c =
    let before = c.args.opened.now in
    let after = c.copy_file.new.opened in
    let T = g.S.Store.types_of before.session.store in
    let old = g.S.Store.state_of before.session.store in
    let new = g.S.Store.state_of after.session.store in
    let v = before.session.volume in
    let v' = after.session.volume in
    let copying = c.args.copying.now in
    let given = c.args.copied.now in
    let node = given.node in
    let forgotten = c.match-branch-2.copying in
    let copied = c.match-branch-2.copied in
    let at : Option Node → Type 0 = λ there. IsReplaced old v node given.place.folder given.place.name.now given.place.has_slash there in
    let facts : Replaces copying forgotten old v node given.place.folder given.place.name.now given.place.has_slash copied.node
    × (vec_len forgotten.piece ≡ vec_len copying.piece) × (copied.place ≡ given.place) = elim c.match-branch-2.branch [
      | in-Some+then-not-copying+then-not-is_link w ↦
          let single : copying.is_recursive ≡ false = let same = w.forget.ensures.recursive in let is = w.if-not-copying.true in cc in
          let no_link : w.in-Some.other.kind ≡ SymbolicLink → ⊥ = λ is. let h = w.is_link.ensures.1 is in let k = w.if-not-is_link.true in cc in
          rw (w.copying-is, w.copied-is) (
            (
              Some w.in-Some.other,
              subst at w.in-Some.is c.in_ok-other.ensures,
              w.forget.ensures.forgets,
              w.forget.ensures.recursive,
              w.with_rights_of-copied.ensures ∙ rights_taken copying.is_recursive node w.in-Some.other single no_link,
            ),
            ap vec_len w.forget.ensures.piece,
            refl,
          )
      | in-Some+else-not-copying w ↦
          rw (w.copying-is, w.copied-is) (
            (
              Some w.in-Some.other,
              subst at w.in-Some.is c.in_ok-other.ensures,
              w.forget.ensures.forgets,
              w.forget.ensures.recursive,
              rights_stay copying.is_recursive node w.in-Some.other (elim w.else-not-copying.branch [
                | else-not-copying-via-then-not-copying+else-not-is_link w' ↦ inr (w'.is_link.ensures.0 w'.if-not-is_link.false)
                | else-not-copying-via-else-not-copying w' ↦ inl (let same = w.forget.ensures.recursive in let is = w'.if-not-copying.false in cc)
              ]),
            ),
            ap vec_len w.forget.ensures.piece,
            refl,
          )
      | in_default w ↦
          let none : c.in_ok-other.field-0 ≡ None = none_of c.in_ok-other.field-0 (λ x is. search (rules, w.in_default.not-Some)) in
          rw (w.copying-is, w.copied-is) ((None, subst at none c.in_ok-other.ensures, (refl, refl), refl, refl), refl, refl)
    ] in
    let most = subst (λ (n : ℕ). MatchResult c.copy_file.result
    (λ done. CopiesFile T before.folder n forgotten c.copy_file.new.copying copied.node copied.place.folder copied.place.name.now old new v v')
    (λ told. LeavesFile T before.folder n forgotten c.copy_file.new.copying copied.node copied.place.folder copied.place.name.now old new v v')) facts.1
    c.copy_file.ensures.does in
    let does = subst (λ (p : Place). MatchResult c.copy_file.result
    (λ done. CopiesFile T before.folder (vec_len copying.piece) forgotten c.copy_file.new.copying copied.node p.folder p.name.now old new v v')
    (λ told. LeavesFile T before.folder (vec_len copying.piece) forgotten c.copy_file.new.copying copied.node p.folder p.name.now old new v v')) facts.2 most in
    over T before.folder (vec_len copying.piece) copying forgotten c.copy_file.new.copying node copied.node given.place.folder given.place.name.now
    given.place.has_slash old new v v' facts.0 c.copy_file.result does
