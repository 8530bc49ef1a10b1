use Rattle.std.proofs.Common.{◌≡◌, ◌∙◌, ap, sym, subst, true, length, List, ℕ}
use Rattle.std.specs.Prelude.{◌==◌, All}
use Rattle.std.proofs.lemmas.Bool.{false≢true}
use Rattle.xn_model.specs.Calls.{Edit, Patch}
use Rattle.claims.specs.Decided.{WritesApart}
use Rattle.claims.proofs.Leaving.{leaves_from, apart_from}
use Rattle.claims.proofs.read_sets.leaves.Goals as goal
use Rattle.claims.proofs.read_sets.leaves.Goals.{then-is_empty, else-is_empty}

pub returns-then-is_empty-2 : goal.returns-then-is_empty-2
returns-then-is_empty-2 c = elim c.if-is_empty.branch [
  | then-is_empty w ↦
      let edit = c.args.edit.now in
      let adds : (length edit.adds == 0) ≡ true = ap (λ (xs : List (ℕ × ℕ)). length xs == 0) (sym c.adds.ensures) ∙ (sym c.is_empty.ensures ∙ w.if-is_empty.true) in
      let drops : (length edit.drops == 0) ≡ true = ap (λ (xs : List ℕ). length xs == 0) (sym w.drops.ensures) ∙ (sym w.is_empty-then-is_empty.ensures ∙ (sym w.value-is ∙ c.if-is_empty-2.true)) in
      let patches = c.deref.ensures.value ∙ ap (λ (e : Edit). e.patches) c.edit.view_is in
      let apart = λ (ps : List Patch). All (WritesApart c.args.reads.chunks) ps in (
        λ yes. leaves_from c.args.reads.chunks edit adds drops c.requires (subst apart patches (c.are_apart.ensures.0 yes)),
        λ leaves. c.are_apart.ensures.1 (subst apart (sym patches) (apart_from c.args.reads.chunks edit c.requires leaves)),
      )
  | else-is_empty w ↦ absurd (false≢true (sym w.if-is_empty.false ∙ (sym w.value-is ∙ c.if-is_empty-2.true)))
]
