use Rattle.std.proofs.Common.{◌≡◌, ◌∙◌, ℕ, ◌+◌, ◌<◌, List, ap, fold, get_or, length, subst, sym, take}
use Rattle.std.proofs.lemmas.List.Sums.{fold_more}
use Rattle.tree_changes.specs.Modes.{clause_applied}
use Rattle.tree_changes.specs.declared.modes.Clause.{Clause}
use Rattle.tree_changes.proofs.modes.Modes.apply.Goals as goal

applied_more : (f : ℕ → Clause → ℕ) (start now next : ℕ) (clauses read : List Clause) (i : ℕ) (default : Clause) → read ≡ clauses → i < length read →
    now ≡ fold f start (take i clauses) → next ≡ f now (get_or read i default) → next ≡ fold f start (take (i + 1) clauses)
applied_more f start now next clauses read i default same within before step =
    let there : i < length clauses = subst (λ (l : List Clause). i < length l) same within in
    step
    ∙ (ap (λ (l : List Clause). f now (get_or l i default)) same
    ∙ (ap (λ (n : ℕ). f n (get_or clauses i default)) before ∙ sym (fold_more f start clauses i default there)))

pub loop-clause-preserved : goal.loop-clause-preserved
loop-clause-preserved c =
    applied_more (λ before clause. clause_applied clause before c.args.is_folder) c.args.permissions c.loop-clause.permissions c.apply-permissions.result
    c.args.self.now.clauses.items c.deref-clause-items.result.now c.loop-clause.clause-index _ c.deref-clause-items.ensures.value c.loop-clause-test.true
    c.loop-clause.invariant c.apply-permissions.ensures
