use Rattle.std.proofs.Common.{◌≡◌, ℕ, zero, suc, ◌+◌, arith, Some, slice_get}
use Rattle.xn_model.specs.Types.{Types}
use Rattle.templates.specs.Tables.{HasTemplate}
use Rattle.templates.specs.Templates.{TemplateValue}
use Rattle.ffs_format.specs.Library.{file_system_templates}
use Rattle.ffs_lookup.proofs.library.is_library.Goals as goal

abbrev Has : Types → ℕ → Type 0
Has T i = (t : TemplateValue) → slice_get file_system_templates i ≡ Some t → HasTemplate T (3 + i) t

each : (T : Types) → Has T 0 → Has T 1 → Has T 2 → (i : ℕ) → Has T i
each T root inodes pointers zero t e = root t e
each T root inodes pointers (suc zero) t e = inodes t e
each T root inodes pointers (suc (suc zero)) t e = pointers t e
each T root inodes pointers (suc (suc (suc i))) t e = absurd (cc e)

pub returns-clause-has : goal.returns-clause-has
returns-clause-has g c = λ same.
    c.templates_are_the_librarys.ensures.types (g.S.Store.types_of c.args.store.now)
    (each (g.S.Store.types_of c.args.store.now) (c.has_template.ensures.has c.if-not-has_template.false) (c.has_template-2.ensures.has c.if-not-has_template-2.false) (c.has_template-3.ensures.has same))

pub returns-clause-lacks : goal.returns-clause-lacks
returns-clause-lacks g c = λ other. (2, omega arith, c.has_template-3.ensures.lacks other)
