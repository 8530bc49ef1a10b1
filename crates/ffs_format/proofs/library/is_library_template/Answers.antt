use Rattle.std.proofs.Common.{◌≡◌, ◌∙◌, ℕ, Bool, ap, arith, sym}
use Rattle.std.specs.Prelude.{◌↔◌, IsTrue, Ok, Result, Some, slice_get}
use Rattle.templates.specs.declared.fault.TemplateFault.{TemplateFault}
use Rattle.templates.specs.Templates.{TemplateValue}
use Rattle.ffs_format.specs.Library.{file_system_templates}
use Rattle.ffs_format.proofs.KnownTemplates.{inodes_known, pointers_known, root_known}
use Rattle.ffs_format.proofs.library.is_library_template.Goals as goal

-- a template is the one at a place exactly where a block spells it
at_place : (place other : ℕ) (result : Bool) (read : Result TemplateValue TemplateFault) (t : TemplateValue) → place ≡ other →
    IsTrue result ↔ (read ≡ Ok t) → (read ≡ Ok t) ↔ (slice_get file_system_templates other ≡ Some t) →
    IsTrue result ↔ (slice_get file_system_templates place ≡ Some t)
at_place place other result read t is spelled known = (
  λ same. ap (slice_get file_system_templates) is ∙ known.0 (spelled.0 same),
  λ there. spelled.1 (known.1 (sym (ap (slice_get file_system_templates) is) ∙ there)),
)

pub returns-in-0 : goal.returns-in-0
returns-in-0 c = at_place c.args.place 0 _ _ c.args.template.now c.in-0.is c.is_spelled.ensures (root_known c.args.template.now)

pub returns-in-1 : goal.returns-in-1
returns-in-1 c = at_place c.args.place 1 _ _ c.args.template.now c.in-1.is c.is_spelled-in-1.ensures (inodes_known c.args.template.now)

pub returns-in_default : goal.returns-in_default
returns-in_default c =
    let two : c.args.place ≡ 2 = omega arith in
    at_place c.args.place 2 _ _ c.args.template.now two c.is_spelled-in_default.ensures (pointers_known c.args.template.now)
