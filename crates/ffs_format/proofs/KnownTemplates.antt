-- The blocks of the library's file system spell its templates.
use Rattle.std.proofs.Common.{◌≡◌, ◌-◌, List, [], ◌∷◌, ◌++◌, length, ap, refl, sym, ◌∙◌}
use Rattle.std.specs.Prelude.{◌↔◌, Option, Result, Ok, Some, slice_get}
use Rattle.xn_model.specs.BareDisks.{zeros}
use Rattle.templates.specs.declared.fault.TemplateFault.{TemplateFault}
use Rattle.templates.specs.Templates.{TemplateValue}
use Rattle.templates.specs.Reading.{head_of, template_of_bytes, template_of_code}
use Rattle.ffs_format.specs.declared.library.TheConstants.{ROOT, INODES, POINTERS}
use Rattle.ffs_format.specs.Library.{file_system_templates, library_root, inode_template, pointer_template}

same_Ok : (s t : TemplateValue) → ◌≡◌ {A = Result TemplateValue TemplateFault} (Ok s) (Ok t) → s ≡ t
same_Ok s t h = cc

pub root_block : template_of_bytes (ROOT ++ zeros (512 - length ROOT)) ≡ Ok library_root
unfolding template_of_bytes head_of template_of_code library_root
root_block = refl

pub inode_block : template_of_bytes (INODES ++ zeros (512 - length INODES)) ≡ Ok inode_template
unfolding template_of_bytes head_of template_of_code inode_template
inode_block = refl

pub pointer_block : template_of_bytes (POINTERS ++ zeros (512 - length POINTERS)) ≡ Ok pointer_template
unfolding template_of_bytes head_of template_of_code pointer_template
pointer_block = refl

-- three templates that are read from them
pub three_known : (items : List TemplateValue) (a b c : TemplateValue) → items ≡ a ∷ b ∷ c ∷ [] → template_of_bytes (ROOT ++ zeros (512 - length ROOT)) ≡ Ok a →
    template_of_bytes (INODES ++ zeros (512 - length INODES)) ≡ Ok b → template_of_bytes (POINTERS ++ zeros (512 - length POINTERS)) ≡ Ok c →
    items ≡ file_system_templates
three_known items a b c are root inodes pointers =
    let first : a ≡ library_root = same_Ok a library_root (sym root ∙ root_block) in
    let second : b ≡ inode_template = same_Ok b inode_template (sym inodes ∙ inode_block) in
    let third : c ≡ pointer_template = same_Ok c pointer_template (sym pointers ∙ pointer_block) in
    cc

-- one template that is read from one of them

same_Some : (s t : TemplateValue) → ◌≡◌ {A = Option TemplateValue} (Some s) (Some t) → s ≡ t
same_Some s t h = cc

pub root_known : (t : TemplateValue) → (template_of_bytes (ROOT ++ zeros (512 - length ROOT)) ≡ Ok t) ↔ (slice_get file_system_templates 0 ≡ Some t)
root_known t = (λ e. ap (λ x. Some x) (same_Ok library_root t (sym root_block ∙ e)), λ e. root_block ∙ ap (λ x. Ok x) (same_Some library_root t e))

pub inodes_known : (t : TemplateValue) → (template_of_bytes (INODES ++ zeros (512 - length INODES)) ≡ Ok t) ↔ (slice_get file_system_templates 1 ≡ Some t)
inodes_known t = (λ e. ap (λ x. Some x) (same_Ok inode_template t (sym inode_block ∙ e)), λ e. inode_block ∙ ap (λ x. Ok x) (same_Some inode_template t e))

pub pointers_known : (t : TemplateValue) → (template_of_bytes (POINTERS ++ zeros (512 - length POINTERS)) ≡ Ok t) ↔ (slice_get file_system_templates 2 ≡ Some t)
pointers_known t =
    (λ e. ap (λ x. Some x) (same_Ok pointer_template t (sym pointer_block ∙ e)), λ e. pointer_block ∙ ap (λ x. Ok x) (same_Some pointer_template t e))
