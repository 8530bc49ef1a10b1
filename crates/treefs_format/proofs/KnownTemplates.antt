-- The blocks of the two types spell their templates.
use Rattle.std.proofs.Common.{◌≡◌, ◌-◌, ◌++◌, length, ap, refl, sym, ◌∙◌}
use Rattle.std.specs.Prelude.{◌↔◌, Result, Ok}
use Rattle.xn_model.specs.BareDisks.{zeros}
use Rattle.templates.specs.declared.fault.TemplateFault.{TemplateFault}
use Rattle.templates.specs.Templates.{TemplateValue}
use Rattle.templates.specs.Reading.{head_of, template_of_bytes, template_of_code}
use Rattle.treefs_format.specs.declared.types.TheConstants.{NODE, INODE}
use Rattle.treefs_format.specs.Templates.{inode_template, node_template}

same_Ok : (s t : TemplateValue) → ◌≡◌ {A = Result TemplateValue TemplateFault} (Ok s) (Ok t) → s ≡ t
same_Ok s t h = cc

pub node_block : template_of_bytes (NODE ++ zeros (512 - length NODE)) ≡ Ok node_template
unfolding template_of_bytes head_of template_of_code node_template
node_block = refl

pub inode_block : template_of_bytes (INODE ++ zeros (512 - length INODE)) ≡ Ok inode_template
unfolding template_of_bytes head_of template_of_code inode_template
inode_block = refl

pub node_known : (t : TemplateValue) → (template_of_bytes (NODE ++ zeros (512 - length NODE)) ≡ Ok t) ↔ (t ≡ node_template)
node_known t = (λ e. same_Ok t node_template (sym e ∙ node_block), λ e. node_block ∙ ap (λ x. Ok x) (sym e))

pub inode_known : (t : TemplateValue) → (template_of_bytes (INODE ++ zeros (512 - length INODE)) ≡ Ok t) ↔ (t ≡ inode_template)
inode_known t = (λ e. same_Ok t inode_template (sym e ∙ inode_block), λ e. inode_block ∙ ap (λ x. Ok x) (sym e))
