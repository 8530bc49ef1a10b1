-- The code of the built-in programs is read as they are.
use Rattle.std.proofs.Common.{◌≡◌, ℕ, ◌≢◌, ◌∙◌, ap, sym, refl, cond, []}
use Rattle.std.specs.Prelude.{Result, Ok, IfOk}
use Rattle.std.proofs.lemmas.Bool.{eq-eqb, ne_eqb}
use Rattle.std.proofs.lemmas.Result.{IfOk-weaker}
use Rattle.templates.specs.declared.built_ins.TheConstants.{CATALOGUE, CATALOGUE_SIZE, DATA_SIZE}
use Rattle.templates.specs.Templates.{TemplateValue}
use Rattle.templates.specs.BuiltIns.{built_in_root, leaf_template, built_in}
use Rattle.templates.specs.Reading.{template_of_code}

pub root_code : template_of_code CATALOGUE CATALOGUE_SIZE ≡ Ok built_in_root
unfolding template_of_code built_in_root
root_code = refl

pub leaf_code : template_of_code [] DATA_SIZE ≡ Ok leaf_template
unfolding template_of_code leaf_template
leaf_code = refl

ok_is : {E : Type 0} (s r : TemplateValue) → ◌≡◌ {A = Result TemplateValue E} (Ok s) (Ok r) → s ≡ r
ok_is s r h = cc

module _ {E : Type 0} (r : Result TemplateValue E) (ty : ℕ) where
  pub root_built_in : ty ≡ 0 → IfOk r (λ t. template_of_code CATALOGUE CATALOGUE_SIZE ≡ Ok t) → IfOk r (λ t. t ≡ built_in ty)
  root_built_in e h = IfOk-weaker r _ _ (λ t read. ok_is t built_in_root (sym read ∙ root_code) ∙ sym (ap (λ b. cond b built_in_root leaf_template) (eq-eqb ty 0 e))) h

  pub leaf_built_in : ty ≢ 0 → IfOk r (λ t. template_of_code [] DATA_SIZE ≡ Ok t) → IfOk r (λ t. t ≡ built_in ty)
  leaf_built_in ne h = IfOk-weaker r _ _ (λ t read. ok_is t leaf_template (sym read ∙ leaf_code) ∙ sym (ap (λ b. cond b built_in_root leaf_template) (ne_eqb ty 0 ne))) h
