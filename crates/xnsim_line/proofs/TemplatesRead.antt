-- Templates that are read from blocks, one after another.
use Rattle.std.proofs.Common.{◌≡◌, ◌<◌, ◌+◌, ◌⊎◌, ℕ, List, [], ◌∷◌, ◌++◌, length, map, take, drop, get_or, refl, sym, ◌∙◌, ap, subst, arith, add-one, inl, inr, ⊎_elim}
use Rattle.std.specs.Prelude.{All, Contains, Err, IsOk}
use Rattle.std.proofs.Math.Seq.{split_at}
use Rattle.std.proofs.lemmas.List.{take_more, map-append, length-map, length-take-le, get_or-map}
use Rattle.std.proofs.lemmas.List.Elements.{All-push, Contains-get_or}
use Rattle.templates.specs.declared.fault.TemplateFault.{TemplateFault}
use Rattle.templates.specs.declared.fault.TemplateFault.TheVariants.{NoMemory}
use Rattle.templates.specs.Templates.{template_bytes, IsTemplate, TemplateValue}
use Rattle.templates.specs.Reading.{template_of_bytes}
use Rattle.xnsim_line.specs.Formatting.{AreTemplates, IsFirstFault}

-- one more block
pub one_more : (blocks : List (List ℕ)) (place : ℕ) (block : List ℕ) (templates more : List TemplateValue) (template : TemplateValue) → place < length blocks → get_or blocks place [] ≡ block →
    (block ≡ template_bytes template) → IsTemplate template → more ≡ templates ++ template ∷ [] → AreTemplates (take place blocks) templates → AreTemplates (take (place + 1) blocks) more
one_more blocks place block templates more template within here spelled sound pushed so_far =
    let last : get_or blocks place [] ≡ template_bytes template = here ∙ spelled in
    record {
      spelled = take_more blocks place [] within ∙ (ap (λ front. front ++ get_or blocks place [] ∷ []) so_far.spelled
          ∙ (ap (λ (b : List ℕ). map template_bytes templates ++ b ∷ []) last ∙ (sym (map-append template_bytes templates (template ∷ [])) ∙ ap (map template_bytes) (sym pushed))));
      all = subst (All IsTemplate) (sym pushed) (All-push IsTemplate templates template so_far.all sound);
    }

split_here : (blocks : List (List ℕ)) (place : ℕ) (d : List ℕ) → place < length blocks → blocks ≡ take place blocks ++ get_or blocks place d ∷ drop (place + 1) blocks
split_here blocks place d within = rw add-one (split_at blocks place d within)

-- at the first block that is no template
pub first_fault : (blocks : List (List ℕ)) (place : ℕ) (d : List ℕ) (templates : List TemplateValue) (found : TemplateFault) → place < length blocks →
    (found ≡ NoMemory) ⊎ (template_of_bytes (get_or blocks place d) ≡ Err found) → (found ≡ NoMemory → IsOk (template_of_bytes (get_or blocks place d))) →
    AreTemplates (take place blocks) templates → IsFirstFault blocks place found
first_fault blocks place d templates found within bad last so_far =
    let mapped : length (map template_bytes templates) ≡ length templates = rw length-map refl in
    let counted : length templates ≡ place = sym mapped ∙ (sym (ap length so_far.spelled) ∙ length-take-le place blocks (omega arith)) in
    record {
      before = templates;
      block = get_or blocks place d;
      after = drop (place + 1) blocks;
      placed = sym counted;
      split = split_here blocks place d within ∙ ap (λ front. front ++ get_or blocks place d ∷ drop (place + 1) blocks) so_far.spelled;
      good = so_far.all;
      bad = ⊎_elim (λ wanting. inl (wanting, last wanting)) (λ told. inr told) bad;
    }

-- the text of an element
pub contains_item : {X : Type 0} (f : X → List ℕ) (xs : List X) (i : ℕ) (x : X) (text : List ℕ) → i < length xs → x ≡ get_or xs i x → text ≡ f x → Contains (map f xs) text
contains_item f xs i x text within here is =
    let same : get_or (map f xs) i [] ≡ text = get_or-map f xs i x [] within ∙ (ap f (sym here) ∙ sym is) in
    subst (Contains (map f xs)) same (Contains-get_or (map f xs) i [] (rw length-map within))
