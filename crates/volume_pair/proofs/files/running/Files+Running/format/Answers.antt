use Rattle.std.proofs.Common.{◌≡◌, ap, ◌∙◌, [], length, None, subst, All}
use Rattle.xn_model.specs.BareDisks.{mounted_disk}
use Rattle.templates.specs.Formats.{format_fault, formatted}
use Rattle.templates.specs.Language.{language}
use Rattle.templates.specs.Templates.{IsTemplate}
use Rattle.ffs_format.specs.Library.{file_system_templates}
use Rattle.world.specs.Worlds.{world_with}
use Rattle.world.proofs.ForCallers.{no_fault}
use Rattle.volume_pair.proofs.Fresh.{fresh_kept}
use Rattle.volume_pair.proofs.files.running.Files+Running.format.Goals as goal

pub new-requires-clause-has : goal.new-requires-clause-has
new-requires-clause-has g c =
    let blocks = c.args.blocks in
    let ts = file_system_templates in
    let same = c.deref-2.ensures.value ∙ c.in_ok-templates.ensures in
    let size = no_fault blocks (length ts) (subst (λ l. format_fault blocks (length l) ≡ None) same c.in-Ok.ensures.0) in
    let is = ap world_with c.in-Ok-into_running.ensures.ok.0 ∙ (c.in-Ok.ensures.1 ∙ ap (λ l. mounted_disk language (formatted blocks l)) same) in
    let all = subst (All IsTemplate) (c.deref.ensures.value ∙ c.in_ok-templates.ensures) c.are_templates.ensures in
    (fresh_kept blocks ts size.0.0 size.1 all (c.templates_are_the_librarys.ensures.formatted []) (world_with c.in-Ok-into_running.running) is c.rules.ensures).0

pub new-requires-clause-kept : goal.new-requires-clause-kept
new-requires-clause-kept g c =
    let blocks = c.args.blocks in
    let ts = file_system_templates in
    let same = c.deref-2.ensures.value ∙ c.in_ok-templates.ensures in
    let size = no_fault blocks (length ts) (subst (λ l. format_fault blocks (length l) ≡ None) same c.in-Ok.ensures.0) in
    let is = ap world_with c.in-Ok-into_running.ensures.ok.0 ∙ (c.in-Ok.ensures.1 ∙ ap (λ l. mounted_disk language (formatted blocks l)) same) in
    let all = subst (All IsTemplate) (c.deref.ensures.value ∙ c.in_ok-templates.ensures) c.are_templates.ensures in
    (fresh_kept blocks ts size.0.0 size.1 all (c.templates_are_the_librarys.ensures.formatted []) (world_with c.in-Ok-into_running.running) is c.rules.ensures).1
