use Rattle.std.proofs.Common.{map, refl, string_bytes}
use Rattle.std.proofs.lemmas.Bool.{false≢true}
use Rattle.std.proofs.lemmas.List.Elements.{All-map}
use Rattle.xnsim_line.specs.Lines.{IsName}
use Rattle.xnsim_line.proofs.TemplateWords.{all_unmapped, no_template_words}
use Rattle.xnsim_line.proofs.invocation.asked_templates.Goals as goal

pub returns-then-not-are_names-clause-none : goal.returns-then-not-are_names-clause-none
returns-then-not-are_names-clause-none c =
    let cut = c.cut_file_system-file_system in
    no_template_words (map string_bytes c.args.words.now) (map string_bytes cut.result.1.now) cut.result.0 cut.ensures
    (λ all. absurd (false≢true (c.if-not-are_names.ensures.1 (all_unmapped IsName string_bytes cut.result.1.now all))))

pub returns-clause-some : goal.returns-clause-some
returns-clause-some c =
    let cut = c.cut_file_system-file_system in
    record { spelled = cut.ensures.spelled; named = All-map IsName string_bytes cut.result.1.now (c.if-not-are_names.ensures.0 refl) }
