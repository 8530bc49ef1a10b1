use Rattle.std.proofs.Common.{rules, sym, ◌∙◌}
use Rattle.std.proofs.lemmas.Bool.{false≢true}
use Rattle.xnsim_line.proofs.commands.assemble_files.Goals as goal

pub returns-clause-done : goal.returns-clause-done
returns-clause-done g c = record {
  owns_text = c.in_ok-owns_text.owns_text.now;
  size_text = c.in_ok-size_text.size_text.now;
  owns_held = search rules;
  size_held = search rules;
  owns_short = search rules;
  size_short = search rules;
  not_owns = λ same. absurd (false≢true (sym c.if-is_source.false ∙ c.is_source.ensures.owns same));
  not_size = λ same. absurd (false≢true (sym c.if-is_source.false ∙ c.is_source.ensures.size same));
  template = record {
    template = c.in_ok-template.template;
    block = c.write_block.result;
    read = c.in_ok-template.ensures.template;
    made = c.write_block.ensures.bytes;
    written = search rules;
    printed = c.in_ok-print_template.ensures;
  };
}
