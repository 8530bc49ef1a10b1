use Rattle.std.proofs.Common.{◌∙◌, None, sym}
use Rattle.crash_check.proofs.known.KnownTypes.size.Goals as goal

pub returns-in-Some-Some-clause-value : goal.returns-in-Some-Some-clause-value
returns-in-Some-Some-clause-value c =
    sym (c.requires.known.size c.args.ty c.in-Some-Some.size (sym (c.in-Some-Some.ensures.lookup.3.1 None) ∙ c.in-Some-Some.field-0-is) c.args.block.now)

pub returns-in-Some-Some-clause-small : goal.returns-in-Some-Some-clause-small
returns-in-Some-Some-clause-small c = c.requires.known.small c.args.ty c.in-Some-Some.size (sym (c.in-Some-Some.ensures.lookup.3.1 None) ∙ c.in-Some-Some.field-0-is)
