use Rattle.std.proofs.Common.{◌∙◌}
use Rattle.treefs_lookup.proofs.ZeroPointers.{blank_same}
use Rattle.treefs_lookup.proofs.trimmed.are_zeros.Goals as goal

pub returns : goal.returns
returns c = c.eq.ensures ∙ blank_same c.args.bytes.now 512 c.requires
