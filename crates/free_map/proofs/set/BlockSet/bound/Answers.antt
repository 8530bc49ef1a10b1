use Rattle.std.proofs.Common.{◌∙◌, ap, sym, List, length}
use Rattle.std.specs.Prelude.{Bool}
use Rattle.free_map.proofs.MemberRows.{length-members_of}
use Rattle.free_map.proofs.set.BlockSet.bound.Goals as goal

pub returns : goal.returns
returns c = sym (length-members_of c.self.inside.bound c.self.inside.words) ∙ ap (λ (s : List Bool). length s) c.self.view_is
