use Rattle.std.proofs.Common.{◌∙◌, ap, subst, sym}
use Rattle.std.specs.Prelude.{position}
use Rattle.free_map.specs.Members.{is_member}
use Rattle.dependencies.specs.Index.{IsIndex}
use Rattle.dependencies.proofs.Counting.{lowest_marked}
use Rattle.dependencies.proofs.index.Index.lowest_free.Goals as goal

pub returns : goal.returns
returns c = λ lives index.
    let mine = subst (IsIndex lives) (sym c.self.view_is) index in
    c.lowest.ensures ∙ (ap (position is_member) mine.counted.marked ∙ lowest_marked lives)
