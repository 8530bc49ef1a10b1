use Rattle.std.proofs.Common.{◌∙◌, ap, subst, sym}
use Rattle.std.specs.Prelude.{count_by}
use Rattle.free_map.specs.Members.{is_member}
use Rattle.dependencies.specs.Index.{IsIndex}
use Rattle.dependencies.proofs.Counting.{count_marked}
use Rattle.dependencies.proofs.index.Index.free.Goals as goal

pub returns : goal.returns
returns c = λ lives index.
    let mine = subst (IsIndex lives) (sym c.self.view_is) index in
    c.count.ensures ∙ (ap (count_by is_member) mine.counted.marked ∙ count_marked lives)
