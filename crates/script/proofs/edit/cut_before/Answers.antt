use Rattle.std.proofs.Common.{◌∙◌, ap, length}
use Rattle.std.specs.Option.{unwrap_or}
use Rattle.script.proofs.WordLists.{cut_at}
use Rattle.script.proofs.edit.cut_before.Goals as goal

pub returns : goal.returns
returns c =
    let words = c.args.words.now in
    let place = c.unwrap_or-place.ensures ∙ ap (λ found. unwrap_or found (length words)) c.place_of.ensures in
    cut_at c.args.byte words c.split_at.result.0.now c.split_at.result.1.now c.unwrap_or-place.result place c.split_at.ensures.by_index.0 c.split_at.ensures.front c.split_at.ensures.back
