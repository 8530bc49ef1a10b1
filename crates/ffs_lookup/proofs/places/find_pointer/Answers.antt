use Rattle.std.proofs.Common.{◌≡◌, ◌∙◌, ap, sym, ◌==◌, find}
use Rattle.std.specs.List.{range_with_len}
use Rattle.ffs_model.specs.Cuts.{latest, root}
use Rattle.ffs_model.specs.Library.{pointer_word}
use Rattle.ffs_lookup.proofs.Newest.{not_ok}
use Rattle.ffs_lookup.proofs.Walks.{same_ok}
use Rattle.ffs_lookup.proofs.places.find_pointer.Goals as goal

pub returns-in-Some-clause-first : goal.returns-in-Some-clause-first
returns-in-Some-clause-first g c = λ top e.
    let content = latest (g.S.Store.state_of c.args.store.now).lives in
    let same : top ≡ c.in_ok-root.root = same_ok top c.in_ok-root.root (e ∙ sym c.in_ok-root.ensures.exact) in
    let bytes : content top ≡ c.in_ok-read_block.field-0.now = ap content same ∙ c.in_ok-read_block.ensures.bytes in
    c.in-Some.ensures.exact ∙ ap (λ m. find (λ i. pointer_word m i == 0) (range_with_len 0 16)) (sym bytes)

pub returns-in_err-read_block-clause-exact : goal.returns-in_err-read_block-clause-exact
returns-in_err-read_block-clause-exact g c = λ top e. absurd (not_ok (c.in_err-read_block.ensures.reached 3 (root c.in_ok-root.ensures.root.at c.in_ok-root.ensures.root.there)))
