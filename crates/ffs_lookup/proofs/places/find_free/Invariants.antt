use Rattle.std.proofs.Common.{◌≡◌, false}
use Rattle.std.specs.List.{list_any, range_with_len}
use Rattle.ffs_model.specs.Cuts.{latest}
use Rattle.ffs_model.specs.Library.{pointer_word}
use Rattle.ffs_lookup.specs.Newest.{has_free_at}
use Rattle.ffs_lookup.proofs.places.find_free.Given as goal

abbrev pub invariant-loop-index : goal.invariant-loop-index
invariant-loop-index g l =
    let content = latest (g.S.Store.state_of l.store).lives in
    list_any (λ i. has_free_at content (pointer_word (content l.root) i)) (range_with_len 0 l.index) ≡ false
