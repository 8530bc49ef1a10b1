use Rattle.std.proofs.Common.{◌∙◌, ap, sym, length}
use Rattle.std.specs.List.{range_with_len}
use Rattle.block_cache.specs.Totals.{totals_of}
use Rattle.block_cache.proofs.Resting.{nothing_counted}
use Rattle.block_cache.proofs.lives.Lives.found.Goals as goal

pub invariant_of-result : goal.invariant_of-result
invariant_of-result c = rw c.places.ensures (record {
  room = c.in_ok-found_groups.ensures.room;
  few = c.requires.few;
  counted =
      nothing_counted c.args.found.now c.args.blocks.now (range_with_len 0 (length c.args.found.now)) ∙ ap totals_of (sym c.in_ok-found_groups.ensures.places);
})
