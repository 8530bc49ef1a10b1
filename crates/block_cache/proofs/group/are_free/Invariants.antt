use Rattle.std.proofs.Common.{◌≡◌, replicate, take, None}
use Rattle.block_cache.proofs.group.are_free.Given as goal

abbrev pub invariant-loop-place : goal.invariant-loop-place
invariant-loop-place l = take l.place-index l.places ≡ replicate l.place-index None
