use Rattle.std.proofs.Common.{◌≡◌, ℕ, ◌<◌, get_or}
use Rattle.free_map.proofs.words.Words.lowest.Given as goal

abbrev pub invariant-loop-at : goal.invariant-loop-at
invariant-loop-at l = (w : ℕ) → w < l.at → get_or l.word-items w 0 ≡ 0
