use Rattle.std.proofs.Common.{◌≡◌, ℕ, ◌-◌, ◌*◌, ◌^◌, ◌<◌, length, get_or}
use Rattle.std.specs.Prelude.{min}
use Rattle.free_map.proofs.words.Words.with_first.Given as goal

abbrev pub invariant-loop-at : goal.invariant-loop-at
invariant-loop-at l = (length l.words.items ≡ l.count) × ((w : ℕ) → w < l.at → get_or l.words.items w 0 ≡ 2 ^ min 64 (l.bits - 64 * w) - 1)
