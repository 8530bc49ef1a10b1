use Rattle.std.proofs.Common.{◌≡◌, ℕ, ◌/◌, ◌<◌, get_or}
use Rattle.free_map.proofs.words.Words.lowest_from.Given as goal

abbrev pub invariant-loop-word : goal.invariant-loop-word
invariant-loop-word l = (v : ℕ) → l.at / 64 < v → v < l.word → get_or l.self-inside.words.items v 0 ≡ 0
