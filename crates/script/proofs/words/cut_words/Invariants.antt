use Rattle.std.proofs.Common.{◌≡◌, ◌++◌, length, map}
use Rattle.std.specs.Option.{option_copied}
use Rattle.script.specs.Scripts.{words_in}
use Rattle.script.proofs.words.cut_words.Given as goal

abbrev pub invariant-loop-rest : goal.invariant-loop-rest
invariant-loop-rest l = map (λ word. word.now) l.words.items ++ words_in (option_copied l.rest) ≡ words_in (option_copied l.initial.text)

abbrev pub decreases-loop-rest : goal.decreases-loop-rest
decreases-loop-rest l = length (words_in (option_copied l.rest))
