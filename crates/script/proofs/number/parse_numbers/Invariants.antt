use Rattle.std.proofs.Common.{take, map}
use Rattle.std.specs.List.{AllZip}
use Rattle.script.specs.Numbers.{SpellsNumber}
use Rattle.script.proofs.number.parse_numbers.Given as goal

abbrev pub invariant-loop-word : goal.invariant-loop-word
invariant-loop-word l = AllZip SpellsNumber (take l.word-index (map (λ word. word.now) l.words)) l.numbers.items
