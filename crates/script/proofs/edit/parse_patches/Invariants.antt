use Rattle.std.proofs.Common.{take, map}
use Rattle.std.specs.List.{AllZip}
use Rattle.script.specs.Edits.{SpellsPatch}
use Rattle.script.proofs.edit.parse_patches.Given as goal

abbrev pub invariant-loop-word : goal.invariant-loop-word
invariant-loop-word l = AllZip SpellsPatch (take l.word-index (map (λ word. word.now) l.words)) l.patches.items
