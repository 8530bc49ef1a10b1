use Rattle.std.proofs.Common.{◌++◌, ◌∷◌, ◌∙◌, [], ap, append_assoc, take}
use Rattle.std.specs.Int.{from_bool}
use Rattle.std.proofs.lemmas.List.{take_at}
use Rattle.treefs_format.proofs.law.roots_are_read_back.Goals as goal

pub returns-clause-key : goal.returns-clause-key
returns-clause-key c = λ key rest clean long. ap (take 16) (append_assoc key (from_bool clean ∷ []) rest) ∙ take_at key ((from_bool clean ∷ []) ++ rest) 16 long
