-- The pieces that undo an edit, however they are kept.
use Rattle.std.specs.Prelude.{List, [], ◌∷◌}
use Rattle.xn_model.specs.Calls.{Patch}
use Rattle.edit_list.specs.declared.undo.Kept.{Kept}
use Rattle.edit_list.specs.declared.undo.Kept.TheVariants.{Nothing, Short, Listed}

abbrev pub kept_pieces : Kept → List Patch
kept_pieces Nothing = []
kept_pieces (Short p) = p ∷ []
kept_pieces (Listed ps) = ps.value
