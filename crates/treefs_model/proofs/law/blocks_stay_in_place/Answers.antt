use Rattle.treefs_model.specs.Places.{In}
use Rattle.treefs_model.proofs.InPlace.{edit_keeps, full_path, places_stay}
use Rattle.treefs_model.proofs.law.blocks_stay_in_place.Goals as goal

pub returns-clause-edits : goal.returns-clause-edits
returns-clause-edits c = λ T S fs covered held covered' held' act old new number e h i. edit_keeps T S fs (In covered) (In held) (In covered') (In held') act old new number e h i

pub returns-clause-others : goal.returns-clause-others
returns-clause-others c = λ T S fs covered held covered' held' old new h kept covers holds i. places_stay S T fs old new h kept (In covered) (In held) (In covered') (In held') covers holds i

pub returns-clause-paths : goal.returns-clause-paths
returns-clause-paths c = λ S fs covered held lives top k i mine bare some cut os all waited full o. full_path S fs (In covered) (In held) lives i top mine bare some k cut os all waited full o
