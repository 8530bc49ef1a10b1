-- A folder is made for one of the system.
use Rattle.std.proofs.Common.{ℕ, Result}
use Rattle.xn_model.specs.Lives.{StoreState}
use Rattle.xn_model.specs.Types.{Types}
use Rattle.tree_lines.specs.Values.{Attributes, Volume}
use Rattle.tree_lines.specs.Answers.{Answers}
use Rattle.tree_puts.specs.Actions.{Does, Performs}
use Rattle.tree_puts.specs.Actions.Action.{makes_folder}
use Rattle.tree_puts.specs.Arriving.{HasRights}
use Rattle.tree_puts.specs.Folders.{MakesFolder}
use Rattle.tree_puts.specs.declared.arriving.Goods.{Goods}
use Rattle.tree_puts.proofs.Performed.{by_plan, one_done}

pub folder_made : (T : Types) (folder : ℕ) (old new : StoreState) (volume volume' : Volume) (goods : Goods) (attributes : Attributes) →
    HasRights attributes goods.attributes.now → {E : Type 0} (result : Result ℕ E) →
    Answers (λ answer. Does T folder (makes_folder goods.place.folder goods.place.name.now attributes answer) old new volume volume') result →
    Performs T folder (MakesFolder goods result) old new volume volume'
folder_made T folder old new volume volume' goods attributes rights result answers =
    by_plan (one_done T folder old new volume volume' (makes_folder goods.place.folder goods.place.name.now attributes) result answers)
    (λ actions so. (attributes, rights, so))
