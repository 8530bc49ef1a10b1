-- What stands at a path is moved to where it goes.
use Rattle.std.proofs.Common.{◌≡◌, ℕ, Bool, List, Result, Ok, Err, inr}
use Rattle.xn_model.specs.Lives.{StoreState}
use Rattle.xn_model.specs.Types.{Types}
use Rattle.treefs_model.specs.declared.fault.Fault.{Fault}
use Rattle.tree_lines.specs.Values.{Volume}
use Rattle.tree_lines.specs.Answers.{Answers}
use Rattle.tree_lines.specs.Looks.{FindsPath, node_seen}
use Rattle.tree_lines.specs.Places.{goal_folder, goal_name, goal_slash}
use Rattle.tree_lines.specs.declared.node.Node.{Node}
use Rattle.tree_lines.specs.declared.paths.Goal.{Goal}
use Rattle.tree_lines.specs.declared.reason.Reason.{Reason}
use Rattle.tree_changes.specs.Moving.{HasGoal, IsMoved, IsUnmoved, Moves, MovesTo}
use Rattle.tree_changes.specs.Paths.{AtPath}
use Rattle.tree_changes.proofs.Along.{calls_at}
use Rattle.tree_changes.proofs.Going.{goes_to}

answered_so : {A E : Type 0} (Does Done : Result A Fault → Type 0) (result : Result A E) → ((answer : Result A Fault) → Does answer → Done answer) →
    Answers Does result → Answers Done result
answered_so Does Done (Ok made) so answers = so (Ok made) answers
answered_so Does Done (Err told) so answers = (answers.0, so (Err answers.0) answers.1)

module _ (T : Types) (folder : ℕ) (path : List ℕ) (old new : StoreState) (volume volume' : Volume) (node : Node) (directory : ℕ) (name own : List ℕ)
    (moved : IsMoved old volume folder path node directory name own) (to : List ℕ) (several : Bool) (goal : Goal) (has : HasGoal old volume folder to several goal)
    (place : ℕ) (last : List ℕ) (slash : Bool) (folder_is : place ≡ goal_folder goal) (name_is : last ≡ goal_name goal own) (slash_is : slash ≡ goal_slash goal)
    {E : Type 0} (result : Result (Unit {0}) E) where
  pub moves_at : (Does : Result (Unit {0}) Fault → Type 0) →
      ((answer : Result (Unit {0}) Fault) → Does answer → MovesTo T folder node directory name place last slash old new volume volume' answer) →
      Answers Does result → AtPath (Moves T folder to several) (IsUnmoved T folder to several) path old new volume volume' result
  moves_at Does so answers =
      let goes = goes_to (FindsPath old volume) (λ (number : ℕ) (answer : Result Node Reason). answer ≡ node_seen old volume number) folder to several goal own
      place last slash folder_is name_is slash_is has in
      calls_at (Moves T folder to several) (IsUnmoved T folder to several) path old new volume volume'
      (MovesTo T folder node directory name place last slash old new volume volume') result
      (answered_so Does (MovesTo T folder node directory name place last slash old new volume volume') result so answers)
      (λ made. (node, directory, name, own, place, last, slash, moved, goes, made))
      (λ fault refused. inr (fault, (node, directory, name, own, place, last, slash, moved, goes, refused)))
