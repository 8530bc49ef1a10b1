-- What stands at a path is copied to where it goes.
use Rattle.std.proofs.Common.{◌≡◌, ◌∙◌, ℕ, Bool, true, false, List, Result, Ok, Err, ap, inl, inr}
use Rattle.std.specs.Prelude.{MatchResult}
use Rattle.xn_model.specs.Lives.{StoreState}
use Rattle.xn_model.specs.Types.{Types}
use Rattle.tree_lines.specs.Values.{Volume}
use Rattle.tree_lines.specs.Looks.{FindsPath, node_seen}
use Rattle.tree_lines.specs.Places.{IsFolder, IsOwnName, goal_folder, goal_name, goal_slash}
use Rattle.tree_lines.specs.Trees.{GoesIn, IsNodeIn}
use Rattle.tree_lines.specs.declared.node.Node.{Node}
use Rattle.tree_lines.specs.declared.paths.Goal.{Goal}
use Rattle.tree_lines.specs.declared.reason.Reason.{Reason}
use Rattle.tree_changes.specs.CopiedFiles.{CopiesOver, LeavesOver, Replaces, copied_over}
use Rattle.tree_changes.specs.Copying.{CopiesAt, IsCopied, IsLeftAt}
use Rattle.tree_changes.specs.Moving.{HasGoal}
use Rattle.tree_changes.specs.Paths.{AtPath}
use Rattle.tree_changes.specs.declared.copies.Copying.{Copying}
use Rattle.tree_changes.proofs.CopiedOver.{copied_single, left_single}
use Rattle.tree_changes.proofs.Going.{goes_to}

module _ (T : Types) (folder most : ℕ) (copying copying' : Copying) (single : copying.is_recursive ≡ false) (path : List ℕ) (old new : StoreState)
    (volume volume' : Volume) (node : Node) (found : IsNodeIn old volume folder path true node) (no_folder : ¬ IsFolder node) (own : List ℕ)
    (is_own : IsOwnName path own) (to : List ℕ) (several : Bool) (goal : Goal) (has : HasGoal old volume folder to several goal)
    (place : ℕ) (last : List ℕ) (slash : Bool) (folder_is : place ≡ goal_folder goal) (name_is : last ≡ goal_name goal own) (slash_is : slash ≡ goal_slash goal)
  where
    goes : GoesIn old volume folder to several own place last slash
    goes =
        goes_to (FindsPath old volume) (λ (number : ℕ) (answer : Result Node Reason). answer ≡ node_seen old volume number) folder to several goal own
        place last slash folder_is name_is slash_is has

    is_copied : (forgotten : Copying) (copied : Node) → Replaces copying forgotten old volume node place last slash copied →
        IsCopied old volume folder to several path copied place last
    is_copied forgotten copied replaces = (
      node,
      own,
      slash,
      replaces.0,
      found,
      no_folder,
      is_own,
      goes,
      replaces.1,
      replaces.4 ∙ ap (λ (r : Bool). copied_over r node replaces.0) single,
    )

    pub copied_at : {E : Type 0} (result : Result (Unit {0}) E) →
        MatchResult result (λ done. CopiesOver T folder most copying copying' node place last slash old new volume volume')
        (λ told. LeavesOver T folder most copying copying' node place last slash old new volume volume') →
        AtPath (CopiesAt most T folder to several) (IsLeftAt most T folder to several) path old new volume volume' result
    copied_at (Ok done) over =
        let copy = copied_single T folder most over.0 copying' over.1 place last old new volume volume' (over.2.3 ∙ single) over.3 in
        (over.1, place, last, copy.0, is_copied over.0 over.1 over.2, copy.1)
    copied_at (Err told) (inl same) = inl same.0
    copied_at (Err told) (inr over) =
        inr (
          over.1,
          place,
          last,
          is_copied over.0 over.1 over.2,
          left_single T folder most over.0 copying' over.1 place last old new volume volume' (over.2.3 ∙ single) over.3,
        )
