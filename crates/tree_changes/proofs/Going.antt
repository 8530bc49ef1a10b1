-- Where something goes: the folder and the name that its goal tells.
use Rattle.std.proofs.Common.{◌≡◌, ◌∙◌, ℕ, Bool, List, Result, inl, inr, subst, sym}
use Rattle.tree_lines.specs.Places.{GoesTo, IsGoal, IsPlace, goal_folder, goal_name, goal_slash}
use Rattle.tree_lines.specs.declared.node.Node.{Node}
use Rattle.tree_lines.specs.declared.paths.Goal.{Goal}
use Rattle.tree_lines.specs.declared.paths.Goal.TheVariants.{Into, To}
use Rattle.tree_lines.specs.declared.reason.Reason.{Reason}

pub goes_to : (Leads : ℕ → List ℕ → Bool → Result ℕ Reason → Type 0) (Shows : ℕ → Result Node Reason → Type 0) (folder : ℕ) (path : List ℕ) (several : Bool)
    (goal : Goal) (own : List ℕ) (directory : ℕ) (name : List ℕ) (slash : Bool) → directory ≡ goal_folder goal → name ≡ goal_name goal own →
    slash ≡ goal_slash goal → IsGoal Leads Shows folder path several goal → GoesTo Leads Shows folder path several own directory name slash
goes_to Leads Shows folder path several (Into number) own directory name slash folder_is name_is slash_is is =
    inl ((is.0, is.1, is.2, folder_is ∙ is.3), name_is, slash_is)
goes_to Leads Shows folder path several (To place) own directory name slash folder_is name_is slash_is is =
    let at = is.1.1 in
    let with_slash = subst (λ (s : Bool). IsPlace Leads folder path place.folder place.name.now s) (sym slash_is) at in
    let with_name = subst (λ (n : List ℕ). IsPlace Leads folder path place.folder n slash) (sym name_is) with_slash in
    inr (is.0, (is.1.0, subst (λ (d : ℕ). IsPlace Leads folder path d name slash) (sym folder_is) with_name))
