-- Nothing is seen where a path leads.
use Rattle.std.proofs.Common.{◌≡◌, ◌∙◌, ℕ, true, List, Result, Ok, Err, inl, inr, subst, sym}
use Rattle.xn_model.specs.Lives.{StoreState}
use Rattle.xn_model.specs.Types.{Types}
use Rattle.tree_lines.specs.Values.{Volume}
use Rattle.tree_lines.specs.Looks.{FindsPath, node_seen}
use Rattle.tree_lines.specs.Trees.{IsNowhereIn}
use Rattle.tree_lines.specs.declared.node.Node.{Node}
use Rattle.tree_lines.specs.declared.reason.Reason.{Reason}
use Rattle.tree_lines.specs.declared.reason.Reason.TheVariants.{Missing}
use Rattle.tree_changes.specs.Making.{HasFolder, IsUnmade, MakesFolder}
use Rattle.tree_changes.specs.Paths.{AtPath}

module _ (state : StoreState) (volume : Volume) (folder : ℕ) (path bytes : List ℕ) (found : Result Node Reason) (bytes_are : bytes ≡ path)
    (missing : found ≡ Err Missing) where
  pub nowhere_by_node : (number : ℕ) (seen : Result Node Reason) → FindsPath state volume folder bytes true (Ok number) → seen ≡ node_seen state volume number →
      found ≡ seen → IsNowhereIn state volume folder path
  nowhere_by_node number seen leads shows is =
      inr (number, subst (λ (p : List ℕ). FindsPath state volume folder p true (Ok number)) bytes_are leads, sym missing ∙ (is ∙ shows))

  pub nowhere_by_path : (reason : Reason) → FindsPath state volume folder bytes true (Err reason) → found ≡ Err reason → IsNowhereIn state volume folder path
  nowhere_by_path reason leads is =
      let reason_is : reason ≡ Missing = cc in
      let at = subst (λ (p : List ℕ). FindsPath state volume folder p true (Err reason)) bytes_are leads in
      inl (subst (λ (r : Reason). FindsPath state volume folder path true (Err r)) reason_is at)

pub made_nowhere : {E : Type 0} (T : Types) (folder : ℕ) (path : List ℕ) (old new : StoreState) (volume volume' : Volume) (result : Result (Unit {0}) E) →
    IsNowhereIn old volume folder path → AtPath (MakesFolder T folder) (IsUnmade T folder) path old new volume volume' result →
    AtPath (HasFolder T folder) (IsUnmade T folder) path old new volume volume' result
made_nowhere T folder path old new volume volume' (Ok done) nowhere made = inr (nowhere, made)
made_nowhere T folder path old new volume volume' (Err fault) nowhere left = left
