-- What is done of a name is done of the path that leads to it.
use Rattle.std.proofs.Common.{ℕ, Bool, List, inl, inr}
use Rattle.xn_model.specs.Lives.{StoreState}
use Rattle.xn_model.specs.Types.{Types}
use Rattle.tree_lines.specs.Values.{Volume}
use Rattle.tree_lines.specs.Places.{IsOwnName}
use Rattle.tree_lines.specs.Trees.{IsPlaceIn}
use Rattle.tree_changes.specs.Removing.{IsKept, IsNameKept, Removes, RemovesNamed}

module _ (forced : Bool) (T : Types) (folder : ℕ) (path : List ℕ) (old new : StoreState) (volume volume' : Volume) (own : List ℕ) (directory : ℕ)
    (name : List ℕ) (slash : Bool) (is_own : IsOwnName path own) (place : IsPlaceIn old volume folder path directory name slash) where
  pub removed : RemovesNamed forced T folder directory name slash old new volume volume' → Removes forced T folder path old new volume volume'
  removed (inl away) = inl (away.0, inl (directory, name, slash, place, away.1), away.2)
  removed (inr unlinks) = inr (own, directory, name, slash, is_own, place, unlinks)

  pub kept : IsNameKept T folder directory name slash old new volume volume' → IsKept T folder path old new volume volume'
  kept (inl same) = inl same
  kept (inr refused) = inr (refused.0, (own, directory, name, slash, is_own, place, refused.1))
