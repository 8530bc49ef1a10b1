-- A number gets a name beside a place, which then becomes that of the place.
use Rattle.std.proofs.Common.{◌≡◌, ℕ, List, Result, Ok, Err, inl, inr, refl, subst}
use Rattle.std.specs.Prelude.{IsErr}
use Rattle.xn_model.specs.Lives.{StoreState}
use Rattle.xn_model.specs.Types.{Types}
use Rattle.tree_lines.specs.Values.{Volume}
use Rattle.tree_puts.specs.Actions.{Performs}
use Rattle.tree_puts.specs.Linking.{LinksAs, LinksBeside, MovesToPlace}
use Rattle.tree_puts.specs.declared.arriving.Goods.{Goods}
use Rattle.tree_puts.proofs.Performed.{both_done, by_plan}

module _ {T : Types} {top : ℕ} {old new : StoreState} {volume volume' : Volume} {E : Type 0} (goods : Goods) (number : ℕ)
    (beside bytes : List ℕ) (bytes_are : bytes ≡ beside) where
  pub not_linked : (fault : E) (result : Result (Unit {0}) E) → IsErr result →
      Performs T top (LinksAs {E = E} goods number bytes (Err fault)) old new volume volume' →
      Performs T top (LinksBeside goods number beside result) old new volume volume'
  not_linked fault result is link = by_plan link (λ actions planned. inl (
    is,
    (
      fault,
      subst (λ (l : List ℕ). LinksAs {E = E} goods number l (Err fault) actions) bytes_are planned,
    ),
  ))

  pub linked_over : {types : Types} {folder : ℕ} {middle : StoreState} {between : Volume} (text : List ℕ) → text ≡ beside → (result : Result (Unit {0}) E) →
      Performs T top (LinksAs {E = E} goods number bytes (Ok tt)) old middle volume between → types ≡ T → folder ≡ top →
      Performs types folder (MovesToPlace goods text result) middle new between volume' →
      Performs T top (LinksBeside goods number beside result) old new volume volume'
  linked_over text text_is result link types_are folder_is moves = both_done link types_are folder_is moves (λ before behind one other. inr (
    tt,
    before,
    behind,
    refl,
    subst (λ (l : List ℕ). LinksAs {E = E} goods number l (Ok tt) before) bytes_are one,
    subst (λ (l : List ℕ). MovesToPlace goods l result behind) text_is other,
  ))
