-- How a file that is in the volume gets one more name.
--     LinksAs            a number gets one more name
--     TakesBack          a name is taken away again, or is not
--     MovesToPlace       a name becomes that of the place; where that fails it is taken back
--     LinksOver          a number gets a name that nothing has, which then becomes that of the place
--     LinksThere         a number gets the name of a place, by what has that
--     GetsName           the same, where that can be seen
use Rattle.std.specs.Prelude.{◌≡◌, ◌≢◌, ◌⊎◌, ℕ, List, [], ◌∷◌, IsErr, Option, None, Some, Result, Ok}
use Rattle.treefs_model.specs.declared.fault.Fault.{Fault}
use Rattle.tree_lines.specs.Places.{IsFolder}
use Rattle.tree_lines.specs.Trees.{IsThereIn}
use Rattle.tree_lines.specs.declared.node.Node.{Node}
use Rattle.tree_puts.specs.Actions.{Action, Calls, Nothing, OrElse, Then}
use Rattle.tree_puts.specs.Actions.Action.{links, renames, unlinks}
use Rattle.tree_puts.specs.Lines.{Acts, ForgetsName, LineState, Stays}
use Rattle.tree_puts.specs.declared.arriving.Goods.{Goods}

abbrev pub LinksAs : {E : Type 0} → Goods → ℕ → List ℕ → Result (Unit {0}) E → List Action → Type 0
LinksAs goods number name = Calls (links number goods.place.folder name)

-- it is not where the store refused a call; what taking it away answers isn't told
abbrev pub TakesBack : Goods → List ℕ → List Action → Type 0
TakesBack goods name actions = Nothing actions ⊎ ((taken : Result (Unit {0}) Fault) × (actions ≡ unlinks goods.place.folder name taken ∷ []))

abbrev pub MovesToPlace : {E : Type 0} → Goods → List ℕ → Result (Unit {0}) E → List Action → Type 0
MovesToPlace goods name = OrElse (Calls (renames goods.place.folder name goods.place.name.now)) (TakesBack goods name)

-- In the place of what has the name

abbrev pub LinksBeside : {E : Type 0} → Goods → ℕ → List ℕ → Result (Unit {0}) E → List Action → Type 0
LinksBeside goods number beside = Then (LinksAs goods number beside) (λ done. MovesToPlace goods beside)

-- nothing is done where no such name is found
abbrev pub LinksOver : {E : Type 0} → Goods → ℕ → Result (Unit {0}) E → LineState → LineState → Type 0
LinksOver goods number result a b = (IsErr result × Stays a b)
    ⊎ ((beside : List ℕ) × IsThereIn a.store a.volume goods.place.folder beside None × Acts (LinksBeside goods number beside result) a b)

-- the number's own name stays, and so does that of a folder, which is a fault
abbrev pub LinksThere : {E : Type 0} → Goods → ℕ → Option Node → Result (Unit {0}) E → LineState → LineState → Type 0
LinksThere goods number None result a b = Acts (LinksAs goods number goods.place.name.now result) a b
LinksThere goods number (Some node) result a b = ((node.number ≡ number) × (result ≡ Ok tt) × Stays a b)
    ⊎ (((node.number ≢ number) × IsFolder node × IsErr result × Stays a b)
    ⊎ ((node.number ≢ number) × ¬ IsFolder node × ((between : LineState) × ForgetsName goods.place.folder goods.place.name.now a between
    × LinksOver goods number result between b)))

abbrev pub GetsName : {E : Type 0} → Goods → ℕ → Result (Unit {0}) E → LineState → LineState → Type 0
GetsName goods number result a b = (IsErr result × Stays a b)
    ⊎ ((there : Option Node) × IsThereIn a.store a.volume goods.place.folder goods.place.name.now there × LinksThere goods number there result a b)
