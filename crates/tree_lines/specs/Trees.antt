-- Where paths of a line lead in a volume of trees.
--     IsNodeIn       what stands where a path leads
--     IsNowhereIn    nothing stands where a path leads
--     IsPlaceIn      the folder and the name of a path
--     IsThereIn      what a name in a folder leads to, if there is such a name
--     GoesIn         the folder and the name that something gets which goes to a path
--     ComesIn        what a walk comes to, where some outcomes are passed over
use Rattle.std.specs.Prelude.{◌≡◌, ℕ, Bool, List, Option}
use Rattle.xn_model.specs.Lives.{StoreState}
use Rattle.treefs_session.specs.Values.{Volume}
use Rattle.tree_lines.specs.Listing.{ListsFolder}
use Rattle.tree_lines.specs.Looks.{FindsPath, node_seen, number_seen}
use Rattle.tree_lines.specs.Places.{GoesTo, IsFoundNode, IsPlace, IsThere, LeadsNowhere}
use Rattle.tree_lines.specs.Walks.{ComesTo, Outcome, Progress}
use Rattle.tree_lines.specs.declared.node.Node.{Node}
use Rattle.tree_lines.specs.declared.told.Told.{Told}

-- last: whether a symbolic link at the end is followed
abbrev pub IsNodeIn : StoreState → Volume → ℕ → List ℕ → Bool → Node → Type 0
IsNodeIn state volume = IsFoundNode (FindsPath state volume) (λ number result. result ≡ node_seen state volume number)

abbrev pub IsNowhereIn : StoreState → Volume → ℕ → List ℕ → Type 0
IsNowhereIn state volume = LeadsNowhere (FindsPath state volume) (λ number result. result ≡ node_seen state volume number)

-- with whether a slash follows the name
abbrev pub IsPlaceIn : StoreState → Volume → ℕ → List ℕ → ℕ → List ℕ → Bool → Type 0
IsPlaceIn state volume = IsPlace (FindsPath state volume)

abbrev pub IsThereIn : StoreState → Volume → ℕ → List ℕ → Option Node → Type 0
IsThereIn state volume = IsThere (λ folder name result. result ≡ number_seen state volume folder name) (λ number result. result ≡ node_seen state volume number)

-- several: whether several things go there; own: the name that it has
abbrev pub GoesIn : StoreState → Volume → ℕ → List ℕ → Bool → List ℕ → ℕ → List ℕ → Bool → Type 0
GoesIn state volume = GoesTo (FindsPath state volume) (λ number result. result ≡ node_seen state volume number)

abbrev pub ComesIn : StoreState → Volume → (Outcome → Type 0) → Progress → Told → Progress → Told → Outcome → Type 0
ComesIn state volume = ComesTo (ListsFolder state volume) (λ number result. result ≡ node_seen state volume number)
