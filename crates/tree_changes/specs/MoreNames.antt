-- A copy gets one more name.
--     MovesOver      a name beside its place is moved there, or taken away again
--     PutsOver       where something has the name it gets one beside it first
--     PutsName       where nothing has, that one at once
use Rattle.std.specs.Prelude.{◌⊎◌, ℕ, List, None, Some, Result, Ok, Err, MatchResult}
use Rattle.xn_model.specs.Lives.{StoreState}
use Rattle.xn_model.specs.Types.{Types}
use Rattle.treefs_model.specs.declared.fault.Fault.{Fault}
use Rattle.tree_lines.specs.Values.{Volume}
use Rattle.tree_lines.specs.Trees.{IsThereIn}
use Rattle.tree_lines.specs.declared.node.Node.{Node}
use Rattle.tree_changes.specs.Moving.{RenameIn}
use Rattle.tree_changes.specs.Naming.{LinkIn}
use Rattle.tree_changes.specs.Removing.{UnlinkIn}

-- taken: what taking it away answers, which is not told
abbrev pub MovesOver : Types → ℕ → ℕ → List ℕ → List ℕ → StoreState → StoreState → Volume → Volume → Result (Unit {0}) Fault → Type 0
MovesOver T folder directory beside name old new volume volume' result =
    MatchResult result (λ done. RenameIn T folder directory beside directory name old new volume volume' (Ok tt))
    (λ fault. (middle : StoreState) × (between : Volume) × (taken : Result (Unit {0}) Fault)
    × RenameIn T folder directory beside directory name old middle volume between (Err fault)
    × UnlinkIn T folder directory beside middle new between volume' taken)

-- nothing has the name beside it
abbrev pub PutsOver : Types → ℕ → ℕ → ℕ → List ℕ → StoreState → StoreState → Volume → Volume → Result (Unit {0}) Fault → Type 0
PutsOver T folder number directory name old new volume volume' result = (beside : List ℕ) × IsThereIn old volume directory beside None
    × (MatchResult result (λ done. ⊥) (λ fault. LinkIn T folder number directory beside old new volume volume' (Err fault))
    ⊎ ((middle : StoreState) × (between : Volume) × LinkIn T folder number directory beside old middle volume between (Ok tt)
    × MovesOver T folder directory beside name middle new between volume' result))

abbrev pub PutsName : Types → ℕ → ℕ → ℕ → List ℕ → StoreState → StoreState → Volume → Volume → Result (Unit {0}) Fault → Type 0
PutsName T folder number directory name old new volume volume' result =
    (IsThereIn old volume directory name None × LinkIn T folder number directory name old new volume volume' result)
    ⊎ ((other : Node) × IsThereIn old volume directory name (Some other) × PutsOver T folder number directory name old new volume volume' result)
