-- What `ln` does.
--     IsOwnFor                 the name that the target has, in a folder that is there
--     LinkIn, LinkTo           the call `link`, of a number, or of the path of a target, to a name in a folder
--     IsSymbolicPut            what is put for a symbolic link
--     SymbolicTo               that is put
--     LinksTo, IsUnlinkedTo    the one or the other is done, or not
--     Links, IsUnlinked        the same, of two paths
use Rattle.std.specs.Prelude.{◌≡◌, ◌⊎◌, ℕ, ◌≤◌, false, List, [], ◌∷◌, length, Result, Ok}
use Rattle.xn_model.specs.Lives.{StoreState}
use Rattle.xn_model.specs.Types.{Types}
use Rattle.treefs_format.specs.declared.kind.Kind.TheVariants.{SymbolicLink}
use Rattle.treefs_model.specs.declared.fault.Fault.{Fault}
use Rattle.tree_lines.specs.Linking.{LinkDoes}
use Rattle.tree_lines.specs.Values.{Put, Volume}
use Rattle.tree_lines.specs.Freeing.{MakesFreely}
use Rattle.tree_lines.specs.Puts.{PutDoes}
use Rattle.tree_lines.specs.Places.{IsFolder, IsLastName, IsOwnName}
use Rattle.tree_lines.specs.Trees.{GoesIn, IsNodeIn}
use Rattle.tree_lines.specs.declared.node.Node.{Node}
use Rattle.tree_changes.specs.Folders.{IsNew}
use Rattle.tree_changes.specs.Paths.{IsRefused, IsSame}
use Rattle.tree_changes.specs.declared.naming.Linking.{Linking}
use Rattle.tree_changes.specs.declared.naming.Linking.TheVariants.{Hard, Symbolic}

abbrev pub IsOwnFor : Linking → List ℕ → List ℕ → Type 0
IsOwnFor Hard target own = IsOwnName target own
IsOwnFor Symbolic target own = IsLastName target own

-- One more name of a file or a symbolic link

abbrev pub LinkIn : Types → ℕ → ℕ → ℕ → List ℕ → StoreState → StoreState → Volume → Volume → Result (Unit {0}) Fault → Type 0
LinkIn T folder number directory name =
    MakesFreely (λ old new volume volume' result. LinkDoes T old new volume volume' number directory name result) T (folder ∷ [])

-- of what stands where the target leads, which is no folder; a symbolic link there is not followed
abbrev pub LinkTo : Types → ℕ → List ℕ → ℕ → List ℕ → StoreState → StoreState → Volume → Volume → Result (Unit {0}) Fault → Type 0
LinkTo T folder target directory name old new volume volume' result =
    (node : Node) × IsNodeIn old volume folder target false node × ¬ IsFolder node × LinkIn T folder node.number directory name old new volume volume' result

-- A symbolic link

-- with the permissions 0o777; of a name that is not there
abbrev pub IsSymbolicPut : Put → ℕ → List ℕ → List ℕ → Type 0
IsSymbolicPut put directory name target = (put.directory ≡ directory) × (put.name.now ≡ name) × (put.kind ≡ SymbolicLink) × IsNew put.attributes 511
    × (put.bytes.now ≡ target) × (put.replace ≡ false)

abbrev pub SymbolicTo : Types → ℕ → List ℕ → ℕ → List ℕ → StoreState → StoreState → Volume → Volume → Result ℕ Fault → Type 0
SymbolicTo T folder target directory name old new volume volume' result =
    (put : Put) × IsSymbolicPut put directory name target × PutDoes T (folder ∷ []) put old new volume volume' result

-- Both, to a name in a folder

abbrev pub LinksTo : Types → ℕ → Linking → List ℕ → ℕ → List ℕ → StoreState → StoreState → Volume → Volume → Type 0
LinksTo T folder Hard target directory name old new volume volume' = LinkTo T folder target directory name old new volume volume' (Ok tt)
LinksTo T folder Symbolic target directory name old new volume volume' =
    (length target ≤ 4096) × ((number : ℕ) × SymbolicTo T folder target directory name old new volume volume' (Ok number))

abbrev pub IsUnlinkedTo : Types → ℕ → Linking → List ℕ → ℕ → List ℕ → StoreState → StoreState → Volume → Volume → Type 0
IsUnlinkedTo T folder Hard target directory name old new volume volume' =
    IsRefused (LinkTo T folder target directory name old new volume volume') old new volume volume'
IsUnlinkedTo T folder Symbolic target directory name old new volume volume' =
    IsRefused (SymbolicTo T folder target directory name old new volume volume') old new volume volume'

-- Both, of two paths; no slash stands behind the name

abbrev pub Links : Types → ℕ → Linking → List ℕ → List ℕ → StoreState → StoreState → Volume → Volume → Type 0
Links T folder linking target path old new volume volume' =
    (own : List ℕ) × (directory : ℕ) × (name : List ℕ) × IsOwnFor linking target own × GoesIn old volume folder path false own directory name false
    × LinksTo T folder linking target directory name old new volume volume'

-- nothing was changed; or a call was refused
abbrev pub IsUnlinked : Types → ℕ → Linking → List ℕ → List ℕ → StoreState → StoreState → Volume → Volume → Type 0
IsUnlinked T folder linking target path old new volume volume' =
    IsSame old new volume volume'
    ⊎ ((own : List ℕ) × (directory : ℕ) × (name : List ℕ) × IsOwnFor linking target own × GoesIn old volume folder path false own directory name false
    × IsUnlinkedTo T folder linking target directory name old new volume volume')
