-- How a file or a symbolic link of the system gets into a volume.
--     HasRights          a new inode has the permissions, the user and the group that the system tells
--     SetsTime           the time of a number is set
--     SetsAll            all that the system tells of a number is set
--     PutsWhole          a whole file or symbolic link is put by one call
--     IsWritten          bytes of an inode that was begun were written at their places, in this order
--     WritesEach         the same, or those up to a fault
--     WritesArrived      the pieces of a file are written as they arrive
--     Finishes           and then it gets its name
--     BeginsFile         a file is begun with its first bytes
--     PutsLong           it is begun with its first bytes and finished, or given up
--     PutsFile           a file is put: one of less than a piece and without holes by one call
--     PutsLink           a symbolic link is put, and gets its time
use Rattle.std.specs.Prelude.{◌≡◌, ◌⊎◌, ℕ, ℤ, ◌<◌, ◌≤◌, Bool, true, false, List, [], ◌∷◌, ◌++◌, length, map, take, Some, Result, Ok, Err, IsErr}
use Rattle.std.specs.Prelude.{MatchResult}
use Rattle.treefs_format.specs.declared.kind.Kind.{Kind}
use Rattle.treefs_format.specs.declared.kind.Kind.TheVariants.{File, SymbolicLink}
use Rattle.treefs_model.specs.declared.fault.Fault.{Fault}
use Rattle.host_trees.specs.declared.attributes.Attributes.{Attributes as Told}
use Rattle.tree_lines.specs.Values.{Attributes, Settings}
use Rattle.tree_puts.specs.Actions.{Action, Calls, Nothing, OrElse, Then}
use Rattle.tree_puts.specs.Actions.Action.{begins, gives_up, names, puts, sets, sets_time, writes}
use Rattle.tree_puts.specs.Holes.{hole_end, hole_writes, is_sparse}
use Rattle.tree_puts.specs.declared.arriving.Goods.{Goods}
use Rattle.tree_puts.specs.Places.{AreFull, BeginsWith, IsAll, place_behind, placed, whole_writes}

-- what tells it from an earlier inode of its number is not said
abbrev pub HasRights : Attributes → Told → Type 0
HasRights attributes told = (attributes.permissions ≡ told.permissions) × (attributes.uid ≡ told.uid) × (attributes.gid ≡ told.gid)

abbrev pub SetsTime : {E : Type 0} → ℕ → ℤ → Result (Unit {0}) E → List Action → Type 0
SetsTime number mtime = Calls (sets_time number mtime)

abbrev pub all_of : Told → Settings
all_of told = record {
  permissions = Some told.permissions;
  owner = Some (record { uid = told.uid; gid = told.gid });
  mtime = Some told.modified;
}

abbrev pub SetsAll : {E : Type 0} → ℕ → Told → Result (Unit {0}) E → List Action → Type 0
SetsAll number told = Calls (sets number (all_of told))

abbrev pub PutsWhole : {E : Type 0} → Goods → Kind → List ℕ → Result ℕ E → List Action → Type 0
PutsWhole goods kind bytes result actions = (attributes : Attributes) × HasRights attributes goods.attributes.now
    × Calls (puts goods.place.folder goods.place.name.now kind attributes bytes) result actions

-- Bytes of an inode that was begun, by its block

abbrev pub written : ℕ → ℕ × List ℕ → Action
written block placed = writes block placed.0 placed.1 (Ok tt)

abbrev pub IsWritten : ℕ → List (ℕ × List ℕ) → List Action → Type 0
IsWritten block places actions = actions ≡ map (written block) places

abbrev pub WritesSome : ℕ → List (ℕ × List ℕ) → List Action → Type 0
WritesSome block places actions =
    (before : List (ℕ × List ℕ)) × (next : ℕ × List ℕ) × (behind : List (ℕ × List ℕ)) × (fault : Fault) × (places ≡ before ++ next ∷ behind)
    × (actions ≡ map (written block) before ++ writes block next.0 next.1 (Err fault) ∷ [])

abbrev pub WritesEach : {A E : Type 0} → ℕ → List (ℕ × List ℕ) → Result A E → List Action → Type 0
WritesEach block places result actions = MatchResult result (λ done. IsWritten block places actions) (λ told. WritesSome block places actions)

-- those at some places, and then some of others, up to a fault
abbrev pub StopsIn : ℕ → List (ℕ × List ℕ) → List (ℕ × List ℕ) → List Action → Type 0
StopsIn block done places actions = (behind : List Action) × (actions ≡ map (written block) done ++ behind) × WritesSome block places behind

-- what follows full pieces could not be read; or the last piece that arrived could not be written; or what is written behind all of them
abbrev pub IsCutShort : (ℕ → List ℕ → List (ℕ × List ℕ)) → (List (List ℕ) → List (ℕ × List ℕ)) → ℕ → ℕ → List (List ℕ) → List Action → Type 0
IsCutShort write ending block room pieces actions =
    (AreFull room pieces × IsWritten block (placed write 0 pieces) actions)
    ⊎ (((before : List (List ℕ)) × (last : List ℕ) × (pieces ≡ before ++ last ∷ []) × AreFull room before × (length last ≤ room)
    × StopsIn block (placed write 0 before) (write (place_behind 0 before) last) actions)
    ⊎ (IsAll room pieces × StopsIn block (placed write 0 pieces) (ending pieces) actions))

-- write: what is written of the piece whose first byte stands there in the file; ending: what is written behind all pieces; first: the first of them, which has
-- arrived
abbrev pub WritesArrived : {E : Type 0} → (ℕ → List ℕ → List (ℕ × List ℕ)) → (List (List ℕ) → List (ℕ × List ℕ)) → ℕ → ℕ → List ℕ → Result (Unit {0}) E
    → List Action → Type 0
WritesArrived write ending block room first result actions = (pieces : List (List ℕ)) × BeginsWith first pieces × MatchResult result
    (λ done. IsAll room pieces × IsWritten block (placed write 0 pieces ++ ending pieces) actions)
    (λ told. IsCutShort write ending block room pieces actions)

abbrev pub WritesWhole : {E : Type 0} → ℕ → ℕ → List ℕ → Result (Unit {0}) E → List Action → Type 0
WritesWhole = WritesArrived whole_writes (λ pieces. [])

abbrev pub WritesHoles : {E : Type 0} → ℕ → ℕ → List ℕ → Result (Unit {0}) E → List Action → Type 0
WritesHoles = WritesArrived hole_writes hole_end

abbrev pub WritesPieces : {E : Type 0} → Bool → ℕ → ℕ → List ℕ → Result (Unit {0}) E → List Action → Type 0
WritesPieces true = WritesHoles
WritesPieces false = WritesWhole

abbrev pub Finishes : {E : Type 0} → Goods → ℕ → ℕ → List ℕ → Result ℕ E → List Action → Type 0
Finishes goods block room first = Then (WritesPieces (is_sparse goods.attributes.now) block room first) (λ done. Calls (names block goods.place.folder
    goods.place.name.now))

-- where the store refused a call nothing more is done; what giving up answers isn't told
abbrev pub IsGivenUp : ℕ → List Action → Type 0
IsGivenUp block actions = Nothing actions ⊎ ((given : Result Bool Fault) × (actions ≡ gives_up block given ∷ []))

abbrev pub BeginsFile : {E : Type 0} → Goods → List ℕ → Result ℕ E → List Action → Type 0
BeginsFile goods first result actions = (attributes : Attributes) × HasRights attributes goods.attributes.now
    × Calls (begins File attributes (take 384 first)) result actions

abbrev pub PutsLong : {E : Type 0} → Goods → ℕ → List ℕ → Result ℕ E → List Action → Type 0
PutsLong goods room first = Then (BeginsFile goods first) (λ block. OrElse (Finishes goods block room first) (IsGivenUp block))

abbrev pub PutsArrived : {E : Type 0} → Goods → ℕ → List ℕ → Result ℕ E → List Action → Type 0
PutsArrived goods room first result actions =
    ((length first < room) × (is_sparse goods.attributes.now ≡ false) × PutsWhole goods File first result actions)
    ⊎ ((length first < room → is_sparse goods.attributes.now ≡ true) × PutsLong goods room first result actions)

-- nothing is done where there can't be space, or nothing could be read
abbrev pub PutsFile : {E : Type 0} → Goods → ℕ → Result ℕ E → List Action → Type 0
PutsFile goods room result actions =
    (IsErr result × Nothing actions) ⊎ ((first : List ℕ) × (length first ≤ room) × PutsArrived goods room first result actions)

-- its target are some bytes
abbrev pub PutsLink : {E : Type 0} → Goods → Result (Unit {0}) E → List Action → Type 0
PutsLink goods result actions = (IsErr result × Nothing actions)
    ⊎ ((target : List ℕ) × Then (PutsWhole goods SymbolicLink target) (λ number. SetsTime number goods.attributes.now.modified) result actions)
