-- What `cp` does with one file or symbolic link. The number of the source is told, and the block of the inode that was begun for the copy; most: how many
-- bytes are copied at once.
--     HasRightsOf                        something new gets permissions and owner of a node
--     BeginIn, CommitIn                  the calls `begin` and `commit`
--     CopiesStretch                      the next bytes that stand in blocks are read, and written at the same place
--     CopiesNext, LeavesStretch          that is done, if there are any; or not
--     CopiesStretches                    it is done some times
--     CopiesAll, LeavesSome              until no more stand in blocks; or not
--     EndsBytes                          a hole at the end gets a last byte
--     CopiesBytes, LeavesBytes           all bytes behind the first ones are copied, or not
--     NamesCopy, LeavesCopy              then the copy gets its name; or something was refused
--     GivesUpCopy                        what was begun is given up
--     CopiesContent, LeavesContent       a file is copied, or not
--     IsLinkPut, CopiesLink              a symbolic link is copied
--     Copies, IsUncopied                 a file or a symbolic link is copied, or not
use Rattle.std.specs.Prelude.{◌≡◌, ◌⊎◌, ℕ, ◌+◌, ◌-◌, ◌%◌, ◌<◌, ◌≤◌, Bool, true, List, [], ◌∷◌, Option, None, Some, Result, Ok, Err}
use Rattle.xn_model.specs.Lives.{StoreState}
use Rattle.xn_model.specs.Types.{Types}
use Rattle.treefs_format.specs.declared.kind.Kind.{Kind}
use Rattle.treefs_format.specs.declared.kind.Kind.TheVariants.{File, SymbolicLink}
use Rattle.treefs_model.specs.declared.fault.Fault.{Fault}
use Rattle.tree_lines.specs.Committing.{CommitDoes}
use Rattle.tree_lines.specs.Creating.{BeginDoes}
use Rattle.tree_lines.specs.Values.{Attributes, Begun, Put, Volume}
use Rattle.tree_lines.specs.Freeing.{GivesUp, MakesFreely}
use Rattle.tree_lines.specs.Pieces.{WritesAll}
use Rattle.tree_lines.specs.Puts.{PutDoes}
use Rattle.tree_lines.specs.Contents.{HasStretch, bytes_seen, target_seen}
use Rattle.tree_lines.specs.declared.node.Node.{Node}
use Rattle.tree_lines.specs.declared.node.Stretch.{Stretch}
use Rattle.tree_lines.specs.declared.reason.Reason.{Reason}
use Rattle.tree_changes.specs.Paths.{IsRefused, IsSame}

-- what tells it from an earlier inode of its number is not said
abbrev pub HasRightsOf : Attributes → Node → Type 0
HasRightsOf attributes node = (attributes.permissions ≡ node.permissions % 4096) × (attributes.uid ≡ node.uid) × (attributes.gid ≡ node.gid)

-- Calls

abbrev pub BeginIn : Types → ℕ → Attributes → List ℕ → StoreState → StoreState → Volume → Volume → Result ℕ Fault → Type 0
BeginIn T folder attributes head =
    MakesFreely (λ old new volume volume' result. BeginDoes T old new volume File attributes head result × (volume' ≡ volume)) T (folder ∷ [])

-- in the place of what has the name
abbrev pub CommitIn : Types → ℕ → ℕ → ℕ → List ℕ → StoreState → StoreState → Volume → Volume → Result ℕ Fault → Type 0
CommitIn T folder block directory name =
    MakesFreely (λ old new volume volume' result. CommitDoes T old new volume volume' block directory name true result) T (folder ∷ [])

-- Bytes

abbrev pub CopiesStretch : Types → ℕ → ℕ → ℕ → ℕ → ℕ → Stretch → StoreState → StoreState → Volume → Volume → Result (Unit {0}) Fault → Type 0
CopiesStretch T folder most number block at stretch old new volume volume' result = (bytes : List ℕ)
    × HasStretch old volume number at most (Ok (Some stretch)) × (bytes_seen old volume number stretch.at stretch.length ≡ Ok bytes)
    × WritesAll T (folder ∷ []) (Begun block stretch.at) bytes old new volume volume' result

-- with the byte behind them, if there are any
abbrev pub CopiesNext : Types → ℕ → ℕ → ℕ → ℕ → ℕ → StoreState → StoreState → Volume → Volume → Option ℕ → Type 0
CopiesNext T folder most number block at old new volume volume' None =
    HasStretch old volume number at most (Ok None) × IsSame old new volume volume'
CopiesNext T folder most number block at old new volume volume' (Some behind) = (stretch : Stretch)
    × CopiesStretch T folder most number block at stretch old new volume volume' (Ok tt) × (behind ≡ stretch.at + stretch.length)

-- from a byte on, up to one behind them
pub data CopiesStretches (T : Types) (folder most number block : ℕ) : ℕ → ℕ → StoreState → StoreState → Volume → Volume → Type 0 where
  none : {at : ℕ} {state : StoreState} {volume : Volume} → CopiesStretches T folder most number block at at state state volume volume
  copies : {from at : ℕ} {old new : StoreState} {volume volume' : Volume} (stretch : Stretch) (middle : StoreState) (between : Volume) →
      CopiesStretches T folder most number block from at old middle volume between →
      CopiesStretch T folder most number block at stretch middle new between volume' (Ok tt) →
      CopiesStretches T folder most number block from (stretch.at + stretch.length) old new volume volume'

-- why the next bytes of the source can't be read
abbrev pub IsUnread : ℕ → ℕ → ℕ → StoreState → Volume → Type 0
IsUnread most number at state volume = (reason : Reason) × (HasStretch state volume number at most (Err reason)
    ⊎ ((stretch : Stretch) × HasStretch state volume number at most (Ok (Some stretch))
    × (bytes_seen state volume number stretch.at stretch.length ≡ Err reason)))

-- they can't; or they couldn't be written
abbrev pub LeavesStretch : Types → ℕ → ℕ → ℕ → ℕ → ℕ → StoreState → StoreState → Volume → Volume → Type 0
LeavesStretch T folder most number block at old new volume volume' =
    (IsUnread most number at old volume × IsSame old new volume volume')
    ⊎ ((stretch : Stretch) × (fault : Fault) × CopiesStretch T folder most number block at stretch old new volume volume' (Err fault))

-- the first 384 bytes are there already; at: the byte behind all others, that reaches the size, or behind which none stand in blocks
abbrev pub CopiesAll : Types → ℕ → ℕ → Node → ℕ → StoreState → StoreState → Volume → Volume → ℕ → Type 0
CopiesAll T folder most node block old new volume volume' at =
    CopiesStretches T folder most node.number block 384 at old new volume volume'
    × ((node.size ≤ at) ⊎ HasStretch new volume' node.number at most (Ok None))

abbrev pub LeavesSome : Types → ℕ → ℕ → Node → ℕ → StoreState → StoreState → Volume → Volume → Type 0
LeavesSome T folder most node block old new volume volume' = (at : ℕ) × (middle : StoreState) × (between : Volume)
    × CopiesStretches T folder most node.number block 384 at old middle volume between
    × LeavesStretch T folder most node.number block at middle new between volume'

-- where a hole is at the end its last byte is written
abbrev pub EndsBytes : Types → ℕ → ℕ → ℕ → ℕ → StoreState → StoreState → Volume → Volume → Result (Unit {0}) Fault → Type 0
EndsBytes T folder block size at old new volume volume' result = ((size ≤ at) × IsSame old new volume volume' × (result ≡ Ok tt))
    ⊎ ((at < size) × WritesAll T (folder ∷ []) (Begun block (size - 1)) (0 ∷ []) old new volume volume' result)

abbrev pub CopiesBytes : Types → ℕ → ℕ → Node → ℕ → StoreState → StoreState → Volume → Volume → Result (Unit {0}) Fault → Type 0
CopiesBytes T folder most node block old new volume volume' result = (at : ℕ) × (middle : StoreState) × (between : Volume)
    × CopiesAll T folder most node block old middle volume between at × EndsBytes T folder block node.size at middle new between volume' result

abbrev pub LeavesBytes : Types → ℕ → ℕ → Node → ℕ → StoreState → StoreState → Volume → Volume → Type 0
LeavesBytes T folder most node block old new volume volume' = LeavesSome T folder most node block old new volume volume'
    ⊎ ((fault : Fault) × CopiesBytes T folder most node block old new volume volume' (Err fault))

-- A file that was begun

abbrev pub NamesCopy : Types → ℕ → ℕ → Node → ℕ → ℕ → List ℕ → StoreState → StoreState → Volume → Volume → Result ℕ Fault → Type 0
NamesCopy T folder most node block directory name old new volume volume' result = (middle : StoreState) × (between : Volume)
    × CopiesBytes T folder most node block old middle volume between (Ok tt) × CommitIn T folder block directory name middle new between volume' result

abbrev pub LeavesCopy : Types → ℕ → ℕ → Node → ℕ → ℕ → List ℕ → StoreState → StoreState → Volume → Volume → Type 0
LeavesCopy T folder most node block directory name old new volume volume' =
    LeavesBytes T folder most node block old new volume volume'
    ⊎ ((fault : Fault) × NamesCopy T folder most node block directory name old new volume volume' (Err fault))

-- but where the store had refused a call, after which nothing more is done; given: what that answers, which is not told
abbrev pub GivesUpCopy : Types → ℕ → StoreState → StoreState → Volume → Volume → Type 0
GivesUpCopy T block old new volume volume' =
    IsSame old new volume volume' ⊎ ((given : Result Bool Fault) × GivesUp T block old new volume volume' given)

-- A file

-- it is begun with the first 384 bytes of the source, and has its name once all are written
abbrev pub CopiesContent : Types → ℕ → ℕ → Node → ℕ → List ℕ → StoreState → StoreState → Volume → Volume → ℕ → Type 0
CopiesContent T folder most node directory name old new volume volume' number =
    (attributes : Attributes) × (head : List ℕ) × (block : ℕ) × (middle : StoreState) × (between : Volume) × HasRightsOf attributes node
    × (bytes_seen old volume node.number 0 384 ≡ Ok head) × BeginIn T folder attributes head old middle volume between (Ok block)
    × NamesCopy T folder most node block directory name middle new between volume' (Ok number)

-- the first bytes can't be read; or nothing was begun; or what was begun is given up
abbrev pub LeavesContent : Types → ℕ → ℕ → Node → ℕ → List ℕ → StoreState → StoreState → Volume → Volume → Type 0
LeavesContent T folder most node directory name old new volume volume' =
    ((reason : Reason) × (bytes_seen old volume node.number 0 384 ≡ Err reason) × IsSame old new volume volume')
    ⊎ ((attributes : Attributes) × (head : List ℕ) × HasRightsOf attributes node × (bytes_seen old volume node.number 0 384 ≡ Ok head)
    × (((fault : Fault) × BeginIn T folder attributes head old new volume volume' (Err fault))
    ⊎ ((block : ℕ) × (middle : StoreState) × (between : Volume) × (stopped : StoreState) × (then : Volume)
    × BeginIn T folder attributes head old middle volume between (Ok block)
    × LeavesCopy T folder most node block directory name middle stopped between then × GivesUpCopy T block stopped new then volume')))

-- A symbolic link

abbrev pub IsLinkPut : Put → Node → ℕ → List ℕ → List ℕ → Type 0
IsLinkPut put node directory name target = (put.directory ≡ directory) × (put.name.now ≡ name) × (put.kind ≡ SymbolicLink)
    × HasRightsOf put.attributes node × (put.bytes.now ≡ target) × (put.replace ≡ true)

abbrev pub CopiesLink : Types → ℕ → Node → ℕ → List ℕ → StoreState → StoreState → Volume → Volume → Result ℕ Fault → Type 0
CopiesLink T folder node directory name old new volume volume' result = (put : Put) × (target : List ℕ)
    × (target_seen old volume node.number ≡ Ok target) × IsLinkPut put node directory name target
    × PutDoes T (folder ∷ []) put old new volume volume' result

-- Both

abbrev pub CopiesAs : Kind → Types → ℕ → ℕ → Node → ℕ → List ℕ → StoreState → StoreState → Volume → Volume → ℕ → Type 0
CopiesAs SymbolicLink T folder most node directory name old new volume volume' number =
    CopiesLink T folder node directory name old new volume volume' (Ok number)
CopiesAs other T folder most node directory name old new volume volume' number =
    CopiesContent T folder most node directory name old new volume volume' number

-- number: that of the copy
abbrev pub Copies : Types → ℕ → ℕ → Node → ℕ → List ℕ → StoreState → StoreState → Volume → Volume → ℕ → Type 0
Copies T folder most node = CopiesAs node.kind T folder most node

abbrev pub IsUncopiedAs : Kind → Types → ℕ → ℕ → Node → ℕ → List ℕ → StoreState → StoreState → Volume → Volume → Type 0
IsUncopiedAs SymbolicLink T folder most node directory name old new volume volume' =
    IsRefused (CopiesLink T folder node directory name old new volume volume') old new volume volume'
IsUncopiedAs other T folder most node directory name old new volume volume' =
    LeavesContent T folder most node directory name old new volume volume'

abbrev pub IsUncopied : Types → ℕ → ℕ → Node → ℕ → List ℕ → StoreState → StoreState → Volume → Volume → Type 0
IsUncopied T folder most node = IsUncopiedAs node.kind T folder most node
