-- What is seen of the bytes of files and symbolic links.
--     bytes_seen                 the bytes of a file from one on, at most so many
--     IsRead, ReadsIn            they are read over others
--     target_seen, HasTarget     the target of a symbolic link; or there is no memory
--     HasStretch                 the next bytes of a file that stand in blocks, if any do
use Rattle.std.specs.Prelude.{◌≡◌, ◌⊎◌, ℕ, nat_lt, List, ◌++◌, drop, length, Option, Result, Ok, Err, if◌then◌else◌}
use Rattle.xn_model.specs.Lives.{StoreState}
use Rattle.treefs_model.specs.Reading.{leaf_block}
use Rattle.treefs_model.specs.declared.fault.Fault.{Fault}
use Rattle.treefs_lookup.specs.Bytes.{bytes_from, count_from}
use Rattle.treefs_lookup.specs.Inodes.{file_found, inode_found, link_found}
use Rattle.treefs_lookup.specs.Readable.{readable}
use Rattle.treefs_lookup.specs.declared.inodes.Found.{Found}
use Rattle.treefs_session.specs.Values.{Volume}
use Rattle.tree_lines.specs.Reasons.{reason_of}
use Rattle.tree_lines.specs.Stretches.{IsNextStretch}
use Rattle.tree_lines.specs.declared.node.Stretch.{Stretch}
use Rattle.tree_lines.specs.declared.reason.Reason.{Reason}
use Rattle.tree_lines.specs.declared.reason.Reason.TheVariants.{LongTarget, NoMemory}

-- Bytes

abbrev pub bytes_found : (ℕ → List ℕ) → Result Found Fault → ℕ → ℕ → Result (List ℕ) Reason
bytes_found content (Ok file) at most = Ok (bytes_from content file.block at (count_from file at most))
bytes_found content (Err fault) at most = Err (reason_of fault 0)

-- up to its size; of a symbolic link, too
abbrev pub bytes_seen : StoreState → Volume → ℕ → ℕ → ℕ → Result (List ℕ) Reason
bytes_seen state volume number at most =
    bytes_found (readable state volume.tree.fs.number) (file_found (readable state volume.tree.fs.number) volume.tree.top number) at most

-- how many there were is answered; behind them nothing is changed
abbrev pub IsRead : Result (List ℕ) Reason → List ℕ → List ℕ → Result ℕ Reason → Type 0
IsRead (Ok bytes) old new result = (result ≡ Ok (length bytes)) × (new ≡ bytes ++ drop (length bytes) old)
IsRead (Err reason) old new result = (result ≡ Err reason) × (new ≡ old)

abbrev pub ReadsIn : StoreState → Volume → ℕ → ℕ → List ℕ → List ℕ → Result ℕ Reason → Type 0
ReadsIn state volume number at old new result = IsRead (bytes_seen state volume number at (length old)) old new result

-- Targets

abbrev pub target_found : (ℕ → List ℕ) → Result Found Fault → Result (List ℕ) Reason
target_found content (Ok link) =
    if nat_lt 4096 link.fields.size then Err LongTarget else Ok (bytes_from content link.block 0 link.fields.size)
target_found content (Err fault) = Err (reason_of fault 0)

abbrev pub target_seen : StoreState → Volume → ℕ → Result (List ℕ) Reason
target_seen state volume number =
    target_found (readable state volume.tree.fs.number) (link_found (readable state volume.tree.fs.number) volume.tree.top number)

abbrev pub HasTarget : StoreState → Volume → ℕ → Result (List ℕ) Reason → Type 0
HasTarget state volume number result = (result ≡ Err NoMemory) ⊎ (result ≡ target_seen state volume number)

-- Stretches

abbrev pub IsStretchOf : (ℕ → List ℕ) → Result Found Fault → ℕ → ℕ → Result (Option Stretch) Reason → Type 0
IsStretchOf content (Ok file) at most (Ok next) = IsNextStretch (leaf_block content file.block) file.fields.size at most next
IsStretchOf content (Ok file) at most (Err reason) = ⊥
IsStretchOf content (Err fault) at most result = result ≡ Err (reason_of fault 0)

abbrev pub HasStretch : StoreState → Volume → ℕ → ℕ → ℕ → Result (Option Stretch) Reason → Type 0
HasStretch state volume number at most result =
    IsStretchOf (readable state volume.tree.fs.number) (inode_found (readable state volume.tree.fs.number) volume.tree.top number) at most result
