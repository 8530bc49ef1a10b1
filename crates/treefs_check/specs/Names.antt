-- What is wrong with names.
--     top_findings          inode 1 is no directory with a link
--     surplus_findings      of the names that are one too many: each leads to no inode, or to one
--     is_unfound            a live record of a directory that a look-up of its name does not find
--     AreUnfoundFrom        those of a directory, its buckets rising, from one on
--     AreUnfound            those of directories
use Rattle.std.specs.Prelude.{◌≡◌, ℕ, ◌+◌, ◌==◌, Bool, false, not, ◌&&◌, List, [], ◌∷◌, ◌++◌, filter, map, is_ok, Result, Ok, Err, if◌then◌else◌}
use Rattle.xn_model.specs.Lives.{StoreState}
use Rattle.treefs_format.specs.Paths.{leaf_count}
use Rattle.treefs_format.specs.Records.{Record, is_live, records_of}
use Rattle.treefs_model.specs.declared.fault.Fault.{Fault}
use Rattle.treefs_lookup.specs.Inodes.{directory_found, inode_found}
use Rattle.treefs_lookup.specs.Names.{entry_found}
use Rattle.treefs_lookup.specs.Readable.{readable}
use Rattle.treefs_lookup.specs.Sought.{AreWithout, IsNextBucket}
use Rattle.treefs_lookup.specs.declared.bucket.Bucket.{Bucket}
use Rattle.treefs_lookup.specs.declared.names.Slot.{Slot}
use Rattle.treefs_lookup.specs.declared.sought.Sought.TheVariants.{Live}
use Rattle.treefs_edits.specs.declared.tree.Tree.{Tree}
use Rattle.treefs_mending.specs.Names.{name_of}
use Rattle.treefs_mending.specs.declared.names.Name.{Name}
use Rattle.treefs_mending.specs.declared.survey.Directory.{Directory}
use Rattle.treefs_check.specs.Findings.{Finding}
use Rattle.treefs_check.specs.declared.finding.Finding.TheVariants.{NoTop, NoInode, Surplus, NotFound}

abbrev pub top_findings : (ℕ → List ℕ) → ℕ → List Finding
top_findings content top = if is_ok (directory_found content top 1) then [] else NoTop ∷ []

abbrev pub surplus_finding : (ℕ → List ℕ) → ℕ → Name → Finding
surplus_finding content top name = if is_ok (inode_found content top name.number) then Surplus name else NoInode name

abbrev pub surplus_findings : (ℕ → List ℕ) → ℕ → List Name → List Finding
surplus_findings content top surplus = map (surplus_finding content top) surplus

-- Names that look-ups do not find

abbrev pub is_at : Result Slot Fault → ℕ → ℕ → Bool
is_at (Ok slot) block offset = (slot.block == block) && (slot.offset == offset)
is_at (Err fault) block offset = false

-- of a record at a byte of a block; d: the number of the directory
abbrev pub is_unfound : (ℕ → List ℕ) → ℕ → ℕ → ℕ → ℕ → Record → Bool
is_unfound content top d block offset r = is_live r.entry && not (is_at (entry_found content top d r.entry.name) block offset)

-- the bucket stands in a block, from a byte on
abbrev pub is_unfound_in : (ℕ → List ℕ) → ℕ → ℕ → ℕ → ℕ → Record → Bool
is_unfound_in content top d block start r = is_unfound content top d block (start + r.offset) r

abbrev pub not_found : ℕ → ℕ → Record → Finding
not_found block start r = NotFound (name_of block start r)

abbrev pub unfound_in : (ℕ → List ℕ) → ℕ → ℕ → ℕ → ℕ → List ℕ → List Finding
unfound_in content top d block start bytes = map (not_found block start) (filter (is_unfound_in content top d block start) (records_of bytes))

pub data AreUnfoundFrom (state : StoreState) (tree : Tree) (directory : Directory) : ℕ → List Finding → Type 0 where
  no_more : {from : ℕ} → AreWithout state tree.fs.number directory.block Live from (leaf_count + 1) → AreUnfoundFrom state tree directory from []
  one_more : {from : ℕ} {rest : List Finding} (bucket : Bucket) → IsNextBucket state tree.fs.number directory.block Live from bucket →
      AreUnfoundFrom state tree directory (bucket.number + 1) rest →
      AreUnfoundFrom state tree directory from
      (unfound_in (readable state tree.fs.number) tree.top directory.number bucket.block bucket.start bucket.bytes.now ++ rest)

abbrev pub AreUnfound : StoreState → Tree → List Directory → List Finding → Type 0
AreUnfound state tree [] unfound = unfound ≡ []
AreUnfound state tree (directory ∷ directories) unfound = (here : List Finding) × (rest : List Finding) × AreUnfoundFrom state tree directory 0 here
    × AreUnfound state tree directories rest × (unfound ≡ here ++ rest)
