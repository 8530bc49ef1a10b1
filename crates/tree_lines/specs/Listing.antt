-- What `names` answers of a folder of a volume of trees.
--     live_names      the names of a bucket, with their numbers
--     AreNamesFrom    those of a directory, its buckets rising, from one on
--     entry_cmp       names in the order of their bytes
--     ReadsFolder     the names of a folder, in the order of its buckets; or why there are none
--     ListsFolder     the same, rising
use Rattle.std.specs.Prelude.{◌≡◌, ◌⊎◌, ℕ, ◌+◌, List, [], ◌++◌, filter, map, IsPermutation, Result, Ok, Err}
use Rattle.std.specs.Cmp.Lexicographic.{slice_cmp}
use Rattle.std.specs.List.Sorted.{IsSorted}
use Rattle.std.specs.Ordering.{nat_cmp, ordering_then}
use Rattle.std.specs.declared.cmp.Ordering.{Ordering}
use Rattle.xn_model.specs.Lives.{StoreState}
use Rattle.treefs_format.specs.Paths.{leaf_count}
use Rattle.treefs_format.specs.Records.{is_live, records_of}
use Rattle.treefs_model.specs.declared.fault.Fault.{Fault}
use Rattle.treefs_lookup.specs.Inodes.{directory_found}
use Rattle.treefs_lookup.specs.Readable.{readable}
use Rattle.treefs_lookup.specs.Sought.{AreWithout, IsNextBucket}
use Rattle.treefs_lookup.specs.declared.bucket.Bucket.{Bucket}
use Rattle.treefs_lookup.specs.declared.inodes.Found.{Found}
use Rattle.treefs_lookup.specs.declared.sought.Sought.TheVariants.{Live}
use Rattle.treefs_session.specs.Values.{Volume}
use Rattle.tree_lines.specs.Reasons.{reason_of}
use Rattle.tree_lines.specs.declared.reason.Reason.{Reason}
use Rattle.tree_lines.specs.declared.reason.Reason.TheVariants.{NoMemory}

abbrev pub live_names : List ℕ → List (List ℕ × ℕ)
live_names bytes = map (λ r. (r.entry.name, r.entry.number)) (filter (λ r. is_live r.entry) (records_of bytes))

pub data AreNamesFrom (state : StoreState) (fs inode : ℕ) : ℕ → List (List ℕ × ℕ) → Type 0 where
  no_more : {from : ℕ} → AreWithout state fs inode Live from (leaf_count + 1) → AreNamesFrom state fs inode from []
  one_more : {from : ℕ} {rest : List (List ℕ × ℕ)} (bucket : Bucket) → IsNextBucket state fs inode Live from bucket →
      AreNamesFrom state fs inode (bucket.number + 1) rest → AreNamesFrom state fs inode from (live_names bucket.bytes.now ++ rest)

-- those of the same bytes in the order of their numbers, which no sound volume has
abbrev pub entry_cmp : List ℕ × ℕ → List ℕ × ℕ → Ordering
entry_cmp a b = ordering_then (slice_cmp nat_cmp a.0 b.0) (nat_cmp a.1 b.1)

-- each live name of the directory once; or its fault, or there is no memory
abbrev pub ReadsFolder : StoreState → Volume → ℕ → Result (List (List ℕ × ℕ)) Reason → Type 0
ReadsFolder state volume folder (Ok names) = (directory : Found)
    × (directory_found (readable state volume.tree.fs.number) volume.tree.top folder ≡ Ok directory)
    × AreNamesFrom state volume.tree.fs.number directory.block 0 names
ReadsFolder state volume folder (Err reason) = (reason ≡ NoMemory)
    ⊎ ((fault : Fault) × (directory_found (readable state volume.tree.fs.number) volume.tree.top folder ≡ Err fault) × (reason ≡ reason_of fault 0))

abbrev pub ListsFolder : StoreState → Volume → ℕ → Result (List (List ℕ × ℕ)) Reason → Type 0
ListsFolder state volume folder (Ok names) = (all : List (List ℕ × ℕ)) × ReadsFolder state volume folder (Ok all) × IsPermutation all names
    × IsSorted entry_cmp names
ListsFolder state volume folder (Err reason) = ReadsFolder state volume folder (Err reason)
