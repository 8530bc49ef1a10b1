-- Files as reads answer them.
--     HasFewBytes, IsOfFewBytes     no more bytes than a file may have; an inode that has no more
--     AreAnswered     buckets of a directory are answered one after another, from one on, and then no more; listed_by, their names with the numbers
--     read_bytes      what a read answers of a file, from a byte on: so many bytes stand at the beginning of those that it was given
use Rattle.std.specs.Prelude.{◌≡◌, ℕ, ◌+◌, ◌≤◌, List, [], ◌∷◌, ◌++◌, length, map, take, None, Some, Result, Ok}
use Rattle.xn_model.specs.Lives.{StoreState}
use Rattle.treefs_format.specs.Buckets.{live_entries}
use Rattle.treefs_format.specs.Leaves.{greatest_size}
use Rattle.treefs_format.specs.Records.{Entry}
use Rattle.treefs_model.specs.Files.{Files, Inode, and_then, bytes_in, file_at}
use Rattle.treefs_model.specs.declared.fault.Fault.{Fault}
use Rattle.treefs_lookup.specs.Bytes.{read_count, read_into}
use Rattle.treefs_lookup.specs.declared.bucket.Bucket.{Bucket}
use Rattle.treefs_lookup.specs.declared.inodes.Found.{Found}
use Rattle.treefs_edits.specs.declared.tree.Tree.{Tree}
use Rattle.treefs.specs.Reads.{IsReadDirectory}

abbrev pub HasFewBytes : Files → ℕ → Type 0
HasFewBytes files n = (bytes : List ℕ) → file_at files n ≡ Ok bytes → length bytes ≤ greatest_size

abbrev pub IsOfFewBytes : Inode → Type 0
IsOfFewBytes inode = (bytes : List ℕ) → bytes_in inode.content ≡ Ok bytes → length bytes ≤ greatest_size

abbrev pub read_bytes : (ℕ → List ℕ) → Result Found Fault → ℕ → List ℕ → Result (List ℕ) Fault
read_bytes content file at old = and_then (read_count file at (length old)) (λ count. Ok (take count (read_into content file at old)))

-- Directories

abbrev pub AreAnswered : StoreState → Tree → ℕ → ℕ → List Bucket → Type 0
AreAnswered state tree n from [] = IsReadDirectory state tree n from (Ok None)
AreAnswered state tree n from (b ∷ bs) = IsReadDirectory state tree n from (Ok (Some b)) × AreAnswered state tree n (b.number + 1) bs

abbrev pub named_number : Entry → List ℕ × ℕ
named_number e = (e.name, e.number)

abbrev pub listed_in : List ℕ → List (List ℕ × ℕ)
listed_in bytes = map named_number (live_entries bytes)

abbrev pub listed_by : List Bucket → List (List ℕ × ℕ)
listed_by [] = []
listed_by (b ∷ bs) = listed_in b.bytes.now ++ listed_by bs
