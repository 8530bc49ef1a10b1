-- What the calls answer that only look.
--     lookup_of        the number to which a name leads
--     stat_of          an inode, with its newest times
--     IsReadDirectory  a bucket of a directory with names, at or past one
use Rattle.std.specs.Prelude.{◌≡◌, ℕ, ◌+◌, List, Option, None, Some, Result, Ok, Err, MatchOption, MatchResult}
use Rattle.xn_model.specs.Lives.{StoreState}
use Rattle.treefs_format.specs.Paths.{leaf_count}
use Rattle.treefs_model.specs.Files.{and_then}
use Rattle.treefs_model.specs.declared.fault.Fault.{Fault}
use Rattle.treefs_lookup.specs.Inodes.{directory_found, inode_found}
use Rattle.treefs_lookup.specs.Names.{entry_found}
use Rattle.treefs_lookup.specs.Readable.{readable}
use Rattle.treefs_lookup.specs.Sought.{AreWithout, IsNextBucket}
use Rattle.treefs_lookup.specs.declared.bucket.Bucket.{Bucket}
use Rattle.treefs_lookup.specs.declared.inodes.Found.{Found}
use Rattle.treefs_lookup.specs.declared.sought.Sought.TheVariants.{Live}
use Rattle.treefs_edits.specs.Memories.{Memory, touched_times}
use Rattle.treefs_edits.specs.declared.times.Times.{Times}
use Rattle.treefs_edits.specs.declared.tree.Tree.{Tree}
use Rattle.treefs_byte_plans.specs.Attributes.{times_of}

abbrev pub lookup_of : (ℕ → List ℕ) → ℕ → ℕ → List ℕ → Result ℕ Fault
lookup_of content top d name = and_then (entry_found content top d name) (λ slot. Ok slot.number)

-- as it was touched, where no edit has written that yet
abbrev pub with_times : Found → Times → Found
with_times found times = record found { fields = record found.fields { mtime = times.mtime; ctime = times.ctime } }

abbrev pub stat_of : (ℕ → List ℕ) → ℕ → Memory → ℕ → Result Found Fault
stat_of content top memory number =
    and_then (inode_found content top number) (λ found. Ok (with_times found (touched_times memory.touched number (times_of found.fields))))

-- none has a name from one on; or the first one that has
abbrev pub IsBucketFound : StoreState → ℕ → ℕ → ℕ → Result (Option Bucket) Fault → Type 0
IsBucketFound state fs directory from (Ok None) = AreWithout state fs directory Live from (leaf_count + 1)
IsBucketFound state fs directory from (Ok (Some bucket)) = IsNextBucket state fs directory Live from bucket
IsBucketFound state fs directory from (Err fault) = ⊥

abbrev pub IsReadDirectory : StoreState → Tree → ℕ → ℕ → Result (Option Bucket) Fault → Type 0
IsReadDirectory state tree number from result = MatchResult (directory_found (readable state tree.fs.number) tree.top number)
    (λ directory. IsBucketFound state tree.fs.number directory.block from result) (λ fault. result ≡ Err fault)
