-- A record is made in a directory.
--     Addition                    where the record goes
--     addition_starts             the blocks that are begun for it
--     rewriting, addition_acts    a bucket is first rewritten; what makes the record
use Rattle.std.specs.Prelude.{ℕ, List, [], ◌∷◌, ◌++◌, drop, length, slice_index, ◌-◌, Some, if◌then◌else◌}
use Rattle.treefs_format.specs.Records.{Entry}
use Rattle.treefs_model.specs.Acts.{Act, record_act}
use Rattle.treefs_edits.specs.declared.start.Start.{Start}
use Rattle.treefs_edits.specs.Kinds.{rewritten_act}
use Rattle.treefs_edits.specs.Missing.{missing_path, path_acts, path_starts}
pub use Rattle.treefs_name_plans.specs.declared.addition.NewBucket.{NewBucket}
use Rattle.treefs_name_plans.specs.declared.addition.OldBucket.{OldBucket}
pub use Rattle.treefs_name_plans.specs.declared.addition.Addition.{Addition}
use Rattle.treefs_name_plans.specs.declared.addition.Addition.TheVariants.{Behind, Rewritten, Made}

abbrev pub bucket_path : NewBucket → List ℕ
bucket_path made = missing_path made.leaf made.missing

-- Additions

abbrev pub addition_starts : Addition → List Start
addition_starts (Behind block offset) = []
addition_starts (Rewritten old) = []
addition_starts (Made made) = path_starts made.node_type (bucket_path made)

-- where it begins
abbrev pub old_start : OldBucket → ℕ
old_start old = if old.in_inode then 128 else 0

-- before all other acts of the call
abbrev pub rewriting : Addition → List Act
rewriting (Behind block offset) = []
rewriting (Rewritten old) = rewritten_act old.block (old_start old) (drop (old_start old) old.bytes) ∷ []
rewriting (Made made) = []

abbrev pub last_block : List ℕ → ℕ
last_block begun = slice_index begun (length begun - 1)

-- begun: the blocks that were begun for it
abbrev pub addition_acts : Addition → List ℕ → Entry → ℕ → List Act
addition_acts (Behind block offset) begun entry behind = record_act block offset entry (Some behind) ∷ []
addition_acts (Rewritten old) begun entry behind = record_act old.block old.offset entry (Some behind) ∷ []
addition_acts (Made made) begun entry behind =
    path_acts made.node_type made.owner (bucket_path made) begun ++ record_act (last_block begun) 0 entry (Some behind) ∷ []
