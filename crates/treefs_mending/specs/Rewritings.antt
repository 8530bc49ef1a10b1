-- Buckets with dead records are rewritten without them.
--     has_dead                bytes with a dead record
--     rewritings              the acts for the buckets of a directory, rising
--     all_rewritings          those of several directories
--     rewritings_planned      and something may be pending in none of their blocks
use Rattle.std.specs.Prelude.{ℕ, ◌==◌, Bool, not, List, [], ◌∷◌, flat_map, is_none, Result, Ok, Err, if◌then◌else◌}
use Rattle.std.specs.List.{list_all, list_any, range_with_len}
use Rattle.xn_model.specs.Lives.{StoreState}
use Rattle.xn_model.specs.PendingIn.{newest_entry_of}
use Rattle.treefs_format.specs.Records.{is_live, records_of}
use Rattle.treefs_model.specs.Acts.{Act}
use Rattle.treefs_model.specs.Reading.{bucket_of}
use Rattle.treefs_model.specs.declared.fault.Fault.{Fault}
use Rattle.treefs_model.specs.declared.fault.Fault.TheVariants.{Full}
use Rattle.treefs_lookup.specs.Buckets.{bucket_block, bucket_start}
use Rattle.treefs_lookup.specs.Readable.{readable}
use Rattle.treefs_edits.specs.Kinds.{rewritten_act}
use Rattle.treefs_mending.specs.Names.{bucket_count}
use Rattle.treefs_mending.specs.Surveys.{Directory}

abbrev pub has_dead : List ℕ → Bool
has_dead bytes = list_any (λ r. not (is_live r.entry)) (records_of bytes)

abbrev pub if_dead : ℕ → ℕ → List ℕ → List Act
if_dead block start bytes = if has_dead bytes then rewritten_act block start bytes ∷ [] else []

-- of a bucket that is there
abbrev pub rewriting_at : ℕ → ℕ → List ℕ → List Act
rewriting_at block start bytes = if block == 0 then [] else if_dead block start bytes

abbrev pub bucket_rewriting : (ℕ → List ℕ) → ℕ → ℕ → List Act
bucket_rewriting content inode n = rewriting_at (bucket_block content inode n) (bucket_start n) (bucket_of content inode n)

-- of so many buckets, from one on
abbrev pub rewritings_from : (ℕ → List ℕ) → ℕ → ℕ → ℕ → List Act
rewritings_from content inode n count = flat_map (bucket_rewriting content inode) (range_with_len n count)

abbrev pub rewritings : (ℕ → List ℕ) → ℕ → List Act
rewritings content inode = rewritings_from content inode 0 bucket_count

abbrev pub all_rewritings : (ℕ → List ℕ) → List Directory → List Act
all_rewritings content directories = flat_map (λ d. rewritings content d.block) directories

abbrev pub calm : StoreState → List Act → Result (List Act) Fault
calm state acts = if list_all (λ act. is_none (newest_entry_of state act.block)) acts then Ok acts else Err Full

abbrev pub rewritings_planned : StoreState → ℕ → List Directory → Result (List Act) Fault
rewritings_planned state fs directories = calm state (all_rewritings (readable state fs) directories)
