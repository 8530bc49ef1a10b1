-- A directory's name ends.
--     HasBucket              whether a directory has a bucket with what is sought
--     ArePendingTo           the blocks of the first buckets in which something is pending
--     RemovalPlan, removal_plan     what the end of a directory's name takes
--     IsRmdirPlanned         what it answers, or takes
use Rattle.std.specs.Prelude.{◌≡◌, ◌⊎◌, ℕ, ◌+◌, ◌<◌, List, [], ◌∷◌, ◌++◌, drop, length, map, slice_index, Bool, Option, None, Some, Result, Err, MatchBool, MatchResult}
use Rattle.xn_model.specs.Lives.{StoreState}
use Rattle.treefs_format.specs.Paths.{leaf_count}
use Rattle.treefs_model.specs.declared.fault.Fault.{Fault}
use Rattle.treefs_model.specs.declared.fault.Fault.TheVariants.{Full, NotEmpty}
use Rattle.treefs_model.specs.Acts.{Act, wait_act}
use Rattle.treefs_lookup.specs.Readable.{readable}
use Rattle.treefs_lookup.specs.Sought.{AreWithout, IsNextBucket}
use Rattle.treefs_lookup.specs.declared.bucket.Bucket.{Bucket}
use Rattle.treefs_lookup.specs.declared.sought.Sought.{Sought}
use Rattle.treefs_lookup.specs.declared.sought.Sought.TheVariants.{Live, Pending}
use Rattle.treefs_edits.specs.declared.tree.Tree.{Tree}
use Rattle.treefs_edits.specs.Memories.{Memory}
use Rattle.treefs_edits.specs.Plans.{Plan}
use Rattle.treefs_edits.specs.Rooms.{has_room}
use Rattle.treefs_name_plans.specs.Ends.{directory_ended, end_acts, name_end}
use Rattle.treefs_name_plans.specs.declared.ended.Ended.{Ended}
use Rattle.treefs_name_plans.specs.declared.removal.RemovalPlan.{RemovalPlan}

-- Buckets

abbrev pub HasBucket : StoreState → ℕ → ℕ → Sought → Bool → Type 0
HasBucket state fs inode sought has =
    MatchBool has ((bucket : Bucket) × IsNextBucket state fs inode sought 0 bucket) (AreWithout state fs inode sought 0 (leaf_count + 1))

-- from one bucket on, up to another
abbrev pub ArePendingTo : StoreState → ℕ → ℕ → ℕ → List ℕ → ℕ → Type 0
ArePendingTo state fs inode from [] to = to ≡ from
ArePendingTo state fs inode from (block ∷ blocks) to =
    (bucket : Bucket) × IsNextBucket state fs inode Pending from bucket × (block ≡ bucket.block) × ArePendingTo state fs inode (bucket.number + 1) blocks to

-- all of them
abbrev pub ArePending : StoreState → ℕ → ℕ → List ℕ → Type 0
ArePending state fs inode blocks =
    (to : ℕ) × ArePendingTo state fs inode 0 blocks to × AreWithout state fs inode Pending to (leaf_count + 1)

-- there are more than may be waited for
abbrev pub ManyArePending : StoreState → ℕ → ℕ → Type 0
ManyArePending state fs inode = (blocks : List ℕ) × (to : ℕ) × ArePendingTo state fs inode 0 blocks to × (61 < length blocks)

-- The plan

abbrev pub first_of : List ℕ → Option ℕ
first_of [] = None
first_of (block ∷ blocks) = Some block

-- the name ends behind the first of the buckets, and before that its block waits for the others
abbrev pub removal_acts : RemovalPlan → List Act
removal_acts p = map (wait_act p.end.block (p.first ∷ [])) (drop 1 p.pending.items) ++ end_acts p.end (first_of p.pending.items)

abbrev pub removal_plan : RemovalPlan → Plan
removal_plan p = record { starts = []; acts = λ begun. removal_acts p }

-- pending: the blocks of the directory's buckets in which something is pending
pub record IsRemoval (state : StoreState) (fs : ℕ) (memory : Memory) (ended : Ended) (pending : List ℕ) (plan : RemovalPlan) : Type 0 where
  pub end_is : plan.end ≡ name_end memory ended
  -- byte 0 of the record's block, which a wait writes again
  pub first_is : plan.first ≡ slice_index (readable state fs ended.slot.block) 0
  pub pending_are : plan.pending.items ≡ pending

abbrev pub IsRemovalInRoom : StoreState → ℕ → Memory → Ended → List ℕ → Result RemovalPlan Fault → Type 0
IsRemovalInRoom state fs memory ended pending result =
    MatchBool (has_room state fs (length memory.touched) (4 + length pending) ((ended.slot.block, 1 + length pending) ∷ (ended.inode.block, 1) ∷ []))
    (MatchResult result (IsRemoval state fs memory ended pending) (λ fault. ⊥)) (result ≡ Err Full)

-- of an empty directory
abbrev pub IsRemovalPlanned : StoreState → ℕ → Memory → Ended → Result RemovalPlan Fault → Type 0
IsRemovalPlanned state fs memory ended result =
    (ManyArePending state fs ended.inode.block × (result ≡ Err Full))
    ⊎ ((pending : List ℕ) × ArePending state fs ended.inode.block pending × IsRemovalInRoom state fs memory ended pending result)

abbrev pub IsRmdirPlanned : StoreState → Tree → Memory → ℕ → List ℕ → Result RemovalPlan Fault → Type 0
IsRmdirPlanned state tree memory d name result =
    MatchResult (directory_ended (readable state tree.fs.number) tree.top d name)
    (λ ended. (live : Bool) × HasBucket state tree.fs.number ended.inode.block Live live
    × MatchBool live (result ≡ Err NotEmpty) (IsRemovalPlanned state tree.fs.number memory ended result))
    (λ fault. result ≡ Err fault)
