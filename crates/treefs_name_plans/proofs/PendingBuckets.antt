-- One more bucket in which something is pending.
use Rattle.std.proofs.Common.{ℕ, ◌+◌, List, [], ◌∷◌, ◌++◌, refl, subst}
use Rattle.xn_model.specs.Lives.{StoreState}
use Rattle.treefs_lookup.specs.Sought.{IsNextBucket}
use Rattle.treefs_lookup.specs.declared.bucket.Bucket.{Bucket}
use Rattle.treefs_lookup.specs.declared.sought.Sought.TheVariants.{Pending}
use Rattle.treefs_name_plans.specs.Removals.{ArePendingTo}

pub pending_more : (state : StoreState) (fs inode from to : ℕ) (blocks : List ℕ) (bucket : Bucket) → ArePendingTo state fs inode from blocks to →
    IsNextBucket state fs inode Pending to bucket → ArePendingTo state fs inode from (blocks ++ bucket.block ∷ []) (bucket.number + 1)
pending_more state fs inode from to [] bucket are next = (bucket, subst (λ (x : ℕ). IsNextBucket state fs inode Pending x bucket) are next, refl, refl)
pending_more state fs inode from to (block ∷ blocks) bucket are next =
    (are.0, are.1, are.2, pending_more state fs inode (are.0.number + 1) to blocks bucket are.3 next)
