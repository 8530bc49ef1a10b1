use Rattle.std.proofs.Common.{◌≡◌, ℕ, ◌+◌, ◌∙◌, List, ◌∷◌, ◌++◌, [], arith, eqb-true, length, length-append, subst, sym}
use Rattle.treefs_name_plans.specs.Removals.{ArePendingTo}
use Rattle.treefs_name_plans.proofs.PendingBuckets.{pending_more}
use Rattle.treefs_name_plans.proofs.rmdir.find_pending.Goals as goal

pub returns-then-is_full : goal.returns-then-is_full
returns-then-is_full g c =
    let l = c.loop-bucket in
    let bucket = c.in-Some.bucket in
    let long = length-append l.blocks.items (bucket.block ∷ []) in
    let full : length l.blocks.items ≡ 61 = eqb-true (length l.blocks.items) 61 (sym c.is_full.ensures.value ∙ c.if-is_full.true) in (
      l.blocks.items ++ bucket.block ∷ [],
      bucket.number + 1,
      pending_more (g.S.Store.state_of c.args.store.now) c.args.fs.number c.args.inode 0 l.from l.blocks.items bucket l.invariant c.in-Some.ensures,
      omega (arith, long, full),
    )

pub loop-bucket-preserved : goal.loop-bucket-preserved
loop-bucket-preserved g c =
    let l = c.loop-bucket in
    let bucket = c.in-Some.bucket in
    let state = g.S.Store.state_of c.args.store.now in
    subst (λ (blocks : List ℕ). ArePendingTo state c.args.fs.number c.args.inode 0 blocks (bucket.number + 1)) (sym c.push.ensures.items)
    (pending_more state c.args.fs.number c.args.inode 0 l.from l.blocks.items bucket l.invariant c.in-Some.ensures)
