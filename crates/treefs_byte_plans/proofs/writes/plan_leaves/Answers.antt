use Rattle.std.proofs.Common.{ℕ, List}
use Rattle.treefs_byte_plans.specs.Writes.{leaf_in_room}
use Rattle.treefs_byte_plans.proofs.Branches.{else_zero, then_zero}
use Rattle.treefs_byte_plans.proofs.writes.plan_leaves.Goals as goal

pub returns-then-leaf-eq0-clause-planned : goal.returns-then-leaf-eq0-clause-planned
returns-then-leaf-eq0-clause-planned g c =
    then_zero c.leaf_block-leaf.result _ _ _ _ c.plan_missing.ensures.planned c.leaf_block-leaf.ensures c.if-leaf-eq0.true

pub returns-clause-planned : goal.returns-clause-planned
returns-clause-planned g c =
    let a = c.args in
    else_zero (λ (n : ℕ) (piece : List ℕ). leaf_in_room (g.S.Store.state_of a.store.now) a.tree.fs.number a.memory.now a.file.now n a.at piece)
    c.leaf_block-leaf.result _ c.first_piece.result.now _ _ _ c.plan_leaf.ensures.planned c.leaf_block-leaf.ensures c.first_piece.ensures c.if-leaf-eq0.false
