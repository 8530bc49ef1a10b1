use Rattle.std.proofs.Common.{ℕ, List, length, subst}
use Rattle.treefs.specs.Committing.{BeginsInRoom}
use Rattle.treefs.proofs.volume.Volume.begin.Goals as goal

pub returns-clause-does : goal.returns-clause-does
returns-clause-does g c =
    let T = g.S.Store.types_of c.args.store.now in
    let state = g.S.Store.state_of c.args.store.now in
    let state' = g.S.Store.state_of c.begin_block.new.store in
    let volume = c.args.self.now in
    subst (λ (i : List ℕ). BeginsInRoom T volume.tree.fs.number (length volume.memory.touched) (record { ty = volume.tree.inode_type; bytes = i }) state state' c.begin_block.result)
    c.new_block-inode.ensures c.begin_block.ensures.does
