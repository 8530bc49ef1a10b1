use Rattle.std.proofs.Common.{List, ℕ, length, ap, ◌∙◌, subst, Contains}
use Rattle.ffs_lib.proofs.Common.{Fields, inode_blocks, library_layout}
use Rattle.ffs_model.proofs.ForCallers.{one_inode}
use Rattle.ffs_lib.proofs.Fields.{free_blocks, same_blocks}
use Rattle.ffs_lib.proofs.setup.first_inodes.Goals as goal

pub returns-clause-bare : goal.returns-clause-bare
returns-clause-bare c = λ p block h.
    let is = c.bytes.ensures.bytes in
    let one = c.set_links.ensures.fields in
    let two = c.set_mode.ensures.fields in
    one_inode c.bytes.result.now (ap length is ∙ c.bytes.ensures.whole)
    (ap inode_blocks is ∙ (same_blocks c.free-inode.result c.set_links.new.self (ap (λ (f : Fields). f.direct) one ∙ ap (λ (f : Fields). f.direct) two) ∙ (ap inode_blocks c.free-inode.ensures ∙ free_blocks)))
    p block (subst (λ (m : List ℕ). Contains (library_layout.direct m p) block) c.block_with.ensures h)
