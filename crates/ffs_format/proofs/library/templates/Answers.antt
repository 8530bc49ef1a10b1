use Rattle.std.proofs.Common.{ap}
use Rattle.std.specs.Result.{is_ok}
use Rattle.ffs_format.proofs.KnownTemplates.{root_block, inode_block, pointer_block, three_known}
use Rattle.ffs_format.proofs.library.templates.Goals as goal

pub known_template-requires-clause-right : goal.known_template-requires-clause-right
known_template-requires-clause-right c = ap is_ok root_block

pub known_template-requires-2-clause-right : goal.known_template-requires-2-clause-right
known_template-requires-2-clause-right c = ap is_ok inode_block

pub known_template-requires-3-clause-right : goal.known_template-requires-3-clause-right
known_template-requires-3-clause-right c = ap is_ok pointer_block

pub returns : goal.returns
returns c =
    three_known c.in_ok-from_array.field-0.items c.in_ok-root.root c.in_ok-inodes.inodes c.in_ok-pointers.pointers c.in_ok-from_array.ensures.items
    c.in_ok-root.ensures c.in_ok-inodes.ensures c.in_ok-pointers.ensures
