use Rattle.std.proofs.Common.{◌≡◌, false, sym, ◌∙◌, true}
use Rattle.treefs_format.proofs.KnownTemplates.{inode_known, node_known}
use Rattle.treefs_format.proofs.types.are_tree_templates.Goals as goal

pub returns-then-is_spelled : goal.returns-then-is_spelled
returns-then-is_spelled c =
    let node = node_known c.args.node.now in
    let inode = inode_known c.args.inode.now in (
      λ same. (node.0 (c.is_spelled.ensures.0 c.if-is_spelled.true), inode.0 (c.is_spelled-then-is_spelled.ensures.0 same)),
      λ are. c.is_spelled-then-is_spelled.ensures.1 (inode.1 are.1),
    )

pub returns-else-is_spelled : goal.returns-else-is_spelled
returns-else-is_spelled c = (
  λ same. let none : true ≡ false = sym same ∙ c.if-is_spelled.false in absurd (cc none),
  λ are. c.is_spelled.ensures.1 ((node_known c.args.node.now).1 are.0),
)
