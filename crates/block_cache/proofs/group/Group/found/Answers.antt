use Rattle.std.proofs.Common.{◌∙◌, ap}
use Rattle.block_cache.specs.Groups.{group_of}
use Rattle.block_cache.proofs.GroupLives.{none_found_are}
use Rattle.block_cache.proofs.group.Group.found.Goals as goal

pub returns-then-is_none_found : goal.returns-then-is_none_found
returns-then-is_none_found c = ap group_of c.new.ensures.items ∙ none_found_are c.args.found.now c.args.blocks.now c.args.first (c.is_none_found.ensures c.if-is_none_found.true)
