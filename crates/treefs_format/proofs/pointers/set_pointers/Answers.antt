use Rattle.std.proofs.Common.{◌++◌, ◌∙◌, ap}
use Rattle.std.specs.Int.{w32, to_le_bytes}
use Rattle.treefs_format.specs.Numbers.{word_bytes}
use Rattle.treefs_format.proofs.JoinedBytes.{all_made, one_more}
use Rattle.treefs_format.proofs.pointers.set_pointers.Goals as goal

pub loop-block-init : goal.loop-block-init
loop-block-init c = ap (λ l. l ++ word_bytes c.args.blocks.now) c.new-bytes.ensures.items

pub loop-block-preserved : goal.loop-block-preserved
loop-block-preserved c =
    one_more (to_le_bytes w32) c.args.blocks.now c.loop-block.block-index 0 c.loop-block.bytes.items c.loop-block.invariant c.extend_from_slice.new.self.items
    c.loop-block-test.true (c.in_ok-extend_from_slice.ensures.items ∙ ap (λ l. c.loop-block.bytes.items ++ l) c.to_le_bytes.ensures)

pub returns : goal.returns
returns c =
    let written = all_made (to_le_bytes w32) c.args.blocks.now c.loop-block.block-index 0 c.loop-block.bytes.items c.loop-block.invariant c.loop-block-test.false in
    λ j. record { offset = c.args.offset; bytes = written j }
