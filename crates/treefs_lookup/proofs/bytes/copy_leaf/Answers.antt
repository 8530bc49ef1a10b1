use Rattle.std.proofs.Common.{◌∙◌, ap, arith, map}
use Rattle.std.specs.List.{range_with_len}
use Rattle.treefs_model.specs.Reading.{leaf_byte}
use Rattle.treefs_lookup.specs.Readable.{readable}
use Rattle.treefs_lookup.proofs.ReadParts.{no_leaf, zero_part}
use Rattle.treefs_lookup.proofs.bytes.copy_leaf.Goals as goal

pub returns-then-block-eq0 : goal.returns-then-block-eq0
returns-then-block-eq0 g c =
    let content = readable (g.S.Store.state_of c.args.store.now) c.args.fs.number in
    zero_part (leaf_byte content c.args.block) c.fill.new.self c.args.at (no_leaf content c.args.block c.if-block-eq0.true) (λ k low. c.fill.ensures.clones k 0 (omega arith) (λ i. 0))
    ∙ ap (λ n. map (leaf_byte content c.args.block) (range_with_len c.args.at n)) c.fill.ensures.len
