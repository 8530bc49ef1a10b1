use Rattle.std.proofs.Common.{◌∙◌, ap, arith, map}
use Rattle.std.specs.Prelude.{slice_index}
use Rattle.std.specs.List.{range_with_len}
use Rattle.treefs_lookup.specs.Readable.{readable}
use Rattle.treefs_lookup.proofs.ReadParts.{none_at, zero_part}
use Rattle.treefs_lookup.proofs.bytes.copy_block.Goals as goal

pub returns-in-None : goal.returns-in-None
returns-in-None g c =
    let bytes = readable (g.S.Store.state_of c.args.store.now) c.args.fs.number c.args.block in
    zero_part (slice_index bytes) c.fill.new.self c.args.at (none_at bytes c.in-None.ensures) (λ k low. c.fill.ensures.clones k 0 (omega arith) (λ i. 0))
    ∙ ap (λ n. map (slice_index bytes) (range_with_len c.args.at n)) c.fill.ensures.len
