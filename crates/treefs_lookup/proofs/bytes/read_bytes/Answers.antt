use Rattle.std.proofs.Common.{◌≡◌, ◌+◌, ◌-◌, arith}
use Rattle.treefs_model.specs.Reading.{byte_of}
use Rattle.treefs_lookup.specs.Readable.{readable}
use Rattle.treefs_lookup.proofs.ReadParts.{read_step}
use Rattle.treefs_lookup.proofs.bytes.read_bytes.Goals as goal

pub loop-done-preserved : goal.loop-done-preserved
loop-done-preserved g c =
    let content = readable (g.S.Store.state_of c.args.store.now) c.args.fs.number in
    let done = c.loop-done.done in
    let n = c.min-length.result in
    let k : done + n - done ≡ n = omega arith in
    record {
      within = omega arith;
      bytes = read_step (byte_of content c.args.file.now.block) c.args.at done n (done + n - done) c.loop-done.bytes c.args.bytes.now c.copy_part.new.part k (omega arith) c.loop-done.invariant.bytes c.copy_part.ensures;
    }
