use Rattle.std.proofs.Common.{arith, ◌∙◌, ap, sym}
use Rattle.std.specs.Prelude.{◌&&◌, option_map}
use Rattle.treefs_format.specs.Buckets.{has_name}
use Rattle.treefs_format.specs.Left.{record_of}
use Rattle.treefs_format.specs.Records.{is_live}
use Rattle.treefs_format.specs.Candidates.{candidate}
use Rattle.treefs_lookup.specs.Names.{slot_in, slot_of}
use Rattle.treefs_lookup.specs.Readable.{readable}
use Rattle.treefs_lookup.proofs.Candidates.{first_here, first_later, first_none}
use Rattle.treefs_lookup.proofs.FoundNames.{named_first, slot_found}
use Rattle.treefs_lookup.proofs.FoundRecords.{found_within}
use Rattle.treefs_lookup.proofs.names.find_name.Goals as goal

pub loop-level-init : goal.loop-level-init
loop-level-init g c =
    named_first (readable (g.S.Store.state_of c.args.store.now) c.args.fs.number) c.args.key.now c.args.inode c.args.name.now c.name_hash-hash.result c.name_hash-hash.ensures

pub overflow_add-result : goal.overflow_add-result
overflow_add-result g c =
    let bucket = c.read_candidate-bucket.result in
    let le = found_within (λ r. is_live r.entry && has_name c.args.name.now r) bucket.bytes.now (record_of c.in-Some.record) (c.records_stand_in_buckets.ensures.within bucket.bytes.now) c.in-Some.ensures in
    omega (arith, bucket.within, le)

pub returns-in-Some : goal.returns-in-Some
returns-in-Some g c =
    let content = readable (g.S.Store.state_of c.args.store.now) c.args.fs.number in
    let bucket = c.read_candidate-bucket.result in
    let hash = c.name_hash-hash.result in
    let level = c.loop-level.level in
    let found = record_of c.in-Some.record in
    sym (c.loop-level.invariant ∙ first_here (slot_in content c.args.inode c.args.name.now) hash level (slot_of bucket.block bucket.start found) c.loop-level-test.true
    (slot_found content c.args.inode (candidate hash level) c.args.name.now bucket c.read_candidate-bucket.ensures
    ∙ ap (option_map (slot_of bucket.block bucket.start)) (sym c.in-Some.ensures)))

pub loop-level-preserved : goal.loop-level-preserved
loop-level-preserved g c =
    let content = readable (g.S.Store.state_of c.args.store.now) c.args.fs.number in
    let bucket = c.read_candidate-bucket.result in
    let hash = c.name_hash-hash.result in
    let level = c.loop-level.level in
    c.loop-level.invariant ∙ first_later (slot_in content c.args.inode c.args.name.now) hash level c.loop-level-test.true
    (slot_found content c.args.inode (candidate hash level) c.args.name.now bucket c.read_candidate-bucket.ensures
    ∙ ap (option_map (slot_of bucket.block bucket.start)) (sym c.in_default.ensures))

pub returns : goal.returns
returns g c =
    let content = readable (g.S.Store.state_of c.args.store.now) c.args.fs.number in
    sym (c.loop-level.invariant ∙ first_none (slot_in content c.args.inode c.args.name.now) c.name_hash-hash.result c.loop-level.level c.loop-level-test.false)
