use Rattle.std.proofs.Common.{arith, ◌∙◌, sym, ap}
use Rattle.std.specs.Prelude.{◌&&◌, not, option_map}
use Rattle.treefs_format.specs.Buckets.{has_name}
use Rattle.treefs_format.specs.Left.{record_of}
use Rattle.treefs_format.specs.Records.{is_live}
use Rattle.treefs_lookup.proofs.FoundRecords.{found_within}
use Rattle.treefs_lookup.proofs.places.see.Goals as goal

pub overflow_add-taken : goal.overflow_add-taken
overflow_add-taken g c =
    let bucket = c.args.bucket.now in
    let found = sym (ap (option_map record_of) c.in-None-Some.is-1) ∙ c.look_for.ensures.live in
    let le = found_within (λ r. is_live r.entry && has_name c.args.name.now r) bucket.bytes.now (record_of c.in-None-Some.record) (c.records_stand_in_buckets.ensures.within bucket.bytes.now) found in
    omega (arith, bucket.within, le)

pub overflow_add-dead : goal.overflow_add-dead
overflow_add-dead g c =
    let bucket = c.args.bucket.now in
    let found = sym (ap (option_map record_of) c.in-None-Some-2.is-1) ∙ c.look_for.ensures.dead in
    let le = found_within (λ r. not (is_live r.entry) && has_name c.args.name.now r) bucket.bytes.now (record_of c.in-None-Some-2.record) (c.records_stand_in_buckets.ensures.within bucket.bytes.now) found in
    omega (arith, bucket.within, le)
