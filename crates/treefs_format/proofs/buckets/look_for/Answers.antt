use Rattle.std.proofs.Common.{◌≡◌, ◌∙◌, ap, arith}
use Rattle.std.specs.Prelude.{◌&&◌, filter, find, map, not}
use Rattle.treefs_format.specs.Buckets.{has_name}
use Rattle.treefs_format.specs.Left.{records_left}
use Rattle.treefs_format.specs.Records.{is_live, records_of, total_length}
use Rattle.treefs_format.proofs.Loops.{ends_within, entries_begun, entry_of, live_step, lives_within}
use Rattle.treefs_format.proofs.buckets.look_for.Goals as goal

pub loop-record-init : goal.loop-record-init
loop-record-init c =
    let all = c.args.bucket.now in
    let left : records_left c.into_iter-record-iterator.result ≡ records_of all = ap records_left c.into_iter-record-iterator.ensures.into_iter_gives ∙ c.new-record-items.ensures in
    let same = entries_begun (records_left c.into_iter-record-iterator.result) all left in
    let lengths = ap total_length same in
    let lives = ap (λ l. total_length (filter is_live l)) same in
    record {
      live = ap (find (λ r. is_live r.entry && has_name c.args.name.now r)) left;
      dead = ap (find (λ r. not (is_live r.entry) && has_name c.args.name.now r)) left;
      all = omega (arith, lengths);
      living = omega (arith, lives);
    }

pub overflow_add-all : goal.overflow_add-all
overflow_add-all c =
    let step = ap (λ l. total_length (map entry_of l)) c.in-Some.ensures.steps in
    let within = ends_within c.args.bucket.now in
    omega (arith, step, within, c.loop-record.invariant.all)

pub overflow_add-living : goal.overflow_add-living
overflow_add-living c =
    let step = ap total_length (live_step _ _ _ c.in-Some.ensures.steps c.if-record-eq0.false) in
    let within = lives_within c.args.bucket.now in
    omega (arith, step, within, c.loop-record.invariant.living)

pub returns-clause-all_within : goal.returns-clause-all_within
returns-clause-all_within c = let within = ends_within c.args.bucket.now in omega (arith, within, c.loop-record.invariant.all)

pub returns-clause-live_within : goal.returns-clause-live_within
returns-clause-live_within c = let within = lives_within c.args.bucket.now in omega (arith, within, c.loop-record.invariant.living)
