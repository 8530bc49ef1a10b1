use Rattle.std.proofs.Common.{arith, ◌+◌, ◌-◌}
use Rattle.treefs_lookup.proofs.Candidates.{few_buckets}
use Rattle.treefs_lookup.proofs.buckets.read_candidate.Goals as goal

pub read_bucket-requires : goal.read_bucket-requires
read_bucket-requires g c =
    let high = c.levels_are_apart.ensures.high c.args.hash c.args.level in
    let few = few_buckets (c.args.level + 1) (9 - (c.args.level + 1)) (omega arith) in
    omega arith
