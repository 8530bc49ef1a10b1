use Rattle.std.proofs.Common.{rules, tests}
use Rattle.std.specs.Prelude.{◌&&◌}
use Rattle.std.proofs.lemmas.Iterator.Consumers.{YieldsList-from_first}
use Rattle.std.proofs.lemmas.Iterator.Search.{find_from_yields_List}
use Rattle.treefs_format.specs.Buckets.{has_name}
use Rattle.treefs_format.specs.Left.{record_of, records_left}
use Rattle.treefs_format.specs.Records.{is_live, records_of}
use Rattle.treefs_format.proofs.buckets.live_record.Goals as goal

pub returns : goal.returns
returns c =
    find_from_yields_List (λ r. is_live r.entry && has_name c.args.name.now r) c.find.new.self _ _ c.find.ensures.ran
    (YieldsList-from_first record_of records_left (records_of c.args.bucket.now) c.new.ensures) (λ x b q k. search (rules, tests))
