use Rattle.std.proofs.Common.{rules, tests}
use Rattle.std.specs.Prelude.{not}
use Rattle.std.proofs.lemmas.Iterator.Consumers.{YieldsList-from_first}
use Rattle.std.proofs.lemmas.Iterator.Search.{any_from_yields_List}
use Rattle.treefs_format.specs.Left.{record_of, records_left}
use Rattle.treefs_format.specs.Records.{is_live, records_of}
use Rattle.treefs_mending.proofs.rewritings.has_dead.Goals as goal

pub returns : goal.returns
returns c =
    any_from_yields_List (λ r. not (is_live r.entry)) c.any.new.self _ _ c.any.ensures.ran
    (YieldsList-from_first record_of records_left (records_of c.args.bucket.now) c.new.ensures) (λ x b q k. search (rules, tests))
