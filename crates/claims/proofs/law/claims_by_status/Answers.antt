use Rattle.std.proofs.Common.{◌∙◌, ap}
use Rattle.std.specs.Prelude.{◌&&◌}
use Rattle.std.specs.List.{list_all}
use Rattle.std.proofs.lemmas.Bool.{and_parts}
use Rattle.xn_model.specs.Types.{named_once}
use Rattle.xn_model.specs.Lists.{distinct, blocks_of}
use Rattle.xn_model.specs.Calls.{may_add, may_drop}
use Rattle.claims.specs.Owners.{is_claimed}
use Rattle.claims.proofs.CountedPairs.{owned_counted}
use Rattle.claims.proofs.ClaimsByStatus.{claimed_is}
use Rattle.claims.proofs.law.claims_by_status.Goals as goal

pub returns : goal.returns
returns c = λ T state b fs l new adds drops ok alive may_adds may_drops.
    let added = and_parts (list_all (may_add state fs) adds) (distinct (blocks_of adds)) may_adds in
    let dropped = and_parts (list_all (may_drop state b) drops) (distinct drops) may_drops in
    claimed_is T state b fs l new adds drops ok alive added.0 added.1 dropped.0 dropped.1
    ∙ ap (λ n. is_claimed state.lives b n (T.owned l.ty new) adds drops && named_once T l.ty new) (owned_counted T state b l ok alive)
