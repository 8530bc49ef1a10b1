use Rattle.std.proofs.Common.{rules, tests}
use Rattle.std.proofs.lemmas.Iterator.{YieldsList-from_slice}
use Rattle.std.proofs.lemmas.Iterator.Search.{all_from_yields_List}
use Rattle.treefs_edits.specs.Rooms.{has_room_in}
use Rattle.treefs_edits.proofs.room.have_room.Goals as goal

pub returns : goal.returns
returns g c =
    all_from_yields_List (has_room_in (g.S.Store.state_of c.args.store.now)) c.all.new.self _ c.all.result c.all.ensures.ran
    (YieldsList-from_slice c.args.parts.now c.iter.ensures.rest) (λ x b q k. search (rules, tests))
