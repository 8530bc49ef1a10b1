use Rattle.treefs_model.specs.Places.{In, with_block}
use Rattle.treefs_model.proofs.InPlace.{edit_keeps}
use Rattle.treefs_model.proofs.Places.{attaches, waits}
use Rattle.treefs_model.proofs.law.new_blocks_get_in_place.Goals as goal

pub returns-clause-attached : goal.returns-clause-attached
returns-clause-attached c = λ T S fs covered held act old new number x bytes e i only empty none far mine out alone moves place.
    edit_keeps T S fs (In covered) (In held) (In (with_block covered x)) (In held) act old new number e (attaches T S fs covered held act old new number e i x bytes only empty none far mine out alone moves place) i

pub returns-clause-waited : goal.returns-clause-waited
returns-clause-waited c = λ T S fs covered held act old new number e i wait counts.
    edit_keeps T S fs (In covered) (In held) (In covered) (In (with_block held act.block)) act old new number e (waits T S fs covered held act old new number e i wait counts) i
