use Rattle.std.proofs.Common.{◌++◌, ap}
use Rattle.std.specs.Prelude.{flat_map}
use Rattle.treefs_format.specs.Fields.{change_bytes}
use Rattle.treefs_format.proofs.JoinedBytes.{has_first, one_more, patch_is}
use Rattle.treefs_format.proofs.fields.Change.patch.Goals as goal

pub loop-change-init : goal.loop-change-init
loop-change-init c = ap (λ l. l ++ flat_map change_bytes c.args.changes.now) c.in_ok-bytes.ensures.items

pub loop-change-preserved : goal.loop-change-preserved
loop-change-preserved c =
    one_more change_bytes c.args.changes.now c.loop-change.change-index _ c.loop-change.bytes.items c.loop-change.invariant c.append.new.bytes.items c.loop-change-test.true c.in_ok-append.ensures

pub bounds-changes-0 : goal.bounds-changes-0
bounds-changes-0 c = has_first c.args.changes.now c.requires.some

pub returns : goal.returns
returns c =
    patch_is c.args.changes.now c.loop-change.change-index _ c.offset.result c.loop-change.bytes.items c.loop-change.invariant c.loop-change-test.false c.requires.some c.offset.ensures
