use Rattle.std.proofs.Common.{◌≡◌, ◌≤◌, ◌-◌, ◌++◌, length}
use Rattle.treefs_byte_plans.specs.Drops.{dropped}
use Rattle.treefs_byte_plans.proofs.DroppedBlocks.{dropped_left}
use Rattle.treefs_lookup.specs.Readable.{readable}
use Rattle.treefs_byte_plans.proofs.drops.dropped.Given as goal

abbrev pub invariant-loop-other : goal.invariant-loop-other
invariant-loop-other g l =
    let content = readable (g.S.Store.state_of l.store) l.fs.number in
    record {
      few : length l.blocks.items ≤ l.other - l.place;
      joined : dropped content l.block l.place ≡ l.blocks.items ++ dropped_left content l.block l.other;
    }
