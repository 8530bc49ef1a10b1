use Rattle.std.proofs.Common.{◌≡◌, Ok}
use Rattle.ffs_lib.proofs.Common.{files_of, latest, range_with_len}
use Rattle.ffs_lib.specs.Orders.{made_by}
use Rattle.ffs_lib.specs.RepairOrder.{repair_parts}
use Rattle.ffs_lib.specs.Reclaiming.{InMiddle}
use Rattle.ffs_lib.specs.Volumes.{edits_of}
use Rattle.ffs_lib.proofs.volume.Volume.reclaim.Given as goal

-- the first inodes are repaired
abbrev pub invariant-loop-at : goal.invariant-loop-at
invariant-loop-at g l =
    let T = g.S.Store.types_of l.initial.store in
    let fs = l.self.fs.number in
    let old = g.S.Store.state_of l.initial.store in
    let now = g.S.Store.state_of l.store in
    record {
      types : g.S.Store.types_of l.store ≡ T;
      middle : InMiddle T fs (edits_of l.self.added) old now l.at;
      order : made_by T fs (repair_parts (files_of (latest old.lives) fs) fs (range_with_len 1 l.at)) old ≡ Ok now;
    }
