use Rattle.std.proofs.Common.{◌≡◌}
use Rattle.std.specs.Option.{option_or}
use Rattle.treefs_lookup.specs.Names.{dead_in, dead_place, first_some, free_place, slot_in, slot_named}
use Rattle.treefs_lookup.specs.Readable.{readable}
use Rattle.treefs_lookup.proofs.Candidates.{later}
use Rattle.treefs_lookup.proofs.FreePlaces.{place_left}
use Rattle.treefs_lookup.proofs.places.see_all.Given as goal

abbrev pub invariant-loop-level : goal.invariant-loop-level
invariant-loop-level g l =
    let state = g.S.Store.state_of l.store in
    let content = readable state l.fs.number in
    record {
      taken : slot_named content l.fn.key l.inode l.name ≡ option_or l.seen.taken (first_some (slot_in content l.inode l.name) (later l.hash l.level));
      dead : dead_place content l.hash l.inode l.name ≡ option_or l.seen.dead (first_some (dead_in content l.inode l.name) (later l.hash l.level));
      free : free_place state l.fs.number l.hash l.inode l.name ≡ place_left state l.fs.number l.hash l.inode l.name l.seen.room l.seen.in_the_way l.level;
    }
