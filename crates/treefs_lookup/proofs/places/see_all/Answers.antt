use Rattle.std.proofs.Common.{◌+◌, ◌∙◌, sym, ap}
use Rattle.std.specs.Prelude.{◌||◌}
use Rattle.std.specs.Option.{option_or}
use Rattle.treefs_format.specs.Candidates.{candidate}
use Rattle.treefs_lookup.specs.Names.{dead_in, dead_place, first_some, free_place, slot_in}
use Rattle.treefs_lookup.specs.Readable.{readable}
use Rattle.treefs_lookup.proofs.Candidates.{first_more, later, no_more}
use Rattle.treefs_lookup.proofs.FoundNames.{dead_first, dead_found, named_first, room_found, slot_found, way_found}
use Rattle.treefs_lookup.proofs.FreePlaces.{left_first, left_later, left_none, place_left, way_at}
use Rattle.treefs_lookup.proofs.places.see_all.Goals as goal

pub loop-level-init : goal.loop-level-init
loop-level-init g c =
    let state = g.S.Store.state_of c.args.store.now in
    let content = readable state c.args.fs.number in
    let hash = c.name_hash-hash.result in
    record {
      taken = named_first content c.args.key.now c.args.inode c.args.name.now hash c.name_hash-hash.ensures;
      dead = dead_first content hash c.args.inode c.args.name.now;
      free = left_first state c.args.fs.number hash c.args.inode c.args.name.now;
    }

pub loop-level-preserved : goal.loop-level-preserved
loop-level-preserved g c =
    let state = g.S.Store.state_of c.args.store.now in
    let fs = c.args.fs.number in
    let content = readable state fs in
    let hash = c.name_hash-hash.result in
    let inode = c.args.inode in
    let name = c.args.name.now in
    let level = c.loop-level.level in
    let seen = c.loop-level.seen in
    let bucket = c.read_candidate-bucket.result in
    let is = c.read_candidate-bucket.ensures in
    let lt = c.loop-level-test.true in
    let n = candidate hash level in
    let slot = slot_found content inode n name bucket is in
    let dead = dead_found content inode n name bucket is in
    let room = room_found state fs inode n name bucket is in
    let way = way_found content inode n name bucket is in
    record {
      taken = c.loop-level.invariant.taken ∙ (first_more (slot_in content inode name) hash level seen.taken lt
          ∙ ap (λ o. option_or o (first_some (slot_in content inode name) (later hash (level + 1)))) (ap (option_or seen.taken) slot ∙ sym c.see-seen.ensures.taken));
      dead = c.loop-level.invariant.dead ∙ (first_more (dead_in content inode name) hash level seen.dead lt
          ∙ ap (λ o. option_or o (first_some (dead_in content inode name) (later hash (level + 1)))) (ap (option_or seen.dead) dead ∙ sym c.see-seen.ensures.dead));
      free = c.loop-level.invariant.free ∙ (left_later state fs hash inode name seen.room seen.in_the_way level lt
          ∙ (ap (λ o. place_left state fs hash inode name o (seen.in_the_way || way_at state fs inode name n) (level + 1)) (ap (option_or seen.room) room ∙ sym c.see-seen.ensures.room)
          ∙ ap (λ b. place_left state fs hash inode name c.see-seen.result.room b (level + 1)) (ap (λ b. seen.in_the_way || b) way ∙ sym c.see-seen.ensures.in_the_way)));
    }

pub returns-clause-taken : goal.returns-clause-taken
returns-clause-taken g c =
    let content = readable (g.S.Store.state_of c.args.store.now) c.args.fs.number in
    sym (c.loop-level.invariant.taken ∙ no_more (slot_in content c.args.inode c.args.name.now) c.name_hash-hash.result c.loop-level.level c.loop-level.seen.taken c.loop-level-test.false)

pub returns-clause-dead : goal.returns-clause-dead
returns-clause-dead g c =
    let content = readable (g.S.Store.state_of c.args.store.now) c.args.fs.number in
    let inode = c.args.inode in
    let name = c.args.name.now in
    sym (ap (λ h. dead_place content h inode name) (sym c.name_hash-hash.ensures)
    ∙ (c.loop-level.invariant.dead ∙ no_more (dead_in content inode name) c.name_hash-hash.result c.loop-level.level c.loop-level.seen.dead c.loop-level-test.false))

pub returns-clause-free : goal.returns-clause-free
returns-clause-free g c =
    let state = g.S.Store.state_of c.args.store.now in
    let fs = c.args.fs.number in
    let inode = c.args.inode in
    let name = c.args.name.now in
    let seen = c.loop-level.seen in
    sym (ap (λ h. free_place state fs h inode name) (sym c.name_hash-hash.ensures)
    ∙ (c.loop-level.invariant.free ∙ left_none state fs c.name_hash-hash.result inode name seen.room seen.in_the_way c.loop-level.level c.loop-level-test.false))
