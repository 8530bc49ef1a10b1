use Rattle.std.proofs.Common.{◌∙◌, ◌<◌, ap, arith, sym, subst, length, Option}
use Rattle.std.specs.Prelude.{IfSome, option_map, slice_set}
use Rattle.block_cache.specs.Cached.{CachedLife}
use Rattle.block_cache.specs.Changed.{MayChange, changed_by}
use Rattle.block_cache.specs.Kept.{place_at}
use Rattle.block_cache.proofs.GroupLives.{free_past, change_free, free_exchanged, place_read, place_written, place_exchanged}
use Rattle.block_cache.proofs.group.Group.change.Goals as goal

pub returns-then-at-len-clause-changed : goal.returns-then-at-len-clause-changed
returns-then-at-len-clause-changed c =
    let items = c.self.inside.places.items in
    change_free c.args.self.now c.args.at (changed_by c.args.change) (free_past items c.args.self.now c.args.at c.self.view_is (omega (arith, c.if-at-len.true, c.self.inside.places.ok.0)))

pub returns-then-at-len-clause-exchange : goal.returns-then-at-len-clause-exchange
returns-then-at-len-clause-exchange c =
    let free = free_past c.self.inside.places.items c.args.self.now c.args.at c.self.view_is (omega (arith, c.if-at-len.true, c.self.inside.places.ok.0)) in
    c.none.ensures ∙ free_exchanged (place_at c.args.self.now c.args.at) (place_at c.args.self.now c.args.at) free free

pub change-requires : goal.change-requires
change-requires c =
    let P : Option CachedLife → Type 0 = λ o. IfSome o (MayChange c.args.change) in
    subst P (sym (place_read c.self.inside.places.items c.args.self.now c.args.at c.index_mut.result.now c.self.view_is (omega (arith, c.if-at-len.false, c.self.inside.places.ok.0)) c.index_mut.ensures.value)) c.requires

pub returns-clause-changed : goal.returns-clause-changed
returns-clause-changed c =
    let items = c.self.inside.places.items in
    let within : c.args.at < length items = omega (arith, c.if-at-len.false, c.self.inside.places.ok.0) in
    let read = place_read items c.args.self.now c.args.at c.index_mut.result.now c.self.view_is within c.index_mut.ensures.value in
    place_written items c.args.self.now c.args.at c.change.new.self c.self.view_is within
    ∙ ap (λ o. slice_set c.args.self.now c.args.at o) (c.change.ensures.changed ∙ ap (λ (o : Option CachedLife). option_map (changed_by c.args.change) o) read)

pub returns-clause-exchange : goal.returns-clause-exchange
returns-clause-exchange c =
    c.change.ensures.exchange
    ∙ place_exchanged c.self.inside.places.items c.args.self.now c.args.at c.index_mut.result.now c.change.new.self c.self.view_is (omega (arith, c.if-at-len.false, c.self.inside.places.ok.0)) c.index_mut.ensures.value
