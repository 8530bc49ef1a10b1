use Rattle.std.proofs.Common.{◌∙◌, ◌<◌, ap, arith, sym, length, List, Option}
use Rattle.std.specs.Prelude.{slice_set}
use Rattle.block_cache.specs.Cached.{CachedLife}
use Rattle.block_cache.specs.Kept.{place_at}
use Rattle.block_cache.specs.Totals.{exchange_of}
use Rattle.block_cache.proofs.GroupLives.{end_free, free_exchanged, free_past, given_back, place_exchanged, place_written}
use Rattle.block_cache.proofs.group.Group.end.Goals as goal

pub returns-then-at-len-clause-end : goal.returns-then-at-len-clause-end
returns-then-at-len-clause-end c =
    end_free c.args.self.now c.args.at (free_past c.self.inside.places.items c.args.self.now c.args.at c.self.view_is (omega (arith, c.if-at-len.true, c.self.inside.places.ok.0)))

pub returns-then-at-len-clause-exchange : goal.returns-then-at-len-clause-exchange
returns-then-at-len-clause-exchange c =
    let free = free_past c.self.inside.places.items c.args.self.now c.args.at c.self.view_is (omega (arith, c.if-at-len.true, c.self.inside.places.ok.0)) in
    c.none.ensures ∙ free_exchanged (place_at c.args.self.now c.args.at) (place_at c.args.self.now c.args.at) free free

pub returns-then-are_free-clause-end : goal.returns-then-are_free-clause-end
returns-then-are_free-clause-end c =
    let items = c.self.inside.places.items in
    let within : c.args.at < length items = omega (arith, c.if-at-len.false, c.self.inside.places.ok.0) in
    given_back items c.args.self.now c.args.at c.end-exchange.new.self c.deref.result.now c.new.result.items c.self.view_is c.self.invariant within c.end-exchange.ensures.end c.deref.ensures.value
    (c.are_free.ensures c.if-are_free.true) c.new.ensures.items

pub returns-then-are_free-clause-exchange : goal.returns-then-are_free-clause-exchange
returns-then-are_free-clause-exchange c =
    let items = c.self.inside.places.items in
    let within : c.args.at < length items = omega (arith, c.if-at-len.false, c.self.inside.places.ok.0) in
    let back = given_back items c.args.self.now c.args.at c.end-exchange.new.self c.deref.result.now c.new.result.items c.self.view_is c.self.invariant within c.end-exchange.ensures.end c.deref.ensures.value
    (c.are_free.ensures c.if-are_free.true) c.new.ensures.items in
    let written = place_written items c.args.self.now c.args.at c.end-exchange.new.self c.self.view_is within ∙ ap (slice_set c.args.self.now c.args.at) c.end-exchange.ensures.end in
    c.end-exchange.ensures.exchange
    ∙ (place_exchanged items c.args.self.now c.args.at c.index_mut.result.now c.end-exchange.new.self c.self.view_is within c.index_mut.ensures.value
    ∙ ap (λ (os : List (Option CachedLife)). exchange_of (place_at c.args.self.now c.args.at) (place_at os c.args.at)) (written ∙ sym back))

pub returns-else-are_free-clause-exchange : goal.returns-else-are_free-clause-exchange
returns-else-are_free-clause-exchange c =
    c.end-exchange.ensures.exchange
    ∙ place_exchanged c.self.inside.places.items c.args.self.now c.args.at c.index_mut.result.now c.end-exchange.new.self c.self.view_is (omega (arith, c.if-at-len.false, c.self.inside.places.ok.0))
    c.index_mut.ensures.value
