use Rattle.std.proofs.Common.{List, Option, None, ap, arith}
use Rattle.std.specs.Prelude.{sum_by}
use Rattle.block_cache.specs.Cached.{CachedLife}
use Rattle.block_cache.specs.declared.totals.Totals.{Totals}
use Rattle.block_cache.specs.Totals.{pending_count}
use Rattle.block_cache.proofs.GroupLives.{end_free, groups_again, no_place_in, written}
use Rattle.block_cache.proofs.lives.Lives.end.Goals as goal

pub index_mut-requires : goal.index_mut-requires
index_mut-requires c = omega (arith, c.if-block-self.false, c.self.invariant.room, c.self.inside.groups.ok.0)

pub exchange-requires : goal.exchange-requires
exchange-requires c =
    let within = c.if-block-self.false in
    let done = written c.self.inside.blocks c.self.inside.groups.items c.self.inside.totals c.args.self.now c.args.block c.index_mut.result.now c.end-exchange.new.self (None) c.end-exchange.result c.self.invariant c.self.view_is within c.index_mut.ensures.value c.end-exchange.ensures.long c.end-exchange.ensures.end c.end-exchange.ensures.exchange
    (omega (arith, ap (λ (t : Totals). t.pending) c.self.invariant.counted, ap (λ (os : List (Option CachedLife)). sum_by pending_count os) c.self.view_is)) in
    record { pending = done.exchange.pending; in_flight = done.exchange.in_flight; few_pending = done.exchange.few_pending; few_in_flight = done.exchange.few_in_flight }

pub invariant_of-self : goal.invariant_of-self
invariant_of-self c =
    let within = c.if-block-self.false in
    let done = written c.self.inside.blocks c.self.inside.groups.items c.self.inside.totals c.args.self.now c.args.block c.index_mut.result.now c.end-exchange.new.self (None) c.end-exchange.result c.self.invariant c.self.view_is within c.index_mut.ensures.value c.end-exchange.ensures.long c.end-exchange.ensures.end c.end-exchange.ensures.exchange
    (omega (arith, ap (λ (t : Totals). t.pending) c.self.invariant.counted, ap (λ (os : List (Option CachedLife)). sum_by pending_count os) c.self.view_is)) in
    groups_again c.self.inside.blocks _ c.self.inside.totals c.exchange.new.self c.args.self.now c.args.block _ c.end-exchange.result c.self.invariant.few done c.exchange.ensures

pub returns : goal.returns
returns c =
    let within = c.if-block-self.false in
    let done = written c.self.inside.blocks c.self.inside.groups.items c.self.inside.totals c.args.self.now c.args.block c.index_mut.result.now c.end-exchange.new.self (None) c.end-exchange.result c.self.invariant c.self.view_is within c.index_mut.ensures.value c.end-exchange.ensures.long c.end-exchange.ensures.end c.end-exchange.ensures.exchange
    (omega (arith, ap (λ (t : Totals). t.pending) c.self.invariant.counted, ap (λ (os : List (Option CachedLife)). sum_by pending_count os) c.self.view_is)) in
    done.view

pub returns-then-block-self : goal.returns-then-block-self
returns-then-block-self c = end_free c.args.self.now c.args.block (no_place_in c.self.inside.blocks c.self.inside.groups.items c.args.self.now c.args.block c.self.view_is c.if-block-self.true)
