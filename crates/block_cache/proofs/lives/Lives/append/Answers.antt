use Rattle.std.proofs.Common.{◌∙◌, Option, ap, arith}
use Rattle.std.specs.Prelude.{is_some}
use Rattle.block_cache.specs.Cached.{CachedLife}
use Rattle.block_cache.specs.Kept.{place_at}
use Rattle.block_cache.specs.NewBytes.{appended_by}
use Rattle.block_cache.proofs.Counting.{pending_appended}
use Rattle.block_cache.proofs.GroupLives.{alive_below, changed, group_place, groups_again}
use Rattle.block_cache.proofs.lives.Lives.append.Goals as goal

pub index_mut-requires : goal.index_mut-requires
index_mut-requires c = omega (arith, alive_below c.self.inside.blocks c.self.inside.groups.items c.args.self.now c.args.block c.self.view_is c.requires.alive, c.self.invariant.room, c.self.inside.groups.ok.0)

pub exchange-requires : goal.exchange-requires
exchange-requires c =
    let within = alive_below c.self.inside.blocks c.self.inside.groups.items c.args.self.now c.args.block c.self.view_is c.requires.alive in
    let done = changed c.self.inside.blocks c.self.inside.groups.items c.self.inside.totals c.args.self.now c.args.block c.index_mut.result.now c.append.new.self (appended_by c.args.key c.args.bytes) c.in_ok-exchange.exchange c.self.invariant c.self.view_is within c.index_mut.ensures.value c.in_ok-exchange.ensures.long c.in_ok-exchange.ensures.ok c.in_ok-exchange.ensures.exchange
    (omega (arith, c.requires.few, pending_appended c.args.key c.args.bytes (place_at c.args.self.now c.args.block))) in
    record { pending = done.exchange.pending; in_flight = done.exchange.in_flight; few_pending = done.exchange.few_pending; few_in_flight = done.exchange.few_in_flight }

pub invariant_of-self-2 : goal.invariant_of-self-2
invariant_of-self-2 c =
    let within = alive_below c.self.inside.blocks c.self.inside.groups.items c.args.self.now c.args.block c.self.view_is c.requires.alive in
    let done = changed c.self.inside.blocks c.self.inside.groups.items c.self.inside.totals c.args.self.now c.args.block c.index_mut.result.now c.append.new.self (appended_by c.args.key c.args.bytes) c.in_ok-exchange.exchange c.self.invariant c.self.view_is within c.index_mut.ensures.value c.in_ok-exchange.ensures.long c.in_ok-exchange.ensures.ok c.in_ok-exchange.ensures.exchange
    (omega (arith, c.requires.few, pending_appended c.args.key c.args.bytes (place_at c.args.self.now c.args.block))) in
    groups_again c.self.inside.blocks _ c.self.inside.totals c.exchange.new.self c.args.self.now c.args.block _ c.in_ok-exchange.exchange c.self.invariant.few done c.exchange.ensures

pub returns-clause-ok : goal.returns-clause-ok
returns-clause-ok c =
    let within = alive_below c.self.inside.blocks c.self.inside.groups.items c.args.self.now c.args.block c.self.view_is c.requires.alive in
    let done = changed c.self.inside.blocks c.self.inside.groups.items c.self.inside.totals c.args.self.now c.args.block c.index_mut.result.now c.append.new.self (appended_by c.args.key c.args.bytes) c.in_ok-exchange.exchange c.self.invariant c.self.view_is within c.index_mut.ensures.value c.in_ok-exchange.ensures.long c.in_ok-exchange.ensures.ok c.in_ok-exchange.ensures.exchange
    (omega (arith, c.requires.few, pending_appended c.args.key c.args.bytes (place_at c.args.self.now c.args.block))) in
    done.view

pub append-requires-clause-alive : goal.append-requires-clause-alive
append-requires-clause-alive c =
    let within = alive_below c.self.inside.blocks c.self.inside.groups.items c.args.self.now c.args.block c.self.view_is c.requires.alive in
    ap (λ (o : Option CachedLife). is_some o) (group_place c.self.inside.blocks c.self.inside.groups.items c.args.self.now c.args.block c.index_mut.result.now c.self.view_is within
    (omega (arith, within, c.self.invariant.room)) c.index_mut.ensures.value) ∙ c.requires.alive
