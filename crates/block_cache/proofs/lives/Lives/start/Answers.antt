use Rattle.std.proofs.Common.{Some, arith}
use Rattle.block_cache.specs.Kept.{started_life}
use Rattle.block_cache.specs.Systems.{system_of}
use Rattle.block_cache.proofs.GroupLives.{within_below, groups_again, written}
use Rattle.block_cache.proofs.lives.Lives.start.Goals as goal

pub index_mut-requires : goal.index_mut-requires
index_mut-requires c = omega (arith, within_below c.self.inside.blocks c.self.inside.groups.items c.args.self.now c.args.block c.self.view_is c.requires.within, c.self.invariant.room, c.self.inside.groups.ok.0)

pub exchange-requires : goal.exchange-requires
exchange-requires c =
    let within = within_below c.self.inside.blocks c.self.inside.groups.items c.args.self.now c.args.block c.self.view_is c.requires.within in
    let done = written c.self.inside.blocks c.self.inside.groups.items c.self.inside.totals c.args.self.now c.args.block c.index_mut.result.now c.start.new.self (Some (started_life c.args.key (system_of c.args.fs) c.args.ty c.args.bytes.now)) c.in_ok-exchange.exchange c.self.invariant c.self.view_is within c.index_mut.ensures.value c.in_ok-exchange.ensures.long c.in_ok-exchange.ensures.ok c.in_ok-exchange.ensures.exchange
    (omega (arith, c.requires.few)) in
    record { pending = done.exchange.pending; in_flight = done.exchange.in_flight; few_pending = done.exchange.few_pending; few_in_flight = done.exchange.few_in_flight }

pub invariant_of-self-2 : goal.invariant_of-self-2
invariant_of-self-2 c =
    let within = within_below c.self.inside.blocks c.self.inside.groups.items c.args.self.now c.args.block c.self.view_is c.requires.within in
    let done = written c.self.inside.blocks c.self.inside.groups.items c.self.inside.totals c.args.self.now c.args.block c.index_mut.result.now c.start.new.self (Some (started_life c.args.key (system_of c.args.fs) c.args.ty c.args.bytes.now)) c.in_ok-exchange.exchange c.self.invariant c.self.view_is within c.index_mut.ensures.value c.in_ok-exchange.ensures.long c.in_ok-exchange.ensures.ok c.in_ok-exchange.ensures.exchange
    (omega (arith, c.requires.few)) in
    groups_again c.self.inside.blocks _ c.self.inside.totals c.exchange.new.self c.args.self.now c.args.block _ c.in_ok-exchange.exchange c.self.invariant.few done c.exchange.ensures

pub returns-clause-ok : goal.returns-clause-ok
returns-clause-ok c =
    let within = within_below c.self.inside.blocks c.self.inside.groups.items c.args.self.now c.args.block c.self.view_is c.requires.within in
    let done = written c.self.inside.blocks c.self.inside.groups.items c.self.inside.totals c.args.self.now c.args.block c.index_mut.result.now c.start.new.self (Some (started_life c.args.key (system_of c.args.fs) c.args.ty c.args.bytes.now)) c.in_ok-exchange.exchange c.self.invariant c.self.view_is within c.index_mut.ensures.value c.in_ok-exchange.ensures.long c.in_ok-exchange.ensures.ok c.in_ok-exchange.ensures.exchange
    (omega (arith, c.requires.few)) in
    done.view
