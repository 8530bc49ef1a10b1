use Rattle.std.proofs.Common.{List, Option, ap, arith, sym, subst}
use Rattle.std.specs.Prelude.{IfSome, sum_by}
use Rattle.block_cache.specs.Cached.{CachedLife}
use Rattle.block_cache.specs.declared.totals.Totals.{Totals}
use Rattle.block_cache.specs.Changed.{MayChange, changed_by}
use Rattle.block_cache.specs.Kept.{place_at}
use Rattle.block_cache.specs.Totals.{pending_count}
use Rattle.block_cache.proofs.Counting.{pending_changed}
use Rattle.block_cache.proofs.GroupLives.{change_free, changed, group_place, groups_again, no_place_in}
use Rattle.block_cache.proofs.lives.Lives.change.Goals as goal

pub index_mut-requires : goal.index_mut-requires
index_mut-requires c = omega (arith, c.if-block-self.false, c.self.invariant.room, c.self.inside.groups.ok.0)

pub exchange-requires : goal.exchange-requires
exchange-requires c =
    let within = c.if-block-self.false in
    let done = changed c.self.inside.blocks c.self.inside.groups.items c.self.inside.totals c.args.self.now c.args.block c.index_mut.result.now c.change-exchange.new.self (changed_by c.args.change) c.change-exchange.result c.self.invariant c.self.view_is within c.index_mut.ensures.value c.change-exchange.ensures.long c.change-exchange.ensures.changed c.change-exchange.ensures.exchange
    (omega (arith, pending_changed c.args.change (place_at c.args.self.now c.args.block), ap (λ (t : Totals). t.pending) c.self.invariant.counted, ap (λ (os : List (Option CachedLife)). sum_by pending_count os) c.self.view_is)) in
    record { pending = done.exchange.pending; in_flight = done.exchange.in_flight; few_pending = done.exchange.few_pending; few_in_flight = done.exchange.few_in_flight }

pub invariant_of-self : goal.invariant_of-self
invariant_of-self c =
    let within = c.if-block-self.false in
    let done = changed c.self.inside.blocks c.self.inside.groups.items c.self.inside.totals c.args.self.now c.args.block c.index_mut.result.now c.change-exchange.new.self (changed_by c.args.change) c.change-exchange.result c.self.invariant c.self.view_is within c.index_mut.ensures.value c.change-exchange.ensures.long c.change-exchange.ensures.changed c.change-exchange.ensures.exchange
    (omega (arith, pending_changed c.args.change (place_at c.args.self.now c.args.block), ap (λ (t : Totals). t.pending) c.self.invariant.counted, ap (λ (os : List (Option CachedLife)). sum_by pending_count os) c.self.view_is)) in
    groups_again c.self.inside.blocks _ c.self.inside.totals c.exchange.new.self c.args.self.now c.args.block _ c.change-exchange.result c.self.invariant.few done c.exchange.ensures

pub returns : goal.returns
returns c =
    let within = c.if-block-self.false in
    let done = changed c.self.inside.blocks c.self.inside.groups.items c.self.inside.totals c.args.self.now c.args.block c.index_mut.result.now c.change-exchange.new.self (changed_by c.args.change) c.change-exchange.result c.self.invariant c.self.view_is within c.index_mut.ensures.value c.change-exchange.ensures.long c.change-exchange.ensures.changed c.change-exchange.ensures.exchange
    (omega (arith, pending_changed c.args.change (place_at c.args.self.now c.args.block), ap (λ (t : Totals). t.pending) c.self.invariant.counted, ap (λ (os : List (Option CachedLife)). sum_by pending_count os) c.self.view_is)) in
    done.view

pub returns-then-block-self : goal.returns-then-block-self
returns-then-block-self c = change_free c.args.self.now c.args.block (changed_by c.args.change) (no_place_in c.self.inside.blocks c.self.inside.groups.items c.args.self.now c.args.block c.self.view_is c.if-block-self.true)

pub change-exchange-requires : goal.change-exchange-requires
change-exchange-requires c =
    let P : Option CachedLife → Type 0 = λ o. IfSome o (MayChange c.args.change) in
    subst P (sym (group_place c.self.inside.blocks c.self.inside.groups.items c.args.self.now c.args.block c.index_mut.result.now c.self.view_is c.if-block-self.false
    (omega (arith, c.if-block-self.false, c.self.invariant.room)) c.index_mut.ensures.value)) c.requires
