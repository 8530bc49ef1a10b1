use Rattle.std.proofs.Common.{◌∙◌, ap, arith, Option}
use Rattle.std.specs.Prelude.{is_some, option_map, slice_set}
use Rattle.std.proofs.lemmas.Result.{on_ok_weaker, IfOk-weaker}
use Rattle.block_cache.specs.Cached.{CachedLife}
use Rattle.block_cache.specs.NewBytes.{appended_by}
use Rattle.block_cache.proofs.GroupLives.{alive_within, place_read, place_written, place_exchanged}
use Rattle.block_cache.proofs.group.Group.append.Goals as goal

pub index_mut-requires : goal.index_mut-requires
index_mut-requires c = omega (arith, alive_within c.self.inside.places.items c.args.self.now c.args.at c.self.view_is c.requires.alive, c.self.inside.places.ok.0)

pub append-requires-clause-alive : goal.append-requires-clause-alive
append-requires-clause-alive c =
    let items = c.self.inside.places.items in
    let within = alive_within items c.args.self.now c.args.at c.self.view_is c.requires.alive in
    ap (λ (o : Option CachedLife). is_some o) (place_read items c.args.self.now c.args.at c.index_mut.result.now c.self.view_is within c.index_mut.ensures.value) ∙ c.requires.alive

pub returns-clause-ok : goal.returns-clause-ok
returns-clause-ok c =
    let items = c.self.inside.places.items in
    let within = alive_within items c.args.self.now c.args.at c.self.view_is c.requires.alive in
    let read = place_read items c.args.self.now c.args.at c.index_mut.result.now c.self.view_is within c.index_mut.ensures.value in
    on_ok_weaker c.append.result
    (λ is. place_written items c.args.self.now c.args.at c.append.new.self c.self.view_is within
    ∙ ap (λ o. slice_set c.args.self.now c.args.at o) (is ∙ ap (λ (o : Option CachedLife). option_map (appended_by c.args.key c.args.bytes) o) read))
    c.append.ensures.ok

pub returns-clause-exchange : goal.returns-clause-exchange
returns-clause-exchange c =
    let items = c.self.inside.places.items in
    let within = alive_within items c.args.self.now c.args.at c.self.view_is c.requires.alive in
    IfOk-weaker c.append.result _ _
    (λ e is. is ∙ place_exchanged items c.args.self.now c.args.at c.index_mut.result.now c.append.new.self c.self.view_is within c.index_mut.ensures.value)
    c.append.ensures.exchange
