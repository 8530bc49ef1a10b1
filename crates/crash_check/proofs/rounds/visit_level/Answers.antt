use Rattle.std.proofs.Common.{◌∙◌, ◌+◌, Err, map, drop, length, ap, sym, subst, arith, inl, inr, ⊎_elim}
use Rattle.std.specs.Option.{option_map}
use Rattle.std.proofs.lemmas.Result.{err_from_is_err_and}
use Rattle.std.proofs.lemmas.Option.{slice_get_within}
use Rattle.templates.specs.Tables.{table_types}
use Rattle.image_model.specs.Walk.{visit_sees_at}
use Rattle.xn_model.specs.Images.{block_of}
use Rattle.image_model.proofs.ForCallers.{Valid-take_in}
use Rattle.templates.specs.Meaning.{numbers_of_pair}
use Rattle.crash_check.specs.Rounds.{walk_from}
use Rattle.crash_check.specs.Sights.{sights}
use Rattle.crash_check.proofs.Levels.{sees-next, sum-next, length-level}
use Rattle.crash_check.proofs.Walks.{Sees, first, later, take_in-fault, take_in-more, unvisited}
use Rattle.crash_check.proofs.rounds.visit_level.Goals as goal

pub returns-in_err-take_in-clause-fault : goal.returns-in_err-take_in-clause-fault
returns-in_err-take_in-clause-fault g c =
    let p = err_from_is_err_and c.from_residual.result c.from_residual.ensures.1 in
    let t = c.in_err-take_in.ensures in
    let w = c.loop-seen.invariant in
    let T = table_types c.args.table.now in
    let blocks = c.args.blocks.now in
    let named = c.loop-seen.named.entries in
    let sight = option_map (λ v. map numbers_of_pair v.now) c.cut.result.0 in
    let s = sees-next c.loop-seen.left.now c.cut.result.1.now c.deref-seen-items.result.now c.loop-seen.seen-index _ c.loop-seen-test.true T blocks named c.loop-seen.visited sight w.3 c.cut.ensures.seen in
    rw (p.1) (
    ⊎_elim (λ none. inl (p.2 ∙ none))
    (λ fault. inr (take_in-fault T blocks (walk_from T blocks c.args.from c.args.named.now.entries) named c.loop-seen.visited t.0 t.1 w.0 sight (first T blocks named c.loop-seen.visited _ _ s t.0 t.1) _ fault ∙ (λ i. Err (sym p.2 i)))) t.2)

pub loop-seen-preserved : goal.loop-seen-preserved
loop-seen-preserved g c =
    let t = c.in_ok-take_in.ensures in
    let w = c.loop-seen.invariant in
    let T = table_types c.args.table.now in
    let blocks = c.args.blocks.now in
    let named = c.loop-seen.named.entries in
    let sight = option_map (λ v. map numbers_of_pair v.now) c.cut.result.0 in
    let s = sees-next c.loop-seen.left.now c.cut.result.1.now c.deref-seen-items.result.now c.loop-seen.seen-index _ c.loop-seen-test.true T blocks named c.loop-seen.visited sight w.3 c.cut.ensures.seen in
    let more = take_in-more T blocks (walk_from T blocks c.args.from c.args.named.now.entries) named c.loop-seen.visited t.0 t.1 w.0 sight (first T blocks named c.loop-seen.visited _ _ s t.0 t.1) c.take_in.new.named.entries t.2 in
    let grown = (Valid-take_in T (length blocks) named c.take_in.new.named.entries t.0 sight t.2 w.0.valid).1 in (
      more,
      w.1,
      omega arith,
      subst (λ l. Sees T blocks l (c.loop-seen.visited + 1) (sights c.cut.result.1.now (drop (c.loop-seen.seen-index + 1) c.deref-seen-items.result.now))) (sym grown.1) (later T blocks named c.loop-seen.visited _ _ s t.0 t.1 grown.0),
      sum-next c.loop-seen.left.now c.cut.result.1.now c.deref-seen-items.result.now c.loop-seen.seen-index _ c.loop-seen-test.true w.4 c.cut.ensures.left,
    )

pub returns-clause-further : goal.returns-clause-further
returns-clause-further g c =
    let long = length-level (visit_sees_at (table_types c.args.table.now) (block_of c.args.blocks.now)) c.in-Ok.level.pairs.items c.in-Ok.level.counts.items c.args.named.now.entries c.args.from c.in-Ok.ensures.each in
    let same = ap length c.deref-seen-items.ensures.value in
    omega (arith, long, same, c.loop-seen.invariant.2)

pub overflow_add-visited : goal.overflow_add-visited
overflow_add-visited g c =
    let T = table_types c.args.table.now in
    let blocks = c.args.blocks.now in
    let t = c.in_ok-take_in.ensures in
    let here = slice_get_within c.loop-seen.named.entries c.loop-seen.visited t.0 t.1 in
    let unseen = unvisited T blocks (walk_from T blocks c.args.from c.args.named.now.entries) c.loop-seen.named.entries c.loop-seen.visited c.loop-seen.invariant.0 here in
    omega (arith, unseen)
