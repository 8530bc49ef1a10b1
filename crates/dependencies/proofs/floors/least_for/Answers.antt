use Rattle.std.proofs.Common.{◌≤◌, ◌<◌, ◌∙◌, ap, sym, arith, length, None}
use Rattle.std.proofs.lemmas.List.{take_all}
use Rattle.std.proofs.lemmas.List.Sums.{sum_by_more, sum_by_more_le}
use Rattle.xn_model.specs.Lives.{entries_at, entries_of, least_to, life_at}
use Rattle.xn_model.specs.Calls.{pending_in}
use Rattle.dependencies.proofs.Dirty.{clean_before, clean_from, counts_pass, entries_pass, next_within}
use Rattle.dependencies.proofs.FirstEntries.{least_of_all, least_places, life_is, place_is}
use Rattle.dependencies.proofs.floors.least_for.Goals as goal

pub overflow_sub-left : goal.overflow_sub-left
overflow_sub-left c =
    let lives = c.args.cache.now in
    let dirty = c.args.dirty.now in
    let fs = c.args.fs.number in
    let from = c.loop-from.from in
    let block = c.in-Some.block in
    let next = c.in-Some.ensures.some in
    let within : block < length lives = next_within dirty lives from block c.requires.dirty next in
    let same = counts_pass fs from block lives next.past (clean_before dirty lives from block c.requires.dirty next) in
    let most = sum_by_more_le (pending_in fs) lives block None within in
    let here = c.count_in-left.ensures ∙ ap (pending_in fs) (place_is lives block) in
    let left = c.loop-from.invariant.1 in
    let all = c.requires.all in
    omega (arith, most, here, left, all, same)

pub loop-from-preserved : goal.loop-from-preserved
loop-from-preserved c =
    let lives = c.args.cache.now in
    let dirty = c.args.dirty.now in
    let fs = c.args.fs.number in
    let from = c.loop-from.from in
    let block = c.in-Some.block in
    let next = c.in-Some.ensures.some in
    let within : block < length lives = next_within dirty lives from block c.requires.dirty next in
    let clean = clean_before dirty lives from block c.requires.dirty next in
    let same = counts_pass fs from block lives next.past clean in
    let more = least_places c.args.most fs block lives (life_at lives block) within (life_is lives block within) in
    let sums = sum_by_more (pending_in fs) lives block None within in
    let most = sum_by_more_le (pending_in fs) lives block None within in
    let here = c.count_in-left.ensures ∙ ap (pending_in fs) (place_is lives block) in
    let left = c.loop-from.invariant.1 in
    let all = c.requires.all in
    let so_far = c.loop-from.invariant.0 ∙ ap (least_to c.args.most) (sym (entries_pass fs from block lives next.past clean)) in (
      c.least_in-least.ensures ∙ (ap (λ n. least_to n (entries_at fs (life_at lives block))) so_far ∙ sym more),
      omega (arith, here, sums, most, left, all, same),
    )

pub returns-then-left-eq0 : goal.returns-then-left-eq0
returns-then-left-eq0 c =
    let none = c.if-left-eq0.true in
    let left = c.loop-from.invariant.1 in
    let all = c.requires.all in
    c.loop-from.invariant.0 ∙ sym (least_of_all c.args.most c.args.fs.number c.loop-from.from c.args.cache.now (omega (arith, none, left, all)))

pub returns-in_default : goal.returns-in_default
returns-in_default c =
    let lives = c.args.cache.now in
    let from = c.loop-from.from in
    let fs = c.args.fs.number in
    let within : from ≤ length lives = omega (arith, c.loop-from-test.true, c.blocks-blocks.ensures) in
    let clean = clean_from c.args.dirty.now lives from c.requires.dirty c.in_default.ensures.none in
    let same = entries_pass fs from (length lives) lives within (λ k past below. clean k past) in
    c.loop-from.invariant.0
    ∙ ap (least_to c.args.most) (sym same ∙ ap (entries_of fs) (take_all (length lives) lives (omega arith)))
