use Rattle.std.proofs.Common.{◌∙◌, Some, map, length, ap, sym}
use Rattle.image_model.specs.Walk.{visit_sees}
use Rattle.templates.specs.Meaning.{numbers_of_pair}
use Rattle.templates.specs.Tables.{table_types}
use Rattle.crash_check.proofs.Levels.{sights-none, sights-some}
use Rattle.crash_check.proofs.level.see_next.Goals as goal

pub returns-then-not-see : goal.returns-then-not-see
returns-then-not-see c = λ seen so_far.
    rw (c.in_ok-push.ensures.items) (sights-none c.args.pairs.now.items c.args.counts.now.items seen so_far (visit_sees (table_types c.args.table.now) c.args.ty c.args.block.now) c.if-not-see.ensures)

pub returns : goal.returns
returns c = λ seen so_far.
    let found = c.as_slice.result.now in
    rw (c.in_ok-extend_from_slice.ensures.items, c.in_ok-push-2.ensures.items) (
    sights-some c.args.pairs.now.items c.args.counts.now.items seen so_far (visit_sees (table_types c.args.table.now) c.args.ty c.args.block.now) found c.len.result
    (c.len.ensures.value ∙ ap length (sym c.as_slice.ensures.value)) (ap (λ l. Some (map numbers_of_pair l)) c.as_slice.ensures.value ∙ c.if-not-see.ensures))
