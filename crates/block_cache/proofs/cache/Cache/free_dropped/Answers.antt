use Rattle.std.proofs.Common.{◌∙◌, ap, sym, arith, slice_get}
use Rattle.std.proofs.lemmas.List.{take_all}
use Rattle.xn_model.specs.Lives.{Lives, life_at, freed}
use Rattle.block_cache.specs.Views.{drops_at, ended}
use Rattle.block_cache.proofs.Freed.{are_other, drops_kept, freed_more}
use Rattle.block_cache.proofs.cache.Cache.free_dropped.Goals as goal

pub loop-index-preserved : goal.loop-index-preserved
loop-index-preserved c =
    let lives = c.args.self.now in
    let drops = drops_at c.args.place (life_at lives c.args.block) in
    let same = ap (λ (ls : Lives). drops_at c.args.place (life_at ls c.args.block)) c.loop-index.invariant
    ∙ drops_kept lives c.args.block c.args.place c.loop-index.index drops (are_other c.args.block drops c.requires) in
    let dropped = c.dropped-dropped.ensures ∙ ap (λ ds. slice_get ds c.loop-index.index) same in
    c.end_if.ensures
    ∙ ((λ i. ended (c.loop-index.invariant i) (dropped i))
    ∙ sym (freed_more lives drops c.loop-index.index (omega (arith, c.loop-index-test.true, c.drop_count-count.ensures.count))))

pub returns-clause-lives : goal.returns-clause-lives
returns-clause-lives c =
    let lives = c.args.self.now in
    let drops = drops_at c.args.place (life_at lives c.args.block) in
    c.loop-index.invariant ∙ ap (freed lives) (take_all c.loop-index.index drops (omega (arith, c.loop-index-test.false, c.drop_count-count.ensures.count)))
