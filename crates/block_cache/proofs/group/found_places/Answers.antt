use Rattle.std.proofs.Common.{◌∙◌, ◌≡◌, ◌≤◌, map, ap, sym, subst, ◌++◌, ◌∷◌, ◌+◌, [], arith}
use Rattle.std.specs.List.{range_with_len}
use Rattle.std.proofs.lemmas.List.FromFn.{map-range_with_len_more}
use Rattle.block_cache.specs.Kept.{resting_at}
use Rattle.block_cache.proofs.group.found_places.Goals as goal

pub loop-at-preserved : goal.loop-at-preserved
loop-at-preserved c =
    let before = c.loop-at.invariant in
    let more = sym (map-range_with_len_more (resting_at c.args.found.now c.args.blocks.now) c.args.first c.loop-at.at (c.args.first + c.loop-at.at) (omega arith)) in (
      c.push_reserved.ensures.items ∙ ((λ i. before.0 i ++ c.found_place.ensures i ∷ []) ∙ more),
      c.push_reserved.ensures.len ∙ ap (λ n. n + 1) before.1,
      subst (λ n. 64 ≤ n) (sym c.push_reserved.ensures.capacity) before.2,
    )

pub returns : goal.returns
returns c =
    let all : c.loop-at.at ≡ 64 = omega (arith, c.loop-at-test.false) in
    c.loop-at.invariant.0 ∙ ap (λ n. map (resting_at c.args.found.now c.args.blocks.now) (range_with_len c.args.first n)) all
