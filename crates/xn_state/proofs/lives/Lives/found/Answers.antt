use Rattle.std.proofs.Common.{◌≡◌, ◌∙◌, ℕ, List, ap, sym, subst, length, map, replicate, slice_set, take, None, Some, arith}
use Rattle.std.specs.Prelude.{is_none}
use Rattle.std.specs.List.{range_with_len}
use Rattle.block_cache.specs.Views.{rest_at}
use Rattle.std.proofs.lemmas.List.{length-replicate, length-set, take_all}
use Rattle.xn_model.specs.Images.{blocks_in}
use Rattle.xn_model.specs.Lives.{Lives}
use Rattle.claims.specs.Owned.{AreOwnedCounts}
use Rattle.dependencies.proofs.ForCallers.{marks}
use Rattle.xn_state.specs.Mounts.{found_of}
use Rattle.xn_state.proofs.Finding.{all_found, all_marked, all_put, found_clean, found_more, found_uncounted, marks_more, no_marks, put_found}
use Rattle.xn_state.proofs.lives.Lives.found.Goals as goal

pub loop-block-init : goal.loop-block-init
loop-block-init c =
    let count = length c.as_chunks.result.0.now in
    let none = c.in_ok-places.ensures in
    (none, c.in_ok-free.ensures ∙ (no_marks count ∙ ap (map is_none) (sym none)), ap length none ∙ length-replicate count None)

pub loop-block-preserved : goal.loop-block-preserved
loop-block-preserved c =
    let start = replicate (length c.as_chunks.result.0.now) None in
    let places = c.loop-block.places in
    let f = c.block-item.result in
    let put = c.set.ensures ∙ ap (λ life. slice_set places f.block (Some life)) c.found_life.ensures in (
      put ∙ (ap (λ ps. put_found ps f) c.loop-block.invariant.0 ∙ found_more start c.args.found.now c.loop-block.block-index f c.loop-block-test.true c.block-item.is),
      c.take.ensures ∙ (marks_more c.loop-block.free places f.block c.found_life.result c.loop-block.invariant.1 ∙ ap (map is_none) (sym c.set.ensures)),
      ap length c.set.ensures ∙ (length-set places f.block (Some c.found_life.result) ∙ c.loop-block.invariant.2),
    )

pub found-requires : goal.found-requires
found-requires c = omega (arith, c.loop-block.invariant.2, ap (λ (blocks : List (List ℕ)). length blocks) c.as_chunks.ensures.front, c.requires.few)

pub found-requires-2-clause-within : goal.found-requires-2-clause-within
found-requires-2-clause-within c = omega (arith, c.loop-block.invariant.2)

pub found-requires-2-clause-few : goal.found-requires-2-clause-few
found-requires-2-clause-few c = omega (arith, c.loop-block.invariant.2, ap (λ (blocks : List (List ℕ)). length blocks) c.as_chunks.ensures.front, c.requires.few)

-- the lives are those of the blocks that are found
all_are : goal.returns
all_are c =
    let image = c.args.image.now in
    let found = c.args.found.now in
    let places = c.loop-block.places in
    let whole : take c.loop-block.block-index found ≡ found = take_all c.loop-block.block-index found (omega arith) in
    let put = c.loop-block.invariant.0 ∙ (λ i. all_put (replicate (length (c.as_chunks.ensures.front i)) None) (whole i)) in
    c.in_ok-cache.ensures ∙ ((λ i. map (rest_at places (c.as_chunks.ensures.front i)) (range_with_len 0 (length places))) ∙ all_found image found places c.requires.once put)

pub invariant_of-result : goal.invariant_of-result
invariant_of-result c =
    let count = length c.as_chunks.result.0.now in
    let are = all_are c in
    let places = c.loop-block.places in
    let free = c.loop-block.invariant.1 ∙ (all_marked c.as_chunks.result.0.now places ∙ ap (λ (ls : Lives). marks ls) (sym c.in_ok-cache.ensures)) in
    let blocks = blocks_in c.args.image.now in
    let found = map found_of c.args.found.now in (
      subst (λ (ls : Lives). AreOwnedCounts c.in_ok-owned.owned ls) (sym c.in_ok-cache.ensures) (c.in_ok-owned.ensures c.as_chunks.result.0.now),
      c.in_ok-index.ensures c.in_ok-cache.cache free (found_clean blocks found c.in_ok-cache.cache count are (ap length c.as_chunks.ensures.front)) (found_uncounted blocks found c.in_ok-cache.cache are),
    )

pub returns : goal.returns
returns c = all_are c
