use Rattle.std.proofs.Common.{◌+◌, ◌*◌, ◌-◌, arith, ap, ◌∙◌}
use Rattle.treefs_format.specs.Paths.{first_leaf}
use Rattle.treefs_lookup.proofs.Trees.{above_more, height_few, is_computed, leaves_few, leaves_more}
use Rattle.treefs_lookup.proofs.leaves.leaf_behind.Goals as goal

pub overflow_mul-leaves : goal.overflow_mul-leaves
overflow_mul-leaves c =
    let high = height_few c.args.leaf c.requires.there in
    let few = leaves_few (c.loop-level._level + 1) (4 - (c.loop-level._level + 1)) (omega arith) in
    let more = leaves_more c.loop-level._level in
    let leaves = c.loop-level.invariant.leaves in
    omega arith

pub loop-level-preserved : goal.loop-level-preserved
loop-level-preserved c = record {
  place = above_more c.args.levels c.loop-level._level c.loop-level.place c.loop-level-test.true ∙ c.loop-level.invariant.place;
  leaves = ap (λ n. n * 127) c.loop-level.invariant.leaves ∙ leaves_more c.loop-level._level;
}

pub overflow_add-result : goal.overflow_add-result
overflow_add-result c =
    let is = is_computed c.args.leaf c.args.levels c.loop-level._level c.loop-level.place c.loop-level.leaves c.first_leaf-first.result c.requires.there c.requires.few c.loop-level-test.false c.loop-level.invariant.place c.loop-level.auto._level-end c.loop-level.invariant.leaves (c.first_leaf-first.ensures ∙ ap first_leaf c.height.ensures) in
    omega (arith, is.less, is.few, c.requires.there)

pub overflow_mul-result : goal.overflow_mul-result
overflow_mul-result c =
    let is = is_computed c.args.leaf c.args.levels c.loop-level._level c.loop-level.place c.loop-level.leaves c.first_leaf-first.result c.requires.there c.requires.few c.loop-level-test.false c.loop-level.invariant.place c.loop-level.auto._level-end c.loop-level.invariant.leaves (c.first_leaf-first.ensures ∙ ap first_leaf c.height.ensures) in
    omega (arith, is.is, is.few)

pub overflow_add-result-2 : goal.overflow_add-result-2
overflow_add-result-2 c =
    let is = is_computed c.args.leaf c.args.levels c.loop-level._level c.loop-level.place c.loop-level.leaves c.first_leaf-first.result c.requires.there c.requires.few c.loop-level-test.false c.loop-level.invariant.place c.loop-level.auto._level-end c.loop-level.invariant.leaves (c.first_leaf-first.ensures ∙ ap first_leaf c.height.ensures) in
    omega (arith, is.is, is.few)
