use Rattle.std.proofs.Common.{◌≡◌, ◌++◌, ◌∙◌, sym, ap, vec_len, arith}
use Rattle.templates.proofs.FreshImages.{root_front, root_front-more, root_filled}
use Rattle.templates.proofs.format.write_root.Goals as goal

pub loop-i-preserved : goal.loop-i-preserved
loop-i-preserved c =
    c.in_ok-extend_from_slice-3.ensures.items
    ∙ ((λ j. c.loop-i.invariant j ++ c.number_bytes-in-loop-i.ensures j) ∙ sym (root_front-more c.args.blocks c.loop-i.i))

pub returns-clause-items : goal.returns-clause-items
returns-clause-items c =
    let all : c.loop-i.i ≡ c.args.count = omega arith in
    c.in_ok-resize.ensures.items ∙ root_filled c.args.blocks c.args.count c.loop-i.image.items (vec_len c.loop-i.image) c.requires.few
    (c.loop-i.invariant ∙ ap (root_front c.args.blocks) all) c.loop-i.image.ok.0
