use Rattle.std.proofs.Common.{◌≡◌, ◌+◌, ◌*◌, ◌++◌, ◌∙◌, sym, ap, take, length, vec_len, arith}
use Rattle.std.proofs.lemmas.List.{append-nil, take_all}
use Rattle.templates.proofs.FreshImages.{image_front, image_front-more, image_filled}
use Rattle.templates.proofs.WordsWritten.{length-template_bytes}
use Rattle.templates.proofs.format.fresh_image.Goals as goal

pub loop-template-init : goal.loop-template-init
loop-template-init c = record { items = c.in_ok-write_root.ensures.items ∙ sym (append-nil _); len = c.in_ok-write_root.ensures.len }

pub loop-template-preserved : goal.loop-template-preserved
loop-template-preserved c =
    record {
      items = c.in_ok-extend_from_slice.ensures.items ∙ ((λ j. c.loop-template.invariant.items j ++ c.write_block.ensures.bytes j)
          ∙ image_front-more c.args.blocks c.args.templates.now c.loop-template.template-index c.template-item.result c.loop-template-test.true c.template-item.is);
      len = (let long = ap length c.write_block.ensures.bytes ∙ length-template_bytes c.template-item.result c.write_block.ensures.template in let more = c.in_ok-extend_from_slice.ensures.len in omega arith);
    }

pub returns : goal.returns
returns c =
    let all : c.loop-template.template-index ≡ length c.args.templates.now = omega arith in
    let len = c.loop-template.invariant.len in
    let whole : vec_len c.loop-template.image ≡ 512 * (1 + length c.args.templates.now) = omega arith in
    c.in_ok-resize.ensures.items
    ∙ image_filled c.args.blocks c.args.templates.now c.loop-template.image.items (vec_len c.loop-template.image) c.requires.least c.requires.few
    (c.loop-template.invariant.items ∙ ap (image_front c.args.blocks c.args.templates.now) (ap (λ n. take n c.args.templates.now) all ∙ take_all (length c.args.templates.now) c.args.templates.now (omega arith)))
    c.loop-template.image.ok.0 whole
