use Rattle.std.proofs.Common.{◌≡◌, ◌+◌, ◌*◌, take, vec_len}
use Rattle.templates.proofs.FreshImages.{image_front}
use Rattle.templates.proofs.format.fresh_image.Given as goal

abbrev pub invariant-loop-template : goal.invariant-loop-template
invariant-loop-template l = record {
  items : l.image.items ≡ image_front l.blocks l.templates (take l.template-index l.templates);
  len : vec_len l.image ≡ 512 * (1 + l.template-index);
}
