use Rattle.std.proofs.Common.{◌≡◌, ◌≤◌, ◌<◌, ◌-◌, ◌+◌, ◌++◌, ℕ, List, length, ap, arith, sym, ◌∙◌}
use Rattle.std.specs.Prelude.{All}
use Rattle.std.proofs.lemmas.List.{length-append, length-replicate}
use Rattle.std.proofs.lemmas.List.Elements.{All-append, All-from_get_or, All-replicate}
use Rattle.std.proofs.lemmas.Slice.Eq.{bytes_eq-Decides}
use Rattle.xn_model.specs.BareDisks.{zeros}
use Rattle.templates.specs.Reading.{template_of_bytes}
use Rattle.treefs_format.proofs.types.is_spelled.Goals as goal

whole : (start : List ℕ) → length start ≤ 512 → length (start ++ zeros (512 - length start)) ≡ 512
whole start short =
    let both : length (start ++ zeros (512 - length start)) ≡ length start + length (zeros (512 - length start)) = length-append start (zeros (512 - length start)) in
    let rest : length (zeros (512 - length start)) ≡ 512 - length start = length-replicate (512 - length start) 0 in
    omega arith

pub returns : goal.returns
returns c =
    let start = c.args.start.now in
    let block = start ++ zeros (512 - length start) in
    let equal = bytes_eq-Decides c.write_block.result c.block_of.result in
    let in_range : All (λ byte. byte < 256) block =
    All-append (λ byte. byte < 256) start (zeros (512 - length start)) (All-from_get_or (λ byte. byte < 256) start 0 (λ i h. let fits = c.type_inv.start i in omega arith))
    (All-replicate (λ byte. byte < 256) (512 - length start) 0 (omega arith)) in (
      λ same. ap template_of_bytes (sym (sym c.write_block.ensures.bytes ∙ equal.0 (sym c.eq.ensures ∙ same) ∙ c.block_of.ensures))
          ∙ c.templates_are_read.ensures c.args.template.now c.write_block.ensures.template,
      λ spelled.
          let read = c.blocks_are_templates.ensures block c.args.template.now (whole start c.requires) in_range spelled in
          c.eq.ensures ∙ equal.1 (c.write_block.ensures.bytes ∙ sym (read.0) ∙ sym c.block_of.ensures),
    )
