use Rattle.std.proofs.Common.{◌∙◌, ap, sym, arith}
use Rattle.std.specs.Prelude.{not, ◌==◌}
use Rattle.block_cache.proofs.Named.{pointer_bytes}
use Rattle.block_cache.proofs.named_places.names_template.Goals as goal

pub returns : goal.returns
returns c = ap (λ n. not (n == 0)) (c.from_le_bytes.ensures ∙ sym (pointer_bytes c.args.root.now c.args.place (omega (arith, c.requires, c.told-root))))
