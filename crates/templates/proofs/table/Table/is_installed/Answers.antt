use Rattle.std.proofs.Common.{◌≡◌, ◌∙◌, ap, refl, Bor, Option, Some, None}
use Rattle.std.specs.Prelude.{is_some}
use Rattle.std.specs.Option.{option_copied}
use Rattle.templates.specs.Tables.{table_types}
use Rattle.templates.proofs.table.Table.is_installed.Goals as goal

same_variant : {X : Type 0} (o : Option (Bor X)) → is_some o ≡ is_some (option_copied o)
same_variant None = refl
same_variant (Some x) = refl

pub returns : goal.returns
unfolding table_types
returns c = c.is_some.ensures ∙ (same_variant c.get.result ∙ ap is_some c.get.ensures.value)
