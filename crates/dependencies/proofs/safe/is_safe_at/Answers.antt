use Rattle.std.proofs.Common.{◌∙◌, ap, sym}
use Rattle.std.specs.Option.{option_copied}
use Rattle.dependencies.proofs.Types.{safe_if_met}
use Rattle.dependencies.proofs.safe.is_safe_at.Goals as goal

pub returns-in-Some : goal.returns-in-Some
returns-in-Some c =
    c.is_claim_safe.ensures ∙ safe_if_met c.args.cache.now c.args.block c.args.place c.in-Some.claim.now c.requires.typed (sym (ap option_copied c.in-Some.is) ∙ c.requires.claim)
