use Rattle.std.proofs.Common.{◌≡◌, ◌∙◌, Bool, true, false, sym, refl}
use Rattle.std.specs.Prelude.{not}
use Rattle.std.proofs.lemmas.Bool.{false≢true}
use Rattle.dependencies.proofs.OldestEntries.{past_home}
use Rattle.dependencies.proofs.oldest.is_past.Goals as goal

fails : (t : Bool) → not t ≡ true → t ≡ false
fails true e = absurd (false≢true e)
fails false e = refl

pub returns-in-Some-clause-past : goal.returns-in-Some-clause-past
returns-in-Some-clause-past c past =
    past_home c.args.cache.now c.args.homes.now c.args.fs.number c.args.number c.in-Some.block c.requires (sym c.in-Some.ensures) (sym c.is_pending_in.ensures ∙ fails c.is_pending_in.result past)
