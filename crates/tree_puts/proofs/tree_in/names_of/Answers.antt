use Rattle.std.proofs.Common.{refl}
use Rattle.tree_puts.proofs.tree_in.names_of.Goals as goal

pub returns-clause-does : goal.returns-clause-does
returns-clause-does g c =
    (_, (((refl, refl), refl, refl, (refl, refl)), c.in_ok-tell_if.ensures), (((refl, refl), refl, refl, (refl, refl)), c.in_ok-tell_if-2.ensures))
