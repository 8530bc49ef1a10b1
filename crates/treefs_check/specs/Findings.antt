-- What is wrong with a volume.
--     is_damage       no crash leaves it; all else a mount mends
--     if_finding      a list of one, or of none
use Rattle.std.specs.Prelude.{Bool, true, false, List, [], ◌∷◌, Option, None, Some}
pub use Rattle.treefs_check.specs.declared.finding.Finding.{Finding}
use Rattle.treefs_check.specs.declared.finding.Finding.TheVariants as finding

abbrev pub is_damage : Finding → Bool
is_damage finding.NoTop = true
is_damage (finding.NoInode name) = true
is_damage (finding.Surplus name) = false
is_damage (finding.NotFound name) = true
is_damage (finding.FewLinks n) = true
is_damage (finding.ManyLinks n) = false
is_damage (finding.Parent n) = false
is_damage (finding.TooLong n) = true
is_damage (finding.PastSize n) = false

abbrev pub if_finding : Option Finding → List Finding
if_finding None = []
if_finding (Some f) = f ∷ []
