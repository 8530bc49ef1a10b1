-- How the text of owners is read.
--     IsPartTold       a number, or nothing where there is no text; or the text is neither
--     owners_with      a user, a group, or both
--     IsOwnersTold     the owners that a text tells: a user before the first colon and a group behind it, each of which may be left out, but not both
use Rattle.std.specs.Prelude.{◌≡◌, ℕ, ◌==◌, ◌<◌, List, Option, None, Some, length}
use Rattle.std.specs.List.{before_first, after_first}
use Rattle.std.specs.Str.Parse.{digits_value}
use Rattle.tree_changes.specs.Numbers.{IsNumber}
use Rattle.tree_changes.specs.declared.owners.Owners.{Owners}

abbrev pub IsPartTold : List ℕ → Option (Option ℕ) → Type 0
IsPartTold text None = (0 < length text) × ¬ IsNumber 10 text
IsPartTold text (Some None) = length text ≡ 0
IsPartTold text (Some (Some number)) = IsNumber 10 text × (number ≡ digits_value 10 text)

abbrev pub owners_with : Option (Option ℕ) → Option (Option ℕ) → Option Owners
owners_with None group = None
owners_with (Some user) None = None
owners_with (Some None) (Some None) = None
owners_with (Some (Some uid)) (Some group) = Some (record { uid = Some uid; gid = group })
owners_with (Some None) (Some (Some gid)) = Some (record { uid = None; gid = Some gid })

abbrev pub IsOwnersTold : List ℕ → Option Owners → Type 0
IsOwnersTold text owners = (user : Option (Option ℕ)) × (group : Option (Option ℕ)) × IsPartTold (before_first (λ byte. byte == 58) text) user
    × IsPartTold (after_first (λ byte. byte == 58) text) group × (owners ≡ owners_with user group)
