-- How the text of a mode is read, as POSIX has it for `chmod`.
--     mask_named         the bits of those whom a letter names
--     doing_named        what a sign stands for
--     bits_named         the bits of a right
--     rights_behind      the bits of the rights that some letters name, and whether `X` is among them
--     clause_with        a clause of what it does, of whom it is about, and of rights
--     clause_behind      a clause, behind letters of whom it is about
--     clauses_told       clauses of some texts
--     mode_parts         the parts of a text that commas cut
--     parts_in           the same, of a text that there may be
--     IsOctal            a text is a number of octal digits, less than 0o10000
--     IsModeTold         the mode that a text tells: that number, or the clauses of its parts; or it tells none
use Rattle.std.specs.Prelude.{◌≡◌, ◌⊎◌, ℕ, ◌==◌, ◌<◌, bit_or, if◌then◌else◌, Bool, false, true, List, [], ◌∷◌, Option, None, Some}
use Rattle.std.specs.Prelude.{is_some, option_and_then, option_map, unwrap_or}
use Rattle.std.specs.List.{slice_split}
use Rattle.std.specs.Str.Parse.{digits_value}
use Rattle.tree_changes.specs.Numbers.{IsNumber}
use Rattle.tree_changes.specs.declared.modes.Clause.{Clause}
use Rattle.tree_changes.specs.declared.modes.Doing.{Doing}
use Rattle.tree_changes.specs.declared.modes.Doing.TheVariants.{Add, Set, Take}
use Rattle.tree_changes.specs.declared.modes.Modes.{Modes}

abbrev pub mask_named : ℕ → Option ℕ
mask_named letter =
    if letter == 117 then Some 2496 else if letter == 103 then Some 1080 else if letter == 111 then Some 519 else if letter == 97 then Some 4095 else None

abbrev pub doing_named : ℕ → Option Doing
doing_named sign = if sign == 43 then Some Add else if sign == 45 then Some Take else if sign == 61 then Some Set else None

abbrev pub bits_named : ℕ → Option ℕ
bits_named letter =
    if letter == 114 then Some 292 else if letter == 119 then Some 146 else if letter == 120 then Some 73 else if letter == 115 then Some 3072
    else if letter == 116 then Some 512 else None

-- bits, large: those of the letters before
abbrev pub rights_behind : ℕ → Bool → List ℕ → Option (ℕ × Bool)
rights_behind bits large [] = Some (bits, large)
rights_behind bits large (letter ∷ letters) =
    if letter == 88 then rights_behind bits true letters
    else option_and_then (λ more. rights_behind (bit_or bits more) large letters) (bits_named letter)

abbrev pub clause_with : Doing → ℕ → ℕ × Bool → Clause
clause_with doing mask rights = record { doing = doing; mask = mask; bits = rights.0; is_large = rights.1 }

-- mask: the bits of those whom the letters before name; of all where there are none
abbrev pub clause_behind : Option ℕ → List ℕ → Option Clause
clause_behind mask [] = None
clause_behind mask (letter ∷ letters) = if is_some (doing_named letter)
    then option_and_then (λ doing. option_map (clause_with doing (unwrap_or mask 4095)) (rights_behind 0 false letters)) (doing_named letter)
    else option_and_then (λ more. clause_behind (Some (bit_or (unwrap_or mask 0) more)) letters) (mask_named letter)

abbrev pub clauses_told : List (List ℕ) → Option (List Clause)
clauses_told [] = Some []
clauses_told (part ∷ parts) =
    option_and_then (λ clause. option_map (λ clauses. clause ∷ clauses) (clauses_told parts)) (clause_behind None part)

-- the parts of a text that commas cut
abbrev pub mode_parts : List ℕ → List (List ℕ)
mode_parts text = slice_split (λ byte. byte == 44) text

abbrev pub parts_in : Option (List ℕ) → List (List ℕ)
parts_in None = []
parts_in (Some text) = mode_parts text

-- octal digits, with any zeros before them
abbrev pub IsOctal : List ℕ → Type 0
IsOctal text = IsNumber 8 text × (digits_value 8 text < 4096)

abbrev pub IsModeTold : List ℕ → Option Modes → Type 0
IsModeTold text None = (¬ IsOctal text) × (clauses_told (mode_parts text) ≡ None)
IsModeTold text (Some modes) = (IsOctal text × (modes.octal ≡ Some (digits_value 8 text)))
    ⊎ ((¬ IsOctal text) × (modes.octal ≡ None) × (clauses_told (mode_parts text) ≡ Some modes.clauses.items))
