-- Names at the ends of paths of the system.
--     without_slashes     a path without the slashes at its end
--     last_part           what stands behind the last slash, or all where there is none
--     own_name            the last name of a path, without slashes at its end; nothing where that is `.` or `..`
use Rattle.std.specs.Prelude.{ℕ, ◌-◌, ◌==◌, ◌||◌, Bool, List, [], ◌∷◌, length, take, if◌then◌else◌}
use Rattle.std.specs.List.{after_last, suffix_len}
use Rattle.std.specs.Str.{bytes_eq}

-- 47 is a slash
abbrev pub is_slash : ℕ → Bool
is_slash byte = byte == 47

abbrev pub without_slashes : List ℕ → List ℕ
without_slashes path = take (length path - suffix_len is_slash path) path

abbrev pub last_part : List ℕ → List ℕ
last_part path = after_last is_slash path

-- 46 is a dot
abbrev pub is_dots : List ℕ → Bool
is_dots name = bytes_eq name (46 ∷ []) || bytes_eq name (46 ∷ 46 ∷ [])

abbrev pub name_unless_dots : List ℕ → List ℕ
name_unless_dots name = if is_dots name then [] else name

unfoldable pub own_name : List ℕ → List ℕ
own_name source = name_unless_dots (last_part (without_slashes source))
