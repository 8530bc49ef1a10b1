-- How many bytes patches have, and those that undo them.
use Rattle.std.proofs.Common.{◌≡◌, ℕ, zero, suc, ◌+◌, ◌<◌, ◌≤◌, true, List, [], ◌∷◌, length, take, get_or, refl, arith}
use Rattle.std.specs.Prelude.{sum_by}
use Rattle.std.specs.List.{list_all}
use Rattle.std.proofs.lemmas.Bool.{and_parts, and_from}
use Rattle.std.proofs.lemmas.Grind.{common_steps}
use Rattle.std.proofs.lemmas.List.Sums.{sum_by-take-drop}
use Rattle.xn_model.specs.Calls.{Patch, is_patch}
use Rattle.edit_list.specs.Undo.{undo_of}
use Rattle.edit_list.proofs.Undoing.{same_total}

abbrev pub bytes_in : List Patch → ℕ
bytes_in ps = sum_by (λ p. length p.bytes) ps

bytes_in_more : (ps : List Patch) (i : ℕ) (p : Patch) → i < length ps → p ≡ get_or ps i p → bytes_in (take (i + 1) ps) ≡ bytes_in (take i ps) + length p.bytes
bytes_in_more ps i p within is = grind (arith, common_steps)

bytes_in_front : (ps : List Patch) (i : ℕ) → bytes_in (take i ps) ≤ bytes_in ps
bytes_in_front ps i = omega (arith, sum_by-take-drop (λ (p : Patch). length p.bytes) ps i)

patches_in_front : (ps : List Patch) (i : ℕ) → list_all is_patch ps ≡ true → list_all is_patch (take i ps) ≡ true
patches_in_front ps zero all = refl
patches_in_front [] (suc i) all = refl
patches_in_front (p ∷ ps) (suc i) all =
    let parts = and_parts (is_patch p) (list_all is_patch ps) all in
    and_from (is_patch p) (list_all is_patch (take i ps)) parts.0 (patches_in_front ps i parts.1)

-- the pieces of the first patches, and the bytes of the next, have no more bytes than the patches
pub pieces_fit : (m : List ℕ) (ps : List Patch) (i : ℕ) (p : Patch) → length m ≡ 512 → list_all is_patch ps ≡ true → i < length ps → p ≡ get_or ps i p →
    bytes_in (undo_of m (take i ps)) + length p.bytes ≤ bytes_in ps
pieces_fit m ps i p long all within is =
    omega (arith, same_total m (take i ps) long (patches_in_front ps i all), bytes_in_more ps i p within is, bytes_in_front ps (i + 1))
