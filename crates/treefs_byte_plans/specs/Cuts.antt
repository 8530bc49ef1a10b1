-- Which pointers of a tree of an inode are dropped next, where so many leaves of it are kept: those of the lowest nodes first, from the first leaf on.
--     Cut                    a node, and the place of the first pointer that goes
--     own_cut                the pointers of a node from a place on, if there are any
--     cut_in                 of a tree of some height: below each child from the place on in which the kept leaves end, and then in the node itself
--     next_cut               of the trees of an inode that keeps so many leaves, the highest one first
use Rattle.std.specs.Prelude.{ℕ, zero, suc, ◌+◌, ◌-◌, ◌/◌, ◌%◌, ◌^◌, ◌==◌, Bool, not, List, [], ◌∷◌, Option, None, Some, if◌then◌else◌}
use Rattle.std.specs.List.{list_any, range_with_len}
use Rattle.std.specs.Option.{option_or}
use Rattle.treefs_format.specs.Paths.{first_leaf, node_offset, tree_offset}
use Rattle.treefs_lookup.specs.Names.{first_some}
use Rattle.treefs_model.specs.Reading.{pointed}
use Rattle.treefs_byte_plans.specs.declared.cuts.Cut.{Cut}

abbrev pub is_pointed : (ℕ → List ℕ) → ℕ → ℕ → Bool
is_pointed content block place = not (pointed content block (node_offset place) == 0)

abbrev pub own_cut : (ℕ → List ℕ) → ℕ → ℕ → Option Cut
own_cut content block place =
    if list_any (is_pointed content block) (range_with_len place (127 - place)) then Some (record { block = block; place = place }) else None

abbrev pub cut_place : ℕ → ℕ → ℕ
cut_place keep span = if keep % span == 0 then keep / span else keep / span + 1

-- of the child at a place, if it is there: of the one in which the kept leaves end the rest of them is kept, of others none
abbrev pub kept_below : ℕ → ℕ → ℕ → ℕ
kept_below keep span place = if place == keep / span then keep % span else 0

abbrev pub unless_missing : (ℕ → Option Cut) → ℕ → Option Cut
unless_missing cut child = if child == 0 then None else cut child

abbrev pub cut_in : (ℕ → List ℕ) → ℕ → ℕ → ℕ → Option Cut
cut_in content zero block keep = None
cut_in content (suc h) block keep = option_or
    (first_some (λ place. unless_missing (λ child. cut_in content h child (kept_below keep (127 ^ h) place)) (pointed content block (node_offset place)))
    (range_with_len (keep / 127 ^ h) (127 - keep / 127 ^ h)))
    (own_cut content block (cut_place keep (127 ^ h)))

abbrev pub tree_cut : (ℕ → List ℕ) → ℕ → ℕ → ℕ → Option Cut
tree_cut content inode keep h = unless_missing (λ tree. cut_in content h tree (keep - first_leaf h)) (pointed content inode (tree_offset h))

abbrev pub next_cut : (ℕ → List ℕ) → ℕ → ℕ → Option Cut
next_cut content inode keep = first_some (tree_cut content inode keep) (4 ∷ 3 ∷ 2 ∷ 1 ∷ [])
