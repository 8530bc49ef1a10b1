-- Where the pointer to a leaf of an inode stands: the offsets of the pointers that lead to it, the last one first.
--     steps i           those of leaf i
--     height_of i       0 for a leaf that the inode points to itself, else the height of its tree, 1 to 4
--     first_leaf h      the first leaf of the tree of height h
--     last_beside i     the last leaf whose pointer stands in the same block
--     IsPath offsets    they lead to some leaf
use Rattle.std.specs.Prelude.{◌≡◌, ◌⊎◌, ℕ, zero, suc, ◌+◌, ◌-◌, ◌*◌, ◌/◌, ◌%◌, ◌<◌, ◌≤◌, nat_lt, List, [], ◌∷◌, ◌++◌, length, map, if◌then◌else◌, All}

-- how many leaves an inode may have
abbrev pub leaf_count : ℕ
leaf_count = 262209296

-- of the tree of height 0, the 16 leaves that the inode points to itself, leaf 0
abbrev pub first_leaf : ℕ → ℕ
first_leaf zero = 0
first_leaf (suc zero) = 16
first_leaf (suc (suc zero)) = 143
first_leaf (suc (suc (suc zero))) = 16272
first_leaf (suc (suc (suc (suc h)))) = 2064655

abbrev pub height_of : ℕ → ℕ
height_of i = if nat_lt i 16 then 0 else if nat_lt i 143 then 1 else if nat_lt i 16272 then 2 else if nat_lt i 2064655 then 3 else 4

-- the place of a leaf in its tree
abbrev pub place_in_tree : ℕ → ℕ
place_in_tree i = i - first_leaf (height_of i)

-- the places in h nodes that lead to the leaf at place r of a tree of height h, the lowest node first
abbrev pub places : ℕ → ℕ → List ℕ
places zero r = []
places (suc h) r = (r % 127) ∷ places h (r / 127)

-- where the pointer at a place of a node stands, that at a place below 16 of an inode, and that to the tree of height h, 1 to 4
abbrev pub node_offset : ℕ → ℕ
node_offset place = 4 + 4 * place

abbrev pub leaf_offset : ℕ → ℕ
leaf_offset i = 48 + 4 * i

abbrev pub tree_offset : ℕ → ℕ
tree_offset h = 108 + 4 * h

abbrev pub tree_steps : ℕ → ℕ → List ℕ
tree_steps h r = map node_offset (places h r) ++ tree_offset h ∷ []

abbrev pub steps : ℕ → List ℕ
steps i = if nat_lt i 16 then leaf_offset i ∷ [] else tree_steps (height_of i) (place_in_tree i)

abbrev pub last_beside : ℕ → ℕ
last_beside i = if nat_lt i 16 then 15 else i + (126 - place_in_tree i % 127)

-- a tree of height 1 to 4, and a place in each of so many nodes
pub record IsTreePath (offsets : List ℕ) (h : ℕ) (js : List ℕ) : Type 0 where
  pub low : 1 ≤ h
  pub high : h ≤ 4
  pub long : length js ≡ h
  pub within : All (λ j. j < 127) js
  pub whole : offsets ≡ map node_offset js ++ tree_offset h ∷ []

abbrev pub IsPath : List ℕ → Type 0
IsPath offsets =
    ((i : ℕ) × (i < 16) × (offsets ≡ leaf_offset i ∷ []))
    ⊎ ((h : ℕ) × (js : List ℕ) × IsTreePath offsets h js)
