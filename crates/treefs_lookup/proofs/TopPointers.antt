-- The pointer of an inode with which a path begins.
use Rattle.std.proofs.Common.{◌≡◌, ℕ, zero, suc, ◌+◌, ◌*◌, ◌-◌, ◌/◌, ◌<◌, ◌≤◌, ◌≢◌, Bool, List, [], ◌∷◌, ◌++◌, length, take, refl, sym, ◌∙◌, ap, arith, ne_eqb, if◌then◌else◌}
use Rattle.std.specs.Prelude.{map}
use Rattle.std.proofs.Math.Seq.{take-append_seam}
use Rattle.std.proofs.lemmas.Bool.{lt-ltb}
use Rattle.std.proofs.lemmas.List.{length-map}
use Rattle.treefs_format.specs.Paths.{first_leaf, height_of, leaf_count, leaf_offset, node_offset, place_in_tree, places, steps, tree_offset, tree_steps}
use Rattle.treefs_model.specs.Reading.{block_at, leaf_block, pointed}
use Rattle.treefs_lookup.specs.Walks.{further, reach, reached, stepped}
use Rattle.treefs_lookup.specs.declared.paths.Reach.{Reach}
use Rattle.treefs_lookup.proofs.Trees.{in_tree, steps_tree}

-- that to a leaf of the inode itself
pub own_steps : (leaf : ℕ) → leaf < 16 → steps leaf ≡ leaf_offset leaf ∷ []
own_steps leaf lt = ap (λ (t : Bool). if t then leaf_offset leaf ∷ [] else tree_steps (height_of leaf) (place_in_tree leaf)) (lt-ltb leaf 16 lt)

pub own_block : (content : ℕ → List ℕ) (inode leaf block : ℕ) → leaf < 16 → block ≡ pointed content inode (48 + 4 * leaf) → block ≡ leaf_block content inode leaf
own_block content inode leaf block lt is = is ∙ sym (ap (block_at content inode) (own_steps leaf lt))

length_places : (h r : ℕ) → length (places h r) ≡ h
length_places zero r = refl
length_places (suc h) r = ap suc (length_places h (r / 127))

-- that to a tree, with the offsets in its nodes
pub record IsInTree (leaf : ℕ) (nodes : List ℕ) : Type 0 where
  pub low : 1 ≤ height_of leaf
  pub high : height_of leaf ≤ 4
  pub long : length nodes ≡ height_of leaf
  pub whole : steps leaf ≡ nodes ++ tree_offset (height_of leaf) ∷ []

pub in_its_tree : (leaf : ℕ) → 16 ≤ leaf → leaf < leaf_count → (nodes : List ℕ) × IsInTree leaf nodes
in_its_tree leaf low lt =
    let (h, is) = in_tree leaf low lt in
    let nodes = map node_offset (places h (leaf - first_leaf h)) in
    let long : length nodes ≡ h = length-map (places h (leaf - first_leaf h)) node_offset ∙ length_places h (leaf - first_leaf h) in (
      nodes,
      record {
        low = omega (arith, is.height, is.low);
        high = omega (arith, is.height, is.high);
        long = long ∙ sym is.height;
        whole = steps_tree leaf h is ∙ ap (λ n. nodes ++ tree_offset n ∷ []) (sym is.height);
      },
    )

-- how far such a path leads from the inode: nowhere, where the tree is missing, else from its root on
module _ (content : ℕ → List ℕ) (inode first : ℕ) where
  tree_missing : (nodes : List ℕ) → pointed content inode first ≡ 0 → reach content inode (nodes ++ first ∷ []) ≡ reached inode (length nodes + 1)
  tree_missing [] none = ap (stepped inode) none
  tree_missing (o ∷ nodes) none =
      let e : length nodes + 1 + 1 ≡ suc (length nodes) + 1 = omega arith in
      ap (further content o) (tree_missing nodes none)
      ∙ (ap (λ (t : Bool). if t then stepped inode (pointed content inode o) else reached inode (length nodes + 1 + 1)) (ne_eqb (length nodes + 1) 0 (omega arith)) ∙ ap (reached inode) e)

  tree_there : (nodes : List ℕ) (root : ℕ) → root ≡ pointed content inode first → root ≢ 0 → reach content inode (nodes ++ first ∷ []) ≡ reach content root nodes
  tree_there [] root is some = ap (stepped inode) (sym is) ∙ ap (λ (t : Bool). if t then reached inode 1 else reached root 0) (ne_eqb root 0 some)
  tree_there (o ∷ nodes) root is some = ap (further content o) (tree_there nodes root is some)

module _ (content : ℕ → List ℕ) (inode leaf height root : ℕ) (low : 16 ≤ leaf) (lt : leaf < leaf_count) (tall : height ≡ height_of leaf) (is : root ≡ pointed content inode (108 + 4 * height)) where
  pub no_tree : root ≡ 0 → reached inode (height + 1) ≡ reach content inode (steps leaf)
  no_tree none =
      let (nodes, there) = in_its_tree leaf low lt in
      let long : height ≡ length nodes = tall ∙ sym there.long in
      ap (λ n. reached inode (n + 1)) long
      ∙ sym (ap (reach content inode) there.whole ∙ tree_missing content inode (tree_offset (height_of leaf)) nodes (ap (λ n. pointed content inode (tree_offset n)) (sym tall) ∙ (sym is ∙ none)))

  pub in_tree_on : (items offsets : List ℕ) (r : Reach) → root ≢ 0 → items ≡ steps leaf → offsets ≡ items → r ≡ reach content root (take height offsets) →
      r ≡ reach content inode (steps leaf)
  in_tree_on items offsets r some path same so =
      let (nodes, there) = in_its_tree leaf low lt in
      let long : height ≡ length nodes = tall ∙ sym there.long in
      so ∙ (ap (λ l. reach content root (take height l)) (same ∙ (path ∙ there.whole))
      ∙ (ap (reach content root) (ap (λ n. take n (nodes ++ tree_offset (height_of leaf) ∷ [])) long ∙ take-append_seam nodes (tree_offset (height_of leaf) ∷ []))
      ∙ sym (ap (reach content inode) there.whole ∙ tree_there content inode (tree_offset (height_of leaf)) nodes root (is ∙ ap (λ n. pointed content inode (tree_offset n)) tall) some)))
