-- Different ways lead to different blocks, in a volume.
use Rattle.std.proofs.Common.{◌≡◌, ◌≢◌, ℕ, zero, suc, ◌+◌, ◌*◌, ◌-◌, ◌/◌, ◌%◌, ◌<◌, ◌≤◌, Bool, true, false, ◌&&◌, ◌||◌, List, [], ◌∷◌, length, None, refl, sym}
use Rattle.std.proofs.Common.{◌∙◌, ap, inl, inr, arith, subst, if◌then◌else◌}
use Rattle.std.specs.Prelude.{All, IsTrue, nat_lt, ◌==◌}
use Rattle.std.proofs.lemmas.Bool.{and_parts, cases_eq, eqb-true, ltb-false, ltb-true, or_cases}
use Rattle.std.proofs.lemmas.List.Elements.{All-cons, All-nil}
use Rattle.treefs_format.specs.Paths.{height_of, leaf_count, leaf_offset, place_in_tree, places, steps, tree_steps}
use Rattle.treefs_format.proofs.ForCallers.{paths_once}
use Rattle.treefs_model.specs.Reading.{block_at, files_of, inode_block, inode_of, key_in, leaf_block, pointed}
use Rattle.treefs_model.specs.Trees.{has_pointer, is_inode_offset, is_node_offset}
use Rattle.treefs_values.specs.Volumes.{IsVolume}
use Rattle.treefs_values.specs.Ways.{IsFirst, IsWay, block_numbered}
use Rattle.treefs_values.proofs.ForCallers.{counted, inode_numbered, inode_pointer, node_pointer, tree_way}
use Rattle.treefs_laws.proofs.CutWays.{InTree, in_tree}

-- The height to which a way leads

first_height : (o l m : ℕ) → IsFirst o l → IsFirst o m → l ≡ m
first_height o l m (inl a) (inl b) = a.3 ∙ sym b.3
first_height o l m (inl a) (inr b) = let lt : a.0 < 16 = a.1 in let e : o ≡ 48 + 4 * a.0 = a.2 in let f : o ≡ 108 + 4 * m = b.2 in let low = b.0 in
    absurd (omega arith)
first_height o l m (inr a) (inl b) = let lt : b.0 < 16 = b.1 in let e : o ≡ 48 + 4 * b.0 = b.2 in let f : o ≡ 108 + 4 * l = a.2 in let low = a.0 in
    absurd (omega arith)
first_height o l m (inr a) (inr b) = let e : o ≡ 108 + 4 * l = a.2 in let f : o ≡ 108 + 4 * m = b.2 in omega arith

pub one_height : (os : List ℕ) (l m : ℕ) → IsWay os l → IsWay os m → l ≡ m
one_height [] l m way way' = absurd way
one_height (o ∷ []) l m way way' = first_height o l m way way'
one_height (o ∷ p ∷ os) l m way way' = let e = one_height (p ∷ os) (suc l) (suc m) way.3 way'.3 in omega arith

-- The path to a leaf is a way

places_long : (h r : ℕ) → length (places h r) ≡ h
places_long zero r = refl
places_long (suc h) r = ap suc (places_long h (r / 127))

places_within : (h r : ℕ) → All (λ j. j < 127) (places h r)
places_within zero r = All-nil (λ j. j < 127)
places_within (suc h) r = All-cons (λ j. j < 127) (r % 127) (places h (r / 127)) (omega arith) (places_within h (r / 127))

tall : (i h : ℕ) → 16 ≤ i → InTree i h → (1 ≤ h) × (h ≤ 4)
tall i h low (inl a) = let lt = a.1 in absurd (omega arith)
tall i h low (inr (inl a)) = let e = a.0 in (omega arith, omega arith)
tall i h low (inr (inr (inl a))) = let e = a.0 in (omega arith, omega arith)
tall i h low (inr (inr (inr (inl a)))) = let e = a.0 in (omega arith, omega arith)
tall i h low (inr (inr (inr (inr a)))) = let e = a.0 in (omega arith, omega arith)

pub steps_way : (i : ℕ) → IsWay (steps i) 0
steps_way i = by (nat_lt i 16) refl
  where
    by : (t : Bool) → nat_lt i 16 ≡ t → IsWay (steps i) 0
    by true e = subst (λ t. IsWay (if t then leaf_offset i ∷ [] else tree_steps (height_of i) (place_in_tree i)) 0) (sym e)
        (inl (i, ltb-true i 16 e, refl, refl))
    by false e =
        let h : ℕ = height_of i in
        let fits = tall i h (ltb-false i 16 e) (in_tree i) in
        let long : 0 + length (places h (place_in_tree i)) ≡ h = let l = places_long h (place_in_tree i) in omega arith in
        subst (λ t. IsWay (if t then leaf_offset i ∷ [] else tree_steps h (place_in_tree i)) 0) (sym e)
        (tree_way h 0 (places h (place_in_tree i)) long fits.0 fits.1 (places_within h (place_in_tree i)))

-- what has a pointer is of one of the two types
pub of_types : (node inode t o : ℕ) → node ≢ 0 → inode ≢ 0 → IsTrue (has_pointer node inode t o) → t ≢ 0
of_types node inode t o some some' has = elim (or_cases ((t == node) && is_node_offset o) ((t == inode) && is_inode_offset o) has) [
  | inl a ↦ (λ z. some (sym (eqb-true t node (and_parts (t == node) (is_node_offset o) a).0) ∙ z))
  | inr b ↦ (λ z. some' (sym (eqb-true t inode (and_parts (t == inode) (is_inode_offset o) b).0) ∙ z))
]

-- What is read of an inode

pub file_none : (content : ℕ → List ℕ) (top n : ℕ) → inode_block content top n ≡ 0 → files_of content top n ≡ None
unfolding files_of
file_none content top n is = ap (λ x. if x == 0 then None else inode_of content (key_in content top) x) is

-- no way leads on from no block
pub none_below : (content : ℕ → List ℕ) (b k : ℕ) (os : List ℕ) → b ≡ 0 → IsWay os k → block_at content b os ≡ 0
none_below content b k [] z way = absurd way
none_below content b k (o ∷ []) z way = ap (λ c. pointed content c o) z
none_below content b k (o ∷ p ∷ os) z way = ap (λ c. pointed content c o) (none_below content b (suc k) (p ∷ os) z way.3)

-- a block of an inode, with the nodes of its tree
pub record IsInodeBlock (node inode : ℕ) (type : ℕ → ℕ) (content : ℕ → List ℕ) (a : ℕ) : Type 0 where
  pub typed : type a ≡ inode
  pub nodes : (l : ℕ) (os : List ℕ) → IsWay os (suc l) → block_at content a os ≢ 0 → type (block_at content a os) ≡ node

module _ (node inode top : ℕ) (type : ℕ → ℕ) (content : ℕ → List ℕ) (v : IsVolume node inode type content top) where
  abbrev block : ℕ → ℕ
  block n = block_numbered content top n

  abbrev Inode : ℕ → Type 0
  Inode a = IsInodeBlock node inode type content a

  abbrev at : ℕ → List ℕ → ℕ
  at a offsets = block_at content a offsets

  pub numbered_block : (n : ℕ) → block_numbered content top n ≢ 0 → IsInodeBlock node inode type content (block_numbered content top n)
  numbered_block n there = record { typed = v.typed.inodes n there; nodes = v.typed.nodes n }

  top_block : Inode top
  top_block = numbered_block 0 v.root

  -- what points to a block is one
  above : (b o : ℕ) → pointed content b o ≢ 0 → b ≢ 0
  above b o some z = some (ap (λ c. pointed content c o) z)

  -- the block of a pointer on a way
  pub way_pointer : (a : ℕ) → IsInodeBlock node inode type content a → (l o : ℕ) (q : List ℕ) → IsWay (o ∷ q) l → at a q ≢ 0 →
      IsTrue (has_pointer node inode (type (at a q)) o)
  way_pointer a is l o [] way there = inode_pointer node inode (type a) o l is.typed way
  way_pointer a is l o (p ∷ q) way there = node_pointer node inode (type (at a (p ∷ q))) o way.0 (is.nodes l (p ∷ q) way.3 there) way.1 way.2

  -- nothing points to the root block
  pub not_root : (a : ℕ) → IsInodeBlock node inode type content a → (l : ℕ) (os : List ℕ) → IsWay os l → at a os ≢ 0 → at a os ≢ top
  not_root a is l [] way some same = absurd way
  not_root a is l (o ∷ os) way some same = v.apart.root (at a os) o (way_pointer a is l o os way (above (at a os) o some)) same

  -- an inode is no node
  pub other_type : (a b : ℕ) → IsInodeBlock node inode type content a → IsInodeBlock node inode type content b → (l : ℕ) (ps : List ℕ) → IsWay ps (suc l) →
      at b ps ≢ 0 → a ≢ at b ps
  other_type a b is is' l ps way there same = v.types.0 (sym (is'.nodes l ps way there) ∙ (ap type (sym same) ∙ is.typed))

  pub same_way : (a b : ℕ) → IsInodeBlock node inode type content a → IsInodeBlock node inode type content b → (l k : ℕ) (os ps : List ℕ) → IsWay os l →
      IsWay ps k → at a os ≢ 0 →
      at a os ≡ at b ps → (a ≡ b) × (os ≡ ps)
  same_way a b is is' l k [] ps way way' some same = absurd way
  same_way a b is is' l k (o ∷ os) [] way way' some same = absurd way'
  same_way a b is is' l k (o ∷ os) (p ∷ ps) way way' some same =
      let there = above (at a os) o some in
      let there' = above (at b ps) p (λ z. some (same ∙ z)) in
      let e = v.apart.once (at a os) (at b ps) o p (way_pointer a is l o os way there) (way_pointer b is' k p ps way' there') some same in
      let rest = by os ps way way' there there' e.0 (λ longer longer'. same_way a b is is' (suc l) (suc k) os ps longer longer' there e.0) in
      (rest.0, (λ j. e.1 j ∷ rest.1 j))
    where
      by : (os ps : List ℕ) → IsWay (o ∷ os) l → IsWay (p ∷ ps) k → at a os ≢ 0 → at b ps ≢ 0 → at a os ≡ at b ps →
          (IsWay os (suc l) → IsWay ps (suc k) → (a ≡ b) × (os ≡ ps)) → (a ≡ b) × (os ≡ ps)
      by [] [] way way' there there' same again = (same, refl)
      by [] (q ∷ ps) way way' there there' same again = absurd (other_type a b is is' k (q ∷ ps) way'.3 there' same)
      by (r ∷ os) [] way way' there there' same again = absurd (other_type b a is' is l (r ∷ os) way.3 there (sym same))
      by (r ∷ os) (q ∷ ps) way way' there there' same again = again way.3 way'.3

  -- the inode's number, as its leaf of the root block
  pub record IsLeafOfRoot (n : ℕ) : Type 0 where
    pub few : n - 1 < leaf_count
    pub leaf : block n ≡ leaf_block content top (n - 1)

  pub numbered_leaf : (n : ℕ) → n ≢ 0 → block n ≢ 0 → IsLeafOfRoot n
  numbered_leaf n some there = by ((n == 0) || nat_lt leaf_count n) refl
    where
      is : block n ≡ inode_block content top n
      is = inode_numbered content top n some

      by : (t : Bool) → ((n == 0) || nat_lt leaf_count n) ≡ t → IsLeafOfRoot n
      by true e = absurd (there (is ∙ ap (λ t. if t then 0 else leaf_block content top (n - 1)) e))
      by false e = record { few = counted n e; leaf = is ∙ ap (λ t. if t then 0 else leaf_block content top (n - 1)) e }

  -- an inode that has a number stands at the end of a way from the root block alone
  pub below_root : (n a : ℕ) → IsInodeBlock node inode type content a → (l : ℕ) (os : List ℕ) → n ≢ 0 → block n ≢ 0 → IsWay os l → block n ≡ at a os →
      (a ≡ top) × (steps (n - 1) ≡ os)
  below_root n a is l os some there way same =
      let leaf = (numbered_leaf n some there).leaf in
      let e = same_way top a top_block is 0 l (steps (n - 1)) os (steps_way (n - 1)) way (λ z. there (leaf ∙ z)) (sym leaf ∙ same) in (sym e.0, e.1)

  pub no_top : (n : ℕ) → n ≢ 0 → block n ≢ 0 → block n ≢ top
  no_top n some there is =
      let leaf = (numbered_leaf n some there).leaf in
      not_root top top_block 0 (steps (n - 1)) (steps_way (n - 1)) (λ z. there (leaf ∙ z)) (sym leaf ∙ is)

  -- no number leads to a block to which nothing points
  pub numbered_led : (c : ℕ) → c ≢ 0 → c ≢ top → ((p o : ℕ) → IsTrue (has_pointer node inode (type p) o) → pointed content p o ≢ c) → (n : ℕ) → block n ≢ c
  numbered_led c some no_root unled n same = elim (cases_eq n 0) [
    | inl z ↦ no_root (sym same ∙ ap block z)
    | inr n_some ↦
        let leaf = (numbered_leaf n n_some (λ z. some (sym same ∙ z))).leaf in by (steps (n - 1)) (steps_way (n - 1)) (sym leaf ∙ same)
  ]
    where
      by : (os : List ℕ) → IsWay os 0 → at top os ≡ c → ⊥
      by [] way is = absurd way
      by (o ∷ os) way is = unled (at top os) o (way_pointer top top_block 0 o os way (above (at top os) o (λ z. some (sym is ∙ z)))) is

  pub inodes_apart : (n m : ℕ) → block n ≢ 0 → block n ≡ block m → n ≡ m
  inodes_apart n m some same = elim (cases_eq n 0) [
    | inl z ↦ elim (cases_eq m 0) [
      | inl y ↦ z ∙ sym y
      | inr there ↦ absurd (no_top m there (λ x. some (same ∙ x)) (sym same ∙ ap block z))
    ]
    | inr there ↦ elim (cases_eq m 0) [
      | inl y ↦ absurd (no_top n there some (same ∙ ap block y))
      | inr there' ↦
          let a = numbered_leaf n there some in
          let b = numbered_leaf m there' (λ x. some (same ∙ x)) in
          let e = below_root n top top_block 0 (steps (m - 1)) there some (steps_way (m - 1)) (same ∙ b.leaf) in
          let g : n - 1 ≡ m - 1 = paths_once (n - 1) (m - 1) a.few b.few e.1 in
          omega arith
    ]
  ]
