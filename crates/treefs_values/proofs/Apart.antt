-- Different ways lead to different blocks.
use Rattle.std.proofs.Common.{◌≡◌, ◌≢◌, ℕ, suc, ◌-◌, ◌<◌, Bool, true, false, ◌||◌, List, [], ◌∷◌, refl, sym, ◌∙◌, ap, arith, inl, inr, ne_eqb, if◌then◌else◌}
use Rattle.std.specs.Prelude.{IsTrue, nat_lt, ◌==◌}
use Rattle.std.proofs.lemmas.Bool.{cases_eq}
use Rattle.treefs_format.specs.Paths.{leaf_count, steps}
use Rattle.treefs_format.proofs.ForCallers.{paths_once}
use Rattle.treefs_model.specs.Reading.{block_at, inode_block, leaf_block, pointed}
use Rattle.treefs_model.specs.Trees.{has_pointer}
use Rattle.treefs_values.specs.Ways.{ArePointersApart, IsTyped, IsWay, block_numbered}
use Rattle.treefs_values.proofs.Ways.{counted, inode_pointer, node_pointer, steps_way}

module _ (node inode top : ℕ) (type : ℕ → ℕ) (content : ℕ → List ℕ) (other : node ≢ inode) (typed : IsTyped node inode type content top)
    (apart : ArePointersApart node inode type content top) where
  abbrev block : ℕ → ℕ
  block n = block_numbered content top n

  abbrev at : ℕ → List ℕ → ℕ
  at n offsets = block_at content (block n) offsets

  -- what is pointed to from nowhere is no block
  above : (b o : ℕ) → pointed content b o ≢ 0 → b ≢ 0
  above b o some z = some (ap (λ c. pointed content c o) z)

  -- of an inode, and of a node
  first : (n l o : ℕ) → IsWay (o ∷ []) l → pointed content (block n) o ≢ 0 → (block n ≢ 0) × IsTrue (has_pointer node inode (type (block n)) o)
  first n l o way some =
      let there = above (block n) o some in
      (there, inode_pointer node inode (type (block n)) o l (typed.inodes n there) way)

  further : (n l o p : ℕ) (offsets : List ℕ) → IsWay (o ∷ p ∷ offsets) l → pointed content (at n (p ∷ offsets)) o ≢ 0 →
      (at n (p ∷ offsets) ≢ 0) × IsTrue (has_pointer node inode (type (at n (p ∷ offsets))) o)
  further n l o p offsets way some =
      let there = above (at n (p ∷ offsets)) o some in
      (there, node_pointer node inode (type (at n (p ∷ offsets))) o way.0 (typed.nodes n l (p ∷ offsets) way.3 there) way.1 way.2)

  pub same_way : (n m l k : ℕ) (os ps : List ℕ) → IsWay os l → IsWay ps k → at n os ≢ 0 → at n os ≡ at m ps → (block n ≡ block m) × (os ≡ ps)
  same_way n m l k [] ps way way' some same = absurd way
  same_way n m l k (o ∷ os) [] way way' some same = absurd way'
  same_way n m l k (o ∷ []) (p ∷ []) way way' some same =
      let one = first n l o way some in
      let two = first m k p way' (λ z. some (same ∙ z)) in
      let e = apart.once (block n) (block m) o p one.1 two.1 some same in
      (e.0, ap (λ x. x ∷ []) e.1)
  same_way n m l k (o ∷ []) (p ∷ q ∷ ps) way way' some same =
      let one = first n l o way some in
      let two = further m k p q ps way' (λ z. some (same ∙ z)) in
      let e = apart.once (block n) (at m (q ∷ ps)) o p one.1 two.1 some same in
      absurd (other (sym (typed.nodes m k (q ∷ ps) way'.3 two.0) ∙ (ap type (sym e.0) ∙ typed.inodes n one.0)))
  same_way n m l k (o ∷ r ∷ os) (p ∷ []) way way' some same =
      let one = further n l o r os way some in
      let two = first m k p way' (λ z. some (same ∙ z)) in
      let e = apart.once (at n (r ∷ os)) (block m) o p one.1 two.1 some same in
      absurd (other (sym (typed.nodes n l (r ∷ os) way.3 one.0) ∙ (ap type e.0 ∙ typed.inodes m two.0)))
  same_way n m l k (o ∷ r ∷ os) (p ∷ q ∷ ps) way way' some same =
      let one = further n l o r os way some in
      let two = further m k p q ps way' (λ z. some (same ∙ z)) in
      let e = apart.once (at n (r ∷ os)) (at m (q ∷ ps)) o p one.1 two.1 some same in
      let rest = same_way n m (suc l) (suc k) (r ∷ os) (q ∷ ps) way.3 way'.3 one.0 e.0 in
      (rest.0, (λ j. e.1 j ∷ rest.1 j))

  -- a way begins at a block that is there
  pub starts : (n l : ℕ) (os : List ℕ) → IsWay os l → at n os ≢ 0 → block n ≢ 0
  starts n l [] way some = absurd way
  starts n l (o ∷ []) way some = (first n l o way some).0
  starts n l (o ∷ p ∷ os) way some = starts n (suc l) (p ∷ os) way.3 (further n l o p os way some).0

  -- nothing points to the root block
  pub not_root : (n l : ℕ) (os : List ℕ) → IsWay os l → at n os ≢ 0 → at n os ≡ top → ⊥
  not_root n l [] way some same = absurd way
  not_root n l (o ∷ []) way some same = apart.root (block n) o (first n l o way some).1 same
  not_root n l (o ∷ p ∷ os) way some same = apart.root (at n (p ∷ os)) o (further n l o p os way some).1 same

  -- the inode's number, as its leaf of the root block
  pub record IsLeafOfRoot (n : ℕ) : Type 0 where
    pub few : n - 1 < leaf_count
    pub leaf : block n ≡ leaf_block content top (n - 1)
    pub below : block n ≢ top

  pub numbered_leaf : (n : ℕ) → n ≢ 0 → block n ≢ 0 → IsLeafOfRoot n
  numbered_leaf n some there = by ((n == 0) || nat_lt leaf_count n) refl
    where
      is : block n ≡ inode_block content top n
      is = ap (λ b. if b then top else inode_block content top n) (ne_eqb n 0 some)

      by : (b : Bool) → ((n == 0) || nat_lt leaf_count n) ≡ b → IsLeafOfRoot n
      by true e = absurd (there (is ∙ ap (λ b. if b then 0 else leaf_block content top (n - 1)) e))
      by false e =
          let leaf : block n ≡ leaf_block content top (n - 1) = is ∙ ap (λ b. if b then 0 else leaf_block content top (n - 1)) e in
          record { few = counted n e; leaf = leaf; below = λ z. not_root 0 0 (steps (n - 1)) (steps_way (n - 1)) (λ y. there (leaf ∙ y)) (sym leaf ∙ z) }

  -- a leaf of an inode is no inode
  pub leaf_no_inode : (m k i : ℕ) → m ≢ 0 → leaf_block content (block m) i ≢ 0 → leaf_block content (block m) i ≡ block k → ⊥
  leaf_no_inode m k i m_some leaf_some is = elim (cases_eq k 0) [
    | inl z ↦ not_root m 0 (steps i) (steps_way i) leaf_some (is ∙ ap block z)
    | inr k_some ↦
        let l = numbered_leaf k k_some (λ z. leaf_some (is ∙ z)) in
        let e = same_way m 0 0 0 (steps i) (steps (k - 1)) (steps_way i) (steps_way (k - 1)) leaf_some (is ∙ l.leaf) in
        (numbered_leaf m m_some (starts m 0 (steps i) (steps_way i) leaf_some)).below e.0
  ]

  pub inodes_apart : (n m : ℕ) → block n ≢ 0 → block n ≡ block m → n ≡ m
  inodes_apart n m some same = elim (cases_eq n 0) [
    | inl z ↦ elim (cases_eq m 0) [
      | inl y ↦ z ∙ sym y
      | inr there ↦ absurd ((numbered_leaf m there (λ x. some (same ∙ x))).below (sym same ∙ ap block z))
    ]
    | inr there ↦ elim (cases_eq m 0) [
      | inl y ↦ absurd ((numbered_leaf n there some).below (same ∙ ap block y))
      | inr there' ↦
          let a = numbered_leaf n there some in
          let b = numbered_leaf m there' (λ x. some (same ∙ x)) in
          let e = same_way 0 0 0 0 (steps (n - 1)) (steps (m - 1)) (steps_way (n - 1)) (steps_way (m - 1)) (λ z. some (a.leaf ∙ z)) (sym a.leaf ∙ (same ∙ b.leaf)) in
          let f : n - 1 ≡ m - 1 = paths_once (n - 1) (m - 1) a.few b.few e.1 in
          omega arith
    ]
  ]

  pub leaves_apart : (n m i j : ℕ) → i < leaf_count → j < leaf_count → leaf_block content (block n) i ≢ 0 →
      leaf_block content (block n) i ≡ leaf_block content (block m) j → (n ≡ m) × (i ≡ j)
  leaves_apart n m i j few few' some same =
      let e = same_way n m 0 0 (steps i) (steps j) (steps_way i) (steps_way j) some same in
      (inodes_apart n m (starts n 0 (steps i) (steps_way i) some) e.0, paths_once i j few few' e.1)
