-- An inode gets its number: the table's pointer comes to lead to it.
use mathlib.Core.Path.{fun_ext}
use Rattle.std.proofs.Common.{◌≡◌, ◌≢◌, ◌⊎◌, ℕ, suc, ◌+◌, ◌*◌, ◌-◌, ◌<◌, ◌≤◌, Bool, true, false, ◌||◌, List, [], ◌∷◌, None, Some, refl, sym, ◌∙◌, ap, inl, inr, arith, eq-eqb, eqb-true, le-ltb, ne_eqb, subst, if◌then◌else◌}
use Rattle.std.specs.Prelude.{IsTrue, nat_lt, ◌==◌}
use Rattle.std.proofs.lemmas.Bool.{cases_eq, true≢false}
use Rattle.xn_model.specs.Root.{word_at}
use Rattle.treefs_format.specs.Fields.{fields_of}
use Rattle.treefs_format.specs.Inodes.{content_of, kind_of}
use Rattle.treefs_format.specs.Roots.{key_of}
use Rattle.treefs_format.specs.declared.kind.Kind.TheVariants as kind
use Rattle.treefs_format.specs.Paths.{leaf_count, steps}
use Rattle.treefs_format.proofs.ForCallers.{paths_once}
use Rattle.treefs_model.specs.Reading.{block_at, files_of, inode_of, key_in, leaf_block, pointed}
use Rattle.treefs_model.specs.Files.{with_inode}
use Rattle.treefs_model.specs.Trees.{has_pointer}
use Rattle.treefs_values.specs.Attached.{IsFreeInode, IsPointerSet}
use Rattle.treefs_values.specs.Volumes.{IsWholeBlock, IsDirectory, IsVolume}
use Rattle.treefs_values.specs.Ways.{ArePointersApart, IsFirst, IsTyped, IsWay, block_numbered}
use Rattle.treefs_values.proofs.Apart.{inodes_apart, not_root, same_way}
use Rattle.treefs_values.proofs.Ways.{counted, inode_pointer, node_pointer, steps_way}
use Rattle.treefs_values.proofs.Elsewhere.{file_read, inode_numbered, no_file}
use Rattle.treefs_values.proofs.Alike.{IsAlike, bucket_same, inode_alike}
use Rattle.treefs_values.proofs.Kept.{same_directory}
use Rattle.treefs_values.proofs.Standing.{KeepsInodes}

-- The height to which a way leads

first_height : (o l m : ℕ) → IsFirst o l → IsFirst o m → l ≡ m
first_height o l m (inl a) (inl b) = a.3 ∙ sym b.3
first_height o l m (inl a) (inr b) = let lt : a.0 < 16 = a.1 in let e : o ≡ 48 + 4 * a.0 = a.2 in let f : o ≡ 108 + 4 * m = b.2 in let low = b.0 in absurd (omega arith)
first_height o l m (inr a) (inl b) = let lt : b.0 < 16 = b.1 in let e : o ≡ 48 + 4 * b.0 = b.2 in let f : o ≡ 108 + 4 * l = a.2 in let low = a.0 in absurd (omega arith)
first_height o l m (inr a) (inr b) = let e : o ≡ 108 + 4 * l = a.2 in let f : o ≡ 108 + 4 * m = b.2 in omega arith

pub one_height : (os : List ℕ) (l m : ℕ) → IsWay os l → IsWay os m → l ≡ m
one_height [] l m way way' = absurd way
one_height (o ∷ []) l m way way' = first_height o l m way way'
one_height (o ∷ p ∷ os) l m way way' = let e = one_height (p ∷ os) (suc l) (suc m) way.3 way'.3 in omega arith

module _ (node inode top : ℕ) (type : ℕ → ℕ) (old new : ℕ → List ℕ) (v : IsVolume node inode type old top)
    (n : ℕ) (number : n ≢ 0) (few : n - 1 < leaf_count) (o : ℕ) (q : List ℕ) (steps_are : steps (n - 1) ≡ o ∷ q) (holder_some : block_at old top q ≢ 0)
    (block : ℕ) (free : IsPointerSet node inode type old new (block_at old top q) o block) where
  abbrev holder : ℕ
  holder = block_at old top q

  abbrev at : ℕ → List ℕ → ℕ
  at m os = block_at old (block_numbered old top m) os

  way_there : IsWay (o ∷ q) 0
  way_there = subst (λ os. IsWay os 0) steps_are (steps_way (n - 1))

  root_number : (m : ℕ) → block_numbered old top m ≡ top → m ≡ 0
  root_number m is = inodes_apart node inode top type old v.types.0 v.typed v.apart m 0 (λ z. v.root (sym is ∙ z)) is

  -- the pointer stands at the end of one way from the root alone
  only_there : (m l p : ℕ) (os : List ℕ) → IsWay (p ∷ os) l → at m os ≡ holder → p ≡ o → (m ≡ 0) × (p ∷ os ≡ o ∷ q)
  only_there m l p os way is same = by os q way way_there is holder_some
    where
      by : (os q : List ℕ) → IsWay (p ∷ os) l → IsWay (o ∷ q) 0 → at m os ≡ block_at old top q → block_at old top q ≢ 0 → (m ≡ 0) × (p ∷ os ≡ o ∷ q)
      by [] [] way way' is' some = (root_number m is', (λ j. same j ∷ []))
      by [] (r ∷ rs) way way' is' some =
          absurd (v.types.0 (sym (v.typed.nodes 0 0 (r ∷ rs) way'.3 some) ∙ (ap type (sym is') ∙ v.typed.inodes m (λ z. some (sym is' ∙ z)))))
      by (s ∷ ss) [] way way' is' some = absurd (not_root node inode top type old v.types.0 v.typed v.apart m (suc l) (s ∷ ss) way.3 (λ z. some (sym is' ∙ z)) is')
      by (s ∷ ss) (r ∷ rs) way way' is' some =
          let e = same_way node inode top type old v.types.0 v.typed v.apart m 0 (suc l) 1 (s ∷ ss) (r ∷ rs) way.3 way'.3 (λ z. some (sym is' ∙ z)) is' in
          (root_number m e.0, (λ j. same j ∷ e.1 j))

  -- one pointer on a way is as it was, but for that one
  pointer_stays : (m l p : ℕ) (os : List ℕ) → IsWay (p ∷ os) l → ((m ≡ 0) → p ∷ os ≡ o ∷ q → ⊥) → IsTrue (has_pointer node inode (type (at m os)) p) →
      pointed new (at m os) p ≡ pointed old (at m os) p
  pointer_stays m l p os way other has = elim (cases_eq (at m os) holder) [
    | inl here ↦ elim (cases_eq p o) [
      | inl same ↦ let e = only_there m l p os way here same in absurd (other e.0 e.1)
      | inr ne ↦ free.others (at m os) p has (inr ne)
    ]
    | inr ne ↦ free.others (at m os) p has (inl ne)
  ]

  -- so all ways but that one lead where they led
  way_stays : (m l : ℕ) (os : List ℕ) → IsWay os l → ((m ≡ 0) → os ≡ o ∷ q → ⊥) → block_at new (block_numbered old top m) os ≡ at m os
  way_stays m l [] way other = absurd way
  way_stays m l (p ∷ []) way other = elim (cases_eq (block_numbered old top m) 0) [
    | inl z ↦ ap (λ c. pointed new c p) z ∙ sym (ap (λ c. pointed old c p) z)
    | inr some ↦ pointer_stays m l p [] way other (inode_pointer node inode (type (block_numbered old top m)) p l (v.typed.inodes m some) way)
  ]
  way_stays m l (p ∷ r ∷ os) way other =
      let above = way_stays m (suc l) (r ∷ os) way.3 (λ z same. short m l r os way.3 z same) in
      ap (λ c. pointed new c p) above ∙ elim (cases_eq (at m (r ∷ os)) 0) [
        | inl z ↦ ap (λ c. pointed new c p) z ∙ sym (ap (λ c. pointed old c p) z)
        | inr some ↦ pointer_stays m l p (r ∷ os) way other
            (node_pointer node inode (type (at m (r ∷ os))) p way.0 (v.typed.nodes m l (r ∷ os) way.3 some) way.1 way.2)
      ]
    where
      -- a way to a node is not the one to the leaf
      short : (m l r : ℕ) (os : List ℕ) → IsWay (r ∷ os) (suc l) → m ≡ 0 → r ∷ os ≡ o ∷ q → ⊥
      short m l r os way z same = let e = one_height (o ∷ q) (suc l) 0 (subst (λ x. IsWay x (suc l)) same way) way_there in absurd (omega arith)

  -- Inodes and leaves

  way_above : (q : List ℕ) → IsWay (o ∷ q) 0 → (q ≡ []) ⊎ IsWay q 1
  way_above [] way = inl refl
  way_above (r ∷ rs) way = inr way.3

  -- the holder is the root block, or a node
  holder_is : (holder ≡ top) ⊎ IsWay q 1
  holder_is = elim (way_above q way_there) [ inl none ↦ inl (ap (block_at old top) none) | inr way ↦ inr way ]

  no_inode : (m : ℕ) → m ≢ 0 → block_numbered old top m ≢ 0 → block_numbered old top m ≢ holder
  no_inode m some there is = elim holder_is [
    | inl root ↦ some (root_number m (is ∙ root))
    | inr way ↦ v.types.0 (sym (v.typed.nodes 0 0 q way holder_some) ∙ (ap type (sym is) ∙ v.typed.inodes m there))
  ]

  no_leaf : (m i : ℕ) → leaf_block old (block_numbered old top m) i ≢ 0 → leaf_block old (block_numbered old top m) i ≢ holder
  no_leaf m i there is = elim holder_is [
    | inl root ↦ not_root node inode top type old v.types.0 v.typed v.apart m 0 (steps i) (steps_way i) there (is ∙ root)
    | inr way ↦
        let e = same_way node inode top type old v.types.0 v.typed v.apart m 0 0 1 (steps i) q (steps_way i) way there is in
        let h = one_height q 0 1 (subst (λ os. IsWay os 0) e.1 (steps_way i)) way in absurd (omega arith)
  ]

  holder_stays : block_at new top q ≡ holder
  holder_stays = by q refl (way_above q way_there)
    where
      by : (p : List ℕ) → p ≡ q → (p ≡ []) ⊎ IsWay p 1 → block_at new top p ≡ block_at old top p
      by p same (inl none) = ap (block_at new top) none ∙ sym (ap (block_at old top) none)
      by p same (inr way) = way_stays 0 1 p way (λ z e. let h = one_height (o ∷ q) 1 0 (subst (λ x. IsWay x 1) e way) way_there in absurd (omega arith))

  leaf_stays : (m i : ℕ) → m ≢ 0 → leaf_block new (block_numbered old top m) i ≡ leaf_block old (block_numbered old top m) i
  leaf_stays m i some = way_stays m 0 (steps i) (steps_way i) (λ z e. some z)

  inode_stays : (m : ℕ) → m ≢ n → block_numbered new top m ≡ block_numbered old top m
  inode_stays m ne = elim (cases_eq m 0) [
    | inl z ↦ ap (block_numbered new top) z ∙ sym (ap (block_numbered old top) z)
    | inr some ↦ by some ((m == 0) || nat_lt leaf_count m) refl
  ]
    where
      by : m ≢ 0 → (t : Bool) → ((m == 0) || nat_lt leaf_count m) ≡ t → block_numbered new top m ≡ block_numbered old top m
      by some true e =
          inode_numbered new top m some ∙ (ap (λ t. if t then 0 else leaf_block new top (m - 1)) e
          ∙ (sym (ap (λ t. if t then 0 else leaf_block old top (m - 1)) e) ∙ sym (inode_numbered old top m some)))
      by some false e =
          inode_numbered new top m some ∙ (ap (λ t. if t then 0 else leaf_block new top (m - 1)) e
          ∙ (way_stays 0 0 (steps (m - 1)) (steps_way (m - 1)) (λ z same.
          let s = paths_once (m - 1) (n - 1) (counted m e) few (same ∙ sym steps_are) in absurd (ne (omega arith)))
          ∙ (sym (ap (λ t. if t then 0 else leaf_block old top (m - 1)) e) ∙ sym (inode_numbered old top m some))))

  -- the number's test
  is_number : ((n == 0) || nat_lt leaf_count n) ≡ false
  is_number = (λ j. ne_eqb n 0 number j || le-ltb leaf_count n (let le : n ≤ leaf_count = omega arith in le) j)

  inode_there : block_numbered new top n ≡ block
  inode_there =
      inode_numbered new top n number ∙ (ap (λ t. if t then 0 else leaf_block new top (n - 1)) is_number
      ∙ (ap (block_at new top) steps_are ∙ (ap (λ c. pointed new c o) holder_stays ∙ free.now)))

  -- where none was before
  pub was_free : files_of old top n ≡ None
  was_free = no_file old top n (ap (λ t. if t then 0 else leaf_block old top (n - 1)) is_number ∙ (ap (block_at old top) steps_are ∙ free.was))

  -- The inode, with its tree, in which the holder is not

  module _ (inode_free : IsFreeInode node inode type old (key_in old top) block) (alone : block ≢ holder)
      (apart_below : (l : ℕ) (os : List ℕ) → IsWay os l → block_at old block os ≢ 0 → block_at old block os ≢ holder) where
    same_pointed : (c p : ℕ) → (c ≡ 0) ⊎ (c ≢ holder) → pointed new c p ≡ pointed old c p
    same_pointed c p (inl z) = ap (λ x. pointed new x p) z ∙ sym (ap (λ x. pointed old x p) z)
    same_pointed c p (inr ne) = ap (λ m. if c == 0 then 0 else word_at m p) (free.changed c ne)

    tree_stays : (l : ℕ) (os : List ℕ) → IsWay os l → block_at new block os ≡ block_at old block os
    tree_stays l [] way = absurd way
    tree_stays l (p ∷ []) way = same_pointed block p (inr alone)
    tree_stays l (p ∷ r ∷ os) way =
        ap (λ c. pointed new c p) (tree_stays (suc l) (r ∷ os) way.3)
        ∙ same_pointed (block_at old block (r ∷ os)) p (elim (cases_eq (block_at old block (r ∷ os)) 0) [ inl z ↦ inl z | inr some ↦ inr (apart_below (suc l) (r ∷ os) way.3 some) ])

    own_alike : IsAlike old new block
    own_alike = record {
      own = free.changed block alone;
      leaves = λ i. tree_stays 0 (steps i) (steps_way i);
      bytes = λ i some. free.changed (leaf_block old block i) (apart_below 0 (steps i) (steps_way i) some);
    }

    other_alike : (m : ℕ) → m ≢ 0 → block_numbered old top m ≢ 0 → IsAlike old new (block_numbered old top m)
    other_alike m some there = record {
      own = free.changed (block_numbered old top m) (no_inode m some there);
      leaves = λ i. leaf_stays m i some;
      bytes = λ i leaf_some. free.changed (leaf_block old (block_numbered old top m) i) (no_leaf m i leaf_some);
    }

    key_same : key_in new top ≡ key_in old top
    key_same = key_from new old (elim (cases_eq top holder) [
      | inl root ↦ ap (λ x. content_of (new x)) root ∙ (free.contents (ap type (sym root) ∙ v.typed.inodes 0 v.root) ∙ sym (ap (λ x. content_of (old x)) root))
      | inr ne ↦ ap content_of (free.changed top ne)
    ])
      where
        key_from : (a b : ℕ → List ℕ) → content_of (a top) ≡ content_of (b top) → key_in a top ≡ key_in b top
        key_from a b same = ap key_of same

    pub attached_inodes : KeepsInodes old new top
    attached_inodes = record {
      key = key_same;
      inodes = λ m some there. record {
        block = inode_stays m (λ same. there (ap (block_numbered old top) same ∙ was_none));
        alike = other_alike m some there;
        ways = λ l os way. way_stays m l os way (λ z e. some z);
      };
    }
      where
        was_none : block_numbered old top n ≡ 0
        was_none =
            inode_numbered old top n number ∙ (ap (λ t. if t then 0 else leaf_block old top (n - 1)) is_number ∙ (ap (block_at old top) steps_are ∙ free.was))

    -- its value has its number, and all else is as before
    others_same : (m : ℕ) → m ≢ n → files_of new top m ≡ files_of old top m
    others_same m ne = elim (cases_eq m 0) [
      | inl z ↦ ap (files_of new top) z ∙ (no_file new top 0 refl ∙ (sym (no_file old top 0 refl) ∙ sym (ap (files_of old top) z)))
      | inr some ↦
          let is_old = inode_numbered old top m some in
          let is_new = inode_numbered new top m some in
          elim (cases_eq (block_numbered old top m) 0) [
            | inl z ↦ no_file new top m (sym is_new ∙ (inode_stays m ne ∙ z)) ∙ sym (no_file old top m (sym is_old ∙ z))
            | inr there ↦
                file_read new top m (block_numbered old top m) (sym is_new ∙ inode_stays m ne) there
                ∙ (ap (λ key. inode_of new key (block_numbered old top m)) key_same
                ∙ (inode_alike old new (block_numbered old top m) (other_alike m some there) (key_in old top) ∙ sym (file_read old top m (block_numbered old top m) (sym is_old) there)))
          ]
    ]

    own_file : files_of new top n ≡ inode_of old (key_in old top) block
    own_file =
        file_read new top n block (sym (inode_numbered new top n number) ∙ inode_there) inode_free.there
        ∙ (ap (λ key. inode_of new key block) key_same ∙ inode_alike old new block own_alike (key_in old top))

    pub files_attached : files_of new top ≡ with_inode (files_of old top) n (inode_of old (key_in old top) block)
    files_attached = fun_ext (λ m. by m (m == n) refl)
      where
        by : (m : ℕ) (t : Bool) → (m == n) ≡ t → files_of new top m ≡ (if m == n then inode_of old (key_in old top) block else files_of old top m)
        by m true e = ap (files_of new top) (eqb-true m n e) ∙ (own_file ∙ sym (ap (λ t. if t then inode_of old (key_in old top) block else files_of old top m) e))
        by m false e =
            others_same m (λ same. true≢false (sym (eq-eqb m n same) ∙ e)) ∙ sym (ap (λ t. if t then inode_of old (key_in old top) block else files_of old top m) e)

    module _ (apart : ArePointersApart node inode type new top) (is_block : IsWholeBlock (new holder)) where
      not_way : (l : ℕ) (os : List ℕ) → IsWay os (suc l) → os ≡ o ∷ q → ⊥
      not_way l os way same = let h = one_height (o ∷ q) (suc l) 0 (subst (λ x. IsWay x (suc l)) same way) way_there in absurd (omega arith)

      typed_now : IsTyped node inode type new top
      typed_now = record {
        inodes = λ m there. elim (cases_eq m n) [
          | inl same ↦ ap (λ x. type (block_numbered new top x)) same ∙ (ap type inode_there ∙ inode_free.typed)
          | inr ne ↦ ap type (inode_stays m ne) ∙ v.typed.inodes m (λ z. there (inode_stays m ne ∙ z))
        ];
        nodes = λ m l os way there. elim (cases_eq m n) [
          | inl same ↦
              let is = ap (λ x. block_at new x os) (ap (block_numbered new top) same ∙ inode_there) ∙ tree_stays (suc l) os way in
              ap type is ∙ inode_free.tree.nodes l os way (λ z. there (is ∙ z))
          | inr ne ↦
              let is = ap (λ x. block_at new x os) (inode_stays m ne) ∙ way_stays m (suc l) os way (λ z e. not_way l os way e) in
              ap type is ∙ v.typed.nodes m l os way (λ z. there (is ∙ z))
        ];
        leaves = λ m i some few' there. elim (cases_eq m n) [
          | inl same ↦
              let is = ap (λ x. leaf_block new x i) (ap (block_numbered new top) same ∙ inode_there) ∙ tree_stays 0 (steps i) (steps_way i) in
              ap type is ∙ inode_free.tree.leaves i few' (λ z. there (is ∙ z))
          | inr ne ↦
              let is = ap (λ x. leaf_block new x i) (inode_stays m ne) ∙ leaf_stays m i some in
              ap type is ∙ v.typed.leaves m i some few' (λ z. there (is ∙ z))
        ];
      }

      directory_now : (m : ℕ) → m ≢ 0 → block_numbered new top m ≢ 0 → kind_of (fields_of (new (block_numbered new top m))).mode ≡ Some kind.Directory →
          IsDirectory new (key_in old top) (block_numbered new top m)
      directory_now m some there is = elim (cases_eq m n) [
        | inl same ↦
            let here : block_numbered new top m ≡ block = ap (block_numbered new top) same ∙ inode_there in
            subst (IsDirectory new (key_in old top)) (sym here)
            (same_directory old new (key_in old top) block (λ k few'. bucket_same old new block own_alike.leaves own_alike.bytes k (ap content_of own_alike.own))
            (inode_free.directory (sym (ap (λ x. kind_of (fields_of x).mode) own_alike.own) ∙ (sym (ap (λ x. kind_of (fields_of (new x)).mode) here) ∙ is))))
        | inr ne ↦
            let here = inode_stays m ne in
            let there' : block_numbered old top m ≢ 0 = λ z. there (here ∙ z) in
            let a = other_alike m some there' in
            subst (IsDirectory new (key_in old top)) (sym here)
            (same_directory old new (key_in old top) (block_numbered old top m) (λ k few'. bucket_same old new (block_numbered old top m) a.leaves a.bytes k (ap content_of a.own))
            (v.directories m some there' (sym (ap (λ x. kind_of (fields_of x).mode) a.own) ∙ (sym (ap (λ x. kind_of (fields_of (new x)).mode) here) ∙ is))))
      ]

      pub volume_attached : IsVolume node inode type new top
      volume_attached = record {
        types = v.types;
        some_types = v.some_types;
        root = v.root;
        typed = typed_now;
        apart = apart;
        blocks = λ x some. elim (cases_eq x holder) [
          | inl same ↦ subst (λ y. IsWholeBlock (new y)) (sym same) is_block
          | inr ne ↦ subst IsWholeBlock (sym (free.changed x ne)) (v.blocks x some)
        ];
        directories = λ m some there is. subst (λ key. IsDirectory new key (block_numbered new top m)) (sym key_same) (directory_now m some there is);
      }
