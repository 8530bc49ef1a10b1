-- An inode that has no number, and the blocks of its tree: where these change, no file does.
use Rattle.std.proofs.Common.{◌≡◌, ◌≢◌, ◌⊎◌, ℕ, suc, ◌<◌, List, [], ◌∷◌, refl, sym, ◌∙◌, ap, inl, inr, subst, if◌then◌else◌}
use Rattle.std.specs.Prelude.{IsTrue, ◌==◌}
use Rattle.std.proofs.lemmas.Bool.{cases_eq, ne_eqb}
use Rattle.xn_model.specs.Root.{word_at}
use Rattle.treefs_format.specs.Paths.{leaf_count, node_offset, steps}
use Rattle.treefs_model.specs.Reading.{block_at, files_of, leaf_block, pointed}
use Rattle.treefs_model.specs.Trees.{has_pointer}
use Rattle.treefs_values.specs.Attached.{IsPointerSet}
use Rattle.treefs_values.specs.Parts.{IsChangedAt}
use Rattle.treefs_values.specs.Volumes.{IsVolume, IsWholeBlock}
use Rattle.treefs_values.specs.Ways.{ArePointersApart, IsWay, SamePointers}
use Rattle.treefs_values.proofs.ForCallers.{IsNew, IsOther, New, node_pointer}
use Rattle.treefs_laws.proofs.PointersGone.{IsUnled}
use Rattle.treefs_laws.proofs.ReadBlocks.{IsIn, IsRead, files_read, unread, volume_read}
use Rattle.treefs_laws.proofs.WaysApart.{IsInodeBlock, one_height, other_type, same_way, steps_way, way_pointer}

module _ (node inode top c : ℕ) where
  -- no number leads to it, and its blocks have their types
  pub record IsAside (type : ℕ → ℕ) (content : ℕ → List ℕ) : Type 0 where
    pub volume : IsVolume node inode type content top
    pub there : c ≢ 0
    pub no_root : c ≢ top
    pub is_block : IsInodeBlock node inode type content c
    pub leaves : (i : ℕ) → i < leaf_count → leaf_block content c i ≢ 0 → type (leaf_block content c i) ≡ 2
    pub unled : IsUnled node inode type content c

  pub nowhere : (content : ℕ → List ℕ) (b p : ℕ) → b ≡ 0 → pointed content b p ≡ 0
  nowhere content b p z = ap (λ b. pointed content b p) z

  -- No pointer changes, and no type

  module _ (type : ℕ → ℕ) (old new : ℕ → List ℕ) (a : IsAside type old) (keeps : SamePointers node inode type old new) where
    placed_point : (k p : ℕ) (q : List ℕ) → IsWay (p ∷ q) k → block_at new c q ≡ block_at old c q → block_at new c (p ∷ q) ≡ block_at old c (p ∷ q)
    placed_point k p q way same = ap (λ x. pointed new x p) same ∙ elim (cases_eq (block_at old c q) 0) [
      | inl z ↦ nowhere new (block_at old c q) p z ∙ sym (nowhere old (block_at old c q) p z)
      | inr some ↦ keeps (block_at old c q) p (way_pointer node inode top type old a.volume c a.is_block k p q way some)
    ]

    pub placed_way : (k : ℕ) (os : List ℕ) → IsWay os k → block_at new c os ≡ block_at old c os
    placed_way k [] way = absurd way
    placed_way k (p ∷ []) way = placed_point k p [] way refl
    placed_way k (p ∷ r ∷ q) way = placed_point k p (r ∷ q) way (placed_way (suc k) (r ∷ q) way.3)

    pub steady_aside : IsVolume node inode type new top → IsAside type new
    steady_aside volume = record {
      volume = volume;
      there = a.there;
      no_root = a.no_root;
      is_block = record {
        typed = a.is_block.typed;
        nodes = λ l os way some. ap type (placed_way (suc l) os way) ∙ a.is_block.nodes l os way (λ z. some (placed_way (suc l) os way ∙ z));
      };
      leaves = λ i few some. ap type (placed_way 0 (steps i) (steps_way i)) ∙ a.leaves i few (λ z. some (placed_way 0 (steps i) (steps_way i) ∙ z));
      unled = λ p o has same. a.unled p o has (sym (keeps p o has) ∙ same);
    }

  -- One of its blocks changes, but for pointers

  module _ (type : ℕ → ℕ) (old new : ℕ → List ℕ) (a : IsAside type old) (b : ℕ) (is_in : IsIn old c b) (changed : IsChangedAt b old new)
      (keeps : SamePointers node inode type old new) (whole : IsWholeBlock (new b)) where
    placed_kept : (x : ℕ) → IsRead old top x → (type x ≡ type x) × (new x ≡ old x)
    placed_kept x read =
        (refl, changed x (λ same. unread node inode top type old a.volume c a.there a.no_root a.is_block a.unled x (subst (IsIn old c) (sym same) is_in) read))

    pub placed_files : files_of new top ≡ files_of old top
    placed_files = files_read node inode top type type old new a.volume placed_kept

    placed_whole : (x : ℕ) → type x ≢ 0 → IsWholeBlock (new x)
    placed_whole x some = elim (cases_eq x b) [
      | inl same ↦ subst (λ y. IsWholeBlock (new y)) (sym same) whole
      | inr ne ↦ subst IsWholeBlock (sym (changed x ne)) (a.volume.blocks x some)
    ]

    placed_apart : ArePointersApart node inode type new top
    placed_apart = record {
      once = λ p q o o' has has' some same.
          a.volume.apart.once p q o o' has has' (λ z. some (keeps p o has ∙ z)) (sym (keeps p o has) ∙ (same ∙ keeps q o' has'));
      root = λ p o has is. a.volume.apart.root p o has (sym (keeps p o has) ∙ is);
    }

    pub placed_aside : IsAside type new
    placed_aside = steady_aside type old new a keeps (volume_read node inode top type type old new a.volume placed_kept placed_apart placed_whole)

    pub placed_in : (x : ℕ) → IsIn old c x → IsIn new c x
    placed_in x (inl same) = inl same
    placed_in x (inr (k, os, way, is)) = inr (k, os, way, is ∙ sym (placed_way type old new a keeps k os way))

  -- A new block is attached to it

  module _ (type : ℕ → ℕ) (old : ℕ → List ℕ) (a : IsAside type old) (l o : ℕ) (q : List ℕ) (way : IsWay (o ∷ q) l) (h : ℕ) (h_is : block_at old c q ≡ h)
      (h_there : h ≢ 0) where
    pub holder_in : IsIn old c h
    holder_in = by q way h_is
      where
        by : (q : List ℕ) → IsWay (o ∷ q) l → block_at old c q ≡ h → IsIn old c h
        by [] way is = inl (sym is)
        by (p ∷ q) way is = inr (suc l, p ∷ q, way.3, sym is)

    -- no new one but it itself is where it is attached
    pub new_other : (x : New) → IsNew node inode type old top x → x.block ≢ c → x.block ≢ h
    new_other x is other = by q way h_is
      where
        by : (q : List ℕ) → IsWay (o ∷ q) l → block_at old c q ≡ h → x.block ≢ h
        by [] way at same = other (same ∙ sym at)
        by (p ∷ q) way at same =
            let there : block_at old c q ≢ 0 = λ z. h_there (sym at ∙ nowhere old (block_at old c q) p z) in
            is.unled (block_at old c q) p (way_pointer node inode top type old a.volume c a.is_block (suc l) p q way.3 there) (at ∙ sym same)

    module _ (y : New) (is_new : IsNew node inode type old top y) (y_other : y.block ≢ c) (as_node : (k : ℕ) → l ≡ suc k → y.ty ≡ node)
        (as_data : l ≡ 0 → y.ty ≡ 2) (new : ℕ → List ℕ) (set : IsPointerSet node inode type old new h o y.block) (whole : IsWholeBlock (new h)) where
      y_h : y.block ≢ h
      y_h = new_other y is_new y_other

      set_kept : (x : ℕ) → IsRead old top x → (type x ≡ type x) × (new x ≡ old x)
      set_kept x read = (
        refl,
        set.changed x (λ same. unread node inode top type old a.volume c a.there a.no_root a.is_block a.unled x (subst (IsIn old c) (sym same) holder_in)
            read),
      )

      -- which pointer it is
      which : (p r : ℕ) → ((p ≡ h) × (r ≡ o)) ⊎ ((p ≢ h) ⊎ (r ≢ o))
      which p r = elim (cases_eq p h) [
        | inl here ↦ elim (cases_eq r o) [ inl at ↦ inl (here, at) | inr ne ↦ inr (inr ne) ]
        | inr ne ↦ inr (inl ne)
      ]

      is_y : (p r : ℕ) → p ≡ h → r ≡ o → pointed new p r ≡ y.block
      is_y p r here at = (λ j. pointed new (here j) (at j)) ∙ set.now

      set_apart : ArePointersApart node inode type new top
      set_apart = record {
        once = λ p r i j has_p has_r some same. elim (which p i) [
          | inl one ↦ elim (which r j) [
            | inl two ↦ (one.0 ∙ sym two.0, one.1 ∙ sym two.1)
            | inr two ↦ absurd (is_new.unled r j has_r (sym (set.others r j has_r two) ∙ (sym same ∙ is_y p i one.0 one.1)))
          ]
          | inr one ↦ elim (which r j) [
            | inl two ↦ absurd (is_new.unled p i has_p (sym (set.others p i has_p one) ∙ (same ∙ is_y r j two.0 two.1)))
            | inr two ↦ a.volume.apart.once p r i j has_p has_r (λ z. some (set.others p i has_p one ∙ z))
                (sym (set.others p i has_p one) ∙ (same ∙ set.others r j has_r two))
          ]
        ];
        root = λ p i has_p is. elim (which p i) [
          | inl one ↦ is_new.no_root (sym is ∙ is_y p i one.0 one.1)
          | inr one ↦ a.volume.apart.root p i has_p (sym (set.others p i has_p one) ∙ is)
        ];
      }

      has_at : (k p : ℕ) (r : List ℕ) → IsWay (p ∷ r) k → block_at old c r ≢ 0 → IsTrue (has_pointer node inode (type (block_at old c r)) p)
      has_at = way_pointer node inode top type old a.volume c a.is_block

      -- ways that lead somewhere stay
      set_point : (k p : ℕ) (r : List ℕ) → IsWay (p ∷ r) k → (block_at old c r ≢ 0 → block_at new c r ≡ block_at old c r) → block_at old c (p ∷ r) ≢ 0 →
          block_at new c (p ∷ r) ≡ block_at old c (p ∷ r)
      set_point k p r way_to same there = elim (cases_eq (block_at old c r) 0) [
        | inl z ↦ absurd (there (nowhere old (block_at old c r) p z))
        | inr some ↦
            ap (λ x. pointed new x p) (same some)
            ∙ elim (which (block_at old c r) p) [
              | inl one ↦ absurd (there ((λ j. pointed old (one.0 j) (one.1 j)) ∙ set.was))
              | inr one ↦ set.others (block_at old c r) p (has_at k p r way_to some) one
            ]
      ]

      set_way : (k : ℕ) (os : List ℕ) → IsWay os k → block_at old c os ≢ 0 → block_at new c os ≡ block_at old c os
      set_way k [] way_to there = absurd way_to
      set_way k (p ∷ []) way_to there = set_point k p [] way_to (λ some. refl) there
      set_way k (p ∷ r ∷ os) way_to there = set_point k p (r ∷ os) way_to (set_way (suc k) (r ∷ os) way_to.3) there

      -- others lead nowhere, or to the new block
      abbrev Grows : ℕ → List ℕ → Type 0
      Grows k os = (block_at new c os ≡ 0) ⊎ ((block_at new c os ≡ y.block) × (k ≡ l))

      same_height : (k p : ℕ) (r : List ℕ) → IsWay (p ∷ r) k → block_at old c r ≡ h → p ≡ o → k ≡ l
      same_height k p r way_to at same = by r q way_to way at h_is
        where
          by : (r q : List ℕ) → IsWay (p ∷ r) k → IsWay (o ∷ q) l → block_at old c r ≡ h → block_at old c q ≡ h → k ≡ l
          by [] [] one two at at' = one_height (o ∷ []) k l (subst (λ p. IsWay (p ∷ []) k) same one) two
          by [] (s ∷ q) one two at at' =
              absurd (other_type node inode top type old a.volume c c a.is_block a.is_block l (s ∷ q) two.3 (λ z. h_there (sym at' ∙ z)) (at ∙ sym at'))
          by (s ∷ r) [] one two at at' =
              absurd (other_type node inode top type old a.volume c c a.is_block a.is_block k (s ∷ r) one.3 (λ z. h_there (sym at ∙ z)) (at' ∙ sym at))
          by (s ∷ r) (u ∷ q) one two at at' =
              let e = same_way node inode top type old a.volume c c a.is_block a.is_block (suc k) (suc l) (s ∷ r) (u ∷ q) one.3 two.3 (λ z. h_there (sym at ∙ z))
              (at ∙ sym at') in
              one_height (o ∷ u ∷ q) k l (subst (λ os. IsWay (o ∷ os) k) e.1 (subst (λ p. IsWay (p ∷ s ∷ r) k) same one)) two

      from_there : (k p : ℕ) (r : List ℕ) → IsWay (p ∷ r) k → block_at new c r ≡ block_at old c r → block_at old c (p ∷ r) ≡ 0 → Grows k (p ∷ r)
      from_there k p r way_to same z = elim (cases_eq (block_at old c r) 0) [
        | inl none ↦ inl (nowhere new (block_at new c r) p (same ∙ none))
        | inr some ↦ elim (which (block_at old c r) p) [
          | inl one ↦ inr (ap (λ x. pointed new x p) same ∙ is_y (block_at old c r) p one.0 one.1, same_height k p r way_to one.0 one.1)
          | inr one ↦ inl (ap (λ x. pointed new x p) same ∙ (set.others (block_at old c r) p (has_at k p r way_to some) one ∙ z))
        ]
      ]

      y_type : (k : ℕ) → suc k ≡ l → type y.block ≡ node
      y_type k e = is_new.typed ∙ as_node k (sym e)

      y_bare : (k p j : ℕ) → suc k ≡ l → j < 127 → p ≡ node_offset j → pointed new y.block p ≡ 0
      y_bare k p j e lt at =
          let has = node_pointer node inode (type y.block) p j (y_type k e) lt at in
          set.others y.block p has (inl y_h)
          ∙ (ap (λ t. if t then 0 else word_at (old y.block) p) (ne_eqb y.block 0 is_new.there)
          ∙ (ap (λ m. word_at m p) is_new.bytes ∙ is_new.bare p (sym (ap (λ t. has_pointer node inode t p) is_new.typed) ∙ has)))

      grows : (k : ℕ) (os : List ℕ) → IsWay os k → block_at old c os ≡ 0 → Grows k os
      grows k [] way_to z = absurd way_to
      grows k (p ∷ []) way_to z = from_there k p [] way_to refl z
      grows k (p ∷ r ∷ os) way_to z = elim (cases_eq (block_at old c (r ∷ os)) 0) [
        | inr some ↦ from_there k p (r ∷ os) way_to (set_way (suc k) (r ∷ os) way_to.3 some) z
        | inl none ↦ elim (grows (suc k) (r ∷ os) way_to.3 none) [
          | inl gone ↦ inl (nowhere new (block_at new c (r ∷ os)) p gone)
          | inr is ↦ inl (ap (λ x. pointed new x p) is.0 ∙ y_bare k p way_to.0 is.1 way_to.1 way_to.2)
        ]
      ]

      set_whole : (x : ℕ) → type x ≢ 0 → IsWholeBlock (new x)
      set_whole x some = elim (cases_eq x h) [
        | inl same ↦ subst (λ y. IsWholeBlock (new y)) (sym same) whole
        | inr ne ↦ subst IsWholeBlock (sym (set.changed x ne)) (a.volume.blocks x some)
      ]

      set_nodes : (k : ℕ) (os : List ℕ) → IsWay os (suc k) → block_at new c os ≢ 0 → type (block_at new c os) ≡ node
      set_nodes k os way_to some = elim (cases_eq (block_at old c os) 0) [
        | inr there ↦ ap type (set_way (suc k) os way_to there) ∙ a.is_block.nodes k os way_to there
        | inl z ↦ elim (grows (suc k) os way_to z) [
          | inl none ↦ absurd (some none)
          | inr is ↦ ap type is.0 ∙ y_type k is.1
        ]
      ]

      set_leaves : (i : ℕ) → i < leaf_count → leaf_block new c i ≢ 0 → type (leaf_block new c i) ≡ 2
      set_leaves i few some = elim (cases_eq (leaf_block old c i) 0) [
        | inr there ↦ ap type (set_way 0 (steps i) (steps_way i) there) ∙ a.leaves i few there
        | inl z ↦ elim (grows 0 (steps i) (steps_way i) z) [
          | inl none ↦ absurd (some none)
          | inr is ↦ ap type is.0 ∙ (is_new.typed ∙ as_data (sym is.1))
        ]
      ]

      pub set_files : files_of new top ≡ files_of old top
      set_files = files_read node inode top type type old new a.volume set_kept

      pub set_aside : IsAside type new
      set_aside = record {
        volume = volume_read node inode top type type old new a.volume set_kept set_apart set_whole;
        there = a.there;
        no_root = a.no_root;
        is_block = record { typed = a.is_block.typed; nodes = set_nodes };
        leaves = set_leaves;
        unled = λ p r has same. elim (which p r) [
          | inl one ↦ y_other (sym (is_y p r one.0 one.1) ∙ same)
          | inr one ↦ a.unled p r has (sym (set.others p r has one) ∙ same)
        ];
      }

      -- the way to the holder stays, and leads on to the new block
      pub set_above : block_at new c q ≡ h
      set_above = by q way h_is
        where
          by : (q : List ℕ) → IsWay (o ∷ q) l → block_at old c q ≡ h → block_at new c q ≡ h
          by [] way_to at = at
          by (p ∷ q) way_to at = set_way (suc l) (p ∷ q) way_to.3 (λ z. h_there (sym at ∙ z)) ∙ at

      pub set_there : block_at new c (o ∷ q) ≡ y.block
      set_there = ap (λ x. pointed new x o) set_above ∙ set.now

      -- other new blocks stay so
      pub set_new : (x : New) → IsNew node inode type old top x → x.block ≢ c → IsOther y x → IsNew node inode type new top x
      set_new x is x_other ne = record {
        there = is.there;
        within = is.within;
        no_root = is.no_root;
        unled = λ p i has_p same. elim (which p i) [
          | inl one ↦ ne (sym same ∙ is_y p i one.0 one.1)
          | inr one ↦ is.unled p i has_p (sym (set.others p i has_p one) ∙ same)
        ];
        typed = is.typed;
        some_type = is.some_type;
        bytes = set.changed x.block (new_other x is x_other) ∙ is.bytes;
        bare = is.bare;
      }

  -- A block beside it changes

  module _ (type type' : ℕ → ℕ) (old new : ℕ → List ℕ) (a : IsAside type old) (b : ℕ) (other : b ≢ c)
      (kept : (x : ℕ) → x ≢ b → (type' x ≡ type x) × (new x ≡ old x))
      (led : (p o : ℕ) → p ≢ b → IsTrue (has_pointer node inode (type p) o) → pointed old p o ≢ b) (volume : IsVolume node inode type' new top)
      (bare : (o : ℕ) → IsTrue (has_pointer node inode (type' b) o) → pointed new b o ≢ c) where
    no_own : c ≢ b
    no_own same = other (sym same)

    way_beside : (k : ℕ) (os : List ℕ) → IsWay os k → block_at old c os ≢ 0 → block_at old c os ≢ b
    way_beside k [] way there = absurd way
    way_beside k (p ∷ []) way there = led c p no_own (way_pointer node inode top type old a.volume c a.is_block k p [] way a.there)
    way_beside k (p ∷ r ∷ q) way there = elim (cases_eq (block_at old c (r ∷ q)) 0) [
      | inl z ↦ absurd (there (nowhere old (block_at old c (r ∷ q)) p z))
      | inr some ↦
          led (block_at old c (r ∷ q)) p (way_beside (suc k) (r ∷ q) way.3 some)
          (way_pointer node inode top type old a.volume c a.is_block k p (r ∷ q) way some)
    ]

    point_beside : (p : ℕ) (q : List ℕ) → block_at new c q ≡ block_at old c q → (block_at old c q ≢ 0 → block_at old c q ≢ b) →
        block_at new c (p ∷ q) ≡ block_at old c (p ∷ q)
    point_beside p q same apart = ap (λ x. pointed new x p) same ∙ elim (cases_eq (block_at old c q) 0) [
      | inl z ↦ nowhere new (block_at old c q) p z ∙ sym (nowhere old (block_at old c q) p z)
      | inr some ↦ ap (λ m. if block_at old c q == 0 then 0 else word_at m p) (kept (block_at old c q) (apart some)).1
    ]

    same_beside : (k : ℕ) (os : List ℕ) → IsWay os k → block_at new c os ≡ block_at old c os
    same_beside k [] way = absurd way
    same_beside k (p ∷ []) way = point_beside p [] refl (λ some. no_own)
    same_beside k (p ∷ r ∷ q) way = point_beside p (r ∷ q) (same_beside (suc k) (r ∷ q) way.3) (way_beside (suc k) (r ∷ q) way.3)

    type_beside : (k : ℕ) (os : List ℕ) → IsWay os k → block_at old c os ≢ 0 → type' (block_at new c os) ≡ type (block_at old c os)
    type_beside k os way there = ap type' (same_beside k os way) ∙ (kept (block_at old c os) (way_beside k os way there)).0

    pub beside_aside : IsAside type' new
    beside_aside = record {
      volume = volume;
      there = a.there;
      no_root = a.no_root;
      is_block = record {
        typed = (kept c no_own).0 ∙ a.is_block.typed;
        nodes = λ l os way some.
            let there : block_at old c os ≢ 0 = λ z. some (same_beside (suc l) os way ∙ z) in
            type_beside (suc l) os way there ∙ a.is_block.nodes l os way there;
      };
      leaves = λ i few some.
          let there : leaf_block old c i ≢ 0 = λ z. some (same_beside 0 (steps i) (steps_way i) ∙ z) in
          type_beside 0 (steps i) (steps_way i) there ∙ a.leaves i few there;
      unled = λ p o has. elim (cases_eq p b) [
        | inl same ↦
            (λ led_to. bare o (subst (λ x. IsTrue (has_pointer node inode (type' x) o)) same has) (sym (ap (λ x. pointed new x o) same) ∙ led_to))
        | inr ne ↦
            (λ led_to. a.unled p o (subst (λ t. IsTrue (has_pointer node inode t o)) (kept p ne).0 has)
            (sym (ap (λ m. if p == 0 then 0 else word_at m o) (kept p ne).1) ∙ led_to))
      ];
    }

    pub beside_way : (k : ℕ) (os : List ℕ) → IsWay os k → block_at new c os ≡ block_at old c os
    beside_way = same_beside

    pub beside_leaf : (i : ℕ) → leaf_block old c i ≢ 0 → new (leaf_block old c i) ≡ old (leaf_block old c i)
    beside_leaf i there = (kept (leaf_block old c i) (way_beside 0 (steps i) (steps_way i) there)).1

    pub beside_own : (type' c ≡ type c) × (new c ≡ old c)
    beside_own = kept c no_own
