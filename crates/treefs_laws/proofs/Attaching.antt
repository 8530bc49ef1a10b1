-- A new block is attached to a file: a node without pointers, or a leaf of zeros. The bytes of the file are as before, also those past its size.
use Rattle.std.proofs.Common.{◌≡◌, ◌≢◌, ◌⊎◌, ℕ, zero, suc, ◌/◌, ◌%◌, ◌<◌, ◌-◌, Bool, true, false, ◌||◌, List, [], ◌∷◌, Option, refl, sym, ◌∙◌, ap, inl, inr, subst, arith, get_or, if◌then◌else◌}
use Rattle.std.specs.Prelude.{IsTrue, nat_lt, slice_index, ◌==◌}
use Rattle.std.proofs.lemmas.Bool.{cases_eq, ne_eqb}
use Rattle.std.proofs.lemmas.List.{get_or-drop}
use Rattle.xn_model.specs.BareDisks.{zeros}
use Rattle.xn_model.specs.Root.{word_at}
use Rattle.treefs_format.specs.Fields.{fields_of}
use Rattle.treefs_format.specs.Inodes.{content_of}
use Rattle.treefs_format.specs.Leaves.{greatest_size}
use Rattle.treefs_format.specs.Paths.{leaf_count, node_offset, steps}
use Rattle.treefs_model.specs.Acts.{attach_act}
use Rattle.treefs_model.specs.Reading.{block_at, byte_of, files_of, inode_block, leaf_block, leaf_byte, pointed}
use Rattle.treefs_model.specs.Trees.{has_pointer}
use Rattle.treefs_edits.specs.Written.{written}
use Rattle.treefs_values.specs.Attached.{IsEmptyBlock, IsPointerSet}
use Rattle.treefs_values.specs.Volumes.{IsVolume, IsWholeBlock}
use Rattle.treefs_values.specs.Ways.{ArePointersApart, IsWay, block_numbered}
use Rattle.treefs_values.proofs.ForCallers.{IsNew, IsOther, New, empty_attached, inode_pointer, node_pointer, pointer_attached, steps_way}
use Rattle.treefs_laws.proofs.Fading.{byte_by}
use Rattle.treefs_laws.proofs.TrimBlanks.{zeros_are}

-- the block of a pointer on a way
pub way_pointer : (node inode top : ℕ) (type : ℕ → ℕ) (content : ℕ → List ℕ) → IsVolume node inode type content top → (n l o : ℕ) (q : List ℕ) → IsWay
    (o ∷ q) l →
    block_at content (block_numbered content top n) q ≢ 0 → IsTrue (has_pointer node inode (type (block_at content (block_numbered content top n) q)) o)
way_pointer node inode top type content v n l o [] way there = inode_pointer node inode (type (block_numbered content top n)) o l (v.typed.inodes n there) way
way_pointer node inode top type content v n l o (p ∷ q) way there =
    node_pointer node inode (type (block_at content (block_numbered content top n) (p ∷ q))) o way.0 (v.typed.nodes n l (p ∷ q) way.3 there) way.1 way.2

-- such a block is an inode, or a node
pub way_type : (node inode top : ℕ) (type : ℕ → ℕ) (content : ℕ → List ℕ) → IsVolume node inode type content top → (n l o : ℕ) (q : List ℕ) → IsWay (o ∷ q) l →
    block_at content (block_numbered content top n) q ≢ 0 →
    (type (block_at content (block_numbered content top n) q) ≡ inode) ⊎ (type (block_at content (block_numbered content top n) q) ≡ node)
way_type node inode top type content v n l o [] way there = inl (v.typed.inodes n there)
way_type node inode top type content v n l o (p ∷ q) way there = inr (v.typed.nodes n l (p ∷ q) way.3 there)

-- no new block but an inode stands there
pub not_on_way : (node inode top : ℕ) (type : ℕ → ℕ) (content : ℕ → List ℕ) → IsVolume node inode type content top → (n l o : ℕ) (q : List ℕ) → IsWay
    (o ∷ q) l →
    block_at content (block_numbered content top n) q ≢ 0 → (y : New) → IsNew node inode type content top y → y.ty ≢ inode → y.block ≢ block_at content
    (block_numbered content top n) q
not_on_way node inode top type content v n l o [] way there y new ne same = ne (sym new.typed ∙ (ap type same ∙ v.typed.inodes n there))
not_on_way node inode top type content v n l o (p ∷ q) way there y new ne same = elim (cases_eq (block_at content (block_numbered content top n) q) 0) [
  | inl z ↦ there (ap (λ x. pointed content x p) z)
  | inr some ↦ new.unled (block_at content (block_numbered content top n) q) p (way_pointer node inode top type content v n (suc l) p q way.3 some) (sym same)
]

module _ (node inode top : ℕ) (type : ℕ → ℕ) (c : ℕ → List ℕ) (v : IsVolume node inode type c top) (n : ℕ) (number : n ≢ 0)
    (l o : ℕ) (above : List ℕ) (way : IsWay (o ∷ above) l) (holder_there : block_at c (block_numbered c top n) above ≢ 0)
    (y : New) (new : IsNew node inode type c top y) (as_node : (k : ℕ) → l ≡ suc k → y.ty ≡ node) (as_data : l ≡ 0 → y.ty ≡ 2)
    (none : pointed c (block_at c (block_numbered c top n) above) o ≡ 0) (ty : ℕ) (behind : Option ℕ) where
  abbrev block : ℕ → ℕ
  block m = block_numbered c top m

  abbrev holder : ℕ
  holder = block_at c (block n) above

  abbrev pub attached : ℕ → List ℕ
  attached = written (attach_act holder o ty (y.block ∷ []) behind) c

  has : IsTrue (has_pointer node inode (type holder) o)
  has = way_pointer node inode top type c v n l o above way holder_there

  holder_type : (type holder ≡ inode) ⊎ (type holder ≡ node)
  holder_type = way_type node inode top type c v n l o above way holder_there

  whole : IsWholeBlock (c holder)
  whole = v.blocks holder (λ z. elim holder_type [ inl is ↦ v.some_types.1 (sym is ∙ z) | inr is ↦ v.some_types.0 (sym is ∙ z) ])

  both : IsPointerSet node inode type c attached holder o y.block × IsWholeBlock (attached holder)
  both = pointer_attached node inode type c holder o ty y.block behind v.types.0 holder_there whole has none new.within

  pub set : IsPointerSet node inode type c attached holder o y.block
  set = both.0

  y_type : (y.ty ≡ node) ⊎ (y.ty ≡ 2)
  y_type = by l refl
    where
      by : (k : ℕ) → l ≡ k → (y.ty ≡ node) ⊎ (y.ty ≡ 2)
      by zero e = inr (as_data e)
      by (suc k) e = inl (as_node k e)

  pub not_inode : y.ty ≢ inode
  not_inode is = elim y_type [ inl of_node ↦ v.types.0 (sym of_node ∙ is) | inr of_data ↦ v.types.2 (sym of_data ∙ is) ]

  pub other : y.block ≢ holder
  other = not_on_way node inode top type c v n l o above way holder_there y new not_inode

  -- pointers stay apart

  -- which pointer it is
  which : (p q : ℕ) → ((p ≡ holder) × (q ≡ o)) ⊎ ((p ≢ holder) ⊎ (q ≢ o))
  which p q = elim (cases_eq p holder) [
    | inl here ↦ elim (cases_eq q o) [ inl at ↦ inl (here, at) | inr ne ↦ inr (inr ne) ]
    | inr ne ↦ inr (inl ne)
  ]

  is_new : (p q : ℕ) → p ≡ holder → q ≡ o → pointed attached p q ≡ y.block
  is_new p q here at = (λ j. pointed attached (here j) (at j)) ∙ set.now

  apart : ArePointersApart node inode type attached top
  apart = record {
    once = λ p q i j has_p has_q some same. elim (which p i) [
      | inl one ↦ elim (which q j) [
        | inl two ↦ (one.0 ∙ sym two.0, one.1 ∙ sym two.1)
        | inr two ↦ absurd (new.unled q j has_q (sym (set.others q j has_q two) ∙ (sym same ∙ is_new p i one.0 one.1)))
      ]
      | inr one ↦ elim (which q j) [
        | inl two ↦ absurd (new.unled p i has_p (sym (set.others p i has_p one) ∙ (same ∙ is_new q j two.0 two.1)))
        | inr two ↦ v.apart.once p q i j has_p has_q (λ z. some (set.others p i has_p one ∙ z))
            (sym (set.others p i has_p one) ∙ (same ∙ set.others q j has_q two))
      ]
    ];
    root = λ p i has_p is. elim (which p i) [
      | inl one ↦ new.no_root (sym is ∙ is_new p i one.0 one.1)
      | inr one ↦ v.apart.root p i has_p (sym (set.others p i has_p one) ∙ is)
    ];
  }

  -- Ways that lead somewhere stay

  point : (m k p : ℕ) (q : List ℕ) → IsWay (p ∷ q) k → (block_at c (block m) q ≢ 0 → block_at attached (block m) q ≡ block_at c (block m) q) →
      block_at c (block m) (p ∷ q) ≢ 0 → block_at attached (block m) (p ∷ q) ≡ block_at c (block m) (p ∷ q)
  point m k p q way same there = elim (cases_eq (block_at c (block m) q) 0) [
    | inl z ↦ absurd (there (ap (λ x. pointed c x p) z))
    | inr some ↦
        ap (λ x. pointed attached x p) (same some)
        ∙ elim (which (block_at c (block m) q) p) [
          | inl one ↦ absurd (there ((λ j. pointed c (one.0 j) (one.1 j)) ∙ none))
          | inr one ↦ set.others (block_at c (block m) q) p (way_pointer node inode top type c v m k p q way some) one
        ]
  ]

  pub way_stays : (m k : ℕ) (os : List ℕ) → IsWay os k → block_at c (block m) os ≢ 0 → block_at attached (block m) os ≡ block_at c (block m) os
  way_stays m k [] way there = absurd way
  way_stays m k (p ∷ []) way there = point m k p [] way (λ some. refl) there
  way_stays m k (p ∷ r ∷ q) way there = point m k p (r ∷ q) way (way_stays m (suc k) (r ∷ q) way.3) there

  n_there : block n ≢ 0
  n_there z = holder_there (nothing above)
    where
      nothing : (os : List ℕ) → block_at c (block n) os ≡ 0
      nothing [] = z
      nothing (r ∷ os) = ap (λ x. pointed c x r) (nothing os)

  pub attached_numbered : block_numbered attached top n ≡ block n
  attached_numbered = ap (λ t. if t then top else inode_block attached top n) (ne_eqb n 0 number)
      ∙ (by ((n == 0) || nat_lt leaf_count n) refl ∙ sym (ap (λ t. if t then top else inode_block c top n) (ne_eqb n 0 number)))
    where
      by : (t : Bool) → ((n == 0) || nat_lt leaf_count n) ≡ t → inode_block attached top n ≡ inode_block c top n
      by true e = ap (λ t. if t then 0 else leaf_block attached top (n - 1)) e ∙ sym (ap (λ t. if t then 0 else leaf_block c top (n - 1)) e)
      by false e =
          let is : block n ≡ leaf_block c top (n - 1) =
          ap (λ t. if t then top else inode_block c top n) (ne_eqb n 0 number) ∙ ap (λ t. if t then 0 else leaf_block c top (n - 1)) e in
          ap (λ t. if t then 0 else leaf_block attached top (n - 1)) e
          ∙ (way_stays 0 0 (steps (n - 1)) (steps_way (n - 1)) (λ z. n_there (is ∙ z)) ∙ sym (ap (λ t. if t then 0 else leaf_block c top (n - 1)) e))

  -- Fields, and other new blocks

  own_content : content_of (attached (block n)) ≡ content_of (c (block n))
  own_content = elim (cases_eq (block n) holder) [
    | inl here ↦
        ap (λ x. content_of (attached x)) here
        ∙ (set.contents (ap type (sym here) ∙ v.typed.inodes n n_there) ∙ sym (ap (λ x. content_of (c x)) here))
    | inr ne ↦ ap content_of (set.changed (block n) ne)
  ]

  pub attached_fields : fields_of (attached (block n)) ≡ fields_of (c (block n))
  attached_fields = elim (cases_eq (block n) holder) [
    | inl here ↦
        ap (λ x. fields_of (attached x)) here
        ∙ (set.fields (ap type (sym here) ∙ v.typed.inodes n n_there) ∙ sym (ap (λ x. fields_of (c x)) here))
    | inr ne ↦ ap fields_of (set.changed (block n) ne)
  ]

  -- the way stays, and leads to the block
  pub above_stays : block_at attached (block n) above ≡ holder
  above_stays = by above way holder_there
    where
      by : (q : List ℕ) → IsWay (o ∷ q) l → block_at c (block n) q ≢ 0 → block_at attached (block n) q ≡ block_at c (block n) q
      by [] way some = refl
      by (p ∷ q) way some = way_stays n (suc l) (p ∷ q) way.3 some

  pub attached_there : block_at attached (block n) (o ∷ above) ≡ y.block
  attached_there = ap (λ x. pointed attached x o) above_stays ∙ set.now

  -- Other new blocks stay so
  pub attached_keeps : (x : New) → IsNew node inode type c top x → IsOther y x → x.block ≢ holder → IsNew node inode type attached top x
  attached_keeps x is ne apart_from = record {
    there = is.there;
    within = is.within;
    no_root = is.no_root;
    unled = λ p i has_p same. elim (which p i) [
      | inl one ↦ ne (sym same ∙ is_new p i one.0 one.1)
      | inr one ↦ is.unled p i has_p (sym (set.others p i has_p one) ∙ same)
    ];
    typed = is.typed;
    some_type = is.some_type;
    bytes = set.changed x.block apart_from ∙ is.bytes;
    bare = is.bare;
  }

  -- A node, or a leaf of zeros

  module _ (as_zeros : l ≡ 0 → y.bytes ≡ zeros 512) where
    empty_block : IsEmptyBlock node inode type c n l y.block
    empty_block = record {
      there = new.there;
      node_above = λ k e. new.typed ∙ as_node k e;
      leaf_of = λ e. number;
      leaf_type = λ e. new.typed ∙ as_data e;
      leaf_bytes = λ e. new.bytes ∙ as_zeros e;
      bare = λ p is. ap (λ m. word_at m p) new.bytes ∙ new.bare p (sym (ap (λ t. has_pointer node inode t p) new.typed) ∙ is);
    }

    made : IsVolume node inode type attached top × (files_of attached top ≡ files_of c top)
    made = empty_attached node inode top type c attached v n l o y.block above way holder_there set empty_block other apart both.1

    pub attached_volume : IsVolume node inode type attached top
    attached_volume = made.0

    pub attached_files : files_of attached top ≡ files_of c top
    attached_files = made.1

    -- Ways that led nowhere lead nowhere, or to the new block

    abbrev Grows : ℕ → List ℕ → Type 0
    Grows k os = (block_at attached (block n) os ≡ 0) ⊎ (block_at attached (block n) os ≡ y.block)

    new_bare : (k p : ℕ) (q : List ℕ) → IsWay q (suc k) → (j : ℕ) → j < 127 → p ≡ node_offset j → block_at attached (block n) q ≡ y.block → pointed attached
        y.block p ≡ 0
    new_bare k p q way j lt at is =
        let typed = subst (λ x. block_at attached x q ≢ 0 → type (block_at attached x q) ≡ node) attached_numbered (attached_volume.typed.nodes n k q way)
        (λ z. new.there (sym is ∙ z)) in
        let has_y = node_pointer node inode (type y.block) p j (ap type (sym is) ∙ typed) lt at in
        set.others y.block p has_y (inl other)
        ∙ (ap (λ t. if t then 0 else word_at (c y.block) p) (ne_eqb y.block 0 new.there)
        ∙ (ap (λ m. word_at m p) new.bytes ∙ new.bare p (sym (ap (λ t. has_pointer node inode t p) new.typed) ∙ has_y)))

    from_there : (k p : ℕ) (q : List ℕ) → IsWay (p ∷ q) k → block_at attached (block n) q ≡ block_at c (block n) q → block_at c (block n) (p ∷ q) ≡ 0 →
        Grows k (p ∷ q)
    from_there k p q way same z = elim (cases_eq (block_at c (block n) q) 0) [
      | inl none ↦ inl (ap (λ x. pointed attached x p) (same ∙ none))
      | inr some ↦ elim (which (block_at c (block n) q) p) [
        | inl one ↦ inr (ap (λ x. pointed attached x p) same ∙ is_new (block_at c (block n) q) p one.0 one.1)
        | inr one ↦ inl (ap (λ x. pointed attached x p) same ∙ (set.others (block_at c (block n) q) p (way_pointer node inode top type c v n k p q way some)
            one ∙ z))
      ]
    ]

    grows : (k : ℕ) (os : List ℕ) → IsWay os k → block_at c (block n) os ≡ 0 → Grows k os
    grows k [] way z = absurd way
    grows k (p ∷ []) way z = from_there k p [] way refl z
    grows k (p ∷ r ∷ q) way z = elim (cases_eq (block_at c (block n) (r ∷ q)) 0) [
      | inr some ↦ from_there k p (r ∷ q) way (way_stays n (suc k) (r ∷ q) way.3 some) z
      | inl none ↦ elim (grows (suc k) (r ∷ q) way.3 none) [
        | inl gone ↦ inl (ap (λ x. pointed attached x p) gone)
        | inr is ↦ inl (ap (λ x. pointed attached x p) is ∙ new_bare k p (r ∷ q) way.3 way.0 way.1 way.2 is)
      ]
    ]

    -- The bytes of the file

    leaf_other : (i : ℕ) → i < leaf_count → leaf_block c (block n) i ≢ 0 → leaf_block c (block n) i ≢ holder
    leaf_other i few some same =
        let of_data = v.typed.leaves n i number few some in
        elim holder_type [ inl is ↦ v.types.2 (sym of_data ∙ (ap type same ∙ is)) | inr is ↦ v.types.1 (sym of_data ∙ (ap type same ∙ is)) ]

    -- a leaf that comes to be there has no bytes but 0
    new_byte : (i at : ℕ) → i < leaf_count → leaf_block c (block n) i ≡ 0 → leaf_byte attached (leaf_block attached (block n) i) at ≡ 0
    new_byte i at few z = elim (grows 0 (steps i) (steps_way i) z) [
      | inl none ↦ ap (λ x. leaf_byte attached x at) none
      | inr is ↦
          let of_data = subst (λ x. leaf_block attached x i ≢ 0 → type (leaf_block attached x i) ≡ 2) attached_numbered
          (attached_volume.typed.leaves n i number few) (λ e. new.there (sym is ∙ e)) in
          ap (λ x. leaf_byte attached x at) is
          ∙ (ap (λ t. if t then 0 else slice_index (attached y.block) at) (ne_eqb y.block 0 new.there)
          ∙ (ap (λ m. slice_index m at) (set.changed y.block other ∙ new.bytes) ∙ no_bytes (ap type (sym is) ∙ of_data)))
    ]
      where
        by : (k : ℕ) → l ≡ k → type y.block ≡ 2 → slice_index y.bytes at ≡ 0
        by zero e is = ap (λ m. slice_index m at) (as_zeros e) ∙ zeros_are 512 at
        by (suc k) e is = absurd (v.types.1 (sym is ∙ (new.typed ∙ as_node k e)))

        no_bytes : type y.block ≡ 2 → slice_index y.bytes at ≡ 0
        no_bytes is = by l refl is

    leaf_same : (i at : ℕ) → i < leaf_count → leaf_byte attached (leaf_block attached (block n) i) at ≡ leaf_byte c (leaf_block c (block n) i) at
    leaf_same i at few = elim (cases_eq (leaf_block c (block n) i) 0) [
      | inl z ↦ new_byte i at few z ∙ sym (ap (λ x. leaf_byte c x at) z)
      | inr some ↦
          ap (λ x. leaf_byte attached x at) (way_stays n 0 (steps i) (steps_way i) some)
          ∙ ap (λ m. if leaf_block c (block n) i == 0 then 0 else slice_index m at) (set.changed (leaf_block c (block n) i) (leaf_other i few some))
    ]

    pub attached_byte : (p : ℕ) → p < greatest_size → byte_of attached (block n) p ≡ byte_of c (block n) p
    attached_byte p low = by (nat_lt p 384) refl
      where
        by : (t : Bool) → nat_lt p 384 ≡ t → byte_of attached (block n) p ≡ byte_of c (block n) p
        by true e =
            ap (byte_by attached (block n) p) e ∙ (sym (get_or-drop 128 (attached (block n)) p 0) ∙
            (ap (λ x. get_or x p 0) own_content ∙ (get_or-drop 128 (c (block n)) p 0 ∙ sym (ap (byte_by c (block n) p) e))))
        by false e = ap (byte_by attached (block n) p) e ∙ (leaf_same (p / 512) (p % 512) (omega arith) ∙ sym (ap (byte_by c (block n) p) e))
