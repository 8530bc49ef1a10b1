-- An inode that has no number, in a volume of its own: as its inode 1, below a root block that no pointer can name.
use Rattle.std.proofs.Common.{◌≡◌, ◌≢◌, ◌⊎◌, ℕ, suc, ◌+◌, ◌*◌, ◌-◌, ◌<◌, ◌^◌, Bool, true, false, ◌||◌, List, [], ◌∷◌, None, Some, refl, sym, ◌∙◌, ap, inl, inr, arith, subst, if◌then◌else◌}
use Rattle.std.specs.Prelude.{All, IsTrue, nat_lt, ◌==◌}
use Rattle.std.proofs.lemmas.Bool.{cases_eq, eq-eqb, ne_eqb}
use Rattle.std.proofs.lemmas.List.Elements.{All-head, All-tail}
use Rattle.std.proofs.lemmas.Option.{same_Some}
use Rattle.xn_model.specs.Calls.{patched}
use Rattle.xn_model.specs.Root.{word_at}
use Rattle.treefs_format.specs.Fields.{fields_of}
use Rattle.treefs_format.specs.Inodes.{kind_of}
use Rattle.treefs_format.specs.Nodes.{node_bytes}
use Rattle.treefs_format.specs.Paths.{leaf_count, steps}
use Rattle.treefs_format.specs.declared.kind.Kind.{Kind}
use Rattle.treefs_format.specs.declared.kind.Kind.TheVariants as kind
use Rattle.treefs_format.proofs.ForCallers.{node_children, node_long, paths_once}
use Rattle.treefs_model.specs.Acts.{Act, attach_act}
use Rattle.treefs_model.specs.Reading.{block_at, leaf_block, pointed}
use Rattle.treefs_model.specs.Trees.{has_pointer}
use Rattle.treefs_edits.specs.Written.{all_written, written}
use Rattle.treefs_values.specs.Attached.{IsPointerSet}
use Rattle.treefs_values.specs.Begun.{with_block}
use Rattle.treefs_values.specs.Volumes.{IsVolume, IsWholeBlock}
use Rattle.treefs_values.specs.Ways.{ArePointersApart, IsFirst, IsTyped, IsWay, block_numbered}
use Rattle.treefs_values.proofs.ForCallers.{AreNew, IsAlike, IsNew, New, bare_node, counted, inode_numbered, inode_pointer, low_offset, node_small, pointer_attached}
use Rattle.treefs_laws.proofs.AsideTree.{IsAside, nowhere}
use Rattle.treefs_laws.proofs.InRange.{word_fits}
use Rattle.treefs_laws.proofs.WaysApart.{none_below, of_types, steps_way, way_pointer}

-- edits change each block by itself
pub written_alike : (acts : List Act) (f g : ℕ → List ℕ) (x : ℕ) → f x ≡ g x → all_written acts f x ≡ all_written acts g x
written_alike [] f g x same = same
written_alike (act ∷ acts) f g x same =
    written_alike acts (written act f) (written act g) x (ap (λ m. if x == act.block then patched m act.edit.patches else m) same)

abbrev pub own_root : ℕ
own_root = 2 ^ 32

-- the blocks with that root block, which leads to inode c alone
abbrev blank : (ℕ → List ℕ) → ℕ → List ℕ
blank content = with_block content own_root (node_bytes 0)

module _ (node inode top c : ℕ) where
  abbrev pub own_type : (ℕ → ℕ) → ℕ → ℕ
  own_type type = with_block type own_root inode

  abbrev pub own_content : (ℕ → List ℕ) → ℕ → List ℕ
  own_content content = written (attach_act own_root 48 inode (c ∷ []) None) (blank content)

  module _ (type : ℕ → ℕ) (content : ℕ → List ℕ) (a : IsAside node inode top c type content) (within : c < 2 ^ 32) where
    abbrev t' : ℕ → ℕ
    t' = own_type type

    abbrev m' : ℕ → List ℕ
    m' = own_content content

    root_some : own_root ≢ 0
    root_some z = absurd (omega (arith, z))

    c_other : c ≢ own_root
    c_other same = absurd (omega (arith, same))

    type_root : t' own_root ≡ inode
    type_root = ap (λ t. if t then inode else type own_root) (eq-eqb own_root own_root refl)

    pub type_other : (x : ℕ) → x ≢ own_root → t' x ≡ type x
    type_other x ne = ap (λ t. if t then inode else type x) (ne_eqb x own_root ne)

    blank_root : blank content own_root ≡ node_bytes 0
    blank_root = ap (λ t. if t then node_bytes 0 else content own_root) (eq-eqb own_root own_root refl)

    blank_other : (x : ℕ) → x ≢ own_root → blank content x ≡ content x
    blank_other x ne = ap (λ t. if t then node_bytes 0 else content x) (ne_eqb x own_root ne)

    blank_whole : IsWholeBlock (blank content own_root)
    blank_whole = subst IsWholeBlock (sym blank_root) (node_long 0, node_small 0 (omega arith))

    blank_zero : (o : ℕ) → IsTrue (has_pointer node inode (t' own_root) o) → pointed (blank content) own_root o ≡ 0
    blank_zero o has =
        let stands = low_offset node inode (t' own_root) o has in
        ap (λ m. word_at m o) blank_root ∙ bare_node (node_bytes 0) (node_children 0) o stands.0 stands.1 stands.2

    first_way : IsFirst 48 0
    first_way = inl (0, omega arith, refl, refl)

    first_has : IsTrue (has_pointer node inode (t' own_root) 48)
    first_has = inode_pointer node inode (t' own_root) 48 0 type_root first_way

    both : IsPointerSet node inode t' (blank content) m' own_root 48 c × IsWholeBlock (m' own_root)
    both = pointer_attached node inode t' (blank content) own_root 48 inode c None a.volume.types.0 root_some blank_whole first_has (blank_zero 48 first_has)
        within

    abbrev set : IsPointerSet node inode t' (blank content) m' own_root 48 c
    set = both.0

    pub other_same : (x : ℕ) → x ≢ own_root → m' x ≡ content x
    other_same x ne = set.changed x ne ∙ blank_other x ne

    -- what its pointers lead to
    root_point : (o : ℕ) → IsTrue (has_pointer node inode (t' own_root) o) → ((o ≡ 48) × (pointed m' own_root o ≡ c)) ⊎ (pointed m' own_root o ≡ 0)
    root_point o has = elim (cases_eq o 48) [
      | inl is ↦ inl (is, ap (pointed m' own_root) is ∙ set.now)
      | inr ne ↦ inr (set.others own_root o has (inr ne) ∙ blank_zero o has)
    ]

    -- others lead to no such block
    low_point : (b o : ℕ) → (b ≢ 0 → IsTrue (has_pointer node inode (type b) o)) → pointed content b o ≢ own_root
    low_point b o has same = elim (cases_eq b 0) [
      | inl z ↦ root_some (sym same ∙ nowhere node inode top c content b o z)
      | inr some ↦
          let whole = a.volume.blocks b (of_types node inode (type b) o a.volume.some_types.0 a.volume.some_types.1 (has some)) in
          let word : word_at (content b) o ≡ own_root = sym (ap (λ t. if t then 0 else word_at (content b) o) (ne_eqb b 0 some)) ∙ same in
          let low = word_fits (content b) whole.1 o in
          absurd (omega (arith, word, low))
    ]

    pub low_at : (k p : ℕ) (q : List ℕ) → IsWay (p ∷ q) k → block_at content c q ≢ own_root
    low_at k p [] way = c_other
    low_at k p (r ∷ q) way = low_point (block_at content c q) r (way_pointer node inode top type content a.volume c a.is_block (suc k) r q way.3)

    pub low_way : (k : ℕ) (os : List ℕ) → IsWay os k → block_at content c os ≢ own_root
    low_way k [] way = absurd way
    low_way k (p ∷ q) way = low_point (block_at content c q) p (way_pointer node inode top type content a.volume c a.is_block k p q way)

    -- Blocks that are the same but for that one

    module _ (new : ℕ → List ℕ) (same : (x : ℕ) → x ≢ own_root → new x ≡ content x) where
      same_point : (k p : ℕ) (q : List ℕ) → IsWay (p ∷ q) k → block_at new c q ≡ block_at content c q → block_at new c (p ∷ q) ≡ block_at content c (p ∷ q)
      same_point k p q way at =
          ap (λ x. pointed new x p) at
          ∙ ap (λ m. if block_at content c q == 0 then 0 else word_at m p) (same (block_at content c q) (low_at k p q way))

      pub same_way : (k : ℕ) (os : List ℕ) → IsWay os k → block_at new c os ≡ block_at content c os
      same_way k [] way = absurd way
      same_way k (p ∷ []) way = same_point k p [] way refl
      same_way k (p ∷ r ∷ q) way = same_point k p (r ∷ q) way (same_way (suc k) (r ∷ q) way.3)

      pub same_alike : IsAlike content new c
      same_alike = record {
        own = same c c_other;
        leaves = λ i. same_way 0 (steps i) (steps_way i);
        bytes = λ i some. same (leaf_block content c i) (low_way 0 (steps i) (steps_way i));
      }

    pub own_way : (k : ℕ) (os : List ℕ) → IsWay os k → block_at m' c os ≡ block_at content c os
    own_way = same_way m' other_same

    -- Its numbers

    -- from the root block one pointer leads on
    root_way : (k : ℕ) (os : List ℕ) → IsWay os k → ((os ≡ 48 ∷ []) × (k ≡ 0) × (block_at m' own_root os ≡ c)) ⊎ (block_at m' own_root os ≡ 0)
    root_way k [] way = absurd way
    root_way k (p ∷ []) way = elim (root_point p (inode_pointer node inode (t' own_root) p k type_root way)) [
      | inl is ↦ inl (ap (λ o. o ∷ []) is.0, no_height is.0 way, is.1)
      | inr z ↦ inr z
    ]
      where
        no_height : p ≡ 48 → IsFirst p k → k ≡ 0
        no_height is (inl leaf) = leaf.3
        no_height is (inr tree) = let low = tree.0 in let at : p ≡ 108 + 4 * k = tree.2 in absurd (omega arith)
    root_way k (p ∷ r ∷ q) way = elim (root_way (suc k) (r ∷ q) way.3) [
      | inl is ↦ absurd (omega (arith, is.1))
      | inr z ↦ inr (ap (λ x. pointed m' x p) z)
    ]

    pub own_number : block_numbered m' own_root 1 ≡ c
    own_number = set.now

    one_number : (n : ℕ) → (n ≡ 0) ⊎ ((n ≡ 1) ⊎ ((n ≢ 0) × (block_numbered m' own_root n ≡ 0)))
    one_number n = elim (cases_eq n 0) [
      | inl z ↦ inl z
      | inr some ↦ inr (elim (cases_eq n 1) [ inl is ↦ inl is | inr ne ↦ inr (some, by some ne ((n == 0) || nat_lt leaf_count n) refl) ])
    ]
      where
        only : (n : ℕ) → n ≢ 0 → n - 1 ≡ 0 → n ≡ 1
        only n some zero = elim (cases_eq n 1) [ inl is ↦ is | inr ne ↦ absurd (omega (arith, some, ne)) ]

        by : n ≢ 0 → n ≢ 1 → (t : Bool) → ((n == 0) || nat_lt leaf_count n) ≡ t → block_numbered m' own_root n ≡ 0
        by some ne true e = inode_numbered m' own_root n some ∙ ap (λ t. if t then 0 else leaf_block m' own_root (n - 1)) e
        by some ne false e =
            inode_numbered m' own_root n some
            ∙ (ap (λ t. if t then 0 else leaf_block m' own_root (n - 1)) e
            ∙ elim (root_way 0 (steps (n - 1)) (steps_way (n - 1))) [
              | inl is ↦
                  let zero : n - 1 ≡ 0 = paths_once (n - 1) 0 (counted n e) (omega arith) is.0 in
                  absurd (ne (only n some zero))
              | inr z ↦ z
            ])

    -- what it leads to of one number
    at_number : (n k : ℕ) (os : List ℕ) → IsWay os k → block_at m' (block_numbered m' own_root n) os ≢ 0 →
        ((k ≡ 0) × (n ≡ 0)) ⊎ ((n ≡ 1) × (block_at m' (block_numbered m' own_root n) os ≡ block_at content c os))
    at_number n k os way some = elim (one_number n) [
      | inl z ↦
          let there : block_at m' own_root os ≢ 0 = λ e. some (ap (λ x. block_at m' (block_numbered m' own_root x) os) z ∙ e) in
          elim (root_way k os way) [ inl is ↦ inl (is.1, z) | inr e ↦ absurd (there e) ]
      | inr rest ↦ elim rest [
        | inl is ↦ inr (is, ap (λ x. block_at m' (block_numbered m' own_root x) os) is ∙ (ap (λ x. block_at m' x os) own_number ∙ own_way k os way))
        | inr none ↦ absurd (some (none_below m' (block_numbered m' own_root n) k os none.1 way))
      ]
    ]

    typed_way : (n k : ℕ) (os : List ℕ) → IsWay os k → block_at m' (block_numbered m' own_root n) os ≡ block_at content c os →
        t' (block_at m' (block_numbered m' own_root n) os) ≡ type (block_at content c os)
    typed_way n k os way is = ap t' is ∙ type_other (block_at content c os) (low_way k os way)

    own_typed : IsTyped node inode t' m' own_root
    own_typed = record {
      inodes = λ n some. elim (one_number n) [
        | inl z ↦ ap (λ x. t' (block_numbered m' own_root x)) z ∙ type_root
        | inr rest ↦ elim rest [
          | inl is ↦ ap (λ x. t' (block_numbered m' own_root x)) is ∙ (ap t' own_number ∙ (type_other c c_other ∙ a.is_block.typed))
          | inr none ↦ absurd (some none.1)
        ]
      ];
      nodes = λ n l os way some. elim (at_number n (suc l) os way some) [
        | inl is ↦ absurd (omega (arith, is.0))
        | inr is ↦ typed_way n (suc l) os way is.1 ∙ a.is_block.nodes l os way (λ z. some (is.1 ∙ z))
      ];
      leaves = λ n i number few some. elim (at_number n 0 (steps i) (steps_way i) some) [
        | inl is ↦ absurd (number is.1)
        | inr is ↦ typed_way n 0 (steps i) (steps_way i) is.1 ∙ a.leaves i few (λ z. some (is.1 ∙ z))
      ];
    }

    has_was : (p o : ℕ) → p ≢ own_root → IsTrue (has_pointer node inode (t' p) o) → IsTrue (has_pointer node inode (type p) o)
    has_was p o ne has = subst (λ t. IsTrue (has_pointer node inode t o)) (type_other p ne) has

    has_root : (p o : ℕ) → p ≡ own_root → IsTrue (has_pointer node inode (t' p) o) → IsTrue (has_pointer node inode (t' own_root) o)
    has_root p o is has = subst (λ x. IsTrue (has_pointer node inode (t' x) o)) is has

    was_point : (p o : ℕ) → p ≢ own_root → pointed m' p o ≡ pointed content p o
    was_point p o ne = ap (λ m. if p == 0 then 0 else word_at m o) (other_same p ne)

    -- the root block leads to c alone
    root_leads : (p o : ℕ) → p ≡ own_root → IsTrue (has_pointer node inode (t' p) o) → pointed m' p o ≢ 0 → (o ≡ 48) × (pointed m' p o ≡ c)
    root_leads p o is has some = elim (root_point o (has_root p o is has)) [
      | inl one ↦ (one.0, ap (λ x. pointed m' x o) is ∙ one.1)
      | inr z ↦ absurd (some (ap (λ x. pointed m' x o) is ∙ z))
    ]

    own_apart : ArePointersApart node inode t' m' own_root
    own_apart = record {
      once = λ p q o o' has has' some same. elim (cases_eq p own_root) [
        | inl is ↦
            let one = root_leads p o is has some in
            elim (cases_eq q own_root) [
              | inl is' ↦ let two = root_leads q o' is' has' (λ z. some (same ∙ z)) in (is ∙ sym is', one.0 ∙ sym two.0)
              | inr ne' ↦ absurd (a.unled q o' (has_was q o' ne' has') (sym (was_point q o' ne') ∙ (sym same ∙ one.1)))
            ]
        | inr ne ↦ elim (cases_eq q own_root) [
          | inl is' ↦
              let two = root_leads q o' is' has' (λ z. some (same ∙ z)) in
              absurd (a.unled p o (has_was p o ne has) (sym (was_point p o ne) ∙ (same ∙ two.1)))
          | inr ne' ↦ a.volume.apart.once p q o o' (has_was p o ne has) (has_was q o' ne' has') (λ z. some (was_point p o ne ∙ z))
              (sym (was_point p o ne) ∙ (same ∙ was_point q o' ne'))
        ]
      ];
      root = λ p o has is. elim (cases_eq p own_root) [
        | inl at ↦ c_other (sym (root_leads p o at has (λ z. root_some (sym is ∙ z))).1 ∙ is)
        | inr ne ↦ low_point p o (λ some. has_was p o ne has) (sym (was_point p o ne) ∙ is)
      ];
    }

    pub own_volume : (k : Kind) → kind_of (fields_of (content c)).mode ≡ Some k → k ≢ kind.Directory → IsVolume node inode t' m' own_root
    own_volume k is_kind no_directory = record {
      types = a.volume.types;
      some_types = a.volume.some_types;
      root = root_some;
      typed = own_typed;
      apart = own_apart;
      blocks = λ b some. elim (cases_eq b own_root) [
        | inl is ↦ subst (λ x. IsWholeBlock (m' x)) (sym is) both.1
        | inr ne ↦ subst IsWholeBlock (sym (other_same b ne)) (a.volume.blocks b (λ z. some (type_other b ne ∙ z)))
      ];
      directories = λ n number there is. elim (one_number n) [
        | inl z ↦ absurd (number z)
        | inr rest ↦ elim rest [
          | inl one ↦
              let own : kind_of (fields_of (m' (block_numbered m' own_root n))).mode ≡ Some k =
              ap (λ x. kind_of (fields_of (m' (block_numbered m' own_root x))).mode) one
              ∙ (ap (λ x. kind_of (fields_of (m' x)).mode) own_number ∙ (ap (λ m. kind_of (fields_of m).mode) (other_same c c_other) ∙ is_kind)) in
              absurd (no_directory (same_Some k kind.Directory (sym own ∙ is)))
          | inr none ↦ absurd (there none.1)
        ]
      ];
    }

    -- New blocks are new there

    pub own_new : (y : New) → IsNew node inode type content top y → y.block ≢ c → IsNew node inode t' m' own_root y
    own_new y is other = record {
      there = is.there;
      within = is.within;
      no_root = λ same. low (sym same);
      unled = λ p o has same. elim (cases_eq p own_root) [
        | inl at ↦ other (sym same ∙ (root_leads p o at has (λ z. is.there (sym same ∙ z))).1)
        | inr ne ↦ is.unled p o (has_was p o ne has) (sym (was_point p o ne) ∙ same)
      ];
      typed = type_other y.block low ∙ is.typed;
      some_type = is.some_type;
      bytes = other_same y.block low ∙ is.bytes;
      bare = is.bare;
    }
      where
        low : y.block ≢ own_root
        low same = let fits = is.within in absurd (omega (arith, same, fits))

    abbrev Other : New → Type 0
    Other y = y.block ≢ c

    pub own_news : (ys : List New) → AreNew node inode type content top ys → All Other ys → AreNew node inode t' m' own_root ys
    own_news [] are others = tt
    own_news (y ∷ ys) are others = (own_new y are.0 (All-head Other y ys others), are.1, own_news ys are.2 (All-tail Other y ys others))
