-- A block that is begun is part of no file.
use mathlib.Core.Path.{fun_ext}
use Rattle.std.proofs.Common.{◌≡◌, ◌≢◌, ◌⊎◌, ℕ, suc, ◌-◌, Bool, true, false, ◌||◌, List, [], ◌∷◌, Some, refl, sym, ◌∙◌, ap, inl, inr, subst, if◌then◌else◌}
use Rattle.std.specs.Prelude.{IsTrue, nat_lt, ◌==◌}
use Rattle.std.proofs.lemmas.Bool.{cases_eq, eq-eqb, ne_eqb}
use Rattle.xn_model.specs.Root.{word_at}
use Rattle.treefs_format.specs.Fields.{fields_of}
use Rattle.treefs_format.specs.Inodes.{content_of, kind_of}
use Rattle.treefs_format.specs.Paths.{leaf_count, steps}
use Rattle.treefs_format.specs.declared.kind.Kind.TheVariants as kind
use Rattle.treefs_model.specs.Reading.{block_at, files_of, inode_block, inode_of, key_in, leaf_block, pointed}
use Rattle.treefs_model.specs.Trees.{has_pointer}
use Rattle.treefs_values.specs.Begun.{with_block}
use Rattle.treefs_values.specs.Volumes.{IsDirectory, IsVolume, IsWholeBlock}
use Rattle.treefs_values.specs.Ways.{ArePointersApart, IsTyped, IsWay, SamePointers, block_numbered}
use Rattle.treefs_values.proofs.Alike.{IsAlike, bucket_same, inode_alike}
use Rattle.treefs_values.proofs.Elsewhere.{file_read, inode_numbered, no_file}
use Rattle.treefs_values.proofs.Kept.{same_directory}
use Rattle.treefs_values.proofs.Owners.{of_types}
use Rattle.treefs_values.proofs.Standing.{KeepsInodes}
use Rattle.treefs_values.proofs.Ways.{inode_pointer, inode_same, leaf_same, node_pointer, numbered_same, steps_way, still_typed, way_same}

module _ (node inode top : ℕ) (type : ℕ → ℕ) (old : ℕ → List ℕ) (v : IsVolume node inode type old top) (b ty : ℕ) (bytes : List ℕ) (no_type : type b ≡ 0)
    (free : (p o : ℕ) → IsTrue (has_pointer node inode (type p) o) → pointed old p o ≢ b) (no_root : top ≢ b) (whole : IsWholeBlock bytes)
    (bare : (o : ℕ) → IsTrue (has_pointer node inode ty o) → word_at bytes o ≡ 0) where
  abbrev new : ℕ → List ℕ
  new = with_block old b bytes

  abbrev type' : ℕ → ℕ
  type' = with_block type b ty

  changed : (c : ℕ) → c ≢ b → new c ≡ old c
  changed c ne = ap (λ t. if t then bytes else old c) (ne_eqb c b ne)

  typed_other : (c : ℕ) → c ≢ b → type' c ≡ type c
  typed_other c ne = ap (λ t. if t then ty else type c) (ne_eqb c b ne)

  not_this : (p o : ℕ) → IsTrue (has_pointer node inode (type p) o) → p ≢ b
  not_this p o has is = of_types node inode (type p) o v.some_types.0 v.some_types.1 has (ap type is ∙ no_type)

  keeps : SamePointers node inode type old new
  keeps p o has = ap (λ m. if p == 0 then 0 else word_at m o) (changed p (not_this p o has))

  -- no way leads to it

  zero_pointed : (q o : ℕ) → q ≡ 0 → pointed old q o ≡ 0
  zero_pointed q o z = ap (λ c. pointed old c o) z

  way_free : (n l : ℕ) (offsets : List ℕ) → IsWay offsets l → block_at old (block_numbered old top n) offsets ≢ 0 → block_at old (block_numbered old top n) offsets ≢ b
  way_free n l [] way there = absurd way
  way_free n l (o ∷ []) way there = elim (cases_eq (block_numbered old top n) 0) [
    | inl z ↦ absurd (there (zero_pointed (block_numbered old top n) o z))
    | inr some ↦ free (block_numbered old top n) o (inode_pointer node inode (type (block_numbered old top n)) o l (v.typed.inodes n some) way)
  ]
  way_free n l (o ∷ p ∷ offsets) way there = elim (cases_eq (block_at old (block_numbered old top n) (p ∷ offsets)) 0) [
    | inl z ↦ absurd (there (zero_pointed (block_at old (block_numbered old top n) (p ∷ offsets)) o z))
    | inr some ↦ free (block_at old (block_numbered old top n) (p ∷ offsets)) o
        (node_pointer node inode (type (block_at old (block_numbered old top n) (p ∷ offsets))) o way.0 (v.typed.nodes n l (p ∷ offsets) way.3 some) way.1 way.2)
  ]

  abbrev block : ℕ → ℕ
  block n = block_numbered old top n

  inode_free : (n : ℕ) → n ≢ 0 → block n ≢ 0 → block n ≢ b
  inode_free n n_some there = by ((n == 0) || nat_lt leaf_count n) refl
    where
      by : (t : Bool) → ((n == 0) || nat_lt leaf_count n) ≡ t → block n ≢ b
      by true e = absurd (there (inode_numbered old top n n_some ∙ ap (λ t. if t then 0 else leaf_block old top (n - 1)) e))
      by false e =
          let is : block n ≡ leaf_block old top (n - 1) = inode_numbered old top n n_some ∙ ap (λ t. if t then 0 else leaf_block old top (n - 1)) e in
          λ same. way_free 0 0 (steps (n - 1)) (steps_way (n - 1)) (λ z. there (is ∙ z)) (sym is ∙ same)

  block_free : (n : ℕ) → block n ≢ 0 → block n ≢ b
  block_free n there = elim (cases_eq n 0) [
    | inl z ↦ (λ same. no_root (sym (ap block z) ∙ same))
    | inr n_some ↦ inode_free n n_some there
  ]

  alike : (n : ℕ) → block n ≢ 0 → IsAlike old new (block n)
  alike n there = record {
    own = changed (block n) (block_free n there);
    leaves = λ i. leaf_same node inode top type old new v.typed keeps n i;
    bytes = λ i some. changed (leaf_block old (block n) i) (way_free n 0 (steps i) (steps_way i) some);
  }

  key_same : key_in new top ≡ key_in old top
  key_same = rw (changed top no_root) refl

  pub begun_files : files_of new top ≡ files_of old top
  begun_files = fun_ext (λ n. by n (cases_eq (inode_block old top n) 0))
    where
      by : (n : ℕ) → (inode_block old top n ≡ 0) ⊎ (inode_block old top n ≢ 0) → files_of new top n ≡ files_of old top n
      by n (inl z) = no_file new top n (inode_same node inode top type old new v.typed keeps n ∙ z) ∙ sym (no_file old top n z)
      by n (inr there) =
          let n_some : n ≢ 0 = λ z. there (ap (inode_block old top) z) in
          let is = inode_numbered old top n n_some in
          let some : block n ≢ 0 = λ z. there (sym is ∙ z) in
          file_read new top n (block n) (inode_same node inode top type old new v.typed keeps n ∙ sym is) some
          ∙ (ap (λ key. inode_of new key (block n)) key_same
          ∙ (inode_alike old new (block n) (alike n some) (key_in old top) ∙ sym (file_read old top n (block n) (sym is) some)))

  -- it is a volume still

  still : IsTyped node inode type new top
  still = still_typed node inode top type old new v.typed keeps

  same_block : (n : ℕ) → block_numbered new top n ≡ block n
  same_block n = numbered_same node inode top type old new v.typed keeps n

  same_way : (n l : ℕ) (offsets : List ℕ) → IsWay offsets l → block_at new (block_numbered new top n) offsets ≡ block_at old (block n) offsets
  same_way n l offsets way = ap (λ c. block_at new c offsets) (same_block n) ∙ way_same node inode top type old new v.typed keeps n l offsets way

  typed_so : IsTyped node inode type' new top
  typed_so = record {
    inodes = λ n there.
        typed_other (block_numbered new top n) (λ same. block_free n (λ z. there (same_block n ∙ z)) (sym (same_block n) ∙ same)) ∙ still.inodes n there;
    nodes = λ n l offsets way there.
        typed_other (block_at new (block_numbered new top n) offsets)
        (λ same. way_free n (suc l) offsets way (λ z. there (same_way n (suc l) offsets way ∙ z)) (sym (same_way n (suc l) offsets way) ∙ same))
        ∙ still.nodes n l offsets way there;
    leaves = λ n i number lt there.
        typed_other (leaf_block new (block_numbered new top n) i)
        (λ same. way_free n 0 (steps i) (steps_way i) (λ z. there (same_way n 0 (steps i) (steps_way i) ∙ z)) (sym (same_way n 0 (steps i) (steps_way i)) ∙ same))
        ∙ still.leaves n i number lt there;
  }

  -- its own pointers lead nowhere
  none_here : (p o : ℕ) → p ≡ b → IsTrue (has_pointer node inode (type' p) o) → pointed new p o ≡ 0
  none_here p o same has =
      let is_type : type' p ≡ ty = ap (λ t. if t then ty else type p) (eq-eqb p b same) in
      let is_bytes : new p ≡ bytes = ap (λ t. if t then bytes else old p) (eq-eqb p b same) in
      by (cases_eq p 0) (ap (λ m. word_at m o) is_bytes ∙ bare o (sym (ap (λ t. has_pointer node inode t o) is_type) ∙ has))
    where
      by : (p ≡ 0) ⊎ (p ≢ 0) → word_at (new p) o ≡ 0 → pointed new p o ≡ 0
      by (inl z) none = ap (λ t. if t then 0 else word_at (new p) o) (eq-eqb p 0 z)
      by (inr some) none = ap (λ t. if t then 0 else word_at (new p) o) (ne_eqb p 0 some) ∙ none

  has_other : (p o : ℕ) → p ≢ b → IsTrue (has_pointer node inode (type' p) o) → IsTrue (has_pointer node inode (type p) o)
  has_other p o ne has = sym (ap (λ t. has_pointer node inode t o) (typed_other p ne)) ∙ has

  apart_so : ArePointersApart node inode type' new top
  apart_so = record {
    once = λ p q o o' has has' there same. once_by p q o o' has has' there same (cases_eq p b) (cases_eq q b);
    root = λ p o has is. root_by p o has is (cases_eq p b);
  }
    where
      once_by : (p q o o' : ℕ) → IsTrue (has_pointer node inode (type' p) o) → IsTrue (has_pointer node inode (type' q) o') → pointed new p o ≢ 0 →
          pointed new p o ≡ pointed new q o' → (p ≡ b) ⊎ (p ≢ b) → (q ≡ b) ⊎ (q ≢ b) → (p ≡ q) × (o ≡ o')
      once_by p q o o' has has' there same (inl is) other = absurd (there (none_here p o is has))
      once_by p q o o' has has' there same (inr ne) (inl is) = absurd (there (same ∙ none_here q o' is has'))
      once_by p q o o' has has' there same (inr ne) (inr ne') =
          let h = has_other p o ne has in
          let h' = has_other q o' ne' has' in
          v.apart.once p q o o' h h' (λ z. there (keeps p o h ∙ z)) (sym (keeps p o h) ∙ (same ∙ keeps q o' h'))

      root_by : (p o : ℕ) → IsTrue (has_pointer node inode (type' p) o) → pointed new p o ≡ top → (p ≡ b) ⊎ (p ≢ b) → ⊥
      root_by p o has is (inl same) = v.root (sym is ∙ none_here p o same has)
      root_by p o has is (inr ne) = let h = has_other p o ne has in v.apart.root p o h (sym (keeps p o h) ∙ is)

  blocks_so : (c : ℕ) → type' c ≢ 0 → (c ≡ b) ⊎ (c ≢ b) → IsWholeBlock (new c)
  blocks_so c some (inl same) = subst IsWholeBlock (sym (ap (λ t. if t then bytes else old c) (eq-eqb c b same))) whole
  blocks_so c some (inr ne) = subst IsWholeBlock (sym (changed c ne)) (v.blocks c (λ z. some (typed_other c ne ∙ z)))

  directory_so : (n : ℕ) → n ≢ 0 → block n ≢ 0 → kind_of (fields_of (new (block n))).mode ≡ Some kind.Directory → IsDirectory new (key_in old top) (block n)
  directory_so n n_some there is =
      let a = alike n there in
      same_directory old new (key_in old top) (block n) (λ k few. bucket_same old new (block n) a.leaves a.bytes k (ap content_of a.own))
      (v.directories n n_some there (sym (ap (λ m. kind_of (fields_of m).mode) a.own) ∙ is))

  pub begun_volume : IsVolume node inode type' new top
  begun_volume = record {
    types = v.types;
    some_types = v.some_types;
    root = v.root;
    typed = typed_so;
    apart = apart_so;
    blocks = λ c some. blocks_so c some (cases_eq c b);
    directories = λ n n_some there is.
        subst (λ c. IsDirectory new (key_in new top) c) (sym (same_block n)) (subst (λ key. IsDirectory new key (block n)) (sym key_same)
        (directory_so n n_some (λ z. there (same_block n ∙ z)) (sym (ap (λ c. kind_of (fields_of (new c)).mode) (same_block n)) ∙ is)));
  }

  -- inodes stay, and ways of inode 0
  pub begun_inodes : KeepsInodes old new top
  begun_inodes = record {
    key = key_same;
    inodes = λ n some there. record {
      block = same_block n;
      alike = alike n there;
      ways = λ l os way. way_same node inode top type old new v.typed keeps n l os way;
    };
  }

  pub begun_ways : (l : ℕ) (os : List ℕ) → IsWay os l → block_at new top os ≡ block_at old top os
  begun_ways l os way = way_same node inode top type old new v.typed keeps 0 l os way

  -- other blocks that nothing points to
  pub begun_unled : (x : ℕ) → x ≢ 0 → ((p o : ℕ) → IsTrue (has_pointer node inode (type p) o) → pointed old p o ≢ x) →
      (p o : ℕ) → IsTrue (has_pointer node inode (type' p) o) → pointed new p o ≢ x
  begun_unled x some unled p o has = by (cases_eq p b)
    where
      by : (p ≡ b) ⊎ (p ≢ b) → pointed new p o ≢ x
      by (inl same) = λ is. some (sym is ∙ none_here p o same has)
      by (inr ne) = λ is. let h = has_other p o ne has in unled p o h (sym (keeps p o h) ∙ is)

  pub begun_other : (x : ℕ) → type x ≢ 0 → (x ≢ b) × (type' x ≡ type x) × (new x ≡ old x)
  begun_other x some = let ne : x ≢ b = λ same. some (ap type same ∙ no_type) in (ne, typed_other x ne, changed x ne)

  pub begun_here : (type' b ≡ ty) × (new b ≡ bytes)
  begun_here = (ap (λ t. if t then ty else type b) (eq-eqb b b refl), ap (λ t. if t then bytes else old b) (eq-eqb b b refl))
