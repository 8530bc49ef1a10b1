-- Blocks that no number leads to change their bytes, or their types: the files are as before.
use mathlib.Core.Path.{fun_ext}
use Rattle.std.proofs.Common.{◌≡◌, ◌≢◌, ◌⊎◌, ℕ, suc, ◌-◌, Bool, true, false, ◌||◌, List, [], ◌∷◌, Some, refl, sym, ◌∙◌, ap, inl, inr, subst, if◌then◌else◌}
use Rattle.std.specs.Prelude.{nat_lt, ◌==◌}
use Rattle.std.proofs.lemmas.Bool.{cases_eq}
use Rattle.xn_model.specs.Root.{word_at}
use Rattle.treefs_format.specs.Fields.{fields_of}
use Rattle.treefs_format.specs.Inodes.{content_of, kind_of}
use Rattle.treefs_format.specs.Paths.{leaf_count, steps}
use Rattle.treefs_format.specs.Roots.{key_of}
use Rattle.treefs_format.specs.declared.kind.Kind.TheVariants as kind
use Rattle.treefs_model.specs.Reading.{block_at, files_of, inode_block, inode_of, key_in, leaf_block, pointed}
use Rattle.treefs_values.specs.Volumes.{IsDirectory, IsVolume, IsWholeBlock}
use Rattle.treefs_values.specs.Ways.{ArePointersApart, IsTyped, IsWay, block_numbered}
use Rattle.treefs_values.proofs.ForCallers.{IsAlike, file_read, inode_numbered}
pub use Rattle.treefs_values.proofs.ForCallers.{IsRead}
use Rattle.treefs_laws.proofs.BlockAside.{alike_directory, alike_inode}
use Rattle.treefs_laws.proofs.PointersGone.{IsUnled}
use Rattle.treefs_laws.proofs.WaysApart.{IsInodeBlock, below_root, file_none, none_below, not_root, numbered_block, numbered_led, same_way, steps_way, way_pointer}

module _ (node inode top : ℕ) (type type' : ℕ → ℕ) (old new : ℕ → List ℕ) (v : IsVolume node inode type old top)
    (kept : (b : ℕ) → IsRead old top b → (type' b ≡ type b) × (new b ≡ old b)) where
  abbrev block : ℕ → ℕ
  block m = block_numbered old top m

  own : (m : ℕ) → block m ≢ 0 → IsRead old top (block m)
  own m there = (there, inl (m, refl))

  on_way : (m k : ℕ) (os : List ℕ) → IsWay os k → block_at old (block m) os ≢ 0 → IsRead old top (block_at old (block m) os)
  on_way m k os way there = (there, inr (m, k, os, way, refl))

  above : (m k p : ℕ) (q : List ℕ) → IsWay (p ∷ q) k → block_at old (block m) q ≢ 0 → IsRead old top (block_at old (block m) q)
  above m k p [] way there = own m there
  above m k p (r ∷ q) way there = on_way m (suc k) (r ∷ q) way.3 there

  point : (m k p : ℕ) (q : List ℕ) → IsWay (p ∷ q) k → block_at new (block m) q ≡ block_at old (block m) q →
      block_at new (block m) (p ∷ q) ≡ block_at old (block m) (p ∷ q)
  point m k p q way same = ap (λ x. pointed new x p) same ∙ elim (cases_eq (block_at old (block m) q) 0) [
    | inl none ↦ ap (λ x. pointed new x p) none ∙ sym (ap (λ x. pointed old x p) none)
    | inr some ↦ ap (λ l. if block_at old (block m) q == 0 then 0 else word_at l p) (kept (block_at old (block m) q) (above m k p q way some)).1
  ]

  way_read : (m k : ℕ) (os : List ℕ) → IsWay os k → block_at new (block m) os ≡ block_at old (block m) os
  way_read m k [] way = absurd way
  way_read m k (p ∷ []) way = point m k p [] way refl
  way_read m k (p ∷ r ∷ q) way = point m k p (r ∷ q) way (way_read m (suc k) (r ∷ q) way.3)

  pub numbers_read : (m : ℕ) → block_numbered new top m ≡ block_numbered old top m
  numbers_read m = ap (λ x. if m == 0 then top else x) (by ((m == 0) || nat_lt leaf_count m) refl)
    where
      by : (t : Bool) → ((m == 0) || nat_lt leaf_count m) ≡ t → inode_block new top m ≡ inode_block old top m
      by true e = ap (λ t. if t then 0 else leaf_block new top (m - 1)) e ∙ sym (ap (λ t. if t then 0 else leaf_block old top (m - 1)) e)
      by false e =
          ap (λ t. if t then 0 else leaf_block new top (m - 1)) e
          ∙ (way_read 0 0 (steps (m - 1)) (steps_way (m - 1)) ∙ sym (ap (λ t. if t then 0 else leaf_block old top (m - 1)) e))

  alike : (m : ℕ) → block m ≢ 0 → IsAlike old new (block m)
  alike m there = record {
    own = (kept (block m) (own m there)).1;
    leaves = λ i. way_read m 0 (steps i) (steps_way i);
    bytes = λ i some. (kept (leaf_block old (block m) i) (on_way m 0 (steps i) (steps_way i) some)).1;
  }

  pub key_read : key_in new top ≡ key_in old top
  key_read = from (new top) (old top) (kept top (own 0 v.root)).1
    where
      from : (x y : List ℕ) → x ≡ y → key_of (content_of x) ≡ key_of (content_of y)
      from x y same = ap (λ m. key_of (content_of m)) same

  pub files_read : files_of new top ≡ files_of old top
  files_read = fun_ext (λ m. by m (cases_eq m 0) (cases_eq (block m) 0))
    where
      by : (m : ℕ) → (m ≡ 0) ⊎ (m ≢ 0) → (block m ≡ 0) ⊎ (block m ≢ 0) → files_of new top m ≡ files_of old top m
      by m (inl root) any = file_none new top m (ap (inode_block new top) root) ∙ sym (file_none old top m (ap (inode_block old top) root))
      by m (inr number) (inl none) =
          file_none new top m (sym (inode_numbered new top m number) ∙ (numbers_read m ∙ none)) ∙ sym
          (file_none old top m (sym (inode_numbered old top m number) ∙ none))
      by m (inr number) (inr there) =
          file_read new top m (block m) (sym (inode_numbered new top m number) ∙ numbers_read m) there
          ∙ (ap (λ key. inode_of new key (block m)) key_read
          ∙ (alike_inode old new (block m) (alike m there) (key_in old top)
          ∙ sym (file_read old top m (block m) (sym (inode_numbered old top m number)) there)))

  at_way : (m k : ℕ) (os : List ℕ) → IsWay os k → block_at new (block_numbered new top m) os ≡ block_at old (block m) os
  at_way m k os way = ap (λ x. block_at new x os) (numbers_read m) ∙ way_read m k os way

  type_way : (m k : ℕ) (os : List ℕ) → IsWay os k → block_at old (block m) os ≢ 0 →
      type' (block_at new (block_numbered new top m) os) ≡ type (block_at old (block m) os)
  type_way m k os way there = ap type' (at_way m k os way) ∙ (kept (block_at old (block m) os) (on_way m k os way there)).0

  typed_so : IsTyped node inode type' new top
  typed_so = record {
    inodes = λ m some.
        let there : block m ≢ 0 = λ z. some (numbers_read m ∙ z) in
        ap type' (numbers_read m) ∙ ((kept (block m) (own m there)).0 ∙ v.typed.inodes m there);
    nodes = λ m l os way some.
        let there : block_at old (block m) os ≢ 0 = λ z. some (at_way m (suc l) os way ∙ z) in
        type_way m (suc l) os way there ∙ v.typed.nodes m l os way there;
    leaves = λ m i m_some few some.
        let there : block_at old (block m) (steps i) ≢ 0 = λ z. some (at_way m 0 (steps i) (steps_way i) ∙ z) in
        type_way m 0 (steps i) (steps_way i) there ∙ v.typed.leaves m i m_some few there;
  }

  directory_so : (m : ℕ) → m ≢ 0 → block m ≢ 0 → kind_of (fields_of (new (block m))).mode ≡ Some kind.Directory → IsDirectory new (key_in old top) (block m)
  directory_so m m_some there is =
      let a = alike m there in
      alike_directory old new (block m) a (key_in old top)
      (v.directories m m_some there (sym (ap (λ x. kind_of (fields_of x).mode) a.own) ∙ is))

  pub volume_read : ArePointersApart node inode type' new top → ((b : ℕ) → type' b ≢ 0 → IsWholeBlock (new b)) → IsVolume node inode type' new top
  volume_read apart whole = record {
    types = v.types;
    some_types = v.some_types;
    root = v.root;
    typed = typed_so;
    apart = apart;
    blocks = whole;
    directories = λ m m_some some is.
        subst (λ x. IsDirectory new (key_in new top) x) (sym (numbers_read m)) (subst (λ key. IsDirectory new key (block m)) (sym key_read)
        (directory_so m m_some (λ z. some (numbers_read m ∙ z)) (sym (ap (λ x. kind_of (fields_of (new x)).mode) (numbers_read m)) ∙ is)));
  }

-- Blocks in the tree of an inode that no number leads to

-- the block of the inode, or one to which a way from it leads
abbrev pub IsIn : (ℕ → List ℕ) → ℕ → ℕ → Type 0
IsIn content c b = (b ≡ c) ⊎ ((k : ℕ) × (os : List ℕ) × IsWay os k × (b ≡ block_at content c os))

module _ (node inode top : ℕ) (type : ℕ → ℕ) (content : ℕ → List ℕ) (v : IsVolume node inode type content top) (c : ℕ) (some : c ≢ 0) (no_root : c ≢ top)
    (is : IsInodeBlock node inode type content c) (unled : IsUnled node inode type content c) where
  no_number : (m : ℕ) → block_numbered content top m ≢ c
  no_number = numbered_led node inode top type content v c some no_root unled

  -- none of them is read
  pub unread : (b : ℕ) → IsIn content c b → IsRead content top b → ⊥
  unread b (inl same) (there, inl (m, at)) = no_number m (sym at ∙ same)
  unread b (inl same) (there, inr (m, k, os, way, at)) = by os way (sym at ∙ same)
    where
      m_there : (os : List ℕ) → IsWay os k → block_at content (block_numbered content top m) os ≢ 0 → block_numbered content top m ≢ 0
      m_there os way some z = some (none_below content (block_numbered content top m) k os z way)

      by : (os : List ℕ) → IsWay os k → block_at content (block_numbered content top m) os ≡ c → ⊥
      by [] way is_c = absurd way
      by (o ∷ os) way is_c =
          let m_some = m_there (o ∷ os) way (λ z. some (sym is_c ∙ z)) in
          let b_is = numbered_block node inode top type content v m m_some in
          unled (block_at content (block_numbered content top m) os) o
          (way_pointer node inode top type content v (block_numbered content top m) b_is k o os way
          (λ z. some (sym is_c ∙ ap (λ x. pointed content x o) z))) is_c
  unread b (inr (l, ps, way', at')) (there, inl (m, at)) = elim (cases_eq m 0) [
    | inl z ↦ not_root node inode top type content v c is l ps way' (λ y. there (at' ∙ y)) (sym at' ∙ (at ∙ ap (block_numbered content top) z))
    | inr m_some ↦ no_root (below_root node inode top type content v m c is l ps m_some (λ z. there (at ∙ z)) way' (sym at ∙ at')).0
  ]
  unread b (inr (l, ps, way', at')) (there, inr (m, k, os, way, at)) =
      let m_some : block_numbered content top m ≢ 0 = λ z. there (at ∙ none_below content (block_numbered content top m) k os z way) in
      no_number m (same_way node inode top type content v (block_numbered content top m) c (numbered_block node inode top type content v m m_some) is k l os ps
      way way' (λ z. there (at ∙ z)) (sym at ∙ at')).0
