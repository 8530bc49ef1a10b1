-- A block to which nothing leads changes its bytes, or its type: the volume is one still, and its files are as before.
use mathlib.Core.Path.{fun_ext}
use Rattle.std.proofs.Common.{◌≡◌, ◌≢◌, ◌⊎◌, ℕ, suc, ◌+◌, ◌/◌, ◌%◌, ◌-◌, Bool, true, false, ◌&&◌, ◌||◌, List, [], ◌∷◌, None, refl, sym, ◌∙◌, ap, inl, inr, subst, if◌then◌else◌}
use Rattle.std.specs.Prelude.{IsTrue, map, nat_lt, option_map, slice_index, ◌==◌}
use Rattle.std.specs.List.{range_with_len}
use Rattle.std.proofs.lemmas.Bool.{and_parts, cases_eq, eq-eqb, eqb-true}
use Rattle.xn_model.specs.Root.{word_at}
use Rattle.treefs_format.specs.Buckets.{is_whole}
use Rattle.treefs_format.specs.Candidates.{candidates, name_hash}
use Rattle.treefs_format.specs.Fields.{fields_of}
use Rattle.treefs_format.specs.Inodes.{content_of, kind_of}
use Rattle.treefs_format.specs.Paths.{leaf_count, steps}
use Rattle.treefs_format.specs.Records.{entries_of}
use Rattle.treefs_format.specs.Roots.{key_of}
use Rattle.treefs_format.specs.declared.kind.Kind.{Kind}
use Rattle.treefs_format.specs.declared.kind.Kind.TheVariants as kind
use Rattle.treefs_model.specs.Files.{Directory, File, SymbolicLink}
use Rattle.treefs_model.specs.Reading.{block_at, byte_of, bytes_of, content_at, files_of, inode_block, inode_of, inode_with, key_in, leaf_block, leaf_byte, number_among, number_of, pointed}
use Rattle.treefs_model.specs.Trees.{has_name, has_pointer, is_inode_offset, is_node_offset, names_once}
use Rattle.treefs_values.specs.Volumes.{IsDirectory, IsVolume, IsWholeBlock}
use Rattle.treefs_values.specs.Ways.{IsWay, block_numbered}
use Rattle.treefs_values.proofs.ForCallers.{IsAlike, bucket_same, file_read, inode_numbered, steps_way}
use Rattle.treefs_laws.proofs.Attaching.{way_pointer}

-- An inode of which all blocks have the bytes that they had

module _ (old new : ℕ → List ℕ) (c : ℕ) (alike : IsAlike old new c) where
  among_same : (name : List ℕ) (buckets : List ℕ) → number_among new c name buckets ≡ number_among old c name buckets
  among_same name [] = refl
  among_same name (k ∷ buckets) = rw (bucket_same old new c alike.leaves alike.bytes k (ap content_of alike.own)) (rw (among_same name buckets) refl)

  pub alike_byte : (p : ℕ) → byte_of new c p ≡ byte_of old c p
  alike_byte p = (λ j. if nat_lt p 384 then slice_index (alike.own j) (128 + p) else leaf_same (p / 512) (p % 512) j)
    where
      leaf_same : (i at : ℕ) → leaf_byte new (leaf_block new c i) at ≡ leaf_byte old (leaf_block old c i) at
      leaf_same i at = ap (λ x. leaf_byte new x at) (alike.leaves i) ∙ elim (cases_eq (leaf_block old c i) 0) [
        | inl z ↦ ap (λ x. leaf_byte new x at) z ∙ sym (ap (λ x. leaf_byte old x at) z)
        | inr some ↦ ap (λ m. if leaf_block old c i == 0 then 0 else slice_index m at) (alike.bytes i some)
      ]

  alike_bytes : bytes_of new c ≡ bytes_of old c
  alike_bytes = (λ j. map (λ p. alike_byte p j) (range_with_len 0 (fields_of (alike.own j)).size))

  alike_numbers : (key : List ℕ) → number_of new key c ≡ number_of old key c
  alike_numbers key = fun_ext (λ name. among_same name (candidates (name_hash key name)))

  alike_content : (key : List ℕ) (parent : ℕ) (k : Kind) → content_at new key c parent k ≡ content_at old key c parent k
  alike_content key parent kind.Directory = (λ j. Directory parent (alike_numbers key j))
  alike_content key parent kind.File = (λ j. File (alike_bytes j))
  alike_content key parent kind.SymbolicLink = (λ j. SymbolicLink (alike_bytes j))

  pub alike_inode : (key : List ℕ) → inode_of new key c ≡ inode_of old key c
  alike_inode key = (λ j. option_map (λ k. inode_with (fields_of (alike.own j)) (alike_content key (fields_of (alike.own j)).parent k j))
      (kind_of (fields_of (alike.own j)).mode))

  pub alike_directory : (key : List ℕ) → IsDirectory old key c → IsDirectory new key c
  alike_directory key d =
      let same = λ (k : ℕ). bucket_same old new c alike.leaves alike.bytes k (ap content_of alike.own) in
      record {
        names = record {
          once = λ k few. subst (λ m. IsTrue (names_once (entries_of m))) (sym (same k)) (d.names.once k few);
          apart = λ j k name few few' one other. d.names.apart j k name few few'
              (subst (λ m. IsTrue (has_name (entries_of m) name)) (same j) one) (subst (λ m. IsTrue (has_name (entries_of m) name)) (same k) other);
        };
        placed = λ k name few has. d.placed k name few (subst (λ m. IsTrue (has_name (entries_of m) name)) (same k) has);
        valid = λ k name few has. d.valid k name few (subst (λ m. IsTrue (has_name (entries_of m) name)) (same k) has);
        whole = λ k few. subst (λ m. IsTrue (is_whole m)) (sym (same k)) (d.whole k few);
      }

no_file : (content : ℕ → List ℕ) (top n : ℕ) → inode_block content top n ≡ 0 → files_of content top n ≡ None
unfolding files_of
no_file content top n is = ap (λ x. if x == 0 then None else inode_of content (key_in content top) x) is

-- no pointer stands in a block of data
pub no_pointer : (node inode t o : ℕ) → 2 ≢ node → 2 ≢ inode → t ≡ 2 → IsTrue (has_pointer node inode t o) → ⊥
no_pointer node inode t o other other' of_data has = by ((t == node) && is_node_offset o) refl has
  where
    by : (a : Bool) → ((t == node) && is_node_offset o) ≡ a → (a || ((t == inode) && is_inode_offset o)) ≡ true → ⊥
    by true e any = other (sym of_data ∙ eqb-true t node (and_parts (t == node) (is_node_offset o) e).0)
    by false e any = other' (sym of_data ∙ eqb-true t inode (and_parts (t == inode) (is_inode_offset o) any).0)

module _ (node inode top : ℕ) (type type' : ℕ → ℕ) (c c' : ℕ → List ℕ) (v : IsVolume node inode type c top) (z : ℕ) (no_root : top ≢ z)
    (kept : (b : ℕ) → b ≢ z → (type' b ≡ type b) × (c' b ≡ c b)) (unled : (p o : ℕ) → p ≢ z → IsTrue (has_pointer node inode (type p) o) → pointed c p o ≢ z)
    (bare : (o : ℕ) → IsTrue (has_pointer node inode (type' z) o) → ⊥) (whole : type' z ≢ 0 → IsWholeBlock (c' z)) where
  abbrev block : ℕ → ℕ
  block m = block_numbered c top m

  -- ways lead to other blocks
  point_other : (m k p : ℕ) (q : List ℕ) → IsWay (p ∷ q) k → (block_at c (block m) q ≢ 0 → block_at c (block m) q ≢ z) → block_at c (block m) (p ∷ q) ≢ 0 →
      block_at c (block m) (p ∷ q) ≢ z
  point_other m k p q way other there = elim (cases_eq (block_at c (block m) q) 0) [
    | inl none ↦ absurd (there (ap (λ x. pointed c x p) none))
    | inr some ↦ unled (block_at c (block m) q) p (other some) (way_pointer node inode top type c v m k p q way some)
  ]

  way_from : (m k : ℕ) (os : List ℕ) → (block m ≢ 0 → block m ≢ z) → IsWay os k → block_at c (block m) os ≢ 0 → block_at c (block m) os ≢ z
  way_from m k [] own way there = absurd way
  way_from m k (p ∷ []) own way there = point_other m k p [] way own there
  way_from m k (p ∷ r ∷ q) own way there = point_other m k p (r ∷ q) way (way_from m (suc k) (r ∷ q) own way.3) there

  own_other : (m : ℕ) → block m ≢ 0 → block m ≢ z
  own_other m there = elim (cases_eq m 0) [
    | inl root ↦ (λ same. no_root (sym (ap (λ t. if t then top else inode_block c top m) (eq-eqb m 0 root)) ∙ same))
    | inr number ↦ by number ((m == 0) || nat_lt leaf_count m) refl
  ]
    where
      by : m ≢ 0 → (t : Bool) → ((m == 0) || nat_lt leaf_count m) ≡ t → block m ≢ z
      by number true e = absurd (there (inode_numbered c top m number ∙ ap (λ t. if t then 0 else leaf_block c top (m - 1)) e))
      by number false e =
          let is : block m ≡ leaf_block c top (m - 1) = inode_numbered c top m number ∙ ap (λ t. if t then 0 else leaf_block c top (m - 1)) e in
          λ same. way_from 0 0 (steps (m - 1)) (λ some. no_root) (steps_way (m - 1)) (λ none. there (is ∙ none)) (sym is ∙ same)

  way_other : (m k : ℕ) (os : List ℕ) → IsWay os k → block_at c (block m) os ≢ 0 → block_at c (block m) os ≢ z
  way_other m k os = way_from m k os (own_other m)

  above_other : (m k p : ℕ) (q : List ℕ) → IsWay (p ∷ q) k → block_at c (block m) q ≢ 0 → block_at c (block m) q ≢ z
  above_other m k p [] way there = own_other m there
  above_other m k p (r ∷ q) way there = way_other m (suc k) (r ∷ q) way.3 there

  point : (m k p : ℕ) (q : List ℕ) → IsWay (p ∷ q) k → block_at c' (block m) q ≡ block_at c (block m) q → block_at c' (block m) (p ∷ q) ≡ block_at c
      (block m) (p ∷ q)
  point m k p q way same = ap (λ x. pointed c' x p) same ∙ elim (cases_eq (block_at c (block m) q) 0) [
    | inl none ↦ ap (λ x. pointed c' x p) none ∙ sym (ap (λ x. pointed c x p) none)
    | inr some ↦ ap (λ l. if block_at c (block m) q == 0 then 0 else word_at l p) (kept (block_at c (block m) q) (above_other m k p q way some)).1
  ]

  pub way_same : (m k : ℕ) (os : List ℕ) → IsWay os k → block_at c' (block m) os ≡ block_at c (block m) os
  way_same m k [] way = absurd way
  way_same m k (p ∷ []) way = point m k p [] way refl
  way_same m k (p ∷ r ∷ q) way = point m k p (r ∷ q) way (way_same m (suc k) (r ∷ q) way.3)

  pub above_same : (m k p : ℕ) (q : List ℕ) → IsWay (p ∷ q) k → block_at c' (block m) q ≡ block_at c (block m) q
  above_same m k p [] way = refl
  above_same m k p (r ∷ q) way = way_same m (suc k) (r ∷ q) way.3

  pub numbered_aside : (m : ℕ) → block_numbered c' top m ≡ block m
  numbered_aside m = ap (λ x. if m == 0 then top else x) (by ((m == 0) || nat_lt leaf_count m) refl)
    where
      by : (t : Bool) → ((m == 0) || nat_lt leaf_count m) ≡ t → inode_block c' top m ≡ inode_block c top m
      by true e = ap (λ t. if t then 0 else leaf_block c' top (m - 1)) e ∙ sym (ap (λ t. if t then 0 else leaf_block c top (m - 1)) e)
      by false e =
          ap (λ t. if t then 0 else leaf_block c' top (m - 1)) e
          ∙ (way_same 0 0 (steps (m - 1)) (steps_way (m - 1)) ∙ sym (ap (λ t. if t then 0 else leaf_block c top (m - 1)) e))

  pub alike_aside : (m : ℕ) → block m ≢ 0 → IsAlike c c' (block m)
  alike_aside m there = record {
    own = (kept (block m) (own_other m there)).1;
    leaves = λ i. way_same m 0 (steps i) (steps_way i);
    bytes = λ i some. (kept (leaf_block c (block m) i) (way_other m 0 (steps i) (steps_way i) some)).1;
  }

  key_same : key_in c' top ≡ key_in c top
  key_same = from (c' top) (c top) (kept top no_root).1
    where
      from : (x y : List ℕ) → x ≡ y → key_of (content_of x) ≡ key_of (content_of y)
      from x y same = ap (λ m. key_of (content_of m)) same

  pub files_aside : files_of c' top ≡ files_of c top
  files_aside = fun_ext (λ m. by m (cases_eq m 0) (cases_eq (block m) 0))
    where
      by : (m : ℕ) → (m ≡ 0) ⊎ (m ≢ 0) → (block m ≡ 0) ⊎ (block m ≢ 0) → files_of c' top m ≡ files_of c top m
      by m (inl root) any =
          no_file c' top m (ap (λ t. if t || nat_lt leaf_count m then 0 else leaf_block c' top (m - 1)) (eq-eqb m 0 root))
          ∙ sym (no_file c top m (ap (λ t. if t || nat_lt leaf_count m then 0 else leaf_block c top (m - 1)) (eq-eqb m 0 root)))
      by m (inr number) (inl none) =
          no_file c' top m (sym (inode_numbered c' top m number) ∙ (numbered_aside m ∙ none)) ∙ sym
          (no_file c top m (sym (inode_numbered c top m number) ∙ none))
      by m (inr number) (inr there) =
          file_read c' top m (block m) (sym (inode_numbered c' top m number) ∙ numbered_aside m) there
          ∙ (ap (λ key. inode_of c' key (block m)) key_same
          ∙ (alike_inode c c' (block m) (alike_aside m there) (key_in c top) ∙ sym (file_read c top m (block m) (sym (inode_numbered c top m number)) there)))

  -- a block with a pointer is another one
  has_other : (p o : ℕ) → IsTrue (has_pointer node inode (type' p) o) → p ≢ z
  has_other p o has same = bare o (subst (λ b. IsTrue (has_pointer node inode (type' b) o)) same has)

  has_was : (p o : ℕ) → IsTrue (has_pointer node inode (type' p) o) → IsTrue (has_pointer node inode (type p) o)
  has_was p o has = subst (λ t. IsTrue (has_pointer node inode t o)) (kept p (has_other p o has)).0 has

  points_same : (p o : ℕ) → IsTrue (has_pointer node inode (type' p) o) → pointed c' p o ≡ pointed c p o
  points_same p o has = ap (λ l. if p == 0 then 0 else word_at l o) (kept p (has_other p o has)).1

  pub volume_aside : IsVolume node inode type' c' top
  volume_aside = record {
    types = v.types;
    some_types = v.some_types;
    root = v.root;
    typed = record {
      inodes = λ m some.
          let there : block m ≢ 0 = λ e. some (numbered_aside m ∙ e) in
          ap type' (numbered_aside m) ∙ ((kept (block m) (own_other m there)).0 ∙ v.typed.inodes m there);
      nodes = λ m k os way some.
          let same : block_at c' (block_numbered c' top m) os ≡ block_at c (block m) os = ap (λ b. block_at c' b os) (numbered_aside m) ∙ way_same m (suc k)
          os way in
          let there : block_at c (block m) os ≢ 0 = λ e. some (same ∙ e) in
          ap type' same ∙ ((kept (block_at c (block m) os) (way_other m (suc k) os way there)).0 ∙ v.typed.nodes m k os way there);
      leaves = λ m i number few some.
          let same : leaf_block c' (block_numbered c' top m) i ≡ leaf_block c (block m) i = ap (λ b. leaf_block c' b i) (numbered_aside m) ∙ way_same m 0
          (steps i) (steps_way i) in
          let there : leaf_block c (block m) i ≢ 0 = λ e. some (same ∙ e) in
          ap type' same ∙ ((kept (leaf_block c (block m) i) (way_other m 0 (steps i) (steps_way i) there)).0 ∙ v.typed.leaves m i number few there);
    };
    apart = record {
      once = λ p q i j has has' some same.
          v.apart.once p q i j (has_was p i has) (has_was q j has') (λ e. some (points_same p i has ∙ e))
          (sym (points_same p i has) ∙ (same ∙ points_same q j has'));
      root = λ p i has is. v.apart.root p i (has_was p i has) (sym (points_same p i has) ∙ is);
    };
    blocks = λ b some. elim (cases_eq b z) [
      | inl same ↦ subst (λ x. IsWholeBlock (c' x)) (sym same) (whole (λ e. some (ap type' same ∙ e)))
      | inr ne ↦ subst IsWholeBlock (sym (kept b ne).1) (v.blocks b (λ e. some ((kept b ne).0 ∙ e)))
    ];
    directories = λ m number some is.
        let there : block m ≢ 0 = λ e. some (numbered_aside m ∙ e) in
        let alike = alike_aside m there in
        subst (λ b. IsDirectory c' (key_in c' top) b) (sym (numbered_aside m)) (subst (λ key. IsDirectory c' key (block m)) (sym key_same)
        (alike_directory c c' (block m) alike (key_in c top) (v.directories m number there
        (sym (ap (λ x. kind_of (fields_of x).mode) alike.own) ∙ (sym (ap (λ b. kind_of (fields_of (c' b)).mode) (numbered_aside m)) ∙ is)))));
  }
