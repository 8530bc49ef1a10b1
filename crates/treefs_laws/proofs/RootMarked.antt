-- Bytes of the root block behind the key are written: no file changes.
use mathlib.Core.Path.{fun_ext}
use Rattle.std.proofs.Common.{◌≡◌, ◌≢◌, ℕ, suc, ◌+◌, ◌-◌, ◌≤◌, Bool, true, false, ◌||◌, List, [], ◌∷◌, refl, sym, ◌∙◌, ap, inl, inr, subst, if◌then◌else◌}
use Rattle.std.specs.Prelude.{◌==◌, nat_lt}
use Rattle.std.proofs.lemmas.Bool.{cases_eq}
use Rattle.xn_model.specs.Root.{word_at}
use Rattle.treefs_format.specs.Fields.{fields_of}
use Rattle.treefs_format.specs.Inodes.{content_of, kind_of}
use Rattle.treefs_format.specs.Paths.{leaf_count, steps}
use Rattle.treefs_model.specs.Reading.{block_at, files_of, inode_block, inode_of, key_in, leaf_block, pointed}
use Rattle.treefs_values.specs.Volumes.{IsDirectory, IsVolume, IsWholeBlock}
use Rattle.treefs_values.specs.Ways.{IsTyped, IsWay, SamePointers, block_numbered}
use Rattle.treefs_values.proofs.ForCallers.{IsAlike, bucket_same, file_read, inode_numbered, inode_offset, inode_pointer, node_pointer, numbered_same}
use Rattle.treefs_laws.proofs.SameValues.{fewer_buckets, inode_alike}
use Rattle.treefs_laws.proofs.WaysApart.{file_none, steps_way}

none_pointed : (content : ℕ → List ℕ) (b o : ℕ) → b ≡ 0 → pointed content b o ≡ 0
none_pointed content b o z = ap (λ c. pointed content c o) z

module _ (node inode top : ℕ) (type : ℕ → ℕ) (old new : ℕ → List ℕ) (v : IsVolume node inode type old top)
    (others : (b : ℕ) → b ≢ top → new b ≡ old b) (words : (o : ℕ) → o + 4 ≤ 128 → word_at (new top) o ≡ word_at (old top) o)
    (same_key : key_in new top ≡ key_in old top) (whole : IsWholeBlock (new top)) where
  abbrev block : ℕ → ℕ
  block n = block_numbered old top n

  pub marked_keeps : SamePointers node inode type old new
  marked_keeps p o has = elim (cases_eq p top) [
    | inl same ↦
        let at = inode_offset node inode (type p) o v.types.0 (ap type same ∙ v.typed.inodes 0 v.root) has in
        ap (λ x. pointed new x o) same ∙ (ap (λ w. if top == 0 then 0 else w) (words o at.1) ∙ sym (ap (λ x. pointed old x o) same))
    | inr ne ↦ ap (λ m. if p == 0 then 0 else word_at m o) (others p ne)
  ]

  -- Ways

  module _ (n : ℕ) where
    way_same : (l : ℕ) (os : List ℕ) → IsWay os l → block_at new (block n) os ≡ block_at old (block n) os
    way_same l [] way = absurd way
    way_same l (o ∷ []) way = elim (cases_eq (block n) 0) [
      | inl z ↦ none_pointed new (block n) o z ∙ sym (none_pointed old (block n) o z)
      | inr some ↦ marked_keeps (block n) o (inode_pointer node inode (type (block n)) o l (v.typed.inodes n some) way)
    ]
    way_same l (o ∷ p ∷ os) way =
        let q : ℕ = block_at old (block n) (p ∷ os) in
        ap (λ c. pointed new c o) (way_same (suc l) (p ∷ os) way.3) ∙ elim (cases_eq q 0) [
          | inl z ↦ none_pointed new q o z ∙ sym (none_pointed old q o z)
          | inr some ↦ marked_keeps q o (node_pointer node inode (type q) o way.0 (v.typed.nodes n l (p ∷ os) way.3 some) way.1 way.2)
        ]

    -- none leads to the root block
    not_root : (l : ℕ) (os : List ℕ) → IsWay os l → block_at old (block n) os ≢ 0 → block_at old (block n) os ≢ top
    not_root l [] way some is = absurd way
    not_root l (o ∷ []) way some is =
        let there : block n ≢ 0 = λ z. some (none_pointed old (block n) o z) in
        v.apart.root (block n) o (inode_pointer node inode (type (block n)) o l (v.typed.inodes n there) way) is
    not_root l (o ∷ p ∷ os) way some is =
        let q : ℕ = block_at old (block n) (p ∷ os) in
        let there : q ≢ 0 = λ z. some (none_pointed old q o z) in
        v.apart.root q o (node_pointer node inode (type q) o way.0 (v.typed.nodes n l (p ∷ os) way.3 there) way.1 way.2) is

    leaf_same : (i : ℕ) → leaf_block new (block n) i ≡ leaf_block old (block n) i
    leaf_same i = way_same 0 (steps i) (steps_way i)

  number_same : (n : ℕ) → block_numbered new top n ≡ block n
  number_same = numbered_same node inode top type old new v.typed marked_keeps

  -- Inodes

  inode_not_root : (n : ℕ) → inode_block old top n ≢ 0 → inode_block old top n ≢ top
  inode_not_root n = by ((n == 0) || nat_lt leaf_count n)
    where
      by : (t : Bool) → (if t then 0 else leaf_block old top (n - 1)) ≢ 0 → (if t then 0 else leaf_block old top (n - 1)) ≢ top
      by true some is = some refl
      by false some is = not_root 0 0 (steps (n - 1)) (steps_way (n - 1)) some is

  block_not_root : (n : ℕ) → n ≢ 0 → block n ≢ 0 → block n ≢ top
  block_not_root n number there is =
      let same = inode_numbered old top n number in inode_not_root n (λ z. there (same ∙ z)) (sym same ∙ is)

  alike : (n : ℕ) → n ≢ 0 → block n ≢ 0 → IsAlike old new (block n)
  alike n number there = record {
    own = others (block n) (block_not_root n number there);
    leaves = leaf_same n;
    bytes = λ i some. others (leaf_block old (block n) i) (not_root n 0 (steps i) (steps_way i) some);
  }

  pub marked_files : files_of new top ≡ files_of old top
  marked_files = fun_ext (λ n. elim (cases_eq n 0) [
    | inl z ↦ file_none new top n (ap (inode_block new top) z) ∙ sym (file_none old top n (ap (inode_block old top) z))
    | inr number ↦
        let is = inode_numbered old top n number in
        let same : inode_block new top n ≡ block n = sym (inode_numbered new top n number) ∙ number_same n in
        elim (cases_eq (block n) 0) [
          | inl z ↦ file_none new top n (same ∙ z) ∙ sym (file_none old top n (sym is ∙ z))
          | inr there ↦
              file_read new top n (block n) same there
              ∙ (ap (λ key. inode_of new key (block n)) same_key
              ∙ (inode_alike old new (block n) (alike n number there) (key_in old top) ∙ sym (file_read old top n (block n) (sym is) there)))
        ]
  ])

  -- The volume

  typed : IsTyped node inode type new top
  typed = record {
    inodes = λ n there. ap type (number_same n) ∙ v.typed.inodes n (λ z. there (number_same n ∙ z));
    nodes = λ n l os way there.
        let same = ap (λ b. block_at new b os) (number_same n) ∙ way_same n (suc l) os way in
        ap type same ∙ v.typed.nodes n l os way (λ z. there (same ∙ z));
    leaves = λ n i number few there.
        let same = ap (λ b. leaf_block new b i) (number_same n) ∙ leaf_same n i in
        ap type same ∙ v.typed.leaves n i number few (λ z. there (same ∙ z));
  }

  pub marked_volume : IsVolume node inode type new top
  marked_volume = record {
    types = v.types;
    some_types = v.some_types;
    root = v.root;
    typed = typed;
    apart = record {
      once = λ p q o o' has has' some same. v.apart.once p q o o' has has' (λ z. some (marked_keeps p o has ∙ z)) (sym (marked_keeps p o has) ∙ (same ∙ marked_keeps q o' has'));
      root = λ p o has is. v.apart.root p o has (sym (marked_keeps p o has) ∙ is);
    };
    blocks = λ b some. elim (cases_eq b top) [
      | inl same ↦ subst (λ x. IsWholeBlock (new x)) (sym same) whole
      | inr ne ↦ subst IsWholeBlock (sym (others b ne)) (v.blocks b some)
    ];
    directories = λ n number there is.
        let there' : block n ≢ 0 = λ z. there (number_same n ∙ z) in
        let a = alike n number there' in
        let kind = ap (λ b. kind_of (fields_of (new b)).mode) (number_same n) ∙ ap (λ m. kind_of (fields_of m).mode) a.own in
        let was = v.directories n number there' (sym kind ∙ is) in
        subst (λ b. IsDirectory new (key_in new top) b) (sym (number_same n))
        (subst (λ key. IsDirectory new key (block n)) (sym same_key)
        (fewer_buckets old new (key_in old top) (block n) (λ k few. inl (bucket_same old new (block n) a.leaves a.bytes k (ap content_of a.own))) was));
  }
