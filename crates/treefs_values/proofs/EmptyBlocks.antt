-- An empty block is attached: a node without pointers, or a leaf of zeros. The files are as before.
use mathlib.Core.Path.{fun_ext}
use Rattle.std.proofs.Common.{◌≡◌, ◌≢◌, ◌⊎◌, ℕ, suc, ◌+◌, ◌-◌, ◌/◌, ◌%◌, ◌<◌, Bool, true, false, ◌||◌, List, [], ◌∷◌, Some, refl, sym, ◌∙◌, ap, inl, inr, subst, arith, get_or, if◌then◌else◌}
use Rattle.std.specs.Prelude.{IsTrue, find, map, nat_lt, option_map, slice_index, ◌&&◌, ◌==◌}
use Rattle.std.specs.List.{range_with_len}
use Rattle.std.proofs.lemmas.Bool.{cases_eq, ne_eqb}
use Rattle.std.proofs.lemmas.List.{get_or-drop}
use Rattle.xn_model.specs.Root.{word_at}
use Rattle.treefs_format.proofs.ForCallers.{no_length}
use Rattle.treefs_format.specs.Buckets.{has_name as buckets_has_name, is_whole, live_record}
use Rattle.treefs_format.specs.Candidates.{candidates, name_hash}
use Rattle.treefs_format.specs.Fields.{fields_of}
use Rattle.treefs_format.specs.Inodes.{content_of, kind_of}
use Rattle.treefs_format.specs.Paths.{leaf_count, steps}
use Rattle.treefs_format.specs.Records.{entries_of, is_live, placed}
use Rattle.treefs_format.specs.Roots.{key_of}
use Rattle.treefs_format.specs.declared.kind.Kind.{Kind}
use Rattle.treefs_format.specs.declared.kind.Kind.TheVariants as kind
use Rattle.treefs_model.specs.Files.{Directory, File, SymbolicLink}
use Rattle.treefs_model.specs.Reading.{block_at, bucket_of, byte_of, bytes_of, content_at, files_of, inode_block, inode_of, inode_with, key_in, leaf_block, leaf_byte, number_among, number_of, pointed}
use Rattle.treefs_model.specs.Trees.{has_name, has_pointer, names_once}
use Rattle.treefs_values.specs.Attached.{IsEmptyBlock, IsPointerSet}
use Rattle.treefs_values.specs.Volumes.{IsDirectory, IsVolume, IsWholeBlock}
use Rattle.treefs_values.specs.Ways.{ArePointersApart, IsTyped, IsWay, block_numbered}
use Rattle.treefs_values.proofs.Alike.{in_leaf}
use Rattle.treefs_values.proofs.Apart.{inodes_apart, leaf_no_inode, same_way, starts}
use Rattle.treefs_values.proofs.Attaching.{one_height}
use Rattle.treefs_values.proofs.Elsewhere.{file_read, inode_numbered, no_file}
use Rattle.treefs_values.proofs.Standing.{KeepsInodes, KeepsNames}
use Rattle.treefs_values.proofs.Ways.{inode_pointer, node_pointer, steps_way}
use Rattle.treefs_values.proofs.Zeros.{zeros_are_nothing}

-- A bucket of another block, or one that comes to be there, may have other bytes, but no other records

module _ (old new : ℕ → List ℕ) (c : ℕ) (name : List ℕ) (same : (k : ℕ) → live_record (bucket_of new c k) name ≡ live_record (bucket_of old c k) name) where
  among_alike : (buckets : List ℕ) → number_among new c name buckets ≡ number_among old c name buckets
  among_alike [] = refl
  among_alike (k ∷ buckets) = rw (same k) (rw (among_alike buckets) refl)

module _ (node inode top : ℕ) (type : ℕ → ℕ) (old new : ℕ → List ℕ) (v : IsVolume node inode type old top) (n l o : ℕ) (q : List ℕ) (way_there : IsWay (o ∷ q) l)
    (holder_some : block_at old (block_numbered old top n) q ≢ 0) (b : ℕ) (set : IsPointerSet node inode type old new (block_at old (block_numbered old top n) q) o b)
    (some : b ≢ 0) (not_holder : b ≢ block_at old (block_numbered old top n) q) (is_node : (k : ℕ) → l ≡ suc k → type b ≡ node)
    (is_leaf : l ≡ 0 → (n ≢ 0) × (type b ≡ 2)) (bare : (p : ℕ) → IsTrue (has_pointer node inode (type b) p) → word_at (old b) p ≡ 0) where
  abbrev block : ℕ → ℕ
  block m = block_numbered old top m

  abbrev at : ℕ → List ℕ → ℕ
  at m os = block_at old (block m) os

  abbrev holder : ℕ
  holder = at n q

  abbrev now : ℕ → List ℕ → ℕ
  now m os = block_at new (block m) os

  -- the pointer stands at the end of one way alone
  only_there : (m k p : ℕ) (os : List ℕ) → IsWay (p ∷ os) k → at m os ≡ holder → p ≡ o → (m ≡ n) × (os ≡ q) × (k ≡ l)
  only_there m k p os way is same = by os q way way_there is holder_some
    where
      by : (os q : List ℕ) → IsWay (p ∷ os) k → IsWay (o ∷ q) l → at m os ≡ at n q → at n q ≢ 0 → (m ≡ n) × (os ≡ q) × (k ≡ l)
      by [] [] way way' is' there = (
        inodes_apart node inode top type old v.types.0 v.typed v.apart m n (λ z. there (sym is' ∙ z)) is',
        refl,
        one_height (o ∷ []) k l (subst (λ x. IsWay (x ∷ []) k) same way) way',
      )
      by [] (r ∷ rs) way way' is' there =
          absurd (v.types.0 (sym (v.typed.nodes n l (r ∷ rs) way'.3 there) ∙ (ap type (sym is') ∙ v.typed.inodes m (λ z. there (sym is' ∙ z)))))
      by (s ∷ ss) [] way way' is' there =
          absurd (v.types.0 (sym (v.typed.nodes m k (s ∷ ss) way.3 (λ z. there (sym is' ∙ z))) ∙ (ap type is' ∙ v.typed.inodes n there)))
      by (s ∷ ss) (r ∷ rs) way way' is' there =
          let e = same_way node inode top type old v.types.0 v.typed v.apart m n (suc k) (suc l) (s ∷ ss) (r ∷ rs) way.3 way'.3 (λ z. there (sym is' ∙ z)) is' in (
            inodes_apart node inode top type old v.types.0 v.typed v.apart m n (starts_there m k s ss way (λ z. there (sym is' ∙ z))) e.0,
            e.1,
            lower (one_height (r ∷ rs) (suc k) (suc l) (subst (λ os. IsWay os (suc k)) e.1 way.3) way'.3),
          )
        where
          lower : suc k ≡ suc l → k ≡ l
          lower e = omega (arith, e)

          starts_there : (m k s : ℕ) (ss : List ℕ) → IsWay (p ∷ s ∷ ss) k → at m (s ∷ ss) ≢ 0 → block m ≢ 0
          starts_there m k s ss way there = starts node inode top type old v.types.0 v.typed v.apart m (suc k) (s ∷ ss) way.3 there

  -- each way leads where it led, or it led nowhere and ends at the block
  abbrev pub Leads : ℕ → ℕ → List ℕ → Type 0
  Leads m k os = (now m os ≡ at m os) ⊎ ((at m os ≡ 0) × (now m os ≡ b) × (m ≡ n) × (k ≡ l))

  point : (m k p : ℕ) (os : List ℕ) → IsWay (p ∷ os) k → IsTrue (has_pointer node inode (type (at m os)) p) → now m os ≡ at m os →
      (at m os ≡ holder) ⊎ (at m os ≢ holder) → (p ≡ o) ⊎ (p ≢ o) → Leads m k (p ∷ os)
  point m k p os way has above (inr ne) other = inl (ap (λ c. pointed new c p) above ∙ set.others (at m os) p has (inl ne))
  point m k p os way has above (inl here) (inr ne) = inl (ap (λ c. pointed new c p) above ∙ set.others (at m os) p has (inr ne))
  point m k p os way has above (inl here) (inl same) =
      let only = only_there m k p os way here same in
      inr (
        (λ j. pointed old (here j) (same j)) ∙ set.was,
        ap (λ c. pointed new c p) above ∙ ((λ j. pointed new (here j) (same j)) ∙ set.now),
        only.0,
        only.2,
      )

  nowhere : (content : ℕ → List ℕ) (c p : ℕ) → c ≡ 0 → pointed content c p ≡ 0
  nowhere content c p z = ap (λ c. pointed content c p) z

  grown : (m k : ℕ) (os : List ℕ) → IsWay os k → Leads m k os
  grown m k [] way = absurd way
  grown m k (p ∷ []) way = elim (cases_eq (block m) 0) [
    | inl z ↦ inl (nowhere new (block m) p z ∙ sym (nowhere old (block m) p z))
    | inr there ↦ point m k p [] way (inode_pointer node inode (type (block m)) p k (v.typed.inodes m there) way) refl (cases_eq (block m) holder) (cases_eq p o)
  ]
  grown m k (p ∷ r ∷ os) way = by (grown m (suc k) (r ∷ os) way.3) (cases_eq (at m (r ∷ os)) 0)
    where
      by : Leads m (suc k) (r ∷ os) → (at m (r ∷ os) ≡ 0) ⊎ (at m (r ∷ os) ≢ 0) → Leads m k (p ∷ r ∷ os)
      by (inl same) (inl z) = inl (nowhere new (now m (r ∷ os)) p (same ∙ z) ∙ sym (nowhere old (at m (r ∷ os)) p z))
      by (inl same) (inr there) =
          point m k p (r ∷ os) way (node_pointer node inode (type (at m (r ∷ os))) p way.0 (v.typed.nodes m k (r ∷ os) way.3 there) way.1 way.2) same
          (cases_eq (at m (r ∷ os)) holder) (cases_eq p o)
      by (inr (was, is, of, height)) other =
          let has = node_pointer node inode (type b) p way.0 (is_node k (sym height)) way.1 way.2 in
          inl (ap (λ c. pointed new c p) is
          ∙ (ap (λ m. if b == 0 then 0 else word_at m p) (set.changed b not_holder)
          ∙ (ap (λ t. if t then 0 else word_at (old b) p) (ne_eqb b 0 some)
          ∙ (bare p has ∙ sym (nowhere old (at m (r ∷ os)) p was)))))

  -- inodes stand where they stood
  inode_same : (m : ℕ) → inode_block new top m ≡ inode_block old top m
  inode_same m = by ((m == 0) || nat_lt leaf_count m) refl
    where
      by : (t : Bool) → ((m == 0) || nat_lt leaf_count m) ≡ t → inode_block new top m ≡ inode_block old top m
      by true e = ap (λ t. if t then 0 else leaf_block new top (m - 1)) e ∙ sym (ap (λ t. if t then 0 else leaf_block old top (m - 1)) e)
      by false e =
          ap (λ t. if t then 0 else leaf_block new top (m - 1)) e
          ∙ (from_root (grown 0 0 (steps (m - 1)) (steps_way (m - 1))) ∙ sym (ap (λ t. if t then 0 else leaf_block old top (m - 1)) e))
        where
          from_root : Leads 0 0 (steps (m - 1)) → leaf_block new top (m - 1) ≡ leaf_block old top (m - 1)
          from_root (inl same) = same
          from_root (inr (was, is, of, height)) = absurd ((is_leaf (sym height)).0 (sym of))

  pub block_same : (m : ℕ) → block_numbered new top m ≡ block m
  block_same m = ap (λ x. if m == 0 then top else x) (inode_same m)

  -- What is read of each inode

  module _ (nothing : l ≡ 0 → ((i : ℕ) → slice_index (old b) i ≡ 0) × ((entries_of (old b) ≡ []) × (is_whole (old b) ≡ true))) where
    -- where a leaf came to be there, it stood nowhere, and is empty
    pub record IsSameLeaf (m i : ℕ) : Type 0 where
      pub bytes : (j : ℕ) → leaf_byte new (leaf_block new (block m) i) j ≡ leaf_byte old (leaf_block old (block m) i) j
      pub entries : entries_of (if leaf_block new (block m) i == 0 then [] else new (leaf_block new (block m) i))
          ≡ entries_of (if leaf_block old (block m) i == 0 then [] else old (leaf_block old (block m) i))
      pub whole : is_whole (if leaf_block old (block m) i == 0 then [] else old (leaf_block old (block m) i)) ≡ true →
          is_whole (if leaf_block new (block m) i == 0 then [] else new (leaf_block new (block m) i)) ≡ true

    no_leaf : (m i : ℕ) → m ≢ 0 → leaf_block old (block m) i ≢ 0 → leaf_block old (block m) i ≢ holder
    no_leaf m i m_some there is = by q refl
      where
        by : (p : List ℕ) → p ≡ q → ⊥
        by [] e = leaf_no_inode node inode top type old v.types.0 v.typed v.apart m n i m_some there (is ∙ ap (at n) (sym e))
        by (r ∷ rs) e =
            let way = subst (λ p. IsWay (o ∷ p) l) (sym e) way_there in
            let s = same_way node inode top type old v.types.0 v.typed v.apart m n 0 (suc l) (steps i) (r ∷ rs) (steps_way i) way.3 there (is ∙ ap (at n) (sym e)) in
            apart_height (one_height (r ∷ rs) 0 (suc l) (subst (λ os. IsWay os 0) s.1 (steps_way i)) way.3)
          where
            apart_height : 0 ≡ suc l → ⊥
            apart_height h = absurd (omega (arith, h))

    leaf_alike : (m i : ℕ) → m ≢ 0 → IsSameLeaf m i
    leaf_alike m i m_some = by (grown m 0 (steps i) (steps_way i)) (cases_eq (leaf_block old (block m) i) 0)
      where
        by : Leads m 0 (steps i) → (leaf_block old (block m) i ≡ 0) ⊎ (leaf_block old (block m) i ≢ 0) → IsSameLeaf m i
        by (inl same) (inl z) = record {
          bytes = λ j. ap (λ x. leaf_byte new x j) (same ∙ z) ∙ sym (ap (λ x. leaf_byte old x j) z);
          entries = ap (λ x. entries_of (if x == 0 then [] else new x)) (same ∙ z) ∙ sym (ap (λ x. entries_of (if x == 0 then [] else old x)) z);
          whole = λ was. ap (λ x. is_whole (if x == 0 then [] else new x)) (same ∙ z) ∙ (sym (ap (λ x. is_whole (if x == 0 then [] else old x)) z) ∙ was);
        }
        by (inl same) (inr there) =
            let kept = set.changed (leaf_block old (block m) i) (no_leaf m i m_some there) in record {
              bytes = λ j. ap (λ x. leaf_byte new x j) same ∙ ap (λ y. if leaf_block old (block m) i == 0 then 0 else slice_index y j) kept;
              entries = ap (λ x. entries_of (if x == 0 then [] else new x)) same
                  ∙ ap (λ y. entries_of (if leaf_block old (block m) i == 0 then [] else y)) kept;
              whole = λ was. ap (λ x. is_whole (if x == 0 then [] else new x)) same
                  ∙ (ap (λ y. is_whole (if leaf_block old (block m) i == 0 then [] else y)) kept ∙ was);
            }
        by (inr (was, is, of, height)) other =
            let none = nothing (sym height) in
            let kept = set.changed b not_holder in record {
              bytes = λ j. ap (λ x. leaf_byte new x j) is ∙ (ap (λ t. if t then 0 else slice_index (new b) j) (ne_eqb b 0 some)
                  ∙ (ap (λ y. slice_index y j) kept ∙ (none.0 j ∙ sym (ap (λ x. leaf_byte old x j) was))));
              entries = ap (λ x. entries_of (if x == 0 then [] else new x)) is ∙ (ap (λ t. entries_of (if t then [] else new b)) (ne_eqb b 0 some)
                  ∙ (ap entries_of kept ∙ (none.1.0 ∙ (sym (no_length [] refl) ∙ sym (ap (λ x. entries_of (if x == 0 then [] else old x)) was)))));
              whole = λ w. ap (λ x. is_whole (if x == 0 then [] else new x)) is ∙ (ap (λ t. is_whole (if t then [] else new b)) (ne_eqb b 0 some)
                  ∙ (ap is_whole kept ∙ none.1.1));
            }

    -- an inode's own block has a pointer more at most
    own_fields : (m : ℕ) → block m ≢ 0 → fields_of (new (block m)) ≡ fields_of (old (block m))
    own_fields m there = elim (cases_eq (block m) holder) [
      | inl is ↦ ap (λ x. fields_of (new x)) is ∙ (set.fields (ap type (sym is) ∙ v.typed.inodes m there) ∙ sym (ap (λ x. fields_of (old x)) is))
      | inr ne ↦ ap fields_of (set.changed (block m) ne)
    ]

    own_content : (m : ℕ) → block m ≢ 0 → content_of (new (block m)) ≡ content_of (old (block m))
    own_content m there = elim (cases_eq (block m) holder) [
      | inl is ↦ ap (λ x. content_of (new x)) is ∙ (set.contents (ap type (sym is) ∙ v.typed.inodes m there) ∙ sym (ap (λ x. content_of (old x)) is))
      | inr ne ↦ ap content_of (set.changed (block m) ne)
    ]

    bucket_entries_same : (m k : ℕ) → m ≢ 0 → block m ≢ 0 → entries_of (bucket_of new (block m) k) ≡ entries_of (bucket_of old (block m) k)
    bucket_entries_same m k m_some there = elim (cases_eq k 0) [
      | inl z ↦ ap (λ k. entries_of (bucket_of new (block m) k)) z ∙ (ap entries_of (own_content m there) ∙ sym (ap (λ k. entries_of (bucket_of old (block m) k)) z))
      | inr other ↦
          ap entries_of (in_leaf new (block m) k other) ∙ ((leaf_alike m (k - 1) m_some).entries ∙ sym (ap entries_of (in_leaf old (block m) k other)))
    ]

    bucket_whole : (m k : ℕ) → m ≢ 0 → block m ≢ 0 → is_whole (bucket_of old (block m) k) ≡ true → is_whole (bucket_of new (block m) k) ≡ true
    bucket_whole m k m_some there was = elim (cases_eq k 0) [
      | inl z ↦ ap (λ k. is_whole (bucket_of new (block m) k)) z ∙ (ap is_whole (own_content m there) ∙ (sym (ap (λ k. is_whole (bucket_of old (block m) k)) z) ∙ was))
      | inr other ↦
          ap is_whole (in_leaf new (block m) k other) ∙ (leaf_alike m (k - 1) m_some).whole (sym (ap is_whole (in_leaf old (block m) k other)) ∙ was)
    ]

    byte_alike : (m p : ℕ) → m ≢ 0 → block m ≢ 0 → byte_of new (block m) p ≡ byte_of old (block m) p
    byte_alike m p m_some there = by (nat_lt p 384) refl
      where
        by : (t : Bool) → nat_lt p 384 ≡ t → byte_of new (block m) p ≡ byte_of old (block m) p
        by true e =
            ap (λ t. if t then slice_index (new (block m)) (128 + p) else leaf_byte new (leaf_block new (block m) (p / 512)) (p % 512)) e
            ∙ (sym (get_or-drop 128 (new (block m)) p 0) ∙ (ap (λ x. get_or x p 0) (own_content m there) ∙ (get_or-drop 128 (old (block m)) p 0
            ∙ sym (ap (λ t. if t then slice_index (old (block m)) (128 + p) else leaf_byte old (leaf_block old (block m) (p / 512)) (p % 512)) e))))
        by false e =
            ap (λ t. if t then slice_index (new (block m)) (128 + p) else leaf_byte new (leaf_block new (block m) (p / 512)) (p % 512)) e
            ∙ ((leaf_alike m (p / 512) m_some).bytes (p % 512)
            ∙ sym (ap (λ t. if t then slice_index (old (block m)) (128 + p) else leaf_byte old (leaf_block old (block m) (p / 512)) (p % 512)) e))

    bytes_alike : (m : ℕ) → m ≢ 0 → block m ≢ 0 → bytes_of new (block m) ≡ bytes_of old (block m)
    bytes_alike m m_some there = (λ j. map (fun_ext (λ p. byte_alike m p m_some there) j) (range_with_len 0 (own_fields m there j).size))

    numbers_alike : (m : ℕ) (key : List ℕ) → m ≢ 0 → block m ≢ 0 → number_of new key (block m) ≡ number_of old key (block m)
    numbers_alike m key m_some there = fun_ext (λ name. among_alike old new (block m) name (λ k. live k name) (candidates (name_hash key name)))
      where
        live : (k : ℕ) (name : List ℕ) → live_record (bucket_of new (block m) k) name ≡ live_record (bucket_of old (block m) k) name
        live k name = ap (λ es. find (λ r. is_live r.entry && buckets_has_name name r) (placed 0 es)) (bucket_entries_same m k m_some there)

    value_alike : (m : ℕ) (key : List ℕ) (parent : ℕ) (k : Kind) → m ≢ 0 → block m ≢ 0 → content_at new key (block m) parent k ≡ content_at old key (block m) parent k
    value_alike m key parent kind.Directory m_some there = (λ j. Directory parent (numbers_alike m key m_some there j))
    value_alike m key parent kind.File m_some there = (λ j. File (bytes_alike m m_some there j))
    value_alike m key parent kind.SymbolicLink m_some there = (λ j. SymbolicLink (bytes_alike m m_some there j))

    inode_alike : (m : ℕ) (key : List ℕ) → m ≢ 0 → block m ≢ 0 → inode_of new key (block m) ≡ inode_of old key (block m)
    inode_alike m key m_some there =
        (λ j. option_map (λ k. inode_with (own_fields m there j) (value_alike m key (own_fields m there j).parent k m_some there j)) (kind_of (own_fields m there j).mode))

    key_same : key_in new top ≡ key_in old top
    key_same = key_from (new top) (old top) (own_content 0 v.root)
      where
        key_from : (x y : List ℕ) → content_of x ≡ content_of y → key_of (content_of x) ≡ key_of (content_of y)
        key_from x y same = ap key_of same

    pub empty_files : files_of new top ≡ files_of old top
    empty_files = fun_ext (λ m. by m (cases_eq (inode_block old top m) 0))
      where
        by : (m : ℕ) → (inode_block old top m ≡ 0) ⊎ (inode_block old top m ≢ 0) → files_of new top m ≡ files_of old top m
        by m (inl z) = no_file new top m (inode_same m ∙ z) ∙ sym (no_file old top m z)
        by m (inr there) =
            let m_some : m ≢ 0 = λ z. there (ap (inode_block old top) z) in
            let is = inode_numbered old top m m_some in
            let some : block m ≢ 0 = λ z. there (sym is ∙ z) in
            file_read new top m (block m) (inode_same m ∙ sym is) some
            ∙ (ap (λ key. inode_of new key (block m)) key_same ∙ (inode_alike m (key_in old top) m_some some ∙ sym (file_read old top m (block m) (sym is) some)))

    -- the block stands at the end of its way
    holder_stays : block_at new (block n) q ≡ holder
    holder_stays = by q way_there holder_some
      where
        by : (q : List ℕ) → IsWay (o ∷ q) l → at n q ≢ 0 → block_at new (block n) q ≡ at n q
        by [] way there = refl
        by (r ∷ rs) way there = elim (grown n (suc l) (r ∷ rs) way.3) [ inl same ↦ same | inr led ↦ absurd (there led.0) ]

    pub empty_there : block_at new (block_numbered new top n) (o ∷ q) ≡ b
    empty_there = ap (λ c. block_at new c (o ∷ q)) (block_same n) ∙ (ap (λ c. pointed new c o) holder_stays ∙ set.now)

    -- records stay
    pub empty_names : (m : ℕ) → m ≢ 0 → block m ≢ 0 → KeepsNames old new top m
    empty_names m m_some there = record {
      key = key_same;
      block = block_same m;
      fields = own_fields m there;
      entries = λ k. bucket_entries_same m k m_some there;
      leaves = λ i some. elim (grown m 0 (steps i) (steps_way i)) [ inl same ↦ same | inr led ↦ absurd (some led.0) ];
    }

    -- of the table: all inodes stay
    module _ (of_table : n ≡ 0) where
      no_inode : (m : ℕ) → m ≢ 0 → block m ≢ 0 → block m ≢ holder
      no_inode m m_some there is = by q way_there holder_some is
        where
          by : (q : List ℕ) → IsWay (o ∷ q) l → at n q ≢ 0 → block m ≡ at n q → ⊥
          by [] way some' is' = m_some (inodes_apart node inode top type old v.types.0 v.typed v.apart m n there is' ∙ of_table)
          by (r ∷ rs) way some' is' = v.types.0 (sym (v.typed.nodes n l (r ∷ rs) way.3 some') ∙ (ap type (sym is') ∙ v.typed.inodes m there))

      all_ways : (m k : ℕ) (os : List ℕ) → m ≢ 0 → IsWay os k → now m os ≡ at m os
      all_ways m k os m_some way = elim (grown m k os way) [ inl same ↦ same | inr led ↦ absurd (m_some (led.2 ∙ of_table)) ]

      pub table_inodes : KeepsInodes old new top
      table_inodes = record {
        key = key_same;
        inodes = λ m m_some there. record {
          block = block_same m;
          alike = record {
            own = set.changed (block m) (no_inode m m_some there);
            leaves = λ i. all_ways m 0 (steps i) m_some (steps_way i);
            bytes = λ i leaf_some. set.changed (leaf_block old (block m) i) (no_leaf m i m_some leaf_some);
          };
          ways = λ k os way. all_ways m k os m_some way;
        };
      }

    -- it is a volume still

    module _ (apart : ArePointersApart node inode type new top) (is_block : IsWholeBlock (new holder)) where
      from_new : (m k : ℕ) (os : List ℕ) → IsWay os k → block_at new (block_numbered new top m) os ≡ now m os
      from_new m k os way = ap (λ c. block_at new c os) (block_same m)

      typed_so : IsTyped node inode type new top
      typed_so = record {
        inodes = λ m there. ap type (block_same m) ∙ v.typed.inodes m (λ z. there (block_same m ∙ z));
        nodes = λ m k os way there. ap type (from_new m (suc k) os way) ∙ node_by m k os way (λ z. there (from_new m (suc k) os way ∙ z)) (grown m (suc k) os way);
        leaves = λ m i m_some few there.
            ap type (from_new m 0 (steps i) (steps_way i)) ∙ leaf_by m i m_some few (λ z. there (from_new m 0 (steps i) (steps_way i) ∙ z)) (grown m 0 (steps i) (steps_way i));
      }
        where
          node_by : (m k : ℕ) (os : List ℕ) → IsWay os (suc k) → now m os ≢ 0 → Leads m (suc k) os → type (now m os) ≡ node
          node_by m k os way there (inl same) = ap type same ∙ v.typed.nodes m k os way (λ z. there (same ∙ z))
          node_by m k os way there (inr (was, is, of, height)) = ap type is ∙ is_node k (sym height)

          leaf_by : (m i : ℕ) → m ≢ 0 → i < leaf_count → now m (steps i) ≢ 0 → Leads m 0 (steps i) → type (now m (steps i)) ≡ 2
          leaf_by m i m_some few there (inl same) = ap type same ∙ v.typed.leaves m i m_some few (λ z. there (same ∙ z))
          leaf_by m i m_some few there (inr (was, is, of, height)) = ap type is ∙ (is_leaf (sym height)).1

      directory_so : (m : ℕ) → m ≢ 0 → block m ≢ 0 → kind_of (fields_of (new (block m))).mode ≡ Some kind.Directory → IsDirectory new (key_in old top) (block m)
      directory_so m m_some there is =
          let d = v.directories m m_some there (sym (ap (λ g. kind_of g.mode) (own_fields m there)) ∙ is) in
          let same = λ (k : ℕ). bucket_entries_same m k m_some there in record {
            names = record {
              once = λ k few. subst (λ es. IsTrue (names_once es)) (sym (same k)) (d.names.once k few);
              apart = λ j k name few few' one other.
                  d.names.apart j k name few few' (subst (λ es. IsTrue (has_name es name)) (same j) one) (subst (λ es. IsTrue (has_name es name)) (same k) other);
            };
            placed = λ k name few has. d.placed k name few (subst (λ es. IsTrue (has_name es name)) (same k) has);
            valid = λ k name few has. d.valid k name few (subst (λ es. IsTrue (has_name es name)) (same k) has);
            whole = λ k few. bucket_whole m k m_some there (d.whole k few);
          }

      pub empty_volume : IsVolume node inode type new top
      empty_volume = record {
        types = v.types;
        some_types = v.some_types;
        root = v.root;
        typed = typed_so;
        apart = apart;
        blocks = λ c some_type. elim (cases_eq c holder) [
          | inl same ↦ subst (λ y. IsWholeBlock (new y)) (sym same) is_block
          | inr ne ↦ subst IsWholeBlock (sym (set.changed c ne)) (v.blocks c some_type)
        ];
        directories = λ m m_some there is.
            subst (λ c. IsDirectory new (key_in new top) c) (sym (block_same m)) (subst (λ key. IsDirectory new key (block m)) (sym key_same)
            (directory_so m m_some (λ z. there (block_same m ∙ z)) (sym (ap (λ c. kind_of (fields_of (new c)).mode) (block_same m)) ∙ is)));
      }

-- so it is with a node without pointers, or a leaf of zeros of an inode
pub empty_attached : (node inode top : ℕ) (type : ℕ → ℕ) (content new : ℕ → List ℕ) → IsVolume node inode type content top → (n l offset block : ℕ) (above : List ℕ) →
    IsWay (offset ∷ above) l → let holder = block_at content (block_numbered content top n) above in holder ≢ 0 →
    IsPointerSet node inode type content new holder offset block → IsEmptyBlock node inode type content n l block → block ≢ holder →
    ArePointersApart node inode type new top → IsWholeBlock (new holder) →
    IsVolume node inode type new top × (files_of new top ≡ files_of content top)
empty_attached node inode top type old new v n l o b q way there set empty apart_of pointers whole =
    let leaf : l ≡ 0 → (n ≢ 0) × (type b ≡ 2) = λ h. (empty.leaf_of h, empty.leaf_type h) in
    let nothing = λ (h : l ≡ 0). zeros_are_nothing (old b) (empty.leaf_bytes h) in (
      empty_volume node inode top type old new v n l o q way there b set empty.there apart_of empty.node_above leaf empty.bare nothing pointers whole,
      empty_files node inode top type old new v n l o q way there b set empty.there apart_of empty.node_above leaf empty.bare nothing,
    )
