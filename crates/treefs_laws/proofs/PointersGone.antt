-- Pointers of one block come to lead nowhere: some in the tree of an inode, whatever stands behind them, or some of the table of inodes.
use Rattle.std.proofs.Common.{◌≡◌, ◌≢◌, ◌⊎◌, ℕ, suc, ◌+◌, ◌-◌, ◌/◌, ◌%◌, Bool, true, false, ◌||◌, List, [], ◌∷◌, None, Some, refl, sym, ◌∙◌, ap, inl, inr}
use Rattle.std.proofs.Common.{subst, arith, get_or}
use Rattle.std.proofs.Common.{if◌then◌else◌}
use Rattle.std.specs.Prelude.{IsTrue, nat_lt, slice_index, ◌==◌}
use Rattle.std.proofs.lemmas.Bool.{cases_eq}
use Rattle.std.proofs.lemmas.List.{get_or-drop}
use Rattle.xn_model.specs.Root.{word_at}
use Rattle.treefs_format.specs.Fields.{fields_of}
use Rattle.treefs_format.specs.Inodes.{content_of, kind_of}
use Rattle.treefs_format.specs.Paths.{leaf_count, steps}
use Rattle.treefs_format.specs.Roots.{key_of}
use Rattle.treefs_format.specs.declared.kind.Kind.TheVariants as kind
use Rattle.treefs_model.specs.Reading.{block_at, bucket_of, byte_of, files_of, inode_block, inode_of, key_in, leaf_block, leaf_byte, pointed}
use Rattle.treefs_model.specs.Trees.{has_pointer}
use Rattle.treefs_values.specs.Dropped.{AreDropped, IsCovered, IsHolderWay, IsLost}
use Rattle.treefs_values.specs.Volumes.{IsDirectory, IsVolume, IsWholeBlock}
use Rattle.treefs_values.specs.Ways.{ArePointersApart, IsTyped, IsWay, block_numbered}
use Rattle.treefs_values.proofs.ForCallers.{IsAlike, file_read, in_leaf, inode_numbered}
use Rattle.treefs_laws.specs.Unnamed.{IsReadAlike}
use Rattle.treefs_laws.proofs.SameValues.{fewer_buckets, inode_alike}
use Rattle.treefs_laws.proofs.WaysApart.{IsInodeBlock, below_root, file_none, inodes_apart, no_top, none_below, not_root, numbered_block, of_types, one_height}
use Rattle.treefs_laws.proofs.WaysApart.{other_type, same_way, steps_way, way_pointer}

-- a block stands in the tree below a block, or, where that is the root block, it is one of an inode
abbrev pub IsOf : (ℕ → List ℕ) → ℕ → ℕ → ℕ → Type 0
IsOf content top r b =
    ((r ≢ top) × (l : ℕ) × (os : List ℕ) × IsWay os l × (b ≡ block_at content r os)) ⊎ ((r ≡ top) × (m : ℕ) × (m ≢ 0) × (b ≡ block_numbered content top m))

-- one to which a pointer led that is to go
abbrev pub IsGone : (ℕ → List ℕ) → ℕ → List (ℕ × ℕ) → ℕ → Type 0
IsGone content holder places b = (b ≢ 0) × (o : ℕ) × IsCovered places o × (pointed content holder o ≡ b)

-- the block of an inode with a number, or one to which nothing points
abbrev pub IsUnled : ℕ → ℕ → (ℕ → ℕ) → (ℕ → List ℕ) → ℕ → Type 0
IsUnled node inode type content r = (p o : ℕ) → IsTrue (has_pointer node inode (type p) o) → pointed content p o ≢ r

abbrev pub IsRoot : ℕ → ℕ → (ℕ → ℕ) → (ℕ → List ℕ) → ℕ → ℕ → Type 0
IsRoot node inode type content top r = ((n : ℕ) × (r ≡ block_numbered content top n)) ⊎ ((r ≢ top) × IsUnled node inode type content r)

module _ (node inode top : ℕ) (type type' : ℕ → ℕ) (old new : ℕ → List ℕ) (v : IsVolume node inode type old top)
    (r : ℕ) (r_some : r ≢ 0) (r_is : IsInodeBlock node inode type old r) (stands : IsRoot node inode type old top r) (q : List ℕ) (way_to : IsHolderWay q)
    (holder_some : block_at old r q ≢ 0) (places : List (ℕ × ℕ)) (gone : AreDropped node inode type type' old new (block_at old r q) places)
    (of : (b : ℕ) → IsGone old (block_at old r q) places b → IsOf old top r b) where
  abbrev block : ℕ → ℕ
  block m = block_numbered old top m

  abbrev Inode : ℕ → Type 0
  Inode a = IsInodeBlock node inode type old a

  abbrev at : ℕ → List ℕ → ℕ
  at a os = block_at old a os

  abbrev holder : ℕ
  holder = at r q

  abbrev now : ℕ → List ℕ → ℕ
  now a os = block_at new a os

  abbrev Lost : ℕ → Type 0
  Lost b = IsLost node inode type type' old new holder places b

  abbrev Gone : ℕ → Type 0
  Gone b = IsGone old holder places b

  -- read as before, or the holder
  abbrev Kept : ℕ → Type 0
  Kept b = (type' b ≡ type b) × ((b ≡ holder) ⊎ (new b ≡ old b))

  is_block : (m : ℕ) → block m ≢ 0 → Inode (block m)
  is_block = numbered_block node inode top type old v

  top_is : Inode top
  top_is = is_block 0 v.root

  apart_numbers : (m k : ℕ) → block m ≢ 0 → block m ≡ block k → m ≡ k
  apart_numbers = inodes_apart node inode top type old v

  kept_or_lost : (b : ℕ) → Kept b ⊎ Lost b
  kept_or_lost b = elim (cases_eq b holder) [
    | inl same ↦ inl (ap type' same ∙ (gone.typed ∙ sym (ap type same)), inl same)
    | inr ne ↦ elim (gone.others b ne) [ inl k ↦ inl (k.0, inr k.1) | inr lost ↦ inr lost ]
  ]

  lost_gone : (b : ℕ) → Lost b → Gone b
  lost_gone b lost = (lost.there, lost.offset, lost.covered, lost.led)

  -- no inode goes but those of the table
  inode_goes : (m : ℕ) → block m ≢ 0 → Gone (block m) → (r ≡ top) × (m ≢ 0)
  inode_goes m there g = by (of (block m) g) (cases_eq m 0)
    where
      by : IsOf old top r (block m) → (m ≡ 0) ⊎ (m ≢ 0) → (r ≡ top) × (m ≢ 0)
      by (inl (some, l, os, way, is)) (inl z) = absurd (not_root node inode top type old v r r_is l os way (λ y. there (is ∙ y)) (sym is ∙ ap block z))
      by (inl (some, l, os, way, is)) (inr m_some) = absurd (some (below_root node inode top type old v m r r_is l os m_some there way is).0)
      by (inr (is_top, k, k_some, is)) (inl z) = absurd (k_some (sym (apart_numbers m k there is) ∙ z))
      by (inr (is_top, k, k_some, is)) (inr m_some) = (is_top, m_some)

  way_goes : (a : ℕ) → Inode a → (k : ℕ) (os : List ℕ) → IsWay os k → at a os ≢ 0 → Gone (at a os) → (a ≡ r) × (r ≡ top → k ≡ 0)
  way_goes a a_is k os way there g = by (of (at a os) g)
    where
      by : IsOf old top r (at a os) → (a ≡ r) × (r ≡ top → k ≡ 0)
      by (inl (some, l, ps, way', is)) = ((same_way node inode top type old v a r a_is r_is k l os ps way way' there is).0, λ z. absurd (some z))
      by (inr (is_top, j, j_some, is)) =
          let e = below_root node inode top type old v j a a_is k os j_some (λ z. there (is ∙ z)) way (sym is) in
          (e.0 ∙ sym is_top, λ z. one_height os k 0 way (subst (λ ps. IsWay ps 0) e.1 (steps_way (j - 1))))

  inode_kept : (m : ℕ) → block m ≢ 0 → (r ≢ top) ⊎ (m ≡ 0) → Kept (block m)
  inode_kept m there plain = elim (kept_or_lost (block m)) [
    | inl k ↦ k
    | inr lost ↦ let e = inode_goes m there (lost_gone (block m) lost) in absurd (elim plain [ inl some ↦ some e.0 | inr z ↦ e.1 z ])
  ]

  -- Each way leads where it led, or nowhere

  -- in the table only what leads to an inode that goes
  abbrev Passes : ℕ → List ℕ → Type 0
  Passes a os = (a ≡ r) × (r ≡ top → Gone (at a os))

  abbrev Shrinks : ℕ → List ℕ → Type 0
  Shrinks a os = ((now a os ≡ at a os) × (at a os ≢ 0 → Kept (at a os))) ⊎ ((now a os ≡ 0) × Passes a os)

  -- what leads to a lost block is the pointer that went
  lost_there : (a : ℕ) → Inode a → (k p : ℕ) (os : List ℕ) → IsWay (p ∷ os) k → at a os ≢ 0 → (lost : Lost (at a (p ∷ os))) →
      (at a os ≡ holder) × (p ≡ lost.offset)
  lost_there a a_is k p os way above lost =
      let e = v.apart.once holder (at a os) lost.offset p lost.pointer (way_pointer node inode top type old v a a_is k p os way above)
      (λ z. lost.there (sym lost.led ∙ z)) lost.led in
      (sym e.0, sym e.1)

  point : (a : ℕ) → Inode a → (k p : ℕ) (os : List ℕ) → IsWay (p ∷ os) k → now a os ≡ at a os → at a os ≢ 0 → Kept (at a os) → Shrinks a (p ∷ os)
  point a a_is k p os way same there kept = elim (cases_eq (at a os) holder) [
    | inl here ↦ at_holder here (gone.pointers p
        (subst (λ c. IsTrue (has_pointer node inode (type c) p)) here (way_pointer node inode top type old v a a_is k p os way there)))
    | inr ne ↦ inl (
      ap (λ c. pointed new c p) same ∙ elsewhere ne kept.1,
      λ some. elim (kept_or_lost (at a (p ∷ os))) [ inl k ↦ k | inr lost ↦ absurd (ne (lost_there a a_is k p os way there lost).0) ],
    )
  ]
    where
      elsewhere : at a os ≢ holder → (at a os ≡ holder) ⊎ (new (at a os) ≡ old (at a os)) → pointed new (at a os) p ≡ pointed old (at a os) p
      elsewhere ne (inl here) = absurd (ne here)
      elsewhere ne (inr bytes) = ap (λ m. if at a os == 0 then 0 else word_at m p) bytes

      at_holder : at a os ≡ holder → (pointed new holder p ≡ pointed old holder p) ⊎ (IsCovered places p × (pointed new holder p ≡ 0)) → Shrinks a (p ∷ os)
      at_holder here (inl stays) = inl (
        ap (λ c. pointed new c p) (same ∙ here) ∙ (stays ∙ sym (ap (λ c. pointed old c p) here)),
        λ some. elim (kept_or_lost (at a (p ∷ os))) [
          | inl k ↦ k
          | inr lost ↦
              let e = lost_there a a_is k p os way there lost in
              absurd (some (ap (λ c. pointed old c p) here ∙ (sym stays ∙ (ap (pointed new holder) e.1 ∙ lost.nowhere))))
        ],
      )
      at_holder here (inr went) =
          let leads_nowhere : now a (p ∷ os) ≡ 0 = ap (λ c. pointed new c p) (same ∙ here) ∙ went.1 in
          elim (cases_eq (at a (p ∷ os)) 0) [
            | inl z ↦ inl (leads_nowhere ∙ sym z, λ some. absurd (some z))
            | inr some ↦
                let g : Gone (at a (p ∷ os)) = (some, p, went.0, sym (ap (λ c. pointed old c p) here)) in
                inr (leads_nowhere, ((way_goes a a_is k (p ∷ os) way some g).0, λ z. g))
          ]

  nowhere : (content : ℕ → List ℕ) (c p : ℕ) → c ≡ 0 → pointed content c p ≡ 0
  nowhere content c p z = ap (λ c. pointed content c p) z

  -- from a block of an inode that is read still
  shrunk : (a : ℕ) → (a ≢ 0 → Inode a × Kept a) → (k : ℕ) (os : List ℕ) → IsWay os k → Shrinks a os
  shrunk a kept k [] way = absurd way
  shrunk a kept k (p ∷ []) way = elim (cases_eq a 0) [
    | inl z ↦ inl (nowhere new a p z ∙ sym (nowhere old a p z), λ some. absurd (some (nowhere old a p z)))
    | inr there ↦ point a (kept there).0 k p [] way refl there (kept there).1
  ]
  shrunk a kept k (p ∷ o ∷ os) way = by (shrunk a kept (suc k) (o ∷ os) way.3) (cases_eq (at a (o ∷ os)) 0)
    where
      inode_there : at a (o ∷ os) ≢ 0 → Inode a
      inode_there there = (kept (λ z. there (none_below old a (suc k) (o ∷ os) z way.3))).0

      by : Shrinks a (o ∷ os) → (at a (o ∷ os) ≡ 0) ⊎ (at a (o ∷ os) ≢ 0) → Shrinks a (p ∷ o ∷ os)
      by (inl s) (inl z) = inl (
        nowhere new (now a (o ∷ os)) p (s.0 ∙ z)
            ∙ sym (nowhere old (at a (o ∷ os)) p z),
        λ some. absurd (some (nowhere old (at a (o ∷ os)) p z)),
      )
      by (inl s) (inr there) = point a (inode_there there) k p (o ∷ os) way s.0 there (s.1 there)
      by (inr s) (inl z) = inl (
        nowhere new (now a (o ∷ os)) p s.0
            ∙ sym (nowhere old (at a (o ∷ os)) p z),
        λ some. absurd (some (nowhere old (at a (o ∷ os)) p z)),
      )
      by (inr s) (inr there) = inr (
        nowhere new (now a (o ∷ os)) p s.0,
        (s.1.0, λ z. let high : suc k ≡ 0 = (way_goes a (inode_there there) (suc k) (o ∷ os) way.3 there (s.1.1 z)).1 z in absurd (omega (arith, high))),
      )

  -- The numbers

  top_kept : top ≢ 0 → Inode top × Kept top
  top_kept there = (top_is, inode_kept 0 there (inr refl))

  abbrev Numbered : ℕ → Type 0
  Numbered m = ((block_numbered new top m ≡ block m) × (block m ≢ 0 → Kept (block m))) ⊎ ((block_numbered new top m ≡ 0) × (r ≡ top) × (m ≢ 0) × Gone (block m))

  numbered : (m : ℕ) → Numbered m
  numbered m = elim (cases_eq m 0) [
    | inl z ↦ subst Numbered (sym z) (inl (refl, λ there. (top_kept there).1))
    | inr some ↦ by some ((m == 0) || nat_lt leaf_count m) refl
  ]
    where
      from : (content : ℕ → List ℕ) → m ≢ 0 → (t : Bool) → ((m == 0) || nat_lt leaf_count m) ≡ t →
          block_numbered content top m ≡ (if t then 0 else leaf_block content top (m - 1))
      from content some t e = inode_numbered content top m some ∙ ap (λ t. if t then 0 else leaf_block content top (m - 1)) e

      by : m ≢ 0 → (t : Bool) → ((m == 0) || nat_lt leaf_count m) ≡ t → Numbered m
      by some true e = inl (from new some true e ∙ sym (from old some true e), λ there. absurd (there (from old some true e)))
      by some false e =
          let leaf = from old some false e in
          elim (shrunk top top_kept 0 (steps (m - 1)) (steps_way (m - 1))) [
            | inl s ↦ inl (from new some false e ∙ (s.0 ∙ sym leaf), λ there. subst Kept (sym leaf) (s.1 (λ z. there (leaf ∙ z))))
            | inr s ↦ inr (from new some false e ∙ s.0, sym s.1.0, some, subst Gone (sym leaf) (s.1.1 (sym s.1.0)))
          ]

  -- Inodes

  not_own : (m : ℕ) → block m ≢ r → block m ≢ 0 → block m ≢ holder
  not_own m ne there is = by q way_to holder_some is
    where
      by : (q : List ℕ) → IsHolderWay q → at r q ≢ 0 → block m ≡ at r q → ⊥
      by [] to some is = ne is
      by (o ∷ os) (inl none) some is = absurd (cc none)
      by (o ∷ os) (inr (l, way)) some is = other_type node inode top type old v (block m) r (is_block m there) r_is l (o ∷ os) way some is

  no_leaf : (a i : ℕ) → Inode a → a ≢ top → leaf_block old a i ≢ 0 → leaf_block old a i ≢ holder
  no_leaf a i a_is no_table there is = by q way_to is
    where
      -- a leaf is no block of an inode
      root : IsRoot node inode type old top r → leaf_block old a i ≡ r → ⊥
      root (inr (not_top, unled)) is = led (steps i) (steps_way i) there is
        where
          led : (os : List ℕ) → IsWay os 0 → at a os ≢ 0 → at a os ≡ r → ⊥
          led [] way there is = absurd way
          led (o ∷ os) way there is = unled (at a os) o (way_pointer node inode top type old v a a_is 0 o os way (λ z. there (ap (λ c. pointed old c o) z))) is
      root (inl (n, numbered)) is = elim (cases_eq n 0) [
        | inl z ↦ not_root node inode top type old v a a_is 0 (steps i) (steps_way i) there (is ∙ (numbered ∙ ap block z))
        | inr some ↦
            no_table (below_root node inode top type old v n a a_is 0 (steps i) some (λ z. r_some (numbered ∙ z)) (steps_way i) (sym (is ∙ numbered))).0
      ]

      by : (q : List ℕ) → IsHolderWay q → leaf_block old a i ≡ at r q → ⊥
      by [] to is = root stands is
      by (o ∷ os) (inl none) is = absurd (cc none)
      by (o ∷ os) (inr (l, way)) is =
          let s = same_way node inode top type old v a r a_is r_is 0 (suc l) (steps i) (o ∷ os) (steps_way i) way there is in
          let h : 0 ≡ suc l = one_height (o ∷ os) 0 (suc l) (subst (λ ps. IsWay ps 0) s.1 (steps_way i)) way in
          absurd (omega (arith, h))

  -- a leaf that is still there has the bytes that it had
  leaf_bytes : (a i : ℕ) → Inode a → a ≢ top → leaf_block old a i ≢ 0 → Kept (leaf_block old a i) → new (leaf_block old a i) ≡ old (leaf_block old a i)
  leaf_bytes a i a_is no_table there kept = elim kept.1 [ inl here ↦ absurd (no_leaf a i a_is no_table there here) | inr bytes ↦ bytes ]

  m_top : (m : ℕ) → m ≢ 0 → block m ≢ 0 → block m ≢ top
  m_top = no_top node inode top type old v

  from_block : (m : ℕ) → (block m ≢ 0 → Kept (block m)) → block m ≢ 0 → Inode (block m) × Kept (block m)
  from_block m kept there = (is_block m there, kept there)

  stays : (m k : ℕ) (os : List ℕ) → block m ≢ r → (block m ≢ 0 → Kept (block m)) → IsWay os k →
      (now (block m) os ≡ at (block m) os) × (at (block m) os ≢ 0 → Kept (at (block m) os))
  stays m k os ne kept way = elim (shrunk (block m) (from_block m kept) k os way) [ inl s ↦ s | inr s ↦ absurd (ne s.1.0) ]

  other_alike : (m : ℕ) → block m ≢ r → m ≢ 0 → block m ≢ 0 → Kept (block m) → IsAlike old new (block m)
  other_alike m ne m_some there kept = record {
    own = elim kept.1 [ inl here ↦ absurd (not_own m ne there here) | inr bytes ↦ bytes ];
    leaves = λ i. (stays m 0 (steps i) ne (λ some. kept) (steps_way i)).0;
    bytes = λ i some. leaf_bytes (block m) i (is_block m there) (m_top m m_some there) some ((stays m 0 (steps i) ne (λ some. kept) (steps_way i)).1 some);
  }

  own_fields : (a : ℕ) → type a ≡ inode → Kept a → fields_of (new a) ≡ fields_of (old a)
  own_fields a typed kept = elim kept.1 [
    | inl is ↦ ap (λ x. fields_of (new x)) is ∙ (gone.fields (ap type (sym is) ∙ typed) ∙ sym (ap (λ x. fields_of (old x)) is))
    | inr bytes ↦ ap fields_of bytes
  ]

  own_content : (a : ℕ) → type a ≡ inode → Kept a → content_of (new a) ≡ content_of (old a)
  own_content a typed kept = elim kept.1 [
    | inl is ↦ ap (λ x. content_of (new x)) is ∙ (gone.contents (ap type (sym is) ∙ typed) ∙ sym (ap (λ x. content_of (old x)) is))
    | inr bytes ↦ ap content_of bytes
  ]

  pub key_stays : key_in new top ≡ key_in old top
  key_stays = key_from (new top) (old top) (own_content top top_is.typed (top_kept v.root).1)
    where
      key_from : (x y : List ℕ) → content_of x ≡ content_of y → key_of (content_of x) ≡ key_of (content_of y)
      key_from x y same = ap key_of same

  -- The files

  no_file : (content : ℕ → List ℕ) (m : ℕ) → m ≢ 0 → block_numbered content top m ≡ 0 → files_of content top m ≡ None
  no_file content m some z = file_none content top m (sym (inode_numbered content top m some) ∙ z)

  -- an inode that doesn't go
  other_files : (m : ℕ) → block m ≢ r → (block m ≢ 0 → Kept (block m)) → block_numbered new top m ≡ block m → m ≢ 0 → files_of new top m ≡ files_of old top m
  other_files m ne kept same m_some = elim (cases_eq (block m) 0) [
    | inl z ↦ no_file new m m_some (same ∙ z) ∙ sym (no_file old m m_some z)
    | inr there ↦
        file_read new top m (block m) (sym (inode_numbered new top m m_some) ∙ same) there
        ∙ (ap (λ key. inode_of new key (block m)) key_stays
        ∙ (inode_alike old new (block m) (other_alike m ne m_some there (kept there)) (key_in old top)
        ∙ sym (file_read old top m (block m) (sym (inode_numbered old top m m_some)) there)))
  ]

  pub files_stay : (m : ℕ) → block_numbered old top m ≢ r → m ≢ 0 → (IsGone old (block_at old r q) places (block_numbered old top m) → ⊥) →
      files_of new top m ≡ files_of old top m
  files_stay m ne m_some not_gone = elim (numbered m) [
    | inl s ↦ other_files m ne s.1 s.0 m_some
    | inr s ↦ absurd (not_gone s.3)
  ]

  -- one that may not be read any more
  pub files_end : (m : ℕ) → m ≢ 0 → block_numbered old top m ≢ 0 → type' (block_numbered old top m) ≡ 0 → files_of new top m ≡ None
  files_end m m_some there none = elim (numbered m) [
    | inl s ↦ absurd (v.some_types.1 (sym (v.typed.inodes m there) ∙ (sym (s.1 there).0 ∙ none)))
    | inr s ↦ no_file new m m_some s.0
  ]

  -- an inode that is left may lack some of its blocks
  inode_left : (a : ℕ) → Inode a → Kept a → IsInodeBlock node inode type' new a
  inode_left a a_is kept = record {
    typed = kept.0 ∙ a_is.typed;
    nodes = λ l os way some. elim (shrunk a (λ there. (a_is, kept)) (suc l) os way) [
      | inl s ↦ let there : at a os ≢ 0 = λ z. some (s.0 ∙ z) in ap type' s.0 ∙ ((s.1 there).0 ∙ a_is.nodes l os way there)
      | inr s ↦ absurd (some s.0)
    ];
  }

  leaf_left : (a : ℕ) → Inode a → Kept a → (i : ℕ) → leaf_block new a i ≢ 0 →
      (leaf_block new a i ≡ leaf_block old a i) × (type' (leaf_block old a i) ≡ type (leaf_block old a i))
  leaf_left a a_is kept i some = elim (shrunk a (λ there. (a_is, kept)) 0 (steps i) (steps_way i)) [
    | inl s ↦ (s.0, (s.1 (λ z. some (s.0 ∙ z))).0)
    | inr s ↦ absurd (some s.0)
  ]

  -- of an inode, whose tree gets fewer pointers
  module _ (no_table : r ≢ top) where
    r_kept : Kept r
    r_kept = elim (kept_or_lost r) [ inl k ↦ k | inr lost ↦ absurd (by stands lost) ]
      where
        by : IsRoot node inode type old top r → Lost r → ⊥
        by (inr (not_top, unled)) lost = unled holder lost.offset lost.pointer lost.led
        by (inl (n, is)) lost = no_table (inode_goes n (λ z. r_some (is ∙ z)) (subst Gone is (lost_gone r lost))).0

    pub number_stays : (m : ℕ) → block_numbered new top m ≡ block_numbered old top m
    number_stays m = elim (numbered m) [ inl s ↦ s.0 | inr s ↦ absurd (no_table s.1) ]

    pub fields_stay : fields_of (new r) ≡ fields_of (old r)
    fields_stay = own_fields r r_is.typed r_kept

    pub others_stay : (m : ℕ) → block_numbered old top m ≢ r → files_of new top m ≡ files_of old top m
    others_stay m ne = elim (cases_eq m 0) [
      | inl z ↦ file_none new top m (ap (inode_block new top) z) ∙ sym (file_none old top m (ap (inode_block old top) z))
      | inr some ↦ other_files m ne (λ there. inode_kept m there (inl no_table)) (number_stays m) some
    ]

    pub still_inode : IsInodeBlock node inode type' new r
    still_inode = inode_left r r_is r_kept

    pub still_leaf : (i : ℕ) → leaf_block new r i ≢ 0 →
        (leaf_block new r i ≡ leaf_block old r i) × (type' (leaf_block old r i) ≡ type (leaf_block old r i))
    still_leaf = leaf_left r r_is r_kept

  -- one that no pointer leads to is left too
  module _ (a : ℕ) (a_is : IsInodeBlock node inode type old a) (unled : IsUnled node inode type old a) where
    a_kept : Kept a
    a_kept = elim (kept_or_lost a) [ inl k ↦ k | inr lost ↦ absurd (unled holder lost.offset lost.pointer lost.led) ]

    pub unled_inode : IsInodeBlock node inode type' new a
    unled_inode = inode_left a a_is a_kept

    pub unled_leaf : (i : ℕ) → leaf_block new a i ≢ 0 →
        (leaf_block new a i ≡ leaf_block old a i) × (type' (leaf_block old a i) ≡ type (leaf_block old a i))
    unled_leaf = leaf_left a a_is a_kept

    not_holder : a ≢ r → a ≢ holder
    not_holder other = by q way_to holder_some
      where
        by : (q : List ℕ) → IsHolderWay q → at r q ≢ 0 → a ≢ at r q
        by [] to some is = other is
        by (o ∷ os) (inl none) some is = absurd (cc none)
        by (o ∷ os) (inr (l, way)) some is =
            unled (at r os) o (way_pointer node inode top type old v r r_is (suc l) o os way (λ z. some (nowhere old (at r os) o z))) (sym is)

    unled_way : a ≢ r → (i : ℕ) → (leaf_block new a i ≡ leaf_block old a i) × (leaf_block old a i ≢ 0 → Kept (leaf_block old a i))
    unled_way other i = elim (shrunk a (λ there. (a_is, a_kept)) 0 (steps i) (steps_way i)) [ inl s ↦ s | inr s ↦ absurd (other s.1.0) ]

    pub unled_alike : a ≢ top → a ≢ r → IsReadAlike old new a
    unled_alike no_table other = record {
      own = elim a_kept.1 [ inl here ↦ absurd (not_holder other here) | inr bytes ↦ bytes ];
      leaves = λ i. (unled_way other i).0;
      bytes = λ i some. leaf_bytes a i a_is no_table some ((unled_way other i).1 some);
    }

  -- It is a volume still

  now_at : (m k : ℕ) (os : List ℕ) → IsWay os k → block_at new (block_numbered new top m) os ≢ 0 →
      (block_at new (block_numbered new top m) os ≡ at (block m) os) × (type' (at (block m) os) ≡ type (at (block m) os)) × (at (block m) os ≢ 0)
  now_at m k os way some = elim (numbered m) [
    | inl s ↦
        let from : block_at new (block_numbered new top m) os ≡ now (block m) os = ap (λ c. block_at new c os) s.0 in
        elim (shrunk (block m) (from_block m s.1) k os way) [
          | inl t ↦ let there : at (block m) os ≢ 0 = λ z. some (from ∙ (t.0 ∙ z)) in (from ∙ t.0, (t.1 there).0, there)
          | inr t ↦ absurd (some (from ∙ t.0))
        ]
    | inr s ↦ absurd (some (none_below new (block_numbered new top m) k os s.0 way))
  ]

  typed_so : IsTyped node inode type' new top
  typed_so = record {
    inodes = λ m some. elim (numbered m) [
      | inl s ↦ let there : block m ≢ 0 = λ z. some (s.0 ∙ z) in ap type' s.0 ∙ ((s.1 there).0 ∙ v.typed.inodes m there)
      | inr s ↦ absurd (some s.0)
    ];
    nodes = λ m l os way some. let s = now_at m (suc l) os way some in ap type' s.0 ∙ (s.1 ∙ v.typed.nodes m l os way s.2);
    leaves = λ m i m_some few some. let s = now_at m 0 (steps i) (steps_way i) some in ap type' s.0 ∙ (s.1 ∙ v.typed.leaves m i m_some few s.2);
  }

  pointer_was : (p o : ℕ) → IsTrue (has_pointer node inode (type' p) o) → pointed new p o ≢ 0 →
      IsTrue (has_pointer node inode (type p) o) × (pointed new p o ≡ pointed old p o)
  pointer_was p o has some = by (cases_eq p holder)
    where
      by : (p ≡ holder) ⊎ (p ≢ holder) → IsTrue (has_pointer node inode (type p) o) × (pointed new p o ≡ pointed old p o)
      by (inl same) =
          let has' : IsTrue (has_pointer node inode (type p) o) =
          subst (λ t. IsTrue (has_pointer node inode t o)) (ap type' same ∙ (gone.typed ∙ sym (ap type same))) has in (
            has',
            elim (gone.pointers o (subst (λ x. IsTrue (has_pointer node inode (type x) o)) same has')) [
              | inl is ↦ ap (λ x. pointed new x o) same ∙ (is ∙ sym (ap (λ x. pointed old x o) same))
              | inr went ↦ absurd (some (ap (λ x. pointed new x o) same ∙ went.1))
            ],
          )
      by (inr ne) = elim (gone.others p ne) [
        | inl k ↦ (subst (λ t. IsTrue (has_pointer node inode t o)) k.0 has, ap (λ m. if p == 0 then 0 else word_at m o) k.1)
        | inr lost ↦ absurd (of_types node inode (type' p) o v.some_types.0 v.some_types.1 has lost.unread)
      ]

  apart_so : ArePointersApart node inode type' new top
  apart_so = record {
    once = λ p p' o o' has has' some same.
        let a = pointer_was p o has some in
        let b = pointer_was p' o' has' (λ z. some (same ∙ z)) in
        v.apart.once p p' o o' a.0 b.0 (λ z. some (a.1 ∙ z)) (sym a.1 ∙ (same ∙ b.1));
    root = λ p o has is. let a = pointer_was p o has (λ z. v.root (sym is ∙ z)) in v.apart.root p o a.0 (sym a.1 ∙ is);
  }

  abbrev bytes_at : (ℕ → List ℕ) → ℕ → List ℕ
  bytes_at content x = if x == 0 then [] else content x

  -- a bucket is as it was, or it is gone
  fewer : (a : ℕ) → Inode a → a ≢ top → Kept a → (k : ℕ) → (bucket_of new a k ≡ bucket_of old a k) ⊎ (bucket_of new a k ≡ [])
  fewer a a_is no_table kept k = elim (cases_eq k 0) [
    | inl z ↦ inl (ap (bucket_of new a) z ∙ (own_content a a_is.typed kept ∙ sym (ap (bucket_of old a) z)))
    | inr some ↦ by some (shrunk a (λ there. (a_is, kept)) 0 (steps (k - 1)) (steps_way (k - 1)))
  ]
    where
      leaf : ℕ
      leaf = leaf_block old a (k - 1)

      same_bytes : (leaf ≢ 0 → Kept leaf) → bytes_at new leaf ≡ bytes_at old leaf
      same_bytes leaf_kept = elim (cases_eq leaf 0) [
        | inl z ↦ ap (bytes_at new) z ∙ sym (ap (bytes_at old) z)
        | inr some ↦ ap (λ y. if leaf == 0 then [] else y) (leaf_bytes a (k - 1) a_is no_table some (leaf_kept some))
      ]

      by : k ≢ 0 → Shrinks a (steps (k - 1)) → (bucket_of new a k ≡ bucket_of old a k) ⊎ (bucket_of new a k ≡ [])
      by some (inl s) = inl (in_leaf new a k some ∙ (ap (bytes_at new) s.0 ∙ (same_bytes s.1 ∙ sym (in_leaf old a k some))))
      by some (inr s) = inr (in_leaf new a k some ∙ ap (bytes_at new) s.0)

  -- a byte is as it was, or 0
  fades : (a : ℕ) → Inode a → a ≢ top → Kept a → (p : ℕ) → (byte_of new a p ≡ byte_of old a p) ⊎ (byte_of new a p ≡ 0)
  fades a a_is no_table kept p = by (nat_lt p 384) refl
    where
      read : (content : ℕ → List ℕ) (t : Bool) → nat_lt p 384 ≡ t →
          byte_of content a p ≡ (if t then slice_index (content a) (128 + p) else leaf_byte content (leaf_block content a (p / 512)) (p % 512))
      read content t e = ap (λ t. if t then slice_index (content a) (128 + p) else leaf_byte content (leaf_block content a (p / 512)) (p % 512)) e

      in_block : slice_index (new a) (128 + p) ≡ slice_index (old a) (128 + p)
      in_block = sym (get_or-drop 128 (new a) p 0) ∙ (ap (λ x. get_or x p 0) (own_content a a_is.typed kept) ∙ get_or-drop 128 (old a) p 0)

      leaf_fades : (i at : ℕ) → (leaf_byte new (leaf_block new a i) at ≡ leaf_byte old (leaf_block old a i) at) ⊎ (leaf_byte new (leaf_block new a i) at ≡ 0)
      leaf_fades i at = elim (shrunk a (λ there. (a_is, kept)) 0 (steps i) (steps_way i)) [
        | inl s ↦ inl (ap (λ x. leaf_byte new x at) s.0 ∙ elim (cases_eq (leaf_block old a i) 0) [
          | inl z ↦ ap (λ x. leaf_byte new x at) z ∙ sym (ap (λ x. leaf_byte old x at) z)
          | inr some ↦ ap (λ y. if leaf_block old a i == 0 then 0 else slice_index y at) (leaf_bytes a i a_is no_table some (s.1 some))
        ])
        | inr s ↦ inr (ap (λ x. leaf_byte new x at) s.0)
      ]

      by : (t : Bool) → nat_lt p 384 ≡ t → (byte_of new a p ≡ byte_of old a p) ⊎ (byte_of new a p ≡ 0)
      by true e = inl (read new true e ∙ (in_block ∙ sym (read old true e)))
      by false e = elim (leaf_fades (p / 512) (p % 512)) [
        | inl same ↦ inl (read new false e ∙ (same ∙ sym (read old false e)))
        | inr none ↦ inr (read new false e ∙ none)
      ]

  -- so it is with the inode whose tree gets fewer pointers
  module _ (no_table : r ≢ top) where
    pub buckets_left : (k : ℕ) → (bucket_of new r k ≡ bucket_of old r k) ⊎ (bucket_of new r k ≡ [])
    buckets_left = fewer r r_is no_table (r_kept no_table)

    pub bytes_left : (p : ℕ) → (byte_of new r p ≡ byte_of old r p) ⊎ (byte_of new r p ≡ 0)
    bytes_left = fades r r_is no_table (r_kept no_table)

  directory_so : (m : ℕ) → m ≢ 0 → block m ≢ 0 → Kept (block m) → kind_of (fields_of (new (block m))).mode ≡ Some kind.Directory →
      IsDirectory new (key_in old top) (block m)
  directory_so m m_some there kept is = fewer_buckets old new (key_in old top) (block m)
      (λ k few. fewer (block m) (is_block m there) (m_top m m_some there) kept k)
      (v.directories m m_some there (sym (ap (λ g. kind_of g.mode) (own_fields (block m) (v.typed.inodes m there) kept)) ∙ is))

  -- a pointer that leads somewhere led there
  pub still_unled : (c : ℕ) → c ≢ 0 → IsUnled node inode type old c → IsUnled node inode type' new c
  still_unled c some unled p o has is = let w = pointer_was p o has (λ z. some (sym is ∙ z)) in unled p o w.0 (sym w.1 ∙ is)

  module _ (whole : IsWholeBlock (new (block_at old r q))) where
    blocks_so : (b : ℕ) → type' b ≢ 0 → IsWholeBlock (new b)
    blocks_so b some = elim (kept_or_lost b) [
      | inl kept ↦ elim kept.1 [
        | inl here ↦ subst (λ y. IsWholeBlock (new y)) (sym here) whole
        | inr bytes ↦ subst IsWholeBlock (sym bytes) (v.blocks b (λ z. some (kept.0 ∙ z)))
      ]
      | inr lost ↦ absurd (some lost.unread)
    ]

    pub volume_stays : IsVolume node inode type' new top
    volume_stays = record {
      types = v.types;
      some_types = v.some_types;
      root = v.root;
      typed = typed_so;
      apart = apart_so;
      blocks = blocks_so;
      directories = λ m m_some some is. elim (numbered m) [
        | inl s ↦
            let there : block m ≢ 0 = λ z. some (s.0 ∙ z) in
            subst (λ c. IsDirectory new (key_in new top) c) (sym s.0) (subst (λ key. IsDirectory new key (block m)) (sym key_stays)
            (directory_so m m_some there (s.1 there) (sym (ap (λ c. kind_of (fields_of (new c)).mode) s.0) ∙ is)))
        | inr s ↦ absurd (some s.0)
      ];
    }
