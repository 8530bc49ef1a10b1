-- Pointers of an inode of a file, or of a node of its tree, come to lead nowhere, past its size: the files are as before.
use mathlib.Core.Path.{fun_ext}
use Rattle.std.proofs.Common.{◌≡◌, ◌≢◌, ◌⊎◌, ℕ, suc, ◌+◌, ◌-◌, ◌/◌, ◌%◌, ◌<◌, ◌≤◌, Bool, true, false, ◌||◌, List, [], ◌∷◌, Some, refl, sym, ◌∙◌, ap, inl, inr, subst, arith, get_or, if◌then◌else◌}
use Rattle.std.specs.Prelude.{IsTrue, map, nat_lt, option_map, slice_index, ◌==◌}
use Rattle.std.specs.List.{range_with_len}
use Rattle.std.proofs.lemmas.Bool.{cases_eq, ltb-false}
use Rattle.std.proofs.lemmas.List.{get_or-drop}
use Rattle.std.proofs.lemmas.Option.{same_Some}
use Rattle.xn_model.specs.Root.{word_at}
use Rattle.treefs_format.specs.Fields.{fields_of}
use Rattle.treefs_format.specs.Inodes.{content_of, kind_of}
use Rattle.treefs_format.specs.Paths.{leaf_count, steps}
use Rattle.treefs_format.specs.Roots.{key_of}
use Rattle.treefs_format.specs.declared.fields.Fields.{Fields}
use Rattle.treefs_format.specs.declared.kind.Kind.{Kind}
use Rattle.treefs_format.specs.declared.kind.Kind.TheVariants as kind
use Rattle.treefs_model.specs.Files.{File, SymbolicLink}
use Rattle.treefs_model.specs.Reading.{block_at, byte_of, bytes_of, content_at, files_of, inode_block, inode_of, inode_with, key_in, leaf_block, leaf_byte, pointed}
use Rattle.treefs_model.specs.Trees.{has_pointer}
use Rattle.treefs_values.specs.Dropped.{AreDropped, IsCovered, IsHolderWay, IsLost, IsPast, LeadsOn}
use Rattle.treefs_values.specs.Volumes.{IsDirectory, IsVolume, IsWholeBlock}
use Rattle.treefs_values.specs.Ways.{ArePointersApart, IsTyped, IsWay, block_numbered}
use Rattle.treefs_values.proofs.Alike.{bucket_same, inode_alike}
use Rattle.treefs_values.proofs.Apart.{inodes_apart, leaf_no_inode, numbered_leaf, same_way, starts}
use Rattle.treefs_values.proofs.Attaching.{one_height}
use Rattle.treefs_values.proofs.BytesWritten.{same_listed}
use Rattle.treefs_values.proofs.Elsewhere.{file_read, inode_numbered, no_file}
use Rattle.treefs_values.proofs.Kept.{same_directory}
use Rattle.treefs_values.proofs.Owners.{of_types}
use Rattle.treefs_values.proofs.Pending.{way_pointer}
use Rattle.treefs_values.proofs.Standing.{IsKeptInode}
use Rattle.treefs_values.proofs.Ways.{steps_way}

module _ (node inode top : ℕ) (type type' : ℕ → ℕ) (old new : ℕ → List ℕ) (v : IsVolume node inode type old top) (n : ℕ) (number : n ≢ 0) (q : List ℕ) (way_to : IsHolderWay q)
    (holder_some : block_at old (block_numbered old top n) q ≢ 0) (places : List (ℕ × ℕ))
    (gone : AreDropped node inode type type' old new (block_at old (block_numbered old top n) q) places) where
  abbrev block : ℕ → ℕ
  block m = block_numbered old top m

  abbrev at : ℕ → List ℕ → ℕ
  at m os = block_at old (block m) os

  abbrev holder : ℕ
  holder = at n q

  abbrev now : ℕ → List ℕ → ℕ
  now m os = block_at new (block m) os

  abbrev Lost : ℕ → Type 0
  Lost b = IsLost node inode type type' old new holder places b

  -- read as before, or the holder
  abbrev Kept : ℕ → Type 0
  Kept b = (type' b ≡ type b) × ((b ≡ holder) ⊎ (new b ≡ old b))

  kept_or_lost : (b : ℕ) → Kept b ⊎ Lost b
  kept_or_lost b = elim (cases_eq b holder) [
    | inl same ↦ inl (ap type' same ∙ (gone.typed ∙ sym (ap type same)), inl same)
    | inr ne ↦ elim (gone.others b ne) [ inl k ↦ inl (k.0, inr k.1) | inr lost ↦ inr lost ]
  ]

  holder_node : (r : ℕ) (rs : List ℕ) → IsHolderWay (r ∷ rs) → (l : ℕ) × IsWay (r ∷ rs) (suc l)
  holder_node r rs (inl none) = absurd (cc none)
  holder_node r rs (inr way) = way

  -- the holder stands at the end of one way alone
  only_there : (m k p : ℕ) (os : List ℕ) → IsWay (p ∷ os) k → at m os ≡ holder → (m ≡ n) × (os ≡ q)
  only_there m k p os way is = by os q way way_to holder_some is
    where
      by : (os q : List ℕ) → IsWay (p ∷ os) k → IsHolderWay q → at n q ≢ 0 → at m os ≡ at n q → (m ≡ n) × (os ≡ q)
      by [] [] way to there is = (inodes_apart node inode top type old v.types.0 v.typed v.apart m n (λ z. there (sym is ∙ z)) is, refl)
      by [] (r ∷ rs) way to there is =
          let w = holder_node r rs to in
          absurd (v.types.0 (sym (v.typed.nodes n w.0 (r ∷ rs) w.1 there) ∙ (ap type (sym is) ∙ v.typed.inodes m (λ z. there (sym is ∙ z)))))
      by (s ∷ ss) [] way to there is =
          absurd (v.types.0 (sym (v.typed.nodes m k (s ∷ ss) way.3 (λ z. there (sym is ∙ z))) ∙ (ap type is ∙ v.typed.inodes n there)))
      by (s ∷ ss) (r ∷ rs) way to there is =
          let w = holder_node r rs to in
          let m_there : at m (s ∷ ss) ≢ 0 = λ z. there (sym is ∙ z) in
          let e = same_way node inode top type old v.types.0 v.typed v.apart m n (suc k) (suc w.0) (s ∷ ss) (r ∷ rs) way.3 w.1 m_there is in (
            inodes_apart node inode top type old v.types.0 v.typed v.apart m n
                (starts node inode top type old v.types.0 v.typed v.apart m (suc k) (s ∷ ss) way.3 m_there) e.0,
            e.1,
          )

  nowhere : (content : ℕ → List ℕ) (c p : ℕ) → c ≡ 0 → pointed content c p ≡ 0
  nowhere content c p z = ap (λ c. pointed content c p) z

  -- what leads to a lost block is the pointer that went
  lost_there : (m k p : ℕ) (os : List ℕ) → IsWay (p ∷ os) k → at m (p ∷ os) ≢ 0 → (lost : Lost (at m (p ∷ os))) → (at m os ≡ holder) × (p ≡ lost.offset)
  lost_there m k p os way there lost =
      let above : at m os ≢ 0 = λ z. there (nowhere old (at m os) p z) in
      let e = v.apart.once holder (at m os) lost.offset p lost.pointer (way_pointer node inode top type old v m k p os way above) (λ z. lost.there (sym lost.led ∙ z)) lost.led in
      (sym e.0, sym e.1)

  not_table : (os : List ℕ) → IsWay os 0 → at 0 os ≢ 0 → Lost (at 0 os) → ⊥
  not_table [] way there lost = way
  not_table (p ∷ os) way there lost =
      let e = lost_there 0 0 p os way there lost in number (sym (only_there 0 0 p os way e.0).0)

  inode_kept : (m : ℕ) → block m ≢ 0 → Kept (block m)
  inode_kept m there = elim (kept_or_lost (block m)) [ inl k ↦ k | inr lost ↦ absurd (none lost (cases_eq m 0)) ]
    where
      none : Lost (block m) → (m ≡ 0) ⊎ (m ≢ 0) → ⊥
      none lost (inl z) = v.apart.root holder lost.offset lost.pointer (lost.led ∙ ap block z)
      none lost (inr some) =
          let leaf = (numbered_leaf node inode top type old v.types.0 v.typed v.apart m some there).leaf in
          not_table (steps (m - 1)) (steps_way (m - 1)) (λ z. there (leaf ∙ z)) (subst Lost leaf lost)

  -- Each way leads where it led, or it leads on from a pointer that went, and leads nowhere

  abbrev Passes : ℕ → List ℕ → Type 0
  Passes m os = (m ≡ n) × (o : ℕ) × IsCovered places o × LeadsOn os (o ∷ q)

  abbrev Shrinks : ℕ → List ℕ → Type 0
  Shrinks m os = ((now m os ≡ at m os) × (at m os ≢ 0 → Kept (at m os))) ⊎ ((now m os ≡ 0) × Passes m os)

  point : (m k p : ℕ) (os : List ℕ) → IsWay (p ∷ os) k → now m os ≡ at m os → at m os ≢ 0 → Kept (at m os) → Shrinks m (p ∷ os)
  point m k p os way same there kept = elim (cases_eq (at m os) holder) [
    | inl here ↦ at_holder here (gone.pointers p (subst (λ c. IsTrue (has_pointer node inode (type c) p)) here (way_pointer node inode top type old v m k p os way there)))
    | inr ne ↦ inl (
      ap (λ c. pointed new c p) same ∙ elsewhere ne kept.1,
      λ some. elim (kept_or_lost (at m (p ∷ os))) [ inl k ↦ k | inr lost ↦ absurd (ne (lost_there m k p os way some lost).0) ],
    )
  ]
    where
      elsewhere : at m os ≢ holder → (at m os ≡ holder) ⊎ (new (at m os) ≡ old (at m os)) → pointed new (at m os) p ≡ pointed old (at m os) p
      elsewhere ne (inl here) = absurd (ne here)
      elsewhere ne (inr bytes) = ap (λ m'. if at m os == 0 then 0 else word_at m' p) bytes

      at_holder : at m os ≡ holder → (pointed new holder p ≡ pointed old holder p) ⊎ (IsCovered places p × (pointed new holder p ≡ 0)) → Shrinks m (p ∷ os)
      at_holder here (inl stays) = inl (
        ap (λ c. pointed new c p) (same ∙ here) ∙ (stays ∙ sym (ap (λ c. pointed old c p) here)),
        λ some. elim (kept_or_lost (at m (p ∷ os))) [
          | inl k ↦ k
          | inr lost ↦
              let e = lost_there m k p os way some lost in
              absurd (some (ap (λ c. pointed old c p) here ∙ (sym stays ∙ (ap (pointed new holder) e.1 ∙ lost.nowhere))))
        ],
      )
      at_holder here (inr went) =
          let only = only_there m k p os way here in
          inr (ap (λ c. pointed new c p) (same ∙ here) ∙ went.1, (only.0, p, went.0, ([], λ j. p ∷ only.1 j)))

  shrunk : (m k : ℕ) (os : List ℕ) → IsWay os k → Shrinks m os
  shrunk m k [] way = absurd way
  shrunk m k (p ∷ []) way = elim (cases_eq (block m) 0) [
    | inl z ↦ inl (nowhere new (block m) p z ∙ sym (nowhere old (block m) p z), λ some. absurd (some (nowhere old (block m) p z)))
    | inr there ↦ point m k p [] way refl there (inode_kept m there)
  ]
  shrunk m k (p ∷ r ∷ os) way = by (shrunk m (suc k) (r ∷ os) way.3) (cases_eq (at m (r ∷ os)) 0)
    where
      by : Shrinks m (r ∷ os) → (at m (r ∷ os) ≡ 0) ⊎ (at m (r ∷ os) ≢ 0) → Shrinks m (p ∷ r ∷ os)
      by (inl s) (inl z) =
          inl (nowhere new (now m (r ∷ os)) p (s.0 ∙ z) ∙ sym (nowhere old (at m (r ∷ os)) p z), λ some. absurd (some (nowhere old (at m (r ∷ os)) p z)))
      by (inl s) (inr there) = point m k p (r ∷ os) way s.0 there (s.1 there)
      by (inr s) other = inr (nowhere new (now m (r ∷ os)) p s.0, (s.1.0, s.1.1, s.1.2, (p ∷ s.1.3.0, λ j. p ∷ s.1.3.1 j)))

  stays : (m k : ℕ) (os : List ℕ) → IsWay os k → (Passes m os → ⊥) → now m os ≡ at m os
  stays m k os way none = elim (shrunk m k os way) [ inl s ↦ s.0 | inr s ↦ absurd (none s.1) ]

  inode_same : (m : ℕ) → inode_block new top m ≡ inode_block old top m
  inode_same m = by ((m == 0) || nat_lt leaf_count m) refl
    where
      by : (t : Bool) → ((m == 0) || nat_lt leaf_count m) ≡ t → inode_block new top m ≡ inode_block old top m
      by true e = ap (λ t. if t then 0 else leaf_block new top (m - 1)) e ∙ sym (ap (λ t. if t then 0 else leaf_block old top (m - 1)) e)
      by false e =
          ap (λ t. if t then 0 else leaf_block new top (m - 1)) e
          ∙ (stays 0 0 (steps (m - 1)) (steps_way (m - 1)) (λ pass. number (sym pass.0)) ∙ sym (ap (λ t. if t then 0 else leaf_block old top (m - 1)) e))

  pub dropped_numbered : (m : ℕ) → block_numbered new top m ≡ block_numbered old top m
  dropped_numbered m = ap (λ x. if m == 0 then top else x) (inode_same m)

  -- What is read of each inode

  not_own : (m : ℕ) → m ≢ n → block m ≢ 0 → block m ≢ holder
  not_own m ne there is = by q way_to holder_some is
    where
      by : (q : List ℕ) → IsHolderWay q → at n q ≢ 0 → block m ≡ at n q → ⊥
      by [] to some is = ne (inodes_apart node inode top type old v.types.0 v.typed v.apart m n there is)
      by (r ∷ rs) to some is = let w = holder_node r rs to in v.types.0 (sym (v.typed.nodes n w.0 (r ∷ rs) w.1 some) ∙ (ap type (sym is) ∙ v.typed.inodes m there))

  no_leaf : (m i : ℕ) → m ≢ 0 → leaf_block old (block m) i ≢ 0 → leaf_block old (block m) i ≢ holder
  no_leaf m i m_some there is = by q way_to is
    where
      by : (q : List ℕ) → IsHolderWay q → leaf_block old (block m) i ≡ at n q → ⊥
      by [] to is = leaf_no_inode node inode top type old v.types.0 v.typed v.apart m n i m_some there is
      by (r ∷ rs) to is =
          let w = holder_node r rs to in
          let s = same_way node inode top type old v.types.0 v.typed v.apart m n 0 (suc w.0) (steps i) (r ∷ rs) (steps_way i) w.1 there is in
          apart_height (one_height (r ∷ rs) 0 (suc w.0) (subst (λ os. IsWay os 0) s.1 (steps_way i)) w.1)
        where
          apart_height : {l : ℕ} → 0 ≡ suc l → ⊥
          apart_height h = absurd (omega (arith, h))

  -- a leaf that is still there has the bytes that it had
  leaf_bytes : (m i : ℕ) → m ≢ 0 → leaf_block old (block m) i ≢ 0 → Kept (leaf_block old (block m) i) → new (leaf_block old (block m) i) ≡ old (leaf_block old (block m) i)
  leaf_bytes m i m_some there kept = elim kept.1 [ inl here ↦ absurd (no_leaf m i m_some there here) | inr bytes ↦ bytes ]

  pub dropped_inode : (m : ℕ) → m ≢ n → m ≢ 0 → block_numbered old top m ≢ 0 → IsKeptInode old new top m
  dropped_inode m ne m_some there = record {
    block = dropped_numbered m;
    alike = record {
      own = elim (inode_kept m there).1 [ inl here ↦ absurd (not_own m ne there here) | inr bytes ↦ bytes ];
      leaves = λ i. stays m 0 (steps i) (steps_way i) (λ pass. ne pass.0);
      bytes = λ i some. elim (shrunk m 0 (steps i) (steps_way i)) [ inl s ↦ leaf_bytes m i m_some some (s.1 some) | inr s ↦ absurd (ne s.1.0) ];
    };
    ways = λ k os way. stays m k os way (λ pass. ne pass.0);
  }

  own_fields : (m : ℕ) → block m ≢ 0 → fields_of (new (block m)) ≡ fields_of (old (block m))
  own_fields m there = elim (inode_kept m there).1 [
    | inl is ↦ ap (λ x. fields_of (new x)) is ∙ (gone.fields (ap type (sym is) ∙ v.typed.inodes m there) ∙ sym (ap (λ x. fields_of (old x)) is))
    | inr bytes ↦ ap fields_of bytes
  ]

  own_content : (m : ℕ) → block m ≢ 0 → content_of (new (block m)) ≡ content_of (old (block m))
  own_content m there = elim (inode_kept m there).1 [
    | inl is ↦ ap (λ x. content_of (new x)) is ∙ (gone.contents (ap type (sym is) ∙ v.typed.inodes m there) ∙ sym (ap (λ x. content_of (old x)) is))
    | inr bytes ↦ ap content_of bytes
  ]

  key_same : key_in new top ≡ key_in old top
  key_same = key_from (new top) (old top) (own_content 0 v.root)
    where
      key_from : (x y : List ℕ) → content_of x ≡ content_of y → key_of (content_of x) ≡ key_of (content_of y)
      key_from x y same = ap key_of same

  abbrev c : ℕ
  c = block n

  there : block n ≢ 0
  there = by q way_to holder_some
    where
      by : (q : List ℕ) → IsHolderWay q → at n q ≢ 0 → block n ≢ 0
      by [] to some = some
      by (r ∷ rs) to some = let w = holder_node r rs to in starts node inode top type old v.types.0 v.typed v.apart n (suc w.0) (r ∷ rs) w.1 some

  -- a byte of the inode is as it was, or 0, and then it stands in a leaf behind a pointer that went
  abbrev pub Fades : ℕ → Type 0
  Fades p = (byte_of new (block_numbered old top n) p ≡ byte_of old (block_numbered old top n) p)
      ⊎ ((byte_of new (block_numbered old top n) p ≡ 0) × (384 ≤ p) × (o : ℕ) × IsCovered places o × LeadsOn (steps (p / 512)) (o ∷ q))

  pub byte_fades : (p : ℕ) → Fades p
  byte_fades p = by (nat_lt p 384) refl
    where
      leaf_fades : (i at : ℕ) → (leaf_byte new (leaf_block new c i) at ≡ leaf_byte old (leaf_block old c i) at)
          ⊎ ((leaf_byte new (leaf_block new c i) at ≡ 0) × (o : ℕ) × IsCovered places o × LeadsOn (steps i) (o ∷ q))
      leaf_fades i at = elim (shrunk n 0 (steps i) (steps_way i)) [
        | inl s ↦ inl (ap (λ x. leaf_byte new x at) s.0 ∙ elim (cases_eq (leaf_block old c i) 0) [
          | inl z ↦ ap (λ x. leaf_byte new x at) z ∙ sym (ap (λ x. leaf_byte old x at) z)
          | inr some ↦ ap (λ y. if leaf_block old c i == 0 then 0 else slice_index y at) (leaf_bytes n i number some (s.1 some))
        ])
        | inr s ↦ inr (ap (λ x. leaf_byte new x at) s.0, s.1.1, s.1.2, s.1.3)
      ]

      by : (t : Bool) → nat_lt p 384 ≡ t → Fades p
      by true e = inl (
          ap (λ t. if t then slice_index (new c) (128 + p) else leaf_byte new (leaf_block new c (p / 512)) (p % 512)) e
          ∙ (sym (get_or-drop 128 (new c) p 0) ∙ (ap (λ x. get_or x p 0) (own_content n there) ∙ (get_or-drop 128 (old c) p 0
          ∙ sym (ap (λ t. if t then slice_index (old c) (128 + p) else leaf_byte old (leaf_block old c (p / 512)) (p % 512)) e)))))
      by false e =
          let left = ap (λ t. if t then slice_index (new c) (128 + p) else leaf_byte new (leaf_block new c (p / 512)) (p % 512)) e in
          let right = ap (λ t. if t then slice_index (old c) (128 + p) else leaf_byte old (leaf_block old c (p / 512)) (p % 512)) e in
          elim (leaf_fades (p / 512) (p % 512)) [
            | inl same ↦ inl (left ∙ (same ∙ sym right))
            | inr none ↦ inr (left ∙ none.0, ltb-false p 384 e, none.1, none.2, none.3)
          ]

  pub dropped_fields : fields_of (new (block_numbered old top n)) ≡ fields_of (old (block_numbered old top n))
  dropped_fields = own_fields n there

  module _ (k : Kind) (is_kind : kind_of (fields_of (old (block_numbered old top n))).mode ≡ Some k) (no_directory : k ≢ kind.Directory)
      (past : (o : ℕ) → IsCovered places o → IsPast (fields_of (old (block_numbered old top n))).size (o ∷ q)) where
    abbrev was : Fields
    was = fields_of (old c)

    byte_stays : (p : ℕ) → p < was.size → byte_of new c p ≡ byte_of old c p
    byte_stays p lt = elim (byte_fades p) [ inl same ↦ same | inr none ↦ absurd (past none.2 none.3 p none.1 lt none.4) ]

    bytes_stay : bytes_of new c ≡ bytes_of old c
    bytes_stay = ap (λ (g : Fields). map (byte_of new c) (range_with_len 0 g.size)) dropped_fields ∙ same_listed (byte_of new c) (byte_of old c) was.size byte_stays

    content_stays : (key : List ℕ) (k : Kind) → k ≢ kind.Directory → content_at new key c was.parent k ≡ content_at old key c was.parent k
    content_stays key kind.Directory other = absurd (other refl)
    content_stays key kind.File other = (λ j. File (bytes_stay j))
    content_stays key kind.SymbolicLink other = (λ j. SymbolicLink (bytes_stay j))

    own_value : (key : List ℕ) → inode_of new key c ≡ inode_of old key c
    own_value key =
        ap (λ (g : Fields). option_map (λ k. inode_with g (content_at new key c g.parent k)) (kind_of g.mode)) dropped_fields
        ∙ (ap (option_map (λ k. inode_with was (content_at new key c was.parent k))) is_kind
        ∙ (ap (λ x. Some (inode_with was x)) (content_stays key k no_directory)
        ∙ sym (ap (option_map (λ k. inode_with was (content_at old key c was.parent k))) is_kind)))

    value_same : (m : ℕ) (key : List ℕ) → m ≢ 0 → block m ≢ 0 → inode_of new key (block m) ≡ inode_of old key (block m)
    value_same m key m_some m_there = elim (cases_eq m n) [
      | inl same ↦ ap (λ x. inode_of new key (block x)) same ∙ (own_value key ∙ sym (ap (λ x. inode_of old key (block x)) same))
      | inr ne ↦ inode_alike old new (block m) (dropped_inode m ne m_some m_there).alike key
    ]

    pub dropped_files : files_of new top ≡ files_of old top
    dropped_files = fun_ext (λ m. by m (cases_eq (inode_block old top m) 0))
      where
        by : (m : ℕ) → (inode_block old top m ≡ 0) ⊎ (inode_block old top m ≢ 0) → files_of new top m ≡ files_of old top m
        by m (inl z) = no_file new top m (inode_same m ∙ z) ∙ sym (no_file old top m z)
        by m (inr some) =
            let m_some : m ≢ 0 = λ z. some (ap (inode_block old top) z) in
            let is = inode_numbered old top m m_some in
            let m_there : block m ≢ 0 = λ z. some (sym is ∙ z) in
            file_read new top m (block m) (inode_same m ∙ sym is) m_there
            ∙ (ap (λ key. inode_of new key (block m)) key_same ∙ (value_same m (key_in old top) m_some m_there ∙ sym (file_read old top m (block m) (sym is) m_there)))

    -- It is a volume still

    from_new : (m : ℕ) (os : List ℕ) → block_at new (block_numbered new top m) os ≡ now m os
    from_new m os = ap (λ c. block_at new c os) (dropped_numbered m)

    still : (m k : ℕ) (os : List ℕ) → IsWay os k → now m os ≢ 0 → (now m os ≡ at m os) × (type' (now m os) ≡ type (at m os)) × (at m os ≢ 0)
    still m k os way some = elim (shrunk m k os way) [
      | inl s ↦ let there : at m os ≢ 0 = λ z. some (s.0 ∙ z) in (s.0, ap type' s.0 ∙ (s.1 there).0, there)
      | inr s ↦ absurd (some s.0)
    ]

    typed_so : IsTyped node inode type' new top
    typed_so = record {
      inodes = λ m some.
          let there : block m ≢ 0 = λ z. some (dropped_numbered m ∙ z) in ap type' (dropped_numbered m) ∙ ((inode_kept m there).0 ∙ v.typed.inodes m there);
      nodes = λ m l os way some.
          let s = still m (suc l) os way (λ z. some (from_new m os ∙ z)) in ap type' (from_new m os) ∙ (s.1 ∙ v.typed.nodes m l os way s.2);
      leaves = λ m i m_some few some.
          let s = still m 0 (steps i) (steps_way i) (λ z. some (from_new m (steps i) ∙ z)) in ap type' (from_new m (steps i)) ∙ (s.1 ∙ v.typed.leaves m i m_some few s.2);
    }

    pointer_was : (p o : ℕ) → IsTrue (has_pointer node inode (type' p) o) → pointed new p o ≢ 0 →
        IsTrue (has_pointer node inode (type p) o) × (pointed new p o ≡ pointed old p o)
    pointer_was p o has some = by (cases_eq p holder)
      where
        by : (p ≡ holder) ⊎ (p ≢ holder) → IsTrue (has_pointer node inode (type p) o) × (pointed new p o ≡ pointed old p o)
        by (inl same) =
            let has' : IsTrue (has_pointer node inode (type p) o) = subst (λ t. IsTrue (has_pointer node inode t o)) (ap type' same ∙ (gone.typed ∙ sym (ap type same))) has in (
              has',
              elim (gone.pointers o (subst (λ x. IsTrue (has_pointer node inode (type x) o)) same has')) [
                | inl is ↦ ap (λ x. pointed new x o) same ∙ (is ∙ sym (ap (λ x. pointed old x o) same))
                | inr went ↦ absurd (some (ap (λ x. pointed new x o) same ∙ went.1))
              ],
            )
        by (inr ne) = elim (gone.others p ne) [
          | inl k ↦ (subst (λ t. IsTrue (has_pointer node inode t o)) k.0 has, ap (λ m. if p == 0 then 0 else word_at m o) k.1)
          | inr lost ↦ absurd (of_types node inode (type' p) o v.some_types.0 v.some_types.1 has lost.unread)
        ]

    apart_so : ArePointersApart node inode type' new top
    apart_so = record {
      once = λ p q' o o' has has' some same.
          let a = pointer_was p o has some in
          let b = pointer_was q' o' has' (λ z. some (same ∙ z)) in
          v.apart.once p q' o o' a.0 b.0 (λ z. some (a.1 ∙ z)) (sym a.1 ∙ (same ∙ b.1));
      root = λ p o has is.
          let a = pointer_was p o has (λ z. v.root (sym is ∙ z)) in v.apart.root p o a.0 (sym a.1 ∙ is);
    }

    directory_so : (m : ℕ) → m ≢ 0 → block m ≢ 0 → kind_of (fields_of (new (block m))).mode ≡ Some kind.Directory → IsDirectory new (key_in old top) (block m)
    directory_so m m_some m_there is = elim (cases_eq m n) [
      | inl same ↦ absurd (no_directory (same_Some k kind.Directory (sym is_kind
          ∙ (sym (ap (λ (g : Fields). kind_of g.mode) dropped_fields) ∙ (sym (ap (λ x. kind_of (fields_of (new (block x))).mode) same) ∙ is)))))
      | inr ne ↦
          let a = (dropped_inode m ne m_some m_there).alike in
          same_directory old new (key_in old top) (block m) (λ k few. bucket_same old new (block m) a.leaves a.bytes k (ap content_of a.own))
          (v.directories m m_some m_there (sym (ap (λ x. kind_of (fields_of x).mode) a.own) ∙ is))
    ]

    module _ (is_block : IsWholeBlock (new (block_at old (block_numbered old top n) q))) where
      blocks_so : (b : ℕ) → type' b ≢ 0 → IsWholeBlock (new b)
      blocks_so b some = elim (kept_or_lost b) [
        | inl kept ↦ elim kept.1 [
          | inl here ↦ subst (λ y. IsWholeBlock (new y)) (sym here) is_block
          | inr bytes ↦ subst IsWholeBlock (sym bytes) (v.blocks b (λ z. some (kept.0 ∙ z)))
        ]
        | inr lost ↦ absurd (some lost.unread)
      ]

      pub dropped_volume : IsVolume node inode type' new top
      dropped_volume = record {
        types = v.types;
        some_types = v.some_types;
        root = v.root;
        typed = typed_so;
        apart = apart_so;
        blocks = blocks_so;
        directories = λ m m_some some is.
            subst (λ c. IsDirectory new (key_in new top) c) (sym (dropped_numbered m)) (subst (λ key. IsDirectory new key (block m)) (sym key_same)
            (directory_so m m_some (λ z. some (dropped_numbered m ∙ z)) (sym (ap (λ c. kind_of (fields_of (new c)).mode) (dropped_numbered m)) ∙ is)));
      }
