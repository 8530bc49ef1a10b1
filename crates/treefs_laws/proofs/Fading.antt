-- Leaves and bytes of a file whose pointers are dropped, or whose bytes become 0: each is as before, or 0.
use Rattle.std.proofs.Common.{◌≡◌, ◌≢◌, ◌⊎◌, ℕ, suc, ◌+◌, ◌/◌, ◌%◌, ◌<◌, Bool, true, false, List, [], ◌∷◌, refl, sym, ◌∙◌, ap, inl, inr, subst, arith, get_or, if◌then◌else◌}
use Rattle.std.specs.Prelude.{IsTrue, nat_lt, slice_index, ◌==◌}
use Rattle.std.proofs.lemmas.Bool.{cases_eq}
use Rattle.std.proofs.lemmas.List.{get_or-drop}
use Rattle.xn_model.specs.Root.{word_at}
use Rattle.treefs_format.specs.Inodes.{content_of}
use Rattle.treefs_format.specs.Leaves.{greatest_size}
use Rattle.treefs_format.specs.Paths.{leaf_count, steps}
use Rattle.treefs_model.specs.Reading.{block_at, byte_of, leaf_block, leaf_byte, pointed}
use Rattle.treefs_model.specs.Trees.{has_pointer}
use Rattle.treefs_values.specs.Dropped.{AreDropped}
use Rattle.treefs_values.specs.Volumes.{IsVolume}
use Rattle.treefs_values.specs.Ways.{IsWay, block_numbered}
use Rattle.treefs_values.proofs.ForCallers.{inode_pointer, node_pointer, steps_way}

-- as before, or 0
abbrev pub Fades : ℕ → ℕ → Type 0
Fades was now = (now ≡ was) ⊎ (now ≡ 0)

-- a byte, by the test of where it stands
abbrev pub byte_by : (ℕ → List ℕ) → ℕ → ℕ → Bool → ℕ
byte_by content c p t = if t then slice_index (content c) (128 + p) else leaf_byte content (leaf_block content c (p / 512)) (p % 512)

pub record IsFaded (old new : ℕ → List ℕ) (c : ℕ) : Type 0 where
  pub leaves : (i : ℕ) → Fades (leaf_block old c i) (leaf_block new c i)
  pub bytes : (p : ℕ) → p < greatest_size → Fades (byte_of old c p) (byte_of new c p)

pub faded_same : (old new : ℕ → List ℕ) (c : ℕ) → new ≡ old → IsFaded old new c
faded_same old new c same = record { leaves = λ i. inl (ap (λ m. leaf_block m c i) same); bytes = λ p low. inl (ap (λ m. byte_of m c p) same) }

fades_then : (x y z : ℕ) → Fades x y → Fades y z → Fades x z
fades_then x y z first (inl same) = elim first [ inl was ↦ inl (same ∙ was) | inr none ↦ inr (same ∙ none) ]
fades_then x y z first (inr none) = inr none

pub faded_then : (old middle new : ℕ → List ℕ) (c : ℕ) → IsFaded old middle c → IsFaded middle new c → IsFaded old new c
faded_then old middle new c first next = record {
  leaves = λ i. fades_then (leaf_block old c i) (leaf_block middle c i) (leaf_block new c i) (first.leaves i) (next.leaves i);
  bytes = λ p low. fades_then (byte_of old c p) (byte_of middle c p) (byte_of new c p) (first.bytes p low) (next.bytes p low);
}

-- Pointers that are as before, or lead nowhere

module _ (node inode top : ℕ) (type : ℕ → ℕ) (old new : ℕ → List ℕ) (v : IsVolume node inode type new top) (n : ℕ) (there : block_numbered new top n ≢ 0)
    (further : (b o : ℕ) → type b ≢ 0 → IsTrue (has_pointer node inode (type b) o) → Fades (pointed old b o) (pointed new b o)) where
  abbrev c : ℕ
  c = block_numbered new top n

  is_inode : type c ≡ inode
  is_inode = v.typed.inodes n there

  pub way_fades : (l : ℕ) (os : List ℕ) → IsWay os l → Fades (block_at old c os) (block_at new c os)
  way_fades l [] way = absurd way
  way_fades l (o ∷ []) way = further c o (λ z. v.some_types.1 (sym is_inode ∙ z)) (inode_pointer node inode (type c) o l is_inode way)
  way_fades l (o ∷ p ∷ os) way = by (way_fades (suc l) (p ∷ os) way.3) (cases_eq (block_at new c (p ∷ os)) 0)
    where
      by : Fades (block_at old c (p ∷ os)) (block_at new c (p ∷ os)) → (block_at new c (p ∷ os) ≡ 0) ⊎ (block_at new c (p ∷ os) ≢ 0) → Fades
          (block_at old c (o ∷ p ∷ os)) (block_at new c (o ∷ p ∷ os))
      by was (inl none) = inr (ap (λ x. pointed new x o) none)
      by (inr none) (inr some) = absurd (some none)
      by (inl same) (inr some) =
          let is_node = v.typed.nodes n l (p ∷ os) way.3 some in
          let b : ℕ = block_at new c (p ∷ os) in
          subst (λ x. Fades (pointed old x o) (pointed new b o)) same
          (further b o (λ z. v.some_types.0 (sym is_node ∙ z)) (node_pointer node inode (type b) o way.0 is_node way.1 way.2))

  pub leaf_fades : (i : ℕ) → Fades (leaf_block old c i) (leaf_block new c i)
  leaf_fades i = way_fades 0 (steps i) (steps_way i)

-- Pointers of one block are dropped

module _ (node inode top : ℕ) (type type' : ℕ → ℕ) (old new : ℕ → List ℕ) (v' : IsVolume node inode type' new top) (n : ℕ) (number : n ≢ 0)
    (there : block_numbered new top n ≢ 0) (holder : ℕ) (places : List (ℕ × ℕ)) (holder_typed : (type holder ≡ inode) ⊎ (type holder ≡ node))
    (gone : AreDropped node inode type type' old new holder places) where
  abbrev block : ℕ
  block = block_numbered new top n

  -- a block that may still be read
  kept : (b : ℕ) → type' b ≢ 0 → (b ≡ holder) ⊎ (new b ≡ old b)
  kept b some = elim (cases_eq b holder) [
    | inl same ↦ inl same
    | inr ne ↦ elim (gone.others b ne) [ inl k ↦ inr k.1 | inr lost ↦ absurd (some lost.unread) ]
  ]

  further : (b o : ℕ) → type' b ≢ 0 → IsTrue (has_pointer node inode (type' b) o) → Fades (pointed old b o) (pointed new b o)
  further b o some has = elim (kept b some) [
    | inl here ↦ elim (gone.pointers o (subst (λ t. IsTrue (has_pointer node inode t o)) (ap type' here ∙ gone.typed) has)) [
      | inl same ↦ inl (ap (λ x. pointed new x o) here ∙ (same ∙ sym (ap (λ x. pointed old x o) here)))
      | inr went ↦ inr (ap (λ x. pointed new x o) here ∙ went.1)
    ]
    | inr bytes ↦ inl (ap (λ m. if b == 0 then 0 else word_at m o) bytes)
  ]

  leaf : (i : ℕ) → Fades (leaf_block old block i) (leaf_block new block i)
  leaf = leaf_fades node inode top type' old new v' n there further

  no_holder : (x : ℕ) → type' x ≡ 2 → x ≢ holder
  no_holder x of_data same =
      let is : type holder ≡ 2 = sym gone.typed ∙ (ap type' (sym same) ∙ of_data) in
      elim holder_typed [ inl i ↦ v'.types.2 (sym is ∙ i) | inr o ↦ v'.types.1 (sym is ∙ o) ]

  leaf_kept : (i at : ℕ) → i < leaf_count → Fades (leaf_byte old (leaf_block old block i) at) (leaf_byte new (leaf_block new block i) at)
  leaf_kept i at few = by (leaf i) (cases_eq (leaf_block new block i) 0)
    where
      by : Fades (leaf_block old block i) (leaf_block new block i) → (leaf_block new block i ≡ 0) ⊎ (leaf_block new block i ≢ 0) →
          Fades (leaf_byte old (leaf_block old block i) at) (leaf_byte new (leaf_block new block i) at)
      by was (inl none) = inr (ap (λ x. leaf_byte new x at) none)
      by (inr none) (inr some) = absurd (some none)
      by (inl same) (inr some) =
          let of_data = v'.typed.leaves n i number few some in
          elim (kept (leaf_block new block i) (two (type' (leaf_block new block i)) of_data)) [
            | inl here ↦ absurd (no_holder (leaf_block new block i) of_data here)
            | inr bytes ↦ inl (ap (λ m. if leaf_block new block i == 0 then 0 else slice_index m at) bytes ∙ ap (λ x. leaf_byte old x at) same)
          ]
        where
          two : (t : ℕ) → t ≡ 2 → t ≢ 0
          two t is z = absurd (omega (arith, is, z))

  own : content_of (new block) ≡ content_of (old block)
  own =
      let is_inode = v'.typed.inodes n there in
      elim (kept block (λ z. v'.some_types.1 (sym is_inode ∙ z))) [
        | inl here ↦
            let is : type holder ≡ inode = sym gone.typed ∙ (ap type' (sym here) ∙ is_inode) in
            ap (λ x. content_of (new x)) here ∙ (gone.contents is ∙ sym (ap (λ x. content_of (old x)) here))
        | inr bytes ↦ ap content_of bytes
      ]

  byte_fades : (p : ℕ) → p < greatest_size → Fades (byte_of old block p) (byte_of new block p)
  byte_fades p low = by (nat_lt p 384) refl
    where
      by : (t : Bool) → nat_lt p 384 ≡ t → Fades (byte_of old block p) (byte_of new block p)
      by true e = inl (ap (byte_by new block p) e ∙ (sym (get_or-drop 128 (new block) p 0) ∙
          (ap (λ x. get_or x p 0) own ∙ (get_or-drop 128 (old block) p 0 ∙ sym (ap (byte_by old block p) e)))))
      by false e = elim (leaf_kept (p / 512) (p % 512) (omega arith)) [
        | inl same ↦ inl (ap (byte_by new block p) e ∙ (same ∙ sym (ap (byte_by old block p) e)))
        | inr none ↦ inr (ap (byte_by new block p) e ∙ none)
      ]

  pub dropped_fade : IsFaded old new block
  dropped_fade = record { leaves = leaf; bytes = byte_fades }
