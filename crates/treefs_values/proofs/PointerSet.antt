-- One pointer is set by an edit that attaches a block.
use Rattle.std.proofs.Common.{◌≡◌, ◌≢◌, ◌⊎◌, ℕ, ◌+◌, ◌*◌, ◌-◌, ◌/◌, ◌<◌, ◌≤◌, ◌%◌, ◌^◌, ◌&&◌, List, [], ◌∷◌, ◌++◌, Option, length, take, drop, refl, sym, ◌∙◌, ap, inl, inr, arith, subst, eqb-true, ltb-true, if◌then◌else◌}
use Rattle.std.specs.Prelude.{IsTrue, nat_le, nat_lt, ◌==◌}
use Rattle.std.specs.Int.{to_le_bytes, w32}
use Rattle.std.proofs.lemmas.Bool.{and_parts, cases_eq, cases_lt, leb-true, ne_eqb, or_cases}
use Rattle.std.proofs.lemmas.List.{length-drop, take_all}
use Rattle.std.proofs.lemmas.Nat.{from_le_bytes-to_le_bytes_4}
use Rattle.xn_model.specs.Lists.{put}
use Rattle.xn_model.specs.Root.{word_at}
use Rattle.ffs_model.proofs.ForCallers.{bytes_apart, word_apart, word_within}
use Rattle.treefs_format.specs.Fields.{fields_of}
use Rattle.treefs_format.specs.Inodes.{content_of}
use Rattle.treefs_format.proofs.ForCallers.{pointers_others}
use Rattle.treefs_model.specs.Acts.{Act, attach_act}
use Rattle.treefs_model.specs.Reading.{pointed}
use Rattle.treefs_model.specs.Trees.{has_pointer, is_inode_offset, is_node_offset}
use Rattle.treefs_edits.specs.Written.{written}
use Rattle.treefs_values.specs.Attached.{IsPointerSet}
use Rattle.treefs_values.specs.Volumes.{IsWholeBlock}
use Rattle.treefs_values.proofs.Numbered.{bytes_small}
use Rattle.treefs_values.proofs.Putting.{block_put, written_here, written_other}

-- Where pointers stand

within : (low high o : ℕ) → IsTrue (nat_le low o && (nat_lt o high && (o % 4 == 0))) → (low ≤ o) × (o < high) × (o % 4 ≡ 0)
within low high o h =
    let a = and_parts (nat_le low o) (nat_lt o high && (o % 4 == 0)) h in
    let b = and_parts (nat_lt o high) (o % 4 == 0) a.1 in
    (leb-true low o a.0, ltb-true o high b.0, eqb-true (o % 4) 0 b.1)

pub any_offset : (node inode t o : ℕ) → IsTrue (has_pointer node inode t o) → (o + 4 ≤ 512) × (o % 4 ≡ 0)
any_offset node inode t o has = elim (or_cases ((t == node) && is_node_offset o) ((t == inode) && is_inode_offset o) has) [
  | inl a ↦ let w = within 4 512 o (and_parts (t == node) (is_node_offset o) a).1 in let x = w.1 in let y = w.2 in (omega arith, w.2)
  | inr b ↦ let w = within 48 128 o (and_parts (t == inode) (is_inode_offset o) b).1 in let x = w.1 in (omega arith, w.2)
]

pub inode_offset : (node inode t o : ℕ) → node ≢ inode → t ≡ inode → IsTrue (has_pointer node inode t o) → (48 ≤ o) × (o + 4 ≤ 128)
inode_offset node inode t o other is has = elim (or_cases ((t == node) && is_node_offset o) ((t == inode) && is_inode_offset o) has) [
  | inl a ↦ absurd (other (sym (eqb-true t node (and_parts (t == node) (is_node_offset o) a).0) ∙ is))
  | inr b ↦ let w = within 48 128 o (and_parts (t == inode) (is_inode_offset o) b).1 in let x = w.1 in let y = w.2 in (w.0, omega arith)
]

pub low_offset : (node inode t o : ℕ) → IsTrue (has_pointer node inode t o) → (4 ≤ o) × (o + 4 ≤ 512) × (o % 4 ≡ 0)
low_offset node inode t o has = elim (or_cases ((t == node) && is_node_offset o) ((t == inode) && is_inode_offset o) has) [
  | inl a ↦ let w = within 4 512 o (and_parts (t == node) (is_node_offset o) a).1 in let x = w.1 in let y = w.2 in (w.0, omega arith, w.2)
  | inr b ↦ let w = within 48 128 o (and_parts (t == inode) (is_inode_offset o) b).1 in let z = w.0 in let x = w.1 in (omega arith, omega arith, w.2)
]

module _ (node inode : ℕ) (type : ℕ → ℕ) (old : ℕ → List ℕ) (holder offset ty b : ℕ) (behind : Option ℕ) (other : node ≢ inode) (some : holder ≢ 0) (whole : IsWholeBlock (old holder))
    (has : IsTrue (has_pointer node inode (type holder) offset)) (none : pointed old holder offset ≡ 0) (few : b < 2 ^ 32) where
  abbrev act : Act
  act = attach_act holder offset ty (b ∷ []) behind

  abbrev bytes : List ℕ
  bytes = to_le_bytes w32 b ++ []

  abbrev new : ℕ → List ℕ
  new = written act old

  at : (offset + 4 ≤ 512) × (offset % 4 ≡ 0)
  at = any_offset node inode (type holder) offset has

  fits : offset + length bytes ≤ length (old holder)
  fits = let low = at.0 in let long = whole.0 in omega arith

  here : new holder ≡ put (old holder) offset bytes
  here = written_here act old holder refl

  pub holder_whole : IsWholeBlock (new holder)
  holder_whole = subst IsWholeBlock (sym here) (block_put (old holder) bytes offset whole (bytes_small 0 4 b) (let low = at.0 in omega arith))

  now : pointed new holder offset ≡ b
  unfolding word_at
  now =
      ap (λ t. if t then 0 else word_at (new holder) offset) (ne_eqb holder 0 some)
      ∙ (ap (λ m. word_at m offset) here ∙ (word_within (old holder) offset bytes fits offset 0 (omega arith) (omega arith) ∙ alone))
    where
      alone : word_at bytes 0 ≡ b
      alone = from_le_bytes-to_le_bytes_4 b few

  elsewhere : (o : ℕ) → IsTrue (has_pointer node inode (type holder) o) → o ≢ offset → word_at (new holder) o ≡ word_at (old holder) o
  elsewhere o has' ne = ap (λ m. word_at m o) here ∙ word_apart (old holder) offset bytes fits o (apart (any_offset node inode (type holder) o has') (cases_lt o offset))
    where
      apart : (o + 4 ≤ 512) × (o % 4 ≡ 0) → (o < offset) ⊎ (offset ≤ o) → (o + 4 ≤ offset) ⊎ (offset + length bytes ≤ o)
      apart there (inl lt) = let a = there.1 in let c = at.1 in inl (omega arith)
      apart there (inr le) = let a = there.1 in let c = at.1 in inr (omega arith)

  others : (p o : ℕ) → IsTrue (has_pointer node inode (type p) o) → (p ≢ holder) ⊎ (o ≢ offset) → pointed new p o ≡ pointed old p o
  others p o has' differ = by (cases_eq p holder) differ
    where
      by : (p ≡ holder) ⊎ (p ≢ holder) → (p ≢ holder) ⊎ (o ≢ offset) → pointed new p o ≡ pointed old p o
      by (inr ne) differ = ap (λ m. if p == 0 then 0 else word_at m o) (written_other act old p ne)
      by (inl same) (inl ne) = absurd (ne same)
      by (inl same) (inr ne) =
          ap (λ c. pointed new c o) same
          ∙ (ap (λ w. if holder == 0 then 0 else w) (elsewhere o (sym (ap (λ c. has_pointer node inode (type c) o) same) ∙ has') ne) ∙ ap (λ c. pointed old c o) (sym same))

  contents : type holder ≡ inode → content_of (new holder) ≡ content_of (old holder)
  contents is =
      let low = (inode_offset node inode (type holder) offset other is has).1 in
      let long = whole.0 in
      let long' = holder_whole.0 in
      let rest = length-drop 128 (old holder) in
      let rest' = length-drop 128 (new holder) in
      sym (take_all 384 (drop 128 (new holder)) (omega arith))
      ∙ (ap (λ m. take 384 (drop 128 m)) here
      ∙ (bytes_apart (old holder) offset bytes fits 384 128 (inr (omega arith)) ∙ take_all 384 (drop 128 (old holder)) (omega arith)))

  fields : type holder ≡ inode → fields_of (new holder) ≡ fields_of (old holder)
  fields is =
      let at_inode = inode_offset node inode (type holder) offset other is has in
      let low = at_inode.0 in
      let high = at_inode.1 in
      let whole_word = at.1 in
      let same : 48 + 4 * ((offset - 48) / 4) ≡ offset = omega arith in
      ap fields_of here ∙ subst (λ x. fields_of (put (old holder) x bytes) ≡ fields_of (old holder)) same
      (pointers_others (old holder) (b ∷ []) ((offset - 48) / 4) whole.0 (omega arith)).0

  pub pointer_set : IsPointerSet node inode type old new holder offset b
  pointer_set = record {
    changed = λ c ne. written_other act old c ne;
    was = none;
    now = now;
    others = others;
    fields = fields;
    contents = contents;
  }

  pub pointer_attached : IsPointerSet node inode type old new holder offset b × IsWholeBlock (new holder)
  pointer_attached = (pointer_set, holder_whole)
