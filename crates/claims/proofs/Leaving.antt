-- An edit that writes into none of a set's chunks, and adds and drops nothing.
use Rattle.std.proofs.Common.{◌≡◌, ℕ, zero, suc, ◌+◌, ◌/◌, ◌<◌, ◌≤◌, true, List, [], ◌∷◌, length, get_or, replicate, refl, sym, ◌∙◌, arith, inl, inr}
use Rattle.std.specs.Prelude.{◌==◌, All, nat_le, nat_lt}
use Rattle.std.specs.Int.{bit_at}
use Rattle.std.specs.List.{list_all}
use Rattle.std.proofs.lemmas.Bool.{and_parts, cases_lt, eqb-true, leb-true}
use Rattle.std.proofs.lemmas.List.{get_or-replicate, nil_from_length, length-replicate}
use Rattle.std.proofs.lemmas.Nat.Bits.{bit_at-lt}
use Rattle.xn_model.specs.Lists.{put}
use Rattle.xn_model.specs.Calls.{Edit, Patch, is_patch, patched, within_limits}
use Rattle.edit_list.proofs.ForCallers.{length-put, patches_of_edit, put_inside, put_outside}
use Rattle.udf_run.specs.ReadSets.{AgreeOn}
use Rattle.claims.specs.Decided.{WritesApart, Leaves}

-- a patch lies within a block
fits : (m : List ℕ) (p : Patch) → length m ≡ 512 → is_patch p ≡ true → p.offset + length p.bytes ≤ length m
fits m p long is =
    omega (arith, leb-true (p.offset + length p.bytes) 512 (and_parts (nat_lt 0 (length p.bytes)) (nat_le (p.offset + length p.bytes) 512) is).1, long)

-- patches that write into none of the chunks leave what they hold
pub agree_patched : (chunks : ℕ) (patches : List Patch) → All (WritesApart chunks) patches → list_all is_patch patches ≡ true → (m : List ℕ) → length m ≡ 512 → AgreeOn chunks m (patched m patches)
agree_patched chunks [] apart are m long i noted = refl
agree_patched chunks (p ∷ ps) apart are m long i noted =
    let parts = and_parts (is_patch p) (list_all is_patch ps) are in
    let room = fits m p long parts.0 in
    let rest = agree_patched chunks ps (λ k d lt. apart (suc k) d (omega (arith, lt))) parts.1 (put m p.offset p.bytes) (length-put m p.offset p.bytes room ∙ long) i noted in
    rest ∙ put_outside m p.offset p.bytes room i (elim (cases_lt i p.offset) [
      | inl before ↦ inl before
      | inr from ↦ elim (cases_lt i (p.offset + length p.bytes)) [
        | inl inside ↦ absurd (let clear = apart 0 p (omega arith) i from inside in omega (arith, clear, noted))
        | inr behind ↦ inr behind
      ]
    ])

pub leaves_from : (chunks : ℕ) (e : Edit) → (length e.adds == 0) ≡ true → (length e.drops == 0) ≡ true → within_limits e ≡ true → All (WritesApart chunks) e.patches → Leaves chunks e
leaves_from chunks e adds drops limits apart = record {
  no_adds = nil_from_length e.adds (eqb-true (length e.adds) 0 adds);
  no_drops = nil_from_length e.drops (eqb-true (length e.drops) 0 drops);
  apart = λ m long. agree_patched chunks e.patches apart (patches_of_edit e limits) m long;
}

-- two blocks with the same byte at a place still have that after the patches
same_patched : (x y : List ℕ) (ps : List Patch) (i : ℕ) → length x ≡ 512 → length y ≡ 512 → list_all is_patch ps ≡ true → get_or x i 0 ≡ get_or y i 0 → get_or (patched x ps) i 0 ≡ get_or (patched y ps) i 0
same_patched x y [] i long other are same = same
same_patched x y (p ∷ ps) i long other are same =
    let parts = and_parts (is_patch p) (list_all is_patch ps) are in
    let room = fits x p long parts.0 in
    let there = fits y p other parts.0 in
    same_patched (put x p.offset p.bytes) (put y p.offset p.bytes) ps i (length-put x p.offset p.bytes room ∙ long) (length-put y p.offset p.bytes there ∙ other) parts.1
    (elim (cases_lt i p.offset) [
      | inl before ↦ put_outside x p.offset p.bytes room i (inl before) ∙ (same ∙ sym (put_outside y p.offset p.bytes there i (inl before)))
      | inr from ↦ elim (cases_lt i (p.offset + length p.bytes)) [
        | inl inside ↦ put_inside x p.offset p.bytes room i from inside ∙ sym (put_inside y p.offset p.bytes there i from inside)
        | inr behind ↦ put_outside x p.offset p.bytes room i (inr behind) ∙ (same ∙ sym (put_outside y p.offset p.bytes there i (inr behind)))
      ]
    ])

-- so have any two blocks at a place that one of the patches writes
same_written : (x y : List ℕ) (ps : List Patch) (k : ℕ) (d : Patch) (i : ℕ) → length x ≡ 512 → length y ≡ 512 → list_all is_patch ps ≡ true → k < length ps →
    (get_or ps k d).offset ≤ i → i < (get_or ps k d).offset + length (get_or ps k d).bytes → get_or (patched x ps) i 0 ≡ get_or (patched y ps) i 0
same_written x y [] k d i long other are within from inside = absurd (omega (arith, within))
same_written x y (p ∷ ps) zero d i long other are within from inside =
    let parts = and_parts (is_patch p) (list_all is_patch ps) are in
    let room = fits x p long parts.0 in
    let there = fits y p other parts.0 in
    same_patched (put x p.offset p.bytes) (put y p.offset p.bytes) ps i (length-put x p.offset p.bytes room ∙ long) (length-put y p.offset p.bytes there ∙ other) parts.1
    (put_inside x p.offset p.bytes room i from inside ∙ sym (put_inside y p.offset p.bytes there i from inside))
same_written x y (p ∷ ps) (suc k) d i long other are within from inside =
    let parts = and_parts (is_patch p) (list_all is_patch ps) are in
    let room = fits x p long parts.0 in
    let there = fits y p other parts.0 in
    same_written (put x p.offset p.bytes) (put y p.offset p.bytes) ps k d i (length-put x p.offset p.bytes room ∙ long) (length-put y p.offset p.bytes there ∙ other) parts.1
    (omega (arith, within)) from inside

inside_block : (ps : List Patch) (k : ℕ) (d : Patch) → list_all is_patch ps ≡ true → k < length ps → (get_or ps k d).offset + length (get_or ps k d).bytes ≤ 512
inside_block [] k d are within = absurd (omega (arith, within))
inside_block (p ∷ ps) zero d are within =
    leb-true (p.offset + length p.bytes) 512 (and_parts (nat_lt 0 (length p.bytes)) (nat_le (p.offset + length p.bytes) 512) (and_parts (is_patch p) (list_all is_patch ps) are).0).1
inside_block (p ∷ ps) (suc k) d are within = inside_block ps k d (and_parts (is_patch p) (list_all is_patch ps) are).1 (omega (arith, within))

-- a block of zeros and one of ones have the same byte there, which no chunk that keeps its bytes has
not_written : (chunks n : ℕ) (ps : List Patch) (k : ℕ) (d : Patch) (i : ℕ) → n ≡ 512 → list_all is_patch ps ≡ true → k < length ps →
    (get_or ps k d).offset ≤ i → i < (get_or ps k d).offset + length (get_or ps k d).bytes →
    ((m : List ℕ) → length m ≡ 512 → AgreeOn chunks m (patched m ps)) → bit_at chunks (i / 8) ≡ 1 → ⊥
not_written chunks n ps k d i whole are within from inside agree noted =
    let zeros = length-replicate {A = ℕ} n 0 ∙ whole in
    let ones = length-replicate {A = ℕ} n 1 ∙ whole in
    let lt : i < n = omega (arith, inside, whole, inside_block ps k d are within) in
    let zero_before = agree (replicate n 0) zeros i noted ∙ get_or-replicate n i 0 0 lt in
    let one_before = agree (replicate n 1) ones i noted ∙ get_or-replicate n i 1 0 lt in
    let same = same_written (replicate n 0) (replicate n 1) ps k d i zeros ones are within from inside in
    omega (arith, zero_before, one_before, same)

pub apart_from : (chunks : ℕ) (e : Edit) → within_limits e ≡ true → Leaves chunks e → All (WritesApart chunks) e.patches
apart_from chunks e limits leaves k d within i from inside = elim (cases_lt (bit_at chunks (i / 8)) 1) [
  | inl clear ↦ omega (arith, clear)
  | inr set ↦
      let noted : bit_at chunks (i / 8) ≡ 1 = omega (arith, set, bit_at-lt chunks (i / 8)) in
      absurd (not_written chunks 512 e.patches k d i refl (patches_of_edit e limits) within from inside leaves.apart noted)
]
