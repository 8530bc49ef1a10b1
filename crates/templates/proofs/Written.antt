-- Bytes that are written into a block at a place.
use Rattle.std.proofs.Common.{◌≡◌, ℕ, ◌+◌, ◌-◌, ◌<◌, ◌≤◌, List, ◌++◌, length, take, drop, inl, inr, sym, ◌∙◌, ap, subst, arith, length-append}
use Rattle.std.specs.Prelude.{slice_index}
use Rattle.std.proofs.lemmas.Bool.{cases_lt}
use Rattle.std.proofs.lemmas.List.{length-take-le, get_or_append_left, get_or-append_right, get_or-take, get_or-drop}
use Rattle.xn_model.specs.Lists.{put}
use Rattle.udf_run.specs.Safe.{IsBlock}
use Rattle.udf_run.specs.SlotRows.{IsWrittenAt}

module _ (old : List ℕ) (at : ℕ) (bytes : List ℕ) (fit : at + length bytes ≤ length old) where
  front : length (take at old) ≡ at
  front = length-take-le at old (omega (arith, fit))

  both : length (take at old ++ bytes) ≡ at + length bytes
  both = omega (arith, front, length-append (take at old) bytes)

  inside : (i : ℕ) → i < length bytes → slice_index (put old at bytes) (at + i) ≡ slice_index bytes i
  inside i within =
      let same : at + i - at ≡ i = omega arith in
      get_or_append_left (take at old ++ bytes) (drop (at + length bytes) old) 0 (at + i) (omega (arith, both, within))
      ∙ (get_or-append_right (take at old) bytes at (at + i) 0 front (omega arith) ∙ ap (slice_index bytes) same)

  before : (i : ℕ) → i < at → slice_index (put old at bytes) i ≡ slice_index old i
  before i lt =
      get_or_append_left (take at old ++ bytes) (drop (at + length bytes) old) 0 i (omega (arith, both, lt))
      ∙ (get_or_append_left (take at old) bytes 0 i (omega (arith, front, lt)) ∙ get_or-take at old i 0 lt)

  behind : (i : ℕ) → at + length bytes ≤ i → slice_index (put old at bytes) i ≡ slice_index old i
  behind i le =
      let same : at + length bytes + (i - (at + length bytes)) ≡ i = omega (arith, le) in
      get_or-append_right (take at old ++ bytes) (drop (at + length bytes) old) (at + length bytes) i 0 both le
      ∙ (get_or-drop (at + length bytes) old (i - (at + length bytes)) 0 ∙ ap (slice_index old) same)

  pub written_at : IsWrittenAt (put old at bytes) old at bytes
  written_at = record { inside = inside; outside = λ i. elim [ inl lt ↦ before i lt | inr le ↦ behind i le ] }

  pub written_block : IsBlock old → IsBlock bytes → IsBlock (put old at bytes)
  written_block was more i =
      elim (cases_lt i at) [
        | inl lt ↦ subst (λ n. n < 256) (sym (before i lt)) (was i)
        | inr ge ↦ elim (cases_lt i (at + length bytes)) [
          | inl lt ↦
              let same : at + (i - at) ≡ i = omega (arith, ge) in
              subst (λ n. n < 256) (sym (ap (slice_index (put old at bytes)) (sym same) ∙ inside (i - at) (omega (arith, ge, lt)))) (more (i - at))
          | inr past ↦ subst (λ n. n < 256) (sym (behind i past)) (was i)
        ]
      ]
