-- Which bytes of an inode stand in blocks, by those of its leaves.
use Rattle.std.proofs.Common.{◌≡◌, ◌≢◌, ◌⊎◌, ℕ, zero, suc, ◌+◌, ◌-◌, ◌*◌, ◌/◌, ◌<◌, ◌≤◌, min, arith, inl, inr, refl, subst, sym}
use Rattle.std.proofs.lemmas.Bool.{cases_lt}
use Rattle.std.proofs.lemmas.Bool.Decides.{nat_tests}
use Rattle.treefs_format.specs.Leaves.{greatest_size}
use Rattle.treefs_format.specs.Paths.{leaf_count}
use Rattle.treefs_lookup.specs.Bytes.{file_end}
use Rattle.tree_lines.specs.Stretches.{AreInBlocks, HasNoStretch, IsFirstFrom, IsHole, IsStretch, end_before}

at_other : (leaf : ℕ) → 0 < leaf → end_before leaf ≡ leaf * 512
at_other leaf some = grind (arith, nat_tests)

end_before_is : (leaf : ℕ) → ((leaf ≡ 0) × (end_before leaf ≡ 384)) ⊎ ((0 < leaf) × (end_before leaf ≡ leaf * 512))
end_before_is zero = inl (refl, refl)
end_before_is (suc leaf) = inr (omega arith, at_other (suc leaf) (omega arith))

-- a stretch from a first byte on, before a leaf
module _ (blocks : ℕ → ℕ) (size at most first next limit last end : ℕ) (is_first : IsFirstFrom blocks at first next)
    (limit_is : limit ≡ min size (min (first + most) 18446744073709551615)) (from : next ≤ last) (last_few : last ≤ leaf_count)
    (there : (leaf : ℕ) → next ≤ leaf → leaf < last → blocks leaf ≢ 0)
    (ends : (leaf_count ≤ last) ⊎ ((limit ≤ end_before last) ⊎ (blocks last ≡ 0))) (end_is : end ≡ min (end_before last) limit) where
  within : first < end_before next
  within = is_first.within

  last_high : end_before last ≤ greatest_size
  last_high = elim (end_before_is last) [ inl h ↦ omega (arith, h.0, h.1) | inr h ↦ omega (arith, h.0, h.1) ]

  stretch_within : first < end → first + (end - first) ≤ file_end size
  stretch_within lt = let high = last_high in omega (arith, high)

  stretch_few : first < end → end - first ≤ most
  stretch_few lt = omega arith

  -- behind the leaf before the next one
  stands_behind : (byte : ℕ) → end_before next ≤ byte → byte < end → blocks (byte / 512) ≢ 0
  stands_behind byte from to =
      elim (end_before_is next) [
        | inl n ↦ elim (end_before_is last) [
          | inl h ↦ absurd (omega (arith, n.0, n.1, h.0, h.1))
          | inr h ↦ there (byte / 512) (omega (arith, n.0, n.1, h.0, h.1)) (omega (arith, n.0, n.1, h.0, h.1))
        ]
        | inr n ↦ elim (end_before_is last) [
          | inl h ↦ absurd (omega (arith, n.0, n.1, h.0, h.1))
          | inr h ↦ there (byte / 512) (omega (arith, n.0, n.1, h.0, h.1)) (omega (arith, n.0, n.1, h.0, h.1))
        ]
      ]

  stretch_stands : first < end → AreInBlocks blocks first (first + (end - first))
  stretch_stands lt byte from to =
      elim (cases_lt byte (end_before next)) [
        | inl low ↦ is_first.stand byte from low
        | inr high ↦ inr (stands_behind byte high (omega arith))
      ]

  at_limit : first < end → limit ≤ end_before last → (end - first ≡ most) ⊎ (first + (end - first) ≡ file_end size)
  at_limit lt low =
      let high = last_high in
      elim (cases_lt (first + most) size) [
        | inl part ↦ inl (omega arith)
        | inr whole ↦ inr (omega (arith, high))
      ]

  last_byte : end_before last / 512 ≡ last
  last_byte = elim (end_before_is last) [ inl h ↦ omega (arith, h.0, h.1) | inr h ↦ omega (arith, h.0, h.1) ]

  last_low : 384 ≤ end_before last
  last_low = elim (end_before_is last) [ inl h ↦ omega (arith, h.0, h.1) | inr h ↦ omega (arith, h.0, h.1) ]

  at_missing : first < end → end_before last ≤ limit → blocks last ≡ 0 → IsHole blocks (first + (end - first)) (first + (end - first) + 1)
  at_missing lt low gone byte from to =
      let least = last_low in
      let is : byte ≡ end_before last = omega arith in
      let same : byte / 512 ≡ last = subst (λ (b : ℕ). b / 512 ≡ last) (sym is) last_byte in
      (omega (arith, is, least), subst (λ (l : ℕ). blocks l ≡ 0) (sym same) gone)

  at_most : first < end → leaf_count ≤ last → end_before last ≤ limit → first + (end - first) ≡ file_end size
  at_most lt all low =
      elim (end_before_is last) [
        | inl h ↦ absurd (omega (arith, h.0, h.1))
        | inr h ↦ omega (arith, h.0, h.1)
      ]

  stretch_ends : first < end →
      (end - first ≡ most) ⊎ ((first + (end - first) ≡ file_end size) ⊎ IsHole blocks (first + (end - first)) (first + (end - first) + 1))
  stretch_ends lt =
      elim (cases_lt limit (end_before last)) [
        | inl low ↦ elim (at_limit lt (omega arith)) [ inl all ↦ inl all | inr whole ↦ inr (inl whole) ]
        | inr high ↦ elim ends [
          | inl all ↦ inr (inl (at_most lt all high))
          | inr less ↦ elim less [
            | inl low ↦ elim (at_limit lt low) [ inl all ↦ inl all | inr whole ↦ inr (inl whole) ]
            | inr gone ↦ inr (inr (at_missing lt high gone))
          ]
        ]
      ]

  pub stretch : first < end → IsStretch blocks size at most (record { at = first; length = end - first })
  stretch lt = record {
    past = is_first.past;
    some = omega arith;
    few = stretch_few lt;
    within = stretch_within lt;
    hole = is_first.hole;
    stand = stretch_stands lt;
    ends = stretch_ends lt;
  }

  rises : end_before next ≤ end_before last
  rises =
      elim (end_before_is next) [
        | inl n ↦ elim (end_before_is last) [ inl h ↦ omega (arith, n.0, n.1, h.0, h.1) | inr h ↦ omega (arith, n.0, n.1, h.0, h.1) ]
        | inr n ↦ elim (end_before_is last) [ inl h ↦ omega (arith, n.0, n.1, h.0, h.1) | inr h ↦ omega (arith, n.0, n.1, h.0, h.1) ]
      ]

  pub no_stretch : end ≤ first → HasNoStretch blocks size at most
  no_stretch le =
      let far = rises in
      let near = within in
      let high = last_high in
      elim (cases_lt first size) [
        | inl some ↦ inl (omega (arith, far, near, high))
        | inr none ↦ inr (λ byte from to. is_first.hole byte from (omega (arith, none)))
      ]
