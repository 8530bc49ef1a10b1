-- Names are counted one by one.
use Rattle.std.proofs.Common.{◌≡◌, ◌≢◌, ℕ, zero, suc, ◌+◌, ◌-◌, ◌<◌, Bool, true, false, List, [], ◌∷◌, ◌++◌, get_or, length, replicate, inl, inr, refl, sym, subst, ap, ◌∙◌, arith, length-append}
use Rattle.std.specs.Prelude.{◌==◌, ◌||◌, nat_lt, slice_set}
use Rattle.std.proofs.lemmas.Bool.{cases_eq, cases_lt, lt-ltb}
use Rattle.std.proofs.lemmas.List.{get_or-replicate, get_or-set_other, get_or-set_same, get_or_past, length-replicate}
use Rattle.std.proofs.lemmas.Option.{unwrap_or-slice_get}
use Rattle.treefs_mending.specs.Tallies.{Tally, is_found, named, no_names, padded, tally_at, with_name}

blank_at : (k n : ℕ) → get_or (replicate k no_names) n no_names ≡ no_names
blank_at k n = elim (cases_lt n k) [
  | inl lt ↦ get_or-replicate k n no_names no_names lt
  | inr ge ↦ get_or_past (replicate k no_names) n no_names (omega (arith, length-replicate k no_names))
]

padded_same : (tallies : List Tally) (k n : ℕ) → get_or (tallies ++ replicate k no_names) n no_names ≡ get_or tallies n no_names
padded_same [] k n = blank_at k n
padded_same (t ∷ tallies) k zero = refl
padded_same (t ∷ tallies) k (suc n) = padded_same tallies k n

module _ (tallies : List Tally) (n d : ℕ) where
  places : List Tally
  places = padded tallies (n + 1)

  tally : Tally
  tally = named (tally_at tallies n) d

  pub tally_here : tally_at (with_name tallies n d) n ≡ named (tally_at tallies n) d
  unfolding places tally
  tally_here =
      let enough : n < length places =
      omega (arith, length-append tallies (replicate (n + 1 - length tallies) no_names), length-replicate (n + 1 - length tallies) no_names) in
      unwrap_or-slice_get (slice_set places n tally) n no_names ∙ get_or-set_same places n tally no_names enough

  pub tally_others : (m : ℕ) → m ≢ n → tally_at (with_name tallies n d) m ≡ tally_at tallies m
  unfolding places tally
  tally_others m other =
      unwrap_or-slice_get (slice_set places n tally) m no_names
      ∙ (get_or-set_other places n m tally no_names other
      ∙ (padded_same tallies (n + 1 - length tallies) m ∙ sym (unwrap_or-slice_get tallies m no_names)))

  or_right : (a b : Bool) → b ≡ true → (a || b) ≡ true
  or_right true b right = refl
  or_right false b right = right

  pub found_here : is_found (with_name tallies n d) n ≡ true
  found_here =
      let some : 0 < (named (tally_at tallies n) d).names = omega arith in
      ap (λ (t : Tally). (n == 1) || nat_lt 0 t.names) tally_here
      ∙ or_right (n == 1) (nat_lt 0 (named (tally_at tallies n) d).names) (lt-ltb 0 (named (tally_at tallies n) d).names some)

  pub found_after : (m : ℕ) → is_found tallies m ≡ true → is_found (with_name tallies n d) m ≡ true
  found_after m found = elim (cases_eq m n) [
    | inl same ↦ let P : ℕ → Type 0 = λ x. is_found (with_name tallies n d) x ≡ true in subst P (sym same) found_here
    | inr other ↦ ap (λ (t : Tally). (m == 1) || nat_lt 0 t.names) (tally_others m other) ∙ found
  ]
