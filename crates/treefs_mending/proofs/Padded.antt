-- Places for numbers are made one by one.
use Rattle.std.proofs.Common.{◌≡◌, ℕ, zero, suc, ◌+◌, ◌-◌, ◌<◌, List, [], ◌∷◌, ◌++◌, length, replicate, sym, ap, ◌∙◌, arith, append_assoc, length-append}
use Rattle.treefs_mending.specs.Tallies.{Tally, no_names, padded}

more : (k : ℕ) → 0 < k → replicate k no_names ≡ no_names ∷ replicate (k - 1) no_names
more zero some = let none : ⊥ = omega arith in absurd none
more (suc k) some = let same : k ≡ suc k - 1 = omega arith in ap (λ (n : ℕ). no_names ∷ replicate n no_names) same

pub padded_more : (tallies : List Tally) (count : ℕ) → length tallies < count → padded (tallies ++ no_names ∷ []) count ≡ padded tallies count
padded_more tallies count few =
    let long : length (tallies ++ no_names ∷ []) ≡ length tallies + 1 = length-append tallies (no_names ∷ []) in
    let less : count - length (tallies ++ no_names ∷ []) ≡ count - length tallies - 1 = omega arith in
    append_assoc tallies (no_names ∷ []) (replicate (count - length (tallies ++ no_names ∷ [])) no_names)
    ∙ ap (λ (l : List Tally). tallies ++ l) (ap (λ (k : ℕ). no_names ∷ replicate k no_names) less ∙ sym (more (count - length tallies) (omega arith)))
