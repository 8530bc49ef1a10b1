-- Files of which fewer bytes were read than the limit are read whole.
use Rattle.std.proofs.Common.{◌≡◌, ◌<◌, ℕ, List, length, take, Option, Some, None, sym, ◌∙◌, ap, arith, inl, inr}
use Rattle.std.specs.Prelude.{IfSome, IsSomeAnd, option_map}
use Rattle.std.proofs.lemmas.List.{take_all, length-take-le}
use Rattle.std.proofs.lemmas.Bool.{cases_lt}
use Rattle.xnsim_line.specs.Files.{Held, IsHeld, IsStartHeld}

start_is_whole : (whole bytes : List ℕ) (limit : ℕ) → bytes ≡ take limit whole → length bytes < limit → whole ≡ bytes
start_is_whole whole bytes limit is few = elim (cases_lt (length whole) limit) [
  | inl all ↦ sym (is ∙ take_all limit whole (omega (arith, all)))
  | inr more ↦ let long : length bytes ≡ limit = ap length is ∙ length-take-le limit whole more in absurd (omega (arith, few, long))
]

found_whole : (found : Option (List ℕ)) (bytes : List ℕ) (limit : ℕ) → IsSomeAnd found (λ whole. bytes ≡ take limit whole) → length bytes < limit → found ≡ Some bytes
found_whole None bytes limit is few = absurd is
found_whole (Some whole) bytes limit is few = ap Some (start_is_whole whole bytes limit is few)

pub whole_held : (held : Held) (name bytes : List ℕ) (limit : ℕ) → IsStartHeld held name limit bytes → length bytes < limit → IsHeld held name bytes
whole_held None name bytes limit start few = tt
whole_held (Some files) name bytes limit start few = found_whole (files name) bytes limit start few

-- known bytes of which fewer than the limit were read are read whole
pub whole_input : (known : Option (List ℕ)) (text : List ℕ) (limit : ℕ) → IfSome (option_map (take limit) known) (λ bytes. text ≡ bytes) → length text < limit → IfSome known (λ bytes. text ≡ bytes)
whole_input None text limit is few = tt
whole_input (Some whole) text limit is few = sym (start_is_whole whole text limit is few)
