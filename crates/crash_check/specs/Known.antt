-- Types that are looked up once.
--     AreKnown T known       each type that is marked is one that a named block may have, and each size is that of all its blocks
use Rattle.std.specs.Prelude.{◌≡◌, ℕ, ◌≤◌, true, false, List, Some, None, get_or}
use Rattle.xn_model.specs.Types.{Types}
use Rattle.crash_check.specs.declared.known.KnownTypes.{KnownTypes}

pub record AreKnown (T : Types) (known : KnownTypes) : Type 0 where
  pub nonzero : (t : ℕ) → get_or known.marks t false ≡ true → 1 ≤ t
  pub installed : (t : ℕ) → get_or known.marks t false ≡ true → T.installed t ≡ true
  pub small : (t n : ℕ) → get_or known.sizes t None ≡ Some n → n ≤ 512
  pub size : (t n : ℕ) → get_or known.sizes t None ≡ Some n → (m : List ℕ) → T.size t m ≡ n
