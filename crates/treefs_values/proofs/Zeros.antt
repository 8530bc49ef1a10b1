-- Leaves of zeros are empty.
use Rattle.std.proofs.Common.{◌≡◌, ℕ, zero, suc, true, List, [], refl, ◌∙◌, ap}
use Rattle.std.specs.Prelude.{IsTrue, slice_index}
use Rattle.xn_model.specs.BareDisks.{zeros}
use Rattle.xn_model.specs.Lists.{blank}
use Rattle.treefs_format.proofs.ForCallers.{blank_at, blank_drop, blank_none}
use Rattle.treefs_format.specs.Buckets.{is_whole}
use Rattle.treefs_format.specs.Records.{end_of, entries_of}

pub zeros_blank : (n : ℕ) → IsTrue (blank (zeros n))
zeros_blank zero = refl
zeros_blank (suc n) = zeros_blank n

pub zeros_are_nothing : (m : List ℕ) → m ≡ zeros 512 → ((i : ℕ) → slice_index m i ≡ 0) × ((entries_of m ≡ []) × (is_whole m ≡ true))
zeros_are_nothing m is =
    let z : IsTrue (blank m) = ap blank is ∙ zeros_blank 512 in
    ((λ i. blank_at m i z), (blank_none m z, blank_drop (end_of m) m z))
