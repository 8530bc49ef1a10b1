-- Inodes beside each other that are freed, one after another.
use Rattle.std.proofs.Common.{◌≡◌, ℕ, suc, ◌+◌, ◌-◌, ◌%◌, ◌<◌, ◌≤◌, Bool, true, false, List, [], ◌∷◌, ◌++◌, sym, ◌∙◌, ap, arith, append_assoc, refl, nat_lt, if◌then◌else◌}
use Rattle.std.proofs.lemmas.Bool.{ltb-true}
use Rattle.std.specs.Prelude.{flat_map}
use Rattle.std.specs.List.{range_with_len}
use Rattle.xn_model.specs.BareDisks.{zeros}
use Rattle.xn_model.specs.Lists.{put}
use Rattle.treefs_format.specs.Paths.{last_beside, place_in_tree}
use Rattle.treefs.specs.Reaping.{cleared, freed_among, freed_at}
use Rattle.treefs.specs.declared.reap_plan.Freed.{Freed}

module _ (content : ℕ → List ℕ) (top : ℕ) (numbers : List ℕ) where
  pub one_more : (from to : ℕ) → from < to →
      freed_among content top numbers from to ≡ freed_at content top numbers from ++ freed_among content top numbers (from + 1) to
  one_more from to lt =
      let e : to - from ≡ suc (to - (from + 1)) = omega arith in
      ap (λ n. flat_map (freed_at content top numbers) (range_with_len from n)) e

  pub none_left : (from to : ℕ) → to ≤ from → freed_among content top numbers from to ≡ []
  none_left from to le =
      let e : to - from ≡ 0 = omega arith in
      ap (λ n. flat_map (freed_at content top numbers) (range_with_len from n)) e

pub cleared-append : (bytes : List ℕ) (xs ys : List Freed) → cleared bytes (xs ++ ys) ≡ cleared (cleared bytes xs) ys
cleared-append bytes [] ys = refl
cleared-append bytes (x ∷ xs) ys = cleared-append (put bytes x.offset (zeros 4)) xs ys

pub joined_more : (all front longer here at rest : List Freed) → all ≡ front ++ here → here ≡ at ++ rest → longer ≡ front ++ at → all ≡ longer ++ rest
joined_more all front longer here at rest e here_is longer_is =
    e ∙ (ap (λ (xs : List Freed). front ++ xs) here_is ∙ (sym (append_assoc front at rest) ∙ ap (λ (xs : List Freed). xs ++ rest) (sym longer_is)))

pub cleared_more : (whole bytes written : List ℕ) (here at rest : List Freed) → whole ≡ cleared bytes here → here ≡ at ++ rest → written ≡ cleared bytes at →
    whole ≡ cleared written rest
cleared_more whole bytes written here at rest e here_is written_is =
    e ∙ (ap (λ (xs : List Freed). cleared bytes xs) here_is ∙ (cleared-append bytes at rest ∙ ap (λ (m : List ℕ). cleared m rest) (sym written_is)))

-- How far they go

past_by : (b : Bool) (leaf r : ℕ) → (b ≡ true → leaf < 16) → leaf ≤ (if b then 15 else leaf + (126 - r)) + 1
past_by true leaf r lt = let h = lt refl in omega arith
past_by false leaf r lt = omega arith

pub last_past : (leaf : ℕ) → leaf ≤ last_beside leaf + 1
last_past leaf = past_by (nat_lt leaf 16) leaf (place_in_tree leaf % 127) (ltb-true leaf 16)

pub before_end : (leaf at last count : ℕ) → count ≡ last + 1 - leaf → leaf ≤ last + 1 → at < leaf + count → at < last + 1
before_end leaf at last count is past lt = omega arith

pub few_more : (new old at first from : ℕ) → new ≤ old + 1 → old ≤ at - first → from ≡ first → from ≤ at → new ≤ at + 1 - first
few_more new old at first from more few is past = omega arith
