-- Lists that are gathered over numbers, rising.
use Rattle.std.proofs.Common.{◌≡◌, ℕ, zero, suc, ◌+◌, ◌-◌, ◌<◌, ◌≤◌, List, [], ◌++◌, ap, sym, ◌∙◌, append_assoc, arith}
use Rattle.std.specs.List.{flat_map, range_with_len}
use Rattle.std.proofs.lemmas.List.{append-nil}

-- what was gathered, what is added, and what is left
pub added : {A : Type 0} (new old here behind left all : List A) → new ≡ old ++ here → left ≡ here ++ behind → old ++ left ≡ all → new ++ behind ≡ all
added new old here behind left all one next so_far =
    ap (λ l. l ++ behind) one ∙ (append_assoc old here behind ∙ (ap (λ l. old ++ l) (sym next) ∙ so_far))

pub finished : {A : Type 0} (old left all : List A) → left ≡ [] → old ++ left ≡ all → old ≡ all
finished old left all none so_far = sym (append-nil old) ∙ (ap (λ l. old ++ l) (sym none) ∙ so_far)

module _ {A : Type 0} (f : ℕ → List A) where
  abbrev pub gathered : ℕ → ℕ → List A
  gathered n count = flat_map f (range_with_len n count)

  pub gathered_more : (n count : ℕ) → 0 < count → gathered n count ≡ f n ++ gathered (n + 1) (count - 1)
  gathered_more n zero some = let none : ⊥ = omega arith in absurd none
  gathered_more n (suc count) some = let same : count ≡ suc count - 1 = omega arith in ap (λ (k : ℕ). f n ++ gathered (n + 1) k) same

  -- numbers that give nothing are passed over
  pub gathered_passed : (k n m count : ℕ) → m ≡ n + k → k ≤ count → ((x : ℕ) → n ≤ x → x < m → f x ≡ []) → gathered n count ≡ gathered m (count - k)
  gathered_passed zero n m count to some none =
      let same : n ≡ m = omega arith in
      let all : count ≡ count - 0 = omega arith in
      ap (λ (x : ℕ). gathered x count) same ∙ ap (λ (x : ℕ). gathered m x) all
  gathered_passed (suc k) n m count to some none =
      let few : 0 < count = omega arith in
      let here : f n ≡ [] = none n (omega arith) (omega arith) in
      let less : count - 1 - k ≡ count - suc k = omega arith in
      gathered_more n count few ∙ (ap (λ (l : List A). l ++ gathered (n + 1) (count - 1)) here
      ∙ (gathered_passed k (n + 1) m (count - 1) (omega arith) (omega arith) (λ x ge lt. none x (omega arith) lt)
      ∙ ap (λ (x : ℕ). gathered m x) less))

  -- up to one that gives something, and behind it
  pub gathered_next : (n m count left : ℕ) → n ≤ m → m < n + count → left ≡ n + count - (m + 1) → ((x : ℕ) → n ≤ x → x < m → f x ≡ []) →
      gathered n count ≡ f m ++ gathered (m + 1) left
  gathered_next n m count left past within is none =
      let same : count - (m - n) - 1 ≡ left = omega arith in
      gathered_passed (m - n) n m count (omega arith) (omega arith) none
      ∙ (gathered_more m (count - (m - n)) (omega arith) ∙ ap (λ (x : ℕ). f m ++ gathered (m + 1) x) same)

  pub gathered_none : (n count : ℕ) → ((x : ℕ) → n ≤ x → x < n + count → f x ≡ []) → gathered n count ≡ []
  gathered_none n count none =
      let nothing : count - count ≡ 0 = omega arith in
      gathered_passed count n (n + count) count (omega arith) (omega arith) none ∙ ap (λ (x : ℕ). gathered (n + count) x) nothing
