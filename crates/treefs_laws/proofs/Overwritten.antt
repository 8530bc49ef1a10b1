-- Bytes with others written over them, as lists.
use Rattle.std.proofs.Common.{◌≡◌, ◌⊎◌, ℕ, ◌+◌, ◌-◌, ◌<◌, ◌≤◌, List, ◌++◌, length, drop, get_or, refl, sym, ◌∙◌, ap, inl, inr, arith, if◌then◌else◌, get_or-drop, append_assoc, length-append, length-drop}
use Rattle.std.specs.Prelude.{map, slice_index}
use Rattle.std.specs.List.{range_with_len}
use Rattle.std.proofs.lemmas.Bool.{cases_lt}
use Rattle.std.proofs.lemmas.List.{ext_get_or, get_or-append_right, get_or_append_left}
use Rattle.std.proofs.lemmas.List.FromFn.{get_or-map-range_with_len, length-map-range_with_len}
use Rattle.treefs_model.specs.Changes.{overwritten, resized}
use Rattle.treefs_values.specs.Bytes.{byte_over, is_within, put_within}
use Rattle.treefs_values.proofs.ForCallers.{inside, listed_resized, outside, same_listed}

module _ (f : ℕ → ℕ) (size at : ℕ) (bytes : List ℕ) where
  abbrev listed : ℕ → List ℕ
  listed count = map f (range_with_len 0 count)

  abbrev over : ℕ → ℕ
  over = byte_over at bytes f

  abbrev end : ℕ
  end = at + length bytes

  long : (count : ℕ) → length (listed count) ≡ count
  long count = length-map-range_with_len f 0 count

  listed_at : (count i : ℕ) → i < count → get_or (listed count) i 0 ≡ f i
  listed_at count i lt = get_or-map-range_with_len f 0 count i i 0 lt (omega arith)

  over_out : (i : ℕ) → (i < at) ⊎ (end ≤ i) → over i ≡ f i
  over_out i h = ap (λ t. if t then slice_index bytes (i - at) else f i) (outside at (length bytes) i h)

  over_in : (i : ℕ) → at ≤ i → i < end → over i ≡ slice_index bytes (i - at)
  over_in i low high = ap (λ t. if t then slice_index bytes (i - at) else f i) (inside at (length bytes) i low high)

  -- as many bytes as before
  pub put_listed : put_within at bytes (listed size) ≡ map over (range_with_len 0 size)
  put_listed =
      ap (λ l. map (byte_over at bytes (slice_index (listed size))) (range_with_len 0 l)) (long size)
      ∙ same_listed (byte_over at bytes (slice_index (listed size))) over size
      (λ i lt. ap (λ x. if is_within at (length bytes) i then slice_index bytes (i - at) else x) (listed_at size i lt))

  -- as many as there are then
  module _ (size' : ℕ) (more : size ≤ size') (past : end ≤ size') (is : (size' ≡ size) ⊎ (size' ≡ end)) (zeros : (p : ℕ) → size ≤ p → p < at → f p ≡ 0) where
    abbrev rest : List ℕ
    rest = drop end (listed size)

    rest_long : length rest ≡ size - end
    rest_long = length-drop end (listed size) ∙ ap (λ l. l - end) (long size)

    whole_long : at + (length bytes + length rest) ≡ size'
    whole_long = let r = rest_long in elim is [ inl same ↦ omega arith | inr same ↦ omega arith ]

    all_long : length (listed at ++ (bytes ++ rest)) ≡ size'
    all_long =
        length-append (listed at) (bytes ++ rest) ∙ ((λ j. long at j + length-append bytes rest j) ∙ whole_long)

    byte_at : (i : ℕ) → i < size' → over i ≡ get_or (listed at ++ (bytes ++ rest)) i 0
    byte_at i lt = elim (cases_lt i at) [
      | inl below ↦
          over_out i (inl below) ∙ sym (get_or_append_left (listed at) (bytes ++ rest) 0 i (let l = long at in omega arith) ∙ listed_at at i below)
      | inr above ↦ elim (cases_lt i end) [
        | inl within ↦
            over_in i above within
            ∙ sym (get_or-append_right (listed at) (bytes ++ rest) at i 0 (long at) above ∙ get_or_append_left bytes rest 0 (i - at) (omega arith))
        | inr behind ↦
            let short : i < size = elim is [ inl same ↦ omega arith | inr same ↦ absurd (omega arith) ] in
            let same : end + (i - at - length bytes) ≡ i = omega arith in
            over_out i (inr behind)
            ∙ sym (get_or-append_right (listed at) (bytes ++ rest) at i 0 (long at) above
            ∙ (get_or-append_right bytes rest (length bytes) (i - at) 0 refl (omega arith)
            ∙ (get_or-drop end (listed size) (i - at - length bytes) 0 ∙ (ap (λ q. get_or (listed size) q 0) same ∙ listed_at size i short))))
      ]
    ]

    pub over_listed : map over (range_with_len 0 size') ≡ overwritten (listed size) at bytes
    over_listed =
        ext_get_or 0 (map over (range_with_len 0 size')) (listed at ++ (bytes ++ rest)) (length-map-range_with_len over 0 size' ∙ sym all_long)
        (λ i lt. let l = length-map-range_with_len over 0 size' in let few : i < size' = omega arith in
        get_or-map-range_with_len over 0 size' i i 0 few (omega arith) ∙ byte_at i few)
        ∙ (ap (λ l. l ++ (bytes ++ rest)) (listed_resized f size at zeros) ∙ sym (append_assoc (resized at (listed size)) bytes rest))
