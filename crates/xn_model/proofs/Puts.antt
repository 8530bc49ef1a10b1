-- Bytes written at a place of a list, and those apart from it.
use Rattle.std.proofs.Common.{◌≡◌, ℕ, ◌+◌, ◌-◌, ◌≤◌, ◌⊎◌, List, ◌++◌, length, take, drop, refl, sym, ◌∙◌, ap, inl, inr, arith, append_assoc, length-append}
use Rattle.std.proofs.lemmas.List.{take-take, take-append-le, drop_at, drop-drop, length-take, length-drop, drop-take}
use Rattle.xn_model.specs.Lists.{put}

module _ (m : List ℕ) (at : ℕ) (bs : List ℕ) (fits : at + length bs ≤ length m) where
  pub front_length : length (take at m) ≡ at
  front_length = rw length-take (omega arith)

  pub take_put : (n : ℕ) → n ≤ at → take n (put m at bs) ≡ take n m
  take_put n le = ap (take n) (append_assoc (take at m) bs (drop (at + length bs) m)) ∙ (take-append-le n (take at m) (bs ++ drop (at + length bs) m) (rw front_length le) ∙ take-take n at m le)

  pub drop_put : drop at (put m at bs) ≡ bs ++ drop (at + length bs) m
  drop_put = ap (drop at) (append_assoc (take at m) bs (drop (at + length bs) m)) ∙ drop_at (take at m) (bs ++ drop (at + length bs) m) at front_length

  pub drop_past : (n : ℕ) → at + length bs ≤ n → drop n (put m at bs) ≡ drop n m
  drop_past n le =
      let rest : ℕ = n - (at + length bs) in
      let sum1 : n ≡ at + (length bs + rest) = omega arith in
      let sum2 : n ≡ (at + length bs) + rest = omega arith in
      ap (λ k. drop k (put m at bs)) sum1
      ∙ (sym (drop-drop (length bs + rest) at (put m at bs))
      ∙ (ap (drop (length bs + rest)) drop_put
      ∙ (sym (drop-drop rest (length bs) (bs ++ drop (at + length bs) m))
      ∙ (ap (drop rest) (drop_at bs (drop (at + length bs) m) (length bs) refl)
      ∙ (drop-drop rest (at + length bs) m ∙ ap (λ k. drop k m) (sym sum2))))))

  pub length_put : length (put m at bs) ≡ length m
  length_put = rw (length-append, length-append, front_length, length-drop) (omega arith)

  -- n bytes elsewhere, and n bytes of what is written
  pub bytes_apart : (n j : ℕ) → (j + n ≤ at) ⊎ (at + length bs ≤ j) → take n (drop j (put m at bs)) ≡ take n (drop j m)
  bytes_apart n j h = elim h [
    | inl before ↦ sym (drop-take j n (put m at bs)) ∙ (ap (drop j) (take_put (j + n) before) ∙ drop-take j n m)
    | inr past ↦ ap (take n) (drop_past j past)
  ]

  pub bytes_within : (n y : ℕ) → y + n ≤ length bs → take n (drop (at + y) (put m at bs)) ≡ take n (drop y bs)
  bytes_within n y le =
      let rest = drop (at + length bs) m in
      let turn : at + y ≡ at + y = refl in
      ap (take n) (sym (drop-drop y at (put m at bs)) ∙ ap (drop y) drop_put)
      ∙ (sym (drop-take y n (bs ++ rest)) ∙ (ap (drop y) (take-append-le (y + n) bs rest le) ∙ drop-take y n bs))
