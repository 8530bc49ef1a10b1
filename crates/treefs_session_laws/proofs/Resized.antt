-- Bytes that get a size: twice to one size is once, and where some of them are 0 then others are as before.
use Rattle.std.proofs.Common.{◌≡◌, ℕ, ◌+◌, ◌-◌, ◌<◌, List, ◌++◌, length, take, replicate, sym, ◌∙◌, ap, inl, inr, arith}
use Rattle.std.specs.Prelude.{slice_index}
use Rattle.std.proofs.lemmas.Bool.{cases_lt}
use Rattle.std.proofs.lemmas.List.{append-nil, get_or-append_right, get_or-replicate, get_or-take, get_or_append_left, get_or_past}
use Rattle.std.proofs.lemmas.List.{length-append, length-replicate, length-take-le, take_all}
use Rattle.treefs_model.specs.Changes.{resized}
use Rattle.treefs_laws.specs.Orphans.{AreCleared}

pub length_resized : (size : ℕ) (bytes : List ℕ) → length (resized size bytes) ≡ size
length_resized size bytes =
    length-append (take size bytes) (replicate (size - length bytes) 0)
    ∙ (ap (λ k. length (take size bytes) + k) (length-replicate (size - length bytes) 0) ∙ elim (cases_lt (length bytes) size) [
      | inl more ↦ let whole : length (take size bytes) ≡ length bytes = ap length (take_all size bytes (omega arith)) in omega arith
      | inr less ↦ let front = length-take-le size bytes less in omega arith
    ])

pub get_resized : (size : ℕ) (bytes : List ℕ) (i : ℕ) → i < size → slice_index (resized size bytes) i ≡ slice_index bytes i
get_resized size bytes i lt = elim (cases_lt i (length bytes)) [
  | inl within ↦
      let long : i < length (take size bytes) = elim (cases_lt (length bytes) size) [
        | inl more ↦ let whole : length (take size bytes) ≡ length bytes = ap length (take_all size bytes (omega arith)) in omega arith
        | inr less ↦ let front = length-take-le size bytes less in omega arith
      ] in
      get_or_append_left (take size bytes) (replicate (size - length bytes) 0) 0 i long ∙ get_or-take size bytes i 0 lt
  | inr past ↦
      let whole : length (take size bytes) ≡ length bytes = ap length (take_all size bytes (omega arith)) in
      get_or-append_right (take size bytes) (replicate (size - length bytes) 0) (length bytes) i 0 whole past
      ∙ (get_or-replicate (size - length bytes) (i - length bytes) 0 0 (omega arith) ∙ sym (get_or_past bytes i 0 past))
]

pub resized_twice : (size : ℕ) (bytes : List ℕ) → resized size (resized size bytes) ≡ resized size bytes
resized_twice size bytes =
    let long = length_resized size bytes in
    let none : size - length (resized size bytes) ≡ 0 = omega arith in
    ap (λ k. take size (resized size bytes) ++ replicate k 0) none
    ∙ (append-nil (take size (resized size bytes)) ∙ take_all size (resized size bytes) (omega arith))

pub resized_cleared : (size : ℕ) (bytes left : List ℕ) → AreCleared bytes left → AreCleared (resized size bytes) (resized size left)
resized_cleared size bytes left cleared = (
  length_resized size left ∙ sym (length_resized size bytes),
  λ i. elim (cases_lt i size) [
    | inl lt ↦ elim (cleared.1 i) [
      | inl same ↦ inl (get_resized size left i lt ∙ (same ∙ sym (get_resized size bytes i lt)))
      | inr none ↦ inr (get_resized size left i lt ∙ none)
    ]
    | inr past ↦ inr (get_or_past (resized size left) i 0 (let long = length_resized size left in omega arith))
  ],
)
