-- Bytes that are all 0, and pointers among them.
use Rattle.std.proofs.Common.{◌≡◌, ℕ, zero, suc, ◌+◌, ◌-◌, ◌*◌, ◌<◌, ◌≤◌, ◌==◌, Bool, true, false, List, [], ◌∷◌, ◌++◌, length, take, drop, get_or, get_or-take, get_or-drop, replicate, refl, sym, ◌∙◌, ap, inl, inr, arith, min, if◌then◌else◌}
use Rattle.std.specs.Prelude.{IsTrue, bytes_eq, ◌&&◌}
use Rattle.std.proofs.Math.Seq.{drop-append_seam}
use Rattle.std.proofs.lemmas.Bool.{cases_lt}
use Rattle.xn_model.specs.Lists.{blank}
use Rattle.xn_model.specs.Root.{word_at}
use Rattle.treefs_format.proofs.ForCallers.{blank_at}
use Rattle.treefs_format.specs.Paths.{height_of, leaf_count, leaf_offset, steps, tree_offset}
use Rattle.treefs_model.specs.Reading.{block_at, pointed}
use Rattle.treefs_lookup.specs.Trimmed.{NoneBegins, pointers_past}
use Rattle.treefs_lookup.proofs.TopPointers.{in_its_tree, own_steps}
use Rattle.treefs_lookup.proofs.Trees.{own_height}
use Rattle.treefs_lookup.proofs.Walks.{lacks_above}

pub blank_same : (xs : List ℕ) (m : ℕ) → length xs ≤ m → bytes_eq xs (take (length xs) (replicate m 0)) ≡ blank xs
blank_same [] m le = refl
blank_same (x ∷ xs) zero le = absurd (omega arith)
blank_same (x ∷ xs) (suc m) le = ap (λ t. (x == 0) && t) (blank_same xs m (omega arith))

module _ (bytes : List ℕ) (start count : ℕ) (none : IsTrue (blank (take count (drop start bytes)))) where
  zero_at : (i : ℕ) → start ≤ i → i < start + count → get_or bytes i 0 ≡ 0
  zero_at i low lt =
      let e : start + (i - start) ≡ i = omega arith in
      ap (λ k. get_or bytes k 0) (sym e) ∙ (sym (get_or-drop start bytes (i - start) 0)
      ∙ (sym (get_or-take count (drop start bytes) (i - start) 0 (omega arith)) ∙ blank_at (take count (drop start bytes)) (i - start) none))

  pub zero_word : (o : ℕ) → start ≤ o → o + 4 ≤ start + count → word_at bytes o ≡ 0
  unfolding word_at
  zero_word o low high =
      let a = get_or-take 4 (drop o bytes) 0 0 (omega arith) ∙ (get_or-drop o bytes 0 0 ∙ zero_at (o + 0) (omega arith) (omega arith)) in
      let b = get_or-take 4 (drop o bytes) 1 0 (omega arith) ∙ (get_or-drop o bytes 1 0 ∙ zero_at (o + 1) (omega arith) (omega arith)) in
      let c = get_or-take 4 (drop o bytes) 2 0 (omega arith) ∙ (get_or-drop o bytes 2 0 ∙ zero_at (o + 2) (omega arith) (omega arith)) in
      let d = get_or-take 4 (drop o bytes) 3 0 (omega arith) ∙ (get_or-drop o bytes 3 0 ∙ zero_at (o + 3) (omega arith) (omega arith)) in
      omega arith

-- where an inode has no pointer to a leaf at or past one, and none to a tree, nothing begins there
module _ (content : ℕ → List ℕ) (inode from : ℕ) (none : IsTrue (blank (pointers_past (content inode) from))) where
  no_pointer : (o : ℕ) → 48 + 4 * min from 16 ≤ o → o + 4 ≤ 128 → pointed content inode o ≡ 0
  no_pointer o low high = by (inode == 0) refl
    where
      by : (t : Bool) → (inode == 0) ≡ t → pointed content inode o ≡ 0
      by true e = ap (λ (t : Bool). if t then 0 else word_at (content inode) o) e
      by false e =
          ap (λ (t : Bool). if t then 0 else word_at (content inode) o) e
          ∙ zero_word (content inode) (48 + 4 * min from 16) (128 - (48 + 4 * min from 16)) none o low (omega arith)

  no_top : (leaf : ℕ) → from ≤ leaf → leaf < leaf_count → block_at content inode (drop (height_of leaf) (steps leaf)) ≡ 0
  no_top leaf ge lt = elim (cases_lt leaf 16) [
    | inl own ↦
        ap (λ h. block_at content inode (drop h (steps leaf))) (own_height leaf own)
        ∙ (ap (block_at content inode) (own_steps leaf own) ∙ no_pointer (leaf_offset leaf) (omega arith) (omega arith))
    | inr tree ↦
        let (nodes, is) = in_its_tree leaf tree lt in
        let low = is.low in
        let high = is.high in
        let o = tree_offset (height_of leaf) in
        let last : drop (height_of leaf) (steps leaf) ≡ o ∷ [] =
        ap (drop (height_of leaf)) is.whole ∙ (ap (λ n. drop n (nodes ++ o ∷ [])) (sym is.long) ∙ drop-append_seam nodes (o ∷ [])) in
        ap (block_at content inode) last ∙ no_pointer o (omega arith) (omega arith)
  ]

  pub none_past : NoneBegins content inode from leaf_count
  none_past leaf levels ge lt begins = begins.there (lacks_above content inode levels (height_of leaf) (steps leaf) begins.high (no_top leaf ge lt))
