-- Numbers without an inode.
use Rattle.std.proofs.Common.{◌≡◌, ℕ, ◌+◌, ◌-◌, List, false, inl, inr, refl, ap, ◌∙◌, arith}
use Rattle.std.specs.Prelude.{is_ok}
use Rattle.std.proofs.lemmas.Bool.{cases_eq, cases_lt}
use Rattle.treefs_lookup.specs.Inodes.{inode_found}
use Rattle.treefs_lookup.specs.Leaves.{AreMissing}
use Rattle.treefs_mending.specs.Table.{AreFree}
use Rattle.treefs_mending.proofs.InTable.{missing_inode, no_inode}

module _ (content : ℕ → List ℕ) (top from : ℕ) where
  pub free_none : AreFree content top from (from - 1 + 1)
  free_none n ge lt = elim (cases_eq n 0) [
    | inl zeroth ↦ ap (λ (x : ℕ). is_ok (inode_found content top x)) zeroth ∙ ap is_ok (no_inode content top 0 refl)
    | inr other ↦ absurd (omega arith)
  ]

  -- those whose leaves are missing
  pub free_more : (next to : ℕ) → AreFree content top from (next + 1) → AreMissing content top next to → AreFree content top from (to + 1)
  free_more next to before are n ge lt = elim (cases_lt n (next + 1)) [
    | inl old ↦ before n ge old
    | inr new ↦ ap is_ok (missing_inode content top n (are (n - 1) (omega arith) (omega arith)))
  ]

  -- one that isn't found
  pub free_one : (to : ℕ) → AreFree content top from to → is_ok (inode_found content top to) ≡ false → AreFree content top from (to + 1)
  free_one to before none n ge lt = elim (cases_lt n to) [
    | inl old ↦ before n ge old
    | inr new ↦
        let same : n ≡ to = omega arith in
        ap (λ (x : ℕ). is_ok (inode_found content top x)) same ∙ none
  ]
