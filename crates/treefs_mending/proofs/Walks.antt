-- Directories that are visited, one after another.
use Rattle.std.proofs.Common.{◌≡◌, ℕ, zero, suc, ◌+◌, ◌-◌, ◌<◌, List, refl, ap, ◌∙◌, arith, Option, None, Some}
use Rattle.std.specs.Prelude.{slice_get}
use Rattle.std.specs.Option.{option_map_or}
use Rattle.treefs_format.specs.Paths.{leaf_count}
use Rattle.treefs_mending.specs.Surveys.{Directory, Survey, inode_count, visited, walked}

pub inode_count_is : inode_count ≡ leaf_count
unfolding inode_count
inode_count_is = refl

module _ (content : ℕ → List ℕ) (top : ℕ) where
  pub walk_ends : (left place : ℕ) (survey : Survey) → slice_get survey.directories place ≡ None → walked content top left place survey ≡ survey
  walk_ends zero place survey none = refl
  walk_ends (suc left) place survey none = ap (λ (o : Option Directory). option_map_or (λ d. walked content top left (place + 1) (visited content top survey d)) o survey) none

  pub walk_goes : (left place : ℕ) (survey : Survey) (directory : Directory) → 0 < left → slice_get survey.directories place ≡ Some directory →
      walked content top left place survey ≡ walked content top (left - 1) (place + 1) (visited content top survey directory)
  walk_goes zero place survey directory some is = let none : ⊥ = omega arith in absurd none
  walk_goes (suc left) place survey directory some is =
      let same : left ≡ suc left - 1 = omega arith in
      ap (λ (o : Option Directory). option_map_or (λ d. walked content top left (place + 1) (visited content top survey d)) o survey) is ∙ ap (λ (k : ℕ). walked content top k (place + 1) (visited content top survey directory)) same

  pub walk_over : (left place : ℕ) (survey : Survey) → left ≡ 0 → walked content top left place survey ≡ survey
  walk_over left place survey over = ap (λ (k : ℕ). walked content top k place survey) over
