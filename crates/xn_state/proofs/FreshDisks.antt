-- What a mount finds on a fresh disk.
use Rattle.std.proofs.Common.{◌≡◌, ℕ, zero, suc, ◌+◌, ◌<◌, ◌≤◌, true, false, not, ◌||◌, List, [], ◌∷◌, length, map, get_or, refl, sym, ◌∙◌, ap, arith, subst}
use Rattle.std.specs.Prelude.{All, IsTrue}
use Rattle.std.specs.List.{range_with_len}
use Rattle.std.proofs.lemmas.Bool.{and_from, ne_eqb}
use Rattle.std.proofs.lemmas.List.{length-map, get_or-map}
use Rattle.std.proofs.lemmas.List.FromFn.{length-map-range_with_len}
use Rattle.xn_model.specs.Lists.{has_number, distinct, blocks_of}
use Rattle.xn_model.specs.Types.{Types}
use Rattle.xn_model.specs.Images.{IsDiskSize, IsSound, block_of, blocks_in, joined}
use Rattle.xn_model.specs.Mounts as model
use Rattle.xn_model.specs.Mounts.{IsRecovered, lives_found}
use Rattle.xn_model.proofs.ForCallers.{blocks_read}
use Rattle.templates.specs.Templates.{TemplateValue, IsTemplate}
use Rattle.templates.specs.Tables.{table_types}
use Rattle.templates.specs.Formats.{formatted, template_found, fresh_found, table_of}
use Rattle.templates.proofs.ForCallers.{distinct_named, formatted_has_its_blocks, formatted_has_its_templates, formatted_is_found, formatted_is_sound, get_or-named, length-named, mount_recovers, named, tables_are_catalogues}
use Rattle.xn_state.specs.declared.found.Found.{Found}
use Rattle.templates.specs.Language.{types_of_image}
use Rattle.xn_state.specs.Mounts.{found_of, image_types, AreFound}
use Rattle.xn_state.proofs.Finding.{numbers}

-- the numbers of its blocks
abbrev model_numbers : List model.Found → List ℕ
model_numbers fs = map (λ f. f.block) fs

same_numbers : (fs : List Found) → model_numbers (map found_of fs) ≡ numbers fs
same_numbers [] = refl
same_numbers (f ∷ fs) = ap (λ ns. f.block ∷ ns) (same_numbers fs)

template_numbers : (is : List ℕ) → model_numbers (map template_found is) ≡ blocks_of (map (λ i. (1 + i, 1)) is)
template_numbers [] = refl
template_numbers (i ∷ is) = ap (λ ns. (1 + i) ∷ ns) (template_numbers is)

not_root : (is : List ℕ) → has_number (blocks_of (map (λ i. (1 + i, 1)) is)) 0 ≡ false
not_root [] = refl
not_root (i ∷ is) = ap (λ t. t || has_number (blocks_of (map (λ i. (1 + i, 1)) is)) 0) (ne_eqb (1 + i) 0 (λ e. absurd (omega arith))) ∙ not_root is

fresh_numbers : (n : ℕ) → model_numbers (fresh_found n) ≡ 0 ∷ blocks_of (named n)
fresh_numbers n = ap (λ ns. 0 ∷ ns) (template_numbers (range_with_len 0 n))

fresh_distinct : (n : ℕ) → distinct (0 ∷ blocks_of (named n)) ≡ true
fresh_distinct n = and_from _ _ (ap not (not_root (range_with_len 0 n))) (distinct_named n)

-- each of them is on the disk
fresh_small : (n k d : ℕ) → k < n + 1 → get_or (0 ∷ blocks_of (named n)) k d ≤ n
fresh_small n zero d lt = omega arith
fresh_small n (suc k) d lt =
    let long = length-named n in
    let is = get_or-map (λ (p : ℕ × ℕ). p.0) (named n) k (0, 0) d (omega arith) ∙ ap (λ (p : ℕ × ℕ). p.0) (get_or-named n k (0, 0) (omega arith)) in
    omega (arith, is)

length-fresh : (n : ℕ) → length (fresh_found n) ≡ n + 1
length-fresh n = let long = length-map-range_with_len template_found 0 n in omega (arith, long)

module _ (count : ℕ) (ts : List TemplateValue) (found' : List Found) (size : IsDiskSize count) (few : length ts ≤ 16) (all : All IsTemplate ts) (are : map found_of found' ≡ fresh_found (length ts)) where
  abbrev n : ℕ
  n = length ts

  abbrev T : Types
  T = table_types (table_of ts)

  abbrev image : List (List ℕ)
  image = formatted count ts

  blocks : blocks_in (joined image) ≡ image
  blocks = blocks_read image (formatted_has_its_blocks count ts size few all).1

  counted : length (blocks_in (joined image)) ≡ count
  counted = ap length blocks ∙ (formatted_has_its_blocks count ts size few all).0

  sound : IsSound T (length image) (block_of image)
  sound = subst (λ k. IsSound T k (block_of image)) (sym (formatted_has_its_blocks count ts size few all).0) (formatted_is_sound count ts size few all)

  found_numbers : numbers found' ≡ 0 ∷ blocks_of (named n)
  found_numbers = sym (same_numbers found') ∙ (ap model_numbers are ∙ fresh_numbers n)

  length-found : length found' ≡ n + 1
  length-found = sym (length-map found' found_of) ∙ (ap length are ∙ length-fresh n)

  recovered_here : IsRecovered T image (lives_found image (map found_of found'))
  recovered_here = subst (λ fs. IsRecovered T image (lives_found image fs)) (formatted_is_found count ts size few all ∙ sym are) (mount_recovers count ts size few all)

  -- the types of its image
  types_are : image_types (joined image) ≡ T
  types_are = ap types_of_image blocks ∙ (sym (tables_are_catalogues (block_of image)) ∙ ap table_types (formatted_has_its_templates count ts size few all))

  pub found_here : AreFound (joined image) found' × (image_types (joined image) ≡ T)
  found_here = (
    record {
      sound = subst (λ U. IsSound U (length (blocks_in (joined image))) (block_of (blocks_in (joined image)))) (sym types_are) (subst (λ bs. IsSound T (length bs) (block_of bs)) (sym blocks) sound);
      within = λ k d lt.
          let small = fresh_small n k 0 (omega (arith, lt, length-found)) in
          let same = sym (get_or-map (λ (f : Found). f.block) found' k d 0 lt) ∙ ap (λ ns. get_or ns k 0) found_numbers in
          let least = size.0 in
          omega (arith, small, same, counted, least, few);
      once = subst (λ ns. IsTrue (distinct ns)) (sym found_numbers) (fresh_distinct n);
      recovered = subst (λ U. IsRecovered U (blocks_in (joined image)) (lives_found (blocks_in (joined image)) (map found_of found'))) (sym types_are)
          (subst (λ bs. IsRecovered T bs (lives_found bs (map found_of found'))) (sym blocks) recovered_here);
    },
    types_are,
  )

pub fresh_disks_are_found : (count : ℕ) (templates : List TemplateValue) (found : List Found) → IsDiskSize count → length templates ≤ 16 → All IsTemplate templates →
    map found_of found ≡ fresh_found (length templates) →
    AreFound (joined (formatted count templates)) found × (image_types (joined (formatted count templates)) ≡ table_types (table_of templates))
fresh_disks_are_found = found_here
