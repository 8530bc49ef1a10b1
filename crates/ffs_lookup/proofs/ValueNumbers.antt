-- The number of the lowest free inode is that of the lowest free value.
use Rattle.std.proofs.Common.{◌≡◌, ℕ, ◌+◌, ◌-◌, ◌*◌, ◌/◌, ◌%◌, ◌<◌, Bool, true, false, List, map, Option, Some, None, refl, sym, ◌∙◌, ap, arith, Result, Ok, Err, ◌==◌, ◌&&◌, ◌||◌, not, find, flat_map, is_some, option_map, option_and_then, if◌then◌else◌}
use Rattle.std.specs.List.{list_any, range_with_len}
use Rattle.std.specs.Option.{option_or}
use Rattle.ffs_model.specs.Library.{inode_at, inode_links, inode_mode, pointer_word}
use Rattle.ffs_lookup.specs.declared.fault.FfsFault.{FfsFault}
use Rattle.ffs_lookup.specs.declared.fault.FfsFault.TheVariants.{NoEntry}
use Rattle.ffs_lookup.specs.Newest.{and_then, root_in, inode_block_in, has_empty_pointer, has_free_at, has_inode, is_free_inode, number_from, number_in}
use Rattle.ffs_lookup.specs.Files.{InodeValue, Absent, Free, Unusable, File, Directory, free_number, is_absent, is_free}
use Rattle.ffs_lookup.specs.FileValues.{blocks_value, bytes_value, files_of, inode_value, value_in}
use Rattle.ffs_lookup.proofs.Finds.{any_is_found, find_flat, find_map, find_on, first_found, first_on, first_test, found_holds, is_some_mapped}
use Rattle.ffs_lookup.proofs.Newest.{good_number, in_root_block}
use Rattle.ffs_lookup.proofs.Values.{value_by_place, value_there}

module _ (content : ℕ → List ℕ) (fs root : ℕ) (is : Ok root ≡ root_in content fs) where
  abbrev pointed_by : ℕ → ℕ
  pointed_by j = pointer_word (content root) j

  abbrev files : ℕ → InodeValue
  files = files_of content fs

  -- the value at a place
  pub value_at : (j p : ℕ) → j < 16 → p < 8 → files (8 * j + p + 1) ≡ (if pointed_by j == 0 then Absent else inode_value content (inode_at (content (pointed_by j)) p))
  value_at j p few few' =
      let n = 8 * j + p + 1 in
      let index : (n - 1) / 8 ≡ j = omega (arith, few, few') in
      let place : (n - 1) % 8 ≡ p = omega (arith, few, few') in
      value_by_place content fs n (good_number n (λ z. omega (arith, z)) (omega (arith, few, few')))
      ∙ (ap (λ i. value_in content (and_then (inode_block_in content fs i) (λ block. Ok (inode_at (content block) ((n - 1) % 8))))) index
      ∙ (ap (λ q. value_in content (and_then (inode_block_in content fs j) (λ block. Ok (inode_at (content block) q)))) place
      ∙ (ap (λ (r : Result ℕ FfsFault). value_in content (and_then r (λ block. Ok (inode_at (content block) p)))) (sym (in_root_block content fs j root (content root) is refl))
      ∙ go (pointed_by j == 0))))
    where
      go : (t : Bool) → value_in content (and_then (if t then Err NoEntry else Ok (pointed_by j)) (λ block. Ok (inode_at (content block) p)))
          ≡ (if t then Absent else inode_value content (inode_at (content (pointed_by j)) p))
      go true = refl
      go false = refl

  value_free : (m : List ℕ) → is_free (inode_value content m) ≡ is_free_inode m
  value_free m = go (is_free_inode m) (inode_mode m == 0) (inode_mode m == 2)
    where
      go : (a b c : Bool) → is_free (if a then Free else if b then Unusable else if c then Directory (inode_links m) (blocks_value content m) else File (inode_links m) (bytes_value content m)) ≡ a
      go true b c = refl
      go false true c = refl
      go false false true = refl
      go false false false = refl

  abbrev numbers : ℕ → List ℕ
  numbers j = map (λ p. 8 * j + p + 1) (range_with_len 0 8)

  all_numbers : range_with_len 1 128 ≡ flat_map numbers (range_with_len 0 16)
  all_numbers = refl

  -- the first free one
  abbrev is_free_at : ℕ → ℕ → Bool
  is_free_at j p = is_free_inode (inode_at (content (pointed_by j)) p)

  abbrev free_at : ℕ → Option ℕ
  free_at j = if pointed_by j == 0 then None else option_map (λ p. 8 * j + p + 1) (find (λ p. is_free_inode (inode_at (content (pointed_by j)) p)) (range_with_len 0 8))

  abbrev has_free : ℕ → Bool
  has_free j = has_free_at content (pointed_by j)

  free_there : (j : ℕ) → is_some (free_at j) ≡ has_free j
  free_there j = go (pointed_by j == 0)
    where
      go : (t : Bool) → is_some (if t then None else option_map (λ p. 8 * j + p + 1) (find (is_free_at j) (range_with_len 0 8))) ≡ (not t && list_any (is_free_at j) (range_with_len 0 8))
      go true = refl
      go false = is_some_mapped (λ p. 8 * j + p + 1) (find (is_free_at j) (range_with_len 0 8)) ∙ sym (any_is_found (is_free_at j) (range_with_len 0 8))

  free_in : (j : ℕ) → j < 16 → find (λ n. is_free (files n)) (numbers j) ≡ free_at j
  free_in j few =
      find_map (λ n. is_free (files n)) (λ p. 8 * j + p + 1) (range_with_len 0 8)
      ∙ (ap (option_map (λ p. 8 * j + p + 1)) (find_on (λ p. is_free (files (8 * j + p + 1))) (λ p. if pointed_by j == 0 then false else is_free_inode (inode_at (content (pointed_by j)) p)) 0 8 (λ p low high.
      ap is_free (value_at j p few (omega (arith, high))) ∙ one p (pointed_by j == 0)))
      ∙ go (pointed_by j == 0))
    where
      one : (p : ℕ) (t : Bool) → is_free (if t then Absent else inode_value content (inode_at (content (pointed_by j)) p)) ≡ (if t then false else is_free_inode (inode_at (content (pointed_by j)) p))
      one p true = refl
      one p false = value_free (inode_at (content (pointed_by j)) p)

      go : (t : Bool) → option_map (λ p. 8 * j + p + 1) (find (λ p. if t then false else is_free_inode (inode_at (content (pointed_by j)) p)) (range_with_len 0 8))
          ≡ (if t then None else option_map (λ p. 8 * j + p + 1) (find (λ p. is_free_inode (inode_at (content (pointed_by j)) p)) (range_with_len 0 8)))
      go true = refl
      go false = refl

  first_free : find (λ n. is_free (files n)) (range_with_len 1 128) ≡ option_and_then free_at (find has_free (range_with_len 0 16))
  first_free =
      ap (find (λ n. is_free (files n))) all_numbers
      ∙ (find_flat (λ n. is_free (files n)) numbers (range_with_len 0 16)
      ∙ (first_on (λ j. find (λ n. is_free (files n)) (numbers j)) free_at 0 16 (λ j low high. free_in j (omega (arith, high)))
      ∙ first_found free_at has_free 0 16 (λ j low high. free_there j)))

  -- the first one in no block
  absent_in : (j : ℕ) → j < 16 → find (λ n. is_absent (files n)) (numbers j) ≡ (if pointed_by j == 0 then Some (8 * j + 1) else None)
  absent_in j few =
      find_map (λ n. is_absent (files n)) (λ p. 8 * j + p + 1) (range_with_len 0 8)
      ∙ (ap (option_map (λ p. 8 * j + p + 1)) (find_on (λ p. is_absent (files (8 * j + p + 1))) (λ p. pointed_by j == 0) 0 8 (λ p low high.
      ap is_absent (value_at j p few (omega (arith, high))) ∙ one p (pointed_by j == 0)))
      ∙ go (pointed_by j == 0))
    where
      one : (p : ℕ) (t : Bool) → is_absent (if t then Absent else inode_value content (inode_at (content (pointed_by j)) p)) ≡ t
      one p true = refl
      one p false = value_there content (inode_at (content (pointed_by j)) p)

      go : (t : Bool) → option_map (λ p. 8 * j + p + 1) (find (λ p. t) (range_with_len 0 8)) ≡ (if t then Some (8 * j + 1) else None)
      go true = let z : 8 * j + 0 + 1 ≡ 8 * j + 1 = omega arith in ap (λ n. Some n) z
      go false = refl

  first_absent : find (λ n. is_absent (files n)) (range_with_len 1 128) ≡ option_map (λ j. 8 * j + 1) (find (λ j. pointed_by j == 0) (range_with_len 0 16))
  first_absent =
      ap (find (λ n. is_absent (files n))) all_numbers
      ∙ (find_flat (λ n. is_absent (files n)) numbers (range_with_len 0 16)
      ∙ (first_on (λ j. find (λ n. is_absent (files n)) (numbers j)) (λ j. if pointed_by j == 0 then Some (8 * j + 1) else None) 0 16 (λ j low high. absent_in j (omega (arith, high)))
      ∙ first_test (λ j. 8 * j + 1) (λ j. pointed_by j == 0) (range_with_len 0 16)))

  abbrev beyond : Option ℕ
  beyond = option_map (λ j. 8 * j + 1) (find (λ j. pointed_by j == 0) (range_with_len 0 16))

  by_block : (o : Option ℕ) → find has_free (range_with_len 0 16) ≡ o → number_from content root o ≡ option_or (option_and_then free_at o) beyond
  by_block None e = refl
  by_block (Some j) e = go (pointed_by j == 0) (found_holds has_free (range_with_len 0 16) j e)
    where
      inner : (o : Option ℕ) → is_some o ≡ true → option_map (λ p. 8 * j + p + 1) o ≡ option_or (option_map (λ p. 8 * j + p + 1) o) beyond
      inner None h = absurd (cc h)
      inner (Some p) h = refl

      go : (t : Bool) → not t && list_any (is_free_at j) (range_with_len 0 8) ≡ true →
          option_map (λ p. 8 * j + p + 1) (find (is_free_at j) (range_with_len 0 8)) ≡ option_or (if t then None else option_map (λ p. 8 * j + p + 1) (find (is_free_at j) (range_with_len 0 8))) beyond
      go true h = absurd (cc h)
      go false h = inner (find (is_free_at j) (range_with_len 0 8)) (sym (any_is_found (is_free_at j) (range_with_len 0 8)) ∙ h)

  pub number_is : number_in content root ≡ free_number files
  number_is =
      by_block (find has_free (range_with_len 0 16)) refl
      ∙ (ap (λ o. option_or o beyond) (sym first_free) ∙ ap (option_or (find (λ n. is_free (files n)) (range_with_len 1 128))) (sym first_absent))

  pub has_inode_is : has_inode content root ≡ is_some (free_number files)
  has_inode_is =
      ap (λ t. t || has_empty_pointer content root) (any_is_found has_free (range_with_len 0 16))
      ∙ (ap (λ t. is_some (find has_free (range_with_len 0 16)) || t) (any_is_found (λ j. pointed_by j == 0) (range_with_len 0 16))
      ∙ (go (find has_free (range_with_len 0 16)) refl ∙ ap is_some number_is))
    where
      go : (o : Option ℕ) → find has_free (range_with_len 0 16) ≡ o → is_some o || is_some (find (λ j. pointed_by j == 0) (range_with_len 0 16)) ≡ is_some (number_from content root o)
      go None e = sym (is_some_mapped (λ j. 8 * j + 1) (find (λ j. pointed_by j == 0) (range_with_len 0 16)))
      go (Some j) e = inner (pointed_by j == 0) (found_holds has_free (range_with_len 0 16) j e)
        where
          inner : (t : Bool) → not t && list_any (is_free_at j) (range_with_len 0 8) ≡ true → true ≡ is_some (option_map (λ p. 8 * j + p + 1) (find (is_free_at j) (range_with_len 0 8)))
          inner true h = absurd (cc h)
          inner false h = sym (is_some_mapped (λ p. 8 * j + p + 1) (find (is_free_at j) (range_with_len 0 8)) ∙ (sym (any_is_found (is_free_at j) (range_with_len 0 8)) ∙ h))
