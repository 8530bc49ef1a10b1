-- What inodes need is what the files say, and one that is repaired is as they say.
use Rattle.std.proofs.Common.{◌≡◌, ℕ, zero, suc, ◌+◌, ◌-◌, ◌/◌, ◌%◌, Bool, true, false, List, [], ◌∷◌, ◌++◌, length, map, Result, Ok, Err, refl, sym, ◌∙◌, ap, arith, ◌==◌, ◌||◌, not, nat_lt, count_by, filter_map, flat_map, if◌then◌else◌, append-nil}
use Rattle.ffs_lib.proofs.Common.{FfsFault, GiveUp, Keep, NoEntry, Repair, SetLinks, Slot, and_then, blocks_value, bytes_value, cons_option, directory_in}
use Rattle.ffs_lib.proofs.Common.{files_of, inode_at, inode_block_in, inode_in, inode_links, inode_mode, is_free_inode, map-append, mapped, name_at}
use Rattle.ffs_lib.proofs.Common.{names_in, names_of, range_with_len, repair_found, repair_in, repair_of, result_ok, slots_of, unless_unused, value_in}
use Rattle.std.proofs.lemmas.Grind.{flat_map-append}
use Rattle.ffs_lookup.specs.Counts.{names_count, numbers_of}
use Rattle.ffs_lookup.specs.Files.{Absent, Directory, Entry, File, Files, Free, Unusable, listed}
use Rattle.ffs_lookup.proofs.ForCallers.{bare_is, given_up, good_number, links_set, listed_told, value_by_place}
use Rattle.ffs_lib.specs.Reclaiming.{Repaired, name_count, need_of, needs, numbers_listed, repair_stages, repaired, stages_at, with_links}
use Rattle.ffs_lib.specs.Stages.{Stages}
use Rattle.ffs_lib.proofs.Owners.{stands_from}
use Rattle.ffs_lib.proofs.ValueSame.{same_value}
use Rattle.ffs_lib.proofs.ValueSteps.{as_value, kind, kind_is}

module _ (content : ℕ → List ℕ) (fs : ℕ) where
  abbrev files : Files
  files = files_of content fs

  told : (d : ℕ) → mapped (names_of content) (directory_in content fs d) ≡ listed files d
  unfolding names_in
  told d = listed_told content fs d

  -- How many entries name an inode

  second_of : (xs : List Slot) → map (λ (e : Slot). e.inode) xs ≡ map (λ (p : Entry). p.1) (map (λ (e : Slot). (name_at content e, e.inode)) xs)
  second_of [] = refl
  second_of (x ∷ xs) = ap (λ l. x.inode ∷ l) (second_of xs)

  numbers_are : (xs : List ℕ) → numbers_of (flat_map (slots_of content) (filter_map (λ n. result_ok (directory_in content fs n)) xs)) ≡ flat_map (λ d. numbers_listed (listed files d)) xs
  numbers_are [] = refl
  numbers_are (d ∷ xs) = go (numbers_are xs) (directory_in content fs d) (told d)
    where
      rest : List (List ℕ)
      rest = filter_map (λ n. result_ok (directory_in content fs n)) xs

      go : numbers_of (flat_map (slots_of content) rest) ≡ flat_map (λ e. numbers_listed (listed files e)) xs → (r : Result (List ℕ) FfsFault) → mapped (names_of content) r ≡ listed files d →
          numbers_of (flat_map (slots_of content) (cons_option (result_ok r) rest)) ≡ numbers_listed (listed files d) ++ flat_map (λ e. numbers_listed (listed files e)) xs
      go more (Err fault) h = more ∙ ap (λ l. numbers_listed l ++ flat_map (λ e. numbers_listed (listed files e)) xs) h
      go more (Ok inode) h =
          map-append (λ (e : Slot). e.inode) (slots_of content inode) (flat_map (slots_of content) rest)
          ∙ (ap (λ l. l ++ numbers_of (flat_map (slots_of content) rest)) (second_of (slots_of content inode))
          ∙ (ap (λ l. map (λ (p : Entry). p.1) (names_of content inode) ++ l) more ∙ ap (λ l. numbers_listed l ++ flat_map (λ e. numbers_listed (listed files e)) xs) h))

  pub count_is : (n : ℕ) → names_count content fs n ≡ name_count files n
  count_is n = ap (count_by (λ m. m == n)) (numbers_are (range_with_len 1 128))

  -- What one needs

  unused : (count n : ℕ) (fault : FfsFault) → Err fault ≡ inode_in content fs n → Keep ≡ need_of count (files_of content fs n)
  unfolding inode_in files_of
  unused count n fault e = go ((n == 0) || nat_lt 128 n) (inode_block_in content fs ((n - 1) / 8)) e
    where
      kinds : (m : List ℕ) (free none : Bool) → ◌≡◌ {A = Result (List ℕ) FfsFault} (Err fault) (if none then Err NoEntry else Ok m) →
          Keep ≡ need_of count (if free then Free else if none then Unusable else if inode_mode m == 2 then Directory (inode_links m) (blocks_value content m) else File (inode_links m) (bytes_value content m))
      kinds m true none f = refl
      kinds m false true f = refl
      kinds m false false f = absurd (cc f)

      go : (t : Bool) (r : Result ℕ FfsFault) → Err fault ≡ (if t then Err NoEntry else and_then r (λ b. unless_unused (inode_at (content b) ((n - 1) % 8)))) →
          Keep ≡ need_of count (if t then Absent else value_in content (and_then r (λ b. Ok (inode_at (content b) ((n - 1) % 8)))))
      go true r f = refl
      go false (Err x) f = refl
      go false (Ok b) f = let m = inode_at (content b) ((n - 1) % 8) in kinds m (is_free_inode m) (inode_mode m == 0) f

  abbrev by_bare : ℕ → ℕ → Bool → Repair
  by_bare count links bare = if count == 0 then (if bare then GiveUp else Keep) else if nat_lt count links then SetLinks count else Keep

  used : (count n : ℕ) (inode : List ℕ) → Ok inode ≡ inode_in content fs n → repair_of content count inode ≡ need_of count (files n)
  used count n inode e = two (inode_mode inode == 2) refl ∙ sym (ap (need_of count) (kind_is content content fs n inode e content inode e))
    where
      two : (t : Bool) → (inode_mode inode == 2) ≡ t → repair_of content count inode ≡ need_of count (kind content content fs n inode e content inode t)
      two true f = ap (λ t. by_bare count (inode_links inode) (not t || (length (slots_of content inode) == 0))) f ∙ ap (by_bare count (inode_links inode)) (bare_is content inode)
      two false f = ap (λ t. by_bare count (inode_links inode) (not t || (length (slots_of content inode) == 0))) f

  found_is : (count n : ℕ) → repair_found content count (inode_in content fs n) ≡ need_of count (files n)
  found_is count n = go (inode_in content fs n) refl
    where
      go : (r : Result (List ℕ) FfsFault) → r ≡ inode_in content fs n → repair_found content count r ≡ need_of count (files n)
      go (Err fault) e = unused count n fault e
      go (Ok inode) e = used count n inode e

  pub need_is : (n : ℕ) → repair_in content fs n ≡ needs files n
  unfolding repair_in
  need_is n = ap (λ (r : Repair). if n == 1 then Keep else r) (ap (λ c. repair_found content c (inode_in content fs n)) (count_is n) ∙ found_is (name_count files n) n)

-- One that is repaired
pub repaired_value : (u w : ℕ → List ℕ) (fs n : ℕ) (repair : Repair) → repair_in u fs n ≡ repair → Repaired u w fs n repair → files_of w fs n ≡ repaired repair (files_of u fs n)
repaired_value u w fs n Keep e x = same_value u w fs n x
repaired_value u w fs n GiveUp e x =
    let r = given_up u fs n e in
    let at = stands_from u fs n r.inode r.found in
    value_by_place w fs n (good_number n at.some at.low) ∙ ap (value_in w) x.1
repaired_value u w fs n (SetLinks links) e x =
    let r = links_set u fs n links e in
    let k = x r.inode r.found in
    as_value u w fs n r.inode r.found k.0 ∙ ap (λ l. with_links l (files_of u fs n)) k.1

-- The stages of all inodes

pub range_split : (a n m : ℕ) → range_with_len a (n + m) ≡ range_with_len a n ++ range_with_len (a + n) m
range_split a zero m =
    let e : a ≡ a + zero = omega arith in
    let k : zero + m ≡ m = omega arith in
    ap (range_with_len a) k ∙ ap (λ b. range_with_len b m) e
range_split a (suc n) m =
    let k : suc n + m ≡ suc (n + m) = omega arith in
    let e : a + 1 + n ≡ a + suc n = omega arith in
    ap (range_with_len a) k ∙ ap (λ l. a ∷ l) (range_split (a + 1) n m ∙ ap (λ b. range_with_len (a + 1) n ++ range_with_len b m) e)

pub both_none : (xs ys : Stages) → xs ++ ys ≡ [] → (xs ≡ []) × (ys ≡ [])
both_none [] ys e = (refl, e)
both_none (x ∷ xs) ys e = absurd (cc e)

pub stages_more : (files : Files) (done next : ℕ) → next ≡ done + 1 → flat_map (stages_at files) (range_with_len 1 next) ≡ flat_map (stages_at files) (range_with_len 1 done) ++ stages_at files next
stages_more files done next is =
    let e : 1 + done ≡ next = omega (arith, is) in
    ap (λ k. flat_map (stages_at files) (range_with_len 1 k)) is
    ∙ (ap (flat_map (stages_at files)) (range_split 1 done 1)
    ∙ (flat_map-append (stages_at files) (range_with_len 1 done) (range_with_len (1 + done) 1)
    ∙ ap (λ l. flat_map (stages_at files) (range_with_len 1 done) ++ l) (ap (λ k. flat_map (stages_at files) (k ∷ [])) e ∙ append-nil (stages_at files next))))

pub none_kept : (files : Files) (n : ℕ) (repair : Repair) → repair_stages files n repair ≡ [] → repair ≡ Keep
none_kept files n Keep e = refl
none_kept files n GiveUp e = absurd (cc e)
none_kept files n (SetLinks links) e = absurd (cc e)
