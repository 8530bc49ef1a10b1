-- Names are good where no inode has more names than links.
use Rattle.std.proofs.Common.{◌≡◌, ◌≢◌, ℕ, suc, ◌+◌, ◌-◌, ◌*◌, ◌/◌, ◌%◌, ◌<◌, ◌≤◌, inl, inr, Bool, true, false, cond, List, [], ◌∷◌, map, length, Option, Some, None, refl, sym, ◌∙◌, ap, arith, subst, Contains, Result, Ok, Err, ◌==◌, nat_lt, filter, filter_map, flat_map, if◌then◌else◌, eq-eqb, le-ltb, lt-ltb, ne_eqb}
use Rattle.ffs_lib.proofs.Common.{Contains-append_left, Contains-append_right, FfsFault, HasLinks, IsInodes, LeavesRoom, LinksGood, Names, Slot, cases_lt}
use Rattle.ffs_lib.proofs.Common.{cons_option, half_at, inode_at, inode_blocks, inode_links, inode_mode, library_layout, range_with_len, result_ok}
use Rattle.std.proofs.lemmas.List.Sums.{length-filter}
use Rattle.xn_model.proofs.ForCallers.{Contains-cons, Contains-head, Contains-none, Contains-tail, filter_from}
use Rattle.ffs_model.proofs.ForCallers.{blocks_read, links_read, mode_read, one_more}
use Rattle.ffs_lookup.specs.Newest.{directory_in, slots_in_block, slots_of, entry_at, inode_in, used_entry}
use Rattle.ffs_lookup.specs.Counts.{all_entries, directory_inodes_in, is_over, links_in, links_or_none, named_numbers, names_count, numbers_of, over_named}
use Rattle.ffs_lookup.proofs.ForCallers.{directory_is, in_directory, least_none}
use Rattle.ffs_lib.proofs.Owners.{stands_from, stands_to}
use Rattle.ffs_lib.proofs.Tops.{among}

-- Lists

pub map_has : {A B : Type 0} (f : A → B) (xs : List A) (x : A) → Contains xs x → Contains (map f xs) (f x)
map_has f [] x i = absurd (Contains-none x i)
map_has f (y ∷ xs) x i = elim (Contains-cons y xs x i) [
  | inl e ↦ subst (λ z. Contains (map f (y ∷ xs)) (f z)) e (Contains-head (f y) (map f xs))
  | inr j ↦ Contains-tail (f y) (map f xs) (f x) (map_has f xs x j)
]

filter_map_has : {A B : Type 0} (f : A → Option B) (xs : List A) (x : A) (y : B) → Contains xs x → f x ≡ Some y → Contains (filter_map f xs) y
filter_map_has f [] x y i e = absurd (Contains-none x i)
filter_map_has {A} {B} f (z ∷ xs) x y i e = elim (Contains-cons z xs x i) [
  | inl s ↦ subst (λ o. Contains (cons_option o (filter_map f xs)) y) (sym (ap f s ∙ e)) (Contains-head y (filter_map f xs))
  | inr j ↦ behind (f z) (filter_map_has f xs x y j e)
]
  where
    behind : (o : Option B) → Contains (filter_map f xs) y → Contains (cons_option o (filter_map f xs)) y
    behind None h = h
    behind (Some w) h = Contains-tail w (filter_map f xs) y h

flat_map_has : {A B : Type 0} (f : A → List B) (xs : List A) (x : A) (y : B) → Contains xs x → Contains (f x) y → Contains (flat_map f xs) y
flat_map_has f [] x y i j = absurd (Contains-none x i)
flat_map_has f (z ∷ xs) x y i j = elim (Contains-cons z xs x i) [
  | inl s ↦ Contains-append_left (f z) (flat_map f xs) y (subst (λ w. Contains (f w) y) (sym s) j)
  | inr k ↦ Contains-append_right (f z) (flat_map f xs) y (flat_map_has f xs x y k j)
]

-- there are at most as many distinct slots in a list as it is long
within : (xs : List (ℕ × ℕ)) → LeavesRoom 0 (length xs) (λ y. Contains xs y)
within [] = none
  where
    none : LeavesRoom 0 0 (λ y. Contains {X = ℕ × ℕ} [] y)
    none [] d all = omega arith
    none (y ∷ ys) d all = absurd (Contains-none y (all y (Contains-head y ys)))
within (x ∷ xs) = one_more (suc (length xs)) (λ y. Contains xs y) (λ y. Contains (x ∷ xs) y) x
    (λ y i. elim (Contains-cons x xs y i) [ inl e ↦ inr (sym e) | inr j ↦ inl j ])
    (λ ys d all. let le = within xs ys d all in omega (arith, le))

-- What is read where a test is passed

under_test : (t : Bool) (v n : ℕ) → (if t then v else 0) ≡ n → n ≢ 0 → (t ≡ true) × (v ≡ n)
under_test true v n e ne = (refl, e)
under_test false v n e ne = absurd (ne (sym e))

is_less : (a b : ℕ) → nat_lt a b ≡ true → a < b
is_less a b e = elim (cases_lt a b) [ inl lt ↦ lt | inr ge ↦ absurd (no (sym (le-ltb a b ge) ∙ e)) ]
  where
    no : false ≡ true → ⊥
    no f = cc

-- A slot that names an inode is an entry of a directory

module _ (content : ℕ → List ℕ) (fs n : ℕ) (y : ℕ × ℕ) (some : n ≢ 0) (x : Names library_layout content fs n y) where
  index_few : x.index < 16
  index_few = is_less x.index 16 (under_test (nat_lt x.index 16) _ x.block x.inodes.points x.inodes.there).0

  place_few : x.place < 8
  place_few = is_less x.place 8 (under_test (nat_lt x.place 8) _ 2 x.directory (λ z. absurd (omega (arith, z)))).0

  abbrev number : ℕ
  number = 8 * x.index + x.place + 1

  abbrev inode : List ℕ
  inode = inode_at (content x.block) x.place

  at_index : (number - 1) / 8 ≡ x.index
  at_index = let few = place_few in omega (arith, few)

  at_place : (number - 1) % 8 ≡ x.place
  at_place = let few = place_few in omega (arith, few)

  is_directory : inode_mode inode ≡ 2
  is_directory = sym (mode_read (content x.block) x.place place_few) ∙ x.directory

  found : Ok inode ≡ directory_in content fs number
  found =
      directory_is inode is_directory ∙ in_directory content fs number (Ok inode) (stands_to content fs number inode (record {
        some = λ z. absurd (omega (arith, z));
        low = omega (arith, index_few, place_few);
        block = x.block;
        inodes = subst (λ j. IsInodes library_layout content fs j x.block) (sym at_index) x.inodes;
        bytes = ap (inode_at (content x.block)) (sym at_place);
        used = λ z. absurd (omega (arith, is_directory, z));
      }))

  abbrev slot : Slot
  slot = record { block = y.0; place = y.1; inode = n }

  pub slot_among : Contains (all_entries content fs) slot
  slot_among =
      let read = under_test (nat_lt y.1 16) (half_at (content y.0) (32 * y.1)) n x.names some in
      let there : Contains (directory_inodes_in content fs) inode =
      filter_map_has (λ k. result_ok (directory_in content fs k)) (range_with_len 1 128) number inode (among 128 1 number (omega arith) (omega (arith, index_few, place_few))) (ap result_ok (sym found)) in
      let has : Contains (inode_blocks inode) y.0 = subst (λ xs. Contains xs y.0) (blocks_read (content x.block) x.place place_few) x.has in
      let is : used_entry (entry_at content y.0 y.1) ≡ Some slot =
      ap (λ (t : Bool). if t then None else Some (entry_at content y.0 y.1)) (ne_eqb (half_at (content y.0) (32 * y.1)) 0 (λ z. some (sym read.1 ∙ z)))
      ∙ ap (λ k. Some (record { block = y.0; place = y.1; inode = k })) read.1 in
      flat_map_has (slots_of content) (directory_inodes_in content fs) inode slot there
      (flat_map_has (slots_in_block content) (inode_blocks inode) y.0 slot has
      (filter_map_has (λ place. used_entry (entry_at content y.0 place)) (range_with_len 0 16) y.1 slot (among 16 0 y.1 (omega arith) (is_less y.1 16 read.0)) is))

-- How many there are

abbrev pub place_of : Slot → ℕ × ℕ
place_of entry = (entry.block, entry.place)

abbrev pub places_naming : List Slot → ℕ → List (ℕ × ℕ)
places_naming entries n = map place_of (filter (λ entry. entry.inode == n) entries)

both_step : (t : Bool) (m : ℕ) (ms : List ℕ) (e : Slot) (es : List Slot) → length ms ≡ length (map {B = ℕ × ℕ} place_of es) → length (cond t (m ∷ ms) ms) ≡ length (map {B = ℕ × ℕ} place_of (cond t (e ∷ es) es))
both_step true m ms e es h = ap suc h
both_step false m ms e es h = h

both_lengths : (entries : List Slot) (n : ℕ) → length (filter (λ m. m == n) (numbers_of entries)) ≡ length (places_naming entries n)
both_lengths [] n = refl
both_lengths (e ∷ es) n = both_step (e.inode == n) e.inode (filter (λ m. m == n) (numbers_of es)) e (filter (λ entry. entry.inode == n) es) (both_lengths es n)

pub places_count : (content : ℕ → List ℕ) (fs n : ℕ) → length (places_naming (all_entries content fs) n) ≡ names_count content fs n
places_count content fs n = sym (both_lengths (all_entries content fs) n) ∙ length-filter (λ m. m == n) (named_numbers content fs)

module _ (content : ℕ → List ℕ) (fs : ℕ) where
  -- distinct slots that name an inode are no more than are counted
  pub names_within : (n : ℕ) → n ≢ 0 → LeavesRoom 0 (names_count content fs n) (Names library_layout content fs n)
  names_within n some ys d all =
      let le = within (places_naming (all_entries content fs) n) ys d (λ y i.
      let x = all y i in
      map_has place_of (filter (λ entry. entry.inode == n) (all_entries content fs)) (slot content fs n y some x)
      (filter_from (λ entry. entry.inode == n) (all_entries content fs) (slot content fs n y some x) (slot_among content fs n y some x) (eq-eqb n n refl))) in
      omega (arith, places_count content fs n, le)

  module _ (none : over_named content fs ≡ None) where
    no_filter : filter (is_over content fs) (named_numbers content fs) ≡ []
    unfolding over_named
    no_filter = least_none (filter (is_over content fs) (named_numbers content fs)) none

    no_over : (n : ℕ) → Contains (named_numbers content fs) n → names_count content fs n ≤ links_in content fs n
    no_over n i = elim (cases_lt (links_in content fs n) (names_count content fs n)) [
      | inl lt ↦
          absurd (Contains-none n (subst (λ xs. Contains xs n) no_filter
          (filter_from (is_over content fs) (named_numbers content fs) n i (lt-ltb (links_in content fs n) (names_count content fs n) lt))))
      | inr ge ↦ ge
    ]

    pub counted_good : LinksGood library_layout content fs
    counted_good n y some x = go (inode_in content fs n) refl
      where
        enough : LeavesRoom 0 (links_in content fs n) (Names library_layout content fs n)
        enough ys d all =
            let named = map_has (λ (entry : Slot). entry.inode) (all_entries content fs) (slot content fs n y some x) (slot_among content fs n y some x) in
            omega (arith, no_over n named, names_within n some ys d all)

        one : 1 ≤ links_in content fs n
        one = let few = enough (y ∷ []) (λ i. Contains-none y i, tt) (λ z i. elim (Contains-cons y [] z i) [ inl e ↦ subst (Names library_layout content fs n) e x | inr j ↦ absurd (Contains-none z j) ]) in omega (arith, few)

        go : (r : Result (List ℕ) FfsFault) → inode_in content fs n ≡ r → HasLinks library_layout content fs n
        go (Err fault) e = let none = ap links_or_none e in let some' = one in absurd (omega (arith, none, some'))
        go (Ok found) e =
            let s = stands_from content fs n found (sym e) in
            let low : (n - 1) % 8 < 8 = omega arith in
            let links : links_in content fs n ≡ library_layout.links (content s.block) ((n - 1) % 8) =
            ap links_or_none e ∙ (ap inode_links s.bytes ∙ sym (links_read (content s.block) ((n - 1) % 8) low)) in
            record {
              block = s.block;
              inodes = s.inodes;
              used = λ z. s.used (ap inode_mode s.bytes ∙ (sym (mode_read (content s.block) ((n - 1) % 8) low) ∙ z));
              enough = subst (λ k. LeavesRoom 0 k (Names library_layout content fs n)) links enough;
            }
