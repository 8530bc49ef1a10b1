-- What is counted of the entries of directories, one after another.
use Rattle.std.proofs.Common.{◌≡◌, ℕ, replicate, suc, ◌+◌, ◌-◌, ◌*◌, ◌<◌, ◌≤◌, ◌≢◌, inl, inr, Bool, true, false, cond, List, [], ◌∷◌, ◌++◌, length, set, get_or, Option, Some, None, refl, sym, ◌∙◌, ap, arith, subst, eq-eqb, Result, Ok, Err, Contains, ◌==◌, nat_lt, min, count_by, filter, filter_map, flat_map, if◌then◌else◌}
use Rattle.std.specs.List.{range_with_len, cons_option}
use Rattle.std.specs.Result.{result_ok}
use Rattle.std.proofs.lemmas.Bool.{cases_eq, cases_lt, eqb-true, le-ltb, lt-ltb, ne_eqb}
use Rattle.std.proofs.lemmas.List.{append-nil, get_or-replicate, length-replicate, get_or-set_other, get_or-set_same, length-set, map-append}
use Rattle.std.proofs.lemmas.List.Concat.{flat_map-append}
use Rattle.std.proofs.lemmas.List.Elements.{Contains-push_cases, filter-append, filter_map-append}
use Rattle.std.proofs.lemmas.List.Sums.{length-filter, sum_by-append}
use Rattle.xn_model.proofs.ForCallers.{Contains-head, Contains-none, Contains-tail, Contains-cons, filter_at, filter_from}
use Rattle.ffs_model.specs.Library.{half_at}
use Rattle.ffs_format.specs.Fields.{direct_in}
use Rattle.ffs_lookup.specs.declared.fault.FfsFault.{FfsFault}
use Rattle.ffs_lookup.specs.declared.places.Slot.{Slot}
use Rattle.ffs_lookup.specs.declared.counts.NameCounts.{NameCounts}
use Rattle.ffs_lookup.specs.Newest.{directory_in, slots_in_block, slots_of, entry_at, used_entry}
use Rattle.ffs_lookup.specs.Counts.{AreCounts, is_over, least, least_with, links_in, links_or_none, named, named_numbers, names_count, numbers_at, numbers_in, numbers_of, over_named}
use Rattle.ffs_lookup.proofs.Newest.{bad_number, no_number}
use Rattle.ffs_lookup.proofs.Walks.{entries_more, entries_past, first_entries, range_more}

-- The least number

least_swapped : (x y : ℕ) (o : Option ℕ) → least_with y (least_with x o) ≡ least_with x (least_with y o)
least_swapped x y None = ap (λ z. Some z) (omega arith)
least_swapped x y (Some z) = ap (λ w. Some w) (omega arith)

pub least_pushed : (xs : List ℕ) (x : ℕ) → least (xs ++ x ∷ []) ≡ least_with x (least xs)
least_pushed [] x = refl
least_pushed (y ∷ xs) x = ap (least_with y) (least_pushed xs x) ∙ least_swapped x y (least xs)

some_least : (x : ℕ) (o : Option ℕ) → least_with x o ≡ None → ⊥
some_least x None e = cc
some_least x (Some y) e = cc

pub least_none : (xs : List ℕ) → least xs ≡ None → xs ≡ []
least_none [] e = refl
least_none (x ∷ xs) e = absurd (some_least x (least xs) e)

least_among : (ys : List ℕ) (w : ℕ) → least ys ≡ Some w → Contains ys w
least_among [] w e = absurd (cc e)
least_among (y ∷ ys) w e = go (least ys) refl e (least_among ys)
  where
    go : (o : Option ℕ) → least ys ≡ o → least_with y o ≡ Some w → ((v : ℕ) → least ys ≡ Some v → Contains ys v) → Contains (y ∷ ys) w
    go None f g behind = let same : y ≡ w = cc in subst (λ v. Contains (y ∷ ys) v) same (Contains-head y ys)
    go (Some v) f g behind =
        let same : min y v ≡ w = cc in
        elim (cases_lt y v) [
          | inl lt ↦ let k : y ≡ w = omega (arith, same, lt) in subst (λ u. Contains (y ∷ ys) u) k (Contains-head y ys)
          | inr ge ↦ let k : v ≡ w = omega (arith, same, ge) in Contains-tail y ys w (behind w (f ∙ ap (λ u. Some u) k))
        ]

pub least_is : (xs : List ℕ) (x : ℕ) → Contains xs x → ((y : ℕ) → Contains xs y → x ≤ y) → least xs ≡ Some x
least_is [] x i low = absurd (Contains-none x i)
least_is (z ∷ xs) x i low = elim (Contains-cons z xs x i) [
  | inl e ↦ here (least xs) refl e
  | inr j ↦
      ap (least_with z) (least_is xs x j (λ y k. low y (Contains-tail z xs y k))) ∙ ap (λ w. Some w) (omega (arith, low z (Contains-head z xs)))
]
  where
    here : (o : Option ℕ) → least xs ≡ o → z ≡ x → least_with z o ≡ Some x
    here None f e = ap (λ w. Some w) e
    here (Some v) f e = let le = low v (Contains-tail z xs v (least_among xs v f)) in ap (λ w. Some w) (omega (arith, le, e))

-- Numbers of entries

no_name : (n : ℕ) → n ≡ 0 → named n ≡ []
no_name n e = ap (λ (t : Bool). if t then [] else n ∷ []) (eq-eqb n 0 e)

a_name : (n : ℕ) → n ≢ 0 → named n ≡ n ∷ []
a_name n ne = ap (λ (t : Bool). if t then [] else n ∷ []) (ne_eqb n 0 ne)

count_pushed : (numbers : List ℕ) (n i : ℕ) → count_by (λ m. m == i) (numbers ++ n ∷ []) ≡ count_by (λ m. m == i) numbers + cond (n == i) 1 0
count_pushed numbers n i = omega (arith, sum_by-append (λ m. cond (m == i) 1 0) numbers (n ∷ []))

pub none_counted : AreCounts [] (record { each = replicate 128 0; past = None })
none_counted = record {
  some = λ n i. absurd (Contains-none n i);
  long = length-replicate {A = ℕ} 128 0;
  each = λ i lt. get_or-replicate 128 i 0 0 lt;
  past = refl;
}

module _ (numbers : List ℕ) (counts : NameCounts) (a : AreCounts numbers counts) where
  pub nothing_added : (n : ℕ) → n ≡ 0 → AreCounts (numbers ++ named n) counts
  nothing_added n e = subst (λ xs. AreCounts xs counts) (sym (ap (λ xs. numbers ++ xs) (no_name n e) ∙ append-nil numbers)) a

  some_still : (n : ℕ) → n ≢ 0 → (x : ℕ) → Contains (numbers ++ n ∷ []) x → x ≢ 0
  some_still n ne x i = elim (Contains-push_cases numbers n x i) [ inl j ↦ a.some x j | inr e ↦ λ z. ne (e ∙ z) ]

  pub low_added : (n at : ℕ) → n ≢ 0 → at ≡ n - 1 → at < 128 → (each : List ℕ) → each ≡ set counts.each at (min (get_or counts.each at 0 + 1) 4294967295) →
      AreCounts (numbers ++ named n) (record counts { each = each })
  low_added n at ne is low each set_is =
      subst (λ xs. AreCounts (numbers ++ xs) (record counts { each = each })) (sym (a_name n ne))
      (record {
        some = some_still n ne;
        long = ap length set_is ∙ (length-set counts.each at (min (get_or counts.each at 0 + 1) 4294967295) ∙ a.long);
        each = λ i lt. ap (λ xs. get_or xs i 0) set_is ∙ elim (cases_eq i at) [
          | inl e ↦
              let was = a.each at low in
              let one : n ≡ at + 1 = omega (arith, is, ne) in
              let more : count_by (λ m. m == at + 1) (numbers ++ n ∷ []) ≡ count_by (λ m. m == at + 1) numbers + 1 =
              count_pushed numbers n (at + 1) ∙ ap (λ (t : Bool). count_by (λ m. m == at + 1) numbers + cond t 1 0) (eq-eqb n (at + 1) one) in
              let there : get_or (set counts.each at (min (get_or counts.each at 0 + 1) 4294967295)) at 0 ≡ min (get_or counts.each at 0 + 1) 4294967295 = get_or-set_same counts.each at (min (get_or counts.each at 0 + 1) 4294967295) 0 (omega (arith, a.long, low)) in
              let now : get_or (set counts.each at (min (get_or counts.each at 0 + 1) 4294967295)) at 0 ≡ min (count_by (λ m. m == at + 1) (numbers ++ n ∷ [])) 4294967295 = omega (arith, there, was, more) in
              subst (λ k. get_or (set counts.each at (min (get_or counts.each at 0 + 1) 4294967295)) k 0 ≡ min (count_by (λ m. m == k + 1) (numbers ++ n ∷ [])) 4294967295) (sym e) now
          | inr other ↦
              let apart : n ≢ i + 1 = λ z. other (omega (arith, is, z)) in
              let same : count_by (λ m. m == i + 1) (numbers ++ n ∷ []) ≡ count_by (λ m. m == i + 1) numbers + 0 =
              count_pushed numbers n (i + 1) ∙ ap (λ (t : Bool). count_by (λ m. m == i + 1) numbers + cond t 1 0) (ne_eqb n (i + 1) apart) in
              omega (arith, get_or-set_other counts.each at i (min (get_or counts.each at 0 + 1) 4294967295) 0 other, a.each i lt, same)
        ];
        past =
            let le : n ≤ 128 = omega (arith, is, low) in
            a.past ∙ sym (ap least (filter-append (nat_lt 128) numbers (n ∷ [])
            ∙ (ap (λ (t : Bool). filter (nat_lt 128) numbers ++ cond t (n ∷ []) []) (le-ltb 128 n le) ∙ append-nil (filter (nat_lt 128) numbers))));
      })

  pub high_added : (n : ℕ) → 128 < n → (v : ℕ) → Some v ≡ least_with n counts.past → AreCounts (numbers ++ named n) (record counts { past = Some v })
  high_added n high v is =
      let ne : n ≢ 0 = λ z. absurd (omega (arith, high, z)) in
      subst (λ xs. AreCounts (numbers ++ xs) (record counts { past = Some v })) (sym (a_name n ne))
      (record {
        some = some_still n ne;
        long = a.long;
        each = λ i lt.
            let same : count_by (λ m. m == i + 1) (numbers ++ n ∷ []) ≡ count_by (λ m. m == i + 1) numbers + 0 =
            count_pushed numbers n (i + 1) ∙ ap (λ (t : Bool). count_by (λ m. m == i + 1) numbers + cond t 1 0) (ne_eqb n (i + 1) (λ z. absurd (omega (arith, high, lt, z)))) in
            omega (arith, a.each i lt, same);
        past = is ∙ (ap (least_with n) a.past ∙ (sym (least_pushed (filter (nat_lt 128) numbers) n)
            ∙ sym (ap least (filter-append (nat_lt 128) numbers (n ∷ []) ∙ ap (λ (t : Bool). filter (nat_lt 128) numbers ++ cond t (n ∷ []) []) (lt-ltb 128 n high)))));
      })

-- A block's, place after place

pub numbers_more : (m : List ℕ) (n k : ℕ) → n + 1 ≡ k → numbers_at m (range_with_len 0 k) ≡ numbers_at m (range_with_len 0 n) ++ named (half_at m (32 * n))
numbers_more m n k s =
    let e : k ≡ suc n = omega (arith, s) in
    let z : 0 + n ≡ n = omega arith in
    ap (λ x. numbers_at m (range_with_len 0 x)) e ∙ (ap (numbers_at m) (range_more 0 n ∙ ap (λ x. range_with_len 0 n ++ x ∷ []) z)
    ∙ (flat_map-append (λ place. named (half_at m (32 * place))) (range_with_len 0 n) (n ∷ []) ∙ ap (λ xs. numbers_at m (range_with_len 0 n) ++ xs) (append-nil (named (half_at m (32 * n))))))

entry_step : (content : ℕ → List ℕ) (b x : ℕ) (rest : List Slot) (empty : Bool) →
    numbers_of (cons_option (if empty then None else Some (entry_at content b x)) rest) ≡ (if empty then [] else half_at (content b) (32 * x) ∷ []) ++ numbers_of rest
entry_step content b x rest true = refl
entry_step content b x rest false = refl

entry_numbers : (content : ℕ → List ℕ) (b : ℕ) (xs : List ℕ) → numbers_of (filter_map (λ place. used_entry (entry_at content b place)) xs) ≡ numbers_at (content b) xs
entry_numbers content b [] = refl
entry_numbers content b (x ∷ xs) =
    entry_step content b x (filter_map (λ place. used_entry (entry_at content b place)) xs) (half_at (content b) (32 * x) == 0)
    ∙ ap (λ ys. named (half_at (content b) (32 * x)) ++ ys) (entry_numbers content b xs)

-- A directory's, pointer after pointer

abbrev pub first_numbers : (ℕ → List ℕ) → List ℕ → ℕ → List ℕ
first_numbers content inode n = numbers_of (first_entries content inode n)

module _ (content : ℕ → List ℕ) (inode : List ℕ) (n m : ℕ) (s : n + 1 ≡ m) where
  pub directory_past : direct_in inode n ≡ 0 → first_numbers content inode m ≡ first_numbers content inode n
  directory_past e = ap numbers_of (entries_past content inode n m s e)

  pub directory_more : (b : ℕ) (bytes : List ℕ) → direct_in inode n ≡ b → b ≢ 0 → content b ≡ bytes → first_numbers content inode m ≡ first_numbers content inode n ++ numbers_in bytes
  directory_more b bytes e there are =
      ap numbers_of (entries_more content inode n m b s e there)
      ∙ (map-append (λ (entry : Slot). entry.inode) (first_entries content inode n) (slots_in_block content b)
      ∙ ap (λ xs. first_numbers content inode n ++ xs) (entry_numbers content b (range_with_len 0 16) ∙ ap numbers_in are))

-- A file system's, number after number

abbrev pub numbers_below : (ℕ → List ℕ) → ℕ → ℕ → List ℕ
numbers_below content fs k = numbers_of (flat_map (slots_of content) (filter_map (λ n. result_ok (directory_in content fs n)) (range_with_len 1 k)))

module _ (content : ℕ → List ℕ) (fs n k : ℕ) (s : n + 1 ≡ k) where
  below_more : numbers_below content fs k ≡ numbers_below content fs n ++ numbers_of (flat_map (slots_of content) (cons_option (result_ok (directory_in content fs k)) []))
  below_more =
      let e : k ≡ suc n = omega (arith, s) in
      let z : 1 + n ≡ k = omega (arith, s) in
      let f = λ (x : ℕ). result_ok (directory_in content fs x) in
      ap (numbers_below content fs) e
      ∙ (ap (λ xs. numbers_of (flat_map (slots_of content) (filter_map f xs))) (range_more 1 n ∙ ap (λ x. range_with_len 1 n ++ x ∷ []) z)
      ∙ (ap (λ xs. numbers_of (flat_map (slots_of content) xs)) (filter_map-append f (range_with_len 1 n) (k ∷ []))
      ∙ (ap numbers_of (flat_map-append (slots_of content) (filter_map f (range_with_len 1 n)) (cons_option (f k) []))
      ∙ map-append (λ (entry : Slot). entry.inode) (flat_map (slots_of content) (filter_map f (range_with_len 1 n))) (flat_map (slots_of content) (cons_option (f k) [])))))

  pub no_directory : (fault : FfsFault) → Err fault ≡ directory_in content fs k → numbers_below content fs k ≡ numbers_below content fs n
  no_directory fault e =
      below_more ∙ (ap (λ (r : Result (List ℕ) FfsFault). numbers_below content fs n ++ numbers_of (flat_map (slots_of content) (cons_option (result_ok r) []))) (sym e) ∙ append-nil (numbers_below content fs n))

  pub a_directory : (inode : List ℕ) → Ok inode ≡ directory_in content fs k → numbers_below content fs k ≡ numbers_below content fs n ++ numbers_of (slots_of content inode)
  a_directory inode e =
      below_more
      ∙ (ap (λ (r : Result (List ℕ) FfsFault). numbers_below content fs n ++ numbers_of (flat_map (slots_of content) (cons_option (result_ok r) []))) (sym e)
      ∙ ap (λ xs. numbers_below content fs n ++ numbers_of xs) (append-nil (slots_of content inode)))

-- Which inode has too few links

counted : (numbers : List ℕ) (n : ℕ) → 0 < count_by (λ m. m == n) numbers → Contains numbers n
counted numbers n some = go (filter (λ m. m == n) numbers) refl
  where
    go : (xs : List ℕ) → filter (λ m. m == n) numbers ≡ xs → Contains numbers n
    go [] e = let none = sym (length-filter (λ m. m == n) numbers) ∙ ap length e in absurd (omega (arith, some, none))
    go (x ∷ xs) e =
        let r = filter_at (λ m. m == n) numbers x (subst (λ ys. Contains ys x) (sym e) (Contains-head x xs)) in
        subst (Contains numbers) (eqb-true x n r.1) r.0

pub contained : (numbers : List ℕ) (n : ℕ) → Contains numbers n → 0 < count_by (λ m. m == n) numbers
contained numbers n i = go (filter (λ m. m == n) numbers) refl
  where
    go : (xs : List ℕ) → filter (λ m. m == n) numbers ≡ xs → 0 < count_by (λ m. m == n) numbers
    go [] e = absurd (Contains-none n (subst (λ ys. Contains ys n) e (filter_from (λ m. m == n) numbers n i (eq-eqb n n refl))))
    go (x ∷ xs) e = let some = sym (length-filter (λ m. m == n) numbers) ∙ ap length e in omega (arith, some)

-- past 128 no inode has a link
pub no_links : (content : ℕ → List ℕ) (fs n : ℕ) → 128 < n → links_in content fs n ≡ 0
no_links content fs n high = ap links_or_none (sym (no_number content fs n (bad_number n (inr ((λ z. absurd (omega (arith, high, z))), high)))))

filter_same : (p q : ℕ → Bool) (xs : List ℕ) → ((x : ℕ) → Contains xs x → p x ≡ q x) → filter p xs ≡ filter q xs
filter_same p q [] same = refl
filter_same p q (x ∷ xs) same =
    ap (λ (t : Bool). cond t (x ∷ filter p xs) (filter p xs)) (same x (Contains-head x xs))
    ∙ ap (λ ys. cond (q x) (x ∷ ys) ys) (filter_same p q xs (λ y i. same y (Contains-tail x xs y i)))

-- the first of them have links for their names
abbrev pub Enough : (ℕ → List ℕ) → ℕ → NameCounts → ℕ → Type 0
Enough content fs counts n = (j : ℕ) → j < n → (get_or counts.each j 0 ≤ links_in content fs (j + 1)) × (links_in content fs (j + 1) < 65536)

module _ (content : ℕ → List ℕ) (fs : ℕ) (counts : NameCounts) (a : AreCounts (named_numbers content fs) counts) where
  not_over : (i : ℕ) → i < 128 → get_or counts.each i 0 ≤ links_in content fs (i + 1) → links_in content fs (i + 1) < 4294967295 → is_over content fs (i + 1) ≡ false
  not_over i lt le few =
      le-ltb (links_in content fs (i + 1)) (names_count content fs (i + 1)) (omega (arith, a.each i lt, le, few))

  enough_none : (n : ℕ) → n ≤ 128 → Enough content fs counts n → (y : ℕ) → y ≢ 0 → y ≤ n → is_over content fs y ≡ false
  enough_none n most enough y some low =
      let p : y - 1 + 1 ≡ y = omega (arith, some) in
      let r = enough (y - 1) (omega (arith, some, low)) in
      subst (λ z. is_over content fs z ≡ false) p (not_over (y - 1) (omega (arith, some, low, most)) r.0 (omega (arith, r.1)))

  pub over_found : (i : ℕ) → i < 128 → Enough content fs counts i → links_in content fs (i + 1) < get_or counts.each i 0 → over_named content fs ≡ Some (i + 1)
  unfolding over_named
  over_found i lt before over =
      let n = i + 1 in
      let more : links_in content fs n < names_count content fs n = omega (arith, a.each i lt, over) in
      let is : is_over content fs n ≡ true = lt-ltb (links_in content fs n) (names_count content fs n) more in
      let there : Contains (named_numbers content fs) n = counted (named_numbers content fs) n (omega (arith, more)) in
      least_is (filter (is_over content fs) (named_numbers content fs)) n (filter_from (is_over content fs) (named_numbers content fs) n there is)
      (λ y j.
      let r = filter_at (is_over content fs) (named_numbers content fs) y j in
      elim (cases_lt y n) [
        | inl less ↦ absurd (no (sym (enough_none i (omega (arith, lt)) before y (a.some y r.0) (omega (arith, less))) ∙ r.1))
        | inr ge ↦ ge
      ])
    where
      no : false ≡ true → ⊥
      no e = cc

  pub over_past : Enough content fs counts 128 → over_named content fs ≡ counts.past
  unfolding over_named
  over_past all =
      ap least (filter_same (is_over content fs) (nat_lt 128) (named_numbers content fs) (λ y j.
      elim (cases_lt 128 y) [
        | inl high ↦
            let once = contained (named_numbers content fs) y j in
            lt-ltb (links_in content fs y) (names_count content fs y) (omega (arith, no_links content fs y high, once)) ∙ sym (lt-ltb 128 y high)
        | inr low ↦ enough_none 128 (omega arith) all y (a.some y j) low ∙ sym (le-ltb 128 y low)
      ]))
      ∙ sym a.past
