-- A directory's entries, pointer after pointer of its inode.
use Rattle.std.proofs.Common.{◌≡◌, ℕ, zero, suc, ◌+◌, ◌-◌, ◌*◌, ◌≤◌, ◌≢◌, Bool, true, false, cond, List, [], ◌∷◌, ◌++◌, map, length, Option, Some, None, refl, sym, ◌∙◌, ap, arith, append_assoc, add-one, eq-eqb, length-append, Result, Ok, Err, ◌==◌, ◌&&◌, ◌||◌, not, find, bytes_eq, filter_map, flat_map, option_map, IfOk, IfSome, if◌then◌else◌, ne_eqb}
use Rattle.std.specs.List.{range_with_len, cons_option, list_any}
use Rattle.std.specs.Option.{ok_or, option_or}
use Rattle.std.proofs.lemmas.List.{map-append}
use Rattle.std.proofs.lemmas.List.Concat.{flat_map-append}
use Rattle.std.proofs.lemmas.List.Elements.{filter_map-append}
use Rattle.std.proofs.lemmas.List.Folds.{find-append}
use Rattle.xn_model.specs.Lists.{blocks_of}
use Rattle.xn_model.specs.Root.{unless_empty}
use Rattle.ffs_model.specs.Library.{half_at, inode_blocks, pointed}
use Rattle.ffs_format.specs.Entries.{name_in}
use Rattle.ffs_format.specs.Fields.{direct_in}
use Rattle.ffs_lookup.specs.declared.places.Slot.{Slot}
use Rattle.ffs_lookup.specs.Newest.{slots_in_block, slots_of, entry_at, first_named, has_name, name_at, name_of_place, names_at, names_in, names_of, named_in, entry_named, and_then, directory_in, mapped, used_entry}
use Rattle.ffs_lookup.specs.declared.fault.FfsFault.TheVariants.{BadName, NoEntry}
use Rattle.ffs_format.specs.Entries.{is_name}
use Rattle.ffs_lookup.specs.declared.fault.FfsFault.{FfsFault}

-- Ranges

pub range_more : (a n : ℕ) → range_with_len a (suc n) ≡ range_with_len a n ++ (a + n) ∷ []
range_more a zero = ap (λ x. x ∷ []) (omega arith)
range_more a (suc n) = ap (λ xs. a ∷ xs) (range_more (a + 1) n ∙ ap (λ x. range_with_len (a + 1) n ++ x ∷ []) (omega arith))

-- The blocks of the first pointers

abbrev pub first_blocks : List ℕ → ℕ → List ℕ
first_blocks inode n = blocks_of (pointed (direct_in inode) n 2)

module _ (inode : List ℕ) where
  pairs_more : (n : ℕ) → pointed (direct_in inode) (suc n) 2 ≡ pointed (direct_in inode) n 2 ++ cons_option (unless_empty (direct_in inode n, 2)) []
  pairs_more n =
      ap (filter_map (λ i. unless_empty (direct_in inode i, 2))) (range_more 0 n ∙ ap (λ x. range_with_len 0 n ++ x ∷ []) (omega arith))
      ∙ filter_map-append (λ i. unless_empty (direct_in inode i, 2)) (range_with_len 0 n) (n ∷ [])

  blocks_more : (n : ℕ) → first_blocks inode (suc n) ≡ first_blocks inode n ++ blocks_of (cons_option (unless_empty (direct_in inode n, 2)) [])
  blocks_more n = ap blocks_of (pairs_more n) ∙ map-append (λ (p : ℕ × ℕ). p.0) (pointed (direct_in inode) n 2) (cons_option (unless_empty (direct_in inode n, 2)) [])

  no_block : (n : ℕ) → direct_in inode n ≡ 0 → blocks_of (cons_option (unless_empty (direct_in inode n, 2)) []) ≡ []
  no_block n e = ap (λ (t : Bool). blocks_of (cons_option (cond t None (Some (direct_in inode n, 2))) [])) (eq-eqb (direct_in inode n) 0 e)

  one_block : (n b : ℕ) → direct_in inode n ≡ b → b ≢ 0 → blocks_of (cons_option (unless_empty (direct_in inode n, 2)) []) ≡ b ∷ []
  one_block n b e ne =
      ap (λ w. blocks_of (cons_option (unless_empty (w, 2)) [])) e ∙ ap (λ (t : Bool). blocks_of (cons_option (cond t None (Some (b, 2))) [])) (ne_eqb b 0 ne)

  -- the first of them are a beginning
  front : (n k : ℕ) → (rest : List ℕ) × (first_blocks inode (k + n) ≡ first_blocks inode n ++ rest)
  front n zero = let e : 0 + n ≡ n = omega arith in ([], ap (first_blocks inode) e ∙ sym (append_nil (first_blocks inode n)))
    where
      append_nil : (xs : List ℕ) → xs ++ [] ≡ xs
      append_nil [] = refl
      append_nil (x ∷ xs) = ap (λ ys. x ∷ ys) (append_nil xs)
  front n (suc k) =
      let before = front n k in
      let more = blocks_of (cons_option (unless_empty (direct_in inode (k + n), 2)) []) in
      let e : suc k + n ≡ suc (k + n) = omega arith in (
        before.0 ++ more,
        ap (first_blocks inode) e ∙ (blocks_more (k + n) ∙ (ap (λ xs. xs ++ more) before.1 ∙ append_assoc (first_blocks inode n) before.0 more)),
      )

  pub blocks_past : (n m : ℕ) → n + 1 ≡ m → direct_in inode n ≡ 0 → first_blocks inode m ≡ first_blocks inode n
  blocks_past n m s e = ap (first_blocks inode) (sym s ∙ add-one n) ∙ (blocks_more n ∙ (ap (λ xs. first_blocks inode n ++ xs) (no_block n e) ∙ append_zero (first_blocks inode n)))
    where
      append_zero : (xs : List ℕ) → xs ++ [] ≡ xs
      append_zero [] = refl
      append_zero (x ∷ xs) = ap (λ ys. x ∷ ys) (append_zero xs)

  pub blocks_one : (n m b : ℕ) → n + 1 ≡ m → direct_in inode n ≡ b → b ≢ 0 → first_blocks inode m ≡ first_blocks inode n ++ b ∷ []
  blocks_one n m b s e ne = ap (first_blocks inode) (sym s ∙ add-one n) ∙ (blocks_more n ∙ ap (λ xs. first_blocks inode n ++ xs) (one_block n b e ne))

  pub blocks_front : (n : ℕ) → n ≤ 12 → (rest : List ℕ) × (inode_blocks inode ≡ first_blocks inode n ++ rest)
  blocks_front n few =
      let r = front n (12 - n) in
      let e : 12 ≡ 12 - n + n = omega arith in
      (r.0, ap (first_blocks inode) e ∙ r.1)

-- The entries of the first pointers

module _ (content : ℕ → List ℕ) (inode : List ℕ) where
  abbrev pub first_entries : ℕ → List Slot
  first_entries n = flat_map (slots_in_block content) (first_blocks inode n)

  pub entries_past : (n m : ℕ) → n + 1 ≡ m → direct_in inode n ≡ 0 → first_entries m ≡ first_entries n
  entries_past n m s e = ap first_entries (sym s ∙ add-one n) ∙ (ap (flat_map (slots_in_block content)) (blocks_more inode n ∙ ap (λ xs. first_blocks inode n ++ xs) (no_block inode n e))
      ∙ (flat_map-append (slots_in_block content) (first_blocks inode n) [] ∙ append_none (first_entries n)))
    where
      append_none : (xs : List Slot) → xs ++ [] ≡ xs
      append_none [] = refl
      append_none (x ∷ xs) = ap (λ ys. x ∷ ys) (append_none xs)

  pub entries_more : (n m b : ℕ) → n + 1 ≡ m → direct_in inode n ≡ b → b ≢ 0 → first_entries m ≡ first_entries n ++ slots_in_block content b
  entries_more n m b s e ne = ap first_entries (sym s ∙ add-one n) ∙ (ap (flat_map (slots_in_block content)) (blocks_more inode n ∙ ap (λ xs. first_blocks inode n ++ xs) (one_block inode n b e ne))
      ∙ (flat_map-append (slots_in_block content) (first_blocks inode n) (b ∷ []) ∙ ap (λ xs. first_entries n ++ xs) (append_none (slots_in_block content b))))
    where
      append_none : (xs : List Slot) → xs ++ [] ≡ xs
      append_none [] = refl
      append_none (x ∷ xs) = ap (λ ys. x ∷ ys) (append_none xs)

  -- the rest of all entries
  pub entries_front : (n : ℕ) → n ≤ 12 → (rest : List Slot) × (slots_of content inode ≡ first_entries n ++ rest)
  entries_front n few =
      let r = front inode n (12 - n) in
      let e : 12 ≡ 12 - n + n = omega arith in (
        flat_map (slots_in_block content) r.0,
        ap first_entries e ∙ (ap (flat_map (slots_in_block content)) r.1 ∙ flat_map-append (slots_in_block content) (first_blocks inode n) r.0),
      )

-- Names in a block

abbrev pub is_named : List ℕ → List ℕ → ℕ → Bool
is_named m name place = not (half_at m (32 * place) == 0) && bytes_eq (name_in m (32 * place)) name

find_step : (content : ℕ → List ℕ) (name : List ℕ) (b x : ℕ) (rest : List Slot) (r : Option ℕ) (empty same : Bool) → has_name content name (entry_at content b x) ≡ same →
    find (has_name content name) rest ≡ option_map (entry_at content b) r →
    find (has_name content name) (cons_option (if empty then None else Some (entry_at content b x)) rest) ≡ option_map (entry_at content b) (cond (not empty && same) (Some x) r)
find_step content name b x rest r true same e h = h
find_step content name b x rest r false true e h = ap (λ (t : Bool). cond t (Some (entry_at content b x)) (find (has_name content name) rest)) e
find_step content name b x rest r false false e h = ap (λ (t : Bool). cond t (Some (entry_at content b x)) (find (has_name content name) rest)) e ∙ h

find_places : (content : ℕ → List ℕ) (name : List ℕ) (b : ℕ) (xs : List ℕ) →
    find (has_name content name) (filter_map (λ place. used_entry (entry_at content b place)) xs) ≡ option_map (entry_at content b) (find (is_named (content b) name) xs)
find_places content name b [] = refl
find_places content name b (x ∷ xs) =
    find_step content name b x (filter_map (λ place. used_entry (entry_at content b place)) xs) (find (is_named (content b) name) xs) (half_at (content b) (32 * x) == 0) (bytes_eq (name_in (content b) (32 * x)) name) refl
    (find_places content name b xs)

-- the first entry with a name in a block, by what was found among its bytes
pub found_in : (content : ℕ → List ℕ) (name : List ℕ) (b : ℕ) (m : List ℕ) (r : Option ℕ) → content b ≡ m → r ≡ find (is_named m name) (range_with_len 0 16) →
    find (has_name content name) (slots_in_block content b) ≡ option_map (entry_at content b) r
found_in content name b m r are e =
    find_places content name b (range_with_len 0 16) ∙ ap (option_map (entry_at content b)) (ap (λ x. find (is_named x name) (range_with_len 0 16)) are ∙ sym e)

-- Look-up, pointer after pointer

module _ (content : ℕ → List ℕ) (inode name : List ℕ) (n m : ℕ) (s : n + 1 ≡ m) (none : find (has_name content name) (first_entries content inode n) ≡ None) where
  pub none_past : direct_in inode n ≡ 0 → find (has_name content name) (first_entries content inode m) ≡ None
  none_past e = ap (find (has_name content name)) (entries_past content inode n m s e) ∙ none

  module _ (b : ℕ) (bytes : List ℕ) (e : direct_in inode n ≡ b) (there : b ≢ 0) (are : content b ≡ bytes) where
    more : find (has_name content name) (first_entries content inode m) ≡ find (has_name content name) (slots_in_block content b)
    more = ap (find (has_name content name)) (entries_more content inode n m b s e there) ∙ (find-append (has_name content name) (first_entries content inode n) (slots_in_block content b)
        ∙ ap (λ (o : Option Slot). option_or o (find (has_name content name) (slots_in_block content b))) none)

    pub none_more : None ≡ find (is_named bytes name) (range_with_len 0 16) → find (has_name content name) (first_entries content inode m) ≡ None
    none_more h = more ∙ found_in content name b bytes None are h

    pub first_is : (place entry : ℕ) → m ≤ 12 → Some place ≡ find (is_named bytes name) (range_with_len 0 16) → entry ≡ half_at bytes (32 * place) →
        Some (record { block = b; place = place; inode = entry }) ≡ first_named content inode name
    first_is place entry few h is =
        let rest = entries_front content inode m few in
        let found : find (has_name content name) (first_entries content inode m) ≡ Some (entry_at content b place) = more ∙ found_in content name b bytes (Some place) are h in
        let all : first_named content inode name ≡ Some (entry_at content b place) =
        ap (find (has_name content name)) rest.1 ∙ (find-append (has_name content name) (first_entries content inode m) rest.0
        ∙ ap (λ (o : Option Slot). option_or o (find (has_name content name) rest.0)) found) in
        ap (λ x. Some (record { block = b; place = place; inode = x })) (is ∙ ap (λ x. half_at x (32 * place)) (sym are)) ∙ sym all

pub none_all : (content : ℕ → List ℕ) (inode name : List ℕ) (n : ℕ) → n ≡ 12 → find (has_name content name) (first_entries content inode n) ≡ None → None ≡ first_named content inode name
none_all content inode name n all none = sym none ∙ ap (λ x. find (has_name content name) (first_entries content inode x)) all

-- Whether there are entries

none_step : (content : ℕ → List ℕ) (b x : ℕ) (rest : List Slot) (empty any : Bool) → (any ≡ false → rest ≡ []) → (not empty) || any ≡ false → cons_option (if empty then None else Some (entry_at content b x)) rest ≡ []
none_step content b x rest true any f e = f e
none_step content b x rest false any f e = absurd (cc e)

some_step : (content : ℕ → List ℕ) (b x : ℕ) (rest : List Slot) (empty any : Bool) → (any ≡ true → length rest ≢ 0) → (not empty) || any ≡ true → length (cons_option (if empty then None else Some (entry_at content b x)) rest) ≢ 0
some_step content b x rest true any f e = f e
some_step content b x rest false any f e = λ z. absurd (omega (arith, z))

abbrev pub is_used : List ℕ → ℕ → Bool
is_used m place = not (half_at m (32 * place) == 0)

none_places : (content : ℕ → List ℕ) (b : ℕ) (xs : List ℕ) → list_any (is_used (content b)) xs ≡ false → filter_map (λ place. used_entry (entry_at content b place)) xs ≡ []
none_places content b [] e = refl
none_places content b (x ∷ xs) e =
    none_step content b x (filter_map (λ place. used_entry (entry_at content b place)) xs) (half_at (content b) (32 * x) == 0) (list_any (is_used (content b)) xs) (none_places content b xs) e

some_places : (content : ℕ → List ℕ) (b : ℕ) (xs : List ℕ) → list_any (is_used (content b)) xs ≡ true → length (filter_map (λ place. used_entry (entry_at content b place)) xs) ≢ 0
some_places content b [] e = absurd (cc e)
some_places content b (x ∷ xs) e =
    some_step content b x (filter_map (λ place. used_entry (entry_at content b place)) xs) (half_at (content b) (32 * x) == 0) (list_any (is_used (content b)) xs) (some_places content b xs) e

module _ (content : ℕ → List ℕ) (inode : List ℕ) (n m : ℕ) (s : n + 1 ≡ m) (none : first_entries content inode n ≡ []) where
  pub empty_past : direct_in inode n ≡ 0 → first_entries content inode m ≡ []
  empty_past e = entries_past content inode n m s e ∙ none

  module _ (b : ℕ) (bytes : List ℕ) (e : direct_in inode n ≡ b) (there : b ≢ 0) (are : content b ≡ bytes) where
    pub empty_more : list_any (is_used bytes) (range_with_len 0 16) ≡ false → first_entries content inode m ≡ []
    empty_more h =
        entries_more content inode n m b s e there
        ∙ (ap (λ xs. xs ++ slots_in_block content b) none ∙ none_places content b (range_with_len 0 16) (ap (λ x. list_any (is_used x) (range_with_len 0 16)) are ∙ h))

    pub not_empty : m ≤ 12 → list_any (is_used bytes) (range_with_len 0 16) ≡ true → false ≡ (length (slots_of content inode) == 0)
    not_empty few h =
        let rest = entries_front content inode m few in
        let some = some_places content b (range_with_len 0 16) (ap (λ x. list_any (is_used x) (range_with_len 0 16)) are ∙ h) in
        let long : length (slots_of content inode) ≡ length (slots_in_block content b) + length rest.0 =
        ap length (rest.1 ∙ ap (λ xs. xs ++ rest.0) (entries_more content inode n m b s e there ∙ ap (λ xs. xs ++ slots_in_block content b) none)) ∙ length-append (slots_in_block content b) rest.0 in
        sym (ne_eqb (length (slots_of content inode)) 0 (λ z. some (omega (arith, long, z))))

pub empty_all : (content : ℕ → List ℕ) (inode : List ℕ) (n : ℕ) → n ≡ 12 → first_entries content inode n ≡ [] → true ≡ (length (slots_of content inode) == 0)
empty_all content inode n all none = sym (eq-eqb (length (slots_of content inode)) 0 (ap length (ap (first_entries content inode) (sym all) ∙ none)))

-- Names with what they name

plain_step : (content : ℕ → List ℕ) (b x : ℕ) (rest : List Slot) (empty : Bool) →
    map {B = List ℕ × ℕ} (λ (e : Slot). (name_at content e, e.inode)) (cons_option (if empty then None else Some (entry_at content b x)) rest)
    ≡ cons_option (if empty then None else Some (name_in (content b) (32 * x), half_at (content b) (32 * x))) (map {B = List ℕ × ℕ} (λ (e : Slot). (name_at content e, e.inode)) rest)
plain_step content b x rest true = refl
plain_step content b x rest false = refl

plain_places : (content : ℕ → List ℕ) (b : ℕ) (xs : List ℕ) →
    map {B = List ℕ × ℕ} (λ (e : Slot). (name_at content e, e.inode)) (filter_map (λ place. used_entry (entry_at content b place)) xs) ≡ names_at (content b) xs
plain_places content b [] = refl
plain_places content b (x ∷ xs) =
    plain_step content b x (filter_map (λ place. used_entry (entry_at content b place)) xs) (half_at (content b) (32 * x) == 0)
    ∙ ap (cons_option (name_of_place (content b) x)) (plain_places content b xs)

-- in the blocks of the first pointers
abbrev pub first_names : (ℕ → List ℕ) → List ℕ → ℕ → List (List ℕ × ℕ)
first_names content inode n = map (λ (e : Slot). (name_at content e, e.inode)) (first_entries content inode n)

module _ (content : ℕ → List ℕ) (inode : List ℕ) (n m : ℕ) (s : n + 1 ≡ m) where
  pub names_past : direct_in inode n ≡ 0 → first_names content inode n ≡ first_names content inode m
  names_past e = sym (ap (map (λ (e : Slot). (name_at content e, e.inode))) (entries_past content inode n m s e))

  pub names_more : (b : ℕ) (bytes : List ℕ) → direct_in inode n ≡ b → b ≢ 0 → content b ≡ bytes → first_names content inode n ++ names_at bytes (range_with_len 0 16) ≡ first_names content inode m
  names_more b bytes e there are = sym (
      ap (map (λ (e : Slot). (name_at content e, e.inode))) (entries_more content inode n m b s e there)
      ∙ (map-append (λ (e : Slot). (name_at content e, e.inode)) (first_entries content inode n) (slots_in_block content b)
      ∙ ap (λ xs. first_names content inode n ++ xs) (plain_places content b (range_with_len 0 16) ∙ ap (λ x. names_at x (range_with_len 0 16)) are))
      )

-- in one block
module _ (m : List ℕ) (n k : ℕ) (s : n + 1 ≡ k) where
  pub places_more : names_at m (range_with_len 0 k) ≡ names_at m (range_with_len 0 n) ++ cons_option (name_of_place m n) []
  places_more =
      let e : k ≡ suc n = omega arith in
      let z : 0 + n ≡ n = omega arith in
      ap (λ x. names_at m (range_with_len 0 x)) e ∙ (ap (names_at m) (range_more 0 n ∙ ap (λ x. range_with_len 0 n ++ x ∷ []) z) ∙ filter_map-append (name_of_place m) (range_with_len 0 n) (n ∷ []))

  pub place_past : half_at m (32 * n) ≡ 0 → names_at m (range_with_len 0 n) ≡ names_at m (range_with_len 0 k)
  place_past e =
      let one : cons_option (name_of_place m n) [] ≡ [] = ap (λ (t : Bool). cons_option (if t then None else Some (name_in m (32 * n), half_at m (32 * n))) []) (eq-eqb (half_at m (32 * n)) 0 e) in
      sym (places_more ∙ (ap (λ xs. names_at m (range_with_len 0 n) ++ xs) one ∙ append_none (names_at m (range_with_len 0 n))))
    where
      append_none : (xs : List (List ℕ × ℕ)) → xs ++ [] ≡ xs
      append_none [] = refl
      append_none (x ∷ xs) = ap (λ ys. x ∷ ys) (append_none xs)

  pub place_more : (name : List ℕ) (i : ℕ) → half_at m (32 * n) ≡ i → i ≢ 0 → name_in m (32 * n) ≡ name → names_at m (range_with_len 0 n) ++ (name, i) ∷ [] ≡ names_at m (range_with_len 0 k)
  place_more name i is there named =
      let one : cons_option (name_of_place m n) [] ≡ (name, i) ∷ [] =
      ap (λ (t : Bool). cons_option (if t then None else Some (name_in m (32 * n), half_at m (32 * n))) []) (ne_eqb (half_at m (32 * n)) 0 (λ z. there (sym is ∙ z)))
      ∙ (ap (λ x. (x, half_at m (32 * n)) ∷ []) named ∙ ap (λ x. (name, x) ∷ []) is) in
      sym (places_more ∙ ap (λ xs. names_at m (range_with_len 0 n) ++ xs) one)

-- of a directory that was found
pub names_are : (content : ℕ → List ℕ) (fs d n : ℕ) (inode : List ℕ) (names : List (List ℕ × ℕ)) → Ok inode ≡ directory_in content fs d → n ≡ 12 → names ≡ first_names content inode n → Ok names ≡ names_in content fs d
unfolding names_in
names_are content fs d n inode names found all is = ap (λ xs. Ok xs) (is ∙ ap (first_names content inode) all) ∙ ap (mapped (names_of content)) found

pub no_names : (content : ℕ → List ℕ) (fs d : ℕ) (fault : FfsFault) → Err fault ≡ directory_in content fs d → Err fault ≡ names_in content fs d
unfolding names_in
no_names content fs d fault e = ap (mapped (names_of content)) e

-- Look-up of a name in a directory

module _ (content : ℕ → List ℕ) (fs d : ℕ) (name : List ℕ) where
  pub nothing_named : (fault : FfsFault) → Err fault ≡ directory_in content fs d → Err fault ≡ named_in content fs d name
  unfolding named_in
  nothing_named fault e = ap (λ (r : Result (List ℕ) FfsFault). and_then r (entry_named content name)) e

  pub badly_named : (inode : List ℕ) → Ok inode ≡ directory_in content fs d → is_name name ≡ false → Err BadName ≡ named_in content fs d name
  unfolding named_in
  badly_named inode found bad =
      sym (ap (λ (t : Bool). if t then ok_or (first_named content inode name) NoEntry else Err BadName) bad) ∙ ap (λ (r : Result (List ℕ) FfsFault). and_then r (entry_named content name)) found

  pub named_is : (inode : List ℕ) (o : Option Slot) → Ok inode ≡ directory_in content fs d → is_name name ≡ true → o ≡ first_named content inode name → ok_or o NoEntry ≡ named_in content fs d name
  unfolding named_in
  named_is inode o found good first =
      ap (λ (x : Option Slot). ok_or x NoEntry) first ∙ (sym (ap (λ (t : Bool). if t then ok_or (first_named content inode name) NoEntry else Err BadName) good)
      ∙ ap (λ (r : Result (List ℕ) FfsFault). and_then r (entry_named content name)) found)

pub same_ok : {A : Type 0} (x y : A) → ◌≡◌ {A = Result A FfsFault} (Ok x) (Ok y) → x ≡ y
same_ok x y e = cc

pub if_some_ok : {A : Type 0} (P : A → Type 0) (o : Option A) (r : Result A FfsFault) (fault : FfsFault) → r ≡ ok_or o fault → IfSome o P → IfOk r P
if_some_ok P None r fault e h = rw e tt
if_some_ok P (Some x) r fault e h = rw e h
