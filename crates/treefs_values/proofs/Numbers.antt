-- The numbers to which names lead, where the entries of one bucket change.
use Rattle.std.proofs.Common.{◌≡◌, ◌≢◌, ℕ, ◌≤◌, Bool, true, false, not, ◌&&◌, ◌||◌, List, [], ◌∷◌, ◌++◌, Option, None, Some, refl, sym, ◌∙◌, ap, inl, inr, subst, if◌then◌else◌}
use Rattle.std.specs.Prelude.{Contains, IsTrue, bytes_eq}
use Rattle.std.specs.Option.{option_or}
use Rattle.std.proofs.lemmas.Bool.{and_from, and_parts, cases_eq, not-true, or_parts, or_right, true≢false}
use Rattle.std.proofs.lemmas.List.Folds.{list_any-append}
use Rattle.xn_model.proofs.ForCallers.{Contains-cons, Contains-head, Contains-none, Contains-tail}
use Rattle.treefs_format.specs.Buckets.{live_record}
use Rattle.treefs_format.specs.Paths.{leaf_count}
use Rattle.treefs_format.specs.Records.{Entry, Record, is_live}
use Rattle.treefs_model.specs.Reading.{bucket_of, number_among}
use Rattle.treefs_model.specs.Trees.{has_name, names_once}
use Rattle.treefs_values.specs.Names.{HasNamesOnce, bucket_entries, first_number, first_number_in}
use Rattle.treefs_values.specs.Values.{led_to}
use Rattle.treefs_values.proofs.Entries.{alone, flipped, none_named, none_number, other_entry, own_entry, same_bytes, same_eq, some_number}

-- Numbers by entries

pub among_numbers : (content : ℕ → List ℕ) (c : ℕ) (name : List ℕ) (buckets : List ℕ) → number_among content c name buckets ≡ first_number_in content c name buckets
among_numbers content c name [] = refl
among_numbers content c name (k ∷ buckets) = by (among_numbers content c name buckets) (live_record (bucket_of content c k) name) refl
  where
    by : number_among content c name buckets ≡ first_number_in content c name buckets → (o : Option Record) → live_record (bucket_of content c k) name ≡ o →
        number_among content c name (k ∷ buckets) ≡ first_number_in content c name (k ∷ buckets)
    by rest None is = rw is (rest ∙ sym (ap (λ o. option_or o (first_number_in content c name buckets)) (none_number name (bucket_of content c k) is)))
    by rest (Some r) is = rw is (sym (ap (λ o. option_or o (first_number_in content c name buckets)) (some_number name (bucket_of content c k) r is)))

-- Among some buckets

-- the first number of a function of buckets
abbrev pub first_of : (ℕ → Option ℕ) → List ℕ → Option ℕ
first_of f [] = None
first_of f (k ∷ buckets) = option_or (f k) (first_of f buckets)

abbrev pub numbers_at : (ℕ → List ℕ) → ℕ → List ℕ → ℕ → Option ℕ
numbers_at content c name k = first_number (bucket_entries content c k) name

pub in_first : (content : ℕ → List ℕ) (c : ℕ) (name buckets : List ℕ) → first_number_in content c name buckets ≡ first_of (numbers_at content c name) buckets
in_first content c name [] = refl
in_first content c name (k ∷ buckets) = ap (option_or (numbers_at content c name k)) (in_first content c name buckets)

same_first : (f g : ℕ → Option ℕ) (buckets : List ℕ) → ((k : ℕ) → Contains buckets k → f k ≡ g k) → first_of f buckets ≡ first_of g buckets
same_first f g [] same = refl
same_first f g (k ∷ buckets) same =
    (λ j. option_or (same k (Contains-head k buckets) j) (same_first f g buckets (λ i has. same i (Contains-tail k buckets i has)) j))

none_first : (f : ℕ → Option ℕ) (buckets : List ℕ) → ((k : ℕ) → Contains buckets k → f k ≡ None) → first_of f buckets ≡ None
none_first f [] none = refl
none_first f (k ∷ buckets) none =
    ap (λ o. option_or o (first_of f buckets)) (none k (Contains-head k buckets)) ∙ none_first f buckets (λ i has. none i (Contains-tail k buckets i has))

-- one bucket alone has a number
pub only_first : (f : ℕ → Option ℕ) (k : ℕ) (v : Option ℕ) (buckets : List ℕ) → Contains buckets k → f k ≡ v → ((j : ℕ) → Contains buckets j → j ≢ k → f j ≡ None) →
    first_of f buckets ≡ v
only_first f k v [] has is others = absurd (Contains-none k has)
only_first f k v (i ∷ buckets) has is others = elim (cases_eq i k) [
  | inl same ↦ ap (λ o. option_or o (first_of f buckets)) (ap f same ∙ is) ∙ own v is
  | inr ne ↦
      ap (λ o. option_or o (first_of f buckets)) (others i (Contains-head i buckets) ne)
      ∙ only_first f k v buckets (elim (Contains-cons i buckets k has) [ inl e ↦ absurd (ne e) | inr later ↦ later ]) is behind
]
  where
    behind : (j : ℕ) → Contains buckets j → j ≢ k → f j ≡ None
    behind j has' ne = others j (Contains-tail i buckets j has') ne

    own : (v : Option ℕ) → f k ≡ v → option_or v (first_of f buckets) ≡ v
    own None is' = none_first f buckets (λ j has'. elim (cases_eq j k) [ inl e ↦ ap f e ∙ is' | inr ne ↦ behind j has' ne ])
    own (Some n) is' = refl

-- one bucket alone changes, and there one name alone leads elsewhere
module _ (old new : ℕ → List ℕ) (c k : ℕ) (others : (j : ℕ) → j ≤ leaf_count → j ≢ k → bucket_entries new c j ≡ bucket_entries old c j) where
  module _ (name : List ℕ) (now : Option ℕ) (own : numbers_at new c name k ≡ now)
      (rest : (x : List ℕ) → bytes_eq x name ≡ false → numbers_at new c x k ≡ numbers_at old c x k)
      (elsewhere : (j : ℕ) → j ≤ leaf_count → j ≢ k → has_name (bucket_entries old c j) name ≡ false) where
    pub number_changed : (x : List ℕ) (buckets : List ℕ) → ((j : ℕ) → Contains buckets j → j ≤ leaf_count) → (bytes_eq x name ≡ true → Contains buckets k) →
        first_number_in new c x buckets ≡ (if bytes_eq x name then now else first_number_in old c x buckets)
    number_changed x buckets within has = in_first new c x buckets ∙ by (bytes_eq x name) refl
      where
        by : (b : Bool) → bytes_eq x name ≡ b → first_of (numbers_at new c x) buckets ≡ (if bytes_eq x name then now else first_number_in old c x buckets)
        by true is =
            let same : x ≡ name = same_bytes x name is in
            ap (λ y. first_of (numbers_at new c y) buckets) same
            ∙ (only_first (numbers_at new c name) k now buckets (has is) own
            (λ j has' ne. ap (λ es. first_number es name) (others j (within j has') ne) ∙ none_named name (bucket_entries old c j) (elsewhere j (within j has') ne))
            ∙ sym (ap (λ b. if b then now else first_number_in old c x buckets) is))
        by false isnt =
            same_first (numbers_at new c x) (numbers_at old c x) buckets (λ j has'. elim (cases_eq j k) [
              | inl at_k ↦ ap (numbers_at new c x) at_k ∙ (rest x isnt ∙ sym (ap (numbers_at old c x) at_k))
              | inr ne ↦ ap (λ es. first_number es x) (others j (within j has') ne)
            ])
            ∙ (sym (in_first old c x buckets) ∙ sym (ap (λ b. if b then now else first_number_in old c x buckets) isnt))

-- One entry's number is set

pub has_split : (before behind : List Entry) (e : Entry) (name : List ℕ) →
    has_name (before ++ e ∷ behind) name ≡ (has_name before name || (bytes_eq e.name name || has_name behind name))
has_split before behind e name = list_any-append (λ x. bytes_eq x.name name) before (e ∷ behind)

once_same : (before behind : List Entry) (e f : Entry) → f.name ≡ e.name → names_once (before ++ f ∷ behind) ≡ names_once (before ++ e ∷ behind)
once_same [] behind e f same = ap (λ n. not (has_name behind n) && names_once behind) same
once_same (d ∷ before) behind e f same =
    (λ j. not (((has_split before behind f d.name ∙ ap (λ n. has_name before d.name || (bytes_eq n d.name || has_name behind d.name)) same)
    ∙ sym (has_split before behind e d.name)) j) && once_same before behind e f same j)

module _ (old new : ℕ → List ℕ) (c k : ℕ) (few : k ≤ leaf_count) (names : HasNamesOnce old c) (before behind : List Entry) (name : List ℕ) (was now : ℕ)
    (old_is : bucket_entries old c k ≡ before ++ record { number = was; name = name } ∷ behind)
    (new_is : bucket_entries new c k ≡ before ++ record { number = now; name = name } ∷ behind)
    (others : (j : ℕ) → j ≤ leaf_count → j ≢ k → bucket_entries new c j ≡ bucket_entries old c j) where
  abbrev e : Entry
  e = record { number = was; name = name }

  abbrev f : Entry
  f = record { number = now; name = name }

  own_alone : (has_name before name ≡ false) × (has_name behind name ≡ false)
  own_alone = alone before behind e name (subst (λ es. IsTrue (names_once es)) old_is (names.once k few)) refl

  pub own_there : IsTrue (has_name (bucket_entries old c k) name)
  own_there =
      ap (λ es. has_name es name) old_is
      ∙ (has_split before behind e name ∙ or_right (has_name before name) (bytes_eq name name || has_name behind name) (ap (λ b. b || has_name behind name) (same_eq name name refl)))

  -- no other bucket has an entry of the name
  none_elsewhere : (j : ℕ) → j ≤ leaf_count → j ≢ k → has_name (bucket_entries old c j) name ≡ false
  none_elsewhere j few' ne = by (has_name (bucket_entries old c j) name) refl
    where
      by : (b : Bool) → has_name (bucket_entries old c j) name ≡ b → has_name (bucket_entries old c j) name ≡ false
      by true h = absurd (ne (names.apart j k name few' few h own_there))
      by false h = h

  pub number_set : (x : List ℕ) (buckets : List ℕ) → ((j : ℕ) → Contains buckets j → j ≤ leaf_count) → (bytes_eq x name ≡ true → Contains buckets k) →
      first_number_in new c x buckets ≡ (if bytes_eq x name then led_to now else first_number_in old c x buckets)
  number_set = number_changed old new c k others name (led_to now)
      (ap (λ es. first_number es name) new_is ∙ own_entry name before behind f own_alone.0 own_alone.1 (same_eq name name refl))
      (λ x isnt. ap (λ es. first_number es x) new_is ∙ (other_entry x before behind e f (flipped name x isnt) (flipped name x isnt) ∙ sym (ap (λ es. first_number es x) old_is)))
      none_elsewhere

  -- and names stay single
  pub has_same : (j : ℕ) (x : List ℕ) → j ≤ leaf_count → has_name (bucket_entries new c j) x ≡ has_name (bucket_entries old c j) x
  has_same j x few' = elim (cases_eq j k) [
    | inl at_k ↦
        ap (λ i. has_name (bucket_entries new c i) x) at_k
        ∙ (ap (λ es. has_name es x) new_is
        ∙ (has_split before behind f x ∙ (sym (has_split before behind e x) ∙ (sym (ap (λ es. has_name es x) old_is) ∙ sym (ap (λ i. has_name (bucket_entries old c i) x) at_k)))))
    | inr ne ↦ ap (λ es. has_name es x) (others j few' ne)
  ]

  pub names_set : HasNamesOnce new c
  names_set = record {
    once = λ j few'. elim (cases_eq j k) [
      | inl at_k ↦ ap (λ i. names_once (bucket_entries new c i)) at_k ∙ (ap names_once new_is ∙ (once_same before behind e f refl ∙ (sym (ap names_once old_is) ∙ names.once k few)))
      | inr ne ↦ ap names_once (others j few' ne) ∙ names.once j few'
    ];
    apart = λ i j x few' few'' one other. names.apart i j x few' few'' (sym (has_same i x few') ∙ one) (sym (has_same j x few'') ∙ other);
  }

-- An entry is put behind the others

behind_other : (es : List Entry) (e : Entry) (x : List ℕ) → bytes_eq e.name x ≡ false → first_number (es ++ e ∷ []) x ≡ first_number es x
behind_other [] e x isnt = ap (λ b. if is_live e && b then Some e.number else None) isnt ∙ dead (is_live e)
  where
    dead : (b : Bool) → (if b && false then Some e.number else None) ≡ None
    dead true = refl
    dead false = refl
behind_other (d ∷ es) e x isnt = ap (λ o. if is_live d && bytes_eq d.name x then Some d.number else o) (behind_other es e x isnt)

once_behind : (es : List Entry) (e : Entry) → IsTrue (names_once es) → has_name es e.name ≡ false → IsTrue (names_once (es ++ e ∷ []))
once_behind [] e once none = refl
once_behind (d ∷ es) e once none =
    let parts = and_parts (not (has_name es d.name)) (names_once es) once in
    let none' = or_parts (bytes_eq d.name e.name) (has_name es e.name) none in
    let alone' : has_name (es ++ e ∷ []) d.name ≡ false =
    has_split es [] e d.name ∙ (ap (λ b. has_name es d.name || (b || false)) (flipped e.name d.name none'.0) ∙ either (has_name es d.name) (not-true (has_name es d.name) parts.0)) in
    and_from (not (has_name (es ++ e ∷ []) d.name)) (names_once (es ++ e ∷ [])) (ap not alone') (once_behind es e parts.1 none'.1)
  where
    either : (b : Bool) → b ≡ false → (b || (false || false)) ≡ false
    either b h = ap (λ t. t || (false || false)) h

module _ (old new : ℕ → List ℕ) (c k : ℕ) (few : k ≤ leaf_count) (names : HasNamesOnce old c) (name : List ℕ) (number : ℕ)
    (none : (j : ℕ) → j ≤ leaf_count → has_name (bucket_entries old c j) name ≡ false)
    (new_is : bucket_entries new c k ≡ bucket_entries old c k ++ record { number = number; name = name } ∷ [])
    (others : (j : ℕ) → j ≤ leaf_count → j ≢ k → bucket_entries new c j ≡ bucket_entries old c j) where
  abbrev entry : Entry
  entry = record { number = number; name = name }

  abbrev entries : List Entry
  entries = bucket_entries old c k

  pub number_made : (x : List ℕ) (buckets : List ℕ) → ((j : ℕ) → Contains buckets j → j ≤ leaf_count) → (bytes_eq x name ≡ true → Contains buckets k) →
      first_number_in new c x buckets ≡ (if bytes_eq x name then led_to number else first_number_in old c x buckets)
  number_made = number_changed old new c k others name (led_to number)
      (ap (λ es. first_number es name) new_is ∙ own_entry name entries [] entry (none k few) refl (same_eq name name refl))
      (λ x isnt. ap (λ es. first_number es x) new_is ∙ behind_other entries entry x (flipped name x isnt))
      (λ j few' ne. none j few')

  -- the bucket has the name, and its old ones
  pub has_one : (x : List ℕ) → has_name (bucket_entries new c k) x ≡ (has_name entries x || (bytes_eq name x || false))
  has_one x = ap (λ es. has_name es x) new_is ∙ has_split entries [] entry x

  pub names_made : HasNamesOnce new c
  names_made = record {
    once = λ j few'. elim (cases_eq j k) [
      | inl at_k ↦ ap (λ i. names_once (bucket_entries new c i)) at_k ∙ (ap names_once new_is ∙ once_behind entries entry (names.once k few) (none k few))
      | inr ne ↦ ap names_once (others j few' ne) ∙ names.once j few'
    ];
    apart = λ i j x few' few'' one other. elim (cases_eq i k) [
      | inl i_k ↦ elim (cases_eq j k) [
        | inl j_k ↦ i_k ∙ sym j_k
        | inr ne ↦ i_k ∙ sym (elsewhere j x few'' ne (sym (ap (λ es. has_name es x) (others j few'' ne)) ∙ other) (sym (ap (λ m. has_name (bucket_entries new c m) x) i_k) ∙ one))
      ]
      | inr ne ↦ elim (cases_eq j k) [
        | inl j_k ↦ elsewhere i x few' ne (sym (ap (λ es. has_name es x) (others i few' ne)) ∙ one) (sym (ap (λ m. has_name (bucket_entries new c m) x) j_k) ∙ other) ∙ sym j_k
        | inr ne' ↦ names.apart i j x few' few'' (sym (ap (λ es. has_name es x) (others i few' ne)) ∙ one) (sym (ap (λ es. has_name es x) (others j few'' ne')) ∙ other)
      ]
    ];
  }
    where
      elsewhere : (j : ℕ) (x : List ℕ) → j ≤ leaf_count → j ≢ k → IsTrue (has_name (bucket_entries old c j) x) → IsTrue (has_name (bucket_entries new c k) x) → j ≡ k
      elsewhere j x few' ne there there' = by (has_name entries x) (bytes_eq name x) refl refl
        where
          by : (a b : Bool) → has_name entries x ≡ a → bytes_eq name x ≡ b → j ≡ k
          by true b h g = names.apart j k x few' few there h
          by false true h g =
              absurd (true≢false (sym (subst (λ n. IsTrue (has_name (bucket_entries old c j) n)) (sym (same_bytes name x g)) there) ∙ none j few'))
          by false false h g = absurd (true≢false (sym there' ∙ (has_one x ∙ (λ i. h i || (g i || false)))))
