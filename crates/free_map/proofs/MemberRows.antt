-- The members of a set, as a row of truth values.
use Rattle.std.proofs.Common.{◌≡◌, ◌≢◌, ℕ, ◌+◌, ◌-◌, ◌*◌, ◌/◌, ◌^◌, ◌<◌, ◌≤◌, min, Bool, true, false, cond, List, length, get_or, set, replicate, Some, None, refl, sym, ◌∙◌, ap, subst, arith, inl, inr, slice_get}
use Rattle.std.specs.Prelude.{not, ◌==◌, count_by, nat_lt, position, unwrap_or, slice_set}
use Rattle.std.specs.List.{position_or_len}
use Rattle.std.proofs.lemmas.Bool.{ne_eqb, eq-eqb, cases_lt, cases_eq, lt-ltb, le-ltb, false≢true}
use Rattle.std.proofs.lemmas.List.{same_lists, get_or-set_same, get_or-set_other, length-set, set-get_or, get_or-replicate, length-replicate, get_or_past}
use Rattle.std.proofs.lemmas.List.FromFn.{length-map-range_with_len, get_or-map-range_with_len}
use Rattle.std.proofs.lemmas.List.Sums.{sum_by-set, position_or_len_is, count_by-le-length}
use Rattle.std.proofs.lemmas.List.Folds.{sum_by-replicate}
use Rattle.std.proofs.Math.Pow.{pow-lt}
use Rattle.std.proofs.lemmas.Option.{unwrap_or-slice_get}
use Rattle.free_map.specs.Bits.{has_bit, HasFirst, SetsBit, IsLowestFrom, IsLowestIn, IsLowest, HasNone, HasNoneInFrom}
use Rattle.free_map.specs.Bits as bits
use Rattle.free_map.specs.Members.{members_of, is_member, AreMembers, IsLeastFrom, HasNoneFrom}
use Rattle.free_map.proofs.BitRows.{first_bit, blank_word, some_word, blank_row, blank_words, length-blank_words}

pub length-members_of : (n : ℕ) (words : List ℕ) → length (members_of n words) ≡ n
length-members_of n words = length-map-range_with_len (has_bit words) 0 n

get_or-members_of : (n : ℕ) (words : List ℕ) (k : ℕ) (d : Bool) → k < n → get_or (members_of n words) k d ≡ has_bit words k
get_or-members_of n words k d within = get_or-map-range_with_len (has_bit words) 0 n k k d within (omega arith)

-- one bit written
pub members_of-set : (n : ℕ) (old new : List ℕ) (at : ℕ) (bit : Bool) → at < n → SetsBit old new at bit → members_of n new ≡ slice_set (members_of n old) at bit
members_of-set n old new at bit within sets =
    let long_new = length-members_of n new in
    let long_old = length-members_of n old in
    let long_set = length-set (members_of n old) at bit in
    same_lists _ _ (long_new ∙ (sym long_old ∙ sym long_set))
    (λ k d h.
    let lt : k < n = omega (arith, h, long_new) in
    get_or-members_of n new k d lt
    ∙ elim (cases_eq k at) [
      | inl e ↦
          ap (has_bit new) e
          ∙ (sets.same
          ∙ (sym (get_or-set_same (members_of n old) at bit d (omega (arith, within, long_old)))
          ∙ ap (λ j. get_or (set (members_of n old) at bit) j d) (sym e)))
      | inr ne ↦
          sets.others k ne
          ∙ (sym (get_or-members_of n old k d lt) ∙ sym (get_or-set_other (members_of n old) at k bit d ne))
    ])

-- a bit that is so already
pub members_of-same : (n : ℕ) (words : List ℕ) (at : ℕ) (bit : Bool) → at < n → has_bit words at ≡ bit → members_of n words ≡ slice_set (members_of n words) at bit
members_of-same n words at bit within same =
    sym (set-get_or (members_of n words) at bit) ∙ ap (set (members_of n words) at) (get_or-members_of n words at bit within ∙ same)

-- Counts

abbrev pub one_if : Bool → ℕ
one_if b = cond (is_member b) 1 0

counts_more : (n : ℕ) (words : List ℕ) (at : ℕ) → at < n → has_bit words at ≡ false → count_by is_member (slice_set (members_of n words) at true) ≡ count_by is_member (members_of n words) + 1
counts_more n words at within clear =
    let long = length-members_of n words in
    let change = sum_by-set one_if (members_of n words) at true false (omega (arith, within, long)) in
    let here = ap one_if (get_or-members_of n words at false within ∙ clear) in
    omega (arith, change, here)

counts_less : (n : ℕ) (words : List ℕ) (at : ℕ) → at < n → has_bit words at ≡ true → count_by is_member (slice_set (members_of n words) at false) + 1 ≡ count_by is_member (members_of n words)
counts_less n words at within here =
    let long = length-members_of n words in
    let change = sum_by-set one_if (members_of n words) at false false (omega (arith, within, long)) in
    let there = ap one_if (get_or-members_of n words at false within ∙ here) in
    omega (arith, change, there)

pub count-some : (n : ℕ) (words : List ℕ) (at : ℕ) → at < n → has_bit words at ≡ true → 1 ≤ count_by is_member (members_of n words)
count-some n words at within here = omega (arith, counts_less n words at within here)

pub count-room : (n : ℕ) (words : List ℕ) (at : ℕ) → at < n → has_bit words at ≡ false → count_by is_member (members_of n words) < n
count-room n words at within clear =
    let more = counts_more n words at within clear in
    let most = count_by-le-length is_member (slice_set (members_of n words) at true) in
    omega (arith, more, most, length-set (members_of n words) at true, length-members_of n words)

-- A set that changes

changed : (n : ℕ) (words filled new_words new_filled : List ℕ) (count new_count at : ℕ) (bit : Bool) → AreMembers n words filled count → at < n → SetsBit words new_words at bit →
    SetsBit filled new_filled (at / 64) (nat_lt 0 (get_or new_words (at / 64) 0)) → new_count ≡ count_by is_member (slice_set (members_of n words) at bit) → AreMembers n new_words new_filled new_count
changed n words filled new_words new_filled count new_count at bit are within sets sums counted = record {
  past = λ k from. let apart : k ≢ at = omega arith in sets.others k apart ∙ are.past k from;
  room = omega (arith, are.room, sets.long);
  summed = omega (arith, are.summed, sets.long, sums.long);
  few = omega (arith, are.few, sets.long);
  few_sums = omega (arith, are.few_sums, sums.long);
  sums = λ w.
      elim (cases_eq w (at / 64)) [
        | inl e ↦ ap (has_bit new_filled) e ∙ (sums.same ∙ ap (λ v. nat_lt 0 (get_or new_words v 0)) (sym e))
        | inr ne ↦ sums.others w ne ∙ (are.sums w ∙ ap (nat_lt 0) (sym (sets.words w ne)))
      ];
  counted = counted ∙ ap (count_by is_member) (sym (members_of-set n words new_words at bit within sets));
}

pub inserted : (n : ℕ) (words filled new_words new_filled : List ℕ) (count at : ℕ) → AreMembers n words filled count → at < n → has_bit words at ≡ false → SetsBit words new_words at true →
    SetsBit filled new_filled (at / 64) true → AreMembers n new_words new_filled (count + 1)
inserted n words filled new_words new_filled count at are within clear sets sums =
    let some = lt-ltb 0 (get_or new_words (at / 64) 0) (some_word new_words at sets.same) in
    changed n words filled new_words new_filled count (count + 1) at true are within sets
    (subst (SetsBit filled new_filled (at / 64)) (sym some) sums)
    (ap (λ c. c + 1) are.counted ∙ sym (counts_more n words at within clear))

pub removed : (n : ℕ) (words filled new_words new_filled : List ℕ) (count at : ℕ) (some : Bool) → AreMembers n words filled count → at < n → has_bit words at ≡ true → SetsBit words new_words at false →
    SetsBit filled new_filled (at / 64) some → some ≡ nat_lt 0 (get_or new_words (at / 64) 0) → AreMembers n new_words new_filled (count - 1)
removed n words filled new_words new_filled count at some are within here sets sums is =
    changed n words filled new_words new_filled count (count - 1) at false are within sets
    (subst (SetsBit filled new_filled (at / 64)) is sums)
    (omega (arith, are.counted, counts_less n words at within here))

-- The empty set

pub members_of-blank : (n c : ℕ) → members_of n (blank_words c) ≡ replicate n false
members_of-blank n c =
    let long = length-members_of n (blank_words c) in
    same_lists _ _ (long ∙ sym (length-replicate n false))
    (λ k d h.
    let lt : k < n = omega (arith, h, long) in
    get_or-members_of n (blank_words c) k d lt ∙ (blank_word (blank_words c) k (blank_row c (k / 64)) ∙ sym (get_or-replicate n k false d lt)))

pub empty : (n c m : ℕ) → n ≤ 64 * c → c ≤ 64 * m → c ≤ 2 ^ 26 → m ≤ 2 ^ 26 → AreMembers n (blank_words c) (blank_words m) 0
empty n c m room summed few few_sums = record {
  past = λ k from. blank_word (blank_words c) k (blank_row c (k / 64));
  room = omega (arith, room, length-blank_words c);
  summed = omega (arith, summed, length-blank_words c, length-blank_words m);
  few = omega (arith, few, length-blank_words c);
  few_sums = omega (arith, few_sums, length-blank_words m);
  sums = λ w. blank_word (blank_words m) w (blank_row m (w / 64)) ∙ ap (nat_lt 0) (sym (blank_row c w));
  counted = sym (ap (count_by is_member) (members_of-blank n c) ∙ (sum_by-replicate one_if n false ∙ omega arith));
}

-- The full set

pub members_of-first : (n : ℕ) (words : List ℕ) → HasFirst n words → members_of n words ≡ replicate n true
members_of-first n words first =
    let long = length-members_of n words in
    same_lists _ _ (long ∙ sym (length-replicate n true))
    (λ k d h.
    let lt : k < n = omega (arith, h, long) in
    get_or-members_of n words k d lt ∙ (first_bit words n k first ∙ (lt-ltb k n lt ∙ sym (get_or-replicate n k true d lt))))

some_first : (n w m : ℕ) → n ≤ 64 * m → 64 * m < n + 64 → nat_lt w m ≡ nat_lt 0 (2 ^ min 64 (n - 64 * w) - 1)
some_first n w m most least =
    elim (cases_lt w m) [
      | inl lt ↦
          let some : 1 ≤ min 64 (n - 64 * w) = omega arith in
          lt-ltb w m lt ∙ sym (lt-ltb 0 (2 ^ min 64 (n - 64 * w) - 1) (omega (arith, pow-lt some)))
      | inr past ↦
          let none : min 64 (n - 64 * w) ≡ 0 = omega arith in
          le-ltb w m past ∙ ap (λ b. nat_lt 0 (2 ^ b - 1)) (sym none)
    ]

pub full : (n m : ℕ) (words filled : List ℕ) → HasFirst n words → HasFirst m filled → n ≤ 64 * m → 64 * m < n + 64 → n ≤ 64 * length words → length words ≤ 64 * length filled →
    length words ≤ 2 ^ 26 → length filled ≤ 2 ^ 26 → AreMembers n words filled n
full n m words filled first sums most least room summed few few_sums = record {
  past = λ k from. first_bit words n k first ∙ le-ltb k n from;
  room = room;
  summed = summed;
  few = few;
  few_sums = few_sums;
  sums = λ w. first_bit filled m w sums ∙ (some_first n w m most least ∙ ap (nat_lt 0) (sym (first w)));
  counted = sym (ap (count_by is_member) (members_of-first n words first) ∙ (sum_by-replicate one_if n true ∙ omega arith));
}

-- Reads

pub contains_there : (n : ℕ) (words filled : List ℕ) (count k : ℕ) → AreMembers n words filled count → has_bit words k ≡ unwrap_or (slice_get (members_of n words) k) false
contains_there n words filled count k are =
    elim (cases_lt k n) [
      | inl within ↦ sym (unwrap_or-slice_get (members_of n words) k false ∙ get_or-members_of n words k false within)
      | inr past ↦ are.past k past ∙ sym (unwrap_or-slice_get (members_of n words) k false ∙ get_or_past (members_of n words) k false (omega (arith, past, length-members_of n words)))
    ]

none_there : (n : ℕ) (words filled : List ℕ) (count k : ℕ) → AreMembers n words filled count → has_bit filled (k / 64) ≡ false → has_bit words k ≡ false
none_there n words filled count k are clear =
    elim (cases_lt 0 (get_or words (k / 64) 0)) [
      | inl more ↦ absurd (false≢true (sym clear ∙ (are.sums (k / 64) ∙ lt-ltb 0 (get_or words (k / 64) 0) more)))
      | inr none ↦ blank_word words k (omega (arith, none))
    ]

pub least_there : (n : ℕ) (words filled : List ℕ) (count w b : ℕ) → AreMembers n words filled count → IsLowest filled w → IsLowestIn words w b → Some b ≡ position is_member (members_of n words)
least_there n words filled count w b are first low =
    let below : (k : ℕ) → k < b → has_bit words k ≡ false = λ k lt.
    elim (cases_eq (k / 64) w) [
      | inl e ↦ low.lowest k e lt
      | inr ne ↦ none_there n words filled count k are (first.lowest (k / 64) (omega (arith, lt, ne, low.here)))
    ] in
    let within : b < n = elim (cases_lt b n) [ inl lt ↦ lt | inr past ↦ absurd (false≢true (sym (are.past b past) ∙ low.set)) ] in
    let long = length-members_of n words in
    let place : position_or_len is_member (members_of n words) ≡ b = position_or_len_is is_member (members_of n words) b false (omega (arith, within, long))
    (λ k lt. get_or-members_of n words k false (omega (arith, lt, within)) ∙ below k lt)
    (λ lt. get_or-members_of n words b false within ∙ low.set) in
    let lt = lt-ltb b (length (members_of n words)) (omega (arith, within, long)) in
    sym ((λ i. cond (nat_lt (place i) (length (members_of n words))) (Some (place i)) None) ∙ ap (λ t. cond t (Some b) None) lt)

pub no_member : (n : ℕ) (words filled : List ℕ) (count : ℕ) → AreMembers n words filled count → HasNone filled → None ≡ position is_member (members_of n words)
no_member n words filled count are none =
    let long = length-members_of n words in
    let place : position_or_len is_member (members_of n words) ≡ n = position_or_len_is is_member (members_of n words) n false (omega (arith, long))
    (λ k lt. get_or-members_of n words k false lt ∙ none_there n words filled count k are (none (k / 64)))
    (λ lt. absurd (omega (arith, lt, long))) in
    let past = le-ltb n (length (members_of n words)) (omega (arith, long)) in
    sym ((λ i. cond (nat_lt (place i) (length (members_of n words))) (Some (place i)) None) ∙ ap (λ t. cond t (Some n) None) past)

clear_of : (b : Bool) → (b ≡ true → b ≡ false) → b ≡ false
clear_of true is = is refl
clear_of false is = refl

pub none_counted : (n : ℕ) (words filled : List ℕ) (count : ℕ) → AreMembers n words filled count → count ≡ 0 → None ≡ position is_member (members_of n words)
none_counted n words filled count are zero =
    let long = length-members_of n words in
    let place : position_or_len is_member (members_of n words) ≡ n = position_or_len_is is_member (members_of n words) n false (omega (arith, long))
    (λ k lt. get_or-members_of n words k false lt ∙ clear_of (has_bit words k) (λ here. absurd (omega (arith, zero, are.counted, count-some n words k lt here))))
    (λ lt. absurd (omega (arith, lt, long))) in
    let past = le-ltb n (length (members_of n words)) (omega (arith, long)) in
    sym ((λ i. cond (nat_lt (place i) (length (members_of n words))) (Some (place i)) None) ∙ ap (λ t. cond t (Some n) None) past)

pub not-blank : (w : ℕ) → not (w == 0) ≡ nat_lt 0 w
not-blank w =
    elim (cases_lt 0 w) [
      | inl more ↦ ap not (ne_eqb w 0 (λ e. absurd (omega (arith, e, more)))) ∙ sym (lt-ltb 0 w more)
      | inr none ↦ let blank : w ≡ 0 = omega (arith, none) in ap not (eq-eqb w 0 blank) ∙ sym (le-ltb 0 w none)
    ]

-- From a number on

member_is : (n : ℕ) (words filled : List ℕ) (count k : ℕ) → AreMembers n words filled count → get_or (members_of n words) k false ≡ has_bit words k
member_is n words filled count k are = elim (cases_lt k n) [
  | inl within ↦ get_or-members_of n words k false within
  | inr past ↦ get_or_past (members_of n words) k false (omega (arith, past, length-members_of n words)) ∙ sym (are.past k past)
]

pub least_is : (n : ℕ) (words filled : List ℕ) (count from b : ℕ) → AreMembers n words filled count → IsLowestFrom words from b → IsLeastFrom (members_of n words) from b
least_is n words filled count from b are low =
    let within : b < n = elim (cases_lt b n) [ inl lt ↦ lt | inr past ↦ absurd (false≢true (sym (are.past b past) ∙ low.set)) ] in
    record {
      past = low.past;
      within = omega (arith, within, length-members_of n words);
      member = member_is n words filled count b are ∙ low.set;
      least = λ k past below. member_is n words filled count k are ∙ low.lowest k past below;
    }

-- in a later word
pub lowest_later : (n : ℕ) (words filled : List ℕ) (count from w b : ℕ) → AreMembers n words filled count → HasNoneInFrom words from → IsLowestFrom filled (from / 64 + 1) w → IsLowestIn words w b →
    IsLowestFrom words from b
lowest_later n words filled count from w b are none first low =
    let here = low.here in
    let later = first.past in
    record {
      past = omega (arith, later, here);
      set = low.set;
      lowest = λ k past below. elim (cases_eq (k / 64) (from / 64)) [
        | inl same ↦ none k past same
        | inr other ↦ elim (cases_eq (k / 64) w) [
          | inl last ↦ low.lowest k last below
          | inr between ↦ none_there n words filled count k are (first.lowest (k / 64) (omega (arith, past, other)) (omega (arith, below, here, between)))
        ]
      ];
    }

pub none_is : (n : ℕ) (words filled : List ℕ) (count from : ℕ) → AreMembers n words filled count → HasNoneInFrom words from → bits.HasNoneFrom filled (from / 64 + 1) → HasNoneFrom (members_of n words) from
none_is n words filled count from are none rest k past = member_is n words filled count k are ∙ elim (cases_eq (k / 64) (from / 64)) [
  | inl same ↦ none k past same
  | inr other ↦ none_there n words filled count k are (rest (k / 64) (omega (arith, past, other)))
]
