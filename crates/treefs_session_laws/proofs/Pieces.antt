-- Bytes that stand over others from a byte on: put there, or written, one piece after another.
use Rattle.std.proofs.Common.{◌≡◌, ◌≢◌, ◌⊎◌, ℕ, ◌+◌, ◌-◌, ◌<◌, ◌≤◌, Bool, true, false, ◌&&◌, List, ◌++◌, length, drop, take, refl, sym, ◌∙◌, ap, inl, inr, arith, subst, if◌then◌else◌}
use Rattle.std.proofs.Common.{get_or-drop, le-leb, lt-ltb, le-ltb, length-append, length-drop, length-take-le, eq-eqb, ne_eqb}
use Rattle.std.specs.Prelude.{max, nat_le, nat_lt, slice_index, ◌==◌}
use Rattle.std.proofs.lemmas.Bool.{cases_eq, cases_lt, lt-leb}
use Rattle.std.proofs.lemmas.List.{ext_get_or, get_or-append_right, get_or-take, get_or_append_left, get_or_past}
use Rattle.std.proofs.lemmas.List.FromFn.{get_or-map-range_with_len, length-map-range_with_len}
use Rattle.treefs_model.specs.Changes.{overwritten, resized}
use Rattle.treefs_values.specs.Bytes.{byte_over, is_within, put_within}
use Rattle.treefs_laws.specs.Orphans.{AreCleared}
use Rattle.treefs_session_laws.proofs.Resized.{get_resized, length_resized}

-- as many bytes as before; or the last one that is written is there, where some are
abbrev pub longer : ℕ → ℕ → ℕ → ℕ
longer at k size = if k == 0 then size else max size (at + k)

pub longer_is : (at k size : ℕ) → ((k ≡ 0) × (longer at k size ≡ size)) ⊎ ((k ≢ 0) × (longer at k size ≡ max size (at + k)))
longer_is at k size = elim (cases_eq k 0) [
  | inl none ↦ inl (none, ap (λ t. if t then size else max size (at + k)) (eq-eqb k 0 none))
  | inr some ↦ inr (some, ap (λ t. if t then size else max size (at + k)) (ne_eqb k 0 some))
]

longer_then : (at t k size : ℕ) → longer (at + t) k (longer at t size) ≡ longer at (t + k) size
longer_then at t k size =
    elim (longer_is at t size) [
      | inl (none, first) ↦ elim (longer_is (at + t) k (longer at t size)) [
        | inl (none', second) ↦ elim (longer_is at (t + k) size) [ inl (z, all) ↦ omega arith | inr (z, all) ↦ absurd (z (omega arith)) ]
        | inr (some', second) ↦ elim (longer_is at (t + k) size) [ inl (z, all) ↦ absurd (some' (omega arith)) | inr (z, all) ↦ omega arith ]
      ]
      | inr (some, first) ↦ elim (longer_is (at + t) k (longer at t size)) [
        | inl (none', second) ↦ elim (longer_is at (t + k) size) [ inl (z, all) ↦ absurd (some (omega arith)) | inr (z, all) ↦ omega arith ]
        | inr (some', second) ↦ elim (longer_is at (t + k) size) [ inl (z, all) ↦ absurd (some (omega arith)) | inr (z, all) ↦ omega arith ]
      ]
    ]

-- so many of the bytes stand over the old ones, and so many are there then
pub record IsOver (at : ℕ) (bytes old : List ℕ) (count size : ℕ) (new : List ℕ) : Type 0 where
  pub long : length new ≡ size
  pub inside : (i : ℕ) → i < size → at ≤ i → i < at + count → slice_index new i ≡ slice_index bytes (i - at)
  pub outside : (i : ℕ) → i < size → (i < at) ⊎ (at + count ≤ i) → slice_index new i ≡ slice_index old i

over_once : (at : ℕ) (bytes old : List ℕ) (count size : ℕ) (one other : List ℕ) → IsOver at bytes old count size one → IsOver at bytes old count size other →
    one ≡ other
over_once at bytes old count size one other a b =
    ext_get_or 0 one other (a.long ∙ sym b.long) (λ i lt. let l = a.long in let few : i < size = omega arith in elim (cases_lt i at) [
      | inl below ↦ a.outside i few (inl below) ∙ sym (b.outside i few (inl below))
      | inr above ↦ elim (cases_lt i (at + count)) [
        | inl within ↦ a.inside i few above within ∙ sym (b.inside i few above within)
        | inr past ↦ a.outside i few (inr past) ∙ sym (b.outside i few (inr past))
      ]
    ])

-- some are put

among : (first count p : ℕ) → first ≤ p → p < first + count → is_within first count p ≡ true
among first count p low high = (λ j. le-leb first p low j && lt-ltb p (first + count) high j)

apart : (first count p : ℕ) → (p < first) ⊎ (first + count ≤ p) → is_within first count p ≡ false
apart first count p (inl below) = ap (λ b. b && nat_lt p (first + count)) (lt-leb first p below)
apart first count p (inr past) = ap (λ b. nat_le first p && b) (le-ltb p (first + count) past) ∙ both (nat_le first p)
  where
    both : (b : Bool) → (b && false) ≡ false
    both true = refl
    both false = refl

put_over : (at : ℕ) (bytes old : List ℕ) (count : ℕ) → count ≤ length bytes → IsOver at bytes old count (length old) (put_within at (take count bytes) old)
put_over at bytes old count few = record {
  long = length-map-range_with_len over 0 (length old);
  inside = λ i lt low high.
      byte_at i lt
      ∙ (ap (λ t. if t then slice_index (take count bytes) (i - at) else slice_index old i)
      (among at (length (take count bytes)) i low (let l = long in omega arith)) ∙ get_or-take count bytes (i - at) 0 (omega arith));
  outside = λ i lt beside.
      byte_at i lt
      ∙ ap (λ t. if t then slice_index (take count bytes) (i - at) else slice_index old i)
      (apart at (length (take count bytes)) i (elim beside [ inl below ↦ inl below | inr past ↦ inr (let l = long in omega arith) ]));
}
  where
    over : ℕ → ℕ
    over = byte_over at (take count bytes) (slice_index old)

    long : length (take count bytes) ≡ count
    long = length-take-le count bytes few

    byte_at : (i : ℕ) → i < length old → slice_index (put_within at (take count bytes) old) i ≡ byte_over at (take count bytes) (slice_index old) i
    byte_at i lt = get_or-map-range_with_len (byte_over at (take count bytes) (slice_index old)) 0 (length old) i i 0 lt (omega arith)

-- some are written

written_over : (at : ℕ) (bytes old : List ℕ) (count : ℕ) → count ≤ length bytes →
    IsOver at bytes old count (max (length old) (at + count)) (overwritten old at (take count bytes))
written_over at bytes old count few = record {
  long = whole;
  inside = λ i lt low high.
      get_or_append_left (resized at old ++ piece) rest 0 i (let f = front in omega arith)
      ∙ (get_or-append_right (resized at old) piece at i 0 (length_resized at old) low ∙ get_or-take count bytes (i - at) 0 (omega arith));
  outside = λ i lt beside. elim beside [
    | inl below ↦
        get_or_append_left (resized at old ++ piece) rest 0 i (let f = front in omega arith)
        ∙ (get_or_append_left (resized at old) piece 0 i (let l = length_resized at old in omega arith) ∙ get_resized at old i below)
    | inr past ↦
        get_or-append_right (resized at old ++ piece) rest (at + count) i 0 front past
        ∙ (get_or-drop (at + length piece) old (i - (at + count)) 0
        ∙ ap (slice_index old) (let l = long in let same : at + length piece + (i - (at + count)) ≡ i = omega arith in same))
  ];
}
  where
    piece : List ℕ
    piece = take count bytes

    rest : List ℕ
    rest = drop (at + length piece) old

    long : length piece ≡ count
    long = length-take-le count bytes few

    front : length (resized at old ++ piece) ≡ at + count
    front = length-append (resized at old) piece ∙ (λ j. length_resized at old j + long j)

    whole : length (overwritten old at piece) ≡ max (length old) (at + count)
    whole =
        let parts = length-append (resized at old ++ piece) rest in
        let f = front in
        let l = long in
        let r = length-drop (at + length piece) old in
        omega arith

-- one piece after another
over_then : (at t : ℕ) (bytes old middle new : List ℕ) (m size k later : ℕ) → IsOver at bytes old m size middle →
    IsOver (at + t) (drop t bytes) middle k later new → t ≤ m → (t ≡ 0) ⊎ (at + t ≤ size) → size ≤ later → later ≤ max size (at + t + k) →
    length old ≤ size → IsOver at bytes old (max m (t + k)) later new
over_then at t bytes old middle new m size k later first second less start more end enough = record {
  long = second.long;
  inside = λ i lt low high. elim (cases_lt i (at + t)) [
    | inl before ↦ second.outside i lt (inl before) ∙ first.inside i (in_first i lt low (inl before)) low (omega arith)
    | inr from ↦ elim (cases_lt i (at + t + k)) [
      | inl within ↦
          second.inside i lt from within
          ∙ (get_or-drop t bytes (i - (at + t)) 0 ∙ ap (slice_index bytes) (let same : t + (i - (at + t)) ≡ i - at = omega arith in same))
      | inr past ↦ second.outside i lt (inr past) ∙ first.inside i (in_first i lt low (inr past)) low (omega arith)
    ]
  ];
  outside = λ i lt beside.
      second.outside i lt (elim beside [ inl below ↦ inl (omega arith) | inr past ↦ inr (omega arith) ]) ∙ elim (cases_lt i size) [
        | inl there ↦ first.outside i there (elim beside [ inl below ↦ inl below | inr past ↦ inr (omega arith) ])
        | inr none ↦ get_or_past middle i 0 (let l = first.long in omega arith) ∙ sym (get_or_past old i 0 (omega arith))
      ];
}
  where
    in_first : (i : ℕ) → i < later → at ≤ i → (i < at + t) ⊎ (at + t + k ≤ i) → i < size
    in_first i lt low (inr past) = omega arith
    in_first i lt low (inl before) = elim start [ inl none ↦ absurd (omega arith) | inr there ↦ omega arith ]

over_cleared : (at : ℕ) (bytes old left : List ℕ) (count size : ℕ) (one other : List ℕ) → IsOver at bytes old count size one →
    IsOver at bytes left count size other → AreCleared old left → AreCleared one other
over_cleared at bytes old left count size one other a b cleared = (
  b.long ∙ sym a.long,
  λ i. elim (cases_lt i size) [
    | inl lt ↦ elim (cases_lt i at) [
      | inl below ↦ beside i lt (inl below)
      | inr above ↦ elim (cases_lt i (at + count)) [
        | inl within ↦ inl (b.inside i lt above within ∙ sym (a.inside i lt above within))
        | inr past ↦ beside i lt (inr past)
      ]
    ]
    | inr past ↦ inr (get_or_past other i 0 (let l = b.long in omega arith))
  ],
)
  where
    beside : (i : ℕ) → i < size → (i < at) ⊎ (at + count ≤ i) → (slice_index other i ≡ slice_index one i) ⊎ (slice_index other i ≡ 0)
    beside i lt h = elim (cleared.1 i) [
      | inl same ↦ inl (b.outside i lt h ∙ (same ∙ sym (a.outside i lt h)))
      | inr none ↦ inr (b.outside i lt h ∙ none)
    ]

-- The first k of the bytes are written from a byte on, and so many may be put

pub record IsWriting (at : ℕ) (bytes : List ℕ) (k count : ℕ) (change : List ℕ → List ℕ) : Type 0 where
  pub over : (old : List ℕ) → IsOver at bytes old count (longer at k (length old)) (change old)
  pub some : k ≤ count
  pub few : count ≤ length bytes

pub nothing_writing : (at : ℕ) (bytes : List ℕ) → IsWriting at bytes 0 0 (λ old. old)
nothing_writing at bytes = record {
  over = λ old. record { long = refl; inside = λ i lt low high. absurd (omega arith); outside = λ i lt beside. refl };
  some = omega arith;
  few = omega arith;
}

pub put_writing : (at : ℕ) (bytes : List ℕ) (count : ℕ) → count ≤ length bytes → IsWriting at bytes 0 count (put_within at (take count bytes))
put_writing at bytes count few = record { over = λ old. put_over at bytes old count few; some = omega arith; few = few }

pub written_writing : (at : ℕ) (bytes : List ℕ) (k : ℕ) → k ≢ 0 → k ≤ length bytes → IsWriting at bytes k k (λ old. overwritten old at (take k bytes))
written_writing at bytes k some few = record {
  over = λ old.
      subst (λ size. IsOver at bytes old k size (overwritten old at (take k bytes))) (sym (longer_some old)) (written_over at bytes old k few);
  some = omega arith;
  few = few;
}
  where
    longer_some : (old : List ℕ) → longer at k (length old) ≡ max (length old) (at + k)
    longer_some old = ap (λ t. if t then length old else max (length old) (at + k)) (ne_eqb k 0 some)

pub writing_then : (at : ℕ) (bytes : List ℕ) (t m : ℕ) (change : List ℕ → List ℕ) (k n : ℕ) (change' : List ℕ → List ℕ) → IsWriting at bytes t m change →
    IsWriting (at + t) (drop t bytes) k n change' → IsWriting at bytes (t + k) (max m (t + n)) (λ old. change' (change old))
writing_then at bytes t m change k n change' first second = record {
  over = λ old.
      let a = first.over old in
      let b = second.over (change old) in
      let size : longer (at + t) k (length (change old)) ≡ longer at (t + k) (length old) =
      ap (longer (at + t) k) a.long ∙ longer_then at t k (length old) in
      let l = a.long in
      subst (λ s. IsOver at bytes old (max m (t + n)) s (change' (change old))) size
      (over_then at t bytes old (change old) (change' (change old)) m (longer at t (length old)) n (longer (at + t) k (length (change old))) a b first.some
      (starts old) (grows old l) (ends old l) (holds old));
  some = let f = first.some in let s = second.some in omega arith;
  few = let f = first.few in let g = first.some in let s = second.few in let d = length-drop t bytes in omega arith;
}
  where
    starts : (old : List ℕ) → (t ≡ 0) ⊎ (at + t ≤ longer at t (length old))
    starts old = elim (longer_is at t (length old)) [ inl (none, is) ↦ inl none | inr (some, is) ↦ inr (omega arith) ]

    grows : (old : List ℕ) → length (change old) ≡ longer at t (length old) → longer at t (length old) ≤ longer (at + t) k (length (change old))
    grows old l = elim (longer_is (at + t) k (length (change old))) [ inl (none, is) ↦ omega arith | inr (some, is) ↦ omega arith ]

    ends : (old : List ℕ) → length (change old) ≡ longer at t (length old) →
        longer (at + t) k (length (change old)) ≤ max (longer at t (length old)) (at + t + n)
    ends old l = let s = second.some in
        elim (longer_is (at + t) k (length (change old))) [ inl (none, is) ↦ omega arith | inr (some, is) ↦ omega arith ]

    holds : (old : List ℕ) → length old ≤ longer at t (length old)
    holds old = elim (longer_is at t (length old)) [ inl (none, is) ↦ omega arith | inr (some, is) ↦ omega arith ]

pub writing_cleared : (at : ℕ) (bytes : List ℕ) (k count : ℕ) (change : List ℕ → List ℕ) → IsWriting at bytes k count change → (old left : List ℕ) →
    AreCleared old left → AreCleared (change old) (change left)
writing_cleared at bytes k count change is old left cleared =
    over_cleared at bytes old left count (longer at k (length old)) (change old) (change left) (is.over old)
    (subst (λ size. IsOver at bytes left count (longer at k size) (change left)) cleared.0 (is.over left)) cleared

-- What the bytes are then

pub put_is : (at : ℕ) (bytes : List ℕ) (count : ℕ) (change : List ℕ → List ℕ) → IsWriting at bytes 0 count change → (old : List ℕ) →
    change old ≡ put_within at (take count bytes) old
put_is at bytes count change is old =
    over_once at bytes old count (length old) (change old) (put_within at (take count bytes) old) (is.over old) (put_over at bytes old count is.few)

pub written_is : (at : ℕ) (bytes : List ℕ) (k count : ℕ) (change : List ℕ → List ℕ) → k ≢ 0 → IsWriting at bytes k count change → (old : List ℕ) →
    change old ≡ put_within at (take count bytes) (overwritten old at (take k bytes))
written_is at bytes k count change some is old =
    let less = is.some in
    let size : longer at k (length old) ≡ max (length old) (at + k) = ap (λ t. if t then length old else max (length old) (at + k)) (ne_eqb k 0 some) in
    let w = written_over at bytes old k (let f = is.few in omega arith) in
    let middle : List ℕ = overwritten old at (take k bytes) in
    let p = put_over at bytes (overwritten old at (take k bytes)) count is.few in
    let start : at + 0 ≡ at = omega arith in
    let most : max k (0 + count) ≡ count = omega arith in
    let l = w.long in
    over_once at bytes old count (max (length old) (at + k)) (change old) (put_within at (take count bytes) (overwritten old at (take k bytes)))
    (subst (λ s. IsOver at bytes old count s (change old)) size (is.over old))
    (subst (λ c. IsOver at bytes old c (max (length old) (at + k)) (put_within at (take count bytes) (overwritten old at (take k bytes)))) most
    (over_then at 0 bytes old (overwritten old at (take k bytes)) (put_within at (take count bytes) (overwritten old at (take k bytes))) k
    (max (length old) (at + k)) count (max (length old) (at + k)) w
    (subst (λ s. IsOver (at + 0) bytes (overwritten old at (take k bytes)) count s (put_within at (take count bytes) (overwritten old at (take k bytes)))) l
    (subst (λ a. IsOver a bytes (overwritten old at (take k bytes)) count (length (overwritten old at (take k bytes)))
    (put_within at (take count bytes) (overwritten old at (take k bytes)))) (sym start) p))
    (omega arith) (inl refl) (omega arith) (omega arith) (omega arith)))

pub all_written : (at : ℕ) (bytes : List ℕ) (count : ℕ) (change : List ℕ → List ℕ) → length bytes ≢ 0 → IsWriting at bytes (length bytes) count change →
    (old : List ℕ) → change old ≡ overwritten old at (take (length bytes) bytes)
all_written at bytes count change some is old =
    let less = is.some in
    let few = is.few in
    let all : count ≡ length bytes = omega arith in
    let size : longer at (length bytes) (length old) ≡ max (length old) (at + length bytes) =
    ap (λ t. if t then length old else max (length old) (at + length bytes)) (ne_eqb (length bytes) 0 some) in
    over_once at bytes old (length bytes) (max (length old) (at + length bytes)) (change old) (overwritten old at (take (length bytes) bytes))
    (subst (λ s. IsOver at bytes old (length bytes) s (change old)) size
    (subst (λ c. IsOver at bytes old c (longer at (length bytes) (length old)) (change old)) all (is.over old)))
    (written_over at bytes old (length bytes) (omega arith))
