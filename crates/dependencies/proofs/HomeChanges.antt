-- The homes of entries, and where lives change.
use Rattle.std.proofs.Common.{◌≡◌, ℕ, zero, suc, ◌<◌, ◌⊎◌, Bool, true, false, cond, List, [], ◌∷◌, ◌++◌, length, drop, map, replicate, Option, Some, None, refl, sym, ◌∙◌, ap, inl, inr}
use Rattle.std.specs.Prelude.{◌||◌, ◌==◌, option_map, slice_index_or, slice_set}
use Rattle.std.proofs.lemmas.Bool.{false≢true, cases_eq, eqb-true}
use Rattle.std.proofs.lemmas.List.{get_or-set_other, get_or-set_same, length-set}
use Rattle.xn_model.specs.Lives.{BlockState, Life, Lives, accepted_at, begun_at, freed, has_entry, life_at, settle, settled_at}
use Rattle.xn_model.specs.Calls.{new_life}
use Rattle.xn_model.proofs.ForCallers.{accepted, accepted_is, change_same, each_at, set_other}
use Rattle.dependencies.specs.Homes.{AreHomes, slot_at, slot_of, homes_with}
use Rattle.dependencies.specs.Pending.{is_dirty, pends}
use Rattle.dependencies.proofs.Dirty.{clean_at, pends_not}
use Rattle.dependencies.proofs.LifeChanges.{begun_with, blank_at, emptied, freed_at}

-- Lives of which nothing is pending that was not

pub fewer_homes : (lives new : Lives) (homes : List (ℕ × ℕ)) → AreHomes lives homes → ((n b : ℕ) → pends n (life_at new b) ≡ true → pends n (life_at lives b) ≡ true) → AreHomes new homes
fewer_homes lives new homes are fewer n b c here home = are n b c (fewer n b here) home

-- A new entry

some_same : (o : Option ℕ) (x y : ℕ) → o ≡ Some x → o ≡ Some y → x ≡ y
some_same o x y a b = cc

chosen : (t : Bool) (x y : ℕ) → cond t (Some x) None ≡ Some y → (t ≡ true) × (x ≡ y)
chosen true x y e = (refl, cc)
chosen false x y e = absurd cc

pub more_homes : (lives new : Lives) (homes : List (ℕ × ℕ)) (number block : ℕ) → slot_of (length homes) number < length homes → AreHomes lives homes → ((b : ℕ) → pends number (life_at lives b) ≡ false) →
    ((n b : ℕ) → pends n (life_at new b) ≡ true → (pends n (life_at lives b) ≡ true) ⊎ ((n ≡ number) × (b ≡ block))) → AreHomes new (homes_with homes number block)
more_homes lives new homes number block within are fresh more n b c here home = elim (cases_eq (slot_of (length homes) n) (slot_of (length homes) number)) [
  | inl same ↦
      let slot : slot_at (homes_with homes number block) n ≡ (number, block) =
      ap (λ j. slice_index_or (homes_with homes number block) (slot_of j n) (0, 0)) long ∙ (ap (λ j. slice_index_or (homes_with homes number block) j (0, 0)) same
      ∙ get_or-set_same homes (slot_of (length homes) number) (number, block) (0, 0) within) in
      let got = chosen (number == n) block c (sym (ap (λ (s : ℕ × ℕ). cond (s.0 == n) (Some s.1) None) slot) ∙ home) in
      let is : number ≡ n = eqb-true number n got.0 in
      elim (more n b here) [
        | inl old ↦ absurd (false≢true (sym (fresh b) ∙ (ap (λ j. pends j (life_at lives b)) is ∙ old)))
        | inr fresh' ↦ sym got.1 ∙ sym fresh'.1
      ]
  | inr apart ↦
      let slot : slot_at (homes_with homes number block) n ≡ slot_at homes n =
      ap (λ j. slice_index_or (homes_with homes number block) (slot_of j n) (0, 0)) long ∙ get_or-set_other homes (slot_of (length homes) number) (slot_of (length homes) n) (number, block) (0, 0) apart in
      elim (more n b here) [
        | inl old ↦ are n b c old (sym (ap (λ (s : ℕ × ℕ). cond (s.0 == n) (Some s.1) None) slot) ∙ home)
        | inr fresh' ↦ absurd (apart (ap (λ j. slot_of (length homes) j) fresh'.0))
      ]
]
  where
    long : length (homes_with homes number block) ≡ length homes
    long = length-set homes (slot_of (length homes) number) (number, block)

-- Changes of lives

pub begun_homes : (lives : Lives) (homes : List (ℕ × ℕ)) (b k : ℕ) → AreHomes lives homes → AreHomes (begun_at lives b k) homes
begun_homes lives homes b k are = fewer_homes lives (begun_at lives b k) homes are (λ n x here. elim (cases_eq x b) [
  | inl same ↦ ap (λ y. pends n (life_at lives y)) same ∙ (sym (begun_pends n (life_at lives b)) ∙ (sym (ap (pends n) (change_same lives b (begun_with k))) ∙ (sym (ap (λ y. pends n (life_at (begun_at lives b k) y)) same) ∙ here)))
  | inr apart ↦ sym (ap (pends n) (set_other lives b x (option_map (begun_with k) (life_at lives b)) apart)) ∙ here
])
  where
    begun_pends : (n : ℕ) (o : Option Life) → pends n (option_map (begun_with k) o) ≡ pends n o
    begun_pends n None = refl
    begun_pends n (Some l) = refl

or_later : (t a : Bool) → a ≡ true → (t || a) ≡ true
or_later true a e = refl
or_later false a e = e

has_dropped : (k : ℕ) (ps : List BlockState) (n : ℕ) → has_entry (drop k ps) n ≡ true → has_entry ps n ≡ true
has_dropped zero ps n e = e
has_dropped (suc k) [] n e = e
has_dropped (suc k) (p ∷ ps) n e = or_later (p.entry == n) (has_entry ps n) (has_dropped k ps n e)

settled_pends : (k n : ℕ) (o : Option Life) → pends n (option_map (settle k) o) ≡ true → pends n o ≡ true
settled_pends k n None e = e
settled_pends k n (Some l) e = has_dropped k l.pending n e

pub settled_homes : (lives : Lives) (homes : List (ℕ × ℕ)) (b k : ℕ) (drops : List ℕ) → AreHomes lives homes → AreHomes (freed (settled_at lives b k) drops) homes
settled_homes lives homes b k drops are = fewer_homes lives (freed (settled_at lives b k) drops) homes are (λ n x here. elim (freed_at (settled_at lives b k) drops x) [
  | inr gone ↦ absurd (false≢true (sym (ap (pends n) gone.0) ∙ here))
  | inl life ↦ elim (cases_eq x b) [
    | inl same ↦ ap (λ y. pends n (life_at lives y)) same ∙ settled_pends k n (life_at lives b)
        (sym (ap (pends n) (change_same lives b (settle k))) ∙ (sym (ap (λ y. pends n (life_at (settled_at lives b k) y)) same) ∙ (sym (ap (pends n) life) ∙ here)))
    | inr apart ↦ sym (ap (pends n) (life ∙ set_other lives b x (option_map (settle k) (life_at lives b)) apart)) ∙ here
  ]
])

pub forgotten_homes : (lives : Lives) (homes : List (ℕ × ℕ)) (b : ℕ) → AreHomes lives homes → AreHomes (slice_set lives b None) homes
forgotten_homes lives homes b are = fewer_homes lives (slice_set lives b None) homes are (λ n x here. elim (cases_eq x b) [
  | inl same ↦ absurd (false≢true (sym (ap (pends n) (ap (life_at (slice_set lives b None)) same ∙ emptied lives b)) ∙ here))
  | inr apart ↦ sym (ap (pends n) (set_other lives b x None apart)) ∙ here
])

or_none : (t : Bool) → (t || false) ≡ true → t ≡ true
or_none true e = refl
or_none false e = e

-- a place holds this life, or none
set_life : (lives : Lives) (b : ℕ) (l : Life) (n : ℕ) → pends n (life_at (slice_set lives b (Some l)) b) ≡ true → has_entry l.pending n ≡ true
set_life [] b l n e = absurd (false≢true e)
set_life (o ∷ os) zero l n e = e
set_life (o ∷ os) (suc b) l n e = set_life os b l n e

pub started_homes : (lives : Lives) (homes : List (ℕ × ℕ)) (b number : ℕ) (f : Option ℕ) (ty : ℕ) (bytes : List ℕ) → slot_of (length homes) number < length homes → AreHomes lives homes →
    ((x : ℕ) → pends number (life_at lives x) ≡ false) → AreHomes (slice_set lives b (Some (new_life number f ty bytes))) (homes_with homes number b)
started_homes lives homes b number f ty bytes within are fresh =
    let life = new_life number f ty bytes in
    more_homes lives (slice_set lives b (Some life)) homes number b within are fresh (λ n x here. elim (cases_eq x b) [
      | inl same ↦ inr (sym (eqb-true number n (or_none (number == n) (set_life lives b life n (sym (ap (λ y. pends n (life_at (slice_set lives b (Some life)) y)) same) ∙ here)))), same)
      | inr apart ↦ inl (sym (ap (pends n) (set_other lives b x (Some life) apart)) ∙ here)
    ])

or_parts : (t a : Bool) → (t || a) ≡ true → (t ≡ true) ⊎ (a ≡ true)
or_parts true a e = inl refl
or_parts false a e = inr e

has_pushed : (ps : List BlockState) (s : BlockState) (n : ℕ) → has_entry (ps ++ s ∷ []) n ≡ true → (has_entry ps n ≡ true) ⊎ (s.entry ≡ n)
has_pushed [] s n e = inr (eqb-true s.entry n (or_none (s.entry == n) e))
has_pushed (p ∷ ps) s n e = elim (or_parts (p.entry == n) (has_entry (ps ++ s ∷ []) n) e) [
  | inl here ↦ inl (ap (λ t. t || has_entry ps n) here)
  | inr rest ↦ elim (has_pushed ps s n rest) [
    | inl old ↦ inl (or_later (p.entry == n) (has_entry ps n) old)
    | inr is ↦ inr is
  ]
]

accepted_pends : (b x : ℕ) (s : BlockState) (n : ℕ) (o : Option Life) → pends n (option_map (accepted b s x) o) ≡ true → (pends n o ≡ true) ⊎ ((n ≡ s.entry) × (x ≡ b))
accepted_pends b x s n None e = absurd (false≢true e)
accepted_pends b x s n (Some l) e = by (x == b) refl e
  where
    by : (t : Bool) → (x == b) ≡ t → has_entry (cond t (l.pending ++ s ∷ []) l.pending) n ≡ true → (has_entry l.pending n ≡ true) ⊎ ((n ≡ s.entry) × (x ≡ b))
    by false is e = inl e
    by true is e = elim (has_pushed l.pending s n e) [
      | inl old ↦ inl old
      | inr new ↦ inr (sym new, eqb-true x b is)
    ]

pub accepted_homes : (lives : Lives) (homes : List (ℕ × ℕ)) (b : ℕ) (s : BlockState) → slot_of (length homes) s.entry < length homes → AreHomes lives homes →
    ((x : ℕ) → pends s.entry (life_at lives x) ≡ false) → AreHomes (accepted_at lives b s) (homes_with homes s.entry b)
accepted_homes lives homes b s within are fresh =
    more_homes lives (accepted_at lives b s) homes s.entry b within are fresh (λ n x here. accepted_pends b x s n (life_at lives x)
    (sym (ap (pends n) (ap (λ ls. life_at ls x) (accepted_is lives b s) ∙ each_at (accepted b s) lives x)) ∙ here))

pub clean_homes : (lives : Lives) (dirty : List Bool) (homes : List (ℕ × ℕ)) (k : ℕ) → dirty ≡ map is_dirty lives → dirty ≡ replicate k false → AreHomes lives homes
clean_homes lives dirty homes k e blank n b c here home =
    absurd (false≢true (sym (pends_not n (life_at lives b) (clean_at dirty lives b e (ap (λ (ts : List Bool). slice_index_or ts b false) blank ∙ blank_at k b))) ∙ here))
