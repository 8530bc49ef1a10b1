-- Candidates: what is none is not ready, and blocks come and go.
use Rattle.std.proofs.Common.{◌≡◌, ℕ, zero, suc, ◌+◌, ◌<◌, ◌≤◌, ◌⊎◌, Bool, true, false, List, [], ◌∷◌, length, Option, Some, None, refl, sym, ◌∙◌, ap, arith, inl, inr, subst, slice_get}
use Rattle.std.specs.Prelude.{◌&&◌, ◌||◌, ◌==◌, Contains, not, is_none, is_some, nat_lt, option_map, slice_set, slice_index_or}
use Rattle.std.specs.List.{list_all, list_any}
use Rattle.std.proofs.lemmas.Bool.{false≢true, cases_eq, cases_lt, lt-ltb}
use Rattle.std.proofs.lemmas.List.{length-set}
use Rattle.std.proofs.lemmas.Option.{slice_get_within}
use Rattle.xn_model.specs.Root.{has_type}
use Rattle.xn_model.specs.Lives.{BlockState, Life, Lives, durable_bytes, has_durable, has_entry, is_after_met, is_all_durable, is_type_met, life_at, no_states, root_on_disk, safe_count}
use Rattle.xn_model.specs.Calls.{first_pending, is_ready, life_pending}
use Rattle.xn_model.proofs.ForCallers.{all_at, place_from}
use Rattle.block_cache.specs.declared.life.Facts.{Facts}
use Rattle.block_cache.specs.Views.{facts_of}
use Rattle.block_cache.specs.Claims.{ClaimValue, claim_of}
use Rattle.free_map.specs.Members.{HasNoneFrom, IsLeastFrom}
use Rattle.dependencies.specs.WaitLists.{at, Releases}
use Rattle.dependencies.proofs.WaitChains.{at_other, at_same, within}
use Rattle.dependencies.specs.Candidates.{AreCandidates, CandidatesValue, IsAccounted, Parks, Wakes, is_candidate, is_idle_with_entries}
use Rattle.dependencies.specs.Pending.{pends}
use Rattle.dependencies.specs.Safety.{is_claim_safe, is_safe_at, life_type}
use Rattle.dependencies.specs.Waiting.{Misses, WaitsFor, first_of}
use Rattle.dependencies.proofs.Dirty.{FailsBelow}
use Rattle.dependencies.proofs.Numbered.{pending_found}
use Rattle.dependencies.proofs.Prefixes.{rest_safe, safe_more, safe_stop}

-- Rows of truth values

pub set_there : (ts : List Bool) (b k : ℕ) (t : Bool) → (k ≡ b → ⊥) → slice_index_or (slice_set ts b t) k false ≡ slice_index_or ts k false
set_there [] b k t ne = refl
set_there (x ∷ xs) zero zero t ne = absurd (ne refl)
set_there (x ∷ xs) zero (suc k) t ne = refl
set_there (x ∷ xs) (suc b) zero t ne = refl
set_there (x ∷ xs) (suc b) (suc k) t ne = set_there xs b k t (λ e. ne (ap suc e))

pub set_here : (ts : List Bool) (b : ℕ) (t : Bool) → b < length ts → slice_index_or (slice_set ts b t) b false ≡ t
set_here [] b t lt = absurd (omega arith)
set_here (x ∷ xs) zero t lt = refl
set_here (x ∷ xs) (suc b) t lt = set_here xs b t (omega (arith, lt))

-- Whether the first entry is safe decides whether any is

none_there : (o : Option Life) → life_pending o ≡ 0 → first_of o ≡ None
none_there None e = refl
none_there (Some l) e = by l.pending e
  where
    by : (ps : List BlockState) → length ps ≡ 0 → option_map claim_of (slice_get ps 0) ≡ None
    by [] e = refl
    by (p ∷ ps) e = absurd (omega arith)

pub ready_is : (lives : Lives) (l : Life) → is_ready lives (Some l) ≡ (is_none l.begun && is_safe_at lives (Some l) 0)
ready_is lives l = ap (λ t. is_none l.begun && t) (by (is_safe_at lives (Some l) 0) refl (cases_lt 0 (length l.pending)))
  where
    by : (t : Bool) → is_safe_at lives (Some l) 0 ≡ t → ((0 < length l.pending) ⊎ (length l.pending ≤ 0)) → nat_lt 0 (rest_safe lives 0 (Some l)) ≡ is_safe_at lives (Some l) 0
    by t e (inr none) = nothing l.pending none
      where
        nothing : (ps : List BlockState) → length ps ≤ 0 → nat_lt 0 (safe_count lives l.ty [] ps) ≡ is_safe_at lives (Some (record l { pending = ps })) 0
        nothing [] none = refl
        nothing (p ∷ ps) none = absurd (omega (arith, none))
    by true e (inl some) = ap (nat_lt 0) (safe_more lives (Some l) 0 some e) ∙ (lt-ltb 0 (1 + rest_safe lives (0 + 1) (Some l)) (omega arith) ∙ sym e)
    by false e (inl some) = ap (nat_lt 0) (safe_stop lives (Some l) 0 some e) ∙ sym e

-- What a block misses makes its first entry unsafe

not_all : {A : Type 0} (p : A → Bool) (xs : List A) (x : A) → Contains xs x → p x ≡ false → list_all p xs ≡ false
not_all p xs x i fails = by (list_all p xs) refl
  where
    by : (t : Bool) → list_all p xs ≡ t → list_all p xs ≡ false
    by true e = absurd (false≢true (sym fails ∙ all_at p xs x e i))
    by false e = e

pub and_false : (t : Bool) → (t && false) ≡ false
and_false true = refl
and_false false = refl

pub pends_within : (lives : Lives) (c n : ℕ) → pends n (life_at lives c) ≡ true → c < length lives
pends_within lives c n e = by (life_at lives c) refl e
  where
    by : (o : Option Life) → life_at lives c ≡ o → pends n o ≡ true → c < length lives
    by None here e = absurd (false≢true e)
    by (Some l) here e = slice_get_within lives c (Some l) (place_from lives c l here)

none_first : (o : Option Life) (n : ℕ) → has_entry (first_pending 0 o) n ≡ false
none_first None n = refl
none_first (Some l) n = refl

-- before the first entry stands none that could have a type
none_typed : (lives : Lives) (t u : ℕ) (o : Option Life) → has_type (root_on_disk lives) u ≡ false → is_type_met lives t (first_pending 0 o) u ≡ false
none_typed lives t u o lacks = (λ i. lacks i || ((t == 0) && none o i)) ∙ and_false (t == 0)
  where
    none : (o : Option Life) → list_any (λ (s : BlockState). has_type s.bytes u) (first_pending 0 o) ≡ false
    none None = refl
    none (Some l) = refl

pub unsafe_claim : (lives : Lives) (t : ℕ) (o : Option Life) (claim : ClaimValue) (c : ℕ) → Misses claim c (life_at lives c) → is_claim_safe lives t (first_pending 0 o) claim ≡ false
unsafe_claim lives t o claim c misses = by misses
  where
    states : Bool
    states = list_all (λ (p : ℕ × ℕ). has_durable lives p.0) claim.adds

    types : Bool
    types = list_all (λ (p : ℕ × ℕ). is_type_met lives t (first_pending 0 o) p.1) claim.adds

    drops : Bool
    drops = list_all (is_all_durable lives) claim.drops

    after : Bool
    after = is_after_met lives (first_pending 0 o) claim.after

    by : Misses claim c (life_at lives c) → ((states && types) && (drops && after)) ≡ false
    by (inl added) = ap (λ t. (t && types) && (drops && after)) (not_all (λ (p : ℕ × ℕ). has_durable lives p.0) claim.adds (c, added.0) added.1 added.2)
    by (inr (inl lacks)) =
        let u = lacks.1.1 in
        let unmet = none_typed lives t u o (ap (λ k. has_type (durable_bytes (life_at lives k)) u) (sym lacks.0) ∙ lacks.1.3) in
        ap (λ t. (states && t) && (drops && after)) (not_all (λ (p : ℕ × ℕ). is_type_met lives t (first_pending 0 o) p.1) claim.adds (lacks.1.0, u) lacks.1.2 unmet)
        ∙ ap (λ t. t && (drops && after)) (and_false states)
    by (inr (inr (inl dropped))) = ap (λ t. (states && types) && (t && after)) (not_all (is_all_durable lives) claim.drops c dropped.0 dropped.1) ∙ and_false (states && types)
    by (inr (inr (inr later))) =
        let found = pending_found lives later.0 c (pends_within lives c later.0 later.2) later.2 in
        let unmet : after ≡ false = ap (is_after_met lives (first_pending 0 o)) later.1 ∙ ((λ i. not (found i) || none_first o later.0 i)) in
        ap (λ t. (states && types) && (drops && t)) unmet ∙ (ap (λ t. (states && types) && t) (and_false drops) ∙ and_false (states && types))

pub unsafe_first : (lives : Lives) (b c : ℕ) → WaitsFor lives b c → is_safe_at lives (life_at lives b) 0 ≡ false
unsafe_first lives b c w = by (life_at lives b) w.first
  where
    by : (o : Option Life) → first_of o ≡ Some w.claim → is_safe_at lives o 0 ≡ false
    by o e = ap (λ x. is_safe_with x) e ∙ unsafe_claim lives (life_type o) o w.claim c w.misses
      where
        is_safe_with : Option ClaimValue → Bool
        is_safe_with x = elim x [ None ↦ false | Some claim ↦ is_claim_safe lives (life_type o) (first_pending 0 o) claim ]

-- What is no candidate is not ready

idle_ready : (lives : Lives) (o : Option Life) → is_idle_with_entries o ≡ false → is_ready lives o ≡ false
idle_ready lives None e = refl
idle_ready lives (Some l) e = by (is_none l.begun) l.pending e
  where
    by : (t : Bool) (ps : List BlockState) → (t && not (no_states ps)) ≡ false → (t && nat_lt 0 (safe_count lives l.ty [] ps)) ≡ false
    by true [] e = refl
    by true (p ∷ ps) e = absurd (false≢true (sym e))
    by false ps e = refl

waiting_ready : (lives : Lives) (o : Option Life) → is_safe_at lives o 0 ≡ false → is_ready lives o ≡ false
waiting_ready lives None e = refl
waiting_ready lives (Some l) e = ready_is lives l ∙ (ap (λ t. is_none l.begun && t) e ∙ and_false (is_none l.begun))

pub unready : (lives : Lives) (q : CandidatesValue) (k : ℕ) → AreCandidates lives q → is_candidate q k ≡ false → is_ready lives (life_at lives k) ≡ false
unready lives q k are out = elim (are.each k) [
  | inl in_set ↦ absurd (false≢true (sym out ∙ in_set))
  | inr rest ↦ elim rest [
    | inl idle ↦ idle_ready lives (life_at lives k) idle
    | inr waits ↦ waiting_ready lives (life_at lives k) (unsafe_first lives k waits.0 waits.2)
  ]
]

-- Walks over candidates

pub ready_within : (lives : Lives) (q : CandidatesValue) (from place : ℕ) → AreCandidates lives q → IsLeastFrom q.blocks from place → place < length lives
ready_within lives q from place are next = omega (arith, next.within, are.long)

pub none_before : (lives : Lives) (q : CandidatesValue) (from place : ℕ) → AreCandidates lives q → IsLeastFrom q.blocks from place → FailsBelow (is_ready lives) lives from →
    FailsBelow (is_ready lives) lives place
none_before lives q from place are next before = λ k below. elim (cases_lt k from) [
  | inl lt ↦ before k lt
  | inr past ↦ unready lives q k are (next.least k past below)
]

pub none_through : (lives : Lives) (q : CandidatesValue) (from place : ℕ) → AreCandidates lives q → IsLeastFrom q.blocks from place → FailsBelow (is_ready lives) lives from →
    is_ready lives (life_at lives place) ≡ false → FailsBelow (is_ready lives) lives (place + 1)
none_through lives q from place are next before here = λ k below. elim (cases_lt k place) [
  | inl lt ↦ none_before lives q from place are next before k lt
  | inr past ↦ let same : k ≡ place = omega (arith, below, past) in ap (λ j. is_ready lives (life_at lives j)) same ∙ here
]

pub none_ready : (lives : Lives) (q : CandidatesValue) (from n : ℕ) → AreCandidates lives q → HasNoneFrom q.blocks from → FailsBelow (is_ready lives) lives from → FailsBelow (is_ready lives) lives n
none_ready lives q from n are none before = λ k below. elim (cases_lt k from) [
  | inl lt ↦ before k lt
  | inr past ↦ unready lives q k are (none k past)
]

-- A block is put on a list

pub parked : (lives : Lives) (old new : CandidatesValue) (b c : ℕ) → AreCandidates lives old → WaitsFor lives b c → (new ≡ old) ⊎ Parks old new b c → AreCandidates lives new
parked lives old new b c are waits (inl same) = subst (AreCandidates lives) (sym same) are
parked lives old new b c are waits (inr parks) = record {
  long = ap length parks.blocks ∙ (length-set old.blocks b false ∙ are.long);
  each = λ k. elim (cases_eq k b) [
    | inl same ↦ subst (IsAccounted lives new) (sym same) (inr (inr (c, ap (λ row. at row b) parks.waits ∙ at_same old.waits b (Some c) parks.within, waits)))
    | inr apart ↦ elim (are.each k) [
      | inl in_set ↦ inl (ap (λ ts. slice_index_or ts k false) parks.blocks ∙ (set_there old.blocks b k false apart ∙ in_set))
      | inr rest ↦ inr (elim rest [
        | inl idle ↦ inl idle
        | inr w ↦ inr (w.0, ap (λ row. at row k) parks.waits ∙ (at_other old.waits b k (Some c) apart ∙ w.1), w.2)
      ])
    ]
  ];
}

-- Blocks are woken

abbrev pub values : List Bool → List (Option ℕ) → CandidatesValue
values blocks waits = record { blocks = blocks; waits = waits }

-- each block is a candidate, or it is as it was
abbrev pub IsAsBefore : CandidatesValue → CandidatesValue → ℕ → Type 0
IsAsBefore old new b = (is_candidate new b ≡ true) ⊎ ((is_candidate new b ≡ is_candidate old b) × (at new.waits b ≡ at old.waits b))

pub one_woken : (old now new : CandidatesValue) (other b : ℕ) → length now.waits ≡ length now.blocks → new.blocks ≡ slice_set now.blocks b true → Releases now.waits new.waits other b →
    ((k : ℕ) → IsAsBefore old now k) → (k : ℕ) → IsAsBefore old new k
one_woken old now new other b long blocks released before k = elim (cases_eq k b) [
  | inl same ↦ inl (ap (λ ts. slice_index_or ts k false) blocks ∙ (ap (slice_index_or (slice_set now.blocks b true) k) refl
      ∙ subst (λ (j : ℕ). slice_index_or (slice_set now.blocks b true) j false ≡ true) (sym same) (set_here now.blocks b true (omega (arith, within now.waits b other released.waited, long)))))
  | inr apart ↦ elim (before k) [
    | inl in_set ↦ inl (ap (λ ts. slice_index_or ts k false) blocks ∙ (set_there now.blocks b k true apart ∙ in_set))
    | inr as_before ↦ inr (ap (λ ts. slice_index_or ts k false) blocks ∙ (set_there now.blocks b k true apart ∙ as_before.0), ap (λ row. at row k) released.now ∙ (at_other now.waits b k None apart ∙ as_before.1))
  ]
]

pub all_woken : (old new : CandidatesValue) (other : ℕ) → length new.blocks ≡ length old.blocks → ((k : ℕ) → IsAsBefore old new k) → ((k : ℕ) → at new.waits k ≡ Some other → ⊥) → Wakes old new other
all_woken old new other long before none = record {
  long = long;
  each = λ k. elim (before k) [
    | inl in_set ↦ inl in_set
    | inr as_before ↦ inr (as_before.0, as_before.1, none k)
  ];
}

-- how many wait
abbrev pub waiting : List (Option ℕ) → ℕ
waiting [] = 0
waiting (None ∷ os) = waiting os
waiting (Some x ∷ os) = suc (waiting os)

-- one fewer does
pub fewer : (waits : List (Option ℕ)) (b c : ℕ) → at waits b ≡ Some c → waiting (slice_set waits b None) < waiting waits
fewer [] b c e = absurd cc
fewer (None ∷ os) zero c e = absurd cc
fewer (Some x ∷ os) zero c e = omega arith
fewer (None ∷ os) (suc b) c e = fewer os b c e
fewer (Some x ∷ os) (suc b) c e = let rest = fewer os b c e in omega (arith, rest)

-- A block with these facts is ready where its first entry is safe

pub ready_at : (lives : Lives) (o : Option Life) (f : Facts) → Some f ≡ option_map facts_of o → is_some f.begun ≡ false → is_safe_at lives o 0 ≡ is_ready lives o
ready_at lives None f e idle = absurd cc
ready_at lives (Some l) f e idle =
    let same : f ≡ facts_of l = cc in
    sym (ready_is lives l ∙ ap (λ t. t && is_safe_at lives (Some l) 0) (by l.begun (sym (ap (λ (g : Facts). is_some g.begun) same) ∙ idle)))
  where
    by : (o : Option ℕ) → is_some o ≡ false → is_none o ≡ true
    by None e = refl
    by (Some k) e = absurd (false≢true (sym e))
