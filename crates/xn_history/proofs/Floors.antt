-- A floor never falls between two mounts, and all below it is told.
use Rattle.std.proofs.Common.{◌≡◌, ℕ, suc, ◌≤◌, ◌&&◌, Bool, true, false, cond, List, [], ◌∷◌, Option, Some, None, refl, ap, inl, inr, subst, arith}
use Rattle.std.specs.Prelude.{Contains}
use Rattle.std.specs.List.{AllByRecursion}
use Rattle.std.proofs.lemmas.Bool.{cond_both, false≢true}
use Rattle.std.proofs.lemmas.List.Elements.{Contains-append_cases}
use Rattle.xn_model.specs.Lives.{BlockState, Life, Lives, StoreState, life_at, is_for, entries_in, entries_at, entries_of, least_to}
use Rattle.xn_model.specs.Calls.{floor_of}
use Rattle.xn_model.specs.Worlds.{World, Event, Client, Floor, is_crash, Reply, FloorIs, Down, call, Step, IsEvent}
use Rattle.xn_model.specs.Rules.{Holds}
use Rattle.xn_model.proofs.ForCallers.{Contains-none, Contains-head, Contains-tail, Contains-cons, fs_from, floor_low, floor_met, step_keeps}
use Rattle.xn_history.specs.Histories.{Histories, histories_after}
use Rattle.xn_history.specs.Moments.{RunWhere, AreHistoriesOf}
use Rattle.xn_history.specs.Promises.{IsWithoutCrash, AreToldBelow}
use Rattle.xn_history.proofs.Turns.{living}
use Rattle.xn_history.proofs.Steps.{Goes}
use Rattle.xn_history.proofs.Moments.{goes, known_after, run_knows}

least_at_most : (n : ℕ) (xs : List ℕ) → least_to n xs ≤ n
least_at_most n [] = omega arith
least_at_most n (x ∷ xs) = let le = least_at_most n xs in omega arith

-- A pending state of some life has this number and counts for fs.
record IsEntry (fs n : ℕ) (lives : Lives) : Type 0 where
  block : ℕ
  life : Life
  alive : life_at lives block ≡ Some life
  state : BlockState
  pending : Contains life.pending state
  counts : state.fs ≡ Some fs
  number : state.entry ≡ n

in_states : (fs n : ℕ) (xs : List BlockState) → Contains (entries_in fs xs) n → (s : BlockState) × Contains xs s × (s.fs ≡ Some fs) × (s.entry ≡ n)
in_states fs n [] i = absurd (Contains-none n i)
in_states fs n (x ∷ xs) i = go (is_for fs x.fs) refl i (λ k. in_states fs n xs k)
  where
    go : (b : Bool) → is_for fs x.fs ≡ b → Contains (cond b (x.entry ∷ entries_in fs xs) (entries_in fs xs)) n →
        (Contains (entries_in fs xs) n → (s : BlockState) × Contains xs s × (s.fs ≡ Some fs) × (s.entry ≡ n)) → (s : BlockState) × Contains (x ∷ xs) s × (s.fs ≡ Some fs) × (s.entry ≡ n)
    go true e k later = elim (Contains-cons x.entry (entries_in fs xs) n k) [
      | inl same ↦ (x, Contains-head x xs, fs_from fs x.fs e, same)
      | inr m ↦ let r = later m in (r.0, Contains-tail x xs r.0 r.1, r.2, r.3)
    ]
    go false e k later = let r = later k in (r.0, Contains-tail x xs r.0 r.1, r.2, r.3)

in_lives : (fs n : ℕ) (lives : Lives) → Contains (entries_of fs lives) n → IsEntry fs n lives
in_lives fs n [] i = absurd (Contains-none n i)
in_lives fs n (o ∷ os) i = elim (Contains-append_cases (entries_at fs o) (entries_of fs os) n i) [
  | inl here ↦ at_place o here
  | inr later ↦ let r = in_lives fs n os later in record { block = suc r.block; life = r.life; alive = r.alive; state = r.state; pending = r.pending; counts = r.counts; number = r.number }
]
  where
    at_place : (o : Option Life) → Contains (entries_at fs o) n → IsEntry fs n (o ∷ os)
    at_place None k = absurd (Contains-none n k)
    at_place (Some l) k = let r = in_states fs n l.pending k in record { block = 0; life = l; alive = refl; state = r.0; pending = r.1; counts = r.2; number = r.3 }

-- A number that no pending entry of fs, and not the next number, is below
below_floor : (fs n : ℕ) (state : StoreState) → n ≤ state.next → ((e : IsEntry fs (floor_of state fs) state.lives) → n ≤ floor_of state fs) → n ≤ floor_of state fs
below_floor fs n state le each = elim (floor_met fs state.next state.lives) [ inl same ↦ omega arith | inr i ↦ each (in_lives fs (floor_of state fs) state.lives i) ]

floor_goes : (w : World) (hs : Histories) (e : Event) (x : Reply × World) → Goes w hs e x → (fs : ℕ) → floor_of w.state fs ≤ floor_of x.1.state fs
floor_goes w hs e x g fs =
    let top = least_at_most w.state.next (entries_of fs w.state.lives) in
    let more = g.next in
    below_floor fs (floor_of w.state fs) x.1.state (omega arith) (λ f.
    let t = g.turns f.block f.life f.alive in
    let number = f.number in
    elim (t.entries f.state f.pending) [
      | inl new ↦ omega arith
      | inr old ↦ let low = floor_low fs w.state.next w.state.lives f.block old.0 f.state old.1 old.2 f.counts in omega arith
    ])

pub floor_rises : (w : World) → Holds w → (hs : Histories) → AreHistoriesOf w.state.lives hs → (e : Event) (r : Reply) (w' : World) → IsEvent e → Step w e r w' → is_crash e ≡ false → (fs : ℕ) → floor_of w.state fs ≤ floor_of w'.state fs
floor_rises w h hs known e r w' few s up fs = floor_goes w hs e (r, w') (goes w h hs known e r w' few s up) fs

pub floor_rises_on : (w : World) (hs : Histories) (es : List Event) (rs : List Reply) (w' : World) (hs' : Histories) → AllByRecursion IsEvent es → Holds w → AreHistoriesOf w.state.lives hs →
    RunWhere IsWithoutCrash w hs es rs w' hs' → (fs : ℕ) → floor_of w.state fs ≤ floor_of w'.state fs
floor_rises_on w hs [] [] w' hs' each h known run fs = let same : floor_of w'.state fs ≡ floor_of w.state fs = ap (λ (x : World). floor_of x.state fs) run.0 in omega arith
floor_rises_on w hs [] (r ∷ rs) w' hs' each h known run fs = absurd run
floor_rises_on w hs (e ∷ es) [] w' hs' each h known run fs = absurd run
floor_rises_on w hs (e ∷ es) (r ∷ rs) w' hs' each h known run fs =
    let one = floor_rises w h hs known e r run.0 each.0 run.1 run.2 fs in
    let more = floor_rises_on run.0 (histories_after hs e r run.0.state.lives) es rs w' hs' each.1 (step_keeps w e r run.0 each.0 h run.1) (known_after w h hs known e r run.0 each.0 run.1) run.3 fs in
    omega arith

-- nothing that isn't told is below the floor
pub told_below : (w : World) (hs : Histories) → AreHistoriesOf w.state.lives hs → (fs : ℕ) → AreToldBelow fs (floor_of w.state fs) hs
told_below w hs known fs c x s at i counts =
    let l = living (life_at w.state.lives c) (hs c) (known c) x at in
    floor_low fs w.state.next w.state.lives c l.0 s l.1 (subst (λ xs. Contains xs s) l.2.untold i) counts

-- the answer is the floor, and changes nothing
pub floor_answered : (w : World) (fs n : ℕ) (w' : World) → Step w (Client fs Floor) (FloorIs n) w' → (n ≡ floor_of w.state fs) × (w' ≡ w)
floor_answered w fs n w' s = elim s [
  | inl given ↦ cond_both {A = Reply × World} (w.down && true) (Down, w) (call w fs Floor) (λ x. FloorIs n ≡ x.0 → w' ≡ x.1 → (n ≡ floor_of w.state fs) × (w' ≡ w)) (λ t e f. absurd cc) (λ t e f. (cc, f)) given.0 given.1
  | inr wants ↦ absurd (false≢true wants.0)
]

pub floor_told_on : (w : World) → Holds w → (hs : Histories) → AreHistoriesOf w.state.lives hs → (fs n : ℕ) (es : List Event) (rs : List Reply) (w' : World) (hs' : Histories) → AllByRecursion IsEvent (Client fs Floor ∷ es) →
    RunWhere IsWithoutCrash w hs (Client fs Floor ∷ es) (FloorIs n ∷ rs) w' hs' → AreToldBelow fs n hs'
floor_told_on w h hs known fs n es rs w' hs' each run c x s at i counts =
    let answer = floor_answered w fs n run.0 run.1 in
    let answered : n ≡ floor_of w.state fs = answer.0 in
    let now : floor_of run.0.state fs ≡ floor_of w.state fs = ap (λ (v : World). floor_of v.state fs) answer.1 in
    let h1 = step_keeps w (Client fs Floor) (FloorIs n) run.0 each.0 h run.1 in
    let known1 = known_after w h hs known (Client fs Floor) (FloorIs n) run.0 each.0 run.1 in
    let hs1 = histories_after hs (Client fs Floor) (FloorIs n) run.0.state.lives in
    let more = floor_rises_on run.0 hs1 es rs w' hs' each.1 h1 known1 run.3 fs in
    let last = run_knows IsWithoutCrash run.0 hs1 es rs w' hs' each.1 h1 known1 run.3 in
    let low = told_below w' hs' last.1 fs c x s at i counts in
    omega arith
