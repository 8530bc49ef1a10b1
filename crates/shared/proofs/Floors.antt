-- No call lowers a floor.
use Rattle.std.proofs.Common.{◌≡◌, ◌⊎◌, ℕ, zero, suc, ◌+◌, ◌≤◌, min, Bool, true, false, cond, List, [], ◌∷◌, ◌++◌, drop, Option, Some, None, Result, Ok, Err, refl, sym, ap, subst, inl, inr, ⊎_elim, arith, le_refl}
use Rattle.std.specs.Prelude.{⊤, slice_set, slice_get, ◌==◌}
use Rattle.std.proofs.lemmas.Bool.{cond_both}
use Rattle.xn_model.specs.Types.{Types}
use Rattle.xn_model.specs.Lists.{has_number}
use Rattle.xn_model.specs.Lives.{BlockState, Life, Lives, StoreState, life_at, begun_at, settled_at, freed, drops_of, lowest_free, is_for, entries_in, entries_at, entries_of, least_to}
use Rattle.store_types.specs.declared.refusal.Refusal.{Refusal}
use Rattle.xn_model.specs.Results.{unless, result_map, result_and_then, Gives, GivesExactly}
use Rattle.xn_model.specs.Calls.{Edit, floor_of, new_life, init_at, init_refusal, init_of, accepts, propose_refusal, propose_at, propose_of, edited, make_root_refusal, make_root_at, make_root_of, root_state, slot_now, drop_root_refusal, drop_root_of, forget_refusal, forget_at, forget_of, own_life, begun_place, begun_of, first_pending, settled_place, settled_after, settled_of}
use Rattle.xn_model.proofs.ForCallers.{accepted, accepted_is, bared, begun_is, each, each_at, free, free_at, gives_exactly_keeps, gives_keeps, settled, settled_is, with_begun}
use Rattle.shared.specs.Floors.{FloorsRise}

-- The least of numbers

least_more : (xs : List ℕ) (n m : ℕ) → n ≤ m → least_to n xs ≤ least_to m xs
least_more [] n m h = h
least_more (x ∷ xs) n m h = let more = least_more xs n m h in omega arith

least_low : (xs : List ℕ) (n : ℕ) → least_to n xs ≤ n
least_low [] n = le_refl n
least_low (x ∷ xs) n = let low = least_low xs n in omega arith

least_split : (xs ys : List ℕ) (n : ℕ) → least_to n (xs ++ ys) ≡ least_to (least_to n ys) xs
least_split [] ys n = refl
least_split (x ∷ xs) ys n = ap (min x) (least_split xs ys n)

-- The entries of one life

-- Among numbers up to n, the entries of the second life that count for fs have no lower least than those of the first.
abbrev Rises : ℕ → ℕ → Option Life → Option Life → Type 0
Rises fs n o p = (k : ℕ) → k ≤ n → least_to k (entries_at fs o) ≤ least_to k (entries_at fs p)

stays : (fs n : ℕ) (o : Option Life) → Rises fs n o o
stays fs n o k le = le_refl _

ends : (fs n : ℕ) (o : Option Life) → Rises fs n o None
ends fs n o k le = least_low (entries_at fs o) k

pushed : (fs k : ℕ) (s : BlockState) → k ≤ s.entry → (xs : List BlockState) → least_to k (entries_in fs xs) ≤ least_to k (entries_in fs (xs ++ s ∷ []))
pushed fs k s le [] = cond_both (is_for fs s.fs) (s.entry ∷ []) [] (λ ys. k ≤ least_to k ys) (λ t. omega arith) (λ f. le_refl k)
pushed fs k s le (x ∷ xs) = go (is_for fs x.fs) (pushed fs k s le xs)
  where
    go : (b : Bool) → least_to k (entries_in fs xs) ≤ least_to k (entries_in fs (xs ++ s ∷ [])) →
        least_to k (cond b (x.entry ∷ entries_in fs xs) (entries_in fs xs)) ≤ least_to k (cond b (x.entry ∷ entries_in fs (xs ++ s ∷ [])) (entries_in fs (xs ++ s ∷ [])))
    go true h = omega arith
    go false h = h

dropped : (fs k j : ℕ) (xs : List BlockState) → least_to k (entries_in fs xs) ≤ least_to k (entries_in fs (drop j xs))
dropped fs k zero xs = le_refl _
dropped fs k (suc j) [] = le_refl _
dropped fs k (suc j) (x ∷ xs) = go (is_for fs x.fs) (dropped fs k j xs)
  where
    go : (b : Bool) → least_to k (entries_in fs xs) ≤ least_to k (entries_in fs (drop j xs)) → least_to k (cond b (x.entry ∷ entries_in fs xs) (entries_in fs xs)) ≤ least_to k (entries_in fs (drop j xs))
    go true h = omega arith
    go false h = h

-- All lives

rising : (fs n m : ℕ) → n ≤ m → (old new : Lives) → ((c : ℕ) → Rises fs n (life_at old c) (life_at new c)) → least_to n (entries_of fs old) ≤ least_to m (entries_of fs new)
rising fs n m le [] [] h = le
rising fs n m le [] (p ∷ ps) h =
    let rest = rising fs n m le [] ps (λ c. h (suc c)) in
    let here = h 0 n (le_refl n) in
    let more = least_more (entries_at fs p) n (least_to m (entries_of fs ps)) rest in
    let split = least_split (entries_at fs p) (entries_of fs ps) m in
    omega arith
rising fs n m le (o ∷ os) [] h =
    let rest = rising fs n m le os [] (λ c. h (suc c)) in
    let low = least_low (entries_at fs o) (least_to n (entries_of fs os)) in
    let split = least_split (entries_at fs o) (entries_of fs os) n in
    omega arith
rising fs n m le (o ∷ os) (p ∷ ps) h =
    let rest = rising fs n m le os ps (λ c. h (suc c)) in
    let here = h 0 (least_to n (entries_of fs os)) (least_low (entries_of fs os) n) in
    let more = least_more (entries_at fs p) (least_to n (entries_of fs os)) (least_to m (entries_of fs ps)) rest in
    let split = least_split (entries_at fs o) (entries_of fs os) n in
    let split' = least_split (entries_at fs p) (entries_of fs ps) m in
    omega arith

each_rises : (fs n m : ℕ) → n ≤ m → (f : ℕ → Life → Life) (lives : Lives) → ((c : ℕ) (l : Life) → Rises fs n (Some l) (Some (f c l))) → least_to n (entries_of fs lives) ≤ least_to m (entries_of fs (each f lives))
each_rises fs n m le f lives h = rising fs n m le lives (each f lives) (λ c. subst (λ p. Rises fs n (life_at lives c) p) (sym (each_at f lives c)) (go c (life_at lives c)))
  where
    go : (c : ℕ) (o : Option Life) → Rises fs n o (elim o as (λ _. Option Life) [ None ↦ None | Some l ↦ Some (f c l) ])
    go c None = stays fs n None
    go c (Some l) = h c l

free_rises : (fs n : ℕ) (blocks : List ℕ) (lives : Lives) → least_to n (entries_of fs lives) ≤ least_to n (entries_of fs (free blocks lives))
free_rises fs n blocks lives = rising fs n n (le_refl n) lives (free blocks lives) (λ c. subst (λ p. Rises fs n (life_at lives c) p) (sym (free_at blocks lives c)) (go (has_number blocks c) (life_at lives c)))
  where
    go : (b : Bool) (o : Option Life) → Rises fs n o (cond b None o)
    go true o = ends fs n o
    go false o = stays fs n o

set_at : (lives : Lives) (b c : ℕ) (o : Option Life) → (life_at (slice_set lives b o) c ≡ life_at lives c) ⊎ (life_at (slice_set lives b o) c ≡ o)
set_at [] b c o = inl refl
set_at (x ∷ xs) zero zero o = inr refl
set_at (x ∷ xs) zero (suc c) o = inl refl
set_at (x ∷ xs) (suc b) zero o = inl refl
set_at (x ∷ xs) (suc b) (suc c) o = set_at xs b c o

set_rises : (fs n m : ℕ) → n ≤ m → (lives : Lives) (b : ℕ) (o : Option Life) → ((p : Option Life) → Rises fs n p o) → least_to n (entries_of fs lives) ≤ least_to m (entries_of fs (slice_set lives b o))
set_rises fs n m le lives b o h = rising fs n m le lives (slice_set lives b o)
    (λ c. ⊎_elim
    (λ same. subst (λ p. Rises fs n (life_at lives c) p) (sym same) (stays fs n (life_at lives c)))
    (λ now. subst (λ p. Rises fs n (life_at lives c) p) (sym now) (h (life_at lives c)))
    (set_at lives b c o))

-- Changes of a store

abbrev store : Lives → ℕ → StoreState
store lives next = record { lives = lives; next = next }

starts : (state : StoreState) (fs t b : ℕ) (bytes : List ℕ) → FloorsRise state (store (slice_set state.lives b (Some (new_life state.next (Some fs) t bytes))) (state.next + 1))
starts state fs t b bytes g = set_rises g state.next (state.next + 1) (omega arith) state.lives b (Some (new_life state.next (Some fs) t bytes)) new
  where
    new : (p : Option Life) → Rises g state.next p (Some (new_life state.next (Some fs) t bytes))
    new p k le =
        let low = least_low (entries_at g p) k in
        cond_both (is_for g (Some fs)) (state.next ∷ []) [] (λ ys. least_to k (entries_at g p) ≤ least_to k ys) (λ t. omega arith) (λ f. low)

accepting : (state : StoreState) (b : ℕ) (s : BlockState) → s.entry ≡ state.next → FloorsRise state (accepts state b s).1
accepting state b s e g = subst (λ lives. floor_of state g ≤ floor_of (store lives (state.next + 1)) g) (sym (accepted_is state.lives b s))
    (each_rises g state.next (state.next + 1) (omega arith) (accepted b s) state.lives
    (λ c l k le. cond_both (c == b) (l.pending ++ s ∷ []) l.pending (λ xs. least_to k (entries_in g l.pending) ≤ least_to k (entries_in g xs)) (λ t. pushed g k s (omega (arith, e)) l.pending) (λ f. le_refl _)))

beginning : (state : StoreState) (b k : ℕ) → FloorsRise state (store (begun_at state.lives b k) state.next)
beginning state b k g = subst (λ lives. floor_of state g ≤ floor_of (store lives state.next) g) (sym (begun_is state.lives b k))
    (each_rises g state.next state.next (le_refl _) (with_begun b (Some k)) state.lives (λ c l j le. le_refl _))

settling : (state : StoreState) (b j : ℕ) (blocks : List ℕ) → FloorsRise state (store (freed (settled_at state.lives b j) blocks) state.next)
settling state b j blocks g =
    let n : ℕ = state.next in
    let mid : Lives = each (settled b j) state.lives in
    let one = each_rises g n n (le_refl n) (settled b j) state.lives
    (λ c l k le. cond_both (c == b) (drop j l.pending) l.pending (λ xs. least_to k (entries_in g l.pending) ≤ least_to k (entries_in g xs)) (λ t. dropped g k j l.pending) (λ f. le_refl _)) in
    let two = free_rises g n blocks mid in
    let three = each_rises g n n (le_refl n) (bared b) (free blocks mid) (λ c l k le. le_refl _) in
    subst (λ lives. floor_of state g ≤ floor_of (store lives n) g) (sym (settled_is state.lives b j blocks)) (omega arith)

-- Results

abbrev OkRises : {A : Type 0} → StoreState → Result (A × StoreState) Refusal → Type 0
OkRises old (Ok given) = FloorsRise old given.1
OkRises old (Err refusal) = ⊤

unless_rises : {A : Type 0} (old : StoreState) (o : Option Refusal) (r : Result (A × StoreState) Refusal) → OkRises old r → OkRises old (unless o r)
unless_rises old None r h = h
unless_rises old (Some refusal) r h = tt

then_rises : {A B : Type 0} (old : StoreState) (f : B → Result (A × StoreState) Refusal) (r : Result B Refusal) → ((x : B) → OkRises old (f x)) → OkRises old (result_and_then f r)
then_rises old f (Ok x) h = h x
then_rises old f (Err refusal) h = tt

map_rises : {A B : Type 0} (old : StoreState) (f : B → A × StoreState) (r : Result B Refusal) → ((x : B) → FloorsRise old (f x).1) → OkRises old (result_map f r)
map_rises old f (Ok x) h = h x
map_rises old f (Err refusal) h = tt

same_rises : (state : StoreState) → FloorsRise state state
same_rises state fs = le_refl _

pub rises_by : (old new : StoreState) → new ≡ old → FloorsRise old new
rises_by old new e = subst (FloorsRise old) (sym e) (same_rises old)

ok_rises : {A : Type 0} (old : StoreState) (r : Result (A × StoreState) Refusal) (answer : A) (new : StoreState) → OkRises old r → r ≡ Ok (answer, new) → FloorsRise old new
ok_rises old r answer new h e = subst (OkRises old) e h

given_rises : {A : Type 0} (r : Result (A × StoreState) Refusal) (old new : StoreState) (result : Result A Refusal) → OkRises old r → Gives r old new result → FloorsRise old new
given_rises r old new result h gives = gives_keeps (FloorsRise old) r old new result gives (same_rises old) (λ answer e. ok_rises old r answer new h e)

exactly_rises : {A : Type 0} (r : Result (A × StoreState) Refusal) (old new : StoreState) (result : Result A Refusal) → OkRises old r → GivesExactly r old new result → FloorsRise old new
exactly_rises r old new result h gives = gives_exactly_keeps (FloorsRise old) r old new result gives (same_rises old) (λ answer e. ok_rises old r answer new h e)

-- Each call

init_at_rises : (state : StoreState) (fs t : ℕ) (bytes : List ℕ) (o : Option ℕ) → OkRises state (init_at state fs t bytes o)
init_at_rises state fs t bytes None = tt
init_at_rises state fs t bytes (Some b) = starts state fs t b bytes

pub init_rises : (T : Types) (old new : StoreState) (fs t : ℕ) (bytes : List ℕ) (r : Result (ℕ × ℕ) Refusal) → Gives (init_of T old fs t bytes) old new r → FloorsRise old new
init_rises T old new fs t bytes r = given_rises (init_of T old fs t bytes) old new r (unless_rises old (init_refusal T old fs t bytes) (init_at old fs t bytes (lowest_free old.lives)) (init_at_rises old fs t bytes (lowest_free old.lives)))

pub propose_rises : (T : Types) (old new : StoreState) (fs b : ℕ) (edit : Edit) (r : Result ℕ Refusal) → Gives (propose_of T old fs b edit) old new r → FloorsRise old new
propose_rises T old new fs b edit r = given_rises (propose_of T old fs b edit) old new r
    (then_rises old (propose_at T old fs b edit) (own_life old fs b)
    (λ l. unless_rises old (propose_refusal T old fs b edit l) (Ok (accepts old b (edited old.next fs edit l))) (accepting old b (edited old.next fs edit l) refl)))

pub make_root_rises : (old new : StoreState) (fs b : ℕ) (r : Result ℕ Refusal) → Gives (make_root_of old fs b) old new r → FloorsRise old new
make_root_rises old new fs b r = given_rises (make_root_of old fs b) old new r
    (then_rises old (make_root_at old fs b) (own_life old fs b)
    (λ l. let s = root_state old fs (b, l.ty) ((b, l.ty) ∷ []) [] in unless_rises old (make_root_refusal old fs l) (Ok (accepts old 0 s)) (accepting old 0 s refl)))

pub drop_root_rises : (T : Types) (old new : StoreState) (fs : ℕ) (r : Result ℕ Refusal) → Gives (drop_root_of T old fs) old new r → FloorsRise old new
drop_root_rises T old new fs r =
    let s = root_state old fs (0, 0) [] ((slot_now old fs).0 ∷ []) in
    given_rises (drop_root_of T old fs) old new r (unless_rises old (drop_root_refusal T old fs) (Ok (accepts old 0 s)) (accepting old 0 s refl))

pub forget_rises : (T : Types) (old new : StoreState) (fs b : ℕ) (r : Result (Unit {0}) Refusal) → GivesExactly (forget_of T old fs b) old new r → FloorsRise old new
forget_rises T old new fs b r = exactly_rises (forget_of T old fs b) old new r
    (then_rises old (forget_at T old b) (own_life old fs b)
    (λ l. unless_rises old (forget_refusal T l) (Ok (tt, record old { lives = slice_set old.lives b None })) (λ g. set_rises g old.next old.next (le_refl _) old.lives b None (λ p. ends g old.next p))))

pub begun_rises : (old new : StoreState) (b : ℕ) (r : Result (List ℕ × ℕ) Refusal) → GivesExactly (begun_of old b) old new r → FloorsRise old new
begun_rises old new b r = exactly_rises (begun_of old b) old new r
    (map_rises old (λ (begun : List ℕ × ℕ). (begun, record old { lives = begun_at old.lives b begun.1 })) (begun_place old.lives (slice_get old.lives b)) (λ begun. beginning old b begun.1))

pub settled_rises : (old new : StoreState) (b : ℕ) (bytes : List ℕ) (r : Result (ℕ × ℕ) Refusal) → GivesExactly (settled_of old b bytes) old new r → FloorsRise old new
settled_rises old new b bytes r = exactly_rises (settled_of old b bytes) old new r
    (map_rises old (settled_after old b) (settled_place bytes (slice_get old.lives b)) (λ k. settling old b k (drops_of (first_pending k (life_at old.lives b)))))

-- By a result that is Ok

pub begun_ok_rises : (old new : StoreState) (b : ℕ) (begun : List ℕ × ℕ) → begun_of old b ≡ Ok (begun, new) → FloorsRise old new
begun_ok_rises old new b begun e = begun_rises old new b (Ok begun) (subst (λ r. GivesExactly r old new (Ok begun)) (sym e) (refl, refl))

pub settled_ok_rises : (old new : StoreState) (b : ℕ) (bytes : List ℕ) (done : ℕ × ℕ) → settled_of old b bytes ≡ Ok (done, new) → FloorsRise old new
settled_ok_rises old new b bytes done e = settled_rises old new b bytes (Ok done) (subst (λ r. GivesExactly r old new (Ok done)) (sym e) (refl, refl))

pub rises_on : (a b c : StoreState) → FloorsRise a b → FloorsRise b c → FloorsRise a c
rises_on a b c p q fs = omega (arith, p fs, q fs)
