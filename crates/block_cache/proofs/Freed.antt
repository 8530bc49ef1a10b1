-- Lives of other blocks ended.
use Rattle.std.proofs.Common.{◌≡◌, ◌≢◌, ℕ, zero, suc, ◌+◌, ◌<◌, ◌≤◌, List, [], ◌∷◌, ◌++◌, length, take, get_or, set, Option, Some, None, refl, sym, ◌∙◌, ap, arith, subst, slice_get}
use Rattle.std.specs.Prelude.{option_map, slice_set, All}
use Rattle.std.proofs.lemmas.List.{set_comm, get_or-set_other, take_more, append_assoc, append-nil}
use Rattle.std.proofs.lemmas.List.Sums.{fold-append}
use Rattle.std.proofs.lemmas.Option.{unwrap_or-slice_get, slice_get-get_or}
use Rattle.xn_model.specs.Lives.{BlockState, Life, Lives, life_at, settled_at, settle, freed, drops_of}
use Rattle.xn_model.specs.Calls.{first_pending, life_pending}
use Rattle.block_cache.specs.Views.{drops_in, drops_at, ended}

-- none of these is the block
abbrev pub AreOther : ℕ → List ℕ → Type 0
AreOther b [] = Unit {0}
AreOther b (c ∷ cs) = (c ≢ b) × AreOther b cs

pub are_other : (b : ℕ) (cs : List ℕ) → All (λ c. c ≢ b) cs → AreOther b cs
are_other b [] all = tt
are_other b (c ∷ cs) all = (all 0 c (omega arith), are_other b cs (λ k d h. all (suc k) d (omega arith)))

other_take : (b n : ℕ) (cs : List ℕ) → AreOther b cs → AreOther b (take n cs)
other_take b zero cs other = tt
other_take b (suc n) [] other = tt
other_take b (suc n) (c ∷ cs) other = (other.0, other_take b n cs other.1)

life_at-set_other : (lives : Lives) (b c : ℕ) (x : Option Life) → b ≢ c → life_at (slice_set lives c x) b ≡ life_at lives b
life_at-set_other lives b c x ne =
    unwrap_or-slice_get (set lives c x) b None ∙ (get_or-set_other lives c b x None ne ∙ sym (unwrap_or-slice_get lives b None))

pub life_at-freed : (lives : Lives) (b : ℕ) (cs : List ℕ) → AreOther b cs → life_at (freed lives cs) b ≡ life_at lives b
life_at-freed lives b [] other = refl
life_at-freed lives b (c ∷ cs) other =
    life_at-freed (slice_set lives c None) b cs other.1 ∙ life_at-set_other lives b c None (λ e. other.0 (sym e))

pub settled_at-freed : (lives : Lives) (b k : ℕ) (cs : List ℕ) → AreOther b cs → settled_at (freed lives cs) b k ≡ freed (settled_at lives b k) cs
settled_at-freed lives b k [] other = refl
settled_at-freed lives b k (c ∷ cs) other =
    settled_at-freed (slice_set lives c None) b k cs other.1
    ∙ ap (λ ls. freed ls cs)
    (ap (λ o. slice_set (slice_set lives c None) b (option_map (settle k) o)) (life_at-set_other lives b c None (λ e. other.0 (sym e)))
    ∙ set_comm lives c b None (option_map (settle k) (life_at lives b)) other.0)

-- one block more
pub freed_more : (lives : Lives) (cs : List ℕ) (i : ℕ) → i < length cs → freed lives (take (i + 1) cs) ≡ ended (freed lives (take i cs)) (slice_get cs i)
freed_more lives cs i within =
    ap (freed lives) (take_more cs i 0 within)
    ∙ (fold-append (λ ls x. slice_set ls x None) lives (take i cs) (get_or cs i 0 ∷ [])
    ∙ ap (ended (freed lives (take i cs))) (sym (slice_get-get_or cs i 0 within)))

-- the block keeps its entries
pub drops_kept : (lives : Lives) (b place n : ℕ) (cs : List ℕ) → AreOther b cs → drops_at place (life_at (freed lives (take n cs)) b) ≡ drops_at place (life_at lives b)
drops_kept lives b place n cs other = ap (drops_at place) (life_at-freed lives b (take n cs) (other_take b n cs other))

-- What the first entries drop

other_parts : (b : ℕ) (cs ds : List ℕ) → AreOther b (cs ++ ds) → AreOther b cs × AreOther b ds
other_parts b [] ds other = (tt, other)
other_parts b (c ∷ cs) ds other = let rest = other_parts b cs ds other.1 in ((other.0, rest.0), rest.1)

pub all_other : (b : ℕ) (cs : List ℕ) → AreOther b cs → All (λ c. c ≢ b) cs
all_other b [] other k d h = absurd (omega arith)
all_other b (c ∷ cs) other zero d h = other.0
all_other b (c ∷ cs) other (suc k) d h = all_other b cs other.1 k d (omega arith)

drops_more : (xs : List BlockState) (k : ℕ) → k < length xs → drops_of (take (suc k) xs) ≡ drops_of (take k xs) ++ drops_in (slice_get xs k)
drops_more [] k within = absurd (omega arith)
drops_more (x ∷ xs) zero within = append-nil x.drops
drops_more (x ∷ xs) (suc k) within =
    ap (λ ds. x.drops ++ ds) (drops_more xs k (omega arith)) ∙ sym (append_assoc x.drops (drops_of (take k xs)) (drops_in (slice_get xs k)))

pub record IsFront (front all : List ℕ) : Type 0 where
  pub rest : List ℕ
  pub whole : all ≡ front ++ rest

drops_front : (xs : List BlockState) (k n : ℕ) → k ≤ n → IsFront (drops_of (take k xs)) (drops_of (take n xs))
drops_front xs zero n within = record { rest = drops_of (take n xs); whole = refl }
drops_front xs (suc k) zero within = absurd (omega arith)
drops_front [] (suc k) (suc n) within = record { rest = []; whole = refl }
drops_front (x ∷ xs) (suc k) (suc n) within =
    let front = drops_front xs k n (omega arith) in
    record { rest = front.rest; whole = ap (λ ds. x.drops ++ ds) front.whole ∙ sym (append_assoc x.drops (drops_of (take k xs)) front.rest) }

pub first_more : (o : Option Life) (k : ℕ) → k < life_pending o → drops_of (first_pending (k + 1) o) ≡ drops_of (first_pending k o) ++ drops_at k o
first_more None k within = absurd (omega arith)
first_more (Some l) k within = let next : k + 1 ≡ suc k = omega arith in ap (λ n. drops_of (take n l.pending)) next ∙ drops_more l.pending k within

first_front : (o : Option Life) (k n : ℕ) → k ≤ n → IsFront (drops_of (first_pending k o)) (drops_of (first_pending n o))
first_front None k n within = record { rest = []; whole = refl }
first_front (Some l) k n within = drops_front l.pending k n within

-- what holds before the entry at a place is looked at
pub record IsAhead (b : ℕ) (o : Option Life) (k : ℕ) : Type 0 where
  pub before : AreOther b (drops_of (first_pending k o))
  pub here : AreOther b (drops_at k o)

pub is_ahead : (b : ℕ) (o : Option Life) (k n : ℕ) → k < n → n ≤ life_pending o → All (λ c. c ≢ b) (drops_of (first_pending n o)) → IsAhead b o k
is_ahead b o k n lt within apart =
    let front = first_front o (k + 1) n (omega arith) in
    let more = first_more o k (omega arith) in
    let other = other_parts b (drops_of (first_pending (k + 1) o)) front.rest (let P : List ℕ → Type 0 = AreOther b in subst P front.whole (are_other b (drops_of (first_pending n o)) apart)) in
    let parts = other_parts b (drops_of (first_pending k o)) (drops_at k o) (let P : List ℕ → Type 0 = AreOther b in subst P more other.0) in
    record { before = parts.0; here = parts.1 }

pub freed-append : (lives : Lives) (cs ds : List ℕ) → freed lives (cs ++ ds) ≡ freed (freed lives cs) ds
freed-append lives cs ds = fold-append (λ ls x. slice_set ls x None) lives cs ds
