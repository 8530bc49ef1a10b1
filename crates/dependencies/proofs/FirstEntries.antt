-- What the first entries of a block say, and the least of their numbers.
use Rattle.std.proofs.Common.{◌≡◌, ℕ, zero, suc, ◌+◌, ◌<◌, ◌≤◌, Bool, true, false, cond, List, [], ◌∷◌, ◌++◌, length, take, drop, get_or, append_assoc, refl, sym, ◌∙◌, ap, arith, min, Option, Some, None, slice_get}
use Rattle.std.specs.Prelude.{count_by, option_map, sum_by}
use Rattle.std.proofs.lemmas.List.{take_more, append-nil, take-append-drop, get_or_default}
use Rattle.std.proofs.lemmas.List.Sums.{sum_by-cons, sum_by-take-drop, sum_by_more}
use Rattle.std.proofs.lemmas.Option.{slice_get-get_or, unwrap_or-slice_get}
use Rattle.xn_model.specs.Calls.{first_pending, life_pending, pending_in}
use Rattle.xn_model.proofs.ForCallers.{entries_counted}
use Rattle.block_cache.specs.Claims.{claim_of}
use Rattle.block_cache.specs.Views.{pending_at}
use Rattle.dependencies.specs.Pending.{claim_count, claim_entries}
use Rattle.xn_model.specs.Lives.{BlockState, Life, Lives, life_at, on_disk, least_to, is_for, entries_in, entries_at, entries_of}

-- whether an entry counts for a file system
abbrev pub counts_for : ℕ → BlockState → Bool
counts_for fs s = is_for fs s.fs

-- how many pending entries count for a file system
abbrev pub counted : ℕ → Lives → ℕ
counted fs lives = sum_by (pending_in fs) lives

pub place_is : (lives : Lives) (b : ℕ) → life_at lives b ≡ get_or lives b None
place_is lives b = unwrap_or-slice_get lives b None

min_swap : (x y z : ℕ) → min x (min y z) ≡ min y (min x z)
min_swap x y z = grind arith

least_to-min : (n x : ℕ) (ys : List ℕ) → least_to (min x n) ys ≡ min x (least_to n ys)
least_to-min n x [] = refl
least_to-min n x (y ∷ ys) = ap (min y) (least_to-min n x ys) ∙ min_swap y x (least_to n ys)

least_to-append : (n : ℕ) (xs ys : List ℕ) → least_to n (xs ++ ys) ≡ least_to (least_to n xs) ys
least_to-append n [] ys = refl
least_to-append n (x ∷ xs) ys = ap (min x) (least_to-append n xs ys) ∙ sym (least_to-min (least_to n xs) x ys)

entries_in-append : (fs : ℕ) (xs ys : List BlockState) → entries_in fs (xs ++ ys) ≡ entries_in fs xs ++ entries_in fs ys
entries_in-append fs [] ys = refl
entries_in-append fs (x ∷ xs) ys = go (is_for fs x.fs) (entries_in-append fs xs ys)
  where
    go : (t : Bool) → entries_in fs (xs ++ ys) ≡ entries_in fs xs ++ entries_in fs ys →
        cond t (x.entry ∷ entries_in fs (xs ++ ys)) (entries_in fs (xs ++ ys)) ≡ cond t (x.entry ∷ entries_in fs xs) (entries_in fs xs) ++ entries_in fs ys
    go true e = ap (λ zs. x.entry ∷ zs) e
    go false e = e

-- one more entry
least_entries : (n fs i : ℕ) (xs : List BlockState) (x : BlockState) → i < length xs → x ≡ get_or xs i x →
    least_to n (entries_in fs (take (i + 1) xs)) ≡ least_to (least_to n (entries_in fs (take i xs))) (entries_in fs (x ∷ []))
least_entries n fs i xs x within e =
    ap (λ zs. least_to n (entries_in fs zs)) (take_more xs i x within ∙ ap (λ z. take i xs ++ z ∷ []) (sym e))
    ∙ (ap (least_to n) (entries_in-append fs (take i xs) (x ∷ [])) ∙ least_to-append n (entries_in fs (take i xs)) (entries_in fs (x ∷ [])))

-- one more place
entries_of-append : (fs : ℕ) (xs ys : Lives) → entries_of fs (xs ++ ys) ≡ entries_of fs xs ++ entries_of fs ys
entries_of-append fs [] ys = refl
entries_of-append fs (x ∷ xs) ys = ap (λ zs. entries_at fs x ++ zs) (entries_of-append fs xs ys) ∙ sym (append_assoc (entries_at fs x) (entries_of fs xs) (entries_of fs ys))

pub least_places : (n fs i : ℕ) (xs : Lives) (x : Option Life) → i < length xs → x ≡ get_or xs i x →
    least_to n (entries_of fs (take (i + 1) xs)) ≡ least_to (least_to n (entries_of fs (take i xs))) (entries_at fs x)
least_places n fs i xs x within e =
    ap (λ zs. least_to n (entries_of fs zs)) (take_more xs i x within ∙ ap (λ z. take i xs ++ z ∷ []) (sym e))
    ∙ (ap (least_to n) (entries_of-append fs (take i xs) (x ∷ []))
    ∙ (least_to-append n (entries_of fs (take i xs)) (entries_of fs (x ∷ []))
    ∙ ap (least_to (least_to n (entries_of fs (take i xs)))) (append-nil (entries_at fs x))))

-- where no entry is left behind a place
nothing_in : (ns : List ℕ) → length ns ≡ 0 → ns ≡ []
nothing_in [] e = refl
nothing_in (n ∷ ns) e = absurd (omega arith)

pub least_of_all : (n fs i : ℕ) (xs : Lives) → sum_by (pending_in fs) (take i xs) ≡ sum_by (pending_in fs) xs → least_to n (entries_of fs xs) ≡ least_to n (entries_of fs (take i xs))
least_of_all n fs i xs e =
    let both = sum_by-take-drop (pending_in fs) xs i in
    let none = nothing_in (entries_of fs (drop i xs)) (entries_counted fs (record { lives = drop i xs; next = 0 }) ∙ omega (arith, both, e)) in
    ap (λ ys. least_to n (entries_of fs ys)) (sym (take-append-drop i xs))
    ∙ ap (least_to n) (entries_of-append fs (take i xs) (drop i xs) ∙ (ap (λ zs. entries_of fs (take i xs) ++ zs) none ∙ append-nil (entries_of fs (take i xs))))

-- by what the entries of a block say

entries_claimed : (fs : ℕ) (xs : List BlockState) (k : ℕ) → k < length xs → entries_in fs (get_or xs k (on_disk []) ∷ []) ≡ claim_entries fs (option_map claim_of (slice_get xs k))
entries_claimed fs xs k within = sym (ap (λ o. claim_entries fs (option_map claim_of o)) (slice_get-get_or xs k (on_disk []) within))

-- one more entry
pub claims_more : (n fs k : ℕ) (o : Option Life) → k < life_pending o →
    least_to n (entries_in fs (first_pending (k + 1) o)) ≡ least_to (least_to n (entries_in fs (first_pending k o))) (claim_entries fs (option_map claim_of (slice_get (pending_at o) k)))
claims_more n fs k None within = absurd (omega arith)
claims_more n fs k (Some l) within =
    least_entries n fs k l.pending (get_or l.pending k (on_disk [])) within (get_or_default l.pending k (on_disk []) (get_or l.pending k (on_disk [])) within)
    ∙ ap (least_to (least_to n (entries_in fs (take k l.pending)))) (entries_claimed fs l.pending k within)

-- and how many
pub counts_more : (fs k : ℕ) (o : Option Life) → k < life_pending o →
    count_by (counts_for fs) (first_pending (k + 1) o) ≡ count_by (counts_for fs) (first_pending k o) + claim_count fs (option_map claim_of (slice_get (pending_at o) k))
counts_more fs k None within = absurd (omega arith)
counts_more fs k (Some l) within =
    sum_by_more (λ s. cond (counts_for fs s) 1 0) l.pending k (on_disk []) within
    ∙ ap (λ n. count_by (counts_for fs) (take k l.pending) + n) (sym (ap (λ o. claim_count fs (option_map claim_of o)) (slice_get-get_or l.pending k (on_disk []) within)))

mono : (p : BlockState → Bool) (xs : List BlockState) (k m : ℕ) → k ≤ m → count_by p (take k xs) ≤ count_by p (take m xs)
mono p xs zero m le = let none : count_by p (take 0 xs) ≡ 0 = refl in omega (arith, none)
mono p xs (suc k) zero le = absurd (omega (arith, le))
mono p [] (suc k) (suc m) le = let none : count_by p (take (suc k) []) ≡ 0 = refl in omega (arith, none)
mono p (x ∷ xs) (suc k) (suc m) le =
    let first : count_by p (take (suc k) (x ∷ xs)) ≡ cond (p x) 1 0 + count_by p (take k xs) = sum_by-cons (λ y. cond (p y) 1 0) x (take k xs) in
    let more : count_by p (take (suc m) (x ∷ xs)) ≡ cond (p x) 1 0 + count_by p (take m xs) = sum_by-cons (λ y. cond (p y) 1 0) x (take m xs) in
    let rest = mono p xs k m (omega (arith, le)) in
    omega (arith, first, more, rest)

pub counts_within : (fs k m : ℕ) (o : Option Life) → k < m → m ≤ life_pending o →
    count_by (counts_for fs) (first_pending k o) + claim_count fs (option_map claim_of (slice_get (pending_at o) k)) ≤ count_by (counts_for fs) (first_pending m o)
counts_within fs k m None lt within = absurd (omega (arith, lt, within))
counts_within fs k m (Some l) lt within =
    let more = counts_more fs k (Some l) (omega (arith, lt, within)) in
    let up = mono (counts_for fs) l.pending (k + 1) m (omega (arith, lt)) in
    omega (arith, more, up)

-- a life, read by its place
pub life_is : (lives : Lives) (k : ℕ) → k < length lives → life_at lives k ≡ get_or lives k (life_at lives k)
life_is lives k within = place_is lives k ∙ get_or_default lives k None (life_at lives k) within
