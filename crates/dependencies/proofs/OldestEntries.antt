-- Entries of a file system, found by their numbers, and the least of them.
use Rattle.std.proofs.Common.{◌≡◌, ℕ, zero, suc, ◌+◌, ◌≤◌, Bool, true, false, cond, List, [], ◌∷◌, ◌++◌, take, Option, Some, None, refl, sym, ◌∙◌, ap, arith, min, slice_get}
use Rattle.std.specs.Prelude.{◌&&◌, ◌||◌, ◌==◌, option_map}
use Rattle.std.specs.List.{list_any}
use Rattle.std.proofs.lemmas.Bool.{false≢true, eqb-true, eq-eqb}
use Rattle.std.proofs.lemmas.List.{take_all}
use Rattle.xn_model.specs.Lives.{BlockState, Life, Lives, entries_at, entries_in, entries_of, is_for, least_to, life_at}
use Rattle.xn_model.specs.Calls.{first_pending, life_pending}
use Rattle.block_cache.specs.Claims.{claim_of}
use Rattle.block_cache.specs.Views.{pending_at}
use Rattle.dependencies.specs.Homes.{AreHomes, home_of}
use Rattle.dependencies.specs.Oldest.{has_for, is_entry_for, is_number_for, pends_for}
use Rattle.dependencies.specs.Pending.{pends}

or_last : (t : Bool) → (t || false) ≡ t
or_last true = refl
or_last false = refl

or_true : (t : Bool) → (t || true) ≡ true
or_true true = refl
or_true false = refl

or_assoc : (a b c : Bool) → (a || (b || c)) ≡ ((a || b) || c)
or_assoc true b c = refl
or_assoc false b c = refl

-- Some of the first entries

abbrev pub is_for_in : Option Life → ℕ → ℕ → ℕ → Bool
is_for_in o fs n k = is_number_for fs n (option_map claim_of (slice_get (pending_at o) k))

one_of : (fs : ℕ) (xs : List BlockState) (k n : ℕ) → has_for fs (take (suc k) xs) n ≡ (has_for fs (take k xs) n || is_number_for fs n (option_map claim_of (slice_get xs k)))
one_of fs [] zero n = refl
one_of fs [] (suc k) n = refl
one_of fs (x ∷ xs) zero n = or_last (is_entry_for fs n x)
one_of fs (x ∷ xs) (suc k) n =
    ap (λ r. is_entry_for fs n x || r) (one_of fs xs k n) ∙ or_assoc (is_entry_for fs n x) (has_for fs (take k xs) n) (is_number_for fs n (option_map claim_of (slice_get xs k)))

-- one more entry is another one
pub entries_more : (fs : ℕ) (o : Option Life) (k n : ℕ) → has_for fs (first_pending k o) n ≡ false → is_for_in o fs n k ≡ false → has_for fs (first_pending (k + 1) o) n ≡ false
entries_more fs None k n before here = refl
entries_more fs (Some l) k n before here =
    let next : k + 1 ≡ suc k = omega arith in
    ap (λ j. has_for fs (take j l.pending) n) next ∙ (one_of fs l.pending k n ∙ (λ i. before i || here i))

found_in : (fs : ℕ) (xs : List BlockState) (k n : ℕ) → is_number_for fs n (option_map claim_of (slice_get xs k)) ≡ true → has_for fs xs n ≡ true
found_in fs [] k n here = absurd (false≢true here)
found_in fs (x ∷ xs) zero n here = ap (λ t. t || has_for fs xs n) here
found_in fs (x ∷ xs) (suc k) n here = ap (λ t. is_entry_for fs n x || t) (found_in fs xs k n here) ∙ or_true (is_entry_for fs n x)

-- one of the entries is it
pub entry_found : (fs : ℕ) (o : Option Life) (k n : ℕ) → is_for_in o fs n k ≡ true → pends_for fs n o ≡ true
entry_found fs None k n here = absurd (false≢true here)
entry_found fs (Some l) k n here = found_in fs l.pending k n here

-- all of them
pub all_entries : (fs : ℕ) (o : Option Life) (m n : ℕ) → life_pending o ≤ m → has_for fs (first_pending m o) n ≡ pends_for fs n o
all_entries fs None m n all = refl
all_entries fs (Some l) m n all = ap (λ xs. has_for fs xs n) (take_all m l.pending all)

-- Homes

and_right : (a b : Bool) → (a && b) ≡ true → b ≡ true
and_right true b e = e
and_right false b e = absurd (false≢true e)

or_either : (a b c d : Bool) → (a ≡ true → c ≡ true) → (b ≡ true → d ≡ true) → (a || b) ≡ true → (c || d) ≡ true
or_either true b c d f g e = ap (λ t. t || d) (f refl)
or_either false b c d f g e = ap (λ t. c || t) (g e) ∙ or_true c

has_any : (fs : ℕ) (xs : List BlockState) (n : ℕ) → has_for fs xs n ≡ true → list_any (λ s. s.entry == n) xs ≡ true
has_any fs [] n e = e
has_any fs (x ∷ xs) n e =
    or_either (is_entry_for fs n x) (has_for fs xs n) (x.entry == n) (list_any (λ s. s.entry == n) xs) (and_right (is_for fs x.fs) (x.entry == n)) (has_any fs xs n) e

pub pends_any : (fs n : ℕ) (o : Option Life) → pends_for fs n o ≡ true → pends n o ≡ true
pends_any fs n None e = e
pends_any fs n (Some l) e = has_any fs l.pending n e

-- an entry that is not pending in its home is pending nowhere
pub past_home : (lives : Lives) (homes : List (ℕ × ℕ)) (fs n c : ℕ) → AreHomes lives homes → home_of homes n ≡ Some c → pends_for fs n (life_at lives c) ≡ false → (b : ℕ) → pends_for fs n (life_at lives b) ≡ false
past_home lives homes fs n c are home fails b = by (pends_for fs n (life_at lives b)) refl
  where
    by : (t : Bool) → pends_for fs n (life_at lives b) ≡ t → pends_for fs n (life_at lives b) ≡ false
    by false e = e
    by true e = let same : c ≡ b = are n b c (pends_any fs n (life_at lives b) e) home in ap (λ x. pends_for fs n (life_at lives x)) (sym same) ∙ fails

-- The least entry

least_below : (m : ℕ) (xs : List ℕ) → least_to m xs ≤ m
least_below m [] = omega arith
least_below m (x ∷ xs) = omega (arith, least_below m xs)

least_append : (m : ℕ) (xs ys : List ℕ) → least_to m (xs ++ ys) ≡ least_to (least_to m ys) xs
least_append m [] ys = refl
least_append m (x ∷ xs) ys = ap (min x) (least_append m xs ys)

least_in : (fs m n : ℕ) (ps : List BlockState) → has_for fs ps n ≡ true → least_to m (entries_in fs ps) ≤ n
least_in fs m n [] e = absurd (false≢true e)
least_in fs m n (p ∷ ps) e = by (is_for fs p.fs) (p.entry == n) refl (least_in fs m n ps) e
  where
    by : (t u : Bool) → (p.entry == n) ≡ u → (has_for fs ps n ≡ true → least_to m (entries_in fs ps) ≤ n) → ((t && u) || has_for fs ps n) ≡ true → least_to m (cond t (p.entry ∷ entries_in fs ps) (entries_in fs ps)) ≤ n
    by false u is rest e = rest e
    by true true is rest e = let same = eqb-true p.entry n is in omega (arith, same)
    by true false is rest e = let later = rest e in omega (arith, later)

above_in : (fs m y : ℕ) (ps : List BlockState) → y ≤ m → ((n : ℕ) → has_for fs ps n ≡ true → y ≤ n) → y ≤ least_to m (entries_in fs ps)
above_in fs m y [] few all = few
above_in fs m y (p ∷ ps) few all = by (is_for fs p.fs) refl (above_in fs m y ps few (λ n e. all n (ap (λ t. is_entry_for fs n p || t) e ∙ or_true (is_entry_for fs n p))))
  where
    by : (t : Bool) → is_for fs p.fs ≡ t → y ≤ least_to m (entries_in fs ps) → y ≤ least_to m (cond t (p.entry ∷ entries_in fs ps) (entries_in fs ps))
    by false is rest = rest
    by true is rest =
        let here : y ≤ p.entry = all p.entry (ap (λ t. t || has_for fs ps p.entry) (λ i. is i && eq-eqb p.entry p.entry refl i)) in
        omega (arith, here, rest)

least_at : (fs m n b : ℕ) (lives : Lives) → pends_for fs n (life_at lives b) ≡ true → least_to m (entries_of fs lives) ≤ n
least_at fs m n b [] e = absurd (false≢true e)
least_at fs m n zero (o ∷ os) e = let split = least_append m (entries_at fs o) (entries_of fs os) in let here = at o e in omega (arith, split, here)
  where
    at : (o : Option Life) → pends_for fs n o ≡ true → least_to (least_to m (entries_of fs os)) (entries_at fs o) ≤ n
    at None e = absurd (false≢true e)
    at (Some l) e = least_in fs (least_to m (entries_of fs os)) n l.pending e
least_at fs m n (suc b) (o ∷ os) e =
    let split = least_append m (entries_at fs o) (entries_of fs os) in
    let low = least_below (least_to m (entries_of fs os)) (entries_at fs o) in
    omega (arith, split, low, least_at fs m n b os e)

above_all : (fs m y : ℕ) (lives : Lives) → y ≤ m → ((n b : ℕ) → pends_for fs n (life_at lives b) ≡ true → y ≤ n) → y ≤ least_to m (entries_of fs lives)
above_all fs m y [] few all = few
above_all fs m y (o ∷ os) few all =
    let split = least_append m (entries_at fs o) (entries_of fs os) in
    let rest = above_all fs m y os few (λ n b. all n (suc b)) in
    omega (arith, split, at o rest (λ n. all n 0))
  where
    at : (o : Option Life) → y ≤ least_to m (entries_of fs os) → ((n : ℕ) → pends_for fs n o ≡ true → y ≤ n) → y ≤ least_to (least_to m (entries_of fs os)) (entries_at fs o)
    at None rest all = rest
    at (Some l) rest all = above_in fs (least_to m (entries_of fs os)) y l.pending rest all

-- an entry that none is below is the least
pub oldest_is_least : (fs m x b : ℕ) (lives : Lives) → ((n c : ℕ) → pends_for fs n (life_at lives c) ≡ true → x ≤ n) → pends_for fs x (life_at lives b) ≡ true → min x m ≡ least_to m (entries_of fs lives)
oldest_is_least fs m x b lives all here =
    let le = least_at fs m x b lives here in
    let low = least_below m (entries_of fs lives) in
    let few : min x m ≤ m = omega arith in
    let up = above_all fs m (min x m) lives few (λ n c e. let one = all n c e in omega (arith, one)) in
    omega (arith, le, low, up)
