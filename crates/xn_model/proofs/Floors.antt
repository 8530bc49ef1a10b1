-- The floor is the least pending number of a file system, or the next number.
use Rattle.std.proofs.Common.{◌≡◌, ℕ, zero, suc, ◌≤◌, ◌⊎◌, Bool, true, false, cond, List, [], ◌∷◌, length, ◌+◌, Option, Some, None, refl, sym, ◌∙◌, ap, inl, inr, arith, subst, min}
use Rattle.std.specs.Prelude.{Contains, count_by, sum_by}
use Rattle.std.proofs.lemmas.Bool.{cond-true, eq-eqb, cases_lt}
use Rattle.std.proofs.lemmas.Option.{none-some}
use Rattle.std.proofs.lemmas.List.Elements.{Contains-append_left, Contains-append_right}
use Rattle.xn_model.specs.Lives.{BlockState, Life, Lives, StoreState, life_at, is_for, entries_in, entries_at, entries_of, least_to, floor}
use Rattle.std.proofs.lemmas.List.Concat.{length-flat_map}
use Rattle.std.proofs.lemmas.List.Recursion.{is_count_by}
use Rattle.xn_model.specs.Calls.{pending_in, pending_of}
use Rattle.xn_model.proofs.Lists.{Contains-none, Contains-head, Contains-tail, Contains-cons}

least_below : (n : ℕ) (xs : List ℕ) (x : ℕ) → Contains xs x → least_to n xs ≤ x
least_below n [] x h = absurd (Contains-none x h)
least_below n (y ∷ ys) x h = elim (Contains-cons y ys x h) [ inl e ↦ omega arith | inr i ↦ let le = least_below n ys x i in omega arith ]

least_is : (n : ℕ) (xs : List ℕ) → (least_to n xs ≡ n) ⊎ Contains xs (least_to n xs)
least_is n [] = inl refl
least_is n (y ∷ ys) = pick_less (least_to n ys) (least_is n ys)
  where
    pick_less : (m : ℕ) → (m ≡ n) ⊎ Contains ys m → (min y m ≡ n) ⊎ Contains (y ∷ ys) (min y m)
    pick_less m h = elim (cases_lt y m) [
      | inl lt ↦ let e : y ≡ min y m = omega arith in inr (subst (λ k. Contains (y ∷ ys) k) e (Contains-head y ys))
      | inr ge ↦ let e : m ≡ min y m = omega arith in elim h [ inl same ↦ inl (sym e ∙ same) | inr i ↦ inr (subst (λ k. Contains (y ∷ ys) k) e (Contains-tail y ys m i)) ]
    ]

for_fs : (fs : ℕ) (o : Option ℕ) → o ≡ Some fs → is_for fs o ≡ true
for_fs fs o e = ap (is_for fs) e ∙ eq-eqb fs fs refl

in_entries : (fs : ℕ) (xs : List BlockState) (s : BlockState) → Contains xs s → s.fs ≡ Some fs → Contains (entries_in fs xs) s.entry
in_entries fs [] s h e = absurd (Contains-none s h)
in_entries fs (x ∷ xs) s h e = elim (Contains-cons x xs s h) [
  | inl same ↦
      let f : is_for fs x.fs ≡ true = for_fs fs x.fs (ap (λ (y : BlockState). y.fs) same ∙ e) in
      subst (λ ns. Contains ns s.entry) (sym (cond-true (is_for fs x.fs) (x.entry ∷ entries_in fs xs) (entries_in fs xs) f)) (subst (λ n. Contains (x.entry ∷ entries_in fs xs) n) (ap (λ (y : BlockState). y.entry) same) (Contains-head x.entry (entries_in fs xs)))
  | inr i ↦ behind (is_for fs x.fs) (in_entries fs xs s i e)
]
  where
    behind : (b : Bool) → Contains (entries_in fs xs) s.entry → Contains (cond b (x.entry ∷ entries_in fs xs) (entries_in fs xs)) s.entry
    behind true k = Contains-tail x.entry (entries_in fs xs) s.entry k
    behind false k = k

in_lives : (fs : ℕ) (lives : Lives) (b : ℕ) (l : Life) (s : BlockState) → life_at lives b ≡ Some l → Contains l.pending s → s.fs ≡ Some fs → Contains (entries_of fs lives) s.entry
in_lives fs [] b l s e h f = absurd (none-some l e)
in_lives fs (o ∷ os) zero l s e h f = Contains-append_left (entries_at fs o) (entries_of fs os) s.entry (subst (λ x. Contains (entries_at fs x) s.entry) (sym e) (in_entries fs l.pending s h f))
in_lives fs (o ∷ os) (suc b) l s e h f = Contains-append_right (entries_at fs o) (entries_of fs os) s.entry (in_lives fs os b l s e h f)

-- How many there are

entries_number : (fs : ℕ) (xs : List BlockState) → length (entries_in fs xs) ≡ count_by (λ s. is_for fs s.fs) xs
entries_number fs xs = is_count_by (λ ys. length (entries_in fs ys)) (λ (s : BlockState). is_for fs s.fs) refl (λ s ys. go (is_for fs s.fs) s.entry (entries_in fs ys)) xs
  where
    go : (b : Bool) (n : ℕ) (ns : List ℕ) → length (cond b (n ∷ ns) ns) ≡ cond b (1 + length ns) (length ns)
    go true n ns = omega arith
    go false n ns = refl

pub entries_counted : (fs : ℕ) (state : StoreState) → length (entries_of fs state.lives) ≡ pending_of state fs
entries_counted fs state = length-flat_map (entries_at fs) state.lives ∙ (λ i. sum_by (λ o. at o i) state.lives)
  where
    at : (o : Option Life) → length (entries_at fs o) ≡ pending_in fs o
    at None = refl
    at (Some l) = entries_number fs l.pending

-- no pending entry of the file system is below it
pub floor_low : (fs next : ℕ) (lives : Lives) (b : ℕ) (l : Life) (s : BlockState) → life_at lives b ≡ Some l → Contains l.pending s → s.fs ≡ Some fs → floor fs next lives ≤ s.entry
floor_low fs next lives b l s e h f = least_below next (entries_of fs lives) s.entry (in_lives fs lives b l s e h f)

-- and it is such an entry or the next number
pub floor_met : (fs next : ℕ) (lives : Lives) → (floor fs next lives ≡ next) ⊎ Contains (entries_of fs lives) (floor fs next lives)
floor_met fs next lives = least_is next (entries_of fs lives)
