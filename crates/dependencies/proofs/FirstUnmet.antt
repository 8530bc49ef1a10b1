-- The block that keeps an entry from the disk.
use Rattle.std.proofs.Common.{◌≡◌, ℕ, zero, suc, ◌+◌, ◌<◌, ◌≤◌, Bool, true, false, cond, List, [], ◌∷◌, length, Option, Some, None, refl, sym, ◌∙◌, ap, arith, inl, inr, subst}
use Rattle.std.specs.Prelude.{◌&&◌, ◌||◌, ◌==◌, not, nat_lt, Contains, find, is_none, option_map, unwrap_or}
use Rattle.std.specs.List.{list_all, range_with_len}
use Rattle.std.specs.Option.{option_or}
use Rattle.std.proofs.lemmas.Bool.{cases_eq, false≢true}
use Rattle.std.proofs.lemmas.Option.{none-some, same_Some}
use Rattle.xn_model.specs.Root.{has_type}
use Rattle.xn_model.specs.Lives.{BlockState, Lives, has_durable, has_entry, is_after_met, is_all_durable, is_pending, life_at, root_on_disk}
use Rattle.xn_model.specs.Calls.{first_pending}
use Rattle.xn_model.proofs.ForCallers.{Contains-head, Contains-tail}
use Rattle.block_cache.specs.Claims.{ClaimValue}
use Rattle.dependencies.specs.Awaits.{awaited_by, first_unmet, home, home_in, lacking, unsettled, unwritten}
use Rattle.dependencies.specs.Homes.{AreHomes, home_of}
use Rattle.dependencies.specs.Pending.{pends}
use Rattle.dependencies.proofs.Accounts.{pends_within}
use Rattle.dependencies.proofs.Dirty.{FailsBelow, none_of}
use Rattle.dependencies.proofs.Numbered.{pending_found}

-- Elements that are found

module _ {A : Type 0} (p : A → Bool) where
  pub found_passes : (xs : List A) (x : A) → find p xs ≡ Some x → Contains xs x × (p x ≡ true)
  found_passes [] x e = absurd (none-some x e)
  found_passes (y ∷ ys) x e = by (found_passes ys x) (p y) refl e
    where
      by : (find p ys ≡ Some x → Contains ys x × (p x ≡ true)) → (t : Bool) → p y ≡ t → cond t (Some y) (find p ys) ≡ Some x → Contains (y ∷ ys) x × (p x ≡ true)
      by later true h e =
          let same : y ≡ x = same_Some y x e in (
            subst (λ z. Contains (y ∷ ys) z) same (Contains-head y ys),
            subst (λ z. p z ≡ true) same h,
          )
      by later false h e = let rest = later e in (Contains-tail y ys x rest.0, rest.1)

  pub none_fails : (xs : List A) → is_none (find (λ x. not (p x)) xs) ≡ list_all p xs
  none_fails [] = refl
  none_fails (x ∷ xs) = by (none_fails xs) (p x)
    where
      by : is_none (find (λ x. not (p x)) xs) ≡ list_all p xs → (t : Bool) → is_none (cond (not t) (Some x) (find (λ x. not (p x)) xs)) ≡ (t && list_all p xs)
      by later true = later
      by later false = refl

mapped_none : {A B : Type 0} (f : A → B) (o : Option A) → is_none (option_map f o) ≡ is_none o
mapped_none f None = refl
mapped_none f (Some x) = refl

or_none : {A : Type 0} (o p : Option A) → is_none (option_or o p) ≡ (is_none o && is_none p)
or_none None p = refl
or_none (Some x) p = refl

-- numbers in a range
pub least_found : (p : ℕ → Bool) (a n b : ℕ) → a ≤ b → b < a + n → p b ≡ true → ((k : ℕ) → a ≤ k → k < b → p k ≡ false) → find p (range_with_len a n) ≡ Some b
least_found p a zero b from below here before = absurd (omega arith)
least_found p a (suc n) b from below here before =
    by (λ past. least_found p (a + 1) n b (omega (arith, past)) (omega (arith, below)) here (λ k from. before k (omega (arith, from)))) (p a) refl
  where
    by : (a < b → find p (range_with_len (a + 1) n) ≡ Some b) → (t : Bool) → p a ≡ t → cond t (Some a) (find p (range_with_len (a + 1) n)) ≡ Some b
    by later true h = elim (cases_eq a b) [
      | inl same ↦ ap (λ x. Some x) same
      | inr other ↦ absurd (false≢true (sym (before a (omega arith) (omega (arith, from, other))) ∙ h))
    ]
    by later false h = elim (cases_eq a b) [
      | inl same ↦ absurd (false≢true (sym h ∙ (ap p same ∙ here)))
      | inr other ↦ later (omega (arith, from, other))
    ]

pub none_found : (p : ℕ → Bool) (a n : ℕ) → ((k : ℕ) → a ≤ k → k < a + n → p k ≡ false) → find p (range_with_len a n) ≡ None
none_found p a zero each = refl
none_found p a (suc n) each =
    ap (λ t. cond t (Some a) (find p (range_with_len (a + 1) n))) (each a (omega arith) (omega arith))
    ∙ none_found p (a + 1) n (λ k from below. each k (omega (arith, from)) (omega (arith, below)))

pub range_fails : (p : ℕ → Bool) (a n : ℕ) → find p (range_with_len a n) ≡ None → (k : ℕ) → a ≤ k → k < a + n → p k ≡ false
range_fails p a zero none k from below = absurd (omega arith)
range_fails p a (suc n) none k from below = by (λ e past. range_fails p (a + 1) n e k (omega (arith, past)) (omega (arith, below))) (p a) refl none
  where
    by : (find p (range_with_len (a + 1) n) ≡ None → a < k → p k ≡ false) → (t : Bool) → p a ≡ t → cond t (Some a) (find p (range_with_len (a + 1) n)) ≡ None → p k ≡ false
    by later true h e = absurd (none-some a (sym e))
    by later false h e = elim (cases_eq a k) [
      | inl same ↦ ap p (sym same) ∙ h
      | inr other ↦ later e (omega (arith, from, other))
    ]

-- The block in which an entry is pending

pub home_is : (lives : Lives) (b n : ℕ) → pends n (life_at lives b) ≡ true → FailsBelow (pends n) lives b → home lives n ≡ Some b
home_is lives b n here before =
    least_found (λ c. pends n (life_at lives c)) 0 (length lives) b (omega arith) (omega (arith, pends_within lives b n here)) here (λ k past below. before k below)

pub no_home : (lives : Lives) (n : ℕ) → FailsBelow (pends n) lives (length lives) → home lives n ≡ None
no_home lives n fails = none_found (λ c. pends n (life_at lives c)) 0 (length lives) (λ k past below. fails k (omega (arith, below)))

-- where its home is known
pub home_there : (lives : Lives) (homes : List (ℕ × ℕ)) (b n : ℕ) → AreHomes lives homes → home_of homes n ≡ Some b → pends n (life_at lives b) ≡ true → Some b ≡ home lives n
home_there lives homes b n are known here = sym (home_is lives b n here (λ k below. by k below (pends n (life_at lives k)) refl))
  where
    by : (k : ℕ) → k < b → (t : Bool) → pends n (life_at lives k) ≡ t → pends n (life_at lives k) ≡ false
    by k below true e = absurd (omega (arith, below, are n k b e known))
    by k below false e = e

pub home_gone : (lives : Lives) (homes : List (ℕ × ℕ)) (b n : ℕ) → AreHomes lives homes → home_of homes n ≡ Some b → pends n (life_at lives b) ≡ false → None ≡ home lives n
home_gone lives homes b n are known fails = sym (no_home lives n (λ k below. by k (pends n (life_at lives k)) refl))
  where
    by : (k : ℕ) (t : Bool) → pends n (life_at lives k) ≡ t → pends n (life_at lives k) ≡ false
    by k true e = let same : b ≡ k = are n k b e known in ap (λ j. pends n (life_at lives j)) (sym same) ∙ fails
    by k false e = e

-- What is unmet

home_pending : (lives : Lives) (n : ℕ) → is_none (home lives n) ≡ not (is_pending lives n)
home_pending lives n = by (home lives n) refl
  where
    by : (o : Option ℕ) → home lives n ≡ o → is_none o ≡ not (is_pending lives n)
    by None e =
        let fails = range_fails (λ c. pends n (life_at lives c)) 0 (length lives) e in
        ap not (sym (none_of (pends n) lives (length lives) (omega arith) (λ k below. fails k (omega arith) (omega (arith, below)))))
    by (Some c) e =
        let here = (found_passes (λ b. pends n (life_at lives b)) (range_with_len 0 (length lives)) c e).1 in
        ap not (sym (pending_found lives n c (pends_within lives c n here) here))

or_true : (t : Bool) → true ≡ (t || true)
or_true true = refl
or_true false = refl

or_last : (t : Bool) → t ≡ (t || false)
or_last true = refl
or_last false = refl

after_met : (lives : Lives) (earlier : List BlockState) (after : Option ℕ) → is_none (home_in lives earlier after) ≡ is_after_met lives earlier after
after_met lives earlier None = refl
after_met lives earlier (Some n) = by (has_entry earlier n)
  where
    by : (t : Bool) → is_none (cond t None (home lives n)) ≡ (not (is_pending lives n) || t)
    by true = or_true (not (is_pending lives n))
    by false = home_pending lives n ∙ or_last (not (is_pending lives n))

lacks_none : (t : Bool) → is_none {T = ℕ} (cond t None (Some 0)) ≡ t
lacks_none true = refl
lacks_none false = refl

reorder : (a d h t : Bool) → (a && (d && (h && t))) ≡ ((a && t) && (d && h))
reorder false d h t = refl
reorder true false h true = refl
reorder true false h false = refl
reorder true true false true = refl
reorder true true false false = refl
reorder true true true true = refl
reorder true true true false = refl

-- nothing is where all that the entry claims is met
pub none_unmet : (lives : Lives) (b k : ℕ) (c : ClaimValue) → is_none (first_unmet lives b k c) ≡
    ((list_all (λ p. has_durable lives p.0) c.adds && ((b == 0 && nat_lt 0 k) || list_all (λ p. has_type (root_on_disk lives) p.1) c.adds))
    && (list_all (is_all_durable lives) c.drops && is_after_met lives (first_pending k (life_at lives b)) c.after))
none_unmet lives b k c =
    let earlier = first_pending k (life_at lives b) in
    let types = (b == 0 && nat_lt 0 k) || list_all (λ (p : ℕ × ℕ). has_type (root_on_disk lives) p.1) c.adds in
    let written = mapped_none (λ (p : ℕ × ℕ). p.0) (find (λ (p : ℕ × ℕ). not (has_durable lives p.0)) c.adds) ∙ none_fails (λ (p : ℕ × ℕ). has_durable lives p.0) c.adds in
    let settled = none_fails (is_all_durable lives) c.drops in
    or_none (unwritten lives c.adds) (option_or (unsettled lives c.drops) (option_or (home_in lives earlier c.after) (lacking lives b k c.adds)))
    ∙ (ap (λ t. is_none (unwritten lives c.adds) && t) (or_none (unsettled lives c.drops) (option_or (home_in lives earlier c.after) (lacking lives b k c.adds))
    ∙ ap (λ t. is_none (unsettled lives c.drops) && t) (or_none (home_in lives earlier c.after) (lacking lives b k c.adds)))
    ∙ ((λ i. written i && (settled i && (after_met lives earlier c.after i && lacks_none types i)))
    ∙ reorder (list_all (λ (p : ℕ × ℕ). has_durable lives p.0) c.adds) (list_all (is_all_durable lives) c.drops) (is_after_met lives earlier c.after) types))

-- what is unmet is what the entry awaits
pub awaited_is : (lives : Lives) (b k x : ℕ) (c : ClaimValue) → first_unmet lives b k c ≡ Some x → awaited_by lives (first_pending k (life_at lives b)) c ≡ x
awaited_is lives b k x c e =
    by (unwritten lives c.adds) (unsettled lives c.drops) (home_in lives (first_pending k (life_at lives b)) c.after)
    ((b == 0 && nat_lt 0 k) || list_all (λ (p : ℕ × ℕ). has_type (root_on_disk lives) p.1) c.adds) e
  where
    by : (a d h : Option ℕ) (t : Bool) → option_or a (option_or d (option_or h (cond t None (Some 0)))) ≡ Some x → unwrap_or (option_or a (option_or d h)) 0 ≡ x
    by (Some y) d h t e = same_Some y x e
    by None (Some y) h t e = same_Some y x e
    by None None (Some y) t e = same_Some y x e
    by None None None true e = absurd (none-some x e)
    by None None None false e = same_Some 0 x e
