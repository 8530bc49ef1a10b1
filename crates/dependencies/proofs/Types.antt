-- The types of the blocks that an entry adds.
use Rattle.std.proofs.Common.{◌≡◌, ℕ, zero, suc, ◌≢◌, Bool, true, false, cond, List, [], ◌∷◌, ◌++◌, length, take, drop, Option, Some, None, refl, sym, ◌∙◌, ap, arith, inl, inr, subst, slice_get}
use Rattle.std.specs.Prelude.{◌&&◌, ◌||◌, ◌==◌, nat_lt, Contains, is_none, option_map}
use Rattle.std.specs.List.{list_all, list_any}
use Rattle.std.proofs.lemmas.Bool.{cases_eq, cases_lt, eq-eqb, lt-ltb, le-ltb, ne_eqb}
use Rattle.std.specs.Option.{option_or}
use Rattle.std.proofs.lemmas.Option.{none-some, same_Some}
use Rattle.xn_model.specs.Root.{has_type}
use Rattle.xn_model.specs.Lives.{BlockState, Life, Lives, has_durable, is_after_met, is_all_durable, is_type_met, life_at, root_on_disk}
use Rattle.xn_model.specs.Calls.{first_pending}
use Rattle.xn_model.proofs.ForCallers.{Contains-head, Contains-tail}
use Rattle.block_cache.specs.Claims.{ClaimValue, claim_of}
use Rattle.dependencies.specs.Awaits.{first_unmet, home_in, lacking, unsettled, unwritten}
use Rattle.dependencies.specs.Safety.{claim_at, is_safe_at, is_some_safe, life_type}
use Rattle.dependencies.proofs.FirstUnmet.{none_unmet}
use Rattle.dependencies.specs.Typed.{FindsTypes}

-- each passes
all_pass : {A : Type 0} (p : A → Bool) (xs : List A) → ((x : A) → Contains xs x → p x ≡ true) → list_all p xs ≡ true
all_pass p [] each = refl
all_pass p (x ∷ xs) each = λ i. each x (Contains-head x xs) i && all_pass p xs (λ y there. each y (Contains-tail x xs y there)) i

-- the entry at a place, between those before and those behind it
split_at : (xs : List BlockState) (k : ℕ) (s : BlockState) → slice_get xs k ≡ Some s → xs ≡ take k xs ++ s ∷ drop (suc k) xs
split_at [] k s e = absurd (none-some s e)
split_at (x ∷ xs) zero s e = ap (λ y. y ∷ xs) (same_Some x s e)
split_at (x ∷ xs) (suc k) s e = ap (λ ys. x ∷ ys) (split_at xs k s e)

or_last : (t : Bool) → (t || false) ≡ t
or_last true = refl
or_last false = refl

-- an entry of a block that is not block 0 finds types on the disk alone
other_met : (lives : Lives) (t : ℕ) (earlier : List BlockState) (adds : List (ℕ × ℕ)) → t ≢ 0 →
    list_all (λ p. has_type (root_on_disk lives) p.1) adds ≡ list_all (λ p. is_type_met lives t earlier p.1) adds
other_met lives t earlier adds other =
    let not_root = ne_eqb t 0 other in
    (λ i. list_all (λ (p : ℕ × ℕ). sym (or_last (has_type (root_on_disk lives) p.1)) i) adds)
    ∙ (λ i. list_all (λ (p : ℕ × ℕ). has_type (root_on_disk lives) p.1 || (sym not_root i && list_any (λ (s : BlockState). has_type s.bytes p.1) earlier)) adds)

-- the first entry of a block finds types on the disk alone
pub first_met : (lives : Lives) (t : ℕ) (adds : List (ℕ × ℕ)) → list_all (λ p. has_type (root_on_disk lives) p.1) adds ≡ list_all (λ p. is_type_met lives t [] p.1) adds
first_met lives t adds = λ i. list_all (λ (p : ℕ × ℕ). no_more (has_type (root_on_disk lives) p.1) (t == 0) i) adds
  where
    no_more : (x y : Bool) → x ≡ (x || (y && false))
    no_more true y = refl
    no_more false true = refl
    no_more false false = refl

-- An entry of block 0 finds the types of the blocks that it adds, and one of any other block on the disk or not at all.
pub types_met : (lives : Lives) (b k : ℕ) (claim : ClaimValue) → FindsTypes lives → claim_at (life_at lives b) k ≡ Some claim →
    ((b == 0 && nat_lt 0 k) || list_all (λ p. has_type (root_on_disk lives) p.1) claim.adds) ≡ list_all (λ p. is_type_met lives (life_type (life_at lives b)) (first_pending k (life_at lives b)) p.1) claim.adds
types_met lives b k claim finds there = by (life_at lives b) refl there
  where
    on_disk : Bool
    on_disk = list_all (λ (p : ℕ × ℕ). has_type (root_on_disk lives) p.1) claim.adds

    root_met : (l : Life) (o : Option BlockState) → life_at lives 0 ≡ Some l → slice_get l.pending k ≡ o → option_map claim_of o ≡ Some claim →
        list_all (λ (p : ℕ × ℕ). is_type_met lives l.ty (take k l.pending) p.1) claim.adds ≡ true
    root_met l None here at e = absurd (none-some claim e)
    root_met l (Some s) here at e =
        let same : s.adds ≡ claim.adds = ap (λ (x : ClaimValue). x.adds) (same_Some (claim_of s) claim e) in
        all_pass (λ (p : ℕ × ℕ). is_type_met lives l.ty (take k l.pending) p.1) claim.adds (λ p in_adds.
        finds.root l (take k l.pending) (drop (suc k) l.pending) s p.0 p.1 here (split_at l.pending k s at) (subst (λ (adds : List (ℕ × ℕ)). Contains adds p) (sym same) in_adds))

    by : (o : Option Life) → life_at lives b ≡ o → claim_at o k ≡ Some claim → ((b == 0 && nat_lt 0 k) || on_disk) ≡ list_all (λ (p : ℕ × ℕ). is_type_met lives (life_type o) (first_pending k o) p.1) claim.adds
    by None here e = absurd (none-some claim e)
    by (Some l) here e = elim (cases_eq b 0) [
      | inl root ↦ elim (cases_lt 0 k) [
        | inl behind ↦
            ap (λ t. (t && nat_lt 0 k) || on_disk) (eq-eqb b 0 root)
            ∙ (ap (λ t. t || on_disk) (lt-ltb 0 k behind) ∙ sym (root_met l (slice_get l.pending k) (ap (life_at lives) (sym root) ∙ here) refl e))
        | inr first ↦
            let none : k ≡ 0 = omega (arith, first) in
            ap (λ t. (t && nat_lt 0 k) || on_disk) (eq-eqb b 0 root)
            ∙ (ap (λ t. t || on_disk) (le-ltb 0 k first) ∙ (first_met lives l.ty claim.adds ∙ ap (λ j. list_all (λ (p : ℕ × ℕ). is_type_met lives l.ty (take j l.pending) p.1) claim.adds) (sym none)))
      ]
      | inr other ↦ ap (λ t. (t && nat_lt 0 k) || on_disk) (ne_eqb b 0 other) ∙ other_met lives l.ty (take k l.pending) claim.adds (λ z. other (finds.alone b l here z))
    ]

-- so the entry at a place is safe where nothing that it claims is unmet
pub safe_if_met : (lives : Lives) (b k : ℕ) (claim : ClaimValue) → FindsTypes lives → Some claim ≡ claim_at (life_at lives b) k →
    is_none (first_unmet lives b k claim) ≡ is_safe_at lives (life_at lives b) k
safe_if_met lives b k claim finds there =
    let o = life_at lives b in
    none_unmet lives b k claim
    ∙ (ap (λ t. (list_all (λ (p : ℕ × ℕ). has_durable lives p.0) claim.adds && t) && (list_all (is_all_durable lives) claim.drops && is_after_met lives (first_pending k o) claim.after))
    (types_met lives b k claim finds (sym there))
    ∙ ap (is_some_safe lives (life_type o) (first_pending k o)) there)

-- an entry that claims nothing waits for nothing
pub nothing_met : (lives : Lives) (b k : ℕ) (claim : ClaimValue) →
    true ≡ (length claim.adds == 0 && (length claim.drops == 0 && is_none claim.after)) → true ≡ is_none (first_unmet lives b k claim)
nothing_met lives b k claim nothing = of_parts claim.adds claim.drops claim.after nothing
  where
    either : (t : Bool) → true ≡ is_none {T = ℕ} (cond (t || true) None (Some 0))
    either true = refl
    either false = refl

    more : (n : ℕ) → (suc n == 0) ≡ false
    more n = ne_eqb (suc n) 0 (λ e. absurd (omega (arith, e)))

    of_parts : (adds : List (ℕ × ℕ)) (drops : List ℕ) (after : Option ℕ) → true ≡ (length adds == 0 && (length drops == 0 && is_none after)) →
        true ≡ is_none (option_or (unwritten lives adds) (option_or (unsettled lives drops) (option_or (home_in lives (first_pending k (life_at lives b)) after) (lacking lives b k adds))))
    of_parts [] [] None e = either (b == 0 && nat_lt 0 k)
    of_parts [] [] (Some n) e = cc
    of_parts [] (d ∷ ds) after e = let some = more (length ds) in let no = e ∙ ap (λ t. true && (t && is_none after)) some in cc
    of_parts (p ∷ ps) drops after e = let some = more (length ps) in let no = e ∙ ap (λ t. t && (length drops == 0 && is_none after)) some in cc
