-- The block that the first entry of another one waits for.
use Rattle.std.proofs.Common.{◌≡◌, ℕ, Bool, true, false, cond, List, length, Option, Some, None, refl, sym, ◌∙◌, ap, inl, inr, subst}
use Rattle.std.specs.Prelude.{◌&&◌, ◌||◌, ◌==◌, not, nat_lt, find, is_none, option_map, IfNone, IfSome}
use Rattle.std.specs.List.{list_all, range_with_len}
use Rattle.std.specs.Option.{option_or, option_and_then}
use Rattle.std.proofs.lemmas.Bool.{false≢true}
use Rattle.std.proofs.lemmas.Option.{none-some, same_Some}
use Rattle.xn_model.specs.Root.{has_type}
use Rattle.xn_model.specs.Lives.{Life, Lives, has_durable, has_entry, is_after_met, is_all_durable, is_type_met, life_at, root_on_disk}
use Rattle.xn_model.specs.Calls.{first_pending}
use Rattle.block_cache.specs.Claims.{ClaimValue}
use Rattle.dependencies.specs.Awaits.{first_unmet, home, home_in, lacking, unmet_at, unsettled}
use Rattle.dependencies.specs.Pending.{pends}
use Rattle.dependencies.specs.Safety.{is_some_safe, life_type}
use Rattle.dependencies.specs.Waiting.{Misses, WaitsFor, first_of}
use Rattle.dependencies.proofs.Accounts.{and_false, unsafe_first}
use Rattle.dependencies.proofs.FirstUnmet.{found_passes, none_fails, none_unmet}
use Rattle.dependencies.proofs.Types.{first_met}

fails_by : (t : Bool) → not t ≡ true → t ≡ false
fails_by true e = sym e
fails_by false e = refl

none_first : (o : Option Life) (n : ℕ) → has_entry (first_pending 0 o) n ≡ false
none_first None n = refl
none_first (Some l) n = refl

-- what is unmet of a first entry keeps it from the disk
pub unmet_misses : (lives : Lives) (b x : ℕ) (c : ClaimValue) → first_unmet lives b 0 c ≡ Some x → Misses c x (life_at lives x)
unmet_misses lives b x c e = by_adds (find (λ (p : ℕ × ℕ). not (has_durable lives p.0)) c.adds) refl e
  where
    after : Option ℕ
    after = home_in lives (first_pending 0 (life_at lives b)) c.after

    by_types : (o : Option (ℕ × ℕ)) → find (λ (p : ℕ × ℕ). not (has_type (root_on_disk lives) p.1)) c.adds ≡ o → lacking lives b 0 c.adds ≡ Some x → Misses c x (life_at lives x)
    by_types None is e =
        let all = sym (none_fails (λ (p : ℕ × ℕ). has_type (root_on_disk lives) p.1) c.adds) ∙ ap (λ o. is_none o) is in
        absurd (none-some x (sym (ap (λ t. cond t None (Some 0)) ((λ i. and_false (b == 0) i || all i))) ∙ e))
    by_types (Some p) is e =
        let some = sym (none_fails (λ (q : ℕ × ℕ). has_type (root_on_disk lives) q.1) c.adds) ∙ ap (λ o. is_none o) is in
        let root : 0 ≡ x = same_Some 0 x (sym (ap (λ t. cond t None (Some 0)) ((λ i. and_false (b == 0) i || some i))) ∙ e) in
        let found = found_passes (λ (q : ℕ × ℕ). not (has_type (root_on_disk lives) q.1)) c.adds p is in
        subst (λ y. Misses c y (life_at lives y)) root (inr (inl (refl, (p.0, p.1, found.0, fails_by (has_type (root_on_disk lives) p.1) found.1))))

    by_after : (a : Option ℕ) → c.after ≡ a → option_or (home_in lives (first_pending 0 (life_at lives b)) a) (lacking lives b 0 c.adds) ≡ Some x → Misses c x (life_at lives x)
    by_after None is e = by_types (find (λ (p : ℕ × ℕ). not (has_type (root_on_disk lives) p.1)) c.adds) refl e
    by_after (Some n) is e = by (home lives n) refl (ap (λ t. option_or (cond t None (home lives n)) (lacking lives b 0 c.adds)) (sym (none_first (life_at lives b) n)) ∙ e)
      where
        by : (o : Option ℕ) → home lives n ≡ o → option_or o (lacking lives b 0 c.adds) ≡ Some x → Misses c x (life_at lives x)
        by None none e = by_types (find (λ (p : ℕ × ℕ). not (has_type (root_on_disk lives) p.1)) c.adds) refl e
        by (Some y) there e =
            let same : y ≡ x = same_Some y x e in
            let found = found_passes (λ j. pends n (life_at lives j)) (range_with_len 0 (length lives)) y there in
            subst (λ j. Misses c j (life_at lives j)) same (inr (inr (inr (n, is, found.1))))

    by_drops : (o : Option ℕ) → unsettled lives c.drops ≡ o → option_or o (option_or after (lacking lives b 0 c.adds)) ≡ Some x → Misses c x (life_at lives x)
    by_drops None is e = by_after c.after refl e
    by_drops (Some y) is e =
        let same : y ≡ x = same_Some y x e in
        let found = found_passes (λ j. not (is_all_durable lives j)) c.drops y is in
        subst (λ j. Misses c j (life_at lives j)) same (inr (inr (inl (found.0, fails_by (is_all_durable lives y) found.1))))

    by_adds : (o : Option (ℕ × ℕ)) → find (λ (p : ℕ × ℕ). not (has_durable lives p.0)) c.adds ≡ o →
        option_or (option_map (λ (p : ℕ × ℕ). p.0) o) (option_or (unsettled lives c.drops) (option_or after (lacking lives b 0 c.adds))) ≡ Some x → Misses c x (life_at lives x)
    by_adds None is e = by_drops (unsettled lives c.drops) refl e
    by_adds (Some p) is e =
        let same : p.0 ≡ x = same_Some p.0 x e in
        let found = found_passes (λ (q : ℕ × ℕ). not (has_durable lives q.0)) c.adds p is in
        subst (λ j. Misses c j (life_at lives j)) same (inl (p.1, found.0, fails_by (has_durable lives p.0) found.1))

-- so its block waits for that one
pub unmet_waits : (lives : Lives) (b : ℕ) (r : Option ℕ) → r ≡ unmet_at lives b 0 → IfSome r (WaitsFor lives b)
unmet_waits lives b None is = tt
unmet_waits lives b (Some x) is = by (first_of (life_at lives b)) refl (sym is)
  where
    by : (o : Option ClaimValue) → first_of (life_at lives b) ≡ o → option_and_then (first_unmet lives b 0) o ≡ Some x → WaitsFor lives b x
    by None first e = absurd (none-some x e)
    by (Some claim) first e = record { claim = claim; first = first; misses = unmet_misses lives b x claim e }

-- the types of a first entry are looked for on the disk alone
first_types : (lives : Lives) (b t : ℕ) (o : Option Life) (adds : List (ℕ × ℕ)) →
    ((b == 0 && nat_lt 0 0) || list_all (λ p. has_type (root_on_disk lives) p.1) adds) ≡ list_all (λ p. is_type_met lives t (first_pending 0 o) p.1) adds
first_types lives b t None adds = ap (λ x. x || list_all (λ (p : ℕ × ℕ). has_type (root_on_disk lives) p.1) adds) (and_false (b == 0)) ∙ first_met lives t adds
first_types lives b t (Some l) adds = ap (λ x. x || list_all (λ (p : ℕ × ℕ). has_type (root_on_disk lives) p.1) adds) (and_false (b == 0)) ∙ first_met lives t adds

-- and where nothing is unmet it waits for none
pub none_waits : (lives : Lives) (b : ℕ) (r : Option ℕ) → r ≡ unmet_at lives b 0 → IfNone r ((c : ℕ) → WaitsFor lives b c → ⊥)
none_waits lives b (Some x) is = tt
none_waits lives b None is = λ c w.
    let o = life_at lives b in
    let none = ap (λ o. is_none o) (is ∙ ap (option_and_then (first_unmet lives b 0)) w.first) ∙ none_unmet lives b 0 w.claim in
    let types = first_types lives b (life_type o) o w.claim.adds in
    let safe = none
    ∙ (ap (λ t. (list_all (λ (p : ℕ × ℕ). has_durable lives p.0) w.claim.adds && t) && (list_all (is_all_durable lives) w.claim.drops && is_after_met lives (first_pending 0 o) w.claim.after)) types
    ∙ ap (is_some_safe lives (life_type o) (first_pending 0 o)) (sym w.first)) in
    false≢true (sym (safe ∙ unsafe_first lives b c w))
