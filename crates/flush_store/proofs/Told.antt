-- What a store tells of a flush of its kernel: the waves, or the refusal.
use Rattle.std.proofs.Common.{◌≡◌, ℕ, Result, Ok, Err, sym, subst, IfOk, IfErr, MatchResult, OnOk}
use Rattle.store_types.specs.declared.refusal.Refusal.{Refusal}

module _ {S : Type 0} (refusal : S → Refusal) where
  abbrev pub Tells : Result ℕ Refusal → Result ℕ S → Type 0
  Tells told flushed = MatchResult flushed (λ waves. told ≡ Ok waves) (λ stop. told ≡ Err (refusal stop))

  pub if_ok : (told : Result ℕ Refusal) (flushed : Result ℕ S) (P Q : ℕ → Type 0) → Tells told flushed → IfOk flushed P → ((n : ℕ) → P n → Q n) → IfOk told Q
  if_ok told (Ok n) P Q e p f = subst (λ r. IfOk r Q) (sym e) (f n p)
  if_ok told (Err stop) P Q e p f = subst (λ r. IfOk r Q) (sym e) tt

  pub if_err : (told : Result ℕ Refusal) (flushed : Result ℕ S) (P : S → Type 0) (Q : Refusal → Type 0) → Tells told flushed → IfErr flushed P →
      ((stop : S) → P stop → Q (refusal stop)) → IfErr told Q
  if_err told (Ok n) P Q e p f = subst (λ r. IfErr r Q) (sym e) tt
  if_err told (Err stop) P Q e p f = subst (λ r. IfErr r Q) (sym e) (f stop p)

  pub on_ok : (told : Result ℕ Refusal) (flushed : Result ℕ S) (P Q : Type 0) → Tells told flushed → OnOk flushed P → (P → Q) → OnOk told Q
  on_ok told (Ok n) P Q e p f = subst (λ r. OnOk r Q) (sym e) (f p)
  on_ok told (Err stop) P Q e p f = subst (λ r. OnOk r Q) (sym e) tt
