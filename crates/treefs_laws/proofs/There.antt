-- Inodes that are there stay there.
use Rattle.std.proofs.Common.{◌≢◌, ℕ, Option, None, Some, refl, sym, ◌∙◌, ap, inl, inr, if◌then◌else◌}
use Rattle.std.proofs.lemmas.Bool.{cases_eq, eq-eqb, ne_eqb}
use Rattle.treefs_model.specs.Files.{Files, Inode, changed_at, changed_in, with_inode}

pub changed_there : (files : Files) (d : ℕ) (change : Inode → Inode) (m : ℕ) → files m ≢ None → changed_at files d change m ≢ None
changed_there files d change m there = elim (cases_eq m d) [
  | inl is ↦ (λ none. some (files d) (λ z. there (ap files is ∙ z)) (sym (ap (λ t. if t then changed_in change (files d) else files m) (eq-eqb m d is)) ∙ none))
  | inr ne ↦ (λ none. there (sym (ap (λ t. if t then changed_in change (files d) else files m) (ne_eqb m d ne)) ∙ none))
]
  where
    some : (o : Option Inode) → o ≢ None → changed_in change o ≢ None
    some None there none = there refl
    some (Some inode) there none = absurd (cc none)

pub with_there : (files : Files) (n : ℕ) (inode : Inode) (m : ℕ) → files m ≢ None → with_inode files n (Some inode) m ≢ None
with_there files n inode m there = elim (cases_eq m n) [
  | inl is ↦ (λ none. absurd (cc (sym (ap (λ t. if t then Some inode else files m) (eq-eqb m n is)) ∙ none)))
  | inr ne ↦ (λ none. there (sym (ap (λ t. if t then Some inode else files m) (ne_eqb m n ne)) ∙ none))
]
