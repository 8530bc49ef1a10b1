-- The lives between the two entries of an installation.
use Rattle.std.proofs.Common.{◌≡◌, ◌≢◌, ℕ, ◌+◌, ◌≤◌, false, true, List, Some, None, sym, ◌∙◌, ap, arith, inl, inr}
use Rattle.std.specs.Prelude.{◌||◌, is_some, slice_set, unwrap_or}
use Rattle.std.proofs.lemmas.Bool.{cases_eq, false≢true, ne_eqb}
use Rattle.std.proofs.lemmas.Option.{slice_get_within}
use Rattle.std.proofs.lemmas.List.{set-get_or, set-set}
use Rattle.xn_model.specs.Lives.{Lives, alive_and, is_owned_by, life_at, lowest_free}
use Rattle.xn_model.specs.Calls.{new_life}
use Rattle.xn_model.proofs.ForCallers.{set_other, set_same}
use Rattle.dependencies.specs.Pending.{pends}
use Rattle.dependencies.proofs.ForCallers.{place_is}
use Rattle.dependencies.specs.Index.{IsUnowned}
use Rattle.dependencies.proofs.ForCallers.{least_is_free}

module _ (lives : Lives) (b n : ℕ) (m : List ℕ) (free : lowest_free lives ≡ Some b) where
  abbrev pub begun : Lives
  begun = slice_set lives b (Some (new_life n None 1 m))

  was_free : life_at lives b ≡ None
  was_free = ap (λ o. unwrap_or o None) (least_is_free lives b free)

  begun_here : life_at begun b ≡ Some (new_life n None 1 m)
  begun_here = set_same lives b (Some (new_life n None 1 m)) (slice_get_within lives b None (least_is_free lives b free))

  begun_other : (c : ℕ) → c ≢ b → life_at begun c ≡ life_at lives c
  begun_other c ne = set_other lives b c (Some (new_life n None 1 m)) ne

  -- the second number is pending nowhere
  pub second_fresh : ((k c : ℕ) → n ≤ k → pends k (life_at lives c) ≡ false) → (c : ℕ) → pends (n + 1) (life_at begun c) ≡ false
  second_fresh fresh c = elim (cases_eq c b) [
    | inl e ↦ ap (λ x. pends (n + 1) (life_at begun x)) e ∙ (ap (pends (n + 1)) begun_here ∙ (λ i. ne_eqb n (n + 1) (λ same. absurd (omega (arith, same))) i || false))
    | inr ne ↦ ap (pends (n + 1)) (begun_other c ne) ∙ fresh (n + 1) c (omega arith)
  ]

  -- block 0 is another block
  pub root_stays : is_some (life_at lives 0) ≡ true → life_at begun 0 ≡ life_at lives 0
  root_stays alive = begun_other 0 (λ e. false≢true (ap is_some (sym was_free ∙ ap (life_at lives) (sym e)) ∙ alive))

  -- nobody owns it, and without it the lives are as they were
  pub begun_unowned : IsUnowned (life_at begun b)
  begun_unowned a = ap (alive_and (λ l. is_owned_by a l.status)) begun_here

  pub begun_undone : slice_set begun b None ≡ lives
  begun_undone = set-set lives b (Some (new_life n None 1 m)) None ∙ (ap (slice_set lives b) (sym was_free ∙ place_is lives b) ∙ set-get_or lives b None)
