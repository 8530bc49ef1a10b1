-- The links of a number over what others do, and over writes; and where fewer blocks are buckets.
use Rattle.std.proofs.Common.{◌≡◌, ℕ, ◌≤◌, Option, Some, None, sym, ◌∙◌, ap, inl, inr, arith, subst}
use Rattle.std.specs.Prelude.{max}
use Rattle.xn_model.specs.Types.{Types}
use Rattle.xn_model.specs.Lives.{Lives, StoreState}
use Rattle.xn_model.specs.Rules.{IsConsistent}
use Rattle.ffs_model.specs.Cuts.{Choice, IsCut, IsFullAt, latest, seen}
use Rattle.ffs_model.specs.Cuts.{KeptFrom}
use Rattle.treefs_model.specs.Edited.{FullBehind, IsOwn}
use Rattle.treefs_model.specs.Links.{HasRoom, IsLedFull, KeepsLinks, Layout, ReadsSame}
use Rattle.treefs_model.proofs.Over.{was, was_latest}
use Rattle.treefs_model.proofs.Total.{total_le}

module _ (T : Types) (L : Layout) (N fs : ℕ) (old : Lives) (new : StoreState) (h : IsConsistent T new) (kept : KeptFrom fs old new.lives) (n : ℕ) (r : ReadsSame L fs old new.lives kept n) where
  -- a block's records in a cut
  seen_one : (k : Choice) (cut : IsCut new.lives k) (b : ℕ) → L.records n b (seen new.lives k b) ≤ L.records n b (seen old (kept k cut).choice b)
  seen_one k cut b = elim (r.records b) [
    | inl own ↦ let same = ap (L.records n b) (was T fs old new h kept k cut b own).0 in omega arith
    | inr none ↦ let zero = none (seen new.lives k b) in omega arith
  ]

  most_one : (k : Choice) (cut : IsCut new.lives k) (b : ℕ) →
      max (L.records n b (seen new.lives k b)) (L.records n b (latest new.lives b)) ≤ max (L.records n b (seen old (kept k cut).choice b)) (L.records n b (latest old b))
  most_one k cut b = elim (r.records b) [
    | inl own ↦ let one = ap (L.records n b) (was T fs old new h kept k cut b own).0 in let two = ap (L.records n b) (was_latest T fs old new h kept b own) in omega arith
    | inr none ↦ let one = none (seen new.lives k b) in let two = none (latest new.lives b) in omega arith
  ]

  led_was : (k : Choice) (cut : IsCut new.lives k) → IsLedFull L new.lives k n → IsLedFull L old (kept k cut).choice n
  led_was k cut z = record {
    led = record { some = λ q. z.led.some (r.table k cut ∙ q); same = sym (r.table k cut) ∙ (z.led.same ∙ r.newest) };
    full = (kept k cut).full (L.leaf (latest old) n) (subst (IsFullAt new.lives k) r.newest z.full);
  }

  pub room_over : (g : Option ℕ) (m : ℕ) → HasRoom L N old g m n → HasRoom L N new.lives g m n
  room_over g m v k cut led guard =
      let c = kept k cut in
      let before = v c.choice c.cut (led_was k cut led) (behind g guard) in
      let sum = total_le N (λ b. max (L.records n b (seen new.lives k b)) (L.records n b (latest new.lives b))) (λ b. max (L.records n b (seen old c.choice b)) (L.records n b (latest old b))) (λ b few. most_one k cut b) in
      let own = r.inode k cut led.led.some in
      let bytes = was_latest T fs old new h kept (L.leaf (latest new.lives) n) (subst (IsOwn fs new.lives) led.led.same own) in
      let same : L.links (latest new.lives (L.leaf (latest new.lives) n)) ≡ L.links (latest old (L.leaf (latest old) n)) = ap L.links (bytes ∙ ap (latest old) r.newest) in
      omega arith
    where
      behind : (g : Option ℕ) → FullBehind new.lives k g → FullBehind old (kept k cut).choice g
      behind None f = tt
      behind (Some b) f = (kept k cut).full b f

  pub links_over : KeepsLinks L N old n → KeepsLinks L N new.lives n
  links_over v = record {
    named = λ k b cut few some zero.
        let c = kept k cut in
        let one = seen_one k cut b in
        v.named c.choice b c.cut few (omega arith) (sym (r.table k cut) ∙ zero);
    good = λ k cut led.
        let c = kept k cut in
        let before = v.good c.choice c.cut (λ q. led (r.table k cut ∙ q)) in
        let sum = total_le N (λ b. L.records n b (seen new.lives k b)) (λ b. L.records n b (seen old c.choice b)) (λ b few. seen_one k cut b) in
        let bytes = (was T fs old new h kept k cut (L.leaf (seen new.lives k) n) (r.inode k cut led)).0 in
        let same : L.links (seen new.lives k (L.leaf (seen new.lives k) n)) ≡ L.links (seen old c.choice (L.leaf (seen old c.choice) n)) = ap L.links (bytes ∙ ap (seen old c.choice) (r.table k cut)) in
        omega arith;
    tight = room_over None 0 v.tight;
  }
