-- Blocks of the file system over what others do, and what begins, lands, is synced or finished.
use Rattle.std.proofs.Common.{◌≡◌, ℕ, Option, Some, None, refl, sym, ◌∙◌, ap}
use Rattle.std.proofs.lemmas.Option.{none-some}
use Rattle.xn_model.specs.Types.{Types}
use Rattle.xn_model.specs.Lives.{Life, Lives, StoreState, life_at}
use Rattle.xn_model.specs.Rules.{IsConsistent}
use Rattle.ffs_model.specs.Cuts.{Choice, IsCut, latest, seen}
use Rattle.ffs_model.specs.Cuts.{KeptFrom}
use Rattle.ffs_model.proofs.ForCallers.{everything, everything_cut, everything_full, everything_seen, full_seen}
use Rattle.ffs_model.proofs.ForCallers.{seen_chosen}
use Rattle.treefs_model.specs.Edited.{IsOwn, system_in, type_at, type_in}

own_life : (fs : ℕ) (o : Option Life) → system_in o ≡ Some fs → (l : Life) × (o ≡ Some l) × (l.fs ≡ Some fs)
own_life fs None m = absurd (none-some fs m)
own_life fs (Some l) m = (l, refl, m)

module _ (T : Types) (fs : ℕ) (old : Lives) (new : StoreState) (h : IsConsistent T new) (kept : KeptFrom fs old new.lives) where
  pub was : (k : Choice) (cut : IsCut new.lives k) (b : ℕ) → IsOwn fs new.lives b → (seen new.lives k b ≡ seen old (kept k cut).choice b) × (type_at new.lives b ≡ type_at old b) × IsOwn fs old b
  was k cut b m =
      let l = own_life fs (life_at new.lives b) m in
      let s = (kept k cut).sees b l.0 l.1 l.2 in
      (seen_chosen new.lives k b l.0 l.1 ∙ (s.same ∙ sym (seen_chosen old (kept k cut).choice b s.life s.alive)), ap type_in l.1 ∙ (sym s.ty ∙ sym (ap type_in s.alive)), ap system_in s.alive ∙ (s.system ∙ l.2))

  all_cut : IsCut new.lives (everything new.lives)
  all_cut = everything_cut T new h

  pub was_latest : (b : ℕ) → IsOwn fs new.lives b → latest new.lives b ≡ latest old b
  was_latest b m =
      let c = kept (everything new.lives) all_cut in
      ap (λ v. v b) (sym (everything_seen new.lives)) ∙ ((was (everything new.lives) all_cut b m).0 ∙ full_seen old c.choice b (c.full b (everything_full new.lives b)))
