-- What each edit of a call leaves of directories.
use Rattle.std.proofs.Common.{◌≡◌, ℕ, ◌<◌, sym, ◌∙◌, ap, subst, IsTrue}
use Rattle.ffs_lib.proofs.Common.{IsConsistent, IsLibrary, StoreState, Types, Under, bytes_of, fits, latest, life_bytes}
use Rattle.xn_model.proofs.ForCallers.{last_of}
use Rattle.ffs_model.proofs.ForCallers.{latest_reached}

module _ (T : Types) (lib : IsLibrary T) (state new : StoreState) (h : IsConsistent T state) (fs : ℕ) (few : fs < 32) where
  pub fits_newest : (c u : ℕ) → Under T (latest state.lives) fs c u → IsTrue (fits T u (latest state.lives c))
  fits_newest c u at =
      let x = latest_reached T state h fs few c u at in
      let k = h.linked c x.life x.alive in
      let is : latest state.lives c ≡ k.last.bytes = ap life_bytes x.alive ∙ ap bytes_of k.is_last in
      subst (λ m. IsTrue (fits T u m)) (sym is) (subst (λ t. IsTrue (fits T t k.last.bytes)) x.ty ((h.lives_sound.each c x.life x.alive).fit k.last (last_of x.life.durable x.life.pending k.last k.is_last)))
