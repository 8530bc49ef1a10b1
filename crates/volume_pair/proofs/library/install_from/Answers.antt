use Rattle.std.proofs.Common.{get_or, ◌≡◌, ◌+◌, arith, sym, subst, inl, inr}
use Rattle.std.proofs.lemmas.Bool.{cases_eq}
use Rattle.xn_state.specs.States.{own_types}
use Rattle.volume_pair.specs.LibraryTypes.{IsLibraryType}
use Rattle.volume_pair.proofs.LibraryTypes.{more_type, says_library}
use Rattle.volume_pair.proofs.library.install_from.Goals as goal

pub returns-then-not-install_at-clause-rootless : goal.returns-then-not-install_at-clause-rootless
returns-then-not-install_at-clause-rootless c fs few none = c.install_at.ensures.rootless fs few (c.loop-place.invariant.1 fs few none)

pub loop-place-preserved : goal.loop-place-preserved
loop-place-preserved c = (
  λ i lt. elim (cases_eq i c.loop-place.place) [
    | inl same ↦
        let here = says_library (own_types c.install_at.new.running.state) c.loop-place.place c.index-templates-place.result c.loop-place-test.true (subst (λ ts. get_or ts c.loop-place.place c.index-templates-place.result ≡ c.index-templates-place.result) c.requires.templates (sym c.index-templates-place.is)) (c.install_at.ensures.says c.if-not-install_at.false) in
        subst (λ j. IsLibraryType (own_types c.install_at.new.running.state) (3 + j)) (sym same) here
    | inr other ↦ more_type (own_types c.loop-place.running.state) (own_types c.install_at.new.running.state) (3 + i) c.install_at.ensures.more (c.loop-place.invariant.0 i (omega (arith, lt, other)))
  ],
  λ fs few none. c.install_at.ensures.rootless fs few (c.loop-place.invariant.1 fs few none),
)
