use Rattle.std.proofs.Common.{[], ◌≡◌, false, ◌<◌, ◌+◌, ℕ, arith, subst, IsTrue}
use Rattle.xn_model.specs.Root.{has_type}
use Rattle.ffs_model.specs.Library.{library_layout}
use Rattle.ffs_model.proofs.ForCallers.{rootless_keeps}
use Rattle.xn_state.specs.States.{own_types}
use Rattle.volume_pair.specs.LibraryTypes.{IsLibraryType}
use Rattle.volume_pair.proofs.LibraryTypes.{types_make}
use Rattle.volume_pair.proofs.Remounts.{by_place, no_root_yet, types_found}
use Rattle.volume_pair.proofs.library.with_library.Goals as goal

pub returns-then-there-eq-TYPES-clause-has : goal.returns-then-there-eq-TYPES-clause-has
returns-then-there-eq-TYPES-clause-has c =
    let there : (i : ℕ) → i < 3 → IsTrue (has_type c.root_bytes.result.now (3 + i)) = subst (λ n. (i : ℕ) → i < n → IsTrue (has_type c.root_bytes.result.now (3 + i))) c.if-there-eq-TYPES.true c.types_there-there.ensures.there in
    record {
      rules = c.rules.ensures.state;
      library = types_make (own_types c.args.running.state) (c.templates_are_the_librarys.ensures.formatted [])
          (by_place (IsLibraryType (own_types c.args.running.state)) (types_found _ c.requires 3 (omega arith) (subst (λ m. (i : ℕ) → i < 3 → IsTrue (has_type m (3 + i))) c.root_bytes.ensures there)));
    }

pub returns-clause-has : goal.returns-clause-has
returns-clause-has c =
    let world = c.install_from.new.running in
    record {
      rules = c.rules-2.ensures.state;
      library = types_make (own_types world.state) (c.templates_are_the_librarys.ensures.formatted []) (by_place (IsLibraryType (own_types world.state)) (c.install_from.ensures.types c.if-not-install_from.false));
    }

pub returns-clause-keeps : goal.returns-clause-keeps
returns-clause-keeps c fs few volume =
    let world = c.install_from.new.running in
    let at_most = c.types_there-there.ensures.few in
    let less : c.types_there-there.result < 3 = omega (arith, c.if-there-eq-TYPES.false, at_most) in
    let none = no_root_yet c.args.running c.requires c.types_there-there.result at_most less (subst (λ m. has_type m (3 + c.types_there-there.result) ≡ false) c.root_bytes.ensures (c.types_there-there.ensures.next less)) fs volume in
    rootless_keeps (own_types world.state) library_layout world.state c.rules-2.ensures.state fs (c.install_from.ensures.rootless fs few none)
