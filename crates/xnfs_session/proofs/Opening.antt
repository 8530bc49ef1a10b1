-- How a session begins.
use Rattle.std.proofs.Common.{◌≡◌, ℕ, Result, Err, IsOk, inr, sym, subst}
use Rattle.xn_model.specs.Types.{Types}
use Rattle.xn_model.specs.Lives.{StoreState}
use Rattle.ffs_model.specs.Library.{IsLibrary}
use Rattle.ffs_lookup.specs.declared.fault.FfsFault.{FfsFault}
use Rattle.ffs_lookup.specs.FileValues.{files_of}
use Rattle.ffs_lib.specs.Making.{newly_made}
use Rattle.ffs_lib.specs.NewOrder.{MakesInOrder}
use Rattle.ffs_lib.specs.Stages.{Does, make_stages}
use Rattle.ffs_lib.specs.Steps.{newest_block}
use Rattle.xnfs_session.specs.Opening.{IsFlushed, MakesBy}

-- no volume could be made on the flushed store
module _ (T U : Types) (fs : ℕ) (old flushed new : StoreState) (fault : FfsFault) (same : U ≡ T) (is : IsFlushed old flushed) (library : IsLibrary U) where
  pub fails_to_make : Does {A = Unit {0}} U fs (newly_made flushed fs (files_of (newest_block flushed) fs)) (make_stages (files_of (newest_block flushed) fs)) flushed new (Err fault) →
      (IsOk (newly_made flushed fs (files_of (newest_block flushed) fs)) → MakesInOrder {A = Unit {0}} U fs flushed new (Err fault)) →
      (answer : Result StoreState FfsFault) → answer ≡ Err fault → MakesBy T fs old answer
  fails_to_make does order answer e =
      subst (MakesBy T fs old) (sym e) (inr (
        flushed,
        is,
        inr (
          subst IsLibrary same library,
          (
            new,
            subst (λ V. Does {A = Unit {0}} V fs (newly_made flushed fs (files_of (newest_block flushed) fs)) (make_stages (files_of (newest_block flushed) fs)) flushed new (Err fault)) same does,
            subst (λ V. IsOk (newly_made flushed fs (files_of (newest_block flushed) fs)) → MakesInOrder {A = StoreState} V fs flushed new (Err fault)) same order,
            tt,
          ),
        ),
      ))
