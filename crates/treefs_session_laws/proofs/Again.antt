-- Calls that are made again, or behind which orphans are freed, leave a volume as before.
use Rattle.std.proofs.Common.{◌≡◌, true, ap, inl, inr, refl, subst}
use Rattle.xn_model.specs.Lives.{StoreState}
use Rattle.xn_model.specs.Types.{Types}
use Rattle.treefs_model.specs.declared.fault.Fault.{Fault}
use Rattle.treefs_model.specs.declared.fault.Fault.TheVariants.{BadName, Cycle, Exists, Full, IsDir, Kernel, NoEntry, NoInode, NoSpace}
use Rattle.treefs_model.specs.declared.fault.Fault.TheVariants.{NotDir, NotEmpty, NotLink, TooLarge}
use Rattle.treefs.specs.declared.volume.Volume.{Volume}
use Rattle.treefs_laws.specs.Space.{LacksSpace, LeavesFiles}
use Rattle.treefs_session.specs.Freeing.{lacks_space}
use Rattle.treefs_session_laws.specs.Before.{IsAsBefore}
use Rattle.treefs_session_laws.proofs.Done.{full_is}
use Rattle.treefs_session_laws.proofs.Tried.{IsAgain}

lacks_is : (fault : Fault) → lacks_space fault ≡ true → LacksSpace fault
lacks_is NoSpace is = inl refl
lacks_is NoInode is = inr refl
lacks_is Full is = absurd (cc is)
lacks_is NoEntry is = absurd (cc is)
lacks_is Exists is = absurd (cc is)
lacks_is NotDir is = absurd (cc is)
lacks_is IsDir is = absurd (cc is)
lacks_is NotEmpty is = absurd (cc is)
lacks_is BadName is = absurd (cc is)
lacks_is NotLink is = absurd (cc is)
lacks_is TooLarge is = absurd (cc is)
lacks_is Cycle is = absurd (cc is)
lacks_is (Kernel reason) is = absurd (cc is)

module _ (T : Types) (s s' : StoreState) (v v' : Volume) where
  pub leaves_before : LeavesFiles T s s' v v' → IsAsBefore T s s' v v'
  leaves_before leaves = record {
    is_open = leaves.1;
    files = leaves.2;
    unnamed = leaves.3;
    tree = ap (λ (w : Volume). w.tree) leaves.0;
    clock =
        ap (λ (w : Volume). w.memory.clock) leaves.0;
  }

  -- Does: what a call does that is refused so
  pub again_before : (fault : Fault) (Does : Fault → Type 0) → (Does Full → IsAsBefore T s s' v v') →
      (LacksSpace fault → Does fault → LeavesFiles T s s' v v') →
      IsAgain fault → Does fault → IsAsBefore T s s' v v'
  again_before fault Does full space (inl is) does = full (subst Does (full_is fault is) does)
  again_before fault Does full space (inr is) does = leaves_before (space (lacks_is fault is) does)
