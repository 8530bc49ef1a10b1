-- A session sets a size: the files are as truncated, but for orphans.
use Rattle.std.proofs.Common.{◌≡◌, ◌⊎◌, ℕ, List, Result, Ok, Err, sym, ◌∙◌, ap, inl, inr, subst}
use Rattle.xn_model.specs.Lives.{StoreState}
use Rattle.xn_model.specs.Types.{Types}
use Rattle.treefs_model.specs.Changes.{truncated}
use Rattle.treefs_model.specs.declared.fault.Fault.{Fault}
use Rattle.treefs_byte_plans.specs.Sizes.{truncate_planned}
use Rattle.treefs_byte_plans.specs.declared.size.SizePlan.{SizePlan}
use Rattle.treefs.specs.Sizing.{SizeDoes, TruncateDoes}
use Rattle.treefs.specs.declared.volume.Volume.{Volume}
use Rattle.treefs_laws.specs.Kept.{files_in}
use Rattle.treefs_laws.specs.Open.{IsOpen}
use Rattle.treefs_laws.specs.Orphans.{IsReaped}
use Rattle.treefs_laws.proofs.ForCallers.{reaped_same}
use Rattle.treefs_session.specs.Freeing.{MakesFreely}
use Rattle.treefs_session_laws.specs.Before.{IsAsBeforeButOrphans, IsUnheld}
use Rattle.treefs_session_laws.proofs.Altered.{AreSized, AreTruncated, sized_end, sized_then}
use Rattle.treefs_session_laws.proofs.Freed.{held_or_not}
use Rattle.treefs_session_laws.proofs.Kept.{made_last}

-- the session's place and clock stay
abbrev pub Stays : Volume → Volume → Type 0
Stays v v' = (v'.tree ≡ v.tree) × (v'.memory.clock ≡ v.memory.clock)

pub same_stays : (v v' : Volume) → v' ≡ v → Stays v v'
same_stays v v' is = (ap (λ (w : Volume). w.tree) is, ap (λ (w : Volume). w.memory.clock) is)

size_stays : (T : Types) (old new : StoreState) (v v' : Volume) (n : ℕ) (planned : Result SizePlan Fault) (result : Result (Unit {0}) Fault) →
    SizeDoes T old new v v' n planned result → Stays v v'
size_stays T old new v v' n (Err fault) result refuses = same_stays v v' refuses.2
size_stays T old new v v' n (Ok plan) result (inl (failed, is)) = same_stays v v' is
size_stays T old new v v' n (Ok plan) result (inr (middle, does, is, trims)) = (ap (λ (w : Volume). w.tree) is, ap (λ (w : Volume). w.memory.clock) is)

truncate_stays : (T : Types) (old new : StoreState) (v v' : Volume) (n size : ℕ) (result : Result (Unit {0}) Fault) →
    TruncateDoes T old new v v' n size result → Stays v v'
truncate_stays T old new v v' n size result (kept, trims, inl (failed, is)) = same_stays v v' is
truncate_stays T old new v v' n size result (kept, trims, inr (middle, trimmed, does)) =
    size_stays T middle new v v' n (truncate_planned middle v.tree v.memory n size) result does

module _ (T : Types) (held : List ℕ) (n size : ℕ) where
  pub record IsSized (old new : StoreState) (v v' : Volume) : Type 0 where
    pub is_open : IsOpen T new v'
    pub files : AreSized (IsUnheld held) (held_or_not held) v.memory.clock n size (files_in old v) (files_in new v')
    pub tree : v'.tree ≡ v.tree
    pub clock : v'.memory.clock ≡ v.memory.clock

  chain : (old middle new : StoreState) (v w x : Volume) → IsSized old middle v w → IsSized middle new w x → IsSized old new v x
  chain old middle new v w x first second = record {
    is_open = second.is_open;
    files = sized_then (IsUnheld held) (held_or_not held) v.memory.clock n size (files_in old v) (files_in middle w) (files_in new x) first.files
        (subst (λ t. AreSized (IsUnheld held) (held_or_not held) t n size (files_in middle w) (files_in new x)) first.clock second.files);
    tree = second.tree ∙ first.tree;
    clock = second.clock ∙ first.clock;
  }

  frees : (old new : StoreState) (v v' : Volume) → IsAsBeforeButOrphans T held old new v v' → IsSized old new v v'
  frees old new v v' is = record { is_open = is.is_open; files = inl is.files; tree = is.tree; clock = is.clock }

  abbrev Sizes : StoreState → StoreState → Volume → Volume → Result (Unit {0}) Fault → Type 0
  Sizes s s' v v' result = TruncateDoes T s s' v v' n size result

  module _ (done : (old new : StoreState) (v v' : Volume) → IsOpen T old v → Sizes old new v v' (Ok tt) →
      IsOpen T new v' × (truncated (files_in old v) v.memory.clock n size ≡ Ok (files_in new v')))
      (not_done : (old new : StoreState) (v v' : Volume) (fault : Fault) → IsOpen T old v → Sizes old new v v' (Err fault) →
      ((v' ≡ v) × IsOpen T new v × (files_in new v ≡ files_in old v))
      ⊎ (IsOpen T new v' × (truncated (files_in old v) v.memory.clock n size ≡ Ok (files_in new v')))) where
    refused : (old new : StoreState) (v v' : Volume) (fault : Fault) → IsOpen T old v → Sizes old new v v' (Err fault) → IsSized old new v v'
    refused old new v v' fault is_open does =
        let stays = truncate_stays T old new v v' n size (Err fault) does in
        elim (not_done old new v v' fault is_open does) [
          | inl (still, opens, same) ↦ record {
            is_open = subst (IsOpen T new) (sym still) opens;
            files = inl (subst (IsReaped (IsUnheld held) (files_in old v)) (sym (ap (files_in new) still ∙ same))
                (reaped_same (IsUnheld held) (held_or_not held) (files_in old v)));
            tree = stays.0;
            clock = stays.1;
          }
          | inr (opens, set) ↦ record {
            is_open = opens;
            files = inr (files_in new v', set, reaped_same (IsUnheld held) (held_or_not held) (files_in new v'));
            tree = stays.0;
            clock = stays.1;
          }
        ]

    pub session_sizes : (old new : StoreState) (v v' : Volume) → IsOpen T old v → MakesFreely Sizes T held old new v v' (Ok tt) →
        IsOpen T new v' × AreTruncated (IsUnheld held) (held_or_not held) v.memory.clock n size (files_in old v) (files_in new v')
    session_sizes old new v v' is_open makes =
        let last = made_last T held (IsOpen T) (λ s v holds. holds) IsSized (λ old new v v' is. is.is_open) chain
        (λ old new v v' holds is. frees old new v v' is) Sizes
        (λ old new v v' fault is_open again does. refused old new v v' fault is_open does) old new v v' tt is_open makes in
        let d = done last.0 new last.1 v' (last.2).is_open last.3 in (
          d.0,
          sized_end (IsUnheld held) (held_or_not held) v.memory.clock n size (files_in old v) (files_in last.0 last.1) (files_in new v') (last.2).files
              (subst (λ t. truncated (files_in last.0 last.1) t n size ≡ Ok (files_in new v')) (last.2).clock d.1),
        )
