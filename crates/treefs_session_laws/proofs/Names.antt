-- Calls on names that are made until they have room.
use Rattle.std.proofs.Common.{◌≡◌, ℤ, sym, inl, inr, subst}
use Rattle.xn_model.specs.Lives.{StoreState}
use Rattle.xn_model.specs.Types.{Types}
use Rattle.treefs_model.specs.Files.{Files}
use Rattle.treefs_model.specs.declared.fault.Fault.TheVariants.{Full}
use Rattle.treefs.specs.declared.volume.Volume.{Volume}
use Rattle.treefs_laws.specs.Kept.{files_in}
use Rattle.treefs_laws.specs.Open.{IsOpen}
use Rattle.treefs_laws.specs.Refusals.{IsOfStore, IsRefused}
use Rattle.treefs_session_laws.specs.Before.{IsAsBefore}
use Rattle.treefs_session_laws.proofs.Room.{before_same}

-- a call that is full is not refused by the store
pub not_of_store : IsOfStore Full → ⊥
not_of_store (inl is) = cc is
not_of_store (inr (reason, is)) = cc is

-- a call that is full leaves all as it was
pub full_before : (T : Types) (s s' : StoreState) (v v' : Volume) → IsOpen T s v → s' ≡ s → v' ≡ v → IsAsBefore T s s' v v'
full_before T s s' v v' is_open same still =
    subst (λ u. IsAsBefore T s s' v u) (sym still) (subst (λ t. IsAsBefore T s t v v) (sym same) (before_same T s v is_open))

pub refused_before : (T : Types) (s s' : StoreState) (v v' : Volume) (Answered : Type 0) → IsOpen T s v → IsRefused s s' v v' Full Answered →
    IsAsBefore T s s' v v'
refused_before T s s' v v' Answered is_open (still, inl same) = full_before T s s' v v' is_open same.0 still
refused_before T s s' v v' Answered is_open (still, inr store) = absurd (not_of_store store)

-- what a call makes of the files of a volume that is as before, it makes of those of before
pub files_before : (T : Types) (old middle : StoreState) (volume between : Volume) (P : Files → ℤ → Type 0) → IsAsBefore T old middle volume between →
    P (files_in middle between) between.memory.clock → P (files_in old volume) volume.memory.clock
files_before T old middle volume between P same holds =
    subst (λ f. P f volume.memory.clock) same.files (subst (λ t. P (files_in middle between) t) same.clock holds)
