-- A session gives an inode that was begun its first name.
use Rattle.std.proofs.Common.{◌≡◌, ◌≢◌, ◌⊎◌, ℕ, ◌<◌, Bool, true, false, List, None, Result, Ok, Err, inl, inr, subst}
use Rattle.std.specs.Prelude.{All}
use Rattle.xn_model.specs.Lives.{StoreState}
use Rattle.xn_model.specs.Types.{Types}
use Rattle.store_types.specs.declared.refusal.Refusal.{Refusal}
use Rattle.treefs_model.specs.Changes.{replaced}
use Rattle.treefs_model.specs.Files.{Inode}
use Rattle.treefs_model.specs.declared.fault.Fault.{Fault}
use Rattle.treefs_model.specs.declared.fault.Fault.TheVariants.{Full, Kernel}
use Rattle.treefs.specs.Committing.{CommitDoes}
use Rattle.treefs.specs.declared.volume.Volume.{Volume}
use Rattle.treefs_laws.specs.Begun.{IsBegun}
use Rattle.treefs_laws.specs.Kept.{files_in}
use Rattle.treefs_laws.specs.Making.{MakesInode}
use Rattle.treefs_laws.specs.Open.{IsOpen}
use Rattle.treefs_laws.specs.Refusals.{IsOfStore, IsRefused}
use Rattle.treefs_laws.specs.Space.{LacksSpace, LeavesFiles}
use Rattle.treefs_laws.specs.Unnamed.{IsUnnamed}
use Rattle.treefs_laws.proofs.ForCallers.{still_begun}
use Rattle.treefs_session.specs.Freeing.{MakesFreely}
use Rattle.treefs_session_laws.specs.Before.{IsAsBefore, IsAsBeforeButOrphans}
use Rattle.treefs_session_laws.specs.Puts.{GetsName}
use Rattle.treefs_session_laws.proofs.Again.{again_before, leaves_before}
use Rattle.treefs_session_laws.proofs.Freed.{as_before, made_freely, unheld_then}
use Rattle.treefs_session_laws.proofs.Kept.{made_told}
use Rattle.treefs_session_laws.proofs.Names.{full_before, not_of_store}
use Rattle.treefs_session_laws.proofs.Tried.{IsAgain}

-- what a refused call says, but for what it answers
pub refused_so : (s s' : StoreState) (v v' : Volume) (fault : Fault) (Answered : Type 0) → IsRefused s s' v v' fault Answered →
    (v' ≡ v) × ((s' ≡ s) ⊎ IsOfStore fault)
refused_so s s' v v' fault Answered (still, inl same) = (still, inl same.0)
refused_so s s' v v' fault Answered (still, inr store) = (still, inr store)

module _ (T : Types) (s s' : StoreState) (v v' : Volume) (block d : ℕ) (name : List ℕ) where
  module _ (fault : Fault) (A B : Type 0) (named : CommitDoes T s s' v v' block d name false (Err fault) → IsRefused s s' v v' fault A)
      (replaces : CommitDoes T s s' v v' block d name true (Err fault) → IsRefused s s' v v' fault B) where
    pub commit_refused : (replace : Bool) → CommitDoes T s s' v v' block d name replace (Err fault) → (v' ≡ v) × ((s' ≡ s) ⊎ IsOfStore fault)
    commit_refused false does = refused_so s s' v v' fault A (named does)
    commit_refused true does = refused_so s s' v v' fault B (replaces does)

  module _ (n : ℕ) (inode : Inode)
      (named : CommitDoes T s s' v v' block d name false (Ok n) → IsOpen T s' v' × MakesInode s s' v v' d name n inode)
      (replaces : CommitDoes T s s' v v' block d name true (Ok n) →
      IsOpen T s' v' × (files_in s v n ≡ None) × (replaced (files_in s v) v.memory.clock d name n inode ≡ Ok (files_in s' v'))) where
    pub commit_named : (replace : Bool) → CommitDoes T s s' v v' block d name replace (Ok n) →
        IsOpen T s' v' × GetsName (files_in s v) (files_in s' v') v.memory.clock d name replace n inode
    commit_named false does = named does
    commit_named true does = let r = replaces does in (r.0, (r.1, r.2))

-- What is told of commits
pub record AreCommits (T : Types) : Type 0 where
  pub refused : (s s' : StoreState) (v v' : Volume) (block d : ℕ) (name : List ℕ) (replace : Bool) (fault : Fault) →
      CommitDoes T s s' v v' block d name replace (Err fault) → (v' ≡ v) × ((s' ≡ s) ⊎ IsOfStore fault)
  pub space : (s s' : StoreState) (v v' : Volume) (block d : ℕ) (name : List ℕ) (replace : Bool) (fault : Fault) → IsOpen T s v → LacksSpace fault →
      CommitDoes T s s' v v' block d name replace (Err fault) → LeavesFiles T s s' v v'
  pub named : (s s' : StoreState) (v v' : Volume) (block : ℕ) (inode : Inode) (d : ℕ) (name : List ℕ) (replace : Bool) (n : ℕ) → IsOpen T s v →
      IsBegun s v block inode → All (λ b. b < 256) name → CommitDoes T s s' v v' block d name replace (Ok n) →
      IsOpen T s' v' × GetsName (files_in s v) (files_in s' v') v.memory.clock d name replace n inode

module _ (T : Types) (commits : AreCommits T) (held : List ℕ) (block d : ℕ) (name : List ℕ) (replace : Bool) where
  abbrev Commits : StoreState → StoreState → Volume → Volume → Result ℕ Fault → Type 0
  Commits s s' v v' result = CommitDoes T s s' v v' block d name replace result

  again : (s s' : StoreState) (v v' : Volume) (fault : Fault) → IsOpen T s v → IsAgain fault → Commits s s' v v' (Err fault) → IsAsBefore T s s' v v'
  again s s' v v' fault is_open is does =
      again_before T s s' v v' fault (λ f. Commits s s' v v' (Err f)) (λ full. by_full (commits.refused s s' v v' block d name replace Full full))
      (λ space at. commits.space s s' v v' block d name replace fault is_open space at) is does
    where
      by_full : (v' ≡ v) × ((s' ≡ s) ⊎ IsOfStore Full) → IsAsBefore T s s' v v'
      by_full (still, inl same) = full_before T s s' v v' is_open same still
      by_full (still, inr store) = absurd (not_of_store store)

  abbrev pub IsPlaced : StoreState → StoreState → Volume → Volume → ℕ → Inode → Type 0
  IsPlaced old new v v' n inode = IsOpen T new v' × (middle : StoreState) × (w : Volume) × IsAsBeforeButOrphans T held old middle v w
      × GetsName (files_in middle w) (files_in new v') v.memory.clock d name replace n inode

  pub placed : (old new : StoreState) (v v' : Volume) (inode : Inode) (n : ℕ) → IsOpen T old v → IsBegun old v block inode → IsUnnamed old v block →
      All (λ b. b < 256) name → MakesFreely Commits T held old new v v' (Ok n) → IsPlaced old new v v' n inode
  placed old new v v' inode n is_open begun unnamed wide makes =
      let last = made_freely T held Commits again old new v v' n is_open makes in
      let before : IsAsBeforeButOrphans T held old last.0 v last.1 = last.2 in
      let kept = before.unnamed block unnamed in
      let clock : last.1.memory.clock ≡ v.memory.clock = before.clock in
      let named = commits.named last.0 new last.1 v' block inode d name replace n before.is_open
      (still_begun old last.0 v last.1 block inode begun kept.0 kept.1) wide last.3 in
      (named.0, last.0, last.1, before, subst (λ t. GetsName (files_in last.0 last.1) (files_in new v') t d name replace n inode) clock named.1)

  -- one that the store doesn't refuse leaves a volume as before
  abbrev Other : Fault → Type 0
  Other fault = (reason : Refusal) → fault ≢ Kernel reason

  unmade : (old new : StoreState) (v v' : Volume) (fault : Fault) → IsOpen T old v → Other fault → Commits old new v v' (Err fault) →
      IsAsBeforeButOrphans T held old new v v'
  unmade old new v v' fault is_open other does = by (commits.refused old new v v' block d name replace fault does)
    where
      by : (v' ≡ v) × ((new ≡ old) ⊎ IsOfStore fault) → IsAsBeforeButOrphans T held old new v v'
      by (still, inl same) = as_before T held old new v v' (full_before T old new v v' is_open same still)
      by (still, inr (inl space)) =
          as_before T held old new v v' (leaves_before T old new v v' (commits.space old new v v' block d name replace fault is_open (inl space) does))
      by (still, inr (inr (reason, is))) = absurd (other reason is)

  pub not_placed : (old new : StoreState) (v v' : Volume) (fault : Fault) → IsOpen T old v → ((reason : Refusal) → fault ≢ Kernel reason) →
      MakesFreely Commits T held old new v v' (Err fault) → IsAsBeforeButOrphans T held old new v v'
  not_placed old new v v' fault is_open other makes =
      made_told T held (IsOpen T) (λ s v is_open. is_open) (IsAsBeforeButOrphans T held) (λ old new v v' is. is.is_open) (unheld_then T held)
      (λ old new v v' is_open is. is) Commits
      (λ old new v v' fault is_open is does. as_before T held old new v v' (again old new v v' fault is_open is does)) Other unmade old new v v' fault
      is_open other makes
