-- A session begins an inode, and writes bytes into one that has no number.
use Rattle.std.proofs.Common.{◌≡◌, ◌≢◌, ℕ, ◌<◌, List, drop, Result, Ok, Err, refl, sym, ◌∙◌, ap, subst}
use Rattle.std.specs.Prelude.{◌+◌, ◌-◌, ◌^◌, All, min}
use Rattle.std.proofs.lemmas.List.Elements.{All-drop}
use Rattle.xn_model.specs.Lives.{StoreState}
use Rattle.xn_model.specs.Types.{Types}
use Rattle.treefs_format.specs.declared.kind.Kind.{Kind}
use Rattle.treefs_format.specs.declared.kind.Kind.TheVariants as kinds
use Rattle.treefs_model.specs.declared.fault.Fault.{Fault}
use Rattle.treefs.specs.Creating.{BeginDoes}
use Rattle.treefs.specs.declared.attributes.Attributes.{Attributes}
use Rattle.treefs.specs.declared.volume.Volume.{Volume}
use Rattle.treefs_values.specs.Attached.{new_content}
use Rattle.treefs_laws.specs.Begun.{IsBegun}
use Rattle.treefs_laws.specs.Kept.{files_in}
use Rattle.treefs_laws.specs.Making.{new_inode}
use Rattle.treefs_laws.specs.Open.{IsOpen}
use Rattle.treefs_laws.specs.Orphans.{IsReaped}
use Rattle.treefs_laws.specs.Unnamed.{IsUnnamed}
use Rattle.treefs_laws.proofs.ForCallers.{reaped_same, reaped_then}
use Rattle.treefs_session.specs.Freeing.{MakesFreely}
use Rattle.treefs_session.specs.Pieces.{WriteBegunDoes, WritesAll, WritesPiece, advanced, goes, stays, stops, whole}
use Rattle.treefs_session.specs.declared.calls.bytes.Target.{Target}
use Rattle.treefs_session.specs.declared.calls.bytes.Target.TheVariants.{Begun}
use Rattle.treefs_session_laws.specs.Before.{IsAsBeforeButOrphans, IsUnheld}
use Rattle.treefs_session_laws.proofs.Room.{before_same}
use Rattle.treefs_session_laws.proofs.Freed.{as_before, held_or_not, unheld_then}
use Rattle.treefs_session_laws.proofs.Kept.{made_in_vain, made_last}

module _ (T : Types) (held : List ℕ) where
  abbrev Unheld : StoreState → StoreState → Volume → Volume → Type 0
  Unheld old new v v' = IsAsBeforeButOrphans T held old new v v'

  -- An inode is begun

  module _ (kind : Kind) (attributes : Attributes) (head : List ℕ)
      (refused : (old new : StoreState) (v : Volume) (fault : Fault) → BeginDoes T old new v kind attributes head (Err fault) → new ≡ old) where
    abbrev Begins : StoreState → StoreState → Volume → Volume → Result ℕ Fault → Type 0
    Begins old new v v' result = BeginDoes T old new v kind attributes head result × (v' ≡ v)

    not_begun : (old new : StoreState) (v v' : Volume) (fault : Fault) → IsOpen T old v → Begins old new v v' (Err fault) → Unheld old new v v'
    not_begun old new v v' fault is_open (does, still) =
        subst (λ w. Unheld old new v w) (sym still) (subst (λ s. Unheld old s v v) (sym (refused old new v fault does))
        (as_before T held old old v v (before_same T old v is_open)))

    pub begins_in_vain : (old new : StoreState) (v v' : Volume) (fault : Fault) → IsOpen T old v → MakesFreely Begins T held old new v v' (Err fault) →
        IsAsBeforeButOrphans T held old new v v'
    begins_in_vain old new v v' fault is_open makes =
        made_in_vain T held (IsOpen T) (λ s v is_open. is_open) Unheld (λ old new v v' is. is.is_open) (unheld_then T held)
        (λ old new v v' is_open is. is) Begins not_begun old new v v' fault is_open makes

    abbrev pub HasBegun : StoreState → StoreState → Volume → Volume → ℕ → Type 0
    HasBegun old new v v' block =
        IsOpen T new v' × IsReaped (IsUnheld held) (files_in old v) (files_in new v') × (v'.memory.clock ≡ v.memory.clock)
        × (kind ≢ kinds.Directory → IsBegun new v' block (new_inode v.memory.clock attributes (new_content kind 0 head)))

    pub begins : ((old new : StoreState) (v : Volume) (block : ℕ) → IsOpen T old v → BeginDoes T old new v kind attributes head (Ok block) →
        IsOpen T new v × (files_in new v ≡ files_in old v)
        × (kind ≢ kinds.Directory → IsBegun new v block (new_inode v.memory.clock attributes (new_content kind 0 head)))) →
        (old new : StoreState) (v v' : Volume) (block : ℕ) → IsOpen T old v → MakesFreely Begins T held old new v v' (Ok block) →
        HasBegun old new v v' block
    begins law old new v v' block is_open makes =
        let last = made_last T held (IsOpen T) (λ s v is_open. is_open) Unheld (λ old new v v' is. is.is_open) (unheld_then T held)
        (λ old new v v' is_open is. is) Begins (λ old new v v' fault is_open again does. not_begun old new v v' fault is_open does) old new v v' block is_open
        makes in
        let before : Unheld old last.0 v last.1 = last.2 in
        let made = law last.0 new last.1 block before.is_open last.3.0 in
        let clock : last.1.memory.clock ≡ v.memory.clock = before.clock in
        subst (λ w. HasBegun old new v w block) (sym last.3.1) (
          made.0,
          subst (IsReaped (IsUnheld held) (files_in old v)) (sym made.1) before.files,
          clock,
          λ no_directory. subst (λ t. IsBegun new last.1 block (new_inode t attributes (new_content kind 0 head))) clock (made.2 no_directory),
        )

  -- Bytes are written into it

  module _ (c : ℕ)
      (writes : (old new : StoreState) (v : Volume) (at : ℕ) (bytes : List ℕ) (result : Result ℕ Fault) → IsOpen T old v → IsUnnamed old v c →
      All (λ b. b < 256) bytes → WriteBegunDoes T old new v c at bytes result →
      IsOpen T new v × (files_in new v ≡ files_in old v) × IsUnnamed new v c) where
    abbrev pub Holds : StoreState → Volume → Type 0
    Holds s v = IsOpen T s v × IsUnnamed s v c

    pub record IsBeside (old new : StoreState) (v v' : Volume) : Type 0 where
      pub is_open : IsOpen T new v'
      pub files : IsReaped (IsUnheld held) (files_in old v) (files_in new v')
      pub clock : v'.memory.clock ≡ v.memory.clock
      pub unnamed : IsUnnamed new v' c

    holds_then : (old new : StoreState) (v v' : Volume) → IsBeside old new v v' → Holds new v'
    holds_then old new v v' is = (is.is_open, is.unnamed)

    beside_then : (old middle new : StoreState) (v w x : Volume) → IsBeside old middle v w → IsBeside middle new w x → IsBeside old new v x
    beside_then old middle new v w x first second = record {
      is_open = second.is_open;
      files = reaped_then (IsUnheld held) (held_or_not held) (files_in old v) (files_in middle w) (files_in new x) first.files second.files;
      clock = second.clock ∙ first.clock;
      unnamed = second.unnamed;
    }

    frees : (old new : StoreState) (v v' : Volume) → Holds old v → Unheld old new v v' → IsBeside old new v v'
    frees old new v v' holds is = record { is_open = is.is_open; files = is.files; clock = is.clock; unnamed = (is.unnamed c holds.1).0 }

    beside_same : (s : StoreState) (v : Volume) → Holds s v → IsBeside s s v v
    beside_same s v holds = frees s s v v holds (as_before T held s s v v (before_same T s v holds.0))

    module _ (at : ℕ) (bytes : List ℕ) (wide : All (λ b. b < 256) bytes) where
      abbrev Writes : StoreState → StoreState → Volume → Volume → Result ℕ Fault → Type 0
      Writes old new v v' result = WritesPiece T (Begun c at) bytes old new v v' result

      written : (old new : StoreState) (v v' : Volume) (result : Result ℕ Fault) → Holds old v → Writes old new v v' result → IsBeside old new v v'
      written old new v v' result holds (does, still) =
          let said = writes old new v at bytes result holds.0 holds.1 wide does in
          subst (λ w. IsBeside old new v w) (sym still) (record {
            is_open = said.0;
            files = subst (IsReaped (IsUnheld held) (files_in old v)) (sym said.1) (reaped_same (IsUnheld held) (held_or_not held) (files_in old v));
            clock = refl;
            unnamed = said.2;
          })

      piece : (old new : StoreState) (v v' : Volume) (result : Result ℕ Fault) → Holds old v → MakesFreely Writes T held old new v v' result →
          IsBeside old new v v'
      piece old new v v' (Ok taken) holds makes =
          let last = made_last T held Holds (λ s v holds. holds.0) IsBeside holds_then beside_then frees Writes
          (λ old new v v' fault holds again does. written old new v v' (Err fault) holds does) old new v v' taken holds makes in
          beside_then old last.0 new v last.1 v' last.2 (written last.0 new last.1 v' (Ok taken) (holds_then old last.0 v last.1 last.2) last.3)
      piece old new v v' (Err fault) holds makes =
          made_in_vain T held Holds (λ s v holds. holds.0) IsBeside holds_then beside_then frees Writes
          (λ old new v v' fault holds does. written old new v v' (Err fault) holds does) old new v v' fault holds makes

    -- one piece after another
    all_written : (target : Target) (bytes : List ℕ) (old new : StoreState) (v v' : Volume) (result : Result (Unit {0}) Fault) →
        WritesAll T held target bytes old new v v' result → (at : ℕ) → target ≡ Begun c at → Holds old v → All (λ b. b < 256) bytes →
        IsBeside old new v v'
    all_written target bytes old new v v' result (whole none) at is holds wide = beside_same old v holds
    all_written target bytes old new v v' result (stops {fault = fault} some made) at is holds wide =
        piece at bytes wide old new v v' (Err fault) holds (subst (λ t. MakesFreely (WritesPiece T t bytes) T held old new v v' (Err fault)) is made)
    all_written target bytes old new v v' result (stays some made) at is holds wide =
        piece at bytes wide old new v v' (Ok 0) holds (subst (λ t. MakesFreely (WritesPiece T t bytes) T held old new v v' (Ok 0)) is made)
    all_written target bytes old new v v' result (goes taken middle between some more made rest) at is holds wide =
        let first = piece at bytes wide old middle v between (Ok taken) holds
        (subst (λ t. MakesFreely (WritesPiece T t bytes) T held old middle v between (Ok taken)) is made) in
        let next = all_written (advanced target taken) (drop taken bytes) middle new between v' result rest (later at taken)
        (ap (λ t. advanced t taken) is) (holds_then old middle v between first) (All-drop (λ b. b < 256) taken bytes wide) in
        beside_then old middle new v between v' first next
      where
        later : ℕ → ℕ → ℕ
        later at taken = min (at + taken) (2 ^ 64 - 1)

    pub begun_so : (at : ℕ) (bytes : List ℕ) (old new : StoreState) (v v' : Volume) (result : Result (Unit {0}) Fault) → Holds old v →
        All (λ b. b < 256) bytes → WritesAll T held (Begun c at) bytes old new v v' result → IsBeside old new v v'
    begun_so at bytes old new v v' result holds wide all = all_written (Begun c at) bytes old new v v' result all at refl holds wide
