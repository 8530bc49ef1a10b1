-- A session writes bytes piece by piece: the files are as written at once, but for orphans.
use Rattle.std.proofs.Common.{◌≡◌, ◌⊎◌, ℕ, ◌+◌, ◌-◌, ◌^◌, ◌<◌, ◌≤◌, Bool, List, [], drop, length, Result, Ok, Err, refl, sym, ◌∙◌, ap, inl, inr, arith, subst}
use Rattle.std.specs.Prelude.{⊤, All, MatchResult, is_some, min}
use Rattle.std.proofs.lemmas.List.{length-drop}
use Rattle.std.proofs.lemmas.List.Elements.{All-drop}
use Rattle.xn_model.specs.Lives.{StoreState}
use Rattle.xn_model.specs.Types.{Types}
use Rattle.treefs_format.specs.Leaves.{greatest_size}
use Rattle.treefs_model.specs.Changes.{written}
use Rattle.treefs_model.specs.Files.{Files}
use Rattle.treefs_model.specs.declared.fault.Fault.{Fault}
use Rattle.treefs_edits.specs.Plans.{Plan}
use Rattle.treefs_byte_plans.specs.Runs.{run_plan}
use Rattle.treefs_byte_plans.specs.Writes.{Nothing, Piece, Run, Step, write_planned}
use Rattle.treefs.specs.Writing.{StepDoes, Takes, WriteDoes}
use Rattle.treefs.specs.declared.volume.Volume.{Volume}
use Rattle.treefs_laws.specs.Kept.{files_in}
use Rattle.treefs_laws.specs.Open.{IsOpen}
use Rattle.treefs_laws.specs.Orphans.{IsReaped}
use Rattle.treefs_laws.specs.Overwriting.{IsPartlyPut}
use Rattle.treefs_laws.specs.Reading.{HasFewBytes}
use Rattle.treefs_laws.specs.Refusals.{IsOfStore}
use Rattle.treefs_laws.proofs.ForCallers.{reaped_same}
use Rattle.treefs_session.specs.Freeing.{MakesFreely}
use Rattle.treefs_session.specs.Pieces.{WritesAll, WritesPiece, WritesSome, advanced}
use Rattle.treefs_session.specs.Pieces.WritesAll.{goes, stays, stops, whole}
use Rattle.treefs_session.specs.declared.calls.bytes.Target.{Target}
use Rattle.treefs_session.specs.declared.calls.bytes.Target.TheVariants.{Numbered}
use Rattle.treefs_session_laws.specs.Before.{IsAsBeforeButOrphans, IsUnheld}
use Rattle.treefs_session_laws.specs.Written.{ArePartlyWritten}
use Rattle.treefs_session_laws.proofs.Room.{before_same}
use Rattle.treefs_session_laws.proofs.Freed.{as_before, held_or_not}
use Rattle.treefs_session_laws.proofs.Kept.{made_in_vain, made_last}
use Rattle.treefs_session_laws.proofs.Rewriting.{AreWritten, few_written, part_written, put_written, reaped_written, whole_written, write_written, written_then}
use Rattle.treefs_session_laws.proofs.Sized.{Stays, same_stays}

-- The session's place and clock stay

takes_stays : (T : Types) (old new : StoreState) (v v' : Volume) (n : ℕ) (plan : Plan) (taken : ℕ) (is_dated : Bool) (result : Result ℕ Fault) →
    Takes T old new v v' n plan taken is_dated result → Stays v v'
takes_stays T old new v v' n plan taken is_dated (Ok count) (same, does, is) = (ap (λ (w : Volume). w.tree) is, ap (λ (w : Volume). w.memory.clock) is)
takes_stays T old new v v' n plan taken is_dated (Err fault) (does, is) = same_stays v v' is

step_stays : (T : Types) (old new : StoreState) (v v' : Volume) (n : ℕ) (bytes : List ℕ) (planned : Result Step Fault) (result : Result ℕ Fault) →
    StepDoes T old new v v' n bytes planned result → Stays v v'
step_stays T old new v v' n bytes (Err fault) result refuses = same_stays v v' refuses.2
step_stays T old new v v' n bytes (Ok Nothing) result (told, still, is) = same_stays v v' is
step_stays T old new v v' n bytes (Ok (Piece taken is_dated acts)) result does =
    takes_stays T old new v v' n (record { starts = []; acts = λ begun. acts }) taken is_dated result does
step_stays T old new v v' n bytes (Ok (Run plan)) result does =
    takes_stays T old new v v' n (run_plan bytes plan) plan.taken (is_some plan.size) result does

write_stays : (T : Types) (old new : StoreState) (v v' : Volume) (n at : ℕ) (bytes : List ℕ) (result : Result ℕ Fault) →
    WriteDoes T old new v v' n at bytes result → Stays v v'
write_stays T old new v v' n at bytes result (kept, trims, inl (failed, is)) = same_stays v v' is
write_stays T old new v v' n at bytes result (kept, trims, inr (middle, trimmed, does)) =
    step_stays T middle new v v' n bytes (write_planned middle v.tree v.memory n at bytes) result does

-- what is told of a write of a volume
pub record AreWrites (T : Types) (n : ℕ) : Type 0 where
  pub done : (old new : StoreState) (v v' : Volume) (at : ℕ) (bytes : List ℕ) (taken : ℕ) → IsOpen T old v → HasFewBytes (files_in old v) n →
      All (λ b. b < 256) bytes → WriteDoes T old new v v' n at bytes (Ok taken) →
      IsOpen T new v' × (written (files_in old v) v.memory.clock n at bytes taken ≡ Ok (files_in new v')) × (taken ≤ length bytes)
      × (0 < length bytes → 0 < taken) × (at + taken ≤ greatest_size)
  pub refused : (old new : StoreState) (v v' : Volume) (at : ℕ) (bytes : List ℕ) (fault : Fault) → IsOpen T old v → HasFewBytes (files_in old v) n →
      All (λ b. b < 256) bytes → WriteDoes T old new v v' n at bytes (Err fault) →
      (v' ≡ v) × IsOpen T new v
      × ((files_in new v ≡ files_in old v) ⊎ (IsOfStore fault × IsPartlyPut (files_in old v) n at bytes (files_in new v)))

module _ (T : Types) (held : List ℕ) (n : ℕ) (writes : AreWrites T n) where
  abbrev pub Holds : StoreState → Volume → Type 0
  Holds s v = IsOpen T s v × HasFewBytes (files_in s v) n

  -- the first k of the bytes are written, and some are put
  pub record IsAsWritten (at : ℕ) (bytes : List ℕ) (k : ℕ) (old new : StoreState) (v v' : Volume) : Type 0 where
    pub is_open : IsOpen T new v'
    pub few : HasFewBytes (files_in new v') n
    pub files : AreWritten (IsUnheld held) (held_or_not held) v.memory.clock n at bytes k (files_in old v) (files_in new v')
    pub tree : v'.tree ≡ v.tree
    pub clock : v'.memory.clock ≡ v.memory.clock

  abbrev Are : Volume → ℕ → List ℕ → ℕ → Files → Files → Type 0
  Are v = AreWritten (IsUnheld held) (held_or_not held) v.memory.clock n

  as_written_then : (at t : ℕ) (bytes : List ℕ) (k : ℕ) (old middle new : StoreState) (v w x : Volume) → IsAsWritten at bytes t old middle v w →
      IsAsWritten (at + t) (drop t bytes) k middle new w x → IsAsWritten at bytes (t + k) old new v x
  as_written_then at t bytes k old middle new v w x first second = record {
    is_open = second.is_open;
    few = second.few;
    files = written_then (IsUnheld held) (held_or_not held) v.memory.clock n at t bytes k (files_in old v) (files_in middle w) (files_in new x) first.files
        (subst (λ c. AreWritten (IsUnheld held) (held_or_not held) c n (at + t) (drop t bytes) k (files_in middle w) (files_in new x)) first.clock
        second.files);
    tree = second.tree ∙ first.tree;
    clock = second.clock ∙ first.clock;
  }

  module _ (at : ℕ) (bytes : List ℕ) where
    abbrev Puts : StoreState → StoreState → Volume → Volume → Type 0
    Puts old new v v' = IsAsWritten at bytes 0 old new v v'

    then : (k : ℕ) (old middle new : StoreState) (v w x : Volume) → Puts old middle v w → IsAsWritten at bytes k middle new w x →
        IsAsWritten at bytes k old new v x
    then k old middle new v w x first second =
        let start : at ≡ at + 0 = omega arith in
        let all : 0 + k ≡ k = omega arith in
        subst (λ k. IsAsWritten at bytes k old new v x) all
        (as_written_then at 0 bytes k old middle new v w x first (subst (λ a. IsAsWritten a bytes k middle new w x) start second))

    frees : (old new : StoreState) (v v' : Volume) → Holds old v → IsAsBeforeButOrphans T held old new v v' → Puts old new v v'
    frees old new v v' holds is =
        let files : Are v at bytes 0 (files_in old v) (files_in new v') =
        reaped_written (IsUnheld held) (held_or_not held) v.memory.clock n at bytes (files_in old v) (files_in new v') is.files in
        record {
          is_open = is.is_open;
          few = few_written (IsUnheld held) (held_or_not held) v.memory.clock n at bytes 0 (files_in old v) (files_in new v') files holds.1;
          files = files;
          tree = is.tree;
          clock = is.clock;
        }

    abbrev Writes : StoreState → StoreState → Volume → Volume → Result ℕ Fault → Type 0
    Writes old new v v' result = WritesPiece T (Numbered n at) bytes old new v v' result

    module _ (wide : All (λ b. b < 256) bytes) where
      refused : (old new : StoreState) (v v' : Volume) (fault : Fault) → Holds old v → Writes old new v v' (Err fault) → Puts old new v v'
      refused old new v v' fault holds does =
          let stays = write_stays T old new v v' n at bytes (Err fault) does in
          let left = writes.refused old new v v' at bytes fault holds.0 holds.1 wide does in
          let files : Are v at bytes 0 (files_in old v) (files_in new v') =
          subst (λ w. Are v at bytes 0 (files_in old v) (files_in new w)) (sym left.0) (elim left.2 [
            | inl same ↦
                reaped_written (IsUnheld held) (held_or_not held) v.memory.clock n at bytes (files_in old v) (files_in new v)
                (subst (IsReaped (IsUnheld held) (files_in old v)) (sym same) (reaped_same (IsUnheld held) (held_or_not held) (files_in old v)))
            | inr (store, put) ↦ put_written (IsUnheld held) (held_or_not held) v.memory.clock n at bytes (files_in old v) (files_in new v) put
          ]) in
          record {
            is_open = subst (IsOpen T new) (sym left.0) left.1;
            few = few_written (IsUnheld held) (held_or_not held) v.memory.clock n at bytes 0 (files_in old v) (files_in new v') files holds.1;
            files = files;
            tree = stays.0;
            clock = stays.1;
          }

      -- a piece is written, or refused

      abbrev pub IsTaken : ℕ → Type 0
      IsTaken taken = (0 < taken) × (taken ≤ length bytes) × (at + taken ≤ greatest_size)

      done : (old new : StoreState) (v v' : Volume) (taken : ℕ) → 0 < length bytes → Holds old v → Writes old new v v' (Ok taken) →
          IsAsWritten at bytes taken old new v v' × IsTaken taken
      done old new v v' taken some holds does =
          let stays = write_stays T old new v v' n at bytes (Ok taken) does in
          let said = writes.done old new v v' at bytes taken holds.0 holds.1 wide does in
          let more = said.3 some in
          let files : Are v at bytes taken (files_in old v) (files_in new v') =
          write_written (IsUnheld held) (held_or_not held) v.memory.clock n at bytes taken (files_in old v) (files_in new v') (λ z. absurd (omega arith)) said.1
          (λ z. absurd (omega arith)) said.2 said.4 in (
            record {
              is_open = said.0;
              few = few_written (IsUnheld held) (held_or_not held) v.memory.clock n at bytes taken (files_in old v) (files_in new v') files holds.1;
              files = files;
              tree = stays.0;
              clock = stays.1;
            },
            (more, said.2, said.4),
          )

      pub piece_done : (old new : StoreState) (v v' : Volume) (taken : ℕ) → 0 < length bytes → Holds old v → MakesFreely Writes T held old new v v' (Ok taken) →
          IsAsWritten at bytes taken old new v v' × IsTaken taken
      piece_done old new v v' taken some holds makes =
          let last = made_last T held Holds (λ s v holds. holds.0) Puts (λ old new v v' is. (is.is_open, is.few))
          (λ old middle new v w x first second. then 0 old middle new v w x first second) frees Writes
          (λ old new v v' fault holds again does. refused old new v v' fault holds does) old new v v' taken holds makes in
          let d = done last.0 new last.1 v' taken some ((last.2).is_open, (last.2).few) last.3 in
          (then taken old last.0 new v last.1 v' last.2 d.0, d.1)

      pub piece_refused : (old new : StoreState) (v v' : Volume) (fault : Fault) → Holds old v → MakesFreely Writes T held old new v v' (Err fault) →
          IsAsWritten at bytes 0 old new v v'
      piece_refused old new v v' fault holds makes =
          made_in_vain T held Holds (λ s v holds. holds.0) Puts (λ old new v v' is. (is.is_open, is.few))
          (λ old middle new v w x first second. then 0 old middle new v w x first second) frees Writes refused old new v v' fault holds makes

  -- one piece after another

  abbrev pub Ends : ℕ → List ℕ → StoreState → StoreState → Volume → Volume → Result (Unit {0}) Fault → Type 0
  Ends at bytes old new v v' result = (k : ℕ) × IsAsWritten at bytes k old new v v' × (k ≤ length bytes)
      × MatchResult result (λ done. k ≡ length bytes) (λ fault. ⊤)

  same_written : (at : ℕ) (bytes : List ℕ) (s : StoreState) (v : Volume) → Holds s v → IsAsWritten at bytes 0 s s v v
  same_written at bytes s v holds = frees at bytes s s v v holds (as_before T held s s v v (before_same T s v holds.0))

  advanced_to : (at taken : ℕ) → at + taken ≤ greatest_size → advanced (Numbered n at) taken ≡ Numbered n (at + taken)
  advanced_to at taken small = ap (Numbered n) (let same : min (at + taken) (2 ^ 64 - 1) ≡ at + taken = omega arith in same)

  module _ (at taken : ℕ) (bytes : List ℕ) (old middle new : StoreState) (v w x : Volume) where
    ends_then : taken ≤ length bytes → IsAsWritten at bytes taken old middle v w → (result : Result (Unit {0}) Fault) →
        Ends (at + taken) (drop taken bytes) middle new w x result → Ends at bytes old new v x result
    ends_then few first (Ok done) (k, second, less, all) =
        let long = length-drop taken bytes in
        (taken + k, as_written_then at taken bytes k old middle new v w x first second, omega arith, omega arith)
    ends_then few first (Err fault) (k, second, less, all) =
        let long = length-drop taken bytes in
        (taken + k, as_written_then at taken bytes k old middle new v w x first second, omega arith, tt)

  pub writes_end : (target : Target) (bytes : List ℕ) (old new : StoreState) (v v' : Volume) (result : Result (Unit {0}) Fault) →
      WritesAll T held target bytes old new v v' result → (at : ℕ) → target ≡ Numbered n at → Holds old v → All (λ b. b < 256) bytes →
      Ends at bytes old new v v' result
  writes_end target bytes old new v v' result (whole none) at is holds wide = (0, same_written at bytes old v holds, omega arith, sym none)
  writes_end target bytes old new v v' result (stops {fault = fault} some made) at is holds wide =
      (0, piece_refused at bytes wide old new v v' fault holds (subst (λ t. WritesSome T held t bytes old new v v' (Err fault)) is made), omega arith, tt)
  writes_end target bytes old new v v' result (stays some made) at is holds wide =
      let p = piece_done at bytes wide old new v v' 0 some holds (subst (λ t. WritesSome T held t bytes old new v v' (Ok 0)) is made) in
      let none = p.1.0 in absurd (omega arith)
  writes_end target bytes old new v v' result (goes taken middle between some more made rest) at is holds wide =
      let p = piece_done at bytes wide old middle v between taken some holds (subst (λ t. WritesSome T held t bytes old middle v between (Ok taken)) is made) in
      let next = writes_end (advanced target taken) (drop taken bytes) middle new between v' result rest (at + taken)
      (ap (λ t. advanced t taken) is ∙ advanced_to at taken p.1.2) (p.0.is_open, p.0.few) (All-drop (λ b. b < 256) taken bytes wide) in
      ends_then at taken bytes old middle new v between v' p.1.1 p.0 result next

  -- In the words of the model

  module _ (at : ℕ) (bytes : List ℕ) (wide : All (λ b. b < 256) bytes) (old new : StoreState) (v v' : Volume) (holds : Holds old v) where
    pub all_end : 0 < length bytes → WritesAll T held (Numbered n at) bytes old new v v' (Ok tt) →
        IsOpen T new v' × (files : Files) × (written (files_in old v) v.memory.clock n at bytes (length bytes) ≡ Ok files)
        × IsReaped (IsUnheld held) files (files_in new v') × HasFewBytes (files_in new v') n
    all_end some all =
        let e = writes_end (Numbered n at) bytes old new v v' (Ok tt) all at refl holds wide in
        let w = whole_written (IsUnheld held) (held_or_not held) v.memory.clock n at bytes e.0 (files_in old v) (files_in new v') (e.1).files
        (λ z. absurd (omega arith)) e.3 in
        ((e.1).is_open, w.0, w.1, w.2, (e.1).few)

    part_so : (k : ℕ) → IsAsWritten at bytes k old new v v' → k ≤ length bytes →
        IsOpen T new v' × (files : Files) × ArePartlyWritten (files_in old v) v.memory.clock n at bytes k files
        × IsReaped (IsUnheld held) files (files_in new v') × HasFewBytes (files_in new v') n
    part_so k is less =
        let p = part_written (IsUnheld held) (held_or_not held) v.memory.clock n at bytes k (files_in old v) (files_in new v') is.files less in
        (is.is_open, p.2.0, record { few = less; files = p.0; first = p.1; put = p.2.1 }, p.2.2, is.few)

    pub part_end : (fault : Fault) → WritesAll T held (Numbered n at) bytes old new v v' (Err fault) →
        IsOpen T new v' × (taken : ℕ) × (files : Files) × ArePartlyWritten (files_in old v) v.memory.clock n at bytes taken files
        × IsReaped (IsUnheld held) files (files_in new v') × HasFewBytes (files_in new v') n
    part_end fault all =
        let e = writes_end (Numbered n at) bytes old new v v' (Err fault) all at refl holds wide in
        let p = part_so e.0 e.1 e.2 in
        (p.0, e.0, p.1, p.2, p.3, p.4)

    pub piece_end : (taken : ℕ) → 0 < length bytes → MakesFreely (WritesPiece T (Numbered n at) bytes) T held old new v v' (Ok taken) →
        (0 < taken) × IsOpen T new v' × (files : Files) × ArePartlyWritten (files_in old v) v.memory.clock n at bytes taken files
        × IsReaped (IsUnheld held) files (files_in new v') × HasFewBytes (files_in new v') n
    piece_end taken some makes =
        let d = piece_done at bytes wide old new v v' taken some holds makes in
        let p = part_so taken d.0 d.1.1 in
        (d.1.0, p.0, p.1, p.2, p.3, p.4)

    pub none_end : (fault : Fault) → MakesFreely (WritesPiece T (Numbered n at) bytes) T held old new v v' (Err fault) →
        IsOpen T new v' × (files : Files) × ArePartlyWritten (files_in old v) v.memory.clock n at bytes 0 files
        × IsReaped (IsUnheld held) files (files_in new v') × HasFewBytes (files_in new v') n
    none_end fault makes = part_so 0 (piece_refused at bytes wide old new v v' fault holds makes) (omega arith)

-- Where there is nothing to write

pub none_written : (T : Types) (held : List ℕ) (target : Target) (bytes : List ℕ) (old new : StoreState) (v v' : Volume) (result : Result (Unit {0}) Fault) →
    WritesAll T held target bytes old new v v' result → length bytes ≡ 0 → (result ≡ Ok tt) × (new ≡ old) × (v' ≡ v)
none_written T held target bytes old new v v' result (whole none) empty = (refl, refl, refl)
none_written T held target bytes old new v v' result (stops some made) empty = absurd (omega arith)
none_written T held target bytes old new v v' result (stays some made) empty = absurd (omega arith)
none_written T held target bytes old new v v' result (goes taken middle between some more made rest) empty = absurd (omega arith)
