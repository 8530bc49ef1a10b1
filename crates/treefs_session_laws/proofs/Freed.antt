-- What a session does to free space changes nothing but orphans that aren't held.
use Rattle.std.proofs.Common.{◌≡◌, ◌⊎◌, ℕ, Bool, true, false, not, List, Result, Ok, Err, refl, sym, ◌∙◌, ap, inl, inr, subst}
use Rattle.std.specs.Prelude.{Contains, MatchResult}
use Rattle.std.proofs.lemmas.Bool.{not-true}
use Rattle.flush_store.specs.Written.{AllWritten}
use Rattle.xn_kernel.specs.FlushedStates.{StateRefuses, StateWaves}
use Rattle.xn_model.specs.Lists.{has_number}
use Rattle.xn_model.specs.Lives.{StoreState}
use Rattle.xn_model.specs.Rules.{IsIdle}
use Rattle.xn_model.specs.Types.{Types}
use Rattle.xn_model.proofs.ForCallers.{filter_at}
use Rattle.store_types.specs.declared.refusal.Refusal.{Refusal}
use Rattle.treefs_model.specs.Files.{Files}
use Rattle.treefs_model.specs.declared.fault.Fault.{Fault}
use Rattle.treefs_model.specs.declared.fault.Fault.TheVariants.{Kernel}
use Rattle.treefs.specs.Reaping.{ReapDoes}
use Rattle.treefs.specs.WritingTimes.{WriteTimesDoes}
use Rattle.treefs.specs.declared.volume.Volume.{Volume}
use Rattle.treefs_laws.specs.Kept.{files_in}
use Rattle.treefs_laws.specs.Open.{IsOpen}
use Rattle.treefs_laws.specs.Orphans.{IsReaped, without_orphans}
use Rattle.treefs_laws.specs.Unnamed.{KeepsUnnamed}
use Rattle.treefs_laws.proofs.ForCallers.{among_or_not, reap_done, reap_said, reaped_same, reaped_then, reaped_weaker, reaped_without, unnamed_then, without_gone}
use Rattle.treefs_session.specs.Freeing.{FreesAndTries, MakesFreely, ReapsAndWrites, Reaps, Syncs, Writes, unheld}
use Rattle.treefs_session.specs.Tries.{MakesRoom, Tries, most_tries}
use Rattle.treefs_session_laws.specs.Before.{IsAsBefore, IsAsBeforeButOrphans, IsUnheld}
use Rattle.treefs_session_laws.proofs.Room.{before_same, before_then, room_before, times_before}
use Rattle.treefs_session_laws.proofs.Tried.{IsAgain, tries_end, tries_keep, tries_lack}
use Rattle.treefs_session_laws.proofs.Flushed.{stopped_before, waves_before}

-- whether an inode is held is known
pub held_or_not : (held : List ℕ) (n : ℕ) → IsUnheld held n ⊎ (IsUnheld held n → ⊥)
held_or_not held n = by (has_number held n) refl
  where
    by : (t : Bool) → has_number held n ≡ t → IsUnheld held n ⊎ (IsUnheld held n → ⊥)
    by false e = inl e
    by true e = inr (λ none. absurd (cc (sym e ∙ none)))

-- those of some inodes that aren't held
unheld_are : (held orphans : List ℕ) (n : ℕ) → Contains (unheld held orphans) n → IsUnheld held n
unheld_are held orphans n has = not-true (has_number held n) (filter_at (λ n. not (has_number held n)) orphans n has).1

module _ (T : Types) (Among : ℕ → Type 0) (tells : (n : ℕ) → Among n ⊎ (Among n → ⊥)) where
  -- so it is, but for orphans among some inodes
  pub record IsButOrphans (old new : StoreState) (volume volume' : Volume) : Type 0 where
    pub is_open : IsOpen T new volume'
    pub files : IsReaped Among (files_in old volume) (files_in new volume')
    pub tree : volume'.tree ≡ volume.tree
    pub clock : volume'.memory.clock ≡ volume.memory.clock
    pub unnamed : KeepsUnnamed old new volume volume'

  pub opens : (old new : StoreState) (v v' : Volume) → IsButOrphans old new v v' → IsOpen T new v'
  opens old new v v' is = is.is_open

  pub from_before : (old new : StoreState) (v v' : Volume) → IsAsBefore T old new v v' → IsButOrphans old new v v'
  from_before old new v v' is = record {
    is_open = is.is_open;
    files = subst (IsReaped Among (files_in old v)) (sym is.files) (reaped_same Among tells (files_in old v));
    tree = is.tree;
    clock = is.clock;
    unnamed = is.unnamed;
  }

  pub but_same : (s : StoreState) (v : Volume) → IsOpen T s v → IsButOrphans s s v v
  but_same s v is_open = from_before s s v v (before_same T s v is_open)

  pub but_then : (old middle new : StoreState) (v w x : Volume) → IsButOrphans old middle v w → IsButOrphans middle new w x → IsButOrphans old new v x
  but_then old middle new v w x first second = record {
    is_open = second.is_open;
    files = reaped_then Among tells (files_in old v) (files_in middle w) (files_in new x) first.files second.files;
    tree = second.tree ∙ first.tree;
    clock = second.clock ∙ first.clock;
    unnamed = unnamed_then old middle new v w x first.unnamed second.unnamed;
  }

module _ (T : Types) where
  -- All is written

  abbrev pub Flushed : StoreState → StoreState → Result (Unit {0}) Fault → Type 0
  Flushed old new result = MatchResult result
      (λ done. ((waves : ℕ) × StateWaves waves old new) × (IsIdle old.lives × IsIdle new.lives) × AllWritten new.lives)
      (λ fault. (refusal : Refusal) × StateRefuses old refusal new × (fault ≡ Kernel refusal))

  pub flush_before : (old new : StoreState) (v : Volume) (result : Result (Unit {0}) Fault) → IsOpen T old v → Flushed old new result → IsAsBefore T old new v v
  flush_before old new v (Ok done) is_open flushed = waves_before T old new v flushed.0.0 is_open flushed.0.1
  flush_before old new v (Err fault) is_open flushed = stopped_before T old new v flushed.0 is_open flushed.1

  abbrev pub Writes_so : StoreState → StoreState → Volume → Volume → Result (Unit {0}) Fault → Type 0
  Writes_so old new v v' result =
      MatchResult result (λ done. ⊥) (λ fault. WriteTimesDoes T old new v v' (Err fault))
      ⊎ ((middle : StoreState) × WriteTimesDoes T old middle v v' (Ok tt) × Flushed middle new result)

  pub write_before : (old new : StoreState) (v v' : Volume) (result : Result (Unit {0}) Fault) → IsOpen T old v → Writes_so old new v v' result →
      IsAsBefore T old new v v'
  write_before old new v v' (Ok done) is_open (inl none) = absurd none
  write_before old new v v' (Err fault) is_open (inl writes) = times_before T old new v v' (Err fault) is_open writes
  write_before old new v v' result is_open (inr (middle, writes, flushes)) =
      let first = times_before T old middle v v' (Ok tt) is_open writes in
      before_then T old middle new v v' v' first (flush_before middle new v' result first.is_open flushes)

  pub writes_before : (old new : StoreState) (v v' : Volume) (result : Result (Unit {0}) Fault) → IsOpen T old v → Writes T old new v v' result →
      IsAsBefore T old new v v'
  writes_before old new v v' result is_open writes =
      tries_keep T (IsOpen T) (IsAsBefore T) (λ old new v v' is. is.is_open) (before_same T) (before_then T) (room_before T) Writes_so write_before most_tries old new v v'
      result is_open writes

  -- Orphans of some numbers are freed

  module _ (numbers : List ℕ) where
    abbrev But : StoreState → StoreState → Volume → Volume → Type 0
    But old new v v' = IsButOrphans T (Contains numbers) (among_or_not numbers) old new v v'

    abbrev Reaping : StoreState → StoreState → Volume → Volume → Result (Unit {0}) Fault → Type 0
    Reaping old new v v' result = ReapDoes T old new v v' numbers result

    abbrev from : (old new : StoreState) (v v' : Volume) → IsAsBefore T old new v v' → But old new v v'
    from = from_before T (Contains numbers) (among_or_not numbers)

    but_room : (old new : StoreState) (v v' : Volume) (result : Result Bool Fault) → IsOpen T old v → MakesRoom T old new v v' result → But old new v v'
    but_room old new v v' result is_open makes = from old new v v' (room_before T old new v v' result is_open makes)

    reap_but : (old new : StoreState) (v v' : Volume) (result : Result (Unit {0}) Fault) → IsOpen T old v → Reaping old new v v' result → But old new v v'
    reap_but old new v v' result is_open does =
        let r = reap_said T numbers old new v v' is_open result does in record { is_open = r.0; files = r.1; tree = r.2; clock = r.3; unnamed = r.4 }

    pub reaps_but : (old new : StoreState) (v v' : Volume) (result : Result (Unit {0}) Fault) → IsOpen T old v → Reaps T numbers old new v v' result →
        But old new v v'
    reaps_but old new v v' result is_open reaps =
        tries_keep T (IsOpen T) But (opens T (Contains numbers) (among_or_not numbers)) (but_same T (Contains numbers) (among_or_not numbers))
        (but_then T (Contains numbers) (among_or_not numbers))
        but_room Reaping reap_but most_tries old new v v' result is_open reaps

    -- once that is done none of them is left
    pub reaps_all : (old new : StoreState) (v v' : Volume) → IsOpen T old v → Reaps T numbers old new v v' (Ok tt) →
        files_in new v' ≡ without_orphans numbers (files_in old v)
    reaps_all old new v v' is_open reaps =
        let last = tries_end T (IsOpen T) But (opens T (Contains numbers) (among_or_not numbers)) (but_same T (Contains numbers) (among_or_not numbers))
        (but_then T (Contains numbers) (among_or_not numbers))
        but_room Reaping (λ old new v v' fault is_open again does. reap_but old new v v' (Err fault) is_open does) most_tries old new v v' tt is_open reaps in
        let all = reap_done T numbers last.0 new last.1 v' (last.2).is_open (Ok tt) last.3 refl in
        let whole = reaps_but old new v v' (Ok tt) is_open reaps in
        reaped_without numbers (files_in old v) (files_in new v') whole.files
        (λ n orphan. ap (λ (f : Files). f n) all ∙ without_gone numbers (files_in old v) (files_in last.0 last.1) last.2.files n orphan)

  -- A session frees what isn't held

  module _ (held : List ℕ) where
    abbrev Unheld : StoreState → StoreState → Volume → Volume → Type 0
    Unheld old new v v' = IsAsBeforeButOrphans T held old new v v'

    pub as_before : (old new : StoreState) (v v' : Volume) → IsAsBefore T old new v v' → IsAsBeforeButOrphans T held old new v v'
    as_before old new v v' is = let b = from_before T (IsUnheld held) (held_or_not held) old new v v' is in
        record { is_open = b.is_open; files = b.files; tree = b.tree; clock = b.clock; unnamed = b.unnamed }

    as_but : (old new : StoreState) (v v' : Volume) (orphans : List ℕ) → But (unheld held orphans) old new v v' → Unheld old new v v'
    as_but old new v v' orphans is = record {
      is_open = is.is_open;
      files = reaped_weaker (Contains (unheld held orphans)) (among_or_not (unheld held orphans)) (IsUnheld held) (unheld_are held orphans) (files_in old v)
          (files_in new v') is.files;
      tree = is.tree;
      clock = is.clock;
      unnamed = is.unnamed;
    }

    unheld_same : (s : StoreState) (v : Volume) → IsOpen T s v → Unheld s s v v
    unheld_same s v is_open = as_before s s v v (before_same T s v is_open)

    pub unheld_then : (old middle new : StoreState) (v w x : Volume) → Unheld old middle v w → Unheld middle new w x → Unheld old new v x
    unheld_then old middle new v w x first second = record {
      is_open = second.is_open;
      files = reaped_then (IsUnheld held) (held_or_not held) (files_in old v) (files_in middle w) (files_in new x) first.files second.files;
      tree = second.tree ∙ first.tree;
      clock = second.clock ∙ first.clock;
      unnamed = unnamed_then old middle new v w x first.unnamed second.unnamed;
    }

    reaps_and_writes : (old new : StoreState) (v v' : Volume) (result : Result (Unit {0}) Fault) → IsOpen T old v →
        ReapsAndWrites T (unheld held v.memory.orphans) old new v v' result → Unheld old new v v'
    reaps_and_writes old new v v' (Ok done) is_open (inl none) = absurd none
    reaps_and_writes old new v v' (Err fault) is_open (inl reaps) =
        as_but old new v v' v.memory.orphans (reaps_but (unheld held v.memory.orphans) old new v v' (Err fault) is_open reaps)
    reaps_and_writes old new v v' result is_open (inr (middle, w, reaps, writes)) =
        let first = reaps_but (unheld held v.memory.orphans) old middle v w (Ok tt) is_open reaps in
        unheld_then old middle new v w v' (as_but old middle v w v.memory.orphans first)
        (as_before middle new w v' (writes_before middle new w v' result first.is_open writes))

    pub syncs_unheld : (old new : StoreState) (v v' : Volume) (result : Result (Unit {0}) Fault) → IsOpen T old v → Syncs T held old new v v' result →
        IsAsBeforeButOrphans T held old new v v'
    syncs_unheld old new v v' result is_open (inl (told, still, stays)) =
        subst (λ w. Unheld old new v w) (sym stays) (subst (λ s. Unheld old s v v) (sym still) (unheld_same old v is_open))
    syncs_unheld old new v v' result is_open (inr syncs) = reaps_and_writes old new v v' result is_open syncs

    pub syncs_all : (old new : StoreState) (v v' : Volume) → IsOpen T old v → Syncs T held old new v v' (Ok tt) →
        files_in new v' ≡ without_orphans (unheld held v.memory.orphans) (files_in old v)
    syncs_all old new v v' is_open (inl (told, still, stays)) = absurd (cc told)
    syncs_all old new v v' is_open (inr (inl none)) = absurd none
    syncs_all old new v v' is_open (inr (inr (middle, w, reaps, writes))) =
        let first = reaps_but (unheld held v.memory.orphans) old middle v w (Ok tt) is_open reaps in
        (writes_before middle new w v' (Ok tt) first.is_open writes).files ∙ reaps_all (unheld held v.memory.orphans) old middle v w is_open reaps

    -- A call, made again once that is done

    module _ {A : Type 0} (Does : StoreState → StoreState → Volume → Volume → Result A Fault → Type 0)
        (refused : (old new : StoreState) (v v' : Volume) (fault : Fault) → IsOpen T old v → IsAgain fault → Does old new v v' (Err fault) →
        IsAsBefore T old new v v') where
      abbrev pub IsMade : StoreState → StoreState → Volume → Volume → A → Type 0
      IsMade old new v v' answer = (middle : StoreState) × (w : Volume) × IsAsBeforeButOrphans T held old middle v w × Does middle new w v' (Ok answer)

      tried : (old new : StoreState) (v v' : Volume) (answer : A) → IsOpen T old v → Tries Does T most_tries old new v v' (Ok answer) →
          IsMade old new v v' answer
      tried old new v v' answer is_open tries =
          let last = tries_end T (IsOpen T) (IsAsBefore T) (λ old new v v' is. is.is_open) (before_same T) (before_then T) (room_before T) Does refused most_tries old new v v'
          answer is_open tries in
          (last.0, last.1, as_before old last.0 v last.1 last.2, last.3)

      frees_and_tries : (old new : StoreState) (v v' : Volume) (answer : A) → IsOpen T old v → FreesAndTries Does T held old new v v' (Ok answer) →
          IsMade old new v v' answer
      frees_and_tries old new v v' answer is_open (inl none) = absurd none
      frees_and_tries old new v v' answer is_open (inr (middle, w, syncs, tries)) =
          let first = syncs_unheld old middle v w (Ok tt) is_open syncs in
          let last = tried middle new w v' answer first.is_open tries in
          (last.0, last.1, unheld_then old middle last.0 v w last.1 first last.2, last.3)

      pub made_freely : (old new : StoreState) (v v' : Volume) (answer : A) → IsOpen T old v → MakesFreely Does T held old new v v' (Ok answer) →
          IsMade old new v v' answer
      made_freely old new v v' answer is_open (inl (tries, space)) = tried old new v v' answer is_open tries
      made_freely old new v v' answer is_open (inr (fault, middle, w, tries, lacks, frees)) =
          let first = tries_lack T (IsOpen T) (IsAsBefore T) (λ old new v v' is. is.is_open) (before_same T) (before_then T) (room_before T) Does refused most_tries old middle
          v w fault is_open lacks tries in
          let last = frees_and_tries middle new w v' answer first.is_open frees in
          (last.0, last.1, unheld_then old middle last.0 v w last.1 (as_before old middle v w first) last.2, last.3)
