-- A session that is closed: all orphans that wait for it are freed, and no other file changes.
use Rattle.std.proofs.Common.{◌≡◌, ◌⊎◌, ℕ, Bool, true, List, [], Option, None, Some, Result, Ok, Err, refl, sym, ◌∙◌, ap, inl, inr, subst}
use Rattle.std.specs.Prelude.{Contains, MatchResult}
use Rattle.xn_model.specs.Lives.{StoreState}
use Rattle.xn_model.specs.Types.{Types}
use Rattle.store_types.specs.declared.refusal.Refusal.TheVariants.{NoMemory}
use Rattle.treefs_model.specs.Files.{Files, Inode}
use Rattle.treefs_model.specs.declared.fault.Fault.{Fault}
use Rattle.treefs_model.specs.declared.fault.Fault.TheVariants.{Kernel}
use Rattle.treefs_edits.specs.Plans.{Does}
use Rattle.treefs.specs.Opening.{mark_plan}
use Rattle.treefs.specs.Reaping.{ReapDoes}
use Rattle.treefs.specs.WritingTimes.{WriteTimesDoes}
use Rattle.treefs.specs.declared.volume.Volume.{Volume}
use Rattle.treefs_laws.specs.Kept.{files_in}
use Rattle.treefs_laws.specs.Open.{IsOpen}
use Rattle.treefs_laws.specs.Orphans.{IsOrphan, IsReaped, WaitLess, without_orphans}
use Rattle.treefs_laws.specs.Unnamed.{KeepsUnnamed}
use Rattle.treefs_laws.proofs.ForCallers.{among_or_not, mark_said, orphan_then, reap_done, reap_said, reap_waits, reaped_same, reaped_then, reaped_weaker, reaped_without, unnamed_then, without_gone}
use Rattle.treefs_session.specs.Tries.{MakesRoom, Tries, most_tries}
use Rattle.treefs_session_laws.specs.Before.{IsAsBefore, IsAsBeforeButOrphans, IsUnheld}
use Rattle.treefs_session_laws.proofs.Room.{before_same, before_then, room_before}
use Rattle.treefs_session_laws.proofs.Freed.{Flushed, Writes_so, flush_before, write_before}
use Rattle.treefs_session_laws.proofs.Tried.{tries_end, tries_keep}

-- what isn't there doesn't come back
none_stays : (Among : ℕ → Type 0) (old new : Files) → IsReaped Among old new → (n : ℕ) → old n ≡ None → new n ≡ None
none_stays Among old new reaped n none = reaped.others n (λ orphan. absurd (cc (sym none ∙ orphan.there))) ∙ none

-- The numbers that wait stay

abbrev SameOrphans : Volume → Volume → Type 0
SameOrphans v v' = v'.memory.orphans ≡ v.memory.orphans

same_orphans : (v v' : Volume) → v' ≡ v → SameOrphans v v'
same_orphans v v' is = ap (λ (w : Volume). w.memory.orphans) is

times_wait : (T : Types) (old new : StoreState) (v v' : Volume) (result : Result (Unit {0}) Fault) → WriteTimesDoes T old new v v' result → SameOrphans v v'
times_wait T old new v v' result writes = ap (λ (w : Volume). w.memory.orphans) writes.2

room_waits : (T : Types) (old new : StoreState) (v v' : Volume) (result : Result Bool Fault) → MakesRoom T old new v v' result → SameOrphans v v'
room_waits T old new v v' result (inl wave) = same_orphans v v' wave.3
room_waits T old new v v' result (inr (inr refused)) = same_orphans v v' refused.3
room_waits T old new v v' result (inr (inl (idle, written, inl none))) = same_orphans v v' none.3
room_waits T old new v v' (Ok more) (inr (inl (idle, written, inr some))) = times_wait T old new v v' (Ok tt) some.1.1
room_waits T old new v v' (Err fault) (inr (inl (idle, written, inr some))) = times_wait T old new v v' (Err fault) some.1

-- What closing leaves
pub record IsClosing (T : Types) (old new : StoreState) (v v' : Volume) : Type 0 where
  pub is_open : IsOpen T new v'
  pub files : IsReaped (Contains v.memory.orphans) (files_in old v) (files_in new v')
  pub tree : v'.tree ≡ v.tree
  pub clock : v'.memory.clock ≡ v.memory.clock
  pub waiting : WaitLess v.memory.orphans v'.memory.orphans (files_in new v')
  pub unnamed : KeepsUnnamed old new v v'

module _ (T : Types) where
  as_closing : (old new : StoreState) (v v' : Volume) → IsAsBefore T old new v v' → SameOrphans v v' → IsClosing T old new v v'
  as_closing old new v v' is same = record {
    is_open = is.is_open;
    files = subst (IsReaped (Contains v.memory.orphans) (files_in old v)) (sym is.files)
        (reaped_same (Contains v.memory.orphans) (among_or_not v.memory.orphans) (files_in old v));
    tree = is.tree;
    clock = is.clock;
    unnamed = is.unnamed;
    waiting = λ n. (
      λ has. subst (λ (xs : List ℕ). Contains xs n) same has,
      λ has. inl (subst (λ (xs : List ℕ). Contains xs n) (sym same) has),
    );
  }

  closing_same : (s : StoreState) (v : Volume) → IsOpen T s v → IsClosing T s s v v
  closing_same s v is_open = as_closing s s v v (before_same T s v is_open) refl

  closing_then : (old middle new : StoreState) (v w x : Volume) → IsClosing T old middle v w → IsClosing T middle new w x → IsClosing T old new v x
  closing_then old middle new v w x first second = record {
    is_open = second.is_open;
    files = reaped_then (Contains v.memory.orphans) (among_or_not v.memory.orphans) (files_in old v) (files_in middle w) (files_in new x) first.files
        (reaped_weaker (Contains w.memory.orphans) (among_or_not w.memory.orphans) (Contains v.memory.orphans) (λ n has. (first.waiting n).0 has)
        (files_in middle w) (files_in new x) second.files);
    tree = second.tree ∙ first.tree;
    clock = second.clock ∙ first.clock;
    unnamed = unnamed_then old middle new v w x first.unnamed second.unnamed;
    waiting = λ n. (
      λ has. (first.waiting n).0 ((second.waiting n).0 has),
      λ has. elim ((first.waiting n).1 has) [
        | inl still ↦ (second.waiting n).1 still
        | inr none ↦ inr (none_stays (Contains w.memory.orphans) (files_in middle w) (files_in new x) second.files n none)
      ],
    );
  }

module _ (T : Types) where
  -- Orphans are freed

  abbrev Reaps_so : StoreState → StoreState → Volume → Volume → Result (Unit {0}) Fault → Type 0
  Reaps_so old new v v' result =
      ((result ≡ Err (Kernel NoMemory)) × (new ≡ old) × (v' ≡ v)) ⊎ ReapDoes T old new v v' v.memory.orphans result

  reaps_closing : (old new : StoreState) (v v' : Volume) (result : Result (Unit {0}) Fault) → IsOpen T old v → Reaps_so old new v v' result →
      IsClosing T old new v v'
  reaps_closing old new v v' result is_open (inl (told, still, stays)) =
      subst (λ w. IsClosing T old new v w) (sym stays) (subst (λ s. IsClosing T old s v v) (sym still) (closing_same T old v is_open))
  reaps_closing old new v v' result is_open (inr does) =
      let r = reap_said T v.memory.orphans old new v v' is_open result does in
      record { is_open = r.0; files = r.1; tree = r.2; clock = r.3; waiting = reap_waits T v.memory.orphans old new v v' is_open result does; unnamed = r.4 }

  -- All is written, and the mark

  abbrev Marks_so : StoreState → StoreState → Volume → Result (Unit {0}) Fault → Type 0
  Marks_so old new v result =
      MatchResult result (λ done. ⊥) (λ fault. Does T v.tree.fs.number (mark_plan v.tree.top true) old new (Err fault))
      ⊎ ((middle : StoreState) × Does T v.tree.fs.number (mark_plan v.tree.top true) old middle (Ok tt) × Flushed T middle new result)

  mark_before : (old new : StoreState) (v : Volume) (result : Result (Unit {0}) Fault) → IsOpen T old v →
      Does T v.tree.fs.number (mark_plan v.tree.top true) old new result → IsAsBefore T old new v v
  mark_before old new v result is_open does =
      let m = mark_said T old new v true is_open result does in record { is_open = m.0; files = m.1; tree = refl; clock = refl; unnamed = m.2 }

  marks_before : (old new : StoreState) (v : Volume) (result : Result (Unit {0}) Fault) → IsOpen T old v → Marks_so old new v result → IsAsBefore T old new v v
  marks_before old new v (Ok done) is_open (inl none) = absurd none
  marks_before old new v (Err fault) is_open (inl does) = mark_before old new v (Err fault) is_open does
  marks_before old new v result is_open (inr (middle, does, flushes)) =
      let first = mark_before old middle v (Ok tt) is_open does in
      before_then T old middle new v v v first (flush_before T middle new v result first.is_open flushes)

  write_waits : (old new : StoreState) (v v' : Volume) (result : Result (Unit {0}) Fault) → Writes_so T old new v v' result → SameOrphans v v'
  write_waits old new v v' (Ok done) (inl none) = absurd none
  write_waits old new v v' (Err fault) (inl writes) = times_wait T old new v v' (Err fault) writes
  write_waits old new v v' result (inr (middle, writes, flushes)) = times_wait T old middle v v' (Ok tt) writes

  abbrev Ends_so : StoreState → StoreState → Volume → Volume → Result (Unit {0}) Fault → Type 0
  Ends_so old new v v' result =
      MatchResult result (λ done. ⊥) (λ fault. Writes_so T old new v v' (Err fault))
      ⊎ ((middle : StoreState) × Writes_so T old middle v v' (Ok tt) × Marks_so middle new v' result)

  ends_before : (old new : StoreState) (v v' : Volume) (result : Result (Unit {0}) Fault) → IsOpen T old v → Ends_so old new v v' result →
      IsAsBefore T old new v v' × SameOrphans v v'
  ends_before old new v v' (Ok done) is_open (inl none) = absurd none
  ends_before old new v v' (Err fault) is_open (inl writes) =
      (write_before T old new v v' (Err fault) is_open writes, write_waits old new v v' (Err fault) writes)
  ends_before old new v v' result is_open (inr (middle, writes, marked)) =
      let first = write_before T old middle v v' (Ok tt) is_open writes in (
        before_then T old middle new v v' v' first (marks_before middle new v' result first.is_open marked),
        write_waits old middle v v' (Ok tt) writes,
      )

  -- Closing, once

  abbrev Closes_so : StoreState → StoreState → Volume → Volume → Result (Unit {0}) Fault → Type 0
  Closes_so old new v v' result =
      MatchResult result (λ done. ⊥) (λ fault. Reaps_so old new v v' (Err fault))
      ⊎ ((middle : StoreState) × (between : Volume) × Reaps_so old middle v between (Ok tt) × Ends_so middle new between v' result)

  close_closing : (old new : StoreState) (v v' : Volume) (result : Result (Unit {0}) Fault) → IsOpen T old v → Closes_so old new v v' result →
      IsClosing T old new v v'
  close_closing old new v v' (Ok done) is_open (inl none) = absurd none
  close_closing old new v v' (Err fault) is_open (inl reaps) = reaps_closing old new v v' (Err fault) is_open reaps
  close_closing old new v v' result is_open (inr (middle, w, reaps, ends)) =
      let first = reaps_closing old middle v w (Ok tt) is_open reaps in
      let e = ends_before middle new w v' result first.is_open ends in
      closing_then T old middle new v w v' first (as_closing T middle new w v' e.0 e.1)

  close_frees : (old new : StoreState) (v v' : Volume) → IsOpen T old v → Closes_so old new v v' (Ok tt) →
      files_in new v' ≡ without_orphans v.memory.orphans (files_in old v)
  close_frees old new v v' is_open (inl none) = absurd none
  close_frees old new v v' is_open (inr (middle, w, inl (told, still, stays), ends)) = absurd (cc told)
  close_frees old new v v' is_open (inr (middle, w, inr does, ends)) =
      let first = reaps_closing old middle v w (Ok tt) is_open (inr does) in
      (ends_before middle new w v' (Ok tt) first.is_open ends).0.files ∙ reap_done T v.memory.orphans old middle v w is_open (Ok tt) does refl

  -- until it has room

  room_closing : (old new : StoreState) (v v' : Volume) (result : Result Bool Fault) → IsOpen T old v → MakesRoom T old new v v' result → IsClosing T old new v v'
  room_closing old new v v' result is_open makes =
      as_closing T old new v v' (room_before T old new v v' result is_open makes) (room_waits T old new v v' result makes)

  closing : (old new : StoreState) (v v' : Volume) (result : Result (Unit {0}) Fault) → IsOpen T old v → Tries Closes_so T most_tries old new v v' result →
      IsClosing T old new v v'
  closing old new v v' result is_open tries =
      tries_keep T (IsOpen T) (IsClosing T) (λ old new v v' is. is.is_open) (closing_same T) (closing_then T) room_closing Closes_so close_closing most_tries
      old new v v' result is_open tries

  unheld_closing : (old new : StoreState) (v v' : Volume) → IsClosing T old new v v' → IsAsBeforeButOrphans T [] old new v v'
  unheld_closing old new v v' is = record {
    is_open = is.is_open;
    files = reaped_weaker (Contains v.memory.orphans) (among_or_not v.memory.orphans) (IsUnheld []) (λ n has. refl) (files_in old v) (files_in new v') is.files;
    tree = is.tree;
    clock = is.clock;
    unnamed = is.unnamed;
  }

  pub closes_unheld : (old new : StoreState) (v v' : Volume) (result : Result (Unit {0}) Fault) → IsOpen T old v →
      Tries Closes_so T most_tries old new v v' result → IsAsBeforeButOrphans T [] old new v v'
  closes_unheld old new v v' result is_open tries = unheld_closing old new v v' (closing old new v v' result is_open tries)

  -- the last time, none of those that waited at first is left
  module _ (old middle new : StoreState) (v w v' : Volume) (first : IsClosing T old middle v w) (last : Closes_so middle new w v' (Ok tt)) where
    step : IsClosing T middle new w v'
    step = close_closing middle new w v' (Ok tt) first.is_open last

    all_gone : (n : ℕ) → IsOrphan (Contains v.memory.orphans) (files_in old v) n → files_in new v' n ≡ None
    all_gone n orphan = by (files_in middle w n) refl
      where
        by : (o : Option Inode) → files_in middle w n ≡ o → files_in new v' n ≡ None
        by None is = none_stays (Contains w.memory.orphans) (files_in middle w) (files_in new v') step.files n is
        by (Some inode) is =
            let still = orphan_then (Contains v.memory.orphans) (among_or_not v.memory.orphans) (files_in old v) (files_in middle w) first.files n orphan
            (λ none. absurd (cc (sym is ∙ none))) in
            elim ((first.waiting n).1 orphan.among) [
              | inr none ↦ absurd (cc (sym is ∙ none))
              | inl waits ↦
                  ap (λ (f : Files). f n) (close_frees middle new w v' first.is_open last)
                  ∙ without_gone w.memory.orphans (files_in middle w) (files_in middle w)
                  (reaped_same (Contains w.memory.orphans) (among_or_not w.memory.orphans) (files_in middle w)) n
                  (record { among = waits; inode = still.inode; there = still.there; unlinked = still.unlinked })
            ]

    frees_all : files_in new v' ≡ without_orphans v.memory.orphans (files_in old v)
    frees_all = reaped_without v.memory.orphans (files_in old v) (files_in new v') (closing_then T old middle new v w v' first step).files all_gone

  pub closes_all : (old new : StoreState) (v v' : Volume) → IsOpen T old v → Tries Closes_so T most_tries old new v v' (Ok tt) →
      files_in new v' ≡ without_orphans v.memory.orphans (files_in old v)
  closes_all old new v v' is_open tries =
      let last = tries_end T (IsOpen T) (IsClosing T) (λ old new v v' is. is.is_open) (closing_same T) (closing_then T) room_closing Closes_so
      (λ old new v v' fault is_open again does. close_closing old new v v' (Err fault) is_open does) most_tries old new v v' tt is_open tries in
      frees_all old last.0 new v last.1 v' last.2 last.3
