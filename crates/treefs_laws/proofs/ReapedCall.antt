-- What reap leaves: an open volume, on which the orphans of some numbers may be gone, and once it is done they are.
use Rattle.std.proofs.Common.{◌≡◌, ◌≢◌, ◌⊎◌, ℕ, ◌+◌, ◌-◌, Bool, true, false, List, [], ◌∷◌, length, Option, None, Some, Result, Ok, Err, refl}
use Rattle.std.proofs.Common.{sym, ◌∙◌, ap, inl, inr, subst, arith}
use Rattle.std.specs.Prelude.{Contains, IsOkAnd, IsSomeAnd, MatchBool, MatchResult, ◌==◌}
use Rattle.std.proofs.lemmas.Bool.{eqb-false, eqb-true}
use Rattle.xn_model.specs.Lives.{StoreState}
use Rattle.xn_model.specs.Types.{Types}
use Rattle.xn_model.proofs.ForCallers.{Contains-cons, Contains-head, Contains-none, Contains-tail}
use Rattle.treefs_format.specs.Roots.{leaf_of_inode}
use Rattle.treefs_lookup.specs.Readable.{readable}
use Rattle.treefs_model.specs.Files.{Files, Inode}
use Rattle.treefs_model.specs.declared.fault.Fault.{Fault}
use Rattle.treefs_model.specs.declared.fault.Fault.TheVariants.{Full}
use Rattle.treefs_edits.specs.Memories.{Memory}
use Rattle.treefs_edits.specs.Rooms.{has_room}
use Rattle.treefs.specs.Reaping.{Empties, EmptiesOne, IsFreeing, IsFreeingPlanned, ReapDoes, Reaps, ReapsOne, freed_memory, holder_block, orphan_block}
use Rattle.treefs.specs.Reaping.{plan_of_reap, reap_act, reaped_memory}
use Rattle.treefs.specs.Trimming.{DoesIfAny}
use Rattle.treefs.specs.declared.reap_plan.ReapPlan.{ReapPlan}
use Rattle.treefs.specs.declared.volume.Volume.{Volume}
use Rattle.treefs_laws.specs.Kept.{files_in}
use Rattle.treefs_laws.specs.Open.{IsOpen}
use Rattle.treefs_laws.specs.Orphans.{IsOrphan, IsReaped, WaitLess, without_orphans}
use Rattle.treefs_laws.specs.Unnamed.{KeepsUnnamed}
use Rattle.treefs_laws.proofs.AsideVolume.{unnamed_kept, unnamed_then}
use Rattle.treefs_laws.proofs.OrphansFound.{orphan_here, orphan_is}
use Rattle.treefs_laws.proofs.Planned.{ran_acts}
use Rattle.treefs_laws.proofs.ReapedFiles.{among_or_not, gone_stays, orphan_then, reaped_then, reaped_without, unseen_orphan}
use Rattle.treefs_laws.proofs.ReapedVolume.{freed_said, freed_waits, one_emptied, own_gone, same_volume}
use Rattle.treefs_laws.proofs.TimesWritten.{refused_whole}
use Rattle.treefs_model.specs.Reading.{files_of}

abbrev pub with_memory : Volume → Memory → Volume
with_memory volume memory = record volume { memory = memory }

module _ (T : Types) (numbers : List ℕ) where
  -- the volume, and where its session stands
  abbrev Said : StoreState → StoreState → Volume → Volume → Type 0
  Said old new volume volume' = IsOpen T new volume' × IsReaped (Contains numbers) (files_in old volume) (files_in new volume')
      × (volume'.tree ≡ volume.tree) × (volume'.memory.clock ≡ volume.memory.clock)
      × WaitLess volume.memory.orphans volume'.memory.orphans (files_in new volume') × KeepsUnnamed old new volume volume'

  -- no number waits less
  wait_same : (orphans orphans' : List ℕ) (files : Files) → orphans' ≡ orphans → WaitLess orphans orphans' files
  wait_same orphans orphans' files same = λ n. (
    λ has. subst (λ (xs : List ℕ). Contains xs n) same has,
    λ has. inl (subst (λ (xs : List ℕ). Contains xs n) (sym same) has),
  )

  abbrev Gone : StoreState → StoreState → Volume → Volume → Result (Unit {0}) Fault → ℕ → Type 0
  Gone old new volume volume' result n = result ≡ Ok tt → IsOrphan (Contains numbers) (files_in old volume) n → files_in new volume' n ≡ None

  said_then : (old middle new : StoreState) (v w x : Volume) → Said old middle v w → Said middle new w x → Said old new v x
  said_then old middle new v w x first second = (
    second.0,
    reaped_then (Contains numbers) (among_or_not numbers) (files_in old v) (files_in middle w) (files_in new x) first.1 second.1,
    second.2 ∙ first.2,
    second.3 ∙ first.3,
    λ n. (
      λ has. (first.4 n).0 ((second.4 n).0 has),
      λ has. elim ((first.4 n).1 has) [
        | inl still ↦ (second.4 n).1 still
        | inr none ↦ inr (gone_stays (Contains numbers) (among_or_not numbers) (files_in middle w) (files_in new x) second.1 n none)
      ],
    ),
    unnamed_then old middle new v w x first.5 second.5,
  )

  module _ (old new : StoreState) (volume : Volume) (is_open : IsOpen T old volume) where
    abbrev fs : ℕ
    fs = volume.tree.fs.number

    abbrev top : ℕ
    top = volume.tree.top

    abbrev content : ℕ → List ℕ
    content = readable old fs

    same_said : new ≡ old → (memory' : Memory) → memory' ≡ volume.memory → Said old new volume (with_memory volume memory')
    same_said same memory' is =
        let s = same_volume T numbers old new volume is_open same (with_memory volume memory') (ap (with_memory volume) is) in (
          s.0,
          s.1,
          refl,
          ap (λ (m : Memory). m.clock) is,
          wait_same volume.memory.orphans memory'.orphans (files_in new (with_memory volume memory')) (ap (λ (m : Memory). m.orphans) is),
          unnamed_kept T old new volume (with_memory volume memory') is_open refl s.2,
        )

    -- One is freed, with those beside it

    module _ (number : ℕ) (among : Contains numbers number) (memory' : Memory) (result : Result (Unit {0}) Fault) where
      abbrev Reaped : Type 0
      Reaped = Said old new volume (with_memory volume memory') × Gone old new volume (with_memory volume memory') result number

      none_there : orphan_block content top number ≡ 0 → IsOrphan (Contains numbers) (files_in old volume) number → ⊥
      none_there none orphan =
          let o = unseen_orphan (Contains numbers) volume.memory.touched (files_of content top) number orphan in
          orphan_here content top number o.inode o.there o.unlinked none

      nothing_freed : (planned : Result (Option ReapPlan) Fault) → planned ≡ Ok None → orphan_block content top number ≡ 0 →
          DoesIfAny T fs (plan_of_reap planned) old new result → memory' ≡ reaped_memory volume.memory planned result → Reaped
      nothing_freed planned is none does memory_is =
          let d = subst (λ p. DoesIfAny T fs (plan_of_reap p) old new result) is does in (
            same_said d.1 memory' (memory_is ∙ ap (λ p. reaped_memory volume.memory p result) is),
            λ done orphan. absurd (none_there none orphan),
          )

      not_done : (fault : Fault) → result ≡ Err fault → new ≡ old → memory' ≡ volume.memory → Reaped
      not_done fault is same memory_is = (same_said same memory' memory_is, λ done orphan. absurd (cc (sym is ∙ done)))

      module _ (some : orphan_block (readable old volume.tree.fs.number) volume.tree.top number ≢ 0) where
        number_is : number ≡ leaf_of_inode number + 1
        number_is = let n = (orphan_is content top number some).is.number in from n
          where
            from : number ≢ 0 → number ≡ number - 1 + 1
            from n = omega arith

        own : orphan_block content top (leaf_of_inode number + 1) ≢ 0
        own z = some (ap (orphan_block content top) number_is ∙ z)

        freed_now : (plan : ReapPlan) → IsFreeing old fs top numbers (leaf_of_inode number) plan →
            DoesIfAny T fs (plan_of_reap (Ok (Some plan))) old new (Ok tt) →
            memory' ≡ freed_memory volume.memory plan.freed.items → Reaped
        freed_now plan is does memory_is =
            let ran = ran_acts T fs (reap_act plan ∷ []) old new does in
            let memory_so : memory' ≡ _ = memory_is ∙ ap (freed_memory volume.memory) is.freed_are in
            let said = freed_said T numbers old new volume is_open (leaf_of_inode number) own plan is ran in
            let gone = own_gone T numbers old new volume is_open (leaf_of_inode number) own plan is ran
            (subst (Contains numbers) number_is among) in
            subst (λ m. Said old new volume (with_memory volume m) × Gone old new volume (with_memory volume m) result number) (sym memory_so) (
              (
                said.0,
                said.1,
                refl,
                refl,
                freed_waits T numbers old new volume is_open (leaf_of_inode number) own plan is ran,
                unnamed_kept T old new volume (with_memory volume _) is_open refl said.2,
              ),
              λ done orphan. ap (files_in new (with_memory volume (freed_memory volume.memory _))) number_is ∙ gone,
            )

        planned_so : (planned : Result (Option ReapPlan) Fault) →
            IsOkAnd planned (λ step. IsSomeAnd step (IsFreeing old fs top numbers (leaf_of_inode number))) →
            DoesIfAny T fs (plan_of_reap planned) old new result → memory' ≡ reaped_memory volume.memory planned result → Reaped
        planned_so (Ok (Some plan)) is does memory_is = by result refl does memory_is
          where
            by : (r : Result (Unit {0}) Fault) → result ≡ r → DoesIfAny T fs (plan_of_reap (Ok (Some plan))) old new r →
                memory' ≡ reaped_memory volume.memory (Ok (Some plan)) r → Reaped
            by (Ok tt) e does memory_is = freed_now plan is does memory_is
            by (Err fault) e does memory_is = not_done fault e (refused_whole T fs (reap_act plan) old new fault does) memory_is
        planned_so (Ok None) is does memory_is = absurd is
        planned_so (Err fault) is does memory_is = absurd is

        freeing : (planned : Result (Option ReapPlan) Fault) → IsFreeingPlanned old volume.tree volume.memory numbers (leaf_of_inode number) planned →
            DoesIfAny T fs (plan_of_reap planned) old new result → memory' ≡ reaped_memory volume.memory planned result → Reaped
        freeing planned is does memory_is = by (has_room old fs (length volume.memory.touched) 1 ((holder_block content top (leaf_of_inode number), 1) ∷ [])) is
          where
            by : (t : Bool) → MatchBool t (IsOkAnd planned (λ step. IsSomeAnd step (IsFreeing old fs top numbers (leaf_of_inode number))))
                (planned ≡ Err Full) → Reaped
            by true is = planned_so planned is does memory_is
            by false full =
                let d = subst (λ p. DoesIfAny T fs (plan_of_reap p) old new result) full does in
                not_done Full d.0 d.1 (memory_is ∙ ap (λ p. reaped_memory volume.memory p result) full)

      pub one_reaped : ReapsOne T volume.tree numbers number old new volume.memory memory' result → Reaped
      one_reaped (planned, is, does, memory_is) = by (orphan_block content top number == 0) refl is
        where
          by : (t : Bool) → (orphan_block content top number == 0) ≡ t →
              MatchBool t (planned ≡ Ok None) (IsFreeingPlanned old volume.tree volume.memory numbers (leaf_of_inode number) planned) → Reaped
          by true e none = nothing_freed planned none (eqb-true (orphan_block content top number) 0 e) does memory_is
          by false e some = freeing (eqb-false (orphan_block content top number) 0 e) planned some does memory_is

  -- One after another

  abbrev Sub : List ℕ → Type 0
  Sub left = (n : ℕ) → Contains left n → Contains numbers n

  empties_said : (left : List ℕ) → Sub left → (old new : StoreState) (volume : Volume) → IsOpen T old volume → (result : Result (Unit {0}) Fault) →
      Empties T volume.tree volume.memory left old new result → Said old new volume volume
  empties_said [] sub old new volume is_open result does = same_said old new volume is_open does.1 volume.memory refl
  empties_said (number ∷ left) sub old new volume is_open result (inl failed) = by result failed
    where
      by : (r : Result (Unit {0}) Fault) → MatchResult r (λ done. ⊥) (λ fault. EmptiesOne T volume.tree volume.memory number old new (Err fault)) →
          Said old new volume volume
      by (Ok done) none = absurd none
      by (Err fault) does = let s = one_emptied T numbers old new volume is_open number (sub number (Contains-head number left)) (Err fault) does in (
        s.0,
        s.1,
        refl,
        refl,
        wait_same volume.memory.orphans volume.memory.orphans (files_in new volume) refl,
        unnamed_kept T old new volume volume is_open refl s.2,
      )
  empties_said (number ∷ left) sub old new volume is_open result (inr (middle, one, rest)) =
      let s = one_emptied T numbers old middle volume is_open number (sub number (Contains-head number left)) (Ok tt) one in
      said_then old middle new volume volume volume (
        s.0,
        s.1,
        refl,
        refl,
        wait_same volume.memory.orphans volume.memory.orphans (files_in middle volume) refl,
        unnamed_kept T old middle volume volume is_open refl s.2,
      )
      (empties_said left (λ n has. sub n (Contains-tail number left n has)) middle new volume s.0 result rest)

  abbrev AllGone : List ℕ → StoreState → StoreState → Volume → Volume → Result (Unit {0}) Fault → Type 0
  AllGone left old new volume volume' result = (n : ℕ) → Contains left n → Gone old new volume volume' result n

  reaps_said : (left : List ℕ) → Sub left → (old new : StoreState) (volume : Volume) → IsOpen T old volume →
      (memory' : Memory) (result : Result (Unit {0}) Fault) →
      Reaps T volume.tree numbers left old new volume.memory memory' result →
      Said old new volume (with_memory volume memory') × AllGone left old new volume (with_memory volume memory') result
  reaps_said [] sub old new volume is_open memory' result (done, same, memory_is) =
      (same_said old new volume is_open same memory' memory_is, λ n has. absurd (Contains-none n has))
  reaps_said (number ∷ left) sub old new volume is_open memory' result (inl failed) = by result failed
    where
      by : (r : Result (Unit {0}) Fault) → MatchResult r (λ done. ⊥)
          (λ fault. ReapsOne T volume.tree numbers number old new volume.memory memory' (Err fault)) →
          Said old new volume (with_memory volume memory') × AllGone (number ∷ left) old new volume (with_memory volume memory') r
      by (Ok done) none = absurd none
      by (Err fault) does =
          ((one_reaped old new volume is_open number (sub number (Contains-head number left)) memory' (Err fault) does).0, λ n has done. absurd (cc done))
  reaps_said (number ∷ left) sub old new volume is_open memory' result (inr (middle, between, one, rest)) =
      let v : Volume = with_memory volume between in
      let w : Volume = with_memory volume memory' in
      let first = one_reaped old middle volume is_open number (sub number (Contains-head number left)) between (Ok tt) one in
      let second = reaps_said left (λ n has. sub n (Contains-tail number left n has)) middle new v first.0.0 memory' result rest in (
        said_then old middle new volume v w first.0 second.0,
        λ n has done orphan.
            by n done orphan first.0.1 (files_in middle v n) refl second
            (elim (Contains-cons number left n has) [
              | inl same ↦
                  inl (ap (files_in middle v) (sym same) ∙ first.1 refl (subst (IsOrphan (Contains numbers) (files_in old volume)) (sym same) orphan))
              | inr later ↦ inr later
            ]),
      )
    where
      by : (n : ℕ) → result ≡ Ok tt → IsOrphan (Contains numbers) (files_in old volume) n →
          IsReaped (Contains numbers) (files_in old volume) (files_in middle (with_memory volume between)) →
          (o : Option Inode) → files_in middle (with_memory volume between) n ≡ o →
          Said middle new (with_memory volume between) (with_memory volume memory') × AllGone left middle new (with_memory volume between)
          (with_memory volume memory') result →
          (files_in middle (with_memory volume between) n ≡ None) ⊎ Contains left n → files_in new (with_memory volume memory') n ≡ None
      by n done orphan first None is second at =
          gone_stays (Contains numbers) (among_or_not numbers) (files_in middle (with_memory volume between)) (files_in new (with_memory volume memory'))
          second.0.1 n is
      by n done orphan first (Some inode) is second (inl none) = absurd (cc (sym is ∙ none))
      by n done orphan first (Some inode) is second (inr later) =
          second.1 n later done (orphan_then (Contains numbers) (among_or_not numbers) (files_in old volume) (files_in middle (with_memory volume between))
          first n orphan (λ none. absurd (cc (sym is ∙ none))))

  -- The call

  module _ (old new : StoreState) (volume volume' : Volume) (is_open : IsOpen T old volume) (result : Result (Unit {0}) Fault) where
    abbrev Answer : Type 0
    Answer = Said old new volume volume' × AllGone numbers old new volume volume' result

    call_said : ReapDoes T old new volume volume' numbers result → Answer
    call_said (inl (failed, same)) = subst (λ w. Said old new volume w × AllGone numbers old new volume w result) (sym same) (by result failed)
      where
        by : (r : Result (Unit {0}) Fault) → MatchResult r (λ done. ⊥) (λ fault. Empties T volume.tree volume.memory numbers old new (Err fault)) →
            Said old new volume volume × AllGone numbers old new volume volume r
        by (Ok done) none = absurd none
        by (Err fault) does = (empties_said numbers (λ n has. has) old new volume is_open (Err fault) does, λ n has done. absurd (cc done))
    call_said (inr (middle, memory, empties, reaps, same)) =
        let first = empties_said numbers (λ n has. has) old middle volume is_open (Ok tt) empties in
        let second = reaps_said numbers (λ n has. has) middle new volume first.0 memory result reaps in
        subst (λ w. Said old new volume w × AllGone numbers old new volume w result) (sym same) (
          said_then old middle new volume volume (with_memory volume memory) first second.0,
          λ n has done orphan. by n has done orphan first.1 second.0.1 second.1 (files_in middle volume n) refl,
        )
      where
        by : (n : ℕ) → Contains numbers n → result ≡ Ok tt → IsOrphan (Contains numbers) (files_in old volume) n →
            IsReaped (Contains numbers) (files_in old volume) (files_in middle volume) →
            IsReaped (Contains numbers) (files_in middle volume) (files_in new (with_memory volume memory)) →
            AllGone numbers middle new volume (with_memory volume memory) result →
            (o : Option Inode) → files_in middle volume n ≡ o → files_in new (with_memory volume memory) n ≡ None
        by n has done orphan first second gone None is = gone_stays (Contains numbers) (among_or_not numbers) (files_in middle volume)
            (files_in new (with_memory volume memory)) second n is
        by n has done orphan first second gone (Some inode) is =
            gone n has done (orphan_then (Contains numbers) (among_or_not numbers) (files_in old volume) (files_in middle volume) first n orphan
            (λ none. absurd (cc (sym is ∙ none))))

    pub reap_said : ReapDoes T old new volume volume' numbers result →
        IsOpen T new volume' × IsReaped (Contains numbers) (files_in old volume) (files_in new volume') × (volume'.tree ≡ volume.tree)
        × (volume'.memory.clock ≡ volume.memory.clock) × KeepsUnnamed old new volume volume'
    reap_said does = let s = (call_said does).0 in (s.0, s.1, s.2, s.3, s.5)

    pub reap_waits : ReapDoes T old new volume volume' numbers result → WaitLess volume.memory.orphans volume'.memory.orphans (files_in new volume')
    reap_waits does = (call_said does).0.4

    pub reap_done : ReapDoes T old new volume volume' numbers result → result ≡ Ok tt → files_in new volume' ≡ without_orphans numbers (files_in old volume)
    reap_done does done =
        let s = call_said does in
        reaped_without numbers (files_in old volume) (files_in new volume') s.0.1 (λ n orphan. s.1 n orphan.among done orphan)
