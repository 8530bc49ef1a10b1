-- What a session keeps in memory of inodes that are left when others are freed.
use Rattle.std.proofs.Common.{◌≡◌, ◌≢◌, ℕ, Bool, true, false, cond, not, List, [], ◌∷◌, refl, sym, ◌∙◌, ap, inl, inr}
use Rattle.std.specs.Prelude.{All, slice_index_or}
use Rattle.std.proofs.lemmas.Bool.{cases_eq, not-true}
use Rattle.std.proofs.lemmas.List.Elements.{All-filter, filter_passes}
use Rattle.treefs.specs.Reaping.{freed_memory, is_freed, left_touched}
use Rattle.treefs.specs.declared.reap_plan.Freed.{Freed}
use Rattle.treefs_edits.specs.Memories.{Memory, touched_times}
use Rattle.treefs_edits.specs.declared.memory.Touched.{Touched}
use Rattle.treefs_edits.specs.declared.times.Times.{Times}
use Rattle.treefs_laws.specs.Seen.{AreTimes, AreTouchedOnce, IsSession}
use Rattle.treefs_laws.proofs.Touching.{read_behind, read_here}

module _ (freed : List Freed) where
  abbrev stays : Touched → Bool
  stays touch = not (is_freed freed touch.number)

  -- the times of one that is left
  pub times_left : (m : ℕ) → is_freed freed m ≡ false → (times : Times) (touched : List Touched) →
      touched_times (left_touched touched freed) m times ≡ touched_times touched m times
  times_left m left times [] = refl
  times_left m left times (x ∷ xs) = by (stays x) refl (times_left m left times xs)
    where
      by : (t : Bool) → stays x ≡ t → touched_times (left_touched xs freed) m times ≡ touched_times xs m times →
          touched_times (cond (stays x) (x ∷ left_touched xs freed) (left_touched xs freed)) m times ≡ touched_times (x ∷ xs) m times
      by true e rest = ap (λ t. touched_times (cond t (x ∷ left_touched xs freed) (left_touched xs freed)) m times) e ∙ elim (cases_eq x.number m) [
        | inl same ↦ read_here x (left_touched xs freed) m times same ∙ sym (read_here x xs m times same)
        | inr ne ↦ read_behind x (left_touched xs freed) m times ne ∙ (rest ∙ sym (read_behind x xs m times ne))
      ]
      by false e rest =
          ap (λ t. touched_times (cond t (x ∷ left_touched xs freed) (left_touched xs freed)) m times) e
          ∙ (rest ∙ sym (read_behind x xs m times (λ same. absurd (cc (sym e ∙ ap not (ap (is_freed freed) same ∙ left))))))

  once_left : (touched : List Touched) → AreTouchedOnce touched → AreTouchedOnce (left_touched touched freed)
  once_left [] once = tt
  once_left (x ∷ xs) once = by (stays x) (once_left xs once.1)
    where
      by : (t : Bool) → AreTouchedOnce (left_touched xs freed) → AreTouchedOnce (cond t (x ∷ left_touched xs freed) (left_touched xs freed))
      by true rest = (All-filter stays (λ other. other.number ≢ x.number) xs once.0, rest)
      by false rest = rest

  pub session_left : (memory : Memory) → IsSession memory → IsSession (freed_memory memory freed)
  session_left memory session = record {
    once = once_left memory.touched session.once;
    clock = session.clock;
    times = All-filter stays (λ touch. AreTimes touch.times) memory.touched session.times;
  }

  -- what holds of each that was touched and is left
  pub all_left : (P Q : Touched → Type 0) → ((x : Touched) → is_freed freed x.number ≡ false → P x → Q x) → (touched : List Touched) → All P touched →
      All Q (left_touched touched freed)
  all_left P Q then touched all =
      let has = All-filter stays P touched all in
      let passes = filter_passes stays touched in
      λ k d lt. then (at k d) (not-true (is_freed freed (at k d).number) (passes k d lt)) (has k d lt)
    where
      at : ℕ → Touched → Touched
      at k d = slice_index_or (left_touched touched freed) k d
