-- Calls that never find too little space.
use Rattle.std.proofs.Common.{◌≡◌, ℕ, zero, suc, Bool, true, false, List, [], ◌∷◌, Option, None, Some, Result, Ok, Err, refl, sym, ◌∙◌, ap, inl, inr, subst}
use Rattle.std.proofs.lemmas.Option.{same_Some}
use Rattle.std.specs.Prelude.{nat_lt, if◌then◌else◌}
use Rattle.xn_model.specs.PendingIn.{pending_in_of}
use Rattle.xn_model.specs.Lives.{StoreState}
use Rattle.xn_model.specs.Types.{Types}
use Rattle.treefs_model.specs.declared.fault.Fault.{Fault}
use Rattle.treefs_model.specs.declared.fault.Fault.TheVariants.{Full, Kernel}
use Rattle.treefs_lookup.specs.declared.inodes.Found.{Found}
use Rattle.treefs_edits.specs.Plans.{Does}
use Rattle.treefs_edits.specs.declared.memory.Touched.{Touched}
use Rattle.treefs_edits.specs.declared.times.Times.{Times}
use Rattle.treefs_edits.specs.declared.tree.Tree.{Tree}
use Rattle.treefs_byte_plans.specs.Attributes.{attributes_plan}
use Rattle.treefs_byte_plans.specs.declared.attributes.AttributesPlan.{AttributesPlan}
use Rattle.treefs.specs.Trimming.{DoesIfAny}
use Rattle.treefs.specs.WritingTimes.{WritesTimes, plan_of_times, times_found, times_planned}
use Rattle.treefs.specs.declared.volume.Volume.{Volume}
use Rattle.treefs_laws.specs.Open.{IsOpen}
use Rattle.treefs_session.specs.Freeing.{MakesFreely, lacks_space}
use Rattle.treefs_session.specs.Tries.{MakesRoom, RoomAfter, Tries, TriesOnce, as_answer, most_tries, told_of_room}
use Rattle.treefs_session_laws.specs.Before.{IsAsBefore}
use Rattle.treefs_session_laws.proofs.Done.{IsDone, again, done_once}

abbrev pub HasSpace : Fault → Type 0
HasSpace fault = lacks_space fault ≡ false

same_Err : {A : Type 0} (f g : Fault) → ◌≡◌ {A = Result A Fault} (Err f) (Err g) → f ≡ g
same_Err f g e = cc e

-- Times

-- a plan that begins no block
does_space : (T : Types) (fs : ℕ) (p : AttributesPlan) (old new : StoreState) (fault : Fault) → Does T fs (attributes_plan p) old new (Err fault) →
    HasSpace fault
does_space T fs p old new fault (inl (inl memory)) = ap lacks_space memory.0
does_space T fs p old new fault (inl (inr begins)) = absurd (cc begins.0)
does_space T fs p old new fault (inr (begun, middle, begins, kept)) = ap lacks_space kept.2

-- what there is to write of one inode
one_space : (T : Types) (fs : ℕ) (planned : Result (Option AttributesPlan) Fault) (old new : StoreState) (fault : Fault) →
    ((f : Fault) → planned ≡ Err f → HasSpace f) → DoesIfAny T fs (plan_of_times planned) old new (Err fault) → HasSpace fault
one_space T fs (Ok None) old new fault small does = absurd (cc does.0)
one_space T fs (Ok (Some p)) old new fault small does = does_space T fs p old new fault does
one_space T fs (Err f) old new fault small does = subst HasSpace (sym (same_Err fault f does.0)) (small f refl)

planned_space : (state : StoreState) (times : Times) (found : Result Found Fault) (f : Fault) → times_found state times found ≡ Err f → HasSpace f
planned_space state times (Err g) f is = absurd (cc is)
planned_space state times (Ok x) f is = by (nat_lt (pending_in_of state x.block) 64) is
  where
    by : (t : Bool) → ◌≡◌ {A = Result (Option AttributesPlan) Fault}
        (if t then Ok (Some (record { block = x.block; mode = None; owner = None; times = times })) else Err Full) (Err f) → HasSpace f
    by true e = absurd (cc e)
    by false e = ap lacks_space (sym (same_Err Full f e))

times_space : (T : Types) (tree : Tree) (touched left : List Touched) (old new : StoreState) (fault : Fault) →
    WritesTimes T tree touched left old new (Err fault) →
    HasSpace fault
times_space T tree [] left old new fault writes = absurd (cc writes.0)
times_space T tree (touch ∷ rest) left old new fault (inl one) =
    one_space T tree.fs.number (times_planned old tree touch) old new fault (planned_space old touch.times _) one.0
times_space T tree (touch ∷ rest) left old new fault (inr (middle, one, more)) = times_space T tree rest left middle new fault more

-- Room

room_space : (T : Types) (old new : StoreState) (volume volume' : Volume) (fault : Fault) → MakesRoom T old new volume volume' (Err fault) → HasSpace fault
room_space T old new volume volume' fault (inl wave) = absurd (cc wave.0)
room_space T old new volume volume' fault (inr (inl (idle, written, inl none))) = absurd (cc none.1)
room_space T old new volume volume' fault (inr (inl (idle, written, inr some))) =
    times_space T volume.tree volume.memory.touched some.1.0 old new fault some.1.1
room_space T old new volume volume' fault (inr (inr (refusal, is, refuses, still))) =
    subst HasSpace (sym (same_Err fault (Kernel refusal) is)) refl

told_space : (T : Types) (old new : StoreState) (volume volume' : Volume) (room : Result Bool Fault) (fault : Fault) → MakesRoom T old new volume volume' room →
    told_of_room room ≡ Some fault → HasSpace fault
told_space T old new volume volume' (Ok true) fault makes is = absurd (cc is)
told_space T old new volume volume' (Ok false) fault makes is = ap lacks_space (sym (same_Some Full fault is))
told_space T old new volume volume' (Err g) fault makes is = subst HasSpace (same_Some g fault is) (room_space T old new volume volume' g makes)

module _ {A : Type 0} (T : Types) (Does' : StoreState → StoreState → Volume → Volume → Result A Fault → Type 0)
    (full : (before after : StoreState) (v v' : Volume) → IsOpen T before v → Does' before after v v' (Err Full) → IsAsBefore T before after v v')
    (space : (before after : StoreState) (v v' : Volume) (fault : Fault) → IsOpen T before v → Does' before after v v' (Err fault) → HasSpace fault) where
  told_once : (old new : StoreState) (volume volume' : Volume) (fault : Fault) → IsOpen T old volume →
      TriesOnce Does' T old new volume volume' (Some (Err fault)) →
      HasSpace fault
  told_once old new volume volume' fault is_open (inl done) = absurd (no_fault done.0 done.1)
    where
      no_fault : (answer : A) → Some (Err fault) ≡ Some (Ok answer) → ⊥
      no_fault answer is = cc is
  told_once old new volume volume' fault is_open (inr (f, middle, between, left, does, after, told)) = by left told after
    where
      by : (left : Option Fault) → ◌≡◌ {A = Option (Result A Fault)} (Some (Err fault)) (as_answer left) → RoomAfter T middle new between volume' f left →
          HasSpace fault
      by None is after = absurd (cc is)
      by (Some g) is (inl (other, same, kept, still)) =
          let here : fault ≡ g = same_Err {A = A} fault g (same_Some (Err fault) (Err g) is) in
          let first : g ≡ f = same_Some g f same in
          subst HasSpace (sym (here ∙ first)) (space old middle volume between f is_open does)
      by (Some g) is (inr (is_full, (made, makes, is_told))) =
          let here : fault ≡ g = same_Err {A = A} fault g (same_Some (Err fault) (Err g) is) in
          subst HasSpace (sym here) (told_space T middle new between volume' made g makes (sym is_told))

  tries_space : (left : ℕ) (old new : StoreState) (volume volume' : Volume) (fault : Fault) → IsOpen T old volume →
      Tries Does' T left old new volume volume' (Err fault) →
      HasSpace fault
  tries_space zero old new volume volume' fault is_open tries = ap lacks_space (same_Err {A = A} fault Full tries.0)
  tries_space (suc left) old new volume volume' fault is_open (inl last) = told_once old new volume volume' fault is_open last
  tries_space (suc left) old new volume volume' fault is_open (inr (middle, between, first, rest)) =
      tries_space left middle new between volume' fault (again T Does' full old middle volume between is_open first).is_open rest

  pub made_once : (held : List ℕ) (old new : StoreState) (volume volume' : Volume) (answer : A) → IsOpen T old volume →
      MakesFreely Does' T held old new volume volume' (Ok answer) → IsDone T Does' full old new volume volume' answer
  made_once held old new volume volume' answer is_open (inl first) = done_once T Does' full most_tries old new volume volume' answer is_open first.0
  made_once held old new volume volume' answer is_open (inr (fault, middle, between, tries, lacks, frees)) =
      absurd (cc (sym lacks ∙ tries_space most_tries old middle volume between fault is_open tries))
