-- `cp -r`: what is done of a name that is met and of a folder that is left, one step more, and the end.
use Rattle.std.proofs.Common.{◌≡◌, ◌∙◌, ◌⊎◌, ℕ, ◌+◌, ◌-◌, ◌^◌, Bool, true, false, List, [], ◌∷◌, ◌++◌, Option, None, Some, Result, Ok, Err, inl, inr, refl}
use Rattle.std.proofs.Common.{length, subst, sym, take}
use Rattle.std.specs.Prelude.{IsErrAnd, MatchResult, is_some}
use Rattle.xn_model.specs.Lives.{StoreState}
use Rattle.xn_model.specs.Types.{Types}
use Rattle.treefs_model.specs.declared.fault.Fault.{Fault}
use Rattle.tree_lines.specs.Values.{Volume}
use Rattle.tree_lines.specs.Answers.{Answers}
use Rattle.tree_lines.specs.Looks.{FindsPath}
use Rattle.tree_lines.specs.Places.{IsFolder}
use Rattle.tree_lines.specs.Telling.{EndsLine, GoesOn, PassesOn, Tells}
use Rattle.tree_lines.specs.Trees.{ComesIn}
use Rattle.tree_lines.specs.Walks.{IsUnseen, Met, Outcome, PassesOver, Progress, begun, without}
use Rattle.tree_lines.specs.Walks.Outcome.{Ends}
use Rattle.tree_lines.specs.declared.fault.Fault.{Fault as LineFault}
use Rattle.tree_lines.specs.declared.fault.Fault.TheVariants.{NoMemory}
use Rattle.tree_lines.specs.declared.node.Node.{Node}
use Rattle.tree_lines.specs.declared.told.Told.{Told}
use Rattle.tree_changes.specs.Below.{TellsIfAny}
use Rattle.tree_changes.specs.CopiedFiles.{CopiesOver, LeavesOver}
use Rattle.tree_changes.specs.CopiedFolders.{CopiesFolder, IsBelow, LeavesFolder}
use Rattle.tree_changes.specs.CopiedTrees.{CopiesBelow, CopiesFolderMet, CopiesLeft, CopiesMet, CopiesPart, CopiesThrough, CopiesTree, CopiesVisited}
use Rattle.tree_changes.specs.CopiedTrees.{CopiesWhole, GivesTime, GoesInto, IsDoneOrTold, LeavesTree, StopsLeft, StopsMet, StopsTree, StopsVisited, inner_of}
use Rattle.tree_changes.specs.CopiedTrees.CopiesThrough.{more, none}
use Rattle.tree_changes.specs.declared.copies.Copying.{Copying}
use Rattle.tree_changes.specs.declared.copying.Into.{Into}

-- what ends a line

pub for_memory : (fault : LineFault) → fault ≡ NoMemory → EndsLine fault
for_memory fault is = subst (λ (f : LineFault). EndsLine f) (sym is) tt

ends_of : (fault ends : LineFault) → (ends ≡ NoMemory) ⊎ (EndsLine fault × (ends ≡ fault)) → EndsLine ends
ends_of fault ends (inl is) = for_memory ends is
ends_of fault ends (inr both) = subst (λ (f : LineFault). EndsLine f) (sym both.1) both.0

pub passed_end : (told told' : Told) (fault ends : LineFault) (answer : Result (Unit {0}) LineFault) → PassesOn told told' fault answer →
    answer ≡ Err ends → EndsLine ends
passed_end told told' fault ends answer passes is =
    ends_of fault ends (subst (λ (r : Result (Unit {0}) LineFault). PassesOn told told' fault r) is passes)

pub no_memory_at : {A : Type 0} (Done : A → Type 0) (Left : Type 0) (result : Result A LineFault) → IsErrAnd result (λ fault. fault ≡ NoMemory) → Left →
    MatchResult result Done (λ fault. EndsLine fault × Left)
no_memory_at Done Left (Ok done) err left = absurd err
no_memory_at Done Left (Err fault) err left = (for_memory fault err, left)

pub fault_at : {A : Type 0} (Done : A → Type 0) (Left : LineFault → Type 0) (result : Result A LineFault) (fault : LineFault) →
    IsErrAnd result (λ other. other ≡ fault) → Left fault → MatchResult result Done Left
fault_at Done Left (Ok done) fault err left = absurd err
fault_at Done Left (Err other) fault err left = subst Left (sym err) left

-- what was done is told where it had a fault

module _ (told told1 told' : Told) (told_is : told1 ≡ told) where
  pub passed_on : (Left : Type 0) (fault : LineFault) (answer : Result (Unit {0}) LineFault) → Left → PassesOn told1 told' fault answer → answer ≡ Ok tt →
      (f : LineFault) × Left × (¬ EndsLine f) × Tells told told' f
  passed_on Left fault answer left passes is =
      let passed = subst (λ (r : Result (Unit {0}) LineFault). PassesOn told1 told' fault r) is passes in
      (fault, left, passed.0, subst (λ (t : Told). Tells t told' fault) told_is passed.1)

  pub gone_on : (Done Left : Type 0) (done answer : Result (Unit {0}) LineFault) → MatchResult done (λ made. Done) (λ fault. Left) →
      GoesOn told1 told' done answer → MatchResult answer (λ made. IsDoneOrTold Done Left told told') (λ fault. EndsLine fault × Left)
  gone_on Done Left (Ok made) answer does goes =
      subst (λ (r : Result (Unit {0}) LineFault). MatchResult r (λ made. IsDoneOrTold Done Left told told') (λ fault. EndsLine fault × Left)) (sym goes.0)
      (inl (does, goes.1 ∙ told_is))
  gone_on Done Left (Err fault) (Ok made) does goes = inr (fault, does, goes.0, subst (λ (t : Told). Tells t told' fault) told_is goes.1)
  gone_on Done Left (Err fault) (Err ends) does goes = (ends_of fault ends goes, does)

  pub answered_on : (Does : Result (Unit {0}) Fault → Type 0) (done answer : Result (Unit {0}) LineFault) → Answers Does done →
      GoesOn told1 told' done answer → MatchResult answer (λ made. TellsIfAny Does told told') (λ ends. EndsLine ends × ((fault : Fault) × Does (Err fault)))
  answered_on Does (Ok made) answer does goes =
      subst (λ (r : Result (Unit {0}) LineFault). MatchResult r (λ made. TellsIfAny Does told told')
      (λ ends. EndsLine ends × ((fault : Fault) × Does (Err fault)))) (sym goes.0) (inl (does, goes.1 ∙ told_is))
  answered_on Does (Err fault) (Ok made) does goes =
      inr (does.0, fault, does.1, goes.0, subst (λ (t : Told). Tells t told' fault) told_is goes.1)
  answered_on Does (Err fault) (Err ends) does goes = (ends_of fault ends goes, does)

-- a folder is gone into

pub passed_over : (into : Option Into) (far far' : Progress) → is_some into ≡ false → PassesOver far far' → GoesInto into far far'
passed_over None far far' is passes = passes
passed_over (Some into) far far' is passes = cc

pub stayed_in : (into : Option Into) (far far' : Progress) → is_some into ≡ true → far' ≡ far → GoesInto into far far'
stayed_in None far far' is same = cc
stayed_in (Some into) far far' is same = same

-- a name that is met

module _ (T : Types) (top most : ℕ) (met : Met) (far far' : Progress) (told told' : Told) (folders folders' : List (Option Into))
    (copying copying' : Copying) (old new : StoreState) (volume volume' : Volume) where
  pub none_met : inner_of folders ≡ None → new ≡ old → volume' ≡ volume → far' ≡ far → told' ≡ told → folders' ≡ folders → copying' ≡ copying →
      CopiesMet T top most met (inner_of folders) far far' told told' folders folders' copying copying' old new volume volume'
  none_met is state_is volume_is far_is told_is folders_is copying_is =
      subst (λ (o : Option Into). CopiesMet T top most met o far far' told told' folders folders' copying copying' old new volume volume') (sym is)
      ((state_is, volume_is), far_is, told_is, folders_is, copying_is)

  module _ (inner : Into) (is : inner_of folders ≡ Some inner) where
    met_so : CopiesMet T top most met (Some inner) far far' told told' folders folders' copying copying' old new volume volume' →
        CopiesMet T top most met (inner_of folders) far far' told told' folders folders' copying copying' old new volume volume'
    met_so h =
        subst (λ (o : Option Into). CopiesMet T top most met o far far' told told' folders folders' copying copying' old new volume volume') (sym is) h

    stops_so : StopsMet T top most met (Some inner) copying old new volume volume' → StopsMet T top most met (inner_of folders) copying old new volume volume'
    stops_so h = subst (λ (o : Option Into). StopsMet T top most met o copying old new volume volume') (sym is) h

    other_answered : (answer : Result (Unit {0}) LineFault) → (¬ IsFolder met.node) → far' ≡ far → folders' ≡ folders →
        copying'.is_recursive ≡ copying.is_recursive → MatchResult answer
        (λ made. IsDoneOrTold (CopiesOver T top most copying copying' met.node inner.number met.name false old new volume volume')
        (LeavesOver T top most copying copying' met.node inner.number met.name false old new volume volume') told told')
        (λ fault. EndsLine fault × LeavesOver T top most copying copying' met.node inner.number met.name false old new volume volume') →
        MatchResult answer
        (λ made. CopiesMet T top most met (inner_of folders) far far' told told' folders folders' copying copying' old new volume volume')
        (λ fault. EndsLine fault × StopsMet T top most met (inner_of folders) copying old new volume volume')
    other_answered (Ok made) other far_is folders_is recursive does = met_so (inl (other, (does, recursive), far_is, folders_is))
    other_answered (Err fault) other far_is folders_is recursive does = (does.0, stops_so (inl (other, copying', does.1)))

    pub other_met : (told1 : Told) → told1 ≡ told → (done answer : Result (Unit {0}) LineFault) → (¬ IsFolder met.node) → far' ≡ far → folders' ≡ folders →
        copying'.is_recursive ≡ copying.is_recursive → MatchResult done
        (λ made. CopiesOver T top most copying copying' met.node inner.number met.name false old new volume volume')
        (λ fault. LeavesOver T top most copying copying' met.node inner.number met.name false old new volume volume') → GoesOn told1 told' done answer →
        MatchResult answer
        (λ made. CopiesMet T top most met (inner_of folders) far far' told told' folders folders' copying copying' old new volume volume')
        (λ fault. EndsLine fault × StopsMet T top most met (inner_of folders) copying old new volume volume')
    other_met told1 told_is done answer other far_is folders_is recursive does goes =
        other_answered answer other far_is folders_is recursive
        (gone_on told told1 told' told_is (CopiesOver T top most copying copying' met.node inner.number met.name false old new volume volume')
        (LeavesOver T top most copying copying' met.node inner.number met.name false old new volume volume') done answer does goes)

    pub folder_met : IsFolder met.node → (into : Option Into) →
        CopiesFolderMet T top met.node inner.number met.name false into told told' old new volume volume' → GoesInto into far far' →
        folders' ≡ folders ++ into ∷ [] → copying' ≡ copying →
        CopiesMet T top most met (inner_of folders) far far' told told' folders folders' copying copying' old new volume volume'
    folder_met folder into made goes folders_is copying_is = met_so (inr (folder, into, made, goes, folders_is, copying_is))

    pub folder_stops : IsFolder met.node → LeavesFolder T top met.node inner.number met.name false old new volume volume' →
        StopsMet T top most met (inner_of folders) copying old new volume volume'
    folder_stops folder left = stops_so (inr (folder, inl left))

    pub not_gone_into : IsFolder met.node → (into : Option Into) →
        CopiesFolderMet T top met.node inner.number met.name false into told told' old new volume volume' →
        StopsMet T top most met (inner_of folders) copying old new volume volume'
    not_gone_into folder None made = stops_so (inr (folder, inl made.1))
    not_gone_into folder (Some into) made = stops_so (inr (folder, inr (into, made.0)))

  -- a folder that is left

  left_answered : (answer : Result (Unit {0}) LineFault) → far' ≡ far → folders' ≡ take (length folders - 1) folders → copying' ≡ copying →
      MatchResult answer (λ made. TellsIfAny (GivesTime T top met.node (inner_of folders) old new volume volume') told told')
      (λ ends. EndsLine ends × StopsLeft T top met folders old new volume volume') →
      MatchResult answer (λ made. CopiesLeft T top met far far' told told' folders folders' copying copying' old new volume volume')
      (λ ends. EndsLine ends × StopsLeft T top met folders old new volume volume')
  left_answered (Ok made) far_is folders_is copying_is does = (does, far_is, folders_is, copying_is)
  left_answered (Err fault) far_is folders_is copying_is does = does

  pub folder_left : (told1 : Told) → told1 ≡ told → (into : Option Into) → into ≡ inner_of folders → (done answer : Result (Unit {0}) LineFault) →
      far' ≡ far → folders' ≡ take (length folders - 1) folders → copying' ≡ copying →
      Answers (GivesTime T top met.node into old new volume volume') done → GoesOn told1 told' done answer →
      MatchResult answer (λ made. CopiesLeft T top met far far' told told' folders folders' copying copying' old new volume volume')
      (λ ends. EndsLine ends × StopsLeft T top met folders old new volume volume')
  folder_left told1 told_is into into_is done answer far_is folders_is copying_is does goes =
      left_answered answer far_is folders_is copying_is
      (answered_on told told1 told' told_is (GivesTime T top met.node (inner_of folders) old new volume volume') done answer
      (subst (λ (o : Option Into). Answers (GivesTime T top met.node o old new volume volume') done) into_is does) goes)

-- all below a folder

-- what is so of the types, the folder and the number that stay is so of the first ones
pub stay_so : (P : Types → ℕ → ℕ → Type 0) (T types : Types) (top folder most size : ℕ) → types ≡ T → folder ≡ top → size ≡ most → P types folder size →
    P T top most
stay_so P T types top folder most size types_is folder_is size_is h =
    subst (λ (n : ℕ). P T top n) size_is (subst (λ (n : ℕ). P T n size) folder_is (subst (λ (t : Types). P t folder size) types_is h))

module _ (T : Types) (top most : ℕ) (path : List ℕ) (number : ℕ) (into : Into) (told0 : Told) (copying0 : Copying) (old : StoreState) (volume0 : Volume) where
  pub not_begun : CopiesPart T top most path number into told0 copying0 old old volume0 volume0
  not_begun = (0, without (begun path number) into.number, told0, Some into ∷ [], copying0, old, volume0, none, inl (refl, refl))

  pub none_through : (far : Progress) (folders : List (Option Into)) → far ≡ without (begun path number) into.number → folders ≡ Some into ∷ [] →
      CopiesThrough T top most (without (begun path number) into.number) told0 (Some into ∷ []) copying0 old volume0 0 far told0 folders copying0 old volume0
  none_through far folders far_is folders_is =
      subst (λ (f : Progress). CopiesThrough T top most (without (begun path number) into.number) told0 (Some into ∷ []) copying0 old volume0 0 f told0 folders
      copying0 old volume0) (sym far_is)
      (subst (λ (l : List (Option Into)). CopiesThrough T top most (without (begun path number) into.number) told0 (Some into ∷ []) copying0 old volume0 0
      (without (begun path number) into.number) told0 l copying0 old volume0) (sym folders_is) none)

  module _ (steps : ℕ) (far : Progress) (told : Told) (folders : List (Option Into)) (copying : Copying) (state : StoreState) (volume : Volume)
      (through : CopiesThrough T top most (without (begun path number) into.number) told0 (Some into ∷ []) copying0 old volume0
      steps far told folders copying state volume) where
    pub not_further : CopiesPart T top most path number into told0 copying0 old state volume0 volume
    not_further = (steps, far, told, folders, copying, state, volume, through, inl (refl, refl))

    pub ended : (far' : Progress) (told' : Told) → ComesIn state volume IsUnseen far told far' told' Ends →
        CopiesWhole T top most path number into told0 told' copying0 copying old state volume0 volume
    ended far' told' comes = (steps, far, told, folders, through, inl (far', comes))

    pub passed : steps ≡ 2 ^ 64 - 1 → CopiesWhole T top most path number into told0 told copying0 copying old state volume0 volume
    passed all = (steps, far, told, folders, through, inr (all, refl))

    module _ (types : Types) (folder size : ℕ) (types_is : types ≡ T) (folder_is : folder ≡ top) (size_is : size ≡ most) (far1 : Progress) (told1 : Told)
        (outcome : Outcome) (comes : ComesIn state volume IsUnseen far told far1 told1 outcome) (new : StoreState) (volume' : Volume) where
      pub one_through : (far' : Progress) (told' : Told) (folders' : List (Option Into)) (copying' : Copying) →
          CopiesVisited types folder size outcome far1 far' told1 told' folders folders' copying copying' state new volume volume' →
          CopiesThrough T top most (without (begun path number) into.number) told0 (Some into ∷ []) copying0 old volume0
          (steps + 1) far' told' folders' copying' new volume'
      one_through far' told' folders' copying' does =
          more far far1 told told1 folders copying state volume outcome through comes
          (stay_so (λ t n m. CopiesVisited t n m outcome far1 far' told1 told' folders folders' copying copying' state new volume volume') T types top folder
          most size types_is folder_is size_is does)

      pub part_through : StopsVisited types folder size outcome folders copying state new volume volume' →
          CopiesPart T top most path number into told0 copying0 old new volume0 volume'
      part_through stops = (
        steps,
        far,
        told,
        folders,
        copying,
        state,
        volume,
        through,
        inr (
          far1,
          told1,
          outcome,
          comes,
          stay_so (λ t n m. StopsVisited t n m outcome folders copying state new volume volume') T types top folder most size types_is folder_is size_is
              stops,
        ),
      )

-- and then its time

module _ (T types : Types) (top folder : ℕ) (types_is : types ≡ T) (folder_is : folder ≡ top) (most : ℕ) (path : List ℕ) (node : Node) (into : Into)
    (told told1 told' : Told) (told_is : told' ≡ told1) (copying copying' : Copying) (old middle new : StoreState) (volume between volume' : Volume)
    (whole : CopiesWhole T top most path node.number into told told1 copying copying' old middle volume between) where
  time_so : (result : Result (Unit {0}) Fault) → GivesTime types folder node (Some into) middle new between volume' result →
      CopiesBelow T top most path node into told told' copying copying' old new volume volume' result
  time_so result time = (
    middle,
    between,
    subst (λ (t : Told). CopiesWhole T top most path node.number into told t copying copying' old middle volume between) (sym told_is) whole,
    subst (λ (n : ℕ). GivesTime T n node (Some into) middle new between volume' result) folder_is
        (subst (λ (t : Types). GivesTime t folder node (Some into) middle new between volume' result) types_is time),
  )

  pub timed : (result : Result (Unit {0}) LineFault) → Answers (GivesTime types folder node (Some into) middle new between volume') result →
      MatchResult result (λ done. CopiesBelow T top most path node into told told' copying copying' old new volume volume' (Ok tt))
      (λ ends. ((fault : Fault) × CopiesBelow T top most path node into told told' copying copying' old new volume volume' (Err fault))
      ⊎ (EndsLine ends × CopiesPart T top most path node.number into told copying old new volume volume'))
  timed (Ok done) does = time_so (Ok tt) does
  timed (Err ends) does = inl (does.0, time_so (Err does.0) does.1)

-- a folder with all below it

module _ (T types : Types) (top folder most size : ℕ) (types_is : types ≡ T) (folder_is : folder ≡ top) (size_is : size ≡ most) (path : List ℕ) (node : Node)
    (directory : ℕ) (name : List ℕ) (slash : Bool) (into : Into) (told told1 told' : Told) (told_is : told1 ≡ told) (copying copying' : Copying)
    (old middle new : StoreState) (volume between volume' : Volume) (outside : IsBelow (FindsPath old volume) directory node.number false)
    (made : CopiesFolder T top node directory name slash old middle volume between into.number into.is_new) where
  tree_so : (result : Result (Unit {0}) Fault) →
      CopiesBelow types folder size path node into told1 told' copying copying' middle new between volume' result →
      CopiesTree T top most path node directory name slash told told' copying copying' old new volume volume' result
  tree_so result below = (
    into,
    middle,
    between,
    outside,
    made,
    subst (λ (t : Told). CopiesBelow T top most path node into t told' copying copying' middle new between volume' result) told_is
        (stay_so (λ t n m. CopiesBelow t n m path node into told1 told' copying copying' middle new between volume' result) T types top folder most size
        types_is folder_is size_is below),
  )

  tree_stops : CopiesPart types folder size path node.number into told1 copying middle new between volume' →
      StopsTree T top most path node directory name slash told copying old new volume volume'
  tree_stops part = (
    into,
    middle,
    between,
    outside,
    made,
    subst (λ (t : Told). CopiesPart T top most path node.number into t copying middle new between volume') told_is
        (stay_so (λ t n m. CopiesPart t n m path node.number into told1 copying middle new between volume') T types top folder most size types_is folder_is
        size_is part),
  )

  pub tree_copied : (result : Result (Unit {0}) LineFault) →
      MatchResult result (λ done. CopiesBelow types folder size path node into told1 told' copying copying' middle new between volume' (Ok tt))
      (λ ends. ((fault : Fault) × CopiesBelow types folder size path node into told1 told' copying copying' middle new between volume' (Err fault))
      ⊎ (EndsLine ends × CopiesPart types folder size path node.number into told1 copying middle new between volume')) →
      MatchResult result (λ done. CopiesTree T top most path node directory name slash told told' copying copying' old new volume volume' (Ok tt))
      (λ ends. LeavesTree T top most path node directory name slash told told' copying copying' old new volume volume'
      ⊎ (EndsLine ends × StopsTree T top most path node directory name slash told copying old new volume volume'))
  tree_copied (Ok done) below = tree_so (Ok tt) below
  tree_copied (Err ends) (inl below) = inl (inr (below.0, tree_so (Err below.0) below.1))
  tree_copied (Err ends) (inr part) = inr (part.0, tree_stops part.1)
