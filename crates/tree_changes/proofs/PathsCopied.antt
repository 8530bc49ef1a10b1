-- `cp -r`: what stands at a path is copied, and one path more.
use Rattle.std.proofs.Common.{◌≡◌, ◌⊎◌, ℕ, ◌+◌, ◌<◌, ◌≤◌, Bool, false, List, [], ◌∷◌, ◌++◌, Bor, Result, Ok, Err, drop, get_or, inl, inr, length, refl}
use Rattle.std.proofs.Common.{subst, sym, take}
use Rattle.std.specs.Prelude.{IsErr, MatchResult}
use Rattle.std.proofs.lemmas.List.{length-map, take_all}
use Rattle.xn_model.specs.Lives.{StoreState}
use Rattle.xn_model.specs.Types.{Types}
use Rattle.tree_lines.specs.Values.{Volume}
use Rattle.tree_lines.specs.Looks.{FindsPath, node_seen}
use Rattle.tree_lines.specs.Places.{IsFolder, IsOwnName, goal_folder, goal_name, goal_slash}
use Rattle.tree_lines.specs.Telling.{EndsLine, GoesOn, PassesOn}
use Rattle.tree_lines.specs.Trees.{IsNodeIn}
use Rattle.tree_lines.specs.declared.fault.Fault.{Fault as LineFault}
use Rattle.tree_lines.specs.declared.node.Node.{Node}
use Rattle.tree_lines.specs.declared.paths.Goal.{Goal}
use Rattle.tree_lines.specs.declared.reason.Reason.{Reason}
use Rattle.tree_lines.specs.declared.told.Told.{Told}
use Rattle.tree_changes.specs.CopiedFiles.{CopiesOver, LeavesOver}
use Rattle.tree_changes.specs.CopiedPaths.{CopiesAllAt, CopiesAlong, StopsAlong, IsSource, LeavesAllAt, StopsAllAt}
use Rattle.tree_changes.specs.CopiedPaths.CopiesAlong.{copies, leaves}
use Rattle.tree_changes.specs.CopiedTrees.{CopiesTree, LeavesTree, StopsTree}
use Rattle.tree_changes.specs.Moving.{HasGoal}
use Rattle.tree_changes.specs.declared.copies.Copying.{Copying}
use Rattle.tree_changes.proofs.Along.{one_more, parts, texts}
use Rattle.tree_changes.proofs.Going.{goes_to}
use Rattle.tree_changes.proofs.TreesCopied.{stay_so}

module _ (T : Types) (folder most : ℕ) (path : List ℕ) (told told' : Told) (copying copying' : Copying) (old new : StoreState) (volume volume' : Volume)
    (node : Node) (found : IsNodeIn old volume folder path false node) (own : List ℕ) (is_own : IsOwnName path own) (to : List ℕ) (several : Bool) (goal : Goal)
    (has : HasGoal old volume folder to several goal) (place : ℕ) (last : List ℕ) (slash : Bool) (folder_is : place ≡ goal_folder goal)
    (name_is : last ≡ goal_name goal own) (slash_is : slash ≡ goal_slash goal) where
  source : IsSource old volume folder to several path node place last slash
  source = (
    own,
    found,
    is_own,
    goes_to (FindsPath old volume) (λ (number : ℕ) (answer : Result Node Reason). answer ≡ node_seen old volume number) folder to several goal own
        place last slash folder_is name_is slash_is has,
  )

  pub other_copied : (result : Result (Unit {0}) LineFault) → (¬ IsFolder node) → told' ≡ told → copying'.is_recursive ≡ copying.is_recursive →
      MatchResult result (λ done. CopiesOver T folder most copying copying' node place last slash old new volume volume')
      (λ fault. LeavesOver T folder most copying copying' node place last slash old new volume volume') →
      MatchResult result (λ done. CopiesAllAt T folder most to several path told told' copying copying' old new volume volume')
      (λ fault. LeavesAllAt T folder most to several path told told' copying copying' old new volume volume'
      ⊎ (EndsLine fault × StopsAllAt T folder most to several path told copying old new volume volume'))
  other_copied (Ok done) other told_is recursive over = (node, place, last, slash, source, inl (other, over, told_is, recursive))
  other_copied (Err fault) other told_is recursive over = inl (inr (node, place, last, slash, source, inl (other, over, told_is, recursive)))

  pub folder_copied : (result : Result (Unit {0}) LineFault) → IsFolder node →
      MatchResult result (λ done. CopiesTree T folder most path node place last slash told told' copying copying' old new volume volume' (Ok tt))
      (λ fault. LeavesTree T folder most path node place last slash told told' copying copying' old new volume volume'
      ⊎ (EndsLine fault × StopsTree T folder most path node place last slash told copying old new volume volume')) →
      MatchResult result (λ done. CopiesAllAt T folder most to several path told told' copying copying' old new volume volume')
      (λ fault. LeavesAllAt T folder most to several path told told' copying copying' old new volume volume'
      ⊎ (EndsLine fault × StopsAllAt T folder most to several path told copying old new volume volume'))
  folder_copied (Ok done) is tree = (node, place, last, slash, source, inr (is, tree))
  folder_copied (Err fault) is (inl left) = inl (inr (node, place, last, slash, source, inr (is, left)))
  folder_copied (Err fault) is (inr stops) = inr (stops.0, (node, place, last, slash, source, is, stops.1))

pub all_along : (T : Types) (top most : ℕ) (goal : List ℕ) (several : Bool) (told0 : Told) (copying0 : Copying) (old : StoreState) (volume0 : Volume)
    (paths : List (Bor (List ℕ))) (place : ℕ) → length paths ≤ place → (told1 : Told) (copying1 : Copying) (new : StoreState) (volume' : Volume) →
    CopiesAlong T top most goal several told0 copying0 old volume0 (take place (texts paths)) told1 copying1 new volume' →
    CopiesAlong T top most goal several told0 copying0 old volume0 (texts paths) told1 copying1 new volume'
all_along T top most goal several told0 copying0 old volume0 paths place all told1 copying1 new volume' along =
    let long : length (texts paths) ≤ place = rw length-map all in
    subst (λ (l : List (List ℕ)). CopiesAlong T top most goal several told0 copying0 old volume0 l told1 copying1 new volume')
    (take_all place (texts paths) long) along

module _ (T : Types) (top most : ℕ) (goal : List ℕ) (several : Bool) (told0 : Told) (copying0 : Copying) (old : StoreState) (volume0 : Volume)
    (paths : List (Bor (List ℕ))) (place : ℕ) (default : Bor (List ℕ)) (within : place < length paths) (told1 : Told) (copying1 : Copying)
    (middle : StoreState) (between : Volume)
    (along : CopiesAlong T top most goal several told0 copying0 old volume0 (take place (texts paths)) told1 copying1 middle between) where
  ends_at : {E : Type 0} (told2 : Told) (new : StoreState) (volume' : Volume) (result : Result (Unit {0}) E) → IsErr result →
      (((told' : Told) × (copying' : Copying)
      × LeavesAllAt T top most goal several (get_or paths place default).now told1 told' copying1 copying' middle new between volume')
      ⊎ StopsAllAt T top most goal several (get_or paths place default).now told1 copying1 middle new between volume') →
      MatchResult result
      (λ done. (copying' : Copying) × CopiesAlong T top most goal several told0 copying0 old volume0 (texts paths) told2 copying' new volume')
      (λ fault. StopsAlong T top most goal several (texts paths) told0 copying0 old new volume0 volume')
  ends_at told2 new volume' (Ok done) err left = cc
  ends_at told2 new volume' (Err fault) err left = (
    take place (texts paths),
    (get_or paths place default).now,
    drop (place + 1) (texts paths),
    told1,
    copying1,
    middle,
    between,
    parts paths place default within,
    along,
    left,
  )

  -- the goal is not found
  pub no_goal : {E : Type 0} (result : Result (Unit {0}) E) → IsErr result → MatchResult result
      (λ done. (copying' : Copying) × CopiesAlong T top most goal several told0 copying0 old volume0 (texts paths) told1 copying' middle between)
      (λ fault. StopsAlong T top most goal several (texts paths) told0 copying0 old middle volume0 between)
  no_goal result err = ends_at told1 middle between result err (inl (told1, copying1, inl ((refl, refl), refl, refl)))

  module _ (types : Types) (folder size : ℕ) (types_is : types ≡ T) (folder_is : folder ≡ top) (size_is : size ≡ most) (told' told2 : Told)
      (copying' : Copying) (new : StoreState) (volume' : Volume) where
    one_after : (done answer : Result (Unit {0}) LineFault) → MatchResult done
        (λ made. CopiesAllAt T top most goal several (get_or paths place default).now told1 told' copying1 copying' middle new between volume')
        (λ fault. LeavesAllAt T top most goal several (get_or paths place default).now told1 told' copying1 copying' middle new between volume'
        ⊎ (EndsLine fault × StopsAllAt T top most goal several (get_or paths place default).now told1 copying1 middle new between volume')) →
        GoesOn told' told2 done answer → answer ≡ Ok tt → CopiesAlong T top most goal several told0 copying0 old volume0
        (take place (texts paths) ++ (get_or paths place default).now ∷ []) told2 copying' new volume'
    one_after (Ok made) answer does goes ok =
        subst (λ (t : Told). CopiesAlong T top most goal several told0 copying0 old volume0
        (take place (texts paths) ++ (get_or paths place default).now ∷ []) t copying' new volume') (sym goes.1)
        (copies told1 copying1 middle between along does)
    one_after (Err fault) answer (inl left) goes ok =
        let passed = subst (λ (r : Result (Unit {0}) LineFault). PassesOn told' told2 fault r) ok goes in
        leaves told1 told' copying1 middle between fault along left passed.0 passed.1
    one_after (Err fault) answer (inr stops) goes ok =
        let passed = subst (λ (r : Result (Unit {0}) LineFault). PassesOn told' told2 fault r) ok goes in absurd (passed.0 stops.0)

    left_there : (done answer : Result (Unit {0}) LineFault) (ends : LineFault) → MatchResult done
        (λ made. CopiesAllAt T top most goal several (get_or paths place default).now told1 told' copying1 copying' middle new between volume')
        (λ fault. LeavesAllAt T top most goal several (get_or paths place default).now told1 told' copying1 copying' middle new between volume'
        ⊎ (EndsLine fault × StopsAllAt T top most goal several (get_or paths place default).now told1 copying1 middle new between volume')) →
        GoesOn told' told2 done answer → answer ≡ Err ends →
        ((told2 : Told) × (copying2 : Copying)
        × LeavesAllAt T top most goal several (get_or paths place default).now told1 told2 copying1 copying2 middle new between volume')
        ⊎ StopsAllAt T top most goal several (get_or paths place default).now told1 copying1 middle new between volume'
    left_there (Ok made) answer ends does goes err = let ok = goes.0 in cc
    left_there (Err fault) answer ends (inl left) goes err = inl (told', copying', left)
    left_there (Err fault) answer ends (inr stops) goes err = inr stops.1

    module _ (done answer : Result (Unit {0}) LineFault) (does : MatchResult done
        (λ made. CopiesAllAt types folder size goal several (get_or paths place default).now told1 told' copying1 copying' middle new between volume')
        (λ fault. LeavesAllAt types folder size goal several (get_or paths place default).now told1 told' copying1 copying' middle new between volume'
        ⊎ (EndsLine fault × StopsAllAt types folder size goal several (get_or paths place default).now told1 copying1 middle new between volume')))
        (goes : GoesOn told' told2 done answer) where
      does_so : MatchResult done
          (λ made. CopiesAllAt T top most goal several (get_or paths place default).now told1 told' copying1 copying' middle new between volume')
          (λ fault. LeavesAllAt T top most goal several (get_or paths place default).now told1 told' copying1 copying' middle new between volume'
          ⊎ (EndsLine fault × StopsAllAt T top most goal several (get_or paths place default).now told1 copying1 middle new between volume'))
      does_so =
          stay_so (λ t n m. MatchResult done
          (λ made. CopiesAllAt t n m goal several (get_or paths place default).now told1 told' copying1 copying' middle new between volume')
          (λ fault. LeavesAllAt t n m goal several (get_or paths place default).now told1 told' copying1 copying' middle new between volume'
          ⊎ (EndsLine fault × StopsAllAt t n m goal several (get_or paths place default).now told1 copying1 middle new between volume')))
          T types top folder most size types_is folder_is size_is does

      pub one_along : answer ≡ Ok tt →
          CopiesAlong T top most goal several told0 copying0 old volume0 (take (place + 1) (texts paths)) told2 copying' new volume'
      one_along ok =
          subst (λ (l : List (List ℕ)). CopiesAlong T top most goal several told0 copying0 old volume0 l told2 copying' new volume')
          (sym (one_more paths place default within)) (one_after done answer does_so goes ok)

      pub along_ends : {E : Type 0} (ends : LineFault) (result : Result (Unit {0}) E) → answer ≡ Err ends → IsErr result → MatchResult result
          (λ done. (copying' : Copying) × CopiesAlong T top most goal several told0 copying0 old volume0 (texts paths) told2 copying' new volume')
          (λ fault. StopsAlong T top most goal several (texts paths) told0 copying0 old new volume0 volume')
      along_ends ends result err is = ends_at told2 new volume' result is (left_there done answer ends does_so goes err)
