-- A walk: its innermost folder, the next name of it, and steps one after another.
use Rattle.std.proofs.Common.{◌≡◌, ◌∙◌, ◌⊎◌, ℕ, ◌+◌, ◌^◌, ◌<◌, ◌≤◌}
use Rattle.std.proofs.Common.{Bool, true, false, cond, List, [], ◌∷◌, ◌++◌, Option, None, Some, Result, length, take, set, map, reverse, get_or}
use Rattle.std.proofs.Common.{ap, arith, inl, inr, refl, subst, sym, length-append, length-set}
use Rattle.std.proofs.lemmas.List.{append-nil, take_all, take_more, take_more_set, reverse-append, reverse-reverse, length-reverse, length-map}
use Rattle.std.specs.Global.{Vec}
use Rattle.tree_lines.specs.Walks.{ComesTo, Entered, IsUnmet, IsUnseen, LeavesInner, Met, MeetsName}
use Rattle.tree_lines.specs.Walks.{NamesLeft, NextName, Outcome, PassesOver, Progress, Reads, Steps, StepsAlong}
use Rattle.tree_lines.specs.Walks.{at_names, entered_of, entry_of, left_outcome, left_to, met_outcome}
use Rattle.tree_lines.specs.Walks.Outcome.{Ends, Leaves, Meets, Unseen}
use Rattle.tree_lines.specs.Walks.StepsAlong.{more, none}
use Rattle.tree_lines.specs.declared.node.Named.{Named}
use Rattle.tree_lines.specs.declared.node.Node.{Node}
use Rattle.tree_lines.specs.declared.reason.Reason.{Reason}
use Rattle.tree_lines.specs.declared.told.Told.{Told}
use Rattle.tree_lines.specs.declared.walking.Frame.{Frame}

-- the last item of a list

snoc_same : {A : Type 0} (xs ys : List A) (x y : A) → xs ++ x ∷ [] ≡ ys ++ y ∷ [] → (xs ≡ ys) × (x ≡ y)
snoc_same xs ys x y h =
    let turned : x ∷ reverse xs ≡ y ∷ reverse ys = sym (reverse-append xs (x ∷ [])) ∙ (ap reverse h ∙ reverse-append ys (y ∷ [])) in
    let rest : reverse xs ≡ reverse ys = cc in
    (sym (reverse-reverse xs) ∙ (ap reverse rest ∙ reverse-reverse ys), cc)

map_snoc : {A B : Type 0} (f : A → B) (xs : List A) (x : A) → map f (xs ++ x ∷ []) ≡ map f xs ++ f x ∷ []
map_snoc f [] x = refl
map_snoc f (y ∷ xs) x = ap (λ (l : List _). f y ∷ l) (map_snoc f xs x)

snoc_full : {A : Type 0} (xs : List A) (x : A) → [] ≡ xs ++ x ∷ [] → ⊥
snoc_full [] x h = cc
snoc_full (y ∷ xs) x h = cc

-- frame: the last one of some frames; after: another one in its place
module _ (frames : List Frame) (n : ℕ) (frame after : Frame) (long : length frames ≡ n + 1) (last : frame ≡ get_or frames n frame) where
  abbrev pub outside : List Entered
  outside = map entered_of (take n frames)

  pub innermost : map entered_of frames ≡ outside ++ entered_of frame ∷ []
  innermost =
      let within : n < length frames = omega arith in
      let all = sym (take_all (n + 1) frames (omega arith)) in
      let parts = take_more frames n frame within ∙ ap (λ (f : Frame). take n frames ++ f ∷ []) (sym last) in
      ap (map entered_of) (all ∙ parts) ∙ map_snoc entered_of (take n frames) frame

  pub changed : map entered_of (set frames n after) ≡ outside ++ entered_of after ∷ []
  changed =
      let within : n < length frames = omega arith in
      let long_too : length (set frames n after) ≤ n + 1 = omega (arith, length-set frames n after) in
      let all = sym (take_all (n + 1) (set frames n after) long_too) in
      ap (map entered_of) (all ∙ take_more_set frames n after within) ∙ map_snoc entered_of (take n frames) after

-- the next name

pub turned : (names rest : List Named) (named : Named) → names ≡ rest ++ named ∷ [] →
    map entry_of (reverse names) ≡ entry_of named ∷ map entry_of (reverse rest)
turned names rest named is = ap (λ (l : List Named). map entry_of (reverse l)) is ∙ ap (map entry_of) (reverse-append rest (named ∷ []))

-- read: a frame once its names were read, where that wasn't done before
pub record HasRead (Lists : ℕ → Result (List (List ℕ × ℕ)) Reason → Type 0) (frame read : Frame) (told told' : Told) : Type 0 where
  pub folder_is : read.folder ≡ frame.folder
  pub step_is : read.step ≡ frame.step
  pub length_is : read.length ≡ frame.length
  pub is_read : read.is_read ≡ true
  pub left : NamesLeft Lists (entered_of frame) told told' (map entry_of (reverse read.waiting.items))

unread_names : (frame : Frame) → frame.is_read ≡ false → (entered_of frame).names ≡ None
unread_names frame unread = rw unread refl

read_names : (frame : Frame) → frame.is_read ≡ true → (entered_of frame).names ≡ Some (map entry_of (reverse frame.waiting.items))
read_names frame read = rw read refl

pub was_read : (Lists : ℕ → Result (List (List ℕ × ℕ)) Reason → Type 0) (frame read : Frame) (told told' : Told) → read ≡ frame → told' ≡ told →
    frame.is_read ≡ true → HasRead Lists frame read told told'
was_read Lists frame read told told' same told_is is =
    record {
      folder_is = ap (λ (f : Frame). f.folder) same;
      step_is = ap (λ (f : Frame). f.step) same;
      length_is = ap (λ (f : Frame). f.length) same;
      is_read = ap (λ (f : Frame). f.is_read) same ∙ is;
      left = inl (read_names frame is ∙ ap (λ (f : Frame). Some (map entry_of (reverse f.waiting.items))) (sym same), told_is);
    }

pub is_now_read : (Lists : ℕ → Result (List (List ℕ × ℕ)) Reason → Type 0) (frame read : Frame) (told told' told1 : Told) (waiting : Vec Named) →
    read ≡ record frame { is_read = true; waiting = waiting } → told' ≡ told1 → frame.is_read ≡ false →
    Reads Lists frame.folder told told1 (map entry_of (reverse waiting.items)) → HasRead Lists frame read told told'
is_now_read Lists frame read told told' told1 waiting same told_is unread reads =
    let names_are = ap (λ (f : Frame). map entry_of (reverse f.waiting.items)) (sym same) in
    let reads_so = subst (λ (ns : List (List ℕ × ℕ)). Reads Lists frame.folder told told' ns) names_are
    (subst (λ (t : Told). Reads Lists frame.folder told t (map entry_of (reverse waiting.items))) (sym told_is) reads) in
    record {
      folder_is = ap (λ (f : Frame). f.folder) same;
      step_is = ap (λ (f : Frame). f.step) same;
      length_is = ap (λ (f : Frame). f.length) same;
      is_read = ap (λ (f : Frame). f.is_read) same;
      left = inr (unread_names frame unread, reads_so);
    }

pub empty : {A : Type 0} (xs : List A) → length xs ≡ 0 → xs ≡ []
empty [] zero = refl
empty (x ∷ xs) zero = absurd (omega arith)

-- rest: what is left of the names that were read
module _ (Lists : ℕ → Result (List (List ℕ × ℕ)) Reason → Type 0) (frames : List Frame) (n : ℕ) (frame read : Frame) (rest : Vec Named)
    (long : length frames ≡ n + 1) (last : frame ≡ get_or frames n frame) (path path' seen : List ℕ) (path_is : path' ≡ take frame.length path)
    (told told' : Told) (has : HasRead Lists frame read told told') where
  with_rest : entered_of (record read { waiting = rest }) ≡ record (entered_of frame) { names = Some (map entry_of (reverse rest.items)) }
  with_rest = rw (has.folder_is, has.step_is, has.length_is, has.is_read) refl

  far_is : record { folders = map entered_of (set frames n (record read { waiting = rest })); path = path'; seen = seen }
      ≡ at_names (record { folders = map entered_of frames; path = path; seen = seen }) (outside frames n frame frame long last) (entered_of frame)
      (map entry_of (reverse rest.items))
  far_is =
      let outer = outside frames n frame frame long last in
      let folders_are = changed frames n frame (record read { waiting = rest }) long last ∙ ap (λ (e : Entered). outer ++ e ∷ []) with_rest in
      ap (λ (l : List Entered). let far : Progress = record { folders = l; path = path'; seen = seen } in far) folders_are
      ∙ ap (λ (p : List ℕ). let far : Progress = record {
        folders = outer ++ record (entered_of frame) { names = Some (map entry_of (reverse rest.items)) } ∷ [];
        path = p;
        seen = seen;
      } in far) path_is

  pub next_named : (named : Named) → read.waiting.items ≡ rest.items ++ named ∷ [] →
      NextName Lists (record { folders = map entered_of frames; path = path; seen = seen }) told
      (record { folders = map entered_of (set frames n (record read { waiting = rest })); path = path'; seen = seen }) told'
      (Some (read.folder, entry_of named))
  next_named named popped =
      let left = subst (λ (ns : List (List ℕ × ℕ)). NamesLeft Lists (entered_of frame) told told' ns)
      (turned read.waiting.items rest.items named popped) has.left in (
        outside frames n frame frame long last,
        entered_of frame,
        map entry_of (reverse rest.items),
        innermost frames n frame frame long last,
        left,
        far_is,
        has.folder_is,
      )

  pub none_named : length read.waiting.items ≡ 0 → length rest.items ≡ 0 →
      NextName Lists (record { folders = map entered_of frames; path = path; seen = seen }) told
      (record { folders = map entered_of (set frames n (record read { waiting = rest })); path = path'; seen = seen }) told' None
  none_named all left_out =
      let left = subst (λ (ns : List Named). NamesLeft Lists (entered_of frame) told told' (map entry_of (reverse ns)))
      (empty read.waiting.items all) has.left in
      let far = far_is ∙ ap (λ (ns : List Named). at_names (record { folders = map entered_of frames; path = path; seen = seen })
      (outside frames n frame frame long last) (entered_of frame) (map entry_of (reverse ns))) (empty rest.items left_out) in
      inr (outside frames n frame frame long last, entered_of frame, innermost frames n frame frame long last, left, far)

pub emptied : (frames : List Frame) (n : ℕ) (frame : Frame) (waiting : Vec Named) (path seen : List ℕ) → length frames ≡ n + 1 →
    frame ≡ get_or frames n frame → waiting.items ≡ [] → PassesOver (record { folders = map entered_of frames; path = path; seen = seen })
    (record { folders = map entered_of (set frames n (record frame { is_read = true; waiting = waiting })); path = path; seen = seen })
emptied frames n frame waiting path seen long last gone =
    let outer = outside frames n frame frame long last in
    let folders_are = changed frames n frame (record frame { is_read = true; waiting = waiting }) long last
    ∙ ap (λ (ns : List Named). outer ++ record (entered_of frame) { names = Some (map entry_of (reverse ns)) } ∷ []) gone in
    inr (
      outer,
      entered_of frame,
      innermost frames n frame frame long last,
      ap (λ (l : List Entered). let far : Progress = record { folders = l; path = path; seen = seen } in far) folders_are,
    )

-- steps

module _ (Lists : ℕ → Result (List (List ℕ × ℕ)) Reason → Type 0) (Shows : ℕ → Result Node Reason → Type 0) where
  pub name_passed : (far between far' : Progress) (told middle told' : Told) (folder : ℕ) (entry : List ℕ × ℕ) (met : Option Met) →
      NextName Lists far told between middle (Some (folder, entry)) → MeetsName Shows between middle far' told' folder entry met →
      Steps Lists Shows far told far' told' (met_outcome met)
  name_passed far between far' told middle told' folder entry met next meets =
      let (outer, inner, names, innermost, left, far_is, folder_is) = next in
      let meets_there = subst (λ (f : Progress). MeetsName Shows f middle far' told' inner.folder entry met) far_is
      (subst (λ (n : ℕ). MeetsName Shows between middle far' told' n entry met) folder_is meets) in
      inl (record {
        outer = outer;
        inner = inner;
        entry = entry;
        names = names;
        between = middle;
        met = met;
        innermost = innermost;
        left = left;
        meets = meets_there;
        is = refl;
      })

  pub folder_left : (far between far' : Progress) (told told' : Told) (outcome : Outcome) → NextName Lists far told between told' None →
      LeavesInner between far' outcome → Steps Lists Shows far told far' told' outcome
  folder_left far between far' told told' outcome (inl stays) (inl left) =
      inr (inr (stays.0, left.1 ∙ stays.1, stays.2, left.2))
  folder_left far between far' told told' outcome (inl stays) (inr left) =
      absurd (snoc_full left.0 left.1 (sym (ap (λ (f : Progress). f.folders) stays.1 ∙ stays.0) ∙ left.2))
  folder_left far between far' told told' outcome (inr next) (inl left) =
      absurd (snoc_full next.0 (record next.1 { names = Some [] }) (sym left.0 ∙ ap (λ (f : Progress). f.folders) next.4))
  folder_left far between far' told told' outcome (inr next) (inr left) =
      let same = snoc_same left.0 next.0 left.1 (record next.1 { names = Some [] }) (sym left.2 ∙ ap (λ (f : Progress). f.folders) next.4) in
      let far_is : far' ≡ left_to far next.0 next.1 = left.3 ∙ (ap (λ (f : Progress). record f { folders = left.0 }) next.4
      ∙ ap (λ (l : List Entered). record { folders = l; path = take next.1.length far.path; seen = far.seen }) same.0) in
      let outcome_is : outcome ≡ left_outcome next.1.met = left.4 ∙ ap (λ (e : Entered). left_outcome e.met) same.1 in
      inr (inl (record { outer = next.0; inner = next.1; innermost = next.2; left = next.3; far_is = far_is; is = outcome_is }))

-- few names are left

few_of : (read : Bool) (waiting : Vec Named) (names : List (List ℕ × ℕ)) →
    cond read (Some (map entry_of (reverse waiting.items))) None ≡ Some names → length names < 2 ^ 63
few_of true waiting names is =
    let same : map entry_of (reverse waiting.items) ≡ names = cc in
    let long : length names ≡ length waiting.items = sym (ap length same) ∙ (length-map (reverse waiting.items) entry_of ∙ length-reverse waiting.items) in
    omega (arith, long, waiting.ok.0, waiting.ok.1, waiting.small)
few_of false waiting names is = cc

abbrev pub HasFew : List Entered → Type 0
HasFew folders = (outer : List Entered) (inner : Entered) (names : List (List ℕ × ℕ)) → folders ≡ outer ++ inner ∷ [] → inner.names ≡ Some names →
    length names < 2 ^ 63

pub few_in : (frames : List Frame) → HasFew (map entered_of frames)
few_in [] outer inner names is some = absurd (snoc_full outer inner is)
few_in (frame ∷ frames) [] inner names is some =
    let same : entered_of frame ≡ inner = cc in
    few_of frame.is_read frame.waiting names (ap (λ (e : Entered). e.names) same ∙ some)
few_in (frame ∷ frames) (first ∷ outer) inner names is some =
    let same : map entered_of frames ≡ outer ++ inner ∷ [] = cc in few_in frames outer inner names same some

-- passed: so many names of the innermost folder were passed
abbrev pub AreFew : Progress → ℕ → Type 0
AreFew far passed = (passed ≡ 0) ⊎ ((outer : List Entered) × (inner : Entered) × (names : List (List ℕ × ℕ)) × (far.folders ≡ outer ++ inner ∷ [])
    × (inner.names ≡ Some names) × (length names + passed ≤ 2 ^ 63))

fewer : (Lists : ℕ → Result (List (List ℕ × ℕ)) Reason → Type 0) (far : Progress) (passed : ℕ) (told told' : Told) (outer : List Entered) (inner : Entered)
    (entry : List ℕ × ℕ) (names : List (List ℕ × ℕ)) → far.folders ≡ outer ++ inner ∷ [] →
    NamesLeft Lists inner told told' (entry ∷ names) → AreFew far passed →
    length names < 2 ^ 63 → length names + (passed + 1) ≤ 2 ^ 63
fewer Lists far passed told told' outer inner entry names is_last left (inl zero) few = omega arith
fewer Lists far passed told told' outer inner entry names is_last (inl left) (inr had) few =
    let same = snoc_same had.0 outer had.1 inner (sym had.3 ∙ is_last) in
    let names_are : had.2 ≡ entry ∷ names = let e = sym had.4 ∙ (ap (λ (e : Entered). e.names) same.1 ∙ left.0) in cc in
    let long = ap length names_are in
    omega (arith, long, had.5)
fewer Lists far passed told told' outer inner entry names is_last (inr left) (inr had) few =
    let same = snoc_same had.0 outer had.1 inner (sym had.3 ∙ is_last) in
    let wrong : Some had.2 ≡ None = sym had.4 ∙ (ap (λ (e : Entered). e.names) same.1 ∙ left.0) in
    cc

module _ (Lists : ℕ → Result (List (List ℕ × ℕ)) Reason → Type 0) (Shows : ℕ → Result Node Reason → Type 0) where
  pub few_after : (far between far' : Progress) (told middle told' : Told) (folder : ℕ) (entry : List ℕ × ℕ) (passed : ℕ) → AreFew far passed →
      NextName Lists far told between middle (Some (folder, entry)) → MeetsName Shows between middle far' told' folder entry None → HasFew far'.folders →
      AreFew far' (passed + 1)
  few_after far between far' told middle told' folder entry passed few next meets has =
      let names = next.2 in
      let inner = record next.1 { names = Some names } in
      let folders_are : far'.folders ≡ next.0 ++ inner ∷ [] = ap (λ (f : Progress). f.folders) meets.2 ∙ (append-nil between.folders
      ∙ ap (λ (f : Progress). f.folders) next.5) in
      inr (
        next.0,
        inner,
        names,
        folders_are,
        refl,
        fewer Lists far passed told middle next.0 next.1 entry names next.3 next.4 few (has next.0 inner names folders_are refl),
      )

-- along several steps

module _ (Lists : ℕ → Result (List (List ℕ × ℕ)) Reason → Type 0) (Shows : ℕ → Result Node Reason → Type 0) where
  pub joined : (Over Further : Outcome → Type 0) (far between : Progress) (told middle : Told) (far' : Progress) (told' : Told) →
      StepsAlong Lists Shows Further far told between middle →
      StepsAlong Lists Shows Over between middle far' told' → ((outcome : Outcome) → Over outcome → Further outcome) →
      StepsAlong Lists Shows Further far told far' told'
  joined Over Further far between told middle far' told' first none all = first
  joined Over Further far between told middle far' told' first (more last before outcome along step over) all =
      more last before outcome (joined Over Further far between told middle last before first along all) step (all outcome over)

  unseen_unmet : (outcome : Outcome) → IsUnseen outcome → IsUnmet outcome
  unseen_unmet Unseen over = tt
  unseen_unmet (Meets met) over = absurd over
  unseen_unmet (Leaves met) over = tt
  unseen_unmet Ends over = absurd over

  pub over_left : (far between far' : Progress) (told middle told' : Told) (met : Met) → StepsAlong Lists Shows IsUnmet far told between middle →
      ComesTo Lists Shows IsUnseen between middle far' told' (Leaves met) → StepsAlong Lists Shows IsUnmet far told far' told'
  over_left far between far' told middle told' met along comes =
      more comes.0 comes.1 (Leaves met) (joined IsUnseen IsUnmet far between told middle comes.0 comes.1 along comes.2 unseen_unmet) comes.3 tt

  pub comes_further : (far between far' : Progress) (told middle told' : Told) (outcome : Outcome) → StepsAlong Lists Shows IsUnmet far told between middle →
      ComesTo Lists Shows IsUnseen between middle far' told' outcome → ¬ IsUnmet outcome → ComesTo Lists Shows IsUnmet far told far' told' outcome
  comes_further far between far' told middle told' outcome along comes met =
      (comes.0, comes.1, joined IsUnseen IsUnmet far between told middle comes.0 comes.1 along comes.2 unseen_unmet, comes.3, met)

  -- how many folders it is in

  left_seen : (met : Option Met) → IsUnseen (left_outcome met) → ⊥
  left_seen None over = over
  left_seen (Some met) over = over

  met_unleft : (met : Option Met) (other : Met) → met_outcome met ≡ Leaves other → ⊥
  met_unleft None other is = cc
  met_unleft (Some met) other is = cc

  passed_folders : (far far' : Progress) (told told' : Told) (outcome : Outcome) (outer : List Entered) (inner : Entered) (names : List (List ℕ × ℕ))
      (between : Told) (entry : List ℕ × ℕ) (met : Option Met) → far.folders ≡ outer ++ inner ∷ [] →
      MeetsName Shows (at_names far outer inner names) between far' told' inner.folder entry met → IsUnseen (met_outcome met) →
      length far'.folders ≡ length far.folders
  passed_folders far far' told told' outcome outer inner names between entry None is_last meets over =
      let here = ap length is_last ∙ length-append outer (inner ∷ []) in
      let changed = record inner { names = Some names } in
      let there = ap (λ (f : Progress). length f.folders) meets.2 ∙ (ap length (append-nil (outer ++ changed ∷ [])) ∙ length-append outer (changed ∷ [])) in
      there ∙ sym here
  passed_folders far far' told told' outcome outer inner names between entry (Some met) is_last meets over = absurd over

  kept_folders : (far far' : Progress) (told told' : Told) (outcome : Outcome) → Steps Lists Shows far told far' told' outcome → IsUnseen outcome →
      length far'.folders ≡ length far.folders
  kept_folders far far' told told' outcome (inl passes) over =
      passed_folders far far' told told' outcome passes.outer passes.inner passes.names passes.between passes.entry passes.met passes.innermost passes.meets
      (subst IsUnseen passes.is over)
  kept_folders far far' told told' outcome (inr (inl leaves)) over = absurd (left_seen leaves.inner.met (subst IsUnseen leaves.is over))
  kept_folders far far' told told' outcome (inr (inr ended)) over = absurd (subst IsUnseen ended.3 over)

  kept_along : (far : Progress) (told : Told) (far' : Progress) (told' : Told) →
      StepsAlong Lists Shows IsUnseen far told far' told' → length far'.folders ≡ length far.folders
  kept_along far told far' told' none = refl
  kept_along far told far' told' (more between middle outcome along step over) =
      kept_folders between far' middle told' outcome step over ∙ kept_along far told between middle along

  fewer_folders : (far far' : Progress) (told told' : Told) (met : Met) → Steps Lists Shows far told far' told' (Leaves met) →
      length far'.folders + 1 ≡ length far.folders
  fewer_folders far far' told told' met (inl passes) = absurd (met_unleft passes.met met (sym passes.is))
  fewer_folders far far' told told' met (inr (inl leaves)) =
      let here = ap length leaves.innermost ∙ length-append leaves.outer (leaves.inner ∷ []) in
      let there = ap (λ (f : Progress). length f.folders) leaves.far_is in
      omega (arith, here, there)
  fewer_folders far far' told told' met (inr (inr ended)) = let wrong = ended.3 in cc

  pub one_fewer : (far far' : Progress) (told told' : Told) (met : Met) → ComesTo Lists Shows IsUnseen far told far' told' (Leaves met) →
      length far'.folders + 1 ≡ length far.folders
  one_fewer far far' told told' met comes =
      fewer_folders comes.0 far' comes.1 told' met comes.3 ∙ kept_along far told comes.0 comes.1 comes.2
