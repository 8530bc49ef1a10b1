-- Folders are brought in name by name: none yet, one step more, and where that ends.
use Rattle.std.proofs.Common.{◌≡◌, ◌∙◌, ℕ, ◌+◌, List, [], ◌∷◌, ◌++◌, Option, Some, Result, Ok, Err, ap, arith, inr, length, map, refl, subst, sym}
use Rattle.std.proofs.lemmas.List.{append_assoc, map-append}
use Rattle.std.proofs.lemmas.Result.{err_from_is_err_and}
use Rattle.std.specs.Option.{option_to_list}
use Rattle.std.specs.Result.{IsErrAnd}
use Rattle.tree_lines.specs.declared.fault.Fault.{Fault as LineFault}
use Rattle.tree_puts.specs.Folders.{Entered, entered}
use Rattle.tree_puts.specs.Lines.{LineState}
use Rattle.tree_puts.specs.Trees.{BringsNames, Leaves, PutsFolder, StepsOn}
use Rattle.tree_puts.specs.Trees.BringsNames.{more, none}
use Rattle.tree_puts.specs.declared.tree_in.Frame.{Frame}

pub none_brought : (room : ℕ) (frame : Frame) (frames empty : List Frame) → frames ≡ empty ++ frame ∷ [] → empty ≡ [] → (a : LineState) →
    BringsNames room (entered frame ∷ []) a 0 (map entered frames) a
none_brought room frame frames empty are is a =
    subst (λ (l : List Frame). BringsNames room (entered frame ∷ []) a 0 (map entered l) a) (sym (are ∙ ap (λ (l : List Frame). l ++ frame ∷ []) is)) none

-- the last one is taken from the others
last_of : (frames before : List Frame) (last : Frame) (popped : Option Frame) → frames ≡ before ++ option_to_list popped → popped ≡ Some last →
    map entered frames ≡ map entered before ++ entered last ∷ []
last_of frames before last popped are is =
    ap (λ (l : List Frame). map entered l) (are ∙ ap (λ (o : Option Frame). before ++ option_to_list o) is) ∙ map-append entered before (last ∷ [])

module _ (room : ℕ) (frame : Entered) (a : LineState) (steps : ℕ) (frames before : List Frame) (last : Frame) (popped : Option Frame)
    (are : frames ≡ before ++ option_to_list popped) (is : popped ≡ Some last) (b c : LineState)
    (brings : BringsNames room (frame ∷ []) a steps (map entered frames) b) (room' : ℕ) (room_is : room' ≡ room) (behind : List Entered) where
  with_last : BringsNames room (frame ∷ []) a steps (map entered before ++ entered last ∷ []) b
  with_last = subst (λ (l : List Entered). BringsNames room (frame ∷ []) a steps l b) (last_of frames before last popped are is) brings

  pub one_brought : StepsOn room' (map entered before) (entered last) behind (Ok tt) b c → BringsNames room (frame ∷ []) a (steps + 1) behind c
  one_brought step = more (map entered before) (entered last) b with_last
      (subst (λ (n : ℕ). StepsOn n (map entered before) (entered last) behind (Ok tt) b c) room_is step)

  pub stopped : (fault : LineFault) → StepsOn room' (map entered before) (entered last) behind (Err fault) b c → (result : Result (Unit {0}) LineFault) →
      IsErrAnd result (λ told. told ≡ fault) → PutsFolder room frame result a c
  stopped fault step result ended =
      let p = err_from_is_err_and result ended in
      let stops : StepsOn room (map entered before) (entered last) behind (Err fault) b c =
      subst (λ (n : ℕ). StepsOn n (map entered before) (entered last) behind (Err fault) b c) room_is step in
      let told : StepsOn room (map entered before) (entered last) behind (Err p.0) b c =
      subst (λ (f : LineFault). StepsOn room (map entered before) (entered last) behind (Err f) b c) (sym p.2) stops in
      rw p.1 (inr (steps, map entered before, entered last, b, behind, with_last, told))

-- a folder goes back to the others, without the name that is next, and with the one that it leads to

pub one_pushed : (frames new : List Frame) (rest : Frame) → new ≡ frames ++ rest ∷ [] → map entered new ≡ map entered frames ++ entered rest ∷ []
one_pushed frames new rest is = ap (λ (l : List Frame). map entered l) is ∙ map-append entered frames (rest ∷ [])

pub two_pushed : (frames between new : List Frame) (rest next : Frame) → between ≡ frames ++ rest ∷ [] → new ≡ between ++ next ∷ [] →
    map entered new ≡ map entered frames ++ entered rest ∷ entered next ∷ []
two_pushed frames between new rest next is then =
    one_pushed between new next then ∙ (ap (λ (l : List Entered). l ++ entered next ∷ []) (one_pushed frames between rest is)
    ∙ append_assoc (map entered frames) (entered rest ∷ []) (entered next ∷ []))

-- shown: the name as it is passed on
pub next_waits : {X : Type 0} (text : X → List ℕ) (waiting rest : List X) (name : X) (popped : Option X) (shown : List ℕ) →
    waiting ≡ rest ++ option_to_list popped → popped ≡ Some name → shown ≡ text name → map text waiting ≡ map text rest ++ shown ∷ []
next_waits {X} text waiting rest name popped shown are is shown_is =
    ap (λ (l : List X). map text l) (are ∙ ap (λ (o : Option X). rest ++ option_to_list o) is)
    ∙ (map-append text rest (name ∷ []) ∙ ap (λ (l : List ℕ). map text rest ++ l ∷ []) (sym shown_is))

pub none_waits : {X Y : Type 0} (text : X → Y) (waiting : List X) → length waiting ≡ 0 → map text waiting ≡ []
none_waits text [] are = refl
none_waits text (x ∷ waiting) are = absurd (omega (arith, are))

-- what is left of a folder does not depend on the names that wait
pub leaves_same : (names : List (List ℕ)) (last : Entered) (result : Result (Unit {0}) LineFault) (a b : LineState) →
    Leaves (record last { waiting = names }) result a b → Leaves last result a b
leaves_same names last (Ok made) a b leaves = leaves
leaves_same names last (Err fault) a b leaves = leaves
