-- What was done is told where it had a fault, and the line goes on or ends.
use Rattle.std.proofs.Common.{◌≡◌, ℕ, Bool, true, false, List, [], ◌∷◌, ◌++◌, Option, None, Some, Result, Ok, Err, inl, subst}
use Rattle.std.specs.Prelude.{MatchBool, MatchResult}
use Rattle.std.specs.Result.{IsErrAnd}
use Rattle.std.proofs.lemmas.Result.{err_from_is_err_and}
use Rattle.tree_lines.specs.declared.fault.Fault.{Fault as LineFault}
use Rattle.tree_lines.specs.declared.fault.Fault.TheVariants.{NoMemory}
use Rattle.tree_puts.specs.Folders.{Entered, Settles, entered}
use Rattle.tree_puts.specs.Lines.{LineState, StaysButTold}
use Rattle.tree_puts.specs.Trees.{Brings, BringsNext, EndsAfter, GoesOver, Leaves, StopsBy}
use Rattle.tree_puts.specs.declared.tree_in.Frame.{Frame}
use Rattle.tree_puts.proofs.Unchanged.{none_but_told, none_changed}

pub else_of : (A B : Type 0) (done : Bool) → MatchBool done A B → done ≡ false → B
else_of A B true so is = absurd (let wrong = is in cc)
else_of A B false so is = so

pub left_with : (last : Entered) (fault : LineFault) (a between b : LineState) → Settles last (Err fault) a between → StaysButTold between b →
    (result : Result (Unit {0}) LineFault) → MatchResult result (λ done. GoesOver fault between.told b.told) (λ ends. StopsBy fault ends) →
    Leaves last result a b
left_with last fault a between b settles stays (Ok done) goes = (Err fault, between, settles, (stays, goes))
left_with last fault a between b settles stays (Err ends) goes = (fault, between, settles, goes, stays)

ends_after : (done : Result (Option Frame) LineFault) (last : LineFault) (b : LineState) → last ≡ NoMemory → EndsAfter done last b b
ends_after (Ok made) last b is = (is, none_changed b)
ends_after (Err fault) last b is = (inl is, none_but_told b)

module _ (room : ℕ) (before : List Entered) (rest : Entered) (name : List ℕ) (frames : List Entered) (a b : LineState) where
  pub not_pushed : (done : Result (Option Frame) LineFault) → Brings room rest.number name done a b → (result : Result (Unit {0}) LineFault) →
      IsErrAnd result (λ fault. fault ≡ NoMemory) → BringsNext room before rest name frames result a b
  not_pushed done brings result is =
      let p = err_from_is_err_and result is in
      rw p.1 (done, b, brings, ends_after done p.0 b p.2)

  next_with : (between : LineState) (fault : LineFault) → Brings room rest.number name (Err fault) a between → StaysButTold between b →
      frames ≡ before ++ rest ∷ [] → (result : Result (Unit {0}) LineFault) →
      MatchResult result (λ done. GoesOver fault between.told b.told) (λ ends. StopsBy fault ends) → BringsNext room before rest name frames result a b
  next_with between fault brings stays are (Ok done) goes = (Err fault, between, brings, (stays, goes), are)
  next_with between fault brings stays are (Err ends) goes = (Err fault, between, brings, (goes, stays))

  pub next_folder : (done : Result (Option Frame) LineFault) (field : Option Frame) (frame : Frame) → done ≡ Ok field → field ≡ Some frame →
      Brings room rest.number name done a b →
      frames ≡ before ++ rest ∷ entered frame ∷ [] → BringsNext room before rest name frames (Ok tt) a b
  next_folder done field frame is field_is brings are = (
    Ok (Some frame),
    b,
    subst (λ (o : Option Frame). Brings room rest.number name (Ok o) a b) field_is
        (subst (λ (r : Result (Option Frame) LineFault). Brings room rest.number name r a b) is brings),
    none_changed b,
    are,
  )

  pub next_other : (done : Result (Option Frame) LineFault) (field : Option Frame) → done ≡ Ok field → field ≡ None →
      Brings room rest.number name done a b → frames ≡ before ++ rest ∷ [] → BringsNext room before rest name frames (Ok tt) a b
  next_other done field is field_is brings are = (
    Ok None,
    b,
    subst (λ (o : Option Frame). Brings room rest.number name (Ok o) a b) field_is
        (subst (λ (r : Result (Option Frame) LineFault). Brings room rest.number name r a b) is brings),
    none_changed b,
    are,
  )

  pub next_fault : (between : LineState) (done : Result (Option Frame) LineFault) (fault : LineFault) → done ≡ Err fault →
      Brings room rest.number name done a between → StaysButTold between b → frames ≡ before ++ rest ∷ [] → (result : Result (Unit {0}) LineFault) →
      MatchResult result (λ done. GoesOver fault between.told b.told) (λ ends. StopsBy fault ends) → BringsNext room before rest name frames result a b
  next_fault between done fault is brings = next_with between fault
      (subst (λ (r : Result (Option Frame) LineFault). Brings room rest.number name r a between) is brings)
