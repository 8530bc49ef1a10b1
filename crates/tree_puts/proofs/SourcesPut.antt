-- Sources are put one behind the other: none yet, one more of them, all, and up to one whose fault ends the line.
use Rattle.std.proofs.Common.{◌≡◌, ◌∙◌, ℕ, ◌+◌, ◌<◌, ◌≤◌, Bool, List, [], ◌∷◌, ◌++◌, Bor, Result, Ok, Err, length, take, drop, map, get_or}
use Rattle.std.proofs.Common.{ap, subst, sym}
use Rattle.std.proofs.lemmas.List.{drop_more, take-append-drop, take_all, take_more, get_or-map, length-map}
use Rattle.std.proofs.lemmas.Result.{err_from_is_err_and}
use Rattle.std.specs.Result.{IsErrAnd}
use Rattle.tree_lines.specs.Telling.{GoesOn}
use Rattle.tree_lines.specs.declared.fault.Fault.{Fault as LineFault}
use Rattle.tree_puts.specs.Lines.{LineState, StaysButTold}
use Rattle.tree_puts.specs.Sources.{PutsEach, PutsInTurn, PutsSource}
use Rattle.tree_puts.specs.Sources.PutsEach.{more}

abbrev pub texts : List (Bor (List ℕ)) → List (List ℕ)
texts sources = map (λ source. source.now) sources

module _ (sources : List (Bor (List ℕ))) (place : ℕ) (default : Bor (List ℕ)) (within : place < length sources) where
  one_more : take (place + 1) (texts sources) ≡ take place (texts sources) ++ (get_or sources place default).now ∷ []
  one_more =
      let there : place < length (texts sources) = rw length-map within in
      let next : get_or (texts sources) place [] ≡ (get_or sources place default).now = get_or-map (λ source. source.now) sources place default [] within in
      rw (take_more (texts sources) place [] there, next)

  parts : texts sources ≡ take place (texts sources) ++ (get_or sources place default).now ∷ drop (place + 1) (texts sources)
  parts =
      let there : place < length (texts sources) = rw length-map within in
      let next : get_or (texts sources) place [] ≡ (get_or sources place default).now = get_or-map (λ source. source.now) sources place default [] within in
      let rest = drop_more (texts sources) place [] there ∙ ap (λ (source : List ℕ). source ∷ drop (place + 1) (texts sources)) next in
      sym (take-append-drop place (texts sources)) ∙ ap (λ (l : List (List ℕ)). take place (texts sources) ++ l) rest

pub all_put : (lines : Bool) (path : List ℕ) (several : Bool) (room : ℕ) (a b : LineState) (sources : List (Bor (List ℕ))) (place : ℕ) →
    length sources ≤ place → PutsEach lines path several room a (take place (texts sources)) b → PutsEach lines path several room a (texts sources) b
all_put lines path several room a b sources place behind each =
    let past : length (texts sources) ≤ place = rw length-map behind in
    subst (λ (l : List (List ℕ)). PutsEach lines path several room a l b) (take_all place (texts sources) past) each

module _ (lines : Bool) (path : List ℕ) (several : Bool) (room : ℕ) (a : LineState) (sources : List (Bor (List ℕ))) (place : ℕ)
    (default : Bor (List ℕ)) (within : place < length sources) (put between b : LineState)
    (each : PutsEach lines path several room a (take place (texts sources)) put) (room' : ℕ) (room_is : room' ≡ room)
    (done : Result (Unit {0}) LineFault) (puts : PutsSource lines path several room' (get_or sources place default).now done put between)
    (stays : StaysButTold between b) (answer : Result (Unit {0}) LineFault) (goes : GoesOn between.told b.told done answer) where
  puts_here : PutsSource lines path several room (get_or sources place default).now done put between
  puts_here = subst (λ (n : ℕ). PutsSource lines path several n (get_or sources place default).now done put between) room_is puts

  goes_as : (other : Result (Unit {0}) LineFault) → answer ≡ other → GoesOn between.told b.told done other
  goes_as other is = subst (λ (r : Result (Unit {0}) LineFault). GoesOn between.told b.told done r) is goes

  pub one_put : answer ≡ Ok tt → PutsEach lines path several room a (take (place + 1) (texts sources)) b
  one_put is = subst (λ (l : List (List ℕ)). PutsEach lines path several room a l b) (sym (one_more sources place default within))
      (more done put between each puts_here stays (goes_as (Ok tt) is))

  pub ended_there : (fault : LineFault) → answer ≡ Err fault → (result : Result (Unit {0}) LineFault) → IsErrAnd result (λ told. told ≡ fault) →
      PutsInTurn lines path several room (texts sources) result a b
  ended_there fault is result ended =
      let p = err_from_is_err_and result ended in
      let goes_so : GoesOn between.told b.told done (Err p.0) = goes_as (Err p.0) (is ∙ ap (λ (f : LineFault). Err f) (sym p.2)) in
      rw p.1 (
        take place (texts sources),
        (get_or sources place default).now,
        drop (place + 1) (texts sources),
        done,
        put,
        between,
        parts sources place default within,
        each,
        puts_here,
        stays,
        goes_so,
      )
