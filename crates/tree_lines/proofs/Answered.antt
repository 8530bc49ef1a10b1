-- What a session answered is told by the volume in which it is open.
use Rattle.std.proofs.Common.{◌≡◌, Result, Ok, Err, subst, sym}
use Rattle.xn_model.specs.Lives.{StoreState}
use Rattle.treefs_model.specs.declared.fault.Fault.{Fault}
use Rattle.treefs_session.specs.Values.{Volume}
use Rattle.tree_lines.specs.Answers.{Answers, IsTold}

pub kept : (P : StoreState → Volume → Type 0) (new new' : StoreState) (volume volume' : Volume) → new' ≡ new → volume' ≡ volume → P new volume → P new' volume'
kept P new new' volume volume' state_is volume_is h =
    subst (λ (s : StoreState). P s volume') (sym state_is) (subst (λ (v : Volume). P new v) (sym volume_is) h)

answers_so : {A E : Type 0} (Does : Result A Fault → Type 0) (answer : Result A Fault) (result : Result A E) → Does answer → IsTold answer result →
    Answers Does result
answers_so Does answer (Ok made) does told = subst Does told does
answers_so Does answer (Err fault) does told = (told.0, subst Does told.1 does)

pub answers_at : {A E : Type 0} (Does : StoreState → Volume → Result A Fault → Type 0) (new new' : StoreState) (volume volume' : Volume) (answer : Result A Fault)
    (result : Result A E) → new' ≡ new → volume' ≡ volume → Does new volume answer → IsTold answer result → Answers (Does new' volume') result
answers_at Does new new' volume volume' answer result state_is volume_is does told =
    answers_so (Does new' volume') answer result (kept (λ s v. Does s v answer) new new' volume volume' state_is volume_is does) told
