-- What a call answers is a step of the model, on every world with this state.
use Rattle.std.proofs.Common.{◌≡◌, ℕ, false, Result, Ok, Err, refl, sym, ◌∙◌, ap, inl, inr, subst, ⊎_elim}
use Rattle.std.specs.Prelude.{IsTrue}
use Rattle.xn_model.specs.Types.{Types}
use Rattle.xn_model.specs.Lives.{StoreState}
use Rattle.store_types.specs.declared.refusal.Refusal.{Refusal}
use Rattle.xn_model.specs.Results.{Gives, GivesExactly}
use Rattle.xn_model.specs.Calls.{init_of, propose_of, make_root_of, drop_root_of, forget_of, read_of, kind_of}
use Rattle.xn_model.specs.Worlds.{World, Event, Client, Reply, Started, Edited, Forgotten, Bytes, KindIs, Refused, act, reply_and_world, reply_alone, is_refusal, asks_memory, types_now, AfterCall, Step}
use Rattle.xn_model.specs.Worlds as model
use Rattle.xn_state.specs.declared.call.Call.{Call}
use Rattle.xn_state.specs.declared.call.Call.TheVariants.{Init, Propose, MakeRoot, DropRoot, Forget, Read, Root, Kind, Tainted, Pending, Floor, Free, Pick, Drain}
use Rattle.xn_state.specs.declared.answer.Answer.{Answer}
use Rattle.xn_state.specs.Answers.{call_of, StateAnswers, told, reply_of_answer}

-- A call that may want memory
gives_step : {A : Type 0} (w : World) (e : Event) (reply : A → Reply) (r : Result (A × StoreState) Refusal) (new : StoreState) (result : Result A Refusal) →
    w.down ≡ false → act w e ≡ reply_and_world reply w r → IsTrue (asks_memory e) → ((a : A) → is_refusal (reply a) ≡ false) → Gives r w.state new result →
    AfterCall w e (told reply result) (record w { state = new })
gives_step w e reply (Ok (given, after)) new result up acts asks answers h = ⊎_elim
    (λ p. inl (ap (told reply) p.0 ∙ sym (ap (λ (x : Reply × World). x.0) acts), ap (λ s. record w { state = s }) p.1 ∙ sym (ap (λ (x : Reply × World). x.1) acts)))
    (λ p. inr (asks, (ap (λ (x : Reply × World). is_refusal x.0) acts ∙ answers given, (up, (ap (told reply) p.0, ap (λ s. record w { state = s }) p.1)))))
    h
gives_step w e reply (Err refusal) new result up acts asks answers h =
    inl (ap (told reply) h.0 ∙ sym (ap (λ (x : Reply × World). x.0) acts), ap (λ s. record w { state = s }) h.1 ∙ sym (ap (λ (x : Reply × World). x.1) acts))

-- a call that doesn't
exactly_step : {A : Type 0} (w : World) (e : Event) (reply : A → Reply) (r : Result (A × StoreState) Refusal) (new : StoreState) (result : Result A Refusal) →
    act w e ≡ reply_and_world reply w r → GivesExactly r w.state new result → AfterCall w e (told reply result) (record w { state = new })
exactly_step w e reply (Ok (given, after)) new result acts h =
    inl (ap (told reply) h.0 ∙ sym (ap (λ (x : Reply × World). x.0) acts), ap (λ s. record w { state = s }) h.1 ∙ sym (ap (λ (x : Reply × World). x.1) acts))
exactly_step w e reply (Err refusal) new result acts h =
    inl (ap (told reply) h.0 ∙ sym (ap (λ (x : Reply × World). x.0) acts), ap (λ s. record w { state = s }) h.1 ∙ sym (ap (λ (x : Reply × World). x.1) acts))

told_alone : {A : Type 0} (reply : A → Reply) (r : Result A Refusal) → told reply r ≡ reply_alone reply r
told_alone reply (Ok x) = refl
told_alone reply (Err refusal) = refl

-- a call that changes nothing
alone_step : (w : World) (e : Event) (new : StoreState) (reply given : Reply) → reply ≡ given → new ≡ w.state → act w e ≡ (given, w) → AfterCall w e reply (record w { state = new })
alone_step w e new reply given told same acts =
    inl (told ∙ sym (ap (λ (x : Reply × World). x.0) acts), ap (λ s. record w { state = s }) same ∙ sym (ap (λ (x : Reply × World). x.1) acts))

-- on a world that is up
module _ (w : World) (new : StoreState) (fs : ℕ) (answer : Answer) where
  abbrev v : World
  v = record w { down = false }

  abbrev T : Types
  T = types_now w

  answers_up : (call : Call) → StateAnswers T w.state fs call new answer → AfterCall v (Client fs (call_of call)) (reply_of_answer answer) (record v { state = new })
  answers_up (Init ty bytes) h = rw h.1 (gives_step v (Client fs (model.Init ty bytes)) (λ made. Started made.0 made.1) (init_of T w.state fs ty bytes) new h.0 refl refl refl (λ a. refl) h.2)
  answers_up (Propose b edit) h = rw h.1 (gives_step v (Client fs (model.Propose b edit)) Edited (propose_of T w.state fs b edit) new h.0 refl refl refl (λ a. refl) h.2)
  answers_up (MakeRoot b) h = rw h.1 (gives_step v (Client fs (model.MakeRoot b)) Edited (make_root_of w.state fs b) new h.0 refl refl refl (λ a. refl) h.2)
  answers_up DropRoot h = rw h.1 (gives_step v (Client fs model.DropRoot) Edited (drop_root_of T w.state fs) new h.0 refl refl refl (λ a. refl) h.2)
  answers_up (Forget b) h = rw h.1 (exactly_step v (Client fs (model.Forget b)) (λ done. Forgotten) (forget_of T w.state fs b) new h.0 refl h.2)
  answers_up (Read b) h = alone_step v (Client fs (model.Read b)) new (reply_of_answer answer) (reply_alone Bytes (read_of w.state fs b)) (ap reply_of_answer h.0 ∙ told_alone Bytes (read_of w.state fs b)) h.1 refl
  answers_up Root h = alone_step v (Client fs model.Root) new (reply_of_answer answer) _ (ap reply_of_answer h.0) h.1 refl
  answers_up (Kind b) h = alone_step v (Client fs (model.Kind b)) new (reply_of_answer answer) (reply_alone KindIs (kind_of w.state fs b)) (ap reply_of_answer h.0 ∙ told_alone KindIs (kind_of w.state fs b)) h.1 refl
  answers_up (Tainted b) h = alone_step v (Client fs (model.Tainted b)) new (reply_of_answer answer) _ (ap reply_of_answer h.0) h.1 refl
  answers_up Pending h = alone_step v (Client fs model.Pending) new (reply_of_answer answer) _ (ap reply_of_answer h.0) h.1 refl
  answers_up Floor h = alone_step v (Client fs model.Floor) new (reply_of_answer answer) _ (ap reply_of_answer h.0) h.1 refl
  answers_up Free h = alone_step v (Client fs model.FreeCount) new (reply_of_answer answer) _ (ap reply_of_answer h.0) h.1 refl
  answers_up Pick h = alone_step v (Client fs model.Pick) new (reply_of_answer answer) _ (ap reply_of_answer h.0) h.1 refl
  answers_up Drain h = absurd h

pub answers_step : (w : World) (new : StoreState) (fs : ℕ) (call : Call) (answer : Answer) → w.down ≡ false → StateAnswers (types_now w) w.state fs call new answer →
    Step w (Client fs (call_of call)) (reply_of_answer answer) (record w { state = new })
answers_step w new fs call answer up h =
    let same : record w { down = false } ≡ w = λ i. record w { down = sym up i } in
    subst (λ (u : World). Step u (Client fs (call_of call)) (reply_of_answer answer) (record u { state = new })) same (answers_up w new fs answer call h)
