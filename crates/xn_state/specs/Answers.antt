-- What calls and their answers mean.
--     call_of c                        the call, as the model has it
--     StateAnswers T old fs c new answer    what the call may answer, and the state after it
--     reply_of_answer answer           the answer, as the model's reply
use Rattle.std.specs.Prelude.{◌≡◌, ℕ, Result, Ok, Err}
use Rattle.xn_model.specs.Types.{Types}
use Rattle.xn_model.specs.Lives.{StoreState}
use Rattle.store_types.specs.declared.refusal.Refusal.{Refusal}
use Rattle.xn_model.specs.Results.{Gives, GivesExactly}
use Rattle.xn_model.specs.Calls.{init_of, propose_of, make_root_of, drop_root_of, forget_of, read_of, root_of, kind_of, tainted_of, pending_of, floor_of}
use Rattle.xn_model.specs.Calls.{free_of, pick_of}
use Rattle.xn_model.specs.Worlds as model
use Rattle.xn_state.specs.declared.call.Call.{Call}
use Rattle.xn_state.specs.declared.call.Call.TheVariants.{Init, Propose, MakeRoot, DropRoot, Forget, Read, Root, Kind, Tainted, Pending, Floor, Free, Pick}
use Rattle.xn_state.specs.declared.call.Call.TheVariants.{Drain}
use Rattle.xn_state.specs.declared.answer.Answer.{Answer}
use Rattle.xn_state.specs.declared.answer.Answer.TheVariants as answer

abbrev pub call_of : Call → model.Call
call_of (Init ty bytes) = model.Init ty bytes
call_of (Propose block edit) = model.Propose block edit
call_of (MakeRoot block) = model.MakeRoot block
call_of DropRoot = model.DropRoot
call_of (Forget block) = model.Forget block
call_of (Read block) = model.Read block
call_of Root = model.Root
call_of (Kind block) = model.Kind block
call_of (Tainted block) = model.Tainted block
call_of Pending = model.Pending
call_of Floor = model.Floor
call_of Free = model.FreeCount
call_of Pick = model.Pick
call_of Drain = model.Drain

-- a drain needs the disk, so a state alone has no answer to it
abbrev pub StateAnswers : Types → StoreState → ℕ → Call → StoreState → Answer → Type 0
StateAnswers T old fs (Init ty bytes) new a = (r : Result (ℕ × ℕ) Refusal) × (a ≡ answer.Init r) × Gives (init_of T old fs ty bytes) old new r
StateAnswers T old fs (Propose block edit) new a = (r : Result ℕ Refusal) × (a ≡ answer.Propose r) × Gives (propose_of T old fs block edit) old new r
StateAnswers T old fs (MakeRoot block) new a = (r : Result ℕ Refusal) × (a ≡ answer.MakeRoot r) × Gives (make_root_of old fs block) old new r
StateAnswers T old fs DropRoot new a = (r : Result ℕ Refusal) × (a ≡ answer.DropRoot r) × Gives (drop_root_of T old fs) old new r
StateAnswers T old fs (Forget block) new a = (r : Result (Unit {0}) Refusal) × (a ≡ answer.Forget r) × GivesExactly (forget_of T old fs block) old new r
StateAnswers T old fs (Read block) new a = (a ≡ answer.Read (read_of old fs block)) × (new ≡ old)
StateAnswers T old fs Root new a = (a ≡ answer.Root (root_of old fs)) × (new ≡ old)
StateAnswers T old fs (Kind block) new a = (a ≡ answer.Kind (kind_of old fs block)) × (new ≡ old)
StateAnswers T old fs (Tainted block) new a = (a ≡ answer.Tainted (tainted_of old block)) × (new ≡ old)
StateAnswers T old fs Pending new a = (a ≡ answer.Pending (pending_of old fs)) × (new ≡ old)
StateAnswers T old fs Floor new a = (a ≡ answer.Floor (floor_of old fs)) × (new ≡ old)
StateAnswers T old fs Free new a = (a ≡ answer.Free (free_of old)) × (new ≡ old)
StateAnswers T old fs Pick new a = (a ≡ answer.Pick (pick_of old)) × (new ≡ old)
StateAnswers T old fs Drain new a = ⊥

-- a result that is told
abbrev pub told : {A : Type 0} → (A → model.Reply) → Result A Refusal → model.Reply
told reply (Ok given) = reply given
told reply (Err refusal) = model.Refused refusal

abbrev pub reply_of_answer : Answer → model.Reply
reply_of_answer (answer.Init r) = told (λ made. model.Started made.0 made.1) r
reply_of_answer (answer.Propose r) = told model.Edited r
reply_of_answer (answer.MakeRoot r) = told model.Edited r
reply_of_answer (answer.DropRoot r) = told model.Edited r
reply_of_answer (answer.Forget r) = told (λ done. model.Forgotten) r
reply_of_answer (answer.Read r) = told model.Bytes r
reply_of_answer (answer.Root block) = model.RootIs block
reply_of_answer (answer.Kind r) = told model.KindIs r
reply_of_answer (answer.Tainted tainted) = model.IsTainted tainted
reply_of_answer (answer.Pending entries) = model.PendingIs entries
reply_of_answer (answer.Floor entry) = model.FloorIs entry
reply_of_answer (answer.Free blocks) = model.FreeIs blocks
reply_of_answer (answer.Pick block) = model.Picked block
reply_of_answer (answer.Drain (Ok writes)) = model.Drained writes
reply_of_answer (answer.Drain (Err stopped)) = model.Refused stopped.refusal
