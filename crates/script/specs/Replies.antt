-- The lines of replies.
use Rattle.std.specs.Prelude.{ℕ, Bool, true, false, List, [], ◌∷◌, ◌++◌, Option, Some, None, Result, Ok, Err, codes}
use Rattle.std.specs.Fmt.{decimal}
use Rattle.store_types.specs.declared.refusal.Refusal.{Refusal}
use Rattle.store_types.specs.Refusals.{refusal_text}
use Rattle.xn_state.specs.declared.answer.Answer.{Answer}
use Rattle.xn_state.specs.declared.answer.Answer.TheVariants as answer
use Rattle.xn_state.specs.declared.reply.Reply.{Reply}
use Rattle.xn_state.specs.declared.reply.Reply.TheVariants as reply
use Rattle.xn_state.specs.declared.installed.Installed.{Installed}
use Rattle.script.specs.Bytes.{bytes_text}

-- a block, or that there is none
abbrev pub block_text : Option ℕ → List ℕ
block_text None = codes "none"
block_text (Some block) = decimal block

abbrev pub bool_text : Bool → List ℕ
bool_text true = codes "true"
bool_text false = codes "false"

-- what is said of an accepted call, or its refusal
abbrev pub result_text : {A : Type 0} → (A → List ℕ) → Result A Refusal → List ℕ
result_text text (Ok given) = text given
result_text text (Err refusal) = codes "refused " ++ refusal_text refusal

abbrev pub edit_text : ℕ → List ℕ
edit_text entry = codes "edit " ++ decimal entry

abbrev pub answer_text : Answer → List ℕ
answer_text (answer.Init r) = result_text (λ made. codes "block " ++ decimal made.0 ++ codes " edit " ++ decimal made.1) r
answer_text (answer.Propose r) = result_text edit_text r
answer_text (answer.MakeRoot r) = result_text edit_text r
answer_text (answer.DropRoot r) = result_text edit_text r
answer_text (answer.Forget r) = result_text (λ done. codes "ok") r
answer_text (answer.Read r) = result_text bytes_text r
answer_text (answer.Root block) = codes "root " ++ block_text block
answer_text (answer.Kind r) = result_text (λ ty. codes "kind " ++ decimal ty) r
answer_text (answer.Tainted tainted) = codes "tainted " ++ bool_text tainted
answer_text (answer.Pending entries) = codes "pending " ++ decimal entries
answer_text (answer.Floor entry) = codes "floor " ++ decimal entry
answer_text (answer.Free blocks) = codes "free " ++ decimal blocks
answer_text (answer.Pick block) = codes "pick " ++ block_text block
answer_text (answer.Drain (Ok writes)) = codes "writes " ++ decimal writes
answer_text (answer.Drain (Err stopped)) = codes "refused " ++ refusal_text stopped.refusal

-- the type, the block, and both entries
abbrev pub installed_text : Installed → List ℕ
installed_text made = codes "type " ++ decimal made.ty ++ codes " block " ++ decimal made.block ++ codes " edits " ++ decimal made.edits.0 ++ codes " " ++
    decimal made.edits.1

abbrev pub reply_text : Reply → List ℕ
reply_text (reply.Answered given) = answer_text given
reply_text (reply.Installed made) = installed_text made
reply_text (reply.Begun entries) = codes "begun " ++ decimal entries
reply_text reply.Landed = codes "landed"
reply_text reply.Synced = codes "synced"
reply_text reply.Fault = codes "fault"
reply_text (reply.Finished landed) = codes "durable " ++ decimal landed.durable ++ codes " freed " ++ decimal landed.freed
reply_text (reply.Mounted reached free) = codes "mounted " ++ decimal reached ++ codes " " ++ decimal free
reply_text reply.NoTicket = codes "no ticket"
reply_text reply.Down = codes "down"
reply_text (reply.Refused refusal) = codes "refused " ++ refusal_text refusal

-- the line of a reply
abbrev pub reply_line : Reply → List ℕ
reply_line given = reply_text given ++ 10 ∷ []
