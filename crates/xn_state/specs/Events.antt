-- What events and replies mean.
use Rattle.std.specs.Prelude.{◌≡◌, false}
use Rattle.xn_model.specs.Worlds as model
use Rattle.xn_state.specs.Answers.{call_of, reply_of_answer}
use Rattle.xn_state.specs.declared.event.Event.{Event}
use Rattle.xn_state.specs.declared.event.Event.TheVariants as event
use Rattle.xn_state.specs.declared.reply.Reply.{Reply}
use Rattle.xn_state.specs.declared.reply.Reply.TheVariants as reply

abbrev pub event_of : Event → model.Event
event_of (event.Call fs call) = model.Client fs.number (call_of call)
event_of (event.Install bytes) = model.Install bytes
event_of (event.Begin block) = model.Begin block
event_of (event.Land block) = model.Land block
event_of (event.Fail block stays) = model.Fail block stays
event_of (event.Sync block) = model.Sync block
event_of (event.FailSync block) = model.FailSync block
event_of (event.Finish block) = model.Finish block
event_of (event.Crash kept) = model.Crash kept.items

abbrev pub IsNoCrash : Event → Type 0
IsNoCrash event = model.is_crash (event_of event) ≡ false

abbrev pub reply_of : Reply → model.Reply
reply_of (reply.Answered answer) = reply_of_answer answer
reply_of (reply.Installed made) = model.Installed made.ty made.block made.edits.0 made.edits.1
reply_of (reply.Begun entries) = model.Begun entries
reply_of reply.Landed = model.Landed
reply_of reply.Synced = model.Synced
reply_of reply.Fault = model.Fault
reply_of (reply.Finished landed) = model.Finished landed.durable landed.freed
reply_of (reply.Mounted reached free) = model.Mounted reached free
reply_of reply.NoTicket = model.NoTicket
reply_of reply.Down = model.Down
reply_of (reply.Refused refusal) = model.Refused refusal
