-- Runs of the first events of a script.
use Rattle.std.proofs.Common.{◌≡◌, ℕ, Option, None, Some, List, [], ◌∷◌, ◌++◌, map, refl, sym, ◌∙◌, ap, subst}
use Rattle.std.specs.List.{flat_map}
use Rattle.std.specs.Io.KnownBytes.{Appends}
use Rattle.std.proofs.lemmas.List.{map-append, append-nil, append_assoc}
use Rattle.std.proofs.lemmas.Grind.{flat_map-append}
use Rattle.xn_model.specs.Worlds as model
use Rattle.xn_model.specs.Worlds.{Run, Step}
use Rattle.xn_state.specs.declared.reply.Reply.{Reply}
use Rattle.xn_state.specs.declared.event.Event.{Event}
use Rattle.xn_state.specs.Events.{event_of, reply_of}
use Rattle.script.specs.Replies.{reply_line}
use Rattle.script.specs.Scripts.{AllSpell, LineSpells}
use Rattle.script.proofs.ForCallers.{zip_push}
use Rattle.xn_model.specs.Images.{joined}
use Rattle.xnsim_line.specs.Runs.{IsPrintedRun, IsRun, IsRunLine, RunsLines}

-- these events were run, their replies printed, and the world is this
pub record IsRunTo (from : model.World) (events : List Event) (old new : Option (List ℕ)) (after : model.World) : Type 0 where
  pub replies : List Reply
  pub run : IsRun from events replies after
  pub printed : Appends old new (flat_map reply_line replies)

run_more : (w : model.World) (es : List model.Event) (rs : List model.Reply) (mid : model.World) (e : model.Event) (r : model.Reply) (after : model.World) →
    Run w es rs mid → Step mid e r after → Run w (es ++ e ∷ []) (rs ++ r ∷ []) after
run_more w [] [] mid e r after run step = (after, subst (λ v. Step v e r after) run step, refl)
run_more w [] (y ∷ rs) mid e r after run step = absurd run
run_more w (x ∷ es) [] mid e r after run step = absurd run
run_more w (x ∷ es) (y ∷ rs) mid e r after run step = (run.0, run.1, run_more run.0 es rs mid e r after run.2 step)

-- what was printed, and one line more
pub printed_more : (old mid new : Option (List ℕ)) (bytes line : List ℕ) → Appends old mid bytes → Appends mid new line → Appends old new (bytes ++ line)
printed_more None mid new bytes line first second = tt
printed_more (Some xs) None new bytes line first second = absurd first
printed_more (Some xs) (Some ys) None bytes line first second = absurd second
printed_more (Some xs) (Some ys) (Some zs) bytes line first second = second ∙ (ap (λ start. start ++ line) first ∙ append_assoc xs bytes line)

pub nothing_printed : (old : Option (List ℕ)) → Appends old old []
nothing_printed None = tt
nothing_printed (Some xs) = sym (append-nil xs)

-- before the first event
pub none_run : (from : model.World) (old : Option (List ℕ)) → IsRunTo from [] old old from
none_run from old = record { replies = []; run = refl; printed = nothing_printed old }

-- one event more, and its line
pub ran_one_more : (from : model.World) (events : List Event) (event : Event) (rs : List Reply) (reply : Reply) (before after : model.World) → Step before (event_of event) (reply_of reply) after →
    IsRun from events rs before → IsRun from (events ++ event ∷ []) (rs ++ reply ∷ []) after
ran_one_more from events event rs reply before after step ran =
    let sent = map-append event_of events (event ∷ []) in
    let told = map-append reply_of rs (reply ∷ []) in
    rw (sent, told) (run_more from (map event_of events) (map reply_of rs) before (event_of event) (reply_of reply) after ran step)

pub printed_one_more : (rs : List Reply) (reply : Reply) (old mid new : Option (List ℕ)) → Appends old mid (flat_map reply_line rs) → Appends mid new (reply_line reply) →
    Appends old new (flat_map reply_line (rs ++ reply ∷ []))
printed_one_more rs reply old mid new before printed =
    let lines : flat_map reply_line (rs ++ reply ∷ []) ≡ flat_map reply_line rs ++ reply_line reply =
    flat_map-append reply_line rs (reply ∷ []) ∙ ap (λ last. flat_map reply_line rs ++ last) (append-nil (reply_line reply)) in
    rw lines (printed_more old mid new (flat_map reply_line rs) (reply_line reply) before printed)

pub run_one_more : (from : model.World) (events : List Event) (event : Event) (old mid new : Option (List ℕ)) (before after : model.World) (reply : Reply) →
    Step before (event_of event) (reply_of reply) after → Appends mid new (reply_line reply) →
    IsRunTo from events old mid before → IsRunTo from (events ++ event ∷ []) old new after
run_one_more from events event old mid new before after reply step printed so_far = record {
  replies = so_far.replies ++ reply ∷ [];
  run = ran_one_more from events event so_far.replies reply before after step so_far.run;
  printed = printed_one_more so_far.replies reply old mid new so_far.printed printed;
}

-- the events that these lines spell were run
pub record IsLinesRun (from : model.World) (lines : List (List ℕ)) (old new : Option (List ℕ)) (after : model.World) : Type 0 where
  pub events : List Event
  pub spelled : AllSpell lines events
  pub ran : IsRunTo from events old new after

pub no_lines_run : (from : model.World) (old : Option (List ℕ)) → IsLinesRun from [] old old from
no_lines_run from old = record { events = []; spelled = tt; ran = none_run from old }

-- one line more
pub line_run : (from : model.World) (lines : List (List ℕ)) (line : List ℕ) (old mid new : Option (List ℕ)) (before after : model.World) →
    IsRunLine before line mid new after → IsLinesRun from lines old mid before → IsLinesRun from (lines ++ line ∷ []) old new after
line_run from lines line old mid new before after one so_far = record {
  events = so_far.events ++ one.event ∷ [];
  spelled = zip_push LineSpells lines so_far.events line one.event so_far.spelled one.spells;
  ran = run_one_more from so_far.events one.event old mid new before after one.reply one.step one.printed so_far.ran;
}

-- after the last line
pub lines_run : (from : model.World) (lines all : List (List ℕ)) (old new : Option (List ℕ)) (after : model.World) → lines ≡ all → IsLinesRun from lines old new after →
    RunsLines all (λ events. IsPrintedRun from events old new (joined after.image))
lines_run from lines all old new after whole so_far = (
  so_far.events,
  subst (λ ls. AllSpell ls so_far.events) whole so_far.spelled,
  record { replies = so_far.ran.replies; after = after; run = so_far.ran.run; printed = so_far.ran.printed; left = refl },
)
