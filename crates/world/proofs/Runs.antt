-- A list of events with one more.
use Rattle.std.proofs.Common.{◌≡◌, ◌<◌, ◌+◌, ℕ, List, [], ◌∷◌, ◌++◌, length, take, map, get_or, refl, sym, ◌∙◌, ap, subst}
use Rattle.std.proofs.lemmas.List.{take_more, map-append}
use Rattle.xn_model.specs.Images.{block_of, IsSound}
use Rattle.xn_model.specs.Worlds as model
use Rattle.xn_model.specs.Worlds.{Run, Step}
use Rattle.xn_model.specs.Rules.{Holds, Agrees}
use Rattle.xn_model.proofs.ForCallers.{left_agrees, left_sound}
use Rattle.xn_state.specs.declared.event.Event.{Event}
use Rattle.xn_state.specs.declared.reply.Reply.{Reply}
use Rattle.xn_state.specs.Events.{event_of, reply_of}
use Rattle.world.specs.Worlds.{WorldValue, world_with}

run_more : (w : model.World) (es : List model.Event) (rs : List model.Reply) (mid : model.World) (e : model.Event) (r : model.Reply) (after : model.World) →
    Run w es rs mid → Step mid e r after → Run w (es ++ e ∷ []) (rs ++ r ∷ []) after
run_more w [] [] mid e r after run step = (after, subst (λ v. Step v e r after) run step, refl)
run_more w [] (y ∷ rs) mid e r after run step = absurd run
run_more w (x ∷ es) [] mid e r after run step = absurd run
run_more w (x ∷ es) (y ∷ rs) mid e r after run step = (run.0, run.1, run_more run.0 es rs mid e r after run.2 step)

-- the first events of a list, and one more
pub ran_more : (old mid after : WorldValue) (events : List Event) (at : ℕ) (default : Event) (replies new : List Reply) (reply : Reply) → at < length events →
    new ≡ replies ++ reply ∷ [] → Run (world_with old) (map event_of (take at events)) (map reply_of replies) (world_with mid) →
    Step (world_with mid) (event_of (get_or events at default)) (reply_of reply) (world_with after) →
    Run (world_with old) (map event_of (take (at + 1) events)) (map reply_of new) (world_with after)
ran_more old mid after events at default replies new reply within more run step =
    let event = get_or events at default in
    let sent = ap (map event_of) (take_more events at default within) ∙ map-append event_of (take at events) (event ∷ []) in
    let told = ap (map reply_of) more ∙ map-append reply_of replies (reply ∷ []) in
    subst (λ es. Run (world_with old) es (map reply_of new) (world_with after)) (sym sent)
    (subst (λ rs. Run (world_with old) (map event_of (take at events) ++ event_of event ∷ []) rs (world_with after)) (sym told)
    (run_more (world_with old) (map event_of (take at events)) (map reply_of replies) (world_with mid) (event_of event) (reply_of reply) (world_with after) run step))

-- what the rules say of every image that a crash may leave
pub rules_agree : (value : WorldValue) → Holds (world_with value) → (image : List (List ℕ)) → model.MayLeave (world_with value) image → Agrees (model.types_on (world_with value) image) (length image) (block_of image) value.state.lives
rules_agree value holds image may = left_agrees (world_with value) holds image may

pub rules_sound : (value : WorldValue) → Holds (world_with value) → (image : List (List ℕ)) → model.MayLeave (world_with value) image → IsSound (model.types_on (world_with value) image) (length image) (block_of image)
rules_sound value holds image may = left_sound (world_with value) holds image may
