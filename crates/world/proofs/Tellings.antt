-- What a world's runs tell.
use Rattle.std.proofs.Common.{ℕ, ◌≤◌, List, [], ◌∷◌, map, length, refl}
use Rattle.std.specs.Prelude.{All}
use Rattle.std.specs.List.{AllByRecursion}
use Rattle.std.proofs.lemmas.List.Elements.{All-head, All-tail}
use Rattle.xn_model.specs.Images.{IsDiskSize, IsSound, block_of}
use Rattle.xn_model.specs.Mounts.{recovered}
use Rattle.xn_model.specs.BareDisks.{mounted_disk}
use Rattle.xn_model.specs.Worlds as model
use Rattle.xn_model.proofs.ForCallers.{built_ins_in, recovered_is, world_sound}
use Rattle.xn_history.specs.Histories.{Histories, first_histories}
use Rattle.xn_history.specs.Moments.{RunWhere, Anything, IsMoment}
use Rattle.xn_history.specs.Promises.{ImageHolds}
use Rattle.xn_history.proofs.ForCallers.{image_holds, moment_after, moment_knows, run_heard}
use Rattle.templates.specs.Templates.{TemplateValue, IsTemplate}
use Rattle.templates.specs.Formats.{formatted}
use Rattle.templates.proofs.ForCallers.{formatted_holds}
use Rattle.templates.specs.Language.{language, types_of_image}
use Rattle.xn_state.specs.declared.event.Event.{Event}
use Rattle.xn_state.specs.Events.{event_of}

-- each event of a list is one
pub are_events : (es : List Event) → All (λ e. model.IsEvent (event_of e)) es → AllByRecursion model.IsEvent (map event_of es)
are_events [] all = tt
are_events (e ∷ es) all = (All-head (λ e. model.IsEvent (event_of e)) e es all, are_events es (All-tail (λ e. model.IsEvent (event_of e)) e es all))

pub ran_told : (w after : model.World) (hs : Histories) → IsMoment w hs → (es : List model.Event) (rs : List model.Reply) → AllByRecursion model.IsEvent es → model.Run w es rs after →
    (hs' : Histories) × IsMoment after hs' × RunWhere Anything w hs es rs after hs' × ((image : List (List ℕ)) → model.MayLeave after image → ImageHolds after image hs')
ran_told w after hs m es rs each run =
    let r = run_heard w hs es rs after run in
    let now = moment_after w hs m es rs after r.0 each r.1 in
    let k = moment_knows after r.0 now in
    (r.0, now, r.1, image_holds after k.0 r.0 k.1)

-- a sound disk is at the moment of its first mount
pub opened_moment : (image : List (List ℕ)) → IsSound (types_of_image image) (length image) (block_of image) → (hs : Histories) × IsMoment (mounted_disk language image) hs
opened_moment image sound =
    let T = types_of_image image in (
      first_histories (recovered T image),
      record {
        disk = mounted_disk language image;
        lives = recovered T image;
        sound = sound;
        recovered = recovered_is T (built_ins_in language (block_of image)) image sound;
        events = [];
        replies = [];
        each = tt;
        run = (refl, refl);
      },
    )

-- a fresh disk is at the moment of its first mount
pub fresh_moment : (count : ℕ) (ts : List TemplateValue) → IsDiskSize count → length ts ≤ 16 → All IsTemplate ts → (hs : Histories) × IsMoment (mounted_disk language (formatted count ts)) hs
fresh_moment count ts size few all = opened_moment (formatted count ts) (world_sound (mounted_disk language (formatted count ts)) (formatted_holds count ts size few all))
