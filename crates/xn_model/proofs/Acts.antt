-- What act gives is a step, so every list of events has a run; and a bare disk is sound.
use Rattle.std.proofs.Common.{◌≡◌, ℕ, false, cond, List, [], ◌∷◌, refl, ap, inl}
use Rattle.std.specs.List.{AllByRecursion}
use Rattle.std.proofs.lemmas.Bool.{and_right}
use Rattle.xn_model.specs.Mounts.{recovered}
use Rattle.xn_model.specs.Worlds.{World, types_on, Event, Client, Install, Begin, Land, Fail, Sync, FailSync, Finish, Crash, Reply, Down, act, crash, left, replies, world_after, Step, Run, IsEvent}
use Rattle.xn_model.specs.Rules.{Holds}
use Rattle.xn_model.proofs.Runs.{step_keeps, crash_sound}
use Rattle.xn_model.proofs.Walk.{recovered_is}
use Rattle.xn_model.proofs.Languages.{built_ins_in}
use Rattle.xn_model.specs.Images.{block_of}

crash_is : (w : World) (kept : List ℕ) → act w (Crash kept) ≡ crash w kept
crash_is w kept = ap (λ b. cond b (Down, w) (crash w kept)) (and_right w.down false refl)

pub act_steps : (w : World) → Holds w → (e : Event) → Step w e (act w e).0 (act w e).1
act_steps w h (Client fs c) = inl (refl, refl)
act_steps w h (Install m) = inl (refl, refl)
act_steps w h (Begin b) = inl (refl, refl)
act_steps w h (Land b) = inl (refl, refl)
act_steps w h (Fail b stays) = inl (refl, refl)
act_steps w h (Finish b) = inl (refl, refl)
act_steps w h (Sync b) = inl (refl, refl)
act_steps w h (FailSync b) = inl (refl, refl)
act_steps w h (Crash kept) = (
  recovered (types_on w (left w kept)) (left w kept),
  recovered_is (types_on w (left w kept)) (built_ins_in w.language (block_of (left w kept))) (left w kept) (crash_sound w h kept),
  inl (ap (λ (r : Reply × World). r.0) (crash_is w kept), ap (λ (r : Reply × World). r.1) (crash_is w kept)),
)

pub acts_run : (w : World) (es : List Event) → Holds w → AllByRecursion IsEvent es → Run w es (replies w es) (world_after w es)
acts_run w [] h each = refl
acts_run w (e ∷ es) h each = ((act w e).1, act_steps w h e, acts_run (act w e).1 es (step_keeps w e (act w e).0 (act w e).1 each.0 h (act_steps w h e)) each.1)
