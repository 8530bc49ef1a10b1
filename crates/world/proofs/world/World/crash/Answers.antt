use Rattle.std.proofs.Common.{◌≡◌, ◌∙◌, ◌-◌, length, sym, ap, subst}
use Rattle.xn_model.specs.Calls.{free_of}
use Rattle.xn_model.specs.Worlds as model
use Rattle.world.specs.Worlds.{WorldValue, world_with, mounted_value, down_value, IsSoundDisk}
use Rattle.world.specs.WorldDisks.{disk_value}
use Rattle.xn_state.specs.Events.{reply_of}
use Rattle.world.proofs.Crashes.{crash_mounts, crash_stops}
use Rattle.world.proofs.world.World.crash.Goals as goal

pub returns-in-Ok : goal.returns-in-Ok
returns-in-Ok g c =
    let now : WorldValue = c.args.self.now in
    let kept = c.args.kept.now in
    let same : disk_value c.replace.result ≡ now = ap disk_value c.replace.ensures.value ∙ c.self.view_is in
    let image : c.left-disk.result ≡ model.left (world_with now) kept =
    subst (λ (v : WorldValue). c.left-disk.result ≡ model.left (world_with v) kept) same c.left-disk.ensures.image in
    let disk : c.in-Ok.running ≡ mounted_value (model.left (world_with now) kept) = c.in-Ok.ensures.ok ∙ ap mounted_value image in
    let reply = c.counts-reply.ensures ∙ ap (λ (v : WorldValue). model.Mounted (length v.state.lives - free_of v.state) (free_of v.state)) disk in
    subst (λ (v : WorldValue). model.AfterCrash (world_with now) kept (reply_of c.counts-reply.result) (world_with v)) (sym disk)
    (subst (λ r. model.AfterCrash (world_with now) kept r (world_with (mounted_value (model.left (world_with now) kept)))) (sym reply) (crash_mounts now kept (subst IsSoundDisk image c.left-disk.ensures.sound)))

pub returns-in-Err-NoMemory-default : goal.returns-in-Err-NoMemory-default
returns-in-Err-NoMemory-default g c =
    let now : WorldValue = c.args.self.now in
    let kept = c.args.kept.now in
    let same : disk_value c.replace.result ≡ now = ap disk_value c.replace.ensures.value ∙ c.self.view_is in
    let image : c.left-disk.result ≡ model.left (world_with now) kept =
    subst (λ (v : WorldValue). c.left-disk.result ≡ model.left (world_with v) kept) same c.left-disk.ensures.image in
    let disk : c.in-Err-NoMemory-default.disk ≡ model.left (world_with now) kept = c.in-Err-NoMemory-default.ensures.back ∙ image in
    subst (λ (v : WorldValue). model.AfterCrash (world_with now) kept model.Down (world_with v)) (sym (ap down_value disk))
    (crash_stops now kept (subst IsSoundDisk image c.left-disk.ensures.sound))
