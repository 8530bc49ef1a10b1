use Rattle.std.proofs.Common.{◌∙◌, ◌≡◌, ◌⊎◌, Err, length, sym, ap, subst}
use Rattle.xn_model.specs.Images.{block_of, joined, IsSound}
use Rattle.image_model.specs.Walk.{verdict}
use Rattle.store_types.specs.declared.image_fault.ImageFault.TheVariants.{NoMemory}
use Rattle.templates.specs.Language.{types_of_image}
use Rattle.world.specs.Worlds.{mounted_value}
use Rattle.world.proofs.Mounting.{mount_world, mount_sound, mount_value, back_unmounted, back_image, back_fault, back_memory}
use Rattle.world.proofs.unmounted.UnmountedDisk.mount.Goals as goal

pub new-requires : goal.new-requires
new-requires g c = mount_world c.self.inside.lanes c.self.inside.tickets c.self.invariant 1 c.in-Ok.kernel c.in-Ok.ensures.ok

pub new-requires-in-Err : goal.new-requires-in-Err
new-requires-in-Err g c = back_unmounted c.self.inside.lanes c.self.inside.tickets c.self.invariant c.in-Err.fault c.in-Err.lanes c.in-Err.ensures.err

pub returns-in-Ok-clause-ok : goal.returns-in-Ok-clause-ok
returns-in-Ok-clause-ok g c =
    c.new.ensures ∙ (mount_value c.self.inside.lanes c.self.inside.tickets c.self.invariant 1 c.in-Ok.kernel c.in-Ok.ensures.ok
    ∙ ap mounted_value c.self.view_is)

pub returns-in-Ok-clause-sound : goal.returns-in-Ok-clause-sound
returns-in-Ok-clause-sound g c =
    subst (λ v. IsSound (types_of_image v) (length v) (block_of v)) c.self.view_is
    (mount_sound c.self.inside.lanes c.self.inside.tickets c.self.invariant 1 c.in-Ok.kernel c.in-Ok.ensures.ok)

pub returns-in-Err-clause-back : goal.returns-in-Err-clause-back
returns-in-Err-clause-back g c = c.new-in-Err.ensures ∙ (back_image c.self.inside.lanes c.self.inside.tickets c.self.invariant c.in-Err.fault c.in-Err.lanes c.in-Err.ensures.err ∙ c.self.view_is)

pub returns-in-Err-clause-fault : goal.returns-in-Err-clause-fault
returns-in-Err-clause-fault g c =
    subst (λ v. (c.in-Err.fault ≡ NoMemory) ⊎ (verdict (types_of_image v) (joined v) ≡ Err c.in-Err.fault)) c.self.view_is
    (back_fault c.self.inside.lanes c.self.inside.tickets c.self.invariant c.in-Err.fault c.in-Err.lanes c.in-Err.ensures.err)

pub returns-in-Err-clause-memory : goal.returns-in-Err-clause-memory
returns-in-Err-clause-memory g c = λ sound.
    back_memory c.self.inside.lanes c.self.inside.tickets c.self.invariant c.in-Err.fault c.in-Err.lanes c.in-Err.ensures.err
    (subst (λ v. IsSound (types_of_image v) (length v) (block_of v)) (sym c.self.view_is) sound)
