use Rattle.std.proofs.Common.{◌≡◌, ◌∙◌, length, [], None, subst, All}
use Rattle.xn_model.specs.Images.{blocks_in, joined}
use Rattle.templates.specs.Formats.{format_fault, formatted}
use Rattle.templates.specs.Templates.{IsTemplate}
use Rattle.ffs_format.specs.Library.{file_system_templates}
use Rattle.crash_check.specs.Mounts.{kernel_of}
use Rattle.volume_pair.proofs.Fresh.{kernel_kept}
use Rattle.volume_pair.proofs.kernels.fresh_kernel.Goals as goal

pub returns : goal.returns
returns g c =
    let ts = file_system_templates in
    let blocks = c.args.blocks in
    let kernel = c.in_ok-kernel.kernel in
    let same = c.deref-2.ensures.value ∙ c.in_ok-templates.ensures in
    let fresh = kernel_kept blocks ts (subst (λ l. format_fault blocks (length l) ≡ None) same c.in-Ok.ensures.0) (subst (All IsTemplate) (c.deref.ensures.value ∙ c.in_ok-templates.ensures) c.are_templates.ensures)
    _ (subst (λ l. c.in-Ok.image.items ≡ joined (formatted blocks l)) same c.in-Ok.ensures.1) (c.templates_are_the_librarys.ensures.formatted []) kernel.lanes kernel
    (subst (λ b. kernel ≡ kernel_of 1 kernel.lanes (blocks_in b)) c.deref-3.ensures.value c.in_ok-kernel.ensures) in
    record { has = fresh.0; kept = fresh.1 }
