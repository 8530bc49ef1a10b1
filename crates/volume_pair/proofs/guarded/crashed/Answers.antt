use Rattle.std.proofs.Common.{[], sym, subst}
use Rattle.ffs_model.specs.Library.{library_layout}
use Rattle.ffs_model.specs.Volumes.{VolumeKeeps, no_edits}
use Rattle.xn_state.specs.States.{own_types}
use Rattle.xn_state.specs.Events.{reply_of}
use Rattle.world.specs.Worlds.{WorldValue}
use Rattle.volume_pair.specs.Kept.{HasLibrary}
use Rattle.volume_pair.specs.LibraryTypes.{IsRemounted}
use Rattle.volume_pair.proofs.Crashed.{remounted, volumes_kept}
use Rattle.volume_pair.proofs.guarded.crashed.Goals as goal

pub returns-in-Mounted-clause-remounted : goal.returns-in-Mounted-clause-remounted
returns-in-Mounted-clause-remounted g c =
    let has = subst (λ (v : WorldValue). HasLibrary (own_types v.state) v.state) (sym c.up-world.ensures) c.requires.library in
    subst IsRemounted (sym c.in-Ok.ensures.ok.0)
    (remounted c.up-world.result c.step-reply.new.self c.args.kept.items (reply_of c.step-reply.result) c.rules.ensures c.step-reply.ensures.step (c.templates_are_the_librarys.ensures.formatted []) has)

pub returns-in-Mounted-clause-keeps : goal.returns-in-Mounted-clause-keeps
returns-in-Mounted-clause-keeps g c fs array few v =
    let has = subst (λ (v : WorldValue). HasLibrary (own_types v.state) v.state) (sym c.up-world.ensures) c.requires.library in
    subst (λ (w : WorldValue). VolumeKeeps (own_types w.state) library_layout fs no_edits w.state) (sym c.in-Ok.ensures.ok.0)
    (volumes_kept c.up-world.result c.step-reply.new.self c.args.kept.items (reply_of c.step-reply.result) c.rules.ensures c.step-reply.ensures.step (c.templates_are_the_librarys.ensures.formatted []) has
    fs array few (subst (λ (w : WorldValue). VolumeKeeps (own_types w.state) library_layout fs array w.state) (sym c.up-world.ensures) v))
