use Rattle.std.proofs.Common.{ℕ, Option, subst, sym}
use Rattle.ffs_lib.proofs.Common.{VolumeKeeps, library_layout}
use Rattle.ffs_lib.proofs.Making.{no_numbers}
use Rattle.ffs_lib.proofs.Opening.{opened}
use Rattle.ffs_lib.proofs.volume.Volume.open.Goals as goal

pub returns-clause-ok : goal.returns-clause-ok
returns-clause-ok g c =
    let T = g.S.Store.types_of c.args.store.now in
    record {
      library = c.requires.library;
      keeps = subst (λ (array : ℕ → Option ℕ). VolumeKeeps T library_layout c.args.fs.number array (g.S.Store.state_of c.args.store.now)) no_numbers
          (opened T _ c.look_up_volume.ensures.rules c.args.fs.number c.args.fs.few c.requires (c.in_ok-look_up_volume.ensures.exact c.requires.library));
    }

pub returns-clause-added : goal.returns-clause-added
returns-clause-added g c = sym no_numbers
