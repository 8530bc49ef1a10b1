use Rattle.std.proofs.Common.{◌∙◌, length}
use Rattle.ffs_lib.proofs.Common.{latest, on_ok_weaker}
use Rattle.ffs_lib.proofs.Parts.{in_one_block}
use Rattle.ffs_lib.proofs.data.read_part.Goals as goal

pub returns-clause-bytes : goal.returns-clause-bytes
returns-clause-bytes g c =
    on_ok_weaker c.copy_block.result
    (λ e. e ∙ in_one_block (latest (g.S.Store.state_of c.args.store.now).lives) c.args.file.now.inode c.in_ok-block.block c.args.at (length c.args.bytes.now) c.in_ok-block.ensures.block c.requires.within)
    c.copy_block.ensures.bytes
