use Rattle.std.proofs.Common.{◌+◌, ◌-◌, ◌*◌, ◌∙◌, length, sym, ap, arith}
use Rattle.std.specs.Int.{w32, to_le_bytes}
use Rattle.ffs_format.specs.Fields.{fields_of}
use Rattle.ffs_format.proofs.Written.{put_part, direct_written}
use Rattle.ffs_format.proofs.inodes.Inode.set_direct.Goals as goal

pub returns-clause-fields : goal.returns-clause-fields
returns-clause-fields c =
    ap fields_of (put_part (to_le_bytes w32 c.args.block) (8 + 4 * c.args.i) (8 + 4 * c.args.i + 4 - (8 + 4 * c.args.i)) c.self.view_is c.self.told c.write_u32.ensures (omega arith) (omega arith))
    ∙ direct_written c.args.self.now (ap length (sym c.self.view_is) ∙ c.self.told) c.args.i c.args.block c.requires c.ranges.block.fits
