use Rattle.std.proofs.Common.{◌∙◌, length, refl, sym, ap, arith}
use Rattle.std.specs.Int.{w32, to_le_bytes}
use Rattle.ffs_format.specs.Fields.{fields_of}
use Rattle.ffs_format.proofs.Written.{put_part, indirect_written}
use Rattle.ffs_format.proofs.inodes.Inode.set_indirect.Goals as goal

pub returns-clause-bytes : goal.returns-clause-bytes
returns-clause-bytes c = put_part (to_le_bytes w32 c.args.block) 56 4 c.self.view_is c.self.told c.write_u32.ensures refl (omega arith)

pub returns-clause-fields : goal.returns-clause-fields
returns-clause-fields c =
    ap fields_of (put_part (to_le_bytes w32 c.args.block) 56 4 c.self.view_is c.self.told c.write_u32.ensures refl (omega arith))
    ∙ indirect_written c.args.self.now (ap length (sym c.self.view_is) ∙ c.self.told) c.args.block c.ranges.block.fits
