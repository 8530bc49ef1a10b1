use Rattle.std.proofs.Common.{◌∙◌, length, refl, sym, ap, arith}
use Rattle.std.specs.Int.{w16, to_le_bytes}
use Rattle.ffs_format.specs.Fields.{fields_of}
use Rattle.ffs_format.proofs.Written.{put_part, links_written}
use Rattle.ffs_format.proofs.inodes.Inode.set_links.Goals as goal

pub returns-clause-fields : goal.returns-clause-fields
returns-clause-fields c =
    ap fields_of (put_part (to_le_bytes w16 c.args.links) 2 2 c.self.view_is c.self.told c.write_u16.ensures refl (omega arith))
    ∙ links_written c.args.self.now (ap length (sym c.self.view_is) ∙ c.self.told) c.args.links c.ranges.links.fits
