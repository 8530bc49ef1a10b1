use Rattle.std.proofs.Common.{arith}
use Rattle.std.proofs.lemmas.Int.{to_z-of_z}
use Rattle.std.specs.Int.{w64, cast_signed, cast_unsigned}
use Rattle.treefs_format.proofs.FieldBytes.{all_written}
use Rattle.treefs_format.proofs.fields.Fields.bytes.Goals as goal

pub returns : goal.returns
returns c =
    all_written c.args.self.now (cast_signed w64 (cast_unsigned w64 c.args.self.now.mtime)) (cast_signed w64 (cast_unsigned w64 c.args.self.now.ctime))
    c.put_half.new.bytes c.put_word.new.bytes c.put_word-2.new.bytes c.put_word-3.new.bytes c.put_long.new.bytes
    c.put_time.new.bytes c.put_time-2.new.bytes c.put_word-4.new.bytes c.put_word-5.new.bytes
    (grind (arith, to_z-of_z)) (grind (arith, to_z-of_z))
    c.put_half.ensures c.put_word.ensures c.put_word-2.ensures c.put_word-3.ensures c.put_long.ensures
    c.put_time.ensures c.put_time-2.ensures c.put_word-4.ensures c.put_word-5.ensures
