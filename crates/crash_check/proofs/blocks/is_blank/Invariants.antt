use Rattle.std.proofs.Common.{◌≡◌, ◌&&◌, ◌==◌, drop}
use Rattle.xn_model.specs.Lists.{blank}
use Rattle.crash_check.proofs.blocks.is_blank.Given as goal

abbrev pub invariant-loop-byte : goal.invariant-loop-byte
invariant-loop-byte l = blank l.bytes ≡ ((l.bits == 0) && blank (drop l.byte-index l.bytes))
