use Rattle.std.proofs.Common.{◌≡◌, length}
use Rattle.templates.specs.Tables.{table_types}
use Rattle.crash_check.specs.Known.{AreKnown}
use Rattle.crash_check.proofs.known.KnownTypes.new.Given as goal

abbrev pub invariant-loop-ty : goal.invariant-loop-ty
invariant-loop-ty l = record {
  known : AreKnown (table_types l.table) (record { marks = l.marks; sizes = l.sizes });
  marks : length l.marks ≡ 19;
  sizes : length l.sizes ≡ 19;
}
