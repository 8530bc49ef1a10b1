use Rattle.std.proofs.Common.{◌∙◌, arith}
use Rattle.std.proofs.lemmas.List.{length-set}
use Rattle.templates.specs.Tables.{table_types}
use Rattle.crash_check.proofs.LookedUp.{known-more}
use Rattle.crash_check.proofs.known.KnownTypes.new.Goals as goal

pub loop-ty-preserved : goal.loop-ty-preserved
loop-ty-preserved c = record {
  known =
      known-more (table_types c.args.table.now) (record { marks = c.loop-ty.marks; sizes = c.loop-ty.sizes }) c.loop-ty.ty c.is_installed.result c.size_of_all.result
      c.loop-ty.invariant.known (omega arith) (omega arith) (omega arith) c.is_installed.ensures c.size_of_all.ensures;
  marks = length-set c.loop-ty.marks c.loop-ty.ty c.is_installed.result ∙ c.loop-ty.invariant.marks;
  sizes = length-set c.loop-ty.sizes c.loop-ty.ty c.size_of_all.result ∙ c.loop-ty.invariant.sizes;
}
