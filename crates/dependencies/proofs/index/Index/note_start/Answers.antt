use Rattle.std.proofs.Common.{arith, subst, sym}
use Rattle.block_cache.specs.Systems.{system_of}
use Rattle.dependencies.specs.Index.{IsIndex}
use Rattle.dependencies.proofs.Counting.{system_few, system_within}
use Rattle.dependencies.proofs.IndexChanges.{started_index}
use Rattle.dependencies.proofs.index.Index.note_start.Goals as goal

pub count_entry-requires : goal.count_entry-requires
count_entry-requires c = rw (← c.self.view_is) at c.requires

pub returns : goal.returns
returns c = λ lives ty bytes is free fresh.
    rw (c.take.ensures, c.mark.ensures, c.set.ensures, c.put.ensures.home, c.count_entry.ensures.pending, c.count_entry.ensures.oldest) (
    started_index lives _ c.args.block c.args.number (system_of c.args.fs) ty bytes (subst (IsIndex lives) (sym c.self.view_is) is)
    (system_within c.args.fs c.self.inside.pending (omega arith)) (system_within c.args.fs c.self.inside.oldest (omega arith)) (system_few c.args.fs) c.put.ensures.room free fresh)
