use Rattle.ffs_model.proofs.Standing.{replaced}
use Rattle.ffs_model.proofs.removals.replaces_keep.Goals as goal

pub returns : goal.returns
returns c = λ T L fs array state first second third fourth fifth n m a g d x c z more turn clear less last one two three four five q some former apart at other_at used added done2 comes2 named made done3 comes3 old_named other cleared done4 comes4 taken done5 comes5 change.
    replaced T L q.reads fs q.few array state first second third fourth fifth q.keeps n m a g d x c z some former apart at other_at more turn clear less last one two three four five
    q.done used added done2 comes2 named made done3 old_named other comes3 cleared done4 comes4 taken done5 comes5 change
