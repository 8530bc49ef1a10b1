use Rattle.treefs_laws.proofs.RefusedMoves.{rename_refused}
use Rattle.treefs_laws.proofs.law.refused_rename_answers_the_files.Goals as goal

pub returns : goal.returns
returns c =
    λ T state state' volume volume' d name to new fault kept does. rename_refused T state volume kept d name to new fault state' volume' does
