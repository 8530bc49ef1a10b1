use Rattle.treefs_laws.proofs.RefusedNames.{create_refused, mkdir_refused, symlink_refused}
use Rattle.treefs_laws.proofs.law.refused_new_inodes_answer_the_files.Goals as goal

pub returns-clause-create : goal.returns-clause-create
returns-clause-create c = λ T state state' volume volume' d name attributes fault does. create_refused T state state' volume volume' d name fault attributes does

pub returns-clause-symlink : goal.returns-clause-symlink
returns-clause-symlink c = λ T state state' volume volume' d name attributes target fault does. symlink_refused T state state' volume volume' d name fault attributes target does

pub returns-clause-mkdir : goal.returns-clause-mkdir
returns-clause-mkdir c = λ T state state' volume volume' d name attributes fault does. mkdir_refused T state state' volume volume' d name fault attributes does
