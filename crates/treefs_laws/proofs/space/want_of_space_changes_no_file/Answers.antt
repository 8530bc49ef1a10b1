use Rattle.treefs_laws.proofs.SpaceLacked.{begin_leaves, commit_leaves, create_leaves, link_leaves, mkdir_leaves, rename_leaves, rmdir_leaves, symlink_leaves}
use Rattle.treefs_laws.proofs.space.want_of_space_changes_no_file.Goals as goal

pub returns-clause-create : goal.returns-clause-create
returns-clause-create c = λ T state state' volume volume' d name attributes fault is_open space does.
    create_leaves T state state' volume volume' is_open d name fault space attributes does

pub returns-clause-symlink : goal.returns-clause-symlink
returns-clause-symlink c = λ T state state' volume volume' d name attributes target fault is_open space does.
    symlink_leaves T state state' volume volume' is_open d name fault space attributes target does

pub returns-clause-mkdir : goal.returns-clause-mkdir
returns-clause-mkdir c = λ T state state' volume volume' d name attributes fault is_open space does.
    mkdir_leaves T state state' volume volume' is_open d name fault space attributes does

pub returns-clause-link : goal.returns-clause-link
returns-clause-link c = λ T state state' volume volume' n d name fault is_open space does.
    link_leaves T state state' volume volume' is_open d name fault space n does

pub returns-clause-rmdir : goal.returns-clause-rmdir
returns-clause-rmdir c = λ T state state' volume volume' d name fault is_open space does.
    rmdir_leaves T state state' volume volume' is_open d name fault space does

pub returns-clause-rename : goal.returns-clause-rename
returns-clause-rename c = λ T state state' volume volume' d name to new fault is_open space does.
    rename_leaves T state state' volume volume' is_open d name fault space to new does

pub returns-clause-begin : goal.returns-clause-begin
returns-clause-begin c = λ T state state' volume kind attributes head fault is_open space does.
    begin_leaves T state state' volume fault is_open kind attributes head does

pub returns-clause-commit : goal.returns-clause-commit
returns-clause-commit c = λ T state state' volume volume' block d name replace fault is_open space does.
    commit_leaves T state state' volume volume' is_open d name fault space block replace does
