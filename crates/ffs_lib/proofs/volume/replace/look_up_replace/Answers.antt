use Rattle.std.proofs.Common.{◌∙◌}
use Rattle.ffs_lib.proofs.Renaming.{told}
use Rattle.ffs_lib.proofs.Replacing.{both_are_named, no_directories, no_first_entry, no_second_entry}
use Rattle.ffs_lib.proofs.volume.replace.look_up_replace.Goals as goal

pub returns-in_err-home-clause-exact : goal.returns-in_err-home-clause-exact
returns-in_err-home-clause-exact g c = λ lib.
    told _ _ _ c.from_residual.ensures.1 (no_directories _ _ _ _ _ _ _ (c.in_err-home.ensures.exact lib))

pub returns-in_err-from-clause-exact : goal.returns-in_err-from-clause-exact
returns-in_err-from-clause-exact g c = λ lib.
    told _ _ _ c.from_residual-in_err-from.ensures.1 (no_first_entry _ _ _ _ _ _ _ _ (c.in_ok-home.ensures.exact lib) _ (c.in_ok-find_entry.ensures.exact lib) _ c.in_err-from.ensures.value)

pub returns-in_err-to-clause-exact : goal.returns-in_err-to-clause-exact
returns-in_err-to-clause-exact g c = λ lib.
    told _ _ _ c.from_residual-in_err-to.ensures.1 (no_second_entry _ _ _ _ _ _ _ _ (c.in_ok-home.ensures.exact lib) _ (c.in_ok-find_entry.ensures.exact lib) _ c.in_ok-from.ensures.value _ (c.in_ok-find_entry-2.ensures.exact lib) _ c.in_err-to.ensures.value)

pub returns-in_err-look_up_files-clause-exact : goal.returns-in_err-look_up_files-clause-exact
returns-in_err-look_up_files-clause-exact g c = λ lib.
    told _ _ _ c.from_residual-in_err-look_up_files.ensures.1 (c.in_err-look_up_files.ensures lib ∙ both_are_named _ _ _ _ _ _ _ _ (c.in_ok-home.ensures.exact lib) _ (c.in_ok-find_entry.ensures.exact lib) _ c.in_ok-from.ensures.value _ (c.in_ok-find_entry-2.ensures.exact lib) _ c.in_ok-to.ensures.value)

pub returns-clause-exact : goal.returns-clause-exact
returns-clause-exact g c = λ lib.
    c.in_ok-look_up_files.ensures lib ∙ both_are_named _ _ _ _ _ _ _ _ (c.in_ok-home.ensures.exact lib) _ (c.in_ok-find_entry.ensures.exact lib) _ c.in_ok-from.ensures.value _ (c.in_ok-find_entry-2.ensures.exact lib) _ c.in_ok-to.ensures.value
