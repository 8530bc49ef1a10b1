use Rattle.file_runs.proofs.rows.tell_shared.Given as goal

-- the floor that was just made
abbrev pub ghosts-tell_locked : goal.ghosts-tell_locked
ghosts-tell_locked g a = record { floor = a.floor }
