use Rattle.fault_runs.proofs.refused.spare.print_spare.Given as goal

-- the floor that was just made
abbrev pub ghosts-print_calls : goal.ghosts-print_calls
ghosts-print_calls g a = record { floor = a.floor }
