use Rattle.fault_runs.proofs.failing.at_once.run_at_once.Given as goal

-- the floor that was just made
abbrev pub ghosts-scene : goal.ghosts-scene
ghosts-scene g a = record { floor = a.floor }
