use Rattle.fault_runs.proofs.refused.clients.is_answered.Given as goal

-- the floor that was just made
abbrev pub ghosts-has_answer : goal.ghosts-has_answer
ghosts-has_answer g a = record { floor = a.floor }
