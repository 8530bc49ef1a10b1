use Rattle.shared_scenes.proofs.scene.play.Given as goal

-- the floor that was just made
abbrev pub ghosts-play_over : goal.ghosts-play_over
ghosts-play_over g a = record { floor = a.floor }
