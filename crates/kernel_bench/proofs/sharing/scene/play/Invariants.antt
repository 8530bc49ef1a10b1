use Rattle.kernel_bench.proofs.sharing.scene.play.Given as goal

-- the floor that was just made
abbrev pub ghosts-scene : goal.ghosts-scene
ghosts-scene g a = record { floor = a.floor }
