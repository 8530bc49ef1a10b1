use Rattle.volume_pair.proofs.files.Files.new.Goals as goal

pub invariant_of-result : goal.invariant_of-result
invariant_of-result g c = rw c.new.ensures (c.requires.kept c.args.first.number c.args.first.few)
