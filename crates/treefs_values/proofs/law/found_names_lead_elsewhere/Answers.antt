use Rattle.treefs_values.proofs.Ending.{found_renamed}
use Rattle.treefs_values.proofs.law.found_names_lead_elsewhere.Goals as goal

pub returns : goal.returns
returns c = λ node inode top type content v d number name slot behind found short.
    found_renamed node inode top type content v d name slot found number short behind
