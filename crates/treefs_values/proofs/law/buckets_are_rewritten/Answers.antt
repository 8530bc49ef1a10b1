use Rattle.treefs_values.proofs.Rewriting.{rewritten_so}
use Rattle.treefs_values.proofs.law.buckets_are_rewritten.Goals as goal

pub returns : goal.returns
returns c = λ node inode top type content v n k number there few directory some.
    rewritten_so node inode top type content v n number there k few directory some
