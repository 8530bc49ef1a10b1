use Rattle.treefs_laws.proofs.Listing.{listed_so}
use Rattle.treefs_laws.proofs.law.directories_are_listed.Goals as goal

pub returns : goal.returns
returns c = λ T state volume n parent inode names buckets kept there content_is are.
    listed_so T state volume kept n inode parent names buckets there content_is are
