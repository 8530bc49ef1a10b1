-- What crates above cite in their proofs. They import no other module of these proofs.
pub use Rattle.claims.proofs.ClaimsByStatus.{claimed_is, newest_once}
pub use Rattle.claims.proofs.Climbing.{has_block}
pub use Rattle.claims.proofs.Counted.{accepted_counts, begun_counts, ended_counts, few_owned, may_drop_all, settled_counts, started_counts}
pub use Rattle.claims.proofs.ListCounts.{inside_from}
pub use Rattle.claims.proofs.Deciding.{accepted_decided, begun_decided, ended_decided, none_decided, settled_decided, started_decided}
pub use Rattle.claims.proofs.CountedPairs.{owned_counted}
pub use Rattle.claims.proofs.Insertions.{insertion_claimed}
pub use Rattle.claims.proofs.Leaving.{agree_patched}
pub use Rattle.claims.proofs.OwnedPairs.{pair_owned}
pub use Rattle.claims.proofs.Owners.{alive_place}
