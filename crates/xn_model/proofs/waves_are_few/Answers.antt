use Rattle.xn_model.proofs.Ranks.{entries_rank, waves_ranked, waves_chain}
use Rattle.xn_model.proofs.waves_are_few.Goals as goal

pub returns-clause-chain : goal.returns-clause-chain
returns-clause-chain c = waves_chain

pub returns-clause-few : goal.returns-clause-few
returns-clause-few c = waves_ranked

pub returns-clause-ranks : goal.returns-clause-ranks
returns-clause-ranks c = entries_rank
