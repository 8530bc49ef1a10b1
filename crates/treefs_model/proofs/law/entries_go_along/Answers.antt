use Rattle.std.specs.Prelude.{IsTrue}
use Rattle.ffs_model.specs.Cuts.{IsFullAt}
use Rattle.treefs_model.proofs.Follows.{along_others, last_edit}
use Rattle.treefs_model.proofs.law.entries_go_along.Goals as goal

pub returns-clause-last : goal.returns-clause-last
returns-clause-last c = λ T act old new number those those' e were v. last_edit T act old new number e (λ x t. IsTrue (those x t.entry)) (λ x t. IsTrue (those' x t.entry)) were v

pub returns-clause-others : goal.returns-clause-others
returns-clause-others c = λ fs a old new those those' kept were v. along_others fs old new kept (λ k. IsFullAt old k a) (λ k. IsFullAt new k a) (λ x t. IsTrue (those x t.entry)) (λ x t. IsTrue (those' x t.entry))
    (λ k cut full. (kept k cut).full a full) were v
