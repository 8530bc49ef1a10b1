use Rattle.std.proofs.Common.{◌∙◌, ap, arith}
use Rattle.std.specs.Prelude.{count_by}
use Rattle.free_map.specs.Members.{is_member}
use Rattle.dependencies.specs.Candidates.{CandidatesValue}
use Rattle.dependencies.proofs.Trimming.{no_least}
use Rattle.dependencies.proofs.candidates.Candidates.trim.Goals as goal

pub returns-else-count-gt0-clause-trimmed : goal.returns-else-count-gt0-clause-trimmed
returns-else-count-gt0-clause-trimmed c = λ b least.
    let none = c.count.ensures ∙ ap (λ (q : CandidatesValue). count_by is_member q.blocks) c.self.view_is in
    absurd (no_least c.args.self.now.blocks b (omega (arith, none, c.if-count-gt0.false)) least)
