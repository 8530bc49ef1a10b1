use Rattle.std.proofs.Common.{◌≡◌, ◌∙◌, ℕ, None, Some, ap, inl, subst, sym}
use Rattle.std.specs.Prelude.{position}
use Rattle.std.proofs.lemmas.Option.{same_Some}
use Rattle.free_map.specs.Members.{is_member}
use Rattle.dependencies.specs.Candidates.{CandidatesValue}
use Rattle.dependencies.specs.Waiting.{WaitsFor}
use Rattle.dependencies.proofs.Accounts.{parked}
use Rattle.dependencies.proofs.Early.{none_waits, unmet_waits}
use Rattle.dependencies.proofs.Trimming.{fewer_members, refused_trims, stays_or_parks}
use Rattle.dependencies.proofs.candidates.Candidates.park_least.Goals as goal

pub returns-in_default-unmet_at-clause-trimmed : goal.returns-in_default-unmet_at-clause-trimmed
returns-in_default-unmet_at-clause-trimmed c = λ none b least.
    let same : c.in-Some.block ≡ b = same_Some c.in-Some.block b (c.in-Some.ensures ∙ (ap (λ (q : CandidatesValue). position is_member q.blocks) c.self.view_is ∙ least)) in
    inl (subst (λ k. (j : ℕ) → WaitsFor c.args.cache.now k j → ⊥) same (none_waits c.args.cache.now c.in-Some.block None c.in_default-unmet_at.ensures))

pub returns-clause-kept : goal.returns-clause-kept
returns-clause-kept c =
    parked c.args.cache.now c.args.self.now c.park.new.self c.in-Some.block c.in-Some-unmet_at.other c.requires.candidates (unmet_waits c.args.cache.now c.in-Some.block (Some c.in-Some-unmet_at.other) c.in-Some-unmet_at.ensures)
    (stays_or_parks c.park.result c.args.self.now c.park.new.self c.in-Some.block c.in-Some-unmet_at.other c.park.ensures.parks c.park.ensures.stays)

pub returns-clause-fewer : goal.returns-clause-fewer
returns-clause-fewer c = λ yes.
    fewer_members c.args.self.now.blocks c.park.new.self.blocks c.in-Some.block (sym (c.in-Some.ensures ∙ ap (λ (q : CandidatesValue). position is_member q.blocks) c.self.view_is)) (c.park.ensures.parks yes).blocks

pub returns-clause-trimmed : goal.returns-clause-trimmed
returns-clause-trimmed c = λ no.
    refused_trims c.args.cache.now c.args.self.now c.park.new.self c.in-Some.block c.in-Some-unmet_at.other (c.park.ensures.stays no)
    (c.in-Some.ensures ∙ ap (λ (q : CandidatesValue). position is_member q.blocks) c.self.view_is)
    (unmet_waits c.args.cache.now c.in-Some.block (Some c.in-Some-unmet_at.other) c.in-Some-unmet_at.ensures) (c.park.ensures.refused no)
