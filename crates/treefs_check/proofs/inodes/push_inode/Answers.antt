use Rattle.std.proofs.Common.{◌≡◌, ◌++◌, ap, ◌∙◌}
use Rattle.treefs_mending.specs.Inodes.{inode_plan}
use Rattle.treefs_mending.specs.Surveys.{Survey}
use Rattle.treefs_check.specs.Findings.{if_finding}
use Rattle.treefs_check.specs.Inodes.{links_finding, long_finding, parent_finding}
use Rattle.treefs_check.proofs.Appended.{four, said}
use Rattle.treefs_check.proofs.inodes.push_inode.Goals as goal

pub returns : goal.returns
returns g c =
    let survey = c.args.survey.now in
    let numbered = c.args.numbered.now in
    let plan = inode_plan survey.tallies numbered.number numbered.inode in
    let planned : c.plan_inode-plan.result ≡ plan =
    c.plan_inode-plan.ensures ∙ ap (λ tallies. inode_plan tallies numbered.number numbered.inode) (c.deref.ensures.value ∙ ap (λ (s : Survey). s.tallies) c.survey.view_is) in
    let links : c.links_finding.result ≡ links_finding survey numbered plan.links =
    c.links_finding.ensures ∙ ap (λ p. links_finding survey numbered p.links) planned in
    let parent : c.parent_finding.result ≡ parent_finding numbered plan.parent =
    c.parent_finding.ensures ∙ ap (λ p. parent_finding numbered p.parent) planned in
    let long : c.long_finding.result ≡ long_finding numbered = c.long_finding.ensures in
    let a = if_finding c.links_finding.result in
    let b = if_finding c.parent_finding.result in
    let l = if_finding c.long_finding.result in
    let d = if_finding c.size_finding.result in
    let a' = if_finding (links_finding survey numbered plan.links) in
    let b' = if_finding (parent_finding numbered plan.parent) in
    said c.push_if-4.result
    (λ done more. (
      a ++ (b ++ (l ++ d)),
      (
        c.size_finding.result,
        c.size_finding.ensures,
        ap (λ f. if_finding f ++ (b ++ (l ++ d))) links
            ∙ (ap (λ f. a' ++ (if_finding f ++ (l ++ d))) parent ∙ ap (λ f. a' ++ (b' ++ (if_finding f ++ d))) long),
      ),
      four c.args.findings.now.items a b l d c.in_ok-push_if.ensures c.in_ok-push_if-2.ensures c.in_ok-push_if-3.ensures more,
    )) c.push_if-4.ensures
