use Rattle.std.proofs.Common.{◌/◌, ◌∙◌, ◌≡◌, ◌+◌, Ok, ap, length, subst, sym, arith}
use Rattle.std.proofs.lemmas.List.{length-map}
use Rattle.xn_model.specs.Images.{block_of, blocks_in}
use Rattle.image_model.specs.Walk.{count_of, block_at, reached_list, free_list, report_of}
use Rattle.image_model.specs.Report.{IsReport}
use Rattle.image_model.proofs.ForCallers.{length-blocks, verdict-sound}
use Rattle.templates.specs.Language.{language, types_of_image}
use Rattle.xn_model.proofs.ForCallers.{built_ins_in}
use Rattle.crash_check.specs.Answers.{counts_of}
use Rattle.crash_check.proofs.report.count.Goals as goal

pub returns-clause-sound : goal.returns-clause-sound
returns-clause-sound g c =
    let image = c.args.image.now in
    (verdict-sound (types_of_image (blocks_in image)) (built_ins_in language (block_of (blocks_in image))) image c.in_ok-findings.findings.named.entries c.in_ok-findings.ensures.verdict).0

pub returns-clause-report : goal.returns-clause-report
returns-clause-report g c =
    let image = c.args.image.now in
    let named = c.in_ok-findings.findings.named.entries in
    let r = (verdict-sound (types_of_image (blocks_in image)) (built_ins_in language (block_of (blocks_in image))) image named c.in_ok-findings.ensures.verdict).1 in (
      reached_list named,
      free_list (length image / 512) named,
      subst (λ n. IsReport (types_of_image (blocks_in image)) (count_of image) (block_at image) (reached_list named) (free_list n named)) (length-blocks image) r,
      simp (length-map) (omega (arith, c.len.ensures.len)),
      c.free_count.ensures,
    )

pub returns-clause-counts : goal.returns-clause-counts
returns-clause-counts g c =
    let image = c.args.image.now in
    let named = c.in_ok-findings.findings.named.entries in
    let reached : length (reached_list named) ≡ c.len.result + 1 = simp (length-map) (omega (arith, c.len.ensures.len)) in
    ap (λ found. counts_of (report_of (count_of image) found)) c.in_ok-findings.ensures.verdict
    ∙ (λ i. Ok (reached i, (ap (λ n. length (free_list n named)) (length-blocks image) ∙ sym c.free_count.ensures) i))
