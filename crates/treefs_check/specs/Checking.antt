-- All that is wrong with a volume, as the newest bytes are.
use Rattle.std.specs.Prelude.{◌≡◌, List, ◌++◌}
use Rattle.xn_model.specs.Lives.{StoreState}
use Rattle.treefs_lookup.specs.Readable.{readable}
use Rattle.treefs_edits.specs.declared.tree.Tree.{Tree}
use Rattle.treefs_mending.specs.Surveys.{Survey, survey_of}
use Rattle.treefs_check.specs.Findings.{Finding}
use Rattle.treefs_check.specs.Inodes.{AreInodeFindings}
use Rattle.treefs_check.specs.Names.{AreUnfound, surplus_findings, top_findings}

-- by a survey of its names
abbrev pub AreFindingsBy : StoreState → Tree → Survey → List Finding → Type 0
AreFindingsBy state tree survey findings =
    let content = readable state tree.fs.number in
    (unfound : List Finding) × (inodes : List Finding) × AreUnfound state tree survey.directories unfound
    × AreInodeFindings content tree.top survey 1 inodes
    × (findings ≡ top_findings content tree.top ++ (surplus_findings content tree.top survey.surplus ++ (unfound ++ inodes)))

abbrev pub AreFindings : StoreState → Tree → List Finding → Type 0
AreFindings state tree findings = AreFindingsBy state tree (survey_of (readable state tree.fs.number) tree.top) findings
