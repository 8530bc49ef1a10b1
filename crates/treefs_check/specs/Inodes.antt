-- What is wrong with inodes.
--     names_of            how many names lead to an inode, those that are one too many, too
--     links_finding       fewer links than that, or others than a mount would write
--     long_finding        a size that no file has
--     AreOfInode          what is wrong with one
--     AreInodeFindings    the same of each from a number on
use Rattle.std.specs.Prelude.{◌≡◌, ℕ, ◌+◌, ◌==◌, nat_lt, min, List, [], ◌++◌, filter, length, Option, None, Some, MatchOption, option_map, if◌then◌else◌}
use Rattle.treefs_format.specs.Leaves.{greatest_size}
use Rattle.treefs_format.specs.Paths.{leaf_count}
use Rattle.treefs_lookup.specs.Trimmed.{IsTrimmed}
use Rattle.treefs_mending.specs.Inodes.{inode_plan}
use Rattle.treefs_mending.specs.declared.names.Name.{Name}
use Rattle.treefs_mending.specs.Surveys.{Survey}
use Rattle.treefs_mending.specs.Table.{AreFree, IsNextInode}
use Rattle.treefs_mending.specs.Tallies.{tally_at}
use Rattle.treefs_mending.specs.declared.table.Numbered.{Numbered}
use Rattle.treefs_check.specs.Findings.{Finding, if_finding}
use Rattle.treefs_check.specs.declared.finding.Finding.TheVariants.{FewLinks, ManyLinks, Parent, TooLong, PastSize}

abbrev pub surplus_count : List Name → ℕ → ℕ
surplus_count surplus n = length (filter (λ name. name.number == n) surplus)

-- 2^32 - 1 stands for all that are more
abbrev pub names_of : Survey → ℕ → ℕ
names_of survey n = min ((tally_at survey.tallies n).names + surplus_count survey.surplus n) 4294967295

-- inode 1 has a link beside
abbrev pub least_links : Survey → ℕ → ℕ
least_links survey n = if n == 1 then min (names_of survey n + 1) 4294967295 else names_of survey n

-- links: how many a mount would write, where it would
abbrev pub links_finding : Survey → Numbered → Option ℕ → Option Finding
links_finding survey numbered links =
    if nat_lt numbered.inode.fields.links (least_links survey numbered.number) then Some (FewLinks numbered.number)
    else option_map (λ l. ManyLinks numbered.number) links

abbrev pub parent_finding : Numbered → Option ℕ → Option Finding
parent_finding numbered parent = option_map (λ p. Parent numbered.number) parent

abbrev pub long_finding : Numbered → Option Finding
long_finding numbered = if nat_lt greatest_size numbered.inode.fields.size then Some (TooLong numbered.number) else None

abbrev pub IsSizeFinding : (ℕ → List ℕ) → Numbered → Option Finding → Type 0
IsSizeFinding content numbered finding =
    MatchOption finding (IsTrimmed content numbered.inode) (λ f. (IsTrimmed content numbered.inode → ⊥) × (f ≡ PastSize numbered.number))

abbrev pub AreOfInode : (ℕ → List ℕ) → Survey → Numbered → List Finding → Type 0
AreOfInode content survey numbered found =
    let plan = inode_plan survey.tallies numbered.number numbered.inode in
    (size : Option Finding) × IsSizeFinding content numbered size
    × (found ≡ if_finding (links_finding survey numbered plan.links) ++ (if_finding (parent_finding numbered plan.parent)
    ++ (if_finding (long_finding numbered) ++ if_finding size)))

pub data AreInodeFindings (content : ℕ → List ℕ) (top : ℕ) (survey : Survey) : ℕ → List Finding → Type 0 where
  no_more : {from : ℕ} → AreFree content top from (leaf_count + 1) → AreInodeFindings content top survey from []
  one_more : {from : ℕ} {here rest : List Finding} (numbered : Numbered) → IsNextInode content top from numbered → AreOfInode content survey numbered here →
      AreInodeFindings content top survey (numbered.number + 1) rest → AreInodeFindings content top survey from (here ++ rest)
