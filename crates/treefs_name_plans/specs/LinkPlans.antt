-- An inode gets one more name.
--     linkable          a file or a symbolic link with a link: `NoEntry`, `IsDir`, `NoEntry` where it has none
--     holder_of         the block that has the pointer to an inode
--     more_links        what becomes of the inode; `TooLarge` where it has 2^32 - 1 links
--     LinkPlan, link_plan     what one more name takes
--     link_planned      what a call that gives one more name answers, or takes
use Rattle.std.specs.Prelude.{ℕ, ◌+◌, ◌-◌, ◌^◌, ◌==◌, nat_lt, ◌&&◌, ◌||◌, List, [], ◌∷◌, ◌++◌, length, None, Some, Result, Ok, Err, if◌then◌else◌}
use Rattle.std.specs.List.{list_all}
use Rattle.xn_model.specs.Lives.{StoreState}
use Rattle.treefs_format.specs.Paths.{leaf_count}
use Rattle.treefs_format.specs.Roots.{leaf_of_inode}
use Rattle.treefs_model.specs.declared.fault.Fault.{Fault}
use Rattle.treefs_model.specs.declared.fault.Fault.TheVariants.{Full, NoEntry, TooLarge}
use Rattle.treefs_model.specs.Acts.{Act}
use Rattle.treefs_model.specs.Files.{and_then}
use Rattle.treefs_lookup.specs.Inodes.{directory_found, file_found}
use Rattle.treefs_lookup.specs.Readable.{readable}
use Rattle.treefs_lookup.specs.Walks.{holder_steps, reach}
use Rattle.treefs_lookup.specs.declared.inodes.Found.{Found}
use Rattle.treefs_edits.specs.declared.tree.Tree.{Tree}
use Rattle.treefs_edits.specs.Memories.{Memory, newest_times}
use Rattle.treefs_edits.specs.Plans.{Plan}
use Rattle.treefs_edits.specs.Rooms.{has_room, has_room_in}
use Rattle.treefs_name_plans.specs.Additions.{addition_acts, addition_starts, rewriting}
use Rattle.treefs_name_plans.specs.Ends.{times_of}
use Rattle.treefs_name_plans.specs.Links.{link_act}
use Rattle.treefs_name_plans.specs.NewNames.{addition_in, addition_parts, free_name}
use Rattle.treefs_name_plans.specs.declared.addition.Addition.{Addition}
use Rattle.treefs_name_plans.specs.declared.link_change.LinkChange.{LinkChange}
use Rattle.treefs_name_plans.specs.declared.link_plan.LinkPlan.{LinkPlan}

-- The inode

abbrev pub if_linked : Found → Result Found Fault
if_linked inode = if inode.fields.links == 0 then Err NoEntry else Ok inode

abbrev pub linkable : (ℕ → List ℕ) → ℕ → ℕ → Result Found Fault
linkable content top n = and_then (file_found content top n) if_linked

-- of a number that is none, inode 0
abbrev pub holder_of : (ℕ → List ℕ) → ℕ → ℕ → ℕ
holder_of content top n = if (n == 0) || nat_lt leaf_count n then top else (reach content top (holder_steps (leaf_of_inode n))).block

abbrev pub one_more : Memory → ℕ → Found → LinkChange
one_more memory n inode = record {
  block = inode.block;
  links = inode.fields.links + 1;
  times = Some (newest_times memory n (times_of inode.fields));
  parent = None;
}

abbrev pub more_links : Memory → ℕ → Found → Result LinkChange Fault
more_links memory n inode = if inode.fields.links == 2 ^ 32 - 1 then Err TooLarge else Ok (one_more memory n inode)

-- The plan

-- a bucket is rewritten; the inode gets a link more, behind the block that points to it; then the record is made, behind the inode
abbrev pub link_acts : LinkPlan → List ℕ → List ℕ → List Act
link_acts p name begun =
    rewriting p.addition ++ (link_act p.more p.holder ∷ addition_acts p.addition begun (record { number = p.number; name = name }) p.more.block)

abbrev pub link_plan : List ℕ → LinkPlan → Plan
link_plan name p = record { starts = addition_starts p.addition; acts = link_acts p name }

abbrev pub link_in_room : StoreState → Tree → Memory → ℕ → ℕ → Addition → LinkChange → Result LinkPlan Fault
link_in_room state tree memory n directory addition more =
    if has_room state tree.fs.number (length memory.touched) 20 (addition_parts addition directory) && list_all (has_room_in state) ((more.block, 2) ∷ [])
    then Ok (record {
      number = n;
      holder = holder_of (readable state tree.fs.number) tree.top n;
      more = more;
      directory = directory;
      addition = addition;
    })
    else Err Full

abbrev pub link_planned : StoreState → Tree → Memory → ℕ → ℕ → List ℕ → Result LinkPlan Fault
link_planned state tree memory n d name =
    let content = readable state tree.fs.number in
    and_then (directory_found content tree.top d) (λ found.
    and_then (linkable content tree.top n) (λ inode.
    and_then (free_name content tree.top d name) (λ directory.
    and_then (addition_in state tree d directory name) (λ addition.
    and_then (more_links memory n inode) (λ more.
    link_in_room state tree memory n directory addition more)))))
