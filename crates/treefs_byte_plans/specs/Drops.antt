-- Pointers of a node are dropped, behind all of the inode.
--     dropped                the blocks to which a node points from a place on
--     drop_acts, drop_plan   what a plan does
--     IsDropPlanned          what the next drop in the trees of an inode takes, that keeps so many leaves
use Rattle.std.specs.Prelude.{◌≡◌, ℕ, ◌-◌, ◌==◌, not, List, [], ◌∷◌, filter, length}
use Rattle.std.specs.Prelude.{map, Option, None, Some, Result, Ok, Err, IsOkAnd, IsSomeAnd, MatchBool, MatchOption}
use Rattle.std.specs.List.{range_with_len}
use Rattle.xn_model.specs.Lives.{StoreState}
use Rattle.treefs_format.specs.Paths.{node_offset}
use Rattle.treefs_model.specs.Acts.{Act, drop_act}
use Rattle.treefs_model.specs.Reading.{pointed}
use Rattle.treefs_model.specs.declared.fault.Fault.{Fault}
use Rattle.treefs_model.specs.declared.fault.Fault.TheVariants.{Full}
use Rattle.treefs_lookup.specs.Readable.{readable}
use Rattle.treefs_edits.specs.Memories.{Memory}
use Rattle.treefs_edits.specs.Plans.{Plan}
use Rattle.treefs_edits.specs.Rooms.{has_room}
use Rattle.treefs_byte_plans.specs.Cuts.{next_cut}
use Rattle.treefs_byte_plans.specs.declared.cuts.Cut.{Cut}
use Rattle.treefs_byte_plans.specs.declared.drop_plan.DropPlan.{DropPlan}

abbrev pub dropped : (ℕ → List ℕ) → ℕ → ℕ → List ℕ
dropped content block place = filter (λ b. not (b == 0)) (map (λ p. pointed content block (node_offset p)) (range_with_len place (127 - place)))

abbrev pub drop_acts : DropPlan → List Act
drop_acts p = drop_act p.block (node_offset p.place) (127 - p.place) p.blocks.items (Some p.inode) ∷ []

abbrev pub drop_plan : DropPlan → Plan
drop_plan p = record { starts = []; acts = λ begun. drop_acts p }

-- all from a place on become 0
abbrev pub planned_drop : (ℕ → List ℕ) → ℕ → Cut → List Act
planned_drop content inode cut = drop_act cut.block (node_offset cut.place) (127 - cut.place) (dropped content cut.block cut.place) (Some inode) ∷ []

abbrev pub IsCutPlanned : StoreState → ℕ → Memory → ℕ → Cut → Result (Option DropPlan) Fault → Type 0
IsCutPlanned state fs memory inode cut result = MatchBool (has_room state fs (length memory.touched) 10 ((cut.block, 1) ∷ []))
    (IsOkAnd result (λ step. IsSomeAnd step (λ plan. drop_acts plan ≡ planned_drop (readable state fs) inode cut)))
    (result ≡ Err Full)

abbrev pub IsDropPlanned : StoreState → ℕ → Memory → ℕ → ℕ → Result (Option DropPlan) Fault → Type 0
IsDropPlanned state fs memory inode keep result =
    MatchOption (next_cut (readable state fs) inode keep) (result ≡ Ok None) (λ cut. IsCutPlanned state fs memory inode cut result)
