-- A trim: what an inode has beside what is kept goes, part by part, each planned in the state that the one before left.
--     Then            one part, and then another; where the first fails that is all
--     DoesIfAny       a plan is carried out, where there is one
--     Drops           pointers in nodes are dropped, one node after another
--     TrimDoes        a whole trim
--     TrimsFirst      one that comes before something else, where one is to
--     TrimCallDoes    what trim does
--     GiveUpDoes      what give_up does
use Rattle.std.specs.Prelude.{◌≡◌, ◌⊎◌, ℕ, zero, suc, Bool, List, [], ◌∷◌, is_ok, length, Option, None, Some}
use Rattle.std.specs.Prelude.{Result, Ok, Err, MatchOption, MatchResult, option_map, if◌then◌else◌}
use Rattle.xn_model.specs.Types.{Types}
use Rattle.xn_model.specs.Lives.{StoreState}
use Rattle.xn_model.specs.Calls.{forget_of}
use Rattle.xn_model.specs.Results.{GivesExactly}
use Rattle.store_types.specs.declared.refusal.Refusal.{Refusal}
use Rattle.treefs_model.specs.declared.fault.Fault.{Fault}
use Rattle.treefs_model.specs.declared.fault.Fault.TheVariants.{Full}
use Rattle.treefs_format.specs.declared.kind.Kind.{Kind}
use Rattle.treefs_format.specs.declared.kind.Kind.TheVariants as kind
use Rattle.treefs_lookup.specs.Inodes.{inode_found}
use Rattle.treefs_lookup.specs.Readable.{readable}
use Rattle.treefs_lookup.specs.declared.inodes.Found.{Found}
use Rattle.treefs_edits.specs.Memories.{Memory}
use Rattle.treefs_edits.specs.Plans.{Does, Plan}
use Rattle.treefs_edits.specs.Rooms.{has_room}
use Rattle.treefs_byte_plans.specs.Blanks.{blank_plan, blank_planned}
use Rattle.treefs_byte_plans.specs.Drops.{IsDropPlanned, drop_plan}
use Rattle.treefs_byte_plans.specs.Kept.{kept_of}
use Rattle.treefs_byte_plans.specs.Roots.{HasNoRoots, IsRootsPlanned, roots_plan}
use Rattle.treefs_byte_plans.specs.Waits.{IsWaitsPlanned, waits_plan}
use Rattle.treefs_byte_plans.specs.declared.blank.BlankPlan.{BlankPlan}
use Rattle.treefs_byte_plans.specs.declared.drop_plan.DropPlan.{DropPlan}
use Rattle.treefs_byte_plans.specs.declared.kept.Kept.{Kept}
use Rattle.treefs_byte_plans.specs.declared.roots_plan.RootsPlan.{RootsPlan}
use Rattle.treefs_byte_plans.specs.declared.waits_plan.WaitsPlan.{WaitsPlan}
use Rattle.treefs.specs.declared.volume.Volume.{Volume}

-- Parts

-- nothing is done, and this is answered
abbrev pub Answers : Result (Unit {0}) Fault → StoreState → StoreState → Result (Unit {0}) Fault → Type 0
Answers answer old new result = (result ≡ answer) × (new ≡ old)

abbrev pub Then : (StoreState → StoreState → Result (Unit {0}) Fault → Type 0) → (StoreState → StoreState → Result (Unit {0}) Fault → Type 0)
    → StoreState → StoreState → Result (Unit {0}) Fault → Type 0
Then First Next old new result =
    MatchResult result (λ done. ⊥) (λ fault. First old new (Err fault))
    ⊎ ((middle : StoreState) × First old middle (Ok tt) × Next middle new result)

abbrev pub DoesIfAny : Types → ℕ → Result (Option Plan) Fault → StoreState → StoreState → Result (Unit {0}) Fault → Type 0
DoesIfAny T fs (Ok None) old new result = Answers (Ok tt) old new result
DoesIfAny T fs (Ok (Some plan)) old new result = Does T fs plan old new result
DoesIfAny T fs (Err fault) old new result = Answers (Err fault) old new result

-- The parts of a trim

-- a trim begins where its own edits of the inode have room
abbrev pub HasRoom : ℕ → Memory → Kept → StoreState → StoreState → Result (Unit {0}) Fault → Type 0
HasRoom fs memory kept old new result =
    Answers (if has_room old fs (length memory.touched) 10 ((kept.inode, 9) ∷ []) then Ok tt else Err Full) old new result

-- bytes past the size become 0
abbrev pub plan_of_blank : Result (Option BlankPlan) Fault → Result (Option Plan) Fault
plan_of_blank (Ok plan) = Ok (option_map blank_plan plan)
plan_of_blank (Err fault) = Err fault

abbrev pub blanks_up_to : StoreState → ℕ → Memory → ℕ → Option ℕ → Result (Option Plan) Fault
blanks_up_to state fs memory inode None = Ok None
blanks_up_to state fs memory inode (Some size) = plan_of_blank (blank_planned state fs memory inode size)

abbrev pub Blanks : Types → ℕ → Memory → Kept → StoreState → StoreState → Result (Unit {0}) Fault → Type 0
Blanks T fs memory kept old new result = DoesIfAny T fs (blanks_up_to old fs memory kept.inode kept.size) old new result

-- the last drop: there is none any more, or it fails
abbrev pub EndsDrops : Types → ℕ → Result (Option DropPlan) Fault → StoreState → StoreState → Result (Unit {0}) Fault → Type 0
EndsDrops T fs (Ok None) old new result = Answers (Ok tt) old new result
EndsDrops T fs (Ok (Some plan)) old new result = MatchResult result (λ done. ⊥) (λ fault. Does T fs (drop_plan plan) old new (Err fault))
EndsDrops T fs (Err fault) old new result = Answers (Err fault) old new result

-- left: how many at most
abbrev pub Drops : Types → ℕ → Memory → Kept → ℕ → StoreState → StoreState → Result (Unit {0}) Fault → Type 0
Drops T fs memory kept zero old new result = Answers (Err Full) old new result
Drops T fs memory kept (suc left) old new result =
    ((planned : Result (Option DropPlan) Fault) × IsDropPlanned old fs memory kept.inode kept.keep planned × EndsDrops T fs planned old new result)
    ⊎ ((plan : DropPlan) × (middle : StoreState) × IsDropPlanned old fs memory kept.inode kept.keep (Ok (Some plan))
    × Does T fs (drop_plan plan) old middle (Ok tt) × Drops T fs memory kept left middle new result)

-- more entries are never pending: each drop takes one
unfoldable pub most_drops : ℕ
most_drops = 4096

-- the pointers in the inode itself
abbrev pub Roots : Types → ℕ → Kept → StoreState → StoreState → Result (Unit {0}) Fault → Type 0
Roots T fs kept old new result = (planned : Option RootsPlan)
    × MatchOption planned (HasNoRoots (readable old fs) kept.inode kept.keep) (IsRootsPlanned (readable old fs) kept.inode kept.keep)
    × DoesIfAny T fs (Ok (option_map roots_plan planned)) old new result

abbrev pub Waits : Types → ℕ → Kept → StoreState → StoreState → Result (Unit {0}) Fault → Type 0
Waits T fs kept old new result = (planned : WaitsPlan) × IsWaitsPlanned old fs kept.inode kept.keep planned × Does T fs (waits_plan planned) old new result

-- The whole

abbrev pub TrimDoes : Types → ℕ → Memory → Kept → StoreState → StoreState → Result (Unit {0}) Fault → Type 0
TrimDoes T fs memory kept =
    Then (HasRoom fs memory kept) (Then (Blanks T fs memory kept) (Then (Drops T fs memory kept most_drops) (Then (Roots T fs kept) (Waits T fs kept))))

abbrev pub TrimsFirst : Types → ℕ → Memory → Option Kept → StoreState → StoreState → Result (Unit {0}) Fault → Type 0
TrimsFirst T fs memory None old new result = Answers (Ok tt) old new result
TrimsFirst T fs memory (Some kept) old new result = TrimDoes T fs memory kept old new result

-- The call

abbrev pub kept_in : Found → Kind → Option Kept
kept_in found kind.Directory = None
kept_in found kind.File = Some (kept_of found)
kept_in found kind.SymbolicLink = Some (kept_of found)

abbrev pub TrimCallDoes : Types → StoreState → StoreState → Volume → ℕ → Result (Unit {0}) Fault → Type 0
TrimCallDoes T old new volume number result = MatchResult (inode_found (readable old volume.tree.fs.number) volume.tree.top number)
    (λ found. TrimsFirst T volume.tree.fs.number volume.memory (kept_in found found.kind) old new result)
    (λ fault. Answers (Err fault) old new result)

-- An inode that nothing points to is given up

-- nothing of its content is kept
abbrev pub kept_nothing : ℕ → Kept
kept_nothing inode = record { inode = inode; keep = 0; size = None }

-- forgot: what the store answers
abbrev pub GiveUpDoes : Types → StoreState → StoreState → Volume → ℕ → Result Bool Fault → Type 0
GiveUpDoes T old new volume inode result =
    MatchResult result (λ done. ⊥) (λ fault. TrimDoes T volume.tree.fs.number volume.memory (kept_nothing inode) old new (Err fault))
    ⊎ ((middle : StoreState) × (forgot : Result (Unit {0}) Refusal) × TrimDoes T volume.tree.fs.number volume.memory (kept_nothing inode) old middle (Ok tt)
    × GivesExactly (forget_of T middle volume.tree.fs.number inode) middle new forgot × (result ≡ Ok (is_ok forgot)))
