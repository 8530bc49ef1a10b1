-- Calls that find no space leave the files as they were.
use mathlib.Core.Path.{fun_ext}
use Rattle.std.proofs.Common.{◌≡◌, ◌≢◌, ℕ, Bool, true, false, List, [], length, Option, None, Some, Result, Ok, Err, refl, sym, ◌∙◌, ap, inl, inr, subst}
use Rattle.std.proofs.Common.{if◌then◌else◌}
use Rattle.std.specs.Prelude.{All, MatchBool, ◌==◌}
use Rattle.store_types.specs.declared.refusal.Refusal.{Refusal}
use Rattle.xn_model.specs.Calls.{init_of, life_bytes}
use Rattle.xn_model.specs.Lives.{StoreState}
use Rattle.xn_model.specs.Results.{Gives}
use Rattle.xn_model.specs.Root.{slot}
use Rattle.xn_model.specs.Types.{Types}
use Rattle.treefs_format.specs.Inodes.{inode_bytes}
use Rattle.treefs_format.specs.declared.kind.Kind.{Kind}
use Rattle.treefs_lookup.specs.Readable.{readable}
use Rattle.treefs_model.specs.Edited.{type_in}
use Rattle.treefs_model.specs.Files.{Files, and_then}
use Rattle.treefs_model.specs.Reading.{files_of}
use Rattle.treefs_model.specs.declared.fault.Fault.{Fault}
use Rattle.treefs_model.specs.declared.fault.Fault.TheVariants.{Full, Kernel}
use Rattle.treefs_edits.specs.Plans.{DoesPlanned, Plan}
use Rattle.treefs_edits.specs.Rooms.{has_room}
use Rattle.treefs_edits.specs.declared.start.Start.{Start}
use Rattle.treefs_name_plans.specs.CommitPlans.{commit_plan}
use Rattle.treefs_name_plans.specs.LinkPlans.{link_plan, link_planned}
use Rattle.treefs_name_plans.specs.NewPlans.{new_plan}
use Rattle.treefs_name_plans.specs.Removals.{removal_plan}
use Rattle.treefs_name_plans.specs.RenamePlans.{rename_plan}
use Rattle.treefs_name_plans.specs.declared.commit_plan.CommitPlan.{CommitPlan}
use Rattle.treefs_name_plans.specs.declared.link_plan.LinkPlan.{LinkPlan}
use Rattle.treefs_name_plans.specs.declared.name_end.NameEnd.{NameEnd}
use Rattle.treefs_name_plans.specs.declared.rename_plan.RenamePlan.{RenamePlan}
use Rattle.treefs.specs.Committing.{BeginsOne, CommitDoes, committed_volume}
use Rattle.treefs.specs.Creating.{BeginDoes, CreateDoes, MkdirDoes, NewDoes, SymlinkDoes, moved_volume, new_fields, number_of}
use Rattle.treefs.specs.Linking.{LinkDoes, linked_volume}
use Rattle.treefs.specs.Renaming.{DoesRename, RenameDoes, renamed_volume}
use Rattle.treefs.specs.Unlinking.{RmdirDoes, as_plan, ended_volume}
use Rattle.treefs.specs.declared.attributes.Attributes.{Attributes}
use Rattle.treefs.specs.declared.volume.Volume.{Volume}
use Rattle.treefs_values.specs.Kinds.{kinds}
use Rattle.treefs_values.specs.Volumes.{IsVolume}
use Rattle.treefs_values.proofs.ForCallers.{kinds_are, may_read, readable_is}
use Rattle.treefs_laws.specs.Kept.{files_in}
use Rattle.treefs_laws.specs.Open.{IsOpen}
use Rattle.treefs_laws.specs.Seen.{seen_files}
use Rattle.treefs_laws.specs.Space.{LacksSpace, LeavesFiles}
use Rattle.treefs_laws.specs.Unnamed.{KeepsUnnamed}
use Rattle.treefs_laws.proofs.AsideVolume.{alike_same, read_keeps}
use Rattle.treefs_laws.proofs.ForgottenStarts.{SameLives, planned_same}
use Rattle.treefs_laws.proofs.Planned.{same_fault}

no_kernel : (fault : Fault) → LacksSpace fault → (reason : Refusal) → fault ≢ Kernel reason
no_kernel fault (inl is) reason same = absurd (cc (sym is ∙ same))
no_kernel fault (inr is) reason same = absurd (cc (sym is ∙ same))

module _ (T : Types) (old new : StoreState) (volume volume' : Volume) (is_open : IsOpen T old volume) where
  abbrev fs : ℕ
  fs = volume.tree.fs.number

  abbrev top : ℕ
  top = volume.tree.top

  module _ (same : SameLives T fs old.lives new) where
    pub reads : readable new fs ≡ readable old fs
    reads = fun_ext (λ b. readable_is new fs b ∙ (ap (λ o. if may_read fs o then life_bytes o else []) (same.1 b) ∙ sym (readable_is old fs b)))

    types : kinds new fs ≡ kinds old fs
    types = fun_ext (λ b. kinds_are new fs b ∙ (ap (λ o. if may_read fs o then type_in o else 0) (same.1 b) ∙ sym (kinds_are old fs b)))

    files : files_in new volume ≡ files_in old volume
    files = ap (λ m. seen_files volume.memory.touched (files_of m top)) reads

    still_open : IsOpen T new volume
    still_open = record {
      kept = record {
        store = same.0;
        bytes = subst (λ t. IsVolume volume.tree.node_type volume.tree.inode_type t (readable new fs) top) (sym types)
            (subst (λ m. IsVolume volume.tree.node_type volume.tree.inode_type (kinds old fs) m top) (sym reads) is_open.kept.bytes);
        session = is_open.kept.session;
      };
      few = is_open.few;
      tree = is_open.tree;
      short = is_open.short;
      root = ap (λ o. let m = life_bytes o in if (slot m fs).0 == 0 then None else Some (slot m fs).0) (same.1 0) ∙ is_open.root;
      touched = subst (λ (g : Files). All (λ touch. g touch.number ≢ None) volume.memory.touched) (sym files) is_open.touched;
    }

    leaves : volume' ≡ volume → LeavesFiles T old new volume volume'
    leaves is =
        let there = subst (λ v. IsOpen T new v × (files_in new v ≡ files_in old volume) × KeepsUnnamed old new volume v) (sym is)
        (still_open, files, read_keeps T old new volume is_open types reads) in
        (is, there.0, there.1, there.2)

  -- a plan, or a planner's fault
  pub leaves_planned : (planned : Result Plan Fault) (fault : Fault) → LacksSpace fault → DoesPlanned T fs planned old new (Err fault) → volume' ≡ volume →
      LeavesFiles T old new volume volume'
  leaves_planned planned fault space does is =
      leaves (planned_same T fs planned old new fault is_open.kept.store (no_kernel fault space) does) is

-- The calls

module _ (T : Types) (state state' : StoreState) (volume volume' : Volume) (is_open : IsOpen T state volume) (d : ℕ) (name : List ℕ) (fault : Fault)
    (space : LacksSpace fault) where
  new_leaves : (between : Volume) (inode : List ℕ) (made : Result CommitPlan Fault) → Err fault ≡ number_of made →
      NewDoes T state state' volume between d name inode made →
      (between ≡ volume → volume' ≡ volume) → LeavesFiles T state state' volume volume'
  new_leaves between inode (Ok plan) is does same = absurd (cc is)
  new_leaves between inode (Err other) is (planned, is_planned, does, told, still) same =
      leaves_planned T state state' volume volume' is_open (as_plan (new_plan name inode) planned) other (subst LacksSpace (same_fault fault other is) space) does
      (same still)

  pub create_leaves : (attributes : Attributes) → CreateDoes T state state' volume volume' d name attributes (Err fault) →
      LeavesFiles T state state' volume volume'
  create_leaves attributes (made, does, is) = new_leaves volume' _ made is does (λ same. same)

  pub symlink_leaves : (attributes : Attributes) (target : List ℕ) → SymlinkDoes T state state' volume volume' d name attributes target (Err fault) →
      LeavesFiles T state state' volume volume'
  symlink_leaves attributes target (made, does, is) = new_leaves volume' _ made is does (λ same. same)

  pub mkdir_leaves : (attributes : Attributes) → MkdirDoes T state state' volume volume' d name attributes (Err fault) →
      LeavesFiles T state state' volume volume'
  mkdir_leaves attributes (made, middle, does, moved, is) = new_leaves middle _ made is does (λ same. moved ∙ (by made is ∙ same))
    where
      by : (made : Result CommitPlan Fault) → Err fault ≡ number_of made → moved_volume state' middle made ≡ middle
      by (Ok plan) is = absurd (cc is)
      by (Err other) is = refl

  pub link_leaves : (n : ℕ) → LinkDoes T state state' volume volume' n d name (Err fault) → LeavesFiles T state state' volume volume'
  link_leaves n (does, is) = leaves_planned T state state' volume volume' is_open (as_plan (link_plan name) planned) fault space does (is ∙ by planned)
    where
      planned : Result LinkPlan Fault
      planned = link_planned state volume.tree volume.memory n d name

      by : (planned : Result LinkPlan Fault) → linked_volume state' volume d planned (Err fault) ≡ volume
      by (Ok plan) = refl
      by (Err other) = refl

  pub rmdir_leaves : RmdirDoes T state state' volume volume' d name (Err fault) → LeavesFiles T state state' volume volume'
  rmdir_leaves (planned, is_planned, does, is) =
      leaves_planned T state state' volume volume' is_open (as_plan removal_plan planned) fault space does (is ∙ by (and_then planned (λ plan. Ok plan.end)))
    where
      by : (ended : Result NameEnd Fault) → ended_volume volume d ended (Err fault) ≡ volume
      by (Ok plan) = refl
      by (Err other) = refl

  pub commit_leaves : (block : ℕ) (replace : Bool) → CommitDoes T state state' volume volume' block d name replace (Err fault) →
      LeavesFiles T state state' volume volume'
  commit_leaves block replace (planned, is_planned, does, told, is) =
      leaves_planned T state state' volume volume' is_open (as_plan (commit_plan name block) planned) fault space does (is ∙ by planned)
    where
      by : (planned : Result CommitPlan Fault) → committed_volume volume d planned (Err fault) ≡ volume
      by (Ok plan) = refl
      by (Err other) = refl

  pub rename_leaves : (to : ℕ) (new : List ℕ) → RenameDoes T state state' volume volume' d name to new (Err fault) → LeavesFiles T state state' volume volume'
  rename_leaves to new (planned, is_planned, does, is) = by planned does is
    where
      by : (planned : Result (Option RenamePlan) Fault) → DoesRename T volume.tree.fs.number new planned state state' (Err fault) →
          volume' ≡ renamed_volume state' volume d to planned (Err fault) → LeavesFiles T state state' volume volume'
      by (Ok None) does is = absurd (cc does.0)
      by (Ok (Some plan)) does is = leaves_planned T state state' volume volume' is_open (Ok (rename_plan new plan)) fault space does is
      by (Err other) does is = leaves_planned T state state' volume volume' is_open (Err other) fault space does is

-- a block that isn't begun
module _ (T : Types) (state state' : StoreState) (volume : Volume) (fault : Fault) where
  not_begun : (r : Result ((ℕ × ℕ) × StoreState) Refusal) (reason : Refusal) → Gives r state state' (Err reason) → state' ≡ state
  not_begun (Ok made) reason (inl done) = absurd (cc done.0)
  not_begun (Ok made) reason (inr none) = none.1
  not_begun (Err other) reason none = none.1

  pub begin_refused : (kind : Kind) (attributes : Attributes) (head : List ℕ) → BeginDoes T state state' volume kind attributes head (Err fault) →
      state' ≡ state
  begin_refused kind attributes head does = by (has_room state volume.tree.fs.number (length volume.memory.touched) 2 []) does
    where
      start : Start
      start = record {
        ty = volume.tree.inode_type;
        bytes = inode_bytes (new_fields volume.tree volume.memory kind attributes 0 (length head)) head;
      }

      by : (t : Bool) → MatchBool t (BeginsOne T volume.tree.fs.number start state state' (Err fault))
          ((◌≡◌ {A = Result ℕ Fault} (Err fault) (Err Full)) × (state' ≡ state)) → state' ≡ state
      by true (reason, begun, is) = not_begun (init_of T state volume.tree.fs.number start.ty start.bytes) reason begun
      by false full = full.1

  pub begin_leaves : IsOpen T state volume → (kind : Kind) (attributes : Attributes) (head : List ℕ) →
      BeginDoes T state state' volume kind attributes head (Err fault) → LeavesFiles T state state' volume volume
  begin_leaves is_open kind attributes head does =
      subst (λ s. LeavesFiles T state s volume volume) (sym (begin_refused kind attributes head does)) (refl, is_open, refl, λ block unnamed. (unnamed, alike_same (readable state volume.tree.fs.number) block))
