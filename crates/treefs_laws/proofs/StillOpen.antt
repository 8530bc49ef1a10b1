-- Calls leave an open volume open.
use Rattle.std.proofs.Common.{◌≡◌, ◌≢◌, ℕ, ℤ, ◌<◌, ◌^◌, Bool, true, false, not, List, [], ◌∷◌, ◌++◌, Option, None, Some, Result, Ok, Err, refl, sym, ◌∙◌, ap, inl, inr, subst, if◌then◌else◌}
use Rattle.std.specs.Prelude.{All, FitsSigned, drop, map}
use Rattle.std.specs.Int.{w64}
use Rattle.std.specs.Option.{ok_or}
use Rattle.std.proofs.lemmas.List.Elements.{All-cons, All-head, All-nil, All-tail, All-weaker}
use Rattle.xn_model.specs.Types.{Types}
use Rattle.xn_model.specs.Lives.{StoreState}
use Rattle.xn_model.specs.Calls.{root_of}
use Rattle.xn_model.specs.Rules.{IsConsistent}
use Rattle.treefs_format.specs.Templates.{IsTree}
use Rattle.treefs_model.specs.Acts.{Act, Ran, number_act, wait_act}
use Rattle.treefs_model.specs.Changes.{less_links, touched as touched_inode, with_mtime, without_name}
use Rattle.treefs_model.specs.Files.{Files, Inode, and_then, changed_at, found, is_directory, linked_names, number_in, renamed_in, when, with_name}
use Rattle.treefs_model.specs.declared.fault.Fault.{Fault}
use Rattle.treefs_model.specs.declared.fault.Fault.TheVariants.{BadName, IsDir, NoEntry, NotDir, NotEmpty}
use Rattle.treefs_format.specs.Names.{is_name}
use Rattle.treefs_edits.specs.Plans.{DoesPlanned}
use Rattle.treefs_edits.specs.declared.memory.Touched.{Touched}
use Rattle.treefs_edits.specs.declared.times.Times.{Times}
use Rattle.treefs_byte_plans.specs.Attributes.{attributes_act, attributes_plan, attributes_planned}
use Rattle.treefs_byte_plans.specs.declared.attributes.Attributes.{Attributes}
use Rattle.treefs_byte_plans.specs.declared.attributes.AttributesPlan.{AttributesPlan}
use Rattle.treefs_name_plans.specs.Ends.{end_acts}
use Rattle.treefs_name_plans.specs.Links.{link_act}
use Rattle.treefs_name_plans.specs.Removals.{first_of, removal_acts}
use Rattle.treefs_name_plans.specs.declared.name_end.NameEnd.{NameEnd}
use Rattle.treefs.specs.Changed.{changed_volume}
use Rattle.treefs.specs.Remembered.{ended_memory, now_times, written_times}
use Rattle.treefs.specs.Setting.{AttributesDoes, MtimeDoes, mtime_volume}
use Rattle.treefs.specs.Unlinking.{RmdirDoes, UnlinkDoes, as_plan}
use Rattle.treefs.specs.declared.volume.Volume.{Volume}
use Rattle.treefs_values.specs.Values.{KeepsBlocks}
use Rattle.treefs_values.proofs.ForCallers.{edit_is}
use Rattle.treefs_laws.specs.Kept.{IsKept, files_in}
use Rattle.treefs_laws.specs.Open.{IsOpen}
use Rattle.treefs_laws.specs.Setting.{AreInWidth, with_attributes}
use Rattle.treefs_laws.proofs.Attributed.{attributed_so}
use Rattle.treefs_laws.proofs.Planned.{ran_acts, same_done, then_ok}
use Rattle.treefs_laws.proofs.Removed.{removed_so}
use Rattle.treefs_laws.proofs.There.{changed_there}
use Rattle.treefs_laws.proofs.Timed.{timed_so}
use Rattle.treefs_laws.proofs.Touching.{all_touched, all_written_out}
use Rattle.treefs_laws.proofs.Unlinked.{unlinked_so}

-- The root block stays

pub ran_root : (T : Types) (fs : ℕ) (acts : List Act) (old new : StoreState) → IsConsistent T old → All KeepsBlocks acts → Ran T fs acts old new (Ok tt) → root_of new fs ≡ root_of old fs
ran_root T fs [] old new h plain ran = ap (λ s. root_of s fs) ran.1
ran_root T fs (act ∷ acts) old new h plain ran = elim ran [
  | inl none ↦ absurd none
  | inr r ↦
      let one = edit_is T fs act old r.1 r.0 h (All-head KeepsBlocks act acts plain) r.2 in
      ran_root T fs acts r.1 new one.store (All-tail KeepsBlocks act acts plain) r.3 ∙ one.root
]

end_keeps : (end : NameEnd) (behind : Option ℕ) → All KeepsBlocks (end_acts end behind)
end_keeps end behind =
    All-cons KeepsBlocks (number_act end.block end.offset 0 behind) (link_act end.fewer end.block ∷ []) refl
    (All-cons KeepsBlocks (link_act end.fewer end.block) [] refl (All-nil KeepsBlocks))

waits_keep : (end : NameEnd) (first : ℕ) (others : List ℕ) (behind : Option ℕ) → All KeepsBlocks (map (wait_act end.block (first ∷ [])) others ++ end_acts end behind)
waits_keep end first [] behind = end_keeps end behind
waits_keep end first (other ∷ others) behind =
    All-cons KeepsBlocks (wait_act end.block (first ∷ []) other) (map (wait_act end.block (first ∷ [])) others ++ end_acts end behind) refl (waits_keep end first others behind)

-- What is there

some_there : (files : Files) (n : ℕ) (inode : Inode) → found files n ≡ Ok inode → files n ≢ None
some_there files n inode is none = absurd (cc (sym (ap (λ o. ok_or o NoEntry) none) ∙ is))

pub directory_there : (files : Files) (d n : ℕ) (name : List ℕ) → number_in files d name ≡ Ok n → files d ≢ None
directory_there files d n name is none =
    absurd (cc (sym (ap (λ o. and_then (and_then (and_then (ok_or o NoEntry) linked_names) (λ names. when (is_name name) names BadName)) (λ names. ok_or (names name) NoEntry)) none) ∙ is))

without_there : (files : Files) (time : ℤ) (d : ℕ) (name : List ℕ) (n m : ℕ) → files m ≢ None → without_name files time d name n m ≢ None
without_there files time d name n m some =
    changed_there (changed_at (with_name files d name None) n (less_links time)) d (touched_inode time) m
    (changed_there (with_name files d name None) n (less_links time) m (changed_there files d (renamed_in name None) m some))

module _ (T : Types) (state : StoreState) (volume : Volume) (is_open : IsOpen T state volume) where
  abbrev fs : ℕ
  fs = volume.tree.fs.number

  abbrev seen : Files
  seen = files_in state volume

  abbrev touched : List Touched
  touched = volume.memory.touched

  -- where the tree is the same, and touched are those that were, but for some, and maybe one that is there
  opened : (state' : StoreState) (volume' : Volume) → volume'.tree ≡ volume.tree → IsKept T state' volume' → root_of state' volume'.tree.fs.number ≡ Some volume'.tree.top →
      All (λ touch. files_in state' volume' touch.number ≢ None) volume'.memory.touched → IsOpen T state' volume'
  opened state' volume' tree kept root there = record {
    kept = kept;
    few = subst (λ t. t.fs.number < 32) (sym tree) is_open.few;
    tree = subst (λ t. IsTree T t.node_type t.inode_type) (sym tree) is_open.tree;
    short = subst (λ t. (t.node_type < 2 ^ 8) × (t.inode_type < 2 ^ 8)) (sym tree) is_open.short;
    root = root;
    touched = there;
  }

  still : (new : Files) → ((m : ℕ) → seen m ≢ None → new m ≢ None) → All (λ (touch : Touched). new touch.number ≢ None) touched
  still new stays = All-weaker (λ (touch : Touched). seen touch.number ≢ None) (λ touch. new touch.number ≢ None) (λ touch some. stays touch.number some) touched is_open.touched

  pub still_written : (new : Files) → ((m : ℕ) → seen m ≢ None → new m ≢ None) → (n : ℕ) (times : Option Times) →
      All (λ (touch : Touched). new touch.number ≢ None) (written_times touched n times)
  still_written new stays n None = still new stays
  still_written new stays n (Some times) = all_written_out (λ touch. new touch.number ≢ None) n touched (still new stays)

  -- Times and attributes

  pub times_open : (volume' : Volume) (n : ℕ) (mtime : ℤ) → FitsSigned w64 mtime → MtimeDoes state volume volume' n mtime (Ok tt) → IsOpen T state volume'
  times_open volume' n mtime fits does =
      subst (IsOpen T state) (sym does.1) (so (timed_so T state volume (mtime_volume volume n mtime) n mtime fits is_open.kept (does.0, refl)))
    where
      so : IsKept T state (mtime_volume volume n mtime) × (and_then (found seen n) (λ inode. Ok (changed_at seen n (with_mtime volume.memory.clock mtime)))
          ≡ Ok (files_in state (mtime_volume volume n mtime))) → IsOpen T state (mtime_volume volume n mtime)
      so said =
          let later = mtime_volume volume n mtime in
          let f = then_ok (found seen n) (λ inode. Ok (changed_at seen n (with_mtime volume.memory.clock mtime))) (files_in state later) said.1 in
          let files : changed_at seen n (with_mtime volume.memory.clock mtime) ≡ files_in state later =
          same_done (changed_at seen n (with_mtime volume.memory.clock mtime)) (files_in state later) f.2 in
          let stays = λ (m : ℕ) (some : seen m ≢ None). subst (λ g. g m ≢ None) files (changed_there seen n (with_mtime volume.memory.clock mtime) m some) in
          opened state later refl said.0 is_open.root
          (all_touched (λ touch. files_in state later touch.number ≢ None) n (record { mtime = mtime; ctime = volume.memory.clock }) (stays n (some_there seen n f.0 f.1)) touched
          (still (files_in state later) stays))

  pub attributes_open : (state' : StoreState) (volume' : Volume) (n : ℕ) (a : Attributes) → AreInWidth a → AttributesDoes T state state' volume volume' n a (Ok tt) →
      IsOpen T state' volume'
  attributes_open state' volume' n a wide (does, is) =
      subst (IsOpen T state') (sym is) (so (attributed_so T state state' volume (changed_volume volume n true) n a wide is_open.kept (does, refl)))
    where
      root_same : (r : Result AttributesPlan Fault) → DoesPlanned T fs (as_plan attributes_plan r) state state' (Ok tt) → root_of state' fs ≡ root_of state fs
      root_same (Err fault) does = absurd does
      root_same (Ok plan) does = ran_root T fs (attributes_act plan ∷ []) state state' is_open.kept.store (All-cons KeepsBlocks (attributes_act plan) [] refl (All-nil KeepsBlocks))
          (ran_acts T fs (attributes_act plan ∷ []) state state' does)

      so : IsKept T state' (changed_volume volume n true) × (and_then (found seen n) (λ inode. Ok (changed_at seen n (with_attributes volume.memory.clock a)))
          ≡ Ok (files_in state' (changed_volume volume n true))) → IsOpen T state' (changed_volume volume n true)
      so said =
          let later = changed_volume volume n true in
          let f = then_ok (found seen n) (λ inode. Ok (changed_at seen n (with_attributes volume.memory.clock a))) (files_in state' later) said.1 in
          let files : changed_at seen n (with_attributes volume.memory.clock a) ≡ files_in state' later =
          same_done (changed_at seen n (with_attributes volume.memory.clock a)) (files_in state' later) f.2 in
          let stays = λ (m : ℕ) (some : seen m ≢ None). subst (λ g. g m ≢ None) files (changed_there seen n (with_attributes volume.memory.clock a) m some) in
          opened state' later refl said.0 (root_same (attributes_planned state volume.tree volume.memory n a) does ∙ is_open.root)
          (all_written_out (λ touch. files_in state' later touch.number ≢ None) n touched (still (files_in state' later) stays))

  -- Names that end

  ended : (state' : StoreState) (d : ℕ) (name : List ℕ) (end : NameEnd) (n : ℕ) → number_in seen d name ≡ Ok n →
      without_name seen volume.memory.clock d name n ≡ files_in state' (record volume { memory = ended_memory volume.memory d end }) →
      IsKept T state' (record volume { memory = ended_memory volume.memory d end }) → root_of state' fs ≡ root_of state fs →
      IsOpen T state' (record volume { memory = ended_memory volume.memory d end })
  ended state' d name end n number files kept root =
      let later : Volume = record volume { memory = ended_memory volume.memory d end } in
      let stays = λ (m : ℕ) (some : seen m ≢ None). subst (λ g. g m ≢ None) files (without_there seen volume.memory.clock d name n m some) in
      opened state' later refl kept (root ∙ is_open.root)
      (all_touched (λ touch. files_in state' later touch.number ≢ None) d (now_times volume.memory) (stays d (directory_there seen d n name number))
      (written_times touched end.number end.fewer.times) (still_written (files_in state' later) stays end.number end.fewer.times))

  pub unlink_open : (state' : StoreState) (volume' : Volume) (d : ℕ) (name : List ℕ) → UnlinkDoes T state state' volume volume' d name (Ok tt) → IsOpen T state' volume'
  unlink_open state' volume' d name (Err fault, planned, none, is) = absurd none
  unlink_open state' volume' d name (Ok plan, planned, does, is) =
      let later : Volume = record volume { memory = ended_memory volume.memory d plan.end } in
      let said = unlinked_so T state state' volume later d name is_open.kept (Ok plan, planned, does, refl) in
      let one = then_ok (number_in seen d name) (λ n. and_then (found seen n) (λ inode. if is_directory inode.content then Err IsDir
      else Ok (without_name seen volume.memory.clock d name n))) (files_in state' later) said.1 in
      let two = then_ok (found seen one.0) (λ inode. if is_directory inode.content then Err IsDir else Ok (without_name seen volume.memory.clock d name one.0)) (files_in state' later) one.2 in
      subst (IsOpen T state') (sym is)
      (ended state' d name plan.end one.0 one.1 (of (is_directory two.0.content) (without_name seen volume.memory.clock d name one.0) (files_in state' later) two.2) said.0
      (ran_root T fs (end_acts plan.end plan.behind) state state' is_open.kept.store (end_keeps plan.end plan.behind) (ran_acts T fs (end_acts plan.end plan.behind) state state' does)))
    where
      of : (t : Bool) (f g : Files) → ◌≡◌ {A = Result Files Fault} (if t then Err IsDir else Ok f) (Ok g) → f ≡ g
      of true f g e = absurd (cc e)
      of false f g e = same_done f g e

  pub rmdir_open : (state' : StoreState) (volume' : Volume) (d : ℕ) (name : List ℕ) → RmdirDoes T state state' volume volume' d name (Ok tt) → IsOpen T state' volume'
  rmdir_open state' volume' d name (Err fault, planned, none, is) = absurd none
  rmdir_open state' volume' d name (Ok plan, planned, does, is) =
      let later : Volume = record volume { memory = ended_memory volume.memory d plan.end } in
      let said = removed_so T state state' volume later d name is_open.kept (Ok plan, planned, does, refl) in
      let one = then_ok (number_in seen d name) (λ n. and_then (found seen n) (λ inode. if not (is_directory inode.content) then Err NotDir
      else when true (without_name seen volume.memory.clock d name n) NotEmpty)) (files_in state' later) said.4 in
      let two = then_ok (found seen one.0) (λ inode. if not (is_directory inode.content) then Err NotDir
      else when true (without_name seen volume.memory.clock d name one.0) NotEmpty) (files_in state' later) one.2 in
      subst (IsOpen T state') (sym is)
      (ended state' d name plan.end one.0 one.1 (of (not (is_directory two.0.content)) (without_name seen volume.memory.clock d name one.0) (files_in state' later) two.2) said.0
      (ran_root T fs (removal_acts plan) state state' is_open.kept.store (waits_keep plan.end plan.first (drop 1 plan.pending.items) (first_of plan.pending.items))
      (ran_acts T fs (removal_acts plan) state state' does)))
    where
      of : (t : Bool) (f g : Files) → ◌≡◌ {A = Result Files Fault} (if t then Err NotDir else Ok f) (Ok g) → f ≡ g
      of true f g e = absurd (cc e)
      of false f g e = same_done f g e
