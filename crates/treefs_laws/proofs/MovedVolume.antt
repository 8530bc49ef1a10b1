-- A name moves: what that makes of an open volume.
use Rattle.std.proofs.Common.{◌≡◌, ◌≢◌, ℕ, suc, ℤ, ◌+◌, ◌-◌, ◌<◌, Bool, true, false, not, ◌&&◌, List, Option, None, Some, Result, Ok, Err, refl, sym, ◌∙◌, ap, arith, subst, if◌then◌else◌}
use Rattle.std.specs.Prelude.{All, nat_le, option_map, ◌==◌}
use Rattle.std.proofs.lemmas.Bool.{eq-eqb, eqb-false, eqb-true, true≢false}
use Rattle.std.proofs.lemmas.List.Elements.{All-weaker}
use Rattle.std.proofs.lemmas.Option.{same_Some}
use Rattle.xn_model.specs.Types.{Types}
use Rattle.xn_model.specs.Lives.{StoreState}
use Rattle.treefs_format.specs.Fields.{fields_of}
use Rattle.treefs_format.specs.Inodes.{kind_of}
use Rattle.treefs_format.specs.declared.fields.Fields.{Fields}
use Rattle.treefs_format.specs.declared.kind.Kind.{Kind}
use Rattle.treefs_format.specs.declared.kind.Kind.TheVariants as kind
use Rattle.treefs_model.specs.Changes.{less_links, lost, may_go, move_name, moved as moved_inode, moved_to, renamed, touched as touched_inode}
use Rattle.treefs_model.specs.Files.{Content, Directory, Files, Inode, Names, and_then, changed_at, is_directory, number_in, renamed_in, with_name}
use Rattle.treefs_model.specs.Reading.{content_at, files_of, inode_with, key_in, number_of}
use Rattle.treefs_model.specs.declared.fault.Fault.{Fault}
use Rattle.treefs_model.specs.declared.fault.Fault.TheVariants.{IsDir, NotDir, NotEmpty}
use Rattle.treefs_lookup.specs.Inodes.{directory_found, if_directory, inode_found}
use Rattle.treefs_lookup.specs.Names.{entry_found, slot_named}
use Rattle.treefs_lookup.specs.Readable.{readable}
use Rattle.treefs_lookup.specs.declared.inodes.Found.{Found}
use Rattle.treefs_lookup.specs.declared.names.Slot.{Slot}
use Rattle.treefs_edits.specs.Memories.{Memory, newest_times, touched_times, with_touched}
use Rattle.treefs_edits.specs.Plans.{Does}
use Rattle.treefs_edits.specs.declared.memory.Touched.{Touched}
use Rattle.treefs_edits.specs.declared.times.Times.{Times}
use Rattle.treefs_name_plans.specs.Ends.{times_of}
use Rattle.treefs_name_plans.specs.Moves.{is_below, is_kind_directory, most_above, parent_of}
use Rattle.treefs_name_plans.specs.NewNames.{if_taken}
use Rattle.treefs_name_plans.specs.RenamePlans.{leads_to, planned_move, rename_plan}
use Rattle.treefs_name_plans.specs.declared.addition.Addition.{Addition}
use Rattle.treefs_name_plans.specs.declared.moved.Moved.{Moved}
use Rattle.treefs_name_plans.specs.declared.name_end.NameEnd.{NameEnd}
use Rattle.treefs_name_plans.specs.declared.naming.Naming.{Naming}
use Rattle.treefs_name_plans.specs.declared.naming.Naming.TheVariants.{Added, Replaced}
use Rattle.treefs_name_plans.specs.declared.rename_plan.Moving.{Moving}
use Rattle.treefs_name_plans.specs.declared.rename_plan.Moving.TheVariants.{Apart, Together}
use Rattle.treefs_name_plans.specs.declared.rename_plan.RenamePlan.{RenamePlan}
use Rattle.treefs.specs.Remembered.{named_touched, now_times, written_times}
use Rattle.treefs.specs.Renaming.{RenameDoes, moving_touched, renamed_memory}
use Rattle.treefs.specs.declared.volume.Volume.{Volume}
use Rattle.treefs_values.specs.Values.{found_value, inode_with_links}
use Rattle.treefs_values.specs.Ways.{block_numbered}
use Rattle.treefs_values.proofs.ForCallers.{IsFound, directory_is, found_inode, inodes_found}
use Rattle.treefs_laws.specs.Kept.{HasNoNames, IsKept, files_in}
use Rattle.treefs_laws.specs.Moved.{IsOfDirectory, IsRenamed}
use Rattle.treefs_laws.specs.Open.{IsOpen}
use Rattle.treefs_laws.specs.Seen.{AreTimes, AreTouchedOnce, IsSession, seen_files, times_in}
use Rattle.treefs_laws.proofs.Answering.{ended_so, found_so, number_so, taken_so, value_at}
use Rattle.treefs_laws.proofs.Filled.{is_one, some_file}
use Rattle.treefs_laws.proofs.MovePlans.{IsEnded, IsMoving, IsNaming, IsSame, plan_so}
use Rattle.treefs_laws.proofs.MovedFiles.{apart_seen, changed_other, fewer_seen, named_keeps, together_seen}
use Rattle.treefs_laws.proofs.MovedStore.{IsMovedTo, files_then, less_inode, more_inode, moved_by, newest_fits, renamed_by, same_place, stored}
use Rattle.treefs_laws.proofs.MovedSteps.{after_ends}
use Rattle.treefs_laws.proofs.MovesPlanned.{IsMoved, for_new, if_inode, kind_is, leads, looked, moved_done, new_leads, new_number}
use Rattle.treefs_laws.proofs.Planned.{ended_is, same_done, then_ok}
use Rattle.treefs_laws.proofs.Removed.{no_names}
use Rattle.treefs_laws.proofs.Seeing.{seen_touched}
use Rattle.treefs_laws.proofs.There.{changed_there}
use Rattle.treefs_laws.proofs.Touching.{all_touched, all_written_out, once_touched, once_written, others_touched, others_written}

-- Where an inode moves

-- a directory is its own first step up
below_itself : (content : ℕ → List ℕ) (top n d s : ℕ) → d ≡ n → is_below content top n (suc s) d ≡ true
unfolding is_below
below_itself content top n d s same = ap (λ t. if t then true else if parent_of content top d == d then false else is_below content top n s (parent_of content top d)) (eq-eqb d n same)

never_below : (content : ℕ → List ℕ) (top n d k s : ℕ) → k ≡ suc s → is_below content top n k d ≡ false → d ≢ n
never_below content top n d k s is below same = true≢false (sym (below_itself content top n d s same) ∙ (ap (λ j. is_below content top n j d) (sym is) ∙ below))

-- a directory that stands where it is to stand
stands_still : (content : ℕ → List ℕ) (key : List ℕ) (block parent to : ℕ) (k : Kind) → (k ≡ kind.Directory → parent ≡ to) →
    moved_to to (content_at content key block parent k) ≡ content_at content key block parent k
stands_still content key block parent to kind.Directory is = ap (λ p. Directory p (number_of content key block)) (sym (is refl))
stands_still content key block parent to kind.File is = refl
stands_still content key block parent to kind.SymbolicLink is = refl

-- and one that comes to stand there
stands_then : (content : ℕ → List ℕ) (key : List ℕ) (block to links : ℕ) (times : Times) (fields : Fields) (k : Kind) →
    moved_to to (content_at content key block fields.parent k)
    ≡ (inode_with_links links (Some times) (if is_kind_directory k then Some to else None) (inode_with fields (content_at content key block fields.parent k))).content
stands_then content key block to links times fields kind.Directory = refl
stands_then content key block to links times fields kind.File = refl
stands_then content key block to links times fields kind.SymbolicLink = refl

unlike_kinds : (a b : Option Kind) (k : Kind) → a ≡ Some k → b ≡ Some kind.Directory → k ≢ kind.Directory → a ≡ b → ⊥
unlike_kinds a b k is one plain same = plain (same_Some k kind.Directory (sym is ∙ (same ∙ one)))

may_agree : {A : Type 0} (x y : A) (m : Option ℕ) (other own : Bool) → (if other && not own then Err IsDir else if own && not other then Err NotDir else Ok x) ≡ Ok y →
    ◌≡◌ {A = Result (Option ℕ) Fault} (if other && not own then Err IsDir else if own && not other then Err NotDir else if other && not true then Err NotEmpty else Ok m) (Ok m)
may_agree x y m true true e = refl
may_agree x y m true false e = absurd (cc e)
may_agree x y m false true e = absurd (cc e)
may_agree x y m false false e = refl

directory_inode : (content : ℕ → List ℕ) (top d : ℕ) (x : Found) → directory_found content top d ≡ Ok x → (z : Found) × (inode_found content top d ≡ Ok z)
directory_inode content top d x is = let one = then_ok (inode_found content top d) (λ (f : Found). if_directory f f.kind) x is in (one.0, one.1)

abbrev some_names : Names → Content → Names
some_names other (Directory parent names) = names
some_names other content = other

module _ (T : Types) (state state' : StoreState) (volume : Volume) (d : ℕ) (name : List ℕ) (to : ℕ) (new : List ℕ) (is_open : IsOpen T state volume)
    (wide : All (λ b. b < 256) new) (place : IsOfDirectory (files_in state volume) d name) where
  abbrev fs : ℕ
  fs = volume.tree.fs.number

  abbrev top : ℕ
  top = volume.tree.top

  abbrev memory : Memory
  memory = volume.memory

  abbrev content : ℕ → List ℕ
  content = readable state fs

  abbrev key : List ℕ
  key = key_in content top

  abbrev touched : List Touched
  touched = volume.memory.touched

  abbrev clock : ℤ
  clock = volume.memory.clock

  abbrev seen : Files
  seen = files_in state volume

  abbrev files : Files
  files = files_of content top

  kept : IsKept T state volume
  kept = is_open.kept

  -- an inode that is found, as its bytes say it, and as it is seen
  value_there : (k : ℕ) (y : Found) → inode_found content top k ≡ Ok y → files k ≡ Some (found_value content top y)
  value_there k y is = some_file (files k) (found_value content top y) (sym (inodes_found content top k) ∙ ap (λ r. and_then r (λ z. Ok (found_value content top z))) is)

  seen_there : (k : ℕ) (y : Found) → inode_found content top k ≡ Ok y → seen k ≡ Some (value_at state volume k y)
  seen_there k y is = some_file (seen k) (value_at state volume k y) (found_so state volume k ∙ ap (λ r. and_then r (λ z. Ok (value_at state volume k z))) is)

  module _ (moved : Moved) (m : IsMoved state volume d name to new moved) where
    abbrev slot : Slot
    slot = moved.old.slot

    abbrev n : ℕ
    n = moved.old.slot.number

    abbrev x : Found
    x = moved.old.inode

    found_both : (entry_found content top d name ≡ Ok slot) × (inode_found content top n ≡ Ok x)
    found_both = ended_is content top d name moved.old m.old_is

    leads_so : number_in seen d name ≡ Ok n
    leads_so = number_so state volume d name ∙ ap (λ r. and_then r (λ (s : Slot). Ok s.number)) found_both.0

    not_d : n ≢ d
    not_d = place.other n leads_so

    i : IsFound content top n x
    i = found_inode content top n x found_both.1

    into_is : IsFound content top to m.into × (m.into.kind ≡ kind.Directory)
    into_is = directory_is content top to m.into m.there'

    below_so : x.kind ≡ kind.Directory → is_below content top n most_above to ≡ false
    below_so one = ap (λ t. t && is_below content top n most_above to) (sym (ap is_kind_directory one)) ∙ m.no_cycle

    not_to : n ≢ to
    not_to same = by x.kind refl
      where
        at_same : kind_of (fields_of (content (block_numbered content top n))).mode ≡ kind_of (fields_of (content (block_numbered content top to))).mode
        at_same = ap (λ k. kind_of (fields_of (content (block_numbered content top k))).mode) same

        into_one : kind_of (fields_of (content (block_numbered content top to))).mode ≡ Some kind.Directory
        into_one = into_is.0.kind ∙ ap Some into_is.1

        by : (k : Kind) → x.kind ≡ k → ⊥
        by kind.Directory is = never_below content top n to most_above 1048575 (omega arith) (below_so is) (sym same)
        by kind.File is = unlike_kinds _ _ x.kind i.kind into_one (λ one. absurd (cc (sym is ∙ one))) at_same
        by kind.SymbolicLink is = unlike_kinds _ _ x.kind i.kind into_one (λ one. absurd (cc (sym is ∙ one))) at_same

    abbrev value : Inode
    value = found_value content top x

    parent_so : x.kind ≡ kind.Directory → x.fields.parent ≡ d
    parent_so one = place.stands n (value_at state volume n x) x.fields.parent (number_of content key x.block) leads_so (seen_there n x found_both.1)
        (is_one content key x.block x.fields.parent x.kind one)

    outside_so : (inode : Inode) (parent : ℕ) (names : Names) → seen n ≡ Some inode → inode.content ≡ Directory parent names → is_below content top n most_above to ≡ false
    outside_so inode parent names there content_is = by x.kind refl
      where
        same : value_at state volume n x ≡ inode
        same = same_Some (value_at state volume n x) inode (sym (seen_there n x found_both.1) ∙ there)

        is_so : is_directory (content_at content key x.block x.fields.parent x.kind) ≡ true
        is_so = ap (λ (y : Inode). is_directory y.content) same ∙ ap is_directory content_is

        by : (k : Kind) → x.kind ≡ k → is_below content top n most_above to ≡ false
        by kind.Directory is = below_so is
        by kind.File is = absurd (true≢false (sym is_so ∙ ap (λ k. is_directory (content_at content key x.block x.fields.parent k)) is))
        by kind.SymbolicLink is = absurd (true≢false (sym is_so ∙ ap (λ k. is_directory (content_at content key x.block x.fields.parent k)) is))

    -- what the value's function goes through
    others : Names
    others = number_of content key m.into.block

    steps_so : renamed seen clock d name to new false true ≡ if_inode state volume d name to new false true (number_of content key m.into.block) n (value_at state volume n x)
    steps_so = looked state volume d name to new m.from m.into m.there m.there' m.both false true
        ∙ ended_so state volume d name (if_inode state volume d name to new false true (number_of content key m.into.block)) moved.old m.old_is

    -- what has the new name
    taken_is : (s : Slot) → entry_found content top to new ≡ Ok s → slot_named content key m.into.block new ≡ Some s
    taken_is s is = same_done (slot_named content key m.into.block new) (Some s)
        (sym (taken_so state volume to new m.into (for_new state volume d name to new m.from m.into m.there m.there' m.both)) ∙ ap if_taken is)

    none_leads : slot_named content key m.into.block new ≡ None → (k : ℕ) → number_in seen to new ≡ Ok k → ⊥
    none_leads none k is = by (entry_found content top to new) refl (sym (number_so state volume to new) ∙ is)
      where
        by : (r : Result Slot Fault) → entry_found content top to new ≡ r → and_then r (λ (s : Slot). Ok s.number) ≡ Ok k → ⊥
        by (Ok s) found e = absurd (cc (sym (taken_is s found) ∙ none))
        by (Err fault) found e = absurd (cc e)

    -- What is remembered of times

    module _ (naming : Naming) (named : IsNaming state volume d name to new moved m naming) (moving : Moving) (linked : IsMoving state volume d name to new moved m naming moving)
        (unlike : leads_to (slot_named content key m.into.block new) moved.old.slot.number ≡ false) where
      abbrev first : List Touched
      first = moving_touched volume.memory.touched moved.old.slot.number moving

      abbrev newest : Times
      newest = newest_times memory n (times_of x.fields)

      fits : AreTimes newest
      fits = newest_fits T state state' volume d name to new is_open wide moved m not_d not_to

      first_once : (moving : Moving) → AreTouchedOnce (moving_touched touched n moving)
      first_once (Together times) = once_touched n times touched kept.session.once
      first_once (Apart pair) = once_written n touched kept.session.once

      -- of all that were touched, and of the inode
      first_all : (P : Touched → Type 0) → P (record { number = n; times = newest }) → All P touched → (moving : Moving) → IsMoving state volume d name to new moved m naming moving →
          All P (moving_touched touched n moving)
      first_all P own all (Together times) linked = subst (λ t. All P (with_touched touched n t)) (sym linked.1) (all_touched P n newest own touched all)
      first_all P own all (Apart pair) linked = all_written_out P n touched all

      -- The inode

      abbrev inner : Moving → Files
      inner (Together times) = renamed_by T state state' volume d name to new is_open wide moved m not_d not_to files
      inner (Apart pair) = changed_at (with_name (with_name (changed_at files n (more_inode T state state' volume d name to new is_open wide moved m not_d not_to)) to new (Some n)) d name None) n
          (less_inode T state state' volume d name to new is_open wide moved m not_d not_to)

      abbrev renamed_seen : Files
      renamed_seen = with_name (with_name seen d name None) to new (Some n)

      there : files n ≡ Some value
      there = value_there n x found_both.1

      -- no other name of the directory is the same
      named_apart : d ≡ to → name ≢ new
      named_apart same_d same_name =
          let found : entry_found content top to new ≡ Ok slot = (λ j. entry_found content top (sym same_d j) (sym same_name j)) ∙ found_both.0 in
          true≢false (sym (eq-eqb n n refl) ∙ (ap (λ o. leads_to o n) (sym (taken_is slot found)) ∙ unlike))

      inner_seen : (moving : Moving) → IsMoving state volume d name to new moved m naming moving →
          seen_files (moving_touched touched n moving) (inner moving) ≡ changed_at renamed_seen n (moved_inode clock to)
      inner_seen (Together times) linked =
          let same : d ≡ to = same_place T state state' volume d name to new is_open wide moved m not_d not_to naming named linked.0 in
          ap (λ t. seen_files (with_touched touched n t) (inner (Together times))) linked.1
          ∙ together_seen touched clock kept.session.once files n d to name new value there not_d not_to
          (stands_still content key x.block x.fields.parent to x.kind (λ one. parent_so one ∙ same))
      inner_seen (Apart pair) linked =
          apart_seen touched clock kept.session.once files n d to name new value there not_d not_to (if is_kind_directory x.kind then Some to else None) x.fields.links refl named_apart
          (stands_then content key x.block to (x.fields.links + 1) newest x.fields x.kind)

      -- What was replaced

      module _ (k : ℕ) (y : Found) (y_is : inode_found content top k ≡ Ok y) (other : k ≢ n) where
        old_value : Inode
        old_value = found_value content top y

        is_old : (z : Inode) → files k ≡ Some z → (z.links ≡ y.fields.links) × (times_in z ≡ times_of y.fields)
        is_old z is = let same : z ≡ found_value content top y = same_Some z (found_value content top y) (sym is ∙ value_there k y y_is) in
            (ap (λ (w : Inode). w.links) same, ap times_in same)

        -- names change neither its links nor its times
        by_names : (f : Files) (a b : ℕ) (first_name second_name : List ℕ) (p q : Option ℕ) → f k ≡ files k → (z : Inode) → with_name (with_name f a first_name p) b second_name q k ≡ Some z →
            (z.links ≡ y.fields.links) × (times_in z ≡ times_of y.fields)
        by_names f a b first_name second_name p q f_is z is =
            let one = named_keeps (with_name f a first_name p) b second_name q k z is in
            let two = named_keeps f a first_name p k one.0 one.1 in
            let old = is_old two.0 (sym f_is ∙ two.1) in
            (one.2 ∙ (two.2 ∙ old.0), one.3 ∙ (two.3 ∙ old.1))

        keeps_old : (moving : Moving) (z : Inode) → inner moving k ≡ Some z → (z.links ≡ y.fields.links) × (times_in z ≡ times_of y.fields)
        keeps_old (Together times) z is = by_names files d to name new None (Some n) refl z is
        keeps_old (Apart pair) z is =
            let more = more_inode T state state' volume d name to new is_open wide moved m not_d not_to in
            let less = less_inode T state state' volume d name to new is_open wide moved m not_d not_to in
            by_names (changed_at files n more) to d new name (Some n) None (changed_other files n more k other) z
            (sym (changed_other (with_name (with_name (changed_at files n more) to new (Some n)) d name None) n less k other) ∙ is)

        same_times : (moving : Moving) (t : Times) → touched_times (moving_touched touched n moving) k t ≡ touched_times touched k t
        same_times (Together times) t = others_touched n times t k other touched
        same_times (Apart pair) t = others_written n t t k other touched

        abbrev times_left : Option Times
        times_left = if nat_le y.fields.links 1 then None else Some (newest_times memory k (times_of y.fields))

        ends_seen : seen_files (written_times first k times_left) (changed_at (inner moving) k (inode_with_links (y.fields.links - 1) times_left None))
            ≡ changed_at (changed_at renamed_seen n (moved_inode clock to)) k (less_links clock)
        ends_seen =
            fewer_seen touched first clock (first_once moving) files (inner moving) k y.fields.links (times_of y.fields) (keeps_old moving) (same_times moving (times_of y.fields))
            ∙ ap (λ f. changed_at f k (less_links clock)) (inner_seen moving linked)

      -- The session

      abbrev Left : Naming → List Touched
      Left naming = named_touched first naming

      left_once : (naming : Naming) → AreTouchedOnce (Left naming)
      left_once (Added addition) = first_once moving
      left_once (Replaced end) = by end.fewer.times
        where
          by : (times : Option Times) → AreTouchedOnce (written_times first end.number times)
          by None = first_once moving
          by (Some times) = once_written end.number first (first_once moving)

      left_all : (P : Touched → Type 0) → P (record { number = n; times = newest }) → All P touched → (naming' : Naming) → All P (Left naming')
      left_all P own all (Added addition) = first_all P own all moving linked
      left_all P own all (Replaced end) = by end.fewer.times
        where
          by : (times : Option Times) → All P (written_times first end.number times)
          by None = first_all P own all moving linked
          by (Some times) = all_written_out P end.number first (first_all P own all moving linked)

      abbrev then_touched : List Touched
      then_touched = with_touched (with_touched (Left naming) d (now_times memory)) to (now_times memory)

      then_all : (P : Touched → Type 0) → P (record { number = n; times = newest }) → P (record { number = d; times = now_times memory }) → P (record { number = to; times = now_times memory }) →
          All P touched → All P then_touched
      then_all P own one two all = all_touched P to (now_times memory) two (with_touched (Left naming) d (now_times memory))
          (all_touched P d (now_times memory) one (Left naming) (left_all P own all naming))

      -- The volume

      module _ (word : ℕ) (orphans : List ℕ) (done : IsMovedTo T state state' volume d name to new is_open wide moved m not_d not_to naming moving state') (gone : Option ℕ)
          (whole_inner : seen_files (Left naming) (files_then T state state' volume d name to new is_open wide moved m not_d not_to state')
          ≡ lost (changed_at renamed_seen n (moved_inode clock to)) clock gone) where
        abbrev later : Volume
        later = record volume { memory = record memory { touched = then_touched; last_dir = word; orphans = orphans } }

        abbrev moved_files : Files
        moved_files = move_name seen clock d name to new n gone

        files_so : files_in state' later ≡ moved_files
        files_so =
            seen_touched (with_touched (Left naming) d (now_times memory)) (files_of (readable state' fs) top) to (now_times memory)
            ∙ (ap (λ f. changed_at f to (touched_inode clock)) (seen_touched (Left naming) (files_of (readable state' fs) top) d (now_times memory))
            ∙ ap (λ f. changed_at (changed_at f d (touched_inode clock)) to (touched_inode clock)) whole_inner)

        moved_there : (k : ℕ) → seen k ≢ None → moved_files k ≢ None
        moved_there k some =
            changed_there (changed_at (lost inner_files clock gone) d (touched_inode clock)) to (touched_inode clock) k
            (changed_there (lost inner_files clock gone) d (touched_inode clock) k (by gone))
          where
            inner_files : Files
            inner_files = changed_at renamed_seen n (moved_inode clock to)

            inner_there : inner_files k ≢ None
            inner_there = changed_there renamed_seen n (moved_inode clock to) k
                (changed_there (with_name seen d name None) to (renamed_in new (Some n)) k (changed_there seen d (renamed_in name None) k some))

            by : (gone : Option ℕ) → lost inner_files clock gone k ≢ None
            by None = inner_there
            by (Some j) = changed_there inner_files j (less_links clock) k inner_there

        still_there : (k : ℕ) → seen k ≢ None → files_in state' later k ≢ None
        still_there k some none = moved_there k some (ap (λ f. f k) (sym files_so) ∙ none)

        is_there : (k : ℕ) (y : Found) → inode_found content top k ≡ Ok y → seen k ≢ None
        is_there k y is none = absurd (cc (sym (seen_there k y is) ∙ none))

        from_is : (z : Found) × (inode_found content top d ≡ Ok z)
        from_is = directory_inode content top d m.from m.there

        to_is : (z : Found) × (inode_found content top to ≡ Ok z)
        to_is = directory_inode content top to m.into m.there'

        session : IsSession later.memory
        session = record {
          once = once_touched to (now_times memory) (with_touched (Left naming) d (now_times memory)) (once_touched d (now_times memory) (Left naming) (left_once naming));
          clock = kept.session.clock;
          times = then_all (λ touch. AreTimes touch.times) fits (kept.session.clock, kept.session.clock) (kept.session.clock, kept.session.clock) kept.session.times;
        }

        opened : IsOpen T state' later
        opened = record {
          kept = record { store = done.0.store; bytes = done.0.volume; session = session };
          few = is_open.few;
          tree = is_open.tree;
          short = is_open.short;
          root = done.0.root;
          touched = then_all (λ touch. files_in state' later touch.number ≢ None) (still_there n (is_there n x found_both.1)) (still_there d (is_there d from_is.0 from_is.1))
              (still_there to (is_there to to_is.0 to_is.1))
              (All-weaker (λ (touch : Touched). seen touch.number ≢ None) (λ touch. files_in state' later touch.number ≢ None) (λ touch some. still_there touch.number some) touched is_open.touched);
        }

        -- what the value answers
        said : may_go seen (value_at state volume n x) (number_of content key m.into.block new) true ≡ Ok gone → leads state volume d name to new (number_of content key m.into.block new) n ≡ false →
            renamed seen clock d name to new false true ≡ Ok (files_in state' later)
        said may not_same =
            steps_so
            ∙ (ap (λ t. if t then Ok seen else and_then (may_go seen (value_at state volume n x) (number_of content key m.into.block new) true) (moved_done state volume d name to new n)) not_same
            ∙ (ap (λ r. and_then r (moved_done state volume d name to new n)) may ∙ ap Ok (sym files_so)))

    -- How the name came to lead there

    abbrev Result_of : Volume → Type 0
    Result_of v = IsOpen T state' v × IsRenamed state state' volume v d name to new

    inner_is : (naming : Naming) (named : IsNaming state volume d name to new moved m naming) (moving : Moving) (linked : IsMoving state volume d name to new moved m naming moving)
        (unlike : leads_to (slot_named content key m.into.block new) moved.old.slot.number ≡ false) →
        moved_by T state state' volume d name to new is_open wide moved m not_d not_to naming moving files ≡ after_ends T fs volume.tree.node_type volume.tree.inode_type top naming (inner naming named moving linked unlike moving)
    inner_is naming named (Together times) linked unlike = refl
    inner_is naming named (Apart pair) linked unlike = refl

    module _ (moving : Moving) (unlike : leads_to (slot_named content key m.into.block new) moved.old.slot.number ≡ false) (word : ℕ) (orphans : List ℕ) where
      abbrev later_by : Naming → Volume
      later_by naming = record volume {
        memory = record memory {
          touched = with_touched (with_touched (named_touched (moving_touched touched n moving) naming) d (now_times memory)) to (now_times memory);
          last_dir = word;
          orphans = orphans;
        };
      }

      added_said : (addition : Addition) (named : IsNaming state volume d name to new moved m (Added addition)) (linked : IsMoving state volume d name to new moved m (Added addition) moving) →
          IsMovedTo T state state' volume d name to new is_open wide moved m not_d not_to (Added addition) moving state' → Result_of (later_by (Added addition))
      added_said addition named linked done =
          let naming : Naming = Added addition in
          let whole = ap (seen_files (moving_touched touched n moving)) (done.1 ∙ inner_is naming named moving linked unlike) ∙ inner_seen naming named moving linked unlike moving linked in
          let none : number_of content key m.into.block new ≡ None =
          new_leads state volume d name to new m.from m.into m.there m.there' m.both ∙ ap (option_map (λ (s : Slot). s.number)) named.0 in (
            opened naming named moving linked unlike word orphans done None whole,
            record {
              number = n;
              leads = leads_so;
              outside = outside_so;
              empty = λ j is other. absurd (none_leads named.0 j is);
              files = said naming named moving linked unlike word orphans done None whole (ap (λ o. may_go seen (value_at state volume n x) o true) none)
                  (ap (λ o. leads state volume d name to new o n) none);
            },
          )

      module _ (end : NameEnd) (r : IsEnded state volume d name to new moved m end) where
        abbrev k : ℕ
        k = r.ended.slot.number

        abbrev y : Found
        y = r.ended.inode

        found_new : (entry_found content top to new ≡ Ok r.ended.slot) × (inode_found content top k ≡ Ok y)
        found_new = ended_is content top to new r.ended r.ended_is

        is_taken : slot_named content key m.into.block new ≡ Some r.ended.slot
        is_taken = taken_is r.ended.slot found_new.0

        not_same : (k == n) ≡ false
        not_same = ap (λ o. leads_to o n) (sym is_taken) ∙ unlike

        new_there : number_of content key m.into.block new ≡ Some k
        new_there = new_leads state volume d name to new m.from m.into m.there m.there' m.both ∙ ap (option_map (λ (s : Slot). s.number)) is_taken

        number_new : number_in seen to new ≡ Ok k
        number_new = number_so state volume to new ∙ ap (λ r. and_then r (λ (s : Slot). Ok s.number)) found_new.0

        -- it may go
        may : may_go seen (value_at state volume n x) (number_of content key m.into.block new) true ≡ Ok (Some k)
        may =
            ap (λ o. may_go seen (value_at state volume n x) o true) new_there
            ∙ (ap (λ q. and_then q (λ other. if is_directory other.content && not (is_directory (value_at state volume n x).content) then Err IsDir
            else if is_directory (value_at state volume n x).content && not (is_directory other.content) then Err NotDir
            else if is_directory other.content && not true then Err NotEmpty else Ok (Some k)))
            (found_so state volume k ∙ ap (λ q. and_then q (λ z. Ok (value_at state volume k z))) found_new.1)
            ∙ ((λ j. if kind_is content key y.block y.fields.parent y.kind j && not (kind_is content key x.block x.fields.parent x.kind j) then Err IsDir
            else if kind_is content key x.block x.fields.parent x.kind j && not (kind_is content key y.block y.fields.parent y.kind j) then Err NotDir
            else if kind_is content key y.block y.fields.parent y.kind j && not true then Err NotEmpty else Ok (Some k))
            ∙ may_agree r.ended r.ended (Some k) (is_kind_directory y.kind) (is_kind_directory x.kind) r.agree))

        -- no name stands in it
        bare : HasNoNames seen k
        bare inode parent names name' there content_is = by y.kind refl
          where
            same : value_at state volume k y ≡ inode
            same = same_Some (value_at state volume k y) inode (sym (seen_there k y found_new.1) ∙ there)

            is_so : is_directory (content_at content key y.block y.fields.parent y.kind) ≡ true
            is_so = ap (λ (z : Inode). is_directory z.content) same ∙ ap is_directory content_is

            block_some : y.block ≢ 0
            block_some z = let f = found_inode content top k y found_new.1 in f.there (sym f.block ∙ z)

            by : (kind_of_it : Kind) → y.kind ≡ kind_of_it → names name' ≡ None
            by kind.Directory is =
                ap (λ (z : Content). some_names (λ w. None) z name') (sym content_is ∙ (ap (λ (z : Inode). z.content) (sym same) ∙ is_one content key y.block y.fields.parent y.kind is))
                ∙ no_names state fs y.block block_some (r.without is) name' key
            by kind.File is = absurd (true≢false (sym is_so ∙ ap (λ q. is_directory (content_at content key y.block y.fields.parent q)) is))
            by kind.SymbolicLink is = absurd (true≢false (sym is_so ∙ ap (λ q. is_directory (content_at content key y.block y.fields.parent q)) is))

        replaced_said : (linked : IsMoving state volume d name to new moved m (Replaced end) moving) →
            IsMovedTo T state state' volume d name to new is_open wide moved m not_d not_to (Replaced end) moving state' → Result_of (later_by (Replaced end))
        replaced_said linked done =
            let naming : Naming = Replaced end in
            let first : List Touched = moving_touched touched n moving in
            let own = inner naming r moving linked unlike moving in
            let whole : seen_files (written_times first end.number end.fewer.times) (files_of (readable state' fs) top)
            ≡ changed_at (changed_at (with_name (with_name seen d name None) to new (Some n)) n (moved_inode clock to)) k (less_links clock) =
            ap (seen_files (written_times first end.number end.fewer.times)) (done.1 ∙ inner_is naming r moving linked unlike)
            ∙ subst (λ (e : NameEnd). seen_files (written_times first e.number e.fewer.times) (changed_at own e.number (inode_with_links e.fewer.links e.fewer.times e.fewer.parent))
            ≡ changed_at (changed_at (with_name (with_name seen d name None) to new (Some n)) n (moved_inode clock to)) k (less_links clock)) (sym r.end_is)
            (ends_seen naming r moving linked unlike k y found_new.1 (eqb-false k n not_same)) in (
              opened naming r moving linked unlike word orphans done (Some k) whole,
              record {
                number = n;
                leads = leads_so;
                outside = outside_so;
                empty = λ j is other. subst (HasNoNames seen) (same_done k j (sym number_new ∙ is)) bare;
                files = said naming r moving linked unlike word orphans done (Some k) whole may (ap (λ o. leads state volume d name to new o n) new_there ∙ not_same);
              },
            )

      all_said : (naming : Naming) (named : IsNaming state volume d name to new moved m naming) → IsMoving state volume d name to new moved m naming moving →
          Does T fs (rename_plan new (planned_move moved naming moving)) state state' (Ok tt) → Result_of (later_by naming)
      all_said (Added addition) named linked does =
          added_said addition named linked (stored T state state' volume d name to new is_open wide moved m not_d not_to (Added addition) named moving linked does)
      all_said (Replaced end) named linked does =
          replaced_said end named linked (stored T state state' volume d name to new is_open wide moved m not_d not_to (Replaced end) named moving linked does)

  -- Nothing is done where the new name leads to the inode already

  same_said : (p : IsSame state volume d name to new) → IsRenamed state state volume volume d name to new
  same_said p =
      let m = p.m in
      let lead : number_of content key m.into.block new ≡ Some p.slot.number =
      new_leads state volume d name to new m.from m.into m.there m.there' m.both ∙ ap (option_map (λ (s : Slot). s.number)) p.slot_is in
      let k : ℕ = p.moved.old.slot.number in
      record {
        number = k;
        leads = leads_so p.moved m;
        outside = outside_so p.moved m;
        empty = λ j is other. absurd (other (same_done j p.slot.number (sym is ∙ new_number state volume d name to new m.from m.into m.there m.there' m.both p.slot p.slot_is)
            ∙ eqb-true p.slot.number k p.same));
        files = steps_so p.moved m
            ∙ (ap (λ o. if leads state volume d name to new o k then Ok seen else and_then (may_go seen (value_at state volume k p.moved.old.inode) o true) (moved_done state volume d name to new k)) lead
            ∙ ap (λ t. if t then Ok seen else and_then (may_go seen (value_at state volume k p.moved.old.inode) (Some p.slot.number) true) (moved_done state volume d name to new k)) p.same);
      }

  pub renamed_law : (volume' : Volume) → RenameDoes T state state' volume volume' d name to new (Ok tt) → IsOpen T state' volume' × IsRenamed state state' volume volume' d name to new
  renamed_law volume' (Err fault, is_planned, does, same) = absurd does
  renamed_law volume' (Ok None, is_planned, does, same) =
      let p = plan_so state volume d name to new None is_planned in
      subst (λ s. IsOpen T s volume' × IsRenamed state s volume volume' d name to new) (sym does.1)
      (subst (λ v. IsOpen T state v × IsRenamed state state volume v d name to new) (sym same) (is_open, same_said p))
  renamed_law volume' (Ok (Some plan), is_planned, does, same) =
      let p = plan_so state volume d name to new (Some plan) is_planned in
      let planned : RenamePlan = planned_move p.moved p.naming p.moving in
      let does' = subst (λ q. Does T fs (rename_plan new q) state state' (Ok tt)) p.plan_is does in
      let whole = all_said p.moved p.m p.moving p.unlike (renamed_memory state' memory d to planned).last_dir (renamed_memory state' memory d to planned).orphans p.naming p.named p.linked does' in
      subst (λ v. IsOpen T state' v × IsRenamed state state' volume v d name to new) (sym (same ∙ ap (λ q. record volume { memory = renamed_memory state' memory d to q }) p.plan_is)) whole
