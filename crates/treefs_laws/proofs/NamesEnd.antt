-- A name ends and its inode has a link fewer: what that makes of a volume.
use Rattle.std.proofs.Common.{◌≡◌, ℕ, ◌-◌, ◌<◌, ◌^◌, Bool, true, false, List, [], ◌∷◌, Option, None, Some, Result, Ok, Err, refl, sym, ◌∙◌, ap, arith, subst, if◌then◌else◌}
use Rattle.std.specs.Prelude.{All, nat_le, option_map}
use Rattle.std.specs.Option.{ok_or}
use Rattle.std.proofs.lemmas.List.Elements.{All-cons, All-nil}
use Rattle.xn_model.specs.Types.{Types}
use Rattle.xn_model.specs.Lives.{StoreState}
use Rattle.xn_model.specs.Rules.{IsConsistent}
use Rattle.treefs_format.specs.Fields.{IsInRange}
use Rattle.treefs_format.specs.declared.fields.Change.TheVariants.{Ctime, Links, Mtime}
use Rattle.treefs_model.specs.Acts.{Act}
use Rattle.treefs_model.specs.Changes.{without_name}
use Rattle.treefs_model.specs.Files.{Files, Inode, and_then, changed_at, found, number_in, with_name}
use Rattle.treefs_model.specs.Reading.{files_of}
use Rattle.treefs_model.specs.declared.fault.Fault.{Fault}
use Rattle.treefs_model.specs.declared.fault.Fault.TheVariants.{NoEntry}
use Rattle.treefs_lookup.specs.Inodes.{inode_found}
use Rattle.treefs_lookup.specs.Names.{entry_found}
use Rattle.treefs_lookup.specs.Readable.{readable}
use Rattle.treefs_edits.specs.Memories.{Memory, newest_times, with_touched}
use Rattle.treefs_edits.specs.Written.{all_written}
use Rattle.treefs_edits.specs.declared.times.Times.{Times}
use Rattle.treefs_name_plans.specs.Ends.{end_acts, name_end, times_of}
use Rattle.treefs_name_plans.specs.declared.ended.Ended.{Ended}
use Rattle.treefs.specs.Remembered.{ended_memory, now_times, written_times}
use Rattle.treefs.specs.declared.volume.Volume.{Volume}
use Rattle.treefs_values.specs.Kinds.{kinds}
use Rattle.treefs_values.specs.Values.{AreChanges, found_value, inode_with_links, links_parts}
use Rattle.treefs_values.specs.Volumes.{IsVolume}
use Rattle.treefs_values.specs.Ways.{block_numbered}
use Rattle.treefs_values.proofs.ForCallers.{IsFound, found_inode, inodes_found, name_ended, numbers_found}
use Rattle.treefs_laws.specs.Kept.{IsKept, files_in}
use Rattle.treefs_laws.specs.Seen.{AreTimes, AreTouchedOnce, IsSession, seen_files, seen_inode}
use Rattle.treefs_laws.proofs.Ended.{ended_seen}
use Rattle.treefs_laws.proofs.InRange.{time_fits, word_fits}
use Rattle.treefs_laws.proofs.Seeing.{found_seen, number_seen}
use Rattle.treefs_laws.proofs.Touching.{all_touched, all_written_out, once_touched, once_written, times_fit}

-- The session's memory

module _ (memory : Memory) (session : IsSession memory) (n d : ℕ) (times : Times) (fit : AreTimes times) (low : Bool) where
  abbrev pub newest : Option Times
  newest = if low then None else Some (newest_times memory n times)

  newest_fit : AreTimes (newest_times memory n times)
  newest_fit = ((times_fit n times fit memory.touched session.times).0, session.clock)

  left_once : (b : Bool) → AreTouchedOnce (written_times memory.touched n (if b then None else Some (newest_times memory n times)))
  left_once true = session.once
  left_once false = once_written n memory.touched session.once

  left_fit : (b : Bool) → All (λ touch. AreTimes touch.times) (written_times memory.touched n (if b then None else Some (newest_times memory n times)))
  left_fit true = session.times
  left_fit false = all_written_out (λ touch. AreTimes touch.times) n memory.touched session.times

  pub touched_session : IsSession (record memory { touched = with_touched (written_times memory.touched n newest) d (now_times memory) })
  touched_session = record {
    once = once_touched d (now_times memory) (written_times memory.touched n newest) (left_once low);
    clock = session.clock;
    times = all_touched (λ touch. AreTimes touch.times) d (now_times memory) (session.clock, session.clock) (written_times memory.touched n newest) (left_fit low);
  }

  pub links_are_changes : (links : ℕ) → links < 2 ^ 32 → All AreChanges (links_parts links newest None)
  links_are_changes links short = by low
    where
      one : AreChanges (Links links ∷ [])
      one = (refl, All-cons IsInRange (Links links) [] short (All-nil IsInRange))

      by : (b : Bool) → All AreChanges (links_parts links (if b then None else Some (newest_times memory n times)) None)
      by true = All-cons AreChanges (Links links ∷ []) [] one (All-nil AreChanges)
      by false =
          let t = newest_times memory n times in
          All-cons AreChanges (Links links ∷ []) ((Mtime t.mtime ∷ Ctime t.ctime ∷ []) ∷ []) one
          (All-cons AreChanges (Mtime t.mtime ∷ Ctime t.ctime ∷ []) []
          (refl, All-cons IsInRange (Mtime t.mtime) (Ctime t.ctime ∷ []) newest_fit.0 (All-cons IsInRange (Ctime t.ctime) [] newest_fit.1 (All-nil IsInRange)))
          (All-nil AreChanges))

-- The volume

module _ (T : Types) (state state' : StoreState) (volume : Volume) (kept : IsKept T state volume) (d : ℕ) (name : List ℕ) (ended : Ended)
    (slot_is : entry_found (readable state volume.tree.fs.number) volume.tree.top d name ≡ Ok ended.slot)
    (inode_is : inode_found (readable state volume.tree.fs.number) volume.tree.top ended.slot.number ≡ Ok ended.inode)
    (behind : Option ℕ) where
  abbrev fs : ℕ
  fs = volume.tree.fs.number

  abbrev top : ℕ
  top = volume.tree.top

  abbrev memory : Memory
  memory = volume.memory

  abbrev content : ℕ → List ℕ
  content = readable state fs

  abbrev files : Files
  files = files_of content top

  abbrev n : ℕ
  n = ended.slot.number

  abbrev fields_links : ℕ
  fields_links = ended.inode.fields.links

  -- the inode

  is : IsFound content top n ended.inode
  is = found_inode content top n ended.inode inode_is

  abbrev c : ℕ
  c = block_numbered content top n

  bytes : All (λ b. b < 256) (content c)
  bytes = (kept.bytes.blocks c (λ z. kept.bytes.some_types.1 (sym (kept.bytes.typed.inodes n is.there) ∙ z))).1

  pub fit : AreTimes (times_of ended.inode.fields)
  fit = subst (λ f. AreTimes (times_of f)) (sym is.fields) (time_fits (content c) bytes 24, time_fits (content c) bytes 32)

  pub short : fields_links - 1 < 2 ^ 32
  short = let whole : fields_links < 2 ^ 32 = subst (λ f. f.links < 2 ^ 32) (sym is.fields) (word_fits (content c) bytes 4) in omega arith

  abbrev pub value : Inode
  value = found_value content top ended.inode

  value_found : found files n ≡ Ok value
  value_found = sym (inodes_found content top n) ∙ ap (λ r. and_then r (λ x. Ok (found_value content top x))) inode_is

  pub value_there : files n ≡ Some value
  value_there = by (files n) value_found
    where
      by : (o : Option Inode) → ok_or o NoEntry ≡ Ok value → o ≡ Some value
      by None e = absurd (cc e)
      by (Some x) e = ap to_option e
        where
          to_option : Result Inode Fault → Option Inode
          to_option (Ok y) = Some y
          to_option (Err fault) = None

  pub number_is : number_in (seen_files memory.touched files) d name ≡ Ok n
  number_is = number_seen memory.touched files d name ∙ (sym (numbers_found content top d name) ∙ ap (λ r. and_then r (λ slot. Ok slot.number)) slot_is)

  pub inode_seen : found (seen_files memory.touched files) n ≡ Ok (seen_inode memory.touched n value)
  inode_seen = found_seen memory.touched files n value value_found

  pub seen_there : seen_files memory.touched files n ≡ Some (seen_inode memory.touched n value)
  unfolding seen_files
  seen_there = ap (option_map (seen_inode memory.touched n)) value_there

  -- what is made of it

  abbrev acts : List Act
  acts = end_acts (name_end memory ended) behind

  abbrev low : Bool
  low = nat_le fields_links 1

  abbrev later : Volume
  later = record volume { memory = ended_memory memory d (name_end memory ended) }

  made : IsVolume volume.tree.node_type volume.tree.inode_type (kinds state fs) (all_written acts content) top
      × (files_of (all_written acts content) top
      ≡ changed_at (with_name files d name None) n (inode_with_links (fields_links - 1) (newest memory kept.session n d (times_of ended.inode.fields) fit low) None))
  made =
      name_ended volume.tree.node_type volume.tree.inode_type top (kinds state fs) content kept.bytes d name ended.slot slot_is ended.inode inode_is
      (fields_links - 1) (newest memory kept.session n d (times_of ended.inode.fields) fit low) None
      (links_are_changes memory kept.session n d (times_of ended.inode.fields) fit low (fields_links - 1) short) behind (Some ended.slot.block)

  module _ (read : IsConsistent T state' × (readable state' fs ≡ all_written acts content) × (kinds state' fs ≡ kinds state fs)) where
    pub ended_kept : IsKept T state' later
    ended_kept = record {
      store = read.0;
      bytes = subst (λ t. IsVolume volume.tree.node_type volume.tree.inode_type t (readable state' fs) top) (sym read.2)
          (subst (λ m. IsVolume volume.tree.node_type volume.tree.inode_type (kinds state fs) m top) (sym read.1) made.0);
      session = later_session;
    }
      where
        later_session : IsSession later.memory
        later_session =
            let s = touched_session memory kept.session n d (times_of ended.inode.fields) fit low in
            record { once = s.once; clock = s.clock; times = s.times }

    pub ended_files : files_in state' later ≡ without_name (files_in state volume) memory.clock d name n
    ended_files =
        ap (λ m. seen_files later.memory.touched (files_of m top)) read.1
        ∙ (ap (seen_files later.memory.touched) made.1 ∙ ended_seen memory.touched memory.clock kept.session.once files d n name value value_there)
