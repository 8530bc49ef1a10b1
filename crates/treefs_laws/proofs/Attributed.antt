-- Attributes of an inode are set.
use Rattle.std.proofs.Common.{◌≡◌, ℕ, ℤ, ◌<◌, ◌%◌, ◌^◌, Bool, true, false, List, [], ◌∷◌, ◌++◌, Option, None, Some, Result, Ok, Err, refl, sym, ◌∙◌, ap, arith, subst, if◌then◌else◌}
use Rattle.std.specs.Prelude.{All, FitsSigned, fold, length, option_map}
use Rattle.std.specs.Int.{w64}
use Rattle.std.specs.Option.{ok_or}
use Rattle.std.proofs.lemmas.List.Elements.{All-append, All-cons, All-nil}
use Rattle.xn_model.specs.Types.{Types}
use Rattle.xn_model.specs.Lives.{StoreState}
use Rattle.xn_model.specs.Rules.{IsConsistent}
use Rattle.treefs_format.specs.Fields.{IsInRange, changed, fields_of}
use Rattle.treefs_format.specs.Inodes.{kind_of, mode_of}
use Rattle.treefs_format.specs.declared.fields.Change.{Change}
use Rattle.treefs_format.specs.declared.fields.Change.TheVariants.{Ctime, Gid, Mode, Mtime, Uid}
use Rattle.treefs_format.specs.declared.fields.Fields.{Fields}
use Rattle.treefs_format.specs.declared.kind.Kind.{Kind}
use Rattle.treefs_format.proofs.ForCallers.{mode_kind, mode_permissions, mode_short}
use Rattle.treefs_model.specs.Acts.{Act, Ran, changes_act}
use Rattle.treefs_model.specs.Changes.{marked, moved_to}
use Rattle.treefs_model.specs.Files.{Content, Files, Inode, and_then, changed_at, found}
use Rattle.treefs_model.specs.Reading.{files_of, inode_with}
use Rattle.treefs_model.specs.declared.fault.Fault.{Fault}
use Rattle.treefs_model.specs.declared.fault.Fault.TheVariants.{Full, NoEntry}
use Rattle.treefs_lookup.specs.Inodes.{inode_found}
use Rattle.treefs_lookup.specs.Readable.{readable}
use Rattle.treefs_lookup.specs.declared.inodes.Found.{Found}
use Rattle.treefs_edits.specs.Kinds.{time_parts}
use Rattle.treefs_edits.specs.Memories.{without_touched}
use Rattle.treefs_edits.specs.Plans.{DoesPlanned}
use Rattle.treefs_edits.specs.declared.memory.Touched.{Touched}
use Rattle.treefs_edits.specs.Rooms.{has_room}
use Rattle.treefs_edits.specs.Written.{written}
use Rattle.treefs_edits.specs.declared.times.Times.{Times}
use Rattle.treefs_byte_plans.specs.Attributes.{attributes_act, attributes_plan, attributes_in_room, attributes_planned, mode_parts, owner_parts, planned_attributes, set_times, times_of}
use Rattle.treefs_byte_plans.specs.declared.attributes.Attributes.{Attributes}
use Rattle.treefs_byte_plans.specs.declared.attributes.AttributesPlan.{AttributesPlan}
use Rattle.treefs_byte_plans.specs.declared.attributes.Owner.{Owner}
use Rattle.treefs.specs.Changed.{changed_volume}
use Rattle.treefs.specs.Setting.{AttributesDoes}
use Rattle.treefs.specs.Unlinking.{as_plan}
use Rattle.treefs.specs.declared.volume.Volume.{Volume}
use Rattle.treefs_values.specs.Kinds.{kinds}
use Rattle.treefs_values.specs.Values.{AreChanges, KeepsBlocks, found_value}
use Rattle.treefs_values.specs.Volumes.{IsVolume}
use Rattle.treefs_values.specs.Ways.{block_numbered}
use Rattle.treefs_values.proofs.ForCallers.{IsFound, acts_read, fields_changed, found_inode, inodes_found}
use Rattle.treefs_laws.specs.Kept.{IsKept, files_in}
use Rattle.treefs_laws.specs.Seen.{AreTimes, IsSession, seen_files, seen_inode, with_times}
use Rattle.treefs_laws.specs.Setting.{AreInWidth, with_attributes, with_some_mtime, with_some_owner, with_some_permissions}
use Rattle.treefs_laws.proofs.InRange.{time_fits}
use Rattle.treefs_laws.proofs.Planned.{ran_acts, same_done, then_ok}
use Rattle.treefs_laws.proofs.Seeing.{found_seen, seen_changed}
use Rattle.treefs_laws.proofs.Touching.{all_written_out, once_written, others_written, times_fit, written_now}

low : (n : ℕ) → n % 4096 < 4096
low n = omega arith

module _ (was : Fields) (k : Kind) (is_kind : kind_of was.mode ≡ Some k) (times : Times) where
  abbrev parts : Option ℕ → Option Owner → List (List Change)
  parts permissions owner = mode_parts (option_map (λ p. mode_of k (p % 4096)) permissions) ++ (owner_parts owner ++ time_parts (Some times))

  abbrev now : Option ℕ → Option Owner → Fields
  now permissions owner = fold (fold changed) was (parts permissions owner)

  same_size : (permissions : Option ℕ) (owner : Option Owner) → (now permissions owner).size ≡ was.size
  same_size None None = refl
  same_size None (Some owner) = refl
  same_size (Some p) None = refl
  same_size (Some p) (Some owner) = refl

  same_kind : (permissions : Option ℕ) (owner : Option Owner) → kind_of (now permissions owner).mode ≡ kind_of was.mode
  same_kind None None = refl
  same_kind None (Some owner) = refl
  same_kind (Some p) None = mode_kind k (p % 4096) (low p) ∙ sym is_kind
  same_kind (Some p) (Some owner) = mode_kind k (p % 4096) (low p) ∙ sym is_kind

  abbrev change : Option ℕ → Option Owner → Inode → Inode
  change permissions owner inode = with_times times (with_some_owner owner (with_some_permissions permissions inode))

  makes : (permissions : Option ℕ) (owner : Option Owner) (content : Content) → moved_to was.parent content ≡ content →
      inode_with (now permissions owner) (moved_to (now permissions owner).parent content) ≡ change permissions owner (inode_with was content)
  makes None None content stands = ap (inode_with (now None None)) stands
  makes None (Some owner) content stands = ap (inode_with (now None (Some owner))) stands
  makes (Some p) None content stands =
      ap (inode_with (now (Some p) None)) stands ∙ ap (λ q. record (change None None (inode_with was content)) { permissions = q }) (mode_permissions k (p % 4096) (low p))
  makes (Some p) (Some owner) content stands =
      ap (inode_with (now (Some p) (Some owner))) stands
      ∙ ap (λ q. record (change None (Some owner) (inode_with was content)) { permissions = q }) (mode_permissions k (p % 4096) (low p))

  module _ (fit : AreTimes times) where
    timed : All AreChanges (time_parts (Some times))
    timed =
        All-cons AreChanges (Mtime times.mtime ∷ Ctime times.ctime ∷ []) []
        (refl, All-cons IsInRange (Mtime times.mtime) (Ctime times.ctime ∷ []) fit.0 (All-cons IsInRange (Ctime times.ctime) [] fit.1 (All-nil IsInRange)))
        (All-nil AreChanges)

    owned : (owner : Option Owner) → ((o : Owner) → owner ≡ Some o → (o.uid < 2 ^ 32) × (o.gid < 2 ^ 32)) → All AreChanges (owner_parts owner)
    owned None short = All-nil AreChanges
    owned (Some o) short =
        All-cons AreChanges (Uid o.uid ∷ Gid o.gid ∷ []) []
        (refl, All-cons IsInRange (Uid o.uid) (Gid o.gid ∷ []) (short o refl).0 (All-cons IsInRange (Gid o.gid) [] (short o refl).1 (All-nil IsInRange)))
        (All-nil AreChanges)

    moded : (permissions : Option ℕ) → All AreChanges (mode_parts (option_map (λ p. mode_of k (p % 4096)) permissions))
    moded None = All-nil AreChanges
    moded (Some p) =
        All-cons AreChanges (Mode (mode_of k (p % 4096)) ∷ []) []
        (refl, All-cons IsInRange (Mode (mode_of k (p % 4096))) [] (mode_short k (p % 4096) (low p)) (All-nil IsInRange)) (All-nil AreChanges)

    fine : (permissions : Option ℕ) (owner : Option Owner) → ((o : Owner) → owner ≡ Some o → (o.uid < 2 ^ 32) × (o.gid < 2 ^ 32)) →
        All AreChanges (parts permissions owner)
    fine permissions owner short =
        All-append AreChanges (mode_parts (option_map (λ p. mode_of k (p % 4096)) permissions)) (owner_parts owner ++ time_parts (Some times)) (moded permissions)
        (All-append AreChanges (owner_parts owner) (time_parts (Some times)) (owned owner short) timed)

-- The volume

module _ (T : Types) (state state' : StoreState) (volume volume' : Volume) (n : ℕ) (a : Attributes) (wide : AreInWidth a)
    (kept : IsKept T state volume) where
  abbrev fs : ℕ
  fs = volume.tree.fs.number

  abbrev top : ℕ
  top = volume.tree.top

  abbrev content : ℕ → List ℕ
  content = readable state fs

  abbrev seen : Files
  seen = files_in state volume

  abbrev Said : Volume → Type 0
  Said v = IsKept T state' v × (and_then (found seen n) (λ inode. Ok (changed_at seen n (with_attributes volume.memory.clock a))) ≡ Ok (files_in state' v))

  module _ (x : Found) (x_is : inode_found content top n ≡ Ok x) where
    is : IsFound content top n x
    is = found_inode content top n x x_is

    abbrev c : ℕ
    c = block_numbered content top n

    bytes : All (λ b. b < 256) (content c)
    bytes = (kept.bytes.blocks c (λ z. kept.bytes.some_types.1 (sym (kept.bytes.typed.inodes n is.there) ∙ z))).1

    old_fit : AreTimes (times_of x.fields)
    old_fit = subst (λ f. AreTimes (times_of f)) (sym is.fields) (time_fits (content c) bytes 24, time_fits (content c) bytes 32)

    abbrev times : Times
    times = set_times volume.memory n x.fields a.mtime

    fit : AreTimes times
    fit = by a.mtime wide.mtime
      where
        by : (o : Option ℤ) → ((m : ℤ) → o ≡ Some m → FitsSigned w64 m) → AreTimes (set_times volume.memory n x.fields o)
        by None short = ((times_fit n (times_of x.fields) old_fit volume.memory.touched kept.session.times).0, kept.session.clock)
        by (Some m) short = (short m refl, kept.session.clock)

    abbrev changes : List (List Change)
    changes = parts (fields_of (content c)) x.kind is.kind times a.permissions a.owner

    abbrev change_of : Inode → Inode
    change_of = change (fields_of (content c)) x.kind is.kind times a.permissions a.owner

    abbrev act : Act
    act = changes_act c changes None

    made : IsVolume volume.tree.node_type volume.tree.inode_type (kinds state fs) (written act content) top
        × (files_of (written act content) top ≡ changed_at (files_of content top) n change_of)
    made =
        fields_changed volume.tree.node_type volume.tree.inode_type top (kinds state fs) content kept.bytes n is.number is.there changes
        (fine (fields_of (content c)) x.kind is.kind times fit a.permissions a.owner wide.owner) None
        (same_size (fields_of (content c)) x.kind is.kind times a.permissions a.owner)
        (same_kind (fields_of (content c)) x.kind is.kind times a.permissions a.owner)
        (change (fields_of (content c)) x.kind is.kind times a.permissions a.owner)
        (makes (fields_of (content c)) x.kind is.kind times a.permissions a.owner)

    abbrev value : Inode
    value = found_value content top x

    value_found : found (files_of content top) n ≡ Ok value
    value_found = sym (inodes_found content top n) ∙ ap (λ r. and_then r (λ x. Ok (found_value content top x))) x_is

    -- with the newest times
    set_seen : (p : Option ℕ) (o : Option Owner) (m : Option ℤ) →
        with_times (set_times volume.memory n x.fields m) (with_some_owner o (with_some_permissions p value))
        ≡ with_some_mtime m (with_some_owner o (with_some_permissions p (marked volume.memory.clock (seen_inode volume.memory.touched n value))))
    set_seen None None None = refl
    set_seen None None (Some m) = refl
    set_seen None (Some o) None = refl
    set_seen None (Some o) (Some m) = refl
    set_seen (Some p) None None = refl
    set_seen (Some p) None (Some m) = refl
    set_seen (Some p) (Some o) None = refl
    set_seen (Some p) (Some o) (Some m) = refl

    abbrev left : List Touched
    left = without_touched volume.memory.touched n

    changed_seen : (inode : Inode) → files_of content top n ≡ Some inode →
        seen_inode left n (change_of inode) ≡ with_attributes volume.memory.clock a (seen_inode volume.memory.touched n inode)
    changed_seen inode there =
        let same : value ≡ inode = same_done value inode (sym value_found ∙ ap (λ o. ok_or o NoEntry) there) in
        subst (λ i. seen_inode left n (change_of i) ≡ with_attributes volume.memory.clock a (seen_inode volume.memory.touched n i)) same
        (ap (λ t. with_times t (with_some_owner a.owner (with_some_permissions a.permissions value))) (written_now n times times volume.memory.touched kept.session.once)
        ∙ set_seen a.permissions a.owner a.mtime)

    later_session : IsSession (changed_volume volume n true).memory
    later_session = record {
      once = once_written n volume.memory.touched kept.session.once;
      clock = kept.session.clock;
      times = all_written_out (λ touch. AreTimes touch.times) n volume.memory.touched kept.session.times;
    }

    module _ (ran : Ran T fs (act ∷ []) state state' (Ok tt)) where
      read : IsConsistent T state' × (readable state' fs ≡ written act content) × (kinds state' fs ≡ kinds state fs)
      read = acts_read T fs (act ∷ []) state state' kept.store (All-cons KeepsBlocks act [] refl (All-nil KeepsBlocks)) ran

      said : Said (changed_volume volume n true)
      said = (
        record {
          store = read.0;
          bytes = subst (λ t. IsVolume volume.tree.node_type volume.tree.inode_type t (readable state' fs) top) (sym read.2)
              (subst (λ m. IsVolume volume.tree.node_type volume.tree.inode_type (kinds state fs) m top) (sym read.1) made.0);
          session = later_session;
        },
        ap (λ r. and_then r (λ inode. Ok (changed_at seen n (with_attributes volume.memory.clock a)))) (found_seen volume.memory.touched (files_of content top) n value value_found)
            ∙ ap Ok (sym (ap (λ m. seen_files left (files_of m top)) read.1 ∙ (ap (seen_files left) made.1
            ∙ seen_changed volume.memory.touched left (files_of content top) n change_of (with_attributes volume.memory.clock a)
            (λ m t ne. others_written n t t m ne volume.memory.touched) changed_seen))),
      )

    in_room : (plan : AttributesPlan) (b : Bool) →
        ◌≡◌ {A = Result AttributesPlan Fault} (if b then Ok (planned_attributes volume.memory n a x) else Err Full) (Ok plan) → plan ≡ planned_attributes volume.memory n a x
    in_room plan true e = sym (same_done (planned_attributes volume.memory n a x) plan e)
    in_room plan false e = absurd (cc e)

    by_plan : (plan : AttributesPlan) → attributes_in_room state fs volume.memory n a x ≡ Ok plan → Ran T fs (attributes_act plan ∷ []) state state' (Ok tt) →
        Said (changed_volume volume n true)
    by_plan plan room ran =
        let plan_is = in_room plan (has_room state fs (length volume.memory.touched) 1 ((x.block, 1) ∷ [])) room in
        said (subst (λ b. Ran T fs (changes_act b changes None ∷ []) state state' (Ok tt)) is.block
        (subst (λ p. Ran T fs (attributes_act p ∷ []) state state' (Ok tt)) plan_is ran))

  pub attributed_so : AttributesDoes T state state' volume volume' n a (Ok tt) → Said volume'
  attributed_so (does, is) = subst Said (sym is) (by (attributes_planned state volume.tree volume.memory n a) refl does)
    where
      by : (r : Result AttributesPlan Fault) → attributes_planned state volume.tree volume.memory n a ≡ r →
          DoesPlanned T fs (as_plan attributes_plan r) state state' (Ok tt) → Said (changed_volume volume n true)
      by (Err fault) e none = absurd none
      by (Ok plan) e does =
          let x = then_ok (inode_found content top n) (attributes_in_room state fs volume.memory n a) plan e in
          by_plan x.0 x.1 plan x.2 (ran_acts T fs (attributes_act plan ∷ []) state state' does)
