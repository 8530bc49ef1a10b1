-- Calls on one inode that are refused leave all as it was, and answer what the files say.
use Rattle.std.proofs.Common.{◌≡◌, ◌⊎◌, ℕ, ℤ, Bool, true, false, List, [], ◌∷◌, Option, None, Some, Result, Ok, Err, refl, sym, ◌∙◌, ap, inl, inr, subst, if◌then◌else◌}
use Rattle.std.specs.Prelude.{MatchBool, MatchResult, length, option_map}
use Rattle.std.specs.Option.{ok_or}
use Rattle.xn_model.specs.Types.{Types}
use Rattle.xn_model.specs.Lives.{StoreState}
use Rattle.store_types.specs.declared.refusal.Refusal.{Refusal}
use Rattle.store_types.specs.declared.refusal.Refusal.TheVariants as refusal
use Rattle.treefs_format.specs.declared.kind.Kind.{Kind}
use Rattle.treefs_format.specs.declared.kind.Kind.TheVariants as kind
use Rattle.treefs_model.specs.Acts.{Act}
use Rattle.treefs_model.specs.Changes.{unlinked, without_name}
use Rattle.treefs_model.specs.Files.{Files, Inode, and_then, found, is_directory, number_in}
use Rattle.treefs_model.specs.Reading.{content_at, files_of, key_in}
use Rattle.treefs_model.specs.declared.fault.Fault.{Fault}
use Rattle.treefs_model.specs.declared.fault.Fault.TheVariants.{Full, IsDir, Kernel, NoEntry}
use Rattle.treefs_lookup.specs.Inodes.{directory_found, inode_found}
use Rattle.treefs_lookup.specs.Names.{entry_found, named_in}
use Rattle.treefs_lookup.specs.declared.names.Slot.{Slot}
use Rattle.treefs_lookup.specs.Readable.{readable}
use Rattle.treefs_lookup.specs.declared.inodes.Found.{Found}
use Rattle.treefs_edits.specs.Plans.{Does, DoesPlanned}
use Rattle.treefs_edits.specs.Rooms.{has_room}
use Rattle.treefs_edits.specs.declared.memory.Touched.{Touched}
use Rattle.treefs_byte_plans.specs.Attributes.{attributes_act, attributes_in_room, attributes_plan, attributes_planned}
use Rattle.treefs_byte_plans.specs.declared.attributes.Attributes.{Attributes}
use Rattle.treefs_byte_plans.specs.declared.attributes.AttributesPlan.{AttributesPlan}
use Rattle.treefs_name_plans.specs.Ends.{IsOther, IsOtherBucket, IsUnlinkPlanned, end_in_room, end_plan, ends_alone, file_ended, if_no_directory}
use Rattle.treefs_name_plans.specs.declared.end.EndPlan.{EndPlan}
use Rattle.treefs_name_plans.specs.declared.ended.Ended.{Ended}
use Rattle.treefs.specs.Setting.{AttributesDoes, MtimeDoes}
use Rattle.treefs.specs.Unlinking.{UnlinkDoes, as_plan}
use Rattle.treefs.specs.declared.volume.Volume.{Volume}
use Rattle.treefs_values.specs.Values.{found_value}
use Rattle.treefs_values.proofs.ForCallers.{inodes_found, numbers_found}
use Rattle.treefs_laws.specs.Kept.{files_in}
use Rattle.treefs_laws.specs.Refusals.{IsWant}
use Rattle.treefs_laws.specs.Seen.{seen_files, seen_inode}
use Rattle.treefs_laws.proofs.Planned.{same_fault}
use Rattle.treefs_laws.proofs.Seeing.{found_seen, number_seen}
use Rattle.treefs_laws.proofs.TimesWritten.{refused_whole}

found_none : (touched : List Touched) (files : Files) (n : ℕ) (fault : Fault) → found files n ≡ Err fault → found (seen_files touched files) n ≡ Err fault
unfolding seen_files
found_none touched files n fault is = by (files n) is
  where
    by : (o : Option Inode) → ok_or o NoEntry ≡ Err fault → ok_or (option_map (seen_inode touched n) o) NoEntry ≡ Err fault
    by None e = e
    by (Some inode) e = absurd (cc e)

refused_reason : (T : Types) (fs : ℕ) (acts : List Act) (old new : StoreState) (fault : Fault) → Does T fs (record { starts = []; acts = λ begun. acts }) old new (Err fault) → IsWant fault
refused_reason T fs acts old new fault does = elim does [
  | inl none ↦ elim none [
    | inl lacks ↦ inr (refusal.NoMemory, lacks.0)
    | inr begins ↦ absurd (cc begins.0)
  ]
  | inr r ↦ inr (r.3.1, r.3.2)
]

pub full_or : {A : Type 0} (b : Bool) (x : A) (fault : Fault) → ◌≡◌ {A = Result A Fault} (if b then Ok x else Err Full) (Err fault) → fault ≡ Full
full_or true x fault e = absurd (cc e)
full_or false x fault e = sym (same_fault Full fault e)

module _ (state : StoreState) (volume volume' : Volume) (fault : Fault) where
  abbrev fs : ℕ
  fs = volume.tree.fs.number

  abbrev top : ℕ
  top = volume.tree.top

  abbrev content : ℕ → List ℕ
  content = readable state fs

  abbrev seen : Files
  seen = files_in state volume

  no_inode : (n : ℕ) (fault : Fault) → inode_found content top n ≡ Err fault → found seen n ≡ Err fault
  no_inode n fault is =
      found_none volume.memory.touched (files_of content top) n fault (sym (inodes_found content top n) ∙ ap (λ r. and_then r (λ (x : Found). Ok (found_value content top x))) is)

  module _ (n : ℕ) where
    abbrev Said : Type 0
    Said = (volume' ≡ volume) × ((found seen n ≡ Err fault) ⊎ IsWant fault)

    looked : {A : Type 0} (go : Found → Result A Fault) → ((x : Found) → go x ≡ Err fault → fault ≡ Full) → and_then (inode_found content top n) go ≡ Err fault →
        (found seen n ≡ Err fault) ⊎ IsWant fault
    looked {A} go full e = by (inode_found content top n) refl e
      where
        by : (r : Result Found Fault) → inode_found content top n ≡ r → and_then r go ≡ Err fault → (found seen n ≡ Err fault) ⊎ IsWant fault
        by (Ok x) is e = inr (inl (full x e))
        by (Err other) is e = inl (no_inode n fault (is ∙ ap Err (same_fault other fault e)))

    pub mtime_refused : (mtime : ℤ) → MtimeDoes state volume volume' n mtime (Err fault) → Said
    mtime_refused mtime (why, same) = (
      same,
      elim why [
        | inl none ↦ inr (inr (refusal.NoMemory, none))
        | inr planned ↦ looked (λ (x : Found). if has_room state fs (length volume.memory.touched) 1 ((x.block, 1) ∷ []) then Ok (tt {0}) else Err Full)
            (λ x e. full_or (has_room state fs (length volume.memory.touched) 1 ((x.block, 1) ∷ [])) (tt {0}) fault e) planned
      ],
    )

    pub attributes_refused : (T : Types) (state' : StoreState) (a : Attributes) → AttributesDoes T state state' volume volume' n a (Err fault) → (state' ≡ state) × (volume' ≡ volume) × ((found seen n ≡ Err fault) ⊎ IsWant fault)
    attributes_refused T state' a (does, same) = by (attributes_planned state volume.tree volume.memory n a) refl does
      where
        by : (r : Result AttributesPlan Fault) → attributes_planned state volume.tree volume.memory n a ≡ r → DoesPlanned T fs (as_plan attributes_plan r) state state' (Err fault) →
            (state' ≡ state) × (volume' ≡ volume) × ((found seen n ≡ Err fault) ⊎ IsWant fault)
        by (Err other) is does = elim does [
          | inl lacks ↦ (lacks.1, same, inr (inr (refusal.NoMemory, lacks.0)))
          | inr none ↦ (
            none.1,
            same,
            looked (attributes_in_room state fs volume.memory n a)
                (λ x e. full_or (has_room state fs (length volume.memory.touched) 1 ((x.block, 1) ∷ [])) _ fault e) (is ∙ ap Err (sym none.0)),
          )
        ]
        by (Ok plan) is does =
            (refused_whole T fs (attributes_act plan) state state' fault does, same, inr (refused_reason T fs (attributes_act plan ∷ []) state state' fault does))

  -- A name that does not end

  module _ (d : ℕ) (name : List ℕ) where
    abbrev clock : ℤ
    clock = volume.memory.clock

    abbrev end_of : ℕ → Result Files Fault
    end_of n = and_then (found seen n) (λ inode. if is_directory inode.content then Err IsDir else Ok (without_name seen clock d name n))

    number_so : number_in seen d name ≡ and_then (entry_found content top d name) (λ slot. Ok slot.number)
    number_so = number_seen volume.memory.touched (files_of content top) d name ∙ sym (numbers_found content top d name)

    of_plain : (content : ℕ → List ℕ) (key : List ℕ) (block parent : ℕ) (x ended : Ended) (k : Kind) (g : Fault) → ◌≡◌ {A = Result Ended Fault} (if_no_directory x k) (Err g) →
        (is_directory (content_at content key block parent k) ≡ true) × (g ≡ IsDir)
    of_plain content key block parent x ended kind.Directory g e = (refl, sym (same_fault IsDir g e))
    of_plain content key block parent x ended kind.File g e = absurd (cc e)
    of_plain content key block parent x ended kind.SymbolicLink g e = absurd (cc e)

    -- each fault in its order
    by_inode : (slot : Slot) (directory : Found) → entry_found content top d name ≡ Ok slot → (r : Result Found Fault) → inode_found content top slot.number ≡ r → (g : Fault) →
        and_then (and_then r (λ (x : Found). Ok (record { directory = directory.block; slot = slot; inode = x }))) (λ (e : Ended). if_no_directory e e.inode.kind) ≡ Err g →
        unlinked seen clock d name ≡ Err g
    by_inode slot directory named (Err other) is g e =
        ap (λ r. and_then r end_of) (number_so ∙ ap (λ r. and_then r (λ (slot : Slot). Ok slot.number)) named)
        ∙ (ap (λ r. and_then r (λ (inode : Inode). if is_directory inode.content then Err IsDir else Ok (without_name seen clock d name slot.number))) (no_inode slot.number other is)
        ∙ ap Err (same_fault other g e))
    by_inode slot directory named (Ok x) is g e =
        let ended : Ended = record { directory = directory.block; slot = slot; inode = x } in
        let plain = of_plain content (key_in content top) x.block x.fields.parent ended ended x.kind g e in
        ap (λ r. and_then r end_of) (number_so ∙ ap (λ r. and_then r (λ (slot : Slot). Ok slot.number)) named)
        ∙ (ap (λ r. and_then r (λ (inode : Inode). if is_directory inode.content then Err IsDir else Ok (without_name seen clock d name slot.number)))
        (found_seen volume.memory.touched (files_of content top) slot.number (found_value content top x)
        (sym (inodes_found content top slot.number) ∙ ap (λ r. and_then r (λ (x : Found). Ok (found_value content top x))) is))
        ∙ (ap (λ t. if t then Err IsDir else Ok (without_name seen clock d name slot.number)) plain.0 ∙ ap Err (sym plain.1)))

    by_directory : (slot : Slot) → entry_found content top d name ≡ Ok slot → (r : Result Found Fault) → directory_found content top d ≡ r → (g : Fault) →
        and_then (and_then r (λ (directory : Found). and_then (inode_found content top slot.number)
        (λ (x : Found). Ok (record { directory = directory.block; slot = slot; inode = x })))) (λ (e : Ended). if_no_directory e e.inode.kind) ≡ Err g →
        unlinked seen clock d name ≡ Err g
    by_directory slot named (Ok directory) is g e = by_inode slot directory named (inode_found content top slot.number) refl g e
    by_directory slot named (Err other) is g e =
        absurd (cc (sym (ap (λ r. and_then r (λ (x : Found). named_in content (key_in content top) name x.block)) is) ∙ named))

    by_entry : (r : Result Slot Fault) → entry_found content top d name ≡ r → (g : Fault) →
        and_then (and_then r (λ (slot : Slot). and_then (directory_found content top d) (λ (directory : Found). and_then (inode_found content top slot.number)
        (λ (x : Found). Ok (record { directory = directory.block; slot = slot; inode = x }))))) (λ (e : Ended). if_no_directory e e.inode.kind) ≡ Err g →
        unlinked seen clock d name ≡ Err g
    by_entry (Ok slot) is g e = by_directory slot is (directory_found content top d) refl g e
    by_entry (Err other) is g e =
        ap (λ r. and_then r end_of) (number_so ∙ ap (λ r. and_then r (λ (slot : Slot). Ok slot.number)) is) ∙ ap Err (same_fault other g e)

    not_ended : (g : Fault) → file_ended content top d name ≡ Err g → unlinked seen clock d name ≡ Err g
    not_ended g e = by_entry (entry_found content top d name) refl g e

    -- what planning may answer
    planned_fault : (g : Fault) → IsUnlinkPlanned state volume.tree volume.memory d name (Err g) → (unlinked seen clock d name ≡ Err g) ⊎ (g ≡ Full)
    planned_fault g planned = by (file_ended content top d name) refl planned
      where
        by_other : (ended : Ended) (b : Bool) (other : Fault) →
            MatchBool b (◌≡◌ {A = Result (Option ℕ) Fault} (Err other) (Ok None)) (IsOtherBucket state fs ended (Err other)) → other ≡ Full
        by_other ended true other e = absurd (cc e)
        by_other ended false other e = elim e [
          | inl none ↦ same_fault other Full none.1
          | inr some ↦ absurd (cc some.2)
        ]

        by : (r : Result Ended Fault) → file_ended content top d name ≡ r →
            MatchResult r (λ ended. (other : Result (Option ℕ) Fault) × IsOther state fs volume.memory ended other
            × (◌≡◌ {A = Result EndPlan Fault} (Err g) (and_then other (end_in_room state fs volume.memory ended))))
            (λ fault. ◌≡◌ {A = Result EndPlan Fault} (Err g) (Err fault)) → (unlinked seen clock d name ≡ Err g) ⊎ (g ≡ Full)
        by (Err other) is e = inl (not_ended g (is ∙ ap Err (sym (same_fault g other e))))
        by (Ok ended) is (Err other, why, e) = inr (same_fault g other e ∙ by_other ended (ends_alone state fs volume.memory ended) other why)
        by (Ok ended) is (Ok behind, why, e) =
            inr (full_or (has_room state fs (length volume.memory.touched) 4 ((ended.slot.block, 2) ∷ (ended.inode.block, 1) ∷ [])) _ g (sym e))

    -- where the store refuses an edit, the first one may be made
    pub unlink_refused : (T : Types) (state' : StoreState) → UnlinkDoes T state state' volume volume' d name (Err fault) →
        (volume' ≡ volume) × (((state' ≡ state) × ((unlinked seen clock d name ≡ Err fault) ⊎ (fault ≡ Full))) ⊎ ((reason : Refusal) × (fault ≡ Kernel reason)))
    unlink_refused T state' (Err other, planned, does, same) = (
      same,
      elim does [
        | inl lacks ↦ inr (refusal.NoMemory, lacks.0)
        | inr none ↦ inl (none.1, planned_fault fault (subst (λ g. IsUnlinkPlanned state volume.tree volume.memory d name (Err g)) (sym none.0) planned))
      ],
    )
    unlink_refused T state' (Ok plan, planned, does, same) = (same, by does)
      where
        by : Does T fs (end_plan plan) state state' (Err fault) → ((state' ≡ state) × ((unlinked seen clock d name ≡ Err fault) ⊎ (fault ≡ Full))) ⊎ ((reason : Refusal) × (fault ≡ Kernel reason))
        by does = elim does [
          | inl none ↦ elim none [
            | inl lacks ↦ inr (refusal.NoMemory, lacks.0)
            | inr begins ↦ absurd (cc begins.0)
          ]
          | inr r ↦ inr (r.3.1, r.3.2)
        ]
