-- What planners look up, in the words of the files with their newest times, each fault in its order.
use Rattle.std.proofs.Common.{◌≡◌, ℕ, Bool, true, false, not, List, Option, None, Some, Result, Ok, Err, refl, sym, ◌∙◌, ap, if◌then◌else◌}
use Rattle.std.specs.Prelude.{is_some, option_map, ◌==◌}
use Rattle.std.specs.Option.{ok_or}
use Rattle.xn_model.specs.Lives.{StoreState}
use Rattle.treefs_format.specs.Names.{is_name}
use Rattle.treefs_format.specs.declared.kind.Kind.{Kind}
use Rattle.treefs_format.specs.declared.kind.Kind.TheVariants as kind
use Rattle.treefs_model.specs.Changes.{linkable, new_name}
use Rattle.treefs_model.specs.Files.{Files, Inode, Names, and_then, directory_at, found, is_directory, linked_names, names_for, names_in, number_in, when}
use Rattle.treefs_model.specs.Reading.{content_at, files_of, inode_with, key_in, number_of}
use Rattle.treefs_model.specs.declared.fault.Fault.{Fault}
use Rattle.treefs_model.specs.declared.fault.Fault.TheVariants.{BadName, Exists, IsDir, NoEntry, NotDir}
use Rattle.treefs_lookup.specs.Inodes.{directory_found, if_bytes, if_directory, inode_found}
use Rattle.treefs_lookup.specs.Names.{entry_found, named_in, slot_named}
use Rattle.treefs_lookup.specs.Readable.{readable}
use Rattle.treefs_lookup.specs.declared.inodes.Found.{Found}
use Rattle.treefs_lookup.specs.declared.names.Slot.{Slot}
use Rattle.treefs_edits.specs.declared.memory.Touched.{Touched}
use Rattle.treefs_name_plans.specs.Ends.{directory_ended, ended_in, file_ended, if_directory as if_one_ended, if_no_directory}
use Rattle.treefs_name_plans.specs.LinkPlans.{if_linked, linkable as plan_linkable}
use Rattle.treefs_name_plans.specs.NewNames.{directory_for, free_name, if_free, if_taken, taken_in}
use Rattle.treefs_name_plans.specs.declared.ended.Ended.{Ended}
use Rattle.treefs.specs.declared.volume.Volume.{Volume}
use Rattle.treefs_values.specs.Values.{found_value}
use Rattle.treefs_values.proofs.ForCallers.{inodes_found, numbers_found, numbers_named}
use Rattle.treefs_laws.specs.Kept.{files_in}
use Rattle.treefs_laws.specs.Seen.{seen_files, seen_inode}
use Rattle.treefs_laws.proofs.Planned.{ended_is, same_done, same_fault, then_ok, then_twice}
use Rattle.treefs_laws.proofs.Seeing.{number_seen}

module _ (state : StoreState) (volume : Volume) where
  abbrev content : ℕ → List ℕ
  content = readable state volume.tree.fs.number

  abbrev top : ℕ
  top = volume.tree.top

  abbrev key : List ℕ
  key = key_in content top

  abbrev touched : List Touched
  touched = volume.memory.touched

  abbrev seen : Files
  seen = files_in state volume

  -- Inodes

  abbrev pub value_at : ℕ → Found → Inode
  value_at n x = seen_inode touched n (found_value content top x)

  pub found_so : (n : ℕ) → found seen n ≡ and_then (inode_found content top n) (λ x. Ok (value_at n x))
  unfolding seen_files
  found_so n =
      at (files_of content top n)
      ∙ (ap (λ r. and_then r (λ i. Ok (seen_inode touched n i))) (sym (inodes_found content top n))
      ∙ then_twice (inode_found content top n) (λ x. Ok (found_value content top x)) (λ i. Ok (seen_inode touched n i)))
    where
      at : (o : Option Inode) → ok_or (option_map (seen_inode touched n) o) NoEntry ≡ and_then (ok_or o NoEntry) (λ i. Ok (seen_inode touched n i))
      at None = refl
      at (Some i) = refl

  -- a directory
  pub directory_so : (d : ℕ) → directory_at seen d ≡ and_then (directory_found content top d) (λ x. Ok (number_of content key x.block))
  directory_so d = ap (λ r. and_then r linked_names) (found_so d) ∙ by (inode_found content top d)
    where
      of_links : (x : Found) (t : Bool) → ◌≡◌ {A = Result Names Fault} (if t then Err NoEntry else Ok (number_of content key x.block))
          (and_then (if t then Err NoEntry else Ok x) (λ (y : Found). Ok (number_of content key y.block)))
      of_links x true = refl
      of_links x false = refl

      of_kind : (x : Found) (k : Kind) → and_then (names_in (content_at content key x.block x.fields.parent k)) (λ names. if x.fields.links == 0 then Err NoEntry else Ok names)
          ≡ and_then (if_directory x k) (λ (y : Found). Ok (number_of content key y.block))
      of_kind x kind.Directory = of_links x (x.fields.links == 0)
      of_kind x kind.File = refl
      of_kind x kind.SymbolicLink = refl

      by : (r : Result Found Fault) → and_then (and_then r (λ x. Ok (value_at d x))) linked_names
          ≡ and_then (and_then r (λ x. if_directory x x.kind)) (λ (y : Found). Ok (number_of content key y.block))
      by (Ok x) = of_kind x x.kind
      by (Err fault) = refl

  -- a file or a symbolic link that may have one more link
  pub linkable_so : (n : ℕ) → and_then (found seen n) linkable ≡ and_then (plan_linkable content top n) (λ x. Ok (tt {0}))
  linkable_so n = ap (λ r. and_then r linkable) (found_so n) ∙ by (inode_found content top n)
    where
      of_links : (x : Found) (t : Bool) → ◌≡◌ {A = Result (Unit {0}) Fault} (if t then Err NoEntry else Ok (tt {0})) (and_then (if t then Err NoEntry else Ok x) (λ (y : Found). Ok (tt {0})))
      of_links x true = refl
      of_links x false = refl

      of_kind : (x : Found) (k : Kind) → linkable (seen_inode touched n (inode_with x.fields (content_at content key x.block x.fields.parent k)))
          ≡ and_then (and_then (if_bytes x k) if_linked) (λ (y : Found). Ok (tt {0}))
      of_kind x kind.Directory = refl
      of_kind x kind.File = of_links x (x.fields.links == 0)
      of_kind x kind.SymbolicLink = of_links x (x.fields.links == 0)

      by : (r : Result Found Fault) → and_then (and_then r (λ x. Ok (value_at n x))) linkable
          ≡ and_then (and_then (and_then r (λ x. if_bytes x x.kind)) if_linked) (λ (y : Found). Ok (tt {0}))
      by (Ok x) = of_kind x x.kind
      by (Err fault) = refl

  -- Names

  module _ (d : ℕ) (name : List ℕ) where
    pub names_so : names_for seen d name ≡ and_then (directory_for content top d name) (λ x. Ok (number_of content key x.block))
    names_so = ap (λ r. and_then r (λ names. when (is_name name) names BadName)) (directory_so d) ∙ by (directory_found content top d) (is_name name)
      where
        by : (r : Result Found Fault) (t : Bool) → and_then (and_then r (λ (x : Found). Ok (number_of content key x.block))) (λ names. when t names BadName)
            ≡ and_then (and_then r (λ (x : Found). if t then Ok x else Err BadName)) (λ (x : Found). Ok (number_of content key x.block))
        by (Ok x) true = refl
        by (Ok x) false = refl
        by (Err fault) t = refl

    -- of a directory for a name what has the name is told, or that nothing has it
    pub taken_so : (x : Found) → directory_for content top d name ≡ Ok x → taken_in content top d name ≡ Ok (slot_named content key x.block name)
    taken_so x is =
        let y = then_ok (directory_found content top d) (λ (y : Found). if is_name name then Ok y else Err BadName) x is in
        by y.0 y.1 (is_name name) refl y.2
      where
        told : (o : Option Slot) → if_taken (ok_or o NoEntry) ≡ Ok o
        told None = refl
        told (Some slot) = refl

        by : (y : Found) → directory_found content top d ≡ Ok y → (t : Bool) → is_name name ≡ t → ◌≡◌ {A = Result Found Fault} (if is_name name then Ok y else Err BadName) (Ok x) →
            taken_in content top d name ≡ Ok (slot_named content key x.block name)
        by y y_is false h e = absurd (cc (sym (ap (λ t. if t then Ok y else Err BadName) h) ∙ e))
        by y y_is true h e =
            let same : y ≡ x = same_done y x (sym (ap (λ t. if t then Ok y else Err BadName) h) ∙ e) in
            ap if_taken (ap (λ r. and_then r (λ (z : Found). named_in content key name z.block)) y_is
            ∙ (ap (λ t. if t then ok_or (slot_named content key y.block name) NoEntry else Err BadName) h
            ∙ ap (λ (z : Found). ok_or (slot_named content key z.block name) NoEntry) same))
            ∙ told (slot_named content key x.block name)

    pub new_so : new_name seen d name ≡ and_then (free_name content top d name) (λ b. Ok (tt {0}))
    new_so = ap (λ r. and_then r fresh) names_so ∙ by (directory_for content top d name) refl
      where
        fresh : Names → Result (Unit {0}) Fault
        fresh names = when (not (is_some (names name))) (tt {0}) Exists

        of_slot : (b : ℕ) (o : Option Slot) → when (not (is_some (option_map (λ (s : Slot). s.number) o))) (tt {0}) Exists ≡ and_then (if_free b o) (λ b. Ok (tt {0}))
        of_slot b None = refl
        of_slot b (Some slot) = refl

        by : (r : Result Found Fault) → directory_for content top d name ≡ r → and_then (and_then r (λ (x : Found). Ok (number_of content key x.block))) fresh
            ≡ and_then (and_then r (λ (x : Found). and_then (taken_in content top d name) (if_free x.block))) (λ b. Ok (tt {0}))
        by (Err fault) is = refl
        by (Ok x) is =
            ap (λ o. when (not (is_some o)) (tt {0}) Exists) (sym (numbers_named content x.block name key))
            ∙ (of_slot x.block (slot_named content key x.block name)
            ∙ ap (λ r. and_then (and_then r (if_free x.block)) (λ b. Ok (tt {0}))) (sym (taken_so x is)))

    pub number_so : number_in seen d name ≡ and_then (entry_found content top d name) (λ slot. Ok slot.number)
    number_so = number_seen touched (files_of content top) d name ∙ sym (numbers_found content top d name)

    -- a record, its directory and its inode
    module _ {B : Type 0} (go : ℕ → Inode → Result B Fault) where
      abbrev looked : Result B Fault
      looked = and_then (number_in seen d name) (λ n. and_then (found seen n) (go n))

      pub ended_so : (ended : Ended) → ended_in content top d name ≡ Ok ended → looked ≡ go ended.slot.number (value_at ended.slot.number ended.inode)
      ended_so ended is =
          let at = ended_is content top d name ended is in
          ap (λ r. and_then r (λ n. and_then (found seen n) (go n))) (number_so ∙ ap (λ r. and_then r (λ (slot : Slot). Ok slot.number)) at.0)
          ∙ ap (λ r. and_then r (go ended.slot.number)) (found_so ended.slot.number ∙ ap (λ r. and_then r (λ x. Ok (value_at ended.slot.number x))) at.1)

      pub none_ended : (g : Fault) → ended_in content top d name ≡ Err g → looked ≡ Err g
      none_ended g is = ap (λ r. and_then r (λ n. and_then (found seen n) (go n))) number_so ∙ by (entry_found content top d name) refl is
        where
          record_in : Slot → Found → Found → Result Ended Fault
          record_in slot directory x = Ok (record { directory = directory.block; slot = slot; inode = x })

          by_inode : (slot : Slot) (directory : Found) (r : Result Found Fault) → and_then r (record_in slot directory) ≡ Err g →
              and_then (and_then r (λ x. Ok (value_at slot.number x))) (go slot.number) ≡ Err g
          by_inode slot directory (Ok x) e = absurd (cc e)
          by_inode slot directory (Err fault) e = ap Err (same_fault fault g e)

          by_directory : (slot : Slot) → entry_found content top d name ≡ Ok slot → (r : Result Found Fault) → directory_found content top d ≡ r →
              and_then r (λ (directory : Found). and_then (inode_found content top slot.number) (record_in slot directory)) ≡ Err g →
              and_then (found seen slot.number) (go slot.number) ≡ Err g
          by_directory slot named (Ok directory) there e =
              ap (λ r. and_then r (go slot.number)) (found_so slot.number) ∙ by_inode slot directory (inode_found content top slot.number) e
          by_directory slot named (Err fault) there e =
              absurd (cc (sym (ap (λ r. and_then r (λ (x : Found). named_in content key name x.block)) there) ∙ named))

          by : (r : Result Slot Fault) → entry_found content top d name ≡ r →
              and_then r (λ slot. and_then (directory_found content top d) (λ (directory : Found). and_then (inode_found content top slot.number) (record_in slot directory))) ≡ Err g →
              and_then (and_then r (λ (slot : Slot). Ok slot.number)) (λ n. and_then (found seen n) (go n)) ≡ Err g
          by (Ok slot) named e = by_directory slot named (directory_found content top d) refl e
          by (Err fault) named e = ap Err (same_fault fault g e)

    -- of a file or a symbolic link, or of a directory
    module _ {B : Type 0} (done : ℕ → Result B Fault) (g : Fault) where
      abbrev if_plain : ℕ → Inode → Result B Fault
      if_plain n inode = if is_directory inode.content then Err IsDir else done n

      abbrev if_one : ℕ → Inode → Result B Fault
      if_one n inode = if not (is_directory inode.content) then Err NotDir else done n

      pub no_file_ended : file_ended content top d name ≡ Err g → and_then (number_in seen d name) (λ n. and_then (found seen n) (if_plain n)) ≡ Err g
      no_file_ended is = by (ended_in content top d name) refl is
        where
          of_kind : (e : Ended) (k : Kind) → if_no_directory e k ≡ Err g →
              (if is_directory (content_at content key e.inode.block e.inode.fields.parent k) then Err IsDir else done e.slot.number) ≡ Err g
          of_kind e kind.Directory is = ap Err (same_fault IsDir g is)
          of_kind e kind.File is = absurd (cc is)
          of_kind e kind.SymbolicLink is = absurd (cc is)

          by : (r : Result Ended Fault) → ended_in content top d name ≡ r → and_then r (λ e. if_no_directory e e.inode.kind) ≡ Err g →
              and_then (number_in seen d name) (λ n. and_then (found seen n) (if_plain n)) ≡ Err g
          by (Ok ended) at e = ended_so if_plain ended at ∙ of_kind ended ended.inode.kind e
          by (Err fault) at e = none_ended if_plain g (at ∙ ap Err (same_fault fault g e))

      pub no_directory_ended : directory_ended content top d name ≡ Err g → and_then (number_in seen d name) (λ n. and_then (found seen n) (if_one n)) ≡ Err g
      no_directory_ended is = by (ended_in content top d name) refl is
        where
          of_kind : (e : Ended) (k : Kind) → if_one_ended e k ≡ Err g →
              (if not (is_directory (content_at content key e.inode.block e.inode.fields.parent k)) then Err NotDir else done e.slot.number) ≡ Err g
          of_kind e kind.Directory is = absurd (cc is)
          of_kind e kind.File is = ap Err (same_fault NotDir g is)
          of_kind e kind.SymbolicLink is = ap Err (same_fault NotDir g is)

          by : (r : Result Ended Fault) → ended_in content top d name ≡ r → and_then r (λ e. if_one_ended e e.inode.kind) ≡ Err g →
              and_then (number_in seen d name) (λ n. and_then (found seen n) (if_one n)) ≡ Err g
          by (Ok ended) at e = ended_so if_one ended at ∙ of_kind ended ended.inode.kind e
          by (Err fault) at e = none_ended if_one g (at ∙ ap Err (same_fault fault g e))
