-- What look-ups find, in the words of the files.
use Rattle.std.proofs.Common.{◌≡◌, ◌≢◌, ℕ, Bool, true, false, List, [], ◌∷◌, Option, None, Some, Result, Ok, Err, refl, sym, ◌∙◌, ap, inl, inr, if◌then◌else◌}
use Rattle.std.specs.Prelude.{option_map, ◌==◌}
use Rattle.std.specs.Option.{ok_or}
use Rattle.std.proofs.lemmas.Bool.{cases_eq, ne_eqb}
use Rattle.treefs_format.specs.Buckets.{live_record}
use Rattle.treefs_format.specs.Candidates.{candidates, name_hash}
use Rattle.treefs_format.specs.Fields.{fields_of}
use Rattle.treefs_format.specs.Inodes.{kind_of}
use Rattle.treefs_format.specs.Names.{is_name}
use Rattle.treefs_format.specs.Records.{Record}
use Rattle.treefs_format.specs.declared.kind.Kind.{Kind}
use Rattle.treefs_format.specs.declared.kind.Kind.TheVariants as kind
use Rattle.treefs_model.specs.Files.{Inode, and_then, found, linked_names, number_in, when}
use Rattle.treefs_model.specs.Reading.{bucket_of, files_of, inode_block, inode_of, key_in, number_among, number_of}
use Rattle.treefs_model.specs.declared.fault.Fault.{Fault}
use Rattle.treefs_model.specs.declared.fault.Fault.TheVariants.{BadName, NoEntry}
use Rattle.treefs_lookup.specs.Inodes.{found_block, found_in, if_directory, inode_found}
use Rattle.treefs_lookup.specs.Names.{entry_found, first_some, named_in, slot_in, slot_named}
use Rattle.treefs_lookup.specs.declared.inodes.Found.{Found}
use Rattle.treefs_lookup.specs.declared.names.Slot.{Slot}
use Rattle.treefs_values.specs.Values.{found_value}
use Rattle.treefs_values.proofs.Elsewhere.{file_read, no_file}

abbrev number_of_slot : Slot → ℕ
number_of_slot slot = slot.number

module _ (content : ℕ → List ℕ) (c : ℕ) (name : List ℕ) where
  numbers_among : (buckets : List ℕ) → option_map number_of_slot (first_some (slot_in content c name) buckets) ≡ number_among content c name buckets
  numbers_among [] = refl
  numbers_among (k ∷ buckets) = by (numbers_among buckets) (live_record (bucket_of content c k) name) refl
    where
      by : option_map number_of_slot (first_some (slot_in content c name) buckets) ≡ number_among content c name buckets → (o : Option Record) →
          live_record (bucket_of content c k) name ≡ o →
          option_map number_of_slot (first_some (slot_in content c name) (k ∷ buckets)) ≡ number_among content c name (k ∷ buckets)
      by rest None is = rw is rest
      by rest (Some r) is = rw is refl

  pub numbers_named : (key : List ℕ) → option_map number_of_slot (slot_named content key c name) ≡ number_of content key c name
  unfolding slot_named
  numbers_named key = numbers_among (candidates (name_hash key name))

told : (o : Option Slot) → and_then (ok_or o NoEntry) (λ slot. Ok slot.number) ≡ ok_or (option_map number_of_slot o) NoEntry
told None = refl
told (Some slot) = refl

module _ (content : ℕ → List ℕ) (top n : ℕ) where
  abbrev b : ℕ
  b = inode_block content top n

  -- where the inode's block is not there, or is of no kind; and where it is of one
  not_there : b ≡ 0 → (inode_found content top n ≡ Err NoEntry) × (files_of content top n ≡ None)
  unfolding inode_found
  not_there z = (ap (found_block content) z, no_file content top n z)

  is_there : b ≢ 0 → (inode_found content top n ≡ found_in b (content b)) × (files_of content top n ≡ inode_of content (key_in content top) b)
  unfolding inode_found
  is_there some = (ap (λ t. if t then Err NoEntry else found_in b (content b)) (ne_eqb b 0 some), file_read content top n b refl some)

  pub inodes_found : and_then (inode_found content top n) (λ x. Ok (found_value content top x)) ≡ found (files_of content top) n
  inodes_found = elim (cases_eq b 0) [
    | inl z ↦ ap (λ r. and_then r (λ x. Ok (found_value content top x))) (not_there z).0 ∙ sym (ap (λ o. ok_or o NoEntry) (not_there z).1)
    | inr some ↦
        ap (λ r. and_then r (λ x. Ok (found_value content top x))) (is_there some).0
        ∙ (of_kind (kind_of (fields_of (content b)).mode) refl ∙ sym (ap (λ o. ok_or o NoEntry) (is_there some).1))
  ]
    where
      of_kind : (o : Option Kind) → kind_of (fields_of (content b)).mode ≡ o →
          and_then (found_in b (content b)) (λ x. Ok (found_value content top x)) ≡ ok_or (inode_of content (key_in content top) b) NoEntry
      of_kind None is = rw is refl
      of_kind (Some k) is = rw is refl

  module _ (name : List ℕ) where
    -- the number to which the name leads, in the directory that an inode is
    abbrev said : Option Inode → Result ℕ Fault
    said o = and_then (and_then (and_then (ok_or o NoEntry) linked_names) (λ names. when (is_name name) names BadName)) (λ names. ok_or (names name) NoEntry)

    abbrev entry_in : Result Found Fault → Result ℕ Fault
    entry_in r = and_then (and_then (and_then r (λ x. if_directory x x.kind)) (λ x. named_in content (key_in content top) name x.block)) (λ slot. Ok slot.number)

    pub numbers_found : and_then (entry_found content top n name) (λ slot. Ok slot.number) ≡ number_in (files_of content top) n name
    numbers_found = elim (cases_eq b 0) [
      | inl z ↦ ap entry_in (not_there z).0 ∙ sym (ap said (not_there z).1)
      | inr some ↦ ap entry_in (is_there some).0 ∙ (of_kind (kind_of (fields_of (content b)).mode) refl ∙ sym (ap said (is_there some).1))
    ]
      where
        of_links : (t : Bool) → ((fields_of (content b)).links == 0) ≡ t → (u : Bool) → is_name name ≡ u → kind_of (fields_of (content b)).mode ≡ Some kind.Directory →
            entry_in (found_in b (content b)) ≡ said (inode_of content (key_in content top) b)
        of_links true h u g is = rw is (rw h refl)
        of_links false h false g is = rw is (rw h (rw g refl))
        of_links false h true g is =
            rw is (rw h (rw g (told (slot_named content (key_in content top) b name) ∙ ap (λ o. ok_or o NoEntry) (numbers_named content b name (key_in content top)))))

        of_kind : (o : Option Kind) → kind_of (fields_of (content b)).mode ≡ o → entry_in (found_in b (content b)) ≡ said (inode_of content (key_in content top) b)
        of_kind None is = rw is refl
        of_kind (Some kind.Directory) is = of_links ((fields_of (content b)).links == 0) refl (is_name name) refl is
        of_kind (Some kind.File) is = rw is refl
        of_kind (Some kind.SymbolicLink) is = rw is refl
