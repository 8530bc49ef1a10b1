-- A record is made in a bucket of a directory, behind the others.
use Rattle.std.proofs.Common.{◌≡◌, ◌≢◌, ℕ, ◌+◌, ◌<◌, ◌≤◌, ◌^◌, Bool, true, false, ◌||◌, List, [], ◌∷◌, ◌++◌, length, Option, Some, refl, sym, ◌∙◌, ap, inl, inr, arith, subst, length-append, if◌then◌else◌}
use Rattle.std.specs.Prelude.{All, Contains, IsTrue, bytes_eq}
use Rattle.std.specs.Int.{w32, to_le_bytes}
use Rattle.std.proofs.lemmas.Bool.{cases_eq, true≢false}
use Rattle.std.proofs.lemmas.List.Elements.{All-append, All-cons}
use Rattle.treefs_format.specs.Buckets.{is_whole, room_behind}
use Rattle.treefs_format.specs.Candidates.{candidates, name_hash}
use Rattle.treefs_format.specs.Fields.{fields_of}
use Rattle.treefs_format.specs.Inodes.{kind_of}
use Rattle.treefs_format.specs.Names.{is_name}
use Rattle.treefs_format.specs.Paths.{leaf_count}
use Rattle.treefs_format.specs.Records.{Entry, end_of, entries_of, entry_bytes}
use Rattle.treefs_format.specs.declared.kind.Kind.TheVariants as kind
use Rattle.treefs_format.proofs.Parsed.{IsByte}
use Rattle.treefs_format.proofs.ForCallers.{ends_within, records_made, records_whole}
use Rattle.treefs_model.specs.Acts.{record_act}
use Rattle.treefs_model.specs.Files.{with_name}
use Rattle.treefs_model.specs.Reading.{bucket_of, files_of, key_in, number_of}
use Rattle.treefs_model.specs.Trees.{has_name}
use Rattle.treefs_lookup.specs.Buckets.{bucket_block, bucket_start}
use Rattle.treefs_edits.specs.Written.{written}
use Rattle.treefs_values.specs.Names.{bucket_entries}
use Rattle.treefs_values.specs.Values.{led_to}
use Rattle.treefs_values.specs.Volumes.{IsDirectory, IsVolume}
use Rattle.treefs_values.specs.Ways.{block_numbered}
use Rattle.treefs_values.proofs.Entries.{same_bytes}
use Rattle.treefs_values.proofs.Kept.{still_volume}
use Rattle.treefs_values.proofs.Named.{candidates_few, files_named, named_as}
use Rattle.treefs_values.proofs.Numbered.{bucket_bytes, four_bytes}
use Rattle.treefs_values.proofs.Numbers.{among_numbers, has_one, names_made, number_made}
use Rattle.treefs_values.proofs.Putting.{IsPut, is_put}

module _ (node inode top : ℕ) (type : ℕ → ℕ) (old : ℕ → List ℕ) (v : IsVolume node inode type old top)
    (n : ℕ) (number : n ≢ 0) (there : block_numbered old top n ≢ 0) (k : ℕ) (few : k ≤ leaf_count) (e : Entry) (short : e.number < 2 ^ 32) (named : IsTrue (is_name e.name))
    (range : All (λ b. b < 256) e.name) (length_short : length e.name < 256) (room : 5 + length e.name ≤ room_behind (bucket_of old (block_numbered old top n) k)) (behind : Option ℕ)
    (directory : kind_of (fields_of (old (block_numbered old top n))).mode ≡ Some kind.Directory)
    (candidate : Contains (candidates (name_hash (key_in old top) e.name)) k)
    (new_name : (j : ℕ) → Contains (candidates (name_hash (key_in old top) e.name)) j → has_name (bucket_entries old (block_numbered old top n) j) e.name ≡ false) where
  abbrev c : ℕ
  c = block_numbered old top n

  abbrev key : List ℕ
  key = key_in old top

  abbrev at : ℕ
  at = end_of (bucket_of old c k)

  abbrev new : ℕ → List ℕ
  new = written (record_act (bucket_block old c k) (bucket_start k + at) e behind) old

  was : IsDirectory old key c
  was = v.directories n number there directory

  long : length (entry_bytes e) ≡ 5 + length e.name
  long = let parts = length-append (to_le_bytes w32 e.number) (length e.name ∷ e.name) in let four = (four_bytes e.number).0 in omega arith

  pub small : All (λ b. b < 256) (entry_bytes e)
  small = All-append IsByte (to_le_bytes w32 e.number) (length e.name ∷ e.name) (four_bytes e.number).1 (All-cons IsByte (length e.name) e.name length_short range)

  pub put_in : IsPut node inode top type old v n number there (entry_bytes e) small at behind k
  put_in = is_put node inode top type old v n number there (entry_bytes e) small at behind (let l = long in omega arith) k few
      (let l = long in let within = ends_within (bucket_of old c k) in omega arith)

  bytes : All (λ b. b < 256) (bucket_of old c k)
  bytes = bucket_bytes node inode top type old v n number there k few

  new_is : bucket_entries new c k ≡ bucket_entries old c k ++ e ∷ []
  new_is = ap entries_of put_in.bucket ∙ records_made (bucket_of old c k) e (was.whole k few) bytes short named

  others : (j : ℕ) → j ≤ leaf_count → j ≢ k → bucket_entries new c j ≡ bucket_entries old c j
  others j few' ne = ap entries_of (put_in.others j few' ne)

  -- in no bucket at all
  none : (j : ℕ) → j ≤ leaf_count → has_name (bucket_entries old c j) e.name ≡ false
  none j few' = by (has_name (bucket_entries old c j) e.name) refl
    where
      by : (b : Bool) → has_name (bucket_entries old c j) e.name ≡ b → has_name (bucket_entries old c j) e.name ≡ false
      by true h = absurd (true≢false (sym h ∙ new_name j (was.placed j e.name few' h)))
      by false h = h

  -- a name that is there now was there, or is the new one
  pub from_old : (P : ℕ → List ℕ → Type 0) → ((j : ℕ) (name : List ℕ) → j ≤ leaf_count → IsTrue (has_name (bucket_entries old c j) name) → P j name) → P k e.name →
      (j : ℕ) (name : List ℕ) → j ≤ leaf_count → IsTrue (has_name (bucket_entries new c j) name) → P j name
  from_old P old_ones own j name few' has = elim (cases_eq j k) [
    | inl same ↦ subst (λ i. P i name) (sym same) (here (has_name (bucket_entries old c k) name) (bytes_eq e.name name) refl refl
        (sym (has_one old new c k few was.names e.name e.number none new_is others name) ∙ subst (λ i. IsTrue (has_name (bucket_entries new c i) name)) same has))
    | inr ne ↦ old_ones j name few' (sym (ap (λ es. has_name es name) (others j few' ne)) ∙ has)
  ]
    where
      here : (a b : Bool) → has_name (bucket_entries old c k) name ≡ a → bytes_eq e.name name ≡ b →
          IsTrue (has_name (bucket_entries old c k) name || (bytes_eq e.name name || false)) → P k name
      here true b h g or = old_ones k name few h
      here false true h g or = subst (P k) (same_bytes e.name name g) own
      here false false h g or = absurd (true≢false (sym or ∙ (λ i. h i || (g i || false))))

  directory_made : IsDirectory new key c
  directory_made = record {
    names = names_made old new c k few was.names e.name e.number none new_is others;
    placed = from_old (λ j name. Contains (candidates (name_hash key name)) j) was.placed candidate;
    valid = from_old (λ j name. IsTrue (is_name name)) was.valid named;
    whole = λ j few'. elim (cases_eq j k) [
      | inl same ↦ subst (λ i. IsTrue (is_whole (bucket_of new c i))) (sym same)
          (subst (λ m. IsTrue (is_whole m)) (sym put_in.bucket) (records_whole (bucket_of old c k) e (was.whole k few) bytes short named))
      | inr ne ↦ subst (λ m. IsTrue (is_whole m)) (sym (put_in.others j few' ne)) (was.whole j few')
    ];
  }

  pub volume_made : IsVolume node inode type new top
  volume_made = still_volume node inode top type old new v n (bucket_block old c k) number put_in.some put_in.part put_in.changed put_in.keeps put_in.is_block
      (λ directory'. directory_made)

  numbers_are : (x : List ℕ) → number_of new key c x ≡ named_as (number_of old key c) e.name (led_to e.number) x
  numbers_are x =
      let ks = candidates (name_hash key x) in
      among_numbers new c x ks
      ∙ (number_made old new c k few was.names e.name e.number none new_is others x ks (candidates_few (name_hash key x))
      (λ same. subst (λ y. Contains (candidates (name_hash key y)) k) (sym (same_bytes x e.name same)) candidate)
      ∙ ap (λ o. if bytes_eq x e.name then led_to e.number else o) (sym (among_numbers old c x ks)))

  pub files_made : files_of new top ≡ with_name (files_of old top) n e.name (led_to e.number)
  files_made = files_named node inode top type old new v.types.0 v.typed v.apart put_in.keeps n (bucket_block old c k) number put_in.some put_in.part put_in.changed
      v.root put_in.fields directory e.name (led_to e.number) numbers_are
