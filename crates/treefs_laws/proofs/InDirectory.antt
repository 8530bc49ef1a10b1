-- A directory in which a name is free: where it stands, and what the files say of it.
use Rattle.std.proofs.Common.{◌≡◌, ◌≢◌, ℕ, ◌-◌, ◌<◌, ◌^◌, Bool, true, false, not, ◌&&◌, List, length, Option, None, Some, Result, Ok, Err, refl, sym, ◌∙◌, ap, arith, subst, if◌then◌else◌}
use Rattle.std.specs.Prelude.{IsTrue, is_some, nat_le, nat_lt, option_map, ◌==◌, ◌||◌}
use Rattle.std.specs.List.{list_all}
use Rattle.std.specs.Option.{ok_or}
use Rattle.std.proofs.lemmas.Bool.{and_parts, leb-true}
use Rattle.xn_model.specs.Types.{Types}
use Rattle.xn_model.specs.Lives.{StoreState}
use Rattle.treefs_format.specs.Fields.{fields_of}
use Rattle.treefs_format.specs.Inodes.{kind_of}
use Rattle.treefs_format.specs.Paths.{leaf_count}
use Rattle.treefs_format.specs.Names.{is_dots, is_name, is_name_byte, is_name_length}
use Rattle.treefs_format.specs.declared.kind.Kind.{Kind}
use Rattle.treefs_format.specs.declared.kind.Kind.TheVariants as kind
use Rattle.treefs_model.specs.Changes.{new_name}
use Rattle.treefs_model.specs.Files.{Directory, Files, Inode, Names, and_then, directory_at, found, linked_names, names_in, when}
use Rattle.treefs_model.specs.Reading.{content_at, files_of, key_in, leaf_block, number_of}
use Rattle.treefs_model.specs.declared.fault.Fault.{Fault}
use Rattle.treefs_model.specs.declared.fault.Fault.TheVariants.{BadName, Exists, NoEntry}
use Rattle.treefs_lookup.specs.Inodes.{if_directory, inode_found}
use Rattle.treefs_lookup.specs.Names.{slot_named}
use Rattle.treefs_lookup.specs.Readable.{readable}
use Rattle.treefs_lookup.specs.declared.inodes.Found.{Found}
use Rattle.treefs_lookup.specs.declared.names.Slot.{Slot}
use Rattle.treefs.specs.declared.volume.Volume.{Volume}
use Rattle.treefs_values.specs.Values.{found_value}
use Rattle.treefs_values.specs.Ways.{block_numbered}
use Rattle.treefs_values.proofs.ForCallers.{IsDirectoryAt, IsFound, counted, directory_is, inode_numbered, inodes_found, numbers_named}
use Rattle.treefs_laws.specs.Kept.{IsKept, files_in}
use Rattle.treefs_laws.specs.Seen.{seen_files, seen_inode}
use Rattle.treefs_laws.proofs.NewPlanned.{IsFreeName}
use Rattle.treefs_laws.proofs.Planned.{same_done, then_ok}

-- a name that is free, in the words of the files

module _ (name : List ℕ) where
  abbrev if_free : Names → Result (Unit {0}) Fault
  if_free x = when (not (is_some (x name))) (tt {0}) Exists

  abbrev if_found : Result Names Fault → Result (Unit {0}) Fault
  if_found r = and_then (and_then r (λ x. when (is_name name) x BadName)) (λ x. when (not (is_some (x name))) (tt {0}) Exists)

  pub new_name_is : (files : Files) (d parent : ℕ) (inode : Inode) (names : Names) → files d ≡ Some inode → inode.content ≡ Directory parent names →
      (inode.links == 0) ≡ false → is_name name ≡ true → names name ≡ None → new_name files d name ≡ Ok tt
  new_name_is files d parent inode names there content links named none =
      ap (λ o. if_found (and_then (ok_or o NoEntry) linked_names)) there
      ∙ (ap (λ c. if_found (and_then (names_in c) (λ x. if inode.links == 0 then Err NoEntry else Ok x))) content
      ∙ (ap (λ t. if_found (if t then Err NoEntry else Ok names)) links
      ∙ (ap (λ t. and_then (when t names BadName) if_free) named
      ∙ ap (λ o. when (not (is_some o)) (tt {0}) Exists) none)))

-- Names are short
pub name_long : (name : List ℕ) → IsTrue (is_name name) → length name < 256
name_long name named =
    let parts = and_parts (is_name_length (length name)) (list_all is_name_byte name && not (is_dots name)) named in
    let sides = and_parts (nat_le 1 (length name)) (nat_le (length name) 255) parts.0 in
    let le = leb-true (length name) 255 sides.1 in
    omega arith

-- The directory

is_names : (content : ℕ → List ℕ) (key : List ℕ) (c parent : ℕ) (k : Kind) → k ≡ kind.Directory → content_at content key c parent k ≡ Directory parent (number_of content key c)
is_names content key c parent kind.Directory is = refl
is_names content key c parent kind.File is = absurd (cc is)
is_names content key c parent kind.SymbolicLink is = absurd (cc is)

linked_in : (x found : Found) (k : Kind) → if_directory x k ≡ Ok found → (x ≡ found) × ((x.fields.links == 0) ≡ false)
linked_in x found kind.Directory e = by (x.fields.links == 0) refl
  where
    by : (t : Bool) → (x.fields.links == 0) ≡ t → (x ≡ found) × ((x.fields.links == 0) ≡ false)
    by true h = absurd (cc (sym (ap (λ t. if t then Err NoEntry else Ok x) h) ∙ e))
    by false h = (same_done x found (sym (ap (λ t. if t then Err NoEntry else Ok x) h) ∙ e), h)
linked_in x found kind.File e = absurd (cc e)
linked_in x found kind.SymbolicLink e = absurd (cc e)

some_file : (o : Option Inode) (inode : Inode) → ok_or o NoEntry ≡ Ok inode → o ≡ Some inode
some_file None inode e = absurd (cc e)
some_file (Some x) inode e = ap Some (same_done x inode e)

no_number : (o : Option Slot) (p : Option ℕ) → option_map (λ (s : Slot). s.number) o ≡ p → o ≡ None → p ≡ None
no_number o p e none = sym e ∙ ap (option_map (λ (s : Slot). s.number)) none

-- numbers of inodes that are there have 32 bits
pub number_few : (content : ℕ → List ℕ) (top n : ℕ) → n ≢ 0 → block_numbered content top n ≢ 0 → n < 2 ^ 32
number_few content top n some there = by ((n == 0) || nat_lt leaf_count n) refl
  where
    by : (t : Bool) → ((n == 0) || nat_lt leaf_count n) ≡ t → n < 2 ^ 32
    by true e = absurd (there (inode_numbered content top n some ∙ ap (λ t. if t then 0 else leaf_block content top (n - 1)) e))
    by false e = let few = counted n e in omega arith

module _ (T : Types) (state : StoreState) (volume : Volume) (d : ℕ) (name : List ℕ) (kept : IsKept T state volume) (c : ℕ)
    (free : IsFreeName (readable state volume.tree.fs.number) volume.tree.top d name c) where
  abbrev content : ℕ → List ℕ
  content = readable state volume.tree.fs.number

  abbrev top : ℕ
  top = volume.tree.top

  abbrev key : List ℕ
  key = key_in content top

  found_here : IsFound content top d free.found × (free.found.kind ≡ kind.Directory)
  found_here = directory_is content top d free.found free.found_is

  block_is : block_numbered content top d ≡ c
  block_is = sym found_here.0.block ∙ free.block_is

  pub directory_here : IsDirectoryAt content top d c key
  directory_here = record {
    number = found_here.0.number;
    there = λ z. found_here.0.there (block_is ∙ z);
    block = block_is;
    key_is = refl;
    directory = subst (λ x. kind_of (fields_of (content x)).mode ≡ Some kind.Directory) block_is (found_here.0.kind ∙ ap Some found_here.1);
  }

  in_files : (x : Found) × (inode_found content top d ≡ Ok x) × (x ≡ free.found) × ((x.fields.links == 0) ≡ false)
  in_files =
      let x = then_ok (inode_found content top d) (λ (x : Found). if_directory x x.kind) free.found free.found_is in
      let l = linked_in x.0 free.found x.0.kind x.2 in
      (x.0, x.1, l.0, l.1)

  abbrev old_value : Inode
  old_value = found_value content top in_files.0

  there : files_of content top d ≡ Some old_value
  there = some_file (files_of content top d) old_value (sym (inodes_found content top d) ∙ ap (λ r. and_then r (λ x. Ok (found_value content top x))) in_files.1)

  abbrev seen_value : Inode
  seen_value = seen_inode volume.memory.touched d old_value

  seen_there : files_in state volume d ≡ Some seen_value
  unfolding seen_files
  seen_there = ap (option_map (seen_inode volume.memory.touched d)) there

  pub seen_directory : (inode : Inode) × (files_in state volume d ≡ Some inode)
  seen_directory = (seen_value, seen_there)

  is_content : content_at content key in_files.0.block in_files.0.fields.parent in_files.0.kind ≡ Directory in_files.0.fields.parent (number_of content key in_files.0.block)
  is_content = is_names content key in_files.0.block in_files.0.fields.parent in_files.0.kind (ap (λ (x : Found). x.kind) in_files.2 ∙ found_here.1)

  pub is_new_name : new_name (files_in state volume) d name ≡ Ok tt
  is_new_name = new_name_is name (files_in state volume) d in_files.0.fields.parent seen_value (number_of content key in_files.0.block) seen_there is_content in_files.3 free.named
      (no_number (slot_named content key in_files.0.block name) (number_of content key in_files.0.block name) (numbers_named content in_files.0.block name key)
      (subst (λ b. slot_named content key b name ≡ None) (sym (ap (λ (x : Found). x.block) in_files.2 ∙ free.block_is)) free.no_slot))

  pub is_directory_at : (names : Names) × (directory_at (files_in state volume) d ≡ Ok names)
  is_directory_at = (
    number_of content key in_files.0.block,
    ap (λ o. and_then (ok_or o NoEntry) linked_names) seen_there
        ∙ (ap (λ x. and_then (names_in x) (λ x. if in_files.0.fields.links == 0 then Err NoEntry else Ok x)) is_content
        ∙ ap (λ t. if t then Err NoEntry else Ok (number_of content key in_files.0.block)) in_files.3),
  )
