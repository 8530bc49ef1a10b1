-- The look-ups of `unlink`, `rmdir` and `rename` are those of their functions of the values.
use Rattle.std.proofs.Common.{◌≡◌, ℕ, ◌-◌, ◌/◌, ◌%◌, Bool, true, false, cond, List, [], ◌∷◌, length, Option, Some, None, refl, sym, ◌∙◌, ap, arith, Result, Ok, Err, ◌==◌, ◌&&◌, ◌||◌, not, nat_lt, filter_map, find, is_some, if◌then◌else◌, ok_or, ne_eqb}
use Rattle.std.specs.List.{cons_option}
use Rattle.std.proofs.lemmas.List.{length-map}
use Rattle.ffs_model.specs.Library.{inode_at, inode_links, inode_mode}
use Rattle.ffs_format.specs.Entries.{is_name}
use Rattle.ffs_lookup.specs.declared.fault.FfsFault.{FfsFault}
use Rattle.ffs_lookup.specs.declared.fault.FfsFault.TheVariants.{NoEntry, Exists, NotDir, IsDir, DirNotEmpty, BadName, TooLarge}
use Rattle.ffs_lookup.specs.declared.places.Slot.{Slot}
use Rattle.ffs_lookup.specs.Newest.{and_then, mapped, directory_in, slots_of, file_in, first_named, has_room, if_empty, if_linkable, if_movable, if_unnamed, inode_block_in, inode_in, name_at, named_in, rename_in, rmdir_in, unless_unused, unlink_in}
use Rattle.ffs_lookup.specs.Files.{Answer, Blocks, Directory, File, Files, InodeValue, both_directories, cleared, directories, directory_of, entry_at, entry_named, file_of, in_use, is_bare, is_directory, links_of, look_up, moved, moved_in, positions, removed, renamed, room, fault_told, unlinked}
use Rattle.ffs_lookup.specs.FileValues.{blocks_value, bytes_value, files_of, inode_value}
use Rattle.ffs_lookup.proofs.Values.{directory_found, directory_parts, file_found, file_parts, inode_found, value_used}
use Rattle.ffs_lookup.proofs.ValuePlaces.{EntryAt, first_value, has_room_is, listed_is, look_up_is, none_value}

-- the look-up of an entry, and what comes of it
pub named_told : {A B : Type 0} (content : ℕ → List ℕ) (inode name : List ℕ) (F : Slot → Result A FfsFault) (G : (ℕ × ℕ) × ℕ → Result B FfsFault) →
    ((slot : Slot) (k : EntryAt content inode name slot) → fault_told (F slot) ≡ fault_told (G (k.at, slot.inode))) →
    fault_told (and_then (ok_or (first_named content inode name) NoEntry) F) ≡ fault_told (and_then (ok_or (look_up name (blocks_value content inode)) NoEntry) G)
named_told content inode name F G same = go (first_named content inode name) refl
  where
    go : (o : Option Slot) → o ≡ first_named content inode name → fault_told (and_then (ok_or o NoEntry) F) ≡ fault_told (and_then (ok_or (look_up name (blocks_value content inode)) NoEntry) G)
    go None e = sym (ap (λ o. fault_told (and_then (ok_or o NoEntry) G)) (none_value content inode name e))
    go (Some slot) e = let k = first_value content inode name slot e in same slot k ∙ sym (ap (λ o. fault_told (and_then (ok_or o NoEntry) G)) k.looked)

-- a directory has no entries
bare_list : {A B : Type 0} (f : A → Option B) (xs : List A) → (length (filter_map f xs) == 0) ≡ not (is_some (find (λ x. is_some (f x)) xs))
bare_list f [] = refl
bare_list {A} {B} f (x ∷ xs) = step (f x) (bare_list f xs)
  where
    step : (o : Option B) → (length (filter_map f xs) == 0) ≡ not (is_some (find (λ y. is_some (f y)) xs)) →
        (length (cons_option o (filter_map f xs)) == 0) ≡ not (is_some (cond (is_some o) (Some x) (find (λ y. is_some (f y)) xs)))
    step None r = r
    step (Some y) r = ne_eqb (length (y ∷ filter_map f xs)) 0 (λ z. omega (arith, z))

pub bare_is : (content : ℕ → List ℕ) (inode : List ℕ) → (length (slots_of content inode) == 0) ≡ is_bare (directory_parts content inode)
bare_is content inode =
    let bs = blocks_value content inode in
    ap (λ n. n == 0) (sym (length-map (slots_of content inode) (λ (entry : Slot). (name_at content entry, entry.inode))) ∙ ap length (listed_is content inode))
    ∙ bare_list (entry_at bs) (positions bs)

-- one in use
used_from : (content : ℕ → List ℕ) (fs n : ℕ) (m : List ℕ) → Ok m ≡ inode_in content fs n → inode_mode m == 0 ≡ false
unfolding inode_in
used_from content fs n m e = go ((n == 0) || nat_lt 128 n) (inode_block_in content fs ((n - 1) / 8)) e
  where
    one : (x : List ℕ) (t : Bool) → (inode_mode x == 0) ≡ t → Ok m ≡ (if t then Err NoEntry else Ok x) → inode_mode m == 0 ≡ false
    one x true z f = absurd (cc f)
    one x false z f = let same : m ≡ x = cc f in ap (λ i. inode_mode i == 0) same ∙ z

    go : (t : Bool) (r : Result ℕ FfsFault) → Ok m ≡ (if t then Err NoEntry else and_then r (λ b. unless_unused (inode_at (content b) ((n - 1) % 8)))) → inode_mode m == 0 ≡ false
    go true r f = absurd (cc f)
    go false (Err fault) f = absurd (cc f)
    go false (Ok b) f = one (inode_at (content b) ((n - 1) % 8)) (inode_mode (inode_at (content b) ((n - 1) % 8)) == 0) refl f

module _ (content : ℕ → List ℕ) where
  abbrev kind : List ℕ → Bool → InodeValue
  kind m t = if t then Directory (inode_links m) (blocks_value content m) else File (inode_links m) (bytes_value content m)

  is_directory_is : (m : List ℕ) → inode_mode m == 0 ≡ false → is_directory (inode_value content m) ≡ (inode_mode m == 2)
  is_directory_is m e = ap is_directory (value_used content m e) ∙ go (inode_mode m == 2)
    where
      go : (t : Bool) → is_directory (kind m t) ≡ t
      go true = refl
      go false = refl

  links_of_is : (m : List ℕ) → inode_mode m == 0 ≡ false → links_of (inode_value content m) ≡ inode_links m
  links_of_is m e = ap links_of (value_used content m e) ∙ go (inode_mode m == 2)
    where
      go : (t : Bool) → links_of (kind m t) ≡ inode_links m
      go true = refl
      go false = refl

  abbrev pub both_parts : List ℕ × List ℕ → (ℕ × Blocks) × (ℕ × Blocks)
  both_parts p = (directory_parts content p.0, directory_parts content p.1)

  module _ (fs : ℕ) where
    abbrev files : Files
    files = files_of content fs

    -- `unlink` and `rmdir`
    module _ (d : ℕ) (name : List ℕ) where
      abbrev found_at_file : (ℕ × ℕ) × ℕ → Result (ℕ × List ℕ) FfsFault → Answer (Unit {0})
      found_at_file found file = mapped (λ x. (tt, cleared files d found)) file

      abbrev found_file : (ℕ × ℕ) × ℕ → Answer (Unit {0})
      found_file found = found_at_file found (file_of (files found.1))

      abbrev file_at : Slot → Result Slot FfsFault
      file_at entry = mapped (λ inode. entry) (file_in content fs entry.inode)

      pub unlinked_told : fault_told (unlink_in content fs d name) ≡ fault_told (unlinked files d name)
      unfolding unlink_in named_in
      unlinked_told = go (directory_in content fs d) (directory_found content fs d)
        where
          file_told : (slot : Slot) (found : (ℕ × ℕ) × ℕ) (r : Result (List ℕ) FfsFault) → mapped (file_parts content) r ≡ file_of (files slot.inode) →
              fault_told (mapped (λ inode. slot) r) ≡ fault_told (found_at_file found (file_of (files slot.inode)))
          file_told slot found (Err fault) h = ap (λ x. fault_told (found_at_file found x)) h
          file_told slot found (Ok inode) h = ap (λ x. fault_told (found_at_file found x)) h

          named : (inode : List ℕ) (t : Bool) →
              fault_told (and_then (if t then ok_or (first_named content inode name) NoEntry else Err BadName) file_at)
              ≡ fault_told (and_then (if t then ok_or (look_up name (blocks_value content inode)) NoEntry else Err BadName) found_file)
          named inode false = refl
          named inode true = named_told content inode name file_at found_file (λ slot k. file_told slot (k.at, slot.inode) (file_in content fs slot.inode) (file_found content fs slot.inode))

          go : (r : Result (List ℕ) FfsFault) → mapped (directory_parts content) r ≡ directory_of (files d) →
              fault_told (and_then (and_then r (λ inode. if is_name name then ok_or (first_named content inode name) NoEntry else Err BadName)) file_at) ≡ fault_told (unlinked files d name)
          go (Err fault) h = ap (λ x. fault_told (and_then x (λ (directory : ℕ × Blocks). and_then (entry_named name directory) found_file))) h
          go (Ok inode) h = named inode (is_name name) ∙ ap (λ x. fault_told (and_then x (λ (directory : ℕ × Blocks). and_then (entry_named name directory) found_file))) h

      abbrev if_true : (ℕ × ℕ) × ℕ → Bool → Answer (Unit {0})
      if_true found t = if t then Ok (tt, cleared files d found) else Err DirNotEmpty

      abbrev if_bare : (ℕ × ℕ) × ℕ → ℕ × Blocks → Answer (Unit {0})
      if_bare found inner = if_true found (is_bare inner)

      abbrev found_directory : (ℕ × ℕ) × ℕ → Answer (Unit {0})
      found_directory found = and_then (directory_of (files found.1)) (if_bare found)

      abbrev directory_at : Slot → Result Slot FfsFault
      directory_at entry = and_then (directory_in content fs entry.inode) (if_empty content entry)

      pub removed_told : fault_told (rmdir_in content fs d name) ≡ fault_told (removed files d name)
      unfolding rmdir_in named_in
      removed_told = go (directory_in content fs d) (directory_found content fs d)
        where
          bare_told : (slot : Slot) (found : (ℕ × ℕ) × ℕ) (t : Bool) → fault_told (if t then Ok slot else Err DirNotEmpty) ≡ fault_told (if_true found t)
          bare_told slot found true = refl
          bare_told slot found false = refl

          directory_told : (slot : Slot) (found : (ℕ × ℕ) × ℕ) (r : Result (List ℕ) FfsFault) → mapped (directory_parts content) r ≡ directory_of (files slot.inode) →
              fault_told (and_then r (if_empty content slot)) ≡ fault_told (and_then (directory_of (files slot.inode)) (if_bare found))
          directory_told slot found (Err fault) h = ap (λ x. fault_told (and_then x (if_bare found))) h
          directory_told slot found (Ok inode) h =
              ap (λ (t : Bool). fault_told (if t then Ok slot else Err DirNotEmpty)) (bare_is content inode)
              ∙ (bare_told slot found (is_bare (directory_parts content inode)) ∙ ap (λ x. fault_told (and_then x (if_bare found))) h)

          named : (inode : List ℕ) (t : Bool) →
              fault_told (and_then (if t then ok_or (first_named content inode name) NoEntry else Err BadName) directory_at)
              ≡ fault_told (and_then (if t then ok_or (look_up name (blocks_value content inode)) NoEntry else Err BadName) found_directory)
          named inode false = refl
          named inode true = named_told content inode name directory_at found_directory (λ slot k. directory_told slot (k.at, slot.inode) (directory_in content fs slot.inode) (directory_found content fs slot.inode))

          go : (r : Result (List ℕ) FfsFault) → mapped (directory_parts content) r ≡ directory_of (files d) →
              fault_told (and_then (and_then r (λ inode. if is_name name then ok_or (first_named content inode name) NoEntry else Err BadName)) directory_at) ≡ fault_told (removed files d name)
          go (Err fault) h = ap (λ x. fault_told (and_then x (λ (directory : ℕ × Blocks). and_then (entry_named name directory) found_directory))) h
          go (Ok inode) h = named inode (is_name name) ∙ ap (λ x. fault_told (and_then x (λ (directory : ℕ × Blocks). and_then (entry_named name directory) found_directory))) h

      -- what they come to where they pass
      module _ (own : List ℕ) (slot : Slot) (is : files d ≡ Directory (inode_links own) (blocks_value content own)) (k : EntryAt content own name slot) where
        abbrev found : (ℕ × ℕ) × ℕ
        found = (k.at, slot.inode)

        named_is : (G : (ℕ × ℕ) × ℕ → Answer (Unit {0})) → and_then (directory_of (files d)) (λ directory. and_then (entry_named name directory) G) ≡ (if is_name name then G found else Err BadName)
        named_is G = ap (λ v. and_then (directory_of v) (λ directory. and_then (entry_named name directory) G)) is ∙ go (is_name name)
          where
            go : (t : Bool) → and_then (if t then ok_or (look_up name (blocks_value content own)) NoEntry else Err BadName) G ≡ (if t then G found else Err BadName)
            go false = refl
            go true = ap (λ o. and_then (ok_or o NoEntry) G) k.looked

        pub unlinked_ok : Ok slot ≡ unlink_in content fs d name → unlinked files d name ≡ Ok (tt, cleared files d found)
        unlinked_ok e =
            let same = named_is found_file in
            same ∙ go (is_name name) (file_of (files slot.inode)) (ap fault_told e ∙ (unlinked_told ∙ ap fault_told same))
          where
            go : (t : Bool) (r : Result (ℕ × List ℕ) FfsFault) → Ok tt ≡ fault_told (if t then found_at_file found r else Err BadName) → (if t then found_at_file found r else Err BadName) ≡ Ok (tt, cleared files d found)
            go false r f = absurd (cc f)
            go true (Err fault) f = absurd (cc f)
            go true (Ok file) f = refl

        pub removed_ok : Ok slot ≡ rmdir_in content fs d name → removed files d name ≡ Ok (tt, cleared files d found)
        removed_ok e =
            let same = named_is found_directory in
            same ∙ go (is_name name) (directory_of (files slot.inode)) (ap fault_told e ∙ (removed_told ∙ ap fault_told same))
          where
            bare : (t : Bool) → Ok tt ≡ fault_told (if_true found t) → if_true found t ≡ Ok (tt, cleared files d found)
            bare true f = refl
            bare false f = absurd (cc f)

            go : (t : Bool) (r : Result (ℕ × Blocks) FfsFault) → Ok tt ≡ fault_told (if t then and_then r (if_bare found) else Err BadName) → (if t then and_then r (if_bare found) else Err BadName) ≡ Ok (tt, cleared files d found)
            go false r f = absurd (cc f)
            go true (Err fault) f = absurd (cc f)
            go true (Ok inner) f = bare (is_bare inner) f

    -- Two directories, where both names are names

    module _ (d : ℕ) (name : List ℕ) (other : ℕ) (new_name : List ℕ) where
      directories_are : (a b : List ℕ) → inode_mode a == 0 ≡ false → inode_mode b == 0 ≡ false →
          directories (inode_value content a) (inode_value content b) ≡ (if (inode_mode a == 2) && (inode_mode b == 2) then Ok (both_parts (a, b)) else Err NotDir)
      directories_are a b e f =
          ap (λ v. directories v (inode_value content b)) (value_used content a e) ∙ (ap (directories (kind a (inode_mode a == 2))) (value_used content b f) ∙ go (inode_mode a == 2) (inode_mode b == 2))
        where
          go : (t u : Bool) → directories (kind a t) (kind b u) ≡ (if t && u then Ok (both_parts (a, b)) else Err NotDir)
          go true true = refl
          go true false = refl
          go false true = refl
          go false false = refl

      abbrev pub if_both : List ℕ → List ℕ → Result (List ℕ × List ℕ) FfsFault
      if_both from to = if (inode_mode from == 2) && (inode_mode to == 2) then (if is_name name && is_name new_name then Ok (from, to) else Err BadName) else Err NotDir

      abbrev if_names : (ℕ × Blocks) × (ℕ × Blocks) → Result ((ℕ × Blocks) × (ℕ × Blocks)) FfsFault
      if_names found = if is_name name && is_name new_name then Ok found else Err BadName

      pub both_found : mapped both_parts (and_then (inode_in content fs d) (λ from. and_then (inode_in content fs other) (if_both from))) ≡ both_directories files d name other new_name
      both_found = first (inode_in content fs d) refl (inode_found content fs d)
        where
          tests : (p : List ℕ × List ℕ) (t u : Bool) → mapped both_parts (if t then (if u then Ok p else Err BadName) else Err NotDir) ≡ and_then (if t then Ok (both_parts p) else Err NotDir) (λ found. if u then Ok found else Err BadName)
          tests p true true = refl
          tests p true false = refl
          tests p false u = refl

          second : (from : List ℕ) → inode_mode from == 0 ≡ false → (r : Result (List ℕ) FfsFault) → r ≡ inode_in content fs other → mapped (inode_value content) r ≡ in_use (files other) →
              mapped both_parts (and_then r (if_both from)) ≡ and_then (in_use (files other)) (λ to. and_then (directories (inode_value content from) to) if_names)
          second from used (Err fault) s h = ap (λ x. and_then x (λ to. and_then (directories (inode_value content from) to) if_names)) h
          second from used (Ok to) s h =
              tests (from, to) ((inode_mode from == 2) && (inode_mode to == 2)) (is_name name && is_name new_name)
              ∙ (ap (λ x. and_then x if_names) (sym (directories_are from to used (used_from content fs other to s)))
              ∙ ap (λ x. and_then x (λ to. and_then (directories (inode_value content from) to) if_names)) h)

          first : (r : Result (List ℕ) FfsFault) → r ≡ inode_in content fs d → mapped (inode_value content) r ≡ in_use (files d) →
              mapped both_parts (and_then r (λ from. and_then (inode_in content fs other) (if_both from))) ≡ both_directories files d name other new_name
          first (Err fault) s h = ap (λ x. and_then x (λ from. and_then (in_use (files other)) (λ to. and_then (directories from to) if_names))) h
          first (Ok from) s h =
              second from (used_from content fs d from s) (inode_in content fs other) refl (inode_found content fs other)
              ∙ ap (λ x. and_then x (λ from. and_then (in_use (files other)) (λ to. and_then (directories from to) if_names))) h

      -- `rename`

      abbrev goes_on : (ℕ × Blocks) × (ℕ × Blocks) → (ℕ × ℕ) × ℕ → Answer (Unit {0})
      goes_on both found = if is_some (look_up new_name both.1.1) then Err Exists else and_then (in_use (files found.1)) (moved_in files d found other new_name both.1.1)

      linkable_told : (slot : Slot) (to own : List ℕ) (found : (ℕ × ℕ) × ℕ) → inode_mode own == 0 ≡ false →
          fault_told (if_linkable content (d == other) to slot own) ≡ fault_told (moved_in files d found other new_name (blocks_value content to) (inode_value content own))
      linkable_told slot to own found used =
          ap (λ (t : Bool). fault_told (if t && not (d == other) then Err IsDir else if inode_links own == 65535 then Err TooLarge else if has_room content to then Ok slot else Err TooLarge)) (sym (is_directory_is own used))
          ∙ (ap (λ (l : ℕ). fault_told (if is_directory (inode_value content own) && not (d == other) then Err IsDir else if l == 65535 then Err TooLarge else if has_room content to then Ok slot else Err TooLarge)) (sym (links_of_is own used))
          ∙ (ap (λ (t : Bool). fault_told (if is_directory (inode_value content own) && not (d == other) then Err IsDir else if links_of (inode_value content own) == 65535 then Err TooLarge else if t then Ok slot else Err TooLarge)) (has_room_is content to)
          ∙ tests (is_directory (inode_value content own) && not (d == other)) (links_of (inode_value content own) == 65535) (room (blocks_value content to))))
        where
          tests : (a b : Bool) (o : Option (ℕ × ℕ)) →
              fault_told (if a then Err IsDir else if b then Err TooLarge else if is_some o then Ok slot else Err TooLarge)
              ≡ fault_told (if a then Err IsDir else if b then Err TooLarge else mapped (moved files d found other new_name) (ok_or o TooLarge))
          tests true b o = refl
          tests false true o = refl
          tests false false None = refl
          tests false false (Some at) = refl

      unnamed_told : (to : List ℕ) (slot : Slot) (found : (ℕ × ℕ) × ℕ) → found.1 ≡ slot.inode → (p : (ℕ × Blocks) × (ℕ × Blocks)) → p.1.1 ≡ blocks_value content to →
          fault_told (if_unnamed content fs (d == other) to new_name slot) ≡ fault_told (goes_on p found)
      unnamed_told to slot found number p blocks =
          ap (λ (t : Bool). fault_told (if t then Err Exists else and_then (inode_in content fs slot.inode) (if_linkable content (d == other) to slot))) (look_up_is content to new_name)
          ∙ (there (is_some (look_up new_name (blocks_value content to)))
          ∙ (ap (λ (bs : Blocks). fault_told (if is_some (look_up new_name bs) then Err Exists else and_then (in_use (files slot.inode)) (moved_in files d found other new_name bs))) (sym blocks)
          ∙ ap (λ (n : ℕ). fault_told (if is_some (look_up new_name p.1.1) then Err Exists else and_then (in_use (files n)) (moved_in files d found other new_name p.1.1))) (sym number)))
        where
          inode : (r : Result (List ℕ) FfsFault) → r ≡ inode_in content fs slot.inode → mapped (inode_value content) r ≡ in_use (files slot.inode) →
              fault_told (and_then r (if_linkable content (d == other) to slot)) ≡ fault_told (and_then (in_use (files slot.inode)) (moved_in files d found other new_name (blocks_value content to)))
          inode (Err fault) s h = ap (λ x. fault_told (and_then x (moved_in files d found other new_name (blocks_value content to)))) h
          inode (Ok own) s h = linkable_told slot to own found (used_from content fs slot.inode own s) ∙ ap (λ x. fault_told (and_then x (moved_in files d found other new_name (blocks_value content to)))) h

          there : (t : Bool) →
              fault_told (if t then Err Exists else and_then (inode_in content fs slot.inode) (if_linkable content (d == other) to slot))
              ≡ fault_told (if t then Err Exists else and_then (in_use (files slot.inode)) (moved_in files d found other new_name (blocks_value content to)))
          there true = refl
          there false = inode (inode_in content fs slot.inode) refl (inode_found content fs slot.inode)

      abbrev entry_of_both : List ℕ × List ℕ → Result Slot FfsFault
      entry_of_both p = and_then (ok_or (first_named content p.0 name) NoEntry) (if_unnamed content fs (d == other) p.1 new_name)

      abbrev found_directories : (ℕ × Blocks) × (ℕ × Blocks) → Answer (Unit {0})
      found_directories both = and_then (ok_or (look_up name both.0.1) NoEntry) (goes_on both)

      pub renamed_told : fault_told (rename_in content fs d name other new_name) ≡ fault_told (renamed files d name other new_name)
      unfolding rename_in
      renamed_told = ap fault_told (in_parts (inode_in content fs d)) ∙ go (and_then (inode_in content fs d) (λ from. and_then (inode_in content fs other) (if_both from))) both_found
        where
          tests : (p : List ℕ × List ℕ) (t u : Bool) → (if t then (if u then entry_of_both p else Err BadName) else Err NotDir) ≡ and_then (if t then (if u then Ok p else Err BadName) else Err NotDir) entry_of_both
          tests p true true = refl
          tests p true false = refl
          tests p false u = refl

          in_both : (from : List ℕ) (r : Result (List ℕ) FfsFault) → and_then r (if_movable content fs (d == other) name new_name from) ≡ and_then (and_then r (if_both from)) entry_of_both
          in_both from (Err fault) = refl
          in_both from (Ok to) = tests (from, to) ((inode_mode from == 2) && (inode_mode to == 2)) (is_name name && is_name new_name)

          in_parts : (r : Result (List ℕ) FfsFault) →
              and_then r (λ from. and_then (inode_in content fs other) (λ to. if_movable content fs (d == other) name new_name from to)) ≡ and_then (and_then r (λ from. and_then (inode_in content fs other) (if_both from))) entry_of_both
          in_parts (Err fault) = refl
          in_parts (Ok from) = in_both from (inode_in content fs other)

          go : (r : Result (List ℕ × List ℕ) FfsFault) → mapped both_parts r ≡ both_directories files d name other new_name → fault_told (and_then r entry_of_both) ≡ fault_told (and_then (both_directories files d name other new_name) found_directories)
          go (Err fault) h = ap (λ x. fault_told (and_then x found_directories)) h
          go (Ok p) h =
              named_told content p.0 name (if_unnamed content fs (d == other) p.1 new_name) (goes_on (both_parts p)) (λ slot k. unnamed_told p.1 slot (k.at, slot.inode) refl (both_parts p) refl)
              ∙ ap (λ x. fault_told (and_then x found_directories)) h

      -- what it comes to where they pass
      passes : (names there : Bool) (u : Result InodeValue FfsFault) (found : (ℕ × ℕ) × ℕ) (bs : Blocks) →
          Ok tt ≡ fault_told (if names then (if there then Err Exists else and_then u (moved_in files d found other new_name bs)) else Err BadName) →
          (at : ℕ × ℕ) × (Some at ≡ room bs) × ((if names then (if there then Err Exists else and_then u (moved_in files d found other new_name bs)) else Err BadName) ≡ Ok (moved files d found other new_name at))
      passes false there u found bs e = absurd (cc e)
      passes true true u found bs e = absurd (cc e)
      passes true false (Err fault) found bs e = absurd (cc e)
      passes true false (Ok v) found bs e = tests (is_directory v && not (d == other)) (links_of v == 65535) (room bs) e
        where
          tests : (a b : Bool) (o : Option (ℕ × ℕ)) → Ok tt ≡ fault_told (if a then Err IsDir else if b then Err TooLarge else mapped (moved files d found other new_name) (ok_or o TooLarge)) →
              (at : ℕ × ℕ) × (Some at ≡ o) × ((if a then Err IsDir else if b then Err TooLarge else mapped (moved files d found other new_name) (ok_or o TooLarge)) ≡ Ok (moved files d found other new_name at))
          tests true b o e = absurd (cc e)
          tests false true o e = absurd (cc e)
          tests false false None e = absurd (cc e)
          tests false false (Some at) e = (at, refl, refl)

      pub renamed_ok : (from to : List ℕ) (slot : Slot) → files d ≡ Directory (inode_links from) (blocks_value content from) → files other ≡ Directory (inode_links to) (blocks_value content to) → (k : EntryAt content from name slot) →
          Ok slot ≡ rename_in content fs d name other new_name →
          (at : ℕ × ℕ) × (Some at ≡ room (blocks_value content to)) × (renamed files d name other new_name ≡ Ok (moved files d (k.at, slot.inode) other new_name at))
      renamed_ok from to slot is_from is_to k e =
          let bs = blocks_value content to in
          let found : (ℕ × ℕ) × ℕ = (k.at, slot.inode) in
          let names = is_name name && is_name new_name in
          let same : renamed files d name other new_name ≡ (if names then (if is_some (look_up new_name bs) then Err Exists else and_then (in_use (files slot.inode)) (moved_in files d found other new_name bs)) else Err BadName) =
          ap (λ v. and_then (and_then (in_use v) (λ from. and_then (in_use (files other)) (λ to. and_then (directories from to) if_names))) found_directories) is_from
          ∙ (ap (λ v. and_then (and_then (in_use v) (λ to. and_then (directories (Directory (inode_links from) (blocks_value content from)) to) if_names)) found_directories) is_to
          ∙ first names) in
          let p = passes names (is_some (look_up new_name bs)) (in_use (files slot.inode)) found bs (ap fault_told e ∙ (renamed_told ∙ ap fault_told same)) in
          (p.0, p.1, same ∙ p.2)
        where
          first : (t : Bool) → and_then (if t then Ok (both_parts (from, to)) else Err BadName) found_directories
              ≡ (if t then (if is_some (look_up new_name (blocks_value content to)) then Err Exists else and_then (in_use (files slot.inode)) (moved_in files d (k.at, slot.inode) other new_name (blocks_value content to))) else Err BadName)
          first false = refl
          first true = ap (λ o. and_then (ok_or o NoEntry) (goes_on (both_parts (from, to)))) k.looked
