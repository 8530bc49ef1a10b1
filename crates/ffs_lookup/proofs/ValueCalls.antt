-- Each call's look-ups are those of its function of the values.
use Rattle.std.proofs.Common.{◌≡◌, ℕ, ◌+◌, ◌-◌, ◌/◌, ◌%◌, ◌<◌, Bool, true, false, List, length, take, drop, get_or, Option, Some, None, refl, sym, ◌∙◌, ap, arith, subst, Result, Ok, Err, ◌==◌, ◌||◌, nat_lt, min, filter_map, is_some, if◌then◌else◌, ok_or}
use Rattle.std.proofs.lemmas.List.{get_or-drop, get_or-take, length-drop, length-take, same_lists}
use Rattle.std.proofs.lemmas.List.FromFn.{get_or-map-range_with_len, length-map-range_with_len}
use Rattle.ffs_model.specs.Library.{inode_at, inode_links, pointer_word}
use Rattle.ffs_format.specs.Entries.{is_name}
use Rattle.ffs_lookup.specs.declared.fault.FfsFault.{FfsFault}
use Rattle.ffs_lookup.specs.declared.fault.FfsFault.TheVariants.{NoEntry, Exists, BadName, TooLarge, NoInode}
use Rattle.ffs_lookup.specs.Newest.{and_then, mapped, byte_of, bytes_from, create_in, directory_in, file_end, file_in, first_named, has_room, if_directory, if_new, if_room, inode_in, inode_block_in, names_in, names_of, number_in, read_count, read_into, root_in, unless_unused, unless_zero, write_in, most_bytes}
use Rattle.ffs_lookup.specs.Files.{Answer, Blocks, File, Files, InodeValue, created, directory_of, entry_at, file_of, free_number, listed, look_up, made_at, made_in, positions, read, read_over, room, fault_told, with_value, written, written_bytes, written_in}
use Rattle.ffs_lookup.specs.FileValues.{blocks_value, bytes_value, files_of}
use Rattle.ffs_lookup.proofs.Values.{directory_found, directory_parts, file_found, file_parts}
use Rattle.ffs_lookup.proofs.ValueNumbers.{has_inode_is, number_is}
use Rattle.ffs_lookup.proofs.ValuePlaces.{has_room_is, listed_is, look_up_is}

-- a file system with a directory has a root block
pub has_root : (content : ℕ → List ℕ) (fs d : ℕ) (inode : List ℕ) → Ok inode ≡ directory_in content fs d → (root : ℕ) × (Ok root ≡ root_in content fs)
unfolding directory_in inode_in inode_block_in
has_root content fs d inode e = go ((d == 0) || nat_lt 128 d) (root_in content fs) refl e
  where
    go : (t : Bool) (r : Result ℕ FfsFault) → r ≡ root_in content fs →
        Ok inode ≡ and_then (if t then Err NoEntry else and_then (and_then r (λ root. unless_zero (pointer_word (content root) ((d - 1) / 8)))) (λ block. unless_unused (inode_at (content block) ((d - 1) % 8)))) if_directory →
        (root : ℕ) × (Ok root ≡ root_in content fs)
    go true r s f = absurd (cc f)
    go false (Err fault) s f = absurd (cc f)
    go false (Ok root) s f = (root, s)

module _ (content : ℕ → List ℕ) (fs : ℕ) where
  abbrev files : Files
  files = files_of content fs

  -- `create` and `mkdir`
  module _ (value : InodeValue) (d : ℕ) (name : List ℕ) where
    abbrev makes : Bool → Bool → Option ℕ → Option (ℕ × ℕ) → Answer ℕ
    makes named there number place =
        if named then (if there then Err Exists else and_then (ok_or number NoInode) (λ n. mapped (made_at value files d name n) (ok_or place TooLarge))) else Err BadName

    same_faults : (inode : List ℕ) (named there : Bool) (number : Option ℕ) (place : Option (ℕ × ℕ)) →
        fault_told (if named then (if there then Err Exists else (if is_some number then (if is_some place then Ok inode else Err TooLarge) else Err NoInode)) else Err BadName) ≡ fault_told (makes named there number place)
    same_faults inode false there number place = refl
    same_faults inode true true number place = refl
    same_faults inode true false None place = refl
    same_faults inode true false (Some n) None = refl
    same_faults inode true false (Some n) (Some at) = refl

    made_told : (inode : List ℕ) → Ok inode ≡ directory_in content fs d → fault_told (if_new content fs name inode) ≡ fault_told (made_in value files d name (directory_parts content inode))
    made_told inode is =
        let r = has_root content fs d inode is in
        ap (λ x. fault_told (if is_name name then (if is_some (first_named content inode name) then Err Exists else and_then x (if_room content inode)) else Err BadName)) (sym r.1)
        ∙ (ap (λ t. fault_told (if is_name name then (if t then Err Exists else if_room content inode r.0) else Err BadName)) (look_up_is content inode name)
        ∙ (ap (λ t. fault_told (if is_name name then (if is_some (look_up name (blocks_value content inode)) then Err Exists else (if t then (if has_room content inode then Ok inode else Err TooLarge) else Err NoInode)) else Err BadName)) (has_inode_is content fs r.0 r.1)
        ∙ (ap (λ t. fault_told (if is_name name then (if is_some (look_up name (blocks_value content inode)) then Err Exists else (if is_some (free_number files) then (if t then Ok inode else Err TooLarge) else Err NoInode)) else Err BadName)) (has_room_is content inode)
        ∙ same_faults inode (is_name name) (is_some (look_up name (blocks_value content inode))) (free_number files) (room (blocks_value content inode)))))

    pub created_told : fault_told (create_in content fs d name) ≡ fault_told (created value files d name)
    unfolding create_in
    created_told = go (directory_in content fs d) refl (directory_found content fs d)
      where
        go : (r : Result (List ℕ) FfsFault) → r ≡ directory_in content fs d → mapped (directory_parts content) r ≡ directory_of (files d) →
            fault_told (and_then r (if_new content fs name)) ≡ fault_told (and_then (directory_of (files d)) (made_in value files d name))
        go (Err fault) s h = ap (λ x. fault_told (and_then x (made_in value files d name))) h
        go (Ok inode) s h = made_told inode s ∙ ap (λ x. fault_told (and_then x (made_in value files d name))) h

    -- what it comes to where they pass
    passes : (named there : Bool) (number : Option ℕ) (place : Option (ℕ × ℕ)) (n : ℕ) → number ≡ Some n → Ok tt ≡ fault_told (makes named there number place) →
        (at : ℕ × ℕ) × (Some at ≡ place) × (makes named there number place ≡ Ok (made_at value files d name n at))
    passes false there number place n s e = absurd (cc e)
    passes true true number place n s e = absurd (cc e)
    passes true false None place n s e = absurd (cc s)
    passes true false (Some m) None n s e = absurd (cc e)
    passes true false (Some m) (Some at) n s e = let same : m ≡ n = cc s in (at, refl, ap (λ k. Ok (made_at value files d name k at)) same)

    pub created_ok : (inode : List ℕ) (root n : ℕ) → Ok inode ≡ directory_in content fs d → Ok tt ≡ fault_told (create_in content fs d name) → Ok root ≡ root_in content fs → Some n ≡ number_in content root →
        (at : ℕ × ℕ) × (Some at ≡ room (blocks_value content inode)) × (created value files d name ≡ Ok (made_at value files d name n at))
    created_ok inode root n is ok r low =
        let parts = directory_parts content inode in
        let found : Ok parts ≡ directory_of (files d) = ap (mapped (directory_parts content)) is ∙ directory_found content fs d in
        let same : created value files d name ≡ made_in value files d name parts = ap (λ x. and_then x (made_in value files d name)) (sym found) in
        let number : free_number files ≡ Some n = sym (number_is content fs root r) ∙ sym low in
        let p = passes (is_name name) (is_some (look_up name (blocks_value content inode))) (free_number files) (room (blocks_value content inode)) n number (ok ∙ (created_told ∙ ap fault_told same)) in
        (p.0, p.1, same ∙ p.2)

-- `read` and `list`

module _ (content : ℕ → List ℕ) (fs : ℕ) where
  pub listed_told : (d : ℕ) → names_in content fs d ≡ listed (files_of content fs) d
  unfolding names_in
  listed_told d = go (directory_in content fs d) (directory_found content fs d)
    where
      go : (r : Result (List ℕ) FfsFault) → mapped (directory_parts content) r ≡ directory_of (files_of content fs d) → mapped (names_of content) r ≡ listed (files_of content fs) d
      go (Err fault) h = ap (mapped (λ (directory : ℕ × Blocks). filter_map (entry_at directory.1) (positions directory.1))) h
      go (Ok inode) h = ap (λ (ns : List (List ℕ × ℕ)). Ok ns) (listed_is content inode) ∙ ap (mapped (λ (directory : ℕ × Blocks). filter_map (entry_at directory.1) (positions directory.1))) h

  -- the bytes from an offset on
  part_is : (inode : List ℕ) (offset count : ℕ) → bytes_from content inode offset count ≡ take count (drop offset (bytes_value content inode))
  part_is inode offset count = same_lists (bytes_from content inode offset count) (take count (drop offset (bytes_value content inode))) long each
    where
      long : length (bytes_from content inode offset count) ≡ length (take count (drop offset (bytes_value content inode)))
      long =
          length-map-range_with_len (byte_of content inode) offset (min count (file_end inode - offset))
          ∙ sym (length-take count (drop offset (bytes_value content inode)) ∙ ap (min count) (length-drop offset (bytes_value content inode) ∙ ap (λ n. n - offset) (length-map-range_with_len (byte_of content inode) 0 (file_end inode))))

      each : (k d : ℕ) → k < length (bytes_from content inode offset count) → get_or (bytes_from content inode offset count) k d ≡ get_or (take count (drop offset (bytes_value content inode))) k d
      each k d low =
          let small : k < min count (file_end inode - offset) = subst (λ (n : ℕ). k < n) (length-map-range_with_len (byte_of content inode) offset (min count (file_end inode - offset))) low in
          get_or-map-range_with_len (byte_of content inode) offset (min count (file_end inode - offset)) k (offset + k) d small refl
          ∙ sym (get_or-take count (drop offset (bytes_value content inode)) k d (omega (arith, small))
          ∙ (get_or-drop offset (bytes_value content inode) k d ∙ get_or-map-range_with_len (byte_of content inode) 0 (file_end inode) (offset + k) (offset + k) d (omega (arith, small)) (omega arith)))

  pub read_told : (n offset count : ℕ) → mapped (λ inode. bytes_from content inode offset count) (file_in content fs n) ≡ read (files_of content fs) n offset count
  read_told n offset count = go (file_in content fs n) (file_found content fs n)
    where
      go : (r : Result (List ℕ) FfsFault) → mapped (file_parts content) r ≡ file_of (files_of content fs n) → mapped (λ inode. bytes_from content inode offset count) r ≡ read (files_of content fs) n offset count
      go (Err fault) h = ap (mapped (λ (file : ℕ × List ℕ). take count (drop offset file.1))) h
      go (Ok inode) h = ap (λ (m : List ℕ). Ok m) (part_is inode offset count) ∙ ap (mapped (λ (file : ℕ × List ℕ). take count (drop offset file.1))) h

  -- how many bytes are read, and what is left of those that were given
  pub count_told : (n offset count : ℕ) → read_count count offset (file_in content fs n) ≡ mapped length (read (files_of content fs) n offset count)
  count_told n offset count = go (file_in content fs n) ∙ ap (mapped length) (read_told n offset count)
    where
      go : (r : Result (List ℕ) FfsFault) → read_count count offset r ≡ mapped length (mapped (λ inode. bytes_from content inode offset count) r)
      go (Err fault) = refl
      go (Ok inode) = ap (λ (m : ℕ). Ok m) (sym (length-map-range_with_len (byte_of content inode) offset (min count (file_end inode - offset))))

  pub into_told : (n offset : ℕ) (old : List ℕ) → read_into content old offset (file_in content fs n) ≡ read_over old (read (files_of content fs) n offset (length old))
  into_told n offset old = go (file_in content fs n) ∙ ap (read_over old) (read_told n offset (length old))
    where
      go : (r : Result (List ℕ) FfsFault) → read_into content old offset r ≡ read_over old (mapped (λ inode. bytes_from content inode offset (length old)) r)
      go (Err fault) = refl
      go (Ok inode) = refl

-- `write`

module _ (content : ℕ → List ℕ) (fs n offset : ℕ) (bytes : List ℕ) where
  abbrev outcome : List ℕ → Bool → Bool → Answer (Unit {0})
  outcome inode t u =
      if t then Err TooLarge else if u then Ok (tt, files_of content fs) else Ok (tt, with_value (files_of content fs) n (File (inode_links inode) (written_bytes (bytes_value content inode) offset bytes)))

  pub written_told : fault_told (write_in content fs n (offset + length bytes)) ≡ fault_told (written (files_of content fs) n offset bytes)
  unfolding write_in
  written_told = go (file_in content fs n) (file_found content fs n)
    where
      tests : (inode : List ℕ) (t u : Bool) → fault_told (if t then Err TooLarge else Ok inode)
          ≡ fault_told (outcome inode t u)
      tests inode true u = refl
      tests inode false true = refl
      tests inode false false = refl

      go : (r : Result (List ℕ) FfsFault) → mapped (file_parts content) r ≡ file_of (files_of content fs n) →
          fault_told (and_then r (λ inode. if nat_lt most_bytes (offset + length bytes) then Err TooLarge else Ok inode)) ≡ fault_told (written (files_of content fs) n offset bytes)
      go (Err fault) h = ap (λ x. fault_told (and_then x (written_in (files_of content fs) n offset bytes))) h
      go (Ok inode) h = tests inode (nat_lt most_bytes (offset + length bytes)) (length bytes == 0) ∙ ap (λ x. fault_told (and_then x (written_in (files_of content fs) n offset bytes))) h
