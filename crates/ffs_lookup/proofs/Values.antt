-- What the values of inodes say of look-ups in the bytes.
use Rattle.std.proofs.Common.{◌≡◌, ℕ, ◌-◌, ◌/◌, ◌%◌, Bool, true, false, List, replicate, refl, ◌∙◌, ap, Result, Ok, Err, ◌==◌, ◌||◌, nat_lt, if◌then◌else◌}
use Rattle.std.proofs.lemmas.Slice.Eq.{bytes_eq-Decides}
use Rattle.ffs_model.specs.Library.{half_at, inode_at, inode_links, inode_mode, pointer_word}
use Rattle.ffs_lookup.specs.declared.fault.FfsFault.{FfsFault}
use Rattle.ffs_lookup.specs.declared.fault.FfsFault.TheVariants.{NoEntry, NotDir, IsDir}
use Rattle.ffs_lookup.specs.Newest.{and_then, mapped, root_in, root_of_type, inode_block_in, unless_zero, inode_in, unless_unused, directory_in, if_directory, file_in, if_file, is_free_inode}
use Rattle.xn_model.specs.Root.{slot}
use Rattle.ffs_lookup.specs.Files.{InodeValue, Absent, Free, Unusable, File, Directory, Blocks, in_use, directory_of, file_of, is_absent}
use Rattle.ffs_lookup.specs.FileValues.{blocks_value, bytes_value, files_of, inode_value, place_in, value_in}

-- A free inode is not in use

zeros_mode : inode_mode (replicate 64 0) ≡ 0
unfolding half_at
zeros_mode = refl

pub free_is_unused : (inode : List ℕ) → is_free_inode inode ≡ true → inode_mode inode == 0 ≡ true
free_is_unused inode e = ap (λ m. inode_mode m == 0) ((bytes_eq-Decides inode (replicate 64 0)).0 e) ∙ ap (λ n. n == 0) zeros_mode

-- Where no inode is found the fault is that there is none

abbrev OnlyNoEntry : {A : Type 0} → Result A FfsFault → Type 0
OnlyNoEntry (Ok x) = Unit {0}
OnlyNoEntry (Err fault) = fault ≡ NoEntry

root_fault : (s : ℕ × ℕ) → OnlyNoEntry (root_of_type s)
root_fault s = go (s.0 == 0) (s.1 == 3)
  where
    go : (e t : Bool) → OnlyNoEntry (if e then Err NoEntry else if t then Ok s.0 else Err NoEntry)
    go true t = refl
    go false true = tt
    go false false = refl

block_fault : (content : ℕ → List ℕ) (fs j : ℕ) → OnlyNoEntry (inode_block_in content fs j)
unfolding inode_block_in root_in
block_fault content fs j = go (root_of_type (slot (content 0) fs)) (root_fault (slot (content 0) fs))
  where
    zero_fault : (b : ℕ) (t : Bool) → OnlyNoEntry (if t then Err NoEntry else Ok b)
    zero_fault b true = refl
    zero_fault b false = tt

    go : (r : Result ℕ FfsFault) → OnlyNoEntry r → OnlyNoEntry (and_then r (λ root. unless_zero (pointer_word (content root) j)))
    go (Ok root) h = zero_fault (pointer_word (content root) j) (pointer_word (content root) j == 0)
    go (Err fault) h = h

-- What is found of one inode

module _ (content : ℕ → List ℕ) where
  abbrev pub directory_parts : List ℕ → ℕ × Blocks
  directory_parts inode = (inode_links inode, blocks_value content inode)

  abbrev pub file_parts : List ℕ → ℕ × List ℕ
  file_parts inode = (inode_links inode, bytes_value content inode)

  module _ (m : List ℕ) where
    abbrev kind : Bool → Bool → Bool → InodeValue
    kind a b c = if a then Free else if b then Unusable else if c then Directory (inode_links m) (blocks_value content m) else File (inode_links m) (bytes_value content m)

    used_directory : (a b : Bool) → (a ≡ true → b ≡ true) →
        mapped directory_parts (and_then (if b then Err NoEntry else Ok m) if_directory)
        ≡ directory_of (if a then Free else if b then Unusable else if inode_mode m == 2 then Directory (inode_links m) (blocks_value content m) else File (inode_links m) (bytes_value content m))
    used_directory true true h = refl
    used_directory true false h = let z = h refl in absurd (cc z)
    used_directory false true h = refl
    used_directory false false h = go (inode_mode m == 2)
      where
        go : (c : Bool) → mapped directory_parts (if c then Ok m else Err NotDir) ≡ directory_of (if c then Directory (inode_links m) (blocks_value content m) else File (inode_links m) (bytes_value content m))
        go true = refl
        go false = refl

    used_file : (a b : Bool) → (a ≡ true → b ≡ true) →
        mapped file_parts (and_then (if b then Err NoEntry else Ok m) if_file)
        ≡ file_of (if a then Free else if b then Unusable else if inode_mode m == 2 then Directory (inode_links m) (blocks_value content m) else File (inode_links m) (bytes_value content m))
    used_file true true h = refl
    used_file true false h = let z = h refl in absurd (cc z)
    used_file false true h = refl
    used_file false false h = go (inode_mode m == 2)
      where
        go : (c : Bool) → mapped file_parts (if c then Err IsDir else Ok m) ≡ file_of (if c then Directory (inode_links m) (blocks_value content m) else File (inode_links m) (bytes_value content m))
        go true = refl
        go false = refl

    -- of one in use
    pub value_used : inode_mode m == 0 ≡ false → inode_value content m ≡ (if inode_mode m == 2 then Directory (inode_links m) (blocks_value content m) else File (inode_links m) (bytes_value content m))
    value_used e = go (is_free_inode m) (inode_mode m == 0) (free_is_unused m) e
      where
        go : (a b : Bool) → (a ≡ true → b ≡ true) → b ≡ false →
            (if a then Free else if b then Unusable else if inode_mode m == 2 then Directory (inode_links m) (blocks_value content m) else File (inode_links m) (bytes_value content m))
            ≡ (if inode_mode m == 2 then Directory (inode_links m) (blocks_value content m) else File (inode_links m) (bytes_value content m))
        go true true h f = absurd (cc f)
        go true false h f = let z = h refl in absurd (cc z)
        go false true h f = absurd (cc f)
        go false false h f = refl

    -- of one that has a block
    pub value_there : is_absent (inode_value content m) ≡ false
    value_there = go (is_free_inode m) (inode_mode m == 0) (inode_mode m == 2)
      where
        go : (a b c : Bool) → is_absent (kind a b c) ≡ false
        go true b c = refl
        go false true c = refl
        go false false true = refl
        go false false false = refl

    used_inode : mapped (inode_value content) (if inode_mode m == 0 then Err NoEntry else Ok m) ≡ in_use (inode_value content m)
    used_inode = go (is_free_inode m) (inode_mode m == 0) (inode_mode m == 2) refl refl refl (free_is_unused m)
      where
        go : (a b c : Bool) → is_free_inode m ≡ a → (inode_mode m == 0) ≡ b → (inode_mode m == 2) ≡ c → (a ≡ true → b ≡ true) →
            mapped (inode_value content) (if b then Err NoEntry else Ok m) ≡ in_use (kind a b c)
        go true true c p q r h = refl
        go true false c p q r h = let z = h refl in absurd (cc z)
        go false true c p q r h = refl
        go false false true p q r h = ap Ok (value_used q ∙ ap (kind false false) r)
        go false false false p q r h = ap Ok (value_used q ∙ ap (kind false false) r)

  module _ (fs n : ℕ) where
    abbrev out : Bool
    out = (n == 0) || nat_lt 128 n

    abbrev here : ℕ → List ℕ
    here block = inode_at (content block) ((n - 1) % 8)

    abbrev blocks : Result ℕ FfsFault
    blocks = inode_block_in content fs ((n - 1) / 8)

    -- a directory is found where the value is one
    pub directory_found : mapped directory_parts (directory_in content fs n) ≡ directory_of (files_of content fs n)
    unfolding directory_in inode_in files_of
    directory_found = go out blocks (block_fault content fs ((n - 1) / 8))
      where
        go : (t : Bool) (r : Result ℕ FfsFault) → OnlyNoEntry r →
            mapped directory_parts (and_then (if t then Err NoEntry else and_then r (λ block. unless_unused (here block))) if_directory)
            ≡ directory_of (if t then Absent else value_in content (and_then r (λ block. Ok (here block))))
        go true r h = refl
        go false (Err fault) h = ap Err h
        go false (Ok block) h = used_directory (here block) (is_free_inode (here block)) (inode_mode (here block) == 0) (free_is_unused (here block))

    pub file_found : mapped file_parts (file_in content fs n) ≡ file_of (files_of content fs n)
    unfolding file_in inode_in files_of
    file_found = go out blocks (block_fault content fs ((n - 1) / 8))
      where
        go : (t : Bool) (r : Result ℕ FfsFault) → OnlyNoEntry r →
            mapped file_parts (and_then (if t then Err NoEntry else and_then r (λ block. unless_unused (here block))) if_file)
            ≡ file_of (if t then Absent else value_in content (and_then r (λ block. Ok (here block))))
        go true r h = refl
        go false (Err fault) h = ap Err h
        go false (Ok block) h = used_file (here block) (is_free_inode (here block)) (inode_mode (here block) == 0) (free_is_unused (here block))

    pub inode_found : mapped (inode_value content) (inode_in content fs n) ≡ in_use (files_of content fs n)
    unfolding inode_in files_of
    inode_found = go out blocks (block_fault content fs ((n - 1) / 8))
      where
        go : (t : Bool) (r : Result ℕ FfsFault) → OnlyNoEntry r →
            mapped (inode_value content) (if t then Err NoEntry else and_then r (λ block. unless_unused (here block)))
            ≡ in_use (if t then Absent else value_in content (and_then r (λ block. Ok (here block))))
        go true r h = refl
        go false (Err fault) h = ap Err h
        go false (Ok block) h = used_inode (here block)

    -- by its place
    pub value_by_place : out ≡ false → files_of content fs n ≡ value_in content (place_in content fs n)
    unfolding files_of
    value_by_place e = ap (λ (t : Bool). if t then Absent else value_in content (place_in content fs n)) e

    pub value_outside : out ≡ true → files_of content fs n ≡ Absent
    unfolding files_of
    value_outside e = ap (λ (t : Bool). if t then Absent else value_in content (place_in content fs n)) e

  -- the value of an inode in use
  pub value_found : (fs n : ℕ) (inode : List ℕ) → Ok inode ≡ inode_in content fs n → files_of content fs n ≡ inode_value content inode
  value_found fs n inode e = from (files_of content fs n) (inode_value content inode) (ap (mapped (inode_value content)) e ∙ inode_found fs n)
    where
      from : (v w : InodeValue) → Ok w ≡ in_use v → v ≡ w
      from Absent w e = absurd (cc e)
      from Free w e = absurd (cc e)
      from Unusable w e = absurd (cc e)
      from (File links bytes) w e = cc
      from (Directory links bs) w e = cc
