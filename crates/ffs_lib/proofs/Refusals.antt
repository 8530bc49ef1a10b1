-- Where the look-ups of a call fail, and where they pass.
use Rattle.std.proofs.Common.{◌≡◌, ℕ, ◌<◌, ◌≤◌, Bool, true, false, List, [], ◌∷◌, length, sym, ◌∙◌, ap, arith, Result, Ok, Err, ◌==◌, find, nat_lt, if◌then◌else◌, le-ltb, lt-ltb, ne_eqb, ok_or}
use Rattle.ffs_lib.proofs.Common.{BadName, DirNotEmpty, FfsFault, NoEntry, Slot, TooLarge, is_name}
use Rattle.ffs_lookup.specs.Newest.{and_then, directory_in, slots_of, entry_named, file_in, has_name, if_empty, mapped, named_in, rmdir_in, unlink_in, write_in, most_bytes}
use Rattle.ffs_lib.specs.Unnaming.{if_again, unname_in}

module _ (content : ℕ → List ℕ) (fs d : ℕ) (name : List ℕ) where
  pub unlink_nothing : (fault : FfsFault) → Err fault ≡ named_in content fs d name → Err fault ≡ unlink_in content fs d name
  unfolding unlink_in
  unlink_nothing fault e = ap (λ (r : Result Slot FfsFault). and_then r (λ entry. mapped (λ inode. entry) (file_in content fs entry.inode))) e

  pub unlink_is : (entry : Slot) (r : Result (List ℕ) FfsFault) → Ok entry ≡ named_in content fs d name → r ≡ file_in content fs entry.inode → mapped (λ inode. entry) r ≡ unlink_in content fs d name
  unfolding unlink_in
  unlink_is entry r e f = ap (mapped (λ inode. entry)) f ∙ ap (λ (x : Result Slot FfsFault). and_then x (λ entry. mapped (λ inode. entry) (file_in content fs entry.inode))) e

  pub rmdir_nothing : (fault : FfsFault) → Err fault ≡ named_in content fs d name → Err fault ≡ rmdir_in content fs d name
  unfolding rmdir_in
  rmdir_nothing fault e = ap (λ (r : Result Slot FfsFault). and_then r (λ entry. and_then (directory_in content fs entry.inode) (if_empty content entry))) e

  pub rmdir_is : (entry : Slot) (r : Result (List ℕ) FfsFault) → Ok entry ≡ named_in content fs d name → r ≡ directory_in content fs entry.inode → and_then r (if_empty content entry) ≡ rmdir_in content fs d name
  unfolding rmdir_in
  rmdir_is entry r e f =
      ap (λ (x : Result (List ℕ) FfsFault). and_then x (if_empty content entry)) f
      ∙ ap (λ (x : Result Slot FfsFault). and_then x (λ entry. and_then (directory_in content fs entry.inode) (if_empty content entry))) e

module _ (content : ℕ → List ℕ) (entry : Slot) (inode : List ℕ) (empty : Bool) (is : ◌≡◌ {A = Result Bool FfsFault} (Ok empty) (Ok (length (slots_of content inode) == 0))) where
  pub entries_left : empty ≡ false → Err DirNotEmpty ≡ if_empty content entry inode
  entries_left e = let t : (length (slots_of content inode) == 0) ≡ false = cc in sym (ap (λ (x : Bool). if x then Ok entry else Err DirNotEmpty) t)

  pub none_left : empty ≡ true → Ok entry ≡ if_empty content entry inode
  none_left e = let t : (length (slots_of content inode) == 0) ≡ true = cc in sym (ap (λ (x : Bool). if x then Ok entry else Err DirNotEmpty) t)

module _ (content : ℕ → List ℕ) (fs n size : ℕ) where
  pub write_nothing : (fault : FfsFault) → Err fault ≡ file_in content fs n → Err fault ≡ write_in content fs n size
  unfolding write_in
  write_nothing fault e = ap (λ (r : Result (List ℕ) FfsFault). and_then r (λ inode. if nat_lt most_bytes size then Err TooLarge else Ok inode)) e

  pub too_large : (inode : List ℕ) → Ok inode ≡ file_in content fs n → most_bytes < size → Err TooLarge ≡ write_in content fs n size
  unfolding write_in
  too_large inode e large =
      sym (ap (λ (x : Bool). if x then Err TooLarge else Ok inode) (lt-ltb most_bytes size large)) ∙ ap (λ (r : Result (List ℕ) FfsFault). and_then r (λ inode. if nat_lt most_bytes size then Err TooLarge else Ok inode)) e

  pub fits_file : (inode : List ℕ) → Ok inode ≡ file_in content fs n → size ≤ most_bytes → Ok inode ≡ write_in content fs n size
  unfolding write_in
  fits_file inode e small =
      sym (ap (λ (x : Bool). if x then Err TooLarge else Ok inode) (le-ltb most_bytes size small)) ∙ ap (λ (r : Result (List ℕ) FfsFault). and_then r (λ inode. if nat_lt most_bytes size then Err TooLarge else Ok inode)) e

-- a directory that has a name is not empty
nothing_listed : (p : Slot → Bool) (entry : Slot) (t : Bool) → Ok entry ≡ (if t then ok_or (find p []) NoEntry else Err BadName) → ⊥
nothing_listed p entry true e = cc
nothing_listed p entry false e = cc

bare_named : (p : Slot → Bool) (entry : Slot) (t : Bool) (es : List Slot) → (length es == 0) ≡ true → Ok entry ≡ (if t then ok_or (find p es) NoEntry else Err BadName) → ⊥
bare_named p entry t [] b e = nothing_listed p entry t e
bare_named p entry t (x ∷ xs) b e = not_true (sym (ne_eqb (length (x ∷ xs)) 0 (λ z. absurd (omega (arith, z)))) ∙ b)
  where
    not_true : false ≡ true → ⊥
    not_true f = cc

pub not_bare : (content : ℕ → List ℕ) (fs n : ℕ) (name inode : List ℕ) (entry : Slot) → Ok inode ≡ directory_in content fs n → Ok entry ≡ named_in content fs n name → (length (slots_of content inode) == 0) ≡ true → ⊥
unfolding named_in
not_bare content fs n name inode entry is named bare =
    bare_named (has_name content name) entry (is_name name) (slots_of content inode) bare (named ∙ sym (ap (λ (r : Result (List ℕ) FfsFault). and_then r (entry_named content name)) is))

module _ (content : ℕ → List ℕ) (fs d : ℕ) (name other : List ℕ) where
  pub unname_nothing : (fault : FfsFault) → Err fault ≡ named_in content fs d name → Err fault ≡ unname_in content fs d name other
  unfolding unname_in
  unname_nothing fault e =
      ap (λ (r : Result Slot FfsFault). and_then r (λ entry. and_then (named_in content fs d other) (λ kept. and_then (directory_in content fs entry.inode) (if_again d entry kept)))) e

  pub unname_one : (entry : Slot) (r : Result Slot FfsFault) → Ok entry ≡ named_in content fs d name → r ≡ named_in content fs d other →
      and_then r (λ kept. and_then (directory_in content fs entry.inode) (if_again d entry kept)) ≡ unname_in content fs d name other
  unfolding unname_in
  unname_one entry r e f =
      ap (λ (x : Result Slot FfsFault). and_then x (λ kept. and_then (directory_in content fs entry.inode) (if_again d entry kept))) f
      ∙ ap (λ (x : Result Slot FfsFault). and_then x (λ entry. and_then (named_in content fs d other) (λ kept. and_then (directory_in content fs entry.inode) (if_again d entry kept)))) e

  pub unname_is : (entry kept : Slot) (r : Result (List ℕ) FfsFault) → Ok entry ≡ named_in content fs d name → Ok kept ≡ named_in content fs d other →
      r ≡ directory_in content fs entry.inode → and_then r (if_again d entry kept) ≡ unname_in content fs d name other
  unname_is entry kept r e f h = ap (λ (x : Result (List ℕ) FfsFault). and_then x (if_again d entry kept)) h ∙ unname_one entry (Ok kept) e f
