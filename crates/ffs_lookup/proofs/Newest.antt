-- What is found in the newest bytes, step by step.
use Rattle.std.proofs.Common.{◌≡◌, ℕ, ◌-◌, ◌/◌, ◌%◌, ◌<◌, ◌≤◌, ◌≢◌, ◌⊎◌, inl, inr, Bool, true, false, List, Some, None, refl, sym, ◌∙◌, ap, eq-eqb, Result, Ok, Err, ◌==◌, ◌||◌, nat_lt, if◌then◌else◌}
use Rattle.std.proofs.lemmas.Bool.{eqb-false, le-ltb, lt-ltb, ne_eqb}
use Rattle.std.proofs.lemmas.Option.{same_Some}
use Rattle.store_types.specs.declared.refusal.Refusal.{Refusal}
use Rattle.xn_model.specs.Types.{Types}
use Rattle.xn_model.specs.Lives.{StoreState}
use Rattle.xn_model.specs.Calls.{kind_of, root_of, slot_now}
use Rattle.xn_model.specs.Rules.{IsConsistent}
use Rattle.ffs_model.specs.Cuts.{root, latest}
use Rattle.ffs_model.specs.Names.{IsInodes, IsRoot}
use Rattle.ffs_model.specs.Library.{inode_at, inode_mode, library_layout, pointer_word}
use Rattle.ffs_lookup.specs.declared.fault.FfsFault.{FfsFault}
use Rattle.ffs_lookup.specs.declared.fault.FfsFault.TheVariants.{NoEntry, NotDir, IsDir}
use Rattle.ffs_lookup.specs.Newest.{and_then, root_in, root_of_type, inode_block_in, unless_zero, inode_in, unless_unused, directory_in, if_directory, file_in, if_file}
use Rattle.ffs_lookup.specs.declared.places.Found.{Found}
use Rattle.ffs_lookup.specs.Places.{IsDirectory}
use Rattle.ffs_lookup.proofs.Readable.{readable}

pub not_ok : false ≡ true → ⊥
not_ok e = cc

-- The root block

slot_none : (empty : Bool) (x : ℕ) (r : Result ℕ FfsFault) → None ≡ (if empty then None else Some x) → Err NoEntry ≡ (if empty then Err NoEntry else r)
slot_none true x r e = refl
slot_none false x r e = cc

slot_some : (empty : Bool) (x y : ℕ) (r : Result ℕ FfsFault) → Some y ≡ (if empty then None else Some x) → (empty ≡ false) × (x ≡ y) × ((if empty then Err NoEntry else r) ≡ r)
slot_some true x y r e = cc
slot_some false x y r e = (refl, same_Some x y (sym e), refl)

pub no_root : (state : StoreState) (fs : ℕ) → None ≡ root_of state fs → Err NoEntry ≡ root_in (latest state.lives) fs
unfolding root_in
no_root state fs e = let s = slot_now state fs in slot_none (s.0 == 0) s.0 (if s.1 == 3 then Ok s.0 else Err NoEntry) e

-- The root slot names this block, which is there.
record IsSlot (state : StoreState) (fs r : ℕ) : Type 0 where
  is : (slot_now state fs).0 ≡ r
  there : r ≢ 0
  found : root_in (latest state.lives) fs ≡ (if (slot_now state fs).1 == 3 then Ok r else Err NoEntry)

slot_is : (state : StoreState) (fs r : ℕ) → Some r ≡ root_of state fs → IsSlot state fs r
unfolding root_in
slot_is state fs r e =
    let s = slot_now state fs in
    let x = slot_some (s.0 == 0) s.0 r (if s.1 == 3 then Ok s.0 else Err NoEntry) e in
    record {
      is = x.1;
      there = λ z. eqb-false s.0 0 x.0 (x.1 ∙ z);
      found = x.2 ∙ ap (λ (b : ℕ). if s.1 == 3 then Ok b else Err NoEntry) x.1;
    }

module _ (T : Types) (state : StoreState) (h : IsConsistent T state) (fs : ℕ) (few : fs < 32) (r : ℕ) (e : Some r ≡ root_of state fs) where
  -- whatever its type is, it is known
  pub kind_known : kind_of state fs r ≡ Ok (slot_now state fs).1
  kind_known =
      let x = slot_is state fs r e in
      (readable T state h fs few r (slot_now state fs).1 (root (λ i. (x.is i, (slot_now state fs).1)) x.there)).kind

  pub kind_told : (refusal : Refusal) → Err refusal ≡ kind_of state fs r → ⊥
  kind_told refusal e = let k = kind_known in cc

  pub root_is : (kind : ℕ) → Ok kind ≡ kind_of state fs r → kind ≡ 3 → Ok r ≡ root_in (latest state.lives) fs
  root_is kind k three =
      let same : kind ≡ (slot_now state fs).1 = cc (k ∙ kind_known) in
      sym ((slot_is state fs r e).found ∙ ap (λ (t : Bool). if t then Ok r else Err NoEntry) (eq-eqb (slot_now state fs).1 3 (sym same ∙ three)))

  pub root_is_other : (kind : ℕ) → Ok kind ≡ kind_of state fs r → kind ≢ 3 → Err NoEntry ≡ root_in (latest state.lives) fs
  root_is_other kind k other =
      let same : kind ≡ (slot_now state fs).1 = cc (k ∙ kind_known) in
      sym ((slot_is state fs r e).found ∙ ap (λ (t : Bool). if t then Ok r else Err NoEntry) (ne_eqb (slot_now state fs).1 3 (λ z. other (same ∙ z))))

-- Blocks of inodes

module _ (content : ℕ → List ℕ) (fs index : ℕ) where
  pub no_root_block : (fault : FfsFault) → Err fault ≡ root_in content fs → Err fault ≡ inode_block_in content fs index
  unfolding inode_block_in
  no_root_block fault e = ap (λ (r : Result ℕ FfsFault). and_then r (λ root. unless_zero (pointer_word (content root) index))) e

  pub in_root_block : (r : ℕ) (m : List ℕ) → Ok r ≡ root_in content fs → content r ≡ m → unless_zero (pointer_word m index) ≡ inode_block_in content fs index
  unfolding inode_block_in
  in_root_block r m e is =
      ap (λ (b : List ℕ). unless_zero (pointer_word b index)) (sym is)
      ∙ ap (λ (x : Result ℕ FfsFault). and_then x (λ root. unless_zero (pointer_word (content root) index))) e

pub zero_is : (b : ℕ) → b ≡ 0 → Err NoEntry ≡ unless_zero b
zero_is b e = sym (ap (λ (t : Bool). if t then Err NoEntry else Ok b) (eq-eqb b 0 e))

pub not_zero : (b : ℕ) → b ≢ 0 → Ok b ≡ unless_zero b
not_zero b ne = sym (ap (λ (t : Bool). if t then Err NoEntry else Ok b) (ne_eqb b 0 ne))

-- Inodes

pub bad_number : (n : ℕ) → (n ≡ 0) ⊎ ((n ≢ 0) × (128 < n)) → (n == 0) || nat_lt 128 n ≡ true
bad_number n (inl e) = ap (λ (t : Bool). t || nat_lt 128 n) (eq-eqb n 0 e)
bad_number n (inr h) = ap (λ (t : Bool). t || nat_lt 128 n) (ne_eqb n 0 h.0) ∙ lt-ltb 128 n h.1

pub good_number : (n : ℕ) → n ≢ 0 → n ≤ 128 → (n == 0) || nat_lt 128 n ≡ false
good_number n ne low = ap (λ (t : Bool). t || nat_lt 128 n) (ne_eqb n 0 ne) ∙ le-ltb 128 n low

module _ (content : ℕ → List ℕ) (fs n : ℕ) where
  pub no_number : (n == 0) || nat_lt 128 n ≡ true → Err NoEntry ≡ inode_in content fs n
  unfolding inode_in
  no_number e =
      sym (ap (λ (t : Bool). if t then Err NoEntry else and_then (inode_block_in content fs ((n - 1) / 8)) (λ block. unless_unused (inode_at (content block) ((n - 1) % 8)))) e)

  module _ (right : (n == 0) || nat_lt 128 n ≡ false) where
    numbered : inode_in content fs n ≡ and_then (inode_block_in content fs ((n - 1) / 8)) (λ block. unless_unused (inode_at (content block) ((n - 1) % 8)))
    unfolding inode_in
    numbered = ap (λ (t : Bool). if t then Err NoEntry else and_then (inode_block_in content fs ((n - 1) / 8)) (λ block. unless_unused (inode_at (content block) ((n - 1) % 8)))) right

    pub no_inode_block : (index : ℕ) (fault : FfsFault) → index ≡ (n - 1) / 8 → Err fault ≡ inode_block_in content fs index → Err fault ≡ inode_in content fs n
    no_inode_block index fault i e =
        ap (λ (r : Result ℕ FfsFault). and_then r (λ block. unless_unused (inode_at (content block) ((n - 1) % 8)))) (e ∙ ap (inode_block_in content fs) i) ∙ sym numbered

    pub in_inode_block : (index place block : ℕ) (m : List ℕ) → index ≡ (n - 1) / 8 → place ≡ (n - 1) % 8 → Ok block ≡ inode_block_in content fs index → content block ≡ m → unless_unused (inode_at m place) ≡ inode_in content fs n
    in_inode_block index place block m i p e is =
        ap (λ (b : List ℕ). unless_unused (inode_at b place)) (sym is) ∙ ap (λ x. unless_unused (inode_at (content block) x)) p
        ∙ (ap (λ (r : Result ℕ FfsFault). and_then r (λ c. unless_unused (inode_at (content c) ((n - 1) % 8)))) (e ∙ ap (inode_block_in content fs) i) ∙ sym numbered)

  pub in_directory : (r : Result (List ℕ) FfsFault) → r ≡ inode_in content fs n → and_then r if_directory ≡ directory_in content fs n
  unfolding directory_in
  in_directory r e = ap (λ (x : Result (List ℕ) FfsFault). and_then x if_directory) e

  pub in_file : (r : Result (List ℕ) FfsFault) → r ≡ inode_in content fs n → and_then r if_file ≡ file_in content fs n
  unfolding file_in
  in_file r e = ap (λ (x : Result (List ℕ) FfsFault). and_then x if_file) e

pub unused_is : (inode : List ℕ) → inode_mode inode ≡ 0 → Err NoEntry ≡ unless_unused inode
unused_is inode e = sym (ap (λ (t : Bool). if t then Err NoEntry else Ok inode) (eq-eqb (inode_mode inode) 0 e))

pub used_is : (inode : List ℕ) → inode_mode inode ≢ 0 → Ok inode ≡ unless_unused inode
used_is inode ne = sym (ap (λ (t : Bool). if t then Err NoEntry else Ok inode) (ne_eqb (inode_mode inode) 0 ne))

module _ (inode : List ℕ) where
  pub directory_is : inode_mode inode ≡ 2 → Ok inode ≡ if_directory inode
  directory_is e = sym (ap (λ (t : Bool). if t then Ok inode else Err NotDir) (eq-eqb (inode_mode inode) 2 e))

  pub not_directory : inode_mode inode ≢ 2 → Err NotDir ≡ if_directory inode
  not_directory ne = sym (ap (λ (t : Bool). if t then Ok inode else Err NotDir) (ne_eqb (inode_mode inode) 2 ne))

  pub file_is : inode_mode inode ≢ 2 → Ok inode ≡ if_file inode
  file_is ne = sym (ap (λ (t : Bool). if t then Err IsDir else Ok inode) (ne_eqb (inode_mode inode) 2 ne))

  pub not_file : inode_mode inode ≡ 2 → Err IsDir ≡ if_file inode
  not_file e = sym (ap (λ (t : Bool). if t then Err IsDir else Ok inode) (eq-eqb (inode_mode inode) 2 e))

-- A directory that stands somewhere is found

pub is_numbered : (content : ℕ → List ℕ) (fs n : ℕ) (inode : List ℕ) → Ok inode ≡ directory_in content fs n → (n == 0) || nat_lt 128 n ≡ false
unfolding directory_in inode_in
is_numbered content fs n inode e = go ((n == 0) || nat_lt 128 n) (and_then (inode_block_in content fs ((n - 1) / 8)) (λ block. unless_unused (inode_at (content block) ((n - 1) % 8)))) e
  where
    go : (t : Bool) (rest : Result (List ℕ) FfsFault) → Ok inode ≡ and_then (if t then Err NoEntry else rest) if_directory → t ≡ false
    go true rest e = absurd (cc e)
    go false rest e = refl

pub root_again : (content : ℕ → List ℕ) (fs r : ℕ) → IsRoot content fs r → Ok r ≡ root_in content fs
unfolding root_in
root_again content fs r x = sym (ap root_of_type x.at ∙ ap (λ (t : Bool). if t then Err NoEntry else Ok r) (ne_eqb r 0 x.there))

pointer_from : (m : List ℕ) (j b : ℕ) → library_layout.pointer m j ≡ b → b ≢ 0 → pointer_word m j ≡ b
pointer_from m j b e ne = go (nat_lt j 16) e
  where
    go : (t : Bool) → (if t then pointer_word m j else 0) ≡ b → pointer_word m j ≡ b
    go true e = e
    go false e = absurd (ne (sym e))

pub block_again : (content : ℕ → List ℕ) (fs j b : ℕ) → IsInodes library_layout content fs j b → Ok b ≡ inode_block_in content fs j
block_again content fs j b x =
    not_zero b x.there ∙ (ap unless_zero (sym (pointer_from (content x.root) j b x.points x.there)) ∙ in_root_block content fs j x.root (content x.root) (root_again content fs x.root x.is_root) refl)

pub directory_again : (state : StoreState) (fs n : ℕ) (found : Found) → (n == 0) || nat_lt 128 n ≡ false → IsDirectory state fs n found → Ok found.inode ≡ directory_in (latest state.lives) fs n
directory_again state fs n found right dir =
    let content = latest state.lives in
    let inode : Ok found.inode ≡ inode_in content fs n =
    used_is found.inode dir.is.used ∙ (ap unless_unused dir.is.bytes
    ∙ in_inode_block content fs n right ((n - 1) / 8) found.place found.block (content found.block) refl dir.is.stands.at (block_again content fs ((n - 1) / 8) found.block dir.is.stands.inodes) refl) in
    directory_is found.inode dir.directory ∙ in_directory content fs n (Ok found.inode) inode

-- no inode is a directory and a file
pub not_both : (content : ℕ → List ℕ) (fs n : ℕ) (a b : List ℕ) → Ok a ≡ directory_in content fs n → Ok b ≡ file_in content fs n → ⊥
unfolding directory_in file_in
not_both content fs n a b d f = by (inode_in content fs n) d f
  where
    two : (t : Bool) (i : List ℕ) → Ok a ≡ (if t then Ok i else Err NotDir) → Ok b ≡ (if t then Err IsDir else Ok i) → ⊥
    two true i d f = cc
    two false i d f = cc

    by : (r : Result (List ℕ) FfsFault) → Ok a ≡ and_then r if_directory → Ok b ≡ and_then r if_file → ⊥
    by (Err fault) d f = cc
    by (Ok i) d f = two (inode_mode i == 2) i d f
