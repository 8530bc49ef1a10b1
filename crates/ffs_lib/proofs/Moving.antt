-- What is left of names and files where a name is moved.
use Rattle.std.proofs.Common.{◌≡◌, ◌≢◌, ℕ, ◌*◌, ◌/◌, ◌%◌, ◌<◌, Bool, true, false, cond, List, [], ◌∷◌, length, map, get_or, replicate, Option, Some, None, Ok, refl, sym, ◌∙◌, ap, inl, inr, arith, subst, Contains, ◌==◌, filter_map, find, flat_map, if◌then◌else◌, ok_or}
use Rattle.ffs_lib.proofs.Common.{BadName, Found, IsConsistent, IsFound, IsLibrary, IsSlot, NoEntry, Slot, StoreState, Types, Under, cases_eq, cons_option}
use Rattle.ffs_lib.proofs.Common.{fields_of, find-append, half_at, inode_blocks, inode_mode, is_name, latest, library_layout, none-some, option_or, propose_of}
use Rattle.ffs_lib.proofs.Common.{range_with_len, same_Some, word_at}
use Rattle.xn_model.proofs.ForCallers.{Contains-head, Contains-tail}
use Rattle.ffs_model.proofs.ForCallers.{direct_where, library_reads, proposed_here, proposed_others, under_direct, under_inodes}
use Rattle.ffs_lib.specs.Edits.{edit_at}
use Rattle.ffs_lookup.specs.Newest.{byte_in, byte_of, directory_in, file_block, slots_in_block, entry_at, entry_named, named_in, used_entry, first_named, has_name, inode_in, listing, name_at, without_entry, most_bytes}
use Rattle.ffs_lib.specs.Results.{AsBefore, IsAs, SameInode}
use Rattle.ffs_lib.proofs.Entering.{directory_from, inode_put}
use Rattle.ffs_lib.proofs.Fields.{direct_get, same_blocks}
use Rattle.ffs_lib.proofs.Frames.{listing_same, listing_without}
use Rattle.ffs_lookup.proofs.ForCallers.{directory_is, in_directory, same_ok}
use Rattle.ffs_lib.proofs.Owners.{Stands, block_at, direct_block, passed, pointers_at, stands_from, then_first}
use Rattle.ffs_lib.proofs.Renaming.{is_some_ok}
use Rattle.ffs_lib.proofs.Rooms.{room_by}
use Rattle.ffs_lib.proofs.Same.{data_touched, edited, file_block_by, inodes_same}
use Rattle.ffs_lib.proofs.Writing.{blocks_agree, byte_same}

-- As before, in every way

pub same_as : (v w : ℕ → List ℕ) (fs d : ℕ) → SameInode v w fs d → AsBefore v w fs d
same_as v w fs d s inode e = let x = s.1 inode e in record { after = inode; found = e ∙ sym s.0; mode = refl; size = refl; entries = x.0; each = x.1; direct = refl; room = room_by v w inode inode refl x.1 }

pub as_on : (u v w : ℕ → List ℕ) (fs d : ℕ) → AsBefore u v fs d → AsBefore v w fs d → AsBefore u w fs d
as_on u v w fs d a b inode e =
    let x = a inode e in
    let y = b x.after x.found in
    record { after = y.after; found = y.found; mode = y.mode ∙ x.mode; size = y.size ∙ x.size; entries = y.entries ∙ x.entries; each = λ at low. y.each at low ∙ x.each at low; direct = y.direct ∙ x.direct; room = y.room ∙ x.room }

-- An inode's links are written
pub relinked : (T : Types) (lib : IsLibrary T) (state new : StoreState) (h : IsConsistent T state) (fs : ℕ) (few : fs < 32) (n : ℕ) (found : Found) → IsFound state fs n found → Ok found.inode ≡ inode_in (latest state.lives) fs n →
    (bytes : List ℕ) → length bytes ≡ 64 → inode_mode bytes ≡ inode_mode found.inode → (fields_of bytes).direct ≡ (fields_of found.inode).direct → word_at bytes 56 ≡ word_at found.inode 56 → word_at bytes 4 ≡ word_at found.inode 4 →
    (after : Option ℕ) (entry : ℕ) → propose_of T state fs found.block (edit_at (64 * found.place) bytes [] [] after) ≡ Ok (entry, new) → (d : ℕ) → AsBefore (latest state.lives) (latest new.lives) fs d
relinked T lib state new h fs few n found is exact bytes whole mode direct last size after entry done d = elim (cases_eq d n) [
  | inr ne ↦ same_as v w fs d (p.1 d ne)
  | inl e ↦ (λ inode i.
      let one : found.inode ≡ inode = same_ok found.inode inode (exact ∙ (ap (inode_in v fs) (sym e) ∙ sym i)) in
      subst (λ x. IsAs v w fs d x) one (subst (λ x. IsAs v w fs x found.inode) (sym e) own))
]
  where
    v : ℕ → List ℕ
    v = latest state.lives

    w : ℕ → List ℕ
    w = latest new.lives

    stands : Stands v fs n found.inode
    stands = stands_from v fs n found.inode exact

    home : Under T v fs found.block 4
    home = under_inodes T library_layout (library_reads T lib) v fs (library_layout.home n).0 found.block is.stands.inodes

    p : (inode_in w fs n ≡ Ok bytes) × ((x : ℕ) → x ≢ n → SameInode v w fs x)
    p = inode_put T lib state new h fs few n found.block found.place is.stands stands.low bytes whole (λ z. is.used (sym mode ∙ z)) [] [] after entry done

    away : (c u : ℕ) → Under T v fs c u → u ≢ 4 → w c ≡ v c
    away c u r ne =
        let t = edited T state new h fs few found.block 4 (edit_at (64 * found.place) bytes [] [] after) entry done home in
        t.others c u r (t.apart c u r ne)

    pointers : word_at found.inode 56 ≢ 0 → w (word_at found.inode 56) ≡ v (word_at found.inode 56)
    pointers ne = away (word_at found.inode 56) 5 (pointers_at T lib state h fs few n found.inode stands (word_at found.inode 56) refl ne) (λ z. omega (arith, z))

    each : (at : ℕ) → at < most_bytes → byte_of w bytes at ≡ byte_of v found.inode at
    each at low =
        let i : ℕ = at / 512 in
        let same = blocks_agree w bytes found.inode i (λ lt. direct_get bytes i lt ∙ (ap (λ ws. get_or ws i 0) direct ∙ sym (direct_get found.inode i lt))) last ∙ file_block_by v w found.inode pointers i in
        ap (λ b. byte_in w b (at % 512)) same
        ∙ byte_same v w (file_block v found.inode i) (at % 512) (λ some. away (file_block v found.inode i) 2 (block_at T lib state h fs few n found.inode stands i (file_block v found.inode i) (omega (arith, low)) refl some) (λ z. omega (arith, z)))

    own : IsAs v w fs n found.inode
    own = record {
      after = bytes;
      found = sym p.0;
      mode = mode;
      size = size;
      entries = ap (λ bs. listing_of w bs) (same_blocks found.inode bytes direct) ∙ listing_same w v found.inode (λ b i.
          let x = direct_where found.inode b i in
          away b 2 (block_at T lib state h fs few n found.inode stands x.0 b (omega (arith, x.1)) (direct_block v found.inode x.0 x.1 ∙ x.2) x.3) (λ z. omega (arith, z)));
      each = each;
      direct = direct;
      room = room_by v w found.inode bytes direct each;
    }
      where
        listing_of : (ℕ → List ℕ) → List ℕ → List (Slot × List ℕ)
        listing_of content bs = map {B = Slot × List ℕ} (λ (e : Slot). (e, name_at content e)) (flat_map (slots_in_block content) bs)

-- what an inode was before and is now
pub was_and_is : (v w : ℕ → List ℕ) (fs n : ℕ) (old new inode after : List ℕ) → Ok old ≡ inode_in v fs n → inode_in w fs n ≡ Ok new → Ok inode ≡ inode_in v fs n → Ok after ≡ inode_in w fs n → (inode ≡ old) × (after ≡ new)
was_and_is v w fs n old new inode after was is i a = (same_ok inode old (i ∙ sym was), same_ok after new (a ∙ is))

-- An entry is cleared
pub name_lost : (T : Types) (lib : IsLibrary T) (state new : StoreState) (h : IsConsistent T state) (fs : ℕ) (few : fs < 32) (slot : Slot) → IsSlot state fs slot → (after : Option ℕ) (entry : ℕ) →
    propose_of T state fs slot.block (edit_at (32 * slot.place) (replicate 32 0) [] [] after) ≡ Ok (entry, new) →
    ((d : ℕ) → inode_in (latest new.lives) fs d ≡ inode_in (latest state.lives) fs d) × ((inode : List ℕ) → listing (latest new.lives) inode ≡ without_entry slot (listing (latest state.lives) inode))
    × ((n : ℕ) (own : List ℕ) → Ok own ≡ inode_in (latest state.lives) fs n → Contains (inode_blocks own) slot.block → (d : ℕ) → d ≢ n → SameInode (latest state.lives) (latest new.lives) fs d)
name_lost T lib state new h fs few slot is after entry done =
    let edit = edit_at (32 * slot.place) (replicate 32 0) [] [] after in
    let v = latest state.lives in
    let w = latest new.lives in
    let named = is.names in
    let at : Under T v fs slot.block 2 = under_direct T library_layout (library_reads T lib) v fs named.index named.block named.place slot.block named.inodes named.has in
    let t = edited T state new h fs few slot.block 2 edit entry done at in (
      inodes_same T lib v w fs slot.block 2 t (λ z. omega (arith, z)) (λ z. omega (arith, z)),
      listing_without slot v w is.long is.few (proposed_here T state new h fs slot.block edit entry done) (proposed_others T state new h fs slot.block edit entry done),
      λ n own e has d ne.
          let x = direct_where own slot.block has in
          data_touched T lib state h fs few w slot.block 2 t refl n own (stands_from v fs n own e) x.0 (omega (arith, x.1)) (direct_block v own x.0 x.1 ∙ x.2) x.3 d ne,
    )

-- it stands in a block of its directory
entry_stands : (content : ℕ → List ℕ) (p : Slot → Bool) (b : ℕ) (s : Slot) (xs : List ℕ) → Some s ≡ find p (filter_map (λ place. used_entry (entry_at content b place)) xs) → s.block ≡ b
entry_stands content p b s [] e = absurd (none-some s (sym e))
entry_stands content p b s (x ∷ xs) e = go (half_at (content b) (32 * x) == 0) (filter_map (λ place. used_entry (entry_at content b place)) xs) (entry_stands content p b s xs) e
  where
    here : (rest : List Slot) → (Some s ≡ find p rest → s.block ≡ b) → (t : Bool) → Some s ≡ cond t (Some (entry_at content b x)) (find p rest) → s.block ≡ b
    here rest later true f = ap (λ (y : Slot). y.block) (same_Some s (entry_at content b x) f)
    here rest later false f = later f

    go : (t : Bool) (rest : List Slot) → (Some s ≡ find p rest → s.block ≡ b) → Some s ≡ find p (cons_option (if t then None else Some (entry_at content b x)) rest) → s.block ≡ b
    go true rest later f = later f
    go false rest later f = here rest later (p (entry_at content b x)) f

block_stands : (content : ℕ → List ℕ) (p : Slot → Bool) (s : Slot) (bs : List ℕ) → Some s ≡ find p (flat_map (slots_in_block content) bs) → Contains bs s.block
block_stands content p s [] e = absurd (none-some s (sym e))
block_stands content p s (b ∷ bs) e = go (find p (slots_in_block content b)) refl (block_stands content p s bs) (e ∙ find-append p (slots_in_block content b) (flat_map (slots_in_block content) bs))
  where
    go : (o : Option Slot) → o ≡ find p (slots_in_block content b) → (Some s ≡ find p (flat_map (slots_in_block content) bs) → Contains bs s.block) → Some s ≡ option_or o (find p (flat_map (slots_in_block content) bs)) → Contains (b ∷ bs) s.block
    go None f later g = Contains-tail b bs s.block (later g)
    go (Some y) f later g = subst (λ z. Contains (b ∷ bs) z) (sym (entry_stands content p b s (range_with_len 0 16) (g ∙ f))) (Contains-head b bs)

pub named_from : (content : ℕ → List ℕ) (fs d : ℕ) (name : List ℕ) (entry : Slot) → Ok entry ≡ named_in content fs d name → (inode : List ℕ) × (Ok inode ≡ directory_in content fs d) × (Some entry ≡ first_named content inode name)
unfolding named_in
named_from content fs d name entry e =
    let r = passed (directory_in content fs d) (entry_named content name) entry e in
    let good = (then_first (is_name name) (ok_or (first_named content r.0 name) NoEntry) BadName entry r.2).1 in
    (r.0, r.1, is_some_ok (first_named content r.0 name) entry good)

-- the entry that has a name stands in a block of its directory
pub named_block : (content : ℕ → List ℕ) (fs d : ℕ) (name : List ℕ) (entry : Slot) → Ok entry ≡ named_in content fs d name → (own : List ℕ) × (Ok own ≡ inode_in content fs d) × Contains (inode_blocks own) entry.block
named_block content fs d name entry e =
    let x = named_from content fs d name entry e in
    (x.0, (directory_from content fs d x.0 x.1).0, block_stands content (has_name content name) entry (inode_blocks x.0) x.2)

pub directory_to : (content : ℕ → List ℕ) (fs d : ℕ) (inode : List ℕ) → Ok inode ≡ inode_in content fs d → inode_mode inode ≡ 2 → Ok inode ≡ directory_in content fs d
directory_to content fs d inode e mode = directory_is inode mode ∙ in_directory content fs d (Ok inode) e
