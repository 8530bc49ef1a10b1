-- What an edit of an inode, or of a directory's entries, leaves in the newest bytes.
use Rattle.std.proofs.Common.{◌≡◌, ◌≢◌, ℕ, ◌+◌, ◌-◌, ◌*◌, ◌/◌, ◌%◌, ◌<◌, ◌≤◌, Bool, true, List, [], ◌∷◌, length, take, drop, Option, Some, Ok, Err, refl, sym, ◌∙◌, ap, arith, inl, inr, Contains, Result, ◌==◌, filter_map, if◌then◌else◌, IsTrue, slice_set, eqb-true, lt-ltb}
use Rattle.ffs_lib.proofs.Common.{FfsFault, IsConsistent, IsFree, IsInodes, IsPlace, NoEntry, NotDir, Slot, StoreState, Types, and_then, blocks_of, direct_in}
use Rattle.ffs_lib.proofs.Common.{directory_in, distinct, entry_of, fields_of, file_block, if_directory, init_of, inode_block_in, inode_in, is_at, is_name}
use Rattle.ffs_lib.proofs.Common.{latest, list_any, listing, place_in, propose_of, put, range_with_len, room_in, take-length, unless_unused}
use Rattle.ffs_model.specs.Library.{IsLibrary, direct_word, half_at, inode_at, inode_blocks, inode_links, inode_mode, library_layout, pointed, zero_block}
use Rattle.ffs_model.proofs.ForCallers.{blocks_read, bytes_within, direct_distinct, direct_where, library_reads, one_type, proposed_here, started_here, under_inodes}
use Rattle.ffs_lookup.specs.declared.places.Free.{Free}
use Rattle.ffs_lib.specs.Edits.{edit_at}
use Rattle.ffs_lookup.specs.declared.places.Room.TheVariants.{Entry, Pointer}
use Rattle.ffs_lib.specs.Outcomes.{IsGrown}
use Rattle.ffs_lib.specs.Results.{HasMore, MadeEntry, SameContents, SameInode, SameOrNew, new_inode}
use Rattle.ffs_lib.proofs.Tests.{never}
use Rattle.ffs_lib.proofs.Fields.{blocks_are, get_mapped, set_words}
use Rattle.ffs_lib.proofs.Alone.{none_listed}
use Rattle.ffs_lib.proofs.Frames.{listed_at, listed_blocks, listed_in, listing_same}
use Rattle.ffs_lib.proofs.Listed.{fits_newest}
use Rattle.ffs_lib.proofs.More.{OneMore, block_more, blocks_more, lists_more, more_by, one_listed, words_more}
use Rattle.ffs_lookup.proofs.ForCallers.{block_again, free_mode, good_number, in_inode_block, same_ok, unused_is, used_is}
use Rattle.ffs_lib.proofs.Rooms.{place_by, placed_before}
use Rattle.ffs_lib.proofs.Owners.{Stands, block_at, block_from, direct_block, only_first, passed, stands_from}
use Rattle.ffs_lib.proofs.Same.{Touches, as_same, begun, block_same, data_touched, edited, inode_touched, inodes_same, new_on, none_touched, same_on}

-- A directory is an inode in use

pub directory_from : (content : ℕ → List ℕ) (fs d : ℕ) (inode : List ℕ) → Ok inode ≡ directory_in content fs d → (Ok inode ≡ inode_in content fs d) × (inode_mode inode ≡ 2)
unfolding directory_in
directory_from content fs d inode e =
    let r = passed (inode_in content fs d) if_directory inode e in
    let x = only_first (inode_mode r.0 == 2) r.0 inode NotDir r.2 in
    (ap (λ z. Ok z) (sym x.1) ∙ r.1, ap inode_mode (sym x.1) ∙ eqb-true (inode_mode r.0) 2 x.0)

pub directory_same : (v w : ℕ → List ℕ) (fs d : ℕ) → inode_in w fs d ≡ inode_in v fs d → directory_in w fs d ≡ directory_in v fs d
unfolding directory_in
directory_same v w fs d e = ap (λ (r : Result (List ℕ) FfsFault). and_then r if_directory) e

-- The bytes of an inode are written

module _ (T : Types) (lib : IsLibrary T) (state new : StoreState) (h : IsConsistent T state) (fs : ℕ) (few : fs < 32) (n block place : ℕ) (stands : IsPlace state fs n block place)
    (bytes : List ℕ) (whole : length bytes ≡ 64) (adds : List (ℕ × ℕ)) (drops : List ℕ) (after : Option ℕ) (entry : ℕ) (done : propose_of T state fs block (edit_at (64 * place) bytes adds drops after) ≡ Ok (entry, new)) where
  pub home_touched : Touches T (latest state.lives) (latest new.lives) fs block 4
  home_touched = edited T state new h fs few block 4 (edit_at (64 * place) bytes adds drops after) entry done (under_inodes T library_layout (library_reads T lib) (latest state.lives) fs ((n - 1) / 8) block stands.inodes)

  pub home_bytes : latest new.lives block ≡ put (latest state.lives block) (64 * place) bytes
  home_bytes = proposed_here T state new h fs block (edit_at (64 * place) bytes adds drops after) entry done

  written : inode_at (latest new.lives block) place ≡ bytes
  written =
      let m = latest state.lives block in
      let fit : 64 * place + length bytes ≤ length m = omega (arith, stands.long, stands.few, whole) in
      let z : 64 * place ≡ 64 * place + 0 = omega arith in
      ap (λ x. inode_at x place) home_bytes ∙ (ap (λ k. take 64 (drop k (put m (64 * place) bytes))) z
      ∙ (bytes_within m (64 * place) bytes fit 64 0 (omega (arith, whole)) ∙ (ap (λ k. take k bytes) (sym whole) ∙ take-length bytes)))

  read_again : n ≤ 128 → unless_unused bytes ≡ inode_in (latest new.lives) fs n
  read_again low =
      let w = latest new.lives in
      let j : ℕ = (n - 1) / 8 in
      let found : Ok block ≡ inode_block_in w fs j = block_again (latest state.lives) fs j block stands.inodes ∙ sym (block_same T lib (latest state.lives) w fs block 4 home_touched (λ z. omega (arith, z)) j) in
      ap unless_unused (sym written) ∙ in_inode_block w fs n (good_number n stands.some low) j place block (w block) refl stands.at found refl

  -- the others
  pub others_put : (d : ℕ) → d ≢ n → SameInode (latest state.lives) (latest new.lives) fs d
  others_put = inode_touched T lib state h fs few (latest new.lives) block 4 home_touched refl n place bytes stands whole home_bytes

  inode_used : n ≤ 128 → inode_mode bytes ≢ 0 → inode_in (latest new.lives) fs n ≡ Ok bytes
  inode_used low used = sym (used_is bytes used ∙ read_again low)

  pub place_put : place_in (latest new.lives) fs n ≡ Ok bytes
  place_put =
      let w = latest new.lives in
      let j : ℕ = (n - 1) / 8 in
      let found : Ok block ≡ inode_block_in w fs j = block_again (latest state.lives) fs j block stands.inodes ∙ sym (block_same T lib (latest state.lives) w fs block 4 home_touched (λ z. omega (arith, z)) j) in
      ap (λ (r : Result ℕ FfsFault). and_then r (λ b. Ok (inode_at (w b) ((n - 1) % 8)))) (sym found)
      ∙ (ap (λ p. Ok (inode_at (w block) p)) (sym stands.at) ∙ ap (λ (m : List ℕ). Ok m) written)

  pub inode_gone : n ≤ 128 → inode_mode bytes ≡ 0 → inode_in (latest new.lives) fs n ≡ Err NoEntry
  inode_gone low unused = sym (unused_is bytes unused ∙ read_again low)

pub inode_put : (T : Types) (lib : IsLibrary T) (state new : StoreState) (h : IsConsistent T state) (fs : ℕ) (few : fs < 32) (n block place : ℕ) → IsPlace state fs n block place → n ≤ 128 →
    (bytes : List ℕ) → length bytes ≡ 64 → inode_mode bytes ≢ 0 → (adds : List (ℕ × ℕ)) (drops : List ℕ) (after : Option ℕ) (entry : ℕ) →
    propose_of T state fs block (edit_at (64 * place) bytes adds drops after) ≡ Ok (entry, new) →
    (inode_in (latest new.lives) fs n ≡ Ok bytes) × ((d : ℕ) → d ≢ n → SameInode (latest state.lives) (latest new.lives) fs d)
inode_put T lib state new h fs few n block place stands low bytes whole used adds drops after entry done = (
  inode_used T lib state new h fs few n block place stands bytes whole adds drops after entry done low used,
  others_put T lib state new h fs few n block place stands bytes whole adds drops after entry done,
)

-- An entry is written into a gap

module _ (T : Types) (lib : IsLibrary T) (state new : StoreState) (h : IsConsistent T state) (fs : ℕ) (few : fs < 32) (d : ℕ) (inode : List ℕ) (dir : Ok inode ≡ directory_in (latest state.lives) fs d) where
  abbrev v : ℕ → List ℕ
  v = latest state.lives

  abbrev w : ℕ → List ℕ
  w = latest new.lives

  own : Stands v fs d inode
  own = stands_from v fs d inode (directory_from v fs d inode dir).0

  own_distinct : distinct (inode_blocks inode) ≡ true
  own_distinct =
      let p : ℕ = (d - 1) % 8 in
      ap (λ m. distinct (inode_blocks m)) own.bytes
      ∙ (ap distinct (sym (blocks_read (v own.block) p (omega arith))) ∙ (ap (λ (t : Bool). distinct (if t then blocks_of (pointed (direct_word (v own.block) p) 12 2) else [])) (lt-ltb p 8 (omega arith)) ∙ direct_distinct T lib (v own.block) p (fits_newest T lib state state h fs few own.block 4 (under_inodes T library_layout (library_reads T lib) v fs ((d - 1) / 8) own.block own.inodes)) (omega arith)))

  pub gap_entered : (b p : ℕ) → Some (Entry b p) ≡ room_in v inode → Contains (inode_blocks inode) b → p < 16 → length (v b) ≡ 512 → half_at (v b) (32 * p) ≡ 0 → (n : ℕ) (name bytes : List ℕ) → bytes ≡ entry_of n name → length bytes ≡ 32 → IsTrue (is_name name) →
      half_at bytes 0 ≡ n → n ≢ 0 → (after : Option ℕ) (entry : ℕ) → propose_of T state fs b (edit_at (32 * p) bytes [] [] after) ≡ Ok (entry, new) →
      HasMore v w fs d inode name n × ((e : ℕ) → e ≢ d → SameInode v w fs e)
  gap_entered b p first has low long empty n name bytes is whole named half some after entry done =
      let x = direct_where inode b has in
      let lt = x.1 in
      let block : file_block v inode x.0 ≡ b = direct_block v inode x.0 lt ∙ x.2 in
      let at = block_at T lib state h fs few d inode own x.0 b (omega (arith, lt)) block x.3 in
      let t = edited T state new h fs few b 2 (edit_at (32 * p) bytes [] [] after) entry done at in
      let here : w b ≡ put (v b) (32 * p) bytes = proposed_here T state new h fs b (edit_at (32 * p) bytes [] [] after) entry done in
      let one : Slot = record { block = b; place = p; inode = n } in
      let more = block_more (v b) long p low n name bytes is whole named half some b empty in
      let filled : OneMore (listed_in v b) (listed_in w b) (one, name) = more_by _ _ _ _ (one, name) refl (ap (λ m. filter_map (listed_at b m) (range_with_len 0 16)) here) more in
      let all = blocks_more (listed_in v) (listed_in w) b (one, name) filled (inode_blocks inode) has own_distinct (λ c i ne.
      let y = direct_where inode c i in
      ap (λ m. filter_map (listed_at c m) (range_with_len 0 16)) (t.others c 2 (block_at T lib state h fs few d inode own y.0 c (omega (arith, y.1)) (direct_block v inode y.0 y.1 ∙ y.2) y.3) ne)) in (
        record {
          after = inode;
          links = refl;
          directory = dir ∙ sym (directory_same v w fs d (inodes_same T lib v w fs b 2 t (λ z. omega (arith, z)) (λ z. omega (arith, z)) d));
          entry = one;
          inode_named = refl;
          front = all.front;
          back = all.back;
          was = listed_blocks v (inode_blocks inode) ∙ all.was;
          is = listed_blocks w (inode_blocks inode) ∙ all.is;
          alone = none_listed v one inode (λ c i e. ap (λ x. half_at (v x) (32 * p)) e ∙ empty);
          placed = inl (first, refl, refl);
        },
        data_touched T lib state h fs few w b 2 t refl d inode own x.0 (omega (arith, lt)) block x.3,
      )

-- A new block with one entry is attached

module _ (T : Types) (lib : IsLibrary T) (zeroth first second : StoreState) (h : IsConsistent T zeroth) (h1 : IsConsistent T first) (fs : ℕ) (few : fs < 32) (b number : ℕ) (bytes : List ℕ)
    (done : init_of T zeroth fs 2 (put zero_block 0 bytes) ≡ Ok ((b, number), first)) where
  abbrev v0 : ℕ → List ℕ
  v0 = latest zeroth.lives

  abbrev v1 : ℕ → List ℕ
  v1 = latest first.lives

  abbrev v2 : ℕ → List ℕ
  v2 = latest second.lives

  new_block : Touches T v0 v1 fs b 9
  new_block = begun T zeroth first h fs few 2 9 (put zero_block 0 bytes) (b, number) done

  pub begun_same : (e : ℕ) → SameInode v0 v1 fs e
  begun_same = none_touched T lib zeroth h fs few v1 b 9 new_block (λ z. omega (arith, z)) (λ z. omega (arith, z)) (λ z. omega (arith, z)) (λ z. omega (arith, z))

  -- the new block is no block of inodes
  no_inodes : (j : ℕ) → j < 16 → IsInodes library_layout v1 fs j b → ⊥
  no_inodes j low is =
      let old = block_from v0 fs j b low (block_again v1 fs j b is ∙ block_same T lib v0 v1 fs b 9 new_block (λ z. omega (arith, z)) j) in
      new_block.apart b 4 (under_inodes T library_layout (library_reads T lib) v0 fs j b old) (λ z. omega (arith, z)) refl

  pub block_entered : (d index n : ℕ) (name inode0 : List ℕ) → Ok inode0 ≡ directory_in v0 fs d → Some (Pointer index) ≡ room_in v0 inode0 → index < 12 → direct_in inode0 index ≡ 0 → b ≢ 0 → (inode : List ℕ) → Ok inode ≡ directory_in v1 fs d → IsGrown v1 v2 fs d inode index b →
      bytes ≡ entry_of n name → length bytes ≡ 32 → IsTrue (is_name name) → half_at bytes 0 ≡ n → n ≢ 0 →
      HasMore v0 v2 fs d inode0 name n
  block_entered d index n name inode0 dir empty low gap there inode again g is whole named half some =
      let same = begun_same d in
      let one : inode ≡ inode0 = same_ok inode inode0 (again ∙ (directory_same v0 v1 fs d same.0 ∙ sym dir)) in
      let own = stands_from v1 fs d inode (directory_from v1 fs d inode again).0 in
      let own_bytes : (c : ℕ) → Contains (inode_blocks inode) c → v2 c ≡ v1 c =
      λ c i.
      let y = direct_where inode c i in
      let lt = y.1 in
      let at = block_at T lib first h1 fs few d inode own y.0 c (omega (arith, lt)) (direct_block v1 inode y.0 lt ∙ y.2) y.3 in
      g.bytes c (λ z.
      let four : 2 ≡ 4 = one_type T first h1 fs c 2 4 few at (under_inodes T library_layout (library_reads T lib) v1 fs ((d - 1) / 8) c z) in
      omega (arith, four)) in
      let new_bytes : v2 b ≡ put zero_block 0 bytes = g.bytes b (no_inodes ((d - 1) / 8) (omega (arith, own.low))) ∙ started_here T zeroth first fs 2 (put zero_block 0 bytes) (b, number) done in
      let entry : Slot = record { block = b; place = 0; inode = n } in
      let ws = (fields_of inode).direct in
      let words = words_more ws index b low (get_mapped (direct_in inode) 12 0 index low ∙ (ap (λ k. direct_in inode k) (let z : 0 + index ≡ index = omega arith in z) ∙ (ap (λ m. direct_in m index) one ∙ gap))) there in
      let blocks = more_by _ _ (inode_blocks inode) (inode_blocks g.after) b (blocks_are inode) (blocks_are g.after ∙ ap set_words g.direct) words in
      let single : listed_in v2 b ≡ (entry, name) ∷ [] = ap (λ m. filter_map (listed_at b m) (range_with_len 0 16)) new_bytes ∙ one_listed n name bytes is whole named half some b in
      let all = lists_more (listed_in v2) (inode_blocks inode) (inode_blocks g.after) b (entry, name) blocks single in
      let first_own = stands_from v0 fs d inode0 (directory_from v0 fs d inode0 dir).0 in
      let apart_before : (c : ℕ) → Contains (inode_blocks inode0) c → c ≢ b = λ c i.
      let y = direct_where inode0 c i in
      new_block.apart c 2 (block_at T lib zeroth h fs few d inode0 first_own y.0 c (omega (arith, y.1)) (direct_block v0 inode0 y.0 y.1 ∙ y.2) y.3) (λ z. omega (arith, z)) in
      let before : listing v2 inode ≡ listing v0 inode0 = listing_same v2 v1 inode own_bytes ∙ (ap (listing v1) one ∙ (same.1 inode0 (directory_from v0 fs d inode0 dir).0).0) in
      record {
        after = g.after;
        directory = g.directory;
        links = g.links ∙ ap inode_links one;
        entry = entry;
        inode_named = refl;
        front = all.front;
        back = all.back;
        was = sym before ∙ (listed_blocks v2 (inode_blocks inode) ∙ all.was);
        is = listed_blocks v2 (inode_blocks g.after) ∙ all.is;
        alone = none_listed v0 entry inode0 (λ c i e. absurd (apart_before c i e));
        placed = inr (index, empty, refl, g.direct ∙ ap (λ (i : List ℕ). slice_set (fields_of i).direct index b) one, g.size);
      }

-- A block of inodes: begun and attached

-- A directory's block: begun with an entry, and attached

-- An inode is made, and named

pub free_none : (state : StoreState) (fs : ℕ) (free : Free) → IsFree state fs free → inode_in (latest state.lives) fs free.number ≡ Err NoEntry
free_none state fs free is =
    let content = latest state.lives in
    let n = free.number in
    sym (unused_is (inode_at (content free.block) free.place) (free_mode (inode_at (content free.block) free.place) is.bare)
    ∙ in_inode_block content fs n (good_number n is.stands.some is.low) ((n - 1) / 8) free.place free.block (content free.block) refl is.stands.at (block_again content fs ((n - 1) / 8) free.block is.stands.inodes) refl)

module _ (u v w : ℕ → List ℕ) (fs d : ℕ) (name : List ℕ) (mode n : ℕ) where
  more_before : (inode : List ℕ) → SameContents u v inode → HasMore v w fs d inode name n → HasMore u w fs d inode name n
  more_before inode same m = record { after = m.after; directory = m.directory; links = m.links; entry = m.entry; inode_named = m.inode_named; front = m.front; back = m.back; was = sym same.0 ∙ m.was; is = m.is; alone = ap (list_any (λ (p : Slot × List ℕ). is_at m.entry p.0)) (sym same.0) ∙ m.alone; placed = placed_before u v inode inode m.after m.entry (place_by u v inode inode refl same.1) refl refl m.placed }

  pub made_then : inode_in u fs n ≡ Err NoEntry → inode_in v fs n ≡ Ok (new_inode mode) → ((e : ℕ) → e ≢ n → SameInode u v fs e) →
      ((inode : List ℕ) → Ok inode ≡ directory_in v fs d → HasMore v w fs d inode name n) × ((e : ℕ) → e ≢ d → SameInode v w fs e) → (inode : List ℕ) → Ok inode ≡ directory_in u fs d → MadeEntry u w fs d name mode n
  made_then free made first enters inode dir =
      let apart : d ≢ n = λ e. never inode NoEntry ((directory_from u fs d inode dir).0 ∙ (ap (inode_in u fs) e ∙ free)) in
      let same = first d apart in
      record {
        free = free;
        made = (enters.1 n (λ e. apart (sym e))).0 ∙ made;
        entry = λ other is. more_before other (same.1 other (directory_from u fs d other is).0) (enters.0 other (is ∙ sym (directory_same u v fs d same.0)));
        others = λ e ne ne'. as_same u w fs n e (same_on u v w fs e (first e ne') (enters.1 e ne));
      }

  pub stays_made : ((e : ℕ) → SameOrNew u v fs n e) → MadeEntry v w fs d name mode n → MadeEntry u w fs d name mode n
  stays_made stays m = record {
    free = sym (stays n).0 ∙ m.free;
    made = m.made;
    entry = λ inode is. more_before inode ((stays d).1 inode (directory_from u fs d inode is).0) (m.entry inode (is ∙ sym (directory_same u v fs d (stays d).0)));
    others = λ e ne ne'. new_on u v w fs n e (stays e) (m.others e ne ne');
  }
