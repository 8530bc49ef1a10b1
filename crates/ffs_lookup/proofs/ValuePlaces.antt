-- What the blocks of a directory's value say of its entries, and where there is room for one more.
use Rattle.std.proofs.Common.{◌≡◌, ◌≢◌, ℕ, zero, suc, ◌+◌, ◌*◌, ◌<◌, Bool, true, false, List, [], ◌∷◌, map, replicate, Option, Some, None, refl, sym, ◌∙◌, ap, inl, inr, arith, eq-eqb, ◌==◌, ◌&&◌, ◌||◌, not, find, bytes_eq, filter_map, flat_map, is_some, option_map, option_and_then, unwrap_or, slice_index_or, slice_set, if◌then◌else◌}
use Rattle.std.specs.List.{cons_option, list_any, range_with_len}
use Rattle.std.specs.Option.{option_or}
use Rattle.std.proofs.lemmas.Bool.{cases_eq, eqb-false, ne_eqb}
use Rattle.std.proofs.lemmas.Option.{none-some, same_Some}
use Rattle.std.proofs.lemmas.Slice.Eq.{bytes_eq-Decides}
use Rattle.std.proofs.lemmas.List.FromFn.{get_or-map-range_with_len}
use Rattle.ffs_model.specs.Library.{half_at, inode_blocks}
use Rattle.ffs_format.specs.Entries.{name_in}
use Rattle.ffs_format.specs.Fields.{direct_in}
use Rattle.ffs_lookup.specs.declared.places.Slot.{Slot}
use Rattle.ffs_lookup.specs.declared.places.Room.{Room}
use Rattle.ffs_lookup.specs.declared.places.Room.TheVariants.{Entry as InBlock, Pointer}
use Rattle.ffs_lookup.specs.Newest.{slots_in_block, entry_at as slot_in, first_named, has_gap, has_name, has_room, name_at, name_of_place, names_of, room_from, room_in, used_entry}
use Rattle.ffs_lookup.specs.Files.{Blocks, Entry, directory_block, entry_at, is_named, look_up, positions, positions_in, put_entry, room}
use Rattle.ffs_lookup.specs.FileValues.{block_value, blocks_value}
use Rattle.ffs_lookup.proofs.Finds.{filter_map_flat, filter_map_map, filter_map_on, map_flat, map_on, any_is_found, find_flat, find_map, find_on, find_pointed, first_found, first_map, first_of, first_on, flat_map_on, flat_pointed, first_within, found_holds, found_within, is_some_mapped, map_twice}
use Rattle.ffs_lookup.proofs.Walks.{found_in, is_named as is_named_at}

-- a place of a directory with an inode: in the block at an index
pub record IsPlaceOf (inode : List ℕ) (slot : Slot) (at : ℕ × ℕ) : Type 0 where
  pub low : at.0 < 12
  pub few : at.1 < 16
  pub block : direct_in inode at.0 ≡ slot.block
  pub there : slot.block ≢ 0
  pub place : at.1 ≡ slot.place

-- the first entry with a name
pub record EntryAt (content : ℕ → List ℕ) (inode name : List ℕ) (slot : Slot) : Type 0 where
  pub at : ℕ × ℕ
  pub is : IsPlaceOf inode slot at
  pub looked : look_up name (blocks_value content inode) ≡ Some (at, slot.inode)
  pub stands : name_of_place (content slot.block) slot.place ≡ Some (name, slot.inode)

module _ (content : ℕ → List ℕ) (inode : List ℕ) where
  abbrev pub blocks : Blocks
  blocks = blocks_value content inode

  abbrev pub word : ℕ → ℕ
  word = direct_in inode

  -- the block at an index, and the entry at a place of it
  pub block_here : (i : ℕ) → i < 12 → directory_block blocks i ≡ block_value content (word i)
  block_here i lt = get_or-map-range_with_len (λ index. block_value content (direct_in inode index)) 0 12 i i None lt (omega arith)

  pub entry_here : (i p : ℕ) → i < 12 → p < 16 → entry_at blocks (i, p) ≡ (if word i == 0 then None else name_of_place (content (word i)) p)
  entry_here i p lt lt' = ap (option_and_then (λ places. slice_index_or places p None)) (block_here i lt) ∙ go (word i == 0)
    where
      go : (t : Bool) → option_and_then (λ places. slice_index_or places p None) (if t then None else Some (map (name_of_place (content (word i))) (range_with_len 0 16)))
          ≡ (if t then None else name_of_place (content (word i)) p)
      go true = refl
      go false = get_or-map-range_with_len (name_of_place (content (word i))) 0 16 p p None lt' (omega arith)

  positions_are : positions blocks ≡ flat_map (λ i. positions_in i (block_value content (word i))) (range_with_len 0 12)
  positions_are = flat_map_on (λ i. positions_in i (directory_block blocks i)) (λ i. positions_in i (block_value content (word i))) 0 12 (λ i low high. ap (positions_in i) (block_here i (omega (arith, high))))

  -- the first place whose entry, or none, passes a test
  module _ (test : Option Entry → Bool) where
    abbrev pub found_at : ℕ → Option (ℕ × ℕ)
    found_at i = if word i == 0 then None else option_map (λ p. (i, p)) (find (λ p. test (name_of_place (content (word i)) p)) (range_with_len 0 16))

    pub find_value : find (λ at. test (entry_at blocks at)) (positions blocks) ≡ first_of found_at (range_with_len 0 12)
    find_value =
        ap (find (λ at. test (entry_at blocks at))) positions_are
        ∙ (find_flat (λ at. test (entry_at blocks at)) (λ i. positions_in i (block_value content (word i))) (range_with_len 0 12)
        ∙ first_on (λ i. find (λ at. test (entry_at blocks at)) (positions_in i (block_value content (word i)))) found_at 0 12 (λ i low high. one i (omega (arith, high))))
      where
        one : (i : ℕ) → i < 12 → find (λ at. test (entry_at blocks at)) (positions_in i (block_value content (word i))) ≡ found_at i
        one i lt = go (word i == 0) refl
          where
            go : (t : Bool) → (word i == 0) ≡ t → find (λ at. test (entry_at blocks at)) (positions_in i (if t then None else Some (map (name_of_place (content (word i))) (range_with_len 0 16))))
                ≡ (if t then None else option_map (λ p. (i, p)) (find (λ p. test (name_of_place (content (word i)) p)) (range_with_len 0 16)))
            go true e = refl
            go false e =
                find_map (λ at. test (entry_at blocks at)) (λ p. (i, p)) (range_with_len 0 16)
                ∙ ap (option_map (λ p. (i, p))) (find_on (λ p. test (entry_at blocks (i, p))) (λ p. test (name_of_place (content (word i)) p)) 0 16 (λ p low high.
                ap test (entry_here i p lt (omega (arith, high)) ∙ ap (λ (t : Bool). if t then None else name_of_place (content (word i)) p) e)))

  -- The first entry with a name

  abbrev pub slot_of : ℕ × ℕ → Slot
  slot_of at = slot_in content (word at.0) at.1

  module _ (name : List ℕ) where
    named_place : (m : List ℕ) (p : ℕ) → is_named name (name_of_place m p) ≡ is_named_at m name p
    named_place m p = go (half_at m (32 * p) == 0)
      where
        go : (t : Bool) → is_named name (if t then None else Some (name_in m (32 * p), half_at m (32 * p))) ≡ (not t && bytes_eq (name_in m (32 * p)) name)
        go true = refl
        go false = refl

    pub first_is : first_named content inode name ≡ option_map slot_of (find (λ at. is_named name (entry_at blocks at)) (positions blocks))
    first_is =
        ap (find (has_name content name)) (flat_pointed (slots_in_block content) word (range_with_len 0 12))
        ∙ (find_flat (has_name content name) (λ i. if word i == 0 then [] else slots_in_block content (word i)) (range_with_len 0 12)
        ∙ (first_on (λ i. find (has_name content name) (if word i == 0 then [] else slots_in_block content (word i))) (λ i. option_map slot_of (found_at (is_named name) i)) 0 12 (λ i low high. one i)
        ∙ (sym (first_map slot_of (found_at (is_named name)) (range_with_len 0 12)) ∙ ap (option_map slot_of) (sym (find_value (is_named name))))))
      where
        one : (i : ℕ) → find (has_name content name) (if word i == 0 then [] else slots_in_block content (word i)) ≡ option_map slot_of (found_at (is_named name) i)
        one i = go (word i == 0)
          where
            go : (t : Bool) → find (has_name content name) (if t then [] else slots_in_block content (word i))
                ≡ option_map slot_of (if t then None else option_map (λ p. (i, p)) (find (λ p. is_named name (name_of_place (content (word i)) p)) (range_with_len 0 16)))
            go true = refl
            go false =
                found_in content name (word i) (content (word i)) (find (is_named_at (content (word i)) name) (range_with_len 0 16)) refl refl
                ∙ (ap (option_map (slot_in content (word i))) (sym (find_on (λ p. is_named name (name_of_place (content (word i)) p)) (is_named_at (content (word i)) name) 0 16 (λ p low high. named_place (content (word i)) p)))
                ∙ sym (map_twice slot_of (λ p. (i, p)) (find (λ p. is_named name (name_of_place (content (word i)) p)) (range_with_len 0 16))))

    found_entry : (o : Option (ℕ × ℕ)) → find (λ at. is_named name (entry_at blocks at)) (positions blocks) ≡ o →
        is_some {T = (ℕ × ℕ) × ℕ} (option_and_then (λ at. option_map (λ entry. (at, entry.1)) (entry_at blocks at)) o) ≡ is_some o
    found_entry None e = refl
    found_entry (Some at) e = there (entry_at blocks at) (found_holds (λ x. is_named name (entry_at blocks x)) (positions blocks) at e)
      where
        there : (o : Option Entry) → is_named name o ≡ true → is_some {T = (ℕ × ℕ) × ℕ} (option_map (λ entry. (at, entry.1)) o) ≡ true
        there None f = absurd (cc f)
        there (Some entry) f = refl

    -- whether there is one
    pub look_up_is : is_some (first_named content inode name) ≡ is_some (look_up name blocks)
    look_up_is =
        ap is_some first_is
        ∙ (is_some_mapped slot_of (find (λ at. is_named name (entry_at blocks at)) (positions blocks)) ∙ sym (found_entry (find (λ at. is_named name (entry_at blocks at)) (positions blocks)) refl))

    -- where it stands
    found_place : (at : ℕ × ℕ) → find (λ x. is_named name (entry_at blocks x)) (positions blocks) ≡ Some at → (at.0 < 12) × (at.1 < 16) × (word at.0 ≢ 0)
    found_place at e =
        let r = first_within (found_at (is_named name)) 0 12 at (sym (find_value (is_named name)) ∙ e) in
        here r.0 r.1 (word r.0 == 0) refl (find (λ p. is_named name (name_of_place (content (word r.0)) p)) (range_with_len 0 16)) refl r.2
      where
        here : (i : ℕ) → i < 0 + 12 → (t : Bool) → (word i == 0) ≡ t → (o : Option ℕ) → find (λ p. is_named name (name_of_place (content (word i)) p)) (range_with_len 0 16) ≡ o →
            ◌≡◌ {A = Option (ℕ × ℕ)} (if t then None else option_map (λ p. (i, p)) o) (Some at) → (at.0 < 12) × (at.1 < 16) × (word at.0 ≢ 0)
        here i low true z o h f = absurd (none-some at f)
        here i low false z None h f = absurd (none-some at f)
        here i low false z (Some p) h f =
            let same : (i, p) ≡ at = same_Some (i, p) at f in
            let few = (found_within (λ q. is_named name (name_of_place (content (word i)) q)) 0 16 p h).1 in
            let index : i ≡ at.0 = ap (λ x. x.0) same in
            let place : p ≡ at.1 = ap (λ x. x.1) same in
            (omega (arith, low, index), omega (arith, few, place), λ none. eqb-false (word i) 0 z (ap word index ∙ none))

    -- the same entry is found in the value, at the index that has its block
    pub first_value : (slot : Slot) → Some slot ≡ first_named content inode name → EntryAt content inode name slot
    first_value slot e = go (find (λ x. is_named name (entry_at blocks x)) (positions blocks)) refl (e ∙ first_is)
      where
        named : (at : ℕ × ℕ) → find (λ x. is_named name (entry_at blocks x)) (positions blocks) ≡ Some at → (at.0 < 12) × (at.1 < 16) × (word at.0 ≢ 0) → slot ≡ slot_of at → (t : Bool) → (half_at (content (word at.0)) (32 * at.1) == 0) ≡ t →
            is_named name (if t then None else Some (name_in (content (word at.0)) (32 * at.1), half_at (content (word at.0)) (32 * at.1))) ≡ true → EntryAt content inode name slot
        named at e k same true z h = absurd (cc h)
        named at e k same false z h =
            let m = content (word at.0) in
            let number : slot.inode ≡ half_at m (32 * at.1) = ap (λ (s : Slot). s.inode) same in
            let block : slot.block ≡ word at.0 = ap (λ (s : Slot). s.block) same in
            let place : slot.place ≡ at.1 = ap (λ (s : Slot). s.place) same in
            let spelled : name_in m (32 * at.1) ≡ name = (bytes_eq-Decides (name_in m (32 * at.1)) name).0 h in
            let stands : name_of_place m at.1 ≡ Some (name, slot.inode) =
            ap (λ (t : Bool). if t then None else Some (name_in m (32 * at.1), half_at m (32 * at.1))) z
            ∙ (ap (λ (x : List ℕ). Some (x, half_at m (32 * at.1))) spelled ∙ ap (λ (x : ℕ). Some (name, x)) (sym number)) in
            let is : entry_at blocks at ≡ Some (name, slot.inode) =
            entry_here at.0 at.1 k.0 k.1 ∙ (ap (λ (t : Bool). if t then None else name_of_place m at.1) (ne_eqb (word at.0) 0 k.2) ∙ stands) in
            record {
              at = at;
              is = record { low = k.0; few = k.1; block = sym block; there = λ z. k.2 (sym block ∙ z); place = sym place };
              looked =
                  ap (option_and_then (λ (x : ℕ × ℕ). option_map (λ (entry : Entry). (x, entry.1)) (entry_at blocks x))) e ∙ ap (option_map (λ (entry : Entry). (at, entry.1))) is;
              stands = ap (λ (b : ℕ). name_of_place (content b) slot.place) block ∙ (ap (name_of_place m) place ∙ stands);
            }

        go : (o : Option (ℕ × ℕ)) → find (λ x. is_named name (entry_at blocks x)) (positions blocks) ≡ o → Some slot ≡ option_map slot_of o → EntryAt content inode name slot
        go None e f = absurd (none-some slot (sym f))
        go (Some at) e f =
            let k = found_place at e in
            let held : is_named name (entry_at blocks at) ≡ true = found_holds (λ x. is_named name (entry_at blocks x)) (positions blocks) at e in
            let here : entry_at blocks at ≡ name_of_place (content (word at.0)) at.1 =
            entry_here at.0 at.1 k.0 k.1 ∙ ap (λ (t : Bool). if t then None else name_of_place (content (word at.0)) at.1) (ne_eqb (word at.0) 0 k.2) in
            named at e k (same_Some slot (slot_of at) f) (half_at (content (word at.0)) (32 * at.1) == 0) refl (sym (ap (is_named name) here) ∙ held)

    pub none_value : None ≡ first_named content inode name → look_up name blocks ≡ None
    none_value e = go (look_up name blocks) refl
      where
        go : (o : Option ((ℕ × ℕ) × ℕ)) → look_up name blocks ≡ o → look_up name blocks ≡ None
        go None f = f
        go (Some x) f = let z : false ≡ true = ap is_some e ∙ (look_up_is ∙ ap is_some f) in absurd (cc z)

  -- Room for one more

  abbrev is_gap : Option Entry → Bool
  is_gap entry = not (is_some entry)

  gap_place : (m : List ℕ) (p : ℕ) → is_gap (name_of_place m p) ≡ (half_at m (32 * p) == 0)
  gap_place m p = go (half_at m (32 * p) == 0)
    where
      go : (t : Bool) → is_gap (if t then None else Some (name_in m (32 * p), half_at m (32 * p))) ≡ t
      go true = refl
      go false = refl

  gaps_in : (m : List ℕ) → find (λ p. is_gap (name_of_place m p)) (range_with_len 0 16) ≡ find (λ p. half_at m (32 * p) == 0) (range_with_len 0 16)
  gaps_in m = find_on (λ p. is_gap (name_of_place m p)) (λ p. half_at m (32 * p) == 0) 0 16 (λ p low high. gap_place m p)

  abbrev gap_at : ℕ → Bool
  gap_at i = not (word i == 0) && has_gap (content (word i))

  has_found : (i : ℕ) → is_some (found_at is_gap i) ≡ gap_at i
  has_found i = go (word i == 0)
    where
      go : (t : Bool) → is_some {T = ℕ × ℕ} (if t then None else option_map (λ p. (i, p)) (find (λ p. is_gap (name_of_place (content (word i)) p)) (range_with_len 0 16))) ≡ (not t && has_gap (content (word i)))
      go true = refl
      go false =
          is_some_mapped {B = ℕ × ℕ} (λ p. (i, p)) (find (λ p. is_gap (name_of_place (content (word i)) p)) (range_with_len 0 16))
          ∙ (ap is_some (gaps_in (content (word i))) ∙ sym (any_is_found (λ p. half_at (content (word i)) (32 * p) == 0) (range_with_len 0 16)))

  abbrev pub room_of : ℕ × ℕ → Room
  room_of at = if word at.0 == 0 then Pointer at.0 else InBlock (word at.0) at.1

  missing_is : find (λ i. not (is_some (directory_block blocks i))) (range_with_len 0 12) ≡ find (λ i. word i == 0) (range_with_len 0 12)
  missing_is = find_on (λ i. not (is_some (directory_block blocks i))) (λ i. word i == 0) 0 12 (λ i low high. ap (λ b. not (is_some b)) (block_here i (omega (arith, high))) ∙ go i (word i == 0))
    where
      go : (i : ℕ) (t : Bool) → not (is_some (if t then None else Some (map (name_of_place (content (word i))) (range_with_len 0 16)))) ≡ t
      go i true = refl
      go i false = refl

  free_is : find (λ at. is_gap (entry_at blocks at)) (positions blocks) ≡ option_and_then (found_at is_gap) (find gap_at (range_with_len 0 12))
  free_is = find_value is_gap ∙ first_found (found_at is_gap) gap_at 0 12 (λ i low high. has_found i)

  module _ where
    abbrev missing : Option ℕ
    missing = find (λ i. word i == 0) (range_with_len 0 12)

    abbrev gaps : ℕ → Option ℕ
    gaps i = find (λ p. half_at (content (word i)) (32 * p) == 0) (range_with_len 0 16)

    pointers : (o : Option ℕ) → missing ≡ o → option_map Pointer o ≡ option_map room_of (option_map (λ i. (i, 0)) o)
    pointers None e = refl
    pointers (Some i) e = ap (λ (t : Bool). Some (if t then Pointer i else InBlock (word i) 0)) (sym (found_holds (λ j. word j == 0) (range_with_len 0 12) i e))

    by_gap : (o : Option ℕ) → find gap_at (range_with_len 0 12) ≡ o →
        room_from content inode (option_map word o) ≡ option_map room_of (option_or (option_and_then (found_at is_gap) o) (option_map (λ i. (i, 0)) missing))
    by_gap None e = pointers missing refl
    by_gap (Some i) e = go (word i == 0) refl (found_holds gap_at (range_with_len 0 12) i e)
      where
        inner : (o : Option ℕ) → is_some o ≡ true → (word i == 0) ≡ false →
            option_map (InBlock (word i)) o ≡ option_map room_of (option_or (option_map (λ p. (i, p)) o) (option_map (λ j. (j, 0)) missing))
        inner None h f = absurd (cc h)
        inner (Some p) h f = ap (λ (t : Bool). Some (if t then Pointer i else InBlock (word i) p)) (sym f)

        go : (t : Bool) → (word i == 0) ≡ t → not t && has_gap (content (word i)) ≡ true →
            option_map (InBlock (word i)) (gaps i)
            ≡ option_map room_of (option_or (if t then None else option_map (λ p. (i, p)) (find (λ p. is_gap (name_of_place (content (word i)) p)) (range_with_len 0 16))) (option_map (λ j. (j, 0)) missing))
        go true f h = absurd (cc h)
        go false f h =
            inner (gaps i) (sym (any_is_found (λ p. half_at (content (word i)) (32 * p) == 0) (range_with_len 0 16)) ∙ h) f
            ∙ ap (λ o. option_map room_of (option_or (option_map (λ p. (i, p)) o) (option_map (λ j. (j, 0)) missing))) (sym (gaps_in (content (word i))))

  -- the same place in the value and in the bytes
  pub room_is : room_in content inode ≡ option_map room_of (room blocks)
  room_is =
      ap (room_from content inode) (find_pointed (λ b. has_gap (content b)) word (range_with_len 0 12))
      ∙ (by_gap (find gap_at (range_with_len 0 12)) refl
      ∙ ap (option_map room_of) (ap (λ o. option_or o (option_map (λ i. (i, 0)) (find (λ i. word i == 0) (range_with_len 0 12)))) (sym free_is)
      ∙ ap (λ o. option_or (find (λ at. is_gap (entry_at blocks at)) (positions blocks)) (option_map (λ i. (i, 0)) o)) (sym missing_is)))

  pub has_room_is : has_room content inode ≡ is_some (room blocks)
  has_room_is =
      ap (λ t. t || list_any (λ i. word i == 0) (range_with_len 0 12)) (any_is_found (λ b. has_gap (content b)) (inode_blocks inode))
      ∙ (ap (λ t. is_some (find (λ b. has_gap (content b)) (inode_blocks inode)) || t) (any_is_found (λ i. word i == 0) (range_with_len 0 12))
      ∙ (go (find (λ b. has_gap (content b)) (inode_blocks inode)) refl ∙ (ap is_some room_is ∙ is_some_mapped room_of (room blocks))))
    where
      go : (o : Option ℕ) → find (λ b. has_gap (content b)) (inode_blocks inode) ≡ o → is_some o || is_some (find (λ i. word i == 0) (range_with_len 0 12)) ≡ is_some (room_from content inode o)
      go None e = sym (is_some_mapped Pointer (find (λ i. word i == 0) (range_with_len 0 12)))
      go (Some b) e =
          sym (is_some_mapped (InBlock b) (find (λ p. half_at (content b) (32 * p) == 0) (range_with_len 0 16))
          ∙ (sym (any_is_found (λ p. half_at (content b) (32 * p) == 0) (range_with_len 0 16)) ∙ found_holds (λ c. has_gap (content c)) (inode_blocks inode) b e))

  -- where there is room is a place, the first one of a block that is not there yet
  pub room_known : (at : ℕ × ℕ) → Some at ≡ room blocks → (at.0 < 12) × (at.1 < 16) × (word at.0 ≡ 0 → at.1 ≡ 0)
  room_known at e = go (find gap_at (range_with_len 0 12)) refl (e ∙ (ap (λ o. option_or o (option_map (λ i. (i, 0)) (find (λ i. not (is_some (directory_block blocks i))) (range_with_len 0 12)))) free_is
      ∙ ap (λ o. option_or (option_and_then (found_at is_gap) (find gap_at (range_with_len 0 12))) (option_map (λ i. (i, 0)) o)) missing_is))
    where
      first : (i : ℕ) → missing ≡ Some i → Some at ≡ Some (i, 0) → (at.0 < 12) × (at.1 < 16) × (word at.0 ≡ 0 → at.1 ≡ 0)
      first i m f =
          let same : at ≡ (i, 0) = same_Some at (i, 0) f in
          let low = (found_within (λ j. word j == 0) 0 12 i m).1 in
          let index : at.0 ≡ i = ap (λ x. x.0) same in
          let place : at.1 ≡ 0 = ap (λ x. x.1) same in
          (omega (arith, low, index), omega (arith, place), λ z. place)

      pointer : (o : Option ℕ) → missing ≡ o → Some at ≡ option_map (λ i. (i, 0)) o → (at.0 < 12) × (at.1 < 16) × (word at.0 ≡ 0 → at.1 ≡ 0)
      pointer None m f = absurd (none-some at (sym f))
      pointer (Some i) m f = first i m f

      gap : (i : ℕ) → find gap_at (range_with_len 0 12) ≡ Some i → (t : Bool) → (word i == 0) ≡ t → (o : Option ℕ) → find (λ p. is_gap (name_of_place (content (word i)) p)) (range_with_len 0 16) ≡ o →
          is_some {T = ℕ × ℕ} (if t then None else option_map (λ p. (i, p)) o) ≡ true →
          Some at ≡ option_or (if t then None else option_map (λ p. (i, p)) o) (option_map (λ j. (j, 0)) missing) → (at.0 < 12) × (at.1 < 16) × (word at.0 ≡ 0 → at.1 ≡ 0)
      gap i m true z o h is f = absurd (cc is)
      gap i m false z None h is f = absurd (cc is)
      gap i m false z (Some p) h is f =
          let same : at ≡ (i, p) = same_Some at (i, p) f in
          let low = (found_within gap_at 0 12 i m).1 in
          let few = (found_within (λ q. is_gap (name_of_place (content (word i)) q)) 0 16 p h).1 in
          let index : at.0 ≡ i = ap (λ x. x.0) same in
          let place : at.1 ≡ p = ap (λ x. x.1) same in
          (omega (arith, low, index), omega (arith, few, place), λ none. absurd (eqb-false (word i) 0 z (ap word (sym index) ∙ none)))

      go : (o : Option ℕ) → find gap_at (range_with_len 0 12) ≡ o → Some at ≡ option_or (option_and_then (found_at is_gap) o) (option_map (λ i. (i, 0)) missing) → (at.0 < 12) × (at.1 < 16) × (word at.0 ≡ 0 → at.1 ≡ 0)
      go None m f = pointer missing refl f
      go (Some i) m f =
          gap i m (word i == 0) refl (find (λ p. is_gap (name_of_place (content (word i)) p)) (range_with_len 0 16)) refl (has_found i ∙ found_holds gap_at (range_with_len 0 12) i m) f

-- What is listed

module _ (content : ℕ → List ℕ) (inode : List ℕ) where
  name_places : (b : ℕ) (xs : List ℕ) → map (λ (entry : Slot). (name_at content entry, entry.inode)) (filter_map (λ place. used_entry (slot_in content b place)) xs) ≡ filter_map (name_of_place (content b)) xs
  name_places b [] = refl
  name_places b (x ∷ xs) = step (half_at (content b) (32 * x) == 0) (name_places b xs)
    where
      step : (t : Bool) → map (λ (entry : Slot). (name_at content entry, entry.inode)) (filter_map (λ place. used_entry (slot_in content b place)) xs) ≡ filter_map (name_of_place (content b)) xs →
          map (λ (entry : Slot). (name_at content entry, entry.inode)) (cons_option (if t then None else Some (slot_in content b x)) (filter_map (λ place. used_entry (slot_in content b place)) xs))
          ≡ cons_option (if t then None else Some (name_in (content b) (32 * x), half_at (content b) (32 * x))) (filter_map (name_of_place (content b)) xs)
      step true r = r
      step false r = ap (λ ys. (name_in (content b) (32 * x), half_at (content b) (32 * x)) ∷ ys) r

  -- the names of a directory are those of its value
  pub listed_is : names_of content inode ≡ filter_map (entry_at (blocks content inode)) (positions (blocks content inode))
  listed_is =
      ap (map (λ (entry : Slot). (name_at content entry, entry.inode))) (flat_pointed (slots_in_block content) (word content inode) (range_with_len 0 12))
      ∙ (map_flat (λ (entry : Slot). (name_at content entry, entry.inode)) (λ i. if word content inode i == 0 then [] else slots_in_block content (word content inode i)) (range_with_len 0 12)
      ∙ (flat_map_on (λ i. map (λ (entry : Slot). (name_at content entry, entry.inode)) (if word content inode i == 0 then [] else slots_in_block content (word content inode i)))
      (λ i. filter_map (entry_at (blocks content inode)) (positions_in i (block_value content (word content inode i)))) 0 12 (λ i low high. one i (omega (arith, high)) (word content inode i == 0) refl)
      ∙ (sym (filter_map_flat (entry_at (blocks content inode)) (λ i. positions_in i (block_value content (word content inode i))) (range_with_len 0 12))
      ∙ ap (filter_map (entry_at (blocks content inode))) (sym (positions_are content inode)))))
    where
      one : (i : ℕ) → i < 12 → (t : Bool) → (word content inode i == 0) ≡ t →
          map (λ (entry : Slot). (name_at content entry, entry.inode)) (if t then [] else slots_in_block content (word content inode i))
          ≡ filter_map (entry_at (blocks content inode)) (positions_in i (if t then None else Some (map (name_of_place (content (word content inode i))) (range_with_len 0 16))))
      one i lt true e = refl
      one i lt false e =
          name_places (word content inode i) (range_with_len 0 16)
          ∙ sym (filter_map_map (entry_at (blocks content inode)) (λ p. (i, p)) (range_with_len 0 16)
          ∙ filter_map_on (λ p. entry_at (blocks content inode) (i, p)) (name_of_place (content (word content inode i))) 0 16 (λ p low high.
          entry_here content inode i p lt (omega (arith, high)) ∙ ap (λ (t : Bool). if t then None else name_of_place (content (word content inode i)) p) e))

-- An entry that is put or cleared

set_range : {A : Type 0} (f : ℕ → A) (y : A) (a n k j : ℕ) → a + k ≡ j → slice_set (map f (range_with_len a n)) k y ≡ map (λ i. if i == j then y else f i) (range_with_len a n)
set_range f y a zero k j e = refl
set_range f y a (suc n) zero j e =
    ap (λ t. (if t then y else f a) ∷ map f (range_with_len (a + 1) n)) (sym (eq-eqb a j (omega (arith, e))))
    ∙ ap (λ xs. (if a == j then y else f a) ∷ xs) (map_on f (λ i. if i == j then y else f i) (a + 1) n (λ i low high. ap (λ t. if t then y else f i) (sym (ne_eqb i j (λ z. omega (arith, e, z, low))))))
set_range f y a (suc n) (suc k) j e =
    ap (λ t. (if t then y else f a) ∷ slice_set (map f (range_with_len (a + 1) n)) k y) (sym (ne_eqb a j (λ z. omega (arith, e, z))))
    ∙ ap (λ xs. (if a == j then y else f a) ∷ xs) (set_range f y (a + 1) n k j (omega (arith, e)))

module _ (v w : ℕ → List ℕ) (inode after : List ℕ) (k place : ℕ) (low : k < 12) (few : place < 16) (entry : Option Entry) where
  abbrev old_place : ℕ → Option Entry
  old_place p = if direct_in inode k == 0 then None else name_of_place (v (direct_in inode k)) p

  old_block : unwrap_or (block_value v (direct_in inode k)) (replicate 16 None) ≡ map old_place (range_with_len 0 16)
  old_block = go (direct_in inode k == 0)
    where
      go : (t : Bool) → unwrap_or (if t then None else Some (map (name_of_place (v (direct_in inode k))) (range_with_len 0 16))) (replicate 16 None)
          ≡ map (λ p. if t then None else name_of_place (v (direct_in inode k)) p) (range_with_len 0 16)
      go true = refl
      go false = refl

  abbrev new_places : List (Option Entry)
  new_places = slice_set (unwrap_or (directory_block (blocks_value v inode) k) (replicate 16 None)) place entry

  -- The blocks of a directory whose entry at one place is another one, in a block that may be new.
  pub put_is : ((i : ℕ) → i < 12 → i ≢ k → direct_in after i ≡ direct_in inode i) → direct_in after k ≢ 0 →
      ((i p : ℕ) → i < 12 → i ≢ k → direct_in inode i ≢ 0 → p < 16 → name_of_place (w (direct_in inode i)) p ≡ name_of_place (v (direct_in inode i)) p) →
      ((p : ℕ) → p < 16 → name_of_place (w (direct_in after k)) p ≡ (if p == place then entry else old_place p)) →
      blocks_value w after ≡ put_entry (blocks_value v inode) (k, place) entry
  put_is directs there others here =
      map_on (λ i. block_value w (direct_in after i)) (λ i. if i == k then Some new_places else block_value v (direct_in inode i)) 0 12 (λ i from to. one i (omega (arith, to)))
      ∙ sym (set_range (λ i. block_value v (direct_in inode i)) (Some new_places) 0 12 k k (omega arith))
    where
      set_places : new_places ≡ map (λ p. if p == place then entry else old_place p) (range_with_len 0 16)
      set_places =
          ap (λ o. slice_set (unwrap_or o (replicate 16 None)) place entry) (block_here v inode k low)
          ∙ (ap (λ ps. slice_set ps place entry) old_block ∙ set_range old_place entry 0 16 place place (omega arith))

      at : block_value w (direct_in after k) ≡ Some new_places
      at =
          ap (λ t. if t then None else Some (map (name_of_place (w (direct_in after k))) (range_with_len 0 16))) (ne_eqb (direct_in after k) 0 there)
          ∙ ap (λ ps. Some ps) (map_on (name_of_place (w (direct_in after k))) (λ p. if p == place then entry else old_place p) 0 16 (λ p from to. here p (omega (arith, to))) ∙ sym set_places)

      away : (i : ℕ) → i < 12 → i ≢ k → block_value w (direct_in after i) ≡ block_value v (direct_in inode i)
      away i lt ne = ap (block_value w) (directs i lt ne) ∙ go (direct_in inode i == 0) refl
        where
          go : (t : Bool) → (direct_in inode i == 0) ≡ t → (if t then None else Some (map (name_of_place (w (direct_in inode i))) (range_with_len 0 16)))
              ≡ (if t then None else Some (map (name_of_place (v (direct_in inode i))) (range_with_len 0 16)))
          go true e = refl
          go false e = ap (λ ps. Some ps) (map_on (name_of_place (w (direct_in inode i))) (name_of_place (v (direct_in inode i))) 0 16 (λ p from to. others i p lt ne (λ z. eqb-false (direct_in inode i) 0 e z) (omega (arith, to))))

      one : (i : ℕ) → i < 12 → block_value w (direct_in after i) ≡ (if i == k then Some new_places else block_value v (direct_in inode i))
      one i lt = elim (cases_eq i k) [
        | inl e ↦ ap (λ j. block_value w (direct_in after j)) e ∙ (at ∙ ap (λ t. if t then Some new_places else block_value v (direct_in inode i)) (sym (eq-eqb i k e)))
        | inr ne ↦ away i lt ne ∙ ap (λ t. if t then Some new_places else block_value v (direct_in inode i)) (sym (ne_eqb i k ne))
      ]
