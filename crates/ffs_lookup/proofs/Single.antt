-- A name that stands once in the files still does after each call.
use Rattle.std.proofs.Common.{◌≡◌, ◌≢◌, ℕ, zero, suc, ◌+◌, ◌-◌, ◌/◌, ◌<◌, ◌⊎◌, Bool, true, false, List, [], ◌∷◌, length, map, replicate, Option, Some, None, refl, sym, ◌∙◌, ap, inl, inr, arith, subst, Result, Ok, Err, ◌==◌, ◌&&◌, not, nat_le, nat_lt, find, is_some, option_map, option_and_then, slice_index_or, slice_set, unwrap_or, if◌then◌else◌, get_or-set_other}
use Rattle.std.specs.List.{range_with_len}
use Rattle.std.specs.Option.{ok_or, option_or}
use Rattle.std.proofs.lemmas.Bool.{cases_eq}
use Rattle.std.proofs.lemmas.Option.{none-some, same_Some}
use Rattle.std.proofs.lemmas.Slice.Eq.{bytes_eq-Decides}
use Rattle.ffs_format.specs.Entries.{is_name}
use Rattle.ffs_lookup.specs.declared.fault.FfsFault.{FfsFault}
use Rattle.ffs_lookup.specs.declared.fault.FfsFault.TheVariants.{NoEntry, Exists, NotDir, IsDir, DirNotEmpty, BadName, TooLarge, NoInode}
use Rattle.ffs_lookup.specs.Newest.{and_then, mapped, most_bytes}
use Rattle.ffs_lookup.specs.Files.{Absent, Answer, AreSingle, Blocks, Directory, Entry, File, Files, Free, InodeValue, IsPlace, IsSingle, Unusable, directory_block, both_directories, cleared, created, directories, directory_of, empty_volume, entry_at, entry_named, file_of, free_number, in_use, is_absent, is_bare, is_directory, is_named, is_same, less_a_link, links_of, look_up, made_at, made_in, moved, moved_in, new_directory, new_file, positions, positions_in, put_entry, removed, renamed, replaced, replaced_in, room, turned, unlinked, with_block, with_entry, with_entry_in, with_value, without_link, written, written_bytes, written_in}
use Rattle.ffs_lookup.proofs.Finds.{find_flat, find_map, first_of, first_within, found_holds, found_within}

-- What an answer came from

came : {A B : Type 0} (r : Result A FfsFault) (f : A → Result B FfsFault) (y : B) → and_then r f ≡ Ok y → (x : A) × (Ok x ≡ r) × (f x ≡ Ok y)
came (Ok x) f y e = (x, refl, e)
came (Err fault) f y e = absurd (cc e)

came_mapped : {A B : Type 0} (r : Result A FfsFault) (f : A → B) (y : B) → mapped f r ≡ Ok y → (x : A) × (Ok x ≡ r) × (f x ≡ y)
came_mapped (Ok x) f y e = (x, refl, cc e)
came_mapped (Err fault) f y e = absurd (cc e)

came_some : {A : Type 0} (o : Option A) (fault : FfsFault) (x : A) → Ok x ≡ ok_or o fault → o ≡ Some x
came_some None fault x e = absurd (cc e)
came_some (Some y) fault x e = let same : y ≡ x = cc e in ap (λ z. Some z) same

if_so : {A : Type 0} (t : Bool) (r : Result A FfsFault) (fault : FfsFault) (y : A) → (if t then r else Err fault) ≡ Ok y → (t ≡ true) × (r ≡ Ok y)
if_so true r fault y e = (refl, e)
if_so false r fault y e = absurd (cc e)

if_not : {A : Type 0} (t : Bool) (fault : FfsFault) (r : Result A FfsFault) (y : A) → (if t then Err fault else r) ≡ Ok y → (t ≡ false) × (r ≡ Ok y)
if_not true fault r y e = absurd (cc e)
if_not false fault r y e = (refl, e)

-- Places

set_here : {A : Type 0} (xs : List A) (i : ℕ) (v d : A) → (slice_index_or (slice_set xs i v) i d ≡ v) ⊎ (slice_index_or (slice_set xs i v) i d ≡ slice_index_or xs i d)
set_here [] i v d = inr refl
set_here (x ∷ xs) zero v d = inl refl
set_here (x ∷ xs) (suc i) v d = set_here xs i v d

abbrev no_entry : (A : Type 0) → Option A
no_entry A = None

none_replicated : {A : Type 0} (n p : ℕ) → slice_index_or (replicate n (no_entry A)) p None ≡ None
none_replicated zero p = refl
none_replicated (suc n) zero = refl
none_replicated (suc n) (suc p) = none_replicated n p

module _ (bs : Blocks) (at : ℕ × ℕ) (entry : Option Entry) where
  abbrev old_places : List (Option Entry)
  old_places = unwrap_or (directory_block bs at.0) (replicate 16 None)

  abbrev new_places : List (Option Entry)
  new_places = slice_set old_places at.1 entry

  old_entry : (p : ℕ) (f : Entry) → slice_index_or old_places p None ≡ Some f → entry_at bs (at.0, p) ≡ Some f
  old_entry p f = go (directory_block bs at.0)
    where
      go : (o : Option (List (Option Entry))) → slice_index_or (unwrap_or o (replicate 16 None)) p None ≡ Some f → option_and_then (λ places. slice_index_or places p None) o ≡ Some f
      go None e = absurd (none-some f (sym (none_replicated 16 p) ∙ e))
      go (Some places) e = e

  -- an entry that stands there after one was put or cleared
  put_or_old : (x : ℕ × ℕ) (f : Entry) → entry_at (put_entry bs at entry) x ≡ Some f → ((x ≡ at) × (entry ≡ Some f)) ⊎ (entry_at bs x ≡ Some f)
  put_or_old x f e = elim (cases_eq x.0 at.0) [
    | inr ne ↦ inr (sym (ap (option_and_then (λ (places : List (Option Entry)). slice_index_or places x.1 None)) (get_or-set_other bs at.0 x.0 (Some new_places) None ne)) ∙ e)
    | inl same ↦
        let here : option_and_then (λ (places : List (Option Entry)). slice_index_or places x.1 None) (slice_index_or (slice_set bs at.0 (Some new_places)) at.0 None) ≡ Some f =
        ap (λ (i : ℕ). option_and_then (λ (places : List (Option Entry)). slice_index_or places x.1 None) (slice_index_or (slice_set bs at.0 (Some new_places)) i None)) (sym same) ∙ e in
        elim (set_here bs at.0 (Some new_places) None) [
          | inr kept ↦
              inr (ap (λ (i : ℕ). entry_at bs (i, x.1)) same ∙ (sym (ap (option_and_then (λ (places : List (Option Entry)). slice_index_or places x.1 None)) kept) ∙ here))
          | inl set ↦ within same (sym (ap (option_and_then (λ (places : List (Option Entry)). slice_index_or places x.1 None)) set) ∙ here) (cases_eq x.1 at.1)
        ]
  ]
    where
      back : x.0 ≡ at.0 → slice_index_or old_places x.1 None ≡ Some f → entry_at bs x ≡ Some f
      back same g = ap (λ (i : ℕ). entry_at bs (i, x.1)) same ∙ old_entry x.1 f g

      within : x.0 ≡ at.0 → slice_index_or new_places x.1 None ≡ Some f → (x.1 ≡ at.1) ⊎ (x.1 ≢ at.1) → ((x ≡ at) × (entry ≡ Some f)) ⊎ (entry_at bs x ≡ Some f)
      within same g (inr ne) = inr (back same (sym (get_or-set_other old_places at.1 x.1 entry None ne) ∙ g))
      within same g (inl p) = elim (set_here old_places at.1 entry None) [
        | inl set ↦ inl (λ i. (same i, p i), sym set ∙ (ap (λ (q : ℕ). slice_index_or new_places q None) (sym p) ∙ g))
        | inr kept ↦ inr (back same (ap (λ (q : ℕ). slice_index_or old_places q None) p ∙ (sym kept ∙ (ap (λ (q : ℕ). slice_index_or new_places q None) (sym p) ∙ g))))
      ]

-- an entry less
clear_single : (bs : Blocks) (at : ℕ × ℕ) → IsSingle bs → IsSingle (put_entry bs at None)
clear_single bs at single a b e f ra rb ea eb same = single a b e f ra rb (old a e (put_or_old bs at None a e ea)) (old b f (put_or_old bs at None b f eb)) same
  where
    old : (x : ℕ × ℕ) (f : Entry) → ((x ≡ at) × (None ≡ Some f)) ⊎ (entry_at bs x ≡ Some f) → entry_at bs x ≡ Some f
    old x f (inl p) = absurd (none-some f p.1)
    old x f (inr g) = g

-- an entry with a name that stands nowhere else
put_single : (bs : Blocks) (at : ℕ × ℕ) (entry : Entry) → IsSingle bs → ((x : ℕ × ℕ) (f : Entry) → IsPlace x → entry_at bs x ≡ Some f → f.0 ≡ entry.0 → at ≡ x) → IsSingle (put_entry bs at (Some entry))
put_single bs at entry single alone a b e f ra rb ea eb same = go (put_or_old bs at (Some entry) a e ea) (put_or_old bs at (Some entry) b f eb)
  where
    go : ((a ≡ at) × (Some entry ≡ Some e)) ⊎ (entry_at bs a ≡ Some e) → ((b ≡ at) × (Some entry ≡ Some f)) ⊎ (entry_at bs b ≡ Some f) → a ≡ b
    go (inl p) (inl q) = p.0 ∙ sym q.0
    go (inl p) (inr q) = p.0 ∙ alone b f rb q (sym same ∙ ap (λ (x : Entry). x.0) (sym (same_Some entry e p.1)))
    go (inr p) (inl q) = sym (q.0 ∙ alone a e ra p (same ∙ ap (λ (x : Entry). x.0) (sym (same_Some entry f q.1))))
    go (inr p) (inr q) = single a b e f ra rb p q same

-- Look-ups

none_first : {A : Type 0} (h : ℕ → Option A) (a n i : ℕ) → first_of h (range_with_len a n) ≡ None → i < n → h (a + i) ≡ None
none_first h a zero i e lt = absurd (omega (arith, lt))
none_first {A} h a (suc n) i e lt = step (h a) refl e (none_first h (a + 1) n (i - 1)) (cases_eq i 0)
  where
    step : (o : Option A) → h a ≡ o → option_or o (first_of h (range_with_len (a + 1) n)) ≡ None → (first_of h (range_with_len (a + 1) n) ≡ None → i - 1 < n → h (a + 1 + (i - 1)) ≡ None) → (i ≡ 0) ⊎ (i ≢ 0) → h (a + i) ≡ None
    step (Some x) is f rest c = absurd (none-some x (sym f))
    step None is f rest (inl z) = let k : a + i ≡ a = omega (arith, z) in ap h k ∙ is
    step None is f rest (inr ne) = let k : a + 1 + (i - 1) ≡ a + i = omega (arith, ne) in ap h (sym k) ∙ rest f (omega (arith, lt, ne))

none_among : (test : ℕ → Bool) (a n i : ℕ) → find test (range_with_len a n) ≡ None → i < n → test (a + i) ≡ false
none_among test a zero i e lt = absurd (omega (arith, lt))
none_among test a (suc n) i e lt = step (test a) refl e (none_among test (a + 1) n (i - 1)) (cases_eq i 0)
  where
    step : (t : Bool) → test a ≡ t → (if t then Some a else find test (range_with_len (a + 1) n)) ≡ None → (find test (range_with_len (a + 1) n) ≡ None → i - 1 < n → test (a + 1 + (i - 1)) ≡ false) → (i ≡ 0) ⊎ (i ≢ 0) → test (a + i) ≡ false
    step true is f rest c = absurd (none-some a (sym f))
    step false is f rest (inl z) = let k : a + i ≡ a = omega (arith, z) in ap test k ∙ is
    step false is f rest (inr ne) = let k : a + 1 + (i - 1) ≡ a + i = omega (arith, ne) in ap test (sym k) ∙ rest f (omega (arith, lt, ne))

module _ (bs : Blocks) (name : List ℕ) where
  abbrev named_at : ℕ × ℕ → Bool
  named_at at = is_named name (entry_at bs at)

  abbrev with_place : ℕ × ℕ → Option Entry → Option ((ℕ × ℕ) × ℕ)
  with_place at o = option_map (λ entry. (at, entry.1)) o

  abbrev at_index : ℕ → Option ℕ → Option (ℕ × ℕ)
  at_index i o = option_map (λ p. (i, p)) o

  found_then : (o : Option (ℕ × ℕ)) → find named_at (positions bs) ≡ o → is_some (option_and_then (λ (at : ℕ × ℕ). with_place at (entry_at bs at)) o) ≡ false → o ≡ None
  found_then None e f = refl
  found_then (Some at) e f = absurd (there (entry_at bs at) (found_holds named_at (positions bs) at e) f)
    where
      there : (o : Option Entry) → is_named name o ≡ true → is_some (with_place at o) ≡ false → ⊥
      there None h g = absurd (cc h)
      there (Some entry) h g = absurd (cc g)

  -- no entry has a name that is not found
  none_named : is_some (look_up name bs) ≡ false → (x : ℕ × ℕ) (f : Entry) → IsPlace x → entry_at bs x ≡ Some f → f.0 ≡ name → ⊥
  none_named none x f at e same =
      let all = sym (find_flat named_at (λ (i : ℕ). positions_in i (directory_block bs i)) (range_with_len 0 12)) ∙ found_then (find named_at (positions bs)) refl none in
      let z : x.0 ≡ 0 + x.0 = omega arith in
      let all_in : (i : ℕ) → Option (ℕ × ℕ) = λ i. find named_at (positions_in i (directory_block bs i)) in
      block (directory_block bs x.0) refl (ap all_in z ∙ none_first all_in 0 12 x.0 all at.0)
    where
      named : is_named name (entry_at bs x) ≡ true
      named = ap (is_named name) e ∙ (bytes_eq-Decides f.0 name).1 same

      places : find named_at (map (λ (p : ℕ). (x.0, p)) (range_with_len 0 16)) ≡ None → ⊥
      places g =
          let inner = mapped_none (find (λ (p : ℕ). named_at (x.0, p)) (range_with_len 0 16)) (sym (find_map named_at (λ (p : ℕ). (x.0, p)) (range_with_len 0 16)) ∙ g) in
          let z : x.1 ≡ 0 + x.1 = omega arith in
          absurd (cc (sym (ap (λ (p : ℕ). named_at (x.0, p)) z ∙ none_among (λ (p : ℕ). named_at (x.0, p)) 0 16 x.1 inner at.1) ∙ named))
        where
          mapped_none : (o : Option ℕ) → at_index x.0 o ≡ None → o ≡ None
          mapped_none None h = refl
          mapped_none (Some p) h = absurd (none-some (x.0, p) (sym h))

      block : (o : Option (List (Option Entry))) → directory_block bs x.0 ≡ o → find named_at (positions_in x.0 (directory_block bs x.0)) ≡ None → ⊥
      block None is g = absurd (none-some f (sym (ap (option_and_then (λ (places : List (Option Entry)). slice_index_or places x.1 None)) is) ∙ e))
      block (Some ps) is g = places (sym (ap (λ o. find named_at (positions_in x.0 o)) is) ∙ g)

  -- one that is found stands there
  found_named : (found : (ℕ × ℕ) × ℕ) → look_up name bs ≡ Some found → (f : Entry) × IsPlace found.0 × (entry_at bs found.0 ≡ Some f) × (f.0 ≡ name)
  found_named found e = go (find named_at (positions bs)) refl e
    where
      of_block : (at : ℕ × ℕ) (i : ℕ) → i < 12 → (o : Option (List (Option Entry))) → find named_at (positions_in i o) ≡ Some at → IsPlace at
      of_block at i low None g = absurd (none-some at g)
      of_block at i low (Some ps) g = placed (find (λ (p : ℕ). named_at (i, p)) (range_with_len 0 16)) refl (sym (find_map named_at (λ (p : ℕ). (i, p)) (range_with_len 0 16)) ∙ g)
        where
          placed : (o : Option ℕ) → find (λ (p : ℕ). named_at (i, p)) (range_with_len 0 16) ≡ o → at_index i o ≡ Some at → IsPlace at
          placed None h k = absurd (none-some at k)
          placed (Some p) h k =
              let few = (found_within (λ (q : ℕ). named_at (i, q)) 0 16 p h).1 in
              subst IsPlace (same_Some (i, p) at k) (low, omega (arith, few))

      place : (at : ℕ × ℕ) → find named_at (positions bs) ≡ Some at → IsPlace at
      place at g =
          let r = first_within (λ (i : ℕ). find named_at (positions_in i (directory_block bs i))) 0 12 at (sym (find_flat named_at (λ (i : ℕ). positions_in i (directory_block bs i)) (range_with_len 0 12)) ∙ g) in
          of_block at r.0 (omega (arith, r.1)) (directory_block bs r.0) r.2

      there : (at : ℕ × ℕ) (o : Option Entry) → IsPlace at → entry_at bs at ≡ o → is_named name o ≡ true → with_place at o ≡ Some found → (f : Entry) × IsPlace found.0 × (entry_at bs found.0 ≡ Some f) × (f.0 ≡ name)
      there at None k is h g = absurd (cc h)
      there at (Some entry) k is h g =
          let same = ap (λ (x : (ℕ × ℕ) × ℕ). x.0) (same_Some (at, entry.1) found g) in
          (entry, subst IsPlace same k, ap (entry_at bs) (sym same) ∙ is, (bytes_eq-Decides entry.0 name).0 h)

      go : (o : Option (ℕ × ℕ)) → find named_at (positions bs) ≡ o → option_and_then (λ (at : ℕ × ℕ). with_place at (entry_at bs at)) o ≡ Some found →
          (f : Entry) × IsPlace found.0 × (entry_at bs found.0 ≡ Some f) × (f.0 ≡ name)
      go None is g = absurd (none-some found g)
      go (Some at) is g = there at (entry_at bs at) (place at is) refl (found_holds named_at (positions bs) at is) g

-- Values

abbrev HasSingle : InodeValue → Type 0
HasSingle v = (directory : ℕ × Blocks) → Ok directory ≡ directory_of v → IsSingle directory.1

less_single : (v : InodeValue) → HasSingle v → HasSingle (less_a_link v)
less_single Absent h directory e = absurd (cc e)
less_single Free h directory e = absurd (cc e)
less_single Unusable h directory e = absurd (cc e)
less_single (File links bytes) h directory e = absurd (go (nat_le links 1) e)
  where
    go : (t : Bool) → Ok directory ≡ directory_of (if t then Free else File (links - 1) bytes) → ⊥
    go true f = absurd (cc f)
    go false f = absurd (cc f)
less_single (Directory links blocks) h directory e = go (nat_le links 1) e
  where
    go : (t : Bool) → Ok directory ≡ directory_of (if t then Free else Directory (links - 1) blocks) → IsSingle directory.1
    go true f = absurd (cc f)
    go false f = let same : directory ≡ (links - 1, blocks) = cc f in subst IsSingle (ap (λ (x : ℕ × Blocks). x.1) (sym same)) (h (links, blocks) refl)

entry_single : (v : InodeValue) (at : ℕ × ℕ) (entry : Option Entry) → ((directory : ℕ × Blocks) → Ok directory ≡ directory_of v → IsSingle (put_entry directory.1 at entry)) → HasSingle (with_entry_in at entry v)
entry_single Absent at entry h directory e = absurd (cc e)
entry_single Free at entry h directory e = absurd (cc e)
entry_single Unusable at entry h directory e = absurd (cc e)
entry_single (File links bytes) at entry h directory e = absurd (cc e)
entry_single (Directory links blocks) at entry h directory e =
    let same : directory ≡ (links, put_entry blocks at entry) = cc e in
    subst IsSingle (ap (λ (x : ℕ × Blocks). x.1) (sym same)) (h (links, blocks) refl)

value_single : (files : Files) → AreSingle files → (n : ℕ) (value : InodeValue) → HasSingle value → AreSingle (with_value files n value)
value_single files single n value h d directory e = go (d == n) e
  where
    go : (t : Bool) → Ok directory ≡ directory_of (if t then value else files d) → IsSingle directory.1
    go true f = h directory f
    go false f = single d directory f

cleared_entry : (files : Files) → AreSingle files → (d : ℕ) (at : ℕ × ℕ) → AreSingle (with_entry files d at None)
cleared_entry files single d at = value_single files single d (with_entry_in at None (files d)) (entry_single (files d) at None (λ directory e. clear_single directory.1 at (single d directory e)))

lost_link : (files : Files) → AreSingle files → (n : ℕ) → AreSingle (without_link files n)
lost_link files single n = value_single files single n (less_a_link (files n)) (less_single (files n) (single n))

-- The calls

bare : (x : ℕ × ℕ) → entry_at (replicate 12 None) x ≡ None
bare x = ap (option_and_then (λ (places : List (Option Entry)). slice_index_or places x.1 None)) (none_replicated 12 x.0)

abbrev IsNew : InodeValue → Type 0
IsNew value = (value ≡ new_file) ⊎ (value ≡ new_directory)

new_bare : (value : InodeValue) → IsNew value → (directory : ℕ × Blocks) → Ok directory ≡ directory_of value → (x : ℕ × ℕ) → entry_at directory.1 x ≡ None
new_bare value (inl is) directory e x = let f : Ok directory ≡ Err NotDir = e ∙ ap directory_of is in absurd (cc f)
new_bare value (inr is) directory e x =
    let f : Ok directory ≡ Ok (1, replicate 12 None) = e ∙ ap directory_of is in
    let same : directory ≡ (1, replicate 12 None) = cc f in
    ap (λ (d : ℕ × Blocks). entry_at d.1 x) same ∙ bare x

new_single : (value : InodeValue) → IsNew value → HasSingle value
new_single value new directory e a b f g ra rb ea eb same = absurd (none-some f (sym (new_bare value new directory e a) ∙ ea))

pub made_single : AreSingle empty_volume
made_single d directory e = go (d == 1) (not (d == 0) && nat_le d 8) e
  where
    go : (t u : Bool) → Ok directory ≡ directory_of (if t then new_directory else if u then Free else Absent) → IsSingle directory.1
    go true u f = new_single new_directory (inr refl) directory f
    go false true f = absurd (cc f)
    go false false f = absurd (cc f)

module _ (files : Files) (single : AreSingle files) where
  block_single : (n : ℕ) → AreSingle (with_block files n)
  block_single n d directory e = go (is_absent (files n) && (not (d == 0) && ((d - 1) / 8 == (n - 1) / 8))) e
    where
      go : (t : Bool) → Ok directory ≡ directory_of (if t then Free else files d) → IsSingle directory.1
      go true f = absurd (cc f)
      go false f = single d directory f

  pub created_single : (d : ℕ) (name : List ℕ) (value : InodeValue) (next : ℕ × Files) → IsNew value → created value files d name ≡ Ok next → AreSingle next.1
  created_single d name value next new e =
      let p = came (directory_of (files d)) (made_in value files d name) next e in
      let named = if_so (is_name name) (if is_some (look_up name p.0.1) then Err Exists else and_then (ok_or (free_number files) NoInode) (λ n. mapped (made_at value files d name n) (ok_or (room p.0.1) TooLarge))) BadName next p.2 in
      let free = if_not (is_some (look_up name p.0.1)) Exists (and_then (ok_or (free_number files) NoInode) (λ n. mapped (made_at value files d name n) (ok_or (room p.0.1) TooLarge))) next named.1 in
      let n = came (ok_or (free_number files) NoInode) (λ n. mapped (made_at value files d name n) (ok_or (room p.0.1) TooLarge)) next free.1 in
      let at = came_mapped (ok_or (room p.0.1) TooLarge) (made_at value files d name n.0) next n.2 in
      subst (λ (x : ℕ × Files). AreSingle x.1) at.2 (there n.0 at.0 p.0 p.1 free.0)
    where
      there : (n : ℕ) (at : ℕ × ℕ) (directory : ℕ × Blocks) → Ok directory ≡ directory_of (files d) → is_some (look_up name directory.1) ≡ false → AreSingle (made_at value files d name n at).1
      there n at directory is none =
          let middle = value_single (with_block files n) (block_single n) n value (new_single value new) in
          value_single (with_value (with_block files n) n value) middle d (with_entry_in at (Some (name, n)) (with_value (with_block files n) n value d))
          (entry_single (with_value (with_block files n) n value d) at (Some (name, n)) (λ own e. put_single own.1 at (name, n) (middle d own e) (λ x f rx ex same. absurd (apart (d == n) (is_absent (files n) && (not (d == 0) && ((d - 1) / 8 == (n - 1) / 8))) own e x f rx ex same))))
        where
          apart : (t u : Bool) (own : ℕ × Blocks) → Ok own ≡ directory_of (if t then value else if u then Free else files d) → (x : ℕ × ℕ) (f : Entry) → IsPlace x → entry_at own.1 x ≡ Some f → f.0 ≡ name → ⊥
          apart true u own e x f rx ex same = none-some f (sym (new_bare value new own e x) ∙ ex)
          apart false true own e x f rx ex same = absurd (cc e)
          apart false false own e x f rx ex same =
              let one : ◌≡◌ {A = Result (ℕ × Blocks) FfsFault} (Ok own) (Ok directory) = e ∙ sym is in
              let equal : own ≡ directory = cc one in
              none_named directory.1 name none x f rx (ap (λ (y : ℕ × Blocks). entry_at y.1 x) (sym equal) ∙ ex) same

  pub written_single : (n offset : ℕ) (bytes : List ℕ) (next : Unit {0} × Files) → written files n offset bytes ≡ Ok next → AreSingle next.1
  written_single n offset bytes next e =
      let p = came (file_of (files n)) (written_in files n offset bytes) next e in
      go p.0 (nat_lt most_bytes (offset + length bytes)) (length bytes == 0) p.2
    where
      go : (file : ℕ × List ℕ) (t u : Bool) → (if t then Err TooLarge else if u then Ok (tt {0}, files) else Ok (tt {0}, with_value files n (File file.0 (written_bytes file.1 offset bytes)))) ≡ Ok next → AreSingle next.1
      go file true u f = absurd (cc f)
      go file false true f = let same : (tt {0}, files) ≡ next = cc f in subst (λ (x : Unit {0} × Files). AreSingle x.1) same single
      go file false false f =
          let same : (tt {0}, with_value files n (File file.0 (written_bytes file.1 offset bytes))) ≡ next = cc f in
          subst (λ (x : Unit {0} × Files). AreSingle x.1) same (value_single files single n (File file.0 (written_bytes file.1 offset bytes)) (λ directory g. absurd (cc g)))

  cleared_single : (d : ℕ) (found : (ℕ × ℕ) × ℕ) → AreSingle (cleared files d found)
  cleared_single d found = lost_link (with_entry files d found.0 None) (cleared_entry files single d found.0) found.1

  pub unlinked_single : (d : ℕ) (name : List ℕ) (next : Unit {0} × Files) → unlinked files d name ≡ Ok next → AreSingle next.1
  unlinked_single d name next e =
      let p = came (directory_of (files d)) (λ directory. and_then (entry_named name directory) (λ found. mapped (λ file. (tt {0}, cleared files d found)) (file_of (files found.1)))) next e in
      let f = came (entry_named name p.0) (λ found. mapped (λ file. (tt {0}, cleared files d found)) (file_of (files found.1))) next p.2 in
      let m = came_mapped (file_of (files f.0.1)) (λ file. (tt {0}, cleared files d f.0)) next f.2 in
      subst (λ (x : Unit {0} × Files). AreSingle x.1) m.2 (cleared_single d f.0)

  pub removed_single : (d : ℕ) (name : List ℕ) (next : Unit {0} × Files) → removed files d name ≡ Ok next → AreSingle next.1
  removed_single d name next e =
      let p = came (directory_of (files d)) (λ directory. and_then (entry_named name directory) (λ found. and_then (directory_of (files found.1)) (λ inner. if is_bare inner then Ok (tt {0}, cleared files d found) else Err DirNotEmpty))) next e in
      let f = came (entry_named name p.0) (λ found. and_then (directory_of (files found.1)) (λ inner. if is_bare inner then Ok (tt {0}, cleared files d found) else Err DirNotEmpty)) next p.2 in
      let i = came (directory_of (files f.0.1)) (λ inner. if is_bare inner then Ok (tt {0}, cleared files d f.0) else Err DirNotEmpty) next f.2 in
      let b = if_so (is_bare i.0) (Ok (tt {0}, cleared files d f.0)) DirNotEmpty next i.2 in
      let same : (tt {0}, cleared files d f.0) ≡ next = ok_same b.1 in
      subst (λ (x : Unit {0} × Files). AreSingle x.1) same (cleared_single d f.0)
    where
      ok_same : {x y : Unit {0} × Files} → ◌≡◌ {A = Answer (Unit {0})} (Ok x) (Ok y) → x ≡ y
      ok_same e = cc

  -- an entry that is put in a directory whose entries with its name stand at that place, if there are any
  put_files : (d : ℕ) (at : ℕ × ℕ) (entry : Entry) → ((own : ℕ × Blocks) → Ok own ≡ directory_of (files d) → (x : ℕ × ℕ) (f : Entry) → IsPlace x → entry_at own.1 x ≡ Some f → f.0 ≡ entry.0 → at ≡ x) → AreSingle (with_entry files d at (Some entry))
  put_files d at entry alone =
      value_single files single d (with_entry_in at (Some entry) (files d)) (entry_single (files d) at (Some entry) (λ own e. put_single own.1 at entry (single d own e) (alone own e)))

  -- the second directory is the one that is found
  second_is : (a v w : InodeValue) (found : (ℕ × Blocks) × (ℕ × Blocks)) → Ok w ≡ in_use v → Ok found ≡ directories a w → (own : ℕ × Blocks) → Ok own ≡ directory_of v → own.1 ≡ found.1.1
  second_is a Absent w found u f own is = absurd (cc is)
  second_is a Free w found u f own is = absurd (cc is)
  second_is a Unusable w found u f own is = absurd (cc is)
  second_is a (File links bytes) w found u f own is = absurd (cc is)
  second_is a (Directory links bs) w found u f own is = let same : w ≡ Directory links bs = cc u in third a (f ∙ ap (directories a) same)
    where
      third : (b : InodeValue) → Ok found ≡ directories b (Directory links bs) → own.1 ≡ found.1.1
      third Absent g = absurd (cc g)
      third Free g = absurd (cc g)
      third Unusable g = absurd (cc g)
      third (File l bytes) g = absurd (cc g)
      third (Directory l cs) g =
          let one : own ≡ (links, bs) = cc is in
          let two : found ≡ ((l, cs), (links, bs)) = cc g in
          ap (λ (x : ℕ × Blocks). x.1) one ∙ ap (λ (x : (ℕ × Blocks) × (ℕ × Blocks)). x.1.1) (sym two)

  module _ (d : ℕ) (name : List ℕ) (other : ℕ) (new_name : List ℕ) where
    abbrev if_names : (ℕ × Blocks) × (ℕ × Blocks) → Result ((ℕ × Blocks) × (ℕ × Blocks)) FfsFault
    if_names found = if is_name name && is_name new_name then Ok found else Err BadName

    other_is : (both : (ℕ × Blocks) × (ℕ × Blocks)) → Ok both ≡ both_directories files d name other new_name → (own : ℕ × Blocks) → Ok own ≡ directory_of (files other) → own.1 ≡ both.1.1
    other_is both e own is =
        let a = came (in_use (files d)) (λ from. and_then (in_use (files other)) (λ to. and_then (directories from to) if_names)) both (sym e) in
        let b = came (in_use (files other)) (λ to. and_then (directories a.0 to) if_names) both a.2 in
        let c = came (directories a.0 b.0) if_names both b.2 in
        let same : c.0 ≡ both = ok_pair (if_so (is_name name && is_name new_name) (Ok c.0) BadName both c.2).1 in
        second_is a.0 (files other) b.0 c.0 b.1 c.1 own is ∙ ap (λ (x : (ℕ × Blocks) × (ℕ × Blocks)). x.1.1) same
      where
        ok_pair : {x y : (ℕ × Blocks) × (ℕ × Blocks)} → ◌≡◌ {A = Result ((ℕ × Blocks) × (ℕ × Blocks)) FfsFault} (Ok x) (Ok y) → x ≡ y
        ok_pair e = cc

    abbrev then_moved : (ℕ × Blocks) × (ℕ × Blocks) → (ℕ × ℕ) × ℕ → Answer (Unit {0})
    then_moved both found = if is_some (look_up new_name both.1.1) then Err Exists else and_then (in_use (files found.1)) (moved_in files d found other new_name both.1.1)

    pub renamed_single : (next : Unit {0} × Files) → renamed files d name other new_name ≡ Ok next → AreSingle next.1
    renamed_single next e =
        let p = came (both_directories files d name other new_name) (λ both. and_then (ok_or (look_up name both.0.1) NoEntry) (then_moved both)) next e in
        let f = came (ok_or (look_up name p.0.0.1) NoEntry) (then_moved p.0) next p.2 in
        let x = if_not (is_some (look_up new_name p.0.1.1)) Exists (and_then (in_use (files f.0.1)) (moved_in files d f.0 other new_name p.0.1.1)) next f.2 in
        let i = came (in_use (files f.0.1)) (moved_in files d f.0 other new_name p.0.1.1) next x.1 in
        let a = if_not (is_directory i.0 && not (d == other)) IsDir (if links_of i.0 == 65535 then Err TooLarge else mapped (moved files d f.0 other new_name) (ok_or (room p.0.1.1) TooLarge)) next i.2 in
        let b = if_not (links_of i.0 == 65535) TooLarge (mapped (moved files d f.0 other new_name) (ok_or (room p.0.1.1) TooLarge)) next a.1 in
        let at = came_mapped (ok_or (room p.0.1.1) TooLarge) (moved files d f.0 other new_name) next b.1 in
        let put = put_files other at.0 (new_name, f.0.1) (λ own is y g ry ey same. absurd (none_named p.0.1.1 new_name x.0 y g ry (ap (λ (bs : Blocks). entry_at bs y) (sym (other_is p.0 p.1 own is)) ∙ ey) same)) in
        subst (λ (y : Unit {0} × Files). AreSingle y.1) at.2 (cleared_entry (with_entry files other at.0 (Some (new_name, f.0.1))) put d f.0.0)

    abbrev then_replaced : (ℕ × ℕ) × ℕ → (ℕ × ℕ) × ℕ → Answer (Unit {0})
    then_replaced from to = and_then (file_of (files from.1)) (λ file. and_then (file_of (files to.1)) (λ former. replaced_in files d name from other new_name to))

    replaced_there : (from to : (ℕ × ℕ) × ℕ) (next : Unit {0} × Files) → AreSingle (turned files d name from other new_name to) → replaced_in files d name from other new_name to ≡ Ok next → AreSingle next.1
    replaced_there from to next turns = go (not (from.1 == to.1) && (links_of (files from.1) == 65535)) (is_same d from other to) (from.1 == to.1)
      where
        go : (full same one : Bool) → (if full then Err TooLarge else if same then Ok (tt {0}, files) else if one then Ok (tt {0}, cleared files d from) else Ok (tt {0}, turned files d name from other new_name to)) ≡ Ok next → AreSingle next.1
        go true same one f = absurd (cc f)
        go false true one f = let is : (tt {0}, files) ≡ next = cc f in subst (λ (y : Unit {0} × Files). AreSingle y.1) is single
        go false false true f = let is : (tt {0}, cleared files d from) ≡ next = cc f in subst (λ (y : Unit {0} × Files). AreSingle y.1) is (cleared_single d from)
        go false false false f = let is : (tt {0}, turned files d name from other new_name to) ≡ next = cc f in subst (λ (y : Unit {0} × Files). AreSingle y.1) is turns

    pub replaced_single : (next : Unit {0} × Files) → replaced files d name other new_name ≡ Ok next → AreSingle next.1
    replaced_single next e =
        let p = came (both_directories files d name other new_name) (λ both. and_then (ok_or (look_up name both.0.1) NoEntry) (λ from. and_then (ok_or (look_up new_name both.1.1) NoEntry) (then_replaced from))) next e in
        let f = came (ok_or (look_up name p.0.0.1) NoEntry) (λ from. and_then (ok_or (look_up new_name p.0.1.1) NoEntry) (then_replaced from)) next p.2 in
        let t = came (ok_or (look_up new_name p.0.1.1) NoEntry) (then_replaced f.0) next f.2 in
        let m = came (file_of (files f.0.1)) (λ file. and_then (file_of (files t.0.1)) (λ former. replaced_in files d name f.0 other new_name t.0)) next t.2 in
        let r = came (file_of (files t.0.1)) (λ former. replaced_in files d name f.0 other new_name t.0) next m.2 in
        let stood = found_named p.0.1.1 new_name t.0 (came_some (look_up new_name p.0.1.1) NoEntry t.0 t.1) in
        let put = put_files other t.0.0 (new_name, f.0.1) (λ own is y g ry ey same.
        let there : entry_at own.1 t.0.0 ≡ Some stood.0 = ap (λ (bs : Blocks). entry_at bs t.0.0) (other_is p.0 p.1 own is) ∙ stood.2 in
        single other own is t.0.0 y stood.0 g stood.1 ry there ey (stood.3 ∙ sym same)) in
        let less = lost_link (with_entry (with_entry files other t.0.0 (Some (new_name, f.0.1))) d f.0.0 None) (cleared_entry (with_entry files other t.0.0 (Some (new_name, f.0.1))) put d f.0.0) t.0.1 in
        replaced_there f.0 t.0 next less r.2
