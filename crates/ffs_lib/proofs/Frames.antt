-- What an edit leaves of the directories that it does not touch, and what it takes from the one that it does.
use Rattle.std.proofs.Common.{◌≡◌, ℕ, ◌+◌, ◌*◌, ◌<◌, ◌≤◌, ◌≢◌, ◌⊎◌, Bool, true, false, cond, List, [], ◌∷◌, ◌++◌, map, length, take, drop, replicate, get_or, Option, Some, None, Ok, refl, sym, ◌∙◌, ap, inl, inr, arith, eq-eqb, get_or-take, get_or-drop, Contains, ◌==◌, ◌&&◌, not, min, filter, filter_map, flat_map, if◌then◌else◌, ne_eqb}
use Rattle.ffs_lib.proofs.Common.{Edit, IsConsistent, IsLibrary, Slot, StoreState, Types, Under, cases_eq, cases_lt, cons_option, filter-append, half_at}
use Rattle.ffs_lib.proofs.Common.{inode_blocks, latest, map-append, name_in, propose_of, put, range_with_len}
use Rattle.xn_model.proofs.ForCallers.{Contains-head, Contains-tail}
use Rattle.ffs_model.proofs.ForCallers.{bytes_apart, bytes_within, half_apart, half_within, proposed_others}
use Rattle.ffs_lookup.specs.Newest.{slots_in_block, entry_at, is_at, listing, name_at, used_entry, without_entry}

-- Bytes written at a place, and those apart from it

module _ (m : List ℕ) (at : ℕ) (bs : List ℕ) (within : at + length bs ≤ length m) where
  pub byte_apart : (j : ℕ) → (j + 1 ≤ at) ⊎ (at + length bs ≤ j) → get_or (put m at bs) j 0 ≡ get_or m j 0
  byte_apart j h =
      let z : j + 0 ≡ j = omega arith in
      let one = λ (xs : List ℕ). get_or-take 1 (drop j xs) 0 0 (omega arith) ∙ (get_or-drop j xs 0 0 ∙ ap (λ k. get_or xs k 0) z) in
      sym (one (put m at bs)) ∙ (ap (λ xs. get_or xs 0 0) (bytes_apart m at bs within 1 j h) ∙ one m)

  -- a byte of what is written
  pub byte_within : (j : ℕ) → j < length bs → get_or (put m at bs) (at + j) 0 ≡ get_or bs j 0
  byte_within j low =
      let z : at + j + 0 ≡ at + j = omega arith in
      let y : j + 0 ≡ j = omega arith in
      let one = λ (xs : List ℕ) (k : ℕ). get_or-take 1 (drop k xs) 0 0 (omega arith) ∙ get_or-drop k xs 0 0 in
      ap (λ k. get_or (put m at bs) k 0) (sym z)
      ∙ (sym (one (put m at bs) (at + j)) ∙ (ap (λ xs. get_or xs 0 0) (bytes_within m at bs within 1 j (omega (arith, low))) ∙ (one bs j ∙ ap (λ k. get_or bs k 0) y)))

-- Entries that another one is written beside

module _ (m : List ℕ) (long : length m ≡ 512) (p : ℕ) (few : p < 16) (bs : List ℕ) (whole : length bs ≡ 32) (q : ℕ) (ne : q ≢ p) where
  within : 32 * p + length bs ≤ length m
  within = omega arith

  apart : (j n : ℕ) → 32 * q ≤ j → j + n ≤ 32 * q + 32 → (j + n ≤ 32 * p) ⊎ (32 * p + length bs ≤ j)
  apart j n low high = elim (cases_lt q p) [ inl lt ↦ inl (omega arith) | inr ge ↦ inr (omega arith) ]

  pub half_stays : half_at (put m (32 * p) bs) (32 * q) ≡ half_at m (32 * q)
  half_stays = half_apart m (32 * p) bs within (32 * q) (apart (32 * q) 2 (omega arith) (omega arith))

  pub name_stays : name_in (put m (32 * p) bs) (32 * q) ≡ name_in m (32 * q)
  name_stays =
      let k = min (get_or m (32 * q + 2) 0) 28 in
      ap (λ n. take (min n 28) (drop (32 * q + 4) (put m (32 * p) bs))) (byte_apart m (32 * p) bs within (32 * q + 2) (apart (32 * q + 2) 1 (omega arith) (omega arith)))
      ∙ bytes_apart m (32 * p) bs within k (32 * q + 4) (apart (32 * q + 4) k (omega arith) (omega arith))

-- Listings, block by block

abbrev pub listed_at : ℕ → List ℕ → ℕ → Option (Slot × List ℕ)
listed_at b m place = if half_at m (32 * place) == 0 then None else Some (record { block = b; place = place; inode = half_at m (32 * place) }, name_in m (32 * place))

abbrev pub listed_in : (ℕ → List ℕ) → ℕ → List (Slot × List ℕ)
listed_in content b = filter_map (listed_at b (content b)) (range_with_len 0 16)

listed_step : (content : ℕ → List ℕ) (b x : ℕ) (rest : List Slot) (empty : Bool) →
    map {B = Slot × List ℕ} (λ (e : Slot). (e, name_at content e)) (cons_option (if empty then None else Some (entry_at content b x)) rest)
    ≡ cons_option (if empty then None else Some (entry_at content b x, name_in (content b) (32 * x))) (map {B = Slot × List ℕ} (λ (e : Slot). (e, name_at content e)) rest)
listed_step content b x rest true = refl
listed_step content b x rest false = refl

listed_places : (content : ℕ → List ℕ) (b : ℕ) (xs : List ℕ) →
    map {B = Slot × List ℕ} (λ (e : Slot). (e, name_at content e)) (filter_map (λ place. used_entry (entry_at content b place)) xs) ≡ filter_map (listed_at b (content b)) xs
listed_places content b [] = refl
listed_places content b (x ∷ xs) =
    listed_step content b x (filter_map (λ place. used_entry (entry_at content b place)) xs) (half_at (content b) (32 * x) == 0) ∙ ap (cons_option (listed_at b (content b) x)) (listed_places content b xs)

pub listed_blocks : (content : ℕ → List ℕ) (bs : List ℕ) → map {B = Slot × List ℕ} (λ (e : Slot). (e, name_at content e)) (flat_map (slots_in_block content) bs) ≡ flat_map (listed_in content) bs
listed_blocks content [] = refl
listed_blocks content (b ∷ bs) =
    map-append (λ (e : Slot). (e, name_at content e)) (slots_in_block content b) (flat_map (slots_in_block content) bs)
    ∙ (ap (λ xs. xs ++ map {B = Slot × List ℕ} (λ (e : Slot). (e, name_at content e)) (flat_map (slots_in_block content) bs)) (listed_places content b (range_with_len 0 16))
    ∙ ap (λ xs. listed_in content b ++ xs) (listed_blocks content bs))

pub same_listed : (v w : ℕ → List ℕ) (bs : List ℕ) → ((b : ℕ) → Contains bs b → v b ≡ w b) → flat_map (listed_in v) bs ≡ flat_map (listed_in w) bs
same_listed v w [] h = refl
same_listed v w (b ∷ bs) h =
    ap (λ m. filter_map (listed_at b m) (range_with_len 0 16) ++ flat_map (listed_in v) bs) (h b (Contains-head b bs)) ∙ ap (λ xs. listed_in w b ++ xs) (same_listed v w bs (λ c i. h c (Contains-tail b bs c i)))

-- where the blocks of a directory stay, so does its listing
pub listing_same : (v w : ℕ → List ℕ) (inode : List ℕ) → ((b : ℕ) → Contains (inode_blocks inode) b → v b ≡ w b) → listing v inode ≡ listing w inode
listing_same v w inode h = listed_blocks v (inode_blocks inode) ∙ (same_listed v w (inode_blocks inode) h ∙ sym (listed_blocks w (inode_blocks inode)))

-- An entry is cleared

kept_step : {A : Type 0} (keep : A → Bool) (empty : Bool) (a : A) (rest : List A) → keep a ≡ true → filter keep (cons_option (if empty then None else Some a) rest) ≡ cons_option (if empty then None else Some a) (filter keep rest)
kept_step keep true a rest e = refl
kept_step keep false a rest e = ap (λ t. cond t (a ∷ filter keep rest) (filter keep rest)) e

gone_step : {A : Type 0} (keep : A → Bool) (empty : Bool) (a : A) (rest : List A) → keep a ≡ false → filter keep (cons_option (if empty then None else Some a) rest) ≡ filter keep rest
gone_step keep true a rest e = refl
gone_step keep false a rest e = ap (λ t. cond t (a ∷ filter keep rest) (filter keep rest)) e

module _ (entry : Slot) where
  abbrev keep : Slot × List ℕ → Bool
  keep p = not (is_at entry p.0)

  other_block : (b : ℕ) (m : List ℕ) → b ≢ entry.block → (xs : List ℕ) → filter_map (listed_at b m) xs ≡ filter keep (filter_map (listed_at b m) xs)
  other_block b m ne [] = refl
  other_block b m ne (x ∷ xs) = sym (
      kept_step keep (half_at m (32 * x) == 0) (record { block = b; place = x; inode = half_at m (32 * x) }, name_in m (32 * x)) (filter_map (listed_at b m) xs)
      (ap (λ t. not (t && (x == entry.place))) (ne_eqb b entry.block ne)) ∙ ap (cons_option (listed_at b m x)) (sym (other_block b m ne xs))
      )

  module _ (m : List ℕ) (long : length m ≡ 512) (few : entry.place < 16) where
    abbrev cleared_bytes : List ℕ
    cleared_bytes = put m (32 * entry.place) (replicate 32 0)

    cleared_half : half_at cleared_bytes (32 * entry.place) ≡ 0
    unfolding half_at
    cleared_half =
        let fit : 32 * entry.place + 32 ≤ length m = omega arith in
        let e : 32 * entry.place ≡ 32 * entry.place + 0 = omega arith in
        half_within m (32 * entry.place) (replicate 32 0) fit (32 * entry.place) 0 e (omega arith)

    stays_at : (b x : ℕ) → x ≢ entry.place → listed_at b cleared_bytes x ≡ listed_at b m x
    stays_at b x ne =
        ap (λ h. if h == 0 then None else Some (record { block = b; place = x; inode = h }, name_in cleared_bytes (32 * x))) (half_stays m long entry.place few (replicate 32 0) refl x ne)
        ∙ ap (λ n. if half_at m (32 * x) == 0 then None else Some (record { block = b; place = x; inode = half_at m (32 * x) }, n)) (name_stays m long entry.place few (replicate 32 0) refl x ne)

    gone_at : (b x : ℕ) → x ≡ entry.place → listed_at b cleared_bytes x ≡ None
    gone_at b x e =
        ap (λ t. if t then None else Some (record { block = b; place = x; inode = half_at cleared_bytes (32 * x) }, name_in cleared_bytes (32 * x)))
        (eq-eqb (half_at cleared_bytes (32 * x)) 0 (ap (λ k. half_at cleared_bytes (32 * k)) e ∙ cleared_half))

    same_block : (b : ℕ) → b ≡ entry.block → (xs : List ℕ) → filter_map (listed_at b cleared_bytes) xs ≡ filter keep (filter_map (listed_at b m) xs)
    same_block b is [] = refl
    same_block b is (x ∷ xs) = elim (cases_eq x entry.place) [
      | inl e ↦ ap (λ o. cons_option o (filter_map (listed_at b cleared_bytes) xs)) (gone_at b x e)
          ∙ (same_block b is xs
          ∙ sym (gone_step keep (half_at m (32 * x) == 0) (record { block = b; place = x; inode = half_at m (32 * x) }, name_in m (32 * x)) (filter_map (listed_at b m) xs)
          (ap (λ t. not (t && (x == entry.place))) (eq-eqb b entry.block is) ∙ ap not (eq-eqb x entry.place e))))
      | inr ne ↦ ap (λ o. cons_option o (filter_map (listed_at b cleared_bytes) xs)) (stays_at b x ne)
          ∙ (ap (cons_option (listed_at b m x)) (same_block b is xs)
          ∙ sym (kept_step keep (half_at m (32 * x) == 0) (record { block = b; place = x; inode = half_at m (32 * x) }, name_in m (32 * x)) (filter_map (listed_at b m) xs)
          (ap (λ t. not (t && (x == entry.place))) (eq-eqb b entry.block is) ∙ ap not (ne_eqb x entry.place ne))))
    ]

  -- of all blocks
  module _ (v w : ℕ → List ℕ) (long : length (v entry.block) ≡ 512) (few : entry.place < 16) (here : w entry.block ≡ put (v entry.block) (32 * entry.place) (replicate 32 0)) (others : (c : ℕ) → c ≢ entry.block → w c ≡ v c) where
    one : (b : ℕ) → listed_in w b ≡ filter keep (listed_in v b)
    one b = elim (cases_eq b entry.block) [
      | inl e ↦ ap (λ m. filter_map (listed_at b m) (range_with_len 0 16)) (ap w e ∙ here)
          ∙ (same_block (v entry.block) long few b e (range_with_len 0 16) ∙ ap (λ c. filter keep (filter_map (listed_at b (v c)) (range_with_len 0 16))) (sym e))
      | inr ne ↦ ap (λ m. filter_map (listed_at b m) (range_with_len 0 16)) (others b ne) ∙ other_block b (v b) ne (range_with_len 0 16)
    ]

    all : (bs : List ℕ) → flat_map (listed_in w) bs ≡ filter keep (flat_map (listed_in v) bs)
    all [] = refl
    all (b ∷ bs) =
        ap (λ xs. xs ++ flat_map (listed_in w) bs) (one b) ∙ (ap (λ xs. filter keep (listed_in v b) ++ xs) (all bs) ∙ sym (filter-append keep (listed_in v b) (flat_map (listed_in v) bs)))

    pub listing_without : (inode : List ℕ) → listing w inode ≡ without_entry entry (listing v inode)
    listing_without inode = listed_blocks w (inode_blocks inode) ∙ (all (inode_blocks inode) ∙ ap (filter keep) (sym (listed_blocks v (inode_blocks inode))))

-- After an edit of a block of a file system
module _ (T : Types) (lib : IsLibrary T) (state new : StoreState) (h : IsConsistent T state) (fs : ℕ) (few : fs < 32) (block ty : ℕ) (edit : Edit) (entry : ℕ) (done : propose_of T state fs block edit ≡ Ok (entry, new))
    (at : Under T (latest state.lives) fs block ty) where
  kept : (c : ℕ) → c ≢ block → latest new.lives c ≡ latest state.lives c
  kept = proposed_others T state new h fs block edit entry done
