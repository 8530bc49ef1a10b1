-- An entry of a directory goes to another inode: what is listed then, and what else is as before.
use Rattle.std.proofs.Common.{◌≡◌, ℕ, ◌+◌, ◌*◌, ◌^◌, ◌<◌, ◌≤◌, ◌≢◌, ◌⊎◌, Bool, true, false, List, [], ◌∷◌, ◌++◌, map, length, take, drop, get_or, Option, Some, None, Ok, refl, sym, ◌∙◌, ap, inl, inr, arith, eq-eqb, ◌==◌, ◌&&◌, min, filter_map, flat_map, option_map, if◌then◌else◌, w16, ne_eqb}
use Rattle.ffs_lib.proofs.Common.{IsConsistent, IsLibrary, IsSlot, Slot, StoreState, Types, Under, cases_eq, cases_lt, cons_option, from_le_bytes-to_le_bytes_2}
use Rattle.ffs_lib.proofs.Common.{half_at, inode_blocks, latest, library_layout, listing, map-append, name_in, propose_of, put, range_with_len, to_le_bytes}
use Rattle.ffs_model.proofs.ForCallers.{bytes_apart, direct_where, half_apart, half_within, library_reads, proposed_here, proposed_others, under_direct}
use Rattle.ffs_lib.specs.Edits.{edit_at}
use Rattle.ffs_lib.specs.Replacing.{Turned, turned_entry}
use Rattle.ffs_lib.proofs.Tests.{and_false}
use Rattle.ffs_lib.proofs.Frames.{byte_apart, listed_at, listed_blocks, listed_in}
use Rattle.ffs_lib.proofs.Owners.{direct_block, stands_from}
use Rattle.ffs_lib.proofs.Same.{data_touched, edited, inodes_same}

-- the two bytes of a number
pub number_long : (n : ℕ) → length (to_le_bytes w16 n) ≡ 2
number_long n = refl

pub number_half : (n : ℕ) → n < 2 ^ 16 → half_at (to_le_bytes w16 n) 0 ≡ n
unfolding half_at
number_half n few = from_le_bytes-to_le_bytes_2 n few

-- Bytes of a block beside them, at a place of an entry

module _ (m : List ℕ) (long : length m ≡ 512) (p : ℕ) (few : p < 16) (bs : List ℕ) (two : length bs ≡ 2) where
  fits : 32 * p + length bs ≤ length m
  fits = omega arith

  beside : (q j n : ℕ) → 32 * q + 2 ≤ j → j + n ≤ 32 * q + 32 → (j + n ≤ 32 * p) ⊎ (32 * p + length bs ≤ j)
  beside q j n low high = elim (cases_lt q p) [ inl lt ↦ inl (omega arith) | inr ge ↦ inr (omega arith) ]

  half_here : half_at (put m (32 * p) bs) (32 * p) ≡ half_at bs 0
  half_here = half_within m (32 * p) bs fits (32 * p) 0 (omega arith) (omega arith)

  half_other : (q : ℕ) → q ≢ p → half_at (put m (32 * p) bs) (32 * q) ≡ half_at m (32 * q)
  half_other q ne = half_apart m (32 * p) bs fits (32 * q) (far (cases_lt q p))
    where
      far : (q < p) ⊎ (p ≤ q) → (32 * q + 2 ≤ 32 * p) ⊎ (32 * p + length bs ≤ 32 * q)
      far (inl lt) = inl (omega arith)
      far (inr ge) = inr (omega arith)

  name_stays : (q : ℕ) → name_in (put m (32 * p) bs) (32 * q) ≡ name_in m (32 * q)
  name_stays q =
      let k = min (get_or m (32 * q + 2) 0) 28 in
      ap (λ n. take (min n 28) (drop (32 * q + 4) (put m (32 * p) bs))) (byte_apart m (32 * p) bs fits (32 * q + 2) (beside q (32 * q + 2) 1 (omega arith) (omega arith)))
      ∙ bytes_apart m (32 * p) bs fits k (32 * q + 4) (beside q (32 * q + 4) k (omega arith) (omega arith))

-- Listings

filter_map-after : {A B : Type 0} (f : B → B) (g h : A → Option B) → ((x : A) → g x ≡ option_map f (h x)) → (xs : List A) → filter_map g xs ≡ map f (filter_map h xs)
filter_map-after f g h e [] = refl
filter_map-after {A} {B} f g h e (x ∷ xs) = ap (λ o. cons_option o (filter_map g xs)) (e x) ∙ (ap (cons_option (option_map f (h x))) (filter_map-after f g h e xs) ∙ one (h x))
  where
    one : (o : Option B) → cons_option (option_map f o) (map f (filter_map h xs)) ≡ map f (cons_option o (filter_map h xs))
    one None = refl
    one (Some y) = refl

module _ (entry : Slot) (n : ℕ) where
  unmoved : (b x : ℕ) (m : List ℕ) → (b ≡ entry.block → x ≡ entry.place → ⊥) → listed_at b m x ≡ option_map (turned_entry entry n) (listed_at b m x)
  unmoved b x m apart = go (half_at m (32 * x) == 0)
    where
      other : (b == entry.block) && (x == entry.place) ≡ false
      other = elim (cases_eq b entry.block) [
        | inr ne ↦ ap (λ t. t && (x == entry.place)) (ne_eqb b entry.block ne)
        | inl e ↦ ap (λ t. (b == entry.block) && t) (ne_eqb x entry.place (apart e)) ∙ and_false (b == entry.block)
      ]

      go : (t : Bool) → (if t then None else Some (record { block = b; place = x; inode = half_at m (32 * x) }, name_in m (32 * x)))
          ≡ option_map (turned_entry entry n) (if t then None else Some (record { block = b; place = x; inode = half_at m (32 * x) }, name_in m (32 * x)))
      go true = refl
      go false = ap (λ t. Some (if t then (record { block = b; place = x; inode = n }, name_in m (32 * x)) else (record { block = b; place = x; inode = half_at m (32 * x) }, name_in m (32 * x)))) (sym other)

  abbrev turn : Slot × List ℕ → Slot × List ℕ
  turn = turned_entry entry n

  module _ (m : List ℕ) (long : length m ≡ 512) (few : entry.place < 16) (used : half_at m (32 * entry.place) ≢ 0) (bs : List ℕ) (two : length bs ≡ 2) (is : half_at bs 0 ≡ n) (some : n ≢ 0) where
    abbrev written : List ℕ
    written = put m (32 * entry.place) bs

    here : (b x : ℕ) → b ≡ entry.block → x ≡ entry.place → listed_at b written x ≡ option_map turn (listed_at b m x)
    here b x e f =
        let half : half_at written (32 * x) ≡ n = ap (λ q. half_at written (32 * q)) f ∙ (half_here m long entry.place few bs two ∙ is) in
        let was : half_at m (32 * x) ≢ 0 = λ z. used (ap (λ q. half_at m (32 * q)) (sym f) ∙ z) in
        let at : (b == entry.block) && (x == entry.place) ≡ true = ap (λ t. t && (x == entry.place)) (eq-eqb b entry.block e) ∙ eq-eqb x entry.place f in
        ap (λ h. if h == 0 then None else Some (record { block = b; place = x; inode = h }, name_in written (32 * x))) half
        ∙ (ap (λ t. if t then None else Some (record { block = b; place = x; inode = n }, name_in written (32 * x))) (ne_eqb n 0 some)
        ∙ (ap (λ name. Some (record { block = b; place = x; inode = n }, name)) (name_stays m long entry.place few bs two x)
        ∙ (ap (λ t. Some (if t then (record { block = b; place = x; inode = n }, name_in m (32 * x)) else (record { block = b; place = x; inode = half_at m (32 * x) }, name_in m (32 * x)))) (sym at)
        ∙ ap (λ t. option_map turn (if t then None else Some (record { block = b; place = x; inode = half_at m (32 * x) }, name_in m (32 * x)))) (sym (ne_eqb (half_at m (32 * x)) 0 was)))))

    beside_it : (b x : ℕ) → x ≢ entry.place → listed_at b written x ≡ listed_at b m x
    beside_it b x ne =
        ap (λ h. if h == 0 then None else Some (record { block = b; place = x; inode = h }, name_in written (32 * x))) (half_other m long entry.place few bs two x ne)
        ∙ ap (λ name. if half_at m (32 * x) == 0 then None else Some (record { block = b; place = x; inode = half_at m (32 * x) }, name)) (name_stays m long entry.place few bs two x)

    in_block : (b : ℕ) → b ≡ entry.block → (x : ℕ) → listed_at b written x ≡ option_map turn (listed_at b m x)
    in_block b e x = elim (cases_eq x entry.place) [ inl f ↦ here b x e f | inr ne ↦ beside_it b x ne ∙ unmoved b x m (λ s f. ne f) ]

  -- of all blocks
  module _ (v w : ℕ → List ℕ) (long : length (v entry.block) ≡ 512) (few : entry.place < 16) (used : half_at (v entry.block) (32 * entry.place) ≢ 0) (bs : List ℕ) (two : length bs ≡ 2) (is : half_at bs 0 ≡ n) (some : n ≢ 0)
      (at : w entry.block ≡ put (v entry.block) (32 * entry.place) bs) (others : (c : ℕ) → c ≢ entry.block → w c ≡ v c) where
    one : (b : ℕ) → listed_in w b ≡ map turn (listed_in v b)
    one b = elim (cases_eq b entry.block) [
      | inl e ↦ ap (λ m. filter_map (listed_at b m) (range_with_len 0 16)) (ap w e ∙ at)
          ∙ (filter_map-after turn (listed_at b (written (v entry.block) long few used bs two is some)) (listed_at b (v entry.block)) (in_block (v entry.block) long few used bs two is some b e) (range_with_len 0 16)
          ∙ ap (λ c. map turn (filter_map (listed_at b (v c)) (range_with_len 0 16))) (sym e))
      | inr ne ↦ ap (λ m. filter_map (listed_at b m) (range_with_len 0 16)) (others b ne)
          ∙ filter_map-after turn (listed_at b (v b)) (listed_at b (v b)) (λ x. unmoved b x (v b) (λ e f. ne e)) (range_with_len 0 16)
    ]

    all : (bs : List ℕ) → flat_map (listed_in w) bs ≡ map turn (flat_map (listed_in v) bs)
    all [] = refl
    all (b ∷ bs) = ap (λ xs. xs ++ flat_map (listed_in w) bs) (one b) ∙ (ap (λ xs. map turn (listed_in v b) ++ xs) (all bs) ∙ sym (map-append turn (listed_in v b) (flat_map (listed_in v) bs)))

    pub listing_turned : (inode : List ℕ) → listing w inode ≡ map turn (listing v inode)
    listing_turned inode = listed_blocks w (inode_blocks inode) ∙ (all (inode_blocks inode) ∙ ap (map turn) (sym (listed_blocks v (inode_blocks inode))))

-- After the edit

pub name_turned : (T : Types) (lib : IsLibrary T) (state new : StoreState) (h : IsConsistent T state) (fs : ℕ) (few : fs < 32) (slot : Slot) → IsSlot state fs slot → (half_at (latest state.lives slot.block) (32 * slot.place) ≡ slot.inode) →
    (n : ℕ) → n < 2 ^ 16 → n ≢ 0 → (after : Option ℕ) (entry : ℕ) → propose_of T state fs slot.block (edit_at (32 * slot.place) (to_le_bytes w16 n) [] [] after) ≡ Ok (entry, new) → Turned (latest state.lives) (latest new.lives) fs slot n
name_turned T lib state new h fs few slot is names n small some after entry done =
    let edit = edit_at (32 * slot.place) (to_le_bytes w16 n) [] [] after in
    let v = latest state.lives in
    let w = latest new.lives in
    let named = is.names in
    let at : Under T v fs slot.block 2 = under_direct T library_layout (library_reads T lib) v fs named.index named.block named.place slot.block named.inodes named.has in
    let t = edited T state new h fs few slot.block 2 edit entry done at in
    record {
      inodes = inodes_same T lib v w fs slot.block 2 t (λ z. omega (arith, z)) (λ z. omega (arith, z));
      entries = listing_turned slot n v w is.long is.few (λ z. is.some (sym names ∙ z)) (to_le_bytes w16 n) (number_long n) (number_half n small) some
          (proposed_here T state new h fs slot.block edit entry done) (proposed_others T state new h fs slot.block edit entry done);
      others = λ d own e has x ne.
          let y = direct_where own slot.block has in
          data_touched T lib state h fs few w slot.block 2 t refl d own (stands_from v fs d own e) y.0 (omega (arith, y.1)) (direct_block v own y.0 y.1 ∙ y.2) y.3 x ne;
    }
