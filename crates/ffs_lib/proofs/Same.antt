-- What a change of one block leaves of the inodes that it does not touch.
use Rattle.std.proofs.Common.{◌≡◌, ◌≢◌, ℕ, ◌+◌, ◌-◌, ◌*◌, ◌/◌, ◌%◌, ◌^◌, ◌<◌, ◌≤◌, ◌⊎◌, Bool, true, false, List, [], ◌∷◌, length, get_or, replicate, None, Ok, Err, refl, sym, ◌∙◌, ap, inl, inr, arith, subst, eq-eqb, Contains, Result, ◌==◌, ◌||◌, nat_lt, if◌then◌else◌, w32}
use Rattle.ffs_lib.proofs.Common.{Edit, FfsFault, IsConsistent, IsInodes, IsLibrary, IsPlace, IsRoot, Life, NoEntry, Reads, StoreState, Types, Under, and_then}
use Rattle.ffs_lib.proofs.Common.{byte_in, cases_eq, cases_lt, direct_in, file_block, from_le_bytes-to_le_bytes_4, init_of, inode_at, inode_block_in, inode_in}
use Rattle.ffs_lib.proofs.Common.{inode_mode, latest, library_layout, life_at, none-some, place_in, pointer_word, propose_of, put, root, root_in, root_of_type}
use Rattle.ffs_lib.proofs.Common.{same_Some, slot, step, to_le_bytes, unless_unused, unless_zero, word_at}
use Rattle.ffs_model.proofs.ForCallers.{bytes_apart, direct_where, latest_reached, library_reads, one_type, proposed_here, proposed_others, started, started_others, under_inodes, word_apart, word_within}
use Rattle.ffs_lib.specs.Results.{SameContents, SameInode, SameOrNew, SamePlace, SameUse}
use Rattle.ffs_lib.specs.Edits.{edit_at}
use Rattle.ffs_lib.proofs.Tests.{never}
use Rattle.ffs_lib.proofs.Edited.{same_root}
use Rattle.ffs_lookup.proofs.ForCallers.{in_root_block, not_zero, root_again, unused_is, zero_is}
use Rattle.ffs_lib.proofs.Listed.{fits_newest}
use Rattle.ffs_lib.proofs.Frames.{listing_same}
use Rattle.ffs_lib.proofs.Owners.{Stands, block_at, block_from, direct_block, number_from, pointers_apart, pointers_at, root_from, stands_from, two_blocks, two_pointers}

-- Among what is reached only a block of one type changes.
pub record Touches (T : Types) (v w : ℕ → List ℕ) (fs block ty : ℕ) : Type 0 where
  pub top : w 0 ≡ v 0
  pub others : (c u : ℕ) → Under T v fs c u → c ≢ block → w c ≡ v c
  pub apart : (c u : ℕ) → Under T v fs c u → u ≢ ty → c ≢ block

module _ (T : Types) (state new : StoreState) (h : IsConsistent T state) (fs : ℕ) (few : fs < 32) where
  pub edited : (block ty : ℕ) (edit : Edit) (entry : ℕ) → propose_of T state fs block edit ≡ Ok (entry, new) → Under T (latest state.lives) fs block ty → Touches T (latest state.lives) (latest new.lives) fs block ty
  edited block ty edit entry done at =
      let others = proposed_others T state new h fs block edit entry done in
      let x = latest_reached T state h fs few block ty at in
      let zeroth = h.lives_sound.root in
      record {
        top = others 0 (λ e.
            let same : zeroth.life ≡ x.life = same_Some zeroth.life x.life (sym zeroth.alive ∙ (ap (life_at state.lives) e ∙ x.alive)) in
            none-some fs (sym zeroth.nobody ∙ (ap (λ (l : Life). l.fs) same ∙ x.system)));
        others = λ c u r ne. others c ne;
        apart = λ c u r ne e. ne (one_type T state h fs c u ty few r (subst (λ b. Under T (latest state.lives) fs b ty) (sym e) at));
      }

  pub begun : (ty kind : ℕ) (bytes : List ℕ) (made : ℕ × ℕ) → init_of T state fs ty bytes ≡ Ok (made, new) → Touches T (latest state.lives) (latest new.lives) fs made.0 kind
  begun ty kind bytes made done =
      let r = started T state new fs ty bytes made done in
      let others = started_others T state new fs ty bytes made done in
      record {
        top = others 0 (λ e. none-some h.lives_sound.root.life (sym r.free ∙ (ap (life_at state.lives) (sym e) ∙ h.lives_sound.root.alive)));
        others = λ c u at ne. others c ne;
        apart = λ c u at ne e.
            let x = latest_reached T state h fs few c u at in
            none-some x.life (sym r.free ∙ (ap (life_at state.lives) (sym e) ∙ x.alive));
      }

-- an inode is read from its block
inode_by : (v w : ℕ → List ℕ) (fs d : ℕ) → (d ≢ 0 → d ≤ 128 → and_then (inode_block_in w fs ((d - 1) / 8)) (λ b. unless_unused (inode_at (w b) ((d - 1) % 8))) ≡ and_then (inode_block_in v fs ((d - 1) / 8)) (λ b. unless_unused (inode_at (v b) ((d - 1) % 8)))) →
    inode_in w fs d ≡ inode_in v fs d
unfolding inode_in
inode_by v w fs d same = numbered ((d == 0) || nat_lt 128 d) refl
  where
    numbered : (s : Bool) → ((d == 0) || nat_lt 128 d) ≡ s →
        (if s then Err NoEntry else and_then (inode_block_in w fs ((d - 1) / 8)) (λ b. unless_unused (inode_at (w b) ((d - 1) % 8))))
        ≡ (if s then Err NoEntry else and_then (inode_block_in v fs ((d - 1) / 8)) (λ b. unless_unused (inode_at (v b) ((d - 1) % 8))))
    numbered true e = refl
    numbered false e = let n = number_from d e in same n.0 n.1

module _ (T : Types) (lib : IsLibrary T) (v w : ℕ → List ℕ) (fs block ty : ℕ) (t : Touches T v w fs block ty) where
  pub root_same : root_in w fs ≡ root_in v fs
  unfolding root_in
  root_same = ap (λ m. root_of_type (slot m fs)) t.top

  pub root_bytes : ty ≢ 3 → (r : ℕ) → Ok r ≡ root_in v fs → w r ≡ v r
  root_bytes not r e = let is = root_from v fs r e in let at = root is.at is.there in t.others r 3 at (t.apart r 3 at (λ z. not (sym z)))

  pub block_same : ty ≢ 3 → (j : ℕ) → inode_block_in w fs j ≡ inode_block_in v fs j
  unfolding inode_block_in
  block_same not j =
      ap (λ (r : Result ℕ FfsFault). and_then r (λ root. unless_zero (pointer_word (w root) j))) root_same
      ∙ go (root_in v fs) refl
    where
      go : (r : Result ℕ FfsFault) → r ≡ root_in v fs → and_then r (λ root. unless_zero (pointer_word (w root) j)) ≡ and_then r (λ root. unless_zero (pointer_word (v root) j))
      go (Err fault) e = refl
      go (Ok r) e = ap (λ m. unless_zero (pointer_word m j)) (root_bytes not r e)

  -- an inode whose bytes stay
  pub inode_same : ty ≢ 3 → (d : ℕ) → ((b : ℕ) → d ≢ 0 → d ≤ 128 → IsInodes library_layout v fs ((d - 1) / 8) b → inode_at (w b) ((d - 1) % 8) ≡ inode_at (v b) ((d - 1) % 8)) → inode_in w fs d ≡ inode_in v fs d
  inode_same not d stays =
      inode_by v w fs d (λ some low. ap (λ (r : Result ℕ FfsFault). and_then r (λ b. unless_unused (inode_at (w b) ((d - 1) % 8)))) (block_same not ((d - 1) / 8)) ∙ go some low (inode_block_in v fs ((d - 1) / 8)) refl)
    where
      go : d ≢ 0 → d ≤ 128 → (r : Result ℕ FfsFault) → r ≡ inode_block_in v fs ((d - 1) / 8) →
          and_then r (λ b. unless_unused (inode_at (w b) ((d - 1) % 8))) ≡ and_then r (λ b. unless_unused (inode_at (v b) ((d - 1) % 8)))
      go some low (Err fault) e = refl
      go some low (Ok b) e = ap unless_unused (stays b some low (block_from v fs ((d - 1) / 8) b (omega (arith, low)) e))

  -- no block of inodes changes
  pub inodes_same : ty ≢ 3 → ty ≢ 4 → (d : ℕ) → inode_in w fs d ≡ inode_in v fs d
  inodes_same not other d = inode_same not d (λ b some low is.
      let at = under_inodes T library_layout (library_reads T lib) v fs ((d - 1) / 8) b is in
      ap (λ m. inode_at m ((d - 1) % 8)) (t.others b 4 at (t.apart b 4 at (λ z. other (sym z)))))

  -- a place whose bytes stay
  pub place_same : ty ≢ 3 → (d : ℕ) → d ≤ 128 → ((b : ℕ) → IsInodes library_layout v fs ((d - 1) / 8) b → inode_at (w b) ((d - 1) % 8) ≡ inode_at (v b) ((d - 1) % 8)) → place_in w fs d ≡ place_in v fs d
  place_same not d low stays =
      ap (λ (r : Result ℕ FfsFault). and_then r (λ b. Ok (inode_at (w b) ((d - 1) % 8)))) (block_same not ((d - 1) / 8)) ∙ go (inode_block_in v fs ((d - 1) / 8)) refl
    where
      go : (r : Result ℕ FfsFault) → r ≡ inode_block_in v fs ((d - 1) / 8) → and_then r (λ b. Ok (inode_at (w b) ((d - 1) % 8))) ≡ and_then r (λ b. Ok (inode_at (v b) ((d - 1) % 8)))
      go (Err fault) e = refl
      go (Ok b) e = ap (λ (m : List ℕ). Ok m) (stays b (block_from v fs ((d - 1) / 8) b (omega (arith, low)) e))

  pub places_same : ty ≢ 3 → ty ≢ 4 → (d : ℕ) → SamePlace v w fs d
  places_same not other d some low = place_same not d low (λ b is.
      let at = under_inodes T library_layout (library_reads T lib) v fs ((d - 1) / 8) b is in
      ap (λ m. inode_at m ((d - 1) % 8)) (t.others b 4 at (t.apart b 4 at (λ z. other (sym z)))))

-- what is reached after a new block was begun was so before
pub reached_before : (T : Types) (v w : ℕ → List ℕ) (fs block ty : ℕ) → Touches T v w fs block ty → ((c u : ℕ) → Under T v fs c u → c ≢ block) → (c u : ℕ) → Under T w fs c u → Under T v fs c u
reached_before T v w fs block ty t apart c u (root e ne) = root (ap (λ m. slot m fs) (sym t.top) ∙ e) ne
reached_before T v w fs block ty t apart c u (step {b = b} {t = k} r i) =
    let before = reached_before T v w fs block ty t apart b k r in
    step before (subst (λ m. Contains (T.owned k m) (c, u)) (t.others b k before (apart b k before)) i)

-- where the block of pointers stays, so do the blocks of a file
pub file_block_by : (v w : ℕ → List ℕ) (inode : List ℕ) → (word_at inode 56 ≢ 0 → w (word_at inode 56) ≡ v (word_at inode 56)) → (i : ℕ) → file_block w inode i ≡ file_block v inode i
file_block_by v w inode same i = go (nat_lt i 12) (cases_eq (word_at inode 56) 0)
  where
    go : (b : Bool) → (word_at inode 56 ≡ 0) ⊎ (word_at inode 56 ≢ 0) →
        (if b then direct_in inode i else if word_at inode 56 == 0 then 0 else pointer_word (w (word_at inode 56)) (i - 12))
        ≡ (if b then direct_in inode i else if word_at inode 56 == 0 then 0 else pointer_word (v (word_at inode 56)) (i - 12))
    go true c = refl
    go false (inl e) =
        ap (λ (x : Bool). if x then 0 else pointer_word (w (word_at inode 56)) (i - 12)) (eq-eqb (word_at inode 56) 0 e)
        ∙ sym (ap (λ (x : Bool). if x then 0 else pointer_word (v (word_at inode 56)) (i - 12)) (eq-eqb (word_at inode 56) 0 e))
    go false (inr ne) = ap (λ m. if word_at inode 56 == 0 then 0 else pointer_word m (i - 12)) (same ne)

-- The block is none of an inode's.
pub record Avoids (v : ℕ → List ℕ) (inode : List ℕ) (block : ℕ) : Type 0 where
  pub pointers : word_at inode 56 ≢ 0 → word_at inode 56 ≢ block
  pub blocks : (i : ℕ) → i < 140 → file_block v inode i ≢ 0 → file_block v inode i ≢ block

module _ (T : Types) (lib : IsLibrary T) (state : StoreState) (h : IsConsistent T state) (fs : ℕ) (few : fs < 32) (w : ℕ → List ℕ) (block ty : ℕ) (t : Touches T (latest state.lives) w fs block ty) where
  abbrev v : ℕ → List ℕ
  v = latest state.lives

  module _ (d : ℕ) (inode : List ℕ) (s : Stands v fs d inode) where
    -- where the blocks are of other types
    pub avoids : ty ≢ 2 → ty ≢ 5 → Avoids v inode block
    avoids two five = record {
      pointers = λ ne. t.apart (word_at inode 56) 5 (pointers_at T lib state h fs few d inode s (word_at inode 56) refl ne) (λ z. five (sym z));
      blocks = λ i low ne. t.apart (file_block v inode i) 2 (block_at T lib state h fs few d inode s i (file_block v inode i) low refl ne) (λ z. two (sym z));
    }

    module _ (a : Avoids v inode block) where
      pointers_same : word_at inode 56 ≢ 0 → w (word_at inode 56) ≡ v (word_at inode 56)
      pointers_same ne = t.others (word_at inode 56) 5 (pointers_at T lib state h fs few d inode s (word_at inode 56) refl ne) (a.pointers ne)

      pub file_block_same : (i : ℕ) → file_block w inode i ≡ file_block v inode i
      file_block_same = file_block_by v w inode pointers_same

      pub block_bytes : (i k : ℕ) → i < 140 → byte_in w (file_block v inode i) k ≡ byte_in v (file_block v inode i) k
      block_bytes i k low = elim (cases_eq (file_block v inode i) 0) [
        | inl e ↦ ap (λ b. byte_in w b k) e ∙ sym (ap (λ b. byte_in v b k) e)
        | inr ne ↦
            let same = t.others (file_block v inode i) 2 (block_at T lib state h fs few d inode s i (file_block v inode i) low refl ne) (a.blocks i low ne) in
            ap (λ m. if file_block v inode i == 0 then 0 else get_or m k 0) same
      ]

      pub contents_same : SameContents v w inode
      contents_same = (
        listing_same w v inode (λ b i.
            let x = direct_where inode b i in
            let lt = x.1 in
            t.others b 2 (block_at T lib state h fs few d inode s x.0 b (omega (arith, lt)) (direct_block v inode x.0 lt ∙ x.2) x.3) (λ e. a.blocks x.0 (omega (arith, lt)) (λ z. x.3 (sym (direct_block v inode x.0 lt ∙ x.2) ∙ z)) (direct_block v inode x.0 lt ∙ (x.2 ∙ e)))),
        λ at low. ap (λ b. byte_in w b (at % 512)) (file_block_same (at / 512)) ∙ block_bytes (at / 512) (at % 512) (omega (arith, low)),
      )

  use_by : (d : ℕ) → inode_in w fs d ≡ inode_in v fs d → ((inode : List ℕ) → Stands v fs d inode → Avoids v inode block) → SameUse v w fs d
  use_by d e a = (e, λ inode is. let s = stands_from v fs d inode is in contents_same d inode s (a inode s))

  same_by : (d : ℕ) → inode_in w fs d ≡ inode_in v fs d → ((inode : List ℕ) → Stands v fs d inode → Avoids v inode block) → SamePlace v w fs d → SameInode v w fs d
  same_by d e a place = let u = use_by d e a in (u.0, u.1, place)

  -- a new block, or the root block: no inode has it
  pub none_touched : ty ≢ 2 → ty ≢ 3 → ty ≢ 4 → ty ≢ 5 → (d : ℕ) → SameInode v w fs d
  none_touched two three four five d = same_by d (inodes_same T lib v w fs block ty t three four d) (λ inode s. avoids d inode s two five) (places_same T lib v w fs block ty t three four d)

  -- a block of inodes, in which another one was written
  module _ (four : ty ≡ 4) (n place : ℕ) (bytes : List ℕ) (stands : IsPlace state fs n block place) (whole : length bytes ≡ 64) (here : w block ≡ put (v block) (64 * place) bytes) (d : ℕ) (ne : d ≢ n) where
    reads : Reads T library_layout
    reads = library_reads T lib

    in_place : (b : ℕ) → d ≢ 0 → IsInodes library_layout v fs ((d - 1) / 8) b → b ≡ block → (d - 1) % 8 ≡ place → ⊥
    in_place b some is e p =
        let top = is.root in
        let one : stands.inodes.root ≡ top = same_root v fs stands.inodes.root top stands.inodes.is_root is.is_root in
        let points : library_layout.pointer (v top) ((n - 1) / 8) ≡ b = ap (λ r. library_layout.pointer (v r) ((n - 1) / 8)) (sym one) ∙ (stands.inodes.points ∙ sym e) in
        let index : (d - 1) / 8 ≡ (n - 1) / 8 =
        reads.apart (v top) ((d - 1) / 8) ((n - 1) / 8) b (fits_newest T lib state state h fs few top 3 (root is.is_root.at is.is_root.there)) is.points points is.there in
        ne (reads.homes d n some stands.some index (p ∙ stands.at))

    pub inode_bytes : (b : ℕ) → d ≢ 0 → d ≤ 128 → IsInodes library_layout v fs ((d - 1) / 8) b → inode_at (w b) ((d - 1) % 8) ≡ inode_at (v b) ((d - 1) % 8)
    inode_bytes b some low is = elim (cases_eq b block) [
      | inr apart ↦ ap (λ m. inode_at m ((d - 1) % 8)) (t.others b 4 (under_inodes T library_layout reads v fs ((d - 1) / 8) b is) apart)
      | inl e ↦
          let q = (d - 1) % 8 in
          let m = v block in
          let fit : 64 * place + length bytes ≤ length m = let long = stands.long in let few = stands.few in omega (arith, long, few, whole) in
          let other : q ≢ place = in_place b some is e in
          let away : (64 * q + 64 ≤ 64 * place) ⊎ (64 * place + length bytes ≤ 64 * q) = elim (cases_lt q place) [ inl lt ↦ inl (omega (arith, lt)) | inr ge ↦ inr (omega (arith, ge, other, whole)) ] in
          ap (λ c. inode_at (w c) q) e ∙ (ap (λ x. inode_at x q) here ∙ (bytes_apart m (64 * place) bytes fit 64 (64 * q) away ∙ ap (λ c. inode_at (v c) q) (sym e)))
    ]

    pub inode_touched : SameInode v w fs d
    inode_touched =
        same_by d (inode_same T lib v w fs block ty t (λ z. omega (arith, four, z)) d inode_bytes) (λ inode s. avoids d inode s (λ z. omega (arith, four, z)) (λ z. omega (arith, four, z)))
        (λ some low. place_same T lib v w fs block ty t (λ z. omega (arith, four, z)) d low (λ b is. inode_bytes b some low is))

  -- a block of a file or directory
  pub data_touched : ty ≡ 2 → (n : ℕ) (own : List ℕ) (s : Stands v fs n own) (i : ℕ) → i < 140 → file_block v own i ≡ block → block ≢ 0 → (d : ℕ) → d ≢ n → SameInode v w fs d
  data_touched two n own s i low is there d ne =
      same_by d (inodes_same T lib v w fs block ty t (λ z. omega (arith, two, z)) (λ z. omega (arith, two, z)) d) (λ inode r. record {
        pointers = λ some e. pointers_apart T lib state h fs few n d own inode s r i block low is e there;
        blocks = λ j high some e. ne (two_blocks T lib state h fs few d n inode own r s j i block high low e is there).0;
      })
      (places_same T lib v w fs block ty t (λ z. omega (arith, two, z)) (λ z. omega (arith, two, z)) d)

  -- a file's block of pointers
  pub pointers_touched : ty ≡ 5 → (n : ℕ) (own : List ℕ) (s : Stands v fs n own) → word_at own 56 ≡ block → block ≢ 0 → (d : ℕ) → d ≢ n → SameInode v w fs d
  pointers_touched five n own s is there d ne =
      same_by d (inodes_same T lib v w fs block ty t (λ z. omega (arith, five, z)) (λ z. omega (arith, five, z)) d) (λ inode r. record {
        pointers = λ some e. ne (two_pointers T lib state h fs few d n inode own r s block e is there);
        blocks = λ j high some e. pointers_apart T lib state h fs few d n inode own r s j block high e is there;
      })
      (places_same T lib v w fs block ty t (λ z. omega (arith, five, z)) (λ z. omega (arith, five, z)) d)

pub word_read : (b : ℕ) → b < 2 ^ 32 → word_at (to_le_bytes w32 b) 0 ≡ b
unfolding word_at
word_read b small = from_le_bytes-to_le_bytes_4 b small

-- A pointer of the root block is set
module _ (T : Types) (lib : IsLibrary T) (state new : StoreState) (h : IsConsistent T state) (fs : ℕ) (few : fs < 32) (top index b entry : ℕ) (is_root : IsRoot (latest state.lives) fs top) (low : index < 16) (empty : pointer_word (latest state.lives top) index ≡ 0)
    (long : length (latest state.lives top) ≡ 512) (small : b < 2 ^ 32) (there : b ≢ 0) (done : propose_of T state fs top (edit_at (4 * index) (to_le_bytes w32 b) ((b, 4) ∷ []) [] None) ≡ Ok (entry, new)) where
  abbrev old_bytes : ℕ → List ℕ
  old_bytes = latest state.lives

  abbrev new_bytes : ℕ → List ℕ
  new_bytes = latest new.lives

  abbrev edit : Edit
  edit = edit_at (4 * index) (to_le_bytes w32 b) ((b, 4) ∷ []) [] None

  touched : Touches T old_bytes new_bytes fs top 3
  touched = edited T state new h fs few top 3 edit entry done (root is_root.at is_root.there)

  others : (c : ℕ) → c ≢ top → new_bytes c ≡ old_bytes c
  others = proposed_others T state new h fs top edit entry done

  here : new_bytes top ≡ put (old_bytes top) (4 * index) (to_le_bytes w32 b)
  here = proposed_here T state new h fs top edit entry done

  fit : 4 * index + length (to_le_bytes w32 b) ≤ length (old_bytes top)
  fit = let four : length (to_le_bytes w32 b) ≡ 4 = refl in omega (arith, four, low, long)

  read : (content : ℕ → List ℕ) (j : ℕ) → Ok top ≡ root_in content fs → inode_block_in content fs j ≡ unless_zero (pointer_word (content top) j)
  read content j e = sym (in_root_block content fs j top (content top) e refl)

  old_root : Ok top ≡ root_in old_bytes fs
  old_root = root_again old_bytes fs top is_root

  new_root : Ok top ≡ root_in new_bytes fs
  new_root = old_root ∙ sym (root_same T lib old_bytes new_bytes fs top 3 touched)

  new_word : pointer_word (new_bytes top) index ≡ b
  new_word =
      let four : length (to_le_bytes w32 b) ≡ 4 = refl in
      ap (λ m. pointer_word m index) here ∙ (word_within (old_bytes top) (4 * index) (to_le_bytes w32 b) fit (4 * index) 0 (omega arith) (omega (arith, four)) ∙ word_read b small)

  -- there was no block of inodes at its index, and now there is
  pub none_pointed : inode_block_in old_bytes fs index ≡ Err NoEntry
  none_pointed = read old_bytes index old_root ∙ (ap unless_zero empty ∙ sym (zero_is 0 refl))

  pub now_pointed : inode_block_in new_bytes fs index ≡ Ok b
  now_pointed = read new_bytes index new_root ∙ (ap unless_zero new_word ∙ sym (not_zero b there))

  -- at other indices the same one is there
  elsewhere : (j : ℕ) → j ≢ index → inode_block_in new_bytes fs j ≡ inode_block_in old_bytes fs j
  elsewhere j ne =
      let four : length (to_le_bytes w32 b) ≡ 4 = refl in
      let away : (4 * j + 4 ≤ 4 * index) ⊎ (4 * index + length (to_le_bytes w32 b) ≤ 4 * j) = elim (cases_lt j index) [ inl lt ↦ inl (omega (arith, lt)) | inr ge ↦ inr (omega (arith, ge, ne, four)) ] in
      let word : pointer_word (new_bytes top) j ≡ pointer_word (old_bytes top) j = ap (λ m. pointer_word m j) here ∙ word_apart (old_bytes top) (4 * index) (to_le_bytes w32 b) fit (4 * j) away in
      read new_bytes j new_root ∙ (ap unless_zero word ∙ sym (read old_bytes j old_root))

  -- a place is as before, or in that block, where there was none
  pub place_kept : (d : ℕ) → d ≤ 128 → (d - 1) / 8 ≢ index → place_in new_bytes fs d ≡ place_in old_bytes fs d
  place_kept d low ne =
      let j : ℕ = (d - 1) / 8 in
      let p : ℕ = (d - 1) % 8 in
      ap (λ (r : Result ℕ FfsFault). and_then r (λ c. Ok (inode_at (new_bytes c) p))) (elsewhere j ne) ∙ go j p refl (inode_block_in old_bytes fs j) refl
    where
      go : (j p : ℕ) → j ≡ (d - 1) / 8 → (r : Result ℕ FfsFault) → r ≡ inode_block_in old_bytes fs j → and_then r (λ c. Ok (inode_at (new_bytes c) p)) ≡ and_then r (λ c. Ok (inode_at (old_bytes c) p))
      go j p e (Err fault) f = refl
      go j p e (Ok c) f =
          let is = block_from old_bytes fs j c (omega (arith, low, e)) f in
          let at = under_inodes T library_layout (library_reads T lib) old_bytes fs j c is in
          ap (λ (m : List ℕ). Ok (inode_at m p)) (touched.others c 4 at (touched.apart c 4 at (λ z. omega (arith, z))))

  pub place_added : b ≢ top → (d : ℕ) → (d - 1) / 8 ≡ index → (place_in old_bytes fs d ≡ Err NoEntry) × (place_in new_bytes fs d ≡ Ok (inode_at (old_bytes b) ((d - 1) % 8)))
  place_added apart d e = (
    ap (λ (r : Result ℕ FfsFault). and_then r (λ c. Ok (inode_at (old_bytes c) ((d - 1) % 8)))) (ap (inode_block_in old_bytes fs) e ∙ none_pointed),
    ap (λ (r : Result ℕ FfsFault). and_then r (λ c. Ok (inode_at (new_bytes c) ((d - 1) % 8)))) (ap (inode_block_in new_bytes fs) e ∙ now_pointed) ∙ ap (λ (m : List ℕ). Ok (inode_at m ((d - 1) % 8))) (others b apart),
  )

  -- an inode that isn't in use in that block is as before
  pub pointer_touched : b ≢ top → (d : ℕ) → (d ≢ 0 → (d - 1) / 8 ≡ index → inode_mode (inode_at (old_bytes b) ((d - 1) % 8)) ≡ 0) → SameUse old_bytes new_bytes fs d
  pointer_touched apart d unused =
      use_by T lib state h fs few new_bytes top 3 touched d (inode_by old_bytes new_bytes fs d by_index) (λ inode s. avoids T lib state h fs few new_bytes top 3 touched d inode s (λ z. omega (arith, z)) (λ z. omega (arith, z)))
    where
      by_index : d ≢ 0 → d ≤ 128 → and_then (inode_block_in new_bytes fs ((d - 1) / 8)) (λ c. unless_unused (inode_at (new_bytes c) ((d - 1) % 8))) ≡ and_then (inode_block_in old_bytes fs ((d - 1) / 8)) (λ c. unless_unused (inode_at (old_bytes c) ((d - 1) % 8)))
      by_index some few' = elim (cases_eq ((d - 1) / 8) index) [
        | inl e ↦
            let p : ℕ = (d - 1) % 8 in
            let no_mode : inode_mode (inode_at (new_bytes b) p) ≡ 0 = ap (λ m. inode_mode (inode_at m p)) (others b apart) ∙ unused some e in
            ap (λ (r : Result ℕ FfsFault). and_then r (λ c. unless_unused (inode_at (new_bytes c) p))) (ap (inode_block_in new_bytes fs) e ∙ now_pointed)
            ∙ (sym (unused_is (inode_at (new_bytes b) p) no_mode) ∙ sym (ap (λ (r : Result ℕ FfsFault). and_then r (λ c. unless_unused (inode_at (old_bytes c) p))) (ap (inode_block_in old_bytes fs) e ∙ none_pointed)))
        | inr ne ↦
            let j : ℕ = (d - 1) / 8 in
            let p : ℕ = (d - 1) % 8 in
            ap (λ (r : Result ℕ FfsFault). and_then r (λ c. unless_unused (inode_at (new_bytes c) p))) (elsewhere j ne) ∙ go j p few' refl (inode_block_in old_bytes fs j) refl
      ]
        where
          go : (j p : ℕ) → d ≤ 128 → j ≡ (d - 1) / 8 → (r : Result ℕ FfsFault) → r ≡ inode_block_in old_bytes fs j → and_then r (λ c. unless_unused (inode_at (new_bytes c) p)) ≡ and_then r (λ c. unless_unused (inode_at (old_bytes c) p))
          go j p few' e (Err fault) f = refl
          go j p few' e (Ok c) f =
              let is = block_from old_bytes fs j c (omega (arith, few', e)) f in
              let at = under_inodes T library_layout (library_reads T lib) old_bytes fs j c is in
              ap (λ m. unless_unused (inode_at m p)) (touched.others c 4 at (touched.apart c 4 at (λ z. omega (arith, z))))

-- A new block is not block 0
pub begun_some : (T : Types) (state new : StoreState) → IsConsistent T state → (fs ty : ℕ) (bytes : List ℕ) (made : ℕ × ℕ) → init_of T state fs ty bytes ≡ Ok (made, new) → made.0 ≢ 0
begun_some T state new h fs ty bytes made done e =
    none-some h.lives_sound.root.life (sym (started T state new fs ty bytes made done).free ∙ (ap (life_at state.lives) e ∙ h.lives_sound.root.alive))

-- One after another
pub contents_on : (u v w : ℕ → List ℕ) (inode : List ℕ) → SameContents u v inode → SameContents v w inode → SameContents u w inode
contents_on u v w inode a b = (b.0 ∙ a.0, λ at low. b.1 at low ∙ a.1 at low)

pub same_on : (u v w : ℕ → List ℕ) (fs d : ℕ) → SameInode u v fs d → SameInode v w fs d → SameInode u w fs d
same_on u v w fs d a b = (b.0 ∙ a.0, λ inode e. contents_on u v w inode (a.1 inode e) (b.1 inode (e ∙ sym a.0)), λ some low. b.2 some low ∙ a.2 some low)

pub as_same : (v w : ℕ → List ℕ) (fs n x : ℕ) → SameInode v w fs x → SameOrNew v w fs n x
as_same v w fs n x a = (a.0, a.1, λ some low. inl (a.2 some low))

pub new_on : (u v w : ℕ → List ℕ) (fs n x : ℕ) → SameOrNew u v fs n x → SameOrNew v w fs n x → SameOrNew u w fs n x
new_on u v w fs n x a b = (
  b.0 ∙ a.0,
  λ inode e. contents_on u v w inode (a.1 inode e) (b.1 inode (e ∙ sym a.0)),
  λ some low. elim (a.2 some low) [
    | inl e ↦ elim (b.2 some low) [ inl f ↦ inl (f ∙ e) | inr k ↦ inr (record { together = k.together; absent = sym e ∙ k.absent; free = k.free }) ]
    | inr k ↦ elim (b.2 some low) [
      | inl f ↦ inr (record { together = k.together; absent = k.absent; free = f ∙ k.free })
      | inr j ↦ absurd (never (replicate 64 0) NoEntry (sym k.free ∙ j.absent))
    ]
  ],
)
