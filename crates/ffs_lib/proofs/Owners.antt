-- Where the inode in use with a number stands, and that no block is in two of them.
use Rattle.std.proofs.Common.{◌≡◌, ◌≢◌, ℕ, ◌+◌, ◌-◌, ◌*◌, ◌/◌, ◌%◌, ◌<◌, ◌≤◌, ◌⊎◌, Bool, true, false, List, Ok, Err, refl, sym, ◌∙◌, ap, inl, inr, arith, subst, Contains, Result, ◌==◌, ◌||◌, nat_lt, if◌then◌else◌, eqb-true, lt-ltb, le-ltb}
use Rattle.ffs_lib.proofs.Common.{FfsFault, IsConsistent, IsInodes, IsLibrary, IsRoot, NoEntry, StoreState, Types, Under, and_then, cases_lt, direct_in}
use Rattle.ffs_lib.proofs.Common.{direct_word, eqb-false, file_block, inode_at, inode_block_in, inode_in, inode_mode, latest, library_layout, pointer_word, root}
use Rattle.ffs_lib.proofs.Common.{root_in, slot, step, unless_unused, unless_zero, word_at}
use Rattle.store_types.specs.declared.status.Status.TheVariants.{Owned}
use Rattle.xn_model.proofs.ForCallers.{of_life}
use Rattle.ffs_model.proofs.ForCallers.{owner_of, blocks_read, data_once, data_owned, direct_once, indirect_once, indirect_owned, latest_reached, library_reads, one_type, under_inodes, word_part}
use Rattle.ffs_lib.proofs.Edited.{same_root}
use Rattle.ffs_lookup.proofs.ForCallers.{block_again, direct_has, good_number, in_inode_block, pointer_is, same_ok, used_is}
use Rattle.ffs_lib.proofs.Listed.{fits_newest}

-- Look-ups that pass

pub passed : {A B : Type 0} (r : Result A FfsFault) (f : A → Result B FfsFault) (y : B) → Ok y ≡ and_then r f → (x : A) × (Ok x ≡ r) × (Ok y ≡ f x)
passed (Ok x) f y e = (x, refl, e)
passed (Err fault) f y e = absurd (cc e)

pub not_first : {A : Type 0} (t : Bool) (fault : FfsFault) (r : Result A FfsFault) (y : A) → Ok y ≡ (if t then Err fault else r) → (t ≡ false) × (Ok y ≡ r)
not_first true fault r y e = absurd (cc e)
not_first false fault r y e = (refl, e)

pub then_first : {A : Type 0} (t : Bool) (r : Result A FfsFault) (fault : FfsFault) (y : A) → Ok y ≡ (if t then r else Err fault) → (t ≡ true) × (Ok y ≡ r)
then_first true r fault y e = (refl, e)
then_first false r fault y e = absurd (cc e)

pub only_first : {A : Type 0} (t : Bool) (x y : A) (fault : FfsFault) → Ok y ≡ (if t then Ok x else Err fault) → (t ≡ true) × (x ≡ y)
only_first true x y fault e = (refl, cc)
only_first false x y fault e = absurd (cc e)

pub number_from : (n : ℕ) → (n == 0) || nat_lt 128 n ≡ false → (n ≢ 0) × (n ≤ 128)
number_from n e = two (n == 0) (nat_lt 128 n) refl refl e
  where
    two : (s t : Bool) → (n == 0) ≡ s → nat_lt 128 n ≡ t → s || t ≡ false → (n ≢ 0) × (n ≤ 128)
    two true t a b f = absurd (cc f)
    two false true a b f = absurd (cc f)
    two false false a b f = (eqb-false n 0 a, elim (cases_lt 128 n) [ inl lt ↦ absurd (no (sym (lt-ltb 128 n lt) ∙ b)) | inr ge ↦ ge ])
      where
        no : true ≡ false → ⊥
        no z = cc

pub root_from : (content : ℕ → List ℕ) (fs r : ℕ) → Ok r ≡ root_in content fs → IsRoot content fs r
unfolding root_in
root_from content fs r e =
    let s = slot (content 0) fs in
    let x = not_first (s.0 == 0) NoEntry (if s.1 == 3 then Ok s.0 else Err NoEntry) r e in
    let y = only_first (s.1 == 3) s.0 r NoEntry x.1 in
    record { at = λ i. (y.1 i, (eqb-true s.1 3 y.0) i); there = λ z. eqb-false s.0 0 x.0 (y.1 ∙ z) }

pub block_from : (content : ℕ → List ℕ) (fs j b : ℕ) → j < 16 → Ok b ≡ inode_block_in content fs j → IsInodes library_layout content fs j b
unfolding inode_block_in
block_from content fs j b few e =
    let r = passed (root_in content fs) (λ root. unless_zero (pointer_word (content root) j)) b e in
    let x = not_first (pointer_word (content r.0) j == 0) NoEntry (Ok (pointer_word (content r.0) j)) b r.2 in
    let same : b ≡ pointer_word (content r.0) j = same_ok b (pointer_word (content r.0) j) x.1 in
    record {
      root = r.0;
      is_root = root_from content fs r.0 r.1;
      points = pointer_is (content r.0) j few ∙ sym same;
      there = λ z. eqb-false (pointer_word (content r.0) j) 0 x.0 (sym same ∙ z);
    }

-- The inode in use with a number, and its block.
pub record Stands (content : ℕ → List ℕ) (fs n : ℕ) (inode : List ℕ) : Type 0 where
  pub some : n ≢ 0
  pub low : n ≤ 128
  pub block : ℕ
  pub inodes : IsInodes library_layout content fs ((n - 1) / 8) block
  pub bytes : inode ≡ inode_at (content block) ((n - 1) % 8)
  pub used : inode_mode inode ≢ 0

pub stands_from : (content : ℕ → List ℕ) (fs n : ℕ) (inode : List ℕ) → Ok inode ≡ inode_in content fs n → Stands content fs n inode
unfolding inode_in
stands_from content fs n inode e =
    let x = not_first ((n == 0) || nat_lt 128 n) NoEntry (and_then (inode_block_in content fs ((n - 1) / 8)) (λ block. unless_unused (inode_at (content block) ((n - 1) % 8)))) inode e in
    let right = number_from n x.0 in
    let r = passed (inode_block_in content fs ((n - 1) / 8)) (λ block. unless_unused (inode_at (content block) ((n - 1) % 8))) inode x.1 in
    let m = inode_at (content r.0) ((n - 1) % 8) in
    let u = not_first (inode_mode m == 0) NoEntry (Ok m) inode r.2 in
    let same : inode ≡ m = same_ok inode m u.1 in
    let few : (n - 1) / 8 < 16 = omega (arith, right.1) in
    record {
      some = right.0;
      low = right.1;
      block = r.0;
      inodes = block_from content fs ((n - 1) / 8) r.0 few r.1;
      bytes = same;
      used = λ z. eqb-false (inode_mode m) 0 u.0 (ap inode_mode (sym same) ∙ z);
    }

pub stands_to : (content : ℕ → List ℕ) (fs n : ℕ) (inode : List ℕ) → Stands content fs n inode → Ok inode ≡ inode_in content fs n
stands_to content fs n inode s =
    used_is inode s.used ∙ (ap unless_unused s.bytes
    ∙ in_inode_block content fs n (good_number n s.some s.low) ((n - 1) / 8) ((n - 1) % 8) s.block (content s.block) refl refl (block_again content fs ((n - 1) / 8) s.block s.inodes) refl)

-- Where a block of a file is pointed to
pub direct_block : (content : ℕ → List ℕ) (inode : List ℕ) (i : ℕ) → i < 12 → file_block content inode i ≡ direct_in inode i
direct_block content inode i lt = ap (λ (t : Bool). if t then direct_in inode i else if word_at inode 56 == 0 then 0 else pointer_word (content (word_at inode 56)) (i - 12)) (lt-ltb i 12 lt)

pub where_block : (content : ℕ → List ℕ) (inode : List ℕ) (i b : ℕ) → file_block content inode i ≡ b → b ≢ 0 →
    ((i < 12) × (direct_in inode i ≡ b)) ⊎ ((12 ≤ i) × (word_at inode 56 ≢ 0) × (pointer_word (content (word_at inode 56)) (i - 12) ≡ b))
where_block content inode i b e ne = elim (cases_lt i 12) [
  | inl lt ↦ inl (lt, sym (ap (λ (t : Bool). if t then direct_in inode i else (if word_at inode 56 == 0 then 0 else pointer_word (content (word_at inode 56)) (i - 12))) (lt-ltb i 12 lt)) ∙ e)
  | inr ge ↦
      let past : (if word_at inode 56 == 0 then 0 else pointer_word (content (word_at inode 56)) (i - 12)) ≡ b =
      sym (ap (λ (t : Bool). if t then direct_in inode i else (if word_at inode 56 == 0 then 0 else pointer_word (content (word_at inode 56)) (i - 12))) (le-ltb i 12 ge)) ∙ e in
      let two = below (word_at inode 56 == 0) refl past in
      inr (ge, two.0, two.1)
]
  where
    below : (t : Bool) → (word_at inode 56 == 0) ≡ t → (if t then 0 else pointer_word (content (word_at inode 56)) (i - 12)) ≡ b → (word_at inode 56 ≢ 0) × (pointer_word (content (word_at inode 56)) (i - 12) ≡ b)
    below true f g = absurd (ne (sym g))
    below false f g = (eqb-false (word_at inode 56) 0 f, g)

module _ (T : Types) (lib : IsLibrary T) (state : StoreState) (h : IsConsistent T state) (fs : ℕ) (few : fs < 32) where
  abbrev v : ℕ → List ℕ
  v = latest state.lives

  -- a block has one owner
  pub one_owner : (a t b u c x y : ℕ) → Under T v fs a t → Under T v fs b u → Contains (T.owned t (v a)) (c, x) → Contains (T.owned u (v b)) (c, y) → a ≡ b
  one_owner a t b u c x y ra rb ia ib =
      let la = latest_reached T state h fs few a t ra in
      let lb = latest_reached T state h fs few b u rb in
      let oa = owner_of T state h fs few a t c x la.life la.alive la.ty ia in
      let ob = owner_of T state h fs few b u c y lb.life lb.alive lb.ty ib in
      let same : Owned a ≡ Owned b = sym oa.holds ∙ of_life ob oa.life oa.alive in
      cc

  -- What an inode owns
  module _ (n : ℕ) (x : List ℕ) (s : Stands v fs n x) where
    place_low : (n - 1) % 8 < 8
    place_low = omega arith

    pub at_block : Under T v fs s.block 4
    at_block = under_inodes T library_layout (library_reads T lib) v fs ((n - 1) / 8) s.block s.inodes

    word_here : (i : ℕ) → i < 12 → direct_word (v s.block) ((n - 1) % 8) i ≡ direct_in x i
    word_here i low =
        word_part (v s.block) ((n - 1) % 8) place_low (64 * ((n - 1) % 8) + 8 + 4 * i) (8 + 4 * i) (omega arith) (omega arith) ∙ ap (λ m. word_at m (8 + 4 * i)) (sym s.bytes)

    last_here : word_at (v s.block) (64 * ((n - 1) % 8) + 56) ≡ word_at x 56
    last_here = word_part (v s.block) ((n - 1) % 8) place_low (64 * ((n - 1) % 8) + 56) 56 refl (omega arith) ∙ ap (λ m. word_at m 56) (sym s.bytes)

    direct_owned : (i b : ℕ) → i < 12 → direct_in x i ≡ b → b ≢ 0 → Contains (T.owned 4 (v s.block)) (b, 2)
    direct_owned i b low e ne =
        (library_reads T lib).blocks (v s.block) ((n - 1) % 8) b
        (subst (λ xs. Contains xs b) (sym (blocks_read (v s.block) ((n - 1) % 8) place_low)) (direct_has (inode_at (v s.block) ((n - 1) % 8)) i b low (ap (λ m. direct_in m i) (sym s.bytes) ∙ e) ne))

    last_owned : (b : ℕ) → word_at x 56 ≡ b → b ≢ 0 → Contains (T.owned 4 (v s.block)) (b, 5)
    last_owned b e ne = indirect_owned T lib (v s.block) ((n - 1) % 8) b place_low (last_here ∙ e) ne

    pub pointers_at : (b : ℕ) → word_at x 56 ≡ b → b ≢ 0 → Under T v fs b 5
    pointers_at b e ne = step {b = s.block} {t = 4} at_block (last_owned b e ne)

    pub block_at : (i b : ℕ) → i < 140 → file_block v x i ≡ b → b ≢ 0 → Under T v fs b 2
    block_at i b low e ne = elim (where_block v x i b e ne) [
      | inl d ↦ let lt = d.0 in step {b = s.block} {t = 4} at_block (direct_owned i b lt d.1 ne)
      | inr k ↦ let ge = k.0 in step {b = word_at x 56} {t = 5} (pointers_at (word_at x 56) refl k.1) (data_owned T lib (v (word_at x 56)) (i - 12) b (omega (arith, ge, low)) k.2 ne)
    ]

  module _ (n m : ℕ) (x y : List ℕ) (s : Stands v fs n x) (r : Stands v fs m y) where
    -- two inodes in one place are one
    pub one_number : s.block ≡ r.block → (n - 1) % 8 ≡ (m - 1) % 8 → n ≡ m
    one_number e p =
        let reads = library_reads T lib in
        let top = s.inodes.root in
        let one : r.inodes.root ≡ top = same_root v fs r.inodes.root top r.inodes.is_root s.inodes.is_root in
        let points : library_layout.pointer (v top) ((m - 1) / 8) ≡ s.block = ap (λ b. library_layout.pointer (v b) ((m - 1) / 8)) (sym one) ∙ (r.inodes.points ∙ sym e) in
        let index : (n - 1) / 8 ≡ (m - 1) / 8 =
        reads.apart (v top) ((n - 1) / 8) ((m - 1) / 8) s.block (fits_newest T lib state state h fs few top 3 (root s.inodes.is_root.at s.inodes.is_root.there)) s.inodes.points points s.inodes.there in
        reads.homes n m s.some r.some index p

    two_direct : (i j b : ℕ) → i < 12 → j < 12 → direct_in x i ≡ b → direct_in y j ≡ b → b ≢ 0 → (n ≡ m) × (i ≡ j)
    two_direct i j b low low' e f ne =
        let same = one_owner s.block 4 r.block 4 b 2 2 (at_block n x s) (at_block m y r) (direct_owned n x s i b low e ne) (direct_owned m y r j b low' f ne) in
        let here : direct_word (v s.block) ((m - 1) % 8) j ≡ b = ap (λ c. direct_word (v c) ((m - 1) % 8) j) same ∙ (word_here m y r j low' ∙ f) in
        let once = direct_once T lib (v s.block) ((n - 1) % 8) ((m - 1) % 8) i j b (fits_newest T lib state state h fs few s.block 4 (at_block n x s)) (omega arith) (omega arith) low low' (word_here n x s i low ∙ e) here ne in
        (one_number same once.0, once.1)

    pub two_pointers : (b : ℕ) → word_at x 56 ≡ b → word_at y 56 ≡ b → b ≢ 0 → n ≡ m
    two_pointers b e f ne =
        let same = one_owner s.block 4 r.block 4 b 5 5 (at_block n x s) (at_block m y r) (last_owned n x s b e ne) (last_owned m y r b f ne) in
        let here : word_at (v s.block) (64 * ((m - 1) % 8) + 56) ≡ b = ap (λ c. word_at (v c) (64 * ((m - 1) % 8) + 56)) same ∙ (last_here m y r ∙ f) in
        one_number same (indirect_once T lib (v s.block) ((n - 1) % 8) ((m - 1) % 8) b (fits_newest T lib state state h fs few s.block 4 (at_block n x s)) (omega arith) (omega arith) (last_here n x s ∙ e) here ne)

    two_mixed : (i j b : ℕ) → i < 12 → direct_in x i ≡ b → 12 ≤ j → j < 140 → word_at y 56 ≢ 0 → pointer_word (v (word_at y 56)) (j - 12) ≡ b → b ≢ 0 → ⊥
    two_mixed i j b low e ge high some f ne =
        let c = word_at y 56 in
        let at = pointers_at m y r c refl some in
        let same = one_owner s.block 4 c 5 b 2 2 (at_block n x s) at (direct_owned n x s i b low e ne) (data_owned T lib (v c) (j - 12) b (omega (arith, ge, high)) f ne) in
        let four : 5 ≡ 4 = one_type T state h fs c 5 4 few at (subst (λ z. Under T v fs z 4) same (at_block n x s)) in
        omega (arith, four)

    two_data : (i j b : ℕ) → 12 ≤ i → i < 140 → 12 ≤ j → j < 140 → word_at x 56 ≢ 0 → word_at y 56 ≢ 0 → pointer_word (v (word_at x 56)) (i - 12) ≡ b → pointer_word (v (word_at y 56)) (j - 12) ≡ b → b ≢ 0 → (n ≡ m) × (i ≡ j)
    two_data i j b ge high ge' high' some some' e f ne =
        let c = word_at x 56 in
        let d = word_at y 56 in
        let at = pointers_at n x s c refl some in
        let same = one_owner c 5 d 5 b 2 2 at (pointers_at m y r d refl some') (data_owned T lib (v c) (i - 12) b (omega (arith, ge, high)) e ne) (data_owned T lib (v d) (j - 12) b (omega (arith, ge', high')) f ne) in
        let once : i - 12 ≡ j - 12 = data_once T lib (v c) (i - 12) (j - 12) b (fits_newest T lib state state h fs few c 5 at) (omega (arith, ge, high)) (omega (arith, ge', high')) e (ap (λ z. pointer_word (v z) (j - 12)) same ∙ f) ne in
        (two_pointers c refl (sym same) some, omega (arith, once, ge, ge'))

  -- a block is one file's or directory's, at one index
  pub two_blocks : (n m : ℕ) (x y : List ℕ) (s : Stands v fs n x) (r : Stands v fs m y) (i j b : ℕ) → i < 140 → j < 140 → file_block v x i ≡ b → file_block v y j ≡ b → b ≢ 0 → (n ≡ m) × (i ≡ j)
  two_blocks n m x y s r i j b low low' e f ne = elim (where_block v x i b e ne) [
    | inl d ↦ elim (where_block v y j b f ne) [
      | inl k ↦ two_direct n m x y s r i j b d.0 k.0 d.1 k.1 ne
      | inr k ↦ absurd (two_mixed n m x y s r i j b d.0 d.1 k.0 low' k.1 k.2 ne)
    ]
    | inr d ↦ elim (where_block v y j b f ne) [
      | inl k ↦ absurd (two_mixed m n y x r s j i b k.0 k.1 d.0 low d.1 d.2 ne)
      | inr k ↦ two_data n m x y s r i j b d.0 low k.0 low' d.1 k.1 d.2 k.2 ne
    ]
  ]

  -- no block of pointers is a block of data
  pub pointers_apart : (n m : ℕ) (x y : List ℕ) (s : Stands v fs n x) (r : Stands v fs m y) (i b : ℕ) → i < 140 → file_block v x i ≡ b → word_at y 56 ≡ b → b ≢ 0 → ⊥
  pointers_apart n m x y s r i b low e f ne =
      let z : 2 ≡ 5 = one_type T state h fs b 2 5 few (block_at n x s i b low e ne) (pointers_at m y r b f ne) in
      omega (arith, z)
