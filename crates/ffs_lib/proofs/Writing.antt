-- What an edit of a file's blocks leaves of its bytes.
use Rattle.std.proofs.Common.{◌≡◌, ◌≢◌, ℕ, zero, suc, ◌+◌, ◌-◌, ◌*◌, ◌/◌, ◌%◌, ◌^◌, ◌<◌, ◌≤◌, ◌⊎◌, Bool, List, [], ◌∷◌, ◌++◌, length, get_or, Option, Ok, refl, sym, ◌∙◌, ap, inl, inr, arith, subst, eq-eqb, length-append, Result, ◌==◌, ◌&&◌, max, min, nat_le, nat_lt, if◌then◌else◌, slice_set, w32, le-leb, le-ltb, lt-ltb, ne_eqb, get_or-append-add}
use Rattle.ffs_lib.proofs.Common.{Edit, FfsFault, Found, IsConsistent, IsDir, IsFile, IsLibrary, StoreState, Types, Under, and_then, byte_in, byte_of, cases_eq}
use Rattle.ffs_lib.proofs.Common.{cases_lt, direct_in, fields_of, file_block, file_in, get_or-replicate, get_or_append_left, if_file, init_of, inode_in}
use Rattle.ffs_lib.proofs.Common.{inode_links, inode_mode, latest, library_layout, life_at, lt-leb, max-eq_left, max-eq_right, min-eq_left, min-eq_right}
use Rattle.ffs_lib.proofs.Common.{most_bytes, none-some, pointer_word, propose_of, put, to_le_bytes, word_at, zero_block}
use Rattle.ffs_model.proofs.ForCallers.{latest_reached, library_reads, one_type, started, proposed_here, proposed_others, started_here, under_inodes, word_apart, word_within, zero_word}
use Rattle.ffs_lib.specs.Edits.{edit_at}
use Rattle.ffs_lib.specs.Outcomes.{HasBlock, IsRaised}
use Rattle.ffs_lib.specs.Results.{WroteBytes}
use Rattle.ffs_lib.specs.Results.{SameInode, byte_written}
use Rattle.ffs_lib.proofs.Frames.{byte_apart, byte_within}
use Rattle.ffs_lib.proofs.Owners.{Stands, block_at, direct_block, not_first, passed, pointers_apart, pointers_at, stands_from, two_blocks}
use Rattle.ffs_lookup.proofs.ForCallers.{file_is, in_file, same_ok}
use Rattle.ffs_lib.proofs.Entering.{inode_put}
use Rattle.ffs_lib.proofs.Fields.{direct_get}
use Rattle.ffs_lib.proofs.Same.{Touches, avoids, begun, begun_some, data_touched, edited, file_block_by, file_block_same, none_touched, pointers_touched, reached_before, inodes_same, word_read}

-- A file is an inode in use

pub file_from : (content : ℕ → List ℕ) (fs n : ℕ) (inode : List ℕ) → Ok inode ≡ file_in content fs n → Ok inode ≡ inode_in content fs n
unfolding file_in
file_from content fs n inode e =
    let r = passed (inode_in content fs n) if_file inode e in
    (not_first (inode_mode r.0 == 2) IsDir (Ok r.0) inode r.2).1 ∙ r.1

pub file_same : (v w : ℕ → List ℕ) (fs n : ℕ) → inode_in w fs n ≡ inode_in v fs n → file_in w fs n ≡ file_in v fs n
unfolding file_in
file_same v w fs n e = ap (λ (r : Result (List ℕ) FfsFault). and_then r if_file) e

-- Bytes that are written

pub test_in : (f : ℕ → ℕ) (start : ℕ) (bs : List ℕ) (at : ℕ) → start ≤ at → at < start + length bs → byte_written f start bs at ≡ get_or bs (at - start) 0
test_in f start bs at lo hi =
    ap (λ (t : Bool). if t && nat_lt at (start + length bs) then get_or bs (at - start) 0 else f at) (le-leb start at lo)
    ∙ ap (λ (t : Bool). if t then get_or bs (at - start) 0 else f at) (lt-ltb at (start + length bs) hi)

pub test_below : (f : ℕ → ℕ) (start : ℕ) (bs : List ℕ) (at : ℕ) → at < start → byte_written f start bs at ≡ f at
test_below f start bs at lt = ap (λ (t : Bool). if t && nat_lt at (start + length bs) then get_or bs (at - start) 0 else f at) (lt-leb start at lt)

pub test_above : (f : ℕ → ℕ) (start : ℕ) (bs : List ℕ) (at : ℕ) → start + length bs ≤ at → byte_written f start bs at ≡ f at
test_above f start bs at ge =
    ap (λ (t : Bool). if t && nat_lt at (start + length bs) then get_or bs (at - start) 0 else f at) (le-leb start at (omega (arith, ge)))
    ∙ ap (λ (t : Bool). if t then get_or bs (at - start) 0 else f at) (le-ltb at (start + length bs) ge)

-- where a byte stands
pub cases_written : (start count at : ℕ) → (at < start) ⊎ ((start ≤ at) × (at < start + count)) ⊎ (start + count ≤ at)
cases_written start count at = elim (cases_lt at start) [
  | inl lt ↦ inl lt
  | inr ge ↦ inr (elim (cases_lt at (start + count)) [ inl lt ↦ inl (ge, lt) | inr past ↦ inr past ])
]

-- of bytes put at a place
pub put_byte : (m : List ℕ) (at : ℕ) (bs : List ℕ) → at + length bs ≤ length m → (k : ℕ) → get_or (put m at bs) k 0 ≡ byte_written (λ x. get_or m x 0) at bs k
put_byte m at bs fit k = elim (cases_written at (length bs) k) [
  | inl lt ↦ byte_apart m at bs fit k (inl (omega (arith, lt))) ∙ sym (test_below (λ x. get_or m x 0) at bs k lt)
  | inr (inl x) ↦
      let lo = x.0 in
      let hi = x.1 in
      let e : k ≡ at + (k - at) = omega (arith, lo) in
      ap (λ j. get_or (put m at bs) j 0) e ∙ (byte_within m at bs fit (k - at) (omega (arith, lo, hi)) ∙ sym (test_in (λ x. get_or m x 0) at bs k lo hi))
  | inr (inr ge) ↦ byte_apart m at bs fit k (inr ge) ∙ sym (test_above (λ x. get_or m x 0) at bs k ge)
]

-- of a file, block by block
pub written_by : (f h : ℕ → ℕ → ℕ) (index at : ℕ) (bs : List ℕ) → at + length bs ≤ 512 → ((i k : ℕ) → i < 140 → i ≢ index → h i k ≡ f i k) → ((k : ℕ) → k < 512 → h index k ≡ byte_written (f index) at bs k) →
    (x : ℕ) → x < most_bytes → h (x / 512) (x % 512) ≡ byte_written (λ y. f (y / 512) (y % 512)) (512 * index + at) bs x
written_by f h index at bs fit others here x low =
    let g : ℕ → ℕ = λ y. f (y / 512) (y % 512) in
    elim (cases_eq (x / 512) index) [
      | inl e ↦
          let k : ℕ = x % 512 in
          let sum : x ≡ 512 * index + k = omega (arith, e) in
          ap (λ i. h i k) e ∙ (here k (omega arith) ∙ elim (cases_written at (length bs) k) [
            | inl lt ↦ test_below (f index) at bs k lt ∙ (ap (λ i. f i k) (sym e) ∙ sym (test_below g (512 * index + at) bs x (omega (arith, sum, lt))))
            | inr (inl y) ↦
                let less : k - at ≡ x - (512 * index + at) = omega (arith, sum, y.0) in
                test_in (f index) at bs k y.0 y.1 ∙ (ap (λ j. get_or bs j 0) less ∙ sym (test_in g (512 * index + at) bs x (omega (arith, sum, y.0)) (omega (arith, sum, y.1))))
            | inr (inr ge) ↦ test_above (f index) at bs k ge ∙ (ap (λ i. f i k) (sym e) ∙ sym (test_above g (512 * index + at) bs x (omega (arith, sum, ge))))
          ])
      | inr ne ↦
          others (x / 512) (x % 512) (omega (arith, low)) ne ∙ elim (cases_lt (x / 512) index) [
            | inl lt ↦ sym (test_below g (512 * index + at) bs x (omega (arith, lt)))
            | inr ge ↦ sym (test_above g (512 * index + at) bs x (omega (arith, ge, ne, fit)))
          ]
    ]

-- one after another
pub written_on : (f g h : ℕ → ℕ) (start : ℕ) (bs cs : List ℕ) (x : ℕ) → g x ≡ byte_written f start bs x → h x ≡ byte_written g (start + length bs) cs x → h x ≡ byte_written f start (bs ++ cs) x
written_on f g h start bs cs x e e' =
    let long = length-append bs cs in
    e' ∙ elim (cases_written (start + length bs) (length cs) x) [
      | inl lt ↦ test_below g (start + length bs) cs x lt ∙ (e ∙ elim (cases_written start (length bs) x) [
        | inl less ↦ test_below f start bs x less ∙ sym (test_below f start (bs ++ cs) x less)
        | inr (inl y) ↦
            test_in f start bs x y.0 y.1 ∙ (sym (get_or_append_left bs cs 0 (x - start) (omega (arith, y.0, y.1))) ∙ sym (test_in f start (bs ++ cs) x y.0 (omega (arith, y.1, long))))
        | inr (inr ge) ↦ absurd (omega (arith, lt, ge))
      ])
      | inr (inl y) ↦
          let less : x - start ≡ length bs + (x - (start + length bs)) = omega (arith, y.0) in
          test_in g (start + length bs) cs x y.0 y.1
          ∙ (sym (get_or-append-add bs cs (x - (start + length bs)) 0) ∙ (ap (λ j. get_or (bs ++ cs) j 0) (sym less) ∙ sym (test_in f start (bs ++ cs) x (omega (arith, y.0)) (omega (arith, y.1, long)))))
      | inr (inr ge) ↦ test_above g (start + length bs) cs x ge ∙ (e ∙ (test_above f start bs x (omega (arith, ge)) ∙ sym (test_above f start (bs ++ cs) x (omega (arith, ge, long)))))
    ]

pub written_none : (f : ℕ → ℕ) (start x : ℕ) → f x ≡ byte_written f start [] x
written_none f start x = elim (cases_lt x start) [ inl lt ↦ sym (test_below f start [] x lt) | inr ge ↦ sym (test_above f start [] x (omega (arith, ge))) ]

pub written_same : (f g : ℕ → ℕ) (start : ℕ) (bs : List ℕ) (x : ℕ) → f x ≡ g x → byte_written f start bs x ≡ byte_written g start bs x
written_same f g start bs x e = ap (λ y. if nat_le start x && nat_lt x (start + length bs) then get_or bs (x - start) 0 else y) e

pub byte_there : (content : ℕ → List ℕ) (b k : ℕ) → b ≢ 0 → byte_in content b k ≡ get_or (content b) k 0
byte_there content b k ne = ap (λ (t : Bool). if t then 0 else get_or (content b) k 0) (ne_eqb b 0 ne)

pub byte_same : (v w : ℕ → List ℕ) (b k : ℕ) → (b ≢ 0 → w b ≡ v b) → byte_in w b k ≡ byte_in v b k
byte_same v w b k e = elim (cases_eq b 0) [
  | inl z ↦ ap (λ c. byte_in w c k) z ∙ sym (ap (λ c. byte_in v c k) z)
  | inr ne ↦ ap (λ m. if b == 0 then 0 else get_or m k 0) (e ne)
]

-- A block that a file has is written
module _ (T : Types) (lib : IsLibrary T) (state new : StoreState) (h : IsConsistent T state) (fs : ℕ) (few : fs < 32) (n : ℕ) (inode : List ℕ) (is : Ok inode ≡ file_in (latest state.lives) fs n) where
  abbrev v : ℕ → List ℕ
  v = latest state.lives

  abbrev w : ℕ → List ℕ
  w = latest new.lives

  own : Stands v fs n inode
  own = stands_from v fs n inode (file_from v fs n inode is)

  pub data_written : (index block at : ℕ) (bytes : List ℕ) → index < 140 → file_block v inode index ≡ block → block ≢ 0 → length (v block) ≡ 512 → at + length bytes ≤ 512 → (after : Option ℕ) (entry : ℕ) → propose_of T state fs block (edit_at at bytes [] [] after) ≡ Ok (entry, new) →
      WroteBytes v w fs n inode (512 * index + at) bytes × ((d : ℕ) → d ≢ n → SameInode v w fs d)
  data_written index block at bytes low points there long fit after entry done =
      let t = edited T state new h fs few block 2 (edit_at at bytes [] [] after) entry done (block_at T lib state h fs few n inode own index block low points there) in
      let here : w block ≡ put (v block) at bytes = proposed_here T state new h fs block (edit_at at bytes [] [] after) entry done in
      let same : (i : ℕ) → file_block w inode i ≡ file_block v inode i = file_block_by v w inode (λ ne. t.others (word_at inode 56) 5 (pointers_at T lib state h fs few n inode own (word_at inode 56) refl ne)
      (λ e. pointers_apart T lib state h fs few n n inode inode own own index block low points e there)) in
      let others : (i k : ℕ) → i < 140 → i ≢ index → byte_in w (file_block w inode i) k ≡ byte_in v (file_block v inode i) k =
      λ i k less ne. ap (λ b. byte_in w b k) (same i) ∙ byte_same v w (file_block v inode i) k (λ some.
      t.others (file_block v inode i) 2 (block_at T lib state h fs few n inode own i (file_block v inode i) less refl some) (λ e. ne (two_blocks T lib state h fs few n n inode inode own own i index block less low e points there).1)) in
      let put_here : (k : ℕ) → k < 512 → byte_in w (file_block w inode index) k ≡ byte_written (byte_in v (file_block v inode index)) at bytes k =
      λ k less.
      ap (λ b. byte_in w b k) (same index ∙ points) ∙ (byte_there w block k there ∙ (ap (λ m. get_or m k 0) here ∙ (put_byte (v block) at bytes (omega (arith, long, fit)) k
      ∙ written_same (λ x. get_or (v block) x 0) (byte_in v (file_block v inode index)) at bytes k (sym (ap (λ b. byte_in v b k) points ∙ byte_there v block k there))))) in (
        record {
          after = inode;
          file = is ∙ sym (file_same v w fs n (inodes_same T lib v w fs block 2 t (λ z. omega (arith, z)) (λ z. omega (arith, z)) n));
          size = refl;
          marks = (refl, refl);
          each = written_by (λ i k. byte_in v (file_block v inode i) k) (λ i k. byte_in w (file_block w inode i) k) index at bytes fit others put_here;
        },
        data_touched T lib state h fs few w block 2 t refl n inode own index low points there,
      )

-- A file has a new block with bytes
module _ (T : Types) (lib : IsLibrary T) (zeroth first second : StoreState) (h : IsConsistent T zeroth) (h1 : IsConsistent T first) (fs : ℕ) (few : fs < 32) (b number at : ℕ) (bytes : List ℕ)
    (done : init_of T zeroth fs 2 (put zero_block at bytes) ≡ Ok ((b, number), first)) where
  abbrev v0 : ℕ → List ℕ
  v0 = latest zeroth.lives

  abbrev v1 : ℕ → List ℕ
  v1 = latest first.lives

  abbrev v2 : ℕ → List ℕ
  v2 = latest second.lives

  fresh : Touches T v0 v1 fs b 9
  fresh = begun T zeroth first h fs few 2 9 (put zero_block at bytes) (b, number) done

  unreached : (c u : ℕ) → Under T v0 fs c u → c ≢ b
  unreached c u r e =
      let y = latest_reached T zeroth h fs few c u r in
      none-some y.life (sym (started T zeroth first fs 2 (put zero_block at bytes) (b, number) done).free ∙ (ap (life_at zeroth.lives) (sym e) ∙ y.alive))

  pub fresh_same : (d : ℕ) → SameInode v0 v1 fs d
  fresh_same = none_touched T lib zeroth h fs few v1 b 9 fresh (λ z. omega (arith, z)) (λ z. omega (arith, z)) (λ z. omega (arith, z)) (λ z. omega (arith, z))

  pub block_written : (n index : ℕ) (inode0 inode : List ℕ) → Ok inode0 ≡ file_in v0 fs n → index < 140 → file_block v0 inode0 index ≡ 0 → at + length bytes ≤ 512 → Ok inode ≡ file_in v1 fs n → HasBlock T v1 v2 fs n inode index b →
      WroteBytes v0 v2 fs n inode0 (512 * index + at) bytes
  block_written n index inode0 inode is low hole fit again g =
      let same = fresh_same n in
      let there : b ≢ 0 = begun_some T zeroth first h fs 2 (put zero_block at bytes) (b, number) done in
      let one : inode ≡ inode0 = same_ok inode inode0 (again ∙ (file_same v0 v1 fs n same.0 ∙ sym is)) in
      let own0 = stands_from v0 fs n inode0 (file_from v0 fs n inode0 is) in
      let own = stands_from v1 fs n inode (file_from v1 fs n inode again) in
      let no : file_block v1 inode index ≡ 0 = ap (λ m. file_block v1 m index) one
      ∙ (file_block_same T lib zeroth h fs few v1 b 9 fresh n inode0 own0 (avoids T lib zeroth h fs few v1 b 9 fresh n inode0 own0 (λ z. omega (arith, z)) (λ z. omega (arith, z))) index ∙ hole) in
      let apart : b ≢ g.home = λ e. unreached b g.type_of (reached_before T v0 v1 fs b 9 fresh unreached b g.type_of (subst (λ z. Under T v1 fs z g.type_of) (sym e) g.reached)) refl in
      let there_bytes : v2 b ≡ put zero_block at bytes = g.bytes b apart ∙ started_here T zeroth first fs 2 (put zero_block at bytes) (b, number) done in
      let others : (i k : ℕ) → i < 140 → i ≢ index → byte_in v2 (file_block v2 g.after i) k ≡ byte_in v1 (file_block v1 inode i) k =
      λ i k less ne. ap (λ c. byte_in v2 c k) (g.elsewhere i less ne) ∙ byte_same v1 v2 (file_block v1 inode i) k (λ some. g.bytes (file_block v1 inode i) (λ e.
      g.no_data (one_type T first h1 fs (file_block v1 inode i) g.type_of 2 few (subst (λ z. Under T v1 fs z g.type_of) (sym e) g.reached) (block_at T lib first h1 fs few n inode own i (file_block v1 inode i) less refl some)))) in
      let put_here : (k : ℕ) → k < 512 → byte_in v2 (file_block v2 g.after index) k ≡ byte_written (byte_in v1 (file_block v1 inode index)) at bytes k =
      λ k less.
      ap (λ c. byte_in v2 c k) g.here ∙ (byte_there v2 b k there ∙ (ap (λ m. get_or m k 0) there_bytes ∙ (put_byte zero_block at bytes fit k
      ∙ written_same (λ x. get_or zero_block x 0) (byte_in v1 (file_block v1 inode index)) at bytes k (get_or-replicate 512 k 0 0 less ∙ sym (ap (λ c. byte_in v1 c k) no))))) in
      record {
        after = g.after;
        file = g.file;
        size = g.size ∙ ap (λ m. word_at m 4) one;
        marks = (g.marks.0 ∙ ap inode_mode one, g.marks.1 ∙ ap inode_links one);
        each = λ x less. written_by (λ i k. byte_in v1 (file_block v1 inode i) k) (λ i k. byte_in v2 (file_block v2 g.after i) k) index at bytes fit others put_here x less
            ∙ written_same (byte_of v1 inode) (byte_of v0 inode0) (512 * index + at) bytes x (ap (λ m. byte_of v1 m x) one ∙ (same.1 inode0 (file_from v0 fs n inode0 is)).1 x less);
      }

-- A file's inode is written

pub get_here : (ws : List ℕ) (k b : ℕ) → k < length ws → get_or (slice_set ws k b) k 0 ≡ b
get_here [] k b lt = absurd (omega (arith, lt))
get_here (w ∷ ws) zero b lt = refl
get_here (w ∷ ws) (suc k) b lt = get_here ws k b (omega (arith, lt))

pub get_apart : (ws : List ℕ) (k b j : ℕ) → j ≢ k → get_or (slice_set ws k b) j 0 ≡ get_or ws j 0
get_apart [] k b j ne = refl
get_apart (w ∷ ws) zero b zero ne = absurd (ne refl)
get_apart (w ∷ ws) zero b (suc j) ne = refl
get_apart (w ∷ ws) (suc k) b zero ne = refl
get_apart (w ∷ ws) (suc k) b (suc j) ne = get_apart ws k b j (λ e. ne (ap suc e))

-- the blocks of a file by its own pointers and that to its block of pointers
pub blocks_agree : (content : ℕ → List ℕ) (a b : List ℕ) (i : ℕ) → (i < 12 → direct_in a i ≡ direct_in b i) → word_at a 56 ≡ word_at b 56 → file_block content a i ≡ file_block content b i
blocks_agree content a b i direct last = elim (cases_lt i 12) [
  | inl lt ↦ direct_block content a i lt ∙ (direct lt ∙ sym (direct_block content b i lt))
  | inr ge ↦
      let rest : ℕ → ℕ = λ x. if x == 0 then 0 else pointer_word (content x) (i - 12) in
      ap (λ (t : Bool). if t then direct_in a i else rest (word_at a 56)) (le-ltb i 12 ge) ∙ (ap rest last ∙ sym (ap (λ (t : Bool). if t then direct_in b i else rest (word_at b 56)) (le-ltb i 12 ge)))
]

pub no_pointers : (content : ℕ → List ℕ) (a : List ℕ) (i : ℕ) → 12 ≤ i → word_at a 56 ≡ 0 → file_block content a i ≡ 0
no_pointers content a i ge e =
    ap (λ (t : Bool). if t then direct_in a i else if word_at a 56 == 0 then 0 else pointer_word (content (word_at a 56)) (i - 12)) (le-ltb i 12 ge)
    ∙ ap (λ (t : Bool). if t then 0 else pointer_word (content (word_at a 56)) (i - 12)) (eq-eqb (word_at a 56) 0 e)

pub pointed_block : (content : ℕ → List ℕ) (a : List ℕ) (i : ℕ) → 12 ≤ i → word_at a 56 ≢ 0 → file_block content a i ≡ pointer_word (content (word_at a 56)) (i - 12)
pointed_block content a i ge ne =
    ap (λ (t : Bool). if t then direct_in a i else if word_at a 56 == 0 then 0 else pointer_word (content (word_at a 56)) (i - 12)) (le-ltb i 12 ge)
    ∙ ap (λ (t : Bool). if t then 0 else pointer_word (content (word_at a 56)) (i - 12)) (ne_eqb (word_at a 56) 0 ne)

module _ (T : Types) (lib : IsLibrary T) (state new : StoreState) (h : IsConsistent T state) (fs : ℕ) (few : fs < 32) (n : ℕ) (found : Found) (file : IsFile state fs n found) (is : Ok found.inode ≡ file_in (latest state.lives) fs n)
    (bytes : List ℕ) (whole : length bytes ≡ 64) (mode : inode_mode bytes ≡ inode_mode found.inode) (adds : List (ℕ × ℕ)) (after : Option ℕ) (entry : ℕ)
    (done : propose_of T state fs found.block (edit_at (64 * found.place) bytes adds [] after) ≡ Ok (entry, new)) where
  abbrev v3 : ℕ → List ℕ
  v3 = latest state.lives

  abbrev v4 : ℕ → List ℕ
  v4 = latest new.lives

  standing : Stands v3 fs n found.inode
  standing = stands_from v3 fs n found.inode (file_from v3 fs n found.inode is)

  home_at : Under T v3 fs found.block 4
  home_at = under_inodes T library_layout (library_reads T lib) v3 fs ((n - 1) / 8) found.block file.is.stands.inodes

  others_at : (c : ℕ) → c ≢ found.block → v4 c ≡ v3 c
  others_at = proposed_others T state new h fs found.block (edit_at (64 * found.place) bytes adds [] after) entry done

  at_type : (c u : ℕ) → Under T v3 fs c u → u ≢ 4 → c ≢ found.block
  at_type c u r ne e = ne (one_type T state h fs c u 4 few r (subst (λ z. Under T v3 fs z 4) (sym e) home_at))

  put_file : (inode_in v4 fs n ≡ Ok bytes) × ((d : ℕ) → d ≢ n → SameInode v3 v4 fs d)
  put_file = inode_put T lib state new h fs few n found.block found.place file.is.stands standing.low bytes whole (λ z. file.is.used (sym mode ∙ z)) adds [] after entry done

  pub file_others : (d : ℕ) → d ≢ n → SameInode v3 v4 fs d
  file_others = put_file.1

  pub file_now : Ok bytes ≡ file_in v4 fs n
  file_now = file_is bytes (λ z. file.file (sym mode ∙ z)) ∙ in_file v4 fs n (Ok bytes) (sym put_file.0)

  pointers_stay : word_at found.inode 56 ≢ 0 → v4 (word_at found.inode 56) ≡ v3 (word_at found.inode 56)
  pointers_stay ne = let r = pointers_at T lib state h fs few n found.inode standing (word_at found.inode 56) refl ne in others_at (word_at found.inode 56) (at_type (word_at found.inode 56) 5 r (λ z. omega (arith, z)))

  -- where all its blocks stay, so do its bytes
  byte_stays : (i k : ℕ) → i < 140 → byte_in v4 (file_block v3 found.inode i) k ≡ byte_in v3 (file_block v3 found.inode i) k
  byte_stays i k low = byte_same v3 v4 (file_block v3 found.inode i) k (λ some.
      others_at (file_block v3 found.inode i) (at_type (file_block v3 found.inode i) 2 (block_at T lib state h fs few n found.inode standing i (file_block v3 found.inode i) low refl some) (λ z. omega (arith, z))))

  -- a block more that its inode points to
  pub direct_attached : inode_links bytes ≡ inode_links found.inode → (index block : ℕ) → index < 12 → (fields_of bytes).direct ≡ slice_set (fields_of found.inode).direct index block → word_at bytes 56 ≡ word_at found.inode 56 → word_at bytes 4 ≡ word_at found.inode 4 → HasBlock T v3 v4 fs n found.inode index block
  direct_attached links index block low set last size = record {
    after = bytes;
    file = file_now;
    size = size;
    marks = (mode, links);
    here = direct_block v4 bytes index low ∙ (direct_get bytes index low ∙ (ap (λ ws. get_or ws index 0) set ∙ get_here (fields_of found.inode).direct index block low));
    elsewhere = λ i less ne. blocks_agree v4 bytes found.inode i (λ lt. direct_get bytes i lt ∙ (ap (λ ws. get_or ws i 0) set ∙ (get_apart (fields_of found.inode).direct index block i ne ∙ sym (direct_get found.inode i lt)))) last
        ∙ file_block_by v3 v4 found.inode pointers_stay i;
    home = found.block;
    type_of = 4;
    reached = home_at;
    no_data = λ z. omega (arith, z);
    bytes = others_at;
    others = put_file.1;
  }

  -- a block of pointers that are all 0
  pub pointers_attached : inode_links bytes ≡ inode_links found.inode → (block : ℕ) → (fields_of bytes).direct ≡ (fields_of found.inode).direct → word_at bytes 56 ≡ block → word_at bytes 4 ≡ word_at found.inode 4 → v3 block ≡ zero_block → found.block ≢ block → word_at found.inode 56 ≡ 0 →
      WroteBytes v3 v4 fs n found.inode 0 []
  pointers_attached links block direct last size bare apart none = record {
    after = bytes;
    file = file_now;
    size = size;
    marks = (mode, links);
    each = λ x low.
        ap (λ b. byte_in v4 b (x % 512)) (same_block (x / 512)) ∙ (byte_stays (x / 512) (x % 512) (omega (arith, low)) ∙ written_none (byte_of v3 found.inode) 0 x);
  }
    where
      below : (i : ℕ) → 12 ≤ i → file_block v4 bytes i ≡ 0
      below i ge = elim (cases_eq block 0) [
        | inl e ↦ no_pointers v4 bytes i ge (last ∙ e)
        | inr ne ↦
            pointed_block v4 bytes i ge (λ z. ne (sym last ∙ z))
            ∙ (ap (λ c. pointer_word (v4 c) (i - 12)) last ∙ (ap (λ m. pointer_word m (i - 12)) (others_at block (λ e. apart (sym e)) ∙ bare) ∙ zero_word (4 * (i - 12))))
      ]

      same_block : (i : ℕ) → file_block v4 bytes i ≡ file_block v3 found.inode i
      same_block i = elim (cases_lt i 12) [
        | inl lt ↦ direct_block v4 bytes i lt ∙ (direct_get bytes i lt ∙ (ap (λ ws. get_or ws i 0) direct ∙ (sym (direct_get found.inode i lt) ∙ sym (direct_block v3 found.inode i lt))))
        | inr ge ↦ below i ge ∙ sym (no_pointers v3 found.inode i ge none)
      ]

  -- another size
  pub size_raised : inode_links bytes ≡ inode_links found.inode → (size : ℕ) → (fields_of bytes).direct ≡ (fields_of found.inode).direct → word_at bytes 56 ≡ word_at found.inode 56 → word_at bytes 4 ≡ size → word_at found.inode 4 < size → IsRaised v3 v4 fs n found.inode size
  size_raised links size direct last sized less = record {
    after = bytes;
    file = file_now;
    sized = sized ∙ omega (arith, less);
    marks = (mode, links);
    each = λ x low.
        let same = blocks_agree v4 bytes found.inode (x / 512) (λ lt. direct_get bytes (x / 512) lt ∙ (ap (λ ws. get_or ws (x / 512) 0) direct ∙ sym (direct_get found.inode (x / 512) lt))) last ∙ file_block_by v3 v4 found.inode pointers_stay (x / 512) in
        ap (λ b. byte_in v4 b (x % 512)) same ∙ byte_stays (x / 512) (x % 512) (omega (arith, low));
  }

-- A pointer of a file's block of pointers is set
pub data_attached : (T : Types) (lib : IsLibrary T) (state new : StoreState) (h : IsConsistent T state) (fs : ℕ) (few : fs < 32) (n : ℕ) (inode : List ℕ) (is : Ok inode ≡ file_in (latest state.lives) fs n) (last place block entry : ℕ) → word_at inode 56 ≡ last → last ≢ 0 → place < 128 →
    length (latest state.lives last) ≡ 512 → block < 2 ^ 32 → (after : Option ℕ) → propose_of T state fs last (edit_at (4 * place) (to_le_bytes w32 block) ((block, 2) ∷ []) [] after) ≡ Ok (entry, new) → HasBlock T (latest state.lives) (latest new.lives) fs n inode (12 + place) block
data_attached T lib state new h fs few n inode is last place block entry points there low long small after done = record {
  after = inode;
  file = is ∙ sym (file_same v w fs n (inodes_same T lib v w fs last 5 t (λ z. omega (arith, z)) (λ z. omega (arith, z)) n));
  size = refl;
  marks = (refl, refl);
  here = read w (12 + place) (omega arith) ∙ (ap (λ j. pointer_word (w last) j) less ∙ word_here);
  elsewhere = λ i high ne. elim (cases_lt i 12) [
    | inl lt ↦ direct_block w inode i lt ∙ sym (direct_block v inode i lt)
    | inr ge ↦ read w i ge ∙ (word_same (i - 12) (omega (arith, ge, ne)) ∙ sym (read v i ge))
  ];
  home = last;
  type_of = 5;
  reached = at;
  no_data = λ z. omega (arith, z);
  bytes = proposed_others T state new h fs last edit entry done;
  others = pointers_touched T lib state h fs few w last 5 t refl n inode own points there;
}
  where
    v : ℕ → List ℕ
    v = latest state.lives

    w : ℕ → List ℕ
    w = latest new.lives

    edit : Edit
    edit = edit_at (4 * place) (to_le_bytes w32 block) ((block, 2) ∷ []) [] after

    own : Stands v fs n inode
    own = stands_from v fs n inode (file_from v fs n inode is)

    at : Under T v fs last 5
    at = pointers_at T lib state h fs few n inode own last points there

    t : Touches T v w fs last 5
    t = edited T state new h fs few last 5 edit entry done at

    four : length (to_le_bytes w32 block) ≡ 4
    four = refl

    fit : 4 * place + length (to_le_bytes w32 block) ≤ length (v last)
    fit = omega (arith, four, low, long)

    put_here : w last ≡ put (v last) (4 * place) (to_le_bytes w32 block)
    put_here = proposed_here T state new h fs last edit entry done

    word_here : pointer_word (w last) place ≡ block
    word_here = ap (λ m. pointer_word m place) put_here ∙ (word_within (v last) (4 * place) (to_le_bytes w32 block) fit (4 * place) 0 (omega arith) (omega (arith, four)) ∙ word_read block small)

    word_same : (j : ℕ) → j ≢ place → pointer_word (w last) j ≡ pointer_word (v last) j
    word_same j ne =
        let away : (4 * j + 4 ≤ 4 * place) ⊎ (4 * place + length (to_le_bytes w32 block) ≤ 4 * j) = elim (cases_lt j place) [ inl lt ↦ inl (omega (arith, lt)) | inr ge ↦ inr (omega (arith, ge, ne, four)) ] in
        ap (λ m. pointer_word m j) put_here ∙ word_apart (v last) (4 * place) (to_le_bytes w32 block) fit (4 * j) away

    read : (content : ℕ → List ℕ) (i : ℕ) → 12 ≤ i → file_block content inode i ≡ pointer_word (content last) (i - 12)
    read content i ge = pointed_block content inode i ge (λ z. there (sym points ∙ z)) ∙ ap (λ c. pointer_word (content c) (i - 12)) points

    less : 12 + place - 12 ≡ place
    less = omega arith

-- nothing is written
pub wrote_none : (v : ℕ → List ℕ) (fs n start : ℕ) (inode : List ℕ) → Ok inode ≡ file_in v fs n → WroteBytes v v fs n inode start []
wrote_none v fs n start inode is = record { after = inode; file = is; size = refl; marks = (refl, refl); each = λ x low. written_none (byte_of v inode) start x }

-- a place of a file's block of pointers, after a block was begun
pub indirect_block : (content : ℕ → List ℕ) (inode : List ℕ) (last place : ℕ) → word_at inode 56 ≡ last → last ≢ 0 → file_block content inode (12 + place) ≡ pointer_word (content last) place
indirect_block content inode last place e ne =
    let less : 12 + place - 12 ≡ place = omega arith in
    pointed_block content inode (12 + place) (omega arith) (λ z. ne (sym e ∙ z)) ∙ (ap (λ c. pointer_word (content c) (12 + place - 12)) e ∙ ap (λ j. pointer_word (content last) j) less)

-- the ends of files
pub end_raised : (a s : ℕ) → s ≤ most_bytes → min (max a s) most_bytes ≡ max (min a most_bytes) s
end_raised a s low = elim (cases_lt a s) [
  | inl lt ↦
      let up : max a s ≡ s = max-eq_right (omega (arith, lt)) in
      let end : min s most_bytes ≡ s = min-eq_left low in
      let own : min a most_bytes ≡ a = min-eq_left (omega (arith, lt, low)) in
      ap (λ x. min x most_bytes) up ∙ (end ∙ (sym up ∙ ap (λ x. max x s) (sym own)))
  | inr ge ↦
      let same : max a s ≡ a = max-eq_left ge in
      let least : s ≤ min a most_bytes = elim (cases_lt a most_bytes) [
        | inl lt ↦ (let own : min a most_bytes ≡ a = min-eq_left (omega (arith, lt)) in subst (λ x. s ≤ x) (sym own) ge)
        | inr more ↦ (let own : min a most_bytes ≡ most_bytes = min-eq_right more in subst (λ x. s ≤ x) (sym own) low)
      ] in
      let rest : max (min a most_bytes) s ≡ min a most_bytes = max-eq_left least in
      ap (λ x. min x most_bytes) same ∙ sym rest
]
