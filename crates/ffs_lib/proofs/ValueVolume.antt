-- What `make` leaves is what its function of the files says.
use Rattle.std.proofs.Common.{◌≡◌, ◌≢◌, ℕ, ◌-◌, ◌/◌, ◌%◌, ◌<◌, ◌≤◌, ◌⊎◌, ◌+◌, ◌*◌, Bool, true, false, List, Ok, Err, refl, eq-eqb, sym, ◌∙◌, ap, inl, inr, arith, subst, IsOk, MatchResult, Result, not, nat_le, nat_lt, ◌==◌, ◌&&◌, ◌||◌, if◌then◌else◌, eqb-true, le-leb, ne_eqb}
use Rattle.ffs_lib.proofs.Common.{Exists, FfsFault, IsRoot, Kernel, NoEntry, Pending, RootTaken, StoreState, Types, Unsound, and_then, cases_eq, cases_lt}
use Rattle.ffs_lib.proofs.Common.{eqb-false, files_of, has_pointer, if_bare, inode_at, inode_block_in, inode_value, latest, lt-leb, make_from, make_in, mapped}
use Rattle.ffs_lib.proofs.Common.{pending_of, pointer_word, put, range_with_len, root_in, slot, unless_zero, value_in, zero_block}
use Rattle.xn_model.proofs.ForCallers.{any_at, any_from, range_at}
use Rattle.ffs_lookup.specs.Files.{Absent, Answer, Files, Free, empty_volume, is_absent, made, new_directory}
use Rattle.ffs_lookup.proofs.ForCallers.{good_number, in_root_block, root_again, value_by_place, value_outside, value_there}
use Rattle.ffs_lib.specs.Making.{StopsTop, any_inode, newly_made, unless_inodes, unless_taken}
use Rattle.ffs_lib.specs.Outcomes.{FirstInodes}
use Rattle.ffs_lib.specs.Stages.{Does, make_stages}
use Rattle.ffs_lib.specs.Steps.{Stops}
use Rattle.ffs_lib.specs.Results.{new_inode}
use Rattle.ffs_lib.proofs.Owners.{number_from}
use Rattle.ffs_lib.proofs.Tops.{among, free_beside, has_inodes, has_none, has_others, no_blocks, top_there}
use Rattle.ffs_lib.proofs.ValueMade.{directory_made}

-- a file system that `make` may begin has no files
pub no_files : (v : ℕ → List ℕ) (fs : ℕ) (begun : Bool) → Ok begun ≡ make_in v fs → (n : ℕ) → files_of v fs n ≡ Absent
no_files v fs begun e n = go ((n == 0) || nat_lt 128 n) refl
  where
    go : (t : Bool) → ((n == 0) || nat_lt 128 n) ≡ t → files_of v fs n ≡ Absent
    go true out = value_outside v fs n out
    go false right =
        let low = (number_from n right).1 in
        value_by_place v fs n right ∙ ap (λ (b : Result ℕ FfsFault). value_in v (and_then b (λ block. Ok (inode_at (v block) ((n - 1) % 8))))) (sym (no_blocks v fs begun e ((n - 1) / 8) (omega (arith, low))))

none_made : (v : ℕ → List ℕ) (fs : ℕ) (begun : Bool) → Ok begun ≡ make_in v fs → unless_inodes (files_of v fs) (made (files_of v fs)) ≡ Ok (tt, empty_volume)
none_made v fs begun e = ap (λ (files : Files). unless_inodes files (made files)) (λ i n. no_files v fs begun e n i)

-- where it stands there is an inode
first_block : (v : ℕ → List ℕ) (fs : ℕ) → (slot (v 0) fs).0 == 0 ≡ false → (slot (v 0) fs).1 == 3 ≡ true → pointer_word (v (slot (v 0) fs).0) 0 == 0 ≡ false → inode_block_in v fs 0 ≡ Ok (pointer_word (v (slot (v 0) fs).0) 0)
unfolding inode_block_in root_in
first_block v fs a b c =
    let s = slot (v 0) fs in
    ap (λ (t : Bool). and_then (if t then Err NoEntry else if s.1 == 3 then Ok s.0 else Err NoEntry) (λ root. unless_zero (pointer_word (v root) 0))) a
    ∙ (ap (λ (t : Bool). and_then (if t then Ok s.0 else Err NoEntry) (λ root. unless_zero (pointer_word (v root) 0))) b ∙ ap (λ (t : Bool). if t then Err NoEntry else Ok (pointer_word (v s.0) 0)) c)

stands : (v : ℕ → List ℕ) (fs : ℕ) → Err Exists ≡ make_in v fs → made (files_of v fs) ≡ Err Exists
unfolding make_in
stands v fs e = ap (λ (t : Bool). if t then Ok (tt, empty_volume) else Err Exists) there
  where
    bare : (t u : Bool) → Err Exists ≡ (if t then (if u then Err (Unsound 1) else Ok true) else Err Exists) → t ≡ false
    bare true true f = absurd (cc f)
    bare true false f = absurd (cc f)
    bare false u f = refl

    typed : (t u : Bool) (m : List ℕ) → Err Exists ≡ (if t then Ok false else if u then if_bare m else Err (Kernel RootTaken)) → (t ≡ false) × (u ≡ true) × ((pointer_word m 0 == 0) ≡ false)
    typed true u m f = absurd (cc f)
    typed false true m f = (refl, refl, bare (pointer_word m 0 == 0) (has_pointer m) f)
    typed false false m f = absurd (cc f)

    there : is_absent (files_of v fs 1) ≡ false
    there =
        let x = typed ((slot (v 0) fs).0 == 0) ((slot (v 0) fs).1 == 3) (v (slot (v 0) fs).0) e in
        ap is_absent (value_by_place v fs 1 refl ∙ ap (λ (b : Result ℕ FfsFault). value_in v (and_then b (λ block. Ok (inode_at (v block) 0)))) (first_block v fs x.0 x.1 x.2)) ∙ value_there v (inode_at (v (pointer_word (v (slot (v 0) fs).0) 0)) 0)

-- the first block of inodes makes an empty volume
pub empty_there : (v w : ℕ → List ℕ) (fs : ℕ) → Ok true ≡ make_in v fs → FirstInodes v w fs (put zero_block 0 (new_inode 2)) → (n : ℕ) → files_of w fs n ≡ empty_volume n
empty_there v w fs ready f n = go ((n == 0) || nat_lt 128 n) refl
  where
    past : n ≢ 1 → 8 < n → empty_volume n ≡ Absent
    past ne high = ap (λ (t : Bool). if t then new_directory else if not (n == 0) && nat_le n 8 then Free else Absent) (ne_eqb n 1 ne)
        ∙ (ap (λ (t : Bool). if not t && nat_le n 8 then Free else Absent) (ne_eqb n 0 (λ z. omega (arith, z, high))) ∙ ap (λ (t : Bool). if t then Free else Absent) (lt-leb n 8 high))

    outside : (n ≡ 0) ⊎ (n ≢ 0) → (n == 0) || nat_lt 128 n ≡ true → empty_volume n ≡ Absent
    outside (inl z) e = ap empty_volume z
    outside (inr ne) e =
        let high : 128 < n = elim (cases_lt 128 n) [ inl lt ↦ lt | inr le ↦ absurd (cc (sym (right ne le) ∙ e)) ] in
        past (λ z. omega (arith, z, high)) (omega (arith, high))
      where
        right : n ≢ 0 → n ≤ 128 → (n == 0) || nat_lt 128 n ≡ false
        right some low = good_number n some low

    within : (n ≡ 1) ⊎ (n ≢ 1) → n ≢ 0 → n ≤ 8 → inode_value w (inode_at (put zero_block 0 (new_inode 2)) ((n - 1) % 8)) ≡ empty_volume n
    within (inl z) some low =
        ap (λ (k : ℕ). inode_value w (inode_at (put zero_block 0 (new_inode 2)) ((k - 1) % 8))) z ∙ (ap (inode_value w) top_there ∙ (directory_made w ∙ ap empty_volume (sym z)))
    within (inr ne) some low =
        ap (inode_value w) (free_beside ((n - 1) % 8) (λ z. omega (arith, z, ne, some, low)) (omega arith))
        ∙ sym (ap (λ (t : Bool). if t then new_directory else if not (n == 0) && nat_le n 8 then Free else Absent) (ne_eqb n 1 ne)
        ∙ (ap (λ (t : Bool). if not t && nat_le n 8 then Free else Absent) (ne_eqb n 0 some) ∙ ap (λ (t : Bool). if t then Free else Absent) (le-leb n 8 low)))

    go : (t : Bool) → ((n == 0) || nat_lt 128 n) ≡ t → files_of w fs n ≡ empty_volume n
    go true out = value_outside w fs n out ∙ sym (outside (cases_eq n 0) out)
    go false right =
        let r = number_from n right in
        value_by_place w fs n right ∙ elim (cases_lt n 9) [
          | inl lt ↦ ap (value_in w) (f.first n r.1 (omega (arith, lt))) ∙ within (cases_eq n 1) r.0 (omega (arith, lt))
          | inr ge ↦
              ap (value_in w) (f.rest n r.1 (λ z. omega (arith, z, ge)))
              ∙ (ap (λ (b : Result ℕ FfsFault). value_in w (and_then b (λ block. Ok (inode_at (v block) ((n - 1) % 8))))) (sym (no_blocks v fs true ready ((n - 1) / 8) (omega (arith, r.1)))) ∙ sym (past (λ z. omega (arith, z, ge)) (omega (arith, ge))))
        ]

-- How `make` follows its function

-- a root block points to another block of inodes, and not to the first
module _ (v : ℕ → List ℕ) (fs r : ℕ) (is_root : IsRoot v fs r) (none : pointer_word (v r) 0 ≡ 0) (some : has_pointer (v r) ≡ true) where
  block_of : (j : ℕ) → unless_zero (pointer_word (v r) j) ≡ inode_block_in v fs j
  block_of j = in_root_block v fs j r (v r) (root_again v fs r is_root) refl

  first_absent : is_absent (files_of v fs 1) ≡ true
  first_absent =
      ap is_absent (value_by_place v fs 1 refl
      ∙ ap (λ (b : Result ℕ FfsFault). value_in v (and_then b (λ block. Ok (inode_at (v block) 0)))) (sym (block_of 0) ∙ ap (λ (t : Bool). if t then Err NoEntry else Ok (pointer_word (v r) 0)) (eq-eqb (pointer_word (v r) 0) 0 none)))

  one_there : any_inode (files_of v fs) ≡ true
  one_there =
      let x = any_at (λ j. not (pointer_word (v r) j == 0)) (range_with_len 0 16) some in
      let few = (range_at 0 16 x.0 x.1).1 in
      there x.0 (omega (arith, few)) (set x.0 x.2)
    where
      set : (j : ℕ) → not (pointer_word (v r) j == 0) ≡ true → (pointer_word (v r) j == 0) ≡ false
      set j e = off (pointer_word (v r) j == 0) e
        where
          off : (t : Bool) → not t ≡ true → t ≡ false
          off true f = absurd (cc f)
          off false f = refl

      there : (j : ℕ) → j < 16 → (pointer_word (v r) j == 0) ≡ false → any_inode (files_of v fs) ≡ true
      there j low e =
          any_from (λ n. not (is_absent (files_of v fs n))) (range_with_len 1 128) (8 * j + 1) (among 128 1 (8 * j + 1) (omega arith) (omega (arith, low)))
          (ap not (ap is_absent (value_by_place v fs (8 * j + 1) (good_number (8 * j + 1) (λ z. omega (arith, z)) (omega (arith, low)))
          ∙ ap (λ (b : Result ℕ FfsFault). value_in v (and_then b (λ block. Ok (inode_at (v block) ((8 * j + 1 - 1) % 8))))) (at_index ((8 * j + 1 - 1) / 8) (omega arith))) ∙ value_there v (inode_at (v (pointer_word (v r) j)) ((8 * j + 1 - 1) % 8))))
        where
          at_index : (i : ℕ) → i ≡ j → inode_block_in v fs i ≡ Ok (pointer_word (v r) j)
          at_index i same = ap (inode_block_in v fs) same ∙ (sym (block_of j) ∙ ap (λ (t : Bool). if t then Err NoEntry else Ok (pointer_word (v r) j)) e)

  others_made : unless_inodes (files_of v fs) (made (files_of v fs)) ≡ Err (Unsound 1)
  others_made =
      ap (λ (t : Bool). unless_inodes (files_of v fs) (if t then Ok (tt, empty_volume) else Err Exists)) first_absent ∙ ap (λ (t : Bool). if t then Err (Unsound 1) else Ok (tt, empty_volume)) one_there

-- which root slot there is
slot_none : (v : ℕ → List ℕ) (fs : ℕ) → (slot (v 0) fs).0 ≡ 0 → Ok false ≡ make_in v fs
unfolding make_in
slot_none v fs e =
    let s = slot (v 0) fs in
    sym (ap (λ (t : Bool). if t then Ok false else if s.1 == 3 then if_bare (v s.0) else Err (Kernel RootTaken)) (eq-eqb s.0 0 e))

slot_root : (v : ℕ → List ℕ) (fs r : ℕ) → IsRoot v fs r → if_bare (v r) ≡ make_in v fs
unfolding make_in
slot_root v fs r is = sym (
    ap (λ (s : ℕ × ℕ). if s.0 == 0 then Ok false else if s.1 == 3 then if_bare (v s.0) else Err (Kernel RootTaken)) is.at
    ∙ ap (λ (t : Bool). if t then Ok false else if_bare (v r)) (ne_eqb r 0 is.there)
    )

slot_other : (v : ℕ → List ℕ) (fs : ℕ) → (slot (v 0) fs).0 ≢ 0 → (slot (v 0) fs).1 ≢ 3 → Err (Kernel RootTaken) ≡ make_in v fs
unfolding make_in
slot_other v fs some other =
    let s = slot (v 0) fs in
    sym (ap (λ (t : Bool). if t then Ok false else if s.1 == 3 then if_bare (v s.0) else Err (Kernel RootTaken)) (ne_eqb s.0 0 some)
    ∙ ap (λ (t : Bool). if t then if_bare (v s.0) else Err (Kernel RootTaken)) (ne_eqb s.1 3 other))

-- its function answers what it looks up
module _ (state : StoreState) (fs : ℕ) where
  abbrev v : ℕ → List ℕ
  v = latest state.lives

  abbrev s : ℕ × ℕ
  s = slot (latest state.lives 0) fs

  abbrev answer : Answer (Unit {0})
  answer = unless_inodes (files_of (latest state.lives) fs) (made (files_of (latest state.lives) fs))

  bare : (r : ℕ) → IsRoot v fs r → (t u : Bool) → (pointer_word (v r) 0 == 0) ≡ t → has_pointer (v r) ≡ u → answer ≡ mapped (λ begun. (tt, empty_volume)) (make_in v fs)
  bare r is true true e f =
      let none = eqb-true (pointer_word (v r) 0) 0 e in
      others_made v fs r is none f ∙ ap (mapped (λ begun. (tt, empty_volume))) (has_others (v r) none f ∙ slot_root v fs r is)
  bare r is true false e f =
      let begun = has_none (v r) (eqb-true (pointer_word (v r) 0) 0 e) f ∙ slot_root v fs r is in
      none_made v fs true begun ∙ ap (mapped (λ begun. (tt, empty_volume))) begun
  bare r is false u e f =
      let there = has_inodes (v r) (eqb-false (pointer_word (v r) 0) 0 e) ∙ slot_root v fs r is in
      ap (unless_inodes (files_of v fs)) (stands v fs there) ∙ ap (mapped (λ begun. (tt, empty_volume))) there

  by_slot : (t u : Bool) → (s.0 == 0) ≡ t → (s.1 == 3) ≡ u → (if t || u then answer else Err (Kernel RootTaken)) ≡ mapped (λ begun. (tt, empty_volume)) (make_in v fs)
  by_slot true u e f =
      let none = slot_none v fs (eqb-true s.0 0 e) in
      none_made v fs false none ∙ ap (mapped (λ begun. (tt, empty_volume))) none
  by_slot false true e f =
      let is : IsRoot v fs s.0 = record { at = λ i. (s.0, (eqb-true s.1 3 f) i); there = eqb-false s.0 0 e } in
      bare s.0 is (pointer_word (v s.0) 0 == 0) (has_pointer (v s.0)) refl refl
  by_slot false false e f = ap (mapped (λ begun. (tt, empty_volume))) (slot_other v fs (eqb-false s.0 0 e) (eqb-false s.1 3 f))

  idle : (t : Bool) → (if t then unless_taken s answer else Err Pending) ≡ mapped (λ begun. (tt, empty_volume)) (if t then make_in v fs else Err Pending)
  idle true = by_slot (s.0 == 0) (s.1 == 3) refl refl
  idle false = refl

  pub newly_is : newly_made state fs (files_of (latest state.lives) fs) ≡ mapped (λ begun. (tt, empty_volume)) (make_from state fs)
  newly_is = idle (pending_of state fs == 0)

-- a look-up failed
pub make_fails : (T : Types) (state : StoreState) (fs : ℕ) (fault : FfsFault) (result : Result (Unit {0}) FfsFault) → Err fault ≡ make_from state fs → result ≡ Err fault →
    Does T fs (newly_made state fs (files_of (latest state.lives) fs)) (make_stages (files_of (latest state.lives) fs)) state state result
make_fails T state fs fault result e is =
    subst (λ (a : Answer (Unit {0})). Does T fs a (make_stages (files_of (latest state.lives) fs)) state state result) (ap (mapped (λ begun. (tt, empty_volume))) e ∙ sym (newly_is state fs)) (is, refl)

-- or they passed
pub make_does : (T : Types) (state new : StoreState) (fs : ℕ) (begun : Bool) → Ok begun ≡ make_from state fs → (attached : Result ℕ FfsFault) →
    MatchResult attached (λ x. (n : ℕ) → files_of (latest new.lives) fs n ≡ empty_volume n) (Stops (StopsTop T fs state new)) → (result : Result (Unit {0}) FfsFault) → result ≡ mapped (λ x. tt) attached →
    Does T fs (newly_made state fs (files_of (latest state.lives) fs)) (make_stages (files_of (latest state.lives) fs)) state new result
make_does T state new fs begun e attached ends result is =
    subst (λ (a : Answer (Unit {0})). Does T fs a (make_stages (files_of (latest state.lives) fs)) state new result) (ap (mapped (λ begun. (tt, empty_volume))) e ∙ sym (newly_is state fs))
    (subst (λ (r : Result (Unit {0}) FfsFault). Does T fs (Ok (tt {0}, empty_volume)) (make_stages (files_of (latest state.lives) fs)) state new r) (sym is) (go attached ends))
  where
    go : (r : Result ℕ FfsFault) → MatchResult r (λ x. (n : ℕ) → files_of (latest new.lives) fs n ≡ empty_volume n) (Stops (StopsTop T fs state new)) →
        Does T fs (Ok (tt {0}, empty_volume)) (make_stages (files_of (latest state.lives) fs)) state new (mapped (λ x. tt {0}) r)
    go (Ok x) there = (refl, there)
    go (Err fault) stop = (stop.0, inl stop.1)

is_ok : (r : Answer (Unit {0})) (fault : FfsFault) → r ≡ Err fault → IsOk r → ⊥
is_ok (Ok x) fault e ok = cc
is_ok (Err f) fault e ok = cc

pub never_made : (state : StoreState) (fs : ℕ) (fault : FfsFault) → Err fault ≡ make_from state fs → IsOk (newly_made state fs (files_of (latest state.lives) fs)) → ⊥
never_made state fs fault e ok = is_ok (newly_made state fs (files_of (latest state.lives) fs)) fault (newly_is state fs ∙ sym (ap (mapped (λ begun. (tt, empty_volume))) e)) ok
