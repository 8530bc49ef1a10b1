-- Edits of the library's blocks are refused for want of something alone.
use Rattle.std.proofs.Common.{◌≡◌, ℕ, suc, ◌+◌, ◌*◌, ◌^◌, ◌<◌, ◌≤◌, ◌≢◌, ◌⊎◌, true, ◌&&◌, List, [], ◌∷◌, ◌++◌, length, drop, Option, Some, None, refl, sym, ◌∙◌, ap, inl, inr, arith, subst}
use Rattle.std.specs.Prelude.{Contains, IsTrue, Err, filter_map, flat_map, option_to_list, nat_lt, nat_le}
use Rattle.std.specs.Int.{w32, to_le_bytes}
use Rattle.std.specs.List.{range_with_len, cons_option}
use Rattle.std.proofs.lemmas.Bool.{and_parts, and_from, cases_eq, cases_lt, lt-ltb, le-leb}
use Rattle.std.proofs.lemmas.Nat.{from_le_bytes-to_le_bytes_4}
use Rattle.std.proofs.lemmas.List.{drop_all, length-append, length-map, length-replicate, take_all, length-drop}
use Rattle.std.proofs.lemmas.List.FromFn.{length-range_with_len}
use Rattle.std.proofs.lemmas.List.Elements.{Contains-append_cases, Contains-append_left, Contains-append_right}
use Rattle.store_types.specs.declared.refusal.Refusal.{Refusal}
use Rattle.xn_model.specs.Lists.{blank, blocks_of, put}
use Rattle.xn_model.specs.Types.{Types, named_once, within_size}
use Rattle.xn_model.specs.Root.{word_at, unless_empty}
use Rattle.xn_model.specs.Lives.{StoreState}
use Rattle.xn_model.specs.Calls.{Edit, init_of, may_add, propose_of, was_given, within_limits}
use Rattle.xn_model.specs.Rules.{IsConsistent}
use Rattle.xn_model.proofs.ForCallers.{Contains-cons, Contains-none, addable, bytes_apart, length_put}
use Rattle.ffs_model.specs.Cuts.{Under, latest}
use Rattle.ffs_model.specs.Library.{IsLibrary, direct_word, inode_at, inode_pairs, pointed, pointer_word, zero_block}
use Rattle.ffs_model.specs.Shortages.{is_shortage}
use Rattle.ffs_model.proofs.Library.{is_not_empty, pointed_at}
use Rattle.ffs_model.proofs.Patches.{word_apart, word_part, word_within}
use Rattle.ffs_model.proofs.Zeros.{zero_word}
use Rattle.ffs_model.proofs.Pairs.{Replaces, all_of, changes_add, changes_drop, changes_none, dropped_distinct, flat_kept, flat_replaced, pointed_kept, pointed_none, pointed_set, replaces_in, within_parts}
use Rattle.ffs_model.proofs.Shortages.{edit_short, held, init_short, may_all_drop, all_empty, once_held, unnamed}

-- an edit with one patch
abbrev one_patch : ℕ → List ℕ → List (ℕ × ℕ) → List ℕ → Option ℕ → Edit
one_patch offset bytes adds drops after = record { patches = record { offset = offset; bytes = bytes } ∷ []; adds = adds; drops = drops; after = after }

limits_one : (offset : ℕ) (bytes : List ℕ) (adds : List (ℕ × ℕ)) (drops : List ℕ) (after : Option ℕ) → 0 < length bytes → offset + length bytes ≤ 512 → length adds ≤ 16 → length drops ≤ 128 →
    within_limits (one_patch offset bytes adds drops after) ≡ true
limits_one offset bytes adds drops after some few adds_few drops_few =
    let patch : ((nat_lt 0 (length bytes) && nat_le (offset + length bytes) 512) && true) ≡ true =
    and_from (nat_lt 0 (length bytes) && nat_le (offset + length bytes) 512) true (and_from (nat_lt 0 (length bytes)) (nat_le (offset + length bytes) 512) (lt-ltb 0 (length bytes) some) (le-leb (offset + length bytes) 512 few)) refl in
    let sum : nat_le (0 + length bytes) 512 ≡ true = le-leb (0 + length bytes) 512 (omega arith) in
    and_from ((nat_lt 0 (length bytes) && nat_le (offset + length bytes) 512) && true && nat_le (0 + length bytes) 512) (nat_le (length adds) 16 && nat_le (length drops) 128)
    (and_from ((nat_lt 0 (length bytes) && nat_le (offset + length bytes) 512) && true) (nat_le (0 + length bytes) 512) patch sum)
    (and_from (nat_le (length adds) 16) (nat_le (length drops) 128) (le-leb (length adds) 16 adds_few) (le-leb (length drops) 128 drops_few))

-- Sizes

whole_size : (T : Types) (t : ℕ) (bytes : List ℕ) → T.size t bytes ≡ 512 → length bytes ≤ 512 → within_size T t bytes ≡ true
whole_size T t bytes size long = ap (λ n. blank (drop n bytes)) size ∙ ap blank (drop_all 512 bytes long)

-- New blocks

pub data_begun : (T : Types) (state : StoreState) → IsConsistent T state → (fs : ℕ) (bytes : List ℕ) → length bytes ≡ 512 → (r : Refusal) → init_of T state fs 2 bytes ≡ Err r → is_shortage r ≡ true
data_begun T state h fs bytes long = init_short T state fs 2 bytes (omega arith) h.built_ins.data_type (whole_size T 2 bytes (h.built_ins.data_size bytes) (omega arith)) (h.built_ins.data_owns bytes)

-- Few pointers

filter_few : (f : ℕ → Option (ℕ × ℕ)) (xs : List ℕ) → length (filter_map f xs) ≤ length xs
filter_few f [] = omega arith
filter_few f (x ∷ xs) = go (f x) (filter_few f xs)
  where
    go : (o : Option (ℕ × ℕ)) → length (filter_map f xs) ≤ length xs → length (cons_option o (filter_map f xs)) ≤ suc (length xs)
    go None le = omega arith
    go (Some p) le = omega arith

pointed_few : (word : ℕ → ℕ) (n ty : ℕ) → length (pointed word n ty) ≤ n
pointed_few word n ty = let e : length (range_with_len 0 n) ≡ n = length-range_with_len 0 n in let le = filter_few (λ i. unless_empty (word i, ty)) (range_with_len 0 n) in omega (arith, e, le)

option_few : (o : Option (ℕ × ℕ)) → length (option_to_list o) ≤ 1
option_few None = omega arith
option_few (Some p) = omega arith

inode_few : (bytes : List ℕ) → length (inode_pairs bytes 0) ≤ 128
inode_few bytes =
    let xs = pointed (direct_word bytes 0) 12 2 in
    let o = unless_empty (word_at bytes 56, 5) in
    let one = pointed_few (direct_word bytes 0) 12 2 in
    let two = option_few o in
    let sum : length (xs ++ option_to_list o) ≡ length xs + length (option_to_list o) = length-append xs (option_to_list o) in
    omega (arith, one, two, sum)

-- the pair of a last word
last_pair : (w ty c u : ℕ) → Contains (option_to_list (unless_empty (w, ty))) (c, u) → (c ≡ w) × (u ≡ ty) × (c ≢ 0)
last_pair w ty c u i = elim (cases_eq w 0) [
  | inl e ↦ absurd (Contains-none (c, u) (subst (λ x. Contains (option_to_list (unless_empty (x, ty))) (c, u)) e i))
  | inr ne ↦
      let j = subst (λ o. Contains (option_to_list o) (c, u)) (is_not_empty (w, ty) ne) i in
      elim (Contains-cons (w, ty) [] (c, u) j) [
        | inl e ↦ (ap (λ (p : ℕ × ℕ). p.0) (sym e), ap (λ (p : ℕ × ℕ). p.1) (sym e), λ z. ne (ap (λ (p : ℕ × ℕ). p.0) e ∙ z))
        | inr k ↦ absurd (Contains-none (c, u) k)
      ]
]

module _ (T : Types) (lib : IsLibrary T) where
  -- an inode's own pairs
  pub inode_part : (m : List ℕ) (p : ℕ) → p < 8 → inode_pairs m p ≡ inode_pairs (inode_at m p) 0
  inode_part m p few = λ i.
      pointed_kept (direct_word (inode_at m p) 0) (direct_word m p) 2 12 (λ k lt. word_part m p few (64 * p + 8 + 4 * k) (8 + 4 * k) (omega arith) (omega arith)) i
      ++ option_to_list (unless_empty (word_part m p few (64 * p + 56) 56 refl (omega arith) i, 5))

  -- without a pointer
  pub inode_bare : (bytes : List ℕ) → ((i : ℕ) → i < 12 → word_at bytes (8 + 4 * i) ≡ 0) → word_at bytes 56 ≡ 0 → inode_pairs bytes 0 ≡ []
  inode_bare bytes none last = λ i. pointed_none (direct_word bytes 0) 12 2 none i ++ option_to_list (unless_empty (last i, 5))

  pub inodes_none : (bytes : List ℕ) → ((p : ℕ) → p < 8 → inode_pairs bytes p ≡ []) → T.owned 4 bytes ≡ []
  inodes_none bytes none = lib.inodes bytes ∙ flat_kept (λ p. []) (inode_pairs bytes) 8 none

  zeros_bare : (p : ℕ) → inode_pairs zero_block p ≡ []
  zeros_bare p = λ i. pointed_none (direct_word zero_block p) 12 2 (λ k lt. zero_word (64 * p + 8 + 4 * k)) i ++ option_to_list (unless_empty (zero_word (64 * p + 56) i, 5))

  pub root_begun : (state : StoreState) (fs : ℕ) (r : Refusal) → init_of T state fs 3 zero_block ≡ Err r → is_shortage r ≡ true
  root_begun state fs = init_short T state fs 3 zero_block (omega arith) (lib.installed 3 (omega arith) (omega arith)) (ap (λ n. blank (drop n zero_block)) (lib.root_size zero_block)) (lib.root zero_block ∙ pointed_none (pointer_word zero_block) 16 4 (λ i lt. zero_word (4 * i)))

  pub inodes_begun : (state : StoreState) (fs : ℕ) (bytes : List ℕ) → length bytes ≡ 512 → ((p : ℕ) → p < 8 → inode_pairs bytes p ≡ []) → (r : Refusal) → init_of T state fs 4 bytes ≡ Err r → is_shortage r ≡ true
  inodes_begun state fs bytes long none =
      init_short T state fs 4 bytes (omega arith) (lib.installed 4 (omega arith) (omega arith)) (whole_size T 4 bytes (lib.inodes_size bytes) (omega arith)) (inodes_none bytes none)

  pub free_begun : (state : StoreState) (fs : ℕ) (r : Refusal) → init_of T state fs 4 zero_block ≡ Err r → is_shortage r ≡ true
  free_begun state fs = inodes_begun state fs zero_block (length-replicate {A = ℕ} 512 0) (λ p few. zeros_bare p)

  pub pointers_begun : (state : StoreState) (fs : ℕ) (r : Refusal) → init_of T state fs 5 zero_block ≡ Err r → is_shortage r ≡ true
  pointers_begun state fs = init_short T state fs 5 zero_block (omega arith) (lib.installed 5 (omega arith) (omega arith)) (whole_size T 5 zero_block (lib.indirect_size zero_block) (let e : length zero_block ≡ 512 = length-replicate {A = ℕ} 512 0 in omega arith))
      (lib.indirect zero_block ∙ pointed_none (pointer_word zero_block) 128 2 (λ i lt. zero_word (4 * i)))

  -- Edits of what is reached
  module _ (state : StoreState) (h : IsConsistent T state) (fs : ℕ) (few : fs < 32) (b t : ℕ) (at : Under T (latest state.lives) fs b t) (long : length (latest state.lives b) ≡ 512)
      (offset : ℕ) (bytes : List ℕ) (some : 0 < length bytes) (fits : offset + length bytes ≤ 512) (after : Option ℕ) (given : IsTrue (was_given state after)) where
    abbrev old : List ℕ
    old = latest state.lives b

    abbrev new : List ℕ
    new = put old offset bytes

    within : offset + length bytes ≤ length old
    within = omega arith

    new_long : length new ≡ 512
    new_long = length_put old offset bytes within ∙ long

    -- no block is added or dropped
    none_short : T.owned t new ≡ T.owned t old → within_size T t new ≡ true → (r : Refusal) → propose_of T state fs b (one_patch offset bytes [] [] after) ≡ Err r → is_shortage r ≡ true
    none_short same size = edit_short T state h fs few b t (one_patch offset bytes [] [] after) at (record {
      limits = limits_one offset bytes [] [] after some fits (omega arith) (omega arith);
      given = given;
      adds = refl;
      adds_once = refl;
      drops = refl;
      drops_once = refl;
      empty = refl;
      changes = changes_none T t old new (once_held T state h fs few b t at) size same;
    })

    -- one is added
    add_short : (c u : ℕ) → may_add state fs (c, u) ≡ true → Replaces (T.owned t old) (T.owned t new) [] ((c, u) ∷ []) → within_size T t new ≡ true →
        (r : Refusal) → propose_of T state fs b (one_patch offset bytes ((c, u) ∷ []) [] after) ≡ Err r → is_shortage r ≡ true
    add_short c u may set size = edit_short T state h fs few b t (one_patch offset bytes ((c, u) ∷ []) [] after) at (record {
      limits = limits_one offset bytes ((c, u) ∷ []) [] after some fits (omega arith) (omega arith);
      given = given;
      adds = and_from (may_add state fs (c, u)) true may refl;
      adds_once = refl;
      drops = refl;
      drops_once = refl;
      empty = refl;
      changes = changes_add T t old new (once_held T state h fs few b t at) size (c, u) set (unnamed T state h fs few b t c u at may);
    })

    -- some are dropped
    drop_short : (zs : List (ℕ × ℕ)) → length (blocks_of zs) ≤ 128 → ((c u : ℕ) → Contains zs (c, u) → T.owned u (latest state.lives c) ≡ []) → Replaces (T.owned t old) (T.owned t new) zs [] → within_size T t new ≡ true →
        (r : Refusal) → propose_of T state fs b (one_patch offset bytes [] (blocks_of zs) after) ≡ Err r → is_shortage r ≡ true
    drop_short zs count none set size =
        let has : (p : ℕ × ℕ) → Contains zs p → Contains (T.owned t old) p = λ p i. subst (λ ps. Contains ps p) (sym set.was) (Contains-append_right set.front (zs ++ set.back) p (Contains-append_left zs set.back p i)) in
        edit_short T state h fs few b t (one_patch offset bytes [] (blocks_of zs) after) at (record {
          limits = limits_one offset bytes [] (blocks_of zs) after some fits (omega arith) count;
          given = given;
          adds = refl;
          adds_once = refl;
          drops = may_all_drop T state h fs few b t at zs has;
          drops_once = dropped_distinct T t old (T.owned t new) zs (once_held T state h fs few b t at) set;
          empty = all_empty T state h fs few b t at zs has none;
          changes = changes_drop T t old new (once_held T state h fs few b t at) size zs set;
        })

  module _ (state : StoreState) (h : IsConsistent T state) (fs : ℕ) (few : fs < 32) (b : ℕ) (long : length (latest state.lives b) ≡ 512) (after : Option ℕ) (given : IsTrue (was_given state after)) where
    -- a block of data
    pub data_short : Under T (latest state.lives) fs b 2 → (offset : ℕ) (bytes : List ℕ) → 0 < length bytes → offset + length bytes ≤ 512 →
        (r : Refusal) → propose_of T state fs b (one_patch offset bytes [] [] after) ≡ Err r → is_shortage r ≡ true
    data_short at offset bytes some fits =
        let new = put (latest state.lives b) offset bytes in
        let new_long : length new ≤ 512 = let e = new_long state h fs few b 2 at long offset bytes some fits after given in omega arith in
        none_short state h fs few b 2 at long offset bytes some fits after given (h.built_ins.data_owns new ∙ sym (h.built_ins.data_owns (latest state.lives b))) (whole_size T 2 new (h.built_ins.data_size new) new_long)

    -- one word is set
    word_long : (c : ℕ) → length (to_le_bytes w32 c) ≡ 4
    word_long c = refl

    word_is : (c : ℕ) → c < 2 ^ 32 → word_at (to_le_bytes w32 c) 0 ≡ c
    unfolding word_at
    word_is c small = from_le_bytes-to_le_bytes_4 c small

    words_set : (n ty j c : ℕ) → j < n → n ≤ 128 → c < 2 ^ 32 → c ≢ 0 → pointer_word (latest state.lives b) j ≡ 0 →
        Replaces (pointed (pointer_word (latest state.lives b)) n ty) (pointed (pointer_word (put (latest state.lives b) (4 * j) (to_le_bytes w32 c))) n ty) [] ((c, ty) ∷ [])
    words_set n ty j c low most small some none =
        let m = latest state.lives b in
        let bs = to_le_bytes w32 c in
        let four : length bs ≡ 4 = word_long c in
        let fits : 4 * j + length bs ≤ length m = omega arith in
        pointed_set (pointer_word m) (pointer_word (put m (4 * j) bs)) ty n j c low
        (λ i lt ne. word_apart m (4 * j) bs fits (4 * i) (far i ne (length bs) four)) none (word_within m (4 * j) bs fits (4 * j) 0 (omega arith) (omega arith) ∙ word_is c small) some
      where
        far : (i : ℕ) → i ≢ j → (k : ℕ) → k ≡ 4 → (4 * i + 4 ≤ 4 * j) ⊎ (4 * j + k ≤ 4 * i)
        far i ne k e = elim (cases_lt i j) [ inl lt ↦ inl (omega arith) | inr ge ↦ inr (omega arith) ]

    -- the root block points to a block of inodes more
    pub root_set_short : Under T (latest state.lives) fs b 3 → (index c : ℕ) → index < 16 → c < 2 ^ 32 → pointer_word (latest state.lives b) index ≡ 0 → may_add state fs (c, 4) ≡ true →
        (r : Refusal) → propose_of T state fs b (one_patch (4 * index) (to_le_bytes w32 c) ((c, 4) ∷ []) [] after) ≡ Err r → is_shortage r ≡ true
    root_set_short at index c low small none may =
        let m = latest state.lives b in
        let bs = to_le_bytes w32 c in
        let four : length bs ≡ 4 = word_long c in
        let new = put m (4 * index) bs in
        let fits : 4 * index + length bs ≤ 512 = omega arith in
        let within : 4 * index + length bs ≤ length m = omega arith in
        let new_long : length new ≡ 512 = length_put m (4 * index) bs within ∙ long in
        let rest : drop 64 new ≡ drop 64 m =
        sym (take_all 448 (drop 64 new) (rw length-drop (omega arith))) ∙ (bytes_apart m (4 * index) bs within 448 64 (inr (omega arith)) ∙ take_all 448 (drop 64 m) (rw length-drop (omega arith))) in
        let was : within_size T 3 m ≡ true = (and_parts (named_once T 3 m) (within_size T 3 m) (held T state h fs few b 3 at).fit).1 in
        let size : within_size T 3 new ≡ true = ap (λ n. blank (drop n new)) (lib.root_size new) ∙ (ap blank rest ∙ (ap (λ n. blank (drop n m)) (sym (lib.root_size m)) ∙ was)) in
        add_short state h fs few b 3 at long (4 * index) bs (omega arith) fits after given c 4 may
        (replaces_in (pointed (pointer_word m) 16 4) (T.owned 3 m) (pointed (pointer_word new) 16 4) (T.owned 3 new) [] ((c, 4) ∷ []) (lib.root m) (lib.root new)
        (words_set 16 4 index c low (omega arith) small (addable T state h fs c 4 may).holds.2 none)) size

    -- a block of pointers points to a block of data more
    pub pointer_set_short : Under T (latest state.lives) fs b 5 → (place c : ℕ) → place < 128 → c < 2 ^ 32 → pointer_word (latest state.lives b) place ≡ 0 → may_add state fs (c, 2) ≡ true →
        (r : Refusal) → propose_of T state fs b (one_patch (4 * place) (to_le_bytes w32 c) ((c, 2) ∷ []) [] after) ≡ Err r → is_shortage r ≡ true
    pointer_set_short at place c low small none may =
        let m = latest state.lives b in
        let bs = to_le_bytes w32 c in
        let four : length bs ≡ 4 = word_long c in
        let new = put m (4 * place) bs in
        let fits : 4 * place + length bs ≤ 512 = omega arith in
        let within : 4 * place + length bs ≤ length m = omega arith in
        let new_long : length new ≡ 512 = length_put m (4 * place) bs within ∙ long in
        add_short state h fs few b 5 at long (4 * place) bs (omega arith) fits after given c 2 may
        (replaces_in (pointed (pointer_word m) 128 2) (T.owned 5 m) (pointed (pointer_word new) 128 2) (T.owned 5 new) [] ((c, 2) ∷ []) (lib.indirect m) (lib.indirect new)
        (words_set 128 2 place c low (omega arith) small (addable T state h fs c 2 may).holds.2 none)) (whole_size T 5 new (lib.indirect_size new) (omega arith))

    -- it is cleared
    pub pointers_cleared_short : Under T (latest state.lives) fs b 5 →
        (r : Refusal) → propose_of T state fs b (one_patch 0 zero_block [] (blocks_of (pointed (pointer_word (latest state.lives b)) 128 2)) after) ≡ Err r → is_shortage r ≡ true
    pointers_cleared_short at =
        let m = latest state.lives b in
        let zs = pointed (pointer_word m) 128 2 in
        let whole : length zero_block ≡ 512 = length-replicate {A = ℕ} 512 0 in
        let new = put m 0 zero_block in
        let within : 0 + length zero_block ≤ length m = omega arith in
        let new_long : length new ≡ 512 = length_put m 0 zero_block within ∙ long in
        let bare : pointed (pointer_word new) 128 2 ≡ [] = pointed_none (pointer_word new) 128 2 (λ i lt. word_within m 0 zero_block within (4 * i) (4 * i) (omega arith) (omega arith) ∙ zero_word (4 * i)) in
        drop_short state h fs few b 5 at long 0 zero_block (omega arith) (omega arith) after given zs (rw length-map (pointed_few (pointer_word m) 128 2))
        (λ c u i. let q = pointed_at (pointer_word m) 2 128 c u i in ap (λ k. T.owned k (latest state.lives c)) q.0 ∙ h.built_ins.data_owns (latest state.lives c))
        (replaces_in zs (T.owned 5 m) [] (T.owned 5 new) zs [] (lib.indirect m) (lib.indirect new ∙ bare) (all_of zs [])) (whole_size T 5 new (lib.indirect_size new) (omega arith))

    -- An inode is written
    module _ (at : Under T (latest state.lives) fs b 4) (p : ℕ) (low : p < 8) (bytes : List ℕ) (whole : length bytes ≡ 64) where
      abbrev was : List ℕ
      was = latest state.lives b

      abbrev now : List ℕ
      now = put was (64 * p) bytes

      inode_fits : 64 * p + length bytes ≤ 512
      inode_fits = omega arith

      inode_within : 64 * p + length bytes ≤ length was
      inode_within = omega arith

      inode_size : within_size T 4 now ≡ true
      inode_size = whole_size T 4 now (lib.inodes_size now) (let e = length_put was (64 * p) bytes inode_within in omega arith)

      apart : (q j : ℕ) → q ≢ p → 64 * q ≤ j → j + 4 ≤ 64 * q + 64 → (j + 4 ≤ 64 * p) ⊎ (64 * p + length bytes ≤ j)
      apart q j ne lo hi = elim (cases_lt q p) [ inl lt ↦ inl (omega arith) | inr ge ↦ inr (omega arith) ]

      others_kept : (q : ℕ) → q < 8 → q ≢ p → inode_pairs now q ≡ inode_pairs was q
      others_kept q lt ne = λ i.
          pointed_kept (direct_word was q) (direct_word now q) 2 12 (λ k less. word_apart was (64 * p) bytes inode_within (64 * q + 8 + 4 * k) (apart q (64 * q + 8 + 4 * k) ne (omega arith) (omega arith))) i
          ++ option_to_list (unless_empty (word_apart was (64 * p) bytes inode_within (64 * q + 56) (apart q (64 * q + 56) ne (omega arith) (omega arith)) i, 5))

      inode_now : inode_pairs now p ≡ inode_pairs bytes 0
      inode_now = λ i.
          pointed_kept (direct_word bytes 0) (direct_word now p) 2 12 (λ k less. word_within was (64 * p) bytes inode_within (64 * p + 8 + 4 * k) (8 + 4 * k) (omega arith) (omega arith)) i
          ++ option_to_list (unless_empty (word_within was (64 * p) bytes inode_within (64 * p + 56) 56 refl (omega arith) i, 5))

      owned_set : (here there : List (ℕ × ℕ)) → Replaces (inode_pairs (inode_at was p) 0) (inode_pairs bytes 0) here there → Replaces (T.owned 4 was) (T.owned 4 now) here there
      owned_set here there r =
          replaces_in (flat_map (inode_pairs was) (range_with_len 0 8)) (T.owned 4 was) (flat_map (inode_pairs now) (range_with_len 0 8)) (T.owned 4 now) here there (lib.inodes was) (lib.inodes now)
          (flat_replaced (inode_pairs was) (inode_pairs now) 8 p here there low others_kept
          (replaces_in (inode_pairs (inode_at was p) 0) (inode_pairs was p) (inode_pairs bytes 0) (inode_pairs now p) here there (inode_part was p low) inode_now r))

      -- its pointers stay
      pub inode_short : inode_pairs bytes 0 ≡ inode_pairs (inode_at was p) 0 → (r : Refusal) → propose_of T state fs b (one_patch (64 * p) bytes [] [] after) ≡ Err r → is_shortage r ≡ true
      inode_short same =
          let here : (q : ℕ) → q < 8 → inode_pairs now q ≡ inode_pairs was q = λ q lt. elim (cases_eq q p) [
            | inl e ↦ subst (λ x. inode_pairs now x ≡ inode_pairs was x) (sym e) (inode_now ∙ (same ∙ sym (inode_part was p low)))
            | inr ne ↦ others_kept q lt ne
          ] in
          none_short state h fs few b 4 at long (64 * p) bytes (omega arith) inode_fits after given (lib.inodes now ∙ (flat_kept (inode_pairs was) (inode_pairs now) 8 here ∙ sym (lib.inodes was))) inode_size

      -- one is set
      pub inode_add_short : (c u : ℕ) → may_add state fs (c, u) ≡ true → Replaces (inode_pairs (inode_at was p) 0) (inode_pairs bytes 0) [] ((c, u) ∷ []) →
          (r : Refusal) → propose_of T state fs b (one_patch (64 * p) bytes ((c, u) ∷ []) [] after) ≡ Err r → is_shortage r ≡ true
      inode_add_short c u may set = add_short state h fs few b 4 at long (64 * p) bytes (omega arith) inode_fits after given c u may (owned_set [] ((c, u) ∷ []) set) inode_size

      -- it is given up
      pub inode_freed_short : inode_pairs bytes 0 ≡ [] → (word_at (inode_at was p) 56 ≢ 0 → T.owned 5 (latest state.lives (word_at (inode_at was p) 56)) ≡ []) →
          (r : Refusal) → propose_of T state fs b (one_patch (64 * p) bytes [] (blocks_of (inode_pairs (inode_at was p) 0)) after) ≡ Err r → is_shortage r ≡ true
      inode_freed_short bare empty =
          let own = inode_at was p in
          let zs = inode_pairs own 0 in
          drop_short state h fs few b 4 at long (64 * p) bytes (omega arith) inode_fits after given zs (rw length-map (inode_few own)) none
          (owned_set zs [] (replaces_in zs zs [] (inode_pairs bytes 0) zs [] refl bare (all_of zs []))) inode_size
        where
          none : (c u : ℕ) → Contains (inode_pairs (inode_at was p) 0) (c, u) → T.owned u (latest state.lives c) ≡ []
          none c u i = elim (Contains-append_cases (pointed (direct_word (inode_at was p) 0) 12 2) (option_to_list (unless_empty (word_at (inode_at was p) 56, 5))) (c, u) i) [
            | inl k ↦ let q = pointed_at (direct_word (inode_at was p) 0) 2 12 c u k in ap (λ x. T.owned x (latest state.lives c)) q.0 ∙ h.built_ins.data_owns (latest state.lives c)
            | inr k ↦ let q = last_pair (word_at (inode_at was p) 56) 5 c u k in
                ap (λ x. T.owned x (latest state.lives c)) q.1 ∙ (ap (λ x. T.owned 5 (latest state.lives x)) q.0 ∙ empty (λ z. q.2 (q.0 ∙ z)))
          ]

-- The pairs of an inode whose words were set
module _ (was bytes : List ℕ) where
  pub inode_words : ((i : ℕ) → i < 12 → word_at bytes (8 + 4 * i) ≡ word_at was (8 + 4 * i)) → word_at bytes 56 ≡ word_at was 56 → inode_pairs bytes 0 ≡ inode_pairs was 0
  inode_words same last = λ i. pointed_kept (direct_word was 0) (direct_word bytes 0) 2 12 same i ++ option_to_list (unless_empty (last i, 5))

  pub direct_set : (index c : ℕ) → index < 12 → ((i : ℕ) → i < 12 → i ≢ index → word_at bytes (8 + 4 * i) ≡ word_at was (8 + 4 * i)) → word_at bytes 56 ≡ word_at was 56 →
      word_at was (8 + 4 * index) ≡ 0 → word_at bytes (8 + 4 * index) ≡ c → c ≢ 0 → Replaces (inode_pairs was 0) (inode_pairs bytes 0) [] ((c, 2) ∷ [])
  direct_set index c low same last none now some =
      let tail = option_to_list (unless_empty (word_at was 56, 5)) in
      let olds = pointed (direct_word was 0) 12 2 in
      let news = pointed (direct_word bytes 0) 12 2 in
      replaces_in (olds ++ tail) (inode_pairs was 0) (news ++ tail) (inode_pairs bytes 0) [] ((c, 2) ∷ []) refl (ap (λ w. news ++ option_to_list (unless_empty (w, 5))) last)
      (within_parts [] tail olds news [] ((c, 2) ∷ []) (pointed_set (direct_word was 0) (direct_word bytes 0) 2 12 index c low same none now some))

  pub indirect_set : (c : ℕ) → ((i : ℕ) → i < 12 → word_at bytes (8 + 4 * i) ≡ word_at was (8 + 4 * i)) → word_at was 56 ≡ 0 → word_at bytes 56 ≡ c → c ≢ 0 →
      Replaces (inode_pairs was 0) (inode_pairs bytes 0) [] ((c, 5) ∷ [])
  indirect_set c same none now some =
      let olds = pointed (direct_word was 0) 12 2 in
      record {
        front = olds;
        back = [];
        was = ap (λ w. olds ++ option_to_list (unless_empty (w, 5))) none;
        is = λ i. pointed_kept (direct_word was 0) (direct_word bytes 0) 2 12 same i ++ option_to_list ((ap (λ w. unless_empty (w, 5)) now ∙ is_not_empty (c, 5) some) i);
      }
