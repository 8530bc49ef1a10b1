-- What a file system has before its volume is made, and after.
use Rattle.std.proofs.Common.{◌≡◌, ◌≢◌, ℕ, zero, suc, ◌+◌, ◌-◌, ◌*◌, ◌%◌, ◌^◌, ◌<◌, ◌≤◌, ◌⊎◌, Bool, true, false, List, [], ◌∷◌, length, Option, Some, None, Result, Ok, Err, refl, sym, ◌∙◌, ap, inl, inr, arith, subst, eq-eqb, replicate, Contains, not, ◌==◌, ◌&&◌, nat_lt, if◌then◌else◌, option_map, option_to_list, ◌++◌, w32, eqb-true, le-ltb, ne_eqb}
use Rattle.ffs_lib.proofs.Common.{BlockState, Exists, FfsFault, IsConsistent, IsInodes, IsLibrary, IsRoot, Kernel, Life, NoEntry, NotInUse, NotYours, RootTaken}
use Rattle.ffs_lib.proofs.Common.{StoreState, Types, Under, Unsound, alive_and, blocks_of, cases_eq, cases_lt, direct_word, eqb-false, false≢true, first_refusal}
use Rattle.ffs_lib.proofs.Common.{has_pointer, if_bare, if_makeable, init_of, inode_at, inode_block_in, inode_blocks, inode_pairs, is_dropped, is_for, is_fresh}
use Rattle.ffs_lib.proofs.Common.{kind_of, latest, library_layout, life_at, make_in, make_root_of, may_add, new_life, own_life, own_place, pointer_word}
use Rattle.ffs_lib.proofs.Common.{propose_of, put, range_with_len, root, root_in, root_of, root_state, slot, slot_now, to_le_bytes, unless, unless_empty}
use Rattle.ffs_lib.proofs.Common.{word_at, zero_block}
use Rattle.store_types.specs.declared.status.Status.{Status}
use Rattle.xn_model.proofs.ForCallers.{Contains-cons, Contains-head, Contains-none, Contains-tail, accepted, any_at, any_from, each_at, place_from, range_at, set_same, status_cases}
use Rattle.ffs_model.proofs.ForCallers.{bytes_apart, one_inode, pointed_none, rooted, started, word_apart, zero_word}
use Rattle.ffs_lookup.proofs.ForCallers.{in_root_block, kind_known, no_root_block, root_again, zero_is}
use Rattle.ffs_lib.specs.Edits.{edit_at}
use Rattle.ffs_lib.specs.Outcomes.{FirstInodes}
use Rattle.ffs_lib.specs.Results.{new_inode}
use Rattle.ffs_lib.proofs.Fields.{zeros_inode}
use Rattle.ffs_lib.proofs.Same.{Touches, begun, place_added, place_kept}

-- What `make` finds

none_there : (t : Bool) (x : ℕ) (r : Result Bool FfsFault) → None ≡ (if t then None else Some x) → Ok false ≡ (if t then Ok false else r)
none_there true x r e = refl
none_there false x r e = cc

one_there : (t : Bool) (x y : ℕ) → Some y ≡ (if t then None else Some x) → (t ≡ false) × (x ≡ y)
one_there true x y e = absurd (cc e)
one_there false x y e = (refl, cc)

pub no_root_yet : (state : StoreState) (fs : ℕ) → None ≡ root_of state fs → Ok false ≡ make_in (latest state.lives) fs
unfolding make_in
no_root_yet state fs e =
    let s = slot_now state fs in
    none_there (s.0 == 0) s.0 (if s.1 == 3 then if_bare (latest state.lives s.0) else Err (Kernel RootTaken)) e

-- The root slot names a block
module _ (T : Types) (state : StoreState) (h : IsConsistent T state) (fs : ℕ) (few : fs < 32) (r : ℕ) (e : Some r ≡ root_of state fs) where
  abbrev top_slot : ℕ × ℕ
  top_slot = slot_now state fs

  here : (top_slot.0 ≢ 0) × (top_slot.0 ≡ r)
  here = let x = one_there (top_slot.0 == 0) top_slot.0 r e in (eqb-false top_slot.0 0 x.0, x.1)

  named : make_in (latest state.lives) fs ≡ (if top_slot.1 == 3 then if_bare (latest state.lives r) else Err (Kernel RootTaken))
  unfolding make_in
  named =
      ap (λ (t : Bool). if t then Ok false else if top_slot.1 == 3 then if_bare (latest state.lives top_slot.0) else Err (Kernel RootTaken)) (ne_eqb top_slot.0 0 here.0)
      ∙ ap (λ (b : ℕ). if top_slot.1 == 3 then if_bare (latest state.lives b) else Err (Kernel RootTaken)) here.1

  typed : (kind : ℕ) → Ok kind ≡ kind_of state fs r → top_slot.1 ≡ kind
  typed kind k = cc (k ∙ kind_known T state h fs few r e)

  pub root_reached : (kind : ℕ) → Ok kind ≡ kind_of state fs r → Under T (latest state.lives) fs r kind
  root_reached kind k = let t = typed kind k in root (λ i. (here.1 i, t i)) (λ z. here.0 (here.1 ∙ z))

  pub root_taken : (kind : ℕ) → Ok kind ≡ kind_of state fs r → kind ≢ 3 → Err (Kernel RootTaken) ≡ make_in (latest state.lives) fs
  root_taken kind k other =
      sym (named ∙ ap (λ (t : Bool). if t then if_bare (latest state.lives r) else Err (Kernel RootTaken)) (ne_eqb top_slot.1 3 (λ z. other (sym (typed kind k) ∙ z))))

  pub root_bare : (kind : ℕ) (m : List ℕ) → Ok kind ≡ kind_of state fs r → kind ≡ 3 → latest state.lives r ≡ m → if_bare m ≡ make_in (latest state.lives) fs
  root_bare kind m k three is =
      ap if_bare (sym is) ∙ sym (named ∙ ap (λ (t : Bool). if t then if_bare (latest state.lives r) else Err (Kernel RootTaken)) (eq-eqb top_slot.1 3 (typed kind k ∙ three)))

pub has_inodes : (m : List ℕ) → pointer_word m 0 ≢ 0 → Err Exists ≡ if_bare m
has_inodes m ne = sym (ap (λ (t : Bool). if t then (if has_pointer m then Err (Unsound 1) else Ok true) else Err Exists) (ne_eqb (pointer_word m 0) 0 ne))

not_first_there : (m : List ℕ) → pointer_word m 0 ≡ 0 → (if has_pointer m then Err (Unsound 1) else Ok true) ≡ if_bare m
not_first_there m e = sym (ap (λ (t : Bool). if t then (if has_pointer m then Err (Unsound 1) else Ok true) else Err Exists) (eq-eqb (pointer_word m 0) 0 e))

pub has_none : (m : List ℕ) → pointer_word m 0 ≡ 0 → has_pointer m ≡ false → Ok true ≡ if_bare m
has_none m e none = sym (ap (λ (t : Bool). if t then Err (Unsound 1) else Ok true) none) ∙ not_first_there m e

pub has_others : (m : List ℕ) → pointer_word m 0 ≡ 0 → has_pointer m ≡ true → Err (Unsound 1) ≡ if_bare m
has_others m e some = sym (ap (λ (t : Bool). if t then Err (Unsound 1) else Ok true) some) ∙ not_first_there m e

pub none_set : (m : List ℕ) → ((j : ℕ) → j < 16 → pointer_word m j ≡ 0) → has_pointer m ≡ false
none_set m none = go (has_pointer m) refl
  where
    both : (t : Bool) → t ≡ true → not t ≡ true → ⊥
    both true e f = cc
    both false e f = cc

    go : (t : Bool) → has_pointer m ≡ t → t ≡ false
    go false e = refl
    go true e =
        let r = any_at (λ j. not (pointer_word m j == 0)) (range_with_len 0 16) e in
        let few = (range_at 0 16 r.0 r.1).1 in
        absurd (both (pointer_word m r.0 == 0) (eq-eqb (pointer_word m r.0) 0 (none r.0 (omega (arith, few)))) r.2)

-- What it says of the root slot

false_first : (t u : Bool) (m : List ℕ) → Ok false ≡ (if t then Ok false else if u then if_bare m else Err (Kernel RootTaken)) → t ≡ true
false_first true u m e = refl
false_first false true m e = absurd (bare (pointer_word m 0 == 0) (has_pointer m) e)
  where
    bare : (b u : Bool) → Ok false ≡ (if b then (if u then Err (Unsound 1) else Ok true) else Err Exists) → ⊥
    bare true true f = cc
    bare true false f = cc
    bare false u f = cc
false_first false false m e = absurd (cc e)

true_last : (t u : Bool) (m : List ℕ) → Ok true ≡ (if t then Ok false else if u then if_bare m else Err (Kernel RootTaken)) → (t ≡ false) × (u ≡ true) × ((pointer_word m 0 == 0) ≡ true) × (has_pointer m ≡ false)
true_last true u m e = absurd (cc e)
true_last false true m e = let both = bare (pointer_word m 0 == 0) (has_pointer m) e in (refl, refl, both.0, both.1)
  where
    bare : (b u : Bool) → Ok true ≡ (if b then (if u then Err (Unsound 1) else Ok true) else Err Exists) → (b ≡ true) × (u ≡ false)
    bare true true f = absurd (cc f)
    bare true false f = (refl, refl)
    bare false u f = absurd (cc f)
true_last false false m e = absurd (cc e)

pub among : (n a i : ℕ) → a ≤ i → i < a + n → Contains (range_with_len a n) i
among zero a i low high = absurd (omega (arith, low, high))
among (suc n) a i low high = elim (cases_lt a i) [
  | inl lt ↦ Contains-tail a (range_with_len (a + 1) n) i (among n (a + 1) i (omega (arith, lt)) (omega (arith, high)))
  | inr ge ↦ let e : a ≡ i = omega (arith, low, ge) in subst (λ z. Contains (range_with_len a (suc n)) z) e (Contains-head a (range_with_len (a + 1) n))
]

-- The root block, which points to no block of inodes.
pub record BareRoot (content : ℕ → List ℕ) (fs : ℕ) : Type 0 where
  pub block : ℕ
  pub is_root : IsRoot content fs block
  pub empty : pointer_word (content block) 0 ≡ 0
  pub none : has_pointer (content block) ≡ false

module _ (content : ℕ → List ℕ) (fs : ℕ) where
  pub bare_from : Ok true ≡ make_in content fs → BareRoot content fs
  unfolding make_in
  bare_from e =
      let s = slot (content 0) fs in
      let x = true_last (s.0 == 0) (s.1 == 3) (content s.0) e in
      record {
        block = s.0;
        is_root = let three = eqb-true s.1 3 x.1 in record { at = λ i. (s.0, three i); there = eqb-false s.0 0 x.0 };
        empty = eqb-true (pointer_word (content s.0) 0) 0 x.2;
        none = x.3;
      }

  pub bare_to : (r : ℕ) → IsRoot content fs r → pointer_word (content r) 0 ≡ 0 → has_pointer (content r) ≡ false → Ok true ≡ make_in content fs
  unfolding make_in
  bare_to r is e none =
      has_none (content r) e none ∙ sym (
      ap (λ (s : ℕ × ℕ). if s.0 == 0 then Ok false else if s.1 == 3 then if_bare (content s.0) else Err (Kernel RootTaken)) is.at
      ∙ ap (λ (t : Bool). if t then Ok false else if_bare (content r)) (ne_eqb r 0 is.there)
      )

  pub rootless : Ok false ≡ make_in content fs → Err NoEntry ≡ root_in content fs
  unfolding make_in root_in
  rootless e =
      let s = slot (content 0) fs in
      sym (ap (λ (t : Bool). if t then Err NoEntry else if s.1 == 3 then Ok s.0 else Err NoEntry) (false_first (s.0 == 0) (s.1 == 3) (content s.0) e))

  pub rootless_slot : Ok false ≡ make_in content fs → (slot (content 0) fs).0 ≡ 0
  unfolding make_in
  rootless_slot e = let s = slot (content 0) fs in eqb-true s.0 0 (false_first (s.0 == 0) (s.1 == 3) (content s.0) e)

  -- a bare root block points to nothing
  bare_pointer : (bare : BareRoot content fs) (j : ℕ) → j < 16 → pointer_word (content bare.block) j ≡ 0
  bare_pointer bare j low = elim (cases_eq (pointer_word (content bare.block) j) 0) [
    | inl e ↦ e
    | inr ne ↦
        absurd (false≢true (sym bare.none ∙ any_from (λ i. not (pointer_word (content bare.block) i == 0)) (range_with_len 0 16) j (among 16 0 j (omega arith) (omega (arith, low))) (ap not (ne_eqb (pointer_word (content bare.block) j) 0 ne))))
  ]

  pub no_pointers : BareRoot content fs → (j b : ℕ) → IsInodes library_layout content fs j b → ⊥
  no_pointers bare j b x =
      let same : x.root ≡ bare.block = ap (λ (p : ℕ × ℕ). p.0) (sym x.is_root.at ∙ bare.is_root.at) in
      let read = under (nat_lt j 16) (pointer_word (content x.root) j) x.points in
      x.there (sym read.1 ∙ (ap (λ c. pointer_word (content c) j) same ∙ bare_pointer bare j (is_lower read.0)))
    where
      under : (t : Bool) (v : ℕ) → (if t then v else 0) ≡ b → (t ≡ true) × (v ≡ b)
      under true v e = (refl, e)
      under false v e = absurd (x.there (sym e))

      is_lower : nat_lt j 16 ≡ true → j < 16
      is_lower e = elim (cases_lt j 16) [ inl lt ↦ lt | inr ge ↦ absurd (false≢true (sym (le-ltb j 16 ge) ∙ e)) ]

  -- where `make` goes on there is no block of inodes
  pub no_blocks : (begun : Bool) → Ok begun ≡ make_in content fs → (j : ℕ) → j < 16 → Err NoEntry ≡ inode_block_in content fs j
  no_blocks false e j low = no_root_block content fs j NoEntry (rootless e)
  no_blocks true e j low =
      let bare = bare_from e in
      zero_is (pointer_word (content bare.block) j) (bare_pointer bare j low) ∙ in_root_block content fs j bare.block (content bare.block) (root_again content fs bare.block bare.is_root) refl

-- A root block is made

-- what may be added, but for that block
pub still_addable : (state new : StoreState) (fs block entry : ℕ) → make_root_of state fs block ≡ Ok (entry, new) → (p : ℕ × ℕ) → p.0 ≢ block → may_add new fs p ≡ may_add state fs p
still_addable state new fs block entry done p ne =
    let r = rooted state new fs block entry done in
    let s = root_state state fs (block, r.life.ty) ((block, r.life.ty) ∷ []) [] in
    ap (λ lives. alive_and (λ l. is_fresh l.status && ((l.ty == p.1) && is_for fs l.fs)) (life_at lives p.0)) r.lives
    ∙ (ap (alive_and (λ l. is_fresh l.status && ((l.ty == p.1) && is_for fs l.fs))) (each_at (accepted 0 s) state.lives p.0) ∙ same_life s (life_at state.lives p.0) refl refl)
  where
    stays : (s : BlockState) (l : Life) → blocks_of s.adds ≡ block ∷ [] → s.drops ≡ [] → (accepted 0 s p.0 l).status ≡ l.status
    stays s l adds drops = elim (status_cases 0 s p.0 l.status) [
      | inl added ↦ absurd (elim (Contains-cons block [] p.0 (subst (λ xs. Contains xs p.0) adds added.0)) [ inl e ↦ ne (sym e) | inr i ↦ Contains-none p.0 i ])
      | inr (inl dropped) ↦ absurd (Contains-none p.0 (subst (λ xs. Contains xs p.0) drops dropped.0))
      | inr (inr e) ↦ e
    ]

    same_life : (s : BlockState) (o : Option Life) → blocks_of s.adds ≡ block ∷ [] → s.drops ≡ [] →
        alive_and (λ l. is_fresh l.status && ((l.ty == p.1) && is_for fs l.fs)) (option_map (accepted 0 s p.0) o) ≡ alive_and (λ l. is_fresh l.status && ((l.ty == p.1) && is_for fs l.fs)) o
    same_life s None adds drops = refl
    same_life s (Some l) adds drops = ap (λ (t : Status). is_fresh t && ((l.ty == p.1) && is_for fs l.fs)) (stays s l adds drops)

-- Its edits are refused for want of something alone

own_new : (state : StoreState) (fs b : ℕ) (l : Life) → life_at state.lives b ≡ Some l → is_dropped l.status ≡ false → l.fs ≡ Some fs → own_life state fs b ≡ Ok l
own_new state fs b l alive kept mine = ap (own_place fs) (place_from state.lives b l alive) ∙ passes (is_dropped l.status) (is_for fs l.fs) kept (ap (is_for fs) mine ∙ eq-eqb fs fs refl)
  where
    passes : (dropped same : Bool) → dropped ≡ false → same ≡ true → unless (first_refusal ((dropped, NotInUse) ∷ (not same, NotYours) ∷ [])) (Ok l) ≡ Ok l
    passes true same d m = absurd (cc d)
    passes false false d m = absurd (cc m)
    passes false true d m = refl

module _ (T : Types) (fs : ℕ) (zeroth first : StoreState) (h : IsConsistent T zeroth) (fits : fs < 32) (ty block number : ℕ) (bytes : List ℕ) (done : init_of T zeroth fs ty bytes ≡ Ok ((block, number), first)) where
  abbrev life : Life
  life = new_life zeroth.next (Some fs) ty bytes

  pub new_alive : life_at first.lives block ≡ Some life
  new_alive = let r = started T zeroth first fs ty bytes (block, number) done in ap (λ xs. life_at xs block) r.lives ∙ set_same zeroth.lives block (Some life) r.within

  pub new_own : own_life first fs block ≡ Ok life
  new_own = own_new first fs block life new_alive refl refl

  pub new_addable : may_add first fs (block, ty) ≡ true
  new_addable =
      ap (alive_and (λ l. is_fresh l.status && ((l.ty == ty) && is_for fs l.fs))) new_alive
      ∙ (ap (λ t. t && is_for fs (Some fs)) (eq-eqb ty ty refl) ∙ eq-eqb fs fs refl)

  pub none_named : Ok false ≡ make_in (latest zeroth.lives) fs → (slot_now first fs).0 ≡ 0
  unfolding make_in
  none_named none =
      let s = slot (latest zeroth.lives 0) fs in
      ap (λ (m : List ℕ). (slot m fs).0) (begun T zeroth first h fs fits ty ty bytes (block, number) done).top ∙ eqb-true s.0 0 (false_first (s.0 == 0) (s.1 == 3) (latest zeroth.lives s.0) none)

-- The first block of inodes is attached

pub top_there : inode_at (put zero_block 0 (new_inode 2)) 0 ≡ new_inode 2
top_there = refl

pub free_beside : (p : ℕ) → p ≢ 0 → p < 8 → inode_at (put zero_block 0 (new_inode 2)) p ≡ replicate 64 0
free_beside p some low = bytes_apart zero_block 0 (new_inode 2) (omega arith) 64 (64 * p) (inr (omega (arith, some))) ∙ zeros_inode p low

-- a mode stands at the start
some_word : pointer_word (put zero_block 0 (new_inode 2)) 0 ≡ 0 → ⊥
unfolding word_at
some_word z = omega (arith, z)

top_blocks : inode_blocks (new_inode 2) ≡ []
unfolding word_at
top_blocks = refl

-- that block points to nothing
pub top_direct : (p c : ℕ) → Contains (library_layout.direct (put zero_block 0 (new_inode 2)) p) c → ⊥
top_direct p c i = one_inode (new_inode 2) refl top_blocks p c i

pub top_bare : (m : List ℕ) → m ≡ put zero_block 0 (new_inode 2) → (p : ℕ) → p < 8 → inode_pairs m p ≡ []
top_bare m is p low = λ i. pointed_none (direct_word m p) 12 2 (λ k lt. word (64 * p + 8 + 4 * k) (omega arith) (omega arith)) i ++ option_to_list (unless_empty (word (64 * p + 56) (omega arith) (omega arith) i, 5))
  where
    start : put zero_block 0 (new_inode 2) ≡ put zero_block 0 (2 ∷ 0 ∷ 1 ∷ 0 ∷ [])
    start = refl

    word : (k : ℕ) → 4 ≤ k → k + 4 ≤ 512 → word_at m k ≡ 0
    word k past fits = ap (λ b. word_at b k) (is ∙ start) ∙ (word_apart zero_block 0 (2 ∷ 0 ∷ 1 ∷ 0 ∷ []) (omega arith) k (inr (omega (arith, past))) ∙ zero_word k)

pub makes_top : (T : Types) (lib : IsLibrary T) (old new : StoreState) (h : IsConsistent T old) (fs : ℕ) (few : fs < 32) (top b entry : ℕ) → IsRoot (latest old.lives) fs top → pointer_word (latest old.lives top) 0 ≡ 0 → length (latest old.lives top) ≡ 512 →
    b < 2 ^ 32 → b ≢ 0 → latest old.lives b ≡ put zero_block 0 (new_inode 2) → propose_of T old fs top (edit_at 0 (to_le_bytes w32 b) ((b, 4) ∷ []) [] None) ≡ Ok (entry, new) →
    FirstInodes (latest old.lives) (latest new.lives) fs (put zero_block 0 (new_inode 2))
makes_top T lib old new h fs few top b entry is_root empty long small there bytes done =
    record {
      first = λ n low index. (place_added T lib old new h fs few top 0 b entry is_root (omega arith) empty long small there done apart n index).1 ∙ ap (λ (m : List ℕ). Ok (inode_at m ((n - 1) % 8))) bytes;
      rest = λ n low ne. place_kept T lib old new h fs few top 0 b entry is_root (omega arith) empty long small there done n low ne;
    }
  where
    -- a root block has no pointer at its start, this block has a mode there
    apart : b ≢ top
    apart e = some_word (sym (ap (λ m. pointer_word m 0) bytes) ∙ (ap (λ c. pointer_word (latest old.lives c) 0) e ∙ empty))

-- the root slot and the root block stay, so does what `make` finds
make_same : (T : Types) (v w : ℕ → List ℕ) (fs block ty : ℕ) → Touches T v w fs block ty → ty ≢ 3 → make_in w fs ≡ make_in v fs
unfolding make_in
make_same T v w fs block ty t other =
    ap (λ (m : List ℕ). if_makeable w (slot m fs)) t.top ∙ typed_root (slot (v 0) fs) refl (cases_eq (slot (v 0) fs).0 0) (cases_eq (slot (v 0) fs).1 3)
  where
    typed_root : (s : ℕ × ℕ) → slot (v 0) fs ≡ s → (s.0 ≡ 0) ⊎ (s.0 ≢ 0) → (s.1 ≡ 3) ⊎ (s.1 ≢ 3) → if_makeable w s ≡ if_makeable v s
    typed_root s is (inl none) k =
        ap (λ (u : Bool). if u then Ok false else if s.1 == 3 then if_bare (w s.0) else Err (Kernel RootTaken)) (eq-eqb s.0 0 none)
        ∙ sym (ap (λ (u : Bool). if u then Ok false else if s.1 == 3 then if_bare (v s.0) else Err (Kernel RootTaken)) (eq-eqb s.0 0 none))
    typed_root s is (inr some) (inr ne) =
        ap (λ (u : Bool). if s.0 == 0 then Ok false else if u then if_bare (w s.0) else Err (Kernel RootTaken)) (ne_eqb s.1 3 ne)
        ∙ sym (ap (λ (u : Bool). if s.0 == 0 then Ok false else if u then if_bare (v s.0) else Err (Kernel RootTaken)) (ne_eqb s.1 3 ne))
    typed_root s is (inr some) (inl three) =
        let at : Under T v fs s.0 3 = root (is ∙ (λ i. (s.0, three i))) some in
        ap (λ (m : List ℕ). if s.0 == 0 then Ok false else if s.1 == 3 then if_bare m else Err (Kernel RootTaken)) (t.others s.0 3 at (t.apart s.0 3 at (λ z. other (sym z))))

-- so it does where a block begins its life
pub found_still : (T : Types) (fs : ℕ) → fs < 32 → (block number ty : ℕ) (zeroth first : StoreState) → IsConsistent T zeroth → (bytes : List ℕ) → init_of T zeroth fs ty bytes ≡ Ok ((block, number), first) →
    make_in (latest first.lives) fs ≡ make_in (latest zeroth.lives) fs
found_still T fs few block number ty zeroth first h bytes done =
    make_same T (latest zeroth.lives) (latest first.lives) fs block 6
    (begun T zeroth first h fs few ty 6 bytes (block, number) done) (λ z. omega (arith, z))
