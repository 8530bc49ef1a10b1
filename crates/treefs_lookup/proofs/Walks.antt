-- Paths of pointers, and how far they lead.
use Rattle.std.proofs.Common.{◌≡◌, ℕ, zero, suc, ◌+◌, ◌<◌, ◌≤◌, ◌≢◌, Bool, true, false, List, [], ◌∷◌, ◌++◌, length, length-append, length-drop, get_or, take, drop, refl, sym, ◌∙◌, ap, arith, ◌==◌, eq-eqb, ne_eqb, take-append-drop, drop-drop, ◌-◌, if◌then◌else◌}
use Rattle.std.proofs.Math.Seq.{drop-nil}
use Rattle.std.proofs.lemmas.List.{drop_all, drop_more, take_all}
use Rattle.std.specs.Int.{from_le_bytes, w32}
use Rattle.xn_model.specs.Root.{word_at}
use Rattle.treefs_format.specs.Paths.{steps}
use Rattle.treefs_model.specs.Reading.{block_at, pointed}
use Rattle.treefs_lookup.specs.declared.paths.Reach.{Reach}
use Rattle.treefs_lookup.specs.Walks.{end_of, further, holder_steps, path_blocks, reach, reached, stepped}

-- bytes that are not there have no pointer
pub no_word : (at : ℕ) → word_at [] at ≡ 0
unfolding word_at
no_word at = ap (λ (l : List ℕ). from_le_bytes w32 (take 4 l)) (drop-nil at)

pub none_pointed : (content : ℕ → List ℕ) (block at : ℕ) → content block ≡ [] → pointed content block at ≡ 0
none_pointed content block at none = grind (arith, none, no_word at)

-- those on a path from the top, as far as it was followed to a block
pub record AreBlocks (content : ℕ → List ℕ) (top : ℕ) (offsets : List ℕ) (left block : ℕ) (blocks : List ℕ) : Type 0 where
  pub within : left ≤ length offsets
  pub few : length blocks + left ≡ length offsets
  pub at : block ≡ block_at content top (drop left offsets)
  pub so_far : blocks ≡ path_blocks content top (drop left offsets)

module _ (content : ℕ → List ℕ) (top : ℕ) where
  pub blocks_first : (offsets blocks : List ℕ) → blocks ≡ [] → AreBlocks content top offsets (length offsets) top blocks
  blocks_first offsets blocks none =
      let all = drop_all (length offsets) offsets (omega arith) in
      record {
        within = omega arith;
        few = let long = ap length none in omega arith;
        at = ap (block_at content top) (sym all);
        so_far = none ∙ ap (path_blocks content top) (sym all);
      }

  pub blocks_more : (offsets blocks pushed : List ℕ) (left block next : ℕ) → 0 < left → AreBlocks content top offsets left block blocks →
      next ≡ pointed content block (get_or offsets (left - 1) 0) → pushed ≡ blocks ++ next ∷ [] → AreBlocks content top offsets (left - 1) next pushed
  blocks_more offsets blocks pushed left block next some before is more =
      let o = get_or offsets (left - 1) 0 in
      let e : left - 1 + 1 ≡ left = omega arith in
      let within : left ≤ length offsets = before.within in
      let few : length blocks + left ≡ length offsets = before.few in
      let step : drop (left - 1) offsets ≡ o ∷ drop left offsets = drop_more offsets (left - 1) 0 (omega arith) ∙ ap (λ n. o ∷ drop n offsets) e in
      let here : next ≡ pointed content (block_at content top (drop left offsets)) o = is ∙ ap (λ b. pointed content b o) before.at in
      let long = ap length more in
      let both = length-append blocks (next ∷ []) in
      record {
        within = omega arith;
        few = omega arith;
        at = here ∙ ap (block_at content top) (sym step);
        so_far = more ∙ (ap (λ l. l ++ next ∷ []) before.so_far
            ∙ (ap (λ n. path_blocks content top (drop left offsets) ++ n ∷ []) here ∙ ap (path_blocks content top) (sym step)));
      }

  pub blocks_all : (offsets blocks : List ℕ) (left block : ℕ) → left ≤ 0 → AreBlocks content top offsets left block blocks → blocks ≡ path_blocks content top offsets
  blocks_all offsets blocks left block none all = let e : left ≡ 0 = omega arith in all.so_far ∙ ap (λ n. path_blocks content top (drop n offsets)) e

  -- a pointer that leads nowhere ends the path
  reach_stops : (offsets : List ℕ) (k block : ℕ) → k < length offsets → reach content top (drop (suc k) offsets) ≡ reached block 0 →
      pointed content block (get_or offsets k 0) ≡ 0 → reach content top offsets ≡ reached block (k + 1)
  reach_stops [] k block lt so none = absurd (omega arith)
  reach_stops (o ∷ offsets) zero block lt so none = ap (further content o) so ∙ ap (stepped block) none
  reach_stops (o ∷ offsets) (suc k) block lt so none =
      let e : suc k + 1 ≡ k + 1 + 1 = omega arith in
      ap (further content o) (reach_stops offsets k block (omega arith) so none)
      ∙ (ap (λ (t : Bool). if t then stepped block (pointed content block o) else reached block (k + 1 + 1)) (ne_eqb (k + 1) 0 (omega arith)) ∙ ap (reached block) (sym e))

  pub stopped : (offsets : List ℕ) (left block next : ℕ) → 0 < left → left ≤ length offsets → reach content top (drop left offsets) ≡ reached block 0 →
      next ≡ pointed content block (get_or offsets (left - 1) 0) → next ≡ 0 → reached block left ≡ reach content top offsets
  stopped offsets left block next some few so is none =
      let e : left ≡ suc (left - 1) = omega arith in
      let n : left ≡ left - 1 + 1 = omega arith in
      ap (reached block) n ∙ sym (reach_stops offsets (left - 1) block (omega arith) (ap (λ l. reach content top (drop l offsets)) (sym e) ∙ so) (sym is ∙ none))

  end_stepped : (block next : ℕ) (t : Bool) → (next == 0) ≡ t → next ≡ end_of (if t then reached block 1 else reached next 0)
  end_stepped block next true e = grind arith
  end_stepped block next false e = refl

  end_further : (o : ℕ) (r : Reach) (t : Bool) → (r.missing == 0) ≡ t →
      pointed content (if t then r.block else 0) o ≡ end_of (if t then stepped r.block (pointed content r.block o) else reached r.block (r.missing + 1))
  end_further o r true e = end_stepped r.block (pointed content r.block o) (pointed content r.block o == 0) refl
  end_further o r false e = sym (ap (λ (t : Bool). if t then r.block else 0) (ne_eqb (r.missing + 1) 0 (omega arith)))

  -- the block at the end
  pub ends : (offsets : List ℕ) → block_at content top offsets ≡ end_of (reach content top offsets)
  ends [] = refl
  ends (o ∷ offsets) = ap (λ b. pointed content b o) (ends offsets) ∙ end_further o (reach content top offsets) ((reach content top offsets).missing == 0) refl

  pub end_is : (offsets : List ℕ) (r : Reach) (block : ℕ) → r ≡ reach content top offsets → block ≡ end_of r → block ≡ block_at content top offsets
  end_is offsets r block is end = end ∙ (ap end_of is ∙ sym (ends offsets))

  -- what is missing begins with the first block that lacks its pointer
  none_at_end : (r : Reach) (k : ℕ) → r.missing ≡ suc k → end_of r ≡ 0
  none_at_end r k e = ap (λ (t : Bool). if t then r.block else 0) (ne_eqb r.missing 0 (λ z. cc))

  further_none : (o : ℕ) (r : Reach) → r.missing ≡ 0 → further content o r ≡ stepped r.block (pointed content r.block o)
  further_none o r e = ap (λ (t : Bool). if t then stepped r.block (pointed content r.block o) else reached r.block (r.missing + 1)) (eq-eqb r.missing 0 e)

  further_some : (o k : ℕ) (r : Reach) → r.missing ≡ suc k → further content o r ≡ reached r.block (r.missing + 1)
  further_some o k r e = ap (λ (t : Bool). if t then stepped r.block (pointed content r.block o) else reached r.block (r.missing + 1)) (ne_eqb r.missing 0 (λ z. cc))

  stepped_few : (block next : ℕ) (t : Bool) → (if t then reached block 1 else reached next 0).missing ≤ 1
  stepped_few block next true = omega arith
  stepped_few block next false = omega arith

  lacks_more : (offsets : List ℕ) (o k m : ℕ) → (reach content top offsets).missing ≡ m →
      ((n : ℕ) → (reach content top offsets).missing ≡ suc n → (n < length offsets) × (block_at content top (drop n offsets) ≡ 0)) →
      (reach content top (o ∷ offsets)).missing ≡ suc k → (k < length (o ∷ offsets)) × (block_at content top (drop k (o ∷ offsets)) ≡ 0)
  lacks_more offsets o k zero is rest more =
      let r = reach content top offsets in
      let e : (further content o r).missing ≡ (stepped r.block (pointed content r.block o)).missing = ap (λ (x : Reach). x.missing) (further_none o r is) in
      let few = stepped_few r.block (pointed content r.block o) (pointed content r.block o == 0) in
      let first : k ≡ 0 = omega arith in
      (omega arith, ap (λ n. block_at content top (drop n (o ∷ offsets))) first ∙ (ends (o ∷ offsets) ∙ none_at_end (reach content top (o ∷ offsets)) k more))
  lacks_more offsets o k (suc n) is rest more =
      let r = reach content top offsets in
      let e : (further content o r).missing ≡ r.missing + 1 = ap (λ (x : Reach). x.missing) (further_some o n r is) in
      let s : k ≡ suc n = omega arith in
      let before = rest n is in
      (omega (arith, before.0), ap (λ l. block_at content top (drop l (o ∷ offsets))) s ∙ before.1)

  pub lacks : (offsets : List ℕ) (k : ℕ) → (reach content top offsets).missing ≡ suc k → (k < length offsets) × (block_at content top (drop k offsets) ≡ 0)
  lacks [] k e = cc
  lacks (o ∷ offsets) k e = lacks_more offsets o k (reach content top offsets).missing refl (λ n q. lacks offsets n q) e

  -- the end of a path that has pointers, and lacks none, is a block
  stepped_some : (block next : ℕ) (t : Bool) → (next == 0) ≡ t → (if t then reached block 1 else reached next 0).missing ≡ 0 → (if t then reached block 1 else reached next 0).block ≢ 0
  stepped_some block next true e m = cc
  stepped_some block next false e m = λ z. grind arith

  stands_more : (o : ℕ) (r : Reach) (m : ℕ) → r.missing ≡ m → (further content o r).missing ≡ 0 → (further content o r).block ≢ 0
  stands_more o r zero is none = λ z.
      let f = further_none o r is in
      stepped_some r.block (pointed content r.block o) (pointed content r.block o == 0) refl (ap (λ (x : Reach). x.missing) (sym f) ∙ none) (ap (λ (x : Reach). x.block) (sym f) ∙ z)
  stands_more o r (suc n) is none = λ z. let e : (further content o r).missing ≡ r.missing + 1 = ap (λ (x : Reach). x.missing) (further_some o n r is) in omega arith

  pub stands : (offsets : List ℕ) → 0 < length offsets → (reach content top offsets).missing ≡ 0 → (reach content top offsets).block ≢ 0
  stands [] some none = absurd (omega arith)
  stands (o ∷ offsets) some none = stands_more o (reach content top offsets) (reach content top offsets).missing refl none

  -- where a path lacks blocks, it leads to the last one that is there
  reached_here : (r : Reach) → r.missing ≡ 0 → r ≡ reached r.block 0
  reached_here r e = ap (reached r.block) e

  stops_step : (offsets : List ℕ) (o : ℕ) → reach content top offsets ≡ reached (reach content top offsets).block 0 →
      (t : Bool) → (pointed content (reach content top offsets).block o == 0) ≡ t →
      reach content top (o ∷ offsets) ≡ (if t then reached (reach content top offsets).block 1 else reached (pointed content (reach content top offsets).block o) 0) →
      reach content top (drop (reach content top (o ∷ offsets)).missing (o ∷ offsets)) ≡ reached (reach content top (o ∷ offsets)).block 0
  stops_step offsets o here true none is =
      ap (λ (r : Reach). reach content top (drop r.missing (o ∷ offsets))) is ∙ (here ∙ sym (ap (λ (r : Reach). reached r.block 0) is))
  stops_step offsets o here false some is =
      ap (λ (r : Reach). reach content top (drop r.missing (o ∷ offsets))) is ∙ (is ∙ sym (ap (λ (r : Reach). reached r.block 0) is))

  stops_more : (offsets : List ℕ) (o m : ℕ) → (reach content top offsets).missing ≡ m → reach content top (drop (reach content top offsets).missing offsets) ≡ reached (reach content top offsets).block 0 →
      reach content top (drop (reach content top (o ∷ offsets)).missing (o ∷ offsets)) ≡ reached (reach content top (o ∷ offsets)).block 0
  stops_more offsets o zero is before =
      stops_step offsets o (reached_here (reach content top offsets) is) (pointed content (reach content top offsets).block o == 0) refl (further_none o (reach content top offsets) is)
  stops_more offsets o (suc n) is before =
      let r = reach content top offsets in
      let next : reach content top (o ∷ offsets) ≡ reached r.block (r.missing + 1) = further_some o n r is in
      let e : r.missing + 1 ≡ suc r.missing = omega arith in
      ap (λ (x : Reach). reach content top (drop x.missing (o ∷ offsets))) next
      ∙ (ap (λ k. reach content top (drop k (o ∷ offsets))) e ∙ (before ∙ sym (ap (λ (x : Reach). reached x.block 0) next)))

  stops_at : (offsets : List ℕ) → reach content top (drop (reach content top offsets).missing offsets) ≡ reached (reach content top offsets).block 0
  stops_at [] = refl
  stops_at (o ∷ offsets) = stops_more offsets o (reach content top offsets).missing refl (stops_at offsets)

  -- which is a block below the top, where pointers are left
  pub stands_above : (offsets : List ℕ) (k : ℕ) → (reach content top offsets).missing ≡ k → k < length offsets → block_at content top (drop k offsets) ≢ 0
  stands_above offsets k is lt = λ none.
      let r = reach content top offsets in
      let at : reach content top (drop k offsets) ≡ reached r.block 0 = ap (λ n. reach content top (drop n offsets)) (sym is) ∙ stops_at offsets in
      let long = length-drop k offsets in
      let some = stands (drop k offsets) (omega arith) (ap (λ (x : Reach). x.missing) at) in
      let end : block_at content top (drop k offsets) ≡ r.block = ends (drop k offsets) ∙ ap end_of at in
      some (ap (λ (x : Reach). x.block) at ∙ (sym end ∙ none))

  pub block_at-append : (xs ys : List ℕ) → block_at content top (xs ++ ys) ≡ block_at content (block_at content top ys) xs
  block_at-append [] ys = refl
  block_at-append (x ∷ xs) ys = ap (λ b. pointed content b x) (block_at-append xs ys)

-- the block with the pointer to a leaf, by its offsets
pub holder_is : (content : ℕ → List ℕ) (top leaf : ℕ) (items offsets : List ℕ) (r : Reach) → items ≡ steps leaf → offsets ≡ items →
    r ≡ reach content top (take (length offsets - 1) (drop 1 offsets)) → r ≡ reach content top (holder_steps leaf)
holder_is content top leaf items offsets r path same is =
    let long = length-drop 1 offsets in
    is ∙ (ap (reach content top) (take_all (length offsets - 1) (drop 1 offsets) (omega arith)) ∙ ap (λ l. reach content top (drop 1 l)) (same ∙ path))

-- from no block nothing is reached
pub block_at-zero : (content : ℕ → List ℕ) (xs : List ℕ) → block_at content 0 xs ≡ 0
block_at-zero content [] = refl
block_at-zero content (x ∷ xs) = ap (λ b. pointed content b x) (block_at-zero content xs)

-- so a leaf is missing whose path goes over a missing block
pub lacks_leaf : (content : ℕ → List ℕ) (top i j levels : ℕ) → drop levels (steps j) ≡ drop levels (steps i) → block_at content top (drop levels (steps i)) ≡ 0 →
    block_at content top (steps j) ≡ 0
lacks_leaf content top i j levels same none =
    ap (block_at content top) (sym (take-append-drop levels (steps j)))
    ∙ (block_at-append content top (take levels (steps j)) (drop levels (steps j))
    ∙ (ap (λ b. block_at content b (take levels (steps j))) (ap (block_at content top) same ∙ none) ∙ block_at-zero content (take levels (steps j))))

-- and what stands above the leaf there
pub lacks_above : (content : ℕ → List ℕ) (top low levels : ℕ) (offsets : List ℕ) → low ≤ levels → block_at content top (drop levels offsets) ≡ 0 →
    block_at content top (drop low offsets) ≡ 0
lacks_above content top low levels offsets le none =
    let e : low + (levels - low) ≡ levels = omega arith in
    ap (block_at content top) (sym (take-append-drop (levels - low) (drop low offsets)))
    ∙ (block_at-append content top (take (levels - low) (drop low offsets)) (drop (levels - low) (drop low offsets))
    ∙ (ap (λ b. block_at content b (take (levels - low) (drop low offsets))) (ap (block_at content top) (drop-drop (levels - low) low offsets ∙ ap (λ n. drop n offsets) e) ∙ none)
    ∙ block_at-zero content (take (levels - low) (drop low offsets))))
