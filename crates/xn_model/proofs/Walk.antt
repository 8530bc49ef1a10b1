-- The walk from block 0 finds the reached blocks of a sound image, each once.
use Rattle.std.proofs.Common.{◌≡◌, ℕ, zero, suc, ◌+◌, ◌<◌, ◌≤◌, ◌⊎◌, true, List, [], ◌∷◌, ◌++◌, length, Option, Some, None, refl, sym, ◌∙◌, ap, inl, inr, arith, subst, append_assoc, length-append}
use Rattle.std.specs.Prelude.{Contains, IsTrue, flat_map, find, ◌==◌}
use Rattle.std.specs.List.{range_with_len}
use Rattle.std.proofs.lemmas.Bool.{cases_eq, cases_lt, and_parts, eq-eqb, ne_eqb, cond-true, cond-false}
use Rattle.std.proofs.lemmas.Option.{same_Some, none-some}
use Rattle.std.proofs.lemmas.List.{map-append, append-nil, length-map, get_or_default}
use Rattle.std.proofs.lemmas.List.Elements.{Contains-append_cases, Contains-append_left, Contains-append_right}
use Rattle.std.proofs.lemmas.List.FromFn.{get_or-map-range_with_len}
use Rattle.xn_model.specs.Lists.{distinct, blocks_of}
use Rattle.xn_model.specs.Types.{Types, named_once, within_size}
use Rattle.xn_model.specs.Root.{HasBuiltIns, slot, templates_of, roots_of, owned_by_root}
use Rattle.xn_model.specs.Images.{block_of, Reach, root, step, Owns, IsSound}
use Rattle.xn_model.specs.Lives.{on_disk, Life, life_at}
use Rattle.xn_model.specs.Mounts.{Found, found, found_by, found_in, found_in_slot, mount_walk, found_life, found_status, recovered, IsRecoveredLife, IsRecovered}
use Rattle.std.proofs.lemmas.Option.{unwrap_or-slice_get}
use Rattle.xn_model.proofs.Lives.{past}
use Rattle.xn_model.proofs.Lists.{Contains-none, Contains-head, Contains-cons}
use Rattle.xn_model.proofs.RootBytes.{different_apart, not_empty, range_at}
use Rattle.xn_model.proofs.FoundBlocks.{places, place_has, place_at, distinct_append, same_found, few_below, by_places, by_at, by_from, slots_places, slots_at, slots_from, find_from, find_at, range_length, IsChildFs, first_found}

module _ (T : Types) (built_ins : HasBuiltIns T) (image : List (List ℕ)) (sound : IsSound T (length image) (block_of image)) where
  abbrev Reached : ℕ → ℕ → Type 0
  Reached c u = Reach T (length image) (block_of image) c u

  abbrev owned_at : ℕ → ℕ → List (ℕ × ℕ)
  owned_at t b = T.owned t (block_of image b)

  root_type : (c t : ℕ) → Reached c t → c ≡ 0 → t ≡ 0
  root_type c t root e = refl
  root_type c t (step {b} {t = v} r lt inst names) e = let low = (sound.range b v c t r names).0 in absurd (omega arith)

  within : (c t : ℕ) → Reached c t → c < length image
  within c t root = let low = sound.size.0 in omega arith
  within c t (step {b} {t = v} r lt inst names) = (sound.range b v c t r names).1

  reached_installed : (c t : ℕ) → Reached c t → IsTrue (T.installed t)
  reached_installed c t root = built_ins.root
  reached_installed c t (step {b} {t = v} r lt inst names) = (sound.types b v c t r names).1

  -- what block 0 owns
  root_is : owned_at 0 0 ≡ owned_by_root (block_of image 0)
  root_is = built_ins.root_owns (block_of image 0)

  at_root : (f : Found) → Reached f.block f.ty → f.block ≡ 0 → owned_at f.ty f.block ≡ owned_by_root (block_of image 0)
  at_root f r z = (λ i. T.owned (root_type f.block f.ty r z i) (block_of image (z i))) ∙ root_is

  found_root : (f : Found) → f.block ≡ 0 → found_in T image f ≡ found_by (Some 0) None (templates_of (block_of image 0)) ++ flat_map (found_in_slot (block_of image 0)) (range_with_len 0 32)
  found_root f z = cond-true (f.block == 0) (found_by (Some 0) None (templates_of (block_of image 0)) ++ flat_map (found_in_slot (block_of image 0)) (range_with_len 0 32)) (found_by (Some f.block) f.fs (owned_at f.ty f.block)) (eq-eqb f.block 0 z)

  found_other : (f : Found) → (f.block ≡ 0 → ⊥) → found_in T image f ≡ found_by (Some f.block) f.fs (owned_at f.ty f.block)
  found_other f ne = cond-false (f.block == 0) (found_by (Some 0) None (templates_of (block_of image 0)) ++ flat_map (found_in_slot (block_of image 0)) (range_with_len 0 32)) (found_by (Some f.block) f.fs (owned_at f.ty f.block)) (ne_eqb f.block 0 ne)

  children_places : (f : Found) → Reached f.block f.ty → places (found_in T image f) ≡ blocks_of (owned_at f.ty f.block)
  unfolding owned_by_root roots_of
  children_places f r = elim (cases_eq f.block 0) [
    | inl z ↦
        let m = block_of image 0 in
        ap places (found_root f z)
        ∙ (map-append (λ (g : Found). g.block) (found_by (Some 0) None (templates_of m)) (flat_map (found_in_slot m) (range_with_len 0 32))
        ∙ (ap (λ ns. ns ++ places (flat_map (found_in_slot m) (range_with_len 0 32))) (by_places (Some 0) None (templates_of m))
        ∙ (ap (λ ns. blocks_of (templates_of m) ++ ns) (slots_places m (range_with_len 0 32))
        ∙ (sym (map-append (λ (p : ℕ × ℕ). p.0) (templates_of m) (roots_of m))
        ∙ ap blocks_of (sym (at_root f r z))))))
    | inr ne ↦ ap places (found_other f ne) ∙ by_places (Some f.block) f.fs (owned_at f.ty f.block)
  ]

  child_at : (f g : Found) → Reached f.block f.ty → Contains (found_in T image f) g → Contains (owned_at f.ty f.block) (g.block, g.ty) × (g.owner ≡ Some f.block) × IsChildFs image f g
  unfolding owned_by_root roots_of
  child_at f g r h = elim (cases_eq f.block 0) [
    | inl z ↦
        let m = block_of image 0 in
        let own : (p : ℕ × ℕ) → Contains (templates_of m ++ roots_of m) p → Contains (owned_at f.ty f.block) p = λ p i. subst (λ ps. Contains ps p) (sym (at_root f r z)) i in
        elim (Contains-append_cases (found_by (Some 0) None (templates_of m)) (flat_map (found_in_slot m) (range_with_len 0 32)) g (subst (λ gs. Contains gs g) (found_root f z) h)) [
          | inl t ↦ let x = by_at (Some 0) None (templates_of m) g t in
              (own (g.block, g.ty) (Contains-append_left (templates_of m) (roots_of m) (g.block, g.ty) x.0), x.1 ∙ ap Some (sym z), inr (inl (z, x.0, x.2)))
          | inr s ↦ let x = slots_at m (range_with_len 0 32) g s in
              let i : ℕ = x.2.0 in
              let lt : i < 0 + 32 = (range_at 0 32 i x.2.1).1 in
              (own (g.block, g.ty) (Contains-append_right (templates_of m) (roots_of m) (g.block, g.ty) x.0), x.1 ∙ ap Some (sym z), inr (inr (z, (i, omega arith, ap (λ (q : ℕ × ℕ). q.0) (not_empty (slot m i) (g.block, g.ty) x.2.2).0, x.2.3))))
        ]
    | inr ne ↦ let x = by_at (Some f.block) f.fs (owned_at f.ty f.block) g (subst (λ gs. Contains gs g) (found_other f ne) h) in (x.0, x.1, inl (ne, x.2))
  ]

  child_from : (f : Found) (c u : ℕ) → Reached f.block f.ty → Contains (owned_at f.ty f.block) (c, u) → (g : Found) × Contains (found_in T image f) g × (g.block ≡ c) × (g.ty ≡ u)
  unfolding owned_by_root roots_of
  child_from f c u r n = elim (cases_eq f.block 0) [
    | inl z ↦
        let m = block_of image 0 in
        let ts = found_by (Some 0) None (templates_of m) in
        let ss = flat_map (found_in_slot m) (range_with_len 0 32) in
        let up : (g : Found) → Contains (ts ++ ss) g → Contains (found_in T image f) g = λ g i. subst (λ gs. Contains gs g) (sym (found_root f z)) i in
        elim (Contains-append_cases (templates_of m) (roots_of m) (c, u) (subst (λ ps. Contains ps (c, u)) (at_root f r z) n)) [
          | inl t ↦ let x = by_from (Some 0) None (templates_of m) c u t in (x.0, up x.0 (Contains-append_left ts ss x.0 x.1), x.2, x.3)
          | inr s ↦ let x = slots_from m (range_with_len 0 32) c u s in (x.0, up x.0 (Contains-append_right ts ss x.0 x.1), x.2, x.3)
        ]
    | inr ne ↦ let x = by_from (Some f.block) f.fs (owned_at f.ty f.block) c u n in (x.0, subst (λ gs. Contains gs x.0) (sym (found_other f ne)) x.1, x.2, x.3)
  ]

  -- one owner
  owns : (c t x u : ℕ) → Reached c t → (n : Contains (owned_at t c) (x, u)) → Owns T (length image) (block_of image) c n.0 x
  owns c t x u r n = record { ty = t; reached = r; within = n.1; names = ap (λ (p : ℕ × ℕ). p.0) (get_or_default (owned_at t c) n.0 (0, 0) (x, u) n.1 ∙ n.2) }

  same_owner : (c t x u a v y : ℕ) → Reached c t → Contains (owned_at t c) (x, u) → Reached a v → Contains (owned_at v a) (x, y) → a ≡ c
  same_owner c t x u a v y r n q m =
      let one = sound.owner c t x u r n in
      (one.only a m.0 (owns a v x y q m)).0 ∙ sym (one.only c n.0 (owns c t x u r n)).0

  -- The walk

  record Walked (done todo : List Found) : Type 0 where
    reached : (f : Found) → Contains (done ++ todo) f → Reached f.block f.ty
    parent : (f : Found) → Contains (done ++ todo) f → (f ≡ first_found) ⊎ ((p : Found) × Contains done p × Contains (found_in T image p) f)
    apart : distinct (places (done ++ todo)) ≡ true
    closed : (p g : Found) → Contains done p → Contains (found_in T image p) g → Contains (done ++ todo) g
    started : Contains (done ++ todo) first_found

  regroup : (done todo ch : List Found) (f : Found) → (done ++ f ∷ []) ++ (todo ++ ch) ≡ (done ++ f ∷ todo) ++ ch
  regroup done todo ch f = append_assoc done (f ∷ []) (todo ++ ch) ∙ sym (append_assoc done (f ∷ todo) ch)

  here : (done todo : List Found) (f : Found) → Contains (done ++ f ∷ todo) f
  here done todo f = Contains-append_right done (f ∷ todo) f (Contains-head f todo)

  module _ (done todo : List Found) (f : Found) (w : Walked done (f ∷ todo)) where
    mine : Reached f.block f.ty
    mine = w.reached f (here done todo f)

    abbrev children : List Found
    children = found_in T image f

    child_reached : (g : Found) → Contains children g → Reached g.block g.ty
    child_reached g i = step mine (within f.block f.ty mine) (reached_installed f.block f.ty mine) (child_at f g mine i).0

    -- a child is not found yet
    child_new : (n : ℕ) → Contains (places (done ++ f ∷ todo)) n → Contains (places children) n → ⊥
    child_new n i j =
        let x = place_at (done ++ f ∷ todo) n i in
        let g = place_at children n j in
        let names : Contains (owned_at f.ty f.block) (g.0.block, g.0.ty) = (child_at f g.0 mine g.1).0 in
        elim (w.parent x.0 x.1) [
          | inl first' ↦
              let low = (sound.range f.block f.ty g.0.block g.0.ty mine names).0 in
              let zero' : x.0.block ≡ 0 = ap (λ (y : Found). y.block) first' in
              let one = x.2 in let two = g.2 in absurd (omega arith)
          | inr p ↦
              let r = w.reached p.0 (Contains-append_left done (f ∷ todo) p.0 p.1) in
              let pn : Contains (owned_at p.0.ty p.0.block) (x.0.block, x.0.ty) = (child_at p.0 x.0 r p.2).0 in
              let same : x.0.block ≡ g.0.block = x.2 ∙ sym g.2 in
              let owner : p.0.block ≡ f.block = same_owner f.block f.ty g.0.block g.0.ty p.0.block p.0.ty x.0.ty mine names r (subst (λ b. Contains (owned_at p.0.ty p.0.block) (b, x.0.ty)) same pn) in
              different_apart (places done) (places (f ∷ todo)) f.block (ap distinct (sym (map-append (λ (y : Found). y.block) done (f ∷ todo))) ∙ w.apart)
              (subst (λ b. Contains (places done) b) owner (place_has done p.0 p.1)) (Contains-head f.block (places todo))
        ]

    children_apart : distinct (places children) ≡ true
    children_apart = ap distinct (children_places f mine) ∙ (and_parts (named_once T f.ty (block_of image f.block)) (within_size T f.ty (block_of image f.block)) (sound.fit f.block f.ty mine)).0

    to_old : (g : Found) → Contains ((done ++ f ∷ []) ++ (todo ++ children)) g → Contains (done ++ f ∷ todo) g ⊎ Contains children g
    to_old g i = Contains-append_cases (done ++ f ∷ todo) children g (subst (λ gs. Contains gs g) (regroup done todo children f) i)

    from_old : (g : Found) → Contains (done ++ f ∷ todo) g → Contains ((done ++ f ∷ []) ++ (todo ++ children)) g
    from_old g i = subst (λ gs. Contains gs g) (sym (regroup done todo children f)) (Contains-append_left (done ++ f ∷ todo) children g i)

    from_child : (g : Found) → Contains children g → Contains ((done ++ f ∷ []) ++ (todo ++ children)) g
    from_child g i = subst (λ gs. Contains gs g) (sym (regroup done todo children f)) (Contains-append_right (done ++ f ∷ todo) children g i)

    walked_on : Walked (done ++ f ∷ []) (todo ++ children)
    walked_on = record {
      reached = λ g i. elim (to_old g i) [ inl old ↦ w.reached g old | inr new ↦ child_reached g new ];
      parent = λ g i. elim (to_old g i) [
        | inl old ↦ elim (w.parent g old) [ inl s ↦ inl s | inr p ↦ inr (p.0, Contains-append_left done (f ∷ []) p.0 p.1, p.2) ]
        | inr new ↦ inr (f, Contains-append_right done (f ∷ []) f (Contains-head f []), new)
      ];
      apart = ap (λ gs. distinct (places gs)) (regroup done todo children f)
          ∙ (ap distinct (map-append (λ (y : Found). y.block) (done ++ f ∷ todo) children)
          ∙ distinct_append (places (done ++ f ∷ todo)) (places children) w.apart children_apart child_new);
      closed = λ p g i j. elim (Contains-append_cases done (f ∷ []) p i) [
        | inl old ↦ from_old g (w.closed p g old j)
        | inr last ↦ elim (Contains-cons f [] p last) [
          | inl e ↦ from_child g (subst (λ (x : Found). Contains (found_in T image x) g) (sym e) j)
          | inr none ↦ absurd (Contains-none p none)
        ]
      ];
      started = from_old first_found w.started;
    }

  -- no more than the disk's blocks are found
  walked_few : (done todo : List Found) → Walked done todo → length (done ++ todo) ≤ length image
  walked_few done todo w = subst (λ n. n ≤ length image) (length-map (done ++ todo) (λ (f : Found). f.block))
      (few_below (places (done ++ todo)) (length image) w.apart (λ x i. let f = place_at (done ++ todo) x i in subst (λ b. b < length image) f.2 (within f.0.block f.0.ty (w.reached f.0 f.1))))

  walked_all : (n : ℕ) (done todo : List Found) → Walked done todo → length done + n ≡ length image → Walked (done ++ mount_walk n T image todo) []
  walked_all zero done [] w e = subst (λ gs. Walked gs []) (sym (append-nil done)) w
  walked_all zero done (f ∷ todo) w e =
      let few = walked_few done (f ∷ todo) w in
      let sum : length (done ++ f ∷ todo) ≡ length done + length (f ∷ todo) = length-append done (f ∷ todo) in
      absurd (omega arith)
  walked_all (suc n) done [] w e = subst (λ gs. Walked gs []) (sym (append-nil done)) w
  walked_all (suc n) done (f ∷ todo) w e =
      let more : length (done ++ f ∷ []) ≡ length done + 1 = length-append done (f ∷ []) in
      subst (λ gs. Walked gs []) (append_assoc done (f ∷ []) (mount_walk n T image (todo ++ found_in T image f)))
      (walked_all n (done ++ f ∷ []) (todo ++ found_in T image f) (walked_on done todo f w) (omega arith))

  walked_first : Walked [] (first_found ∷ [])
  walked_first = record {
    reached = λ f i. elim (Contains-cons first_found [] f i) [ inl e ↦ subst (λ (x : Found). Reached x.block x.ty) e root | inr none ↦ absurd (Contains-none f none) ];
    parent = λ f i. elim (Contains-cons first_found [] f i) [ inl e ↦ inl (sym e) | inr none ↦ absurd (Contains-none f none) ];
    apart = refl;
    closed = λ p g i j. absurd (Contains-none p i);
    started = Contains-head first_found [];
  }

  abbrev all_found : List Found
  all_found = found T image

  walked : Walked all_found []
  walked = walked_all (length image) [] (first_found ∷ []) walked_first (omega arith)

  -- what is found, without the empty rest
  is_found : (f : Found) → Contains all_found f → Contains (all_found ++ []) f
  is_found f i = Contains-append_left all_found [] f i

  was_found : (f : Found) → Contains (all_found ++ []) f → Contains all_found f
  was_found f i = subst (λ gs. Contains gs f) (append-nil all_found) i

  each_found : (c u : ℕ) → Reached c u → (f : Found) × Contains all_found f × (f.block ≡ c) × (f.ty ≡ u)
  each_found c u root = (first_found, was_found first_found walked.started, refl, refl)
  each_found c u (step {b} {t = v} r lt inst names) =
      let p = each_found b v r in
      let pr = walked.reached p.0 (is_found p.0 p.1) in
      let names' : Contains (owned_at p.0.ty p.0.block) (c, u) = subst (λ ps. Contains ps (c, u)) (sym (λ i. T.owned (p.3 i) (block_of image (p.2 i)))) names in
      let g = child_from p.0 c u pr names' in
      (g.0, was_found g.0 (walked.closed p.0 g.0 p.1 g.1), g.2, g.3)

  -- The lives

  apart_found : distinct (places all_found) ≡ true
  apart_found = ap (λ gs. distinct (places gs)) (sym (append-nil all_found)) ∙ walked.apart

  reached_found : (f : Found) → Contains all_found f → Reached f.block f.ty
  reached_found f i = walked.reached f (is_found f i)

  life_of : (f : Found) → Life
  life_of f = record { fs = f.fs; ty = f.ty; status = found_status f.owner; durable = Some (on_disk (block_of image f.block)); pending = []; begun = None }

  lives_at : (c : ℕ) → c < length image → life_at (recovered T image) c ≡ found_life image c (find (λ f. f.block == c) all_found)
  lives_at c lt = unwrap_or-slice_get (recovered T image) c None ∙ get_or-map-range_with_len (λ b. found_life image b (find (λ f. f.block == b) all_found)) 0 (length image) c c None lt (omega arith)

  lives_count : length (recovered T image) ≡ length image
  lives_count = length-map (range_with_len 0 (length image)) (λ b. found_life image b (find (λ f. f.block == b) all_found)) ∙ range_length 0 (length image)

  life_of_found : (f : Found) → Contains all_found f → life_at (recovered T image) f.block ≡ Some (life_of f)
  unfolding life_of
  life_of_found f i =
      let r = find_from f.block all_found f i refl in
      let same : r.0 ≡ f = same_found all_found r.0 f apart_found r.2 i r.3 in
      lives_at f.block (within f.block f.ty (reached_found f i)) ∙ (ap (found_life image f.block) r.1 ∙ ap (λ g. found_life image f.block (Some g)) same)

  found_of_life : (c : ℕ) (l : Life) → life_at (recovered T image) c ≡ Some l → (f : Found) × Contains all_found f × (f.block ≡ c) × (l ≡ life_of f)
  unfolding life_of
  found_of_life c l e =
      let lt : c < length image = elim (cases_lt c (length image)) [ inl yes' ↦ yes' | inr past' ↦ absurd (none-some l (sym (past (recovered T image) c (subst (λ n. n ≤ c) (sym lives_count) past')) ∙ e)) ] in
      go (find (λ f. f.block == c) all_found) refl (sym (lives_at c lt) ∙ e)
    where
      go : (o : Option Found) → find (λ f. f.block == c) all_found ≡ o → found_life image c o ≡ Some l → (f : Found) × Contains all_found f × (f.block ≡ c) × (l ≡ life_of f)
      go None f e' = absurd (none-some l e')
      go (Some g) f e' =
          let r = find_at c all_found g f in (
            g,
            r.0,
            r.1,
            sym (same_Some (record { fs = g.fs; ty = g.ty; status = found_status g.owner; durable = Some (on_disk (block_of image c)); pending = []; begun = None }) l e')
                ∙ ap (λ b. record { fs = g.fs; ty = g.ty; status = found_status g.owner; durable = Some (on_disk (block_of image b)); pending = []; begun = None }) (sym r.1),
          )

  only_life : (f : Found) → Contains all_found f → IsRecoveredLife T image (recovered T image) f.block (life_of f)
  unfolding life_of
  only_life f i = record {
    reached = reached_found f i;
    durable = refl;
    nothing = refl;
    idle = refl;
    root = λ z. let same : f ≡ first_found = same_found all_found f first_found apart_found i (was_found first_found walked.started) z in
        (ap (λ (x : Found). found_status x.owner) same, ap (λ (x : Found). x.fs) same);
    owner = λ ne. elim (walked.parent f (is_found f i)) [
      | inl s ↦ absurd (ne (ap (λ (x : Found). x.block) s))
      | inr p ↦
          let r = reached_found p.0 p.1 in
          let c = child_at p.0 f r p.2 in (
            p.0.block,
            p.0.ty,
            ap found_status c.1,
            r,
            c.0,
            elim c.2 [
              | inl other ↦ inl (other.0, (life_of p.0, life_of_found p.0 p.1, other.1))
              | inr rest ↦ elim rest [
                | inl t ↦ inr (inl (t.0, (f.ty, t.1), t.2))
                | inr s ↦ inr (inr (s.0, (s.1.0, s.1.1, s.1.2, s.1.3)))
              ]
            ],
          )
    ];
  }

  pub recovered_is : IsRecovered T image (recovered T image)
  unfolding life_of
  recovered_is = record {
    count = lives_count;
    all = λ c u r. let f = each_found c u r in (life_of f.0, subst (λ b. life_at (recovered T image) b ≡ Some (life_of f.0)) f.2 (life_of_found f.0 f.1), f.3);
    only = λ c l e. let f = found_of_life c l e in
        subst (λ x. IsRecoveredLife T image (recovered T image) c x) (sym f.3) (subst (λ b. IsRecoveredLife T image (recovered T image) b (life_of f.0)) f.2 (only_life f.0 f.1));
  }
