use Rattle.std.proofs.Common.{ℕ, suc, ◌+◌, ◌*◌, ◌-◌, ◌/◌, ◌%◌, ◌<◌, ◌≤◌, ◌≡◌, List, [], ◌∷◌, ◌++◌, length, if◌then◌else◌, ap, append_assoc, arith, refl, sym, ◌∙◌}
use Rattle.std.specs.Prelude.{map}
use Rattle.std.proofs.lemmas.Bool.{le-ltb, lt-ltb}
use Rattle.std.proofs.lemmas.List.{append-nil}
use Rattle.treefs_format.specs.Paths.{first_leaf, height_of, leaf_offset, node_offset, place_in_tree, places, steps, tree_steps}
use Rattle.treefs_format.proofs.paths.path.Goals as goal

-- one place more
next : (xs ys all : List ℕ) (h l place offset : ℕ) → l < h → offset ≡ node_offset (place % 127) → ys ≡ xs ++ offset ∷ [] → xs ++ map node_offset (places (h - l) place) ≡ all →
    ys ++ map node_offset (places (h - (l + 1)) (place / 127)) ≡ all
next xs ys all h l place offset lt is pushed so_far =
    let left : h - l ≡ suc (h - (l + 1)) = omega arith in
    let rest = map node_offset (places (h - (l + 1)) (place / 127)) in
    ap (λ s. s ++ rest) pushed ∙ (append_assoc xs (offset ∷ []) rest
    ∙ (ap (λ o. xs ++ o ∷ rest) is ∙ (ap (λ k. xs ++ map node_offset (places k place)) (sym left) ∙ so_far)))

own : (leaf : ℕ) (none items : List ℕ) → leaf < 16 → none ≡ [] → items ≡ none ++ (48 + 4 * leaf) ∷ [] → items ≡ steps leaf
own leaf none items lt empty is =
    is ∙ (ap (λ s. s ++ (48 + 4 * leaf) ∷ []) empty ∙ sym (ap (λ t. if t then leaf_offset leaf ∷ [] else tree_steps (height_of leaf) (place_in_tree leaf)) (lt-ltb leaf 16 lt)))

begun : (none : List ℕ) (leaf h first : ℕ) → none ≡ [] → h ≡ height_of leaf → first ≡ first_leaf h →
    (length none ≡ 0) × (none ++ map node_offset (places (h - 0) (leaf - first)) ≡ map node_offset (places h (place_in_tree leaf)))
begun none leaf h first empty tall is =
    let same : h - 0 ≡ h = omega arith in (
      ap length empty,
      ap (λ s. s ++ map node_offset (places (h - 0) (leaf - first))) empty
          ∙ (ap (λ k. map node_offset (places k (leaf - first))) same ∙ ap (λ n. map node_offset (places h (leaf - n))) (is ∙ ap first_leaf tall)),
    )

ended : (nodes items : List ℕ) (leaf h l place : ℕ) → 16 ≤ leaf → h ≡ height_of leaf → h ≤ l →
    nodes ++ map node_offset (places (h - l) place) ≡ map node_offset (places h (place_in_tree leaf)) → items ≡ nodes ++ (108 + 4 * h) ∷ [] → items ≡ steps leaf
ended nodes items leaf h l place ge tall all so_far is =
    let none : h - l ≡ 0 = omega arith in
    let whole : nodes ≡ map node_offset (places h (place_in_tree leaf)) = sym (append-nil nodes) ∙ (ap (λ k. nodes ++ map node_offset (places k place)) (sym none) ∙ so_far) in
    is ∙ (ap (λ s. s ++ (108 + 4 * h) ∷ []) whole ∙ (ap (λ k. tree_steps k (place_in_tree leaf)) tall
    ∙ sym (ap (λ t. if t then leaf_offset leaf ∷ [] else tree_steps (height_of leaf) (place_in_tree leaf)) (le-ltb leaf 16 ge))))

pub returns-then-leaf-lt-OWN_LEAVES : goal.returns-then-leaf-lt-OWN_LEAVES
returns-then-leaf-lt-OWN_LEAVES c = own c.args.leaf c.new-offsets.result.items c.push.new.self.items c.if-leaf-lt-OWN_LEAVES.true c.new-offsets.ensures c.push.ensures.items

pub loop-level-init : goal.loop-level-init
loop-level-init c = begun c.new-offsets.result.items c.args.leaf c.height-height.result c.first_leaf.result c.new-offsets.ensures c.height-height.ensures c.first_leaf.ensures

pub returns : goal.returns
returns c =
    ended c.loop-level.offsets.items c.push-2.new.self.items c.args.leaf c.height-height.result c.loop-level._level c.loop-level.place
    c.if-leaf-lt-OWN_LEAVES.false c.height-height.ensures c.loop-level-test.false c.loop-level.invariant.1 c.push-2.ensures.items

pub loop-level-preserved : goal.loop-level-preserved
loop-level-preserved c = (
  omega (arith, c.push-in-loop-level.ensures.len),
  next c.loop-level.offsets.items c.push-in-loop-level.new.self.items _ c.height-height.result c.loop-level._level c.loop-level.place _ c.loop-level-test.true refl c.push-in-loop-level.ensures.items c.loop-level.invariant.1,
)
