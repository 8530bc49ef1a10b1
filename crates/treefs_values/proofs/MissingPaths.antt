-- What is planned of a path that lacks its end: the block that is there last, and the pointers behind it.
use Rattle.std.proofs.Common.{◌≡◌, ◌≢◌, ◌⊎◌, ℕ, zero, suc, ◌+◌, ◌<◌, ◌≤◌, List, [], ◌∷◌, ◌++◌, length, get_or, take, drop, refl, sym, ◌∙◌, ap, inl, inr, arith, subst, if◌then◌else◌}
use Rattle.std.specs.Prelude.{reverse}
use Rattle.std.proofs.lemmas.Bool.{lt-ltb}
use Rattle.std.proofs.lemmas.List.{drop_more, length-reverse, length-take-le, reverse-append, take-append-drop}
use Rattle.treefs_format.specs.Paths.{leaf_count, steps}
use Rattle.treefs_model.specs.Reading.{block_at, leaf_block, pointed}
use Rattle.treefs_lookup.specs.Walks.{reach}
use Rattle.treefs_edits.specs.Missing.{missing_path}
use Rattle.treefs_values.specs.Ways.{IsWay}
use Rattle.treefs_values.proofs.Paths.{IsReached, missing_first, onto, onto_reverse, reached_so}
use Rattle.treefs_values.proofs.Ways.{steps_way}

drop_nil : (k : ℕ) → ◌≡◌ {A = List ℕ} (drop k []) []
drop_nil zero = refl
drop_nil (suc k) = refl

way_suffix : (os : List ℕ) (l k : ℕ) → IsWay os l → (drop k os ≡ []) ⊎ ((h : ℕ) × IsWay (drop k os) h)
way_suffix os l zero way = inr (l, way)
way_suffix [] l (suc k) way = absurd way
way_suffix (o ∷ []) l (suc k) way = inl (drop_nil k)
way_suffix (o ∷ p ∷ os) l (suc k) way = way_suffix (p ∷ os) (suc l) k way.3

-- from block b; the ways from it are as they were when it was planned
module _ (old plan : ℕ → List ℕ) (b : ℕ) (b_some : b ≢ 0) (ways : (l : ℕ) (os : List ℕ) → IsWay os l → block_at old b os ≡ block_at plan b os)
    (leaf : ℕ) (leaf_few : leaf < leaf_count) (free : leaf_block plan b leaf ≡ 0) where
  abbrev r_missing : ℕ
  r_missing = (reach plan b (steps leaf)).missing

  abbrev r_block : ℕ
  r_block = (reach plan b (steps leaf)).block

  is_reached : IsReached plan b b_some (steps leaf) (reach plan b (steps leaf))
  is_reached = reached_so plan b b_some (steps leaf)

  some_missing : r_missing ≢ 0
  some_missing z = is_reached.there (is_reached.block ∙ (ap (λ k. block_at plan b (drop k (steps leaf))) z ∙ free))

  pub record IsPathTo (l0 : ℕ) (q nodes : List ℕ) : Type 0 where
    pub steps_are : steps leaf ≡ l0 ∷ onto q nodes
    pub path : missing_path leaf r_missing ≡ nodes ++ l0 ∷ []
    pub long : r_missing ≡ suc (length nodes)
    pub holder : r_block ≡ block_at old b q
    pub there : r_block ≢ 0
    pub first_zero : nodes ≡ [] → pointed old r_block l0 ≡ 0
    pub next_zero : (x : ℕ) (rest : List ℕ) → nodes ≡ x ∷ rest → pointed old r_block x ≡ 0

  suffix_same : (k : ℕ) → block_at old b (drop k (steps leaf)) ≡ block_at plan b (drop k (steps leaf))
  suffix_same k = elim (way_suffix (steps leaf) 0 k (steps_way leaf)) [
    | inl none ↦ ap (block_at old b) none ∙ sym (ap (block_at plan b) none)
    | inr way ↦ ways way.0 (drop k (steps leaf)) way.1
  ]

  module _ (l0 : ℕ) (above : List ℕ) (steps_are : steps leaf ≡ l0 ∷ above) (m : ℕ) (missing_is : r_missing ≡ suc m) where
    lim : r_missing ≤ suc (length above)
    lim = subst (λ os. r_missing ≤ length os) steps_are is_reached.few

    m_few : m ≤ length above
    m_few = let low = lim in omega arith

    nodes_long : length (reverse (take m above)) ≡ m
    nodes_long = length-reverse (take m above) ∙ length-take-le m above m_few

    q_is : drop r_missing (steps leaf) ≡ drop m above
    q_is = (λ j. drop (missing_is j) (steps_are j))

    holder_is : r_block ≡ block_at old b (drop m above)
    holder_is = is_reached.block ∙ (sym (suffix_same r_missing) ∙ ap (block_at old b) q_is)

    abbrev x_first : ℕ
    x_first = get_or (l0 ∷ above) m 0

    at_first : drop m (steps leaf) ≡ x_first ∷ drop m above
    at_first =
        let lt : m < suc (length above) = (let low = m_few in omega arith) in
        let more : m + 1 ≡ suc m = omega arith in
        ap (drop m) steps_are ∙ (drop_more (l0 ∷ above) m 0 lt ∙ ap (λ k. x_first ∷ drop k (l0 ∷ above)) more)

    zero_first : pointed old r_block x_first ≡ 0
    zero_first =
        ap (λ c. pointed old c x_first) holder_is
        ∙ (sym (ap (block_at old b) at_first) ∙ (suffix_same m ∙ (ap (block_at plan b) at_first
        ∙ (ap (λ c. pointed plan c x_first) (sym (is_reached.block ∙ ap (block_at plan b) q_is))
        ∙ subst (λ os. pointed plan r_block (get_or os m 0) ≡ 0) steps_are (is_reached.next m missing_is)))))

    path_is : IsPathTo l0 (drop m above) (reverse (take m above))
    path_is = record {
      steps_are = steps_are ∙ ap (λ l. l0 ∷ l) (sym (onto_reverse (drop m above) (take m above) ∙ take-append-drop m above));
      path = ap (λ t. if t then reverse (take r_missing (steps leaf)) else []) (lt-ltb leaf leaf_count leaf_few)
          ∙ ((λ j. reverse (take (missing_is j) (steps_are j))) ∙ reverse-append (l0 ∷ []) (take m above));
      long = missing_is ∙ ap suc (sym nodes_long);
      holder = holder_is;
      there = is_reached.there;
      first_zero = λ empty.
          let none : m ≡ 0 = sym nodes_long ∙ ap length empty in
          sym (ap (λ k. pointed old r_block (get_or (l0 ∷ above) k 0)) none) ∙ zero_first;
      next_zero = λ x rest is. next_by m m_few zero_first x rest is;
    }
      where
        next_by : (m : ℕ) → m ≤ length above → pointed old r_block (get_or (l0 ∷ above) m 0) ≡ 0 → (x : ℕ) (rest : List ℕ) → reverse (take m above) ≡ x ∷ rest →
            pointed old r_block x ≡ 0
        next_by zero low none x rest is = absurd (cc is)
        next_by (suc m) low none x rest is =
            let lt : m < length above = omega arith in
            let same : get_or above m 0 ≡ x = first_same (get_or above m 0) x (reverse (take m above)) rest (sym (missing_first above m lt) ∙ is) in
            ap (pointed old r_block) (sym same) ∙ none
          where
            first_or : List ℕ → ℕ
            first_or [] = 0
            first_or (y ∷ ys) = y

            first_same : (x y : ℕ) (xs ys : List ℕ) → x ∷ xs ≡ y ∷ ys → x ≡ y
            first_same x y xs ys e = ap first_or e

  pub path_to : (l0 : ℕ) × (q : List ℕ) × (nodes : List ℕ) × IsPathTo l0 q nodes
  path_to = by (steps leaf) refl r_missing refl (steps_way leaf)
    where
      by : (os : List ℕ) → steps leaf ≡ os → (k : ℕ) → r_missing ≡ k → IsWay (steps leaf) 0 → (l0 : ℕ) × (q : List ℕ) × (nodes : List ℕ) × IsPathTo l0 q nodes
      by [] is k e way = absurd (subst (λ os. IsWay os 0) is way)
      by (l0 ∷ above) is zero e way = absurd (some_missing e)
      by (l0 ∷ above) is (suc m) e way = (l0, drop m above, reverse (take m above), path_is l0 above is m e)
