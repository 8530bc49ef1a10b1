-- The pointers of nodes and inodes are what their types own.
use Rattle.std.proofs.Common.{◌≡◌, ◌≢◌, ℕ, zero, suc, ◌+◌, ◌*◌, ◌-◌, ◌/◌, ◌%◌, ◌<◌, ◌≤◌, ◌⊎◌, Bool, true, false, cond, not, ◌&&◌, List, [], ◌∷◌, ◌++◌, length, take, drop, get_or, refl, sym, ◌∙◌, ap, inl, inr, arith, subst, get_or-take, get_or-drop}
use Rattle.std.specs.Prelude.{Contains, IsTrue, Some, None, nat_le, nat_lt, ◌==◌, if◌then◌else◌, slice_index}
use Rattle.std.specs.List.{cons_option}
use Rattle.std.proofs.Math.Dec.{eqb-suc-zero}
use Rattle.std.proofs.lemmas.Bool.{and_from, and_parts, cases_lt, eq-eqb, eqb-true, false≢true, le-leb, leb-true, lt-ltb, ltb-true, not-true, or_cases, or_left, or_right}
use Rattle.std.proofs.lemmas.List.{drop-drop, length-drop, length-take, take-append-drop}
use Rattle.std.proofs.lemmas.List.Elements.{Contains-append_cases, Contains-append_left, Contains-append_right}
use Rattle.xn_model.specs.Lists.{blank, blocks_of, distinct, has_number}
use Rattle.xn_model.specs.Root.{word_at}
use Rattle.xn_model.specs.Types.{Types, fits, named_once, within_size}
use Rattle.xn_model.proofs.ForCallers.{Contains-cons, Contains-head, Contains-none, Contains-tail, blocks_of_has, has_number_from}
use Rattle.treefs_format.specs.Inodes.{pointers_of}
use Rattle.treefs_format.specs.Nodes.{child_type_of, children_of}
use Rattle.treefs_format.specs.Records.{entries_of}
use Rattle.treefs_format.specs.Templates.{IsTree, with_type}
use Rattle.treefs_format.proofs.ForCallers.{blank_at, blank_drop, blank_none, length-words_at, no_length, words_get}
use Rattle.treefs_model.specs.Tables.{ReadsTypes}
use Rattle.treefs_model.specs.Trees.{Bucket, NoBucket, OfInode, OfLeaf, bucket_bytes, has_pointer, is_bare, live_count, records_at, is_inode_offset, is_node_offset, tree_pointer, tree_shape}

-- Words that are not 0, each with a type

step_some : (ty w : ℕ) (ws : List ℕ) → with_type ty (suc w ∷ ws) ≡ (suc w, ty) ∷ with_type ty ws
step_some ty w ws = ap (λ b. cons_option (cond b None (Some (suc w, ty))) (with_type ty ws)) (eqb-suc-zero w)

listed : (ty x : ℕ) (ws : List ℕ) (i : ℕ) → get_or ws i 0 ≡ x → x ≢ 0 → Contains (with_type ty ws) (x, ty)
listed ty x [] i e ne = absurd (ne (sym e))
listed ty x (zero ∷ ws) zero e ne = absurd (ne (sym e))
listed ty x (zero ∷ ws) (suc i) e ne = listed ty x ws i e ne
listed ty x (suc w ∷ ws) zero e ne =
    subst (λ l. Contains l (x, ty)) (sym (step_some ty w ws)) (subst (λ v. Contains ((v, ty) ∷ with_type ty ws) (x, ty)) (sym e) (Contains-head (x, ty) (with_type ty ws)))
listed ty x (suc w ∷ ws) (suc i) e ne =
    subst (λ l. Contains l (x, ty)) (sym (step_some ty w ws)) (Contains-tail (suc w, ty) (with_type ty ws) (x, ty) (listed ty x ws i e ne))

found : (ty x u : ℕ) (ws : List ℕ) → Contains (with_type ty ws) (x, u) → (i : ℕ) × (i < length ws) × (get_or ws i 0 ≡ x)
found ty x u [] h = absurd (Contains-none (x, u) h)
found ty x u (zero ∷ ws) h = let r = found ty x u ws h in let lt = r.1 in (suc r.0, omega arith, r.2)
found ty x u (suc w ∷ ws) h = elim (Contains-cons (suc w, ty) (with_type ty ws) (x, u) (subst (λ l. Contains l (x, u)) (step_some ty w ws) h)) [
  | inl e ↦ (0, omega arith, ap (λ (p : ℕ × ℕ). p.0) e)
  | inr k ↦ let r = found ty x u ws k in let lt = r.1 in (suc r.0, omega arith, r.2)
]

-- the first of distinct blocks stands nowhere behind
first_alone : (ty x w : ℕ) (ws : List ℕ) (j : ℕ) → IsTrue (distinct (blocks_of (with_type ty (suc w ∷ ws)))) → suc w ≡ x → get_or ws j 0 ≡ x → x ≢ 0 → ⊥
first_alone ty x w ws j d e f ne =
    let rest = blocks_of (with_type ty ws) in
    let alone = (and_parts (not (has_number rest (suc w))) (distinct rest) (subst (λ l. IsTrue (distinct (blocks_of l))) (step_some ty w ws) d)).0 in
    let there = has_number_from rest x (blocks_of_has (with_type ty ws) (x, ty) (listed ty x ws j f ne)) in
    false≢true (sym (not-true (has_number rest (suc w)) alone) ∙ (ap (has_number rest) e ∙ there))

rest_distinct : (ty w : ℕ) (ws : List ℕ) → IsTrue (distinct (blocks_of (with_type ty (suc w ∷ ws)))) → IsTrue (distinct (blocks_of (with_type ty ws)))
rest_distinct ty w ws d =
    let rest = blocks_of (with_type ty ws) in
    (and_parts (not (has_number rest (suc w))) (distinct rest) (subst (λ l. IsTrue (distinct (blocks_of l))) (step_some ty w ws) d)).1

once_in : (ty x : ℕ) (ws : List ℕ) (i j : ℕ) → IsTrue (distinct (blocks_of (with_type ty ws))) → get_or ws i 0 ≡ x → get_or ws j 0 ≡ x → x ≢ 0 → i ≡ j
once_in ty x [] i j d e f ne = absurd (ne (sym e))
once_in ty x (zero ∷ ws) zero j d e f ne = absurd (ne (sym e))
once_in ty x (zero ∷ ws) (suc i) zero d e f ne = absurd (ne (sym f))
once_in ty x (zero ∷ ws) (suc i) (suc j) d e f ne = ap suc (once_in ty x ws i j d e f ne)
once_in ty x (suc w ∷ ws) zero zero d e f ne = refl
once_in ty x (suc w ∷ ws) zero (suc j) d e f ne = absurd (first_alone ty x w ws j d e f ne)
once_in ty x (suc w ∷ ws) (suc i) zero d e f ne = absurd (first_alone ty x w ws i d f e ne)
once_in ty x (suc w ∷ ws) (suc i) (suc j) d e f ne = ap suc (once_in ty x ws i j (rest_distinct ty w ws d) e f ne)

-- the blocks of two lists, whatever their types
blocks_any : (a b : ℕ) (ws : List ℕ) → blocks_of (with_type a ws) ≡ blocks_of (with_type b ws)
blocks_any a b [] = refl
blocks_any a b (zero ∷ ws) = blocks_any a b ws
blocks_any a b (suc w ∷ ws) = ap blocks_of (step_some a w ws) ∙ (ap (λ l. suc w ∷ l) (blocks_any a b ws) ∙ sym (ap blocks_of (step_some b w ws)))

blocks_both : (a b : ℕ) (xs ys : List ℕ) → blocks_of (with_type a xs ++ with_type b ys) ≡ blocks_of (with_type a (xs ++ ys))
blocks_both a b [] ys = blocks_any b a ys
blocks_both a b (zero ∷ xs) ys = blocks_both a b xs ys
blocks_both a b (suc w ∷ xs) ys =
    ap (λ l. blocks_of (l ++ with_type b ys)) (step_some a w xs) ∙ (ap (λ l. suc w ∷ l) (blocks_both a b xs ys) ∙ sym (ap blocks_of (step_some a w (xs ++ ys))))

-- Where a pointer stands

-- at a place of a node, or of an inode
abbrev Where : ℕ → ℕ → ℕ → ℕ → Type 0
Where node inode t o = ((t ≡ node) × (j : ℕ) × (j < 127) × (o ≡ 4 + 4 * j)) ⊎ ((t ≡ inode) × (j : ℕ) × (j < 20) × (o ≡ 48 + 4 * j))

-- the three tests of an offset
within : (low high o : ℕ) → IsTrue (nat_le low o && (nat_lt o high && (o % 4 == 0))) → (low ≤ o) × (o < high) × (o % 4 ≡ 0)
within low high o h =
    let first = and_parts (nat_le low o) (nat_lt o high && (o % 4 == 0)) h in
    let second = and_parts (nat_lt o high) (o % 4 == 0) first.1 in
    (leb-true low o first.0, ltb-true o high second.0, eqb-true (o % 4) 0 second.1)

test_within : (low high o : ℕ) → low ≤ o → o < high → o % 4 ≡ 0 → IsTrue (nat_le low o && (nat_lt o high && (o % 4 == 0)))
test_within low high o a b c = and_from (nat_le low o) (nat_lt o high && (o % 4 == 0)) (le-leb low o a) (and_from (nat_lt o high) (o % 4 == 0) (lt-ltb o high b) (eq-eqb (o % 4) 0 c))

where_from : (node inode t o : ℕ) → IsTrue (has_pointer node inode t o) → Where node inode t o
where_from node inode t o h = elim (or_cases ((t == node) && is_node_offset o) ((t == inode) && is_inode_offset o) h) [
  | inl a ↦
      let parts = and_parts (t == node) (is_node_offset o) a in
      let r = within 4 512 o parts.1 in
      let low = r.0 in let high = r.1 in let four = r.2 in
      inl (eqb-true t node parts.0, (o - 4) / 4, omega arith, omega arith)
  | inr b ↦
      let parts = and_parts (t == inode) (is_inode_offset o) b in
      let r = within 48 128 o parts.1 in
      let low = r.0 in let high = r.1 in let four = r.2 in
      inr (eqb-true t inode parts.0, (o - 48) / 4, omega arith, omega arith)
]

test_where : (node inode t o : ℕ) → Where node inode t o → IsTrue (has_pointer node inode t o)
test_where node inode t o place = elim place [
  | inl a ↦
      let lt = a.2 in let is = a.3 in
      or_left ((t == node) && is_node_offset o) ((t == inode) && is_inode_offset o)
      (and_from (t == node) (is_node_offset o) (eq-eqb t node a.0) (test_within 4 512 o (omega arith) (omega arith) (omega arith)))
  | inr b ↦
      let lt = b.2 in let is = b.3 in
      or_right ((t == node) && is_node_offset o) ((t == inode) && is_inode_offset o)
      (and_from (t == inode) (is_inode_offset o) (eq-eqb t inode b.0) (test_within 48 128 o (omega arith) (omega arith) (omega arith)))
]

-- a pointer that is not 0 is a word there
pointer_word : (node inode t o x : ℕ) (m : List ℕ) → tree_pointer node inode t m o ≡ x → x ≢ 0 → Where node inode t o × (word_at m o ≡ x)
pointer_word node inode t o x m e ne = by (has_pointer node inode t o) refl
  where
    by : (b : Bool) → has_pointer node inode t o ≡ b → Where node inode t o × (word_at m o ≡ x)
    by true h = (where_from node inode t o h, sym (ap (λ b. if b then word_at m o else 0) h) ∙ e)
    by false h = absurd (ne (sym (sym (ap (λ b. if b then word_at m o else 0) h) ∙ e)))

word_pointer : (node inode t o x : ℕ) (m : List ℕ) → Where node inode t o → word_at m o ≡ x → tree_pointer node inode t m o ≡ x
word_pointer node inode t o x m place e = ap (λ b. if b then word_at m o else 0) (test_where node inode t o place) ∙ e

-- Bytes that are 0 but for the first

bare_word : (m : List ℕ) (o : ℕ) → 1 ≤ o → IsTrue (is_bare m) → word_at m o ≡ 0
unfolding word_at
bare_word m o low bare =
    let one : 1 + (o - 1) ≡ o = omega arith in
    let clear = subst (λ l. IsTrue (blank l)) (drop-drop (o - 1) 1 m ∙ ap (λ k. drop k m) one) (blank_drop (o - 1) (drop 1 m) bare) in
    let each = λ (i : ℕ). blank_at (drop o m) i clear in
    let a = get_or-take 4 (drop o m) 0 0 (omega arith) ∙ each 0 in
    let b = get_or-take 4 (drop o m) 1 0 (omega arith) ∙ each 1 in
    let c = get_or-take 4 (drop o m) 2 0 (omega arith) ∙ each 2 in
    let d = get_or-take 4 (drop o m) 3 0 (omega arith) ∙ each 3 in
    omega arith

pub bare_pointer : (node inode t o : ℕ) (m : List ℕ) → IsTrue (is_bare m) → tree_pointer node inode t m o ≡ 0
bare_pointer node inode t o m bare = by (has_pointer node inode t o) refl
  where
    by : (b : Bool) → has_pointer node inode t o ≡ b → tree_pointer node inode t m o ≡ 0
    by true h = ap (λ b. if b then word_at m o else 0) h ∙ elim (where_from node inode t o h) [
      | inl a ↦ let is = a.3 in bare_word m o (omega arith) bare
      | inr b ↦ let is = b.3 in bare_word m o (omega arith) bare
    ]
    by false h = ap (λ b. if b then word_at m o else 0) h

-- What the two types own

module _ (T : Types) (node inode : ℕ) (tree : IsTree T node inode) (apart : node ≢ inode) where
  -- a word of a node, and one of an inode, is owned
  node_owned : (m : List ℕ) (j x : ℕ) → j < 127 → word_at m (4 + 4 * j) ≡ x → x ≢ 0 → Contains (T.owned node m) (x, child_type_of m)
  node_owned m j x lt e ne = subst (λ l. Contains l (x, child_type_of m)) (sym (tree.node_owns m)) (listed (child_type_of m) x (children_of m) j (words_get m 4 127 j 0 lt ∙ e) ne)

  inode_owned : (m : List ℕ) (j x : ℕ) → j < 20 → word_at m (48 + 4 * j) ≡ x → x ≢ 0 → (u : ℕ) × Contains (T.owned inode m) (x, u)
  inode_owned m j x lt e ne =
      let ps = pointers_of m in
      let is = words_get m 48 20 j 0 lt ∙ e in
      let first = with_type (slice_index m 0) (take 16 ps) in
      let second = with_type (slice_index m 1) (drop 16 ps) in
      elim (cases_lt j 16) [
        | inl own ↦ (slice_index m 0, subst (λ l. Contains l (x, slice_index m 0)) (sym (tree.inode_owns m)) (Contains-append_left first second (x, slice_index m 0) (listed (slice_index m 0) x (take 16 ps) j (get_or-take 16 ps j 0 own ∙ is) ne)))
        | inr ge ↦
            let back : 16 + (j - 16) ≡ j = omega arith in (
              slice_index m 1,
              subst (λ l. Contains l (x, slice_index m 1)) (sym (tree.inode_owns m))
                  (Contains-append_right first second (x, slice_index m 1) (listed (slice_index m 1) x (drop 16 ps) (j - 16) (get_or-drop 16 ps (j - 16) 0 ∙ (ap (λ k. get_or ps k 0) back ∙ is)) ne)),
            )
      ]

  -- and what is owned is such a word
  node_found : (m : List ℕ) (x u : ℕ) → Contains (T.owned node m) (x, u) → (j : ℕ) × (j < 127) × (word_at m (4 + 4 * j) ≡ x)
  node_found m x u h =
      let r = found (child_type_of m) x u (children_of m) (subst (λ l. Contains l (x, u)) (tree.node_owns m) h) in
      let long = length-words_at m 4 127 in
      let lt = r.1 in
      let few : r.0 < 127 = omega arith in
      (r.0, few, sym (words_get m 4 127 r.0 0 few) ∙ r.2)

  inode_found : (m : List ℕ) (x u : ℕ) → Contains (T.owned inode m) (x, u) → (j : ℕ) × (j < 20) × (word_at m (48 + 4 * j) ≡ x)
  inode_found m x u h =
      let ps = pointers_of m in
      let first = with_type (slice_index m 0) (take 16 ps) in
      let second = with_type (slice_index m 1) (drop 16 ps) in
      let long = length-words_at m 48 20 in
      elim (Contains-append_cases first second (x, u) (subst (λ l. Contains l (x, u)) (tree.inode_owns m) h)) [
        | inl a ↦
            let r = found (slice_index m 0) x u (take 16 ps) a in
            let size = length-take 16 ps in
            let lt = r.1 in
            let own : r.0 < 16 = omega arith in
            (r.0, omega arith, sym (words_get m 48 20 r.0 0 (omega arith)) ∙ (sym (get_or-take 16 ps r.0 0 own) ∙ r.2))
        | inr b ↦
            let r = found (slice_index m 1) x u (drop 16 ps) b in
            let size = length-drop 16 ps in
            let lt = r.1 in
            let few : 16 + r.0 < 20 = omega arith in
            (16 + r.0, few, sym (words_get m 48 20 (16 + r.0) 0 few) ∙ (sym (get_or-drop 16 ps r.0 0) ∙ r.2))
      ]

  node_once : (m : List ℕ) (i j x : ℕ) → IsTrue (fits T node m) → i < 127 → j < 127 → word_at m (4 + 4 * i) ≡ x → word_at m (4 + 4 * j) ≡ x → x ≢ 0 → i ≡ j
  node_once m i j x fit a b e f ne =
      let named = (and_parts (named_once T node m) (within_size T node m) fit).0 in
      once_in (child_type_of m) x (children_of m) i j (subst (λ l. IsTrue (distinct (blocks_of l))) (tree.node_owns m) named)
      (words_get m 4 127 i 0 a ∙ e) (words_get m 4 127 j 0 b ∙ f) ne

  inode_once : (m : List ℕ) (i j x : ℕ) → IsTrue (fits T inode m) → i < 20 → j < 20 → word_at m (48 + 4 * i) ≡ x → word_at m (48 + 4 * j) ≡ x → x ≢ 0 → i ≡ j
  inode_once m i j x fit a b e f ne =
      let ps = pointers_of m in
      let named = (and_parts (named_once T inode m) (within_size T inode m) fit).0 in
      let all = blocks_both (slice_index m 0) (slice_index m 1) (take 16 ps) (drop 16 ps) ∙ ap (λ l. blocks_of (with_type (slice_index m 0) l)) (take-append-drop 16 ps) in
      once_in (slice_index m 0) x ps i j (subst (λ l. IsTrue (distinct l)) all (subst (λ l. IsTrue (distinct (blocks_of l))) (tree.inode_owns m) named))
      (words_get m 48 20 i 0 a ∙ e) (words_get m 48 20 j 0 b ∙ f) ne

  pub reads_types : ReadsTypes T (tree_shape node inode)
  reads_types = record {
    owned = λ t m o x e ne. let p = pointer_word node inode t o x m e ne in elim p.0 [
      | inl a ↦ (child_type_of m, subst (λ k. Contains (T.owned k m) (x, child_type_of m)) (sym a.0) (node_owned m a.1 x a.2 (ap (word_at m) (sym a.3) ∙ p.1) ne))
      | inr b ↦ let r = inode_owned m b.1 x b.2 (ap (word_at m) (sym b.3) ∙ p.1) ne in (r.0, subst (λ k. Contains (T.owned k m) (x, r.0)) (sym b.0) r.1)
    ];
    slots = λ t m m' o x u some h. let p = pointer_word node inode t o (tree_pointer node inode t m o) m refl some in elim p.0 [
      | inl a ↦ let r = node_found m' x u (subst (λ k. Contains (T.owned k m') (x, u)) a.0 h) in (4 + 4 * r.0, word_pointer node inode t (4 + 4 * r.0) x m' (inl (a.0, r.0, r.1, refl)) r.2)
      | inr b ↦ let r = inode_found m' x u (subst (λ k. Contains (T.owned k m') (x, u)) b.0 h) in (48 + 4 * r.0, word_pointer node inode t (48 + 4 * r.0) x m' (inr (b.0, r.0, r.1, refl)) r.2)
    ];
    once = λ t m o o' x fit e f ne. once t m o o' x fit (pointer_word node inode t o x m e ne) (pointer_word node inode t o' x m f ne) ne;
    none = λ t o. none t o;
  }
    where
      once : (t : ℕ) (m : List ℕ) (o o' x : ℕ) → IsTrue (fits T t m) → Where node inode t o × (word_at m o ≡ x) → Where node inode t o' × (word_at m o' ≡ x) → x ≢ 0 → o ≡ o'
      once t m o o' x fit p q ne = elim p.0 [
        | inl a ↦ elim q.0 [
          | inl b ↦ let same = node_once m a.1 b.1 x (subst (λ k. IsTrue (fits T k m)) a.0 fit) a.2 b.2 (ap (word_at m) (sym a.3) ∙ p.1) (ap (word_at m) (sym b.3) ∙ q.1) ne in
              a.3 ∙ (ap (λ k. 4 + 4 * k) same ∙ sym b.3)
          | inr b ↦ absurd (apart (sym a.0 ∙ b.0))
        ]
        | inr a ↦ elim q.0 [
          | inl b ↦ absurd (apart (sym b.0 ∙ a.0))
          | inr b ↦ let same = inode_once m a.1 b.1 x (subst (λ k. IsTrue (fits T k m)) a.0 fit) a.2 b.2 (ap (word_at m) (sym a.3) ∙ p.1) (ap (word_at m) (sym b.3) ∙ q.1) ne in
              a.3 ∙ (ap (λ k. 48 + 4 * k) same ∙ sym b.3)
        ]
      ]

      none : (t o : ℕ) → tree_pointer node inode t [] o ≡ 0
      none t o = bare_pointer node inode t o [] refl

pub bare_records : (buckets : ℕ → Bucket) (n b : ℕ) (m : List ℕ) → IsTrue (is_bare m) → records_at buckets n b m ≡ 0
bare_records buckets n b m bare = ap (live_count n) (none (buckets b))
  where
    none : (k : Bucket) → entries_of (bucket_bytes k m) ≡ []
    none NoBucket = blank_none [] refl
    none OfInode = blank_none (drop 128 m) (subst (λ l. IsTrue (blank l)) (drop-drop 127 1 m) (blank_drop 127 (drop 1 m) bare))
    none OfLeaf = no_length m (sym (get_or-drop 1 m 3 0) ∙ blank_at (drop 1 m) 3 bare)

-- Pointers, by their places

pub inode_pointer : (node inode j : ℕ) (m : List ℕ) → j < 20 → tree_pointer node inode inode m (48 + 4 * j) ≡ slice_index (pointers_of m) j
inode_pointer node inode j m lt = word_pointer node inode inode (48 + 4 * j) (slice_index (pointers_of m) j) m (inr (refl, j, lt, refl)) (sym (words_get m 48 20 j 0 lt))

pub node_pointer : (node inode j : ℕ) (m : List ℕ) → j < 127 → tree_pointer node inode node m (4 + 4 * j) ≡ slice_index (children_of m) j
node_pointer node inode j m lt = word_pointer node inode node (4 + 4 * j) (slice_index (children_of m) j) m (inl (refl, j, lt, refl)) (sym (words_get m 4 127 j 0 lt))

-- the same pointers are read where the bytes have the same
same_pointer : (node inode t o : ℕ) (m m' : List ℕ) → (Where node inode t o → word_at m' o ≡ word_at m o) → tree_pointer node inode t m' o ≡ tree_pointer node inode t m o
same_pointer node inode t o m m' same = by (has_pointer node inode t o) refl
  where
    by : (b : Bool) → has_pointer node inode t o ≡ b → tree_pointer node inode t m' o ≡ tree_pointer node inode t m o
    by true h = ap (λ b. if b then word_at m' o else 0) h ∙ (same (where_from node inode t o h) ∙ sym (ap (λ b. if b then word_at m o else 0) h))
    by false h = ap (λ b. if b then word_at m' o else 0) h ∙ sym (ap (λ b. if b then word_at m o else 0) h)

pub inode_same : (node inode o : ℕ) (m m' : List ℕ) → node ≢ inode → pointers_of m' ≡ pointers_of m → tree_pointer node inode inode m' o ≡ tree_pointer node inode inode m o
inode_same node inode o m m' apart same = same_pointer node inode inode o m m' (λ place. elim place [
  | inl a ↦ absurd (apart (sym a.0))
  | inr b ↦ ap (word_at m') b.3 ∙ (sym (words_get m' 48 20 b.1 0 b.2) ∙ (ap (λ l. get_or l b.1 0) same ∙ (words_get m 48 20 b.1 0 b.2 ∙ sym (ap (word_at m) b.3))))
])

pub node_same : (node inode o : ℕ) (m m' : List ℕ) → node ≢ inode → children_of m' ≡ children_of m → tree_pointer node inode node m' o ≡ tree_pointer node inode node m o
node_same node inode o m m' apart same = same_pointer node inode node o m m' (λ place. elim place [
  | inl a ↦ ap (word_at m') a.3 ∙ (sym (words_get m' 4 127 a.1 0 a.2) ∙ (ap (λ l. get_or l a.1 0) same ∙ (words_get m 4 127 a.1 0 a.2 ∙ sym (ap (word_at m) a.3))))
  | inr b ↦ absurd (apart b.0)
])
