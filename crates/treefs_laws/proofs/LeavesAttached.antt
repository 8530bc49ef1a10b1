-- Nodes, and then leaves side by side with bytes, are attached to a file where none were.
use Rattle.std.proofs.Common.{◌≡◌, ◌≢◌, ◌⊎◌, ℕ, zero, suc, ◌+◌, ◌-◌, ◌*◌, ◌/◌, ◌%◌, ◌<◌, ◌≤◌, List, [], ◌∷◌, ◌++◌, length, take, drop, None, Some, refl, sym, ◌∙◌, ap, inl, inr, arith, subst, append_assoc, append-nil, length-append, length-drop, length-take-le, take_all}
use Rattle.std.specs.Prelude.{All, IsTrue}
use Rattle.std.proofs.lemmas.Bool.{cases_lt}
use Rattle.std.proofs.lemmas.List.Elements.{All-cons, All-drop, All-nil, All-take}
use Rattle.xn_model.specs.Types.{Types}
use Rattle.xn_model.specs.BareDisks.{zeros}
use Rattle.xn_model.specs.Lists.{put}
use Rattle.treefs_format.specs.Fields.{fields_of}
use Rattle.treefs_format.specs.Inodes.{kind_of}
use Rattle.treefs_format.specs.Leaves.{greatest_size}
use Rattle.treefs_format.specs.Paths.{leaf_count, steps}
use Rattle.treefs_format.specs.Templates.{IsTree}
use Rattle.treefs_format.specs.declared.kind.Kind.{Kind}
use Rattle.treefs_format.specs.declared.kind.Kind.TheVariants as kind
use Rattle.treefs_model.specs.Acts.{attach_act}
use Rattle.treefs_model.specs.Reading.{block_at, byte_of, pointed}
use Rattle.treefs_model.specs.Trees.{has_pointer}
use Rattle.treefs_edits.specs.Written.{written}
use Rattle.treefs_byte_plans.specs.Runs.{leaf_starts}
use Rattle.treefs_values.specs.Attached.{IsPointerSet}
use Rattle.treefs_values.specs.Ways.{IsWay, block_numbered}
use Rattle.treefs_values.proofs.ForCallers.{AreNew, AreOf, IsNew, IsOther, New, blocks_in, new_kept, onto, steps_way}
use Rattle.treefs_laws.proofs.Attaching.{above_stays, attached, attached_byte, attached_fields, attached_files, attached_keeps, attached_numbered, attached_there, attached_volume, not_on_way, set, way_pointer}
use Rattle.treefs_laws.proofs.LeafAttached.{leaf_over, over_same}
use Rattle.treefs_laws.proofs.OverFile.{IsOver}
use Rattle.treefs_laws.proofs.PointersPatched.{attach_each}

take_nil : (k : ℕ) → ◌≡◌ {A = List ℕ} (take k []) []
take_nil zero = refl
take_nil (suc k) = refl

take_parts : (a b : ℕ) (xs : List ℕ) → take a xs ++ take b (drop a xs) ≡ take (a + b) xs
take_parts zero b xs = ap (λ k. take k xs) (let e : b ≡ 0 + b = omega arith in e)
take_parts (suc a) b [] = take_nil b ∙ sym (take_nil (suc a + b))
take_parts (suc a) b (x ∷ xs) = ap (λ l. x ∷ l) (take_parts a b xs) ∙ ap (λ k. take k (x ∷ xs)) (let e : suc (a + b) ≡ suc a + b = omega arith in e)

-- where pointers of ways stand
pub way_stands : (o l : ℕ) (q : List ℕ) → IsWay (o ∷ q) l → (4 ≤ o) × (o + 4 ≤ 512) × (o % 4 ≡ 0)
way_stands o l [] (inl own) = let lt : own.0 < 16 = own.1 in let e : o ≡ 48 + 4 * own.0 = own.2 in (omega arith, omega arith, omega arith)
way_stands o l [] (inr tree) = let low = tree.0 in let high = tree.1 in let e : o ≡ 108 + 4 * l = tree.2 in (omega arith, omega arith, omega arith)
way_stands o l (p ∷ q) way = let lt : way.0 < 127 = way.1 in let e : o ≡ 4 + 4 * way.0 = way.2 in (omega arith, omega arith, omega arith)

pub way_up : (l0 o : ℕ) (q os : List ℕ) → IsWay (l0 ∷ onto (o ∷ q) os) 0 → IsWay (onto (o ∷ q) os) 1
way_up l0 o q [] way = way.3
way_up l0 o q (p ∷ os) way = way_up l0 p (o ∷ q) os way

module _ (T : Types) (fs node inode top : ℕ) (fs_few : fs < 32) (tree : IsTree T node inode) (n : ℕ)
    (number : n ≢ 0) (b : ℕ) (there : b ≢ 0)
    (k : Kind) (no_directory : k ≢ kind.Directory) (content : ℕ → List ℕ) (block_is : block_numbered content top n ≡ b)
    (is_kind : kind_of (fields_of (content b)).mode ≡ Some k) (small : (fields_of (content b)).size ≤ greatest_size) (at : ℕ) (type : ℕ → ℕ) where
  abbrev Over : List ℕ → (ℕ → List ℕ) → Type 0
  Over bytes m = IsOver node inode top n number b there k no_directory content block_is is_kind small at type bytes m

  abbrev IsOne : (ℕ → List ℕ) → New → Type 0
  IsOne m x = IsNew node inode type m top x

  abbrev Plain : New → Type 0
  Plain x = x.ty ≢ inode

  -- One pointer is set: what stays

  module _ (bytes : List ℕ) (m : ℕ → List ℕ) (o : Over bytes m) (l off : ℕ) (q : List ℕ) (way : IsWay (off ∷ q) l) (h : ℕ) (h_is : block_at m b q ≡ h)
      (h_there : h ≢ 0)
      (x : New) (new : IsOne m x) (as_node : (k : ℕ) → l ≡ suc k → x.ty ≡ node) (as_data : l ≡ 0 → x.ty ≡ 2) (none : pointed m h off ≡ 0) (ty : ℕ) where
    abbrev pub with_one : ℕ → List ℕ
    with_one = written (attach_act h off ty (x.block ∷ []) None) m

    abbrev holder : ℕ
    holder = block_at m (block_numbered m top n) q

    holder_is : holder ≡ h
    holder_is = ap (λ c. block_at m c q) o.block ∙ h_is

    holder_there : holder ≢ 0
    holder_there z = h_there (sym holder_is ∙ z)

    none_there : pointed m holder off ≡ 0
    none_there = ap (λ c. pointed m c off) holder_is ∙ none

    abbrev made : ℕ → List ℕ
    made = attached node inode top type m o.volume n number l off q way holder_there x new as_node as_data none_there ty None

    made_is : made ≡ with_one
    made_is = ap (λ c. written (attach_act c off ty (x.block ∷ []) None) m) holder_is

    pub one_set : IsPointerSet node inode type m with_one h off x.block
    one_set = subst (λ c. IsPointerSet node inode type m (written (attach_act c off ty (x.block ∷ []) None) m) c off x.block) holder_is
        (set node inode top type m o.volume n number l off q way holder_there x new as_node as_data none_there ty None)

    pub one_above : block_at with_one b q ≡ h
    one_above =
        ap (λ c. block_at with_one c q) (sym o.block)
        ∙ (ap (λ c. block_at c (block_numbered m top n) q) (sym made_is)
        ∙ (above_stays node inode top type m o.volume n number l off q way holder_there x new as_node as_data none_there ty None ∙ holder_is))

    pub one_there : block_at with_one b (off ∷ q) ≡ x.block
    one_there =
        ap (λ c. block_at with_one c (off ∷ q)) (sym o.block)
        ∙ (ap (λ c. block_at c (block_numbered m top n) (off ∷ q)) (sym made_is)
        ∙ attached_there node inode top type m o.volume n number l off q way holder_there x new as_node as_data none_there ty None)

    pub one_other : (y : New) → IsOne m y → Plain y → y.block ≢ h
    one_other y is plain same = not_on_way node inode top type m o.volume n l off q way holder_there y is plain (same ∙ sym holder_is)

    pub one_keeps : (y : New) → IsOne m y → Plain y → IsOther x y → IsOne with_one y
    one_keeps y is plain ne = subst (λ c. IsOne c y) made_is
        (attached_keeps node inode top type m o.volume n number l off q way holder_there x new as_node as_data none_there ty None y is ne
        (λ same. one_other y is plain (same ∙ holder_is)))

    pub one_all : (ys : List New) → All Plain ys → All (IsOther x) ys → AreNew node inode type m top ys → AreNew node inode type with_one top ys
    one_all ys plain others are = new_kept node inode top type type m with_one (λ y. Plain y × IsOther x y) ys (λ i d lt. (plain i d lt, others i d lt))
        (λ y p is. one_keeps y is p.0 p.1) are

    -- other pointers of the block that lead nowhere
    pub one_zero : (off' l' : ℕ) → IsWay (off' ∷ q) l' → off' ≢ off → pointed m h off' ≡ 0 → pointed with_one h off' ≡ 0
    one_zero off' l' way' ne zero_there =
        one_set.others h off' (subst (λ c. IsTrue (has_pointer node inode (type c) off')) holder_is
        (way_pointer node inode top type m o.volume n l' off' q way' holder_there)) (inr ne)
        ∙ zero_there

    -- a node changes no byte of the file
    pub one_over : (l ≡ 0 → ⊥) → Over bytes with_one
    one_over not_leaf =
        subst (Over bytes) made_is (over_same node inode top n number b there k no_directory content block_is is_kind small at type type bytes m
        made o
        (attached_volume node inode top type m o.volume n number l off q way holder_there x new as_node as_data none_there ty None
        (λ e. absurd (not_leaf e)))
        (attached_numbered node inode top type m o.volume n number l off q way holder_there x new as_node as_data none_there ty None ∙ o.block)
        (subst (λ c. fields_of (made c) ≡ fields_of (m c)) o.block
        (attached_fields node inode top type m o.volume n number l off q way holder_there x new as_node as_data none_there ty None))
        (attached_files node inode top type m o.volume n number l off q way holder_there x new as_node as_data none_there ty None
        (λ e. absurd (not_leaf e)))
        (λ p low. subst (λ c. byte_of made c p ≡ byte_of m c p) o.block
        (attached_byte node inode top type m o.volume n number l off q way holder_there x new as_node as_data none_there ty None
        (λ e. absurd (not_leaf e)) p low)))

  -- Leaves

  abbrev OfLeaves : ℕ → ℕ → List ℕ → List New → Type 0
  OfLeaves count place rest zs = AreOf T fs node inode top fs_few tree (leaf_starts count place rest) zs

  pub leaves_plain : 2 ≢ inode → (count place : ℕ) (rest : List ℕ) (zs : List New) → OfLeaves count place rest zs → All Plain zs
  leaves_plain ne zero place rest [] of = All-nil Plain
  leaves_plain ne zero place rest (z ∷ zs) of = absurd of
  leaves_plain ne (suc count) place rest [] of = absurd of
  leaves_plain ne (suc count) place rest (z ∷ zs) of =
      All-cons Plain z zs (λ is. ne (sym of.0 ∙ is)) (leaves_plain ne count 0 (drop (512 - place) rest) zs of.2)

  of_first : (k count : ℕ) → k ≤ count → (place : ℕ) (rest : List ℕ) (zs : List New) → OfLeaves count place rest zs → OfLeaves k place rest (take k zs)
  of_first zero count few place rest zs of = tt
  of_first (suc k) zero few place rest zs of = absurd (omega arith)
  of_first (suc k) (suc count) few place rest [] of = absurd of
  of_first (suc k) (suc count) few place rest (z ∷ zs) of = (of.0, of.1, of_first k count (omega arith) 0 (drop (512 - place) rest) zs of.2)

  new_first : (m : ℕ → List ℕ) (k : ℕ) (zs : List New) → AreNew node inode type m top zs → AreNew node inode type m top (take k zs)
  new_first m zero zs news = tt
  new_first m (suc k) [] news = tt
  new_first m (suc k) (z ∷ zs) news = (news.0, All-take (IsOther z) k zs news.1, new_first m k zs news.2)

  -- where a pointer is free
  pub record IsFree (m : ℕ → List ℕ) (h i off : ℕ) (above : List ℕ) (j : ℕ) : Type 0 where
    pub few : i + j < leaf_count
    pub steps_are : steps (i + j) ≡ (off + 4 * j) ∷ above
    pub none : pointed m h (off + 4 * j) ≡ 0

  -- where the next byte stands, and that each leaf has one
  pub record IsSpot (count : ℕ) (first i place : ℕ) (rest : List ℕ) : Type 0 where
    pub high : 384 ≤ first
    pub leaf_is : first / 512 ≡ i
    pub place_is : first % 512 ≡ place
    pub enough : 512 * (count - 1) - place < length rest

  -- once one leaf is attached
  pub record IsNextLeaf (h i off : ℕ) (above : List ℕ) (count : ℕ) (bytes rest : List ℕ) (zs : List New) (m : ℕ → List ℕ) : Type 0 where
    pub over : Over bytes m
    pub above_is : block_at m b above ≡ h
    pub news : AreNew node inode type m top zs
    pub free : (j : ℕ) → j < count → IsFree m h i off above j
    pub spot : 0 < count → IsSpot count (at + length bytes) i 0 rest

  module _ (h : ℕ) (h_there : h ≢ 0) (above : List ℕ) (count : ℕ) (z : New) (zs : List New) (i off place : ℕ) (bytes rest : List ℕ) (m : ℕ → List ℕ)
      (o : Over bytes m)
      (h_is : block_at m b above ≡ h) (of : OfLeaves (suc count) place rest (z ∷ zs)) (news : AreNew node inode type m top (z ∷ zs))
      (free : (j : ℕ) → j < suc count → IsFree m h i off above j) (range : All (λ b. b < 256) rest)
      (spot : 0 < suc count → IsSpot (suc count) (at + length bytes) i place rest) where
    s : IsSpot (suc count) (at + length bytes) i place rest
    s = spot (omega arith)

    f : IsFree m h i off above 0
    f = free 0 (omega arith)

    abbrev more : List ℕ
    more = take (512 - place) rest

    low : place < 512
    low = let p = s.place_is in omega arith

    some_rest : 0 < length rest
    some_rest = let e = s.enough in omega arith

    more_parts : ((length more ≡ 512 - place) × (512 - place ≤ length rest)) ⊎ ((length more ≡ length rest) × (length rest ≤ 512 - place))
    more_parts = elim (cases_lt (length rest) (512 - place)) [
      | inl less ↦ inr (ap length (take_all (512 - place) rest (omega arith)), omega arith)
      | inr enough ↦ inl (length-take-le (512 - place) rest enough, enough)
    ]

    more_some : 0 < length more
    more_some = let l = low in let r = some_rest in elim more_parts [ inl e ↦ let a = e.0 in omega arith | inr e ↦ let a = e.0 in omega arith ]

    more_fits : (at + length bytes) % 512 + length more ≤ 512
    more_fits = let l = low in let p = s.place_is in elim more_parts [ inl e ↦ let a = e.0 in omega arith | inr e ↦ let a = e.0 in let c = e.1 in omega arith ]

    few : i < leaf_count
    few = let e = f.few in omega arith

    off_is : off + 4 * 0 ≡ off
    off_is = omega arith

    steps_are : steps i ≡ off ∷ above
    steps_are = ap steps (let e : i ≡ i + 0 = omega arith in e) ∙ (f.steps_are ∙ ap (λ p. p ∷ above) off_is)

    none : pointed m h off ≡ 0
    none = ap (pointed m h) (sym off_is) ∙ f.none

    way : IsWay (off ∷ above) 0
    way = subst (λ os. IsWay os 0) steps_are (steps_way i)

    no_node : (k : ℕ) → 0 ≡ suc k → z.ty ≡ node
    no_node k e = absurd (omega (arith, e))

    as_data : ◌≡◌ {A = ℕ} 0 0 → z.ty ≡ 2
    as_data e = of.0

    abbrev m1 : ℕ → List ℕ
    m1 = written (attach_act h off 2 (z.block ∷ []) None) m

    over1 : Over (bytes ++ more) m1
    over1 = subst (Over (bytes ++ more)) (ap (λ c. written (attach_act c off 2 (z.block ∷ []) None) m) h_is)
        (leaf_over node inode top n number b there k no_directory content block_is is_kind small at type bytes m o i few off above steps_are
        (λ e. h_there (sym h_is ∙ e)) (ap (λ c. pointed m c off) h_is ∙ none) z news.0 of.0 more (All-take (λ b. b < 256) (512 - place) rest range)
        more_some s.high s.leaf_is more_fits
        (of.1 ∙ ap (λ p. put (zeros 512) p more) (sym s.place_is)))

    free1 : (j : ℕ) → j < count → IsFree m1 h (i + 1) (off + 4) above j
    free1 j lt =
        let g = free (suc j) (omega arith) in
        let place_j : off + 4 * suc j ≡ off + 4 + 4 * j = omega arith in
        let leaf_j : i + suc j ≡ i + 1 + j = omega arith in
        let steps_j : steps (i + 1 + j) ≡ (off + 4 + 4 * j) ∷ above = ap steps (sym leaf_j) ∙ (g.steps_are ∙ ap (λ p. p ∷ above) place_j) in
        record {
          few = subst (λ k. k < leaf_count) leaf_j g.few;
          steps_are = steps_j;
          none = one_zero bytes m o 0 off above way h h_is h_there z news.0 no_node as_data none 2 (off + 4 + 4 * j) 0
              (subst (λ os. IsWay os 0) steps_j (steps_way (i + 1 + j))) (λ e. absurd (omega (arith, e))) (ap (pointed m h) (sym place_j) ∙ g.none);
        }

    spot1 : 0 < count → IsSpot count (at + length (bytes ++ more)) (i + 1) 0 (drop (512 - place) rest)
    spot1 some =
        let e = s.enough in
        let l = low in
        let long : length more ≡ 512 - place = length-take-le (512 - place) rest (omega arith) in
        let whole : length (bytes ++ more) ≡ length bytes + length more = length-append bytes more in
        let back : length (drop (512 - place) rest) ≡ length rest - (512 - place) = length-drop (512 - place) rest in
        let p = s.place_is in
        let q = s.leaf_is in
        let hi = s.high in
        record { high = omega arith; leaf_is = omega arith; place_is = omega arith; enough = omega arith }

    next_leaf : IsNextLeaf h (i + 1) (off + 4) above count (bytes ++ more) (drop (512 - place) rest) zs m1
    next_leaf = record {
      over = over1;
      above_is = one_above bytes m o 0 off above way h h_is h_there z news.0 no_node as_data none 2;
      news = one_all bytes m o 0 off above way h h_is h_there z news.0 no_node as_data none 2 zs
          (leaves_plain o.volume.types.2 count 0 (drop (512 - place) rest) zs of.2) news.1 news.2;
      free = free1;
      spot = spot1;
    }

    bytes_are : (bytes ++ more) ++ take (512 * count - 0) (drop (512 - place) rest) ≡ bytes ++ take (512 * suc count - place) rest
    bytes_are =
        let l = low in
        let a : 512 * count - 0 ≡ 512 * count = omega arith in
        let c : 512 - place + 512 * count ≡ 512 * suc count - place = omega arith in
        append_assoc bytes more (take (512 * count - 0) (drop (512 - place) rest))
        ∙ (ap (λ k. bytes ++ (more ++ take k (drop (512 - place) rest))) a
        ∙ (ap (λ l. bytes ++ l) (take_parts (512 - place) (512 * count) rest) ∙ ap (λ k. bytes ++ take k rest) c))

  module _ (h : ℕ) (h_there : h ≢ 0) (above : List ℕ) where
    pub leaves_over : (count : ℕ) (zs : List New) (i off place : ℕ) (bytes rest : List ℕ) (m : ℕ → List ℕ) → Over bytes m → block_at m b above ≡ h →
        OfLeaves count place rest zs → AreNew node inode type m top zs → ((j : ℕ) → j < count → IsFree m h i off above j) → All (λ b. b < 256) rest →
        (0 < count → IsSpot count (at + length bytes) i place rest) → Over (bytes ++ take (512 * count - place) rest) (attach_each h off (blocks_in zs) m)
    leaves_over zero (z ∷ zs) i off place bytes rest m o h_is of news free range spot = absurd of
    leaves_over (suc count) [] i off place bytes rest m o h_is of news free range spot = absurd of
    leaves_over zero [] i off place bytes rest m o h_is of news free range spot =
        subst (λ l. Over l m) (sym (ap (λ k. bytes ++ take k rest) (let e : 512 * 0 - place ≡ 0 = omega arith in e) ∙ append-nil bytes)) o
    leaves_over (suc count) (z ∷ zs) i off place bytes rest m o h_is of news free range spot =
        let next = next_leaf h h_there above count z zs i off place bytes rest m o h_is of news free range spot in
        subst (λ l. Over l (attach_each h off (blocks_in (z ∷ zs)) m)) (bytes_are h h_there above count z zs i off place bytes rest m o h_is of news free
        range spot)
        (leaves_over count zs (i + 1) (off + 4) 0 (bytes ++ take (512 - place) rest) (drop (512 - place) rest)
        (written (attach_act h off 2 (z.block ∷ []) None) m)
        next.over next.above_is of.2 next.news next.free (All-drop (λ b. b < 256) (512 - place) rest range) next.spot)

    -- the first of them
    pub leaves_first : (k count : ℕ) → k ≤ count → (zs : List New) (i off place : ℕ) (bytes rest : List ℕ) (m : ℕ → List ℕ) → Over bytes m → block_at m b
        above ≡ h →
        OfLeaves count place rest zs → AreNew node inode type m top zs → ((j : ℕ) → j < count → IsFree m h i off above j) → All (λ b. b < 256) rest →
        (0 < count → IsSpot count (at + length bytes) i place rest) → Over (bytes ++ take (512 * k - place) rest) (attach_each h off (blocks_in (take k zs)) m)
    leaves_first k count few zs i off place bytes rest m o h_is of news free range spot =
        leaves_over k (take k zs) i off place bytes rest m o h_is (of_first k count few place rest zs of) (new_first m k zs news)
        (λ j lt. free j (omega arith)) range
        (λ some. let s = spot (omega arith) in let e = s.enough in record { high = s.high; leaf_is = s.leaf_is; place_is = s.place_is; enough = omega arith })
