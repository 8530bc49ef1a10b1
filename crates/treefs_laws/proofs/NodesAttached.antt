-- Nodes are attached to a file one below the other: its bytes are as before, and the last one has no pointer.
use Rattle.std.proofs.Common.{◌≡◌, ◌≢◌, ◌⊎◌, ℕ, suc, ◌+◌, ◌<◌, ◌≤◌, ◌%◌, List, [], ◌∷◌, ◌++◌, length, None, Some, refl, sym, ◌∙◌, ap, inl, inr, arith, subst, if◌then◌else◌}
use Rattle.std.specs.Prelude.{All, slice_index}
use Rattle.std.proofs.lemmas.Bool.{ne_eqb}
use Rattle.std.proofs.lemmas.List.Elements.{All-cons, All-head, All-nil, All-tail}
use Rattle.xn_model.specs.Types.{Types}
use Rattle.xn_model.specs.Root.{word_at}
use Rattle.treefs_format.specs.Fields.{fields_of}
use Rattle.treefs_format.specs.Inodes.{kind_of}
use Rattle.treefs_format.specs.Leaves.{greatest_size}
use Rattle.treefs_format.specs.Nodes.{node_bytes}
use Rattle.treefs_format.specs.Templates.{IsTree}
use Rattle.treefs_format.specs.declared.kind.Kind.{Kind}
use Rattle.treefs_format.specs.declared.kind.Kind.TheVariants as kind
use Rattle.treefs_format.proofs.ForCallers.{node_children, node_long}
use Rattle.treefs_model.specs.Acts.{Act, attach_act, wait_act}
use Rattle.treefs_model.specs.Reading.{block_at, pointed}
use Rattle.treefs_edits.specs.Missing.{child_before, last_or_owner, node_acts, node_starts}
use Rattle.treefs_edits.specs.Written.{all_written, written}
use Rattle.treefs_values.specs.Ways.{IsWay, block_numbered}
use Rattle.treefs_values.proofs.ForCallers.{AreNew, AreOf, IsNew, IsOther, New, bare_node, blocks_in, onto, way_first}
use Rattle.treefs_laws.proofs.Fronts.{IsFront, same_first, same_rest}
use Rattle.treefs_laws.proofs.LeavesAttached.{one_all, one_keeps, one_other, one_over, one_set, one_there, way_stands, way_up}
use Rattle.treefs_laws.proofs.OverFile.{IsOver}
use Rattle.treefs_laws.proofs.Planned.{waits_write}

-- the pointer that is asked for next: of a node, or behind all
abbrev pub IsNext : (ℕ → Type 0) → List ℕ → ℕ → Type 0
IsNext More [] o = More o
IsNext More (x ∷ os) o = o ≡ x

module _ (T : Types) (fs node inode top : ℕ) (fs_few : fs < 32) (tree : IsTree T node inode) (n : ℕ)
    (number : n ≢ 0) (b : ℕ) (there : b ≢ 0)
    (k : Kind) (no_directory : k ≢ kind.Directory) (content : ℕ → List ℕ) (block_is : block_numbered content top n ≡ b)
    (is_kind : kind_of (fields_of (content b)).mode ≡ Some k) (small : (fields_of (content b)).size ≤ greatest_size) (at : ℕ) (type : ℕ → ℕ) where
  abbrev Over : List ℕ → (ℕ → List ℕ) → Type 0
  Over bytes m = IsOver node inode top n number b there k no_directory content block_is is_kind small at type bytes m

  abbrev IsOne : (ℕ → List ℕ) → New → Type 0
  IsOne m x = IsNew node inode type m top x

  abbrev Plain : New → Type 0
  Plain x = x.ty ≢ inode

  pub nodes_plain : node ≢ inode → (os : List ℕ) (xs : List New) → AreOf T fs node inode top fs_few tree (node_starts node 2 os) xs → All Plain xs
  nodes_plain ne [] [] of = All-nil Plain
  nodes_plain ne [] (x ∷ xs) of = absurd of
  nodes_plain ne (o ∷ os) [] of = absurd of
  nodes_plain ne (o ∷ os) (x ∷ xs) of = All-cons Plain x xs (λ is. ne (sym of.0 ∙ is)) (nodes_plain ne os xs of.2)

  -- l0: a pointer of the last one; More: all that are asked for
  module _ (l0 : ℕ) (More : ℕ → Type 0) (more_stands : (o : ℕ) → More o → (4 ≤ o) × (o + 4 ≤ 512) × (o % 4 ≡ 0)) where
    pub record AreNodes (bytes : List ℕ) (q os : List ℕ) (xs : List New) (h : ℕ) (m : ℕ → List ℕ) : Type 0 where
      pub over : Over bytes (all_written (node_acts node 2 h os (blocks_in xs)) m)
      pub last : block_at (all_written (node_acts node 2 h os (blocks_in xs)) m) b (onto q os) ≡ last_or_owner h (blocks_in xs)
      pub some : last_or_owner h (blocks_in xs) ≢ 0
      pub zero_there : (o : ℕ) → More o → pointed (all_written (node_acts node 2 h os (blocks_in xs)) m) (last_or_owner h (blocks_in xs)) o ≡ 0
      pub keeps : (y : New) → IsOne m y → Plain y → All (λ x. IsOther x y) xs → IsOne (all_written (node_acts node 2 h os (blocks_in xs)) m) y

    -- some of them are made, or all, and then a front of those behind
    abbrev pub AreFront : List ℕ → List ℕ → List New → ℕ → (ℕ → List ℕ) → List Act → List Act → Type 0
    AreFront bytes os xs h m later front = Over bytes (all_written front m)
        ⊎ ((front' : List Act) × IsFront later front' × (all_written front m ≡ all_written front' (all_written (node_acts node 2 h os (blocks_in xs)) m)))

    next_stands : (q os : List ℕ) → IsWay (l0 ∷ onto q os) 0 → (o : ℕ) → IsNext More os o → (4 ≤ o) × (o + 4 ≤ 512) × (o % 4 ≡ 0)
    next_stands q [] way o next = more_stands o next
    next_stands q (x ∷ os) way o next =
        let first = way_first x 1 q os (way_up l0 x q os way) in
        subst (λ p. (4 ≤ p) × (p + 4 ≤ 512) × (p % 4 ≡ 0)) (sym next) (way_stands x first.0 q first.1)

    module _ (bytes : List ℕ) (off : ℕ) (os : List ℕ) (x : New) (xs : List New) (q : List ℕ) (h : ℕ) (m : ℕ → List ℕ) (o : Over bytes m)
        (h_is : block_at m b q ≡ h)
        (h_there : h ≢ 0) (way : IsWay (l0 ∷ onto q (off ∷ os)) 0) (of : AreOf T fs node inode top fs_few tree (node_starts node 2 (off ∷ os)) (x ∷ xs))
        (news : AreNew node inode type m top (x ∷ xs)) (none : pointed m h off ≡ 0) where
      first : (l : ℕ) × IsWay (off ∷ q) l × (l ≡ 1 + length os)
      first = way_first off 1 q os (way_up l0 off q os way)

      abbrev l : ℕ
      l = first.0

      not_leaf : l ≡ 0 → ⊥
      not_leaf e = let f = first.2 in absurd (omega (arith, e, f))

      as_node : (k : ℕ) → l ≡ suc k → x.ty ≡ node
      as_node k e = of.0

      as_data : l ≡ 0 → x.ty ≡ 2
      as_data e = absurd (not_leaf e)

      abbrev child : ℕ
      child = child_before node 2 os

      abbrev m1 : ℕ → List ℕ
      m1 = written (attach_act h off node (x.block ∷ []) None) m

      said : m1 x.block ≡ node_bytes child
      said = (one_set T fs node inode top fs_few tree n number b there k no_directory content block_is is_kind small at type bytes m o l off q
          first.1 h h_is h_there x news.0
          as_node as_data none node).changed x.block
          (one_other T fs node inode top fs_few tree n number b there k no_directory content block_is is_kind small at type bytes m o l off q
          first.1 h h_is h_there x news.0
          as_node as_data none node x news.0 (λ is. o.volume.types.0 (sym of.0 ∙ is)))
          ∙ (news.0.bytes ∙ of.1)

      -- the wait writes nothing
      wait_none : (rest : List Act) → all_written (wait_act x.block (child ∷ []) h ∷ rest) m1 ≡ all_written rest m1
      wait_none rest =
          waits_write m1 x.block child (sym (ap (λ l. slice_index l 0) said)) (subst (λ l. 0 < length l) (sym said)
          (let long = node_long child in omega arith)) (h ∷ []) rest

      acts_are : all_written (node_acts node 2 h (off ∷ os) (blocks_in (x ∷ xs))) m ≡ all_written (node_acts node 2 x.block os (blocks_in xs)) m1
      acts_are = wait_none (node_acts node 2 x.block os (blocks_in xs))

      over1 : Over bytes m1
      over1 = one_over T fs node inode top fs_few tree n number b there k no_directory content block_is is_kind small at type bytes m o l off q
          first.1 h h_is h_there x news.0
          as_node as_data none node not_leaf

      there1 : block_at m1 b (off ∷ q) ≡ x.block
      there1 = one_there T fs node inode top fs_few tree n number b there k no_directory content block_is is_kind small at type bytes m o l off q
          first.1 h h_is h_there x news.0
          as_node as_data none node

      news1 : AreNew node inode type m1 top xs
      news1 = one_all T fs node inode top fs_few tree n number b there k no_directory content block_is is_kind small at type bytes m o l off q
          first.1 h h_is h_there x news.0
          as_node as_data none node xs (nodes_plain o.volume.types.0 os xs of.2) news.1 news.2

      zeros1 : (p : ℕ) → IsNext More os p → pointed m1 x.block p ≡ 0
      zeros1 p next =
          let stands = next_stands (off ∷ q) os way p next in
          ap (λ t. if t then 0 else word_at (m1 x.block) p) (ne_eqb x.block 0 news.0.there)
          ∙ (ap (λ l. word_at l p) said ∙ bare_node (node_bytes child) (node_children child) p stands.0 stands.1 stands.2)

      with_node : AreNodes bytes (off ∷ q) os xs x.block m1 → AreNodes bytes q (off ∷ os) (x ∷ xs) h m
      with_node later = record {
        over = subst (Over bytes) (sym acts_are) later.over;
        last = ap (λ c. block_at c b (onto (off ∷ q) os)) acts_are ∙ later.last;
        some = later.some;
        zero_there = λ p more. ap (λ c. pointed c (last_or_owner x.block (blocks_in xs)) p) acts_are ∙ later.zero_there p more;
        keeps = λ y is plain others. subst (λ c. IsOne c y) (sym acts_are) (later.keeps y
            (one_keeps T fs node inode top fs_few tree n number b there k no_directory content block_is is_kind small at type bytes m o l off q
            first.1 h h_is h_there x news.0
            as_node as_data none node y is plain (All-head (λ z. IsOther z y) x xs others)) plain (All-tail (λ z. IsOther z y) x xs others));
      }

      -- of a front of the edits

      abbrev attach : Act
      attach = attach_act h off node (x.block ∷ []) None

      abbrev wait : Act
      wait = wait_act x.block (child ∷ []) h

      one_front : (act : Act) → attach ≡ act → Over bytes (written act m)
      one_front act same = subst (λ a. Over bytes (written a m)) same over1

      more_front : (later : List Act) (first second : Act) (front : List Act) → attach ≡ first → wait ≡ second → AreFront bytes os xs x.block m1 later front →
          AreFront bytes (off ∷ os) (x ∷ xs) h m later (first ∷ second ∷ front)
      more_front later first second front same same' is = elim is [
        | inl over ↦ inl (subst (Over bytes) (sym front_is) over)
        | inr rest ↦ inr (rest.0, rest.1, front_is ∙ (rest.2 ∙ ap (all_written rest.0) (sym acts_are)))
      ]
        where
          front_is : all_written front (written second (written first m)) ≡ all_written front m1
          front_is = (λ j. all_written front (written (sym same' j) (written (sym same j) m))) ∙ wait_none front

    pub nodes_front : (bytes : List ℕ) (os : List ℕ) (xs : List New) (q : List ℕ) (h : ℕ) (m : ℕ → List ℕ) → Over bytes m → block_at m b q ≡ h → h ≢ 0 →
        IsWay (l0 ∷ onto q os) 0 → AreOf T fs node inode top fs_few tree (node_starts node 2 os) xs → AreNew node inode type m top xs →
        ((o : ℕ) → IsNext More os o → pointed m h o ≡ 0) → (later front : List Act) → IsFront (node_acts node 2 h os (blocks_in xs) ++ later) front →
        AreFront bytes os xs h m later front
    nodes_front bytes [] [] q h m o h_is h_there way of news zeros later front is = inr (front, is, refl)
    nodes_front bytes [] (x ∷ xs) q h m o h_is h_there way of news zeros later front is = absurd of
    nodes_front bytes (off ∷ os) [] q h m o h_is h_there way of news zeros later front is = absurd of
    nodes_front bytes (off ∷ os) (x ∷ xs) q h m o h_is h_there way of news zeros later [] is = inl o
    nodes_front bytes (off ∷ os) (x ∷ xs) q h m o h_is h_there way of news zeros later (first ∷ []) is =
        let none = zeros off refl in
        inl (one_front bytes off os x xs q h m o h_is h_there way of news none first (same_first
        (attach bytes off os x xs q h m o h_is h_there way of news none) first
        (wait bytes off os x xs q h m o h_is h_there way of news none ∷ (node_acts node 2 x.block os (blocks_in xs) ++ later)) (is.next ∷ is.rest) is.whole))
    nodes_front bytes (off ∷ os) (x ∷ xs) q h m o h_is h_there way of news zeros later (first ∷ second ∷ front) is =
        let none = zeros off refl in
        let first_act = attach bytes off os x xs q h m o h_is h_there way of news none in
        let second_act = wait bytes off os x xs q h m o h_is h_there way of news none in
        let acts = node_acts node 2 x.block os (blocks_in xs) ++ later in
        let rest = same_rest first_act first (second_act ∷ acts) (second ∷ (front ++ is.next ∷ is.rest)) is.whole in
        more_front bytes off os x xs q h m o h_is h_there way of news none later first second front
        (same_first first_act first (second_act ∷ acts) (second ∷ (front ++ is.next ∷ is.rest)) is.whole)
        (same_first second_act second acts (front ++ is.next ∷ is.rest) rest)
        (nodes_front bytes os xs (off ∷ q) x.block (written (attach_act h off node (x.block ∷ []) None) m)
        (over1 bytes off os x xs q h m o h_is h_there way of news none) (there1 bytes off os x xs q h m o h_is h_there way of news none)
        news.0.there way of.2 (news1 bytes off os x xs q h m o h_is h_there way of news none)
        (zeros1 bytes off os x xs q h m o h_is h_there way of news none) later front
        (record { next = is.next; rest = is.rest; whole = same_rest second_act second acts (front ++ is.next ∷ is.rest) rest }))

    pub nodes_over : (bytes : List ℕ) (os : List ℕ) (xs : List New) (q : List ℕ) (h : ℕ) (m : ℕ → List ℕ) → Over bytes m → block_at m b q ≡ h → h ≢ 0 →
        IsWay (l0 ∷ onto q os) 0 → AreOf T fs node inode top fs_few tree (node_starts node 2 os) xs → AreNew node inode type m top xs →
        ((o : ℕ) → IsNext More os o → pointed m h o ≡ 0) → AreNodes bytes q os xs h m
    nodes_over bytes [] [] q h m o h_is h_there way of news zeros = record {
      over = o;
      last = h_is;
      some = h_there;
      zero_there = zeros;
      keeps = λ y is plain others. is;
    }
    nodes_over bytes [] (x ∷ xs) q h m o h_is h_there way of news zeros = absurd of
    nodes_over bytes (off ∷ os) [] q h m o h_is h_there way of news zeros = absurd of
    nodes_over bytes (off ∷ os) (x ∷ xs) q h m o h_is h_there way of news zeros =
        with_node bytes off os x xs q h m o h_is h_there way of news (zeros off refl)
        (nodes_over bytes os xs (off ∷ q) x.block (written (attach_act h off node (x.block ∷ []) None) m)
        (over1 bytes off os x xs q h m o h_is h_there way of news (zeros off refl)) (there1 bytes off os x xs q h m o h_is h_there way of news (zeros off refl))
        news.0.there way of.2 (news1 bytes off os x xs q h m o h_is h_there way of news (zeros off refl))
        (zeros1 bytes off os x xs q h m o h_is h_there way of news (zeros off refl)))
