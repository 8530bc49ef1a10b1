-- Nodes and leaves are attached to an inode that has no number: it has none still, and no file changes.
use Rattle.std.proofs.Common.{◌≡◌, ◌≢◌, ◌⊎◌, ℕ, zero, suc, ◌+◌, ◌-◌, ◌*◌, ◌%◌, ◌<◌, ◌≤◌, List, [], ◌∷◌, ◌++◌, get_or, length, take, drop, None, Result, Ok, refl, sym, ◌∙◌, ap, inl, inr, arith, subst, ne_eqb, if◌then◌else◌, length-drop, length-take-le}
use Rattle.std.specs.Prelude.{All, IsTrue, slice_index}
use Rattle.std.proofs.lemmas.Bool.{cases_eq, cases_lt}
use Rattle.std.proofs.lemmas.List.{take-append-drop, take_all}
use Rattle.std.proofs.lemmas.List.Elements.{All-cons, All-drop, All-head, All-nil, All-tail, All-take}
use Rattle.store_types.specs.declared.refusal.Refusal.{Refusal}
use Rattle.xn_model.specs.Root.{word_at}
use Rattle.xn_model.specs.Types.{Types}
use Rattle.xn_model.specs.Lives.{StoreState}
use Rattle.treefs_format.specs.Fields.{fields_of}
use Rattle.treefs_format.specs.Nodes.{node_bytes}
use Rattle.treefs_format.specs.Templates.{IsTree}
use Rattle.treefs_format.proofs.ForCallers.{node_children, node_long}
use Rattle.treefs_lookup.specs.Readable.{readable}
use Rattle.treefs_model.specs.Acts.{Act, Made, Ran, attach_act, wait_act}
use Rattle.treefs_model.specs.Reading.{block_at, files_of, pointed}
use Rattle.treefs_model.specs.Trees.{has_pointer}
use Rattle.treefs_edits.specs.Missing.{child_before, last_or_owner, node_acts, node_starts}
use Rattle.treefs_edits.specs.Written.{written}
use Rattle.treefs_byte_plans.specs.Runs.{attach_acts}
use Rattle.treefs_values.specs.Attached.{IsPointerSet}
use Rattle.treefs_values.specs.Kinds.{kinds}
use Rattle.treefs_values.specs.Volumes.{IsWholeBlock}
use Rattle.treefs_values.specs.Ways.{IsWay}
use Rattle.treefs_values.proofs.ForCallers.{AreNew, AreOf, IsNew, IsOther, New, bare_node, blocks_in, new_kept, new_parts, onto, pointer_attached, way_first}
use Rattle.treefs_laws.proofs.AsideBegun.{IsAsideAt, Stays, stays_then}
use Rattle.treefs_laws.proofs.AsideEdits.{IsDone, made_aside, ran_first, wait_made}
use Rattle.treefs_laws.proofs.AsideTree.{IsAside, new_other, set_above, set_aside, set_files, set_new, set_there}
use Rattle.treefs_laws.proofs.LeavesAttached.{way_stands, way_up}
use Rattle.treefs_laws.proofs.NodesAttached.{IsNext}
use Rattle.treefs_laws.proofs.PointersPatched.{attach_each, attach_many}
use Rattle.treefs_laws.proofs.RunStarts.{blocks_first, blocks_long}
use Rattle.treefs_laws.proofs.WaysApart.{of_types, way_pointer}

pub blocks_rest : (k : ℕ) (xs : List New) → blocks_in (drop k xs) ≡ drop k (blocks_in xs)
blocks_rest zero xs = refl
blocks_rest (suc k) [] = refl
blocks_rest (suc k) (x ∷ xs) = blocks_rest k xs

module _ (node inode top c : ℕ) (type : ℕ → ℕ) where
  abbrev Aside : (ℕ → List ℕ) → Type 0
  Aside m = IsAside node inode top c type m

  abbrev One : (ℕ → List ℕ) → New → Type 0
  One m x = IsNew node inode type m top x

  abbrev Plain : New → Type 0
  Plain x = x.ty ≢ inode

  not_own : (m : ℕ → List ℕ) → Aside m → (x : New) → One m x → Plain x → x.block ≢ c
  not_own m a x is plain same = plain (sym is.typed ∙ (ap type same ∙ a.is_block.typed))

  -- One is attached

  module _ (m : ℕ → List ℕ) (a : IsAside node inode top c type m) (l off : ℕ) (q : List ℕ) (way : IsWay (off ∷ q) l) (h : ℕ) (h_is : block_at m c q ≡ h)
      (h_there : h ≢ 0) (x : New) (is_new : IsNew node inode type m top x) (plain : x.ty ≢ inode) (as_node : (k : ℕ) → l ≡ suc k → x.ty ≡ node)
      (as_data : l ≡ 0 → x.ty ≡ 2) (none : pointed m h off ≡ 0) (ty : ℕ) where
    abbrev pub with_next : ℕ → List ℕ
    with_next = written (attach_act h off ty (x.block ∷ []) None) m

    has_at : (p k : ℕ) → IsWay (p ∷ q) k → IsTrue (has_pointer node inode (type h) p)
    has_at p k way_to = subst (λ b. IsTrue (has_pointer node inode (type b) p)) h_is
        (way_pointer node inode top type m a.volume c a.is_block k p q way_to (λ z. h_there (sym h_is ∙ z)))

    whole : IsWholeBlock (m h)
    whole = a.volume.blocks h (of_types node inode (type h) off a.volume.some_types.0 a.volume.some_types.1 (has_at off l way))

    both : IsPointerSet node inode type m with_next h off x.block × IsWholeBlock (with_next h)
    both = pointer_attached node inode type m h off ty x.block None a.volume.types.0 h_there whole (has_at off l way) none is_new.within

    x_other : x.block ≢ c
    x_other = not_own m a x is_new plain

    pub next_aside : IsAside node inode top c type with_next
    next_aside = set_aside node inode top c type m a l off q way h h_is h_there x is_new x_other as_node as_data with_next both.0 both.1

    pub next_files : files_of with_next top ≡ files_of m top
    next_files = set_files node inode top c type m a l off q way h h_is h_there x is_new x_other as_node as_data with_next both.0 both.1

    pub next_above : block_at with_next c q ≡ h
    next_above = set_above node inode top c type m a l off q way h h_is h_there x is_new x_other as_node as_data with_next both.0 both.1

    pub next_there : block_at with_next c (off ∷ q) ≡ x.block
    next_there = set_there node inode top c type m a l off q way h h_is h_there x is_new x_other as_node as_data with_next both.0 both.1

    pub next_new : (y : New) → One m y → Plain y → IsOther x y → One with_next y
    next_new y is y_plain ne = set_new node inode top c type m a l off q way h h_is h_there x is_new x_other as_node as_data with_next both.0 both.1 y is
        (not_own m a y is y_plain) ne

    pub next_all : (ys : List New) → All Plain ys → All (IsOther x) ys → AreNew node inode type m top ys → AreNew node inode type with_next top ys
    next_all ys plains others are = new_kept node inode top type type m with_next (λ y. Plain y × IsOther x y) ys (λ i d lt. (plains i d lt, others i d lt))
        (λ y p is. next_new y is p.0 p.1) are

    pub next_zero : (p k : ℕ) → IsWay (p ∷ q) k → p ≢ off → pointed m h p ≡ 0 → pointed with_next h p ≡ 0
    next_zero p k way_to ne zero_there = both.0.others h p (has_at p k way_to) (inr ne) ∙ zero_there

    -- its bytes are those that it had
    pub next_bytes : with_next x.block ≡ x.bytes
    next_bytes = (next_new_bytes (both.0.changed x.block)) ∙ is_new.bytes
      where
        next_new_bytes : (x.block ≢ h → with_next x.block ≡ m x.block) → with_next x.block ≡ m x.block
        next_new_bytes changed = changed (new_other node inode top c type m a l off q way h h_is h_there x is_new x_other)

    -- so are the fields of the inode
    pub next_fields : fields_of (with_next c) ≡ fields_of (m c)
    next_fields = elim (cases_eq c h) [
      | inl here ↦
          ap (λ b. fields_of (with_next b)) here ∙ (both.0.fields (ap type (sym here) ∙ a.is_block.typed) ∙ sym (ap (λ b. fields_of (m b)) here))
      | inr ne ↦ ap fields_of (both.0.changed c ne)
    ]

  -- Leaves, one beside the other

  pub record IsFreePlace (m : ℕ → List ℕ) (q : List ℕ) (h off j : ℕ) : Type 0 where
    pub way : IsWay ((off + 4 * j) ∷ q) 0
    pub none : pointed m h (off + 4 * j) ≡ 0

  pub record AreBeside (q : List ℕ) (h end : ℕ) (rest : List New) (m new : ℕ → List ℕ) : Type 0 where
    pub aside : IsAside node inode top c type new
    pub files : files_of new top ≡ files_of m top
    pub above : block_at new c q ≡ h
    pub own : fields_of (new c) ≡ fields_of (m c)
    pub news : AreNew node inode type new top rest
    pub zeros : (p : ℕ) → IsWay (p ∷ q) 0 → end ≤ p → pointed m h p ≡ 0 → pointed new h p ≡ 0

  abbrev OfData : New → Type 0
  OfData z = z.ty ≡ 2

  module _ (other : 2 ≢ inode) (q : List ℕ) (h : ℕ) (h_there : h ≢ 0) where
    plain_data : (z : New) → OfData z → Plain z
    plain_data z is same = other (sym is ∙ same)

    pub leaves_aside : (zs : List New) (off : ℕ) (m : ℕ → List ℕ) → IsAside node inode top c type m → block_at m c q ≡ h → AreNew node inode type m top zs →
        All OfData zs → ((j : ℕ) → j < length zs → IsFreePlace m q h off j) → (rest : List New) → AreNew node inode type m top rest → All Plain rest →
        All (λ y. All (λ z. IsOther z y) zs) rest → AreBeside q h (off + 4 * length zs) rest m (attach_each h off (blocks_in zs) m)
    leaves_aside [] off m a h_is news all_typed free rest are plains others =
        record { aside = a; files = refl; above = h_is; own = refl; news = are; zeros = λ p way end z. z }
    leaves_aside (z ∷ zs) off m a h_is news all_typed free rest are plains others =
        let first = free 0 (omega arith) in
        let start : off + 4 * 0 ≡ off = omega arith in
        let way : IsWay (off ∷ q) 0 = subst (λ p. IsWay (p ∷ q) 0) start first.way in
        let none : pointed m h off ≡ 0 = sym (ap (pointed m h) start) ∙ first.none in
        let of_data = All-head OfData z zs all_typed in
        let plain = plain_data z of_data in
        let no_node : (k : ℕ) → ◌≡◌ {A = ℕ} 0 (suc k) → z.ty ≡ node = λ k e. absurd (omega (arith, e)) in
        let m1 : ℕ → List ℕ = written (attach_act h off 2 (z.block ∷ []) None) m in
        let later_data = All-tail OfData z zs all_typed in
        let next = leaves_aside zs (off + 4) m1 (next_aside m a 0 off q way h h_is h_there z news.0 plain no_node (λ e. of_data) none 2)
        (next_above m a 0 off q way h h_is h_there z news.0 plain no_node (λ e. of_data) none 2)
        (next_all m a 0 off q way h h_is h_there z news.0 plain no_node (λ e. of_data) none 2 zs
        (λ i d lt. plain_data (get_or zs i d) (later_data i d lt)) news.1 news.2) later_data
        (λ j lt. let g = free (suc j) (omega arith) in let place : off + 4 * suc j ≡ off + 4 + 4 * j = omega arith in
        let way_j : IsWay ((off + 4 + 4 * j) ∷ q) 0 = subst (λ p. IsWay (p ∷ q) 0) place g.way in
        record {
          way = way_j;
          none = next_zero m a 0 off q way h h_is h_there z news.0 plain no_node (λ e. of_data) none 2 (off + 4 + 4 * j) 0 way_j
              (λ e. absurd (omega (arith, e))) (sym (ap (pointed m h) place) ∙ g.none);
        }) rest
        (next_all m a 0 off q way h h_is h_there z news.0 plain no_node (λ e. of_data) none 2 rest plains
        (λ i d lt. All-head (λ x. IsOther x (get_or rest i d)) z zs (others i d lt)) are) plains
        (λ i d lt. All-tail (λ x. IsOther x (get_or rest i d)) z zs (others i d lt)) in
        record {
          aside = next.aside;
          files = next.files ∙ next_files m a 0 off q way h h_is h_there z news.0 plain no_node (λ e. of_data) none 2;
          above = next.above;
          own = next.own ∙ next_fields m a 0 off q way h h_is h_there z news.0 plain no_node (λ e. of_data) none 2;
          news = next.news;
          zeros = λ p way_to end zero_there. next.zeros p way_to (omega arith)
              (next_zero m a 0 off q way h h_is h_there z news.0 plain no_node (λ e. of_data) none 2 p 0 way_to (λ e. absurd (omega (arith, e, end)))
              zero_there);
        }

module _ (T : Types) (fs node inode top c : ℕ) (few : fs < 32) (tree : IsTree T node inode) where
  abbrev At : StoreState → Type 0
  At = IsAsideAt T fs node inode top c few tree

  abbrev Stay : StoreState → StoreState → Type 0
  Stay = Stays T fs node inode top c few tree

  -- so many edits, of 16 leaves each, and others behind them

  module _ (q : List ℕ) (h : ℕ) (h_there : h ≢ 0) (later : List Act) where
    abbrev Free : StoreState → ℕ → ℕ → Type 0
    Free s off j = IsFreePlace node inode top c (kinds s fs) (readable s fs) q h off j

    -- they are made, and the holder stands where it stood
    abbrev pub AreRan : StoreState → StoreState → Result (Unit {0}) Refusal → Type 0
    AreRan s new result = Stay s new
        ⊎ ((s' : StoreState) × Stay s s' × (fields_of (readable s' fs c) ≡ fields_of (readable s fs c)) × Ran T fs later s' new result)

    holder_whole : (s : StoreState) → At s → block_at (readable s fs) c q ≡ h → (p : ℕ) → IsWay (p ∷ q) 0 → length (readable s fs h) ≡ 512
    holder_whole s at h_is p way =
        let a = at.aside in
        let has = subst (λ b. IsTrue (has_pointer node inode (kinds s fs b) p)) h_is
        (way_pointer node inode top (kinds s fs) (readable s fs) a.volume c a.is_block 0 p q way (λ z. h_there (sym h_is ∙ z))) in
        (a.volume.blocks h (of_types node inode (kinds s fs h) p a.volume.some_types.0 a.volume.some_types.1 has)).0

    -- an edit that attaches some of them
    module _ (s : StoreState) (at : IsAsideAt T fs node inode top c few tree s) (h_is : block_at (readable s fs) c q ≡ h) (xs ys : List New) (off : ℕ)
        (news : AreNew node inode (kinds s fs) (readable s fs) top (xs ++ ys)) (all_typed : All (λ (z : New). z.ty ≡ 2) xs) (more_typed : All (λ (z : New). z.ty ≡ 2) ys)
        (free : (j : ℕ) → j < length xs → IsFreePlace node inode top c (kinds s fs) (readable s fs) q h off j) where
      parts : AreNew node inode (kinds s fs) (readable s fs) top xs × AreNew node inode (kinds s fs) (readable s fs) top ys
          × All (λ y. All (λ x. IsOther x y) xs) ys
      parts = new_parts node inode top (kinds s fs) (readable s fs) xs ys news

      abbrev together : ℕ → List ℕ
      together = attach_each h off (blocks_in xs) (readable s fs)

      pub beside : AreBeside node inode top c (kinds s fs) q h (off + 4 * length xs) ys (readable s fs) together
      beside = leaves_aside node inode top c (kinds s fs) at.aside.volume.types.2 q h h_there xs off (readable s fs) at.aside h_is parts.0 all_typed free ys
          parts.1 (λ i d lt same. at.aside.volume.types.2 (sym (more_typed i d lt) ∙ same)) parts.2

      pub together_is : written (attach_act h off 2 (blocks_in xs) None) (readable s fs) ≡ together
      together_is = attach_many h (blocks_in xs) off (readable s fs) (λ some.
          let long = blocks_long xs in
          let last = free (length xs - 1) (omega arith) in
          let stands = (way_stands (off + 4 * (length xs - 1)) 0 q last.way).1 in
          let whole = holder_whole s at h_is (off + 4 * (length xs - 1)) last.way in
          omega arith)

    pub attach_ran : (n : ℕ) (zs : List New) (off : ℕ) (s new : StoreState) (result : Result (Unit {0}) Refusal) → At s → block_at (readable s fs) c q ≡ h →
        AreNew node inode (kinds s fs) (readable s fs) top zs → All (λ (z : New). z.ty ≡ 2) zs → ((j : ℕ) → j < length zs → Free s off j) →
        Ran T fs (attach_acts n h off (blocks_in zs) ++ later) s new result → AreRan s new result
    attach_ran zero zs off s new result at h_is news all_typed free ran = inr (s, (at, refl), refl, ran)
    attach_ran (suc n) zs off s new result at h_is news all_typed free ran =
        elim (ran_first T fs (attach_act h off 2 (take 16 (blocks_in zs)) None) (attach_acts n h (off + 64) (drop 16 (blocks_in zs)) ++ later) s new result ran) [
          | inl same ↦ inl (subst (Stay s) (sym same) (at, refl))
          | inr (entry, middle, made, rest) ↦
              next (λ there at' is news' free' ran'. attach_ran n (drop 16 zs) (off + 64) there new result at' is news'
              (All-drop (λ (z : New). z.ty ≡ 2) 16 zs all_typed) free' ran') entry middle made rest
        ]
      where
        xs : List New
        xs = take 16 zs

        ys : List New
        ys = drop 16 zs

        news' : AreNew node inode (kinds s fs) (readable s fs) top (xs ++ ys)
        news' = subst (AreNew node inode (kinds s fs) (readable s fs) top) (sym (take-append-drop 16 zs)) news

        xs_few : length xs ≤ 16
        xs_few = elim (cases_lt (length zs) 16) [
          | inl less ↦ let e = ap length (take_all 16 zs (omega arith)) in omega arith
          | inr more ↦ let e = length-take-le 16 zs more in omega arith
        ]

        xs_less : length xs ≤ length zs
        xs_less = elim (cases_lt (length zs) 16) [
          | inl less ↦ let e = ap length (take_all 16 zs (omega arith)) in omega arith
          | inr more ↦ let e = length-take-le 16 zs more in omega arith
        ]

        data_xs : All (λ (z : New). z.ty ≡ 2) xs
        data_xs = All-take (λ (z : New). z.ty ≡ 2) 16 zs all_typed

        data_ys : All (λ (z : New). z.ty ≡ 2) ys
        data_ys = All-drop (λ (z : New). z.ty ≡ 2) 16 zs all_typed

        free_xs : (j : ℕ) → j < length xs → Free s off j
        free_xs j lt = let less = xs_less in free j (omega arith)

        b : AreBeside node inode top c (kinds s fs) q h (off + 4 * length xs) ys (readable s fs) (attach_each h off (blocks_in xs) (readable s fs))
        b = beside s at h_is xs ys off news' data_xs data_ys free_xs

        act : Act
        act = attach_act h off 2 (take 16 (blocks_in zs)) None

        writes : written act (readable s fs) ≡ attach_each h off (blocks_in xs) (readable s fs)
        writes = ap (λ bs. written (attach_act h off 2 bs None) (readable s fs)) (sym (blocks_first 16 zs))
            ∙ together_is s at h_is xs ys off news' data_xs data_ys free_xs

        Again : StoreState → Type 0
        Again there = At there → block_at (readable there fs) c q ≡ h → AreNew node inode (kinds there fs) (readable there fs) top ys →
            ((j : ℕ) → j < length ys → Free there (off + 64) j) → Ran T fs (attach_acts n h (off + 64) (blocks_in ys) ++ later) there new result →
            AreRan there new result

        next : ((there : StoreState) → Again there) → (entry : ℕ) (middle : StoreState) → Made T fs act s middle (Ok entry) →
            Ran T fs (attach_acts n h (off + 64) (drop 16 (blocks_in zs)) ++ later) middle new result → AreRan s new result
        next again entry middle made rest =
            let done = made_aside T fs node inode top c few tree s at act middle entry refl made
            (subst (IsAside node inode top c (kinds s fs)) (sym writes) b.aside) (ap (λ m. files_of m top) writes ∙ b.files) in
            let reads : readable middle fs ≡ attach_each h off (blocks_in xs) (readable s fs) = done.1 ∙ writes in
            let types : kinds middle fs ≡ kinds s fs = done.2 in
            let later_news : AreNew node inode (kinds middle fs) (readable middle fs) top ys =
            subst (λ t. AreNew node inode t (readable middle fs) top ys) (sym types) (subst (λ m. AreNew node inode (kinds s fs) m top ys) (sym reads) b.news) in
            let back : length ys ≡ length zs - 16 = length-drop 16 zs in
            let few_xs = xs_few in
            let later_free : (j : ℕ) → j < length ys → Free middle (off + 64) j = λ j lt.
            let g = free (16 + j) (omega arith) in
            let place : off + 4 * (16 + j) ≡ off + 64 + 4 * j = omega arith in
            let way_j : IsWay ((off + 64 + 4 * j) ∷ q) 0 = subst (λ p. IsWay (p ∷ q) 0) place g.way in
            record {
              way = way_j;
              none = ap (λ m. pointed m h (off + 64 + 4 * j)) reads
                  ∙ b.zeros (off + 64 + 4 * j) way_j (omega arith) (sym (ap (pointed (readable s fs) h) place) ∙ g.none);
            } in
            let r = again middle done.0.0 (ap (λ m. block_at m c q) reads ∙ b.above) later_news later_free
            (subst (λ bs. Ran T fs (attach_acts n h (off + 64) bs ++ later) middle new result) (sym (blocks_rest 16 zs)) rest) in
            elim r [
              | inl stay ↦ inl (stays_then T fs node inode top c few tree s middle new done.0 stay)
              | inr (s', stay, own, ran') ↦ inr (
                s',
                stays_then T fs node inode top c few tree s middle s' done.0 stay,
                own ∙ (ap (λ m. fields_of (m c)) reads ∙ b.own),
                ran',
              )
            ]

  -- Nodes, one below the other

  -- l0: a pointer of the last one; More: all that are asked for
  module _ (l0 : ℕ) (More : ℕ → Type 0) (more_stands : (o : ℕ) → More o → (4 ≤ o) × (o + 4 ≤ 512) × (o % 4 ≡ 0)) (later : List Act) where
    -- they are made: the last one stands at the end of the way, with the pointers free that are asked for
    pub record AreNodesRan (q os : List ℕ) (xs : List New) (h : ℕ) (s new : StoreState) (result : Result (Unit {0}) Refusal) : Type 0 where
      pub left : StoreState
      pub stays : Stays T fs node inode top c few tree s left
      pub last : block_at (readable left fs) c (onto q os) ≡ last_or_owner h (blocks_in xs)
      pub there : last_or_owner h (blocks_in xs) ≢ 0
      pub zeros : (o : ℕ) → More o → pointed (readable left fs) (last_or_owner h (blocks_in xs)) o ≡ 0
      pub keeps : (y : New) → IsNew node inode (kinds s fs) (readable s fs) top y → y.ty ≢ inode → All (λ x. IsOther x y) xs →
          IsNew node inode (kinds left fs) (readable left fs) top y
      pub own : fields_of (readable left fs c) ≡ fields_of (readable s fs c)
      pub ran : Ran T fs later left new result

    next_stands : (q os : List ℕ) → IsWay (l0 ∷ onto q os) 0 → (o : ℕ) → IsNext More os o → (4 ≤ o) × (o + 4 ≤ 512) × (o % 4 ≡ 0)
    next_stands q [] way o next = more_stands o next
    next_stands q (x ∷ os) way o next =
        let first = way_first x 1 q os (way_up l0 x q os way) in
        subst (λ p. (4 ≤ p) × (p + 4 ≤ 512) × (p % 4 ≡ 0)) (sym next) (way_stands x first.0 q first.1)

    module _ (off : ℕ) (os : List ℕ) (x : New) (xs : List New) (q : List ℕ) (h : ℕ) (s new : StoreState) (result : Result (Unit {0}) Refusal)
        (at : IsAsideAt T fs node inode top c few tree s) (h_is : block_at (readable s fs) c q ≡ h) (h_there : h ≢ 0) (way : IsWay (l0 ∷ onto q (off ∷ os)) 0)
        (of : AreOf T fs node inode top few tree (node_starts node 2 (off ∷ os)) (x ∷ xs))
        (news : AreNew node inode (kinds s fs) (readable s fs) top (x ∷ xs)) (none : pointed (readable s fs) h off ≡ 0) where
      first : (l : ℕ) × IsWay (off ∷ q) l × (l ≡ 1 + length os)
      first = way_first off 1 q os (way_up l0 off q os way)

      abbrev l : ℕ
      l = first.0

      as_data : l ≡ 0 → x.ty ≡ 2
      as_data e = let f = first.2 in absurd (omega (arith, e, f))

      as_node : (k : ℕ) → l ≡ suc k → x.ty ≡ node
      as_node k e = of.0

      plain : x.ty ≢ inode
      plain is = at.aside.volume.types.0 (sym of.0 ∙ is)

      abbrev child : ℕ
      child = child_before node 2 os

      abbrev attach : Act
      attach = attach_act h off node (x.block ∷ []) None

      abbrev wait : Act
      wait = wait_act x.block (child ∷ []) h

      abbrev m1 : ℕ → List ℕ
      m1 = written attach (readable s fs)

      abbrev rest_acts : List Act
      rest_acts = node_acts node 2 x.block os (blocks_in xs) ++ later

      nodes_plain : (os : List ℕ) (xs : List New) → AreOf T fs node inode top few tree (node_starts node 2 os) xs → (y : New) → All (λ (z : New). z.ty ≢ inode) xs
      nodes_plain [] [] of y = All-nil (λ (z : New). z.ty ≢ inode)
      nodes_plain [] (x ∷ xs) of y = absurd of
      nodes_plain (o ∷ os) [] of y = absurd of
      nodes_plain (o ∷ os) (z ∷ zs) of y =
          All-cons (λ (z : New). z.ty ≢ inode) z zs (λ is. at.aside.volume.types.0 (sym of.0 ∙ is)) (nodes_plain os zs of.2 y)

      said : m1 x.block ≡ node_bytes child
      said = next_bytes node inode top c (kinds s fs) (readable s fs) at.aside l off q first.1 h h_is h_there x news.0 plain as_node as_data none node ∙ of.1

      keeps_one : (y : New) → IsNew node inode (kinds s fs) (readable s fs) top y → y.ty ≢ inode → IsOther x y → IsNew node inode (kinds s fs) m1 top y
      keeps_one = next_new node inode top c (kinds s fs) (readable s fs) at.aside l off q first.1 h h_is h_there x news.0 plain as_node as_data none node

      own_one : fields_of (m1 c) ≡ fields_of (readable s fs c)
      own_one = next_fields node inode top c (kinds s fs) (readable s fs) at.aside l off q first.1 h h_is h_there x news.0 plain as_node as_data none node

      -- what the rest has to begin with
      pub record IsStarted (middle : StoreState) : Type 0 where
        pub stays : Stays T fs node inode top c few tree s middle
        pub reads : readable middle fs ≡ m1
        pub types : kinds middle fs ≡ kinds s fs
        pub ran : Ran T fs rest_acts middle new result

      started : (middle : StoreState) → IsDone T fs node inode top c few tree s at attach middle → Ran T fs (wait ∷ rest_acts) middle new result →
          Stays T fs node inode top c few tree s new ⊎ ((left : StoreState) × IsStarted left)
      started middle done ran =
          let reads : readable middle fs ≡ m1 = done.1 in
          elim (ran_first T fs wait rest_acts middle new result ran) [
            | inl same ↦ inl (subst (Stays T fs node inode top c few tree s) (sym same) done.0)
            | inr (entry, next, made, rest) ↦
                let w = wait_made T fs node inode top c few tree middle done.0.0 x.block child h next entry
                (sym (ap (λ m. slice_index (m x.block) 0) reads ∙ ap (λ bs. slice_index bs 0) said))
                (subst (λ bs. 0 < length bs) (sym (ap (λ m. m x.block) reads ∙ said)) (let long = node_long child in omega arith)) made in
                inr (
                  next,
                  record {
                    stays = stays_then T fs node inode top c few tree s middle next done.0 w.0;
                    reads = w.1 ∙ reads;
                    types = w.2 ∙ done.2;
                    ran = rest;
                  },
                )
          ]

      pub first_ran : Ran T fs (node_acts node 2 h (off ∷ os) (blocks_in (x ∷ xs)) ++ later) s new result →
          Stays T fs node inode top c few tree s new ⊎ ((left : StoreState) × IsStarted left)
      first_ran ran = elim (ran_first T fs attach (wait ∷ rest_acts) s new result ran) [
        | inl same ↦ inl (subst (Stays T fs node inode top c few tree s) (sym same) (at, refl))
        | inr (entry, middle, made, rest) ↦
            started middle (made_aside T fs node inode top c few tree s at attach middle entry refl made
            (next_aside node inode top c (kinds s fs) (readable s fs) at.aside l off q first.1 h h_is h_there x news.0 plain as_node as_data none node)
            (next_files node inode top c (kinds s fs) (readable s fs) at.aside l off q first.1 h h_is h_there x news.0 plain as_node as_data none node)) rest
      ]

      module _ (left : StoreState) (is : IsStarted left) where
        pub started_there : block_at (readable left fs) c (off ∷ q) ≡ x.block
        started_there = ap (λ m. block_at m c (off ∷ q)) is.reads
            ∙ next_there node inode top c (kinds s fs) (readable s fs) at.aside l off q first.1 h h_is h_there x news.0 plain as_node as_data none node

        pub started_keeps : (y : New) → IsNew node inode (kinds s fs) (readable s fs) top y → y.ty ≢ inode → IsOther x y →
            IsNew node inode (kinds left fs) (readable left fs) top y
        started_keeps y one y_plain ne = subst (λ t. IsNew node inode t (readable left fs) top y) (sym is.types)
            (subst (λ m. IsNew node inode (kinds s fs) m top y) (sym is.reads) (keeps_one y one y_plain ne))

        pub started_news : AreNew node inode (kinds left fs) (readable left fs) top xs
        started_news = new_kept node inode top (kinds s fs) (kinds left fs) (readable s fs) (readable left fs) (λ y. (y.ty ≢ inode) × IsOther x y) xs
            (λ i d lt. (nodes_plain os xs of.2 x i d lt, news.1 i d lt)) (λ y p one. started_keeps y one p.0 p.1) news.2

        pub started_zeros : (p : ℕ) → IsNext More os p → pointed (readable left fs) x.block p ≡ 0
        started_zeros p next =
            let stands = next_stands (off ∷ q) os way p next in
            ap (λ t. if t then 0 else word_at (readable left fs x.block) p) (ne_eqb x.block 0 news.0.there)
            ∙ (ap (λ bs. word_at bs p) (ap (λ m. m x.block) is.reads ∙ said)
            ∙ bare_node (node_bytes child) (node_children child) p stands.0 stands.1 stands.2)

        with_rest : AreNodesRan (off ∷ q) os xs x.block left new result → AreNodesRan q (off ∷ os) (x ∷ xs) h s new result
        with_rest r = record {
          left = r.left;
          stays = stays_then T fs node inode top c few tree s left r.left is.stays r.stays;
          last = r.last;
          there = r.there;
          zeros = r.zeros;
          keeps = λ y one y_plain others. r.keeps y (started_keeps y one y_plain (All-head (λ z. IsOther z y) x xs others)) y_plain
              (All-tail (λ z. IsOther z y) x xs others);
          own = r.own ∙ (ap (λ m. fields_of (m c)) is.reads ∙ own_one);
          ran = r.ran;
        }

    pub nodes_ran : (os : List ℕ) (xs : List New) (q : List ℕ) (h : ℕ) (s new : StoreState) (result : Result (Unit {0}) Refusal) → At s →
        block_at (readable s fs) c q ≡ h → h ≢ 0 → IsWay (l0 ∷ onto q os) 0 → AreOf T fs node inode top few tree (node_starts node 2 os) xs →
        AreNew node inode (kinds s fs) (readable s fs) top xs → ((o : ℕ) → IsNext More os o → pointed (readable s fs) h o ≡ 0) →
        Ran T fs (node_acts node 2 h os (blocks_in xs) ++ later) s new result → Stay s new ⊎ AreNodesRan q os xs h s new result
    nodes_ran [] [] q h s new result at h_is h_there way of news zeros ran = inr (record {
      left = s;
      stays = (at, refl);
      last = h_is;
      there = h_there;
      zeros = zeros;
      keeps = λ y one plain others. one;
      own = refl;
      ran = ran;
    })
    nodes_ran [] (x ∷ xs) q h s new result at h_is h_there way of news zeros ran = absurd of
    nodes_ran (off ∷ os) [] q h s new result at h_is h_there way of news zeros ran = absurd of
    nodes_ran (off ∷ os) (x ∷ xs) q h s new result at h_is h_there way of news zeros ran =
        elim (first_ran off os x xs q h s new result at h_is h_there way of news (zeros off refl) ran) [
          | inl stay ↦ inl stay
          | inr (left, is) ↦
              elim (nodes_ran os xs (off ∷ q) x.block left new result is.stays.0
              (started_there off os x xs q h s new result at h_is h_there way of news (zeros off refl) left is) news.0.there way of.2
              (started_news off os x xs q h s new result at h_is h_there way of news (zeros off refl) left is)
              (started_zeros off os x xs q h s new result at h_is h_there way of news (zeros off refl) left is) is.ran) [
                | inl stay ↦ inl (stays_then T fs node inode top c few tree s left new is.stays stay)
                | inr r ↦ inr (with_rest off os x xs q h s new result at h_is h_there way of news (zeros off refl) left is r)
              ]
        ]
