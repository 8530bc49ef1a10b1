-- Blocks that are begun, or forgotten, beside an inode that has no number: it has none still, and no file changes.
use Rattle.std.proofs.Common.{◌≡◌, ◌≢◌, ℕ, ◌<◌, List, [], ◌∷◌, ◌++◌, Some, Result, Ok, Err, refl, sym, ◌∙◌, ap, inl, inr, subst, if◌then◌else◌}
use Rattle.std.specs.Prelude.{All, IsTrue, map, ◌==◌}
use Rattle.std.proofs.lemmas.Bool.{ne_eqb}
use Rattle.std.proofs.lemmas.List.Elements.{All-append, All-cons, All-head, All-nil, All-tail}
use Rattle.store_types.specs.declared.refusal.Refusal.{Refusal}
use Rattle.xn_model.specs.Types.{Types}
use Rattle.xn_model.specs.Calls.{forget_of, init_of, life_bytes, new_life}
use Rattle.xn_model.specs.Lives.{StoreState, life_at}
use Rattle.xn_model.specs.Root.{word_at}
use Rattle.xn_model.proofs.ForCallers.{set_other}
use Rattle.ffs_model.proofs.ForCallers.{Started, started}
use Rattle.treefs_format.specs.Paths.{steps}
use Rattle.treefs_format.specs.Templates.{IsTree}
use Rattle.treefs_lookup.specs.Readable.{readable}
use Rattle.treefs_model.specs.Edited.{type_in}
use Rattle.treefs_model.specs.Reading.{block_at, files_of, leaf_block, pointed}
use Rattle.treefs_model.specs.Trees.{has_pointer}
use Rattle.treefs_model.specs.declared.fault.Fault.{Fault}
use Rattle.treefs_model.proofs.Edited.{gives_ok}
use Rattle.treefs_edits.specs.Plans.{Begins, Begun, forgotten, left_by}
use Rattle.treefs_edits.specs.declared.start.Start.{Start}
use Rattle.treefs_values.specs.Kinds.{kinds}
use Rattle.treefs_values.specs.Ways.{IsWay}
use Rattle.treefs_values.proofs.ForCallers.{AreBegun, AreNew, AreOf, IsAt, IsFineStart, IsNew, New, begun_so, kinds_are, may_read, readable_is}
use Rattle.treefs_laws.proofs.AsideTree.{IsAside, beside_aside, beside_leaf, beside_way}
use Rattle.treefs_laws.proofs.ForgottenBlocks.{forget_bare, forget_files, forget_here, forget_kept, forget_unled}
use Rattle.treefs_laws.proofs.WaysApart.{steps_way}

module _ (T : Types) (fs node inode top c : ℕ) (few : fs < 32) (tree : IsTree T node inode) where
  -- in a state of the store
  pub record IsAsideAt (s : StoreState) : Type 0 where
    pub here : IsAt T fs node inode top s
    pub aside : IsAside node inode top c (kinds s fs) (readable s fs)

  abbrev pub Stays : StoreState → StoreState → Type 0
  Stays old new = IsAsideAt new × (files_of (readable new fs) top ≡ files_of (readable old fs) top)

  pub stays_same : (s : StoreState) → IsAsideAt s → Stays s s
  stays_same s at = (at, refl)

  pub stays_then : (old middle new : StoreState) → Stays old middle → Stays middle new → Stays old new
  stays_then old middle new first second = (second.0, second.1 ∙ first.1)

  -- its ways lead where they led, and its block and its leaves have the bytes that they had
  pub record KeepsTree (old new : StoreState) : Type 0 where
    pub ways : (k : ℕ) (os : List ℕ) → IsWay os k → block_at (readable new fs) c os ≡ block_at (readable old fs) c os
    pub own : readable new fs c ≡ readable old fs c
    pub leaves : (i : ℕ) → leaf_block (readable old fs) c i ≢ 0 →
        readable new fs (leaf_block (readable old fs) c i) ≡ readable old fs (leaf_block (readable old fs) c i)

  abbrev Fine : Start → Type 0
  Fine = IsFineStart T fs node inode top few tree

  some_type : (s : StoreState) → IsAsideAt s → kinds s fs c ≢ 0
  some_type s at z = at.aside.volume.some_types.1 (sym at.aside.is_block.typed ∙ z)

  -- One block is begun

  module _ (old new : StoreState) (at : IsAsideAt old) (start : Start) (fine : Fine start) (made : ℕ × ℕ) (begun : Begun T fs start old new (Ok made)) where
    abbrev b : ℕ
    b = made.0

    is : Started old new fs start.ty start.bytes made
    is = started T old new fs start.ty start.bytes made (gives_ok (init_of T old fs start.ty start.bytes) old new made begun)

    life_other : (x : ℕ) → x ≢ b → life_at new.lives x ≡ life_at old.lives x
    life_other x ne = ap (λ ls. life_at ls x) is.lives ∙ set_other old.lives b x (Some (new_life old.next (Some fs) start.ty start.bytes)) ne

    others : (x : ℕ) → x ≢ b → (kinds new fs x ≡ kinds old fs x) × (readable new fs x ≡ readable old fs x)
    others x ne = (
      kinds_are new fs x ∙ (ap (λ o. if may_read fs o then type_in o else 0) (life_other x ne) ∙ sym (kinds_are old fs x)),
      readable_is new fs x ∙ (ap (λ o. if may_read fs o then life_bytes o else []) (life_other x ne) ∙ sym (readable_is old fs x)),
    )

    was_none : kinds old fs b ≡ 0
    was_none = kinds_are old fs b ∙ ap (λ o. if may_read fs o then type_in o else 0) is.free

    pub begun_other : b ≢ c
    begun_other same = some_type old at (sym (ap (kinds old fs) same) ∙ was_none)

    all : AreBegun T fs node inode top few tree (start ∷ []) [] (b ∷ []) old new
    all = begun_so T fs node inode top few tree (start ∷ []) [] (b ∷ []) old new (All-cons Fine start [] fine (All-nil Fine)) at.here
        (inr (made, new, begun, (refl, refl)))

    abbrev Keeps : Type 0
    Keeps = Stays old new × KeepsTree old new

    of_new : (x : IsNew node inode (kinds new fs) (readable new fs) top (record { block = b; ty = start.ty; bytes = start.bytes })) → Keeps
    of_new x = (
      (
        record {
          here = all.at;
          aside = beside_aside node inode top c (kinds old fs) (kinds new fs) (readable old fs) (readable new fs) at.aside b begun_other others led all.at.volume
              bare;
        },
        all.files,
      ),
      record {
        ways = beside_way node inode top c (kinds old fs) (kinds new fs) (readable old fs) (readable new fs) at.aside b begun_other others led all.at.volume bare;
        own = (others c (λ same. begun_other (sym same))).1;
        leaves = beside_leaf node inode top c (kinds old fs) (kinds new fs) (readable old fs) (readable new fs) at.aside b begun_other others led all.at.volume
            bare;
      },
    )
      where
        led : (p o : ℕ) → p ≢ b → IsTrue (has_pointer node inode (kinds old fs p) o) → pointed (readable old fs) p o ≢ b
        led p o ne has same =
            x.unled p o (subst (λ t. IsTrue (has_pointer node inode t o)) (sym (others p ne).0) has)
            (ap (λ m. if p == 0 then 0 else word_at m o) (others p ne).1 ∙ same)

        bare : (o : ℕ) → IsTrue (has_pointer node inode (kinds new fs b) o) → pointed (readable new fs) b o ≢ c
        bare o has same =
            at.aside.there (sym same ∙ (ap (λ t. if t then 0 else word_at (readable new fs b) o) (ne_eqb b 0 x.there)
            ∙ (ap (λ m. word_at m o) x.bytes ∙ x.bare o (subst (λ t. IsTrue (has_pointer node inode t o)) x.typed has))))

    -- the one that was begun
    own_new : (xs : List New) → b ∷ [] ≡ map (λ (x : New). x.block) xs → AreOf T fs node inode top few tree (start ∷ []) xs →
        AreNew node inode (kinds new fs) (readable new fs) top xs → Keeps
    own_new [] blocks of news = absurd of
    own_new (x ∷ xs) blocks of news =
        of_new (subst (IsNew node inode (kinds new fs) (readable new fs) top) (λ j. record {
          block = sym (ap (first_of 0) blocks) j;
          ty = of.0 j;
          bytes = of.1 j;
        }) news.0)
      where
        first_of : ℕ → List ℕ → ℕ
        first_of other [] = other
        first_of other (y ∷ ys) = y

    pub begun_stays : Stays old new × KeepsTree old new
    begun_stays = own_new all.made all.blocks_are all.of all.news

  -- One block is forgotten

  forget_stays : (s : StoreState) (b : ℕ) → IsAsideAt s → b ≢ c → Stays s (left_by (forget_of T s fs b) s)
  forget_stays s b at other = by (forget_of T s fs b) refl
    where
      by : (r : Result (Unit {0} × StoreState) Refusal) → forget_of T s fs b ≡ r → Stays s (left_by r s)
      by (Ok (tt, new)) e = (
        record {
          here = forget_here T fs node inode top few tree s new at.here b e;
          aside = beside_aside node inode top c (kinds s fs) (kinds new fs) (readable s fs) (readable new fs) at.aside b other
              (forget_kept T fs node inode top few tree s new at.here b e) (forget_unled T fs node inode top few tree s new at.here b e)
              (forget_here T fs node inode top few tree s new at.here b e).volume
              (λ o has. absurd (forget_bare T fs node inode top few tree s new at.here b e o has));
        },
        forget_files T fs node inode top few tree s new at.here b e,
      )
      by (Err reason) e = (at, refl)

  abbrev Other : ℕ → Type 0
  Other b = b ≢ c

  pub all_forgotten : (blocks : List ℕ) (s : StoreState) → IsAsideAt s → All Other blocks → Stays s (forgotten T fs blocks s)
  all_forgotten [] s at others = (at, refl)
  all_forgotten (b ∷ blocks) s at others =
      let one = forget_stays s b at (All-head Other b blocks others) in
      stays_then s (left_by (forget_of T s fs b) s) (forgotten T fs blocks (left_by (forget_of T s fs b) s)) one
      (all_forgotten blocks (left_by (forget_of T s fs b) s) one.0 (All-tail Other b blocks others))

  -- Blocks are begun, all or none

  pub all_begun : (starts : List Start) (begun blocks : List ℕ) (old new : StoreState) → All Fine starts → IsAsideAt old → All Other begun →
      Begins T fs starts begun old new (Ok blocks) → Stays old new × All Other blocks × KeepsTree old new
  all_begun [] begun blocks old new fine at others begins = (
    subst (Stays old) (sym begins.1) (at, refl),
    subst (All Other) (same_blocks begins.0) others,
    subst (KeepsTree old) (sym begins.1) (record { ways = λ k os way. refl; own = refl; leaves = λ i some. refl }),
  )
    where
      same_blocks : ◌≡◌ {A = Result (List ℕ) Fault} (Ok blocks) (Ok begun) → begun ≡ blocks
      same_blocks e = cc e
  all_begun (start ∷ starts) begun blocks old new fine at others (inl none) = absurd none
  all_begun (start ∷ starts) begun blocks old new fine at others (inr (made, middle, one, rest)) =
      let first = begun_stays old middle at start (All-head Fine start starts fine) made one in
      let later = all_begun starts (begun ++ made.0 ∷ []) blocks middle new (All-tail Fine start starts fine) first.0.0
      (All-append Other begun (made.0 ∷ []) others
      (All-cons Other made.0 [] (begun_other old middle at start (All-head Fine start starts fine) made one) (All-nil Other))) rest in (
        stays_then old middle new first.0 later.0,
        later.1,
        record {
          ways = λ k os way. later.2.ways k os way ∙ first.1.ways k os way;
          own = later.2.own ∙ first.1.own;
          leaves = λ i some.
              let same : leaf_block (readable middle fs) c i ≡ leaf_block (readable old fs) c i = first.1.ways 0 (steps i) (steps_way i) in
              ap (readable new fs) (sym same)
              ∙ (later.2.leaves i (λ z. some (sym same ∙ z)) ∙ (ap (readable middle fs) same ∙ first.1.leaves i some));
        },
      )

  pub none_begun : (starts : List Start) (begun : List ℕ) (old new : StoreState) (fault : Fault) → All Fine starts → IsAsideAt old → All Other begun →
      Begins T fs starts begun old new (Err fault) → Stays old new
  none_begun [] begun old new fault fine at others begins = absurd (cc begins.0)
  none_begun (start ∷ starts) begun old new fault fine at others (inl none) = subst (Stays old) (sym none.3) (all_forgotten begun old at others)
  none_begun (start ∷ starts) begun old new fault fine at others (inr (made, middle, one, rest)) =
      let first = begun_stays old middle at start (All-head Fine start starts fine) made one in
      stays_then old middle new first.0 (none_begun starts (begun ++ made.0 ∷ []) middle new fault (All-tail Fine start starts fine) first.0.0
      (All-append Other begun (made.0 ∷ []) others
      (All-cons Other made.0 [] (begun_other old middle at start (All-head Fine start starts fine) made one) (All-nil Other))) rest)
