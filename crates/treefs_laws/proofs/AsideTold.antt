-- An inode that was begun, while blocks are begun and attached beside it, until a number comes to lead to it.
use Rattle.std.proofs.Common.{◌≡◌, ◌≢◌, ℕ, suc, List, [], ◌∷◌, Some, Ok, refl, sym, ◌∙◌, ap, inl, inr, subst, if◌then◌else◌}
use Rattle.std.specs.Prelude.{All, ◌==◌}
use Rattle.std.proofs.lemmas.Bool.{cases_eq}
use Rattle.std.proofs.lemmas.List.Elements.{All-cons, All-head, All-nil, All-tail}
use Rattle.std.proofs.lemmas.Option.{same_Some}
use Rattle.xn_model.specs.Root.{word_at}
use Rattle.xn_model.specs.Types.{Types}
use Rattle.xn_model.specs.Lives.{StoreState}
use Rattle.treefs_format.specs.Paths.{steps}
use Rattle.treefs_format.specs.declared.kind.Kind.TheVariants as kind
use Rattle.treefs_model.specs.Files.{Inode}
use Rattle.treefs_model.specs.Reading.{block_at, inode_of, key_in, leaf_block, pointed}
use Rattle.treefs_lookup.specs.Readable.{readable}
use Rattle.treefs_edits.specs.Plans.{Begins}
use Rattle.treefs_edits.specs.declared.start.Start.{Start}
use Rattle.treefs.specs.declared.volume.Volume.{Volume}
use Rattle.treefs_values.specs.Kinds.{kinds}
use Rattle.treefs_values.specs.Ways.{IsWay}
use Rattle.treefs_values.proofs.ForCallers.{AreNew, IsAlike, IsAt, IsFineStart, IsNew, IsRead, IsSince, IsTold, New, blocks_in}
use Rattle.treefs_laws.specs.Begun.{IsBegun}
use Rattle.treefs_laws.specs.Open.{IsOpen}
use Rattle.treefs_laws.proofs.AsideBegun.{IsAsideAt, all_begun}
use Rattle.treefs_laws.proofs.AsideTree.{IsAside, nowhere}
use Rattle.treefs_laws.proofs.AsideVolume.{unnamed_aside}
use Rattle.treefs_laws.proofs.BlockAside.{alike_inode}
use Rattle.treefs_laws.proofs.OwnSaid.{IsSaid, any_key, said}
use Rattle.treefs_laws.proofs.ReadBlocks.{IsIn, unread}
use Rattle.treefs_laws.proofs.WaysApart.{steps_way, way_pointer}

-- new blocks, as their numbers
pub others_are : (c : ℕ) (xs : List New) → All (λ b. b ≢ c) (blocks_in xs) → All (λ (x : New). x.block ≢ c) xs
others_are c [] others = All-nil (λ (x : New). x.block ≢ c)
others_are c (x ∷ xs) others =
    All-cons (λ (x : New). x.block ≢ c) x xs (All-head (λ b. b ≢ c) x.block (blocks_in xs) others)
    (others_are c xs (All-tail (λ b. b ≢ c) x.block (blocks_in xs) others))

module _ (T : Types) (state : StoreState) (volume : Volume) (is_open : IsOpen T state volume) (c : ℕ) (value : Inode) (begun : IsBegun state volume c value) where
  abbrev fs : ℕ
  fs = volume.tree.fs.number

  abbrev top : ℕ
  top = volume.tree.top

  abbrev node : ℕ
  node = volume.tree.node_type

  abbrev inode : ℕ
  inode = volume.tree.inode_type

  abbrev Aside : StoreState → Type 0
  Aside s = IsAside node inode top c (kinds s fs) (readable s fs)

  -- no number leads to it, and it says what it said
  abbrev pub Tells : StoreState → Type 0
  Tells s = Aside s × (inode_of (readable s fs) (key_in (readable s fs) top) c ≡ Some value)

  still_says : (old new : StoreState) → inode_of (readable old fs) (key_in (readable old fs) top) c ≡ Some value →
      IsAlike (readable old fs) (readable new fs) c → inode_of (readable new fs) (key_in (readable new fs) top) c ≡ Some value
  still_says old new says alike =
      alike_inode (readable old fs) (readable new fs) c alike (key_in (readable new fs) top)
      ∙ any_key (readable old fs) (key_in (readable old fs) top) c value says begun.bytes begun.bytes_are (key_in (readable new fs) top)

  here : IsAt T fs node inode top state
  here = record { store = is_open.kept.store; root = is_open.root; volume = is_open.kept.bytes }

  at0 : IsAsideAt T fs node inode top c is_open.few is_open.tree state
  at0 = record { here = here; aside = unnamed_aside T state volume c is_open begun.unnamed }

  -- Blocks are begun

  module _ (starts : List Start) (fine : All (IsFineStart T fs node inode top is_open.few is_open.tree) starts) (blocks : List ℕ) (s : StoreState)
      (begins : Begins T fs starts [] state s (Ok blocks)) where
    pub begun_others : All (λ b. b ≢ c) blocks
    begun_others = (all_begun T fs node inode top c is_open.few is_open.tree starts [] blocks state s fine at0 (All-nil (λ b. b ≢ c)) begins).1

    pub begun_tells : Tells s
    begun_tells =
        let all = all_begun T fs node inode top c is_open.few is_open.tree starts [] blocks state s fine at0 (All-nil (λ b. b ≢ c)) begins in (
          all.0.0.aside,
          still_says state s begun.says
              (record { own = all.2.own; leaves = λ i. all.2.ways 0 (steps i) (steps_way i); bytes = all.2.leaves }),
        )

  -- Blocks are attached elsewhere, or a bucket is rewritten

  module _ (xs : List New) (s s' : StoreState) (since : IsSince T fs node inode top xs s s')
      (news : AreNew node inode (kinds s fs) (readable s fs) top xs) (apart : All (λ x. x.block ≢ c) xs) (tells : Tells s) where
    abbrev old : ℕ → List ℕ
    old = readable s fs

    abbrev new : ℕ → List ℕ
    new = readable s' fs

    abbrev a : Aside s
    a = tells.0

    one_other : (x : New) → IsNew node inode (kinds s fs) old top x → x.block ≢ c → (b : ℕ) → IsIn old c b → x.block ≢ b
    one_other x is ne b (inl same) = λ e. ne (e ∙ same)
    one_other x is ne b (inr (k, os, way, at)) = by os way at
      where
        by : (os : List ℕ) → IsWay os k → b ≡ block_at old c os → x.block ≢ b
        by [] way at = absurd way
        by (o ∷ q) way at = λ same. elim (cases_eq (block_at old c q) 0) [
          | inl z ↦ is.there (same ∙ (at ∙ nowhere node inode top c old (block_at old c q) o z))
          | inr some ↦ is.unled (block_at old c q) o (way_pointer node inode top (kinds s fs) old a.volume c a.is_block k o q way some)
              (sym (same ∙ at))
        ]

    others : (b : ℕ) → IsIn old c b → (xs : List New) → AreNew node inode (kinds s fs) old top xs → All (λ x. x.block ≢ c) xs → All (λ x. x.block ≢ b) xs
    others b is_in [] news apart = All-nil (λ (x : New). x.block ≢ b)
    others b is_in (x ∷ xs) news apart =
        All-cons (λ (x : New). x.block ≢ b) x xs (one_other x news.0 (All-head (λ (x : New). x.block ≢ c) x xs apart) b is_in)
        (others b is_in xs news.2 (All-tail (λ (x : New). x.block ≢ c) x xs apart))

    same : (b : ℕ) → IsIn old c b → new b ≡ old b
    same b is_in = since.others b (unread node inode top (kinds s fs) old a.volume c a.there a.no_root a.is_block a.unled b is_in) (others b is_in xs news apart)

    point_in : (k p : ℕ) (q : List ℕ) → IsWay (p ∷ q) k → IsIn old c (block_at old c q)
    point_in k p [] way = inl refl
    point_in k p (r ∷ q) way = inr (suc k, r ∷ q, way.3, refl)

    same_point : (k p : ℕ) (q : List ℕ) → IsWay (p ∷ q) k → block_at new c q ≡ block_at old c q → block_at new c (p ∷ q) ≡ block_at old c (p ∷ q)
    same_point k p q way at =
        ap (λ x. pointed new x p) at ∙ ap (λ m. if block_at old c q == 0 then 0 else word_at m p) (same (block_at old c q) (point_in k p q way))

    same_way : (k : ℕ) (os : List ℕ) → IsWay os k → block_at new c os ≡ block_at old c os
    same_way k [] way = absurd way
    same_way k (p ∷ []) way = same_point k p [] way refl
    same_way k (p ∷ r ∷ q) way = same_point k p (r ∷ q) way (same_way (suc k) (r ∷ q) way.3)

    typed_way : (k : ℕ) (os : List ℕ) → IsWay os k → kinds s' fs (block_at new c os) ≡ kinds s fs (block_at old c os)
    typed_way k os way = ap (kinds s' fs) (same_way k os way) ∙ ap (λ t. t (block_at old c os)) since.types

    pub aside_tells : Tells s'
    aside_tells = (
      record {
        volume = since.here.volume;
        there = a.there;
        no_root = a.no_root;
        is_block = record {
          typed = ap (λ t. t c) since.types ∙ a.is_block.typed;
          nodes = λ l os way some. typed_way (suc l) os way ∙ a.is_block.nodes l os way (λ z. some (same_way (suc l) os way ∙ z));
        };
        leaves = λ i few some.
            typed_way 0 (steps i) (steps_way i) ∙ a.leaves i few (λ z. some (same_way 0 (steps i) (steps_way i) ∙ z));
        unled = since.unled c apart a.unled;
      },
      still_says s s' tells.1 (record {
        own = same c (inl refl);
        leaves = λ i. same_way 0 (steps i) (steps_way i);
        bytes = λ i some. same (leaf_block old c i) (inr (0, steps i, steps_way i, refl));
      }),
    )

  -- The table's pointer may come to lead to it

  pub aside_told : (s : StoreState) → Tells s → (h : ℕ) → IsRead (readable s fs) top h → IsTold node inode (kinds s fs) (readable s fs) top h c value
  aside_told s (a, says) h read =
      let is : IsSaid (readable s fs) (key_in (readable s fs) top) c value says begun.bytes begun.bytes_are =
      said (readable s fs) (key_in (readable s fs) top) c value says begun.bytes begun.bytes_are in
      record {
        within = begun.within;
        free = record {
          there = a.there;
          typed = a.is_block.typed;
          tree = record { nodes = a.is_block.nodes; leaves = a.leaves };
          directory = λ of_directory. absurd (is.no_directory (same_Some is.of_kind kind.Directory (sym is.kind_is ∙ of_directory)));
        };
        alone = λ same. not_read c (inl refl) same;
        beside = λ l os way some. not_read (block_at (readable s fs) c os) (inr (l, os, way, refl));
        says = says;
      }
    where
      not_read : (b : ℕ) → IsIn (readable s fs) c b → b ≢ h
      not_read b is_in same = unread node inode top (kinds s fs) (readable s fs) a.volume c a.there a.no_root a.is_block a.unled b is_in
          (subst (IsRead (readable s fs) top) (sym same) read)
