-- The edits by which a path is made: of the table to a new inode, and of a directory to a new leaf.
use Rattle.std.proofs.Common.{◌≡◌, ◌≢◌, ◌⊎◌, ℕ, suc, ◌+◌, ◌-◌, ◌<◌, ◌≤◌, ◌%◌, List, [], ◌∷◌, ◌++◌, length, take, None, Some, Ok, refl, sym, ◌∙◌, ap, inl, inr, arith, subst}
use Rattle.std.specs.Prelude.{All, slice_index}
use Rattle.std.proofs.lemmas.List.{get_or_at, take_at}
use Rattle.xn_model.specs.Types.{Types}
use Rattle.xn_model.specs.BareDisks.{zeros}
use Rattle.xn_model.specs.Lives.{StoreState}
use Rattle.treefs_format.specs.Paths.{leaf_count, steps}
use Rattle.treefs_format.specs.Templates.{IsTree}
use Rattle.treefs_model.specs.Acts.{Act, Ran, attach_act}
use Rattle.treefs_model.specs.Files.{Inode, with_inode}
use Rattle.treefs_model.specs.Reading.{block_at, files_of, leaf_block, pointed}
use Rattle.treefs_lookup.specs.Readable.{readable}
use Rattle.treefs_lookup.specs.Walks.{reach}
use Rattle.treefs_edits.specs.Missing.{last_or_owner, missing_path, node_acts, node_starts, path_acts, path_starts}
use Rattle.treefs_values.specs.Kinds.{kinds}
use Rattle.treefs_values.specs.Ways.{IsWay, block_numbered}
use Rattle.treefs_values.proofs.Chains.{IsChain, IsNext, blocks_in, chain_starts, chained, last_bytes, reached, way_stands}
use Rattle.treefs_values.proofs.Numbering.{IsTold, numbered_files, numbered_here, numbered_inodes, numbered_keeps, numbered_was}
use Rattle.treefs_values.proofs.MissingPaths.{IsPathTo, path_to}
use Rattle.treefs_values.proofs.Paths.{node_acts_are, node_links, node_reached, node_starts_are, onto, path_acts_are, path_links, path_reached, path_starts_are, way_first}
use Rattle.treefs_values.proofs.Pending.{AreNew, IsNew, IsOther, New}
use Rattle.treefs_values.proofs.Since.{IsRead, IsSince, above_read}
use Rattle.treefs_values.proofs.Standing.{KeepsInodes, KeepsNames, inodes_then}
use Rattle.treefs_values.proofs.Walks.{AreOf, IsAt, edit_is}
use Rattle.treefs_values.proofs.Ways.{steps_way}

module _ (T : Types) (fs node inode top : ℕ) (few : fs < 32) (tree : IsTree T node inode) where
  abbrev IsHere : StoreState → Type 0
  IsHere s = IsAt T fs node inode top s

  -- A path of the table

  -- an inode's offset behind its nodes
  module _ (m : ℕ) (l0 : ℕ) (stands : (4 ≤ l0) × (l0 + 4 ≤ 512) × (l0 % 4 ≡ 0)) where
    abbrev IsLater : ℕ → Type 0
    IsLater o = o ≡ l0

    pub later_stands : (o : ℕ) → IsLater o → (4 ≤ o) × (o + 4 ≤ 512) × (o % 4 ≡ 0)
    later_stands o is = subst (λ x. (4 ≤ x) × (x + 4 ≤ 512) × (x % 4 ≡ 0)) (sym is) stands

    way_up : (o : ℕ) (q os : List ℕ) → IsWay (l0 ∷ onto (o ∷ q) os) 0 → IsWay (onto (o ∷ q) os) 1
    way_up o q [] way = way.3
    way_up o q (p ∷ os) way = way_up p (o ∷ q) os way

    pub node_chain : (q os : List ℕ) → IsWay (l0 ∷ onto q os) 0 → IsChain T fs node inode top few tree m IsLater later_stands q (node_links node inode os)
    node_chain q [] way = tt
    node_chain q (o ∷ os) way =
        let first = way_first o 1 q os (way_up o q os way) in
        let height : first.0 ≡ 1 + length os = first.2 in
        (first.0, first.1, (λ j e. refl), (λ e. absurd (omega (arith, e))), node_chain (o ∷ q) os way)

    -- the first of its pointers, or else the inode's
    pub next_in : (os : List ℕ) (o : ℕ) → IsNext T fs node inode top few tree m IsLater later_stands (node_links node inode os) o →
        ((os ≡ []) × (o ≡ l0)) ⊎ ((rest : List ℕ) × (os ≡ o ∷ rest))
    next_in [] o next = inl (refl, next)
    next_in (x ∷ os) o next = inr (os, ap (λ y. y ∷ os) (sym next))

  -- The table: its nodes, and then the inode

  module _ (old plan : StoreState) (here : IsHere old) (ways : (l : ℕ) (os : List ℕ) → IsWay os l → block_at (readable old fs) top os ≡ block_at (readable plan fs) top os)
      (n : ℕ) (number : n ≢ 0) (n_few : n - 1 < leaf_count) (free : leaf_block (readable plan fs) top (n - 1) ≡ 0) (value : Inode) where
    abbrev missing : ℕ
    missing = (reach (readable plan fs) top (steps (n - 1))).missing

    abbrev owner : ℕ
    owner = (reach (readable plan fs) top (steps (n - 1))).block

    abbrev path : List ℕ
    path = missing_path (n - 1) missing

    abbrev nodes_of : List ℕ
    nodes_of = take (missing - 1) path

    pub record IsTabled (xs : List New) (y : ℕ) (rest : List Act) (new : StoreState) : Type 0 where
      pub middle : StoreState
      pub tabled : IsHere middle
      pub ran : Ran T fs rest middle new (Ok tt)
      pub was : files_of (readable old fs) top n ≡ None
      pub files : files_of (readable middle fs) top ≡ with_inode (files_of (readable old fs) top) n (Some value)
      pub keeps : (x : New) → IsNew node inode (kinds old fs) (readable old fs) top x → All (λ z. IsOther z x) xs → x.block ≢ y →
          IsNew node inode (kinds middle fs) (readable middle fs) top x
      pub inodes : KeepsInodes (readable old fs) (readable middle fs) top

    -- y: the block of the inode, of which this is told whatever nodes were attached
    module _ (xs : List New) (y : ℕ) (of : AreOf T fs node inode top few tree (node_starts node inode nodes_of) xs)
        (news : AreNew node inode (kinds old fs) (readable old fs) top xs)
        (told : (s : StoreState) → IsSince T fs node inode top xs old s → (h : ℕ) → IsRead (readable s fs) top h →
        IsTold node inode (kinds s fs) (readable s fs) top h y value) (rest : List Act) (new : StoreState) where
      abbrev acts_by : List ℕ → ℕ → List Act
      acts_by nodes last = node_acts node inode owner nodes (blocks_in xs) ++ attach_act (last_or_owner owner (blocks_in xs)) last inode (y ∷ []) (Some y) ∷ rest

      -- the block that they hang from
      owner_read : (l0 : ℕ) (q nodes : List ℕ) → IsPathTo (readable old fs) (readable plan fs) top here.volume.root ways (n - 1) n_few free l0 q nodes →
          IsWay (l0 ∷ onto q nodes) 0 → IsRead (readable old fs) top (block_at (readable old fs) top q)
      owner_read l0 q nodes p way = by nodes way
        where
          there : block_at (readable old fs) top q ≢ 0
          there z = p.there (p.holder ∙ z)

          by : (nodes : List ℕ) → IsWay (l0 ∷ onto q nodes) 0 → IsRead (readable old fs) top (block_at (readable old fs) top q)
          by [] way = above_read (readable old fs) top l0 0 q way there
          by (o ∷ os) way =
              let first = way_first o 1 q os (way_up 0 l0 (way_stands l0 0 (onto q (o ∷ os)) way) o q os way) in
              above_read (readable old fs) top o first.0 q first.1 there

      tabled_by : (l0 : ℕ) (q nodes : List ℕ) →
          IsPathTo (readable old fs) (readable plan fs) top here.volume.root ways (n - 1) n_few free l0 q nodes →
          AreOf T fs node inode top few tree (node_starts node inode nodes) xs → Ran T fs (acts_by nodes l0) old new (Ok tt) → IsTabled xs y rest new
      tabled_by l0 q nodes p of' ran =
          let way : IsWay (l0 ∷ onto q nodes) 0 = subst (λ os. IsWay os 0) p.steps_are (steps_way (n - 1)) in
          let stands = way_stands l0 0 (onto q nodes) way in
          let links = node_links node inode nodes in
          let last_act : Act = attach_act (last_or_owner owner (blocks_in xs)) l0 inode (y ∷ []) (Some y) in
          let c = chained T fs node inode top few tree 0 (IsLater 0 l0 stands) (later_stands 0 l0 stands) links xs q owner (last_act ∷ rest) old new here p.holder p.there
          (node_chain 0 l0 stands q nodes way)
          (subst (λ starts. AreOf T fs node inode top few tree starts xs) (node_starts_are node inode nodes) of') news
          (λ o next. elim (next_in 0 l0 stands nodes o next) [
            | inl none ↦ ap (pointed (readable old fs) owner) none.1 ∙ p.first_zero none.0
            | inr one ↦ p.next_zero o one.0 one.1
          ])
          (subst (λ acts. Ran T fs (acts ++ last_act ∷ rest) old new (Ok tt)) (node_acts_are node inode owner nodes (blocks_in xs)) ran) in
          elim c.ran [
            | inl none ↦ absurd none
            | inr r ↦
                let s1 = r.1 in
                let edit = edit_is T fs last_act c.middle s1 r.0 c.here.store refl r.2 in
                let q' : List ℕ = onto q nodes in
                let holder = last_or_owner owner (blocks_in xs) in
                let holder_is : holder ≡ block_at (readable c.middle fs) top q' = c.last ∙ ap (block_at (readable c.middle fs) top) (node_reached node inode q nodes) in
                let none = c.zero l0 refl in
                let since : IsSince T fs node inode top xs old c.middle = record {
                  here = c.here;
                  types = c.types;
                  others = λ b unread apart. c.others b (λ same. unread (subst (IsRead (readable old fs) top) (sym p.holder ∙ sym same) (owner_read l0 q nodes p way))) apart;
                  unled = c.unled;
                  keeps = c.keeps;
                } in
                let there : block_at (readable c.middle fs) top q' ≢ 0 = λ z. c.there (holder_is ∙ z) in
                let t = told c.middle since holder (subst (IsRead (readable c.middle fs) top) (sym holder_is) (above_read (readable c.middle fs) top l0 0 q' way there)) in
                record {
                  middle = s1;
                  tabled = numbered_here T fs node inode top few tree c.middle s1 c.here n number n_few l0 q' p.steps_are holder holder_is c.there none y value t (Some y)
                      edit;
                  ran = r.3;
                  was = ap (λ f. f n) (sym c.files)
                      ∙ numbered_was T fs node inode top few tree c.middle s1 c.here n number n_few l0 q' p.steps_are holder holder_is c.there none y value t (Some y) edit;
                  files = numbered_files T fs node inode top few tree c.middle s1 c.here n number n_few l0 q' p.steps_are holder holder_is c.there none y value t
                      (Some y) edit ∙ ap (λ f. with_inode f n (Some value)) c.files;
                  keeps = λ x is apart ne.
                      numbered_keeps T fs node inode top few tree c.middle s1 c.here n number n_few l0 q' p.steps_are holder holder_is c.there none y value t (Some y)
                      edit x (c.keeps x is apart) ne;
                  inodes = inodes_then (readable old fs) (readable c.middle fs) (readable s1 fs) top (c.inodes refl)
                      (numbered_inodes T fs node inode top few tree c.middle s1 c.here n number n_few l0 q' p.steps_are holder holder_is c.there none y value t (Some y)
                      edit);
                }
          ]

      pub tabled_so : Ran T fs (acts_by nodes_of (slice_index path (missing - 1))) old new (Ok tt) → IsTabled xs y rest new
      tabled_so ran =
          let found = path_to (readable old fs) (readable plan fs) top here.volume.root ways (n - 1) n_few free in
          let l0 = found.0 in
          let nodes = found.2 in
          let p = found.3 in
          let count : missing - 1 ≡ length nodes = (let e = p.long in omega arith) in
          let nodes_are : nodes_of ≡ nodes = (λ j. take (count j) (p.path j)) ∙ take_at nodes (l0 ∷ []) (length nodes) refl in
          let last_is : slice_index path (missing - 1) ≡ l0 = (λ j. slice_index (p.path j) (count j)) ∙ get_or_at nodes l0 [] 0 (length nodes) refl in
          tabled_by l0 found.1 nodes p (subst (λ os. AreOf T fs node inode top few tree (node_starts node inode os) xs) nodes_are of)
          (subst (λ acts. Ran T fs acts old new (Ok tt)) (λ j. acts_by (nodes_are j) (last_is j)) ran)

  -- A leaf of an inode, which is no inode of the table

  module _ (old plan : StoreState) (here : IsHere old) (d c : ℕ) (d_some : d ≢ 0) (c_some : c ≢ 0) (block : block_numbered (readable old fs) top d ≡ c)
      (ways : (l : ℕ) (os : List ℕ) → IsWay os l → block_at (readable old fs) c os ≡ block_at (readable plan fs) c os)
      (leaf : ℕ) (leaf_few : leaf < leaf_count) (free : leaf_block (readable plan fs) c leaf ≡ 0) where
    abbrev None' : ℕ → Type 0
    None' o = ⊥

    pub none_stands : (o : ℕ) → None' o → (4 ≤ o) × (o + 4 ≤ 512) × (o % 4 ≡ 0)
    none_stands o none = absurd none

    abbrev leaf_missing : ℕ
    leaf_missing = (reach (readable plan fs) c (steps leaf)).missing

    abbrev leaf_owner : ℕ
    leaf_owner = (reach (readable plan fs) c (steps leaf)).block

    leaf_chain : (q os : List ℕ) → IsWay (onto q os) 0 → IsChain T fs node inode top few tree d None' none_stands q (path_links node os)
    leaf_chain q [] way = tt
    leaf_chain q (o ∷ []) way = (0, way, (λ j e. absurd (omega (arith, e))), (λ e. (d_some, refl, refl)), tt)
    leaf_chain q (o ∷ p ∷ os) way =
        let first = way_first o 0 q (p ∷ os) way in
        let height : first.0 ≡ 0 + length (p ∷ os) = first.2 in
        (first.0, first.1, (λ j e. refl), (λ e. absurd (omega (arith, e))), leaf_chain (o ∷ q) (p ∷ os) way)

    pub record IsLeafed (xs : List New) (rest : List Act) (new : StoreState) : Type 0 where
      pub middle : StoreState
      pub leafed : IsHere middle
      pub ran : Ran T fs rest middle new (Ok tt)
      pub files : files_of (readable middle fs) top ≡ files_of (readable old fs) top
      pub names : KeepsNames (readable old fs) (readable middle fs) top d
      pub all_names : (n : ℕ) → n ≢ 0 → block_numbered (readable old fs) top n ≢ 0 → KeepsNames (readable old fs) (readable middle fs) top n
      pub last : last_or_owner leaf_owner (blocks_in xs) ≡ leaf_block (readable middle fs) c leaf
      pub there : last_or_owner leaf_owner (blocks_in xs) ≢ 0
      pub last_is : slice_index (blocks_in xs) (length (blocks_in xs) - 1) ≡ last_or_owner leaf_owner (blocks_in xs)
      pub zeros_are : readable middle fs (last_or_owner leaf_owner (blocks_in xs)) ≡ zeros 512

    module _ (xs : List New) (of : AreOf T fs node inode top few tree (path_starts node (missing_path leaf leaf_missing)) xs)
        (news : AreNew node inode (kinds old fs) (readable old fs) top xs) (rest : List Act) (new : StoreState) where
      last_zeros : (os : List ℕ) (l0 : ℕ) (xs : List New) (bytes : List ℕ) → AreOf T fs node inode top few tree (chain_starts (path_links node (os ++ l0 ∷ []))) xs →
          last_bytes bytes xs ≡ zeros 512
      last_zeros [] l0 [] bytes of = absurd of
      last_zeros [] l0 (x ∷ []) bytes of = of.1
      last_zeros [] l0 (x ∷ z ∷ xs) bytes of = absurd of.2
      last_zeros (o ∷ os) l0 [] bytes of = absurd of
      last_zeros (o ∷ os) l0 (x ∷ xs) bytes of = last_zeros os l0 xs x.bytes of.2

      -- the last of some blocks
      last_of : (owner b : ℕ) (bs : List ℕ) → slice_index (b ∷ bs) (length (b ∷ bs) - 1) ≡ last_or_owner owner (b ∷ bs)
      last_of owner b [] = refl
      last_of owner b (b' ∷ bs) =
          let back : length (b ∷ b' ∷ bs) - 1 ≡ suc (length (b' ∷ bs) - 1) = omega arith in
          ap (slice_index (b ∷ b' ∷ bs)) back ∙ last_of b b' bs

      last_block_is : (os : List ℕ) (l0 : ℕ) (xs : List New) (owner : ℕ) → AreOf T fs node inode top few tree (chain_starts (path_links node (os ++ l0 ∷ []))) xs →
          slice_index (blocks_in xs) (length (blocks_in xs) - 1) ≡ last_or_owner owner (blocks_in xs)
      last_block_is os l0 (x ∷ xs) holder of = last_of holder x.block (blocks_in xs)
      last_block_is [] l0 [] _ of = absurd of
      last_block_is (o ∷ os) l0 [] _ of = absurd of

      leafed_by : (l0 : ℕ) (q nodes : List ℕ) → IsPathTo (readable old fs) (readable plan fs) c c_some ways leaf leaf_few free l0 q nodes →
          AreOf T fs node inode top few tree (path_starts node (nodes ++ l0 ∷ [])) xs →
          Ran T fs (path_acts node leaf_owner (nodes ++ l0 ∷ []) (blocks_in xs) ++ rest) old new (Ok tt) → IsLeafed xs rest new
      leafed_by l0 q nodes p of' ran =
          let all = nodes ++ l0 ∷ [] in
          let onto_all : onto q all ≡ steps leaf = onto_last q nodes l0 ∙ sym p.steps_are in
          let links = path_links node all in
          let of_links = subst (λ starts. AreOf T fs node inode top few tree starts xs) (path_starts_are node all) of' in
          let ch = chained T fs node inode top few tree d None' none_stands links xs q leaf_owner rest old new here
          (p.holder ∙ ap (λ b. block_at (readable old fs) b q) (sym block)) p.there
          (leaf_chain q all (subst (λ os. IsWay os 0) (sym onto_all) (steps_way leaf))) of_links news
          (λ o next. first_zero q nodes l0 p o next)
          (subst (λ acts. Ran T fs (acts ++ rest) old new (Ok tt)) (path_acts_are node leaf_owner all (blocks_in xs)) ran) in
          let names = ch.names d d_some (λ z. c_some (sym block ∙ z)) in
          record {
            middle = ch.middle;
            leafed = ch.here;
            ran = ch.ran;
            files = ch.files;
            names = names;
            all_names = ch.names;
            last = ch.last ∙ ((λ j. block_at (readable ch.middle fs) ((names.block ∙ block) j) (reached q links))
                ∙ ap (block_at (readable ch.middle fs) c) (path_reached node q all ∙ onto_all));
            there = ch.there;
            last_is = last_block_is nodes l0 xs leaf_owner of_links;
            zeros_are = ch.said ∙ last_zeros nodes l0 xs (readable old fs leaf_owner) of_links;
          }
        where
          onto_last : (q nodes : List ℕ) (l0 : ℕ) → onto q (nodes ++ l0 ∷ []) ≡ l0 ∷ onto q nodes
          onto_last q [] l0 = refl
          onto_last q (o ∷ nodes) l0 = onto_last (o ∷ q) nodes l0

          first_zero : (q nodes : List ℕ) (l0 : ℕ) → IsPathTo (readable old fs) (readable plan fs) c c_some ways leaf leaf_few free l0 q nodes → (o : ℕ) →
              IsNext T fs node inode top few tree d None' none_stands (path_links node (nodes ++ l0 ∷ [])) o → pointed (readable old fs) leaf_owner o ≡ 0
          first_zero q [] l0 p o next = ap (pointed (readable old fs) leaf_owner) next ∙ p.first_zero refl
          first_zero q (x ∷ nodes) l0 p o next = ap (pointed (readable old fs) leaf_owner) next ∙ p.next_zero x nodes refl

      pub leafed_so : Ran T fs (path_acts node leaf_owner (missing_path leaf leaf_missing) (blocks_in xs) ++ rest) old new (Ok tt) → IsLeafed xs rest new
      leafed_so ran =
          let found = path_to (readable old fs) (readable plan fs) c c_some ways leaf leaf_few free in
          let p = found.3 in
          leafed_by found.0 found.1 found.2 p (subst (λ os. AreOf T fs node inode top few tree (path_starts node os) xs) p.path of)
          (subst (λ os. Ran T fs (path_acts node leaf_owner os (blocks_in xs) ++ rest) old new (Ok tt)) p.path ran)
