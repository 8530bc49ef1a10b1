-- New blocks are attached one below the other: nodes of the table or of an inode, and a leaf of zeros.
use mathlib.Core.Path.{fun_ext}
use Rattle.std.proofs.Common.{◌≡◌, ◌≢◌, ℕ, suc, ◌+◌, ◌*◌, ◌%◌, ◌<◌, ◌≤◌, true, List, [], ◌∷◌, ◌++◌, length, None, Some, Ok, refl, sym, ◌∙◌, ap, inl, inr, arith, subst, if◌then◌else◌}
use Rattle.std.specs.Prelude.{⊤, All, IsTrue, map, slice_index}
use Rattle.std.proofs.lemmas.Bool.{cases_eq, eq-eqb, ne_eqb}
use Rattle.std.proofs.lemmas.List.Elements.{All-head, All-tail}
use Rattle.xn_model.specs.Types.{Types}
use Rattle.xn_model.specs.Lives.{StoreState}
use Rattle.xn_model.specs.Calls.{patched, root_of}
use Rattle.xn_model.specs.Root.{word_at}
use Rattle.treefs_format.specs.Buckets.{is_whole}
use Rattle.treefs_format.specs.Nodes.{node_bytes}
use Rattle.treefs_format.specs.Records.{entries_of}
use Rattle.treefs_format.specs.Templates.{IsTree}
use Rattle.treefs_format.proofs.ForCallers.{node_children, node_long}
use Rattle.treefs_model.specs.Acts.{Act, Ran, attach_act, one_patch, wait_act}
use Rattle.treefs_model.specs.Reading.{block_at, files_of, pointed}
use Rattle.treefs_model.specs.Trees.{has_pointer}
use Rattle.treefs_lookup.specs.Readable.{readable}
use Rattle.treefs_edits.specs.Missing.{last_or_owner}
use Rattle.treefs_edits.specs.Written.{written}
use Rattle.treefs_edits.specs.declared.start.Start.{Start}
use Rattle.treefs_values.specs.Attached.{IsPointerSet}
use Rattle.treefs_values.specs.Kinds.{kinds}
use Rattle.treefs_values.specs.Volumes.{IsVolume, IsWholeBlock}
use Rattle.treefs_values.specs.Ways.{ArePointersApart, IsWay, block_numbered}
use Rattle.treefs_values.proofs.EmptyBlocks.{empty_files, empty_names, empty_there, empty_volume, table_inodes}
use Rattle.treefs_values.proofs.NewInodes.{bare_node}
use Rattle.treefs_values.proofs.Pending.{AreNew, IsNew, IsOther, IsUnled, New, at_other, new_attached, new_kept, unled_attached, way_pointer}
use Rattle.treefs_values.proofs.PointerSet.{holder_whole, pointer_set}
use Rattle.treefs_values.proofs.Standing.{KeepsInodes, KeepsNames, inodes_stay, inodes_then, names_stay, names_then}
use Rattle.treefs_values.proofs.Walks.{AreOf, IsAt, IsEdit, edit_is, still_apart}
use Rattle.treefs_values.proofs.Zeros.{zeros_are_nothing}

-- Waits write nothing

same_put : (m : List ℕ) → 0 < length m → patched m (one_patch 0 (slice_index m 0 ∷ [])) ≡ m
same_put [] some = absurd (omega arith)
same_put (b ∷ m) some = refl

pub wait_writes : (content : ℕ → List ℕ) (block first other : ℕ) → first ≡ slice_index (content block) 0 → 0 < length (content block) →
    written (wait_act block (first ∷ []) other) content ≡ content
wait_writes content block first other is_first some = fun_ext (λ b. elim (cases_eq b block) [
  | inl same ↦
      ap (λ t. if t then patched (content b) (one_patch 0 (first ∷ [])) else content b) (eq-eqb b block same)
      ∙ (ap (λ k. patched (content k) (one_patch 0 (first ∷ []))) same
      ∙ (ap (λ k. patched (content block) (one_patch 0 (k ∷ []))) is_first ∙ (same_put (content block) some ∙ ap content (sym same))))
  | inr ne ↦ ap (λ t. if t then patched (content b) (one_patch 0 (first ∷ [])) else content b) (ne_eqb b block ne)
])

-- Where pointers of ways stand
pub way_stands : (o l : ℕ) (q : List ℕ) → IsWay (o ∷ q) l → (4 ≤ o) × (o + 4 ≤ 512) × (o % 4 ≡ 0)
way_stands o l [] (inl own) = let lt : own.0 < 16 = own.1 in let e : o ≡ 48 + 4 * own.0 = own.2 in (omega arith, omega arith, omega arith)
way_stands o l [] (inr tree) = let low = tree.0 in let high = tree.1 in let e : o ≡ 108 + 4 * l = tree.2 in (omega arith, omega arith, omega arith)
way_stands o l (p ∷ q) way = let lt : way.0 < 127 = way.1 in let e : o ≡ 4 + 4 * way.0 = way.2 in (omega arith, omega arith, omega arith)

-- A pointer that is missing, the type of the block to which it is to lead, and the byte with which that begins

pub record Link : Type 0 where
  pub offset : ℕ
  pub ty : ℕ
  pub first : ℕ

abbrev pub chain_starts : List Link → List Start
chain_starts [] = []
chain_starts (k ∷ ks) = record { ty = k.ty; bytes = node_bytes k.first } ∷ chain_starts ks

abbrev pub chain_acts : ℕ → List Link → List ℕ → List Act
chain_acts owner [] begun = []
chain_acts owner (k ∷ ks) [] = []
chain_acts owner (k ∷ ks) (block ∷ begun) =
    attach_act owner k.offset k.ty (block ∷ []) None ∷ wait_act block (k.first ∷ []) owner ∷ chain_acts block ks begun

-- the way to its last block
abbrev pub reached : List ℕ → List Link → List ℕ
reached q [] = q
reached q (k ∷ ks) = reached (k.offset ∷ q) ks

abbrev pub blocks_in : List New → List ℕ
blocks_in xs = map (λ (x : New). x.block) xs

-- the bytes of the last of some blocks, or else of the one that owns them
abbrev pub last_bytes : List ℕ → List New → List ℕ
last_bytes bytes [] = bytes
last_bytes bytes (x ∷ xs) = last_bytes x.bytes xs

module _ (T : Types) (fs node inode top : ℕ) (few : fs < 32) (tree : IsTree T node inode) (m : ℕ) (More : ℕ → Type 0)
    (more_stands : (o : ℕ) → More o → (4 ≤ o) × (o + 4 ≤ 512) × (o % 4 ≡ 0)) where
  abbrev IsHere : StoreState → Type 0
  IsHere s = IsAt T fs node inode top s

  abbrev at : StoreState → List ℕ → ℕ
  at s q = block_at (readable s fs) (block_numbered (readable s fs) top m) q

  -- from the end of a way
  abbrev pub IsChain : List ℕ → List Link → Type 0
  IsChain q [] = ⊤
  IsChain q (k ∷ ks) = (l : ℕ) × IsWay (k.offset ∷ q) l × ((j : ℕ) → l ≡ suc j → k.ty ≡ node) × (l ≡ 0 → (m ≢ 0) × (k.ty ≡ 2) × (k.first ≡ 0))
      × IsChain (k.offset ∷ q) ks

  -- the next pointer, of the chain or behind it
  abbrev pub IsNext : List Link → ℕ → Type 0
  IsNext [] o = More o
  IsNext (k ∷ ks) o = o ≡ k.offset

  next_stands : (q : List ℕ) (ks : List Link) → IsChain q ks → (o : ℕ) → IsNext ks o → (4 ≤ o) × (o + 4 ≤ 512) × (o % 4 ≡ 0)
  next_stands q [] chain o next = more_stands o next
  next_stands q (k ∷ ks) chain o next = subst (λ x. (4 ≤ x) × (x + 4 ≤ 512) × (x % 4 ≡ 0)) (sym next) (way_stands k.offset chain.0 q chain.1)

  pub record IsChained (q : List ℕ) (holder : ℕ) (ks : List Link) (xs : List New) (rest : List Act) (old new : StoreState) : Type 0 where
    pub middle : StoreState
    pub here : IsHere middle
    pub ran : Ran T fs rest middle new (Ok tt)
    pub files : files_of (readable middle fs) top ≡ files_of (readable old fs) top
    pub keeps : (x : New) → IsNew node inode (kinds old fs) (readable old fs) top x → All (λ y. IsOther y x) xs →
        IsNew node inode (kinds middle fs) (readable middle fs) top x
    pub names : (n : ℕ) → n ≢ 0 → block_numbered (readable old fs) top n ≢ 0 → KeepsNames (readable old fs) (readable middle fs) top n
    pub inodes : m ≡ 0 → KeepsInodes (readable old fs) (readable middle fs) top
    pub last : last_or_owner holder (blocks_in xs) ≡ at middle (reached q ks)
    pub there : last_or_owner holder (blocks_in xs) ≢ 0
    pub zero : (o : ℕ) → More o → pointed (readable middle fs) (last_or_owner holder (blocks_in xs)) o ≡ 0
    pub said : readable middle fs (last_or_owner holder (blocks_in xs)) ≡ last_bytes (readable old fs holder) xs
    pub types : kinds middle fs ≡ kinds old fs
    pub others : (b : ℕ) → b ≢ holder → All (λ (x : New). x.block ≢ b) xs → readable middle fs b ≡ readable old fs b
    pub unled : (b : ℕ) → All (λ (x : New). x.block ≢ b) xs → IsUnled node inode (kinds old fs) (readable old fs) b →
        IsUnled node inode (kinds middle fs) (readable middle fs) b

  -- one of them
  module _ (q : List ℕ) (holder : ℕ) (k : Link) (x : New) (old s1 s2 : StoreState) (here : IsHere old) (holder_is : holder ≡ at old q) (some : holder ≢ 0)
      (l : ℕ) (way : IsWay (k.offset ∷ q) l) (is_node : (j : ℕ) → l ≡ suc j → k.ty ≡ node) (is_leaf : l ≡ 0 → (m ≢ 0) × (k.ty ≡ 2) × (k.first ≡ 0))
      (of_type : x.ty ≡ k.ty) (of_bytes : x.bytes ≡ node_bytes k.first) (new : IsNew node inode (kinds old fs) (readable old fs) top x)
      (none : pointed (readable old fs) holder k.offset ≡ 0)
      (first : IsEdit T fs (attach_act holder k.offset k.ty (x.block ∷ []) None) old s1)
      (second : IsEdit T fs (wait_act x.block (k.first ∷ []) holder) s1 s2) where
    v : IsVolume node inode (kinds old fs) (readable old fs) top
    v = here.volume

    at_some : at old q ≢ 0
    at_some z = some (holder_is ∙ z)

    has : IsTrue (has_pointer node inode (kinds old fs holder) k.offset)
    has = subst (λ b. IsTrue (has_pointer node inode (kinds old fs b) k.offset)) (sym holder_is) (way_pointer node inode top (kinds old fs) (readable old fs) v m l k.offset q way at_some)

    other : x.block ≢ holder
    other same = at_other node inode top (kinds old fs) (readable old fs) v x new m l k.offset q way at_some (sym (same ∙ holder_is))

    typed_holder : kinds old fs holder ≢ 0
    typed_holder z = by q way holder_is at_some
      where
        by : (q : List ℕ) → IsWay (k.offset ∷ q) l → holder ≡ at old q → at old q ≢ 0 → ⊥
        by [] way is there = v.some_types.1 (sym (v.typed.inodes m there) ∙ (ap (kinds old fs) (sym is) ∙ z))
        by (p ∷ q) way is there = v.some_types.0 (sym (v.typed.nodes m l (p ∷ q) way.3 there) ∙ (ap (kinds old fs) (sym is) ∙ z))

    whole : IsWholeBlock (readable old fs holder)
    whole = v.blocks holder typed_holder

    set' : IsPointerSet node inode (kinds old fs) (readable old fs) (readable s1 fs) holder k.offset x.block
    set' = subst (λ c. IsPointerSet node inode (kinds old fs) (readable old fs) c holder k.offset x.block) (sym first.reads)
        (pointer_set node inode (kinds old fs) (readable old fs) holder k.offset k.ty x.block None v.types.0 some whole has none new.within)

    set : IsPointerSet node inode (kinds old fs) (readable old fs) (readable s1 fs) (at old q) k.offset x.block
    set = subst (λ b. IsPointerSet node inode (kinds old fs) (readable old fs) (readable s1 fs) b k.offset x.block) holder_is set'

    holder_fine : IsWholeBlock (readable s1 fs (at old q))
    holder_fine = subst (λ b. IsWholeBlock (readable s1 fs b)) holder_is (subst (λ c. IsWholeBlock (c holder)) (sym first.reads)
        (holder_whole node inode (kinds old fs) (readable old fs) holder k.offset k.ty x.block None v.types.0 some whole has none new.within))

    first_root : root_of s1 fs ≡ Some top
    first_root = first.root ∙ here.root

    apart : ArePointersApart node inode (kinds old fs) (readable s1 fs) top
    apart = subst (λ t. ArePointersApart node inode t (readable s1 fs) top) first.types (still_apart T fs node inode top few tree old here s1 first.store first_root)

    below : (j : ℕ) → l ≡ suc j → kinds old fs x.block ≡ node
    below j h = new.typed ∙ (of_type ∙ is_node j h)

    leaf : l ≡ 0 → (m ≢ 0) × (kinds old fs x.block ≡ 2)
    leaf h = let p = is_leaf h in (p.0, new.typed ∙ (of_type ∙ p.1))

    bare : (o : ℕ) → IsTrue (has_pointer node inode (kinds old fs x.block) o) → word_at (readable old fs x.block) o ≡ 0
    bare o is = ap (λ b. word_at b o) new.bytes ∙ new.bare o (sym (ap (λ t. has_pointer node inode t o) new.typed) ∙ is)

    nothing : l ≡ 0 → ((i : ℕ) → slice_index (readable old fs x.block) i ≡ 0) × ((entries_of (readable old fs x.block) ≡ []) × (is_whole (readable old fs x.block) ≡ true))
    nothing h = zeros_are_nothing (readable old fs x.block) (new.bytes ∙ (of_bytes ∙ ap node_bytes (is_leaf h).2))

    not_at : x.block ≢ at old q
    not_at same = other (same ∙ sym holder_is)

    -- the bytes of the new block
    said_first : readable s1 fs x.block ≡ node_bytes k.first
    said_first = set.changed x.block not_at ∙ (new.bytes ∙ of_bytes)

    waited : readable s2 fs ≡ readable s1 fs
    waited = second.reads ∙ wait_writes (readable s1 fs) x.block k.first holder (sym (ap (λ b. slice_index b 0) said_first))
        (subst (λ b. 0 < length b) (sym said_first) (let long = node_long k.first in omega arith))

    pub one_said : readable s2 fs x.block ≡ node_bytes k.first
    one_said = ap (λ c. c x.block) waited ∙ said_first

    pub one_here : IsHere s2
    one_here = record {
      store = second.store;
      root = second.root ∙ first_root;
      volume = subst (λ t. IsVolume node inode t (readable s2 fs) top) (sym (second.types ∙ first.types))
          (subst (λ c. IsVolume node inode (kinds old fs) c top) (sym waited)
          (empty_volume node inode top (kinds old fs) (readable old fs) (readable s1 fs) v m l k.offset q way at_some x.block set new.there not_at below leaf bare nothing apart
          holder_fine));
    }

    pub one_files : files_of (readable s2 fs) top ≡ files_of (readable old fs) top
    one_files =
        ap (λ c. files_of c top) waited
        ∙ empty_files node inode top (kinds old fs) (readable old fs) (readable s1 fs) v m l k.offset q way at_some x.block set new.there not_at below leaf bare nothing

    pub one_names : (n : ℕ) → n ≢ 0 → block_numbered (readable old fs) top n ≢ 0 → KeepsNames (readable old fs) (readable s2 fs) top n
    one_names n n_some there = subst (λ c. KeepsNames (readable old fs) c top n) (sym waited)
        (empty_names node inode top (kinds old fs) (readable old fs) (readable s1 fs) v m l k.offset q way at_some x.block set new.there not_at below leaf bare nothing n n_some there)

    pub one_inodes : m ≡ 0 → KeepsInodes (readable old fs) (readable s2 fs) top
    one_inodes table = subst (λ c. KeepsInodes (readable old fs) c top) (sym waited)
        (table_inodes node inode top (kinds old fs) (readable old fs) (readable s1 fs) v m l k.offset q way at_some x.block set new.there not_at below leaf bare nothing table)

    pub one_there : x.block ≡ at s2 (k.offset ∷ q)
    one_there =
        sym (empty_there node inode top (kinds old fs) (readable old fs) (readable s1 fs) v m l k.offset q way at_some x.block set new.there not_at below leaf bare nothing)
        ∙ sym (ap (λ c. block_at c (block_numbered c top m) (k.offset ∷ q)) waited)

    pub one_keeps : (y : New) → IsNew node inode (kinds old fs) (readable old fs) top y → IsOther x y → IsNew node inode (kinds s2 fs) (readable s2 fs) top y
    one_keeps y is ne =
        subst (λ t. IsNew node inode t (readable s2 fs) top y) (sym (second.types ∙ first.types))
        (subst (λ c. IsNew node inode (kinds old fs) c top y) (sym waited)
        (new_attached node inode top (kinds old fs) (readable old fs) (readable s1 fs) y is (at old q) k.offset x.block set
        (λ same. at_other node inode top (kinds old fs) (readable old fs) v y is m l k.offset q way at_some (sym same)) ne))

    one_types : kinds s2 fs ≡ kinds old fs
    one_types = second.types ∙ first.types

    one_others : (b : ℕ) → b ≢ holder → readable s2 fs b ≡ readable old fs b
    one_others b ne = ap (λ c. c b) waited ∙ set'.changed b ne

    one_unled : (b : ℕ) → x.block ≢ b → IsUnled node inode (kinds old fs) (readable old fs) b → IsUnled node inode (kinds s2 fs) (readable s2 fs) b
    one_unled b other_b unled =
        subst (λ t. IsUnled node inode t (readable s2 fs) b) (sym one_types)
        (subst (λ c. IsUnled node inode (kinds old fs) c b) (sym waited)
        (unled_attached node inode (kinds old fs) (readable old fs) (readable s1 fs) holder k.offset x.block set' b other_b unled))

  pub chained : (ks : List Link) (xs : List New) (q : List ℕ) (holder : ℕ) (rest : List Act) (old new : StoreState) → IsHere old → holder ≡ at old q → holder ≢ 0 →
      IsChain q ks → AreOf T fs node inode top few tree (chain_starts ks) xs → AreNew node inode (kinds old fs) (readable old fs) top xs →
      ((o : ℕ) → IsNext ks o → pointed (readable old fs) holder o ≡ 0) →
      Ran T fs (chain_acts holder ks (blocks_in xs) ++ rest) old new (Ok tt) → IsChained q holder ks xs rest old new
  chained [] [] q holder rest old new here holder_is some chain of news none_next ran = record {
    middle = old;
    here = here;
    ran = ran;
    files = refl;
    keeps = λ x is others. is;
    names = λ n n_some there. names_stay (readable old fs) top n;
    inodes = λ table. inodes_stay (readable old fs) top;
    last = holder_is;
    there = some;
    zero = none_next;
    said = refl;
    types = refl;
    others = λ b ne apart_b. refl;
    unled = λ b apart_b is. is;
  }
  chained [] (x ∷ xs) q holder rest old new here holder_is some chain of news none_next ran = absurd of
  chained (k ∷ ks) [] q holder rest old new here holder_is some chain of news none_next ran = absurd of
  chained (k ∷ ks) (x ∷ xs) q holder rest old new here holder_is some chain of news none_next ran = elim ran [
    | inl none ↦ absurd none
    | inr a ↦ elim a.3 [
      | inl none ↦ absurd none
      | inr b ↦
          let s1 = a.1 in
          let s2 = b.1 in
          let first = edit_is T fs (attach_act holder k.offset k.ty (x.block ∷ []) None) old s1 a.0 here.store refl a.2 in
          let second = edit_is T fs (wait_act x.block (k.first ∷ []) holder) s1 s2 b.0 first.store refl b.2 in
          let l = chain.0 in
          let none = none_next k.offset refl in
          let said = one_said q holder k x old s1 s2 here holder_is some l chain.1 chain.2 chain.3 of.0 of.1 news.0 none first second in
          let keep = one_keeps q holder k x old s1 s2 here holder_is some l chain.1 chain.2 chain.3 of.0 of.1 news.0 none first second in
          let names = one_names q holder k x old s1 s2 here holder_is some l chain.1 chain.2 chain.3 of.0 of.1 news.0 none first second in
          let inodes = one_inodes q holder k x old s1 s2 here holder_is some l chain.1 chain.2 chain.3 of.0 of.1 news.0 none first second in
          let later = chained ks xs (k.offset ∷ q) x.block rest s2 new
          (one_here q holder k x old s1 s2 here holder_is some l chain.1 chain.2 chain.3 of.0 of.1 news.0 none first second)
          (one_there q holder k x old s1 s2 here holder_is some l chain.1 chain.2 chain.3 of.0 of.1 news.0 none first second)
          news.0.there chain.4 of.2
          (new_kept node inode top (kinds old fs) (kinds s2 fs) (readable old fs) (readable s2 fs) (IsOther x) xs news.1 (λ y ne is. keep y is ne) news.2)
          (λ o next. let stands = next_stands (k.offset ∷ q) ks chain.4 o next in
          ap (λ t. if t then 0 else word_at (readable s2 fs x.block) o) (ne_eqb x.block 0 news.0.there)
          ∙ (ap (λ b. word_at b o) said ∙ bare_node (node_bytes k.first) (node_children k.first) o stands.0 stands.1 stands.2))
          b.3 in
          record {
            middle = later.middle;
            here = later.here;
            ran = later.ran;
            files = later.files ∙ one_files q holder k x old s1 s2 here holder_is some l chain.1 chain.2 chain.3 of.0 of.1 news.0 none first second;
            keeps = λ y is others. later.keeps y (keep y is (All-head (λ z. IsOther z y) x xs others)) (All-tail (λ z. IsOther z y) x xs others);
            names = λ n n_some there.
                let one = names n n_some there in
                names_then (readable old fs) (readable s2 fs) (readable later.middle fs) top n one (later.names n n_some (λ z. there (sym one.block ∙ z)));
            inodes = λ table. inodes_then (readable old fs) (readable s2 fs) (readable later.middle fs) top (inodes table) (later.inodes table);
            last = later.last;
            there = later.there;
            zero = later.zero;
            said = later.said ∙ ap (λ b. last_bytes b xs) (said ∙ sym of.1);
            types = later.types
                ∙ one_types q holder k x old s1 s2 here holder_is some l chain.1 chain.2 chain.3 of.0 of.1 news.0 none first second;
            others = λ b ne apart_b.
                later.others b (λ same. All-head (λ (y : New). y.block ≢ b) x xs apart_b (sym same)) (All-tail (λ (y : New). y.block ≢ b) x xs apart_b)
                ∙ one_others q holder k x old s1 s2 here holder_is some l chain.1 chain.2 chain.3 of.0 of.1 news.0 none first second b ne;
            unled = λ b apart_b is.
                later.unled b (All-tail (λ (y : New). y.block ≢ b) x xs apart_b)
                (one_unled q holder k x old s1 s2 here holder_is some l chain.1 chain.2 chain.3 of.0 of.1 news.0 none first second b
                (All-head (λ (y : New). y.block ≢ b) x xs apart_b) is);
          }
    ]
  ]
