-- A block to which nothing points is read no more: the files are as before.
use mathlib.Core.Path.{fun_ext}
use Rattle.std.proofs.Common.{◌≡◌, ◌≢◌, ℕ, zero, suc, ◌-◌, ◌<◌, Bool, true, false, ◌||◌, List, [], ◌∷◌, length, None, Some, Ok, refl, sym, ◌∙◌, ap, inl, inr}
use Rattle.std.proofs.Common.{subst, arith, if◌then◌else◌}
use Rattle.std.specs.Prelude.{IsTrue, nat_lt, slice_set, ◌==◌}
use Rattle.std.proofs.lemmas.Bool.{cases_eq}
use Rattle.xn_model.specs.Calls.{forget_at, forget_of, forget_refusal, life_bytes}
use Rattle.xn_model.specs.Lives.{Life, Lives, StoreState, life_at}
use Rattle.xn_model.specs.Root.{slot, word_at}
use Rattle.xn_model.specs.Types.{Types}
use Rattle.xn_model.proofs.ForCallers.{forget_keeps, given_ok, own_then, same_ok, set_other, set_same}
use Rattle.treefs_format.specs.Fields.{fields_of}
use Rattle.treefs_format.specs.Inodes.{content_of, kind_of}
use Rattle.treefs_format.specs.Paths.{leaf_count, steps}
use Rattle.treefs_format.specs.Roots.{key_of}
use Rattle.treefs_format.specs.declared.kind.Kind.TheVariants as kind
use Rattle.treefs_lookup.specs.Readable.{readable}
use Rattle.treefs_model.specs.Edited.{type_in}
use Rattle.treefs_model.specs.Reading.{block_at, files_of, inode_block, inode_of, key_in, leaf_block, pointed}
use Rattle.treefs_model.specs.Trees.{has_pointer}
use Rattle.treefs_values.specs.Kinds.{kinds}
use Rattle.treefs_values.specs.Volumes.{IsDirectory, IsVolume, IsWholeBlock}
use Rattle.treefs_values.specs.Ways.{ArePointersApart, IsTyped, IsWay, block_numbered}
use Rattle.treefs_values.proofs.ForCallers.{IsAlike, IsAt, bucket_same, file_read, inode_numbered, kinds_are, may_read, readable_is}
use Rattle.treefs_laws.proofs.PointersGone.{IsUnled}
use Rattle.treefs_laws.proofs.SameValues.{fewer_buckets, inode_alike}
use Rattle.treefs_laws.proofs.WaysApart.{IsInodeBlock, file_none, none_below, numbered_block, numbered_leaf, of_types, steps_way, way_pointer}

module _ (node inode top : ℕ) (type type' : ℕ → ℕ) (old new : ℕ → List ℕ) (v : IsVolume node inode type old top) (c : ℕ) (some : c ≢ 0) (no_root : c ≢ top)
    (unled : IsUnled node inode type old c) (unread : type' c ≡ 0) (others : (b : ℕ) → b ≢ c → (type' b ≡ type b) × (new b ≡ old b)) where
  abbrev block : ℕ → ℕ
  block m = block_numbered old top m

  is_block : (m : ℕ) → block m ≢ 0 → IsInodeBlock node inode type old (block m)
  is_block = numbered_block node inode top type old v

  -- no way leads to it
  way_other : (a : ℕ) → (a ≢ 0 → IsInodeBlock node inode type old a) → (k : ℕ) (os : List ℕ) → IsWay os k → block_at old a os ≢ c
  way_other a is k [] way same = absurd way
  way_other a is k (o ∷ os) way same = elim (cases_eq (block_at old a os) 0) [
    | inl z ↦ some (sym same ∙ ap (λ b. pointed old b o) z)
    | inr there ↦ unled (block_at old a os) o (way_pointer node inode top type old v a (is (a_there os way there)) k o os way there) same
  ]
    where
      a_there : (os : List ℕ) → IsWay (o ∷ os) k → block_at old a os ≢ 0 → a ≢ 0
      a_there [] way there z = there z
      a_there (p ∷ os) way there z = there (none_below old a (suc k) (p ∷ os) z way.3)

  block_other : (m : ℕ) → block m ≢ c
  block_other m same = elim (cases_eq m 0) [
    | inl z ↦ no_root (sym same ∙ ap block z)
    | inr m_some ↦
        let leaf = (numbered_leaf node inode top type old v m m_some (λ z. some (sym same ∙ z))).leaf in
        way_other top (λ there. is_block 0 v.root) 0 (steps (m - 1)) (steps_way (m - 1)) (sym leaf ∙ same)
  ]

  pointed_same : (b o : ℕ) → b ≢ c → pointed new b o ≡ pointed old b o
  pointed_same b o ne = ap (λ m. if b == 0 then 0 else word_at m o) (others b ne).1

  way_same : (a : ℕ) → a ≢ c → (a ≢ 0 → IsInodeBlock node inode type old a) → (k : ℕ) (os : List ℕ) → IsWay os k → block_at new a os ≡ block_at old a os
  way_same a ne is k [] way = absurd way
  way_same a ne is k (o ∷ []) way = pointed_same a o ne
  way_same a ne is k (o ∷ p ∷ os) way =
      ap (λ b. pointed new b o) (way_same a ne is (suc k) (p ∷ os) way.3) ∙ pointed_same (block_at old a (p ∷ os)) o (way_other a is (suc k) (p ∷ os) way.3)

  from_block : (m k : ℕ) (os : List ℕ) → IsWay os k → block_at new (block m) os ≡ block_at old (block m) os
  from_block m = way_same (block m) (block_other m) (is_block m)

  inode_same : (m : ℕ) → inode_block new top m ≡ inode_block old top m
  inode_same m = by ((m == 0) || nat_lt leaf_count m) refl
    where
      by : (t : Bool) → ((m == 0) || nat_lt leaf_count m) ≡ t → inode_block new top m ≡ inode_block old top m
      by true e = ap (λ t. if t then 0 else leaf_block new top (m - 1)) e ∙ sym (ap (λ t. if t then 0 else leaf_block old top (m - 1)) e)
      by false e =
          ap (λ t. if t then 0 else leaf_block new top (m - 1)) e
          ∙ (from_block 0 0 (steps (m - 1)) (steps_way (m - 1)) ∙ sym (ap (λ t. if t then 0 else leaf_block old top (m - 1)) e))

  number_same : (m : ℕ) → block_numbered new top m ≡ block m
  number_same m = ap (λ x. if m == 0 then top else x) (inode_same m)

  alike : (m : ℕ) → IsAlike old new (block m)
  alike m = record {
    own = (others (block m) (block_other m)).1;
    leaves = λ i. from_block m 0 (steps i) (steps_way i);
    bytes = λ i there. (others (leaf_block old (block m) i) (way_other (block m) (is_block m) 0 (steps i) (steps_way i))).1;
  }

  key_same : key_in new top ≡ key_in old top
  key_same = key_from (new top) (old top) (others top (λ is. no_root (sym is))).1
    where
      key_from : (x y : List ℕ) → x ≡ y → key_of (content_of x) ≡ key_of (content_of y)
      key_from x y same = ap (λ m. key_of (content_of m)) same

  pub forgotten_files : files_of new top ≡ files_of old top
  forgotten_files = fun_ext (λ m. elim (cases_eq (inode_block old top m) 0) [
    | inl z ↦ file_none new top m (inode_same m ∙ z) ∙ sym (file_none old top m z)
    | inr there ↦
        let m_some : m ≢ 0 = λ z. there (ap (inode_block old top) z) in
        let is = inode_numbered old top m m_some in
        let block_there : block m ≢ 0 = λ z. there (sym is ∙ z) in
        file_read new top m (block m) (inode_same m ∙ sym is) block_there
        ∙ (ap (λ key. inode_of new key (block m)) key_same
        ∙ (inode_alike old new (block m) (alike m) (key_in old top) ∙ sym (file_read old top m (block m) (sym is) block_there)))
  ])

  -- It is a volume still

  at_way : (m k : ℕ) (os : List ℕ) → IsWay os k → block_at new (block_numbered new top m) os ≡ block_at old (block m) os
  at_way m k os way = ap (λ x. block_at new x os) (number_same m) ∙ from_block m k os way

  type_way : (m k : ℕ) (os : List ℕ) → IsWay os k → type' (block_at new (block_numbered new top m) os) ≡ type (block_at old (block m) os)
  type_way m k os way = ap type' (at_way m k os way) ∙ (others (block_at old (block m) os) (way_other (block m) (is_block m) k os way)).0

  typed_so : IsTyped node inode type' new top
  typed_so = record {
    inodes = λ m there. ap type' (number_same m) ∙ ((others (block m) (block_other m)).0 ∙ v.typed.inodes m (λ z. there (number_same m ∙ z)));
    nodes = λ m l os way there. type_way m (suc l) os way ∙ v.typed.nodes m l os way (λ z. there (at_way m (suc l) os way ∙ z));
    leaves = λ m i m_some few there.
        type_way m 0 (steps i) (steps_way i) ∙ v.typed.leaves m i m_some few (λ z. there (at_way m 0 (steps i) (steps_way i) ∙ z));
  }

  pointer_same : (p o : ℕ) → IsTrue (has_pointer node inode (type' p) o) → IsTrue (has_pointer node inode (type p) o) × (pointed new p o ≡ pointed old p o)
  pointer_same p o has = elim (cases_eq p c) [
    | inl same ↦ absurd (of_types node inode (type' p) o v.some_types.0 v.some_types.1 has (ap type' same ∙ unread))
    | inr ne ↦ (subst (λ t. IsTrue (has_pointer node inode t o)) (others p ne).0 has, pointed_same p o ne)
  ]

  apart_so : ArePointersApart node inode type' new top
  apart_so = record {
    once = λ p q o o' has has' there same.
        let a = pointer_same p o has in
        let b = pointer_same q o' has' in
        v.apart.once p q o o' a.0 b.0 (λ z. there (a.1 ∙ z)) (sym a.1 ∙ (same ∙ b.1));
    root = λ p o has is. let a = pointer_same p o has in v.apart.root p o a.0 (sym a.1 ∙ is);
  }

  directory_so : (m : ℕ) → m ≢ 0 → block m ≢ 0 → kind_of (fields_of (new (block m))).mode ≡ Some kind.Directory → IsDirectory new (key_in old top) (block m)
  directory_so m m_some there is =
      let a = alike m in
      fewer_buckets old new (key_in old top) (block m) (λ k few. inl (bucket_same old new (block m) a.leaves a.bytes k (ap content_of a.own)))
      (v.directories m m_some there (sym (ap (λ x. kind_of (fields_of x).mode) a.own) ∙ is))

  pub forgotten_volume : IsVolume node inode type' new top
  forgotten_volume = record {
    types = v.types;
    some_types = v.some_types;
    root = v.root;
    typed = typed_so;
    apart = apart_so;
    blocks = λ b there. elim (cases_eq b c) [
      | inl same ↦ absurd (there (ap type' same ∙ unread))
      | inr ne ↦ subst IsWholeBlock (sym (others b ne).1) (v.blocks b (λ z. there ((others b ne).0 ∙ z)))
    ];
    directories = λ m m_some there is.
        subst (λ x. IsDirectory new (key_in new top) x) (sym (number_same m)) (subst (λ key. IsDirectory new key (block m)) (sym key_same)
        (directory_so m m_some (λ z. there (number_same m ∙ z)) (sym (ap (λ x. kind_of (fields_of (new x)).mode) (number_same m)) ∙ is)));
  }

-- The call

pub life_within : (lives : Lives) (b : ℕ) (l : Life) → life_at lives b ≡ Some l → b < length lives
life_within [] b l e = absurd (cc e)
life_within (o ∷ os) zero l e = omega arith
life_within (o ∷ os) (suc b) l e = let lt = life_within os b l e in omega arith

module _ (T : Types) (fs node inode top c : ℕ) (old new : StoreState) (here : IsAt T fs node inode top old) (some : c ≢ 0) (no_root : c ≢ top)
    (unled : IsUnled node inode (kinds old fs) (readable old fs) c) (done : forget_of T old fs c ≡ Ok (tt, new)) where
  own : (l : Life) × (life_at old.lives c ≡ Some l)
  own = let o = own_then old fs c (forget_at T old c) (tt, new) done in (o.0, o.1.alive)

  left : record old { lives = slice_set old.lives c None } ≡ new
  left =
      let o = own_then old fs c (forget_at T old c) (tt, new) done in
      let given = given_ok (forget_refusal T o.0) (Ok (tt, record old { lives = slice_set old.lives c None })) (tt, new) o.2 in
      ap (λ (x : Unit {0} × StoreState). x.1) (same_ok (tt, record old { lives = slice_set old.lives c None }) (tt, new) given)

  life_other : (b : ℕ) → b ≢ c → life_at new.lives b ≡ life_at old.lives b
  life_other b ne = ap (λ (s : StoreState). life_at s.lives b) (sym left) ∙ set_other old.lives c b None ne

  life_here : life_at new.lives c ≡ None
  life_here = ap (λ (s : StoreState). life_at s.lives c) (sym left) ∙ set_same old.lives c None (life_within old.lives c own.0 own.1)

  read_other : (b : ℕ) → b ≢ c → (kinds new fs b ≡ kinds old fs b) × (readable new fs b ≡ readable old fs b)
  read_other b ne = (
    kinds_are new fs b ∙ (ap (λ o. if may_read fs o then type_in o else 0) (life_other b ne) ∙ sym (kinds_are old fs b)),
    readable_is new fs b ∙ (ap (λ o. if may_read fs o then life_bytes o else []) (life_other b ne) ∙ sym (readable_is old fs b)),
  )

  unread : kinds new fs c ≡ 0
  unread = kinds_are new fs c ∙ ap (λ o. if may_read fs o then type_in o else 0) life_here

  pub forgot_at : IsAt T fs node inode top new
  forgot_at = record {
    store = (forget_keeps T old here.store fs c tt new done).consistent;
    root = ap (λ m. if (slot m fs).0 == 0 then None else Some (slot m fs).0) (ap life_bytes (life_other 0 (λ z. some (sym z)))) ∙ here.root;
    volume = forgotten_volume node inode top (kinds old fs) (kinds new fs) (readable old fs) (readable new fs) here.volume c some no_root unled unread
        read_other;
  }

  pub forgot_files : files_of (readable new fs) top ≡ files_of (readable old fs) top
  forgot_files = forgotten_files node inode top (kinds old fs) (kinds new fs) (readable old fs) (readable new fs) here.volume c some no_root unled unread
      read_other
