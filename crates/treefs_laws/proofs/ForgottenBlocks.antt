-- Blocks that are forgotten: nothing leads to them, and the files are as before.
use Rattle.std.proofs.Common.{◌≡◌, ◌≢◌, ℕ, zero, suc, ◌<◌, Bool, true, false, ◌&&◌, List, [], ◌∷◌, ◌++◌, Option, None, Some, Result, Ok, Err, refl, sym, ◌∙◌, ap, inl, inr, subst, if◌then◌else◌}
use Rattle.std.specs.Prelude.{All, IsTrue, slice_set, ◌==◌}
use Rattle.std.proofs.lemmas.Bool.{and_parts, cases_Bool, eqb-false, eqb-true, or_cases}
use Rattle.std.proofs.lemmas.List.Elements.{All-cons, All-head, All-nil, All-tail, Contains-append_right}
use Rattle.std.proofs.lemmas.Option.{same_Some}
use Rattle.std.specs.Prelude.{Contains}
use Rattle.store_types.specs.declared.refusal.Refusal.{Refusal}
use Rattle.xn_model.specs.Types.{Types}
use Rattle.xn_model.specs.Root.{owned_by_root, roots_of, slot, templates_of, word_at}
use Rattle.xn_model.specs.Lives.{Life, Lives, StoreState, current, life_at}
use Rattle.xn_model.specs.Calls.{forget_at, forget_of, forget_refusal, latest, life_bytes, root_now, root_of, slot_now}
use Rattle.xn_model.specs.Rules.{IsConsistent}
use Rattle.xn_model.proofs.ForCallers.{IsOwn, forget_keeps, given_ok, in_newest, not_root, own_then, root_owns, roots_from, same_ok, set_other}
use Rattle.treefs_format.specs.Templates.{IsTree}
use Rattle.treefs_lookup.specs.Readable.{readable}
use Rattle.treefs_model.specs.Edited.{type_at, type_in}
use Rattle.treefs_model.specs.Places.{Shape, pointer_at}
use Rattle.treefs_model.specs.Reading.{files_of, pointed}
use Rattle.treefs_model.specs.Tables.{ReadsTypes}
use Rattle.treefs_model.specs.Trees.{has_pointer, is_inode_offset, is_node_offset, tree_shape}
use Rattle.treefs_model.proofs.Trees.{reads_types}
use Rattle.treefs_model.specs.declared.fault.Fault.{Fault}
use Rattle.treefs_edits.specs.Plans.{Begins, forgotten, left_by}
use Rattle.treefs_edits.specs.declared.start.Start.{Start}
use Rattle.treefs.specs.declared.volume.Volume.{Volume}
use Rattle.treefs_values.specs.Kinds.{kinds}
use Rattle.treefs_values.specs.Volumes.{IsVolume, IsWholeBlock}
use Rattle.treefs_values.proofs.ForCallers.{IsAt, IsFineStart, begun_so, kinds_are, may_read, readable_is}
use Rattle.treefs_laws.specs.Kept.{files_in}
use Rattle.treefs_laws.specs.Open.{IsOpen}
use Rattle.treefs_laws.specs.Seen.{seen_files}
use Rattle.treefs_laws.proofs.BlockAside.{files_aside, volume_aside}

-- what has a pointer is of one of the two types
of_types : (node inode t o : ℕ) → node ≢ 0 → inode ≢ 0 → IsTrue (has_pointer node inode t o) → t ≢ 0
of_types node inode t o some some' has = elim (or_cases ((t == node) && is_node_offset o) ((t == inode) && is_inode_offset o) has) [
  | inl a ↦ (λ z. some (sym (eqb-true t node (and_parts (t == node) (is_node_offset o) a).0) ∙ z))
  | inr b ↦ (λ z. some' (sym (eqb-true t inode (and_parts (t == inode) (is_inode_offset o) b).0) ∙ z))
]

named_by_root : (m : List ℕ) (c u : ℕ) → Contains (roots_of m) (c, u) → Contains (owned_by_root m) (c, u)
unfolding owned_by_root
named_by_root m c u has = Contains-append_right (templates_of m) (roots_of m) (c, u) has

-- What pointers of blocks that may be read lead to is there

module _ (T : Types) (state : StoreState) (h : IsConsistent T state) (node inode : ℕ) (tree : IsTree T node inode) (other : node ≢ inode) (some : node ≢ 0)
    (some' : inode ≢ 0) (fs : ℕ) where
  abbrev S : Shape
  S = tree_shape node inode

  reads : ReadsTypes T S
  reads = reads_types T node inode tree other

  place : (p o : ℕ) → pointed (readable state fs) p o ≢ 0 → pointed (readable state fs) p o ≡ word_at (readable state fs p) o
  place p o there = elim (cases_Bool (p == 0)) [
    | inl z ↦ absurd (there (ap (λ t. if t then 0 else word_at (readable state fs p) o) z))
    | inr ne ↦ ap (λ t. if t then 0 else word_at (readable state fs p) o) ne
  ]

  points : (p o : ℕ) → IsTrue (has_pointer node inode (kinds state fs p) o) → pointed (readable state fs) p o ≢ 0 →
      pointer_at S state.lives (latest state.lives) p o ≡ pointed (readable state fs) p o
  points p o has there = by (may_read fs (life_at state.lives p)) refl
    where
      by : (t : Bool) → may_read fs (life_at state.lives p) ≡ t → pointer_at S state.lives (latest state.lives) p o ≡ pointed (readable state fs) p o
      by false e = absurd (of_types node inode (kinds state fs p) o some some' has (kinds_are state fs p ∙ ap (λ t. if t then type_at state.lives p else 0) e))
      by true e =
          let typed = kinds_are state fs p ∙ ap (λ t. if t then type_at state.lives p else 0) e in
          let bytes = readable_is state fs p ∙ ap (λ t. if t then latest state.lives p else []) e in
          ap (λ t. if t then word_at (latest state.lives p) o else 0) (sym (ap (λ t. has_pointer node inode t o) typed) ∙ has)
          ∙ (ap (λ m. word_at m o) (sym bytes) ∙ sym (place p o there))

  -- a life names what its newest bytes point to
  named_alive : (p o x : ℕ) → x ≢ 0 → (l : Option Life) → life_at state.lives p ≡ l → S.pointer (type_in l) (life_bytes l) o ≡ x → life_at state.lives x ≢ None
  named_alive p o x there None e at none = absurd (there (sym at ∙ reads.none 0 o))
  named_alive p o x there (Some l) e at none =
      let n = reads.owned l.ty (current l) o x at there in
      let k = h.linked p l e in
      absurd (cc (sym (k.owned x n.0 (in_newest T state.lives p l k (x, n.0) n.1)).alive ∙ none))

  pub led_alive : (p o x : ℕ) → IsTrue (has_pointer node inode (kinds state fs p) o) → x ≢ 0 → pointed (readable state fs) p o ≡ x → life_at state.lives
      x ≢ None
  led_alive p o x has there is = named_alive p o x there (life_at state.lives p) refl (points p o has (λ z. there (sym is ∙ z)) ∙ is)

  pub root_alive : (top : ℕ) → fs < 32 → root_of state fs ≡ Some top → life_at state.lives top ≢ None
  root_alive top few root = by ((slot_now state fs).0 == 0) refl root
    where
      by : (t : Bool) → ((slot_now state fs).0 == 0) ≡ t → (if t then None else Some (slot_now state fs).0) ≡ Some top → life_at state.lives top ≢ None
      by true e is = absurd (cc is)
      by false e is =
          let there = eqb-false (slot_now state fs).0 0 e in
          let same : (slot_now state fs).0 ≡ top = same_Some (slot_now state fs).0 top is in
          let named = named_by_root (root_now state) (slot_now state fs).0 (slot_now state fs).1
          (roots_from (root_now state) fs (slot_now state fs).0 (slot_now state fs).1 few refl there) in
          let o = root_owns T state h (slot_now state fs).0 (slot_now state fs).1 named in
          λ none. absurd (cc (sym o.alive ∙ (ap (life_at state.lives) same ∙ none)))

life_gone : (lives : Lives) (b : ℕ) → life_at (slice_set lives b None) b ≡ None
life_gone [] b = refl
life_gone (l ∷ lives) zero = refl
life_gone (l ∷ lives) (suc b) = life_gone lives b

-- One block

module _ (T : Types) (fs node inode top : ℕ) (few : fs < 32) (tree : IsTree T node inode) where
  abbrev Here : StoreState → Type 0
  Here s = IsAt T fs node inode top s

  module _ (s new : StoreState) (here : Here s) (b : ℕ) (done : forget_of T s fs b ≡ Ok (tt, new)) where
    own : (l : Life) × IsOwn s.lives fs b l × (forget_at T s b l ≡ Ok (tt, new))
    own = own_then s fs b (forget_at T s b) (tt, new) done

    lives_are : new.lives ≡ slice_set s.lives b None
    lives_are = sym (ap (λ (r : Unit {0} × StoreState). r.1.lives) (same_ok (tt, record s { lives = slice_set s.lives b None }) (tt, new)
        (given_ok (forget_refusal T own.0) (Ok (tt, record s { lives = slice_set s.lives b None })) (tt, new) own.2)))

    life_here : life_at new.lives b ≡ None
    life_here = ap (λ ls. life_at ls b) lives_are ∙ life_gone s.lives b

    life_other : (c : ℕ) → c ≢ b → life_at new.lives c ≡ life_at s.lives c
    life_other c ne = ap (λ ls. life_at ls c) lives_are ∙ set_other s.lives b c None ne

    store : IsConsistent T new
    store = (forget_keeps T s here.store fs b tt new done).consistent

    some : b ≢ 0
    some = not_root T s here.store fs b own.0 own.1.alive own.1.mine

    root : root_of new fs ≡ Some top
    root = ap (λ o. if (slot (life_bytes o) fs).0 == 0 then None else Some (slot (life_bytes o) fs).0) (life_other 0 (λ z. some (sym z))) ∙ here.root

    read_here : readable new fs b ≡ []
    read_here = readable_is new fs b ∙ ap (λ o. if may_read fs o then life_bytes o else []) life_here

    kind_here : kinds new fs b ≡ 0
    kind_here = kinds_are new fs b ∙ ap (λ o. if may_read fs o then type_in o else 0) life_here

    pub forget_kept : (c : ℕ) → c ≢ b → (kinds new fs c ≡ kinds s fs c) × (readable new fs c ≡ readable s fs c)
    forget_kept c ne = (
      kinds_are new fs c ∙ (ap (λ o. if may_read fs o then type_in o else 0) (life_other c ne) ∙ sym (kinds_are s fs c)),
      readable_is new fs c ∙ (ap (λ o. if may_read fs o then life_bytes o else []) (life_other c ne) ∙ sym (readable_is s fs c)),
    )

    v : IsVolume node inode (kinds s fs) (readable s fs) top
    v = here.volume

    pub forget_unled : (p o : ℕ) → p ≢ b → IsTrue (has_pointer node inode (kinds s fs p) o) → pointed (readable s fs) p o ≢ b
    forget_unled p o ne has is =
        led_alive T new store node inode tree v.types.0 v.some_types.0 v.some_types.1 fs p o b
        (subst (λ t. IsTrue (has_pointer node inode t o)) (sym (forget_kept p ne).0) has) some
        (ap (λ m. if p == 0 then 0 else word_at m o) (forget_kept p ne).1 ∙ is) life_here

    no_root : top ≢ b
    no_root same = root_alive T new store node inode tree v.types.0 v.some_types.0 v.some_types.1 fs top few root (ap (life_at new.lives) same ∙ life_here)

    pub forget_bare : (o : ℕ) → IsTrue (has_pointer node inode (kinds new fs b) o) → ⊥
    forget_bare o has = of_types node inode (kinds new fs b) o v.some_types.0 v.some_types.1 has kind_here

    whole : kinds new fs b ≢ 0 → IsWholeBlock (readable new fs b)
    whole ne = absurd (ne kind_here)

    pub forget_here : Here new
    forget_here = record {
      store = store;
      root = root;
      volume = volume_aside node inode top (kinds s fs) (kinds new fs) (readable s fs) (readable new fs) v b no_root forget_kept forget_unled forget_bare whole;
    }

    pub forget_files : files_of (readable new fs) top ≡ files_of (readable s fs) top
    forget_files = files_aside node inode top (kinds s fs) (kinds new fs) (readable s fs) (readable new fs) v b no_root forget_kept forget_unled forget_bare whole

  -- Some blocks, each of which may be kept

  abbrev pub Stays : StoreState → StoreState → Type 0
  Stays s new = Here new × (files_of (readable new fs) top ≡ files_of (readable s fs) top)

  one_stays : (s : StoreState) (b : ℕ) → Here s → Stays s (left_by (forget_of T s fs b) s)
  one_stays s b here = by (forget_of T s fs b) refl
    where
      by : (r : Result (Unit {0} × StoreState) Refusal) → forget_of T s fs b ≡ r → Stays s (left_by r s)
      by (Ok (tt, new)) e = (forget_here s new here b e, forget_files s new here b e)
      by (Err reason) e = (here, refl)

  pub forgotten_stays : (blocks : List ℕ) (s : StoreState) → Here s → Stays s (forgotten T fs blocks s)
  forgotten_stays [] s here = (here, refl)
  forgotten_stays (b ∷ blocks) s here =
      let one = one_stays s b here in
      let rest = forgotten_stays blocks (left_by (forget_of T s fs b) s) one.0 in
      (rest.0, rest.1 ∙ one.1)

  -- Blocks that are begun, up to one that is refused

  pub begins_stays : (starts : List Start) (begun : List ℕ) (old new : StoreState) (fault : Fault) → All (IsFineStart T fs node inode top few tree) starts →
      Here old →
      Begins T fs starts begun old new (Err fault) → Stays old new
  begins_stays [] begun old new fault fine here begins = absurd (cc begins.0)
  begins_stays (start ∷ starts) begun old new fault fine here (inl none) = subst (Stays old) (sym none.3) (forgotten_stays begun old here)
  begins_stays (start ∷ starts) begun old new fault fine here (inr r) =
      let Fine = IsFineStart T fs node inode top few tree in
      let a = begun_so T fs node inode top few tree (start ∷ []) begun (begun ++ r.0.0 ∷ []) old r.1
      (All-cons Fine start [] (All-head Fine start starts fine) (All-nil Fine)) here (inr (r.0, r.1, r.2, (refl, refl))) in
      let rest = begins_stays starts (begun ++ r.0.0 ∷ []) r.1 new fault (All-tail Fine start starts fine) a.at r.3 in
      (rest.0, rest.1 ∙ a.files)

-- An open volume stays one
pub stays_open : (T : Types) (old new : StoreState) (volume : Volume) → IsOpen T old volume → IsAt T volume.tree.fs.number volume.tree.node_type
    volume.tree.inode_type volume.tree.top new →
    files_of (readable new volume.tree.fs.number) volume.tree.top ≡ files_of (readable old volume.tree.fs.number) volume.tree.top →
    IsOpen T new volume × (files_in new volume ≡ files_in old volume)
stays_open T old new volume is_open here same =
    let files : files_in new volume ≡ files_in old volume = ap (seen_files volume.memory.touched) same in (
      record {
        kept = record { store = here.store; bytes = here.volume; session = is_open.kept.session };
        few = is_open.few;
        tree = is_open.tree;
        short = is_open.short;
        root = here.root;
        touched = subst (λ g. All (λ touch. g touch.number ≢ None) volume.memory.touched) (sym files) is_open.touched;
      },
      files,
    )
