-- Pointers of the blocks that a file system may read lead to different blocks, as each block has one owner.
use Rattle.std.proofs.Common.{◌≡◌, ◌≢◌, ℕ, ◌<◌, Bool, true, false, ◌&&◌, List, [], Some, None, refl, sym, ◌∙◌, ap, inl, inr, subst, if◌then◌else◌}
use Rattle.std.specs.Prelude.{Contains, IsTrue, ◌==◌}
use Rattle.std.proofs.lemmas.Bool.{and_parts, cases_Bool, eqb-false, eqb-true, or_cases}
use Rattle.std.proofs.lemmas.List.Elements.{Contains-append_right}
use Rattle.std.proofs.lemmas.Option.{same_Some}
use Rattle.store_types.specs.declared.status.Status.TheVariants.{Fresh, Owned, Dropped}
use Rattle.store_types.specs.declared.status.Status.{Status}
use Rattle.xn_model.specs.Types.{Types}
use Rattle.xn_model.specs.Root.{owned_by_root, roots_of, templates_of, word_at}
use Rattle.xn_model.specs.Lives.{Life, StoreState, bytes_of, life_at}
use Rattle.xn_model.specs.Calls.{latest, root_now, root_of, slot_now}
use Rattle.xn_model.specs.Rules.{IsBy, IsConsistent}
use Rattle.xn_model.proofs.ForCallers.{root_owns, roots_from}
use Rattle.ffs_model.specs.Cuts.{seen_at}
use Rattle.ffs_model.proofs.ForCallers.{chosen_in, everything, everything_seen}
use Rattle.treefs_format.specs.Templates.{IsTree}
use Rattle.treefs_lookup.specs.Readable.{readable}
use Rattle.treefs_model.specs.Edited.{type_at, type_in}
use Rattle.treefs_model.specs.Places.{Shape, pointer_at}
use Rattle.treefs_model.specs.Reading.{pointed}
use Rattle.treefs_model.specs.Tables.{ReadsTypes}
use Rattle.treefs_model.specs.Trees.{has_pointer, is_inode_offset, is_node_offset, tree_shape}
use Rattle.treefs_model.proofs.Table.{belongs, shown, to_all}
use Rattle.treefs_model.proofs.Trees.{reads_types}
use Rattle.treefs_values.specs.Kinds.{kinds}
use Rattle.treefs_values.specs.Ways.{ArePointersApart}
use Rattle.treefs_values.proofs.Readings.{kinds_are, may_read, readable_is}

-- what has a pointer is of one of the two types
pub of_types : (node inode t o : ℕ) → node ≢ 0 → inode ≢ 0 → IsTrue (has_pointer node inode t o) → t ≢ 0
of_types node inode t o some some' has = elim (or_cases ((t == node) && is_node_offset o) ((t == inode) && is_inode_offset o) has) [
  | inl a ↦ (λ z. some (sym (eqb-true t node (and_parts (t == node) (is_node_offset o) a).0) ∙ z))
  | inr b ↦ (λ z. some' (sym (eqb-true t inode (and_parts (t == inode) (is_inode_offset o) b).0) ∙ z))
]

named_by_root : (m : List ℕ) (c u : ℕ) → Contains (roots_of m) (c, u) → Contains (owned_by_root m) (c, u)
unfolding owned_by_root
named_by_root m c u has = Contains-append_right (templates_of m) (roots_of m) (c, u) has

module _ (T : Types) (state : StoreState) (h : IsConsistent T state) (node inode : ℕ) (tree : IsTree T node inode) (other : node ≢ inode) (some : node ≢ 0) (some' : inode ≢ 0) (fs : ℕ) where
  abbrev S : Shape
  S = tree_shape node inode

  reads : ReadsTypes T S
  reads = reads_types T node inode tree other

  place : (p o : ℕ) → pointed (readable state fs) p o ≢ 0 → pointed (readable state fs) p o ≡ word_at (readable state fs p) o
  place p o there = elim (cases_Bool (p == 0)) [
    | inl z ↦ absurd (there (ap (λ t. if t then 0 else word_at (readable state fs p) o) z))
    | inr ne ↦ ap (λ t. if t then 0 else word_at (readable state fs p) o) ne
  ]

  -- what a file system sees of a block with a pointer is what stands there
  pub record IsSeen (p o : ℕ) : Type 0 where
    pub typed : kinds state fs p ≡ type_at state.lives p
    pub bytes : readable state fs p ≡ latest state.lives p
    pub points : pointed (readable state fs) p o ≢ 0 → pointer_at S state.lives (latest state.lives) p o ≡ pointed (readable state fs) p o

  pub seen_pointer : (p o : ℕ) → IsTrue (has_pointer node inode (kinds state fs p) o) → IsSeen p o
  seen_pointer p o has = by (may_read fs (life_at state.lives p)) refl
    where
      by : (t : Bool) → may_read fs (life_at state.lives p) ≡ t → IsSeen p o
      by false e = absurd (of_types node inode (kinds state fs p) o some some' has (kinds_are state fs p ∙ ap (λ t. if t then type_at state.lives p else 0) e))
      by true e =
          let typed = kinds_are state fs p ∙ ap (λ t. if t then type_at state.lives p else 0) e in
          let bytes = readable_is state fs p ∙ ap (λ t. if t then latest state.lives p else []) e in
          record {
            typed = typed;
            bytes = bytes;
            points = λ there. ap (λ t. if t then word_at (latest state.lives p) o else 0) (sym (ap (λ t. has_pointer node inode t o) typed) ∙ has)
                ∙ (ap (λ m. word_at m o) (sym bytes) ∙ sym (place p o there));
          }

  -- no bytes of newest have a block at two offsets
  once_latest : (p o o' x : ℕ) → x ≢ 0 → pointer_at S state.lives (latest state.lives) p o ≡ x → pointer_at S state.lives (latest state.lives) p o' ≡ x → o ≡ o'
  once_latest p o o' x there one two =
      let s = shown T S reads state h (everything state.lives) p o x there (to_all T S reads state h p o x one) in
      let bytes : latest state.lives p ≡ s.shows.bytes = ap (λ v. v p) (sym (everything_seen state.lives)) ∙ (ap (seen_at (everything state.lives) p) s.alive ∙ ap bytes_of s.is) in
      reads.once s.life.ty s.shows.bytes o o' x ((h.lives_sound.each p s.life s.alive).fit s.shows (chosen_in (everything state.lives) p s.life s.shows s.is)) s.points
      ((λ j. S.pointer (type_in (sym s.alive j)) (sym bytes j) o') ∙ two) there

  pub owner : (p o x : ℕ) → x ≢ 0 → pointer_at S state.lives (latest state.lives) p o ≡ x → (l : Life) × (life_at state.lives x ≡ Some l) × IsBy p l.status
  owner p o x there is =
      let b = (belongs T S reads state h (everything state.lives) p o x there (to_all T S reads state h p o x is)).1 in
      (b.life, b.alive, b.holds.1)

  not_both : (s : Status) (a b : ℕ) → IsBy a s → IsBy b s → a ≡ b
  not_both Fresh a b x y = absurd x
  not_both (Owned c) a b x y = sym x ∙ y
  not_both (Dropped c) a b x y = sym x ∙ y

  one_owner : (p q x : ℕ) (one : (l : Life) × (life_at state.lives x ≡ Some l) × IsBy p l.status) (two : (l : Life) × (life_at state.lives x ≡ Some l) × IsBy q l.status) → p ≡ q
  one_owner p q x one two =
      not_both one.0.status p q one.2 (subst (λ (l : Life). IsBy q l.status) (same_Some two.0 one.0 (sym two.1 ∙ one.1)) two.2)

  module _ (few : fs < 32) (top : ℕ) (root : root_of state fs ≡ Some top) where
    -- the root block is block 0's
    pub root_owner : (top ≢ 0) × ((l : Life) × (life_at state.lives top ≡ Some l) × IsBy 0 l.status)
    root_owner = by ((slot_now state fs).0 == 0) refl root
      where
        by : (t : Bool) → ((slot_now state fs).0 == 0) ≡ t → (if t then None else Some (slot_now state fs).0) ≡ Some top →
            (top ≢ 0) × ((l : Life) × (life_at state.lives top ≡ Some l) × IsBy 0 l.status)
        by true e is = absurd (cc is)
        by false e is =
            let there = eqb-false (slot_now state fs).0 0 e in
            let same : (slot_now state fs).0 ≡ top = same_Some (slot_now state fs).0 top is in
            let named = named_by_root (root_now state) (slot_now state fs).0 (slot_now state fs).1 (roots_from (root_now state) fs (slot_now state fs).0 (slot_now state fs).1 few refl there) in
            let o = root_owns T state h (slot_now state fs).0 (slot_now state fs).1 named in
            ((λ z. there (same ∙ z)), subst (λ x. (l : Life) × (life_at state.lives x ≡ Some l) × IsBy 0 l.status) same (o.life, o.alive, subst (IsBy 0) (sym o.holds) refl))

    pub store_apart : ArePointersApart node inode (kinds state fs) (readable state fs) top
    store_apart = record {
      once = λ p q o o' has has' there same.
          let x : ℕ = pointed (readable state fs) p o in
          let one = (seen_pointer p o has).points there in
          let two : pointer_at S state.lives (latest state.lives) q o' ≡ x = (seen_pointer q o' has').points (λ z. there (same ∙ z)) ∙ sym same in
          let e = one_owner p q x (owner p o x there one) (owner q o' x there two) in
          (e, once_latest p o o' x there one (ap (λ y. pointer_at S state.lives (latest state.lives) y o') e ∙ two));
      root = λ p o has is.
          let there : pointed (readable state fs) p o ≢ 0 = λ z. root_owner.0 (sym is ∙ z) in
          let one = (seen_pointer p o has).points there ∙ is in
          let e = one_owner p 0 top (owner p o top root_owner.0 one) root_owner.1 in
          there (ap (λ y. pointed (readable state fs) y o) e);
    }
