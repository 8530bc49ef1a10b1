-- What a file system may read once an edit dropped blocks.
use mathlib.Core.Path.{fun_ext}
use Rattle.std.proofs.Common.{◌≡◌, ◌≢◌, ◌⊎◌, ℕ, Bool, true, false, cond, not, List, [], ◌∷◌, Option, None, Some, Ok, refl, sym, ◌∙◌, ap, inl, inr, subst, if◌then◌else◌}
use Rattle.std.specs.Prelude.{option_map, ◌&&◌, ◌==◌}
use Rattle.std.proofs.lemmas.Bool.{cases_eq, eq-eqb}
use Rattle.xn_model.specs.Lists.{blocks_of, has_number}
use Rattle.store_types.specs.declared.status.Status.TheVariants.{Dropped, Owned}
use Rattle.xn_model.specs.Types.{Types}
use Rattle.xn_model.specs.Lives.{BlockState, Life, StoreState, is_dropped, is_for, life_at}
use Rattle.xn_model.specs.Calls.{edited, latest, may_drop, patched, propose_of, root_of}
use Rattle.xn_model.specs.Root.{slot}
use Rattle.xn_model.specs.Rules.{IsBy, IsConsistent}
use Rattle.xn_model.proofs.ForCallers.{accepted, all_at, droppable, each_at, has_number_at, not_root, propose_keeps}
use Rattle.ffs_model.proofs.ForCallers.{proposed, proposed_here, proposed_others}
use Rattle.treefs_model.specs.Acts.{Act, Ran, edit_in}
use Rattle.treefs_model.specs.Edited.{type_at, type_in}
use Rattle.treefs_model.proofs.Edited.{gives_ok}
use Rattle.treefs_lookup.specs.Readable.{readable}
use Rattle.treefs_edits.specs.Written.{written}
use Rattle.treefs_values.specs.Dropped.{with_blocks}
use Rattle.treefs_values.specs.Kinds.{kinds}
use Rattle.treefs_values.proofs.Putting.{written_here, written_other}
use Rattle.treefs_values.proofs.Readings.{kinds_are, may_read, readable_is}

-- an edit that adds nothing
pub record IsDrop (T : Types) (fs : ℕ) (act : Act) (old new : StoreState) : Type 0 where
  pub store : IsConsistent T new
  pub reads : readable new fs ≡ with_blocks (written act (readable old fs)) act.edit.drops []
  pub types : kinds new fs ≡ with_blocks (kinds old fs) act.edit.drops 0
  pub apart : has_number act.edit.drops act.block ≡ false
  pub root : root_of new fs ≡ root_of old fs

module _ (T : Types) (old new : StoreState) (h : IsConsistent T old) (fs : ℕ) (act : Act) (entry : ℕ) (done : propose_of T old fs act.block (edit_in act old) ≡ Ok (entry, new))
    (no_adds : act.edit.adds ≡ []) where
  abbrev b : ℕ
  b = act.block

  abbrev drops : List ℕ
  drops = act.edit.drops

  -- no block owns itself
  apart_so : (t : Bool) → has_number drops b ≡ t → t ≡ false
  apart_so false e = refl
  apart_so true e =
      let p = proposed T old new fs b (edit_in act old) entry done in
      let o = droppable old b b (all_at (may_drop old b) drops b p.drops (has_number_at drops b e)) in
      absurd (h.waits.apart b o.life o.alive (subst (IsBy b) (sym o.holds) refl))

  not_own : has_number drops b ≡ false
  not_own = apart_so (has_number drops b) refl

  now_at : (c : ℕ) → (may_read fs (life_at new.lives c) ≡ (if has_number drops c then false else may_read fs (life_at old.lives c)))
      × (type_at new.lives c ≡ type_at old.lives c)
  now_at c =
      let p = proposed T old new fs b (edit_in act old) entry done in
      let s : BlockState = edited old.next fs (edit_in act old) p.life in
      let is : life_at new.lives c ≡ option_map (accepted b s c) (life_at old.lives c) = ap (λ xs. life_at xs c) p.lives ∙ each_at (accepted b s) old.lives c in
      subst (λ o. (may_read fs o ≡ (if has_number drops c then false else may_read fs (life_at old.lives c))) × (type_in o ≡ type_in (life_at old.lives c))) (sym is)
      (same s (life_at old.lives c) no_adds refl)
    where
      same : (s : BlockState) (o : Option Life) → s.adds ≡ [] → s.drops ≡ drops →
          (may_read fs (option_map (accepted b s c) o) ≡ (if has_number drops c then false else may_read fs o)) × (type_in (option_map (accepted b s c) o) ≡ type_in o)
      same s None none are = (none_read (has_number drops c), refl)
        where
          none_read : (t : Bool) → false ≡ (if t then false else false)
          none_read true = refl
          none_read false = refl
      same s (Some l) none are = (
        ap (λ a. not (is_dropped (cond (has_number (blocks_of a) c) (Owned b) (cond (has_number s.drops c) (Dropped b) l.status))) && is_for fs l.fs) none
            ∙ (ap (λ d. not (is_dropped (cond (has_number d c) (Dropped b) l.status)) && is_for fs l.fs) are ∙ by (has_number drops c)),
        refl,
      )
        where
          by : (t : Bool) → (not (is_dropped (cond t (Dropped b) l.status)) && is_for fs l.fs) ≡ (if t then false else (not (is_dropped l.status) && is_for fs l.fs))
          by true = refl
          by false = refl

  -- what is edited may be read
  may_edit : may_read fs (life_at old.lives b) ≡ true
  may_edit =
      let p = proposed T old new fs b (edit_in act old) entry done in
      ap (may_read fs) p.own.alive ∙ (λ j. not (p.own.in_use j) && (is_for fs (p.own.mine j))) ∙ eq-eqb fs fs refl

  still_read : (c : ℕ) → (if may_read fs (life_at old.lives c) then latest new.lives c else []) ≡ written act (readable old fs) c
  still_read c = at (cases_eq c b)
    where
      at : (c ≡ b) ⊎ (c ≢ b) → (if may_read fs (life_at old.lives c) then latest new.lives c else []) ≡ written act (readable old fs) c
      at (inl same) =
          ap (λ x. if may_read fs (life_at old.lives x) then latest new.lives x else []) same
          ∙ (ap (λ t. if t then latest new.lives b else []) may_edit
          ∙ (proposed_here T old new h fs b (edit_in act old) entry done
          ∙ (ap (λ m. patched m act.edit.patches) (sym (readable_is old fs b ∙ ap (λ t. if t then latest old.lives b else []) may_edit))
          ∙ (sym (written_here act (readable old fs) b refl) ∙ ap (written act (readable old fs)) (sym same)))))
      at (inr ne) =
          ap (λ m. if may_read fs (life_at old.lives c) then m else []) (proposed_others T old new h fs b (edit_in act old) entry done c ne)
          ∙ (sym (readable_is old fs c) ∙ sym (written_other act (readable old fs) c ne))

  reads_dropped : readable new fs ≡ with_blocks (written act (readable old fs)) drops []
  reads_dropped = fun_ext (λ c. readable_is new fs c
      ∙ (ap (λ t. if t then latest new.lives c else []) (now_at c).0 ∙ by c (has_number drops c)))
    where
      by : (c : ℕ) (t : Bool) → (if (if t then false else may_read fs (life_at old.lives c)) then latest new.lives c else [])
          ≡ (if t then [] else written act (readable old fs) c)
      by c true = refl
      by c false = still_read c

  kinds_dropped : kinds new fs ≡ with_blocks (kinds old fs) drops 0
  kinds_dropped = fun_ext (λ c. kinds_are new fs c
      ∙ ((λ j. if (now_at c).0 j then (now_at c).1 j else 0) ∙ by c (has_number drops c)))
    where
      by : (c : ℕ) (t : Bool) → (if (if t then false else may_read fs (life_at old.lives c)) then type_at old.lives c else 0) ≡ (if t then 0 else kinds old fs c)
      by c true = refl
      by c false = sym (kinds_are old fs c)

  dropped_is : IsDrop T fs act old new
  dropped_is = record {
    store = (propose_keeps T old h fs b (edit_in act old) entry new done).consistent;
    reads = reads_dropped;
    types = kinds_dropped;
    apart = not_own;
    root =
        let p = proposed T old new fs b (edit_in act old) entry done in
        let other : b ≢ 0 = not_root T old h fs b p.life p.own.alive p.own.mine in
        ap (λ m. if (slot m fs).0 == 0 then None else Some (slot m fs).0)
        (proposed_others T old new h fs b (edit_in act old) entry done 0 (λ same. other (sym same)));
  }

pub drop_is : (T : Types) (fs : ℕ) (act : Act) (old new : StoreState) → IsConsistent T old → act.edit.adds ≡ [] → Ran T fs (act ∷ []) old new (Ok tt) → IsDrop T fs act old new
drop_is T fs act old new h no_adds ran = elim ran [
  | inl none ↦ absurd none
  | inr r ↦
      let made = gives_ok (propose_of T old fs act.block (edit_in act old)) old r.1 r.0 r.2 in
      subst (IsDrop T fs act old) (sym r.3.1) (dropped_is T old r.1 h fs act r.0 made no_adds)
]

pub drop_read : (T : Types) (fs : ℕ) (act : Act) (old new : StoreState) → IsConsistent T old → act.edit.adds ≡ [] → Ran T fs (act ∷ []) old new (Ok tt) →
    IsConsistent T new × (readable new fs ≡ with_blocks (written act (readable old fs)) act.edit.drops [])
    × (kinds new fs ≡ with_blocks (kinds old fs) act.edit.drops 0) × (has_number act.edit.drops act.block ≡ false) × (root_of new fs ≡ root_of old fs)
drop_read T fs act old new h no_adds ran = let d = drop_is T fs act old new h no_adds ran in (d.store, d.reads, d.types, d.apart, d.root)
