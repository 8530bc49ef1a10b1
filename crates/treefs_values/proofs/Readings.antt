-- What a file system may read, before an edit and after it.
use mathlib.Core.Path.{fun_ext}
use Rattle.std.proofs.Common.{◌≡◌, ◌≢◌, ◌⊎◌, ℕ, Bool, true, false, cond, not, [], ◌∷◌, Option, None, Some, Ok, refl, sym, ◌∙◌, ap, inl, inr, subst, if◌then◌else◌}
use Rattle.std.specs.Prelude.{All, Contains, List, option_map, slice_get, unwrap_or, ◌&&◌}
use Rattle.std.proofs.lemmas.Bool.{cases_eq, eq-eqb}
use Rattle.std.proofs.lemmas.List.Elements.{All-head, All-tail}
use Rattle.std.proofs.lemmas.Option.{same_Some}
use Rattle.xn_model.specs.Lists.{blocks_of, has_number}
use Rattle.store_types.specs.declared.status.Status.TheVariants.{Dropped, Fresh, Owned}
use Rattle.xn_model.specs.Types.{Types}
use Rattle.xn_model.specs.Lives.{BlockState, Life, StoreState, current, is_dropped, is_for, life_at}
use Rattle.xn_model.specs.Calls.{edited, latest, life_bytes, own_place, patched, propose_of}
use Rattle.xn_model.specs.Results.{first_refusal, result_map, unless}
use Rattle.store_types.specs.declared.refusal.Refusal.TheVariants.{NotInUse, NotYours}
use Rattle.xn_model.specs.Rules.{IsConsistent}
use Rattle.xn_model.proofs.ForCallers.{accepted, blocks_of_at, each_at, has_number_at, propose_keeps}
use Rattle.ffs_model.proofs.ForCallers.{proposed, proposed_here, proposed_others}
use Rattle.treefs_model.specs.Acts.{Act, Ran, edit_in}
use Rattle.treefs_model.specs.Edited.{type_at, type_in}
use Rattle.treefs_model.proofs.Edited.{edited_is, gives_ok}
use Rattle.treefs_lookup.specs.Readable.{answered, readable}
use Rattle.treefs_edits.specs.Written.{all_written, written}
use Rattle.treefs_values.proofs.Putting.{written_here, written_other}
use Rattle.treefs_values.specs.Values.{KeepsBlocks}
use Rattle.treefs_values.specs.Kinds.{kind_or_none, kinds}

-- its own, and not dropped
abbrev pub may_read : ℕ → Option Life → Bool
may_read fs None = false
may_read fs (Some l) = not (is_dropped l.status) && is_for fs l.fs

-- of a test of a life, and its place
module _ (fs : ℕ) where
  own_bytes : (l : Life) → answered (result_map current (own_place fs (Some (Some l)))) ≡ (if may_read fs (Some l) then current l else [])
  own_bytes l = by (is_dropped l.status) (is_for fs l.fs)
    where
      by : (d m : Bool) → answered (result_map current (unless (first_refusal ((d, NotInUse) ∷ (not m, NotYours) ∷ [])) (Ok l))) ≡ (if not d && m then current l else [])
      by true m = refl
      by false true = refl
      by false false = refl

  own_kind : (l : Life) → kind_or_none (result_map (λ (m : Life). m.ty) (own_place fs (Some (Some l)))) ≡ (if may_read fs (Some l) then l.ty else 0)
  own_kind l = by (is_dropped l.status) (is_for fs l.fs)
    where
      by : (d m : Bool) → kind_or_none (result_map (λ (m : Life). m.ty) (unless (first_refusal ((d, NotInUse) ∷ (not m, NotYours) ∷ [])) (Ok l))) ≡ (if not d && m then l.ty else 0)
      by true m = refl
      by false true = refl
      by false false = refl

  abbrev flat : Option (Option Life) → Option Life
  flat o = unwrap_or o None

  bytes_at : (o : Option (Option Life)) → answered (result_map current (own_place fs o)) ≡ (if may_read fs (flat o) then life_bytes (flat o) else [])
  bytes_at None = refl
  bytes_at (Some None) = refl
  bytes_at (Some (Some l)) = own_bytes l

  kind_at : (o : Option (Option Life)) → kind_or_none (result_map (λ (m : Life). m.ty) (own_place fs o)) ≡ (if may_read fs (flat o) then type_in (flat o) else 0)
  kind_at None = refl
  kind_at (Some None) = refl
  kind_at (Some (Some l)) = own_kind l

pub readable_is : (state : StoreState) (fs b : ℕ) → readable state fs b ≡ (if may_read fs (life_at state.lives b) then latest state.lives b else [])
unfolding readable
readable_is state fs b = bytes_at fs (slice_get state.lives b)

pub kinds_are : (state : StoreState) (fs b : ℕ) → kinds state fs b ≡ (if may_read fs (life_at state.lives b) then type_at state.lives b else 0)
unfolding kinds
kinds_are state fs b = kind_at fs (slice_get state.lives b)

-- An edit that drops nothing

module _ (T : Types) (old new : StoreState) (h : IsConsistent T old) (fs : ℕ) (act : Act) (entry : ℕ) (done : propose_of T old fs act.block (edit_in act old) ≡ Ok (entry, new))
    (no_drops : act.edit.drops ≡ []) where
  abbrev b : ℕ
  b = act.block

  now_at : (c : ℕ) → (may_read fs (life_at new.lives c) ≡ may_read fs (life_at old.lives c)) × (type_at new.lives c ≡ type_at old.lives c)
  now_at c =
      let p = proposed T old new fs b (edit_in act old) entry done in
      let s : BlockState = edited old.next fs (edit_in act old) p.life in
      let is : life_at new.lives c ≡ option_map (accepted b s c) (life_at old.lives c) = ap (λ xs. life_at xs c) p.lives ∙ each_at (accepted b s) old.lives c in
      subst (λ o. (may_read fs o ≡ may_read fs (life_at old.lives c)) × (type_in o ≡ type_in (life_at old.lives c))) (sym is)
      (same s (life_at old.lives c) refl refl no_drops (λ u added. (edited_is T fs act old new entry h done).fresh c u added))
    where
      -- what is added had no owner, so it could be read
      same : (s : BlockState) (o : Option Life) → life_at old.lives c ≡ o → s.adds ≡ act.edit.adds → s.drops ≡ [] →
          ((u : ℕ) → Contains act.edit.adds (c, u) → (l : Life) × (life_at old.lives c ≡ Some l) × (l.status ≡ Fresh)) →
          (may_read fs (option_map (accepted b s c) o) ≡ may_read fs o) × (type_in (option_map (accepted b s c) o) ≡ type_in o)
      same s None at adds none fresh = (refl, refl)
      same s (Some l) at adds none fresh = (by (has_number (blocks_of s.adds) c) refl, refl)
        where
          by : (t : Bool) → has_number (blocks_of s.adds) c ≡ t →
              (not (is_dropped (cond (has_number (blocks_of s.adds) c) (Owned b) (cond (has_number s.drops c) (Dropped b) l.status))) && is_for fs l.fs) ≡ (not (is_dropped l.status) && is_for fs l.fs)
          by true e =
              let added = blocks_of_at act.edit.adds c (has_number_at (blocks_of act.edit.adds) c (ap (λ a. has_number (blocks_of a) c) (sym adds) ∙ e)) in
              let f = fresh added.0 added.1 in
              let is_fresh : l.status ≡ Fresh = ap (λ (x : Life). x.status) (same_Some l f.0 (sym at ∙ f.1)) ∙ f.2 in
              ap (λ t. not (is_dropped (cond t (Owned b) (cond (has_number s.drops c) (Dropped b) l.status))) && is_for fs l.fs) e
              ∙ sym (ap (λ t. not (is_dropped t) && is_for fs l.fs) is_fresh)
          by false e =
              ap (λ t. not (is_dropped (cond t (Owned b) (cond (has_number s.drops c) (Dropped b) l.status))) && is_for fs l.fs) e
              ∙ ap (λ d. not (is_dropped (cond (has_number d c) (Dropped b) l.status)) && is_for fs l.fs) none

  -- what is edited may be read
  may_edit : may_read fs (life_at old.lives b) ≡ true
  may_edit =
      let p = proposed T old new fs b (edit_in act old) entry done in
      ap (may_read fs) p.own.alive ∙ (λ j. not (p.own.in_use j) && (is_for fs (p.own.mine j))) ∙ eq-eqb fs fs refl

  pub reads_written : readable new fs ≡ written act (readable old fs)
  reads_written = fun_ext (λ c. readable_is new fs c ∙ (ap (λ t. if t then latest new.lives c else []) (now_at c).0 ∙ at c (cases_eq c b)))
    where
      at : (c : ℕ) → (c ≡ b) ⊎ (c ≢ b) → (if may_read fs (life_at old.lives c) then latest new.lives c else []) ≡ written act (readable old fs) c
      at c (inl same) =
          ap (λ x. if may_read fs (life_at old.lives x) then latest new.lives x else []) same
          ∙ (ap (λ t. if t then latest new.lives b else []) may_edit
          ∙ (proposed_here T old new h fs b (edit_in act old) entry done
          ∙ (ap (λ m. patched m act.edit.patches) (sym (readable_is old fs b ∙ ap (λ t. if t then latest old.lives b else []) may_edit))
          ∙ (sym (written_here act (readable old fs) b refl) ∙ ap (written act (readable old fs)) (sym same)))))
      at c (inr ne) =
          ap (λ m. if may_read fs (life_at old.lives c) then m else []) (proposed_others T old new h fs b (edit_in act old) entry done c ne)
          ∙ (sym (readable_is old fs c) ∙ sym (written_other act (readable old fs) c ne))

  pub kinds_stay : kinds new fs ≡ kinds old fs
  kinds_stay = fun_ext (λ c. kinds_are new fs c
      ∙ ((λ j. if (now_at c).0 j then (now_at c).1 j else 0) ∙ sym (kinds_are old fs c)))

-- Such edits, one after another
pub acts_read : (T : Types) (fs : ℕ) (acts : List Act) (old new : StoreState) → IsConsistent T old → All KeepsBlocks acts → Ran T fs acts old new (Ok tt) →
    IsConsistent T new × (readable new fs ≡ all_written acts (readable old fs)) × (kinds new fs ≡ kinds old fs)
acts_read T fs [] old new h plain ran = (subst (IsConsistent T) (sym ran.1) h, ap (λ s. readable s fs) ran.1, ap (λ s. kinds s fs) ran.1)
acts_read T fs (act ∷ acts) old new h plain ran = elim ran [
  | inl none ↦ absurd none
  | inr r ↦
      let made = gives_ok (propose_of T old fs act.block (edit_in act old)) old r.1 r.0 r.2 in
      let one = All-head KeepsBlocks act acts plain in
      let rest = acts_read T fs acts r.1 new (propose_keeps T old h fs act.block (edit_in act old) r.0 r.1 made).consistent (All-tail KeepsBlocks act acts plain) r.3 in
      (rest.0, rest.1 ∙ ap (all_written acts) (reads_written T old r.1 h fs act r.0 made one), rest.2 ∙ kinds_stay T old r.1 h fs act r.0 made one)
]
