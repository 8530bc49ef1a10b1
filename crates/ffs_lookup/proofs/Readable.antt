-- What is reached from a root slot in the newest bytes can be read.
use Rattle.std.proofs.Common.{◌≡◌, ℕ, ◌<◌, ◌≢◌, Bool, true, false, List, [], ◌∷◌, Some, refl, sym, ◌∙◌, ap, subst, eq-eqb, Contains, Result, Ok, Err, not}
use Rattle.std.proofs.lemmas.List.Elements.{Contains-append_right}
use Rattle.std.proofs.lemmas.Option.{same_Some}
use Rattle.store_types.specs.declared.refusal.Refusal.{Refusal}
use Rattle.store_types.specs.declared.refusal.Refusal.TheVariants.{NotInUse, NotYours}
use Rattle.store_types.specs.declared.status.Status.TheVariants.{Owned}
use Rattle.xn_model.specs.Types.{Types}
use Rattle.xn_model.specs.Root.{slot, owned_by_root, templates_of, roots_of}
use Rattle.xn_model.specs.Lives.{Life, StoreState, life_at, bytes_of, current, is_dropped, is_for}
use Rattle.xn_model.specs.Results.{Lends, first_refusal, result_map, unless}
use Rattle.xn_model.specs.Calls.{kind_of, life_bytes, own_life, own_place, read_of}
use Rattle.xn_model.specs.Rules.{IsConsistent, IsOwnedBy, NamedIn}
use Rattle.xn_model.proofs.ForCallers.{place_from, roots_from}
use Rattle.ffs_model.specs.Cuts.{Under, root, step, latest}
use Rattle.ffs_model.proofs.ForCallers.{held}

-- A block that its file system may read, of a type.
pub record IsReadable (state : StoreState) (fs c u : ℕ) : Type 0 where
  pub reads : read_of state fs c ≡ Ok (latest state.lives c)
  pub kind : kind_of state fs c ≡ Ok u

module _ (T : Types) (state : StoreState) (h : IsConsistent T state) (fs : ℕ) (few : fs < 32) where
  pub readable : (c u : ℕ) → Under T (latest state.lives) fs c u → IsReadable state fs c u
  readable c u r =
      let x = held T state h fs few c u r in
      record {
        reads = ap (result_map current) x.own ∙ ap Ok (sym (ap life_bytes x.alive));
        kind = ap (result_map (λ (l : Life). l.ty)) x.own ∙ ap Ok x.ty;
      }

lends_some : {A : Type 0} (r : Result A Refusal) (value : A) (refusal : Refusal) → r ≡ Ok value → Lends r (Err refusal) → ⊥
lends_some (Ok x) value refusal e h = h
lends_some (Err y) value refusal e h = cc

-- so reading it is not refused
pub not_refused : (T : Types) (state : StoreState) → IsConsistent T state → (fs : ℕ) → fs < 32 → (c u : ℕ) → Under T (latest state.lives) fs c u → (refusal : Refusal) → Lends (read_of state fs c) (Err refusal) → ⊥
not_refused T state h fs few c u r refusal lends = lends_some (read_of state fs c) (latest state.lives c) refusal (readable T state h fs few c u r).reads lends
