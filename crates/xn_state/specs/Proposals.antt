-- What an edit and the end of a root slot decide before they change anything.
use Rattle.std.specs.Prelude.{◌≡◌, ℕ, Bool, not, ◌&&◌, List, [], ◌∷◌, Option, Some, Result, Ok, IsTrue, is_some, IfOk, IfSome}
use Rattle.std.specs.List.{list_all}
use Rattle.xn_model.specs.Lists.{blocks_of, distinct, has_number}
use Rattle.xn_model.specs.Types.{Types, named_once, within_size}
use Rattle.xn_model.specs.Root.{with_slot}
use Rattle.xn_model.specs.Lives.{BlockState, Life, StoreState, chain_end, current, life_at}
use Rattle.store_types.specs.declared.refusal.Refusal.{Refusal}
use Rattle.store_types.specs.declared.refusal.Refusal.TheVariants.{BadPatch, BadAfter, NotFresh, NotOwned, NotEmpty, ClaimWrong, SizeWrong, TooManyPending}
use Rattle.store_types.specs.declared.refusal.Refusal.TheVariants.{Exhausted, Cycle}
use Rattle.xn_model.specs.Results.{first_refusal, unless, result_and_then, result_map}
use Rattle.claims.specs.Owners.{is_claimed, owned_count}
use Rattle.claims.specs.Decided.{newest_at}
use Rattle.templates.specs.Decided.{DecidesOwned}
use Rattle.udf_run.specs.declared.reads.ReadSet.{ReadSet}
use Rattle.block_cache.specs.declared.life.Facts.{Facts}
use Rattle.xn_model.specs.Calls.{Edit, own_life, too_many, exhausted, within_limits, was_given, may_add, may_drop, is_empty, patched, propose_refusal}
use Rattle.xn_model.specs.Calls.{drop_root_refusal, root_now, slot_now}

-- the tests of an edit, by what is known of the block and its newest bytes: row by row those of the model, but that the claim
-- is read off the statuses
abbrev pub last_tests : Types → StoreState → ℕ → Edit → ℕ → List ℕ → List (Bool × Refusal)
last_tests T state b e ty new =
    (not (is_claimed state.lives b (owned_count state.lives b) (T.owned ty new) e.adds e.drops && named_once T ty new), ClaimWrong)
    ∷ (not (within_size T ty new), SizeWrong)
    ∷ []

-- an edit within the limits, of a block in use with this installed type and these newest bytes, which adds blocks that a file system may add, each once
pub record IsEditOf (T : Types) (state : StoreState) (b ty : ℕ) (old : List ℕ) (e : Edit) : Type 0 where
  pub alive : IsTrue (is_some (life_at state.lives b))
  pub installed : IsTrue (T.installed ty)
  pub newest : newest_at state.lives b ≡ Some (ty, old)
  pub limits : IsTrue (within_limits e)
  pub added : (fs : ℕ) × IsTrue (list_all (may_add state fs) e.adds && distinct (blocks_of e.adds))

-- what those tests answer of it: the first refusal that applies, or the chunks that decide what the block owns with its new bytes, where
-- they are known
pub record IsLeftBy (T : Types) (state : StoreState) (b : ℕ) (e : Edit) (ty : ℕ) (new : List ℕ) (answer : Result (Option ReadSet) Refusal) : Type 0 where
  pub plan : result_map (λ reads. new) answer ≡ unless (first_refusal (last_tests T state b e ty new)) (Ok new)
  pub reads : IfOk answer (λ reads. IfSome reads (λ set. DecidesOwned T ty new set.chunks))

abbrev pub propose_tests : Types → StoreState → ℕ → ℕ → Edit → Facts → List ℕ → List (Bool × Refusal)
propose_tests T state fs b e facts old =
    (too_many state fs facts.pending, TooManyPending)
    ∷ (exhausted state, Exhausted)
    ∷ (not (within_limits e), BadPatch)
    ∷ (not (was_given state e.after), BadAfter)
    ∷ (not (list_all (may_add state fs) e.adds && distinct (blocks_of e.adds)), NotFresh)
    ∷ (has_number (blocks_of e.adds) (chain_end state.lives b), Cycle)
    ∷ (not (list_all (may_drop state b) e.drops && distinct e.drops), NotOwned)
    ∷ (not (list_all (is_empty T state) e.drops), NotEmpty)
    ∷ last_tests T state b e facts.ty (patched old e.patches)

abbrev pub edited_with : Types → StoreState → ℕ → ℕ → Edit → Facts → List ℕ → Result (List ℕ) Refusal
edited_with T state fs b e facts old = unless (first_refusal (propose_tests T state fs b e facts old)) (Ok (patched old e.patches))

-- the block's bytes after an edit
abbrev pub proposed_at : Types → StoreState → ℕ → ℕ → Edit → Life → Result (List ℕ) Refusal
proposed_at T state fs b e l = unless (propose_refusal T state fs b e l) (Ok (patched (current l) e.patches))

abbrev pub proposed_of : Types → StoreState → ℕ → ℕ → Edit → Result (List ℕ) Refusal
proposed_of T state fs b e = result_and_then (proposed_at T state fs b e) (own_life state fs b)

-- block 0's bytes with the slot empty, and the block that stood there
abbrev pub drop_root_plan : Types → StoreState → ℕ → Result (List ℕ × ℕ) Refusal
drop_root_plan T state fs = unless (drop_root_refusal T state fs) (Ok (with_slot (root_now state) fs (0, 0), (slot_now state fs).0))

-- the entry that a block accepts
abbrev pub accepted_entry : StoreState → ℕ → List ℕ → List (ℕ × ℕ) → List ℕ → Option ℕ → BlockState
accepted_entry state fs bytes adds drops after = record { bytes = bytes; entry = state.next; adds = adds; drops = drops; after = after; fs = Some fs }
