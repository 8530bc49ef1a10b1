-- What the installation of a template decides before it changes anything, what it tells, and the lives that it leaves.
--     install_places state                 the place of the catalogue and the block that it takes, or the first refusal
--     installed_of made                    what is told of it, as the model has it
--     installed_lives lives b n m root     block b begins with the template m as entry n, and block 0 names it by the bytes root
use Rattle.std.specs.Prelude.{ℕ, ◌+◌, ◌-◌, ◌^◌, List, [], ◌∷◌, Some, None, Result, Ok, is_none, nat_le, slice_set, unwrap_or}
use Rattle.xn_model.specs.Lives.{BlockState, Lives, StoreState, accepted_at, life_at, lowest_free}
use Rattle.store_types.specs.declared.refusal.Refusal.{Refusal}
use Rattle.store_types.specs.declared.refusal.Refusal.TheVariants.{NoMemory, TooManyPending, NoSpace, Exhausted, NoSlot, BadTemplate}
use Rattle.xn_model.specs.Results.{first_refusal, unless}
use Rattle.xn_model.specs.Calls.{empty_place, life_pending, new_life, root_now}
use Rattle.templates.specs.declared.fault.TemplateFault.{TemplateFault}
use Rattle.templates.specs.declared.fault.TemplateFault.TheVariants as fault
use Rattle.xn_state.specs.declared.installed.Installed.{Installed}

abbrev pub install_places : StoreState → Result (ℕ × ℕ) Refusal
install_places state = unless (first_refusal (
    (is_none (empty_place (root_now state)), NoSlot)
    ∷ (nat_le 64 (life_pending (life_at state.lives 0)), TooManyPending)
    ∷ (nat_le (2 ^ 64 - 1) (state.next + 1), Exhausted)
    ∷ (is_none (lowest_free state.lives), NoSpace)
    ∷ [])) (Ok (unwrap_or (empty_place (root_now state)) 0, unwrap_or (lowest_free state.lives) 0))

-- what is refused where a block has this fault
abbrev pub template_refusal : TemplateFault → Refusal
template_refusal fault.NoMemory = NoMemory
template_refusal fault.BadMark = BadTemplate
template_refusal fault.BadCode = BadTemplate
template_refusal fault.NotVerified = BadTemplate
template_refusal fault.BytesAfter = BadTemplate

-- the type, the block and the first entry; the second is the next number
abbrev pub installed_of : Installed → ℕ × ℕ × ℕ
installed_of made = (made.ty, made.block, made.edits.0)

-- the entry by which block 0 names a template
abbrev pub naming : ℕ → ℕ → List ℕ → BlockState
naming entry b root = record { bytes = root; entry = entry; adds = (b, 1) ∷ []; drops = []; after = None; fs = None }

abbrev pub installed_lives : Lives → ℕ → ℕ → List ℕ → List ℕ → Lives
installed_lives lives b n m root = accepted_at (slice_set lives b (Some (new_life n None 1 m))) 0 (naming (n + 1) b root)
