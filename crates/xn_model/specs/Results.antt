-- What a call answers: a value, or the first refusal whose test holds.
--     Gives r old new result           the result of a call that may want memory, and the state after it
--     GivesExactly r old new result    of a call that does not
--     Lends r result                   of a call that lends its answer
use Rattle.std.specs.Prelude.{◌≡◌, Bool, List, [], ◌∷◌, Option, Some, None, Result, Ok, Err, ◌⊎◌, if◌then◌else◌}
use Rattle.std.specs.Borrow.{Bor}
use Rattle.xn_model.specs.Lives.{StoreState}
pub use Rattle.store_types.specs.declared.refusal.Refusal.{Refusal}
pub use Rattle.store_types.specs.declared.refusal.Refusal.TheVariants.{NoMemory, NoSuchBlock, NotInUse, NotYours, BadPatch, BadAfter, NotFresh, NotOwned, NotEmpty}
pub use Rattle.store_types.specs.declared.refusal.Refusal.TheVariants.{ClaimWrong, SizeWrong, TooManyPending, NoSpace, BadType, InFlight, NotMine, Device}
pub use Rattle.store_types.specs.declared.refusal.Refusal.TheVariants.{RootTaken, NothingSafe, Exhausted, Cycle, NotSynced, NoSlot, BadTemplate}

abbrev pub first_refusal : List (Bool × Refusal) → Option Refusal
first_refusal [] = None
first_refusal (t ∷ tests) = if t.0 then Some t.1 else first_refusal tests

abbrev pub unless : {A : Type 0} → Option Refusal → Result A Refusal → Result A Refusal
unless None given = given
unless (Some refusal) given = Err refusal

abbrev pub result_map : {A B : Type 0} → (A → B) → Result A Refusal → Result B Refusal
result_map f (Ok x) = Ok (f x)
result_map f (Err refusal) = Err refusal

abbrev pub result_and_then : {A B : Type 0} → (A → Result B Refusal) → Result A Refusal → Result B Refusal
result_and_then f (Ok x) = f x
result_and_then f (Err refusal) = Err refusal

-- What the definition gives, unless memory is refused: then nothing has changed.
abbrev pub Gives : {A : Type 0} → Result (A × StoreState) Refusal → StoreState → StoreState → Result A Refusal → Type 0
Gives (Ok (answer, after)) old new result = ((result ≡ Ok answer) × (new ≡ after)) ⊎ ((result ≡ Err NoMemory) × (new ≡ old))
Gives (Err refusal) old new result = (result ≡ Err refusal) × (new ≡ old)

abbrev pub GivesExactly : {A : Type 0} → Result (A × StoreState) Refusal → StoreState → StoreState → Result A Refusal → Type 0
GivesExactly (Ok (answer, after)) old new result = (result ≡ Ok answer) × (new ≡ after)
GivesExactly (Err refusal) old new result = (result ≡ Err refusal) × (new ≡ old)

abbrev pub Lends : {A : Type 0} → Result A Refusal → Result (Bor A) Refusal → Type 0
Lends (Ok value) (Ok lent) = lent.now ≡ value
Lends (Ok value) (Err answer) = ⊥
Lends (Err refusal) (Ok lent) = ⊥
Lends (Err refusal) (Err answer) = answer ≡ refusal
