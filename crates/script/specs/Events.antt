use Rattle.std.specs.Prelude.{◌≡◌, ◌≢◌, ℕ, Bool, true, false, List, [], ◌∷◌, codes}
use Rattle.std.specs.Fmt.{decimal}
use Rattle.xn_state.specs.declared.call.Call.{Call}
use Rattle.xn_state.specs.declared.call.Call.TheVariants.{Init, Propose, MakeRoot, DropRoot, Forget, Read, Root, Kind, Tainted, Pending, Floor, Free, Pick}
use Rattle.xn_state.specs.declared.call.Call.TheVariants.{Drain}
use Rattle.xn_state.specs.declared.event.Event.{Event}
use Rattle.xn_state.specs.declared.event.Event.TheVariants as event
use Rattle.script.specs.Edits.{SpellsEdit}
use Rattle.script.specs.Hex.{IsBlockText, IsHex, SpellsBlock}
use Rattle.script.specs.Numbers.{SpellsNumber, SpellNumbers}

-- the words of a client's call
abbrev pub SpellsCall : List (List ℕ) → ℕ → Call → Type 0
SpellsCall words fs (Init ty bytes) =
    (type : List ℕ) × (block : List ℕ) × (words ≡ codes "init" ∷ decimal fs ∷ type ∷ block ∷ [])
    × SpellsNumber type ty × IsBlockText block × SpellsBlock block bytes
SpellsCall words fs (Propose block edit) =
    (number : List ℕ) × (rest : List (List ℕ)) × (words ≡ codes "edit" ∷ decimal fs ∷ number ∷ rest)
    × SpellsNumber number block × SpellsEdit rest edit
SpellsCall words fs (MakeRoot block) = (number : List ℕ) × (words ≡ codes "root" ∷ decimal fs ∷ number ∷ []) × SpellsNumber number block
SpellsCall words fs DropRoot = words ≡ codes "unroot" ∷ decimal fs ∷ []
SpellsCall words fs (Forget block) = (number : List ℕ) × (words ≡ codes "forget" ∷ decimal fs ∷ number ∷ []) × SpellsNumber number block
SpellsCall words fs (Read block) = (number : List ℕ) × (words ≡ codes "read" ∷ decimal fs ∷ number ∷ []) × SpellsNumber number block
SpellsCall words fs Pending = words ≡ codes "pending" ∷ decimal fs ∷ []
SpellsCall words fs Floor = words ≡ codes "floor" ∷ decimal fs ∷ []
SpellsCall words fs Pick = (words ≡ codes "pick" ∷ []) × (fs ≡ 0)
SpellsCall words fs Drain = (words ≡ codes "drain" ∷ []) × (fs ≡ 0)
-- no words ask for these
SpellsCall words fs Root = ⊥
SpellsCall words fs (Kind block) = ⊥
SpellsCall words fs (Tainted block) = ⊥
SpellsCall words fs Free = ⊥

-- which bytes stay after a failed write
abbrev pub stays_word : Bool → List ℕ
stays_word true = codes "new"
stays_word false = codes "old"

-- the words of an event
abbrev pub Spells : List (List ℕ) → Event → Type 0
Spells words (event.Call fs call) = SpellsCall words fs.number call
Spells words (event.Install bytes) = (block : List ℕ) × (words ≡ codes "install" ∷ block ∷ []) × IsHex block × SpellsBlock block bytes
Spells words (event.Begin block) = (number : List ℕ) × (words ≡ codes "begin" ∷ number ∷ []) × SpellsNumber number block
Spells words (event.Land block) = (number : List ℕ) × (words ≡ codes "land" ∷ number ∷ []) × SpellsNumber number block
Spells words (event.Fail block stays) = (number : List ℕ) × (words ≡ codes "fail" ∷ number ∷ stays_word stays ∷ []) × SpellsNumber number block
Spells words (event.Sync block) = (number : List ℕ) × (words ≡ codes "sync" ∷ number ∷ []) × SpellsNumber number block
Spells words (event.FailSync block) = (number : List ℕ) × (words ≡ codes "failsync" ∷ number ∷ []) × SpellsNumber number block
Spells words (event.Finish block) = (number : List ℕ) × (words ≡ codes "finish" ∷ number ∷ []) × SpellsNumber number block
Spells words (event.Crash kept) = (numbers : List (List ℕ)) × (words ≡ codes "crash" ∷ numbers) × SpellNumbers numbers kept.items

-- a word that names no step of a write
pub record IsNoWrite (word : List ℕ) : Type 0 where
  pub begin : word ≢ codes "begin"
  pub land : word ≢ codes "land"
  pub sync : word ≢ codes "sync"
  pub failsync : word ≢ codes "failsync"
  pub finish : word ≢ codes "finish"

-- words that spell no event
abbrev pub SpellNothing : List (List ℕ) → Type 0
SpellNothing words = (e : Event) → ¬ Spells words e
