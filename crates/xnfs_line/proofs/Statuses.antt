-- What the status of a line tells, and what its volume is closed behind.
use Rattle.std.proofs.Common.{◌≡◌, ◌⊎◌, ℕ, ℤ, ◌<◌, List, [], ◌∷◌, length, Result, Ok, Err, inl, inr, refl, subst, sym, arith}
use Rattle.std.specs.Prelude.{IfOk}
use Rattle.xn_model.specs.Lives.{StoreState}
use Rattle.xn_model.specs.Types.{Types}
use Rattle.edit_list.specs.declared.fs.Fs.{Fs}
use Rattle.xnfs_words.specs.declared.word.Word.{Word}
use Rattle.tree_lines.specs.Values.{BlockTypes, Volume}
use Rattle.tree_lines.specs.Opening.{Closes}
use Rattle.tree_lines.specs.declared.told.Told.{Told}
use Rattle.xnfs_line.specs.Lines.{AskedDoes, ChangesVolume, IsReady}

-- before: what was to be told; told: what is told of it
pub nothing_left : {A B : Type 0} (status : ℕ) (before : List A) (told seen : List B) → seen ≡ told → (0 < length before → 0 < length told) →
    ((status ≡ 0) × (length seen ≡ 0)) ⊎ (status ≡ 1) → ((status ≡ 0) × (length before ≡ 0)) ⊎ (status ≡ 1)
nothing_left status [] told seen is some (inl done) = inl (done.0, refl)
nothing_left status (fault ∷ faults) told seen is some (inl done) =
    let more = some (omega arith) in
    let none = subst (λ (s : List _). length s ≡ 0) is done.1 in
    absurd (omega (arith, more, none))
nothing_left status before told seen is some (inr failed) = inr failed

pub closed_behind : {X E F : Type 0} (state : X → StoreState) (T T' : Types) (fs : Fs) (types : BlockTypes) (time : ℤ) (word : Word)
    (old begun left : StoreState) (volume volume' : Volume) (first folder : ℕ) (told : Told) (done : Result ℕ E) (ended : Result (Result ℕ E × X) F) →
    T' ≡ T → IsReady T fs types time old begun volume → (first ≡ 1) × (length told.faults.items ≡ 0) →
    AskedDoes T' word first folder begun left volume volume' told done → IfOk ended (λ e. e.0 ≡ done) → IfOk ended (λ e. Closes T' left (state e.1) volume') →
    IfOk ended (λ e. ChangesVolume T fs types time word old (state e.1) e.0)
closed_behind state T T' fs types time word old begun left volume volume' first folder told done (Ok ended) same ready fresh does is closes = (
  begun,
  volume,
  left,
  volume',
  folder,
  told,
  ready,
  fresh.1,
  subst (λ t. AskedDoes t word 1 folder begun left volume volume' told ended.0) same
      (subst (λ r. AskedDoes T' word 1 folder begun left volume volume' told r) (sym is)
      (subst (λ f. AskedDoes T' word f folder begun left volume volume' told done) fresh.0 does)),
  subst (λ t. Closes t left (state ended.1) volume') same closes,
)
closed_behind state T T' fs types time word old begun left volume volume' first folder told done (Err fault) same ready fresh does is closes = tt
