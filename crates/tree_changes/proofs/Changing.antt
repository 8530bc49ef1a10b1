-- A file is there or is made, and then something is done with its number.
use Rattle.std.proofs.Common.{◌≡◌, ◌∙◌, ℕ, ℤ, Bool, true, false, List, Option, None, Some, Result, Ok, Err, ap, inr, refl, subst, unwrap_or}
use Rattle.xn_model.specs.Lives.{StoreState}
use Rattle.xn_model.specs.Types.{Types}
use Rattle.treefs_model.specs.declared.fault.Fault.{Fault}
use Rattle.tree_lines.specs.Values.{Volume}
use Rattle.tree_lines.specs.Answers.{Answers}
use Rattle.tree_changes.specs.Files.{ChangesAt, FindsOrCreates, IsUnchanged, MtimeIfAny, MtimeIn, TouchesIn, mtime_set}
use Rattle.tree_changes.specs.Paths.{AtPath}

-- Does: of the types and the folder that stay
pub changed_answered : {E : Type 0} (Does : Types → ℕ → ℕ → Bool → StoreState → StoreState → Volume → Volume → Result (Unit {0}) Fault → Type 0)
    (T types : Types) (top folder : ℕ) → types ≡ T → folder ≡ top → (path : List ℕ) (old middle new : StoreState) (volume between volume' : Volume) (number : ℕ)
    (is_new : Bool) → FindsOrCreates T top path number is_new old middle volume between → (result : Result (Unit {0}) E) →
    Answers (Does types folder number is_new middle new between volume') result →
    AtPath (λ path old new volume volume'. ChangesAt (Does T top) T top path old new volume volume' (Ok tt)) (IsUnchanged (Does T top) T top) path old new volume
    volume' result
changed_answered Does T types top folder types_are folder_is path old middle new volume between volume' number is_new there (Ok done) does =
    let at = subst (λ (t : Types). Does t folder number is_new middle new between volume' (Ok tt)) types_are does in
    (number, is_new, middle, between, there, subst (λ (n : ℕ). Does T n number is_new middle new between volume' (Ok tt)) folder_is at)
changed_answered Does T types top folder types_are folder_is path old middle new volume between volume' number is_new there (Err fault) does =
    let at = subst (λ (t : Types). Does t folder number is_new middle new between volume' (Err does.0)) types_are does.1 in
    let so = subst (λ (n : ℕ). Does T n number is_new middle new between volume' (Err does.0)) folder_is at in
    inr (does.0, (number, is_new, middle, between, there, so))

-- times

pub new_touched : (time : Option ℤ) (T : Types) (folder number : ℕ) (is_new : Bool) (state : StoreState) (volume : Volume) → time ≡ None → is_new ≡ true →
    TouchesIn time T folder number is_new state state volume volume (Ok tt)
new_touched time T folder number is_new state volume none new = rw (none, new) ((refl, refl), refl)

mtime_is : (time : Option ℤ) (is_new : Bool) (clock mtime : ℤ) → (time ≡ None → is_new ≡ false) → mtime ≡ unwrap_or time clock →
    Some mtime ≡ mtime_set time is_new clock
mtime_is None true clock mtime old is = let wrong = old refl in cc
mtime_is None false clock mtime old is = ap (λ (t : ℤ). Some t) is
mtime_is (Some t) is_new clock mtime old is = ap (λ (u : ℤ). Some u) is

pub touched_answers : {E : Type 0} (time : Option ℤ) (T : Types) (folder number : ℕ) (is_new : Bool) (clock mtime : ℤ) (old new : StoreState) (volume volume' : Volume)
    (result : Result (Unit {0}) E) → (time ≡ None → is_new ≡ false) → clock ≡ volume.memory.clock → mtime ≡ unwrap_or time clock →
    Answers (MtimeIn T folder number mtime old new volume volume') result → Answers (TouchesIn time T folder number is_new old new volume volume') result
touched_answers time T folder number is_new clock mtime old new volume volume' result known now is does =
    let at = mtime_is time is_new volume.memory.clock mtime known (is ∙ ap (λ (t : ℤ). unwrap_or time t) now) in
    subst (λ (m : Option ℤ). Answers (MtimeIfAny T folder number m old new volume volume') result) at does
