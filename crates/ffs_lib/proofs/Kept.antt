-- What stays where a call is refused, and how the parts of a step come together.
use Rattle.std.proofs.Common.{◌≡◌, ◌≢◌, ℕ, ◌<◌, List, Option, Result, Ok, Err, sym, subst, ap, ◌∙◌, OnOk, OnErr}
use Rattle.ffs_lib.proofs.Common.{Gives, GivesExactly, Refusal, StoreState, Types, VolumeKeeps, forget_of, init_of, library_layout, life_at, none-some}
use Rattle.xn_model.proofs.ForCallers.{gives_exactly_keeps}
use Rattle.ffs_model.proofs.ForCallers.{ended_keeps, library_reads, started}
use Rattle.ffs_lib.specs.Outcomes.{Keeps}
use Rattle.ffs_lookup.proofs.ForCallers.{gives_err}

pub refused : {A : Type 0} (T : Types) (fs : ℕ) (array : ℕ → Option ℕ) (r : Result (A × StoreState) Refusal) (old new : StoreState) (refusal : Refusal) → Gives r old new (Err refusal) →
    VolumeKeeps T library_layout fs array old → VolumeKeeps T library_layout fs array new
refused T fs array r old new refusal h v = subst (VolumeKeeps T library_layout fs array) (sym (gives_err r old new refusal h)) v

pub forgets : (T : Types) (fs : ℕ) → fs < 32 → (x block : ℕ) (old new : StoreState) (result : Result (Unit {0}) Refusal) → GivesExactly (forget_of T old x block) old new result → Keeps T fs old new
forgets T fs few x block old new result h lib array v =
    gives_exactly_keeps (VolumeKeeps T library_layout fs array) (forget_of T old x block) old new result h v
    (λ done e. ended_keeps T library_layout (library_reads T lib) fs few array old new v x block done e)

pub on_err : {A E : Type 0} (r : Result A E) {P : Type 0} → P → OnErr r P
on_err (Ok x) p = tt
on_err (Err e) p = p

-- a block that begins its life is not block 0
pub begun_there : (T : Types) (fs : ℕ) (array : ℕ → Option ℕ) (old new : StoreState) → VolumeKeeps T library_layout fs array old → (x ty : ℕ) (bytes : List ℕ) (block number : ℕ) →
    init_of T old x ty bytes ≡ Ok ((block, number), new) → block ≢ 0
begun_there T fs array old new v x ty bytes block number done e =
    let top = v.consistent.lives_sound.root in
    none-some top.life (sym (started T old new x ty bytes (block, number) done).free ∙ (ap (life_at old.lives) e ∙ top.alive))

pub on_ok : {A E : Type 0} (r : Result A E) {P : Type 0} → P → OnOk r P
on_ok (Ok x) p = p
on_ok (Err e) p = tt
