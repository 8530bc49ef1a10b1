-- What flushes keep, where they end and where they are refused or stop.
use Rattle.std.proofs.Common.{ℕ, Result, Ok, Err, IfOk, IfErr}
use Rattle.xn_model.specs.Types.{Types}
use Rattle.xn_model.specs.Lives.{StoreState}
use Rattle.xn_model.specs.Rules.{IsConsistent}
use Rattle.store_types.specs.declared.refusal.Refusal.{Refusal}
use Rattle.xn_kernel.specs.FlushedStates.{KeepsNewest, StateRefuses, StateWaves}
use Rattle.xn_kernel.proofs.ForCallers.{refused_goes, waves_go}

pub waves_keep : (T : Types) (n : ℕ) (old new : StoreState) → IsConsistent T old → StateWaves n old new → IsConsistent T new × KeepsNewest old.lives new.lives
waves_keep T n old new rules w = let goes = waves_go T n old new rules w in (goes.rules, goes.newest)

pub refused_keep : (T : Types) (refusal : Refusal) (old new : StoreState) → IsConsistent T old → StateRefuses old refusal new →
    IsConsistent T new × KeepsNewest old.lives new.lives
refused_keep T refusal old new rules r = let goes = refused_goes T old new refusal rules r in (goes.rules, goes.newest)

-- what follows from its waves and from its refusals holds of each answer
pub always : (told : Result ℕ Refusal) (old new : StoreState) (P : Type 0) → IfOk told (λ n. StateWaves n old new) → IfErr told (λ r. StateRefuses old r new) →
    ((n : ℕ) → StateWaves n old new → P) → ((r : Refusal) → StateRefuses old r new → P) → P
always (Ok n) old new P ok err f g = f n ok
always (Err r) old new P ok err f g = g r err
