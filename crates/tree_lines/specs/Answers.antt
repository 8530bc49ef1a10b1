-- What a line answers of a call.
--     IsTold       its answer is answered; or it had a fault, which is told
--     Answers      the same, with what it did
use Rattle.std.specs.Prelude.{◌≡◌, Result, Ok, Err, MatchResult}
use Rattle.treefs_model.specs.declared.fault.Fault.{Fault}

abbrev pub IsTold : {A E : Type 0} → Result A Fault → Result A E → Type 0
IsTold answer result = MatchResult result (λ made. answer ≡ Ok made) (λ told. (fault : Fault) × (answer ≡ Err fault))

-- Does: what the call did, and answered
abbrev pub Answers : {A E : Type 0} → (Result A Fault → Type 0) → Result A E → Type 0
Answers Does result = MatchResult result (λ answer. Does (Ok answer)) (λ told. (fault : Fault) × Does (Err fault))
