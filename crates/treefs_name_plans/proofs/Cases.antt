-- Of what holds of a result by its cases, one case; and a directory that is found for a move is found for its new name.
use Rattle.std.proofs.Common.{◌≡◌, ℕ, Bool, false, true, ◌&&◌, Err, Ok, subst, sym, if◌then◌else◌}
use Rattle.std.specs.Prelude.{MatchResult, Result}
use Rattle.treefs_model.specs.Files.{and_then}
use Rattle.treefs_model.specs.declared.fault.Fault.{Fault}
use Rattle.treefs_model.specs.declared.fault.Fault.TheVariants.{BadName}
use Rattle.treefs_lookup.specs.declared.inodes.Found.{Found}

pub of_ok : {A : Type 0} (P : A → Type 0) (E : Fault → Type 0) (r : Result A Fault) (x : A) → r ≡ Ok x → P x → MatchResult r P E
of_ok {A} P E r x is holds = subst (λ (s : Result A Fault). MatchResult s P E) (sym is) holds

-- of a directory that is found, by its block
pub of_block : (P : ℕ → Type 0) (E : Fault → Type 0) (r : Result Found Fault) (block : ℕ) → Ok block ≡ and_then r (λ found. Ok found.block) → P block →
    MatchResult r (λ found. P found.block) E
of_block P E (Ok found) block is holds = let same : block ≡ found.block = cc in subst P same holds
of_block P E (Err fault) block is holds = absurd (cc is)

-- a, b: whether both names are names; old: what the old one leads to
pub no_fault : {A : Type 0} (from to : Result Found Fault) (a b : Bool) (old : ℕ → Result A Fault) (x : A) (fault : Fault) →
    and_then from (λ from. and_then to (λ to. if a && b then old to.block else Err BadName)) ≡ Ok x →
    and_then (and_then to (λ to. if b then Ok to else Err BadName)) (λ to. Ok to.block) ≡ Err fault → ⊥
no_fault (Err f) to a b old x fault is fails = cc is
no_fault (Ok from) (Err f) a b old x fault is fails = cc is
no_fault (Ok from) (Ok to) false b old x fault is fails = cc is
no_fault (Ok from) (Ok to) true false old x fault is fails = cc is
no_fault (Ok from) (Ok to) true true old x fault is fails = cc fails
