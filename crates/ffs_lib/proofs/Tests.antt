-- Lemmas of tests and of results.
use Rattle.std.proofs.Common.{◌≡◌, Bool, true, false, ◌&&◌, Result, Ok, Err, refl}
use Rattle.ffs_lib.proofs.Common.{FfsFault}

pub true_false : (t : Bool) → t ≡ true → t ≡ false → ⊥
true_false t e f = cc

pub and_false : (t : Bool) → t && false ≡ false
and_false true = refl
and_false false = refl

pub never : {A : Type 0} (x : A) (fault : FfsFault) → ◌≡◌ {A = Result A FfsFault} (Ok x) (Err fault) → ⊥
never x fault e = cc
