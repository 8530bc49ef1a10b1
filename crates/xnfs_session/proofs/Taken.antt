-- A write takes at most the bytes that it is given.
use Rattle.std.proofs.Common.{ℕ, ◌≤◌, List, length, Option, Result, Ok, Err, sym, subst, IfOk}
use Rattle.xn_model.specs.Types.{Types}
use Rattle.xn_model.specs.Lives.{StoreState}
use Rattle.ffs_lookup.specs.declared.fault.FfsFault.{FfsFault}
use Rattle.ffs_lookup.specs.Files.{Answer, Files}
use Rattle.ffs_lib.specs.Written.{DoesSome}

pub few : (T : Types) (fs : ℕ) (files : Files) (after : ℕ → Option ℕ) (n offset : ℕ) (bytes : List ℕ) (answer : Answer (Unit {0})) (old new : StoreState) (result : Result ℕ FfsFault) →
    DoesSome T fs files after n offset bytes answer old new result → IfOk result (λ count. count ≤ length bytes)
few T fs files after n offset bytes (Err fault) old new result w = subst (λ (r : Result ℕ FfsFault). IfOk r (λ count. count ≤ length bytes)) (sym w.0) tt
few T fs files after n offset bytes (Ok next) old new (Ok count) w = w.few
few T fs files after n offset bytes (Ok next) old new (Err fault) w = tt
