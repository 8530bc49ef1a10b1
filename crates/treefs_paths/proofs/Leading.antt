-- A step of a path that leads somewhere.
use Rattle.std.proofs.Common.{◌≡◌, ◌⊎◌, ℕ, ◌<◌, List, Bool, Result, Ok, Err, inl, inr, length, sym}
use Rattle.store_types.specs.declared.refusal.Refusal.TheVariants.{NoMemory}
use Rattle.treefs_model.specs.declared.fault.Fault.{Fault}
use Rattle.treefs_model.specs.declared.fault.Fault.TheVariants.{Kernel}
use Rattle.treefs_paths.specs.Ways.{Answers, Leads, Way, goes, stepped, stops}

module _ (content : ℕ → List ℕ) (top : ℕ) (last : Bool) (way first : Way) (some : 0 < length way.rest)
    (all : (result : Result ℕ Fault) → Leads content top last way result → Leads content top last first result) where
  pub stopped : (fault : Fault) → Answers (stepped content top last way) (Err fault) →
      (◌≡◌ {A = Result ℕ Fault} (Err fault) (Err (Kernel NoMemory))) ⊎ Leads content top last first (Err fault)
  stopped fault (inl none) = inl cc
  stopped fault (inr is) = inr (all (Err fault) (stops some (sym is)))

  pub went : (next : Way) → Answers (stepped content top last way) (Ok next) →
      (result : Result ℕ Fault) → Leads content top last next result → Leads content top last first result
  went next (inl none) result rest = cc
  went next (inr is) result rest = all result (goes next some (sym is) rest)
