-- One more line of a shell, or none.
use Rattle.std.proofs.Common.{◌≡◌, ℕ, ℤ, Bool, Option, None, Some, Result, Ok, Err, refl, subst, sym}
use Rattle.std.specs.Prelude.{IfOk, IsErr, MatchOption, max}
use Rattle.xn_model.specs.Lives.{StoreState}
use Rattle.xn_model.specs.Types.{Types}
use Rattle.tree_lines.specs.Values.{Volume}
use Rattle.tree_lines.specs.Opening.{with_clock}
use Rattle.tree_changes.specs.Paths.{IsSame}
use Rattle.xnfs_line.specs.Shells.{ShellLineDoes, ShellRuns, ended_status}
use Rattle.xnfs_line.specs.Shells.ShellRuns.{goes_on}
use Rattle.xnfs_line.specs.declared.shell.Ended.{Ended}

-- T: of the first line; T': of the line now, which are the same
module _ (T T' : Types) (same : T' ≡ T) (lazy : Bool) (status folder here folder' : ℕ) (old middle new : StoreState) (volume between volume' : Volume)
    (runs : ShellRuns T lazy status folder here old middle volume between) where
  pub stays_so : (folder' ≡ here) → IsSame middle new between volume' → ShellRuns T lazy status folder folder' old new volume volume'
  stays_so f s =
      subst (λ (n : ℕ). ShellRuns T lazy status folder n old new volume volume') (sym f)
      (subst (λ (v : Volume). ShellRuns T lazy status folder here old new volume v) (sym s.1)
      (subst (λ (w : StoreState). ShellRuns T lazy status folder here old w volume between) (sym s.0) runs))

  abbrev pub Next : Option Ended → Type 0
  Next next = MatchOption next ((folder' ≡ here) × IsSame middle new between volume')
      (λ ended. (time : ℤ) × ShellLineDoes T' lazy (ended_status ended) here folder' middle new (with_clock between time) volume')

  pub none_more : (next : Option Ended) → next ≡ None → Next next → ShellRuns T lazy status folder folder' old new volume volume'
  none_more next is does = stays_at (subst Next is does)
    where
      stays_at : Next None → ShellRuns T lazy status folder folder' old new volume volume'
      stays_at d = stays_so d.0 d.1

  pub one_more : (next : Option Ended) (ended : Ended) (greatest : ℕ) → next ≡ Some ended → greatest ≡ max status (ended_status ended) → Next next →
      ShellRuns T lazy greatest folder folder' old new volume volume'
  one_more next ended greatest is most does = with_line (subst Next is does)
    where
      with_line : Next (Some ended) → ShellRuns T lazy greatest folder folder' old new volume volume'
      with_line d =
          subst (λ (n : ℕ). ShellRuns T lazy n folder folder' old new volume volume') (sym most)
          (goes_on here middle between d.0 (ended_status ended) runs
          (subst (λ (types : Types). ShellLineDoes types lazy (ended_status ended) here folder' middle new (with_clock between d.0) volume') same d.1))

pub nothing_told : {E : Type 0} (status : ℕ) (result : Result ℕ E) → IsErr result → IfOk result (λ told. told ≡ status)
nothing_told status (Ok told) err = absurd (cc err)
nothing_told status (Err fault) err = tt

pub at_time : (T : Types) (lazy : Bool) (status folder folder' : ℕ) (old new : StoreState) (before volume volume' : Volume) (time : ℤ) →
    volume ≡ with_clock before time → ShellLineDoes T lazy status folder folder' old new volume volume' →
    (x : ℤ) × ShellLineDoes T lazy status folder folder' old new (with_clock before x) volume'
at_time T lazy status folder folder' old new before volume volume' time is does =
    (time, subst (λ (v : Volume). ShellLineDoes T lazy status folder folder' old new v volume') is does)
