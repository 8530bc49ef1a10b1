use Rattle.std.proofs.Common.{◌≡◌, drop}
use Rattle.std.specs.Prelude.{is_none}
use Rattle.std.specs.List.{list_all}
use Rattle.xn_model.specs.PendingIn.{newest_entry_of}
use Rattle.treefs_mending.proofs.rewritings.are_calm.Given as goal

-- those so far are calm
abbrev pub invariant-loop-act : goal.invariant-loop-act
invariant-loop-act g l =
    let state = g.S.Store.state_of l.store in
    list_all (λ act. is_none (newest_entry_of state act.block)) l.acts
    ≡ list_all (λ act. is_none (newest_entry_of state act.block)) (drop l.act-index l.acts)
