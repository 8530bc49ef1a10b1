use Rattle.std.proofs.Common.{◌∷◌, [], Ok, ap, ◌∙◌, string_bytes}
use Rattle.system_files.specs.Calls.{Make, MakesNone, is_made, with_calls}
use Rattle.system_files.proofs.Made.{makes_one, misses_one, on_err}
use Rattle.system_files.proofs.replacing.make_beside.Goals as goal

pub returns-in_err-file-clause-fault : goal.returns-in_err-file-clause-fault
returns-in_err-file-clause-fault g c =
    on_err (MakesNone (g.Y.System.calls c.args.system.now) (g.Y.System.calls c.make.new.self)) c.from_residual-in_err-file.result
    (misses_one (g.Y.System.calls c.args.system.now) (g.Y.System.calls c.loop-number.system) (g.Y.System.calls c.make.new.self) c.as_str.result.now (is_made c.make.result)
    (ap is_made c.in_err-file.was) c.loop-number.invariant c.make.ensures)

pub returns-in-Some-clause-made : goal.returns-in-Some-clause-made
returns-in-Some-clause-made g c =
    makes_one (g.Y.System.calls c.args.system.now) (g.Y.System.calls c.loop-number.system) (g.Y.System.calls c.make.new.self) c.args.path.now (string_bytes c.in_ok-name.name)
    c.loop-number.number (is_made c.make.result) (ap is_made (c.in_ok-file.was ∙ ap Ok c.in-Some.is)) c.loop-number.invariant c.in_ok-name.ensures
    (c.make.ensures ∙ ap (λ name. with_calls (g.Y.System.calls c.loop-number.system) ((Make name, is_made c.make.result) ∷ [])) c.as_str.ensures.value)

pub loop-number-preserved : goal.loop-number-preserved
loop-number-preserved g c =
    misses_one (g.Y.System.calls c.args.system.now) (g.Y.System.calls c.loop-number.system) (g.Y.System.calls c.make.new.self) c.as_str.result.now (is_made c.make.result)
    (ap is_made (c.in_ok-file.was ∙ ap Ok c.in-None.is)) c.loop-number.invariant c.make.ensures
