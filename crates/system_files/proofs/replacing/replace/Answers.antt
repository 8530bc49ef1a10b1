use Rattle.std.proofs.Common.{◌≡◌, List, ◌∷◌, [], true, ap, sym, subst, ◌∙◌, is_some}
use Rattle.system_files.specs.Calls.{Call, IsLeft, Makes, Remove, Replaces, plan, with_calls}
use Rattle.system_files.proofs.Made.{goes_well, left_removed, replaced}
use Rattle.system_files.proofs.replacing.replace.Goals as goal

pub returns : goal.returns
returns g c =
    let old = g.Y.System.calls c.open_folder.new.self in
    let made = g.Y.System.calls c.make_beside.new.system in
    let cut = g.Y.System.calls c.fill.new.system in
    let bytes = g.S.Source.bytes_of c.args.source in
    let makes = subst (λ name. Makes c.args.path.now name old made) (sym c.as_str.ensures.value) c.in_ok-beside.ensures.made in
    let name = c.as_str-in-Err.ensures.value ∙ sym c.as_str.ensures.value in
    subst (λ start. (all : List Call) × IsLeft (is_some c.args.old.now) bytes c.args.path.now all × (g.Y.System.calls c.remove.new.self ≡ with_calls start all)) c.open_folder.ensures
    (left_removed (is_some c.args.old.now) bytes c.args.path.now c.as_str.result.now old made cut (g.Y.System.calls c.remove.new.self) c.fill.result c.in-Err.fault makes c.in-Err.is
    c.fill.ensures (c.remove.ensures ∙ ap (λ n. with_calls cut ((Remove n, true) ∷ [])) name))

pub returns-in-Ok : goal.returns-in-Ok
returns-in-Ok g c =
    let old = g.Y.System.calls c.open_folder.new.self in
    let made = g.Y.System.calls c.make_beside.new.system in
    let filled = g.Y.System.calls c.fill.new.system in
    let bytes = g.S.Source.bytes_of c.args.source in
    let makes = subst (λ name. Makes c.args.path.now name old made) (sym c.as_str.ensures.value) c.in_ok-beside.ensures.made in
    let fills = goes_well (plan (is_some c.args.old.now) bytes c.as_str.result.now c.args.path.now) made filled c.fill.result _ c.in-Ok.is c.fill.ensures in
    subst (λ start. Replaces (is_some c.args.old.now) bytes c.args.path.now start (g.Y.System.calls c.sync_folder.new.self) c.sync_folder.result) c.open_folder.ensures
    (replaced (is_some c.args.old.now) bytes c.args.path.now c.as_str.result.now old made filled (g.Y.System.calls c.sync_folder.new.self) c.sync_folder.result makes fills c.sync_folder.ensures)
