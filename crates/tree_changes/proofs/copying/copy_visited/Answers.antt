use Rattle.std.proofs.Common.{ℕ, List, Option, Some, arith, length, refl, subst, sym, take, vec_len}
use Rattle.std.specs.Prelude.{◌≡◌, ◌-◌, MatchResult}
use Rattle.tree_lines.specs.Telling.{EndsLine}
use Rattle.tree_lines.specs.Walks.{met_of, outcome_of, progress}
use Rattle.tree_lines.specs.declared.fault.Fault.{Fault as LineFault}
use Rattle.tree_lines.specs.declared.walking.Visit.{Visit}
use Rattle.tree_changes.specs.CopiedTrees.{CopiesVisited, StopsVisited, inner_of}
use Rattle.tree_changes.specs.declared.copying.Into.{Into}
use Rattle.tree_changes.proofs.TreesCopied.{folder_left}
use Rattle.tree_changes.proofs.copying.copy_visited.Goals as goal

pub returns-in-Met-clause-does : goal.returns-in-Met-clause-does
returns-in-Met-clause-does g c =
    let before = c.args.opened.now in
    let after = c.copy_met.new.opened in
    let T = g.S.Store.types_of before.session.store in
    let old = g.S.Store.state_of before.session.store in
    let new = g.S.Store.state_of after.session.store in
    let copying = c.args.copying.now in
    subst (λ (v : Visit). MatchResult c.copy_met.result
    (λ done. CopiesVisited T before.folder (vec_len copying.piece) (outcome_of (Some v)) (progress c.args.walk.now) (progress c.copy_met.new.walk)
    before.told after.told c.args.folders.now.items c.copy_met.new.folders.items copying c.copy_met.new.copying old new before.session.volume
    after.session.volume)
    (λ (fault : LineFault). EndsLine fault × StopsVisited T before.folder (vec_len copying.piece) (outcome_of (Some v)) c.args.folders.now.items copying old
    new before.session.volume after.session.volume)) (sym c.in-Met.is) c.copy_met.ensures.does

pub returns-in-Left-clause-does : goal.returns-in-Left-clause-does
returns-in-Left-clause-does g c =
    let before = c.args.opened.now in
    let after = c.leave_folder-done.new.opened in
    let T = g.S.Store.types_of before.session.store in
    let old = g.S.Store.state_of before.session.store in
    let new = g.S.Store.state_of after.session.store in
    let copying = c.args.copying.now in
    let folders = c.args.folders.now in
    let far = progress c.args.walk.now in
    let inner = subst (λ (l : List (Option Into)). c.inner_of-folder.result ≡ inner_of l) c.as_slice.ensures.value c.inner_of-folder.ensures in
    let long : vec_len folders ≡ length folders.items = omega (arith, folders.ok.0) in
    let rest = subst (λ (n : ℕ). c.pop-folder.new.self.items ≡ take (n - 1) folders.items) long c.pop-folder.ensures.rest in
    subst (λ (v : Visit). MatchResult c.go_on.result
    (λ done. CopiesVisited T before.folder (vec_len copying.piece) (outcome_of (Some v)) far far before.told c.go_on.new.self folders.items
    c.pop-folder.new.self.items copying copying old new before.session.volume after.session.volume)
    (λ (fault : LineFault). EndsLine fault × StopsVisited T before.folder (vec_len copying.piece) (outcome_of (Some v)) folders.items copying old
    new before.session.volume after.session.volume)) (sym c.in-Left.is)
    (folder_left T before.folder (vec_len copying.piece) (met_of c.in-Left.step) far far before.told c.go_on.new.self folders.items
    c.pop-folder.new.self.items copying copying old new before.session.volume after.session.volume after.told c.leave_folder-done.ensures.told
    c.inner_of-folder.result inner c.leave_folder-done.result c.go_on.result refl rest refl c.leave_folder-done.ensures.does c.go_on.ensures)
