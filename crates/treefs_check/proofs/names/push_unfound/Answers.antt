use Rattle.std.proofs.Common.{◌≡◌, ◌++◌, [], List, drop, refl, subst, sym}
use Rattle.std.proofs.lemmas.List.{drop_more, drop_all}
use Rattle.treefs_mending.specs.declared.survey.Directory.{Directory}
use Rattle.treefs_check.specs.Names.{AreUnfound}
use Rattle.treefs_check.proofs.Appended.{behind, last}
use Rattle.treefs_check.proofs.names.push_unfound.Goals as goal

pub loop-directory-init : goal.loop-directory-init
loop-directory-init g c = λ rest h. (rest, h, refl)

pub loop-directory-preserved : goal.loop-directory-preserved
loop-directory-preserved g c = λ rest h.
    let state = g.S.Store.state_of c.args.store.now in
    let directories = c.args.directories.now in
    let i = c.loop-directory.directory-index in
    let found = c.in_ok-push_unfound_of.ensures in
    let none : Directory = record { number = 0; block = 0 } in
    let all = c.loop-directory.invariant (found.0 ++ rest)
    (subst (λ (l : List Directory). AreUnfound state c.args.tree l (found.0 ++ rest)) (sym (drop_more directories i none c.loop-directory-test.true))
    (found.0, rest, found.1, h, refl)) in
    (all.0, all.1, behind c.loop-directory.findings.items found.0 rest found.2 all.2)

pub returns : goal.returns
returns g c =
    let state = g.S.Store.state_of c.args.store.now in
    let directories = c.args.directories.now in
    let i = c.loop-directory.directory-index in
    let end : drop i directories ≡ [] = drop_all i directories c.loop-directory-test.false in
    let all = c.loop-directory.invariant [] (subst (λ (l : List Directory). AreUnfound state c.args.tree l []) (sym end) refl) in
    (all.0, all.1, last c.loop-directory.findings.items all.2)
