use Rattle.std.proofs.Common.{◌≡◌, length, map, nat_lt, subst, sym}
use Rattle.xnfs_line.specs.Words.{CopiesSources, NamesDo, PutsPaths}
use Rattle.xnfs_line.proofs.WordCases.{copies_sources, puts_paths}
use Rattle.xnfs_line.proofs.changing.change_names.Goals as goal

-- `put`
pub returns-in-Put-clause-does : goal.returns-in-Put-clause-does
returns-in-Put-clause-does g c =
    let before = c.args.opened.now in
    let after = c.put.new.volume in
    let T = g.S.Store.types_of before.session.store in
    let old = g.S.Store.state_of before.session.store in
    let new = g.S.Store.state_of after.session.store in
    let sources = c.deref.result.now in
    subst (λ w. NamesDo T before.folder w before.told after.told old new before.session.volume after.session.volume c.put.result) (sym c.in-Put.is)
    (subst (λ items. PutsPaths T before.folder c.in-Put.path.now (nat_lt 1 (length items)) (map (λ source. source.now) items)
    before.told after.told old new before.session.volume after.session.volume c.put.result) c.deref.ensures.value
    (puts_paths T (g.S.Store.types_of after.session.store) before.folder after.folder c.args.asked.1.has_lines c.in-Put.path.now (nat_lt 1 (length sources))
    (map (λ source. source.now) sources) before.told after.told old new before.session.volume after.session.volume c.put.result c.put.ensures.types
    c.put.ensures.folder c.put.ensures.does))

-- `cp`
pub returns-in-Copy-clause-does : goal.returns-in-Copy-clause-does
returns-in-Copy-clause-does g c =
    let before = c.args.opened.now in
    let after = c.copy.new.opened in
    let T = g.S.Store.types_of before.session.store in
    let old = g.S.Store.state_of before.session.store in
    let new = g.S.Store.state_of after.session.store in
    let paths = c.deref-in-Copy.result.now in
    subst (λ w. NamesDo T before.folder w before.told after.told old new before.session.volume after.session.volume c.copy.result) (sym c.in-Copy.is)
    (subst (λ items. CopiesSources T before.folder c.in-Copy.to.now (nat_lt 1 (length items)) (map (λ path. path.now) items) c.in-Copy.is_recursive
    before.told after.told old new before.session.volume after.session.volume c.copy.result) c.deref-in-Copy.ensures.value
    (copies_sources T before.folder c.in-Copy.to.now (nat_lt 1 (length paths)) (map (λ path. path.now) paths) c.in-Copy.is_recursive before.told after.told
    old new before.session.volume after.session.volume c.copy.result c.copy.ensures.does c.copy.ensures.all))
