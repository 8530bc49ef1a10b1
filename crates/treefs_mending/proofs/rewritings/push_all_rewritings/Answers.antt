use Rattle.std.proofs.Common.{◌+◌, ◌++◌, drop, get_or}
use Rattle.std.proofs.lemmas.List.{at_drop_all, at_drop_more}
use Rattle.treefs_lookup.specs.Readable.{readable}
use Rattle.treefs_mending.specs.Rewritings.{all_rewritings, rewritings}
use Rattle.treefs_mending.specs.Surveys.{Directory}
use Rattle.treefs_mending.proofs.Gathered.{added, finished}
use Rattle.treefs_mending.proofs.rewritings.push_all_rewritings.Goals as goal

pub loop-directory-preserved : goal.loop-directory-preserved
loop-directory-preserved g c =
    let content = readable (g.S.Store.state_of c.args.store.now) c.args.fs.number in
    let directories = c.args.directories.now in
    let place = c.loop-directory.directory-index in
    let none : Directory = record { number = 0; block = 0 } in
    added c.push_rewritings.new.acts.items c.loop-directory.acts.items (rewritings content (get_or directories place none).block)
    (all_rewritings content (drop (place + 1) directories)) (all_rewritings content (drop place directories))
    (c.args.acts.now.items ++ all_rewritings content directories) c.in_ok-push_rewritings.ensures
    (at_drop_more (all_rewritings content) directories place none c.loop-directory-test.true) c.loop-directory.invariant

pub returns : goal.returns
returns g c =
    let content = readable (g.S.Store.state_of c.args.store.now) c.args.fs.number in
    let directories = c.args.directories.now in
    let place = c.loop-directory.directory-index in
    finished c.loop-directory.acts.items (all_rewritings content (drop place directories)) (c.args.acts.now.items ++ all_rewritings content directories)
    (at_drop_all (all_rewritings content) directories place c.loop-directory-test.false) c.loop-directory.invariant
