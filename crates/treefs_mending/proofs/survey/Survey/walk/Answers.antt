use Rattle.std.proofs.Common.{arith, ◌≡◌, ◌∙◌, ◌+◌, ◌-◌, ℕ, ap, length, refl, sym, Some}
use Rattle.std.specs.Prelude.{slice_get}
use Rattle.std.proofs.lemmas.Option.{slice_get_read}
use Rattle.treefs_lookup.specs.Readable.{readable}
use Rattle.treefs_mending.specs.Surveys.{Survey, inode_count, walked}
use Rattle.treefs_mending.proofs.Walks.{inode_count_is, walk_goes, walk_over}
use Rattle.treefs_mending.proofs.survey.Survey.walk.Goals as goal

pub loop-place-preserved : goal.loop-place-preserved
loop-place-preserved g c =
    let content = readable (g.S.Store.state_of c.args.store.now) c.args.tree.fs.number in
    let top = c.args.tree.top in
    let self = c.loop-place.self in
    let place = c.loop-place.place in
    let directory = c.index-directory.result.now in
    let more = c.loop-place-test.true in
    let less : inode_count - (place + 1) ≡ inode_count - place - 1 = omega arith in
    let within = c.if-place-len.false in
    let items = c.self.inside.directories.items in
    let is : slice_get self.directories place ≡ Some directory =
    ap (λ (s : Survey). slice_get s.directories place) (sym c.self.view_is)
    ∙ slice_get_read items (length items) place directory refl (omega (arith, c.len.ensures)) c.index-directory.ensures in
    ap (λ (k : ℕ). walked content top k (place + 1) c.visit.new.self) less
    ∙ (ap (λ (s : Survey). walked content top (inode_count - place - 1) (place + 1) s) c.in_ok-visit.ensures
    ∙ (sym (walk_goes content top (inode_count - place) place self directory (omega (arith, inode_count_is)) is) ∙ c.loop-place.invariant))

pub returns : goal.returns
returns g c =
    let content = readable (g.S.Store.state_of c.args.store.now) c.args.tree.fs.number in
    let over = c.loop-place-test.false in
    sym (walk_over content c.args.tree.top (inode_count - c.loop-place.place) c.loop-place.place c.loop-place.self (omega (arith, inode_count_is)))
    ∙ c.loop-place.invariant
