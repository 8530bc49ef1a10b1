use Rattle.std.proofs.Common.{arith, ◌≡◌, ◌∙◌, ◌++◌, ◌+◌, ◌-◌, List, ap}
use Rattle.treefs_lookup.specs.Readable.{readable}
use Rattle.treefs_mending.specs.Surveys.{Survey, inode_count, lead_at, lead_of, names_below, unreached_at, unreached_from}
use Rattle.treefs_mending.specs.Tallies.{Tally, is_found}
use Rattle.treefs_mending.proofs.Gathered.{added, finished}
use Rattle.treefs_mending.proofs.InTable.{last_inode, next_inode}
use Rattle.treefs_mending.proofs.survey.Survey.note_unreached.Goals as goal

pub loop-leaf-preserved : goal.loop-leaf-preserved
loop-leaf-preserved g c =
    let content = readable (g.S.Store.state_of c.args.store.now) c.args.tree.fs.number in
    let top = c.args.tree.top in
    let old = c.args.self.now in
    let self = c.loop-leaf.self in
    let new = c.note_names_below.new.self in
    let from = c.loop-leaf.from in
    let number = c.in-Some.leaf.number in
    let few = c.in-Some.ensures.few in
    let told = c.in_ok-note_names_below.ensures in
    let rest = c.loop-leaf.invariant.rest in
    let directories : new.directories ≡ old.directories = ap (λ (s : Survey). s.directories) told ∙ ap (λ (s : Survey). s.directories) rest in
    let tallies : new.tallies ≡ old.tallies = ap (λ (s : Survey). s.tallies) told ∙ ap (λ (s : Survey). s.tallies) rest in
    let read : c.deref.result.now ≡ old.tallies =
    c.deref.ensures.value ∙ (ap (λ (s : Survey). s.tallies) c.self.view_is ∙ ap (λ (s : Survey). s.tallies) rest) in
    let lead : c.lead_at-lead.result ≡ lead_at content top old.tallies (number + 1) =
    c.lead_at-lead.ensures ∙ ap (λ (t : List Tally). lead_at content top t (number + 1)) read in
    let here : new.surplus ≡ self.surplus ++ unreached_at content top old.tallies (number + 1) =
    ap (λ (s : Survey). s.surplus) told ∙ ap (λ x. self.surplus ++ names_below content x) lead in
    record {
      few = omega arith;
      rest = λ i. record { surplus = new.surplus; directories = directories i; tallies = tallies i };
      so_far = added new.surplus self.surplus (unreached_at content top old.tallies (number + 1))
          (unreached_from content top old.tallies (number + 1 + 1) (inode_count - (number + 1)))
          (unreached_from content top old.tallies (from + 1) (inode_count - from)) (old.surplus ++ unreached_from content top old.tallies 1 inode_count) here
          (next_inode content top (unreached_at content top old.tallies) (λ n none. ap (λ r. names_below content (lead_of r (is_found old.tallies n))) none)
          from number c.in-Some.ensures.past few c.in-Some.ensures.first) c.loop-leaf.invariant.so_far;
    }

pub returns : goal.returns
returns g c =
    let content = readable (g.S.Store.state_of c.args.store.now) c.args.tree.fs.number in
    let top = c.args.tree.top in
    let old = c.args.self.now in
    let self = c.loop-leaf.self in
    let from = c.loop-leaf.from in
    let all = old.surplus ++ unreached_from content top old.tallies 1 inode_count in
    let surplus : self.surplus ≡ all =
    finished self.surplus (unreached_from content top old.tallies (from + 1) (inode_count - from)) all
    (last_inode content top (unreached_at content top old.tallies) (λ n none. ap (λ r. names_below content (lead_of r (is_found old.tallies n))) none)
    from c.loop-leaf.invariant.few c.in_default.ensures) c.loop-leaf.invariant.so_far in
    c.loop-leaf.invariant.rest ∙ (λ i. record { surplus = surplus i; directories = old.directories; tallies = old.tallies })
