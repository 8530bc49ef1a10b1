use Rattle.std.proofs.Common.{◌∙◌, ◌<◌, ap, arith, cond, length, subst, sym, true}
use Rattle.std.specs.Prelude.{not}
use Rattle.xn_model.specs.Lives.{life_at}
use Rattle.block_cache.specs.Systems.{system_of}
use Rattle.dependencies.specs.Candidates.{with_candidate}
use Rattle.dependencies.specs.Counts.{noted_for}
use Rattle.dependencies.specs.Homes.{homes_with, slot_of}
use Rattle.dependencies.specs.Index.{IsIndex}
use Rattle.dependencies.specs.Pending.{pends}
use Rattle.dependencies.proofs.Dirty.{first_by_dirty}
use Rattle.dependencies.proofs.Counting.{system_few, system_within}
use Rattle.dependencies.proofs.IndexChanges.{accepted_index}
use Rattle.dependencies.proofs.index.Index.note_entry.Goals as goal

pub count_entry-requires : goal.count_entry-requires
count_entry-requires c = rw (← c.self.view_is) at c.requires

pub returns : goal.returns
returns c = λ lives s is alive entry for fresh.
    let index = c.self.inside in
    let b = c.args.block in
    let f = system_of c.args.fs in
    let number = sym entry in
    let mine = subst (IsIndex lives) (sym c.self.view_is) is in
    let first = ap not c.contains-is_first.ensures ∙ first_by_dirty index.dirty lives b mine.dirty in
    let note = c.note_entry.ensures ∙ ap (λ t. cond t (with_candidate index.candidates b true) index.candidates) first in
    let home = c.put.ensures.home ∙ ap (λ n. homes_with index.homes n b) number in
    let room = subst (λ n. slot_of (length index.homes) n < length index.homes) number c.put.ensures.room in
    let noted = c.count_entry.ensures.oldest ∙ ap (λ n. noted_for f n index.pending index.oldest) number in
    rw (c.mark.ensures, note, home, c.count_entry.ensures.pending, noted) (
    accepted_index lives _ b s f mine
    (system_within c.args.fs index.pending (omega arith)) (system_within c.args.fs index.oldest (omega arith)) (system_few c.args.fs) room alive for
    (λ x. ap (λ n. pends n (life_at lives x)) entry ∙ fresh x))
