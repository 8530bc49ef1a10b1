use Rattle.std.proofs.Common.{sym}
use Rattle.templates.proofs.TablePlaces.{not_absent, owned_is, decided_is}
use Rattle.templates.proofs.table.Table.owns_tracked.Goals as goal

pub unreachable-requires : goal.unreachable-requires
unreachable-requires c = not_absent c.args.self.now c.args.ty c.requires (sym c.in-None.ensures.value)

pub returns-clause-pairs : goal.returns-clause-pairs
returns-clause-pairs c = owned_is c.args.self.now c.args.ty c.in-Some.template.now (sym c.in-Some.ensures.value) c.owns.result.now c.args.block.now
    c.owns_tracked.new.out.items c.owns.ensures.value c.owns_tracked.ensures.pairs

pub returns-clause-reads : goal.returns-clause-reads
returns-clause-reads c = decided_is c.args.self.now c.args.ty c.in-Some.template.now (sym c.in-Some.ensures.value) c.owns.result.now c.args.block.now
    c.owns_tracked.result.chunks c.owns.ensures.value c.owns_tracked.ensures.reads
