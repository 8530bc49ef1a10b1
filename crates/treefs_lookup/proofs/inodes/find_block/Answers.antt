use Rattle.std.proofs.Common.{sym, ◌∙◌, Some, None}
use Rattle.treefs_lookup.specs.Readable.{readable}
use Rattle.treefs_lookup.proofs.FoundInodes.{kind_found, none_found, not_there, there}
use Rattle.treefs_lookup.proofs.inodes.find_block.Goals as goal

pub returns-then-block-eq0 : goal.returns-then-block-eq0
returns-then-block-eq0 g c =
    sym (not_there (readable (g.S.Store.state_of c.args.store.now) c.args.fs.number) c.args.block c.if-block-eq0.true)

pub returns-in_default : goal.returns-in_default
returns-in_default g c =
    sym (there (readable (g.S.Store.state_of c.args.store.now) c.args.fs.number) c.args.block _ c.if-block-eq0.false c.in_default.ensures ∙ none_found c.args.block)

pub returns-in-Some-of_mode : goal.returns-in-Some-of_mode
returns-in-Some-of_mode g c =
    sym (there (readable (g.S.Store.state_of c.args.store.now) c.args.fs.number) c.args.block c.in-Some.bytes.now c.if-block-eq0.false c.in-Some.ensures
    ∙ kind_found c.args.block c.in-Some.bytes.now c.read-fields.result (Some c.in-Some-of_mode.kind) c.read-fields.ensures c.in-Some-of_mode.ensures)

pub returns-in-None : goal.returns-in-None
returns-in-None g c =
    sym (there (readable (g.S.Store.state_of c.args.store.now) c.args.fs.number) c.args.block c.in-Some.bytes.now c.if-block-eq0.false c.in-Some.ensures
    ∙ kind_found c.args.block c.in-Some.bytes.now c.read-fields.result None c.read-fields.ensures c.in-None.ensures)
