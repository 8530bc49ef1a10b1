use Rattle.tree_lines.specs.Contents.{bytes_seen}
use Rattle.std.proofs.Common.{length}
use Rattle.tree_changes.proofs.CopiedBytes.{not_read}
use Rattle.tree_changes.proofs.copies.read_from.Goals as goal

pub returns-in-Err-clause-read : goal.returns-in-Err-clause-read
returns-in-Err-clause-read g c =
    let opened = c.args.opened.now in
    not_read (bytes_seen (g.S.Store.state_of opened.session.store) opened.session.volume c.args.copied.now.node.number c.args.at (length c.args.room.now))
    c.args.room.now c.read.new.bytes c.in-Err.reason c.in-Err.ensures
