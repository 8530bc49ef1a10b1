use Rattle.std.proofs.Common.{map, string_bytes}
use Rattle.xnsim_line.proofs.Kept.{line_kept}
use Rattle.xnsim_line.proofs.line.Goals as goal

pub returns-in-Ok-clause-done : goal.returns-in-Ok-clause-done
returns-in-Ok-clause-done g c = λ good.
    line_kept (g.W.Write.contents c.args.out.now) (g.W.Write.contents c.run.new.out) (g.W.Write.contents c.flush_status.new.out) c.flush_status.ensures.kept
    (g.R.Read.remaining c.args.input.now) (g.F.Files.held c.args.files.now) (g.F.Files.held c.run.new.files) (map string_bytes c.args.words.now) c.in-Ok.ensures.done
