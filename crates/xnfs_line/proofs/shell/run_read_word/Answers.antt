use Rattle.std.proofs.Common.{◌∙◌, ap, inr, subst, sym}
use Rattle.xnfs_line.specs.Shells.{ShellWordDoes}
use Rattle.xnfs_line.proofs.shell.run_read_word.Goals as goal

-- the word was done, and what it left out is told
pub returns : goal.returns
returns g c =
    let first = c.args.opened.now in
    let ran = c.run_shell_word-done in
    let before = ran.new.opened in
    let after = c.tell_ended.new.opened in
    let T = g.S.Store.types_of first.session.store in
    let lazy = c.args.asked.0.is_lazy in
    let old = g.S.Store.state_of first.session.store in
    record {
      types = ap (λ s. g.S.Store.types_of s.store) c.tell_ended.ensures.session ∙ ran.ensures.types;
      does = inr (
        c.args.word.now,
        first.told,
        before.told,
        ran.result,
        subst (λ folder. ShellWordDoes T lazy first.folder folder c.args.word.now first.told before.told old (g.S.Store.state_of after.session.store)
            first.session.volume after.session.volume ran.result) (sym c.tell_ended.ensures.folder)
            (subst (λ s. ShellWordDoes T lazy first.folder before.folder c.args.word.now first.told before.told old (g.S.Store.state_of s.store)
            first.session.volume s.volume ran.result) (sym c.tell_ended.ensures.session) ran.ensures.does),
        c.tell_ended.ensures.ended,
      );
    }
