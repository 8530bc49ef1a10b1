use Rattle.std.proofs.Common.{◌≡◌, ◌≤◌, length, string_bytes, IfOk, sym, subst, rules}
use Rattle.system_files.specs.Naming.{ending}
use Rattle.system_files.proofs.Named.{if_ok, short_ending}
use Rattle.system_files.proofs.naming.ending_of.Goals as goal

pub returns-clause-short : goal.returns-clause-short
returns-clause-short c =
    let named : IfOk c.format.result (λ text. string_bytes text ≡ ending c.args.number) = search rules in
    if_ok _ _ c.format.result (λ text is. subst (λ xs. length xs ≤ 24) (sym is) (short_ending c.args.number c.ranges.number.fits)) named
