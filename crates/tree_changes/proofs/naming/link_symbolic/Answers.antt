use Rattle.std.proofs.Common.{false, inr, refl}
use Rattle.treefs_format.specs.declared.kind.Kind.TheVariants.{SymbolicLink}
use Rattle.tree_lines.specs.Values.{Put}
use Rattle.tree_changes.proofs.Along.{failed}
use Rattle.tree_changes.proofs.naming.link_symbolic.Goals as goal

pub returns-in_err-_number-clause-does : goal.returns-in_err-_number-clause-does
returns-in_err-_number-clause-does g c =
    let does = c.in_err-_number.ensures.does in
    let put : Put = record {
      directory = c.args.to.1.folder;
      name = c.args.to.1.name;
      kind = SymbolicLink;
      attributes = c.attributes_with.result;
      bytes = c.as_bytes.result;
      replace = false;
      in_range = c.attributes_with.ensures.in_range;
    } in
    failed _ _ c.from_residual.result c.from_residual.ensures.0
    (inr (does.0, (put, (refl, refl, refl, c.attributes_with.ensures.new, c.as_bytes.ensures.value, refl), does.1)))

pub returns-clause-does : goal.returns-clause-does
returns-clause-does g c =
    let put : Put = record {
      directory = c.args.to.1.folder;
      name = c.args.to.1.name;
      kind = SymbolicLink;
      attributes = c.attributes_with.result;
      bytes = c.as_bytes.result;
      replace = false;
      in_range = c.attributes_with.ensures.in_range;
    } in (
      c.if-target-gt-TARGET_LEN.false,
      (
        c.in_ok-_number._number,
        (
          put,
          (refl, refl, refl, c.attributes_with.ensures.new, c.as_bytes.ensures.value, refl),
          c.in_ok-_number.ensures.does,
        ),
      ),
    )
