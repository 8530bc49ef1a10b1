use Rattle.std.proofs.Common.{◌++◌, ◌∷◌, arith}
use Rattle.std.specs.Fmt.{decimal}
use Rattle.std.proofs.lemmas.Option.{none-some}
use Rattle.std.proofs.lemmas.Str.Pattern.{strip_prefix_char}
use Rattle.script.proofs.EditWords.{add_split, add_rest}
use Rattle.script.proofs.change.parse_add.Goals as goal

pub returns-in_err-strip_prefix-clause-none : goal.returns-in_err-strip_prefix-clause-none
returns-in_err-strip_prefix-clause-none c = rw c.from_residual.ensures (λ add spells.
    let stripped = strip_prefix_char 43 c.args.word.now c.strip_prefix.result c.strip_prefix.ensures.cases (omega arith) in
    (rw c.in_err-strip_prefix.was at stripped) (decimal add.0 ++ (58 ∷ decimal add.1)) spells.spelled)

pub returns-in_err-block-clause-none : goal.returns-in_err-block-clause-none
returns-in_err-block-clause-none c = rw c.from_residual-in_err-block.ensures (λ add spells.
    let rest = c.in_ok-strip_prefix.field-0.now in
    let stripped = rw c.in_ok-strip_prefix.was at (strip_prefix_char 43 c.args.word.now c.strip_prefix.result c.strip_prefix.ensures.cases (omega arith)) in
    let split = add_split rest c.split_once.result add.0 add.1 c.split_once.ensures.cases spells.small_block (add_rest c.args.word.now rest add stripped spells) in
    rw c.in_err-block.was at split)

pub returns-in_err-parse_u32-clause-none : goal.returns-in_err-parse_u32-clause-none
returns-in_err-parse_u32-clause-none c = rw c.from_residual-in_err-parse_u32.ensures (λ add spells.
    let rest = c.in_ok-strip_prefix.field-0.now in
    let stripped = rw c.in_ok-strip_prefix.was at (strip_prefix_char 43 c.args.word.now c.strip_prefix.result c.strip_prefix.ensures.cases (omega arith)) in
    let split = add_split rest c.split_once.result add.0 add.1 c.split_once.ensures.cases spells.small_block (add_rest c.args.word.now rest add stripped spells) in
    let parts = rw c.in_ok-block.was at split in
    none-some add.0 (c.in_err-parse_u32.ensures.readable add.0 (omega (arith, spells.small_block)) parts.0))

pub returns-in_err-parse_u32-2-clause-none : goal.returns-in_err-parse_u32-2-clause-none
returns-in_err-parse_u32-2-clause-none c = rw c.from_residual-in_err-parse_u32-2.ensures (λ add spells.
    let rest = c.in_ok-strip_prefix.field-0.now in
    let stripped = rw c.in_ok-strip_prefix.was at (strip_prefix_char 43 c.args.word.now c.strip_prefix.result c.strip_prefix.ensures.cases (omega arith)) in
    let split = add_split rest c.split_once.result add.0 add.1 c.split_once.ensures.cases spells.small_block (add_rest c.args.word.now rest add stripped spells) in
    let parts = rw c.in_ok-block.was at split in
    none-some add.1 (c.in_err-parse_u32-2.ensures.readable add.1 (omega (arith, spells.small_type)) parts.1))
