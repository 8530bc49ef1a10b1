use Rattle.std.proofs.Common.{◌≡◌, arith, sym, subst}
use Rattle.std.proofs.lemmas.Grind.{common_steps}
use Rattle.std.proofs.lemmas.Bool.{false≢true}
use Rattle.std.proofs.lemmas.Option.{none-some, same_Some}
use Rattle.script.specs.Hex.{IsHex}
use Rattle.script.proofs.EditWords.{patch_split}
use Rattle.script.proofs.change.parse_patch.Goals as goal

pub returns-in_default-clause-none : goal.returns-in_default-clause-none
returns-in_default-clause-none c = λ patch spells. rw c.in_default.is at (patch_split c.args.word.now c.split_once.result patch c.split_once.ensures.cases spells)

pub returns-in_default-parse_u32-clause-none : goal.returns-in_default-parse_u32-clause-none
returns-in_default-parse_u32-clause-none c = λ patch spells.
    let split = rw c.in-Some.is at (patch_split c.args.word.now c.split_once.result patch c.split_once.ensures.cases spells) in
    none-some patch.offset (c.in_default-parse_u32.ensures.readable patch.offset (omega (arith, spells.small)) split.0)

pub returns-in_default-try_from-clause-none : goal.returns-in_default-try_from-clause-none
returns-in_default-try_from-clause-none c = λ patch spells.
    let split = rw c.in-Some.is at (patch_split c.args.word.now c.split_once.result patch c.split_once.ensures.cases spells) in
    let same : c.in-Some-parse_u32.offset ≡ patch.offset =
    same_Some _ _ (c.in-Some-parse_u32.ensures.readable patch.offset (omega (arith, spells.small)) split.0) in
    grind (arith, common_steps, c.in_default-try_from.ensures, same)

pub returns-in_default-2-clause-none : goal.returns-in_default-2-clause-none
returns-in_default-2-clause-none c = λ patch spells.
    let split = rw c.in-Some.is at (patch_split c.args.word.now c.split_once.result patch c.split_once.ensures.cases spells) in
    false≢true (rw c.in_default-2.is at (c.in_ok-bytes.ensures.readable.1 (subst IsHex (sym split.1) spells.pairs)))
