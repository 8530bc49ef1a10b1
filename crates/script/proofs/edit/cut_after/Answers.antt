use Rattle.std.proofs.Common.{refl, arith, get_or}
use Rattle.std.proofs.lemmas.Str.Pattern.{strip_prefix_char}
use Rattle.script.proofs.WordLists.{none_at_first}
use Rattle.script.proofs.edit.cut_after.Goals as goal

pub returns-in_default-strip_prefix-clause-some : goal.returns-in_default-strip_prefix-clause-some
returns-in_default-strip_prefix-clause-some c =
    let stripped = strip_prefix_char 64 (get_or c.args.words.now 0 _).now c.strip_prefix.result c.strip_prefix.ensures.cases (omega arith) in
    (refl, none_at_first 64 c.args.words.now _ (rw c.in_default-strip_prefix.is at stripped))
