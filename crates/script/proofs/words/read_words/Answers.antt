use Rattle.std.proofs.Common.{rules, ◌≡◌, ℕ, List, ◌∷◌, map, option_copied, IfOk, IfSome, Bor, subst, sym}
use Rattle.script.specs.Told.{SpellsEvent}
use Rattle.script.specs.Scripts.{words_in}
use Rattle.script.proofs.words.read_words.Goals as goal

pub returns-clause-some : goal.returns-clause-some
returns-clause-some c =
    let behind : words_in (option_copied c.args.rest) ≡ c.first_word.result.0.now ∷ c.first_word-2.result.0.now ∷ map (λ (word : Bor (List ℕ)). word.now) c.as_slice.result.now =
    search rules in
    subst (λ words. IfOk c.parse_long.result (λ read. IfSome read (SpellsEvent (c.args.name.now ∷ words)))) (sym behind) c.parse_long.ensures.some
