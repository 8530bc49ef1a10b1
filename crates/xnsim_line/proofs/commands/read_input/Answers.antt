use Rattle.std.proofs.Common.{◌≡◌, ◌<◌, ◌≤◌, ◌++◌, length, take, rules, subst, arith}
use Rattle.std.specs.Prelude.{IfSome, option_map}
use Rattle.xnsim_line.proofs.StartsRead.{whole_input}
use Rattle.xnsim_line.proofs.commands.read_input.Goals as goal

pub returns-clause-whole : goal.returns-clause-whole
returns-clause-whole g c =
    let text = c.read_to_end.new.buf.items in
    let limited = subst (λ l. IfSome (option_map (take l) (g.R.Read.remaining c.take.result.inner.now)) (λ xs. text ≡ c.new-text.result.items ++ xs)) c.take.ensures.limit c.in-Ok.ensures.bytes in
    let known = subst (λ r. IfSome (option_map (take 67108865) (g.R.Read.remaining r.now)) (λ xs. text ≡ c.new-text.result.items ++ xs)) c.take.ensures.inner limited in
    let empty = subst (λ s. IfSome (option_map (take 67108865) (g.R.Read.remaining c.args.input.now)) (λ xs. text ≡ s ++ xs)) c.new-text.ensures.items known in
    let short : length text ≤ 67108864 = search rules in
    let few : length text < 67108865 = omega (arith, short) in
    whole_input (g.R.Read.remaining c.args.input.now) text 67108865 empty few
