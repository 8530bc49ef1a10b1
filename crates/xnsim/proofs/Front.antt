-- Bytes that stay in front of others, and reads one after another.
use Rattle.std.proofs.Common.{◌≡◌, ◌∙◌, ℕ, ◌≤◌, List, [], ◌++◌, length, take, drop, Option, Some, None, ap, sym, refl, arith, append_assoc}
use Rattle.std.proofs.lemmas.List.{append-nil, length-take, take-append-drop, take-append-le}
use Rattle.std.specs.Io.KnownBytes.{Consumes}
use Rattle.xnsim.specs.Reads.{Reads}

pub front-kept : (old xs zs : List ℕ) (n : ℕ) → length old ≤ n → length old ≤ length xs → take (length old) xs ≡ old → take (length old) (take n xs ++ zs) ≡ old
front-kept old xs zs n fits long front =
    let short : length old ≤ length (take n xs) = omega (arith, fits, long, length-take n xs) in
    take-append-le (length old) (take n xs) zs short
    ∙ (sym (take-append-le (length old) (take n xs) (drop n xs) short) ∙ (ap (take (length old)) (take-append-drop n xs) ∙ front))

none-consumed : (known : Option (List ℕ)) → Consumes known known []
none-consumed None = tt
none-consumed (Some xs) = refl

both-consumed : (a b c : Option (List ℕ)) (xs ys : List ℕ) → Consumes a b xs → Consumes b c ys → Consumes a c (xs ++ ys)
both-consumed None b c xs ys first second = tt
both-consumed (Some a) None c xs ys first second = absurd first
both-consumed (Some a) (Some b) None xs ys first second = absurd second
both-consumed (Some a) (Some b) (Some c) xs ys first second = first ∙ (ap (λ l. xs ++ l) second ∙ sym (append_assoc xs ys c))

pub nothing-read : (known : Option (List ℕ)) (bytes : List ℕ) → Reads known known bytes bytes
nothing-read known bytes = record { more = []; behind = sym (append-nil bytes); consumed = none-consumed known }

pub read-on : (a b c : Option (List ℕ)) (old bytes new : List ℕ) → Reads a b old bytes → Reads b c bytes new → Reads a c old new
read-on a b c old bytes new first second = record {
  more = first.more ++ second.more;
  behind = second.behind ∙ (ap (λ l. l ++ second.more) first.behind ∙ append_assoc old first.more second.more);
  consumed = both-consumed a b c first.more second.more first.consumed second.consumed;
}
