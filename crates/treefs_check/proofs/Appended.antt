-- What comes behind a list that grew.
use Rattle.std.proofs.Common.{◌≡◌, List, [], ◌++◌, Result, Ok, Err, IfOk, append_assoc, ap, sym, ◌∙◌}
use Rattle.std.proofs.lemmas.List.{append-nil}
use Rattle.treefs_check.specs.Findings.{Finding}

pub behind : {new all : List Finding} (old here rest : List Finding) → new ≡ old ++ here → old ++ (here ++ rest) ≡ all → new ++ rest ≡ all
behind old here rest grew is = ap (λ (l : List Finding). l ++ rest) grew ∙ (append_assoc old here rest ∙ is)

pub last : {all : List Finding} (so_far : List Finding) → so_far ++ [] ≡ all → so_far ≡ all
last so_far is = sym (append-nil so_far) ∙ is

-- what a call that adds something says, with more said of it
pub said : {A E : Type 0} {P Q : A → Type 0} (r : Result A E) → ((a : A) → P a → Q a) → IfOk r P → IfOk r Q
said (Ok a) more is = more a is
said (Err e) more is = is

pub two : {s1 s2 : List Finding} (s0 a b : List Finding) → s1 ≡ s0 ++ a → s2 ≡ s1 ++ b → s2 ≡ s0 ++ (a ++ b)
two s0 a b one more = more ∙ (ap (λ (l : List Finding). l ++ b) one ∙ append_assoc s0 a b)

pub four : {s1 s2 s3 s4 : List Finding} (s0 a b c d : List Finding) → s1 ≡ s0 ++ a → s2 ≡ s1 ++ b → s3 ≡ s2 ++ c → s4 ≡ s3 ++ d →
    s4 ≡ s0 ++ (a ++ (b ++ (c ++ d)))
four s0 a b c d first second third fourth = two s0 a (b ++ (c ++ d)) first (two _ b (c ++ d) second (two _ c d third fourth))
