-- The word of an operation and its operands, and the operands of a word.
use Rattle.std.proofs.Common.{◌≡◌, ℕ, ◌^◌, ◌<◌, ◌≤◌, ◌&&◌, Bool, true, false, List, [], ◌∷◌, length, refl, ap, subst, arith}
use Rattle.std.specs.Prelude.{Some, nat_lt, nat_le}
use Rattle.std.proofs.lemmas.Bool.{ltb-true, lt-ltb, leb-true, le-leb}
use Rattle.udf_code.specs.declared.op.Op.{Op}
use Rattle.udf_code.specs.declared.op.Op.TheVariants as op
use Rattle.udf_code.specs.declared.word.Word.{Word}
use Rattle.udf_code.specs.declared.word.Word.TheVariants.{Set, Mov, Add, Sub, Mul, Div, Rem, And, Shr, Load1, Load2, Load4, Emit, IfLess, IfEqual, Else, End, For, Keep}
use Rattle.udf_code.specs.Words.{InRange}
use Rattle.udf_code.specs.Codes.{op_of}
use Rattle.udf_code.specs.Decoding.{when, is_register}
use Rattle.udf_asm.specs.Operands.{operand_count, operands_of, bare_word, word_of_two, word_of_three, word_with}

when_true : (t : Bool) (word : Word) → t ≡ true → when t word ≡ Some word
when_true t word h = ap (λ b. when b word) h

when_some : (t : Bool) (v w : Word) → when t v ≡ Some w → (t ≡ true) × (v ≡ w)
when_some true v w h = (refl, cc)
when_some false v w h = absurd (cc)

both : (s t : Bool) → s ≡ true → t ≡ true → (s && t) ≡ true
both true t h g = g
both false t h g = absurd (cc)

and_true : (s t : Bool) → (s && t) ≡ true → (s ≡ true) × (t ≡ true)
and_true true t h = (refl, h)
and_true false t h = absurd (cc)

two : (a b : ℕ) (word : Word) → a < 16 → b < 16 → when (is_register a && is_register b) word ≡ Some word
two a b word g h = when_true _ word (both _ _ (lt-ltb a 16 g) (lt-ltb b 16 h))

three : (a b c : ℕ) (word : Word) → a < 16 → b < 16 → c < 16 → when (is_register a && is_register b && is_register c) word ≡ Some word
three a b c word g h i = when_true _ word (both _ _ (both _ _ (lt-ltb a 16 g) (lt-ltb b 16 h)) (lt-ltb c 16 i))

-- a word in range is that of its operation and its operands
pub word_with-operands_of : (word : Word) → InRange word → word_with (op_of word) (operands_of word) ≡ Some word
word_with-operands_of (Set a n) r = when_true _ (Set a n) (lt-ltb a 16 r.0)
word_with-operands_of (Mov a b) r = two a b (Mov a b) r.0 r.1
word_with-operands_of (Add a b c) r = three a b c (Add a b c) r.0 r.1 r.2
word_with-operands_of (Sub a b c) r = three a b c (Sub a b c) r.0 r.1 r.2
word_with-operands_of (Mul a b c) r = three a b c (Mul a b c) r.0 r.1 r.2
word_with-operands_of (Div a b c) r = three a b c (Div a b c) r.0 r.1 r.2
word_with-operands_of (Rem a b c) r = three a b c (Rem a b c) r.0 r.1 r.2
word_with-operands_of (And a b c) r = three a b c (And a b c) r.0 r.1 r.2
word_with-operands_of (Shr a b k) r = when_true _ (Shr a b k) (both _ _ (both _ _ (lt-ltb a 16 r.0) (lt-ltb b 16 r.1)) (lt-ltb k 32 r.2))
word_with-operands_of (Load1 a b) r = two a b (Load1 a b) r.0 r.1
word_with-operands_of (Load2 a b) r = two a b (Load2 a b) r.0 r.1
word_with-operands_of (Load4 a b) r = two a b (Load4 a b) r.0 r.1
word_with-operands_of (Emit a b) r = two a b (Emit a b) r.0 r.1
word_with-operands_of (IfLess a b) r = two a b (IfLess a b) r.0 r.1
word_with-operands_of (IfEqual a b) r = two a b (IfEqual a b) r.0 r.1
word_with-operands_of Else r = refl
word_with-operands_of End r = refl
word_with-operands_of (For a n) r = when_true _ (For a n) (both _ _ (both _ _ (lt-ltb a 16 r.0) (le-leb 1 n r.1)) (le-leb n 512 r.2))
word_with-operands_of (Keep a n) r = when_true _ (Keep a n) (lt-ltb a 16 r.0)

-- a word that is read from its operands
pub record IsRead (o : Op) (operands : List ℕ) (word : Word) : Type 0 where
  pub op_is : op_of word ≡ o
  pub operands_are : operands_of word ≡ operands
  pub in_range : InRange word

made : (o : Op) (operands : List ℕ) (word by : Word) (t : Bool) → op_of by ≡ o → operands_of by ≡ operands → (t ≡ true → InRange by) → when t by ≡ Some word → IsRead o operands word
made o operands word by t e g r h = let k = when_some t by word h in subst (IsRead o operands) k.1 (record { op_is = e; operands_are = g; in_range = r k.0 })

two_in : (a b : ℕ) → (is_register a && is_register b) ≡ true → (a < 16) × (b < 16)
two_in a b h = let k = and_true _ _ h in (ltb-true a 16 k.0, ltb-true b 16 k.1)

three_in : (a b c : ℕ) → (is_register a && is_register b && is_register c) ≡ true → (a < 16) × (b < 16) × (c < 16)
three_in a b c h = let k = and_true _ _ h in let l = two_in a b k.0 in (l.0, l.1, ltb-true c 16 k.1)

shift_in : (a b k : ℕ) → (is_register a && is_register b && nat_lt k 32) ≡ true → (a < 16) × (b < 16) × (k < 32)
shift_in a b k h = let i = and_true _ _ h in let l = two_in a b i.0 in (l.0, l.1, ltb-true k 32 i.1)

turns_in : (a n : ℕ) → (is_register a && nat_le 1 n && nat_le n 512) ≡ true → (a < 16) × (1 ≤ n) × (n ≤ 512)
turns_in a n h = let i = and_true _ _ h in let l = and_true _ _ i.0 in (ltb-true a 16 l.0, leb-true 1 n l.1, leb-true n 512 i.1)

bare : (o : Op) (word : Word) → bare_word o ≡ Some word → IsRead o [] word
bare op.Else word h = made op.Else [] word Else true refl refl (λ t. tt) h
bare op.End word h = made op.End [] word End true refl refl (λ t. tt) h
bare o word h = absurd (cc)

of_two : (o : Op) (a b : ℕ) (word : Word) → b < 2 ^ 16 → word_of_two o a b ≡ Some word → IsRead o (a ∷ b ∷ []) word
of_two op.Set a b word i h = made op.Set _ word (Set a b) _ refl refl (λ t. (ltb-true a 16 t, i)) h
of_two op.Mov a b word i h = made op.Mov _ word (Mov a b) _ refl refl (two_in a b) h
of_two op.Load1 a b word i h = made op.Load1 _ word (Load1 a b) _ refl refl (two_in a b) h
of_two op.Load2 a b word i h = made op.Load2 _ word (Load2 a b) _ refl refl (two_in a b) h
of_two op.Load4 a b word i h = made op.Load4 _ word (Load4 a b) _ refl refl (two_in a b) h
of_two op.Emit a b word i h = made op.Emit _ word (Emit a b) _ refl refl (two_in a b) h
of_two op.IfLess a b word i h = made op.IfLess _ word (IfLess a b) _ refl refl (two_in a b) h
of_two op.IfEqual a b word i h = made op.IfEqual _ word (IfEqual a b) _ refl refl (two_in a b) h
of_two op.For a b word i h = made op.For _ word (For a b) _ refl refl (turns_in a b) h
of_two op.Keep a b word i h = made op.Keep _ word (Keep a b) _ refl refl (λ t. (ltb-true a 16 t, i)) h
of_two o a b word i h = absurd (cc)

of_three : (o : Op) (a b c : ℕ) (word : Word) → word_of_three o a b c ≡ Some word → IsRead o (a ∷ b ∷ c ∷ []) word
of_three op.Add a b c word h = made op.Add _ word (Add a b c) _ refl refl (three_in a b c) h
of_three op.Sub a b c word h = made op.Sub _ word (Sub a b c) _ refl refl (three_in a b c) h
of_three op.Mul a b c word h = made op.Mul _ word (Mul a b c) _ refl refl (three_in a b c) h
of_three op.Div a b c word h = made op.Div _ word (Div a b c) _ refl refl (three_in a b c) h
of_three op.Rem a b c word h = made op.Rem _ word (Rem a b c) _ refl refl (three_in a b c) h
of_three op.And a b c word h = made op.And _ word (And a b c) _ refl refl (three_in a b c) h
of_three op.Shr a b c word h = made op.Shr _ word (Shr a b c) _ refl refl (shift_in a b c) h
of_three o a b c word h = absurd (cc)

-- each number is below 2 ^ 16
abbrev pub AreSmall : List ℕ → Type 0
AreSmall [] = Unit {0}
AreSmall (n ∷ ns) = (n < 2 ^ 16) × AreSmall ns

pub word_with-reads : (o : Op) (operands : List ℕ) (word : Word) → AreSmall operands → word_with o operands ≡ Some word → IsRead o operands word
word_with-reads o [] word s h = bare o word h
word_with-reads o (a ∷ []) word s h = absurd (cc)
word_with-reads o (a ∷ b ∷ []) word s h = of_two o a b word s.1.0 h
word_with-reads o (a ∷ b ∷ c ∷ []) word s h = of_three o a b c word h
word_with-reads o (a ∷ b ∷ c ∷ d ∷ operands) word s h = absurd (cc)

-- how many operands a word has
pub length-operands_of : (word : Word) → length (operands_of word) ≡ operand_count (op_of word)
length-operands_of (Set a n) = refl
length-operands_of word = refl

-- the operands of a word in range are small
pub operands_of_small : (word : Word) → InRange word → AreSmall (operands_of word)
operands_of_small (Set a n) r = (omega (arith, r.0), (r.1, tt))
operands_of_small (Mov a b) r = (omega (arith, r.0), (omega (arith, r.1), tt))
operands_of_small (Add a b c) r = (omega (arith, r.0), (omega (arith, r.1), (omega (arith, r.2), tt)))
operands_of_small (Sub a b c) r = (omega (arith, r.0), (omega (arith, r.1), (omega (arith, r.2), tt)))
operands_of_small (Mul a b c) r = (omega (arith, r.0), (omega (arith, r.1), (omega (arith, r.2), tt)))
operands_of_small (Div a b c) r = (omega (arith, r.0), (omega (arith, r.1), (omega (arith, r.2), tt)))
operands_of_small (Rem a b c) r = (omega (arith, r.0), (omega (arith, r.1), (omega (arith, r.2), tt)))
operands_of_small (And a b c) r = (omega (arith, r.0), (omega (arith, r.1), (omega (arith, r.2), tt)))
operands_of_small (Shr a b k) r = (omega (arith, r.0), (omega (arith, r.1), (omega (arith, r.2), tt)))
operands_of_small (Load1 a b) r = (omega (arith, r.0), (omega (arith, r.1), tt))
operands_of_small (Load2 a b) r = (omega (arith, r.0), (omega (arith, r.1), tt))
operands_of_small (Load4 a b) r = (omega (arith, r.0), (omega (arith, r.1), tt))
operands_of_small (Emit a b) r = (omega (arith, r.0), (omega (arith, r.1), tt))
operands_of_small (IfLess a b) r = (omega (arith, r.0), (omega (arith, r.1), tt))
operands_of_small (IfEqual a b) r = (omega (arith, r.0), (omega (arith, r.1), tt))
operands_of_small Else r = tt
operands_of_small End r = tt
operands_of_small (For a n) r = (omega (arith, r.0), (omega (arith, r.2), tt))
operands_of_small (Keep a n) r = (omega (arith, r.0), (r.1, tt))
