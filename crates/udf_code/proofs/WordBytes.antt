-- A word in range is read back from its four bytes, and four bytes are those of the word that is read from them.
use Rattle.std.proofs.Common.{◌≡◌, ℕ, ◌^◌, ◌<◌, ◌≤◌, ◌&&◌, Bool, true, false, cond, [], ◌∷◌, refl, sym, ap, ◌∙◌, subst, arith}
use Rattle.std.specs.Prelude.{Option, Some, None, ◌==◌, nat_lt, nat_le}
use Rattle.std.proofs.lemmas.Bool.{ltb-true, lt-ltb, leb-true, le-leb, eqb-true}
use Rattle.udf_code.specs.declared.op.Op.{Op}
use Rattle.udf_code.specs.declared.op.Op.TheVariants as op
use Rattle.udf_code.specs.declared.word.Word.{Word}
use Rattle.udf_code.specs.declared.word.Word.TheVariants.{Set, Mov, Add, Sub, Mul, Div, Rem, And, Shr, Load1, Load2, Load4, Emit, IfLess, IfEqual, Else, End, For, Keep}
use Rattle.udf_code.specs.Words.{InRange}
use Rattle.udf_code.specs.Codes.{op_of, code_of, op_of_code}
use Rattle.udf_code.specs.Bytes.{low_byte, high_byte, number_of_bytes, operand_bytes}
use Rattle.udf_code.specs.Decoding.{when, is_register, word_of}

-- an operation is found by its code
pub op_of_code-code_of : (o : Op) → op_of_code (code_of o) ≡ Some o
op_of_code-code_of op.Set = refl
op_of_code-code_of o = refl

-- a number is what its two bytes are, and two bytes are those of their number
number_of-bytes : (n : ℕ) → number_of_bytes (low_byte n) (high_byte n) ≡ n
number_of-bytes n = omega arith

low_byte-number_of : (x y : ℕ) → x < 256 → low_byte (number_of_bytes x y) ≡ x
low_byte-number_of x y h = omega arith

high_byte-number_of : (x y : ℕ) → x < 256 → high_byte (number_of_bytes x y) ≡ y
high_byte-number_of x y h = omega arith

-- the three bytes after a word's code, and what is read from them
pub record Operands (word : Word) : Type 0 where
  pub x : ℕ
  pub y : ℕ
  pub z : ℕ
  pub written : operand_bytes word ≡ x ∷ y ∷ z ∷ []
  pub read : word_of (op_of word) x y z ≡ Some word

when_true : {T : Type 0} (t : Bool) (v w : T) → t ≡ true → v ≡ w → when t v ≡ Some w
when_true true v w h e = ap Some e
when_true false v w h e = absurd (cc)

both : (s t : Bool) → s ≡ true → t ≡ true → (s && t) ≡ true
both true t h g = g
both false t h g = absurd (cc)

register : (a : ℕ) → a < 16 → is_register a ≡ true
register a h = lt-ltb a 16 h

two : (word : Word) (make : ℕ → ℕ → Word) (a b : ℕ) → a < 16 → b < 16 → make a b ≡ word → when (is_register a && is_register b && 0 == 0) (make a b) ≡ Some word
two word make a b g h e = when_true _ _ _ (both _ _ (both _ _ (register a g) (register b h)) refl) e

three : (make : ℕ → ℕ → ℕ → Word) (a b c : ℕ) → a < 16 → b < 16 → c < 16 → when (is_register a && is_register b && is_register c) (make a b c) ≡ Some (make a b c)
three make a b c g h i = when_true _ _ _ (both _ _ (both _ _ (register a g) (register b h)) (register c i)) refl

turns : (a m n : ℕ) → m ≡ n → a < 16 → 1 ≤ n → n ≤ 512 → when (is_register a && nat_le 1 m && nat_le m 512) (For a m) ≡ Some (For a n)
turns a m n e g h i = when_true _ _ _ (both _ _ (both _ _ (register a g) (le-leb 1 m (omega arith))) (le-leb m 512 (omega arith))) (ap (For a) e)

pub operands : (word : Word) → InRange word → Operands word
operands (Set a n) r = record { x = a; y = low_byte n; z = high_byte n; written = refl; read = when_true _ _ _ (register a r.0) (ap (Set a) (number_of-bytes n)) }
operands (Mov a b) r = record { x = a; y = b; z = 0; written = refl; read = two (Mov a b) Mov a b r.0 r.1 refl }
operands (Add a b c) r = record { x = a; y = b; z = c; written = refl; read = three Add a b c r.0 r.1 r.2 }
operands (Sub a b c) r = record { x = a; y = b; z = c; written = refl; read = three Sub a b c r.0 r.1 r.2 }
operands (Mul a b c) r = record { x = a; y = b; z = c; written = refl; read = three Mul a b c r.0 r.1 r.2 }
operands (Div a b c) r = record { x = a; y = b; z = c; written = refl; read = three Div a b c r.0 r.1 r.2 }
operands (Rem a b c) r = record { x = a; y = b; z = c; written = refl; read = three Rem a b c r.0 r.1 r.2 }
operands (And a b c) r = record { x = a; y = b; z = c; written = refl; read = three And a b c r.0 r.1 r.2 }
operands (Shr a b k) r = record { x = a; y = b; z = k; written = refl; read = when_true _ _ _ (both _ _ (both _ _ (register a r.0) (register b r.1)) (lt-ltb k 32 r.2)) refl }
operands (Load1 a b) r = record { x = a; y = b; z = 0; written = refl; read = two (Load1 a b) Load1 a b r.0 r.1 refl }
operands (Load2 a b) r = record { x = a; y = b; z = 0; written = refl; read = two (Load2 a b) Load2 a b r.0 r.1 refl }
operands (Load4 a b) r = record { x = a; y = b; z = 0; written = refl; read = two (Load4 a b) Load4 a b r.0 r.1 refl }
operands (Emit a b) r = record { x = a; y = b; z = 0; written = refl; read = two (Emit a b) Emit a b r.0 r.1 refl }
operands (IfLess a b) r = record { x = a; y = b; z = 0; written = refl; read = two (IfLess a b) IfLess a b r.0 r.1 refl }
operands (IfEqual a b) r = record { x = a; y = b; z = 0; written = refl; read = two (IfEqual a b) IfEqual a b r.0 r.1 refl }
operands Else r = record { x = 0; y = 0; z = 0; written = refl; read = refl }
operands End r = record { x = 0; y = 0; z = 0; written = refl; read = refl }
operands (For a n) r = record {
  x = a;
  y = low_byte n;
  z = high_byte n;
  written = refl;
  read = turns a (number_of_bytes (low_byte n) (high_byte n)) n (number_of-bytes n) r.0 r.1 r.2;
}
operands (Keep a n) r = record { x = a; y = low_byte n; z = high_byte n; written = refl; read = when_true _ _ _ (register a r.0) (ap (Keep a) (number_of-bytes n)) }

-- what was read from three bytes is written as these bytes
pub record Reads (o : Op) (x y z : ℕ) (word : Word) : Type 0 where
  pub op_is : op_of word ≡ o
  pub written : operand_bytes word ≡ x ∷ y ∷ z ∷ []
  pub in_range : InRange word

when_some : {T : Type 0} (t : Bool) (v w : T) → when t v ≡ Some w → (t ≡ true) × (v ≡ w)
when_some true v w h = (refl, cc)
when_some false v w h = absurd (cc)

and_true : (s t : Bool) → (s && t) ≡ true → (s ≡ true) × (t ≡ true)
and_true true t h = (refl, h)
and_true false t h = absurd (cc)

module _ (o : Op) (x y z : ℕ) (word : Word) where
  by_test : (t : Bool) (made : Word) → when t made ≡ Some word → (t ≡ true → Reads o x y z made) → Reads o x y z word
  by_test t made h f = let k = when_some t made word h in subst (λ w. Reads o x y z w) k.1 (f k.0)

  no_operand_read : (made : Word) → op_of made ≡ o → operand_bytes made ≡ 0 ∷ 0 ∷ 0 ∷ [] → InRange made → when (x == 0 && y == 0 && z == 0) made ≡ Some word → Reads o x y z word
  no_operand_read made e w r h =
      by_test _ made h
      (λ t. let k = and_true _ _ t in let l = and_true _ _ k.0 in
      let p = eqb-true x 0 l.0 in let q = eqb-true y 0 l.1 in let s = eqb-true z 0 k.1 in
      record { op_is = e; written = w ∙ ap (λ n. n ∷ 0 ∷ 0 ∷ []) (sym p) ∙ ap (λ n. x ∷ n ∷ 0 ∷ []) (sym q) ∙ ap (λ n. x ∷ y ∷ n ∷ []) (sym s); in_range = r })

  two_read : (made : Word) → op_of made ≡ o → operand_bytes made ≡ x ∷ y ∷ 0 ∷ [] → (x < 16 → y < 16 → InRange made) → when (is_register x && is_register y && z == 0) made ≡ Some word → Reads o x y z word
  two_read made e w r h =
      by_test _ made h
      (λ t. let k = and_true _ _ t in let l = and_true _ _ k.0 in
      record { op_is = e; written = w ∙ ap (λ n. x ∷ y ∷ n ∷ []) (sym (eqb-true z 0 k.1)); in_range = r (ltb-true x 16 l.0) (ltb-true y 16 l.1) })

  three_read : (made : Word) → op_of made ≡ o → operand_bytes made ≡ x ∷ y ∷ z ∷ [] → (x < 16 → y < 16 → z < 16 → InRange made) → when (is_register x && is_register y && is_register z) made ≡ Some word → Reads o x y z word
  three_read made e w r h =
      by_test _ made h
      (λ t. let k = and_true _ _ t in let l = and_true _ _ k.0 in
      record { op_is = e; written = w; in_range = r (ltb-true x 16 l.0) (ltb-true y 16 l.1) (ltb-true z 16 k.1) })

  shift_read : (made : Word) → op_of made ≡ o → operand_bytes made ≡ x ∷ y ∷ z ∷ [] → (x < 16 → y < 16 → z < 32 → InRange made) → when (is_register x && is_register y && nat_lt z 32) made ≡ Some word → Reads o x y z word
  shift_read made e w r h =
      by_test _ made h
      (λ t. let k = and_true _ _ t in let l = and_true _ _ k.0 in
      record { op_is = e; written = w; in_range = r (ltb-true x 16 l.0) (ltb-true y 16 l.1) (ltb-true z 32 k.1) })

  number_read : (made : Word) → op_of made ≡ o → operand_bytes made ≡ x ∷ low_byte (number_of_bytes y z) ∷ high_byte (number_of_bytes y z) ∷ [] → y < 256 → z < 256 → (x < 16 → number_of_bytes y z < 2 ^ 16 → InRange made) → when (is_register x) made ≡ Some word → Reads o x y z word
  number_read made e w g i r h =
      by_test _ made h
      (λ t. record { op_is = e; written = w ∙ ap (λ n. x ∷ n ∷ high_byte (number_of_bytes y z) ∷ []) (low_byte-number_of y z g) ∙ ap (λ n. x ∷ y ∷ n ∷ []) (high_byte-number_of y z g); in_range = r (ltb-true x 16 t) (omega arith) })

  turns_read : (made : Word) → op_of made ≡ o → operand_bytes made ≡ x ∷ low_byte (number_of_bytes y z) ∷ high_byte (number_of_bytes y z) ∷ [] → y < 256 → (x < 16 → 1 ≤ number_of_bytes y z → number_of_bytes y z ≤ 512 → InRange made) → when (is_register x && nat_le 1 (number_of_bytes y z) && nat_le (number_of_bytes y z) 512) made ≡ Some word → Reads o x y z word
  turns_read made e w g r h =
      by_test _ made h
      (λ t. let k = and_true _ _ t in let l = and_true _ _ k.0 in
      record { op_is = e; written = w ∙ ap (λ n. x ∷ n ∷ high_byte (number_of_bytes y z) ∷ []) (low_byte-number_of y z g) ∙ ap (λ n. x ∷ y ∷ n ∷ []) (high_byte-number_of y z g); in_range = r (ltb-true x 16 l.0) (leb-true 1 _ l.1) (leb-true _ 512 k.1) })

pub reads : (o : Op) (x y z : ℕ) (word : Word) → y < 256 → z < 256 → word_of o x y z ≡ Some word → Reads o x y z word
reads op.Set x y z word g i h = number_read op.Set x y z word (Set x (number_of_bytes y z)) refl refl g i (λ p q. (p, q)) h
reads op.Mov x y z word g i h = two_read op.Mov x y z word (Mov x y) refl refl (λ p q. (p, q)) h
reads op.Add x y z word g i h = three_read op.Add x y z word (Add x y z) refl refl (λ p q r. (p, q, r)) h
reads op.Sub x y z word g i h = three_read op.Sub x y z word (Sub x y z) refl refl (λ p q r. (p, q, r)) h
reads op.Mul x y z word g i h = three_read op.Mul x y z word (Mul x y z) refl refl (λ p q r. (p, q, r)) h
reads op.Div x y z word g i h = three_read op.Div x y z word (Div x y z) refl refl (λ p q r. (p, q, r)) h
reads op.Rem x y z word g i h = three_read op.Rem x y z word (Rem x y z) refl refl (λ p q r. (p, q, r)) h
reads op.And x y z word g i h = three_read op.And x y z word (And x y z) refl refl (λ p q r. (p, q, r)) h
reads op.Shr x y z word g i h = shift_read op.Shr x y z word (Shr x y z) refl refl (λ p q r. (p, q, r)) h
reads op.Load1 x y z word g i h = two_read op.Load1 x y z word (Load1 x y) refl refl (λ p q. (p, q)) h
reads op.Load2 x y z word g i h = two_read op.Load2 x y z word (Load2 x y) refl refl (λ p q. (p, q)) h
reads op.Load4 x y z word g i h = two_read op.Load4 x y z word (Load4 x y) refl refl (λ p q. (p, q)) h
reads op.Emit x y z word g i h = two_read op.Emit x y z word (Emit x y) refl refl (λ p q. (p, q)) h
reads op.IfLess x y z word g i h = two_read op.IfLess x y z word (IfLess x y) refl refl (λ p q. (p, q)) h
reads op.IfEqual x y z word g i h = two_read op.IfEqual x y z word (IfEqual x y) refl refl (λ p q. (p, q)) h
reads op.Else x y z word g i h = no_operand_read op.Else x y z word Else refl refl tt h
reads op.End x y z word g i h = no_operand_read op.End x y z word End refl refl tt h
reads op.For x y z word g i h = turns_read op.For x y z word (For x (number_of_bytes y z)) refl refl g (λ p q r. (p, q, r)) h
reads op.Keep x y z word g i h = number_read op.Keep x y z word (Keep x (number_of_bytes y z)) refl refl g i (λ p q. (p, q)) h

-- an operation that is found by a code has that code
else_if : (n code : ℕ) (o' : Op) (rest : Option Op) (o : Op) → code_of o' ≡ n → (rest ≡ Some o → code_of o ≡ code) → cond (code == n) (Some o') rest ≡ Some o → code_of o ≡ code
else_if n code o' rest o e f h = by_test' (code == n) refl h
  where
    by_test' : (t : Bool) → (code == n) ≡ t → cond t (Some o') rest ≡ Some o → code_of o ≡ code
    by_test' true s k = let same : o' ≡ o = cc in ap code_of (sym same) ∙ e ∙ sym (eqb-true code n s)
    by_test' false s k = f k

none_left : (code : ℕ) (o : Op) → ◌≡◌ {A = Option Op} None (Some o) → code_of o ≡ code
none_left code o h = absurd (cc)

pub code_of-op_of_code : (code : ℕ) (o : Op) → op_of_code code ≡ Some o → code_of o ≡ code
code_of-op_of_code code o =
    else_if 0x01 code op.Set _ o refl (else_if 0x02 code op.Mov _ o refl (else_if 0x03 code op.Add _ o refl
    (else_if 0x04 code op.Sub _ o refl (else_if 0x05 code op.Mul _ o refl (else_if 0x06 code op.Div _ o refl
    (else_if 0x07 code op.Rem _ o refl (else_if 0x08 code op.And _ o refl (else_if 0x09 code op.Shr _ o refl
    (else_if 0x0a code op.Load1 _ o refl (else_if 0x0b code op.Load2 _ o refl (else_if 0x0c code op.Load4 _ o refl
    (else_if 0x0d code op.Emit _ o refl (else_if 0x0e code op.IfLess _ o refl (else_if 0x0f code op.IfEqual _ o refl
    (else_if 0x10 code op.Else _ o refl (else_if 0x11 code op.End _ o refl (else_if 0x12 code op.For _ o refl
    (else_if 0x13 code op.Keep _ o refl (none_left code o)))))))))))))))))))
