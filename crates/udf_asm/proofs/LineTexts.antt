-- A line that is read is the line of its word, and the line of a word in range is read as that word.
use Rattle.std.proofs.Common.{◌≡◌, ℕ, ◌&&◌, Bool, true, false, cond, List, [], ◌∷◌, ◌++◌, map, length, refl, sym, ap, ◌∙◌, subst, arith, append-nil}
use Rattle.std.specs.Prelude.{Option, Some, None, Ok, Err, ◌==◌, nat_lt}
use Rattle.std.specs.Fmt.{decimal}
use Rattle.std.specs.List.{All, flat_map, join_with_byte, list_all, slice_split}
use Rattle.std.specs.Option.{ok_or}
use Rattle.std.proofs.lemmas.Bool.{ltb-true, lt-ltb, eqb-true, eq-eqb}
use Rattle.std.proofs.lemmas.List.Folds.{list_all-append}
use Rattle.std.proofs.lemmas.List.Splits.{slice_split_at, slice_split_none, join_with_byte-slice_split}
use Rattle.std.proofs.lemmas.List.Sums.{AllPass-from_list_all}
use Rattle.udf_code.specs.declared.op.Op.{Op}
use Rattle.udf_code.specs.declared.word.Word.{Word}
use Rattle.udf_code.specs.Words.{InRange}
use Rattle.udf_code.specs.Codes.{op_of}
use Rattle.udf_code.specs.Structure.{◌>>=◌}
use Rattle.udf_code.proofs.ForCallers.{bind_ok}
use Rattle.udf_asm.specs.declared.fault.AsmKind.TheVariants.{BadName, BadCount, BadNumber}
use Rattle.udf_asm.specs.Names.{name_of, op_named}
use Rattle.udf_asm.specs.Numbers.{number_of, numbers_of_all}
use Rattle.udf_asm.specs.Numbers as numbers
use Rattle.udf_asm.specs.Operands.{operand_count, operands_of, word_with}
use Rattle.udf_asm.specs.Assembly.{is_space, operands_read, parts_read, line_read}
use Rattle.udf_asm.specs.Printing.{operand_text}
use Rattle.udf_asm.proofs.Decimals.{number_of-decimal, decimal_high, decimal-number_of}
use Rattle.udf_asm.proofs.NamesOf.{op_named-name_of, name_of-op_named, name_high, line_read-name}
use Rattle.udf_asm.proofs.OperandsOf.{AreSmall, word_with-operands_of, word_with-reads, length-operands_of, operands_of_small}

-- the line of a word, without its newline
abbrev pub body_of : Word → List ℕ
body_of word = name_of (op_of word) ++ flat_map operand_text (operands_of word)

-- parts that are joined at spaces
joined : (c : ℕ) (x : List ℕ) (xs : List (List ℕ)) → join_with_byte c (x ∷ xs) ≡ x ++ flat_map (λ t. c ∷ t) xs
joined c x [] = sym (append-nil x)
joined c x (y ∷ ys) = ap (λ t. x ++ (c ∷ t)) (joined c y ys)

bind_some : {A B : Type 0} (o : Option A) (f : A → Option B) (y : B) → numbers.◌>>=◌ o f ≡ Some y → (x : A) × (o ≡ Some x) × (f x ≡ Some y)
bind_some (Some x) f y h = (x, refl, h)
bind_some None f y h = absurd (cc)

ok_or_ok : {T E : Type 0} (o : Option T) (e : E) (v : T) → ok_or o e ≡ Ok v → o ≡ Some v
ok_or_ok None e v h = absurd (cc)
ok_or_ok (Some x) e v h = cc

-- texts that are numbers are their decimals
numbers_text : (texts : List (List ℕ)) (ns : List ℕ) → numbers_of_all texts ≡ Some ns → (flat_map (λ t. 32 ∷ t) texts ≡ flat_map operand_text ns) × AreSmall ns
numbers_text [] [] h = (refl, tt)
numbers_text [] (n ∷ ns) h = absurd (cc)
numbers_text (text ∷ texts) ns h =
    let a = bind_some (number_of text) (λ n. numbers.◌>>=◌ (numbers_of_all texts) (λ rest. Some (n ∷ rest))) ns h in
    let b = bind_some (numbers_of_all texts) (λ rest. Some (a.0 ∷ rest)) ns a.2 in
    let d = decimal-number_of text a.0 a.1 in
    let r = numbers_text texts b.0 b.1 in
    let same : a.0 ∷ b.0 ≡ ns = let e = b.2 in cc in
    subst (λ n. (flat_map (λ t. 32 ∷ t) (text ∷ texts) ≡ flat_map operand_text n) × AreSmall n) same
    (ap (λ t. 32 ∷ (t ++ flat_map (λ u. 32 ∷ u) texts)) d.0 ∙ ap (λ t. 32 ∷ (decimal a.0 ++ t)) r.0, (d.1, r.1))

-- what a line is
pub record IsLine (line : List ℕ) (word : Word) : Type 0 where
  pub written : line ≡ body_of word
  pub in_range : InRange word

counted : (o : Op) (operands : List (List ℕ)) (word : Word) → operands_read o operands ≡ Ok word → numbers.◌>>=◌ (numbers_of_all operands) (word_with o) ≡ Some word
counted o operands word h = by_test (length operands == operand_count o) h
  where
    by_test : (t : Bool) → cond t (ok_or (numbers.◌>>=◌ (numbers_of_all operands) (word_with o)) BadNumber) (Err BadCount) ≡ Ok word → numbers.◌>>=◌ (numbers_of_all operands) (word_with o) ≡ Some word
    by_test true k = ok_or_ok _ BadNumber word k
    by_test false k = absurd (cc)

parts_line : (parts : List (List ℕ)) (word : Word) → parts_read parts ≡ Ok word → IsLine (join_with_byte 32 parts) word
parts_line [] word h = absurd (cc)
parts_line (name ∷ operands) word h =
    let a = bind_ok (ok_or (op_named name) BadName) (λ o. operands_read o operands) word h in
    let named = name_of-op_named name a.0 (ok_or_ok (op_named name) BadName a.0 a.1) in
    let b = bind_some (numbers_of_all operands) (word_with a.0) word (counted a.0 operands word a.2) in
    let n = numbers_text operands b.0 b.1 in
    let w = word_with-reads a.0 b.0 word n.1 b.2 in
    record {
      written = joined 32 name operands ∙ ap (λ t. t ++ flat_map (λ u. 32 ∷ u) operands) (named ∙ sym (ap name_of w.op_is))
          ∙ ap (λ t. name_of (op_of word) ++ t) (n.0 ∙ sym (ap (flat_map operand_text) w.operands_are));
      in_range = w.in_range;
    }

pub line_is : (line : List ℕ) (word : Word) → line_read line ≡ Ok word → IsLine line word
line_is [] word h = absurd (cc)
line_is (byte ∷ line) word h =
    let p = parts_line (slice_split is_space (byte ∷ line)) word h in
    record { written = sym (join_with_byte-slice_split 32 (byte ∷ line)) ∙ p.written; in_range = p.in_range }

-- a byte that is above b isn't b
not_at : (b c : ℕ) → nat_lt b c ≡ true → (t : Bool) → (c == b) ≡ t → t ≡ false
not_at b c h true e = let m = ltb-true b c h in let n = eqb-true c b e in absurd (omega arith)
not_at b c h false e = refl

pub none_is : (b : ℕ) (xs : List ℕ) → list_all (λ c. nat_lt b c) xs ≡ true → All (λ c. (c == b) ≡ false) xs
none_is b xs h = let all = AllPass-from_list_all (λ c. nat_lt b c) xs h in λ k d g. not_at b _ (all k d g) _ refl

-- a name and its operands are parted at the spaces
line_parts : (name : List ℕ) (ns : List ℕ) → list_all (λ c. nat_lt 32 c) name ≡ true → AreSmall ns → slice_split is_space (name ++ flat_map operand_text ns) ≡ name ∷ map decimal ns
line_parts name [] h s = ap (slice_split is_space) (append-nil name) ∙ slice_split_none is_space name (none_is 32 name h)
line_parts name (n ∷ ns) h s =
    slice_split_at is_space name 32 (decimal n ++ flat_map operand_text ns) (none_is 32 name h) refl
    ∙ ap (λ parts. name ∷ parts) (line_parts (decimal n) ns (decimal_high n s.0) s.1)

numbers_of-decimals : (ns : List ℕ) → AreSmall ns → numbers_of_all (map decimal ns) ≡ Some ns
numbers_of-decimals [] s = refl
numbers_of-decimals (n ∷ ns) s =
    ap (λ o. numbers.◌>>=◌ o (λ m. numbers.◌>>=◌ (numbers_of_all (map decimal ns)) (λ rest. Some (m ∷ rest)))) (number_of-decimal n s.0)
    ∙ ap (λ o. numbers.◌>>=◌ o (λ rest. Some (n ∷ rest))) (numbers_of-decimals ns s.1)

length-decimals : (ns : List ℕ) → length (map decimal ns) ≡ length ns
length-decimals [] = refl
length-decimals (n ∷ ns) = let ih = length-decimals ns in omega arith

pub line_read-body_of : (word : Word) → InRange word → line_read (body_of word) ≡ Ok word
line_read-body_of word r =
    let s = operands_of_small word r in
    let ns = operands_of word in
    let o = op_of word in
    line_read-name o (flat_map operand_text ns) ∙ ap parts_read (line_parts (name_of o) ns (name_high o) s)
    ∙ ap (λ n. ok_or n BadName >>= (λ p. operands_read p (map decimal ns))) (op_named-name_of o)
    ∙ ap (λ t. cond t (ok_or (numbers.◌>>=◌ (numbers_of_all (map decimal ns)) (word_with o)) BadNumber) (Err BadCount)) (eq-eqb _ _ (length-decimals ns ∙ length-operands_of word))
    ∙ ap (λ n. ok_or (numbers.◌>>=◌ n (word_with o)) BadNumber) (numbers_of-decimals ns s)
    ∙ ap (λ n. ok_or n BadNumber) (word_with-operands_of word r)

-- no newline stands in a line
higher : (xs : List ℕ) → list_all (λ c. nat_lt 32 c) xs ≡ true → list_all (λ c. nat_lt 10 c) xs ≡ true
higher [] h = refl
higher (x ∷ xs) h =
    let k = and_true (nat_lt 32 x) (list_all (λ c. nat_lt 32 c) xs) h in
    let l = ltb-true 32 x k.0 in
    both_true (nat_lt 10 x) _ (lt-ltb 10 x (omega arith)) (higher xs k.1)
  where
    and_true : (s t : Bool) → (s && t) ≡ true → (s ≡ true) × (t ≡ true)
    and_true true t g = (refl, g)
    and_true false t g = absurd (cc)

    both_true : (s t : Bool) → s ≡ true → t ≡ true → (s && t) ≡ true
    both_true true t g i = i
    both_true false t g i = absurd (cc)

operands_high : (ns : List ℕ) → AreSmall ns → list_all (λ c. nat_lt 10 c) (flat_map operand_text ns) ≡ true
operands_high [] s = refl
operands_high (n ∷ ns) s = list_all-append (λ c. nat_lt 10 c) (decimal n) (flat_map operand_text ns) ∙ ap (λ t. t && list_all (λ c. nat_lt 10 c) (flat_map operand_text ns)) (higher (decimal n) (decimal_high n s.0)) ∙ operands_high ns s.1

pub body_high : (word : Word) → InRange word → list_all (λ c. nat_lt 10 c) (body_of word) ≡ true
body_high word r =
    list_all-append (λ c. nat_lt 10 c) (name_of (op_of word)) _
    ∙ ap (λ t. t && list_all (λ c. nat_lt 10 c) (flat_map operand_text (operands_of word))) (higher (name_of (op_of word)) (name_high (op_of word)))
    ∙ operands_high (operands_of word) (operands_of_small word r)
