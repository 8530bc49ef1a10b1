-- What the programs of the three templates mean, on all bytes.
use Rattle.std.proofs.Common.{◌≡◌, ℕ, suc, ◌+◌, ◌-◌, ◌*◌, ◌^◌, ◌≤◌, ◌<◌, ◌∙◌, ap, refl, List, [], ◌∷◌, ◌++◌, map, length, append_assoc, arith}
use Rattle.std.specs.Prelude.{nat_lt, nat_le, flat_map}
use Rattle.std.specs.List.{range_with_len}
use Rattle.std.specs.Option.{option_to_list}
use Rattle.std.proofs.lemmas.Bool.{lt-ltb, le-leb}
use Rattle.udf_code.specs.declared.word.Word.TheVariants.{Set, Add, Mul, Load4, Emit}
use Rattle.udf_code.specs.Tree.{Tree, Stop, Plain, If, Loop, Less}
use Rattle.udf_run.specs.declared.pair.Pair.{Pair}
use Rattle.udf_run.specs.Meaning.{machine, reset, write_register, number_at, meaning}
use Rattle.xn_model.specs.Root.{word_at, unless_empty}
use Rattle.templates.specs.Meaning.{answer_of, numbers_of_pair, pairs_after, owned_by}
use Rattle.ffs_model.specs.Library.{pointed, pointer_word, direct_word, inode_pairs}
use Rattle.ffs_format.specs.Library.{library_root, inode_template, pointer_template}
use Rattle.templates.proofs.ForCallers.{Turned, all_turns, loop_pairs, looped, one_by_one, plain, written}
use Rattle.ffs_format.proofs.Turns.{emitted, word_ends}

-- registers that a loop changes
record Three : Type 0 where
  a : ℕ
  b : ℕ
  c : ℕ

-- names the word in a register, with the type in another, unless it is 0
abbrev named_if : ℕ → ℕ → Tree
named_if word ty = If Less 0 word (Plain (Emit word ty) Stop) Stop

-- and reads it first, at the place in a third
abbrev reading : ℕ → ℕ → ℕ → Tree
reading place word ty = Plain (Load4 word place) (named_if word ty)

-- Type 3

abbrev root_registers : Three → List ℕ
root_registers r = 0 ∷ 4 ∷ r.a ∷ r.b ∷ r.c ∷ 0 ∷ 0 ∷ 0 ∷ 0 ∷ 0 ∷ 0 ∷ 0 ∷ 0 ∷ 0 ∷ 0 ∷ 0 ∷ []

abbrev root_body : Tree
root_body = Plain (Mul 3 2 1) (reading 3 4 1)

root_turn : (m : List ℕ) (k : ℕ) (r : Three) (es : List Pair) → k < 16 → length es ≤ 0 + 1 * k →
    Turned root_registers (meaning root_body m (write_register (machine (root_registers r) es) 2 k)) (map numbers_of_pair es ++ option_to_list (unless_empty (pointer_word m k, 4))) (0 + 1 * suc k)
root_turn m k r es lt few =
    let place = k * 4 in
    let word = number_at 4 m place in
    let start = machine (root_registers (record { a = k; b = r.b; c = r.c })) es in
    let placed = machine (root_registers (record { a = k; b = place; c = r.c })) es in
    let last : Three = record { a = k; b = place; c = word } in
    word_ends root_registers m _ last es place (4 * k) 4 _ _ (omega arith) (omega arith)
    (plain m (Mul 3 2 1) (reading 3 4 1) start placed (written (nat_lt place (2 ^ 32)) start 3 place (lt-ltb place (2 ^ 32) (omega arith)))
    ∙ (plain m (Load4 4 3) (named_if 4 1) placed (machine (root_registers last) es) (written (nat_le place 508) placed 4 word (le-leb place 508 (omega arith)))
    ∙ emitted m (root_registers last) es word 4 (omega arith) (nat_lt 0 word))) refl

-- of so many pointers
abbrev root_program : ℕ → Tree
root_program n = Plain (Set 1 4) (Loop 2 n [] root_body Stop)

root_program_owns : (m : List ℕ) (n : ℕ) → n ≡ 16 → pairs_after (meaning (root_program n) m reset) ≡ pointed (pointer_word m) 16 4
root_program_owns m n all =
    let word = λ (k : ℕ). unless_empty (pointer_word m k, 4) in
    loop_pairs root_registers m root_body 2 (λ k. option_to_list (word k)) 1 16 (root_turn m) (record { a = 0; b = 0; c = 0 }) n all ∙ one_by_one word (range_with_len 0 16)

pub root_owns : (m : List ℕ) → owned_by library_root.owns m ≡ pointed (pointer_word m) 16 4
unfolding owned_by library_root
root_owns m = root_program_owns m 16 refl

-- Type 5

abbrev pointer_registers : Three → List ℕ
pointer_registers r = 0 ∷ 4 ∷ 2 ∷ r.a ∷ r.b ∷ r.c ∷ 0 ∷ 0 ∷ 0 ∷ 0 ∷ 0 ∷ 0 ∷ 0 ∷ 0 ∷ 0 ∷ 0 ∷ []

abbrev pointer_body : Tree
pointer_body = Plain (Mul 4 3 1) (reading 4 5 2)

pointer_turn : (m : List ℕ) (k : ℕ) (r : Three) (es : List Pair) → k < 128 → length es ≤ 0 + 1 * k →
    Turned pointer_registers (meaning pointer_body m (write_register (machine (pointer_registers r) es) 3 k)) (map numbers_of_pair es ++ option_to_list (unless_empty (pointer_word m k, 2))) (0 + 1 * suc k)
pointer_turn m k r es lt few =
    let place = k * 4 in
    let word = number_at 4 m place in
    let start = machine (pointer_registers (record { a = k; b = r.b; c = r.c })) es in
    let placed = machine (pointer_registers (record { a = k; b = place; c = r.c })) es in
    let last : Three = record { a = k; b = place; c = word } in
    word_ends pointer_registers m _ last es place (4 * k) 2 _ _ (omega arith) (omega arith)
    (plain m (Mul 4 3 1) (reading 4 5 2) start placed (written (nat_lt place (2 ^ 32)) start 4 place (lt-ltb place (2 ^ 32) (omega arith)))
    ∙ (plain m (Load4 5 4) (named_if 5 2) placed (machine (pointer_registers last) es) (written (nat_le place 508) placed 5 word (le-leb place 508 (omega arith)))
    ∙ emitted m (pointer_registers last) es word 2 (omega arith) (nat_lt 0 word))) refl

abbrev pointer_program : ℕ → Tree
pointer_program n = Plain (Set 1 4) (Plain (Set 2 2) (Loop 3 n [] pointer_body Stop))

pointer_program_owns : (m : List ℕ) (n : ℕ) → n ≡ 128 → pairs_after (meaning (pointer_program n) m reset) ≡ pointed (pointer_word m) 128 2
pointer_program_owns m n all =
    let word = λ (k : ℕ). unless_empty (pointer_word m k, 2) in
    loop_pairs pointer_registers m pointer_body 3 (λ k. option_to_list (word k)) 1 128 (pointer_turn m) (record { a = 0; b = 0; c = 0 }) n all ∙ one_by_one word (range_with_len 0 128)

pub pointers_own : (m : List ℕ) → owned_by pointer_template.owns m ≡ pointed (pointer_word m) 128 2
unfolding owned_by pointer_template
pointers_own m = pointer_program_owns m 128 refl

-- Type 4: the pointers of one inode, and then its last one

record Outer : Type 0 where
  a : ℕ
  b : ℕ
  c : ℕ
  d : ℕ
  e : ℕ
  f : ℕ

abbrev outer_registers : Outer → List ℕ
outer_registers r = 0 ∷ 64 ∷ 4 ∷ 8 ∷ 2 ∷ 5 ∷ 56 ∷ r.a ∷ r.b ∷ r.c ∷ r.d ∷ r.e ∷ r.f ∷ 0 ∷ 0 ∷ 0 ∷ []

abbrev inner_registers : ℕ → Three → List ℕ
inner_registers p r = outer_registers (record { a = p; b = p * 64; c = p * 64 + 8; d = r.a; e = r.b; f = r.c })

abbrev direct_add : Tree
direct_add = Plain (Add 11 11 9) (reading 11 12 4)

abbrev direct_body : Tree
direct_body = Plain (Mul 11 10 2) direct_add

direct_turn : (m : List ℕ) (p : ℕ) → p < 8 → (base : ℕ) → base ≤ 13 * p → (k : ℕ) (r : Three) (es : List Pair) → k < 12 → length es ≤ base + 1 * k →
    Turned (inner_registers p) (meaning direct_body m (write_register (machine (inner_registers p r) es) 10 k)) (map numbers_of_pair es ++ option_to_list (unless_empty (direct_word m p k, 2))) (base + 1 * suc k)
direct_turn m p within base low k r es lt few =
    let place = k * 4 + (p * 64 + 8) in
    let word = number_at 4 m place in
    let start = machine (inner_registers p (record { a = k; b = r.b; c = r.c })) es in
    let scaled = machine (inner_registers p (record { a = k; b = k * 4; c = r.c })) es in
    let placed = machine (inner_registers p (record { a = k; b = place; c = r.c })) es in
    let last : Three = record { a = k; b = place; c = word } in
    word_ends (inner_registers p) m _ last es place (64 * p + 8 + 4 * k) 2 _ _ (omega arith) (omega arith)
    (plain m (Mul 11 10 2) direct_add start scaled (written (nat_lt (k * 4) (2 ^ 32)) start 11 (k * 4) (lt-ltb (k * 4) (2 ^ 32) (omega arith)))
    ∙ (plain m (Add 11 11 9) (reading 11 12 4) scaled placed (written (nat_lt place (2 ^ 32)) scaled 11 place (lt-ltb place (2 ^ 32) (omega arith)))
    ∙ (plain m (Load4 12 11) (named_if 12 4) placed (machine (inner_registers p last) es) (written (nat_le place 508) placed 12 word (le-leb place 508 (omega arith)))
    ∙ emitted m (inner_registers p last) es word 2 (omega arith) (nat_lt 0 word)))) refl

abbrev last_part : Tree
last_part = Plain (Add 9 8 6) (reading 9 12 5)

-- with so many direct pointers
abbrev inode_loop : ℕ → Tree
inode_loop n = Loop 10 n [] direct_body last_part

abbrev inode_place : ℕ → Tree
inode_place n = Plain (Add 9 8 3) (inode_loop n)

abbrev inode_body : ℕ → Tree
inode_body n = Plain (Mul 8 7 1) (inode_place n)

abbrev pairs_of_inode : List ℕ → ℕ → ℕ → List (ℕ × ℕ)
pairs_of_inode m n p = pointed (direct_word m p) n 2 ++ option_to_list (unless_empty (word_at m (64 * p + 56), 5))

inode_turn : (m : List ℕ) (n : ℕ) → n ≡ 12 → (p : ℕ) (r : Outer) (es : List Pair) → p < 8 → length es ≤ 0 + 13 * p →
    Turned outer_registers (meaning (inode_body n) m (write_register (machine (outer_registers r) es) 7 p)) (map numbers_of_pair es ++ pairs_of_inode m n p) (0 + 13 * suc p)
inode_turn m n all p r es lt few =
    let start = machine (outer_registers (record { a = p; b = r.b; c = r.c; d = r.d; e = r.e; f = r.f })) es in
    let scaled = machine (outer_registers (record { a = p; b = p * 64; c = r.c; d = r.d; e = r.e; f = r.f })) es in
    let first : Three = record { a = r.d; b = r.e; c = r.f } in
    let base = length es in
    let end = all_turns (inner_registers p) (meaning direct_body m) 10 (λ k. option_to_list (unless_empty (direct_word m p k, 2))) base 1 12
    (direct_turn m p lt base (omega arith)) first es (omega arith) n (omega arith) in
    let turned = machine (inner_registers p (record { a = n - 1; b = end.at.b; c = end.at.c })) end.es in
    let place = p * 64 + 56 in
    let word = number_at 4 m place in
    let placed = machine (outer_registers (record { a = p; b = p * 64; c = place; d = n - 1; e = end.at.b; f = end.at.c })) end.es in
    let last : Outer = record { a = p; b = p * 64; c = place; d = n - 1; e = end.at.b; f = word } in
    let had = end.few in
    word_ends outer_registers m _ last end.es place (64 * p + 56) 5 _ _ (omega arith) (omega arith)
    (plain m (Mul 8 7 1) (inode_place n) start scaled (written (nat_lt (p * 64) (2 ^ 32)) start 8 (p * 64) (lt-ltb (p * 64) (2 ^ 32) (omega arith)))
    ∙ (plain m (Add 9 8 3) (inode_loop n) scaled (machine (inner_registers p first) es) (written (nat_lt (p * 64 + 8) (2 ^ 32)) scaled 9 (p * 64 + 8) (lt-ltb (p * 64 + 8) (2 ^ 32) (omega arith)))
    ∙ (looped m 10 n [] direct_body last_part (machine (inner_registers p first) es) (machine (inner_registers p end.at) end.es) end.ends
    ∙ (plain m (Add 9 8 6) (reading 9 12 5) turned placed (written (nat_lt place (2 ^ 32)) turned 9 place (lt-ltb place (2 ^ 32) (omega arith)))
    ∙ (plain m (Load4 12 9) (named_if 12 5) placed (machine (outer_registers last) end.es) (written (nat_le place 508) placed 12 word (le-leb place 508 (omega arith)))
    ∙ emitted m (outer_registers last) end.es word 5 (omega arith) (nat_lt 0 word))))))
    (ap (λ l. l ++ option_to_list (unless_empty (word_at m (64 * p + 56), 5))) (end.has ∙ ap (λ l. map numbers_of_pair es ++ l) (one_by_one (λ k. unless_empty (direct_word m p k, 2)) (range_with_len 0 n)))
    ∙ append_assoc (map numbers_of_pair es) (pointed (direct_word m p) n 2) (option_to_list (unless_empty (word_at m (64 * p + 56), 5))))

abbrev inode_program : ℕ → ℕ → Tree
inode_program q n = Plain (Set 1 64) (Plain (Set 2 4) (Plain (Set 3 8) (Plain (Set 4 2) (Plain (Set 5 5) (Plain (Set 6 56) (Loop 7 q [] (inode_body n) Stop))))))

inode_program_owns : (m : List ℕ) (q n : ℕ) → q ≡ 8 → n ≡ 12 → pairs_after (meaning (inode_program q n) m reset) ≡ flat_map (inode_pairs m) (range_with_len 0 8)
inode_program_owns m q n e f =
    loop_pairs outer_registers m (inode_body n) 7 (pairs_of_inode m n) 13 8 (inode_turn m n f) (record { a = 0; b = 0; c = 0; d = 0; e = 0; f = 0 }) q e
    ∙ ap (λ k. flat_map (pairs_of_inode m k) (range_with_len 0 8)) f

pub inodes_own : (m : List ℕ) → owned_by inode_template.owns m ≡ flat_map (inode_pairs m) (range_with_len 0 8)
unfolding owned_by inode_template
inodes_own m = inode_program_owns m 8 12 refl refl

-- From which byte on a block is 0

pub root_sized : (m : List ℕ) → answer_of library_root.size m ≡ 64
unfolding answer_of library_root
root_sized m = refl

pub inodes_sized : (m : List ℕ) → answer_of inode_template.size m ≡ 512
unfolding answer_of inode_template
inodes_sized m = refl

pub pointers_sized : (m : List ℕ) → answer_of pointer_template.size m ≡ 512
unfolding answer_of pointer_template
pointers_sized m = refl
