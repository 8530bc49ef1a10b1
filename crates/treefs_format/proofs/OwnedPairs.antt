-- What the programs of the two templates mean, on all bytes.
use Rattle.std.proofs.Common.{◌≡◌, ℕ, suc, ◌+◌, ◌-◌, ◌*◌, ◌^◌, ◌≤◌, ◌<◌, ◌∙◌, ap, sym, refl, List, [], ◌∷◌, ◌++◌, map, length, take, drop, arith}
use Rattle.std.specs.Prelude.{nat_lt, nat_le, flat_map, filter_map, slice_index}
use Rattle.std.specs.List.{cons_option, range_with_len}
use Rattle.std.specs.Option.{option_to_list}
use Rattle.std.proofs.lemmas.Bool.{lt-ltb, le-leb}
use Rattle.udf_code.specs.declared.word.Word.TheVariants.{Set, Add, Mul, Load1, Load4, Emit}
use Rattle.udf_code.specs.Tree.{Tree, Stop, Plain, If, Loop, Less}
use Rattle.udf_run.specs.declared.pair.Pair.{Pair}
use Rattle.udf_run.specs.Meaning.{machine, reset, write_register, number_at, meaning}
use Rattle.xn_model.specs.Root.{word_at, unless_empty}
use Rattle.templates.specs.Meaning.{answer_of, numbers_of_pair, pairs_after, owned_by}
use Rattle.treefs_format.specs.Inodes.{pointers_of}
use Rattle.treefs_format.specs.Nodes.{children_of}
use Rattle.treefs_format.specs.Numbers.{words_at}
use Rattle.treefs_format.specs.Templates.{inode_template, node_template, inode_pairs, node_pairs, with_type}
use Rattle.templates.proofs.ForCallers.{Turned, all_turns, loop_pairs, looped, one_by_one, plain, written}
use Rattle.treefs_format.proofs.Turns.{emitted, word_ends}

-- registers that a loop changes
record Three : Type 0 where
  a : ℕ
  b : ℕ
  c : ℕ

-- names the word in a register, with the type in another, unless it is 0
abbrev named_if : ℕ → ℕ → Tree
named_if word ty = If Less 0 word (Plain (Emit word ty) Stop) Stop

-- and reads it first, at the place in a third
abbrev reading : ℕ → ℕ → ℕ → Tree
reading place word ty = Plain (Load4 word place) (named_if word ty)

-- the byte at a place
byte_is : (m : List ℕ) (at : ℕ) → number_at 1 m at ≡ slice_index m at
byte_is m at = omega arith

-- the words from a place on, one by one
words_pairs : (m : List ℕ) (at n ty : ℕ) → flat_map (λ k. option_to_list (unless_empty (word_at m (at + 4 * k), ty))) (range_with_len 0 n) ≡ with_type ty (words_at m at n)
unfolding words_at
words_pairs m at n ty = one_by_one (λ k. unless_empty (word_at m (at + 4 * k), ty)) (range_with_len 0 n) ∙ each (range_with_len 0 n)
  where
    each : (xs : List ℕ) → filter_map (λ k. unless_empty (word_at m (at + 4 * k), ty)) xs ≡ filter_map (λ block. unless_empty (block, ty)) (map (λ i. word_at m (at + 4 * i)) xs)
    each [] = refl
    each (x ∷ xs) = ap (cons_option (unless_empty (word_at m (at + 4 * x), ty))) (each xs)

-- Nodes

abbrev node_registers : ℕ → Three → List ℕ
node_registers ty r = 0 ∷ ty ∷ 4 ∷ r.a ∷ r.b ∷ r.c ∷ 0 ∷ 0 ∷ 0 ∷ 0 ∷ 0 ∷ 0 ∷ 0 ∷ 0 ∷ 0 ∷ 0 ∷ []

abbrev node_add : Tree
node_add = Plain (Add 4 4 2) (reading 4 5 1)

abbrev node_body : Tree
node_body = Plain (Mul 4 3 2) node_add

node_turn : (m : List ℕ) (ty k : ℕ) (r : Three) (es : List Pair) → k < 127 → length es ≤ 0 + 1 * k →
    Turned (node_registers ty) (meaning node_body m (write_register (machine (node_registers ty r) es) 3 k)) (map numbers_of_pair es ++ option_to_list (unless_empty (word_at m (4 + 4 * k), ty))) (0 + 1 * suc k)
node_turn m ty k r es lt few =
    let place = k * 4 + 4 in
    let word = number_at 4 m place in
    let start = machine (node_registers ty (record { a = k; b = r.b; c = r.c })) es in
    let scaled = machine (node_registers ty (record { a = k; b = k * 4; c = r.c })) es in
    let placed = machine (node_registers ty (record { a = k; b = place; c = r.c })) es in
    let last : Three = record { a = k; b = place; c = word } in
    word_ends (node_registers ty) m _ last es place (4 + 4 * k) ty _ _ (omega arith) (omega arith)
    (plain m (Mul 4 3 2) node_add start scaled (written (nat_lt (k * 4) (2 ^ 32)) start 4 (k * 4) (lt-ltb (k * 4) (2 ^ 32) (omega arith)))
    ∙ (plain m (Add 4 4 2) (reading 4 5 1) scaled placed (written (nat_lt place (2 ^ 32)) scaled 4 place (lt-ltb place (2 ^ 32) (omega arith)))
    ∙ (plain m (Load4 5 4) (named_if 5 1) placed (machine (node_registers ty last) es) (written (nat_le place 508) placed 5 word (le-leb place 508 (omega arith)))
    ∙ emitted m (node_registers ty last) es word ty (omega arith) (nat_lt 0 word)))) refl

-- of so many pointers
abbrev node_loop : ℕ → Tree
node_loop n = Loop 3 n [] node_body Stop

node_program_owns : (m : List ℕ) (n : ℕ) → n ≡ 127 → pairs_after (meaning (Plain (Load1 1 0) (Plain (Set 2 4) (node_loop n))) m reset) ≡ node_pairs m
node_program_owns m n all =
    let ty = number_at 1 m 0 in
    loop_pairs (node_registers ty) m node_body 3 (λ k. option_to_list (unless_empty (word_at m (4 + 4 * k), ty))) 1 127 (node_turn m ty) (record { a = 0; b = 0; c = 0 }) n all
    ∙ (words_pairs m 4 127 ty ∙ ap (λ t. with_type t (children_of m)) (byte_is m 0))

pub nodes_own : (m : List ℕ) → owned_by node_template.owns m ≡ node_pairs m
unfolding owned_by node_template
nodes_own m = node_program_owns m 127 refl

-- Inodes: two loops of the same body, with other places and types

-- the places from which on the words are read
abbrev inode_registers : ℕ → ℕ → ℕ → Three → List ℕ
inode_registers leaf node base r = 0 ∷ leaf ∷ node ∷ 4 ∷ base ∷ r.a ∷ r.b ∷ r.c ∷ 0 ∷ 0 ∷ 0 ∷ 0 ∷ 0 ∷ 0 ∷ 0 ∷ 0 ∷ []

abbrev leaf_add : Tree
leaf_add = Plain (Add 6 6 4) (reading 6 7 1)

abbrev leaf_body : Tree
leaf_body = Plain (Mul 6 5 3) leaf_add

abbrev tree_add : Tree
tree_add = Plain (Add 6 6 4) (reading 6 7 2)

abbrev tree_body : Tree
tree_body = Plain (Mul 6 5 3) tree_add

leaf_turn : (m : List ℕ) (leaf node k : ℕ) (r : Three) (es : List Pair) → k < 16 → length es ≤ 0 + 1 * k →
    Turned (inode_registers leaf node 48) (meaning leaf_body m (write_register (machine (inode_registers leaf node 48 r) es) 5 k)) (map numbers_of_pair es ++ option_to_list (unless_empty (word_at m (48 + 4 * k), leaf)))
    (0 + 1 * suc k)
leaf_turn m leaf node k r es lt few =
    let place = k * 4 + 48 in
    let word = number_at 4 m place in
    let registers = inode_registers leaf node 48 in
    let start = machine (registers (record { a = k; b = r.b; c = r.c })) es in
    let scaled = machine (registers (record { a = k; b = k * 4; c = r.c })) es in
    let placed = machine (registers (record { a = k; b = place; c = r.c })) es in
    let last : Three = record { a = k; b = place; c = word } in
    word_ends registers m _ last es place (48 + 4 * k) leaf _ _ (omega arith) (omega arith)
    (plain m (Mul 6 5 3) leaf_add start scaled (written (nat_lt (k * 4) (2 ^ 32)) start 6 (k * 4) (lt-ltb (k * 4) (2 ^ 32) (omega arith)))
    ∙ (plain m (Add 6 6 4) (reading 6 7 1) scaled placed (written (nat_lt place (2 ^ 32)) scaled 6 place (lt-ltb place (2 ^ 32) (omega arith)))
    ∙ (plain m (Load4 7 6) (named_if 7 1) placed (machine (registers last) es) (written (nat_le place 508) placed 7 word (le-leb place 508 (omega arith)))
    ∙ emitted m (registers last) es word leaf (omega arith) (nat_lt 0 word)))) refl

tree_turn : (m : List ℕ) (leaf node base : ℕ) → base ≤ 16 → (k : ℕ) (r : Three) (es : List Pair) → k < 4 → length es ≤ base + 1 * k →
    Turned (inode_registers leaf node 112) (meaning tree_body m (write_register (machine (inode_registers leaf node 112 r) es) 5 k)) (map numbers_of_pair es ++ option_to_list (unless_empty (word_at m (112 + 4 * k), node)))
    (base + 1 * suc k)
tree_turn m leaf node base low k r es lt few =
    let place = k * 4 + 112 in
    let word = number_at 4 m place in
    let registers = inode_registers leaf node 112 in
    let start = machine (registers (record { a = k; b = r.b; c = r.c })) es in
    let scaled = machine (registers (record { a = k; b = k * 4; c = r.c })) es in
    let placed = machine (registers (record { a = k; b = place; c = r.c })) es in
    let last : Three = record { a = k; b = place; c = word } in
    word_ends registers m _ last es place (112 + 4 * k) node _ _ (omega arith) (omega arith)
    (plain m (Mul 6 5 3) tree_add start scaled (written (nat_lt (k * 4) (2 ^ 32)) start 6 (k * 4) (lt-ltb (k * 4) (2 ^ 32) (omega arith)))
    ∙ (plain m (Add 6 6 4) (reading 6 7 2) scaled placed (written (nat_lt place (2 ^ 32)) scaled 6 place (lt-ltb place (2 ^ 32) (omega arith)))
    ∙ (plain m (Load4 7 6) (named_if 7 2) placed (machine (registers last) es) (written (nat_le place 508) placed 7 word (le-leb place 508 (omega arith)))
    ∙ emitted m (registers last) es word node (omega arith) (nat_lt 0 word)))) refl

-- the second loop, behind the pairs of the first
abbrev trees_from : ℕ → Tree
trees_from n = Plain (Set 4 112) (Loop 5 n [] tree_body Stop)

abbrev inode_tree : ℕ → ℕ → Tree
inode_tree n k = Plain (Load1 1 0) (Plain (Set 2 1) (Plain (Load1 2 2) (Plain (Set 3 4) (Plain (Set 4 48) (Loop 5 n [] leaf_body (trees_from k))))))

-- 20 words, of which the first 16 point to leaves
words_split : (m : List ℕ) → (take 16 (words_at m 48 20) ≡ words_at m 48 16) × (drop 16 (words_at m 48 20) ≡ words_at m 112 4)
unfolding words_at
words_split m = (refl, refl)

inode_program_owns : (m : List ℕ) (n k : ℕ) → n ≡ 16 → k ≡ 4 → pairs_after (meaning (inode_tree n k) m reset) ≡ inode_pairs m
inode_program_owns m n k all rest =
    let leaf = number_at 1 m 0 in
    let node = number_at 1 m 1 in
    let leaves = λ (i : ℕ). option_to_list (unless_empty (word_at m (48 + 4 * i), leaf)) in
    let trees = λ (i : ℕ). option_to_list (unless_empty (word_at m (112 + 4 * i), node)) in
    let none : Three = record { a = 0; b = 0; c = 0 } in
    let first = all_turns (inode_registers leaf node 48) (meaning leaf_body m) 5 leaves 0 1 16 (leaf_turn m leaf node) none [] (omega arith) n (omega arith) in
    let between : Three = record { a = n - 1; b = first.at.b; c = first.at.c } in
    let had = first.few in
    let second = all_turns (inode_registers leaf node 112) (meaning tree_body m) 5 trees (length first.es) 1 4 (tree_turn m leaf node (length first.es) (omega arith)) between first.es (omega arith) k (omega arith) in
    ap pairs_after (looped m 5 n [] leaf_body (trees_from k) (machine (inode_registers leaf node 48 none) []) (machine (inode_registers leaf node 48 first.at) first.es) first.ends
    ∙ looped m 5 k [] tree_body Stop (machine (inode_registers leaf node 112 between) first.es) (machine (inode_registers leaf node 112 second.at) second.es) second.ends)
    ∙ (second.has
    ∙ (ap (λ l. l ++ flat_map trees (range_with_len 0 k)) (first.has ∙ (ap (λ q. flat_map leaves (range_with_len 0 q)) all ∙ words_pairs m 48 16 leaf))
    ∙ (ap (λ q. with_type leaf (words_at m 48 16) ++ flat_map trees (range_with_len 0 q)) rest
    ∙ (ap (λ l. with_type leaf (words_at m 48 16) ++ l) (words_pairs m 112 4 node)
    ∙ (ap (λ t. with_type t (words_at m 48 16) ++ with_type node (words_at m 112 4)) (byte_is m 0)
    ∙ (ap (λ t. with_type (slice_index m 0) (words_at m 48 16) ++ with_type t (words_at m 112 4)) (byte_is m 1)
    ∙ (ap (λ l. with_type (slice_index m 0) l ++ with_type (slice_index m 1) (words_at m 112 4)) (sym (words_split m).0)
    ∙ ap (λ l. with_type (slice_index m 0) (take 16 (pointers_of m)) ++ with_type (slice_index m 1) l) (sym (words_split m).1))))))))

pub inodes_own : (m : List ℕ) → owned_by inode_template.owns m ≡ inode_pairs m
unfolding owned_by inode_template
inodes_own m = inode_program_owns m 16 4 refl refl

pub nodes_sized : (m : List ℕ) → answer_of node_template.size m ≡ 512
unfolding answer_of node_template
nodes_sized m = refl

pub inodes_sized : (m : List ℕ) → answer_of inode_template.size m ≡ 512
unfolding answer_of inode_template
inodes_sized m = refl
