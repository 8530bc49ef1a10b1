-- Block 0's owns program emits the pairs of block 0's fields, on all bytes. A turn of each of its two loops adds the pair
-- of one field, so n turns add those of the first n.
use Rattle.std.proofs.Common.{◌≡◌, ℕ, suc, ◌+◌, ◌-◌, ◌*◌, ◌^◌, ◌≤◌, ◌<◌, ◌∙◌, ap, sym, refl, subst, Bool, true, false, cond, List, [], ◌∷◌, ◌++◌, map, length, arith}
use Rattle.std.specs.Prelude.{Option, Some, None, if◌then◌else◌, ◌==◌, nat_lt, nat_le, filter_map}
use Rattle.std.specs.List.{range_with_len}
use Rattle.std.specs.Option.{option_to_list}
use Rattle.std.proofs.lemmas.Bool.{lt-ltb, le-leb}
use Rattle.std.proofs.lemmas.List.{append-nil}
use Rattle.udf_code.specs.declared.word.Word.TheVariants.{Set, Add, Mul, Load4, Emit}
use Rattle.udf_code.specs.Tree.{Tree, Stop, Plain, IfElse, Loop, Equal}
use Rattle.udf_run.specs.declared.pair.Pair.{Pair}
use Rattle.udf_run.specs.Meaning.{Machine, machine, reset, emit_if, number_at, meaning, ◌>>=◌}
use Rattle.xn_model.specs.Root.{word_at, pointer, slot, unless_empty, templates_of, roots_of, owned_by_root}
use Rattle.templates.specs.BuiltIns.{built_in_root}
use Rattle.templates.specs.Meaning.{numbers_of_pair, pairs_after, owned_by}
use Rattle.templates.proofs.Turns.{Turned, all_turns, looped, number_is_word, one_by_one, plain, turn_ends, written}

-- registers 1 to 7; the others are 0
abbrev registers : ℕ → ℕ → ℕ → ℕ → ℕ → ℕ → ℕ → List ℕ
registers r1 r2 r3 r4 r5 r6 r7 = 0 ∷ r1 ∷ r2 ∷ r3 ∷ r4 ∷ r5 ∷ r6 ∷ r7 ∷ 0 ∷ 0 ∷ 0 ∷ 0 ∷ 0 ∷ 0 ∷ 0 ∷ 0 ∷ []

-- The first loop: a turn adds the pair of one pointer

abbrev pointer_test : Tree
pointer_test = IfElse Equal 6 0 Stop (Plain (Emit 6 3) Stop) Stop

abbrev pointer_load : Tree
pointer_load = Plain (Load4 6 5) pointer_test

abbrev pointer_add : Tree
pointer_add = Plain (Add 5 5 2) pointer_load

abbrev pointer_body : Tree
pointer_body = Plain (Mul 5 4 1) pointer_add

-- registers that a turn changes
record Pointer : Type 0 where
  k : ℕ
  b : ℕ
  c : ℕ

abbrev pointer_registers : Pointer → List ℕ
pointer_registers r = registers 4 8 1 r.k r.b r.c 0

module _ (m : List ℕ) (k : ℕ) (r : Pointer) (es : List Pair) (within : k < 16) (few : length es ≤ 0 + 1 * k) where
  abbrev place : ℕ
  place = k * 4 + 8

  abbrev named : ℕ
  named = number_at 4 m place

  abbrev at_start : Machine
  at_start = machine (pointer_registers (record { k = k; b = r.b; c = r.c })) es

  abbrev at_product : Machine
  at_product = machine (pointer_registers (record { k = k; b = k * 4; c = r.c })) es

  abbrev at_place : Machine
  at_place = machine (pointer_registers (record { k = k; b = place; c = r.c })) es

  abbrev after : Pointer
  after = record { k = k; b = place; c = named }

  abbrev PointerTurned : Option Machine → ℕ → Type 0
  PointerTurned o block = Turned pointer_registers o (map numbers_of_pair es ++ option_to_list (unless_empty (block, 1))) (0 + 1 * suc k)

  pointer_branch : (empty : Bool) → (named == 0) ≡ empty →
      PointerTurned ((if empty then Some (machine (pointer_registers after) es) else meaning (Plain (Emit 6 3) Stop) m (machine (pointer_registers after) es)) >>= meaning Stop m) named
  pointer_branch true e =
      turn_ends pointer_registers _ after es [] _ _ (omega arith) (omega arith) (ap (λ l. Some (machine (pointer_registers after) l)) (sym (append-nil es)))
      (ap (λ t. map numbers_of_pair es ++ option_to_list (cond t None (Some (named, 1)))) (sym e))
  pointer_branch false e =
      turn_ends pointer_registers _ after es (record { block = named; ty = 1 } ∷ []) _ _ (omega arith) (omega arith)
      (ap (λ fine. (emit_if fine (machine (pointer_registers after) es) named 1 >>= meaning Stop m) >>= meaning Stop m) (lt-ltb (length es) 128 (omega arith)))
      (ap (λ t. map numbers_of_pair es ++ option_to_list (cond t None (Some (named, 1)))) (sym e))

  pointer_turn : PointerTurned (meaning pointer_body m at_start) (pointer m k)
  unfolding pointer
  pointer_turn =
      let ran : meaning pointer_body m at_start ≡ meaning pointer_test m (machine (pointer_registers after) es) =
      plain m (Mul 5 4 1) pointer_add at_start at_product (written (nat_lt (k * 4) (2 ^ 32)) at_start 5 (k * 4) (lt-ltb (k * 4) (2 ^ 32) (omega arith)))
      ∙ (plain m (Add 5 5 2) pointer_load at_product at_place (written (nat_lt place (2 ^ 32)) at_product 5 place (lt-ltb place (2 ^ 32) (omega arith)))
      ∙ plain m (Load4 6 5) pointer_test at_place (machine (pointer_registers after) es) (written (nat_le place 508) at_place 6 named (le-leb place 508 (omega arith)))) in
      let at : place ≡ 8 + 4 * k = omega arith in
      let is : named ≡ pointer m k = number_is_word m place ∙ ap (word_at m) at in
      subst (PointerTurned (meaning pointer_body m at_start)) is (subst (λ o. PointerTurned o named) (sym ran) (pointer_branch (named == 0) refl))

-- The second loop: a turn adds the pair of one root slot

abbrev slot_emit : Tree
slot_emit = Plain (Emit 6 7) Stop

abbrev slot_type : Tree
slot_type = Plain (Load4 7 5) slot_emit

abbrev slot_next : Tree
slot_next = Plain (Add 5 5 3) slot_type

abbrev slot_found : Tree
slot_found = Plain (Set 3 4) slot_next

abbrev slot_test : Tree
slot_test = IfElse Equal 6 0 Stop slot_found Stop

abbrev slot_load : Tree
slot_load = Plain (Load4 6 5) slot_test

abbrev slot_add : Tree
slot_add = Plain (Add 5 5 2) slot_load

abbrev slot_body : Tree
slot_body = Plain (Mul 5 4 1) slot_add

record Slot : Type 0 where
  a : ℕ
  k : ℕ
  b : ℕ
  c : ℕ
  d : ℕ

abbrev slot_registers : Slot → List ℕ
slot_registers r = registers 8 72 r.a r.k r.b r.c r.d

module _ (m : List ℕ) (k : ℕ) (r : Slot) (es : List Pair) (within : k < 32) (few : length es ≤ 16 + 1 * k) where
  abbrev slot_place : ℕ
  slot_place = k * 8 + 72

  abbrev root : ℕ
  root = number_at 4 m slot_place

  abbrev type : ℕ
  type = number_at 4 m (slot_place + 4)

  abbrev slot_start : Machine
  slot_start = machine (slot_registers (record { a = r.a; k = k; b = r.b; c = r.c; d = r.d })) es

  abbrev slot_product : Machine
  slot_product = machine (slot_registers (record { a = r.a; k = k; b = k * 8; c = r.c; d = r.d })) es

  abbrev slot_at_place : Machine
  slot_at_place = machine (slot_registers (record { a = r.a; k = k; b = slot_place; c = r.c; d = r.d })) es

  abbrev empty_slot : Slot
  empty_slot = record { a = r.a; k = k; b = slot_place; c = root; d = r.d }

  abbrev full_slot : Slot
  full_slot = record { a = 4; k = k; b = slot_place + 4; c = root; d = type }

  abbrev slot_read : Machine
  slot_read = machine (slot_registers empty_slot) es

  abbrev slot_four : Machine
  slot_four = machine (slot_registers (record { a = 4; k = k; b = slot_place; c = root; d = r.d })) es

  abbrev slot_at_type : Machine
  slot_at_type = machine (slot_registers (record { a = 4; k = k; b = slot_place + 4; c = root; d = r.d })) es

  slot_emits : meaning slot_found m slot_read ≡ Some (machine (slot_registers full_slot) (es ++ record { block = root; ty = type } ∷ []))
  slot_emits =
      plain m (Add 5 5 3) slot_type slot_four slot_at_type (written (nat_lt (slot_place + 4) (2 ^ 32)) slot_four 5 (slot_place + 4) (lt-ltb (slot_place + 4) (2 ^ 32) (omega arith)))
      ∙ (plain m (Load4 7 5) slot_emit slot_at_type (machine (slot_registers full_slot) es) (written (nat_le (slot_place + 4) 508) slot_at_type 7 type (le-leb (slot_place + 4) 508 (omega arith)))
      ∙ ap (λ fine. emit_if fine (machine (slot_registers full_slot) es) root type >>= meaning Stop m) (lt-ltb (length es) 128 (omega arith)))

  root_is : root ≡ (slot m k).0
  unfolding slot
  root_is = let at : k * 8 + 72 ≡ 72 + 8 * k = omega arith in number_is_word m slot_place ∙ ap (word_at m) at

  type_is : type ≡ (slot m k).1
  unfolding slot
  type_is = let at : k * 8 + 72 + 4 ≡ 76 + 8 * k = omega arith in number_is_word m (slot_place + 4) ∙ ap (word_at m) at

  abbrev SlotTurned : Option Machine → Type 0
  SlotTurned o = Turned slot_registers o (map numbers_of_pair es ++ option_to_list (unless_empty (slot m k))) (16 + 1 * suc k)

  slot_branch : (empty : Bool) → (root == 0) ≡ empty → SlotTurned ((if empty then Some slot_read else meaning slot_found m slot_read) >>= meaning Stop m)
  slot_branch true e =
      turn_ends slot_registers _ empty_slot es [] _ _ (omega arith) (omega arith) (ap (λ l. Some (machine (slot_registers empty_slot) l)) (sym (append-nil es)))
      (ap (λ t. map numbers_of_pair es ++ option_to_list (cond t None (Some (slot m k)))) (sym (ap (λ n. n == 0) (sym root_is) ∙ e)))
  slot_branch false e =
      turn_ends slot_registers _ full_slot es (record { block = root; ty = type } ∷ []) _ _ (omega arith) (omega arith) (ap (λ o. o >>= meaning Stop m) slot_emits)
      (ap (λ t. map numbers_of_pair es ++ option_to_list (cond t None (Some (root, type)))) (sym e) ∙ (λ i. map numbers_of_pair es ++ option_to_list (unless_empty (root_is i, type_is i))))

  slot_turn : SlotTurned (meaning slot_body m slot_start)
  slot_turn =
      let ran : meaning slot_body m slot_start ≡ meaning slot_test m slot_read =
      plain m (Mul 5 4 1) slot_add slot_start slot_product (written (nat_lt (k * 8) (2 ^ 32)) slot_start 5 (k * 8) (lt-ltb (k * 8) (2 ^ 32) (omega arith)))
      ∙ (plain m (Add 5 5 2) slot_load slot_product slot_at_place (written (nat_lt slot_place (2 ^ 32)) slot_product 5 slot_place (lt-ltb slot_place (2 ^ 32) (omega arith)))
      ∙ plain m (Load4 6 5) slot_test slot_at_place slot_read (written (nat_le slot_place 508) slot_at_place 6 root (le-leb slot_place 508 (omega arith)))) in
      subst SlotTurned (sym ran) (slot_branch (root == 0) refl)

-- The whole program

abbrev roots_part : ℕ → ℕ → Tree
roots_part p n = Plain (Set 1 8) (Plain (Set 2 72) (Loop 4 n [] slot_body Stop))

abbrev program_of : ℕ → ℕ → Tree
program_of p n = Plain (Set 1 4) (Plain (Set 2 8) (Plain (Set 3 1) (Loop 4 p [] pointer_body (roots_part p n))))

program_pairs : (m : List ℕ) (p n : ℕ) → p ≤ 16 → n ≤ 32 → pairs_after (meaning (program_of p n) m reset)
    ≡ filter_map (λ i. unless_empty (pointer m i, 1)) (range_with_len 0 p) ++ filter_map (λ i. unless_empty (slot m i)) (range_with_len 0 n)
program_pairs m p n few some =
    let named_at = λ (i : ℕ). unless_empty (pointer m i, 1) in
    let slot_at = λ (i : ℕ). unless_empty (slot m i) in
    let none : Pointer = record { k = 0; b = 0; c = 0 } in
    let first = all_turns pointer_registers (meaning pointer_body m) 4 (λ i. option_to_list (named_at i)) 0 1 16 (pointer_turn m) none [] (omega arith) p few in
    let had = first.few in
    let start : Slot = record { a = 1; k = p - 1; b = first.at.b; c = first.at.c; d = 0 } in
    let second = all_turns slot_registers (meaning slot_body m) 4 (λ i. option_to_list (slot_at i)) 16 1 32 (slot_turn m) start first.es (omega arith) n some in
    ap pairs_after
    (looped m 4 p [] pointer_body (roots_part p n) (machine (pointer_registers none) []) (machine (pointer_registers first.at) first.es) first.ends
    ∙ looped m 4 n [] slot_body Stop (machine (slot_registers start) first.es) (machine (slot_registers second.at) second.es) second.ends)
    ∙ (second.has ∙ (λ i. (first.has ∙ one_by_one named_at (range_with_len 0 p)) i ++ one_by_one slot_at (range_with_len 0 n) i))

all_pointers : (m : List ℕ) (p : ℕ) → p ≡ 16 → filter_map (λ i. unless_empty (pointer m i, 1)) (range_with_len 0 p) ≡ templates_of m
unfolding templates_of
all_pointers m p e = ap (λ k. filter_map (λ i. unless_empty (pointer m i, 1)) (range_with_len 0 k)) e

all_slots : (m : List ℕ) (n : ℕ) → n ≡ 32 → filter_map (λ i. unless_empty (slot m i)) (range_with_len 0 n) ≡ roots_of m
unfolding roots_of
all_slots m n e = ap (λ k. filter_map (λ i. unless_empty (slot m i)) (range_with_len 0 k)) e

program_owns : (m : List ℕ) (p n : ℕ) → p ≡ 16 → n ≡ 32 → pairs_after (meaning (program_of p n) m reset) ≡ owned_by_root m
unfolding owned_by_root
program_owns m p n e f = program_pairs m p n (omega arith) (omega arith) ∙ (λ i. all_pointers m p e i ++ all_slots m n f i)

pub catalogue_owns : (m : List ℕ) → owned_by built_in_root.owns m ≡ owned_by_root m
unfolding owned_by built_in_root
catalogue_owns m = program_owns m 16 32 refl refl
