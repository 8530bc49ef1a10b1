-- Turns of the library's programs, which end with a word that is named unless it is 0.
use Rattle.std.proofs.Common.{◌≡◌, ℕ, zero, suc, ◌≤◌, ◌<◌, ◌∙◌, ap, sym, refl, Bool, true, false, cond, List, [], ◌∷◌, ◌++◌, map, length, arith}
use Rattle.std.specs.Prelude.{Option, Some, None, if◌then◌else◌, nat_lt}
use Rattle.std.specs.Option.{option_to_list}
use Rattle.std.proofs.lemmas.Bool.{lt-ltb}
use Rattle.std.proofs.lemmas.List.{append-nil}
use Rattle.std.proofs.Math.Dec.{eqb-suc-zero}
use Rattle.udf_code.specs.Tree.{Stop}
use Rattle.udf_run.specs.declared.pair.Pair.{Pair}
use Rattle.udf_run.specs.Meaning.{Machine, machine, emit_if, number_at, meaning, ◌>>=◌}
use Rattle.xn_model.specs.Root.{word_at, unless_empty}
use Rattle.templates.specs.Meaning.{numbers_of_pair}
use Rattle.templates.proofs.ForCallers.{Turned, number_is_word, turn_ends}

-- A word that is not 0 is emitted, with its type

abbrev pub named : ℕ → ℕ → List Pair
named block ty = cond (nat_lt 0 block) (record { block = block; ty = ty } ∷ []) []

pub named_pairs : (block ty : ℕ) → map numbers_of_pair (named block ty) ≡ option_to_list (unless_empty (block, ty))
named_pairs zero ty = refl
named_pairs (suc n) ty =
    ap (λ b. map numbers_of_pair (cond b (record { block = suc n; ty = ty } ∷ []) [])) (lt-ltb 0 (suc n) (omega arith))
    ∙ sym (ap (λ b. option_to_list (cond b None (Some (suc n, ty)))) (eqb-suc-zero n))

pub length-named : (block ty : ℕ) → length (named block ty) ≤ 1
length-named block ty = by (nat_lt 0 block)
  where
    by : (b : Bool) → length {A = Pair} (cond b (record { block = block; ty = ty } ∷ []) []) ≤ 1
    by true = omega arith
    by false = omega arith

-- the branch that emits it
pub emitted : (m : List ℕ) (registers : List ℕ) (es : List Pair) (block ty : ℕ) → length es < 128 → (some : Bool) →
    ((if some then (emit_if (nat_lt (length es) 128) (machine registers es) block ty >>= meaning Stop m) else Some (machine registers es)) >>= meaning Stop m)
    ≡ Some (machine registers (es ++ cond some (record { block = block; ty = ty } ∷ []) []))
emitted m registers es block ty few true = ap (λ fine. (emit_if fine (machine registers es) block ty >>= meaning Stop m) >>= meaning Stop m) (lt-ltb (length es) 128 few)
emitted m registers es block ty few false = ap (λ l. Some (machine registers l)) (sym (append-nil es))

-- a turn that ends with the word at a place, named with its type unless it is 0
pub word_ends : {R : Type 0} (registers : R → List ℕ) (m : List ℕ) (o : Option Machine) (last : R) (es : List Pair) (place at ty : ℕ) (pairs : List (ℕ × ℕ)) (most : ℕ) → place ≡ at → length es < most →
    o ≡ Some (machine (registers last) (es ++ named (number_at 4 m place) ty)) → map numbers_of_pair es ++ option_to_list (unless_empty (word_at m at, ty)) ≡ pairs → Turned registers o pairs most
word_ends registers m o last es place at ty pairs most same few ends has =
    let word = number_at 4 m place in
    let is : word ≡ word_at m at = number_is_word m place ∙ ap (word_at m) same in
    turn_ends registers o last es (named word ty) pairs most (length-named word ty) few ends (ap (λ l. map numbers_of_pair es ++ l) (named_pairs word ty ∙ ap (λ x. option_to_list (unless_empty (x, ty))) is) ∙ has)
