-- Want of memory is no fault of bytes.
use Rattle.std.proofs.Common.{◌≡◌, ℕ, ◌+◌, ◌/◌, ◌%◌, Bool, true, false, cond, List, [], ◌∷◌, length, ap}
use Rattle.std.specs.Prelude.{Option, Some, None, Result, Ok, Err, ◌==◌, ◌≢◌, nat_lt}
use Rattle.std.specs.Option.{ok_or}
use Rattle.std.specs.Result.{result_map_both}
use Rattle.udf_code.specs.declared.word.Word.{Word}
use Rattle.udf_code.specs.declared.word.Word.TheVariants.{IfLess, IfEqual, Else, End, For, Keep}
use Rattle.udf_code.specs.declared.fault.CodeFault.{CodeFault}
use Rattle.udf_code.specs.declared.fault.CodeFault.TheVariants.{NoMemory, BadOp, BadOperand, MisplacedKeep, TooDeep}
use Rattle.udf_code.specs.declared.opening.Opening.{Opening}
use Rattle.udf_code.specs.declared.opening.Opening.TheVariants.{First, Other, Turn}
use Rattle.udf_code.specs.Structure.{Place, place, parted, closed, after_word, all_closed, ◌>>=◌}
use Rattle.udf_code.specs.Codes.{op_of_code}
use Rattle.udf_code.specs.Decoding.{word_of, decoded_word, decoded_from, decoded}

bound : {A B : Type 0} (r : Result A CodeFault) (f : A → Result B CodeFault) → r ≢ Err NoMemory → ((x : A) → f x ≢ Err NoMemory) → (r >>= f) ≢ Err NoMemory
bound (Ok x) f h g = g x
bound (Err e) f h g = λ k. h (let same : e ≡ NoMemory = cc in ap Err same)

mapped : {A B : Type 0} (f : A → B) (r : Result A CodeFault) → r ≢ Err NoMemory → result_map_both f (λ fault. fault) r ≢ Err NoMemory
mapped f (Ok x) h = λ k. absurd (cc)
mapped f (Err e) h = λ k. h (let same : e ≡ NoMemory = cc in ap Err same)

or_fault : {A : Type 0} (o : Option A) (e : CodeFault) → e ≢ NoMemory → ok_or o e ≢ Err NoMemory
or_fault None e h = λ k. h (cc)
or_fault (Some x) e h = λ k. absurd (cc)

tested : {A : Type 0} (t : Bool) (x : A) (e : CodeFault) → e ≢ NoMemory → cond t (Ok x) (Err e) ≢ Err NoMemory
tested true x e h = λ k. absurd (cc)
tested false x e h = λ k. h (cc)

parts : (at : ℕ) (blocks : List Opening) → parted at blocks ≢ Err NoMemory
parts at [] = λ k. absurd (cc)
parts at (First ∷ blocks) = λ k. absurd (cc)
parts at (Other ∷ blocks) = λ k. absurd (cc)
parts at (Turn ∷ blocks) = λ k. absurd (cc)

closes : (at : ℕ) (blocks : List Opening) → closed at blocks ≢ Err NoMemory
closes at [] = λ k. absurd (cc)
closes at (o ∷ blocks) = λ k. absurd (cc)

ends : (at : ℕ) (blocks : List Opening) → all_closed at blocks ≢ Err NoMemory
ends at [] = λ k. absurd (cc)
ends at (o ∷ blocks) = λ k. absurd (cc)

good : (p : Place) → ◌≢◌ {A = Result Place CodeFault} (Ok p) (Err NoMemory)
good p = λ k. absurd (cc)

one_word : (at : ℕ) (word : Word) (p : Place) → after_word at word p ≢ Err NoMemory
one_word at (IfLess a b) p = tested _ _ (TooDeep at) (λ k. absurd (cc))
one_word at (IfEqual a b) p = tested _ _ (TooDeep at) (λ k. absurd (cc))
one_word at Else p = parts at p.blocks
one_word at End p = closes at p.blocks
one_word at (For a n) p = tested _ _ (TooDeep at) (λ k. absurd (cc))
one_word at (Keep a n) p = tested _ _ (MisplacedKeep at) (λ k. absurd (cc))
one_word at word p = good _

read_word : (at code x y z : ℕ) → decoded_word at code x y z ≢ Err NoMemory
read_word at code x y z = bound (ok_or (op_of_code code) (BadOp at)) _ (or_fault _ _ (λ k. absurd (cc))) (λ o. or_fault (word_of o x y z) (BadOperand at) (λ k. absurd (cc)))

from_here : (at : ℕ) (bytes : List ℕ) (p : Place) → decoded_from at bytes p ≢ Err NoMemory
from_here at [] p = mapped (λ _. []) (all_closed at p.blocks) (ends at p.blocks)
from_here at (code ∷ x ∷ y ∷ z ∷ bytes) p =
    bound (decoded_word at code x y z) _ (read_word at code x y z)
    (λ word. bound (after_word at word p) _ (one_word at word p) (λ next. mapped (λ words. word ∷ words) (decoded_from (at + 1) bytes next) (from_here (at + 1) bytes next)))
from_here at bytes p = λ k. absurd (cc)

by_test : (t : Bool) (r s : Result (List Word) CodeFault) → r ≢ Err NoMemory → s ≢ Err NoMemory → cond t r s ≢ Err NoMemory
by_test true r s h g = h
by_test false r s h g = g

pub never_no_memory : (bytes : List ℕ) → decoded bytes ≢ Err NoMemory
never_no_memory bytes = by_test (length bytes % 4 == 0) _ _ (by_test (nat_lt 127 (length bytes / 4)) _ _ (λ k. absurd (cc)) (from_here 0 bytes (place [] false))) (λ k. absurd (cc))
