-- The words that were kept, and whether they are a program.
use Rattle.std.proofs.Common.{◌≡◌, ℕ, ◌+◌, ◌≤◌, max, Bool, true, false, cond, List, [], ◌∷◌, length, take, refl, sym, ap, ◌∙◌, subst, arith, ◌⊎◌, inl, inr}
use Rattle.std.specs.Prelude.{Result, Ok, Err, nat_lt}
use Rattle.std.specs.List.{slice_split}
use Rattle.std.specs.Result.{result_map_both}
use Rattle.std.proofs.lemmas.Bool.{ltb-false}
use Rattle.std.proofs.lemmas.List.{take_all}
use Rattle.udf_code.specs.declared.word.Word.{Word}
use Rattle.udf_code.specs.declared.word.Word.TheVariants.{IfLess, IfEqual, Else, End, For, Keep}
use Rattle.udf_code.specs.declared.fault.CodeFault.{CodeFault}
use Rattle.udf_code.specs.declared.fault.CodeFault.TheVariants.{Unmatched, MisplacedKeep, TooDeep, TooLong}
use Rattle.udf_code.specs.declared.opening.Opening.{Opening}
use Rattle.udf_code.specs.declared.opening.Opening.TheVariants.{First, Other, Turn}
use Rattle.udf_code.specs.Structure.{Place, place, parted, closed, after_word, all_closed, structure_from, structure_of, ◌>>=◌}
use Rattle.udf_asm.specs.declared.fault.AsmFault.{AsmFault}
use Rattle.udf_asm.specs.Assembly.{is_newline, lines_read, line_of, code_fault, checked, assembled}
use Rattle.udf_asm.specs.Printing.{IsText}
use Rattle.udf_asm.proofs.Assembled.{text_is_assembled}

-- the place of a fault of structure is at most this
abbrev IsWithin : ℕ → CodeFault → Type 0
IsWithin n (Unmatched at) = at ≤ n
IsWithin n (MisplacedKeep at) = at ≤ n
IsWithin n (TooDeep at) = at ≤ n
IsWithin n fault = Unit {0}

further : (m n : ℕ) (fault : CodeFault) → m ≤ n → IsWithin m fault → IsWithin n fault
further m n (Unmatched at) h w = omega arith
further m n (MisplacedKeep at) h w = omega arith
further m n (TooDeep at) h w = omega arith
further m n fault h w = tt

-- the fault of one word
as_fault : {A : Type 0} (at : ℕ) (e fault : CodeFault) → IsWithin at e → ◌≡◌ {A = Result A CodeFault} (Err e) (Err fault) → IsWithin at fault
as_fault at e fault w h = let same : e ≡ fault = cc in subst (IsWithin at) same w

tested : {A : Type 0} (at : ℕ) (t : Bool) (x : A) (e fault : CodeFault) → IsWithin at e → cond t (Ok x) (Err e) ≡ Err fault → IsWithin at fault
tested at true x e fault w h = absurd (cc)
tested at false x e fault w h = as_fault at e fault w h

parts : (at : ℕ) (blocks : List Opening) (fault : CodeFault) → parted at blocks ≡ Err fault → IsWithin at fault
parts at [] fault h = as_fault at (Unmatched at) fault (omega arith) h
parts at (First ∷ blocks) fault h = absurd (cc)
parts at (Other ∷ blocks) fault h = as_fault at (Unmatched at) fault (omega arith) h
parts at (Turn ∷ blocks) fault h = as_fault at (Unmatched at) fault (omega arith) h

closes : (at : ℕ) (blocks : List Opening) (fault : CodeFault) → closed at blocks ≡ Err fault → IsWithin at fault
closes at [] fault h = as_fault at (Unmatched at) fault (omega arith) h
closes at (o ∷ blocks) fault h = absurd (cc)

of_word : (at : ℕ) (word : Word) (p : Place) (fault : CodeFault) → after_word at word p ≡ Err fault → IsWithin at fault
of_word at (IfLess a b) p fault h = tested at _ _ (TooDeep at) fault (omega arith) h
of_word at (IfEqual a b) p fault h = tested at _ _ (TooDeep at) fault (omega arith) h
of_word at Else p fault h = parts at p.blocks fault h
of_word at End p fault h = closes at p.blocks fault h
of_word at (For a n) p fault h = tested at _ _ (TooDeep at) fault (omega arith) h
of_word at (Keep a n) p fault h = tested at _ _ (MisplacedKeep at) fault (omega arith) h
of_word at word p fault h = absurd (cc)

bind_err : {A B E : Type 0} (r : Result A E) (f : A → Result B E) (e : E) → (r >>= f) ≡ Err e → (r ≡ Err e) ⊎ ((x : A) × (f x ≡ Err e))
bind_err (Ok x) f e h = inr (x, h)
bind_err (Err d) f e h = inl (let same : d ≡ e = cc in ap Err same)

at_end : (at : ℕ) (blocks : List Opening) (fault : CodeFault) → all_closed at blocks ≡ Err fault → IsWithin at fault
at_end at [] fault h = absurd (cc)
at_end at (o ∷ blocks) fault h = as_fault at (Unmatched at) fault (omega arith) h

within : (words : List Word) (at : ℕ) (p : Place) (fault : CodeFault) → structure_from at words p ≡ Err fault → IsWithin (at + length words) fault
within [] at p fault h = further at (at + 0) fault (omega arith) (at_end at p.blocks fault h)
within (word ∷ words) at p fault h =
    by_step (λ q k. within words (at + 1) q fault k) (bind_err (after_word at word p) (structure_from (at + 1) words) fault h)
  where
    by_step : ((q : Place) → structure_from (at + 1) words q ≡ Err fault → IsWithin (at + 1 + length words) fault) → (after_word at word p ≡ Err fault) ⊎ ((q : Place) × (structure_from (at + 1) words q ≡ Err fault)) → IsWithin (at + length (word ∷ words)) fault
    by_step ih (inl k) = further at _ fault (omega arith) (of_word at word p fault k)
    by_step ih (inr k) = further _ _ fault (omega arith) (ih k.0 k.1)

line_small : (n count : ℕ) (fault : CodeFault) → IsWithin n fault → line_of count fault ≤ max (count + 1) (n + 1)
line_small n count (TooDeep at) w = omega arith
line_small n count fault w = omega arith

-- the line of a fault of words is small
pub line_of_small : (words : List Word) (count : ℕ) (fault : CodeFault) → structure_of words ≡ Err fault → line_of count fault ≤ max (count + 1) 128
line_of_small words count fault h = by_length (nat_lt 127 (length words)) refl h
  where
    by_length : (t : Bool) → nat_lt 127 (length words) ≡ t → cond t (Err TooLong) (structure_from 0 words (place [] false)) ≡ Err fault → line_of count fault ≤ max (count + 1) 128
    by_length true e k = line_small 127 count fault (as_fault {A = Unit {0}} 127 TooLong fault tt k)
    by_length false e k =
        let n = ltb-false 127 (length words) e in
        line_small 127 count fault (further (0 + length words) 127 fault (omega arith) (within words 0 (place [] false) fault k))

-- where at most 127 words are kept, these are all
pub all_kept : (all words : List Word) → length all ≤ 127 → words ≡ take 127 all → words ≡ all
all_kept all words h e = e ∙ take_all 127 all h

short : (all : List Word) → structure_of all ≡ Ok (tt {0}) → length all ≤ 127
short all h = by_length (nat_lt 127 (length all)) refl h
  where
    by_length : (t : Bool) → nat_lt 127 (length all) ≡ t → cond t (Err TooLong) (structure_from 0 all (place [] false)) ≡ Ok (tt {0}) → length all ≤ 127
    by_length true e k = absurd (cc)
    by_length false e k = ltb-false 127 (length all) e

no_fault : (count : ℕ) (r : Result (Unit {0}) CodeFault) → Ok (tt {0}) ≡ result_map_both (λ x. x) (code_fault count) r → r ≡ Ok (tt {0})
no_fault count (Ok x) h = refl
no_fault count (Err fault) h = absurd (cc)

-- the words that are kept are those of the text
pub words_are : (text : List ℕ) (all words : List Word) (count : ℕ) → lines_read 1 (slice_split is_newline text) ≡ Ok all → words ≡ take 127 all → Ok (tt {0}) ≡ result_map_both (λ x. x) (code_fault count) (structure_of all) → assembled text ≡ Ok words
words_are text all words count h e k =
    let s = no_fault count (structure_of all) k in
    ap (λ r. r >>= checked) h ∙ ap (result_map_both (λ _. all) (code_fault (length all))) s ∙ ap Ok (sym (all_kept all words (short all s) e))

fault_as : (count : ℕ) (all : List Word) (fault : AsmFault) (r : Result (Unit {0}) CodeFault) → Err fault ≡ result_map_both (λ x. x) (code_fault count) r → length all ≡ count → result_map_both (λ _. all) (code_fault (length all)) r ≡ Err fault
fault_as count all fault (Ok x) h e = absurd (cc)
fault_as count all fault (Err f) h e = let same : code_fault count f ≡ fault = cc in ap (λ n. Err (code_fault n f)) e ∙ ap Err same

pub fault_is : (text : List ℕ) (all : List Word) (count : ℕ) (fault : AsmFault) → lines_read 1 (slice_split is_newline text) ≡ Ok all → length all ≡ count → Err fault ≡ result_map_both (λ x. x) (code_fault count) (structure_of all) → assembled text ≡ Err fault
fault_is text all count fault h e k = ap (λ r. r >>= checked) h ∙ fault_as count all fault (structure_of all) k e

-- a text with a fault is no program's
pub fault_refuses : (text : List ℕ) (fault : AsmFault) → assembled text ≡ Err fault → (words : List Word) → ¬ (IsText words text)
fault_refuses text fault h words t = let k = text_is_assembled text words t in cc

pub lines_fault : (text : List ℕ) (fault : AsmFault) → lines_read 1 (slice_split is_newline text) ≡ Err fault → assembled text ≡ Err fault
lines_fault text fault h = ap (λ r. r >>= checked) h
