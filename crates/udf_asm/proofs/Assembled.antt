-- A text that is assembled is the text of the words of a program, and the text of a program is assembled as its words.
use Rattle.std.proofs.Common.{◌≡◌, ℕ, ◌+◌, List, [], ◌∷◌, ◌++◌, length, refl, sym, ap, ◌∙◌, subst, append_assoc}
use Rattle.std.specs.Prelude.{Result, Ok, Err}
use Rattle.std.specs.List.{flat_map, join_with_byte, slice_split}
use Rattle.std.specs.Result.{result_map_both, is_ok}
use Rattle.std.proofs.lemmas.List.Splits.{slice_split_at, join_with_byte-slice_split}
use Rattle.udf_code.specs.declared.word.Word.{Word}
use Rattle.udf_code.specs.declared.fault.CodeFault.{CodeFault}
use Rattle.udf_code.specs.Words.{AllInRange}
use Rattle.udf_code.specs.Codes.{op_of}
use Rattle.udf_code.specs.Structure.{structure_of, ◌>>=◌}
use Rattle.udf_code.proofs.ForCallers.{bind_ok, ok_some, programs_are_trees}
use Rattle.udf_asm.specs.declared.fault.AsmKind.{AsmKind}
use Rattle.udf_asm.specs.declared.fault.AsmFault.{AsmFault}
use Rattle.udf_asm.specs.Names.{name_of}
use Rattle.udf_asm.specs.Operands.{operands_of}
use Rattle.udf_asm.specs.Assembly.{is_newline, line_read, at_line, lines_read, code_fault, checked, assembled}
use Rattle.udf_asm.specs.Printing.{operand_text, line_text, text_of, IsText}
use Rattle.udf_asm.proofs.Texts.{with_word, next_lines}
use Rattle.udf_asm.proofs.LineTexts.{body_of, line_is, none_is, line_read-body_of, body_high}

-- the words of lines, and what the lines are
record AreLines (lines : List (List ℕ)) (words : List Word) : Type 0 where
  written : join_with_byte 10 lines ≡ text_of words
  in_range : AllInRange words

no_words : (words : List Word) → ◌≡◌ {A = Result (List Word) AsmFault} (Ok []) (Ok words) → AreLines ([] ∷ []) words
no_words [] h = record { written = refl; in_range = tt }
no_words (word ∷ words) h = absurd (cc)

at_line_ok : (line : ℕ) (r : Result Word AsmKind) (word : Word) → at_line line r ≡ Ok word → r ≡ Ok word
at_line_ok line (Ok x) word h = let same : x ≡ word = cc in ap Ok same
at_line_ok line (Err e) word h = absurd (cc)

with_word_ok : (word : Word) (r : Result (List Word) AsmFault) (words : List Word) → with_word word r ≡ Ok words → (rest : List Word) × (r ≡ Ok rest) × (word ∷ rest ≡ words)
with_word_ok word (Ok rest) words h = (rest, refl, cc)
with_word_ok word (Err e) words h = absurd (cc)

-- a line, and those after it
line_text-body : (word : Word) (rest : List ℕ) → line_text word ++ rest ≡ body_of word ++ (10 ∷ rest)
line_text-body word rest = ap (λ t. t ++ rest) (sym (append_assoc (name_of (op_of word)) (flat_map operand_text (operands_of word)) (10 ∷ []))) ∙ append_assoc (body_of word) (10 ∷ []) rest

are_lines : (lines : List (List ℕ)) (line : ℕ) (words : List Word) → lines_read line lines ≡ Ok words → AreLines lines words
are_lines [] line [] h = record { written = refl; in_range = tt }
are_lines [] line (word ∷ words) h = absurd (cc)
are_lines ([] ∷ []) line words h = no_words words h
are_lines ((byte ∷ last) ∷ []) line words h = absurd (cc)
are_lines (text ∷ next ∷ texts) line words h =
    let a = bind_ok (at_line line (line_read text)) (λ word. with_word word (lines_read (line + 1) (next ∷ texts))) words h in
    let b = with_word_ok a.0 (lines_read (line + 1) (next ∷ texts)) words a.2 in
    let l = line_is text a.0 (at_line_ok line (line_read text) a.0 a.1) in
    let rest = are_lines (next ∷ texts) (line + 1) b.0 b.1 in
    subst (AreLines (text ∷ next ∷ texts)) b.2
    (record {
      written = ap (λ t. t ++ (10 ∷ join_with_byte 10 (next ∷ texts))) l.written ∙ ap (λ t. body_of a.0 ++ (10 ∷ t)) rest.written ∙ sym (line_text-body a.0 (text_of b.0));
      in_range = (l.in_range, rest.in_range);
    })

-- words that are a program
checked_ok : (words others : List Word) → checked words ≡ Ok others → (words ≡ others) × (structure_of words ≡ Ok (tt {0}))
checked_ok words others h = by_result (structure_of words) refl h
  where
    by_result : (r : Result (Unit {0}) CodeFault) → structure_of words ≡ r → result_map_both (λ _. words) (code_fault (length words)) r ≡ Ok others → (words ≡ others) × (structure_of words ≡ Ok (tt {0}))
    by_result (Ok x) e k = (cc, e)
    by_result (Err fault) e k = absurd (cc)

pub assembled_is_text : (text : List ℕ) (words : List Word) → assembled text ≡ Ok words → IsText words text
assembled_is_text text words h =
    let a = bind_ok (lines_read 1 (slice_split is_newline text)) checked words h in
    let b = checked_ok a.0 words a.2 in
    let l = are_lines (slice_split is_newline text) 1 a.0 a.1 in
    let t = (programs_are_trees a.0).0 (ap is_ok b.1) in
    subst (λ w. IsText w text) b.0
    (record { tree = t.0; spells = t.1; in_range = l.in_range; written = sym (join_with_byte-slice_split 10 text) ∙ l.written })

lines_read-text_of : (words : List Word) → AllInRange words → (line : ℕ) → lines_read line (slice_split is_newline (text_of words)) ≡ Ok words
lines_read-text_of [] r line = refl
lines_read-text_of (word ∷ words) r line =
    ap (λ t. lines_read line (slice_split is_newline t)) (line_text-body word (text_of words))
    ∙ ap (lines_read line) (slice_split_at is_newline (body_of word) 10 (text_of words) (none_is 10 (body_of word) (body_high word r.0)) refl)
    ∙ next_lines line (body_of word) (text_of words)
    ∙ ap (λ w. at_line line w >>= (λ x. with_word x (lines_read (line + 1) (slice_split is_newline (text_of words))))) (line_read-body_of word r.0)
    ∙ ap (with_word word) (lines_read-text_of words r.1 (line + 1))

pub text_is_assembled : (text : List ℕ) (words : List Word) → IsText words text → assembled text ≡ Ok words
text_is_assembled text words t =
    let s = ok_some (structure_of words) ((programs_are_trees words).1 (t.tree, t.spells)) in
    ap assembled t.written ∙ ap (λ r. r >>= checked) (lines_read-text_of words t.in_range 1)
    ∙ ap (λ r. result_map_both (λ _. words) (code_fault (length words)) r) s
