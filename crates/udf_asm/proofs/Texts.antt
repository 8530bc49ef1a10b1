-- The words of a text, line by line.
use Rattle.std.proofs.Common.{◌≡◌, ℕ, ◌+◌, ◌<◌, ◌≤◌, Bool, true, false, cond, List, [], ◌∷◌, ◌++◌, length, take, refl, sym, ap, ◌∙◌, subst, arith, append_assoc}
use Rattle.std.proofs.Common.{append-nil, length-append}
use Rattle.std.proofs.lemmas.Bool.{eqb-true}
use Rattle.std.proofs.lemmas.List.{take_all, take-append-le}
use Rattle.std.specs.Prelude.{Result, Ok, Err, ◌==◌}
use Rattle.std.specs.List.{slice_split, onto_first}
use Rattle.std.specs.Result.{result_map_both}
use Rattle.udf_code.specs.declared.word.Word.{Word}
use Rattle.udf_code.specs.Structure.{◌>>=◌}
use Rattle.udf_asm.specs.declared.fault.AsmKind.{AsmKind}
use Rattle.udf_asm.specs.declared.fault.AsmFault.{AsmFault}
use Rattle.udf_asm.specs.Assembly.{is_newline, line_read, at_line, lines_read}

-- one more word in front
abbrev pub with_word : Word → Result (List Word) AsmFault → Result (List Word) AsmFault
with_word word r = result_map_both (λ words. word ∷ words) (λ fault. fault) r

-- the words so far, in front of those of the lines that are left
abbrev pub after_words : List Word → Result (List Word) AsmFault → Result (List Word) AsmFault
after_words words r = result_map_both (λ rest. words ++ rest) (λ fault. fault) r

after_words-word : (words : List Word) (word : Word) (r : Result (List Word) AsmFault) → after_words (words ++ word ∷ []) r ≡ after_words words (with_word word r)
after_words-word words word (Ok rest) = ap Ok (append_assoc words (word ∷ []) rest)
after_words-word words word (Err fault) = refl

-- the words of all lines that were read, of which the first 127 are kept
pub record AreRead (text rest : List ℕ) (count : ℕ) (words : List Word) : Type 0 where
  pub all : List Word
  pub read : after_words all (lines_read (count + 1) (slice_split is_newline rest)) ≡ lines_read 1 (slice_split is_newline text)
  pub counted : length all ≡ count
  pub kept : words ≡ take 127 all

pub none_read : (text : List ℕ) → AreRead text text 0 []
none_read text = record { all = []; read = whole (lines_read 1 (slice_split is_newline text)); counted = refl; kept = refl }
  where
    whole : (r : Result (List Word) AsmFault) → after_words [] r ≡ r
    whole (Ok words) = refl
    whole (Err fault) = refl

parts : (p : ℕ → Bool) (xs : List ℕ) → (first : List ℕ) × (more : List (List ℕ)) × (slice_split p xs ≡ first ∷ more)
parts p [] = ([], [], refl)
parts p (x ∷ xs) = by_test (p x) (slice_split p xs)
  where
    by_test : (t : Bool) (more : List (List ℕ)) → (first : List ℕ) × (rest : List (List ℕ)) × (cond t ([] ∷ more) (onto_first x more) ≡ first ∷ rest)
    by_test true more = ([], more, refl)
    by_test false [] = (x ∷ [], [], refl)
    by_test false (part ∷ more) = (x ∷ part, more, refl)

-- a line and those after it
pub next_lines : (line : ℕ) (text rest : List ℕ) → lines_read line (text ∷ slice_split is_newline rest) ≡ (at_line line (line_read text) >>= (λ word. with_word word (lines_read (line + 1) (slice_split is_newline rest))))
next_lines line text rest =
    let p = parts is_newline rest in
    subst (λ more. lines_read line (text ∷ more) ≡ (at_line line (line_read text) >>= (λ word. with_word word (lines_read (line + 1) more)))) (sym p.2) refl

-- one more line, whose word is kept or not
line_read-more : (text rest line more : List ℕ) (count : ℕ) (words kept : List Word) (word : Word) (r : AreRead text rest count words) → slice_split is_newline rest ≡ line ∷ slice_split is_newline more → line_read line ≡ Ok word → kept ≡ take 127 (r.all ++ word ∷ []) → AreRead text more (count + 1) kept
line_read-more text rest line more count words kept word r e h k = record {
  all = r.all ++ word ∷ [];
  read =
      after_words-word r.all word (lines_read (count + 1 + 1) (slice_split is_newline more))
      ∙ ap (after_words r.all)
      (sym (ap (lines_read (count + 1)) e ∙ next_lines (count + 1) line more ∙ ap (λ w. at_line (count + 1) w >>= (λ x. with_word x (lines_read (count + 1 + 1) (slice_split is_newline more)))) h))
      ∙ r.read;
  counted = length-append r.all (word ∷ []) ∙ ap (λ n. n + 1) r.counted;
  kept = k;
}

pub line_kept : (text rest line more : List ℕ) (count : ℕ) (words : List Word) (word : Word) → AreRead text rest count words → slice_split is_newline rest ≡ line ∷ slice_split is_newline more → line_read line ≡ Ok word → count < 127 → AreRead text more (count + 1) (words ++ word ∷ [])
line_kept text rest line more count words word r e h g =
    let n = r.counted in
    line_read-more text rest line more count words (words ++ word ∷ []) word r e h
    (ap (λ w. w ++ word ∷ []) (r.kept ∙ take_all 127 r.all (omega arith)) ∙ sym (take_all 127 (r.all ++ word ∷ []) (simp length-append (omega arith))))

pub line_passed : (text rest line more : List ℕ) (count : ℕ) (words : List Word) (word : Word) → AreRead text rest count words → slice_split is_newline rest ≡ line ∷ slice_split is_newline more → line_read line ≡ Ok word → 127 ≤ count → AreRead text more (count + 1) words
line_passed text rest line more count words word r e h g =
    let n = r.counted in
    line_read-more text rest line more count words words word r e h (r.kept ∙ sym (take-append-le 127 r.all (word ∷ []) (omega arith)))

-- an empty line has no word
pub line_not_empty : (line : List ℕ) (word : Word) → line_read line ≡ Ok word → 0 < length line
line_not_empty [] word h = absurd (cc)
line_not_empty (byte ∷ line) word h = omega arith

-- a line that has a fault
pub line_fault : (text rest line more : List ℕ) (count : ℕ) (words : List Word) (kind : AsmKind) → AreRead text rest count words → slice_split is_newline rest ≡ line ∷ slice_split is_newline more → line_read line ≡ Err kind → lines_read 1 (slice_split is_newline text) ≡ Err (record { line = count + 1; kind = kind })
line_fault text rest line more count words kind r e h =
    sym (sym (ap (after_words r.all) (ap (lines_read (count + 1)) e ∙ next_lines (count + 1) line more ∙ ap (λ w. at_line (count + 1) w >>= (λ x. with_word x (lines_read (count + 1 + 1) (slice_split is_newline more)))) h)) ∙ r.read)

not_empty : (byte : ℕ) (rest : List ℕ) → (length (byte ∷ rest) == 0) ≡ true → ⊥
not_empty byte rest h = let n = eqb-true (length (byte ∷ rest)) 0 h in absurd (omega arith)

-- nothing is left
pub all_read : (text rest : List ℕ) (count : ℕ) (words : List Word) (r : AreRead text rest count words) → (length rest == 0) ≡ true → lines_read 1 (slice_split is_newline text) ≡ Ok r.all
all_read text [] count words r h = sym r.read ∙ ap Ok (append-nil r.all)
all_read text (byte ∷ rest) count words r h = absurd (not_empty byte rest h)
