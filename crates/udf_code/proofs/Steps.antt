-- One word after the other of bytes that are decoded.
use Rattle.std.proofs.Common.{◌≡◌, ℕ, ◌+◌, ◌-◌, ◌*◌, ◌/◌, ◌<◌, ◌≤◌, List, [], ◌∷◌, ◌++◌, length, get_or, take, drop, refl, sym, ap, ◌∙◌, arith, append_assoc}
use Rattle.std.specs.Prelude.{Result, Ok, Err}
use Rattle.std.specs.Result.{result_map_both}
use Rattle.std.proofs.Common.{length-drop}
use Rattle.std.proofs.lemmas.List.{drop-drop}
use Rattle.udf_code.specs.declared.word.Word.{Word}
use Rattle.udf_code.specs.declared.fault.CodeFault.{CodeFault}
use Rattle.udf_code.specs.Structure.{Place, after_word, ◌>>=◌}
use Rattle.udf_code.specs.Decoding.{decoded_word, decoded_from}
use Rattle.udf_code.proofs.Coding.{with_word}

-- the words so far, in front of those that were decoded
abbrev pub after_words : List Word → Result (List Word) CodeFault → Result (List Word) CodeFault
after_words words r = result_map_both (λ rest. words ++ rest) (λ fault. fault) r

-- a word, in front of the words after it
after_words-word : (words : List Word) (word : Word) (r : Result (List Word) CodeFault) → after_words (words ++ word ∷ []) r ≡ after_words words (with_word word r)
after_words-word words word (Ok rest) = ap Ok (append_assoc words (word ∷ []) rest)
after_words-word words word (Err fault) = refl

-- the word in these four bytes
abbrev pub word_in : ℕ → List ℕ → Result Word CodeFault
word_in at piece = decoded_word at (get_or piece 0 0) (get_or piece 1 0) (get_or piece 2 0) (get_or piece 3 0)

-- the first of four bytes and more
first_word : (r : List ℕ) (at : ℕ) (p q : Place) (word : Word) → 4 ≤ length r → word_in at (take 4 r) ≡ Ok word → after_word at word p ≡ Ok q → decoded_from at r p ≡ with_word word (decoded_from (at + 1) (drop 4 r) q)
first_word (a ∷ b ∷ c ∷ d ∷ r) at p q word h e g =
    ap (λ w. w >>= (λ x. after_word at x p >>= (λ n. with_word x (decoded_from (at + 1) r n)))) e
    ∙ ap (λ n. n >>= (λ m. with_word word (decoded_from (at + 1) r m))) g
first_word r at p q word h e g = absurd (omega arith)

-- the word at a place, and what is left after it
pub next_word : (bytes : List ℕ) (at : ℕ) (p q : Place) (words : List Word) (word : Word) → at < length bytes / 4 → word_in at (take (at * 4 + 4 - at * 4) (drop (at * 4) bytes)) ≡ Ok word → after_word at word p ≡ Ok q → after_words (words ++ word ∷ []) (decoded_from (at + 1) (drop ((at + 1) * 4) bytes) q) ≡ after_words words (decoded_from at (drop (at * 4) bytes) p)
next_word bytes at p q words word h e g =
    let four : at * 4 + 4 - at * 4 ≡ 4 = omega arith in
    let next : at * 4 + 4 ≡ (at + 1) * 4 = omega arith in
    let first = first_word (drop (at * 4) bytes) at p q word (simp length-drop (omega arith)) (ap (λ n. word_in at (take n (drop (at * 4) bytes))) (sym four) ∙ e) g in
    after_words-word words word _
    ∙ sym (ap (after_words words) (first ∙ ap (λ r. with_word word (decoded_from (at + 1) r q)) (drop-drop 4 (at * 4) bytes ∙ ap (λ n. drop n bytes) next)))
