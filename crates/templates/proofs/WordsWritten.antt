-- Words written one after another into a slice.
use Rattle.std.proofs.Common.{◌≡◌, ℕ, ◌+◌, ◌-◌, ◌*◌, ◌≤◌, ◌<◌, ◌∙◌, ap, sym, refl, List, [], ◌∷◌, ◌++◌, length, take, drop, get_or, append_assoc, length-append, arith}
use borrow.Rule.Slice.PartMut.{put_mid, mid_of}
use Rattle.std.proofs.lemmas.List.{take_at, drop_at, take_all, drop_all, drop-drop, length-drop, append-nil, flat_map_more, take_more, length-take-le, length-replicate, drop-replicate}
use Rattle.udf_code.specs.declared.word.Word.{Word}
use Rattle.udf_code.specs.declared.word.Word.TheVariants.{Set}
use Rattle.udf_code.specs.Bytes.{word_bytes, encoded}
use Rattle.xn_model.specs.BareDisks.{zeros}
use Rattle.templates.specs.Templates.{TemplateValue, IsTemplate, template_bytes}

pub length-word_bytes : (word : Word) → length (word_bytes word) ≡ 4
length-word_bytes (Set a n) = refl
length-word_bytes word = refl

pub length-encoded_words : (words : List Word) → length (encoded words) ≡ 4 * length words
length-encoded_words [] = refl
length-encoded_words (word ∷ words) =
    let here = length-word_bytes word in
    let rest = length-encoded_words words in
    length-append (word_bytes word) (encoded words) ∙ omega arith

-- what stands behind xs is read and written
module _ (xs ys : List ℕ) (a k : ℕ) (front : length xs ≡ a) (back : length ys ≡ k) where
  mid_behind : mid_of a k (xs ++ ys) ≡ ys
  mid_behind = ap (take k) (drop_at xs ys a front) ∙ take_all k ys (omega arith)

  put_behind : (zs : List ℕ) → put_mid a k (xs ++ ys) zs ≡ xs ++ zs
  put_behind zs =
      let post : drop k (drop a (xs ++ ys)) ≡ [] = ap (drop k) (drop_at xs ys a front) ∙ drop_all k ys (omega arith) in
      (λ i. take_at xs ys a front i ++ (zs ++ post i)) ∙ ap (λ t. xs ++ t) (append-nil zs)

-- one more word
module _ (words : List Word) (old out : List ℕ) (i : ℕ) (word : Word) (more : i < length words) (is : word ≡ get_or words i word)
    (room : 4 * length words ≤ length old) (same : length out ≡ length old) (was : out ≡ encoded (take i words) ++ drop (4 * i) old)
    (new : List ℕ) (k : ℕ) (to_end : k ≡ length out - 4 * i) (wrote : new ≡ word_bytes word ++ drop 4 (mid_of (4 * i) k out)) where
  front : length (encoded (take i words)) ≡ 4 * i
  front = length-encoded_words (take i words) ∙ ap (λ n. 4 * n) (length-take-le i words (omega arith))

  back : length (drop (4 * i) old) ≡ k
  back = length-drop (4 * i) old ∙ omega arith

  pub word_written : put_mid (4 * i) k out new ≡ encoded (take (i + 1) words) ++ drop (4 * (i + 1)) old
  word_written =
      let xs = encoded (take i words) in
      let ys = drop (4 * i) old in
      let next : 4 * i + 4 ≡ 4 * (i + 1) = omega arith in
      let written : new ≡ word_bytes word ++ drop 4 ys = wrote ∙ ap (λ m. word_bytes word ++ drop 4 m) (ap (mid_of (4 * i) k) was ∙ mid_behind xs ys (4 * i) k front back) in
      let pieces : xs ++ word_bytes word ≡ encoded (take (i + 1) words) =
      flat_map_more word_bytes [] (take i words) word ∙ ap encoded (sym (take_more words i word more ∙ ap (λ w. take i words ++ w ∷ []) (sym is))) in
      let rest : drop 4 ys ≡ drop (4 * (i + 1)) old = drop-drop 4 (4 * i) old ∙ ap (λ n. drop n old) next in
      ap (λ o. put_mid (4 * i) k o new) was
      ∙ (put_behind xs ys (4 * i) k front back new
      ∙ (ap (λ t. xs ++ t) written
      ∙ (sym (append_assoc xs (word_bytes word) (drop 4 ys)) ∙ (λ j. pieces j ++ rest j))))

pub words_written : (words : List Word) (old out : List ℕ) (i : ℕ) → length words ≤ i → i ≤ length words → out ≡ encoded (take i words) ++ drop (4 * i) old → out ≡ encoded words ++ drop (4 * length words) old
words_written words old out i low high was =
    let n : i ≡ length words = omega arith in
    was ∙ ((λ j. encoded (take (n j) words) ++ drop (4 * n j) old) ∙ ap (λ ws. encoded ws ++ drop (4 * length words) old) (take_all (length words) words (omega arith)))

-- A template's block

pub drop-zeros : (n m : ℕ) → drop n (zeros m) ≡ zeros (m - n)
drop-zeros n m = drop-replicate n m 0

abbrev pub block_of : List Word → List Word → List ℕ
block_of owns size = (0x58 ∷ 0x54 ∷ length owns ∷ length size ∷ []) ++ (encoded owns ++ (encoded size ++ zeros (508 - 4 * (length owns + length size))))

module _ (owns size : List Word) (few : length owns + length size ≤ 127) where
  abbrev start : ℕ
  start = 4 + 4 * length owns

  abbrev head : List ℕ
  head = 0x58 ∷ 0x54 ∷ length owns ∷ length size ∷ []

  pub block_written : (rest once twice : List ℕ) → rest ≡ zeros 508 → once ≡ encoded owns ++ drop (4 * length owns) rest →
      twice ≡ encoded size ++ drop (4 * length size) (mid_of start (512 - start) (head ++ (once ++ []))) →
      put_mid start (512 - start) (head ++ (once ++ [])) twice ≡ block_of owns size
  block_written rest once twice blank first second =
      let xs = head ++ encoded owns in
      let ys = zeros (508 - 4 * length owns) in
      let code = length-encoded_words owns in
      let front : length xs ≡ start = omega arith in
      let back : length ys ≡ 512 - start = length-replicate {A = ℕ} (508 - 4 * length owns) 0 ∙ omega arith in
      let was : head ++ (once ++ []) ≡ xs ++ ys =
      ap (λ o. head ++ o) (append-nil once ∙ (first ∙ ap (λ r. encoded owns ++ drop (4 * length owns) r) blank ∙ ap (λ r. encoded owns ++ r) (drop-zeros (4 * length owns) 508))) in
      let left : 508 - 4 * length owns - 4 * length size ≡ 508 - 4 * (length owns + length size) = omega arith in
      let written : twice ≡ encoded size ++ zeros (508 - 4 * (length owns + length size)) =
      second ∙ (ap (λ b. encoded size ++ drop (4 * length size) (mid_of start (512 - start) b)) was
      ∙ (ap (λ r. encoded size ++ drop (4 * length size) r) (mid_behind xs ys start (512 - start) front back)
      ∙ ap (λ r. encoded size ++ r) (drop-zeros (4 * length size) (508 - 4 * length owns) ∙ ap zeros left))) in
      ap (λ b. put_mid start (512 - start) b twice) was
      ∙ (put_behind xs ys start (512 - start) front back twice
      ∙ (ap (λ t. xs ++ t) written ∙ append_assoc head (encoded owns) (encoded size ++ zeros (508 - 4 * (length owns + length size)))))

pub length-template_bytes : (t : TemplateValue) → IsTemplate t → length (template_bytes t) ≡ 512
unfolding template_bytes
length-template_bytes t is =
    let owns = t.owns.words in
    let size = t.size.words in
    let short = is.together.short in
    let rest = zeros (508 - 4 * (length owns + length size)) in
    let blank = length-replicate {A = ℕ} (508 - 4 * (length owns + length size)) 0 in
    let second = length-append (encoded size) rest in
    let first = length-append (encoded owns) (encoded size ++ rest) in
    omega (arith, length-encoded_words owns, length-encoded_words size)
