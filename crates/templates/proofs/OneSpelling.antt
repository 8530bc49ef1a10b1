-- A template is read from its block, and from no other.
use Rattle.std.proofs.Common.{◌≡◌, ◌≢◌, ℕ, zero, suc, ◌+◌, ◌-◌, ◌*◌, ◌≤◌, ◌<◌, ◌∙◌, ap, sym, refl, subst, Bool, true, false, List, [], ◌∷◌, ◌++◌, length, get_or, take, drop, append_assoc, lit<, arith}
use Rattle.std.specs.Prelude.{Result, Ok, Err, IsOk, All, slice_range, bytes_eq, nat_le, ◌==◌}
use Rattle.std.specs.Result.{result_map_both, is_ok}
use Rattle.std.proofs.lemmas.Bool.{leb-true, le-leb, eqb-true, and_parts}
use Rattle.std.proofs.lemmas.Slice.Eq.{bytes_eq-Decides}
use Rattle.std.proofs.lemmas.List.{take_at, drop_at, drop-drop, take-append-drop, length-take-le, length-drop, drop_more, get_or-take}
use Rattle.std.proofs.lemmas.List.Elements.{All-take, All-drop}
use Rattle.udf_code.specs.declared.word.Word.{Word}
use Rattle.udf_code.specs.declared.fault.CodeFault.{CodeFault}
use Rattle.udf_code.specs.Structure.{◌>>=◌}
use Rattle.udf_code.specs.Bytes.{encoded, IsCode}
use Rattle.udf_code.specs.Decoding.{decoded}
use Rattle.udf_code.specs.Tree.{Spells}
use Rattle.udf_code.specs.Reading.{tree_of}
use Rattle.udf_code.proofs.ForCallers.{bind_ok, code_is_decoded, decoded_is_code, one_tree}
use Rattle.udf_verify.specs.declared.fault.Role.{Role}
use Rattle.udf_verify.specs.declared.fault.Role.TheVariants as role
use Rattle.udf_verify.specs.declared.fault.VerifyFault.{VerifyFault}
use Rattle.udf_verify.specs.Intervals.{Interval}
use Rattle.udf_verify.specs.Program.{Program, IsChecked, tree}
use Rattle.udf_verify.specs.Verdict.{program_verdict}
use Rattle.xn_model.specs.Lists.{blank}
use Rattle.xn_model.specs.BareDisks.{zeros}
use Rattle.templates.specs.declared.fault.TemplateFault.{TemplateFault}
use Rattle.templates.specs.declared.fault.TemplateFault.TheVariants.{NoMemory, BadMark, BadCode, NotVerified, BytesAfter}
use Rattle.templates.specs.Templates.{TemplateValue, IsTemplate, template_mark, template_bytes}
use Rattle.templates.specs.Reading.{fault_unless, owns_count, size_count, owns_end, size_end, head_of, words_of_code, program_of_words, template_of_code, template_of_bytes}
use Rattle.templates.proofs.ReadSteps.{head_wants_no_memory, demand_met, programs_read, block_read}
use Rattle.templates.proofs.WordsWritten.{length-encoded_words}

-- No step wants memory

step_never : {A B : Type 0} (r : Result A TemplateFault) (f : A → Result B TemplateFault) → r ≢ Err NoMemory → ((x : A) → f x ≢ Err NoMemory) → (r >>= f) ≢ Err NoMemory
step_never (Ok x) f h g = g x
step_never (Err e) f h g = λ k. let same : e ≡ NoMemory = cc in h (ap Err same)

map_never : {A B E : Type 0} (r : Result A E) (f : A → B) (fault : TemplateFault) → fault ≢ NoMemory → result_map_both f (λ _. fault) r ≢ Err NoMemory
map_never (Ok x) f fault ne = λ k. cc
map_never (Err e) f fault ne = λ k. let same : fault ≡ NoMemory = cc in ne same

demand_never : (t : Bool) (fault : TemplateFault) → fault ≢ NoMemory → fault_unless t fault ≢ Err NoMemory
demand_never true fault ne = λ k. cc
demand_never false fault ne = λ k. let same : fault ≡ NoMemory = cc in ne same

ok_never : {A : Type 0} (x : A) → ◌≢◌ {A = Result A TemplateFault} (Ok x) (Err NoMemory)
ok_never x = λ k. cc

code_never : (owns size : List ℕ) → template_of_code owns size ≢ Err NoMemory
unfolding template_of_code
code_never owns size =
    step_never _ _ (map_never (decoded owns) (λ words. words) BadCode (λ k. cc))
    (λ owns_words. step_never _ _ (map_never (decoded size) (λ words. words) BadCode (λ k. cc))
    (λ size_words. step_never _ _ (map_never (program_verdict role.Owns (tree_of owns_words)) _ NotVerified (λ k. cc))
    (λ program. step_never _ _ (map_never (program_verdict role.Size (tree_of size_words)) _ NotVerified (λ k. cc)) (λ answer. ok_never _))))

pub blocks_want_no_memory : (m : List ℕ) → template_of_bytes m ≢ Err NoMemory
unfolding template_of_bytes
blocks_want_no_memory m =
    step_never _ _ (head_wants_no_memory m)
    (λ head. step_never _ _ (code_never _ _)
    (λ t. step_never _ _ (demand_never _ BytesAfter (λ k. cc)) (λ done. ok_never t)))

-- Zeros

pub blank-zeros : (n : ℕ) → blank (zeros n) ≡ true
blank-zeros zero = refl
blank-zeros (suc n) = blank-zeros n

blank_is : (xs : List ℕ) → blank xs ≡ true → xs ≡ zeros (length xs)
blank_is [] h = refl
blank_is (x ∷ xs) h =
    let parts = and_parts (x == 0) (blank xs) h in
    λ i. eqb-true x 0 parts.0 i ∷ blank_is xs parts.1 i

-- A template is read from its block

program_back : (p : Program) (r : Role) → p.role ≡ r → IsChecked p → program_of_words r p.words ≡ Ok p
program_back p r e is = subst (λ x. program_of_words x p.words ≡ Ok p) e (by (program_verdict p.role (tree p)) is.accepted)
  where
    by : {A E : Type 0} (v : Result A E) → IsOk v → result_map_both (λ final. p) (λ fault. NotVerified) v ≡ Ok p
    by (Ok x) h = refl
    by (Err e) h = absurd (cc)

words_back : (p : Program) → IsChecked p → words_of_code (encoded p.words) ≡ Ok p.words
words_back p is = ap (result_map_both (λ words. words) (λ fault. BadCode))
    (code_is_decoded (encoded p.words) p.words (record { tree = tree p; spells = is.spelled; in_range = is.in_range; written = refl }))

module _ (t : TemplateValue) (is : IsTemplate t) where
  abbrev a : ℕ
  a = length t.owns.words

  abbrev b : ℕ
  b = length t.size.words

  abbrev owns : List ℕ
  owns = encoded t.owns.words

  abbrev size : List ℕ
  size = encoded t.size.words

  abbrev rest : List ℕ
  rest = zeros (508 - 4 * (a + b))

  abbrev head : List ℕ
  head = 0x58 ∷ 0x54 ∷ a ∷ b ∷ []

  head_back : head_of (template_bytes t) ≡ Ok (tt {0})
  unfolding head_of template_bytes
  head_back = demand_met (nat_le (a + b) 127) BadCode (le-leb (a + b) 127 is.together.short)

  owns_back : slice_range (template_bytes t) 4 (owns_end (template_bytes t)) ≡ owns
  unfolding template_bytes
  owns_back =
      let n : 4 + 4 * a - 4 ≡ 4 * a = omega arith in
      ap (λ k. take k (owns ++ (size ++ rest))) n ∙ take_at owns (size ++ rest) (4 * a) (length-encoded_words t.owns.words)

  front : length (head ++ owns) ≡ 4 + 4 * a
  front = let n = length-encoded_words t.owns.words in omega arith

  behind_owns : drop (4 + 4 * a) (template_bytes t) ≡ size ++ rest
  unfolding template_bytes
  behind_owns = ap (drop (4 + 4 * a)) (sym (append_assoc head owns (size ++ rest))) ∙ drop_at (head ++ owns) (size ++ rest) (4 + 4 * a) front

  size_back : slice_range (template_bytes t) (owns_end (template_bytes t)) (size_end (template_bytes t)) ≡ size
  unfolding template_bytes
  size_back =
      let n : 4 + 4 * a + 4 * b - (4 + 4 * a) ≡ 4 * b = omega arith in
      (λ i. take (n i) (behind_owns i)) ∙ take_at size rest (4 * b) (length-encoded_words t.size.words)

  rest_back : drop (size_end (template_bytes t)) (template_bytes t) ≡ rest
  unfolding template_bytes
  rest_back =
      sym (drop-drop (4 * b) (4 + 4 * a) (template_bytes t))
      ∙ (ap (drop (4 * b)) behind_owns ∙ drop_at size rest (4 * b) (length-encoded_words t.size.words))

  pub template_back : template_of_bytes (template_bytes t) ≡ Ok t
  template_back =
      let m = template_bytes t in
      let read = programs_read owns size t.owns.words (words_back t.owns is.owns_checked) t.size.words (words_back t.size is.size_checked)
      t.owns (program_back t.owns role.Owns is.together.owns_role is.owns_checked) t.size (program_back t.size role.Size is.together.size_role is.size_checked) in
      block_read m (owns_end m, size_end m) head_back refl t ((λ i. template_of_code (owns_back i) (size_back i)) ∙ read)
      (ap blank rest_back ∙ blank-zeros (508 - 4 * (a + b)))

pub templates_are_read : (t : TemplateValue) → IsTemplate t → template_of_bytes (template_bytes t) ≡ Ok t
templates_are_read = template_back

-- What is read from a block is the template of that block

demand_ok : (t : Bool) (fault : TemplateFault) (x : Unit {0}) → fault_unless t fault ≡ Ok x → t ≡ true
demand_ok true fault x h = refl
demand_ok false fault x h = absurd (cc)

ok_same : {A : Type 0} (x y : A) → ◌≡◌ {A = Result A TemplateFault} (Ok x) (Ok y) → x ≡ y
ok_same x y h = cc

words_read : (code : List ℕ) (words : List Word) → All (λ byte. byte < 256) code → words_of_code code ≡ Ok words → IsCode words code
words_read code words bytes h = decoded_is_code code bytes words (by (decoded code) h)
  where
    by : (r : Result (List Word) CodeFault) → result_map_both (λ ws. ws) (λ fault. BadCode) r ≡ Ok words → r ≡ Ok words
    by (Ok x) e = let same : x ≡ words = cc in ap Ok same
    by (Err f) e = absurd (cc)

-- the program of these words, accepted for this role
record Accepted (r : Role) (words : List Word) (p : Program) : Type 0 where
  is : p ≡ record { words = words; role = r }
  accepted : IsOk (program_verdict r (tree_of words))

program_read : (r : Role) (words : List Word) (p : Program) → program_of_words r words ≡ Ok p → Accepted r words p
program_read r words p h = by (program_verdict r (tree_of words)) refl h
  where
    by : (v : Result (List Interval) VerifyFault) → program_verdict r (tree_of words) ≡ v → result_map_both (λ final. record { words = words; role = r }) (λ fault. NotVerified) v ≡ Ok p → Accepted r words p
    by (Ok x) e g = record { is = sym (ok_same _ p g); accepted = ap is_ok e }
    by (Err f) e g = absurd (cc)

checked_is : (words : List Word) (code : List ℕ) (r : Role) (p : Program) → IsCode words code → Accepted r words p → IsChecked p
checked_is words code r p c a = subst IsChecked (sym a.is) (record {
  spelled = subst (λ x. Spells x words) (sym (one_tree c.tree words c.spells)) c.spells;
  in_range = c.in_range;
  accepted = a.accepted;
})

-- what its code says of a template
record CodeOf (owns_code size_code : List ℕ) (t : TemplateValue) : Type 0 where
  owns_checked : IsChecked t.owns
  size_checked : IsChecked t.size
  owns_role : t.owns.role ≡ role.Owns
  size_role : t.size.role ≡ role.Size
  owns_code_is : owns_code ≡ encoded t.owns.words
  size_code_is : size_code ≡ encoded t.size.words

code_read : (owns_code size_code : List ℕ) (t : TemplateValue) → All (λ byte. byte < 256) owns_code → All (λ byte. byte < 256) size_code → template_of_code owns_code size_code ≡ Ok t → CodeOf owns_code size_code t
unfolding template_of_code
code_read owns_code size_code t owns_bytes size_bytes h =
    let a = bind_ok (words_of_code owns_code) _ t h in
    let b = bind_ok (words_of_code size_code) _ t a.2 in
    let c = bind_ok (program_of_words role.Owns a.0) _ t b.2 in
    let d = bind_ok (program_of_words role.Size b.0) _ t c.2 in
    let owns = words_read owns_code a.0 owns_bytes a.1 in
    let size = words_read size_code b.0 size_bytes b.1 in
    let owns_program = program_read role.Owns a.0 c.0 c.1 in
    let size_program = program_read role.Size b.0 d.0 d.1 in
    subst (CodeOf owns_code size_code) (ok_same _ t d.2) (record {
      owns_checked = checked_is a.0 owns_code role.Owns c.0 owns owns_program;
      size_checked = checked_is b.0 size_code role.Size d.0 size size_program;
      owns_role = ap (λ (p : Program). p.role) owns_program.is;
      size_role = ap (λ (p : Program). p.role) size_program.is;
      owns_code_is = owns.written ∙ ap (λ (p : Program). encoded p.words) (sym owns_program.is);
      size_code_is = size.written ∙ ap (λ (p : Program). encoded p.words) (sym size_program.is);
    })

-- a block in four parts
parted : (m : List ℕ) (i j : ℕ) → i ≤ j → drop i m ≡ slice_range m i j ++ drop j m
parted m i j le =
    let sum : i + (j - i) ≡ j = omega arith in
    sym (take-append-drop (j - i) (drop i m)) ∙ ap (λ l. slice_range m i j ++ l) (drop-drop (j - i) i m ∙ ap (λ n. drop n m) sum)

take_four : (m : List ℕ) → 4 ≤ length m → m ≡ get_or m 0 0 ∷ get_or m 1 0 ∷ get_or m 2 0 ∷ get_or m 3 0 ∷ drop 4 m
take_four m h =
    drop_more m 0 0 (omega arith) ∙ ap (λ l. get_or m 0 0 ∷ l) (drop_more m 1 0 (omega arith)
    ∙ ap (λ l. get_or m 1 0 ∷ l) (drop_more m 2 0 (omega arith) ∙ ap (λ l. get_or m 2 0 ∷ l) (drop_more m 3 0 (omega arith))))

module _ (m : List ℕ) (t : TemplateValue) (long : length m ≡ 512) (bytes : All (λ byte. byte < 256) m) where
  part_bytes : (i j : ℕ) → All (λ byte. byte < 256) (slice_range m i j)
  part_bytes i j = All-take (λ byte. byte < 256) (j - i) (drop i m) (All-drop (λ byte. byte < 256) i m bytes)

  part_length : (i j : ℕ) → i ≤ j → j ≤ 512 → length (slice_range m i j) ≡ j - i
  part_length i j le within = length-take-le (j - i) (drop i m) (let n = length-drop i m in omega arith)

  -- the facts that the steps of the reading give
  record Steps : Type 0 where
    mark : bytes_eq (take 2 m) template_mark ≡ true
    few : owns_count m + size_count m ≤ 127
    code : template_of_code (slice_range m 4 (owns_end m)) (slice_range m (owns_end m) (size_end m)) ≡ Ok t
    clear : blank (drop (size_end m) m) ≡ true

  steps : template_of_bytes m ≡ Ok t → Steps
  unfolding template_of_bytes head_of
  steps h =
      let a = bind_ok (head_of m) _ t h in
      let b = bind_ok (template_of_code (slice_range m 4 (owns_end m)) (slice_range m (owns_end m) (size_end m))) _ t a.2 in
      let c = bind_ok (fault_unless (blank (drop (size_end m) m)) BytesAfter) _ t b.2 in
      let d = bind_ok (fault_unless (bytes_eq (take 2 m) template_mark) BadMark) _ a.0 a.1 in
      record {
        mark = demand_ok _ BadMark d.0 d.1;
        few = leb-true (owns_count m + size_count m) 127 (demand_ok _ BadCode a.0 d.2);
        code = b.1 ∙ ap Ok (ok_same _ t c.2);
        clear = demand_ok _ BytesAfter c.0 c.1;
      }

  module _ (s : Steps) where
    read : CodeOf (slice_range m 4 (owns_end m)) (slice_range m (owns_end m) (size_end m)) t
    read = code_read _ _ t (part_bytes 4 (owns_end m)) (part_bytes (owns_end m) (size_end m)) s.code

    owns_length : owns_count m ≡ length t.owns.words
    owns_length =
        let few = s.few in
        let part = part_length 4 (owns_end m) (omega arith) (omega arith) in
        let code = ap length read.owns_code_is ∙ length-encoded_words t.owns.words in
        omega arith

    size_length : size_count m ≡ length t.size.words
    size_length =
        let few = s.few in
        let part = part_length (owns_end m) (size_end m) (omega arith) (omega arith) in
        let code = ap length read.size_code_is ∙ length-encoded_words t.size.words in
        omega arith

    is_template : IsTemplate t
    is_template = record {
      together = record { owns_role = read.owns_role; size_role = read.size_role; short = (let few = s.few in let a = owns_length in let b = size_length in omega arith) };
      owns_checked = read.owns_checked;
      size_checked = read.size_checked;
    }

    -- its first bytes, and the bytes behind its words
    mark_is : take 2 m ≡ 88 ∷ 84 ∷ []
    mark_is = (bytes_eq-Decides (take 2 m) template_mark).0 s.mark

    mark_at : (i : ℕ) → i < 2 → get_or m i 0 ≡ get_or (88 ∷ 84 ∷ []) i 0
    mark_at i lt = sym (get_or-take 2 m i 0 lt) ∙ ap (λ l. get_or l i 0) mark_is

    rest_is : drop (size_end m) m ≡ zeros (508 - 4 * (length t.owns.words + length t.size.words))
    rest_is =
        let few = s.few in
        let a = owns_length in
        let b = size_length in
        let n = length-drop (size_end m) m in
        let left : length (drop (size_end m) m) ≡ 508 - 4 * (length t.owns.words + length t.size.words) = omega arith in
        blank_is (drop (size_end m) m) s.clear ∙ ap zeros left

    code_is : drop 4 m ≡ encoded t.owns.words ++ (encoded t.size.words ++ zeros (508 - 4 * (length t.owns.words + length t.size.words)))
    code_is =
        parted m 4 (owns_end m) (omega arith)
        ∙ ((λ i. read.owns_code_is i ++ parted m (owns_end m) (size_end m) (omega arith) i)
        ∙ ap (λ l. encoded t.owns.words ++ l) (λ i. read.size_code_is i ++ rest_is i))

    block_is : m ≡ template_bytes t
    unfolding template_bytes
    block_is = take_four m (omega arith) ∙ (λ i. mark_at 0 (lit< tt) i ∷ mark_at 1 (lit< tt) i ∷ owns_length i ∷ size_length i ∷ code_is i)

pub blocks_are_templates : (m : List ℕ) (t : TemplateValue) → length m ≡ 512 → All (λ byte. byte < 256) m → template_of_bytes m ≡ Ok t → (m ≡ template_bytes t) × IsTemplate t
blocks_are_templates m t long bytes read =
    let s = steps m t long bytes read in
    (block_is m t long bytes s, is_template m t long bytes s)

-- a block with a fault is no template's
pub fault_refuses : (m : List ℕ) (fault : TemplateFault) → template_of_bytes m ≡ Err fault → (t : TemplateValue) → IsTemplate t → m ≢ template_bytes t
fault_refuses m fault h t is e = let read = ap template_of_bytes e ∙ templates_are_read t is in cc
