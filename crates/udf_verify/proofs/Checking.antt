-- The first word of what is left of a check.
use Rattle.std.proofs.Common.{◌≡◌, ℕ, ◌+◌, ◌<◌, ◌≤◌, Bool, List, [], length, get_or, refl, sym, ap, ◌∙◌, subst, arith, ◌⊎◌, inl, inr, ⊎_elim}
use Rattle.std.specs.Prelude.{slice_get, Some, Result, Ok, Err}
use Rattle.udf_code.specs.declared.word.Word.{Word}
use Rattle.udf_code.specs.declared.word.Word.TheVariants.{IfLess, IfEqual, Else, End, For}
use Rattle.udf_code.specs.Words.{IsPlain}
use Rattle.udf_code.specs.Tree.{Test, Less, Equal, Tree, Stop, Plain, If, IfElse, Loop, if_word}
use Rattle.udf_verify.specs.declared.fault.Role.{Role}
use Rattle.udf_verify.specs.declared.fault.FaultKind.{FaultKind}
use Rattle.udf_verify.specs.declared.fault.VerifyFault.{VerifyFault}
use Rattle.udf_verify.specs.Intervals.{Interval, merge}
use Rattle.udf_verify.specs.Bounds.{◌>>=◌, placed, plain_row, unless_counter, Split, split_row, size, bounds}
use Rattle.udf_verify.specs.Layout.{IsBlockAt}
use Rattle.udf_verify.specs.Checks.{CheckAnswer, Checks, IsOpening, branches, BranchChecks}
use Rattle.udf_verify.proofs.Laid.{some_is, within_list, word_at, read_is, size-If, size-IfElse}

-- what a first step's Ok and Err make of the answer
pub first_ok : {A : Type 0} (o : Result A VerifyFault) (f : A → CheckAnswer) (x : A) (answer : CheckAnswer) → (o >>= f) ≡ answer → o ≡ Ok x → f x ≡ answer
first_ok o f x answer e h = sym (ap (λ r. r >>= f) h) ∙ e

pub first_err : {A : Type 0} (o : Result A VerifyFault) (f : A → CheckAnswer) (x : VerifyFault) (answer : CheckAnswer) → (o >>= f) ≡ answer → o ≡ Err x → answer ≡ Err x
first_err o f x answer e h = sym e ∙ ap (λ r. r >>= f) h

-- two IFs are one word only where they are alike
pub one_if : (t u : Test) (c d a b : ℕ) → if_word t c d ≡ if_word u a b → (t ≡ u) × (c ≡ a) × (d ≡ b)
one_if Less Less c d a b e = (refl, cc, cc)
one_if Less Equal c d a b e = absurd (cc)
one_if Equal Less c d a b e = absurd (cc)
one_if Equal Equal c d a b e = (refl, cc, cc)

pub plain_if : (test : Test) (a b : ℕ) → IsPlain (if_word test a b) → ⊥
plain_if Less a b p = p
plain_if Equal a b p = p

pub for_if : (test : Test) (c k a b : ℕ) → For c k ≡ if_word test a b → ⊥
for_if Less c k a b e = cc
for_if Equal c k a b e = cc

module _ (words : List Word) (targets : List ℕ) (at to : ℕ) (role : Role) (counters : List Bool) (ivs : List Interval) (answer : CheckAnswer) (more : at < to) where
  some_word : (tree : Tree) → IsBlockAt words targets at to [] tree → (w : Word) × (slice_get words at ≡ Some w)
  some_word Stop h = absurd (omega (arith, h.ends))
  some_word (Plain word rest) h = (word, h.stands.0)
  some_word (If test a b first rest) h = (if_word test a b, h.stands.0)
  some_word (IfElse test a b first other rest) h = (if_word test a b, h.stands.0)
  some_word (Loop a n claims body rest) h = (For a n, h.stands.0)

  pub has_word : Checks words targets at to role counters ivs answer → at < length words
  has_word r = let w = some_word r.0 r.1 in within_list words at w.0 w.1

  pub is_short : Checks words targets at to role counters ivs answer → length words ≤ 127
  is_short r = r.1.short

  -- a plain word
  pub record PlainChecks (w : Word) : Type 0 where
    pub plain : IsPlain w
    pub ok : (after : List Interval) → placed at (unless_counter counters w (plain_row role w ivs)) ≡ Ok after → Checks words targets (at + 1) to role counters after answer
    pub err : (fault : VerifyFault) → placed at (unless_counter counters w (plain_row role w ivs)) ≡ Err fault → answer ≡ Err fault

  plain_by : (w : Word) → slice_get words at ≡ Some w → ((test : Test) (a b : ℕ) → w ≡ if_word test a b → ⊥) → ((a n : ℕ) → w ≡ For a n → ⊥) → (tree : Tree) → IsBlockAt words targets at to [] tree → bounds role counters at tree ivs ≡ answer → PlainChecks w
  plain_by w g p q Stop h e = absurd (omega (arith, h.ends))
  plain_by w g p q (Plain word rest) h e =
      let same : word ≡ w = some_is (sym h.stands.0 ∙ g) in
      let row = λ (v : Word). placed at (unless_counter counters v (plain_row role v ivs)) in
      record {
        plain = subst IsPlain same h.plain.0;
        ok = λ after k. (rest, record { even = h.even; short = h.short; plain = h.plain.1; stands = h.stands.1; ends = omega (arith, h.ends) }, first_ok (row word) (bounds role counters (at + 1) rest) after answer e (ap row same ∙ k));
        err = λ fault k. first_err (row word) (bounds role counters (at + 1) rest) fault answer e (ap row same ∙ k);
      }
  plain_by w g p q (If test a b first rest) h e = absurd (p test a b (some_is (sym g ∙ h.stands.0)))
  plain_by w g p q (IfElse test a b first other rest) h e = absurd (p test a b (some_is (sym g ∙ h.stands.0)))
  plain_by w g p q (Loop a n claims body rest) h e = absurd (q a n (some_is (sym g ∙ h.stands.0)))

  not_if : (w : Word) → ((a b : ℕ) → w ≡ IfLess a b → ⊥) → ((a b : ℕ) → w ≡ IfEqual a b → ⊥) → (test : Test) (a b : ℕ) → w ≡ if_word test a b → ⊥
  not_if w l e Less a b = l a b
  not_if w l e Equal a b = e a b

  pub at_plain : (w d : Word) → w ≡ get_or words at d → ((a b : ℕ) → w ≡ IfLess a b → ⊥) → ((a b : ℕ) → w ≡ IfEqual a b → ⊥) → ((a n : ℕ) → w ≡ For a n → ⊥) → Checks words targets at to role counters ivs answer → PlainChecks w
  at_plain w d is l p q r = plain_by w (word_at words at w d (has_word r) is) (not_if w l p) q r.0 r.1 r.2

  -- an IF
  pub record SplitChecks (test : Test) (a b : ℕ) : Type 0 where
    pub ok : (first other : List Interval) → split_row test a b ivs ≡ Ok (record { first = first; other = other }) → BranchChecks words targets at to role counters first other answer
    pub err : (k : FaultKind) → split_row test a b ivs ≡ Err k → answer ≡ Err (record { at = at; kind = k })

  if_by : (test : Test) (a b : ℕ) → slice_get words at ≡ Some (if_word test a b) → (tree : Tree) → IsBlockAt words targets at to [] tree → bounds role counters at tree ivs ≡ answer → SplitChecks test a b
  if_by test a b g Stop h e = absurd (omega (arith, h.ends))
  if_by test a b g (Plain word rest) h e = absurd (plain_if test a b (subst IsPlain (some_is (sym h.stands.0 ∙ g)) h.plain.0))
  if_by test a b g (If t c d first rest) h e =
      let same = one_if t test c d a b (some_is (sym h.stands.0 ∙ g)) in
      let row = ap (λ x. placed at (split_row x c d ivs)) same.0 ∙ ap (λ x. placed at (split_row test x d ivs)) same.1 ∙ ap (λ x. placed at (split_row test a x ivs)) same.2 in
      let go = λ (s : Split). bounds role counters (at + 1) first s.first >>= (λ after. bounds role counters (at + 1 + size first + 1) rest (merge after s.other)) in
      record {
        ok = λ one two k. (If t c d first rest, tt, h, first_ok (placed at (split_row t c d ivs)) go (record { first = one; other = two }) answer e (row ∙ ap (λ r. placed at r) k));
        err = λ k l. first_err (placed at (split_row t c d ivs)) go (record { at = at; kind = k }) answer e (row ∙ ap (λ r. placed at r) l);
      }
  if_by test a b g (IfElse t c d first other rest) h e =
      let same = one_if t test c d a b (some_is (sym h.stands.0 ∙ g)) in
      let row = ap (λ x. placed at (split_row x c d ivs)) same.0 ∙ ap (λ x. placed at (split_row test x d ivs)) same.1 ∙ ap (λ x. placed at (split_row test a x ivs)) same.2 in
      let go = λ (s : Split). bounds role counters (at + 1) first s.first >>= (λ after_first. bounds role counters (at + 1 + size first + 1) other s.other >>= (λ after_other. bounds role counters (at + 1 + size first + 1 + size other + 1) rest (merge after_first after_other))) in
      record {
        ok = λ one two k. (IfElse t c d first other rest, tt, h, first_ok (placed at (split_row t c d ivs)) go (record { first = one; other = two }) answer e (row ∙ ap (λ r. placed at r) k));
        err = λ k l. first_err (placed at (split_row t c d ivs)) go (record { at = at; kind = k }) answer e (row ∙ ap (λ r. placed at r) l);
      }
  if_by test a b g (Loop c k claims body rest) h e = absurd (for_if test c k a b (some_is (sym h.stands.0 ∙ g)))

  pub at_if : (test : Test) (a b : ℕ) (w d : Word) → w ≡ get_or words at d → w ≡ if_word test a b → Checks words targets at to role counters ivs answer → SplitChecks test a b
  at_if test a b w d is same r = if_by test a b (word_at words at w d (has_word r) is ∙ ap Some same) r.0 r.1 r.2

-- An IF behind its test, with no ELSE.
pub record IfChecks (words : List Word) (targets : List ℕ) (at to : ℕ) (role : Role) (counters : List Bool) (one two : List Interval) (answer : CheckAnswer) (close : ℕ) : Type 0 where
  pub readable : at < length targets
  pub ending : slice_get words close ≡ Some End
  pub after : at < close
  pub before : close < to
  pub first_answer : CheckAnswer
  pub first : Checks words targets (at + 1) close role counters one first_answer
  pub err : (fault : VerifyFault) → first_answer ≡ Err fault → answer ≡ Err fault
  pub ok : (x : List Interval) → first_answer ≡ Ok x → Checks words targets (close + 1) to role counters (merge x two) answer

-- An IF behind its test, with an ELSE.
pub record IfElseChecks (words : List Word) (targets : List ℕ) (at to : ℕ) (role : Role) (counters : List Bool) (one two : List Interval) (answer : CheckAnswer) (part : ℕ) : Type 0 where
  pub readable : at < length targets
  pub parting : slice_get words part ≡ Some Else
  pub part_readable : part < length targets
  pub after : at < part
  pub part_after : part < get_or targets part 0
  pub before : get_or targets part 0 < to
  pub first_answer : CheckAnswer
  pub first : Checks words targets (at + 1) part role counters one first_answer
  pub err : (fault : VerifyFault) → first_answer ≡ Err fault → answer ≡ Err fault
  pub other_answer : CheckAnswer
  pub other : Checks words targets (part + 1) (get_or targets part 0) role counters two other_answer
  pub other_err : (x : List Interval) → first_answer ≡ Ok x → (fault : VerifyFault) → other_answer ≡ Err fault → answer ≡ Err fault
  pub ok : (x y : List Interval) → first_answer ≡ Ok x → other_answer ≡ Ok y → Checks words targets (get_or targets part 0 + 1) to role counters (merge x y) answer

module _ (words : List Word) (targets : List ℕ) (at to : ℕ) (role : Role) (counters : List Bool) (one two : List Interval) (answer : CheckAnswer) where
  abbrev BranchParts : Type 0
  BranchParts = IfChecks words targets at to role counters one two answer (get_or targets at 0) ⊎ IfElseChecks words targets at to role counters one two answer (get_or targets at 0)

  without_by : (test : Test) (a b : ℕ) (first rest : Tree) → IsBlockAt words targets at to [] (If test a b first rest) → branches role counters at (If test a b first rest) one two ≡ answer → IfChecks words targets at to role counters one two answer (at + 1 + size first)
  without_by test a b first rest h e =
      let len = size-If test a b first rest in
      let o = bounds role counters (at + 1) first one in
      let go = λ (after : List Interval). bounds role counters (at + 1 + size first + 1) rest (merge after two) in
      record {
        readable = let w = within_list words at _ h.stands.0 in omega (arith, h.even);
        ending = h.stands.3;
        after = omega arith;
        before = omega (arith, h.ends);
        first_answer = o;
        first = (first, record { even = h.even; short = h.short; plain = h.plain.0; stands = h.stands.2; ends = omega arith }, refl);
        err = λ fault k. first_err o go fault answer e k;
        ok = λ x k. (rest, record { even = h.even; short = h.short; plain = h.plain.1; stands = h.stands.4; ends = omega (arith, h.ends) }, first_ok o go x answer e k);
      }

  with_by : (test : Test) (a b : ℕ) (first other rest : Tree) → IsBlockAt words targets at to [] (IfElse test a b first other rest) → branches role counters at (IfElse test a b first other rest) one two ≡ answer → IfElseChecks words targets at to role counters one two answer (at + 1 + size first)
  with_by test a b first other rest h e =
      let len = size-IfElse test a b first other rest in
      let close = h.stands.4 in
      let o = bounds role counters (at + 1) first one in
      let p = bounds role counters (at + 1 + size first + 1) other two in
      let last = λ (x y : List Interval). bounds role counters (at + 1 + size first + 1 + size other + 1) rest (merge x y) in
      let go = λ (x : List Interval). p >>= last x in
      record {
        readable = let w = within_list words at _ h.stands.0 in omega (arith, h.even);
        parting = h.stands.3;
        part_readable = let w = within_list words _ _ h.stands.3 in omega (arith, h.even);
        after = omega arith;
        part_after = rw close (omega arith);
        before = rw close (omega (arith, h.ends));
        first_answer = o;
        first = (first, record { even = h.even; short = h.short; plain = h.plain.0; stands = h.stands.2; ends = omega arith }, refl);
        err = λ fault k. first_err o go fault answer e k;
        other_answer = p;
        other = rw close (other, record { even = h.even; short = h.short; plain = h.plain.1; stands = h.stands.5; ends = omega arith }, refl);
        other_err = λ x k fault l. first_err p (last x) fault answer (first_ok o go x answer e k) l;
        ok = λ x y k l. rw close (rest, record { even = h.even; short = h.short; plain = h.plain.2; stands = h.stands.7; ends = omega (arith, h.ends) }, first_ok p (last x) y answer (first_ok o go x answer e k) l);
      }

  parts_by : (tree : Tree) → IsBlockAt words targets at to [] tree → branches role counters at tree one two ≡ answer → IsOpening tree → BranchParts
  parts_by (If test a b first rest) h e i = inl (subst (λ p. IfChecks words targets at to role counters one two answer p) (sym h.stands.1) (without_by test a b first rest h e))
  parts_by (IfElse test a b first other rest) h e i = inr (subst (λ p. IfElseChecks words targets at to role counters one two answer p) (sym h.stands.1) (with_by test a b first other rest h e))
  parts_by tree h e i = absurd i

  pub branch_parts : BranchChecks words targets at to role counters one two answer → BranchParts
  branch_parts r = parts_by r.0 r.2 r.3 r.1

  module _ (r : BranchChecks words targets at to role counters one two answer) where
    pub target_readable : at < length targets
    target_readable = ⊎_elim (λ p. p.readable) (λ p. p.readable) (branch_parts r)

    pub part_readable : get_or targets at 0 < length words
    part_readable = ⊎_elim (λ p. within_list words _ _ p.ending) (λ p. within_list words _ _ p.parting) (branch_parts r)

    pub part_after : at < get_or targets at 0
    part_after = ⊎_elim (λ p. p.after) (λ p. p.after) (branch_parts r)

    pub part_before : get_or targets at 0 < to
    part_before = ⊎_elim (λ p. p.before) (λ p. let x = p.part_after in let y = p.before in omega arith) (branch_parts r)

    -- the first branch's check, and what its fault means
    pub first_checks : (o : CheckAnswer) × Checks words targets (at + 1) (get_or targets at 0) role counters one o × ((fault : VerifyFault) → o ≡ Err fault → answer ≡ Err fault)
    first_checks = ⊎_elim (λ p. (p.first_answer, p.first, p.err)) (λ p. (p.first_answer, p.first, p.err)) (branch_parts r)

    pub with_else : (w d : Word) → w ≡ get_or words (get_or targets at 0) d → w ≡ Else → IfElseChecks words targets at to role counters one two answer (get_or targets at 0)
    with_else w d e h = ⊎_elim (λ p. absurd (let other = read_is words _ End w d p.ending e in cc)) (λ p. p) (branch_parts r)

    pub without_else : (w d : Word) → w ≡ get_or words (get_or targets at 0) d → (w ≡ Else → ⊥) → IfChecks words targets at to role counters one two answer (get_or targets at 0)
    without_else w d e h = ⊎_elim (λ p. p) (λ p. absurd (h (read_is words _ Else w d p.parting e))) (branch_parts r)

-- nothing is left
pub at_end : (words : List Word) (targets : List ℕ) (at to : ℕ) (role : Role) (counters : List Bool) (ivs : List Interval) (answer : CheckAnswer) → to ≤ at → Checks words targets at to role counters ivs answer → answer ≡ Ok ivs
at_end words targets at to role counters ivs answer past r = ended r.0 r.1 r.2
  where
    ended : (tree : Tree) → IsBlockAt words targets at to [] tree → bounds role counters at tree ivs ≡ answer → answer ≡ Ok ivs
    ended Stop h e = sym e
    ended tree h e = absurd (omega (arith, h.ends))

pub at_same : (words : List Word) (targets : List ℕ) (at to : ℕ) (role : Role) (counters : List Bool) (ivs js : List Interval) (answer : CheckAnswer) → ivs ≡ js → Checks words targets at to role counters js answer → Checks words targets at to role counters ivs answer
at_same words targets at to role counters ivs js answer e r = subst (λ x. Checks words targets at to role counters x answer) (sym e) r
