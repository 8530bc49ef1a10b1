-- The word at which words stop to be the beginning of a program.
use Rattle.std.proofs.Common.{◌≡◌, ℕ, ◌+◌, ◌<◌, Bool, true, false, cond, ltb, List, [], ◌∷◌, ◌++◌, length, take, refl, sym, ap, ◌∙◌, subst, arith, append_assoc, length-append}
use Rattle.std.specs.Prelude.{Result, Ok, Err, IsOk, Some}
use Rattle.std.proofs.Common.{append-nil}
use Rattle.std.proofs.Math.Seq.{take-append_seam}
use Rattle.udf_code.specs.declared.word.Word.{Word}
use Rattle.udf_code.specs.declared.word.Word.TheVariants.{IfLess, IfEqual, Else, End, For, Keep}
use Rattle.udf_code.specs.declared.fault.CodeFault.{CodeFault}
use Rattle.udf_code.specs.declared.fault.CodeFault.TheVariants.{Unmatched, MisplacedKeep, TooDeep, TooLong}
use Rattle.udf_code.specs.declared.opening.Opening.{Opening}
use Rattle.udf_code.specs.declared.opening.Opening.TheVariants.{First, Other, Turn}
use Rattle.udf_code.specs.Faults.{fault_place}
use Rattle.udf_code.specs.Structure.{Place, place, opened, parted, closed, after_word, all_closed, structure_from, structure_of, GoesOn, ◌>>=◌}

-- Each fault is of the word that brings it

placed_at : (at : ℕ) (fault : CodeFault) (f : CodeFault) → fault_place f ≡ Some at → f ≡ fault → fault_place fault ≡ Some at
placed_at at fault f h e = ap fault_place (sym e) ∙ h

opened_at : (at : ℕ) (blocks : List Opening) (o : Opening) (may : Bool) (fault : CodeFault) → opened at blocks o may ≡ Err fault → fault_place fault ≡ Some at
opened_at at blocks o may fault h = by (ltb (length blocks) 8) h
  where
    by : (t : Bool) → cond t (Ok (place (o ∷ blocks) may)) (Err (TooDeep at)) ≡ Err fault → fault_place fault ≡ Some at
    by true h = absurd (cc)
    by false h = placed_at at fault (TooDeep at) refl (cc)

parted_at : (at : ℕ) (blocks : List Opening) (fault : CodeFault) → parted at blocks ≡ Err fault → fault_place fault ≡ Some at
parted_at at [] fault h = placed_at at fault (Unmatched at) refl (cc)
parted_at at (First ∷ blocks) fault h = absurd (cc)
parted_at at (Other ∷ blocks) fault h = placed_at at fault (Unmatched at) refl (cc)
parted_at at (Turn ∷ blocks) fault h = placed_at at fault (Unmatched at) refl (cc)

closed_at : (at : ℕ) (blocks : List Opening) (fault : CodeFault) → closed at blocks ≡ Err fault → fault_place fault ≡ Some at
closed_at at [] fault h = placed_at at fault (Unmatched at) refl (cc)
closed_at at (o ∷ blocks) fault h = absurd (cc)

kept_at : (at : ℕ) (p : Place) (t : Bool) (fault : CodeFault) → cond t (Ok p) (Err (MisplacedKeep at)) ≡ Err fault → fault_place fault ≡ Some at
kept_at at p true fault h = absurd (cc)
kept_at at p false fault h = placed_at at fault (MisplacedKeep at) refl (cc)

word_at : (at : ℕ) (word : Word) (p : Place) (fault : CodeFault) → after_word at word p ≡ Err fault → fault_place fault ≡ Some at
word_at at (IfLess a b) p fault h = opened_at at p.blocks First false fault h
word_at at (IfEqual a b) p fault h = opened_at at p.blocks First false fault h
word_at at Else p fault h = parted_at at p.blocks fault h
word_at at End p fault h = closed_at at p.blocks fault h
word_at at (For a n) p fault h = opened_at at p.blocks Turn true fault h
word_at at (Keep a n) p fault h = kept_at at p p.may_claim fault h
word_at at word p fault h = absurd (cc)

end_at : (at : ℕ) (blocks : List Opening) (fault : CodeFault) → all_closed at blocks ≡ Err fault → fault_place fault ≡ Some at
end_at at [] fault h = absurd (cc)
end_at at (o ∷ blocks) fault h = placed_at at fault (Unmatched at) refl (cc)

-- What is open can be closed

abbrev closers : List Opening → List Word
closers [] = []
closers (o ∷ blocks) = End ∷ closers blocks

close_all : (at : ℕ) (blocks : List Opening) (may : Bool) → IsOk (structure_from at (closers blocks) (place blocks may))
close_all at [] may = refl
close_all at (o ∷ blocks) may = close_all (at + 1) blocks false

-- Where words stop

-- the word that brings a fault, or the end
abbrev Fails : ℕ → List Word → Place → CodeFault → Type 0
Fails at [] p fault = all_closed at p.blocks ≡ Err fault
Fails at (word ∷ words) p fault = after_word at word p ≡ Err fault

record Stops (at : ℕ) (words : List Word) (p : Place) (fault : CodeFault) : Type 0 where
  before : List Word
  rest : List Word
  split : words ≡ before ++ rest
  here : ℕ
  counted : here ≡ at + length before
  there : Place
  reached : (more : List Word) → structure_from at (before ++ more) p ≡ structure_from here more there
  fails : Fails here rest there fault

stops : (at : ℕ) (words : List Word) (p : Place) (fault : CodeFault) → structure_from at words p ≡ Err fault → Stops at words p fault
stops at [] p fault h = record { before = []; rest = []; split = refl; here = at; counted = omega arith; there = p; reached = λ more. refl; fails = h }
stops at (word ∷ words) p fault h = by (λ q e. stops (at + 1) words q fault e) (after_word at word p) refl
  where
    by : ((q : Place) → structure_from (at + 1) words q ≡ Err fault → Stops (at + 1) words q fault) → (r : Result Place CodeFault) → after_word at word p ≡ r → Stops at (word ∷ words) p fault
    by later (Err f) e =
        let bad = sym (ap (λ r. r >>= structure_from (at + 1) words) e) ∙ h in
        let same : f ≡ fault = cc in
        record { before = []; rest = word ∷ words; split = refl; here = at; counted = omega arith; there = p; reached = λ more. refl; fails = e ∙ ap Err same }
    by later (Ok q) e =
        let s = later q (sym (ap (λ r. r >>= structure_from (at + 1) words) e) ∙ h) in
        record {
          before = word ∷ s.before;
          rest = s.rest;
          split = ap (λ l. word ∷ l) s.split;
          here = s.here;
          counted = omega (arith, s.counted);
          there = s.there;
          reached = λ more. ap (λ r. r >>= structure_from (at + 1) (s.before ++ more)) e ∙ s.reached more;
          fails = s.fails;
        }

fails_at : (at : ℕ) (words : List Word) (p : Place) (fault : CodeFault) → Fails at words p fault → fault_place fault ≡ Some at
fails_at at [] p fault h = end_at at p.blocks fault h
fails_at at (word ∷ words) p fault h = word_at at word p fault h

long_no_place : (words : List Word) (fault : CodeFault) (at : ℕ) → structure_of words ≡ Err fault → fault_place fault ≡ Some at → structure_from 0 words (place [] false) ≡ Err fault
long_no_place words fault at h g = by (ltb 127 (length words)) h
  where
    by : (t : Bool) → cond t (Err TooLong) (structure_from 0 words (place [] false)) ≡ Err fault → structure_from 0 words (place [] false) ≡ Err fault
    by true h = absurd (let e : TooLong ≡ fault = cc in let n = ap fault_place e ∙ g in cc)
    by false h = h

module _ (words : List Word) (fault : CodeFault) (at : ℕ) (h : structure_of words ≡ Err fault) (g : fault_place fault ≡ Some at) where
  s : Stops 0 words (place [] false) fault
  s = stops 0 words (place [] false) fault (long_no_place words fault at h g)

  some_is : (x y : ℕ) → Some x ≡ Some y → x ≡ y
  some_is x y e = cc

  placed : at ≡ length s.before
  placed = let e = some_is at s.here (sym g ∙ fails_at s.here s.rest s.there fault s.fails) in omega (arith, e, s.counted)

  begun : take at words ≡ s.before
  begun = ap (λ n. take n words) placed ∙ (ap (take (length s.before)) s.split ∙ take-append_seam s.before s.rest)

  pub some_go_on : GoesOn (take at words)
  some_go_on = subst GoesOn (sym begun) (closers s.there.blocks, subst IsOk (sym (s.reached (closers s.there.blocks))) (close_all s.here s.there.blocks s.there.may_claim))

  none_by : (rest : List Word) → words ≡ s.before ++ rest → Fails s.here rest s.there fault → at < length words → GoesOn (take (at + 1) words) → ⊥
  none_by [] split fails low on = absurd (let e = ap length (split ∙ append-nil s.before) in let p = placed in omega arith)
  none_by (word ∷ rest) split fails low on =
      let front : List Word = s.before ++ word ∷ [] in
      let parts : words ≡ front ++ rest = split ∙ sym (append_assoc s.before (word ∷ []) rest) in
      let long : at + 1 ≡ length front = let p = placed in let l = length-append s.before (word ∷ []) in omega arith in
      let are : take (at + 1) words ≡ front = ap (λ n. take n words) long ∙ (ap (take (length front)) parts ∙ take-append_seam front rest) in
      let on' : GoesOn front = subst GoesOn are on in
      let bad : structure_from 0 (front ++ on'.0) (place [] false) ≡ Err fault =
      ap (λ l. structure_from 0 l (place [] false)) (append_assoc s.before (word ∷ []) on'.0)
      ∙ (s.reached (word ∷ on'.0) ∙ ap (λ r. r >>= structure_from (s.here + 1) on'.0) fails) in
      absurd (let ok = subst IsOk bad on'.1 in cc)

  pub none_go_on : at < length words → GoesOn (take (at + 1) words) → ⊥
  none_go_on = none_by s.rest s.split s.fails
