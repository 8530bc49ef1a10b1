-- What is left of a check at a FOR.
use Rattle.std.proofs.Common.{◌≡◌, ℕ, suc, ◌+◌, ◌-◌, ◌<◌, ◌≤◌, Bool, true, false, not, List, [], ◌∷◌, ◌++◌, map, length, length-append, get_or, set, take, drop, refl, sym, ap, ◌∙◌, subst, arith, append_assoc}
use Rattle.std.specs.Prelude.{slice_get, Some, Result, Ok, Err}
use Rattle.std.specs.List.{list_any}
use Rattle.std.proofs.Math.Seq.{drop-cons}
use Rattle.udf_code.specs.declared.word.Word.{Word}
use Rattle.udf_code.specs.declared.word.Word.TheVariants.{Else, End, For}
use Rattle.udf_code.specs.Words.{IsPlain, word_writes}
use Rattle.udf_code.specs.Tree.{Claim, Tree, Stop, Plain, If, IfElse, Loop, if_word, keep_word, words_of, IsTree, writes}
use Rattle.udf_verify.specs.declared.fault.Role.{Role}
use Rattle.udf_verify.specs.declared.fault.FaultKind.TheVariants as kind
use Rattle.udf_verify.specs.declared.fault.VerifyFault.{VerifyFault}
use Rattle.udf_verify.specs.Intervals.{Interval, between, widen}
use Rattle.udf_verify.specs.Bounds.{◌>>=◌, demand, placed, in_loop, size, bounds, claims_row, are_kept, claimed, no_register}
use Rattle.udf_verify.specs.Layout.{AfterClaims, Stands, IsBlockAt}
use Rattle.udf_verify.specs.Checks.{CheckAnswer, Checks}
use Rattle.udf_verify.proofs.Widening.{widen_same}
use Rattle.udf_verify.proofs.Laid.{some_is, within_list, read_is, size-Loop, size-If, size-IfElse}
use Rattle.std.proofs.lemmas.List.{length-map}
use Rattle.udf_verify.proofs.Claimed.{split_claims}
use Rattle.udf_verify.proofs.Checking.{first_ok, first_err, for_if}

-- a word that stands in a list is in front of what is dropped to it
front : (words : List Word) (at : ℕ) (w : Word) → slice_get words at ≡ Some w → drop at words ≡ w ∷ drop (at + 1) words
front words at w h =
    let one : suc at ≡ at + 1 = omega arith in
    drop-cons words at w (within_list words at w h) ∙ ap (λ x. x ∷ drop (suc at) words) (read_is words at w (get_or words at w) w h refl) ∙ ap (λ n. w ∷ drop n words) one

claims_from : (words : List Word) (P : ℕ → Type 0) (claims : List Claim) (at : ℕ) → AfterClaims P words at claims → (drop at words ≡ map keep_word claims ++ drop (at + length claims) words) × P (at + length claims)
claims_from words P [] at h = let z : at ≡ at + 0 = omega arith in (ap (λ n. drop n words) z, subst P z h)
claims_from words P (claim ∷ claims) at h =
    let ih = claims_from words P claims (at + 1) h.1 in
    let z : at + 1 + length claims ≡ at + length (claim ∷ claims) = omega arith in
    (front words at (keep_word claim) h.0 ∙ ap (λ l. keep_word claim ∷ l) (ih.0 ∙ ap (λ n. map keep_word claims ++ drop n words) z), subst P z ih.1)

-- the words of a block, from where they stand
words_from : (words : List Word) (targets : List ℕ) (tree : Tree) (at : ℕ) → Stands words targets at tree → drop at words ≡ words_of tree ++ drop (at + size tree) words
words_from words targets Stop at h = let z : at ≡ at + 0 = omega arith in ap (λ n. drop n words) z
words_from words targets (Plain word rest) at h =
    let z : at + 1 + size rest ≡ at + size (Plain word rest) = omega arith in
    front words at word h.0 ∙ ap (λ l. word ∷ l) (words_from words targets rest (at + 1) h.1 ∙ ap (λ n. words_of rest ++ drop n words) z)
words_from words targets (If test a b first rest) at h =
    let z : at + 1 + size first + 1 + size rest ≡ at + size (If test a b first rest) = omega (arith, size-If test a b first rest) in
    front words at (if_word test a b) h.0 ∙ ap (λ l. if_word test a b ∷ l)
    (words_from words targets first (at + 1) h.2
    ∙ ap (λ l. words_of first ++ l) (front words (at + 1 + size first) End h.3 ∙ ap (λ l. End ∷ l) (words_from words targets rest (at + 1 + size first + 1) h.4 ∙ ap (λ n. words_of rest ++ drop n words) z))
    ∙ sym (append_assoc (words_of first) (End ∷ words_of rest) _))
words_from words targets (IfElse test a b first other rest) at h =
    let z : at + 1 + size first + 1 + size other + 1 + size rest ≡ at + size (IfElse test a b first other rest) = omega (arith, size-IfElse test a b first other rest) in
    front words at (if_word test a b) h.0 ∙ ap (λ l. if_word test a b ∷ l)
    (words_from words targets first (at + 1) h.2
    ∙ ap (λ l. words_of first ++ l) (front words (at + 1 + size first) Else h.3 ∙ ap (λ l. Else ∷ l)
    (words_from words targets other (at + 1 + size first + 1) h.5
    ∙ ap (λ l. words_of other ++ l) (front words (at + 1 + size first + 1 + size other) End h.6 ∙ ap (λ l. End ∷ l) (words_from words targets rest (at + 1 + size first + 1 + size other + 1) h.7 ∙ ap (λ n. words_of rest ++ drop n words) z))
    ∙ sym (append_assoc (words_of other) (End ∷ words_of rest) _)))
    ∙ sym (append_assoc (words_of first) (Else ∷ (words_of other ++ (End ∷ words_of rest))) _))
words_from words targets (Loop a n claims body rest) at h =
    let z : at + 1 + length claims + size body + 1 + size rest ≡ at + size (Loop a n claims body rest) = omega (arith, size-Loop a n claims body rest) in
    let k = claims_from words (λ k. Stands words targets k body) claims (at + 1) h.2 in
    front words at (For a n) h.0 ∙ ap (λ l. For a n ∷ l)
    (k.0
    ∙ ap (λ l. map keep_word claims ++ l) (words_from words targets body (at + 1 + length claims) k.1
    ∙ ap (λ l. words_of body ++ l) (front words (at + 1 + length claims + size body) End h.3 ∙ ap (λ l. End ∷ l) (words_from words targets rest (at + 1 + length claims + size body + 1) h.4 ∙ ap (λ n. words_of rest ++ drop n words) z))
    ∙ sym (append_assoc (words_of body) (End ∷ words_of rest) _))
    ∙ sym (append_assoc (map keep_word claims) (words_of body ++ (End ∷ words_of rest)) _))

take_all : (xs ys : List Word) → take (length xs) (xs ++ ys) ≡ xs
take_all [] ys = refl
take_all (x ∷ xs) ys = ap (λ l. x ∷ l) (take_all xs ys)

-- the words between a FOR and its END
inside_is : (words : List Word) (targets : List ℕ) (claims : List Claim) (body : Tree) (at : ℕ) → AfterClaims (λ k. Stands words targets k body) words at claims → take (length claims + size body) (drop at words) ≡ map keep_word claims ++ words_of body
inside_is words targets claims body at h =
    let k = claims_from words (λ k. Stands words targets k body) claims at h in
    let next = drop (at + length claims + size body) words in
    let inner = map keep_word claims ++ words_of body in
    let len : length claims + size body ≡ length inner = omega (arith, length-append (map keep_word claims) (words_of body), length-map claims keep_word) in
    ap (λ l. take (length claims + size body) l) (k.0 ∙ ap (λ l. map keep_word claims ++ l) (words_from words targets body (at + length claims) k.1) ∙ sym (append_assoc (map keep_word claims) (words_of body) next))
    ∙ ap (λ n. take n (inner ++ next)) len ∙ take_all inner next

-- a FOR
pub record LoopChecks (words : List Word) (targets : List ℕ) (at to : ℕ) (role : Role) (counters : List Bool) (ivs : List Interval) (answer : CheckAnswer) (a n close : ℕ) : Type 0 where
  pub readable : at < length targets
  pub within : close < length words
  pub short : length words ≤ 127
  pub busy : get_or counters a false ≡ true → answer ≡ Err (record { at = at; kind = kind.Counter })
  pub claims : List Claim
  pub body : Tree
  pub plain : IsTree body
  pub closes : at + 1 + length claims + size body ≡ close
  pub after : at < close
  pub before : close < to
  pub inside : take (close - (at + 1)) (drop (at + 1) words) ≡ map keep_word claims ++ words_of body
  pub turned : CheckAnswer
  pub inner : Checks words targets (at + 1 + length claims) close role (set counters a true) (in_loop a (between 0 (n - 1)) claims body ivs) turned
  pub claim_err : get_or counters a false ≡ false → (fault : VerifyFault) → claims_row (at + 1) (set no_register a true) claims ivs ≡ Err fault → answer ≡ Err fault
  pub err : get_or counters a false ≡ false → claims_row (at + 1) (set no_register a true) claims ivs ≡ Ok tt → (fault : VerifyFault) → turned ≡ Err fault → answer ≡ Err fault
  pub unkept : get_or counters a false ≡ false → claims_row (at + 1) (set no_register a true) claims ivs ≡ Ok tt → (x : List Interval) → turned ≡ Ok x → are_kept claims x ≡ false → answer ≡ Err (record { at = close; kind = kind.Keep })
  pub ok : get_or counters a false ≡ false → claims_row (at + 1) (set no_register a true) claims ivs ≡ Ok tt → (x : List Interval) → turned ≡ Ok x → are_kept claims x ≡ true → Checks words targets (close + 1) to role counters (in_loop a (between (n - 1) (n - 1)) claims body ivs) answer

module _ (words : List Word) (targets : List ℕ) (at to : ℕ) (role : Role) (counters : List Bool) (ivs : List Interval) (answer : CheckAnswer) (more : at < to) where
  module _ (a n : ℕ) (claims : List Claim) (body rest : Tree) (h : IsBlockAt words targets at to [] (Loop a n claims body rest)) (e : bounds role counters at (Loop a n claims body rest) ivs ≡ answer) where
    abbrev close : ℕ
    close = at + 1 + length claims + size body

    abbrev gate : Bool → Result (Unit {0}) VerifyFault
    gate b = placed at (demand (not b) kind.Counter (tt {0}))

    abbrev entry : Result (Unit {0}) VerifyFault
    entry = claims_row (at + 1) (set no_register a true) claims ivs

    abbrev inside : CheckAnswer
    inside = bounds role (set counters a true) (at + 1 + length claims) body (in_loop a (between 0 (n - 1)) claims body ivs)

    abbrev keeping : Bool → Result (Unit {0}) VerifyFault
    keeping b = placed close (demand b kind.Keep (tt {0}))

    abbrev outside : Unit {0} → CheckAnswer
    outside u = bounds role counters (close + 1) rest (in_loop a (between (n - 1) (n - 1)) claims body ivs)

    abbrev at_end_of_turn : List Interval → CheckAnswer
    at_end_of_turn x = keeping (are_kept claims x) >>= outside

    abbrev behind_claims : Unit {0} → CheckAnswer
    behind_claims u = inside >>= at_end_of_turn

    abbrev behind_gate : Unit {0} → CheckAnswer
    behind_gate u = entry >>= behind_claims

    open' : get_or counters a false ≡ false → behind_gate (tt {0}) ≡ answer
    open' p = first_ok (gate (get_or counters a false)) behind_gate (tt {0}) answer e (ap gate p)

    entered : get_or counters a false ≡ false → entry ≡ Ok tt → behind_claims (tt {0}) ≡ answer
    entered p q = first_ok entry behind_claims (tt {0}) answer (open' p) q

    turned_ok : get_or counters a false ≡ false → entry ≡ Ok tt → (x : List Interval) → inside ≡ Ok x → at_end_of_turn x ≡ answer
    turned_ok p q x k = first_ok inside at_end_of_turn x answer (entered p q) k

    loop_here : LoopChecks words targets at to role counters ivs answer a n close
    loop_here =
        let len = size-Loop a n claims body rest in
        let k = claims_from words (λ k. Stands words targets k body) claims (at + 1) h.stands.2 in
        record {
          readable = let w = within_list words at _ h.stands.0 in omega (arith, h.even);
          within = within_list words close End h.stands.3;
          short = h.short;
          busy = λ p. first_err (gate (get_or counters a false)) behind_gate (record { at = at; kind = kind.Counter }) answer e (ap gate p);
          claims = claims;
          body = body;
          plain = h.plain.0;
          closes = refl;
          after = omega arith;
          before = omega (arith, h.ends);
          inside = let z : close - (at + 1) ≡ length claims + size body = omega arith in ap (λ m. take m (drop (at + 1) words)) z ∙ inside_is words targets claims body (at + 1) h.stands.2;
          turned = inside;
          inner = (body, record { even = h.even; short = h.short; plain = h.plain.0; stands = k.1; ends = omega arith }, refl);
          claim_err = λ p fault q. first_err entry behind_claims fault answer (open' p) q;
          err = λ p q fault k. first_err inside at_end_of_turn fault answer (entered p q) k;
          unkept = λ p q x k l. first_err (keeping (are_kept claims x)) outside (record { at = close; kind = kind.Keep }) answer (turned_ok p q x k) (ap keeping l);
          ok = λ p q x k l. (rest, record { even = h.even; short = h.short; plain = h.plain.1; stands = h.stands.4; ends = omega (arith, h.ends) }, first_ok (keeping (are_kept claims x)) outside (tt {0}) answer (turned_ok p q x k) (ap keeping l));
        }

  loop_by : (a n : ℕ) → slice_get words at ≡ Some (For a n) → (tree : Tree) → IsBlockAt words targets at to [] tree → bounds role counters at tree ivs ≡ answer → LoopChecks words targets at to role counters ivs answer a n (get_or targets at 0)
  loop_by a n g Stop h e = absurd (omega (arith, h.ends))
  loop_by a n g (Plain word rest) h e = absurd (let same : word ≡ For a n = some_is (sym h.stands.0 ∙ g) in subst IsPlain same h.plain.0)
  loop_by a n g (If test c d first rest) h e = absurd (for_if test a n c d (some_is (sym g ∙ h.stands.0)))
  loop_by a n g (IfElse test c d first other rest) h e = absurd (for_if test a n c d (some_is (sym g ∙ h.stands.0)))
  loop_by a n g (Loop c k claims body rest) h e =
      let same : For c k ≡ For a n = some_is (sym h.stands.0 ∙ g) in
      let p : c ≡ a = cc in
      let q : k ≡ n = cc in
      subst (λ x. LoopChecks words targets at to role counters ivs answer a n x) (sym h.stands.1)
      (subst (λ x. LoopChecks words targets at to role counters ivs answer a x (at + 1 + length claims + size body)) q
      (subst (λ x. LoopChecks words targets at to role counters ivs answer x k (at + 1 + length claims + size body)) p (loop_here c k claims body rest h e)))

  pub at_for : (a n : ℕ) → slice_get words at ≡ Some (For a n) → Checks words targets at to role counters ivs answer → LoopChecks words targets at to role counters ivs answer a n (get_or targets at 0)
  at_for a n g r = loop_by a n g r.0 r.1 r.2

-- the intervals in a loop, as the code makes them
pub in_loop_is : (written : List Bool) (claims : List Claim) (body : Tree) (ivs forgotten held : List Interval) (a : ℕ) → length ivs ≡ 16 → ((r : ℕ) → r < 16 → get_or written r false ≡ list_any (word_writes r) (words_of body)) → forgotten ≡ widen (λ r. get_or written r false) 0 ivs → held ≡ claimed claims forgotten → (v counter : Interval) → v ≡ counter → set held a v ≡ in_loop a counter claims body ivs
in_loop_is written claims body ivs forgotten held a len w f k v counter e =
    ap (λ x. set held a x) e
    ∙ ap (λ x. set x a counter) (k ∙ ap (λ x. claimed claims x) (f ∙ widen_same (λ r. get_or written r false) (writes body) 0 ivs (λ r h. w r (omega arith))))

-- a loop's words, parted where its claims end
pub record IsParted (front back : List Word) (of : List Claim) (within : Tree) : Type 0 where
  pub claims : front ≡ map keep_word of
  pub body : back ≡ words_of within
  pub count : length front ≡ length of

pub parted : (inside front back : List Word) (count : ℕ) (claims : List Claim) (body : Tree) → inside ≡ map keep_word claims ++ words_of body → count ≡ length claims → front ≡ take count inside → back ≡ drop count inside → IsParted front back claims body
parted inside front back count claims body e n f b =
    let s = split_claims claims (words_of body) in
    let one = f ∙ ap (λ k. take k inside) n ∙ ap (λ l. take (length claims) l) e ∙ s.0 in
    record {
      claims = one;
      body = b ∙ ap (λ k. drop k inside) n ∙ ap (λ l. drop (length claims) l) e ∙ s.1;
      count = ap length one ∙ length-map claims keep_word;
    }

-- the check at the same place, with the same counters and intervals
pub checks_same : (words : List Word) (targets : List ℕ) (from start to : ℕ) (role : Role) (counters busy : List Bool) (ivs js : List Interval) (answer : CheckAnswer) → from ≡ start → counters ≡ busy → ivs ≡ js → Checks words targets start to role busy js answer → Checks words targets from to role counters ivs answer
checks_same words targets from start to role counters busy ivs js answer p b e r =
    subst (λ f. Checks words targets f to role counters ivs answer) (sym p)
    (subst (λ x. Checks words targets start to role x ivs answer) (sym b)
    (subst (λ x. Checks words targets start to role busy x answer) (sym e) r))

-- A FOR before its first turn: the words of its claims, the counters in it, its intervals without the counter's, and those of the turn
pub record FirstTurn (words : List Word) (targets : List ℕ) (at to : ℕ) (role : Role) (counters : List Bool) (ivs : List Interval) (answer : CheckAnswer) (a n close : ℕ)
    (front : List Word) (busy : List Bool) (held_ivs turn : List Interval) : Type 0 where
  pub loop : LoopChecks words targets at to role counters ivs answer a n close
  pub claims : front ≡ map keep_word loop.claims
  pub count : length front ≡ length loop.claims
  pub free : get_or counters a false ≡ false
  pub held : claims_row (at + 1) (set no_register a true) loop.claims ivs ≡ Ok tt
  pub looped : (v counter : Interval) → v ≡ counter → set held_ivs a v ≡ in_loop a counter loop.claims loop.body ivs
  pub inner : Checks words targets (at + 1 + length front) close role busy turn loop.turned
