-- Runs of programs whose loops read words and emit pairs.
use Rattle.std.proofs.Common.{◌≡◌, ℕ, zero, suc, ◌+◌, ◌-◌, ◌*◌, ◌≤◌, ◌<◌, ◌∙◌, ap, sym, refl, Bool, true, List, [], ◌∷◌, ◌++◌, map, length, get_or, drop, append_assoc, length-append, lit<, arith}
use Rattle.std.specs.Prelude.{Option, Some, None, filter_map, flat_map}
use Rattle.std.specs.List.{range_with_len}
use Rattle.std.specs.Option.{option_to_list}
use Rattle.std.proofs.lemmas.Grind.{flat_map-append}
use Rattle.std.proofs.lemmas.List.{append-nil, map-append, get_or-take, get_or-drop}
use Rattle.udf_code.specs.declared.word.Word.{Word}
use Rattle.udf_code.specs.Tree.{Tree, Claim, Stop, Plain, Loop}
use Rattle.udf_run.specs.declared.pair.Pair.{Pair}
use Rattle.udf_run.specs.Meaning.{Machine, machine, write_register, write_if, number_at, step, turns, meaning, ◌>>=◌}
use Rattle.xn_model.specs.Root.{word_at}
use Rattle.templates.specs.Meaning.{numbers_of_pair, pairs_after}
use Rattle.templates.proofs.Ranges.{range-more}

-- a load is the number at its place
pub number_is_word : (m : List ℕ) (at : ℕ) → number_at 4 m at ≡ word_at m at
unfolding word_at
number_is_word m at =
    let second : at + 1 + 1 ≡ at + 2 = omega arith in
    let third : at + 1 + 1 + 1 ≡ at + 3 = omega arith in
    let first : at + 0 ≡ at = omega arith in
    let a = get_or-take 4 (drop at m) 0 0 (lit< tt) ∙ (get_or-drop at m 0 0 ∙ ap (λ i. get_or m i 0) first) in
    let b = get_or-take 4 (drop at m) 1 0 (lit< tt) ∙ get_or-drop at m 1 0 in
    let c = get_or-take 4 (drop at m) 2 0 (lit< tt) ∙ (get_or-drop at m 2 0 ∙ ap (λ i. get_or m i 0) (sym second)) in
    let d = get_or-take 4 (drop at m) 3 0 (lit< tt) ∙ (get_or-drop at m 3 0 ∙ ap (λ i. get_or m i 0) (sym third)) in
    omega arith

-- Steps

pub written : (fine : Bool) (m : Machine) (r v : ℕ) → fine ≡ true → write_if fine m r v ≡ Some (write_register m r v)
written fine m r v h = ap (λ b. write_if b m r v) h

module _ (block : List ℕ) where
  pub plain : (word : Word) (rest : Tree) (m after : Machine) → step word block m ≡ Some after → meaning (Plain word rest) block m ≡ meaning rest block after
  plain word rest m after h = ap (λ o. o >>= meaning rest block) h

  pub looped : (a n : ℕ) (claims : List Claim) (body rest : Tree) (m after : Machine) → turns (meaning body block) a n m ≡ Some after → meaning (Loop a n claims body rest) block m ≡ meaning rest block (write_register after a (n - 1))
  looped a n claims body rest m after h = ap (λ o. o >>= (λ end. meaning rest block (write_register end a (n - 1)))) h

-- Turns of a loop: each leaves the registers in one form, and adds the pairs of its number

pub record Turned {R : Type 0} (registers : R → List ℕ) (o : Option Machine) (pairs : List (ℕ × ℕ)) (most : ℕ) : Type 0 where
  pub at : R
  pub es : List Pair
  pub ends : o ≡ Some (machine (registers at) es)
  pub has : map numbers_of_pair es ≡ pairs
  pub few : length es ≤ most

-- a turn that ends with at most one pair more
pub turn_ends : {R : Type 0} (registers : R → List ℕ) (o : Option Machine) (last : R) (es new : List Pair) (pairs : List (ℕ × ℕ)) (most : ℕ) → length new ≤ 1 → length es < most →
    o ≡ Some (machine (registers last) (es ++ new)) → map numbers_of_pair es ++ map numbers_of_pair new ≡ pairs → Turned registers o pairs most
turn_ends registers o last es new pairs most one few ends has = record {
  at = last;
  es = es ++ new;
  ends = ends;
  has = map-append numbers_of_pair es new ∙ has;
  few = let more = length-append es new in omega arith;
}

pub more_pairs : (f : ℕ → List (ℕ × ℕ)) (n : ℕ) → flat_map f (range_with_len 0 (suc n)) ≡ flat_map f (range_with_len 0 n) ++ f n
more_pairs f n =
    let z : 0 + n ≡ n = omega arith in
    ap (flat_map f) (range-more 0 n) ∙ (flat_map-append f (range_with_len 0 n) ((0 + n) ∷ [])
    ∙ ap (λ l. flat_map f (range_with_len 0 n) ++ l) (append-nil (f (0 + n)) ∙ ap f z))

module _ {R : Type 0} (registers : R → List ℕ) (body : Machine → Option Machine) (a : ℕ) (f : ℕ → List (ℕ × ℕ)) (base each limit : ℕ)
    (turn : (k : ℕ) (r : R) (es : List Pair) → k < limit → length es ≤ base + each * k →
    Turned registers (body (write_register (machine (registers r) es) a k)) (map numbers_of_pair es ++ f k) (base + each * suc k))
    (r0 : R) (before : List Pair) (room : length before ≤ base)
  where
    next : (n : ℕ) → n < limit → Turned registers (turns body a n (machine (registers r0) before)) (map numbers_of_pair before ++ flat_map f (range_with_len 0 n)) (base + each * n) →
        Turned registers (turns body a (suc n) (machine (registers r0) before)) (map numbers_of_pair before ++ flat_map f (range_with_len 0 (suc n))) (base + each * suc n)
    next n lt p =
        let one = turn n p.at p.es lt p.few in
        record {
          at = one.at;
          es = one.es;
          ends = ap (λ o. o >>= (λ m. body (write_register m a n))) p.ends ∙ one.ends;
          has = one.has ∙ (ap (λ l. l ++ f n) p.has ∙ (append_assoc (map numbers_of_pair before) (flat_map f (range_with_len 0 n)) (f n) ∙ ap (λ l. map numbers_of_pair before ++ l) (sym (more_pairs f n))));
          few = one.few;
        }

    pub all_turns : (n : ℕ) → n ≤ limit → Turned registers (turns body a n (machine (registers r0) before)) (map numbers_of_pair before ++ flat_map f (range_with_len 0 n)) (base + each * n)
    all_turns zero h = record { at = r0; es = before; ends = refl; has = sym (append-nil (map numbers_of_pair before)); few = omega arith }
    all_turns (suc n) h = next n (omega arith) (all_turns n (omega arith))

-- the pairs of words, one by one
pub one_by_one : (g : ℕ → Option (ℕ × ℕ)) (xs : List ℕ) → flat_map (λ i. option_to_list (g i)) xs ≡ filter_map g xs
one_by_one g [] = refl
one_by_one g (x ∷ xs) = by (g x) refl (one_by_one g xs)
  where
    by : (o : Option (ℕ × ℕ)) → g x ≡ o → flat_map (λ i. option_to_list (g i)) xs ≡ filter_map g xs →
        flat_map (λ i. option_to_list (g i)) (x ∷ xs) ≡ filter_map g (x ∷ xs)
    by None e rest = rw e rest
    by (Some y) e rest = rw e (ap (λ l. y ∷ l) rest)

-- a program that is such a loop, from its first turn on
pub loop_pairs : {R : Type 0} (registers : R → List ℕ) (m : List ℕ) (body : Tree) (a : ℕ) (f : ℕ → List (ℕ × ℕ)) (each limit : ℕ)
    (turn : (k : ℕ) (r : R) (es : List Pair) → k < limit → length es ≤ 0 + each * k →
    Turned registers (meaning body m (write_register (machine (registers r) es) a k)) (map numbers_of_pair es ++ f k) (0 + each * suc k))
    (start : R) (n : ℕ) → n ≡ limit → pairs_after (meaning (Loop a n [] body Stop) m (machine (registers start) [])) ≡ flat_map f (range_with_len 0 limit)
loop_pairs registers m body a f each limit turn start n all =
    let end = all_turns registers (meaning body m) a f 0 each limit turn start [] (omega arith) n (omega arith) in
    ap pairs_after (looped m a n [] body Stop (machine (registers start) []) (machine (registers end.at) end.es) end.ends) ∙ (end.has ∙ ap (λ k. flat_map f (range_with_len 0 k)) all)
