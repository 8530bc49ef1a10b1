-- Lists of what visits saw: one behind another, and one more.
use Rattle.std.proofs.Common.{◌≡◌, ◌∙◌, ℕ, ◌+◌, ◌-◌, ◌<◌, ◌≤◌, List, [], ◌∷◌, ◌++◌, length, map, take, drop, get_or, Option, Some, None, Result, Ok, Err, IfOk, slice_get, refl, sym, ap, subst, arith}
use Rattle.std.specs.Prelude.{IsOk, OnOk}
use Rattle.std.proofs.lemmas.Bool.{false≢true}
use Rattle.std.proofs.lemmas.List.{append-nil, length-append, length-drop, length-map, drop_more, take_all, take-append-le, drop-append-le, map-append}
use Rattle.udf_run.specs.declared.pair.Pair.{Pair}
use Rattle.templates.specs.Meaning.{numbers_of_pair}
use Rattle.xn_model.specs.Types.{Types}
use Rattle.image_model.specs.Walk.{Named}
use Rattle.crash_check.specs.Parts.{part}
use Rattle.crash_check.specs.Sights.{sights, count_sum, AreSights}
use Rattle.crash_check.proofs.Parts.{part_cut, part_one}
use Rattle.crash_check.proofs.Walks.{Sees}

sum-append : (cs ds : List (Option ℕ)) → count_sum (cs ++ ds) ≡ count_sum cs + count_sum ds
sum-append [] ds = omega arith
sum-append (None ∷ cs) ds = sum-append cs ds
sum-append (Some n ∷ cs) ds = let e = sum-append cs ds in omega arith

pub length-sights : (ps : List Pair) (cs : List (Option ℕ)) → length (sights ps cs) ≡ length cs
length-sights ps [] = refl
length-sights ps (None ∷ cs) = let e = length-sights ps cs in omega arith
length-sights ps (Some n ∷ cs) = let e = length-sights (drop n ps) cs in omega arith

module _ (qs : List Pair) (ds : List (Option ℕ)) where
  none-before : (ps : List Pair) → 0 ≡ length ps → sights (ps ++ qs) ds ≡ sights qs ds
  none-before [] e = refl
  none-before (p ∷ ps) e = absurd (omega arith)

  sights-append : (cs : List (Option ℕ)) (ps : List Pair) → count_sum cs ≡ length ps → sights (ps ++ qs) (cs ++ ds) ≡ sights ps cs ++ sights qs ds
  sights-append [] ps e = none-before ps e
  sights-append (None ∷ cs) ps e = ap (λ l. None ∷ l) (sights-append cs ps e)
  sights-append (Some n ∷ cs) ps e =
      let within : n ≤ length ps = omega arith in
      let left : count_sum cs ≡ length (drop n ps) = let long = length-drop n ps in omega arith in
      (λ i. Some (map numbers_of_pair (take-append-le n ps qs within i)) ∷ sights (drop-append-le n ps qs within i) (cs ++ ds))
      ∙ ap (λ l. Some (map numbers_of_pair (take n ps)) ∷ l) (sights-append cs (drop n ps) left)

module _ (ps : List Pair) (cs : List (Option ℕ)) (xs : List (Option (List (ℕ × ℕ)))) (first : AreSights ps cs xs) where
  pub sights-joined : (qs : List Pair) (ds : List (Option ℕ)) (ys : List (Option (List (ℕ × ℕ)))) → AreSights qs ds ys → AreSights (ps ++ qs) (cs ++ ds) (xs ++ ys)
  sights-joined qs ds ys second = record {
    each = sights-append qs ds cs ps first.whole ∙ (λ i. first.each i ++ second.each i);
    whole = sum-append cs ds ∙ (λ i. first.whole i + second.whole i) ∙ sym (length-append ps qs);
  }

  module _ (x : Option (List (ℕ × ℕ))) where
    pub sights-none : None ≡ x → AreSights ps (cs ++ None ∷ []) (xs ++ x ∷ [])
    sights-none is = record {
      each = ap (λ l. sights l (cs ++ None ∷ [])) (sym (append-nil ps)) ∙ sights-append [] (None ∷ []) cs ps first.whole ∙ (λ i. first.each i ++ is i ∷ []);
      whole = sum-append cs (None ∷ []) ∙ (let e = first.whole in omega arith);
    }

    pub sights-some : (found : List Pair) (n : ℕ) → n ≡ length found → Some (map numbers_of_pair found) ≡ x → AreSights (ps ++ found) (cs ++ Some n ∷ []) (xs ++ x ∷ [])
    sights-some found n long is = sights-joined found (Some n ∷ []) (x ∷ []) (record {
      each = ap (λ l. Some (map numbers_of_pair l) ∷ []) (take_all n found (omega arith)) ∙ ap (λ y. y ∷ []) is;
      whole = omega arith;
    })

-- what parts show, one behind the other
module _ {X S E : Type 0} (pairs : S → List Pair) (counts : S → List (Option ℕ)) (f : X → Option (List (ℕ × ℕ))) (xs : List X) (from cut to : ℕ) (low : from ≤ cut) (high : cut ≤ to) where
  pub parts_joined : (r front back : Result S E) → IfOk r (λ l. IfOk front (λ a. IfOk back (λ b. pairs l ≡ pairs a ++ pairs b)))
      → IfOk r (λ l. IfOk front (λ a. IfOk back (λ b. counts l ≡ counts a ++ counts b))) → OnOk r (IsOk front × IsOk back)
      → IfOk front (λ a. AreSights (pairs a) (counts a) (map f (part xs from cut))) → IfOk back (λ b. AreSights (pairs b) (counts b) (map f (part xs cut to)))
      → IfOk r (λ l. AreSights (pairs l) (counts l) (map f (part xs from to)))
  parts_joined (Err e) front back ps cs both x y = tt
  parts_joined (Ok l) (Err e) back ps cs both x y = absurd (false≢true both.0)
  parts_joined (Ok l) (Ok a) (Err e) ps cs both x y = absurd (false≢true both.1)
  parts_joined (Ok l) (Ok a) (Ok b) ps cs both x y =
      let whole : map f (part xs from cut) ++ map f (part xs cut to) ≡ map f (part xs from to) =
      sym (map-append f (part xs from cut) (part xs cut to)) ∙ ap (map f) (part_cut xs from cut to low high) in
      rw (ps, cs) (rw (sym whole) (sights-joined (pairs a) (counts a) (map f (part xs from cut)) x (pairs b) (counts b) (map f (part xs cut to)) y))

-- and one more
pub part_more : {X : Type 0} (f : X → Option (List (ℕ × ℕ))) (xs : List X) (from k : ℕ) (x : X) (ps : List Pair) (cs : List (Option ℕ)) → from ≤ k → slice_get xs k ≡ Some x
    → AreSights ps cs (map f (part xs from k) ++ f x ∷ []) → AreSights ps cs (map f (part xs from (k + 1)))
part_more f xs from k x ps cs low here seen = subst (AreSights ps cs) (sym (map-append f (part xs from k) (x ∷ [])) ∙ ap (map f) (part_one xs from k x low here)) seen

-- a level has a count for each block that is not visited
pub length-level : {X : Type 0} (f : X → Option (List (ℕ × ℕ))) (ps : List Pair) (cs : List (Option ℕ)) (all : List X) (visited : ℕ) → sights ps cs ≡ map f (drop visited all) → length cs ≡ length all - visited
length-level f ps cs all visited e = sym (length-sights ps cs) ∙ ap length e ∙ length-map (drop visited all) f ∙ length-drop visited all

-- what the next block shows, and the blocks behind it
module _ (ps behind : List Pair) (cs : List (Option ℕ)) (i : ℕ) (d : Option ℕ) (lt : i < length cs) where
  next : drop i cs ≡ get_or cs i d ∷ drop (i + 1) cs
  next = drop_more cs i d lt

  pub sum-next : count_sum (drop i cs) ≡ length ps → ((others : List (Option ℕ)) → count_sum (get_or cs i d ∷ others) ≡ length ps → count_sum others ≡ length behind) → count_sum (drop (i + 1) cs) ≡ length behind
  sum-next whole left = left (drop (i + 1) cs) (sym (ap count_sum next) ∙ whole)

  pub sees-next : (T : Types) (blocks : List (List ℕ)) (named : List Named) (visited : ℕ) (sight : Option (List (ℕ × ℕ))) → Sees T blocks named visited (sights ps (drop i cs))
      → ((others : List (Option ℕ)) → sights ps (get_or cs i d ∷ others) ≡ sight ∷ sights behind others) → Sees T blocks named visited (sight ∷ sights behind (drop (i + 1) cs))
  sees-next T blocks named visited sight s seen = subst (Sees T blocks named visited) (ap (sights ps) next ∙ seen (drop (i + 1) cs)) s
