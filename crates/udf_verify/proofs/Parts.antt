-- Taking the verifier's definitions apart.
use Rattle.std.proofs.Common.{◌≡◌, ℕ, ◌+◌, Bool, true, false, cond, not, ◌&&◌, eqb, List, [], ◌∷◌, length, set, refl, sym, ap, ◌∙◌, subst, arith}
use Rattle.std.specs.Prelude.{Result, Ok, Err, ◌-◌, slice_index_or, slice_set}
use Rattle.std.proofs.Math.ListN.{length-set}
use Rattle.udf_code.specs.declared.word.Word.{Word}
use Rattle.udf_code.specs.declared.word.Word.TheVariants.{Set, Mov, Add, Sub, Mul, Div, Rem, And, Shr, Load1, Load2, Load4, Emit}
use Rattle.udf_code.specs.Tree.{Test, Claim, Tree, Stop, Plain, If, IfElse, Loop, writes}
use Rattle.udf_verify.specs.declared.fault.Role.{Role}
use Rattle.udf_verify.specs.declared.fault.FaultKind.{FaultKind}
use Rattle.udf_verify.specs.Intervals.{Interval}
use Rattle.udf_verify.specs.Intervals.{between, interval_of, merge, widen, first_a, first_b, other_a, other_b}
use Rattle.udf_verify.specs.declared.fault.FaultKind.TheVariants as kind
use Rattle.udf_verify.specs.Bounds.{◌>>=◌, demand, placed, plain_row, Split, with_two, split_row, claims_row, are_kept, claimed, in_loop, size, no_register, bounds}

pub ok_is : {A E : Type 0} {x y : A} → ◌≡◌ {A = Result A E} (Ok x) (Ok y) → x ≡ y
ok_is e = cc

pub demand_ok : {A : Type 0} (b : Bool) (k : FaultKind) (x y : A) → demand b k x ≡ Ok y → (b ≡ true) × (x ≡ y)
demand_ok true k x y h = (refl, ok_is h)
demand_ok false k x y h = absurd (cc)

pub bind_ok : {A B E : Type 0} (r : Result A E) (f : A → Result B E) (y : B) → (r >>= f) ≡ Ok y → (x : A) × (r ≡ Ok x) × (f x ≡ Ok y)
bind_ok (Ok x) f y h = (x, refl, h)
bind_ok (Err e) f y h = absurd (cc)

pub placed_ok : {A : Type 0} (at : ℕ) (r : Result A FaultKind) (x : A) → placed at r ≡ Ok x → r ≡ Ok x
placed_ok at (Ok y) x h = ap Ok (ok_is h)
placed_ok at (Err e) x h = absurd (cc)

pub unless_ok : {A : Type 0} (found : Bool) (k : FaultKind) (row : Result A FaultKind) (x : A) → cond found (Err k) row ≡ Ok x → row ≡ Ok x
unless_ok true k row x h = absurd (cc)
unless_ok false k row x h = h

pub and_true : (a c : Bool) → (a && c) ≡ true → (a ≡ true) × (c ≡ true)
and_true true c h = (refl, h)
and_true false c h = absurd (cc)

pub not_true : (a : Bool) → not a ≡ true → a ≡ false
not_true true h = absurd (cc)
not_true false h = refl

-- lengths

pub length-merge : (is js : List Interval) → length is ≡ length js → length (merge is js) ≡ length is
length-merge [] js e = refl
length-merge (i ∷ is) [] e = absurd (omega arith)
length-merge (i ∷ is) (j ∷ js) e = let ih = length-merge is js (omega arith) in omega arith

pub length-widen : (w : ℕ → Bool) (s : ℕ) (is : List Interval) → length (widen w s is) ≡ length is
length-widen w s [] = refl
length-widen w s (i ∷ is) = let ih = length-widen w (s + 1) is in omega arith

pub length-claimed : (claims : List Claim) (ivs : List Interval) → length (claimed claims ivs) ≡ length ivs
length-claimed [] ivs = refl
length-claimed (claim ∷ claims) ivs = length-claimed claims _ ∙ length-set ivs claim.register _

pub length-in_loop : (a : ℕ) (i : Interval) (claims : List Claim) (body : Tree) (ivs : List Interval) → length (in_loop a i claims body ivs) ≡ length ivs
length-in_loop a i claims body ivs =
    length-set (claimed claims (widen (writes body) 0 ivs)) a i ∙ length-claimed claims _ ∙ length-widen (writes body) 0 ivs

pub length-plain_row : (role : Role) (word : Word) (ivs after : List Interval) → plain_row role word ivs ≡ Ok after → length after ≡ length ivs
length-plain_row role (Set a n) ivs after h = subst (λ l. length l ≡ length ivs) (ok_is h) (length-set ivs a _)
length-plain_row role (Mov a b) ivs after h = subst (λ l. length l ≡ length ivs) (ok_is h) (length-set ivs a _)
length-plain_row role (Add a b c) ivs after h = subst (λ l. length l ≡ length ivs) (demand_ok _ _ _ _ h).1 (length-set ivs a _)
length-plain_row role (Sub a b c) ivs after h = subst (λ l. length l ≡ length ivs) (demand_ok _ _ _ _ h).1 (length-set ivs a _)
length-plain_row role (Mul a b c) ivs after h = subst (λ l. length l ≡ length ivs) (demand_ok _ _ _ _ h).1 (length-set ivs a _)
length-plain_row role (Div a b c) ivs after h = subst (λ l. length l ≡ length ivs) (demand_ok _ _ _ _ h).1 (length-set ivs a _)
length-plain_row role (Rem a b c) ivs after h = subst (λ l. length l ≡ length ivs) (demand_ok _ _ _ _ h).1 (length-set ivs a _)
length-plain_row role (And a b c) ivs after h = subst (λ l. length l ≡ length ivs) (ok_is h) (length-set ivs a _)
length-plain_row role (Shr a b k) ivs after h = subst (λ l. length l ≡ length ivs) (ok_is h) (length-set ivs a _)
length-plain_row role (Load1 a b) ivs after h = subst (λ l. length l ≡ length ivs) (demand_ok _ _ _ _ h).1 (length-set ivs a _)
length-plain_row role (Load2 a b) ivs after h = subst (λ l. length l ≡ length ivs) (demand_ok _ _ _ _ h).1 (length-set ivs a _)
length-plain_row role (Load4 a b) ivs after h = subst (λ l. length l ≡ length ivs) (demand_ok _ _ _ _ h).1 (length-set ivs a _)
length-plain_row role (Emit a b) ivs after h = subst (λ l. length l ≡ length ivs) (demand_ok _ _ _ _ h).1 refl
length-plain_row role word ivs after h = subst (λ l. length l ≡ length ivs) (ok_is h) refl

-- what a split that is Ok is
pub record IsSplit (test : Test) (a c : ℕ) (ivs : List Interval) (split : Split) : Type 0 where
  pub first : with_two ivs a (first_a test (interval_of ivs a) (interval_of ivs c)) c (first_b test (interval_of ivs a) (interval_of ivs c)) ≡ split.first
  pub other : with_two ivs a (other_a test (interval_of ivs a) (interval_of ivs c)) c (other_b test (interval_of ivs a) (interval_of ivs c)) ≡ split.other

pub split_ok : (test : Test) (a c : ℕ) (ivs : List Interval) (split : Split) → split_row test a c ivs ≡ Ok split → IsSplit test a c ivs split
split_ok test a c ivs split h =
    let e = ok_is (unless_ok _ _ _ _ (unless_ok (eqb a c) _ _ _ h)) in
    record { first = ap (λ s. s.first) e; other = ap (λ s. s.other) e }

pub length-with_two : (ivs : List Interval) (a c : ℕ) (i j : Interval) → length (with_two ivs a i c j) ≡ length ivs
length-with_two ivs a c i j = length-set (set ivs a i) c j ∙ length-set ivs a i

pub length-split_first : (test : Test) (a c : ℕ) (ivs : List Interval) (split : Split) → IsSplit test a c ivs split → length split.first ≡ length ivs
length-split_first test a c ivs split h = sym (ap length h.first) ∙ length-with_two ivs a c _ _

pub length-split_other : (test : Test) (a c : ℕ) (ivs : List Interval) (split : Split) → IsSplit test a c ivs split → length split.other ≡ length ivs
length-split_other test a c ivs split h = sym (ap length h.other) ∙ length-with_two ivs a c _ _

-- what a FOR that is Ok is
pub record IsLoop (role : Role) (counters : List Bool) (at a n : ℕ) (claims : List Claim) (body rest : Tree) (ivs after : List Interval) : Type 0 where
  pub fresh : slice_index_or counters a false ≡ false
  pub entered : claims_row (at + 1) (slice_set no_register a true) claims ivs ≡ Ok tt
  pub turned : List Interval
  pub turn : bounds role (slice_set counters a true) (at + 1 + length claims) body (in_loop a (between 0 (n - 1)) claims body ivs) ≡ Ok turned
  pub kept : are_kept claims turned ≡ true
  pub onward : bounds role counters (at + 1 + length claims + size body + 1) rest (in_loop a (between (n - 1) (n - 1)) claims body ivs) ≡ Ok after

unit_ok : {E : Type 0} (r : Result (Unit {0}) E) (x : Unit {0}) → r ≡ Ok x → r ≡ Ok tt
unit_ok r x h = h

pub loop_ok : (role : Role) (counters : List Bool) (at a n : ℕ) (claims : List Claim) (body rest : Tree) (ivs after : List Interval) → bounds role counters at (Loop a n claims body rest) ivs ≡ Ok after → IsLoop role counters at a n claims body rest ivs after
loop_ok role counters at a n claims body rest ivs after h =
    let fresh = demand (not (slice_index_or counters a false)) kind.Counter (tt {0}) in
    let u = bind_ok {A = Unit {0}} (placed at fresh) _ after h in
    let v = bind_ok {A = Unit {0}} (claims_row (at + 1) (slice_set no_register a true) claims ivs) _ after u.2 in
    let x = bind_ok (bounds role (slice_set counters a true) (at + 1 + length claims) body (in_loop a (between 0 (n - 1)) claims body ivs)) _ after v.2 in
    let kept = demand (are_kept claims x.0) kind.Keep (tt {0}) in
    let w = bind_ok {A = Unit {0}} (placed (at + 1 + length claims + size body) kept) _ after x.2 in
    record {
      fresh = not_true _ (demand_ok (not (slice_index_or counters a false)) kind.Counter (tt {0}) u.0 (placed_ok at fresh u.0 u.1)).0;
      entered = unit_ok _ v.0 v.1;
      turned = x.0;
      turn = x.1;
      kept = (demand_ok (are_kept claims x.0) kind.Keep (tt {0}) w.0 (placed_ok (at + 1 + length claims + size body) kept w.0 w.1)).0;
      onward = w.2;
    }

pub length-bounds : (role : Role) (counters : List Bool) (at : ℕ) (tree : Tree) (ivs after : List Interval) → bounds role counters at tree ivs ≡ Ok after → length after ≡ length ivs
length-bounds role counters at Stop ivs after h = ap length (sym (ok_is h))
length-bounds role counters at (Plain word rest) ivs after h =
    let x = bind_ok _ _ _ h in
    length-bounds role counters (at + 1) rest x.0 after x.2 ∙ length-plain_row role word ivs x.0 (unless_ok _ _ _ _ (placed_ok at _ _ x.1))
length-bounds role counters at (If test a c first rest) ivs after h =
    let x = bind_ok _ _ _ h in
    let y = bind_ok _ _ _ x.2 in
    let s = split_ok test a c ivs x.0 (placed_ok at _ _ x.1) in
    let l = length-split_first test a c ivs x.0 s in
    let o = length-split_other test a c ivs x.0 s in
    let f = length-bounds role counters (at + 1) first x.0.first y.0 y.1 ∙ l in
    length-bounds role counters _ rest _ after y.2 ∙ length-merge y.0 x.0.other (f ∙ sym o) ∙ f
length-bounds role counters at (IfElse test a c first other rest) ivs after h =
    let x = bind_ok _ _ _ h in
    let y = bind_ok _ _ _ x.2 in
    let z = bind_ok _ _ _ y.2 in
    let s = split_ok test a c ivs x.0 (placed_ok at _ _ x.1) in
    let f = length-bounds role counters (at + 1) first x.0.first y.0 y.1 ∙ length-split_first test a c ivs x.0 s in
    let o = length-bounds role counters _ other x.0.other z.0 z.1 ∙ length-split_other test a c ivs x.0 s in
    length-bounds role counters _ rest _ after z.2 ∙ length-merge y.0 z.0 (f ∙ sym o) ∙ f
length-bounds role counters at (Loop a n claims body rest) ivs after h =
    let l = loop_ok role counters at a n claims body rest ivs after h in
    length-bounds role counters _ rest _ after l.onward ∙ length-in_loop a _ claims body ivs
