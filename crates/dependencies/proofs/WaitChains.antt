-- Lists of waiters, where one comes to the front or leaves it.
use Rattle.std.proofs.Common.{◌≡◌, ℕ, zero, suc, ◌<◌, List, [], ◌∷◌, length, replicate, Option, Some, None, refl, sym, ◌∙◌, ap, arith, inl, inr, subst}
use Rattle.std.specs.Prelude.{Contains, slice_set}
use Rattle.std.proofs.lemmas.List.{length-set}
use Rattle.std.proofs.lemmas.Bool.{cases_eq}
use Rattle.xn_model.proofs.ForCallers.{Contains-cons, Contains-head, Contains-none, Contains-tail}
use Rattle.dependencies.specs.WaitLists.{at, AreLists, IsChain, IsListOf}

abbrev pub Row : Type 0
Row = List (Option ℕ)

-- One place of a row

pub at_other : (row : Row) (k j : ℕ) (o : Option ℕ) → (j ≡ k → ⊥) → at (slice_set row k o) j ≡ at row j
at_other [] k j o ne = refl
at_other (x ∷ xs) zero zero o ne = absurd (ne refl)
at_other (x ∷ xs) zero (suc j) o ne = refl
at_other (x ∷ xs) (suc k) zero o ne = refl
at_other (x ∷ xs) (suc k) (suc j) o ne = at_other xs k j o (λ e. ne (ap suc e))

pub at_same : (row : Row) (k : ℕ) (o : Option ℕ) → k < length row → at (slice_set row k o) k ≡ o
at_same [] k o lt = absurd (omega arith)
at_same (x ∷ xs) zero o lt = refl
at_same (x ∷ xs) (suc k) o lt = at_same xs k o (omega (arith, lt))

pub at_none : (row : Row) (k : ℕ) → at (slice_set row k None) k ≡ None
at_none [] k = refl
at_none (x ∷ xs) zero = refl
at_none (x ∷ xs) (suc k) = at_none xs k

none_some : (o : Option ℕ) (x : ℕ) → o ≡ None → o ≡ Some x → ⊥
none_some o x none some = absurd cc

same_some : (o : Option ℕ) (x y : ℕ) → o ≡ Some x → o ≡ Some y → x ≡ y
same_some o x y a b = cc

pub within : (row : Row) (k x : ℕ) → at row k ≡ Some x → k < length row
within [] k x e = absurd (none_some None x refl e)
within (y ∷ ys) zero x e = omega arith
within (y ∷ ys) (suc k) x e = let rest = within ys k x e in omega (arith, rest)

pub at_blank : (n k : ℕ) → at (replicate n None) k ≡ None
at_blank zero k = refl
at_blank (suc n) zero = refl
at_blank (suc n) (suc k) = at_blank n k

-- Chains

-- a link of a block that isn't in a chain changes
chain_kept : (next : Row) (start : Option ℕ) (xs : List ℕ) (b : ℕ) (o : Option ℕ) → (Contains xs b → ⊥) → IsChain next start xs → IsChain (slice_set next b o) start xs
chain_kept next start [] b o out chain = chain
chain_kept next start (x ∷ xs) b o out chain =
    let apart : x ≡ b → ⊥ = λ e. out (subst (Contains (x ∷ xs)) e (Contains-head x xs)) in
    let rest = chain_kept next (at next x) xs b o (λ i. out (Contains-tail x xs b i)) chain.2 in
    (chain.0, chain.1, subst (λ (s : Option ℕ). IsChain (slice_set next b o) s xs) (sym (at_other next b x o apart)) rest)

-- No block waits

pub none_waits : (n : ℕ) (waits first next : Row) → waits ≡ replicate n None → first ≡ replicate n None → next ≡ replicate n None → AreLists waits first next
none_waits n waits first next w f e = record {
  firsts = ap length f ∙ sym (ap length w);
  nexts = ap length e ∙ sym (ap length w);
  lists = λ other. record {
    blocks = [];
    chain = ap (λ (r : Row). at r other) f ∙ at_blank n other;
    each = λ b i. absurd (Contains-none b i);
    all = λ b s. absurd (none_some (at waits b) other (ap (λ (r : Row). at r b) w ∙ at_blank n b) s);
  };
}

-- One comes to the front

pushed_here : (waits next : Row) (other b : ℕ) (start : Option ℕ) → b < length waits → b < length next → at waits b ≡ None → IsListOf waits next other start →
    IsListOf (slice_set waits b (Some other)) (slice_set next b start) other (Some b)
pushed_here waits next other b start in_waits in_next free list =
    let out : Contains list.blocks b → ⊥ = λ i. none_some (at waits b) other free (list.each b i) in
    let chain = chain_kept next start list.blocks b start out list.chain in
    record {
      blocks = b ∷ list.blocks;
      chain = (refl, out, subst (λ (s : Option ℕ). IsChain (slice_set next b start) s list.blocks) (sym (at_same next b start in_next)) chain);
      each = λ x i. elim (Contains-cons b list.blocks x i) [
        | inl e ↦ subst (λ (y : ℕ). at (slice_set waits b (Some other)) y ≡ Some other) e (at_same waits b (Some other) in_waits)
        | inr k ↦ at_other waits b x (Some other) (λ e. out (subst (λ (y : ℕ). Contains list.blocks y) e k)) ∙ list.each x k
      ];
      all = λ x e. elim (cases_eq x b) [
        | inl same ↦ subst (Contains (b ∷ list.blocks)) (sym same) (Contains-head b list.blocks)
        | inr apart ↦ Contains-tail b list.blocks x (list.all x (sym (at_other waits b x (Some other) apart) ∙ e))
      ];
    }

pushed_there : (waits next : Row) (other b d : ℕ) (o start : Option ℕ) → b < length waits → at waits b ≡ None → (d ≡ other → ⊥) → IsListOf waits next d start →
    IsListOf (slice_set waits b (Some other)) (slice_set next b o) d start
pushed_there waits next other b d o start in_waits free apart list =
    let out : Contains list.blocks b → ⊥ = λ i. none_some (at waits b) d free (list.each b i) in
    record {
      blocks = list.blocks;
      chain = chain_kept next start list.blocks b o out list.chain;
      each = λ x i. at_other waits b x (Some other) (λ e. out (subst (λ (y : ℕ). Contains list.blocks y) e i)) ∙ list.each x i;
      all = λ x e. elim (cases_eq x b) [
        | inl same ↦ absurd (apart (same_some (at (slice_set waits b (Some other)) x) d other e (ap (at (slice_set waits b (Some other))) same ∙ at_same waits b (Some other) in_waits)))
        | inr away ↦ list.all x (sym (at_other waits b x (Some other) away) ∙ e)
      ];
    }

pub pushed : (waits first next : Row) (other b : ℕ) → other < length waits → b < length waits → at waits b ≡ None → AreLists waits first next →
    AreLists (slice_set waits b (Some other)) (slice_set first other (Some b)) (slice_set next b (at first other))
pushed waits first next other b there here free lists = record {
  firsts = length-set first other (Some b) ∙ (lists.firsts ∙ sym (length-set waits b (Some other)));
  nexts = length-set next b (at first other) ∙ (lists.nexts ∙ sym (length-set waits b (Some other)));
  lists = λ d. elim (cases_eq d other) [
    | inl same ↦ subst (λ (x : ℕ). IsListOf (slice_set waits b (Some other)) (slice_set next b (at first other)) x (at (slice_set first other (Some b)) x)) (sym same)
        (subst (λ (s : Option ℕ). IsListOf (slice_set waits b (Some other)) (slice_set next b (at first other)) other s) (sym (at_same first other (Some b) (omega (arith, there, lists.firsts))))
        (pushed_here waits next other b (at first other) here (omega (arith, here, lists.nexts)) free (lists.lists other)))
    | inr apart ↦ subst (λ (s : Option ℕ). IsListOf (slice_set waits b (Some other)) (slice_set next b (at first other)) d s) (sym (at_other first other d (Some b) apart))
        (pushed_there waits next other b d (at first other) (at first d) here free apart (lists.lists d))
  ];
}

-- One leaves the front

pub front_waits : (waits first next : Row) (other b : ℕ) → AreLists waits first next → at first other ≡ Some b → at waits b ≡ Some other
front_waits waits first next other b lists front = by (lists.lists other).blocks (lists.lists other).chain (lists.lists other).each
  where
    by : (xs : List ℕ) → IsChain next (at first other) xs → ((x : ℕ) → Contains xs x → at waits x ≡ Some other) → at waits b ≡ Some other
    by [] chain each = absurd (none_some (at first other) b chain front)
    by (x ∷ xs) chain each = let same = same_some (at first other) x b chain.0 front in each b (subst (Contains (x ∷ xs)) same (Contains-head x xs))

pub none_left : (waits first next : Row) (other : ℕ) → AreLists waits first next → at first other ≡ None → (b : ℕ) → at waits b ≡ Some other → ⊥
none_left waits first next other lists front b waited = by (lists.lists other).blocks (lists.lists other).chain ((lists.lists other).all b waited)
  where
    by : (xs : List ℕ) → IsChain next (at first other) xs → Contains xs b → ⊥
    by [] chain i = Contains-none b i
    by (x ∷ xs) chain i = none_some (at first other) x front chain.0

popped_here : (waits next : Row) (other b : ℕ) (start : Option ℕ) → start ≡ Some b → IsListOf waits next other start → IsListOf (slice_set waits b None) next other (at next b)
popped_here waits next other b start front list = by list.blocks list.chain list.each list.all
  where
    by : (xs : List ℕ) → IsChain next start xs → ((x : ℕ) → Contains xs x → at waits x ≡ Some other) → ((x : ℕ) → at waits x ≡ Some other → Contains xs x) →
        IsListOf (slice_set waits b None) next other (at next b)
    by [] chain each all = absurd (none_some start b chain front)
    by (y ∷ ys) chain each all =
        let same : y ≡ b = same_some start y b chain.0 front in
        let out : Contains ys b → ⊥ = subst (λ (z : ℕ). Contains ys z → ⊥) same chain.1 in
        record {
          blocks = ys;
          chain = subst (λ (z : ℕ). IsChain next (at next z) ys) same chain.2;
          each = λ x i. at_other waits b x None (λ e. out (subst (λ (z : ℕ). Contains ys z) e i)) ∙ each x (Contains-tail y ys x i);
          all = λ x e. elim (cases_eq x b) [
            | inl here ↦ absurd (none_some (at (slice_set waits b None) x) other (ap (at (slice_set waits b None)) here ∙ at_none waits b) e)
            | inr away ↦ elim (Contains-cons y ys x (all x (sym (at_other waits b x None away) ∙ e))) [
              | inl first ↦ absurd (away (sym first ∙ same))
              | inr rest ↦ rest
            ]
          ];
        }

popped_there : (waits next : Row) (other b d : ℕ) (start : Option ℕ) → at waits b ≡ Some other → (d ≡ other → ⊥) → IsListOf waits next d start → IsListOf (slice_set waits b None) next d start
popped_there waits next other b d start waited apart list = record {
  blocks = list.blocks;
  chain = list.chain;
  each = λ x i. at_other waits b x None (λ e. apart (same_some (at waits x) d other (list.each x i) (ap (at waits) e ∙ waited))) ∙ list.each x i;
  all = λ x e. elim (cases_eq x b) [
    | inl here ↦ absurd (none_some (at (slice_set waits b None) x) d (ap (at (slice_set waits b None)) here ∙ at_none waits b) e)
    | inr away ↦ list.all x (sym (at_other waits b x None away) ∙ e)
  ];
}

pub popped : (waits first next : Row) (other b : ℕ) → AreLists waits first next → at first other ≡ Some b → AreLists (slice_set waits b None) (slice_set first other (at next b)) next
popped waits first next other b lists front = record {
  firsts = length-set first other (at next b) ∙ (lists.firsts ∙ sym (length-set waits b None));
  nexts = lists.nexts ∙ sym (length-set waits b None);
  lists = λ d. elim (cases_eq d other) [
    | inl same ↦ subst (λ (x : ℕ). IsListOf (slice_set waits b None) next x (at (slice_set first other (at next b)) x)) (sym same)
        (subst (λ (s : Option ℕ). IsListOf (slice_set waits b None) next other s) (sym (at_same first other (at next b) (within first other b front)))
        (popped_here waits next other b (at first other) front (lists.lists other)))
    | inr apart ↦ subst (λ (s : Option ℕ). IsListOf (slice_set waits b None) next d s) (sym (at_other first other d (at next b) apart))
        (popped_there waits next other b d (at first d) (front_waits waits first next other b lists front) apart (lists.lists d))
  ];
}
