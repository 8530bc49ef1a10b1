-- Where one of some edits is refused, those before it are made.
use Rattle.std.proofs.Common.{◌≡◌, ◌⊎◌, ℕ, zero, suc, ◌+◌, ◌-◌, ◌≤◌, List, [], ◌∷◌, ◌++◌, length, take, drop, None, Ok, Err, refl, sym, ◌∙◌, ap, inl, inr, arith, subst, length-append}
use Rattle.std.specs.Prelude.{All}
use Rattle.std.proofs.lemmas.List.{drop-take, length-drop, take-append-drop, take-take}
use Rattle.std.proofs.lemmas.List.Elements.{All-cons, All-head, All-nil, All-tail}
use Rattle.xn_model.specs.Types.{Types}
use Rattle.xn_model.specs.Calls.{propose_of}
use Rattle.xn_model.specs.Lives.{StoreState}
use Rattle.store_types.specs.declared.refusal.Refusal.{Refusal}
use Rattle.store_types.specs.declared.refusal.Refusal.TheVariants as refusal
use Rattle.treefs_model.specs.Acts.{Act, Ran, attach_act, edit_in}
use Rattle.treefs_model.specs.declared.fault.Fault.{Fault}
use Rattle.treefs_edits.specs.Plans.{Does}
use Rattle.treefs_edits.specs.Written.{all_written, written}
use Rattle.treefs_byte_plans.specs.Runs.{attach_acts}
use Rattle.treefs_values.specs.Values.{KeepsBlocks}
use Rattle.treefs_laws.proofs.Planned.{same_done}
use Rattle.treefs_laws.proofs.PointersPatched.{Fits, attach_each, attach_many, each_long, split_each}
use Rattle.treefs_laws.proofs.TimesWritten.{gives_none}

-- some acts, and then one that is refused, of a list
pub record IsFront (acts front : List Act) : Type 0 where
  pub next : Act
  pub rest : List Act
  pub whole : acts ≡ front ++ next ∷ rest

pub ran_front : (T : Types) (fs : ℕ) (acts : List Act) (old left : StoreState) (reason : Refusal) → Ran T fs acts old left (Err reason) →
    (front : List Act) × IsFront acts front × Ran T fs front old left (Ok tt)
ran_front T fs [] old left reason ran = absurd (cc ran.0)
ran_front T fs (act ∷ acts) old left reason ran = elim ran [
  | inl made ↦ ([], record { next = act; rest = acts; whole = refl }, (refl, gives_none (propose_of T old fs act.block (edit_in act old)) old left reason made))
  | inr r ↦
      let later = ran_front T fs acts r.1 left reason r.3 in (
        act ∷ later.0,
        record { next = later.1.next; rest = later.1.rest; whole = ap (λ l. act ∷ l) later.1.whole },
        inr (r.0, r.1, r.2, later.2),
      )
]

-- a plan that begins no block
pub acts_refused : (T : Types) (fs : ℕ) (acts : List Act) (old new : StoreState) (fault : Fault) → Does T fs (record { starts = []; acts = λ begun. acts })
    old new (Err fault) →
    (new ≡ old) ⊎ ((front : List Act) × IsFront acts front × Ran T fs front old new (Ok tt))
acts_refused T fs acts old new fault (inl (inl lacks)) = inl lacks.1
acts_refused T fs acts old new fault (inl (inr begins)) = absurd (cc begins.0)
acts_refused T fs acts old new fault (inr (b ∷ begun, middle, begins, keeps)) = absurd (cc (same_done (b ∷ begun) [] begins.0))
acts_refused T fs acts old new fault (inr ([], middle, begins, keeps)) = by keeps.3
  where
    by : Ran T fs acts middle keeps.0 (Err keeps.1) ⊎ ((keeps.1 ≡ refusal.NoMemory) × (keeps.0 ≡ middle)) → (new ≡ old) ⊎
        ((front : List Act) × IsFront acts front × Ran T fs front old new (Ok tt))
    by (inl ran) =
        let f = ran_front T fs acts middle keeps.0 keeps.1 ran in
        inr (f.0, f.1, subst (λ s. Ran T fs f.0 old s (Ok tt)) (sym keeps.4) (subst (λ s. Ran T fs f.0 s keeps.0 (Ok tt)) begins.1 f.2))
    by (inr none) = inl (keeps.4 ∙ (none.1 ∙ begins.1))

pub front_keeps : (acts front : List Act) → IsFront acts front → All KeepsBlocks acts → All KeepsBlocks front
front_keeps acts front is all = by front (subst (All KeepsBlocks) is.whole all)
  where
    by : (front : List Act) → All KeepsBlocks (front ++ is.next ∷ is.rest) → All KeepsBlocks front
    by [] all = All-nil KeepsBlocks
    by (act ∷ front) all = All-cons KeepsBlocks act front (All-head KeepsBlocks act (front ++ is.next ∷ is.rest) all)
        (by front (All-tail KeepsBlocks act (front ++ is.next ∷ is.rest) all))

abbrev first_or : Act → List Act → Act
first_or other [] = other
first_or other (act ∷ acts) = act

pub same_first : (a b : Act) (xs ys : List Act) → a ∷ xs ≡ b ∷ ys → a ≡ b
same_first a b xs ys e = ap (first_or a) e

pub same_rest : (a b : Act) (xs ys : List Act) → a ∷ xs ≡ b ∷ ys → xs ≡ ys
same_rest a b xs ys e = ap (λ (l : List Act). drop 1 l) e

-- a front of one act at most is none
pub front_none : (acts front : List Act) → IsFront acts front → length acts ≤ 1 → front ≡ []
front_none acts [] is few = refl
front_none acts (act ∷ front) is few =
    let long = ap length is.whole in let parts = length-append front (is.next ∷ is.rest) in absurd (omega arith)

-- Of edits that attach leaves

module _ (h : ℕ) where
  pub attach_front : (n : ℕ) (zs : List ℕ) (o : ℕ) (m : ℕ → List ℕ) (tail front : List Act) → length tail ≤ 1 → Fits h o zs m → IsFront
      (attach_acts n h o zs ++ tail) front →
      (k : ℕ) × (all_written front m ≡ attach_each h o (take k zs) m)
  attach_front zero zs o m tail front few fits is = (0, ap (λ f. all_written f m) (front_none tail front is few))
  attach_front (suc n) zs o m tail [] few fits is = (0, refl)
  attach_front (suc n) zs o m tail (act ∷ front) few fits is =
      let parts : length (take 16 zs) + length (drop 16 zs) ≡ length zs = sym (length-append (take 16 zs) (drop 16 zs)) ∙ ap length (take-append-drop 16 zs) in
      let first : Fits h o (take 16 zs) m = λ some. (let all = fits (omega arith) in omega arith) in
      let long = each_long h (take 16 zs) o m first in
      let back : length (drop 16 zs) ≡ length zs - 16 = length-drop 16 zs in
      let one : attach_act h o 2 (take 16 zs) None ≡ act =
      same_first (attach_act h o 2 (take 16 zs) None) act (attach_acts n h (o + 64) (drop 16 zs) ++ tail) (front ++ is.next ∷ is.rest) is.whole in
      let later = attach_front n (drop 16 zs) (o + 64) (attach_each h o (take 16 zs) m) tail front few
      (λ some. (let all = fits (omega arith) in omega arith)) (record {
        next = is.next;
        rest = is.rest;
        whole = same_rest (attach_act h o 2 (take 16 zs) None) act (attach_acts n h (o + 64) (drop 16 zs) ++ tail) (front ++ is.next ∷ is.rest) is.whole;
      }) in
      let k = later.0 in (
        16 + k,
        ap (λ a. all_written front (written a m)) (sym one)
            ∙ (ap (all_written front) (attach_many h (take 16 zs) o m first)
            ∙ (later.1
            ∙ ((λ j. attach_each h (o + 64) (sym (drop-take 16 k zs) j) (attach_each h o (sym (take-take 16 (16 + k) zs (omega arith)) j) m)) ∙ split_each h
            16 (take (16 + k) zs) o m))),
      )
