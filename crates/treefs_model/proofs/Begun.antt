-- The file system begins a block: nothing else changes.
use Rattle.std.proofs.Common.{◌≡◌, ℕ, ◌≤◌, List, Some, Ok, refl, sym, ◌∙◌, ap, inl, inr, arith, subst}
use Rattle.std.specs.Prelude.{◌≢◌, IsTrue, max}
use Rattle.std.proofs.lemmas.Bool.{cases_eq}
use Rattle.std.proofs.lemmas.Option.{none-some}
use Rattle.xn_model.specs.Types.{Types}
use Rattle.xn_model.specs.Lives.{StoreState, life_at}
use Rattle.xn_model.specs.Calls.{init_of, life_bytes, new_life}
use Rattle.xn_model.specs.Rules.{IsConsistent}
use Rattle.xn_model.proofs.ForCallers.{set_other}
use Rattle.ffs_model.specs.Cuts.{Choice, IsCut, IsFullAt, latest, seen, seen_at}
use Rattle.ffs_model.proofs.ForCallers.{start_cut, started}
use Rattle.treefs_model.specs.Edited.{IsOwn, system_in, type_in}
use Rattle.treefs_model.specs.Places.{InPlace, Shape, pointer_at}
use Rattle.treefs_model.specs.Links.{KeepsLinks, Layout}
use Rattle.treefs_model.specs.Tables.{StaysAt}
use Rattle.treefs_model.proofs.Total.{total_le}

module _ (T : Types) (state new : StoreState) (x t : ℕ) (bytes : List ℕ) (made : ℕ × ℕ) (h : IsConsistent T state) (done : init_of T state x t bytes ≡ Ok (made, new)) where
  abbrev b : ℕ
  b = made.0

  same_life : (c : ℕ) → c ≢ b → life_at new.lives c ≡ life_at state.lives c
  same_life c ne = let r = started T state new x t bytes made done in ap (λ xs. life_at xs c) r.lives ∙ set_other state.lives b c (Some (new_life state.next (Some x) t bytes)) ne

  pub cut_was : (k : Choice) → IsCut new.lives k → IsCut state.lives k
  cut_was k cut = let r = started T state new x t bytes made done in start_cut T state h b (new_life state.next (Some x) t bytes) r.within r.free refl k (subst (λ xs. IsCut xs k) r.lives cut)

  pub seen_same : (k : Choice) (c : ℕ) → c ≢ b → seen new.lives k c ≡ seen state.lives k c
  seen_same k c ne = ap (seen_at k c) (same_life c ne)

  pub latest_same : (c : ℕ) → c ≢ b → latest new.lives c ≡ latest state.lives c
  latest_same c ne = ap life_bytes (same_life c ne)

  -- the block was free
  pub not_own : (fs : ℕ) → IsOwn fs state.lives b → ⊥
  not_own fs m = let r = started T state new x t bytes made done in none-some fs (ap system_in (sym r.free) ∙ m)

  pub full_was : (k : Choice) (c : ℕ) → IsFullAt new.lives k c → IsFullAt state.lives k c
  full_was k c full m e = elim (cases_eq c b) [
    | inl same ↦ let r = started T state new x t bytes made done in absurd (none-some m (sym r.free ∙ (ap (life_at state.lives) (sym same) ∙ e)))
    | inr ne ↦ full m (same_life c ne ∙ e)
  ]

  module _ (S : Shape) (fs : ℕ) (bare : (o : ℕ) → pointer_at S new.lives (latest new.lives) b o ≡ 0) where
    -- a pointer stands in another block
    owner : (p o y : ℕ) → y ≢ 0 → pointer_at S new.lives (latest new.lives) p o ≡ y → p ≢ b
    owner p o y some at' same = some (sym at' ∙ (ap (λ c. pointer_at S new.lives (latest new.lives) c o) same ∙ bare o))

    same_now : (p o : ℕ) → p ≢ b → pointer_at S new.lives (latest new.lives) p o ≡ pointer_at S state.lives (latest state.lives) p o
    same_now p o ne = (λ j. S.pointer (type_in (same_life p ne j)) (latest_same p ne j) o)

    same_then : (k : Choice) (p o : ℕ) → p ≢ b → pointer_at S new.lives (seen new.lives k) p o ≡ pointer_at S state.lives (seen state.lives k) p o
    same_then k p o ne = (λ j. S.pointer (type_in (same_life p ne j)) (seen_same k p ne j) o)

    own_was : (p : ℕ) → p ≢ b → IsOwn fs new.lives p → IsOwn fs state.lives p
    own_was p ne m = ap system_in (sym (same_life p ne)) ∙ m

    pub places_begin : (covered held : ℕ → Type 0) → ((y : ℕ) → covered y → y ≢ 0) → InPlace S fs covered held state.lives → InPlace S fs covered held new.lives
    places_begin covered held some i = record {
      own = λ y c. ap system_in (same_life y (other y c)) ∙ i.own y c;
      counted = i.counted;
      reached = λ k p o y cut m c at'.
          let ne = owner p o y (some y c) at' in
          elim (i.reached k p o y (cut_was k cut) (own_was p ne m) c (sym (same_now p o ne) ∙ at')) [
            | inl there ↦ inl (same_then k p o ne ∙ there)
            | inr none ↦ inr (subst (λ w. IsTrue (S.empty w)) (sym (seen_same k y (other y c))) none)
          ];
      full = λ k p o y cut m c at' full.
          let ne = owner p o y (some y (i.counted y c)) at' in
          same_then k p o ne ∙ i.full k p o y (cut_was k cut) (own_was p ne m) c (sym (same_now p o ne) ∙ at') (full_was k y full);
    }
      where
        other : (y : ℕ) → covered y → y ≢ b
        other y c same = not_own fs (subst (IsOwn fs state.lives) same (i.own y c))

    pub stays_begin : StaysAt S fs state.lives → StaysAt S fs new.lives
    stays_begin v k p o o' y cut mine some at' now =
        let ne = owner p o' y some now in
        v k p o o' y (cut_was k cut) (own_was p ne mine) some (sym (same_then k p o ne) ∙ at') (sym (same_now p o' ne) ∙ now)

  -- no cut leads to the block, and it has no record
  module _ (L : Layout) (N n : ℕ) (table : (k : Choice) → IsCut new.lives k → (L.leaf (seen new.lives k) n ≡ L.leaf (seen state.lives k) n) × (L.leaf (seen new.lives k) n ≢ b))
      (newest : L.leaf (latest new.lives) n ≡ L.leaf (latest state.lives) n) (none : (m : List ℕ) → L.records n b m ≡ 0) where
    seen_one : (k : Choice) (c : ℕ) → L.records n c (seen new.lives k c) ≤ L.records n c (seen state.lives k c)
    seen_one k c = elim (cases_eq c b) [
      | inl same ↦ let zero = ap (λ d. L.records n d (seen new.lives k c)) same ∙ none (seen new.lives k c) in omega arith
      | inr ne ↦ let same = ap (L.records n c) (seen_same k c ne) in omega arith
    ]

    most_one : (k : Choice) (c : ℕ) → max (L.records n c (seen new.lives k c)) (L.records n c (latest new.lives c)) ≤ max (L.records n c (seen state.lives k c)) (L.records n c (latest state.lives c))
    most_one k c = elim (cases_eq c b) [
      | inl same ↦
          let one = ap (λ d. L.records n d (seen new.lives k c)) same ∙ none (seen new.lives k c) in
          let two = ap (λ d. L.records n d (latest new.lives c)) same ∙ none (latest new.lives c) in
          omega arith
      | inr ne ↦ let one = ap (L.records n c) (seen_same k c ne) in let two = ap (L.records n c) (latest_same c ne) in omega arith
    ]

    pub links_begin : KeepsLinks L N state.lives n → KeepsLinks L N new.lives n
    links_begin v = record {
      named = λ k c cut few some zero. let le = seen_one k c in v.named k c (cut_was k cut) few (omega arith) (sym (table k cut).0 ∙ zero);
      good = λ k cut led.
          let was = v.good k (cut_was k cut) (λ q. led ((table k cut).0 ∙ q)) in
          let sum = total_le N (λ c. L.records n c (seen new.lives k c)) (λ c. L.records n c (seen state.lives k c)) (λ c few. seen_one k c) in
          let same : L.links (seen new.lives k (L.leaf (seen new.lives k) n)) ≡ L.links (seen state.lives k (L.leaf (seen state.lives k) n)) = ap L.links (seen_same k (L.leaf (seen new.lives k) n) (table k cut).1 ∙ ap (seen state.lives k) (table k cut).0) in
          omega arith;
      tight = λ k cut led g.
          let t = table k cut in
          let was = v.tight k (cut_was k cut) (record {
            led = record { some = λ q. led.led.some (t.0 ∙ q); same = sym t.0 ∙ (led.led.same ∙ newest) };
            full = full_was k (L.leaf (latest state.lives) n) (subst (IsFullAt new.lives k) newest led.full);
          }) tt in
          let sum = total_le N (λ c. max (L.records n c (seen new.lives k c)) (L.records n c (latest new.lives c))) (λ c. max (L.records n c (seen state.lives k c)) (L.records n c (latest state.lives c))) (λ c few. most_one k c) in
          let far : L.leaf (latest new.lives) n ≢ b = λ q. t.1 (led.led.same ∙ q) in
          let same : L.links (latest new.lives (L.leaf (latest new.lives) n)) ≡ L.links (latest state.lives (L.leaf (latest state.lives) n)) = ap L.links (latest_same (L.leaf (latest new.lives) n) far ∙ ap (latest state.lives) newest) in
          omega arith;
    }
