-- The links of a number, read in another way; and what blocks in place say of the table.
use Rattle.std.proofs.Common.{◌≡◌, ℕ, List, [], ◌∷◌, Option, None, refl, sym, ◌∙◌, ap, arith, subst}
use Rattle.std.specs.Prelude.{◌≢◌, max}
use Rattle.xn_model.specs.Types.{Types}
use Rattle.xn_model.specs.Lives.{Lives, StoreState}
use Rattle.xn_model.specs.Rules.{IsConsistent}
use Rattle.ffs_model.specs.Cuts.{Choice, IsCut, IsFullAt, latest, seen}
use Rattle.treefs_model.specs.Acts.{Act}
use Rattle.treefs_model.specs.Edited.{Edited, IsOwn, type_at}
use Rattle.treefs_model.specs.Places.{Shape, at, pointer_at}
use Rattle.treefs_model.specs.Links.{HasRoom, IsLedFull, KeepsLinks, KeepsTable, Layout, ReadsAlike}
use Rattle.treefs_model.specs.Tables.{table_layout}
use Rattle.treefs_model.specs.Tables.{IsPointed, PassesBy, ReadsTypes, StaysAt}
use Rattle.treefs_model.proofs.TableKeeps.{path_cut, path_newest}
use Rattle.treefs_model.proofs.Total.{total_le}

module _ (L L' : Layout) (N : ℕ) (lives : Lives) (n : ℕ) (r : ReadsAlike L L' lives n) where
  pub room_alike : (g : Option ℕ) (m : ℕ) → HasRoom L N lives g m n → HasRoom L' N lives g m n
  room_alike g m v k cut led guard =
      let led' : IsLedFull L lives k n = record {
        led = record { some = λ q. led.led.some (r.table k cut ∙ q); same = sym (r.table k cut) ∙ (led.led.same ∙ r.newest) };
        full = subst (IsFullAt lives k) r.newest led.full;
      } in
      let was = v k cut led' guard in
      let sum = total_le N (λ b. max (L'.records n b (seen lives k b)) (L'.records n b (latest lives b))) (λ b. max (L.records n b (seen lives k b)) (L.records n b (latest lives b)))
      (λ b few. let one = r.records k b cut in let two = r.records_newest b in omega arith) in
      let same : L'.links (latest lives (L'.leaf (latest lives) n)) ≡ L.links (latest lives (L.leaf (latest lives) n)) = r.links (latest lives (L'.leaf (latest lives) n)) ∙ ap (λ i. L.links (latest lives i)) r.newest in
      omega arith

  pub links_alike : KeepsLinks L N lives n → KeepsLinks L' N lives n
  links_alike v = record {
    named = λ k b cut few some zero. let le = r.records k b cut in v.named k b cut few (omega arith) (sym (r.table k cut) ∙ zero);
    good = λ k cut led.
        let was = v.good k cut (λ q. led (r.table k cut ∙ q)) in
        let sum = total_le N (λ b. L'.records n b (seen lives k b)) (λ b. L.records n b (seen lives k b)) (λ b few. r.records k b cut) in
        let same : L'.links (seen lives k (L'.leaf (seen lives k) n)) ≡ L.links (seen lives k (L.leaf (seen lives k) n)) = r.links (seen lives k (L'.leaf (seen lives k) n)) ∙ ap (λ i. L.links (seen lives k i)) (r.table k cut) in
        omega arith;
    tight = room_alike None 0 v.tight;
  }

-- the same types read the same
at_types : (S : Shape) (old new : Lives) → ((c : ℕ) → type_at new c ≡ type_at old c) → (v : ℕ → List ℕ) (top : ℕ) (os : List ℕ) → at S new v top os ≡ at S old v top os
at_types S old new types v top [] = refl
at_types S old new types v top (o ∷ os) = ap (λ p. pointer_at S new v p o) (at_types S old new types v top os) ∙ ap (λ t. S.pointer t (v (at S old v top os)) o) (types (at S old v top os))

module _ (T : Types) (S : Shape) (fs top : ℕ) (steps : ℕ → List ℕ) (records : ℕ → ℕ → List ℕ → ℕ) (links : List ℕ → ℕ) where
  abbrev L : Lives → Layout
  L lives = table_layout S lives top steps records links

  -- an edit of a block by which the path passes leaves the table
  pub table_kept : ReadsTypes T S → (act : Act) (old new : StoreState) (number : ℕ) → IsConsistent T old → IsConsistent T new → (e : Edited T act old.lives new.lives number) → StaysAt S fs old.lives → IsPointed S old.lives act.block → act.block ≢ 0 →
      ((k : Choice) → IsCut old.lives k → (os : List ℕ) → at S old.lives (seen old.lives k) top os ≢ 0 → IsOwn fs old.lives (at S old.lives (seen old.lives k) top os)) →
      ((k : Choice) (o : ℕ) → IsCut old.lives k → pointer_at S old.lives (seen old.lives k) 0 o ≡ 0) → (n : ℕ) → PassesBy S old.lives top act.block (steps n) → KeepsTable (L old.lives) old.lives new.lives n
  table_kept reads act old new number h h' e stays pointed some mine root n by = record {
    cuts = λ k cut. sym (at_types S old.lives new.lives e.types (seen new.lives k) top (steps n)) ∙ path_cut T S reads fs act old new number h h' e stays top pointed some mine root k cut (steps n) by;
    newest = sym (at_types S old.lives new.lives e.types (latest new.lives) top (steps n)) ∙ path_newest T S reads fs act old new number h h' e stays top pointed some mine root (steps n) by;
  }
