-- Paths of which the last pointers are missing.
use Rattle.std.proofs.Common.{◌≡◌, ◌≢◌, ℕ, zero, suc, ◌+◌, ◌<◌, ◌≤◌, List, [], ◌∷◌, ◌++◌, None, length, get_or, take, drop, refl, sym, ◌∙◌, ap, inl, inr, arith, subst, if◌then◌else◌, append_assoc}
use Rattle.std.specs.Prelude.{reverse}
use Rattle.std.proofs.lemmas.Bool.{cases_eq, eq-eqb, ne_eqb}
use Rattle.std.proofs.lemmas.List.{reverse-append, reverse-reverse, take_more}
use Rattle.treefs_model.specs.Reading.{block_at, pointed}
use Rattle.treefs_lookup.specs.Walks.{further, reach, reached as reach_to, stepped}
use Rattle.treefs_lookup.specs.declared.paths.Reach.{Reach}
use Rattle.treefs_edits.specs.Missing.{child_before, first_byte, node_acts, node_starts, path_acts, path_starts, type_before}
use Rattle.treefs_model.specs.Acts.{attach_act, wait_act}
use Rattle.treefs_format.specs.Nodes.{node_bytes}
use Rattle.treefs_values.specs.Ways.{IsWay}
use Rattle.treefs_values.proofs.Chains.{Link, chain_acts, chain_starts, reached}

-- How far a path leads

module _ (content : ℕ → List ℕ) (b : ℕ) (some : b ≢ 0) where
  pub record IsReached (os : List ℕ) (r : Reach) : Type 0 where
    pub few : r.missing ≤ length os
    pub block : r.block ≡ block_at content b (drop r.missing os)
    pub there : r.block ≢ 0
    pub next : (m : ℕ) → r.missing ≡ suc m → pointed content r.block (get_or os m 0) ≡ 0

  pub reached_so : (os : List ℕ) → IsReached os (reach content b os)
  reached_so [] = record { few = omega arith; block = refl; there = some; next = λ m e. absurd (omega (arith, e)) }
  reached_so (o ∷ os) = by (reach content b os) (reached_so os)
    where
      by : (r : Reach) → IsReached os r → IsReached (o ∷ os) (further content o r)
      by r is = elim (cases_eq r.missing 0) [
        | inl z ↦
            let at : r.block ≡ block_at content b os = is.block ∙ ap (λ k. block_at content b (drop k os)) z in
            subst (IsReached (o ∷ os)) (sym (ap (λ t. if t then stepped r.block (pointed content r.block o) else reach_to r.block (r.missing + 1)) (eq-eqb r.missing 0 z)))
            (elim (cases_eq (pointed content r.block o) 0) [
              | inl none ↦
                  subst (IsReached (o ∷ os)) (sym (ap (λ t. if t then reach_to r.block 1 else reach_to (pointed content r.block o) 0) (eq-eqb (pointed content r.block o) 0 none)))
                  (record {
                    few = omega arith;
                    block = at;
                    there = is.there;
                    next = λ m e. let first : m ≡ 0 = omega (arith, e) in ap (λ k. pointed content r.block (get_or (o ∷ os) k 0)) first ∙ none;
                  })
              | inr led ↦
                  subst (IsReached (o ∷ os)) (sym (ap (λ t. if t then reach_to r.block 1 else reach_to (pointed content r.block o) 0) (ne_eqb (pointed content r.block o) 0 led)))
                  (record {
                    few = omega arith;
                    block = ap (λ c. pointed content c o) at;
                    there = led;
                    next = λ m e. absurd (omega (arith, e));
                  })
            ])
        | inr ne ↦
            let low = is.few in
            let more : r.missing + 1 ≡ suc r.missing = omega arith in
            subst (IsReached (o ∷ os)) (sym (ap (λ t. if t then stepped r.block (pointed content r.block o) else reach_to r.block (r.missing + 1)) (ne_eqb r.missing 0 ne)))
            (record {
              few = omega arith;
              block = is.block ∙ sym (ap (λ k. block_at content b (drop k (o ∷ os))) more);
              there = is.there;
              next = λ m e. later r is ne m e;
            })
      ]
        where
          later : (r : Reach) → IsReached os r → r.missing ≢ 0 → (m : ℕ) → r.missing + 1 ≡ suc m → pointed content r.block (get_or (o ∷ os) m 0) ≡ 0
          later r is ne zero e = absurd (ne (omega (arith, e)))
          later r is ne (suc m) e = is.next m (omega (arith, e))

-- Paths onto a way

abbrev pub onto : List ℕ → List ℕ → List ℕ
onto q [] = q
onto q (o ∷ os) = onto (o ∷ q) os

pub onto_is : (q os : List ℕ) → onto q os ≡ reverse os ++ q
onto_is q [] = refl
onto_is q (o ∷ os) = onto_is (o ∷ q) os ∙ (sym (append_assoc (reverse os) (o ∷ []) q) ∙ ap (λ l. l ++ q) (sym (reverse-append (o ∷ []) os)))

pub onto_reverse : (q os : List ℕ) → onto q (reverse os) ≡ os ++ q
onto_reverse q os = onto_is q (reverse os) ∙ ap (λ l. l ++ q) (reverse-reverse os)

-- a way to the end of a path passes each of its pointers
pub way_first : (o h : ℕ) (q os : List ℕ) → IsWay (onto (o ∷ q) os) h → (l : ℕ) × IsWay (o ∷ q) l × (l ≡ h + length os)
way_first o h q [] way = (h, way, omega arith)
way_first o h q (p ∷ os) way =
    let later = way_first p h (o ∷ q) os way in
    let e = later.2 in
    (suc later.0, later.1.3, omega arith)

-- the first missing pointer, of so many at the end
pub missing_first : (os : List ℕ) (m : ℕ) → m < length os → reverse (take (suc m) os) ≡ get_or os m 0 ∷ reverse (take m os)
missing_first os m lt =
    let more : suc m ≡ m + 1 = omega arith in
    ap (λ k. reverse (take k os)) more ∙ (ap reverse (take_more os m 0 lt) ∙ reverse-append (take m os) (get_or os m 0 ∷ []))

-- Paths as links

abbrev pub path_links : ℕ → List ℕ → List Link
path_links node [] = []
path_links node (o ∷ os) = record { offset = o; ty = type_before node os; first = first_byte node os } ∷ path_links node os

abbrev pub node_links : ℕ → ℕ → List ℕ → List Link
node_links node last [] = []
node_links node last (o ∷ os) = record { offset = o; ty = node; first = child_before node last os } ∷ node_links node last os

pub path_acts_are : (node owner : ℕ) (os begun : List ℕ) → path_acts node owner os begun ≡ chain_acts owner (path_links node os) begun
path_acts_are node owner [] begun = refl
path_acts_are node owner (o ∷ os) [] = refl
path_acts_are node owner (o ∷ os) (block ∷ begun) =
    ap (λ acts. attach_act owner o (type_before node os) (block ∷ []) None ∷ wait_act block (first_byte node os ∷ []) owner ∷ acts) (path_acts_are node block os begun)

pub node_acts_are : (node last owner : ℕ) (os begun : List ℕ) → node_acts node last owner os begun ≡ chain_acts owner (node_links node last os) begun
node_acts_are node last owner [] begun = refl
node_acts_are node last owner (o ∷ os) [] = refl
node_acts_are node last owner (o ∷ os) (block ∷ begun) =
    ap (λ acts. attach_act owner o node (block ∷ []) None ∷ wait_act block (child_before node last os ∷ []) owner ∷ acts) (node_acts_are node last block os begun)

pub path_starts_are : (node : ℕ) (os : List ℕ) → path_starts node os ≡ chain_starts (path_links node os)
path_starts_are node [] = refl
path_starts_are node (o ∷ os) = ap (λ starts. record { ty = type_before node os; bytes = node_bytes (first_byte node os) } ∷ starts) (path_starts_are node os)

pub node_starts_are : (node last : ℕ) (os : List ℕ) → node_starts node last os ≡ chain_starts (node_links node last os)
node_starts_are node last [] = refl
node_starts_are node last (o ∷ os) = ap (λ starts. record { ty = node; bytes = node_bytes (child_before node last os) } ∷ starts) (node_starts_are node last os)

pub path_reached : (node : ℕ) (q os : List ℕ) → reached q (path_links node os) ≡ onto q os
path_reached node q [] = refl
path_reached node q (o ∷ os) = path_reached node (o ∷ q) os

pub node_reached : (node last : ℕ) (q os : List ℕ) → reached q (node_links node last os) ≡ onto q os
node_reached node last q [] = refl
node_reached node last q (o ∷ os) = node_reached node last (o ∷ q) os
