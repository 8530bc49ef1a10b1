-- A layout, and what is reached from a root slot, over more types.
use Rattle.std.proofs.Common.{◌≡◌, ℕ, ◌≤◌, List, [], false, inl, inr, arith, sym, subst}
use Rattle.std.specs.Prelude.{Contains, IsTrue}
use Rattle.xn_model.specs.Types.{Types}
use Rattle.xn_model.specs.Languages.{Extends}
use Rattle.xn_model.proofs.ForCallers.{fits_same, Contains-none}
use Rattle.std.proofs.lemmas.Bool.{cases_Bool}
use Rattle.ffs_model.specs.Cuts.{Under, root, step, SameUnder}
use Rattle.ffs_model.specs.Names.{Layout}
use Rattle.ffs_model.specs.Volumes.{Reads}

-- types 3 to 5 are there, and mean the same
pub record AreSame (T new : Types) : Type 0 where
  pub installed : (t : ℕ) → 3 ≤ t → t ≤ 5 → IsTrue (new.installed t)
  pub owned : (t : ℕ) → 3 ≤ t → t ≤ 5 → new.owned t ≡ T.owned t
  pub size : (t : ℕ) → 3 ≤ t → t ≤ 5 → new.size t ≡ T.size t

pub reads_same : (T new : Types) (L : Layout) → AreSame T new → Reads T L → Reads new L
reads_same T new L x reads = record {
  installed = x.installed;
  pointers = λ m j b e ne. subst (λ (o : List ℕ → List (ℕ × ℕ)). Contains (o m) (b, 4)) (sym (x.owned 3 (omega arith) (omega arith))) (reads.pointers m j b e ne);
  blocks = λ m p c i. subst (λ (o : List ℕ → List (ℕ × ℕ)). Contains (o m) (c, 2)) (sym (x.owned 4 (omega arith) (omega arith))) (reads.blocks m p c i);
  apart = λ m i j b fit e f ne.
      reads.apart m i j b (fits_same new T 3 m (sym (x.owned 3 (omega arith) (omega arith))) (sym (x.size 3 (omega arith) (omega arith))) fit) e f ne;
  one_place = λ m p q c fit i j.
      reads.one_place m p q c (fits_same new T 4 m (sym (x.owned 4 (omega arith) (omega arith))) (sym (x.size 4 (omega arith) (omega arith))) fit) i j;
  homes = reads.homes;
  no_slot = reads.no_slot;
  no_pointer = reads.no_pointer;
  no_direct = reads.no_direct;
  no_mode = reads.no_mode;
}

pub reads_more : (T more : Types) (L : Layout) → Extends T more → Reads T L → Reads more L
reads_more T more L x reads = reads_same T more L (record {
  installed = λ t low high. x.installed t (reads.installed t low high);
  owned = λ t low high. x.owned t (reads.installed t low high);
  size = λ t low high. x.size t (reads.installed t low high);
}) reads

-- what is reached under fewer types is reached under more
under_more : (T more : Types) → Extends T more → ((t : ℕ) (m : List ℕ) → T.installed t ≡ false → T.owned t m ≡ []) → (v : ℕ → List ℕ) (fs c u : ℕ) → Under T v fs c u → Under more v fs c u
under_more T more x none v fs c u (root at ne) = root at ne
under_more T more x none v fs c u (step {b} {t} r names) = step (under_more T more x none v fs b t r) (elim (cases_Bool (T.installed t)) [
  | inl there ↦ subst (λ (o : List ℕ → List (ℕ × ℕ)). Contains (o (v b)) (c, u)) (sym (x.owned t there)) names
  | inr gone ↦ absurd (Contains-none (c, u) (subst (λ ps. Contains ps (c, u)) (none t (v b) gone) names))
])

pub same_fewer : (T more : Types) → Extends T more → ((t : ℕ) (m : List ℕ) → T.installed t ≡ false → T.owned t m ≡ []) → (v w : ℕ → List ℕ) (fs : ℕ) → SameUnder more v w fs → SameUnder T v w fs
same_fewer T more x none v w fs s = record { top = s.top; same = λ c u r. s.same c u (under_more T more x none v fs c u r) }
