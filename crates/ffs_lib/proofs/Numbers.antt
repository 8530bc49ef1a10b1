-- The numbers of edits that a volume keeps.
use Rattle.std.proofs.Common.{◌≡◌, ℕ, zero, suc, refl, [], ◌∷◌, ◌+◌, ◌-◌, ◌*◌, ◌/◌, ◌<◌, ◌≤◌, List, length, get_or, Option, Some, None, sym, ◌∙◌, ap, inl, inr, arith, subst, eq-eqb, if◌then◌else◌, set, get_or-set_other, ne_eqb}
use Rattle.ffs_lib.proofs.Common.{IsFree, IsInodes, StoreState, Types, cases_eq, get_or-set_at, inode_at, latest, library_layout, with_edit, without_edit}
use Rattle.ffs_lib.specs.Outcomes.{IsAdded}
use Rattle.ffs_lib.specs.Volumes.{edits_of}

module _ (added : List (Option ℕ)) (index : ℕ) (low : index < length added) where
  with_at : (entry j : ℕ) → with_edit (edits_of added) index entry j ≡ edits_of (set added index (Some entry)) j
  with_at entry j = elim (cases_eq j index) [
    | inl e ↦ ap (λ t. if t then Some entry else edits_of added j) (eq-eqb j index e) ∙ sym (get_or-set_at added index j (Some entry) None e low)
    | inr ne ↦ ap (λ t. if t then Some entry else edits_of added j) (ne_eqb j index ne) ∙ sym (get_or-set_other added index j (Some entry) None ne)
  ]

  pub with_one : (entry : ℕ) → with_edit (edits_of added) index entry ≡ edits_of (set added index (Some entry))
  with_one entry = λ i j. with_at entry j i

  without_at : (j : ℕ) → without_edit (edits_of added) index j ≡ edits_of (set added index None) j
  without_at j = elim (cases_eq j index) [
    | inl e ↦ ap (λ t. if t then None else edits_of added j) (eq-eqb j index e) ∙ sym (get_or-set_at added index j None None e low)
    | inr ne ↦ ap (λ t. if t then None else edits_of added j) (ne_eqb j index ne) ∙ sym (get_or-set_other added index j None None ne)
  ]

  pub without_one : without_edit (edits_of added) index ≡ edits_of (set added index None)
  without_one = λ i j. without_at j i

-- an element that is there is read whatever stands for one that is not
pub same_read : {A : Type 0} (xs : List A) (i : ℕ) (d e : A) → i < length xs → get_or xs i d ≡ get_or xs i e
same_read [] i d e low = absurd (omega arith)
same_read (x ∷ xs) zero d e low = refl
same_read (x ∷ xs) (suc i) d e low = same_read xs i d e (omega arith)

-- a free inode of a new block
pub first_free : (T : Types) (state : StoreState) (fs : ℕ) (array : ℕ → Option ℕ) (index block entry : ℕ) → index < 16 → IsAdded T fs array index block entry state →
    IsFree state fs (record { number = 8 * index + 1; block = block; place = 0 })
first_free T state fs array index block entry low added =
    let home : (8 * index + 1 - 1) / 8 ≡ index = omega arith in
    record {
      stands = record {
        some = λ e. absurd (omega (arith, e));
        inodes = subst (λ i. IsInodes library_layout (latest state.lives) fs i block) (sym home) added.inodes;
        at = omega arith;
        few = omega arith;
        long = ap length added.empty;
      };
      bare = ap (λ m. inode_at m 0) added.empty;
      low = omega arith;
    }

-- the number that is kept of an inode's block
pub record IsKept (added : List (Option ℕ)) (n index : ℕ) (kept : Option ℕ) : Type 0 where
  pub low : index < length added
  pub is : kept ≡ edits_of added ((n - 1) / 8)
  pub forgets : without_edit (edits_of added) ((n - 1) / 8) ≡ edits_of (set added index None)

pub is_kept : (added : List (Option ℕ)) (n before : ℕ) (other : Option ℕ) → before ≡ n - 1 → length added ≡ 16 → n ≤ 128 → IsKept added n (before / 8) (get_or added (before / 8) other)
is_kept added n before other less long most =
    let low : before / 8 < length added = omega (arith, less, long, most) in
    let home : (n - 1) / 8 ≡ before / 8 = ap (λ x. x / 8) (sym less) in
    record { low = low; is = same_read added (before / 8) other None low ∙ ap (edits_of added) (sym home); forgets = ap (without_edit (edits_of added)) home ∙ without_one added (before / 8) low }
