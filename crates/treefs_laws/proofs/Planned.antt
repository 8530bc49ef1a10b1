-- What planners found, and what was carried out.
use Rattle.std.proofs.Common.{◌≡◌, ◌⊎◌, ℕ, ◌<◌, List, [], ◌∷◌, ◌++◌, Result, Ok, Err, refl, sym, ◌∙◌, ap, inl, inr, arith, subst}
use Rattle.std.specs.Prelude.{length, map, slice_index, if◌then◌else◌}
use Rattle.std.proofs.lemmas.Bool.{cases_eq, eq-eqb, ne_eqb}
use Rattle.xn_model.specs.Types.{Types}
use Rattle.xn_model.specs.Lives.{StoreState}
use Rattle.xn_model.specs.Calls.{patched}
use Rattle.treefs_model.specs.Acts.{Act, Ran, one_patch, wait_act}
use Rattle.treefs_model.specs.Files.{and_then}
use Rattle.treefs_model.specs.declared.fault.Fault.{Fault}
use Rattle.treefs_lookup.specs.Inodes.{directory_found, inode_found}
use Rattle.treefs_lookup.specs.Names.{entry_found}
use Rattle.treefs_lookup.specs.declared.inodes.Found.{Found}
use Rattle.treefs_edits.specs.Plans.{Does}
use Rattle.treefs_edits.specs.Written.{all_written, written}
use Rattle.treefs_name_plans.specs.Ends.{ended_in}
use Rattle.treefs_name_plans.specs.declared.ended.Ended.{Ended}

-- Steps that may fail

pub then_ok : {A B : Type 0} (first : Result A Fault) (go : A → Result B Fault) (y : B) → and_then first go ≡ Ok y → (x : A) × (first ≡ Ok x) × (go x ≡ Ok y)
then_ok (Ok x) go y e = (x, refl, e)
then_ok (Err fault) go y e = absurd (cc e)

abbrev or_else : {A : Type 0} → A → Result A Fault → A
or_else x (Ok y) = y
or_else x (Err fault) = x

pub same_done : {A : Type 0} (x y : A) → ◌≡◌ {A = Result A Fault} (Ok x) (Ok y) → x ≡ y
same_done x y e = ap (or_else x) e

abbrev fault_of : {A : Type 0} → Fault → Result A Fault → Fault
fault_of other (Ok x) = other
fault_of other (Err fault) = fault

pub same_fault : {A : Type 0} (f g : Fault) → ◌≡◌ {A = Result A Fault} (Err f) (Err g) → f ≡ g
same_fault f g e = ap (fault_of g) e

pub then_fails : {A B : Type 0} (first : Result A Fault) (go : A → Result B Fault) (g : Fault) → and_then first go ≡ Err g →
    (first ≡ Err g) ⊎ ((x : A) × (first ≡ Ok x) × (go x ≡ Err g))
then_fails (Ok x) go g e = inr (x, refl, e)
then_fails (Err fault) go g e = inl (ap Err (same_fault fault g e))

pub then_twice : {A B C : Type 0} (first : Result A Fault) (go : A → Result B Fault) (on : B → Result C Fault) →
    and_then (and_then first go) on ≡ and_then first (λ x. and_then (go x) on)
then_twice (Ok x) go on = refl
then_twice (Err fault) go on = refl

-- What was carried out

-- a plan that begins no block and is carried out makes its acts
pub ran_acts : (T : Types) (fs : ℕ) (acts : List Act) (old new : StoreState) → Does T fs (record { starts = []; acts = λ begun. acts }) old new (Ok tt) →
    Ran T fs acts old new (Ok tt)
ran_acts T fs acts old new (inl none) = absurd none
ran_acts T fs acts old new (inr (begun, middle, begins, ran)) = subst (λ s. Ran T fs acts s new (Ok tt)) begins.1 ran

-- Waits write nothing

same_put : (m : List ℕ) → 0 < length m → patched m (one_patch 0 (slice_index m 0 ∷ [])) ≡ m
same_put [] some = absurd (omega arith)
same_put (b ∷ m) some = refl

module _ (content : ℕ → List ℕ) (block first : ℕ) (is_first : first ≡ slice_index (content block) 0) (some : 0 < length (content block)) where
  wait_writes : (other b : ℕ) → written (wait_act block (first ∷ []) other) content b ≡ content b
  wait_writes other b = elim (cases_eq b block) [
    | inl same ↦
        ap (λ t. if t then patched (content b) (one_patch 0 (first ∷ [])) else content b) (eq-eqb b block same)
        ∙ (ap (λ k. patched (content k) (one_patch 0 (first ∷ []))) same
        ∙ (ap (λ k. patched (content block) (one_patch 0 (k ∷ []))) is_first ∙ (same_put (content block) some ∙ ap content (sym same))))
    | inr ne ↦ ap (λ t. if t then patched (content b) (one_patch 0 (first ∷ [])) else content b) (ne_eqb b block ne)
  ]

  pub waits_write : (others : List ℕ) (rest : List Act) → all_written (map (wait_act block (first ∷ [])) others ++ rest) content ≡ all_written rest content
  waits_write [] rest = refl
  waits_write (other ∷ others) rest =
      ap (all_written (map (wait_act block (first ∷ [])) others ++ rest)) (λ j b. wait_writes other b j) ∙ waits_write others rest

-- A record that ends

module _ (content : ℕ → List ℕ) (top d : ℕ) (name : List ℕ) (ended : Ended) where
  -- its place, and its inode
  pub ended_is : ended_in content top d name ≡ Ok ended →
      (entry_found content top d name ≡ Ok ended.slot) × (inode_found content top ended.slot.number ≡ Ok ended.inode)
  ended_is is =
      let s = then_ok (entry_found content top d name) (λ slot. and_then (directory_found content top d) (λ directory. and_then (inode_found content top slot.number)
      (λ inode. Ok (record { directory = directory.block; slot = slot; inode = inode })))) ended is in
      let t = then_ok (directory_found content top d) (λ directory. and_then (inode_found content top s.0.number)
      (λ inode. Ok (record { directory = directory.block; slot = s.0; inode = inode }))) ended s.2 in
      let u = then_ok (inode_found content top s.0.number) (λ (inode : Found). Ok (record { directory = t.0.block; slot = s.0; inode = inode })) ended t.2 in
      let whole = same_done (record { directory = t.0.block; slot = s.0; inode = u.0 }) ended u.2 in (
        s.1 ∙ ap (λ (e : Ended). Ok e.slot) whole,
        ap (λ (e : Ended). inode_found content top e.slot.number) (sym whole) ∙ (u.1 ∙ ap (λ (e : Ended). Ok e.inode) whole),
      )
