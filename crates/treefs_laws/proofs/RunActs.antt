-- The edits behind the nodes of a run of leaves: what they leave, where they attach the leaves to one block, and a front of them.
use mathlib.Core.Path.{fun_ext}
use Rattle.std.proofs.Common.{◌≡◌, ℕ, ◌+◌, ◌-◌, ◌*◌, ◌/◌, ◌<◌, ◌≤◌, Bool, true, false, ◌&&◌, List, [], ◌∷◌, ◌++◌, length, take, Option, None, Some, refl, sym, ◌∙◌, ap, arith, subst, if◌then◌else◌}
use Rattle.std.specs.Prelude.{is_none, nat_lt, slice_index, ◌==◌}
use Rattle.std.specs.Int.{div_ceil}
use Rattle.std.proofs.lemmas.Bool.{ltb-true}
use Rattle.treefs_format.specs.Paths.{steps}
use Rattle.treefs_model.specs.Acts.{Act, changes_act, wait_act}
use Rattle.treefs_lookup.specs.Walks.{reach}
use Rattle.treefs_lookup.specs.declared.inodes.Found.{Found}
use Rattle.treefs_edits.specs.Memories.{Memory}
use Rattle.treefs_edits.specs.Written.{all_written, written}
use Rattle.treefs_edits.specs.declared.tree.Tree.{Tree}
use Rattle.treefs_byte_plans.specs.Fields.{size_acts, size_changes, times_now}
use Rattle.treefs_byte_plans.specs.Runs.{attach_acts, ends_in, holder_acts, own_act, planned_run, run_waits, size_parts}
use Rattle.treefs_byte_plans.specs.declared.run_plan.RunPlan.{RunPlan}
use Rattle.treefs_laws.proofs.Fronts.{IsFront, attach_front, front_none}
use Rattle.treefs_laws.proofs.Planned.{waits_write}
use Rattle.treefs_laws.proofs.PointersPatched.{attach_each, attach_many, attached_by, patches_behind}

-- what a memory says of the size and the times of an inode is written, where the size rises
abbrev pub sized_by : Memory → ℕ → Option ℕ → (ℕ → List ℕ) → ℕ → List ℕ
sized_by memory block None m = m
sized_by memory block (Some s) m = written (changes_act block (size_changes (Some s) (times_now memory) ∷ []) None) m

-- bs: the leaves, which the block holder is to lead to from l0 on; m1: the blocks behind the nodes
module _ (tree : Tree) (memory : Memory) (x : Found) (m0 : ℕ → List ℕ) (at : ℕ) (bytes : List ℕ) (count : ℕ) (bs : List ℕ) (long : length bs ≡ count)
    (holder l0 : ℕ) (m1 : ℕ → List ℕ) (holder_long : l0 + 4 * length bs ≤ length (m1 holder)) (own_holder : at / 512 < 16 → holder ≡ x.block)
    (first_is : x.fields.leaf_type ≡ slice_index (attach_each holder l0 bs m1 x.block) 0)
    (own_long : 0 < length (attach_each holder l0 bs m1 x.block)) where
  abbrev leaf : ℕ
  leaf = at / 512

  abbrev plan : RunPlan
  plan = planned_run tree memory x (reach m0 x.block (steps leaf)) at (length bytes) count

  abbrev m2 : ℕ → List ℕ
  m2 = attach_each holder l0 bs m1

  abbrev size : Option ℕ
  size = plan.size

  abbrev with_size : Option ℕ → ℕ → List ℕ
  with_size o = sized_by memory x.block o m2

  waits_none : (t : Bool) → all_written (if t then wait_act x.block (x.fields.leaf_type ∷ []) holder ∷ [] else []) m2 ≡ m2
  waits_none true = waits_write m2 x.block x.fields.leaf_type first_is own_long (holder ∷ []) []
  waits_none false = refl

  own_left : leaf < 16 → (o : Option ℕ) → size ≡ o → written (own_act plan holder l0 bs) m1 ≡ with_size o
  own_left lt o is =
      patches_behind (own_act plan holder l0 bs) l0 bs (size_parts size plan.times) m1 refl
      ∙ ((λ j. written (record {
        block = own_holder lt j;
        edit = record {
          patches = size_parts (is j) (times_now memory);
          adds = [];
          drops = [];
          after = None;
        };
        behind = None;
      })
      (attach_many holder bs l0 m1 (λ any. holder_long) j)) ∙ by o)
    where
      none_written : (block : ℕ) (m : ℕ → List ℕ) → written (record {
        block = block;
        edit = record
            { patches = []; adds = []; drops = []; after = None };
        behind = None;
      }) m ≡ m
      none_written block m = fun_ext (λ c. same c (c == block))
        where
          same : (c : ℕ) (t : Bool) → (if t then m c else m c) ≡ m c
          same c true = refl
          same c false = refl

      by : (o : Option ℕ) → written (record {
        block = x.block;
        edit = record {
          patches = size_parts o (times_now memory);
          adds = [];
          drops = [];
          after = None;
        };
        behind = None;
      }) m2
          ≡ with_size o
      by None = none_written x.block m2
      by (Some k) = refl

  later_left : (o : Option ℕ) → size ≡ o → all_written (size_acts x.block holder size plan.times ++ run_waits plan holder) m2 ≡ with_size o
  later_left None is =
      ap (λ k. all_written (size_acts x.block holder k (times_now memory) ++ run_waits plan holder) m2) is ∙ waits_none plan.waits
  later_left (Some k) is =
      ap (λ z. all_written (size_acts x.block holder z (times_now memory) ++ run_waits plan holder) m2) is
      ∙ ap (λ t. all_written (if t then wait_act x.block (x.fields.leaf_type ∷ []) holder ∷ [] else []) (with_size (Some k))) (no_waits k is)
    where
      no_waits : (k : ℕ) → size ≡ Some k → plan.waits ≡ false
      no_waits k is = ap (λ z. is_none z && ends_in x.fields.size (leaf + count - 1)) is

  left_by : (t : Bool) → nat_lt leaf 16 ≡ t → (o : Option ℕ) → size ≡ o →
      all_written (if t then own_act plan holder l0 bs ∷ [] else
      attach_acts (div_ceil count 16) holder l0 bs ++ (size_acts x.block holder size plan.times ++ run_waits plan holder)) m1 ≡ with_size o
  left_by true e o is = own_left (ltb-true leaf 16 e) o is
  left_by false e o is =
      attached_by holder (div_ceil count 16) bs l0 m1 (size_acts x.block holder size plan.times ++ run_waits plan holder)
      (omega arith) (λ any. holder_long) ∙ later_left o is

  pub holder_left : (o : Option ℕ) → size ≡ o → all_written (holder_acts plan holder l0 bs) m1 ≡ with_size o
  holder_left o is = left_by (nat_lt leaf 16) refl o is

  -- Where one of the edits is refused

  tail_few : (o : Option ℕ) → size ≡ o → length (size_acts x.block holder size plan.times ++ run_waits plan holder) ≤ 1
  tail_few None is = subst (λ z. length (size_acts x.block holder z plan.times ++ run_waits plan holder) ≤ 1) (sym is) (by plan.waits)
    where
      by : (t : Bool) → length (if t then wait_act x.block (x.fields.leaf_type ∷ []) holder ∷ [] else []) ≤ 1
      by true = omega arith
      by false = omega arith
  tail_few (Some k) is =
      subst (λ z. length (size_acts x.block holder z plan.times ++ run_waits plan holder) ≤ 1) (sym is)
      (subst (λ t. length (size_acts x.block holder (Some k) plan.times ++ (if t then wait_act x.block (x.fields.leaf_type ∷ []) holder ∷ [] else [])) ≤ 1)
      (sym (ap (λ z. is_none z && ends_in x.fields.size (leaf + count - 1)) is)) (omega arith))

  pub holder_front : (front : List Act) → IsFront (holder_acts plan holder l0 bs) front → (k : ℕ) ×
      (all_written front m1 ≡ attach_each holder l0 (take k bs) m1)
  holder_front front is = by (nat_lt leaf 16) is
    where
      by : (t : Bool) → IsFront (if t then own_act plan holder l0 bs ∷ [] else
          attach_acts (div_ceil count 16) holder l0 bs ++ (size_acts x.block holder size plan.times ++ run_waits plan holder)) front →
          (k : ℕ) × (all_written front m1 ≡ attach_each holder l0 (take k bs) m1)
      by true is = (0, ap (λ f. all_written f m1) (front_none (own_act plan holder l0 bs ∷ []) front is (omega arith)))
      by false is = attach_front holder (div_ceil count 16) bs l0 m1 (size_acts x.block holder size plan.times ++ run_waits plan holder)
          front (tail_few size refl)
          (λ any. holder_long) is
