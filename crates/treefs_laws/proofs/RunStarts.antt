-- The blocks that a run begins, and its edits, which drop none.
use Rattle.std.proofs.Common.{◌≡◌, ◌≢◌, ℕ, zero, suc, ◌+◌, ◌-◌, ◌<◌, ◌≤◌, ◌^◌, Bool, true, false, List, [], ◌∷◌, ◌++◌, length, take, drop, Option, None, Some, refl, ◌∙◌, ap, inl, inr, arith, length-append, length-drop, length-take-le, take_all, if◌then◌else◌}
use Rattle.std.specs.Prelude.{All, nat_lt}
use Rattle.std.specs.Int.{div_ceil}
use Rattle.std.proofs.lemmas.Bool.{cases_lt}
use Rattle.std.proofs.lemmas.List.{length-replicate}
use Rattle.std.proofs.lemmas.List.Elements.{All-append, All-cons, All-drop, All-nil, All-replicate, All-take}
use Rattle.xn_model.specs.BareDisks.{zeros}
use Rattle.xn_model.specs.Types.{Types}
use Rattle.treefs_format.specs.Nodes.{node_bytes}
use Rattle.treefs_format.specs.Templates.{IsTree}
use Rattle.treefs_format.proofs.ForCallers.{node_children, node_long}
use Rattle.treefs_model.specs.Acts.{Act, attach_act, changes_act, wait_act}
use Rattle.treefs_edits.specs.Missing.{child_before, node_acts, node_starts}
use Rattle.treefs_edits.specs.Written.{all_written, written}
use Rattle.treefs_edits.specs.declared.start.Start.{Start}
use Rattle.treefs_edits.specs.declared.times.Times.{Times}
use Rattle.treefs_byte_plans.specs.Fields.{size_acts, size_changes}
use Rattle.treefs_byte_plans.specs.Runs.{attach_acts, holder_acts, leaf_of, leaf_starts, own_act, run_waits}
use Rattle.treefs_byte_plans.specs.declared.run_plan.RunPlan.{RunPlan}
use Rattle.treefs_values.specs.Values.{KeepsBlocks}
use Rattle.treefs_values.specs.Volumes.{IsWholeBlock}
use Rattle.treefs_values.proofs.ForCallers.{IsFineStart, New, bare_node, blocks_in, low_offset, node_small}
use Rattle.treefs_laws.proofs.BlockAside.{no_pointer}

-- Blocks

leaf_whole : (place : ℕ) (bytes : List ℕ) → place + length bytes ≤ 512 → All (λ b. b < 256) bytes → IsWholeBlock (leaf_of place bytes)
leaf_whole place bytes fits range =
    let long : length (zeros 512) ≡ 512 = length-replicate {A = ℕ} 512 0 in
    let front = length-take-le place (zeros 512) (omega arith) in
    let back = length-drop (place + length bytes) (zeros 512) in
    let zero_range : All (λ b. b < 256) (zeros 512) = All-replicate (λ b. b < 256) 512 0 (omega arith) in (
      length-append (take place (zeros 512) ++ bytes) (drop (place + length bytes) (zeros 512))
          ∙ (ap (λ l. l + length (drop (place + length bytes) (zeros 512))) (length-append (take place (zeros 512)) bytes) ∙ omega arith),
      All-append (λ b. b < 256) (take place (zeros 512) ++ bytes) (drop (place + length bytes) (zeros 512))
          (All-append (λ b. b < 256) (take place (zeros 512)) bytes (All-take (λ b. b < 256) place (zeros 512) zero_range) range)
          (All-drop (λ b. b < 256) (place + length bytes) (zeros 512) zero_range),
    )

pub few_taken : (k : ℕ) (bytes : List ℕ) → length (take k bytes) ≤ k
few_taken k bytes = elim (cases_lt (length bytes) k) [
  | inl less ↦ let e = ap length (take_all k bytes (omega arith)) in omega arith
  | inr more ↦ let e = length-take-le k bytes more in omega arith
]

module _ (T : Types) (fs node inode top : ℕ) (few : fs < 32) (tree : IsTree T node inode) (other : (2 ≢ node) × (2 ≢ inode))
    (some : node ≢ 0) (small : node < 2 ^ 8) where
  abbrev Fine : Start → Type 0
  Fine = IsFineStart T fs node inode top few tree

  pub nodes_fine : (os : List ℕ) → All Fine (node_starts node 2 os)
  nodes_fine [] = All-nil Fine
  nodes_fine (o ∷ os) =
      All-cons Fine (record { ty = node; bytes = node_bytes (child_before node 2 os) }) (node_starts node 2 os) (record {
        whole = (node_long (child_before node 2 os), node_small (child_before node 2 os) (child os));
        some_type = some;
        bare = λ p has.
            let stands = low_offset node inode node p has in bare_node (node_bytes (child_before node 2 os)) (node_children (child_before node 2 os))
            p stands.0 stands.1 stands.2;
      }) (nodes_fine os)
    where
      child : (os : List ℕ) → child_before node 2 os < 256
      child [] = omega arith
      child (o ∷ os) = omega arith

  pub leaves_fine : (count place : ℕ) (bytes : List ℕ) → place < 512 → All (λ b. b < 256) bytes → All Fine (leaf_starts count place bytes)
  leaves_fine zero place bytes low range = All-nil Fine
  leaves_fine (suc count) place bytes low range =
      All-cons Fine (record { ty = 2; bytes = leaf_of place (take (512 - place) bytes) }) (leaf_starts count 0 (drop (512 - place) bytes)) (record {
        whole = leaf_whole place (take (512 - place) bytes) (let f = few_taken (512 - place) bytes in omega arith)
            (All-take (λ b. b < 256) (512 - place) bytes range);
        some_type = λ z. absurd (cc z);
        bare = λ p has. absurd (no_pointer node inode 2 p other.0 other.1 refl has);
      }) (leaves_fine count 0 (drop (512 - place) bytes) (omega arith) (All-drop (λ b. b < 256) (512 - place) bytes range))

pub node_starts_long : (node : ℕ) (os : List ℕ) → length (node_starts node 2 os) ≡ length os
node_starts_long node [] = refl
node_starts_long node (o ∷ os) = ap suc (node_starts_long node os)

pub leaf_starts_long : (count place : ℕ) (bytes : List ℕ) → length (leaf_starts count place bytes) ≡ count
leaf_starts_long zero place bytes = refl
leaf_starts_long (suc count) place bytes = ap suc (leaf_starts_long count 0 (drop (512 - place) bytes))

pub blocks_parts : (xs ys : List New) → blocks_in (xs ++ ys) ≡ blocks_in xs ++ blocks_in ys
blocks_parts [] ys = refl
blocks_parts (x ∷ xs) ys = ap (λ l. x.block ∷ l) (blocks_parts xs ys)

pub blocks_first : (k : ℕ) (xs : List New) → blocks_in (take k xs) ≡ take k (blocks_in xs)
blocks_first zero xs = refl
blocks_first (suc k) [] = refl
blocks_first (suc k) (x ∷ xs) = ap (λ l. x.block ∷ l) (blocks_first k xs)

pub blocks_long : (xs : List New) → length (blocks_in xs) ≡ length xs
blocks_long [] = refl
blocks_long (x ∷ xs) = ap suc (blocks_long xs)

-- Edits

node_keeps : (node owner : ℕ) (os begun : List ℕ) → All KeepsBlocks (node_acts node 2 owner os begun)
node_keeps node owner [] begun = All-nil KeepsBlocks
node_keeps node owner (o ∷ os) [] = All-nil KeepsBlocks
node_keeps node owner (o ∷ os) (block ∷ begun) =
    All-cons KeepsBlocks (attach_act owner o node (block ∷ []) None) (wait_act block (child_before node 2 os ∷ []) owner ∷ node_acts node 2 block os begun) refl
    (All-cons KeepsBlocks (wait_act block (child_before node 2 os ∷ []) owner) (node_acts node 2 block os begun) refl (node_keeps node block os begun))

attach_keeps : (n h o : ℕ) (zs : List ℕ) → All KeepsBlocks (attach_acts n h o zs)
attach_keeps zero h o zs = All-nil KeepsBlocks
attach_keeps (suc n) h o zs = All-cons KeepsBlocks (attach_act h o 2 (take 16 zs) None) (attach_acts n h (o + 64) (drop 16 zs)) refl
    (attach_keeps n h (o + 64) (drop 16 zs))

size_keeps : (inode h : ℕ) (size : Option ℕ) (times : Times) → All KeepsBlocks (size_acts inode h size times)
size_keeps inode h None times = All-nil KeepsBlocks
size_keeps inode h (Some s) times = All-cons KeepsBlocks (changes_act inode (size_changes (Some s) times ∷ []) (Some h)) [] refl (All-nil KeepsBlocks)

waits_keep : (p : RunPlan) (h : ℕ) (t : Bool) → All KeepsBlocks (if t then wait_act p.inode (p.first ∷ []) h ∷ [] else [])
waits_keep p h true = All-cons KeepsBlocks (wait_act p.inode (p.first ∷ []) h) [] refl (All-nil KeepsBlocks)
waits_keep p h false = All-nil KeepsBlocks

holder_keeps : (p : RunPlan) (h o : ℕ) (zs : List ℕ) → All KeepsBlocks (holder_acts p h o zs)
holder_keeps p h o zs = by (nat_lt p.leaf 16)
  where
    by : (t : Bool) → All KeepsBlocks (if t then own_act p h o zs ∷ [] else attach_acts (div_ceil p.count 16) h o zs ++
        (size_acts p.inode h p.size p.times ++ run_waits p h))
    by true = All-cons KeepsBlocks (own_act p h o zs) [] refl (All-nil KeepsBlocks)
    by false = All-append KeepsBlocks (attach_acts (div_ceil p.count 16) h o zs) (size_acts p.inode h p.size p.times ++ run_waits p h)
        (attach_keeps (div_ceil p.count 16) h o zs)
        (All-append KeepsBlocks (size_acts p.inode h p.size p.times) (run_waits p h) (size_keeps p.inode h p.size p.times) (waits_keep p h p.waits))

pub acts_keep : (p : RunPlan) (node owner : ℕ) (os begun : List ℕ) (h o : ℕ) (zs : List ℕ) → All KeepsBlocks
    (node_acts node 2 owner os begun ++ holder_acts p h o zs)
acts_keep p node owner os begun h o zs = All-append KeepsBlocks (node_acts node 2 owner os begun) (holder_acts p h o zs) (node_keeps node owner os begun)
    (holder_keeps p h o zs)

pub written_parts : (first rest : List Act) (m : ℕ → List ℕ) → all_written (first ++ rest) m ≡ all_written rest (all_written first m)
written_parts [] rest m = refl
written_parts (act ∷ first) rest m = written_parts first rest (written act m)
