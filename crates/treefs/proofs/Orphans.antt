-- Numbers that no inode has.
use Rattle.std.proofs.Common.{◌≡◌, ℕ, ◌<◌, ◌==◌, ◌∙◌, Bool, true, false, ◌||◌, List, None, Ok, Option, Result, ap, eq-eqb, if◌then◌else◌, refl, subst, sym}
use Rattle.std.proofs.lemmas.Bool.{lt-ltb}
use Rattle.std.specs.Bool.{MatchBool}
use Rattle.xn_model.specs.Lives.{StoreState}
use Rattle.treefs_format.specs.Paths.{leaf_count}
use Rattle.treefs_format.specs.Roots.{leaf_of_inode}
use Rattle.treefs_model.specs.Reading.{leaf_block}
use Rattle.treefs_model.specs.declared.fault.Fault.{Fault}
use Rattle.treefs_lookup.specs.Inodes.{found_block, inode_found}
use Rattle.treefs_lookup.specs.Readable.{readable}
use Rattle.treefs_edits.specs.Memories.{Memory}
use Rattle.treefs_edits.specs.declared.tree.Tree.{Tree}
use Rattle.treefs.specs.Reaping.{IsFreeingPlanned, IsReapPlanned, orphan_block, orphan_in}
use Rattle.treefs.specs.declared.reap_plan.ReapPlan.{ReapPlan}

no_block : (content : ℕ → List ℕ) (b : Bool) (x : ℕ) → orphan_in (found_block content (if b || true then 0 else x)) ≡ 0
no_block content true x = refl
no_block content false x = refl

pub no_orphan_0 : (content : ℕ → List ℕ) (top n : ℕ) → n ≡ 0 → orphan_block content top n ≡ 0
unfolding inode_found
no_orphan_0 content top n e = subst (λ (m : ℕ). orphan_block content top m ≡ 0) (sym e) refl

pub no_orphan_past : (content : ℕ → List ℕ) (top n : ℕ) → leaf_count < n → orphan_block content top n ≡ 0
unfolding inode_found
no_orphan_past content top n lt =
    ap (λ (b : Bool). orphan_in (found_block content (if (n == 0) || b then 0 else leaf_block content top (leaf_of_inode n)))) (lt-ltb leaf_count n lt)
    ∙ no_block content (n == 0) (leaf_block content top (leaf_of_inode n))

pub nothing_planned : (state : StoreState) (tree : Tree) (memory : Memory) (numbers : List ℕ) (number : ℕ) →
    orphan_block (readable state tree.fs.number) tree.top number ≡ 0 → IsReapPlanned state tree memory numbers number (Ok None)
nothing_planned state tree memory numbers number none =
    let nothing : Result (Option ReapPlan) Fault = Ok None in
    let same : nothing ≡ nothing = refl in
    subst (λ (b : Bool). MatchBool b (nothing ≡ nothing) (IsFreeingPlanned state tree memory numbers (leaf_of_inode number) nothing))
    (sym (eq-eqb (orphan_block (readable state tree.fs.number) tree.top number) 0 none)) same
