-- Pointers in an inode, one after another.
use Rattle.std.proofs.Common.{◌≡◌, ℕ, suc, ◌+◌, ◌-◌, ◌<◌, ◌≢◌, Bool, List, [], ◌∷◌, ◌++◌, sym, ◌∙◌, ap, arith, append_assoc, eq-eqb, ne_eqb, if◌then◌else◌}
use Rattle.std.specs.Prelude.{flat_map}
use Rattle.std.specs.List.{range_with_len}
use Rattle.treefs_format.specs.Paths.{leaf_offset}
use Rattle.treefs_model.specs.Reading.{pointed}
use Rattle.treefs_byte_plans.specs.Roots.{leaf_pointers, pointer_if}
use Rattle.treefs_byte_plans.specs.declared.roots_plan.Pointer.{Pointer}

module _ (content : ℕ → List ℕ) (inode : ℕ) where
  abbrev pub pointer : ℕ → ℕ → Pointer
  pointer offset block = record { offset = offset; block = block }

  leaves_more : (leaf : ℕ) → leaf < 16 → leaf_pointers content inode leaf ≡ pointer_if content inode (leaf_offset leaf) ++ leaf_pointers content inode (leaf + 1)
  leaves_more leaf lt =
      let e : 16 - leaf ≡ suc (16 - (leaf + 1)) = omega arith in
      ap (λ n. flat_map (λ i. pointer_if content inode (leaf_offset i)) (range_with_len leaf n)) e

  pub leaf_past : (all front : List Pointer) (leaf block : ℕ) → leaf < 16 → block ≡ pointed content inode (leaf_offset leaf) → block ≡ 0 →
      all ≡ front ++ leaf_pointers content inode leaf → all ≡ front ++ leaf_pointers content inode (leaf + 1)
  leaf_past all front leaf block lt is none e =
      e ∙ ap (λ l. front ++ l) (leaves_more leaf lt
      ∙ ap (λ (t : Bool). (if t then [] else pointer (leaf_offset leaf) (pointed content inode (leaf_offset leaf)) ∷ []) ++ leaf_pointers content inode (leaf + 1)) (eq-eqb (pointed content inode (leaf_offset leaf)) 0 (sym is ∙ none)))

  pub leaf_more : (all front longer : List Pointer) (leaf block : ℕ) → leaf < 16 → block ≡ pointed content inode (leaf_offset leaf) → block ≢ 0 →
      longer ≡ front ++ pointer (leaf_offset leaf) block ∷ [] → all ≡ front ++ leaf_pointers content inode leaf → all ≡ longer ++ leaf_pointers content inode (leaf + 1)
  leaf_more all front longer leaf block lt is some more e =
      e ∙ (ap (λ l. front ++ l) (leaves_more leaf lt
      ∙ (ap (λ (t : Bool). (if t then [] else pointer (leaf_offset leaf) (pointed content inode (leaf_offset leaf)) ∷ []) ++ leaf_pointers content inode (leaf + 1)) (ne_eqb (pointed content inode (leaf_offset leaf)) 0 (λ z. some (is ∙ z)))
      ∙ ap (λ b. pointer (leaf_offset leaf) b ∷ leaf_pointers content inode (leaf + 1)) (sym is)))
      ∙ (sym (append_assoc front (pointer (leaf_offset leaf) block ∷ []) (leaf_pointers content inode (leaf + 1))) ∙ ap (λ l. l ++ leaf_pointers content inode (leaf + 1)) (sym more)))
