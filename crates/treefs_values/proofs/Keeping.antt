-- Edits that leave pointers as they are.
use Rattle.std.proofs.Common.{◌≡◌, ◌≢◌, ℕ, false, ◌&&◌, ◌||◌, List, sym, ◌∙◌, ap, inl, inr, ne_eqb, if◌then◌else◌}
use Rattle.std.specs.Prelude.{IsTrue, ◌==◌}
use Rattle.std.proofs.lemmas.Bool.{cases_eq, true≢false}
use Rattle.xn_model.specs.Root.{word_at}
use Rattle.treefs_format.specs.Inodes.{pointers_of}
use Rattle.treefs_model.specs.Reading.{pointed}
use Rattle.treefs_model.specs.Trees.{has_pointer, is_inode_offset, is_node_offset}
use Rattle.treefs_model.proofs.Trees.{inode_same}
use Rattle.treefs_values.specs.Parts.{IsChangedAt}
use Rattle.treefs_values.specs.Ways.{SamePointers}

-- a block of another type has none
no_pointer : (node inode t o : ℕ) → t ≢ node → t ≢ inode → has_pointer node inode t o ≡ false
no_pointer node inode t o no_node no_inode = (λ j. (ne_eqb t node no_node j && is_node_offset o) || (ne_eqb t inode no_inode j && is_inode_offset o))

module _ (node inode : ℕ) (type : ℕ → ℕ) (b : ℕ) (old new : ℕ → List ℕ) (changed : IsChangedAt b old new) where
  here_or : (p o : ℕ) → (p ≡ b → word_at (new b) o ≡ word_at (old b) o) → pointed new p o ≡ pointed old p o
  here_or p o here = elim (cases_eq p b) [
    | inl same ↦ ap (λ q. pointed new q o) same ∙ (ap (λ w. if b == 0 then 0 else w) (here same) ∙ sym (ap (λ q. pointed old q o) same))
    | inr ne ↦ ap (λ m. if p == 0 then 0 else word_at m o) (changed p ne)
  ]

  -- of data
  pub keeps_data : type b ≢ node → type b ≢ inode → SamePointers node inode type old new
  keeps_data no_node no_inode p o has =
      here_or p o (λ same. absurd (true≢false (sym has ∙ (ap (λ q. has_pointer node inode (type q) o) same ∙ no_pointer node inode (type b) o no_node no_inode))))

  -- of an inode whose pointers stay
  pub keeps_inode : node ≢ inode → type b ≡ inode → pointers_of (new b) ≡ pointers_of (old b) → SamePointers node inode type old new
  keeps_inode apart is stay p o has =
      here_or p o (λ same.
      let there : IsTrue (has_pointer node inode inode o) = sym (ap (λ t. has_pointer node inode t o) (ap type same ∙ is)) ∙ has in
      sym (ap (λ t. if t then word_at (new b) o else 0) there)
      ∙ (inode_same node inode o (old b) (new b) apart stay ∙ ap (λ t. if t then word_at (old b) o else 0) there))
