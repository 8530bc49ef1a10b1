-- The blocks that a call begins which makes an inode: each has the bytes of its type.
use Rattle.std.proofs.Common.{◌≢◌, ℕ, ◌<◌, ◌≤◌, ◌^◌, List, [], ◌∷◌, length, refl, sym, arith, subst}
use Rattle.std.specs.Prelude.{All}
use Rattle.std.proofs.lemmas.List.Elements.{All-cons, All-nil}
use Rattle.xn_model.specs.Types.{Types}
use Rattle.treefs_format.specs.Fields.{AreInRange}
use Rattle.treefs_format.specs.Inodes.{inode_bytes}
use Rattle.treefs_format.specs.Nodes.{node_bytes}
use Rattle.treefs_format.specs.Templates.{IsTree}
use Rattle.treefs_format.specs.declared.fields.Fields.{Fields}
use Rattle.treefs_format.proofs.ForCallers.{inode_long, inode_pointers, node_children, node_long}
use Rattle.treefs_edits.specs.Missing.{child_before, first_byte, node_starts, path_starts, type_before}
use Rattle.treefs_edits.specs.declared.start.Start.{Start}
use Rattle.treefs_name_plans.specs.Additions.{addition_starts, bucket_path}
use Rattle.treefs_name_plans.specs.declared.addition.Addition.{Addition}
use Rattle.treefs_name_plans.specs.declared.addition.Addition.TheVariants.{Behind, Rewritten, Made}
use Rattle.treefs_values.proofs.ForCallers.{IsFineStart, bare_inode, bare_node, inode_offset, inode_small, low_offset, node_small}
use Rattle.treefs_laws.proofs.NewPlanned.{IsAddition}

module _ (T : Types) (fs node inode top : ℕ) (few : fs < 32) (tree : IsTree T node inode) (other : node ≢ inode)
    (some : (node ≢ 0) × (inode ≢ 0)) (small : (node < 2 ^ 8) × (inode < 2 ^ 8)) where
  abbrev Fine : Start → Type 0
  Fine = IsFineStart T fs node inode top few tree

  fine_node : (ty t : ℕ) → ty ≢ 0 → t < 256 → Fine (record { ty = ty; bytes = node_bytes t })
  fine_node ty t there low = record {
    whole = (node_long t, node_small t low);
    some_type = there;
    bare = λ o has. let stands = low_offset node inode ty o has in bare_node (node_bytes t) (node_children t) o stands.0 stands.1 stands.2;
  }

  pub fine_inode : (fields : Fields) (head : List ℕ) → AreInRange fields → All (λ b. b < 256) head → length head ≤ 384 → Fine (record { ty = inode; bytes = inode_bytes fields head })
  fine_inode fields head range bytes short = record {
    whole = (inode_long fields head short, inode_small fields head range bytes);
    some_type = some.1;
    bare = λ o has.
        let low = low_offset node inode inode o has in
        let at = inode_offset node inode inode o other refl has in
        bare_inode (inode_bytes fields head) (inode_pointers fields head) o at.0 at.1 low.2;
  }

  pub fine_nodes : (os : List ℕ) → All Fine (node_starts node inode os)
  fine_nodes [] = All-nil Fine
  fine_nodes (o ∷ os) =
      All-cons Fine (record { ty = node; bytes = node_bytes (child_before node inode os) }) (node_starts node inode os)
      (fine_node node (child_before node inode os) some.0 (child os)) (fine_nodes os)
    where
      child : (os : List ℕ) → child_before node inode os < 256
      child [] = let s = small.1 in omega arith
      child (o ∷ os) = let s = small.0 in omega arith

  pub fine_path : (os : List ℕ) → All Fine (path_starts node os)
  fine_path [] = All-nil Fine
  fine_path (o ∷ os) =
      All-cons Fine (record { ty = type_before node os; bytes = node_bytes (first_byte node os) }) (path_starts node os)
      (fine_node (type_before node os) (first_byte node os) (typed os) (first os)) (fine_path os)
    where
      typed : (os : List ℕ) → type_before node os ≢ 0
      typed [] = λ z. absurd (omega (arith, z))
      typed (o ∷ os) = some.0

      before : (os : List ℕ) → type_before node os < 256
      before [] = omega arith
      before (o ∷ os) = let s = small.0 in omega arith

      first : (os : List ℕ) → first_byte node os < 256
      first [] = omega arith
      first (o ∷ os) = before os

  pub fine_addition : (content : ℕ → List ℕ) (key : List ℕ) (c : ℕ) (name : List ℕ) (addition : Addition) → IsAddition content key node c name addition → All Fine (addition_starts addition)
  fine_addition content key c name (Behind block offset) is = All-nil Fine
  fine_addition content key c name (Rewritten old) is = All-nil Fine
  fine_addition content key c name (Made made) is = subst (λ t. All Fine (path_starts t (bucket_path made))) (sym is.node_is) (fine_path (bucket_path made))
