-- What create, symlink and mkdir make of an open volume.
use Rattle.std.proofs.Common.{ℕ, ◌<◌, ◌≤◌, List, [], None, Ok, Err, refl, sym, arith, subst}
use Rattle.std.specs.Prelude.{All, length}
use Rattle.std.proofs.lemmas.List.Elements.{All-nil}
use Rattle.xn_model.specs.Types.{Types}
use Rattle.xn_model.specs.Lives.{StoreState}
use Rattle.treefs_format.specs.Inodes.{inode_bytes}
use Rattle.treefs_format.specs.declared.kind.Kind.TheVariants as kind
use Rattle.treefs_model.specs.Files.{Directory, File, SymbolicLink}
use Rattle.treefs.specs.Creating.{CreateDoes, MkdirDoes, SymlinkDoes, naming_entry, new_fields}
use Rattle.treefs.specs.declared.attributes.Attributes.{Attributes}
use Rattle.treefs.specs.declared.volume.Volume.{Volume}
use Rattle.treefs_laws.specs.Making.{FitsAttributes, MakesInode, new_inode}
use Rattle.treefs_laws.specs.Open.{IsOpen}
use Rattle.treefs_laws.proofs.Created.{directory_few, new_said, noted}
use Rattle.treefs_laws.proofs.Planned.{same_done}

module _ (T : Types) (state state' : StoreState) (volume : Volume) (d : ℕ) (name : List ℕ) (is_open : IsOpen T state volume)
    (wide : All (λ b. b < 256) name) (attributes : Attributes) (fit : FitsAttributes attributes) where
  pub created_so : (volume' : Volume) (n : ℕ) → CreateDoes T state state' volume volume' d name attributes (Ok n) →
      IsOpen T state' volume' × MakesInode state state' volume volume' d name n (new_inode volume.memory.clock attributes (File []))
  created_so volume' n (Err fault, does, e) = absurd (cc e)
  created_so volume' n (Ok plan, does, e) =
      subst (λ m. IsOpen T state' volume' × MakesInode state state' volume volume' d name m (new_inode volume.memory.clock attributes (File [])))
      (sym (same_done n plan.number e))
      (new_said T state state' volume d name is_open wide kind.File attributes fit 0 (omega arith) [] (All-nil (λ b. b < 256)) (omega arith) (λ is. refl) volume' plan does)

  pub symlinked_so : (target : List ℕ) → All (λ b. b < 256) target → length target ≤ 384 → (volume' : Volume) (n : ℕ) →
      SymlinkDoes T state state' volume volume' d name attributes target (Ok n) →
      IsOpen T state' volume' × MakesInode state state' volume volume' d name n (new_inode volume.memory.clock attributes (SymbolicLink target))
  symlinked_so target target_wide short volume' n (Err fault, does, e) = absurd (cc e)
  symlinked_so target target_wide short volume' n (Ok plan, does, e) =
      subst (λ m. IsOpen T state' volume' × MakesInode state state' volume volume' d name m (new_inode volume.memory.clock attributes (SymbolicLink target)))
      (sym (same_done n plan.number e))
      (new_said T state state' volume d name is_open wide kind.SymbolicLink attributes fit 0 (omega arith) target target_wide short (λ is. absurd (cc is)) volume' plan does)

  pub directory_so : (volume' : Volume) (n : ℕ) → MkdirDoes T state state' volume volume' d name attributes (Ok n) →
      IsOpen T state' volume' × MakesInode state state' volume volume' d name n (new_inode volume.memory.clock attributes (Directory d (λ x. None)))
  directory_so volume' n (Err fault, middle, does, is, e) = absurd (cc e)
  directory_so volume' n (Ok plan, middle, does, is, e) =
      let few = directory_few T state state' volume middle d name (inode_bytes (new_fields volume.tree volume.memory kind.Directory attributes d 0) []) plan does in
      let made = new_said T state state' volume d name is_open wide kind.Directory attributes fit d few [] (All-nil (λ b. b < 256)) (omega arith) (λ is. refl) middle plan does in
      subst (λ v. IsOpen T state' v × MakesInode state state' volume v d name n (new_inode volume.memory.clock attributes (Directory d (λ x. None)))) (sym is)
      (noted T state state' volume d name is_open wide kind.Directory attributes fit d few [] (All-nil (λ b. b < 256)) (omega arith) (λ is. refl) middle n
      (naming_entry state' middle.tree.fs.number plan.directory plan.naming middle.memory.last_dir)
      (subst (λ m. IsOpen T state' middle × MakesInode state state' volume middle d name m (new_inode volume.memory.clock attributes (Directory d (λ x. None))))
      (sym (same_done n plan.number e)) made))
