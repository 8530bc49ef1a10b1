-- What the look-ups of `unlink` and `rmdir` find: an entry in a block of its directory, which is another inode.
use Rattle.std.proofs.Common.{◌≡◌, ◌≢◌, ℕ, Bool, true, false, not, ◌&&◌, List, Ok, Err, refl, sym, ◌∙◌, ap, subst, Result, ◌==◌, length, ok_or}
use Rattle.ffs_lib.proofs.Common.{BadName, DirNotEmpty, Exists, FfsFault, eqb-false, NoEntry, Slot, is_name}
use Rattle.ffs_lookup.specs.Newest.{and_then, directory_in, slots_of, entry_named, file_in, first_named, if_empty, inode_in, mapped, named_in, rmdir_in, unlink_in}
use Rattle.ffs_lib.specs.Unnaming.{if_again, may_unname, unname_in}
use Rattle.ffs_lookup.proofs.ForCallers.{EntryAt, first_value, not_both}
use Rattle.ffs_lib.proofs.Entering.{directory_from}
use Rattle.ffs_lib.proofs.Moving.{named_from}
use Rattle.ffs_lib.proofs.Owners.{only_first, passed, then_first}
use Rattle.ffs_lib.proofs.Refusals.{not_bare}
use Rattle.ffs_lib.proofs.Writing.{file_from}

pub record FindsEntry (content : ℕ → List ℕ) (fs d : ℕ) (name : List ℕ) (slot : Slot) : Type 0 where
  pub own : List ℕ
  pub is : Ok own ≡ directory_in content fs d
  pub entry : EntryAt content own name slot
  pub good : is_name name ≡ true
  pub target : List ℕ
  pub at : Ok target ≡ inode_in content fs slot.inode
  pub apart : d ≢ slot.inode

-- an entry that may be taken so names another inode than its directory
unname_apart : (d : ℕ) (entry kept : Slot) → may_unname d entry kept ≡ true → d ≢ entry.inode
unname_apart d entry kept e = parts (entry.inode == kept.inode) (entry.inode == d) (not ((entry.block == kept.block) && (entry.place == kept.place))) refl e
  where
    parts : (s t u : Bool) → (entry.inode == d) ≡ t → s && (not t && u) ≡ true → d ≢ entry.inode
    parts false t u a f z = absurd (cc f)
    parts true true u a f z = absurd (cc f)
    parts true false u a f z = eqb-false entry.inode d a (sym z)

module _ (content : ℕ → List ℕ) (fs d : ℕ) (name : List ℕ) (entry : Slot) where
  of_file : (x : Slot) (f : Result (List ℕ) FfsFault) → Ok entry ≡ mapped (λ inode. x) f → (inode : List ℕ) × (entry ≡ x) × (Ok inode ≡ f)
  of_file x (Ok inode) e = (inode, cc, refl)
  of_file x (Err fault) e = absurd (cc e)

  good_name : (other : Slot) → Ok other ≡ named_in content fs d name → is_name name ≡ true
  unfolding named_in
  good_name other e =
      let r = passed (directory_in content fs d) (entry_named content name) other e in
      (then_first (is_name name) (ok_or (first_named content r.0 name) NoEntry) BadName other r.2).0

  -- the same by the value of the directory
  value_of : (other : Slot) → Ok other ≡ named_in content fs d name → other ≡ entry → (target : List ℕ) → Ok target ≡ inode_in content fs other.inode → d ≢ other.inode → FindsEntry content fs d name entry
  value_of other e same target at apart =
      let x = named_from content fs d name other e in
      subst (FindsEntry content fs d name) same (record { own = x.0; is = x.1; entry = first_value content x.0 name other x.2; good = good_name other e; target = target; at = at; apart = apart })

  pub unlink_value : Ok entry ≡ unlink_in content fs d name → FindsEntry content fs d name entry
  unfolding unlink_in
  unlink_value e =
      let r = passed (named_in content fs d name) (λ x. mapped (λ inode. x) (file_in content fs x.inode)) entry e in
      let m = of_file r.0 (file_in content fs r.0.inode) r.2 in
      let x = named_from content fs d name r.0 r.1 in
      value_of r.0 r.1 (sym m.1) m.0 (file_from content fs r.0.inode m.0 m.2) (λ z. not_both content fs r.0.inode x.0 m.0 (x.1 ∙ ap (directory_in content fs) z) m.2)

  pub rmdir_value : Ok entry ≡ rmdir_in content fs d name → FindsEntry content fs d name entry
  unfolding rmdir_in
  rmdir_value e =
      let r = passed (named_in content fs d name) (λ x. and_then (directory_in content fs x.inode) (if_empty content x)) entry e in
      let f = passed (directory_in content fs r.0.inode) (if_empty content r.0) entry r.2 in
      let b = only_first (length (slots_of content f.0) == 0) r.0 entry DirNotEmpty f.2 in
      value_of r.0 r.1 b.1 f.0 (directory_from content fs r.0.inode f.0 f.1).0 (λ z. not_bare content fs d name f.0 r.0 (f.1 ∙ sym (ap (directory_in content fs) z)) r.1 b.0)

  pub unname_value : (other : List ℕ) → Ok entry ≡ unname_in content fs d name other → FindsEntry content fs d name entry
  unfolding unname_in
  unname_value other e =
      let r = passed (named_in content fs d name) (λ x. and_then (named_in content fs d other) (λ kept. and_then (directory_in content fs x.inode) (if_again d x kept))) entry e in
      let k = passed (named_in content fs d other) (λ kept. and_then (directory_in content fs r.0.inode) (if_again d r.0 kept)) entry r.2 in
      let f = passed (directory_in content fs r.0.inode) (if_again d r.0 k.0) entry k.2 in
      let b = only_first (may_unname d r.0 k.0) r.0 entry Exists f.2 in
      value_of r.0 r.1 b.1 f.0 (directory_from content fs r.0.inode f.0 f.1).0 (unname_apart d r.0 k.0 b.0)
