-- Attributes of an inode as one call sets them.
--     with_attributes     an inode with them, and with the caller's time
--     AreInWidth          each is as wide as its field
use Rattle.std.specs.Prelude.{◌≡◌, ℕ, ℤ, ◌%◌, ◌<◌, ◌^◌, FitsSigned, Option, None, Some}
use Rattle.std.specs.Int.{w64}
use Rattle.treefs_byte_plans.specs.declared.attributes.Attributes.{Attributes}
use Rattle.treefs_byte_plans.specs.declared.attributes.Owner.{Owner}
use Rattle.treefs_model.specs.Changes.{marked}
use Rattle.treefs_model.specs.Files.{Inode}

-- 12 bits
abbrev pub with_some_permissions : Option ℕ → Inode → Inode
with_some_permissions None inode = inode
with_some_permissions (Some permissions) inode = record inode { permissions = permissions % 4096 }

abbrev pub with_some_owner : Option Owner → Inode → Inode
with_some_owner None inode = inode
with_some_owner (Some owner) inode = record inode { uid = owner.uid; gid = owner.gid }

abbrev pub with_some_mtime : Option ℤ → Inode → Inode
with_some_mtime None inode = inode
with_some_mtime (Some mtime) inode = record inode { mtime = mtime }

abbrev pub with_attributes : ℤ → Attributes → Inode → Inode
with_attributes time attributes inode =
    with_some_mtime attributes.mtime (with_some_owner attributes.owner (with_some_permissions attributes.permissions (marked time inode)))

pub record AreInWidth (attributes : Attributes) : Type 0 where
  pub owner : (owner : Owner) → attributes.owner ≡ Some owner → (owner.uid < 2 ^ 32) × (owner.gid < 2 ^ 32)
  pub mtime : (mtime : ℤ) → attributes.mtime ≡ Some mtime → FitsSigned w64 mtime
