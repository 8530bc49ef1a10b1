-- Inodes that an edit leaves as they are, and directories that have the same records then.
use Rattle.std.proofs.Common.{◌≡◌, ◌≢◌, ℕ, List, refl, sym, ◌∙◌, ap, subst}
use Rattle.treefs_format.specs.Fields.{fields_of}
use Rattle.treefs_model.specs.Reading.{block_at, key_in, leaf_block}
use Rattle.treefs_values.specs.Names.{bucket_entries}
use Rattle.treefs_values.specs.Ways.{IsWay, block_numbered}
use Rattle.treefs_values.proofs.Alike.{IsAlike}

pub record IsKeptInode (old new : ℕ → List ℕ) (top n : ℕ) : Type 0 where
  pub block : block_numbered new top n ≡ block_numbered old top n
  pub alike : IsAlike old new (block_numbered old top n)
  pub ways : (l : ℕ) (os : List ℕ) → IsWay os l → block_at new (block_numbered old top n) os ≡ block_at old (block_numbered old top n) os

-- all that are there, but for inode 0, of which the key stays
pub record KeepsInodes (old new : ℕ → List ℕ) (top : ℕ) : Type 0 where
  pub key : key_in new top ≡ key_in old top
  pub inodes : (n : ℕ) → n ≢ 0 → block_numbered old top n ≢ 0 → IsKeptInode old new top n

-- of one that is there, the fields and the records
pub record KeepsNames (old new : ℕ → List ℕ) (top n : ℕ) : Type 0 where
  pub key : key_in new top ≡ key_in old top
  pub block : block_numbered new top n ≡ block_numbered old top n
  pub fields : fields_of (new (block_numbered old top n)) ≡ fields_of (old (block_numbered old top n))
  pub entries : (k : ℕ) → bucket_entries new (block_numbered old top n) k ≡ bucket_entries old (block_numbered old top n) k
  -- and the leaves that are there
  pub leaves : (i : ℕ) → leaf_block old (block_numbered old top n) i ≢ 0 → leaf_block new (block_numbered old top n) i ≡ leaf_block old (block_numbered old top n) i

alike_then : (old middle new : ℕ → List ℕ) (c : ℕ) → IsAlike old middle c → IsAlike middle new c → IsAlike old new c
alike_then old middle new c a b = record {
  own = b.own ∙ a.own;
  leaves = λ i. b.leaves i ∙ a.leaves i;
  bytes = λ i some. ap new (sym (a.leaves i)) ∙ (b.bytes i (λ z. some (sym (a.leaves i) ∙ z)) ∙ (ap middle (a.leaves i) ∙ a.bytes i some));
}

pub inode_then : (old middle new : ℕ → List ℕ) (top n : ℕ) → IsKeptInode old middle top n → IsKeptInode middle new top n → IsKeptInode old new top n
inode_then old middle new top n a b = record {
  block = b.block ∙ a.block;
  alike = alike_then old middle new (block_numbered old top n) a.alike (subst (IsAlike middle new) a.block b.alike);
  ways = λ l os way. subst (λ x. block_at new x os ≡ block_at middle x os) a.block (b.ways l os way) ∙ a.ways l os way;
}

pub inodes_then : (old middle new : ℕ → List ℕ) (top : ℕ) → KeepsInodes old middle top → KeepsInodes middle new top → KeepsInodes old new top
inodes_then old middle new top a b = record {
  key = b.key ∙ a.key;
  inodes = λ n some there.
      let first = a.inodes n some there in
      inode_then old middle new top n first (b.inodes n some (λ z. there (sym first.block ∙ z)));
}

pub inodes_stay : (content : ℕ → List ℕ) (top : ℕ) → KeepsInodes content content top
inodes_stay content top = record {
  key = refl;
  inodes = λ n some there. record {
    block = refl;
    alike = record { own = refl; leaves = λ i. refl; bytes = λ i there'. refl };
    ways = λ l os way. refl;
  };
}

pub names_stay : (content : ℕ → List ℕ) (top n : ℕ) → KeepsNames content content top n
names_stay content top n = record { key = refl; block = refl; fields = refl; entries = λ k. refl; leaves = λ i there. refl }

pub names_then : (old middle new : ℕ → List ℕ) (top n : ℕ) → KeepsNames old middle top n → KeepsNames middle new top n → KeepsNames old new top n
names_then old middle new top n a b = record {
  key = b.key ∙ a.key;
  block = b.block ∙ a.block;
  fields = subst (λ c. fields_of (new c) ≡ fields_of (middle c)) a.block b.fields ∙ a.fields;
  entries = λ k. subst (λ c. bucket_entries new c k ≡ bucket_entries middle c k) a.block (b.entries k) ∙ a.entries k;
  leaves = λ i there.
      let first = a.leaves i there in
      subst (λ c. leaf_block middle c i ≢ 0 → leaf_block new c i ≡ leaf_block middle c i) a.block (b.leaves i) (λ z. there (sym first ∙ z)) ∙ first;
}
