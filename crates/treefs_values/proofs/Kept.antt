-- A volume is one still, where a part of one inode changes, and no pointer.
use Rattle.std.proofs.Common.{◌≡◌, ◌≢◌, ℕ, ◌≤◌, List, Some, sym, ◌∙◌, ap, inl, inr, subst}
use Rattle.std.specs.Prelude.{IsTrue}
use Rattle.std.proofs.lemmas.Bool.{cases_eq}
use Rattle.treefs_format.specs.Buckets.{is_whole}
use Rattle.treefs_format.specs.Fields.{fields_of}
use Rattle.treefs_format.specs.Inodes.{content_of, kind_of}
use Rattle.treefs_format.specs.Paths.{leaf_count}
use Rattle.treefs_format.specs.Records.{entries_of}
use Rattle.treefs_format.specs.declared.kind.Kind.TheVariants as kind
use Rattle.treefs_model.specs.Reading.{bucket_of, key_in}
use Rattle.treefs_model.specs.Trees.{has_name, names_once}
use Rattle.treefs_values.specs.Parts.{IsChangedAt, IsPartOf}
use Rattle.treefs_values.specs.Volumes.{IsWholeBlock, IsDirectory, IsVolume}
use Rattle.treefs_values.specs.Ways.{ArePointersApart, SamePointers, block_numbered}
use Rattle.treefs_values.proofs.Alike.{bucket_same}
use Rattle.treefs_values.proofs.Elsewhere.{key_stays, other_alike}
use Rattle.treefs_values.proofs.Ways.{numbered_same, still_typed}

-- pointers lead as they led
pub still_apart : (node inode top : ℕ) (type : ℕ → ℕ) (old new : ℕ → List ℕ) → ArePointersApart node inode type old top → SamePointers node inode type old new →
    ArePointersApart node inode type new top
still_apart node inode top type old new apart keeps = record {
  once = λ p q o o' has has' some same. apart.once p q o o' has has' (λ z. some (keeps p o has ∙ z)) (sym (keeps p o has) ∙ (same ∙ keeps q o' has'));
  root = λ p o has is. apart.root p o has (sym (keeps p o has) ∙ is);
}

-- the same buckets
pub same_directory : (old new : ℕ → List ℕ) (key : List ℕ) (c : ℕ) → ((k : ℕ) → k ≤ leaf_count → bucket_of new c k ≡ bucket_of old c k) →
    IsDirectory old key c → IsDirectory new key c
same_directory old new key c same d = record {
  names = record {
    once = λ k few. subst (λ m. IsTrue (names_once (entries_of m))) (sym (same k few)) (d.names.once k few);
    apart = λ j k name few few' one other. d.names.apart j k name few few'
        (subst (λ m. IsTrue (has_name (entries_of m) name)) (same j few) one) (subst (λ m. IsTrue (has_name (entries_of m) name)) (same k few') other);
  };
  placed = λ k name few has. d.placed k name few (subst (λ m. IsTrue (has_name (entries_of m) name)) (same k few) has);
  valid = λ k name few has. d.valid k name few (subst (λ m. IsTrue (has_name (entries_of m) name)) (same k few) has);
  whole = λ k few. subst (λ m. IsTrue (is_whole m)) (sym (same k few)) (d.whole k few);
}

module _ (node inode top : ℕ) (type : ℕ → ℕ) (old new : ℕ → List ℕ) (v : IsVolume node inode type old top)
    (n b : ℕ) (number : n ≢ 0) (some : b ≢ 0) (part : IsPartOf old top n b) (changed : IsChangedAt b old new) (keeps : SamePointers node inode type old new)
    (is_block : IsWholeBlock (new b)) where
  abbrev block : ℕ → ℕ
  block m = block_numbered old top m

  pub still_volume : (kind_of (fields_of (new (block n))).mode ≡ Some kind.Directory → IsDirectory new (key_in old top) (block n)) →
      IsVolume node inode type new top
  still_volume own = record {
    types = v.types;
    some_types = v.some_types;
    root = v.root;
    typed = still_typed node inode top type old new v.typed keeps;
    apart = still_apart node inode top type old new v.apart keeps;
    blocks = λ x some_type. elim (cases_eq x b) [
      | inl same ↦ subst (λ y. IsWholeBlock (new y)) (sym same) is_block
      | inr ne ↦ subst IsWholeBlock (sym (changed x ne)) (v.blocks x some_type)
    ];
    directories = λ m m_some m_there directory.
        let same_m = numbered_same node inode top type old new v.typed keeps m in
        subst (λ x. IsDirectory new (key_in new top) x) (sym same_m)
        (subst (λ key. IsDirectory new key (block m)) (sym (key_stays node inode top type old new v.types.0 v.typed v.apart keeps n b number some part changed v.root))
        (here m m_some (λ z. m_there (same_m ∙ z)) (sym (ap (λ x. kind_of (fields_of (new x)).mode) same_m) ∙ directory)));
  }
    where
      here : (m : ℕ) → m ≢ 0 → block m ≢ 0 → kind_of (fields_of (new (block m))).mode ≡ Some kind.Directory → IsDirectory new (key_in old top) (block m)
      here m m_some m_there directory = elim (cases_eq m n) [
        | inl same ↦
            subst (λ x. IsDirectory new (key_in old top) (block x)) (sym same) (own (sym (ap (λ x. kind_of (fields_of (new (block x))).mode) same) ∙ directory))
        | inr ne ↦
            let a = other_alike node inode top type old new v.types.0 v.typed v.apart keeps n b number some part changed m ne m_some m_there in
            same_directory old new (key_in old top) (block m) (λ k few. bucket_same old new (block m) a.leaves a.bytes k (ap content_of a.own))
            (v.directories m m_some m_there (sym (ap (λ x. kind_of (fields_of x).mode) a.own) ∙ directory))
      ]
