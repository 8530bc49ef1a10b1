-- What an edit of a part of one inode leaves: the root block, and all other inodes.
use mathlib.Core.Path.{fun_ext}
use Rattle.std.proofs.Common.{◌≡◌, ◌≢◌, ℕ, Bool, true, false, List, None, refl, sym, ◌∙◌, ap, inl, inr, if◌then◌else◌}
use Rattle.std.specs.Prelude.{◌==◌}
use Rattle.std.proofs.lemmas.Bool.{cases_eq, eq-eqb, eqb-true, ne_eqb, true≢false}
use Rattle.treefs_format.specs.Paths.{steps}
use Rattle.treefs_model.specs.Files.{Inode, changed_at, changed_in}
use Rattle.treefs_model.specs.Reading.{files_of, inode_block, inode_of, key_in, leaf_block}
use Rattle.treefs_values.specs.Parts.{IsChangedAt, IsPartOf}
use Rattle.treefs_values.specs.Ways.{ArePointersApart, IsTyped, SamePointers, block_numbered}
use Rattle.treefs_values.proofs.Alike.{IsAlike, inode_alike}
use Rattle.treefs_values.proofs.Apart.{inodes_apart, leaf_no_inode, same_way, starts}
use Rattle.treefs_values.proofs.Ways.{inode_same, leaf_same, steps_way}

-- the block of an inode
pub inode_numbered : (content : ℕ → List ℕ) (top n : ℕ) → n ≢ 0 → block_numbered content top n ≡ inode_block content top n
inode_numbered content top n some = ap (λ b. if b then top else inode_block content top n) (ne_eqb n 0 some)

-- what is read of an inode
pub file_read : (content : ℕ → List ℕ) (top n c : ℕ) → inode_block content top n ≡ c → c ≢ 0 → files_of content top n ≡ inode_of content (key_in content top) c
unfolding files_of
file_read content top n c is some =
    ap (λ x. if x == 0 then None else inode_of content (key_in content top) x) is ∙ ap (λ t. if t then None else inode_of content (key_in content top) c) (ne_eqb c 0 some)

pub no_file : (content : ℕ → List ℕ) (top n : ℕ) → inode_block content top n ≡ 0 → files_of content top n ≡ None
unfolding files_of
no_file content top n is = ap (λ x. if x == 0 then None else inode_of content (key_in content top) x) is

module _ (node inode top : ℕ) (type : ℕ → ℕ) (old new : ℕ → List ℕ) (other : node ≢ inode) (typed : IsTyped node inode type old top)
    (apart : ArePointersApart node inode type old top) (keeps : SamePointers node inode type old new)
    (n b : ℕ) (number : n ≢ 0) (some : b ≢ 0) (part : IsPartOf old top n b) (changed : IsChangedAt b old new) where
  abbrev block : ℕ → ℕ
  block m = block_numbered old top m

  abbrev leaf : ℕ → ℕ → ℕ
  leaf m i = leaf_block old (block m) i

  there : block n ≢ 0
  there = elim part [
    | inl own ↦ (λ z. some (own ∙ z))
    | inr below ↦ starts node inode top type old other typed apart n 0 (steps below.0) (steps_way below.0) (λ z. some (below.1 ∙ z))
  ]

  not_block : (m : ℕ) → m ≢ n → block m ≢ 0 → block m ≢ b
  not_block m ne m_there is = elim part [
    | inl own ↦ ne (inodes_apart node inode top type old other typed apart m n m_there (is ∙ own))
    | inr below ↦ leaf_no_inode node inode top type old other typed apart n m below.0 number (λ z. some (below.1 ∙ z)) (sym below.1 ∙ sym is)
  ]

  not_leaf : (m i : ℕ) → m ≢ n → m ≢ 0 → leaf m i ≢ 0 → leaf m i ≢ b
  not_leaf m i ne m_some leaf_some is = elim part [
    | inl own ↦ leaf_no_inode node inode top type old other typed apart m n i m_some leaf_some (is ∙ own)
    | inr below ↦
        let e = same_way node inode top type old other typed apart m n 0 0 (steps i) (steps below.0) (steps_way i) (steps_way below.0) leaf_some (is ∙ below.1) in
        ne (inodes_apart node inode top type old other typed apart m n
        (starts node inode top type old other typed apart m 0 (steps i) (steps_way i) leaf_some) e.0)
  ]

  pub root_stays : top ≢ 0 → new top ≡ old top
  root_stays root = changed top (not_block 0 (λ z. number (sym z)) root)

  pub other_alike : (m : ℕ) → m ≢ n → m ≢ 0 → block m ≢ 0 → IsAlike old new (block m)
  other_alike m ne m_some m_there = record {
    own = changed (block m) (not_block m ne m_there);
    leaves = λ i. leaf_same node inode top type old new typed keeps m i;
    bytes = λ i leaf_some. changed (leaf m i) (not_leaf m i ne m_some leaf_some);
  }

  pub key_stays : top ≢ 0 → key_in new top ≡ key_in old top
  key_stays root = key_same old new top (root_stays root)
    where
      key_same : (old new : ℕ → List ℕ) (top : ℕ) → new top ≡ old top → key_in new top ≡ key_in old top
      key_same old new top same = rw same refl

  pub others_stay : top ≢ 0 → (m : ℕ) → m ≢ n → files_of new top m ≡ files_of old top m
  others_stay root m ne = elim (cases_eq (inode_block old top m) 0) [
    | inl z ↦ no_file new top m (inode_same node inode top type old new typed keeps m ∙ z) ∙ sym (no_file old top m z)
    | inr m_there ↦ there_stays m_there
  ]
    where
      there_stays : inode_block old top m ≢ 0 → files_of new top m ≡ files_of old top m
      there_stays m_there =
          let m_some : m ≢ 0 = λ z. m_there (ap (inode_block old top) z) in
          let is = inode_numbered old top m m_some in
          let alike = other_alike m ne m_some (λ z. m_there (sym is ∙ z)) in
          let c : ℕ = block m in
          file_read new top m c (inode_same node inode top type old new typed keeps m ∙ sym is) (λ z. m_there (sym is ∙ z))
          ∙ (ap (λ key. inode_of new key c) (key_stays root)
          ∙ (inode_alike old new c alike (key_in old top) ∙ sym (file_read old top m c (sym is) (λ z. m_there (sym is ∙ z)))))

  -- so all files are as before, but for one
  pub files_changed : top ≢ 0 → (change : Inode → Inode) → files_of new top n ≡ changed_in change (files_of old top n) →
      files_of new top ≡ changed_at (files_of old top) n change
  files_changed root change own = fun_ext (λ m. by m (m == n) refl)
    where
      by : (m : ℕ) (t : Bool) → (m == n) ≡ t → files_of new top m ≡ changed_at (files_of old top) n change m
      by m true is =
          ap (files_of new top) (eqb-true m n is) ∙ (own ∙ sym (ap (λ t. if t then changed_in change (files_of old top n) else files_of old top m) is))
      by m false isnt =
          others_stay root m (λ same. true≢false (sym (eq-eqb m n same) ∙ isnt))
          ∙ sym (ap (λ t. if t then changed_in change (files_of old top n) else files_of old top m) isnt)

  -- what is read of the inode itself
  pub own_read : top ≢ 0 → files_of new top n ≡ inode_of new (key_in old top) (block n)
  own_read root =
      file_read new top n (block n) (inode_same node inode top type old new typed keeps n ∙ sym (inode_numbered old top n number)) there
      ∙ ap (λ key. inode_of new key (block n)) (key_stays root)

  pub own_was : files_of old top n ≡ inode_of old (key_in old top) (block n)
  own_was = file_read old top n (block n) (sym (inode_numbered old top n number)) there
