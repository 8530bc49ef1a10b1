-- Blocks that were begun and that nothing points to yet.
use Rattle.std.proofs.Common.{◌≡◌, ◌≢◌, ◌⊎◌, ℕ, suc, ◌<◌, ◌^◌, Bool, true, false, ◌||◌, List, [], ◌∷◌, ◌++◌, ◌-◌, get_or, refl, sym, ◌∙◌, ap, inl, inr, if◌then◌else◌}
use Rattle.std.specs.Prelude.{⊤, All, IsTrue, nat_lt, ◌==◌}
use Rattle.std.proofs.lemmas.Bool.{cases_eq}
use Rattle.std.proofs.lemmas.List.Elements.{All-cons, All-head, All-nil, All-tail}
use Rattle.xn_model.specs.Root.{word_at}
use Rattle.treefs_format.specs.Paths.{leaf_count, steps}
use Rattle.treefs_model.specs.Reading.{block_at, leaf_block, pointed}
use Rattle.treefs_model.specs.Trees.{has_pointer}
use Rattle.treefs_values.specs.Attached.{IsPointerSet}
use Rattle.treefs_values.specs.Parts.{IsChangedAt}
use Rattle.treefs_values.specs.Volumes.{IsVolume}
use Rattle.treefs_values.specs.Ways.{IsWay, SamePointers, block_numbered}
use Rattle.treefs_values.proofs.Elsewhere.{inode_numbered}
use Rattle.treefs_values.proofs.Ways.{inode_pointer, node_pointer, steps_way}

-- nothing points to a block
abbrev pub IsUnled : ℕ → ℕ → (ℕ → ℕ) → (ℕ → List ℕ) → ℕ → Type 0
IsUnled node inode type content b = (p o : ℕ) → IsTrue (has_pointer node inode (type p) o) → pointed content p o ≢ b

pub unled_attached : (node inode : ℕ) (type : ℕ → ℕ) (old new : ℕ → List ℕ) (holder offset x : ℕ) → IsPointerSet node inode type old new holder offset x →
    (b : ℕ) → x ≢ b → IsUnled node inode type old b → IsUnled node inode type new b
unled_attached node inode type old new holder offset x set b other unled p o has = by (cases_eq p holder) (cases_eq o offset)
  where
    by : (p ≡ holder) ⊎ (p ≢ holder) → (o ≡ offset) ⊎ (o ≢ offset) → pointed new p o ≢ b
    by (inr apart) any = λ same. unled p o has (sym (set.others p o has (inl apart)) ∙ same)
    by (inl here) (inr apart) = λ same. unled p o has (sym (set.others p o has (inr apart)) ∙ same)
    by (inl here) (inl at) = λ same. other (sym ((λ j. pointed new (here j) (at j)) ∙ set.now) ∙ same)

-- a block with its type and its first bytes
pub record New : Type 0 where
  pub block : ℕ
  pub ty : ℕ
  pub bytes : List ℕ

pub record IsNew (node inode : ℕ) (type : ℕ → ℕ) (content : ℕ → List ℕ) (top : ℕ) (x : New) : Type 0 where
  pub there : x.block ≢ 0
  pub within : x.block < 2 ^ 32
  pub no_root : top ≢ x.block
  pub unled : (p o : ℕ) → IsTrue (has_pointer node inode (type p) o) → pointed content p o ≢ x.block
  pub typed : type x.block ≡ x.ty
  pub some_type : x.ty ≢ 0
  pub bytes : content x.block ≡ x.bytes
  pub bare : (o : ℕ) → IsTrue (has_pointer node inode x.ty o) → word_at x.bytes o ≡ 0

abbrev pub IsOther : New → New → Type 0
IsOther x y = y.block ≢ x.block

-- each another block
abbrev pub AreNew : ℕ → ℕ → (ℕ → ℕ) → (ℕ → List ℕ) → ℕ → List New → Type 0
AreNew node inode type content top [] = ⊤
AreNew node inode type content top (x ∷ xs) = IsNew node inode type content top x × All (IsOther x) xs × AreNew node inode type content top xs

-- where each one stays
pub new_kept : (node inode top : ℕ) (type type' : ℕ → ℕ) (old new : ℕ → List ℕ) (P : New → Type 0) (xs : List New) → All P xs →
    ((x : New) → P x → IsNew node inode type old top x → IsNew node inode type' new top x) → AreNew node inode type old top xs → AreNew node inode type' new top xs
new_kept node inode top type type' old new P [] all keep are = tt
new_kept node inode top type type' old new P (x ∷ xs) all keep are =
    (keep x (All-head P x xs all) are.0, are.1, new_kept node inode top type type' old new P xs (All-tail P x xs all) keep are.2)

pub all_front : (P : New → Type 0) (xs ys : List New) → All P (xs ++ ys) → All P xs × All P ys
all_front P [] ys all = (All-nil P, all)
all_front P (x ∷ xs) ys all =
    let rest = all_front P xs ys (All-tail P x (xs ++ ys) all) in
    (All-cons P x xs (All-head P x (xs ++ ys) all) rest.0, rest.1)

-- in two parts, that have no block in common
pub new_parts : (node inode top : ℕ) (type : ℕ → ℕ) (content : ℕ → List ℕ) (xs ys : List New) → AreNew node inode type content top (xs ++ ys) →
    AreNew node inode type content top xs × AreNew node inode type content top ys × All (λ y. All (λ x. IsOther x y) xs) ys
new_parts node inode top type content [] ys are = (tt, are, λ k d lt. All-nil (λ x. IsOther x (get_or ys k d)))
new_parts node inode top type content (x ∷ xs) ys are =
    let rest = new_parts node inode top type content xs ys are.2 in
    let both = all_front (IsOther x) xs ys are.1 in (
      (are.0, both.0, rest.0),
      rest.1,
      (λ k d lt. All-cons (λ x. IsOther x (get_or ys k d)) x xs (both.1 k d lt) (rest.2 k d lt)),
    )

-- Blocks to which ways lead are others

module _ (node inode top : ℕ) (type : ℕ → ℕ) (content : ℕ → List ℕ) (v : IsVolume node inode type content top) where
  -- the block of a pointer on a way
  pub way_pointer : (n l o : ℕ) (q : List ℕ) → IsWay (o ∷ q) l → block_at content (block_numbered content top n) q ≢ 0 →
      IsTrue (has_pointer node inode (type (block_at content (block_numbered content top n) q)) o)
  way_pointer n l o [] way there = inode_pointer node inode (type (block_numbered content top n)) o l (v.typed.inodes n there) way
  way_pointer n l o (p ∷ q) way there =
      node_pointer node inode (type (block_at content (block_numbered content top n) (p ∷ q))) o way.0 (v.typed.nodes n l (p ∷ q) way.3 there) way.1 way.2

  module _ (x : New) (is : IsNew node inode type content top x) where
    pub way_other : (n l : ℕ) (os : List ℕ) → IsWay os l → block_at content (block_numbered content top n) os ≢ 0 →
        block_at content (block_numbered content top n) os ≢ x.block
    way_other n l [] way there = absurd way
    way_other n l (o ∷ q) way there = elim (cases_eq (block_at content (block_numbered content top n) q) 0) [
      | inl z ↦ absurd (there (ap (λ c. pointed content c o) z))
      | inr some ↦ is.unled (block_at content (block_numbered content top n) q) o (way_pointer n l o q way some)
    ]

    pub inode_other : (n : ℕ) → block_numbered content top n ≢ 0 → block_numbered content top n ≢ x.block
    inode_other n there = elim (cases_eq n 0) [
      | inl z ↦ (λ same. is.no_root (sym (ap (block_numbered content top) z) ∙ same))
      | inr some ↦ by some ((n == 0) || nat_lt leaf_count n) refl
    ]
      where
        by : n ≢ 0 → (t : Bool) → ((n == 0) || nat_lt leaf_count n) ≡ t → block_numbered content top n ≢ x.block
        by some true e = absurd (there (inode_numbered content top n some ∙ ap (λ t. if t then 0 else leaf_block content top (n - 1)) e))
        by some false e =
            let at : block_numbered content top n ≡ leaf_block content top (n - 1) =
            inode_numbered content top n some ∙ ap (λ t. if t then 0 else leaf_block content top (n - 1)) e in
            λ same. way_other 0 0 (steps (n - 1)) (steps_way (n - 1)) (λ z. there (at ∙ z)) (sym at ∙ same)

    -- the end of a beginning of a way, also of none
    pub at_other : (n : ℕ) (l o : ℕ) (q : List ℕ) → IsWay (o ∷ q) l → block_at content (block_numbered content top n) q ≢ 0 →
        block_at content (block_numbered content top n) q ≢ x.block
    at_other n l o [] way there = inode_other n there
    at_other n l o (p ∷ q) way there = way_other n (suc l) (p ∷ q) way.3 there

-- They stay new

module _ (node inode top : ℕ) (type : ℕ → ℕ) (old new : ℕ → List ℕ) (x : New) (is : IsNew node inode type old top x) where
  -- where another block gets other bytes, and pointers stay
  pub new_written : (b : ℕ) → x.block ≢ b → IsChangedAt b old new → SamePointers node inode type old new → IsNew node inode type new top x
  new_written b ne changed keeps = record {
    there = is.there;
    within = is.within;
    no_root = is.no_root;
    unled = λ p o has same. is.unled p o has (sym (keeps p o has) ∙ same);
    typed = is.typed;
    some_type = is.some_type;
    bytes = changed x.block ne ∙ is.bytes;
    bare = is.bare;
  }

  -- where a pointer of another block comes to lead to a third one
  pub new_attached : (holder offset b : ℕ) → IsPointerSet node inode type old new holder offset b → x.block ≢ holder → x.block ≢ b → IsNew node inode type new top x
  new_attached holder offset b set ne other = record {
    there = is.there;
    within = is.within;
    no_root = is.no_root;
    unled = λ p o has. by p o has (cases_eq p holder) (cases_eq o offset);
    typed = is.typed;
    some_type = is.some_type;
    bytes = set.changed x.block ne ∙ is.bytes;
    bare = is.bare;
  }
    where
      by : (p o : ℕ) → IsTrue (has_pointer node inode (type p) o) → (p ≡ holder) ⊎ (p ≢ holder) → (o ≡ offset) ⊎ (o ≢ offset) → pointed new p o ≢ x.block
      by p o has (inr apart) any = λ same. is.unled p o has (sym (set.others p o has (inl apart)) ∙ same)
      by p o has (inl here) (inr apart) = λ same. is.unled p o has (sym (set.others p o has (inr apart)) ∙ same)
      by p o has (inl here) (inl at) = λ same. other (sym same ∙ ((λ j. pointed new (here j) (at j)) ∙ set.now))
