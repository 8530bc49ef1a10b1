-- Pointers stay where they are set.
use Rattle.std.proofs.Common.{◌≡◌, ℕ, ◌⊎◌, List, [], ◌∷◌, Option, Some, None, refl, sym, ◌∙◌, ap, inl, inr, subst}
use Rattle.std.specs.Prelude.{◌≢◌, Contains}
use Rattle.std.proofs.lemmas.Option.{same_Some}
use Rattle.xn_model.specs.Types.{Types}
use Rattle.store_types.specs.declared.status.Status.{Status}
use Rattle.store_types.specs.declared.status.Status.TheVariants.{Fresh, Owned, Dropped}
use Rattle.xn_model.specs.Lives.{BlockState, Life, Lives, StoreState, life_at, newest, bytes_of}
use Rattle.xn_model.specs.Rules.{BelongsTo, IsBy, IsConsistent, NamedIn}
use Rattle.ffs_model.specs.Cuts.{Choice, IsCut, chosen, latest, seen, seen_at}
use Rattle.ffs_model.proofs.ForCallers.{everything, everything_full, everything_seen}
use Rattle.ffs_model.proofs.ForCallers.{chosen_in, full_chosen}
use Rattle.treefs_model.specs.Edited.{IsOwn, type_in}
use Rattle.treefs_model.specs.Places.{Shape, at, pointer_at}
use Rattle.treefs_model.specs.Tables.{IsPointed, ReadsTypes, StaysAt}

not_both : (p : ℕ) (s : Status) (a b : ℕ) → IsBy a s → IsBy b s → a ≡ b
not_both p Fresh a b x y = absurd x
not_both p (Owned c) a b x y = sym x ∙ y
not_both p (Dropped c) a b x y = sym x ∙ y

module _ (T : Types) (S : Shape) (reads : ReadsTypes T S) (state : StoreState) (h : IsConsistent T state) where
  abbrev lives : Lives
  lives = state.lives

  -- The state that a cut shows of a block with a pointer
  pub record IsShown (k : Choice) (p o x : ℕ) : Type 0 where
    pub life : Life
    pub alive : life_at lives p ≡ Some life
    pub shows : BlockState
    pub is : chosen k p life ≡ Some shows
    pub points : S.pointer life.ty shows.bytes o ≡ x

  pub shown : (k : Choice) (p o x : ℕ) → x ≢ 0 → pointer_at S lives (seen lives k) p o ≡ x → IsShown k p o x
  shown k p o x some at' = go (life_at lives p) refl at'
    where
      go : (l : Option Life) → life_at lives p ≡ l → S.pointer (type_in l) (seen_at k p l) o ≡ x → IsShown k p o x
      go None e at' = absurd (some (sym at' ∙ reads.none 0 o))
      go (Some l) e at' = go' (chosen k p l) refl at'
        where
          go' : (s : Option BlockState) → chosen k p l ≡ s → S.pointer l.ty (bytes_of s) o ≡ x → IsShown k p o x
          go' None f at' = absurd (some (sym at' ∙ reads.none l.ty o))
          go' (Some s) f at' = record { life = l; alive = e; shows = s; is = f; points = at' }

  -- so what is pointed to is this block's
  pub belongs : (k : Choice) (p o x : ℕ) → x ≢ 0 → pointer_at S lives (seen lives k) p o ≡ x → (u : ℕ) × BelongsTo lives p x u
  belongs k p o x some at' =
      let s = shown k p o x some at' in
      let n = reads.owned s.life.ty s.shows.bytes o x s.points some in
      (n.0, (h.lives_sound.each p s.life s.alive).named s.shows x n.0 (chosen_in k p s.life s.shows s.is) n.1)

  -- a block that a cut leads to, and that points to something in newest, is pointed to in newest
  still_pointed : (k : Choice) (p q o o' x : ℕ) → p ≢ 0 → pointer_at S lives (seen lives k) q o ≡ p → x ≢ 0 → pointer_at S lives (latest lives) p o' ≡ x → IsPointed S lives p
  still_pointed k p q o o' x some at' some' now = let b = (belongs k q o p some at').1 in owner k p q o o' x some at' some' now (belongs k q o p some at').0 b b.life.status refl
    where
      owner : (k : Choice) (p q o o' x : ℕ) → p ≢ 0 → pointer_at S lives (seen lives k) q o ≡ p → x ≢ 0 → pointer_at S lives (latest lives) p o' ≡ x → (u : ℕ) (b : BelongsTo lives q p u) (s : Status) → b.life.status ≡ s → IsPointed S lives p
      owner k p q o o' x some at' some' now u b Fresh e = absurd (subst (IsBy q) e b.holds.1)
      owner k p q o o' x some at' some' now u b (Owned a) e =
          let same : a ≡ q = subst (IsBy q) e b.holds.1 in
          let n = h.statuses.owned p b.life a b.alive e in
          let s = shown k q o p some at' in
          let life : n.life ≡ s.life = same_Some n.life s.life (sym n.alive ∙ (ap (life_at lives) same ∙ s.alive)) in
          let m = (h.linked q s.life s.alive) in
          let names : NamedIn T s.life.ty (newest s.life) (p, b.life.ty) = subst (λ (l : Life). NamedIn T l.ty (newest l) (p, b.life.ty)) life n.holds in
          let last : Contains (T.owned s.life.ty m.last.bytes) (p, b.life.ty) = subst (λ z. NamedIn T s.life.ty z (p, b.life.ty)) m.is_last names in
          let slot = reads.slots s.life.ty s.shows.bytes m.last.bytes o p b.life.ty (λ z. some (sym s.points ∙ z)) last in
          let bytes : latest lives q ≡ m.last.bytes = ap (λ v. v q) (sym (everything_seen lives)) ∙ (ap (seen_at (everything lives) q) s.alive ∙ ap bytes_of (full_chosen (everything lives) q s.life (everything_full lives q s.life s.alive) ∙ m.is_last)) in
          (q, slot.0, (λ j. S.pointer (type_in (s.alive j)) (bytes j) slot.0) ∙ slot.1)
      owner k p q o o' x some at' some' now u b (Dropped a) e =
          let s = shown (everything lives) p o' x some' (ap (λ v. pointer_at S lives v p o') (everything_seen lives) ∙ now) in
          let n = reads.owned s.life.ty s.shows.bytes o' x s.points some' in
          let life : b.life ≡ s.life = same_Some b.life s.life (sym b.alive ∙ s.alive) in
          let is : newest s.life ≡ Some s.shows = sym (full_chosen (everything lives) p s.life (everything_full lives p s.life s.alive)) ∙ s.is in
          absurd (h.statuses.emptied p s.life a (x, n.0) s.alive (ap (λ (l : Life). l.status) (sym life) ∙ e) (subst (λ z. NamedIn T s.life.ty z (x, n.0)) (sym is) n.1))

  pub to_all : (p o x : ℕ) → pointer_at S lives (latest lives) p o ≡ x → pointer_at S lives (seen lives (everything lives)) p o ≡ x
  to_all p o x at' = ap (λ v. pointer_at S lives v p o) (everything_seen lives) ∙ at'

  -- What a cut leads to, and what is pointed to in newest, newest leads to by the same path
  module _ (fs : ℕ) (stays : StaysAt S fs lives) (top : ℕ) (k : Choice) (cut : IsCut lives k) (mine : (os : List ℕ) → at S lives (seen lives k) top os ≢ 0 → IsOwn fs lives (at S lives (seen lives k) top os))
      (root : (o : ℕ) → pointer_at S lives (seen lives k) 0 o ≡ 0) where
    pub same_path : (os : List ℕ) (x : ℕ) → at S lives (seen lives k) top os ≡ x → x ≢ 0 → (os ≡ []) ⊎ IsPointed S lives x → at S lives (latest lives) top os ≡ x
    same_path [] x at' some pointed = at'
    same_path (o ∷ os) x at' some pointed = elim pointed [
      | inl none ↦ absurd (cc none)
      | inr now ↦
          let p : ℕ = at S lives (seen lives k) top os in
          let a = (belongs k p o x some at').1 in
          let b = (belongs (everything lives) now.0 now.1 x some (to_all now.0 now.1 x now.2)).1 in
          let by = subst (λ (l : Life). IsBy now.0 l.status) (same_Some b.life a.life (sym b.alive ∙ a.alive)) b.holds.1 in
          let owner : p ≡ now.0 = not_both x a.life.status p now.0 a.holds.1 by in
          let there : p ≢ 0 = λ z. some (sym at' ∙ (ap (λ c. pointer_at S lives (seen lives k) c o) z ∙ root o)) in
          let now' : pointer_at S lives (latest lives) p now.1 ≡ x = ap (λ c. pointer_at S lives (latest lives) c now.1) owner ∙ now.2 in
          let offset : o ≡ now.1 = stays k p o now.1 x cut (mine os there) some at' now' in
          ap (λ c. pointer_at S lives (latest lives) c o) (same_path os p refl there (above os there x (now.1) some now')) ∙ (ap (pointer_at S lives (latest lives) p) offset ∙ now')
    ]
      where
        above : (os : List ℕ) → at S lives (seen lives k) top os ≢ 0 → (x o' : ℕ) → x ≢ 0 → pointer_at S lives (latest lives) (at S lives (seen lives k) top os) o' ≡ x → (os ≡ []) ⊎ IsPointed S lives (at S lives (seen lives k) top os)
        above [] some x o' some' now = inl refl
        above (o ∷ os) some x o' some' now = inr (still_pointed k (at S lives (seen lives k) top (o ∷ os)) (at S lives (seen lives k) top os) o o' x some refl some' now)
