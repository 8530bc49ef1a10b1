-- What a cut takes along stays so over an edit, and over what others do.
use Rattle.std.proofs.Common.{◌≡◌, ℕ, ◌⊎◌, Some, sym, inl, inr, subst}
use Rattle.std.specs.Prelude.{Contains}
use Rattle.std.proofs.lemmas.List.{take_all}
use Rattle.xn_model.specs.Types.{Types}
use Rattle.xn_model.specs.Lives.{BlockState, Life, Lives, life_at}
use Rattle.ffs_model.specs.Cuts.{Choice, IsCut, IsFullAt, taken}
use Rattle.ffs_model.specs.Cuts.{KeptFrom}
use Rattle.treefs_model.specs.Acts.{Act}
use Rattle.treefs_model.specs.Edited.{Edited, FullBehind}
use Rattle.treefs_model.specs.Follows.{Follows, KeepsAlong}

all_taken : (lives : Lives) (k : Choice) (x : ℕ) (m : Life) (t : BlockState) → life_at lives x ≡ Some m → IsFullAt lives k x → Contains m.pending t → Contains (taken k x m) t
all_taken lives k x m t e full i = subst (λ ts. Contains ts t) (sym (take_all (k x) m.pending (full m e))) i

pub along_edit : (T : Types) (act : Act) (old new : Lives) (number : ℕ) (source source' : Choice → Type 0) (those those' : ℕ → BlockState → Type 0) →
    Edited T act old new number → KeepsAlong act old new number source source' those those' → Follows old source those → Follows new source' those'
along_edit T act old new number source source' those those' e h v k x m t cut s f i those-t =
    let z = e.cuts k cut in
    elim (e.pending x m t f i) [
      | inl p ↦ p.took k (elim (h.those_were k x t cut s those-t) [
        | inl y ↦ v k x p.life t z.cut (h.source_was k cut s) p.alive p.there y
        | inr full ↦ all_taken old k x p.life t p.alive full p.there
      ])
      | inr y ↦ subst (λ c. (m : Life) → life_at new c ≡ Some m → Contains m.pending t → Contains (taken k c m) t) (sym y.0)
          (λ m' f' i'. all_taken new k act.block m' t f' (h.edit k t cut s y.1 (subst (λ c. those' c t) y.0 those-t)) i') m f i
    ]

pub along_others : (fs : ℕ) (old new : Lives) (kept : KeptFrom fs old new) (source source' : Choice → Type 0) (those those' : ℕ → BlockState → Type 0) →
    ((k : Choice) (cut : IsCut new k) → source' k → source (kept k cut).choice) →
    ((x : ℕ) (m : Life) (t : BlockState) → life_at new x ≡ Some m → those' x t → those x t × (m.fs ≡ Some fs)) → Follows old source those → Follows new source' those'
along_others fs old new kept source source' those those' src were v k x m t cut s f i y =
    let c = kept k cut in
    let w = were x m t f y in
    let z = c.sees x m f w.1 in
    z.took t i (v c.choice x z.life t c.cut (src k cut s) z.alive (z.fewer t i) w.0)

-- Over the last edit of a call, an edit of the inode behind block y: in a cut that is full at the inode, what counts was so before, or is of the inode, of y, of
-- a block that is dropped, or one that is added and has nothing pending but what began it
module _ (T : Types) (act : Act) (old new : Lives) (number : ℕ) (e : Edited T act old new number) (those those' : ℕ → BlockState → Type 0) where
  pub last_edit : ((x : ℕ) (t : BlockState) → those' x t → those x t ⊎ ((x ≡ act.block) ⊎ ((act.behind ≡ Some x) ⊎ Contains act.edit.drops x))) →
      Follows old (λ k. IsFullAt old k act.block) those → Follows new (λ k. IsFullAt new k act.block) those'
  last_edit were v = along_edit T act old new number (λ k. IsFullAt old k act.block) (λ k. IsFullAt new k act.block) those those' e (record {
    source_was = λ k cut s. (e.cuts k cut).full act.block s;
    those_were = λ k x t cut s y. let z = e.cuts k cut in elim z.case [
      | inr l ↦ absurd (l.short s)
      | inl took ↦ elim (were x t y) [
        | inl w ↦ inl w
        | inr r ↦ inr (elim r [
          | inl here ↦ subst (IsFullAt old k) (sym here) took.full
          | inr r' ↦ elim r' [ inl far ↦ subst (FullBehind old k) far took.behind | inr drop' ↦ took.drops x drop' ]
        ])
      ]
    ];
    edit = λ k t cut s at y. s;
  }) v
