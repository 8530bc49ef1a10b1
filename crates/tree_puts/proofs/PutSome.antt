-- What is put of one source.
use Rattle.std.proofs.Common.{◌≡◌, ◌∙◌, ℕ, Bool, false, List, length, Option, None, Result, ap, inr, subst, sym}
use Rattle.std.specs.Prelude.{MatchOption, Some, ◌==◌, if◌then◌else◌}
use Rattle.tree_lines.specs.declared.paths.Goal.{Goal}
use Rattle.tree_lines.specs.declared.paths.Goal.TheVariants.{Into, To}
use Rattle.tree_lines.specs.declared.paths.Place.{Place}
use Rattle.tree_puts.specs.Files.{IsNew, PutsOnce, PutsRegular}
use Rattle.tree_puts.specs.Lines.{LineState, Stays}
use Rattle.tree_puts.specs.Sources.{IsSingle, IsStream, PutsPlain, PutsStream, folder_filled}
use Rattle.tree_puts.specs.declared.arriving.Goods.{Goods}
use Rattle.tree_puts.proofs.Unchanged.{same_line}

pub once_put : {E : Type 0} (goods : Goods) (room : ℕ) (result : Result (Unit {0}) E) (a between b : LineState) → IsNew goods a → Stays a between →
    PutsRegular goods room result between b → PutsOnce goods room result a b
once_put goods room result a between b new stays puts =
    inr (inr (new, subst (λ (l : LineState). PutsRegular goods room result l b) (same_line a between stays) puts))

pub stream_put : {E : Type 0} (goods : Goods) (lines : Bool) (path : List ℕ) (room : ℕ) (result : Result (Unit {0}) E) (a b : LineState) →
    PutsPlain goods room result a b → lines ≡ false → IsSingle a.store a.volume a.folder path goods.place → IsStream a goods →
    PutsStream lines path room result a b
stream_put goods lines path room result a b puts no_lines single stream = inr (no_lines, (goods, single, stream, puts))

-- a folder with a name of its own fills none, nor does one that goes to a place
module _ (own : List ℕ) (goal : Goal) where
  pub named_fills_none : (number : ℕ) → goal ≡ Into number → (length own == 0) ≡ false → folder_filled own goal ≡ None
  named_fills_none number is named = ap (folder_filled own) is ∙ ap (λ b. if b then Some number else None) named

  pub placed_fills_none : (place : Place) → goal ≡ To place → folder_filled own goal ≡ None
  placed_fills_none place is = ap (folder_filled own) is

  pub at_place : (A : Type 0) (B : ℕ → Type 0) → folder_filled own goal ≡ None → A → MatchOption (folder_filled own goal) A B
  at_place A B is a = subst (λ (o : Option ℕ). MatchOption o A B) (sym is) a
