-- Which lanes are at home.
use Rattle.std.proofs.Common.{◌≡◌, ℕ, zero, suc, List, [], ◌∷◌, Bool, true, false, Option, Some, None, Ok, refl, sym, ◌∙◌, ap, slice_get}
use Rattle.std.specs.Prelude.{is_some, bytes_eq, option_map, unwrap_or, ◌==◌}
use Rattle.std.proofs.lemmas.Slice.Eq.{bytes_eq-Decides}
use Rattle.std.proofs.lemmas.Bool.{false≢true}
use Rattle.std.proofs.lemmas.Option.{same_Some, none-some}
use Rattle.xn_model.specs.Lives.{Life, Lives, StoreState, current, life_at, prefix_of}
use Rattle.xn_model.specs.Lanes.{FitsLife, FitLives}
use Rattle.xn_model.specs.Calls.{begun_place, bytes_at, life_bytes}
use Rattle.store_types.specs.declared.refusal.Refusal.TheVariants.{NoSuchBlock, NotInUse, InFlight, NothingSafe}
use Rattle.xn_model.proofs.ForCallers.{unless_ok, never_ok, none_from, life_from}
use Rattle.xn_kernel.specs.Kernels.{is_in_flight, other_unless}

module _ {L : Type 0} (read : L → List ℕ) where
  -- the lane of a block of which no write is under way
  pub home : (lanes : List (Option L)) (lives : Lives) (b : ℕ) (l : Life) → FitLives read lanes lives → life_at lives b ≡ Some l → l.begun ≡ None →
      (lane : L) × (slice_get lanes b ≡ Some (Some lane))
  home [] [] b l z e i = absurd (none-some l e)
  home [] (x ∷ xs) b l z e i = absurd z
  home (a ∷ lanes) [] b l z e i = absurd z
  home (a ∷ lanes) (x ∷ xs) (suc b) l z e i = home lanes xs b l z.1 e i
  home (a ∷ lanes) (x ∷ xs) zero l z e i = at a x z.0 e
    where
      at : (a : Option L) (x : Option Life) → FitsLife read a x → x ≡ Some l → (lane : L) × (Some a ≡ Some (Some lane))
      at (Some lane) x z e = (lane, refl)
      at None None z e = absurd z
      at None (Some m) z e =
          let idle : is_some m.begun ≡ false = ap (λ (y : Life). is_some y.begun) (same_Some m l e) ∙ ap is_some i in
          absurd (false≢true (sym idle ∙ z))

  -- and of one of which a write is
  away : (lanes : List (Option L)) (lives : Lives) (b : ℕ) (l : Life) → FitLives read lanes lives → life_at lives b ≡ Some l → is_some l.begun ≡ true → slice_get lanes b ≡ Some None
  away [] [] b l z e i = absurd (none-some l e)
  away [] (x ∷ xs) b l z e i = absurd z
  away (a ∷ lanes) [] b l z e i = absurd z
  away (a ∷ lanes) (x ∷ xs) (suc b) l z e i = away lanes xs b l z.1 e i
  away (a ∷ lanes) (x ∷ xs) zero l z e i = at a x z.0 e
    where
      at : (a : Option L) (x : Option Life) → FitsLife read a x → x ≡ Some l → Some a ≡ Some None
      at None x z e = refl
      at (Some lane) None z e = absurd (none-some l e)
      at (Some lane) (Some m) z e =
          let idle : is_some l.begun ≡ false = sym (ap (λ (y : Life). is_some y.begun) (same_Some m l e)) ∙ ap is_some z.0 in
          absurd (false≢true (sym idle ∙ i))

  pub away_in_flight : (lanes : List (Option L)) (state : StoreState) (b : ℕ) → FitLives read lanes state.lives → is_in_flight state b ≡ true → slice_get lanes b ≡ Some None
  away_in_flight lanes state b z t = go (life_at state.lives b) refl t
    where
      go : (o : Option Life) → life_at state.lives b ≡ o → (elim o as (λ _. Bool) [ None ↦ false | Some l ↦ is_some l.begun ]) ≡ true → slice_get lanes b ≡ Some None
      go None e t = absurd (false≢true t)
      go (Some l) e t = away lanes state.lives b l z e t

-- a write begins only where none is under way
pub begun_idle : (lives : Lives) (b : ℕ) (o : Option (Option Life)) (given : List ℕ × ℕ) → slice_get lives b ≡ o → begun_place lives o ≡ Ok given →
    (l : Life) × (life_at lives b ≡ Some l) × (l.begun ≡ None)
begun_idle lives b None given at e = absurd (never_ok NoSuchBlock given e)
begun_idle lives b (Some None) given at e = absurd (never_ok NotInUse given e)
begun_idle lives b (Some (Some l)) given at e =
    let tests = unless_ok ((is_some l.begun, InFlight) ∷ (prefix_of lives (Some l) == 0, NothingSafe) ∷ []) (Ok (bytes_at (prefix_of lives (Some l)) l, prefix_of lives (Some l))) given e in
    (l, life_from lives b l at, none_from l.begun tests.0.0)

-- the bytes of a lane, by a comparison with others
pub compared_bytes : (with bytes other : List ℕ) (same : Bool) → same ≡ bytes_eq bytes with → (same ≡ false → other ≡ bytes) → unwrap_or (other_unless same other) with ≡ bytes
compared_bytes with bytes other true is there = sym ((bytes_eq-Decides bytes with).0 (sym is))
compared_bytes with bytes other false is there = there refl

-- the newest bytes of a block, in use or not
pub newest_is : (o : Option Life) (bytes : List ℕ) → Some bytes ≡ option_map current o → bytes ≡ life_bytes o
newest_is None bytes e = absurd (none-some bytes (sym e))
newest_is (Some l) bytes e = same_Some bytes (current l) e
