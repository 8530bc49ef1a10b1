-- What a ticket says of its block's life.
use Rattle.std.proofs.Common.{◌≡◌, ℕ, List, Bool, true, false, take, Option, Some, None, Result, Ok, Err, refl, sym, ◌∙◌, ap, inl, inr, slice_get}
use Rattle.std.specs.Prelude.{is_some, option_map, bytes_eq, if◌then◌else◌}
use Rattle.std.specs.List.{last_or}
use Rattle.std.proofs.lemmas.Bool.{false≢true}
use Rattle.std.proofs.lemmas.Slice.Eq.{bytes_eq-Decides}
use Rattle.std.proofs.lemmas.Option.{same_Some, none-some}
use Rattle.store_types.specs.declared.refusal.Refusal.{Refusal}
use Rattle.store_types.specs.declared.refusal.Refusal.TheVariants.{NotMine}
use Rattle.xn_model.specs.Lives.{BlockState, Life, Lives, StoreState, life_at, bytes_of, first_states}
use Rattle.xn_model.specs.Calls.{bytes_at, is_durable, settled_count, settled_place}
use Rattle.xn_model.specs.Flights.{flight_of}
use Rattle.xn_model.specs.Worlds.{begun_count, begun_bytes}
use Rattle.xn_model.specs.Rules.{IsHeldOnDisk}
use Rattle.xn_kernel.specs.Kernels.{is_in_flight}

-- a block with a write under way
pub record IsFlying (o : Option Life) (k : ℕ) (bytes : List ℕ) : Type 0 where
  pub life : Life
  pub alive : o ≡ Some life
  pub begun : life.begun ≡ Some k
  pub carries : bytes_at k life ≡ bytes

begun_from : (l : Life) (g : Option ℕ) (k : ℕ) (bytes : List ℕ) → l.begun ≡ g → option_map {U = ℕ × List ℕ} (λ j. (j, bytes_at j l)) g ≡ Some (k, bytes) → IsFlying (Some l) k bytes
begun_from l None k bytes is e = absurd (none-some (k, bytes) e)
begun_from l (Some j) k bytes is e =
    let pair = same_Some (j, bytes_at j l) (k, bytes) e in
    let same : j ≡ k = ap (λ (p : ℕ × List ℕ). p.0) pair in
    record { life = l; alive = refl; begun = is ∙ ap (λ n. Some n) same; carries = sym (ap (λ n. bytes_at n l) same) ∙ ap (λ (p : ℕ × List ℕ). p.1) pair }

pub flying : (o : Option Life) (k : ℕ) (bytes : List ℕ) → flight_of o ≡ Some (k, bytes) → IsFlying o k bytes
flying None k bytes e = absurd (none-some (k, bytes) e)
flying (Some l) k bytes e = begun_from l l.begun k bytes refl e

pub flying_count : (o : Option Life) (k : ℕ) (bytes : List ℕ) → IsFlying o k bytes → begun_count o ≡ Some k
flying_count o k bytes f = ap begun_count f.alive ∙ f.begun

pub flying_bytes : (o : Option Life) (k : ℕ) (bytes : List ℕ) → IsFlying o k bytes → begun_bytes k o ≡ bytes
flying_bytes o k bytes f = ap (begun_bytes k) f.alive ∙ f.carries

pub flying_test : (state : StoreState) (b k : ℕ) (bytes : List ℕ) → IsFlying (life_at state.lives b) k bytes → is_in_flight state b ≡ true
flying_test state b k bytes f = ap (λ (o : Option Life). elim o as (λ _. Bool) [ None ↦ false | Some l ↦ is_some l.begun ]) f.alive ∙ ap is_some f.begun

idle_from : (g : Option ℕ) (l : Life) → option_map {U = ℕ × List ℕ} (λ j. (j, bytes_at j l)) g ≡ None → g ≡ None
idle_from None l e = refl
idle_from (Some j) l e = absurd (none-some (j, bytes_at j l) (sym e))

pub not_flying : (o : Option Life) → flight_of o ≡ None → begun_count o ≡ None
not_flying None e = refl
not_flying (Some l) e = idle_from l.begun l e

-- where the disk has the durable or the begun bytes, a write that is read back settles

tells : (xs ys : List ℕ) → xs ≡ ys → bytes_eq xs ys ≡ true
tells xs ys e = (bytes_eq-Decides xs ys).1 e

settles : (x y : Bool) (k : ℕ) → ((x ≡ true → ⊥) → y ≡ true) → (n : ℕ) × ◌≡◌ {A = Result ℕ Refusal} (if x then Ok k else if y then Ok 0 else Err NotMine) (Ok n)
settles true y k h = (k, refl)
settles false true k h = (0, refl)
settles false false k h = absurd (false≢true (h (λ e. false≢true e)))

durable_or_begun : (content : ℕ → List ℕ) (b k : ℕ) (l : Life) (o : Option BlockState) → l.durable ≡ o → l.begun ≡ Some k → ((s : BlockState) → o ≡ Some s → IsHeldOnDisk content b l s) →
    (bytes_eq (content b) (bytes_at k l) ≡ true → ⊥) → is_durable (content b) o ≡ true
durable_or_begun content b k l None d g placed other = refl
durable_or_begun content b k l (Some s) d g placed other = elim (placed s refl) [
  | inl here ↦ tells (content b) s.bytes here
  | inr there ↦
      let last : last_or None (take k l.pending) ≡ Some there.0 = ap (λ o. last_or None (first_states o l.pending)) (sym g) ∙ there.1 in
      absurd (other (tells (content b) (bytes_at k l) (there.2 ∙ sym (ap bytes_of last))))
]

pub settled_well : (content : ℕ → List ℕ) (lives : Lives) (b k : ℕ) (bytes : List ℕ) → (flies : IsFlying (life_at lives b) k bytes) →
    ((l : Life) (s : BlockState) → life_at lives b ≡ Some l → l.durable ≡ Some s → IsHeldOnDisk content b l s) → slice_get lives b ≡ Some (Some flies.life) →
    (n : ℕ) × (settled_place (content b) (slice_get lives b) ≡ Ok n)
settled_well content lives b k bytes flies placed at =
    let l = flies.life in
    let r = settles (bytes_eq (content b) (bytes_at k l)) (is_durable (content b) l.durable) k (durable_or_begun content b k l l.durable refl flies.begun (λ s d. placed l s flies.alive d)) in
    (r.0, ap (settled_place (content b)) at ∙ (ap (settled_count l (content b)) flies.begun ∙ r.1))
