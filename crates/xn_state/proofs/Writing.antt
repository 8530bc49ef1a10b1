-- What the facts and the bytes of a block say of its writes.
use Rattle.std.proofs.Common.{◌≡◌, ℕ, ◌≤◌, Bool, true, false, List, [], ◌∷◌, length, Option, Some, None, Result, Ok, Err, refl, slice_get, sym, ◌∙◌, ap, arith, subst}
use Rattle.std.specs.Prelude.{bytes_eq, if◌then◌else◌, is_some, option_map, unwrap_or, IfSome, IsTrue, ◌==◌, ◌||◌}
use Rattle.std.specs.List.{last_or}
use Rattle.std.proofs.lemmas.List.{take_all}
use Rattle.std.proofs.lemmas.Slice.Eq.{bytes_eq-Decides}
use Rattle.std.proofs.Math.Bool.{or-true}
use Rattle.std.proofs.lemmas.Bool.{lt-ltb, ne_eqb}
use Rattle.std.proofs.lemmas.Option.{none-some, same_Some}
use Rattle.xn_model.specs.Lives.{Life, Lives, StoreState, alive_and, begun_at, bytes_of, current, life_at, prefix_of}
use Rattle.store_types.specs.declared.refusal.Refusal.{Refusal}
use Rattle.xn_model.specs.Results.{first_refusal, result_map, unless}
use Rattle.store_types.specs.declared.refusal.Refusal.TheVariants.{NothingSafe, NoSuchBlock, NotInUse, InFlight, NotMine}
use Rattle.xn_model.specs.Calls.{begun_of, begun_place, bytes_at, is_durable, life_bytes, life_pending, settled_count, settled_place}
use Rattle.xn_model.specs.Rules.{IsCount}
use Rattle.xn_model.proofs.ForCallers.{change_same, never_ok, same_ok, unless_passed}
use Rattle.block_cache.specs.declared.life.Facts.{Facts}
use Rattle.block_cache.specs.Views.{HasImage, facts_of, image_at}
use Rattle.xn_state.proofs.Lasts.{image_of_some}

-- the place of a block in use
pub place_in_use : (lives : Lives) (b : ℕ) (l : Life) → Some l ≡ life_at lives b → slice_get lives b ≡ Some (Some l)
place_in_use lives b l e = by (slice_get lives b) e
  where
    by : (p : Option (Option Life)) → Some l ≡ unwrap_or p None → p ≡ Some (Some l)
    by None e = absurd (none-some l (sym e))
    by (Some o) e = ap (λ x. Some x) (sym e)

pub begun_is : (lives : Lives) (p : Option (Option Life)) (facts : Facts) (count : ℕ) → Some (Some facts) ≡ option_map (option_map facts_of) p → is_some facts.begun ≡ false →
    (count ≡ 0 → ⊥) → count ≡ prefix_of lives (unwrap_or p None) → Ok count ≡ result_map (λ (begun : List ℕ × ℕ). begun.1) (begun_place lives p)
begun_is lives None facts count e idle some is = absurd (none-some (Some facts) (sym e))
begun_is lives (Some None) facts count e idle some is = absurd (none-some facts (sym (same_Some (Some facts) None e)))
begun_is lives (Some (Some l)) facts count e idle some is =
    let same = same_Some facts (facts_of l) (same_Some (Some facts) (Some (facts_of l)) e) in
    let k = prefix_of lives (Some l) in
    let first : is_some l.begun ≡ false = sym (ap (λ (f : Facts). is_some f.begun) same) ∙ idle in
    let second : (k == 0) ≡ false = ne_eqb k 0 (λ none. some (is ∙ none)) in
    let passed = unless_passed ((is_some l.begun, InFlight) ∷ (k == 0, NothingSafe) ∷ []) (Ok (bytes_at k l, k)) (first, (second, tt)) in
    ap Ok is ∙ sym (ap (result_map (λ (begun : List ℕ × ℕ). begun.1)) passed)

-- what a write carries that may begin
given_count : (refusal : Option Refusal) (given : List ℕ × ℕ) (count : ℕ) → result_map (λ (begun : List ℕ × ℕ). begun.1) (unless refusal (Ok given)) ≡ Ok count →
    (unless refusal (Ok given) ≡ Ok given) × (given.1 ≡ count)
given_count None given count e = (refl, same_ok given.1 count e)
given_count (Some refusal) given count e = absurd (never_ok refusal count e)

pub begun_carries : (lives : Lives) (p : Option (Option Life)) (count : ℕ) (bytes : List ℕ) → result_map (λ (begun : List ℕ × ℕ). begun.1) (begun_place lives p) ≡ Ok count →
    1 ≤ count → count ≤ life_pending (unwrap_or p None) → IfSome (unwrap_or p None) (λ l. bytes ≡ image_at count l) → begun_place lives p ≡ Ok (bytes, count)
begun_carries lives None count bytes e some within image = absurd (never_ok NoSuchBlock count e)
begun_carries lives (Some None) count bytes e some within image = absurd (never_ok NotInUse count e)
begun_carries lives (Some (Some l)) count bytes e some within image =
    let k = prefix_of lives (Some l) in
    let given = given_count (first_refusal ((is_some l.begun, InFlight) ∷ (k == 0, NothingSafe) ∷ [])) (bytes_at k l, k) count e in
    let there = image ∙ image_of_some l count some within in
    given.0 ∙ ((λ i. Ok (bytes_at (given.1 i) l, given.1 i)) ∙ (λ i. Ok (sym there i, count)))

-- what a block has pending stays as a write of it begins, and so does what the first of it leave
abbrev begun_with : ℕ → Life → Life
begun_with k l = record l { begun = Some k }

pub begun_has : (lives : Lives) (b k count : ℕ) → count ≤ life_pending (life_at lives b) → count ≤ life_pending (life_at (begun_at lives b k) b)
begun_has lives b k count few = subst (λ (o : Option Life). count ≤ life_pending o) (sym (change_same lives b (begun_with k))) (has (life_at lives b) few)
  where
    has : (o : Option Life) → count ≤ life_pending o → count ≤ life_pending (option_map (begun_with k) o)
    has None few = few
    has (Some l) few = few

-- a block of which some entries are pending is in use, and some bytes stand where the first of them are done
pub has_image : (o : Option Life) (count : ℕ) → 1 ≤ count → count ≤ life_pending o → IsTrue (is_some o) × IfSome o (HasImage count)
has_image None count some within = absurd (omega (arith, some, within))
has_image (Some l) count some within =
    (refl, record { within = within; some = ap (λ (t : Bool). is_some l.durable || t) (lt-ltb 0 count some) ∙ or-true (is_some l.durable) })

pub begun_image : (lives : Lives) (b k : ℕ) (bytes : List ℕ) → IfSome (life_at (begun_at lives b k) b) (λ l. bytes ≡ image_at k l) → IfSome (life_at lives b) (λ l. bytes ≡ image_at k l)
begun_image lives b k bytes image = of (life_at lives b) (subst (λ (o : Option Life). IfSome o (λ l. bytes ≡ image_at k l)) (change_same lives b (begun_with k)) image)
  where
    of : (o : Option Life) → IfSome (option_map (begun_with k) o) (λ l. bytes ≡ image_at k l) → IfSome o (λ l. bytes ≡ image_at k l)
    of None image = image
    of (Some l) image = image

-- of a block of a state
pub begun_of_place : (state : StoreState) (b : ℕ) → result_map (λ (begun : (List ℕ × ℕ) × StoreState). begun.0.1) (begun_of state b) ≡ result_map (λ (begun : List ℕ × ℕ). begun.1) (begun_place state.lives (slice_get state.lives b))
begun_of_place state b = by (begun_place state.lives (slice_get state.lives b))
  where
    by : (r : Result (List ℕ × ℕ) Refusal) →
        result_map (λ (begun : (List ℕ × ℕ) × StoreState). begun.0.1) (result_map (λ (begun : List ℕ × ℕ). (begun, record state { lives = begun_at state.lives b begun.1 })) r)
        ≡ result_map (λ (begun : List ℕ × ℕ). begun.1) r
    by (Ok given) = refl
    by (Err refusal) = refl

-- how many entries are durable once bytes are read back
pub settled_is : (bytes : List ℕ) (p : Option (Option Life)) (facts : Facts) (count : ℕ) (here durable : Bool) → Some facts ≡ option_map facts_of (unwrap_or p None) →
    IsCount facts.begun facts.pending → facts.begun ≡ Some count → here ≡ alive_and (λ l. bytes_eq bytes (image_at count l)) (unwrap_or p None) →
    durable ≡ alive_and (λ l. is_durable bytes l.durable) (unwrap_or p None) → settled_place bytes p ≡ (if here then Ok count else if durable then Ok 0 else Err NotMine)
settled_is bytes None facts count here durable e some begun h d = absurd (none-some facts (sym e))
settled_is bytes (Some None) facts count here durable e some begun h d = absurd (none-some facts (sym e))
settled_is bytes (Some (Some l)) facts count here durable e some begun h d =
    let same = same_Some facts (facts_of l) e in
    let carries : l.begun ≡ Some count = sym (ap (λ (f : Facts). f.begun) same) ∙ begun in
    let pending : facts.pending ≡ length l.pending = ap (λ (f : Facts). f.pending) same in
    let counted = let P : Option ℕ → Type 0 = λ o. IsCount o facts.pending in subst P begun some in
    let landed = h ∙ ap (bytes_eq bytes) (image_of_some l count counted.0 (omega (arith, counted.1, pending))) in
    ap (settled_count l bytes) carries ∙ (λ i. if sym landed i then Ok count else if sym d i then Ok 0 else Err NotMine)

-- where the newest bytes are read back, and the write carries each pending entry
pub settled_whole : (p : Option (Option Life)) (facts : Facts) (count : ℕ) → Some facts ≡ option_map facts_of (unwrap_or p None) → IsCount facts.begun facts.pending →
    facts.begun ≡ Some count → count ≡ facts.pending → settled_place (life_bytes (unwrap_or p None)) p ≡ Ok count
settled_whole None facts count e some begun all = absurd (none-some facts (sym e))
settled_whole (Some None) facts count e some begun all = absurd (none-some facts (sym e))
settled_whole (Some (Some l)) facts count e some begun all =
    let same = same_Some facts (facts_of l) e in
    let pending : facts.pending ≡ length l.pending = ap (λ (f : Facts). f.pending) same in
    let whole : image_at count l ≡ current l = ap (λ xs. bytes_of (last_or l.durable xs)) (take_all count l.pending (omega (arith, all, pending))) in
    let here = sym ((bytes_eq-Decides (current l) (image_at count l)).1 (sym whole)) in
    settled_is (current l) (Some (Some l)) facts count true (is_durable (current l) l.durable) e some begun here refl
