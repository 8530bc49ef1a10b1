use Rattle.std.proofs.Common.{◌≡◌, ◌∙◌, ◌≤◌, ℕ, List, Ok, ap, sym, subst, slice_get}
use Rattle.std.specs.Prelude.{IfSome}
use Rattle.xn_model.specs.Lives.{Lives, StoreState, begun_at, life_at}
use Rattle.xn_model.specs.Results.{result_map}
use Rattle.xn_model.specs.Calls.{begun_of, begun_place, life_pending}
use Rattle.block_cache.specs.Views.{image_at}
use Rattle.claims.proofs.ForCallers.{begun_decided}
use Rattle.xn_state.specs.States.{IsStateOf, own_types}
use Rattle.xn_state.proofs.Keeping.{begun_goes_on, continues, goes_on, state_of}
use Rattle.xn_state.proofs.Writing.{begun_carries, begun_has, begun_image, begun_of_place, has_image}
use Rattle.xn_state.proofs.state.State.begin_counted.Goals as goal

planned : (lives : Lives) (next b count : ℕ) (now : StoreState) (bytes : List ℕ) → state_of lives next ≡ now →
    result_map (λ (begun : (List ℕ × ℕ) × StoreState). begun.0.1) (begun_of now b) ≡ Ok count → 1 ≤ count → count ≤ life_pending (life_at now.lives b) →
    (new : Lives) → new ≡ begun_at lives b count → IfSome (life_at new b) (λ l. bytes ≡ image_at count l) → begun_place lives (slice_get lives b) ≡ Ok (bytes, count)
planned lives next b count now bytes view e some within new begun image =
    let old = state_of lives next in
    let counted = subst (λ (s : StoreState). result_map (λ (begun : (List ℕ × ℕ) × StoreState). begun.0.1) (begun_of s b) ≡ Ok count) (sym view) e in
    let few = subst (λ (s : StoreState). count ≤ life_pending (life_at s.lives b)) (sym view) within in
    let left = begun_image lives b count bytes (subst (λ (xs : Lives). IfSome (life_at xs b) (λ l. bytes ≡ image_at count l)) begun image) in
    begun_carries lives (slice_get lives b) count bytes (sym (begun_of_place old b) ∙ counted) some few left

pub image-requires : goal.image-requires
image-requires c =
    let few = subst (λ (s : StoreState). c.args.count ≤ life_pending (life_at s.lives c.args.block)) (sym c.self.view_is) c.requires.within in
    let begun = sym c.begin.ensures ∙ sym c.lives.view_is in
    let within = subst (λ (xs : Lives). c.args.count ≤ life_pending (life_at xs c.args.block)) begun (begun_has c.self.inside.lives c.args.block c.args.count c.args.count few) in
    let there = has_image (life_at c.lives.inside.cache c.args.block) c.args.count c.requires.some within in
    record { alive = there.0; has = there.1 }

pub invariant_of-self : goal.invariant_of-self
invariant_of-self c =
    let bytes = c.image.result in
    let plan = planned c.self.inside.lives c.self.inside.next c.args.block c.args.count c.args.self.now bytes c.self.view_is c.requires.count c.requires.some c.requires.within c.begin.new.self c.begin.ensures
    (subst (λ (xs : Lives). IfSome (life_at xs c.args.block) (λ l. c.image.result ≡ image_at c.args.count l)) c.lives.view_is c.image.ensures) in
    let old = state_of c.self.inside.lives c.self.inside.next in
    let new = state_of (begun_at c.self.inside.lives c.args.block c.args.count) c.self.inside.next in
    let kept = begun_goes_on (own_types old) c.self.inside.lives c.self.inside.next c.args.block (bytes, c.args.count) c.self.invariant.rules plan in
    let decided = begun_decided (own_types old) c.self.inside.reads c.self.inside.lives c.args.block c.args.count c.self.invariant.decided in
    subst (λ (xs : Lives). IsStateOf c.self.inside.table c.self.inside.reads (state_of xs c.self.inside.next)) (sym c.begin.ensures)
    (goes_on c.self.inside.table c.self.inside.reads c.self.inside.reads old new c.self.invariant (continues old new kept) decided)

pub returns : goal.returns
returns c =
    let lives = c.self.inside.lives in
    let next = c.self.inside.next in
    let b = c.args.block in
    let bytes = c.image.result in
    let plan = planned lives next b c.args.count c.args.self.now bytes c.self.view_is c.requires.count c.requires.some c.requires.within c.begin.new.self c.begin.ensures
    (subst (λ (xs : Lives). IfSome (life_at xs c.args.block) (λ l. c.image.result ≡ image_at c.args.count l)) c.lives.view_is c.image.ensures) in
    sym (ap (λ (s : StoreState). begun_of s b) c.self.view_is)
    ∙ (ap (result_map (λ (begun : List ℕ × ℕ). (begun, state_of (begun_at lives b begun.1) next))) plan
    ∙ (λ i. Ok ((bytes, c.args.count), state_of (sym c.begin.ensures i) next)))
