-- The places that block 0's catalogue names on the disk, where lives change.
use Rattle.std.proofs.Common.{◌≡◌, ℕ, zero, suc, ◌+◌, ◌-◌, ◌*◌, ◌<◌, ◌≤◌, Bool, true, false, List, [], ◌∷◌, length, take, drop, get_or, map, Option, Some, None, refl, sym, ◌∙◌, ap, arith, slice_get}
use Rattle.std.specs.Prelude.{◌&&◌, ◌||◌, ◌==◌, not, nat_lt, option_map, slice_index_or, slice_set, if◌then◌else◌}
use Rattle.std.specs.Int.{w32, from_le_bytes}
use Rattle.std.specs.List.{range_with_len}
use Rattle.std.proofs.lemmas.Bool.{le-ltb, lt-ltb, ltb-true, ltb-false, ne_eqb}
use Rattle.std.proofs.lemmas.Option.{none-some, same_Some}
use Rattle.std.proofs.lemmas.List.{drop_more}
use Rattle.std.proofs.lemmas.List.FromFn.{get_or-map-range_with_len}
use Rattle.xn_model.specs.Root.{has_type, pointer, word_at}
use Rattle.xn_model.specs.Lives.{BlockState, Life, Lives, bytes_of, change_at, durable_after, durable_bytes, life_at, root_on_disk, settle, settled_at}
use Rattle.xn_model.specs.Calls.{new_life}
use Rattle.xn_model.proofs.ForCallers.{change_same, set_other}
use Rattle.block_cache.specs.declared.life.FoundLife.{FoundLife}
use Rattle.block_cache.specs.Named.{names_type, places_named}
use Rattle.block_cache.specs.Views.{rest_at}

-- What is read of a catalogue

-- four bytes, one by one
four_bytes : (m : List ℕ) (at : ℕ) → at + 4 ≤ length m → take 4 (drop at m) ≡ get_or m at 0 ∷ get_or m (at + 1) 0 ∷ get_or m (at + 2) 0 ∷ get_or m (at + 3) 0 ∷ []
four_bytes m at within = ap (take 4) (drop_more m at 0 (omega (arith, within)) ∙ ap (λ bs. get_or m at 0 ∷ bs) (then_one (at + 1) (at + 2) (omega arith) (omega (arith, within))
    ∙ ap (λ bs. get_or m (at + 1) 0 ∷ bs) (then_one (at + 2) (at + 3) (omega arith) (omega (arith, within))
    ∙ ap (λ bs. get_or m (at + 2) 0 ∷ bs) (then_one (at + 3) (at + 4) (omega arith) (omega (arith, within))))))
  where
    then_one : (i j : ℕ) → i + 1 ≡ j → i < length m → drop i m ≡ get_or m i 0 ∷ drop j m
    then_one i j next lt = drop_more m i 0 lt ∙ ap (λ k. get_or m i 0 ∷ drop k m) next

pub pointer_bytes : (m : List ℕ) (i : ℕ) → 8 + 4 * i + 4 ≤ length m →
    pointer m i ≡ from_le_bytes w32 (get_or m (8 + 4 * i) 0 ∷ get_or m (8 + 4 * i + 1) 0 ∷ get_or m (8 + 4 * i + 2) 0 ∷ get_or m (8 + 4 * i + 3) 0 ∷ [])
unfolding pointer word_at
pointer_bytes m i within = ap (from_le_bytes w32) (four_bytes m (8 + 4 * i) within)

drop_none : (n : ℕ) → drop {A = ℕ} n [] ≡ []
drop_none zero = refl
drop_none (suc n) = refl

-- no bytes name anything
pub pointer_none : (i : ℕ) → pointer [] i ≡ 0
unfolding pointer word_at
pointer_none i = ap (λ bs. from_le_bytes w32 (take 4 bs)) (drop_none (8 + 4 * i))

pub none_named : map (λ i. false) (range_with_len 0 16) ≡ places_named []
unfolding places_named
none_named = sym (λ j. map (λ i. not (pointer_none i j == 0)) (range_with_len 0 16))

pub has_named : (m : List ℕ) (u : ℕ) → names_type (places_named m) u ≡ has_type m u
unfolding places_named
has_named m u = by (nat_lt u 3) (nat_lt u 19) refl refl
  where
    named : ℕ → Bool
    named i = not (pointer m i == 0)

    there : nat_lt u 3 ≡ false → nat_lt u 19 ≡ true → slice_index_or (map named (range_with_len 0 16)) (u - 3) false ≡ named (u - 3)
    there low high = let lo = ltb-false u 3 low in let hi = ltb-true u 19 high in get_or-map-range_with_len named 0 16 (u - 3) (u - 3) false (omega (arith, lo, hi)) (omega arith)

    by : (low high : Bool) → nat_lt u 3 ≡ low → nat_lt u 19 ≡ high →
        (low || (high && slice_index_or (map named (range_with_len 0 16)) (u - 3) false)) ≡ (low || (high && named (u - 3)))
    by true high is_low is_high = refl
    by false true is_low is_high = there is_low is_high
    by false false is_low is_high = refl

-- Where lives change, block 0 names what it named

-- a life changes that keeps its durable bytes
pub root_changed : (lives : Lives) (b : ℕ) (f : Life → Life) → ((l : Life) → bytes_of (f l).durable ≡ bytes_of l.durable) → root_on_disk (change_at lives b f) ≡ root_on_disk lives
root_changed lives zero f same = ap durable_bytes (change_same lives 0 f) ∙ here (life_at lives 0)
  where
    here : (o : Option Life) → durable_bytes (option_map f o) ≡ durable_bytes o
    here None = refl
    here (Some l) = same l
root_changed lives (suc b) f same = ap durable_bytes (set_other lives (suc b) 0 (option_map f (life_at lives (suc b))) (λ e. absurd (omega (arith, e))))

-- a life starts
pub root_started : (lives : Lives) (b n : ℕ) (fs : Option ℕ) (ty : ℕ) (bytes : List ℕ) → slice_get lives b ≡ Some None → root_on_disk (slice_set lives b (Some (new_life n fs ty bytes))) ≡ root_on_disk lives
root_started [] b n fs ty bytes free = absurd (none-some None free)
root_started (o ∷ os) zero n fs ty bytes free = sym (ap durable_bytes (same_Some o None free))
root_started (o ∷ os) (suc b) n fs ty bytes free = refl

-- a write is given up
pub given_up : (l : Life) → bytes_of (settle 0 l).durable ≡ bytes_of l.durable
given_up l = by l.durable
  where
    by : (d : Option BlockState) → bytes_of (durable_after d) ≡ bytes_of d
    by None = refl
    by (Some s) = refl

-- another block's write ends
pub settled_other : (lives : Lives) (b k : ℕ) → (b ≡ 0 → ⊥) → root_on_disk (settled_at lives b k) ≡ root_on_disk lives
settled_other lives b k other = ap durable_bytes (set_other lives b 0 (option_map (settle k) (life_at lives b)) (λ e. other (sym e)))

-- Where block 0's life ends, and at the start

-- a life ends
pub freed_named : (lives : Lives) (b : ℕ) → places_named (root_on_disk (slice_set lives b None)) ≡ (if b == 0 then places_named [] else places_named (root_on_disk lives))
freed_named [] zero = refl
freed_named (o ∷ os) zero = refl
freed_named lives (suc b) =
    ap (λ l. places_named (durable_bytes l)) (set_other lives (suc b) 0 None (λ e. absurd (omega (arith, e))))
    ∙ ap (λ (t : Bool). if t then places_named [] else places_named (root_on_disk lives)) (sym (ne_eqb (suc b) 0 (λ e. absurd (omega (arith, e)))))

-- the lives are found in an image
pub root_found : (found : List (Option FoundLife)) (blocks : List (List ℕ)) → root_on_disk (map (rest_at found blocks) (range_with_len 0 (length found))) ≡ durable_bytes (rest_at found blocks 0)
root_found [] blocks = refl
root_found (o ∷ os) blocks = refl

-- What is kept beside the lives

-- the lives are others, with the same bytes of block 0 on the disk
pub still_named : (names : List Bool) (old lives new changed : Lives) → names ≡ places_named (root_on_disk old) → old ≡ lives → new ≡ changed → root_on_disk changed ≡ root_on_disk lives →
    names ≡ places_named (root_on_disk new)
still_named names old lives new changed known view is same = known ∙ ap places_named (ap (λ (ls : Lives). root_on_disk ls) view ∙ (sym same ∙ sym (ap (λ (ls : Lives). root_on_disk ls) is)))

-- the life of a block ends
pub ended_named : (names : List Bool) (old lives new : Lives) (b : ℕ) → names ≡ places_named (root_on_disk old) → old ≡ lives → new ≡ slice_set lives b None →
    (if b == 0 then places_named [] else names) ≡ places_named (root_on_disk new)
ended_named names old lives new b known view is =
    ap (λ (ns : List Bool). if b == 0 then places_named [] else ns) (known ∙ ap (λ (ls : Lives). places_named (root_on_disk ls)) view)
    ∙ (sym (freed_named lives b) ∙ sym (ap (λ (ls : Lives). places_named (root_on_disk ls)) is))

-- of a type that is not built in, the place says it
pub named_within : (named : List Bool) (u : ℕ) → 3 ≤ u → u < 19 → slice_index_or named (u - 3) false ≡ names_type named u
named_within named u from within = λ i. sym (le-ltb u 3 from) i || (sym (lt-ltb u 19 within) i && slice_index_or named (u - 3) false)
