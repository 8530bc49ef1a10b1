-- The lives of all places, where one of them changes.
use Rattle.std.proofs.Common.{◌≡◌, ◌≢◌, ℕ, ◌<◌, subst, List, length, get_or, set, Option, Some, None, refl, sym, ◌∙◌, ap, arith, inl, inr, slice_get}
use Rattle.std.specs.Prelude.{option_map, unwrap_or, slice_set}
use Rattle.std.proofs.lemmas.Bool.{cases_eq}
use Rattle.std.proofs.lemmas.List.{same_lists, get_or-map, get_or-set_same, get_or-set_other, length-map, length-set}
use Rattle.std.proofs.lemmas.Option.{slice_get-get_or, slice_get-map, slice_get_within, get_or_from_slice_get}
use Rattle.slab.specs.Slab.{Slab}
use Rattle.xn_model.specs.Lives.{life_at}
use Rattle.block_cache.specs.declared.entry.Entry.{Entry}
use Rattle.block_cache.specs.Cached.{CachedLife}
use Rattle.block_cache.specs.Undone.{life_with, life_of, lives_of}
use Rattle.block_cache.specs.Kept.{IsKept, AreKept, AreUsed, place_at}
use Rattle.block_cache.proofs.Keys.{AreSame, same_entries, same_keys}

-- every block but this has the entries that it had
abbrev pub KeepsOthers : Slab Entry → Slab Entry → ℕ → List (Option CachedLife) → Type 0
KeepsOthers old new b places = (c : ℕ) (l : CachedLife) → c ≢ b → slice_get places c ≡ Some (Some l) → AreSame old new l.keys

pub life-life_at : (slab : Slab Entry) (places : List (Option CachedLife)) (b : ℕ) → life_at (lives_of slab places) b ≡ option_map (life_of slab) (place_at places b)
life-life_at slab places b = ap (λ o. unwrap_or o None) (slice_get-map (option_map (life_of slab)) places b) ∙ go (slice_get places b)
  where
    go : (o : Option (Option CachedLife)) → unwrap_or (option_map (option_map (life_of slab)) o) None ≡ option_map (life_of slab) (unwrap_or o None)
    go None = refl
    go (Some x) = refl

same_life : (old new : Slab Entry) (l : CachedLife) → AreSame old new l.keys → life_of new l ≡ life_of old l
same_life old new l same = ap (λ es. life_with es l) (same_entries old new l.keys same)

same_place : (old new : Slab Entry) (o : Option CachedLife) → ((l : CachedLife) → o ≡ Some l → AreSame old new l.keys) → option_map (life_of new) o ≡ option_map (life_of old) o
same_place old new None same = refl
same_place old new (Some l) same = ap (λ x. Some x) (same_life old new l (same l refl))

-- one place written
pub lives_of-set : (old new : Slab Entry) (places : List (Option CachedLife)) (b : ℕ) (x : Option CachedLife) → KeepsOthers old new b places →
    lives_of new (slice_set places b x) ≡ slice_set (lives_of old places) b (option_map (life_of new) x)
lives_of-set old new places b x keeps =
    let n = length-map (set places b x) (option_map (life_of new)) in
    let m = length-set places b x in
    let p = length-set (lives_of old places) b (option_map (life_of new) x) in
    let q = length-map places (option_map (life_of old)) in
    same_lists _ _ (n ∙ (m ∙ (sym q ∙ sym p)))
    (λ k d h.
    let within : k < length places = omega (arith, h, n, m) in
    let in_set : k < length (set places b x) = omega (arith, h, n) in
    let in_map : k < length (lives_of old places) = omega (arith, within, q) in
    get_or-map (option_map (life_of new)) (set places b x) k None d in_set
    ∙ elim (cases_eq k b) [
      | inl e ↦
          let here : b < length places = omega (arith, e, within) in
          ap (λ j. option_map (life_of new) (get_or (set places b x) j None)) e
          ∙ (ap (option_map (life_of new)) (get_or-set_same places b x None here)
          ∙ (sym (get_or-set_same (lives_of old places) b (option_map (life_of new) x) d (omega (arith, here, q)))
          ∙ ap (λ j. get_or (set (lives_of old places) b (option_map (life_of new) x)) j d) (sym e)))
      | inr ne ↦
          ap (option_map (life_of new)) (get_or-set_other places b k x None ne)
          ∙ (same_place old new (get_or places k None) (λ l e. keeps k l ne (slice_get-get_or places k None within ∙ ap (λ o. Some o) e))
          ∙ (sym (get_or-map (option_map (life_of old)) places k None d within)
          ∙ sym (get_or-set_other (lives_of old places) b k (option_map (life_of new) x) d ne)))
    ])

each_kept : (old new : Slab Entry) (places : List (Option CachedLife)) (b : ℕ) (x : Option CachedLife) → AreKept old places → KeepsOthers old new b places →
    ((l : CachedLife) → x ≡ Some l → IsKept new b l) → (c : ℕ) (l : CachedLife) → slice_get (slice_set places b x) c ≡ Some (Some l) → IsKept new c l
each_kept old new places b x kept keeps here c l e =
    let within : c < length places = let h = slice_get_within (set places b x) c (Some l) e in omega (arith, h, length-set places b x) in
    elim (cases_eq c b) [
      | inl same ↦
          let at : b < length places = omega (arith, same, within) in
          let is : x ≡ Some l = sym (get_or-set_same places b x None at) ∙ (ap (λ j. get_or (set places b x) j None) (sym same) ∙ get_or_from_slice_get (set places b x) c (Some l) None e) in
          let P : ℕ → Type 0 = λ j. IsKept new j l in
          subst P (sym same) (here l is)
      | inr ne ↦
          let old_at : slice_get places c ≡ Some (Some l) = slice_get-get_or places c None within ∙ ap (λ o. Some o) (sym (get_or-set_other places b c x None ne) ∙ get_or_from_slice_get (set places b x) c (Some l) None e) in
          let k = kept.each c l old_at in
          record { keys = same_keys old new c l.keys (keeps c l ne old_at) k.keys; few = k.few; begun = k.begun; has_state = k.has_state }
    ]

pub kept-set : (old new : Slab Entry) (places : List (Option CachedLife)) (b : ℕ) (x : Option CachedLife) → AreKept old places → KeepsOthers old new b places →
    ((l : CachedLife) → x ≡ Some l → IsKept new b l) → AreUsed new (slice_set places b x) → AreKept new (slice_set places b x)
kept-set old new places b x kept keeps here used = record { each = each_kept old new places b x kept keeps here; used = used; few = omega (arith, kept.few, length-set places b x) }
