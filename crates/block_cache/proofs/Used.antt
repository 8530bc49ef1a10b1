-- Each entry is one of a life.
use Rattle.std.proofs.Common.{◌≡◌, ◌≢◌, ◌⊎◌, inl, inr, ⊎_elim, ℕ, zero, suc, ◌+◌, ◌<◌, List, [], ◌∷◌, ◌++◌, length, take, drop, get_or, Option, Some, None, refl, sym, ◌∙◌, ap, arith, subst, slice_get}
use Rattle.std.specs.Prelude.{Contains, IsTrue, is_some, option_map, slice_set, unwrap_or}
use Rattle.std.proofs.lemmas.Bool.{cases_Bool, cases_eq, false≢true}
use Rattle.std.proofs.lemmas.Option.{none-some, same_Some, slice_get_within}
use Rattle.std.proofs.lemmas.List.{take-append-drop, take_more}
use Rattle.std.proofs.lemmas.List.Elements.{Contains-append_cases, Contains-append_left, Contains-push, Contains-push_cases}
use Rattle.slab.specs.Slab.{Slab, get, Updates}
use Rattle.xn_model.specs.Lists.{has_number}
use Rattle.xn_model.proofs.ForCallers.{has_number_at, has_number_from}
use Rattle.block_cache.specs.declared.entry.Entry.{Entry}
use Rattle.block_cache.specs.Cached.{CachedLife}
use Rattle.block_cache.specs.Kept.{IsUsed, AreUsed, place_at, change_place, appended, settled, first_keys, keys_of}

abbrev Places : Type 0
Places = List (Option CachedLife)

-- Keys among others

pub apart_or_among : (k : ℕ) (ks : List ℕ) → (Contains ks k → ⊥) ⊎ Contains ks k
apart_or_among k ks = elim (cases_Bool (has_number ks k)) [
  | inl t ↦ inr (has_number_at ks k t)
  | inr f ↦ inl (λ i. false≢true (sym f ∙ has_number_from ks k i))
]

among_rest : (k n : ℕ) (ks : List ℕ) → Contains ks k → (Contains (take n ks) k → ⊥) → Contains (drop n ks) k
among_rest k n ks among apart = elim (Contains-append_cases (take n ks) (drop n ks) k (rw (take-append-drop n ks) among)) [
  | inl front ↦ absurd (apart front)
  | inr rest ↦ rest
]

-- one key more
pub gone_more : (old new : Slab Entry) (ks : List ℕ) (i q : ℕ) → i < length ks → q ≡ get_or ks i 0 → Updates old new q None → ((k : ℕ) → Contains (take i ks) k → get old k ≡ None) →
    (k : ℕ) → Contains (take (i + 1) ks) k → get new k ≡ None
gone_more old new ks i q within is updates before k among =
    let gone : k ≡ q → get new k ≡ None = λ same. ap (get new) same ∙ updates.changed in
    elim (cases_eq k q) [
      | inl same ↦ gone same
      | inr ne ↦ elim (Contains-push_cases (take i ks) (get_or ks i 0) k (subst (λ xs. Contains xs k) (take_more ks i 0 within) among)) [
        | inl front ↦ updates.others k ne ∙ before k front
        | inr here ↦ gone (sym here ∙ sym is)
      ]
    ]

-- Places that are written

there_same : (places : Places) (b : ℕ) (x : Option CachedLife) → b < length places → slice_get (slice_set places b x) b ≡ Some x
there_same [] b x within = absurd (omega arith)
there_same (o ∷ os) zero x within = refl
there_same (o ∷ os) (suc b) x within = there_same os b x (omega (arith, within))

there_other : (places : Places) (b c : ℕ) (x : Option CachedLife) → c ≢ b → slice_get (slice_set places b x) c ≡ slice_get places c
there_other [] b c x ne = refl
there_other (o ∷ os) zero zero x ne = absurd (ne refl)
there_other (o ∷ os) zero (suc c) x ne = refl
there_other (o ∷ os) (suc b) zero x ne = refl
there_other (o ∷ os) (suc b) (suc c) x ne = there_other os b c x (λ e. ne (ap suc e))

-- an entry of another block
used_other : (places : Places) (b c k : ℕ) (x : Option CachedLife) → c ≢ b → IsUsed places c k → IsUsed (slice_set places b x) c k
used_other places b c k x ne u = record { life = u.life; there = there_other places b c x ne ∙ u.there; among = u.among }

-- an entry of this block, whose life changes
used_here : (places : Places) (b c k : ℕ) (f : CachedLife → CachedLife) (u : IsUsed places c k) → c ≡ b → Contains (f u.life).keys k → IsUsed (change_place places b f) c k
used_here places b c k f u same among =
    let P : ℕ → Type 0 = λ j. slice_get places j ≡ Some (Some u.life) in
    let there = subst P same u.there in
    let within = slice_get_within places b (Some u.life) there in
    let now = ap (λ o. option_map f (unwrap_or o None)) there in
    let Q : ℕ → Type 0 = λ j. slice_get (change_place places b f) j ≡ Some (Some (f u.life)) in
    record { life = f u.life; there = subst Q (sym same) (there_same places b (option_map f (place_at places b)) within ∙ ap (λ o. Some o) now); among = among }

used_at : (places : Places) (b c k : ℕ) (u : IsUsed places c k) → c ≡ b → place_at places b ≡ Some u.life
used_at places b c k u same = ap (λ j. place_at places j) (sym same) ∙ ap (λ o. unwrap_or o None) u.there

-- where all entries stay, with the keys of each life
pub used_kept : (slab : Slab Entry) (places : Places) (b : ℕ) (f : CachedLife → CachedLife) → ((l : CachedLife) → (f l).keys ≡ l.keys) → AreUsed slab places → AreUsed slab (change_place places b f)
used_kept slab places b f keys used k e at =
    let u = used k e at in
    elim (cases_eq e.block b) [
      | inl same ↦ used_here places b e.block k f u same (let P : List ℕ → Type 0 = λ ks. Contains ks k in subst P (sym (keys u.life)) u.among)
      | inr ne ↦ used_other places b e.block k (option_map f (place_at places b)) ne u
    ]

-- one entry more
pub used_append : (old new : Slab Entry) (places : Places) (b k : ℕ) (e : Entry) (bytes : List ℕ) → AreUsed old places → Updates old new k (Some e) → e.block ≡ b → IsTrue (is_some (place_at places b)) →
    AreUsed new (change_place places b (appended k bytes))
used_append old new places b k e bytes used updates own alive q e' at =
    elim (cases_eq q k) [
      | inl same ↦
          let is : e' ≡ e = same_Some e' e (sym at ∙ (ap (get new) same ∙ updates.changed)) in
          first (place_at places b) refl alive q e' same (ap (λ (x : Entry). x.block) is ∙ own)
      | inr ne ↦
          let u = used q e' (sym (updates.others q ne) ∙ at) in
          elim (cases_eq e'.block b) [
            | inl here ↦ used_here places b e'.block q (appended k bytes) u here (Contains-append_left u.life.keys (k ∷ []) q u.among)
            | inr other ↦ used_other places b e'.block q (option_map (appended k bytes) (place_at places b)) other u
          ]
    ]
  where
    within_of : (o : Option (Option CachedLife)) (l : CachedLife) → slice_get places b ≡ o → unwrap_or o None ≡ Some l → b < length places
    within_of None l at e = absurd (none-some l e)
    within_of (Some x) l at e = slice_get_within places b x at

    first : (o : Option CachedLife) → place_at places b ≡ o → IsTrue (is_some o) → (q : ℕ) (e' : Entry) → q ≡ k → e'.block ≡ b → IsUsed (change_place places b (appended k bytes)) e'.block q
    first None at t q e' same here = absurd (false≢true t)
    first (Some l) at t q e' same here =
        let P : ℕ → Type 0 = λ j. slice_get (change_place places b (appended k bytes)) j ≡ Some (Some (appended k bytes l)) in
        let Q : ℕ → Type 0 = λ j. Contains (l.keys ++ k ∷ []) j in
        record {
          life = appended k bytes l;
          there = subst P (sym here) (there_same places b (option_map (appended k bytes) (place_at places b)) (within_of (slice_get places b) l refl at) ∙ ap (λ o. Some (option_map (appended k bytes) o)) at);
          among = subst Q (sym same) (Contains-push l.keys k);
        }

-- the first entries forgotten
pub used_settle : (old new : Slab Entry) (places : Places) (b n : ℕ) → AreUsed old places → ((q : ℕ) → (Contains (first_keys n (place_at places b)) q → ⊥) → get new q ≡ get old q) →
    ((q : ℕ) → Contains (first_keys n (place_at places b)) q → get new q ≡ None) → AreUsed new (change_place places b (settled n))
used_settle old new places b n used rest gone q e at =
    ⊎_elim
    (λ apart.
    let u = used q e (sym (rest q apart) ∙ at) in
    elim (cases_eq e.block b) [
      | inl here ↦
          let P : Option CachedLife → Type 0 = λ o. Contains (first_keys n o) q → ⊥ in
          used_here places b e.block q (settled n) u here (among_rest q n u.life.keys u.among (subst P (used_at places b e.block q u here) apart))
      | inr other ↦ used_other places b e.block q (option_map (settled n) (place_at places b)) other u
    ])
    (λ among. absurd (none-some e (sym (gone q among) ∙ at)))
    (apart_or_among q (first_keys n (place_at places b)))

-- all entries of a life forgotten
pub used_end : (old new : Slab Entry) (places : Places) (b : ℕ) → AreUsed old places → ((q : ℕ) → (Contains (keys_of (place_at places b)) q → ⊥) → get new q ≡ get old q) →
    ((q : ℕ) → Contains (keys_of (place_at places b)) q → get new q ≡ None) → AreUsed new (slice_set places b None)
used_end old new places b used rest gone q e at =
    ⊎_elim
    (λ apart.
    let u = used q e (sym (rest q apart) ∙ at) in
    elim (cases_eq e.block b) [
      | inl here ↦
          let P : Option CachedLife → Type 0 = λ o. Contains (keys_of o) q → ⊥ in
          absurd (subst P (used_at places b e.block q u here) apart u.among)
      | inr other ↦ used_other places b e.block q None other u
    ])
    (λ among. absurd (none-some e (sym (gone q among) ∙ at)))
    (apart_or_among q (keys_of (place_at places b)))

-- with its first entry
pub used_start : (old new : Slab Entry) (places : Places) (b k : ℕ) (e : Entry) (l : CachedLife) → AreUsed old places → Updates old new k (Some e) → e.block ≡ b → b < length places → place_at places b ≡ None →
    Contains l.keys k → AreUsed new (slice_set places b (Some l))
used_start old new places b k e l used updates own within free mine q e' at =
    elim (cases_eq q k) [
      | inl same ↦
          let is : e' ≡ e = same_Some e' e (sym at ∙ (ap (get new) same ∙ updates.changed)) in
          let here = ap (λ (x : Entry). x.block) is ∙ own in
          let P : ℕ → Type 0 = λ j. slice_get (slice_set places b (Some l)) j ≡ Some (Some l) in
          let Q : ℕ → Type 0 = λ j. Contains l.keys j in
          record { life = l; there = subst P (sym here) (there_same places b (Some l) within); among = subst Q (sym same) mine }
      | inr ne ↦
          let u = used q e' (sym (updates.others q ne) ∙ at) in
          elim (cases_eq e'.block b) [
            | inl here ↦ absurd (none-some u.life (sym free ∙ used_at places b e'.block q u here))
            | inr other ↦ used_other places b e'.block q (Some l) other u
          ]
    ]
