-- What a change of the lives leaves of the facts on single blocks, which the facts on a life name.
use Rattle.std.proofs.Common.{arith, ◌≡◌, ℕ, zero, suc, Bool, true, false, cond, List, [], ◌∷◌, ◌++◌, length, take, drop, Option, Some, None, refl, sym, ◌∙◌, ap, inl, inr, subst, eqb}
use Rattle.std.specs.Prelude.{Contains, IsTrue, option_map, option_to_list}
use Rattle.std.specs.List.{last_or}
use Rattle.std.proofs.lemmas.Bool.{eq-eqb, ne_eqb, false≢true}
use Rattle.std.proofs.lemmas.Option.{same_Some}
use Rattle.std.proofs.lemmas.List.Elements.{Contains-append_left, Contains-append_right}
use Rattle.xn_model.specs.Types.{Types}
use Rattle.xn_model.specs.Root.{has_type}
use Rattle.xn_model.specs.Lives.{BlockState, Status, Fresh, Life, with_status, Lives, life_at, states, carried, newest, root_on_disk}
use Rattle.xn_model.specs.Rules.{BelongsTo, IsInFileSystem, IsOnDisk, IsTemplate, IsDroppedBy, IsAtRest, IsOwnedBy, IsRootLife, IsSoundLife, IsLinkedLife, PointersStay, Rises, StartsPlain, Grows, StaysDropped, NoneNames, NoneDrops}
use Rattle.xn_model.proofs.Changes.{each, with_begun, settled}
use Rattle.xn_model.proofs.Lists.{Contains-head, Contains-cons, Contains-none, Contains-drop}
use Rattle.xn_model.proofs.Lives.{each_forth, at_each, length_revised}
use Rattle.xn_model.proofs.Catalogue.{has_keeps, pointers_last, pointers_settled, pointers_taken, on_disk_is, on_disk_each}

pub record Carries (T : Types) (old new : Lives) : Type 0 where
  pub count : length new ≡ length old
  pub belongs : (b c u : ℕ) → BelongsTo old b c u → BelongsTo new b c u
  pub system : (fs : Option ℕ) (c : ℕ) → IsInFileSystem old fs c → IsInFileSystem new fs c
  pub disk : (c : ℕ) → IsOnDisk old c → IsOnDisk new c
  pub template : (c : ℕ) → IsTemplate T old c → IsTemplate T new c
  pub dropped : (b c : ℕ) → IsDroppedBy old b c → IsDroppedBy new b c
  pub resting : (b c : ℕ) → IsDroppedBy old b c → IsAtRest old c → IsAtRest new c
  pub types : (u : ℕ) → IsTrue (has_type (root_on_disk old) u) → IsTrue (has_type (root_on_disk new) u)

-- where block 0's bytes on the disk are the same
pub types_still : (old new : Lives) → root_on_disk new ≡ root_on_disk old → (u : ℕ) → IsTrue (has_type (root_on_disk old) u) → IsTrue (has_type (root_on_disk new) u)
types_still old new e u h = subst (λ m. IsTrue (has_type m u)) (sym e) h

-- A life that stays as it is, but for its status
pub held_still : (T : Types) (old new : Lives) (b : ℕ) (l : Life) (st : Status) → Carries T old new → IsSoundLife T old b l → IsSoundLife T new b (with_status st l)
held_still T old new b l st c h = record {
  fit = h.fit;
  named = λ s x u m n. c.belongs b x u (h.named s x u m n);
  same_system = λ s x u ne m n. c.system l.fs x (h.same_system s x u ne m n);
  ready = λ s x u m n. c.disk x (h.ready s x u m n);
  typed = λ s x u ne m n. c.types u (h.typed s x u ne m n);
  rising = h.rising;
}

pub kept_still : (T : Types) (old new : Lives) (b : ℕ) (l : Life) (st : Status) → Carries T old new → ((c : ℕ) → IsOwnedBy old b c → IsOwnedBy new b c) →
    ((s : BlockState) → Contains (carried l) s → Contains l.pending s) → IsLinkedLife T old b l → IsLinkedLife T new b (with_status st l)
kept_still T old new b l st c own in' k = record {
  last = k.last;
  is_last = k.is_last;
  owned = λ x u n. own x (k.owned x u n);
  installed = k.installed;
  root_alone = k.root_alone;
  start = k.start;
  grows = k.grows;
  dropped = λ s x m n. c.dropped b x (k.dropped s x m n);
  gone = k.gone;
  flight = k.flight;
  resting = λ s x m n. c.resting b x (k.dropped s x (in' s m) n) (k.resting s x m n);
}

-- Block 0 with no new state
pub root_still : (T : Types) (old new : Lives) → Carries T old new → (r : IsRootLife T old) (l : Life) (s : BlockState) → life_at new 0 ≡ Some l → l.ty ≡ 0 → l.fs ≡ None → l.status ≡ Fresh → l.durable ≡ Some s → ((t : BlockState) → Contains (states l) t → Contains (states r.life) t) →
    PointersStay (states l) → newest l ≡ newest r.life → IsRootLife T new
root_still T old new c r l s alive ty nobody fresh durable fewer pointers last =
    record {
      life = l;
      alive = alive;
      ty = ty;
      nobody = nobody;
      unowned = fresh;
      state = s;
      durable = durable;
      mark = λ t m. rw c.count (r.mark t (fewer t m));
      pointers = pointers;
      long = λ t m. r.long t (fewer t m);
      templates = λ t x u m n. c.template x (r.templates t x u (fewer t m) n);
      types = λ t x u m n. r.types t x u (fewer t m) n;
      all_types = λ t u e i. r.all_types t u (sym last ∙ e) i;
      slots = λ t i x m lt e ne. c.system (Some i) x (r.slots t i x (fewer t m) lt e ne);
    }

-- A begun write

abbrev pub begun_if : Bool → Option ℕ → Life → Life
begun_if t k l = record { fs = l.fs; ty = l.ty; status = l.status; durable = l.durable; pending = l.pending; begun = cond t k l.begun }

pub with_begun_other : (b : ℕ) (k : Option ℕ) (c : ℕ) (l : Life) → (c ≡ b → ⊥) → with_begun b k c l ≡ l
with_begun_other b k c l ne = ap (λ t. begun_if t k l) (ne_eqb c b ne)

pub with_begun_same : (b : ℕ) (k : Option ℕ) (c : ℕ) (l : Life) → c ≡ b → with_begun b k c l ≡ begun_if true k l
with_begun_same b k c l e = ap (λ t. begun_if t k l) (eq-eqb c b e)

pub owned_begun : (b : ℕ) (k : Option ℕ) (lives : Lives) (a c : ℕ) → IsOwnedBy lives a c → IsOwnedBy (each (with_begun b k) lives) a c
owned_begun b k lives a c r = at_each (with_begun b k) r r.holds

pub carries_begun : (T : Types) (b : ℕ) (k : Option ℕ) (lives : Lives) → Carries T lives (each (with_begun b k) lives)
carries_begun T b k lives = record {
  count = length_revised (λ c o. option_map (with_begun b k c) o) lives;
  belongs = λ a c u r. at_each (with_begun b k) r r.holds;
  system = λ fs c r. at_each (with_begun b k) r r.holds;
  disk = λ c r. at_each (with_begun b k) r r.holds;
  template = λ c r. at_each (with_begun b k) r r.holds;
  dropped = λ a c r. at_each (with_begun b k) r r.holds;
  resting = λ a c d r. at_each (with_begun b k) r r.holds;
  types = types_still lives (each (with_begun b k) lives) (on_disk_each (with_begun b k) lives (λ l. refl));
}

-- A settled one

abbrev pub settled_if : Bool → ℕ → Life → Life
settled_if t k l = record {
  fs = l.fs;
  ty = l.ty;
  status = l.status;
  durable = cond t (last_or l.durable (take k l.pending)) l.durable;
  pending = cond t (drop k l.pending) l.pending;
  begun = cond t None l.begun;
}

pub settled_other : (b k c : ℕ) (l : Life) → (c ≡ b → ⊥) → settled b k c l ≡ l
settled_other b k c l ne = ap (λ t. settled_if t k l) (ne_eqb c b ne)

pub settled_same : (b k c : ℕ) (l : Life) → c ≡ b → settled b k c l ≡ settled_if true k l
settled_same b k c l e = ap (λ t. settled_if t k l) (eq-eqb c b e)

pub still_some : (o : Option BlockState) (s : BlockState) (xs : List BlockState) → o ≡ Some s → (t : BlockState) × (last_or o xs ≡ Some t)
still_some o s [] e = (s, e)
still_some o s (x ∷ xs) e = still_some (Some x) x xs refl

drop_none : {A : Type 0} (k : ℕ) (xs : List A) → xs ≡ [] → drop k xs ≡ []
drop_none zero xs e = e
drop_none (suc k) xs e = ap (drop (suc k)) e

-- whether the test holds or not, something stands on the disk
pub some_state : (t : Bool) (k : ℕ) (l : Life) (s : BlockState) → l.durable ≡ Some s → (r : BlockState) × ((settled_if t k l).durable ≡ Some r)
some_state true k l s e = still_some l.durable s (take k l.pending) e
some_state false k l s e = (s, e)

-- a life with one state has that one
one_state : (t : Bool) (k : ℕ) (l : Life) (s : BlockState) → states l ≡ s ∷ [] → states (settled_if t k l) ≡ s ∷ []
one_state true k l s e = go l.durable k l.pending e
  where
    go : (o : Option BlockState) (k : ℕ) (xs : List BlockState) → option_to_list o ++ xs ≡ s ∷ [] → option_to_list (last_or o (take k xs)) ++ drop k xs ≡ s ∷ []
    go o zero xs f = f
    go o (suc k) [] f = f
    go None (suc k) (x ∷ xs) f = go (Some x) k xs f
    go (Some d) (suc k) (x ∷ xs) f = absurd (two d x xs f)
      where
        two : (d x : BlockState) (xs : List BlockState) → d ∷ x ∷ xs ≡ s ∷ [] → ⊥
        two d x xs f = let n : length (d ∷ x ∷ xs) ≡ 1 = ap length f in omega arith
one_state false k l s e = e

still_none : (t : Bool) (k : ℕ) (l : Life) → l.pending ≡ [] → (settled_if t k l).pending ≡ []
still_none true k l e = drop_none k l.pending e
still_none false k l e = e

pub owned_settled : (b k : ℕ) (lives : Lives) (a c : ℕ) → IsOwnedBy lives a c → IsOwnedBy (each (settled b k) lives) a c
owned_settled b k lives a c r = at_each (settled b k) r r.holds

-- the pointers along the states that are left
pub root_pointers : (t : Bool) (k : ℕ) (l : Life) → PointersStay (states l) → PointersStay (states (settled_if t k l))
root_pointers true k l h = pointers_settled l.durable k l.pending h
root_pointers false k l h = h

-- what settles has the types of all states up to it
pub settled_types : (t : Bool) (k : ℕ) (l : Life) (s r : BlockState) (u : ℕ) → PointersStay (states l) → (settled_if t k l).durable ≡ Some r → Contains (option_to_list l.durable ++ take k l.pending) s → t ≡ true → IsTrue (has_type s.bytes u) → IsTrue (has_type r.bytes u)
settled_types true k l s r u h e i same has = has_keeps s.bytes r.bytes u (pointers_last l.durable (take k l.pending) r (pointers_taken l.durable k l.pending h) e s i) has
settled_types false k l s r u h e i same has = absurd (false≢true same)

pub settled_disk : (T : Types) (b k : ℕ) (lives : Lives) (r : IsRootLife T lives) (u : ℕ) → IsTrue (has_type (root_on_disk lives) u) → IsTrue (has_type (root_on_disk (each (settled b k) lives)) u)
settled_disk T b k lives r u h =
    let d = some_state (eqb 0 b) k r.life r.state r.durable in
    let new : root_on_disk (each (settled b k) lives) ≡ d.0.bytes = on_disk_is (each (settled b k) lives) (settled b k 0 r.life) d.0 (each_forth (settled b k) lives 0 r.life r.alive) d.1 in
    let was : IsTrue (has_type r.state.bytes u) = subst (λ m. IsTrue (has_type m u)) (on_disk_is lives r.life r.state r.alive r.durable) h in
    subst (λ m. IsTrue (has_type m u)) (sym new) (go (eqb 0 b) refl d was)
  where
    go : (t : Bool) → eqb 0 b ≡ t → (d : (x : BlockState) × ((settled_if t k r.life).durable ≡ Some x)) → IsTrue (has_type r.state.bytes u) → IsTrue (has_type d.0.bytes u)
    go true e d was = settled_types true k r.life r.state d.0 u r.pointers d.1
        (Contains-append_left (option_to_list r.life.durable) (take k r.life.pending) r.state (subst (λ o. Contains (option_to_list o) r.state) (sym r.durable) (Contains-head r.state []))) refl was
    go false e d was = subst (λ (x : BlockState). IsTrue (has_type x.bytes u)) (same_Some r.state d.0 (sym r.durable ∙ d.1)) was

pub carries_settled : (T : Types) (b k : ℕ) (lives : Lives) → IsRootLife T lives → Carries T lives (each (settled b k) lives)
carries_settled T b k lives root = record {
  types = settled_disk T b k lives root;
  count = length_revised (λ c o. option_map (settled b k c) o) lives;
  belongs = λ a c u r. at_each (settled b k) r r.holds;
  system = λ fs c r. at_each (settled b k) r r.holds;
  disk = λ c r. at_each (settled b k) r (some_state (eqb c b) k r.life r.holds.0 r.holds.1);
  template = λ c r. at_each (settled b k) r (r.holds.0, r.holds.1, r.holds.2, one_state (eqb c b) k r.life r.holds.2 r.holds.3, r.holds.4);
  dropped = λ a c r. at_each (settled b k) r r.holds;
  resting = λ a c d r. at_each (settled b k) r (still_none (eqb c b) k r.life r.holds);
}

-- the first k states become one, and the rest stay
pub settled_fewer : (o : Option BlockState) (k : ℕ) (xs : List BlockState) (s : BlockState) → Contains (option_to_list (last_or o (take k xs)) ++ drop k xs) s → Contains (option_to_list o ++ xs) s
settled_fewer o zero xs s h = h
settled_fewer o (suc k) [] s h = h
settled_fewer o (suc k) (x ∷ xs) s h = Contains-append_right (option_to_list o) (x ∷ xs) s (settled_fewer (Some x) k xs s h)

rises_tail : (o : Option BlockState) (x : BlockState) (xs : List BlockState) → Rises (option_to_list o ++ x ∷ xs) → Rises (x ∷ xs)
rises_tail None x xs h = h
rises_tail (Some y) x xs h = h.1

pub settled_rises : (o : Option BlockState) (k : ℕ) (xs : List BlockState) → Rises (option_to_list o ++ xs) → Rises (option_to_list (last_or o (take k xs)) ++ drop k xs)
settled_rises o zero xs h = h
settled_rises o (suc k) [] h = h
settled_rises o (suc k) (x ∷ xs) h = settled_rises (Some x) k xs (rises_tail o x xs h)

some_stays : (x : BlockState) (xs ys : List BlockState) → StartsPlain (last_or (Some x) xs) ys
some_stays x [] ys = tt
some_stays x (y ∷ xs) ys = some_stays y xs ys

pub settled_start : (o : Option BlockState) (k : ℕ) (xs : List BlockState) → StartsPlain o xs → StartsPlain (last_or o (take k xs)) (drop k xs)
settled_start o zero xs h = h
settled_start o (suc k) [] h = h
settled_start o (suc k) (x ∷ xs) h = some_stays x (take k xs) (drop k xs)

pub settled_grows : (T : Types) (t : ℕ) (o : Option BlockState) (k : ℕ) (xs : List BlockState) → Grows T t o xs → Grows T t (last_or o (take k xs)) (drop k xs)
settled_grows T t o zero xs h = h
settled_grows T t o (suc k) [] h = h
settled_grows T t o (suc k) (x ∷ xs) h = settled_grows T t (Some x) k xs h.1

pub settled_stays : (T : Types) (t k : ℕ) (xs : List BlockState) → StaysDropped T t xs → StaysDropped T t (drop k xs)
settled_stays T t zero xs h = h
settled_stays T t (suc k) [] h = h
settled_stays T t (suc k) (x ∷ xs) h = settled_stays T t k xs h.1

-- what was dropped on the way is named and dropped no more
pub settled_gone : (T : Types) (t k : ℕ) (xs : List BlockState) (s : BlockState) (c : ℕ) → StaysDropped T t xs → Contains (take k xs) s → Contains s.drops c →
    (o : Option BlockState) → NoneNames T t c (option_to_list (last_or o (take k xs)) ++ drop k xs) × NoneDrops c (drop k xs)
settled_gone T t zero xs s c h m n o = absurd (Contains-none s m)
settled_gone T t (suc k) [] s c h m n o = absurd (Contains-none s m)
settled_gone T t (suc k) (x ∷ xs) s c h m n o = elim (Contains-cons x (take k xs) s m) [
  | inl e ↦ let gone = h.0 c (rw e n) in
      (λ r u i names. gone.0 r u (settled_fewer (Some x) k xs r i) names, λ r i. gone.1 r (Contains-drop k xs r i))
  | inr i ↦ settled_gone T t k xs s c h.1 i n (Some x)
]

-- the newest state stays
pub settled_last : (o : Option BlockState) (k : ℕ) (xs : List BlockState) → last_or (last_or o (take k xs)) (drop k xs) ≡ last_or o xs
settled_last o zero xs = refl
settled_last o (suc k) [] = refl
settled_last o (suc k) (x ∷ xs) = settled_last (Some x) k xs
