-- What a change of lives leaves at one block.
use Rattle.std.proofs.Common.{◌≡◌, ℕ, zero, suc, ◌+◌, ◌<◌, ◌≤◌, Bool, true, false, cond, List, [], ◌∷◌, ◌++◌, length, take, drop, Option, Some, None, refl, sym, ◌∙◌, ap, inl, inr, arith, zero-add, subst}
use Rattle.std.specs.Prelude.{◌||◌, ◌==◌, Contains, option_map, fold, slice_set, slice_get, unwrap_or}
use Rattle.std.specs.List.{last_or}
use Rattle.std.proofs.lemmas.Bool.{false≢true, cases_Bool, cases_eq, eq-eqb, ne_eqb}
use Rattle.std.proofs.lemmas.List.{length-set}
use Rattle.std.proofs.lemmas.Option.{same_Some, none-some, slice_get_past}
use Rattle.xn_model.specs.Types.{Types}
use Rattle.xn_model.specs.Lists.{has_number, blocks_of}
use Rattle.xn_model.specs.Lives.{durable_after, BlockState, Status, Fresh, Owned, Dropped, Life, Lives, life_at, change_at, with_state, with_status, owned_after, dropped_after, accepted_at, begun_at, settled_at, freed}
use Rattle.xn_model.specs.Rules.{At, IsRootLife}
use Rattle.xn_model.proofs.Changes.{bare_if, bared, revise_from, revise, each, free, accepted, accept, with_begun, settled}
use Rattle.xn_model.proofs.Lists.{has_number_at, has_number_from}

revised_from : (f : ℕ → Option Life → Option Life) → ((c : ℕ) → f c None ≡ None) → (n : ℕ) (lives : Lives) (c : ℕ) → life_at (revise_from n f lives) c ≡ f (n + c) (life_at lives c)
revised_from f e n [] c = sym (e (n + c))
revised_from f e n (o ∷ os) zero = ap (λ x. f x o) (omega arith)
revised_from f e n (o ∷ os) (suc c) = revised_from f e (n + 1) os c ∙ ap (λ x. f x (life_at os c)) (omega arith)

pub revised : (f : ℕ → Option Life → Option Life) → ((c : ℕ) → f c None ≡ None) → (lives : Lives) (c : ℕ) → life_at (revise f lives) c ≡ f c (life_at lives c)
revised f e lives c = revised_from f e 0 lives c ∙ ap (λ x. f x (life_at lives c)) (zero-add c)

length_from : (f : ℕ → Option Life → Option Life) (n : ℕ) (lives : Lives) → length (revise_from n f lives) ≡ length lives
length_from f n [] = refl
length_from f n (o ∷ os) = ap suc (length_from f (n + 1) os)

pub length_revised : (f : ℕ → Option Life → Option Life) (lives : Lives) → length (revise f lives) ≡ length lives
length_revised f lives = length_from f 0 lives

-- each

pub each_at : (f : ℕ → Life → Life) (lives : Lives) (c : ℕ) → life_at (each f lives) c ≡ option_map (f c) (life_at lives c)
each_at f lives c = revised (λ c o. option_map (f c) o) (λ c. refl) lives c

pub each_forth : (f : ℕ → Life → Life) (lives : Lives) (c : ℕ) (l : Life) → life_at lives c ≡ Some l → life_at (each f lives) c ≡ Some (f c l)
each_forth f lives c l e = each_at f lives c ∙ ap (option_map (f c)) e

mapped : {A B : Type 0} (f : A → B) (o : Option A) (y : B) → option_map f o ≡ Some y → (x : A) × (o ≡ Some x) × (y ≡ f x)
mapped f None y e = absurd (none-some y e)
mapped f (Some x) y e = (x, refl, sym (same_Some (f x) y e))

pub each_back : (f : ℕ → Life → Life) (lives : Lives) (c : ℕ) (m : Life) → life_at (each f lives) c ≡ Some m → (l : Life) × (life_at lives c ≡ Some l) × (m ≡ f c l)
each_back f lives c m e = mapped (f c) (life_at lives c) m (sym (each_at f lives c) ∙ e)

-- What is said of a block that is alive, with P

-- is so of its life
pub of_life : {lives : Lives} {c : ℕ} {P : Life → Type 0} (r : At lives c P) (l : Life) → life_at lives c ≡ Some l → P l
of_life {P = P} r l e = subst P (same_Some r.life l (sym r.alive ∙ e)) r.holds

-- as is what holds of block 0's
pub of_root : {T : Types} {lives : Lives} (r : IsRootLife T lives) (l : Life) → life_at lives 0 ≡ Some l → (l.ty ≡ 0) × (l.fs ≡ None) × (l.status ≡ Fresh)
of_root r l e = subst (λ (x : Life). (x.ty ≡ 0) × (x.fs ≡ None) × (x.status ≡ Fresh)) (same_Some r.life l (sym r.alive ∙ e)) (r.ty, r.nobody, r.unowned)

-- and in other lives, of the life that it has there
pub at_each : {lives : Lives} {c : ℕ} {P Q : Life → Type 0} (f : ℕ → Life → Life) (r : At lives c P) → Q (f c r.life) → At (each f lives) c Q
at_each {lives} {c} f r q = record { life = f c r.life; alive = each_forth f lives c r.life r.alive; holds = q }

-- free

none_stays : (b : Bool) (o : Option Life) → o ≡ None → cond b None o ≡ None
none_stays true o e = refl
none_stays false o e = e

pub free_at : (blocks : List ℕ) (lives : Lives) (c : ℕ) → life_at (free blocks lives) c ≡ cond (has_number blocks c) None (life_at lives c)
free_at blocks lives c = revised (λ c o. cond (has_number blocks c) None o) (λ c. none_stays (has_number blocks c) None refl) lives c

pub free_forth : (blocks : List ℕ) (lives : Lives) (c : ℕ) (l : Life) → (Contains blocks c → ⊥) → life_at lives c ≡ Some l → life_at (free blocks lives) c ≡ Some l
free_forth blocks lives c l not_in e = free_at blocks lives c ∙ elim (cases_Bool (has_number blocks c)) [
  | inl t ↦ absurd (not_in (has_number_at blocks c t))
  | inr f ↦ ap (λ b. cond b None (life_at lives c)) f ∙ e
]

pub at_free : {lives : Lives} {c : ℕ} {P : Life → Type 0} (blocks : List ℕ) → (Contains blocks c → ⊥) → At lives c P → At (free blocks lives) c P
at_free {lives} {c} blocks out r = record { life = r.life; alive = free_forth blocks lives c r.life out r.alive; holds = r.holds }

kept_only : (b : Bool) (o : Option Life) (l : Life) → cond b None o ≡ Some l → (b ≡ false) × (o ≡ Some l)
kept_only true o l e = absurd (none-some l e)
kept_only false o l e = (refl, e)

pub free_back : (blocks : List ℕ) (lives : Lives) (c : ℕ) (l : Life) → life_at (free blocks lives) c ≡ Some l → (Contains blocks c → ⊥) × (life_at lives c ≡ Some l)
free_back blocks lives c l e =
    let r = kept_only (has_number blocks c) (life_at lives c) l (sym (free_at blocks lives c) ∙ e) in
    (λ k. false≢true (sym r.0 ∙ has_number_from blocks c k), r.1)

-- One place

pub past : (lives : Lives) (c : ℕ) → length lives ≤ c → life_at lives c ≡ None
past lives c le = ap (λ o. unwrap_or o None) (slice_get_past lives c le)

-- a block that is alive is one of the disk's
pub in_lives : (lives : Lives) (c : ℕ) (l : Life) → life_at lives c ≡ Some l → c < length lives
in_lives [] c l e = absurd (none-some l e)
in_lives (o ∷ os) zero l e = omega arith
in_lives (o ∷ os) (suc c) l e = let lt = in_lives os c l e in omega arith

pub life_from : (lives : Lives) (b : ℕ) (l : Life) → slice_get lives b ≡ Some (Some l) → life_at lives b ≡ Some l
life_from lives b l e = ap (λ o. unwrap_or o None) e

pub place_from : (lives : Lives) (b : ℕ) (l : Life) → life_at lives b ≡ Some l → slice_get lives b ≡ Some (Some l)
place_from [] b l e = absurd (none-some l e)
place_from (o ∷ os) zero l e = ap Some e
place_from (o ∷ os) (suc b) l e = place_from os b l e

pub length_change : (lives : Lives) (b : ℕ) (f : Life → Life) → length (change_at lives b f) ≡ length lives
length_change lives b f = length-set lives b (option_map f (life_at lives b))

pub change_same : (lives : Lives) (b : ℕ) (f : Life → Life) → life_at (change_at lives b f) b ≡ option_map f (life_at lives b)
change_same [] b f = refl
change_same (o ∷ os) zero f = refl
change_same (o ∷ os) (suc b) f = change_same os b f

pub set_other : (lives : Lives) (b c : ℕ) (o : Option Life) → (c ≡ b → ⊥) → life_at (slice_set lives b o) c ≡ life_at lives c
set_other [] b c o ne = refl
set_other (x ∷ os) zero zero o ne = absurd (ne refl)
set_other (x ∷ os) zero (suc c) o ne = refl
set_other (x ∷ os) (suc b) zero o ne = refl
set_other (x ∷ os) (suc b) (suc c) o ne = set_other os b c o (λ e. ne (ap suc e))

pub set_same : (lives : Lives) (b : ℕ) (o : Option Life) → b < length lives → life_at (slice_set lives b o) b ≡ o
set_same [] b o lt = absurd (omega arith)
set_same (x ∷ os) zero o lt = refl
set_same (x ∷ os) (suc b) o lt = set_same os b o (omega arith)

set_none : (lives : Lives) (b : ℕ) → life_at (slice_set lives b None) b ≡ None
set_none [] b = refl
set_none (x ∷ os) zero = refl
set_none (x ∷ os) (suc b) = set_none os b

map_same : (f : Life → Life) → ((l : Life) → f l ≡ l) → (o : Option Life) → option_map f o ≡ o
map_same f e None = refl
map_same f e (Some l) = ap Some (e l)

-- a change that a test tells where to make
changed : (g : Bool → Life → Life) → ((l : Life) → g false l ≡ l) → (lives : Lives) (b c : ℕ) → life_at (change_at lives b (g true)) c ≡ option_map (g (c == b)) (life_at lives c)
changed g still lives b c = elim (cases_eq c b) [
  | inl same ↦ ap (life_at (change_at lives b (g true))) same ∙ (change_same lives b (g true) ∙ (ap (λ x. option_map (g true) (life_at lives x)) (sym same) ∙ ap (λ t. option_map (g t) (life_at lives c)) (sym (eq-eqb c b same))))
  | inr other ↦ set_other lives b c (option_map (g true) (life_at lives b)) other ∙ (sym (map_same (g false) still (life_at lives c)) ∙ ap (λ t. option_map (g t) (life_at lives c)) (sym (ne_eqb c b other)))
]

turned : (c d : ℕ) → (c == d) ≡ (d == c)
turned c d = elim (cases_eq c d) [
  | inl same ↦ eq-eqb c d same ∙ sym (eq-eqb d c (sym same))
  | inr other ↦ ne_eqb c d other ∙ sym (ne_eqb d c (λ e. other (sym e)))
]

-- Statuses of many

abbrev mark : Status → Lives → List ℕ → Lives
mark st lives blocks = fold (λ lives c. change_at lives c (with_status st)) lives blocks

abbrev mark_if : Status → Bool → Life → Life
mark_if st t l = record { fs = l.fs; ty = l.ty; status = cond t st l.status; durable = l.durable; pending = l.pending; begun = l.begun }

mark_both : (st : Status) (x y : Bool) (o : Option Life) → option_map (mark_if st y) (option_map (mark_if st x) o) ≡ option_map (mark_if st (x || y)) o
mark_both st x y None = refl
mark_both st true true (Some l) = refl
mark_both st true false (Some l) = refl
mark_both st false true (Some l) = refl
mark_both st false false (Some l) = refl

marked_at : (st : Status) (lives : Lives) (blocks : List ℕ) (c : ℕ) → life_at (mark st lives blocks) c ≡ option_map (mark_if st (has_number blocks c)) (life_at lives c)
marked_at st lives [] c = sym (map_same (mark_if st false) (λ l. refl) (life_at lives c))
marked_at st lives (d ∷ ds) c =
    marked_at st (change_at lives d (with_status st)) ds c
    ∙ (ap (option_map (mark_if st (has_number ds c))) (changed (mark_if st) (λ l. refl) lives d c)
    ∙ (mark_both st (c == d) (has_number ds c) (life_at lives c)
    ∙ ap (λ t. option_map (mark_if st (t || has_number ds c)) (life_at lives c)) (turned c d)))

length_mark : (st : Status) (lives : Lives) (blocks : List ℕ) → length (mark st lives blocks) ≡ length lives
length_mark st lives [] = refl
length_mark st lives (d ∷ ds) = length_mark st (change_at lives d (with_status st)) ds ∙ length_change lives d (with_status st)

owned_is : (b : ℕ) (lives : Lives) (adds : List (ℕ × ℕ)) → owned_after b lives adds ≡ mark (Owned b) lives (blocks_of adds)
owned_is b lives [] = refl
owned_is b lives (p ∷ ps) = owned_is b (change_at lives p.0 (with_status (Owned b))) ps

-- Lives are equal that are so at each block

same_lives : (xs ys : Lives) → length xs ≡ length ys → ((c : ℕ) → life_at xs c ≡ life_at ys c) → xs ≡ ys
same_lives [] [] e h = refl
same_lives [] (y ∷ ys) e h = absurd (omega arith)
same_lives (x ∷ xs) [] e h = absurd (omega arith)
same_lives (x ∷ xs) (y ∷ ys) e h = λ i. h 0 i ∷ same_lives xs ys (omega arith) (λ c. h (suc c)) i

-- The changes of lives, block by block

pub accepted_is : (lives : Lives) (b : ℕ) (s : BlockState) → accepted_at lives b s ≡ accept b s lives
accepted_is lives b s = same_lives (accepted_at lives b s) (accept b s lives)
    (ap length (owned_is b dropped' s.adds) ∙ (length_mark (Owned b) dropped' (blocks_of s.adds) ∙ (length_mark (Dropped b) pushed s.drops ∙ (length_change lives b (with_state s) ∙ sym (length_revised (λ c o. option_map (accepted b s c) o) lives)))))
    (λ c. ap (λ xs. life_at xs c) (owned_is b dropped' s.adds)
    ∙ (marked_at (Owned b) dropped' (blocks_of s.adds) c
    ∙ (ap (option_map (mark_if (Owned b) (has_number (blocks_of s.adds) c))) (marked_at (Dropped b) pushed s.drops c ∙ ap (option_map (mark_if (Dropped b) (has_number s.drops c))) (changed push_if (λ l. refl) lives b c))
    ∙ (all_three c (life_at lives c) ∙ sym (each_at (accepted b s) lives c)))))
  where
    push_if : Bool → Life → Life
    push_if t l = record { fs = l.fs; ty = l.ty; status = l.status; durable = l.durable; pending = cond t (l.pending ++ s ∷ []) l.pending; begun = l.begun }

    pushed : Lives
    pushed = change_at lives b (with_state s)

    dropped' : Lives
    dropped' = dropped_after b pushed s.drops

    all_three : (c : ℕ) (o : Option Life) → option_map (mark_if (Owned b) (has_number (blocks_of s.adds) c)) (option_map (mark_if (Dropped b) (has_number s.drops c)) (option_map (push_if (c == b)) o)) ≡ option_map (accepted b s c) o
    all_three c None = refl
    all_three c (Some l) = refl

abbrev begun_when : ℕ → Bool → Life → Life
begun_when k t l = record { fs = l.fs; ty = l.ty; status = l.status; durable = l.durable; pending = l.pending; begun = cond t (Some k) l.begun }

-- the lives that calls leave have as many blocks
pub length_accepted : (lives : Lives) (b : ℕ) (s : BlockState) → length (accepted_at lives b s) ≡ length lives
length_accepted lives b s = ap length (accepted_is lives b s) ∙ length_revised (λ c o. option_map (accepted b s c) o) lives

pub begun_is : (lives : Lives) (b k : ℕ) → begun_at lives b k ≡ each (with_begun b (Some k)) lives
begun_is lives b k = same_lives (begun_at lives b k) (each (with_begun b (Some k)) lives)
    (length_change lives b (begun_when k true) ∙ sym (length_revised (λ c o. option_map (with_begun b (Some k) c) o) lives))
    (λ c. changed (begun_when k) (λ l. refl) lives b c ∙ sym (each_at (with_begun b (Some k)) lives c))

none_once : (x y : Bool) (o : Option Life) → cond y None (cond x None o) ≡ cond (x || y) None o
none_once true true o = refl
none_once true false o = refl
none_once false true o = refl
none_once false false o = refl

none_at : (lives : Lives) (d c : ℕ) → life_at (slice_set lives d None) c ≡ cond (d == c) None (life_at lives c)
none_at lives d c = elim (cases_eq c d) [
  | inl same ↦ ap (life_at (slice_set lives d None)) same ∙ (set_none lives d ∙ ap (λ t. cond t None (life_at lives c)) (sym (eq-eqb d c (sym same))))
  | inr other ↦ set_other lives d c None other ∙ ap (λ t. cond t None (life_at lives c)) (sym (ne_eqb d c (λ e. other (sym e))))
]

pub freed_at : (lives : Lives) (blocks : List ℕ) (c : ℕ) → life_at (freed lives blocks) c ≡ cond (has_number blocks c) None (life_at lives c)
freed_at lives [] c = refl
freed_at lives (d ∷ ds) c = freed_at (slice_set lives d None) ds c ∙ (ap (cond (has_number ds c) None) (none_at lives d c) ∙ none_once (d == c) (has_number ds c) (life_at lives c))

pub length_freed : (lives : Lives) (blocks : List ℕ) → length (freed lives blocks) ≡ length lives
length_freed lives [] = refl
length_freed lives (d ∷ ds) = length_freed (slice_set lives d None) ds ∙ length-set lives d None

pub freed_is : (lives : Lives) (blocks : List ℕ) → freed lives blocks ≡ free blocks lives
freed_is lives blocks = same_lives (freed lives blocks) (free blocks lives)
    (length_freed lives blocks ∙ sym (length_revised (λ c o. cond (has_number blocks c) None o) lives))
    (λ c. freed_at lives blocks c ∙ sym (free_at blocks lives c))

abbrev settled_when : ℕ → Bool → Life → Life
settled_when k t l = record {
  fs = l.fs;
  ty = l.ty;
  status = l.status;
  durable = cond t (durable_after (cond t (last_or l.durable (take k l.pending)) l.durable)) (cond t (last_or l.durable (take k l.pending)) l.durable);
  pending = cond t (drop k l.pending) l.pending;
  begun = cond t None l.begun;
}

settled_once : (b k c : ℕ) (o : Option Life) → option_map (settled_when k (c == b)) o ≡ option_map (bared b c) (option_map (settled b k c) o)
settled_once b k c None = refl
settled_once b k c (Some l) = refl

settled_life : (lives : Lives) (b k c : ℕ) → life_at (settled_at lives b k) c ≡ option_map (bared b c) (option_map (settled b k c) (life_at lives c))
settled_life lives b k c = changed (settled_when k) (λ l. refl) lives b c ∙ settled_once b k c (life_at lives c)

bared_none : (b c : ℕ) (t : Bool) (o : Option Life) → cond t None (option_map (bared b c) o) ≡ option_map (bared b c) (cond t None o)
bared_none b c true o = refl
bared_none b c false o = refl

-- what settles, without what is dropped
pub settled_is : (lives : Lives) (b k : ℕ) (blocks : List ℕ) → freed (settled_at lives b k) blocks ≡ each (bared b) (free blocks (each (settled b k) lives))
settled_is lives b k blocks = same_lives (freed (settled_at lives b k) blocks) (each (bared b) (free blocks (each (settled b k) lives)))
    (length_freed (settled_at lives b k) blocks ∙ (length_change lives b (settled_when k true) ∙ sym (length_revised (λ c o. option_map (bared b c) o) (free blocks (each (settled b k) lives)) ∙ (length_revised (λ c o. cond (has_number blocks c) None o) (each (settled b k) lives) ∙ length_revised (λ c o. option_map (settled b k c) o) lives))))
    (λ c. freed_at (settled_at lives b k) blocks c
    ∙ (ap (cond (has_number blocks c) None) (settled_life lives b k c)
    ∙ (bared_none b c (has_number blocks c) (option_map (settled b k c) (life_at lives c))
    ∙ sym (each_at (bared b) (free blocks (each (settled b k) lives)) c ∙ (ap (option_map (bared b c)) (free_at blocks (each (settled b k) lives) c) ∙ ap (λ o. option_map (bared b c) (cond (has_number blocks c) None o)) (each_at (settled b k) lives c))))))

none_settled : (b c : ℕ) (o : Option Life) → option_map (bared b c) (option_map (settled b 0 c) o) ≡ option_map (bared b c) (option_map (with_begun b None c) o)
none_settled b c None = refl
none_settled b c (Some l) = ap Some (go (c == b))
  where
    go : (t : Bool) → bare_if t (record { fs = l.fs; ty = l.ty; status = l.status; durable = cond t l.durable l.durable; pending = cond t l.pending l.pending; begun = cond t None l.begun })
        ≡ bare_if t (record { fs = l.fs; ty = l.ty; status = l.status; durable = l.durable; pending = l.pending; begun = cond t None l.begun })
    go true = refl
    go false = refl

-- with no state on the disk more, the write is given up
pub settled_none : (lives : Lives) (b : ℕ) → settled_at lives b 0 ≡ each (bared b) (each (with_begun b None) lives)
settled_none lives b = same_lives (settled_at lives b 0) (each (bared b) (each (with_begun b None) lives))
    (length_change lives b (settled_when 0 true) ∙ sym (length_revised (λ c o. option_map (bared b c) o) (each (with_begun b None) lives) ∙ length_revised (λ c o. option_map (with_begun b None c) o) lives))
    (λ c. settled_life lives b 0 c ∙ (none_settled b c (life_at lives c) ∙ sym (each_at (bared b) (each (with_begun b None) lives) c ∙ ap (option_map (bared b c)) (each_at (with_begun b None) lives c))))
