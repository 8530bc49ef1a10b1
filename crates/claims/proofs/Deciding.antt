-- The chunks that decide what blocks own, where lives change.
use Rattle.std.proofs.Common.{◌≡◌, ◌≢◌, ℕ, zero, suc, List, [], ◌∷◌, ◌++◌, length, take, drop, get_or, replicate, Option, Some, None, refl, sym, ◌∙◌, ap, subst, arith, ◌⊎◌, inl, inr}
use Rattle.std.specs.Prelude.{option_map, slice_set}
use Rattle.std.specs.List.{last_or}
use Rattle.std.proofs.lemmas.Bool.{cases_eq, cases_lt}
use Rattle.std.proofs.lemmas.Option.{none-some, same_Some}
use Rattle.std.proofs.lemmas.List.{get_or_past, get_or-set_other, get_or-set_same, length-replicate, length-set}
use Rattle.store_types.specs.declared.status.Status.TheVariants.{Owned, Dropped}
use Rattle.xn_model.specs.Types.{Types}
use Rattle.xn_model.specs.Lives.{BlockState, Life, Lives, bytes_of, life_at, change_at, with_state, with_status, settle, settled_at, begun_at, owned_after, dropped_after, durable_after, accepted_at, freed}
use Rattle.xn_model.specs.Calls.{new_life}
use Rattle.xn_model.proofs.ForCallers.{change_same, set_other, settled_last}
use Rattle.udf_run.specs.declared.reads.ReadSet.{ReadSet}
use Rattle.templates.specs.Decided.{DecidesOwned}
use Rattle.claims.proofs.Owners.{length_accepted, length_freed}
use Rattle.claims.specs.Decided.{AreDecided, Decides, newest_at, newest_of}

-- What is kept, where lives change

-- no block has other bytes or another type, but some may be free
pub same_decided : (T : Types) (sets : List (Option ReadSet)) (old new : Lives) → AreDecided T sets old → length new ≡ length old →
    ((c : ℕ) → (newest_at new c ≡ newest_at old c) ⊎ (newest_at new c ≡ None)) → AreDecided T sets new
same_decided T sets old new h long same = record {
  long = h.long ∙ sym long;
  each = λ b t m reads here kept. elim (same b) [
    | inl e ↦ h.each b t m reads (sym e ∙ here) kept
    | inr gone ↦ absurd (none-some (t, m) (sym gone ∙ here))
  ];
}

-- one block has
pub put_decided : (T : Types) (sets : List (Option ReadSet)) (old new : Lives) (b : ℕ) (set : Option ReadSet) → AreDecided T sets old → length new ≡ length old →
    ((c : ℕ) → c ≢ b → newest_at new c ≡ newest_at old c) →
    ((t : ℕ) (m : List ℕ) (reads : ReadSet) → newest_at new b ≡ Some (t, m) → set ≡ Some reads → DecidesOwned T t m reads.chunks) → AreDecided T (slice_set sets b set) new
put_decided T sets old new b set h long others here = record {
  long = length-set sets b set ∙ (h.long ∙ sym long);
  each = λ c t m reads now kept. elim (cases_eq c b) [
    | inl e ↦
        let at : newest_at new b ≡ Some (t, m) = ap (newest_at new) (sym e) ∙ now in
        let there : get_or (slice_set sets b set) b None ≡ Some reads = ap (λ k. get_or (slice_set sets b set) k None) (sym e) ∙ kept in
        here t m reads at (elim (cases_lt b (length sets)) [
          | inl within ↦ sym (get_or-set_same sets b set None within) ∙ there
          | inr past ↦ absurd (none-some reads (sym (get_or_past (slice_set sets b set) b None (omega (arith, past, length-set sets b set))) ∙ there))
        ])
    | inr ne ↦ h.each c t m reads (sym (others c ne) ∙ now) (sym (get_or-set_other sets b c set None ne) ∙ kept)
  ];
}

pub none_decided : (T : Types) (n : ℕ) (lives : Lives) → n ≡ length lives → AreDecided T (replicate n None) lives
none_decided T n lives e = record {
  long = length-replicate {A = Option ReadSet} n None ∙ e;
  each = λ b t m reads here kept. absurd (none-some reads (sym (none n b) ∙ kept));
}
  where
    none : (n b : ℕ) → get_or {A = Option ReadSet} (replicate n None) b None ≡ None
    none zero b = refl
    none (suc n) zero = refl
    none (suc n) (suc b) = none n b

-- Changes of a life that keep its type and newest bytes

length_change : (lives : Lives) (b : ℕ) (g : Life → Life) → length (change_at lives b g) ≡ length lives
length_change lives b g = length-set lives b (option_map g (life_at lives b))

newest_change : (lives : Lives) (b : ℕ) (g : Life → Life) → ((l : Life) → newest_of (Some (g l)) ≡ newest_of (Some l)) → (c : ℕ) → newest_at (change_at lives b g) c ≡ newest_at lives c
newest_change lives b g same c = elim (cases_eq c b) [
  | inl e ↦ ap (newest_at (change_at lives b g)) e ∙ (ap newest_of (change_same lives b g) ∙ (at (life_at lives b) ∙ ap (newest_at lives) (sym e)))
  | inr ne ↦ ap newest_of (set_other lives b c (option_map g (life_at lives b)) ne)
]
  where
    at : (o : Option Life) → newest_of (option_map g o) ≡ newest_of o
    at None = refl
    at (Some l) = same l

newest_dropped : (b : ℕ) (lives : Lives) (drops : List ℕ) (c : ℕ) → newest_at (dropped_after b lives drops) c ≡ newest_at lives c
newest_dropped b lives [] c = refl
newest_dropped b lives (d ∷ ds) c = newest_dropped b (change_at lives d (with_status (Dropped b))) ds c ∙ newest_change lives d (with_status (Dropped b)) (λ l. refl) c

newest_owned : (b : ℕ) (lives : Lives) (adds : List (ℕ × ℕ)) (c : ℕ) → newest_at (owned_after b lives adds) c ≡ newest_at lives c
newest_owned b lives [] c = refl
newest_owned b lives (p ∷ ps) c = newest_owned b (change_at lives p.0 (with_status (Owned b))) ps c ∙ newest_change lives p.0 (with_status (Owned b)) (λ l. refl) c

-- The calls

abbrev begun_with : ℕ → Life → Life
begun_with k l = record l { begun = Some k }

pub begun_decided : (T : Types) (sets : List (Option ReadSet)) (lives : Lives) (b k : ℕ) → AreDecided T sets lives → AreDecided T sets (begun_at lives b k)
begun_decided T sets lives b k h =
    same_decided T sets lives (begun_at lives b k) h (length_change lives b (begun_with k)) (λ c. inl (newest_change lives b (begun_with k) (λ l. refl) c))

ended_newest : (lives : Lives) (b c : ℕ) → (newest_at (slice_set lives b None) c ≡ newest_at lives c) ⊎ (newest_at (slice_set lives b None) c ≡ None)
ended_newest lives b c = elim (cases_eq c b) [
  | inl e ↦ inr (ap (newest_at (slice_set lives b None)) e ∙ ap newest_of (nothing lives b))
  | inr ne ↦ inl (ap newest_of (set_other lives b c None ne))
]
  where
    nothing : (lives : Lives) (b : ℕ) → life_at (slice_set lives b None) b ≡ None
    nothing [] b = refl
    nothing (o ∷ os) zero = refl
    nothing (o ∷ os) (suc b) = nothing os b

freed_newest : (blocks : List ℕ) (lives : Lives) (c : ℕ) → (newest_at (freed lives blocks) c ≡ newest_at lives c) ⊎ (newest_at (freed lives blocks) c ≡ None)
freed_newest [] lives c = inl refl
freed_newest (d ∷ ds) lives c = elim (freed_newest ds (slice_set lives d None) c) [
  | inl e ↦ elim (ended_newest lives d c) [ inl same ↦ inl (e ∙ same) | inr gone ↦ inr (e ∙ gone) ]
  | inr gone ↦ inr gone
]

-- bytes that are on the disk are still the same
disk_bytes : (o : Option BlockState) (xs : List BlockState) → bytes_of (last_or (durable_after o) xs) ≡ bytes_of (last_or o xs)
disk_bytes None [] = refl
disk_bytes (Some s) [] = refl
disk_bytes o (x ∷ xs) = refl

pub settled_decided : (T : Types) (sets : List (Option ReadSet)) (lives : Lives) (b k : ℕ) (drops : List ℕ) → AreDecided T sets lives → AreDecided T sets (freed (settled_at lives b k) drops)
settled_decided T sets lives b k drops h =
    same_decided T sets lives (freed (settled_at lives b k) drops) h (length_freed (settled_at lives b k) drops ∙ length_change lives b (settle k))
    (λ c. elim (freed_newest drops (settled_at lives b k) c) [ inl e ↦ inl (e ∙ newest_change lives b (settle k) settles c) | inr gone ↦ inr gone ])
  where
    settles : (l : Life) → newest_of (Some (settle k l)) ≡ newest_of (Some l)
    settles l = ap (λ m. Some (l.ty, m)) (disk_bytes (last_or l.durable (take k l.pending)) (drop k l.pending) ∙ ap bytes_of (settled_last l.durable k l.pending))

pub ended_decided : (T : Types) (sets : List (Option ReadSet)) (lives : Lives) (b : ℕ) → AreDecided T sets lives → AreDecided T sets (slice_set lives b None)
ended_decided T sets lives b h = same_decided T sets lives (slice_set lives b None) h (length-set lives b None) (ended_newest lives b)

pub started_decided : (T : Types) (sets : List (Option ReadSet)) (lives : Lives) (b n : ℕ) (f : Option ℕ) (ty : ℕ) (bytes : List ℕ) → AreDecided T sets lives →
    AreDecided T (slice_set sets b None) (slice_set lives b (Some (new_life n f ty bytes)))
started_decided T sets lives b n f ty bytes h =
    put_decided T sets lives (slice_set lives b (Some (new_life n f ty bytes))) b None h (length-set lives b (Some (new_life n f ty bytes)))
    (λ c ne. ap newest_of (set_other lives b c (Some (new_life n f ty bytes)) ne))
    (λ t m reads here none. absurd (none-some reads none))

pub accepted_decided : (T : Types) (sets : List (Option ReadSet)) (lives : Lives) (b : ℕ) (s : BlockState) (set : Option ReadSet) → AreDecided T sets lives → Decides T lives b s.bytes set →
    AreDecided T (slice_set sets b set) (accepted_at lives b s)
accepted_decided T sets lives b s set h decides =
    put_decided T sets lives (accepted_at lives b s) b set h (length_accepted lives b s)
    (λ c ne. still c ∙ ap newest_of (set_other lives b c (option_map (with_state s) (life_at lives b)) ne))
    (λ t m reads here kept. by (life_at lives b) refl t m reads (sym (ap newest_of (change_same lives b (with_state s))) ∙ (sym (still b) ∙ here)) kept)
  where
    still : (c : ℕ) → newest_at (accepted_at lives b s) c ≡ newest_at (change_at lives b (with_state s)) c
    still c = newest_owned b (dropped_after b (change_at lives b (with_state s)) s.drops) s.adds c ∙ newest_dropped b (change_at lives b (with_state s)) s.drops c

    last_push : (o : Option BlockState) (xs : List BlockState) → last_or o (xs ++ s ∷ []) ≡ Some s
    last_push o [] = refl
    last_push o (x ∷ xs) = last_push (Some x) xs

    by : (o : Option Life) → life_at lives b ≡ o → (t : ℕ) (m : List ℕ) (reads : ReadSet) → newest_of (option_map (with_state s) o) ≡ Some (t, m) → set ≡ Some reads → DecidesOwned T t m reads.chunks
    by None alive t m reads here kept = absurd (none-some (t, m) here)
    by (Some l) alive t m reads here kept =
        let same : (l.ty, s.bytes) ≡ (t, m) = same_Some (l.ty, s.bytes) (t, m) (ap (λ o. Some (l.ty, bytes_of o)) (sym (last_push l.durable l.pending)) ∙ here) in
        subst (λ (p : ℕ × List ℕ). DecidesOwned T p.0 p.1 reads.chunks) same (decides l reads alive kept)
