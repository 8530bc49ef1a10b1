-- The four phases of a wave: all begins, all writes, all syncs, all finishes.
use Rattle.std.proofs.Common.{◌≡◌, ℕ, suc, Bool, true, false, cond, List, [], ◌∷◌, ◌++◌, map, length, Option, Some, None, refl, sym, ◌∙◌, ap, inl, inr, arith, subst}
use Rattle.std.specs.Prelude.{Contains, is_some, is_none, not, nat_lt, ◌==◌, ◌||◌, ◌&&◌, option_map}
use Rattle.std.specs.List.{list_all, list_any}
use Rattle.std.proofs.lemmas.Bool.{cases_Bool, cond-false, true≢false}
use Rattle.xn_model.specs.Lists.{has_number, distinct, blocks_of, types_of_pairs}
use Rattle.xn_model.specs.Root.{has_type}
use Rattle.xn_model.specs.Lives.{BlockState, Life, Lives, life_at, alive_and, has_entry, is_pending, no_states, has_durable, is_all_durable, is_after_met, is_type_met, root_on_disk, durable_bytes, safe, safe_count, prefix, prefix_of, begun_at}
use Rattle.xn_model.specs.Calls.{is_ready}
use Rattle.xn_model.specs.Worlds.{World, Begin, Begun, act, world_after}
use Rattle.xn_model.specs.Waves.{can_begin, begun_reply}
use Rattle.xn_model.proofs.Lists.{Contains-head, Contains-tail, has_number_from}
use Rattle.xn_model.proofs.Lives.{length_change}
use Rattle.xn_model.proofs.Drains.{ready_life}
use Rattle.xn_model.proofs.WaveSteps.{Does, does_cons, with_lives, begin_is, merged, once_head, once_tail, change_cond}

-- What is begun changes no prefix

abbrev pub idle_life : Life → Life
idle_life l = record l { begun = None }

abbrev pub unbegun : Option Life → Option Life
unbegun o = option_map idle_life o

module _ (xs ys : Lives) (count : length ys ≡ length xs) (same : (c : ℕ) → unbegun (life_at ys c) ≡ unbegun (life_at xs c)) where
  durable_same : has_durable ys ≡ has_durable xs
  durable_same = λ i c. (go (life_at ys c) ∙ (ap (alive_and (λ l. is_some l.durable)) (same c) ∙ sym (go (life_at xs c)))) i
    where
      go : (o : Option Life) → alive_and (λ l. is_some l.durable) o ≡ alive_and (λ l. is_some l.durable) (unbegun o)
      go None = refl
      go (Some l) = refl

  all_durable_same : is_all_durable ys ≡ is_all_durable xs
  all_durable_same = λ i c. (go (life_at ys c) ∙ (ap (alive_and (λ l. is_some l.durable && no_states l.pending)) (same c) ∙ sym (go (life_at xs c)))) i
    where
      go : (o : Option Life) → alive_and (λ l. is_some l.durable && no_states l.pending) o ≡ alive_and (λ l. is_some l.durable && no_states l.pending) (unbegun o)
      go None = refl
      go (Some l) = refl

  root_same : root_on_disk ys ≡ root_on_disk xs
  root_same = go (life_at ys 0) ∙ (ap durable_bytes (same 0) ∙ sym (go (life_at xs 0)))
    where
      go : (o : Option Life) → durable_bytes o ≡ durable_bytes (unbegun o)
      go None = refl
      go (Some l) = refl

  type_same : (t : ℕ) (earlier : List BlockState) → is_type_met ys t earlier ≡ is_type_met xs t earlier
  type_same t earlier = λ i u. has_type (root_same i) u || ((t == 0) && list_any (λ s. has_type s.bytes u) earlier)

pending_same : (n : ℕ) (xs ys : Lives) → length ys ≡ length xs → ((c : ℕ) → unbegun (life_at ys c) ≡ unbegun (life_at xs c)) → is_pending ys n ≡ is_pending xs n
pending_same n [] [] e same = refl
pending_same n [] (y ∷ ys) e same = absurd (omega arith)
pending_same n (x ∷ xs) [] e same = absurd (omega arith)
pending_same n (x ∷ xs) (y ∷ ys) e same = λ i. (go y ∙ (ap (alive_and (λ l. has_entry l.pending n)) (same 0) ∙ sym (go x))) i || pending_same n xs ys (omega arith) (λ c. same (suc c)) i
  where
    go : (o : Option Life) → alive_and (λ l. has_entry l.pending n) o ≡ alive_and (λ l. has_entry l.pending n) (unbegun o)
    go None = refl
    go (Some l) = refl

pub prefixes_same : (xs ys : Lives) → length ys ≡ length xs → ((c : ℕ) → unbegun (life_at ys c) ≡ unbegun (life_at xs c)) → (o : Option Life) → prefix_of ys o ≡ prefix_of xs o
prefixes_same xs ys e same None = refl
prefixes_same xs ys e same (Some l) = counted [] l.pending
  where
    after_same : (earlier : List BlockState) (o : Option ℕ) → is_after_met ys earlier o ≡ is_after_met xs earlier o
    after_same earlier None = refl
    after_same earlier (Some n) = ap (λ t. not t || has_entry earlier n) (pending_same n xs ys e same)

    safe_same : (earlier : List BlockState) (s : BlockState) → safe ys l.ty earlier s ≡ safe xs l.ty earlier s
    safe_same earlier s = λ i.
        (list_all (durable_same xs ys e same i) (blocks_of s.adds) && list_all (type_same xs ys e same l.ty earlier i) (types_of_pairs s.adds))
        && (list_all (all_durable_same xs ys e same i) s.drops && after_same earlier s.after i)

    counted : (earlier states : List BlockState) → safe_count ys l.ty earlier states ≡ safe_count xs l.ty earlier states
    counted earlier [] = refl
    counted earlier (s ∷ states) = λ i. cond (safe_same earlier s i) (suc (counted (earlier ++ s ∷ []) states i)) 0

-- All begins

abbrev pub begin_life : ℕ → Life → Life
begin_life k l = record l { begun = Some k }

abbrev pub begun_life : Lives → List ℕ → ℕ → Option Life
begun_life lives bs c = cond (has_number bs c) (option_map (begin_life (prefix lives c)) (life_at lives c)) (life_at lives c)

pub record Began (w : World) (bs : List ℕ) (v : World) : Type 0 where
  pub now : Lives
  pub next : v ≡ with_lives w now
  pub count : length now ≡ length w.state.lives
  pub at : (c : ℕ) → life_at now c ≡ begun_life w.state.lives bs c

pub begun_erased : (k : ℕ) (t : Bool) (o : Option Life) → unbegun (cond t (option_map (begin_life k) o) o) ≡ unbegun o
begun_erased k true None = refl
begun_erased k true (Some l) = refl
begun_erased k false o = refl

pub begins : (bs : List ℕ) (w : World) → w.down ≡ false → distinct bs ≡ true → ((b : ℕ) → Contains bs b → can_begin w.state.lives b ≡ true) → Does w (map Begin bs) (map (begun_reply w.state.lives) bs) (Began w bs)
begins [] w up once ready = (refl, record { now = w.state.lives; next = refl; count = refl; at = λ c. refl })
begins (b ∷ bs) w up once ready =
    let d = begins bs w1 up (once_tail b bs once) ready' in
    let d' : Does w1 (map Begin bs) (map (begun_reply lives) bs) (Began w1 bs) = subst (λ (f : ℕ → ℕ). Does w1 (map Begin bs) (map (λ c. Begun (f c)) bs) (Began w1 bs)) counts d in
    does_cons (Began w (b ∷ bs)) w w1 (Begin b) (begun_reply lives b) (map Begin bs) (map (begun_reply lives) bs) is (d'.0, joined (world_after w1 (map Begin bs)) d'.1)
  where
    lives : Lives
    lives = w.state.lives

    k : ℕ
    k = prefix lives b

    L : Lives
    L = begun_at lives b k

    w1 : World
    w1 = with_lives w L

    one : (c : ℕ) → life_at L c ≡ cond (b == c) (option_map (begin_life (prefix lives c)) (life_at lives c)) (life_at lives c)
    one c = change_cond lives b (λ c. begin_life (prefix lives c)) c

    same : (o : Option Life) → prefix_of L o ≡ prefix_of lives o
    same o = prefixes_same lives L (length_change lives b (begin_life k)) (λ c. ap unbegun (one c) ∙ begun_erased (prefix lives c) (b == c) (life_at lives c)) o

    -- a prefix of another block, and of this one
    at_prefix : (c : ℕ) → prefix L c ≡ prefix lives c
    at_prefix c = same (life_at L c) ∙ (ap (prefix_of lives) (one c) ∙ go (b == c) (life_at lives c))
      where
        go : (t : Bool) (o : Option Life) → prefix_of lives (cond t (option_map (begin_life (prefix lives c)) o) o) ≡ prefix_of lives o
        go true None = refl
        go true (Some l) = refl
        go false o = refl

    counts : prefix L ≡ prefix lives
    counts = λ i c. at_prefix c i

    ready_same : (o : Option Life) → is_ready L o ≡ is_ready lives o
    ready_same None = refl
    ready_same (Some l) = ap (λ n. is_none l.begun && nat_lt 0 n) (same (Some l))

    ready' : (c : ℕ) → Contains bs c → can_begin L c ≡ true
    ready' c i = ready_same (life_at L c) ∙ (ap (is_ready lives) (one c ∙ cond-false (b == c) (option_map (begin_life (prefix lives c)) (life_at lives c)) (life_at lives c) other) ∙ ready c (Contains-tail b bs c i))
      where
        other : (b == c) ≡ false
        other = elim (cases_Bool (b == c)) [
          | inl t ↦ absurd (true≢false (sym (has_number_from bs c i) ∙ once_head b bs once c t))
          | inr f ↦ f
        ]

    is : act w (Begin b) ≡ (begun_reply lives b, w1)
    is = let r = ready_life lives (life_at lives b) (ready b (Contains-head b bs)) in
        subst (λ o. act w (Begin b) ≡ (Begun (prefix_of lives o), with_lives w (begun_at lives b (prefix_of lives o)))) (sym r.1) (begin_is w b r.0 up r.1 r.2 r.3)

    joined : (v : World) → Began w1 bs v → Began w (b ∷ bs) v
    joined v r = record {
      now = r.now;
      next = r.next;
      count = r.count ∙ length_change lives b (begin_life k);
      at = λ c. r.at c
          ∙ ((λ i. cond (has_number bs c) (option_map (begin_life (counts i c)) (one c i)) (one c i))
          ∙ merged (option_map (begin_life (prefix lives c))) (life_at lives c) (b == c) (has_number bs c) (once_head b bs once c));
    }
