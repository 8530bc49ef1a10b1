-- Blocks whose write steps are mixed in any way are all answered well.
use Rattle.std.proofs.Common.{◌≡◌, ℕ, zero, suc, ◌<◌, ◌≤◌, Bool, true, false, cond, List, [], ◌∷◌, length, take, Option, Some, None, refl, sym, ◌∙◌, ap, inl, inr, arith, subst}
use Rattle.std.specs.Prelude.{Contains, ◌==◌, ◌≢◌, is_none, nat_lt, option_map}
use Rattle.std.proofs.lemmas.Bool.{cases_eq, ne_eqb, eq-eqb, cond-true, cond-false, and_from, lt-ltb, false_from_ne_true}
use Rattle.std.proofs.lemmas.Option.{same_Some, none-some}
use Rattle.std.proofs.lemmas.List.{get_or-set_same, get_or-set_other}
use Rattle.xn_model.specs.Lists.{has_number}
use Rattle.xn_model.specs.Images.{block_of}
use Rattle.xn_model.specs.Lives.{Life, Lives, life_at, prefix, prefix_of, safe_count, begun_at, settle, settled_at, freed, drops_of, carried, first_states}
use Rattle.xn_model.specs.Calls.{bytes_at, first_pending, is_ready}
use Rattle.xn_model.specs.Worlds.{World, types_now, Begin, Finish, Reply, Begun, Landed, Synced, Finished, begun_count, begun_bytes, write, settle_bytes, given_at, act, replies, world_after, IsEvent}
use Rattle.xn_model.specs.Waves.{can_begin, nth_step, one_step_more, turns_from, in_turns, steps_done, HaveTurns, IsStepDone, AreStepsDone}
use Rattle.xn_model.specs.Rules.{Holds, IsCount}
use Rattle.xn_model.proofs.Lists.{Contains-head, Contains-tail, has_number_at}
use Rattle.xn_model.proofs.Lives.{of_life, freed_at}
use Rattle.xn_model.proofs.Reached.{in_range}
use Rattle.xn_model.proofs.Tests.{safe_count_within}
use Rattle.xn_model.proofs.Ends.{drops_at}
use Rattle.xn_model.proofs.Lands.{none_given_at}
use Rattle.xn_model.proofs.Drains.{ready_life}
use Rattle.xn_model.proofs.Prefixes.{step_more}
use Rattle.xn_model.proofs.WaveSteps.{with_lives, begin_is, land_is, sync_is, finish_is, begun_counts, change_cond}
use Rattle.xn_model.proofs.WavePhases.{begin_life}
use Rattle.xn_model.proofs.WaveParts.{holds_after}

-- What a step leaves of other blocks.
pub record LeavesOthers (v v' : World) (b : ℕ) : Type 0 where
  -- a life with something pending is as it was, and each other one too, or is free
  pub life : (c : ℕ) (l : Life) → c ≢ b → life_at v.state.lives c ≡ Some l → 1 ≤ length l.pending → life_at v'.state.lives c ≡ Some l
  pub fewer : (c : ℕ) (l : Life) → c ≢ b → life_at v'.state.lives c ≡ Some l → life_at v.state.lives c ≡ Some l
  pub grows : (c : ℕ) → c ≢ b → prefix v.state.lives c ≤ prefix v'.state.lives c
  pub newest : (c : ℕ) → c ≢ b → block_of v'.image c ≡ block_of v.image c
  pub given : (c : ℕ) → c ≢ b → given_at v'.given c ≡ given_at v.given c

-- A write that is under way, of at least so many entries.
pub record IsUnderWay (least : ℕ) (v : World) (b : ℕ) : Type 0 where
  pub life : Life
  pub alive : life_at v.state.lives b ≡ Some life
  pub entries : ℕ
  pub begun : life.begun ≡ Some entries
  pub enough : least ≤ entries

-- and written
pub record IsWritten (least : ℕ) (v : World) (b : ℕ) : Type 0 where
  pub way : IsUnderWay least v b
  pub there : block_of v.image b ≡ bytes_at way.entries way.life

-- How block b stands after so many steps.
abbrev pub Stands : ℕ → ℕ → World → ℕ → Type 0
Stands zero least v b = (can_begin v.state.lives b ≡ true) × (least ≤ prefix v.state.lives b)
Stands (suc zero) least v b = IsUnderWay least v b
Stands (suc (suc zero)) least v b = IsWritten least v b
Stands (suc (suc (suc zero))) least v b = IsWritten least v b × (given_at v.given b ≡ None)
Stands (suc (suc (suc (suc n)))) least v b = (l : Life) → life_at v.state.lives b ≡ Some l → l.begun ≡ None

-- Other blocks stand as they stood

abbrev way_stays : (v v' : World) → Holds v → (b : ℕ) → LeavesOthers v v' b → (least c : ℕ) → c ≢ b → IsUnderWay least v c → IsUnderWay least v' c
way_stays v v' h b o least c other s =
    let count : IsCount (Some s.entries) (length s.life.pending) = subst (λ x. IsCount x (length s.life.pending)) s.begun (h.state.linked c s.life s.alive).flight in
    let lo = count.0 in
    let hi = count.1 in
    record { life = s.life; alive = o.life c s.life other s.alive (omega arith); entries = s.entries; begun = s.begun; enough = s.enough }

stands_still : (n : ℕ) (v v' : World) → Holds v → (b : ℕ) → LeavesOthers v v' b → (least c : ℕ) → c ≢ b → Stands n least v c → Stands n least v' c
stands_still zero v v' h b o least c other s =
    let r = ready_life v.state.lives (life_at v.state.lives c) s.0 in
    let some : 1 ≤ safe_count v.state.lives r.0.ty [] r.0.pending = r.3 in
    let few = safe_count_within v.state.lives r.0.ty [] r.0.pending in
    let alive = o.life c r.0 other r.1 (omega arith) in
    let le = o.grows c other in
    let was : prefix v.state.lives c ≡ safe_count v.state.lives r.0.ty [] r.0.pending = ap (prefix_of v.state.lives) r.1 in
    let now : prefix v'.state.lives c ≡ safe_count v'.state.lives r.0.ty [] r.0.pending = ap (prefix_of v'.state.lives) alive in
    let enough = s.1 in (
      ap (is_ready v'.state.lives) alive ∙ and_from (is_none r.0.begun) (nat_lt 0 (safe_count v'.state.lives r.0.ty [] r.0.pending)) (ap is_none r.2) (lt-ltb 0 (safe_count v'.state.lives r.0.ty [] r.0.pending) (omega arith)),
      omega arith,
    )
stands_still (suc zero) v v' h b o least c other s = way_stays v v' h b o least c other s
stands_still (suc (suc zero)) v v' h b o least c other s = record { way = way_stays v v' h b o least c other s.way; there = o.newest c other ∙ s.there }
stands_still (suc (suc (suc zero))) v v' h b o least c other s = (record { way = way_stays v v' h b o least c other s.0.way; there = o.newest c other ∙ s.0.there }, o.given c other ∙ s.1)
stands_still (suc (suc (suc (suc n)))) v v' h b o least c other s = λ l e. s l (o.fewer c l other e)

-- One step

pub record StepDone (start : Lives) (n b : ℕ) (v : World) : Type 0 where
  pub after : World
  pub reply : Reply
  pub is : act v (nth_step n b) ≡ (reply, after)
  pub done : IsStepDone start (nth_step n b) reply
  pub here : Stands (suc n) (prefix start b) after b
  pub others : LeavesOthers v after b
  pub still_up : after.down ≡ v.down

module _ (start : Lives) (v : World) (h : Holds v) (up : v.down ≡ false) (b : ℕ) where
  abbrev lives : Lives
  lives = v.state.lives

  abbrev least : ℕ
  least = prefix start b

  begin_step : Stands zero least v b → StepDone start 0 b v
  begin_step s =
      let r = ready_life lives (life_at lives b) s.0 in
      let l = r.0 in
      let k = prefix_of lives (Some l) in
      let L = begun_at lives b k in
      let at : (c : ℕ) → life_at L c ≡ cond (b == c) (option_map (begin_life k) (life_at lives c)) (life_at lives c) = change_cond lives b (λ x. begin_life k) in
      let apart : (c : ℕ) → c ≢ b → life_at L c ≡ life_at lives c = λ c other. at c ∙ cond-false (b == c) (option_map (begin_life k) (life_at lives c)) (life_at lives c) (ne_eqb b c (λ e. other (sym e))) in
      let is = begin_is v b l up r.1 r.2 r.3 in
      let enough : least ≤ k = subst (λ o. least ≤ prefix_of lives o) r.1 s.1 in
      record {
        after = with_lives v L;
        reply = Begun k;
        is = is;
        done = enough;
        still_up = refl;
        here = record {
          life = begin_life k l;
          alive = at b ∙ (cond-true (b == b) (option_map (begin_life k) (life_at lives b)) (life_at lives b) (eq-eqb b b refl) ∙ ap (option_map (begin_life k)) r.1);
          entries = k;
          begun = refl;
          enough = enough;
        };
        others = record {
          life = λ c m other e some. apart c other ∙ e;
          fewer = λ c m other e. sym (apart c other) ∙ e;
          grows = λ c other. subst (λ (x : Reply × World). prefix lives c ≤ prefix x.1.state.lives c) is (step_more v h c b other (Begin b) refl);
          newest = λ c other. refl;
          given = λ c other. refl;
        };
      }

  -- a step that leaves the lives
  same_lives_others : (v' : World) → v'.state ≡ v.state → ((c : ℕ) → c ≢ b → block_of v'.image c ≡ block_of v.image c) → ((c : ℕ) → c ≢ b → given_at v'.given c ≡ given_at v.given c) → LeavesOthers v v' b
  same_lives_others v' same newest given = record {
    life = λ c m other e some. ap (λ x. life_at x.lives c) same ∙ e;
    fewer = λ c m other e. ap (λ x. life_at x.lives c) (sym same) ∙ e;
    grows = λ c other. let e : prefix v'.state.lives c ≡ prefix lives c = ap (λ x. prefix x.lives c) same in omega arith;
    newest = newest;
    given = given;
  }

  within : (l : Life) → life_at lives b ≡ Some l → b < length lives
  within l e = in_range (types_now v) v.state h.state b l e

  land_step : Stands 1 least v b → StepDone start 1 b v
  land_step s =
      let ticket : begun_count (life_at lives b) ≡ Some s.entries = ap begun_count s.alive ∙ s.begun in
      let bytes = begun_bytes s.entries (life_at lives b) in
      record {
        after = write v b s.entries true;
        reply = Landed;
        is = land_is v b s.entries up ticket;
        done = refl;
        still_up = refl;
        here = record {
          way = record { life = s.life; alive = s.alive; entries = s.entries; begun = s.begun; enough = s.enough };
          there = get_or-set_same v.image b bytes [] (subst (λ n. b < n) (sym h.count) (within s.life s.alive)) ∙ ap (begun_bytes s.entries) s.alive;
        };
        others = same_lives_others (write v b s.entries true) refl (λ c other. get_or-set_other v.image b c bytes [] other) (λ c other. get_or-set_other v.given b c (Some bytes) None other);
      }

  sync_step : Stands 2 least v b → StepDone start 2 b v
  sync_step s =
      let ticket : begun_count (life_at lives b) ≡ Some s.way.entries = ap begun_count s.way.alive ∙ s.way.begun in
      record {
        after = settle_bytes v b;
        reply = Synced;
        is = sync_is v b s.way.entries up ticket;
        done = refl;
        still_up = refl;
        here = (
          record {
            way = record { life = s.way.life; alive = s.way.alive; entries = s.way.entries; begun = s.way.begun; enough = s.way.enough };
            there = s.there;
          },
          none_given_at v.given b,
        );
        others = same_lives_others (settle_bytes v b) refl (λ c other. refl) (λ c other. get_or-set_other v.given b c None None other);
      }

  finish_step : Stands 3 least v b → StepDone start 3 b v
  finish_step s =
      let way = s.0.way in
      let l = way.life in
      let k = way.entries in
      let ticket : begun_count (life_at lives b) ≡ Some k = ap begun_count way.alive ∙ way.begun in
      let drops = drops_of (first_pending k (life_at lives b)) in
      let L = freed (settled_at lives b k) drops in
      let at : (c : ℕ) → life_at L c ≡ cond (has_number drops c) None (cond (b == c) (option_map (settle k) (life_at lives c)) (life_at lives c)) =
      λ c. freed_at (settled_at lives b k) drops c ∙ ap (cond (has_number drops c) None) (change_cond lives b (λ x. settle k) c) in
      let apart : (c : ℕ) → c ≢ b → life_at L c ≡ cond (has_number drops c) None (life_at lives c) =
      λ c other. at c ∙ ap (cond (has_number drops c) None) (cond-false (b == c) (option_map (settle k) (life_at lives c)) (life_at lives c) (ne_eqb b c (λ e. other (sym e)))) in
      let is = finish_is v b k up ticket k s.1 (begun_counts lives b k l (block_of v.image b) way.alive way.begun s.0.there) in
      record {
        after = with_lives v L;
        reply = Finished k (length drops);
        is = is;
        done = way.enough;
        still_up = refl;
        here = λ m e. idle_after (has_number drops b) l k m
            (sym (at b ∙ (ap (λ t. cond (has_number drops b) None (cond t (option_map (settle k) (life_at lives b)) (life_at lives b))) (eq-eqb b b refl) ∙ ap (λ o. cond (has_number drops b) None (option_map (settle k) o)) way.alive)) ∙ e);
        others = record {
          life = λ c m other e some. apart c other ∙ (cond-false (has_number drops c) None (life_at lives c) (undropped l k way.alive way.begun c m e some) ∙ e);
          fewer = λ c m other e. kept (has_number drops c) (life_at lives c) m (sym (apart c other) ∙ e);
          grows = λ c other. subst (λ (x : Reply × World). prefix lives c ≤ prefix x.1.state.lives c) is (step_more v h c b other (Finish b) refl);
          newest = λ c other. refl;
          given = λ c other. refl;
        };
      }
    where
      idle_after : (d : Bool) (l : Life) (k : ℕ) (m : Life) → cond d None (Some (settle k l)) ≡ Some m → m.begun ≡ None
      idle_after true l k m e = absurd (none-some m e)
      idle_after false l k m e = ap (λ (x : Life). x.begun) (sym (same_Some (settle k l) m e))

      kept : (d : Bool) (o : Option Life) (m : Life) → cond d None o ≡ Some m → o ≡ Some m
      kept true o m e = absurd (none-some m e)
      kept false o m e = e

      undropped : (l : Life) (k : ℕ) → life_at lives b ≡ Some l → l.begun ≡ Some k → (c : ℕ) (m : Life) → life_at lives c ≡ Some m → 1 ≤ length m.pending → has_number (drops_of (first_pending k (life_at lives b))) c ≡ false
      undropped l k alive begun c m e some = false_from_ne_true (has_number (drops_of (first_pending k (life_at lives b))) c) (λ t.
          let first : drops_of (first_pending k (life_at lives b)) ≡ drops_of (take k l.pending) = ap (λ o. drops_of (first_pending k o)) alive in
          let d = drops_at (take k l.pending) c (subst (λ xs. Contains xs c) first (has_number_at (drops_of (first_pending k (life_at lives b))) c t)) in
          let in' : Contains (carried l) d.0 = subst (λ o. Contains (first_states o l.pending) d.0) (sym begun) d.1 in
          let rest = (h.state.linked b l alive).resting d.0 c in' d.2 in
          let none : length m.pending ≡ 0 = ap length (of_life rest m e) in
          absurd (omega arith))

  pub step_done : (n : ℕ) → n < 4 → Stands n least v b → StepDone start n b v
  step_done zero lt s = begin_step s
  step_done (suc zero) lt s = land_step s
  step_done (suc (suc zero)) lt s = sync_step s
  step_done (suc (suc (suc zero))) lt s = finish_step s
  step_done (suc (suc (suc (suc n)))) lt s = absurd (omega arith)

-- All steps

step_event : (n b : ℕ) → IsEvent (nth_step n b)
step_event zero b = tt
step_event (suc zero) b = tt
step_event (suc (suc zero)) b = tt
step_event (suc (suc (suc n))) b = tt

pub record AreMixed (start : Lives) (blocks : List ℕ) (steps : ℕ → ℕ) (turns : List ℕ) (v : World) : Type 0 where
  pub done : AreStepsDone start (turns_from steps turns) (replies v (turns_from steps turns))
  pub stand : (b : ℕ) → Contains blocks b → Stands (steps_done steps turns b) (prefix start b) (world_after v (turns_from steps turns)) b

mixes : (start : Lives) (blocks turns : List ℕ) (steps : ℕ → ℕ) (v : World) → Holds v → v.down ≡ false → ((b : ℕ) → Contains turns b → Contains blocks b) →
    ((b : ℕ) → Contains blocks b → Stands (steps b) (prefix start b) v b) → HaveTurns steps turns → AreMixed start blocks steps turns v
mixes start blocks [] steps v h up among stand few = record { done = tt; stand = stand }
mixes start blocks (b ∷ turns) steps v h up among stand few =
    let d = step_done start v h up b (steps b) few.0 (stand b (among b (Contains-head b turns))) in
    let e = nth_step (steps b) b in
    let h' : Holds d.after = subst (λ (x : Reply × World). Holds x.1) d.is (holds_after v (e ∷ []) h (step_event (steps b) b, tt)) in
    let rest = mixes start blocks turns (one_step_more steps b) d.after h' (d.still_up ∙ up) (λ c i. among c (Contains-tail b turns c i)) (stands' d) few.1 in
    let es = turns_from (one_step_more steps b) turns in
    record {
      done = subst (λ (x : Reply × World). IsStepDone start e x.0 × AreStepsDone start es (replies x.1 es)) (sym d.is) (d.done, rest.done);
      stand = λ c i. subst (λ (x : Reply × World). Stands (steps_done (one_step_more steps b) turns c) (prefix start c) (world_after x.1 es) c) (sym d.is) (rest.stand c i);
    }
  where
    stands' : (d : StepDone start (steps b) b v) → (c : ℕ) → Contains blocks c → Stands (one_step_more steps b c) (prefix start c) d.after c
    stands' d c i = elim (cases_eq c b) [
      | inl same ↦ subst (λ n. Stands n (prefix start c) d.after c) (sym (cond-true (b == c) (suc (steps c)) (steps c) (eq-eqb b c (sym same))))
          (subst (λ x. Stands (suc (steps x)) (prefix start x) d.after x) (sym same) d.here)
      | inr other ↦ subst (λ n. Stands n (prefix start c) d.after c) (sym (cond-false (b == c) (suc (steps c)) (steps c) (ne_eqb b c (λ e. other (sym e)))))
          (stands_still (steps c) v d.after h b d.others (prefix start c) c other (stand c i))
    ]

pub writes_mix : (w : World) (turns : List ℕ) → Holds w → w.down ≡ false → ((b : ℕ) → Contains turns b → can_begin w.state.lives b ≡ true) → HaveTurns (λ b. 0) turns →
    AreMixed w.state.lives turns (λ b. 0) turns w
writes_mix w turns h up ready few = mixes w.state.lives turns turns (λ b. 0) w h up (λ b i. i) (λ b i. (ready b i, omega arith)) few

pub mixes_rest : (w : World) (turns : List ℕ) (b : ℕ) (l : Life) → Holds w → w.down ≡ false → ((b : ℕ) → Contains turns b → can_begin w.state.lives b ≡ true) → HaveTurns (λ b. 0) turns →
    Contains turns b → steps_done (λ b. 0) turns b ≡ 4 → life_at (world_after w (in_turns turns)).state.lives b ≡ Some l → l.begun ≡ None
mixes_rest w turns b l h up ready few i all = (subst (λ n. Stands n (prefix w.state.lives b) (world_after w (in_turns turns)) b) all ((writes_mix w turns h up ready few).stand b i)) l
