-- Cuts over each event but a crash, and an edit or a new block of the file system: all its blocks show the same, and the same is taken.
use Rattle.std.proofs.Common.{◌≡◌, ℕ, ◌<◌, ◌≢◌, ◌⊎◌, false, [], ◌∷◌, length, take, Some, None, refl, sym, ◌∙◌, ap, inl, inr, subst}
use Rattle.std.specs.Prelude.{Contains, IsTrue, slice_set}
use Rattle.std.proofs.lemmas.Bool.{cases_eq, cases_lt, false≢true}
use Rattle.std.proofs.lemmas.Option.{same_Some, none-some}
use Rattle.store_types.specs.declared.status.Status.TheVariants.{Fresh}
use Rattle.xn_model.specs.Types.{Types}
use Rattle.xn_model.specs.Root.{slot}
use Rattle.xn_model.specs.Lives.{BlockState, Life, Lives, StoreState, life_at, bytes_of, current}
use Rattle.xn_model.specs.Calls.{catalogue_state, edited, new_life, root_now, root_state, slot_now, started, types_of}
use Rattle.xn_model.specs.Rules.{AreOrdered, IsConsistent}
use Rattle.xn_model.proofs.ForCallers.{Contains-take, accept, accepted, accepted_is, accepted_other, begun_keeps, begun_kept, each_back, forget_keeps, free, freed_is, installed_is, lowest_is, not_root, set_same, settled_keeps, slot_still}
use Rattle.ffs_model.specs.Cuts.{Choice, IsCut, KeptFrom, Takes, chosen, seen, taken}
use Rattle.ffs_model.specs.Events.{is_still}
use Rattle.ffs_model.proofs.Chosen.{seen_chosen}
use Rattle.ffs_model.proofs.Accepted.{cut_before, full_before, kept_choice, seen_new, seen_old, seen_other, seen_untook, takes_before}
use Rattle.ffs_model.proofs.Before.{WholeFrom}
use Rattle.ffs_model.proofs.Foreign.{back, end_whole, forth, root_seen, start_cut, takes_then}
use Rattle.ffs_model.proofs.Given.{started as started_as, ended, proposed, rooted, unrooted}
use Rattle.ffs_model.proofs.Calls.{not_own, root_current, root_long, root_nobody, slot_same}
use Rattle.ffs_model.proofs.Writes.{begin_whole, settle_whole}
use Rattle.ffs_model.proofs.Events.{IsKept}

whole_kept : (fs : ℕ) (old new : Lives) → AreOrdered old → (r : Life) → life_at new 0 ≡ Some r → WholeFrom old new → KeptFrom fs old new
whole_kept fs old new order r alive from k h =
    let x = from k h in
    let z = x.sees 0 r alive in
    record {
      choice = x.choice;
      cut = x.cut;
      top = ap (λ m. slot m fs) (seen_chosen new k 0 r alive ∙ (z.same ∙ sym (seen_chosen old x.choice 0 z.life z.alive)));
      sees = λ b m e own. let s = x.sees b m e in record {
        life = s.life;
        alive = s.alive;
        system = s.system;
        ty = s.ty;
        same = s.same;
        took = λ t i j. x.took t.entry (only x.choice b s.life t s.alive j) b m t e i refl;
        fewer = s.fewer;
      };
      full = x.full;
      takes = x.takes;
    }
  where
    only : (j : Choice) (b : ℕ) (l : Life) (t : BlockState) → life_at old b ≡ Some l → Contains (taken j b l) t → Takes old j t.entry
    only j b l t e i c m u f g at =
        let same = order.pending_once b c l m t u e f (Contains-take (j b) l.pending t i) g (sym at) in
        let life : l ≡ m = same_Some l m (sym e ∙ (ap (life_at old) same.0 ∙ f)) in
        subst (λ v. Contains (taken j c m) v) same.1 (subst (λ (y : Life). Contains (taken j c y) t) life (subst (λ d. Contains (taken j d l) t) same.0 i))

kept_then : (fs : ℕ) (a b c : Lives) → KeptFrom fs a b → KeptFrom fs b c → KeptFrom fs a c
kept_then fs a b c f g k h =
    let y = g k h in
    let x = f y.choice y.cut in
    record {
      choice = x.choice;
      cut = x.cut;
      top = y.top ∙ x.top;
      sees = λ d m e own.
          let s = y.sees d m e own in
          let r = x.sees d s.life s.alive (s.system ∙ own) in
          record {
            life = r.life;
            alive = r.alive;
            system = r.system ∙ s.system;
            ty = r.ty ∙ s.ty;
            same = s.same ∙ r.same;
            took = λ t i j. s.took t i (r.took t (s.fewer t i) j);
            fewer = λ t i. r.fewer t (s.fewer t i);
          };
      full = λ d z. x.full d (y.full d z);
      takes = λ n t. x.takes n (y.takes n t);
    }

kept_same : (fs : ℕ) (lives : Lives) → KeptFrom fs lives lives
kept_same fs lives k h = record {
  choice = k;
  cut = h;
  top = refl;
  sees = λ b m e own. record { life = m; alive = e; system = refl; ty = refl; same = refl; took = λ t i j. j; fewer = λ t i. i };
  full = λ b f. f;
  takes = λ n t. t;
}

-- A life of another begins
start_kept : (T : Types) (state : StoreState) (h : IsConsistent T state) (b : ℕ) (start : Life) (within : b < length state.lives) (none : life_at state.lives b ≡ None) (fresh : start.status ≡ Fresh) (fs : ℕ) →
    (start.fs ≡ Some fs → ⊥) → KeptFrom fs state.lives (slice_set state.lives b (Some start))
start_kept T state h b start within none fresh fs other k h' = record {
  choice = k;
  cut = start_cut T state h b start within none fresh k h';
  top = ap (λ m. slot m fs) (root_seen T state h b start within none fresh k);
  sees = λ c m e own. elim (cases_eq c b) [
    | inl same ↦ absurd (other (ap (λ (l : Life). l.fs) (same_Some start m (sym (set_same state.lives b (Some start) within) ∙ (ap (life_at (slice_set state.lives b (Some start))) (sym same) ∙ e))) ∙ own))
    | inr ne ↦ record { life = m; alive = back T state h b start within none fresh c m ne e; system = refl; ty = refl; same = refl; took = λ t i j. j; fewer = λ t i. i }
  ];
  full = λ c f m e. f m (forth T state h b start within none fresh c m e);
  takes = takes_then T state h b start within none fresh k;
}

-- A block of another accepts a state
module _ (T : Types) (state : StoreState) (h : IsConsistent T state) (b : ℕ) (l : Life) (s : BlockState) (alive : life_at state.lives b ≡ Some l) (number : s.entry ≡ state.next) (fs : ℕ)
    (other : l.fs ≡ Some fs → ⊥) (top : b ≡ 0 → slot s.bytes fs ≡ slot (current l) fs) where
  top_same : (k : Choice) → IsCut (accept b s state.lives) k → slot (seen (accept b s state.lives) k 0) fs ≡ slot (seen state.lives k 0) fs
  top_same k cut = elim (cases_eq 0 b) [
    | inl e ↦ elim (cases_lt (length l.pending) (k b)) [
      | inl lt ↦ subst (λ c. slot (seen (accept b s state.lives) k c) fs ≡ slot (seen state.lives k c) fs) (sym e)
          (ap (λ m. slot m fs) (seen_new T state h b l s alive number k cut lt) ∙ (top (sym e) ∙ ap (λ m. slot m fs) (sym (seen_old T state h b l s alive number k cut lt))))
      | inr ge ↦ ap (λ v. slot (v 0) fs) (seen_untook T state h b l s alive number k ge)
    ]
    | inr ne ↦ ap (λ m. slot m fs) (seen_other T state h b l s alive number k 0 ne)
  ]

  accept_kept : KeptFrom fs state.lives (accept b s state.lives)
  accept_kept k cut = record {
    choice = k;
    cut = cut_before T state h b l s alive number k cut;
    top = top_same k cut;
    sees = λ c m e own.
        let x = each_back (accepted b s) state.lives c m e in
        let mine : x.0.fs ≡ Some fs = ap (λ (y : Life). y.fs) (sym x.2) ∙ own in
        let ne : c ≡ b → ⊥ = λ same. other (ap (λ (y : Life). y.fs) (same_Some l x.0 (sym alive ∙ (ap (life_at state.lives) (sym same) ∙ x.1))) ∙ mine) in
        record {
          life = x.0;
          alive = x.1;
          system = ap (λ (y : Life). y.fs) (sym x.2);
          ty = ap (λ (y : Life). y.ty) (sym x.2);
          same = ap (λ y. bytes_of (chosen k c y)) x.2 ∙ ap bytes_of (kept_choice b s k c x.0 (λ e. absurd (ne e)));
          took = λ t i j. subst (λ xs. Contains (take (k c) xs) t) (sym (ap (λ (y : Life). y.pending) (x.2 ∙ accepted_other b s c x.0 ne))) j;
          fewer = λ t i. subst (λ (y : Life). Contains y.pending t) (x.2 ∙ accepted_other b s c x.0 ne) i;
        };
    full = full_before T state h b l s alive number k;
    takes = takes_before T state h b l s alive number k;
  }

abbrev pub kept_state : ℕ → StoreState → StoreState → Type 0
kept_state fs s new = KeptFrom fs s.lives new.lives

not_this : (fs x : ℕ) → (x ≢ fs) ⊎ IsTrue false → x ≢ fs
not_this fs x h = elim h [ inl ne ↦ ne | inr f ↦ absurd (false≢true f) ]

pub events_kept : (fs : ℕ) → IsKept fs is_still (kept_state fs)
events_kept fs = record {
  same = λ s. kept_same fs s.lives;
  then = λ a b c f g. kept_then fs a.lives b.lives c.lives f g;
  begin = λ T s h b g new e. let z = (begun_keeps T s h b g new e).consistent.lives_sound.root in whole_kept fs s.lives new.lives h.order z.life z.alive (begin_whole T s h fs b g new e);
  settle = λ T s h b m g new e. let z = (settled_keeps T s h b m g new e).0.lives_sound.root in whole_kept fs s.lives new.lives h.order z.life z.alive (settle_whole T s h fs b m g new e);
  init = λ T s h x t m q g new e.
      let r = started_as T s new x t m g e in
      subst (KeptFrom fs s.lives) (sym r.lives) (start_kept T s h g.0 (new_life s.next (Some x) t m) r.within r.free refl fs (λ z. not_this fs x q (same_Some x fs z)));
  propose = λ T s h x b d q g new e.
      let r = proposed T s new x b d g e in
      subst (KeptFrom fs s.lives) (sym r.lives) (accept_kept T s h b r.life (edited s.next x d r.life) r.own.alive refl fs (not_own T s h fs x r.life.fs (not_this fs x q) r.own.mine)
      (λ z. absurd (not_root T s h x b r.life r.own.alive r.own.mine z)));
  make_root = λ T s h x b few q g new e.
      let r = rooted s new x b g e in
      subst (KeptFrom fs s.lives) (sym r.lives) (accept_kept T s h 0 h.lives_sound.root.life (root_state s x (b, r.life.ty) ((b, r.life.ty) ∷ []) []) h.lives_sound.root.alive refl fs (root_nobody T s h fs)
      (λ z. slot_same T s h fs x (b, r.life.ty) few (not_this fs x q)));
  drop_root = λ T s h x few q g new e.
      let r = unrooted T s new x g e in
      subst (KeptFrom fs s.lives) (sym r.lives) (accept_kept T s h 0 h.lives_sound.root.life (root_state s x (0, 0) [] ((slot_now s x).0 ∷ [])) h.lives_sound.root.alive refl fs (root_nobody T s h fs)
      (λ z. slot_same T s h fs x (0, 0) few (not_this fs x q)));
  forget = λ T s h x b g new e.
      let r = ended T s new x b g e in
      let is : new.lives ≡ free (b ∷ []) s.lives = r.lives ∙ freed_is s.lives (b ∷ []) in
      let z = (forget_keeps T s h x b g new e).consistent.lives_sound.root in
      subst (KeptFrom fs s.lives) (sym is) (whole_kept fs s.lives (free (b ∷ []) s.lives) h.order z.life (ap (λ xs. life_at xs 0) (sym is) ∙ z.alive) (end_whole T s h b r.life r.own.alive r.untouched));
  install = λ L s h m whole g new e.
      let T = types_of L s.lives in
      let x = installed_is L s m g new e in
      let b = x.block in
      let begun = started s None 1 m b in
      let h1 = (begun_kept L s h m whole b x.free).consistent in
      let r = h1.lives_sound.root in
      let low = lowest_is s.lives b x.free in
      let life = new_life s.next None 1 m in
      subst (KeptFrom fs s.lives) (sym (accepted_is begun.lives 0 (catalogue_state begun x.place b)) ∙ ap (λ (y : StoreState). y.lives) x.is)
      (kept_then fs s.lives begun.lives (accept 0 (catalogue_state begun x.place b) begun.lives) (start_kept T s h b life low.0 low.1 refl fs (none-some fs))
      (accept_kept T begun h1 0 r.life (catalogue_state begun x.place b) r.alive refl fs (root_nobody T begun h1 fs)
      (λ z. slot_still (root_now begun) x.place b (root_long T begun h1 fs) x.few fs ∙ ap (λ m. slot m fs) (root_current T begun h1 fs))));
}
