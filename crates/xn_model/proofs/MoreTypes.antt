-- What holds of lives under some types holds under more types, where block 0 has these.
use Rattle.std.proofs.Common.{◌≡◌, ℕ, List, [], ◌∷◌, Option, Some, None, sym, ◌∙◌, ap, inl, inr, subst}
use Rattle.std.specs.Prelude.{Contains, IsTrue}
use Rattle.xn_model.specs.Types.{Types}
use Rattle.xn_model.specs.Root.{HasBuiltIns, has_type}
use Rattle.xn_model.specs.Languages.{Extends}
use Rattle.xn_model.specs.Lives.{BlockState, Life, StoreState, life_at, newest}
use Rattle.xn_model.specs.Rules.{IsConsistent, IsTemplate, IsSoundLife, IsLinkedLife, HasExactStatuses, WaitsForOlder, NamedIn, StaysDropped, Grows}
use Rattle.xn_model.proofs.Languages.{fits_same}

-- Under types that own the same for one type number

named_more : (T more : Types) (t : ℕ) → more.owned t ≡ T.owned t → (o : Option BlockState) (p : ℕ × ℕ) → NamedIn more t o p → NamedIn T t o p
named_more T more t e None p n = n
named_more T more t e (Some s) p n = subst (λ (f : List ℕ → List (ℕ × ℕ)). Contains (f s.bytes) p) e n

named_fewer : (T more : Types) (t : ℕ) → more.owned t ≡ T.owned t → (o : Option BlockState) (p : ℕ × ℕ) → NamedIn T t o p → NamedIn more t o p
named_fewer T more t e o p n = named_more more T t (sym e) o p n

grows_more : (T more : Types) (t : ℕ) → more.owned t ≡ T.owned t → (o : Option BlockState) (xs : List BlockState) → Grows T t o xs → Grows more t o xs
grows_more T more t e o [] h = tt
grows_more T more t e o (x ∷ xs) h = (
  λ c u n. elim (h.0 c u (subst (λ (f : List ℕ → List (ℕ × ℕ)). Contains (f x.bytes) (c, u)) e n)) [ inl old ↦ inl (named_fewer T more t e o (c, u) old) | inr add ↦ inr add ],
  grows_more T more t e (Some x) xs h.1,
)

dropped_more : (T more : Types) (t : ℕ) → more.owned t ≡ T.owned t → (xs : List BlockState) → StaysDropped T t xs → StaysDropped more t xs
dropped_more T more t e [] h = tt
dropped_more T more t e (x ∷ xs) h = (
  λ c i. (λ s u j n. (h.0 c i).0 s u j (subst (λ (f : List ℕ → List (ℕ × ℕ)). Contains (f s.bytes) (c, u)) e n), (h.0 c i).1),
  dropped_more T more t e xs h.1,
)

module _ (T more : Types) (state : StoreState) (h : IsConsistent T state) (grows : Extends T more) where
  same : (b : ℕ) (l : Life) → life_at state.lives b ≡ Some l → more.owned l.ty ≡ T.owned l.ty
  same b l e = grows.owned l.ty (h.linked b l e).installed

  -- what a state of a living block names, by both
  back : (b : ℕ) (l : Life) → life_at state.lives b ≡ Some l → (m : List ℕ) (p : ℕ × ℕ) → Contains (more.owned l.ty m) p → Contains (T.owned l.ty m) p
  back b l e m p n = subst (λ (f : List ℕ → List (ℕ × ℕ)). Contains (f m) p) (same b l e) n

  template_more : (c : ℕ) → IsTemplate T state.lives c → IsTemplate more state.lives c
  template_more c t = record { life = t.life; alive = t.alive; holds = (t.holds.0, t.holds.1, t.holds.2, t.holds.3, ap (λ f. f t.holds.2.bytes) grows.template ∙ t.holds.4) }

  sound_more : (b : ℕ) (l : Life) → life_at state.lives b ≡ Some l → IsSoundLife more state.lives b l
  sound_more b l e =
      let k = h.lives_sound.each b l e in
      record {
        fit = λ s i. fits_same T more l.ty s.bytes (same b l e) (grows.size l.ty (h.linked b l e).installed) (k.fit s i);
        named = λ s c u i n. k.named s c u i (back b l e s.bytes (c, u) n);
        same_system = λ s c u ne i n. k.same_system s c u ne i (back b l e s.bytes (c, u) n);
        ready = λ s c u i n. k.ready s c u i (back b l e s.bytes (c, u) n);
        typed = λ s c u ne i n. k.typed s c u ne i (back b l e s.bytes (c, u) n);
        rising = k.rising;
      }

  linked_more : (b : ℕ) (l : Life) → life_at state.lives b ≡ Some l → IsLinkedLife more state.lives b l
  linked_more b l e =
      let k = h.linked b l e in
      record {
        last = k.last;
        is_last = k.is_last;
        owned = λ c u n. k.owned c u (named_more T more l.ty (same b l e) (newest l) (c, u) n);
        installed = grows.installed l.ty k.installed;
        root_alone = k.root_alone;
        start = k.start;
        grows = grows_more T more l.ty (same b l e) l.durable l.pending k.grows;
        dropped = k.dropped;
        gone = dropped_more T more l.ty (same b l e) l.pending k.gone;
        flight = k.flight;
        resting = k.resting;
      }

  waits_more : WaitsForOlder more state.lives
  waits_more = record {
    adds = λ b l s c u e i n. let x = h.waits.adds b l s c u e i n in (subst (λ (f : List ℕ → List (ℕ × ℕ)). Contains (f s.bytes) (c, u)) (sym (same b l e)) x.0, x.1);
    types = h.waits.types;
    drops = h.waits.drops;
    after = h.waits.after;
    apart = h.waits.apart;
  }

  exact_more : HasExactStatuses more state.lives
  exact_more = record {
    owned = λ b l a e s. let o = h.statuses.owned b l a e s in
        record { life = o.life; alive = o.alive; holds = named_fewer T more o.life.ty (same a o.life o.alive) (newest o.life) (b, l.ty) o.holds };
    emptied = λ b l a p e s n. h.statuses.emptied b l a p e s (named_more T more l.ty (same b l e) (newest l) p n);
  }

  pub more_types : HasBuiltIns more → ((s : BlockState) (t : ℕ) → newest h.lives_sound.root.life ≡ Some s → IsTrue (more.installed t) → IsTrue (has_type s.bytes t)) → IsConsistent more state
  more_types built_ins all_types =
      let r = h.lives_sound.root in
      record {
        built_ins = built_ins;
        size = h.size;
        lives_sound = record {
          root = record {
            life = r.life;
            alive = r.alive;
            ty = r.ty;
            nobody = r.nobody;
            unowned = r.unowned;
            state = r.state;
            durable = r.durable;
            mark = r.mark;
            pointers = r.pointers;
            long = r.long;
            templates = λ s c u i n. template_more c (r.templates s c u i n);
            types = r.types;
            all_types = all_types;
            slots = r.slots;
          };
          each = sound_more;
        };
        linked = linked_more;
        waits = waits_more;
        order = h.order;
        statuses = exact_more;
        chains = h.chains;
        numbers = h.numbers;
      }
