-- A call edits and drops blocks of its own file system alone.
use Rattle.std.proofs.Common.{◌≡◌, ◌≢◌, ℕ, ◌<◌, ◌&&◌, true, not, [], ◌∷◌, Some, None, Ok, refl, sym, ◌∙◌, ap, inl, inr, subst}
use Rattle.std.specs.Prelude.{Contains, ◌==◌}
use Rattle.std.specs.List.{list_all}
use Rattle.std.proofs.lemmas.Bool.{and_parts, not-false, eqb-false, cond_both}
use Rattle.std.proofs.lemmas.Option.{none-some, same_Some}
use Rattle.xn_model.specs.Lists.{distinct}
use Rattle.xn_model.specs.Root.{slot}
use Rattle.xn_model.specs.Lives.{Life, StoreState, life_at, current, bytes_of}
use Rattle.store_types.specs.declared.refusal.Refusal.{Refusal}
use Rattle.store_types.specs.declared.refusal.Refusal.TheVariants.{NoMemory, TooManyPending, Exhausted, NotOwned, NotEmpty}
use Rattle.xn_model.specs.Calls.{edit_tests, Edit, patched, accepts, edited, propose_of, propose_at, too_many, exhausted, may_drop, is_empty, root_now, slot_now, life_bytes, init_of, make_root_of, life_pending, root_state, drop_root_of}
use Rattle.xn_model.specs.Worlds.{World, types_now, Call, Init, Propose, MakeRoot, DropRoot, Forget, Read, Root, Kind, Tainted, Pending, Floor, FreeCount, Pick, Drain, Client, Reply, Started, Edited, Down, Refused, call, AfterCall}
use Rattle.xn_model.specs.Rules.{Holds, IsInFileSystem, IsOwnedBy, NamedIn}
use Rattle.xn_model.proofs.ForCallers.{of_life, Contains-none, Contains-cons, all_at, last_of, own_then, unless_ok, droppable, not_root}
use Rattle.xn_history.specs.Histories.{Histories, rooted, edited_block, dropped_blocks}
use Rattle.xn_history.specs.Moments.{AreHistoriesOf}
use Rattle.xn_history.proofs.Calls.{root_bytes}
use Rattle.xn_history.proofs.Steps.{answered}

none_dropped : (hs : Histories) (fs : ℕ) (c : Call) → dropped_blocks hs (Client fs c) Down ≡ []
none_dropped hs fs Pick = refl
none_dropped hs fs c = refl

refused_drops : (hs : Histories) (fs : ℕ) (c : Call) (x : Refusal) → dropped_blocks hs (Client fs c) (Refused x) ≡ []
refused_drops hs fs Pick x = refl
refused_drops hs fs c x = refl

none_edited : (fs : ℕ) (c : Call) → edited_block (Client fs c) Down ≡ None
none_edited fs Pick = refl
none_edited fs c = refl

refused_edits : (fs : ℕ) (c : Call) (x : Refusal) → edited_block (Client fs c) (Refused x) ≡ None
refused_edits fs Pick x = refl
refused_edits fs c x = refl

module _ (w : World) (h : Holds w) (hs : Histories) (known : AreHistoriesOf w.state.lives hs) where
  -- what a reply tells to be dropped or edited
  pub record IsOwnCall (fs : ℕ) (c : Call) (r : Reply) : Type 0 where
    pub drops : (d : ℕ) → Contains (dropped_blocks hs (Client fs c) r) d → IsInFileSystem w.state.lives (Some fs) d
    pub edits : (b : ℕ) → edited_block (Client fs c) r ≡ Some b → b ≢ 0 → IsInFileSystem w.state.lives (Some fs) b

  own_none : (fs : ℕ) (c : Call) (r : Reply) → dropped_blocks hs (Client fs c) r ≡ [] → edited_block (Client fs c) r ≡ None → IsOwnCall fs c r
  own_none fs c r drops edits = record {
    drops = λ d i. absurd (Contains-none d (subst (λ ds. Contains ds d) drops i));
    edits = λ b e ne. absurd (none-some b (sym edits ∙ e));
  }

  own_refused : (fs : ℕ) (c : Call) (x : Refusal) → IsOwnCall fs c (Refused x)
  own_refused fs c x = own_none fs c (Refused x) (refused_drops hs fs c x) (refused_edits fs c x)

  -- what a block owns is of its file system
  owned_system : (fs b : ℕ) (l : Life) → life_at w.state.lives b ≡ Some l → l.fs ≡ Some fs → b ≢ 0 → (d : ℕ) → IsOwnedBy w.state.lives b d → IsInFileSystem w.state.lives (Some fs) d
  owned_system fs b l alive mine ne d o =
      let linked = h.state.linked b l alive in
      let named = of_life (h.state.statuses.owned d o.life b o.alive o.holds) l alive in
      let in' = (h.state.lives_sound.each b l alive).same_system linked.last d o.life.ty ne (last_of l.durable l.pending linked.last linked.is_last)
      (subst (λ o'. NamedIn (types_now w) l.ty o' (d, o.life.ty)) linked.is_last named) in
      record { life = in'.life; alive = in'.alive; holds = in'.holds ∙ mine }

  own_propose : (fs b : ℕ) (e : Edit) (given : ℕ × StoreState) → propose_of (types_now w) w.state fs b e ≡ Ok given → IsOwnCall fs (Propose b e) (Edited given.0)
  own_propose fs b e given done =
      let own = own_then w.state fs b (propose_at (types_now w) w.state fs b e) given done in
      let l : Life = own.0 in
      let m = patched (current l) e.patches in
      let u = unless_ok (edit_tests (types_now w) w.state fs b e l) (Ok (accepts w.state b (edited w.state.next fs e l))) given own.2 in
      let drops = (and_parts (list_all (may_drop w.state b) e.drops) (distinct e.drops) (not-false (list_all (may_drop w.state b) e.drops && distinct e.drops) u.0.1.1.1.1.1.1.0)).0 in
      record {
        drops = λ d i. owned_system fs b l own.1.alive own.1.mine (not_root (types_now w) w.state h.state fs b l own.1.alive own.1.mine) d (droppable w.state b d (all_at (may_drop w.state b) e.drops d drops i));
        edits = λ c e' ne. subst (IsInFileSystem w.state.lives (Some fs)) (same_Some b c e') (record { life = l; alive = own.1.alive; holds = own.1.mine });
      }

  own_drop_root : (fs : ℕ) → fs < 32 → (given : ℕ × StoreState) → drop_root_of (types_now w) w.state fs ≡ Ok given → IsOwnCall fs DropRoot (Edited given.0)
  own_drop_root fs few given done =
      let next = root_state w.state fs (0, 0) [] ((slot_now w.state fs).0 ∷ []) in
      let u = unless_ok (
      ((slot_now w.state fs).0 == 0, NotOwned)
      ∷ (not (is_empty (types_now w) w.state (slot_now w.state fs).0), NotEmpty)
      ∷ (too_many w.state fs (life_pending (life_at w.state.lives 0)), TooManyPending)
      ∷ (exhausted w.state, Exhausted)
      ∷ []) (Ok (accepts w.state 0 next)) given done in
      let r = h.state.lives_sound.root in
      let linked = h.state.linked 0 r.life r.alive in
      let bytes : root_now w.state ≡ linked.last.bytes = ap life_bytes r.alive ∙ ap bytes_of linked.is_last in
      let slot_is : rooted hs fs ≡ (slot linked.last.bytes fs).0 = ap (λ m. (slot m fs).0) (root_bytes (types_now w) w.state w.state h.state hs known ∙ bytes) in
      record {
        drops = λ d i. elim (Contains-cons (rooted hs fs) [] d i) [
          | inl same ↦ r.slots linked.last fs d (last_of r.life.durable r.life.pending linked.last linked.is_last) few (sym slot_is ∙ same)
              (λ zero. eqb-false (slot_now w.state fs).0 0 u.0.0 (ap (λ m. (slot m fs).0) bytes ∙ (sym slot_is ∙ (same ∙ zero))))
          | inr none ↦ absurd (Contains-none d none)
        ];
        edits = λ c e ne. absurd (ne (sym (same_Some 0 c e)));
      }

  own_make_root : (fs b entry : ℕ) → IsOwnCall fs (MakeRoot b) (Edited entry)
  own_make_root fs b entry = record { drops = λ d i. absurd (Contains-none d i); edits = λ c e ne. absurd (ne (sym (same_Some 0 c e))) }

  own_call : (fs : ℕ) → fs < 32 → (c : Call) → IsOwnCall fs c (call w fs c).0
  own_call fs few (Init t m) = answered (λ x. IsOwnCall fs (Init t m) x.0) (λ made. Started made.0 made.1) w (init_of (types_now w) w.state fs t m) (λ x. own_refused fs (Init t m) x) (λ given e. own_none fs (Init t m) (Started given.0.0 given.0.1) refl refl)
  own_call fs few (Propose b e) = answered (λ x. IsOwnCall fs (Propose b e) x.0) Edited w (propose_of (types_now w) w.state fs b e) (λ x. own_refused fs (Propose b e) x) (λ given d. own_propose fs b e given d)
  own_call fs few (MakeRoot b) = answered (λ x. IsOwnCall fs (MakeRoot b) x.0) Edited w (make_root_of w.state fs b) (λ x. own_refused fs (MakeRoot b) x) (λ given e. own_make_root fs b given.0)
  own_call fs few DropRoot = answered (λ x. IsOwnCall fs DropRoot x.0) Edited w (drop_root_of (types_now w) w.state fs) (λ x. own_refused fs DropRoot x) (λ given e. own_drop_root fs few given e)
  own_call fs few (Forget b) = own_none fs (Forget b) (call w fs (Forget b)).0 refl refl
  own_call fs few (Read b) = own_none fs (Read b) (call w fs (Read b)).0 refl refl
  own_call fs few Root = own_none fs Root (call w fs Root).0 refl refl
  own_call fs few (Kind b) = own_none fs (Kind b) (call w fs (Kind b)).0 refl refl
  own_call fs few (Tainted b) = own_none fs (Tainted b) (call w fs (Tainted b)).0 refl refl
  own_call fs few Pending = own_none fs Pending (call w fs Pending).0 refl refl
  own_call fs few Floor = own_none fs Floor (call w fs Floor).0 refl refl
  own_call fs few FreeCount = own_none fs FreeCount (call w fs FreeCount).0 refl refl
  own_call fs few Pick = own_none fs Pick (call w fs Pick).0 refl refl
  own_call fs few Drain = own_none fs Drain (call w fs Drain).0 refl refl

  pub own_step : (fs : ℕ) → fs < 32 → (c : Call) (r : Reply) (w' : World) → AfterCall w (Client fs c) r w' → IsOwnCall fs c r
  own_step fs few c r w' s = elim s [
    | inl given ↦ subst (IsOwnCall fs c) (sym given.0) (cond_both {A = Reply × World} (w.down && true) (Down, w) (call w fs c) (λ x. IsOwnCall fs c x.0) (λ t. own_none fs c Down (none_dropped hs fs c) (none_edited fs c)) (λ t. own_call fs few c))
    | inr wants ↦ subst (IsOwnCall fs c) (sym wants.1.1.1.0) (own_refused fs c NoMemory)
  ]
