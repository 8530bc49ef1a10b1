-- Each call keeps lanes and lives fitting: call by call.
use Rattle.std.proofs.Common.{◌≡◌, ℕ, zero, suc, ◌+◌, not, List, [], ◌∷◌, length, arith, Option, Some, None, refl, sym, ◌∙◌, ap, inl, inr, subst, take}
use Rattle.std.proofs.lemmas.Option.{same_Some, none-some}
use Rattle.std.specs.Prelude.{Contains, IfSome, slice_set, slice_get, is_some, Result, Ok}
use Rattle.xn_model.specs.Types.{Types}
use Rattle.xn_model.specs.Languages.{Language}
use Rattle.xn_model.specs.Lives.{BlockState, on_disk, is_fresh, current, lowest_free, Life, StoreState, Lives, life_at, begun_at, freed, settled_at, drops_of}
use Rattle.xn_model.specs.Results.{Refusal, NoSpace, NotFresh, NotEmpty, TooManyPending, InFlight}
use Rattle.xn_model.specs.Calls.{Edit, accepts, install_of, started, catalogue_state, edited, new_life, init_at, init_refusal, init_of, propose_refusal, propose_at, propose_of, make_root_refusal, make_root_at, make_root_of, drop_root_refusal, drop_root_of, forget_at, forget_of, root_state, slot_now, is_untouched, owns_nothing, begun_of, begun_place, settled_of, settled_place, settled_after, settled_with, first_pending}
use Rattle.xn_model.specs.Rules.{IsConsistent, IsHeldOnDisk, ArePlaced}
use Rattle.xn_model.specs.Images.{block_of}
use Rattle.xn_model.specs.Mounts.{IsRecovered}
use Rattle.xn_model.specs.Lanes.{FitsLife, FitLives, HoldsBlock, HoldImage}
use Rattle.xn_model.proofs.Tests.{map_ok, given_ok, own_then, same_ok, never_ok, unless_ok, none_from}
use Rattle.xn_model.proofs.Init.{lowest_is}
use Rattle.xn_model.proofs.Install.{installed_is}
use Rattle.xn_model.proofs.Lists.{Contains-cons, Contains-none}
use Rattle.xn_model.proofs.Begin.{begun_alive}
use Rattle.xn_model.proofs.Ends.{settles_place}
use Rattle.xn_model.proofs.Lanes.{fit_begun, fit_settled, fit_new, fit_accepted, fit_freed}

pub lanes_begun : {L : Type 0} (read : L → List ℕ) (lanes : List (Option L)) (state new : StoreState) (b : ℕ) (given : List ℕ × ℕ) → begun_of state b ≡ Ok (given, new) → FitLives read lanes state.lives → FitLives read (slice_set lanes b None) new.lives
lanes_begun read lanes state new b given e z =
    let m = map_ok (λ (x : List ℕ × ℕ). (x, record state { lives = begun_at state.lives b x.1 })) (begun_place state.lives (slice_get state.lives b)) (given, new) e in
    let is : begun_at state.lives b m.0.1 ≡ new.lives = ap (λ (x : (List ℕ × ℕ) × StoreState). x.1.lives) m.2 in
    let r = begun_alive state.lives b (slice_get state.lives b) m.0 refl m.1 in
    subst (FitLives read (slice_set lanes b None)) is (fit_begun read lanes state.lives b m.0.1 r.0 r.1 z)

pub lanes_settled : (T : Types) {L : Type 0} (read : L → List ℕ) (lanes : List (Option L)) (state new : StoreState) (b : ℕ) (lane : L) (given : ℕ × ℕ) → IsConsistent T state → settled_of state b (read lane) ≡ Ok (given, new) →
    FitLives read lanes state.lives → FitLives read (slice_set lanes b (Some lane)) new.lives
lanes_settled T read lanes state new b lane given h e z =
    let m = map_ok (settled_after state b) (settled_place (read lane) (slice_get state.lives b)) (given, new) e in
    let s = settles_place state.lives b (read lane) (slice_get state.lives b) m.0 refl m.1 in
    let first : first_pending m.0 (life_at state.lives b) ≡ take m.0 s.life.pending = ap (first_pending m.0) s.alive in
    let is : freed (settled_at state.lives b m.0) (drops_of (take m.0 s.life.pending)) ≡ new.lives = ap (λ xs. (settled_with state b (drops_of xs) m.0).1.lives) (sym first) ∙ ap (λ (x : (ℕ × ℕ) × StoreState). x.1.lives) m.2 in
    subst (FitLives read (slice_set lanes b (Some lane))) is (fit_settled read T state h b m.0 lane s lanes z)

-- a block that is forgotten has no write begun
pub forgets : (T : Types) (state new : StoreState) (fs b : ℕ) (none : Unit {0}) → forget_of T state fs b ≡ Ok (none, new) →
    (freed state.lives (b ∷ []) ≡ new.lives) × ((c : ℕ) (m : Life) → Contains (b ∷ []) c → life_at state.lives c ≡ Some m → m.begun ≡ None)
forgets T state new fs b none done =
    let own = own_then state fs b (forget_at T state b) (none, new) done in
    let l : Life = own.0 in
    let u = unless_ok (
    (not (is_fresh l.status), NotFresh)
    ∷ (not (owns_nothing T l.ty (current l)), NotEmpty)
    ∷ (not (is_untouched l), TooManyPending)
    ∷ (is_some l.begun, InFlight)
    ∷ []) (Ok (tt, record state { lives = freed state.lives (b ∷ []) })) (none, new) own.2 in
    let idle : l.begun ≡ None = none_from l.begun u.0.1.1.1.0 in
    (ap (λ (x : Unit {0} × StoreState). x.1.lives) (same_ok (tt, record state { lives = freed state.lives (b ∷ []) }) (none, new) u.1), λ c m i e. only l own.1.alive idle c m i e)
  where
    only : (l : Life) → life_at state.lives b ≡ Some l → l.begun ≡ None → (c : ℕ) (m : Life) → Contains (b ∷ []) c → life_at state.lives c ≡ Some m → m.begun ≡ None
    only l alive idle c m i e = elim (Contains-cons b [] c i) [
      | inl same ↦ ap (λ (x : Life). x.begun) (same_Some m l (sym e ∙ (ap (life_at state.lives) (sym same) ∙ alive))) ∙ idle
      | inr out ↦ absurd (Contains-none c out)
    ]

module _ {L : Type 0} (read : L → List ℕ) (lanes : List (Option L)) where
  init_fits : (state new : StoreState) (fs t : ℕ) (bytes : List ℕ) (o : Option ℕ) (made : ℕ × ℕ) → lowest_free state.lives ≡ o → init_at state fs t bytes o ≡ Ok (made, new) → FitLives read lanes state.lives → FitLives read lanes new.lives
  init_fits state new fs t bytes None made at e z = absurd (never_ok NoSpace (made, new) e)
  init_fits state new fs t bytes (Some b) made at e z =
      let r = lowest_is state.lives b at in
      let is : slice_set state.lives b (Some (new_life state.next (Some fs) t bytes)) ≡ new.lives =
      ap (λ (x : (ℕ × ℕ) × StoreState). x.1.lives) (same_ok ((b, state.next), record { lives = slice_set state.lives b (Some (new_life state.next (Some fs) t bytes)); next = state.next + 1 }) (made, new) e) in
      subst (FitLives read lanes) is (fit_new read lanes state.lives b (new_life state.next (Some fs) t bytes) r.0 r.1 refl refl z)

  pub lanes_init : (T : Types) (state new : StoreState) (fs t : ℕ) (bytes : List ℕ) (made : ℕ × ℕ) → init_of T state fs t bytes ≡ Ok (made, new) → FitLives read lanes state.lives → FitLives read lanes new.lives
  lanes_init T state new fs t bytes made e z =
      init_fits state new fs t bytes (lowest_free state.lives) made refl (given_ok (init_refusal T state fs t bytes) (init_at state fs t bytes (lowest_free state.lives)) (made, new) e) z

  accepts_fits : (state new : StoreState) (b : ℕ) (s : BlockState) (entry : ℕ) → ◌≡◌ {A = Result (ℕ × StoreState) Refusal} (Ok (accepts state b s)) (Ok (entry, new)) → FitLives read lanes state.lives → FitLives read lanes new.lives
  accepts_fits state new b s entry e z = subst (FitLives read lanes) (ap (λ (x : ℕ × StoreState). x.1.lives) (same_ok (accepts state b s) (entry, new) e)) (fit_accepted read lanes state.lives b s z)

  pub lanes_install : (G : Language) (state new : StoreState) (bytes : List ℕ) (made : ℕ × ℕ × ℕ) → install_of G state bytes ≡ Ok (made, new) → FitLives read lanes state.lives → FitLives read lanes new.lives
  lanes_install G state new bytes made e z =
      let x = installed_is G state bytes made new e in
      let r = lowest_is state.lives x.block x.free in
      let begun = started state None 1 bytes x.block in
      subst (FitLives read lanes) (ap (λ (y : StoreState). y.lives) x.is)
      (fit_accepted read lanes begun.lives 0 (catalogue_state begun x.place x.block) (fit_new read lanes state.lives x.block (new_life state.next None 1 bytes) r.0 r.1 refl refl z))

  pub lanes_propose : (T : Types) (state new : StoreState) (fs b : ℕ) (e : Edit) (entry : ℕ) → propose_of T state fs b e ≡ Ok (entry, new) → FitLives read lanes state.lives → FitLives read lanes new.lives
  lanes_propose T state new fs b e entry done z =
      let own = own_then state fs b (propose_at T state fs b e) (entry, new) done in
      accepts_fits state new b (edited state.next fs e own.0) entry (given_ok (propose_refusal T state fs b e own.0) (Ok (accepts state b (edited state.next fs e own.0))) (entry, new) own.2) z

  pub lanes_make_root : (state new : StoreState) (fs b entry : ℕ) → make_root_of state fs b ≡ Ok (entry, new) → FitLives read lanes state.lives → FitLives read lanes new.lives
  lanes_make_root state new fs b entry done z =
      let own = own_then state fs b (make_root_at state fs b) (entry, new) done in
      let next = root_state state fs (b, own.0.ty) ((b, own.0.ty) ∷ []) [] in
      accepts_fits state new 0 next entry (given_ok (make_root_refusal state fs own.0) (Ok (accepts state 0 next)) (entry, new) own.2) z

  pub lanes_drop_root : (T : Types) (state new : StoreState) (fs entry : ℕ) → drop_root_of T state fs ≡ Ok (entry, new) → FitLives read lanes state.lives → FitLives read lanes new.lives
  lanes_drop_root T state new fs entry done z =
      let next = root_state state fs (0, 0) [] ((slot_now state fs).0 ∷ []) in
      accepts_fits state new 0 next entry (given_ok (drop_root_refusal T state fs) (Ok (accepts state 0 next)) (entry, new) done) z

  pub lanes_forget : (T : Types) (state new : StoreState) (fs b : ℕ) (none : Unit {0}) → forget_of T state fs b ≡ Ok (none, new) → FitLives read lanes state.lives → FitLives read lanes new.lives
  lanes_forget T state new fs b none done z = let r = forgets T state new fs b none done in subst (FitLives read lanes) r.0 (fit_freed read lanes state.lives (b ∷ []) r.1 z)

-- What lanes hold is placed, where the blocks of begun writes are

module _ {L : Type 0} (read : L → List ℕ) where
  lane_at : (lanes : List (Option L)) (lives : Lives) (c : ℕ) (l : Life) → FitLives read lanes lives → life_at lives c ≡ Some l → (x : Option L) × (slice_get lanes c ≡ Some x) × FitsLife read x (Some l)
  lane_at [] [] c l z e = absurd (none-some l e)
  lane_at [] (o ∷ os) c l z e = absurd z
  lane_at (x ∷ lanes) [] c l z e = absurd z
  lane_at (x ∷ lanes) (o ∷ os) zero l z e = (x, refl, subst (FitsLife read x) e z.0)
  lane_at (x ∷ lanes) (o ∷ os) (suc c) l z e = lane_at lanes os c l z.1 e

  durable_read : (o : Option BlockState) (lane : L) (s : BlockState) → o ≡ Some s → IfSome o (λ x. read lane ≡ x.bytes) → read lane ≡ s.bytes
  durable_read None lane s e h = absurd (none-some s e)
  durable_read (Some t) lane s e h = h ∙ ap (λ (x : BlockState). x.bytes) (same_Some t s e)

  pub lanes_placed : (lanes : List (Option L)) (lives : Lives) (content : ℕ → List ℕ) → FitLives read lanes lives →
      ((c : ℕ) (lane : L) → slice_get lanes c ≡ Some (Some lane) → content c ≡ read lane) →
      ((c : ℕ) (l : Life) (s : BlockState) → slice_get lanes c ≡ Some None → life_at lives c ≡ Some l → l.durable ≡ Some s → IsHeldOnDisk content c l s) → ArePlaced content lives
  lanes_placed lanes lives content z here away c l s e d = let r = lane_at lanes lives c l z e in go r.0 r.1 r.2
    where
      go : (x : Option L) → slice_get lanes c ≡ Some x → FitsLife read x (Some l) → IsHeldOnDisk content c l s
      go None at f = away c l s at e d
      go (Some lane) at f = inl (here c lane at ∙ durable_read l.durable lane s d f.1)

-- Lanes that read the blocks of an image fit the lives of its mount

module _ {L : Type 0} (read : L → List ℕ) where
  fits_found : (x : Option L) (o : Option Life) (m : List ℕ) → HoldsBlock read x m → ((l : Life) → o ≡ Some l → (l.begun ≡ None) × (l.durable ≡ Some (on_disk m))) → FitsLife read x o
  fits_found None o m h is = absurd h
  fits_found (Some lane) None m h is = tt
  fits_found (Some lane) (Some l) m h is = let r = is l refl in (r.0, subst (λ o. IfSome o (λ s. read lane ≡ s.bytes)) (sym r.1) h)

  fit_found : (lanes : List (Option L)) (image : List (List ℕ)) (lives : Lives) → length lives ≡ length image → HoldImage read lanes image →
      ((c : ℕ) (l : Life) → life_at lives c ≡ Some l → (l.begun ≡ None) × (l.durable ≡ Some (on_disk (block_of image c)))) → FitLives read lanes lives
  fit_found [] [] [] e h is = tt
  fit_found [] [] (o ∷ os) e h is = absurd (omega arith)
  fit_found [] (m ∷ image) lives e h is = absurd h
  fit_found (x ∷ lanes) [] lives e h is = absurd h
  fit_found (x ∷ lanes) (m ∷ image) [] e h is = absurd (omega arith)
  fit_found (x ∷ lanes) (m ∷ image) (o ∷ os) e h is = (fits_found x o m h.0 (is 0), fit_found lanes image os (omega arith) h.1 (λ c. is (suc c)))

  pub lanes_mounted : (lanes : List (Option L)) (T : Types) (image : List (List ℕ)) (lives : Lives) → IsRecovered T image lives → HoldImage read lanes image → FitLives read lanes lives
  lanes_mounted lanes T image lives r h = fit_found lanes image lives r.count h (λ c l e. let found = r.only c l e in (found.idle, found.durable))
