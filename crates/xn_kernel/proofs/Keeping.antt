-- Each call leaves a kernel.
use Rattle.std.proofs.Common.{◌≡◌, ℕ, zero, suc, ◌<◌, List, [], ◌∷◌, Option, Some, None, Result, Ok, refl, sym, subst, slice_get, slice_set, length}
use Rattle.std.proofs.lemmas.Option.{slice_get_within, same_Some, none-some}
use Rattle.disk.specs.Lanes.{AreSynced, LeavesOnly}
use Rattle.store_types.specs.declared.refusal.Refusal.{Refusal}
use Rattle.xn_model.specs.Lives.{StoreState, begun_at}
use Rattle.xn_model.specs.Results.{Gives, GivesExactly, result_map}
use Rattle.xn_model.specs.Calls.{Edit, init_of, propose_of, make_root_of, drop_root_of, forget_of, install_of, begun_of, begun_place, settled_of}
use Rattle.xn_model.specs.Rules.{IsConsistent, Keeps}
use Rattle.templates.specs.Language.{language}
use Rattle.xn_state.specs.States.{own_types}
use Rattle.xn_model.proofs.ForCallers.{gives_keeps, gives_exactly_keeps, gives_exactly-ok, gives_exactly-err, map_ok, init_keeps, propose_keeps, make_root_keeps, drop_root_keeps, forget_keeps, install_keeps, begun_keeps, settled_keeps}
use Rattle.xn_model.proofs.ForCallers as lemmas
use Rattle.xn_kernel.specs.Kernels.{IsKernel}
use Rattle.xn_kernel.proofs.Homes.{home, begun_idle}

-- lanes hold no write, where none comes that does
pub synced_set : {L : Type 0} (read : L → List ℕ) (crash : L → List ℕ → Type 0) (lanes : List (Option L)) (b : ℕ) (o : Option L) → AreSynced read crash lanes →
    ((lane : L) → o ≡ Some lane → LeavesOnly (read lane) (crash lane)) → AreSynced read crash (slice_set lanes b o)
synced_set read crash [] b o z here k lane at = z k lane at
synced_set read crash (x ∷ xs) zero o z here zero lane at = here lane (same_Some o (Some lane) at)
synced_set read crash (x ∷ xs) zero o z here (suc k) lane at = z (suc k) lane at
synced_set read crash (x ∷ xs) (suc b) o z here zero lane at = z 0 lane at
synced_set read crash (x ∷ xs) (suc b) o z here (suc k) lane at = synced_set read crash xs b o (λ j. z (suc j)) here k lane at

-- the rules hold under the types that a state has after a call, which are those before it
pub own_rules : (old new : StoreState) → Keeps (own_types old) old new → IsConsistent (own_types new) new
own_rules old new k = subst (λ T. IsConsistent T new) (sym (k.types language)) k.consistent

module _ {L : Type 0} (read : L → List ℕ) (crash : L → List ℕ → Type 0) (lanes : List (Option L)) (old new : StoreState) (is : IsKernel read crash lanes old) where
  pub init_leaves : (fs ty : ℕ) (bytes : List ℕ) (result : Result (ℕ × ℕ) Refusal) → Gives (init_of (own_types old) old fs ty bytes) old new result → IsKernel read crash lanes new
  init_leaves fs ty bytes result h = gives_keeps (IsKernel read crash lanes) (init_of (own_types old) old fs ty bytes) old new result h is
      (λ made e. record { rules = own_rules old new (init_keeps (own_types old) old is.rules fs ty bytes made new e); fit = lemmas.lanes_init read lanes (own_types old) old new fs ty bytes made e is.fit; synced = is.synced })

  pub make_root_leaves : (fs b : ℕ) (result : Result ℕ Refusal) → fs < 32 → Gives (make_root_of old fs b) old new result → IsKernel read crash lanes new
  make_root_leaves fs b result few h = gives_keeps (IsKernel read crash lanes) (make_root_of old fs b) old new result h is
      (λ entry e. record { rules = own_rules old new (make_root_keeps (own_types old) old is.rules fs few b entry new e); fit = lemmas.lanes_make_root read lanes old new fs b entry e is.fit; synced = is.synced })

  pub propose_leaves : (fs b : ℕ) (edit : Edit) (result : Result ℕ Refusal) → Gives (propose_of (own_types old) old fs b edit) old new result → IsKernel read crash lanes new
  propose_leaves fs b edit result h = gives_keeps (IsKernel read crash lanes) (propose_of (own_types old) old fs b edit) old new result h is
      (λ entry e. record { rules = own_rules old new (propose_keeps (own_types old) old is.rules fs b edit entry new e); fit = lemmas.lanes_propose read lanes (own_types old) old new fs b edit entry e is.fit; synced = is.synced })

  pub drop_root_leaves : (fs : ℕ) (result : Result ℕ Refusal) → fs < 32 → Gives (drop_root_of (own_types old) old fs) old new result → IsKernel read crash lanes new
  drop_root_leaves fs result few h = gives_keeps (IsKernel read crash lanes) (drop_root_of (own_types old) old fs) old new result h is
      (λ entry e. record { rules = own_rules old new (drop_root_keeps (own_types old) old is.rules fs few entry new e); fit = lemmas.lanes_drop_root read lanes (own_types old) old new fs entry e is.fit; synced = is.synced })

  pub forget_leaves : (fs b : ℕ) (result : Result (Unit {0}) Refusal) → GivesExactly (forget_of (own_types old) old fs b) old new result → IsKernel read crash lanes new
  forget_leaves fs b result h = gives_exactly_keeps (IsKernel read crash lanes) (forget_of (own_types old) old fs b) old new result h is
      (λ done e. record { rules = own_rules old new (forget_keeps (own_types old) old is.rules fs b done new e); fit = lemmas.lanes_forget read lanes (own_types old) old new fs b done e is.fit; synced = is.synced })

  pub install_leaves : (bytes : List ℕ) (result : Result (ℕ × ℕ × ℕ) Refusal) → length bytes ≡ 512 → Gives (install_of language old bytes) old new result → IsKernel read crash lanes new
  install_leaves bytes result whole h = gives_keeps (IsKernel read crash lanes) (install_of language old bytes) old new result h is
      (λ made e. record { rules = (install_keeps language old is.rules bytes whole made new e).consistent; fit = lemmas.lanes_install read lanes language old new bytes made e is.fit; synced = is.synced })

  pub begun_so : (b : ℕ) (given : List ℕ × ℕ) → begun_of old b ≡ Ok (given, new) → IsKernel read crash (slice_set lanes b None) new
  begun_so b given e = record {
    rules = own_rules old new (begun_keeps (own_types old) old is.rules b given new e);
    fit = lemmas.lanes_begun read lanes old new b given e is.fit;
    synced = synced_set read crash lanes b None is.synced (λ lane none. absurd (none-some lane none));
  }

  pub settled_leaves : (b : ℕ) (here : L) (bytes : List ℕ) (done : ℕ × ℕ) → bytes ≡ read here → LeavesOnly (read here) (crash here) → GivesExactly (settled_of old b bytes) old new (Ok done) → IsKernel read crash (slice_set lanes b (Some here)) new
  settled_leaves b here bytes done read_is rests h =
      let e = gives_exactly-ok (settled_of old b bytes) old new done h in
      let there = subst (λ m. settled_of old b m ≡ Ok (done, new)) read_is e in
      let kept = settled_keeps (own_types old) old is.rules b bytes done new e in
      record {
        rules = subst (λ T. IsConsistent T new) (sym (kept.2 language)) kept.0;
        fit = lemmas.lanes_settled (own_types old) read lanes old new b here done is.rules there is.fit;
        synced = synced_set read crash lanes b (Some here) is.synced (λ lane at. subst (λ l. LeavesOnly (read l) (crash l)) (same_Some here lane at) rests);
      }

  -- the lane of a write that may begin is at home
  pub begun_home : (b count : ℕ) → Ok count ≡ result_map (λ (begun : (List ℕ × ℕ) × StoreState). begun.0.1) (begun_of old b) → (here : L) × (slice_get lanes b ≡ Some (Some here)) × (b < length lanes)
  begun_home b count e =
      let begun = map_ok (λ (x : (List ℕ × ℕ) × StoreState). x.0.1) (begun_of old b) count (sym e) in
      let m = map_ok (λ (x : List ℕ × ℕ). (x, record old { lives = begun_at old.lives b x.1 })) (begun_place old.lives (slice_get old.lives b)) begun.0 begun.1 in
      let life = begun_idle old.lives b (slice_get old.lives b) m.0 refl m.1 in
      let here = home read lanes old.lives b life.0 is.fit life.1 life.2 in
      (here.0, here.1, slice_get_within lanes b (Some here.0) here.1)
