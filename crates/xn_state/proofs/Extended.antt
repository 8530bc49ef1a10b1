-- A state once a template is installed.
use Rattle.std.proofs.Common.{◌≡◌, ℕ, ◌+◌, ◌<◌, true, List, length, Option, Some, None, Ok, refl, sym, ◌∙◌, ap, arith, slice_set, subst}
use Rattle.std.specs.Prelude.{is_some}
use Rattle.std.proofs.lemmas.Option.{none-some, same_Some}
use Rattle.xn_model.specs.Types.{Types}
use Rattle.xn_model.specs.Languages.{Extends}
use Rattle.xn_model.specs.Root.{with_pointer}
use Rattle.xn_model.specs.Lives.{Life, StoreState, accepted_at, current, life_at, lowest_free}
use Rattle.xn_model.specs.Calls.{install_at, install_of, latest, life_bytes, root_now}
use Rattle.xn_model.specs.Rules.{IsConsistent, Installs}
use Rattle.xn_model.proofs.ForCallers.{install_keeps, installed_others, installed_own}
use Rattle.xn_model.proofs.ForCallers as model
use Rattle.udf_run.specs.declared.reads.ReadSet.{ReadSet}
use Rattle.templates.specs.Templates.{TemplateValue}
use Rattle.templates.specs.Tables.{TableValue}
use Rattle.templates.specs.Reading.{template_of_bytes}
use Rattle.templates.specs.Language.{language}
use Rattle.templates.specs.Decided.{DecidesOwned}
use Rattle.templates.proofs.ForCallers.{language_ok, put_types}
use Rattle.claims.specs.Decided.{AreDecided, newest_of}
use Rattle.claims.proofs.ForCallers.{accepted_decided, started_decided}
use Rattle.xn_state.specs.Installs.{install_places, installed_lives, naming}
use Rattle.xn_state.specs.States.{IsStateOf, own_types}
use Rattle.xn_state.proofs.Installing.{begun, root_stays}
use Rattle.xn_state.proofs.Planning.{block_is, good_template, place_is}

-- what decides the owned blocks of living blocks does so under more types
pub more_decided : (T more : Types) (sets : List (Option ReadSet)) (state : StoreState) → IsConsistent T state → Extends T more → AreDecided T sets state.lives → AreDecided more sets state.lives
more_decided T more sets state h grows d = record {
  long = d.long;
  each = λ b t m reads here kept. go b t m reads (d.each b t m reads here kept) (life_at state.lives b) refl here;
}
  where
    go : (b t : ℕ) (m : List ℕ) (reads : ReadSet) → DecidesOwned T t m reads.chunks → (o : Option Life) → life_at state.lives b ≡ o → newest_of o ≡ Some (t, m) → DecidesOwned more t m reads.chunks
    go b t m reads decides None e here = absurd (none-some (t, m) here)
    go b t m reads decides (Some l) e here =
        let same = ap (λ (p : ℕ × List ℕ). p.0) (same_Some (l.ty, current l) (t, m) here) in
        let owned : more.owned t ≡ T.owned t = subst (λ u. more.owned u ≡ T.owned u) same (grows.owned l.ty (h.linked b l e).installed) in
        λ other is agree. (λ i. owned i other) ∙ (decides other is agree ∙ sym (λ i. owned i m))

module _ (state : StoreState) (rules : IsConsistent (own_types state) state) (m : List ℕ) (whole : length m ≡ 512) (p : ℕ × ℕ) (places : install_places state ≡ Ok p) (template : TemplateValue) (read : template_of_bytes m ≡ Ok template) where
  abbrev new : StoreState
  new = install_at state m p.0 p.1

  pub done : install_of language state m ≡ Ok ((3 + p.0, p.1, state.next), new)
  done = good_template state m p places (ap is_some (language_ok m template read))

  free : lowest_free state.lives ≡ Some p.1
  free = block_is state m p places

  few : p.0 < 16
  few = (model.place_is (root_now state) p.0 (place_is state m p places)).0

  alive : is_some (life_at state.lives 0) ≡ true
  alive = ap is_some rules.lives_sound.root.alive

  -- the lives that the code leaves
  pub left : record { lives = installed_lives state.lives p.1 state.next m (with_pointer (root_now state) p.0 p.1); next = state.next + 2 } ≡ new
  left =
      let root = ap life_bytes (root_stays state.lives p.1 state.next m free alive) in
      let next : state.next + 2 ≡ state.next + 1 + 1 = omega arith in
      λ i. record { lives = accepted_at (begun state.lives p.1 state.next m free) 0 (naming (state.next + 1) p.1 (with_pointer (sym root i) p.0 p.1)); next = next i }

  installs : Installs language state new
  installs = install_keeps language state rules m whole (3 + p.0, p.1, state.next) new done

  pub is_state : (table : TableValue) (sets : List (Option ReadSet)) → length table ≡ 16 → IsStateOf table sets state →
      IsStateOf (slice_set table p.0 (Some template)) (slice_set (slice_set sets p.1 None) 0 None) new
  is_state table sets long is =
      let T = own_types new in
      let lives = begun state.lives p.1 state.next m free in
      let kept = more_decided (own_types state) T sets state rules installs.types is.decided in
      let started = started_decided T sets state.lives p.1 state.next None 1 m kept in
      let root = with_pointer (root_now state) p.0 p.1 in
      let accepted = accepted_decided T (slice_set sets p.1 None) lives 0 (naming (state.next + 1) p.1 root) None started (λ l reads e none. absurd (none-some reads none)) in
      record {
        rules = installs.consistent;
        decided = subst (λ (s : StoreState). AreDecided T (slice_set (slice_set sets p.1 None) 0 None) s.lives) left accepted;
        own = put_types table (latest state.lives) (latest new.lives) p.0 template long few is.own
            (installed_own language state rules m whole (3 + p.0, p.1, state.next) new done ∙ language_ok m template read)
            (λ u ne. installed_others language state rules m whole (3 + p.0, p.1, state.next) new done u ne);
      }
