-- What an installation leaves of the types.
use Rattle.std.proofs.Common.{◌∙◌, ◌≡◌, ℕ, ◌+◌, ◌<◌, Bool, true, false, cond, ◌&&◌, List, length, Some, Result, Ok, Err, refl, sym, ap, subst, inl, inr, is_some}
use Rattle.store_types.specs.declared.refusal.Refusal.{Refusal}
use Rattle.xn_model.specs.Languages.{Extends, language_template, types_in, owned_by_template, size_by_template}
use Rattle.xn_model.specs.Lives.{StoreState}
use Rattle.xn_model.specs.Calls.{install_of, latest}
use Rattle.xn_model.specs.Worlds.{World, Install, Reply, Installed, Down, Step, reply_and_world}
use Rattle.xn_model.specs.Rules.{Holds}
use Rattle.xn_model.proofs.ForCallers.{installed_own, types_grow}
use Rattle.ffs_model.specs.Volumes.{HasNoRoot}
use Rattle.ffs_model.proofs.ForCallers.{event_cuts, rootless_from}
use Rattle.templates.specs.Language.{language, meaning_of}
use Rattle.templates.specs.Reading.{template_of_bytes}
use Rattle.templates.specs.Templates.{TemplateValue}
use Rattle.templates.proofs.ForCallers.{language_ok}
use Rattle.xn_state.specs.States.{own_types}
use Rattle.world.specs.Worlds.{WorldValue, world_with}
use Rattle.templates.specs.Tables.{HasTemplate}
use Rattle.volume_pair.specs.LibraryTypes.{IsInstalledAt}

record IsDone (w w' : World) (m : List ℕ) (i : ℕ) : Type 0 where
  pub made : ℕ × ℕ × ℕ
  pub new : StoreState
  pub is : install_of w.language w.state m ≡ Ok (made, new)
  pub type : made.0 ≡ 3 + i
  pub after : w'.state ≡ new

done : (w w' : World) (m : List ℕ) (r : Reply) (i : ℕ) → Step w (Install m) r w' → IsInstalledAt r i → IsDone w w' m i
done w w' m r i s told = elim s [
  | inl given ↦ go w.down (install_of w.language w.state m) refl given.0 given.1
  | inr refused ↦ absurd (subst (λ x. IsInstalledAt x i) refused.1.1.1.0 told)
]
  where
    tell : ℕ × ℕ × ℕ → Reply
    tell made = Installed made.0 made.1 made.2 (made.2 + 1)

    go : (d : Bool) (x : Result ((ℕ × ℕ × ℕ) × StoreState) Refusal) → install_of w.language w.state m ≡ x →
        r ≡ (cond {A = Reply × World} (d && true) (Down, w) (reply_and_world tell w x)).0 → w' ≡ (cond {A = Reply × World} (d && true) (Down, w) (reply_and_world tell w x)).1 → IsDone w w' m i
    go true x e a b = absurd (subst (λ y. IsInstalledAt y i) a told)
    go false (Ok g) e a b = record { made = g.0; new = g.1; is = e; type = subst (λ y. IsInstalledAt y i) a told; after = ap (λ (x : World). x.state) b }
    go false (Err f) e a b = absurd (subst (λ y. IsInstalledAt y i) a told)

says : (content : ℕ → List ℕ) (ty : ℕ) (t : TemplateValue) → language_template language content ty ≡ Some (meaning_of t) → HasTemplate (types_in language content) ty t
unfolding types_in
says content ty t e = record { installed = ap is_some e; owned = λ m. ap (λ o. owned_by_template o m) e; size = λ m. ap (λ o. size_by_template o m) e }

module _ (old new : WorldValue) (m : List ℕ) (whole : length m ≡ 512) (r : Reply) (h : Holds (world_with old)) (s : Step (world_with old) (Install m) r (world_with new)) where
  pub types_more : Extends (own_types old.state) (own_types new.state)
  types_more = types_grow (world_with old) (Install m) r (world_with new) whole refl h s

  pub rootless_still : (fs : ℕ) → fs < 32 → HasNoRoot old.state.lives fs → HasNoRoot new.state.lives fs
  rootless_still fs few none = rootless_from fs old.state.lives new.state.lives (event_cuts fs (world_with old) (Install m) r (world_with new) whole h s tt).0 none

  pub type_says : (t : TemplateValue) (i : ℕ) → template_of_bytes m ≡ Ok t → IsInstalledAt r i → HasTemplate (own_types new.state) (3 + i) t
  type_says t i read told =
      let d = done (world_with old) (world_with new) m r i s told in
      let made : language_template language (latest new.state.lives) (3 + i) ≡ language m =
      subst (λ u. language_template language (latest new.state.lives) u ≡ language m) d.type
      (subst (λ (x : StoreState). language_template language (latest x.lives) d.made.0 ≡ language m) (sym d.after) (installed_own language old.state h.state m whole d.made d.new d.is)) in
      says (latest new.state.lives) (3 + i) t (made ∙ language_ok m t read)
