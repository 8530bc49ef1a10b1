-- One name at most is counted of a directory.
use Rattle.std.proofs.Common.{◌≡◌, ℕ, zero, suc, ◌+◌, ◌≤◌, Bool, true, false, List, [], ◌∷◌, Option, None, Some, inl, inr, refl, sym, subst, ap, ◌∙◌, arith}
use Rattle.std.specs.Prelude.{◌==◌, ◌||◌, fold, nat_lt, slice_get}
use Rattle.std.specs.Option.{option_map_or}
use Rattle.std.proofs.lemmas.Bool.{cases_eq, eqb-false, ltb-false}
use Rattle.treefs_format.specs.declared.kind.Kind.{Kind}
use Rattle.treefs_format.specs.declared.kind.Kind.TheVariants as kind
use Rattle.treefs_lookup.specs.Inodes.{inode_found}
use Rattle.treefs_lookup.specs.declared.inodes.Found.{Found}
use Rattle.treefs_mending.specs.Names.{Name, live_names}
use Rattle.treefs_mending.specs.Surveys.{Directory, IsDirectoryAt, Survey, first_survey, inode_count, lead_at, lead_by, lead_of, met, met_as, survey_of, visited, walked}
use Rattle.treefs_mending.specs.Tallies.{Tally, is_found, tally_at, with_name}
use Rattle.treefs_mending.specs.declared.lead.Lead.{Lead}
use Rattle.treefs_mending.specs.declared.lead.Lead.TheVariants.{Surplus, NewDirectory, File}
use Rattle.treefs_mending.proofs.Counted.{tally_here, tally_others}
use Rattle.treefs_mending.proofs.Whole.{lead_new}

or_parts : (a b : Bool) → (a || b) ≡ false → (a ≡ false) × (b ≡ false)
or_parts true b is = absurd (cc is)
or_parts false b is = (refl, is)

not_file : (inode : Found) (f : Bool) → lead_by inode kind.Directory f ≡ File → ⊥
not_file inode true is = cc
not_file inode false is = cc

module _ (content : ℕ → List ℕ) (top : ℕ) where
  -- no name that leads to a directory leads to a file
  no_file : (n : ℕ) (f : Bool) → IsDirectoryAt content top n → lead_of (inode_found content top n) f ≡ File → ⊥
  no_file n f directory is =
      not_file directory.0 f (sym (ap (λ r. lead_of r f) directory.1 ∙ ap (λ (k : Kind). lead_by directory.0 k f) directory.2) ∙ is)

  pub record IsSingle (tallies : List Tally) : Type 0 where
    pub few : (n : ℕ) → IsDirectoryAt content top n → (tally_at tallies n).names ≤ 1
    pub none : (n : ℕ) → n ≡ 1 → IsDirectoryAt content top n → (tally_at tallies n).names ≡ 0

  -- a name of a number, of which none was counted where it is a directory's
  single_counted : (tallies : List Tally) (m d : ℕ) → IsSingle tallies → (IsDirectoryAt content top m → ((tally_at tallies m).names ≡ 0) × (m ≡ 1 → ⊥)) →
      IsSingle (with_name tallies m d)
  single_counted tallies m d single new = record {
    few = λ n directory. elim (cases_eq n m) [
      | inl same ↦
          let here : IsDirectoryAt content top m = let P : ℕ → Type 0 = IsDirectoryAt content top in subst P same directory in
          let first : (tally_at tallies m).names ≡ 0 = (new here).0 in
          let counted = ap (λ (t : Tally). t.names) (tally_here tallies m d) in
          let moved : (tally_at (with_name tallies m d) n).names ≡ (tally_at (with_name tallies m d) m).names =
          ap (λ (x : ℕ). (tally_at (with_name tallies m d) x).names) same in
          omega (arith, moved, counted, first)
      | inr other ↦
          let kept = ap (λ (t : Tally). t.names) (tally_others tallies m d n other) in
          let old = single.few n directory in
          omega (arith, kept, old)
    ];
    none = λ n one directory. elim (cases_eq n m) [
      | inl same ↦
          let here : IsDirectoryAt content top m = let P : ℕ → Type 0 = IsDirectoryAt content top in subst P same directory in
          absurd ((new here).1 (sym same ∙ one))
      | inr other ↦ ap (λ (t : Tally). t.names) (tally_others tallies m d n other) ∙ single.none n one directory
    ];
  }

  not_found : (tallies : List Tally) (n : ℕ) → is_found tallies n ≡ false → ((tally_at tallies n).names ≡ 0) × (n ≡ 1 → ⊥)
  not_found tallies n is =
      let parts = or_parts (n == 1) (nat_lt 0 (tally_at tallies n).names) is in
      let none : (tally_at tallies n).names ≤ 0 = ltb-false 0 (tally_at tallies n).names parts.1 in
      (omega (arith, none), eqb-false n 1 parts.0)

  single_as : (d : ℕ) (s : Survey) (name : Name) → IsSingle s.tallies → (lead : Lead) → lead_at content top s.tallies name.number ≡ lead →
      IsSingle (met_as lead d s name).tallies
  single_as d s name single Surplus is = single
  single_as d s name single (NewDirectory block) is =
      single_counted s.tallies name.number d single
      (λ _. not_found s.tallies name.number (lead_new (inode_found content top name.number) (is_found s.tallies name.number) block is))
  single_as d s name single File is =
      single_counted s.tallies name.number d single (λ directory. absurd (no_file name.number (is_found s.tallies name.number) directory is))

  single_names : (d : ℕ) (names : List Name) (s : Survey) → IsSingle s.tallies → IsSingle (fold (met content top d) s names).tallies
  single_names d [] s single = single
  single_names d (name ∷ names) s single =
      single_names d names (met content top d s name) (single_as d s name single (lead_at content top s.tallies name.number) refl)

  single_step : (left place : ℕ) (s : Survey) (o : Option Directory) →
      ((next : Survey) → IsSingle next.tallies → IsSingle (walked content top left (place + 1) next).tallies) → IsSingle s.tallies →
      IsSingle (option_map_or (λ directory. walked content top left (place + 1) (visited content top s directory)) o s).tallies
  single_step left place s None rest single = single
  single_step left place s (Some directory) rest single =
      rest (visited content top s directory) (single_names directory.number (live_names content directory.block) s single)

  single_walked : (left place : ℕ) (s : Survey) → IsSingle s.tallies → IsSingle (walked content top left place s).tallies
  single_walked zero place s single = single
  single_walked (suc left) place s single =
      single_step left place s (slice_get s.directories place) (λ next good. single_walked left (place + 1) next good) single

  pub single_survey : IsSingle (survey_of content top).tallies
  single_survey =
      single_walked inode_count 0 (first_survey content top) (record { few = λ n directory. omega arith; none = λ n one directory. refl })
