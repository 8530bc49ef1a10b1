-- An inode that has no number is given up: no file changes.
use Rattle.std.proofs.Common.{◌≡◌, ◌≢◌, ℕ, None, Result, Ok, Err, refl, sym, ◌∙◌, ap, inl, inr, subst}
use Rattle.std.specs.Prelude.{All, Bool, MatchResult, true}
use Rattle.store_types.specs.declared.refusal.Refusal.{Refusal}
use Rattle.xn_model.specs.Calls.{forget_of}
use Rattle.xn_model.specs.Lives.{StoreState}
use Rattle.xn_model.specs.Results.{GivesExactly}
use Rattle.xn_model.specs.Types.{Types}
use Rattle.xn_model.proofs.ForCallers.{gives_exactly_keeps}
use Rattle.treefs_format.specs.Fields.{fields_of}
use Rattle.treefs_format.specs.declared.fields.Fields.{Fields}
use Rattle.treefs_lookup.specs.Readable.{readable}
use Rattle.treefs_model.specs.Files.{Files}
use Rattle.treefs_model.specs.Reading.{files_of}
use Rattle.treefs_model.specs.declared.fault.Fault.{Fault}
use Rattle.treefs.specs.Trimming.{GiveUpDoes, TrimDoes, kept_nothing}
use Rattle.treefs.specs.declared.volume.Volume.{Volume}
use Rattle.treefs_values.specs.Kinds.{kinds}
use Rattle.treefs_values.specs.Ways.{block_numbered}
use Rattle.treefs_values.proofs.ForCallers.{IsAt}
use Rattle.treefs_laws.specs.Kept.{files_in}
use Rattle.treefs_laws.specs.Open.{IsOpen}
use Rattle.treefs_laws.specs.Seen.{seen_files}
use Rattle.treefs_laws.specs.Unnamed.{IsUnnamed}
use Rattle.treefs_laws.proofs.AsideVolume.{aside_unnamed, unnamed_aside}
use Rattle.treefs_laws.proofs.Emptied.{IsInodeAt, Leaves, empties}
use Rattle.treefs_laws.proofs.Forgotten.{forgot_at, forgot_files}
use Rattle.treefs_laws.proofs.PointersGone.{IsRoot, IsUnled}
use Rattle.treefs_laws.proofs.WaysApart.{numbered_led}
use mathlib.Core.Path.{fun_ext}

module _ (T : Types) (old : StoreState) (volume : Volume) (is_open : IsOpen T old volume) (c : ℕ) (unnamed : IsUnnamed old volume c) where
  abbrev fs : ℕ
  fs = volume.tree.fs.number

  abbrev top : ℕ
  top = volume.tree.top

  abbrev fields : Fields
  fields = fields_of (readable old fs c)

  abbrev InodeAt : StoreState → Type 0
  InodeAt s = IsInodeAt T volume.tree c fields s

  -- nothing points to it still
  abbrev Unled : StoreState → Type 0
  Unled s = IsUnled volume.tree.node_type volume.tree.inode_type (kinds s fs) (readable s fs) c

  at : InodeAt old
  at = record {
    here = record { store = is_open.kept.store; root = is_open.root; volume = is_open.kept.bytes };
    there = unnamed.there;
    no_table = λ is. unnamed.no_root (sym is);
    is_block = record { typed = unnamed.typed; nodes = unnamed.nodes };
    stands = inr ((λ is. unnamed.no_root (sym is)), unnamed.unled);
    fields_are = refl;
  }

  -- it has no number
  other : (m : ℕ) → block_numbered (readable old fs) top m ≢ c
  other m = numbered_led volume.tree.node_type volume.tree.inode_type top (kinds old fs) (readable old fs) is_open.kept.bytes c unnamed.there
      (λ is. unnamed.no_root (sym is)) unnamed.unled m

  abbrev pub Said : StoreState → Type 0
  Said new = IsOpen T new volume × (files_in new volume ≡ files_in old volume)

  said : (new : StoreState) → IsAt T fs volume.tree.node_type volume.tree.inode_type top new →
      files_of (readable new fs) top ≡ files_of (readable old fs) top → Said new
  said new here files =
      let same : files_in new volume ≡ files_in old volume = ap (seen_files volume.memory.touched) files in (
        record {
          kept = record { store = here.store; bytes = here.volume; session = is_open.kept.session };
          few = is_open.few;
          tree = is_open.tree;
          short = is_open.short;
          root = here.root;
          touched = subst (λ (g : Files). All (λ touch. g touch.number ≢ None) volume.memory.touched) (sym same) is_open.touched;
        },
        same,
      )

  module _ (new : StoreState) (result : Result (Unit {0}) Fault) (does : TrimDoes T volume.tree.fs.number volume.memory (kept_nothing c) old new result) where
    leaves : Leaves T volume.tree c fields old new
    leaves = empties T volume.tree c fields volume.memory old new result at does

    files_same : files_of (readable new fs) top ≡ files_of (readable old fs) top
    files_same = fun_ext (λ m. leaves.others m (other m))

    still_unled : Unled new
    still_unled = by leaves.at.stands
      where
        by : IsRoot volume.tree.node_type volume.tree.inode_type (kinds new fs) (readable new fs) top c → Unled new
        by (inl (n, is)) = absurd (other n (sym (is ∙ leaves.numbers n)))
        by (inr (no_root, unled)) = unled

    left_unnamed : IsUnnamed new volume c
    left_unnamed = aside_unnamed new volume c (leaves.beside c (unnamed_aside T old volume c is_open unnamed))

  given_up : (new : StoreState) (result : Result Bool Fault) → GiveUpDoes T old new volume c result → Said new
  given_up new result (inl failed) = by result failed
    where
      by : (r : Result Bool Fault) → MatchResult r (λ done. ⊥) (λ fault. TrimDoes T fs volume.memory (kept_nothing c) old new (Err fault)) → Said new
      by (Ok done) none = absurd none
      by (Err fault) does = said new (leaves new (Err fault) does).at.here (files_same new (Err fault) does)
  given_up new result (inr (middle, forgot, does, gives, is)) =
      gives_exactly_keeps Said (forget_of T middle fs c) middle new forgot gives
      (said middle here (files_same middle (Ok tt) does))
      (λ answer done. said new
      (forgot_at T fs volume.tree.node_type volume.tree.inode_type top c middle new here unnamed.there at.no_table (still_unled middle (Ok tt) does) done)
      (forgot_files T fs volume.tree.node_type volume.tree.inode_type top c middle new here unnamed.there at.no_table (still_unled middle (Ok tt) does) done
      ∙ files_same middle (Ok tt) does))
    where
      here : IsAt T fs volume.tree.node_type volume.tree.inode_type top middle
      here = (leaves middle (Ok tt) does).at.here

  -- it has no number where it isn't free
  still_unnamed : (new : StoreState) (result : Result Bool Fault) → GiveUpDoes T old new volume c result → result ≢ Ok true → IsUnnamed new volume c
  still_unnamed new result (inl failed) not_free = by result failed
    where
      by : (r : Result Bool Fault) → MatchResult r (λ done. ⊥) (λ fault. TrimDoes T fs volume.memory (kept_nothing c) old new (Err fault)) →
          IsUnnamed new volume c
      by (Ok done) none = absurd none
      by (Err fault) does = left_unnamed new (Err fault) does
  still_unnamed new result (inr (middle, Ok tt, does, gives, is)) not_free = absurd (not_free is)
  still_unnamed new result (inr (middle, Err reason, does, gives, is)) not_free =
      subst (λ s. IsUnnamed s volume c) (sym (kept_by (forget_of T middle fs c) gives)) (left_unnamed middle (Ok tt) does)
    where
      kept_by : (r : Result (Unit {0} × StoreState) Refusal) → GivesExactly r middle new (Err reason) → new ≡ middle
      kept_by (Ok made) gives = absurd (cc gives.0)
      kept_by (Err other) gives = gives.1

  pub given_said : (new : StoreState) (result : Result Bool Fault) → GiveUpDoes T old new volume c result →
      IsOpen T new volume × (files_in new volume ≡ files_in old volume) × (result ≢ Ok true → IsUnnamed new volume c)
  given_said new result does = let said = given_up new result does in (said.0, said.1, still_unnamed new result does)
