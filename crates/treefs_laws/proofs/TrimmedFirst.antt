-- What a call trims before its own edits: then all bytes past the size of the file are 0.
use Rattle.std.proofs.Common.{◌≡◌, ◌≢◌, ℕ, ◌<◌, ◌≤◌, Bool, true, false, List, Option, None, Some, Result, Ok, Err, refl, sym, ◌∙◌, ap, subst, if◌then◌else◌}
use Rattle.std.specs.Prelude.{MatchBool, MatchResult}
use Rattle.xn_model.specs.Types.{Types}
use Rattle.xn_model.specs.Lives.{StoreState}
use Rattle.treefs_format.specs.Leaves.{greatest_size}
use Rattle.treefs_format.specs.declared.kind.Kind.{Kind}
use Rattle.treefs_format.specs.declared.kind.Kind.TheVariants as kind
use Rattle.treefs_model.specs.Files.{and_then}
use Rattle.treefs_model.specs.Reading.{byte_of}
use Rattle.treefs_model.specs.declared.fault.Fault.{Fault}
use Rattle.treefs_model.specs.declared.fault.Fault.TheVariants.{TooLarge}
use Rattle.treefs_lookup.specs.Bytes.{file_end}
use Rattle.treefs_lookup.specs.Inodes.{file_found}
use Rattle.treefs_lookup.specs.Readable.{readable}
use Rattle.treefs_lookup.specs.Trimmed.{IsCut, IsTrimmed, IsTrimmedAs}
use Rattle.treefs_lookup.specs.declared.inodes.Found.{Found}
use Rattle.treefs_byte_plans.specs.Kept.{IsTrimSought, IsUntrimmed, kept_of}
use Rattle.treefs_byte_plans.specs.declared.kept.Kept.{Kept}
use Rattle.treefs.specs.Trimming.{TrimDoes, TrimsFirst}
use Rattle.treefs.specs.declared.volume.Volume.{Volume}
use Rattle.treefs_laws.specs.Open.{IsOpen}
use Rattle.treefs_laws.proofs.Planned.{same_done, then_ok}
use Rattle.treefs_laws.proofs.TrimOpen.{IsFileFound, found_file, trim_stays}
use Rattle.treefs_laws.proofs.TrimParts.{IsFileAt}
use Rattle.treefs_laws.proofs.TrimZeros.{cut_clears, trim_clears}

-- a file that is found, in a state of the store
pub file_here : (T : Types) (state : StoreState) (volume : Volume) (is_open : IsOpen T state volume) (n : ℕ) (x : Found)
    (f : IsFileFound T state volume is_open n x) → IsFileAt T volume.tree n f.is.number x.block x.fields.size x.kind f.no_directory state
file_here T state volume is_open n x f = record {
  here = record { store = is_open.kept.store; root = is_open.root; volume = is_open.kept.bytes };
  block = sym f.is.block;
  there = λ z. f.is.there (sym f.is.block ∙ z);
  size_is = ap (λ g. g.size) (sym f.is.fields);
  kind_is = f.is.kind;
}

-- all bytes past the size
abbrev pub AreZeros : Volume → StoreState → Found → Type 0
AreZeros volume s x = (p : ℕ) → x.fields.size ≤ p → p < greatest_size → byte_of (readable s volume.tree.fs.number) x.block p ≡ 0

module _ (T : Types) (old middle : StoreState) (volume : Volume) (open_before : IsOpen T old volume) (open_then : IsOpen T middle volume)
    (number : ℕ) where
  abbrev own : ℕ
  own = volume.tree.fs.number

  -- past: a test of what was told
  abbrev pub tested : Bool → StoreState → Result Found Fault
  tested past s = and_then (file_found (readable s own) volume.tree.top number) (λ file. if past then Err TooLarge else Ok file)

  chosen : (past : Bool) (x y : Found) → ◌≡◌ {A = Result Found Fault} (if past then Err TooLarge else Ok x) (Ok y) → x ≡ y
  chosen true x y e = absurd (cc e)
  chosen false x y e = same_done x y e

  tested_found : (past : Bool) (s : StoreState) (x : Found) → tested past s ≡ Ok x → file_found (readable s own) volume.tree.top number ≡ Ok x
  tested_found past s x is =
      let a = then_ok (file_found (readable s own) volume.tree.top number) (λ (file : Found). if past then Err TooLarge else Ok file) x is in
      a.1 ∙ ap Ok (chosen past a.0 x a.2)

  by_kind : (content : ℕ → List ℕ) (x : Found) (k : Kind) → k ≢ kind.Directory → IsTrimmedAs content x k → IsCut content x.block (file_end x.fields.size)
  by_kind content x kind.Directory other is = absurd (other refl)
  by_kind content x kind.File other is = is
  by_kind content x kind.SymbolicLink other is = is

  module _ (past : Bool) (x : Found) (x_is : tested past middle ≡ Ok x) where
    x_found : IsFileFound T middle volume open_then number x
    x_found = found_file T middle volume open_then number x (tested_found past middle x x_is)

    -- nothing was trimmed
    module _ (same : middle ≡ old) where
      found_before : tested past old ≡ Ok x
      found_before = sym (ap (tested past) same) ∙ x_is

      trimmed_zeros : (file : Found) → tested past old ≡ Ok file → IsTrimmed (readable old own) file → AreZeros volume middle x
      trimmed_zeros file is trimmed =
          let f = found_file T old volume open_before number file (tested_found past old file is) in
          let one : file ≡ x = same_done file x (sym is ∙ found_before) in
          subst (λ s. AreZeros volume s x) (sym same) (subst (AreZeros volume old) one
          (cut_clears (readable old own) file.block file.fields.size (by_kind (readable old own) file file.kind f.no_directory trimmed)))

    trim_zeros : (file : Found) → tested past old ≡ Ok file → TrimDoes T own volume.memory (kept_of file) old middle (Ok tt) → AreZeros volume middle x
    trim_zeros file is does =
        let f = found_file T old volume open_before number file (tested_found past old file is) in
        let at = file_here T old volume open_before number file f in
        let stay = trim_stays T volume.tree number f.is.number file.block file.fields.size file.kind f.no_directory volume.memory old middle (Ok tt)
        at does in
        let block : file.block ≡ x.block = sym stay.0.block ∙ sym x_found.is.block in
        let size : file.fields.size ≡ x.fields.size = sym stay.0.size_is ∙ ap (λ g. g.size) (sym x_found.is.fields) in
        let zeros = trim_clears T volume.tree number f.is.number file.block file.fields.size file.kind f.no_directory volume.memory old middle at does in
        λ p low high. subst (λ b. byte_of (readable middle own) b p ≡ 0) block (zeros p (subst (λ s. s ≤ p) (sym size) low) high)

    trims_none : (kept : Option Kept) → kept ≡ None → TrimsFirst T own volume.memory kept old middle (Ok tt) → middle ≡ old
    trims_none None none does = does.1
    trims_none (Some kept) none does = absurd (cc none)

    untrimmed : (file : Found) → tested past old ≡ Ok file → (kept : Option Kept) → IsUntrimmed (readable old own) file kept →
        TrimsFirst T own volume.memory kept old middle (Ok tt) → AreZeros volume middle x
    untrimmed file is None trimmed does = trimmed_zeros does.1 file is trimmed
    untrimmed file is (Some kept) found does = trim_zeros file is (subst (λ k. TrimDoes T own volume.memory k old middle (Ok tt)) found.1 does)

    module _ (asked : Found → Bool) (kept : Option Kept) (does : TrimsFirst T own volume.memory kept old middle (Ok tt)) (is_asked : asked x ≡ true) where
      pub sought_zeros : IsTrimSought (readable old own) (tested past old) asked kept → AreZeros volume middle x
      sought_zeros sought = by (tested past old) refl sought
        where
          of_file : (file : Found) → tested past old ≡ Ok file → (t : Bool) → asked file ≡ t → MatchBool t (IsUntrimmed (readable old own) file kept)
              (kept ≡ None) → AreZeros volume middle x
          of_file file is true e found = untrimmed file is kept found does
          of_file file is false e none =
              let same : file ≡ x = same_done file x (sym is ∙ found_before (trims_none kept none does)) in absurd (cc (sym e ∙ (ap asked same ∙ is_asked)))

          by : (r : Result Found Fault) → tested past old ≡ r →
              MatchResult r (λ file. MatchBool (asked file) (IsUntrimmed (readable old own) file kept) (kept ≡ None)) (λ fault. kept ≡ None) → AreZeros
              volume middle x
          by (Ok file) is found = of_file file is (asked file) refl found
          by (Err fault) is none = absurd (cc (sym is ∙ found_before (trims_none kept none does)))
