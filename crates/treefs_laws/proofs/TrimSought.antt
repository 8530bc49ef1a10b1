-- What calls trim before their own edits is of a file.
use Rattle.std.proofs.Common.{◌≡◌, ℕ, Bool, true, false, List, Option, None, Some, Result, Ok, Err, refl, sym, subst, if◌then◌else◌}
use Rattle.std.specs.Prelude.{MatchBool, nat_le, nat_lt}
use Rattle.xn_model.specs.Lives.{StoreState}
use Rattle.treefs_format.specs.Leaves.{greatest_size}
use Rattle.treefs_model.specs.declared.fault.Fault.{Fault}
use Rattle.treefs_model.specs.declared.fault.Fault.TheVariants.{TooLarge}
use Rattle.treefs_lookup.specs.Inodes.{file_found}
use Rattle.treefs_lookup.specs.Readable.{readable}
use Rattle.treefs_lookup.specs.declared.inodes.Found.{Found}
use Rattle.treefs_byte_plans.specs.Kept.{IsTrimSought, IsUntrimmed}
use Rattle.treefs_byte_plans.specs.Sizes.{IsTrimToTruncate, truncated_file}
use Rattle.treefs_byte_plans.specs.Writes.{IsTrimToWrite, raises, written_file}
use Rattle.treefs_byte_plans.specs.declared.kept.Kept.{Kept}
use Rattle.treefs.specs.declared.volume.Volume.{Volume}
use Rattle.treefs_laws.specs.Trimmed.{AreKeptOf}
use Rattle.treefs_laws.proofs.Planned.{same_done, then_ok}

module _ (state : StoreState) (volume : Volume) (number : ℕ) where
  abbrev content : ℕ → List ℕ
  content = readable state volume.tree.fs.number

  untrimmed : (file : Found) → file_found content volume.tree.top number ≡ Ok file → (kept : Option Kept) → IsUntrimmed content file kept → AreKeptOf state volume kept
  untrimmed file is None none = tt
  untrimmed file is (Some kept) found = (number, file, is, found.1)

  sought : (asked : Found → Bool) (kept : Option Kept) (r : Result Found Fault) → ((file : Found) → r ≡ Ok file → file_found content volume.tree.top number ≡ Ok file) →
      IsTrimSought content r asked kept → AreKeptOf state volume kept
  sought asked kept (Err fault) of none = subst (AreKeptOf state volume) (sym none) tt
  sought asked kept (Ok file) of found = by (asked file) found
    where
      by : (t : Bool) → MatchBool t (IsUntrimmed content file kept) (kept ≡ None) → AreKeptOf state volume kept
      by true found = untrimmed file (of file refl) kept found
      by false none = subst (AreKeptOf state volume) (sym none) tt

  chosen : (t : Bool) (x y : Found) → ◌≡◌ {A = Result Found Fault} (if t then Err TooLarge else Ok x) (Ok y) → x ≡ y
  chosen true x y e = absurd (cc e)
  chosen false x y e = same_done x y e

  pub truncate_sought : (size : ℕ) (kept : Option Kept) → IsTrimToTruncate content volume.tree.top number size kept → AreKeptOf state volume kept
  truncate_sought size kept is = sought (λ file. true) kept (truncated_file content volume.tree.top number size) (λ file e.
      let x = then_ok (file_found content volume.tree.top number) (λ (file : Found). if nat_lt greatest_size size then Err TooLarge else Ok file) file e in
      subst (λ y. file_found content volume.tree.top number ≡ Ok y) (chosen (nat_lt greatest_size size) x.0 file x.2) x.1) is

  pub write_sought : (at count : ℕ) (kept : Option Kept) → IsTrimToWrite content volume.tree.top number at count kept → AreKeptOf state volume kept
  write_sought at count kept is = sought (raises at count) kept (written_file content volume.tree.top number at) (λ file e.
      let x = then_ok (file_found content volume.tree.top number) (λ (file : Found). if nat_le greatest_size at then Err TooLarge else Ok file) file e in
      subst (λ y. file_found content volume.tree.top number ≡ Ok y) (chosen (nat_le greatest_size at) x.0 file x.2) x.1) is
