-- A name that is found leads elsewhere.
use Rattle.std.proofs.Common.{◌≡◌, ℕ, ◌<◌, ◌^◌, List, Option, Ok, sym, ◌∙◌, ap, subst}
use Rattle.treefs_model.specs.Acts.{Act, number_act}
use Rattle.treefs_model.specs.Files.{with_name}
use Rattle.treefs_model.specs.Reading.{files_of}
use Rattle.treefs_lookup.specs.Names.{entry_found}
use Rattle.treefs_lookup.specs.declared.names.Slot.{Slot}
use Rattle.treefs_edits.specs.Written.{written}
use Rattle.treefs_values.specs.Values.{led_to}
use Rattle.treefs_values.specs.Volumes.{IsVolume}
use Rattle.treefs_values.proofs.FoundEntries.{IsEntry, entry_is}
use Rattle.treefs_values.proofs.Named.{candidates_few}
use Rattle.treefs_values.proofs.Numbered.{files_set, volume_set}

module _ (node inode top : ℕ) (type : ℕ → ℕ) (old : ℕ → List ℕ) (v : IsVolume node inode type old top) (d : ℕ) (name : List ℕ) (slot : Slot)
    (found : entry_found old top d name ≡ Ok slot) (now : ℕ) (short : now < 2 ^ 32) (behind : Option ℕ) where
  e : IsEntry old top d name slot
  e = entry_is old top d name slot found

  abbrev Said : Act → Type 0
  Said act = IsVolume node inode type (written act old) top × (files_of (written act old) top ≡ with_name (files_of old top) d name (led_to now))

  pub found_renamed : Said (number_act slot.block slot.offset now behind)
  found_renamed =
      let at = e.slot_is in
      let few = candidates_few _ e.bucket e.candidate in
      subst Said (λ j. number_act (sym at.block j) (sym at.offset j) now behind) (
        volume_set node inode top type old v d e.number e.there e.bucket few e.record_of at.of.there now short behind e.directory,
        files_set node inode top type old v d e.number e.there e.bucket few e.record_of at.of.there now short behind e.directory
            ∙ ap (λ x. with_name (files_of old top) d x (led_to now)) at.of.named,
      )
