-- A name ends, and its inode gets other links.
use Rattle.std.proofs.Common.{◌≡◌, ℕ, ◌<◌, ◌≤◌, ◌^◌, List, [], ◌∷◌, Option, None, Some, Ok, refl, sym, ◌∙◌, ap, arith, subst}
use Rattle.std.specs.Prelude.{All, fold}
use Rattle.treefs_format.specs.Fields.{changed, fields_of}
use Rattle.treefs_format.specs.Inodes.{kind_of}
use Rattle.treefs_format.specs.Paths.{leaf_count}
use Rattle.treefs_format.specs.declared.fields.Fields.{Fields}
use Rattle.treefs_model.specs.Acts.{Act, number_act}
use Rattle.treefs_model.specs.Changes.{moved_to}
use Rattle.treefs_model.specs.Files.{Content, changed_at, with_name}
use Rattle.treefs_model.specs.Reading.{files_of, inode_with}
use Rattle.treefs_lookup.specs.Inodes.{inode_found}
use Rattle.treefs_lookup.specs.Names.{entry_found}
use Rattle.treefs_lookup.specs.declared.inodes.Found.{Found}
use Rattle.treefs_lookup.specs.declared.names.Slot.{Slot}
use Rattle.treefs_edits.specs.Kinds.{links_act}
use Rattle.treefs_edits.specs.Written.{all_written, written}
use Rattle.treefs_edits.specs.declared.times.Times.{Times}
use Rattle.treefs_values.specs.Values.{AreChanges, led_to, links_parts, inode_with_links}
use Rattle.treefs_values.specs.Volumes.{IsVolume}
use Rattle.treefs_values.specs.Ways.{block_numbered}
use Rattle.treefs_values.proofs.Ending.{found_renamed}
use Rattle.treefs_values.proofs.FoundEntries.{IsEntry, IsFound, entry_is, found_inode}
use Rattle.treefs_values.proofs.ManyChanges.{fields_changed}
use Rattle.treefs_values.proofs.Named.{candidates_few}
use Rattle.treefs_values.proofs.Numbered.{fields_stay, numbered_stays}

-- What links, times and a parent make of an inode
module _ (was : Fields) (links : ℕ) where
  abbrev now : Option Times → Option ℕ → Fields
  now times parent = fold (fold changed) was (links_parts links times parent)

  pub same_size : (times : Option Times) (parent : Option ℕ) → ((now times parent).size ≡ was.size) × (kind_of (now times parent).mode ≡ kind_of was.mode)
  same_size None None = (refl, refl)
  same_size (Some times) None = (refl, refl)
  same_size None (Some parent) = (refl, refl)
  same_size (Some times) (Some parent) = (refl, refl)

  pub links_make : (times : Option Times) (parent : Option ℕ) (content : Content) → moved_to was.parent content ≡ content →
      inode_with (now times parent) (moved_to (now times parent).parent content) ≡ inode_with_links links times parent (inode_with was content)
  links_make None None content stands = ap (inode_with (now None None)) stands
  links_make (Some times) None content stands = ap (inode_with (now (Some times) None)) stands
  links_make None (Some parent) content stands = refl
  links_make (Some times) (Some parent) content stands = refl

module _ (node inode top : ℕ) (type : ℕ → ℕ) (old : ℕ → List ℕ) (v : IsVolume node inode type old top) (d : ℕ) (name : List ℕ) (slot : Slot)
    (slot_is : entry_found old top d name ≡ Ok slot) (found : Found) (found_is : inode_found old top slot.number ≡ Ok found) (links : ℕ) (times : Option Times) (parent : Option ℕ)
    (fine : All AreChanges (links_parts links times parent)) (number : ℕ) (short : number < 2 ^ 32) (behind behind' : Option ℕ) where
  e : IsEntry old top d name slot
  e = entry_is old top d name slot slot_is

  i : IsFound old top slot.number found
  i = found_inode old top slot.number found found_is

  abbrev ends : Act
  ends = number_act slot.block slot.offset number behind

  abbrev middle : ℕ → List ℕ
  middle = written ends old

  first : IsVolume node inode type middle top × (files_of middle top ≡ with_name (files_of old top) d name (led_to number))
  first = found_renamed node inode top type old v d name slot slot_is number short behind

  few : e.bucket ≤ leaf_count
  few = candidates_few _ e.bucket e.candidate

  -- the same act, by the bucket and the record
  abbrev Stays : Act → Type 0
  Stays act = (fields_of (written act old (block_numbered old top slot.number)) ≡ fields_of (old (block_numbered old top slot.number)))
      × (block_numbered (written act old) top slot.number ≡ block_numbered old top slot.number)

  stays : Stays ends
  stays =
      subst Stays (λ j. number_act (sym e.slot_is.block j) (sym e.slot_is.offset j) number behind) (
        fields_stay node inode top type old v d e.number e.there e.bucket few e.record_of e.slot_is.of.there number short behind slot.number i.number i.there,
        numbered_stays node inode top type old v d e.number e.there e.bucket few e.record_of e.slot_is.of.there number short behind slot.number,
      )

  abbrev c : ℕ
  c = block_numbered middle top slot.number

  block : c ≡ found.block
  block = stays.1 ∙ sym i.block

  abbrev last : ℕ → ℕ → List ℕ
  last x = written (links_act x links times parent behind') middle

  abbrev Said : ℕ → Type 0
  Said x = IsVolume node inode type (last x) top × (files_of (last x) top ≡ changed_at (files_of middle top) slot.number (inode_with_links links times parent))

  second : Said found.block
  second = subst Said block
      (fields_changed node inode top type middle first.0 slot.number i.number (λ z. i.there (sym stays.1 ∙ z)) (links_parts links times parent) fine behind' (same_size (fields_of (middle c)) links times parent).0
      (same_size (fields_of (middle c)) links times parent).1 (inode_with_links links times parent) (links_make (fields_of (middle c)) links times parent))

  pub name_led : IsVolume node inode type (all_written (ends ∷ links_act found.block links times parent behind' ∷ []) old) top
      × (files_of (all_written (ends ∷ links_act found.block links times parent behind' ∷ []) old) top
      ≡ changed_at (with_name (files_of old top) d name (led_to number)) slot.number (inode_with_links links times parent))
  name_led = (second.0, second.1 ∙ ap (λ files. changed_at files slot.number (inode_with_links links times parent)) first.1)

-- a name ends: its number becomes 0
module _ (node inode top : ℕ) (type : ℕ → ℕ) (old : ℕ → List ℕ) (v : IsVolume node inode type old top) (d : ℕ) (name : List ℕ) (slot : Slot)
    (slot_is : entry_found old top d name ≡ Ok slot) (found : Found) (found_is : inode_found old top slot.number ≡ Ok found) (links : ℕ) (times : Option Times) (parent : Option ℕ)
    (fine : All AreChanges (links_parts links times parent)) (behind behind' : Option ℕ) where
  pub name_ended : IsVolume node inode type (all_written (number_act slot.block slot.offset 0 behind ∷ links_act found.block links times parent behind' ∷ []) old) top
      × (files_of (all_written (number_act slot.block slot.offset 0 behind ∷ links_act found.block links times parent behind' ∷ []) old) top
      ≡ changed_at (with_name (files_of old top) d name None) slot.number (inode_with_links links times parent))
  name_ended = name_led node inode top type old v d name slot slot_is found found_is links times parent fine 0 (omega arith) behind behind'
