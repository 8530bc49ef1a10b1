-- A fresh disk with the library's templates has no volume yet, of any file system.
use Rattle.std.proofs.Common.{◌∙◌, ◌≡◌, ℕ, ◌<◌, ◌≤◌, List, [], length, Option, None, false, arith, refl, ap, subst, sym, All}
use Rattle.std.proofs.lemmas.Bool.{false≢true}
use Rattle.xn_model.specs.Types.{Types}
use Rattle.xn_model.specs.Root.{has_type, pointer, slot, word_at}
use Rattle.std.specs.List.{last_or}
use Rattle.xn_model.specs.Lives.{StoreState, bytes_of, life_at}
use Rattle.xn_model.specs.Calls.{latest, life_bytes}
use Rattle.xn_model.specs.Images.{IsDiskSize, block_of, blocks_in, joined}
use Rattle.xn_model.specs.BareDisks.{mounted_disk}
use Rattle.xn_model.specs.Mounts.{IsRecovered, recovered}
use Rattle.xn_model.specs.Worlds.{World, none_given}
use Rattle.xn_model.specs.Rules.{Holds, IsConsistent}
use Rattle.xn_model.proofs.ForCallers.{built_ins_in, recovered_is, types_mounted, world_sound}
use Rattle.templates.specs.Language.{language, types_of_image}
use Rattle.templates.specs.Tables.{table_types}
use Rattle.templates.specs.Formats.{format_fault, formatted, formatted_root, table_of}
use Rattle.templates.specs.Templates.{IsTemplate, TemplateValue}
use Rattle.templates.proofs.ForCallers.{formatted_has_its_templates, formatted_holds, slot_blank, tables_are_catalogues}
use Rattle.xn_state.specs.States.{own_types}
use Rattle.xn_kernel.specs.Kernels.{KernelValue}
use Rattle.crash_check.specs.Mounts.{kernel_of}
use Rattle.world.proofs.ForCallers.{fresh_world, no_fault}
use Rattle.ffs_model.specs.Library.{library_layout, IsLibrary}
use Rattle.ffs_model.specs.Volumes.{VolumeKeeps, no_edits}
use Rattle.ffs_model.proofs.ForCallers.{library_reads, mounted_bare, mounted_keeps, no_root_keeps}
use Rattle.world.specs.Worlds.{WorldValue, world_with}
use Rattle.volume_pair.specs.Kept.{HasLibrary, IsKept}
use Rattle.volume_pair.specs.LibraryTypes.{IsRemounted}
use Rattle.volume_pair.proofs.LibraryTypes.{three_types}

no_root : (count : ℕ) (ts : List TemplateValue) → length ts ≤ 16 → (fs : ℕ) → (slot (block_of (formatted count ts) 0) fs).0 ≡ 0
unfolding formatted
no_root count ts few fs = ap (λ (p : ℕ × ℕ). p.0) (slot_blank count (length ts) few fs)

abbrev pub Fresh : StoreState → Type 0
Fresh state = HasLibrary (own_types state) state × ((fs : ℕ) → fs < 32 → IsKept (own_types state) state fs None)

module _ (count : ℕ) (ts : List TemplateValue) (size : IsDiskSize count) (short : length ts ≤ 16) (all : All IsTemplate ts) (library : IsLibrary (table_types (table_of ts))) where
  abbrev image : List (List ℕ)
  image = formatted count ts

  abbrev disk : World
  disk = mounted_disk language image

  abbrev T : Types
  T = types_of_image image

  is_library : IsLibrary T
  is_library = subst IsLibrary (ap table_types (sym (formatted_has_its_templates count ts size short all)) ∙ tables_are_catalogues (block_of image)) library

  fresh_disk : Holds disk → Fresh disk.state
  fresh_disk h =
      let found = recovered_is T (built_ins_in language (block_of image)) image (world_sound disk h) in
      let lives = recovered T image in
      let now : own_types disk.state ≡ T = types_mounted disk lives (world_sound disk h) found in
      let rules : IsConsistent T disk.state = subst (λ U. IsConsistent U disk.state) now h.state in
      subst (λ U. HasLibrary U disk.state × ((fs : ℕ) → fs < 32 → IsKept U disk.state fs None)) (sym now) (
        record { rules = rules; library = is_library },
        λ fs few. record {
          library = is_library;
          few = few;
          keeps = mounted_keeps disk lives found library_layout (library_reads T is_library) fs few rules (no_root_keeps library_layout (block_of image) fs (no_root count ts short fs));
          mine = tt;
        },
      )

  pub fresh_kept : (w : World) → w ≡ disk → Holds w → Fresh w.state
  fresh_kept w is holds = subst (λ (v : World). Fresh v.state) (sym is) (fresh_disk (subst Holds is holds))

-- a kernel over such a disk
pub kernel_kept : {L : Type 0} (count : ℕ) (ts : List TemplateValue) → format_fault count (length ts) ≡ None → All IsTemplate ts → (image : List ℕ) → image ≡ joined (formatted count ts) → IsLibrary (table_types (table_of ts)) →
    (lanes : List (Option L)) (kernel : KernelValue L) → kernel ≡ kernel_of 1 lanes (blocks_in image) → Fresh kernel.state
kernel_kept {L} count ts none all image bytes library lanes kernel is =
    let over : KernelValue L → World = λ k. record { language = language; image = blocks_in image; settled = blocks_in image; given = none_given (blocks_in image); state = k.state; down = false } in
    let size = no_fault count (length ts) none in
    let e = fresh_world count ts none all image bytes (over kernel) (ap over is) in
    fresh_kept count ts size.0.0 size.1 all library (over kernel) e (subst Holds (sym e) (formatted_holds count ts size.0.0 size.1 all))

-- a disk without templates has none of the library's types, and no volume
module _ (count : ℕ) (size : IsDiskSize count) (world : WorldValue) (is : world_with world ≡ mounted_disk language (formatted count [])) (holds : Holds (world_with world)) where
  abbrev bare : List (List ℕ)
  bare = formatted count []

  abbrev bare_world : World
  bare_world = mounted_disk language bare

  abbrev bare_types : Types
  bare_types = types_of_image bare

  none_named : (t : ℕ) → 3 ≤ t → t ≤ 5 → has_type (block_of (formatted count []) 0) t ≡ false
  unfolding formatted formatted_root word_at pointer
  none_named = three_types (λ t. has_type (block_of (formatted count []) 0) t ≡ false) refl refl refl

  bare_holds : Holds bare_world
  bare_holds = subst Holds is holds

  found_bare : IsRecovered bare_types bare (recovered bare_types bare)
  found_bare = recovered_is bare_types (built_ins_in language (block_of bare)) bare (world_sound bare_world bare_holds)

  bare_now : own_types bare_world.state ≡ bare_types
  bare_now = types_mounted bare_world (recovered bare_types bare) (world_sound bare_world bare_holds) found_bare

  bare_rules : IsConsistent bare_types bare_world.state
  bare_rules = subst (λ U. IsConsistent U bare_world.state) bare_now bare_holds.state

  state_is : world.state ≡ bare_world.state
  state_is = ap (λ (w : World). w.state) is

  image_is : world.image ≡ bare
  image_is = ap (λ (w : World). w.image) is

  pub bare_remounted : IsRemounted world
  bare_remounted = record {
    rests = λ b l e. (found_bare.only b l (ap (λ (s : StoreState). life_at s.lives b) (sym state_is) ∙ e)).nothing;
    newest =
        let root = bare_rules.lives_sound.root in
        let only = found_bare.only 0 root.life root.alive in
        ap (λ (s : StoreState). latest s.lives 0) state_is
        ∙ (ap life_bytes root.alive ∙ (ap bytes_of (ap (last_or root.life.durable) only.nothing ∙ only.durable) ∙ ap (λ bs. block_of bs 0) (sym image_is)));
    types = λ t low high named. absurd (false≢true (sym (none_named t low high) ∙ (ap (λ bs. has_type (block_of bs 0) t) (sym image_is) ∙ named)));
  }

  pub bare_keeps : (fs : ℕ) → fs < 32 → VolumeKeeps (own_types world.state) library_layout fs no_edits world.state
  bare_keeps fs few = subst (λ (s : StoreState). VolumeKeeps (own_types s) library_layout fs no_edits s) (sym state_is)
      (subst (λ U. VolumeKeeps U library_layout fs no_edits bare_world.state) (sym bare_now) (mounted_bare bare_world library_layout fs (recovered bare_types bare) bare_rules found_bare (no_root count [] (omega arith) fs)))
