-- The image of a fresh disk is sound.
use Rattle.std.proofs.Common.{◌≡◌, ◌≤◌, ℕ, List, length, sym, ◌∙◌, ap, arith, subst, inl, inr, Bool, true, false, ◌&&◌, Some, None, refl}
use Rattle.std.specs.Prelude.{All, nat_le, if◌then◌else◌}
use Rattle.std.proofs.lemmas.Bool.{leb-true}
use Rattle.std.proofs.lemmas.Option.{none-some}
use Rattle.xn_model.specs.Images.{IsDiskSize, IsSound, block_of, blocks_in, joined}
use Rattle.xn_model.specs.BareDisks.{mounted_disk}
use Rattle.xn_model.specs.Worlds.{World}
use Rattle.xn_model.proofs.ForCallers.{blocks_read, built_ins_in, length-joined, world_sound}
use Rattle.store_types.specs.declared.image_fault.ImageFault.{ImageFault}
use Rattle.store_types.specs.declared.image_fault.ImageFault.TheVariants.{NoMemory}
use Rattle.image_model.proofs.ForCallers.{verdict-unsound}
use Rattle.templates.specs.declared.fault.FormatFault.TheVariants.{BadCount, TooManyTemplates}
use Rattle.templates.specs.Templates.{TemplateValue, IsTemplate}
use Rattle.templates.specs.Formats.{formatted, format_fault, most_formatted}
use Rattle.templates.proofs.ForCallers.{formatted_has_its_blocks, formatted_holds}
use Rattle.templates.specs.Language.{language, types_of_image}
use Rattle.world.specs.Opened.{IsOpenFault}
use Rattle.world.proofs.Openings.{whole_image}

-- a disk and templates of which formatting has no fault
pub no_fault : (count n : ℕ) → format_fault count n ≡ None → (IsDiskSize count × (count ≤ most_formatted)) × (n ≤ 16)
no_fault count n e =
    let t = all_true (nat_le 32 count) (nat_le count most_formatted) (nat_le n 16) e in
    let most = leb-true count most_formatted t.1 in
    (((leb-true 32 count t.0, omega arith), most), leb-true n 16 t.2)
  where
    all_true : (a b c : Bool) → (if a && b then (if c then None else Some TooManyTemplates) else Some BadCount) ≡ None → (a ≡ true) × (b ≡ true) × (c ≡ true)
    all_true true true true e = (refl, refl, refl)
    all_true true true false e = absurd (none-some TooManyTemplates (sym e))
    all_true true false c e = absurd (none-some BadCount (sym e))
    all_true false b c e = absurd (none-some BadCount (sym e))

module _ (count : ℕ) (ts : List TemplateValue) (none : format_fault count (length ts) ≡ None) (all : All IsTemplate ts) (image : List ℕ) (is : image ≡ joined (formatted count ts)) where
  size : IsDiskSize count
  size = (no_fault count (length ts) none).0.0

  few : length ts ≤ 16
  few = (no_fault count (length ts) none).1

  long : (length (formatted count ts) ≡ count) × All (λ block. length block ≡ 512) (formatted count ts)
  long = formatted_has_its_blocks count ts size few all

  blocks_are : blocks_in image ≡ formatted count ts
  blocks_are = ap blocks_in is ∙ blocks_read (formatted count ts) long.1

  pub fresh_world : (w : World) → w ≡ mounted_disk language (blocks_in image) → w ≡ mounted_disk language (formatted count ts)
  fresh_world w e = e ∙ ap (mounted_disk language) blocks_are

  sound : IsSound (types_of_image (blocks_in image)) (length (blocks_in image)) (block_of (blocks_in image))
  sound = subst (λ bs. IsSound (types_of_image bs) (length bs) (block_of bs)) (sym blocks_are)
      (world_sound (mounted_disk language (formatted count ts)) (formatted_holds count ts size few all))

  pub never_faulty : (fault : ImageFault) → IsOpenFault image fault → fault ≡ NoMemory
  never_faulty fault is_fault =
      let bytes = ap length is ∙ length-joined (formatted count ts) long.1 in
      let most = (no_fault count (length ts) none).0.1 in
      elim is_fault [
        | inl past ↦ absurd (omega (arith, past.0, bytes, long.0, most))
        | inr found ↦ elim found.1 [
          | inl none ↦ none
          | inr is ↦
              absurd (verdict-unsound (types_of_image (blocks_in image)) (built_ins_in language (block_of (blocks_in image))) image fault is
              (whole_image image (omega arith) sound))
        ]
      ]
