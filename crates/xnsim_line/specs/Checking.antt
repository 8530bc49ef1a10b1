-- Images that are checked.
use Rattle.std.specs.Prelude.{◌≡◌, ◌⊎◌, ℕ, List, ◌∷◌, [], ◌++◌, length, Option, Err, codes}
use Rattle.std.specs.Fmt.{decimal}
use Rattle.std.specs.Io.KnownBytes.{Appends}
use Rattle.xn_model.specs.Images.{blocks_in}
use Rattle.image_model.specs.Walk.{block_at, count_of, verdict}
use Rattle.image_model.specs.Report.{IsReport, IsSoundImage}
use Rattle.store_types.specs.declared.image_fault.ImageFault.{ImageFault}
use Rattle.store_types.specs.declared.image_fault.ImageFault.TheVariants.{NoMemory}
use Rattle.templates.specs.Language.{types_of_image}
use Rattle.xnsim_line.specs.Files.{Held, IsHeld}

-- the line of a sound image
abbrev pub report_line : ℕ → ℕ → List ℕ
report_line reached free = codes "reached " ++ decimal reached ++ codes " free " ++ decimal free ++ 10 ∷ []

-- the image of a file is sound, and the line says how many blocks are reached, and how many are free
pub record PrintsChecked (held held_after : Held) (name : List ℕ) (old new : Option (List ℕ)) : Type 0 where
  pub image : List ℕ
  pub reached : List (ℕ × ℕ)
  pub free : List ℕ
  pub image_held : IsHeld held name image
  pub sound : IsSoundImage (types_of_image (blocks_in image)) image
  pub report : IsReport (types_of_image (blocks_in image)) (count_of image) (block_at image) reached free
  pub printed : Appends old new (report_line (length reached) (length free))
  pub kept : held_after ≡ held

-- why an image isn't found sound: its first fault, or want of memory
abbrev pub IsVerdict : List ℕ → ImageFault → Type 0
IsVerdict image fault = (fault ≡ NoMemory) ⊎ (verdict (types_of_image (blocks_in image)) image ≡ Err fault)
