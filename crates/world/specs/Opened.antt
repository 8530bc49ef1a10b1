-- Which images a world is made of.
use Rattle.std.specs.Prelude.{◌≡◌, ◌⊎◌, ℕ, ◌*◌, ◌<◌, ◌≤◌, List, length, Err}
use Rattle.xn_model.specs.Images.{blocks_in}
use Rattle.image_model.specs.Walk.{verdict}
use Rattle.store_types.specs.declared.image_fault.ImageFault.{ImageFault}
use Rattle.store_types.specs.declared.image_fault.ImageFault.TheVariants.{NoMemory, BadLength}
use Rattle.templates.specs.Formats.{most_formatted}
use Rattle.templates.specs.Language.{types_of_image}

-- the image has no more blocks than a world holds
abbrev pub IsHeldWhole : List ℕ → Type 0
IsHeldWhole image = length image ≤ 512 * most_formatted

-- why no world is made of an image: there are too many blocks; and else it isn't sound, and then its first fault, or want of memory
abbrev pub IsOpenFault : List ℕ → ImageFault → Type 0
IsOpenFault image fault =
    ((512 * most_formatted < length image) × (fault ≡ BadLength))
    ⊎ (IsHeldWhole image × ((fault ≡ NoMemory) ⊎ (verdict (types_of_image (blocks_in image)) image ≡ Err fault)))
