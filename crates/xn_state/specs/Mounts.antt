-- A mount, by the bytes of an image and a list of the blocks that are found in it.
--     image_types image            the types of its catalogue
--     lives_in image found         the lives of those blocks
--     AreFound image found         the image is sound, and they are its reached blocks, each once
use Rattle.std.specs.Prelude.{ℕ, ◌<◌, List, length, map, All, IsTrue, option_map}
use Rattle.xn_model.specs.Lists.{distinct}
use Rattle.xn_model.specs.Types.{Types}
use Rattle.xn_model.specs.Images.{IsSound, block_of, blocks_in}
use Rattle.xn_model.specs.Lives.{Lives}
use Rattle.xn_model.specs.Mounts as model
use Rattle.xn_model.specs.Mounts.{IsRecovered, found_status, lives_found}
use Rattle.templates.specs.Language.{types_of_image}
use Rattle.block_cache.specs.declared.life.FoundLife.{FoundLife}
use Rattle.xn_state.specs.declared.found.Found.{Found}

abbrev pub image_types : List ℕ → Types
image_types image = types_of_image (blocks_in image)

abbrev pub found_of : Found → model.Found
found_of f = record { block = f.block; ty = f.ty; owner = f.owner; fs = option_map (λ s. s.number) f.fs }

-- what is found of the block beside its bytes
abbrev pub found_life_of : Found → FoundLife
found_life_of f = record { fs = f.fs; ty = f.ty; status = found_status f.owner }

abbrev pub lives_in : List ℕ → List Found → Lives
lives_in image found = lives_found (blocks_in image) (map found_of found)

pub record AreFound (image : List ℕ) (found : List Found) : Type 0 where
  pub sound : IsSound (image_types image) (length (blocks_in image)) (block_of (blocks_in image))
  pub within : All (λ f. f.block < length (blocks_in image)) found
  pub once : IsTrue (distinct (map (λ f. f.block) found))
  pub recovered : IsRecovered (image_types image) (blocks_in image) (lives_in image found)
