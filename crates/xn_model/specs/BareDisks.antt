-- A disk as it is after formatting, with the built-in types alone.
--     built_ins              the types without any template
--     empty_language           the language in which no block is one
--     bare_disk count        its blocks: block 0 with a mark and the count, all else 0
--     mounted_disk L image   a disk with the state of its mount
use Rattle.std.specs.Prelude.{ℕ, ◌-◌, false, cond, nat_lt, List, [], ◌∷◌, ◌++◌, replicate, None}
use Rattle.std.specs.Int.{w32, to_le_bytes}
use Rattle.xn_model.specs.Types.{Types}
use Rattle.xn_model.specs.Root.{owned_by_root}
use Rattle.xn_model.specs.Languages.{Language, types_in}
use Rattle.xn_model.specs.Images.{block_of}
use Rattle.xn_model.specs.Mounts.{recovered}
use Rattle.xn_model.specs.Worlds.{World, mounted_state, none_given}

-- type 0 is block 0's, type 1 a template's, type 2 that of data, which owns nothing
abbrev pub built_ins : Types
built_ins = record {
  installed = λ t. nat_lt t 3;
  owned = λ t m. cond (nat_lt t 1) (owned_by_root m) [];
  size = λ t m. cond (nat_lt t 1) 328 512;
  template = λ m. false;
}

abbrev pub empty_language : Language
empty_language m = None

abbrev pub zeros : ℕ → List ℕ
zeros n = replicate n 0

-- block 0: a mark, the count of blocks, no template and no root
abbrev pub bare_root : ℕ → List ℕ
bare_root count = (88 ∷ 78 ∷ 57 ∷ 55 ∷ []) ++ (to_le_bytes w32 count ++ zeros 504)

abbrev pub bare_disk : ℕ → List (List ℕ)
bare_disk count = bare_root count ∷ replicate (count - 1) (zeros 512)

-- a disk, mounted in a language
abbrev pub mounted_disk : Language → List (List ℕ) → World
mounted_disk L image = record {
  language = L;
  image = image;
  settled = image;
  given = none_given image;
  state = mounted_state (recovered (types_in L (block_of image)) image);
  down = false;
}
