-- What the 64 bytes of an inode say.
use Rattle.std.specs.Prelude.{ℕ, ◌+◌, ◌*◌, List, map}
use Rattle.std.specs.List.{range_with_len}
use Rattle.xn_model.specs.Root.{word_at}
use Rattle.ffs_model.specs.Library.{half_at}

pub record Fields : Type 0 where
  -- 0 free, 1 a file, 2 a directory
  pub mode : ℕ
  pub links : ℕ
  -- in bytes
  pub size : ℕ
  -- 12 blocks of data, 0 for none
  pub direct : List ℕ
  -- a block of 128 more, or 0
  pub indirect : ℕ

abbrev pub direct_in : List ℕ → ℕ → ℕ
direct_in bytes i = word_at bytes (8 + 4 * i)

abbrev pub fields_of : List ℕ → Fields
fields_of bytes = record {
  mode = half_at bytes 0;
  links = half_at bytes 2;
  size = word_at bytes 4;
  direct = map (direct_in bytes) (range_with_len 0 12);
  indirect = word_at bytes 56;
}
