-- A disk's blocks seen by what is read of each, and how many there are.
--     blocks_in bytes                  the blocks that stand one after another in bytes
--     Reach T count content c u        block c is reached under type u
--     IsSound T count content            what check accepts
use Rattle.std.specs.Prelude.{◌≡◌, ℕ, ◌/◌, ◌<◌, ◌≤◌, List, slice_index_or, [], length, IsTrue, Contains}
use Rattle.std.specs.List.{flat_map}
use Rattle.std.specs.Simd.{first_chunks}
use Rattle.xn_model.specs.Types.{Types, fits}
use Rattle.xn_model.specs.Root.{marked, templates_of}

-- blocks one after another
abbrev pub joined : List (List ℕ) → List ℕ
joined blocks = flat_map (λ block. block) blocks

-- each whole 512 bytes
abbrev pub blocks_in : List ℕ → List (List ℕ)
blocks_in bytes = first_chunks 512 (length bytes / 512) bytes

-- the bytes of a block of an image
abbrev pub block_of : List (List ℕ) → ℕ → List ℕ
block_of image b = slice_index_or image b []

-- The least set with block 0 and all that its members name.
pub data Reach (T : Types) (count : ℕ) (content : ℕ → List ℕ) : ℕ → ℕ → Type 0 where
  root : Reach T count content 0 0
  step : {b t c u : ℕ} → Reach T count content b t → b < count → IsTrue (T.installed t) → Contains (T.owned t (content b)) (c, u) → Reach T count content c u

-- The reached block b names c at a place of its list.
pub record Owns (T : Types) (count : ℕ) (content : ℕ → List ℕ) (b place c : ℕ) : Type 0 where
  pub ty : ℕ
  pub reached : Reach T count content b ty
  pub within : place < length (T.owned ty (content b))
  pub names : (slice_index_or (T.owned ty (content b)) place (0, 0)).0 ≡ c

-- c is named by one block, at one place.
pub record HasOneOwner (T : Types) (count : ℕ) (content : ℕ → List ℕ) (c : ℕ) : Type 0 where
  pub owner : ℕ
  pub place : ℕ
  pub owns : Owns T count content owner place c
  pub only : (b i : ℕ) → Owns T count content b i c → (b ≡ owner) × (i ≡ place)

-- the most blocks of a disk
abbrev pub most_blocks : ℕ
most_blocks = 1048576

abbrev pub IsDiskSize : ℕ → Type 0
IsDiskSize count = (32 ≤ count) × (count ≤ most_blocks)

pub record IsSound (T : Types) (count : ℕ) (content : ℕ → List ℕ) : Type 0 where
  pub size : IsDiskSize count
  pub long : length (content 0) ≡ 512
  pub head : IsTrue (marked count (content 0))
  -- the catalogue names template blocks
  pub templates : (c u : ℕ) → Contains (templates_of (content 0)) (c, u) → (c < count) × IsTrue (T.template (content c))
  -- each reached block fits, and each block that it names is in range, of a type that there is, and named by it alone
  pub fit : (b t : ℕ) → Reach T count content b t → IsTrue (fits T t (content b))
  pub range : (b t c u : ℕ) → Reach T count content b t → Contains (T.owned t (content b)) (c, u) → (1 ≤ c) × (c < count)
  pub types : (b t c u : ℕ) → Reach T count content b t → Contains (T.owned t (content b)) (c, u) → (1 ≤ u) × IsTrue (T.installed u)
  pub owner : (b t c u : ℕ) → Reach T count content b t → Contains (T.owned t (content b)) (c, u) → HasOneOwner T count content c
