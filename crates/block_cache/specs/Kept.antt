-- What is kept beside the bytes and the entries.
use Rattle.std.specs.Prelude.{◌≡◌, ℕ, Contains, ◌^◌, ◌<◌, ◌≤◌, Bool, List, [], ◌∷◌, ◌++◌, length, take, drop, true, false, Option, Some, None, slice_get}
use Rattle.std.specs.Prelude.{slice_index_or, slice_set, unwrap_or, option_map, IsTrue, ◌||◌, nat_lt}
use Rattle.slab.specs.Slab.{Slab, get}
use Rattle.store_types.specs.declared.status.Status.{Status}
use Rattle.store_types.specs.declared.status.Status.TheVariants.{Fresh}
use Rattle.xn_model.specs.Images.{block_of}
use Rattle.xn_model.specs.Lives.{root_on_disk}
use Rattle.xn_model.specs.Rules.{IsCount}
use Rattle.block_cache.specs.declared.entry.Entry.{Entry}
use Rattle.block_cache.specs.declared.life.FoundLife.{FoundLife}
use Rattle.block_cache.specs.Systems.{system_of}
use Rattle.block_cache.specs.Named.{places_named}
use Rattle.block_cache.specs.Cached.{CachedLife}
use Rattle.block_cache.specs.Undone.{lives_of}

-- the key has an entry of this block
pub record IsOf (slab : Slab Entry) (block key : ℕ) : Type 0 where
  pub entry : Entry
  pub there : get slab key ≡ Some entry
  pub own : entry.block ≡ block

-- each key has an entry of this block, and stands once
abbrev pub AreOf : Slab Entry → ℕ → List ℕ → Type 0
AreOf slab b [] = Unit {0}
AreOf slab b (k ∷ ks) = IsOf slab b k × (Contains ks k → ⊥) × AreOf slab b ks

-- a life has a state, and few pending ones
pub record IsKept (slab : Slab Entry) (block : ℕ) (life : CachedLife) : Type 0 where
  pub keys : AreOf slab block life.keys
  pub few : length life.keys ≤ 64
  pub begun : IsCount life.begun (length life.keys)
  pub has_state : IsTrue (life.is_durable || nat_lt 0 (length life.keys))

-- the key is one of its block's life
pub record IsUsed (places : List (Option CachedLife)) (block key : ℕ) : Type 0 where
  pub life : CachedLife
  pub there : slice_get places block ≡ Some (Some life)
  pub among : Contains life.keys key

-- so is each that has an entry: none is left without a life
abbrev pub AreUsed : Slab Entry → List (Option CachedLife) → Type 0
AreUsed slab places = (k : ℕ) (e : Entry) → get slab k ≡ Some e → IsUsed places e.block k

-- so it is at each place, and a block has a number
pub record AreKept (slab : Slab Entry) (places : List (Option CachedLife)) : Type 0 where
  pub each : (b : ℕ) (l : CachedLife) → slice_get places b ≡ Some (Some l) → IsKept slab b l
  pub used : AreUsed slab places
  pub few : length places < 2 ^ 32

-- and the places that block 0's catalogue names on the disk are known
pub record IsWhole (slab : Slab Entry) (places : List (Option CachedLife)) (names : List Bool) : Type 0 where
  pub kept : AreKept slab places
  pub named : names ≡ places_named (root_on_disk (lives_of slab places))

-- the life at a place, and the places with it changed
abbrev pub place_at : List (Option CachedLife) → ℕ → Option CachedLife
place_at places b = unwrap_or (slice_get places b) None

abbrev pub change_place : List (Option CachedLife) → ℕ → (CachedLife → CachedLife) → List (Option CachedLife)
change_place places b f = slice_set places b (option_map f (place_at places b))

-- What a start leaves

abbrev pub started_life : ℕ → Option ℕ → ℕ → List ℕ → CachedLife
started_life k fs ty bytes = record { fs = fs; ty = ty; status = Fresh; current = bytes; is_durable = false; keys = k ∷ []; begun = None }

abbrev pub resting : FoundLife → List ℕ → CachedLife
resting found bytes = record {
  fs = system_of found.fs;
  ty = found.ty;
  status = found.status;
  current = bytes;
  is_durable = true;
  keys = [];
  begun = None;
}

-- what is kept of a block where this is found of it in an image of these blocks
abbrev pub resting_in : List (List ℕ) → ℕ → Option FoundLife → Option CachedLife
resting_in blocks b None = None
resting_in blocks b (Some found) = Some (resting found (block_of blocks b))

abbrev pub resting_at : List (Option FoundLife) → List (List ℕ) → ℕ → Option CachedLife
resting_at found blocks b = resting_in blocks b (slice_index_or found b None)

-- What a change leaves

abbrev pub appended : ℕ → List ℕ → CachedLife → CachedLife
appended k bytes l = record l { current = bytes; keys = l.keys ++ k ∷ [] }

abbrev pub settled : ℕ → CachedLife → CachedLife
settled k l = record l { is_durable = true; keys = drop k l.keys; begun = None }

abbrev pub cached_with_status : Status → CachedLife → CachedLife
cached_with_status status l = record l { status = status }

abbrev pub with_begun : Option ℕ → CachedLife → CachedLife
with_begun begun l = record l { begun = begun }

-- the keys of the first entries of a life, if there is one
abbrev pub first_keys : ℕ → Option CachedLife → List ℕ
first_keys k None = []
first_keys k (Some l) = take k l.keys

abbrev pub keys_of : Option CachedLife → List ℕ
keys_of None = []
keys_of (Some l) = l.keys
