-- The words of an edit.
use Rattle.std.specs.Prelude.{◌≡◌, ℕ, ◌^◌, ◌<◌, List, [], ◌∷◌, ◌++◌, Option, Some, None, length, codes}
use Rattle.std.specs.Fmt.{decimal}
use Rattle.std.specs.List.{AllZip}
use Rattle.xn_model.specs.Calls as model
use Rattle.script.specs.Hex.{IsHex, SpellsBytes}

-- the entry that an edit waits for: `@` and its number, or no word
abbrev pub SpellsAfter : List (List ℕ) → Option ℕ → Type 0
SpellsAfter words None = words ≡ []
SpellsAfter words (Some n) = (words ≡ (codes "@" ++ decimal n) ∷ []) × (n < 2 ^ 64)

-- a word that spells a patch: an offset, `=`, and pairs of digits for its bytes
pub record SpellsPatch (word : List ℕ) (patch : model.Patch) : Type 0 where
  pub hex : List ℕ
  pub spelled : word ≡ decimal patch.offset ++ (codes "=" ++ hex)
  pub small : patch.offset < 2 ^ 16
  pub pairs : IsHex hex
  pub bytes : SpellsBytes hex patch.bytes

-- a word that spells a block to add and its type
pub record SpellsAdd (word : List ℕ) (add : ℕ × ℕ) : Type 0 where
  pub spelled : word ≡ codes "+" ++ (decimal add.0 ++ (codes ":" ++ decimal add.1))
  pub small_block : add.0 < 2 ^ 32
  pub small_type : add.1 < 2 ^ 32

-- a word that spells a block to drop
pub record SpellsDrop (word : List ℕ) (block : ℕ) : Type 0 where
  pub spelled : word ≡ codes "-" ++ decimal block
  pub small : block < 2 ^ 32

-- the words of an edit, behind those of its file system and its block
pub record SpellsEdit (words : List (List ℕ)) (edit : model.Edit) : Type 0 where
  pub after : List (List ℕ)
  pub patches : List (List ℕ)
  pub adds : List (List ℕ)
  pub drops : List (List ℕ)
  pub spelled : words ≡ after ++ (patches ++ (adds ++ drops))
  pub spells_after : SpellsAfter after edit.after
  pub spells_patches : AllZip SpellsPatch patches edit.patches
  pub some_patch : 0 < length edit.patches
  pub spells_adds : AllZip SpellsAdd adds edit.adds
  pub spells_drops : AllZip SpellsDrop drops edit.drops
