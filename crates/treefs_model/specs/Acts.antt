-- Edits as acts: an edit of a block, behind all that is pending in another block.
--     Act                         a block, an edit of it, and the block behind which it stands
--     behind_of                   the number of the entry behind which an act stands
--     edit_in                     the edit that an act is, in the state where it is made
--     Made, Ran                   an act was made, or refused; all were made in order, or the first of them, and the next one is refused
--     patch_act, attach_act, wait_act, record_act, number_act, changes_act, content_act, bytes_act, drop_act     the kinds
use Rattle.std.specs.Prelude.{◌≡◌, ◌⊎◌, ℕ, ◌*◌, List, [], ◌∷◌, map, replicate, slice_index, Option, None, Some, Result, Ok, Err, MatchResult}
use Rattle.std.specs.Int.{w32, to_le_bytes}
use Rattle.xn_model.specs.Types.{Types}
use Rattle.xn_model.specs.Lives.{StoreState}
use Rattle.xn_model.specs.Calls.{Edit, Patch, propose_of}
use Rattle.xn_model.specs.PendingIn.{newest_entry_of}
use Rattle.xn_model.specs.Results.{Gives}
use Rattle.store_types.specs.declared.refusal.Refusal.{Refusal}
use Rattle.treefs_format.specs.Fields.{changes_patch}
use Rattle.treefs_format.specs.Inodes.{content_patch}
use Rattle.treefs_format.specs.Nodes.{pointers_patch}
use Rattle.treefs_format.specs.Records.{Entry, entry_bytes}
use Rattle.treefs_format.specs.declared.fields.Change.{Change}

pub record Act : Type 0 where
  pub block : ℕ
  -- the entry that it comes after is found when it is made
  pub edit : Edit
  pub behind : Option ℕ

abbrev pub behind_of : StoreState → Option ℕ → Option ℕ
behind_of state None = None
behind_of state (Some b) = newest_entry_of state b

abbrev pub edit_in : Act → StoreState → Edit
edit_in act state = record act.edit { after = behind_of state act.behind }

abbrev pub Made : Types → ℕ → Act → StoreState → StoreState → Result ℕ Refusal → Type 0
Made T fs act old new result = Gives (propose_of T old fs act.block (edit_in act old)) old new result

abbrev pub Ran : Types → ℕ → List Act → StoreState → StoreState → Result (Unit {0}) Refusal → Type 0
Ran T fs [] old new result = (result ≡ Ok tt) × (new ≡ old)
Ran T fs (act ∷ rest) old new result =
    MatchResult result (λ x. ⊥) (λ refusal. Made T fs act old new (Err refusal))
    ⊎ ((number : ℕ) × (middle : StoreState) × Made T fs act old middle (Ok number) × Ran T fs rest middle new result)

-- The kinds

abbrev pub patch_act : ℕ → List Patch → Option ℕ → Act
patch_act block patches behind = record {
  block = block;
  edit = record { patches = patches; adds = []; drops = []; after = None };
  behind = behind;
}

abbrev pub one_patch : ℕ → List ℕ → List Patch
one_patch offset bytes = record { offset = offset; bytes = bytes } ∷ []

-- pointers to blocks of a type, side by side from an offset on, which the block owns from then on
abbrev pub attach_act : ℕ → ℕ → ℕ → List ℕ → Option ℕ → Act
attach_act block offset ty blocks behind = record {
  block = block;
  edit = record { patches = pointers_patch offset blocks ∷ []; adds = map (λ b. (b, ty)) blocks; drops = []; after = None };
  behind = behind;
}

-- nothing changes: its byte 0 is written again
abbrev pub wait_act : ℕ → List ℕ → ℕ → Act
wait_act block bytes other = patch_act block (one_patch 0 (slice_index bytes 0 ∷ [])) (Some other)

-- a record is made at a byte of a block; the number of one is set
abbrev pub record_act : ℕ → ℕ → Entry → Option ℕ → Act
record_act block offset e behind = patch_act block (one_patch offset (entry_bytes e)) behind

abbrev pub number_act : ℕ → ℕ → ℕ → Option ℕ → Act
number_act block offset number behind = patch_act block (one_patch offset (to_le_bytes w32 number)) behind

-- fields of an inode that stand side by side; each list of them is a patch
abbrev pub changes_act : ℕ → List (List Change) → Option ℕ → Act
changes_act inode changes behind = patch_act inode (map changes_patch changes) behind

-- bytes of the content that stand in the inode block; bytes of a leaf
abbrev pub content_act : ℕ → ℕ → List ℕ → Option ℕ → Act
content_act inode at bytes behind = patch_act inode (content_patch at bytes ∷ []) behind

abbrev pub bytes_act : ℕ → ℕ → List ℕ → Option ℕ → Act
bytes_act leaf at bytes behind = patch_act leaf (one_patch at bytes) behind

-- so many pointers from an offset on become 0, and the blocks to which they led are dropped
abbrev pub drop_act : ℕ → ℕ → ℕ → List ℕ → Option ℕ → Act
drop_act block offset count blocks behind = record {
  block = block;
  edit = record { patches = one_patch offset (replicate (4 * count) 0); adds = []; drops = blocks; after = None };
  behind = behind;
}
