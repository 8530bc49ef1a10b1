-- What a `rename` leaves where it is refused is one of its stages.
use Rattle.std.proofs.Common.{◌≡◌, ℕ, ◌<◌, Bool, true, List, Some, Result, Ok, Err, sym, ◌∙◌, ap, inl, inr, ◌&&◌, if◌then◌else◌, ok_or}
use Rattle.ffs_lib.proofs.Common.{BadName, Blocks, Directory, FfsFault, Files, IsConsistent, IsLibrary, NoEntry, Slot, StoreState, TooLarge, Types, and_then}
use Rattle.ffs_lib.proofs.Common.{blocks_value, directories, files_of, in_use, inode_links, is_name, latest, look_up, moved, rename_in, renamed, room}
use Rattle.ffs_lookup.proofs.ForCallers.{EntryAt, first_value, renamed_ok}
use Rattle.ffs_lib.specs.Stages.{IsRefused, Stages, found_stages, moved_stages, renamed_stages, stages_of}
use Rattle.ffs_lib.specs.Steps.{NamedAgain, StopsNaming, StopsUnnaming}
use Rattle.ffs_lib.proofs.BlocksOnce.{blocks_once}
use Rattle.ffs_lib.proofs.Renaming.{CanMove}
use Rattle.ffs_lib.proofs.Staged.{asks_entry, link_stage}
use Rattle.ffs_lib.proofs.ValueMade.{directory_value}
use Rattle.ffs_lib.proofs.ValueMoved.{cleared_value, home, home_place, named_value}
use Rattle.ffs_lib.proofs.ValueSteps.{adds_value}

stages_are : (files : Files) (d : ℕ) (name : List ℕ) (other : ℕ) (new_name : List ℕ) (links links' : ℕ) (blocks blocks' : Blocks) (found : (ℕ × ℕ) × ℕ) (at : ℕ × ℕ) → files d ≡ Directory links blocks → files other ≡ Directory links' blocks' →
    is_name name && is_name new_name ≡ true → look_up name blocks ≡ Some found → room blocks' ≡ Some at → renamed_stages files d name other new_name ≡ moved_stages files d found other new_name at
stages_are files d name other new_name links links' blocks blocks' found at is is' good looked place =
    let K : (ℕ × Blocks) × (ℕ × Blocks) → Stages = found_stages files d name other new_name in
    let both : Bool → Result ((ℕ × Blocks) × (ℕ × Blocks)) FfsFault = λ t. if t then Ok ((links, blocks), (links', blocks')) else Err BadName in
    ap (λ v. stages_of (and_then (in_use v) (λ from. and_then (in_use (files other)) (λ to. and_then (directories from to) (λ (p : (ℕ × Blocks) × (ℕ × Blocks)). if is_name name && is_name new_name then Ok p else Err BadName)))) K) is
    ∙ (ap (λ v. stages_of (and_then (in_use v) (λ to. and_then (directories (Directory links blocks) to) (λ (p : (ℕ × Blocks) × (ℕ × Blocks)). if is_name name && is_name new_name then Ok p else Err BadName))) K) is'
    ∙ (ap (λ t. stages_of (both t) K) good
    ∙ (ap (λ o. stages_of (ok_or o NoEntry) (λ x. stages_of (ok_or (room blocks') TooLarge) (moved_stages files d x other new_name))) looked ∙ ap (λ o. stages_of (ok_or o TooLarge) (moved_stages files d found other new_name)) place)))

module _ (T : Types) (lib : IsLibrary T) (fs : ℕ) (few : fs < 32) (d : ℕ) (name : List ℕ) (other : ℕ) (new_name : List ℕ) (slot : Slot) (old : StoreState) (x : CanMove (latest old.lives) fs d name other new_name slot)
    (e : Ok slot ≡ rename_in (latest old.lives) fs d name other new_name) where
  abbrev pub u : ℕ → List ℕ
  u = latest old.lives

  abbrev pub entry : EntryAt u x.from name slot
  entry = first_value u x.from name slot x.first

  abbrev pub answer : (at : ℕ × ℕ) × (Some at ≡ room (blocks_value u x.to)) × (renamed (files_of u fs) d name other new_name ≡ Ok (moved (files_of u fs) d (entry.at, slot.inode) other new_name at))
  answer = renamed_ok u fs d name other new_name x.from x.to slot (directory_value u fs d x.from x.is_from) (directory_value u fs other x.to x.is_to) entry e

  abbrev pub stages : Stages
  stages = moved_stages (files_of u fs) d (entry.at, slot.inode) other new_name answer.0

  pub rename_stages : is_name name && is_name new_name ≡ true → renamed_stages (files_of u fs) d name other new_name ≡ stages
  rename_stages good =
      stages_are (files_of u fs) d name other new_name (inode_links x.from) (inode_links x.to) (blocks_value u x.from) (blocks_value u x.to) (entry.at, slot.inode) answer.0 (directory_value u fs d x.from x.is_from)
      (directory_value u fs other x.to x.is_to) good entry.looked (sym answer.1)

  pub naming_stage : (new : StoreState) (fault : FfsFault) → StopsNaming T fs old new other new_name slot.inode fault → IsRefused T fs old new fault stages
  naming_stage new fault s = elim s [
    | inl home_refused ↦ inl home_refused
    | inr q ↦ inr (inl (q.0, adds_value u (latest q.0.lives) fs slot.inode x.own x.is_own q.1, q.2))
  ]

  pub unnaming_stage : (middle new : StoreState) → IsConsistent T middle → IsConsistent T new → NamedAgain u (latest middle.lives) fs other new_name slot.inode → (fault : FfsFault) → StopsUnnaming T fs middle new slot fault →
      IsRefused T fs old new fault stages
  unnaming_stage middle new before after z fault s =
      let w = latest middle.lives in
      let once = blocks_once T lib middle before fs few in
      let there = home u w fs d name other new_name slot x z once entry answer.0 answer.1 in
      let place = home_place u w fs d name other new_name slot x z once entry answer.0 answer.1 in
      elim s [
        | inl p ↦ inr (inr (inl (middle, named_value u w fs d name other new_name slot x z once entry answer.0 answer.1, asks_entry T fs d middle new there.0 slot entry.at there.1 place fault p.0 p.1)))
        | inr q ↦
            inr (inr (inr (link_stage T lib fs few q.0 new after slot.inode _ (cleared_value u w fs d name other new_name slot x z once entry answer.0 answer.1 (latest q.0.lives) q.1) fault q.2)))
      ]
