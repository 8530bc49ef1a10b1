-- Rows of commands on small disks, with their replies.
use Rattle.std.specs.Prelude.{ℕ, zero, suc, map, length, filter_map, flat_map, ◌==◌, ◌*◌, ◌+◌, ◌-◌, true, false, cond, List, [], ◌∷◌, ◌++◌, replicate, Option}
use Rattle.std.specs.Prelude.{Some, None, bytes_eq}
use Rattle.std.specs.Int.{w32, to_le_bytes}
use Rattle.xn_model.specs.Root.{word_at, unless_empty}
use Rattle.xn_model.specs.Languages.{Language, Template}
use Rattle.xn_model.specs.Results.{NotSynced, NothingSafe, NotYours, NotInUse, NoSuchBlock, RootTaken, ClaimWrong, NotOwned, BadAfter, TooManyPending, NotFresh}
use Rattle.xn_model.specs.Results.{NotEmpty, Cycle, NoSlot, BadType, BadTemplate}
use Rattle.xn_model.specs.Calls.{Edit}
use Rattle.xn_model.specs.BareDisks.{zeros}
use Rattle.xn_model.specs.Worlds.{Event, Client, Install, Begin, Land, Fail, Sync, FailSync, Finish, Crash, Init, Propose, MakeRoot, DropRoot, Forget, Read}
use Rattle.xn_model.specs.Worlds.{Floor, Pending, Drain, Reply, Started, Installed, Edited, Bytes, Begun, Landed, Synced, Finished, FloorIs, Refused, Mounted}
use Rattle.xn_model.specs.Worlds.{Drained, Fault, Forgotten, PendingIs, NoTicket}
use Rattle.std.specs.List.{range_with_len}

-- bytes with zeros up to a block's end
abbrev pub block : List ℕ → List ℕ
block bytes = bytes ++ zeros (512 - length bytes)

-- a row: what is sent, and what is answered
abbrev pub Row : Type 0
Row = List (Event × Reply)

abbrev pub sent : Row → List Event
sent row = map (λ p. p.0) row

abbrev pub answered : Row → List Reply
answered row = map (λ p. p.1) row

-- an edit of one patch
abbrev pub patch : ℕ → List ℕ → List (ℕ × ℕ) → List ℕ → Option ℕ → Edit
patch at bytes adds drops after = record { patches = record { offset = at; bytes = bytes } ∷ []; adds = adds; drops = drops; after = after }

abbrev pub edit : ℕ → ℕ → Edit → Event
edit fs b e = Client fs (Propose b e)

abbrev pub init_event : ℕ → ℕ → List ℕ → Event
init_event fs t bytes = Client fs (Init t (block bytes))

-- begin, land, sync, finish
abbrev pub write_row : ℕ → ℕ → ℕ → Row
write_row b entries freed = (Begin b, Begun entries) ∷ (Land b, Landed) ∷ (Sync b, Synced) ∷ (Finish b, Finished entries freed) ∷ []

abbrev pub first_row : Row
first_row =
    (init_event 0 2 (65 ∷ 66 ∷ 67 ∷ []), Started 1 1)
    ∷ (Client 0 (MakeRoot 1), Edited 2)
    ∷ (Begin 0, Refused NothingSafe)
    ∷ (Begin 1, Begun 1)
    ∷ (Land 1, Landed)
    ∷ (Begin 0, Refused NothingSafe)
    ∷ (Sync 1, Synced)
    ∷ (Finish 1, Finished 1 0)
    ∷ (Begin 0, Begun 1)
    ∷ (Land 0, Landed)
    ∷ (Sync 0, Synced)
    ∷ (Finish 0, Finished 1 0)
    ∷ (Client 0 Floor, FloorIs 3)
    ∷ []

-- a block is free once its drop is durable, and not before
abbrev pub dropped_row : Row
dropped_row = first_row ++ (
    (Client 0 DropRoot, Edited 3)
    ∷ (Begin 0, Begun 1)
    ∷ (Land 0, Landed)
    ∷ (init_event 0 2 [], Started 2 4)
    ∷ (Sync 0, Synced)
    ∷ (Finish 0, Finished 1 1)
    ∷ (init_event 0 2 [], Started 1 5)
    ∷ [])

-- a crash with a write that landed and is kept, and without
abbrev pub landed_row : Row
landed_row = first_row ++ (
    (edit 0 1 (patch 0 (90 ∷ []) [] [] None), Edited 3)
    ∷ (Begin 1, Begun 1)
    ∷ (Land 1, Landed)
    ∷ (Crash (1 ∷ []), Mounted 2 30)
    ∷ (Client 0 (Read 1), Bytes (block (90 ∷ 66 ∷ 67 ∷ [])))
    ∷ [])

abbrev pub lost_row : Row
lost_row = first_row ++ (
    (edit 0 1 (patch 0 (90 ∷ []) [] [] None), Edited 3)
    ∷ (Begin 1, Begun 1)
    ∷ (Crash [], Mounted 2 30)
    ∷ (Client 0 (Read 1), Bytes (block (65 ∷ 66 ∷ 67 ∷ [])))
    ∷ [])

-- a write that is open: it can't be finished, and a crash may lose it or keep it, until it is synced
abbrev pub open_row : Row
open_row = first_row ++ (
    (edit 0 1 (patch 0 (90 ∷ []) [] [] None), Edited 3)
    ∷ (Begin 1, Begun 1)
    ∷ (Land 1, Landed)
    ∷ (Finish 1, Refused NotSynced)
    ∷ [])

abbrev pub open_lost_row : Row
open_lost_row = open_row ++ (
    (Crash [], Mounted 2 30)
    ∷ (Client 0 (Read 1), Bytes (block (65 ∷ 66 ∷ 67 ∷ [])))
    ∷ [])

abbrev pub open_kept_row : Row
open_kept_row = open_row ++ (
    (Crash (1 ∷ []), Mounted 2 30)
    ∷ (Client 0 (Read 1), Bytes (block (90 ∷ 66 ∷ 67 ∷ [])))
    ∷ [])

abbrev pub synced_row : Row
synced_row = open_row ++ (
    (Sync 1, Synced)
    ∷ (Crash [], Mounted 2 30)
    ∷ (Client 0 (Read 1), Bytes (block (90 ∷ 66 ∷ 67 ∷ [])))
    ∷ [])

abbrev pub failed_sync_row : Row
failed_sync_row = open_row ++ (
    (FailSync 1, Fault)
    ∷ (Finish 1, Refused NotSynced)
    ∷ (Sync 1, Synced)
    ∷ (Finish 1, Finished 1 0)
    ∷ [])

-- blocks past the disk's count are passed over, and so are those with no open write; a failed write may be kept too
abbrev pub failed_kept_row : Row
failed_kept_row = first_row ++ (
    (edit 0 1 (patch 0 (90 ∷ []) [] [] None), Edited 3)
    ∷ (Begin 1, Begun 1)
    ∷ (Fail 1 false, Fault)
    ∷ (Finish 1, Refused NotSynced)
    ∷ (Crash (0 ∷ 1 ∷ 99 ∷ []), Mounted 2 30)
    ∷ (Client 0 (Read 1), Bytes (block (90 ∷ 66 ∷ 67 ∷ [])))
    ∷ [])

-- a write that fails with the new bytes on the disk, and with the old
abbrev pub failed_new_row : Row
failed_new_row = first_row ++ (
    (edit 0 1 (patch 0 (90 ∷ []) [] [] None), Edited 3)
    ∷ (Begin 1, Begun 1)
    ∷ (Fail 1 true, Fault)
    ∷ (Sync 1, Synced)
    ∷ (Finish 1, Finished 1 0)
    ∷ [])

abbrev pub failed_old_row : Row
failed_old_row = first_row ++ (
    (edit 0 1 (patch 0 (90 ∷ []) [] [] None), Edited 3)
    ∷ (Begin 1, Begun 1)
    ∷ (Fail 1 false, Fault)
    ∷ (Sync 1, Synced)
    ∷ (Finish 1, Finished 0 0)
    ∷ (Begin 1, Begun 1)
    ∷ [])

-- 64 pending entries and no more
abbrev pub numbered_edits : ℕ → ℕ → Row
numbered_edits zero n = []
numbered_edits (suc k) n = (edit 0 1 (patch 0 (65 ∷ []) [] [] None), Edited n) ∷ numbered_edits k (n + 1)

abbrev pub many_row : Row
many_row =
    ((init_event 0 2 [], Started 1 1) ∷ numbered_edits 63 2)
    ++ ((edit 0 1 (patch 0 (65 ∷ []) [] [] None), Refused TooManyPending) ∷ (Begin 1, Begun 64) ∷ [])

abbrev pub refused_row : Row
refused_row = first_row ++ (
    (Client 1 (Read 1), Refused NotYours)
    ∷ (Client 0 (Read 9), Refused NotInUse)
    ∷ (Client 0 (Read 32), Refused NoSuchBlock)
    ∷ (Client 0 (Read 0), Refused NotYours)
    ∷ (init_event 0 2 [], Started 2 3)
    ∷ (Client 0 (MakeRoot 2), Refused RootTaken)
    ∷ (edit 0 1 (patch 0 (65 ∷ []) ((2, 2) ∷ []) [] None), Refused ClaimWrong)
    ∷ (edit 0 1 (patch 0 (65 ∷ []) [] (2 ∷ []) None), Refused NotOwned)
    ∷ (Client 1 DropRoot, Refused NotOwned)
    ∷ (Client 0 (Forget 2), Forgotten)
    ∷ (Client 0 Floor, FloorIs 4)
    ∷ [])

abbrev pub after_row : Row
after_row =
    (init_event 0 2 [], Started 1 1)
    ∷ (init_event 0 2 [], Started 2 2)
    ∷ (edit 0 1 (patch 0 (65 ∷ []) [] [] (Some 9)), Refused BadAfter)
    ∷ (edit 0 1 (patch 0 (65 ∷ []) [] [] (Some 2)), Edited 3)
    ∷ (Begin 1, Begun 1)
    ∷ (Land 1, Landed)
    ∷ (Sync 1, Synced)
    ∷ (Finish 1, Finished 1 0)
    ∷ (Begin 1, Refused NothingSafe)
    ∷ (Begin 2, Begun 1)
    ∷ (Land 2, Landed)
    ∷ (Sync 2, Synced)
    ∷ (Finish 2, Finished 1 0)
    ∷ (Begin 1, Begun 1)
    ∷ (Finish 2, NoTicket)
    ∷ []

abbrev pub drained_row : Row
drained_row =
    (init_event 0 2 [], Started 1 1)
    ∷ (Client 0 (MakeRoot 1), Edited 2)
    ∷ (Client 0 Pending, PendingIs 2)
    ∷ (Client 0 Drain, Drained 2)
    ∷ (Client 0 Pending, PendingIs 0)
    ∷ (Crash [], Mounted 2 30)
    ∷ []

-- Templates of a library file system

abbrev pub words_from : ℕ → ℕ → List ℕ → ℕ → List (ℕ × ℕ)
words_from at count m t = filter_map (λ i. unless_empty (word_at m (at + 4 * i), t)) (range_with_len 0 count)

abbrev pub first_byte : List ℕ → ℕ
first_byte [] = 0
first_byte (x ∷ xs) = x

-- the pairs of the inode at a place of its block
abbrev pub row_inode_pairs : List ℕ → ℕ → List (ℕ × ℕ)
row_inode_pairs m i = words_from (64 * i + 8) 12 m 2 ++ words_from (64 * i + 56) 1 m 5

-- blocks whose first byte is 3, 4 or 5 stand for the three templates
abbrev pub library : Language
library m =
    let n = first_byte m in
    cond (n == 3) (Some (record { owned = λ x. words_from 0 16 x 4; size = λ x. 64 }))
    (cond (n == 4) (Some (record { owned = λ x. flat_map (row_inode_pairs x) (range_with_len 0 8); size = λ x. 512 }))
    (cond (n == 5) (Some (record { owned = λ x. words_from 0 128 x 2; size = λ x. 512 })) None))

-- block 0 that names templates in the first blocks, with these; all else is 0
abbrev pub disk_with : ℕ → List (List ℕ) → List (List ℕ)
disk_with count templates =
    block ((88 ∷ 78 ∷ 57 ∷ 55 ∷ []) ++ (to_le_bytes w32 count ++ flat_map (λ i. to_le_bytes w32 (i + 1)) (range_with_len 0 (length templates))))
    ∷ (templates ++ replicate (count - 1 - length templates) (zeros 512))

abbrev pub library_disk : ℕ → List (List ℕ)
library_disk count = disk_with count (block (3 ∷ []) ∷ block (4 ∷ []) ∷ block (5 ∷ []) ∷ [])

abbrev pub rolled_back_row : Row
rolled_back_row =
    (init_event 0 3 [], Started 4 1)
    ∷ (Client 0 (MakeRoot 4), Edited 2)
    ∷ (Client 0 Drain, Drained 2)
    ∷ (init_event 0 4 [], Started 5 3)
    ∷ (init_event 0 4 [], Started 6 4)
    ∷ (Begin 5, Begun 1)
    ∷ (Land 5, Landed)
    ∷ (Sync 5, Synced)
    ∷ (Finish 5, Finished 1 0)
    ∷ (edit 0 4 (patch 0 (5 ∷ 0 ∷ 0 ∷ 0 ∷ []) ((5, 4) ∷ []) [] None), Edited 5)
    ∷ (edit 0 4 (patch 4 (6 ∷ 0 ∷ 0 ∷ 0 ∷ []) ((6, 4) ∷ []) [] None), Edited 6)
    ∷ (Begin 4, Begun 1)
    ∷ (Client 0 (Read 4), Bytes (block (5 ∷ 0 ∷ 0 ∷ 0 ∷ 6 ∷ [])))
    ∷ (Land 4, Landed)
    ∷ (Sync 4, Synced)
    ∷ (Finish 4, Finished 1 0)
    ∷ (Crash [], Mounted 6 26)
    ∷ (Client 0 (Read 4), Bytes (block (5 ∷ [])))
    ∷ []

abbrev pub claimed_row : Row
claimed_row =
    (init_event 0 3 [], Started 4 1)
    ∷ (Client 0 (MakeRoot 4), Edited 2)
    ∷ (init_event 0 4 [], Started 5 3)
    ∷ (init_event 0 4 [], Started 6 4)
    ∷ (edit 0 4 (patch 0 (5 ∷ 0 ∷ 0 ∷ 0 ∷ 6 ∷ 0 ∷ 0 ∷ 0 ∷ []) ((5, 4) ∷ []) [] None), Refused ClaimWrong)
    ∷ (Client 0 (Read 4), Bytes (block []))
    ∷ (edit 0 4 (patch 0 (5 ∷ 0 ∷ 0 ∷ 0 ∷ []) ((5, 4) ∷ []) [] None), Edited 5)
    ∷ (edit 0 4 (patch 0 (0 ∷ 0 ∷ 0 ∷ 0 ∷ 5 ∷ 0 ∷ 0 ∷ 0 ∷ []) [] [] None), Edited 6)
    ∷ (Client 0 (Read 4), Bytes (block (0 ∷ 0 ∷ 0 ∷ 0 ∷ 5 ∷ [])))
    ∷ []

-- A fresh block owns another and is attached with it

abbrev pub attached_row : Row
attached_row =
    (init_event 0 3 [], Started 4 1)
    ∷ (init_event 0 4 [], Started 5 2)
    ∷ (edit 0 4 (patch 0 (5 ∷ 0 ∷ 0 ∷ 0 ∷ []) ((5, 4) ∷ []) [] None), Edited 3)
    ∷ (Client 0 (Forget 4), Refused NotEmpty)
    ∷ (Client 0 (MakeRoot 4), Edited 4)
    ∷ (Begin 0, Refused NothingSafe)
    ∷ (Begin 4, Begun 1)
    ∷ (Land 4, Landed)
    ∷ (Sync 4, Synced)
    ∷ (Finish 4, Finished 1 0)
    ∷ (Begin 0, Begun 1)
    ∷ (Land 0, Landed)
    ∷ (Sync 0, Synced)
    ∷ (Finish 0, Finished 1 0)
    ∷ (Crash [], Mounted 5 27)
    ∷ (Client 0 (Read 4), Bytes (block []))
    ∷ []

-- Templates of blocks with one pointer

-- the one of a pointer to a block of type t, as its programs are spelled
abbrev pub chain_bytes : ℕ → List ℕ
chain_bytes t = block ((88 ∷ 84 ∷ 5 ∷ 1 ∷ []) ++ ((12 ∷ 1 ∷ 0 ∷ 0 ∷ []) ++
    ((14 ∷ 0 ∷ 1 ∷ 0 ∷ []) ++ ((1 ∷ 2 ∷ t ∷ 0 ∷ []) ++ ((13 ∷ 1 ∷ 2 ∷ 0 ∷ []) ++ ((17 ∷ 0 ∷ 0 ∷ 0 ∷ []) ++ (1 ∷ 0 ∷ 4 ∷ 0 ∷ [])))))))

abbrev pub chain_to : ℕ → Template
chain_to t = record { owned = λ x. words_from 0 1 x t; size = λ x. 4 }

-- type 3 or type 4
abbrev pub chains : Language
chains m = cond (bytes_eq m (chain_bytes 3)) (Some (chain_to 3)) (cond (bytes_eq m (chain_bytes 4)) (Some (chain_to 4)) None)

-- a disk with such a template to type t
abbrev pub chain_disk : ℕ → ℕ → List (List ℕ)
chain_disk t count = disk_with count (chain_bytes t ∷ [])

-- no chain of owners comes back to where it was
abbrev pub cycle_row : Row
cycle_row =
    (init_event 0 3 [], Started 2 1)
    ∷ (init_event 0 3 [], Started 3 2)
    ∷ (edit 0 2 (patch 0 (2 ∷ 0 ∷ 0 ∷ 0 ∷ []) ((2, 3) ∷ []) [] None), Refused Cycle)
    ∷ (edit 0 2 (patch 0 (3 ∷ 0 ∷ 0 ∷ 0 ∷ []) ((3, 3) ∷ []) [] None), Edited 3)
    ∷ (edit 0 3 (patch 0 (2 ∷ 0 ∷ 0 ∷ 0 ∷ []) ((2, 3) ∷ []) [] None), Refused Cycle)
    ∷ (edit 0 3 (patch 0 (3 ∷ 0 ∷ 0 ∷ 0 ∷ []) ((3, 3) ∷ []) [] None), Refused NotFresh)
    ∷ []

-- Templates that are installed

-- block 0 may be written once the template's block is on the disk
abbrev pub installed_row : Row
installed_row =
    ((Install (chain_bytes 3), Installed 3 1 1 2) ∷ (init_event 0 3 [], Started 2 3) ∷ (Client 0 (MakeRoot 2), Edited 4) ∷ [])
    ++ (write_row 2 1 0
    ++ ((Begin 0, Refused NothingSafe) ∷ []
    ++ (write_row 1 1 0
    ++ (write_row 0 2 0
    ++ ((Crash [], Mounted 3 29) ∷ [])))))

-- a block that names one of a new type waits for block 0
abbrev pub used_row : Row
used_row =
    ((init_event 0 3 [], Started 2 1)
    ∷ (Client 0 (MakeRoot 2), Edited 2)
    ∷ (Client 0 Drain, Drained 2)
    ∷ (Install (chain_bytes 3), Installed 4 3 3 4)
    ∷ (init_event 0 4 [], Started 4 5)
    ∷ (edit 0 2 (patch 0 (4 ∷ 0 ∷ 0 ∷ 0 ∷ []) ((4, 4) ∷ []) [] None), Edited 6)
    ∷ [])
    ++ (write_row 4 1 0
    ++ ((Begin 2, Refused NothingSafe)
    ∷ (Client 0 Drain, Drained 3)
    ∷ (Crash [], Mounted 5 27)
    ∷ (Install (zeros 512), Refused BadTemplate)
    ∷ []))

-- a type is gone after a crash where block 0 is not written, and stays where it is
abbrev pub gone_row : Row
gone_row =
    ((Install (chain_bytes 3), Installed 3 1 1 2) ∷ [])
    ++ (write_row 1 1 0
    ++ (((Crash [], Mounted 1 31)
    ∷ (init_event 0 3 [], Refused BadType)
    ∷ (Install (chain_bytes 4), Installed 3 1 1 2)
    ∷ (init_event 0 3 [], Started 2 3)
    ∷ (Client 0 (MakeRoot 2), Edited 4)
    ∷ [])
    ++ (write_row 1 1 0
    ++ (write_row 0 1 0
    ++ ((Crash [], Mounted 2 30) ∷ (init_event 0 3 [], Started 2 1) ∷ [])))))

-- 16 templates and no more
abbrev pub numbered_templates : ℕ → ℕ → Row
numbered_templates zero n = []
numbered_templates (suc k) n = (Install (chain_bytes 3), Installed (n + 3) (n + 1) (2 * n + 1) (2 * n + 2)) ∷ numbered_templates k (n + 1)

abbrev pub full_row : Row
full_row = numbered_templates 16 0 ++ ((Install (chain_bytes 3), Refused NoSlot) ∷ (init_event 0 19 [], Refused BadType) ∷ (init_event 0 18 [], Started 17 33) ∷ [])

-- A subtree of an installed type is attached whole, and block 0 names the type and it in one write. That write is open, and a
-- crash may keep it.
abbrev pub subtree_row : Row
subtree_row =
    ((Install (chain_bytes 3), Installed 3 1 1 2)
    ∷ (init_event 0 3 [], Started 2 3)
    ∷ (init_event 0 3 [], Started 3 4)
    ∷ (edit 0 2 (patch 0 (3 ∷ 0 ∷ 0 ∷ 0 ∷ []) ((3, 3) ∷ []) [] None), Edited 5)
    ∷ (Client 0 (MakeRoot 2), Edited 6)
    ∷ (Begin 0, Refused NothingSafe)
    ∷ [])
    ++ (write_row 1 1 0
    ++ (write_row 3 1 0
    ++ (write_row 2 1 0
    ++ ((Begin 2, Refused NothingSafe)
    ∷ (Begin 0, Begun 2)
    ∷ (Land 0, Landed)
    ∷ (Begin 2, Refused NothingSafe)
    ∷ []))))

abbrev pub subtree_kept_row : Row
subtree_kept_row = subtree_row ++ ((Crash (0 ∷ []), Mounted 3 29) ∷ (Client 0 (Read 2), Bytes (block [])) ∷ (init_event 0 3 [], Started 3 1) ∷ [])

abbrev pub subtree_lost_row : Row
subtree_lost_row = subtree_row ++ ((Crash [], Mounted 1 31) ∷ (Client 0 (Read 2), Refused NotInUse) ∷ (init_event 0 3 [], Refused BadType) ∷ [])
