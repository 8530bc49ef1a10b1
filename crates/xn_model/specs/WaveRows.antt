-- A disk with several blocks pending, and the waves that write them.
use Rattle.std.specs.Prelude.{false, ℕ, ◌==◌, cond, List, [], ◌∷◌, ◌++◌, None}
use Rattle.xn_model.specs.BareDisks.{empty_language, bare_disk, mounted_disk}
use Rattle.xn_model.specs.Worlds.{World, Event, Reply, Client, Install, MakeRoot, Drain, Begin, Sync, Finish, Started, Edited, Installed, Drained, Begun}
use Rattle.xn_model.specs.Worlds.{Landed, Synced, Fault, Finished, world_after}
use Rattle.xn_model.specs.Waves.{Outcome, Done, EndsAnyway, SyncFails, wave_with}
use Rattle.xn_model.specs.Rows.{Row, sent, init_event, edit, patch, chains, chain_disk, chain_bytes}

-- three new blocks, two of which are put into root slots
abbrev pub pending_row : Row
pending_row =
    (init_event 0 2 [], Started 1 1)
    ∷ (init_event 1 2 (65 ∷ []), Started 2 2)
    ∷ (init_event 2 2 [], Started 3 3)
    ∷ (Client 0 (MakeRoot 1), Edited 4)
    ∷ (Client 1 (MakeRoot 2), Edited 5)
    ∷ []

abbrev pub pending_world : World
pending_world = world_after (mounted_disk empty_language (bare_disk 32)) (sent pending_row)

-- a type is installed, and a block that is on the disk already is to name a new one of that type
abbrev pub typed_row : Row
typed_row =
    (init_event 0 3 [], Started 2 1)
    ∷ (Client 0 (MakeRoot 2), Edited 2)
    ∷ (Client 0 Drain, Drained 2)
    ∷ (Install (chain_bytes 3), Installed 4 3 3 4)
    ∷ (init_event 0 4 [], Started 4 5)
    ∷ (edit 0 2 (patch 0 (4 ∷ 0 ∷ 0 ∷ 0 ∷ []) ((4, 4) ∷ []) [] None), Edited 6)
    ∷ []

abbrev pub typed_world : World
typed_world = world_after (mounted_disk chains (chain_disk 4 32)) (sent typed_row)

-- block 0 waits for both blocks
abbrev pub flush_replies : List Reply
flush_replies =
    Begun 1
    ∷ Begun 1
    ∷ Begun 1
    ∷ Landed
    ∷ Landed
    ∷ Landed
    ∷ Synced
    ∷ Synced
    ∷ Synced
    ∷ Finished 1 0
    ∷ Finished 1 0
    ∷ Finished 1 0
    ∷ Begun 2
    ∷ Landed
    ∷ Synced
    ∷ Finished 2 0
    ∷ []

-- block 2's sync fails
abbrev pub fails_at_two : ℕ → Outcome
fails_at_two b = cond (b == 2) SyncFails Done

-- and is made good after block 0 was begun, which carries what is safe without it
abbrev pub failed_events : List Event
failed_events = wave_with fails_at_two (3 ∷ 2 ∷ 1 ∷ []) ++ (Begin 0 ∷ Sync 2 ∷ Finish 2 ∷ [])

abbrev pub failed_replies : List Reply
failed_replies =
    Begun 1
    ∷ Begun 1
    ∷ Begun 1
    ∷ Landed
    ∷ Landed
    ∷ Landed
    ∷ Synced
    ∷ Fault
    ∷ Synced
    ∷ Finished 1 0
    ∷ Finished 1 0
    ∷ Begun 1
    ∷ Synced
    ∷ Finished 1 0
    ∷ []

-- block 2's write fails and leaves the old bytes, and it is finished all the same: then it can be begun again, and so can block 0
abbrev pub old_at_two : ℕ → Outcome
old_at_two b = cond (b == 2) (EndsAnyway false) Done

abbrev pub old_events : List Event
old_events = wave_with old_at_two (1 ∷ 2 ∷ []) ++ (Begin 0 ∷ Begin 2 ∷ [])

abbrev pub old_replies : List Reply
old_replies =
    Begun 1
    ∷ Begun 1
    ∷ Landed
    ∷ Fault
    ∷ Synced
    ∷ Synced
    ∷ Finished 1 0
    ∷ Finished 0 0
    ∷ Begun 1
    ∷ Begun 1
    ∷ []
