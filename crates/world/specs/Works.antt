-- Work with the blocks of writes that are under way.
--     Works work ticket answer after           what it answers, and the ticket after it
--     IsWorked work tickets b answer after     the same of block b, where that has a ticket
use Rattle.std.specs.Prelude.{◌≡◌, ℕ, Option, Some, None, Result, Ok, Err, true, slice_set}
use Rattle.disk.specs.declared.lane.DeviceFault.{DeviceFault}
use Rattle.disk.specs.Mem.{MemoryLane, memory_write, memory_sync}
use Rattle.xn_kernel.specs.Kernels.{TicketValue}
use Rattle.xn_model.specs.Worlds as model
use Rattle.world.specs.Disks.{synced_ticket, ticket_at}
use Rattle.world.specs.Worlds.{Tickets}
use Rattle.world.specs.declared.ticket.Work.{Work}
use Rattle.world.specs.declared.ticket.Work.TheVariants.{Land, Fail, Sync, FailSync}

-- a write or a sync by the ticket's lane, which is told to fail it where that is the work
abbrev pub Works : Work → TicketValue MemoryLane → Result (Unit {0}) DeviceFault → TicketValue MemoryLane → Type 0
Works Land ticket answer after =
    (lane : MemoryLane) × memory_write ticket.lane ticket.bytes answer lane × (after ≡ record ticket { lane = lane; unsynced = true })
Works (Fail stays) ticket answer after =
    (lane : MemoryLane) × memory_write (record ticket.lane { write_fault = Some stays }) ticket.bytes answer lane
    × (after ≡ record ticket { lane = lane; unsynced = true })
Works Sync ticket answer after = (lane : MemoryLane) × memory_sync ticket.lane answer lane × (after ≡ synced_ticket ticket answer lane)
Works FailSync ticket answer after =
    (lane : MemoryLane) × memory_sync (record ticket.lane { sync_fault = true }) answer lane × (after ≡ synced_ticket ticket answer lane)

abbrev pub IsWorked : Work → Tickets → ℕ → Option (Result (Unit {0}) DeviceFault) → Tickets → Type 0
IsWorked work tickets b None after = (ticket_at tickets b ≡ None) × (after ≡ tickets)
IsWorked work tickets b (Some answer) after =
    (ticket : TicketValue MemoryLane) × (worked : TicketValue MemoryLane) × (ticket_at tickets b ≡ Some ticket) × Works work ticket answer worked
    × (after ≡ slice_set tickets b (Some worked))

-- the event that it is, and what is told of it
abbrev pub work_event : Work → ℕ → model.Event
work_event Land b = model.Land b
work_event (Fail stays) b = model.Fail b stays
work_event Sync b = model.Sync b
work_event FailSync b = model.FailSync b

abbrev pub done_reply : Work → model.Reply
done_reply Land = model.Landed
done_reply (Fail stays) = model.Landed
done_reply Sync = model.Synced
done_reply FailSync = model.Synced

abbrev pub work_reply : Work → Option (Result (Unit {0}) DeviceFault) → model.Reply
work_reply work None = model.NoTicket
work_reply work (Some (Ok done)) = done_reply work
work_reply work (Some (Err fault)) = model.Fault
