use Rattle.disk.specs.Mem.{MemoryLane, memory_read, memory_sync, memory_write}
use Rattle.volume_pair.proofs.Rounds.{drain_after}
use Rattle.volume_pair.proofs.shared_files.HubMemLaneDisk.drain.Goals as goal

pub returns : goal.returns
returns g c =
    (drain_after (λ (lane : MemoryLane). lane.bytes) (λ (lane : MemoryLane). lane.faults) memory_write memory_sync memory_read c.args.self.now.kernel c.drain-drained.new.self.kernel c.drain-drained.result
    (λ stop. stop.writes) (λ stop. stop.ticket) (λ stop. stop.refusal) c.drain-drained.ensures.rounds c.drain-drained.ensures.err)
