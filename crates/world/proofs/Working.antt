-- What work with the block of a write that is under way leaves is a world, and one step of the model.
use Rattle.std.proofs.Common.{◌≡◌, ℕ, Option, Some, None, Result, Ok, Err, sym, ◌∙◌, ap, subst, slice_set}
use Rattle.std.specs.Prelude.{is_some}
use Rattle.std.proofs.lemmas.Bool.{false≢true}
use Rattle.std.proofs.lemmas.Option.{none-some}
use Rattle.disk.specs.declared.lane.DeviceFault.{DeviceFault}
use Rattle.disk.specs.Mem.{MemoryLane}
use Rattle.xn_model.specs.Worlds.{Event, NoTicket, Reply, Step}
use Rattle.xn_kernel.specs.Kernels.{KernelValue, TicketValue}
use Rattle.world.specs.Disks.{ticket_at}
use Rattle.world.specs.Worlds.{Tickets, IsWorld, world_of}
use Rattle.world.specs.Works.{IsWorked, done_reply, work_event, work_reply}
use Rattle.world.specs.declared.ticket.Work.{Work}
use Rattle.world.specs.declared.ticket.Work.TheVariants.{Land, Fail, Sync, FailSync}
use Rattle.world.proofs.Stepping.{land_without, land_step, land_world, fail_without, fail_step, fail_world, sync_without, sync_step, sync_world, fail_sync_without, fail_sync_step, fail_sync_world}

module _ (kernel : KernelValue MemoryLane) (tickets : Tickets) (is : IsWorld kernel tickets) (b : ℕ) where
  abbrev pub Stepped : Event → Reply → Tickets → Type 0
  Stepped event reply after = Step (world_of kernel tickets) event reply (world_of kernel after) × IsWorld kernel after

  none_there : (work : Work) → ticket_at tickets b ≡ None → Step (world_of kernel tickets) (work_event work b) NoTicket (world_of kernel tickets)
  none_there Land none = land_without kernel tickets is b none
  none_there (Fail stays) none = fail_without kernel tickets is b stays none
  none_there Sync none = sync_without kernel tickets is b none
  none_there FailSync none = fail_sync_without kernel tickets is b none

  -- A ticket takes another one's place.
  placed : (event : Event) (reply : Reply) (worked next : TicketValue MemoryLane) (after : Tickets) → worked ≡ next → after ≡ slice_set tickets b (Some worked) →
      Step (world_of kernel tickets) event reply (world_of kernel (slice_set tickets b (Some next))) × IsWorld kernel (slice_set tickets b (Some next)) → Stepped event reply after
  placed event reply worked next after same set step =
      subst (λ ts. Stepped event reply ts) (sym (set ∙ ap (λ t. slice_set tickets b (Some t)) same)) step

  pub worked : (work : Work) (answer : Option (Result (Unit {0}) DeviceFault)) (after : Tickets) → IsWorked work tickets b answer after → Stepped (work_event work b) (work_reply work answer) after
  worked work None after h = subst (λ ts. Stepped (work_event work b) NoTicket ts) (sym h.1) (none_there work h.0, is)
  worked Land (Some (Ok done)) after h =
      let w = h.3 in
      placed (work_event Land b) (done_reply Land) h.1 _ after w.2 h.4 (land_step kernel tickets is b h.0 h.2 w.0 w.1.1, land_world kernel tickets is b h.0 h.2 w.0 w.1.1)
  worked Land (Some (Err fault)) after h = absurd (false≢true (ap is_some (sym (is.mine b h.0 h.2).calm.0) ∙ h.3.1.0))
  worked (Fail stays) (Some (Ok done)) after h = absurd (none-some stays (sym h.3.1.0))
  worked (Fail stays) (Some (Err fault)) after h =
      let w = h.3 in
      placed (work_event (Fail stays) b) (work_reply (Fail stays) (Some (Err fault))) h.1 _ after w.2 h.4
      (fail_step kernel tickets is b h.0 h.2 w.0 stays w.1.1 w.1.2, fail_world kernel tickets is b h.0 h.2 w.0 stays w.1.1 w.1.2)
  worked Sync (Some (Ok done)) after h =
      let w = h.3 in
      placed (work_event Sync b) (done_reply Sync) h.1 _ after w.2 h.4 (sync_step kernel tickets is b h.0 h.2 w.0 w.1.1, sync_world kernel tickets is b h.0 h.2 w.0 w.1.1)
  worked Sync (Some (Err fault)) after h = absurd (false≢true (sym (is.mine b h.0 h.2).calm.2 ∙ h.3.1.0))
  worked FailSync (Some (Ok done)) after h = absurd (false≢true (sym h.3.1.0))
  worked FailSync (Some (Err fault)) after h =
      let w = h.3 in
      placed (work_event FailSync b) (work_reply FailSync (Some (Err fault))) h.1 _ after w.2 h.4
      (fail_sync_step kernel tickets is b h.0 h.2 w.0 w.1.1, fail_sync_world kernel tickets is b h.0 h.2 w.0 w.1.1)
