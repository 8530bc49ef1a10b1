use Rattle.xn_kernel.proofs.ticket.Ticket+MemLane+A.fail_next_write.Goals as goal

pub invariant_of-self : goal.invariant_of-self
invariant_of-self g c = rw c.fail_write.ensures c.self.invariant
