-- What is known of a file system stays over the rounds of a drain.
use Rattle.std.proofs.Common.{◌≡◌, ℕ, zero, suc, List, Option, Some, None, Result, Ok, Err, sym, inl, inr, subst, IfOk, IfErr}
use Rattle.store_types.specs.declared.refusal.Refusal.{Refusal}
use Rattle.xn_model.specs.Lives.{StoreState}
use Rattle.xn_model.specs.Calls.{begun_of, settled_of}
use Rattle.xn_model.proofs.ForCallers.{begun_keeps, settled_keeps}
use Rattle.xn_state.specs.States.{own_types}
use Rattle.xn_kernel.specs.Kernels.{KernelValue, TicketValue}
use Rattle.xn_kernel.specs.Drains.{Reads, Refuses, Round, Rounds, StopsAtDevice, WriteRelation}
use Rattle.ffs_model.specs.Library.{library_layout}
use Rattle.ffs_model.proofs.ForCallers.{begin_cuts, begin_next, library_reads, none_later, settle_cuts, settle_next, volume_from}
use Rattle.templates.specs.Language.{language}
use Rattle.volume_pair.specs.Kept.{Lasts, Stays}
use Rattle.volume_pair.proofs.Kept.{has_still}

begun_stays : (old new : StoreState) (b : ℕ) (given : List ℕ × ℕ) → begun_of old b ≡ Ok (given, new) → Stays (own_types old) old (own_types new) new
begun_stays old new b given e has =
    let T = own_types old in
    let k = begun_keeps T old has.rules b given new e in
    subst (λ U. Lasts T old U new) (sym (k.types language)) (record {
      has = has_still T old new has k;
      keeps = λ fs array few v.
          volume_from T T library_layout (library_reads T has.library) fs few array old new k.consistent (none_later new.next old.next (begin_next old new b given e)) (begin_cuts T old v.consistent fs b given new k.consistent e) v;
    })

settled_stays : (old new : StoreState) (b : ℕ) (bytes : List ℕ) (done : ℕ × ℕ) → settled_of old b bytes ≡ Ok (done, new) → Stays (own_types old) old (own_types new) new
settled_stays old new b bytes done e has =
    let T = own_types old in
    let k = settled_keeps T old has.rules b bytes done new e in
    subst (λ U. Lasts T old U new) (sym (k.2 language)) (record {
      has = record { rules = k.0; library = has.library };
      keeps = λ fs array few v.
          volume_from T T library_layout (library_reads T has.library) fs few array old new k.0 (none_later new.next old.next (settle_next old new b bytes done e)) (settle_cuts T old v.consistent fs b bytes done new k.0 e) v;
    })

-- what is known of a kernel's file systems stays
abbrev pub After : {L : Type 0} → KernelValue L → KernelValue L → Type 0
After old new = Stays (own_types old.state) old.state (own_types new.state) new.state

stays_same : (state : StoreState) → Stays (own_types state) state (own_types state) state
stays_same state has = record { has = has; keeps = λ fs array few v. v }

stays_then : (a b c : StoreState) → Stays (own_types a) a (own_types b) b → Stays (own_types b) b (own_types c) c → Stays (own_types a) a (own_types c) c
stays_then a b c f g has =
    let one = f has in
    let two = g one.has in
    record { has = two.has; keeps = λ fs array few v. two.keeps fs array few (one.keeps fs array few v) }

module _ {L : Type 0} (bytes : L → List ℕ) (faults : L → ℕ) (writes : WriteRelation L) (syncs reads : Reads L) where
  round_after : (old new : KernelValue L) → Round bytes faults writes syncs reads old new → After old new
  round_after old new r = subst (After old) (sym r.next)
      (stays_then old.state r.begun r.store (begun_stays old.state r.begun r.ticket.block (r.ticket.bytes, r.ticket.count) r.written.begins) (settled_stays r.begun r.store r.ticket.block r.ticket.bytes (r.ticket.count, r.freed) r.settles))

  rounds_after : (n : ℕ) (old new : KernelValue L) → Rounds bytes faults writes syncs reads n old new → After old new
  rounds_after zero old new e = subst (After old) (sym e) (stays_same old.state)
  rounds_after (suc n) old new r = stays_then old.state r.0.state new.state (round_after old r.0 r.1) (rounds_after n r.0 new r.2)

  stops_after : (old new : KernelValue L) (ticket : Option (TicketValue L)) (refusal : Refusal) → StopsAtDevice bytes faults writes syncs reads old ticket refusal new → After old new
  stops_after old new None refusal s = let u = s.1 in subst (After old) (sym u.next)
      (stays_then old.state u.begun u.store (begun_stays old.state u.begun u.ticket.block (u.ticket.bytes, u.ticket.count) u.written.begins) (settled_stays u.begun u.store u.ticket.block (bytes u.settled) (0, 0) u.settles))
  stops_after old new (Some back) refusal s = elim s.1 [
    | inl u ↦ subst (After old) (sym u.next) (begun_stays old.state u.begun u.ticket.block (u.ticket.bytes, u.ticket.count) u.written.begins)
    | inr u ↦ subst (After old) (sym u.next) (begun_stays old.state u.begun u.ticket.block (u.ticket.bytes, u.ticket.count) u.written.begins)
  ]

  refuses_after : (old new : KernelValue L) (n : ℕ) (ticket : Option (TicketValue L)) (refusal : Refusal) → Refuses bytes faults writes syncs reads old n ticket refusal new → After old new
  refuses_after old new n ticket refusal s = elim s [
    | inl busy ↦ subst (After old) (sym busy.4) (stays_same old.state)
    | inr r ↦ stays_then old.state r.0.state new.state (rounds_after n old r.0 r.1) (stops_after r.0 new ticket refusal r.2)
  ]

  pub drain_after : {S : Type 0} (old new : KernelValue L) (result : Result ℕ S) (count : S → ℕ) (ticket : S → Option (TicketValue L)) (refusal : S → Refusal) →
      IfOk result (λ n. Rounds bytes faults writes syncs reads n old new) →
      IfErr result (λ stop. Refuses bytes faults writes syncs reads old (count stop) (ticket stop) (refusal stop) new) → After old new
  drain_after old new (Ok n) count ticket refusal ok err = rounds_after n old new ok
  drain_after old new (Err stop) count ticket refusal ok err = refuses_after old new (count stop) (ticket stop) (refusal stop) err
