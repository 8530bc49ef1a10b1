-- What two entries name in the cuts after each edit of `replace`.
use Rattle.std.proofs.Common.{◌≡◌, ◌≢◌, ℕ, ◌-◌, ◌*◌, ◌/◌, ◌%◌, ◌^◌, ◌<◌, List, [], replicate, false, Option, Some, None, Result, Ok, Err, refl, sym, ◌∙◌, ap, arith, subst, inl, inr, eq-eqb, Contains, MatchResult, ◌==◌, ◌&&◌, w16}
use Rattle.ffs_lib.proofs.Common.{Edit, FfsFault, IsPlace, IsSlot, Lives, Slot, SlotPair, StayNamed, StoreState, Types, Under, directory_in, inode_blocks, is_at}
use Rattle.ffs_lib.proofs.Common.{latest, library_layout, propose_of, to_le_bytes}
use Rattle.ffs_model.proofs.ForCallers.{blocks_read, entry_written, inodes_stay, library_reads, number_written, one_type, proposed_others, stands_cleared, stands_other, stands_turned, under_direct, under_inodes}
use Rattle.ffs_lib.specs.Edits.{edit_at}
use Rattle.ffs_lib.specs.Replacing.{AreDirect, IsDirect, KeepsPairs, pair_of}
use Rattle.ffs_lib.specs.Steps.{Dropped, Proposed, Stage, clearing}
use Rattle.ffs_lib.proofs.Tests.{true_false}
use Rattle.ffs_lib.proofs.Entering.{directory_from}
use Rattle.ffs_lib.proofs.Owners.{stands_from}
use Rattle.ffs_lib.proofs.Turning.{number_half, number_long}

-- a block of a directory
pub direct_of : (content : ℕ → List ℕ) (fs d : ℕ) (inode : List ℕ) (b : ℕ) → Ok inode ≡ directory_in content fs d → Contains (inode_blocks inode) b → IsDirect content fs b
direct_of content fs d inode b is has =
    let s = stands_from content fs d inode (directory_from content fs d inode is).0 in
    record {
      index = (d - 1) / 8;
      block = s.block;
      place = (d - 1) % 8;
      inodes = s.inodes;
      has = subst (λ xs. Contains xs b) (sym (blocks_read (content s.block) ((d - 1) % 8) (omega arith))) (subst (λ i. Contains (inode_blocks i) b) s.bytes has);
    }

pub pairs_same : (fs : ℕ) (old new : StoreState) → new ≡ old → KeepsPairs fs old new
pairs_same fs old new e = subst (KeepsPairs fs old) (sym e) (λ first p after d x. x)

pub pairs_then : (fs : ℕ) (old middle new : StoreState) → ((p : SlotPair) → AreDirect (latest old.lives) fs p → AreDirect (latest middle.lives) fs p) → KeepsPairs fs old middle → KeepsPairs fs middle new → KeepsPairs fs old new
pairs_then fs old middle new direct one two = λ first p after d x. two first p after (direct p d) (one first p after d x)

module _ (T : Types) (fs : ℕ) (array : ℕ → Option ℕ) (old : StoreState) (s : Stage T fs array old) where
  module _ (new : StoreState) (c u : ℕ) (edit : Edit) (entry : ℕ) (done : propose_of T old fs c edit ≡ Ok (entry, new)) (at : Under T (latest old.lives) fs c u) where
    direct_under : (b : ℕ) → IsDirect (latest old.lives) fs b → Under T (latest old.lives) fs b 2
    direct_under b d = under_direct T library_layout (library_reads T s.library) (latest old.lives) fs d.index d.block d.place b d.inodes d.has

    pub pairs_other : u ≢ 2 → KeepsPairs fs old new
    pairs_other ne = λ first p after d x. stands_other T library_layout first old new s.keeps.consistent fs c edit entry done p (apart p.from.0 d.from) (apart p.to.0 d.to) after x
      where
        apart : (b : ℕ) → IsDirect (latest old.lives) fs b → b ≢ c
        apart b d e = ne (one_type T old s.keeps.consistent fs c u 2 s.few at (subst (λ y. Under T (latest old.lives) fs y 2) e (direct_under b d)))

    direct_stays : u ≢ 3 → u ≢ 4 → (b : ℕ) → IsDirect (latest old.lives) fs b → IsDirect (latest new.lives) fs b
    direct_stays not3 not4 b d =
        let reads = library_reads T s.library in
        let other : d.block ≢ c = λ e. not4 (one_type T old s.keeps.consistent fs c u 4 s.few at (subst (λ y. Under T (latest old.lives) fs y 4) e (under_inodes T library_layout reads (latest old.lives) fs d.index d.block d.inodes))) in
        record {
          index = d.index;
          block = d.block;
          place = d.place;
          inodes = inodes_stay T library_layout reads fs s.few array old new s.keeps c edit entry done u at not3 d.index d.block d.inodes;
          has = subst (λ m. Contains (library_layout.direct m d.place) b) (sym (proposed_others T old new s.keeps.consistent fs c edit entry done d.block other)) d.has;
        }

    pub both_stay : u ≢ 3 → u ≢ 4 → (p : SlotPair) → AreDirect (latest old.lives) fs p → AreDirect (latest new.lives) fs p
    both_stay not3 not4 p d = record { from = direct_stays not3 not4 p.from.0 d.from; to = direct_stays not3 not4 p.to.0 d.to }

  -- an edit of a block of inodes, done or refused
  pub pairs_at_home : (new : StoreState) (n block place : ℕ) → IsPlace old fs n block place → (edit : Edit) (result : Result ℕ FfsFault) → Proposed T fs block edit old new result → KeepsPairs fs old new
  pairs_at_home new n block place is edit (Ok entry) p = pairs_other new block 4 edit entry p (under_inodes T library_layout (library_reads T s.library) (latest old.lives) fs (library_layout.home n).0 block is.inodes) (λ e. omega (arith, e))
  pairs_at_home new n block place is edit (Err fault) p = pairs_same fs old new p.0

  -- what a block of pointers points to is dropped, or it is not there
  module _ (new : StoreState) (block after : ℕ) (at : block ≢ 0 → Under T (latest old.lives) fs block 5) where
    pub pairs_dropped : (e : ℕ) → Dropped T fs block after old new (Ok e) → KeepsPairs fs old new
    pairs_dropped e (inl x) = pairs_same fs old new x.0
    pairs_dropped e (inr x) = pairs_other new block 5 (clearing old block after) e x.2 (at x.0) (λ z. omega (arith, z))

    pub direct_dropped : (e : ℕ) → Dropped T fs block after old new (Ok e) → (p : SlotPair) → AreDirect (latest old.lives) fs p → AreDirect (latest new.lives) fs p
    direct_dropped e (inl x) p d = subst (λ (y : StoreState). AreDirect (latest y.lives) fs p) (sym x.0) d
    direct_dropped e (inr x) p d = both_stay new block 5 (clearing old block after) e x.2 (at x.0) (λ z. omega (arith, z)) (λ z. omega (arith, z)) p d

  -- an entry
  module _ (slot : Slot) (is : IsSlot old fs slot) where
    slot_block : Under T (latest old.lives) fs slot.block 2
    slot_block = let r = is.names in under_direct T library_layout (library_reads T s.library) (latest old.lives) fs r.index r.block r.place slot.block r.inodes r.has

    -- is cleared, after the other one was turned
    pub pairs_cleared : (new : StoreState) (first : Lives) (to : Slot) (e entry : ℕ) (after : Option ℕ) → after ≡ Some e → propose_of T old fs slot.block (edit_at (32 * slot.place) (replicate 32 0) [] [] after) ≡ Ok (entry, new) → is_at to slot ≡ false →
        StayNamed library_layout first old.lives (pair_of slot to) after → StayNamed library_layout first new.lives (pair_of slot to) after
    pairs_cleared new first to e entry after comes done apart x =
        subst (StayNamed library_layout first new.lives (pair_of slot to)) (sym comes)
        (stands_cleared T library_layout first old new s.keeps.consistent fs slot.block (edit_at (32 * slot.place) (replicate 32 0) [] [] after) entry done (pair_of slot to) e refl comes
        (λ same. (entry_written (latest old.lives slot.block) is.long slot.place is.few (replicate 32 0) refl).others to.place (λ z. other same z))
        (subst (StayNamed library_layout first old.lives (pair_of slot to)) comes x))
      where
        other : to.block ≡ slot.block → to.place ≡ slot.place → ⊥
        other f g = true_false _ (ap (λ t. t && (slot.place == to.place)) (eq-eqb slot.block to.block (sym f)) ∙ eq-eqb slot.place to.place (sym g)) apart

    pub direct_cleared : (new : StoreState) (entry : ℕ) (after : Option ℕ) → propose_of T old fs slot.block (edit_at (32 * slot.place) (replicate 32 0) [] [] after) ≡ Ok (entry, new) → (p : SlotPair) → AreDirect (latest old.lives) fs p → AreDirect (latest new.lives) fs p
    direct_cleared new entry after done = both_stay new slot.block 2 (edit_at (32 * slot.place) (replicate 32 0) [] [] after) entry done slot_block (λ z. omega (arith, z)) (λ z. omega (arith, z))

    -- is turned
    pub pairs_turned : (new : StoreState) (first : Lives) (from : Slot) (n : ℕ) → n < 2 ^ 16 → from.inode ≡ n → (after : Option ℕ) (entry : ℕ) → propose_of T old fs slot.block (edit_at (32 * slot.place) (to_le_bytes w16 n) [] [] after) ≡ Ok (entry, new) →
        StayNamed library_layout first old.lives (pair_of from slot) None → StayNamed library_layout first new.lives (pair_of from slot) (Some entry)
    pairs_turned new first from n small same after entry done x =
        let edit = edit_at (32 * slot.place) (to_le_bytes w16 n) [] [] after in
        let long = number_long n in
        let now = number_written (latest old.lives slot.block) is.long slot.place is.few (to_le_bytes w16 n) (omega (arith, long)) (omega (arith, long)) in
        stands_turned T library_layout first old new s.keeps.consistent fs slot.block edit entry done (pair_of from slot) refl (now.now ∙ (number_half n small ∙ sym same)) x

    pub pairs_put_turned : (new : StoreState) (first : Lives) (from : Slot) (n : ℕ) → n < 2 ^ 16 → from.inode ≡ n → (after : Option ℕ) (result : Result ℕ FfsFault) → Proposed T fs slot.block (edit_at (32 * slot.place) (to_le_bytes w16 n) [] [] after) old new result →
        (to : Slot) → slot ≡ to → StayNamed library_layout first old.lives (pair_of from to) None →
        MatchResult result (λ e. StayNamed library_layout first new.lives (pair_of from to) (Some e)) (λ fault. StayNamed library_layout first new.lives (pair_of from to) None)
    pairs_put_turned new first from n small same after (Ok entry) p to is_to x =
        subst (λ (y : Slot). StayNamed library_layout first new.lives (pair_of from y) (Some entry)) is_to
        (pairs_turned new first from n small same after entry p (subst (λ (y : Slot). StayNamed library_layout first old.lives (pair_of from y) None) (sym is_to) x))
    pairs_put_turned new first from n small same after (Err fault) p to is_to x = subst (λ (y : StoreState). StayNamed library_layout first y.lives (pair_of from to) None) (sym p.0) x
