-- A slot that goes from one inode to another names one of them in the cuts from its newest bytes on.
use Rattle.std.proofs.Common.{◌≡◌, ℕ, ◌<◌, ◌≤◌, ◌⊎◌, length, Option, Some, None, Ok, refl, sym, ◌∙◌, ap, inl, inr, arith, subst}
use Rattle.std.specs.Prelude.{◌≢◌}
use Rattle.std.proofs.lemmas.Bool.{cases_eq, cases_lt}
use Rattle.std.proofs.lemmas.Option.{none-some, same_Some}
use Rattle.xn_model.specs.Types.{Types}
use Rattle.xn_model.specs.Lives.{BlockState, Life, Lives, StoreState}
use Rattle.xn_model.specs.Calls.{Edit, edited, patched, propose_of}
use Rattle.xn_model.specs.Rules.{IsConsistent}
use Rattle.xn_model.proofs.ForCallers.{accept}
use Rattle.ffs_model.specs.Cuts.{Choice, IsCut, Takes, Under, seen, latest}
use Rattle.ffs_model.specs.Edits.{EntryMade, InodeFreed, LinkAdded, LinkTaken}
use Rattle.ffs_model.specs.Names.{IsInodes, Layout, Names}
use Rattle.ffs_model.specs.Volumes.{Reads, VolumeKeeps}
use Rattle.ffs_model.specs.Laws.{bytes_written_by}
use Rattle.ffs_model.specs.Standing.{AreNamed, KeepsNamed, SlotPair, StayNamed, TakesAll, named_at}
use Rattle.ffs_model.proofs.Chosen.{full_seen}
use Rattle.ffs_model.proofs.Given.{Proposed, proposed}
use Rattle.ffs_model.proofs.Accepted.{cut_before, latest_old, seen_new, seen_other, seen_untook, takes_before, takes_took, took_full_before, took_now}
use Rattle.ffs_model.proofs.Newest.{one_type, proposed_here, proposed_others}
use Rattle.ffs_model.proofs.Same.{under_direct, under_inodes}
use Rattle.ffs_model.proofs.Proposals.{entry_cleared, entry_turned, inode_freed, inodes_stay, link_added, link_taken, slot_waits, taken_waits}

-- at first
pub stands_first : (L : Layout) (lives : Lives) (p : SlotPair) → named_at L (latest lives) p.from ≡ p.moved → named_at L (latest lives) p.to ≡ p.former → StayNamed L lives lives p None
stands_first L lives p moved former = record {
  cuts = record { second = λ k cut two. inl (ap (λ o. L.entry o p.to.1) (all_seen k p.to.0 two) ∙ former); either = λ k cut one two. inl (ap (λ o. L.entry o p.from.1) (all_seen k p.from.0 one) ∙ moved) };
  later = λ e k none cut t. absurd (none-some e none);
}
  where
    all_seen : (k : Choice) (b : ℕ) → TakesAll lives k b → seen lives k b ≡ latest lives b
    all_seen k b t = full_seen lives k b (λ y f. subst (λ (w : Life). length w.pending ≤ k b) (same_Some t.0 y (sym t.1 ∙ f)) t.2)

-- and after edits
module _ (T : Types) (L : Layout) (first : Lives) (state new : StoreState) (h : IsConsistent T state) (fs c : ℕ) (edit : Edit) (entry : ℕ) (done : propose_of T state fs c edit ≡ Ok (entry, new)) (p : SlotPair) where
  abbrev given : Proposed T state new fs c edit entry
  given = proposed T state new fs c edit entry done

  abbrev s : BlockState
  s = edited state.next fs edit given.life

  abbrev after : Lives
  after = accept c s state.lives

  before : (k : Choice) → IsCut after k → IsCut state.lives k
  before k cut = cut_before T state h c given.life s given.own.alive refl k cut

  takes : (k : Choice) (e : ℕ) → Takes after k e → Takes state.lives k e
  takes k e t = takes_before T state h c given.life s given.own.alive refl k e t

  -- the bytes of the block where its new state is taken
  took : (k : Choice) → IsCut after k → length given.life.pending < k c → seen after k c ≡ bytes_written_by state.lives c edit
  took k cut lt = seen_new T state h c given.life s given.own.alive refl k cut lt ∙ sym (ap (λ o. patched o edit.patches) (latest_old T state h c given.life s given.own.alive refl))

  other : (k : Choice) (b : ℕ) → b ≢ c → seen after k b ≡ seen state.lives k b
  other k b ne = seen_other T state h c given.life s given.own.alive refl k b ne

  untook : (k : Choice) → k c ≤ length given.life.pending → seen after k ≡ seen state.lives k
  untook k ge = seen_untook T state h c given.life s given.own.alive refl k ge

  turn : (o : Option ℕ) → StayNamed L first after p o → StayNamed L first new.lives p o
  turn o = subst (λ (y : Lives). StayNamed L first y p o) (sym given.lives)

  -- where the new state is taken the second slot names the moved inode
  unless_taken : AreNamed L first state.lives p → ((k : Choice) → IsCut after k → length given.life.pending < k c → named_at L (seen after k) p.to ≡ p.moved) → AreNamed L first after p
  unless_taken x now = record {
    second = λ k cut two. elim (cases_lt (length given.life.pending) (k c)) [
      | inl lt ↦ inr (now k cut lt)
      | inr ge ↦ subst (λ w. (named_at L w p.to ≡ p.former) ⊎ (named_at L w p.to ≡ p.moved)) (sym (untook k ge)) (x.second k (before k cut) two)
    ];
    either = λ k cut one two. elim (cases_lt (length given.life.pending) (k c)) [
      | inl lt ↦ inr (now k cut lt)
      | inr ge ↦ subst (λ w. (named_at L w p.from ≡ p.moved) ⊎ (named_at L w p.to ≡ p.moved)) (sym (untook k ge)) (x.either k (before k cut) one two)
    ];
  }

  -- of another block
  pub stands_other : p.from.0 ≢ c → p.to.0 ≢ c → (o : Option ℕ) → StayNamed L first state.lives p o → StayNamed L first new.lives p o
  stands_other ne ne' o x = turn o (record {
    cuts = record {
      second = λ k cut two. elim (x.cuts.second k (before k cut) two) [ inl e ↦ inl (to k ∙ e) | inr e ↦ inr (to k ∙ e) ];
      either = λ k cut one two. elim (x.cuts.either k (before k cut) one two) [ inl e ↦ inl (from k ∙ e) | inr e ↦ inr (to k ∙ e) ];
    };
    later = λ e k same cut t. to k ∙ x.later e k same (before k cut) (takes k e t);
  })
    where
      from : (k : Choice) → named_at L (seen after k) p.from ≡ named_at L (seen state.lives k) p.from
      from k = ap (λ m. L.entry m p.from.1) (other k p.from.0 ne)

      to : (k : Choice) → named_at L (seen after k) p.to ≡ named_at L (seen state.lives k) p.to
      to k = ap (λ m. L.entry m p.to.1) (other k p.to.0 ne')

  -- of the second slot, which comes to name the moved inode
  pub stands_turned : p.to.0 ≡ c → L.entry (bytes_written_by state.lives c edit) p.to.1 ≡ p.moved → StayNamed L first state.lives p None → StayNamed L first new.lives p (Some entry)
  stands_turned is now x = turn (Some entry) (record {
    cuts = unless_taken x.cuts (λ k cut lt. turned k cut lt);
    later = λ e k same cut t. turned k cut (takes_took T state h c given.life s given.own.alive refl k (subst (Takes after k) (sym (same_Some entry e same) ∙ given.entry_is) t));
  })
    where
      turned : (k : Choice) → IsCut after k → length given.life.pending < k c → named_at L (seen after k) p.to ≡ p.moved
      turned k cut lt = ap (λ b. L.entry (seen after k b) p.to.1) is ∙ (ap (λ m. L.entry m p.to.1) (took k cut lt) ∙ now)

  -- of the first slot, after that one
  pub stands_cleared : (e : ℕ) → p.from.0 ≡ c → edit.after ≡ Some e → (p.to.0 ≡ c → L.entry (bytes_written_by state.lives c edit) p.to.1 ≡ L.entry (latest state.lives c) p.to.1) →
      StayNamed L first state.lives p (Some e) → StayNamed L first new.lives p (Some e)
  stands_cleared e is comes kept x = turn (Some e) (record {
    cuts = unless_taken x.cuts (λ k cut lt. still k cut (takes k e (took_now T state h c given.life s given.own.alive refl k cut lt e comes)));
    later = λ a k same cut t. still k cut (subst (Takes state.lives k) (sym (same_Some e a same)) (takes k a t));
  })
    where
      still : (k : Choice) → IsCut after k → Takes state.lives k e → named_at L (seen after k) p.to ≡ p.moved
      still k cut t =
          let old = x.later e k refl (before k cut) t in
          elim (cases_lt (length given.life.pending) (k c)) [
            | inr ge ↦ ap (λ w. named_at L w p.to) (untook k ge) ∙ old
            | inl lt ↦ elim (cases_eq p.to.0 c) [
              | inr ne ↦ ap (λ m. L.entry m p.to.1) (other k p.to.0 ne) ∙ old
              | inl same ↦
                  let all = full_seen state.lives k c (took_full_before T state h c given.life s given.own.alive refl k lt) in
                  ap (λ b. L.entry (seen after k b) p.to.1) same
                  ∙ (ap (λ m. L.entry m p.to.1) (took k cut lt) ∙ (kept same ∙ (ap (λ m. L.entry m p.to.1) (sym all) ∙ (ap (λ b. L.entry (seen state.lives k b) p.to.1) (sym same) ∙ old))))
            ]
          ]

-- The five edits of replace
module _ (T : Types) (L : Layout) (reads : Reads T L) (fs : ℕ) (few : fs < 32) (array : ℕ → Option ℕ) (s0 s1 s2 s3 s4 s5 : StoreState) (v : VolumeKeeps T L fs array s0) (n m a g d x c z : ℕ) (some : n ≢ 0) (former : m ≢ 0) (apart : m ≢ n)
    (at : IsInodes L (latest s0.lives) fs (L.home n).0 a) (at' : IsInodes L (latest s0.lives) fs (L.home m).0 g) (edit1 edit2 edit3 edit4 edit5 : Edit) (entry1 entry2 entry3 entry4 entry5 : ℕ)
    (done1 : propose_of T s0 fs a edit1 ≡ Ok (entry1, s1)) (used : L.mode (latest s0.lives a) (L.home n).1 ≢ 0) (added : LinkAdded L (latest s0.lives a) (bytes_written_by s0.lives a edit1) (L.home n).1)
    (done2 : propose_of T s1 fs d edit2 ≡ Ok (entry2, s2)) (comes2 : edit2.after ≡ Some entry1) (named : Names L (latest s1.lives) fs m (d, x)) (made : EntryMade L (latest s1.lives d) (bytes_written_by s1.lives d edit2) x n)
    (done3 : propose_of T s2 fs c edit3 ≡ Ok (entry3, s3)) (named' : Names L (latest s2.lives) fs n (c, z)) (other : c ≡ d → z ≢ x) (comes3 : edit3.after ≡ Some entry2) (cleared : EntryMade L (latest s2.lives c) (bytes_written_by s2.lives c edit3) z 0)
    (done4 : propose_of T s3 fs a edit4 ≡ Ok (entry4, s4)) (comes4 : edit4.after ≡ Some entry3) (taken : LinkTaken L (latest s3.lives a) (bytes_written_by s3.lives a edit4) (L.home n).1)
    (done5 : propose_of T s4 fs g edit5 ≡ Ok (entry5, s5)) (comes5 : edit5.after ≡ Some entry2)
    (last : LinkTaken L (latest s4.lives g) (bytes_written_by s4.lives g edit5) (L.home m).1 ⊎ ((L.links (latest s4.lives g) (L.home m).1 ≡ 1) × InodeFreed L (latest s4.lives g) (bytes_written_by s4.lives g edit5) (L.home m).1)) where
  abbrev p : SlotPair
  p = record { from = (c, z); to = (d, x); moved = n; former = m }

  abbrev Kept : StoreState → Type 0
  Kept s = KeepsNamed T L fs array s0.lives p s

  first_block : Under T (latest s0.lives) fs a 4
  first_block = under_inodes T L reads (latest s0.lives) fs (L.home n).0 a at

  stays1 : (i b : ℕ) → IsInodes L (latest s0.lives) fs i b → IsInodes L (latest s1.lives) fs i b
  stays1 i b y = inodes_stay T L reads fs few array s0 s1 v a edit1 entry1 done1 4 first_block (λ e. omega arith) i b y

  slot_block : Under T (latest s1.lives) fs d 2
  slot_block = under_direct T L reads (latest s1.lives) fs named.index named.block named.place d named.inodes named.has

  old_block : Under T (latest s2.lives) fs c 2
  old_block = under_direct T L reads (latest s2.lives) fs named'.index named'.block named'.place c named'.inodes named'.has

  pub replaced : Kept s1 × Kept s2 × Kept s3 × Kept s4 × Kept s5
  replaced =
      let one = link_added T L reads fs few array s0 s1 v a edit1 entry1 done1 n some at added used in
      let two = entry_turned T L reads fs few array s1 s2 one.0 d edit2 entry2 done2 2 slot_block (λ e. omega arith) (λ e. omega arith) x n m entry1 some former apart made named one.1 comes2 in
      let three = entry_cleared T L reads fs few array s2 s3 two.0 c edit3 entry3 done3 2 old_block (λ e. omega arith) (λ e. omega arith) z n some cleared named' in
      let stays2 = inodes_stay T L reads fs few array s1 s2 one.0 d edit2 entry2 done2 2 slot_block (λ e. omega arith) in
      let stays3 = inodes_stay T L reads fs few array s2 s3 two.0 c edit3 entry3 done3 2 old_block (λ e. omega arith) in
      let at3 = stays3 (L.home n).0 a (stays2 (L.home n).0 a (stays1 (L.home n).0 a at)) in
      let four = link_taken T L reads fs few array s3 s4 three.0 a edit4 entry4 done4 n some at3 entry3 three.1 taken comes4 in
      let stays4 = inodes_stay T L reads fs few array s3 s4 three.0 a edit4 entry4 done4 4 (under_inodes T L reads (latest s3.lives) fs (L.home n).0 a at3) (λ e. omega arith) in
      let at4 = stays4 (L.home m).0 g (stays3 (L.home m).0 g (stays2 (L.home m).0 g (stays1 (L.home m).0 g at'))) in
      let can3 = slot_waits T L reads fs few array s2 s3 two.0 c edit3 entry3 done3 2 old_block (λ e. omega arith) (λ e. omega arith) z 0 m entry2 former former cleared two.1 in
      let can4 = taken_waits T L reads fs few array s3 s4 three.0 a edit4 entry4 done4 n some at3 taken m entry2 former apart can3 in
      let five : VolumeKeeps T L fs array s5 = elim last [
        | inl less ↦ link_taken T L reads fs few array s4 s5 four g edit5 entry5 done5 m former at4 entry2 can4 less comes5
        | inr freed ↦ inode_freed T L reads fs few array s4 s5 four g edit5 entry5 done5 m former at4 entry2 can4 freed.0 freed.1 comes5
      ] in
      let apart_a : a ≢ d = two_types d slot_block a (L.home n).0 (stays1 (L.home n).0 a at) in
      let apart_g : g ≢ d = two_types d slot_block g (L.home m).0 (stays1 (L.home m).0 g at') in
      let apart_a' : a ≢ c = two_types' two.0 a (L.home n).0 (stays2 (L.home n).0 a (stays1 (L.home n).0 a at)) in
      let apart_g' : g ≢ c = two_types' two.0 g (L.home m).0 (stays2 (L.home m).0 g (stays1 (L.home m).0 g at')) in
      let second : L.entry (latest s0.lives d) x ≡ m = ap (λ o. L.entry o x) (sym (proposed_others T s0 s1 v.consistent fs a edit1 entry1 done1 d (λ e. apart_a (sym e)))) ∙ named.names in
      let n0 = stands_first L s0.lives p (was one.0 apart_a') second in
      let n1 = stands_other T L s0.lives s0 s1 v.consistent fs a edit1 entry1 done1 p (λ e. apart_a' (sym e)) (λ e. apart_a (sym e)) None n0 in
      let n2 = stands_turned T L s0.lives s1 s2 one.0.consistent fs d edit2 entry2 done2 p refl made.now n1 in
      let n3 = stands_cleared T L s0.lives s2 s3 two.0.consistent fs c edit3 entry3 done3 p entry2 refl comes3 (λ e. cleared.others x (λ f. other (sym e) (sym f))) n2 in
      let n4 = stands_other T L s0.lives s3 s4 three.0.consistent fs a edit4 entry4 done4 p (λ e. apart_a' (sym e)) (λ e. apart_a (sym e)) (Some entry2) n3 in
      let n5 = stands_other T L s0.lives s4 s5 four.consistent fs g edit5 entry5 done5 p (λ e. apart_g' (sym e)) (λ e. apart_g (sym e)) (Some entry2) n4 in (
        record { keeps = one.0; named = n1.cuts },
        record { keeps = two.0; named = n2.cuts },
        record { keeps = three.0; named = n3.cuts },
        record { keeps = four; named = n4.cuts },
        record { keeps = five; named = n5.cuts },
      )
    where
      two_types : (y : ℕ) → Under T (latest s1.lives) fs y 2 → (b j : ℕ) → IsInodes L (latest s1.lives) fs j b → b ≢ y
      two_types y u b j i e =
          let one = link_added T L reads fs few array s0 s1 v a edit1 entry1 done1 n some at added used in
          let four_two = one_type T s1 one.0.consistent fs y 4 2 few (subst (λ w. Under T (latest s1.lives) fs w 4) e (under_inodes T L reads (latest s1.lives) fs j b i)) u in
          absurd (omega (arith, four_two))

      two_types' : VolumeKeeps T L fs array s2 → (b j : ℕ) → IsInodes L (latest s2.lives) fs j b → b ≢ c
      two_types' v2 b j i e =
          let four_two = one_type T s2 v2.consistent fs c 4 2 few (subst (λ w. Under T (latest s2.lives) fs w 4) e (under_inodes T L reads (latest s2.lives) fs j b i)) old_block in
          absurd (omega (arith, four_two))

      -- the first slot before the edits: those of the second one leave it, unless it is that
      was : VolumeKeeps T L fs array s1 → a ≢ c → L.entry (latest s0.lives c) z ≡ n
      was v1 apart = sym (ap (λ o. L.entry o z) (proposed_others T s0 s1 v.consistent fs a edit1 entry1 done1 c (λ e. apart (sym e)))) ∙ (before_turn ∙ named'.names)
        where
          before_turn : L.entry (latest s1.lives c) z ≡ L.entry (latest s2.lives c) z
          before_turn = elim (cases_eq c d) [
            | inr ne ↦ ap (λ o. L.entry o z) (sym (proposed_others T s1 s2 v1.consistent fs d edit2 entry2 done2 c ne))
            | inl e ↦ sym (ap (λ b. L.entry (latest s2.lives b) z) e ∙ (ap (λ o. L.entry o z) (proposed_here T s1 s2 v1.consistent fs d edit2 entry2 done2) ∙ (made.others z (other e) ∙ ap (λ b. L.entry (latest s1.lives b) z) (sym e))))
          ]
