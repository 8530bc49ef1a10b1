-- What the edits of `reclaim` leave, and how they come together.
use Rattle.std.proofs.Common.{◌≡◌, ◌≢◌, ℕ, ◌+◌, ◌-◌, ◌*◌, ◌%◌, ◌<◌, ◌≤◌, ◌⊎◌, List, [], length, replicate, Option, None, Result, Ok, Err, Bool, refl, sym, ◌∙◌, ap, arith, subst, inl, inr, IsErrAnd, flat_map, if◌then◌else◌, ne_eqb}
use Rattle.ffs_lib.proofs.Common.{FfsFault, Fields, Found, GiveUp, InodeFreed, IsFound, Keep, KeepsNumber, LeavesRoom, LinksTaken, Names, Pending, Repair}
use Rattle.ffs_lib.proofs.Common.{SetLinks, StoreState, Types, Under, cases_eq, cases_lt, err_from_is_err_and, fields_of, files_of, idle_in, inode_in, latest}
use Rattle.ffs_lib.proofs.Common.{names_count, pending_of, propose_of, range_with_len, repair_in, word_at}
use Rattle.ffs_model.specs.Library.{inode_at, inode_blocks, inode_links, inode_mode, inode_pairs, library_layout, pointed, pointer_word, with_inode, zero_block}
use Rattle.ffs_model.proofs.ForCallers.{inode_unlinked, library_reads, links_read, links_taken, other_number, other_written, pointers_cleared_short, proposed_here, proposed_others, spare_begins, spare_by_freed, spare_by_taken}
use Rattle.ffs_model.proofs.Rewritten as rewritten
use Rattle.ffs_lookup.proofs.ForCallers.{given_up, links_set, same_ok, unnumbered_repair}
use Rattle.ffs_lib.specs.Edits.{data_of_inode, data_of_pointers, edit_at}
use Rattle.ffs_lib.specs.Outcomes.{HasNoData}
use Rattle.ffs_lib.specs.Results.{IsLinked, OnlyChanges, SameInode}
use Rattle.ffs_lib.specs.Steps.{Ends, IsHome, ShortEdit, Stage, Stops, Tells, Wants}
use Rattle.ffs_lib.specs.Reclaiming.{Emptied, InMiddle, MayRepair, PointersEmptied, Repaired, RepairedOne, StopsRepairing, emptying, needs, repaired_below, stages_at}
use Rattle.ffs_lib.proofs.Dropping.{cleared_owns, no_pairs, put_whole}
use Rattle.ffs_lib.proofs.Edited.{pointers_reached}
use Rattle.ffs_lib.proofs.Entering.{inode_gone, inode_put, others_put, place_put}
use Rattle.ffs_lib.proofs.Fields.{free_blocks, free_mode, same_blocks}
use Rattle.ffs_lib.proofs.Laws.{either_wants, home_wants, can_edit, fails}
use Rattle.ffs_lib.proofs.Moving.{relinked}
use Rattle.ffs_lib.proofs.NameCounts.{names_within}
use Rattle.ffs_lib.proofs.Owners.{stands_from}
use Rattle.ffs_lib.proofs.Rooms.{room_by}
use Rattle.ffs_lib.proofs.Same.{edited, inodes_same, pointers_touched, same_on}
use Rattle.ffs_lib.proofs.Short.{free_pairs, freed_short}
use Rattle.ffs_lib.proofs.Tests.{never}
use Rattle.ffs_lib.proofs.ValueRepairs.{both_none, need_is, none_kept, stages_more}

-- What needs something is not kept

pub set_no_keep : (links : ℕ) → SetLinks links ≡ Keep → ⊥
set_no_keep links z = cc

pub give_no_keep : GiveUp ≡ Keep → ⊥
give_no_keep z = cc

-- The places of inodes

module _ (T : Types) (fs : ℕ) (array : ℕ → Option ℕ) (old : StoreState) (s : Stage T fs array old) (n : ℕ) (found : Found) (is : IsFound old fs n found) (exact : Ok found.inode ≡ inode_in (latest old.lives) fs n) where
  -- Links are set

  module _ (bytes : List ℕ) (whole : length bytes ≡ 64) (links : ℕ) (set : fields_of bytes ≡ record (fields_of found.inode) { links = links }) (less : links ≤ inode_links found.inode)
      (spare : KeepsNumber library_layout old.lives fs None (inode_links found.inode - links) n) where
    pub links_go : (new : StoreState) (entry : ℕ) → propose_of T old fs found.block (edit_at (64 * found.place) bytes [] [] None) ≡ Ok (entry, new) → Stage T fs array new × RepairedOne old new fs n (SetLinks links)
    links_go new entry done =
        let h = s.keeps.consistent in
        let lib = s.library in
        let reads = library_reads T lib in
        let edit = edit_at (64 * found.place) bytes [] [] None in
        let m = latest old.lives found.block in
        let mode = ap (λ (f : Fields). f.mode) set in
        let now : inode_links bytes ≡ links = ap (λ (f : Fields). f.links) set in
        let spared : ℕ = inode_links found.inode - links in
        let sum : inode_links bytes + spared ≡ inode_links (inode_at m found.place) = let same = ap inode_links is.bytes in omega (arith, now, less, same) in
        let taken : LinksTaken library_layout m (with_inode m found.place bytes) (library_layout.home n).1 spared = subst (λ p. LinksTaken library_layout m (with_inode m found.place bytes) p spared) is.stands.at
        (rewritten.fewer m is.stands.long found.place is.stands.few bytes whole spared (mode ∙ ap inode_mode is.bytes) sum (same_blocks found.inode bytes (ap (λ (f : Fields). f.direct) set) ∙ ap inode_blocks is.bytes)) in
        let p = inode_put T lib old new h fs s.few n found.block found.place is.stands ((stands_from (latest old.lives) fs n found.inode exact).low) bytes whole (λ z. is.used (sym mode ∙ z)) [] [] None entry done in
        let kept = relinked T lib old new h fs s.few n found is exact bytes whole mode (ap (λ (f : Fields). f.direct) set) (ap (λ (f : Fields). f.indirect) set) (ap (λ (f : Fields). f.size) set) None entry done n in (
          record {
            library = lib;
            few = s.few;
            keeps = links_taken T library_layout reads fs s.few array old new s.keeps found.block edit entry done n is.stands.some is.stands.inodes None spared spare taken refl;
          },
          record {
            repaired = λ inode i. let x = kept inode i in (x, ap inode_links (same_ok x.after bytes (x.found ∙ p.0)) ∙ now);
            others = p.1;
            nothing = λ z. absurd (set_no_keep links z);
            spares = λ i q some ne x. spare_by_taken T library_layout reads fs s.few array old new s.keeps found.block edit entry done n is.stands.some is.stands.inodes spared taken i some ne None q x;
          },
        )

  -- An inode is given up

  module _ (none : HasNoData T (latest old.lives) found.inode) (bytes : List ℕ) (free : bytes ≡ replicate 64 0) where
    pub inode_short : ShortEdit T old fs found.block (edit_at (64 * found.place) bytes [] (data_of_inode found.inode) None)
    inode_short = subst (λ (i : List ℕ). ShortEdit T old fs found.block (edit_at (64 * found.place) bytes [] (data_of_inode i) None)) (sym is.bytes)
        (freed_short T old None (can_edit s refl) fs s.few n found.block found.place is.stands bytes (ap length free) (ap (λ (b : List ℕ). inode_pairs b 0) free ∙ free_pairs)
        (subst (λ (i : List ℕ). HasNoData T (latest old.lives) i) is.bytes none))

    pub inode_goes : KeepsNumber library_layout old.lives fs None (inode_links found.inode) n → (new : StoreState) (drops : List ℕ) (entry : ℕ) →
        propose_of T old fs found.block (edit_at (64 * found.place) bytes [] drops None) ≡ Ok (entry, new) → Stage T fs array new × RepairedOne old new fs n GiveUp
    inode_goes spare new drops entry done =
        let h = s.keeps.consistent in
        let lib = s.library in
        let reads = library_reads T lib in
        let edit = edit_at (64 * found.place) bytes [] drops None in
        let m = latest old.lives found.block in
        let whole : length bytes ≡ 64 = ap length free in
        let freed : InodeFreed library_layout m (with_inode m found.place bytes) (library_layout.home n).1 = subst (λ p. InodeFreed library_layout m (with_inode m found.place bytes) p) is.stands.at
        (rewritten.freed m is.stands.long found.place is.stands.few bytes whole (ap inode_mode free ∙ free_mode) (ap inode_blocks free ∙ free_blocks)) in
        let links : library_layout.links m (library_layout.home n).1 ≡ inode_links found.inode = subst (λ p. library_layout.links m p ≡ inode_links found.inode) is.stands.at (links_read m found.place is.stands.few ∙ ap inode_links (sym is.bytes)) in (
          record {
            library = lib;
            few = s.few;
            keeps = inode_unlinked T library_layout reads fs s.few array old new s.keeps found.block edit entry done n is.stands.some is.stands.inodes None (inode_links found.inode) spare links freed refl;
          },
          record {
            repaired = (
              inode_gone T lib old new h fs s.few n found.block found.place is.stands bytes whole [] drops None entry done ((stands_from (latest old.lives) fs n found.inode exact).low) (ap inode_mode free ∙ free_mode),
              place_put T lib old new h fs s.few n found.block found.place is.stands bytes whole [] drops None entry done ∙ ap (λ (b : List ℕ). Ok b) free,
            );
            others = others_put T lib old new h fs s.few n found.block found.place is.stands bytes whole [] drops None entry done;
            nothing = λ z. absurd (give_no_keep z);
            spares = λ i q some ne x. spare_by_freed T library_layout reads fs s.few array old new s.keeps found.block edit entry done n is.stands.some is.stands.inodes freed i some ne None q x;
          },
        )

-- What an inode's block of pointers points to is dropped

pub record EmptiedData (T : Types) (fs : ℕ) (array : ℕ → Option ℕ) (old new : StoreState) (n : ℕ) (inode : List ℕ) : Type 0 where
  pub stage : Stage T fs array new
  pub same : Ok inode ≡ inode_in (latest new.lives) fs n
  pub others : OnlyChanges (latest old.lives) (latest new.lives) fs n
  pub spares : (i m : ℕ) → i ≢ 0 → KeepsNumber library_layout old.lives fs None m i → KeepsNumber library_layout new.lives fs None m i
  pub none : HasNoData T (latest new.lives) inode
  pub left : (new ≡ old) ⊎ PointersEmptied (latest old.lives) (latest new.lives) inode

module _ (T : Types) (fs : ℕ) (array : ℕ → Option ℕ) (old : StoreState) (s : Stage T fs array old) (n : ℕ) (found : Found) (is : IsFound old fs n found) (exact : Ok found.inode ≡ inode_in (latest old.lives) fs n) (block : ℕ) (points : word_at found.inode 56 ≡ block) where
  pub reached_pointers : block ≢ 0 → Under T (latest old.lives) fs block 5
  reached_pointers there = pointers_reached T s.library old fs n found is block points there

  pub empties_short : block ≢ 0 → length (latest old.lives block) ≡ 512 → ShortEdit T old fs block (emptying old block)
  empties_short there long = pointers_cleared_short T s.library old s.keeps.consistent fs s.few block long None refl (reached_pointers there)

  pub empties : (new : StoreState) → Emptied T fs block old new (Ok tt) → EmptiedData T fs array old new n found.inode
  empties new (inl x) =
      let bare : HasNoData T (latest old.lives) found.inode = λ there. elim x.1 [
        | inl z ↦ absurd (there (points ∙ z))
        | inr z ↦ ap (λ b. T.owned 5 (latest old.lives b)) points ∙ s.library.indirect (latest old.lives block) ∙ no_pairs (pointed (pointer_word (latest old.lives block)) 128 2) (ap length z)
      ] in
      let first : EmptiedData T fs array old old n found.inode = record { stage = s; same = exact; others = λ d ne. (refl, λ inode i. (refl, λ at low. refl), λ some few. refl); spares = λ i m some k. k; none = bare; left = inl refl } in
      subst (λ (m : StoreState). EmptiedData T fs array old m n found.inode) (sym x.0) first
  empties new (inr x) =
      let h = s.keeps.consistent in
      let lib = s.library in
      let reads = library_reads T lib in
      let e = x.2 in
      let done = x.3 in
      let edit = emptying old block in
      let at = reached_pointers x.0 in
      let t = edited T old new h fs s.few block 5 edit e done at in
      record {
        stage = record {
          library = lib;
          few = s.few;
          keeps = other_written T library_layout reads fs s.few array old s.keeps block new edit e done 5 (λ z. absurd (omega (arith, z))) (λ z. absurd (omega (arith, z))) (λ z. absurd (omega (arith, z))) at;
        };
        same = exact ∙ sym (inodes_same T lib (latest old.lives) (latest new.lives) fs block 5 t (λ z. omega (arith, z)) (λ z. omega (arith, z)) n);
        others = pointers_touched T lib old h fs s.few (latest new.lives) block 5 t refl n found.inode (stands_from (latest old.lives) fs n found.inode exact) points x.0;
        spares = λ i m some k. other_number T library_layout reads fs s.few array old s.keeps block new edit e done 5 i (λ z. absurd (omega (arith, z))) (λ z. absurd (omega (arith, z))) (λ z. absurd (omega (arith, z))) at some None m k;
        none = λ ne. ap (λ b. T.owned 5 (latest new.lives b)) points ∙ ap (T.owned 5) (proposed_here T old new h fs block edit e done) ∙ cleared_owns T lib (latest old.lives block) x.1;
        left = inr (record {
          cleared = ap (latest new.lives) points ∙ (proposed_here T old new h fs block edit e done ∙ put_whole (latest old.lives block) zero_block (x.1));
          others = λ c ne. proposed_others T old new h fs block edit e done c (λ z. ne (z ∙ sym points));
        });
      }

-- the same with what was asked
pub record Empties (T : Types) (fs : ℕ) (array : ℕ → Option ℕ) (old first : StoreState) (n : ℕ) (inode : List ℕ) (block : ℕ) : Type 0 where
  pub exact : Ok inode ≡ inode_in (latest old.lives) fs n
  pub under : block ≢ 0 → Under T (latest old.lives) fs block 5
  pub put : Emptied T fs block old first (Ok tt)
  pub leaves : EmptiedData T fs array old first n inode

pub emptied_put : (T : Types) (fs block : ℕ) (old new : StoreState) (entry : ℕ) (items : List ℕ) → block ≢ 0 → length (latest old.lives block) ≡ 512 → items ≡ data_of_pointers (latest old.lives block) → items ≢ [] →
    propose_of T old fs block (edit_at 0 (replicate 512 0) [] items None) ≡ Ok (entry, new) → Emptied T fs block old new (Ok tt)
emptied_put T fs block old new entry items there long is some p = inr (there, long, entry, subst (λ (ds : List ℕ). propose_of T old fs block (edit_at 0 (replicate 512 0) [] ds None) ≡ Ok (entry, new)) is p, λ z. some (is ∙ z))

pub emptied_refused : (T : Types) (fs block : ℕ) (old new : StoreState) (fault : FfsFault) (items : List ℕ) → block ≢ 0 → length (latest old.lives block) ≡ 512 → items ≡ data_of_pointers (latest old.lives block) →
    (new ≡ old) × Tells (propose_of T old fs block (edit_at 0 (replicate 512 0) [] items None)) fault → (result : Result (Unit {0}) FfsFault) → IsErrAnd result (λ other. other ≡ fault) → Emptied T fs block old new result
emptied_refused T fs block old new fault items there long is p result from =
    let q = err_from_is_err_and result from in
    subst (Emptied T fs block old new) (sym q.1)
    (p.0, there, long, subst (λ (x : FfsFault). Tells (propose_of T old fs block (emptying old block)) x) (sym q.2) (subst (λ (ds : List ℕ). Tells (propose_of T old fs block (edit_at 0 (replicate 512 0) [] ds None)) fault) is p.1))

-- and then the inode is given up
pub given_up_then : (T : Types) (fs : ℕ) (array : ℕ → Option ℕ) (old first new : StoreState) (n : ℕ) (inode : List ℕ) → EmptiedData T fs array old first n inode → RepairedOne first new fs n GiveUp → RepairedOne old new fs n GiveUp
given_up_then T fs array old first new n inode k r = record {
  repaired = r.repaired;
  others = λ d ne. same_on (latest old.lives) (latest first.lives) (latest new.lives) fs d (k.others d ne) (r.others d ne);
  nothing = λ z. absurd (give_no_keep z);
  spares = λ i m some ne x. r.spares i m some ne (k.spares i m some x);
}

-- What is left where an inode could not be repaired

pub nothing_repaired : (T : Types) (fs : ℕ) (old new : StoreState) (n : ℕ) (repair : Repair) → repair ≢ Keep → (inode : List ℕ) → Ok inode ≡ inode_in (latest old.lives) fs n → new ≡ old → (block : ℕ) → IsHome (latest old.lives) fs n block ⊎ (block ≡ word_at inode 56) →
    (fault : FfsFault) → Wants T old fs block fault → StopsRepairing T fs old new n repair fault
nothing_repaired T fs old new n repair needed inode is same block of fault wants = subst (λ (s : StoreState). StopsRepairing T fs old s n repair fault) (sym same) (record {
  needed = needed;
  others = λ d ne. (refl, λ x i. (refl, λ at low. refl), λ some few. refl);
  inode = inode;
  was = is;
  is = is;
  stage = inl refl;
  wants = either_wants T old fs n inode is block of fault wants;
})

pub pointers_emptied : (T : Types) (fs : ℕ) (array : ℕ → Option ℕ) (old first new : StoreState) (n : ℕ) (inode : List ℕ) → Ok inode ≡ inode_in (latest old.lives) fs n → EmptiedData T fs array old first n inode → new ≡ first →
    (block : ℕ) → IsHome (latest first.lives) fs n block → (fault : FfsFault) → Wants T first fs block fault → StopsRepairing T fs old new n GiveUp fault
pointers_emptied T fs array old first new n inode is k same block home fault wants = subst (λ (s : StoreState). StopsRepairing T fs old s n GiveUp fault) (sym same) (record {
  needed = give_no_keep;
  others = k.others;
  inode = inode;
  was = is;
  is = k.same;
  stage = elim k.left [ inl e ↦ inl e | inr x ↦ inr (refl, x) ];
  wants = inl (home_wants T first fs n block home fault wants);
})

-- What one needs that is as before

as_it_was : (u v w : ℕ → List ℕ) (fs n : ℕ) (inode : List ℕ) (links : ℕ) → SameInode u v fs n → Ok inode ≡ inode_in u fs n → IsLinked v w fs n inode links → IsLinked u w fs n inode links
as_it_was u v w fs n inode links same i x =
    let k = same.1 inode i in
    (record { after = x.0.after; found = x.0.found; mode = x.0.mode; size = x.0.size; entries = x.0.entries ∙ k.0; each = λ at low. x.0.each at low ∙ k.1 at low; direct = x.0.direct; room = x.0.room ∙ room_by u v inode inode refl k.1 }, x.1)

-- after others were repaired
pub repaired_from : (u v w : ℕ → List ℕ) (fs n : ℕ) (repair : Repair) → SameInode u v fs n → Repaired v w fs n repair → Repaired u w fs n repair
repaired_from u v w fs n Keep same x = same_on u v w fs n same x
repaired_from u v w fs n GiveUp same x = x
repaired_from u v w fs n (SetLinks links) same x = λ inode i. as_it_was u v w fs n inode links same i (x inode (i ∙ sym same.0))

-- and before others are
pub repaired_then : (u v w : ℕ → List ℕ) (fs n : ℕ) → n ≢ 0 → n ≤ 128 → (repair : Repair) → Repaired u v fs n repair → SameInode v w fs n → Repaired u w fs n repair
repaired_then u v w fs n some low Keep x same = same_on u v w fs n x same
repaired_then u v w fs n some low GiveUp x same = (same.0 ∙ x.0, same.2 some low ∙ x.1)
repaired_then u v w fs n some low (SetLinks links) x same = λ inode i.
    let y = x inode i in
    let k = same.1 y.0.after y.0.found in
    (record { after = y.0.after; found = y.0.found ∙ sym same.0; mode = y.0.mode; size = y.0.size; entries = k.0 ∙ y.0.entries; each = λ at low. k.1 at low ∙ y.0.each at low; direct = y.0.direct; room = room_by v w y.0.after y.0.after refl k.1 ∙ y.0.room }, y.1)

-- All inodes, one after another

module _ (T : Types) (fs : ℕ) (array : ℕ → Option ℕ) (old : StoreState) (s : Stage T fs array old) (idle : pending_of old fs ≡ 0) where
  -- an inode's links beside its names are to spare
  spare_of : (n : ℕ) (inode : List ℕ) → Ok inode ≡ inode_in (latest old.lives) fs n → KeepsNumber library_layout old.lives fs None (inode_links inode - names_count (latest old.lives) fs n) n
  spare_of n inode e =
      let content = latest old.lives in
      let at = stands_from content fs n inode e in
      let count = names_count content fs n in
      let left : ℕ = inode_links inode - count in
      let low : (n - 1) % 8 < 8 = omega arith in
      let links : library_layout.links (content at.block) (library_layout.home n).1 ≡ inode_links inode = links_read (content at.block) ((n - 1) % 8) low ∙ ap inode_links (sym at.bytes) in
      elim (cases_lt (inode_links inode) count) [
        | inl over ↦ let zero : left ≡ 0 = omega (arith, over) in subst (λ m. KeepsNumber library_layout old.lives fs None m n) (sym zero) (s.keeps.numbers n at.some)
        | inr enough ↦ spare_begins T library_layout fs array old s.keeps idle n left at.block at.some at.inodes
            (subst (λ k. LeavesRoom left k (Names library_layout content fs n)) (sym links) (λ ys d all. let few = names_within content fs n at.some ys d all in omega (arith, few, enough)))
      ]

  -- what one needs may be done
  pub may_repair : (now : StoreState) (done : ℕ) → InMiddle T fs array old now done → (n : ℕ) → n ≡ done + 1 → (repair : Repair) → repair ≡ repair_in (latest old.lives) fs n → MayRepair now fs n repair
  may_repair now done x n next Keep e = tt
  may_repair now done x n next GiveUp e =
      let r = given_up (latest old.lives) fs n (sym e) in
      let all_links : inode_links r.inode - names_count (latest old.lives) fs n ≡ inode_links r.inode = omega (arith, r.none) in
      record {
        some = (stands_from (latest old.lives) fs n r.inode r.found).some;
        inode = r.inode;
        found = r.found ∙ sym (x.later n (inr (omega (arith, next)))).0;
        spares = x.spares n (inode_links r.inode) (omega (arith, next)) (subst (λ m. KeepsNumber library_layout old.lives fs None m n) all_links (spare_of n r.inode r.found));
      }
  may_repair now done x n next (SetLinks links) e =
      let r = links_set (latest old.lives) fs n links (sym e) in
      let at = stands_from (latest old.lives) fs n r.inode r.found in (
        record {
          some = at.some;
          inode = r.inode;
          found = r.found ∙ sym (x.later n (inr (omega (arith, next)))).0;
          spares = x.spares n (inode_links r.inode - links) (omega (arith, next)) (subst (λ k. KeepsNumber library_layout old.lives fs None (inode_links r.inode - k) n) r.names (spare_of n r.inode r.found));
        },
        r.fewer,
      )

-- one more is repaired
pub middle_more : (T : Types) (fs : ℕ) (array : ℕ → Option ℕ) (old now new : StoreState) (done next : ℕ) → next ≡ done + 1 → next ≤ 128 → (repair : Repair) → repair ≡ repair_in (latest old.lives) fs next → InMiddle T fs array old now done → Stage T fs array new →
    RepairedOne now new fs next repair → InMiddle T fs array old new next
middle_more T fs array old now new done next is low repair e x stage r = record {
  stage = stage;
  before = λ i some le. elim (cases_eq i next) [
    | inl same ↦
        subst (λ k. Repaired u w fs k (repair_in u fs k)) (sym same)
        (repaired_from u v w fs next (repair_in u fs next) (x.later next (inr (omega (arith, is)))) (subst (Repaired v w fs next) e r.repaired))
    | inr ne ↦ repaired_then u v w fs i some (omega (arith, le, low)) (repair_in u fs i) (x.before i some (omega (arith, le, is, ne))) (r.others i ne)
  ];
  later = λ i of. same_on u v w fs i (x.later i (elim of [ inl z ↦ inl z | inr lt ↦ inr (omega (arith, lt, is)) ]))
      (r.others i (elim of [ inl z ↦ λ f. absurd (omega (arith, z, f, is)) | inr lt ↦ λ f. absurd (omega (arith, lt, f)) ]));
  nothing = λ none.
      let parts = both_none (flat_map (stages_at (files_of u fs)) (range_with_len 1 done)) (stages_at (files_of u fs) next) (sym (stages_more (files_of u fs) done next is) ∙ none) in
      r.nothing (e ∙ (need_is u fs next ∙ none_kept (repaired_below (files_of u fs) next) next (needs (files_of u fs) next) parts.1)) ∙ x.nothing parts.0;
  spares = λ i m lt k. r.spares i m (omega (arith, lt)) (λ f. absurd (omega (arith, lt, f))) (x.spares i m (omega (arith, lt, is)) k);
}
  where
    u : ℕ → List ℕ
    u = latest old.lives

    v : ℕ → List ℕ
    v = latest now.lives

    w : ℕ → List ℕ
    w = latest new.lives

-- all are repaired
pub middle_ends : (T : Types) (fs : ℕ) (array : ℕ → Option ℕ) (old new : StoreState) (done : ℕ) → done ≡ 128 → InMiddle T fs array old new done → (n : ℕ) → Repaired (latest old.lives) (latest new.lives) fs n (repair_in (latest old.lives) fs n)
middle_ends T fs array old new done all x n = elim (cases_eq n 0) [
  | inl e ↦ kept (inl e) (x.later n (inl e))
  | inr some ↦ elim (cases_lt 128 n) [
    | inl high ↦ kept (inr (some, high)) (x.later n (inr (omega (arith, high, all))))
    | inr le ↦ x.before n some (omega (arith, le, all))
  ]
]
  where
    kept : (n ≡ 0) ⊎ ((n ≢ 0) × (128 < n)) → SameInode (latest old.lives) (latest new.lives) fs n → Repaired (latest old.lives) (latest new.lives) fs n (repair_in (latest old.lives) fs n)
    kept bad same = subst (Repaired (latest old.lives) (latest new.lives) fs n) (sym (unnumbered_repair (latest old.lives) fs n bad)) same

-- How calls end

pub repair_fails : (T : Types) (fs : ℕ) (array : ℕ → Option ℕ) (old new : StoreState) (n : ℕ) (repair same : Repair) → repair ≡ same → (fault : FfsFault) → Stage T fs array new × Stops (StopsRepairing T fs old new n same) fault →
    (result : Result (Unit {0}) FfsFault) → IsErrAnd result (λ other. other ≡ fault) → Ends T fs array new result (λ _. RepairedOne old new fs n repair) (StopsRepairing T fs old new n repair)
repair_fails T fs array old new n repair same e fault p result from =
    fails (λ _. RepairedOne old new fs n repair) (StopsRepairing T fs old new n repair) p.0 result fault from (subst (λ (r : Repair). Stops (StopsRepairing T fs old new n r) fault) (sym e) p.1)

-- where nothing is pending
pub idle_ok : (state : StoreState) (fs : ℕ) → Ok tt ≡ idle_in state fs → pending_of state fs ≡ 0
idle_ok state fs e = elim (cases_eq (pending_of state fs) 0) [
  | inl z ↦ z
  | inr ne ↦ absurd (never tt Pending (e ∙ ap (λ (t : Bool). if t then Ok tt else Err Pending) (ne_eqb (pending_of state fs) 0 ne)))
]
