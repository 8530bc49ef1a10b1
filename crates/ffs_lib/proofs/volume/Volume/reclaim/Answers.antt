use Rattle.std.proofs.Common.{◌≡◌, ◌+◌, ◌≤◌, ◌∙◌, ℕ, Ok, ap, arith, inl, refl, subst, sym}
use Rattle.ffs_lib.proofs.Common.{Repair, files_of, latest, range_with_len, repair_in}
use Rattle.ffs_lib.specs.Orders.{Makes, StopsAct, made_by, made_of}
use Rattle.ffs_lib.specs.Reclaiming.{needs}
use Rattle.ffs_lib.specs.RepairOrder.{reclaimed_parts, repair_parts, repaired_edits}
use Rattle.ffs_lib.specs.Volumes.{edits_of}
use Rattle.ffs_lib.proofs.Counted.{first_none}
use Rattle.ffs_lib.proofs.Laws.{staged}
use Rattle.ffs_lib.proofs.Orders.{order_in}
use Rattle.ffs_lib.proofs.RepairOrder.{parts_more, parts_stop}
use Rattle.ffs_lib.proofs.ValueRepairs.{need_is}
use Rattle.ffs_lib.proofs.Reclaiming.{idle_ok, may_repair, middle_more}
use Rattle.ffs_lib.proofs.Staged.{same_here}
use Rattle.ffs_lib.proofs.StagedRepairs.{all_left, all_refused, all_value, done_reclaims, pending_reclaims, refused_left, refused_reclaims}
use Rattle.ffs_lib.proofs.volume.Volume.reclaim.Goals as goal

pub returns-in_err-repairs-clause-answers : goal.returns-in_err-repairs-clause-answers
returns-in_err-repairs-clause-answers g c =
    (pending_reclaims (g.S.Store.types_of c.args.store.now) c.args.self.now.fs.number (g.S.Store.state_of c.args.store.now) _ (c.in_err-repairs.ensures.exact c.requires.library) c.from_residual.result c.from_residual.ensures.1).0

pub returns-in_err-repairs-clause-inodes : goal.returns-in_err-repairs-clause-inodes
returns-in_err-repairs-clause-inodes g c =
    (pending_reclaims (g.S.Store.types_of c.args.store.now) c.args.self.now.fs.number (g.S.Store.state_of c.args.store.now) _ (c.in_err-repairs.ensures.exact c.requires.library) c.from_residual.result c.from_residual.ensures.1).1

pub returns-in_err-repairs-clause-order : goal.returns-in_err-repairs-clause-order
returns-in_err-repairs-clause-order g c =
    let fs = c.args.self.now.fs.number in
    let old = g.S.Store.state_of c.args.store.now in
    order_in (g.S.Store.types_of c.args.store.now) fs (reclaimed_parts (files_of (latest old.lives) fs) fs) old old (inl (first_none (g.S.Store.types_of c.args.store.now) fs _ old old refl)) _ c.from_residual.result c.from_residual.ensures.1

pub loop-at-init : goal.loop-at-init
loop-at-init g c = record {
  types = refl;
  middle = record {
    stage = staged c.requires c.args.self.now.fs.few;
    before = λ i some low. absurd (omega arith);
    later = λ i place. same_here (latest (g.S.Store.state_of c.args.store.now).lives) c.args.self.now.fs.number i;
    nothing = λ none. refl;
    spares = λ i m low kept. kept;
  };
  order = refl;
}

pub loop-at-preserved : goal.loop-at-preserved
loop-at-preserved g c =
    let T = g.S.Store.types_of c.args.store.now in
    let fs = c.args.self.now.fs.number in
    let old = g.S.Store.state_of c.args.store.now in
    let now = g.S.Store.state_of c.loop-at.store in
    let new = g.S.Store.state_of c.repair_inode.new.store in
    let u = latest old.lives in
    let at = c.loop-at.at in
    let middle = c.loop-at.invariant.middle in
    let idle = idle_ok old fs (c.in_ok-repairs.ensures.exact c.requires.library) in
    let repair : c.of.result ≡ repair_in u fs (at + 1) = c.of.ensures ∙ c.in_ok-repairs.ensures.each c.requires.library (at + 1) in
    let stage = staged c.requires c.args.self.now.fs.few in
    let p = c.in_ok-repair_inode.ensures.ends T (edits_of c.args.self.now.added) c.loop-at.invariant.types middle.stage (may_repair T fs _ old stage idle now at middle (at + 1) refl c.of.result repair) in
    let o = c.in_ok-repair_inode.ensures.order T (edits_of c.args.self.now.added) c.loop-at.invariant.types middle.stage in
    let low : at + 1 ≤ 128 = omega arith in
    record {
      types = c.repair_inode.ensures.types ∙ c.loop-at.invariant.types;
      middle = middle_more T fs _ old now new at (at + 1) refl low c.of.result repair middle p.0 p.1;
      order = parts_more T fs (files_of u fs) old now at (at + 1) refl c.loop-at.invariant.order new
          (subst (λ (r : Repair). made_of T fs (repaired_edits (latest now.lives) fs (at + 1) r) now ≡ Ok new) (repair ∙ need_is u fs (at + 1)) o);
    }

pub returns-in_err-repair_inode-clause-types : goal.returns-in_err-repair_inode-clause-types
returns-in_err-repair_inode-clause-types g c = c.repair_inode.ensures.types ∙ c.loop-at.invariant.types

pub returns-in_err-repair_inode-clause-answers : goal.returns-in_err-repair_inode-clause-answers
returns-in_err-repair_inode-clause-answers g c =
    let T = g.S.Store.types_of c.args.store.now in
    let fs = c.args.self.now.fs.number in
    let few = c.args.self.now.fs.few in
    let old = g.S.Store.state_of c.args.store.now in
    let at = c.loop-at.at in
    let middle = c.loop-at.invariant.middle in
    let looked = c.in_ok-repairs.ensures.exact c.requires.library in
    let repair : c.of.result ≡ repair_in (latest old.lives) fs (at + 1) = c.of.ensures ∙ c.in_ok-repairs.ensures.each c.requires.library (at + 1) in
    let p = c.in_err-repair_inode.ensures.ends T (edits_of c.args.self.now.added) c.loop-at.invariant.types middle.stage (may_repair T fs _ old (staged c.requires few) (idle_ok old fs looked) _ at middle (at + 1) refl c.of.result repair) in
    let low : at + 1 ≤ 128 = omega arith in
    (refused_reclaims T fs old _ c.in_err-repair_inode.field-0.0 looked p.1.0
    (all_refused T c.requires.library fs few _ old _ at middle (at + 1) refl low _ p.0.keeps.consistent c.in_err-repair_inode.field-0.0 c.of.result repair p.1.1)
    (refused_left T c.requires.library fs few _ old _ at middle (at + 1) refl low _ p.0.keeps.consistent c.in_err-repair_inode.field-0.0 c.of.result repair p.1.1)
    c.from_residual-in_err-repair_inode.result c.from_residual-in_err-repair_inode.ensures.1).0

pub returns-in_err-repair_inode-clause-inodes : goal.returns-in_err-repair_inode-clause-inodes
returns-in_err-repair_inode-clause-inodes g c =
    let T = g.S.Store.types_of c.args.store.now in
    let fs = c.args.self.now.fs.number in
    let few = c.args.self.now.fs.few in
    let old = g.S.Store.state_of c.args.store.now in
    let at = c.loop-at.at in
    let middle = c.loop-at.invariant.middle in
    let looked = c.in_ok-repairs.ensures.exact c.requires.library in
    let repair : c.of.result ≡ repair_in (latest old.lives) fs (at + 1) = c.of.ensures ∙ c.in_ok-repairs.ensures.each c.requires.library (at + 1) in
    let p = c.in_err-repair_inode.ensures.ends T (edits_of c.args.self.now.added) c.loop-at.invariant.types middle.stage (may_repair T fs _ old (staged c.requires few) (idle_ok old fs looked) _ at middle (at + 1) refl c.of.result repair) in
    let low : at + 1 ≤ 128 = omega arith in
    refused_left T c.requires.library fs few _ old _ at middle (at + 1) refl low _ p.0.keeps.consistent c.in_err-repair_inode.field-0.0 c.of.result repair p.1.1

pub returns-in_err-repair_inode-clause-keeps : goal.returns-in_err-repair_inode-clause-keeps
returns-in_err-repair_inode-clause-keeps g c =
    let T = g.S.Store.types_of c.args.store.now in
    let fs = c.args.self.now.fs.number in
    let old = g.S.Store.state_of c.args.store.now in
    let at = c.loop-at.at in
    let middle = c.loop-at.invariant.middle in
    let looked = c.in_ok-repairs.ensures.exact c.requires.library in
    let repair : c.of.result ≡ repair_in (latest old.lives) fs (at + 1) = c.of.ensures ∙ c.in_ok-repairs.ensures.each c.requires.library (at + 1) in
    let p = c.in_err-repair_inode.ensures.ends T (edits_of c.args.self.now.added) c.loop-at.invariant.types middle.stage (may_repair T fs _ old (staged c.requires c.args.self.now.fs.few) (idle_ok old fs looked) _ at middle (at + 1) refl c.of.result repair) in
    record { library = c.requires.library; keeps = p.0.keeps }

pub returns-in_err-repair_inode-clause-order : goal.returns-in_err-repair_inode-clause-order
returns-in_err-repair_inode-clause-order g c =
    let T = g.S.Store.types_of c.args.store.now in
    let fs = c.args.self.now.fs.number in
    let old = g.S.Store.state_of c.args.store.now in
    let now = g.S.Store.state_of c.loop-at.store in
    let new = g.S.Store.state_of c.repair_inode.new.store in
    let u = latest old.lives in
    let at = c.loop-at.at in
    let needed : c.of.result ≡ needs (files_of u fs) (at + 1) = c.of.ensures ∙ (c.in_ok-repairs.ensures.each c.requires.library (at + 1) ∙ need_is u fs (at + 1)) in
    let o = c.in_err-repair_inode.ensures.order T (edits_of c.args.self.now.added) c.loop-at.invariant.types c.loop-at.invariant.middle.stage in
    order_in T fs (reclaimed_parts (files_of u fs) fs) old new (parts_stop T fs (files_of u fs) old now at (at + 1) refl c.loop-at.invariant.order (omega arith) new
    (subst (λ (r : Repair). StopsAct T fs (Makes (repaired_edits (latest now.lives) fs (at + 1) r)) now new) needed o)) _ c.from_residual-in_err-repair_inode.result c.from_residual-in_err-repair_inode.ensures.1

pub returns-clause-types : goal.returns-clause-types
returns-clause-types g c = c.loop-at.invariant.types

pub returns-clause-answers : goal.returns-clause-answers
returns-clause-answers g c =
    let T = g.S.Store.types_of c.args.store.now in
    let fs = c.args.self.now.fs.number in
    let few = c.args.self.now.fs.few in
    let old = g.S.Store.state_of c.args.store.now in
    let middle = c.loop-at.invariant.middle in
    let all : c.loop-at.at ≡ 128 = omega arith in
    (done_reclaims T fs old _ _ (c.in_ok-repairs.ensures.exact c.requires.library) (c.in_ok-repairs.ensures.each c.requires.library) (all_value T c.requires.library fs few _ old _ c.loop-at.at middle all)
    (all_left T c.requires.library fs few _ old _ c.loop-at.at middle all)).0

pub returns-clause-inodes : goal.returns-clause-inodes
returns-clause-inodes g c =
    all_left (g.S.Store.types_of c.args.store.now) c.requires.library c.args.self.now.fs.number c.args.self.now.fs.few _ (g.S.Store.state_of c.args.store.now) _ c.loop-at.at c.loop-at.invariant.middle (omega arith)

pub returns-clause-order : goal.returns-clause-order
returns-clause-order g c =
    let fs = c.args.self.now.fs.number in
    let old = g.S.Store.state_of c.args.store.now in
    let all : c.loop-at.at ≡ 128 = omega arith in
    ap (λ (k : ℕ). made_by (g.S.Store.types_of c.args.store.now) fs (repair_parts (files_of (latest old.lives) fs) fs (range_with_len 1 k)) old) (sym all) ∙ c.loop-at.invariant.order

pub returns-clause-keeps : goal.returns-clause-keeps
returns-clause-keeps g c = record { library = c.requires.library; keeps = c.loop-at.invariant.middle.stage.keeps }
