use Rattle.std.proofs.Common.{◌≡◌, ◌∙◌, ◌+◌, ◌++◌, Option, Result, Err, ℕ, List, None, Some, Ok, length, replicate, slice_get, sym, ap, subst, arith, take, append-nil}
use Rattle.std.proofs.lemmas.Grind.{common_steps}
use Rattle.std.proofs.lemmas.List.{take_all, length-set}
use Rattle.std.proofs.KnownBytes.{Appends-trans}
use Rattle.std.specs.Prelude.{OnOk}
use Rattle.std.specs.Io.KnownBytes.{Appends}
use Rattle.disk.proofs.SliceGet.{slice_get-set_other}
use Rattle.xn_model.specs.Images.{block_of, joined}
use Rattle.world.specs.Disks.{image_of}
use Rattle.world.proofs.Images.{block_of-home, length-image_of}
use Rattle.world.proofs.unmounted.write_lanes.Goals.{then-len-ge-PIECE_LEN+in_ok-write_all, else-len-ge-PIECE_LEN}
use Rattle.world.proofs.unmounted.write_lanes.Goals as goal

pub loop-block-preserved : goal.loop-block-preserved
loop-block-preserved g c =
    let lanes = c.args.lanes in
    let block = c.loop-block.block in
    let lane = c.take_home-lane.result in
    let here : slice_get lanes block ≡ Some (Some lane) = sym (c.loop-block.invariant.rest block (omega arith)) ∙ c.take_home-lane.ensures.lane in
    let bytes : c.bytes.result.now ≡ block_of (image_of lanes (replicate (length lanes) None)) block =
    c.bytes.ensures ∙ sym (block_of-home lanes (replicate (length lanes) None) block lane here) in
    let long = length-image_of lanes (replicate (length lanes) None) in
    let before = c.loop-block.invariant.written in
    let piece = c.extend_from_slice.new.self.items in
    let whole : before.0 ++ piece ≡ joined (take (block + 1) (image_of lanes (replicate (length lanes) None))) = grind (arith, common_steps, bytes, long) in
    record {
      written = elim c.if-len-ge-PIECE_LEN.branch [
        | then-len-ge-PIECE_LEN+in_ok-write_all w ↦ rw (w.out-is, w.piece-is, w.clear.ensures.items) (
          before.0 ++ w.deref.result.now,
          Appends-trans (g.W.Write.contents c.args.out.now) (g.W.Write.contents c.loop-block.out) (g.W.Write.contents w.write_all.new.self)
              before.0 w.deref.result.now before.1 w.in_ok-write_all.ensures.bytes,
          append-nil (before.0 ++ w.deref.result.now) ∙ (ap (λ p. before.0 ++ p) w.deref.ensures.value ∙ whole),
        )
        | else-len-ge-PIECE_LEN w ↦ rw (w.out-is, w.piece-is) (before.0, before.1, whole)
      ];
      rest = λ k le. ap (λ ls. slice_get ls k) c.take_home-lane.ensures.rest ∙ slice_get-set_other c.loop-block.lanes block k None (omega arith)
          ∙ c.loop-block.invariant.rest k (omega arith);
      count = ap length c.take_home-lane.ensures.rest ∙ length-set c.loop-block.lanes block None ∙ c.loop-block.invariant.count;
    }

-- the last piece, behind all that was written before
written_last : {E : Type 0} (r : Result (Unit {0}) E) (a b c : Option (List ℕ)) (front piece last all : List ℕ) → Appends a b front → last ≡ piece → front ++ piece ≡ all
    → OnOk r (Appends b c last) → OnOk r (Appends a c all)
written_last (Ok done) a b c front piece last all before same whole now = subst (Appends a c) (ap (λ p. front ++ p) same ∙ whole) (Appends-trans a b c front last before now)
written_last (Err fault) a b c front piece last all before same whole now = tt

pub returns : goal.returns
returns g c =
    let image = image_of c.args.lanes (replicate (length c.args.lanes) None) in
    let long = length-image_of c.args.lanes (replicate (length c.args.lanes) None) in
    let before = c.loop-block.invariant.written in
    written_last c.write_all-2.result _ _ _ before.0 c.loop-block.piece.items c.deref-2.result.now (joined image) before.1 c.deref-2.ensures.value
    (before.2 ∙ ap joined (take_all c.loop-block.block image (omega arith))) c.write_all-2.ensures.bytes
