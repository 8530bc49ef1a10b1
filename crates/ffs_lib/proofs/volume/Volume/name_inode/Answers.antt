use Rattle.std.proofs.Common.{◌∙◌, ◌*◌, ◌-◌, ◌/◌, ℕ, [], Option, get_or, inl, inr, refl, rules, subst, sym}
use Rattle.ffs_lib.proofs.Common.{VolumeKeeps, latest, library_layout, propose_of}
use Rattle.ffs_lib.specs.Steps.{StopsNew}
use Rattle.ffs_lib.specs.Edits.{edit_at}
use Rattle.ffs_lib.proofs.Entering.{made_then}
use Rattle.ffs_lib.proofs.Laws.{at_home, same_stage, short_told, staged, stops_err}
use Rattle.ffs_lib.proofs.Linked.{recorded_given}
use Rattle.ffs_lib.proofs.NameLaws.{makes_short, named_after, named_once}
use Rattle.ffs_lib.proofs.NewOrder.{names_done, names_none, names_stop}
use Rattle.ffs_lib.proofs.Numbers.{is_kept}
use Rattle.ffs_lib.specs.Volumes.{edits_of}
use Rattle.ffs_lib.proofs.volume.Volume.name_inode.Goals as goal

pub returns-in_err-made : goal.returns-in_err-made
returns-in_err-made g c =
    let T = g.S.Store.types_of c.args.store.now in
    let volume = c.args.self.now in
    let array = edits_of volume.added in
    let free = c.args.free in
    let is = c.requires.free in
    let zeroth = g.S.Store.state_of c.args.store.now in
    let s = staged c.requires.volume volume.fs.few in
    let kept = is_kept volume.added _ c.from-index.result c.index-self-index.result c.from-index.ensures c.has_places.ensures is.low in
    let recorded = get_or volume.added (c.from-index.result / 8) c.index-self-index.result in
    let edit = edit_at (64 * free.place) _ [] [] recorded in
    let p = c.in_err-made.ensures.put T refl in
    record {
      types = search rules;
      fs = search rules;
      leaves = λ inode dir room. (
        record { library = s.library; keeps = (same_stage s p.0).keeps },
        stops_err _ (StopsNew T _ zeroth _ c.args.directory c.args.name.now c.args.mode _) c.from_residual.result _ c.from_residual.ensures.1 (
          short_told (propose_of T zeroth _ free.block edit)
              (makes_short T _ array zeroth s free is c.args.mode _ c.put_inode.ensures.whole c.empty_inode-inode.ensures.fields recorded (recorded_given zeroth array s.keeps.given recorded ((free.number - 1) / 8) kept.is)) _ p.1,
          inl (at_home T _ zeroth _ _ free.block free.place is.stands p.0 _ (edit, p.1)),
        ),
      );
      order = λ inode dir room. names_none T _ c.args.directory c.args.name.now c.args.mode _ array array zeroth _ refl p.0 _ c.from_residual.result c.from_residual.ensures.1;
    }

pub returns-in_err-enter : goal.returns-in_err-enter
returns-in_err-enter g c =
    let T = g.S.Store.types_of c.args.store.now in
    let array = edits_of c.args.self.now.added in
    let zeroth = g.S.Store.state_of c.args.store.now in
    let first = g.S.Store.state_of c.put_inode.new.store in
    let s = staged c.requires.volume c.args.self.now.fs.few in
    let kept = is_kept c.args.self.now.added _ c.from-index.result c.index-self-index.result c.from-index.ensures c.has_places.ensures c.requires.free.low in
    let k = named_after T _ array zeroth s c.args.free c.requires.free c.args.mode c.empty_inode-inode.result c.put_inode.ensures.whole c.empty_inode-inode.ensures.fields _ first c.in_ok-made.made c.requires.used c.empty_inode-inode.ensures.bytes kept.is (c.in_ok-made.ensures.put T refl) in
    let new = g.S.Store.state_of c.enter.new.store in
    let from = c.from_residual-in_err-enter.ensures.1 in
    record {
      types = search rules;
      fs = search rules;
      leaves = λ inode dir room.
          let named = named_once (latest zeroth.lives) (latest first.lives) _ c.args.directory _ inode dir k.made.free k.made.others in
          let x = c.in_err-enter.ensures.ends T array inode c.put_inode.ensures.types k.keeps k.may named.0 (named.1 ∙ room) in (
            record { library = s.library; keeps = x.0.keeps },
            stops_err _ (StopsNew T _ zeroth new c.args.directory c.args.name.now c.args.mode _) c.from_residual-in_err-enter.result _ from (x.1.0, inr (first, k.made, x.1.1)),
          );
      order = λ inode dir room.
          let named = named_once (latest zeroth.lives) (latest first.lives) _ c.args.directory _ inode dir k.made.free k.made.others in
          let x = c.in_err-enter.ensures.order T array inode c.put_inode.ensures.types k.keeps k.may named.0 (named.1 ∙ room) in
          names_stop T _ c.args.directory c.args.name.now c.args.mode _ array array zeroth first new k.one c.in_ok-made.made k.last refl x.0 _ c.from_residual-in_err-enter.result from;
    }

pub returns : goal.returns
returns g c =
    let T = g.S.Store.types_of c.args.store.now in
    let volume = c.args.self.now in
    let zeroth = g.S.Store.state_of c.args.store.now in
    let first = g.S.Store.state_of c.put_inode.new.store in
    let s = staged c.requires.volume volume.fs.few in
    let kept = is_kept volume.added _ c.from-index.result c.index-self-index.result c.from-index.ensures c.has_places.ensures c.requires.free.low in
    let k = named_after T _ _ zeroth s c.args.free c.requires.free c.args.mode c.empty_inode-inode.result c.put_inode.ensures.whole c.empty_inode-inode.ensures.fields _ first c.in_ok-made.made c.requires.used c.empty_inode-inode.ensures.bytes kept.is (c.in_ok-made.ensures.put T refl) in
    let new = g.S.Store.state_of c.enter.new.store in
    record {
      types = search rules;
      fs = search rules;
      leaves = λ inode dir room.
          let named = named_once (latest zeroth.lives) (latest first.lives) _ c.args.directory _ inode dir k.made.free k.made.others in
          let x = c.in_ok-enter.ensures.ends T _ inode c.put_inode.ensures.types k.forgets k.may named.0 (named.1 ∙ room) in (
            record { library = s.library; keeps = subst (λ (a : ℕ → Option ℕ). VolumeKeeps T library_layout volume.fs.number a new) kept.forgets x.0.keeps },
            (made_then (latest zeroth.lives) (latest first.lives) (latest new.lives) _ c.args.directory c.args.name.now c.args.mode _ k.made.free k.made.made k.made.others (x.1.0.more, x.1.0.others) inode dir, refl),
          );
      order = λ inode dir room.
          let named = named_once (latest zeroth.lives) (latest first.lives) _ c.args.directory _ inode dir k.made.free k.made.others in
          let x = c.in_ok-enter.ensures.order T _ inode c.put_inode.ensures.types k.forgets k.may named.0 (named.1 ∙ room) in
          names_done T _ c.args.directory c.args.name.now c.args.mode _ _ _ zeroth first new k.one c.in_ok-made.made k.last (sym kept.forgets) x.0;
    }
