use Rattle.std.proofs.Common.{◌≡◌, ◌-◌, ◌*◌, ◌<◌, ◌∙◌, [], ◌∷◌, ℕ, List, Err, None, Ok, Option, Some, ap, arith, length, refl, rules, subst, sym}
use Rattle.ffs_lib.proofs.Common.{VolumeKeeps, init_of, library_layout, propose_of, with_edit, zero_block}
use Rattle.ffs_model.proofs.ForCallers.{free_begun}
use Rattle.ffs_lookup.proofs.ForCallers.{gives_err, gives_ok}
use Rattle.ffs_lib.specs.Edits.{edit_at}
use Rattle.ffs_lib.specs.NewOrder.{pointer_edit}
use Rattle.ffs_lib.specs.Steps.{Attached, StopsGrowing}
use Rattle.ffs_lib.specs.Volumes.{edits_of}
use Rattle.ffs_lib.proofs.Tests.{never, true_false}
use Rattle.ffs_lib.proofs.Laws.{forgot_stage, same_stage, short_told, staged, stops_err, told_by}
use Rattle.ffs_lib.proofs.NameLaws.{not_added, point_free, point_lowest, point_missing, point_short, point_stage, point_undone, points}
use Rattle.ffs_lib.proofs.NewOrder.{adds_done, adds_none, adds_stop}
use Rattle.ffs_lib.proofs.Numbers.{first_free, with_one}
use Rattle.ffs_lib.proofs.Orders.{grow_act}
use Rattle.ffs_lib.proofs.volume.Volume.add_inodes.Goals as goal

pub returns-in_err-block : goal.returns-in_err-block
returns-in_err-block g c =
    let T = g.S.Store.types_of c.args.store.now in
    let fs = c.args.self.now.fs in
    let zeroth = g.S.Store.state_of c.args.store.now in
    let v = c.requires.volume in
    let r = init_of T zeroth fs.number 4 zero_block in
    let same = gives_err r zeroth _ c.in_err-block.field-0.0 c.in_err-block.ensures.state in
    let told = told_by r zeroth _ c.in_err-block.field-0.0 c.in_err-block.ensures.state in
    record {
      types = search rules;
      fs = search rules;
      leaves = (
        record { library = v.library; keeps = (same_stage (staged v fs.few) same).keeps },
        stops_err _ (StopsGrowing T fs.number zeroth _) c.from_residual.result _ c.from_residual.ensures.1
            (short_told r (free_begun T v.library zeroth fs.number) _ told, not_added T fs.number zeroth _ c.requires.room same _ told),
      );
      order = adds_none T fs.number (edits_of c.args.self.now.added) zeroth _ same _ c.from_residual.result c.from_residual.ensures.1;
    }

pub returns-in_err-index : goal.returns-in_err-index
returns-in_err-index g c =
    let free = point_free _ _ _ _ _ (staged c.requires.volume c.args.self.now.fs.few) c.requires.room _ _ (gives_ok _ _ _ (c.in_ok-block.block, c.in_ok-block.field-0-1) c.in_ok-block.ensures.state) in
    absurd (true_false _ free.empty (c.in_err-index.ensures.exact free.root free.is_root).1)

pub returns-in_err-root : goal.returns-in_err-root
returns-in_err-root g c =
    let free = point_free _ _ _ _ _ (staged c.requires.volume c.args.self.now.fs.few) c.requires.room _ _ (gives_ok _ _ _ (c.in_ok-block.block, c.in_ok-block.field-0-1) c.in_ok-block.ensures.state) in
    absurd (never free.root _ (free.is_root ∙ sym c.in_err-root.ensures.exact))

pub returns-in_err-entry : goal.returns-in_err-entry
returns-in_err-entry g c =
    let T = g.S.Store.types_of c.args.store.now in
    let fs = c.args.self.now.fs.number in
    let first = g.S.Store.state_of c.init.new.self in
    let v = c.requires.volume in
    let s = staged v c.args.self.now.fs.few in
    let block = c.in_ok-block.block in
    let done = gives_ok (init_of T (g.S.Store.state_of c.args.store.now) fs 4 zero_block) _ first (block, c.in_ok-block.field-0-1) c.in_ok-block.ensures.state in
    let new = g.S.Store.state_of c.attach.new.store in
    let fault = c.in_err-entry.field-0.0 in
    let put = subst (λ (b : List ℕ). Attached T fs block c.in_ok-root.root (edit_at (4 * c.in_ok-index.index) b ((block, 4) ∷ []) [] None) first new (Err fault)) c.pointer_bytes-pointer.ensures.bytes (c.in_err-entry.ensures.put T c.init.ensures.types) in
    let empty = c.in_ok-index.ensures.empty in
    let from = c.from_residual-in_err-entry.ensures.1 in
    record {
      types = search rules;
      fs = search rules;
      leaves = (
        record { library = v.library; keeps = (forgot_stage T fs block _ first new (point_stage _ _ _ _ _ s c.requires.room _ _ done) put.0).keeps },
        stops_err _ (StopsGrowing T fs _ new) c.from_residual-in_err-entry.result _ from (
          short_told (propose_of T first fs _ (pointer_edit _ block)) (point_short _ _ _ _ _ s c.requires.room _ _ done _ c.in_ok-root.ensures.root _ empty c.is_word.ensures) _ put.1,
          point_undone _ _ _ _ _ s c.requires.room _ _ done _ c.in_ok-root.ensures.root _ empty c.is_word.ensures new put.0 _ (pointer_edit _ block, put.1),
        ),
      );
      order = adds_stop T fs _ _ _ new (Some (c.in_ok-root.root, c.in_ok-index.index)) (point_missing _ _ _ _ _ s c.requires.room _ _ done _ c.in_ok-root.ensures.root _ empty c.is_word.ensures c.requires.full c.in_ok-index.ensures.first)
          (grow_act T fs 4 _ zero_block (pointer_edit c.in_ok-index.index) block c.in_ok-block.field-0-1 (g.S.Store.state_of c.args.store.now) first new done (Err fault) put).0 refl fault c.from_residual-in_err-entry.result from;
    }

pub returns : goal.returns
returns g c =
    let T = g.S.Store.types_of c.args.store.now in
    let volume = c.args.self.now in
    let first = g.S.Store.state_of c.init.new.self in
    let s = staged c.requires.volume volume.fs.few in
    let block = c.in_ok-block.block in
    let done = gives_ok (init_of T (g.S.Store.state_of c.args.store.now) volume.fs.number 4 zero_block) _ first (block, c.in_ok-block.field-0-1) c.in_ok-block.ensures.state in
    let index = c.in_ok-index.index in
    let new = g.S.Store.state_of c.attach.new.store in
    let entry = c.in_ok-entry.entry in
    let empty = c.in_ok-index.ensures.empty in
    let low : index < length volume.added = omega (arith, c.has_places.ensures, empty.few) in
    let put = subst (λ (b : List ℕ). Attached T volume.fs.number block c.in_ok-root.root (edit_at (4 * index) b ((block, 4) ∷ []) [] None) first new (Ok entry)) c.pointer_bytes-pointer.ensures.bytes (c.in_ok-entry.ensures.put T c.init.ensures.types) in
    let x = points _ _ _ _ _ s c.requires.room _ _ done _ c.in_ok-root.ensures.root index empty c.is_word.ensures new entry put in
    let made = grow_act T _ 4 _ zero_block (pointer_edit index) block c.in_ok-block.field-0-1 (g.S.Store.state_of c.args.store.now) first new done (Ok entry) put in
    let last : entry ≡ new.next - 1 = omega (arith, made.1) in
    record {
      types = search rules;
      fs = search rules;
      leaves = (
        record { library = c.requires.volume.library; keeps = subst (λ (a : ℕ → Option ℕ). VolumeKeeps T library_layout volume.fs.number a new) (with_one volume.added index low entry) x.0.keeps },
        record { is = first_free T new _ _ index block entry empty.few x.0; lowest = point_lowest _ _ _ _ _ s c.requires.room _ _ done c.requires.full index c.in_ok-index.ensures.first; stays = x.1 },
      );
      order = adds_done T _ (edits_of volume.added) _ _ new (Some (c.in_ok-root.root, index)) (point_missing _ _ _ _ _ s c.requires.room _ _ done _ c.in_ok-root.ensures.root index empty c.is_word.ensures c.requires.full c.in_ok-index.ensures.first)
          made.0 (sym (with_one volume.added index low entry) ∙ ap (with_edit (edits_of volume.added) index) last);
    }
