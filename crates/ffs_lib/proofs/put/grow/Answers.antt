use Rattle.ffs_lib.proofs.Common.{Fields, IsLibrary, fields_of, init_of, inode_blocks, latest, put, to_le_bytes, zero_block}
use Rattle.std.proofs.Common.{rules, ◌≡◌, ◌∙◌, ◌+◌, ◌*◌, inl, ℕ, List, [], ◌∷◌, Some, ap, arith, length, subst, sym, w32}
use Rattle.ffs_model.proofs.ForCallers.{data_begun}
use Rattle.ffs_lookup.proofs.ForCallers.{block_again, gives_err, same_ok}
use Rattle.ffs_lib.proofs.Tests.{never}
use Rattle.ffs_lib.proofs.Entering.{directory_from}
use Rattle.ffs_lib.proofs.Fields.{same_blocks}
use Rattle.ffs_lib.proofs.Owners.{stands_from}
use Rattle.ffs_lib.proofs.DataShort.{block_long}
use Rattle.ffs_lib.specs.Edits.{edit_at}
use Rattle.ffs_lib.specs.Orders.{Attaches, grown, grown_edit}
use Rattle.ffs_lib.specs.Steps.{Attached}
use Rattle.ffs_lib.proofs.Orders.{act_err, grow_act, home_begun}
use Rattle.ffs_lib.proofs.Laws.{attaches, begins_by, begins_err, fails, home_of, same_stage, short_told, told_by}
use Rattle.ffs_lib.proofs.NameLaws.{grow_again, grow_short, grow_stage, grow_undone, grows, not_begun}
use Rattle.ffs_lib.proofs.put.grow.Goals as goal

pub returns-in_err-block : goal.returns-in_err-block
returns-in_err-block g c =
    let old = g.S.Store.state_of c.args.store.now in
    let new = g.S.Store.state_of c.init.new.self in
    record {
      types = search rules;
      ends = λ T array directory name n e s m dir empty gap b.
          let given = begins_err (g.S.Store.types_of c.args.store.now) T _ 2 _ _ old new c.in_err-block.field-0.0 e c.block_with.ensures c.in_err-block.ensures.state in
          let same = gives_err (init_of T old _ 2 _) old new _ given in
          let told = told_by (init_of T old _ 2 _) old new _ given in
          let own = stands_from (latest old.lives) _ c.args.number directory (directory_from (latest old.lives) _ c.args.number directory dir).0 in
          fails _ _ (same_stage s same) c.from_residual.result _ c.from_residual.ensures.1
          (short_told (init_of T old _ 2 _) (data_begun T old s.keeps.consistent _ _ (block_long 0 c.args.entry.now (let whole = b.whole in omega (arith, whole)))) _ told, not_begun T _ old new c.args.number directory dir same c.args.index empty c.args.entry.now own.block (block_again (latest old.lives) _ _ own.block own.inodes) _ told);
      order = λ T array directory name n home e s m dir empty gap b at.
          let given = begins_err (g.S.Store.types_of c.args.store.now) T _ 2 _ _ old new c.in_err-block.field-0.0 e c.block_with.ensures c.in_err-block.ensures.state in
          act_err T _ (Attaches 2 _ home (grown_edit c.args.number directory c.args.index c.args.after)) old new (inl (gives_err (init_of T old _ 2 _) old new _ given)) (λ (k : ℕ). new.next ≡ k + 1) _ c.from_residual.result c.from_residual.ensures.1;
    }

pub returns-in_err-home : goal.returns-in_err-home
returns-in_err-home g c =
    let zeroth = g.S.Store.state_of c.args.store.now in
    let first = g.S.Store.state_of c.init.new.self in
    let fs = c.args.fs.number in
    let number = c.in_ok-block.field-0-1 in
    let bytes = c.args.entry.now in
    record {
      types = search rules;
      ends = λ T array directory name n e s m dir empty gap b.
          let done = begins_by (g.S.Store.types_of c.args.store.now) T fs 2 _ (put zero_block 0 bytes) zeroth first (c.in_ok-block.block, number) e c.block_with.ensures c.in_ok-block.ensures.state in
          let again = grow_again T fs array zeroth first s c.args.number directory dir n c.args.after m bytes name b c.args.index c.requires empty gap _ number done in
          absurd (never directory _ (again ∙ sym (c.in_err-home.ensures.exact (subst IsLibrary (sym (c.init.ensures.types ∙ e)) s.library))));
      order = λ T array directory name n home e s m dir empty gap b at.
          let done = begins_by (g.S.Store.types_of c.args.store.now) T fs 2 _ (put zero_block 0 bytes) zeroth first (c.in_ok-block.block, number) e c.block_with.ensures c.in_ok-block.ensures.state in
          let again = grow_again T fs array zeroth first s c.args.number directory dir n c.args.after m bytes name b c.args.index c.requires empty gap _ number done in
          absurd (never directory _ (again ∙ sym (c.in_err-home.ensures.exact (subst IsLibrary (sym (c.init.ensures.types ∙ e)) s.library))));
    }

pub returns : goal.returns
returns g c =
    let zeroth = g.S.Store.state_of c.args.store.now in
    let first = g.S.Store.state_of c.init.new.self in
    let new = g.S.Store.state_of c.attach.new.store in
    let fs = c.args.fs.number in
    let block = c.in_ok-block.block in
    let number = c.in_ok-block.field-0-1 in
    let bytes = c.args.entry.now in
    let found = c.in_ok-home.field-0 in
    let whole = ap length c.bytes.ensures.bytes ∙ c.bytes.ensures.whole in
    let direct = ap (λ (f : Fields). f.direct) (ap fields_of c.bytes.ensures.bytes ∙ c.set_size.ensures.fields) in
    let at = c.in_ok-home.ensures.found.is.stands in
    record {
      types = search rules;
      ends = λ T array directory name n e s m dir empty gap b.
          let done = begins_by (g.S.Store.types_of c.args.store.now) T fs 2 _ (put zero_block 0 bytes) zeroth first (block, number) e c.block_with.ensures c.in_ok-block.ensures.state in
          let types = c.init.ensures.types ∙ e in
          let exact = c.in_ok-home.ensures.exact (subst IsLibrary (sym types) s.library) in
          let size = 512 * c.count_blocks.result in
          let set = ap fields_of c.bytes.ensures.bytes ∙ (c.set_size.ensures.fields ∙ ap (λ (f : Fields). record f { size = size }) c.set_direct.ensures.fields) in
          let sized : size ≡ 512 * length (inode_blocks c.bytes.result.now) =
          ap (λ k. 512 * k) (c.count_blocks.ensures.exact ∙ ap (λ (bs : List ℕ). length bs) (sym (same_blocks c.set_direct.new.self _ direct))) in
          let edit = edit_at (64 * found.place) _ ((block, 2) ∷ []) [] (Some c.args.after) in
          attaches T fs block found.block edit array first new _ _
          (grow_stage T fs array zeroth first s c.args.number directory dir n c.args.after m bytes name b c.args.index c.requires empty gap block number done) c.attach.result (c.attach.ensures.put T types)
          (grow_short T fs array zeroth first s c.args.number directory dir n c.args.after m bytes name b c.args.index c.requires empty gap block number done found c.in_ok-home.ensures.found exact _ whole size set)
          (λ entry put. grows T fs array zeroth first s c.args.number directory dir n c.args.after m bytes name b c.args.index c.requires empty gap block number done found c.in_ok-home.ensures.found exact _ whole size set new entry sized put)
          (λ fault left told. grow_undone T fs array zeroth first s c.args.number directory dir n c.args.after m bytes name b c.args.index c.requires empty gap block number done found c.in_ok-home.ensures.found exact _ whole size set new left fault (edit, told));
      order = λ T array directory name n home e s m dir empty gap b is_home.
          let done = begins_by (g.S.Store.types_of c.args.store.now) T fs 2 _ (put zero_block 0 bytes) zeroth first (block, number) e c.block_with.ensures c.in_ok-block.ensures.state in
          let types = c.init.ensures.types ∙ e in
          let again = grow_again T fs array zeroth first s _ directory dir n c.args.after m bytes name b c.args.index c.requires empty gap block number done in
          let mine : found.inode ≡ directory = same_ok found.inode directory ((c.in_ok-home.ensures.exact (subst IsLibrary (sym types) s.library)) ∙ sym again) in
          let same : found.block ≡ home = same_ok found.block home (home_begun T fs array zeroth first s block number (put zero_block 0 bytes) done _ found.block (home_of first fs _ found.block found.place at) ∙ sym is_home) in
          let pointing = c.set_direct.ensures.bytes ∙ ap (λ (i : List ℕ). put i (8 + 4 * c.args.index) (to_le_bytes w32 block)) mine in
          let size = ap (λ (k : ℕ). 512 * k) c.count_blocks.ensures.exact in
          let after = c.bytes.ensures.bytes ∙ (c.set_size.ensures.bytes
          ∙ (ap (λ (k : ℕ). put c.set_direct.new.self 4 (to_le_bytes w32 k)) size ∙ ap (λ (i : List ℕ). put i 4 (to_le_bytes w32 (512 * length (inode_blocks i)))) pointing)) in
          let put1 = subst (λ (i : List ℕ). Attached T fs block found.block (edit_at (64 * found.place) i ((block, 2) ∷ []) [] (Some c.args.after)) first new c.attach.result) after (c.attach.ensures.put T types) in
          let put2 = subst (λ (k : ℕ). Attached T fs block found.block (edit_at (64 * k) (grown directory c.args.index block) ((block, 2) ∷ []) [] (Some c.args.after)) first new c.attach.result) at.at put1 in
          let put3 = subst (λ (k : ℕ). Attached T fs block k (grown_edit c.args.number directory c.args.index c.args.after block) first new c.attach.result) same put2 in
          grow_act T fs 2 home (put zero_block 0 bytes) (grown_edit _ directory c.args.index c.args.after) block number zeroth first new done c.attach.result put3;
    }
