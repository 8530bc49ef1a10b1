use Rattle.std.proofs.Common.{◌≡◌, ℕ, ◌-◌, ◌%◌, length, ap, sym, ◌∙◌, arith, subst}
use Rattle.ffs_model.specs.Cuts.{latest}
use Rattle.ffs_model.specs.Names.{IsInodes}
use Rattle.ffs_model.specs.Library.{library_layout, inode_at}
use Rattle.ffs_model.proofs.ForCallers.{library_reads, under_inodes}
use Rattle.std.proofs.lemmas.Result.{err_from_is_err_and}
use Rattle.ffs_lookup.specs.Newest.{unless_unused}
use Rattle.ffs_lookup.proofs.Newest.{bad_number, good_number, in_inode_block, no_inode_block, no_number, not_ok, unused_is, used_is}
use Rattle.ffs_lookup.proofs.places.find_inode.Goals as goal

pub returns-clause-found : goal.returns-clause-found
returns-clause-found g c =
    let state = g.S.Store.state_of c.args.store.now in
    let at : c.home-index.result.1 ≡ (c.args.number - 1) % 8 = ap (λ (p : ℕ × ℕ). p.1) c.home-index.ensures in
    record {
      stands = record {
        some = c.if-number-eq0.false;
        inodes = subst (λ i. IsInodes library_layout (latest state.lives) c.args.fs.number i c.in_ok-block.block) (ap (λ (p : ℕ × ℕ). p.0) c.home-index.ensures) c.in_ok-block.ensures.inodes;
        at = at;
        few = omega arith;
        long = ap length c.in_ok-read_block.ensures.bytes ∙ c.in_ok-read_block.ensures.whole;
      };
      bytes = c.read-inode.ensures ∙ ap (λ m. inode_at m c.home-index.result.1) (sym c.in_ok-read_block.ensures.bytes);
      used = λ e. c.if-mode-eq0.false (c.mode.ensures ∙ e);
    }

pub returns-then-number-eq0-clause-exact : goal.returns-then-number-eq0-clause-exact
returns-then-number-eq0-clause-exact g c = λ lib.
    no_number (latest (g.S.Store.state_of c.args.store.now).lives) c.args.fs.number c.args.number (bad_number c.args.number c.then-number-eq0.either)

pub returns-in_err-block-clause-exact : goal.returns-in_err-block-clause-exact
returns-in_err-block-clause-exact g c = λ lib.
    let p = err_from_is_err_and c.from_residual.result c.from_residual.ensures.1 in
    rw (p.1, p.2)
    (no_inode_block (latest (g.S.Store.state_of c.args.store.now).lives) c.args.fs.number c.args.number (good_number c.args.number c.if-number-eq0.false c.if-number-gt-MOST_INODES.false)
    c.home-index.result.0 _ (ap (λ (p : ℕ × ℕ). p.0) c.home-index.ensures) c.in_err-block.ensures.exact)

pub returns-in_err-read_block-clause-exact : goal.returns-in_err-read_block-clause-exact
returns-in_err-read_block-clause-exact g c = λ lib.
    absurd (not_ok (c.in_err-read_block.ensures.reached 4
    (under_inodes _ library_layout (library_reads _ lib) (latest (g.S.Store.state_of c.args.store.now).lives) c.args.fs.number c.home-index.result.0 c.in_ok-block.block c.in_ok-block.ensures.inodes)))

pub returns-then-mode-eq0-clause-exact : goal.returns-then-mode-eq0-clause-exact
returns-then-mode-eq0-clause-exact g c = λ lib.
    unused_is c.read-inode.result (sym c.mode.ensures ∙ c.if-mode-eq0.true)
    ∙ (ap unless_unused c.read-inode.ensures
    ∙ in_inode_block (latest (g.S.Store.state_of c.args.store.now).lives) c.args.fs.number c.args.number (good_number c.args.number c.if-number-eq0.false c.if-number-gt-MOST_INODES.false)
    c.home-index.result.0 c.home-index.result.1 c.in_ok-block.block c.in_ok-read_block.field-0.now (ap (λ (p : ℕ × ℕ). p.0) c.home-index.ensures) (ap (λ (p : ℕ × ℕ). p.1) c.home-index.ensures)
    c.in_ok-block.ensures.exact c.in_ok-read_block.ensures.bytes)

pub returns-clause-exact : goal.returns-clause-exact
returns-clause-exact g c = λ lib.
    used_is c.read-inode.result (λ e. c.if-mode-eq0.false (c.mode.ensures ∙ e))
    ∙ (ap unless_unused c.read-inode.ensures
    ∙ in_inode_block (latest (g.S.Store.state_of c.args.store.now).lives) c.args.fs.number c.args.number (good_number c.args.number c.if-number-eq0.false c.if-number-gt-MOST_INODES.false)
    c.home-index.result.0 c.home-index.result.1 c.in_ok-block.block c.in_ok-read_block.field-0.now (ap (λ (p : ℕ × ℕ). p.0) c.home-index.ensures) (ap (λ (p : ℕ × ℕ). p.1) c.home-index.ensures)
    c.in_ok-block.ensures.exact c.in_ok-read_block.ensures.bytes)
