use Rattle.std.proofs.Common.{◌≡◌, ℕ, ◌+◌, ◌++◌, ◌∙◌, List, Ok, IsOk, ap, arith, inl, inr, is_ok, refl, sym}
use Rattle.ffs_lib.proofs.Common.{directory_in, err_from_is_err_and, files_of, latest, library_layout, listed, names_at, range_with_len}
use Rattle.ffs_model.proofs.ForCallers.{library_reads, under_direct}
use Rattle.ffs_lookup.proofs.ForCallers.{first_names, found_has, listed_told, names_are, names_more, names_past, no_names, not_ok}
use Rattle.ffs_lib.proofs.volume.Volume.list.Goals as goal

-- a directory has a list
is_listed : (content : ℕ → List ℕ) (fs d : ℕ) (inode : List ℕ) → Ok inode ≡ directory_in content fs d → IsOk (listed (files_of content fs) d)
is_listed content fs d inode found = ap is_ok (sym (names_are content fs d 12 inode (first_names content inode 12) found refl refl ∙ listed_told content fs d))

pub returns-in_err-found : goal.returns-in_err-found
returns-in_err-found g c = record {
  value = λ lib.
      let p = err_from_is_err_and c.from_residual.result c.from_residual.ensures.1 in
      rw (p.1, p.2) (inr (no_names (latest (g.S.Store.state_of c.args.store.now).lives) c.args.self.now.fs.number c.args.directory _ (c.in_err-found.ensures.exact lib) ∙ listed_told (latest (g.S.Store.state_of c.args.store.now).lives) c.args.self.now.fs.number c.args.directory));
}

pub returns-in_err-read_block : goal.returns-in_err-read_block
returns-in_err-read_block g c = record {
  value = λ lib.
      let state = g.S.Store.state_of c.args.store.now in
      let found = c.in_ok-found.found in
      let is = c.in_ok-found.ensures.found.is in
      let block = c.direct-block in
      absurd (not_ok (c.in_err-read_block.ensures.reached 2
      (under_direct _ library_layout (library_reads _ lib) (latest state.lives) _ _ found.block found.place block.result is.stands.inodes
      (found_has state _ c.args.directory found is c.loop-i.i block.result (omega arith) (sym block.ensures) c.if-block-eq0.false))));
}

pub returns-in_err-add_names : goal.returns-in_err-add_names
returns-in_err-add_names g c = record {
  value = λ lib.
      let p = err_from_is_err_and c.from_residual-in_err-add_names.result c.from_residual-in_err-add_names.ensures.1 in
      rw p.1 (inl (p.2, is_listed (latest (g.S.Store.state_of c.args.store.now).lives) c.args.self.now.fs.number c.args.directory c.in_ok-found.found.inode (c.in_ok-found.ensures.exact lib)));
}

pub loop-i-preserved-then-block-eq0 : goal.loop-i-preserved-then-block-eq0
loop-i-preserved-then-block-eq0 g c =
    c.loop-i.invariant
    ∙ names_past (latest (g.S.Store.state_of c.args.store.now).lives) c.in_ok-found.found.inode c.loop-i.i (c.loop-i.i + 1) refl (sym c.direct-block.ensures ∙ c.if-block-eq0.true)

pub loop-i-preserved : goal.loop-i-preserved
loop-i-preserved g c =
    c.in_ok-add_names.ensures
    ∙ (ap (λ xs. xs ++ names_at c.in_ok-read_block.field-0.now (range_with_len 0 16)) c.loop-i.invariant
    ∙ names_more (latest (g.S.Store.state_of c.args.store.now).lives) c.in_ok-found.found.inode c.loop-i.i (c.loop-i.i + 1) refl c.direct-block.result _ (sym c.direct-block.ensures) c.if-block-eq0.false
    c.in_ok-read_block.ensures.bytes)

pub returns : goal.returns
returns g c = record {
  value = λ lib.
      names_are (latest (g.S.Store.state_of c.args.store.now).lives) c.args.self.now.fs.number c.args.directory c.loop-i.i c.in_ok-found.found.inode _ (c.in_ok-found.ensures.exact lib) (omega arith) c.loop-i.invariant
      ∙ listed_told (latest (g.S.Store.state_of c.args.store.now).lives) c.args.self.now.fs.number c.args.directory;
}
