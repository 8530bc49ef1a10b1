-- Links that all cuts leave to spare: where nothing of a file system is pending each cut has the newest names.
use Rattle.std.proofs.Common.{◌≡◌, ℕ, ◌⊎◌, Option, None, sym, ◌∙◌, ap, inl, inr, arith, subst}
use Rattle.std.specs.Prelude.{Contains, ◌≢◌}
use Rattle.xn_model.specs.Types.{Types}
use Rattle.xn_model.specs.Lives.{StoreState}
use Rattle.xn_model.specs.Calls.{pending_of}
use Rattle.ffs_model.specs.Cuts.{Choice, IsCut, seen, latest}
use Rattle.ffs_model.specs.Names.{Layout, IsInodes, Names, LeavesRoom}
use Rattle.ffs_model.specs.Volumes.{IsNameBlock, of_inodes, of_entries, KeepsNumber, VolumeKeeps}
use Rattle.ffs_model.proofs.Chosen.{full_seen}
use Rattle.ffs_model.proofs.Stays.{fewer}
use Rattle.ffs_model.proofs.Mounted.{one_block}
use Rattle.ffs_model.proofs.Opened.{names_rest}

module _ (T : Types) (L : Layout) (fs : ℕ) (array : ℕ → Option ℕ) (state : StoreState) (v : VolumeKeeps T L fs array state) (none : pending_of state fs ≡ 0) where
  -- a cut has the newest bytes of each block that names are read from
  newest_seen : (k : Choice) (b : ℕ) → IsNameBlock L (latest state.lives) fs b → seen state.lives k b ≡ latest state.lives b
  newest_seen k b x = full_seen state.lives k b (λ l e. rw (names_rest T L fs array state v none b l x e) (omega arith))

  pub names_now : (k : Choice) → IsCut state.lives k → (n : ℕ) (y : ℕ × ℕ) → Names L (seen state.lives k) fs n y → Names L (latest state.lives) fs n y
  names_now k cut n y r =
      let at = v.frame.stable k r.index r.block cut r.inodes in
      let bytes = newest_seen k r.block (of_inodes at) in
      let mode : L.mode (latest state.lives r.block) r.place ≡ 2 = ap (λ m. L.mode m r.place) (sym bytes) ∙ r.directory in
      let has : Contains (L.direct (latest state.lives r.block) r.place) y.0 = subst (λ m. Contains (L.direct m r.place) y.0) bytes r.has in
      record {
        index = r.index;
        block = r.block;
        place = r.place;
        inodes = at;
        directory = mode;
        has = has;
        names = ap (λ m. L.entry m y.1) (sym (newest_seen k y.0 (of_entries at mode has))) ∙ r.names;
      }

  pub spare_begins : (n m b : ℕ) → n ≢ 0 → IsInodes L (latest state.lives) fs (L.home n).0 b → LeavesRoom m (L.links (latest state.lives b) (L.home n).1) (Names L (latest state.lives) fs n) → KeepsNumber L state.lives fs None m n
  spare_begins n m b some at room = record {
    good = (v.numbers n some).good;
    tight = λ k c cut x full t. subst (λ d. LeavesRoom m (L.links (latest state.lives d) (L.home n).1) (λ y. Names L (seen state.lives k) fs n y ⊎ Names L (latest state.lives) fs n y))
        (sym (one_block L (latest state.lives) fs (L.home n).0 c b x at))
        (fewer m (L.links (latest state.lives b) (L.home n).1) (Names L (latest state.lives) fs n) (λ y. Names L (seen state.lives k) fs n y ⊎ Names L (latest state.lives) fs n y)
        (λ y q. elim q [ inl r ↦ names_now k cut n y r | inr r ↦ r ]) room);
    reached = (v.numbers n some).reached;
  }
