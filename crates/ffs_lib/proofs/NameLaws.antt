-- What the edits leave by which a name is made.
use Rattle.std.proofs.Common.{◌≡◌, ◌≢◌, ℕ, ◌+◌, ◌-◌, ◌*◌, ◌/◌, ◌%◌, ◌^◌, ◌<◌, List, [], ◌∷◌, length, replicate, Option, None, Some, Ok, Err, refl, sym, ◌∙◌, ap, arith, subst, inl, inr, Contains, IsTrue, find, option_map, slice_set, ◌==◌, w32}
use Rattle.ffs_lib.proofs.Common.{Edit, FfsFault, Fields, Found, IsDirectory, IsEmptyPointer, IsFree, IsGap, IsInodes, IsRoot, NoEntry, OneEntry, StoreState}
use Rattle.ffs_lib.proofs.Common.{Types, cases_eq, direct_in, fields_of, forget_of, init_of, inode_at, inode_blocks, inode_links, inode_mode, inode_pairs}
use Rattle.ffs_lib.proofs.Common.{latest, library_layout, list_any, pointer_word, propose_of, put, range_with_len, to_le_bytes, was_given, without_edit}
use Rattle.ffs_lib.proofs.Common.{zero_block}
use Rattle.xn_model.proofs.ForCallers.{Contains-head}
use Rattle.ffs_model.proofs.ForCallers.{Replaces, blocks_read, begun_next, given_later, library_reads, mode_read, one_entry, one_later, proposed_given, proposed_others, started_here, started_holds, started_keeps, started_names, under_direct, zeros_mode, zeros_pointer}
use Rattle.ffs_lookup.specs.declared.places.Free.{Free}
use Rattle.ffs_lookup.specs.Newest.{IsLowest, directory_in, has_free_at, has_room, inode_block_in, inode_in, number_from, room_in, root_in}
use Rattle.ffs_lookup.specs.declared.places.Room.TheVariants.{Entry, Pointer}
use Rattle.ffs_lookup.proofs.ForCallers.{directory_is, find_none, free_mode, in_directory, root_again, same_ok}
use Rattle.ffs_lib.specs.Edits.{edit_at}
use Rattle.ffs_lib.specs.NewOrder.{missing_block, new_edits}
use Rattle.ffs_lib.specs.Orders.{made_of}
use Rattle.ffs_lib.specs.Outcomes.{HasFreePointer, IsAdded, IsGrown, IsMade}
use Rattle.ffs_lib.specs.Results.{HasMore, IsLowestNumber, SameInode, SameOrNew, new_inode}
use Rattle.ffs_lib.specs.Steps.{Entered, IsEntry, IsHome, MadeInode, MayName, ShortEdit, Stage, StopsAtRoom, StopsAttaching, StopsEntering, StopsGrowing, Tells, Wants, left_by}
use Rattle.ffs_lib.proofs.Tests.{never}
use Rattle.ffs_lib.proofs.Edited.{attached, entered, grown, made, same_root}
use Rattle.ffs_lib.proofs.Entering.{begun_same, block_entered, directory_from, directory_same, free_none, gap_entered, inode_put}
use Rattle.ffs_lib.proofs.Fields.{free_blocks, one_more, same_blocks, zeros_inode}
use Rattle.ffs_lib.proofs.Laws.{can_edit, gives_of, home_of}
use Rattle.ffs_lib.proofs.Linked.{same_room}
use Rattle.ffs_lib.proofs.NewOrder.{missing_is, new_is}
use Rattle.ffs_lib.proofs.Orders.{last_number, one_order}
use Rattle.ffs_lib.proofs.Owners.{block_from, stands_from}
use Rattle.ffs_lib.proofs.Same.{Touches, as_same, begun, begun_some, block_same, new_on, none_touched, place_added, place_kept, pointer_touched, root_bytes, root_same, same_on}
use Rattle.ffs_lib.proofs.Undoing.{at_ok, attach_undone, undone_same}
use Rattle.ffs_lib.proofs.Short.{attached_short, begun_addable, entry_short, kept_short, pairs_kept, pairs_set, pointer_short}

-- An entry is written into a gap

module _ (T : Types) (fs : ℕ) (array : ℕ → Option ℕ) (old : StoreState) (s : Stage T fs array old) (d : ℕ) (found : Found) (dir : IsDirectory old fs d found) (exact : Ok found.inode ≡ directory_in (latest old.lives) fs d) (n e : ℕ) (m : MayName old fs n e)
    (bytes name : List ℕ) (b : IsEntry bytes n name) (block place : ℕ) (gap : IsGap old found block place) (first : Some (Entry block place) ≡ room_in (latest old.lives) found.inode) where
  pub enters_short : ShortEdit T old fs block (edit_at (32 * place) bytes [] [] (Some e))
  enters_short =
      entry_short T old (Some e) (can_edit s m.given) fs s.few block place
      (under_direct T library_layout (library_reads T s.library) (latest old.lives) fs (library_layout.home d).0 found.block found.place block dir.is.stands.inodes gap.has) gap.long gap.few bytes b.whole

  pub enters : (new : StoreState) (entry : ℕ) → propose_of T old fs block (edit_at (32 * place) bytes [] [] (Some e)) ≡ Ok (entry, new) →
      Stage T fs array new × (Entered (latest old.lives) (latest new.lives) fs d name n × IsTrue (was_given new (Some entry)))
  enters new entry done =
      let h = s.keeps.consistent in
      let has = subst (λ (i : List ℕ). Contains (inode_blocks i) block) (sym dir.is.bytes) (subst (λ xs. Contains xs block) (blocks_read (latest old.lives found.block) found.place dir.is.stands.few) gap.has) in
      let r = gap_entered T s.library old new h fs s.few d found.inode exact block place first has gap.few gap.long gap.empty n name bytes b.spelled b.whole b.named b.half m.some (Some e) entry done in (
        record { library = s.library; few = s.few; keeps = entered T s.library fs s.few array old new s.keeps d place block found dir gap bytes b.whole n e entry b.half m.some m.can done },
        (
          record { more = λ other is. subst (λ (i : List ℕ). HasMore (latest old.lives) (latest new.lives) fs d i name n) (same_ok found.inode other (exact ∙ sym is)) r.0; others = r.1 },
          proposed_given T old new h fs block (edit_at (32 * place) bytes [] [] (Some e)) entry done,
        ),
      )

pub not_entered : (T : Types) (fs : ℕ) (old new : StoreState) (d : ℕ) (inode : List ℕ) → Ok inode ≡ directory_in (latest old.lives) fs d → new ≡ old → (block place : ℕ) → Some (Entry block place) ≡ room_in (latest old.lives) inode → (bytes : List ℕ) (fault : FfsFault) →
    Wants T old fs block fault → StopsEntering T fs old new d bytes fault
not_entered T fs old new d inode dir same block place room bytes fault wants = record {
  same = λ x. subst (λ (s : StoreState). SameInode (latest old.lives) (latest s.lives) fs x) (sym same) (refl, λ i e. (refl, λ at low. refl), λ some few. refl);
  told = at_ok (directory_in (latest old.lives) fs d) inode (λ i. StopsAtRoom T fs old new d bytes fault (room_in (latest old.lives) i)) dir (subst (StopsAtRoom T fs old new d bytes fault) room (same, wants));
}

pub not_begun : (T : Types) (fs : ℕ) (old new : StoreState) (d : ℕ) (inode : List ℕ) → Ok inode ≡ directory_in (latest old.lives) fs d → new ≡ old → (index : ℕ) → Some (Pointer index) ≡ room_in (latest old.lives) inode → (bytes : List ℕ) (home : ℕ) →
    IsHome (latest old.lives) fs d home → (fault : FfsFault) → Tells (init_of T old fs 2 (put zero_block 0 bytes)) fault → StopsEntering T fs old new d bytes fault
not_begun T fs old new d inode dir same index room bytes home at fault told = record {
  same = λ x. subst (λ (s : StoreState). SameInode (latest old.lives) (latest s.lives) fs x) (sym same) (refl, λ i e. (refl, λ at low. refl), λ some few. refl);
  told = at_ok (directory_in (latest old.lives) fs d) inode (λ i. StopsAtRoom T fs old new d bytes fault (room_in (latest old.lives) i)) dir (subst (StopsAtRoom T fs old new d bytes fault) room
      (at_ok (inode_block_in (latest old.lives) fs ((d - 1) / 8)) home (λ owner. StopsAttaching T fs old new 2 (put zero_block 0 bytes) owner fault) at (inl (same, told))));
}

-- A new block with one entry

module _ (T : Types) (fs : ℕ) (array : ℕ → Option ℕ) (zeroth first : StoreState) (s : Stage T fs array zeroth) (d : ℕ) (inode : List ℕ) (dir : Ok inode ≡ directory_in (latest zeroth.lives) fs d) (n e : ℕ) (m : MayName zeroth fs n e)
    (bytes name : List ℕ) (b : IsEntry bytes n name) (index : ℕ) (low : index < 12) (empty : Some (Pointer index) ≡ room_in (latest zeroth.lives) inode) (gap : direct_in inode index ≡ 0) (block number : ℕ) (done : init_of T zeroth fs 2 (put zero_block 0 bytes) ≡ Ok ((block, number), first)) where
  pub grow_stage : Stage T fs array first
  grow_stage = record { library = s.library; few = s.few; keeps = started_keeps T library_layout (library_reads T s.library) fs s.few array zeroth first s.keeps fs 2 (put zero_block 0 bytes) (block, number) done }

  begins : (x : ℕ) → SameInode (latest zeroth.lives) (latest first.lives) fs x
  unfolding grow_stage
  begins = begun_same T s.library zeroth first first s.keeps.consistent grow_stage.keeps.consistent fs s.few block number bytes done

  pub grow_again : Ok inode ≡ directory_in (latest first.lives) fs d
  grow_again = dir ∙ sym (directory_same (latest zeroth.lives) (latest first.lives) fs d (begins d).0)

  given1 : IsTrue (was_given first (Some e))
  given1 = given_later zeroth first (one_later first.next zeroth.next (begun_next T zeroth first fs 2 (put zero_block 0 bytes) (block, number) done)) (Some e) m.given

  module _ (found : Found) (at : IsDirectory first fs d found) (exact : Ok found.inode ≡ directory_in (latest first.lives) fs d) (after : List ℕ) (whole : length after ≡ 64) (size : ℕ)
      (set : fields_of after ≡ record (fields_of found.inode) { direct = slice_set (fields_of found.inode).direct index block; size = size }) where
    mine : found.inode ≡ inode
    mine = same_ok found.inode inode (exact ∙ sym grow_again)

    there : block ≢ 0
    there = begun_some T zeroth first s.keeps.consistent fs 2 (put zero_block 0 bytes) (block, number) done

    pub grow_short : ShortEdit T first fs found.block (edit_at (64 * found.place) after ((block, 2) ∷ []) [] (Some e))
    grow_short =
        let pairs : Replaces (inode_pairs found.inode 0) (inode_pairs after 0) [] ((block, 2) ∷ []) =
        pairs_set found.inode after (ap (λ (f : Fields). f.indirect) set) index block low (ap (λ (f : Fields). f.direct) set) (ap (λ i. direct_in i index) mine ∙ gap) there in
        attached_short T first (Some e) (can_edit grow_stage given1) fs s.few d found.block found.place at.is.stands after whole block 2 (begun_addable T zeroth first fs 2 block number (put zero_block 0 bytes) (gives_of (init_of T zeroth fs 2 (put zero_block 0 bytes)) zeroth first (block, number) done))
        (subst (λ (i : List ℕ). Replaces (inode_pairs i 0) (inode_pairs after 0) [] ((block, 2) ∷ [])) at.is.bytes pairs)

    pub grow_undone : (new : StoreState) → new ≡ left_by (forget_of T first fs block) first → (fault : FfsFault) → Wants T first fs found.block fault → StopsEntering T fs zeroth new d bytes fault
    grow_undone new left fault wants = record {
      same = undone_same T zeroth first fs 2 (put zero_block 0 bytes) block number done new left;
      told = at_ok (directory_in (latest zeroth.lives) fs d) inode (λ i. StopsAtRoom T fs zeroth new d bytes fault (room_in (latest zeroth.lives) i)) dir (subst (StopsAtRoom T fs zeroth new d bytes fault) empty
          (at_ok (inode_block_in (latest zeroth.lives) fs ((d - 1) / 8)) found.block (λ owner. StopsAttaching T fs zeroth new 2 (put zero_block 0 bytes) owner fault) home_begun
          (attach_undone T fs zeroth first new 2 (put zero_block 0 bytes) block number found.block done left fault wants)));
    }
      where
        home_begun : IsHome (latest zeroth.lives) fs d found.block
        home_begun =
            home_of first fs d found.block found.place at.is.stands
            ∙ block_same T s.library (latest zeroth.lives) (latest first.lives) fs block 6 (begun T zeroth first s.keeps.consistent fs s.few 2 6 (put zero_block 0 bytes) (block, number) done) (λ z. omega (arith, z)) ((d - 1) / 8)

    pub grows : (second : StoreState) (entry : ℕ) → size ≡ 512 * length (inode_blocks after) → propose_of T first fs found.block (edit_at (64 * found.place) after ((block, 2) ∷ []) [] (Some e)) ≡ Ok (entry, second) →
        Stage T fs array second × (Entered (latest zeroth.lives) (latest second.lives) fs d name n × IsTrue (was_given second (Some entry)))
    grows second entry sized put_done =
        let h = s.keeps.consistent in
        let h1 = grow_stage.keeps.consistent in
        let reads = library_reads T s.library in
        let v1 = latest first.lives in
        let edit = edit_at (64 * found.place) after ((block, 2) ∷ []) [] (Some e) in
        let mode : inode_mode after ≡ 2 = ap (λ (f : Fields). f.mode) set ∙ at.directory in
        let links = ap (λ (f : Fields). f.links) set in
        let direct = ap (λ (f : Fields). f.direct) set in
        let own = stands_from v1 fs d found.inode (directory_from v1 fs d found.inode exact).0 in
        let one : OneEntry library_layout (put zero_block 0 bytes) n = subst (OneEntry library_layout (put zero_block 0 bytes)) b.half (one_entry bytes b.whole) in
        let holds = started_holds T library_layout reads fs s.few array zeroth first s.keeps fs 2 (put zero_block 0 bytes) (block, number) done in
        let names = started_names T library_layout reads fs s.few array zeroth first s.keeps fs 2 (put zero_block 0 bytes) (block, number) done n e m.can in
        let k = grown T s.library fs s.few array first second grow_stage.keeps d found.block found.place at.is.stands after whole ((block, 2) ∷ []) [] (Some e) entry put_done block n e (put zero_block 0 bytes)
        (ap inode_mode (sym at.is.bytes) ∙ at.directory) mode (links ∙ ap inode_links at.is.bytes)
        (λ c i. elim (one_more found.inode after index block c direct i) [ inl j ↦ inl (subst (λ (x : List ℕ). Contains (inode_blocks x) c) at.is.bytes j) | inr z ↦ inr z ])
        m.some holds one (Contains-head (block, 2) []) names refl in
        let p = inode_put T s.library first second h1 fs s.few d found.block found.place at.is.stands own.low after whole (λ z. at.is.used (at.directory ∙ (sym mode ∙ z))) ((block, 2) ∷ []) [] (Some e) entry put_done in
        let g : IsGrown v1 (latest second.lives) fs d found.inode index block = record {
          after = after;
          directory = directory_is after mode ∙ in_directory (latest second.lives) fs d (Ok after) (sym p.0);
          links = links;
          direct = direct;
          size = ap (λ (f : Fields). f.size) set ∙ sized;
          bytes = λ c none. proposed_others T first second h1 fs found.block edit entry put_done c (λ z. none (subst (λ x. IsInodes library_layout v1 fs ((d - 1) / 8) x) (sym z) at.is.stands.inodes));
          others = p.1;
        } in
        let more = block_entered T s.library zeroth first second h h1 fs s.few block number bytes done d index n name inode dir empty low gap there found.inode exact g b.spelled b.whole b.named b.half m.some in (
          record { library = s.library; few = s.few; keeps = k },
          (
            record {
              more = λ other is. subst (λ (i : List ℕ). HasMore (latest zeroth.lives) (latest second.lives) fs d i name n) (same_ok inode other (dir ∙ sym is)) more;
              others = λ x ne. same_on (latest zeroth.lives) v1 (latest second.lives) fs x (begins x) (p.1 x ne);
            },
            proposed_given T first second h1 fs found.block edit entry put_done,
          ),
        )

-- A free inode comes into use

-- and may be named, by what comes after its edit
pub record MayBeNamed (T : Types) (fs : ℕ) (array : ℕ → Option ℕ) (old new : StoreState) (n mode entry : ℕ) : Type 0 where
  pub keeps : Stage T fs array new
  pub forgets : Stage T fs (without_edit array ((n - 1) / 8)) new
  pub may : MayName new fs n entry
  pub made : MadeInode (latest old.lives) (latest new.lives) fs mode n
  pub one : made_of T fs (new_edits (latest old.lives) fs mode n (array ((n - 1) / 8))) old ≡ Ok new
  pub last : entry ≡ new.next - 1

pub record Made (T : Types) (fs : ℕ) (array : ℕ → Option ℕ) (old new : StoreState) (n mode entry : ℕ) : Type 0 where
  pub is : IsMade T fs array n entry new
  pub here : inode_in (latest new.lives) fs n ≡ Ok (new_inode mode)
  pub others : (x : ℕ) → x ≢ n → SameInode (latest old.lives) (latest new.lives) fs x
  pub given : IsTrue (was_given new (Some entry))

module _ (T : Types) (fs : ℕ) (array : ℕ → Option ℕ) (old : StoreState) (s : Stage T fs array old) (free : Free) (is : IsFree old fs free) (mode : ℕ) (bytes : List ℕ) (whole : length bytes ≡ 64)
    (set : fields_of bytes ≡ record (fields_of (replicate 64 0)) { mode = mode; links = 1 }) (after : Option ℕ) where
  pub makes_short : IsTrue (was_given old after) → ShortEdit T old fs free.block (edit_at (64 * free.place) bytes [] [] after)
  makes_short given =
      kept_short T old after (can_edit s given) fs s.few free.number free.block free.place is.stands bytes whole
      (pairs_kept (replicate 64 0) bytes (ap (λ (f : Fields). f.indirect) set) (ap (λ (f : Fields). f.direct) set) ∙ ap (λ (i : List ℕ). inode_pairs i 0) (sym is.bare))

  pub makes : (new : StoreState) (entry : ℕ) → mode ≢ 0 → bytes ≡ new_inode mode → after ≡ array (library_layout.home free.number).0 → propose_of T old fs free.block (edit_at (64 * free.place) bytes [] [] after) ≡ Ok (entry, new) →
      Made T fs array old new free.number mode entry
  makes new entry used all comes done =
      let h = s.keeps.consistent in
      let p = inode_put T s.library old new h fs s.few free.number free.block free.place is.stands is.low bytes whole (λ z. used (sym (ap (λ (f : Fields). f.mode) set) ∙ z)) [] [] after entry done in
      record {
        is = made T s.library fs s.few array old new s.keeps free.number free.block free.place is.stands bytes whole [] [] after entry done (free_mode _ is.bare) (λ z. used (sym (ap (λ (f : Fields). f.mode) set) ∙ z))
            (ap (λ (f : Fields). f.links) set) (same_blocks (replicate 64 0) bytes (ap (λ (f : Fields). f.direct) set) ∙ free_blocks) comes;
        here = p.0 ∙ ap (λ (i : List ℕ). Ok i) all;
        others = p.1;
        given = proposed_given T old new h fs free.block (edit_at (64 * free.place) bytes [] [] after) entry done;
      }

  pub named_after : (new : StoreState) (entry : ℕ) → mode ≢ 0 → bytes ≡ new_inode mode → after ≡ array ((free.number - 1) / 8) → propose_of T old fs free.block (edit_at (64 * free.place) bytes [] [] after) ≡ Ok (entry, new) →
      MayBeNamed T fs array old new free.number mode entry
  named_after new entry used all comes done =
      let k = makes new entry used all comes done in
      let edit = edit_at (64 * free.place) bytes [] [] after in
      record {
        keeps = record { library = s.library; few = s.few; keeps = k.is.keeps };
        forgets = record { library = s.library; few = s.few; keeps = k.is.forgets };
        may = record { some = is.stands.some; can = k.is.can; given = k.given };
        made = record { free = free_none old fs free is; made = k.here; others = k.others };
        one = subst (λ (edits : List (ℕ × Edit)). made_of T fs edits old ≡ Ok new)
            (new_is (latest old.lives) fs mode free.number free.block free.place bytes after (array ((free.number - 1) / 8)) (home_of old fs free.number free.block free.place is.stands) is.stands.at all comes)
            (one_order T fs free.block edit old new (Ok entry) done);
        last = last_number T fs free.block edit old new entry done;
      }

-- the directory that is to name it is as before, and is another one
pub named_once : (v w : ℕ → List ℕ) (fs d n : ℕ) (inode : List ℕ) → Ok inode ≡ directory_in v fs d → inode_in v fs n ≡ Err NoEntry → ((x : ℕ) → x ≢ n → SameInode v w fs x) → (Ok inode ≡ directory_in w fs d) × (has_room w inode ≡ has_room v inode)
named_once v w fs d n inode dir free others =
    let own = (directory_from v fs d inode dir).0 in
    let same = others d (λ e. never inode _ (own ∙ (ap (inode_in v fs) e ∙ free))) in
    (dir ∙ sym (directory_same v w fs d same.0), same_room v w fs d inode (same.0, same.1) own)

-- A new block of inodes

pub not_added : (T : Types) (fs : ℕ) (old new : StoreState) → HasFreePointer (latest old.lives) fs → new ≡ old → (fault : FfsFault) → Tells (init_of T old fs 4 zero_block) fault → StopsGrowing T fs old new fault
not_added T fs old new free same fault told = record {
  same = λ x. subst (λ (s : StoreState). SameInode (latest old.lives) (latest s.lives) fs x) (sym same) (refl, λ i e. (refl, λ at low. refl), λ some few. refl);
  told = at_ok (root_in (latest old.lives) fs) free.root (λ root. StopsAttaching T fs old new 4 zero_block root fault) free.is_root (inl (same, told));
}

no_mode : (p : ℕ) → p < 8 → inode_mode (inode_at zero_block p) ≡ 0
no_mode p lt = sym (mode_read zero_block p lt) ∙ zeros_mode p

module _ (T : Types) (fs : ℕ) (array : ℕ → Option ℕ) (zeroth first : StoreState) (s : Stage T fs array zeroth) (free : HasFreePointer (latest zeroth.lives) fs) (block number : ℕ) (done : init_of T zeroth fs 4 zero_block ≡ Ok ((block, number), first)) where
  pub point_stage : Stage T fs array first
  point_stage = record { library = s.library; few = s.few; keeps = started_keeps T library_layout (library_reads T s.library) fs s.few array zeroth first s.keeps fs 4 zero_block (block, number) done }

  touched : Touches T (latest zeroth.lives) (latest first.lives) fs block 6
  touched = begun T zeroth first s.keeps.consistent fs s.few 4 6 zero_block (block, number) done

  pub point_free : HasFreePointer (latest first.lives) fs
  point_free =
      let v = latest zeroth.lives in
      let w = latest first.lives in
      record {
        first = free.first;
        inodes = free.inodes ∙ sym (block_same T s.library v w fs block 6 touched (λ z. omega (arith, z)) 0);
        root = free.root;
        is_root = free.is_root ∙ sym (root_same T s.library v w fs block 6 touched);
        empty = ap (λ (m : List ℕ). list_any (λ index. pointer_word m index == 0) (range_with_len 0 16)) (root_bytes T s.library v w fs block 6 touched (λ z. omega (arith, z)) free.root free.is_root) ∙ free.empty;
      }

  -- the number of its first inode
  pub point_lowest : IsLowest (latest zeroth.lives) fs None → (index : ℕ) → ((root : ℕ) → Ok root ≡ root_in (latest first.lives) fs → Some index ≡ find (λ i. pointer_word (latest first.lives root) i == 0) (range_with_len 0 16)) →
      IsLowestNumber (latest zeroth.lives) fs (8 * index + 1)
  point_lowest full index at = λ root e.
      let v = latest zeroth.lives in
      let w = latest first.lives in
      let same = root_same T s.library v w fs block 6 touched in
      let bytes = root_bytes T s.library v w fs block 6 touched (λ z. omega (arith, z)) root e in
      let none = find_none (λ (i : ℕ). has_free_at v (pointer_word (v root) i)) (range_with_len 0 16) (full root e) in
      ap (option_map (λ i. 8 * i + 1)) (at root (e ∙ sym same) ∙ ap (λ (m : List ℕ). find (λ i. pointer_word m i == 0) (range_with_len 0 16)) bytes) ∙ ap (number_from v root) (sym none)

  module _ (root : ℕ) (is_root : IsRoot (latest first.lives) fs root) (index : ℕ) (e : IsEmptyPointer first fs index) (small : block < 2 ^ 32) where
    pub point_short : ShortEdit T first fs root (edit_at (4 * index) (to_le_bytes w32 block) ((block, 4) ∷ []) [] None)
    point_short = pointer_short T first None (can_edit point_stage refl) fs s.few root index block is_root e small (begun_addable T zeroth first fs 4 block number zero_block (gives_of (init_of T zeroth fs 4 zero_block) zeroth first (block, number) done))

    -- which pointer is missing
    pub point_missing : IsLowest (latest zeroth.lives) fs None → ((r : ℕ) → Ok r ≡ root_in (latest first.lives) fs → Some index ≡ find (λ i. pointer_word (latest first.lives r) i == 0) (range_with_len 0 16)) → missing_block (latest zeroth.lives) fs ≡ Some (root, index)
    point_missing full at =
        let v = latest zeroth.lives in
        let w = latest first.lives in
        let top = root_again w fs root is_root in
        let was = top ∙ root_same T s.library v w fs block 6 touched in
        let bytes = root_bytes T s.library v w fs block 6 touched (λ z. omega (arith, z)) root was in
        missing_is v fs root index was (full root was) (at root top ∙ ap (λ (m : List ℕ). find (λ i. pointer_word m i == 0) (range_with_len 0 16)) bytes)

    pub point_undone : (new : StoreState) → new ≡ left_by (forget_of T first fs block) first → (fault : FfsFault) → Wants T first fs root fault → StopsGrowing T fs zeroth new fault
    point_undone new left fault wants = record {
      same = undone_same T zeroth first fs 4 zero_block block number done new left;
      told = at_ok (root_in (latest zeroth.lives) fs) root (λ r. StopsAttaching T fs zeroth new 4 zero_block r fault)
          (root_again (latest first.lives) fs root is_root ∙ root_same T s.library (latest zeroth.lives) (latest first.lives) fs block 6 touched) (attach_undone T fs zeroth first new 4 zero_block block number root done left fault wants);
    }

    pub points : (second : StoreState) (entry : ℕ) → propose_of T first fs root (edit_at (4 * index) (to_le_bytes w32 block) ((block, 4) ∷ []) [] None) ≡ Ok (entry, second) →
        IsAdded T fs array index block entry second × ((x : ℕ) → SameOrNew (latest zeroth.lives) (latest second.lives) fs (8 * index + 1) x)
    points second entry put_done =
        let h = s.keeps.consistent in
        let h1 = point_stage.keeps.consistent in
        let v = latest zeroth.lives in
        let w = latest first.lives in
        let top = block_from w fs 0 point_free.first (omega arith) point_free.inodes in
        let bare = started_here T zeroth first fs 4 zero_block (block, number) done in
        let there = begun_some T zeroth first h fs 4 zero_block (block, number) done in
        let only = started_holds T library_layout (library_reads T s.library) fs s.few array zeroth first s.keeps fs 4 zero_block (block, number) done in
        let same = same_root w fs e.root root e.is_root is_root in
        let apart : block ≢ root = λ z.
        top.there (sym top.points ∙ (ap (λ r. library_layout.pointer (w r) 0) (same_root w fs top.root root top.is_root is_root) ∙ (ap (λ m. library_layout.pointer m 0) (ap w (sym z) ∙ bare) ∙ zeros_pointer 0))) in (
          attached T s.library fs s.few array first second point_stage.keeps root index block point_free.first entry is_root e small top only bare there put_done,
          λ x.
              let first_same = none_touched T s.library zeroth h fs s.few w block 6 touched (λ z. omega (arith, z)) (λ z. omega (arith, z)) (λ z. omega (arith, z)) (λ z. omega (arith, z)) x in
              let empty = ap (λ r. pointer_word (w r) index) (sym same) ∙ e.empty in
              let long = ap (λ r. length (w r)) (sym same) ∙ e.long in
              let seen = pointer_touched T s.library first second h1 fs s.few root index block entry is_root e.few empty long small there put_done apart x (λ some z. ap (λ m. inode_mode (inode_at m ((x - 1) % 8))) bare ∙ no_mode ((x - 1) % 8) (omega arith)) in
              new_on v w (latest second.lives) fs (8 * index + 1) x (as_same v w fs (8 * index + 1) x first_same) (
                seen.0,
                seen.1,
                λ some few. elim (cases_eq ((x - 1) / 8) index) [
                  | inr ne ↦ inl (place_kept T s.library first second h1 fs s.few root index block entry is_root e.few empty long small there put_done x few ne)
                  | inl z ↦
                      let added = place_added T s.library first second h1 fs s.few root index block entry is_root e.few empty long small there put_done apart x z in
                      inr (record { together = omega (arith, z); absent = added.0; free = added.1 ∙ ap (λ (m : List ℕ). Ok m) (ap (λ m. inode_at m ((x - 1) % 8)) bare ∙ zeros_inode ((x - 1) % 8) (omega arith)) })
                ],
              ),
        )
