-- How a volume is made.
use Rattle.std.proofs.Common.{◌≡◌, ◌≢◌, ℕ, zero, suc, ◌^◌, ◌<◌, Bool, true, false, List, [], ◌∷◌, length, get_or, Option, Some, None, Result, Ok, Err, refl, sym, ◌∙◌, ap, inl, inr, subst, replicate, arith, eq-eqb, Contains, IsErrAnd, MatchResult, OnErr, OnOk, ◌==◌, ◌&&◌, if◌then◌else◌, ne_eqb}
use Rattle.ffs_lib.proofs.Common.{BlockState, FfsFault, Gives, HoldsOnly, IsRoot, Kernel, Life, Lives, Refusal, StoreState, Types, VolumeKeeps, alive_and}
use Rattle.ffs_lib.proofs.Common.{empty_volume, err_from_is_err_and, files_of, init_of, is_for, is_fresh, is_short, is_shortage, latest, library_layout, life_at}
use Rattle.ffs_lib.proofs.Common.{make_in, make_root_of, may_add, new_life, no_edits, none-some, pointer_word, propose_of, result_and_then, root, root_state}
use Rattle.ffs_lib.proofs.Common.{slot_now, states, zero_block}
use Rattle.xn_model.proofs.ForCallers.{accept, accepted, accepted_other, each_forth, set_other}
use Rattle.ffs_model.proofs.ForCallers.{inodes_begun, library_reads, pointer_set, pointer_written, root_begun, root_made, root_set_short, root_short, rooted, rooted_here, rooted_others, started, started_here, started_holds, started_keeps, started_others, zeros_pointer}
use Rattle.ffs_lookup.proofs.ForCallers.{gives_err, gives_ok, pointer_is, root_again}
use Rattle.ffs_lib.specs.Making.{IsBegun, Rooted, StopsFirst, StopsPointing, StopsRooting, StopsTop, first_pointer, rooted_of, top_inodes, with_root, without_block}
use Rattle.ffs_lib.specs.Volumes.{edits_of}
use Rattle.ffs_lib.specs.Steps.{Ends, Follows, Proposed, Stage, Tells, left_by}
use Rattle.ffs_lib.proofs.Kept.{begun_there}
use Rattle.ffs_lib.proofs.Laws.{fails, finishes, follows_err, forgot_stage, match_then, short_told, told_by}
use Rattle.ffs_lib.proofs.Tops.{BareRoot, bare_from, bare_to, found_still, makes_top, new_addable, new_alive, new_own, none_named, none_set, rootless_slot, still_addable, top_bare, top_direct}
use Rattle.ffs_lib.proofs.Undoing.{at_ok}
use Rattle.ffs_lib.proofs.ValueVolume.{empty_there}

-- a volume that was opened keeps no number
none_at : (n j : ℕ) → get_or {A = Option ℕ} (replicate n None) j None ≡ None
none_at zero j = refl
none_at (suc n) zero = refl
none_at (suc n) (suc j) = none_at n j

pub no_numbers : no_edits ≡ edits_of (replicate 16 None)
no_numbers = λ i j. sym (none_at 16 j) i

-- what holds only some bytes
holds_accepted : (lives : Lives) (s : BlockState) (c : ℕ) (bytes : List ℕ) → c ≢ 0 → HoldsOnly lives c bytes → HoldsOnly (accept 0 s lives) c bytes
holds_accepted lives s c bytes ne h =
    let x = accepted_other 0 s c h.life ne in
    record {
      life = accepted 0 s c h.life;
      alive = each_forth (accepted 0 s) lives c h.life h.alive;
      all = λ t i. h.all t (subst (λ (l : Life). Contains (states l) t) x i);
      counts = λ t i. h.counts t (subst (λ (l : Life). Contains l.pending t) x i) ∙ sym (ap (λ (l : Life). l.fs) x);
    }

holds_started : (T : Types) (old new : StoreState) (fs ty : ℕ) (begun : List ℕ) (made : ℕ × ℕ) → init_of T old fs ty begun ≡ Ok (made, new) → (c : ℕ) (bytes : List ℕ) → HoldsOnly old.lives c bytes → HoldsOnly new.lives c bytes
holds_started T old new fs ty begun made done c bytes h =
    let r = started T old new fs ty begun made done in
    let ne : c ≢ made.0 = λ e. none-some h.life (sym r.free ∙ (ap (life_at old.lives) (sym e) ∙ h.alive)) in
    record {
      life = h.life;
      alive = ap (λ xs. life_at xs c) r.lives ∙ (set_other old.lives made.0 c (Some (new_life old.next (Some fs) ty begun)) ne ∙ h.alive);
      all = h.all;
      counts = h.counts;
    }

may_begun : (T : Types) (old new : StoreState) (fs ty : ℕ) (bytes : List ℕ) (made : ℕ × ℕ) → init_of T old fs ty bytes ≡ Ok (made, new) → (p : ℕ × ℕ) → p.0 ≢ made.0 → may_add new fs p ≡ may_add old fs p
may_begun T old new fs ty bytes made done p ne =
    ap (alive_and (λ l. is_fresh l.status && ((l.ty == p.1) && is_for fs l.fs)))
    (ap (λ xs. life_at xs p.0) (started T old new fs ty bytes made done).lives ∙ set_other old.lives made.0 p.0 (Some (new_life old.next (Some fs) ty bytes)) ne)

-- A root block

pub root_refused : (made T : Types) (fs : ℕ) (old new : StoreState) (refusal : Refusal) (result : Result ℕ FfsFault) → made ≡ T → Gives (init_of made old fs 3 zero_block) old new (Err refusal) → IsErrAnd result (λ fault. fault ≡ Kernel refusal) → Rooted T fs old new result
root_refused made T fs old new refusal result e given from =
    let p = err_from_is_err_and result from in
    let is = subst (λ (t : Types). Gives (init_of t old fs 3 zero_block) old new (Err refusal)) e given in
    subst (Rooted T fs old new) (sym p.1) (inl (gives_err (init_of T old fs 3 zero_block) old new refusal is, subst (Tells (init_of T old fs 3 zero_block)) (sym p.2) (told_by (init_of T old fs 3 zero_block) old new refusal is)))

-- the store's refusal is told as a fault
pub root_set : (called : Result (ℕ × StoreState) Refusal) (old new : StoreState) (given : Result ℕ Refusal) (told : Result ℕ FfsFault) → Gives called old new given → MatchResult given (λ entry. told ≡ Ok entry) (λ refusal. IsErrAnd told (λ fault. fault ≡ Kernel refusal)) → Follows called old new told
root_set called old new (Ok entry) told h same = subst (Follows called old new) (sym same) (gives_ok called old new entry h)
root_set called old new (Err refusal) told h from = follows_err called old new refusal told h from

pub root_follows : (T : Types) (fs : ℕ) (old first second third : StoreState) (block number : ℕ) → init_of T old fs 3 zero_block ≡ Ok ((block, number), first) → (made result : Result ℕ FfsFault) → Follows (make_root_of first fs block) first second made → result ≡ made → OnOk result (third ≡ second) →
    OnErr result (third ≡ without_block T fs block second) → Rooted T fs old third result
root_follows T fs old first second third block number done (Ok x) (Ok entry) set is ok err =
    let same : x ≡ entry = cc is in
    ap (result_and_then (λ begun. make_root_of begun.1 fs begun.0.0)) done ∙ (set ∙ λ i. Ok (same i, sym ok i))
root_follows T fs old first second third block number done (Ok x) (Err fault) set is ok err = absurd (cc is)
root_follows T fs old first second third block number done (Err fault) (Ok entry) set is ok err = absurd (cc is)
root_follows T fs old first second third block number done (Err fault) (Err other) set is ok err =
    let same : fault ≡ other = cc is in
    inr (at_ok (init_of T old fs 3 zero_block) ((block, number), first) (λ x. (third ≡ without_block T fs x.0.0 x.1) × Tells (make_root_of x.1 fs x.0.0) other) (sym done)
    (err ∙ ap (without_block T fs block) set.0, subst (Tells (make_root_of first fs block)) same set.1))

module _ (T : Types) (fs : ℕ) (old : StoreState) (s : Stage T fs no_edits old) where
  abbrev h : VolumeKeeps T library_layout fs no_edits old
  h = s.keeps

  module _ (r number : ℕ) (middle : StoreState) (done : init_of T old fs 3 zero_block ≡ Ok ((r, number), middle)) where
    there : r ≢ 0
    there = begun_there T fs no_edits old middle h fs 3 zero_block r number done

    begun_stage : Stage T fs no_edits middle
    begun_stage = record {
      library = s.library;
      few = s.few;
      keeps = started_keeps T library_layout (library_reads T s.library) fs s.few no_edits old middle h fs 3 zero_block (r, number) done;
    }

    set_short : Ok false ≡ make_in (latest old.lives) fs → (refusal : Refusal) → make_root_of middle fs r ≡ Err refusal → is_shortage refusal ≡ true
    set_short none =
        root_short T middle fs r (new_life old.next (Some fs) 3 zero_block) (new_own T fs old middle h.consistent s.few 3 r number zero_block done) refl
        (none_named T fs old middle h.consistent s.few 3 r number zero_block done none)

    module _ (entry : ℕ) (new : StoreState) (set : make_root_of middle fs r ≡ Ok (entry, new)) where
      rooted_stage : Stage T fs no_edits new
      rooted_stage = record {
        library = s.library;
        few = s.few;
        keeps = root_made T library_layout (library_reads T s.library) fs s.few no_edits middle new begun_stage.keeps r entry zero_block set
            (started_holds T library_layout (library_reads T s.library) fs s.few no_edits old middle h fs 3 zero_block (r, number) done) zeros_pointer;
      }

      is_root : IsRoot (latest new.lives) fs r
      is_root = record {
        at = rooted_here T middle new begun_stage.keeps.consistent fs s.few r entry set (new_life old.next (Some fs) 3 zero_block) (new_alive T fs old middle h.consistent s.few 3 r number zero_block done);
        there = there;
      }

      no_pointer : (j : ℕ) → j < 16 → pointer_word (latest new.lives r) j ≡ 0
      no_pointer j low =
          ap (λ m. pointer_word m j) (rooted_others T middle new begun_stage.keeps.consistent fs s.few r entry set r there ∙ started_here T old middle fs 3 zero_block (r, number) done)
          ∙ (sym (pointer_is zero_block j low) ∙ zeros_pointer j)

      ready : Ok true ≡ make_in (latest new.lives) fs
      ready = bare_to (latest new.lives) fs r is_root (no_pointer 0 (omega arith)) (none_set (latest new.lives r) no_pointer)

      kept : (block : ℕ) → IsBegun old fs block → IsBegun new fs block
      kept block b = record {
        there = b.there;
        holds = subst (λ (xs : Lives). HoldsOnly xs block top_inodes) (sym (rooted middle new fs r entry set).lives) (holds_accepted middle.lives set_state block top_inodes b.there (holds_started T old middle fs 3 zero_block (r, number) done block top_inodes b.holds));
        bytes = rooted_others T middle new begun_stage.keeps.consistent fs s.few r entry set block b.there ∙ (started_others T old middle fs 3 zero_block (r, number) done block apart ∙ b.bytes);
        addable = still_addable middle new fs r entry set (block, 4) apart ∙ (may_still (block, 4) apart ∙ b.addable);
      }
        where
          set_state : BlockState
          set_state = let x = rooted middle new fs r entry set in root_state middle fs (r, x.life.ty) ((r, x.life.ty) ∷ []) []

          apart : block ≢ r
          apart z = none-some b.holds.life (sym (started T old middle fs 3 zero_block (r, number) done).free ∙ (ap (life_at old.lives) (sym z) ∙ b.holds.alive))

          may_still : (p : ℕ × ℕ) → p.0 ≢ r → may_add middle fs p ≡ may_add old fs p
          may_still p ne = may_begun T old middle fs 3 zero_block (r, number) done p ne

  -- it is made where there is none
  pub prepared : Ok false ≡ make_in (latest old.lives) fs → (block : ℕ) → IsBegun old fs block → (new : StoreState) (result : Result ℕ FfsFault) → Rooted T fs old new result →
      Ends T fs no_edits new result (λ x. (Ok true ≡ make_in (latest new.lives) fs) × IsBegun new fs block × (new ≡ with_root T fs old)) (λ fault. ((slot_now old fs).0 ≡ 0) × StopsRooting T fs (λ s. s) old new fault)
  prepared none block b new (Ok entry) e = go (init_of T old fs 3 zero_block) refl e
    where
      empty : (slot_now old fs).0 ≡ 0
      empty = rootless_slot (latest old.lives) fs none

      is : new ≡ with_root T fs old
      is = sym (ap (λ (t : Bool). if t then left_by (rooted_of T fs old) old else old) (eq-eqb (slot_now old fs).0 0 empty) ∙ ap (λ (x : Result (ℕ × StoreState) Refusal). left_by x old) e)

      go : (x : Result ((ℕ × ℕ) × StoreState) Refusal) → init_of T old fs 3 zero_block ≡ x → result_and_then (λ begun. make_root_of begun.1 fs begun.0.0) x ≡ Ok (entry, new) →
          Ends T fs no_edits new (Ok entry) (λ x. (Ok true ≡ make_in (latest new.lives) fs) × IsBegun new fs block × (new ≡ with_root T fs old)) (λ fault. ((slot_now old fs).0 ≡ 0) × StopsRooting T fs (λ s. s) old new fault)
      go (Ok ((r, number), middle)) done set = (rooted_stage r number middle done entry new set, (ready r number middle done entry new set, kept r number middle done entry new set block b, is))
      go (Err refusal) done set = absurd (cc set)
  prepared none block b new (Err fault) stop = elim stop [
    | inl x ↦ (subst (Stage T fs no_edits) (sym x.0) s, (short_told (init_of T old fs 3 zero_block) (root_begun T s.library old fs) fault x.1, (empty, inl x)))
    | inr x ↦ let y = go (init_of T old fs 3 zero_block) refl x in (y.0, (y.1, (empty, inr x)))
  ]
    where
      empty : (slot_now old fs).0 ≡ 0
      empty = rootless_slot (latest old.lives) fs none

      go : (x : Result ((ℕ × ℕ) × StoreState) Refusal) → init_of T old fs 3 zero_block ≡ x → MatchResult x (λ y. (new ≡ without_block T fs y.0.0 y.1) × Tells (make_root_of y.1 fs y.0.0) fault) (λ refusal. ⊥) →
          Stage T fs no_edits new × (is_short fault ≡ true)
      go (Ok ((r, number), middle)) done y = (
        forgot_stage T fs r no_edits middle new (begun_stage r number middle done) y.0,
        short_told (make_root_of middle fs r) (set_short r number middle done none) fault y.1,
      )
      go (Err refusal) done y = absurd y

-- it is there
pub prepared_by : (T : Types) (fs : ℕ) (old : StoreState) (s : Stage T fs no_edits old) → Ok true ≡ make_in (latest old.lives) fs → old ≡ with_root T fs old
prepared_by T fs old s found =
    let bare = bare_from (latest old.lives) fs found in
    sym (ap (λ (t : Bool). if t then left_by (rooted_of T fs old) old else old) (ne_eqb (slot_now old fs).0 0 (λ z. bare.is_root.there (sym (ap (λ (p : ℕ × ℕ). p.0) bare.is_root.at) ∙ z))))

-- The first block of inodes is attached

module _ (T : Types) (fs : ℕ) (old new : StoreState) (s : Stage T fs no_edits old) (found : Ok true ≡ make_in (latest old.lives) fs) (block : ℕ) (b : IsBegun old fs block) (small : block < 2 ^ 32) where
  abbrev bare : BareRoot (latest old.lives) fs
  bare = bare_from (latest old.lives) fs found

  pointed_stage : length (latest old.lives bare.block) ≡ 512 → (entry : ℕ) → propose_of T old fs bare.block (first_pointer block) ≡ Ok (entry, new) → Stage T fs no_edits new
  pointed_stage long entry done =
      let set = pointer_written (latest old.lives bare.block) long 0 (omega arith) block small (pointer_is (latest old.lives bare.block) 0 (omega arith) ∙ bare.empty) in
      record {
        library = s.library;
        few = s.few;
        keeps = pointer_set T library_layout (library_reads T s.library) fs s.few no_edits old new s.keeps bare.block (first_pointer block) entry done 0 block top_inodes bare.is_root set b.there b.holds
            top_direct no_edits (λ i ne. refl) (inl (refl, refl));
      }

  pointed : (result : Result ℕ FfsFault) → ((root : ℕ) → IsRoot (latest old.lives) fs root → (length (latest old.lives root) ≡ 512) × Proposed T fs root (first_pointer block) old new result) →
      Ends T fs no_edits new result (λ x. (n : ℕ) → files_of (latest new.lives) fs n ≡ empty_volume n) (StopsPointing T fs (λ s. s) block old new)
  pointed result puts =
      let p = puts bare.block bare.is_root in
      finishes T fs bare.block (first_pointer block) no_edits old new (λ x. (n : ℕ) → files_of (latest new.lives) fs n ≡ empty_volume n) (StopsPointing T fs (λ s. s) block old new) s result p.1
      (root_set_short T s.library old s.keeps.consistent fs s.few bare.block p.0 None refl (root bare.is_root.at bare.is_root.there) 0 block (omega arith) small bare.empty b.addable)
      (λ entry done. (
        pointed_stage p.0 entry done,
        empty_there (latest old.lives) (latest new.lives) fs found (makes_top T s.library old new s.keeps.consistent fs s.few bare.block block entry bare.is_root bare.empty p.0 small b.there b.bytes done),
      ))
      (λ fault same told. (same, subst (λ (x : Result ℕ FfsFault). MatchResult x (λ root. Tells (propose_of T old fs root (first_pointer block)) fault) (λ other. ⊥)) (root_again (latest old.lives) fs bare.block bare.is_root) told))

pub attached : (T : Types) (fs : ℕ) (old second new : StoreState) (block : ℕ) → block < 2 ^ 32 → Stage T fs no_edits second → Ok true ≡ make_in (latest second.lives) fs → IsBegun second fs block → second ≡ with_root T fs old → (result : Result ℕ FfsFault) →
    ((root : ℕ) → IsRoot (latest second.lives) fs root → (length (latest second.lives root) ≡ 512) × Proposed T fs root (first_pointer block) second new result) →
    Ends T fs no_edits new result (λ x. (n : ℕ) → files_of (latest new.lives) fs n ≡ empty_volume n) (StopsFirst T fs (λ s. s) block old new)
attached T fs old second new block small s found b is result puts =
    let h = pointed T fs second new s found block b small result puts in (
      h.0,
      match_then (λ x. (n : ℕ) → files_of (latest new.lives) fs n ≡ empty_volume n) (λ x. (n : ℕ) → files_of (latest new.lives) fs n ≡ empty_volume n) (StopsPointing T fs (λ s. s) block second new)
          (StopsFirst T fs (λ s. s) block old new) result (λ x p. p) (λ fault stop. inr (subst (λ (t : StoreState). StopsPointing T fs (λ s. s) block t new fault) is stop)) h.1,
    )

-- Both

-- what is left before something more is done
rooting_then : (T : Types) (fs : ℕ) (end : StoreState → StoreState) (old left : StoreState) (fault : FfsFault) → StopsRooting T fs (λ s. s) old left fault → StopsRooting T fs end old (end left) fault
rooting_then T fs end old left fault stop = elim stop [ inl x ↦ inl (ap end x.0, x.1) | inr x ↦ inr (go (init_of T old fs 3 zero_block) x) ]
  where
    go : (r : Result ((ℕ × ℕ) × StoreState) Refusal) → MatchResult r (λ y. (left ≡ without_block T fs y.0.0 y.1) × Tells (make_root_of y.1 fs y.0.0) fault) (λ refusal. ⊥) →
        MatchResult r (λ y. (end left ≡ end (without_block T fs y.0.0 y.1)) × Tells (make_root_of y.1 fs y.0.0) fault) (λ refusal. ⊥)
    go (Ok y) x = (ap end x.0, x.1)
    go (Err refusal) x = x

first_then : (T : Types) (fs : ℕ) (end : StoreState → StoreState) (block : ℕ) (old left : StoreState) (fault : FfsFault) → StopsFirst T fs (λ s. s) block old left fault → StopsFirst T fs end block old (end left) fault
first_then T fs end block old left fault stop = elim stop [ inl x ↦ inl (x.0, rooting_then T fs end old left fault x.1) | inr x ↦ inr (ap end x.0, x.1) ]

abbrev Tops : Types → ℕ → StoreState → StoreState → Result ℕ FfsFault → Type 0
Tops T fs old new result = Ends T fs no_edits new result (λ x. (n : ℕ) → files_of (latest new.lives) fs n ≡ empty_volume n) (StopsTop T fs old new)

module _ (T : Types) (fs : ℕ) (zeroth : StoreState) (s : Stage T fs no_edits zeroth) where
  -- the block could not be begun
  pub not_begun : (new : StoreState) → new ≡ zeroth → (fault : FfsFault) → Tells (init_of T zeroth fs 4 top_inodes) fault → (result : Result ℕ FfsFault) → IsErrAnd result (λ other. other ≡ fault) → Tops T fs zeroth new result
  not_begun new same fault told result from =
      fails (λ x. (n : ℕ) → files_of (latest new.lives) fs n ≡ empty_volume n) (StopsTop T fs zeroth new) (subst (Stage T fs no_edits) (sym same) s) result fault from
      (short_told (init_of T zeroth fs 4 top_inodes) (inodes_begun T s.library zeroth fs top_inodes refl (top_bare top_inodes refl)) fault told, inl (same, told))

  module _ (block number : ℕ) (first : StoreState) (done : init_of T zeroth fs 4 top_inodes ≡ Ok ((block, number), first)) where
    pub first_stage : Stage T fs no_edits first
    first_stage = record {
      library = s.library;
      few = s.few;
      keeps = started_keeps T library_layout (library_reads T s.library) fs s.few no_edits zeroth first s.keeps fs 4 top_inodes (block, number) done;
    }

    pub first_begun : IsBegun first fs block
    first_begun = record {
      there = begun_there T fs no_edits zeroth first s.keeps fs 4 top_inodes block number done;
      holds = started_holds T library_layout (library_reads T s.library) fs s.few no_edits zeroth first s.keeps fs 4 top_inodes (block, number) done;
      bytes = started_here T zeroth first fs 4 top_inodes (block, number) done;
      addable = new_addable T fs zeroth first s.keeps.consistent s.few 4 block number top_inodes done;
    }

    pub still_found : (begun : Bool) → Ok begun ≡ make_in (latest zeroth.lives) fs → Ok begun ≡ make_in (latest first.lives) fs
    still_found begun found = found ∙ sym (found_still T fs s.few block number 4 zeroth first s.keeps.consistent top_inodes done)

    -- it is attached, or forgotten
    pub first_made : (second new : StoreState) (attached result : Result ℕ FfsFault) → Ends T fs no_edits second attached (λ x. (n : ℕ) → files_of (latest second.lives) fs n ≡ empty_volume n) (StopsFirst T fs (λ s. s) block first second) →
        result ≡ attached → OnOk result (new ≡ second) → OnErr result (new ≡ without_block T fs block second) → Tops T fs zeroth new result
    first_made second new (Ok x) (Ok y) ends is ok err = subst (λ (t : StoreState). Tops T fs zeroth t (Ok y)) (sym ok) (ends.0, ends.1)
    first_made second new (Ok x) (Err fault) ends is ok err = absurd (cc is)
    first_made second new (Err fault) (Ok y) ends is ok err = absurd (cc is)
    first_made second new (Err fault) (Err other) ends is ok err =
        let same : fault ≡ other = cc is in
        subst (λ (f : FfsFault). Tops T fs zeroth new (Err f)) same
        (forgot_stage T fs block no_edits second new ends.0 err, (ends.1.0, stops err ends.1.1))
      where
        stops : new ≡ without_block T fs block second → StopsFirst T fs (λ s. s) block first second fault → StopsTop T fs zeroth new fault
        stops left stop =
            inr (at_ok (init_of T zeroth fs 4 top_inodes) ((block, number), first) (λ x. StopsFirst T fs (without_block T fs x.0.0) x.0.0 x.1 new fault) (sym done)
            (subst (λ (t : StoreState). StopsFirst T fs (without_block T fs block) block first t fault) (sym left) (first_then T fs (without_block T fs block) block first second fault stop)))
