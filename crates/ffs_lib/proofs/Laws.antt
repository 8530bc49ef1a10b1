-- What each edit of a call leaves: one law for each kind, of all that a call says of it.
use Rattle.std.proofs.Common.{◌≡◌, ◌≢◌, ℕ, ◌+◌, ◌-◌, ◌*◌, ◌/◌, ◌<◌, ◌≤◌, ◌⊎◌, List, [], length, replicate, Option, None, Some, Result, Ok, Err, refl, sym, ◌∙◌, ap, arith, subst, Bool, true, false, suc, inl, inr, eq-eqb, Contains, IsErrAnd, IsOk, IsTrue, MatchResult, OnErr, OnOk, ◌==◌}
use Rattle.ffs_lib.proofs.Common.{CanUnlink, Edit, FfsFault, Fields, Found, Gives, GivesExactly, IsFound, IsPlace, IsSlot, Kernel, NoMemory, Refusal, Slot}
use Rattle.ffs_lib.proofs.Common.{StoreState, Types, Under, cases_eq, err_from_is_err_and, fields_of, forget_of, init_of, inode_block_in, inode_in, is_short}
use Rattle.ffs_lib.proofs.Common.{is_shortage, latest, place_in, propose_of, was_given, word_at}
use Rattle.ffs_model.specs.Library.{inode_blocks, inode_links, inode_mode, inode_pairs, library_layout, pointed, pointer_word, zero_block}
use Rattle.ffs_model.proofs.ForCallers.{pointers_cleared_short, proposed_given, proposed_here, proposed_others}
use Rattle.ffs_lookup.proofs.ForCallers.{block_again, gives_err, gives_ok, same_ok}
use Rattle.ffs_lib.specs.Edits.{data_of_inode, data_of_pointers, edit_at}
use Rattle.ffs_lib.specs.Outcomes.{CanEdit, HasNoData}
use Rattle.ffs_lib.specs.Results.{AsBefore, IsAs, SameInode, TookLink}
use Rattle.ffs_lib.specs.Steps.{AddsLink, Answers, Attached, ClearedPointers, Clearing, Dropped, Ends, Follows, IsHome, MayLose, MayName, Proposed, Removable, Removed, ShortEdit, Stage, Stops, StopsAtHome, StopsTaking, TakesLink, Tells, Unlisted, Wants, WantsHome, WantsPointers, clearing, left_by}
use Rattle.ffs_lib.specs.Volumes.{IsVolume, edits_of}
use Rattle.ffs_lib.specs.declared.volume.Volume.{Volume}
use Rattle.ffs_lib.proofs.Tests.{true_false}
use Rattle.ffs_lib.proofs.Dropping.{cleared_owns, no_pairs, put_whole}
use Rattle.ffs_lib.proofs.Edited.{cleared, dropped, freed, less, more, pointers_reached}
use Rattle.ffs_lib.proofs.Entering.{directory_from, directory_same, inode_put, others_put, place_put}
use Rattle.ffs_lib.proofs.Fields.{free_blocks, free_mode, same_blocks}
use Rattle.ffs_lib.proofs.Kept.{forgets}
use Rattle.ffs_lib.proofs.Linked.{linked_inode}
use Rattle.ffs_lib.proofs.Moving.{name_lost, relinked, same_as, was_and_is}
use Rattle.ffs_lib.proofs.Owners.{stands_from}
use Rattle.ffs_lib.proofs.Same.{edited, inodes_same, pointers_touched, same_on}
use Rattle.ffs_lib.proofs.Rooms.{room_by}
use Rattle.ffs_lib.proofs.Short.{free_pairs, freed_short, kept_short, pairs_kept, slot_short}
use Rattle.ffs_lib.proofs.Undoing.{at_ok}

-- Results

pub no_memory : {A : Type 0} (r : Result A Refusal) → Tells r (Kernel NoMemory)
no_memory (Ok x) = refl
no_memory (Err refusal) = inr refl

pub told_by : {A : Type 0} (r : Result (A × StoreState) Refusal) (old new : StoreState) (refusal : Refusal) → Gives r old new (Err refusal) → Tells r (Kernel refusal)
told_by (Ok (x, after)) old new refusal h = elim h [ inl p ↦ cc | inr p ↦ cc ]
told_by (Err first) old new refusal h = let same : refusal ≡ first = cc in inl (ap (λ (x : Refusal). Kernel x) same)

pub short_told : {A : Type 0} (r : Result A Refusal) → ((refusal : Refusal) → r ≡ Err refusal → is_shortage refusal ≡ true) → (fault : FfsFault) → Tells r fault → is_short fault ≡ true
short_told (Ok x) short fault e = ap is_short e
short_told (Err refusal) short fault t = elim t [ inl e ↦ ap is_short e ∙ short refusal refl | inr e ↦ ap is_short e ]

pub follows_err : (called : Result (ℕ × StoreState) Refusal) (old new : StoreState) (refusal : Refusal) (result : Result ℕ FfsFault) → Gives called old new (Err refusal) → IsErrAnd result (λ fault. fault ≡ Kernel refusal) → Follows called old new result
follows_err called old new refusal result given from =
    let p = err_from_is_err_and result from in
    subst (Follows called old new) (sym p.1) (gives_err called old new refusal given, subst (Tells called) (sym p.2) (told_by called old new refusal given))

pub refused_put : (T : Types) (fs block : ℕ) (made edit : Edit) → made ≡ edit → (old new : StoreState) (refusal : Refusal) (result : Result ℕ FfsFault) → Gives (propose_of T old fs block made) old new (Err refusal) → IsErrAnd result (λ fault. fault ≡ Kernel refusal) →
    Proposed T fs block edit old new result
refused_put T fs block made edit same old new refusal result gives from =
    follows_err (propose_of T old fs block edit) old new refusal result (subst (λ e. Gives (propose_of T old fs block e) old new (Err refusal)) same gives) from

-- a part of a call that was refused, and one that ends with a proposal
pub stops_err : {A : Type 0} (P : A → Type 0) (R : FfsFault → Type 0) (result : Result A FfsFault) (fault : FfsFault) → IsErrAnd result (λ other. other ≡ fault) → Stops R fault → MatchResult result P (Stops R)
stops_err P R result fault from stop = let p = err_from_is_err_and result from in subst (λ r. MatchResult r P (Stops R)) (sym p.1) (subst (Stops R) (sym p.2) stop)

pub fails : {A : Type 0} {T : Types} {fs : ℕ} {array : ℕ → Option ℕ} {new : StoreState} (P : A → Type 0) (R : FfsFault → Type 0) → Stage T fs array new → (result : Result A FfsFault) (fault : FfsFault) → IsErrAnd result (λ other. other ≡ fault) → Stops R fault → Ends T fs array new result P R
fails P R s result fault from stop = (s, stops_err P R result fault from stop)

-- a new block
pub begins_by : (made T : Types) (fs ty : ℕ) (given bytes : List ℕ) (old new : StoreState) (x : ℕ × ℕ) → made ≡ T → given ≡ bytes → Gives (init_of made old fs ty given) old new (Ok x) → init_of T old fs ty bytes ≡ Ok (x, new)
begins_by made T fs ty given bytes old new x e f h = subst (λ (t : Types). init_of t old fs ty bytes ≡ Ok (x, new)) e (subst (λ (m : List ℕ). init_of made old fs ty m ≡ Ok (x, new)) f (gives_ok (init_of made old fs ty given) old new x h))

pub begins_err : (made T : Types) (fs ty : ℕ) (given bytes : List ℕ) (old new : StoreState) (refusal : Refusal) → made ≡ T → given ≡ bytes → Gives (init_of made old fs ty given) old new (Err refusal) → Gives (init_of T old fs ty bytes) old new (Err refusal)
begins_err made T fs ty given bytes old new refusal e f h = subst (λ (t : Types). Gives (init_of t old fs ty bytes) old new (Err refusal)) e (subst (λ (m : List ℕ). Gives (init_of made old fs ty m) old new (Err refusal)) f h)

pub gives_of : {A : Type 0} (r : Result (A × StoreState) Refusal) (old new : StoreState) (x : A) → r ≡ Ok (x, new) → Gives r old new (Ok x)
gives_of r old new x e = subst (λ q. Gives q old new (Ok x)) (sym e) (inl (refl, refl))

pub staged : {T : Types} {state : StoreState} {volume : Volume} → IsVolume T state volume → volume.fs.number < 32 → Stage T volume.fs.number (edits_of volume.added) state
staged v few = record { library = v.library; few = few; keeps = v.keeps }

pub same_stage : {T : Types} {fs : ℕ} {array : ℕ → Option ℕ} {old new : StoreState} → Stage T fs array old → new ≡ old → Stage T fs array new
same_stage {T} {fs} {array} s e = subst (Stage T fs array) (sym e) s

pub finishes : (T : Types) (fs block : ℕ) (edit : Edit) (array : ℕ → Option ℕ) (old new : StoreState) (P : ℕ → Type 0) (R : FfsFault → Type 0) → Stage T fs array old → (result : Result ℕ FfsFault) → Proposed T fs block edit old new result → ShortEdit T old fs block edit →
    ((entry : ℕ) → propose_of T old fs block edit ≡ Ok (entry, new) → Stage T fs array new × P entry) → ((fault : FfsFault) → new ≡ old → Tells (propose_of T old fs block edit) fault → R fault) → Ends T fs array new result P R
finishes T fs block edit array old new P R s (Ok entry) p short then refused = then entry p
finishes T fs block edit array old new P R s (Err fault) p short then refused = (same_stage s p.0, (short_told (propose_of T old fs block edit) short fault p.1, refused fault p.0 p.1))

pub match_then : {A : Type 0} (P Q : A → Type 0) (R S : FfsFault → Type 0) (result : Result A FfsFault) → ((x : A) → P x → Q x) → ((fault : FfsFault) → R fault → S fault) → MatchResult result P (Stops R) → MatchResult result Q (Stops S)
match_then P Q R S (Ok x) f h m = f x m
match_then P Q R S (Err fault) f h m = (m.0, h fault m.1)

pub is_ok_one : {A : Type 0} (r : Result A FfsFault) → IsOk r → (x : A) × (Ok x ≡ r)
is_ok_one (Ok x) ok = (x, refl)
is_ok_one (Err fault) ok = absurd (true_false false ok refl)

pub answers_ok : {A B : Type 0} (looked : Result A FfsFault) (Q : A → B → Type 0) (R : A → FfsFault → Type 0) (result : Result B FfsFault) (x : A) (old new : StoreState) → Ok x ≡ looked → MatchResult result (Q x) (Stops (R x)) → Answers looked Q R old new result
answers_ok {A} {B} looked Q R result x old new e m = subst (λ (r : Result A FfsFault). Answers r Q R old new result) e m

-- a new block that is attached, or forgotten
pub exactly_left : (r : Result (Unit {0} × StoreState) Refusal) (old new : StoreState) (result : Result (Unit {0}) Refusal) → GivesExactly r old new result → new ≡ left_by r old
exactly_left (Ok (x, after)) old new result h = h.1
exactly_left (Err refusal) old new result h = h.1

left_exactly : (r : Result (Unit {0} × StoreState) Refusal) (old new : StoreState) → new ≡ left_by r old → (result : Result (Unit {0}) Refusal) × GivesExactly r old new result
left_exactly (Ok (x, after)) old new e = (Ok x, (refl, e))
left_exactly (Err refusal) old new e = (Err refusal, (refl, e))

pub forgot_stage : (T : Types) (fs added : ℕ) (array : ℕ → Option ℕ) (old new : StoreState) → Stage T fs array old → new ≡ left_by (forget_of T old fs added) old → Stage T fs array new
forgot_stage T fs added array old new s e =
    let x = left_exactly (forget_of T old fs added) old new e in
    record { library = s.library; few = s.few; keeps = forgets T fs s.few fs added old new x.0 x.1 s.library array s.keeps }

pub attaches : (T : Types) (fs added block : ℕ) (edit : Edit) (array : ℕ → Option ℕ) (old new : StoreState) (P : ℕ → Type 0) (R : FfsFault → Type 0) → Stage T fs array old → (result : Result ℕ FfsFault) → Attached T fs added block edit old new result → ShortEdit T old fs block edit →
    ((entry : ℕ) → propose_of T old fs block edit ≡ Ok (entry, new) → Stage T fs array new × P entry) → ((fault : FfsFault) → new ≡ left_by (forget_of T old fs added) old → Tells (propose_of T old fs block edit) fault → R fault) → Ends T fs array new result P R
attaches T fs added block edit array old new P R s (Ok entry) p short then refused = then entry p
attaches T fs added block edit array old new P R s (Err fault) p short then refused = (forgot_stage T fs added array old new s p.0, (short_told (propose_of T old fs block edit) short fault p.1, refused fault p.0 p.1))

-- put, and forgotten where that was refused
pub attached_put : (T : Types) (fs added block : ℕ) (edit : Edit) (old middle new : StoreState) (put result : Result ℕ FfsFault) → Proposed T fs block edit old middle put → result ≡ put → OnOk result (new ≡ middle) → OnErr result (new ≡ left_by (forget_of T middle fs added) middle) →
    Attached T fs added block edit old new result
attached_put T fs added block edit old middle new (Ok e) result p is same gone =
    let one = subst (λ (r : Result ℕ FfsFault). OnOk r (new ≡ middle)) is same in
    subst (Attached T fs added block edit old new) (sym is) (p ∙ ap (λ (m : StoreState). Ok (e, m)) (sym one))
attached_put T fs added block edit old middle new (Err fault) result p is same gone =
    let one = subst (λ (r : Result ℕ FfsFault). OnErr r (new ≡ left_by (forget_of T middle fs added) middle)) is gone in
    subst (Attached T fs added block edit old new) (sym is) (one ∙ ap (λ (m : StoreState). left_by (forget_of T m fs added) m) p.0, p.1)

pub can_edit : {T : Types} {fs : ℕ} {array : ℕ → Option ℕ} {old : StoreState} (s : Stage T fs array old) {after : Option ℕ} → IsTrue (was_given old after) → CanEdit T old after
can_edit s given = record { library = s.library; consistent = s.keeps.consistent; given = given }

-- An entry is cleared

pub record Cleared (T : Types) (fs : ℕ) (array : ℕ → Option ℕ) (old new : StoreState) (slot : Slot) (entry : ℕ) : Type 0 where
  pub stage : Stage T fs array new
  pub can : CanUnlink library_layout new.lives fs slot.inode entry
  pub given : IsTrue (was_given new (Some entry))
  pub content : Clearing (latest old.lives) (latest new.lives) fs slot

module _ (T : Types) (fs : ℕ) (array : ℕ → Option ℕ) (old : StoreState) (s : Stage T fs array old) where
  pub clears : (new : StoreState) (slot : Slot) → IsSlot old fs slot → (after : Option ℕ) (entry : ℕ) → propose_of T old fs slot.block (edit_at (32 * slot.place) (replicate 32 0) [] [] after) ≡ Ok (entry, new) → Cleared T fs array old new slot entry
  clears new slot is after entry done =
      let k = cleared T s.library fs s.few array old new s.keeps slot is after entry done in
      let l = name_lost T s.library old new s.keeps.consistent fs s.few slot is after entry done in
      record {
        stage = record { library = s.library; few = s.few; keeps = k.0 };
        can = k.1;
        given = proposed_given T old new s.keeps.consistent fs slot.block (edit_at (32 * slot.place) (replicate 32 0) [] [] after) entry done;
        content = record { inodes = l.0; entries = l.1; others = l.2 };
      }

  pub clears_short : (slot : Slot) → IsSlot old fs slot → (after : Option ℕ) → IsTrue (was_given old after) → ShortEdit T old fs slot.block (edit_at (32 * slot.place) (replicate 32 0) [] [] after)
  clears_short slot is after given = slot_short T old after (can_edit s given) fs s.few slot is (replicate 32 0) refl

  -- A link is taken

  module _ (n e : ℕ) (found : Found) (is : IsFound old fs n found) (exact : Ok found.inode ≡ inode_in (latest old.lives) fs n) (can : CanUnlink library_layout old.lives fs n e) (given : IsTrue (was_given old (Some e))) where
    module _ (bytes : List ℕ) (whole : length bytes ≡ 64) (links : ℕ) (set : fields_of bytes ≡ record (fields_of found.inode) { links = links }) where
      pub link_short : ShortEdit T old fs found.block (edit_at (64 * found.place) bytes [] [] (Some e))
      link_short = kept_short T old (Some e) (can_edit s given) fs s.few n found.block found.place is.stands bytes whole
          (pairs_kept found.inode bytes (ap (λ (f : Fields). f.indirect) set) (ap (λ (f : Fields). f.direct) set) ∙ ap (λ (b : List ℕ). inode_pairs b 0) is.bytes)

      pub link_less : (new : StoreState) → suc links ≡ inode_links found.inode → 1 < inode_links found.inode → (entry : ℕ) → propose_of T old fs found.block (edit_at (64 * found.place) bytes [] [] (Some e)) ≡ Ok (entry, new) →
          Stage T fs array new × TakesLink (latest old.lives) (latest new.lives) fs n
      link_less new one more entry done =
          let h = s.keeps.consistent in
          let mode = ap (λ (f : Fields). f.mode) set in
          let low = (stands_from (latest old.lives) fs n found.inode exact).low in
          let p = inode_put T s.library old new h fs s.few n found.block found.place is.stands low bytes whole (λ z. is.used (sym mode ∙ z)) [] [] (Some e) entry done in
          let kept = relinked T s.library old new h fs s.few n found is exact bytes whole mode (ap (λ (f : Fields). f.direct) set) (ap (λ (f : Fields). f.indirect) set) (ap (λ (f : Fields). f.size) set) (Some e) entry done n in (
            record {
              library = s.library;
              few = s.few;
              keeps = less T s.library fs s.few array old new s.keeps n found.block found.place is.stands bytes whole [] [] (Some e) entry done (mode ∙ ap inode_mode is.bytes)
                  (ap suc (ap (λ (f : Fields). f.links) set) ∙ (one ∙ ap inode_links is.bytes)) (same_blocks found.inode bytes (ap (λ (f : Fields). f.direct) set) ∙ ap inode_blocks is.bytes) e can refl;
            },
            record {
              others = p.1;
              took = λ inode i.
                  let same : inode ≡ found.inode = same_ok inode found.inode (i ∙ sym exact) in
                  let was : inode_links inode ≡ inode_links found.inode = ap inode_links same in
                  let x = kept inode i in
                  let now : inode_links x.after ≡ links = ap inode_links (same_ok x.after bytes (x.found ∙ p.0)) ∙ ap (λ (f : Fields). f.links) set in
                  record { kept = λ lt. (x, omega (arith, now, one, was)); zeroed = λ le. absurd (omega (arith, le, more, was)) };
            },
          )

    -- An inode is given up

    module _ (none : HasNoData T (latest old.lives) found.inode) (bytes : List ℕ) (free : bytes ≡ replicate 64 0) where
      pub free_short : ShortEdit T old fs found.block (edit_at (64 * found.place) bytes [] (data_of_inode found.inode) (Some e))
      free_short = subst (λ (i : List ℕ). ShortEdit T old fs found.block (edit_at (64 * found.place) bytes [] (data_of_inode i) (Some e))) (sym is.bytes)
          (freed_short T old (Some e) (can_edit s given) fs s.few n found.block found.place is.stands bytes (ap length free) (ap (λ (b : List ℕ). inode_pairs b 0) free ∙ free_pairs)
          (subst (λ (i : List ℕ). HasNoData T (latest old.lives) i) is.bytes none))

      pub frees : (new : StoreState) → inode_links found.inode ≡ 1 → (drops : List ℕ) (entry : ℕ) → propose_of T old fs found.block (edit_at (64 * found.place) bytes [] drops (Some e)) ≡ Ok (entry, new) →
          Stage T fs array new × ((d : ℕ) → d ≢ n → SameInode (latest old.lives) (latest new.lives) fs d) × (place_in (latest new.lives) fs n ≡ Ok (replicate 64 0))
      frees new one drops entry done =
          let h = s.keeps.consistent in
          let whole : length bytes ≡ 64 = ap length free in (
            record {
              library = s.library;
              few = s.few;
              keeps = freed T s.library fs s.few array old new s.keeps n found.block found.place is.stands bytes whole [] drops (Some e) entry done (ap inode_mode free ∙ free_mode) (ap inode_blocks free ∙ free_blocks)
                  (ap inode_links (sym is.bytes) ∙ one) e can refl;
            },
            others_put T s.library old new h fs s.few n found.block found.place is.stands bytes whole [] drops (Some e) entry done,
            place_put T s.library old new h fs s.few n found.block found.place is.stands bytes whole [] drops (Some e) entry done ∙ ap (λ (b : List ℕ). Ok b) free,
          )

-- A link is added

module _ (T : Types) (fs : ℕ) (array : ℕ → Option ℕ) (old : StoreState) (s : Stage T fs array old) (n : ℕ) (found : Found) (is : IsFound old fs n found) (exact : Ok found.inode ≡ inode_in (latest old.lives) fs n)
    (bytes : List ℕ) (whole : length bytes ≡ 64) (links : ℕ) (set : fields_of bytes ≡ record (fields_of found.inode) { links = links }) where
  pub more_short : ShortEdit T old fs found.block (edit_at (64 * found.place) bytes [] [] None)
  more_short = kept_short T old None (can_edit s refl) fs s.few n found.block found.place is.stands bytes whole
      (pairs_kept found.inode bytes (ap (λ (f : Fields). f.indirect) set) (ap (λ (f : Fields). f.direct) set) ∙ ap (λ (b : List ℕ). inode_pairs b 0) is.bytes)

  pub link_more : (new : StoreState) → links ≡ suc (inode_links found.inode) → (entry : ℕ) → propose_of T old fs found.block (edit_at (64 * found.place) bytes [] [] None) ≡ Ok (entry, new) →
      Stage T fs array new × MayName new fs n entry × AddsLink (latest old.lives) (latest new.lives) fs n
  link_more new one entry done =
      let h = s.keeps.consistent in
      let mode = ap (λ (f : Fields). f.mode) set in
      let own = stands_from (latest old.lives) fs n found.inode exact in
      let now : inode_links bytes ≡ links = ap (λ (f : Fields). f.links) set in
      let p = inode_put T s.library old new h fs s.few n found.block found.place is.stands own.low bytes whole (λ z. is.used (sym mode ∙ z)) [] [] None entry done in
      let k = more T s.library fs s.few array old new s.keeps n found.block found.place is.stands bytes whole [] [] None entry done (mode ∙ ap inode_mode is.bytes) (now ∙ (one ∙ ap suc (ap inode_links is.bytes)))
      (same_blocks found.inode bytes (ap (λ (f : Fields). f.direct) set) ∙ ap inode_blocks is.bytes) (λ z. is.used (ap inode_mode is.bytes ∙ z)) in (
        record { library = s.library; few = s.few; keeps = k.0 },
        record { some = own.some; can = k.1; given = proposed_given T old new h fs found.block (edit_at (64 * found.place) bytes [] [] None) entry done },
        record {
          before = relinked T s.library old new h fs s.few n found is exact bytes whole mode (ap (λ (f : Fields). f.direct) set) (ap (λ (f : Fields). f.indirect) set) (ap (λ (f : Fields). f.size) set) None entry done;
          others = p.1;
          links = λ inode after i a.
              let e = was_and_is (latest old.lives) (latest new.lives) fs n found.inode bytes inode after exact p.0 i a in
              let was : inode_links inode ≡ inode_links found.inode = ap inode_links e.0 in
              let is_now : inode_links after ≡ links = ap inode_links e.1 ∙ now in
              omega (arith, was, is_now, one);
        },
      )

-- What an inode's block of pointers points to is dropped

pub record DroppedData (T : Types) (fs : ℕ) (array : ℕ → Option ℕ) (old new : StoreState) (n : ℕ) (inode : List ℕ) (e : ℕ) : Type 0 where
  pub stage : Stage T fs array new
  pub can : CanUnlink library_layout new.lives fs n e
  pub given : IsTrue (was_given new (Some e))
  pub same : Ok inode ≡ inode_in (latest new.lives) fs n
  pub others : (d : ℕ) → d ≢ n → SameInode (latest old.lives) (latest new.lives) fs d
  pub none : HasNoData T (latest new.lives) inode
  pub left : inode_links inode ≤ 1 → (new ≡ old) ⊎ ClearedPointers (latest old.lives) (latest new.lives) inode

module _ (T : Types) (fs : ℕ) (array : ℕ → Option ℕ) (old : StoreState) (s : Stage T fs array old) (n after : ℕ) (some : n ≢ 0) (found : Found) (is : IsFound old fs n found) (exact : Ok found.inode ≡ inode_in (latest old.lives) fs n) (block : ℕ) (points : word_at found.inode 56 ≡ block)
    (can : CanUnlink library_layout old.lives fs n after) (given : IsTrue (was_given old (Some after))) where
  pub at_pointers : block ≢ 0 → Under T (latest old.lives) fs block 5
  at_pointers there = pointers_reached T s.library old fs n found is block points there

  pub drops_short : block ≢ 0 → length (latest old.lives block) ≡ 512 → ShortEdit T old fs block (clearing old block after)
  drops_short there long = pointers_cleared_short T s.library old s.keeps.consistent fs s.few block long (Some after) given (at_pointers there)

  pub drops : (new : StoreState) (e : ℕ) → Dropped T fs block after old new (Ok e) → DroppedData T fs array old new n found.inode e
  drops new e (inl x) =
      let bare : HasNoData T (latest old.lives) found.inode = λ there. elim x.2 [
        | inl z ↦ absurd (there (points ∙ z))
        | inr z ↦ ap (λ b. T.owned 5 (latest old.lives b)) points ∙ s.library.indirect (latest old.lives block) ∙ no_pairs (pointed (pointer_word (latest old.lives block)) 128 2) (ap length z)
      ] in
      let first : DroppedData T fs array old old n found.inode after = record { stage = s; can = can; given = given; same = exact; others = λ d ne. (refl, λ inode i. (refl, λ at low. refl), λ some few. refl); none = bare; left = λ few. inl refl } in
      subst (λ m. DroppedData T fs array old new n found.inode m) (sym x.1) (subst (λ (m : StoreState). DroppedData T fs array old m n found.inode after) (sym x.0) first)
  drops new e (inr x) =
      let h = s.keeps.consistent in
      let edit = clearing old block after in
      let at = at_pointers x.0 in
      let k = dropped T s.library fs s.few array old new s.keeps block n after e edit at some can refl x.2 in
      let t = edited T old new h fs s.few block 5 edit e x.2 at in
      record {
        stage = record { library = s.library; few = s.few; keeps = k.0 };
        can = k.1;
        given = proposed_given T old new h fs block edit e x.2;
        same = exact ∙ sym (inodes_same T s.library (latest old.lives) (latest new.lives) fs block 5 t (λ z. omega (arith, z)) (λ z. omega (arith, z)) n);
        others = pointers_touched T s.library old h fs s.few (latest new.lives) block 5 t refl n found.inode (stands_from (latest old.lives) fs n found.inode exact) points x.0;
        none = λ ne. ap (λ b. T.owned 5 (latest new.lives b)) points ∙ ap (T.owned 5) (proposed_here T old new h fs block edit e x.2) ∙ cleared_owns T s.library (latest old.lives block) x.1;
        left = λ few. inr (record {
          last = few;
          cleared = ap (latest new.lives) points ∙ (proposed_here T old new h fs block edit e x.2 ∙ put_whole (latest old.lives block) zero_block (x.1));
          others = λ c ne. proposed_others T old new h fs block edit e x.2 c (λ z. ne (z ∙ sym points));
        });
      }

-- a block of pointers was emptied, if it points to anything
pub record Drops (T : Types) (fs : ℕ) (array : ℕ → Option ℕ) (old first : StoreState) (n : ℕ) (inode : List ℕ) (block after e : ℕ) : Type 0 where
  pub exact : Ok inode ≡ inode_in (latest old.lives) fs n
  pub under : block ≢ 0 → Under T (latest old.lives) fs block 5
  pub put : Dropped T fs block after old first (Ok e)
  pub leaves : DroppedData T fs array old first n inode e

pub some_items : (n : ℕ) (t : Bool) (xs : List ℕ) → t ≡ (n == 0) → t ≡ false → length xs ≡ n → xs ≢ []
some_items n t xs e f long z = true_false t (e ∙ eq-eqb n 0 (sym long ∙ ap length z)) f

pub dropped_put : (T : Types) (fs block after : ℕ) (old new : StoreState) (result : Result ℕ FfsFault) (items : List ℕ) → block ≢ 0 → length (latest old.lives block) ≡ 512 → items ≡ data_of_pointers (latest old.lives block) → items ≢ [] →
    Proposed T fs block (edit_at 0 (replicate 512 0) [] items (Some after)) old new result → Dropped T fs block after old new result
dropped_put T fs block after old new (Ok e) items there long is some p = inr (there, long, subst (λ (ds : List ℕ). propose_of T old fs block (edit_at 0 (replicate 512 0) [] ds (Some after)) ≡ Ok (e, new)) is p, λ z. some (is ∙ z))
dropped_put T fs block after old new (Err fault) items there long is some p = (p.0, there, long, subst (λ (ds : List ℕ). Tells (propose_of T old fs block (edit_at 0 (replicate 512 0) [] ds (Some after))) fault) is p.1)

-- Both

pub given_up : (u v w : ℕ → List ℕ) (fs n : ℕ) (found : List ℕ) → Ok found ≡ inode_in u fs n → inode_links found ≤ 1 → ((d : ℕ) → d ≢ n → SameInode u v fs d) → ((d : ℕ) → d ≢ n → SameInode v w fs d) → place_in w fs n ≡ Ok (replicate 64 0) → TakesLink u w fs n
given_up u v w fs n found exact few first second bare = record {
  others = λ d ne. same_on u v w fs d (first d ne) (second d ne);
  took = λ inode i.
      let was : inode_links inode ≡ inode_links found = ap inode_links (same_ok inode found (i ∙ sym exact)) in
      record { kept = λ lt. absurd (omega (arith, lt, few, was)); zeroed = λ le. bare };
}

pub may_lose : {T : Types} {fs : ℕ} {array : ℕ → Option ℕ} {old new : StoreState} {slot : Slot} {entry : ℕ} → Stage T fs array old → IsSlot old fs slot → Cleared T fs array old new slot entry → MayLose new fs slot.inode entry
may_lose {T} {fs} {array} {old} {new} {slot} s is k =
    let named = linked_inode T fs array old s.keeps slot is in
    record { some = is.some; can = k.can; given = k.given; inode = named.own; found = named.found ∙ sym (k.content.inodes slot.inode); linked = named.linked }

-- the entry is gone from its directory
pub unlisted : (u v : ℕ → List ℕ) (fs d : ℕ) (slot : Slot) (own : List ℕ) → Ok own ≡ inode_in u fs d → Contains (inode_blocks own) slot.block → Clearing u v fs slot → Unlisted u v fs d slot
unlisted u v fs d slot own is has c = record {
  gone = λ inode i. (i ∙ sym (directory_same u v fs d (c.inodes d)), c.entries inode);
  others = λ x ne. c.others d own is has x ne;
}

-- an inode that was as before lost a link
pub took_on : (u v w : ℕ → List ℕ) (fs n : ℕ) (inode : List ℕ) → SameInode u v fs n → Ok inode ≡ inode_in u fs n → TookLink v w fs n inode → TookLink u w fs n inode
took_on u v w fs n inode same i k = record {
  kept = λ lt.
      let y = k.kept lt in
      let x = same.1 inode i in
      (record { after = y.0.after; found = y.0.found; mode = y.0.mode; size = y.0.size; entries = y.0.entries ∙ x.0; each = λ at low. y.0.each at low ∙ x.1 at low; direct = y.0.direct; room = y.0.room ∙ room_by u v inode inode refl x.1 }, y.1);
  zeroed = k.zeroed;
}

module _ (u v : ℕ → List ℕ) (fs d : ℕ) (slot : Slot) (r : Removable u fs d slot) (c : Clearing u v fs slot) where
  pub removed : (w : ℕ → List ℕ) → TakesLink v w fs slot.inode → Removed u w fs d slot
  removed w t =
      let mine = t.others d r.apart in
      let lost = unlisted u v fs d slot r.own r.is r.has c in
      let same = lost.others slot.inode (λ e. r.apart (sym e)) in
      record {
        gone = λ inode i.
            let at : Ok inode ≡ inode_in v fs d = (directory_from u fs d inode i).0 ∙ sym (c.inodes d) in
            (i ∙ (sym (directory_same u v fs d (c.inodes d)) ∙ sym (directory_same v w fs d mine.0)), (mine.1 inode at).0 ∙ c.entries inode);
        others = λ x ne ne'. same_on u v w fs x (lost.others x ne) (t.others x ne');
        unlinked = λ inode i. took_on u v w fs slot.inode inode same i (t.took inode (i ∙ sym (c.inodes slot.inode)));
      }

-- where an inode has more links than one, it loses but one of them
pub less_of : (u w : ℕ → List ℕ) (fs n : ℕ) → TakesLink u w fs n → ((inode : List ℕ) → Ok inode ≡ inode_in u fs n → 1 < inode_links inode) →
    ((x : ℕ) → AsBefore u w fs x) × ((x after : List ℕ) → Ok x ≡ inode_in u fs n → Ok after ≡ inode_in w fs n → inode_links after + 1 ≡ inode_links x)
less_of u w fs n t many = (
  λ x. elim (cases_eq x n) [
    | inl e ↦ (λ inode i. subst (λ y. IsAs u w fs y inode) (sym e) ((t.took inode (i ∙ ap (inode_in u fs) e)).kept (many inode (i ∙ ap (inode_in u fs) e))).0)
    | inr ne ↦ same_as u w fs x (t.others x ne)
  ],
  λ x after i a.
      let lt = many x i in
      let k = (t.took x i).kept lt in
      let same : inode_links after ≡ inode_links k.0.after = ap inode_links (same_ok after k.0.after (a ∙ sym k.0.found)) in
      omega (arith, same, k.1, lt),
)

-- What is left where a link could not be taken

pub home_of : (state : StoreState) (fs n block place : ℕ) → IsPlace state fs n block place → IsHome (latest state.lives) fs n block
home_of state fs n block place is = block_again (latest state.lives) fs ((n - 1) / 8) block is.inodes

pub home_wants : (T : Types) (state : StoreState) (fs n block : ℕ) → IsHome (latest state.lives) fs n block → (fault : FfsFault) → Wants T state fs block fault → WantsHome T state fs n fault
home_wants T state fs n block home fault wants = at_ok (inode_block_in (latest state.lives) fs ((n - 1) / 8)) block (λ b. Wants T state fs b fault) home wants

-- an edit of the block of an inode, or of its block of pointers
pub either_wants : (T : Types) (state : StoreState) (fs n : ℕ) (inode : List ℕ) → Ok inode ≡ inode_in (latest state.lives) fs n → (block : ℕ) → IsHome (latest state.lives) fs n block ⊎ (block ≡ word_at inode 56) → (fault : FfsFault) → Wants T state fs block fault →
    WantsHome T state fs n fault ⊎ WantsPointers T state fs n fault
either_wants T state fs n inode is block of fault wants = elim of [
  | inl home ↦ inl (home_wants T state fs n block home fault wants)
  | inr e ↦ inr (at_ok (inode_in (latest state.lives) fs n) inode (λ i. Wants T state fs (word_at i 56) fault) is (subst (λ (b : ℕ). Wants T state fs b fault) e wants))
]

pub at_home : (T : Types) (fs : ℕ) (old new : StoreState) (n block place : ℕ) → IsPlace old fs n block place → new ≡ old → (fault : FfsFault) → Wants T old fs block fault → StopsAtHome T fs old new n fault
at_home T fs old new n block place is same fault wants = (same, home_wants T old fs n block (home_of old fs n block place is) fault wants)

pub nothing_taken : (T : Types) (fs : ℕ) (old new : StoreState) (n : ℕ) (inode : List ℕ) → Ok inode ≡ inode_in (latest old.lives) fs n → new ≡ old → (block : ℕ) → IsHome (latest old.lives) fs n block ⊎ (block ≡ word_at inode 56) →
    (fault : FfsFault) → Wants T old fs block fault → StopsTaking T fs old new n fault
nothing_taken T fs old new n inode is same block of fault wants = subst (λ (s : StoreState). StopsTaking T fs old s n fault) (sym same) (record {
  others = λ d ne. (refl, λ x i. (refl, λ at low. refl), λ some few. refl);
  inode = inode;
  was = is;
  is = is;
  stage = inl refl;
  wants = either_wants T old fs n inode is block of fault wants;
})

pub data_taken : (T : Types) (fs : ℕ) (array : ℕ → Option ℕ) (old first new : StoreState) (n : ℕ) (inode : List ℕ) (e : ℕ) → Ok inode ≡ inode_in (latest old.lives) fs n → inode_links inode ≤ 1 → DroppedData T fs array old first n inode e → new ≡ first →
    (block place : ℕ) → IsPlace first fs n block place → (fault : FfsFault) → Wants T first fs block fault → StopsTaking T fs old new n fault
data_taken T fs array old first new n inode e is few k same block place at fault wants = subst (λ (s : StoreState). StopsTaking T fs old s n fault) (sym same) (record {
  others = k.others;
  inode = inode;
  was = is;
  is = k.same;
  stage = k.left few;
  wants = inl (home_wants T first fs n block (home_of first fs n block place at) fault wants);
})
