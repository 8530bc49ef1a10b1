-- A call does what its function of the files says, or leaves one of its stages.
use Rattle.std.proofs.Common.{◌≡◌, ◌≢◌, ℕ, ◌-◌, ◌*◌, ◌/◌, ◌%◌, ◌<◌, ◌≤◌, ◌⊎◌, Bool, true, false, List, [], ◌∷◌, ◌++◌, length, map, take, replicate, get_or, Some, None, Result, Ok, Err, refl, sym, ◌∙◌, ap, inl, inr, arith, subst, length-append, Contains, IsErrAnd, MatchResult, OnErr, ◌==◌, min, nat_le, nat_lt, if◌then◌else◌, ok_or, le-leb, le-ltb, lt-ltb, get_or-take, length-take}
use Rattle.ffs_lib.proofs.Common.{BadName, FfsFault, IsConsistent, IsLibrary, NoEntry, Slot, StoreState, Types, and_then, blocks_value, byte_in, byte_of}
use Rattle.ffs_lib.proofs.Common.{bytes_value, cases_lt, direct_in, directory_in, eqb-false, err_from_is_err_and, file_block, file_end, files_of}
use Rattle.ffs_lib.proofs.Common.{get_or-append_right, get_or-map-range_with_len, get_or-replicate, get_or_append_left, inode_blocks, inode_in, inode_links}
use Rattle.ffs_lib.proofs.Common.{inode_mode, is_name, latest, length-map-range_with_len, length-replicate, name_of_place, pointer_word, range_with_len}
use Rattle.ffs_lib.proofs.Common.{same_lists, word_at}
use Rattle.ffs_model.proofs.ForCallers.{direct_where, zero_word}
use Rattle.ffs_lookup.specs.Files.{Answer, Blocks, Directory, File, Files, cleared, directory_of, entry_named, look_up, fault_told, with_entry, without_link}
use Rattle.ffs_lookup.proofs.ForCallers.{IsPlaceOf, direct_has, map_on, same_ok}
use Rattle.ffs_lib.specs.Orders.{Orders, removed_edits}
use Rattle.ffs_lib.specs.Results.{IsAs, OnlyChanges, SameContents, SameInode}
use Rattle.ffs_lib.specs.Reclaiming.{PointersEmptied}
use Rattle.ffs_lib.specs.Stages.{AreEmptied, Asks, Does, IsRefused, IsStage, KeptOrEmptied, OfEntry, Stages, Unnames, cleared_stages, cut_short, emptied, link_stages, removed_stages, stages_of, with_emptied}
use Rattle.ffs_lib.specs.Steps.{Answers, ClearedPointers, Clearing, Stops, StopsTaking, StopsUnnaming, Unnamed, Wants}
use Rattle.ffs_lib.specs.Values.{Leads}
use Rattle.ffs_lib.proofs.Tests.{never}
use Rattle.ffs_lib.proofs.Entering.{directory_from}
use Rattle.ffs_lib.proofs.BlocksOnce.{blocks_once}
use Rattle.ffs_lib.proofs.Frames.{listing_same}
use Rattle.ffs_lib.proofs.Laws.{removed, unlisted}
use Rattle.ffs_lib.proofs.Moving.{same_as}
use Rattle.ffs_lib.proofs.Owners.{direct_block, pointers_apart, stands_from}
use Rattle.ffs_lib.proofs.Removal.{FindsEntry}
use Rattle.ffs_lib.proofs.Same.{same_on}
use Rattle.ffs_lib.proofs.Undoing.{at_ok}
use Rattle.ffs_lib.proofs.ValueMade.{directory_value}
use Rattle.ffs_lib.proofs.ValueSteps.{clearing_value, inode_linked, kind, kind_is, takes_value, value_at}

pub same_here : (v : ℕ → List ℕ) (fs x : ℕ) → SameInode v v fs x
same_here v fs x = (refl, λ inode i. (refl, λ at low. refl), λ some low. refl)

-- a stage of the first or the last ones of a list
pub first_stages : (T : Types) (fs : ℕ) (new : StoreState) (fault : FfsFault) (xs ys : Stages) → IsStage T fs new fault xs → IsStage T fs new fault (xs ++ ys)
first_stages T fs new fault [] ys none = absurd none
first_stages T fs new fault (x ∷ xs) ys s = elim s [ inl here ↦ inl here | inr later ↦ inr (first_stages T fs new fault xs ys later) ]

pub later_stages : (T : Types) (fs : ℕ) (new : StoreState) (fault : FfsFault) (xs ys : Stages) → IsStage T fs new fault ys → IsStage T fs new fault (xs ++ ys)
later_stages T fs new fault [] ys s = s
later_stages T fs new fault (x ∷ xs) ys s = inr (later_stages T fs new fault xs ys s)

-- a call whose look-ups fail has the fault that its function has
pub does_fault : {A B : Type 0} (T : Types) (fs : ℕ) (looked : Result B FfsFault) (answer : Answer A) (stages : Stages) (old new : StoreState) (result : Result A FfsFault) → fault_told looked ≡ fault_told answer →
    Answers looked (λ x y. ⊥) (λ x fault. ⊥) old new result → Does T fs answer stages old new result
does_fault T fs (Err fault) (Err other) stages old new result e h = let same : fault ≡ other = cc e in (h.0 ∙ ap (λ (f : FfsFault). Err f) same, h.1)
does_fault T fs (Err fault) (Ok next) stages old new result e h = absurd (cc e)
does_fault T fs (Ok x) answer stages old new (Ok y) e h = absurd h
does_fault T fs (Ok x) answer stages old new (Err fault) e h = absurd h.1

-- one whose look-ups pass does what its function says, or leaves one of its stages
pub does_found : {A : Type 0} (T : Types) (fs : ℕ) (answer : Answer A) (next : A × Files) (stages list : Stages) (P : A → Type 0) (R : FfsFault → Type 0) (old new : StoreState) (result : Result A FfsFault) → answer ≡ Ok next → stages ≡ list →
    ((y : A) → P y → Leads (Ok next) (latest new.lives) fs y) → ((fault : FfsFault) → R fault → IsRefused T fs old new fault list) → MatchResult result P (Stops R) → Does T fs answer stages old new result
does_found {A} T fs answer next stages list P R old new result is are leads refused ends =
    subst (λ (a : Answer A). Does T fs a stages old new result) (sym is) (subst (λ (s : Stages). Does T fs (Ok next) s old new result) (sym are) (go result ends))
  where
    go : (r : Result A FfsFault) → MatchResult r P (Stops R) → Does T fs (Ok next) list old new r
    go (Ok y) h = leads y h
    go (Err fault) h = (h.0, refused fault h.1)

-- The block of pointers of an inode with its last link was emptied
module _ (T : Types) (lib : IsLibrary T) (fs : ℕ) (few : fs < 32) (v : ℕ → List ℕ) (new : StoreState) (h : IsConsistent T new) (n : ℕ) (inode : List ℕ) (was : Ok inode ≡ inode_in v fs n) (is : Ok inode ≡ inode_in (latest new.lives) fs n)
    (c : PointersEmptied v (latest new.lives) inode) where
  abbrev w : ℕ → List ℕ
  w = latest new.lives

  abbrev pointers : ℕ
  pointers = word_at inode 56

  -- the blocks that the inode points to itself are others
  direct_apart : (i : ℕ) → i < 12 → direct_in inode i ≢ 0 → w (direct_in inode i) ≡ v (direct_in inode i)
  direct_apart i low some =
      let s = stands_from w fs n inode is in
      c.others (direct_in inode i) (λ e. pointers_apart T lib new h fs few n n inode inode s s i (direct_in inode i) (omega (arith, low)) (direct_block w inode i low) (sym e) some)

  same_blocks : blocks_value w inode ≡ blocks_value v inode
  same_blocks = map_on _ _ 0 12 (λ i low high. one i (omega (arith, high)) (direct_in inode i == 0) refl)
    where
      one : (i : ℕ) → i < 12 → (t : Bool) → (direct_in inode i == 0) ≡ t →
          (if t then None else Some (map (name_of_place (w (direct_in inode i))) (range_with_len 0 16))) ≡ (if t then None else Some (map (name_of_place (v (direct_in inode i))) (range_with_len 0 16)))
      one i low true e = refl
      one i low false e = ap (λ m. Some (map (name_of_place m) (range_with_len 0 16))) (direct_apart i low (eqb-false (direct_in inode i) 0 e))

  in_block : (b at : ℕ) → (b ≢ 0 → w b ≡ v b) → byte_in w b at ≡ byte_in v b at
  in_block b at same = go (b == 0) refl
    where
      go : (t : Bool) → (b == 0) ≡ t → (if t then 0 else get_or (w b) at 0) ≡ (if t then 0 else get_or (v b) at 0)
      go true e = refl
      go false e = ap (λ m. get_or m at 0) (same (eqb-false b 0 e))

  first_bytes : (at : ℕ) → at < 6144 → byte_of w inode at ≡ byte_of v inode at
  first_bytes at low =
      let few : at / 512 < 12 = omega (arith, low) in
      ap (λ b. byte_in w b (at % 512)) (direct_block w inode (at / 512) few) ∙ (in_block (direct_in inode (at / 512)) (at % 512) (direct_apart (at / 512) few) ∙ ap (λ b. byte_in v b (at % 512)) (sym (direct_block v inode (at / 512) few)))

  last_bytes : (at : ℕ) → 6144 ≤ at → byte_of w inode at ≡ 0
  last_bytes at high =
      let far : 12 ≤ at / 512 = omega (arith, high) in
      let hole : file_block w inode (at / 512) ≡ 0 =
      ap (λ (t : Bool). if t then direct_in inode (at / 512) else (if pointers == 0 then 0 else pointer_word (w pointers) (at / 512 - 12))) (le-ltb (at / 512) 12 far) ∙ none (pointers == 0) (at / 512 - 12) in
      ap (λ b. byte_in w b (at % 512)) hole
    where
      none : (t : Bool) (i : ℕ) → (if t then 0 else pointer_word (w pointers) i) ≡ 0
      none true i = refl
      none false i = ap (λ m. pointer_word m i) c.cleared ∙ zero_word (4 * i)

  pub emptied_contents : AreEmptied v w inode
  emptied_contents = (
    listing_same w v inode (λ b i. let x = direct_where inode b i in subst (λ (k : ℕ). w k ≡ v k) x.2 (direct_apart x.0 x.1 (λ z. x.3 (sym x.2 ∙ z)))),
    λ at low. elim (cases_lt at 6144) [
      | inl lt ↦ first_bytes at lt ∙ sym (ap (λ t. if t then byte_of v inode at else 0) (lt-ltb at 6144 lt))
      | inr ge ↦ last_bytes at ge ∙ sym (ap (λ t. if t then byte_of v inode at else 0) (le-ltb at 6144 ge))
    ],
  )

  abbrev end : ℕ
  end = file_end inode

  abbrev bytes : List ℕ
  bytes = bytes_value v inode

  long : length bytes ≡ end
  long = length-map-range_with_len (byte_of v inode) 0 end

  emptied_bytes : bytes_value w inode ≡ take 6144 bytes ++ replicate (length bytes - 6144) 0
  emptied_bytes =
      same_lists (bytes_value w inode) (take 6144 bytes ++ replicate (length bytes - 6144) 0) (length-map-range_with_len (byte_of w inode) 0 end ∙ sym whole) (λ k d low.
      let small : k < end = subst (λ (m : ℕ). k < m) (length-map-range_with_len (byte_of w inode) 0 end) low in
      get_or-map-range_with_len (byte_of w inode) 0 end k k d small (omega arith) ∙ part k d small)
    where
      long_first : length (take 6144 bytes) ≡ min 6144 end
      long_first = length-take 6144 bytes ∙ ap (min 6144) long

      whole : length (take 6144 bytes ++ replicate (length bytes - 6144) 0) ≡ end
      whole =
          let b = length-replicate {A = ℕ} (length bytes - 6144) 0 in
          omega (arith, long_first, b, long, length-append (take 6144 bytes) (replicate (length bytes - 6144) 0))

      part : (k d : ℕ) → k < end → byte_of w inode k ≡ get_or (take 6144 bytes ++ replicate (length bytes - 6144) 0) k d
      part k d small = elim (cases_lt k 6144) [
        | inl lt ↦
            first_bytes k lt
            ∙ sym (get_or_append_left (take 6144 bytes) (replicate (length bytes - 6144) 0) d k (omega (arith, lt, small, long_first))
            ∙ (get_or-take 6144 bytes k d lt ∙ get_or-map-range_with_len (byte_of v inode) 0 end k k d small (omega arith)))
        | inr ge ↦
            last_bytes k ge
            ∙ sym (get_or-append_right (take 6144 bytes) (replicate (length bytes - 6144) 0) 6144 k d (omega (arith, long_first, ge, small)) ge ∙ get_or-replicate (length bytes - 6144) (k - 6144) 0 d (omega (arith, long, ge, small)))
      ]

  pub short_at : files_of w fs n ≡ cut_short (files_of v fs n)
  short_at = kind_is v w fs n inode was w inode is ∙ (go (inode_mode inode == 2) ∙ ap cut_short (sym (kind_is v w fs n inode was v inode was)))
    where
      go : (t : Bool) → kind v w fs n inode was w inode t ≡ cut_short (kind v w fs n inode was v inode t)
      go true = ap (Directory (inode_links inode)) same_blocks
      go false = ap (File (inode_links inode)) emptied_bytes

  -- with its last link
  pub emptied_value : inode_links inode ≤ 1 → OnlyChanges v w fs n → files_of w fs ≡ with_emptied (files_of v fs) n
  emptied_value last others =
      let value = files_of v fs n in
      value_at v w fs n (emptied value)
      (short_at ∙ sym (ap (λ (l : ℕ). if nat_le l 1 then cut_short value else value) (inode_linked v fs n inode was) ∙ ap (λ (t : Bool). if t then cut_short value else value) (le-leb (inode_links inode) 1 last))) others

pointers_of : (v w : ℕ → List ℕ) (inode : List ℕ) → ClearedPointers v w inode → PointersEmptied v w inode
pointers_of v w inode c = record { cleared = c.cleared; others = c.others }

-- What is asked

pub asks_entry : (T : Types) (fs d : ℕ) (old new : StoreState) (own : List ℕ) (slot : Slot) (at : ℕ × ℕ) → Ok own ≡ directory_in (latest old.lives) fs d → IsPlaceOf own slot at → (fault : FfsFault) → new ≡ old → Wants T old fs slot.block fault →
    Asks T fs (OfEntry d at.0) old new fault
asks_entry T fs d old new own slot at is k fault same wants =
    (same, at_ok (directory_in (latest old.lives) fs d) own (λ inode. Wants T old fs (direct_in inode at.0) fault) is (subst (λ (b : ℕ). Wants T old fs b fault) (sym k.block) wants))

-- where a link could not be taken
pub link_stage : (T : Types) (lib : IsLibrary T) (fs : ℕ) → fs < 32 → (middle new : StoreState) → IsConsistent T new → (n : ℕ) (files : Files) → files_of (latest middle.lives) fs ≡ files → (fault : FfsFault) → StopsTaking T fs middle new n fault →
    IsStage T fs new fault (link_stages files n)
link_stage T lib fs few middle new h n files e fault s =
    elim s.stage [
      | inl same ↦ inl (new, ap (λ (z : StoreState). files_of (latest z.lives) fs) same ∙ e, (refl, s.wants))
      | inr c ↦ inr (inl (new, emptied_value T lib fs few (latest middle.lives) new h n s.inode s.was s.is (pointers_of _ _ s.inode c) c.last s.others ∙ ap (λ (f : Files). with_emptied f n) e, (refl, s.wants)))
    ]

-- and what that leaves of an inode that was as before
pub kept_or_emptied : (T : Types) → IsLibrary T → (fs : ℕ) → fs < 32 → (u : ℕ → List ℕ) (middle new : StoreState) → IsConsistent T new → (n : ℕ) → SameInode u (latest middle.lives) fs n → (inode : List ℕ) → Ok inode ≡ inode_in (latest middle.lives) fs n →
    Ok inode ≡ inode_in (latest new.lives) fs n → (new ≡ middle) ⊎ PointersEmptied (latest middle.lives) (latest new.lives) inode → KeptOrEmptied u (latest new.lives) fs n
kept_or_emptied T lib fs few u middle new after n same own was is stage = (
  sym is ∙ (was ∙ same.0),
  λ inode i.
      let m = latest middle.lives in
      let k = same.1 inode i in
      elim stage [
        | inl e ↦ inl (subst (λ (y : StoreState). SameContents u (latest y.lives) inode) (sym e) k)
        | inr e ↦
            let one : own ≡ inode = same_ok own inode (was ∙ (same.0 ∙ sym i)) in
            let x = subst (AreEmptied m (latest new.lives)) one (emptied_contents T lib fs few m new after n own was is e) in
            inr (x.0 ∙ k.0, λ at low. x.1 at low ∙ ap (λ (b : ℕ). if nat_lt at 6144 then b else 0) (k.1 at low))
      ],
)

module _ (T : Types) (fs : ℕ) (u : ℕ → List ℕ) (middle new : StoreState) (n : ℕ) (same : SameInode u (latest middle.lives) fs n) (fault : FfsFault) (s : StopsTaking T fs middle new n fault) where
  pub taking_as : (inode : List ℕ) → Ok inode ≡ inode_in u fs n → 1 < inode_links inode → IsAs u (latest new.lives) fs n inode
  taking_as inode i lt = elim s.stage [
    | inl e ↦ same_as u (latest new.lives) fs n (subst (λ (y : StoreState). SameInode u (latest y.lives) fs n) (sym e) same) inode i
    | inr e ↦
        let one : inode_links inode ≡ inode_links s.inode = ap inode_links (same_ok inode s.inode (i ∙ (sym same.0 ∙ sym s.was))) in
        absurd (omega (arith, one, e.last, lt))
  ]

  pub taking_kept : IsLibrary T → fs < 32 → IsConsistent T new → KeptOrEmptied u (latest new.lives) fs n
  taking_kept lib few after =
      kept_or_emptied T lib fs few u middle new after n same s.inode s.was s.is (elim s.stage [
        | inl e ↦ inl e
        | inr c ↦ inr (pointers_of _ _ s.inode c)
      ])

-- `unlink` and `rmdir`

cleared_stages_are : (files : Files) (d links : ℕ) (blocks : Blocks) (name : List ℕ) (found : (ℕ × ℕ) × ℕ) → files d ≡ Directory links blocks → look_up name blocks ≡ Some found → is_name name ≡ true → removed_stages files d name ≡ cleared_stages files d found
cleared_stages_are files d links blocks name found is looked good =
    ap (λ v. stages_of (and_then (directory_of v) (entry_named name)) (cleared_stages files d)) is
    ∙ (ap (λ (t : Bool). stages_of (if t then ok_or (look_up name blocks) NoEntry else Err BadName) (cleared_stages files d)) good ∙ ap (λ o. stages_of (ok_or o NoEntry) (cleared_stages files d)) looked)

module _ (T : Types) (lib : IsLibrary T) (fs : ℕ) (few : fs < 32) (d : ℕ) (name : List ℕ) (slot : Slot) (old new : StoreState) (f : FindsEntry (latest old.lives) fs d name slot) where
  abbrev u : ℕ → List ℕ
  u = latest old.lives

  abbrev z : ℕ → List ℕ
  z = latest new.lives

  abbrev found : (ℕ × ℕ) × ℕ
  found = (f.entry.at, slot.inode)

  pub cleared_does : IsConsistent T old → IsConsistent T new → (result : Result (Unit {0}) FfsFault) → MatchResult result (λ _. Unnamed u z fs slot) (Stops (StopsUnnaming T fs old new slot)) →
      Does T fs (Ok (tt, cleared (files_of u fs) d found)) (cleared_stages (files_of u fs) d found) old new result
  cleared_does before after result ends = go result ends
    where
      gone : (m : ℕ → List ℕ) → Clearing u m fs slot → files_of m fs ≡ with_entry (files_of u fs) d f.entry.at None
      gone m c = clearing_value u m fs d f.own f.is (blocks_once T lib old before fs few d f.own f.is) slot f.entry.at f.entry.is c

      go : (r : Result (Unit {0}) FfsFault) → MatchResult r (λ _. Unnamed u z fs slot) (Stops (StopsUnnaming T fs old new slot)) → Does T fs (Ok (tt, cleared (files_of u fs) d found)) (cleared_stages (files_of u fs) d found) old new r
      go (Ok x) y =
          (refl, λ n. ap (λ (g : Files). g n) (takes_value y.middle z fs slot.inode f.target (f.at ∙ sym (y.cleared.inodes slot.inode)) y.took ∙ ap (λ (g : Files). without_link g slot.inode) (gone y.middle y.cleared)))
      go (Err fault) stop = (
        stop.0,
        elim stop.1 [
          | inl p ↦ inl (asks_entry T fs d old new f.own slot f.entry.at f.is f.entry.is fault p.0 p.1)
          | inr q ↦ inr (link_stage T lib fs few q.0 new after slot.inode (with_entry (files_of u fs) d f.entry.at None) (gone (latest q.0.lives) q.1) fault q.2)
        ],
      )

  pub removed_does : IsConsistent T old → IsConsistent T new → (answer : Answer (Unit {0})) → answer ≡ Ok (tt, cleared (files_of u fs) d found) → (result : Result (Unit {0}) FfsFault) →
      MatchResult result (λ _. Unnamed u z fs slot) (Stops (StopsUnnaming T fs old new slot)) → Does T fs answer (removed_stages (files_of u fs) d name) old new result
  removed_does before after answer is result ends =
      subst (λ (a : Answer (Unit {0})). Does T fs a (removed_stages (files_of u fs) d name) old new result) (sym is)
      (subst (λ (s : Stages). Does T fs (Ok (tt, cleared (files_of u fs) d found)) s old new result) (sym (cleared_stages_are (files_of u fs) d _ _ name found (directory_value u fs d f.own f.is) f.entry.looked f.good)) (cleared_does before after result ends))

  -- what the files don't say of the inodes
  own_is : Ok f.own ≡ inode_in u fs d
  own_is = (directory_from u fs d f.own f.is).0

  has : Contains (inode_blocks f.own) slot.block
  has = let k = f.entry.is in direct_has f.own f.entry.at.0 slot.block k.low k.block k.there

  nothing : Unnames u u fs d slot.inode
  nothing = record { home = refl; others = λ x ne ne'. same_here u fs x; kept = λ inode i lt. same_as u u fs slot.inode (same_here u fs slot.inode) inode i }

  in_middle : (middle : StoreState) → Clearing u (latest middle.lives) fs slot → (fault : FfsFault) → StopsTaking T fs middle new slot.inode fault → Unnames u z fs d slot.inode
  in_middle middle c fault s =
      let m = latest middle.lives in
      let lost = unlisted u m fs d slot f.own own_is has c in
      record {
        home = (s.others d f.apart).0 ∙ c.inodes d;
        others = λ x ne ne'. same_on u m z fs x (lost.others x ne) (s.others x ne');
        kept = λ inode i lt. taking_as T fs u middle new slot.inode (lost.others slot.inode (λ e. f.apart (sym e))) fault s inode i lt;
      }

  pub unnames : IsConsistent T new → (result : Result (Unit {0}) FfsFault) → MatchResult result (λ _. Unnamed u z fs slot) (Stops (StopsUnnaming T fs old new slot)) →
      Unnames u z fs d slot.inode × OnErr result (KeptOrEmptied u z fs slot.inode)
  unnames after (Ok x) y =
      let r = removed u y.middle fs d slot (record { own = f.own; is = own_is; has = has; apart = f.apart }) y.cleared z y.took in (
        record { home = sym (directory_from z fs d f.own (r.gone f.own f.is).0).0 ∙ own_is; others = r.others; kept = λ inode i lt. ((r.unlinked inode i).kept lt).0 },
        tt,
      )
  unnames after (Err fault) stop = elim stop.1 [
    | inl p ↦
        subst (λ (s : StoreState). Unnames u (latest s.lives) fs d slot.inode × KeptOrEmptied u (latest s.lives) fs slot.inode) (sym p.0) (nothing, (refl, λ inode i. inl (refl, λ at low. refl)))
    | inr q ↦
        (in_middle q.0 q.1 fault q.2, taking_kept T fs u q.0 new slot.inode ((unlisted u (latest q.0.lives) fs d slot f.own own_is has q.1).others slot.inode (λ e. f.apart (sym e))) fault q.2 lib few after)
  ]

-- The whole call: the look-up's fault, or what is done of the entry that it finds.

pub record TakesName (T : Types) (fs d : ℕ) (name : List ℕ) (looked : Result Slot FfsFault) (answer : Answer (Unit {0})) (old new : StoreState) (result : Result (Unit {0}) FfsFault) : Type 0 where
  pub answers : Does T fs answer (removed_stages (files_of (latest old.lives) fs) d name) old new result
  pub inodes : (slot : Slot) → Ok slot ≡ looked → Unnames (latest old.lives) (latest new.lives) fs d slot.inode × OnErr result (KeptOrEmptied (latest old.lives) (latest new.lives) fs slot.inode)
  pub order : (slot : Slot) → Ok slot ≡ looked → Orders T fs (removed_edits (latest old.lives) fs slot None old.next) old new result

pub takes_name : (T : Types) → IsLibrary T → (fs : ℕ) → fs < 32 → (d : ℕ) (name : List ℕ) (looked : Result Slot FfsFault) (answer : Answer (Unit {0})) (old new : StoreState) → IsConsistent T old → IsConsistent T new → (slot : Slot) → Ok slot ≡ looked →
    (f : FindsEntry (latest old.lives) fs d name slot) → answer ≡ Ok (tt, cleared (files_of (latest old.lives) fs) d (f.entry.at, slot.inode)) → (result : Result (Unit {0}) FfsFault) →
    MatchResult result (λ _. Unnamed (latest old.lives) (latest new.lives) fs slot) (Stops (StopsUnnaming T fs old new slot)) → Orders T fs (removed_edits (latest old.lives) fs slot None old.next) old new result →
    TakesName T fs d name looked answer old new result
takes_name T lib fs few d name looked answer old new before after slot exact f is result ends order = record {
  answers = removed_does T lib fs few d name slot old new f before after answer is result ends;
  inodes = λ other e.
      subst (λ (s : Slot). Unnames (latest old.lives) (latest new.lives) fs d s.inode × OnErr result (KeptOrEmptied (latest old.lives) (latest new.lives) fs s.inode)) (same_ok slot other (exact ∙ sym e))
      (unnames T lib fs few d name slot old new f after result ends);
  order = λ other e. subst (λ (s : Slot). Orders T fs (removed_edits (latest old.lives) fs s None old.next) old new result) (same_ok slot other (exact ∙ sym e)) order;
}

pub takes_none : (T : Types) (fs d : ℕ) (name : List ℕ) (looked : Result Slot FfsFault) (answer : Answer (Unit {0})) (old : StoreState) (fault : FfsFault) → Err fault ≡ looked → fault_told looked ≡ fault_told answer → (result : Result (Unit {0}) FfsFault) →
    IsErrAnd result (λ other. other ≡ fault) → TakesName T fs d name looked answer old old result
takes_none T fs d name looked answer old fault told is result from = record {
  answers = does_fault T fs looked answer (removed_stages (files_of (latest old.lives) fs) d name) old old result is
      (subst (λ (r : Result Slot FfsFault). Answers r (λ x y. ⊥) (λ x other. ⊥) old old result) told (let p = err_from_is_err_and result from in (p.1 ∙ ap (λ (f : FfsFault). Err f) p.2, refl)));
  inodes = λ slot e. absurd (never slot fault (e ∙ sym told));
  order = λ slot e. absurd (never slot fault (e ∙ sym told));
}
