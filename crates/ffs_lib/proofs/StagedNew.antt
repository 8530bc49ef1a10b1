-- What `create` and `mkdir` leave where they are refused is one of their stages.
use Rattle.std.proofs.Common.{◌≡◌, ◌≢◌, ℕ, ◌∷◌, [], ◌-◌, ◌/◌, ◌%◌, ◌<◌, Bool, true, false, List, Result, Ok, Err, refl, sym, ◌∙◌, ap, inl, inr, arith, subst, ◌==◌, ◌||◌, nat_lt, OnErr, Some}
use Rattle.ffs_lib.proofs.Common.{Answer, AreBlocksOnce, FfsFault, Files, InodeValue, IsConsistent, IsLibrary, NoEntry, StoreState, Types, and_then}
use Rattle.ffs_lib.proofs.Common.{blocks_value, create_in, created, directory_in, entry_of, fault_told, files_of, inode_at, inode_in, inode_value, is_absent}
use Rattle.ffs_lib.proofs.Common.{latest, made_at, place_in, room, value_in, with_block, with_value}
use Rattle.ffs_lookup.specs.declared.places.Free.{Free}
use Rattle.ffs_lookup.proofs.ForCallers.{block_again, created_ok, created_told, good_number, has_root, same_ok, value_by_place, value_found, value_outside}
use Rattle.ffs_lib.specs.Results.{IsExtended, IsLowestNumber, MadeEntry, SameOrNew, new_inode}
use Rattle.ffs_lib.specs.Stages.{Does, ForEntry, IsRefused, IsStage, Makes, OfInode, OnlyMade, created_stages, made_stages, stages_of}
use Rattle.ffs_lib.specs.Steps.{Answers, Creates, MadeInode, StopsMaking, StopsNew, TakesFree}
use Rattle.ffs_lib.specs.Values.{Leads}
use Rattle.ffs_lib.proofs.Tests.{never, true_false}
use Rattle.ffs_lib.proofs.Entering.{directory_from, free_none}
use Rattle.ffs_lib.proofs.BlocksOnce.{blocks_once}
use Rattle.ffs_lib.proofs.Laws.{home_of}
use Rattle.ffs_lib.proofs.Owners.{number_from, stands_from}
use Rattle.ffs_lib.proofs.Same.{as_same, new_on, same_on}
use Rattle.ffs_lib.proofs.ValueMade.{create_found, created_leads, pointer_kept, pointer_new}
use Rattle.ffs_lib.proofs.ValueSame.{absent_is, block_apart, block_here_free, no_block, stays_value, together}
use Rattle.ffs_lib.proofs.ValueSteps.{files_equal, value_at}

-- the number that would be answered
number_is : (u : ℕ → List ℕ) (fs d : ℕ) (name : List ℕ) (value : InodeValue) (inode : List ℕ) → Ok inode ≡ create_in u fs d name → (next : ℕ × Files) → Ok next ≡ created value (files_of u fs) d name → (n : ℕ) → IsLowestNumber u fs n → n ≡ next.0
number_is u fs d name value inode found next a n low =
    let own = create_found u fs d name inode found in
    let r = has_root u fs d own.0 own.1 in
    let k = created_ok u fs value d name own.0 r.0 n own.1 (ap fault_told found) r.1 (low r.0 r.1) in
    sym (ap (λ (p : ℕ × Files). p.0) (same_ok next (made_at value (files_of u fs) d name n k.0) (a ∙ k.2)))

-- a free inode was found, or a block of them added
module _ (old middle : StoreState) (fs : ℕ) (free : Free) (t : TakesFree old middle fs free) where
  abbrev v : ℕ → List ℕ
  v = latest old.lives

  abbrev m : ℕ → List ℕ
  m = latest middle.lives

  abbrev n : ℕ
  n = free.number

  right : (n == 0) || nat_lt 128 n ≡ false
  right = let is = t.is in good_number n is.stands.some is.low

  present : is_absent (files_of m fs n) ≡ false
  present = absent_is m fs n right ∙ ap no_block (sym (home_of middle fs n free.block free.place t.is.stands))

  with_block_at : (x : ℕ) → files_of m fs x ≡ with_block (files_of v fs) n x
  with_block_at x = go ((x == 0) || nat_lt 128 x) refl
    where
      go : (b : Bool) → ((x == 0) || nat_lt 128 x) ≡ b → files_of m fs x ≡ with_block (files_of v fs) n x
      go true e =
          value_outside m fs x e ∙ (sym (value_outside v fs x e)
          ∙ sym (block_apart v fs n x right (λ a same b some. let low = t.is.low in true_false ((x == 0) || nat_lt 128 x) e (good_number x some (omega (arith, same, low))))))
      go false e =
          let r = number_from x e in
          let o = t.stays x in
          elim (o.2 r.0 r.1) [
            | inl p ↦
                let same = stays_value v m fs x (λ some low. p) o.1 in
                same ∙ sym (block_apart v fs n x right (λ a joint b some. true_false (is_absent (files_of m fs x)) (ap is_absent same ∙ a) (together m fs x n e right joint ∙ present)))
            | inr k ↦
                value_by_place m fs x e ∙ (ap (value_in m) k.free
                ∙ sym (block_here_free v fs n x (sym (together v fs x n e right k.together) ∙ ap is_absent (value_by_place v fs x e ∙ ap (value_in v) k.absent)) r.0 k.together))
          ]

  pub block_value : files_of m fs ≡ with_block (files_of v fs) n
  block_value = files_equal with_block_at

-- then an inode was made
pub made_inode_value : (v w : ℕ → List ℕ) (fs mode n : ℕ) (value : InodeValue) → inode_value w (new_inode mode) ≡ value → MadeInode v w fs mode n → files_of w fs ≡ with_value (files_of v fs) n value
made_inode_value v w fs mode n value is k = value_at v w fs n value (value_found w fs n (new_inode mode) (sym k.made) ∙ is) k.others

module _ (T : Types) (lib : IsLibrary T) (fs : ℕ) (few : fs < 32) (d : ℕ) (name : List ℕ) (mode : ℕ) (value : InodeValue) (is : (content : ℕ → List ℕ) → inode_value content (new_inode mode) ≡ value) (old new : StoreState) where
  abbrev u : ℕ → List ℕ
  u = latest old.lives

  abbrev files : Files
  files = files_of u fs

  new_stage : (fault : FfsFault) (middle : StoreState) (free : Free) → TakesFree old middle fs free → StopsNew T fs middle new d name mode free.number fault →
      IsStage T fs new fault ((with_block files free.number, OfInode free.number) ∷ (with_value (with_block files free.number) free.number value, ForEntry d (entry_of free.number name)) ∷ [])
  new_stage fault middle free t s =
      let block = block_value old middle fs free t in
      elim s [
        | inl home ↦ inl (middle, block, home)
        | inr q ↦
            let made = made_inode_value (latest middle.lives) (latest q.0.lives) fs mode free.number value (is (latest q.0.lives)) q.1 in
            inr (inl (q.0, made ∙ ap (λ (f : Files). with_value f free.number value) block, q.2))
      ]

  abbrev w : ℕ → List ℕ
  w = latest new.lives

  module _ (inode : List ℕ) (found : Ok inode ≡ create_in u fs d name) where
    refused : (next : ℕ × Files) → Ok next ≡ created value files d name → (fault : FfsFault) → StopsMaking T fs old new d name mode fault → IsRefused T fs old new fault (made_stages value files d name next.0)
    refused next a fault s = elim s [
      | inl growing ↦ inl growing
      | inr q ↦
          let one : q.1.number ≡ next.0 = number_is u fs d name value inode found next a q.1.number q.2.lowest in
          inr (subst (λ (n : ℕ). IsStage T fs new fault ((with_block files n, OfInode n) ∷ (with_value (with_block files n) n value, ForEntry d (entry_of n name)) ∷ [])) one (new_stage fault q.0 q.1 q.2 q.3))
    ]

  by_looked : IsConsistent T new → (looked : Result (List ℕ) FfsFault) → looked ≡ create_in u fs d name → (answer : Answer ℕ) → answer ≡ created value files d name → (result : Result ℕ FfsFault) →
      Answers looked (λ _ n. MadeEntry u w fs d name mode n × IsLowestNumber u fs n) (λ _ fault. StopsMaking T fs old new d name mode fault) old new result →
      Does T fs answer (stages_of answer (λ next. made_stages value files d name next.0)) old new result
  by_looked after (Err fault) l (Err other) a result h =
      let same : fault ≡ other = cc (ap fault_told l ∙ (created_told u fs value d name ∙ sym (ap fault_told a))) in
      (h.0 ∙ ap (λ (f : FfsFault). Err f) same, h.1)
  by_looked after (Err fault) l (Ok next) a result h = absurd (cc (ap fault_told l ∙ (created_told u fs value d name ∙ sym (ap fault_told a))))
  by_looked after (Ok inode) l (Err other) a result h = absurd (cc (ap fault_told l ∙ (created_told u fs value d name ∙ sym (ap fault_told a))))
  by_looked after (Ok inode) l (Ok next) a (Ok n) h =
      subst (λ (r : Answer ℕ). Leads r w fs n) (sym a) (created_leads u w fs d n mode name inode l h.0 h.1 (blocks_once T lib new after fs few) value (is w))
  by_looked after (Ok inode) l (Ok next) a (Err fault) h = (h.0, refused inode l next a fault h.1)

  pub created_does : IsConsistent T new → (result : Result ℕ FfsFault) → Creates T fs d name mode old new result → Does T fs (created value files d name) (created_stages value files d name) old new result
  created_does after result answers = by_looked after (create_in u fs d name) refl (created value files d name) refl result answers

-- What the files don't say of the inodes

place_used : (w : ℕ → List ℕ) (fs n : ℕ) (inode : List ℕ) → Ok inode ≡ inode_in w fs n → place_in w fs n ≡ Ok inode
place_used w fs n inode e =
    let s = stands_from w fs n inode e in
    ap (λ (r : Result ℕ FfsFault). and_then r (λ b. Ok (inode_at (w b) ((n - 1) % 8)))) (sym (block_again w fs ((n - 1) / 8) s.block s.inodes)) ∙ ap (λ (x : List ℕ). Ok x) (sym s.bytes)

module _ (u w : ℕ → List ℕ) (fs d mode n : ℕ) where
  same_directory : SameOrNew u w fs n d → (inode after : List ℕ) → Ok inode ≡ directory_in u fs d → Ok after ≡ directory_in w fs d → IsExtended inode after
  same_directory s inode after was is =
      let same : inode ≡ after = same_ok inode after ((directory_from u fs d inode was).0 ∙ (sym s.0 ∙ sym (directory_from w fs d after is).0)) in
      subst (IsExtended inode) same (λ i lt some. refl, inl (refl, refl))

  all_same : ((x : ℕ) → SameOrNew u w fs n x) → Makes u w fs d mode n
  all_same same = record { made = inr (same n); directory = same_directory (same d); others = λ x ne ne'. same x }

  made_apart : inode_in u fs n ≡ Err NoEntry → place_in w fs n ≡ Ok (new_inode mode) → ((x : ℕ) → x ≢ n → SameOrNew u w fs n x) → Makes u w fs d mode n
  made_apart free made same = record {
    made = inl made;
    directory = λ inode after was is. same_directory (same d (λ e. never inode NoEntry ((directory_from u fs d inode was).0 ∙ (ap (inode_in u fs) e ∙ free)))) inode after was is;
    others = λ x ne ne'. same x ne';
  }

module _ (T : Types) (fs d : ℕ) (name : List ℕ) (mode : ℕ) (old new : StoreState) (once : AreBlocksOnce (latest new.lives) fs) where
  abbrev u2 : ℕ → List ℕ
  u2 = latest old.lives

  abbrev w2 : ℕ → List ℕ
  w2 = latest new.lives

  entry_makes : (n : ℕ) (inode : List ℕ) → Ok inode ≡ directory_in u2 fs d → (at : ℕ × ℕ) → Some at ≡ room (blocks_value u2 inode) → MadeEntry u2 w2 fs d name mode n → Makes u2 w2 fs d mode n
  entry_makes n inode dir at room_at k = record {
    made = inl (place_used w2 fs n (new_inode mode) (sym k.made));
    directory = λ other after was is.
        let more = k.entry other was in
        let one : inode ≡ other = same_ok inode other (dir ∙ sym was) in
        let place : Some at ≡ room (blocks_value u2 other) = room_at ∙ ap (λ (m : List ℕ). room (blocks_value u2 m)) one in
        subst (IsExtended other) (same_ok more.after after (more.directory ∙ sym is)) (
          pointer_kept u2 w2 fs d n name other more (once d more.after more.directory) at place,
          elim more.placed [
            | inl p ↦ inl (p.1, p.2)
            | inr p ↦ inr (pointer_new u2 w2 fs d n name other more (once d more.after more.directory) at place p.0 p.1 p.3, p.4)
          ],
        );
    others = k.others;
  }

  new_stays : (fault : FfsFault) (middle : StoreState) (free : Free) → TakesFree old middle fs free → StopsNew T fs middle new d name mode free.number fault → OnlyMade u2 w2 fs free.number
  new_stays fault middle free t s =
      let n = free.number in
      let m = latest middle.lives in
      elim s [
        | inl home ↦ λ x ne. subst (λ (y : StoreState). SameOrNew u2 (latest y.lives) fs n x) (sym home.0) (t.stays x)
        | inr q ↦ λ x ne. new_on u2 m w2 fs n x (t.stays x) (as_same m w2 fs n x (same_on m (latest q.0.lives) w2 fs x (q.1.others x ne) (q.2.same x)))
      ]

  new_makes : (fault : FfsFault) (middle : StoreState) (free : Free) → TakesFree old middle fs free → StopsNew T fs middle new d name mode free.number fault → Makes u2 w2 fs d mode free.number
  new_makes fault middle free t s =
      let n = free.number in
      elim s [
        | inl home ↦ all_same u2 w2 fs d mode n (λ x. subst (λ (y : StoreState). SameOrNew u2 (latest y.lives) fs n x) (sym home.0) (t.stays x))
        | inr q ↦
            made_apart u2 w2 fs d mode n (sym (t.stays n).0 ∙ free_none middle fs free t.is) (place_used w2 fs n (new_inode mode) (sym q.1.made ∙ sym (q.2.same n).0)) (new_stays fault middle free t (inr q))
      ]

  pub created_makes : (value : InodeValue) (next : ℕ × Files) → created value (files_of u2 fs) d name ≡ Ok next → (result : Result ℕ FfsFault) → Creates T fs d name mode old new result → Makes u2 w2 fs d mode next.0
  created_makes value next e result answers = go (create_in u2 fs d name) refl result answers
    where
      go : (looked : Result (List ℕ) FfsFault) → looked ≡ create_in u2 fs d name → (r : Result ℕ FfsFault) →
          Answers looked (λ _ n. MadeEntry u2 w2 fs d name mode n × IsLowestNumber u2 fs n) (λ _ fault. StopsMaking T fs old new d name mode fault) old new r → Makes u2 w2 fs d mode next.0
      go (Err fault) l r h = absurd (cc (ap fault_told l ∙ (created_told u2 fs value d name ∙ ap fault_told e)))
      go (Ok inode) l (Ok n) h =
          let own = create_found u2 fs d name inode l in
          let root = has_root u2 fs d own.0 own.1 in
          let k = created_ok u2 fs value d name own.0 root.0 n own.1 (ap fault_told l) root.1 (h.1 root.0 root.1) in
          subst (Makes u2 w2 fs d mode) (number_is u2 fs d name value inode l next (sym e) n h.1) (entry_makes n own.0 own.1 k.0 k.1 h.0)
      go (Ok inode) l (Err fault) h = elim h.1 [
        | inl growing ↦ all_same u2 w2 fs d mode next.0 (λ x. as_same u2 w2 fs next.0 x (growing.same x))
        | inr q ↦ subst (Makes u2 w2 fs d mode) (number_is u2 fs d name value inode l next (sym e) q.1.number q.2.lowest) (new_makes fault q.0 q.1 q.2 q.3)
      ]

  -- where that is refused the directory is as before too
  refused_stays : (value : InodeValue) (next : ℕ × Files) → created value (files_of u2 fs) d name ≡ Ok next → (fault : FfsFault) → Creates T fs d name mode old new (Err fault) → OnlyMade u2 w2 fs next.0
  refused_stays value next e fault answers = go (create_in u2 fs d name) refl answers
    where
      go : (looked : Result (List ℕ) FfsFault) → looked ≡ create_in u2 fs d name →
          Answers looked (λ _ n. MadeEntry u2 w2 fs d name mode n × IsLowestNumber u2 fs n) (λ _ fault. StopsMaking T fs old new d name mode fault) old new (Err fault) → OnlyMade u2 w2 fs next.0
      go (Err other) l h = absurd (cc (ap fault_told l ∙ (created_told u2 fs value d name ∙ ap fault_told e)))
      go (Ok inode) l h = elim h.1 [
        | inl growing ↦ λ x ne. as_same u2 w2 fs next.0 x (growing.same x)
        | inr q ↦ subst (OnlyMade u2 w2 fs) (number_is u2 fs d name value inode l next (sym e) q.1.number q.2.lowest) (new_stays fault q.0 q.1 q.2 q.3)
      ]

  pub created_stays : (value : InodeValue) (next : ℕ × Files) → created value (files_of u2 fs) d name ≡ Ok next → (result : Result ℕ FfsFault) → Creates T fs d name mode old new result → OnErr result (OnlyMade u2 w2 fs next.0)
  created_stays value next e (Ok n) answers = tt
  created_stays value next e (Err fault) answers = refused_stays value next e fault answers
