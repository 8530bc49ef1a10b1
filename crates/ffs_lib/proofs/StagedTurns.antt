-- What a `replace` does is what its function of the files says, or one of its stages.
use Rattle.std.proofs.Common.{◌≡◌, ◌≢◌, ℕ, ◌<◌, ◌≤◌, Bool, true, false, List, [], Result, Ok, Err, refl, sym, ◌∙◌, ap, inl, inr, arith, subst, eq-eqb, Option, IsErrAnd, MatchResult, OnErr, ◌==◌, ◌&&◌, if◌then◌else◌, ne_eqb}
use Rattle.ffs_lib.proofs.Common.{FfsFault, IsConsistent, IsLibrary, Slot, StoreState, Types, direct_in, directory_in, err_from_is_err_and, files_of, inode_in}
use Rattle.ffs_lib.proofs.Common.{inode_links, is_at, is_short, latest}
use Rattle.ffs_lookup.specs.Files.{Answer, Files, replaced, turned, without_link}
use Rattle.ffs_lookup.proofs.ForCallers.{EntryAt, first_value, not_both}
use Rattle.ffs_lib.specs.Replacing.{ReplacedInodes, Turned}
use Rattle.ffs_lib.specs.Stages.{Does, IsRefused, KeptOrEmptied, Stages, cleared_stages, link_stages, replaced_stages, turned_stages}
use Rattle.ffs_lib.specs.Steps.{AddsLink, Stops, StopsAtHome, StopsTaking, StopsUnnaming, TakesLink, Unnamed, Wants, Clearing}
use Rattle.ffs_lib.proofs.Entering.{directory_from}
use Rattle.ffs_lib.proofs.BlocksOnce.{blocks_once}
use Rattle.ffs_lib.proofs.Moving.{same_as}
use Rattle.ffs_lib.proofs.Owners.{direct_block, stands_from, two_blocks}
use Rattle.ffs_lib.proofs.Removal.{FindsEntry}
use Rattle.ffs_lib.proofs.Replaced.{Halfway, after_clear, after_less, after_link, after_turn, cleared_listed, ended, former_same, halted, home_named, nothing_taken, refused, target_named, there1, there2, turned_listed, two_links}
use Rattle.ffs_lib.proofs.ReplaceSteps.{Begins}
use Rattle.ffs_lib.proofs.Replacing.{CanReplace}
use Rattle.ffs_lib.proofs.Staged.{asks_entry, cleared_does, first_stages, link_stage, same_here}
use Rattle.ffs_lib.proofs.ValueReplaced.{by_tests, left, left_then, linked_then, moved_then, named_then, replaced_files, replaced_ok, replaced_stages_ok, same_is}
use Rattle.ffs_lib.proofs.Writing.{file_from}

-- two directories point to no block
pub blocks_apart : (T : Types) (lib : IsLibrary T) (state : StoreState) (h : IsConsistent T state) (fs : ℕ) → fs < 32 → (d e : ℕ) (a b : List ℕ) (i j : ℕ) → Ok a ≡ directory_in (latest state.lives) fs d → Ok b ≡ directory_in (latest state.lives) fs e → i < 12 → j < 12 →
    direct_in a i ≢ 0 → direct_in a i ≡ direct_in b j → d ≡ e
blocks_apart T lib state h fs few d e a b i j is is' low low' some same =
    let v = latest state.lives in
    let s = stands_from v fs d a (directory_from v fs d a is).0 in
    let r = stands_from v fs e b (directory_from v fs e b is').0 in
    (two_blocks T lib state h fs few d e a b s r i j _ (omega (arith, low)) (omega (arith, low')) (direct_block v a i low) (direct_block v b j low' ∙ sym same) some).0

-- `replace`
module _ (T : Types) (lib : IsLibrary T) (state : StoreState) (h : IsConsistent T state) (fs : ℕ) (few : fs < 32) (d : ℕ) (name : List ℕ) (other : ℕ) (other_name : List ℕ) (from to : Slot) (x : CanReplace (latest state.lives) fs d name other other_name from to) where
  abbrev u : ℕ → List ℕ
  u = latest state.lives

  abbrev first : EntryAt u x.home name from
  first = first_value u x.home name from x.first

  abbrev second : EntryAt u x.target other_name to
  second = first_value u x.target other_name to x.second

  -- what its function answers, by two tests
  pub replaced_answer : (same one : Bool) → (from.block == to.block) && (from.place == to.place) ≡ same → (from.inode == to.inode) ≡ one →
      replaced (files_of u fs) d name other other_name ≡ by_tests u fs d name other other_name (first.at, from.inode) (second.at, to.inode) false same one
  replaced_answer same one e f =
      replaced_ok u fs d name other other_name from to x first second
      ∙ (ap (λ s. by_tests u fs d name other other_name (first.at, from.inode) (second.at, to.inode) false s (from.inode == to.inode))
      (sym (same_is u fs d name other other_name from to x first second (blocks_once T lib state h fs few) (λ o a b i j is is' low low' some same. blocks_apart T lib state h fs few d o a b i j is is' low low' some same)) ∙ e)
      ∙ ap (λ o. by_tests u fs d name other other_name (first.at, from.inode) (second.at, to.inode) false same o) f)

  abbrev by_stages : Bool → Bool → Stages
  by_stages same one =
      if same then []
      else if one then cleared_stages (files_of u fs) d (first.at, from.inode)
      else turned_stages (files_of u fs) d (first.at, from.inode) other other_name (second.at, to.inode)

  -- what it does, by the same tests
  pub does_by : (same one : Bool) → (from.block == to.block) && (from.place == to.place) ≡ same → (from.inode == to.inode) ≡ one → (new : StoreState) (result : Result (Unit {0}) FfsFault) →
      Does T fs (by_tests u fs d name other other_name (first.at, from.inode) (second.at, to.inode) false same one) (by_stages same one) state new result →
      Does T fs (replaced (files_of u fs) d name other other_name) (replaced_stages (files_of u fs) d name other other_name) state new result
  does_by same one e f new result does =
      let stages = replaced_stages_ok u fs d name other other_name from to x first second
      ∙ (ap (λ s. by_stages s (from.inode == to.inode))
      (sym (same_is u fs d name other other_name from to x first second (blocks_once T lib state h fs few) (λ o a b i j is is' low low' some same. blocks_apart T lib state h fs few d o a b i j is is' low low' some same)) ∙ e)
      ∙ ap (by_stages same) f) in
      subst (λ (a : Answer (Unit {0})). Does T fs a (replaced_stages (files_of u fs) d name other other_name) state new result) (sym (replaced_answer same one e f))
      (subst (λ (s : Stages). Does T fs (by_tests u fs d name other other_name (first.at, from.inode) (second.at, to.inode) false same one) s state new result) (sym stages) does)

  -- where both entries name one inode, the first is found as `unlink` finds it
  pub finds_first : FindsEntry u fs d name from
  finds_first = record {
    own = x.home;
    is = x.is_home;
    entry = first;
    good = x.good;
    target = x.own;
    at = file_from u fs from.inode x.own x.is_own;
    apart = λ z. not_both u fs from.inode x.home x.own (x.is_home ∙ ap (directory_in u fs) z) x.is_own;
  }

  pub same_does : (from.block == to.block) && (from.place == to.place) ≡ false → from.inode ≡ to.inode → (new : StoreState) → IsConsistent T new → (result : Result (Unit {0}) FfsFault) →
      MatchResult result (λ _. Unnamed u (latest new.lives) fs from) (Stops (StopsUnnaming T fs state new from)) →
      Does T fs (replaced (files_of u fs) d name other other_name) (replaced_stages (files_of u fs) d name other other_name) state new result
  unfolding finds_first
  same_does places one new after result ends = does_by false true places (eq-eqb from.inode to.inode one) new result (cleared_does T lib fs few d name from state new finds_first h after result ends)

-- Where the entries name two files
module _ (T : Types) (fs : ℕ) (array : ℕ → Option ℕ) (old : StoreState) (d : ℕ) (name : List ℕ) (other : ℕ) (other_name : List ℕ) (from to : Slot) (b : Begins T fs array old d name other other_name from to) where
  abbrev lib : IsLibrary T
  lib = b.stage.library

  abbrev h : IsConsistent T old
  h = b.stage.keeps.consistent

  abbrev few : fs < 32
  few = b.stage.few

  abbrev x : CanReplace (latest old.lives) fs d name other other_name from to
  x = b.found

  abbrev apart : from.inode ≢ to.inode
  apart = b.apart

  abbrev places : is_at to from ≡ false
  places = b.places

  abbrev linked : 1 ≤ inode_links x.own
  linked = b.linked

  abbrev n : ℕ
  n = from.inode

  abbrev before : ℕ → List ℕ
  before = latest old.lives

  abbrev files : Files
  files = files_of before fs

  abbrev at_first : EntryAt before x.home name from
  at_first = first T lib old h fs few d name other other_name from to x

  abbrev at_second : EntryAt before x.target other_name to
  at_second = second T lib old h fs few d name other other_name from to x

  abbrev list : Stages
  list = turned_stages files d (at_first.at, n) other other_name (at_second.at, to.inode)

  -- what is left of the inodes
  abbrev pub Inodes : StoreState → Result (Unit {0}) FfsFault → Type 0
  Inodes new result = ReplacedInodes before (latest new.lives) fs d from other to × OnErr result (KeptOrEmptied before (latest new.lives) fs to.inode)

  abbrev pub Outcome : StoreState → Result (Unit {0}) FfsFault → Type 0
  Outcome new result = Does T fs (replaced files d name other other_name) (replaced_stages files d name other other_name) old new result × Inodes new result

  does : (new : StoreState) (result : Result (Unit {0}) FfsFault) → Does T fs (Ok (tt, turned files d name (at_first.at, n) other other_name (at_second.at, to.inode))) list old new result →
      Does T fs (replaced files d name other other_name) (replaced_stages files d name other other_name) old new result
  does new result k = does_by T lib old h fs few d name other other_name from to x false false places (ne_eqb n to.inode apart) new result k

  -- a refusal at one of the stages
  abbrev pub Refused : StoreState → FfsFault → Type 0
  Refused new fault = IsRefused T fs old new fault list × (ReplacedInodes before (latest new.lives) fs d from other to × KeptOrEmptied before (latest new.lives) fs to.inode)

  pub refusal : (new : StoreState) (fault : FfsFault) → is_short fault ≡ true → Refused new fault → (result : Result (Unit {0}) FfsFault) → IsErrAnd result (λ e. e ≡ fault) → Outcome new result
  refusal new fault short k result from_fault =
      let p = err_from_is_err_and result from_fault in
      subst (Outcome new) (sym (p.1 ∙ ap (λ (f : FfsFault). Err f) p.2)) (does new (Err fault) (short, k.0), k.1)

  pub link_refused : (new : StoreState) (fault : FfsFault) → StopsAtHome T fs old new n fault → Refused new fault
  link_refused new fault s =
      let same : old ≡ new = sym s.0 in
      let none : Halfway before before fs d other n = record { inodes = λ e inode i. i; listed = λ e inode i same. same_here before fs e; moved = same_as before before fs n (same_here before fs n); rest = λ e ne ne' far. same_here before fs e } in
      let k = halted before fs d name other other_name from to x apart before none in
      (inl s, subst (λ (y : StoreState). ReplacedInodes before (latest y.lives) fs d from other to × KeptOrEmptied before (latest y.lives) fs to.inode) same k)

  module _ (one : StoreState) (a : AddsLink before (latest one.lives) fs n) where
    abbrev v1 : ℕ → List ℕ
    v1 = latest one.lives

    pub turn_refused : (new : StoreState) (fault : FfsFault) → (new ≡ one) × Wants T one fs to.block fault → Refused new fault
    turn_refused new fault s =
        let k = halted before fs d name other other_name from to x apart v1 (after_link before fs d name other other_name from to x apart v1 a) in (
          inr (inl (
            one,
            linked_then before fs d name other other_name from to x at_first at_second (blocks_once T lib old h fs few) apart v1 a,
            asks_entry T fs other one new x.target to at_second.at (there1 before fs d name other other_name from to x apart v1 a other x.target x.is_target) at_second.is fault s.0 s.1,
          )),
          subst (λ (y : StoreState). ReplacedInodes before (latest y.lives) fs d from other to × KeptOrEmptied before (latest y.lives) fs to.inode) (sym s.0) k,
        )

    module _ (two : StoreState) (t : Turned v1 (latest two.lives) fs to n) where
      abbrev v2 : ℕ → List ℕ
      v2 = latest two.lives

      pub half : Halfway before v2 fs d other n
      half =
          after_turn before fs d name other other_name from to x apart v1 (after_link before fs d name other other_name from to x apart v1 a) v2
          (target_named before fs d name other other_name from to x apart v1 a) t (turned_listed before fs d name other other_name from to x apart v1 a v2 t places)

      half_clear : (m : ℕ → List ℕ) → Clearing v2 m fs from → Halfway before m fs d other n
      half_clear m c = after_clear before fs d name other other_name from to x apart v2 half m (home_named before fs d name other other_name from to x apart v1 a v2 t places) c (cleared_listed before fs d name other other_name from to x apart v1 a v2 t places m c)

      many : (m : ℕ → List ℕ) → Clearing v2 m fs from → (inode : List ℕ) → Ok inode ≡ inode_in m fs n → 1 < inode_links inode
      many m c = two_links before fs d name other other_name from to x apart v1 a m (c.inodes n ∙ t.inodes n) linked

      pub remove_refused : (new : StoreState) → IsConsistent T new → (fault : FfsFault) → StopsUnnaming T fs two new from fault → Refused new fault
      remove_refused new after fault s = elim s [
        | inl p ↦ (
          inr (inr (inl (
            two,
            named_then before fs d name other other_name from to x at_first at_second (blocks_once T lib old h fs few) apart v1 a v2 t places,
            asks_entry T fs d two new x.home from at_first.at (there2 before fs d name other other_name from to x apart v1 a v2 t places d x.home x.is_home) at_first.is fault p.0 p.1,
          ))),
          subst (λ (y : StoreState). ReplacedInodes before (latest y.lives) fs d from other to × KeptOrEmptied before (latest y.lives) fs to.inode) (sym p.0) (halted before fs d name other other_name from to x apart v2 half),
        )
        | inr q ↦
            let m = latest q.0.lives in
            let value = left_then before fs d name other other_name from to x at_first at_second (blocks_once T lib old h fs few) apart v1 a v2 t places m q.1 in
            let none = nothing_taken before fs d name other other_name from to x apart T q.0 new (many m q.1) fault q.2 in (
              inr (inr (inr (first_stages T fs new fault (link_stages leaves n) (link_stages (without_link leaves n) to.inode) (link_stage T lib fs few q.0 new after n leaves value fault q.2)))),
              subst (λ (y : StoreState). ReplacedInodes before (latest y.lives) fs d from other to × KeptOrEmptied before (latest y.lives) fs to.inode) (sym none) (halted before fs d name other other_name from to x apart m (half_clear m q.1)),
            )
      ]
        where
          leaves : Files
          leaves = left before fs d name other other_name from to x at_first at_second (blocks_once T lib old h fs few) apart v1 a

      module _ (three : StoreState) (g : Unnamed v2 (latest three.lives) fs from) where
        abbrev v4 : ℕ → List ℕ
        v4 = latest three.lives

        pub half_taken : Halfway before v4 fs d other n
        half_taken = after_less before fs d name other other_name from to x apart g.middle (half_clear g.middle g.cleared) v4 (many g.middle g.cleared) g.took

        pub take_refused : (new : StoreState) → IsConsistent T new → (fault : FfsFault) → StopsTaking T fs three new to.inode fault → Refused new fault
        take_refused new after fault s =
            let leaves = left before fs d name other other_name from to x at_first at_second (blocks_once T lib old h fs few) apart v1 a in
            let value = moved_then before fs d name other other_name from to x at_first at_second (blocks_once T lib old h fs few) apart v1 a v2 t places v4 g in (
              inr (inr (inr (inr (inr (link_stage T lib fs few three new after to.inode (without_link leaves n) value fault s))))),
              refused before fs d name other other_name from to x apart T lib few three new half_taken after fault s,
            )

        pub all_done : (new : StoreState) → TakesLink v4 (latest new.lives) fs to.inode → Outcome new (Ok tt)
        all_done new k =
            let former = file_from before fs to.inode x.former x.is_former ∙ sym (former_same before fs d name other other_name from to x apart v4 half_taken).0 in
            let value = replaced_files before fs d name other other_name from to x at_first at_second (blocks_once T lib old h fs few) apart v1 a v2 t places v4 g linked (latest new.lives) former k in
            (does new (Ok tt) (refl, λ i. ap (λ (y : Files). y i) value), (ended before fs d name other other_name from to x apart v4 half_taken (latest new.lives) k, tt))
