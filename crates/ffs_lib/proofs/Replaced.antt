-- What is left of two files after each edit by which the name of one goes to the other.
use Rattle.std.proofs.Common.{◌≡◌, ◌≢◌, ℕ, ◌<◌, ◌≤◌, Bool, true, false, List, map, Option, Some, None, Result, Ok, refl, sym, ◌∙◌, ap, inl, inr, arith, subst, eq-eqb, Contains, OnErr, bytes_eq, find, option_map, ◌==◌, ◌&&◌, if◌then◌else◌, eqb-true}
use Rattle.ffs_lib.proofs.Common.{FfsFault, IsConsistent, IsLibrary, IsSlot, Slot, StoreState, Types, and_parts, cases_eq, directory_in, file_in, inode_blocks}
use Rattle.ffs_lib.proofs.Common.{inode_in, inode_links, is_at, latest, library_layout, listing, named_in, none-some, same_Some, slots_of}
use Rattle.ffs_lookup.proofs.ForCallers.{EntryAt, direct_has, first_value, not_both, same_ok}
use Rattle.ffs_lib.specs.Replacing.{AreDirect, Replaced, ReplacedInodes, Turned, pair_of, turned_entry}
use Rattle.ffs_lib.specs.Results.{AsBefore, OnlyChanges, SameInode}
use Rattle.ffs_lib.specs.Stages.{KeptOrEmptied, Unnames}
use Rattle.ffs_lib.specs.Steps.{AddsLink, Clearing, StopsTaking, TakesLink}
use Rattle.ffs_lib.proofs.Tests.{true_false}
use Rattle.ffs_lib.proofs.Alone.{are_apart}
use Rattle.ffs_lib.proofs.Entering.{directory_from, directory_same}
use Rattle.ffs_lib.proofs.Firsts.{find_listed, named_among}
use Rattle.ffs_lib.proofs.Laws.{less_of, took_on}
use Rattle.ffs_lib.proofs.Moving.{as_on, named_block, same_as}
use Rattle.ffs_lib.proofs.PairLaws.{direct_of}
use Rattle.ffs_lib.proofs.Replacing.{CanReplace}
use Rattle.ffs_lib.proofs.Same.{same_on}
use Rattle.ffs_lib.proofs.Staged.{taking_as, taking_kept}
use Rattle.ffs_lib.proofs.StillNamed.{named_to}
use Rattle.ffs_lib.proofs.TurnLaws.{slot_names}
use Rattle.ffs_lib.proofs.ValueLists.{both_true, find_map, naming, place_listed, there_in, there_turned, there_without}
use Rattle.ffs_lib.proofs.Writing.{file_from}

-- Entries that name two inodes stand at two places.

pub same_place : (state : StoreState) (fs : ℕ) (from to : Slot) → IsSlot state fs from → IsSlot state fs to → from.block ≡ to.block → from.place ≡ to.place → from.inode ≡ to.inode
same_place state fs from to a b e f =
    sym (slot_names state fs from a)
    ∙ (ap (λ c. library_layout.entry (latest state.lives c) from.place) e ∙ (ap (library_layout.entry (latest state.lives to.block)) f ∙ slot_names state fs to b))

pub slots_apart : (state : StoreState) (fs : ℕ) (from to : Slot) → IsSlot state fs from → IsSlot state fs to → from.inode ≢ to.inode → is_at to from ≡ false
slots_apart state fs from to a b ne = are_apart to from (λ e f. ne (same_place state fs from to a b e f))

-- The cases of the call

pub other_place : (from to : Slot) → (from.block == to.block) && (from.place == to.place) ≡ false → from ≢ to
other_place from to e z = not_itself (ap (λ (s : Slot). (s.block == to.block) && (s.place == to.place)) (sym z) ∙ e)
  where
    not_itself : (to.block == to.block) && (to.place == to.place) ≡ false → ⊥
    not_itself f = true_false _ (ap (λ t. t && (to.place == to.place)) (eq-eqb to.block to.block refl) ∙ eq-eqb to.place to.place refl) f

pub at_one_place : (state : StoreState) (fs : ℕ) (from to : Slot) → IsSlot state fs from → IsSlot state fs to → (from.block == to.block) && (from.place == to.place) ≡ true → from.inode ≡ to.inode
at_one_place state fs from to a b e =
    let p = and_parts (from.block == to.block) (from.place == to.place) e in
    same_place state fs from to a b (eqb-true from.block to.block p.0) (eqb-true from.place to.place p.1)

pub one_slot : (state : StoreState) (fs : ℕ) (from to : Slot) → IsSlot state fs from → IsSlot state fs to → (from.block == to.block) && (from.place == to.place) ≡ true → from ≡ to
one_slot state fs from to a b e =
    let p = and_parts (from.block == to.block) (from.place == to.place) e in
    let block = eqb-true from.block to.block p.0 in
    let place = eqb-true from.place to.place p.1 in
    let inode = same_place state fs from to a b block place in
    λ i. record { block = block i; place = place i; inode = inode i }

pub itself_done : (state : StoreState) (fs d other : ℕ) (from to : Slot) → IsSlot state fs from → IsSlot state fs to → (from.block == to.block) && (from.place == to.place) ≡ true → Replaced state state fs d from other to (Ok tt)
itself_done state fs d other from to a b e =
    let one = one_slot state fs from to a b e in
    record { itself = λ z. refl; same = λ ne. absurd (ne one); another = λ ne. absurd (ne (ap (λ (s : Slot). s.inode) one)) }

pub same_done : (old new : StoreState) (fs d other : ℕ) (from to : Slot) (result : Result (Unit {0}) FfsFault) → from ≢ to → from.inode ≡ to.inode →
    Unnames (latest old.lives) (latest new.lives) fs d from.inode × OnErr result (KeptOrEmptied (latest old.lives) (latest new.lives) fs from.inode) → Replaced old new fs d from other to result
same_done old new fs d other from to result apart one r = record { itself = λ z. absurd (apart z); same = λ ne e. r; another = λ ne. absurd (ne one) }

pub another_done : (old new : StoreState) (fs d other : ℕ) (from to : Slot) (result : Result (Unit {0}) FfsFault) → from.inode ≢ to.inode →
    ReplacedInodes (latest old.lives) (latest new.lives) fs d from other to × OnErr result (KeptOrEmptied (latest old.lives) (latest new.lives) fs to.inode) → Replaced old new fs d from other to result
another_done old new fs d other from to result apart r = record { itself = λ z. absurd (apart (ap (λ (s : Slot). s.inode) z)); same = λ ne e. absurd (apart e); another = λ ne. r }

-- The first entry with a name, where another one was turned

module _ (entry : Slot) (n : ℕ) where
  pub same_name : (p : Slot × List ℕ) → (turned_entry entry n p).1 ≡ p.1
  same_name p = go (is_at entry p.0)
    where
      go : (t : Bool) → (if t then (record p.0 { inode = n }, p.1) else p).1 ≡ p.1
      go true = refl
      go false = refl

  still_first : (slot : Slot) (name : List ℕ) (xs : List (Slot × List ℕ)) → is_at entry slot ≡ false → Some slot ≡ named_among name xs → Some slot ≡ named_among name (map (turned_entry entry n) xs)
  still_first slot name xs apart e = go (find test xs) e ∙ ap (option_map (λ (p : Slot × List ℕ). p.0)) (sym (find_map test (turned_entry entry n) (λ p. ap (λ m. bytes_eq m name) (same_name p)) xs))
    where
      test : Slot × List ℕ → Bool
      test p = bytes_eq p.1 name

      go : (o : Option (Slot × List ℕ)) → Some slot ≡ option_map (λ (p : Slot × List ℕ). p.0) o → Some slot ≡ option_map (λ (p : Slot × List ℕ). p.0) (option_map (turned_entry entry n) o)
      go None f = f
      go (Some p) f =
          let is : slot ≡ p.0 = same_Some slot p.0 f in
          let other : is_at entry p.0 ≡ false = ap (is_at entry) (sym is) ∙ apart in
          f ∙ ap (λ (t : Bool). Some (if t then (record p.0 { inode = n }, p.1) else p).0) (sym other)

-- what stands where an entry was found
stood_there : (u : ℕ → List ℕ) (inode name : List ℕ) (slot : Slot) → EntryAt u inode name slot → there_in slot.block slot.place (listing u inode) ≡ Some (name, slot.inode)
stood_there u inode name slot entry =
    let k = entry.is in
    sym (place_listed slot.block slot.place u (omega (arith, k.few, k.place)) inode (direct_has inode entry.at.0 slot.block k.low k.block k.there)) ∙ entry.stands

itself_true : (slot : Slot) → (slot.block == slot.block) && (slot.place == slot.place) ≡ true
itself_true slot = both_true (slot.block == slot.block) (slot.place == slot.place) (eq-eqb slot.block slot.block refl) (eq-eqb slot.place slot.place refl)

-- All inodes but two directories and one that is as before but for its links are as before, and so is a directory with the entries that it had.
pub record Halfway (u v : ℕ → List ℕ) (fs d other n : ℕ) : Type 0 where
  pub inodes : (e : ℕ) (inode : List ℕ) → Ok inode ≡ directory_in u fs e → Ok inode ≡ directory_in v fs e
  pub listed : (e : ℕ) (inode : List ℕ) → Ok inode ≡ directory_in u fs e → listing v inode ≡ listing u inode → SameInode u v fs e
  pub moved : AsBefore u v fs n
  pub rest : (e : ℕ) → e ≢ d → e ≢ other → e ≢ n → SameInode u v fs e

-- The edits

module _ (u : ℕ → List ℕ) (fs d : ℕ) (name : List ℕ) (other : ℕ) (other_name : List ℕ) (from to : Slot) (x : CanReplace u fs d name other other_name from to) (apart : from.inode ≢ to.inode) where
  abbrev n : ℕ
  n = from.inode

  -- a directory is no file
  not_moved : (e : ℕ) (inode : List ℕ) → Ok inode ≡ directory_in u fs e → e ≢ n
  not_moved e inode i z = not_both u fs n inode x.own (i ∙ ap (directory_in u fs) z) x.is_own

  not_former : (e : ℕ) (inode : List ℕ) → Ok inode ≡ directory_in u fs e → e ≢ to.inode
  not_former e inode i z = not_both u fs to.inode inode x.former (i ∙ ap (directory_in u fs) z) x.is_former

  pub is_moved : Ok x.own ≡ inode_in u fs n
  is_moved = file_from u fs n x.own x.is_own

  -- blocks of both directories
  home_has : Contains (inode_blocks x.home) from.block
  home_has =
      let b = named_block u fs d name from (named_to u fs d name x.home from x.is_home x.good x.first) in
      subst (λ (i : List ℕ). Contains (inode_blocks i) from.block) (same_ok b.0 x.home (b.1 ∙ sym (directory_from u fs d x.home x.is_home).0)) b.2

  target_has : Contains (inode_blocks x.target) to.block
  target_has =
      let b = named_block u fs other other_name to (named_to u fs other other_name x.target to x.is_target x.other_good x.second) in
      subst (λ (i : List ℕ). Contains (inode_blocks i) to.block) (same_ok b.0 x.target (b.1 ∙ sym (directory_from u fs other x.target x.is_target).0)) b.2

  pub direct_in_both : (v : ℕ → List ℕ) → ((e : ℕ) (inode : List ℕ) → Ok inode ≡ directory_in u fs e → Ok inode ≡ directory_in v fs e) → AreDirect v fs (pair_of from to)
  direct_in_both v there = record { from = direct_of v fs d x.home from.block (there d x.home x.is_home) home_has; to = direct_of v fs other x.target to.block (there other x.target x.is_target) target_has }

  pub direct_before : AreDirect u fs (pair_of from to)
  direct_before = direct_in_both u (λ e inode i. i)

  module _ (v1 : ℕ → List ℕ) (l : AddsLink u v1 fs n) where
    same1 : (e : ℕ) (inode : List ℕ) → Ok inode ≡ directory_in u fs e → SameInode u v1 fs e
    same1 e inode i = l.others e (not_moved e inode i)

    pub there1 : (e : ℕ) (inode : List ℕ) → Ok inode ≡ directory_in u fs e → Ok inode ≡ directory_in v1 fs e
    there1 e inode i = i ∙ sym (directory_same u v1 fs e (same1 e inode i).0)

    pub listing1 : (e : ℕ) (inode : List ℕ) → Ok inode ≡ directory_in u fs e → listing v1 inode ≡ listing u inode
    listing1 e inode i = ((same1 e inode i).1 inode (directory_from u fs e inode i).0).0

    -- the second entry is still the first with its name
    pub target_named : Ok to ≡ named_in v1 fs other other_name
    target_named = named_to v1 fs other other_name x.target to (there1 other x.target x.is_target) x.other_good
        (x.second ∙ (find_listed u other_name (slots_of u x.target) ∙ (ap (named_among other_name) (sym (listing1 other x.target x.is_target)) ∙ sym (find_listed v1 other_name (slots_of v1 x.target)))))

    module _ (v2 : ℕ → List ℕ) (t : Turned v1 v2 fs to n) (places : is_at to from ≡ false) where
      pub there2 : (e : ℕ) (inode : List ℕ) → Ok inode ≡ directory_in u fs e → Ok inode ≡ directory_in v2 fs e
      there2 e inode i = there1 e inode i ∙ sym (directory_same v1 v2 fs e (t.inodes e))

      listing2 : (e : ℕ) (inode : List ℕ) → Ok inode ≡ directory_in u fs e → listing v2 inode ≡ map (turned_entry to n) (listing u inode)
      listing2 e inode i = t.entries inode ∙ ap (map (turned_entry to n)) (listing1 e inode i)

      -- so is the first entry
      pub home_named : Ok from ≡ named_in v2 fs d name
      home_named = named_to v2 fs d name x.home from (there2 d x.home x.is_home) x.good
          (still_first to n from name (listing u x.home) places (x.first ∙ find_listed u name (slots_of u x.home)) ∙ (ap (named_among name) (sym (listing2 d x.home x.is_home)) ∙ sym (find_listed v2 name (slots_of v2 x.home))))

      -- and neither directory has the entries that it had
      pub turned_listed : listing v2 x.target ≡ listing u x.target → ⊥
      turned_listed same =
          let stood = stood_there u x.target other_name to (first_value u x.target other_name to x.second) in
          let all = listing u x.target in
          let now : Some (other_name, to.inode) ≡ Some (other_name, n) =
          sym stood ∙ (ap (there_in to.block to.place) (sym same ∙ listing2 other x.target x.is_target) ∙ (there_turned to n to.block to.place all
          ∙ (ap (λ (b : Bool). if b then option_map (naming n) (there_in to.block to.place all) else there_in to.block to.place all) (itself_true to) ∙ ap (option_map (naming n)) stood))) in
          apart (sym (ap (λ (e : List ℕ × ℕ). e.1) (same_Some (other_name, to.inode) (other_name, n) now)))

      pub cleared_listed : (m : ℕ → List ℕ) → Clearing v2 m fs from → listing m x.home ≡ listing u x.home → ⊥
      cleared_listed m c same =
          let all = listing v2 x.home in
          none-some (name, n)
          (sym (there_without from from.block from.place all ∙ ap (λ (b : Bool). if b then None else there_in from.block from.place all) (itself_true from))
          ∙ (ap (there_in from.block from.place) (sym (c.entries x.home) ∙ same) ∙ stood_there u x.home name from (first_value u x.home name from x.first)))

  -- What stands of both files after each edit

  no_directory : (e x : ℕ) (inode own : List ℕ) → Ok inode ≡ directory_in u fs e → Ok own ≡ file_in u fs x → x ≢ e
  no_directory e x inode own i o z = not_both u fs x inode own (i ∙ ap (directory_in u fs) (sym z)) o

  module _ (v : ℕ → List ℕ) (k : Halfway u v fs d other n) where
    pub former_same : SameInode u v fs to.inode
    former_same = k.rest to.inode (no_directory d to.inode x.home x.former x.is_home x.is_former) (no_directory other to.inode x.target x.former x.is_target x.is_former) (λ z. apart (sym z))

    -- a directory that did not change
    listed_on : (w : ℕ → List ℕ) (e : ℕ) (inode : List ℕ) → Ok inode ≡ directory_in u fs e → SameInode v w fs e → listing w inode ≡ listing u inode → SameInode u w fs e
    listed_on w e inode i s same = same_on u v w fs e (k.listed e inode i (sym (s.1 inode (directory_from v fs e inode (k.inodes e inode i)).0).0 ∙ same)) s

    -- an edit of an entry
    on_entry : (w : ℕ → List ℕ) (a : ℕ) (own : List ℕ) → Ok own ≡ directory_in u fs a → ((e : ℕ) → inode_in w fs e ≡ inode_in v fs e) → OnlyChanges v w fs a → ((e : ℕ) → e ≢ d → e ≢ other → e ≢ a) → (listing w own ≡ listing u own → ⊥) → Halfway u w fs d other n
    on_entry w a own at same others away changed = record {
      inodes = λ e inode i. k.inodes e inode i ∙ sym (directory_same v w fs e (same e));
      listed = λ e inode i now. elim (cases_eq e a) [
        | inl is ↦
            let one : inode ≡ own = same_ok inode own (i ∙ (ap (directory_in u fs) is ∙ sym at)) in
            absurd (changed (subst (λ (m : List ℕ). listing w m ≡ listing u m) one now))
        | inr ne ↦ listed_on w e inode i (others e ne) now
      ];
      moved = as_on u v w fs n k.moved (same_as v w fs n (others n (λ z. not_moved a own at (sym z))));
      rest = λ e ne ne' far. same_on u v w fs e (k.rest e ne ne' far) (others e (away e ne ne'));
    }

    pub after_turn : (w : ℕ → List ℕ) → Ok to ≡ named_in v fs other other_name → Turned v w fs to n → (listing w x.target ≡ listing u x.target → ⊥) → Halfway u w fs d other n
    after_turn w named t changed = let b = named_block v fs other other_name to named in on_entry w other x.target x.is_target t.inodes (t.others other b.0 b.1 b.2) (λ e ne ne'. ne') changed

    pub after_clear : (w : ℕ → List ℕ) → Ok from ≡ named_in v fs d name → Clearing v w fs from → (listing w x.home ≡ listing u x.home → ⊥) → Halfway u w fs d other n
    after_clear w named c changed = let b = named_block v fs d name from named in on_entry w d x.home x.is_home c.inodes (c.others d b.0 b.1 b.2) (λ e ne ne'. ne) changed

    -- a link of the moved file is taken, which had two at least
    pub after_less : (w : ℕ → List ℕ) → ((inode : List ℕ) → Ok inode ≡ inode_in v fs n → 1 < inode_links inode) → TakesLink v w fs n → Halfway u w fs d other n
    after_less w many t = record {
      inodes = λ e inode i. k.inodes e inode i ∙ sym (directory_same v w fs e (t.others e (not_moved e inode i)).0);
      listed = λ e inode i. listed_on w e inode i (t.others e (not_moved e inode i));
      moved = as_on u v w fs n k.moved ((less_of v w fs n t many).0 n);
      rest = λ e ne ne' far. same_on u v w fs e (k.rest e ne ne' far) (t.others e far);
    }

    -- The call ends there
    pub halted : ReplacedInodes u v fs d from other to × KeptOrEmptied u v fs to.inode
    halted = (
      record { inodes = k.inodes; listed = k.listed; moved = k.moved; former = λ inode i lt. same_as u v fs to.inode former_same inode i; others = λ e ne ne' far far'. k.rest e ne ne' far },
      (former_same.0, λ inode i. inl (former_same.1 inode i)),
    )

    -- or a link of the former one is taken
    pub ended : (w : ℕ → List ℕ) → TakesLink v w fs to.inode → ReplacedInodes u w fs d from other to
    ended w t = record {
      inodes = λ e inode i. k.inodes e inode i ∙ sym (directory_same v w fs e (t.others e (not_former e inode i)).0);
      listed = λ e inode i. listed_on w e inode i (t.others e (not_former e inode i));
      moved = as_on u v w fs n k.moved (same_as v w fs n (t.others n apart));
      former = λ inode i lt. ((took_on u v w fs to.inode inode former_same i (t.took inode (i ∙ sym former_same.0))).kept lt).0;
      others = λ e ne ne' far far'. same_on u v w fs e (k.rest e ne ne' far) (t.others e far');
    }

  -- or it could not be
  pub refused : (T : Types) → IsLibrary T → fs < 32 → (middle new : StoreState) → Halfway u (latest middle.lives) fs d other n → IsConsistent T new → (fault : FfsFault) → StopsTaking T fs middle new to.inode fault →
      ReplacedInodes u (latest new.lives) fs d from other to × KeptOrEmptied u (latest new.lives) fs to.inode
  refused T lib few middle new k h fault s =
      let v = latest middle.lives in
      let w = latest new.lives in
      let same = former_same v k in (
        record {
          inodes = λ e inode i. k.inodes e inode i ∙ sym (directory_same v w fs e (s.others e (not_former e inode i)).0);
          listed = λ e inode i. listed_on v k w e inode i (s.others e (not_former e inode i));
          moved = as_on u v w fs n k.moved (same_as v w fs n (s.others n apart));
          former = λ inode i lt. taking_as T fs u middle new to.inode same fault s inode i lt;
          others = λ e ne ne' far far'. same_on u v w fs e (k.rest e ne ne' far) (s.others e far');
        },
        taking_kept T fs u middle new to.inode same fault s lib few h,
      )

  -- the moved file has two links, so where none is taken nothing changed
  pub nothing_taken : (T : Types) (middle new : StoreState) → ((inode : List ℕ) → Ok inode ≡ inode_in (latest middle.lives) fs n → 1 < inode_links inode) → (fault : FfsFault) → StopsTaking T fs middle new n fault → new ≡ middle
  nothing_taken T middle new many fault s = elim s.stage [
    | inl same ↦ same
    | inr c ↦
        absurd (omega (arith, c.last, many s.inode s.was))
  ]

  module _ (v1 : ℕ → List ℕ) (l : AddsLink u v1 fs n) where
    pub after_link : Halfway u v1 fs d other n
    after_link = record { inodes = there1 v1 l; listed = λ e inode i same. l.others e (not_moved e inode i); moved = l.before n; rest = λ e ne ne' far. l.others e far }

    pub two_links : (v : ℕ → List ℕ) → inode_in v fs n ≡ inode_in v1 fs n → 1 ≤ inode_links x.own → (inode : List ℕ) → Ok inode ≡ inode_in v fs n → 1 < inode_links inode
    two_links v same linked inode i =
        omega (arith, l.links x.own inode is_moved (i ∙ same), linked)
