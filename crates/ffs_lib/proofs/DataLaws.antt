-- What the edits leave by which bytes of a file are written: one law for each kind.
use Rattle.std.proofs.Common.{◌≡◌, ◌≢◌, ℕ, ◌+◌, ◌-◌, ◌*◌, ◌/◌, ◌%◌, ◌^◌, ◌<◌, ◌≤◌, false, List, [], ◌∷◌, ◌++◌, length, drop, replicate, take, Option, Some, Ok, Err, Result, refl, sym, ◌∙◌, ap, arith, subst, inl, inr, Contains, IsTrue, slice_set, ◌==◌, w32}
use Rattle.ffs_lib.proofs.Common.{Edit, FfsFault, Fields, Found, IsFile, StoreState, Types, Under, byte_of, direct_in, fields_of, file_block, file_in, forget_of}
use Rattle.ffs_lib.proofs.Common.{init_of, inode_block_in, inode_blocks, inode_links, inode_mode, latest, length-replicate, library_layout, life_at, list_all}
use Rattle.ffs_lib.proofs.Common.{mapped, none-some, pointer_word, propose_of, put, result_and_then, take-replicate, to_le_bytes, was_given, word_at, zero_block}
use Rattle.xn_model.proofs.ForCallers.{Contains-head}
use Rattle.ffs_model.proofs.ForCallers.{begun_next, data_short, given_later, later_then, latest_reached, library_reads, one_later, pointer_set_short, proposed_given, proposed_next, proposed_others, started, started_here, started_keeps, under_inodes, zero_word}
use Rattle.ffs_lookup.proofs.ForCallers.{found_has, same_ok}
use Rattle.ffs_lib.specs.Edits.{edit_at}
use Rattle.ffs_lib.specs.Outcomes.{HasBlock, IsRaised}
use Rattle.ffs_lib.specs.Results.{OnlyChanges, SameInode, WroteBytes, byte_written}
use Rattle.ffs_lib.specs.Orders.{Action, Attaches, Makes, act_of, made_by}
use Rattle.ffs_lib.specs.Orders as orders
use Rattle.ffs_lib.specs.Steps.{Attached, Ends, IsHome, Proposed, ShortEdit, Stage, Tells, left_by, skipped}
use Rattle.ffs_lib.specs.WriteOrder.{TellsAct, data_action, data_parts, zeros_parts, direct_edit, indirect_edit, pointed_edit, pointers_action}
use Rattle.ffs_lib.specs.Writes.{ActedBy, EndsPart, PointsTo, Puts, PutsBy, IsFrom, RefusesPart, StopsAction, WaitsAfter, WaitsOn}
use Rattle.ffs_lib.specs.declared.data.Last.{Last}
use Rattle.ffs_lib.proofs.Actions.{act_is, attach_acted, data_made, direct_is, edit_acted, has_pointers, last_there, pointed_is, pointers_is, pointers_none, there_is, zeros_by}
use Rattle.ffs_lib.proofs.DataShort.{direct_refused, pointers_refused, size_refused}
use Rattle.ffs_lib.proofs.Edited.{file_data, kept, pointed, pointed_data, pointers_reached}
use Rattle.ffs_lib.proofs.Fields.{one_more, same_blocks}
use Rattle.ffs_lib.proofs.Laws.{attaches, can_edit, finishes, gives_of, home_of}
use Rattle.ffs_lib.proofs.Owners.{Stands, block_at, direct_block, pointers_at, stands_from, where_block}
use Rattle.ffs_lib.proofs.Same.{Touches, begun, begun_some, block_same, edited, none_touched, reached_before, same_on}
use Rattle.ffs_lib.proofs.Short.{begun_addable}
use Rattle.ffs_lib.proofs.Undoing.{at_ok, forgotten_is, told_lives, undone_same}
use Rattle.ffs_lib.proofs.Waiting.{attach_waits, begun_newer, home_waits, lives_wait, put_newer, put_waits, waits_same, waits_then}
use Rattle.ffs_lib.proofs.Writing.{block_written, data_attached, data_written, direct_attached, file_from, file_now, file_others, file_same, indirect_block, pointers_attached, size_raised, wrote_none, written_none, written_on, written_same}

-- Bytes that stay, and one write after another

-- all inodes are as before
pub all_same : (old new : StoreState) (fs n : ℕ) → ((d : ℕ) → SameInode (latest old.lives) (latest new.lives) fs d) → old.next ≤ new.next → Puts old new fs n 0 []
all_same old new fs n same later =
    let u = latest old.lives in
    record {
      wrote = λ inode is. record {
        after = inode;
        file = is ∙ sym (file_same u (latest new.lives) fs n (same n).0);
        size = refl;
        marks = (refl, refl);
        each = λ at low. ((same n).1 inode (file_from u fs n inode is)).1 at low ∙ written_none (byte_of u inode) 0 at;
      };
      others = λ d ne. same d;
      later = later;
    }

pub puts_none : (state : StoreState) (fs n start : ℕ) → Puts state state fs n start []
puts_none state fs n start = record {
  wrote = λ inode is. wrote_none (latest state.lives) fs n start inode is;
  others = λ d ne. (refl, λ inode is. (refl, λ at low. refl), λ some few. refl);
  later = omega arith;
}

-- some bytes, and then others
pub puts_then : (old first second : StoreState) (fs n a b start : ℕ) (xs ys bytes : List ℕ) → ((f g : ℕ → ℕ) (at : ℕ) → g at ≡ byte_written f a xs at → byte_written g b ys at ≡ byte_written f start bytes at) →
    Puts old first fs n a xs → Puts first second fs n b ys → Puts old second fs n start bytes
puts_then old first second fs n a b start xs ys bytes both p q = record {
  wrote = λ inode is.
      let x = p.wrote inode is in
      let y = q.wrote x.after x.file in
      record {
        after = y.after;
        file = y.file;
        size = y.size ∙ x.size;
        marks = (y.marks.0 ∙ x.marks.0, y.marks.1 ∙ x.marks.1);
        each = λ at low. y.each at low ∙ both (byte_of (latest old.lives) inode) (byte_of (latest first.lives) x.after) at (x.each at low);
      };
  others = λ d ne. same_on (latest old.lives) (latest first.lives) (latest second.lives) fs d (p.others d ne) (q.others d ne);
  later = later_then old.next first.next second.next p.later q.later;
}

-- after some bytes, nothing; after nothing, some; one part after another
pub puts_still : (old first second : StoreState) (fs n start : ℕ) (bytes : List ℕ) → Puts old first fs n start bytes → Puts first second fs n 0 [] → Puts old second fs n start bytes
puts_still old first second fs n start bytes = puts_then old first second fs n start 0 start bytes [] bytes (λ f g at e. sym (written_none g 0 at) ∙ e)

pub puts_after : (old first second : StoreState) (fs n start : ℕ) (bytes : List ℕ) → Puts old first fs n 0 [] → Puts first second fs n start bytes → Puts old second fs n start bytes
puts_after old first second fs n start bytes = puts_then old first second fs n 0 start start [] bytes bytes (λ f g at e. written_same g f start bytes at (e ∙ sym (written_none f 0 at)))

pub puts_on : (u v w : StoreState) (fs n start : ℕ) (bs cs : List ℕ) → Puts u v fs n start bs → Puts v w fs n (start + length bs) cs → Puts u w fs n start (bs ++ cs)
puts_on u v w fs n start bs cs =
    puts_then u v w fs n start (start + length bs) start bs cs (bs ++ cs) (λ f g at e. written_on f g (byte_written g (start + length bs) cs) start bs cs at e refl)

-- an action that was refused after that
pub stops_after : (T : Types) (fs : ℕ) (first : StoreState → Action) (rest : orders.Parts) (old middle new : StoreState) (n : ℕ) (last : Last) (fault : FfsFault) → Puts old middle fs n 0 [] → WaitsOn fs n old middle last last → act_of T fs (first old) old ≡ Ok middle →
    RefusesPart T fs rest middle new n last fault → RefusesPart T fs (first ∷ rest) old new n last fault
stops_after T fs first rest old middle new n last fault a w made x =
    (record { same = puts_after old middle new fs n 0 [] a x.0.same; told = inr (middle, made, x.0.told) }, waits_then fs n old middle new last last last w x.1)

-- one that was refused at once
pub stops_now : (T : Types) (fs : ℕ) (first : StoreState → Action) (rest : orders.Parts) (old new : StoreState) (n : ℕ) (last : Last) (fault : FfsFault) → StopsAction T fs (first old) old new n fault → RefusesPart T fs (first ∷ rest) old new n last fault
stops_now T fs first rest old new n last fault x = let k = told_lives T fs (first old) old new fault x.told in (record { same = x.same; told = inl x.told }, lives_wait fs n old new last k.lives k.later)

-- the blocks of inodes stay where another block is written
home_edited : (T : Types) (fs : ℕ) (array : ℕ → Option ℕ) (state : StoreState) (s : Stage T fs array state) (new : StoreState) (c u : ℕ) (edit : Edit) (entry : ℕ) → propose_of T state fs c edit ≡ Ok (entry, new) → Under T (latest state.lives) fs c u → u ≢ 3 → (j : ℕ) →
    inode_block_in (latest new.lives) fs j ≡ inode_block_in (latest state.lives) fs j
home_edited T fs array state s new c u edit entry done at ne j = block_same T s.library (latest state.lives) (latest new.lives) fs c u (edited T state new s.keeps.consistent fs s.few c u edit entry done at) ne j

-- A block that is there

abbrev both : ℕ → Last
both entry = record { edit = Some entry; size = Some entry }

module _ (T : Types) (fs : ℕ) (array : ℕ → Option ℕ) (old : StoreState) (s : Stage T fs array old) (n : ℕ) (found : Found) (file : IsFile old fs n found) (is : Ok found.inode ≡ file_in (latest old.lives) fs n)
    (index block at : ℕ) (bytes : List ℕ) (low : index < 140) (points : file_block (latest old.lives) found.inode index ≡ block) (there : block ≢ 0) (long : length (latest old.lives block) ≡ 512) (fit : at + length bytes ≤ 512) (after : Option ℕ) where
  own : Stands (latest old.lives) fs n found.inode
  own = stands_from (latest old.lives) fs n found.inode (file_from (latest old.lives) fs n found.inode is)

  pub there_short : 0 < length bytes → IsTrue (was_given old after) → ShortEdit T old fs block (edit_at at bytes [] [] after)
  there_short some given = data_short T s.library old s.keeps.consistent fs s.few block long after given (block_at T s.library old s.keeps.consistent fs s.few n found.inode own index block low points there) at bytes some fit

  pub puts : (new : StoreState) (entry : ℕ) → propose_of T old fs block (edit_at at bytes [] [] after) ≡ Ok (entry, new) → Stage T fs array new × PutsBy old new fs n (512 * index + at) bytes entry
  puts new entry done =
      let edit = edit_at at bytes [] [] after in
      let r = data_written T s.library old new s.keeps.consistent fs s.few n found.inode is index block at bytes low points there long fit after entry done in (
        record {
          library = s.library;
          few = s.few;
          keeps = elim (where_block (latest old.lives) found.inode index block points there) [
            | inl k ↦ file_data T s.library fs s.few array old new s.keeps n block entry found edit file (found_has old fs n found file.is index block k.0 k.1 there) done
            | inr k ↦
                pointed_data T s.library fs s.few array old new s.keeps (word_at found.inode 56) (index - 12) block entry edit (pointers_reached T s.library old fs n found file.is (word_at found.inode 56) refl k.1) (omega (arith, k.0, low)) k.2 there done
          ];
        },
        (
          record {
            wrote = λ other i. subst (λ (x : List ℕ). WroteBytes (latest old.lives) (latest new.lives) fs n x (512 * index + at) bytes) (same_ok found.inode other (is ∙ sym i)) r.0;
            others = r.1;
            later = one_later new.next old.next (proposed_next T old new fs block edit entry done);
          },
          proposed_given T old new s.keeps.consistent fs block edit entry done,
        ),
      )

  waits : (new : StoreState) (entry : ℕ) → propose_of T old fs block (edit_at at bytes [] [] after) ≡ Ok (entry, new) → WaitsAfter fs n old new after (λ last. record { edit = Some entry; size = Some entry })
  waits new entry done last same =
      let edit = edit_at at bytes [] [] after in
      record {
        home = home_edited T fs array old s new block 2 edit entry done (block_at T s.library old s.keeps.consistent fs s.few n found.inode own index block low points there) (λ z. omega (arith, z)) ((n - 1) / 8);
        waits = λ b from low here w. put_waits T old new s.keeps.consistent fs block edit entry done b from last (sym same) w;
        newer = put_newer T old new s.keeps.consistent fs block edit entry done;
        later = one_later new.next old.next (proposed_next T old new fs block edit entry done);
      }

  pub there_ends : 0 < length bytes → IsTrue (was_given old after) → (new : StoreState) (result : Result ℕ FfsFault) → Proposed T fs block (edit_at at bytes [] [] after) old new result →
      Ends T fs array new result (λ entry. (PutsBy old new fs n (512 * index + at) bytes entry × WaitsAfter fs n old new after (λ last. record { edit = Some entry; size = Some entry })) × ActedBy T fs (Makes ((block, edit_at at bytes [] [] after) ∷ [])) old new entry)
      (StopsAction T fs (Makes ((block, edit_at at bytes [] [] after) ∷ [])) old new n)
  there_ends some given new result p =
      let edit = edit_at at bytes [] [] after in
      let action : Action = Makes ((block, edit) ∷ []) in
      finishes T fs block edit array old new _ _ s result p (there_short some given)
      (λ entry done. let x = puts new entry done in (x.0, ((x.1, waits new entry done), edit_acted T fs block edit old new entry done)))
      (λ fault same told. subst (λ (m : StoreState). StopsAction T fs action old m n fault) (sym same) (record { same = puts_none old fs n 0; told = (refl, told) }))

  -- the parts of a write that come to this edit
  there_parts : (parts : orders.Parts) (last : Last) → last.edit ≡ after → 0 < length bytes → IsTrue (was_given old after) → ((new : StoreState) → act_of T fs (Makes ((block, edit_at at bytes [] [] after) ∷ [])) old ≡ Ok new → made_by T fs parts old ≡ Ok new) →
      ((new : StoreState) (fault : FfsFault) → StopsAction T fs (Makes ((block, edit_at at bytes [] [] after) ∷ [])) old new n fault → RefusesPart T fs parts old new n last fault) → (new : StoreState) (result : Result ℕ FfsFault) →
      Proposed T fs block (edit_at at bytes [] [] after) old new result → EndsPart T fs array parts old new n index at bytes last (mapped both result)
  there_parts parts last comes some given made stops new (Ok entry) p =
      let x = there_ends some given new (Ok entry) p in
      (x.0, record { puts = x.1.0.0.0; given = (x.1.0.0.1, x.1.0.0.1); made = made new x.1.1.0; last_is = last_there (latest old.lives) fs n found.inode index block is points there old.next new.next entry last x.1.1.1 x.1.1.2; waits = x.1.0.1 last comes })
  there_parts parts last comes some given made stops new (Err fault) p = let x = there_ends some given new (Err fault) p in (x.0, (x.1.0, stops new fault x.1.1))

  pub there_data : (last : Last) → last.edit ≡ after → 0 < length bytes → IsTrue (was_given old after) → (new : StoreState) (result : Result ℕ FfsFault) → Proposed T fs block (edit_at at bytes [] [] after) old new result →
      EndsPart T fs array (data_parts fs n index at bytes after) old new n index at bytes last (mapped both result)
  there_data last comes some given =
      let none = ap (λ (a : Action). act_of T fs a old) (sym (pointers_none (latest old.lives) fs n found.inode index after is (has_pointers (latest old.lives) found.inode index block points there))) in
      let real = there_is (latest old.lives) fs n found.inode index block at bytes after is points there in
      there_parts (data_parts fs n index at bytes after) last comes some given (λ new a. data_made T fs n index at bytes after old old new none (act_is T fs _ _ old new real a))
      (λ new fault x. stops_after T fs _ _ old old new n last fault (puts_none old fs n 0) (waits_same fs n old last) none (stops_now T fs _ _ old new n last fault (subst (λ (a : Action). StopsAction T fs a old new n fault) real x)))

-- zeros, where it has other bytes
pub there_zeros : (T : Types) (fs : ℕ) (array : ℕ → Option ℕ) (old : StoreState) → Stage T fs array old → (n : ℕ) (found : Found) → IsFile old fs n found → Ok found.inode ≡ file_in (latest old.lives) fs n → (index block at count : ℕ) → index < 140 →
    file_block (latest old.lives) found.inode index ≡ block → block ≢ 0 → length (latest old.lives block) ≡ 512 → at + count ≤ 512 → 0 < count → list_all (λ byte. byte == 0) (take count (drop at (latest old.lives block))) ≡ false → (last : Last) → IsTrue (was_given old last.edit) →
    (new : StoreState) (result : Result ℕ FfsFault) → Proposed T fs block (edit_at at (take count (replicate 512 0)) [] [] last.edit) old new result →
    EndsPart T fs array (zeros_parts fs n index at count last.edit) old new n index at (replicate count 0) last (mapped both result)
there_zeros T fs array old s n found file is index block at count low points there long within some other last given new result put =
    let size : length {A = ℕ} (replicate count 0) ≡ count = length-replicate {A = ℕ} count 0 in
    let real = zeros_by (latest old.lives) fs n found.inode index at count block last.edit is points there false other in
    there_parts T fs array old s n found file is index block at (replicate count 0) low points there long (omega (arith, size, within)) last.edit (zeros_parts fs n index at count last.edit) last refl (omega (arith, size, some)) given
    (λ new a. ap (result_and_then (made_by T fs [])) (act_is T fs _ _ old new real a)) (λ new fault x. stops_now T fs _ _ old new n last fault (subst (λ (a : Action). StopsAction T fs a old new n fault) real x))
    new result (subst (λ (m : List ℕ). Proposed T fs block (edit_at at m [] [] last.edit) old new result) (take-replicate count 512 0 (omega (arith, within))) put)

-- A new block

pub not_begun : (T : Types) (fs : ℕ) (old new : StoreState) (n ty : ℕ) (bytes : List ℕ) (home : ℕ) (edit : ℕ → Edit) (action : Action) → Attaches ty bytes home edit ≡ action → new ≡ old → (fault : FfsFault) → Tells (init_of T old fs ty bytes) fault → StopsAction T fs action old new n fault
not_begun T fs old new n ty bytes home edit action is same fault told =
    subst (λ (a : Action). StopsAction T fs a old new n fault) is (subst (λ (s : StoreState). StopsAction T fs (Attaches ty bytes home edit) old s n fault) (sym same) (record { same = puts_none old fs n 0; told = inl (refl, told) }))

module _ (T : Types) (fs : ℕ) (array : ℕ → Option ℕ) (zeroth first : StoreState) (s : Stage T fs array zeroth) (n : ℕ) (inode : List ℕ) (is : Ok inode ≡ file_in (latest zeroth.lives) fs n) (ty : ℕ) (bytes : List ℕ) (block number : ℕ) (done : init_of T zeroth fs ty bytes ≡ Ok ((block, number), first)) where
  pub begun_stage : Stage T fs array first
  begun_stage = record { library = s.library; few = s.few; keeps = started_keeps T library_layout (library_reads T s.library) fs s.few array zeroth first s.keeps fs ty bytes (block, number) done }

  pub begun_touches : Touches T (latest zeroth.lives) (latest first.lives) fs block 9
  begun_touches = begun T zeroth first s.keeps.consistent fs s.few ty 9 bytes (block, number) done

  pub begun_all : (d : ℕ) → SameInode (latest zeroth.lives) (latest first.lives) fs d
  begun_all d = none_touched T s.library zeroth s.keeps.consistent fs s.few (latest first.lives) block 9 begun_touches (λ z. omega (arith, z)) (λ z. omega (arith, z)) (λ z. omega (arith, z)) (λ z. omega (arith, z)) d

  pub begun_again : Ok inode ≡ file_in (latest first.lives) fs n
  begun_again = is ∙ sym (file_same (latest zeroth.lives) (latest first.lives) fs n (begun_all n).0)

  pub begun_later : zeroth.next ≤ first.next
  begun_later = one_later first.next zeroth.next (begun_next T zeroth first fs ty bytes (block, number) done)

  pub begun_given : (after : Option ℕ) → IsTrue (was_given zeroth after) → IsTrue (was_given first after)
  begun_given after given = given_later zeroth first begun_later after given

  pub begun_puts : Puts zeroth first fs n 0 []
  begun_puts = all_same zeroth first fs n begun_all begun_later

  pub undone : (new : StoreState) → new ≡ left_by (forget_of T first fs block) first → Puts zeroth new fs n 0 []
  undone new left =
      let next = ap (λ (m : StoreState). m.next) (left ∙ forgotten_is T zeroth first fs ty bytes block number done) in
      all_same zeroth new fs n (undone_same T zeroth first fs ty bytes block number done new left) (omega (arith, next))

  -- the block is attached, or forgotten
  pub attached_ends : (home : ℕ) (edit : ℕ → Edit) (action : Action) → Attaches ty bytes home edit ≡ action → (real : Edit) → real ≡ edit block → (new : StoreState) (P : ℕ → Type 0) → ShortEdit T first fs home real →
      ((entry : ℕ) → propose_of T first fs home real ≡ Ok (entry, new) → Stage T fs array new × P entry) → (result : Result ℕ FfsFault) → Attached T fs block home real first new result →
      Ends T fs array new result (λ entry. P entry × ActedBy T fs action zeroth new entry) (StopsAction T fs action zeroth new n)
  attached_ends home edit action is real same new P short then result put =
      attaches T fs block home real array first new _ _ begun_stage result put short
      (λ entry p. let x = then entry p in (
        x.0,
        (x.1, subst (λ (a : Action). ActedBy T fs a zeroth new entry) is (attach_acted T fs ty bytes home edit block number zeroth first new done entry (subst (λ (e : Edit). propose_of T first fs home e ≡ Ok (entry, new)) same p))),
      ))
      (λ fault left told. record {
        same = undone new left;
        told = subst (λ (a : Action). TellsAct T fs a zeroth new fault) is (inr (at_ok (init_of T zeroth fs ty bytes) ((block, number), first) (λ begun. (new ≡ skipped zeroth) × Tells (propose_of T begun.1 fs home (edit begun.0.0)) fault)
            (sym done) (left ∙ forgotten_is T zeroth first fs ty bytes block number done, subst (λ (e : Edit). Tells (propose_of T first fs home e) fault) same told)));
      })

  begun_block : (j : ℕ) → inode_block_in (latest first.lives) fs j ≡ inode_block_in (latest zeroth.lives) fs j
  begun_block = block_same T s.library (latest zeroth.lives) (latest first.lives) fs block 9 begun_touches (λ z. omega (arith, z))

  -- the block of its inode
  pub begun_home : (found : Found) → IsFile first fs n found → IsHome (latest zeroth.lives) fs n found.block
  begun_home found file =
      home_of first fs n found.block found.place file.is.stands ∙ begun_block ((n - 1) / 8)

  pub begun_own : Stands (latest first.lives) fs n inode
  begun_own = stands_from (latest first.lives) fs n inode (file_from (latest first.lives) fs n inode begun_again)

  home_at : (found : Found) → IsFile first fs n found → Under T (latest first.lives) fs found.block 4
  home_at found file = under_inodes T library_layout (library_reads T s.library) (latest first.lives) fs (library_layout.home n).0 found.block file.is.stands.inodes

  -- what it has there is not another block
  pub begun_mine : (found : Found) → Ok found.inode ≡ file_in (latest first.lives) fs n → found.inode ≡ inode
  begun_mine found exact = same_ok found.inode inode (exact ∙ sym begun_again)

  -- it is attached, in the cuts, by the inode's block or by another one
  module _ (second : StoreState) (c u : ℕ) (edit : Edit) (entry : ℕ) (put_done : propose_of T first fs c edit ≡ Ok (entry, second)) (at : Under T (latest first.lives) fs c u) (not3 : u ≢ 3) (adds : Contains edit.adds (block, ty)) where
    home_second : inode_block_in (latest second.lives) fs ((n - 1) / 8) ≡ inode_block_in (latest zeroth.lives) fs ((n - 1) / 8)
    home_second = home_edited T fs array first begun_stage second c u edit entry put_done at not3 ((n - 1) / 8) ∙ begun_block ((n - 1) / 8)

    newer_second : (from b : ℕ) → from ≤ zeroth.next → IsFrom from zeroth.lives b → IsFrom from second.lives b
    newer_second from b low older =
        put_newer T first second begun_stage.keeps.consistent fs c edit entry put_done from b (later_then from zeroth.next first.next low begun_later) (begun_newer T zeroth first s.keeps.consistent fs ty bytes block number done from b low older)

    later_second : zeroth.next ≤ second.next
    later_second = later_then zeroth.next first.next second.next begun_later (one_later second.next first.next (proposed_next T first second fs c edit entry put_done))

    pub attach_waits_on : WaitsAfter fs n zeroth second edit.after (λ last. record { edit = Some entry; size = Some entry })
    attach_waits_on last same = record {
      home = home_second;
      waits = λ b from low here w. attach_waits T zeroth first s.keeps.consistent fs ty bytes block number done second begun_stage.keeps.consistent c edit entry put_done adds b from last (sym same) w;
      newer = newer_second;
      later = later_second;
    }

    pub home_waits_on : IsHome (latest zeroth.lives) fs n c → (next : Last → Last) → ((last : Last) → (next last).edit ≡ last.edit) → WaitsAfter fs n zeroth second edit.after next
    home_waits_on home next kept last same = record {
      home = home_second;
      waits = λ b from low here w. home_waits T zeroth first s.keeps.consistent fs ty bytes block number done second begun_stage.keeps.consistent c edit entry put_done adds b from last (sym same) w
          (same_ok b c (here ∙ sym home)) (next last) (kept last);
      newer = newer_second;
      later = later_second;
    }

-- A new block of data, to which the inode points

module _ (T : Types) (fs : ℕ) (array : ℕ → Option ℕ) (zeroth first : StoreState) (s : Stage T fs array zeroth) (n : ℕ) (inode : List ℕ) (is : Ok inode ≡ file_in (latest zeroth.lives) fs n)
    (index at : ℕ) (bytes : List ℕ) (low : index < 12) (hole : direct_in inode index ≡ 0) (fit : at + length bytes ≤ 512) (block number : ℕ) (done : init_of T zeroth fs 2 (put zero_block at bytes) ≡ Ok ((block, number), first))
    (after : Option ℕ) (given : IsTrue (was_given zeroth after)) (found : Found) (file : IsFile first fs n found) (exact : Ok found.inode ≡ file_in (latest first.lives) fs n)
    (own : List ℕ) (whole : length own ≡ 64) (set : fields_of own ≡ record (fields_of found.inode) { direct = slice_set (fields_of found.inode).direct index block }) (spelled : own ≡ put found.inode (8 + 4 * index) (to_le_bytes w32 block)) where
  pub direct_short : ShortEdit T first fs found.block (edit_at (64 * found.place) own ((block, 2) ∷ []) [] after)
  direct_short =
      direct_refused T first after (can_edit (begun_stage T fs array zeroth first s n inode is 2 (put zero_block at bytes) block number done) (begun_given T fs array zeroth first s n inode is 2 (put zero_block at bytes) block number done after given))
      fs s.few n found file own whole index block low (ap (λ (f : Fields). f.direct) set) (ap (λ (f : Fields). f.indirect) set) (ap (λ i. direct_in i index) (begun_mine T fs array zeroth first s n inode is 2 (put zero_block at bytes) block number done found exact) ∙ hole)
      (begun_addable T zeroth first fs 2 block number (put zero_block at bytes) (gives_of (init_of T zeroth fs 2 (put zero_block at bytes)) zeroth first (block, number) done))

  adds_direct : (second : StoreState) (entry : ℕ) → propose_of T first fs found.block (edit_at (64 * found.place) own ((block, 2) ∷ []) [] after) ≡ Ok (entry, second) → Stage T fs array second × (PutsBy zeroth second fs n (512 * index + at) bytes entry × WaitsAfter fs n zeroth second after (λ last. record { edit = last.edit; size = Some entry }))
  adds_direct second entry put_done =
      let h = s.keeps.consistent in
      let s1 = begun_stage T fs array zeroth first s n inode is 2 (put zero_block at bytes) block number done in
      let h1 = s1.keeps.consistent in
      let mode = ap (λ (f : Fields). f.mode) set in
      let links = ap (λ (f : Fields). f.links) set in
      let direct = ap (λ (f : Fields). f.direct) set in
      let edit = edit_at (64 * found.place) own ((block, 2) ∷ []) [] after in
      let g : HasBlock T (latest first.lives) (latest second.lives) fs n found.inode index block =
      direct_attached T s.library first second h1 fs s.few n found file exact own whole mode ((block, 2) ∷ []) after entry put_done links index block low direct (ap (λ (f : Fields). f.indirect) set) (ap (λ (f : Fields). f.size) set) in
      let wrote = block_written T s.library zeroth first second h h1 fs s.few block number at bytes done n index inode found.inode is (omega (arith, low)) (direct_block (latest zeroth.lives) inode index low ∙ hole) fit exact g in (
        record {
          library = s.library;
          few = s.few;
          keeps = kept T s.library fs s.few array first second s1.keeps n found.block found.place file.is.stands own whole ((block, 2) ∷ []) [] after entry put_done (mode ∙ ap inode_mode file.is.bytes) (links ∙ ap inode_links file.is.bytes)
              (λ b m. elim (one_more found.inode own index block b direct m) [
                | inl j ↦ inl (subst (λ (x : List ℕ). Contains (inode_blocks x) b) file.is.bytes j)
                | inr e ↦ inr (λ z. file.file (sym mode ∙ z), subst (λ (x : ℕ). Contains {X = ℕ × ℕ} ((block, 2) ∷ []) (x, 2)) (sym e) (Contains-head (block, 2) []))
              ]);
        },
        (
          (
            record {
              wrote = λ other i. subst (λ (x : List ℕ). WroteBytes (latest zeroth.lives) (latest second.lives) fs n x (512 * index + at) bytes) (same_ok inode other (is ∙ sym i)) wrote;
              others = λ d ne. same_on (latest zeroth.lives) (latest first.lives) (latest second.lives) fs d (begun_all T fs array zeroth first s n inode is 2 (put zero_block at bytes) block number done d) (g.others d ne);
              later = later_then zeroth.next first.next second.next (begun_later T fs array zeroth first s n inode is 2 (put zero_block at bytes) block number done) (one_later second.next first.next (proposed_next T first second fs found.block edit entry put_done));
            },
            proposed_given T first second h1 fs found.block edit entry put_done,
          ),
          home_waits_on T fs array zeroth first s n inode is 2 (put zero_block at bytes) block number done second found.block 4 edit entry put_done (home_at T fs array zeroth first s n inode is 2 (put zero_block at bytes) block number done found file) (λ z. omega (arith, z))
              (Contains-head (block, 2) []) (begun_home T fs array zeroth first s n inode is 2 (put zero_block at bytes) block number done found file) (λ last. record { edit = last.edit; size = Some entry }) (λ last. refl),
        ),
      )

  pub direct_ends : (new : StoreState) (result : Result ℕ FfsFault) → Attached T fs block found.block (edit_at (64 * found.place) own ((block, 2) ∷ []) [] after) first new result →
      Ends T fs array new result (λ entry. (PutsBy zeroth new fs n (512 * index + at) bytes entry × WaitsAfter fs n zeroth new after (λ last. record { edit = last.edit; size = Some entry })) × ActedBy T fs (data_action (latest zeroth.lives) fs n index at bytes after) zeroth new entry)
      (StopsAction T fs (data_action (latest zeroth.lives) fs n index at bytes after) zeroth new n)
  direct_ends new result p =
      let home = begun_home T fs array zeroth first s n inode is 2 (put zero_block at bytes) block number done found file in
      let mine = begun_mine T fs array zeroth first s n inode is 2 (put zero_block at bytes) block number done found exact in
      attached_ends T fs array zeroth first s n inode is 2 (put zero_block at bytes) block number done found.block (direct_edit n inode index after) (data_action (latest zeroth.lives) fs n index at bytes after)
      (direct_is (latest zeroth.lives) fs n found.block inode index at bytes after home is (direct_block (latest zeroth.lives) inode index low ∙ hole) low) (edit_at (64 * found.place) own ((block, 2) ∷ []) [] after)
      (ap (λ k. edit_at (64 * k) own ((block, 2) ∷ []) [] after) file.is.stands.at ∙ ap (λ m. edit_at (64 * ((n - 1) % 8)) m ((block, 2) ∷ []) [] after) (spelled ∙ ap (λ i. put i (8 + 4 * index) (to_le_bytes w32 block)) mine))
      new (λ entry. PutsBy zeroth new fs n (512 * index + at) bytes entry × WaitsAfter fs n zeroth new after (λ last. record { edit = last.edit; size = Some entry })) direct_short (adds_direct new) result p

-- A new block of data, to which its block of pointers points

module _ (T : Types) (fs : ℕ) (array : ℕ → Option ℕ) (zeroth first : StoreState) (s : Stage T fs array zeroth) (n : ℕ) (inode : List ℕ) (is : Ok inode ≡ file_in (latest zeroth.lives) fs n)
    (last place at : ℕ) (bytes : List ℕ) (points : word_at inode 56 ≡ last) (there : last ≢ 0) (low : place < 128) (long : length (latest zeroth.lives last) ≡ 512) (none : pointer_word (latest zeroth.lives last) place ≡ 0) (fit : at + length bytes ≤ 512)
    (block number : ℕ) (small : block < 2 ^ 32) (done : init_of T zeroth fs 2 (put zero_block at bytes) ≡ Ok ((block, number), first)) (after : Option ℕ) (given : IsTrue (was_given zeroth after)) where
  reached : Under T (latest zeroth.lives) fs last 5
  reached = pointers_at T s.library zeroth s.keeps.consistent fs s.few n inode (stands_from (latest zeroth.lives) fs n inode (file_from (latest zeroth.lives) fs n inode is)) last points there

  stays : latest first.lives last ≡ latest zeroth.lives last
  stays =
      let t = begun_touches T fs array zeroth first s n inode is 2 (put zero_block at bytes) block number done in
      t.others last 5 reached (t.apart last 5 reached (λ z. omega (arith, z)))

  still_reached : Under T (latest first.lives) fs last 5
  still_reached =
      let s1 = begun_stage T fs array zeroth first s n inode is 2 (put zero_block at bytes) block number done in
      pointers_at T s.library first s1.keeps.consistent fs s.few n inode (begun_own T fs array zeroth first s n inode is 2 (put zero_block at bytes) block number done) last points there

  pub pointed_short : ShortEdit T first fs last (edit_at (4 * place) (to_le_bytes w32 block) ((block, 2) ∷ []) [] after)
  pointed_short =
      let s1 = begun_stage T fs array zeroth first s n inode is 2 (put zero_block at bytes) block number done in
      pointer_set_short T s.library first s1.keeps.consistent fs s.few last (ap length stays ∙ long) after (begun_given T fs array zeroth first s n inode is 2 (put zero_block at bytes) block number done after given) still_reached place block low small
      (ap (λ (m : List ℕ). pointer_word m place) stays ∙ none) (begun_addable T zeroth first fs 2 block number (put zero_block at bytes) (gives_of (init_of T zeroth fs 2 (put zero_block at bytes)) zeroth first (block, number) done))

  pointed_hole : file_block (latest zeroth.lives) inode (12 + place) ≡ 0
  pointed_hole = indirect_block (latest zeroth.lives) inode last place points there ∙ none

  adds_pointed : (second : StoreState) (entry : ℕ) → propose_of T first fs last (edit_at (4 * place) (to_le_bytes w32 block) ((block, 2) ∷ []) [] after) ≡ Ok (entry, second) →
      Stage T fs array second × (PutsBy zeroth second fs n (512 * (12 + place) + at) bytes entry × WaitsAfter fs n zeroth second after (λ last. record { edit = Some entry; size = Some entry }))
  adds_pointed second entry put_done =
      let h = s.keeps.consistent in
      let s1 = begun_stage T fs array zeroth first s n inode is 2 (put zero_block at bytes) block number done in
      let h1 = s1.keeps.consistent in
      let again = begun_again T fs array zeroth first s n inode is 2 (put zero_block at bytes) block number done in
      let edit = edit_at (4 * place) (to_le_bytes w32 block) ((block, 2) ∷ []) [] after in
      let g : HasBlock T (latest first.lives) (latest second.lives) fs n inode (12 + place) block =
      data_attached T s.library first second h1 fs s.few n inode again last place block entry points there low (ap length stays ∙ long) small after put_done in
      let wrote = block_written T s.library zeroth first second h h1 fs s.few block number at bytes done n (12 + place) inode inode is (omega (arith, low)) pointed_hole fit again g in (
        record { library = s.library; few = s.few; keeps = pointed T s.library fs s.few array first second s1.keeps last entry edit still_reached put_done },
        (
          (
            record {
              wrote = λ other i. subst (λ (x : List ℕ). WroteBytes (latest zeroth.lives) (latest second.lives) fs n x (512 * (12 + place) + at) bytes) (same_ok inode other (is ∙ sym i)) wrote;
              others = λ d ne. same_on (latest zeroth.lives) (latest first.lives) (latest second.lives) fs d (begun_all T fs array zeroth first s n inode is 2 (put zero_block at bytes) block number done d) (g.others d ne);
              later = later_then zeroth.next first.next second.next (begun_later T fs array zeroth first s n inode is 2 (put zero_block at bytes) block number done) (one_later second.next first.next (proposed_next T first second fs last edit entry put_done));
            },
            proposed_given T first second h1 fs last edit entry put_done,
          ),
          attach_waits_on T fs array zeroth first s n inode is 2 (put zero_block at bytes) block number done second last 5 edit entry put_done still_reached (λ z. omega (arith, z)) (Contains-head (block, 2) []),
        ),
      )

  pub pointed_ends : (new : StoreState) (result : Result ℕ FfsFault) → Attached T fs block last (edit_at (4 * place) (to_le_bytes w32 block) ((block, 2) ∷ []) [] after) first new result →
      Ends T fs array new result (λ entry. (PutsBy zeroth new fs n (512 * (12 + place) + at) bytes entry × WaitsAfter fs n zeroth new after (λ last. record { edit = Some entry; size = Some entry })) × ActedBy T fs (data_action (latest zeroth.lives) fs n (12 + place) at bytes after) zeroth new entry)
      (StopsAction T fs (data_action (latest zeroth.lives) fs n (12 + place) at bytes after) zeroth new n)
  pointed_ends new result p =
      attached_ends T fs array zeroth first s n inode is 2 (put zero_block at bytes) block number done last (pointed_edit (12 + place) after) (data_action (latest zeroth.lives) fs n (12 + place) at bytes after)
      (pointed_is (latest zeroth.lives) fs n inode (12 + place) last at bytes after is pointed_hole (omega arith) points) (edit_at (4 * place) (to_le_bytes w32 block) ((block, 2) ∷ []) [] after)
      (let less : place ≡ 12 + place - 12 = omega arith in ap (λ k. edit_at (4 * k) (to_le_bytes w32 block) ((block, 2) ∷ []) [] after) less)
      new (λ entry. PutsBy zeroth new fs n (512 * (12 + place) + at) bytes entry × WaitsAfter fs n zeroth new after (λ last. record { edit = Some entry; size = Some entry })) pointed_short (adds_pointed new) result p

-- A new block of pointers

module _ (T : Types) (fs : ℕ) (array : ℕ → Option ℕ) (zeroth first : StoreState) (s : Stage T fs array zeroth) (n : ℕ) (inode : List ℕ) (is : Ok inode ≡ file_in (latest zeroth.lives) fs n) (none : word_at inode 56 ≡ 0)
    (block number : ℕ) (done : init_of T zeroth fs 5 zero_block ≡ Ok ((block, number), first)) (after : Option ℕ) (given : IsTrue (was_given zeroth after)) (found : Found) (file : IsFile first fs n found) (exact : Ok found.inode ≡ file_in (latest first.lives) fs n)
    (own : List ℕ) (whole : length own ≡ 64) (set : fields_of own ≡ record (fields_of found.inode) { indirect = block }) (spelled : own ≡ put found.inode 56 (to_le_bytes w32 block)) where
  same : found.inode ≡ inode
  same = begun_mine T fs array zeroth first s n inode is 5 zero_block block number done found exact

  pub pointers_short : ShortEdit T first fs found.block (edit_at (64 * found.place) own ((block, 5) ∷ []) [] after)
  pointers_short =
      pointers_refused T first after (can_edit (begun_stage T fs array zeroth first s n inode is 5 zero_block block number done) (begun_given T fs array zeroth first s n inode is 5 zero_block block number done after given))
      fs s.few n found file own whole block (ap (λ (f : Fields). f.direct) set) (ap (λ (f : Fields). f.indirect) set) (ap (λ i. word_at i 56) same ∙ none)
      (begun_addable T zeroth first fs 5 block number zero_block (gives_of (init_of T zeroth fs 5 zero_block) zeroth first (block, number) done))

  apart : (c k : ℕ) → Under T (latest zeroth.lives) fs c k → c ≢ block
  apart c k r e =
      let y = latest_reached T zeroth s.keeps.consistent fs s.few c k r in
      none-some y.life (sym (started T zeroth first fs 5 zero_block (block, number) done).free ∙ (ap (life_at zeroth.lives) (sym e) ∙ y.alive))

  home_apart : found.block ≢ block
  home_apart =
      let t = begun_touches T fs array zeroth first s n inode is 5 zero_block block number done in
      let at = under_inodes T library_layout (library_reads T s.library) (latest first.lives) fs (library_layout.home n).0 found.block file.is.stands.inodes in
      apart found.block 4 (reached_before T (latest zeroth.lives) (latest first.lives) fs block 9 t apart found.block 4 at)

  adds_pointers : (second : StoreState) (entry : ℕ) → propose_of T first fs found.block (edit_at (64 * found.place) own ((block, 5) ∷ []) [] after) ≡ Ok (entry, second) →
      Stage T fs array second × (PointsTo zeroth second fs n inode block × WaitsAfter fs n zeroth second after (λ last. last))
  adds_pointers second entry put_done =
      let s1 = begun_stage T fs array zeroth first s n inode is 5 zero_block block number done in
      let h1 = s1.keeps.consistent in
      let mode = ap (λ (f : Fields). f.mode) set in
      let links = ap (λ (f : Fields). f.links) set in
      let direct = ap (λ (f : Fields). f.direct) set in
      let last = ap (λ (f : Fields). f.indirect) set in
      let edit = edit_at (64 * found.place) own ((block, 5) ∷ []) [] after in
      let bare = started_here T zeroth first fs 5 zero_block (block, number) done in
      let now : latest second.lives block ≡ zero_block = proposed_others T first second h1 fs found.block edit entry put_done block (λ e. home_apart (sym e)) ∙ bare in
      let wrote = pointers_attached T s.library first second h1 fs s.few n found file exact own whole mode ((block, 5) ∷ []) after entry put_done links block direct last (ap (λ (f : Fields). f.size) set) bare home_apart (ap (λ i. word_at i 56) same ∙ none) in
      let puts : Puts first second fs n 0 [] = record {
        wrote = λ other i. subst (λ (x : List ℕ). WroteBytes (latest first.lives) (latest second.lives) fs n x 0 []) (same_ok found.inode other (exact ∙ sym i)) wrote;
        others = file_others T s.library first second h1 fs s.few n found file exact own whole mode ((block, 5) ∷ []) after entry put_done;
        later = one_later second.next first.next (proposed_next T first second fs found.block edit entry put_done);
      } in (
        record {
          library = s.library;
          few = s.few;
          keeps = kept T s.library fs s.few array first second s1.keeps n found.block found.place file.is.stands own whole ((block, 5) ∷ []) [] after entry put_done (mode ∙ ap inode_mode file.is.bytes) (links ∙ ap inode_links file.is.bytes)
              (λ b m. inl (subst (λ xs. Contains xs b) (same_blocks found.inode own direct ∙ ap inode_blocks file.is.bytes) m));
        },
        (
          record {
            puts = puts_after zeroth first second fs n 0 [] (begun_puts T fs array zeroth first s n inode is 5 zero_block block number done) puts;
            after = own;
            file = file_now T s.library first second h1 fs s.few n found file exact own whole mode ((block, 5) ∷ []) after entry put_done;
            points = last;
            there = begun_some T zeroth first s.keeps.consistent fs 5 zero_block (block, number) done;
            long = ap length now ∙ length-replicate {A = ℕ} 512 0;
            holes = λ index far low hole. ap (λ m. pointer_word m (index - 12)) now ∙ zero_word (4 * (index - 12));
          },
          home_waits_on T fs array zeroth first s n inode is 5 zero_block block number done second found.block 4 edit entry put_done (home_at T fs array zeroth first s n inode is 5 zero_block block number done found file) (λ z. omega (arith, z))
              (Contains-head (block, 5) []) (begun_home T fs array zeroth first s n inode is 5 zero_block block number done found file) (λ last. last) (λ last. refl),
        ),
      )

  pub pointers_ends : (index : ℕ) → 12 ≤ index → (new : StoreState) (result : Result ℕ FfsFault) → Attached T fs block found.block (edit_at (64 * found.place) own ((block, 5) ∷ []) [] after) first new result →
      Ends T fs array new result (λ entry. (PointsTo zeroth new fs n inode block × WaitsAfter fs n zeroth new after (λ last. last)) × ActedBy T fs (pointers_action (latest zeroth.lives) fs n index after) zeroth new entry)
      (StopsAction T fs (pointers_action (latest zeroth.lives) fs n index after) zeroth new n)
  pointers_ends index far new result p =
      let home = begun_home T fs array zeroth first s n inode is 5 zero_block block number done found file in
      attached_ends T fs array zeroth first s n inode is 5 zero_block block number done found.block (indirect_edit n inode after) (pointers_action (latest zeroth.lives) fs n index after)
      (pointers_is (latest zeroth.lives) fs n found.block inode index after home is far none) (edit_at (64 * found.place) own ((block, 5) ∷ []) [] after)
      (ap (λ k. edit_at (64 * k) own ((block, 5) ∷ []) [] after) file.is.stands.at ∙ ap (λ m. edit_at (64 * ((n - 1) % 8)) m ((block, 5) ∷ []) [] after) (spelled ∙ ap (λ i. put i 56 (to_le_bytes w32 block)) same))
      new (λ entry. PointsTo zeroth new fs n inode block × WaitsAfter fs n zeroth new after (λ last. last)) pointers_short (adds_pointers new) result p

-- The block of pointers that is there
pub points_there : (state : StoreState) (fs n : ℕ) (inode : List ℕ) (block : ℕ) → Ok inode ≡ file_in (latest state.lives) fs n → word_at inode 56 ≡ block → block ≢ 0 → length (latest state.lives block) ≡ 512 → PointsTo state state fs n inode block
points_there state fs n inode block is points there long = record {
  puts = puts_none state fs n 0;
  after = inode;
  file = is;
  points = points;
  there = there;
  long = long;
  holes = λ index far low hole.
      let e : 12 + (index - 12) ≡ index = omega (arith, far) in
      sym (indirect_block (latest state.lives) inode block (index - 12) points there) ∙ (ap (file_block (latest state.lives) inode) e ∙ hole);
}

-- The size

module _ (T : Types) (fs : ℕ) (array : ℕ → Option ℕ) (old : StoreState) (s : Stage T fs array old) (n : ℕ) (found : Found) (file : IsFile old fs n found) (exact : Ok found.inode ≡ file_in (latest old.lives) fs n)
    (own : List ℕ) (whole : length own ≡ 64) (size : ℕ) (set : fields_of own ≡ record (fields_of found.inode) { size = size }) (after : Option ℕ) where
  pub size_short : IsTrue (was_given old after) → ShortEdit T old fs found.block (edit_at (64 * found.place) own [] [] after)
  size_short given = size_refused T old after (can_edit s given) fs s.few n found file own whole (ap (λ (f : Fields). f.direct) set) (ap (λ (f : Fields). f.indirect) set)

  pub raises : (new : StoreState) (entry : ℕ) → word_at found.inode 4 < size → propose_of T old fs found.block (edit_at (64 * found.place) own [] [] after) ≡ Ok (entry, new) →
      Stage T fs array new × IsRaised (latest old.lives) (latest new.lives) fs n found.inode size × OnlyChanges (latest old.lives) (latest new.lives) fs n
  raises new entry less done =
      let h = s.keeps.consistent in
      let mode = ap (λ (f : Fields). f.mode) set in
      let links = ap (λ (f : Fields). f.links) set in
      let direct = ap (λ (f : Fields). f.direct) set in (
        record {
          library = s.library;
          few = s.few;
          keeps = kept T s.library fs s.few array old new s.keeps n found.block found.place file.is.stands own whole [] [] after entry done (mode ∙ ap inode_mode file.is.bytes) (links ∙ ap inode_links file.is.bytes)
              (λ b m. inl (subst (λ xs. Contains xs b) (same_blocks found.inode own direct ∙ ap inode_blocks file.is.bytes) m));
        },
        size_raised T s.library old new h fs s.few n found file exact own whole mode [] after entry done links size direct (ap (λ (f : Fields). f.indirect) set) (ap (λ (f : Fields). f.size) set) less,
        file_others T s.library old new h fs s.few n found file exact own whole mode [] after entry done,
      )
