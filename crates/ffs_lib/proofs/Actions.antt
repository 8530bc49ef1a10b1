-- Which actions write into a file, by the newest bytes where they begin, and what they make.
use Rattle.std.proofs.Common.{◌≡◌, ◌≢◌, ℕ, zero, suc, ◌+◌, ◌*◌, ◌/◌, ◌-◌, ◌%◌, ◌<◌, ◌≤◌, ◌⊎◌, Bool, true, false, List, [], ◌∷◌, length, take, drop, replicate, Option, Some, Result, Ok, refl, sym, ◌∙◌, ap, inl, inr, arith, subst, eq-eqb, ◌==◌, ◌||◌, ◌&&◌, not, nat_lt, if◌then◌else◌, eqb-true, le-ltb, lt-ltb, ne_eqb, w32}
use Rattle.ffs_lib.proofs.Common.{Edit, FfsFault, StoreState, Types, and_parts, file_block, file_in, init_of, inode_block_in, latest, list_all, propose_of, put}
use Rattle.ffs_lib.proofs.Common.{result_and_then, to_le_bytes, word_at, zero_block}
use Rattle.ffs_model.proofs.ForCallers.{begun_next, one_later, proposed_next}
use Rattle.ffs_lookup.proofs.ForCallers.{block_again}
use Rattle.ffs_lib.specs.Edits.{edit_at}
use Rattle.ffs_lib.specs.Orders.{Action, Acts, Attaches, Makes, act_of, made_by, made_of}
use Rattle.ffs_lib.specs.Steps.{Proposed}
use Rattle.ffs_lib.specs.WriteOrder.{adds_direct, at_file, home_action, data_action, data_in, data_parts, direct_edit, has_direct_hole, indirect_edit, last_after, new_pointers, pointed_edit, pointers_action, raised, size_action, size_edit, zeros_action, zeros_in, zeros_parts}
use Rattle.ffs_lib.specs.Writes.{ActedBy, LastGiven, Puts, PutsParts}
use Rattle.ffs_lib.specs.declared.data.Last.{Last}
use Rattle.ffs_lib.proofs.Tests.{true_false}
use Rattle.ffs_lib.proofs.Orders.{number_is, one_order}
use Rattle.ffs_lib.proofs.Owners.{stands_from, where_block}
use Rattle.ffs_lib.proofs.Waiting.{waits_same}
use Rattle.ffs_lib.proofs.Writing.{file_from}

-- One edit, and a new block

pub edit_acted : (T : Types) (fs block : ℕ) (edit : Edit) (old new : StoreState) (entry : ℕ) → propose_of T old fs block edit ≡ Ok (entry, new) → ActedBy T fs (Makes ((block, edit) ∷ [])) old new entry
edit_acted T fs block edit old new entry done =
    let given = number_is T old fs block edit entry new done in (
      ap (result_and_then (λ x. made_of T fs [] x.1)) done,
      proposed_next T old new fs block edit entry done ∙ ap (λ (k : ℕ). k + 1) (sym given),
      omega (arith, given),
    )

pub attach_acted : (T : Types) (fs ty : ℕ) (bytes : List ℕ) (home : ℕ) (edit : ℕ → Edit) (block number : ℕ) (old first new : StoreState) → init_of T old fs ty bytes ≡ Ok ((block, number), first) → (entry : ℕ) → propose_of T first fs home (edit block) ≡ Ok (entry, new) →
    ActedBy T fs (Attaches ty bytes home edit) old new entry
attach_acted T fs ty bytes home edit block number old first new begun entry done =
    let x = edit_acted T fs home (edit block) first new entry done in
    let later = one_later first.next old.next (begun_next T old first fs ty bytes (block, number) begun) in
    (ap (result_and_then (λ b. made_of T fs ((home, edit b.0.0) ∷ []) b.1)) begun ∙ x.0, x.1, omega (arith, later, x.2))

-- Of a file

pub file_action : (content : ℕ → List ℕ) (fs n home : ℕ) (inode : List ℕ) → Ok home ≡ inode_block_in content fs ((n - 1) / 8) → Ok inode ≡ file_in content fs n → (f : ℕ → List ℕ → Action) → f home inode ≡ at_file content fs n f
file_action content fs n home inode e i f = ap (λ r. home_action r (Ok inode) f) e ∙ ap (λ r. home_action (inode_block_in content fs ((n - 1) / 8)) r f) i

pub home_there : (content : ℕ → List ℕ) (fs n : ℕ) (inode : List ℕ) → Ok inode ≡ file_in content fs n → (home : ℕ) × (Ok home ≡ inode_block_in content fs ((n - 1) / 8))
home_there content fs n inode is = let own = stands_from content fs n inode (file_from content fs n inode is) in (own.block, block_again content fs ((n - 1) / 8) own.block own.inodes)

module _ (content : ℕ → List ℕ) (fs n home : ℕ) (inode : List ℕ) (index at : ℕ) (bytes : List ℕ) (after : Option ℕ) (e : Ok home ≡ inode_block_in content fs ((n - 1) / 8)) (is : Ok inode ≡ file_in content fs n) where
  data_from : (block : ℕ) → file_block content inode index ≡ block → data_in n index at bytes after block home inode ≡ data_action content fs n index at bytes after
  data_from block points = ap (λ b. data_in n index at bytes after b home inode) (sym points) ∙ file_action content fs n home inode e is (λ h i. data_in n index at bytes after (file_block content i index) h i)

  pub direct_is : file_block content inode index ≡ 0 → index < 12 → Attaches 2 (put zero_block at bytes) home (direct_edit n inode index after) ≡ data_action content fs n index at bytes after
  direct_is hole low =
      sym (ap (λ (t : Bool). if t then Attaches 2 (put zero_block at bytes) home (direct_edit n inode index after) else Attaches 2 (put zero_block at bytes) (word_at inode 56) (pointed_edit index after)) (lt-ltb index 12 low)) ∙ data_from 0 hole

  far_is : file_block content inode index ≡ 0 → 12 ≤ index → Attaches 2 (put zero_block at bytes) (word_at inode 56) (pointed_edit index after) ≡ data_action content fs n index at bytes after
  far_is hole far =
      sym (ap (λ (t : Bool). if t then Attaches 2 (put zero_block at bytes) home (direct_edit n inode index after) else Attaches 2 (put zero_block at bytes) (word_at inode 56) (pointed_edit index after)) (le-ltb index 12 far)) ∙ data_from 0 hole

  there_at : (block : ℕ) → file_block content inode index ≡ block → block ≢ 0 → Makes ((block, edit_at at bytes [] [] after) ∷ []) ≡ data_action content fs n index at bytes after
  there_at block points there =
      sym (ap (λ (t : Bool). if not t then Makes ((block, edit_at at bytes [] [] after) ∷ []) else if nat_lt index 12 then Attaches 2 (put zero_block at bytes) home (direct_edit n inode index after) else Attaches 2 (put zero_block at bytes) (word_at inode 56) (pointed_edit index after)) (ne_eqb block 0 there))
      ∙ data_from block points

  pointers_from : (t : Bool) → nat_lt index 12 || not (word_at inode 56 == 0) ≡ t → (if t then Makes [] else Attaches 5 zero_block home (indirect_edit n inode after)) ≡ pointers_action content fs n index after
  pointers_from t z = ap (λ (u : Bool). if u then Makes [] else Attaches 5 zero_block home (indirect_edit n inode after)) (sym z) ∙ file_action content fs n home inode e is (new_pointers n index after)

pub pointers_is : (content : ℕ → List ℕ) (fs n home : ℕ) (inode : List ℕ) (index : ℕ) (after : Option ℕ) → Ok home ≡ inode_block_in content fs ((n - 1) / 8) → Ok inode ≡ file_in content fs n → 12 ≤ index → word_at inode 56 ≡ 0 →
    Attaches 5 zero_block home (indirect_edit n inode after) ≡ pointers_action content fs n index after
pointers_is content fs n home inode index after e is far none =
    pointers_from content fs n home inode index 0 [] after e is false (ap (λ (t : Bool). t || not (word_at inode 56 == 0)) (le-ltb index 12 far) ∙ ap not (eq-eqb (word_at inode 56) 0 none))

module _ (content : ℕ → List ℕ) (fs n : ℕ) (inode : List ℕ) (index : ℕ) where
  pub pointed_is : (last at : ℕ) (bytes : List ℕ) (after : Option ℕ) → Ok inode ≡ file_in content fs n → file_block content inode index ≡ 0 → 12 ≤ index → word_at inode 56 ≡ last → Attaches 2 (put zero_block at bytes) last (pointed_edit index after) ≡ data_action content fs n index at bytes after
  pointed_is last at bytes after is hole far points =
      let h = home_there content fs n inode is in
      ap (λ b. Attaches 2 (put zero_block at bytes) b (pointed_edit index after)) (sym points) ∙ far_is content fs n h.0 inode index at bytes after h.1 is hole far

  pub there_is : (block at : ℕ) (bytes : List ℕ) (after : Option ℕ) → Ok inode ≡ file_in content fs n → file_block content inode index ≡ block → block ≢ 0 → Makes ((block, edit_at at bytes [] [] after) ∷ []) ≡ data_action content fs n index at bytes after
  there_is block at bytes after is points there = let h = home_there content fs n inode is in there_at content fs n h.0 inode index at bytes after h.1 is block points there

  -- no block of pointers is needed
  pub pointers_none : (after : Option ℕ) → Ok inode ≡ file_in content fs n → (index < 12) ⊎ (word_at inode 56 ≢ 0) → Makes [] ≡ pointers_action content fs n index after
  pointers_none after is some = let h = home_there content fs n inode is in pointers_from content fs n h.0 inode index 0 [] after h.1 is true (elim some [
    | inl low ↦ ap (λ (t : Bool). t || not (word_at inode 56 == 0)) (lt-ltb index 12 low)
    | inr there ↦ any (nat_lt index 12) (ap not (ne_eqb (word_at inode 56) 0 there))
  ])
    where
      any : (t : Bool) {u : Bool} → u ≡ true → t || u ≡ true
      any true e = refl
      any false e = e

  -- zeros
  zeros_from : (at count : ℕ) (after : Option ℕ) → Ok inode ≡ file_in content fs n → (block : ℕ) → file_block content inode index ≡ block → zeros_in content at count after block ≡ zeros_action content fs n index at count after
  zeros_from at count after is block points =
      let h = home_there content fs n inode is in
      ap (zeros_in content at count after) (sym points) ∙ file_action content fs n h.0 inode h.1 is (λ home i. zeros_in content at count after (file_block content i index))

  pub zeros_hole : (at count : ℕ) (after : Option ℕ) → Ok inode ≡ file_in content fs n → file_block content inode index ≡ 0 → Makes [] ≡ zeros_action content fs n index at count after
  zeros_hole at count after is hole = zeros_from at count after is 0 hole

  pub zeros_by : (at count block : ℕ) (after : Option ℕ) → Ok inode ≡ file_in content fs n → file_block content inode index ≡ block → block ≢ 0 → (t : Bool) → list_all (λ byte. byte == 0) (take count (drop at (content block))) ≡ t →
      (if t then Makes [] else Makes ((block, edit_at at (replicate count 0) [] [] after) ∷ [])) ≡ zeros_action content fs n index at count after
  zeros_by at count block after is points there t e =
      let zeros = list_all (λ byte. byte == 0) (take count (drop at (content block))) in
      let put_zeros : Action = Makes ((block, edit_at at (replicate count 0) [] [] after) ∷ []) in
      ap (λ (u : Bool). if u then Makes [] else put_zeros) (sym e) ∙ (sym (ap (λ (u : Bool). if u || zeros then Makes [] else put_zeros) (ne_eqb block 0 there)) ∙ zeros_from at count after is block points)

  -- whether the inode comes to point to the block
  pub adds_is : (t : Bool) → Ok inode ≡ file_in content fs n → nat_lt index 12 && (file_block content inode index == 0) ≡ t → adds_direct content fs n index ≡ t
  adds_is t is e = sym (ap (has_direct_hole content index) is) ∙ e

  pub adds_hole : Ok inode ≡ file_in content fs n → index < 12 → file_block content inode index ≡ 0 → adds_direct content fs n index ≡ true
  adds_hole is low hole = adds_is true is (ap (λ (t : Bool). t && (file_block content inode index == 0)) (lt-ltb index 12 low) ∙ eq-eqb (file_block content inode index) 0 hole)

  pub adds_far : Ok inode ≡ file_in content fs n → 12 ≤ index → adds_direct content fs n index ≡ false
  adds_far is far = adds_is false is (ap (λ (t : Bool). t && (file_block content inode index == 0)) (le-ltb index 12 far))

  pub adds_there : Ok inode ≡ file_in content fs n → file_block content inode index ≢ 0 → adds_direct content fs n index ≡ false
  adds_there is there = adds_is false is (any (nat_lt index 12) (ne_eqb (file_block content inode index) 0 there))
    where
      any : (t : Bool) {u : Bool} → u ≡ false → t && u ≡ false
      any true e = e
      any false e = refl

-- the size is raised, or stays
module _ (T : Types) (fs n : ℕ) (old new : StoreState) (inode : List ℕ) (size : ℕ) (after : Option ℕ) (is : Ok inode ≡ file_in (latest old.lives) fs n) where
  pub size_acts : (home place : ℕ) (own : List ℕ) → Ok home ≡ inode_block_in (latest old.lives) fs ((n - 1) / 8) → place ≡ (n - 1) % 8 → own ≡ put inode 4 (to_le_bytes w32 size) → word_at inode 4 < size → (result : Result ℕ FfsFault) →
      Proposed T fs home (edit_at (64 * place) own [] [] after) old new result → Acts T fs (size_action (latest old.lives) fs n size after) old new result
  size_acts home place own e at spelled less result p =
      let real : edit_at (64 * place) own [] [] after ≡ size_edit n inode size after = ap (λ k. edit_at (64 * k) own [] [] after) at ∙ ap (λ m. edit_at (64 * ((n - 1) % 8)) m [] [] after) spelled in
      let action : Makes ((home, size_edit n inode size after) ∷ []) ≡ size_action (latest old.lives) fs n size after =
      sym (ap (λ (t : Bool). if t then Makes ((home, size_edit n inode size after) ∷ []) else Makes []) (lt-ltb (word_at inode 4) size less)) ∙ file_action (latest old.lives) fs n home inode e is (raised n size after) in
      subst (λ (a : Action). Acts T fs a old new result) action (one_order T fs home (size_edit n inode size after) old new result (subst (λ (x : Edit). Proposed T fs home x old new result) real p))

  pub size_stays : size ≤ word_at inode 4 → act_of T fs (size_action (latest old.lives) fs n size after) old ≡ Ok old
  size_stays le =
      let h = home_there (latest old.lives) fs n inode is in
      let action : Makes [] ≡ size_action (latest old.lives) fs n size after =
      sym (ap (λ (t : Bool). if t then Makes ((h.0, size_edit n inode size after) ∷ []) else Makes []) (le-ltb (word_at inode 4) size le)) ∙ file_action (latest old.lives) fs n h.0 inode h.1 is (raised n size after) in
      ap (λ (a : Action). act_of T fs a old) (sym action)

-- Parts

pub data_made : (T : Types) (fs n index at : ℕ) (bytes : List ℕ) (after : Option ℕ) (old middle new : StoreState) → act_of T fs (pointers_action (latest old.lives) fs n index after) old ≡ Ok middle → act_of T fs (data_action (latest middle.lives) fs n index at bytes after) middle ≡ Ok new →
    made_by T fs (data_parts fs n index at bytes after) old ≡ Ok new
data_made T fs n index at bytes after old middle new a b =
    ap (result_and_then (made_by T fs ((λ state. data_action (latest state.lives) fs n index at bytes after) ∷ []))) a ∙ ap (result_and_then (made_by T fs [])) b

pub act_is : (T : Types) (fs : ℕ) (action other : Action) (old new : StoreState) → action ≡ other → act_of T fs action old ≡ Ok new → act_of T fs other old ≡ Ok new
act_is T fs action other old new e done = subst (λ (a : Action). act_of T fs a old ≡ Ok new) e done

-- The last edits

pub last_made : (direct : Bool) (before after entry : ℕ) (last : Last) → after ≡ entry + 1 → before ≤ entry → record { edit = if direct then last.edit else Some entry; size = Some entry } ≡ last_after direct before after last
last_made direct before after entry last e from =
    let made : ℕ → Last = λ k. record { edit = if direct then last.edit else Some k; size = Some k } in
    let less : entry ≡ after - 1 = omega (arith, e) in
    ap made less ∙ sym (ap (λ (t : Bool). if t then last else made (after - 1)) (ne_eqb after before (omega (arith, e, from))))

pub last_same : (direct : Bool) (next : ℕ) (last : Last) → last ≡ last_after direct next next last
last_same direct next last = sym (ap (λ (t : Bool). if t then last else record { edit = if direct then last.edit else Some (next - 1); size = Some (next - 1) }) (eq-eqb next next refl))

pub last_there : (content : ℕ → List ℕ) (fs n : ℕ) (inode : List ℕ) (index block : ℕ) → Ok inode ≡ file_in content fs n → file_block content inode index ≡ block → block ≢ 0 → (before after entry : ℕ) (last : Last) → after ≡ entry + 1 → before ≤ entry →
    record { edit = Some entry; size = Some entry } ≡ last_after (adds_direct content fs n index) before after last
last_there content fs n inode index block is points there before after entry last e from =
    ap (λ (t : Bool). record { edit = if t then last.edit else Some entry; size = Some entry }) (sym (adds_there content fs n inode index is (λ z. there (sym points ∙ z)))) ∙ last_made (adds_direct content fs n index) before after entry last e from

-- nothing is made over zeros
pub zeros_none : (T : Types) (fs : ℕ) (old : StoreState) (n index at count : ℕ) (last : Last) → LastGiven old last → Puts old old fs n (512 * index + at) (replicate count 0) → Makes [] ≡ zeros_action (latest old.lives) fs n index at count last.edit →
    PutsParts T fs (zeros_parts fs n index at count last.edit) old old n index at (replicate count 0) last last
zeros_none T fs old n index at count last given puts is = record {
  puts = puts;
  given = given;
  made = ap (λ (a : Action). result_and_then (made_by T fs []) (act_of T fs a old)) (sym is);
  last_is = last_same (adds_direct (latest old.lives) fs n index) old.next last;
  waits = waits_same fs n old last;
}

-- a block at an index that is there
pub has_pointers : (content : ℕ → List ℕ) (inode : List ℕ) (index block : ℕ) → file_block content inode index ≡ block → block ≢ 0 → (index < 12) ⊎ (word_at inode 56 ≢ 0)
has_pointers content inode index block points there = elim (where_block content inode index block points there) [ inl x ↦ inl x.0 | inr x ↦ inr x.1 ]

-- bytes that are all 0, or not
all_zero : (m : List ℕ) → list_all (λ byte. byte == 0) m ≡ true → m ≡ replicate (length m) 0
all_zero [] e = refl
all_zero (byte ∷ rest) e =
    let p = and_parts (byte == 0) (list_all (λ b. b == 0) rest) e in
    ap (λ b. b ∷ rest) (eqb-true byte 0 p.0) ∙ ap (λ bs. 0 ∷ bs) (all_zero rest p.1)

pub zeros_all : (m : List ℕ) (count : ℕ) → m ≡ replicate count 0 → list_all (λ byte. byte == 0) m ≡ true
zeros_all m count e = ap (list_all (λ byte. byte == 0)) e ∙ all count
  where
    all : (k : ℕ) → list_all (λ byte. byte == 0) (replicate k 0) ≡ true
    all zero = refl
    all (suc k) = all k

pub zeros_not : (u m : List ℕ) (at count k : ℕ) → u ≡ m → k ≡ count → {t : Bool} → (take k (drop at m) ≡ replicate (length (take k (drop at m))) 0 → t ≡ true) → t ≡ false → list_all (λ byte. byte == 0) (take count (drop at u)) ≡ false
zeros_not u m at count k e same {t} zeros bad = go (list_all (λ byte. byte == 0) (take count (drop at u))) refl
  where
    go : (all : Bool) → list_all (λ byte. byte == 0) (take count (drop at u)) ≡ all → all ≡ false
    go false z = refl
    go true z =
        let here : take count (drop at u) ≡ take k (drop at m) = ap (λ (x : List ℕ). take count (drop at x)) e ∙ ap (λ j. take j (drop at m)) (sym same) in
        absurd (true_false t (zeros (subst (λ (x : List ℕ). x ≡ replicate (length x) 0) here (all_zero (take count (drop at u)) z))) bad)
