-- Which edits a call makes, one after another.
use Rattle.std.proofs.Common.{◌≡◌, ◌≢◌, ℕ, suc, ◌+◌, ◌-◌, ◌*◌, ◌/◌, ◌%◌, ◌<◌, ◌≤◌, ◌⊎◌, Bool, true, false, List, [], ◌∷◌, length, take, replicate, Option, None, Some, Result, Ok, Err, refl, sym, ◌∙◌, ap, inl, inr, arith, subst, eq-eqb, IfOk, IsErrAnd, ◌==◌, ◌||◌, not, nat_lt, if◌then◌else◌, le-ltb, lt-ltb, ne_eqb, w16}
use Rattle.ffs_lib.proofs.Common.{Edit, FfsFault, IsConsistent, IsLibrary, IsSlot, Room, Slot, StoreState, Types, Under, cases_eq, directory_in, entry_of}
use Rattle.ffs_lib.proofs.Common.{err_from_is_err_and, init_of, inode_block_in, inode_in, inode_links, latest, library_layout, propose_of, put, result_and_then}
use Rattle.ffs_lib.proofs.Common.{room_in, to_le_bytes, word_at}
use Rattle.ffs_model.proofs.ForCallers.{library_reads, one_type, proposed, proposed_next, proposed_others, under_direct}
use Rattle.ffs_lookup.specs.declared.places.Room.TheVariants.{Entry}
use Rattle.ffs_lib.specs.Edits.{data_of_pointers, edit_at}
use Rattle.ffs_lib.specs.Orders.{Action, Acts, Attaches, Edits, FirstMade, InOrder, Makes, Numbered, Orders, Parts, StopsAct, StopsIn, act_of, edits_at, entered_action, free_edit, has_data, inode_edits, linked_edits, links_edit, NamesInOrder, made_by, made_of, moved_parts, pointers_edit, removed_edits, replaced_parts, room_action, taken_edits, turned_edits, inode_action}
use Rattle.ffs_lib.specs.Steps.{Attached, Dropped, Proposed, Stage, clearing, skipped}
use Rattle.ffs_lib.proofs.Counted.{edits_next, first_none}
use Rattle.ffs_lib.proofs.Undoing.{at_ok, forgotten_is}
use Rattle.ffs_lib.proofs.Owners.{pointers_at, stands_from}
use Rattle.ffs_lib.proofs.Same.{begun, block_same, inodes_same}
use Rattle.ffs_lib.proofs.Same as same

-- the number that the store gives
pub number_is : (T : Types) (old : StoreState) (fs b : ℕ) (edit : Edit) (entry : ℕ) (new : StoreState) → propose_of T old fs b edit ≡ Ok (entry, new) → entry ≡ old.next
number_is T old fs b edit entry new done = (proposed T old new fs b edit entry done).entry_is

-- one edit, and one more at the start; or none
pub one_order : (T : Types) (fs block : ℕ) (edit : Edit) (old new : StoreState) (result : Result ℕ FfsFault) → Proposed T fs block edit old new result → Orders T fs ((block, edit) ∷ []) old new result
one_order T fs block edit old new (Ok entry) p = ap (result_and_then (λ done. made_of T fs [] done.1)) p
one_order T fs block edit old new (Err fault) p = first_none T fs ((block, edit) ∷ []) old new p.0

pub then_order : {A : Type 0} (T : Types) (fs block : ℕ) (edit : Edit) (rest : Edits) (old first new : StoreState) (entry : ℕ) → propose_of T old fs block edit ≡ Ok (entry, first) → (result : Result A FfsFault) → Orders T fs rest first new result →
    Orders T fs ((block, edit) ∷ rest) old new result
then_order T fs block edit rest old first new entry done (Ok x) o = ap (result_and_then (λ y. made_of T fs rest y.1)) done ∙ o
then_order T fs block edit rest old first new entry done (Err fault) o =
    let more = edits_next T fs (take (new.next - first.next) rest) first new o in
    let count : new.next - old.next ≡ suc (new.next - first.next) = omega (arith, proposed_next T old first fs block edit entry done, more) in
    ap (λ k. made_of T fs (take k ((block, edit) ∷ rest)) old) count ∙ (ap (result_and_then (λ y. made_of T fs (take (new.next - first.next) rest) y.1)) done ∙ o)

pub none_order : {A : Type 0} (T : Types) (fs : ℕ) (edits : Edits) (old new : StoreState) → new ≡ old → (fault : FfsFault) (result : Result A FfsFault) → IsErrAnd result (λ other. other ≡ fault) → Orders T fs edits old new result
none_order {A} T fs edits old new e fault result from =
    subst (λ (r : Result A FfsFault). Orders T fs edits old new r) (sym (err_from_is_err_and result from).1) (first_none T fs edits old new e)

-- a refusal that is handed on
pub order_err : {B : Type 0} (T : Types) (fs : ℕ) (edits : Edits) (old new : StoreState) → FirstMade T fs edits old new → (fault : FfsFault) (result : Result B FfsFault) → IsErrAnd result (λ other. other ≡ fault) →
    Orders T fs edits old new result
order_err {B} T fs edits old new o fault result from =
    subst (λ (r : Result B FfsFault). Orders T fs edits old new r) (sym (err_from_is_err_and result from).1) o

-- A link is taken

pub taken_is : (content : ℕ → List ℕ) (fs n home place : ℕ) (inode : List ℕ) (after next : ℕ) → Ok home ≡ inode_block_in content fs ((n - 1) / 8) → place ≡ (n - 1) % 8 → Ok inode ≡ inode_in content fs n →
    inode_edits (content (word_at inode 56)) home place inode after next ≡ taken_edits content fs n after next
taken_is content fs n home place inode after next e f i =
    let edits : ℕ → List ℕ → Edits = λ h m. inode_edits (content (word_at m 56)) h ((n - 1) % 8) m after next in
    ap (λ p. inode_edits (content (word_at inode 56)) home p inode after next) f
    ∙ (ap (λ r. edits_at r (Ok inode) edits) e ∙ ap (λ r. edits_at (inode_block_in content fs ((n - 1) / 8)) r edits) i)

pub more_links : (pointers : List ℕ) (home place : ℕ) (inode : List ℕ) (after next : ℕ) → 1 < inode_links inode → (home, links_edit place inode (inode_links inode - 1) after) ∷ [] ≡ inode_edits pointers home place inode after next
more_links pointers home place inode after next more =
    let rest : Edits = if has_data pointers inode then (word_at inode 56, pointers_edit pointers after) ∷ (home, free_edit place inode next) ∷ [] else (home, free_edit place inode after) ∷ [] in
    sym (ap (λ (t : Bool). if t then (home, links_edit place inode (inode_links inode - 1) after) ∷ [] else rest) (lt-ltb 1 (inode_links inode) more))

last_link : (pointers : List ℕ) (home place : ℕ) (inode : List ℕ) (after next : ℕ) (t : Bool) → inode_links inode ≤ 1 → has_data pointers inode ≡ t →
    (if t then (word_at inode 56, pointers_edit pointers after) ∷ (home, free_edit place inode next) ∷ [] else (home, free_edit place inode after) ∷ []) ≡ inode_edits pointers home place inode after next
last_link pointers home place inode after next t few e =
    sym (ap (λ (u : Bool). if u then (home, links_edit place inode (inode_links inode - 1) after) ∷ []
    else if has_data pointers inode then (word_at inode 56, pointers_edit pointers after) ∷ (home, free_edit place inode next) ∷ [] else (home, free_edit place inode after) ∷ []) (le-ltb 1 (inode_links inode) few)
    ∙ ap (λ (u : Bool). if u then (word_at inode 56, pointers_edit pointers after) ∷ (home, free_edit place inode next) ∷ [] else (home, free_edit place inode after) ∷ []) e)

pub nothing_there : (block : ℕ) (numbers : List ℕ) → (block ≡ 0) ⊎ (numbers ≡ []) → not ((block == 0) || (length numbers == 0)) ≡ false
nothing_there block numbers (inl e) = ap (λ (t : Bool). not (t || (length numbers == 0))) (eq-eqb block 0 e)
nothing_there block numbers (inr e) = go (block == 0)
  where
    go : (t : Bool) → not (t || (length numbers == 0)) ≡ false
    go true = refl
    go false = ap (λ (xs : List ℕ). not (length xs == 0)) e

pub some_there : (block : ℕ) (numbers : List ℕ) → block ≢ 0 → numbers ≢ [] → not ((block == 0) || (length numbers == 0)) ≡ true
some_there block [] there some = absurd (some refl)
some_there block (x ∷ xs) there some = ap (λ (t : Bool). not (t || (length (x ∷ xs) == 0))) (ne_eqb block 0 there) ∙ ap not (ne_eqb (length (x ∷ xs)) 0 (λ z. omega (arith, z)))

-- with the last one the inode is freed, after its block of pointers
pub last_order : (T : Types) (fs home place : ℕ) (inode : List ℕ) (after dropped : ℕ) (old first new : StoreState) → inode_links inode ≤ 1 → Dropped T fs (word_at inode 56) after old first (Ok dropped) → (result : Result ℕ FfsFault) →
    Proposed T fs home (free_edit place inode dropped) first new result → Orders T fs (inode_edits (latest old.lives (word_at inode 56)) home place inode after old.next) old new result
last_order T fs home place inode after dropped old first new few (inl x) result put =
    let m = latest old.lives (word_at inode 56) in
    subst (λ (edits : Edits). Orders T fs edits old new result) (last_link m home place inode after old.next false few (nothing_there (word_at inode 56) (data_of_pointers m) x.2))
    (one_order T fs home (free_edit place inode after) old new result (subst (λ (s : StoreState). Proposed T fs home (free_edit place inode after) s new result) x.0 (subst (λ (e : ℕ). Proposed T fs home (free_edit place inode e) first new result) x.1 put)))
last_order T fs home place inode after dropped old first new few (inr x) result put =
    let m = latest old.lives (word_at inode 56) in
    let given = number_is T old fs (word_at inode 56) (clearing old (word_at inode 56) after) dropped first x.2 in
    subst (λ (edits : Edits). Orders T fs edits old new result) (last_link m home place inode after old.next true few (some_there (word_at inode 56) (data_of_pointers m) x.0 x.3))
    (then_order T fs (word_at inode 56) (pointers_edit m after) ((home, free_edit place inode old.next) ∷ []) old first new dropped x.2 result
    (one_order T fs home (free_edit place inode old.next) first new result (subst (λ (e : ℕ). Proposed T fs home (free_edit place inode e) first new result) given put)))

-- the blocks of inodes stay where that block is emptied
pub home_kept : (T : Types) → IsLibrary T → (fs : ℕ) → fs < 32 → (old first : StoreState) → IsConsistent T old → (block after dropped : ℕ) → (block ≢ 0 → Under T (latest old.lives) fs block 5) → Dropped T fs block after old first (Ok dropped) → (j : ℕ) →
    inode_block_in (latest first.lives) fs j ≡ inode_block_in (latest old.lives) fs j
home_kept T lib fs few old first h block after dropped at (inl x) j = ap (λ (s : StoreState). inode_block_in (latest s.lives) fs j) x.0
home_kept T lib fs few old first h block after dropped at (inr x) j =
    block_same T lib (latest old.lives) (latest first.lives) fs block 5 (same.edited T old first h fs few block 5 (clearing old block after) dropped x.2 (at x.0)) (λ z. omega (arith, z)) j

pub taken_last : (T : Types) (lib : IsLibrary T) (fs : ℕ) (few : fs < 32) (old first new : StoreState) (h : IsConsistent T old) (n : ℕ) (inode : List ℕ) → Ok inode ≡ inode_in (latest old.lives) fs n → inode_links inode ≤ 1 → (block : ℕ) → word_at inode 56 ≡ block → (after dropped : ℕ) →
    (block ≢ 0 → Under T (latest old.lives) fs block 5) → Dropped T fs block after old first (Ok dropped) → (home place : ℕ) → Ok home ≡ inode_block_in (latest first.lives) fs ((n - 1) / 8) → place ≡ (n - 1) % 8 → (result : Result ℕ FfsFault) →
    Proposed T fs home (free_edit place inode dropped) first new result → Orders T fs (taken_edits (latest old.lives) fs n after old.next) old new result
taken_last T lib fs few old first new h n inode exact one block points after dropped under put home place at here result done =
    subst (λ (edits : Edits). Orders T fs edits old new result)
    (taken_is (latest old.lives) fs n home place inode after old.next (at ∙ home_kept T lib fs few old first h block after dropped under put ((n - 1) / 8)) here exact)
    (last_order T fs home place inode after dropped old first new one (subst (λ (b : ℕ). Dropped T fs b after old first (Ok dropped)) (sym points) put) result done)

-- An entry is cleared before that

-- the same of contents with the same block of pointers
edits_same : (u v : List ℕ) (home place : ℕ) (inode : List ℕ) (after next : ℕ) → (word_at inode 56 ≢ 0 → u ≡ v) → inode_edits u home place inode after next ≡ inode_edits v home place inode after next
edits_same u v home place inode after next same = elim (cases_eq (word_at inode 56) 0) [
  | inl z ↦ all (nothing_there (word_at inode 56) (data_of_pointers u) (inl z)) (nothing_there (word_at inode 56) (data_of_pointers v) (inl z))
  | inr ne ↦ ap (λ (m : List ℕ). inode_edits m home place inode after next) (same ne)
]
  where
    all : has_data u inode ≡ false → has_data v inode ≡ false → inode_edits u home place inode after next ≡ inode_edits v home place inode after next
    all e f = ap (λ (t : Bool). if nat_lt 1 (inode_links inode) then (home, links_edit place inode (inode_links inode - 1) after) ∷ []
        else if t then (word_at inode 56, pointers_edit u after) ∷ (home, free_edit place inode next) ∷ [] else (home, free_edit place inode after) ∷ []) e
        ∙ sym (ap (λ (t : Bool). if nat_lt 1 (inode_links inode) then (home, links_edit place inode (inode_links inode - 1) after) ∷ []
        else if t then (word_at inode 56, pointers_edit v after) ∷ (home, free_edit place inode next) ∷ [] else (home, free_edit place inode after) ∷ []) f)

pub taken_same : (v w : ℕ → List ℕ) (fs n after next : ℕ) → inode_block_in w fs ((n - 1) / 8) ≡ inode_block_in v fs ((n - 1) / 8) → inode_in w fs n ≡ inode_in v fs n → ((inode : List ℕ) → Ok inode ≡ inode_in v fs n → word_at inode 56 ≢ 0 → w (word_at inode 56) ≡ v (word_at inode 56)) →
    taken_edits w fs n after next ≡ taken_edits v fs n after next
taken_same v w fs n after next home own pointers =
    let edits : ℕ → List ℕ → Edits = λ h m. inode_edits (w (word_at m 56)) h ((n - 1) % 8) m after next in
    ap (λ r. edits_at r (inode_in w fs n) edits) home
    ∙ (ap (λ r. edits_at (inode_block_in v fs ((n - 1) / 8)) r edits) own ∙ go (inode_block_in v fs ((n - 1) / 8)) (inode_in v fs n) refl)
  where
    go : (a : Result ℕ FfsFault) (b : Result (List ℕ) FfsFault) → inode_in v fs n ≡ b → edits_at a b (λ h m. inode_edits (w (word_at m 56)) h ((n - 1) % 8) m after next) ≡ edits_at a b (λ h m. inode_edits (v (word_at m 56)) h ((n - 1) % 8) m after next)
    go (Ok h) (Ok m) e = edits_same (w (word_at m 56)) (v (word_at m 56)) h ((n - 1) % 8) m after next (pointers m (sym e))
    go (Ok h) (Err fault) e = refl
    go (Err fault) (Ok m) e = refl
    go (Err fault) (Err other) e = refl

-- What the edits are that take a link is known before the entry is cleared.
pub cleared_taken : (T : Types) (lib : IsLibrary T) (fs : ℕ) (few : fs < 32) (old first : StoreState) (h : IsConsistent T old) (slot : Slot) → IsSlot old fs slot → (after : Option ℕ) (entry : ℕ) →
    propose_of T old fs slot.block (edit_at (32 * slot.place) (replicate 32 0) [] [] after) ≡ Ok (entry, first) → taken_edits (latest first.lives) fs slot.inode entry first.next ≡ taken_edits (latest old.lives) fs slot.inode old.next (old.next + 1)
cleared_taken T lib fs few old first h slot is after entry done =
    let n = slot.inode in
    let edit = edit_at (32 * slot.place) (replicate 32 0) [] [] after in
    let r = is.names in
    let under = under_direct T library_layout (library_reads T lib) (latest old.lives) fs r.index r.block r.place slot.block r.inodes r.has in
    let t = same.edited T old first h fs few slot.block 2 edit entry done under in
    ap (λ (e : ℕ). taken_edits (latest first.lives) fs n e first.next) (number_is T old fs slot.block edit entry first done)
    ∙ (ap (taken_edits (latest first.lives) fs n old.next) (proposed_next T old first fs slot.block edit entry done)
    ∙ taken_same (latest old.lives) (latest first.lives) fs n old.next (old.next + 1) (block_same T lib (latest old.lives) (latest first.lives) fs slot.block 2 t (λ z. omega (arith, z)) ((n - 1) / 8))
    (inodes_same T lib (latest old.lives) (latest first.lives) fs slot.block 2 t (λ z. omega (arith, z)) (λ z. omega (arith, z)) n)
    (λ inode i there. proposed_others T old first h fs slot.block edit entry done (word_at inode 56) (λ z. apart inode i there (sym z) under)))
  where
    apart : (inode : List ℕ) → Ok inode ≡ inode_in (latest old.lives) fs slot.inode → word_at inode 56 ≢ 0 → slot.block ≡ word_at inode 56 → Under T (latest old.lives) fs slot.block 2 → ⊥
    apart inode i there z under =
        let at = pointers_at T lib old h fs few slot.inode inode (stands_from (latest old.lives) fs slot.inode inode i) (word_at inode 56) refl there in
        let clash : ◌≡◌ {A = ℕ} 5 2 = one_type T old h fs (word_at inode 56) 5 2 few at (subst (λ (b : ℕ). Under T (latest old.lives) fs b 2) z under) in
        omega (arith, clash)

-- Edits that add a link, or turn an entry

pub numbered : (T : Types) (fs block : ℕ) (edit : Edit) (old new : StoreState) (result : Result ℕ FfsFault) → Proposed T fs block edit old new result → IfOk result (Numbered old new)
numbered T fs block edit old new (Ok entry) p = (number_is T old fs block edit entry new p, proposed_next T old new fs block edit entry p)
numbered T fs block edit old new (Err fault) p = tt

pub last_number : (T : Types) (fs block : ℕ) (edit : Edit) (old new : StoreState) (entry : ℕ) → propose_of T old fs block edit ≡ Ok (entry, new) → entry ≡ new.next - 1
last_number T fs block edit old new entry done =
    omega (arith, number_is T old fs block edit entry new done, proposed_next T old new fs block edit entry done)

pub linked_is : (content : ℕ → List ℕ) (fs n home place : ℕ) (inode bytes : List ℕ) → Ok home ≡ inode_block_in content fs ((n - 1) / 8) → place ≡ (n - 1) % 8 → Ok inode ≡ inode_in content fs n → bytes ≡ put inode 2 (to_le_bytes w16 (inode_links inode + 1)) →
    (home, edit_at (64 * place) bytes [] [] None) ∷ [] ≡ linked_edits content fs n
linked_is content fs n home place inode bytes e f i is =
    let edits : ℕ → List ℕ → Edits = λ h m. (h, edit_at (64 * ((n - 1) % 8)) (put m 2 (to_le_bytes w16 (inode_links m + 1))) [] [] None) ∷ [] in
    ap (λ (b : List ℕ). (home, edit_at (64 * place) b [] [] None) ∷ []) is
    ∙ (ap (λ p. (home, edit_at (64 * p) (put inode 2 (to_le_bytes w16 (inode_links inode + 1))) [] [] None) ∷ []) f
    ∙ (ap (λ r. edits_at r (Ok inode) edits) e ∙ ap (λ r. edits_at (inode_block_in content fs ((n - 1) / 8)) r edits) i))

-- Parts

pub order_in : {A : Type 0} (T : Types) (fs : ℕ) (parts : Parts) (old new : StoreState) → StopsIn T fs parts old new → (fault : FfsFault) (result : Result A FfsFault) → IsErrAnd result (λ other. other ≡ fault) → InOrder T fs parts old new result
order_in {A} T fs parts old new o fault result from =
    subst (λ (r : Result A FfsFault). InOrder T fs parts old new r) (sym (err_from_is_err_and result from).1) o

-- all parts of a `replace`
pub all_parts : (T : Types) (fs : ℕ) (from to : Slot) (old first second third new : StoreState) → made_of T fs (linked_edits (latest old.lives) fs from.inode) old ≡ Ok first → made_of T fs (turned_edits to from.inode old.next) first ≡ Ok second →
    made_of T fs (removed_edits (latest second.lives) fs from (Some (old.next + 1)) second.next) second ≡ Ok third → made_of T fs (taken_edits (latest third.lives) fs to.inode (old.next + 1) third.next) third ≡ Ok new →
    made_by T fs (replaced_parts fs from to old.next) old ≡ Ok new
all_parts T fs from to old first second third new a b c d =
    let one : StoreState → Action = λ s. Makes (taken_edits (latest s.lives) fs to.inode (old.next + 1) s.next) in
    let two : StoreState → Action = λ s. Makes (removed_edits (latest s.lives) fs from (Some (old.next + 1)) s.next) in
    let three : StoreState → Action = λ s. Makes (turned_edits to from.inode old.next) in
    ap (result_and_then (made_by T fs (three ∷ two ∷ one ∷ []))) a ∙ (ap (result_and_then (made_by T fs (two ∷ one ∷ []))) b
    ∙ (ap (result_and_then (made_by T fs (one ∷ []))) c ∙ ap (result_and_then (made_by T fs [])) d))

-- or of a `rename`
pub both_parts : (T : Types) (fs : ℕ) (from : Slot) (other : ℕ) (new_name : List ℕ) (old first second new : StoreState) → made_of T fs (linked_edits (latest old.lives) fs from.inode) old ≡ Ok first →
    act_of T fs (entered_action (latest first.lives) fs other (entry_of from.inode new_name) old.next) first ≡ Ok second →
    made_of T fs (removed_edits (latest second.lives) fs from (Some (second.next - 1)) second.next) second ≡ Ok new → made_by T fs (moved_parts fs from other new_name old.next) old ≡ Ok new
both_parts T fs from other new_name old first second new a b c =
    let one : StoreState → Action = λ s. Makes (removed_edits (latest s.lives) fs from (Some (s.next - 1)) s.next) in
    let two : StoreState → Action = λ s. entered_action (latest s.lives) fs other (entry_of from.inode new_name) old.next in
    ap (result_and_then (made_by T fs (two ∷ one ∷ []))) a ∙ (ap (result_and_then (made_by T fs (one ∷ []))) b ∙ ap (result_and_then (made_by T fs [])) c)

-- A directory gets an entry

pub entered_is : (content : ℕ → List ℕ) (fs d home : ℕ) (inode entry : List ℕ) (after : ℕ) → Ok home ≡ inode_block_in content fs ((d - 1) / 8) → Ok inode ≡ directory_in content fs d → (room : Option Room) → room ≡ room_in content inode →
    room_action d inode entry after (Ok home) room ≡ entered_action content fs d entry after
entered_is content fs d home inode entry after e i room r =
    ap (room_action d inode entry after (Ok home)) r
    ∙ (ap (λ h. room_action d inode entry after h (room_in content inode)) e
    ∙ ap (λ m. inode_action m (λ n. room_action d n entry after (inode_block_in content fs ((d - 1) / 8)) (room_in content n))) i)

pub gap_act : (T : Types) (fs d block place : ℕ) (inode entry : List ℕ) (after home : ℕ) (old new : StoreState) (result : Result ℕ FfsFault) → Proposed T fs block (edit_at (32 * place) entry [] [] (Some after)) old new result →
    Acts T fs (room_action d inode entry after (Ok home) (Some (Entry block place))) old new result × IfOk result (λ e. new.next ≡ e + 1)
gap_act T fs d block place inode entry after home old new (Ok e) p =
    let edit = edit_at (32 * place) entry [] [] (Some after) in (
      one_order T fs block edit old new (Ok e) p,
      proposed_next T old new fs block edit e p ∙ ap (λ (k : ℕ). k + 1) (sym (number_is T old fs block edit e new p)),
    )
gap_act T fs d block place inode entry after home old new (Err fault) p = (one_order T fs block (edit_at (32 * place) entry [] [] (Some after)) old new (Err fault) p, tt)

pub grow_act : (T : Types) (fs ty home : ℕ) (bytes : List ℕ) (edit : ℕ → Edit) (block number : ℕ) (old first new : StoreState) → init_of T old fs ty bytes ≡ Ok ((block, number), first) → (result : Result ℕ FfsFault) → Attached T fs block home (edit block) first new result →
    Acts T fs (Attaches ty bytes home edit) old new result × IfOk result (λ e. new.next ≡ e + 1)
grow_act T fs ty home bytes edit block number old first new done (Ok e) p = (
  ap (result_and_then (λ begun. made_of T fs ((home, edit begun.0.0) ∷ []) begun.1)) done ∙ one_order T fs home (edit block) first new (Ok e) p,
  proposed_next T first new fs home (edit block) e p ∙ ap (λ (k : ℕ). k + 1) (sym (number_is T first fs home (edit block) e new p)),
)
grow_act T fs ty home bytes edit block number old first new done (Err fault) p =
    (inr (at_ok (init_of T old fs ty bytes) ((block, number), first) (λ begun. new ≡ skipped old) (sym done) (p.0 ∙ forgotten_is T old first fs ty bytes block number done)), tt)

pub act_err : {A : Type 0} (T : Types) (fs : ℕ) (action : Action) (old new : StoreState) → StopsAct T fs action old new → (P : A → Type 0) (fault : FfsFault) (result : Result A FfsFault) → IsErrAnd result (λ other. other ≡ fault) → Acts T fs action old new result × IfOk result P
act_err {A} T fs action old new o P fault result from =
    subst (λ (r : Result A FfsFault). Acts T fs action old new r × IfOk r P) (sym (err_from_is_err_and result from).1) (o, tt)

-- the block of an inode is as before where another block began its life
pub home_begun : (T : Types) (fs : ℕ) (array : ℕ → Option ℕ) (zeroth first : StoreState) (s : Stage T fs array zeroth) (block number : ℕ) (bytes : List ℕ) → init_of T zeroth fs 2 bytes ≡ Ok ((block, number), first) → (d home : ℕ) →
    Ok home ≡ inode_block_in (latest first.lives) fs ((d - 1) / 8) → Ok home ≡ inode_block_in (latest zeroth.lives) fs ((d - 1) / 8)
home_begun T fs array zeroth first s block number bytes done d home at =
    at ∙ block_same T s.library (latest zeroth.lives) (latest first.lives) fs block 6 (begun T zeroth first s.keeps.consistent fs s.few 2 6 bytes (block, number) done) (λ z. omega (arith, z)) ((d - 1) / 8)

-- A link is added before that

pub names_err : (T : Types) (fs d n : ℕ) (name : List ℕ) (old new : StoreState) → StopsAct T fs (Makes (linked_edits (latest old.lives) fs n)) old new → (fault : FfsFault) (result : Result ℕ FfsFault) → IsErrAnd result (λ other. other ≡ fault) → NamesInOrder T fs d n name old new result
names_err T fs d n name old new o fault result from =
    subst (NamesInOrder T fs d n name old new) (sym (err_from_is_err_and result from).1) (inl o)

pub names_then : (T : Types) (fs d n : ℕ) (name : List ℕ) (old first new : StoreState) → made_of T fs (linked_edits (latest old.lives) fs n) old ≡ Ok first → (result : Result ℕ FfsFault) →
    Acts T fs (entered_action (latest first.lives) fs d (entry_of n name) old.next) first new result × IfOk result (λ e. new.next ≡ e + 1) → NamesInOrder T fs d n name old new result
names_then T fs d n name old first new a (Ok e) o = (first, a, o.0, o.1)
names_then T fs d n name old first new a (Err fault) o = inr (first, a, o.0)

-- and the old entry is cleared after it
pub moved_then : {A : Type 0} (T : Types) (fs : ℕ) (from : Slot) (other : ℕ) (new_name : List ℕ) (old first middle new : StoreState) → made_of T fs (linked_edits (latest old.lives) fs from.inode) old ≡ Ok first →
    act_of T fs (entered_action (latest first.lives) fs other (entry_of from.inode new_name) old.next) first ≡ Ok middle → (result : Result A FfsFault) →
    Orders T fs (removed_edits (latest middle.lives) fs from (Some (middle.next - 1)) middle.next) middle new result → InOrder T fs (moved_parts fs from other new_name old.next) old new result
moved_then T fs from other new_name old first middle new a b (Ok x) o = both_parts T fs from other new_name old first middle new a b o
moved_then T fs from other new_name old first middle new a b (Err fault) o = inr (first, a, inr (middle, b, inl o))

pub naming_stops : (T : Types) (fs : ℕ) (from : Slot) (other : ℕ) (new_name : List ℕ) (old new : StoreState) (fault : FfsFault) → NamesInOrder T fs other from.inode new_name old new (Err fault) → StopsIn T fs (moved_parts fs from other new_name old.next) old new
naming_stops T fs from other new_name old new fault o = elim o [ inl x ↦ inl x | inr x ↦ inr (x.0, x.1, inl x.2) ]
