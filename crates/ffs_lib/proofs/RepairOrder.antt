-- Which edits `reclaim` makes, one after another.
use Rattle.std.proofs.Common.{◌≡◌, ◌≢◌, ℕ, suc, ◌+◌, ◌-◌, ◌*◌, ◌/◌, ◌%◌, ◌<◌, ◌≤◌, Bool, List, [], ◌∷◌, ◌++◌, replicate, None, Result, Ok, sym, ◌∙◌, ap, inl, inr, arith, subst, if◌then◌else◌}
use Rattle.ffs_lib.proofs.Common.{FfsFault, Files, GiveUp, IsConsistent, IsLibrary, StoreState, Types, Under, inode_block_in, inode_in, latest, map-append}
use Rattle.ffs_lib.proofs.Common.{range_with_len, result_and_then, word_at, zero_block}
use Rattle.xn_model.proofs.ForCallers.{same_ok, then_ok}
use Rattle.ffs_lib.specs.Edits.{data_of_inode, data_of_pointers, edit_at}
use Rattle.ffs_lib.specs.Orders.{Action, Edits, Makes, Orders, Parts, StopsAct, StopsIn, act_of, edits_at, made_by, made_of}
use Rattle.ffs_lib.specs.Reclaiming.{Emptied, emptying, needs}
use Rattle.ffs_lib.specs.RepairOrder.{given_up_edits, reclaimed_parts, repair_parts, repaired_edits}
use Rattle.ffs_lib.proofs.Orders.{nothing_there, some_there, then_order}
use Rattle.ffs_lib.proofs.Same.{block_same}
use Rattle.ffs_lib.proofs.Same as same
use Rattle.ffs_lib.proofs.ValueRepairs.{range_split}

-- One inode

pub at_inode : (content : ℕ → List ℕ) (fs n home place : ℕ) (inode : List ℕ) (edits : ℕ → ℕ → List ℕ → Edits) → Ok home ≡ inode_block_in content fs ((n - 1) / 8) → place ≡ (n - 1) % 8 → Ok inode ≡ inode_in content fs n →
    edits home place inode ≡ edits_at (inode_block_in content fs ((n - 1) / 8)) (inode_in content fs n) (λ h m. edits h ((n - 1) % 8) m)
at_inode content fs n home place inode edits e f i =
    let here : ℕ → List ℕ → Edits = λ h m. edits h ((n - 1) % 8) m in
    ap (λ p. edits home p inode) f ∙ (ap (λ r. edits_at r (Ok inode) here) e ∙ ap (λ r. edits_at (inode_block_in content fs ((n - 1) / 8)) r here) i)

abbrev freed : ℕ → ℕ → List ℕ → Edits
freed home place inode = (home, edit_at (64 * place) (replicate 64 0) [] (data_of_inode inode) None) ∷ []

-- the inode is freed after its block of pointers was emptied, if that points to anything
pub given_up_order : {A : Type 0} (T : Types) (fs home place : ℕ) (inode : List ℕ) (old first new : StoreState) → Emptied T fs (word_at inode 56) old first (Ok tt) → (result : Result A FfsFault) → Orders T fs (freed home place inode) first new result →
    Orders T fs (given_up_edits (latest old.lives (word_at inode 56)) home place inode) old new result
given_up_order {A} T fs home place inode old first new (inl x) result o =
    let m = latest old.lives (word_at inode 56) in
    let emptied : Edits = (word_at inode 56, edit_at 0 zero_block [] (data_of_pointers m) None) ∷ freed home place inode in
    subst (λ (t : Bool). Orders {A = A} T fs (if t then emptied else freed home place inode) old new result) (sym (nothing_there (word_at inode 56) (data_of_pointers m) x.1))
    (subst (λ (s : StoreState). Orders {A = A} T fs (freed home place inode) s new result) x.0 o)
given_up_order {A} T fs home place inode old first new (inr x) result o =
    let m = latest old.lives (word_at inode 56) in
    let emptied : Edits = (word_at inode 56, edit_at 0 zero_block [] (data_of_pointers m) None) ∷ freed home place inode in
    subst (λ (t : Bool). Orders {A = A} T fs (if t then emptied else freed home place inode) old new result) (sym (some_there (word_at inode 56) (data_of_pointers m) x.0 x.4))
    (then_order {A = A} T fs (word_at inode 56) (emptying old (word_at inode 56)) (freed home place inode) old first new x.2 x.3 result o)

-- the blocks of inodes stay where that block is emptied
home_emptied : (T : Types) → IsLibrary T → (fs : ℕ) → fs < 32 → (old first : StoreState) → IsConsistent T old → (block : ℕ) → (block ≢ 0 → Under T (latest old.lives) fs block 5) → Emptied T fs block old first (Ok tt) → (j : ℕ) →
    inode_block_in (latest first.lives) fs j ≡ inode_block_in (latest old.lives) fs j
home_emptied T lib fs few old first h block at (inl x) j = ap (λ (s : StoreState). inode_block_in (latest s.lives) fs j) x.0
home_emptied T lib fs few old first h block at (inr x) j =
    block_same T lib (latest old.lives) (latest first.lives) fs block 5 (same.edited T old first h fs few block 5 (emptying old block) x.2 x.3 (at x.0)) (λ z. omega (arith, z)) j

pub gives_up_order : {A : Type 0} (T : Types) (lib : IsLibrary T) (fs : ℕ) (few : fs < 32) (old first new : StoreState) (h : IsConsistent T old) (n : ℕ) (inode : List ℕ) → Ok inode ≡ inode_in (latest old.lives) fs n → (block : ℕ) → word_at inode 56 ≡ block →
    (block ≢ 0 → Under T (latest old.lives) fs block 5) → Emptied T fs block old first (Ok tt) → (home place : ℕ) → Ok home ≡ inode_block_in (latest first.lives) fs ((n - 1) / 8) → place ≡ (n - 1) % 8 → (result : Result A FfsFault) →
    Orders T fs (freed home place inode) first new result → Orders T fs (repaired_edits (latest old.lives) fs n GiveUp) old new result
gives_up_order {A} T lib fs few old first new h n inode exact block points under put home place at here result o =
    subst (λ (edits : Edits). Orders {A = A} T fs edits old new result)
    (at_inode (latest old.lives) fs n home place inode (λ h p m. given_up_edits (latest old.lives (word_at m 56)) h p m) (at ∙ home_emptied T lib fs few old first h block under put ((n - 1) / 8)) here exact)
    (given_up_order T fs home place inode old first new (subst (λ (b : ℕ). Emptied T fs b old first (Ok tt)) (sym points) put) result o)

-- All inodes

made_more : (T : Types) (fs : ℕ) (front : Parts) (part : StoreState → Action) (old now new : StoreState) → made_by T fs front old ≡ Ok now → act_of T fs (part now) now ≡ Ok new → made_by T fs (front ++ part ∷ []) old ≡ Ok new
made_more T fs [] part old now new e done = subst (λ (s : StoreState). result_and_then (made_by T fs []) (act_of T fs (part s) s) ≡ Ok new) (sym (same_ok old now e)) (ap (result_and_then (made_by T fs [])) done)
made_more T fs (first ∷ front) part old now new e done =
    let x = then_ok (made_by T fs front) (act_of T fs (first old) old) now e in
    ap (result_and_then (made_by T fs (front ++ part ∷ []))) x.1 ∙ made_more T fs front part x.0 now new x.2 done

stops_later : (T : Types) (fs : ℕ) (front rest : Parts) (part : StoreState → Action) (old now new : StoreState) → made_by T fs front old ≡ Ok now → StopsAct T fs (part now) now new → StopsIn T fs (front ++ part ∷ rest) old new
stops_later T fs [] rest part old now new e stop = inl (subst (λ (s : StoreState). StopsAct T fs (part s) s new) (sym (same_ok old now e)) stop)
stops_later T fs (first ∷ front) rest part old now new e stop =
    let x = then_ok (made_by T fs front) (act_of T fs (first old) old) now e in
    inr (x.0, x.1, stops_later T fs front rest part x.0 now new x.2 stop)

module _ (T : Types) (fs : ℕ) (files : Files) (old now : StoreState) (done next : ℕ) (is : next ≡ done + 1) (made : made_by T fs (repair_parts files fs (range_with_len 1 done)) old ≡ Ok now) where
  abbrev part : ℕ → StoreState → Action
  part n state = Makes (repaired_edits (latest state.lives) fs n (needs files n))

  split : (more : ℕ) → repair_parts files fs (range_with_len 1 (done + suc more)) ≡ repair_parts files fs (range_with_len 1 done) ++ part next ∷ repair_parts files fs (range_with_len (next + 1) more)
  split more =
      let e : 1 + done ≡ next = omega (arith, is) in
      ap (repair_parts files fs) (range_split 1 done (suc more))
      ∙ (map-append part (range_with_len 1 done) (range_with_len (1 + done) (suc more)) ∙ ap (λ k. repair_parts files fs (range_with_len 1 done) ++ repair_parts files fs (range_with_len k (suc more))) e)

  pub parts_more : (new : StoreState) → made_of T fs (repaired_edits (latest now.lives) fs next (needs files next)) now ≡ Ok new → made_by T fs (repair_parts files fs (range_with_len 1 next)) old ≡ Ok new
  parts_more new one =
      let e : next ≡ done + suc 0 = omega (arith, is) in
      ap (λ k. made_by T fs (repair_parts files fs (range_with_len 1 k)) old) e
      ∙ (ap (λ (ps : Parts). made_by T fs ps old) (split 0) ∙ made_more T fs (repair_parts files fs (range_with_len 1 done)) (part next) old now new made one)

  pub parts_stop : next ≤ 128 → (new : StoreState) → StopsAct T fs (part next now) now new → StopsIn T fs (reclaimed_parts files fs) old new
  parts_stop low new stop =
      let all : 128 ≡ done + suc (127 - done) = omega (arith, low, is) in
      subst (λ (ps : Parts). StopsIn T fs ps old new) (sym (ap (λ k. repair_parts files fs (range_with_len 1 k)) all ∙ split (127 - done)))
      (stops_later T fs (repair_parts files fs (range_with_len 1 done)) (repair_parts files fs (range_with_len (next + 1) (127 - done))) (part next) old now new made stop)
