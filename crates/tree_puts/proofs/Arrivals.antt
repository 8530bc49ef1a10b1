-- Pieces of a file are written as they arrive.
use Rattle.std.proofs.Common.{◌≡◌, ◌∙◌, ℕ, ◌+◌, ◌-◌, ◌^◌, ◌<◌, ◌≤◌, min, ◌⊎◌, List, [], ◌∷◌, ◌++◌, length, map, take, drop, Bor, Option, None, Some}
use Rattle.std.proofs.Common.{Result, Ok, Err, unwrap_or, ap, arith, inl, inr, length-append, refl, sym}
use Rattle.std.proofs.lemmas.List.{append-nil, append_assoc, drop-take, drop_all, length-take, map-append, take-take, take_min}
use Rattle.std.specs.Prelude.{IfOk, IsErr, MatchOption, slice_range}
use Rattle.xn_model.specs.Lives.{StoreState}
use Rattle.xn_model.specs.Types.{Types}
use Rattle.tree_lines.specs.Values.{Volume}
use Rattle.tree_puts.specs.Actions.{Action, Calls, Performs}
use Rattle.tree_puts.specs.Actions.Action.{writes}
use Rattle.tree_puts.specs.Arriving.{IsCutShort, IsWritten, StopsIn, WritesArrived, WritesEach, WritesSome, written}
use Rattle.tree_puts.specs.Places.{AreFull, BeginsWith, IsAll, place_behind, placed}
use Rattle.tree_puts.proofs.Performed.{both_done, by_plan}

-- one more piece

pub placed_more : (write : ℕ → List ℕ → List (ℕ × List ℕ)) (at : ℕ) (pieces : List (List ℕ)) (piece : List ℕ) →
    placed write at (pieces ++ piece ∷ []) ≡ placed write at pieces ++ write (place_behind at pieces) piece
placed_more write at [] piece = append-nil (write at piece)
placed_more write at (first ∷ pieces) piece =
    let next = min (at + length first) (2 ^ 64 - 1) in
    ap (λ (l : List (ℕ × List ℕ)). write at first ++ l) (placed_more write next pieces piece)
    ∙ sym (append_assoc (write at first) (placed write next pieces) (write (place_behind next pieces) piece))

pub place_more : (at : ℕ) (pieces : List (List ℕ)) (piece : List ℕ) →
    place_behind at (pieces ++ piece ∷ []) ≡ min (place_behind at pieces + length piece) (2 ^ 64 - 1)
place_more at [] piece = refl
place_more at (first ∷ pieces) piece = place_more (min (at + length first) (2 ^ 64 - 1)) pieces piece

pub full_more : (room : ℕ) (pieces : List (List ℕ)) (piece : List ℕ) → AreFull room pieces → length piece ≡ room → AreFull room (pieces ++ piece ∷ [])
full_more room [] piece full is = (is, tt)
full_more room (first ∷ pieces) piece full is = (full.0, full_more room pieces piece full.1 is)

pub begins_more : (first : List ℕ) (pieces : List (List ℕ)) (piece next : List ℕ) → BeginsWith first (pieces ++ piece ∷ []) →
    BeginsWith first ((pieces ++ piece ∷ []) ++ next ∷ [])
begins_more first pieces piece next begins = (begins.0 ++ next ∷ [], ap (λ (l : List (List ℕ)). l ++ next ∷ []) begins.1)

-- some bytes of a piece, as they are taken
pub part_got : (xs : List ℕ) (from to : ℕ) (got : Option (Bor (List ℕ))) (none run : Bor (List ℕ)) → none.now ≡ [] → run ≡ unwrap_or got none →
    to ≤ length xs → MatchOption got ((to < from) ⊎ (length xs < to))
    (λ part. (from ≤ to) × (to ≤ length xs) × (part.now ≡ slice_range xs from to) × (length part.now + from ≡ to)) → run.now ≡ drop from (take to xs)
part_got xs from to None none run empty is within (inl out) =
    ap (λ (p : Bor (List ℕ)). p.now) is ∙ (empty ∙ sym (drop_all from (take to xs) (omega (arith, length-take to xs, out))))
part_got xs from to None none run empty is within (inr out) = absurd (omega (arith, out, within))
part_got xs from to (Some part) none run empty is within got =
    let sum : from + (to - from) ≡ to = omega (arith, got.0) in
    ap (λ (p : Bor (List ℕ)). p.now) is ∙ (got.2 ∙ (sym (drop-take from (to - from) xs) ∙ ap (λ (n : ℕ). drop from (take n xs)) sum))

-- the first bytes of the first piece
pub head_of : (first : ℕ) (piece : List ℕ) (n : ℕ) → first ≤ length piece → n ≡ min first 384 → take n piece ≡ take 384 (take first piece)
head_of first piece n within n_is =
    let m = min 384 (length (take first piece)) in
    let len : length (take first piece) ≡ first = omega (arith, length-take first piece) in
    let low : m ≤ first = omega (arith, len) in
    let same : n ≡ m = omega (arith, len) in
    ap (λ (k : ℕ). take k piece) same ∙ (sym (take-take m first piece low) ∙ take_min 384 (take first piece))

-- one call
pub each_of_one : {E : Type 0} (block at : ℕ) (bytes : List ℕ) (result : Result (Unit {0}) E) (actions : List Action) →
    Calls (writes block at bytes) result actions → WritesEach block ((at, bytes) ∷ []) result actions
each_of_one block at bytes (Ok done) actions called = called
each_of_one block at bytes (Err told) actions called = ([], (at, bytes), [], called.0, refl, called.1)

pub each_failed : {A E : Type 0} (block : ℕ) (places : List (ℕ × List ℕ)) (result : Result A E) → IsErr result → (actions : List Action) →
    WritesSome block places actions → WritesEach block places result actions
each_failed block places (Ok done) is actions some = absurd (let wrong : ⊥ = cc in wrong)
each_failed block places (Err told) is actions some = some

pub ok_so : {A E : Type 0} (P Q : A → Type 0) (result : Result A E) → ((answer : A) → P answer → Q answer) → IfOk result P → IfOk result Q
ok_so P Q (Ok answer) so ok = so answer ok
ok_so P Q (Err told) so ok = tt

-- what was written before, and a piece

module _ {T types : Types} {top folder : ℕ} {old middle new : StoreState} {volume between volume' : Volume} (block : ℕ) where
  pub written_more : (done more : List (ℕ × List ℕ)) → Performs T top (IsWritten block done) old middle volume between → types ≡ T → folder ≡ top →
      Performs types folder (IsWritten block more) middle new between volume' → Performs T top (IsWritten block (done ++ more)) old new volume volume'
  written_more done more first types_are folder_is next =
      both_done first types_are folder_is next (λ before behind is so. ap (λ (l : List Action). l ++ behind) is
      ∙ (ap (λ (l : List Action). map (written block) done ++ l) so ∙ sym (map-append (written block) done more)))

  pub stops_behind : (done more : List (ℕ × List ℕ)) → Performs T top (IsWritten block done) old middle volume between → types ≡ T → folder ≡ top →
      Performs types folder (WritesSome block more) middle new between volume' → Performs T top (StopsIn block done more) old new volume volume'
  stops_behind done more first types_are folder_is next =
      both_done first types_are folder_is next (λ before behind is so. (behind, ap (λ (l : List Action). l ++ behind) is, so))

  pub piece_written : (write : ℕ → List ℕ → List (ℕ × List ℕ)) (pieces : List (List ℕ)) (piece : List ℕ) →
      Performs T top (IsWritten block (placed write 0 pieces)) old middle volume between → types ≡ T → folder ≡ top →
      Performs types folder (IsWritten block (write (place_behind 0 pieces) piece)) middle new between volume' →
      Performs T top (IsWritten block (placed write 0 (pieces ++ piece ∷ []))) old new volume volume'
  piece_written write pieces piece first types_are folder_is next =
      rw (placed_more write 0 pieces piece)
      (written_more (placed write 0 pieces) (write (place_behind 0 pieces) piece) first types_are folder_is next)

-- the whole, as it ends

module _ {T : Types} {top : ℕ} {old new : StoreState} {volume volume' : Volume} (write : ℕ → List ℕ → List (ℕ × List ℕ))
    (ending : List (List ℕ) → List (ℕ × List ℕ)) (block room : ℕ) (first : List ℕ) (pieces : List (List ℕ)) where
  pub all_arrived : (E : Type 0) → BeginsWith first pieces → IsAll room pieces →
      Performs T top (IsWritten block (placed write 0 pieces ++ ending pieces)) old new volume volume' →
      Performs T top (WritesArrived {E = E} write ending block room first (Ok tt)) old new volume volume'
  all_arrived E begins all performed = by_plan performed (λ actions so. (pieces, begins, (all, so)))

  cut_short : {E : Type 0} → BeginsWith first pieces → (result : Result (Unit {0}) E) → IsErr result →
      Performs T top (IsCutShort write ending block room pieces) old new volume volume' →
      Performs T top (WritesArrived write ending block room first result) old new volume volume'
  cut_short begins (Ok done) is performed = absurd (let wrong : ⊥ = cc in wrong)
  cut_short begins (Err told) is performed = by_plan performed (λ actions so. (pieces, begins, so))

  pub unread : {E : Type 0} → BeginsWith first pieces → (result : Result (Unit {0}) E) → IsErr result → AreFull room pieces →
      Performs T top (IsWritten block (placed write 0 pieces)) old new volume volume' →
      Performs T top (WritesArrived write ending block room first result) old new volume volume'
  unread begins result is full performed = cut_short begins result is (by_plan performed (λ actions so. inl (full, so)))

  pub unended : {E : Type 0} → BeginsWith first pieces → (result : Result (Unit {0}) E) → IsErr result → IsAll room pieces →
      Performs T top (StopsIn block (placed write 0 pieces) (ending pieces)) old new volume volume' →
      Performs T top (WritesArrived write ending block room first result) old new volume volume'
  unended begins result is all performed = cut_short begins result is (by_plan performed (λ actions so. inr (inr (all, so))))

  pub unwritten : {E : Type 0} (before : List (List ℕ)) (last : List ℕ) → pieces ≡ before ++ last ∷ [] → BeginsWith first pieces →
      (result : Result (Unit {0}) E) → IsErr result → AreFull room before → length last ≤ room →
      Performs T top (StopsIn block (placed write 0 before) (write (place_behind 0 before) last)) old new volume volume' →
      Performs T top (WritesArrived write ending block room first result) old new volume volume'
  unwritten before last is_so begins result is full within performed =
      cut_short begins result is (by_plan performed (λ actions so. inr (inl (before, last, is_so, full, within, so))))

-- pieces before that are full and written, and the next one, which has arrived

pub record IsArriving (room : ℕ) (first : List ℕ) (turn : ℕ) (before : List (List ℕ)) (next : List ℕ) : Type 0 where
  pub counted : length before ≡ turn
  pub full : AreFull room before
  pub begins : BeginsWith first (before ++ next ∷ [])

pub first_arriving : (room : ℕ) (first : List ℕ) → IsArriving room first 0 [] first
first_arriving room first = record { counted = refl; full = tt; begins = ([], refl) }

pub next_arriving : {room : ℕ} {first : List ℕ} {turn : ℕ} {before : List (List ℕ)} {next : List ℕ} (behind : List ℕ) →
    IsArriving room first turn before next → length next ≡ room → IsArriving room first (turn + 1) (before ++ next ∷ []) behind
next_arriving {room} {first} {turn} {before} {next} behind arriving is = record {
  counted = let counted = arriving.counted in omega (arith, length-append before (next ∷ []));
  full = full_more room before next arriving.full is;
  begins = begins_more first before next behind arriving.begins;
}

-- the last one is short
pub all_with_short : {room : ℕ} {first : List ℕ} {turn : ℕ} {before : List (List ℕ)} {next : List ℕ} → IsArriving room first turn before next →
    length next < room → IsAll room (before ++ next ∷ [])
all_with_short {before = before} {next = next} arriving short = inl (before, next, refl, arriving.full, short)

-- there are as many as a number counts
begins_before : (first : List ℕ) (before : List (List ℕ)) (next : List ℕ) → 0 < length before → BeginsWith first (before ++ next ∷ []) → BeginsWith first before
begins_before first [] next some begins = absurd (omega (arith, some))
begins_before first (piece ∷ before) next some begins =
    let same : piece ≡ first = let is = begins.1 in cc in
    (before, ap (λ (p : List ℕ). p ∷ before) same)

pub all_of_most : {room : ℕ} {first : List ℕ} {turn : ℕ} {before : List (List ℕ)} {next : List ℕ} → IsArriving room first turn before next →
    turn ≡ 2 ^ 64 - 1 → 0 < turn → BeginsWith first before × IsAll room before
all_of_most {room} {first} {turn} {before} {next} arriving most some =
    (begins_before first before next (let counted = arriving.counted in omega (arith, some)) arriving.begins, inr (arriving.full, arriving.counted ∙ most))
