-- The pieces of a file without holes are written as they arrive.
use Rattle.std.proofs.Common.{◌≡◌, ◌∙◌, ℕ, ◌+◌, ◌-◌, ◌^◌, ◌==◌, ◌<◌, ◌≤◌, ◌⊎◌, min, Bool, false, cond, List, [], ◌∷◌, ◌++◌, length, map, take, drop}
use Rattle.std.proofs.Common.{Result, Ok, Err, ap, arith, inl, inr, length-drop, lit<, refl, subst, sym}
use Rattle.std.proofs.lemmas.Bool.Decides.{nat_tests}
use Rattle.std.proofs.lemmas.List.{append-nil, length-take}
use Rattle.std.specs.Prelude.{IsErr}
use Rattle.xn_model.specs.Lives.{StoreState}
use Rattle.xn_model.specs.Types.{Types}
use Rattle.treefs_model.specs.declared.fault.Fault.{Fault}
use Rattle.tree_lines.specs.Values.{Volume}
use Rattle.tree_puts.specs.Actions.{Performs}
use Rattle.tree_puts.specs.Actions.Action.{writes}
use Rattle.tree_puts.specs.Arriving.{IsWritten, WritesWhole, written}
use Rattle.tree_puts.specs.Places.{place_behind, placed, whole_writes}
use Rattle.tree_puts.proofs.Performed.{by_plan}
use Rattle.tree_puts.proofs.Arrivals.{IsArriving, all_arrived, all_of_most, all_with_short, next_arriving, piece_written, place_more, stops_behind, unread}
use Rattle.tree_puts.proofs.Arrivals.{unwritten, full_more}

-- from: which of its bytes is written first; at: where
abbrev pub StandsAt : List (List ℕ) → ℕ → ℕ → Type 0
StandsAt before from at = ((from ≡ 384) × (at ≡ 384) × (place_behind 0 before ≡ 0)) ⊎ ((from ≡ 0) × (at ≡ place_behind 0 before) × (0 < at))

first_place : (place : ℕ) (piece : List ℕ) → place ≡ 0 → whole_writes place piece ≡ (384, drop 384 piece) ∷ []
first_place place piece is = subst (λ (n : ℕ). whole_writes n piece ≡ (384, drop 384 piece) ∷ []) (sym is) refl

later_place : (place : ℕ) (piece : List ℕ) → 0 < place → whole_writes place piece ≡ (place, piece) ∷ []
later_place place piece some =
    let apart : (place == 0) ≡ false = grind (arith, nat_tests) in
    ap (λ (b : Bool). cond b (384, drop 384 piece) (place, piece) ∷ []) apart

pub place_of_piece : (before : List (List ℕ)) (from at : ℕ) (piece : List ℕ) → StandsAt before from at →
    whole_writes (place_behind 0 before) piece ≡ (at, drop from piece) ∷ []
place_of_piece before from at piece (inl is) =
    let from_is = is.0 in
    let at_is = is.1 in
    first_place (place_behind 0 before) piece is.2 ∙ rw (from_is, at_is) refl
place_of_piece before from at piece (inr is) =
    let from_is = is.0 in
    let at_is = is.1 in
    let some : 0 < place_behind 0 before = omega (arith, is.2) in
    later_place (place_behind 0 before) piece some ∙ rw (from_is, at_is) refl

-- most: the greatest number
next_from_first : (most room at next place : ℕ) → at ≡ 384 → place ≡ 0 → 384 ≤ room → 0 < most → next ≡ min (at + (room - 384)) most →
    (next ≡ min (place + room) most) × (0 < next)
next_from_first most room at next place at_is place_is wide some next_is = (omega arith, omega arith)

next_from_later : (most room at next place : ℕ) → at ≡ place → 0 < at → 0 < most → next ≡ min (at + room) most → (next ≡ min (place + room) most) × (0 < next)
next_from_later most room at next place at_is some_at some next_is = (omega arith, omega arith)

pub stands_next : (before : List (List ℕ)) (from at next room : ℕ) (piece : List ℕ) → StandsAt before from at → 384 ≤ room → length piece ≡ room →
    next ≡ min (at + length (drop from piece)) (2 ^ 64 - 1) → StandsAt (before ++ piece ∷ []) 0 next
stands_next before from at next room piece (inl stands) wide full next_is =
    let left : length (drop from piece) ≡ room - 384 = let from_is = stands.0 in omega (arith, length-drop from piece) in
    let is : next ≡ min (at + (room - 384)) (2 ^ 64 - 1) = next_is ∙ ap (λ (n : ℕ). min (at + n) (2 ^ 64 - 1)) left in
    let so = next_from_first (2 ^ 64 - 1) room at next (place_behind 0 before) stands.1 stands.2 wide (lit< tt) is in
    inr (refl, so.0 ∙ (ap (λ (n : ℕ). min (place_behind 0 before + n) (2 ^ 64 - 1)) (sym full) ∙ sym (place_more 0 before piece)), so.1)
stands_next before from at next room piece (inr stands) wide full next_is =
    let left : length (drop from piece) ≡ room = let from_is = stands.0 in omega (arith, length-drop from piece) in
    let is : next ≡ min (at + room) (2 ^ 64 - 1) = next_is ∙ ap (λ (n : ℕ). min (at + n) (2 ^ 64 - 1)) left in
    let so = next_from_later (2 ^ 64 - 1) room at next (place_behind 0 before) stands.1 stands.2 (lit< tt) is in
    inr (refl, so.0 ∙ (ap (λ (n : ℕ). min (place_behind 0 before + n) (2 ^ 64 - 1)) (sym full) ∙ sym (place_more 0 before piece)), so.1)

-- what is so at each turn: which pieces are written, and which one has arrived and isn't
pub record WrittenSoFar (T : Types) (top block room : ℕ) (first : List ℕ) (turn from to at : ℕ) (piece : List ℕ) (old new : StoreState) (volume volume' :
    Volume)
    : Type 0 where
  pub before : List (List ℕ)
  pub arriving : IsArriving room first turn before (take to piece)
  pub within : to ≤ length piece
  pub stands : StandsAt before from at
  pub performed : Performs T top (IsWritten block (placed whole_writes 0 before)) old new volume volume'

module _ {T types : Types} {top folder block room : ℕ} {first : List ℕ} {turn from to at : ℕ} {piece : List ℕ} {old middle new : StoreState}
    {volume between volume' : Volume} (so : WrittenSoFar T top block room first turn from to at piece old middle volume between) (types_are : types ≡ T)
    (folder_is : folder ≡ top) (bytes : List ℕ) (bytes_are : bytes ≡ drop from (take to piece)) where
  -- the next piece is written
  pub whole_more : Performs types folder (λ actions. actions ≡ writes block at bytes (Ok tt) ∷ []) middle new between volume' →
      Performs T top (IsWritten block (placed whole_writes 0 (so.before ++ take to piece ∷ []))) old new volume volume'
  whole_more next =
      let places : (at, bytes) ∷ [] ≡ whole_writes (place_behind 0 so.before) (take to piece) =
      ap (λ (l : List ℕ). (at, l) ∷ []) bytes_are ∙ sym (place_of_piece so.before from at (take to piece) so.stands) in
      piece_written block whole_writes so.before (take to piece) so.performed types_are folder_is
      (by_plan next (λ actions is. is ∙ ap (λ (l : List (ℕ × List ℕ)). map (written block) l) places))

  -- it is not
  pub whole_stops : {E : Type 0} → length piece ≡ room →
      Performs types folder (λ actions. (fault : Fault) × (actions ≡ writes block at bytes (Err fault) ∷ [])) middle new between volume' →
      (result : Result (Unit {0}) E) → IsErr result → Performs T top (WritesWhole block room first result) old new volume volume'
  whole_stops room_is next result is =
      let places : whole_writes (place_behind 0 so.before) (take to piece) ≡ (at, bytes) ∷ [] =
      place_of_piece so.before from at (take to piece) so.stands ∙ ap (λ (l : List ℕ). (at, l) ∷ []) (sym bytes_are) in
      let few : length (take to piece) ≤ room = omega (arith, length-take to piece, room_is) in
      unwritten whole_writes (λ pieces. []) block room first (so.before ++ take to piece ∷ []) so.before (take to piece) refl so.arriving.begins result is
      so.arriving.full few
      (stops_behind block (placed whole_writes 0 so.before) (whole_writes (place_behind 0 so.before) (take to piece)) so.performed types_are folder_is
      (by_plan next (λ actions failed. ([], (at, bytes), [], failed.0, places, failed.1))))

-- behind a piece that was written

module _ {T : Types} {top block room : ℕ} {first : List ℕ} {turn from to at : ℕ} {piece : List ℕ} {old middle new : StoreState} {volume between volume' :
    Volume}
    (so : WrittenSoFar T top block room first turn from to at piece old middle volume between) (room_is : length piece ≡ room)
    (more : Performs T top (IsWritten block (placed whole_writes 0 (so.before ++ take to piece ∷ []))) old new volume volume') where
  is_full : length piece ≤ to → length (take to piece) ≡ room
  is_full whole = omega (arith, length-take to piece, room_is)

  -- one more arrives
  pub whole_goes : 384 ≤ room → length piece ≤ to → (bytes : List ℕ) → bytes ≡ drop from (take to piece) → (at' : ℕ) →
      at' ≡ min (at + length bytes) (2 ^ 64 - 1) → (count : ℕ) (piece' : List ℕ) → count ≤ length piece' →
      WrittenSoFar T top block room first (turn + 1) 0 count at' piece' old new volume volume'
  whole_goes wide whole bytes bytes_are at' next_is count piece' within = record {
    before = so.before ++ take to piece ∷ [];
    arriving = next_arriving (take count piece') so.arriving (is_full whole);
    within = within;
    stands = stands_next so.before from at at' room (take to piece) so.stands wide (is_full whole)
        (next_is ∙ ap (λ (l : List ℕ). min (at + length l) (2 ^ 64 - 1)) bytes_are);
    performed = more;
  }

  -- what follows could not be read
  pub whole_unread : {E : Type 0} → length piece ≤ to → (result : Result (Unit {0}) E) → IsErr result →
      Performs T top (WritesWhole block room first result) old new volume volume'
  whole_unread whole result is =
      unread whole_writes (λ pieces. []) block room first (so.before ++ take to piece ∷ []) so.arriving.begins result is
      (full_more room so.before (take to piece) so.arriving.full (is_full whole)) more

  -- it was the last one
  pub whole_ends : (E : Type 0) → to < length piece → Performs T top (WritesWhole {E = E} block room first (Ok tt)) old new volume volume'
  whole_ends E short =
      let pieces = so.before ++ take to piece ∷ [] in
      all_arrived whole_writes (λ pieces. []) block room first pieces E so.arriving.begins
      (all_with_short so.arriving (omega (arith, length-take to piece, room_is, short)))
      (by_plan more (λ actions is. is ∙ ap (λ (l : List (ℕ × List ℕ)). map (written block) l) (sym (append-nil (placed whole_writes 0 pieces)))))

-- there were as many as a number counts
pub whole_most : {T : Types} {top block room : ℕ} {first : List ℕ} {turn from to at : ℕ} {piece : List ℕ} {old new : StoreState} {volume volume' : Volume}
    (E : Type 0) →
    WrittenSoFar T top block room first turn from to at piece old new volume volume' → turn ≡ 2 ^ 64 - 1 → 0 < turn →
    Performs T top (WritesWhole {E = E} block room first (Ok tt)) old new volume volume'
whole_most {T} {top} {block} {room} {first} E so most some =
    let all = all_of_most so.arriving most some in
    all_arrived whole_writes (λ pieces. []) block room first so.before E all.0 all.1
    (by_plan so.performed (λ actions is. is ∙ ap (λ (l : List (ℕ × List ℕ)). map (written block) l) (sym (append-nil (placed whole_writes 0 so.before)))))
