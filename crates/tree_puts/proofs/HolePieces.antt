-- The pieces of a file with holes, as they arrive.
use Rattle.std.proofs.Common.{◌≡◌, ◌∙◌, ℕ, ◌+◌, ◌-◌, ◌^◌, ◌==◌, ◌<◌, ◌≤◌, min, Bool, true, false, cond, List, [], ◌∷◌, ◌++◌, length, map, take}
use Rattle.std.proofs.Common.{Result, Ok, ap, arith, refl, subst, sym}
use Rattle.std.proofs.lemmas.Bool.Decides.{nat_tests}
use Rattle.std.proofs.lemmas.List.{append-nil, length-take}
use Rattle.std.specs.Prelude.{IsErr}
use Rattle.xn_model.specs.Lives.{StoreState}
use Rattle.xn_model.specs.Types.{Types}
use Rattle.tree_lines.specs.Values.{Volume}
use Rattle.tree_puts.specs.Actions.{Performs}
use Rattle.tree_puts.specs.Arriving.{IsWritten, WritesHoles, WritesSome, written}
use Rattle.tree_puts.specs.Holes.{end_at, hole_end, hole_writes, is_open_behind, is_open_with, is_piece_open, piece_stretches}
use Rattle.tree_puts.specs.Places.{BeginsWith, IsAll, place_behind, placed}
use Rattle.tree_puts.proofs.Arrivals.{IsArriving, all_arrived, all_of_most, all_with_short, full_more, next_arriving, piece_written, place_more}
use Rattle.tree_puts.proofs.Arrivals.{stops_behind, unended, unread, unwritten, written_more}
use Rattle.tree_puts.proofs.Performed.{by_plan}

-- One more piece

open_more : (at : ℕ) (was : Bool) (pieces : List (List ℕ)) (piece : List ℕ) →
    is_open_behind at was (pieces ++ piece ∷ []) ≡ is_open_with (is_open_behind at was pieces) (place_behind at pieces) piece
open_more at was [] piece = refl
open_more at was (first ∷ pieces) piece =
    open_more (min (at + length first) (2 ^ 64 - 1)) (is_open_with was at first) pieces piece

pub no_bytes : (at : ℕ) (piece : List ℕ) → length piece ≡ 0 → hole_writes at piece ≡ []
no_bytes at piece none =
    let test : (length piece == 0) ≡ true = grind (arith, nat_tests) in
    ap (λ (b : Bool). cond b [] (piece_stretches at piece)) test

pub some_bytes : (at : ℕ) (piece : List ℕ) → 0 < length piece → hole_writes at piece ≡ piece_stretches at piece
some_bytes at piece some =
    let test : (length piece == 0) ≡ false = grind (arith, nat_tests) in
    ap (λ (b : Bool). cond b [] (piece_stretches at piece)) test

pub stays_open : (was : Bool) (at : ℕ) (piece : List ℕ) → length piece ≡ 0 → is_open_with was at piece ≡ was
stays_open was at piece none =
    let test : (length piece == 0) ≡ true = grind (arith, nat_tests) in
    ap (λ (b : Bool). cond b was (is_piece_open at piece)) test

pub opens_with : (was : Bool) (at : ℕ) (piece : List ℕ) → 0 < length piece → is_open_with was at piece ≡ is_piece_open at piece
opens_with was at piece some =
    let test : (length piece == 0) ≡ false = grind (arith, nat_tests) in
    ap (λ (b : Bool). cond b was (is_piece_open at piece)) test

-- What is so at each turn: which pieces are written, and which one has arrived and isn't

pub record HolesSoFar (T : Types) (top block room : ℕ) (first : List ℕ) (turn count at : ℕ) (is_open : Bool) (piece : List ℕ) (old new : StoreState)
    (volume volume' : Volume) : Type 0 where
  pub before : List (List ℕ)
  pub arriving : IsArriving room first turn before (take count piece)
  pub within : count ≤ length piece
  pub place : at ≡ place_behind 0 before
  pub left : is_open ≡ is_open_behind 0 false before
  pub performed : Performs T top (IsWritten block (placed hole_writes 0 before)) old new volume volume'

-- All of them are written
pub record HolesWritten (T : Types) (top block room : ℕ) (first : List ℕ) (at : ℕ) (is_open : Bool) (old new : StoreState) (volume volume' : Volume)
    : Type 0 where
  pub pieces : List (List ℕ)
  pub begins : BeginsWith first pieces
  pub all : IsAll room pieces
  pub place : at ≡ place_behind 0 pieces
  pub left : is_open ≡ is_open_behind 0 false pieces
  pub performed : Performs T top (IsWritten block (placed hole_writes 0 pieces)) old new volume volume'

module _ {T : Types} {top block room : ℕ} {first : List ℕ} {turn count at : ℕ} {is_open : Bool} {piece : List ℕ} {old middle : StoreState}
    {volume between : Volume} (so : HolesSoFar T top block room first turn count at is_open piece old middle volume between) where
  hole_places : (bytes : List ℕ) → bytes ≡ take count piece → hole_writes at bytes ≡ hole_writes (place_behind 0 so.before) (take count piece)
  hole_places bytes bytes_are =
      ap (λ (n : ℕ). hole_writes n bytes) so.place ∙ ap (λ (l : List ℕ). hole_writes (place_behind 0 so.before) l) bytes_are

  -- the next piece is written
  pub hole_more : {types : Types} {folder : ℕ} {new : StoreState} {volume' : Volume} (bytes : List ℕ) → bytes ≡ take count piece → types ≡ T → folder ≡ top →
      Performs types folder (IsWritten block (hole_writes at bytes)) middle new between volume' →
      Performs T top (IsWritten block (placed hole_writes 0 (so.before ++ take count piece ∷ []))) old new volume volume'
  hole_more bytes bytes_are types_are folder_is next =
      piece_written block hole_writes so.before (take count piece) so.performed types_are folder_is
      (by_plan next (λ actions is. is ∙ ap (λ (l : List (ℕ × List ℕ)). map (written block) l) (hole_places bytes bytes_are)))

  -- it is not
  pub hole_stops : {types : Types} {folder : ℕ} {new : StoreState} {volume' : Volume} {E : Type 0} (bytes : List ℕ) → bytes ≡ take count piece → types ≡ T →
      folder ≡ top → Performs types folder (WritesSome block (hole_writes at bytes)) middle new between volume' → length piece ≡ room →
      (result : Result (Unit {0}) E) → IsErr result → Performs T top (WritesHoles block room first result) old new volume volume'
  hole_stops bytes bytes_are types_are folder_is next room_is result is =
      let few : length (take count piece) ≤ room = omega (arith, length-take count piece, room_is) in
      unwritten hole_writes hole_end block room first (so.before ++ take count piece ∷ []) so.before (take count piece) refl so.arriving.begins result is
      so.arriving.full few
      (stops_behind block (placed hole_writes 0 so.before) (hole_writes (place_behind 0 so.before) (take count piece)) so.performed types_are folder_is
      (by_plan next (λ actions some. subst (λ (l : List (ℕ × List ℕ)). WritesSome block l actions) (hole_places bytes bytes_are) some)))

-- behind a piece that was written

module _ {T : Types} {top block room : ℕ} {first : List ℕ} {turn count at : ℕ} {is_open : Bool} {piece : List ℕ} {old middle new : StoreState}
    {volume between volume' : Volume} (so : HolesSoFar T top block room first turn count at is_open piece old middle volume between)
    (room_is : length piece ≡ room)
    (more : Performs T top (IsWritten block (placed hole_writes 0 (so.before ++ take count piece ∷ []))) old new volume volume') where
  hole_full : length piece ≤ count → length (take count piece) ≡ room
  hole_full whole = omega (arith, length-take count piece, room_is)

  hole_place : (at' : ℕ) → at' ≡ min (at + count) (2 ^ 64 - 1) → at' ≡ place_behind 0 (so.before ++ take count piece ∷ [])
  hole_place at' next_is =
      let taken : count ≡ length (take count piece) = let within = so.within in omega (arith, length-take count piece) in
      next_is ∙ (ap (λ (n : ℕ). min (n + count) (2 ^ 64 - 1)) so.place
      ∙ (ap (λ (n : ℕ). min (place_behind 0 so.before + n) (2 ^ 64 - 1)) taken ∙ sym (place_more 0 so.before (take count piece))))

  hole_left : (is_open' : Bool) → is_open' ≡ is_open_with is_open at (take count piece) →
      is_open' ≡ is_open_behind 0 false (so.before ++ take count piece ∷ [])
  hole_left is_open' open_is =
      open_is ∙ (ap (λ (b : Bool). is_open_with b at (take count piece)) so.left
      ∙ (ap (λ (n : ℕ). is_open_with (is_open_behind 0 false so.before) n (take count piece)) so.place ∙ sym (open_more 0 false so.before (take count piece))))

  -- one more arrives
  pub hole_goes : length piece ≤ count → (at' : ℕ) → at' ≡ min (at + count) (2 ^ 64 - 1) → (is_open' : Bool) →
      is_open' ≡ is_open_with is_open at (take count piece) → (count' : ℕ) (piece' : List ℕ) → count' ≤ length piece' →
      HolesSoFar T top block room first (turn + 1) count' at' is_open' piece' old new volume volume'
  hole_goes whole at' next_is is_open' open_is count' piece' within = record {
    before = so.before ++ take count piece ∷ [];
    arriving = next_arriving (take count' piece') so.arriving (hole_full whole);
    within = within;
    place = hole_place at' next_is;
    left = hole_left is_open' open_is;
    performed = more;
  }

  -- what follows could not be read
  pub hole_unread : {E : Type 0} → length piece ≤ count → (result : Result (Unit {0}) E) → IsErr result →
      Performs T top (WritesHoles block room first result) old new volume volume'
  hole_unread whole result is =
      unread hole_writes hole_end block room first (so.before ++ take count piece ∷ []) so.arriving.begins result is
      (full_more room so.before (take count piece) so.arriving.full (hole_full whole)) more

  -- it was the last one
  pub hole_ends : count < length piece → (at' : ℕ) → at' ≡ min (at + count) (2 ^ 64 - 1) → (is_open' : Bool) →
      is_open' ≡ is_open_with is_open at (take count piece) → HolesWritten T top block room first at' is_open' old new volume volume'
  hole_ends short at' next_is is_open' open_is = record {
    pieces = so.before ++ take count piece ∷ [];
    begins = so.arriving.begins;
    all = all_with_short so.arriving (omega (arith, length-take count piece, room_is, short));
    place = hole_place at' next_is;
    left = hole_left is_open' open_is;
    performed = more;
  }

-- there were as many as a number counts
pub hole_most : {T : Types} {top block room : ℕ} {first : List ℕ} {turn count at : ℕ} {is_open : Bool} {piece : List ℕ} {old new : StoreState}
    {volume volume' : Volume} → HolesSoFar T top block room first turn count at is_open piece old new volume volume' → turn ≡ 2 ^ 64 - 1 → 0 < turn →
    HolesWritten T top block room first at is_open old new volume volume'
hole_most so most some =
    let all = all_of_most so.arriving most some in
    record { pieces = so.before; begins = all.0; all = all.1; place = so.place; left = so.left; performed = so.performed }

-- What is written behind all of them

module _ {T : Types} {top block room : ℕ} {first : List ℕ} {at : ℕ} {is_open : Bool} {old middle : StoreState} {volume between : Volume}
    (so : HolesWritten T top block room first at is_open old middle volume between) where
  ends_open : is_open ≡ true → hole_end so.pieces ≡ end_at at
  ends_open open_is =
      ap (λ (b : Bool). cond b (end_at (place_behind 0 so.pieces)) []) (sym so.left ∙ open_is) ∙ ap (λ (n : ℕ). end_at n) (sym so.place)

  ends_closed : is_open ≡ false → hole_end so.pieces ≡ []
  ends_closed open_is = ap (λ (b : Bool). cond b (end_at (place_behind 0 so.pieces)) []) (sym so.left ∙ open_is)

  pub end_written : {types : Types} {folder : ℕ} {new : StoreState} {volume' : Volume} (E : Type 0) → is_open ≡ true → types ≡ T → folder ≡ top →
      Performs types folder (IsWritten block (end_at at)) middle new between volume' →
      Performs T top (WritesHoles {E = E} block room first (Ok tt)) old new volume volume'
  end_written E open_is types_are folder_is next =
      all_arrived hole_writes hole_end block room first so.pieces E so.begins so.all
      (written_more block (placed hole_writes 0 so.pieces) (hole_end so.pieces) so.performed types_are folder_is
      (by_plan next (λ actions is. is ∙ ap (λ (l : List (ℕ × List ℕ)). map (written block) l) (sym (ends_open open_is)))))

  pub end_failed : {types : Types} {folder : ℕ} {new : StoreState} {volume' : Volume} {E : Type 0} → is_open ≡ true → types ≡ T → folder ≡ top →
      Performs types folder (WritesSome block (end_at at)) middle new between volume' → (result : Result (Unit {0}) E) → IsErr result →
      Performs T top (WritesHoles block room first result) old new volume volume'
  end_failed open_is types_are folder_is next result is =
      unended hole_writes hole_end block room first so.pieces so.begins result is so.all
      (stops_behind block (placed hole_writes 0 so.pieces) (hole_end so.pieces) so.performed types_are folder_is
      (by_plan next (λ actions some. subst (λ (l : List (ℕ × List ℕ)). WritesSome block l actions) (sym (ends_open open_is)) some)))

  pub no_end : (E : Type 0) → is_open ≡ false → Performs T top (WritesHoles {E = E} block room first (Ok tt)) old middle volume between
  no_end E open_is =
      all_arrived hole_writes hole_end block room first so.pieces E so.begins so.all
      (by_plan so.performed (λ actions is. is ∙ ap (λ (l : List (ℕ × List ℕ)). map (written block) l)
      (sym (append-nil (placed hole_writes 0 so.pieces)) ∙ ap (λ (l : List (ℕ × List ℕ)). placed hole_writes 0 so.pieces ++ l) (sym (ends_closed open_is)))))
