-- The pieces of a file with holes are written as they arrive.
use Rattle.std.proofs.Common.{◌≡◌, ◌∙◌, ℕ, zero, suc, ◌+◌, ◌-◌, ◌==◌, ◌<◌, ◌≤◌, min, Bool, true, false, cond, List, [], ◌∷◌, ◌++◌, length, map, take, drop}
use Rattle.std.proofs.Common.{ap, arith, length-append, length-drop, lit<, refl, sym, Err}
use borrow.Author.Tests.{lt-ltb}
use Rattle.std.proofs.lemmas.Bool.Decides.{nat_tests}
use Rattle.std.proofs.lemmas.List.{append_assoc, drop_at, drop_min, map-append, take_at, take_min}
use Rattle.xn_model.specs.Lives.{StoreState}
use Rattle.xn_model.specs.Types.{Types}
use Rattle.treefs_model.specs.declared.fault.Fault.{Fault}
use Rattle.tree_lines.specs.Values.{Volume}
use Rattle.tree_puts.specs.Actions.{Action, Performs}
use Rattle.tree_puts.specs.Actions.Action.{writes}
use Rattle.tree_puts.specs.Arriving.{IsWritten, WritesSome, written}
use Rattle.tree_puts.specs.Holes.{are_zeros, end_at, first_unwritten, is_left_open, is_piece_open, part_end, parts, parts_of, piece_stretches, stretch_at}
use Rattle.tree_puts.specs.Holes.{stretches}
use Rattle.tree_puts.proofs.Performed.{both_done, by_plan, none_done}
use Rattle.tree_puts.proofs.Arrivals.{written_more}

-- Parts

parts_least : (size : ℕ) → 0 < size → (n m : ℕ) (bytes : List ℕ) → length bytes ≤ n → length bytes ≤ m → parts_of size n bytes ≡ parts_of size m bytes
unfolding parts_of
parts_least size some zero zero bytes low high = refl
parts_least size some zero (suc m) [] low high = refl
parts_least size some zero (suc m) (byte ∷ bytes) low high = absurd (omega (arith, low))
parts_least size some (suc n) zero [] low high = refl
parts_least size some (suc n) zero (byte ∷ bytes) low high = absurd (omega (arith, high))
parts_least size some (suc n) (suc m) [] low high = refl
parts_least size some (suc n) (suc m) (byte ∷ bytes) low high =
    let left : length (drop size (byte ∷ bytes)) ≤ length bytes = omega (arith, length-drop size (byte ∷ bytes)) in
    ap (λ (l : List (List ℕ)). take size (byte ∷ bytes) ∷ l)
    (parts_least size some n m (drop size (byte ∷ bytes)) (omega (arith, left, low)) (omega (arith, left, high)))

parts_off : (size : ℕ) → 0 < size → (part rest bytes : List ℕ) → bytes ≡ part ++ rest → length part ≡ min size (length bytes) → 0 < length bytes →
    parts_of size (length bytes) bytes ≡ part ∷ parts_of size (length rest) rest
unfolding parts_of
parts_off size some part rest [] is part_len full = absurd (omega (arith, full))
parts_off size some part rest (byte ∷ bytes) is part_len full =
    let whole = byte ∷ bytes in
    let front : take size whole ≡ part =
    sym (take_min size whole) ∙ (ap (λ (n : ℕ). take n whole) (sym part_len) ∙ (ap (λ (l : List ℕ). take (length part) l) is ∙ take_at part rest (length
    part) refl)) in
    let back : drop size whole ≡ rest =
    sym (drop_min size whole) ∙ (ap (λ (n : ℕ). drop n whole) (sym part_len) ∙ (ap (λ (l : List ℕ). drop (length part) l) is ∙ drop_at part rest (length
    part) refl)) in
    let sum : suc (length bytes) ≡ length part + length rest = ap (λ (l : List ℕ). length l) is ∙ length-append part rest in
    let few : length rest ≤ length bytes = omega (arith, part_len, sum) in
    ap (λ (l : List ℕ). l ∷ parts_of size (length bytes) (drop size whole)) front
    ∙ (ap (λ (l : List ℕ). part ∷ parts_of size (length bytes) l) back
    ∙ ap (λ (l : List (List ℕ)). part ∷ l) (parts_least size some (length bytes) (length rest) rest few (omega arith)))

pub part_off : (part rest bytes : List ℕ) → bytes ≡ part ++ rest → length part ≡ min 4096 (length bytes) → 0 < length bytes → parts bytes ≡ part ∷ parts rest
part_off part rest bytes is part_len some = parts_off 4096 (lit< tt) part rest bytes is part_len some

no_parts : (bytes : List ℕ) → length bytes ≡ 0 → parts bytes ≡ []
unfolding parts_of
no_parts [] none = refl
no_parts (byte ∷ bytes) none = absurd (omega (arith, none))

-- What of a piece is written so far: done is from where to where, and rest is left

pub record StretchesSoFar (T : Types) (top block at : ℕ) (bytes : List ℕ) (from to : ℕ) (rest : List ℕ) (old new : StoreState) (volume volume' : Volume)
    : Type 0 where
  pub done : List (ℕ × ℕ)
  pub counted : to + length rest ≤ length bytes
  pub split : done ++ stretches from to (parts rest) ≡ stretches (first_unwritten at) 0 (parts bytes)
  pub left : is_left_open from to (parts rest) ≡ is_piece_open at bytes
  pub performed : Performs T top (IsWritten block (map (stretch_at at bytes) done)) old new volume volume'

pub no_stretches : (T : Types) (top block at : ℕ) (bytes rest : List ℕ) (old : StoreState) (volume : Volume) → rest ≡ bytes → (from : ℕ) →
    from ≡ first_unwritten at → StretchesSoFar T top block at bytes from 0 rest old old volume volume
no_stretches T top block at bytes rest old volume rest_is from from_is = record {
  done = [];
  counted = let same : length rest ≡ length bytes = ap (λ (l : List ℕ). length l) rest_is in omega (arith, same);
  split = rw (rest_is, from_is) refl;
  left = rw (rest_is, from_is) refl;
  performed = none_done refl refl refl;
}

module _ {T : Types} {top block at : ℕ} {bytes : List ℕ} {from to : ℕ} {rest : List ℕ} {old new : StoreState} {volume volume' : Volume}
    (so : StretchesSoFar T top block at bytes from to rest old new volume volume') (part behind : List ℕ) (rest_is : rest ≡ part ++ behind)
    (part_len : length part ≡ min 4096 (length rest)) (some : 0 < length rest) where
  next_counted : part_end to part + length behind ≤ length bytes
  next_counted =
      let sum : length rest ≡ length part + length behind = ap (λ (l : List ℕ). length l) rest_is ∙ length-append part behind in
      let counted = so.counted in
      omega (arith, sum)

  -- a part that is not zeros alone
  pub part_stays : are_zeros part ≡ false → StretchesSoFar T top block at bytes from (part_end to part) behind old new volume volume'
  part_stays full =
      let off = part_off part behind rest rest_is part_len some in
      let same : stretches from to (parts rest) ≡ stretches from (part_end to part) (parts behind) =
      ap (λ (l : List (List ℕ)). stretches from to l) off
      ∙ ap (λ (b : Bool). cond b ((from, to) ∷ stretches (part_end to part) (part_end to part) (parts behind)) (stretches from (part_end to part) (parts
      behind))) full in
      let as_left : is_left_open from to (parts rest) ≡ is_left_open from (part_end to part) (parts behind) =
      ap (λ (l : List (List ℕ)). is_left_open from to l) off
      ∙ ap (λ (b : Bool). cond b (is_left_open (part_end to part) (part_end to part) (parts behind)) (is_left_open from (part_end to part) (parts behind)))
      full in
      record {
        done = so.done;
        counted = next_counted;
        split = ap (λ (l : List (ℕ × ℕ)). so.done ++ l) (sym same) ∙ so.split;
        left = sym as_left ∙ so.left;
        performed = so.performed;
      }

  -- one of zeros ends what is written in one call
  pub part_ends : are_zeros part ≡ true → {types : Types} {folder : ℕ} {last : StoreState} {after : Volume} → types ≡ T → folder ≡ top →
      Performs types folder (IsWritten block (stretch_at at bytes (from, to) ∷ [])) new last volume' after →
      StretchesSoFar T top block at bytes (part_end to part) (part_end to part) behind old last volume after
  part_ends zeros types_are folder_is next =
      let off = part_off part behind rest rest_is part_len some in
      let end = part_end to part in
      let same : stretches from to (parts rest) ≡ (from, to) ∷ stretches end end (parts behind) =
      ap (λ (l : List (List ℕ)). stretches from to l) off
      ∙ ap (λ (b : Bool). cond b ((from, to) ∷ stretches end end (parts behind)) (stretches from end (parts behind))) zeros in
      let as_left : is_left_open from to (parts rest) ≡ is_left_open end end (parts behind) =
      ap (λ (l : List (List ℕ)). is_left_open from to l) off
      ∙ ap (λ (b : Bool). cond b (is_left_open end end (parts behind)) (is_left_open from end (parts behind))) zeros in
      let more = written_more block (map (stretch_at at bytes) so.done) (stretch_at at bytes (from, to) ∷ []) so.performed types_are folder_is next in
      record {
        done = so.done ++ (from, to) ∷ [];
        counted = next_counted;
        split = append_assoc so.done ((from, to) ∷ []) (stretches end end (parts behind))
            ∙ (ap (λ (l : List (ℕ × ℕ)). so.done ++ l) (sym same) ∙ so.split);
        left = sym as_left ∙ so.left;
        performed = by_plan more (λ actions is. is
            ∙ ap (λ (l : List (ℕ × List ℕ)). map (written block) l) (sym (map-append (stretch_at at bytes) so.done ((from, to) ∷ []))));
      }

-- behind the last part

module _ {T : Types} {top block at : ℕ} {bytes : List ℕ} {from to : ℕ} {rest : List ℕ} {old middle : StoreState} {volume between : Volume}
    (so : StretchesSoFar T top block at bytes from to rest old middle volume between) (none : length rest ≡ 0) where
  all_split : map (stretch_at at bytes) so.done ++ stretch_at at bytes (from, to) ∷ [] ≡ piece_stretches at bytes
  all_split =
      let ends : so.done ++ (from, to) ∷ [] ≡ stretches (first_unwritten at) 0 (parts bytes) =
      ap (λ (l : List (List ℕ)). so.done ++ stretches from to l) (sym (no_parts rest none)) ∙ so.split in
      sym (map-append (stretch_at at bytes) so.done ((from, to) ∷ [])) ∙ ap (λ (l : List (ℕ × ℕ)). map (stretch_at at bytes) l) ends

  pub left_open : (from == to) ≡ is_piece_open at bytes
  left_open = ap (λ (l : List (List ℕ)). is_left_open from to l) (sym (no_parts rest none)) ∙ so.left

module _ {T types : Types} {top folder block at : ℕ} {bytes : List ℕ} {from to : ℕ} {rest : List ℕ} {old middle new : StoreState} {volume between volume' :
    Volume}
    (so : StretchesSoFar T top block at bytes from to rest old middle volume between) (types_are : types ≡ T) (folder_is : folder ≡ top) where
  pub all_stretches : length rest ≡ 0 → Performs types folder (IsWritten block (stretch_at at bytes (from, to) ∷ [])) middle new between volume' →
      Performs T top (IsWritten block (piece_stretches at bytes)) old new volume volume'
  all_stretches none next =
      by_plan (written_more block (map (stretch_at at bytes) so.done) (stretch_at at bytes (from, to) ∷ []) so.performed types_are folder_is next)
      (λ actions is. is ∙ ap (λ (l : List (ℕ × List ℕ)). map (written block) l) (all_split so none))

  -- what is written next could not be, with what would have followed
  pub some_stretches : (behind : List (ℕ × ℕ)) → stretches from to (parts rest) ≡ (from, to) ∷ behind →
      Performs types folder (λ actions. (fault : Fault)
      × (actions ≡ writes block (stretch_at at bytes (from, to)).0 (stretch_at at bytes (from, to)).1 (Err fault) ∷ [])) middle new between volume' →
      Performs T top (WritesSome block (piece_stretches at bytes)) old new volume volume'
  some_stretches behind next_is next =
      let all : piece_stretches at bytes ≡ map (stretch_at at bytes) so.done ++ stretch_at at bytes (from, to) ∷ map (stretch_at at bytes) behind =
      ap (λ (l : List (ℕ × ℕ)). map (stretch_at at bytes) l) (sym so.split ∙ ap (λ (l : List (ℕ × ℕ)). so.done ++ l) next_is)
      ∙ map-append (stretch_at at bytes) so.done ((from, to) ∷ behind) in
      both_done so.performed types_are folder_is next (λ before last is failed. (
        map (stretch_at at bytes) so.done,
        stretch_at at bytes (from, to),
        map (stretch_at at bytes) behind,
        failed.0,
        all,
        ap (λ (l : List Action). l ++ last) is ∙ ap (λ (l : List Action). map (written block) (map (stretch_at at bytes) so.done) ++ l) failed.1,
      ))

pub zeros_next : (from to : ℕ) (part behind rest : List ℕ) → rest ≡ part ++ behind → length part ≡ min 4096 (length rest) → 0 < length rest →
    are_zeros part ≡ true → stretches from to (parts rest) ≡ (from, to) ∷ stretches (part_end to part) (part_end to part) (parts behind)
zeros_next from to part behind rest is part_len some zeros =
    let end = part_end to part in
    ap (λ (l : List (List ℕ)). stretches from to l) (part_off part behind rest is part_len some)
    ∙ ap (λ (b : Bool). cond b ((from, to) ∷ stretches end end (parts behind)) (stretches from end (parts behind))) zeros

pub none_next : (from to : ℕ) (rest : List ℕ) → length rest ≡ 0 → stretches from to (parts rest) ≡ (from, to) ∷ []
none_next from to rest none = ap (λ (l : List (List ℕ)). stretches from to l) (no_parts rest none)

-- The zero behind them

pub long_end : (size : ℕ) → 384 < size → end_at size ≡ (size - 1, 0 ∷ []) ∷ []
long_end size long = ap (λ (b : Bool). cond b ((size - 1, 0 ∷ []) ∷ []) []) (lt-ltb 384 size long)

-- The first byte that is written of a piece

pub first_of_file : (at : ℕ) → at ≡ 0 → first_unwritten at ≡ 384
first_of_file zero is = refl
first_of_file (suc n) is = absurd (omega (arith, is))

pub first_later : (at : ℕ) → (at ≡ 0 → ⊥) → first_unwritten at ≡ 0
first_later at is =
    let apart : (at == 0) ≡ false = grind (arith, nat_tests) in
    ap (λ (b : Bool). cond b 384 0) apart
