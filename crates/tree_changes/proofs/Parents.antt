-- The folders of a path, one front after another.
use Rattle.std.proofs.Common.{◌≡◌, ◌∙◌, ℕ, ◌+◌, ◌-◌, ◌<◌, true, List, [], ◌∷◌, ◌++◌, length, take, drop, Result, Ok, Err}
use Rattle.std.proofs.Common.{ap, arith, length-append, subst, sym}
use Rattle.std.specs.Prelude.{◌==◌, slice_range}
use Rattle.std.proofs.lemmas.Bool.Decides.{nat_tests}
use Rattle.xn_model.specs.Lives.{StoreState}
use Rattle.xn_model.specs.Types.{Types}
use Rattle.tree_lines.specs.Values.{Volume}
use Rattle.tree_changes.specs.Making.{HasFolder, HasFolders, IsUnmade, LacksFolders, MakesFolder, fronts, fronts_below}
use Rattle.tree_changes.specs.Paths.{AtPath, DoesAll}
use Rattle.tree_changes.proofs.Along.{last_answered, one_more_done, stops_at}
use Rattle.tree_changes.proofs.Fronts.{IsByteAt, ends_front, ends_none, front_behind, front_more, front_none}

front_is : (path front : List ℕ) (n end : ℕ) → end ≡ n → front ≡ slice_range path 0 end → front ≡ take n path
front_is path front n end at is = let size : end - 0 ≡ n = omega (arith, at) in is ∙ ap (λ (k : ℕ). take k (drop 0 path)) size

is_zero : (n : ℕ) → true ≡ (n == 0) → n ≡ 0
is_zero n is = grind (arith, nat_tests)

-- T, top: of the types and the folder that stay
module _ (T types : Types) (top folder : ℕ) (types_are : types ≡ T) (folder_is : folder ≡ top) (path : List ℕ) (old middle new : StoreState)
    (volume between volume' : Volume) where
  module _ (n next end byte : ℕ) (next_is : next ≡ n + 1) (met : IsByteAt path n end byte)
      (all : DoesAll (HasFolder T top) (fronts_below path n) old middle volume between) where
    pub front_done : (front : List ℕ) → byte ≡ 47 → 0 < end → front ≡ slice_range path 0 end → HasFolder types folder front middle new between volume' →
        DoesAll (HasFolder T top) (fronts_below path next) old new volume volume'
    front_done front slash some is made =
        let at = subst (λ (p : List ℕ). HasFolder types folder p middle new between volume') (front_is path front n end met.counted is) made in
        let more = one_more_done HasFolder IsUnmade T types top folder types_are folder_is (fronts_below path n) (take n path) old middle new volume between
        volume' all at in
        let ends = ends_front path n end byte met slash some in
        subst (λ (m : ℕ). DoesAll (HasFolder T top) (fronts_below path m) old new volume volume') (sym next_is)
        (subst (λ (l : List (List ℕ)). DoesAll (HasFolder T top) l old new volume volume') (sym (front_more path n ends)) more)

    pub front_stops : (front : List ℕ) → byte ≡ 47 → 0 < end → front ≡ slice_range path 0 end → IsUnmade types folder front middle new between volume' →
        LacksFolders T top path old new volume volume'
    front_stops front slash some is left =
        let at = subst (λ (p : List ℕ). IsUnmade types folder p middle new between volume') (front_is path front n end met.counted is) left in
        let behind = front_behind path n met.within (ends_front path n end byte met slash some) in
        stops_at HasFolder IsUnmade T types top folder types_are folder_is (fronts_below path n) (take n path) old middle new volume between volume' all
        (fronts path ++ path ∷ []) behind.0 behind.1 at

    pub passed_byte : (byte ≡ 47 → end ≡ 0) → DoesAll (HasFolder T top) (fronts_below path next) old middle volume between
    passed_byte none =
        let same = ap (λ (m : ℕ). fronts_below path m) next_is ∙ front_none path n (ends_none path n end byte met none) in
        subst (λ (l : List (List ℕ)). DoesAll (HasFolder T top) l old middle volume between) (sym same) all

  module _ (n : ℕ) (fronts_are : fronts_below path n ≡ fronts path) (all : DoesAll (HasFolder T top) (fronts_below path n) old middle volume between) where
    all_so : DoesAll (HasFolder T top) (fronts path) old middle volume between
    all_so = subst (λ (l : List (List ℕ)). DoesAll (HasFolder T top) l old middle volume between) fronts_are all

    pub path_answered : {E : Type 0} (result : Result (Unit {0}) E) →
        AtPath (HasFolder types folder) (IsUnmade types folder) path middle new between volume' result →
        AtPath (HasFolders T top) (LacksFolders T top) path old new volume volume' result
    path_answered {E} result at =
        last_answered HasFolder IsUnmade T types top folder types_are folder_is (fronts path) path old middle new volume between volume' all_so {E = E} result at

    -- the empty path has no name
    pub empty_answered : {E : Type 0} (result : Result (Unit {0}) E) → true ≡ (length path == 0) →
        AtPath (MakesFolder types folder) (IsUnmade types folder) path middle new between volume' result →
        AtPath (HasFolders T top) (LacksFolders T top) path old new volume volume' result
    empty_answered {E} (Ok done) none made =
        let empty = is_zero (length path) none in
        let place = made.1.4 in
        let whole = ap (λ (l : List ℕ). length l) place.parted.whole in
        let parts = length-append place.before (made.1.1 ++ place.behind) in
        let name = length-append made.1.1 place.behind in
        absurd (omega (arith, empty, whole, parts, name, place.some))
    empty_answered {E} (Err fault) none at =
        last_answered HasFolder IsUnmade T types top folder types_are folder_is (fronts path) path old middle new volume between volume' all_so {E = E}
        (Err fault) at
