-- What is left of the search for a free place, from a level on.
use Rattle.std.proofs.Common.{◌≡◌, ℕ, ◌+◌, ◌<◌, ◌≤◌, Bool, true, false, List, None, Result, refl, sym, ◌∙◌, ap}
use Rattle.std.specs.Prelude.{◌||◌, Option}
use Rattle.std.specs.List.{list_any}
use Rattle.std.specs.Option.{ok_or, option_or}
use Rattle.xn_model.specs.Lives.{StoreState}
use Rattle.treefs_format.specs.Candidates.{candidate}
use Rattle.treefs_model.specs.Reading.{bucket_of}
use Rattle.treefs_model.specs.declared.fault.Fault.{Fault}
use Rattle.treefs_lookup.specs.Names.{first_some, fits_without, free_place, room_at, way_fault}
use Rattle.treefs_lookup.specs.Readable.{readable}
use Rattle.treefs_lookup.specs.declared.places.NamePlace.{NamePlace}
use Rattle.treefs_lookup.proofs.Candidates.{any_more, any_none, first_more, later, later_first, no_more}

abbrev pub way_at : StoreState → ℕ → ℕ → List ℕ → ℕ → Bool
way_at state fs inode name bucket = fits_without (bucket_of (readable state fs) inode bucket) name

unfoldable pub place_left : StoreState → ℕ → ℕ → ℕ → List ℕ → Option NamePlace → Bool → ℕ → Result NamePlace Fault
place_left state fs hash inode name room in_the_way level =
    ok_or (option_or room (first_some (room_at state fs inode name) (later hash level))) (way_fault (in_the_way || list_any (way_at state fs inode name) (later hash level)))

or_later : (a b c : Bool) → (a || (b || c)) ≡ ((a || b) || c)
or_later true b c = refl
or_later false b c = refl

or_none : (a : Bool) → (a || false) ≡ a
or_none true = refl
or_none false = refl

module _ (state : StoreState) (fs hash inode : ℕ) (name : List ℕ) where
  pub left_first : free_place state fs hash inode name ≡ place_left state fs hash inode name None false 0
  unfolding free_place place_left
  left_first = ap (λ l. ok_or (first_some (room_at state fs inode name) l) (way_fault (list_any (way_at state fs inode name) l))) (sym (later_first hash))

  module _ (room : Option NamePlace) (way : Bool) (level : ℕ) where
    pub left_later : level < 9 → place_left state fs hash inode name room way level
        ≡ place_left state fs hash inode name (option_or room (room_at state fs inode name (candidate hash level))) (way || way_at state fs inode name (candidate hash level)) (level + 1)
    unfolding place_left
    left_later lt =
        let rest = list_any (way_at state fs inode name) (later hash (level + 1)) in
        ap (λ o. ok_or o (way_fault (way || list_any (way_at state fs inode name) (later hash level)))) (first_more (room_at state fs inode name) hash level room lt)
        ∙ ap (λ b. ok_or (option_or (option_or room (room_at state fs inode name (candidate hash level))) (first_some (room_at state fs inode name) (later hash (level + 1)))) (way_fault b))
        (ap (λ b. way || b) (any_more (way_at state fs inode name) hash level lt) ∙ or_later way (way_at state fs inode name (candidate hash level)) rest)

    pub left_none : 9 ≤ level → place_left state fs hash inode name room way level ≡ ok_or room (way_fault way)
    unfolding place_left
    left_none ge =
        ap (λ o. ok_or o (way_fault (way || list_any (way_at state fs inode name) (later hash level)))) (no_more (room_at state fs inode name) hash level room ge)
        ∙ ap (λ b. ok_or room (way_fault b)) (ap (λ b. way || b) (any_none (way_at state fs inode name) hash level ge) ∙ or_none way)
