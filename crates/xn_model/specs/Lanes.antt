-- The lanes of a kernel against its lives, and against an image. Of a lane, read says what its block holds.
--     FitLives read lanes lives      a lane that is here holds what is durable, and a lane is away exactly while its block's write is begun
--     HoldImage read lanes image     each lane is here, and holds its block of the image
use Rattle.std.specs.Prelude.{◌≡◌, ℕ, List, Option, Some, None, IfSome, IsSome, ⊤}
use Rattle.std.specs.List.{AllZip}
use Rattle.xn_model.specs.Lives.{Life, Lives}

-- at one place
abbrev pub FitsLife : {L : Type 0} → (L → List ℕ) → Option L → Option Life → Type 0
FitsLife read (Some lane) None = ⊤
FitsLife read (Some lane) (Some life) = (life.begun ≡ None) × IfSome life.durable (λ s. read lane ≡ s.bytes)
FitsLife read None None = ⊥
FitsLife read None (Some life) = IsSome life.begun

abbrev pub FitLives : {L : Type 0} → (L → List ℕ) → List (Option L) → Lives → Type 0
FitLives read lanes lives = AllZip (FitsLife read) lanes lives

-- at one place
abbrev pub HoldsBlock : {L : Type 0} → (L → List ℕ) → Option L → List ℕ → Type 0
HoldsBlock read (Some lane) bytes = read lane ≡ bytes
HoldsBlock read None bytes = ⊥

abbrev pub HoldImage : {L : Type 0} → (L → List ℕ) → List (Option L) → List (List ℕ) → Type 0
HoldImage read lanes image = AllZip (HoldsBlock read) lanes image
