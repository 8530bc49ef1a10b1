-- Numbers in decimal, without leading zeros, below 2 ^ 16.
use Rattle.std.specs.Prelude.{ℕ, ◌+◌, ◌-◌, ◌*◌, ◌^◌, ◌==◌, ◌&&◌, nat_lt, nat_le, Bool, if◌then◌else◌, List, [], ◌∷◌, Option, Some, None}

abbrev pub is_digit : ℕ → Bool
is_digit byte = nat_le 48 byte && nat_le byte 57

-- a number with one more digit
abbrev pub with_digit : ℕ → ℕ → ℕ
with_digit number digit = 10 * number + (digit - 48)

-- the number so far with the digits that are left, where they are digits and no number gets too large
abbrev pub digits_from : ℕ → List ℕ → Option ℕ
digits_from number [] = Some number
digits_from number (digit ∷ digits) =
    if is_digit digit && nat_lt (with_digit number digit) (2 ^ 16) then digits_from (with_digit number digit) digits else None

-- the number that a text is: `0`, or digits the first of which isn't `0`
abbrev pub number_of : List ℕ → Option ℕ
number_of [] = None
number_of (digit ∷ []) = digits_from 0 (digit ∷ [])
number_of (digit ∷ next ∷ digits) = if digit == 48 then None else digits_from 0 (digit ∷ next ∷ digits)

infixl 10 ◌>>=◌
abbrev pub ◌>>=◌ : {A B : Type 0} → Option A → (A → Option B) → Option B
None >>= f = None
(Some x) >>= f = f x

-- the numbers that texts are, where each is one
abbrev pub numbers_of_all : List (List ℕ) → Option (List ℕ)
numbers_of_all [] = Some []
numbers_of_all (text ∷ texts) = number_of text >>= λ number. numbers_of_all texts >>= λ numbers. Some (number ∷ numbers)
