-- The intervals of the registers after each part of a program, or the first fault.
use Rattle.std.specs.Prelude.{ℕ, ◌+◌, ◌-◌, ◌*◌, ◌/◌, ◌^◌, min, Bool, nat_le, ◌==◌, ◌||◌, ◌&&◌, true, false, not, if◌then◌else◌, List, [], ◌∷◌, length, Result}
use Rattle.std.specs.Prelude.{Ok, Err, Option, Some, None, slice_set, slice_index_or, replicate}
use Rattle.udf_code.specs.declared.word.Word.{Word}
use Rattle.udf_code.specs.declared.word.Word.TheVariants.{Set, Mov, Add, Sub, Mul, Div, Rem, And, Shr, Load1, Load2, Load4, Emit}
use Rattle.udf_code.specs.Words.{destination}
use Rattle.udf_code.specs.Tree.{Test, Claim, Tree, Stop, Plain, If, IfElse, Loop, words_of, writes}
use Rattle.udf_verify.specs.declared.fault.Role.{Role}
use Rattle.udf_verify.specs.declared.fault.Role.TheVariants as role
use Rattle.udf_verify.specs.declared.fault.FaultKind.{FaultKind}
use Rattle.udf_verify.specs.declared.fault.FaultKind.TheVariants as kind
use Rattle.udf_verify.specs.declared.fault.VerifyFault.{VerifyFault}
use Rattle.udf_verify.specs.Intervals.{Interval}
use Rattle.udf_verify.specs.Intervals.{between, largest, full, interval_of, low_of, high_of, is_empty_interval, merge, widen, first_a, first_b, other_a, other_b}

infixl 10 ◌>>=◌
abbrev pub ◌>>=◌ : {A B E : Type 0} → Result A E → (A → Result B E) → Result B E
(Ok x) >>= f = f x
(Err e) >>= f = Err e

-- what holds where a demand is met, else its kind of fault
abbrev pub demand : {A : Type 0} → Bool → FaultKind → A → Result A FaultKind
demand met kind x = if met then Ok x else Err kind

-- the fault stands at this word
abbrev pub placed : {A : Type 0} → ℕ → Result A FaultKind → Result A VerifyFault
placed at (Ok x) = Ok x
placed at (Err kind) = Err (record { at = at; kind = kind })

abbrev pub emits_allowed : Role → Bool
emits_allowed role.Owns = true
emits_allowed role.Size = false

-- the row of a plain word
abbrev pub plain_row : Role → Word → List Interval → Result (List Interval) FaultKind
plain_row role (Set a n) ivs = Ok (slice_set ivs a (between n n))
plain_row role (Mov a b) ivs = Ok (slice_set ivs a (interval_of ivs b))
plain_row role (Add a b c) ivs = demand (nat_le (high_of ivs b + high_of ivs c) largest) kind.Sum
    (slice_set ivs a (between (low_of ivs b + low_of ivs c) (high_of ivs b + high_of ivs c)))
plain_row role (Sub a b c) ivs = demand (nat_le (high_of ivs c) (low_of ivs b)) kind.Difference
    (slice_set ivs a (between (low_of ivs b - high_of ivs c) (high_of ivs b - low_of ivs c)))
plain_row role (Mul a b c) ivs = demand (nat_le (high_of ivs b * high_of ivs c) largest) kind.Product
    (slice_set ivs a (between (low_of ivs b * low_of ivs c) (high_of ivs b * high_of ivs c)))
plain_row role (Div a b c) ivs = demand (nat_le 1 (low_of ivs c)) kind.Divisor
    (slice_set ivs a (between (low_of ivs b / high_of ivs c) (high_of ivs b / low_of ivs c)))
plain_row role (Rem a b c) ivs = demand (nat_le 1 (low_of ivs c)) kind.Divisor (slice_set ivs a (between 0 (min (high_of ivs b) (high_of ivs c - 1))))
plain_row role (And a b c) ivs = Ok (slice_set ivs a (between 0 (min (high_of ivs b) (high_of ivs c))))
plain_row role (Shr a b k) ivs = Ok (slice_set ivs a (between (low_of ivs b / 2 ^ k) (high_of ivs b / 2 ^ k)))
plain_row role (Load1 a b) ivs = demand (nat_le (high_of ivs b) 511) kind.Load (slice_set ivs a (between 0 255))
plain_row role (Load2 a b) ivs = demand (nat_le (high_of ivs b) 510) kind.Load (slice_set ivs a (between 0 65535))
plain_row role (Load4 a b) ivs = demand (nat_le (high_of ivs b) 508) kind.Load (slice_set ivs a full)
plain_row role (Emit a b) ivs = demand (emits_allowed role) kind.Emits ivs
plain_row role word ivs = Ok ivs

-- is it one of these registers?
abbrev pub is_among : List Bool → Option ℕ → Bool
is_among registers None = false
is_among registers (Some r) = slice_index_or registers r false

-- no register
abbrev pub no_register : List Bool
no_register = replicate 16 false

-- a word that writes the counter of a FOR round it is a fault, before any other at that word
abbrev pub unless_counter : {A : Type 0} → List Bool → Word → Result A FaultKind → Result A FaultKind
unless_counter counters word row = if is_among counters (destination word) then Err kind.Counter else row

-- the intervals where a test holds, and where it does not
pub record Split : Type 0 where
  pub first : List Interval
  pub other : List Interval

abbrev pub with_two : List Interval → ℕ → Interval → ℕ → Interval → List Interval
with_two ivs a i b j = slice_set (slice_set ivs a i) b j

abbrev pub one_is_empty : Interval → Interval → Bool
one_is_empty i j = is_empty_interval i || is_empty_interval j

abbrev pub split_row : Test → ℕ → ℕ → List Interval → Result Split FaultKind
split_row test a b ivs =
    let i = interval_of ivs a in
    let j = interval_of ivs b in
    if a == b then Err kind.SameRegister
    else (if one_is_empty (first_a test i j) (first_b test i j) || one_is_empty (other_a test i j) (other_b test i j) then Err kind.DeadBranch
    else Ok (record { first = with_two ivs a (first_a test i j) b (first_b test i j); other = with_two ivs a (other_a test i j) b (other_b test i j) }))

-- the claims of a FOR hold when it is reached: none is of its counter, none is made twice
abbrev pub claims_row : ℕ → List Bool → List Claim → List Interval → Result (Unit {0}) VerifyFault
claims_row at taken [] ivs = Ok (tt {0})
claims_row at taken (claim ∷ claims) ivs = do
  _ ← placed at (demand (not (slice_index_or taken claim.register false) && nat_le (high_of ivs claim.register) claim.most) kind.Keep (tt {0}))
  claims_row (at + 1) (slice_set taken claim.register true) claims ivs

-- the claims hold again at the end of a turn
abbrev pub are_kept : List Claim → List Interval → Bool
are_kept [] ivs = true
are_kept (claim ∷ claims) ivs = nat_le (high_of ivs claim.register) claim.most && are_kept claims ivs

abbrev pub claimed : List Claim → List Interval → List Interval
claimed [] ivs = ivs
claimed (claim ∷ claims) ivs = claimed claims (slice_set ivs claim.register (between 0 claim.most))

-- what is known at every turn's start: claims, nothing of what the body writes, and the rest as before
abbrev pub in_loop : ℕ → Interval → List Claim → Tree → List Interval → List Interval
in_loop a counter claims body ivs = slice_set (claimed claims (widen (writes body) 0 ivs)) a counter

abbrev pub size : Tree → ℕ
size tree = length (words_of tree)

-- The intervals after the block whose first word is word number at, in FORs with these counters, or the first fault.
abbrev pub bounds : Role → List Bool → ℕ → Tree → List Interval → Result (List Interval) VerifyFault
bounds role counters at Stop ivs = Ok ivs
bounds role counters at (Plain word rest) ivs = do
  after ← placed at (unless_counter counters word (plain_row role word ivs))
  bounds role counters (at + 1) rest after
bounds role counters at (If test a b first rest) ivs = do
  split ← placed at (split_row test a b ivs)
  after ← bounds role counters (at + 1) first split.first
  bounds role counters (at + 1 + size first + 1) rest (merge after split.other)
bounds role counters at (IfElse test a b first other rest) ivs = do
  split ← placed at (split_row test a b ivs)
  after_first ← bounds role counters (at + 1) first split.first
  after_other ← bounds role counters (at + 1 + size first + 1) other split.other
  bounds role counters (at + 1 + size first + 1 + size other + 1) rest (merge after_first after_other)
bounds role counters at (Loop a n claims body rest) ivs = do
  _ ← placed at (demand (not (slice_index_or counters a false)) kind.Counter (tt {0}))
  _ ← claims_row (at + 1) (slice_set no_register a true) claims ivs
  after ← bounds role (slice_set counters a true) (at + 1 + length claims) body (in_loop a (between 0 (n - 1)) claims body ivs)
  _ ← placed (at + 1 + length claims + size body) (demand (are_kept claims after) kind.Keep (tt {0}))
  bounds role counters (at + 1 + length claims + size body + 1) rest (in_loop a (between (n - 1) (n - 1)) claims body ivs)
