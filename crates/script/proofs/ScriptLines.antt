-- The lines of a script, read one after another.
use Rattle.std.proofs.Common.{◌≡◌, ℕ, ◌+◌, ◌<◌, ◌≤◌, true, false, not, eqb, Option, Some, None, List, [], ◌∷◌, ◌++◌, length, take, get_or, refl, sym, ◌∙◌, ap, arith, inl, inr, below_more}
use Rattle.std.specs.List.{filter, enumerate_from}
use Rattle.std.specs.Borrow.{Bor}
use Rattle.std.specs.Option.{MatchOption}
use Rattle.std.proofs.lemmas.List.{take_more, take_all, append-nil, get_or_default}
use Rattle.std.proofs.lemmas.List.Elements.{filter-append}
use Rattle.std.proofs.lemmas.List.FromFn.{get_or-enumerate_from, length-enumerate_from}
use Rattle.std.proofs.lemmas.List.Splits.{slice_split_first, slice_split_none}
use Rattle.std.proofs.lemmas.List.Sums.{fails_before_first}
use Rattle.std.proofs.lemmas.Str.Pattern.{IsSplitOnceResult, split_once_first}
use Rattle.script.specs.Events.{SpellNothing}
use Rattle.script.proofs.WordLists.{zip_push}
use Rattle.script.specs.Scripts.{is_passed_over, line_words, lines_of, event_lines, LineSpells, SpellEvents, SpellsSome, IsReadable, IsFirstUnreadable}

-- the first word of a text, and those behind it
pub first_cut : (text : List ℕ) (cut : Option (Bor (List ℕ) × Bor (List ℕ))) → IsSplitOnceResult 32 text cut →
    MatchOption cut (line_words text ≡ text ∷ []) (λ parts. line_words text ≡ parts.0.now ∷ line_words parts.1.now)
first_cut text None cut =
    let whole = split_once_first 32 text None cut (omega arith) in
    slice_split_none (λ b. eqb b 32) text (λ k d h. fails_before_first (λ b. eqb b 32) text k d (omega (arith, whole, h)))
first_cut text (Some parts) cut =
    let at = split_once_first 32 text (Some parts) cut (omega arith) in
    rw (at.1, at.2) (slice_split_first (λ b. eqb b 32) text 0 at.0)

-- a line with its place, of the lines that are counted from 0
pub record IsLineAt (lines : List (List ℕ)) (n place : ℕ) (line : List ℕ) : Type 0 where
  pub within : n < length lines
  pub counted : place ≡ n
  pub at : get_or lines n [] ≡ line

pub line_at : (lines : List (List ℕ)) (n place : ℕ) (line : List ℕ) →
    (n < length (enumerate_from 0 lines)) × ((place, line) ≡ get_or (enumerate_from 0 lines) n (place, line)) → IsLineAt lines n place line
line_at lines n place line turn =
    let within : n < length lines = omega (arith, turn.0, length-enumerate_from 0 lines) in
    let pair = turn.1 ∙ get_or-enumerate_from 0 lines n (place, line) within in
    record {
      within = within;
      counted = let same = ap (λ p. p.0) pair in omega (arith, same);
      at = get_or_default lines n [] line within ∙ sym (ap (λ p. p.1) pair);
    }

-- of the lines before this place these are not passed over, each of them spells an event, and none is unreadable
pub record IsReadTo (lines : List (List ℕ)) (place : ℕ) (kept : List (List ℕ)) : Type 0 where
  pub spelled : SpellEvents kept
  pub all : kept ≡ filter (λ line. not (is_passed_over line)) (take place lines)
  pub before : (k : ℕ) → k < place → IsReadable (get_or lines k [])

pub none_read : (lines : List (List ℕ)) → IsReadTo lines 0 []
none_read lines = record { spelled = ([], tt); all = refl; before = λ k h. absurd (omega arith) }

filtered_more : (lines : List (List ℕ)) (place : ℕ) → place < length lines →
    filter (λ line. not (is_passed_over line)) (take (place + 1) lines)
    ≡ filter (λ line. not (is_passed_over line)) (take place lines) ++ filter (λ line. not (is_passed_over line)) (get_or lines place [] ∷ [])
filtered_more lines place within =
    ap (filter (λ line. not (is_passed_over line))) (take_more lines place [] within) ∙ filter-append (λ line. not (is_passed_over line)) (take place lines) (get_or lines place [] ∷ [])

-- one more line, which is passed over
pub passed_over : (lines : List (List ℕ)) (place : ℕ) (kept : List (List ℕ)) → place < length lines → is_passed_over (get_or lines place []) ≡ true →
    IsReadTo lines place kept → IsReadTo lines (place + 1) kept
passed_over lines place kept within passed so_far =
    let none : filter (λ line. not (is_passed_over line)) (get_or lines place [] ∷ []) ≡ [] = rw passed refl in
    let same : filter (λ line. not (is_passed_over line)) (take (place + 1) lines) ≡ filter (λ line. not (is_passed_over line)) (take place lines) =
    filtered_more lines place within ∙ (ap (λ more. filter (λ line. not (is_passed_over line)) (take place lines) ++ more) none ∙ append-nil (filter (λ line. not (is_passed_over line)) (take place lines))) in
    record {
      spelled = so_far.spelled;
      all = so_far.all ∙ sym same;
      before = below_more (λ k. IsReadable (get_or lines k [])) place so_far.before (inl passed);
    }

-- one more line, which spells an event
pub spelled_more : (lines : List (List ℕ)) (place : ℕ) (kept more : List (List ℕ)) → place < length lines → is_passed_over (get_or lines place []) ≡ false →
    SpellsSome (get_or lines place []) → more ≡ kept ++ get_or lines place [] ∷ [] → IsReadTo lines place kept → IsReadTo lines (place + 1) more
spelled_more lines place kept more within read spells pushed so_far =
    let one : filter (λ line. not (is_passed_over line)) (get_or lines place [] ∷ []) ≡ get_or lines place [] ∷ [] = rw read refl in
    let same : filter (λ line. not (is_passed_over line)) (take (place + 1) lines) ≡ filter (λ line. not (is_passed_over line)) (take place lines) ++ get_or lines place [] ∷ [] =
    filtered_more lines place within ∙ ap (λ next. filter (λ line. not (is_passed_over line)) (take place lines) ++ next) one in
    let events = so_far.spelled.0 in
    record {
      spelled = (events ++ spells.0 ∷ [], rw pushed (zip_push LineSpells kept events (get_or lines place []) spells.0 so_far.spelled.1 spells.1));
      all = pushed ∙ (ap (λ before. before ++ get_or lines place [] ∷ []) so_far.all ∙ sym same);
      before = below_more (λ k. IsReadable (get_or lines k [])) place so_far.before (inr spells);
    }

-- after the last line
pub all_read : (text : List ℕ) (place : ℕ) (kept : List (List ℕ)) → place ≡ length (enumerate_from 0 (lines_of text)) → IsReadTo (lines_of text) place kept → kept ≡ event_lines text
all_read text place kept last so_far =
    let past : length (lines_of text) ≤ place = omega (arith, last, length-enumerate_from 0 (lines_of text)) in
    so_far.all ∙ ap (filter (λ line. not (is_passed_over line))) (take_all place (lines_of text) past)

-- at the first line that is unreadable
pub first_unreadable : (text : List ℕ) (place number : ℕ) (kept : List (List ℕ)) → place < length (lines_of text) → number ≡ place + 1 →
    is_passed_over (get_or (lines_of text) place []) ≡ false → SpellNothing (line_words (get_or (lines_of text) place [])) → IsReadTo (lines_of text) place kept → IsFirstUnreadable text number
first_unreadable text place number kept within counted read none so_far = record {
  place = place;
  counted = counted;
  within = within;
  unreadable = record { read = read; no_event = none };
  before = so_far.before;
}
