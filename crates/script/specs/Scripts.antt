-- The text of a script.
use Rattle.std.specs.Prelude.{◌≡◌, ◌<◌, ◌⊎◌, ⊤, ℕ, ◌+◌, ◌==◌, Bool, true, false, not, List, [], ◌∷◌, length, filter, Option, Some, None}
use Rattle.std.specs.List.{AllZip, slice_split, slice_index_or}
use Rattle.xn_state.specs.declared.event.Event.{Event}
use Rattle.script.specs.declared.fault.ScriptFault.{ScriptFault}
use Rattle.script.specs.declared.fault.ScriptFault.TheVariants.{Unreadable, NoMemory}
use Rattle.script.specs.Events.{Spells, SpellNothing}

-- the lines of a text, which is split at each newline
abbrev pub lines_of : List ℕ → List (List ℕ)
lines_of text = slice_split (λ byte. byte == 10) text

-- the words of a line, which is split at each space
abbrev pub line_words : List ℕ → List (List ℕ)
line_words line = slice_split (λ byte. byte == 32) line

-- the words of a text, or none where there is no text
abbrev pub words_in : Option (List ℕ) → List (List ℕ)
words_in None = []
words_in (Some text) = line_words text

-- an empty line, or one that begins with `#`
abbrev pub is_passed_over : List ℕ → Bool
is_passed_over [] = true
is_passed_over (byte ∷ line) = byte == 35

abbrev pub LineSpells : List ℕ → Event → Type 0
LineSpells line event = Spells (line_words line) event

-- a line that spells an event
abbrev pub SpellsSome : List ℕ → Type 0
SpellsSome line = (event : Event) × LineSpells line event

-- these lines spell these events, one a line, in order
abbrev pub AllSpell : List (List ℕ) → List Event → Type 0
AllSpell lines events = AllZip LineSpells lines events

-- these lines spell some events
abbrev pub SpellEvents : List (List ℕ) → Type 0
SpellEvents lines = (events : List Event) × AllSpell lines events

-- the lines that aren't passed over
abbrev pub event_lines : List ℕ → List (List ℕ)
event_lines text = filter (λ line. not (is_passed_over line)) (lines_of text)

-- those lines spell these events
abbrev pub IsScript : List ℕ → List Event → Type 0
IsScript text events = AllSpell (event_lines text) events

-- a line that is passed over or spells an event
abbrev pub IsReadable : List ℕ → Type 0
IsReadable line = (is_passed_over line ≡ true) ⊎ SpellsSome line

-- a line that is neither
pub record IsUnreadable (line : List ℕ) : Type 0 where
  pub read : is_passed_over line ≡ false
  pub no_event : SpellNothing (line_words line)

-- the first line that is neither has this number, from 1
pub record IsFirstUnreadable (text : List ℕ) (number : ℕ) : Type 0 where
  pub place : ℕ
  pub counted : number ≡ place + 1
  pub within : place < length (lines_of text)
  pub unreadable : IsUnreadable (slice_index_or (lines_of text) place [])
  pub before : (k : ℕ) → k < place → IsReadable (slice_index_or (lines_of text) k [])

-- why the text is no script, or want of memory
abbrev pub IsScriptFault : List ℕ → ScriptFault → Type 0
IsScriptFault text (Unreadable line) = IsFirstUnreadable text line
IsScriptFault text NoMemory = ⊤
