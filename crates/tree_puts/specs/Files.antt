-- How a regular file gets into a volume: once, and under its other names as links.
--     PutsFileAt         a file is put in the place of what has the name, of which what is kept is forgotten
--     PutsLinkAt         a symbolic link is
--     NotesFile          the number of what was put is kept where it has several names; LacksNote: there was no memory for that
--     PutsRegular        a file is put, its number is kept, and its time is set
--     GetsOther          a file was put under another name, and gets this one too
--     IsPutBefore        that is so, and whether it is
--     PutsOnce           it gets the name where it was put, and else is put
--     PutsBelow          the same, where it can be opened, as the open file tells
use Rattle.std.specs.Prelude.{◌≡◌, ◌⊎◌, ℕ, Bool, IsErr, MatchBool, MatchResult, None, Some, Result, Ok, Err}
use Rattle.tree_lines.specs.declared.fault.Fault.{Fault as LineFault}
use Rattle.tree_puts.specs.Arriving.{PutsFile, PutsLink, SetsTime}
use Rattle.tree_puts.specs.Lines.{Acts, ActsOver, HoldsSame, LineState, Stays}
use Rattle.tree_puts.specs.Linked.{IsUnnoted, Notes, number_kept}
use Rattle.tree_puts.specs.Linking.{GetsName}
use Rattle.tree_puts.specs.declared.arriving.Goods.{Goods}

-- room: how many bytes are read at once
abbrev pub PutsFileAt : {E : Type 0} → Goods → ℕ → Result ℕ E → LineState → LineState → Type 0
PutsFileAt goods room result = ActsOver goods.place.folder goods.place.name.now (PutsFile goods room result)

abbrev pub PutsLinkAt : {E : Type 0} → Goods → Result (Unit {0}) E → LineState → LineState → Type 0
PutsLinkAt goods result = ActsOver goods.place.folder goods.place.name.now (PutsLink goods result)

abbrev pub NotesFile : Goods → ℕ → LineState → LineState → Type 0
NotesFile goods number a b = HoldsSame a b × (b.store ≡ a.store) × (b.volume ≡ a.volume) × (b.told ≡ a.told)
    × Notes goods.attributes.now number a.linked b.linked a.sources b.sources

abbrev pub LacksNote : Goods → ℕ → LineState → LineState → Type 0
LacksNote goods number a b = HoldsSame a b × (b.store ≡ a.store) × (b.volume ≡ a.volume) × (b.told ≡ a.told)
    × IsUnnoted goods.attributes.now number a.linked b.linked a.sources b.sources

abbrev pub SetsItsTime : {E : Type 0} → Goods → ℕ → Result (Unit {0}) E → LineState → LineState → Type 0
SetsItsTime goods number result = Acts (SetsTime number goods.attributes.now.modified result)

abbrev pub PutsRegular : {E : Type 0} → Goods → ℕ → Result (Unit {0}) E → LineState → LineState → Type 0
PutsRegular {E} goods room result a b = (IsErr result × ((fault : E) × PutsFileAt goods room (Err fault) a b))
    ⊎ ((number : ℕ) × (put : LineState) × PutsFileAt {E = E} goods room (Ok number) a put
    × ((IsErr result × LacksNote goods number put b)
    ⊎ ((noted : LineState) × NotesFile goods number put noted × SetsItsTime goods number result noted b)))

-- Once

abbrev pub GetsOther : {E : Type 0} → Goods → Result (Unit {0}) E → LineState → LineState → Type 0
GetsOther goods result a b = (number : ℕ) × (number_kept a.linked goods.attributes.now ≡ Some number) × GetsName goods number result a b

abbrev pub IsNew : Goods → LineState → Type 0
IsNew goods a = number_kept a.linked goods.attributes.now ≡ None

-- nothing is done with the disk itself, which is a fault
abbrev pub IsPutBefore : Goods → Result Bool LineFault → LineState → LineState → Type 0
IsPutBefore goods result a b = MatchResult result
    (λ done. MatchBool done (GetsOther {E = LineFault} goods (Ok tt) a b) (IsNew goods a × Stays a b))
    (λ fault. Stays a b ⊎ GetsOther goods (Err fault) a b)

abbrev pub PutsOnce : {E : Type 0} → Goods → ℕ → Result (Unit {0}) E → LineState → LineState → Type 0
PutsOnce goods room result a b =
    (IsErr result × Stays a b) ⊎ (GetsOther goods result a b ⊎ (IsNew goods a × PutsRegular goods room result a b))

-- at the same place; what the open file tells of itself is what it gets
abbrev pub PutsBelow : {E : Type 0} → Goods → ℕ → Result (Unit {0}) E → LineState → LineState → Type 0
PutsBelow goods room result a b = (IsErr result × Stays a b)
    ⊎ (GetsOther goods result a b
    ⊎ (IsNew goods a × ((opened : Goods) × (between : LineState) × (opened.place ≡ goods.place) × Stays a between
    × PutsRegular opened room result between b)))
