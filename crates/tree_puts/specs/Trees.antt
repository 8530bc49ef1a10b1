-- How a folder of the system gets into a volume with all that is below it, name by name.
--     LacksSpace, IsFull     the volume has no place for more; that is what a fault tells
--     GoesOver, StopsBy      a fault is told, and the line goes on; or it ends by it
--     TellsIfAny             what was done had no fault; or it is told
--     EndsAfter              the line ends by it, or for want of memory
--     IsBelow                goods go to a name of a folder
--     BringsGoods            what the system tells of is brought in
--     Brings                 a name of a folder is
--     below_of               the folder that it is, which is the next to be filled
--     Leaves                 the last folder gets what is set at its end, or the line ends there
--     BringsNext             the next name of the last folder is brought in, or the line ends there
--     StepsOn                the one where no name of it waits, and else the other
--     BringsNames            steps, one after another
--     PutsFolder             a folder is brought in with all below it
use Rattle.std.specs.Prelude.{◌≡◌, ◌⊎◌, ℕ, ◌+◌, ◌-◌, ◌^◌, List, [], ◌∷◌, ◌++◌, IsErr, MatchResult, Option, None, Some, Result, Ok, Err, ⊤}
use Rattle.host_trees.specs.declared.attributes.Kind.TheVariants.{File, Folder, SymbolicLink}
use Rattle.tree_lines.specs.Telling.{EndsLine, Tells}
use Rattle.tree_lines.specs.declared.fault.Fault.{Fault as LineFault}
use Rattle.tree_lines.specs.declared.fault.Fault.TheVariants.{At, NoMemory}
use Rattle.tree_lines.specs.declared.reason.Reason.{Reason}
use Rattle.tree_lines.specs.declared.reason.Reason.TheVariants.{NoNumber, NoSpace}
use Rattle.tree_lines.specs.declared.told.Told.{Told as Faults}
use Rattle.tree_puts.specs.Files.{PutsBelow, PutsLinkAt}
use Rattle.tree_puts.specs.Folders.{Entered, Enters, NotEntered, Settles, entered}
use Rattle.tree_puts.specs.Lines.{LineState, Stays, StaysButTold}
use Rattle.tree_puts.specs.declared.arriving.Goods.{Goods}
use Rattle.tree_puts.specs.declared.tree_in.Frame.{Frame}

-- Faults

abbrev pub LacksSpace : Reason → Type 0
LacksSpace (NoSpace free) = ⊤
LacksSpace NoNumber = ⊤
LacksSpace other = ⊥

abbrev pub IsFull : LineFault → Type 0
IsFull (At path reason) = LacksSpace reason
IsFull other = ⊥

abbrev pub GoesOver : LineFault → Faults → Faults → Type 0
GoesOver fault told told' = (¬ IsFull fault) × (¬ EndsLine fault) × Tells told told' fault

-- the line ends for want of memory too
abbrev pub StopsBy : LineFault → LineFault → Type 0
StopsBy fault last = (last ≡ NoMemory) ⊎ ((last ≡ fault) × (IsFull fault ⊎ EndsLine fault))

abbrev pub TellsIfAny : {A : Type 0} → Result A LineFault → LineState → LineState → Type 0
TellsIfAny (Ok made) a b = Stays a b
TellsIfAny (Err fault) a b = StaysButTold a b × GoesOver fault a.told b.told

abbrev pub EndsAfter : {A : Type 0} → Result A LineFault → LineFault → LineState → LineState → Type 0
EndsAfter (Ok made) last a b = (last ≡ NoMemory) × Stays a b
EndsAfter (Err fault) last a b = StopsBy fault last × StaysButTold a b

-- One name

abbrev pub IsBelow : Goods → ℕ → List ℕ → Type 0
IsBelow goods directory name = (goods.place.folder ≡ directory) × (goods.place.name.now ≡ name)

-- by what the system tells that stands there; nothing is done with what is neither of these
abbrev pub BringsGoods : ℕ → Goods → Result (Option Frame) LineFault → LineState → LineState → Type 0
BringsGoods room goods (Ok (Some frame)) a b = (goods.attributes.now.kind ≡ Folder) × Enters goods (entered frame) a b
BringsGoods room goods (Ok None) a b = ((goods.attributes.now.kind ≡ File) × PutsBelow {E = LineFault} goods room (Ok tt) a b)
    ⊎ ((goods.attributes.now.kind ≡ SymbolicLink) × PutsLinkAt {E = LineFault} goods (Ok tt) a b)
BringsGoods room goods (Err fault) a b = Stays a b
    ⊎ (((goods.attributes.now.kind ≡ Folder) × NotEntered goods fault a b)
    ⊎ (((goods.attributes.now.kind ≡ File) × PutsBelow goods room (Err fault) a b)
    ⊎ ((goods.attributes.now.kind ≡ SymbolicLink) × PutsLinkAt goods (Err fault) a b)))

-- nothing is done where the system tells nothing of the name
abbrev pub Brings : ℕ → ℕ → List ℕ → Result (Option Frame) LineFault → LineState → LineState → Type 0
Brings room directory name result a b = (IsErr result × Stays a b)
    ⊎ ((goods : Goods) × IsBelow goods directory name × BringsGoods room goods result a b)

abbrev pub below_of : Result (Option Frame) LineFault → List Entered
below_of (Ok (Some frame)) = entered frame ∷ []
below_of (Ok None) = []
below_of (Err fault) = []

-- One step

-- the last folder is left, where no name of it waits
abbrev pub Leaves : Entered → Result (Unit {0}) LineFault → LineState → LineState → Type 0
Leaves last (Ok made) a b =
    (done : Result (Unit {0}) LineFault) × (between : LineState) × Settles last done a between × TellsIfAny done between b
Leaves last (Err fault) a b =
    (left : LineFault) × (between : LineState) × Settles last (Err left) a between × StopsBy left fault × StaysButTold between b

-- before: the folders above the last one, of which this is left
abbrev pub BringsNext : ℕ → List Entered → Entered → List ℕ → List Entered → Result (Unit {0}) LineFault → LineState → LineState → Type 0
BringsNext room before rest name frames (Ok made) a b = (done : Result (Option Frame) LineFault) × (between : LineState)
    × Brings room rest.number name done a between × TellsIfAny done between b × (frames ≡ before ++ rest ∷ below_of done)
BringsNext room before rest name frames (Err fault) a b = (done : Result (Option Frame) LineFault) × (between : LineState)
    × Brings room rest.number name done a between × EndsAfter done fault between b

abbrev pub StepsOn : ℕ → List Entered → Entered → List Entered → Result (Unit {0}) LineFault → LineState → LineState → Type 0
StepsOn room before last frames result a b = ((last.waiting ≡ []) × (frames ≡ before) × Leaves last result a b)
    ⊎ ((names : List (List ℕ)) × (name : List ℕ) × (last.waiting ≡ names ++ name ∷ [])
    × BringsNext room before (record last { waiting = names }) name frames result a b)

-- All

pub data BringsNames (room : ℕ) (first : List Entered) (a : LineState) : ℕ → List Entered → LineState → Type 0 where
  none : BringsNames room first a 0 first a
  more : {steps : ℕ} {frames : List Entered} {b : LineState} (before : List Entered) (last : Entered) (between : LineState) →
      BringsNames room first a steps (before ++ last ∷ []) between → StepsOn room before last frames (Ok tt) between b →
      BringsNames room first a (steps + 1) frames b

-- more names than are met in so many steps are in no volume
abbrev pub PutsFolder : ℕ → Entered → Result (Unit {0}) LineFault → LineState → LineState → Type 0
PutsFolder room frame result a b = MatchResult result
    (λ done. (steps : ℕ) × (frames : List Entered) × BringsNames room (frame ∷ []) a steps frames b × ((frames ≡ []) ⊎ (steps ≡ 2 ^ 64 - 1)))
    (λ fault. ((fault ≡ NoMemory) × Stays a b)
    ⊎ ((steps : ℕ) × (before : List Entered) × (last : Entered) × (between : LineState)
    × (behind : List Entered)
    × BringsNames room (frame ∷ []) a steps (before ++ last ∷ []) between × StepsOn room before last behind (Err fault) between b))
